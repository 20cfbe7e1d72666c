-- A module whose bytes are tokens or refused, and whose tokens have a tree or are refused, is a typed program or is refused.
use Rattle.std.proofs.Common.{◌⊎◌, inl, inr, ℕ, List, [], ◌∷◌, refl}
use Rattle.arc_base.specs.declared.place.Place.{Place}
use Rattle.arc_base.specs.declared.place.Code.{Code}
use Rattle.indent_scanner.specs.declared.token.Token.{Token}
use Rattle.indent_scanner.specs.Tokens.{Tokens}
use Rattle.indent_scanner.specs.Tokens.{IsRefused as IsRefusedByBytes}
use Rattle.nim_tree.specs.Statements.{Statements}
use Rattle.nim_program.specs.Program.{Program}
use Rattle.parse_stmts.specs.Total.{Decided, is_tree, is_refused}
use Rattle.decl_rules.specs.Laws.{EachProgram, HasProgram, HasNone}
use Rattle.source_compiler.specs.Source.{main_module, IsTree, lone, ReadsAlone, RefusesAlone, by_bytes, by_tokens, by_rules, Module}
use Rattle.source_compiler.proofs.Taking.{IsReadOrRefused}

-- the bytes are tokens, or refused
abbrev pub HasTokens : List ℕ → Type 0
HasTokens source = ((tokens : List Token) × Tokens source tokens) ⊎ ((code : Code) × (at : Place) × IsRefusedByBytes source 0 code at)

-- it is a program, or refused
abbrev pub IsDecided : List ℕ → Type 0
IsDecided source = ((program : Program) × ReadsAlone source program) ⊎ ((code : Code) × (at : Place) × RefusesAlone source code at)

module _ (each : EachProgram) (source : List ℕ) where
  by_typing : (tokens : List Token) (tree : Statements) → IsTree source tokens tree → HasProgram [] (lone tree) ⊎ HasNone (lone tree) → IsDecided source
  by_typing tokens tree is (inl typed) = inl (typed.0, record { tokens = tokens; tree = tree; is_tree = is; typed = typed.1 })
  by_typing tokens tree is (inr refused) = inr (refused.0, refused.1, by_rules tokens tree is refused.2)

  by_parse : (tokens : List Token) → Tokens source tokens → Decided (main_module source) tokens → IsDecided source
  by_parse tokens scanned (is_tree {tree} parsed few) = by_typing tokens tree (record { scanned = scanned; parsed = parsed; few = few }) (each [] (lone tree))
  by_parse tokens scanned (is_refused code at refused) = inr (code, at, by_tokens tokens scanned refused)

  pub decided : HasTokens source → ((tokens : List Token) → Decided (main_module source) tokens) → IsDecided source
  decided (inl t) tree = by_parse t.0 t.1 (tree t.0)
  decided (inr r) tree = inr (r.0, r.1, by_bytes r.2)

-- the same of a list of one module
pub lone_decided : (main : Module) → IsDecided main.source → IsReadOrRefused (main ∷ [])
lone_decided main (inl t) = inl (t.0, record { main = main; only = refl; reads = t.1 })
lone_decided main (inr r) = inr (r.0, r.1, record { main = main; only = refl; refuses = r.2 })
