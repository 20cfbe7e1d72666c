-- A source is one typed program at most, and never both a program and refused.
use Rattle.std.proofs.Common.{◌≡◌, ℕ, List, [], ◌∷◌, refl, sym, subst}
use Rattle.arc_base.specs.declared.place.Place.{Place}
use Rattle.arc_base.specs.declared.place.Code.{Code}
use Rattle.indent_scanner.specs.declared.token.Token.{Token}
use Rattle.indent_scanner.specs.Tokens.{Tokens}
use Rattle.indent_scanner.proofs.ForCallers.{once, apart, refused_once as bytes_refused_once}
use Rattle.nim_tree.specs.Statements.{Statements}
use Rattle.nim_program.specs.Program.{Program}
use Rattle.parse_stmts.specs.Grammar.{IsModule}
use Rattle.parse_stmts.specs.Parsed.{IsRefused}
use Rattle.parse_stmts.proofs.ForCallers.{module_once, module_stands, refused_once as tokens_refused_once}
use Rattle.decl_rules.specs.ProgramRules.{IsProgram as AreTyped, IsNoProgram as AreNotTyped}
use Rattle.decl_rules.specs.Laws.{OneProgram, OneReason, NeverBoth}
use Rattle.source_compiler.specs.Source.{main_module, IsTree, lone, ReadsAlone, RefusesAlone, by_bytes, by_tokens, by_rules, Module, alone, Reads, Refuses}

-- what is said of typed programs
pub record Rules : Type 0 where
  pub program : OneProgram
  pub refusal : OneReason
  pub apart : NeverBoth

pub rules_are : OneProgram → OneReason → NeverBoth → Rules
rules_are program refusal apart = record { program = program; refusal = refusal; apart = apart }

-- ---- trees

one_tree : (source : List ℕ) (tokens others : List Token) (tree other : Statements) → IsTree source tokens tree → IsTree source others other → tree ≡ other
one_tree source tokens others tree other t u =
    let same = once source others tokens u.scanned t.scanned in
    module_once t.parsed (subst (λ l. IsModule (main_module source) l other) same u.parsed)

-- tokens of a tree aren't refused
not_tokens : {C : Type 0} (source : List ℕ) (c : Code) (p : Place) (tokens : List Token) (tree : Statements) → IsTree source tokens tree
    → (others : List Token) → Tokens source others → IsRefused (main_module source) others c p → C
not_tokens source c p tokens tree is others scanned r =
    absurd (module_stands c p is.parsed is.few (subst (λ l. IsRefused (main_module source) l c p) (once source others tokens scanned is.scanned) r))

-- ---- one module

module _ (rules : Rules) where
  pub alone_only : (source : List ℕ) (p q : Program) → ReadsAlone source p → ReadsAlone source q → q ≡ p
  alone_only source p q r s =
      let same = one_tree source s.tokens r.tokens s.tree r.tree s.is_tree r.is_tree in
      rules.program [] (lone r.tree) p q r.typed (subst (λ t. AreTyped [] (lone t) q) same s.typed)

  pub alone_not_refused : (source : List ℕ) (program : Program) (c : Code) (at : Place) → ReadsAlone source program → RefusesAlone source c at → ⊥
  alone_not_refused source program c at r (by_bytes refused) = apart source 0 c at r.tokens refused r.is_tree.scanned
  alone_not_refused source program c at r (by_tokens tokens scanned refused) =
      not_tokens source c at r.tokens r.tree r.is_tree tokens scanned refused
  alone_not_refused source program c at r (by_rules tokens tree is refused) =
      let same = one_tree source tokens r.tokens tree r.tree is r.is_tree in
      rules.apart [] (lone r.tree) program c at r.typed (subst (λ t. AreNotTyped (lone t) c at) same refused)

  -- a source is refused with one code, at one place
  pub alone_refused_once : (source : List ℕ) (c d : Code) (p q : Place) → RefusesAlone source c p → RefusesAlone source d q → (c ≡ d) × (p ≡ q)
  alone_refused_once source c d p q (by_bytes r) (by_bytes s) = bytes_refused_once source 0 c d p q r s
  alone_refused_once source c d p q (by_bytes r) (by_tokens tokens scanned s) = absurd (apart source 0 c p tokens r scanned)
  alone_refused_once source c d p q (by_bytes r) (by_rules tokens tree is s) = absurd (apart source 0 c p tokens r is.scanned)
  alone_refused_once source c d p q (by_tokens tokens scanned r) (by_bytes s) = absurd (apart source 0 d q tokens s scanned)
  alone_refused_once source c d p q (by_tokens tokens scanned r) (by_tokens others again s) =
      tokens_refused_once (main_module source) tokens c d p q r
      (subst (λ l. IsRefused (main_module source) l d q) (once source others tokens again scanned) s)
  alone_refused_once source c d p q (by_tokens tokens scanned r) (by_rules others tree is s) = not_tokens source c p others tree is tokens scanned r
  alone_refused_once source c d p q (by_rules tokens tree is r) (by_bytes s) = absurd (apart source 0 d q tokens s is.scanned)
  alone_refused_once source c d p q (by_rules tokens tree is r) (by_tokens others scanned s) = not_tokens source d q tokens tree is others scanned s
  alone_refused_once source c d p q (by_rules tokens tree is r) (by_rules others other it s) =
      let same = one_tree source others tokens other tree it is in
      let one = rules.refusal (lone tree) c d p q r (subst (λ t. AreNotTyped (lone t) d q) same s) in
      (sym one.0, sym one.1)

-- ---- modules

-- the one module
same_main : (modules : List Module) (main other : Module) → modules ≡ main ∷ [] → modules ≡ other ∷ [] → main.source ≡ other.source
same_main modules main other e f = cc

module _ (rules : Rules) where
  pub reads_only : (modules : List Module) (p q : Program) → Reads modules p → Reads modules q → q ≡ p
  reads_only modules p q r s = alone_only rules r.main.source p q r.reads
      (subst (λ source. ReadsAlone source q) (same_main modules s.main r.main s.only r.only) s.reads)

  pub read_not_refused : (modules : List Module) (program : Program) (c : Code) (at : Place) → Reads modules program → Refuses modules c at → ⊥
  read_not_refused modules program c at r s = alone_not_refused rules r.main.source program c at r.reads
      (subst (λ source. RefusesAlone source c at) (same_main modules s.main r.main s.only r.only) s.refuses)

  pub refuses_once : (modules : List Module) (c d : Code) (p q : Place) → Refuses modules c p → Refuses modules d q → (c ≡ d) × (p ≡ q)
  refuses_once modules c d p q r s = alone_refused_once rules r.main.source c d p q r.refuses
      (subst (λ source. RefusesAlone source d q) (same_main modules s.main r.main s.only r.only) s.refuses)

pub reads_alone : (name source : List ℕ) (program : Program) → ReadsAlone source program → Reads (alone name source) program
reads_alone name source program r = record { main = record { name = name; source = source }; only = refl; reads = r }

pub refuses_alone : (name source : List ℕ) (code : Code) (at : Place) → RefusesAlone source code at → Refuses (alone name source) code at
refuses_alone name source code at r = record { main = record { name = name; source = source }; only = refl; refuses = r }
