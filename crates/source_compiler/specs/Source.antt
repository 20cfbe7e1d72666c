-- Which typed program modules are: the bytes of each are tokens, the tokens are a tree, and the trees are typed.
--
--     source ──Tokens──> tokens ──IsModule──> tree ──IsProgram──> typed program
--       └───────────────────────────── Reads ──────────────────────────┘
use Rattle.std.specs.Prelude.{◌≡◌, ℕ, List, [], ◌∷◌}
use Rattle.arc_base.specs.declared.place.Place.{Place}
use Rattle.arc_base.specs.declared.place.Code.{Code}
use Rattle.indent_scanner.specs.declared.token.Token.{Token}
use Rattle.indent_scanner.specs.Tokens.{Tokens}
use Rattle.indent_scanner.specs.Tokens.{IsRefused as IsRefusedByBytes}
use Rattle.nim_tree.specs.Statements.{Statements}
use Rattle.nim_program.specs.declared.program.Program.{Program as RustProgram}
use Rattle.nim_program.specs.Program.{Program}
use Rattle.parse_exprs.specs.Look.{Origin}
use Rattle.parse_stmts.specs.Grammar.{IsModule}
use Rattle.parse_stmts.specs.Parsed.{HasFew}
use Rattle.parse_stmts.specs.Parsed.{IsRefused as IsRefusedByTokens}
use Rattle.decl_rules.specs.Elaborated.{Module as Tree}
use Rattle.decl_rules.specs.ProgramRules.{IsProgram as AreTyped, IsNoProgram as AreNotTyped}
use Rattle.check_decls.specs.Modules.{program_in}

-- ---- one module

-- the main module has number 0
abbrev pub main_module : List ℕ → Origin
main_module source = record { source = source; number = 0 }

-- the source is these tokens and this tree, of at most 64 levels
pub record IsTree (source : List ℕ) (tokens : List Token) (tree : Statements) : Type 0 where
  pub scanned : Tokens source tokens
  pub parsed : IsModule (main_module source) tokens tree
  pub few : HasFew tree

-- the tree of the main module, which is the only one
abbrev pub lone : Statements → List Tree
lone tree = record { number = 0; body = tree } ∷ []

-- A program without its list of types by number. What is read has none: the list serves code alone, and a meaning doesn't ask for it.
abbrev pub unlisted : Program → Program
unlisted program = record program { types = [] }

-- the program that the code's trees stand for, as it is read
abbrev pub read_program : RustProgram → Program
read_program p = unlisted (program_in p)

-- the main module is a typed program by itself
pub record ReadsAlone (source : List ℕ) (program : Program) : Type 0 where
  pub tokens : List Token
  pub tree : Statements
  pub is_tree : IsTree source tokens tree
  pub typed : AreTyped [] (lone tree) program

-- The main module is refused: by its bytes (E1 to E3), else by its tokens (E4, E5, E23), else by the typing rules (E6 to E15,
-- E23, E26).
pub data RefusesAlone (source : List ℕ) : Code → Place → Type 0 where
  by_bytes : {code : Code} {at : Place} → IsRefusedByBytes source 0 code at → RefusesAlone source code at
  by_tokens : {code : Code} {at : Place} (tokens : List Token) → Tokens source tokens → IsRefusedByTokens (main_module source) tokens code at
      → RefusesAlone source code at
  by_rules : {code : Code} {at : Place} (tokens : List Token) (tree : Statements) → IsTree source tokens tree → AreNotTyped (lone tree) code at
      → RefusesAlone source code at

-- ---- modules

-- a module: the name of its file, and its bytes
pub record Module : Type 0 where
  pub name : List ℕ
  pub source : List ℕ

-- The modules of a program stand in a list by their numbers, the main module first. Since no import is typed, it is the only
-- one.
abbrev pub alone : (name source : List ℕ) → List Module
alone name source = record { name = name; source = source } ∷ []

-- the modules are the typed program
pub record Reads (modules : List Module) (program : Program) : Type 0 where
  pub main : Module
  pub only : modules ≡ main ∷ []
  pub reads : ReadsAlone main.source program

-- the modules are refused with this code, at this place in one of them
pub record Refuses (modules : List Module) (code : Code) (at : Place) : Type 0 where
  pub main : Module
  pub only : modules ≡ main ∷ []
  pub refuses : RefusesAlone main.source code at
