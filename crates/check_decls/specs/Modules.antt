-- The modules and the program of the code as the rules speak of them.
use Rattle.std.specs.Prelude.{◌≡◌, ◌≤◌, ℕ, true, List, [], ◌∷◌, Option, Some, None, Result, Ok, Err, slice_get}
use Rattle.arc_base.specs.declared.place.Stop.{Stop}
use Rattle.nim_tree.specs.declared.stmt.Module.{Module as RustModule}
use Rattle.nim_tree.specs.Statements.{Statements, empty, tree_of}
use Rattle.nim_types.specs.Types as type
use Rattle.nim_types.specs.Types.{Ty}
use Rattle.nim_types.specs.Table.{types_in, facts_in, IsTable}
use Rattle.nim_program.specs.declared.nodes.TheConstants.{MOST_NODES}
use Rattle.nim_program.specs.declared.program.Program.{Program as RustProgram}
use Rattle.nim_program.specs.Program.{Program}
use Rattle.nim_program.specs.Kinds.{is_among_types}
use Rattle.nim_program.specs.Sizes.{HaveForms}
use Rattle.nim_program.specs.View.{program_under}
use Rattle.decl_rules.specs.State.{Stated}
use Rattle.decl_rules.specs.Elaborated.{Module, nothing_known, modules_stated}

-- a module that isn't there has no statements
abbrev pub body_at : Option RustModule → Statements
body_at None = empty
body_at (Some m) = tree_of m

-- the modules of these numbers
abbrev pub in_order : List RustModule → (order : List ℕ) → List Module
in_order modules [] = []
in_order modules (n ∷ rest) = record { number = n; body = body_at (slice_get modules n) } ∷ in_order modules rest

-- over the types and facts of its table
abbrev pub program_in : RustProgram → Program
program_in p = program_under (types_in p.types) (facts_in p.types) p

-- the types of a program, and others where there is none
abbrev pub types_or : List Ty → Result RustProgram Stop → List Ty
types_or ts (Ok p) = types_in p.types
types_or ts (Err s) = ts

-- The types of the program's table have forms, and int is one of them; and the nodes of the modules have numbers that there are.
pub record IsWhole (all : List Module) (p : RustProgram) : Type 0 where
  pub table : IsTable p.types
  pub forms : HaveForms p.types
  pub ints : is_among_types (types_in p.types) type.int ≡ true
  pub nodes : (s : Stated) → modules_stated nothing_known all ≡ Ok s → s.state.node ≤ MOST_NODES
