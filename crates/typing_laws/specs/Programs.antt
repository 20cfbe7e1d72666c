-- What is asked of a program beside that the rules accept it: its table has ints, its types have forms, and there are numbers for all nodes.
use Rattle.std.specs.Prelude.{◌≡◌, ◌≤◌, true, List, Ok}
use Rattle.nim_types.specs.declared.types.TypeDef.{TypeDef}
use Rattle.nim_types.specs.Types as type
use Rattle.nim_types.specs.Table.{types_in, facts_in, IsTable}
use Rattle.nim_program.specs.declared.nodes.TheConstants.{MOST_NODES}
use Rattle.nim_program.specs.declared.program.Program.{Program as RustProgram}
use Rattle.nim_program.specs.Program.{Program}
use Rattle.nim_program.specs.Kinds.{is_among_types}
use Rattle.nim_program.specs.Sizes.{HaveForms}
use Rattle.nim_program.specs.View.{program_under}
use Rattle.decl_rules.specs.State.{Stated}
use Rattle.decl_rules.specs.Elaborated.{Module, nothing_known, modules_stated}

pub record IsWholeTable (ds : List TypeDef) : Type 0 where
  pub table : IsTable ds
  pub forms : HaveForms ds
  pub ints : is_among_types (types_in ds) type.int ≡ true

-- The nodes of the modules have numbers that there are.
abbrev pub NodesWithin : List Module → Type 0
NodesWithin all = (s : Stated) → modules_stated nothing_known all ≡ Ok s → s.state.node ≤ MOST_NODES

-- a program of the code, over its own table
abbrev pub over_table : RustProgram → Program
over_table p = program_under (types_in p.types) (facts_in p.types) p
