use Rattle.std.proofs.Common.{drop}
use Rattle.std.specs.Prelude.{map}
use Rattle.nim_tree.specs.Types.{declaration_of}
use Rattle.decl_rules.specs.Sections.{type_names}
use Rattle.decl_sections.proofs.Starts.{NamesLeft}
use Rattle.decl_sections.proofs.starting.names_of.Given as goal

abbrev pub invariant-loop-def : goal.invariant-loop-def
invariant-loop-def l = NamesLeft l.set (type_names (map declaration_of l.defs)) (type_names (map declaration_of (drop l.def-index l.defs)))
