use Rattle.std.proofs.Common.{drop}
use Rattle.std.specs.Prelude.{map}
use Rattle.nim_tree.specs.Types.{declaration_of}
use Rattle.decl_types.specs.ViewPlaces.{Ascends}
use Rattle.decl_types.proofs.places.are_ascending.Given as goal

-- what is left stands behind the last one
abbrev pub invariant-loop-def : goal.invariant-loop-def
invariant-loop-def l =
    Ascends l.home l.last (map declaration_of (drop l.def-index l.defs)) → Ascends l.home l.first (map declaration_of l.defs)
