use Rattle.std.proofs.Common.{◌≡◌, ◌≤◌, ℕ, List, length}
use Rattle.std.specs.Prelude.{map}
use Rattle.nim_types.specs.Types.{Ty, Facts}
use Rattle.expr_parts.specs.View.{Under, ChosenFits, operand_of}
use Rattle.expr_parts.specs.ViewDecls.{last_of}
use Rattle.expr_parts.proofs.Indexing.{up_to}
use Rattle.expr_parts.proofs.Knowing.{Behind}
use Rattle.expr_parts.proofs.calls.choose.Given as goal

abbrev pub invariant-loop-next : goal.invariant-loop-next
invariant-loop-next l = (n : ℕ) × (l.next ≡ last_of l.decls l.name n) × (n ≤ length l.decls)
    × ((ts : List Ty) (facts : Facts) → Under l.types ts facts → Behind ts l.name l.decls (map (operand_of ts) l.operands) n l.chosen)
    × ChosenFits l.types l.decls l.operands l.chosen

abbrev pub decreases-loop-next : goal.decreases-loop-next
decreases-loop-next l = up_to l.next
