use Rattle.std.proofs.Common.{◌≡◌, ◌≤◌, ℕ, List, length}
use Rattle.nim_types.specs.Types.{Ty, Facts}
use Rattle.nim_types.specs.Table.{type_at}
use Rattle.expr_parts.specs.View.{Under}
use Rattle.expr_parts.specs.ViewDecls.{last_of}
use Rattle.expr_parts.proofs.ForCallers.{up_to, known_in}
use Rattle.expr_rules.specs.Env.{callable}
use Rattle.decl_rules.specs.Heads.{borrows_for}
use Rattle.decl_heads.proofs.borrowing.borrows_for.Given as goal

abbrev pub invariant-loop-next : goal.invariant-loop-next
invariant-loop-next l = (n : ℕ) × (l.next ≡ last_of l.decls l.name n) × (n ≤ length l.decls)
    × ((ts : List Ty) (facts : Facts) → Under l.types ts facts
    → borrows_for (type_at ts l.ty) (callable (known_in ts l.name l.decls (length l.decls))) ≡ borrows_for (type_at ts l.ty)
    (callable (known_in ts l.name l.decls n)))

abbrev pub decreases-loop-next : goal.decreases-loop-next
decreases-loop-next l = up_to l.next
