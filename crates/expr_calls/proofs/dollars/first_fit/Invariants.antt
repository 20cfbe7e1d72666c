use Rattle.std.proofs.Common.{◌≡◌, ◌≤◌, ℕ, List, [], ◌∷◌, length}
use Rattle.nim_types.specs.Types.{Ty, Facts}
use Rattle.nim_types.specs.Table.{type_at}
use Rattle.expr_rules.specs.Answers.{Valued, value}
use Rattle.expr_parts.specs.View.{Under}
use Rattle.expr_parts.specs.ViewDecls.{last_of}
use Rattle.expr_parts.proofs.ForCallers.{up_to}
use Rattle.expr_calls.proofs.Firsts.{FirstBehind}
use Rattle.expr_calls.proofs.dollars.first_fit.Given as goal

abbrev pub invariant-loop-next : goal.invariant-loop-next
invariant-loop-next l = (n : ℕ) × (l.next ≡ last_of l.decls l.name n) × (n ≤ length l.decls)
    × ((ts : List Ty) (facts : Facts) → Under l.types ts facts → (v : Valued) → v.of ≡ type_at ts l.ty
    → FirstBehind ts l.name l.decls (value v ∷ []) n l.first)

abbrev pub decreases-loop-next : goal.decreases-loop-next
decreases-loop-next l = up_to l.next
