use Rattle.std.proofs.Common.{◌≡◌, ◌≤◌, ℕ, List, length, drop}
use Rattle.std.specs.Prelude.{map}
use Rattle.arc_base.specs.declared.place.Place.{Place}
use Rattle.nim_types.specs.Types.{Ty}
use Rattle.nim_program.specs.View.{if_type}
use Rattle.expr_parts.specs.View.{parameter_of, entry_of}
use Rattle.expr_parts.specs.ViewDecls.{last_of}
use Rattle.expr_parts.proofs.ForCallers.{up_to}
use Rattle.decl_rules.specs.Heads.{completion_rule, earlier}
use Rattle.decl_parts.specs.View.{Beside, Over, state_of}
use Rattle.decl_heads.specs.ViewHeads.{AreCompleted, completed_by}
use Rattle.decl_heads.proofs.completion.completion_in.Given as goal

abbrev pub invariant-loop-next : goal.invariant-loop-next
invariant-loop-next l = (n : ℕ) × (l.next ≡ last_of l.state.scope.decls l.name n) × (n ≤ length l.state.scope.decls) × (l.state.outside ≤ n)
    × ((ts : List Ty) (b : Beside) (at : Place) → Over l.state ts → AreCompleted l.completed b
    → completion_rule (state_of ts b l.state) at l.has_body (map (parameter_of ts) l.params) (if_type ts l.gives)
    (earlier l.name (map (parameter_of ts) l.params) (drop n (map (entry_of ts) l.state.scope.decls))) ≡ completed_by at l.completion)

abbrev pub decreases-loop-next : goal.decreases-loop-next
decreases-loop-next l = up_to l.next
