use Rattle.std.proofs.Common.{ℕ, ◌≡◌, ◌≤◌, ◌-◌, Bool, List, Option, length, drop}
use Rattle.nim_program.specs.Program.{Args}
use Rattle.nim_program.specs.View.{operands_of, choices_of, picks_of, pick_labels, if_type}
use Rattle.flat_code.specs.declared.line.Line.{Line}
use Rattle.flattening.specs.ExprLines.{ready_lines, choice_lines, arm_lines}
use Rattle.flattening.specs.Views.{types_of, facts_of, modes_of, uses_of, act_of, ArmsLast}
use Rattle.nim_program.specs.declared.expr.Choice.{Choice}
use Rattle.nim_program.specs.declared.expr.Pick.{Pick}
use Rattle.flattening.specs.Written.{IsPut}
use Rattle.flattening.proofs.expr_code.+exprs.Given as goal

abbrev pub invariant-add_ready-loop-operand : goal.invariant-add_ready-loop-operand
invariant-add_ready-loop-operand l =
    let ts = types_of l.around in
    let ready = ready_lines ts (facts_of l.around) (modes_of l.around) (act_of l.uses) in
    let uses = uses_of (modes_of l.around) l.uses in
    (l.position ≡ l.operand-index) ×
    ((new : Option (List Line)) → IsPut l.code new (ready (operands_of ts (drop l.operand-index l.operands.items)) uses l.position l.u) →
    IsPut l.fn.code new (ready (operands_of ts l.operands.items) uses 0 l.t))

abbrev pub invariant-add_choices-loop-branch : goal.invariant-add_choices-loop-branch
invariant-add_choices-loop-branch l =
    let ts = types_of l.around in
    let all = λ (branches : List Choice) (last : Args) (u : ℕ).
    choice_lines ts (facts_of l.around) (modes_of l.around) (choices_of ts branches last) (if_type ts l.ty) l.how l.t u in
    (last : Args) (new : Option (List Line)) → IsPut l.code new (all (drop l.branch-index l.branches.items) last l.u) →
    IsPut l.fn.code new (all l.branches.items last l.first)

abbrev pub invariant-add_arms-loop-i : goal.invariant-add_arms-loop-i
invariant-add_arms-loop-i l =
    let ts = types_of l.around in
    let all = λ (covered : Bool) (branches : List Pick) (last : Args) (u : ℕ).
    arm_lines ts (facts_of l.around) (modes_of l.around) covered (pick_labels branches) (picks_of ts branches last) (if_type ts l.ty) l.how l.t u in
    (l.i ≤ length l.branches.items)
    × ((covered : Bool) (last : ArmsLast covered l.closes) (new : Option (List Line)) →
    IsPut l.code new (all covered (drop l.i l.branches.items) last.0 l.u) → IsPut l.fn.code new (all covered l.branches.items last.0 l.first))

abbrev pub decreases-add_arms-loop-i : goal.decreases-add_arms-loop-i
decreases-add_arms-loop-i l = length l.branches.items - l.i
