use Rattle.std.proofs.Common.{◌≡◌, ℕ, List, Option, drop}
use Rattle.nim_program.specs.Program.{NoArg}
use Rattle.nim_program.specs.View.{operands_of, choices_of, picks_of, pick_labels}
use Rattle.nim_program.specs.declared.expr.Choice.{Choice}
use Rattle.nim_program.specs.declared.expr.Pick.{Pick}
use Rattle.plain_plan.specs.Adding.{Adds}
use Rattle.nim_meaning.specs.TreeSites.{operand_sites, choice_sites, pick_sites}
use Rattle.plain_plan.specs.Views.{types_of, facts_of, modes_of, uses_of}
use Rattle.plain_plan.proofs.values.+values.Given as goal

abbrev pub invariant-add_operands-loop-operand : goal.invariant-add_operands-loop-operand
invariant-add_operands-loop-operand l =
    let a = l.around in
    let ts = types_of a in
    let uses = uses_of (modes_of a) l.uses in
    (l.position ≡ l.operand-index)
    × ((end : Option (List ℕ)) →
    Adds l.found end (operand_sites (facts_of a) (modes_of a) (operands_of ts (drop l.operand-index l.operands.items)) uses l.position) →
    Adds l.fn.found end (operand_sites (facts_of a) (modes_of a) (operands_of ts l.operands.items) uses 0))

abbrev pub invariant-add_choices-loop-choice : goal.invariant-add_choices-loop-choice
invariant-add_choices-loop-choice l =
    let a = l.around in
    let all = λ (choices : List Choice). choice_sites (facts_of a) (modes_of a) (choices_of (types_of a) choices NoArg) in
    (end : Option (List ℕ)) → Adds l.found end (all (drop l.choice-index l.choices.items)) → Adds l.fn.found end (all l.choices.items)

abbrev pub invariant-add_picks-loop-pick : goal.invariant-add_picks-loop-pick
invariant-add_picks-loop-pick l =
    let a = l.around in
    let all = λ (picks : List Pick). pick_sites (facts_of a) (modes_of a) (pick_labels picks) (picks_of (types_of a) picks NoArg) in
    (end : Option (List ℕ)) → Adds l.found end (all (drop l.pick-index l.picks.items)) → Adds l.fn.found end (all l.picks.items)
