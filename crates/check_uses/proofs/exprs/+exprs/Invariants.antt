use Rattle.std.proofs.Common.{◌≡◌, ◌++◌, [], drop, None}
use Rattle.nim_program.specs.Program.{NoArg}
use Rattle.nim_program.specs.View.{operands_of, choices_of, picks_of}
use Rattle.decl_rules.specs.Occurrences.{in_args}
use Rattle.check_uses.specs.Uses.{seen}
use Rattle.check_uses.proofs.exprs.+exprs.Given as goal

abbrev pub invariant-add_operands-loop-operand : goal.invariant-add_operands-loop-operand
invariant-add_operands-loop-operand l =
    seen l.uses ++ in_args l.callee (operands_of [] (drop l.operand-index l.operands.items)) ≡
    seen l.fn.uses ++ in_args l.callee (operands_of [] l.operands.items)

abbrev pub invariant-add_choices-loop-choice : goal.invariant-add_choices-loop-choice
invariant-add_choices-loop-choice l =
    seen l.uses ++ in_args None (choices_of [] (drop l.choice-index l.choices.items) NoArg) ≡
    seen l.fn.uses ++ in_args None (choices_of [] l.choices.items NoArg)

abbrev pub invariant-add_picks-loop-pick : goal.invariant-add_picks-loop-pick
invariant-add_picks-loop-pick l =
    seen l.uses ++ in_args None (picks_of [] (drop l.pick-index l.picks.items) NoArg) ≡
    seen l.fn.uses ++ in_args None (picks_of [] l.picks.items NoArg)
