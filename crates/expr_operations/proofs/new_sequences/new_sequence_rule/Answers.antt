use Rattle.std.proofs.Common.{sym, subst, ap, ◌∙◌, length}
use Rattle.std.specs.Prelude.{map}
use Rattle.arc_base.specs.declared.place.Code.TheVariants.{NotTyped}
use Rattle.arc_base.specs.Refusal.{Answers, refused}
use Rattle.nim_types.specs.Table.{type_at}
use Rattle.nim_program.specs.View.{expr_of}
use Rattle.expr_rules.specs.Names.{new_sequence_rule}
use Rattle.expr_parts.specs.View.{operand_of, no_fit_at, OperandsWithin}
use Rattle.expr_parts.specs.ViewOperands.{IsOnly}
use Rattle.expr_parts.proofs.ForCallers.{refuses}
use Rattle.expr_parts.proofs.ForCallers.{grown_same}
use Rattle.expr_operations.proofs.OneOperand.{not_one}
use Rattle.expr_operations.proofs.new_sequences.new_sequence_rule.Goals as goal

pub of_length-requires-clause-operand : goal.of_length-requires-clause-operand
of_length-requires-clause-operand c =
    let all = subst (IsOnly c.args.operands.items) c.in-Some.is c.only_operand.ensures in
    (subst (OperandsWithin (length c.args.types.now)) all c.requires.operands).0

pub returns-in-Some-clause-answers : goal.returns-in-Some-clause-answers
returns-in-Some-clause-answers c = λ ts facts u.
    let all = subst (IsOnly c.args.operands.items) c.in-Some.is c.only_operand.ensures in
    subst (λ os. Answers (expr_of ts) (new_sequence_rule c.args.number c.args.at (type_at ts c.args.ty) (map (operand_of ts) os)) c.of_length.result)
    (sym all)
    (c.of_length.ensures.answers ts facts u
    (ap (no_fit_at c.args.at) (sym all ∙ sym c.as_slice.ensures.value) ∙ c.place_of_no_fit-place.ensures))

pub returns-in-None-clause-answers : goal.returns-in-None-clause-answers
returns-in-None-clause-answers c = λ ts facts u.
    let os = c.args.operands.items in
    let none = subst (IsOnly os) c.in-None.is c.only_operand.ensures in
    refuses (expr_of ts) (new_sequence_rule c.args.number c.args.at (type_at ts c.args.ty) (map (operand_of ts) os)) NotTyped
    c.place_of_no_fit-place.result c.refusal.result c.refusal.ensures
    (not_one ts c.args.number c.args.at (type_at ts c.args.ty) os none
    ∙ ap (λ p. refused NotTyped p) (ap (no_fit_at c.args.at) (sym c.as_slice.ensures.value) ∙ c.place_of_no_fit-place.ensures))

pub returns-in-None-clause-grown : goal.returns-in-None-clause-grown
returns-in-None-clause-grown c = grown_same c.args.types.now
