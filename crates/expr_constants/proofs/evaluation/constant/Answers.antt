use Rattle.std.proofs.Common.{◌∙◌, ap, sym}
use Rattle.nim_program.specs.View.{literal_of}
use Rattle.expr_rules.specs.Constants.{comes_to, limited}
use Rattle.expr_constants.proofs.ConstantLists.{literal_by}
use Rattle.expr_constants.proofs.evaluation.constant.Goals as goal

pub returns-then-is_text : goal.returns-then-is_text
returns-then-is_text c =
    c.limited.ensures ∙ ap limited c.in_ok-literal.ensures
    ∙ sym (literal_by (literal_of c.args.value.now) _ (c.is_text.ensures ∙ c.if-is_text.true))

pub returns-else-is_text : goal.returns-else-is_text
returns-else-is_text c =
    ap comes_to c.in_ok-literal.ensures ∙ sym (literal_by (literal_of c.args.value.now) _ (c.is_text.ensures ∙ c.if-is_text.false))
