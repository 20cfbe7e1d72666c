use Rattle.std.proofs.Common.{◌≡◌, ap, sym, ◌∙◌, length}
use Rattle.std.specs.Vec.{vec_len}
use Rattle.nim_program.specs.Program.{Number}
use Rattle.nim_program.specs.View.{literal_of}
use Rattle.expr_rules.specs.Constants.{comes_to, measured, measure_of}
use Rattle.expr_constants.proofs.ConstantTypes.{count_length}
use Rattle.expr_parts.proofs.ForCallers.{if_ok}
use Rattle.nim_program.proofs.ForCallers.{parts_of, elements_of}
use Rattle.expr_constants.proofs.evaluated.measure_of.Goals as goal

pub returns-in-Parts : goal.returns-in-Parts
returns-in-Parts c = if_ok c.measured-in-Parts.result c.measured-in-Parts.ensures (λ e h.
    let counted : vec_len c.in-Parts.all ≡ length c.in-Parts.all.items = search in
    h ∙ ap (λ n. comes_to (Number (measured c.args.measure n))) (c.len.ensures ∙ counted ∙ sym (count_length c.in-Parts.all.items))
    ∙ sym (ap (measure_of c.args.measure) (ap literal_of c.in-Parts.is ∙ parts_of c.in-Parts.all)))

pub returns-in-Elements : goal.returns-in-Elements
returns-in-Elements c = if_ok c.measured-in-Elements.result c.measured-in-Elements.ensures (λ e h.
    let counted : vec_len c.in-Elements.all ≡ length c.in-Elements.all.items = search in
    h ∙ ap (λ n. comes_to (Number (measured c.args.measure n))) (c.len-in-Elements.ensures ∙ counted ∙ sym (count_length c.in-Elements.all.items))
    ∙ sym (ap (measure_of c.args.measure) (ap literal_of c.in-Elements.is ∙ elements_of c.in-Elements.all)))
