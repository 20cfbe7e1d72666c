use Rattle.expr_constants.proofs.LiteralSizes.{parts_alone, elements_alone}
use Rattle.expr_constants.proofs.literal_sizes.literal_bytes.Goals as goal

pub returns-in-Parts : goal.returns-in-Parts
returns-in-Parts c =
    parts_alone c.or_word.result c.all_bytes.result c.in-Parts.all c.args.literal.now c.as_slice-in-Parts.result.now c.or_word.ensures c.all_bytes.ensures
    c.as_slice-in-Parts.ensures.value c.in-Parts.is

pub returns-in-Elements : goal.returns-in-Elements
returns-in-Elements c =
    elements_alone c.all_bytes-in-Elements.result c.in-Elements.all c.args.literal.now c.as_slice-in-Elements.result.now c.all_bytes-in-Elements.ensures
    c.as_slice-in-Elements.ensures.value c.in-Elements.is
