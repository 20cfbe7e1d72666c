use Rattle.std.proofs.Common.{arith}
use Rattle.word_lowering.specs.Texts.{all_names, joined_all}
use Rattle.word_lowering.proofs.Padding.{padded_length}
use Rattle.word_lowering.proofs.texts.texts_at.Goals as goal

pub returns : goal.returns
returns c =
    let e = padded_length (joined_all (all_names c.args.types.now)) in
    omega (arith, e, c.names_length-n.ensures, c.names_at-at.ensures)
