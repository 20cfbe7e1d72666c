use Rattle.std.proofs.Common.{◌+◌, ◌*◌, length, ap, ◌∙◌, arith}
use Rattle.std.specs.Prelude.{◌/◌}
use Rattle.nim_program.specs.Folds.{capped}
use Rattle.nim_program.specs.declared.text_sizes.TheConstants.{MOST_DATA}
use Rattle.nim_program.proofs.text_sizes.text_bytes.Goals as goal

pub returns-then-len : goal.returns-then-len
returns-then-len c = let len = ap length c.as_slice-len.ensures in omega (arith, c.if-len.true, len)

pub returns : goal.returns
returns c =
    let len = length c.as_slice-len.result.now in
    c.capped.ensures
    ∙ ap (λ w. capped MOST_DATA (c.from-2.result + c.from-3.result * ((len + 3) / w))) c.from.ensures
    ∙ ap (λ w. capped MOST_DATA (w + c.from-3.result * ((len + 3) / 4))) c.from-2.ensures
    ∙ ap (λ w. capped MOST_DATA (4 + w * ((len + 3) / 4))) c.from-3.ensures
    ∙ ap (λ n. capped MOST_DATA (4 + 4 * ((n + 3) / 4))) (ap length c.as_slice-len.ensures)
