use Rattle.std.proofs.Common.{◌≡◌, suc, ◌+◌, Bool, true, false, refl, sym, ap, ◌∙◌}
use Rattle.nim_program.specs.Folds.{capped}
use Rattle.nim_program.specs.View.{path_of}
use Rattle.flattening.specs.Numbering.{read_count}
use Rattle.flattening.specs.declared.spans.TheConstants.{MOST}
use Rattle.flattening.proofs.Widths.{step_width}
use Rattle.flattening.proofs.spans.path_width.Goals as goal

read_capped : (read : Bool) → 1 + read_count read ≡ capped MOST (suc (read_count read))
read_capped true = refl
read_capped false = refl

pub returns : goal.returns
returns c ts =
    ap (λ n. 1 + n) c.read_count.ensures.count ∙ read_capped c.args.read ∙ sym (ap (capped MOST) (step_width c.args.read (path_of ts c.args.path.now)))
