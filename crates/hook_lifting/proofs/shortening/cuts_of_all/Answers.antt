use Rattle.std.proofs.Common.{◌∙◌, arith}
use Rattle.hook_lifting.specs.Lifted.{cut_entry}
use Rattle.hook_lifting.proofs.Parts.{types_next}
use Rattle.hook_lifting.proofs.shortening.cuts_of_all.Goals as goal

pub loop-ty-preserved : goal.loop-ty-preserved
loop-ty-preserved c =
    let l = c.loop-ty in
    let ds = c.args.types.now in (
      types_next (cut_entry ds) ds l.ty l.all c.add_cut.new.cuts (omega (arith, c.loop-ty-test.true, l.invariant.1)) c.in_ok-add_cut.ensures ∙ l.invariant.0,
      l.invariant.1,
    )
