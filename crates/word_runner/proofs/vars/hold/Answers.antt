use Rattle.std.proofs.Common.{◌<◌, length, ap, ◌∙◌, arith, Some}
use Rattle.std.specs.Prelude.{◌==◌, if◌then◌else◌}
use Rattle.word_runner.specs.View.{held_in}
use Rattle.word_runner.proofs.VarRows.{nothing_more, held_set}
use Rattle.word_runner.proofs.vars.hold.Goals as goal

pub loop-held-preserved : goal.loop-held-preserved
loop-held-preserved g c =
    λ u. ap (λ l. held_in l u) c.in_ok-push.ensures.items ∙ nothing_more c.loop-held.held.items u ∙ c.loop-held.invariant u

pub returns : goal.returns
returns g c =
    λ u.
    let held = c.loop-held.held in
    let lt : c.args.at < length held.items = omega (arith, c.loop-held-test.false, c.len.ensures, held.ok.0) in
    held_set held.items c.args.at c.args.x u lt ∙ ap (λ o. if u == c.args.at then Some c.args.x else o) (c.loop-held.invariant u)
