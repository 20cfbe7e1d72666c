use Rattle.std.proofs.Common.{◌<◌, ◌+◌, ◌∙◌, ap, arith, drop}
use Rattle.std.proofs.lemmas.List.{drop_more, at_drop_all}
use Rattle.std.specs.Prelude.{length}
use Rattle.nim_types.proofs.ForCallers.{index_get, one_below}
use Rattle.program_limits.specs.Summaries.{form_at, forms_at, summaries_at}
use Rattle.program_limits.proofs.Summing.{none_more, last_more, more_next, more_small}
use Rattle.program_limits.proofs.summary.look_all.Goals as goal

pub loop-id-init : goal.loop-id-init
loop-id-init c = record {
  whole = λ n ds known. none_more (forms_at n ds c.args.ids.now);
  small = omega arith;
}

pub loop-id-preserved : goal.loop-id-preserved
loop-id-preserved c =
    let is = c.args.ids.now in
    let k = c.loop-id.id-index in
    let lt : k < length is = omega (arith, c.loop-id-test.true, c.loop-id.auto.id-index-end) in
    let below = one_below c.args.bound is k _ c.requires (index_get is k lt) in
    record {
      whole = λ n ds known. more_next c.loop-id.all c.look.result c.beside-all.result (form_at n ds _) (forms_at n ds (drop (k + 1) is)) _ _
          (c.loop-id.invariant.whole n ds known) (ap (summaries_at n ds) (drop_more is k 0 lt)) (c.look.ensures ∙ known _ below) c.beside-all.ensures;
      small = more_small c.loop-id.all c.look.result c.beside-all.result c.beside-all.ensures;
    }

pub returns : goal.returns
returns c = λ n ds known.
    let at = c.loop-id in
    last_more at.all _ _ (at.invariant.whole n ds known) at.invariant.small (at_drop_all (summaries_at n ds) c.args.ids.now at.id-index c.loop-id-test.false)
