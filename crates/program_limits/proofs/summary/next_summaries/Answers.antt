use Rattle.std.proofs.Common.{◌≡◌, ◌∷◌, [], length, ap, sym, subst, ◌∙◌, arith, length-append}
use Rattle.program_limits.specs.Summaries.{AreKnown}
use Rattle.program_limits.proofs.Rounds.{known_more}
use Rattle.program_limits.proofs.summary.next_summaries.Goals as goal

pub loop-ty-init : goal.loop-ty-init
loop-ty-init c = record {
  long = ap length c.new-next.ensures;
  known = λ n h i lt. absurd (omega (arith, lt));
}

pub loop-ty-preserved : goal.loop-ty-preserved
loop-ty-preserved c =
    let at = c.loop-ty in
    let ds = c.args.types.now in
    let one = c.type_summary-one.result in
    let more = length-append at.next (one ∷ []) in
    record {
      long = omega (arith, ap length c.in_ok-push.ensures.ok, more, at.invariant.long);
      known = λ n h. known_more n ds at.next _ one at.ty at.invariant.long c.in_ok-push.ensures.ok (at.invariant.known n h)
          (c.type_summary-one.ensures n h (subst (λ l. AreKnown n ds l at.ty) (sym c.as_slice.ensures) (at.invariant.known n h)));
    }

pub returns : goal.returns
returns c =
    let at = c.loop-ty in
    let ds = c.args.types.now in
    let all : at.ty ≡ length ds = omega (arith, c.loop-ty-test.false, c.loop-ty.auto.ty-end, c.count-ty-end.ensures.count) in
    record {
      long = at.invariant.long ∙ all;
      known = λ n h. subst (λ b. AreKnown n ds at.next b) all (at.invariant.known n h);
    }
