use Rattle.std.proofs.Common.{◌≡◌, ◌+◌, ◌-◌, suc, refl, length, sym, subst, ◌∙◌, arith}
use Rattle.nim_types.specs.Table.{types_in, facts_in}
use Rattle.nim_types.proofs.ForCallers.{count}
use Rattle.program_limits.specs.Summaries.{AreKnown, AreNext}
use Rattle.program_limits.proofs.Listing.{listed_by}
use Rattle.program_limits.proofs.Rounds.{known_on}
use Rattle.program_limits.proofs.summary.all_summaries.Goals as goal

pub loop-round-init : goal.loop-round-init
loop-round-init c = record {
  below = omega arith;
  long = c.in_ok-of.ensures.long;
  known = c.in_ok-of.ensures.known 0 refl;
}

pub returns-then-are_same : goal.returns-then-are_same
returns-then-are_same c =
    let ds = c.args.types.now in
    let at = c.loop-round in
    let facts = facts_in ds in
    let n = length facts in
    let of = at.of in
    let next = subst (λ l. AreNext _ ds l c.in_ok-next.next) c.as_slice.ensures c.in_ok-next.ensures in
    let same = sym c.as_slice-in-loop-round.ensures ∙ c.are_same.ensures c.if-are_same.true ∙ c.as_slice-in-loop-round-2.ensures in
    let rest : n - at._round + at._round ≡ n = omega (arith, at.invariant.below, c.declared_types-declared.ensures.count) in
    let known = subst (λ d. AreKnown d ds of (length ds)) rest (known_on ds of c.in_ok-next.next next same (n - at._round) at._round at.invariant.known) in
    listed_by facts (types_in ds) of (at.invariant.long ∙ sym (count ds)) (λ i lt. known i (omega (arith, lt, count ds)))

pub loop-round-preserved : goal.loop-round-preserved
loop-round-preserved c =
    let ds = c.args.types.now in
    let at = c.loop-round in
    let k = at._round in
    let next = subst (λ l. AreNext _ ds l c.in_ok-next.next) c.as_slice.ensures c.in_ok-next.ensures in
    let e : suc k ≡ k + 1 = omega arith in
    record {
      below = omega (arith, c.loop-round-test.true);
      long = next.long;
      known = subst (λ d. AreKnown d ds c.in_ok-next.next (length ds)) e (next.known (suc k) (k, refl, at.invariant.known));
    }

pub returns : goal.returns
returns c =
    let ds = c.args.types.now in
    let at = c.loop-round in
    let facts = facts_in ds in
    let all : at._round ≡ length facts = omega (arith, at.invariant.below, c.loop-round-test.false, c.declared_types-declared.ensures.count) in
    let known = subst (λ d. AreKnown d ds at.of (length ds)) all at.invariant.known in
    listed_by facts (types_in ds) at.of (at.invariant.long ∙ sym (count ds)) (λ i lt. known i (omega (arith, lt, count ds)))
