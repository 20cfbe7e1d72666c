use Rattle.std.proofs.Common.{◌≡◌, ◌+◌, ◌-◌, ◌<◌, length, drop, refl, subst, arith}
use Rattle.word_lowering.specs.PlaceTable.{FindsFrom}
use Rattle.word_lowering.proofs.Finding.{first_leads, next_leads}
use Rattle.word_lowering.proofs.place_table.index_of.Goals as goal

pub loop-i-init : goal.loop-i-init
loop-i-init c = record { within = omega arith; leads = first_leads c.args.all.now c.new-index.result c.new-index.ensures.empty }

pub loop-i-preserved : goal.loop-i-preserved
loop-i-preserved c =
    let all = c.args.all.now in
    let k = c.loop-i.i in
    let i = k - 1 in
    let next : k ≡ i + 1 = omega (arith, c.loop-i-test.true) in
    let lt : i < length all = omega (arith, next, c.loop-i.invariant.within) in
    let before = subst (λ n. FindsFrom c.loop-i.index (drop n all) all) next c.loop-i.invariant.leads in
    record {
      within = omega (arith, lt);
      leads = next_leads all i _ _ c.loop-i.index c.insert.new.self lt refl (λ n. c.in_ok-insert.ensures.updates.0 n) before;
    }

pub returns : goal.returns
returns c =
    let none : c.loop-i.i ≡ 0 = omega (arith, c.loop-i-test.false) in
    subst (λ n. FindsFrom c.loop-i.index (drop n c.args.all.now) c.args.all.now) none c.loop-i.invariant.leads
