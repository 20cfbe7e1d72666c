use Rattle.std.proofs.Common.{◌≡◌, ◌+◌, ◌-◌, ◌<◌, length, refl, subst, arith}
use Rattle.reachable_procs.specs.Search.{LeadsFrom}
use Rattle.reachable_procs.proofs.Indexing.{first_leads, next_leads}
use Rattle.reachable_procs.proofs.reaching.index_of.Goals as goal

pub loop-i-init : goal.loop-i-init
loop-i-init c = record { within = omega arith; leads = first_leads c.args.procs.now c.new-index.result c.new-index.ensures.empty }

pub loop-i-preserved : goal.loop-i-preserved
loop-i-preserved c =
    let procs = c.args.procs.now in
    let k = c.loop-i.i in
    let i = k - 1 in
    let next : k ≡ i + 1 = omega (arith, c.loop-i-test.true) in
    let lt : i < length procs = omega (arith, next, c.loop-i.invariant.within) in
    record {
      within = omega (arith, lt);
      leads = next_leads procs i _ _ c.loop-i.index c.insert.new.self lt refl (λ n. c.in_ok-insert.ensures.updates.0 n)
          (subst (λ n. LeadsFrom c.loop-i.index n procs) next c.loop-i.invariant.leads);
    }

pub returns : goal.returns
returns c =
    let none : c.loop-i.i ≡ 0 = omega (arith, c.loop-i-test.false) in
    subst (λ n. LeadsFrom c.loop-i.index n c.args.procs.now) none c.loop-i.invariant.leads
