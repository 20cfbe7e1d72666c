use Rattle.std.proofs.Common.{rules, ◌≡◌, ◌∙◌, arith, refl}
use Rattle.rv32_runner.proofs.Filling.{part_none, part_then, filled_end, failing_then}
use Rattle.rv32_runner.proofs.calls.fill.Goals as goal

pub loop-done-init : goal.loop-done-init
loop-done-init g c = record { within = omega arith; regions = c.requires.regions; may = c.requires.to; part = part_none _ _ _; faults = refl }

pub loop-done-preserved : goal.loop-done-preserved
loop-done-preserved g c =
    let h = c.loop-done.invariant in
    let next = c.in-Ok.ensures in
    let bound = next.fronts.1.1.0 in
    record {
      within = omega arith;
      regions = c.memories.ensures.regions _ _ h.regions next.sizes;
      may = c.memories.ensures.stores _ _ c.args.at c.args.len next.sizes ∙ h.may;
      part = part_then _ _ _ c.args.at c.args.len c.loop-done.done c.in-Ok.count _ _ _ c.requires.regions h.regions c.requires.to
          (omega arith) h.part next.fronts.0;
      faults = next.fronts.1.0 ∙ h.faults;
    }

pub returns-in-Ok-eq0-clause-fills : goal.returns-in-Ok-eq0-clause-fills
returns-in-Ok-eq0-clause-fills g c =
    let h = c.loop-done.invariant in
    let next = c.in-Ok-eq0.ensures.fronts in
    let none : c.in-Ok-eq0.field-0 ≡ 0 = search rules in
    let over = next.1.1.1 none in
    filled_end _ _ _ c.args.at c.args.len c.loop-done.done c.in-Ok-eq0.field-0 _ _ _ c.requires.regions h.regions c.requires.to
    h.within none h.part h.faults next.0 next.1.0 over

pub returns-in-Err-clause-fills : goal.returns-in-Err-clause-fills
returns-in-Err-clause-fills g c =
    let h = c.loop-done.invariant in
    let less = c.loop-done-test.true in
    let next = c.in-Err.ensures.fronts in
    failing_then _ _ _ c.args.at c.args.len c.loop-done.done _ _ _ c.requires.regions h.regions c.requires.to less h.part h.faults next.0 next.1
