use Rattle.std.proofs.Common.{◌≡◌, ◌-◌, ◌<◌, suc, ℕ, Some, length, refl, arith, subst}
use Rattle.std.specs.Prelude.{slice_get}
use Rattle.std.proofs.lemmas.Option.{slice_get_read}
use Rattle.nim_types.proofs.Settling.{Sweeps, step_learned, step_stayed, all_swept}
use Rattle.nim_types.proofs.storage.sweep.Goals as goal

pub loop-i-preserved : goal.loop-i-preserved
loop-i-preserved c =
    let ds = c.args.defs.now in
    let first = c.args.known.now in
    let i = c.loop-i.i - 1 in
    let old = c.loop-i.known in
    let d = c.index-defs-i.result in
    let inside : i < length ds = omega (arith, c.loop-i.invariant.within) in
    let is : slice_get ds i ≡ Some d = slice_get_read ds (length ds) i d refl inside c.index-defs-i.is in
    let next : c.loop-i.i ≡ suc i = omega arith in
    let swept = subst (λ (k : ℕ). Sweeps ds first old c.loop-i.found k) next c.loop-i.invariant.sweeps in
    record {
      within = omega (arith, inside);
      sweeps = step_stayed ds first old c.learn.new.known c.loop-i.found i d swept is (c.learn.ensures.kept c.if-learn.false);
    }

pub loop-i-preserved-then-learn : goal.loop-i-preserved-then-learn
loop-i-preserved-then-learn c =
    let ds = c.args.defs.now in
    let first = c.args.known.now in
    let i = c.loop-i.i - 1 in
    let old = c.loop-i.known in
    let d = c.index-defs-i.result in
    let inside : i < length ds = omega (arith, c.loop-i.invariant.within) in
    let is : slice_get ds i ≡ Some d = slice_get_read ds (length ds) i d refl inside c.index-defs-i.is in
    let next : c.loop-i.i ≡ suc i = omega arith in
    let swept = subst (λ (k : ℕ). Sweeps ds first old c.loop-i.found k) next c.loop-i.invariant.sweeps in
    let within_known : i < length old = omega (arith, inside, swept.half.beside) in
    record {
      within = omega (arith, inside);
      sweeps = step_learned ds first old c.learn.new.known c.loop-i.found i d swept is within_known (c.learn.ensures.learned c.if-learn.true);
    }

pub returns-clause-done : goal.returns-clause-done
returns-clause-done c =
    λ f. all_swept c.args.defs.now c.args.known.now c.loop-i.known c.loop-i.found c.loop-i.i c.loop-i.invariant.sweeps (omega arith) f
