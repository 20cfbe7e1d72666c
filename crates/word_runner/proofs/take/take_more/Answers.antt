use Rattle.std.proofs.Common.{rules, ◌≡◌, ◌<◌, ℕ, ◌++◌, length, take, true, refl, sym, ap, ◌∙◌, arith, append-nil}
use Rattle.std.proofs.lemmas.List.{length-take-le}
use Rattle.rv32_runner.proofs.ForCallers.{end_take, gave_failed, gave_take}
use Rattle.word_runner.proofs.take.take_more.Goals as goal

pub returns-in-Err : goal.returns-in-Err
returns-in-Err g c =
    let h = c.in-Err.ensures in (gave_failed _ _ _ _ _ _ _ _ c.take.new.into c.take.ensures.stays _ h.bytes h.gave, h.cause.failed, refl)

pub returns-then-count-eq0 : goal.returns-then-count-eq0
returns-then-count-eq0 g c =
    let h = c.in-Ok.ensures in
    let into = c.take.new.into in
    let n = c.in-Ok.count in
    let none : n ≡ 0 = omega (arith, c.if-count-eq0.true) in
    let size : length into ≡ 4096 = search rules in
    let long : 0 < length into = omega (arith, size) in (
      take n into,
      gave_take _ _ _ _ _ _ _ _ into c.take.ensures.stays n h.bytes h.after_end h.gave,
      h.cause.stays,
      record {
        taken = sym (ap (λ l. c.args.run.now.input.taken.items ++ l) (ap (λ (k : ℕ). take k into) none) ∙ append-nil c.args.run.now.input.taken.items);
        others = refl;
        some = λ e. refl;
        ends = λ e f rest may. end_take _ _ _ n into h.bytes none long (h.end none long) rest may;
      },
    )

pub returns-in-Err-extend_from_slice : goal.returns-in-Err-extend_from_slice
returns-in-Err-extend_from_slice g c =
    let h = c.in-Ok.ensures in
    (take c.in-Ok.count c.take.new.into, gave_take _ _ _ _ _ _ _ _ c.take.new.into c.take.ensures.stays c.in-Ok.count h.bytes h.after_end h.gave, h.cause.stays)

pub returns-in-Ok-extend_from_slice : goal.returns-in-Ok-extend_from_slice
returns-in-Ok-extend_from_slice g c =
    let h = c.in-Ok.ensures in
    let into = c.take.new.into in
    let n = c.in-Ok.count in (
      take n into,
      gave_take _ _ _ _ _ _ _ _ into c.take.ensures.stays n h.bytes h.after_end h.gave,
      h.cause.stays,
      record {
        taken = c.in-Ok-extend_from_slice.ensures.items;
        others = refl;
        some = λ e. let a = ap length e in let b = length-take-le n into h.bound in absurd (omega (arith, a, b, c.if-count-eq0.false));
        ends = λ e f. f e;
      },
    )
