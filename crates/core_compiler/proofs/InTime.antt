-- A machine whose work is in proportion ends in time, since each of its steps is one work.
use Rattle.std.proofs.Common.{◌≡◌, ◌≤◌, ℕ, zero, suc, ◌+◌, ◌*◌, List, [], ◌++◌, refl, ap, ◌∙◌, arith}
use Rattle.arc_base.specs.Event.{Event}
use Rattle.arc_base.specs.Behaviour.{Behaviour, Live, Ended}
use Rattle.arc_base.specs.Pace.{PacedFrom}
use Rattle.arc_base.specs.Stepping.{run, after}
use Rattle.rv32_isa.specs.declared.image.HookAt.{HookAt}
use Rattle.rv32_isa.specs.Image.{Image}
use Rattle.rv32_isa.specs.Machine.{Lives, Run, Advance, On, Exited, Faulted, advance, all_shown, shows, step, start, machine}
use Rattle.core_compiler.specs.Compile.{time_for, EndsInTime}

module _ (live : Lives) (hooks : List HookAt) where
  -- ---- work is never less than it was

  less_after : (n : ℕ) (r : Run) (x : Advance) (out : List Event) (done : ℕ) →
      ((next : Run) (out : List Event) (done : ℕ) → done ≤ (run (step live hooks) n next out done).work) →
      done ≤ (after (shows live hooks r.state x) (run (step live hooks) n) out done).work
  less_after n r (On next shown) out done h = let more = h next (out ++ all_shown hooks shown next) (done + 1) in omega (arith, more)
  less_after n r (Exited status) out done h = omega arith
  less_after n r (Faulted kind pc word) out done h = omega arith

  never_less : (n : ℕ) (r : Run) (out : List Event) (done : ℕ) → done ≤ (run (step live hooks) n r out done).work
  never_less zero r out done = omega arith
  never_less (suc n) r out done = less_after n r (advance r) out done (never_less n)

  -- ---- a run that ends after some steps has ended after as many as its work

  abbrev EndsWithin : (n : ℕ) → Type 0
  EndsWithin n = (most : ℕ) (r : Run) (out : List Event) (done status : ℕ) (objects : Live) →
      (run (step live hooks) n r out done).phase ≡ Ended status objects → (run (step live hooks) n r out done).work ≤ done + most →
      (run (step live hooks) most r out done).phase ≡ Ended status objects

  end_after : (n most : ℕ) (r : Run) (x : Advance) (out : List Event) (done status : ℕ) (objects : Live) → EndsWithin n → advance r ≡ x →
      (after (shows live hooks r.state x) (run (step live hooks) n) out done).phase ≡ Ended status objects →
      (after (shows live hooks r.state x) (run (step live hooks) n) out done).work ≤ done + most →
      (run (step live hooks) most r out done).phase ≡ Ended status objects
  end_after n zero r (On next shown) out done status objects h e ends few =
      let more = never_less n next (out ++ all_shown hooks shown next) (done + 1) in absurd (omega (arith, more, few))
  end_after n (suc most) r (On next shown) out done status objects h e ends few =
      ap (λ x. (after (shows live hooks r.state x) (run (step live hooks) most) out done).phase) e
      ∙ h most next (out ++ all_shown hooks shown next) (done + 1) status objects ends (omega (arith, few))
  end_after n zero r (Exited other) out done status objects h e ends few = absurd (omega (arith, few))
  end_after n (suc most) r (Exited other) out done status objects h e ends few =
      ap (λ x. (after (shows live hooks r.state x) (run (step live hooks) most) out done).phase) e ∙ ends
  end_after n most r (Faulted kind pc word) out done status objects h e ends few = cc

  ends_within : (n : ℕ) → EndsWithin n
  ends_within zero most r out done status objects ends few = cc
  ends_within (suc n) most r out done status objects ends few =
      end_after n most r (advance r) out done status objects (ends_within n) refl ends few

pub in_time : (live : Lives) (image : Image) (input : List ℕ) (high : Behaviour Event) →
    PacedFrom 196608 36 (machine live image input) high → EndsInTime (machine live image input) high
in_time live image input high paced = λ n status objects ends.
    let low = paced n in
    let covered = low.1.end status objects ends in
    let few : (machine live image input low.0).work ≤ 196608 * ((high n).work + 36) = low.2 in (
      covered.1,
      ends_within live image.hooks low.0 (time_for (high n).work) (start image input) [] 0 status covered.1 covered.2
          (omega (arith, few)),
    )
