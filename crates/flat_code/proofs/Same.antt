-- A meaning that shows the same as another after each number of steps agrees with it, and does the same work.
use Rattle.std.proofs.Common.{◌≡◌, refl, sym, subst, ap, ◌∙◌, arith, ℕ, ◌+◌, ◌*◌, ◌≤◌, List, [], ◌∷◌, ◌++◌}
use Rattle.arc_base.specs.Event.{Event}
use Rattle.arc_base.specs.Behaviour.{Behaviour, Seen, Covers, Agrees, Sound}
use Rattle.arc_base.specs.Pace.{PacedFrom}

onto_nothing : {A : Type 0} (xs : List A) → xs ++ [] ≡ xs
onto_nothing [] = refl
onto_nothing (x ∷ xs) = ap (λ rest. x ∷ rest) (onto_nothing xs)

covers_itself : (a : Seen Event) → Covers a a
covers_itself a = record { prefix = ([], onto_nothing a.events); end = λ status live e. (refl, live, e) }

module _ (low high : Behaviour Event) (same : (n : ℕ) → low n ≡ high n) where
  pub same_agrees : Agrees high high → Agrees low high
  same_agrees itself = record {
    low_in_high = λ n. let h = itself.low_in_high n in (h.0, subst (λ a. Covers a (high h.0)) (sym (same n)) h.1);
    high_in_low = λ n. let h = itself.high_in_low n in (h.0, subst (λ b. Covers (high n) b) (sym (same h.0)) h.1);
    no_fault = λ n e. itself.no_fault n (ap (λ s. s.phase) (sym (same n)) ∙ e);
    low_right = λ n e. itself.low_right n (ap (λ s. s.phase) (sym (same n)) ∙ e);
    high_right = itself.high_right;
    same_live = λ n m s t l k e f. itself.same_live n m s t l k (ap (λ s. s.phase) (sym (same n)) ∙ e) f;
  }

  pub same_pace : PacedFrom 1 0 low high
  same_pace n = (
    n,
    subst (λ b. Covers (high n) b) (sym (same n)) (covers_itself (high n)),
    subst (λ b. b.work ≤ 1 * ((high n).work + 0)) (sym (same n)) (omega arith),
  )

-- the same of another high meaning
module _ (low high other : Behaviour Event) (same : (n : ℕ) → high n ≡ other n) where
  pub agrees_as : Agrees low high → Agrees low other
  agrees_as h = record {
    low_in_high = λ n. let x = h.low_in_high n in (x.0, subst (Covers (low n)) (same x.0) x.1);
    high_in_low = λ n. let x = h.high_in_low n in (x.0, subst (λ a. Covers a (low x.0)) (same n) x.1);
    no_fault = h.no_fault;
    low_right = h.low_right;
    high_right = λ n e. h.high_right n (ap (λ s. s.phase) (same n) ∙ e);
    same_live = λ n m s t l k e f. h.same_live n m s t l k e (ap (λ s. s.phase) (same m) ∙ f);
  }

pub paced_as : (c k : ℕ) (low high other : Behaviour Event) → ((n : ℕ) → high n ≡ other n) → PacedFrom c k low high → PacedFrom c k low other
paced_as c k low high other same h n =
    let x = h n in (x.0, subst (λ a. Covers a (low x.0)) (same n) x.1, subst (λ (a : Seen Event). (low x.0).work ≤ c * (a.work + k)) (same n) x.2)

pub sound_as : (a b : Behaviour Event) → ((n : ℕ) → a n ≡ b n) → Sound a → Sound b
sound_as a b same h = record {
  no_fault = λ n e. h.no_fault n (ap (λ s. s.phase) (same n) ∙ e);
  right = λ n e. h.right n (ap (λ s. s.phase) (same n) ∙ e);
}
