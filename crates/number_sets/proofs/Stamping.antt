-- Numbers and their stamps.
use Rattle.std.proofs.Common.{◌≡◌, ℕ, zero, suc, ◌<◌, ◌≤◌, List, [], ◌∷◌, ◌++◌, length}
use Rattle.std.proofs.Common.{refl, sym, ap, ◌∙◌, arith, inl, inr, Some, None}
use Rattle.std.specs.Prelude.{◌⊎◌, Bool, Option, true, false, ◌||◌, nat_eq, slice_get, slice_set}
use Rattle.std.proofs.lemmas.Bool.{both_ways, eqb-true, eq-eqb, ne_eqb}
use Rattle.std.proofs.lemmas.Option.{none-some, same_Some}
use Rattle.std.proofs.lemmas.List.{append-nil}
use Rattle.number_sets.specs.Numbers.{is_stamped, is_among, with_if, with_number, AreStamped}

-- ---- bools

pub by_either : (a b : Bool) → (a || b) ≡ true → (a ≡ true) ⊎ (b ≡ true)
by_either true b e = inl refl
by_either false b e = inr e

pub or_first : {a : Bool} (b : Bool) → a ≡ true → (a || b) ≡ true
or_first b e = ap (λ x. x || b) e

pub or_next : (a : Bool) {b : Bool} → b ≡ true → (a || b) ≡ true
or_next true e = refl
or_next false e = e

or_swap : (a b c : Bool) → (a || (b || c)) ≡ (b || (a || c))
or_swap true true c = refl
or_swap true false c = refl
or_swap false b c = refl

or_false : (a : Bool) → (a || false) ≡ a
or_false true = refl
or_false false = refl

pub same_itself : (n : ℕ) → nat_eq n n ≡ true
same_itself n = eq-eqb n n refl

-- ---- one more number

among_last : (m n : ℕ) (xs : List ℕ) → is_among m (xs ++ n ∷ []) ≡ (nat_eq m n || is_among m xs)
among_last m n [] = refl
among_last m n (x ∷ xs) = ap (λ b. nat_eq m x || b) (among_last m n xs) ∙ or_swap (nat_eq m x) (nat_eq m n) (is_among m xs)

pub with_is : (m n : ℕ) (xs : List ℕ) → is_among m (with_number n xs) ≡ (nat_eq m n || is_among m xs)
with_is m n xs = by_test (is_among n xs) (nat_eq m n) refl refl
  where
    by_test : (b c : Bool) → is_among n xs ≡ b → nat_eq m n ≡ c → is_among m (with_if b n xs) ≡ (c || is_among m xs)
    by_test true true e f = ap (λ k. is_among k xs) (eqb-true m n f) ∙ e
    by_test true false e f = refl
    by_test false c e f = among_last m n xs ∙ ap (λ d. d || is_among m xs) f

pub with_more : (n : ℕ) (xs : List ℕ) → (more : List ℕ) × (with_number n xs ≡ xs ++ more)
with_more n xs = by_test (is_among n xs)
  where
    by_test : (b : Bool) → (more : List ℕ) × (with_if b n xs ≡ xs ++ more)
    by_test true = ([], sym (append-nil xs))
    by_test false = (n ∷ [], refl)

-- ---- stamps

-- without stamps
pub stamped_none : (now : ℕ) (stamps numbers : List ℕ) → now ≡ 1 → stamps ≡ [] → numbers ≡ [] → AreStamped now stamps numbers
stamped_none now stamps numbers d e f =
    record {
      begun = omega (arith, d);
      past = λ n stamp h. absurd (none-some stamp (sym (ap (λ l. slice_get l n) e) ∙ h));
      same = λ n. ap (λ l. is_stamped now (slice_get l n)) e ∙ sym (ap (is_among n) f);
    }

-- a stamp of the past
not_now : (now later : ℕ) (o : Option ℕ) → ((stamp : ℕ) → o ≡ Some stamp → stamp ≤ now) → now < later → is_stamped later o ≡ false
not_now now later None h l = refl
not_now now later (Some stamp) h l = ne_eqb stamp later (λ e. omega (arith, h stamp refl, l, e))

-- at a later time, at which nothing was added
pub stamped_later : (now later : ℕ) (stamps numbers : List ℕ) → now < later → AreStamped now stamps numbers → AreStamped later stamps []
stamped_later now later stamps numbers l h =
    record {
      begun = omega (arith, l);
      past = λ n stamp e. omega (arith, l, h.past n stamp e);
      same = λ n. not_now now later (slice_get stamps n) (h.past n) l;
    }

-- one stamp more
pub stamped_longer : (now : ℕ) (stamps numbers : List ℕ) → AreStamped now stamps numbers → AreStamped now (stamps ++ 0 ∷ []) numbers
stamped_longer now stamps numbers h =
    record {
      begun = h.begun;
      past = λ n stamp e. elim (longer_past stamps n stamp e) [ inl f ↦ h.past n stamp f | inr z ↦ omega (arith, z) ];
      same = λ n. longer_same stamps n ∙ h.same n;
    }
  where
    longer_past : (stamps : List ℕ) (n stamp : ℕ) → slice_get (stamps ++ 0 ∷ []) n ≡ Some stamp → (slice_get stamps n ≡ Some stamp) ⊎ (stamp ≡ 0)
    longer_past [] zero stamp e = inr (sym (same_Some 0 stamp e))
    longer_past [] (suc n) stamp e = inl e
    longer_past (s ∷ stamps) zero stamp e = inl e
    longer_past (s ∷ stamps) (suc n) stamp e = longer_past stamps n stamp e

    longer_same : (stamps : List ℕ) (n : ℕ) → is_stamped now (slice_get (stamps ++ 0 ∷ []) n) ≡ is_stamped now (slice_get stamps n)
    longer_same [] zero = ne_eqb 0 now (λ e. omega (arith, h.begun, e))
    longer_same [] (suc n) = refl
    longer_same (s ∷ stamps) zero = refl
    longer_same (s ∷ stamps) (suc n) = longer_same stamps n

set_same : (xs : List ℕ) (i x : ℕ) → i < length xs → slice_get (slice_set xs i x) i ≡ Some x
set_same [] i x h = absurd (omega (arith, h))
set_same (y ∷ xs) zero x h = refl
set_same (y ∷ xs) (suc i) x h = set_same xs i x (omega (arith, h))

set_other : (xs : List ℕ) (i j x : ℕ) → (j ≡ i → ⊥) → slice_get (slice_set xs i x) j ≡ slice_get xs j
set_other [] i j x n = refl
set_other (y ∷ xs) zero zero x n = absurd (n refl)
set_other (y ∷ xs) zero (suc j) x n = refl
set_other (y ∷ xs) (suc i) zero x n = refl
set_other (y ∷ xs) (suc i) (suc j) x n = set_other xs i j x (λ e. n (ap suc e))

set_stamped : (now : ℕ) (stamps : List ℕ) (i n : ℕ) → i < length stamps →
    is_stamped now (slice_get (slice_set stamps i now) n) ≡ (nat_eq n i || is_stamped now (slice_get stamps n))
set_stamped now stamps i n l = by_test (nat_eq n i) refl
  where
    by_test : (b : Bool) → nat_eq n i ≡ b → is_stamped now (slice_get (slice_set stamps i now) n) ≡ (b || is_stamped now (slice_get stamps n))
    by_test true e = ap (λ k. is_stamped now (slice_get (slice_set stamps i now) k)) (eqb-true n i e) ∙ ap (is_stamped now) (set_same stamps i now l)
        ∙ same_itself now
    by_test false e = ap (is_stamped now) (set_other stamps i n now (λ h. both_ways (nat_eq n i) e (eq-eqb n i h)))

set_past : (now : ℕ) (stamps : List ℕ) (i n stamp : ℕ) → ((m s : ℕ) → slice_get stamps m ≡ Some s → s ≤ now) →
    slice_get (slice_set stamps i now) n ≡ Some stamp → stamp ≤ now
set_past now [] i n stamp h e = absurd (none-some stamp e)
set_past now (s ∷ stamps) zero zero stamp h e = omega (arith, same_Some now stamp e)
set_past now (s ∷ stamps) zero (suc n) stamp h e = h (suc n) stamp e
set_past now (s ∷ stamps) (suc i) zero stamp h e = h zero stamp e
set_past now (s ∷ stamps) (suc i) (suc n) stamp h e = set_past now stamps i n stamp (λ m. h (suc m)) e

pub stamped_more : (now : ℕ) (stamps numbers new : List ℕ) (i : ℕ) → i < length stamps → new ≡ numbers ++ i ∷ [] →
    AreStamped now stamps numbers → AreStamped now (slice_set stamps i now) new
stamped_more now stamps numbers new i l e h =
    record {
      begun = h.begun;
      past = λ n stamp g. set_past now stamps i n stamp h.past g;
      same = λ n. set_stamped now stamps i n l ∙ ap (λ b. nat_eq n i || b) (h.same n) ∙ sym (among_last n i numbers) ∙ sym (ap (is_among n) e);
    }
