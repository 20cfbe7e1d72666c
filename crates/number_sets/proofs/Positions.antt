-- Numbers among others, and where they stand.
use Rattle.std.proofs.Common.{◌≡◌, ℕ, zero, suc, ◌<◌, ◌≤◌, List, [], ◌∷◌, ◌++◌, length, refl, sym, ap, ◌∙◌}
use Rattle.std.proofs.Common.{arith, inl, inr, Some, None}
use Rattle.std.specs.Prelude.{◌⊎◌, true, nat_eq, slice_get}
use Rattle.std.proofs.lemmas.Bool.{eqb-true, eq-eqb}
use Rattle.std.proofs.lemmas.Option.{none-some, same_Some}
use Rattle.number_sets.specs.Numbers.{is_among, with_number}
use Rattle.number_sets.proofs.Stamping.{by_either, or_first, or_next, same_itself, with_is}

pub among_more : (n : ℕ) (xs more : List ℕ) → is_among n xs ≡ true → is_among n (xs ++ more) ≡ true
among_more n [] more e = cc
among_more n (x ∷ xs) more e = by_first (by_either (nat_eq n x) (is_among n xs) e) (among_more n xs more)
  where
    by_first : (nat_eq n x ≡ true) ⊎ (is_among n xs ≡ true) → (is_among n xs ≡ true → is_among n (xs ++ more) ≡ true) →
        is_among n (x ∷ (xs ++ more)) ≡ true
    by_first (inl h) go = or_first (is_among n (xs ++ more)) h
    by_first (inr h) go = or_next (nat_eq n x) (go h)

pub among_at : (xs : List ℕ) (i n : ℕ) → slice_get xs i ≡ Some n → is_among n xs ≡ true
among_at [] i n e = absurd (none-some n e)
among_at (x ∷ xs) zero n e = or_first (is_among n xs) (eq-eqb n x (sym (same_Some x n e)))
among_at (x ∷ xs) (suc i) n e = or_next (nat_eq n x) (among_at xs i n e)

pub index_of : (n : ℕ) (xs : List ℕ) → is_among n xs ≡ true → (i : ℕ) × (slice_get xs i ≡ Some n)
index_of n [] e = cc
index_of n (x ∷ xs) e = by_first (by_either (nat_eq n x) (is_among n xs) e) (index_of n xs)
  where
    by_first : (nat_eq n x ≡ true) ⊎ (is_among n xs ≡ true) → (is_among n xs ≡ true → (i : ℕ) × (slice_get xs i ≡ Some n)) →
        (i : ℕ) × (slice_get (x ∷ xs) i ≡ Some n)
    by_first (inl h) go = (0, ap Some (sym (eqb-true n x h)))
    by_first (inr h) go = let r = go h in (suc r.0, r.1)

pub get_front : (xs more : List ℕ) (i : ℕ) → i < length xs → slice_get (xs ++ more) i ≡ slice_get xs i
get_front [] more i l = absurd (omega (arith, l))
get_front (x ∷ xs) more zero l = refl
get_front (x ∷ xs) more (suc i) l = get_front xs more i (omega (arith, l))

pub past_end : (xs : List ℕ) (i : ℕ) → slice_get xs i ≡ None → length xs ≤ i
past_end [] i e = omega arith
past_end (x ∷ xs) zero e = absurd (none-some x (sym e))
past_end (x ∷ xs) (suc i) e = omega (arith, past_end xs i e)

pub below_or_not : (a b : ℕ) → (a < b) ⊎ (b ≤ a)
below_or_not a b = grind arith

pub with_has : (n : ℕ) (xs : List ℕ) → is_among n (with_number n xs) ≡ true
with_has n xs = with_is n n xs ∙ or_first (is_among n xs) (same_itself n)
