-- A list in order with one more.
use Rattle.std.proofs.Common.{◌≡◌, ℕ, zero, suc, ◌<◌, ◌⊎◌, List, [], ◌∷◌, length, get_or}
use Rattle.std.proofs.Common.{refl, sym, ap, ◌∙◌, subst, inl, inr, ⊎_elim, arith}
use Rattle.std.specs.BTreeSet.{insert_key}
use Rattle.std.specs.Cmp.{IsTotalOrder}
use Rattle.std.specs.List.{All, AllByRecursion, Contains}
use Rattle.std.specs.List.Sorted.{IsStrictlySortedBy}
use Rattle.std.specs.Ordering.{match_ordering, ordering_reverse}
use Rattle.std.specs.declared.cmp.Ordering.{Ordering}
use Rattle.std.specs.declared.cmp.Ordering.TheVariants.{Less, Equal, Greater}
use Rattle.std.proofs.lemmas.Cmp.{tied_itself}
use Rattle.std.proofs.lemmas.List.Elements.{All-from_recursion, All-contains, All-contains_itself, All-weaker, All-cons, All-nil}
use Rattle.std.proofs.lemmas.Map.Lookups.{CmpEqualImpliesEq}
use Rattle.std.proofs.lemmas.Map.Views.{All-insert_key}
use Rattle.nim_plan.specs.Order.{HasOneMore}

module _ {X : Type 0} where
  pub contains_first : (x : X) (xs : List X) → Contains (x ∷ xs) x
  contains_first x xs = (0, omega arith, refl)

  pub contains_later : (x y : X) (xs : List X) → Contains xs y → Contains (x ∷ xs) y
  contains_later x y xs h = (suc h.0, omega (arith, h.1), h.2)

  pub first_or_later : (x y : X) (xs : List X) → Contains (x ∷ xs) y → (x ≡ y) ⊎ Contains xs y
  first_or_later x y xs h = by h.0 h.1 h.2
    where
      by : (k : ℕ) → k < length (x ∷ xs) → get_or (x ∷ xs) k y ≡ y → (x ≡ y) ⊎ Contains xs y
      by zero within is = inl is
      by (suc k) within is = inr (k, omega arith, is)

  pub none_in_none : (x : X) → Contains [] x → ⊥
  none_in_none x h = omega (arith, h.1)

module _ {X : Type 0} (R : X → X → Ordering) (total : IsTotalOrder R) (exact : CmpEqualImpliesEq R) where
  turned : (x y : X) (o : Ordering) → R x y ≡ o → R y x ≡ ordering_reverse o
  turned x y o e = total.antisymm y x ∙ ap ordering_reverse e

  -- what is below x is below all that is above x
  all_above : (x y : X) (ys : List X) → R x y ≡ Less → AllByRecursion (λ z. R y z ≡ Less) ys → AllByRecursion (λ z. R x z ≡ Less) ys
  all_above x y [] e h = tt
  all_above x y (z ∷ zs) e h = (total.trans x y z e h.0, all_above x y zs e h.1)

  all_with : (P : X → Type 0) (x : X) (ys : List X) → AllByRecursion P ys → P x → AllByRecursion P (insert_key R ys x)
  all_with P x [] h p = (p, tt)
  all_with P x (y ∷ ys) h p = by (R x y) (all_with P x ys h.1 p)
    where
      by : (o : Ordering) → AllByRecursion P (insert_key R ys x) → AllByRecursion P (match_ordering o (x ∷ y ∷ ys) (y ∷ ys) (y ∷ insert_key R ys x))
      by Less more = (p, h)
      by Equal more = h
      by Greater more = (h.0, more)

  rises_with : (x : X) (ys : List X) → IsStrictlySortedBy R ys → IsStrictlySortedBy R (insert_key R ys x)
  unfolding IsStrictlySortedBy
  rises_with x [] h = (tt, tt)
  rises_with x (y ∷ ys) h = by (R x y) refl (rises_with x ys h.1)
    where
      by : (o : Ordering) → R x y ≡ o → IsStrictlySortedBy R (insert_key R ys x) →
          IsStrictlySortedBy R (match_ordering o (x ∷ y ∷ ys) (y ∷ ys) (y ∷ insert_key R ys x))
      by Less e more = ((e, all_above x y ys e h.0), h)
      by Equal e more = h
      by Greater e more = (all_with (λ z. R y z ≡ Less) x ys h.0 (turned x y Greater e), more)

  has_new : (x : X) (ys : List X) → Contains (insert_key R ys x) x
  has_new x [] = contains_first x []
  has_new x (y ∷ ys) = by (R x y) refl (has_new x ys)
    where
      by : (o : Ordering) → R x y ≡ o → Contains (insert_key R ys x) x →
          Contains (match_ordering o (x ∷ y ∷ ys) (y ∷ ys) (y ∷ insert_key R ys x)) x
      by Less e more = contains_first x (y ∷ ys)
      by Equal e more = subst (λ z. Contains (z ∷ ys) x) (exact x y e) (contains_first x ys)
      by Greater e more = contains_later y x (insert_key R ys x) more

  has_old : (x : X) (ys : List X) → All (Contains (insert_key R ys x)) ys
  has_old x [] = All-nil (Contains (insert_key R [] x))
  has_old x (y ∷ ys) = by (R x y) (has_old x ys)
    where
      by : (o : Ordering) → All (Contains (insert_key R ys x)) ys →
          All (Contains (match_ordering o (x ∷ y ∷ ys) (y ∷ ys) (y ∷ insert_key R ys x))) (y ∷ ys)
      by Less more =
          All-weaker (Contains (y ∷ ys)) (Contains (x ∷ y ∷ ys)) (λ z. contains_later x z (y ∷ ys)) (y ∷ ys) (All-contains_itself (y ∷ ys))
      by Equal more = All-contains_itself (y ∷ ys)
      by Greater more = All-cons (Contains (y ∷ insert_key R ys x)) y ys (contains_first y (insert_key R ys x))
          (All-weaker (Contains (insert_key R ys x)) (Contains (y ∷ insert_key R ys x)) (λ z. contains_later y z (insert_key R ys x)) ys more)

  -- where x is there nothing changes
  same_with : (x : X) (ys : List X) → IsStrictlySortedBy R ys → Contains ys x → insert_key R ys x ≡ ys
  unfolding IsStrictlySortedBy
  same_with x [] h has = absurd (none_in_none x has)
  same_with x (y ∷ ys) h has = by (R x y) refl (λ later. same_with x ys h.1 later)
    where
      ties : y ≡ x → R x y ≡ Equal
      ties first = ap (R x) first ∙ tied_itself total x

      above : Contains ys x → R y x ≡ Less
      above later = All-contains (λ z. R y z ≡ Less) ys x (All-from_recursion (λ z. R y z ≡ Less) ys h.0) later

      by : (o : Ordering) → R x y ≡ o → (Contains ys x → insert_key R ys x ≡ ys) →
          match_ordering o (x ∷ y ∷ ys) (y ∷ ys) (y ∷ insert_key R ys x) ≡ y ∷ ys
      by Less e more = ⊎_elim
          (λ (first : y ≡ x). let tied : R x y ≡ Equal = ties first in cc)
          (λ (later : Contains ys x). let greater : R x y ≡ Greater = turned y x Less (above later) in cc)
          (first_or_later y x ys has)
      by Equal e more = refl
      by Greater e more = ⊎_elim
          (λ (first : y ≡ x). let tied : R x y ≡ Equal = ties first in cc)
          (λ (later : Contains ys x). ap (λ zs. y ∷ zs) (more later))
          (first_or_later y x ys has)

  abbrev Either : List X → X → X → Type 0
  Either xs x y = Contains xs y ⊎ (y ≡ x)

  pub has_one_more : (xs : List X) (x : X) → IsStrictlySortedBy R xs → HasOneMore R xs (insert_key R xs x) x
  has_one_more xs x h = record { rise = rises_with x xs h; members = λ y. (from y, into y); same = same_with x xs h }
    where
      from : (y : X) → Contains (insert_key R xs x) y → Contains xs y ⊎ (y ≡ x)
      from y has = All-contains (Either xs x) (insert_key R xs x) y
          (All-insert_key R x (Either xs x) xs (All-weaker (Contains xs) (Either xs x) (λ z old. inl old) xs (All-contains_itself xs)) (inr refl)) has

      into : (y : X) → Contains xs y ⊎ (y ≡ x) → Contains (insert_key R xs x) y
      into y = ⊎_elim (λ (old : Contains xs y). All-contains (Contains (insert_key R xs x)) xs y (has_old x xs) old)
          (λ (new : y ≡ x). subst (Contains (insert_key R xs x)) (sym new) (has_new x xs))
