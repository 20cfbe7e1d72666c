-- What a binary search finds in a list whose keys rise.
use Rattle.std.proofs.Common.{◌≡◌, ℕ, ◌+◌, ◌<◌, ◌≤◌, List, length, get_or, sym, ap, ◌∙◌, subst, ⊎_elim, arith, Err}
use Rattle.std.specs.Cmp.{IsTotalOrder}
use Rattle.std.specs.List.{Contains}
use Rattle.std.specs.List.Sorted.{IsStrictlySortedBy, IsNonDecreasingBy, IsBinarySearchResult}
use Rattle.std.specs.Ordering.{ordering_reverse, ordering_index, is_lt}
use Rattle.std.specs.declared.cmp.Ordering.{Ordering}
use Rattle.std.specs.declared.cmp.Ordering.TheVariants.{Less, Equal, Greater}
use Rattle.std.proofs.lemmas.Bool.{cases_lt}
use Rattle.std.proofs.lemmas.Cmp.{tied_itself}
use Rattle.std.proofs.lemmas.List.{get_or_default}
use Rattle.std.proofs.lemmas.List.Sorted.{searchable_from_sorted}
use Rattle.std.proofs.lemmas.Map.Keys.{Less-from_sorted}

module _ {X K : Type 0} (key : X → K) (R : K → K → Ordering) (total : IsTotalOrder R) (xs : List X)
    (sorted : IsStrictlySortedBy (λ a b. R (key a) (key b)) xs) where
  apart : (i j : ℕ) (d : X) → i < j → j < length xs → R (key (get_or xs i d)) (key (get_or xs j d)) ≡ Less
  apart i j d lt within = Less-from_sorted (λ a b. R (key a) (key b)) xs i j d sorted lt within

  -- two elements of one key are one
  pub one_of_key : (a b : X) → Contains xs a → Contains xs b → key a ≡ key b → a ≡ b
  one_of_key a b has other same = ⊎_elim
      (λ (lt : has.0 < other.0). absurd (unequal (key a) (key b) same (below has.0 other.0 other.1 lt a b has.2 other.2)))
      (λ (ge : other.0 ≤ has.0). ⊎_elim
      (λ (lt : other.0 < has.0). absurd (unequal (key b) (key a) (sym same) (below other.0 has.0 has.1 lt b a other.2 has.2)))
      (λ (le : has.0 ≤ other.0).
      let one : has.0 ≡ other.0 = omega (arith, ge, le) in
      sym has.2 ∙ get_or_default xs has.0 a b has.1 ∙ ap (λ k. get_or xs k b) one ∙ other.2)
      (cases_lt other.0 has.0))
      (cases_lt has.0 other.0)
    where
      unequal : (k l : K) → k ≡ l → R k l ≡ Less → ⊥
      unequal k l e less = let tied : R k k ≡ Equal = tied_itself total k in let at_one : R k k ≡ Less = subst (λ m. R k m ≡ Less) (sym e) less in cc

      below : (i j : ℕ) → j < length xs → i < j → (a b : X) → get_or xs i a ≡ a → get_or xs j b ≡ b → R (key a) (key b) ≡ Less
      below i j within lt a b a_is b_is =
          let at_a : get_or xs j a ≡ get_or xs j b = get_or_default xs j a b within in
          let less : R (key (get_or xs i a)) (key (get_or xs j a)) ≡ Less = apart i j a lt within in
          cc

  rises : (k : K) → IsNonDecreasingBy (λ y. ordering_index (R (key y) k)) xs
  rises k = searchable_from_sorted total key xs k (λ i d low high.
      ap is_lt (total.antisymm (key (get_or xs (i + 1) d)) (key (get_or xs i d)) ∙ ap ordering_reverse (apart i (i + 1) d (omega arith) high)))

  -- where a search ends between elements, none has the key
  pub none_of_key : (k : K) (i : ℕ) → IsBinarySearchResult (λ y. R (key y) k) xs (Err i) → (x : X) → Contains xs x → key x ≡ k → ⊥
  none_of_key k i found x has same =
      let parted = found (rises k) in
      let tied : R k k ≡ Equal = tied_itself total k in
      let at_x : R (key x) k ≡ Equal = ap (λ l. R l k) same ∙ tied in
      let is : get_or xs has.0 x ≡ x = has.2 in
      ⊎_elim
      (λ (lt : has.0 < i). let less : R (key (get_or xs has.0 x)) k ≡ Less = parted.0 has.0 x (omega arith) lt in cc)
      (λ (ge : i ≤ has.0). let greater : R (key (get_or xs has.0 x)) k ≡ Greater = parted.1 has.0 x ge has.1 in cc)
      (cases_lt has.0 i)
