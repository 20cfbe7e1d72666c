-- The orders tell apart what isn't the same, and pairs are in order as skips are.
use Rattle.std.proofs.Common.{◌≡◌, ℕ, ◌↔◌, List, [], ◌∷◌, refl, ap, subst, ⊎_elim}
use Rattle.std.specs.Prelude.{map}
use Rattle.std.specs.BTreeSet.{insert_key}
use Rattle.std.specs.Cmp.{IsTotalOrder}
use Rattle.std.specs.List.{AllByRecursion, Contains}
use Rattle.std.specs.List.Sorted.{IsStrictlySortedBy}
use Rattle.std.specs.Ordering.{match_ordering, nat_cmp}
use Rattle.std.specs.declared.cmp.Ordering.{Ordering}
use Rattle.std.specs.declared.cmp.Ordering.TheVariants.{Less, Equal, Greater}
use Rattle.std.proofs.lemmas.Cmp.{nat_cmp_total, on_total, then_total}
use Rattle.std.proofs.lemmas.Map.Lookups.{CmpEqualImpliesEq, exact_unsigned, exact_pairs}
use Rattle.nim_plan.specs.declared.plan.SkipAt.{SkipAt}
use Rattle.nim_plan.specs.Order.{pair_order, skip_of, skip_order, with_skip}
use Rattle.nim_plan.proofs.OneMore.{contains_first, contains_later, first_or_later, none_in_none}

pub pairs_total : IsTotalOrder pair_order
pairs_total = then_total (on_total (λ (p : ℕ × ℕ). p.0) nat_cmp_total) (on_total (λ (p : ℕ × ℕ). p.1) nat_cmp_total)

pub pairs_exact : CmpEqualImpliesEq pair_order
pairs_exact = exact_pairs nat_cmp nat_cmp exact_unsigned exact_unsigned

pub skips_total : IsTotalOrder skip_order
skips_total = on_total (λ (s : SkipAt). (s.place, s.exit)) pairs_total

pub skips_exact : CmpEqualImpliesEq skip_order
skips_exact x y e = ap skip_of (pairs_exact (x.place, x.exit) (y.place, y.exit) e)

-- ---- the pairs that a set keeps, and the skips that they are

all_skips : (p : ℕ × ℕ) (ps : List (ℕ × ℕ)) → AllByRecursion (λ q. pair_order p q ≡ Less) ps →
    AllByRecursion (λ s. skip_order (skip_of p) s ≡ Less) (map skip_of ps)
all_skips p [] h = tt
all_skips p (q ∷ qs) h = (h.0, all_skips p qs h.1)

pub skips_rise : (ps : List (ℕ × ℕ)) → IsStrictlySortedBy pair_order ps → IsStrictlySortedBy skip_order (map skip_of ps)
unfolding IsStrictlySortedBy
skips_rise [] h = tt
skips_rise (p ∷ ps) h = (all_skips p ps h.0, skips_rise ps h.1)

pub skips_with : (p : ℕ × ℕ) (ps : List (ℕ × ℕ)) → map skip_of (insert_key pair_order ps p) ≡ with_skip (map skip_of ps) (skip_of p)
skips_with p [] = refl
skips_with p (q ∷ qs) = by (pair_order p q) (skips_with p qs)
  where
    by : (o : Ordering) → map skip_of (insert_key pair_order qs p) ≡ with_skip (map skip_of qs) (skip_of p) →
        map skip_of (match_ordering o (p ∷ q ∷ qs) (q ∷ qs) (q ∷ insert_key pair_order qs p)) ≡
        match_ordering o (skip_of p ∷ skip_of q ∷ map skip_of qs) (skip_of q ∷ map skip_of qs) (skip_of q ∷ with_skip (map skip_of qs) (skip_of p))
    by Less more = refl
    by Equal more = refl
    by Greater more = ap (λ ss. skip_of q ∷ ss) more

has_skip : (p : ℕ × ℕ) (ps : List (ℕ × ℕ)) → Contains ps p → Contains (map skip_of ps) (skip_of p)
has_skip p [] h = absurd (none_in_none p h)
has_skip p (q ∷ qs) h = ⊎_elim
    (λ (first : q ≡ p). subst (λ s. Contains (skip_of q ∷ map skip_of qs) s) (ap skip_of first) (contains_first (skip_of q) (map skip_of qs)))
    (λ (later : Contains qs p). contains_later (skip_of q) (skip_of p) (map skip_of qs) (has_skip p qs later))
    (first_or_later q p qs h)

has_pair : (p : ℕ × ℕ) (ps : List (ℕ × ℕ)) → Contains (map skip_of ps) (skip_of p) → Contains ps p
has_pair p [] h = absurd (none_in_none (skip_of p) h)
has_pair p (q ∷ qs) h = ⊎_elim
    (λ (first : skip_of q ≡ skip_of p).
    subst (λ r. Contains (q ∷ qs) r) (ap (λ (s : SkipAt). (s.place, s.exit)) first) (contains_first q qs))
    (λ (later : Contains (map skip_of qs) (skip_of p)). contains_later q p qs (has_pair p qs later))
    (first_or_later (skip_of q) (skip_of p) (map skip_of qs) h)

pub pairs_are_skips : (p : ℕ × ℕ) (ps : List (ℕ × ℕ)) → Contains ps p ↔ Contains (map skip_of ps) (skip_of p)
pairs_are_skips p ps = (has_skip p ps, has_pair p ps)
