-- What std's sets say, of the lists that they are seen as.
use Rattle.std.proofs.Common.{◌≡◌, ℕ, ◌↔◌, Bool, false, List, IsTrue, sym, subst}
use Rattle.std.specs.Prelude.{map}
use mathlib.Core.Bool.{false≢true}
use Rattle.std.specs.BTreeSet.{BTreeSet, contains}
use Rattle.std.specs.List.{Contains}
use Rattle.std.specs.Ordering.{nat_cmp}
use Rattle.std.proofs.lemmas.Cmp.{nat_cmp_total}
use Rattle.std.proofs.lemmas.Map.Lookups.{exact_unsigned}
use Rattle.std.proofs.lemmas.Map.Views.{btree_set_contains_iff}
use Rattle.nim_plan.specs.declared.plan.SkipAt.{SkipAt}
use Rattle.nim_plan.specs.Order.{pair_order, skip_of}
use Rattle.nim_plan.proofs.Orders.{pairs_total, pairs_exact, pairs_are_skips}

abbrev Tells : Bool → Type 0 → Type 0
Tells b P = IsTrue b ↔ P

pub has_site : (s : BTreeSet ℕ) (sites : List ℕ) (site : ℕ) (b : Bool) → s.keys ≡ sites → b ≡ contains nat_cmp s site →
    IsTrue b ↔ Contains sites site
has_site s sites site b e f =
    subst (λ l. Tells b (Contains l site)) e
    (subst (λ c. Tells c (Contains s.keys site)) (sym f) (btree_set_contains_iff nat_cmp_total exact_unsigned s site))

pub has_skip : (s : BTreeSet (ℕ × ℕ)) (skips : List SkipAt) (p : ℕ × ℕ) (b : Bool) → map skip_of s.keys ≡ skips →
    b ≡ contains pair_order s p → IsTrue b ↔ Contains skips (skip_of p)
has_skip s skips p b e f =
    let kept : Tells b (Contains s.keys p) =
    subst (λ c. Tells c (Contains s.keys p)) (sym f) (btree_set_contains_iff pairs_total pairs_exact s p) in
    let seen = pairs_are_skips p s.keys in
    subst (λ l. Tells b (Contains l (skip_of p))) e (λ yes. seen.0 (kept.0 yes), λ has. kept.1 (seen.1 has))

pub no_skip : (s : BTreeSet (ℕ × ℕ)) (skips : List SkipAt) (p : ℕ × ℕ) → map skip_of s.keys ≡ skips → contains pair_order s p ≡ false →
    Contains skips (skip_of p) → ⊥
no_skip s skips p e f has = false≢true ((has_skip s skips p false e (sym f)).1 has)
