-- What a binary search tells of a plan's lists.
use Rattle.std.proofs.Common.{◌≡◌, ℕ, ◌<◌, List, length, get_or, Some, Result, Ok, Err, IsTrue, refl, sym, ap, subst}
use mathlib.Core.Bool.{false≢true}
use Rattle.std.specs.Prelude.{is_ok}
use Rattle.std.specs.List.{Contains, HoldsAt}
use Rattle.std.specs.List.Sorted.{IsStrictlySortedBy, IsBinarySearchResult, IsSearchInRange}
use Rattle.std.specs.Ordering.{nat_cmp}
use Rattle.std.specs.declared.cmp.Ordering.TheVariants.{Equal}
use Rattle.std.proofs.lemmas.Cmp.{nat_cmp_total}
use Rattle.std.proofs.lemmas.List.Elements.{Contains-get_or}
use Rattle.std.proofs.lemmas.Map.Lookups.{exact_unsigned}
use Rattle.nim_plan.specs.declared.plan.Act.{Act}
use Rattle.nim_plan.specs.declared.plan.SiteAct.{SiteAct}
use Rattle.nim_plan.specs.declared.plan.SkipAt.{SkipAt}
use Rattle.nim_plan.specs.Order.{pair_order, site_order, skip_of, skip_order}
use Rattle.nim_plan.proofs.Orders.{pairs_total, pairs_exact}
use Rattle.nim_plan.proofs.Search.{one_of_key, none_of_key}

abbrev pub act_at : ℕ → Act → SiteAct
act_at site act = record { site = site; act = act }

pub found_act : (found sites : List SiteAct) (site at : ℕ) (d : SiteAct) → found ≡ sites → at < length found →
    HoldsAt (λ e. nat_cmp e.site site ≡ Equal) found at → Contains sites (act_at site (get_or found at d).act)
found_act found sites site at d e within holds =
    let entry : SiteAct = get_or found at d in
    let same : entry.site ≡ site = exact_unsigned entry.site site (holds d) in
    let here : Contains sites entry = subst (λ l. Contains l entry) e (Contains-get_or found at d within) in
    subst (λ n. Contains sites (act_at n entry.act)) same here

module _ (sites : List SiteAct) (order : IsStrictlySortedBy site_order sites) (site : ℕ) where
  pub one_act : (a b : Act) → Contains sites (act_at site a) → Contains sites (act_at site b) → Some a ≡ Some b
  one_act a b has other =
      ap (λ (e : SiteAct). Some e.act) (one_of_key (λ (e : SiteAct). e.site) nat_cmp nat_cmp_total sites order (act_at site a) (act_at site b) has other refl)

  pub no_act : (i : ℕ) (act : Act) → IsBinarySearchResult (λ (e : SiteAct). nat_cmp e.site site) sites (Err i) → Contains sites (act_at site act) → ⊥
  no_act i act found has = none_of_key (λ (e : SiteAct). e.site) nat_cmp nat_cmp_total sites order site i found (act_at site act) has refl

abbrev pub pair_of : SkipAt → ℕ × ℕ
pair_of s = (s.place, s.exit)

module _ (found skips : List SkipAt) (p : ℕ × ℕ) (e : found ≡ skips) where
  pub only_skips : (r : Result ℕ ℕ) → IsSearchInRange r (length found) → IsBinarySearchResult (λ s. pair_order (pair_of s) p) found r →
      IsTrue (is_ok r) → Contains skips (skip_of p)
  only_skips (Ok at) within holds said = subst (λ l. Contains l (skip_of p)) e
      (at, within, ap skip_of (pairs_exact (pair_of (get_or found at (skip_of p))) p (holds (skip_of p))))
  only_skips (Err i) within ends said = absurd (false≢true said)

  pub all_skips : (r : Result ℕ ℕ) → IsBinarySearchResult (λ s. pair_order (pair_of s) p) found r → IsStrictlySortedBy skip_order skips →
      Contains skips (skip_of p) → IsTrue (is_ok r)
  all_skips (Ok at) holds order has = refl
  all_skips (Err i) ends order has =
      absurd (none_of_key pair_of pair_order pairs_total found (subst (IsStrictlySortedBy skip_order) (sym e) order) p i ends (skip_of p)
      (subst (λ l. Contains l (skip_of p)) (sym e) has) refl)
