-- Sites and skipped pairs in order, and what a plan has of them.
use Rattle.std.specs.Prelude.{◌≡◌, ◌↔◌, ◌⊎◌, ℕ, List, Contains}
use Rattle.std.specs.BTreeSet.{insert_key}
use Rattle.std.specs.List.Sorted.{IsStrictlySortedBy}
use Rattle.std.specs.Ordering.{nat_cmp, ordering_then}
use Rattle.std.specs.declared.cmp.Ordering.{Ordering}
use Rattle.nim_plan.specs.declared.plan.Act.{Act}
use Rattle.nim_plan.specs.declared.plan.Plan.{Plan}
use Rattle.nim_plan.specs.declared.plan.SiteAct.{SiteAct}
use Rattle.nim_plan.specs.declared.plan.SkipAt.{SkipAt}

-- ---- orders

-- by the first number, and then by the second
abbrev pub pair_order : ℕ × ℕ → ℕ × ℕ → Ordering
pair_order a b = ordering_then (nat_cmp a.0 b.0) (nat_cmp a.1 b.1)

-- by place, and then by exit
abbrev pub skip_order : SkipAt → SkipAt → Ordering
skip_order a b = pair_order (a.place, a.exit) (b.place, b.exit)

-- by site
abbrev pub site_order : SiteAct → SiteAct → Ordering
site_order a b = nat_cmp a.site b.site

abbrev pub skip_of : ℕ × ℕ → SkipAt
skip_of p = record { place = p.0; exit = p.1 }

-- ---- one more, at its place in the order, unless it is there

abbrev pub with_site : List ℕ → ℕ → List ℕ
with_site sites site = insert_key nat_cmp sites site

abbrev pub with_skip : List SkipAt → SkipAt → List SkipAt
with_skip skips skip = insert_key skip_order skips skip

-- ys are in order, have what xs have and x and nothing else, and are xs where x is one of them
pub record HasOneMore {X : Type 0} (order : X → X → Ordering) (xs ys : List X) (x : X) : Type 0 where
  pub rise : IsStrictlySortedBy order ys
  pub members : (y : X) → Contains ys y ↔ (Contains xs y ⊎ (y ≡ x))
  pub same : Contains xs x → ys ≡ xs

-- ---- plans

abbrev pub HasAct : Plan → ℕ → Act → Type 0
HasAct plan site act = Contains plan.sites (record { site = site; act = act })

abbrev pub HasSkip : Plan → ℕ → ℕ → Type 0
HasSkip plan place exit = Contains plan.skips (record { place = place; exit = exit })

-- its lists are in order, and name no site, place or pair twice
pub record IsInOrder (plan : Plan) : Type 0 where
  pub sites : IsStrictlySortedBy site_order plan.sites
  pub sinks : IsStrictlySortedBy nat_cmp plan.sinks
  pub skips : IsStrictlySortedBy skip_order plan.skips
