-- The tests of order say what the definition of a file says of its lists.
use Rattle.std.proofs.Common.{◌≡◌, ◌<◌, ℕ, ◌+◌, ◌%◌, ◌⊎◌, inl, inr, Bool, true, false, ◌&&◌, ◌||◌, eqb, ltb, leb, List, [], ◌∷◌, refl}
use Rattle.std.proofs.lemmas.Bool.{leb-true, le-leb, ltb-true, lt-ltb, eqb-true, eq-eqb}
use Rattle.std.specs.Prelude.{Option, Some, None}
use Rattle.nim_plan.specs.declared.plan.SiteAct.{SiteAct}
use Rattle.nim_plan.specs.declared.plan.SkipAt.{SkipAt}
use Rattle.rv32_isa.specs.declared.image.HookAt.{HookAt}
use Rattle.rv32_isa.specs.Hooks.{HooksStand, code_at}
use Rattle.elf32.specs.Elf.{Ordered}
use Rattle.elf32.specs.Reading.{follows, rises, site_before, skip_before, stands, stand}

-- both hold, and a test that both hold
both_true : (a b : Bool) → a && b ≡ true → (a ≡ true) × (b ≡ true)
both_true true b e = (refl, e)
both_true false b e = absurd (cc)

true_both : (a b : Bool) → a ≡ true → b ≡ true → a && b ≡ true
true_both true b e f = f
true_both false b e f = absurd (cc)

-- a list rises where the test says so
pub ordered_by : {A : Type 0} (before : A → A → Bool) (Before : A → A → Type 0) → ((a b : A) → before a b ≡ true → Before a b)
    → (last : Option A) (items : List A) → rises before last items ≡ true → Ordered Before items
ordered_by before Before says last [] e = tt
ordered_by before Before says last (a ∷ []) e = tt
ordered_by before Before says last (a ∷ b ∷ items) e =
    let first = both_true (follows before last a) (rises before (Some a) (b ∷ items)) e in
    let second = both_true (before a b) (rises before (Some b) items) first.1 in
    (says a b second.0, ordered_by before Before says (Some a) (b ∷ items) first.1)

-- and the test says so where it rises
rises_from : {A : Type 0} (before : A → A → Bool) (Before : A → A → Type 0) → ((a b : A) → Before a b → before a b ≡ true) → (a : A) (items : List A)
    → Ordered Before (a ∷ items) → rises before (Some a) items ≡ true
rises_from before Before tests a [] ordered = refl
rises_from before Before tests a (b ∷ items) ordered =
    true_both (before a b) (rises before (Some b) items) (tests a b ordered.0) (rises_from before Before tests b items ordered.1)

pub rises_by : {A : Type 0} (before : A → A → Bool) (Before : A → A → Type 0) → ((a b : A) → Before a b → before a b ≡ true) → (items : List A)
    → Ordered Before items → rises before None items ≡ true
rises_by before Before tests [] ordered = refl
rises_by before Before tests (a ∷ items) ordered = rises_from before Before tests a items ordered

-- ---- hooks

pub stand_by : (size least : ℕ) (hooks : List HookAt) → stand size least hooks ≡ true → HooksStand size least hooks
stand_by size least [] e = tt
stand_by size least (hook ∷ hooks) e =
    let parts = both_true (stands least (code_at + size) hook) (stand size (hook.addr + 1) hooks) e in
    let here = both_true (leb least hook.addr) _ parts.0 in
    let end = both_true (leb (hook.addr + 4) (code_at + size)) _ here.1 in
    let kind = both_true (eqb (hook.addr % 4) 0) (ltb hook.kind 4) end.1 in
    (leb-true _ _ here.0, (leb-true _ _ end.0, (eqb-true _ _ kind.0, (ltb-true _ _ kind.1, stand_by size (hook.addr + 1) hooks parts.1))))

pub stand_tests : (size least : ℕ) (hooks : List HookAt) → HooksStand size least hooks → stand size least hooks ≡ true
stand_tests size least [] s = refl
stand_tests size least (hook ∷ hooks) s =
    let least_is : leb least hook.addr ≡ true = le-leb _ _ s.0 in
    let end_is : leb (hook.addr + 4) (code_at + size) ≡ true = le-leb _ _ s.1.0 in
    let whole_is : eqb (hook.addr % 4) 0 ≡ true = eq-eqb _ _ s.1.1.0 in
    let kind_is : ltb hook.kind 4 ≡ true = lt-ltb _ _ s.1.1.1.0 in
    true_both (stands least (code_at + size) hook) (stand size (hook.addr + 1) hooks)
    (true_both (leb least hook.addr) _ least_is (true_both (leb (hook.addr + 4) (code_at + size)) _ end_is
    (true_both (eqb (hook.addr % 4) 0) (ltb hook.kind 4) whole_is kind_is))) (stand_tests size (hook.addr + 1) hooks s.1.1.1.1)

-- ---- sites, sinks and skips

pub sites_by : (sites : List SiteAct) → rises site_before None sites ≡ true → Ordered (λ a b. a.site < b.site) sites
sites_by sites e = ordered_by site_before (λ a b. a.site < b.site) (λ a b less. ltb-true a.site b.site less) None sites e

pub sites_tests : (sites : List SiteAct) → Ordered (λ a b. a.site < b.site) sites → rises site_before None sites ≡ true
sites_tests sites ordered = rises_by site_before (λ a b. a.site < b.site) (λ a b less. lt-ltb a.site b.site less) sites ordered

pub sinks_by : (sinks : List ℕ) → rises ltb None sinks ≡ true → Ordered (λ a b. a < b) sinks
sinks_by sinks e = ordered_by ltb (λ a b. a < b) (λ a b less. ltb-true a b less) None sinks e

pub sinks_tests : (sinks : List ℕ) → Ordered (λ a b. a < b) sinks → rises ltb None sinks ≡ true
sinks_tests sinks ordered = rises_by ltb (λ a b. a < b) (λ a b less. lt-ltb a b less) sinks ordered

-- one of two tests holds, and a test that one of them does
either_true : (a b : Bool) → a || b ≡ true → (a ≡ true) ⊎ (b ≡ true)
either_true true b e = inl refl
either_true false b e = inr e

first_true : (a b : Bool) → a ≡ true → a || b ≡ true
first_true true b e = refl
first_true false b e = absurd (cc)

second_true : (a b : Bool) → b ≡ true → a || b ≡ true
second_true true b e = refl
second_true false b e = e

-- by place, and then by exit
abbrev pub SkipBefore : SkipAt → SkipAt → Type 0
SkipBefore a b = (a.place < b.place) ⊎ ((a.place ≡ b.place) × (a.exit < b.exit))

skip_by : (a b : SkipAt) → skip_before a b ≡ true → SkipBefore a b
skip_by a b e = by (either_true (ltb a.place b.place) (eqb a.place b.place && ltb a.exit b.exit) e) where
  by : (ltb a.place b.place ≡ true) ⊎ (eqb a.place b.place && ltb a.exit b.exit ≡ true) → SkipBefore a b
  by (inl less) = inl (ltb-true _ _ less)
  by (inr same) = let parts = both_true (eqb a.place b.place) (ltb a.exit b.exit) same in inr (eqb-true _ _ parts.0, ltb-true _ _ parts.1)

skip_tests : (a b : SkipAt) → SkipBefore a b → skip_before a b ≡ true
skip_tests a b (inl less) = first_true (ltb a.place b.place) (eqb a.place b.place && ltb a.exit b.exit) (lt-ltb _ _ less)
skip_tests a b (inr same) =
    let place : eqb a.place b.place ≡ true = eq-eqb _ _ same.0 in
    let exit : ltb a.exit b.exit ≡ true = lt-ltb _ _ same.1 in
    second_true (ltb a.place b.place) (eqb a.place b.place && ltb a.exit b.exit) (true_both (eqb a.place b.place) (ltb a.exit b.exit) place exit)

pub skips_by : (skips : List SkipAt) → rises skip_before None skips ≡ true → Ordered SkipBefore skips
skips_by skips e = ordered_by skip_before SkipBefore skip_by None skips e

pub skips_tests : (skips : List SkipAt) → Ordered SkipBefore skips → rises skip_before None skips ≡ true
skips_tests skips ordered = rises_by skip_before SkipBefore skip_tests skips ordered
