-- The places of calls that are active don't overlap.
use Rattle.std.proofs.Common.{◌≡◌, ◌≢◌, ◌⊎◌, inl, inr, ℕ, ◌+◌, ◌%◌, ◌<◌, ◌≤◌, List, [], ◌∷◌, length, Option, Some, true, false}
use Rattle.std.proofs.Common.{refl, sym, ap, subst, ◌∙◌, arith}
use Rattle.std.proofs.lemmas.Bool.{cases_order}
use Rattle.std.proofs.lemmas.Option.{same_Some}
use Rattle.rv32_isa.specs.Image.{stack_at}
use Rattle.nim_types.specs.declared.types.TypeDef.{TypeDef}
use Rattle.flat_code.specs.declared.place.PlaceKind.{PlaceKind}
use Rattle.flat_code.specs.declared.place.PlaceKind.TheVariants as K
use Rattle.flat_code.specs.declared.block.BlockLine.{BlockLine}
use Rattle.flat_code.specs.declared.code.Code.{Code}
use Rattle.flat_code.specs.Fits.{is_value, is_location, is_declared}
use Rattle.word_lowering.specs.Lowered.{data_at}
use Rattle.word_lowering.proofs.ShapeFacts.{never}
use Rattle.word_lowering.specs.declared.homes.TheConstants.{OWN_FROM}
use Rattle.word_lowering.specs.declared.homes.Home.{Home}
use Rattle.word_lowering.specs.declared.homes.Home.TheVariants.{Variable, Placed, Static}
use Rattle.word_lowering.specs.declared.homes.Housed.{Housed}
use Rattle.word_lowering.specs.declared.homes.Waiter.{Waiter}
use Rattle.word_lowering.specs.declared.texts.TheConstants.{FIXED_BYTES}
use Rattle.word_lowering.specs.declared.may_lower.TheConstants.{MOST_DATA}
use Rattle.word_lowering.specs.Layouts.{is_empty}
use Rattle.word_lowering.specs.LineCode.{variable_in}
use Rattle.word_lowering.specs.WaitingCode.{waiter_at, waiting_house, waiter_house}
use Rattle.word_lowering.proofs.HomesApart.{Apart, Each, Parted, AllApart}
use Rattle.word_lowering.proofs.Sites.{room, Among, Housing, in_variable, by_address, in_places, in_data, InMemory, Site, next_base, AmongSites}
use Rattle.word_lowering.proofs.Sites.{data_end, IsHoused, IsTakenBefore, IsBody, Linked}
use Rattle.word_lowering.proofs.Scenes.{address_of, Name, of_value, of_location, of_place, of_waiting, kind_in, number_in, house, IsPlaced}
use Rattle.word_lowering.proofs.Scenes.{variable_at, HasVariable, IsThere}

-- ---- names of different things

pub value_location : (k : PlaceKind) → is_value k ≡ true → is_location k ≡ true → ⊥
value_location K.Location h g = never h
value_location K.Within h g = never h
value_location k h g = never g

value_declared : (k : PlaceKind) → is_value k ≡ true → is_declared k ≡ true → ⊥
value_declared K.Temp h g = never g
value_declared K.Counter h g = never g
value_declared k h g = never h

location_declared : (k : PlaceKind) → is_location k ≡ true → is_declared k ≡ true → ⊥
location_declared K.Location h g = never g
location_declared K.Within h g = never g
location_declared k h g = never h

-- different ones have different numbers or kinds
differ : (e f : Name) → IsPlaced e → IsPlaced f → (number_in e ≡ number_in f) → (k : PlaceKind) → kind_in e k ≡ true → kind_in f k ≡ true → e ≢ f → ⊥
differ (of_waiting n) f i j is k x y ne = absurd i
differ e (of_waiting n) i j is k x y ne = absurd j
differ (of_value t) (of_value u) i j n k x y ne = ne (ap of_value n)
differ (of_value t) (of_location u) i j n k x y ne = value_location k x y
differ (of_value t) (of_place u) i j n k x y ne = value_declared k x y
differ (of_location t) (of_value u) i j n k x y ne = value_location k y x
differ (of_location t) (of_location u) i j n k x y ne = ne (ap of_location n)
differ (of_location t) (of_place u) i j n k x y ne = location_declared k x y
differ (of_place t) (of_value u) i j n k x y ne = value_declared k y x
differ (of_place t) (of_location u) i j n k x y ne = location_declared k y x
differ (of_place t) (of_place u) i j n k x y ne = ne (ap of_place n)

-- ---- homes of one layout

each_at : (P : Housed → Type 0) (hs : List Housed) (k : Housed) → Each P hs → Among k hs → P k
each_at P [] k e i = absurd i
each_at P (h ∷ hs) k e (inl i) = subst P i e.0
each_at P (h ∷ hs) k e (inr i) = each_at P hs k e.1 i

pub among_apart : (hs : List Housed) (h k : Housed) → AllApart hs → Among h hs → Among k hs → h ≢ k → Parted h k ⊎ Parted k h
among_apart [] h k apart i j ne = absurd i
among_apart (x ∷ hs) h k apart (inl e) (inl f) ne = absurd (ne (sym e ∙ f))
among_apart (x ∷ hs) h k apart (inl e) (inr j) ne =
    inl (subst (λ y. Parted y k) e (each_at (λ other. Parted x other) hs k apart.0 j))
among_apart (x ∷ hs) h k apart (inr i) (inl f) ne =
    inr (subst (λ y. Parted y h) f (each_at (λ other. Parted x other) hs h apart.0 i))
among_apart (x ∷ hs) h k apart (inr i) (inr j) ne = among_apart hs h k apart.1 i j ne

abbrev NotStatic : Home → Type 0
NotStatic (Variable v) = Unit {0}
NotStatic (Placed at) = Unit {0}
NotStatic (Static at) = ⊥

-- two ranges that don't overlap
abbrev pub Beside : (a n b k : ℕ) → Type 0
Beside a n b k = (a + n ≤ b) ⊎ (b + k ≤ a)

pub beside_turned : (a n b k : ℕ) → Beside a n b k → Beside b k a n
beside_turned a n b k (inl h) = inr h
beside_turned a n b k (inr h) = inl h

module _ (table : List TypeDef) (blocks : Code BlockLine) where
  -- what is there is housed
  pub houses : (s : Site) (e : Name) → IsBody table blocks s.body → IsThere s e → IsHoused table blocks s.body (house s e)
  houses s (of_waiting node) b x =
      subst (λ o. IsHoused table blocks s.body (waiter_house o)) (sym x.among.1) (b.waiting.housed node x.among.0 x.among.1)
  houses s e b x = b.housed (house s e) x.among x.own

  -- homes that are apart
  abbrev pub AreApart : Housed → Housed → Type 0
  AreApart h k = Apart h.home h.bytes k.home k.bytes

  -- what waits stands behind all places
  before_waiter : (home : Home) (bytes : ℕ) (w : Waiter) → IsTakenBefore table blocks home bytes w → Apart home bytes (Placed w.at) w.bytes
  before_waiter (Variable v) bytes w h = tt
  before_waiter (Placed at) bytes w h = h
  before_waiter (Static at) bytes w h = tt

  waits_behind : (s : Site) (node : ℕ) (f : Name) → IsBody table blocks s.body → (x : IsThere s (of_waiting node))
      → IsTakenBefore table blocks (house s f).home (house s f).bytes x.among.0 → AreApart (house s f) (house s (of_waiting node))
  waits_behind s node f b x h =
      subst (λ o. AreApart (house s f) (waiter_house o)) (sym x.among.1) (before_waiter (house s f).home (house s f).bytes x.among.0 h)

  pub names_parted : (s : Site) (e f : Name) → IsBody table blocks s.body → IsThere s e → IsThere s f → e ≢ f
      → AreApart (house s e) (house s f) ⊎ AreApart (house s f) (house s e)
  names_parted s (of_waiting n) (of_waiting m) b x y ne = inl_or (two x.among.0 y.among.0 (b.waiting.apart n m x.among.0 y.among.0
      (λ e. ne (ap of_waiting e)) x.among.1 y.among.1).homes)
    where
      two : (w u : Waiter) → (w.at + w.bytes ≤ u.at) ⊎ (u.at + u.bytes ≤ w.at)
          → AreApart (waiting_house w) (waiting_house u) ⊎ AreApart (waiting_house u) (waiting_house w)
      two w u h = h

      inl_or : AreApart (waiting_house x.among.0) (waiting_house y.among.0) ⊎ AreApart (waiting_house y.among.0) (waiting_house x.among.0)
          → AreApart (house s (of_waiting n)) (house s (of_waiting m)) ⊎ AreApart (house s (of_waiting m)) (house s (of_waiting n))
      inl_or h =
          subst (λ o. AreApart (waiter_house o) (house s (of_waiting m)) ⊎ AreApart (house s (of_waiting m)) (waiter_house o)) (sym x.among.1)
          (subst (λ o. AreApart (waiting_house x.among.0) (waiter_house o) ⊎ AreApart (waiter_house o) (waiting_house x.among.0)) (sym y.among.1) h)
  names_parted s (of_waiting n) f b x y ne = inr (waits_behind s n f b x (b.waiting.behind n x.among.0 x.among.1 (house s f) y.among y.own))
  names_parted s e (of_waiting m) b x y ne = inl (waits_behind s m e b y (b.waiting.behind m y.among.0 y.among.1 (house s e) x.among x.own))
  names_parted s e f b x y ne = by (among_apart s.body.own.all (house s e) (house s f) b.apart x.among y.among (λ same.
      differ e f tt tt (sym x.number ∙ ap (λ h. h.number) same ∙ y.number) (house s f).kind
      (subst (λ h. kind_in e h.kind ≡ true) same x.kind) y.kind ne))
    where
      by : Parted (house s e) (house s f) ⊎ Parted (house s f) (house s e) → AreApart (house s e) (house s f) ⊎ AreApart (house s f) (house s e)
      by (inl h) = inl (h x.own y.own)
      by (inr h) = inr (h y.own x.own)

  -- ---- variables

  waiter_variable : (o : Option Waiter) (w : Waiter) (u : ℕ) → o ≡ Some w → variable_at o ≡ Some u → w.variable ≡ u
  waiter_variable o w u is e = same_Some w.variable u (sym (ap variable_at is) ∙ e)

  before_variable : (home : Home) (bytes : ℕ) (w : Waiter) (u : ℕ) → IsTakenBefore table blocks home bytes w → home ≡ Variable u → u ≢ w.variable
  before_variable home bytes w u h is = subst (λ z. IsTakenBefore table blocks z bytes w) is h

  -- those of different names
  pub variables_apart : (s : Site) (e f : Name) (u v : ℕ) → IsBody table blocks s.body → IsThere s e → IsThere s f
      → e ≢ f → HasVariable s e u → HasVariable s f v → v ≢ u
  variables_apart s (of_waiting n) (of_waiting m) u v b x y ne p q same =
      let a = b.waiting.apart n m x.among.0 y.among.0 (λ e. ne (ap of_waiting e)) x.among.1 y.among.1 in
      let first = waiter_variable (waiter_at n s.body.own.waiters) x.among.0 u x.among.1 p in
      let second = waiter_variable (waiter_at m s.body.own.waiters) y.among.0 v y.among.1 q in
      a.variables (first ∙ sym same ∙ sym second)
  variables_apart s (of_waiting n) f u v b x y ne p q same =
      let first = waiter_variable (waiter_at n s.body.own.waiters) x.among.0 u x.among.1 p in
      before_variable (house s f).home (house s f).bytes x.among.0 v (b.waiting.behind n x.among.0 x.among.1 (house s f) y.among y.own) q
      (same ∙ sym first)
  variables_apart s e (of_waiting m) u v b x y ne p q same =
      let second = waiter_variable (waiter_at m s.body.own.waiters) y.among.0 v y.among.1 q in
      before_variable (house s e).home (house s e).bytes y.among.0 u (b.waiting.behind m y.among.0 y.among.1 (house s e) x.among x.own) p
      (sym same ∙ sym second)
  variables_apart s e f u v b x y ne p q same = by (names_parted s e f b x y ne)
    where
      by : AreApart (house s e) (house s f) ⊎ AreApart (house s f) (house s e) → ⊥
      by (inl h) =
          let g : u ≢ v = subst (λ k. Apart (Variable u) (house s e).bytes k (house s f).bytes) q
          (subst (λ k. Apart k (house s e).bytes (house s f).home (house s f).bytes) p h) in
          g (sym same)
      by (inr h) =
          subst (λ k. Apart (Variable v) (house s f).bytes k (house s e).bytes) p
          (subst (λ k. Apart k (house s f).bytes (house s e).home (house s e).bytes) q h) same

  -- none is one for what comes between
  pub variable_high : (s : Site) (f : Name) (u : ℕ) → IsBody table blocks s.body → IsThere s f → HasVariable s f u → OWN_FROM ≤ u
  variable_high s (of_waiting node) u b x p =
      subst (λ v. OWN_FROM ≤ v) (waiter_variable (waiter_at node s.body.own.waiters) x.among.0 u x.among.1 p) (b.waiting.variable node x.among.0 x.among.1)
  variable_high s f u b x p = by (houses s f b x).where_is
    where
      by : Housing (room s.body) FIXED_BYTES (data_end table blocks) s.body.start (house s f) → OWN_FROM ≤ u
      by (in_variable w e plain low is_word) = subst (λ n. OWN_FROM ≤ n) (ap variable_in (sym e ∙ p)) low
      by (by_address w e address low) = subst (λ n. OWN_FROM ≤ n) (ap variable_in (sym e ∙ p)) low
      by (in_places at e plain whole within) = absurd (subst InMemory (sym e ∙ p) tt)
      by (in_data at e plain whole low within start) = absurd (subst InMemory (sym e ∙ p) tt)

  -- a home that is a variable is its name's own
  pub home_variable : (s : Site) (f : Name) (u : ℕ) → IsThere s f → (house s f).home ≡ Variable u → HasVariable s f u
  home_variable s (of_waiting node) u x is =
      absurd (subst InMemory (sym (ap (λ o. (waiter_house o).home) x.among.1) ∙ is) tt)
  home_variable s f u x is = is

  -- ---- ranges

  -- among the globals, or among the places of a call
  abbrev pub InRange : Site → (a n : ℕ) → Type 0
  InRange s a n =
      ((s.body.start ≡ true) × (data_at + FIXED_BYTES ≤ a) × (a + n ≤ data_at + data_end table blocks))
      ⊎ ((s.base ≤ a) × (a + n ≤ s.base + room s.body))

  -- a word of the globals, or of the places of calls
  abbrev pub IsPlace : (a : ℕ) → Type 0
  IsPlace a = ((data_at + FIXED_BYTES ≤ a) × (a + 4 ≤ data_at + data_end table blocks)) ⊎ (stack_at ≤ a)

  pub in_range : (s : Site) (h : Housed) → IsHoused table blocks s.body h → InMemory h.home → InRange s (address_of s.base h.home) h.bytes
  in_range s h x inside = by x.where_is
    where
      by : Housing (room s.body) FIXED_BYTES (data_end table blocks) s.body.start h → InRange s (address_of s.base h.home) h.bytes
      by (in_variable v e k low is_word) = absurd (subst InMemory e inside)
      by (by_address v e k low) = absurd (subst InMemory e inside)
      by (in_places at e k whole within) =
          subst (λ home. InRange s (address_of s.base home) h.bytes) (sym e) (inr (omega arith, omega (arith, within)))
      by (in_data at e k whole low within start) =
          subst (λ home. InRange s (address_of s.base home) h.bytes) (sym e) (inl (start, omega (arith, low), omega (arith, within)))

  -- ---- sites

  pub next_least : (sites : List Site) → Linked table blocks sites → stack_at ≤ next_base sites
  next_least [] l = omega arith
  next_least (s ∷ sites) l = let h = next_least sites l.5 in omega (arith, h, l.4)

  pub next_whole : (sites : List Site) → Linked table blocks sites → next_base sites % 4 ≡ 0
  next_whole [] l = refl
  next_whole (s ∷ sites) l = let h = next_whole sites l.5 in let r = l.0.room_whole in omega (arith, h, l.4, r)

  pub record SiteAt (sites : List Site) (s : Site) : Type 0 where
    pub body : IsBody table blocks s.body
    pub least : stack_at ≤ s.base
    pub most : s.base + room s.body ≤ next_base sites
    pub level : s.level < length sites
    pub whole : s.base % 4 ≡ 0

  pub site_at : (sites : List Site) (s : Site) → Linked table blocks sites → AmongSites s sites → SiteAt sites s
  site_at [] s l i = absurd i
  site_at (t ∷ sites) s l (inl e) = subst (SiteAt (t ∷ sites)) e
      (let h = next_least sites l.5 in let w = next_whole sites l.5 in record {
        body = l.0;
        least = omega (arith, h, l.4);
        most = omega arith;
        level = omega (arith, l.2);
        whole = omega (arith, w, l.4);
      })
  site_at (t ∷ sites) s l (inr i) =
      let x = site_at sites s l.5 i in
      record { body = x.body; least = x.least; most = omega (arith, x.most, l.4); level = omega (arith, x.level); whole = x.whole }

  not_empty : (sites : List Site) (s : Site) → AmongSites s sites → is_empty sites ≡ false
  not_empty [] s i = absurd i
  not_empty (t ∷ sites) s i = refl

  -- the places of a call below another one are below those of that one, which has no globals
  pub record IsBelow (s t : Site) : Type 0 where
    pub base : s.base + room s.body ≤ t.base
    pub start : t.body.start ≡ false

  pub below : (sites : List Site) (s t : Site) → Linked table blocks sites → AmongSites s sites → AmongSites t sites → s.level < t.level
      → IsBelow s t
  below [] s t l i j lt = absurd i
  below (x ∷ sites) s t l (inl e) (inl f) lt = absurd (let g : s.level ≡ t.level = ap (λ y. y.level) (sym e ∙ f) in omega (arith, g, lt))
  below (x ∷ sites) s t l (inl e) (inr j) lt =
      absurd (let y = site_at sites t l.5 j in let g : x.level ≡ s.level = ap (λ y. y.level) e in omega (arith, g, lt, y.level, l.2))
  below (x ∷ sites) s t l (inr i) (inl f) lt =
      let y = site_at sites s l.5 i in
      subst (IsBelow s) f (record { base = omega (arith, y.most, l.4); start = l.1 ∙ not_empty sites s i })
  below (x ∷ sites) s t l (inr i) (inr j) lt = below sites s t l.5 i j lt

  pub one_level : (sites : List Site) (s t : Site) → Linked table blocks sites → AmongSites s sites → AmongSites t sites → s.level ≡ t.level → s
      ≡ t
  one_level [] s t l i j is = absurd i
  one_level (x ∷ sites) s t l (inl e) (inl f) is = sym e ∙ f
  one_level (x ∷ sites) s t l (inl e) (inr j) is =
      absurd (let y = site_at sites t l.5 j in let g : x.level ≡ s.level = ap (λ y. y.level) e in omega (arith, g, is, y.level, l.2))
  one_level (x ∷ sites) s t l (inr i) (inl f) is =
      absurd (let y = site_at sites s l.5 i in let g : x.level ≡ t.level = ap (λ y. y.level) f in omega (arith, g, is, y.level, l.2))
  one_level (x ∷ sites) s t l (inr i) (inr j) is = one_level sites s t l.5 i j is

  -- ---- ranges of different places

  module _ (small : data_end table blocks ≤ MOST_DATA) where
    -- of one call
    home_ranges : (base : ℕ) (h k : Housed) → stack_at ≤ base
        → (InMemory h.home) → (InMemory k.home)
        → ((at : ℕ) → h.home ≡ Static at → at + h.bytes ≤ data_end table blocks)
        → ((at : ℕ) → k.home ≡ Static at → at + k.bytes ≤ data_end table blocks)
        → AreApart h k → Beside (address_of base h.home) h.bytes (address_of base k.home) k.bytes
    home_ranges base h k least inside inside' ends ends' = by h.home k.home inside inside' ends ends'
      where
        by : (a b : Home) → InMemory a → InMemory b → ((at : ℕ) → a ≡ Static at → at + h.bytes ≤ data_end table blocks)
            → ((at : ℕ) → b ≡ Static at → at + k.bytes ≤ data_end table blocks) → Apart a h.bytes b k.bytes
            → Beside (address_of base a) h.bytes (address_of base b) k.bytes
        by (Variable v) b i j x y p = absurd i
        by (Placed a) (Variable v) i j x y p = absurd j
        by (Placed a) (Placed b) i j x y p = inl (omega (arith, p))
        by (Placed a) (Static b) i j x y p = let h = y b refl in inr (omega (arith, h, small, least))
        by (Static a) (Variable v) i j x y p = absurd j
        by (Static a) (Placed b) i j x y p = let h = x a refl in inl (omega (arith, h, small, least))
        by (Static a) (Static b) i j x y p = inl (omega (arith, p))

    static_ends : (s : Site) (h : Housed) → IsHoused table blocks s.body h → (at : ℕ) → h.home ≡ Static at → at + h.bytes ≤ data_end table blocks
    static_ends s h x at is = by x.where_is
      where
        the : Home → ℕ
        the (Variable v) = 0
        the (Placed at) = 0
        the (Static at) = at

        by : Housing (room s.body) FIXED_BYTES (data_end table blocks) s.body.start h → at + h.bytes ≤ data_end table blocks
        by (in_variable v e k low is_word) = absurd (subst (λ y. NotStatic y) (sym e ∙ is) tt)
        by (by_address v e k low) = absurd (subst (λ y. NotStatic y) (sym e ∙ is) tt)
        by (in_places b e k whole within) = absurd (subst (λ y. NotStatic y) (sym e ∙ is) tt)
        by (in_data b e k whole low within start) = let g : b ≡ at = ap the (sym e ∙ is) in omega (arith, g, within)

    pub ranges_apart : (sites : List Site) (s t : Site) (e f : Name) → Linked table blocks sites → AmongSites s sites → AmongSites t sites
        → IsThere s e → IsThere t f → InMemory (house s e).home → InMemory (house t f).home
        → (s.level ≢ t.level) ⊎ (e ≢ f)
        → Beside (address_of s.base (house s e).home) (house s e).bytes (address_of t.base (house t f).home) (house t f).bytes
    ranges_apart sites s t e f l i j x y p q differs = by (cases_order s.level t.level) differs
      where
        here : SiteAt sites s
        here = site_at sites s l i

        there : SiteAt sites t
        there = site_at sites t l j

        first : InRange s (address_of s.base (house s e).home) (house s e).bytes
        first = in_range s (house s e) (houses s e here.body x) p

        second : InRange t (address_of t.base (house t f).home) (house t f).bytes
        second = in_range t (house t f) (houses t f there.body y) q

        upper : (a n b k : ℕ) (u v : Site) → IsBelow u v → stack_at ≤ v.base → InRange u a n → InRange v b k → a + n ≤ b
        upper a n b k u v z least r (inl g) = absurd (never (sym z.start ∙ g.0))
        upper a n b k u v z least (inl r) (inr g) = omega (arith, r.2, small, least, g.0)
        upper a n b k u v z least (inr r) (inr g) = omega (arith, r.1, z.base, g.0)

        same : s ≡ t → e ≢ f → Beside (address_of s.base (house s e).home) (house s e).bytes (address_of t.base (house t f).home) (house t f).bytes
        same is ne =
            let y' : IsThere s f = subst (λ z. IsThere z f) (sym is) y in
            let q' : InMemory (house s f).home = subst (λ z. InMemory (house z f).home) (sym is) q in
            subst (λ z. Beside (address_of s.base (house s e).home) (house s e).bytes (address_of z.base (house z f).home) (house z f).bytes) is
            (either y' q' (names_parted s e f here.body x y' ne))
          where
            either : IsThere s f → InMemory (house s f).home → AreApart (house s e) (house s f) ⊎ AreApart (house s f) (house s e)
                → Beside (address_of s.base (house s e).home) (house s e).bytes (address_of s.base (house s f).home) (house s f).bytes
            either y' q' (inl h) = home_ranges s.base (house s e) (house s f) here.least p q'
                (static_ends s (house s e) (houses s e here.body x)) (static_ends s (house s f) (houses s f here.body y')) h
            either y' q' (inr h) = beside_turned _ _ _ _ (home_ranges s.base (house s f) (house s e) here.least q' p
                (static_ends s (house s f) (houses s f here.body y')) (static_ends s (house s e) (houses s e here.body x)) h)

        by : (s.level ≡ t.level) ⊎ ((s.level < t.level) ⊎ (t.level < s.level)) → (s.level ≢ t.level) ⊎ (e ≢ f)
            → Beside (address_of s.base (house s e).home) (house s e).bytes (address_of t.base (house t f).home) (house t f).bytes
        by (inl is) (inl ne) = absurd (ne is)
        by (inl is) (inr ne) = same (one_level sites s t l i j is) ne
        by (inr (inl lt)) d = inl (upper _ _ _ _ s t (below sites s t l i j lt) there.least first second)
        by (inr (inr lt)) d = inr (upper _ _ _ _ t s (below sites t s l j i lt) here.least second first)
