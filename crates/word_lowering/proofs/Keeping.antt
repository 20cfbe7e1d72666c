-- Where one place of a call changes, all others are as before.
use Rattle.std.proofs.Common.{◌≡◌, ◌≢◌, ◌⊎◌, inl, inr, ℕ, ◌+◌, ◌<◌, ◌≤◌, List, [], ◌∷◌, map, Option, Some, None, true, false, refl, Ok, not, ◌&&◌, Bool}
use Rattle.std.proofs.Common.{sym, ap, ap₂, subst, ◌∙◌, arith}
use Rattle.std.proofs.lemmas.Bool.{cases_order}
use Rattle.nim_types.specs.declared.types.TypeDef.{TypeDef}
use Rattle.nim_meaning.specs.Values.{Value, bytes, Location, Standing, Slot}
use Rattle.nim_meaning.specs.Places.{root_of}
use Rattle.nim_meaning.specs.State.{World, slot_at, frame_at, temporary_at}
use Rattle.flat_code.specs.declared.place.PlaceKind.{PlaceKind}
use Rattle.flat_code.specs.declared.place.PlaceKind.TheVariants as K
use Rattle.nim_program.specs.declared.program.Mode.TheVariants.{Var, Plain}
use Rattle.flat_code.specs.Fits.{is_value, is_location, is_declared, is_own}
use Rattle.flat_code.specs.declared.block.BlockLine.{BlockLine}
use Rattle.flat_code.specs.declared.code.Code.{Code}
use Rattle.rv32_isa.specs.declared.micro_op.Size.TheVariants.{Word}
use Rattle.word_code.specs.Memory.{Memory, number_at}
use Rattle.word_code.proofs.ForCallers.{Apart, SameOutside}
use Rattle.word_code.specs.Words.{Vars}
use Rattle.flat_code.specs.Scene.{Where, Located, Within, Temps}
use Rattle.flat_code.specs.Shapes.{Shape, shape_of}
use Rattle.word_lowering.proofs.BlockPaths.{leads_later}
use Rattle.word_lowering.proofs.ShapeFacts.{never}
use Rattle.word_lowering.specs.declared.homes.TheConstants.{LEFT}
use Rattle.word_lowering.specs.declared.homes.Alias.{Alias}
use Rattle.word_lowering.specs.declared.homes.Alias.TheVariants as alias
use Rattle.word_lowering.specs.declared.homes.Home.{Home}
use Rattle.word_lowering.specs.declared.homes.Home.TheVariants.{Variable, Placed, Static}
use Rattle.word_lowering.specs.declared.homes.Housed.{Housed}
use Rattle.word_lowering.specs.declared.homes.Waiter.{Waiter}
use Rattle.word_lowering.specs.declared.spots.Spot.{Spot}
use Rattle.word_lowering.specs.declared.spots.Spot.TheVariants.{Held, Lies, Letter}
use Rattle.word_lowering.specs.declared.texts.TheConstants.{FIXED_BYTES}
use Rattle.word_lowering.specs.declared.may_lower.TheConstants.{MOST_DATA}
use Rattle.word_lowering.specs.Layouts.{holds_address, address_by, owns}
use Rattle.word_lowering.specs.Spots.{spot_by, spot_of}
use Rattle.word_lowering.specs.LineCode.{variable_in, variable_of}
use Rattle.word_lowering.specs.WaitingCode.{waiter_at, waiter_house}
use Rattle.word_lowering.proofs.InMemory.{IsAt, Carries, carried}
use Rattle.word_lowering.proofs.Blocks.{Stored}
use Rattle.word_lowering.proofs.BlocksBorn.{later_same}
use Rattle.word_lowering.proofs.StoredLater.{stored_kept}
use Rattle.word_lowering.proofs.Sites.{room, Housing, in_variable, by_address, in_places, in_data, InMemory, Site, next_base, AmongSites, data_end, Linked}
use Rattle.word_lowering.proofs.Scenes.{IsLasting, address_of, Points, At, Name, of_value, of_location, of_place, of_waiting, number_in, Call, house, Filled}
use Rattle.word_lowering.proofs.Scenes.{HasValue}
use Rattle.word_lowering.proofs.Scenes.{variable_at, HasVariable, Says, SaysAt, IsAtNode, IsSteady}
use Rattle.word_lowering.proofs.Scenes.{IsThere, IsNamed, IsLiteral, looked, IsItem, FromBlock, FromPlace, Reaches, IsLedBy, IsLed, letter_later, linked_later}
use Rattle.word_lowering.proofs.Scenes.{IsFilled, Holding}
use Rattle.word_lowering.proofs.Scenes.{site_of, AllHold, Ground, Store, is_fixed, StoredIn, IsLater, AtHome}
use Rattle.word_lowering.proofs.SitesApart.{Beside, InRange, in_range, houses, home_variable, ranges_apart, SiteAt, site_at, IsPlace}
use Rattle.word_lowering.proofs.Temporaries.{AreOnce}
use Rattle.word_lowering.proofs.Waiters.{node_is}
use Rattle.nim_types.specs.Table.{facts_in}

-- ---- spots of places

pub spot_memory : (h : Housed) → holds_address h ≡ false → InMemory h.home → spot_of h ≡ Lies h.home
spot_memory h plain inside = ap (λ b. spot_by b h.is_letter h.home) plain ∙ by h.home inside
  where
    by : (home : Home) → InMemory home → spot_by false h.is_letter home ≡ Lies home
    by (Variable v) i = absurd i
    by (Placed at) i = refl
    by (Static at) i = refl

pub spot_held : (h : Housed) (v : ℕ) → holds_address h ≡ false → h.home ≡ Variable v → spot_of h ≡ Held v
spot_held h v plain is = ap₂ (λ b home. spot_by b h.is_letter home) plain is

-- what an address leads to, by whether it is a character
abbrev pub led_spot : (letter : Bool) → Home → Spot
led_spot true home = Letter home
led_spot false home = Lies home

pub spot_led : (h : Housed) → holds_address h ≡ true → spot_of h ≡ led_spot h.is_letter h.home
spot_led h address = ap (λ b. spot_by b h.is_letter h.home) address ∙ by h.is_letter
  where
    by : (letter : Bool) → spot_by true letter h.home ≡ led_spot letter h.home
    by true = refl
    by false = refl

pub spot_address : (h : Housed) (v : ℕ) → holds_address h ≡ true → h.is_letter ≡ false → h.home ≡ Variable v → spot_of h ≡ Lies (Variable v)
spot_address h v address other is = spot_led h address ∙ ap₂ led_spot other is

pub spot_letter : (h : Housed) (v : ℕ) → holds_address h ≡ true → h.is_letter ≡ true → h.home ≡ Variable v → spot_of h ≡ Letter (Variable v)
spot_letter h v address letter is = spot_led h address ∙ ap₂ led_spot letter is

pub points_is : (base : ℕ) (vars : Vars) (home : Home) (a : ℕ) → InMemory home → Points base vars home a → a ≡ address_of base home
points_is base vars (Variable v) a i p = absurd i
points_is base vars (Placed at) a i p = p
points_is base vars (Static at) a i p = p

pub points_there : (base : ℕ) (vars : Vars) (home : Home) → InMemory home → Points base vars home (address_of base home)
points_there base vars (Variable v) i = absurd i
points_there base vars (Placed at) i = refl
points_there base vars (Static at) i = refl

-- a value in memory
pub from_memory : (m : Memory) (base : ℕ) (vars : Vars) (h : Housed) (x : Value) → holds_address h ≡ false → InMemory h.home
    → At m base vars (spot_of h) x → IsAt m (address_of base h.home) x
from_memory m base vars h x plain inside at =
    let lies : At m base vars (Lies h.home) x = subst (λ p. At m base vars p x) (spot_memory h plain inside) at in
    subst (λ a. IsAt m a x) (points_is base vars h.home lies.0 inside lies.1) lies.2

pub to_memory : (m : Memory) (base : ℕ) (vars : Vars) (h : Housed) (x : Value) → holds_address h ≡ false → InMemory h.home
    → IsAt m (address_of base h.home) x → At m base vars (spot_of h) x
to_memory m base vars h x plain inside at =
    subst (λ p. At m base vars p x) (sym (spot_memory h plain inside)) (address_of base h.home, points_there base vars h.home inside, at)

-- one that may have blocks
pub from_home : (k : Store) (base : ℕ) (vars : Vars) (s : Shape) (h : Housed) (x : Value) → holds_address h ≡ false → InMemory h.home
    → AtHome k base vars s (spot_of h) x → StoredIn k (address_of base h.home) s x
from_home k base vars s h x plain inside at =
    let lies : AtHome k base vars s (Lies h.home) x = subst (λ p. AtHome k base vars s p x) (spot_memory h plain inside) at in
    subst (λ a. StoredIn k a s x) (points_is base vars h.home lies.0 inside lies.1) lies.2

pub to_home : (k : Store) (base : ℕ) (vars : Vars) (s : Shape) (h : Housed) (x : Value) → holds_address h ≡ false → InMemory h.home
    → StoredIn k (address_of base h.home) s x → AtHome k base vars s (spot_of h) x
to_home k base vars s h x plain inside at =
    subst (λ p. AtHome k base vars s p x) (sym (spot_memory h plain inside)) (address_of base h.home, points_there base vars h.home inside, at)

-- nothing becomes of blocks
pub later_ground : (ground : Ground) → IsLater ground ground
later_ground ground = record { blocks = later_same ground.blocks; fixed = refl }

-- ---- memory beside a change

-- words of places, before an address, that don't overlap a range are still there
abbrev pub StillBefore : (Is : ℕ → Type 0) (end : ℕ) (m m' : Memory) (at n : ℕ) → Type 0
StillBefore Is end m m' at n = (a w : ℕ) → Is a → a + 4 ≤ end → Apart a at n → number_at m a Word ≡ Ok w → number_at m' a Word ≡ Ok w

pub outside_still : (Is : ℕ → Type 0) (end : ℕ) (m m' : Memory) (at n : ℕ) → SameOutside m m' at n → StillBefore Is end m m' at n
outside_still Is end m m' at n outside a w place before apart read = outside a apart ∙ read

pub at_beside : (m m' : Memory) (at n a : ℕ) (x : Value) → SameOutside m m' at n → Beside a (bytes x) at n → IsAt m a x → IsAt m' a x
at_beside m m' at n a x outside apart is =
    carried m m' a a x (λ o within whole. outside (a + o) (by o within apart)) is
  where
    by : (o : ℕ) → o + 4 ≤ bytes x → Beside a (bytes x) at n → Apart (a + o) at n
    by o within (inl h) = inl (omega (arith, h, within))
    by o within (inr h) = inr (omega (arith, h))

-- ---- names

sort_in : Name → ℕ
sort_in (of_value t) = 0
sort_in (of_location t) = 1
sort_in (of_place n) = 2
sort_in (of_waiting node) = 3

pub value_no_location : (t u : ℕ) → of_value t ≢ of_location u
unfolding sort_in
value_no_location t u is = let e : 0 ≡ 1 = ap sort_in is in absurd (omega (arith, e))

pub value_no_place : (t u : ℕ) → of_value t ≢ of_place u
unfolding sort_in
value_no_place t u is = let e : 0 ≡ 2 = ap sort_in is in absurd (omega (arith, e))

pub location_no_place : (t u : ℕ) → of_location t ≢ of_place u
unfolding sort_in
location_no_place t u is = let e : 1 ≡ 2 = ap sort_in is in absurd (omega (arith, e))

pub value_no_waiting : (t u : ℕ) → of_value t ≢ of_waiting u
unfolding sort_in
value_no_waiting t u is = let e : 0 ≡ 3 = ap sort_in is in absurd (omega (arith, e))

pub location_no_waiting : (t u : ℕ) → of_location t ≢ of_waiting u
unfolding sort_in
location_no_waiting t u is = let e : 1 ≡ 3 = ap sort_in is in absurd (omega (arith, e))

pub place_no_waiting : (t u : ℕ) → of_place t ≢ of_waiting u
unfolding sort_in
place_no_waiting t u is = let e : 2 ≡ 3 = ap sort_in is in absurd (omega (arith, e))

pub same_numbers : (f e : Name) → f ≡ e → number_in f ≡ number_in e
same_numbers f e is = ap number_in is

pub number_cases : (a b : ℕ) → (a ≡ b) ⊎ (a ≢ b)
number_cases a b = by (cases_order a b)
  where
    by : (a ≡ b) ⊎ ((a < b) ⊎ (b < a)) → (a ≡ b) ⊎ (a ≢ b)
    by (inl e) = inl e
    by (inr (inl h)) = inr (λ e. absurd (omega (arith, h, e)))
    by (inr (inr h)) = inr (λ e. absurd (omega (arith, h, e)))

pub name_cases : (f e : Name) → (f ≡ e) ⊎ (f ≢ e)
name_cases (of_value t) (of_value u) = by (number_cases t u)
  where
    by : (t ≡ u) ⊎ (t ≢ u) → (of_value t ≡ of_value u) ⊎ (of_value t ≢ of_value u)
    by (inl e) = inl (ap of_value e)
    by (inr ne) = inr (λ e. ne (ap number_in e))
name_cases (of_location t) (of_location u) = by (number_cases t u)
  where
    by : (t ≡ u) ⊎ (t ≢ u) → (of_location t ≡ of_location u) ⊎ (of_location t ≢ of_location u)
    by (inl e) = inl (ap of_location e)
    by (inr ne) = inr (λ e. ne (ap number_in e))
name_cases (of_place t) (of_place u) = by (number_cases t u)
  where
    by : (t ≡ u) ⊎ (t ≢ u) → (of_place t ≡ of_place u) ⊎ (of_place t ≢ of_place u)
    by (inl e) = inl (ap of_place e)
    by (inr ne) = inr (λ e. ne (ap number_in e))
name_cases (of_waiting t) (of_waiting u) = by (number_cases t u)
  where
    by : (t ≡ u) ⊎ (t ≢ u) → (of_waiting t ≡ of_waiting u) ⊎ (of_waiting t ≢ of_waiting u)
    by (inl e) = inl (ap of_waiting e)
    by (inr ne) = inr (λ e. ne (ap number_in e))
name_cases (of_value t) (of_waiting u) = inr (value_no_waiting t u)
name_cases (of_location t) (of_waiting u) = inr (location_no_waiting t u)
name_cases (of_place t) (of_waiting u) = inr (place_no_waiting t u)
name_cases (of_waiting t) (of_value u) = inr (λ e. value_no_waiting u t (sym e))
name_cases (of_waiting t) (of_location u) = inr (λ e. location_no_waiting u t (sym e))
name_cases (of_waiting t) (of_place u) = inr (λ e. place_no_waiting u t (sym e))
name_cases (of_value t) (of_location u) = inr (value_no_location t u)
name_cases (of_value t) (of_place u) = inr (value_no_place t u)
name_cases (of_location t) (of_value u) = inr (λ e. value_no_location u t (sym e))
name_cases (of_location t) (of_place u) = inr (location_no_place t u)
name_cases (of_place t) (of_value u) = inr (λ e. value_no_place u t (sym e))
name_cases (of_place t) (of_location u) = inr (λ e. location_no_place u t (sym e))

abbrev pub AmongCalls : Call → List Call → Type 0
AmongCalls c [] = ⊥
AmongCalls c (d ∷ cs) = (d ≡ c) ⊎ AmongCalls c cs

-- ---- kinds

pub false_true : {A : Type 0} → false ≡ true → A
false_true h = never h

location_by : (lent : Bool) (k : PlaceKind) → is_location k ≡ true → address_by lent k ≡ true
location_by lent K.Location h = refl
location_by lent K.Within h = refl
location_by lent k h = never h

pub location_address : (place : Housed) → is_location place.kind ≡ true → holds_address place ≡ true
location_address place h = location_by place.lent place.kind h

-- a place without a value of its own is one that stands for a location
declared_by : (lent : Bool) (k : PlaceKind) → is_declared k ≡ true → (is_own k && not (address_by lent k)) ≡ false → address_by lent k ≡ true
declared_by lent (K.Param Var) h g = refl
declared_by true (K.Param Plain) h g = refl
declared_by false (K.Param Plain) h g = never (sym g)
declared_by true K.ForVar h g = refl
declared_by false K.ForVar h g = never (sym g)
declared_by lent K.Temp h g = never h
declared_by lent K.Counter h g = never h
declared_by lent K.Location h g = never h
declared_by lent K.Within h g = never h
declared_by lent k h g = never (sym g)

pub declared_address : (place : Housed) → is_declared place.kind ≡ true → owns place ≡ false → holds_address place ≡ true
declared_address place h g = declared_by place.lent place.kind h g

-- what has a home is no other name for a text
pub own_text : {A : Type 0} (s : Site) (name : Name) (behind size : ℕ) → IsThere s name → (house s name).alias ≡ alias.Text behind size → A
own_text s name behind size there text = absurd (no_text behind size (sym there.own ∙ text))
  where
    no_text : (behind size : ℕ) → alias.Own ≡ alias.Text behind size → ⊥
    no_text behind size e = cc

-- what may wait is there
pub waiting_there : (s : Site) (node : ℕ) (w : Waiter) → waiter_at node s.body.own.waiters ≡ Some w → IsThere s (of_waiting node)
waiting_there s node w is = record {
  among = (w, is);
  number = ap (λ o. (waiter_house o).number) is ∙ node_is s.body.own.waiters node w is;
  kind = ap (λ o. is_value (waiter_house o).kind) is;
  own = ap (λ o. (waiter_house o).alias) is;
}

-- in memory
pub waiting_inside : (s : Site) (node : ℕ) → IsThere s (of_waiting node) → InMemory (house s (of_waiting node)).home
waiting_inside s node there = subst (λ o. InMemory (waiter_house o).home) (sym there.among.1) tt

-- another name for it looks so
pub node_look : (table : List TypeDef) (s : Site) (t node : ℕ) (there : Where) → IsAtNode table s t node there
    → looked table s (of_waiting node) ≡ looked table s (of_location t)
node_look table s t node there r = ap (shape_of (facts_in table)) r.typed

-- a call with these temporaries and variables
abbrev pub call : Site → Temps → Vars → Call
call s temps vars = record { site = s; temps = temps; vars = vars }

module _ (table : List TypeDef) (blocks : Code BlockLine) (small : data_end table blocks ≤ MOST_DATA) (sites : List Site) (linked : Linked table blocks sites)
    (lo : Site) (e : Name) where
  -- another place than the one that changes
  abbrev pub Away : Site → Name → Type 0
  Away s f = (s.level ≢ lo.level) ⊎ (f ≢ e)

  pub away_cases : (s : Site) (f : Name) → ((s.level ≡ lo.level) × (f ≡ e)) ⊎ Away s f
  away_cases s f = by (number_cases s.level lo.level) (name_cases f e)
    where
      by : (s.level ≡ lo.level) ⊎ (s.level ≢ lo.level) → (f ≡ e) ⊎ (f ≢ e) → ((s.level ≡ lo.level) × (f ≡ e)) ⊎ Away s f
      by (inl x) (inl y) = inl (x, y)
      by (inl x) (inr ne) = inr (inr ne)
      by (inr ne) y = inr (inl ne)

  -- Memory changes nowhere, in the range of the place, or beside globals and all that stands among the places of calls. What stands behind the
  -- places of these calls may change, come or go.
  pub data Edit (m m' : Memory) : Type 0 where
    nowhere : m ≡ m' → Edit m m'
    somewhere : (at n : ℕ) → StillBefore (IsPlace table blocks) (next_base sites) m m' at n → AmongSites lo sites → IsThere lo e → InMemory (house lo e).home
        → address_of lo.base (house lo e).home ≤ at → at + n ≤ address_of lo.base (house lo e).home + (house lo e).bytes → Edit m m'
    beyond : ((a w : ℕ) → a + 4 ≤ next_base sites → number_at m a Word ≡ Ok w → number_at m' a Word ≡ Ok w) → Edit m m'
    aside : ((a : ℕ) → IsPlace table blocks a → number_at m' a Word ≡ number_at m a Word) → Edit m m'

  -- worlds in which at most that place differs
  pub record Worlds (w w' : World) : Type 0 where
    pub slots : (s : Site) (n : ℕ) → AmongSites s sites → IsThere s (of_place n) → Away s (of_place n) → slot_at w' s.level n ≡ slot_at w s.level n
    pub more : (s : Site) (n : ℕ) → AmongSites s sites → IsThere s (of_place n) → Filled w s.level n → Filled w' s.level n
    -- where a path begins that goes from a place
    pub roots : (s : Site) (n : ℕ) → AmongSites s sites → IsThere s (of_place n) → Filled w s.level n → IsSteady s n
        → root_of (Standing s.level n) w' ≡ root_of (Standing s.level n) w
    pub waits : (s : Site) (node : ℕ) → AmongSites s sites → Away s (of_waiting node) → temporary_at w' s.level node ≡ temporary_at w s.level node
    pub once : (s : Site) → AmongSites s sites → AreOnce (frame_at w s.level).temporaries → AreOnce (frame_at w' s.level).temporaries
    pub hand : w'.hand ≡ w.hand

  pub worlds_same : (w : World) → Worlds w w
  worlds_same w = record {
    slots = λ s n i x a. refl;
    more = λ s n i x h. h;
    roots = λ s n i x h k. refl;
    waits = λ s node i a. refl;
    once = λ s i h. h;
    hand = refl;
  }

  -- temporaries and variables of a call, of which at most that place's differs
  pub record Kept (s : Site) (temps temps' : Temps) (vars vars' : Vars) : Type 0 where
    pub values : (t : ℕ) → IsThere s (of_value t) → Away s (of_value t) → temps'.values t ≡ temps.values t
    pub places : (t : ℕ) → Away s (of_location t) → temps'.places t ≡ temps.places t
    pub texts : (t behind bytes : ℕ) → IsNamed s (of_value t) → (house s (of_value t)).alias ≡ alias.Text behind bytes → Away s (of_value t)
        → temps'.values t ≡ temps.values t
    pub still : (t : ℕ) (x : Value) → IsLasting table s t → temps.values t ≡ Some x → (y : Value) × (temps'.values t ≡ Some y)
    pub variables : (f : Name) (u : ℕ) → IsThere s f → Away s f → HasVariable s f u → vars' u ≡ vars u
    pub left : vars' LEFT ≡ vars LEFT

  pub kept_same : (s : Site) (temps : Temps) (vars : Vars) → Kept s temps temps vars vars
  kept_same s temps vars = record {
    values = λ t i a. refl;
    places = λ t a. refl;
    texts = λ t n k i e a. refl;
    still = λ t x l h. (x, h);
    variables = λ f u x a is. refl;
    left = refl;
  }

  -- what is new of the place itself
  pub record New (k : Store) (w : World) (from : List Site) (c : Call) : Type 0 where
    pub item : (x : Value) → IsThere c.site e → HasValue w c e x → IsItem table k c e x
    pub text : (t behind bytes : ℕ) (x : Value) → of_value t ≡ e → (house c.site (of_value t)).alias ≡ alias.Text behind bytes
        → c.temps.values t ≡ Some x → IsLiteral c.site.body behind bytes x
    pub led : (t : ℕ) (there : Where) → of_location t ≡ e → IsNamed c.site (of_location t) → c.temps.places t ≡ Some there →
        IsLed table blocks from k.ground w c t there
    pub filled : (n : ℕ) → of_place n ≡ e → Filled w c.site.level n → IsFilled table blocks from k.ground w c n
    pub waits : (node : ℕ) → of_waiting node ≡ e
        → SaysAt (waiter_at node c.site.body.own.waiters) (temporary_at w c.site.level node) c.site.base c.vars

  module _ (k k' : Store) (edit : Edit k.memory k'.memory) (later : IsLater k.ground k'.ground) (w w' : World) (worlds : Worlds w w') where
    -- words of a place
    words_away : (s : Site) (f : Name) → AmongSites s sites → IsThere s f → InMemory (house s f).home → Away s f
        → Carries k.memory k'.memory (address_of s.base (house s f).home) (address_of s.base (house s f).home) (house s f).bytes
    words_away s f i y inside away = by edit
      where
        here : SiteAt table blocks sites s
        here = site_at table blocks sites s linked i

        range : InRange table blocks s (address_of s.base (house s f).home) (house s f).bytes
        range = in_range table blocks s (house s f) (houses table blocks s f (site_at table blocks sites s linked i).body y) inside

        before_next : InRange table blocks s (address_of s.base (house s f).home) (house s f).bytes
            → address_of s.base (house s f).home + (house s f).bytes ≤ next_base sites
        before_next (inl r) = let l = here.least in let n = here.most in omega (arith, r.2, small, l, n)
        before_next (inr r) = let n = here.most in omega (arith, r.1, n)

        place_in : InRange table blocks s (address_of s.base (house s f).home) (house s f).bytes → (o : ℕ) → o + 4 ≤ (house s f).bytes
            → IsPlace table blocks (address_of s.base (house s f).home + o)
        place_in (inl r) o within = inl (omega (arith, r.1), omega (arith, r.2, within))
        place_in (inr r) o within = let l = here.least in inr (omega (arith, r.0, l))

        by : Edit k.memory k'.memory → Carries k.memory k'.memory (address_of s.base (house s f).home) (address_of s.base (house s f).home) (house s f).bytes
        by (nowhere is) o w inner whole read = subst (λ m. number_at m (address_of s.base (house s f).home + o) Word ≡ Ok w) is read
        by (somewhere a n still j there within low high) o w inner whole read =
            let end = before_next range in
            still (address_of s.base (house s f).home + o) w (place_in range o inner) (omega (arith, end, inner))
            (apart (ranges_apart table blocks small sites s lo f e linked i j y there inside within away)) read
          where
            apart : Beside (address_of s.base (house s f).home) (house s f).bytes (address_of lo.base (house lo e).home) (house lo e).bytes
                → Apart (address_of s.base (house s f).home + o) a n
            apart (inl h) = inl (omega (arith, h, low, inner))
            apart (inr h) = inr (omega (arith, h, high))
        by (beyond still) o w inner whole read =
            let end = before_next range in still (address_of s.base (house s f).home + o) w (omega (arith, end, inner)) read
        by (aside same) o w inner whole read = same (address_of s.base (house s f).home + o) (place_in range o inner) ∙ read

    -- a value in memory
    at_away : (s : Site) (f : Name) (x : Value) → AmongSites s sites → IsThere s f → InMemory (house s f).home → Away s f
        → StoredIn k (address_of s.base (house s f).home) (looked table s f) x → StoredIn k' (address_of s.base (house s f).home) (looked table s f) x
    at_away s f x i y inside away at =
        let a : ℕ = address_of s.base (house s f).home in
        let size = (houses table blocks s f (site_at table blocks sites s linked i).body y).bytes in
        subst (λ fixed. Stored (λ place text. fixed place text ≡ true) k'.ground.blocks k'.memory a (looked table s f) x) (sym later.fixed)
        (stored_kept (is_fixed k.ground) k.ground.blocks k'.ground.blocks later.blocks k.memory k'.memory a a (looked table s f) x
        (λ o w within whole read. words_away s f i y inside away o w (omega (arith, within, size)) whole read) at)

    pub item_kept : (s : Site) (temps temps' : Temps) (vars vars' : Vars) (f : Name) (x : Value) → AmongSites s sites
        → Kept s temps temps' vars vars' → Away s f → IsItem table k (call s temps vars) f x → IsItem table k' (call s temps' vars') f x
    item_kept s temps temps' vars vars' f x i kept away item = record {
      there = item.there;
      plain = item.plain;
      shaped = item.shaped;
      at = by (houses table blocks s f (site_at table blocks sites s linked i).body item.there).where_is;
    }
      where
        stays : InMemory (house s f).home → AtHome k' s.base vars' (looked table s f) (spot_of (house s f)) x
        stays inside = to_home k' s.base vars' (looked table s f) (house s f) x item.plain inside
            (at_away s f x i item.there inside away (from_home k s.base vars (looked table s f) (house s f) x item.plain inside item.at))

        by : Housing (room s.body) FIXED_BYTES (data_end table blocks) s.body.start (house s f)
            → AtHome k' s.base vars' (looked table s f) (spot_of (house s f)) x
        by (in_variable v is plain low is_word) =
            let spot : spot_of (house s f) ≡ Held v = spot_held (house s f) v plain is in
            subst (λ p. AtHome k' s.base vars' (looked table s f) p x) (sym spot)
            (kept.variables f v item.there away (home_variable table blocks s f v item.there is)
            ∙ subst (λ p. AtHome k s.base vars (looked table s f) p x) spot item.at)
        by (by_address v is address low) = absurd (false_true (sym item.plain ∙ address))
        by (in_places at is plain whole within) = stays (subst InMemory (sym is) tt)
        by (in_data at is plain whole low within start) = stays (subst InMemory (sym is) tt)

    from_kept : (from : List Site) → ((r : Site) → AmongSites r from → AmongSites r sites) → (location : Location) (a : ℕ) (t : Shape)
        → FromPlace table from w location a t → FromPlace table from w' location a t
    from_kept from up location a t x = record {
      site = x.site;
      among = x.among;
      number = x.number;
      base = x.base;
      filled = worlds.more x.site x.number (up x.site x.among) x.there x.filled;
      there = x.there;
      home = x.home;
      offset = x.offset;
      path = x.path;
      address = x.address;
    }

    block_kept : (location : Location) (a : ℕ) (t : Shape) → FromBlock k.ground location a t → FromBlock k'.ground location a t
    block_kept location a t x = record {
      block = x.block;
      base = x.base;
      leads = leads_later k.ground.blocks k'.ground.blocks later.blocks x.block location.path a t x.leads;
      near = x.near;
    }

    leads_kept : (from : List Site) → ((r : Site) → AmongSites r from → AmongSites r sites) → (s : Site) (temps temps' : Temps) (vars vars' : Vars)
        → Kept s temps temps' vars vars'
        → (there : Where) (a : ℕ) (t : Shape) → Reaches table blocks from k.ground w s temps there a t
        → Reaches table blocks from k'.ground w' s temps' there a t
    leads_kept from up s temps temps' vars vars' kept (Located location) a t (inl (inl x)) = inl (inl (from_kept from up location a t x))
    leads_kept from up s temps temps' vars vars' kept (Located location) a t (inl (inr (inl (inl x)))) = inl (inr (inl (inl x)))
    leads_kept from up s temps temps' vars vars' kept (Located location) a t (inl (inr (inl (inr x)))) =
        inl (inr (inl (inr (linked_later k.ground k'.ground later location a t x))))
    leads_kept from up s temps temps' vars vars' kept (Located location) a t (inl (inr (inr (inl x)))) = inl (inr (inr (inl (block_kept location a t x))))
    leads_kept from up s temps temps' vars vars' kept (Located location) a t (inl (inr (inr (inr x)))) = inl (inr (inr (inr x)))
    leads_kept from up s temps temps' vars vars' kept (Located location) a t (inr x) = inr (letter_later table blocks k.ground k'.ground later location a t x)
    leads_kept from up s temps temps' vars vars' kept (Within temp path) a t x =
        let y = kept.still temp x.value x.lasting x.has in
        record {
          there = x.there;
          home = x.home;
          offset = x.offset;
          leads = x.leads;
          address = x.address;
          lasting = x.lasting;
          value = y.0;
          has = y.1;
        }

    -- the variable of a place that has an address
    variable_kept : (s : Site) (temps temps' : Temps) (vars vars' : Vars) (f : Name) (a : ℕ) → AmongSites s sites → Kept s temps temps' vars vars'
        → Away s f → IsThere s f → holds_address (house s f) ≡ true → vars (variable_of (house s f)) ≡ Some a
        → vars' (variable_of (house s f)) ≡ Some a
    variable_kept s temps temps' vars vars' f a i k away there address h =
        by (houses table blocks s f (site_at table blocks sites s linked i).body there).where_is
      where
        by : Housing (room s.body) FIXED_BYTES (data_end table blocks) s.body.start (house s f) → vars' (variable_of (house s f)) ≡ Some a
        by (in_variable v is plain low is_word) = absurd (false_true (sym plain ∙ address))
        by (by_address v is y low) =
            ap vars' (ap variable_in is) ∙ k.variables f v there away (home_variable table blocks s f v there is) ∙ ap vars (sym (ap variable_in is)) ∙ h
        by (in_places at is plain whole within) = absurd (false_true (sym plain ∙ address))
        by (in_data at is plain whole low within start) = absurd (false_true (sym plain ∙ address))

    led_kept : (from : List Site) → ((r : Site) → AmongSites r from → AmongSites r sites) → (s : Site) (temps temps' : Temps) (vars vars' : Vars)
        → AmongSites s sites → Kept s temps temps' vars vars' → (t : ℕ) (there : Where) → IsNamed s (of_location t) → Away s (of_location t)
        → IsLed table blocks from k.ground w (call s temps vars) t there
        → IsLed table blocks from k'.ground w' (call s temps' vars') t there
    led_kept from up s temps temps' vars vars' i kept t there named away led = by (house s (of_location t)).alias refl led
      where
        by : (a : Alias) → (house s (of_location t)).alias ≡ a → IsLedBy table blocks a from k.ground w (call s temps vars) t there
            → IsLedBy table blocks a from k'.ground w' (call s temps' vars') t there
        by alias.Own own x = record {
          standing = x.standing;
          address = x.address;
          holds = variable_kept s temps temps' vars vars' (of_location t) x.address i kept away
              (record { among = named.among; number = named.number; kind = named.kind; own = own })
              (location_address (house s (of_location t)) named.kind) x.holds;
          leads = leads_kept from up s temps temps' vars vars' kept there x.address (looked table s (of_location t)) x.leads;
        }
        by (alias.Place p global) e x = record {
          site = x.site;
          among = x.among;
          level = x.level;
          is_there = x.is_there;
          steady = x.steady;
          filled = worlds.more x.site p (up x.site x.among) x.is_there x.filled;
          is = x.is ∙ ap Located (sym (worlds.roots x.site p (up x.site x.among) x.is_there x.filled x.steady));
        }
        by (alias.Value u) e x =
            let y = kept.still u x.value x.lasting x.has in record { is = x.is; lasting = x.lasting; value = y.0; has = y.1 }
        by (alias.Node n) e x = x
        by (alias.Text behind size) e x = absurd x

    pub holding_kept : (from : List Site) (s : Site) (temps temps' : Temps) (vars vars' : Vars) → AmongSites s sites
        → ((r : Site) → AmongSites r from → AmongSites r sites)
        → Kept s temps temps' vars vars' → (s.level ≡ lo.level → New k' w' from (call s temps' vars'))
        → Holding table blocks k w from (call s temps vars) → Holding table blocks k' w' from (call s temps' vars')
    holding_kept from s temps temps' vars vars' i up kept new old = record {
      items = items;
      texts = texts;
      led = led;
      filled = filled;
      left = λ h. kept.left ∙ old.left h;
      waits = waits;
      once = worlds.once s i old.once;
    }
      where
        back : (f : Name) (x : Value) → IsThere s f → Away s f → HasValue w' (call s temps' vars') f x → HasValue w (call s temps vars) f x
        back (of_value t) x there away h = sym (kept.values t there away) ∙ h
        back (of_location t) x there away h = absurd h
        back (of_place n) x there away h = sym (worlds.slots s n i there away) ∙ h
        back (of_waiting node) x there away h = sym (worlds.waits s node i away) ∙ h

        items : (f : Name) (x : Value) → IsThere s f → HasValue w' (call s temps' vars') f x → IsItem table k' (call s temps' vars') f x
        items f x there h = by (away_cases s f)
          where
            by : ((s.level ≡ lo.level) × (f ≡ e)) ⊎ Away s f → IsItem table k' (call s temps' vars') f x
            by (inl y) = subst (λ g. IsItem table k' (call s temps' vars') g x) (sym y.1)
                ((new y.0).item x (subst (λ g. IsThere s g) y.1 there) (subst (λ g. HasValue w' (call s temps' vars') g x) y.1 h))
            by (inr away) = item_kept s temps temps' vars vars' f x i kept away (old.items f x there (back f x there away h))

        says : (node : ℕ) (o : Option Waiter) → waiter_at node s.body.own.waiters ≡ o → (slot : Option Slot)
            → Away s (of_waiting node) → SaysAt o slot s.base vars → SaysAt o slot s.base vars'
        says node None is slot away h = h
        says node (Some w) is slot away h =
            subst (λ word. Says slot word (s.base + w.at))
            (sym (kept.variables (of_waiting node) w.variable (waiting_there s node w is) away (ap variable_at is))) h

        waits : (node : ℕ) → SaysAt (waiter_at node s.body.own.waiters) (temporary_at w' s.level node) s.base vars'
        waits node = by (away_cases s (of_waiting node))
          where
            by : ((s.level ≡ lo.level) × (of_waiting node ≡ e)) ⊎ Away s (of_waiting node)
                → SaysAt (waiter_at node s.body.own.waiters) (temporary_at w' s.level node) s.base vars'
            by (inl y) = (new y.0).waits node y.1
            by (inr away) =
                subst (λ o. SaysAt (waiter_at node s.body.own.waiters) o s.base vars') (sym (worlds.waits s node i away))
                (says node (waiter_at node s.body.own.waiters) refl (temporary_at w s.level node) away (old.waits node))

        texts : (t behind bytes : ℕ) (x : Value) → IsNamed s (of_value t) → (house s (of_value t)).alias ≡ alias.Text behind bytes
            → temps'.values t ≡ Some x → IsLiteral s.body behind bytes x
        texts t behind bytes x named text h = by (away_cases s (of_value t))
          where
            by : ((s.level ≡ lo.level) × (of_value t ≡ e)) ⊎ Away s (of_value t) → IsLiteral s.body behind bytes x
            by (inl y) = (new y.0).text t behind bytes x y.1 text h
            by (inr away) = old.texts t behind bytes x named text (sym (kept.texts t behind bytes named text away) ∙ h)

        led : (t : ℕ) (there : Where) → IsNamed s (of_location t) → temps'.places t ≡ Some there →
            IsLed table blocks from k'.ground w' (call s temps' vars') t there
        led t there named h = by (away_cases s (of_location t))
          where
            by : ((s.level ≡ lo.level) × (of_location t ≡ e)) ⊎ Away s (of_location t) → IsLed table blocks from k'.ground w' (call s temps' vars') t there
            by (inl y) = (new y.0).led t there y.1 named h
            by (inr away) = led_kept from up s temps temps' vars vars' i kept t there named away (old.led t there named (sym (kept.places t away) ∙ h))

        filled : (n : ℕ) → IsThere s (of_place n) → Filled w' s.level n → IsFilled table blocks from k'.ground w' (call s temps' vars') n
        filled n there h = by (away_cases s (of_place n))
          where
            by : ((s.level ≡ lo.level) × (of_place n ≡ e)) ⊎ Away s (of_place n) → IsFilled table blocks from k'.ground w' (call s temps' vars') n
            by (inl y) = (new y.0).filled n y.1 h
            by (inr away) =
                let slots = worlds.slots s n i there away in
                let x = old.filled n there (h.0, sym slots ∙ h.1) in
                record {
                  own = λ own. let y = x.own own in (y.0, slots ∙ y.1);
                  other = λ other. let y = x.other other in record {
                    location = y.location;
                    slot = slots ∙ y.slot;
                    address = y.address;
                    holds = variable_kept s temps temps' vars vars' (of_place n) y.address i kept away there
                        (declared_address (house s (of_place n)) there.kind other) y.holds;
                    stood = y.stood;
                    leads = leads_kept from up s temps temps' vars vars' kept (Located y.location) y.address (looked table s (of_place n)) y.leads;
                  };
                }

    -- calls that wait
    pub all_kept : (cs : List Call) → ((s : Site) → AmongSites s (map site_of cs) → AmongSites s sites)
        → ((c : Call) (from : List Site) → AmongCalls c cs → c.site.level ≡ lo.level → New k' w' from c)
        → AllHold table blocks k w cs → AllHold table blocks k' w' cs
    all_kept [] i new all = tt
    all_kept (c ∷ cs) i new all = (
      holding_kept (map site_of (c ∷ cs)) c.site c.temps c.temps c.vars c.vars (i c.site (inl refl)) i (kept_same c.site c.temps c.vars)
          (λ is. new c (map site_of (c ∷ cs)) (inl refl) is) all.0,
      all_kept cs (λ s j. i s (inr j)) (λ d from j is. new d from (inr j) is) all.1,
    )
