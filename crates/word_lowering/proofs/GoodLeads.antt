-- What a location leads to, in homes: a place that has a value of its own, or the value of a temporary; or in a block.
use Rattle.std.proofs.Common.{◌≡◌, ◌⊎◌, inl, inr, ℕ, List, [], ◌∷◌, map, Some, None, true, false, refl, sym, subst, ◌∙◌, Option, ◌+◌, ap}
use Rattle.std.proofs.lemmas.Bool.{cases_Bool}
use Rattle.nim_meaning.specs.Values.{Value, Standing, Made, Location, Holds, Vacant, part, Waiting, Stands, Lends, Slot}
use Rattle.nim_meaning.specs.State.{slot_at, temporary_at, awaited, whole_at, is_whole, load}
use Rattle.flat_code.specs.Scene.{Temps}
use Rattle.flat_code.specs.Shapes.{Shape, has_shape}
use Rattle.word_code.specs.Words.{Vars}
use Rattle.word_lowering.specs.declared.texts.TheConstants.{FIXED_BYTES}
use Rattle.word_lowering.specs.Layouts.{holds_address, owns}
use Rattle.word_lowering.proofs.BlockHomes.{Home, FromHome, LeadsTo}
use Rattle.word_lowering.proofs.GoodHomes.{among_sites, held_of, home_at, HomeOf, homes_apart}
use Rattle.word_lowering.proofs.Keeping.{AmongCalls, declared_address, waiting_inside}
use Rattle.word_lowering.proofs.Lines.{Basis, IsGood}
use Rattle.word_lowering.proofs.Related.{Both, calls_of, sites_of, store_of}
use Rattle.word_lowering.proofs.Scenes.{is_fixed, address_of, of_value, of_place, Call, site_of, house, Filled, IsThere, looked, IsItem, FromOwned, FromPlace}
use Rattle.word_lowering.proofs.Scenes.{FromData, FromLinked, FromValue, of_waiting, SaysAt, Says, FromWaiting, FromWaits, LeadsHere, IsMade, IsOwned}
use Rattle.word_lowering.proofs.ShapeFacts.{never, of_numbers}
use Rattle.word_lowering.proofs.ShapePaths.{path_numbers}
use Rattle.word_lowering.proofs.Sites.{room, Housing, in_variable, by_address, in_places, in_data, InMemory, Site, AmongSites, data_end, Linked}
use Rattle.word_lowering.proofs.SitesApart.{houses, site_at}

-- a place in memory has a value of its own
pub own_place : (x : Basis) (sites : List Site) (linked : Linked x.table x.blocks sites) (s : Site) (n : ℕ) → AmongSites s sites → IsThere s (of_place n)
    → InMemory (house s (of_place n)).home → owns (house s (of_place n)) ≡ true
own_place x sites linked s n i there inside = by (cases_Bool (owns (house s (of_place n))))
  where
    other : holds_address (house s (of_place n)) ≡ true → owns (house s (of_place n)) ≡ true
    other address = go (houses x.table x.blocks s (of_place n) (site_at x.table x.blocks sites s linked i).body there).where_is
      where
        go : Housing (room s.body) FIXED_BYTES (data_end x.table x.blocks) s.body.start (house s (of_place n)) → owns (house s (of_place n)) ≡ true
        go (in_variable v e plain low is_word) = absurd (subst InMemory e inside)
        go (by_address v e k low) = absurd (subst InMemory e inside)
        go (in_places a e plain whole within) = never (sym plain ∙ address)
        go (in_data a e plain whole low within start) = never (sym plain ∙ address)

    by : (owns (house s (of_place n)) ≡ true) ⊎ (owns (house s (of_place n)) ≡ false) → owns (house s (of_place n)) ≡ true
    by (inl h) = h
    by (inr h) = other (declared_address (house s (of_place n)) there.kind h)

-- a call at a site
pub call_of : (cs : List Call) (s : Site) → AmongSites s (map site_of cs) → (c : Call) × AmongCalls c cs × (c.site ≡ s)
call_of [] s i = absurd i
call_of (c ∷ cs) s (inl e) = (c, inl refl, e)
call_of (c ∷ cs) s (inr i) = let r = call_of cs s i in (r.0, inr r.1, r.2)

module _ (x : Basis) (g : Both) (y : IsGood x g) where
  -- ---- places with values of their own

  abbrev pub home_of : Site → (place : ℕ) → Home
  home_of s n = record {
    base = Standing s.level n;
    at = address_of s.base (house s (of_place n)).home;
    shape = looked x.table s (of_place n);
  }

  pub record OwnHome (s : Site) (n : ℕ) : Type 0 where
    pub temps : Temps
    pub vars : Vars
    pub value : Value
    pub slot : slot_at g.world s.level n ≡ Some (Holds value)
    pub item : IsItem x.table (store_of g) (record { site = s; temps = temps; vars = vars }) (of_place n) value
    pub among : HomeOf x g (home_of s n)

  pub own_home : (s : Site) (n : ℕ) → AmongSites s (sites_of g) → Filled g.world s.level n → IsThere s (of_place n) → InMemory (house s (of_place n)).home
      → OwnHome s n
  own_home s n i filled there inside = let c = call_of (calls_of g) s i in by c.0 c.1 c.2
    where
      by : (c : Call) → AmongCalls c (calls_of g) → c.site ≡ s → OwnHome s n
      by c k e =
          let here : IsThere c.site (of_place n) = subst (λ (z : Site). IsThere z (of_place n)) (sym e) there in
          let home : InMemory (house c.site (of_place n)).home = subst (λ (z : Site). InMemory (house z (of_place n)).home) (sym e) inside in
          let was : Filled g.world c.site.level n = subst (λ (z : Site). Filled g.world z.level n) (sym e) filled in
          let own : owns (house c.site (of_place n)) ≡ true
          = own_place x (sites_of g) y.linked c.site n (among_sites (calls_of g) c k) here home in
          let held = (held_of x (store_of g) g.world (calls_of g) c y.hold k).1 in
          let v = (held.filled n here was).own own in
          subst (λ (z : Site). OwnHome z n) e (record {
            temps = c.temps;
            vars = c.vars;
            value = v.0;
            slot = v.1;
            item = held.items (of_place n) v.0 here v.1;
            among = record { call = c; among = k; name = of_place n; there = here; inside = home; value = v.0; has = v.1; is = refl };
          })

  -- ---- locations

  -- such a location, and an address
  abbrev pub IsInHome : Location → (a : ℕ) → Shape → Type 0
  IsInHome l a t = FromHome (is_fixed g.ground) (HomeOf x g) (homes_apart x g y) l a t

  pub place_home : (l : Location) (a : ℕ) (t : Shape) → FromPlace x.table (sites_of g) g.world l a t → IsInHome l a t
  place_home l a t f = record {
    home = home_of f.site f.number;
    among = (own_home f.site f.number f.among f.filled f.there f.home).among;
    base = f.base;
    offset = f.offset;
    way = f.path;
    address = f.address;
  }

  -- ---- what waits

  vacant_part : (path : List ℕ) → part Vacant path ≡ Vacant
  vacant_part [] = refl
  vacant_part (i ∷ path) = vacant_part path

  -- something waits where it is seen
  pub waiting_value : (c : Call) → AmongCalls c (calls_of g) → (node : ℕ) → IsThere c.site (of_waiting node) → (path : List ℕ)
      → is_whole g.world (part (awaited (temporary_at g.world c.site.level node)) path) ≡ true
      → (v : Value) × (temporary_at g.world c.site.level node ≡ Some (Holds v))
  waiting_value c k node there path whole = at (temporary_at g.world c.site.level node) says whole
    where
      says : Says (temporary_at g.world c.site.level node) (c.vars there.among.0.variable) (c.site.base + there.among.0.at)
      says = subst (λ o. SaysAt o (temporary_at g.world c.site.level node) c.site.base c.vars) there.among.1
          ((held_of x (store_of g) g.world (calls_of g) c y.hold k).1.waits node)

      at : (o : Option Slot) → Says o (c.vars there.among.0.variable) (c.site.base + there.among.0.at)
          → is_whole g.world (part (awaited o) path) ≡ true → (v : Value) × (o ≡ Some (Holds v))
      at None s h = never (sym (ap (is_whole g.world) (vacant_part path)) ∙ h)
      at (Some (Holds v)) s h = (v, refl)
      at (Some (Stands other)) s h = absurd s
      at (Some (Lends v from seen)) s h = absurd s

  pub waits_there : (l : Location) (a : ℕ) (t : Shape) → FromWaiting x.table (sites_of g) l a t → is_whole g.world (load g.world l) ≡ true
      → FromWaits x.table (sites_of g) g.world l a t
  waits_there l a t f whole = let c = call_of (calls_of g) f.site f.among in by c.0 c.1 c.2
    where
      by : (c : Call) → AmongCalls c (calls_of g) → c.site ≡ f.site → FromWaits x.table (sites_of g) g.world l a t
      by c k e =
          let here : IsThere c.site (of_waiting f.node) = subst (λ (z : Site). IsThere z (of_waiting f.node)) (sym e) f.there in
          let based : l.base ≡ Waiting c.site.level f.node = f.base ∙ ap (λ (z : Site). Waiting z.level f.node) (sym e) in
          let v = waiting_value c k f.node here l.path
          (subst (λ b. is_whole g.world (part (whole_at g.world b) l.path) ≡ true) based whole) in
          record { from = f; value = v.0; has = subst (λ (z : Site). temporary_at g.world z.level f.node ≡ Some (Holds v.0)) e v.1 }

  -- where nothing waits
  pub record FromGone (l : Location) (a : ℕ) (t : Shape) : Type 0 where
    pub from : FromWaiting x.table (sites_of g) l a t
    pub none : temporary_at g.world from.site.level from.node ≡ None

  waits_or_gone : (l : Location) (a : ℕ) (t : Shape) → FromWaiting x.table (sites_of g) l a t → FromWaits x.table (sites_of g) g.world l a t ⊎ FromGone l a t
  waits_or_gone l a t f = let c = call_of (calls_of g) f.site f.among in by c.0 c.1 c.2
    where
      by : (c : Call) → AmongCalls c (calls_of g) → c.site ≡ f.site → FromWaits x.table (sites_of g) g.world l a t ⊎ FromGone l a t
      by c k e = at (temporary_at g.world c.site.level f.node) (ap (λ (z : Site). temporary_at g.world z.level f.node) (sym e)) says
        where
          here : IsThere c.site (of_waiting f.node)
          here = subst (λ (z : Site). IsThere z (of_waiting f.node)) (sym e) f.there

          says : Says (temporary_at g.world c.site.level f.node) (c.vars here.among.0.variable) (c.site.base + here.among.0.at)
          says = subst (λ o. SaysAt o (temporary_at g.world c.site.level f.node) c.site.base c.vars) here.among.1
              ((held_of x (store_of g) g.world (calls_of g) c y.hold k).1.waits f.node)

          at : (o : Option Slot) → temporary_at g.world f.site.level f.node ≡ o → Says o (c.vars here.among.0.variable) (c.site.base + here.among.0.at)
              → FromWaits x.table (sites_of g) g.world l a t ⊎ FromGone l a t
          at None is s = inr (record { from = f; none = is })
          at (Some (Holds v)) is s = inl (record { from = f; value = v; has = is })
          at (Some (Stands other)) is s = absurd s
          at (Some (Lends v from seen)) is s = absurd s

  abbrev pub waiting_home_of : Site → (node : ℕ) → Home
  waiting_home_of s node = record {
    base = Waiting s.level node;
    at = address_of s.base (house s (of_waiting node)).home;
    shape = looked x.table s (of_waiting node);
  }

  pub record WaitingHome (s : Site) (node : ℕ) (v : Value) : Type 0 where
    pub shaped : of_numbers (looked x.table s (of_waiting node)) ≡ true → has_shape v (looked x.table s (of_waiting node)) ≡ true
    pub among : HomeOf x g (waiting_home_of s node)

  pub home_waiting : (s : Site) (node : ℕ) (v : Value) → AmongSites s (sites_of g) → IsThere s (of_waiting node)
      → temporary_at g.world s.level node ≡ Some (Holds v) → WaitingHome s node v
  home_waiting s node v i there has = let c = call_of (calls_of g) s i in by c.0 c.1 c.2
    where
      by : (c : Call) → AmongCalls c (calls_of g) → c.site ≡ s → WaitingHome s node v
      by c k e =
          let here : IsThere c.site (of_waiting node) = subst (λ (z : Site). IsThere z (of_waiting node)) (sym e) there in
          let is : temporary_at g.world c.site.level node ≡ Some (Holds v) = ap (λ (z : Site). temporary_at g.world z.level node) e ∙ has in
          let item = (held_of x (store_of g) g.world (calls_of g) c y.hold k).1.items (of_waiting node) v here is in
          subst (λ (z : Site). WaitingHome z node v) e (record {
            shaped = item.shaped;
            among = record {
              call = c;
              among = k;
              name = of_waiting node;
              there = here;
              inside = waiting_inside c.site node here;
              value = v;
              has = is;
              is = refl;
            };
          })

  pub waits_home : (l : Location) (a : ℕ) (t : Shape) → FromWaits x.table (sites_of g) g.world l a t → IsInHome l a t
  waits_home l a t f = record {
    home = waiting_home_of f.from.site f.from.node;
    among = (home_waiting f.from.site f.from.node f.value f.from.among f.from.there f.has).among;
    base = f.from.base;
    offset = f.from.offset;
    way = f.from.path;
    address = f.from.address;
  }

  pub waiting_home : (l : Location) (a : ℕ) (t : Shape) → FromWaiting x.table (sites_of g) l a t → is_whole g.world (load g.world l) ≡ true → IsInHome l a t
  waiting_home l a t f whole = waits_home l a t (waits_there l a t f whole)

  -- ---- what is owned

  -- it is owned, or in a constant
  pub owned_or_data : (l : Location) (a : ℕ) (t : Shape) → LeadsHere x.table x.blocks (sites_of g) g.ground g.world l a t
      → IsOwned l.base ⊎ FromData x.table x.blocks g.ground l a t
  owned_or_data l a t (inl f) = inl (subst IsOwned (sym f.base) tt)
  owned_or_data l a t (inr (inl f)) = inr f
  owned_or_data l a t (inr (inr (inl f))) = inl (subst IsOwned (sym f.base) tt)
  owned_or_data l a t (inr (inr (inr f))) = inl (subst IsOwned (sym f.base) tt)

  -- one with texts or sequences, where it isn't made of numbers
  pub data_linked : (l : Location) (a : ℕ) (t : Shape) → of_numbers t ≡ false → FromData x.table x.blocks g.ground l a t → FromLinked g.ground l a t
  data_linked l a t other (inl f) = never (sym other ∙ path_numbers f.shape l.path f.offset t f.numbers f.path)
  data_linked l a t other (inr f) = f

  pub data_base : (l : Location) (a : ℕ) (t : Shape) → FromData x.table x.blocks g.ground l a t → IsMade l.base
  data_base l a t (inl f) = subst IsMade (sym f.base) tt
  data_base l a t (inr f) = subst IsMade (sym f.base) tt

  -- where something is seen
  pub owned_seen : (l : Location) (a : ℕ) (t : Shape) → IsOwned l.base → LeadsHere x.table x.blocks (sites_of g) g.ground g.world l a t
      → is_whole g.world (load g.world l) ≡ true → FromOwned x.table (sites_of g) g.ground g.world l a t
  owned_seen l a t is (inl f) whole = inl f
  owned_seen l a t is (inr (inl (inl f))) whole = absurd (subst IsOwned f.base is)
  owned_seen l a t is (inr (inl (inr f))) whole = absurd (subst IsOwned f.base is)
  owned_seen l a t is (inr (inr (inl f))) whole = inr (inl f)
  owned_seen l a t is (inr (inr (inr f))) whole = inr (inr (waits_there l a t f whole))

  pub owned_or_gone : (l : Location) (a : ℕ) (t : Shape) → IsOwned l.base → LeadsHere x.table x.blocks (sites_of g) g.ground g.world l a t
      → FromOwned x.table (sites_of g) g.ground g.world l a t ⊎ FromGone l a t
  owned_or_gone l a t is (inl f) = inl (inl f)
  owned_or_gone l a t is (inr (inl (inl f))) = absurd (subst IsOwned f.base is)
  owned_or_gone l a t is (inr (inl (inr f))) = absurd (subst IsOwned f.base is)
  owned_or_gone l a t is (inr (inr (inl f))) = inl (inr (inl f))
  owned_or_gone l a t is (inr (inr (inr f))) = by (waits_or_gone l a t f)
    where
      by : FromWaits x.table (sites_of g) g.world l a t ⊎ FromGone l a t → FromOwned x.table (sites_of g) g.ground g.world l a t ⊎ FromGone l a t
      by (inl w) = inl (inr (inr w))
      by (inr n) = inr n

  pub value_home : (c : Call) → AmongCalls c (calls_of g) → (temp : ℕ) (path : List ℕ) (a : ℕ) (t : Shape)
      → (f : FromValue x.table c.site c.temps temp path a t) → IsInHome (record { base = Made f.value; path = path; through = None }) a t
  value_home c i temp path a t f = record {
    home = home_at x g c (of_value temp) f.value;
    among = record { call = c; among = i; name = of_value temp; there = f.there; inside = f.home; value = f.value; has = f.has; is = refl };
    base = refl;
    offset = f.offset;
    way = f.leads;
    address = f.address;
  }

  -- into a home or a block
  abbrev pub owned_to : (l : Location) (a : ℕ) (t : Shape) → FromOwned x.table (sites_of g) g.ground g.world l a t
      → LeadsTo (is_fixed g.ground) (HomeOf x g) (homes_apart x g y) g.ground.blocks l a t
  owned_to l a t (inl f) = inl (place_home l a t f)
  owned_to l a t (inr (inl f)) = inr (record { block = f.block; base = f.base; leads = f.leads })
  owned_to l a t (inr (inr f)) = inl (waits_home l a t f)
