-- Where hooks are called from block code: the homes that they have around them, and that what is good before is good behind them.
use Rattle.std.proofs.Common.{◌≡◌, ◌≢◌, ◌⊎◌, inl, inr, ℕ, ◌+◌, ◌-◌, ◌%◌, ◌≤◌, List, [], ◌∷◌, length, map, Option, Some, None, Bool, true, false}
use Rattle.std.proofs.Common.{refl, sym, ap, ap₂, subst, ◌∙◌, arith}
use Rattle.std.proofs.lemmas.Option.{none-some}
use Rattle.nim_types.specs.Table.{IsTable}
use Rattle.rv32_isa.specs.Image.{heap_at, stack_at}
use Rattle.nim_meaning.specs.Values.{Value, Location, Standing, Waiting, InHand, Slot, Holds, Stands, Lends, Made}
use Rattle.nim_meaning.specs.Places.{root_of, through_slot}
use Rattle.nim_meaning.specs.State.{World, slot_at, temporary_at}
use Rattle.flat_code.specs.declared.block.BlockLine.{BlockLine}
use Rattle.flat_code.specs.Scene.{Temps, Where, Located, Within}
use Rattle.flat_code.specs.Shapes.{Shape}
use Rattle.word_code.specs.declared.word.TheConstants.{SPARE_ROOM}
use Rattle.word_code.specs.Memory.{Memory, may_put, own_data_at}
use Rattle.rv32_isa.specs.declared.micro_op.Size.TheVariants.{Word}
use Rattle.word_code.specs.RoutineTable.{Beside}
use Rattle.word_code.specs.Words.{Vars}
use Rattle.heap_memory.specs.declared.numbers.TheConstants.{HEAP_DATA}
use Rattle.heap_memory.specs.TextRoutines.{AreBytes}
use Rattle.flat_code.specs.Shapes.{has_shape}
use Rattle.word_lowering.specs.declared.homes.Alias.{Alias}
use Rattle.word_lowering.specs.declared.homes.Alias.TheVariants as alias
use Rattle.word_lowering.specs.declared.homes.Waiter.{Waiter}
use Rattle.word_lowering.specs.declared.homes.TheConstants.{LEFT}
use Rattle.word_lowering.specs.declared.spots.Spot.TheVariants.{Held}
use Rattle.word_lowering.specs.declared.texts.TheConstants.{FIXED_BYTES}
use Rattle.word_lowering.specs.Lookups.{holds_address}
use Rattle.word_lowering.specs.LineCode.{variable_in, variable_of}
use Rattle.word_lowering.specs.Spots.{spot_of}
use Rattle.word_lowering.specs.Stored.{HaveForms}
use Rattle.word_lowering.specs.WaitingCode.{waiter_at}
use Rattle.word_lowering.proofs.BaseValues.{Differ, IsOwn}
use Rattle.word_lowering.proofs.BlockHomes.{Home, home_bytes, AreApart, SameOrApart, IsOutside, IsAtHome, HomesHold}
use Rattle.word_lowering.proofs.BlockPaths.{leads_later}
use Rattle.word_lowering.proofs.Blocks.{Blocks, AreLater, Stored}
use Rattle.word_lowering.proofs.GoodHomes.{among_sites, one_call, home_at, HomeOf, homes_apart, home_is, in_frame_of, good_homes}
use Rattle.word_lowering.proofs.GoodRows.{later_ground_of}
use Rattle.word_lowering.proofs.GoodLeads.{call_of, own_place}
use Rattle.word_lowering.proofs.Gets.{SameTemps, high_variable}
use Rattle.word_lowering.proofs.HandHomes.{AllHomes}
use Rattle.word_lowering.proofs.HookHomes.{HookHomes, IsHere}
use Rattle.word_lowering.proofs.HookTexts.{fixed_alike, fixed_aside, fixed_before}
use Rattle.word_lowering.proofs.HookWorlds.{IsLike, like_itself, IsMemoryLike, memory_itself, may_as}
use Rattle.word_lowering.proofs.InMemory.{Carries}
use Rattle.word_lowering.proofs.Keeping.{AmongCalls, call, from_home, to_home, spot_held, false_true, declared_address, location_address, waiting_inside}
use Rattle.word_lowering.proofs.Keeping.{waiting_there}
use Rattle.word_lowering.proofs.Lines.{Basis, IsGood, starts, changed_later}
use Rattle.word_lowering.proofs.OpenCells.{cell_by}
use Rattle.word_lowering.proofs.OrdinalRuns.{AllSame}
use Rattle.word_lowering.proofs.Related.{Both, StandAt, called_by, calls_of, sites_of, store_of, body_of, IsOpen as MayOpen, IsClosed, MemoryGood, AllFrames}
use Rattle.word_lowering.proofs.RoutineMemory.{same_word}
use Rattle.word_lowering.proofs.Scenes.{IsLasting, Store, is_fixed, address_of, AtHome, Name, of_value, of_location, of_place, of_waiting, Call, site_of, house}
use Rattle.word_lowering.proofs.Scenes.{Filled, letter_later, linked_later}
use Rattle.word_lowering.proofs.Scenes.{HasValue, HasVariable, Says, SaysAt, variable_at, asks_shape}
use Rattle.word_lowering.proofs.Scenes.{FromBlock, IsNamed, IsThere, looked, IsItem, FromPlace, IsFilled, Reaches, IsLedBy, IsLed, Holding, AllHold}
use Rattle.word_lowering.proofs.ShapeFacts.{never, shape_bytes, of_numbers}
use Rattle.word_lowering.proofs.Sites.{room, Housing, in_variable, by_address, in_places, in_data, InMemory, Site, AmongSites, next_base, data_end}
use Rattle.word_lowering.proofs.SitesApart.{InRange, in_range, houses, SiteAt, site_at, next_least, next_whole, home_variable}
use Rattle.word_lowering.proofs.Sources.{Lying, text_beside, address_whole}
use Rattle.word_lowering.proofs.StoredLater.{stored_kept}

made_no_hand : (v : Value) (i : ℕ) → Made v ≢ InHand i
made_no_hand v i e = cc

made_standing : (v : Value) (level number : ℕ) → Made v ≡ Standing level number → ⊥
made_standing v level number e = cc

made_waiting : (v : Value) (level node : ℕ) → Made v ≡ Waiting level node → ⊥
made_waiting v level node e = cc

same_standing : (a b c d : ℕ) → Standing a b ≡ Standing c d → (a ≡ c) × (b ≡ d)
same_standing a b c d e = (cc, cc)

no_hand : (a b i : ℕ) → Standing a b ≢ InHand i
no_hand a b i e = cc

same_waiting : (a b c d : ℕ) → Waiting a b ≡ Waiting c d → (a ≡ c) × (b ≡ d)
same_waiting a b c d e = (cc, cc)

waiting_standing : (a b c d : ℕ) → Waiting a b ≡ Standing c d → ⊥
waiting_standing a b c d e = cc

waits_no_hand : (a b i : ℕ) → Waiting a b ≢ InHand i
waits_no_hand a b i e = cc

holds_same : (v u : Value) → Some (Holds v) ≡ Some (Holds u) → v ≡ u
holds_same v u e = cc

module _ (x : Basis) (g : Both) (line : BlockLine) (rest : List BlockLine) (y : IsGood x (starts g line rest)) where
  abbrev now : Both
  now = starts g line rest

  abbrev sites : List Site
  sites = sites_of now

  -- the home of what may have blocks
  pub record HookedHome (h : Home) : Type 0 where
    pub home : HomeOf x now h
    pub hooked : of_numbers h.shape ≡ false

  among : (c : Call) → AmongCalls c (calls_of now) → AmongSites c.site sites
  among c i = among_sites (calls_of now) c i

  -- ---- where homes are

  pub record IsWithin (h : Home) : Type 0 where
    pub whole : h.at % 4 ≡ 0
    pub under : h.at + home_bytes h ≤ next_base sites
    pub is_open : (k : ℕ) → k + 4 ≤ home_bytes h → MayOpen x.table x.blocks sites (h.at + k)
    pub lying : Lying x sites y.linked h.at (home_bytes h)

  -- at the home of a name
  pub name_within : (c : Call) → AmongCalls c (calls_of now) → (f : Name) → IsThere c.site f → InMemory (house c.site f).home → (h : Home)
      → h.at ≡ address_of c.site.base (house c.site f).home → home_bytes h ≡ (house c.site f).bytes → IsWithin h
  name_within c i f there inside h at size =
      by (in_range x.table x.blocks c.site (house c.site f) (houses x.table x.blocks c.site f s.body there) inside)
    where
      s : SiteAt x.table x.blocks sites c.site
      s = site_at x.table x.blocks sites c.site y.linked (among c i)

      even : address_of c.site.base (house c.site f).home % 4 ≡ 0
      even = address_whole x sites y.linked c.site f (among c i) there inside

      lies : Lying x sites y.linked h.at (home_bytes h)
      lies = record {
        site = c.site;
        name = f;
        among = among c i;
        there = there;
        home = inside;
        low = omega (arith, at);
        high = omega (arith, at, size);
        whole = omega (arith, at, even);
      }

      by : InRange x.table x.blocks c.site (address_of c.site.base (house c.site f).home) (house c.site f).bytes → IsWithin h
      by (inl r) =
          let d = x.small in let l = next_least x.table x.blocks sites y.linked in
          record {
            whole = omega (arith, at, even);
            under = omega (arith, at, size, r.2, d, l);
            is_open = λ k within. inl (omega (arith, at, r.1), omega (arith, at, size, within, r.2));
            lying = lies;
          }
      by (inr r) =
          let l = s.least in let m = s.most in
          record {
            whole = omega (arith, at, even);
            under = omega (arith, at, size, r.1, m);
            is_open = λ k within. inr (omega (arith, at, r.0, l), omega (arith, at, size, within, r.1, m));
            lying = lies;
          }

  pub home_within : (h : Home) → HomeOf x now h → IsWithin h
  home_within h p =
      let is = home_is x now y p.call p.name p.value p.among p.there p.has in
      subst IsWithin (sym p.is) (name_within p.call p.among p.name p.there p.inside (home_at x now p.call p.name p.value) is.0 is.1)

  pub no_hand_there : (h : Home) → HomeOf x now h → (i : ℕ) → Differ h.base (InHand i) × (Differ (InHand i) h.base × (h.base ≢ InHand i))
  no_hand_there h p i = subst (λ (k : Home). Differ k.base (InHand i) × (Differ (InHand i) k.base × (k.base ≢ InHand i))) (sym p.is) (by p.name p.has)
    where
      by : (f : Name) → HasValue g.world p.call f p.value → Differ (home_at x now p.call f p.value).base (InHand i)
          × (Differ (InHand i) (home_at x now p.call f p.value).base × ((home_at x now p.call f p.value).base ≢ InHand i))
      by (of_value t) has = (tt, (tt, made_no_hand p.value i))
      by (of_location t) has = absurd has
      by (of_place n) has = (tt, (tt, no_hand p.call.site.level n i))
      by (of_waiting n) has = (tt, (tt, waits_no_hand p.call.site.level n i))

  -- ---- all homes

  pub hooked_apart : (a b : Home) → HookedHome a → HookedHome b → SameOrApart a b
  hooked_apart a b p q = homes_apart x now y a b p.home q.home

  pub hooked_under : (h : Home) → HookedHome h → h.at + home_bytes h ≤ next_base sites
  hooked_under h p = (home_within h p.home).under

  pub hooked_whole : (h : Home) → HookedHome h → h.at % 4 ≡ 0
  hooked_whole h p = (home_within h p.home).whole

  pub hooked_no_hand : (h : Home) → HookedHome h → (i : ℕ) → Differ h.base (InHand i) × (Differ (InHand i) h.base × (h.base ≢ InHand i))
  hooked_no_hand h p i = no_hand_there h p.home i

  -- their words may be put
  pub within_may : (h : Home) → IsWithin h → (k : ℕ) → k + 4 ≤ home_bytes h → k % 4 ≡ 0 → may_put g.memory (h.at + k) Word ≡ true
  within_may h q k within even = let w = q.whole in (y.memory.cells (h.at + k) (omega (arith, w, even)) (q.is_open k within)).may

  pub hooked_may : (h : Home) → HookedHome h → (k : ℕ) → k + 4 ≤ home_bytes h → k % 4 ≡ 0 → may_put g.memory (h.at + k) Word ≡ true
  hooked_may h p k within even = within_may h (home_within h p.home) k within even

  -- what stands there
  pub hooked_stands : (h : Home) → HookedHome h → IsAtHome (is_fixed g.ground) g.ground.blocks g.world g.memory h
  hooked_stands h p = (good_homes x now y).homes h p.home

  -- those whose values may become others are places
  pub hooked_lies : (h : Home) → HookedHome h → IsOwn h.base → Lying x sites y.linked h.at (home_bytes h)
  hooked_lies h p own = (home_within h p.home).lying

  module _ (is_table : IsTable x.table) (have : HaveForms x.table)
    where
      -- what hooks have around them that are called here
      abbrev pub around_hooks : HookHomes
      around_hooks = record {
        table = x.table;
        is_table = is_table;
        have = have;
        StandsFixed = is_fixed g.ground;
        Homes = HookedHome;
        apart = hooked_apart;
        start = next_base sites;
        under = hooked_under;
        first = 0;
        others = λ h p i late. hooked_no_hand h p i;
        whole = hooked_whole;
        start_low = next_least x.table x.blocks sites y.linked;
        limit = stack_at + 268435456 - SPARE_ROOM;
        limit_most = omega arith;
        world = g.world;
        memory = g.memory;
        reaches = (let e = y.memory.places in omega (arith, e));
        may = hooked_may;
        fixed = λ m like. fixed_alike x g line rest y HookedHome hooked_lies m like;
        fixed_under = fixed_before x g line rest y;
        fixed_beside = λ place text is h p own. fixed_aside x g line rest y place text is h (hooked_lies h p own);
        law = x.law;
      }

      -- and all of it holds, where nothing is under way
      pub here_now : IsHere around_hooks (next_base sites) (next_base sites) [] g.ground.blocks g.world g.memory
      here_now = record {
        here = record {
          up = omega arith;
          holds = record {
            sized = y.memory.sized;
            heap = y.heap;
            homes = λ h i. by h i;
          };
          long = y.idle;
          fits = omega arith;
        };
        low_whole = next_whole x.table x.blocks sites y.linked;
        top_whole = next_whole x.table x.blocks sites y.linked;
        hand_whole = tt;
        ends = y.memory.places;
        like = like_itself HookedHome g.world;
        same = memory_itself HookedHome (next_base sites) g.memory;
        bytes = y.memory.bytes;
      }
        where
          by : (h : Home) → AllHomes (is_fixed g.ground) HookedHome hooked_apart (next_base sites) hooked_under 0 (λ h p i late. hooked_no_hand h p i) [] h
              → IsAtHome (is_fixed g.ground) g.ground.blocks g.world g.memory h
          by h (inl p) = hooked_stands h p
          by h (inr i) = absurd i

  -- ---- behind hooks

  -- a home beside all others, whose memory changes too
  pub record IsAside (h : Home) : Type 0 where
    pub lying : Lying x sites y.linked h.at (home_bytes h)
    pub plain : (k : Home) → (p : HomeOf x now k) → of_numbers (looked x.table p.call.site p.name) ≡ true → Beside k.at (home_bytes k) h.at (home_bytes h)

  module _ (later : Blocks) (ahead : AreLater g.ground.blocks later) (w : World) (m : Memory)
      (holds : HomesHold (is_fixed g.ground) HookedHome hooked_apart later w m) (like : IsLike HookedHome g.world w)
      (More : Home → Type 0) (aside : (h : Home) → More h → IsAside h)
      (same : IsMemoryLike (λ h. HookedHome h ⊎ More h) (next_base sites) g.memory m) (long : length m.places ≡ length g.memory.places)
      (bytes_then : AreBytes m.heap) (idle : length w.hand ≡ 0) where
    abbrev store_then : Store
    store_then = record { memory = m; ground = later_ground_of x g line rest y later }

    -- ---- places

    pub record IsChanged (c : Call) (n : ℕ) : Type 0 where
      pub inside : InMemory (house c.site (of_place n)).home
      pub hooked : of_numbers (looked x.table c.site (of_place n)) ≡ false
      pub old : Value
      pub was : slot_at g.world c.site.level n ≡ Some (Holds old)
      pub new : Value
      pub is : slot_at w c.site.level n ≡ Some (Holds new)
      pub stored : Stored (is_fixed g.ground) later m (address_of c.site.base (house c.site (of_place n)).home) (looked x.table c.site (of_place n)) new

    -- what is known of a place that is a home
    record IsPlaceHome (c : Call) (n : ℕ) : Type 0 where
      inside : InMemory (house c.site (of_place n)).home
      hooked : of_numbers (looked x.table c.site (of_place n)) ≡ false
      old : Value
      was : slot_at g.world c.site.level n ≡ Some (Holds old)

    place_home : (c : Call) (i : AmongCalls c (calls_of now)) (n : ℕ) (h : Home) → HookedHome h → h.base ≡ Standing c.site.level n → IsPlaceHome c n
    place_home c i n h p base = by p.home.name p.home.there p.home.inside p.home.has p.home.is
      where
        q : HomeOf x now h
        q = p.home

        by : (f : Name) → IsThere q.call.site f → InMemory (house q.call.site f).home → HasValue g.world q.call f q.value → h ≡ home_at x now q.call f q.value
            → IsPlaceHome c n
        by (of_value t) there inside has is = absurd (made_standing q.value c.site.level n (sym (ap (λ (k : Home). k.base) is) ∙ base))
        by (of_location t) there inside has is = absurd has
        by (of_waiting k) there inside has is =
            absurd (waiting_standing q.call.site.level k c.site.level n (sym (ap (λ (k : Home). k.base) is) ∙ base))
        by (of_place k) there inside has is =
            let both = same_standing q.call.site.level k c.site.level n (sym (ap (λ (k : Home). k.base) is) ∙ base) in
            let one : q.call ≡ c = one_call x (calls_of now) q.call c y.linked q.among i both.0 in
            let num : (s : Site) → of_numbers (looked x.table s (of_place k)) ≡ of_numbers (looked x.table s (of_place n))
            = λ s. ap (λ j. of_numbers (looked x.table s (of_place j))) both.1 in
            record {
              inside = subst (λ (d : Call). InMemory (house d.site (of_place n)).home) one
                  (subst (λ j. InMemory (house q.call.site (of_place j)).home) both.1 inside);
              hooked = subst (λ (d : Call). of_numbers (looked x.table d.site (of_place n)) ≡ false) one
                  (sym (num q.call.site) ∙ (sym (ap (λ (k : Home). of_numbers k.shape) is) ∙ p.hooked));
              old = q.value;
              was = ap₂ (λ a b. slot_at g.world a b) (sym both.0) (sym both.1) ∙ has;
            }

    -- the home of a place
    the_home : (c : Call) (i : AmongCalls c (calls_of now)) (n : ℕ) → IsThere c.site (of_place n) → (p : IsPlaceHome c n)
        → HookedHome (home_at x now c (of_place n) p.old)
    the_home c i n there p = record {
      home = record { call = c; among = i; name = of_place n; there = there; inside = p.inside; value = p.old; has = p.was; is = refl };
      hooked = p.hooked;
    }

    -- a place's slot is as it was, or it is the home of what may have blocks
    pub slot_cases : (c : Call) (i : AmongCalls c (calls_of now)) (n : ℕ) → IsThere c.site (of_place n)
        → (slot_at w c.site.level n ≡ slot_at g.world c.site.level n) ⊎ IsChanged c n
    slot_cases c i n there = by (houses x.table x.blocks c.site (of_place n) s.body there).where_is
      where
        s : SiteAt x.table x.blocks sites c.site
        s = site_at x.table x.blocks sites c.site y.linked (among c i)

        stays : (IsPlaceHome c n → ⊥) → (slot_at w c.site.level n ≡ slot_at g.world c.site.level n) ⊎ IsChanged c n
        stays other = inl (like.slots c.site.level n (in_frame_of x now y c n i there) (λ h p base. other (place_home c i n h p base)))

        changes : (p : IsPlaceHome c n) → IsChanged c n
        changes p =
            let at = holds.homes (home_at x now c (of_place n) p.old) (the_home c i n there p) in
            record {
              inside = p.inside;
              hooked = p.hooked;
              old = p.old;
              was = p.was;
              new = at.value;
              is = at.holds.1;
              stored = at.stored;
            }

        in_memory : InMemory (house c.site (of_place n)).home → (slot_at w c.site.level n ≡ slot_at g.world c.site.level n) ⊎ IsChanged c n
        in_memory inside = by_shape (of_numbers (looked x.table c.site (of_place n))) refl (slot_at g.world c.site.level n) refl
          where
            by_shape : (b : Bool) → of_numbers (looked x.table c.site (of_place n)) ≡ b → (o : Option Slot) → slot_at g.world c.site.level n ≡ o
                → (slot_at w c.site.level n ≡ slot_at g.world c.site.level n) ⊎ IsChanged c n
            by_shape true e o is = stays (λ p. never (sym p.hooked ∙ e))
            by_shape false e (Some (Holds v)) is = inr (changes (record { inside = inside; hooked = e; old = v; was = is }))
            by_shape false e (Some (Stands l)) is = stays (λ p. no_stands p.old (sym is ∙ p.was))
              where
                no_stands : (v : Value) → Some (Stands l) ≡ Some (Holds v) → ⊥
                no_stands v e = cc
            by_shape false e (Some (Lends u from seen)) is = stays (λ p. no_lends p.old (sym is ∙ p.was))
              where
                no_lends : (v : Value) → Some (Lends u from seen) ≡ Some (Holds v) → ⊥
                no_lends v e = cc
            by_shape false e None is = stays (λ p. none-some (Holds p.old) (sym is ∙ p.was))

        by : Housing (room c.site.body) FIXED_BYTES (data_end x.table x.blocks) c.site.body.start (house c.site (of_place n))
            → (slot_at w c.site.level n ≡ slot_at g.world c.site.level n) ⊎ IsChanged c n
        by (in_variable v e plain low is_word) = stays (λ p. subst InMemory e p.inside)
        by (by_address v e address low) = stays (λ p. subst InMemory e p.inside)
        by (in_places at e plain whole within) = in_memory (subst InMemory (sym e) tt)
        by (in_data at e plain whole low within start) = in_memory (subst InMemory (sym e) tt)

    -- ---- what waits

    record IsWaitHome (c : Call) (n : ℕ) : Type 0 where
      there : IsThere c.site (of_waiting n)
      hooked : of_numbers (looked x.table c.site (of_waiting n)) ≡ false
      old : Value
      was : temporary_at g.world c.site.level n ≡ Some (Holds old)

    pub record IsWaitChanged (c : Call) (n : ℕ) : Type 0 where
      pub there : IsThere c.site (of_waiting n)
      pub hooked : of_numbers (looked x.table c.site (of_waiting n)) ≡ false
      pub old : Value
      pub was : temporary_at g.world c.site.level n ≡ Some (Holds old)
      pub new : Value
      pub is : temporary_at w c.site.level n ≡ Some (Holds new)
      pub stored : Stored (is_fixed g.ground) later m (address_of c.site.base (house c.site (of_waiting n)).home) (looked x.table c.site (of_waiting n)) new

    wait_home : (c : Call) (i : AmongCalls c (calls_of now)) (n : ℕ) (h : Home) → HookedHome h → h.base ≡ Waiting c.site.level n → IsWaitHome c n
    wait_home c i n h p base = by p.home.name p.home.there p.home.has p.home.is
      where
        q : HomeOf x now h
        q = p.home

        by : (f : Name) → IsThere q.call.site f → HasValue g.world q.call f q.value → h ≡ home_at x now q.call f q.value → IsWaitHome c n
        by (of_value t) there has is = absurd (made_waiting q.value c.site.level n (sym (ap (λ (k : Home). k.base) is) ∙ base))
        by (of_location t) there has is = absurd has
        by (of_place k) there has is =
            absurd (waiting_standing c.site.level n q.call.site.level k (sym base ∙ ap (λ (k : Home). k.base) is))
        by (of_waiting k) there has is =
            let both = same_waiting q.call.site.level k c.site.level n (sym (ap (λ (k : Home). k.base) is) ∙ base) in
            let one : q.call ≡ c = one_call x (calls_of now) q.call c y.linked q.among i both.0 in
            record {
              there = subst (λ (d : Call). IsThere d.site (of_waiting n)) one (subst (λ j. IsThere q.call.site (of_waiting j)) both.1 there);
              hooked = subst (λ (d : Call). of_numbers (looked x.table d.site (of_waiting n)) ≡ false) one
                  (subst (λ j. of_numbers (looked x.table q.call.site (of_waiting j)) ≡ false) both.1
                  (sym (ap (λ (k : Home). of_numbers k.shape) is) ∙ p.hooked));
              old = q.value;
              was = ap₂ (λ a b. temporary_at g.world a b) (sym both.0) (sym both.1) ∙ has;
            }

    the_wait : (c : Call) (i : AmongCalls c (calls_of now)) (n : ℕ) → (p : IsWaitHome c n) → HookedHome (home_at x now c (of_waiting n) p.old)
    the_wait c i n p = record {
      home = record {
        call = c;
        among = i;
        name = of_waiting n;
        there = p.there;
        inside = waiting_inside c.site n p.there;
        value = p.old;
        has = p.was;
        is = refl;
      };
      hooked = p.hooked;
    }

    -- what waits at a node is as it was, or it is the home of what may have blocks
    pub wait_cases : (c : Call) (i : AmongCalls c (calls_of now)) (n : ℕ)
        → (temporary_at w c.site.level n ≡ temporary_at g.world c.site.level n) ⊎ IsWaitChanged c n
    wait_cases c i n = by (waiter_at n c.site.body.own.waiters) refl
      where
        stays : (IsWaitHome c n → ⊥) → (temporary_at w c.site.level n ≡ temporary_at g.world c.site.level n) ⊎ IsWaitChanged c n
        stays other = inl (like.waiting c.site.level n (λ h p base. other (wait_home c i n h p base)))

        changes : (p : IsWaitHome c n) → IsWaitChanged c n
        changes p =
            let at = holds.homes (home_at x now c (of_waiting n) p.old) (the_wait c i n p) in
            record {
              there = p.there;
              hooked = p.hooked;
              old = p.old;
              was = p.was;
              new = at.value;
              is = at.holds.1;
              stored = at.stored;
            }

        by_shape : IsThere c.site (of_waiting n) → (b : Bool) → of_numbers (looked x.table c.site (of_waiting n)) ≡ b → (o : Option Slot)
            → temporary_at g.world c.site.level n ≡ o → (temporary_at w c.site.level n ≡ temporary_at g.world c.site.level n) ⊎ IsWaitChanged c n
        by_shape there true e o is = stays (λ p. never (sym p.hooked ∙ e))
        by_shape there false e (Some (Holds v)) is = inr (changes (record { there = there; hooked = e; old = v; was = is }))
        by_shape there false e (Some (Stands l)) is = stays (λ p. no_stands p.old (sym is ∙ p.was))
          where
            no_stands : (v : Value) → Some (Stands l) ≡ Some (Holds v) → ⊥
            no_stands v e = cc
        by_shape there false e (Some (Lends u from seen)) is = stays (λ p. no_lends p.old (sym is ∙ p.was))
          where
            no_lends : (v : Value) → Some (Lends u from seen) ≡ Some (Holds v) → ⊥
            no_lends v e = cc
        by_shape there false e None is = stays (λ p. none-some (Holds p.old) (sym is ∙ p.was))

        by : (o : Option Waiter) → waiter_at n c.site.body.own.waiters ≡ o
            → (temporary_at w c.site.level n ≡ temporary_at g.world c.site.level n) ⊎ IsWaitChanged c n
        by None e = stays (λ p. none-some p.there.among.0 (sym e ∙ p.there.among.1))
        by (Some z) e =
            by_shape (waiting_there c.site n z e) (of_numbers (looked x.table c.site (of_waiting n))) refl (temporary_at g.world c.site.level n) refl

    more_filled : (c : Call) → AmongCalls c (calls_of now) → (n : ℕ) → IsThere c.site (of_place n) → Filled g.world c.site.level n
        → Filled w c.site.level n
    more_filled c i n there f = by (slot_cases c i n there)
      where
        by : (slot_at w c.site.level n ≡ slot_at g.world c.site.level n) ⊎ IsChanged c n → Filled w c.site.level n
        by (inl e) = (f.0, e ∙ f.1)
        by (inr p) = (Holds p.new, p.is)

    same_root : (c : Call) → AmongCalls c (calls_of now) → (n : ℕ) → IsThere c.site (of_place n)
        → root_of (Standing c.site.level n) w ≡ root_of (Standing c.site.level n) g.world
    same_root c i n there = by (slot_cases c i n there)
      where
        by : (slot_at w c.site.level n ≡ slot_at g.world c.site.level n) ⊎ IsChanged c n
            → root_of (Standing c.site.level n) w ≡ root_of (Standing c.site.level n) g.world
        by (inl e) = ap (through_slot (Standing c.site.level n)) e
        by (inr p) = ap (through_slot (Standing c.site.level n)) p.is ∙ sym (ap (through_slot (Standing c.site.level n)) p.was)

    -- ---- values that stay

    -- memory is the same at what is made of numbers
    plain_carried : (c : Call) (i : AmongCalls c (calls_of now)) (f : Name) (v : Value) → IsThere c.site f → (inside : InMemory (house c.site f).home)
        → HasValue g.world c f v → of_numbers (looked x.table c.site f) ≡ true
        → Carries g.memory m (address_of c.site.base (house c.site f).home) (address_of c.site.base (house c.site f).home) (house c.site f).bytes
    plain_carried c i f v there inside has numbers o u within whole reads =
        same_word g.memory m (address_of c.site.base (house c.site f).home + o) (same.beside (address_of c.site.base (house c.site f).home + o) 4 (record {
          before = (let a = is.0 in let b = is.1 in let e = r.under in omega (arith, a, b, e, within));
          own = narrow own_data_at HEAP_DATA out.own;
          heap = narrow heap_at (length g.memory.heap) out.heap;
          homes = λ h p own. part_of h (beside_of h p);
        })) ∙ reads
      where
        home : HomeOf x now (home_at x now c f v)
        home = record { call = c; among = i; name = f; there = there; inside = inside; value = v; has = has; is = refl }

        is : ((home_at x now c f v).at ≡ address_of c.site.base (house c.site f).home) × (home_bytes (home_at x now c f v) ≡ (house c.site f).bytes)
        is = home_is x now y c f v i there has

        r : IsWithin (home_at x now c f v)
        r = home_within (home_at x now c f v) home

        out : IsOutside g.memory (home_at x now c f v).at (home_bytes (home_at x now c f v))
        out = ((good_homes x now y).homes (home_at x now c f v) home).elsewhere

        narrow : (b k : ℕ) → Beside b k (home_at x now c f v).at (home_bytes (home_at x now c f v))
            → Beside (address_of c.site.base (house c.site f).home + o) 4 b k
        narrow b k (inl h) = let a = is.0 in inr (omega (arith, a, h))
        narrow b k (inr h) = let a = is.0 in let d = is.1 in inl (omega (arith, a, d, h, within))

        plain_shape : (f : Name) (v : Value) → HasValue g.world c f v → of_numbers (home_at x now c f v).shape ≡ of_numbers (looked x.table c.site f)
        plain_shape (of_value t) v has = refl
        plain_shape (of_location t) v has = absurd has
        plain_shape (of_place n) v has = refl
        plain_shape (of_waiting n) v has = refl

        apart_of : (h : Home) → HookedHome h → AreApart (home_at x now c f v) h
        apart_of h p = by (homes_apart x now y (home_at x now c f v) h home p.home)
          where
            by : SameOrApart (home_at x now c f v) h → AreApart (home_at x now c f v) h
            by (inl e) = never (sym (ap (λ (k : Home). of_numbers k.shape) e ∙ p.hooked) ∙ (plain_shape f v has ∙ numbers))
            by (inr away) = away

        beside_of : (h : Home) → HookedHome h ⊎ More h → Beside (home_at x now c f v).at (home_bytes (home_at x now c f v)) h.at (home_bytes h)
        beside_of h (inl p) = (apart_of h p).ranges
        beside_of h (inr q) = (aside h q).plain (home_at x now c f v) home numbers

        part_of : (h : Home) → Beside (home_at x now c f v).at (home_bytes (home_at x now c f v)) h.at (home_bytes h)
            → Beside (address_of c.site.base (house c.site f).home + o) 4 h.at (home_bytes h)
        part_of h (inl e) = let a = is.0 in let b = is.1 in inl (omega (arith, a, b, e, within))
        part_of h (inr e) = let a = is.0 in inr (omega (arith, a, e))

    -- ---- what calls hold

    module _ (s : Site) (temps temps' : Temps) (vars vars' : Vars) (i : AmongCalls (call s temps vars) (calls_of now))
        (values : (t : ℕ) → IsNamed s (of_value t) → temps'.values t ≡ temps.values t) (places : (t : ℕ) → temps'.places t ≡ temps.places t)
        (still : (t : ℕ) (v : Value) → IsLasting x.table s t → temps.values t ≡ Some v → (u : Value) × (temps'.values t ≡ Some u))
        (kept : (f : Name) (u : ℕ) → IsThere s f → HasVariable s f u → vars' u ≡ vars u) (left : vars' LEFT ≡ vars LEFT)
        (from : List Site) (up : (r : Site) → AmongSites r from → (c : Call) × AmongCalls c (calls_of now) × (c.site ≡ r))
        (old : Holding x.table x.blocks (store_of g) g.world from (call s temps vars)) where
      abbrev before : Call
      before = call s temps vars

      abbrev then : Call
      then = call s temps' vars'

      abbrev site_there : SiteAt x.table x.blocks sites s
      site_there = site_at x.table x.blocks sites s y.linked (among before i)

      -- with the value that it had
      value_stays : (f : Name) (v : Value) → IsThere s f → HasValue g.world before f v
          → (InMemory (house s f).home → of_numbers (looked x.table s f) ≡ true) → IsItem x.table store_then then f v
      value_stays f v there has numbers = record {
        there = there;
        plain = item.plain;
        shaped = item.shaped;
        at = by (houses x.table x.blocks s f site_there.body there).where_is;
      }
        where
          item : IsItem x.table (store_of g) before f v
          item = old.items f v there has

          size : shape_bytes (looked x.table s f) ≡ (house s f).bytes
          size = (houses x.table x.blocks s f site_there.body there).bytes

          in_memory : InMemory (house s f).home → AtHome store_then s.base vars' (looked x.table s f) (spot_of (house s f)) v
          in_memory inside =
              to_home store_then s.base vars' (looked x.table s f) (house s f) v item.plain inside
              (stored_kept (is_fixed g.ground) g.ground.blocks later ahead g.memory m (address_of s.base (house s f).home)
              (address_of s.base (house s f).home) (looked x.table s f) v
              (λ o u within whole reads. plain_carried before i f v there inside has (numbers inside) o u (let e = size in omega (arith, within, e)) whole
              reads)
              (from_home (store_of g) s.base vars (looked x.table s f) (house s f) v item.plain inside item.at))

          by : Housing (room s.body) FIXED_BYTES (data_end x.table x.blocks) s.body.start (house s f)
              → AtHome store_then s.base vars' (looked x.table s f) (spot_of (house s f)) v
          by (in_variable u is plain low is_word) =
              let spot : spot_of (house s f) ≡ Held u = spot_held (house s f) u plain is in
              subst (λ p. AtHome store_then s.base vars' (looked x.table s f) p v) (sym spot)
              (kept f u there (home_variable x.table x.blocks s f u there is)
              ∙ subst (λ p. AtHome (store_of g) s.base vars (looked x.table s f) p v) spot item.at)
          by (by_address u is address low) = absurd (false_true (sym item.plain ∙ address))
          by (in_places at is plain whole within) = in_memory (subst InMemory (sym is) tt)
          by (in_data at is plain whole low within start) = in_memory (subst InMemory (sym is) tt)

      -- with what its home has
      value_home : (f : Name) (v : Value) → IsThere s f → holds_address (house s f) ≡ false → InMemory (house s f).home
          → of_numbers (looked x.table s f) ≡ false
          → (asks_shape f (looked x.table s f) ≡ true → has_shape v (looked x.table s f) ≡ true)
          → Stored (is_fixed g.ground) later m (address_of s.base (house s f).home) (looked x.table s f) v → IsItem x.table store_then then f v
      value_home f v there plain inside hooked shaped stored = record {
        there = there;
        plain = plain;
        shaped = shaped;
        at = to_home store_then s.base vars' (looked x.table s f) (house s f) v plain inside stored;
      }

      items : (f : Name) (v : Value) → IsThere s f → HasValue w then f v → IsItem x.table store_then then f v
      items (of_location t) v there has = absurd has
      items (of_place n) v there has = by (slot_cases before i n there)
        where
          by : (slot_at w s.level n ≡ slot_at g.world s.level n) ⊎ IsChanged before n → IsItem x.table store_then then (of_place n) v
          by (inr p) =
              let own = own_place x sites y.linked s n (among before i) there p.inside in
              let e = holds_same p.new v (sym p.is ∙ has) in
              value_home (of_place n) v there ((old.items (of_place n) p.old there p.was).plain) p.inside p.hooked
              (λ numbers. never (sym p.hooked ∙ numbers))
              (subst (λ u. Stored (is_fixed g.ground) later m (address_of s.base (house s (of_place n)).home) (looked x.table s (of_place n)) u) e p.stored)
          by (inl e) = by_shape (of_numbers (looked x.table s (of_place n))) refl
            where
              was : HasValue g.world before (of_place n) v
              was = sym e ∙ has

              by_shape : (b : Bool) → of_numbers (looked x.table s (of_place n)) ≡ b → IsItem x.table store_then then (of_place n) v
              by_shape true numbers = value_stays (of_place n) v there was (λ inside. numbers)
              by_shape false hooked = memory (houses x.table x.blocks s (of_place n) site_there.body there).where_is
                where
                  at_home : InMemory (house s (of_place n)).home → IsItem x.table store_then then (of_place n) v
                  at_home inside =
                      let p : IsPlaceHome before n = record { inside = inside; hooked = hooked; old = v; was = was } in
                      let at = holds.homes (home_at x now before (of_place n) v) (the_home before i n there p) in
                      let same_value = holds_same at.value v (sym at.holds.1 ∙ has) in
                      value_home (of_place n) v there ((old.items (of_place n) v there was).plain) inside hooked (λ numbers. never (sym hooked ∙ numbers))
                      (subst (λ u. Stored (is_fixed g.ground) later m (address_of s.base (house s (of_place n)).home) (looked x.table s (of_place n)) u)
                      same_value at.stored)

                  memory : Housing (room s.body) FIXED_BYTES (data_end x.table x.blocks) s.body.start (house s (of_place n))
                      → IsItem x.table store_then then (of_place n) v
                  memory (in_variable u is plain low is_word) = value_stays (of_place n) v there was (λ inside. absurd (subst InMemory is inside))
                  memory (by_address u is address low) = value_stays (of_place n) v there was (λ inside. absurd (subst InMemory is inside))
                  memory (in_places at is plain whole within) = at_home (subst InMemory (sym is) tt)
                  memory (in_data at is plain whole low within start) = at_home (subst InMemory (sym is) tt)
      items (of_waiting n) v there has = by (wait_cases before i n)
        where
          by : (temporary_at w s.level n ≡ temporary_at g.world s.level n) ⊎ IsWaitChanged before n → IsItem x.table store_then then (of_waiting n) v
          by (inr p) =
              let e = holds_same p.new v (sym p.is ∙ has) in
              value_home (of_waiting n) v there ((old.items (of_waiting n) p.old there p.was).plain) (waiting_inside s n there) p.hooked
              (λ numbers. never (sym p.hooked ∙ numbers))
              (subst (λ u. Stored (is_fixed g.ground) later m (address_of s.base (house s (of_waiting n)).home) (looked x.table s (of_waiting n)) u) e p.stored)
          by (inl e) = by_shape (of_numbers (looked x.table s (of_waiting n))) refl
            where
              was : HasValue g.world before (of_waiting n) v
              was = sym e ∙ has

              by_shape : (b : Bool) → of_numbers (looked x.table s (of_waiting n)) ≡ b → IsItem x.table store_then then (of_waiting n) v
              by_shape true numbers = value_stays (of_waiting n) v there was (λ inside. numbers)
              by_shape false hooked =
                  let p : IsWaitHome before n = record { there = there; hooked = hooked; old = v; was = was } in
                  let at = holds.homes (home_at x now before (of_waiting n) v) (the_wait before i n p) in
                  let same_value = holds_same at.value v (sym at.holds.1 ∙ has) in
                  value_home (of_waiting n) v there ((old.items (of_waiting n) v there was).plain) (waiting_inside s n there) hooked
                  (λ numbers. never (sym hooked ∙ numbers))
                  (subst (λ u. Stored (is_fixed g.ground) later m (address_of s.base (house s (of_waiting n)).home) (looked x.table s (of_waiting n)) u)
                  same_value at.stored)
      items (of_value t) v there now_has = by_shape (of_numbers (looked x.table s (of_value t))) refl
        where
          has : HasValue g.world before (of_value t) v
          has = sym (values t (record { among = there.among; number = there.number; kind = there.kind })) ∙ now_has

          by_shape : (b : Bool) → of_numbers (looked x.table s (of_value t)) ≡ b → IsItem x.table store_then then (of_value t) v
          by_shape true numbers = value_stays (of_value t) v there has (λ inside. numbers)
          by_shape false hooked = memory (houses x.table x.blocks s (of_value t) site_there.body there).where_is
            where
              at_home : InMemory (house s (of_value t)).home → IsItem x.table store_then then (of_value t) v
              at_home inside =
                  let at = holds.homes (home_at x now before (of_value t) v) (record {
                    home = record { call = before; among = i; name = of_value t; there = there; inside = inside; value = v; has = has; is = refl };
                    hooked = hooked;
                  }) in
                  value_home (of_value t) v there ((old.items (of_value t) v there has).plain) inside hooked
                  ((old.items (of_value t) v there has).shaped)
                  (subst (λ u. Stored (is_fixed g.ground) later m (address_of s.base (house s (of_value t)).home) (looked x.table s (of_value t)) u)
                  (sym at.holds) at.stored)

              memory : Housing (room s.body) FIXED_BYTES (data_end x.table x.blocks) s.body.start (house s (of_value t))
                  → IsItem x.table store_then then (of_value t) v
              memory (in_variable u is plain low is_word) = value_stays (of_value t) v there has (λ inside. absurd (subst InMemory is inside))
              memory (by_address u is address low) = value_stays (of_value t) v there has (λ inside. absurd (subst InMemory is inside))
              memory (in_places at is plain whole within) = at_home (subst InMemory (sym is) tt)
              memory (in_data at is plain whole low within start) = at_home (subst InMemory (sym is) tt)

      -- ---- locations

      filled_at : (r : Site) → AmongSites r from → (n : ℕ) → IsThere r (of_place n) → Filled g.world r.level n → Filled w r.level n
      filled_at r j n there f =
          let c = up r j in
          subst (λ (q : Site). Filled w q.level n) c.2
          (more_filled c.0 c.1 n (subst (λ (q : Site). IsThere q (of_place n)) (sym c.2) there)
          (subst (λ (q : Site). Filled g.world q.level n) (sym c.2) f))

      root_at : (r : Site) → AmongSites r from → (n : ℕ) → IsThere r (of_place n) → root_of (Standing r.level n) w ≡ root_of (Standing r.level n) g.world
      root_at r j n there =
          let c = up r j in
          subst (λ (q : Site). root_of (Standing q.level n) w ≡ root_of (Standing q.level n) g.world) c.2
          (same_root c.0 c.1 n (subst (λ (q : Site). IsThere q (of_place n)) (sym c.2) there))

      place_leads : (l : Location) (a : ℕ) (t : Shape) → FromPlace x.table from g.world l a t → FromPlace x.table from w l a t
      place_leads l a t f = record {
        site = f.site;
        among = f.among;
        number = f.number;
        base = f.base;
        filled = filled_at f.site f.among f.number f.there f.filled;
        there = f.there;
        home = f.home;
        offset = f.offset;
        path = f.path;
        address = f.address;
      }

      block_leads : (l : Location) (a : ℕ) (t : Shape) → FromBlock g.ground l a t → FromBlock store_then.ground l a t
      block_leads l a t f = record {
        block = f.block;
        base = f.base;
        leads = leads_later g.ground.blocks later ahead f.block l.path a t f.leads;
        near = f.near;
      }

      leads_then : (there : Where) (a : ℕ) (t : Shape) → Reaches x.table x.blocks from g.ground g.world s temps there a t
          → Reaches x.table x.blocks from store_then.ground w s temps' there a t
      leads_then (Located l) a t (inl (inl f)) = inl (inl (place_leads l a t f))
      leads_then (Located l) a t (inl (inr (inl (inl f)))) = inl (inr (inl (inl f)))
      leads_then (Located l) a t (inl (inr (inl (inr f)))) =
          inl (inr (inl (inr (linked_later g.ground store_then.ground (record { blocks = ahead; fixed = refl }) l a t f))))
      leads_then (Located l) a t (inl (inr (inr (inl f)))) = inl (inr (inr (inl (block_leads l a t f))))
      leads_then (Located l) a t (inl (inr (inr (inr f)))) = inl (inr (inr (inr f)))
      leads_then (Located l) a t (inr f) = inr (letter_later x.table x.blocks g.ground store_then.ground (record { blocks = ahead; fixed = refl }) l a t f)
      leads_then (Within temp path) a t f =
          let v = still temp f.value f.lasting f.has in
          record {
            there = f.there;
            home = f.home;
            offset = f.offset;
            leads = f.leads;
            address = f.address;
            lasting = f.lasting;
            value = v.0;
            has = v.1;
          }

      variable_then : (f : Name) (a : ℕ) → IsThere s f → holds_address (house s f) ≡ true → vars (variable_of (house s f)) ≡ Some a
          → vars' (variable_of (house s f)) ≡ Some a
      variable_then f a there address h = by (houses x.table x.blocks s f site_there.body there).where_is
        where
          by : Housing (room s.body) FIXED_BYTES (data_end x.table x.blocks) s.body.start (house s f) → vars' (variable_of (house s f)) ≡ Some a
          by (in_variable u is plain low is_word) = absurd (false_true (sym plain ∙ address))
          by (by_address u is e low) = ap vars' (ap variable_in is) ∙ kept f u there (home_variable x.table x.blocks s f u there is)
              ∙ ap vars (sym (ap variable_in is)) ∙ h
          by (in_places at is plain whole within) = absurd (false_true (sym plain ∙ address))
          by (in_data at is plain whole low within start) = absurd (false_true (sym plain ∙ address))

      led : (t : ℕ) (there : Where) → IsNamed s (of_location t) → temps'.places t ≡ Some there
          → IsLed x.table x.blocks from store_then.ground w then t there
      led t there named h = by (house s (of_location t)).alias refl (old.led t there named (sym (places t) ∙ h))
        where
          by : (a : Alias) → (house s (of_location t)).alias ≡ a → IsLedBy x.table x.blocks a from g.ground g.world before t there
              → IsLedBy x.table x.blocks a from store_then.ground w then t there
          by alias.Own own f = record {
            standing = f.standing;
            address = f.address;
            holds = variable_then (of_location t) f.address (record { among = named.among; number = named.number; kind = named.kind; own = own })
                (location_address (house s (of_location t)) named.kind) f.holds;
            leads = leads_then there f.address (looked x.table s (of_location t)) f.leads;
          }
          by (alias.Place p global) e f = record {
            site = f.site;
            among = f.among;
            level = f.level;
            is_there = f.is_there;
            steady = f.steady;
            filled = filled_at f.site f.among p f.is_there f.filled;
            is = f.is ∙ ap (λ l. Located l) (sym (root_at f.site f.among p f.is_there));
          }
          by (alias.Value u) e f =
              let v = still u f.value f.lasting f.has in record { is = f.is; lasting = f.lasting; value = v.0; has = v.1 }
          by (alias.Node node) e f = f
          by (alias.Text behind bytes) e f = absurd f

      filled : (n : ℕ) → IsThere s (of_place n) → Filled w s.level n → IsFilled x.table x.blocks from store_then.ground w then n
      filled n there f = by (slot_cases before i n there)
        where
          by : (slot_at w s.level n ≡ slot_at g.world s.level n) ⊎ IsChanged before n → IsFilled x.table x.blocks from store_then.ground w then n
          by (inr p) = record {
            own = λ own. (p.new, p.is);
            other = λ other. never (sym other ∙ own_place x sites y.linked s n (among before i) there p.inside);
          }
          by (inl e) =
              let q = old.filled n there (f.0, sym e ∙ f.1) in
              record {
                own = λ own. let v = q.own own in (v.0, e ∙ v.1);
                other = λ other. let v = q.other other in record {
                  location = v.location;
                  slot = e ∙ v.slot;
                  address = v.address;
                  holds = variable_then (of_place n) v.address there (declared_address (house s (of_place n)) there.kind other) v.holds;
                  stood = v.stood;
                  leads = leads_then (Located v.location) v.address (looked x.table s (of_place n)) v.leads;
                };
              }

      -- ---- what variables say of what waits

      says : (n : ℕ) (o : Option Waiter) → waiter_at n s.body.own.waiters ≡ o → (slot : Option Slot) → SaysAt o slot s.base vars → SaysAt o slot s.base vars'
      says n None is slot h = h
      says n (Some z) is slot h =
          subst (λ word. Says slot word (s.base + z.at)) (sym (kept (of_waiting n) z.variable (waiting_there s n z is) (ap variable_at is))) h

      -- whichever value it is
      says_held : (o : Option Waiter) (v u : Value) → SaysAt o (Some (Holds v)) s.base vars → SaysAt o (Some (Holds u)) s.base vars
      says_held None v u h = absurd (none-some (Holds v) (sym h))
      says_held (Some z) v u h = h

      waits : (n : ℕ) → SaysAt (waiter_at n s.body.own.waiters) (temporary_at w s.level n) s.base vars'
      waits n = by (wait_cases before i n)
        where
          by : (temporary_at w s.level n ≡ temporary_at g.world s.level n) ⊎ IsWaitChanged before n
              → SaysAt (waiter_at n s.body.own.waiters) (temporary_at w s.level n) s.base vars'
          by (inl e) =
              subst (λ o. SaysAt (waiter_at n s.body.own.waiters) o s.base vars') (sym e)
              (says n (waiter_at n s.body.own.waiters) refl (temporary_at g.world s.level n) (old.waits n))
          by (inr p) =
              subst (λ o. SaysAt (waiter_at n s.body.own.waiters) o s.base vars') (sym p.is)
              (says n (waiter_at n s.body.own.waiters) refl (Some (Holds p.new)) (says_held (waiter_at n s.body.own.waiters) p.old p.new
              (subst (λ o. SaysAt (waiter_at n s.body.own.waiters) o s.base vars) p.was (old.waits n))))

      pub holding_then : Holding x.table x.blocks store_then w from then
      holding_then = record {
        items = items;
        texts = λ t behind bytes v named text h. old.texts t behind bytes v named text (sym (values t named) ∙ h);
        led = led;
        filled = filled;
        left = λ h. left ∙ old.left h;
        waits = waits;
        once = like.once s.level old.once;
      }

    all_then : (cs : List Call) → ((c : Call) → AmongCalls c cs → AmongCalls c (calls_of now)) → AllHold x.table x.blocks (store_of g) g.world cs
        → AllHold x.table x.blocks store_then w cs
    all_then [] sub all = tt
    all_then (c ∷ cs) sub all = (
      holding_then c.site c.temps c.temps c.vars c.vars (sub c (inl refl)) (λ t named. refl) (λ t. refl) (λ t v l h. (v, h)) (λ f u there is. refl) refl
          (map site_of (c ∷ cs)) (λ r j. let k = call_of (c ∷ cs) r j in (k.0, sub k.0 k.1, k.2)) all.0,
      all_then cs (λ d j. sub d (inr j)) all.1,
    )

    memory_then : MemoryGood x.table x.blocks sites x.first m
    memory_then = record {
      sized = holds.sized;
      statics = same.statics ∙ y.memory.statics;
      heap = same.heap ∙ y.memory.heap;
      bytes = bytes_then;
      places = ap (λ k. stack_at + k) long ∙ y.memory.places;
      cells = λ a whole is_open.
          let before = within a is_open in
          cell_by m holds.sized a (may_as g.memory m same.statics same.heap a before (omega (arith, before, long)) ∙ (y.memory.cells a whole is_open).may);
      texts = λ b n text. same.beside b n (record {
        before = (before b n text.0);
        own = (own b n text.0);
        heap = (in_heap b n text.0);
        homes = λ h p own. text_beside x sites y.linked h.at (home_bytes h) b n (lying_at h p own) text;
      }) ∙ y.memory.texts b n text;
    }
      where
        lying_at : (h : Home) → HookedHome h ⊎ More h → IsOwn h.base → Lying x sites y.linked h.at (home_bytes h)
        lying_at h (inl p) own = hooked_lies h p own
        lying_at h (inr q) own = (aside h q).lying

        within : (a : ℕ) → MayOpen x.table x.blocks sites a → a + 4 ≤ stack_at + length g.memory.places
        within a (inl h) = let d = x.small in omega (arith, h.1, d)
        within a (inr h) = let e = y.memory.places in omega (arith, h.1, e)

        before : (b n : ℕ) → IsClosed x.table x.blocks b n → b + n ≤ next_base sites
        before b n (inl h) = let l = next_least x.table x.blocks sites y.linked in omega (arith, h.1, l)
        before b n (inr h) = let l = next_least x.table x.blocks sites y.linked in omega (arith, h.1, l)

        own : (b n : ℕ) → IsClosed x.table x.blocks b n → Beside b n own_data_at HEAP_DATA
        own b n (inl h) = inr (omega (arith, h.0))
        own b n (inr h) = inr (omega (arith, h.0))

        in_heap : (b n : ℕ) → IsClosed x.table x.blocks b n → Beside b n heap_at (length g.memory.heap)
        in_heap b n (inl h) = inl (omega (arith, h.1))
        in_heap b n (inr h) = inl (omega (arith, h.1))

    frames_then : (some : List Site) → AllFrames x.table x.blocks g.world some → AllFrames x.table x.blocks w some
    frames_then [] all = tt
    frames_then (s ∷ some) all = (like.frames s.level s.body.proc.first s.body.proc.span all.0, frames_then some all.1)

    pub good_behind_hooks : (after : List BlockLine) → StandAt x.table x.blocks (body_of g) after → (temps : Temps) → SameTemps x g line rest y temps
        → (vars words : Vars) (awaits : ℕ) → AllSame g.call.vars vars
        → IsGood x (changed_later g after temps vars m words awaits w (later_ground_of x g line rest y later) w.input)
    good_behind_hooks after stands temps same_temps vars words awaits kept = record {
      linked = y.linked;
      memory = memory_then;
      heap = holds.heap;
      input = refl;
      hold = (
        holding_then g.call.site g.call.temps temps g.call.vars vars (inl refl) same_temps.values same_temps.places same_temps.still
            (λ f u there is. kept.others u (high_variable x g line rest y f u there is)) kept.left sites (λ r j. call_of (calls_of now) r j) y.hold.0,
        all_then (map called_by g.waiting) (λ c i. inr i) y.hold.1,
      );
      frames = frames_then sites y.frames;
      levels = like.levels ∙ y.levels;
      stands = stands;
      waits = y.waits;
      answers = y.answers;
      idle = idle;
      fixed = y.fixed;
    }
