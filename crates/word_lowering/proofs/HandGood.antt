-- Where a hook is called while a value is under way at the home of a temporary, which has none itself: what the hook has around it, and that what is good
-- before is good behind it.
use Rattle.std.proofs.Common.{◌≡◌, ◌≢◌, ◌⊎◌, inl, inr, ℕ, ◌+◌, ◌-◌, ◌%◌, ◌≤◌, List, [], ◌∷◌, ◌++◌, length, take, Some, None, true, false}
use Rattle.std.proofs.Common.{refl, sym, ap, subst, ◌∙◌, arith}
use Rattle.std.specs.Prelude.{slice_get}
use Rattle.std.proofs.lemmas.Option.{none-some}
use Rattle.nim_types.specs.Table.{IsTable}
use Rattle.rv32_isa.specs.Image.{stack_at}
use Rattle.rv32_isa.specs.declared.micro_op.Size.TheVariants.{Word}
use Rattle.nim_meaning.specs.Values.{Value, InHand, Standing, Waiting, at_base}
use Rattle.nim_meaning.specs.State.{World, load, popped, pushed}
use Rattle.flat_code.specs.declared.block.BlockLine.{BlockLine}
use Rattle.flat_code.specs.Scene.{Temps}
use Rattle.word_code.specs.declared.word.TheConstants.{SPARE_ROOM}
use Rattle.word_code.specs.Memory.{Memory, may_put}
use Rattle.word_code.specs.Words.{Vars}
use Rattle.word_lowering.specs.Stored.{HaveForms}
use Rattle.word_lowering.proofs.BaseValues.{Differ, IsOwn, in_frame, whole_held}
use Rattle.word_lowering.proofs.BlockHomes.{Home, home_bytes, SameOrApart, IsAtHome, HomesHold}
use Rattle.word_lowering.proofs.Blocks.{Blocks, AreLater, Stored}
use Rattle.word_lowering.proofs.Gets.{SameTemps}
use Rattle.word_lowering.proofs.GoodHomes.{among_sites, home_at, home_is, HomeOf, one_call, outside}
use Rattle.word_lowering.proofs.GoodRows.{later_ground_of}
use Rattle.word_lowering.proofs.HandHomes.{AllHomes, with_hand}
use Rattle.word_lowering.proofs.HookHomes.{HookHomes, IsHere}
use Rattle.word_lowering.proofs.HooksGood.{HookedHome, IsAside, IsWithin, good_behind_hooks, hooked_apart, hooked_lies, hooked_may, hooked_no_hand}
use Rattle.word_lowering.proofs.HooksGood.{hooked_stands, hooked_under, hooked_whole, name_within, within_may}
use Rattle.word_lowering.proofs.HookTexts.{fixed_alike, fixed_aside, fixed_before}
use Rattle.word_lowering.proofs.HookWorlds.{IsLike, IsNoHome, like_itself, memory_itself}
use Rattle.word_lowering.proofs.Keeping.{name_cases, number_cases}
use Rattle.word_lowering.proofs.Lines.{Basis, IsGood, changed_later, starts}
use Rattle.word_lowering.proofs.OrdinalRuns.{AllSame}
use Rattle.word_lowering.proofs.Related.{Both, StandAt, body_of, calls_of, sites_of}
use Rattle.word_code.specs.RoutineTable.{Beside}
use Rattle.word_lowering.proofs.Scenes.{of_value, HasValue, IsThere, address_of, house, is_fixed, looked}
use Rattle.word_lowering.proofs.ShapeFacts.{of_numbers}
use Rattle.word_lowering.proofs.Sites.{InMemory, Site, next_base}
use Rattle.word_lowering.proofs.Sources.{Lying}
use Rattle.word_lowering.proofs.SitesApart.{Beside as BesideOf, houses, next_least, next_whole, ranges_apart}

hand_apart : (i : ℕ) → 1 ≤ i → InHand 0 ≢ InHand i
hand_apart i late e = let same : 0 ≡ i = cc in omega (arith, late, same)

-- the last one is taken
pub none_left : (hand : List Value) → length hand ≡ 1 → length (take (length hand - 1) hand) ≡ 0
none_left [] e = absurd (omega (arith, e))
none_left (v ∷ []) e = refl
none_left (v ∷ u ∷ hand) e = absurd (omega (arith, e))

turned : (a n b k : ℕ) → Beside a n b k → Beside b k a n
turned a n b k (inl h) = inr h
turned a n b k (inr h) = inl h

module _ (x : Basis) (g : Both) (line : BlockLine) (rest : List BlockLine) (y : IsGood x (starts g line rest)) (t : ℕ)
    (there : IsThere g.call.site (of_value t)) (inside : InMemory (house g.call.site (of_value t)).home) (none : g.call.temps.values t ≡ None)
    (hooked : of_numbers (looked x.table g.call.site (of_value t)) ≡ false) where
  abbrev now : Both
  now = starts g line rest

  abbrev sites : List Site
  sites = sites_of now

  abbrev pub hand_there : Home
  hand_there = record {
    base = InHand 0;
    at = address_of g.call.site.base (house g.call.site (of_value t)).home;
    shape = looked x.table g.call.site (of_value t);
  }

  abbrev pub IsHand : Home → Type 0
  IsHand h = hand_there ≡ h

  abbrev pub HandedHome : Home → Type 0
  HandedHome h = HookedHome x g line rest y h ⊎ IsHand h

  size : home_bytes hand_there ≡ (house g.call.site (of_value t)).bytes
  size = (houses x.table x.blocks g.call.site (of_value t) y.linked.0 there).bytes

  -- ---- it is beside all others

  other_name : (h : Home) (p : HomeOf x now h) → (p.call.site.level ≢ g.call.site.level) ⊎ (p.name ≢ of_value t)
  other_name h p = by (number_cases p.call.site.level g.call.site.level)
    where
      by : (p.call.site.level ≡ g.call.site.level) ⊎ (p.call.site.level ≢ g.call.site.level)
          → (p.call.site.level ≢ g.call.site.level) ⊎ (p.name ≢ of_value t)
      by (inr ne) = inl ne
      by (inl e) = names (name_cases p.name (of_value t))
        where
          one : p.call ≡ g.call
          one = one_call x (calls_of (starts g line rest)) p.call g.call y.linked p.among (inl refl) e

          names : (p.name ≡ of_value t) ⊎ (p.name ≢ of_value t) → (p.call.site.level ≢ g.call.site.level) ⊎ (p.name ≢ of_value t)
          names (inr ne) = inr ne
          names (inl f) =
              let has : HasValue g.world g.call (of_value t) p.value = subst (λ n. HasValue g.world g.call n p.value) f
              (subst (λ c. HasValue g.world c p.name p.value) one p.has) in
              absurd (none-some p.value (sym none ∙ has))

  beside_hand : (h : Home) → HomeOf x now h → Beside h.at (home_bytes h) hand_there.at (home_bytes hand_there)
  beside_hand h p =
      let r = ranges_apart x.table x.blocks x.small sites p.call.site g.call.site p.name (of_value t) y.linked
      (among_sites (calls_of now) p.call p.among) (inl refl) p.there there p.inside inside (other_name h p) in
      let is = home_is x now y p.call p.name p.value p.among p.there p.has in
      subst (λ k. Beside k.at (home_bytes k) hand_there.at (home_bytes hand_there)) (sym p.is) (ranges r is)
    where
      ranges : BesideOf (address_of p.call.site.base (house p.call.site p.name).home) (house p.call.site p.name).bytes
          (address_of g.call.site.base (house g.call.site (of_value t)).home) (house g.call.site (of_value t)).bytes
          → ((home_at x (starts g line rest) p.call p.name p.value).at ≡ address_of p.call.site.base (house p.call.site p.name).home)
          × (home_bytes (home_at x (starts g line rest) p.call p.name p.value) ≡ (house p.call.site p.name).bytes)
          → Beside (home_at x (starts g line rest) p.call p.name p.value).at (home_bytes (home_at x (starts g line rest) p.call p.name p.value))
          hand_there.at (home_bytes hand_there)
      ranges (inl h) is = let s = size in inl (omega (arith, h, is.0, is.1, s))
      ranges (inr h) is = let s = size in inr (omega (arith, h, is.0, is.1, s))

  hand_within : IsWithin x g line rest y hand_there
  hand_within = name_within x g line rest y g.call (inl refl) (of_value t) there inside hand_there refl size

  aside_hand : (h : Home) → IsHand h → IsAside x g line rest y h
  aside_hand h e =
      subst (IsAside x g line rest y) e (record { lying = hand_within.lying; plain = λ k p numbers. beside_hand k p })

  beside_hooked : (h : Home) → HookedHome x g line rest y h → Beside h.at (home_bytes h) hand_there.at (home_bytes hand_there)
  beside_hooked h p = beside_hand h p.home

  pub handed_apart : (a b : Home) → HandedHome a → HandedHome b → SameOrApart a b
  handed_apart a b (inl p) (inl q) = hooked_apart x g line rest y a b p q
  handed_apart a b (inl p) (inr e) =
      let n = hooked_no_hand x g line rest y a p 0 in
      subst (SameOrApart a) e (inr (record { bases = n.0; bases_turned = n.1.0; ranges = beside_hooked a p }))
  handed_apart a b (inr e) (inl q) =
      let n = hooked_no_hand x g line rest y b q 0 in
      subst (λ k. SameOrApart k b) e (inr (record {
        bases = n.1.0;
        bases_turned = n.0;
        ranges = turned b.at (home_bytes b) hand_there.at (home_bytes hand_there) (beside_hooked b q);
      }))
  handed_apart a b (inr e) (inr f) = inl (sym e ∙ f)

  pub under_at : (h : Home) → HandedHome h → h.at + home_bytes h ≤ next_base sites
  under_at h (inl p) = hooked_under x g line rest y h p
  under_at h (inr e) = subst (λ k. k.at + home_bytes k ≤ next_base sites) e hand_within.under

  pub lies_at : (h : Home) → HandedHome h → IsOwn h.base → Lying x sites y.linked h.at (home_bytes h)
  lies_at h (inl p) own = hooked_lies x g line rest y h p own
  lies_at h (inr e) own = (subst (IsWithin x g line rest y) e hand_within).lying

  pub whole_at : (h : Home) → HandedHome h → h.at % 4 ≡ 0
  whole_at h (inl p) = hooked_whole x g line rest y h p
  whole_at h (inr e) = subst (λ (k : Home). k.at % 4 ≡ 0) e hand_within.whole

  pub may_at : (h : Home) → HandedHome h → (k : ℕ) → k + 4 ≤ home_bytes h → k % 4 ≡ 0 → may_put g.memory (h.at + k) Word ≡ true
  may_at h (inl p) k within even = hooked_may x g line rest y h p k within even
  may_at h (inr e) k within even = within_may x g line rest y h (subst (IsWithin x g line rest y) e hand_within) k within even

  pub others_at : (h : Home) → HandedHome h → (i : ℕ) → 1 ≤ i → Differ h.base (InHand i) × (Differ (InHand i) h.base × (h.base ≢ InHand i))
  others_at h (inl p) i late = hooked_no_hand x g line rest y h p i
  others_at h (inr e) i late =
      subst (λ (k : Home). Differ k.base (InHand i) × (Differ (InHand i) k.base × (k.base ≢ InHand i))) e
      (λ s. absurd (omega (arith, late, s)), (λ s. absurd (omega (arith, late, s)), hand_apart i late))

  module _ (is_table : IsTable x.table) (have : HaveForms x.table) (v : Value) where
    -- ---- what hooks have around them that are called while this value is there

    abbrev pub around_hand : HookHomes
    around_hand = record {
      table = x.table;
      is_table = is_table;
      have = have;
      StandsFixed = is_fixed g.ground;
      Homes = HandedHome;
      apart = handed_apart;
      start = next_base sites;
      under = under_at;
      first = 1;
      others = others_at;
      whole = whole_at;
      start_low = next_least x.table x.blocks sites y.linked;
      limit = stack_at + 268435456 - SPARE_ROOM;
      limit_most = omega arith;
      world = pushed g.world v;
      memory = g.memory;
      reaches = (let e = y.memory.places in omega (arith, e));
      may = may_at;
      fixed = λ m like. fixed_alike x g line rest y HandedHome lies_at m like;
      fixed_under = fixed_before x g line rest y;
      fixed_beside = λ place text is h p own. fixed_aside x g line rest y place text is h (lies_at h p own);
      law = x.law;
    }

    pub here_hand : Stored (is_fixed g.ground) g.ground.blocks g.memory hand_there.at hand_there.shape v
        → IsHere around_hand (next_base sites) (next_base sites) [] g.ground.blocks (pushed g.world v) g.memory
    here_hand stored = record {
      here = record {
        up = omega arith;
        holds = record { sized = y.memory.sized; heap = y.heap; homes = by };
        long = one g.world.hand y.idle;
        fits = omega arith;
      };
      low_whole = next_whole x.table x.blocks sites y.linked;
      top_whole = next_whole x.table x.blocks sites y.linked;
      hand_whole = tt;
      ends = y.memory.places;
      like = like_itself HandedHome (pushed g.world v);
      same = memory_itself HandedHome (next_base sites) g.memory;
      bytes = y.memory.bytes;
    }
      where
        one : (hand : List Value) → length hand ≡ 0 → length (hand ++ v ∷ []) ≡ 1
        one [] e = refl
        one (u ∷ hand) e = absurd (omega (arith, e))

        in_hand : (hand : List Value) → length hand ≡ 0 → slice_get (hand ++ v ∷ []) 0 ≡ Some v
        in_hand [] e = refl
        in_hand (u ∷ hand) e = absurd (omega (arith, e))

        new : IsAtHome (is_fixed g.ground) g.ground.blocks (pushed g.world v) g.memory hand_there
        new = record {
          value = v;
          holds = in_hand g.world.hand y.idle;
          stored = stored;
          elsewhere = outside x (starts g line rest) y g.call (of_value t) (inl refl) there inside hand_there.at (home_bytes hand_there) refl size;
        }

        by : (h : Home) → AllHomes (is_fixed g.ground) HandedHome handed_apart (next_base (sites_of (starts g line rest))) under_at 1
            others_at [] h → IsAtHome (is_fixed g.ground) g.ground.blocks (pushed g.world v) g.memory h
        by h (inl (inl p)) =
            let at = hooked_stands x g line rest y h p in
            record {
              value = at.value;
              holds = with_hand g.world (g.world.hand ++ v ∷ []) h.base at.value
                  (λ i e. absurd ((hooked_no_hand x g line rest y h p i).1.1 e)) at.holds;
              stored = at.stored;
              elsewhere = at.elsewhere;
            }
        by h (inl (inr e)) = subst (IsAtHome (is_fixed g.ground) g.ground.blocks (pushed g.world v) g.memory) e new
        by h (inr i) = absurd i

    -- ---- behind them

    module _ (later : Blocks) (ahead : AreLater g.ground.blocks later) (w : World) (m : Memory)
        (here : IsHere around_hand (next_base sites) (next_base sites) [] later w m) where
      pub at_hand : IsAtHome (is_fixed g.ground) later w m hand_there
      at_hand = here.here.holds.homes hand_there (inl (inr refl))

      pub now_there : load w (at_base (InHand 0)) ≡ at_hand.value
      now_there = whole_held w (InHand 0) at_hand.value at_hand.holds

      homes_then : HomesHold (is_fixed g.ground) (HookedHome x g line rest y) (hooked_apart x g line rest y) later (popped w) m
      homes_then = record {
        sized = here.here.holds.sized;
        heap = here.here.holds.heap;
        homes = λ h p.
            let at = here.here.holds.homes h (inl (inl p)) in
            record {
              value = at.value;
              holds = with_hand w (take (length w.hand - 1) w.hand) h.base at.value
                  (λ i e. absurd ((hooked_no_hand x g line rest y h p i).1.1 e)) at.holds;
              stored = at.stored;
              elsewhere = at.elsewhere;
            };
      }

      like_then : IsLike (HookedHome x g line rest y) g.world (popped w)
      like_then = record {
        slots = λ level number f free.
            here.like.slots level number (in_frame g.world (pushed g.world v) level number refl f) (λ h p e. standing h level number free p e);
        waiting = λ level node free. here.like.waiting level node (λ h p e. waiting h level node free p e);
        once = here.like.once;
        frames = λ level first span f.
            let k = here.like.frames level first span (record { frame = f.frame; there = f.there; begins = f.begins; slots = f.slots }) in
            record { frame = k.frame; there = k.there; begins = k.begins; slots = k.slots };
        levels = here.like.levels;
        input = here.like.input;
      }
        where
          no_standing : (level number : ℕ) → InHand 0 ≡ Standing level number → ⊥
          no_standing level number e = cc

          no_waiting : (level node : ℕ) → InHand 0 ≡ Waiting level node → ⊥
          no_waiting level node e = cc

          standing : (h : Home) (level number : ℕ) → IsNoHome (HookedHome x g line rest y) (Standing level number) → HandedHome h
              → h.base ≡ Standing level number → ⊥
          standing h level number free (inl p) e = free h p e
          standing h level number free (inr i) e = no_standing level number (ap (λ (k : Home). k.base) i ∙ e)

          waiting : (h : Home) (level node : ℕ) → IsNoHome (HookedHome x g line rest y) (Waiting level node) → HandedHome h
              → h.base ≡ Waiting level node → ⊥
          waiting h level node free (inl p) e = free h p e
          waiting h level node free (inr i) e = no_waiting level node (ap (λ (k : Home). k.base) i ∙ e)

      pub good_behind_hand : (after : List BlockLine) → StandAt x.table x.blocks (body_of g) after → (temps : Temps) → SameTemps x g line rest y temps
          → (vars words : Vars) (awaits : ℕ) → AllSame g.call.vars vars
          → IsGood x (changed_later g after temps vars m words awaits (popped w) (later_ground_of x g line rest y later) w.input)
      good_behind_hand after stands temps same vars words awaits kept =
          good_behind_hooks x g line rest y later ahead (popped w) m homes_then like_then IsHand aside_hand here.same long here.bytes
          (none_left w.hand here.here.long) after stands temps same vars words awaits kept
        where
          long : length m.places ≡ length g.memory.places
          long = let e = here.ends in let f = y.memory.places in omega (arith, e, f)
