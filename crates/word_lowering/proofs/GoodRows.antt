-- What is good before a line that changes blocks is good behind it: memory is other than it was in the heap, in its data, and in a range of one place.
use Rattle.std.proofs.Common.{◌≡◌, ◌⊎◌, inl, inr, ℕ, suc, ◌+◌, ◌%◌, List, [], ◌∷◌, length, map, Some, true, false, refl, sym, ap, subst, ◌∙◌, arith}
use Rattle.word_lowering.proofs.ResizedWorlds.{stack_of, frames_of, hand_of}
use Rattle.std.specs.Prelude.{slice_get, ◌==◌, ◌&&◌}
use Rattle.rv32_isa.specs.declared.micro_op.Size.TheVariants.{Word}
use Rattle.rv32_isa.specs.Image.{heap_at, stack_at}
use Rattle.nim_meaning.specs.Values.{Value, Standing, Holds}
use Rattle.nim_meaning.specs.Places.{through_slot}
use Rattle.nim_meaning.specs.State.{World, slot_of, frame_in, slot_at, held}
use Rattle.flat_code.specs.declared.block.BlockLine.{BlockLine}
use Rattle.flat_code.specs.Scene.{with_value, Temps}
use Rattle.flat_code.specs.Shapes.{has_shape, number}
use Rattle.word_code.specs.Memory.{KeepsShape, Memory, as_state, bytes_at, number_at, own_data_at}
use Rattle.word_code.specs.RoutineTable.{Beside}
use Rattle.word_code.specs.Words.{Vars}
use Rattle.word_code.proofs.ForCallers.{Sized, Apart}
use Rattle.heap_memory.specs.declared.numbers.TheConstants.{HEAP_DATA}
use Rattle.word_lowering.specs.Layouts.{holds_address}
use Rattle.word_lowering.proofs.Blocks.{Blocks, AreLater, Stored, HasHeap}
use Rattle.word_lowering.proofs.Gets.{SameTemps, high_variable, kept_value, kept_temps}
use Rattle.word_lowering.proofs.Keeping.{AmongCalls, call, Edit, somewhere, aside, Worlds, worlds_same, New, to_home, own_text, value_no_location}
use Rattle.word_lowering.proofs.Keeping.{value_no_place, location_no_place, same_numbers, value_no_waiting, place_no_waiting}
use Rattle.word_lowering.proofs.Lines.{Basis, IsGood, starts, all_sites, changed_later, good_later, stands_next, waits_below}
use Rattle.word_lowering.proofs.GoodHomes.{among_sites}
use Rattle.word_lowering.proofs.GoodLeads.{own_place}
use Rattle.word_lowering.proofs.PlaceWorlds.{put_world, slot_new, put_worlds, put_frames, put_levels}
use Rattle.word_lowering.proofs.OrdinalRuns.{AllSame}
use Rattle.word_lowering.proofs.Related.{Both, called_by, StandAt, MemoryGood, IsText, IsClosed, AllFrames, body_of}
use Rattle.word_lowering.proofs.RoutineMemory.{same_word}
use Rattle.word_lowering.proofs.OpenCells.{cell_by}
use Rattle.word_lowering.proofs.Scenes.{Ground, Store, is_fixed, address_of, Name, of_value, of_place, Call, site_of, house, looked, IsThere, IsItem}
use Rattle.word_lowering.proofs.Scenes.{IsFilled}
use Rattle.word_lowering.proofs.ShapeFacts.{never, of_numbers}
use Rattle.word_lowering.proofs.Sites.{Site, AmongSites, InMemory}
use Rattle.word_lowering.proofs.SitesApart.{IsPlace, site_at, one_level}
use Rattle.word_lowering.proofs.Sources.{Lying, text_beside}
use Rattle.word_lowering.proofs.ValueFacts.{put_here, value_plain}
use Rattle.word_lowering.proofs.Temporaries.{WaitAlike, waits_alike, once_alike}

module _ (x : Basis) (g : Both) (line : BlockLine) (rest : List BlockLine) (y : IsGood x (starts g line rest)) where
  abbrev sites : List Site
  sites = all_sites x g line rest y

  -- ---- memory

  pub record IsLeftBeside (other : Memory) (to n : ℕ) : Type 0 where
    pub sized : Sized other
    pub sizes : KeepsShape (as_state g.memory) (as_state other)
    pub beside : (b k : ℕ) → Beside b k own_data_at HEAP_DATA → Beside b k heap_at (length g.memory.heap) → Beside b k to n
        → bytes_at other b k ≡ bytes_at g.memory b k

  -- the range lies within a place, or there is none
  abbrev pub IsPut : (to n : ℕ) → Type 0
  IsPut to n = Lying x sites y.linked to n ⊎ ((to ≡ 0) × (n ≡ 0))

  module _ (other : Memory) (to n : ℕ) (l : IsLeftBeside other to n) where
    text_there : (b k : ℕ) → IsClosed x.table x.blocks b k → Beside b k to n → bytes_at other b k ≡ bytes_at g.memory b k
    text_there b k (inl h) away = l.beside b k (inr (omega (arith, h.0))) (inl (omega (arith, h.1))) away
    text_there b k (inr h) away = l.beside b k (inr (omega (arith, h.0))) (inl (omega (arith, h.1))) away

    away_text : IsPut to n → (b k : ℕ) → IsText x.table x.blocks b k → Beside b k to n
    away_text (inl lying) b k text = text_beside x sites y.linked to n b k lying text
    away_text (inr none) b k text = inr (omega (arith, none.0, none.1))

    pub left_good : IsPut to n → MemoryGood x.table x.blocks sites x.first other
    left_good put = record {
      sized = l.sized;
      statics = l.sizes.statics ∙ y.memory.statics;
      heap = l.sizes.heap ∙ y.memory.heap;
      bytes = l.sizes.bytes y.memory.bytes;
      places = ap (λ k. stack_at + k) l.sizes.stack ∙ y.memory.places;
      cells = λ a whole is_open. cell_by other l.sized a
          (ap (λ b. (a % 4 == 0) && b) (x.law.stores (as_state g.memory) (as_state other) a 4 l.sizes) ∙ (y.memory.cells a whole is_open).may);
      texts = λ b k text. text_there b k text.0 (away_text put b k text) ∙ y.memory.texts b k text;
    }

    word_there : (a : ℕ) → IsPlace x.table x.blocks a → Beside a 4 to n → number_at other a Word ≡ number_at g.memory a Word
    word_there a (inl h) away =
        let d = x.small in same_word g.memory other a (l.beside a 4 (inr (omega (arith, h.0))) (inl (omega (arith, h.1, d))) away)
    word_there a (inr h) away =
        let most = y.memory.sized.heap_most in
        same_word g.memory other a (l.beside a 4 (inr (omega (arith, h))) (inr (omega (arith, h, most))) away)

    -- in a place, by its name
    pub left_edit : (lying : Lying x sites y.linked to n) → Edit x.table x.blocks x.small sites y.linked lying.site lying.name g.memory other
    left_edit lying =
        somewhere to n (λ a w place before apart read. word_there a place (as_beside a apart) ∙ read) lying.among lying.there lying.home lying.low lying.high
      where
        as_beside : (a : ℕ) → Apart a to n → Beside a 4 to n
        as_beside a (inl h) = inl h
        as_beside a (inr h) = inr h

    -- nowhere among places
    pub left_aside : (lo : Site) (e : Name) → to ≡ 0 → n ≡ 0 → Edit x.table x.blocks x.small sites y.linked lo e g.memory other
    left_aside lo e start none = aside (λ a place. word_there a place (inr (omega (arith, start, none))))

  -- ---- worlds with the same frames, and the same under way

  module _ (before w : World) (same : stack_of w ≡ stack_of before) where
    slots_same : (level place : ℕ) → slot_at w level place ≡ slot_at before level place
    slots_same level place = ap (λ frames. slot_of (frame_in (slice_get frames level)) place) (frames_of w before same)

    waits_same : WaitAlike before w
    waits_same level = ap (λ frames. (frame_in (slice_get frames level)).temporaries) (frames_of w before same)

    pub worlds_on : (lo : Site) (e : Name) → Worlds x.table x.blocks x.small sites y.linked lo e g.world before
        → Worlds x.table x.blocks x.small sites y.linked lo e g.world w
    worlds_on lo e worlds = record {
      slots = λ s n i there away. slots_same s.level n ∙ worlds.slots s n i there away;
      more = λ s n i there h. let k = worlds.more s n i there h in (k.0, slots_same s.level n ∙ k.1);
      roots = λ s n i there h k. ap (through_slot (Standing s.level n)) (slots_same s.level n) ∙ worlds.roots s n i there h k;
      waits = λ s node i away. waits_alike before w waits_same s.level node ∙ worlds.waits s node i away;
      once = λ s i h. once_alike before w waits_same s.level (worlds.once s i h);
      hand = hand_of w before same ∙ worlds.hand;
    }

    pub frames_then : (some : List Site) → AllFrames x.table x.blocks before some → AllFrames x.table x.blocks w some
    frames_then [] f = tt
    frames_then (s ∷ some) f = (
      record {
        frame = f.0.frame;
        there = ap (λ frames. slice_get frames s.level) (frames_of w before same) ∙ f.0.there;
        begins = f.0.begins;
        slots = f.0.slots;
      },
      frames_then some f.1,
    )

  -- ---- a temporary gets something that has blocks

  abbrev pub later_ground_of : Blocks → Ground
  later_ground_of later = record { blocks = later; fixed = g.ground.fixed }

  module _ (t : ℕ) (v : Value) (there : IsThere g.call.site (of_value t)) (inside : InMemory (house g.call.site (of_value t)).home)
      (shaped : has_shape v (looked x.table g.call.site (of_value t)) ≡ true) (later : Blocks) (ahead : AreLater g.ground.blocks later)
      (other : Memory) (n : ℕ) (l : IsLeftBeside other (address_of g.call.site.base (house g.call.site (of_value t)).home) n)
      (lying : Lying x sites y.linked (address_of g.call.site.base (house g.call.site (of_value t)).home) n)
      (is_site : lying.site ≡ g.call.site) (is_name : lying.name ≡ of_value t)
      (w : World) (same : stack_of w ≡ stack_of g.world) (has : HasHeap (is_fixed (later_ground_of later)) later w.heap other)
      (stored : Stored (is_fixed (later_ground_of later)) later other (address_of g.call.site.base (house g.call.site (of_value t)).home)
      (looked x.table g.call.site (of_value t)) v) where
    abbrev at : ℕ
    at = address_of g.call.site.base (house g.call.site (of_value t)).home

    edit : Edit x.table x.blocks x.small sites y.linked g.call.site (of_value t) g.memory other
    edit =
        subst (λ s. Edit x.table x.blocks x.small sites y.linked s (of_value t) g.memory other) is_site
        (subst (λ e. Edit x.table x.blocks x.small sites y.linked lying.site e g.memory other) is_name (left_edit other at n l lying))

    item_then : (vars : Vars) → IsItem x.table (record { memory = other; ground = later_ground_of later })
        (call g.call.site (with_value t g.call.temps v) vars) (of_value t) v
    item_then vars =
        let plain = value_plain (house g.call.site (of_value t)) there.kind in
        record {
          there = there;
          plain = plain;
          shaped = λ asked. shaped;
          at = to_home (record { memory = other; ground = later_ground_of later }) g.call.site.base vars (looked x.table g.call.site (of_value t))
              (house g.call.site (of_value t)) v plain inside stored;
        }

    new_then : (vars : Vars) → New x.table x.blocks x.small sites y.linked g.call.site (of_value t)
        (record { memory = other; ground = later_ground_of later }) w sites (call g.call.site (with_value t g.call.temps v) vars)
    new_then vars = record {
      item = λ u i h. subst (λ z. IsItem x.table (record { memory = other; ground = later_ground_of later })
          (call g.call.site (with_value t g.call.temps v) vars) (of_value t) z) (put_here x g line rest y t v u h) (item_then vars);
      text = λ u k j z e a h. own_text g.call.site (of_value u) k j (subst (IsThere g.call.site) (sym e) there) a;
      led = λ u where_it e k h. absurd (value_no_location t u (sym e));
      filled = λ k e h. absurd (value_no_place t k (sym e));
      waits = λ k e. absurd (value_no_waiting t k (sym e));
    }

    pub good_row_value : (vars words : Vars) (awaits : ℕ) → AllSame g.call.vars vars
        → IsGood x (changed_later g rest (with_value t g.call.temps v) vars other words awaits w (later_ground_of later) w.input)
    good_row_value vars words awaits kept =
        good_later x g line rest y rest g.call.site (of_value t) (with_value t g.call.temps v) vars other words awaits w (later_ground_of later) w.input
        (left_good other at n l (inl lying)) has refl (record { blocks = ahead; fixed = refl }) edit
        (worlds_on g.world w same g.call.site (of_value t) (worlds_same x.table x.blocks x.small sites y.linked g.call.site (of_value t) g.world))
        (kept_value x g line rest y t v vars (λ h u i ne home. kept.others u (high_variable x g line rest y h u i home)) kept.left)
        (λ e. new_then vars) (λ c from i e. absurd (waits_below x g line rest y c i e))
        (frames_then g.world w same sites y.frames) (ap length (frames_of w g.world same) ∙ y.levels)
        (stands_next x.table x.blocks (body_of g) line rest y.stands)

  -- ---- blocks change alone

  pub good_aside : (after : List BlockLine) → StandAt x.table x.blocks (body_of g) after → (later : Blocks) → AreLater g.ground.blocks later
      → (other : Memory) → IsLeftBeside other 0 0 → (w : World) → stack_of w ≡ stack_of g.world → HasHeap (is_fixed (later_ground_of later)) later w.heap other
      → (temps : Temps) → SameTemps x g line rest y temps → (vars words : Vars) (awaits : ℕ) → AllSame g.call.vars vars
      → IsGood x (changed_later g after temps vars other words awaits w (later_ground_of later) w.input)
  good_aside after stand later ahead other l w same has temps same_temps vars words awaits kept =
      good_later x g line rest y after above (of_value 0) temps vars other words awaits w (later_ground_of later) w.input
      (left_good other 0 0 l (inr (refl, refl))) has refl (record { blocks = ahead; fixed = refl }) (left_aside other 0 0 l above (of_value 0) refl refl)
      (worlds_on g.world w same above (of_value 0) (worlds_same x.table x.blocks x.small sites y.linked above (of_value 0) g.world))
      (kept_temps x g line rest y above (of_value 0) temps vars same_temps (λ h u i away home. kept.others u (high_variable x g line rest y h u i home))
      kept.left)
      (λ e. absurd (omega (arith, e))) (λ c from i e. absurd (too_high c i e)) (frames_then g.world w same sites y.frames)
      (ap length (frames_of w g.world same) ∙ y.levels) stand
    where
      -- the place of no call
      above : Site
      above = record g.call.site { level = suc g.call.site.level }

      too_high : (c : Call) → AmongCalls c (map called_by g.waiting) → c.site.level ≡ suc g.call.site.level → ⊥
      too_high c i e =
          let z = site_at x.table x.blocks (map site_of (map called_by g.waiting)) c.site y.linked.5 (among_sites (map called_by g.waiting) c i) in
          let l = z.level in let m = y.linked.2 in omega (arith, l, m, e)

  -- ---- a place gets another value

  module _ (lo : Site) (among : AmongSites lo sites) (number : ℕ) (there : IsThere lo (of_place number)) (old : Value)
      (slot : slot_at g.world lo.level number ≡ Some (Holds old)) (new : Value) (plain : holds_address (house lo (of_place number)) ≡ false)
      (inside : InMemory (house lo (of_place number)).home)
      (shaped : of_numbers (looked x.table lo (of_place number)) ≡ true → has_shape new (looked x.table lo (of_place number)) ≡ true)
      (later : Blocks) (ahead : AreLater g.ground.blocks later) (other : Memory) (to n : ℕ) (l : IsLeftBeside other to n)
      (lying : Lying x sites y.linked to n) (is_site : lying.site ≡ lo) (is_name : lying.name ≡ of_place number)
      (w : World) (same : stack_of w ≡ stack_of (put_world x g line rest y lo among number there old slot new))
      (has : HasHeap (is_fixed (later_ground_of later)) later w.heap other)
      (stored : Stored (is_fixed (later_ground_of later)) later other (address_of lo.base (house lo (of_place number)).home)
      (looked x.table lo (of_place number)) new) where
    abbrev store_then : Store
    store_then = record { memory = other; ground = later_ground_of later }

    abbrev world_put : World
    world_put = put_world x g line rest y lo among number there old slot new

    slot_then : slot_at w lo.level number ≡ Some (Holds new)
    slot_then = slots_same world_put w same lo.level number ∙ slot_new x g line rest y lo among number there old slot new

    put_edit : Edit x.table x.blocks x.small sites y.linked lo (of_place number) g.memory other
    put_edit =
        subst (λ (s : Site). Edit x.table x.blocks x.small sites y.linked s (of_place number) g.memory other) is_site
        (subst (λ e. Edit x.table x.blocks x.small sites y.linked lying.site e g.memory other) is_name (left_edit other to n l lying))

    place_then : (temps : Temps) (vars : Vars) → IsItem x.table store_then (call lo temps vars) (of_place number) new
    place_then temps vars = record {
      there = there;
      plain = plain;
      shaped = shaped;
      at = to_home store_then lo.base vars (looked x.table lo (of_place number)) (house lo (of_place number)) new plain inside stored;
    }

    new_place : (c : Call) (from : List Site) → AmongSites c.site sites → c.site.level ≡ lo.level
        → New x.table x.blocks x.small sites y.linked lo (of_place number) store_then w from c
    new_place c from i e =
        subst (λ (z : Site). New x.table x.blocks x.small sites y.linked lo (of_place number) store_then w from (call z c.temps c.vars))
        (sym (one_level x.table x.blocks sites c.site lo y.linked i among e)) (record {
          item = λ u i h. subst (λ z. IsItem x.table store_then (call lo c.temps c.vars) (of_place number) z) (ap held (sym slot_then ∙ h))
              (place_then c.temps c.vars);
          text = λ u k j z e a h. absurd (value_no_place u number e);
          led = λ u where_it k i h. absurd (location_no_place u number k);
          filled = λ m k h. subst (λ j. IsFilled x.table x.blocks from (later_ground_of later) w (call lo c.temps c.vars) j)
              (sym (same_numbers (of_place m) (of_place number) k)) (record {
                own = λ o. (new, slot_then);
                other = λ o. never (sym o ∙ own_place x sites y.linked lo number among there inside);
              });
          waits = λ m e. absurd (place_no_waiting number m (sym e));
        })

    pub good_place_put : (after : List BlockLine) → StandAt x.table x.blocks (body_of g) after → (temps : Temps) → SameTemps x g line rest y temps
        → (vars words : Vars) (awaits : ℕ) → AllSame g.call.vars vars
        → IsGood x (changed_later g after temps vars other words awaits w (later_ground_of later) w.input)
    good_place_put after stand temps same_temps vars words awaits kept =
        good_later x g line rest y after lo (of_place number) temps vars other words awaits w (later_ground_of later) w.input
        (left_good other to n l (inl lying)) has refl (record { blocks = ahead; fixed = refl }) put_edit
        (worlds_on world_put w same lo (of_place number) (put_worlds x g line rest y lo among number there old slot new))
        (kept_temps x g line rest y lo (of_place number) temps vars same_temps (λ h u i away home. kept.others u (high_variable x g line rest y h u i home))
        kept.left)
        (λ e. new_place (call g.call.site temps vars) sites (inl refl) e)
        (λ c from i e. new_place c from (inr (among_sites (map called_by g.waiting) c i)) e)
        (frames_then world_put w same sites (put_frames x g line rest y lo among number there old slot new))
        (ap length (frames_of w world_put same) ∙ put_levels x g line rest y lo among number there old slot new) stand
