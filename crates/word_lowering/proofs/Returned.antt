-- What is true where a caller goes on.
use Rattle.std.proofs.Common.{◌≡◌, ◌≢◌, inl, inr, ℕ, zero, suc, ◌<◌, ◌≤◌, List, [], ◌∷◌, length, map, refl, ap, ◌∙◌, arith, Ok, ◌+◌, subst, sym}
use Rattle.std.specs.Prelude.{take, slice_get}
use Rattle.nim_meaning.specs.Places.{through_slot}
use Rattle.nim_meaning.specs.State.{World, down_to, slot_at, slot_of, frame_in, temporary_in}
use Rattle.nim_meaning.specs.Values.{Standing}
use Rattle.flat_code.specs.declared.block.BlockLine.{BlockLine}
use Rattle.flat_code.specs.Scene.{Temps}
use Rattle.word_code.specs.Memory.{Memory, without_places, number_at}
use Rattle.word_code.specs.Words.{Vars}
use Rattle.word_lowering.proofs.HeapKept.{SameHeap, heap_turned, heap_then}
use Rattle.word_lowering.proofs.Frames.{IsFrame}
use Rattle.word_lowering.proofs.Keeping.{AmongCalls, call, Edit, Worlds, Kept, New, holding_kept, all_kept, later_ground}
use Rattle.word_lowering.proofs.Lines.{Basis, starts, IsGood}
use Rattle.word_lowering.proofs.Related.{Both, Waits, called_by, MemoryGood, AllFrames, sites_of, store_of, store_with}
use Rattle.word_lowering.proofs.Scenes.{is_fixed, Call, Name, site_of}
use Rattle.word_lowering.proofs.Sites.{Site, AmongSites, Linked, room, next_base}
use Rattle.word_lowering.proofs.SitesApart.{site_at, next_least}
use Rattle.word_lowering.proofs.CallPlaces.{Grown, places_go, good_go, heap_still, read_before}
use Rattle.rv32_isa.specs.declared.micro_op.Size.TheVariants.{Word}
use Rattle.word_code.specs.declared.word.TheConstants.{SPARE_ROOM}
use Rattle.word_lowering.proofs.Temporaries.{AreOnce}

module _ {A : Type 0} where
  get_take : (n : ℕ) (xs : List A) (i : ℕ) → i < n → slice_get (take n xs) i ≡ slice_get xs i
  get_take zero xs i h = absurd (omega (arith, h))
  get_take (suc n) [] i h = refl
  get_take (suc n) (x ∷ xs) zero h = refl
  get_take (suc n) (x ∷ xs) (suc i) h = get_take n xs i (omega (arith, h))

  take_length : (n : ℕ) (xs : List A) → n ≤ length xs → length (take n xs) ≡ n
  take_length zero xs h = refl
  take_length (suc n) [] h = absurd (omega (arith, h))
  take_length (suc n) (x ∷ xs) h = ap suc (take_length n xs (omega (arith, h)))

-- frames below a level stay
frame_down : (w : World) (n level first span : ℕ) → level < n → IsFrame w level first span → IsFrame (down_to n w) level first span
frame_down w n level first span low f = record {
  frame = f.frame;
  there = get_take n w.frames level low ∙ f.there;
  begins = f.begins;
  slots = f.slots;
}

slot_down : (w : World) (n level place : ℕ) → level < n → slot_at (down_to n w) level place ≡ slot_at w level place
slot_down w n level place low = ap (λ f. slot_of (frame_in f) place) (get_take n w.frames level low)

module _ (x : Basis) (h : Both) (w : Waits) (ws : List Waits) (line : BlockLine) (rest : List BlockLine) where
  -- the call that waits first
  abbrev pub called : Both
  called = record h { waiting = w ∷ ws }

  module _ (y : IsGood x (starts called line rest)) where
    -- the calls that are left
    abbrev pub sites_left : List Site
    sites_left = map site_of (w.call ∷ map called_by ws)

    abbrev pub linked_left : Linked x.table x.blocks sites_left
    linked_left = y.linked.5

    abbrev pub world_left : World
    world_left = down_to h.call.site.level h.world

    -- memory without the places of the call
    abbrev pub memory_left : Memory
    memory_left = without_places h.memory (room h.call.site.body)

    pub goes : Grown memory_left h.memory (room h.call.site.body)
    goes = places_go h.memory (room h.call.site.body)
        (let p = y.memory.places in let b = y.linked.4 in let l = next_least x.table x.blocks sites_left linked_left in omega (arith, p, b, l))

    pub good_left : MemoryGood x.table x.blocks sites_left x.first memory_left
    good_left = good_go memory_left h.memory (room h.call.site.body) goes x sites_left (sites_of called) linked_left
        (ap (λ n. n + room h.call.site.body) y.linked.4) y.memory

    pub heap_left : SameHeap h.memory memory_left
    heap_left = heap_turned memory_left h.memory (heap_still memory_left h.memory (room h.call.site.body) goes x sites_left (sites_of called) linked_left
        (ap (λ n. n + room h.call.site.body) y.linked.4) good_left.sized)

    -- what stands in the places that are left, and in those for arguments behind them
    pub left_read : (a n : ℕ) → a + 4 ≤ next_base sites_left + SPARE_ROOM → number_at h.memory a Word ≡ Ok n → number_at memory_left a Word ≡ Ok n
    left_read a n within read =
        read_before memory_left h.memory (room h.call.site.body) goes a n (let p = good_left.places in omega (arith, within, p)) read

    below : (s : Site) → AmongSites s sites_left → s.level < h.call.site.level
    below s i = let z = site_at x.table x.blocks sites_left s linked_left i in omega (arith, z.level, y.linked.2)

    frames_down : (some : List Site) → ((s : Site) → AmongSites s some → s.level < h.call.site.level) → AllFrames x.table x.blocks h.world some
        → AllFrames x.table x.blocks world_left some
    frames_down [] low f = tt
    frames_down (s ∷ some) low f = (
      frame_down h.world h.call.site.level s.level s.body.proc.first s.body.proc.span (low s (inl refl)) f.0,
      frames_down some (λ t i. low t (inr i)) f.1,
    )

    pub worlds_down : (lo : Site) (e : Name) → Worlds x.table x.blocks x.small sites_left linked_left lo e h.world world_left
    worlds_down lo e = record {
      slots = λ s n i there away. slot_down h.world h.call.site.level s.level n (below s i);
      more = λ s n i there k. (k.0, slot_down h.world h.call.site.level s.level n (below s i) ∙ k.1);
      roots = λ s n i there k steady. ap (through_slot (Standing s.level n)) (slot_down h.world h.call.site.level s.level n (below s i));
      waits = λ s node i away. ap (λ f. temporary_in (frame_in f).temporaries node) (get_take h.call.site.level h.world.frames s.level (below s i));
      once = λ s i k. subst (λ f. AreOnce (frame_in f).temporaries) (sym (get_take h.call.site.level h.world.frames s.level (below s i))) k;
      hand = refl;
    }

    -- the caller goes on
    abbrev pub back : Temps → Vars → Memory → (words : Vars) → (awaits : ℕ) → Both
    back temps vars m words awaits = record {
      units = h.units;
      memory = m;
      input = h.input;
      world = world_left;
      call = call w.call.site temps vars;
      rest = w.rest;
      words = words;
      awaits = awaits;
      waiting = ws;
      ground = h.ground;
    }

    pub good_back : (lo : Site) (e : Name) (temps : Temps) (vars : Vars) (m : Memory) (words : Vars) (awaits : ℕ)
        → MemoryGood x.table x.blocks sites_left x.first m → SameHeap h.memory m → Edit x.table x.blocks x.small sites_left linked_left lo e h.memory m
        → Kept x.table x.blocks x.small sites_left linked_left lo e w.call.site w.call.temps temps w.call.vars vars
        → (w.call.site.level ≡ lo.level → New x.table x.blocks x.small sites_left linked_left lo e (store_with h m) world_left sites_left
        (call w.call.site temps vars))
        → ((c : Call) → AmongCalls c (map called_by ws) → c.site.level ≢ lo.level)
        → IsGood x (back temps vars m words awaits)
    good_back lo e temps vars m words awaits memory still edit kept new others = record {
      linked = linked_left;
      memory = memory;
      heap = heap_then (is_fixed h.ground) h.ground.blocks h.world.heap h.memory m y.memory.sized memory.sized still y.heap;
      input = y.input;
      hold = (
        holding_kept x.table x.blocks x.small sites_left linked_left lo e (store_of h) (store_with h m) edit (later_ground h.ground) h.world world_left
            (worlds_down lo e) sites_left w.call.site
            w.call.temps temps w.call.vars vars (inl refl) (λ r j. j) kept new y.hold.1.0,
        all_kept x.table x.blocks x.small sites_left linked_left lo e (store_of h) (store_with h m) edit (later_ground h.ground) h.world world_left
            (worlds_down lo e) (map called_by ws)
            (λ s i. inr i) (λ c from i k. absurd (others c i k)) y.hold.1.1,
      );
      frames = frames_down sites_left below y.frames.1;
      levels = take_length h.call.site.level h.world.frames (let l = y.levels in let k = y.linked.2 in omega (arith, l, k)) ∙ y.linked.2;
      stands = y.waits.0;
      waits = y.waits.1;
      answers = y.answers.1;
      idle = y.idle;
      fixed = y.fixed;
    }

    -- a call below the caller
    pub waits_lower : (c : Call) → AmongCalls c (map called_by ws) → c.site.level < w.call.site.level
    waits_lower c i =
        let z = site_at x.table x.blocks (map site_of (map called_by ws)) c.site linked_left.5 (sites_among (map called_by ws) c i) in
        omega (arith, z.level, linked_left.2)
      where
        sites_among : (cs : List Call) (c : Call) → AmongCalls c cs → AmongSites c.site (map site_of cs)
        sites_among [] c i = absurd i
        sites_among (d ∷ cs) c (inl e) = inl (ap site_of e)
        sites_among (d ∷ cs) c (inr i) = inr (sites_among cs c i)
