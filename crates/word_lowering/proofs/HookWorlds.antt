-- How world and memory are while hooks run, beside how they were before: what stands at homes, in blocks and under way alone may be other.
use Rattle.std.proofs.Common.{◌≡◌, ◌≢◌, ◌⊎◌, inl, inr, ℕ, ◌+◌, ◌-◌, ◌%◌, ◌≤◌, List, [], ◌∷◌, length, Some, Bool, true, false}
use Rattle.std.proofs.Common.{refl, sym, ap, ap₂, subst, ◌∙◌, arith, le-leb}
use Rattle.std.specs.Prelude.{slice_get, slice_set, nat_eq, nat_le, ◌==◌, ◌&&◌, ◌||◌, if◌then◌else◌}
use Rattle.std.proofs.lemmas.Bool.{eq-eqb, true≢false}
use Rattle.nim_meaning.specs.Values.{Value, Base, Standing, Waiting, InHand, InBlock, InException, Made, Slot, Holds}
use Rattle.nim_meaning.specs.State.{Frame, Temporary, World, frame_in, frame_at, slot_of, slot_at, with_slot_of, joined, temporary_in, temporary_at}
use Rattle.nim_meaning.specs.State.{stored, with_temporary_in}
use Rattle.rv32_isa.specs.declared.micro_op.Size.TheVariants.{Word}
use Rattle.rv32_isa.specs.Image.{statics_at, heap_at, stack_at}
use Rattle.rv32_isa.specs.State.{lies_in}
use Rattle.word_code.specs.Memory.{Memory, bytes_at, may_put, own_data_at}
use Rattle.word_code.specs.RoutineTable.{Beside, IsRewritten}
use Rattle.heap_memory.specs.declared.numbers.TheConstants.{HEAP_DATA}
use Rattle.word_lowering.proofs.BaseValues.{InFrame, HasFrame, HoldsAt, IsOwn, frame_there, frame_away, frames_agree, temporary_away}
use Rattle.word_lowering.proofs.BlockHomes.{Home, home_bytes}
use Rattle.word_lowering.proofs.CallPlaces.{Grown}
use Rattle.word_lowering.proofs.Frames.{IsFrame, frame_kept, slot_elsewhere, get_set, get_other, get_inside, length_set}
use Rattle.word_lowering.proofs.Keeping.{number_cases}
use Rattle.word_lowering.proofs.Temporaries.{AreOnce}

-- ---- frames where a value waits

-- frames have their places still
frame_waits : (w : World) (level : ℕ) (new : Frame) → new.first ≡ (frame_at w level).first → length new.slots ≡ length (frame_at w level).slots
    → (other first span : ℕ) → IsFrame w other first span → IsFrame (record w { frames = slice_set w.frames level new }) other first span
frame_waits w level new begins slots other first span f = by (number_cases other level)
  where
    by : (other ≡ level) ⊎ (other ≢ level) → IsFrame (record w { frames = slice_set w.frames level new }) other first span
    by (inr ne) = record {
      frame = f.frame;
      there = get_other w.frames level new other ne ∙ f.there;
      begins = f.begins;
      slots = f.slots;
    }
    by (inl e) =
        let here : slice_get w.frames level ≡ Some f.frame = subst (λ l. slice_get w.frames l ≡ Some f.frame) e f.there in
        let is : frame_at w level ≡ f.frame = ap frame_in here in
        record {
          frame = new;
          there = subst (λ l. slice_get (slice_set w.frames level new) l ≡ Some new) (sym e)
              (get_set w.frames level new (get_inside w.frames level f.frame here));
          begins = begins ∙ ap (λ (y : Frame). y.first) is ∙ f.begins;
          slots = slots ∙ ap (λ (y : Frame). length y.slots) is ∙ f.slots;
        }

-- where one has another value each has one still
with_once : (ts : List Temporary) (node : ℕ) (slot : Slot) → AreOnce ts → AreOnce (with_temporary_in ts node slot)
with_once [] node slot once = tt
with_once (t ∷ ts) node slot once = by (with_once ts node slot once.1) (nat_eq t.node node) refl
  where
    by : AreOnce (with_temporary_in ts node slot) → (b : Bool) → nat_eq t.node node ≡ b
        → AreOnce (if b then record t { slot = slot } ∷ ts else t ∷ with_temporary_in ts node slot)
    by rest true h = once
    by rest false h = (temporary_away ts node t.node slot (λ s. true≢false (sym (eq-eqb t.node node s) ∙ h)) ∙ once.0, rest)

module _ (Homes : Home → Type 0) where
  -- ---- worlds

  abbrev pub IsNoHome : Base → Type 0
  IsNoHome b = (h : Home) → Homes h → h.base ≡ b → ⊥

  -- what stands at no home is as it was
  pub record IsLike (before w : World) : Type 0 where
    pub slots : (level number : ℕ) → InFrame before level number → IsNoHome (Standing level number) → slot_at w level number ≡ slot_at before level number
    pub waiting : (level node : ℕ) → IsNoHome (Waiting level node) → temporary_at w level node ≡ temporary_at before level node
    pub once : (level : ℕ) → AreOnce (frame_at before level).temporaries → AreOnce (frame_at w level).temporaries
    pub frames : (level first span : ℕ) → IsFrame before level first span → IsFrame w level first span
    pub levels : length w.frames ≡ length before.frames
    pub input : w.input ≡ before.input

  pub like_itself : (w : World) → IsLike w w
  like_itself w = record {
    slots = λ level number f free. refl;
    waiting = λ level node free. refl;
    once = λ level h. h;
    frames = λ level first span f. f;
    levels = refl;
    input = refl;
  }

  -- where frames and input stay
  pub like_beside : (before w other : World) → other.frames ≡ w.frames → other.input ≡ w.input → IsLike before w → IsLike before other
  like_beside before w other same input x = record {
    slots = λ level number f free. ap (λ fs. slot_of (frame_in (slice_get fs level)) number) same ∙ x.slots level number f free;
    waiting = λ level node free. ap (λ fs. temporary_in (frame_in (slice_get fs level)).temporaries node) same ∙ x.waiting level node free;
    once = λ level h. subst (λ fs. AreOnce (frame_in (slice_get fs level)).temporaries) (sym same) (x.once level h);
    frames = λ level first span f.
        let g = x.frames level first span f in
        record { frame = g.frame; there = ap (λ fs. slice_get fs level) same ∙ g.there; begins = g.begins; slots = g.slots };
    levels = ap length same ∙ x.levels;
    input = input ∙ x.input;
  }

  -- a value may be put there: at a home, or beside frames
  abbrev pub MayChange : World → Base → Type 0
  MayChange w (Standing level number) = InFrame w level number × ((h : Home) × Homes h × (h.base ≡ Standing level number))
  MayChange w (Waiting level node) = HasFrame w level × ((h : Home) × Homes h × (h.base ≡ Waiting level node))
  MayChange w b = Unit {0}

  pub home_changes : (w : World) (h : Home) → Homes h → (v : Value) → HoldsAt w h.base v → MayChange w h.base
  home_changes w h i v holds = by h.base refl holds
    where
      by : (b : Base) → h.base ≡ b → HoldsAt w b v → MayChange w b
      by (Standing level number) e holds = (holds.0, (h, i, e))
      by (Waiting level node) e holds = (holds.0, (h, i, e))
      by (InHand k) e holds = tt
      by (InBlock k) e holds = tt
      by (InException k) e holds = tt
      by (Made u) e holds = tt

  module _ (before w : World) (v : Value) (x : IsLike before w) where
    module _ (l n : ℕ) (may : MayChange w (Standing l n)) where
      -- the place's frame begins where that of another place of its level does
      begins_as : (level number : ℕ) → InFrame before level number → level ≡ l → may.0.first ≤ number
      begins_as level number f e =
          let g = x.frames level f.first f.span f.frame in
          let one : f.first ≡ may.0.first = sym g.begins ∙ ap (λ o. (frame_in o).first) (sym g.there) ∙ ap (λ z. (frame_at w z).first) e
          ∙ ap (λ o. (frame_in o).first) may.0.frame.there ∙ may.0.frame.begins in
          let low = f.low in omega (arith, one, low)

      another : (level number : ℕ) → InFrame before level number → IsNoHome (Standing level number) → (level ≡ l) ⊎ (level ≢ l) → (number ≡ n) ⊎ (number ≢ n)
          → (level ≢ l) ⊎ ((may.0.first ≤ number) × (number ≢ n))
      another level number f free (inr ne) c = inl ne
      another level number f free (inl e) (inr ne) = inr (begins_as level number f e, ne)
      another level number f free (inl e) (inl i) =
          absurd (free may.1.0 may.1.1 (may.1.2 ∙ ap₂ (λ a b. Standing a b) (sym e) (sym i)))

      like_place : IsLike before (stored w (Standing l n) v)
      like_place =
          let frame : Frame = with_slot_of (frame_at w l) n (Some (Holds v)) in
          let there : HasFrame w l = (may.0.frame.frame, may.0.frame.there) in
          record {
            slots = λ level number f free.
                slot_elsewhere w l n (Some (Holds v)) level number may.0.first may.0.span may.0.frame may.0.low
                (another level number f free (number_cases level l) (number_cases number n))
                ∙ x.slots level number f free;
            waiting = λ level node free.
                ap (λ ts. temporary_in ts node) (frames_agree w l frame (λ (y : Frame). y.temporaries) there refl level) ∙ x.waiting level node free;
            once = λ level h. subst AreOnce (sym (frames_agree w l frame (λ (y : Frame). y.temporaries) there refl level)) (x.once level h);
            frames = λ level first span f. frame_kept w l n (Some (Holds v)) level first span (x.frames level first span f);
            levels = length_set w.frames l frame ∙ x.levels;
            input = x.input;
          }

    module _ (l n : ℕ) (may : MayChange w (Waiting l n)) where
      abbrev frame_then : Frame
      frame_then = record (frame_at w l) { temporaries = with_temporary_in (frame_at w l).temporaries n (Holds v) }

      waits_still : (level node : ℕ) → IsNoHome (Waiting level node) → (level ≡ l) ⊎ (level ≢ l) → (node ≡ n) ⊎ (node ≢ n)
          → temporary_at (stored w (Waiting l n) v) level node ≡ temporary_at w level node
      waits_still level node free (inr ne) c = ap (λ (y : Frame). temporary_in y.temporaries node) (frame_away w l frame_then level ne)
      waits_still level node free (inl e) (inl i) =
          absurd (free may.1.0 may.1.1 (may.1.2 ∙ ap₂ (λ a b. Waiting a b) (sym e) (sym i)))
      waits_still level node free (inl e) (inr ne) =
          subst (λ z. temporary_at (stored w (Waiting l n) v) z node ≡ temporary_at w z node) (sym e)
          (ap (λ (y : Frame). temporary_in y.temporaries node) (frame_there w l frame_then may.0)
          ∙ temporary_away (frame_at w l).temporaries n node (Holds v) ne)

      once_still : (level : ℕ) → (level ≡ l) ⊎ (level ≢ l) → AreOnce (frame_at w level).temporaries
          → AreOnce (frame_at (stored w (Waiting l n) v) level).temporaries
      once_still level (inr ne) h = subst (λ (y : Frame). AreOnce y.temporaries) (sym (frame_away w l frame_then level ne)) h
      once_still level (inl e) h =
          subst (λ z. AreOnce (frame_at (stored w (Waiting l n) v) z).temporaries) (sym e)
          (subst (λ (y : Frame). AreOnce y.temporaries) (sym (frame_there w l frame_then may.0))
          (with_once (frame_at w l).temporaries n (Holds v) (subst (λ z. AreOnce (frame_at w z).temporaries) e h)))

      like_waiting : IsLike before (stored w (Waiting l n) v)
      like_waiting = record {
        slots = λ level number f free.
            ap₂ (λ slots first. joined (slice_get slots (number - first))) (frames_agree w l frame_then (λ (y : Frame). y.slots) may.0 refl level)
            (frames_agree w l frame_then (λ (y : Frame). y.first) may.0 refl level)
            ∙ x.slots level number f free;
        waiting = λ level node free. waits_still level node free (number_cases level l) (number_cases node n) ∙ x.waiting level node free;
        once = λ level h. once_still level (number_cases level l) (x.once level h);
        frames = λ level first span f. frame_waits w l frame_then refl refl level first span (x.frames level first span f);
        levels = length_set w.frames l frame_then ∙ x.levels;
        input = x.input;
      }

    pub like_stored : (b : Base) → MayChange w b → IsLike before (stored w b v)
    like_stored (Standing l n) may = like_place l n may
    like_stored (Waiting l n) may = like_waiting l n may
    like_stored (InHand i) may = like_beside before w (stored w (InHand i) v) refl refl x
    like_stored (InBlock k) may = like_beside before w (stored w (InBlock k) v) refl refl x
    like_stored (InException i) may = like_beside before w (stored w (InException i) v) refl refl x
    like_stored (Made u) may = x

  -- ---- memory

  -- a range that is no home's whose value may become another one, and not the heap's
  pub record IsOther (start long b n : ℕ) : Type 0 where
    pub before : b + n ≤ start
    pub own : Beside b n own_data_at HEAP_DATA
    pub heap : Beside b n heap_at long
    pub homes : (h : Home) → Homes h → IsOwn h.base → Beside b n h.at (home_bytes h)

  -- it is as it was
  pub record IsMemoryLike (start : ℕ) (before m : Memory) : Type 0 where
    pub statics : length m.statics ≡ length before.statics
    pub heap : length m.heap ≡ length before.heap
    pub beside : (b n : ℕ) → IsOther start (length before.heap) b n → bytes_at m b n ≡ bytes_at before b n

  pub memory_itself : (start : ℕ) (m : Memory) → IsMemoryLike start m m
  memory_itself start m = record { statics = refl; heap = refl; beside = λ b n o. refl }

  -- one step further
  pub memory_next : (start : ℕ) (before m other : Memory) → IsMemoryLike start before m → length other.statics ≡ length m.statics
      → length other.heap ≡ length m.heap
      → ((b n : ℕ) → IsOther start (length before.heap) b n → bytes_at other b n ≡ bytes_at m b n) → IsMemoryLike start before other
  memory_next start before m other x statics heap same = record {
    statics = statics ∙ x.statics;
    heap = heap ∙ x.heap;
    beside = λ b n o. same b n o ∙ x.beside b n o;
  }

  pub memory_written : (start : ℕ) (before m other : Memory) (a k : ℕ) → IsMemoryLike start before m → IsRewritten m other a k
      → ((b n : ℕ) → IsOther start (length before.heap) b n → Beside b n a k) → IsMemoryLike start before other
  memory_written start before m other a k x written away =
      memory_next start before m other x written.sizes.statics written.sizes.heap (λ b n o. written.beside b n (away b n o))

  -- places come or go behind
  pub memory_grown : (start : ℕ) (before m more : Memory) (room : ℕ) → start ≤ stack_at + length m.places → Grown m more room → IsMemoryLike start before m
      → IsMemoryLike start before more
  memory_grown start before m more room low g x =
      memory_next start before m more x g.statics g.heap (λ b n o. let e = o.before in g.bytes b n (omega (arith, e, low)))

  pub memory_shrunk : (start : ℕ) (before m less : Memory) (room : ℕ) → start ≤ stack_at + length less.places → Grown less m room
      → IsMemoryLike start before m → IsMemoryLike start before less
  memory_shrunk start before m less room low g x =
      memory_next start before m less x (sym g.statics) (sym g.heap) (λ b n o. let e = o.before in sym (g.bytes b n (omega (arith, e, low))))

-- with more homes
pub memory_more : (Homes More : Home → Type 0) → ((h : Home) → Homes h → More h) → (start : ℕ) (before m : Memory) → IsMemoryLike Homes start before m
    → IsMemoryLike More start before m
memory_more Homes More among start before m x = record {
  statics = x.statics;
  heap = x.heap;
  beside = λ b n o. x.beside b n (record { before = o.before; own = o.own; heap = o.heap; homes = λ h p own. o.homes h (among h p) own });
}

-- ---- what may be put

lies_as : (base : ℕ) (xs ys : List ℕ) (a n : ℕ) → length xs ≡ length ys → lies_in base xs a n ≡ lies_in base ys a n
lies_as base xs ys a n e = ap (λ k. nat_le base a && nat_le (a + n) (base + k)) e

lies_before : (base : ℕ) (xs ys : List ℕ) (a n : ℕ) → a + n ≤ base + length xs → a + n ≤ base + length ys → lies_in base xs a n ≡ lies_in base ys a n
lies_before base xs ys a n one two =
    ap (λ b. nat_le base a && b) (le-leb (a + n) (base + length xs) one ∙ sym (le-leb (a + n) (base + length ys) two))

-- of words before the ends of both
pub may_as : (before m : Memory) → length m.statics ≡ length before.statics → length m.heap ≡ length before.heap → (a : ℕ)
    → a + 4 ≤ stack_at + length before.places → a + 4 ≤ stack_at + length m.places → may_put m a Word ≡ may_put before a Word
may_as before m statics heap a low high =
    ap₂ (λ p q. (a % 4 == 0) && (p || q)) (lies_as statics_at m.statics before.statics a 4 statics)
    (ap₂ (λ p q. p || q) (lies_as heap_at m.heap before.heap a 4 heap) (lies_before stack_at m.places before.places a 4 high low))
