-- What changes of the world keep: frames stay, and what places of a call hold isn't taken away.
use Rattle.std.proofs.Common.{◌≡◌, ℕ, zero, suc, ◌+◌, ◌<◌, ◌≤◌, true, List, [], ◌∷◌, ◌++◌, length, refl, sym, ◌∙◌, subst, arith, Option, Some, None}
use Rattle.std.proofs.Common.{length-append}
use Rattle.std.specs.Prelude.{◌-◌, take, slice_get, slice_set}
use Rattle.std.proofs.lemmas.List.{length-set, length-take-le}
use Rattle.nim_meaning.specs.Heap.{Block, block_at}
use Rattle.nim_meaning.specs.Values.{Value, Base, Standing, Waiting, InBlock, InHand, InException, Made, Slot, Holds}
use Rattle.nim_meaning.specs.State.{Temporary, Frame, World, no_frame, frame_in, frame_at, joined, slot_at, with_temporaries, stored, with_frame, down_to}
use Rattle.nim_meaning.specs.Deeds.{Change, Stores, Opens, Waits, Leaves, Pushes, Pops, Reads, Refills, Frees, freed, changed}
use Rattle.flat_code.specs.Lines.{is_there}

-- ---- the slots of a frame

-- what is there stays there, and what holds something goes on to do so
pub record Rises (c d : Option (Option Slot)) : Type 0 where
  pub there : is_there c ≡ true → is_there d ≡ true
  pub holds : is_there (joined c) ≡ true → is_there (joined d) ≡ true

pub rises_same : (c : Option (Option Slot)) → Rises c c
rises_same c = record { there = λ h. h; holds = λ h. h }

rises_on : (c d e : Option (Option Slot)) → Rises c d → Rises d e → Rises c e
rises_on c d e p q = record { there = λ h. q.there (p.there h); holds = λ h. q.holds (p.holds h) }

slot_put : (slots : List (Option Slot)) (i j : ℕ) (slot : Slot) → Rises (slice_get slots j) (slice_get (slice_set slots i (Some slot)) j)
slot_put [] i j slot = rises_same None
slot_put (s ∷ slots) zero zero slot = record { there = λ h. refl; holds = λ h. refl }
slot_put (s ∷ slots) zero (suc j) slot = rises_same (slice_get slots j)
slot_put (s ∷ slots) (suc i) zero slot = rises_same (Some s)
slot_put (s ∷ slots) (suc i) (suc j) slot = slot_put slots i j slot

-- where there is a place for it
pub slot_is_put : (slots : List (Option Slot)) (i : ℕ) (slot : Slot) → is_there (slice_get slots i) ≡ true →
    is_there (joined (slice_get (slice_set slots i (Some slot)) i)) ≡ true
slot_is_put [] i slot h = h
slot_is_put (s ∷ slots) zero slot h = refl
slot_is_put (s ∷ slots) (suc i) slot h = slot_is_put slots i slot h

-- ---- frames

pub record Grows (f g : Frame) : Type 0 where
  pub first : g.first ≡ f.first
  pub slots : (i : ℕ) → Rises (slice_get f.slots i) (slice_get g.slots i)

pub grows_same : (f : Frame) → Grows f f
grows_same f = record { first = refl; slots = λ i. rises_same (slice_get f.slots i) }

grows_on : (f g h : Frame) → Grows f g → Grows g h → Grows f h
grows_on f g h p q = record {
  first = q.first ∙ p.first;
  slots = λ i. rises_on (slice_get f.slots i) (slice_get g.slots i) (slice_get h.slots i) (p.slots i) (q.slots i);
}

frame_put : (frames : List Frame) (l i : ℕ) (f : Frame) → Grows (frame_in (slice_get frames l)) f →
    Grows (frame_in (slice_get frames i)) (frame_in (slice_get (slice_set frames l f) i))
frame_put [] l i f h = grows_same no_frame
frame_put (g ∷ frames) zero zero f h = h
frame_put (g ∷ frames) zero (suc i) f h = grows_same (frame_in (slice_get frames i))
frame_put (g ∷ frames) (suc l) zero f h = grows_same g
frame_put (g ∷ frames) (suc l) (suc i) f h = frame_put frames l i f h

-- ---- worlds, up to a level

pub record Since (level : ℕ) (old new : World) : Type 0 where
  pub frames : length new.frames ≡ length old.frames
  pub grows : (l : ℕ) → l ≤ level → Grows (frame_at old l) (frame_at new l)

pub since_none : (level : ℕ) (world : World) → Since level world world
since_none level world = record { frames = refl; grows = λ l le. grows_same (frame_at world l) }

pub since_then : {level : ℕ} {a b c : World} → Since level a b → Since level b c → Since level a c
since_then {level} {a} {b} {c} p q =
    record { frames = q.frames ∙ p.frames; grows = λ l le. grows_on (frame_at a l) (frame_at b l) (frame_at c l) (p.grows l le) (q.grows l le) }

-- a place of a call that holds something does so later
pub still_holds : {level : ℕ} {a b : World} (l n : ℕ) → l ≤ level → Since level a b → is_there (slot_at a l n) ≡ true → is_there (slot_at b l n) ≡ true
still_holds {level} {a} {b} l n le s h =
    let g = s.grows l le in
    subst (λ first. is_there (joined (slice_get (frame_at b l).slots (n - first))) ≡ true) (sym g.first) ((g.slots (n - (frame_at a l).first)).holds h)

-- there is a slot for a place
abbrev pub slot_for : World → (level n : ℕ) → Option (Option Slot)
slot_for world level n = slice_get (frame_at world level).slots (n - (frame_at world level).first)

pub still_there : {level : ℕ} {a b : World} (l n : ℕ) → l ≤ level → Since level a b → is_there (slot_for a l n) ≡ true → is_there (slot_for b l n) ≡ true
still_there {level} {a} {b} l n le s h =
    let g = s.grows l le in
    subst (λ first. is_there (slice_get (frame_at b l).slots (n - first)) ≡ true) (sym g.first) ((g.slots (n - (frame_at a l).first)).there h)

-- ---- changes

since_framed : (level : ℕ) (world : World) (frames : List Frame) → length frames ≡ length world.frames →
    ((l : ℕ) → Grows (frame_at world l) (frame_in (slice_get frames l))) → Since level world (record world { frames = frames })
since_framed level world frames same h = record { frames = same; grows = λ l le. h l }

pub since_slot : (level : ℕ) (world : World) (at n : ℕ) (slot : Slot) → Since level world (changed (Opens at n slot) world)
since_slot level world at n slot =
    let f = frame_at world at in
    let g : Frame = record f { slots = slice_set f.slots (n - f.first) (Some slot) } in
    since_framed level world (slice_set world.frames at g) (length-set world.frames at g)
    (λ l. frame_put world.frames at l g (record { first = refl; slots = λ i. slot_put f.slots (n - f.first) i slot }))

-- temporaries are no places
since_waiting : (level : ℕ) (world : World) (at : ℕ) (temporaries : List Temporary) → Since level world (with_temporaries world at temporaries)
since_waiting level world at temporaries =
    let f = frame_at world at in
    let g : Frame = record f { temporaries = temporaries } in
    since_framed level world (slice_set world.frames at g) (length-set world.frames at g)
    (λ l. frame_put world.frames at l g (record { first = refl; slots = λ i. rises_same (slice_get f.slots i) }))

since_stored : (level : ℕ) (world : World) (base : Base) (v : Value) → Since level world (stored world base v)
since_stored level world (Standing at n) v = since_slot level world at n (Holds v)
since_stored level world (Waiting at node) v = since_waiting level world at _
since_stored level world (InBlock k) v = record { frames = refl; grows = λ l le. grows_same (frame_at world l) }
since_stored level world (InHand i) v = record { frames = refl; grows = λ l le. grows_same (frame_at world l) }
since_stored level world (InException i) v = record { frames = refl; grows = λ l le. grows_same (frame_at world l) }
since_stored level world (Made u) v = record { frames = refl; grows = λ l le. grows_same (frame_at world l) }

since_freed : (level : ℕ) (world : World) (k : ℕ) (block : Option Block) → Since level world (freed world k block)
since_freed level world k None = since_none level world
since_freed level world k (Some block) = record { frames = refl; grows = λ l le. grows_same (frame_at world l) }

pub since_changed : (level : ℕ) (c : Change) (world : World) → Since level world (changed c world)
since_changed level (Stores location v) world = since_stored level world location.base _
since_changed level (Opens at n slot) world = since_slot level world at n slot
since_changed level (Waits at node slot) world = since_waiting level world at _
since_changed level (Leaves at node) world = since_waiting level world at _
since_changed level (Pushes v) world = record { frames = refl; grows = λ l le. grows_same (frame_at world l) }
since_changed level Pops world = record { frames = refl; grows = λ l le. grows_same (frame_at world l) }
since_changed level (Reads n) world = record { frames = refl; grows = λ l le. grows_same (frame_at world l) }
since_changed level (Refills k contents) world = record { frames = refl; grows = λ l le. grows_same (frame_at world l) }
since_changed level (Frees k) world = since_freed level world k (block_at world.heap k)

-- a place is open behind that
pub is_opened : (world : World) (level n : ℕ) (slot : Slot) → is_there (slot_for world level n) ≡ true → level < length world.frames →
    is_there (slot_at (changed (Opens level n slot) world) level n) ≡ true
is_opened world level n slot h less =
    let f = frame_at world level in
    let g : Frame = record f { slots = slice_set f.slots (n - f.first) (Some slot) } in
    subst (λ (o : Option Frame). is_there (joined (slice_get (frame_in o).slots (n - (frame_in o).first))) ≡ true) (sym (found world.frames level g less))
    (slot_is_put f.slots (n - f.first) slot h)
  where
    found : (frames : List Frame) (l : ℕ) (f : Frame) → l < length frames → slice_get (slice_set frames l f) l ≡ Some f
    found [] l f less = absurd (omega (arith, less))
    found (e ∷ frames) zero f less = refl
    found (e ∷ frames) (suc l) f less = found frames l f (omega (arith, less))

-- ---- a call's frame

pub frame_below : (frames more : List Frame) (l : ℕ) → l < length frames → slice_get (frames ++ more) l ≡ slice_get frames l
frame_below [] more l less = absurd (omega (arith, less))
frame_below (f ∷ frames) more zero less = refl
frame_below (f ∷ frames) more (suc l) less = frame_below frames more l (omega (arith, less))

pub frame_last : (frames : List Frame) (f : Frame) (l : ℕ) → length frames ≡ l → slice_get (frames ++ f ∷ []) l ≡ Some f
frame_last [] f zero e = refl
frame_last [] f (suc l) e = absurd (omega (arith, e))
frame_last (g ∷ frames) f zero e = absurd (omega (arith, e))
frame_last (g ∷ frames) f (suc l) e = frame_last frames f l (omega (arith, e))

frame_taken : (frames : List Frame) (n l : ℕ) → l < n → slice_get (take n frames) l ≡ slice_get frames l
frame_taken frames zero l less = absurd (omega (arith, less))
frame_taken [] (suc n) l less = refl
frame_taken (f ∷ frames) (suc n) zero less = refl
frame_taken (f ∷ frames) (suc n) (suc l) less = frame_taken frames n l (omega (arith, less))

-- From a world with so many frames, through a call at the next level, back to the caller.
pub since_call : (level : ℕ) (old new : World) (f : Frame) → length old.frames ≡ suc level → Since (suc level) (with_frame old f) new →
    Since level old (down_to (suc level) new)
since_call level old new f many s =
    let all : length new.frames ≡ length old.frames + 1 = s.frames ∙ length-append old.frames (f ∷ []) in
    record {
      frames = length-take-le (suc level) new.frames (omega (arith, all, many)) ∙ sym many;
      grows = λ l le.
          subst (λ (o : Option Frame). Grows (frame_at old l) (frame_in o)) (sym (frame_taken new.frames (suc level) l (omega (arith, le))))
          (subst (λ (o : Option Frame). Grows (frame_in o) (frame_at new l)) (frame_below old.frames (f ∷ []) l (omega (arith, le, many)))
          (s.grows l (omega (arith, le))));
    }
