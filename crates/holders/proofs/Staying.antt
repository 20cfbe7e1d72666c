-- What leaves calls active, names, and as many values under way.
use Rattle.std.proofs.Common.{◌≡◌, refl, sym, ap, subst, ◌∙◌, ℕ, zero, suc, ◌-◌, ◌≤◌, inl, inr, ◌⊎◌, List, [], ◌∷◌, length, Option, Some, None}
use Rattle.std.specs.Prelude.{slice_get, slice_set, nat_eq, if◌then◌else◌, Bool, true, false}
use Rattle.std.proofs.lemmas.Option.{same_Some}
use Rattle.nim_meaning.specs.Values.{Value, Slot, Holds, Stands, Location, Base, InHand}
use Rattle.nim_meaning.specs.Heap.{Contents, Block}
use Rattle.nim_meaning.specs.State.{Temporary, Frame, World, frame_in, with_slot_of, with_temporary_in, stored}
use Rattle.nim_meaning.specs.Deeds.{with_block, freed}
use Rattle.holders.specs.Owned.{IsBase, at_place, at_node, in_hand, in_row, in_text, in_program, IsName, a_name, nodes_in, Active, FramesStay, Stays}
use Rattle.holders.proofs.Bases.{get_set, get_other, same_or_not}

pub frames_same : (frames : List Frame) → FramesStay frames frames
frames_same frames = record { names = λ level n l h. h; active = λ level first places nodes h. h; count = refl }

pub frames_then : {a b c : List Frame} → FramesStay a b → FramesStay b c → FramesStay a c
frames_then f g = record {
  names = λ level n l h. g.names level n l (f.names level n l h);
  active = λ level first places nodes h. g.active level first places nodes (f.active level first places nodes h);
  count = g.count ∙ f.count;
}

pub stays_same : (world : World) → Stays world world
stays_same world = record { hand = refl; frames = frames_same world.frames }

pub stays_then : {a b c : World} → Stays a b → Stays b c → Stays a c
stays_then f g = record { hand = g.hand ∙ f.hand; frames = frames_then f.frames g.frames }

-- ---- one frame is another one

nodes_same : (ts : List Temporary) (node : ℕ) (slot : Slot) → nodes_in (with_temporary_in ts node slot) ≡ nodes_in ts
nodes_same [] node slot = refl
nodes_same (t ∷ ts) node slot = by (nat_eq t.node node) (nodes_same ts node slot)
  where
    by : (b : Bool) → nodes_in (with_temporary_in ts node slot) ≡ nodes_in ts →
        nodes_in (if b then record t { slot = slot } ∷ ts else t ∷ with_temporary_in ts node slot) ≡ nodes_in (t ∷ ts)
    by true rest = refl
    by false rest = ap (λ ns. t.node ∷ ns) rest

pub set_length : {A : Type 0} (xs : List A) (i : ℕ) (y : A) → length (slice_set xs i y) ≡ length xs
set_length [] i y = refl
set_length (x ∷ xs) zero y = refl
set_length (x ∷ xs) (suc i) y = ap suc (set_length xs i y)

module _ (frames : List Frame) (at : ℕ) (old new : Frame) (there : slice_get frames at ≡ Some old) (first : new.first ≡ old.first)
    (places : length new.slots ≡ length old.slots) (nodes : nodes_in new.temporaries ≡ nodes_in old.temporaries)
    (names : (i : ℕ) (l : Location) → slice_get old.slots i ≡ Some (Some (Stands l)) → slice_get new.slots i ≡ Some (Some (Stands l))) where
  frame_set : FramesStay frames (slice_set frames at new)
  frame_set = record {
    names = λ level n l h. by level n l h (same_or_not level at);
    active = λ level f p ns h. still level f p ns h (same_or_not level at);
    count = set_length frames at new;
  }
    where
      by : (level n : ℕ) (l : Location) → IsName frames level n l → (level ≡ at) ⊎ (level ≡ at → ⊥) → IsName (slice_set frames at new) level n l
      by level n l (a_name frame e le g) (inr d) = a_name frame (get_other frames at level new d ∙ e) le g
      by level n l (a_name frame e le g) (inl q) =
          let is : frame ≡ old = same_Some frame old (sym e ∙ ap (λ i. slice_get frames i) q ∙ there) in
          subst (λ i. IsName (slice_set frames at new) i n l) (sym q)
          (a_name new (get_set frames at old new there) (subst (λ m. m ≤ n) (ap (λ (x : Frame). x.first) is ∙ sym first) le)
          (ap (λ m. slice_get new.slots (n - m)) first
          ∙ names (n - old.first) l (subst (λ (x : Frame). slice_get x.slots (n - x.first) ≡ Some (Some (Stands l))) is g)))

      still : (level f p : ℕ) (ns : List ℕ) → Active frames level f p ns → (level ≡ at) ⊎ (level ≡ at → ⊥) → Active (slice_set frames at new) level f p ns
      still level f p ns h (inr d) = record {
        frame = h.frame;
        there = get_other frames at level new d ∙ h.there;
        first_is = h.first_is;
        places_are = h.places_are;
        nodes_are = h.nodes_are;
      }
      still level f p ns h (inl q) =
          let is : h.frame ≡ old = same_Some h.frame old (sym h.there ∙ ap (λ i. slice_get frames i) q ∙ there) in
          record {
            frame = new;
            there = ap (λ i. slice_get (slice_set frames at new) i) q ∙ get_set frames at old new there;
            first_is = first ∙ sym (ap (λ (x : Frame). x.first) is) ∙ h.first_is;
            places_are = places ∙ sym (ap (λ (x : Frame). length x.slots) is) ∙ h.places_are;
            nodes_are = nodes ∙ sym (ap (λ (x : Frame). nodes_in x.temporaries) is) ∙ h.nodes_are;
          }

abbrev is_holding : Option (Option Slot) → Type 0
is_holding (Some (Some (Holds v))) = Unit {0}
is_holding s = ⊥

not_held : {v : Value} {l : Location} → Some (Some (Holds v)) ≡ Some (Some (Stands l)) → ⊥
not_held e = subst is_holding e tt

-- ---- changes

stored_frames : {base : Base} {w : Value} (world : World) (v : Value) → IsBase world base w → FramesStay world.frames (stored world base v).frames
stored_frames world v (at_place {level = level} {n = n} {v = w} frame e le f) =
    let new = with_slot_of frame n (Some (Holds v)) in
    subst (λ (x : Frame). FramesStay world.frames (slice_set world.frames level (with_slot_of x n (Some (Holds v))))) (sym (ap frame_in e))
    (frame_set world.frames level frame new e refl (set_length frame.slots (n - frame.first) (Some (Holds v))) refl
    (λ i l g. other i l g (same_or_not i (n - frame.first))))
  where
    other : (i : ℕ) (l : Location) → slice_get frame.slots i ≡ Some (Some (Stands l)) → (i ≡ n - frame.first) ⊎ (i ≡ n - frame.first → ⊥) →
        slice_get (slice_set frame.slots (n - frame.first) (Some (Holds v))) i ≡ Some (Some (Stands l))
    other i l g (inr d) = get_other frame.slots (n - frame.first) i (Some (Holds v)) d ∙ g
    other i l g (inl q) = absurd (not_held (sym f ∙ ap (λ j. slice_get frame.slots j) (sym q) ∙ g))
stored_frames world v (at_node {level = level} {node = node} frame e f) =
    subst (λ (x : Frame). FramesStay world.frames (slice_set world.frames level (record x { temporaries = with_temporary_in x.temporaries node (Holds v) })))
    (sym (ap frame_in e))
    (frame_set world.frames level frame (record frame { temporaries = with_temporary_in frame.temporaries node (Holds v) }) e refl refl
    (nodes_same frame.temporaries node (Holds v)) (λ i l g. g))
stored_frames world v (in_hand e) = frames_same world.frames
stored_frames world v (in_row block e f) = frames_same world.frames
stored_frames world v (in_text block e f) = frames_same world.frames
stored_frames world v in_program = frames_same world.frames

stored_hand : (world : World) (base : Base) (v : Value) → length (stored world base v).hand ≡ length world.hand
stored_hand world (InHand i) v = set_length world.hand i v
stored_hand world base v = refl

pub stored_stays : {base : Base} {w : Value} (world : World) (v : Value) → IsBase world base w → Stays world (stored world base v)
stored_stays {base} world v h = record { hand = stored_hand world base v; frames = stored_frames world v h }

pub freed_stays : (world : World) (k : ℕ) (found : Option Block) → Stays world (freed world k found)
freed_stays world k None = stays_same world
freed_stays world k (Some b) = record { hand = refl; frames = frames_same world.frames }

pub taken_stays : (world : World) (class : ℕ) (contents : Contents) → Stays world (with_block class contents world)
taken_stays world class contents = record { hand = refl; frames = frames_same world.frames }
