-- Bases that hold a value of their own, in a world where one of them gets another one.
use Rattle.std.proofs.Common.{◌≡◌, ◌≢◌, ◌⊎◌, inl, inr, ℕ, ◌+◌, ◌<◌, ◌≤◌, List, [], ◌∷◌, Some, Bool, true, false, length, ◌-◌}
use Rattle.std.proofs.Common.{refl, sym, ap, ap₂, subst, ◌∙◌, arith}
use Rattle.std.specs.Prelude.{if◌then◌else◌, nat_eq, slice_get, slice_set}
use Rattle.std.proofs.lemmas.Bool.{eqb-true, ne_eqb}
use Rattle.nim_meaning.specs.Values.{Value, Base, Standing, Waiting, InHand, InBlock, InException, Made, Slot, Holds}
use Rattle.nim_meaning.specs.State.{Frame, World, frame_in, frame_at, with_frame_at, with_slot_of, slot_at, Temporary, temporary_in, with_temporary_in}
use Rattle.nim_meaning.specs.State.{temporary_at, with_temporary, held, awaited, hand_value, whole_at, stored, joined}
use Rattle.word_lowering.proofs.Frames.{IsFrame, frame_kept, slot_here, slot_elsewhere, get_set, get_other, get_inside}
use Rattle.word_lowering.proofs.Keeping.{number_cases}

-- ---- bases

-- a place of a frame
pub record InFrame (w : World) (level number : ℕ) : Type 0 where
  pub first : ℕ
  pub span : ℕ
  pub frame : IsFrame w level first span
  pub low : first ≤ number
  pub high : number < first + span

-- where frames are the same
pub in_frame : (w other : World) (level number : ℕ) → other.frames ≡ w.frames → InFrame w level number → InFrame other level number
in_frame w other level number same f = record {
  first = f.first;
  span = f.span;
  frame = record {
    frame = f.frame.frame;
    there = ap (λ frames. slice_get frames level) same ∙ f.frame.there;
    begins = f.frame.begins;
    slots = f.frame.slots;
  };
  low = f.low;
  high = f.high;
}

abbrev pub HasFrame : World → (level : ℕ) → Type 0
HasFrame w level = (frame : Frame) × (slice_get w.frames level ≡ Some frame)

-- a place, a value that waits, or one under way, with a value of its own; and one that nobody owns, which nobody changes
abbrev pub HoldsAt : World → Base → Value → Type 0
HoldsAt w (Standing level number) v = InFrame w level number × (slot_at w level number ≡ Some (Holds v))
HoldsAt w (Waiting level node) v = HasFrame w level × (temporary_at w level node ≡ Some (Holds v))
HoldsAt w (InHand i) v = slice_get w.hand i ≡ Some v
HoldsAt w (Made u) v = u ≡ v
HoldsAt w base v = ⊥

abbrev pub IsOwn : Base → Type 0
IsOwn (Standing level number) = Unit {0}
IsOwn (Waiting level node) = Unit {0}
IsOwn (InHand i) = Unit {0}
IsOwn base = ⊥

abbrev pub Differ : Base → Base → Type 0
Differ (Standing l n) (Standing k i) = (l ≢ k) ⊎ (n ≢ i)
Differ (Waiting l n) (Waiting k i) = (l ≢ k) ⊎ (n ≢ i)
Differ (InHand i) (InHand j) = i ≢ j
Differ b c = Unit {0}

pub whole_held : (w : World) (b : Base) (v : Value) → HoldsAt w b v → whole_at w b ≡ v
whole_held w (Standing level number) v h = ap held h.1
whole_held w (Waiting level node) v h = ap awaited h.1
whole_held w (InHand i) v h = ap hand_value h
whole_held w (InBlock k) v h = absurd h
whole_held w (InException i) v h = absurd h
whole_held w (Made u) v h = h

-- ---- values that wait

pub temporary_here : (ts : List Temporary) (node : ℕ) (slot old : Slot) → temporary_in ts node ≡ Some old
    → temporary_in (with_temporary_in ts node slot) node ≡ Some slot
temporary_here [] node slot old e = absurd (none_is_some e)
  where
    none_is_some : temporary_in [] node ≡ Some old → ⊥
    none_is_some e = cc
temporary_here (t ∷ ts) node slot old e = by (temporary_here ts node slot old) (nat_eq t.node node) refl
  where
    by : (temporary_in ts node ≡ Some old → temporary_in (with_temporary_in ts node slot) node ≡ Some slot) → (b : Bool) → nat_eq t.node node ≡ b
        → temporary_in (if b then record t { slot = slot } ∷ ts else t ∷ with_temporary_in ts node slot) node ≡ Some slot
    by rest true h = ap (λ b. if b then Some slot else temporary_in ts node) h
    by rest false h = ap (λ b. if b then Some t.slot else temporary_in (with_temporary_in ts node slot) node) h
        ∙ rest (sym (ap (λ b. if b then Some t.slot else temporary_in ts node) h) ∙ e)

pub temporary_away : (ts : List Temporary) (node other : ℕ) (slot : Slot) → other ≢ node
    → temporary_in (with_temporary_in ts node slot) other ≡ temporary_in ts other
temporary_away [] node other slot ne = refl
temporary_away (t ∷ ts) node other slot ne = by (temporary_away ts node other slot ne) (nat_eq t.node node) refl
  where
    by : temporary_in (with_temporary_in ts node slot) other ≡ temporary_in ts other → (b : Bool) → nat_eq t.node node ≡ b
        → temporary_in (if b then record t { slot = slot } ∷ ts else t ∷ with_temporary_in ts node slot) other ≡ temporary_in (t ∷ ts) other
    by rest true h =
        let no : nat_eq t.node other ≡ false = ne_eqb t.node other (λ e. ne (sym e ∙ eqb-true t.node node h)) in
        ap (λ b. if b then Some slot else temporary_in ts other) no ∙ sym (ap (λ b. if b then Some t.slot else temporary_in ts other) no)
    by rest false h = ap (λ o. if nat_eq t.node other then Some t.slot else o) rest

-- ---- frames

module _ (w : World) (level : ℕ) (new : Frame) where
  pub frame_there : HasFrame w level → frame_at (with_frame_at w level new) level ≡ new
  frame_there f = ap frame_in (get_set w.frames level new (get_inside w.frames level f.0 f.1))

  pub frame_away : (other : ℕ) → other ≢ level → frame_at (with_frame_at w level new) other ≡ frame_at w other
  frame_away other ne = ap frame_in (get_other w.frames level new other ne)

  -- of what is the same in the frame's place
  pub frames_agree : {A : Type 0} (of : Frame → A) → HasFrame w level → of new ≡ of (frame_at w level) → (other : ℕ)
      → of (frame_at (with_frame_at w level new) other) ≡ of (frame_at w other)
  frames_agree of f same other = by (number_cases other level)
    where
      by : (other ≡ level) ⊎ (other ≢ level) → of (frame_at (with_frame_at w level new) other) ≡ of (frame_at w other)
      by (inl e) = subst (λ l. of (frame_at (with_frame_at w level new) l) ≡ of (frame_at w l)) (sym e) (ap of (frame_there f) ∙ same)
      by (inr ne) = ap of (frame_away other ne)

  pub frame_stays : HasFrame w level → (other : ℕ) → HasFrame w other → HasFrame (with_frame_at w level new) other
  frame_stays f other g = by (number_cases other level)
    where
      by : (other ≡ level) ⊎ (other ≢ level) → HasFrame (with_frame_at w level new) other
      by (inl e) = (
        new,
        subst (λ l. slice_get (slice_set w.frames level new) l ≡ Some new) (sym e)
            (get_set w.frames level new (get_inside w.frames level f.0 f.1)),
      )
      by (inr ne) = (g.0, get_other w.frames level new other ne ∙ g.1)

-- ---- another value at a base

-- with another temporary, a frame's places are as they were
places_stay : (w : World) (level node : ℕ) (slot : Slot) → HasFrame w level → (other number : ℕ) → InFrame w other number
    → InFrame (with_temporary w level node slot) other number
places_stay w level node slot f other number x = by (number_cases other level)
  where
    new : Frame
    new = record (frame_at w level) { temporaries = with_temporary_in (frame_at w level).temporaries node slot }

    by : (other ≡ level) ⊎ (other ≢ level) → InFrame (with_temporary w level node slot) other number
    by (inr ne) = record {
      first = x.first;
      span = x.span;
      frame = record {
        frame = x.frame.frame;
        there = get_other w.frames level new other ne ∙ x.frame.there;
        begins = x.frame.begins;
        slots = x.frame.slots;
      };
      low = x.low;
      high = x.high;
    }
    by (inl e) =
        let here : slice_get w.frames level ≡ Some x.frame.frame = subst (λ l. slice_get w.frames l ≡ Some x.frame.frame) e x.frame.there in
        let is : frame_at w level ≡ x.frame.frame = ap frame_in here in
        record {
          first = x.first;
          span = x.span;
          frame = record {
            frame = new;
            there = subst (λ l. slice_get (slice_set w.frames level new) l ≡ Some new) (sym e)
                (get_set w.frames level new (get_inside w.frames level x.frame.frame here));
            begins = ap (λ y. y.first) is ∙ x.frame.begins;
            slots = ap (λ y. length_of_slots y) is ∙ x.frame.slots;
          };
          low = x.low;
          high = x.high;
        }
      where
        length_of_slots : Frame → ℕ
        length_of_slots y = length y.slots

module _ (w : World) (new : Value) where
  pub held_here : (b : Base) (old : Value) → IsOwn b → HoldsAt w b old → HoldsAt (stored w b new) b new
  held_here (Standing level number) old own h =
      let f = h.0 in (
        record {
          first = f.first;
          span = f.span;
          frame = frame_kept w level number (Some (Holds new)) level f.first f.span f.frame;
          low = f.low;
          high = f.high;
        },
        slot_here w level number (Some (Holds new)) f.first f.span f.frame f.low f.high,
      )
  held_here (Waiting level node) old own h =
      let frame : Frame = record (frame_at w level) { temporaries = with_temporary_in (frame_at w level).temporaries node (Holds new) } in (
        frame_stays w level frame h.0 level h.0,
        ap (λ y. temporary_in y.temporaries node) (frame_there w level frame h.0)
            ∙ temporary_here (frame_at w level).temporaries node (Holds new) (Holds old) h.1,
      )
  held_here (InHand i) old own h = get_set w.hand i new (get_inside w.hand i old h)
  held_here (InBlock k) old own h = absurd h
  held_here (InException i) old own h = absurd h
  held_here (Made u) old own h = absurd own

  pub held_away : (b c : Base) (old v : Value) → HoldsAt w b old → HoldsAt w c v → Differ b c → HoldsAt (stored w b new) c v
  held_away (Standing l n) (Standing k i) old v h g d =
      let f = h.0 in let q = g.0 in (
        record {
          first = q.first;
          span = q.span;
          frame = frame_kept w l n (Some (Holds new)) k q.first q.span q.frame;
          low = q.low;
          high = q.high;
        },
        slot_elsewhere w l n (Some (Holds new)) k i f.first f.span f.frame f.low (apart d (number_cases k l)) ∙ g.1,
      )
    where
      apart : (l ≢ k) ⊎ (n ≢ i) → (k ≡ l) ⊎ (k ≢ l) → (k ≢ l) ⊎ ((h.0.first ≤ i) × (i ≢ n))
      apart d (inr ne) = inl ne
      apart (inl ne) (inl e) = absurd (ne (sym e))
      apart (inr ne) (inl e) =
          let one : g.0.first ≡ h.0.first = sym g.0.frame.begins ∙ ap (λ y. (frame_in y).first) (sym g.0.frame.there)
          ∙ ap (λ z. (frame_at w z).first) e ∙ ap (λ y. (frame_in y).first) h.0.frame.there ∙ h.0.frame.begins in
          let low = g.0.low in inr (omega (arith, one, low), λ z. ne (sym z))
  held_away (Standing l n) (Waiting k node) old v h g d =
      let frame : Frame = with_slot_of (frame_at w l) n (Some (Holds new)) in
      let there : HasFrame w l = (h.0.frame.frame, h.0.frame.there) in (
        frame_stays w l frame there k g.0,
        ap (λ ts. temporary_in ts node) (frames_agree w l frame (λ y. y.temporaries) there refl k) ∙ g.1,
      )
  held_away (Waiting l node) (Standing k i) old v h g d =
      let frame : Frame = record (frame_at w l) { temporaries = with_temporary_in (frame_at w l).temporaries node (Holds new) } in (
        places_stay w l node (Holds new) h.0 k i g.0,
        ap₂ (λ slots first. joined (slice_get slots (i - first))) (frames_agree w l frame (λ y. y.slots) h.0 refl k)
            (frames_agree w l frame (λ y. y.first) h.0 refl k) ∙ g.1,
      )
  held_away (Waiting l n) (Waiting k i) old v h g d =
      let frame : Frame = record (frame_at w l) { temporaries = with_temporary_in (frame_at w l).temporaries n (Holds new) } in (
        frame_stays w l frame h.0 k g.0,
        by d (number_cases k l) ∙ g.1,
      )
    where
      by : (l ≢ k) ⊎ (n ≢ i) → (k ≡ l) ⊎ (k ≢ l) → temporary_at (with_temporary w l n (Holds new)) k i ≡ temporary_at w k i
      by d (inr ne) = ap (λ y. temporary_in y.temporaries i)
          (frame_away w l (record (frame_at w l) { temporaries = with_temporary_in (frame_at w l).temporaries n (Holds new) }) k ne)
      by (inl ne) (inl e) = absurd (ne (sym e))
      by (inr ne) (inl e) = subst (λ z. temporary_at (with_temporary w l n (Holds new)) z i ≡ temporary_at w z i) (sym e)
          (ap (λ y. temporary_in y.temporaries i)
          (frame_there w l (record (frame_at w l) { temporaries = with_temporary_in (frame_at w l).temporaries n (Holds new) }) h.0)
          ∙ temporary_away (frame_at w l).temporaries n i (Holds new) (λ z. ne (sym z)))
  held_away (InHand i) (InHand j) old v h g d = get_other w.hand i new j (λ e. d (sym e)) ∙ g
  held_away (InHand i) (Standing k n) old v h g d = (in_frame w (stored w (InHand i) new) k n refl g.0, g.1)
  held_away (InHand i) (Waiting k n) old v h g d = g
  held_away (Standing l n) (InHand j) old v h g d = g
  held_away (Waiting l n) (InHand j) old v h g d = g
  held_away (InBlock k) c old v h g d = absurd h
  held_away (InException i) c old v h g d = absurd h
  held_away (Made u) c old v h g d = g
  held_away b (InBlock k) old v h g d = absurd g
  held_away b (InException i) old v h g d = absurd g
  held_away b (Made u) old v h g d = g

  -- what is in blocks stays
  pub heap_stays : (b : Base) (old : Value) → HoldsAt w b old → (stored w b new).heap ≡ w.heap
  heap_stays (Standing level number) old h = refl
  heap_stays (Waiting level node) old h = refl
  heap_stays (InHand i) old h = refl
  heap_stays (InBlock k) old h = absurd h
  heap_stays (InException i) old h = absurd h
  heap_stays (Made u) old h = refl
