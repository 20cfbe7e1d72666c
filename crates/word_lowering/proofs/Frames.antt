-- Slots of places, in a world where one place gets another slot.
use Rattle.std.proofs.Common.{◌≡◌, ◌≢◌, ◌⊎◌, inl, inr, ℕ, zero, suc, ◌+◌, ◌-◌, ◌<◌, ◌≤◌, List, [], ◌∷◌, length}
use Rattle.std.proofs.Common.{Option, Some, refl, sym, ap, subst, ◌∙◌, arith}
use Rattle.std.specs.Prelude.{slice_get, slice_set}
use Rattle.std.proofs.lemmas.Bool.{cases_order}
use Rattle.nim_meaning.specs.Values.{Slot}
use Rattle.nim_meaning.specs.State.{Frame, World, frame_in, frame_at, joined, slot_of, with_slot_of, slot_at, with_slot}
use Rattle.word_lowering.proofs.Options.{none_some}

module _ {A : Type 0} where
  pub get_set : (xs : List A) (i : ℕ) (x : A) → i < length xs → slice_get (slice_set xs i x) i ≡ Some x
  get_set [] i x h = absurd (omega (arith, h))
  get_set (y ∷ xs) zero x h = refl
  get_set (y ∷ xs) (suc i) x h = get_set xs i x (omega (arith, h))

  pub get_other : (xs : List A) (i : ℕ) (x : A) (j : ℕ) → j ≢ i → slice_get (slice_set xs i x) j ≡ slice_get xs j
  get_other [] i x j ne = refl
  get_other (y ∷ xs) zero x zero ne = absurd (ne refl)
  get_other (y ∷ xs) zero x (suc j) ne = refl
  get_other (y ∷ xs) (suc i) x zero ne = refl
  get_other (y ∷ xs) (suc i) x (suc j) ne = get_other xs i x j (λ e. ne (ap suc e))

  pub length_set : (xs : List A) (i : ℕ) (x : A) → length (slice_set xs i x) ≡ length xs
  length_set [] i x = refl
  length_set (y ∷ xs) zero x = refl
  length_set (y ∷ xs) (suc i) x = ap suc (length_set xs i x)

  pub get_inside : (xs : List A) (i : ℕ) (x : A) → slice_get xs i ≡ Some x → i < length xs
  get_inside [] i x e = absurd (none_some x e)
  get_inside (y ∷ xs) zero x e = omega arith
  get_inside (y ∷ xs) (suc i) x e = let h = get_inside xs i x e in omega (arith, h)

-- the frame of a level has so many slots, from a number on
pub record IsFrame (w : World) (level first span : ℕ) : Type 0 where
  pub frame : Frame
  pub there : slice_get w.frames level ≡ Some frame
  pub begins : frame.first ≡ first
  pub slots : length frame.slots ≡ span

module _ (w : World) (level number : ℕ) (slot : Option Slot) where
  -- frames stay
  pub frame_kept : (other first span : ℕ) → IsFrame w other first span → IsFrame (with_slot w level number slot) other first span
  frame_kept other first span f = by (cases_order other level)
    where
      frame : Frame
      frame = with_slot_of (frame_at w level) number slot

      apart : other ≢ level → IsFrame (with_slot w level number slot) other first span
      apart ne = record {
        frame = f.frame;
        there = get_other w.frames level frame other ne ∙ f.there;
        begins = f.begins;
        slots = f.slots;
      }

      same : other ≡ level → IsFrame (with_slot w level number slot) other first span
      same e =
          let here : slice_get w.frames level ≡ Some f.frame = subst (λ l. slice_get w.frames l ≡ Some f.frame) e f.there in
          let is : frame_at w level ≡ f.frame = ap frame_in here in
          record {
            frame = frame;
            there = subst (λ l. slice_get (slice_set w.frames level frame) l ≡ Some frame) (sym e)
                (get_set w.frames level frame (get_inside w.frames level f.frame here));
            begins = ap (λ x. x.first) is ∙ f.begins;
            slots = length_set (frame_at w level).slots (number - (frame_at w level).first) slot ∙ ap (λ x. length x.slots) is ∙ f.slots;
          }

      by : (other ≡ level) ⊎ ((other < level) ⊎ (level < other)) → IsFrame (with_slot w level number slot) other first span
      by (inl e) = same e
      by (inr (inl h)) = apart (λ e. absurd (omega (arith, h, e)))
      by (inr (inr h)) = apart (λ e. absurd (omega (arith, h, e)))

  -- the slot is there
  pub slot_here : (first span : ℕ) → IsFrame w level first span → first ≤ number → number < first + span
      → slot_at (with_slot w level number slot) level number ≡ slot
  slot_here first span f low high =
      let is : frame_at w level ≡ f.frame = ap frame_in f.there in
      let begins : (frame_at w level).first ≡ first = ap (λ x. x.first) is ∙ f.begins in
      let long : length (frame_at w level).slots ≡ span = ap (λ x. length x.slots) is ∙ f.slots in
      let frame : Frame = with_slot_of (frame_at w level) number slot in
      ap (λ o. slot_of (frame_in o) number) (get_set w.frames level frame (get_inside w.frames level f.frame f.there))
      ∙ ap joined (get_set (frame_at w level).slots (number - (frame_at w level).first) slot (omega (arith, begins, long, low, high)))

  -- and all others are as before
  pub slot_elsewhere : (other place first span : ℕ) → IsFrame w level first span → first ≤ number
      → (other ≢ level) ⊎ ((first ≤ place) × (place ≢ number))
      → slot_at (with_slot w level number slot) other place ≡ slot_at w other place
  slot_elsewhere other place first span f low (inl ne) =
      ap (λ o. slot_of (frame_in o) place) (get_other w.frames level (with_slot_of (frame_at w level) number slot) other ne)
  slot_elsewhere other place first span f low (inr h) = by (cases_order other level)
    where
      frame : Frame
      frame = with_slot_of (frame_at w level) number slot

      begins : (frame_at w level).first ≡ first
      begins = ap (λ x. (frame_in x).first) f.there ∙ f.begins

      same : other ≡ level → slot_at (with_slot w level number slot) other place ≡ slot_at w other place
      same e = subst (λ l. slot_at (with_slot w level number slot) l place ≡ slot_at w l place) (sym e)
          (ap (λ o. slot_of (frame_in o) place) (get_set w.frames level frame (get_inside w.frames level f.frame f.there))
          ∙ ap joined (get_other (frame_at w level).slots (number - (frame_at w level).first) slot (place - (frame_at w level).first)
          (λ d. h.1 (omega (arith, begins, low, h.0, d)))))

      apart : other ≢ level → slot_at (with_slot w level number slot) other place ≡ slot_at w other place
      apart ne = ap (λ o. slot_of (frame_in o) place) (get_other w.frames level frame other ne)

      by : (other ≡ level) ⊎ ((other < level) ⊎ (level < other)) → slot_at (with_slot w level number slot) other place ≡ slot_at w other place
      by (inl e) = same e
      by (inr (inl g)) = apart (λ e. absurd (omega (arith, g, e)))
      by (inr (inr g)) = apart (λ e. absurd (omega (arith, g, e)))
