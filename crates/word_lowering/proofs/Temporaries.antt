-- What waits in a frame, where a value begins to wait and where one doesn't any more.
use Rattle.std.proofs.Common.{◌≡◌, ◌≢◌, ◌⊎◌, inl, inr, refl, sym, ap, subst, ◌∙◌, arith, ℕ, zero, suc, ◌<◌, List, [], ◌∷◌, length, Option, slice_get}
use Rattle.std.proofs.Common.{Bool, true, false, Some, None}
use Rattle.std.specs.Prelude.{nat_eq, slice_set, if◌then◌else◌}
use Rattle.std.proofs.lemmas.Bool.{cases_order, eqb-true, eq-eqb, ne_eqb, true≢false}
use Rattle.nim_meaning.specs.Values.{Slot}
use Rattle.nim_meaning.specs.State.{Temporary, Frame, World, frame_in, frame_at, temporary_in, temporary_at, without_temporary_in, with_temporaries}
use Rattle.nim_meaning.specs.State.{with_temporary_in, with_one_waiting, with_none_waiting, slot_of, slot_at, with_slot, with_slot_of}
use Rattle.word_lowering.proofs.Frames.{get_set, get_other, get_inside, IsFrame}

-- no node has two
abbrev pub AreOnce : List Temporary → Type 0
AreOnce [] = Unit {0}
AreOnce (t ∷ ts) = (temporary_in ts t.node ≡ None) × AreOnce ts

chosen : (t : Temporary) (ts : List Temporary) (node : ℕ) (b : Bool) → nat_eq t.node node ≡ b
    → temporary_in (t ∷ ts) node ≡ (if b then Some t.slot else temporary_in ts node)
chosen t ts node b e = ap (λ c. if c then Some t.slot else temporary_in ts node) e

dropped : (t : Temporary) (ts : List Temporary) (node : ℕ) (b : Bool) → nat_eq t.node node ≡ b
    → without_temporary_in (t ∷ ts) node ≡ (if b then ts else t ∷ without_temporary_in ts node)
dropped t ts node b e = ap (λ c. if c then ts else t ∷ without_temporary_in ts node) e

-- another one is as before
without_other : (ts : List Temporary) (node other : ℕ) → other ≢ node → temporary_in (without_temporary_in ts node) other ≡ temporary_in ts other
without_other [] node other ne = refl
without_other (t ∷ ts) node other ne = by (nat_eq t.node node) refl (without_other ts node other ne)
  where
    by : (b : Bool) → nat_eq t.node node ≡ b → temporary_in (without_temporary_in ts node) other ≡ temporary_in ts other
        → temporary_in (without_temporary_in (t ∷ ts) node) other ≡ temporary_in (t ∷ ts) other
    by true e go =
        ap (λ us. temporary_in us other) (dropped t ts node true e)
        ∙ sym (chosen t ts other false (ne_eqb t.node other (λ s. ne (sym s ∙ eqb-true t.node node e))))
    by false e go =
        ap (λ us. temporary_in us other) (dropped t ts node false e)
        ∙ ap (λ o. if nat_eq t.node other then Some t.slot else o) go

-- none is there any more
without_none : (ts : List Temporary) (node : ℕ) → AreOnce ts → temporary_in (without_temporary_in ts node) node ≡ None
without_none [] node once = refl
without_none (t ∷ ts) node once = by (nat_eq t.node node) refl (without_none ts node once.1)
  where
    by : (b : Bool) → nat_eq t.node node ≡ b → temporary_in (without_temporary_in ts node) node ≡ None
        → temporary_in (without_temporary_in (t ∷ ts) node) node ≡ None
    by true e go =
        ap (λ us. temporary_in us node) (dropped t ts node true e)
        ∙ ap (temporary_in ts) (sym (eqb-true t.node node e)) ∙ once.0
    by false e go = ap (λ us. temporary_in us node) (dropped t ts node false e) ∙ chosen t (without_temporary_in ts node) node false e ∙ go

without_once : (ts : List Temporary) (node : ℕ) → AreOnce ts → AreOnce (without_temporary_in ts node)
without_once [] node once = tt
without_once (t ∷ ts) node once = by (nat_eq t.node node) refl (without_once ts node once.1)
  where
    by : (b : Bool) → nat_eq t.node node ≡ b → AreOnce (without_temporary_in ts node) → AreOnce (without_temporary_in (t ∷ ts) node)
    by true e go = subst AreOnce (sym (dropped t ts node true e)) once.1
    by false e go =
        subst AreOnce (sym (dropped t ts node false e)) (
          without_other ts node t.node (λ s. true≢false (sym (eq-eqb t.node node s) ∙ e)) ∙ once.0,
          go,
        )

replaced : (t : Temporary) (ts : List Temporary) (node : ℕ) (slot : Slot) (b : Bool) → nat_eq t.node node ≡ b
    → with_temporary_in (t ∷ ts) node slot ≡ (if b then record t { slot = slot } ∷ ts else t ∷ with_temporary_in ts node slot)
replaced t ts node slot b e = ap (λ c. if c then record t { slot = slot } ∷ ts else t ∷ with_temporary_in ts node slot) e

some_none : {A : Type 0} (slot : Slot) → Some slot ≡ None → A
some_none slot z = absurd cc

-- where another value waits in place of one, none waits where none did
pub stays_none : (ts : List Temporary) (node : ℕ) (slot : Slot) (other : ℕ) → temporary_in ts other ≡ None
    → temporary_in (with_temporary_in ts node slot) other ≡ None
stays_none [] node slot other none = refl
stays_none (t ∷ ts) node slot other none =
    by (nat_eq t.node other) refl (nat_eq t.node node) refl none (λ r. stays_none ts node slot other r)
  where
    by : (b : Bool) → nat_eq t.node other ≡ b → (c : Bool) → nat_eq t.node node ≡ c → temporary_in (t ∷ ts) other ≡ None
        → (temporary_in ts other ≡ None → temporary_in (with_temporary_in ts node slot) other ≡ None)
        → temporary_in (with_temporary_in (t ∷ ts) node slot) other ≡ None
    by true e c z h more = some_none t.slot (sym (chosen t ts other true e) ∙ h)
    by false e true z h more =
        ap (λ us. temporary_in us other) (replaced t ts node slot true z)
        ∙ chosen (record t { slot = slot }) ts other false e ∙ (sym (chosen t ts other false e) ∙ h)
    by false e false z h more =
        ap (λ us. temporary_in us other) (replaced t ts node slot false z)
        ∙ chosen t (with_temporary_in ts node slot) other false e ∙ more (sym (chosen t ts other false e) ∙ h)

pub with_once : (ts : List Temporary) (node : ℕ) (slot : Slot) → AreOnce ts → AreOnce (with_temporary_in ts node slot)
with_once [] node slot once = tt
with_once (t ∷ ts) node slot once = by (nat_eq t.node node) refl (with_once ts node slot once.1)
  where
    by : (c : Bool) → nat_eq t.node node ≡ c → AreOnce (with_temporary_in ts node slot) → AreOnce (with_temporary_in (t ∷ ts) node slot)
    by true z go = subst AreOnce (sym (replaced t ts node slot true z)) (once.0, once.1)
    by false z go = subst AreOnce (sym (replaced t ts node slot false z)) (stays_none ts node slot t.node once.0, go)

-- ---- worlds in which the same waits

abbrev pub WaitAlike : World → World → Type 0
WaitAlike w w' = (level : ℕ) → (frame_at w' level).temporaries ≡ (frame_at w level).temporaries

pub waits_alike : (w w' : World) → WaitAlike w w' → (level node : ℕ) → temporary_at w' level node ≡ temporary_at w level node
waits_alike w w' same level node = ap (λ ts. temporary_in ts node) (same level)

pub once_alike : (w w' : World) → WaitAlike w w' → (level : ℕ) → AreOnce (frame_at w level).temporaries → AreOnce (frame_at w' level).temporaries
once_alike w w' same level once = subst AreOnce (sym (same level)) once

-- what is the same of a frame that is set in place of another one is the same at all levels
set_alike : {A : Type 0} (of : Frame → A) (fs : List Frame) (i : ℕ) (f : Frame) (level : ℕ) → of f ≡ of (frame_in (slice_get fs i))
    → of (frame_in (slice_get (slice_set fs i f) level)) ≡ of (frame_in (slice_get fs level))
set_alike of [] i f level e = refl
set_alike of (g ∷ fs) zero f zero e = e
set_alike of (g ∷ fs) zero f (suc level) e = refl
set_alike of (g ∷ fs) (suc i) f zero e = refl
set_alike of (g ∷ fs) (suc i) f (suc level) e = set_alike of fs i f level e

-- where a place gets something
pub slot_alike : (w : World) (level number : ℕ) (slot : Option Slot) → WaitAlike w (with_slot w level number slot)
slot_alike w level number slot other = set_alike (λ (f : Frame). f.temporaries) w.frames level (with_slot_of (frame_at w level) number slot) other refl

-- where other temporaries wait, places have what they had
pub slots_alike : (w : World) (level : ℕ) (ts : List Temporary) (other place : ℕ) → slot_at (with_temporaries w level ts) other place ≡ slot_at w other place
slots_alike w level ts other place =
    set_alike (λ (f : Frame). slot_of f place) w.frames level (record (frame_at w level) { temporaries = ts }) other refl

-- and frames are there
pub frame_waits : (w : World) (level : ℕ) (ts : List Temporary) (other first span : ℕ) → IsFrame w other first span
    → IsFrame (with_temporaries w level ts) other first span
frame_waits w level ts other first span f = by (cases_order other level)
  where
    new : Frame
    new = record (frame_at w level) { temporaries = ts }

    apart : other ≢ level → IsFrame (with_temporaries w level ts) other first span
    apart ne = record {
      frame = f.frame;
      there = get_other w.frames level new other ne ∙ f.there;
      begins = f.begins;
      slots = f.slots;
    }

    same : other ≡ level → IsFrame (with_temporaries w level ts) other first span
    same e =
        let here : slice_get w.frames level ≡ Some f.frame = subst (λ l. slice_get w.frames l ≡ Some f.frame) e f.there in
        let is : frame_at w level ≡ f.frame = ap frame_in here in
        record {
          frame = new;
          there = subst (λ l. slice_get (slice_set w.frames level new) l ≡ Some new) (sym e)
              (get_set w.frames level new (get_inside w.frames level f.frame here));
          begins = ap (λ (z : Frame). z.first) is ∙ f.begins;
          slots = ap (λ (z : Frame). length z.slots) is ∙ f.slots;
        }

    by : (other ≡ level) ⊎ ((other < level) ⊎ (level < other)) → IsFrame (with_temporaries w level ts) other first span
    by (inl e) = same e
    by (inr (inl h)) = apart (λ e. absurd (omega (arith, h, e)))
    by (inr (inr h)) = apart (λ e. absurd (omega (arith, h, e)))

module _ (w : World) (level : ℕ) (there : level < length w.frames) where
  pub frame_set : (ts : List Temporary) → frame_at (with_temporaries w level ts) level ≡ record (frame_at w level) { temporaries = ts }
  frame_set ts = ap frame_in (get_set w.frames level (record (frame_at w level) { temporaries = ts }) there)

  abbrev now : List Temporary
  now = (frame_at w level).temporaries

  -- ---- a value begins to wait

  module _ (node : ℕ) (slot : Slot) where
    abbrev one : World
    one = with_one_waiting w level node slot

    abbrev with_it : List Temporary
    with_it = record { node = node; slot = slot } ∷ without_temporary_in now node

    pub one_here : temporary_at one level node ≡ Some slot
    one_here =
        ap (λ (f : Frame). temporary_in f.temporaries node) (frame_set with_it)
        ∙ chosen (record { node = node; slot = slot }) (without_temporary_in now node) node true (eq-eqb node node refl)

    pub one_other : (other : ℕ) → other ≢ node → temporary_at one level other ≡ temporary_at w level other
    one_other other ne =
        ap (λ (f : Frame). temporary_in f.temporaries other) (frame_set with_it)
        ∙ chosen (record { node = node; slot = slot }) (without_temporary_in now node) other false (ne_eqb node other (λ e. ne (sym e)))
        ∙ without_other now node other ne

    pub one_once : AreOnce now → AreOnce (frame_at one level).temporaries
    one_once once =
        subst (λ (f : Frame). AreOnce f.temporaries) (sym (frame_set with_it)) (without_none now node once, without_once now node once)

    pub one_elsewhere : (other : ℕ) → other ≢ level → frame_at one other ≡ frame_at w other
    one_elsewhere other ne = ap frame_in (get_other w.frames level (record (frame_at w level) { temporaries = with_it }) other ne)

  -- ---- none waits any more

  module _ (node : ℕ) where
    abbrev none : World
    none = with_none_waiting w level node

    pub none_here : AreOnce now → temporary_at none level node ≡ None
    none_here once =
        ap (λ (f : Frame). temporary_in f.temporaries node) (frame_set (without_temporary_in now node)) ∙ without_none now node once

    pub none_other : (other : ℕ) → other ≢ node → temporary_at none level other ≡ temporary_at w level other
    none_other other ne =
        ap (λ (f : Frame). temporary_in f.temporaries other) (frame_set (without_temporary_in now node)) ∙ without_other now node other ne

    pub none_once : AreOnce now → AreOnce (frame_at none level).temporaries
    none_once once = subst (λ (f : Frame). AreOnce f.temporaries) (sym (frame_set (without_temporary_in now node))) (without_once now node once)

    pub none_elsewhere : (other : ℕ) → other ≢ level → frame_at none other ≡ frame_at w other
    none_elsewhere other ne =
        ap frame_in (get_other w.frames level (record (frame_at w level) { temporaries = without_temporary_in now node }) other ne)
