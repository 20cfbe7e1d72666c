-- Where values stand in a world, and that a change at one base leaves all others as they are.
use Rattle.std.proofs.Common.{◌≡◌, refl, sym, ap, subst, ◌∙◌, arith, ℕ, zero, suc, ◌-◌, ◌≤◌, Bool, true, false, if◌then◌else◌, List, [], ◌∷◌}
use Rattle.std.proofs.Common.{Option, Some, None, inl, inr, ◌⊎◌}
use Rattle.std.specs.Prelude.{slice_get, slice_set, nat_eq}
use Rattle.std.proofs.lemmas.Option.{none-some, same_Some}
use Rattle.std.proofs.lemmas.Bool.{eqb-true, eqb-false}
use Rattle.nim_meaning.specs.Values.{Value, Parts, Fixed, Slot, Holds, part, put_part, parts_of, text_in, Base, Standing, Waiting, InBlock, InHand, InException}
use Rattle.nim_meaning.specs.Values.{Made, Location}
use Rattle.nim_meaning.specs.Heap.{Contents, Characters, Elements, Block, flat, block_at, with_contents, refilled}
use Rattle.nim_meaning.specs.State.{Temporary, Frame, World, frame_in, frame_at, with_frame_at, with_slot_of, temporary_in, with_temporary_in}
use Rattle.nim_meaning.specs.State.{load, whole_at, stored, held, awaited, joined, slot_of, hand_value, contents_value, object_in, with_value_in, new_contents}
use Rattle.holders.specs.Owned.{IsBase, at_place, at_node, in_hand, in_row, in_text, in_program, whole, row_part, MayStore, MayBecome, in_rows, a_letter}

-- ---- lists

pub get_set : {A : Type 0} (xs : List A) (i : ℕ) (x y : A) → slice_get xs i ≡ Some x → slice_get (slice_set xs i y) i ≡ Some y
get_set [] i x y e = absurd (none-some x e)
get_set (z ∷ xs) zero x y e = refl
get_set (z ∷ xs) (suc i) x y e = get_set xs i x y e

pub get_other : {A : Type 0} (xs : List A) (i j : ℕ) (y : A) → (j ≡ i → ⊥) → slice_get (slice_set xs i y) j ≡ slice_get xs j
get_other [] i j y d = refl
get_other (z ∷ xs) zero zero y d = absurd (d refl)
get_other (z ∷ xs) zero (suc j) y d = refl
get_other (z ∷ xs) (suc i) zero y d = refl
get_other (z ∷ xs) (suc i) (suc j) y d = get_other xs i j y (λ e. d (ap suc e))

temporary_set : (ts : List Temporary) (node : ℕ) (old new : Slot) → temporary_in ts node ≡ Some old →
    temporary_in (with_temporary_in ts node new) node ≡ Some new
temporary_set [] node old new e = absurd (none-some old e)
temporary_set (t ∷ ts) node old new e = by (nat_eq t.node node) refl (λ e. temporary_set ts node old new e) e
  where
    by : (b : Bool) → nat_eq t.node node ≡ b → (temporary_in ts node ≡ Some old → temporary_in (with_temporary_in ts node new) node ≡ Some new) →
        (if b then Some t.slot else temporary_in ts node) ≡ Some old →
        temporary_in (if b then record t { slot = new } ∷ ts else t ∷ with_temporary_in ts node new) node ≡ Some new
    by true is rest e = ap (λ b. if b then Some new else temporary_in ts node) is
    by false is rest e = ap (λ b. if b then Some t.slot else temporary_in (with_temporary_in ts node new) node) is ∙ rest e

temporary_other : (ts : List Temporary) (node other : ℕ) (new : Slot) → (other ≡ node → ⊥) →
    temporary_in (with_temporary_in ts node new) other ≡ temporary_in ts other
temporary_other [] node other new d = refl
temporary_other (t ∷ ts) node other new d = by (nat_eq t.node node) refl (temporary_other ts node other new d)
  where
    not_it : (b : Bool) → nat_eq t.node node ≡ true → nat_eq t.node other ≡ b → b ≡ false
    not_it true is same = absurd (d (sym (eqb-true t.node other same) ∙ eqb-true t.node node is))
    not_it false is same = refl

    by : (b : Bool) → nat_eq t.node node ≡ b → temporary_in (with_temporary_in ts node new) other ≡ temporary_in ts other →
        temporary_in (if b then record t { slot = new } ∷ ts else t ∷ with_temporary_in ts node new) other ≡ temporary_in (t ∷ ts) other
    by true is rest =
        let no = not_it (nat_eq t.node other) is refl in
        ap (λ b. if b then Some new else temporary_in ts other) no ∙ sym (ap (λ b. if b then Some t.slot else temporary_in ts other) no)
    by false is rest = ap (λ (found : Option Slot). if nat_eq t.node other then Some t.slot else found) rest

pub whole_is : (world : World) (base : Base) (w : Value) → IsBase world base w → whole_at world base ≡ w
whole_is world (Standing level n) w (at_place frame e le f) =
    ap (λ (x : Option Frame). held (slot_of (frame_in x) n)) e ∙ ap (λ x. held (joined x)) f
whole_is world (Waiting level node) w (at_node frame e f) =
    ap (λ (x : Option Frame). awaited (temporary_in (frame_in x).temporaries node)) e ∙ ap awaited f
whole_is world (InHand i) w (in_hand e) = ap hand_value e
whole_is world (InBlock k) w (in_row block e f) = ap contents_value e ∙ ap object_in f
whole_is world (InBlock k) w (in_text block e f) = ap contents_value e ∙ ap object_in f
whole_is world (InException i) w h = elim h [ ]
whole_is world (Made v) _ in_program = refl

pub loaded : (world : World) (l : Location) (w : Value) → IsBase world l.base w → load world l ≡ part w l.path
loaded world l w h = ap (λ v. part v l.path) (whole_is world l.base w h)

-- ---- a value is stored

pub same_or_not : (m n : ℕ) → (m ≡ n) ⊎ (m ≡ n → ⊥)
same_or_not m n = by (nat_eq m n) refl
  where
    by : (b : Bool) → nat_eq m n ≡ b → (m ≡ n) ⊎ (m ≡ n → ⊥)
    by true e = inl (eqb-true m n e)
    by false e = inr (eqb-false m n e)

-- a frame is changed: what is there of it, and of another one
frame_there : (world : World) (level : ℕ) (frame : Frame) (change : Frame → Frame) → slice_get world.frames level ≡ Some frame →
    slice_get (with_frame_at world level (change (frame_at world level))).frames level ≡ Some (change frame)
frame_there world level frame change e =
    subst (λ (f : Frame). slice_get (slice_set world.frames level (change f)) level ≡ Some (change frame)) (sym (ap frame_in e))
    (get_set world.frames level frame (change frame) e)

frame_elsewhere : (world : World) (level other : ℕ) (new frame : Frame) → (other ≡ level → ⊥) → slice_get world.frames other ≡ Some frame →
    slice_get (with_frame_at world level new).frames other ≡ Some frame
frame_elsewhere world level other new frame d e = get_other world.frames level other new d ∙ e

pub block_position : (blocks : List (Option Block)) (k : ℕ) (block : Block) → flat (slice_get blocks k) ≡ Some block → slice_get blocks k ≡ Some (Some block)
block_position blocks k block e = by (slice_get blocks k) e
  where
    by : (found : Option (Option Block)) → flat found ≡ Some block → found ≡ Some (Some block)
    by None e = absurd (none-some block e)
    by (Some b) e = ap (λ (b : Option Block). Some b) e

pub block_filled : (world : World) (k : ℕ) (block : Block) (contents : Contents) → block_at world.heap k ≡ Some block →
    block_at (with_contents world.heap k contents) k ≡ Some (record block { contents = contents })
block_filled world k block contents e =
    ap flat (get_set world.heap.blocks k (Some block) (refilled (block_at world.heap k) contents) (block_position world.heap.blocks k block e))
    ∙ ap (λ (b : Option Block). refilled b contents) e

pub block_elsewhere : (world : World) (k other : ℕ) (contents : Contents) → (other ≡ k → ⊥) →
    block_at (with_contents world.heap k contents) other ≡ block_at world.heap other
block_elsewhere world k other contents d = ap flat (get_other world.heap.blocks k other (refilled (block_at world.heap k) contents) d)

module _ (world : World) where
  pub stored_there : {base : Base} {w : Value} {path : List ℕ} (v : Value) → IsBase world base w → MayBecome w path → MayStore base path →
      IsBase (stored world base (put_part w path v)) base (put_part w path v)
  stored_there {w = w} {path = path} v (at_place {level = level} {n = n} frame e le f) h may =
      let new = put_part w path v in
      at_place (with_slot_of frame n (Some (Holds new))) (frame_there world level frame (λ x. with_slot_of x n (Some (Holds new))) e) le
      (get_set frame.slots (n - frame.first) (Some (Holds w)) (Some (Holds new)) f)
  stored_there {w = w} {path = path} v (at_node {level = level} {node = node} frame e f) h may =
      let new = put_part w path v in
      at_node (record frame { temporaries = with_temporary_in frame.temporaries node (Holds new) })
      (frame_there world level frame (λ x. record x { temporaries = with_temporary_in x.temporaries node (Holds new) }) e)
      (temporary_set frame.temporaries node (Holds w) (Holds new) f)
  stored_there {w = w} {path = path} v (in_hand {i = i} e) h may = in_hand (get_set world.hand i w (put_part w path v) e)
  stored_there v (in_row {k = k} {all = all} block e f) (in_rows (row_part {i = i} {path = path} le h)) may =
      let new = put_part (Parts all) (i ∷ path) v in
      subst (λ (b : Option Block). IsBase (record world { heap = with_value_in world.heap k b new }) (InBlock k) new) (sym e)
      (subst (λ (c : Contents). IsBase (record world { heap = with_contents world.heap k (new_contents c new) }) (InBlock k) new) (sym f)
      (in_row (record block { contents = Elements (parts_of new) }) (block_filled world k block (Elements (parts_of new)) e) refl))
  stored_there v (in_text {k = k} {t = t} block e f) (a_letter {i = i} le) may =
      let new = put_part (Fixed t) (i ∷ []) v in
      subst (λ (b : Option Block). IsBase (record world { heap = with_value_in world.heap k b new }) (InBlock k) new) (sym e)
      (subst (λ (c : Contents). IsBase (record world { heap = with_contents world.heap k (new_contents c new) }) (InBlock k) new) (sym f)
      (in_text (record block { contents = Characters (text_in new) }) (block_filled world k block (Characters (text_in new)) e) refl))
  stored_there v (in_row block e f) (in_rows whole) may = elim may [ ]
  stored_there v (in_text block e f) (in_rows whole) may = elim may [ ]
  stored_there v in_program h may = elim may [ ]

  -- elsewhere all is as it was
  filled_elsewhere : {other : Base} {w : Value} (k : ℕ) (v : Value) → IsBase world other w → (other ≡ InBlock k → ⊥) → (found : Option Block) →
      IsBase (record world { heap = with_value_in world.heap k found v }) other w
  filled_elsewhere k v h d None = h
  filled_elsewhere k v (at_place frame e le f) d (Some there) = at_place frame e le f
  filled_elsewhere k v (at_node frame e f) d (Some there) = at_node frame e f
  filled_elsewhere k v (in_hand e) d (Some there) = in_hand e
  filled_elsewhere k v in_program d (Some there) = in_program
  filled_elsewhere k v (in_row {k = j} block e f) d (Some there) = in_row block (block_elsewhere world k j _ (λ q. d (ap InBlock q)) ∙ e) f
  filled_elsewhere k v (in_text {k = j} block e f) d (Some there) = in_text block (block_elsewhere world k j _ (λ q. d (ap InBlock q)) ∙ e) f

  pub stored_elsewhere : {base other : Base} {w0 w : Value} (v : Value) → (other ≡ base → ⊥) → IsBase world base w0 → IsBase world other w →
      IsBase (stored world base v) other w
  stored_elsewhere {w = w} v d (at_place {level = level} {n = n} frame e le f) (at_place {level = at} {n = m} there g lem h) = by (same_or_not at level)
    where
      by : (at ≡ level) ⊎ (at ≡ level → ⊥) → IsBase (stored world (Standing level n) v) (Standing at m) w
      by (inr apart) = at_place there (frame_elsewhere world level at _ there apart g) lem h
      by (inl same) =
          let is : there ≡ frame = same_Some there frame (sym g ∙ ap (λ l. slice_get world.frames l) same ∙ e) in
          let lem2 = subst (λ (x : Frame). x.first ≤ m) is lem in
          let h2 = subst (λ (x : Frame). slice_get x.slots (m - x.first) ≡ Some (Some (Holds w))) is h in
          let other_slot : m - frame.first ≡ n - frame.first → ⊥ =
          λ q. d (ap (λ l. Standing l m) same ∙ ap (λ i. Standing level i) (omega (arith, q, le, lem2))) in
          subst (λ l. IsBase (stored world (Standing level n) v) (Standing l m) w) (sym same)
          (at_place (with_slot_of frame n (Some (Holds v))) (frame_there world level frame (λ x. with_slot_of x n (Some (Holds v))) e) lem2
          (get_other frame.slots (n - frame.first) (m - frame.first) (Some (Holds v)) other_slot ∙ h2))
  stored_elsewhere {w = w} v d (at_place {level = level} {n = n} frame e le f) (at_node {level = at} {node = node} there g h) = by (same_or_not at level)
    where
      by : (at ≡ level) ⊎ (at ≡ level → ⊥) → IsBase (stored world (Standing level n) v) (Waiting at node) w
      by (inr apart) = at_node there (frame_elsewhere world level at _ there apart g) h
      by (inl same) =
          let is : there ≡ frame = same_Some there frame (sym g ∙ ap (λ l. slice_get world.frames l) same ∙ e) in
          subst (λ l. IsBase (stored world (Standing level n) v) (Waiting l node) w) (sym same)
          (at_node (with_slot_of frame n (Some (Holds v))) (frame_there world level frame (λ x. with_slot_of x n (Some (Holds v))) e)
          (subst (λ (x : Frame). temporary_in x.temporaries node ≡ Some (Holds w)) is h))
  stored_elsewhere v d (at_place frame g le f) (in_hand e) = in_hand e
  stored_elsewhere v d (at_place frame g le h) (in_row block e f) = in_row block e f
  stored_elsewhere v d (at_place frame g le h) (in_text block e f) = in_text block e f
  stored_elsewhere v d (at_place frame g le h) in_program = in_program
  stored_elsewhere {w = w} v d (at_node {level = level} {node = node} frame e f) (at_place {level = at} {n = m} there g lem h) = by (same_or_not at level)
    where
      new : Frame → Frame
      new x = record x { temporaries = with_temporary_in x.temporaries node (Holds v) }

      by : (at ≡ level) ⊎ (at ≡ level → ⊥) → IsBase (stored world (Waiting level node) v) (Standing at m) w
      by (inr apart) = at_place there (frame_elsewhere world level at _ there apart g) lem h
      by (inl same) =
          let is : there ≡ frame = same_Some there frame (sym g ∙ ap (λ l. slice_get world.frames l) same ∙ e) in
          subst (λ l. IsBase (stored world (Waiting level node) v) (Standing l m) w) (sym same)
          (at_place (new frame) (frame_there world level frame new e) (subst (λ (x : Frame). x.first ≤ m) is lem)
          (subst (λ (x : Frame). slice_get x.slots (m - x.first) ≡ Some (Some (Holds w))) is h))
  stored_elsewhere {w = w} v d (at_node {level = level} {node = node} frame e f) (at_node {level = at} {node = other} there g h) = by (same_or_not at level)
    where
      new : Frame → Frame
      new x = record x { temporaries = with_temporary_in x.temporaries node (Holds v) }

      by : (at ≡ level) ⊎ (at ≡ level → ⊥) → IsBase (stored world (Waiting level node) v) (Waiting at other) w
      by (inr apart) = at_node there (frame_elsewhere world level at _ there apart g) h
      by (inl same) =
          let is : there ≡ frame = same_Some there frame (sym g ∙ ap (λ l. slice_get world.frames l) same ∙ e) in
          let apart : other ≡ node → ⊥ = λ q. d (ap (λ l. Waiting l other) same ∙ ap (λ i. Waiting level i) q) in
          subst (λ l. IsBase (stored world (Waiting level node) v) (Waiting l other) w) (sym same)
          (at_node (new frame) (frame_there world level frame new e)
          (temporary_other frame.temporaries node other (Holds v) apart
          ∙ subst (λ (x : Frame). temporary_in x.temporaries other ≡ Some (Holds w)) is h))
  stored_elsewhere v d (at_node frame g f) (in_hand e) = in_hand e
  stored_elsewhere v d (at_node frame g h) (in_row block e f) = in_row block e f
  stored_elsewhere v d (at_node frame g h) (in_text block e f) = in_text block e f
  stored_elsewhere v d (at_node frame g h) in_program = in_program
  stored_elsewhere v d (in_hand g) (at_place frame e le f) = at_place frame e le f
  stored_elsewhere v d (in_hand g) (at_node frame e f) = at_node frame e f
  stored_elsewhere v d (in_hand {i = i} g) (in_hand {i = j} e) = in_hand (get_other world.hand i j v (λ q. d (ap InHand q)) ∙ e)
  stored_elsewhere v d (in_hand g) (in_row block e f) = in_row block e f
  stored_elsewhere v d (in_hand g) (in_text block e f) = in_text block e f
  stored_elsewhere v d (in_hand g) in_program = in_program
  stored_elsewhere v d in_program h = h
  stored_elsewhere v d (in_row {k = k} block e f) h = filled_elsewhere k v h d (block_at world.heap k)
  stored_elsewhere v d (in_text {k = k} block e f) h = filled_elsewhere k v h d (block_at world.heap k)
