-- What each change of the world does to the holders of a block.
use Rattle.std.proofs.Common.{◌≡◌, refl, sym, ap, subst, ◌∙◌, arith, ℕ, zero, suc, ◌+◌, ◌-◌, ◌<◌, Bool, true, false, if◌then◌else◌, List, [], ◌∷◌, ◌++◌, length}
use Rattle.std.proofs.Common.{Option, Some, None}
use Rattle.std.specs.Prelude.{slice_get, slice_set, take, nat_eq}
use Rattle.std.proofs.lemmas.Option.{none-some, same_Some}
use Rattle.nim_meaning.specs.Values.{Value, Values, Nil, More, Slot, nth, count, with_nth, part, put_part}
use Rattle.nim_meaning.specs.Heap.{Contents, Block, Heap, flat, block_at, without}
use Rattle.nim_meaning.specs.State.{Temporary, Frame, World, frame_in, with_frame_at, with_slot_of, with_slot, temporary_in, temporary_at, with_temporary_in}
use Rattle.nim_meaning.specs.State.{with_temporary, without_temporary_in, with_one_waiting, with_none_waiting, pushed, popped}
use Rattle.nim_meaning.specs.Deeds.{with_block, freed}
use Rattle.holders.specs.Owned.{HasPart, whole, row_part}
use Rattle.holders.specs.Holders.{held_by, held_in, held_at, held_waiting, held_in_contents, held_in_block, total, held_in_frame, held_in_world}

-- ---- sums

pub total_set : {A : Type 0} (f : A → ℕ) (xs : List A) (i : ℕ) (x y : A) → slice_get xs i ≡ Some x → total f (slice_set xs i y) + f x ≡ total f xs + f y
total_set f [] i x y e = absurd (none-some x e)
total_set f (z ∷ xs) zero x y e = omega (arith, ap f (same_Some z x e))
total_set f (z ∷ xs) (suc i) x y e = omega (arith, total_set f xs i x y e)

total_more : {A : Type 0} (f : A → ℕ) (xs : List A) (y : A) → total f (xs ++ y ∷ []) ≡ total f xs + f y
total_more f [] y = omega arith
total_more f (x ∷ xs) y = omega (arith, total_more f xs y)

length_more : {A : Type 0} (xs : List A) (y : A) → length (xs ++ y ∷ []) ≡ suc (length xs)
length_more [] y = refl
length_more (x ∷ xs) y = ap suc (length_more xs y)

first_ones : {A : Type 0} (xs : List A) (y : A) → take (length xs) (xs ++ y ∷ []) ≡ xs
first_ones [] y = refl
first_ones (x ∷ xs) y = ap (λ zs. x ∷ zs) (first_ones xs y)

pub before_last : {A : Type 0} (xs : List A) (y : A) → take (length (xs ++ y ∷ []) - 1) (xs ++ y ∷ []) ≡ xs
before_last xs y = ap (λ n. take n (xs ++ y ∷ [])) (omega (arith, length_more xs y)) ∙ first_ones xs y

total_before_last : {A : Type 0} (f : A → ℕ) (xs : List A) (y : A) → total f (take (length (xs ++ y ∷ []) - 1) (xs ++ y ∷ [])) ≡ total f xs
total_before_last f xs y = ap (total f) (before_last xs y)

-- ---- a part of a value

nth_set : (k : ℕ) (vs : Values) (i : ℕ) (new : Value) → i < count vs → held_in k (with_nth vs i new) + held_by k (nth vs i) ≡ held_in k vs + held_by k new
nth_set k Nil i new le = absurd (omega (arith, le))
nth_set k (More v vs) zero new le = omega arith
nth_set k (More v vs) (suc i) new le = omega (arith, nth_set k vs i new (omega (arith, le)))

pub part_put : (k : ℕ) {v : Value} {path : List ℕ} (new : Value) → HasPart v path →
    held_by k (put_part v path new) + held_by k (part v path) ≡ held_by k v + held_by k new
part_put k new whole = omega arith
part_put k new (row_part {all = all} {i = i} {path = path} le h) =
    omega (arith, nth_set k all i (put_part (nth all i) path new) le, part_put k new h)

-- ---- places

-- a place of an active call, and what its slot is
pub record HasSlot (world : World) (level n : ℕ) (slot : Option Slot) : Type 0 where
  pub frame : Frame
  pub active : slice_get world.frames level ≡ Some frame
  pub there : slice_get frame.slots (n - frame.first) ≡ Some slot

-- with another frame in place of one
with_frame_counts : (k : ℕ) (world : World) (level : ℕ) (old new : Frame) → slice_get world.frames level ≡ Some old →
    held_in_world k (with_frame_at world level new) + held_in_frame k old ≡ held_in_world k world + held_in_frame k new
with_frame_counts k world level old new e = omega (arith, total_set (held_in_frame k) world.frames level old new e)

pub slot_counts : (k : ℕ) (world : World) (level n : ℕ) (old new : Option Slot) → HasSlot world level n old →
    held_in_world k (with_slot world level n new) + held_at k old ≡ held_in_world k world + held_at k new
slot_counts k world level n old new h =
    subst (λ (f : Frame). held_in_world k (with_frame_at world level (with_slot_of f n new)) + held_at k old ≡ held_in_world k world + held_at k new)
    (sym (ap frame_in h.active))
    (omega (
      arith,
      with_frame_counts k world level h.frame (with_slot_of h.frame n new) h.active,
      total_set (held_at k) h.frame.slots (n - h.frame.first) old new h.there,
    ))

-- ---- temporaries

waiting_put : (k : ℕ) (ts : List Temporary) (node : ℕ) (old new : Slot) → temporary_in ts node ≡ Some old →
    total (held_waiting k) (with_temporary_in ts node new) + held_at k (Some old) ≡ total (held_waiting k) ts + held_at k (Some new)
waiting_put k [] node old new e = absurd (none-some old e)
waiting_put k (t ∷ ts) node old new e = by (nat_eq t.node node) (λ e. waiting_put k ts node old new e) e
  where
    by : (b : Bool) → (temporary_in ts node ≡ Some old →
        total (held_waiting k) (with_temporary_in ts node new) + held_at k (Some old) ≡ total (held_waiting k) ts + held_at k (Some new)) →
        (if b then Some t.slot else temporary_in ts node) ≡ Some old →
        total (held_waiting k) (if b then record t { slot = new } ∷ ts else t ∷ with_temporary_in ts node new) + held_at k (Some old)
        ≡ total (held_waiting k) (t ∷ ts) + held_at k (Some new)
    by true rest e = omega (arith, ap (λ (s : Slot). held_at k (Some s)) (same_Some t.slot old e))
    by false rest e = omega (arith, rest e)

waiting_less : (k : ℕ) (ts : List Temporary) (node : ℕ) →
    total (held_waiting k) (without_temporary_in ts node) + held_at k (temporary_in ts node) ≡ total (held_waiting k) ts
waiting_less k [] node = refl
waiting_less k (t ∷ ts) node = by (nat_eq t.node node) (waiting_less k ts node)
  where
    by : (b : Bool) →
        total (held_waiting k) (without_temporary_in ts node) + held_at k (temporary_in ts node) ≡ total (held_waiting k) ts →
        total (held_waiting k) (if b then ts else t ∷ without_temporary_in ts node)
        + held_at k (if b then Some t.slot else temporary_in ts node) ≡ total (held_waiting k) (t ∷ ts)
    by true rest = omega arith
    by false rest = omega (arith, rest)

-- an active call
pub record HasFrame (world : World) (level : ℕ) : Type 0 where
  pub frame : Frame
  pub active : slice_get world.frames level ≡ Some frame

pub temporary_counts : (k : ℕ) (world : World) (level node : ℕ) (old new : Slot) → HasFrame world level → temporary_at world level node ≡ Some old →
    held_in_world k (with_temporary world level node new) + held_at k (Some old) ≡ held_in_world k world + held_at k (Some new)
temporary_counts k world level node old new h e =
    let is = ap frame_in h.active in
    let there : temporary_in h.frame.temporaries node ≡ Some old = sym (ap (λ (f : Frame). temporary_in f.temporaries node) is) ∙ e in
    subst (λ (f : Frame). held_in_world k (with_frame_at world level (record f { temporaries = with_temporary_in f.temporaries node new })) + held_at k
    (Some old)
    ≡ held_in_world k world + held_at k (Some new)) (sym is)
    (omega (
      arith,
      with_frame_counts k world level h.frame (record h.frame { temporaries = with_temporary_in h.frame.temporaries node new }) h.active,
      waiting_put k h.frame.temporaries node old new there,
    ))

pub waits_counts : (k : ℕ) (world : World) (level node : ℕ) (new : Slot) → HasFrame world level →
    held_in_world k (with_one_waiting world level node new) + held_at k (temporary_at world level node) ≡ held_in_world k world + held_at k (Some new)
waits_counts k world level node new h =
    let more : Frame → Frame = λ f. record f { temporaries = record { node = node; slot = new } ∷ without_temporary_in f.temporaries node } in
    subst (λ (f : Frame). held_in_world k (with_frame_at world level (more f)) + held_at k (temporary_in f.temporaries node)
    ≡ held_in_world k world + held_at k (Some new)) (sym (ap frame_in h.active))
    (omega (arith, with_frame_counts k world level h.frame (more h.frame) h.active, waiting_less k h.frame.temporaries node))

pub leaves_counts : (k : ℕ) (world : World) (level node : ℕ) → HasFrame world level →
    held_in_world k (with_none_waiting world level node) + held_at k (temporary_at world level node) ≡ held_in_world k world
leaves_counts k world level node h =
    let less : Frame → Frame = λ f. record f { temporaries = without_temporary_in f.temporaries node } in
    subst (λ (f : Frame). held_in_world k (with_frame_at world level (less f)) + held_at k (temporary_in f.temporaries node) ≡ held_in_world k world)
    (sym (ap frame_in h.active))
    (omega (arith, with_frame_counts k world level h.frame (less h.frame) h.active, waiting_less k h.frame.temporaries node))

-- ---- the hand

pub pushed_counts : (k : ℕ) (world : World) (v : Value) → held_in_world k (pushed world v) ≡ held_in_world k world + held_by k v
pushed_counts k world v = omega (arith, total_more (held_by k) world.hand v)

pub popped_counts : (k : ℕ) (world : World) (vs : List Value) (v : Value) → world.hand ≡ vs ++ v ∷ [] →
    held_in_world k (popped world) + held_by k v ≡ held_in_world k world
popped_counts k world vs v e =
    let hand = total (held_by k) in
    let now : hand (take (length world.hand - 1) world.hand) ≡ hand vs =
    ap (λ (w : List Value). hand (take (length w - 1) w)) e ∙ total_before_last (held_by k) vs v in
    omega (arith, now, ap hand e, total_more (held_by k) vs v)

-- ---- blocks

pub taken_counts : (k class : ℕ) (contents : Contents) (world : World) →
    held_in_world k (with_block class contents world) ≡ held_in_world k world + held_in_contents k contents
taken_counts k class contents world = omega (arith, total_more (held_in_block k) world.heap.blocks (Some (record { class = class; contents = contents })))

-- a block that is there is one of the list
at_position : (blocks : List (Option Block)) (j : ℕ) (block : Block) → flat (slice_get blocks j) ≡ Some block → slice_get blocks j ≡ Some (Some block)
at_position blocks j block e = by (slice_get blocks j) e
  where
    by : (found : Option (Option Block)) → flat found ≡ Some block → found ≡ Some (Some block)
    by None e = absurd (none-some block e)
    by (Some b) e = ap (λ (b : Option Block). Some b) e

pub freed_counts : (k j : ℕ) (world : World) (block : Block) → block_at world.heap j ≡ Some block →
    held_in_world k (freed world j (block_at world.heap j)) + held_in_contents k block.contents ≡ held_in_world k world
freed_counts k j world block e =
    let now : World → Option Block → World = λ w b. freed w j b in
    omega (arith, ap (λ (b : Option Block). held_in_world k (freed world j b)) e, given_counts)
  where
    given_counts : held_in_world k (freed world j (Some block)) + held_in_contents k block.contents ≡ held_in_world k world
    given_counts =
        let heap = world.heap in
        subst (λ (b : Option Block). held_in_world k (record world { heap = without_it b }) + held_in_contents k block.contents ≡ held_in_world k world) (sym e)
        (omega (arith, total_set (held_in_block k) heap.blocks j (Some block) None (at_position heap.blocks j block e)))
      where
        without_it : Option Block → Heap
        without_it b = without world.heap j b
