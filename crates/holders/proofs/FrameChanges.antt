-- What becomes of names, of calls and of what stands somewhere, where one frame is another one, where a call begins, and where it is over.
use Rattle.std.proofs.Common.{◌≡◌, refl, sym, ap, subst, ◌∙◌, arith, ℕ, zero, suc, ◌+◌, ◌-◌, ◌<◌, ◌≤◌, inl, inr, ◌⊎◌, List, [], ◌∷◌, length, Option, Some, None}
use Rattle.std.specs.Prelude.{slice_get, slice_set, take, nat_eq, if◌then◌else◌, Bool, true, false}
use Rattle.std.proofs.lemmas.Bool.{eqb-true, eq-eqb}
use Rattle.std.proofs.lemmas.Option.{same_Some}
use Rattle.nim_meaning.specs.Values.{Value, Slot, Holds, Stands, Base, Standing, Waiting, Location}
use Rattle.nim_meaning.specs.State.{Temporary, Frame, World, frame_in, with_frame_at, with_slot_of, temporary_in, without_temporary_in}
use Rattle.nim_meaning.specs.State.{with_frame, down_to}
use Rattle.nim_meaning.specs.Deeds.{Opens, Waits, Leaves, changed}
use Rattle.holders.specs.Owned.{IsBase, at_place, at_node, in_hand, in_row, in_text, in_program, IsName, a_name, nodes_in, Active}
use Rattle.holders.specs.Running.{IsBelow}
use Rattle.holders.specs.Groups.{without_node}
use Rattle.holders.proofs.Bases.{get_set, get_other, same_or_not}
use Rattle.holders.proofs.BaseChanges.{get_more}

-- ---- one frame is another one

module _ (world : World) (level : ℕ) (old new : Frame) (there : slice_get world.frames level ≡ Some old) (first : new.first ≡ old.first) where
  abbrev pub replaced_world : World
  replaced_world = record world { frames = slice_set world.frames level new }

  pub base_replaced : {b : Base} {x : Value} → IsBase world b x →
      ((n : ℕ) → b ≡ Standing level n → slice_get old.slots (n - old.first) ≡ Some (Some (Holds x)) →
      slice_get new.slots (n - old.first) ≡ Some (Some (Holds x))) →
      ((node : ℕ) → b ≡ Waiting level node → temporary_in old.temporaries node ≡ Some (Holds x) → temporary_in new.temporaries node ≡ Some (Holds x)) →
      IsBase replaced_world b x
  base_replaced (at_place {level = l} {n = n} {v = v} frame e le f) places nodes = by (same_or_not l level)
    where
      by : (l ≡ level) ⊎ (l ≡ level → ⊥) → IsBase replaced_world (Standing l n) v
      by (inr d) = at_place frame (get_other world.frames level l new d ∙ e) le f
      by (inl q) =
          let is : frame ≡ old = same_Some frame old (sym e ∙ ap (λ i. slice_get world.frames i) q ∙ there) in
          subst (λ i. IsBase replaced_world (Standing i n) v) (sym q)
          (at_place new (get_set world.frames level old new there) (subst (λ m. m ≤ n) (ap (λ (x : Frame). x.first) is ∙ sym first) le)
          (ap (λ m. slice_get new.slots (n - m)) first
          ∙ places n (ap (λ i. Standing i n) q) (subst (λ (x : Frame). slice_get x.slots (n - x.first) ≡ Some (Some (Holds v))) is f)))
  base_replaced (at_node {level = l} {node = node} {v = v} frame e f) places nodes = by (same_or_not l level)
    where
      by : (l ≡ level) ⊎ (l ≡ level → ⊥) → IsBase replaced_world (Waiting l node) v
      by (inr d) = at_node frame (get_other world.frames level l new d ∙ e) f
      by (inl q) =
          let is : frame ≡ old = same_Some frame old (sym e ∙ ap (λ i. slice_get world.frames i) q ∙ there) in
          subst (λ i. IsBase replaced_world (Waiting i node) v) (sym q)
          (at_node new (get_set world.frames level old new there)
          (nodes node (ap (λ i. Waiting i node) q) (subst (λ (x : Frame). temporary_in x.temporaries node ≡ Some (Holds v)) is f)))
  base_replaced (in_hand e) places nodes = in_hand e
  base_replaced (in_row b e f) places nodes = in_row b e f
  base_replaced (in_text b e f) places nodes = in_text b e f
  base_replaced in_program places nodes = in_program

  pub name_replaced : {l n : ℕ} {m : Location} → IsName world.frames l n m →
      (l ≡ level → slice_get old.slots (n - old.first) ≡ Some (Some (Stands m)) → slice_get new.slots (n - old.first) ≡ Some (Some (Stands m))) →
      IsName replaced_world.frames l n m
  name_replaced {l} {n} {m} (a_name frame e le g) names = by (same_or_not l level)
    where
      by : (l ≡ level) ⊎ (l ≡ level → ⊥) → IsName replaced_world.frames l n m
      by (inr d) = a_name frame (get_other world.frames level l new d ∙ e) le g
      by (inl q) =
          let is : frame ≡ old = same_Some frame old (sym e ∙ ap (λ i. slice_get world.frames i) q ∙ there) in
          subst (λ i. IsName replaced_world.frames i n m) (sym q)
          (a_name new (get_set world.frames level old new there) (subst (λ m. m ≤ n) (ap (λ (x : Frame). x.first) is ∙ sym first) le)
          (ap (λ m. slice_get new.slots (n - m)) first
          ∙ names q (subst (λ (x : Frame). slice_get x.slots (n - x.first) ≡ Some (Some (Stands m))) is g)))

  pub active_elsewhere : {l f p : ℕ} {ns : List ℕ} → Active world.frames l f p ns → (l ≡ level → ⊥) → Active replaced_world.frames l f p ns
  active_elsewhere {l} h d = record {
    frame = h.frame;
    there = get_other world.frames level l new d ∙ h.there;
    first_is = h.first_is;
    places_are = h.places_are;
    nodes_are = h.nodes_are;
  }

  pub active_here : Active replaced_world.frames level new.first (length new.slots) (nodes_in new.temporaries)
  active_here = record {
    frame = new;
    there = get_set world.frames level old new there;
    first_is = refl;
    places_are = refl;
    nodes_are = refl;
  }

pub length_of_set : {A : Type 0} (xs : List A) (i : ℕ) (y : A) → length (slice_set xs i y) ≡ length xs
length_of_set [] i y = refl
length_of_set (x ∷ xs) zero y = refl
length_of_set (x ∷ xs) (suc i) y = ap suc (length_of_set xs i y)

-- ---- a place is filled

get_less : {A : Type 0} (xs : List A) (i : ℕ) (y : A) → i < length xs → slice_get (slice_set xs i y) i ≡ Some y
get_less [] i y le = absurd (omega (arith, le))
get_less (x ∷ xs) zero y le = refl
get_less (x ∷ xs) (suc i) y le = get_less xs i y (omega (arith, le))

-- a call that is active, by its frame
pub record Filled (world after : World) (level n : ℕ) (slot : Slot) : Type 0 where
  pub elsewhere : (b : Base) (x : Value) → IsBase world b x → (b ≡ Standing level n → ⊥) → IsBase after b x
  pub names : (l m : ℕ) (to : Location) → IsName world.frames l m to → (l ≡ level → m ≡ n → ⊥) → IsName after.frames l m to
  pub active : (l first places : ℕ) (nodes : List ℕ) → Active world.frames l first places nodes → Active after.frames l first places nodes
  pub count : length after.frames ≡ length world.frames
  pub holds : (v : Value) → slot ≡ Holds v → IsBase after (Standing level n) v
  pub stands : (to : Location) → slot ≡ Stands to → IsName after.frames level n to

pub place_opened : (world : World) (level first places n : ℕ) (nodes : List ℕ) (slot : Slot) → Active world.frames level first places nodes → first ≤ n →
    n < first + places → Filled world (changed (Opens level n slot) world) level n slot
place_opened world level first places n nodes slot a le less =
    subst (λ (x : Frame). Filled world (with_frame_at world level (with_slot_of x n (Some slot))) level n slot) (sym (ap frame_in a.there)) made
  where
    frame : Frame
    frame = a.frame

    new : Frame
    new = with_slot_of frame n (Some slot)

    after : World
    after = record world { frames = slice_set world.frames level new }

    below : frame.first ≤ n
    below = omega (arith, le, a.first_is)

    inside : n - frame.first < length frame.slots
    inside = omega (arith, le, less, a.first_is, a.places_are)

    other : (m : ℕ) → frame.first ≤ m → m - frame.first ≡ n - frame.first → m ≡ n
    other m lem e = omega (arith, lem, e, below)

    names : (l m : ℕ) (to : Location) → IsName world.frames l m to → (l ≡ level → m ≡ n → ⊥) → IsName after.frames l m to
    names l m to name d = by name
      where
        by : IsName world.frames l m to → IsName after.frames l m to
        by (a_name x e lem g) = name_replaced world level frame new a.there refl (a_name x e lem g)
            (λ q h. get_other frame.slots (n - frame.first) (m - frame.first)
            (Some slot) (λ z. d q (other m (subst (λ (y : Frame). y.first ≤ m) (same_Some x frame (sym e ∙ ap (λ i. slice_get world.frames i) q ∙ a.there)) lem)
            z)) ∙ h)

    elsewhere : (b : Base) (x : Value) → IsBase world b x → (b ≡ Standing level n → ⊥) → IsBase after b x
    elsewhere b x h d = base_replaced world level frame new a.there refl h (λ m q g. kept b x m h q g d) (λ node q g. g)
      where
        kept : (b : Base) (x : Value) (m : ℕ) → IsBase world b x → b ≡ Standing level m → slice_get frame.slots (m - frame.first) ≡ Some (Some (Holds x)) →
            (b ≡ Standing level n → ⊥) → slice_get new.slots (m - frame.first) ≡ Some (Some (Holds x))
        kept b x m h q g d = get_other frame.slots (n - frame.first) (m - frame.first) (Some slot)
            (λ z. d (q ∙ ap (λ i. Standing level i) (other m (first_below (subst (λ c. IsBase world c x) q h)) z))) ∙ g
          where
            first_below : IsBase world (Standing level m) x → frame.first ≤ m
            first_below (at_place y e lem f) = subst (λ (z : Frame). z.first ≤ m) (same_Some y frame (sym e ∙ a.there)) lem

    active : (l f p : ℕ) (ns : List ℕ) → Active world.frames l f p ns → Active after.frames l f p ns
    active l f p ns h = by (same_or_not l level)
      where
        by : (l ≡ level) ⊎ (l ≡ level → ⊥) → Active after.frames l f p ns
        by (inr d) = active_elsewhere world level frame new a.there refl h d
        by (inl q) =
            let is : h.frame ≡ frame = same_Some h.frame frame (sym h.there ∙ ap (λ i. slice_get world.frames i) q ∙ a.there) in
            record {
              frame = new;
              there = ap (λ i. slice_get after.frames i) q ∙ get_set world.frames level frame new a.there;
              first_is = sym (ap (λ (x : Frame). x.first) is) ∙ h.first_is;
              places_are = length_of_set frame.slots (n - frame.first) (Some slot) ∙ sym (ap (λ (x : Frame). length x.slots) is) ∙ h.places_are;
              nodes_are = sym (ap (λ (x : Frame). nodes_in x.temporaries) is) ∙ h.nodes_are;
            }

    made : Filled world after level n slot
    made = record {
      elsewhere = elsewhere;
      names = names;
      active = active;
      count = length_of_set world.frames level new;
      holds = λ v q. at_place new (get_set world.frames level frame new a.there) below
          (get_less frame.slots (n - frame.first) (Some slot) inside ∙ ap (λ (s : Slot). Some (Some s)) q);
      stands = λ to q. a_name new (get_set world.frames level frame new a.there) below
          (get_less frame.slots (n - frame.first) (Some slot) inside ∙ ap (λ (s : Slot). Some (Some s)) q);
    }

-- ---- a value waits, and does no more

without_other : (ts : List Temporary) (node other : ℕ) → (other ≡ node → ⊥) → temporary_in (without_temporary_in ts node) other ≡ temporary_in ts other
without_other [] node other d = refl
without_other (t ∷ ts) node other d = by (nat_eq t.node node) refl (without_other ts node other d)
  where
    not_it : (b : Bool) → nat_eq t.node node ≡ true → nat_eq t.node other ≡ b → b ≡ false
    not_it true is same = absurd (d (sym (eqb-true t.node other same) ∙ eqb-true t.node node is))
    not_it false is same = refl

    by : (b : Bool) → nat_eq t.node node ≡ b → temporary_in (without_temporary_in ts node) other ≡ temporary_in ts other →
        temporary_in (if b then ts else t ∷ without_temporary_in ts node) other ≡ temporary_in (t ∷ ts) other
    by true is rest = sym (ap (λ b. if b then Some t.slot else temporary_in ts other) (not_it (nat_eq t.node other) is refl))
    by false is rest = ap (λ (found : Option Slot). if nat_eq t.node other then Some t.slot else found) rest

nodes_without : (ts : List Temporary) (node : ℕ) → nodes_in (without_temporary_in ts node) ≡ without_node (nodes_in ts) node
nodes_without [] node = refl
nodes_without (t ∷ ts) node = by (nat_eq t.node node) (nodes_without ts node)
  where
    by : (b : Bool) → nodes_in (without_temporary_in ts node) ≡ without_node (nodes_in ts) node →
        nodes_in (if b then ts else t ∷ without_temporary_in ts node) ≡ (if b then nodes_in ts else t.node ∷ without_node (nodes_in ts) node)
    by true rest = refl
    by false rest = ap (λ ns. t.node ∷ ns) rest

-- what a change of the values that wait leaves
pub record NodesChange (world after : World) (level node : ℕ) (now : List ℕ → List ℕ) : Type 0 where
  pub elsewhere : (b : Base) (x : Value) → IsBase world b x → (b ≡ Waiting level node → ⊥) → IsBase after b x
  pub names : (l m : ℕ) (to : Location) → IsName world.frames l m to → IsName after.frames l m to
  pub active : (l first places : ℕ) (nodes : List ℕ) → Active world.frames l first places nodes → (l ≡ level → ⊥) → Active after.frames l first places nodes
  pub here : (first places : ℕ) (nodes : List ℕ) → Active world.frames level first places nodes → Active after.frames level first places (now nodes)
  pub count : length after.frames ≡ length world.frames

module _ (world : World) (level : ℕ) (frame : Frame) (there : slice_get world.frames level ≡ Some frame) (ts : List Temporary) (node : ℕ)
    (others : (other : ℕ) → (other ≡ node → ⊥) → temporary_in ts other ≡ temporary_in frame.temporaries other) (now : List ℕ → List ℕ)
    (nodes_now : nodes_in ts ≡ now (nodes_in frame.temporaries)) where
  abbrev with_these : Frame
  with_these = record frame { temporaries = ts }

  temporaries_changed : NodesChange world (record world { frames = slice_set world.frames level with_these }) level node now
  temporaries_changed = record {
    elsewhere = λ b x h d. base_replaced world level frame with_these there refl h (λ n q g. g)
        (λ other q g. others other (λ z. d (q ∙ ap (λ i. Waiting level i) z)) ∙ g);
    names = λ l m to h. name_replaced world level frame with_these there refl h (λ q g. g);
    active = λ l f p ns h d. active_elsewhere world level frame with_these there refl h d;
    here = λ f p ns h. here_too f p ns h;
    count = length_of_set world.frames level with_these;
  }
    where
      here_too : (f p : ℕ) (ns : List ℕ) → Active world.frames level f p ns → Active (slice_set world.frames level with_these) level f p (now ns)
      here_too f p ns h =
          let is : h.frame ≡ frame = same_Some h.frame frame (sym h.there ∙ there) in
          record {
            frame = with_these;
            there = get_set world.frames level frame with_these there;
            first_is = sym (ap (λ (x : Frame). x.first) is) ∙ h.first_is;
            places_are = sym (ap (λ (x : Frame). length x.slots) is) ∙ h.places_are;
            nodes_are = nodes_now ∙ ap now (sym (ap (λ (x : Frame). nodes_in x.temporaries) is) ∙ h.nodes_are);
          }

pub record Waits_now (world after : World) (level node : ℕ) (slot : Slot) : Type 0 where
  pub change : NodesChange world after level node (λ ns. node ∷ without_node ns node)
  pub holds : (v : Value) → slot ≡ Holds v → IsBase after (Waiting level node) v

first_there : (node : ℕ) (slot : Slot) (ts : List Temporary) → temporary_in (record { node = node; slot = slot } ∷ ts) node ≡ Some slot
first_there node slot ts = ap (λ b. if b then Some slot else temporary_in ts node) (eq-eqb node node refl)

first_other : (node other : ℕ) (slot : Slot) (ts : List Temporary) → (other ≡ node → ⊥) →
    temporary_in (record { node = node; slot = slot } ∷ ts) other ≡ temporary_in ts other
first_other node other slot ts d = by (nat_eq node other) refl
  where
    by : (b : Bool) → nat_eq node other ≡ b → (if b then Some slot else temporary_in ts other) ≡ temporary_in ts other
    by true e = absurd (d (sym (eqb-true node other e)))
    by false e = refl

pub value_waits : (world : World) (level first places node : ℕ) (nodes : List ℕ) (slot : Slot) → Active world.frames level first places nodes →
    Waits_now world (changed (Waits level node slot) world) level node slot
value_waits world level first places node nodes slot a =
    let frame = a.frame in
    let ts : List Temporary = record { node = node; slot = slot } ∷ without_temporary_in frame.temporaries node in
    subst (λ (x : Frame). Waits_now world (with_frame_at world level (record x {
      temporaries =
          record { node = node; slot = slot } ∷ without_temporary_in x.temporaries node;
    })) level node slot) (sym (ap frame_in a.there)) (record {
      change = temporaries_changed world level frame a.there ts node
          (λ other d. first_other node other slot (without_temporary_in frame.temporaries node) d ∙ without_other frame.temporaries node other d)
          (λ ns. node ∷ without_node ns node) (ap (λ ns. node ∷ ns) (nodes_without frame.temporaries node));
      holds = λ v q. at_node (record frame { temporaries = ts }) (get_set world.frames level frame (record frame { temporaries = ts }) a.there)
          (first_there node slot (without_temporary_in frame.temporaries node) ∙ ap (λ (s : Slot). Some s) q);
    })

pub value_leaves : (world : World) (level first places node : ℕ) (nodes : List ℕ) → Active world.frames level first places nodes →
    NodesChange world (changed (Leaves level node) world) level node (λ ns. without_node ns node)
value_leaves world level first places node nodes a =
    let frame = a.frame in
    subst (λ (x : Frame). NodesChange world (with_frame_at world level (record x { temporaries = without_temporary_in x.temporaries node })) level node
    (λ ns. without_node ns node)) (sym (ap frame_in a.there))
    (temporaries_changed world level frame a.there (without_temporary_in frame.temporaries node) node
    (λ other d. without_other frame.temporaries node other d) (λ ns. without_node ns node) (nodes_without frame.temporaries node))

-- what doesn't wait
pub none_waits : (ts : List Temporary) (node : ℕ) → ((n : ℕ) → Rattle.nim_meaning.specs.Marks.Member n (nodes_in ts) → n ≡ node → ⊥) →
    temporary_in ts node ≡ None
none_waits [] node h = refl
none_waits (t ∷ ts) node h = by (nat_eq t.node node) refl (none_waits ts node (λ n m. h n (inr m)))
  where
    by : (b : Bool) → nat_eq t.node node ≡ b → temporary_in ts node ≡ None → (if b then Some t.slot else temporary_in ts node) ≡ None
    by true e rest = absurd (h t.node (inl refl) (eqb-true t.node node e))
    by false e rest = rest

-- ---- a call begins, and is over

pub frame_more : {world : World} {b : Base} {x : Value} (frame : Frame) → IsBase world b x → IsBase (with_frame world frame) b x
frame_more {world} frame (at_place {level = level} f e le g) = at_place f (get_more world.frames frame level f e) le g
frame_more {world} frame (at_node {level = level} f e g) = at_node f (get_more world.frames frame level f e) g
frame_more frame (in_hand e) = in_hand e
frame_more frame (in_row b e f) = in_row b e f
frame_more frame (in_text b e f) = in_text b e f
frame_more frame in_program = in_program

pub name_more : (world : World) {l n : ℕ} {to : Location} (frame : Frame) → IsName world.frames l n to → IsName (with_frame world frame).frames l n to
name_more world {l} frame (a_name f e le g) = a_name f (get_more world.frames frame l f e) le g

pub active_more : (world : World) {l first places : ℕ} {nodes : List ℕ} (frame : Frame) → Active world.frames l first places nodes →
    Active (with_frame world frame).frames l first places nodes
active_more world {l} frame a = record {
  frame = a.frame;
  there = get_more world.frames frame l a.frame a.there;
  first_is = a.first_is;
  places_are = a.places_are;
  nodes_are = a.nodes_are;
}

get_taken : {A : Type 0} (xs : List A) (n i : ℕ) → i < n → slice_get (take n xs) i ≡ slice_get xs i
get_taken [] zero i le = absurd (omega (arith, le))
get_taken [] (suc n) i le = refl
get_taken (x ∷ xs) zero i le = absurd (omega (arith, le))
get_taken (x ∷ xs) (suc n) zero le = refl
get_taken (x ∷ xs) (suc n) (suc i) le = get_taken xs n i (omega (arith, le))

pub base_below_level : {world : World} {b : Base} {x : Value} (level : ℕ) → IsBelow level b → IsBase world b x → IsBase (down_to level world) b x
base_below_level {world} level below (at_place {level = l} f e le g) = at_place f (get_taken world.frames level l below ∙ e) le g
base_below_level {world} level below (at_node {level = l} f e g) = at_node f (get_taken world.frames level l below ∙ e) g
base_below_level level below (in_hand e) = in_hand e
base_below_level level below (in_row b e f) = in_row b e f
base_below_level level below (in_text b e f) = in_text b e f
base_below_level level below in_program = in_program

pub name_below_level : (world : World) {l n : ℕ} {to : Location} (level : ℕ) → l < level → IsName world.frames l n to →
    IsName (down_to level world).frames l n to
name_below_level world {l} level below (a_name f e le g) = a_name f (get_taken world.frames level l below ∙ e) le g

pub active_below_level : (world : World) {l first places : ℕ} {nodes : List ℕ} (level : ℕ) → l < level → Active world.frames l first places nodes →
    Active (down_to level world).frames l first places nodes
active_below_level world {l} level below a = record {
  frame = a.frame;
  there = get_taken world.frames level l below ∙ a.there;
  first_is = a.first_is;
  places_are = a.places_are;
  nodes_are = a.nodes_are;
}
