-- What stands where in a world, and which blocks a value of a form has: its own, and those of what is in them.
use Rattle.std.specs.Prelude.{◌≡◌, ◌<◌, ◌≤◌, ℕ, suc, ◌-◌, false, List, [], ◌∷◌, ◌++◌, length, Some, None, slice_get}
use Rattle.nim_types.specs.Forms.{Form, plain, reference, block, elements, row, parts, resource, wrapped, Forms, no_forms, forms, of_some, hooked, hooked_any}
use Rattle.nim_meaning.specs.Values.{Value, Number, Handle, Parts, Fixed, Vacant, Values, nth, count, Holds, Stands, part, Base, Standing, Waiting, InBlock}
use Rattle.nim_meaning.specs.Values.{InHand}
use Rattle.nim_meaning.specs.Values.{Made, Location}
use Rattle.nim_meaning.specs.Heap.{Characters, Elements, Block, block_at}
use Rattle.nim_meaning.specs.Marks.{Member, Distinct}
use Rattle.nim_meaning.specs.State.{Temporary, Frame, World, temporary_in}
use Rattle.holders.specs.Holders.{held_by}

-- ---- bases

-- A value stands at a base: in a place or a temporary that holds it, under way, in a block, or in the program.
pub data IsBase (world : World) : Base → Value → Type 0 where
  at_place : {level n : ℕ} {v : Value} (frame : Frame) → slice_get world.frames level ≡ Some frame → frame.first ≤ n →
      slice_get frame.slots (n - frame.first) ≡ Some (Some (Holds v)) → IsBase world (Standing level n) v
  at_node : {level node : ℕ} {v : Value} (frame : Frame) → slice_get world.frames level ≡ Some frame →
      temporary_in frame.temporaries node ≡ Some (Holds v) → IsBase world (Waiting level node) v
  in_hand : {i : ℕ} {v : Value} → slice_get world.hand i ≡ Some v → IsBase world (InHand i) v
  in_row : {k : ℕ} {all : Values} (block : Block) → block_at world.heap k ≡ Some block → block.contents ≡ Elements all → IsBase world (InBlock k) (Parts all)
  in_text : {k : ℕ} {t : List ℕ} (block : Block) → block_at world.heap k ≡ Some block → block.contents ≡ Characters t → IsBase world (InBlock k) (Fixed t)
  in_program : {v : Value} → IsBase world (Made v) v

-- ---- locations

-- the parts of rows are reached along a path
pub data HasPart : Value → List ℕ → Type 0 where
  whole : {v : Value} → HasPart v []
  row_part : {all : Values} {i : ℕ} {path : List ℕ} → i < count all → HasPart (nth all i) path → HasPart (Parts all) (i ∷ path)

-- Where a value may be put: what stands in the program stays as it is, and in a block parts of the row alone are others.
pub data MayStore : Base → List ℕ → Type 0 where
  place_may : {level n : ℕ} {path : List ℕ} → MayStore (Standing level n) path
  node_may : {level node : ℕ} {path : List ℕ} → MayStore (Waiting level node) path
  hand_may : {i : ℕ} {path : List ℕ} → MayStore (InHand i) path
  block_may : {k i : ℕ} {path : List ℕ} → MayStore (InBlock k) (i ∷ path)

-- a location where something stands, in w, and may be another value
pub record At (world : World) (l : Location) (w : Value) : Type 0 where
  pub base : IsBase world l.base w
  pub part : HasPart w l.path
  pub may : MayStore l.base l.path

-- what can be read besides: a character of a text
pub data Reaches : Value → List ℕ → Type 0 where
  here : {v : Value} → Reaches v []
  in_part : {all : Values} {i : ℕ} {path : List ℕ} → i < count all → Reaches (nth all i) path → Reaches (Parts all) (i ∷ path)
  a_character : {t : List ℕ} {i : ℕ} → i < length t → Reaches (Fixed t) (i ∷ [])

-- and a location where v is read
pub record From (world : World) (from : Location) (u v : Value) : Type 0 where
  pub base : IsBase world from.base u
  pub there : Reaches u from.path
  pub is : part u from.path ≡ v

-- ---- values of forms

abbrev pub HasNone : Value → Type 0
HasNone v = (k : ℕ) → held_by k v ≡ 0

-- All of a value is there; or nothing stands at some of its parts, which aren't filled yet or have ended; or it is a constant, whose texts and
-- sequences have no blocks.
pub data Extent : Type 0 where
  Full : Extent
  Gaps : Extent
  Constant : Extent

mutual
  pub data Has (world : World) : Extent → Form → Value → (blocks : List ℕ) → Type 0 where
    a_number : {x : Extent} {z : _} → Has world x plain (Number z) []
    no_number : Has world Gaps plain Vacant []
    no_text : {x : Extent} → Has world x block (Handle 0 None) []
    a_text : {x : Extent} {n k : ℕ} {t : List ℕ} → length t ≡ n → IsBase world (InBlock k) (Fixed t) → Has world x block (Handle n (Some k)) (k ∷ [])
    gone_text : Has world Gaps block Vacant []
    constant_text : {t : List ℕ} → Has world Constant block (Fixed t) []
    no_sequence : {x : Extent} {f : Form} → Has world x (elements f) (Handle 0 None) []
    a_sequence : {x : Extent} {f : Form} {k : ℕ} {all : Values} {bs : List ℕ} → IsBase world (InBlock k) (Parts all) →
        HasEach world x f (count all) 0 all bs → Has world x (elements f) (Handle (count all) (Some k)) (k ∷ bs)
    gone_sequence : {f : Form} → Has world Gaps (elements f) Vacant []
    constant_sequence : {f : Form} {all : Values} {bs : List ℕ} → HasEach world Constant f (count all) 0 all bs →
        Has world Constant (elements f) (Parts all) bs
    a_row : {x : Extent} {n : ℕ} {f : Form} {all : Values} {bs : List ℕ} → count all ≡ n → HasEach world x f n 0 all bs →
        Has world x (row n f) (Parts all) bs
    gone_row : {n : ℕ} {f : Form} → of_some n (hooked f) ≡ false → Has world Gaps (row n f) Vacant []
    some_parts : {x : Extent} {fs : Forms} {all : Values} {bs : List ℕ} → HasAll world x fs 0 all bs → Has world x (parts fs) (Parts all) bs
    gone_parts : {fs : Forms} → hooked_any fs ≡ false → Has world Gaps (parts fs) Vacant []
    of_wrapped : {x : Extent} {f : Form} {v : Value} {bs : List ℕ} → Has world x f v bs → Has world x (wrapped f) v bs

  -- so many elements of one form, from a position on
  pub data HasEach (world : World) : Extent → Form → ℕ → ℕ → Values → List ℕ → Type 0 where
    none_more : {x : Extent} {f : Form} {i : ℕ} {all : Values} → HasEach world x f 0 i all []
    one_more : {x : Extent} {f : Form} {n i : ℕ} {all : Values} {bs cs : List ℕ} → i < count all → Has world x f (nth all i) bs →
        HasEach world x f n (suc i) all cs → HasEach world x f (suc n) i all (bs ++ cs)

  -- a part of each form, from a position on up to the last one
  pub data HasAll (world : World) : Extent → Forms → ℕ → Values → List ℕ → Type 0 where
    no_parts : {x : Extent} {i : ℕ} {all : Values} → count all ≡ i → HasAll world x no_forms i all []
    a_part : {x : Extent} {f : Form} {fs : Forms} {i : ℕ} {all : Values} {bs cs : List ℕ} → i < count all → Has world x f (nth all i) bs →
        HasAll world x fs (suc i) all cs → HasAll world x (forms f fs) i all (bs ++ cs)

-- the form of a part
pub data PartForm : Forms → ℕ → Form → Type 0 where
  first_part : {f : Form} {fs : Forms} → PartForm (forms f fs) 0 f
  next_part : {f g : Form} {fs : Forms} {d : ℕ} → PartForm fs d f → PartForm (forms g fs) (suc d) f

-- texts, sequences, and what has no hooks of its own
abbrev mutual
  pub HasBlocksAlone : Form → Type 0
  HasBlocksAlone plain = Unit {0}
  HasBlocksAlone reference = ⊥
  HasBlocksAlone block = Unit {0}
  HasBlocksAlone (elements f) = HasBlocksAlone f
  HasBlocksAlone (row n f) = HasBlocksAlone f
  HasBlocksAlone (parts fs) = HaveBlocksAlone fs
  HasBlocksAlone (resource fs) = ⊥
  HasBlocksAlone (wrapped f) = HasBlocksAlone f

  pub HaveBlocksAlone : Forms → Type 0
  HaveBlocksAlone no_forms = Unit {0}
  HaveBlocksAlone (forms f fs) = HasBlocksAlone f × HaveBlocksAlone fs

-- ---- what is left alone

-- a base is none of these blocks
abbrev pub Apart : Base → List ℕ → Type 0
Apart base bs = (k : ℕ) → base ≡ InBlock k → Member k bs → ⊥

-- all stays but what stands at a base and in these blocks
abbrev pub Elsewhere : (world after : World) → Base → List ℕ → Type 0
Elsewhere world after base bs =
    (b : Base) (x : Value) → IsBase world b x → (b ≡ base → ⊥) → ((k : ℕ) → b ≡ InBlock k → Member k bs → ⊥) → IsBase after b x

-- a place that is another name for a location
pub data IsName (frames : List Frame) : (level n : ℕ) → Location → Type 0 where
  a_name : {level n : ℕ} {l : Location} (frame : Frame) → slice_get frames level ≡ Some frame → frame.first ≤ n →
      slice_get frame.slots (n - frame.first) ≡ Some (Some (Stands l)) → IsName frames level n l

-- the nodes at which values wait, the last one first
abbrev pub nodes_in : List Temporary → List ℕ
nodes_in [] = []
nodes_in (t ∷ ts) = t.node ∷ nodes_in ts

-- a call is active, with its places, and what waits in it
pub record Active (frames : List Frame) (level first places : ℕ) (nodes : List ℕ) : Type 0 where
  pub frame : Frame
  pub there : slice_get frames level ≡ Some frame
  pub first_is : frame.first ≡ first
  pub places_are : length frame.slots ≡ places
  pub nodes_are : nodes_in frame.temporaries ≡ nodes

-- calls stay active, as many, and names stand for what they did
pub record FramesStay (frames after : List Frame) : Type 0 where
  pub names : (level n : ℕ) (l : Location) → IsName frames level n l → IsName after level n l
  pub active : (level first places : ℕ) (nodes : List ℕ) → Active frames level first places nodes → Active after level first places nodes
  pub count : length after ≡ length frames

-- and as many values are under way
pub record Stays (world after : World) : Type 0 where
  pub hand : length after.hand ≡ length world.hand
  pub frames : FramesStay world.frames after.frames

-- ---- what has its blocks by itself

-- The value v, of a form and all there, stands at a location, in w; no block is in it twice, and it doesn't stand in one of its own.
pub record Cell (f : Form) (l : Location) (w v : Value) (bs : List ℕ) (world : World) : Type 0 where
  pub at : At world l w
  pub is : part w l.path ≡ v
  pub has : Has world Full f v bs
  pub distinct : Distinct bs
  pub apart : Apart l.base bs

-- ---- and characters of texts, which may become others as well

pub data MayBecome : Value → List ℕ → Type 0 where
  in_rows : {w : Value} {path : List ℕ} → HasPart w path → MayBecome w path
  a_letter : {t : List ℕ} {i : ℕ} → i < length t → MayBecome (Fixed t) (i ∷ [])

-- a location where something stands, in w, and may be another value
pub record Lies (world : World) (l : Location) (w : Value) : Type 0 where
  pub base : IsBase world l.base w
  pub part : MayBecome w l.path
  pub may : MayStore l.base l.path

-- a cell, or a character
pub record Keeps (f : Form) (l : Location) (w v : Value) (bs : List ℕ) (world : World) : Type 0 where
  pub at : Lies world l w
  pub is : part w l.path ≡ v
  pub has : Has world Full f v bs
  pub distinct : Distinct bs
  pub apart : Apart l.base bs
