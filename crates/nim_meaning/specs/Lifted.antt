-- What is done with values that have blocks, by their forms: they are copied, assigned and ended, part by part.
use Rattle.std.specs.Prelude.{ℕ, zero, suc, ◌+◌, ◌*◌, Bool, true, false, nat_le, List, length, Option, Some, None}
use Rattle.nim_types.specs.Forms.{Form, plain, reference, block, elements, row, parts, resource, wrapped, Forms, no_forms, forms, of_some, hooked, hooked_any}
use Rattle.nim_types.specs.Forms.{size}
use Rattle.nim_meaning.specs.Values.{Value, Handle, Vacant, nothing, Values, count, length_of, block_of, is_handle, repeated, vacant}
use Rattle.nim_meaning.specs.Values.{bytes}
use Rattle.nim_meaning.specs.Values.{InHand, Waiting, Location, deeper, item_of, at_base, Slot, Holds, Stands, Lends, Operand, Given, At}
use Rattle.nim_meaning.specs.Heap.{Contents, Characters, Elements, Block, class_for, block_at}
use Rattle.nim_meaning.specs.State.{World, text_of, temporary_at}
use Rattle.nim_meaning.specs.Deeds.{Deed, Takes, Leaves, Pushes, Pops, does, give, ◌>>=◌, ◌>>◌, branch, costs, looks, unless_gone, sees, takes, sets, frees}
use Rattle.nim_meaning.specs.Deeds.{refills}

-- ---- part by part

-- What is done with what has no blocks, with a text, and with a sequence, with whose elements the same is done; from one location to another.
pub record Walk : Type 0 where
  pub plainly : (to from : Location) → Deed (Unit {0})
  pub text : (to from : Location) → Deed (Unit {0})
  pub sequence : (of : Form) → (element : (to from : Location) → Deed (Unit {0})) → (to from : Location) → Deed (Unit {0})

-- so many parts, from one on
abbrev pub each_part : (count : ℕ) → (act : (to from : Location) → Deed (Unit {0})) → (part : ℕ) → (to from : Location) → Deed (Unit {0})
each_part zero act i to from = give tt
each_part (suc n) act i to from = act (deeper to i) (deeper from i) >> each_part n act (suc i) to from

-- Fields and elements of rows in order. Refs, and objects with hooks of their own, come with these.
abbrev mutual
  pub walk : Walk → Form → (to from : Location) → Deed (Unit {0})
  walk w plain to from = w.plainly to from
  walk w reference to from = give tt
  walk w block to from = w.text to from
  walk w (elements f) to from = w.sequence f (walk w f) to from
  walk w (row n f) to from = branch (of_some n (hooked f)) (each_part n (walk w f) 0 to from) (w.plainly to from)
  walk w (parts fs) to from = branch (hooked_any fs) (walk_all w fs 0 to from) (w.plainly to from)
  walk w (resource fs) to from = give tt
  walk w (wrapped f) to from = walk w f to from

  pub walk_all : Walk → Forms → (part : ℕ) → (to from : Location) → Deed (Unit {0})
  walk_all w no_forms i to from = give tt
  walk_all w (forms f fs) i to from = walk w f (deeper to i) (deeper from i) >> walk_all w fs (suc i) to from

-- so many elements, from one on, of the values at two locations
abbrev pub each_element : (count : ℕ) → (act : (to from : Location) → Deed (Unit {0})) → (element : ℕ) → (old : Value) → (to : Location) → (new : Value) →
    (from : Location) → Deed (Unit {0})
each_element zero act i v to w from = give tt
each_element (suc n) act i v to w from = act (item_of v to i) (item_of w from i) >> each_element n act (suc i) v to w from

-- ---- blocks

-- A text or a sequence of so many elements, which take so many bytes; without any it has no block.
abbrev pub fresh : (length bytes : ℕ) → Contents → Deed Value
fresh zero bytes contents = give (Handle 0 None)
fresh (suc n) bytes contents =
    costs bytes (looks (λ world. Takes (class_for bytes world.heap.classes) contents (λ k. give (Handle (suc n) (Some k)))))

abbrev pub fresh_text : List ℕ → Deed Value
fresh_text text = fresh (length text) (length text) (Characters text)

abbrev pub fresh_sequence : (of : Form) → Values → Deed Value
fresh_sequence of vs = fresh (count vs) (count vs * size of) (Elements vs)

-- whether so many bytes fit into a block
abbrev pub holds_class : Option Block → (class : ℕ) → Bool
holds_class None class = false
holds_class (Some b) class = nat_le class b.class

abbrev pub has_place : World → Option ℕ → (bytes : ℕ) → Bool
has_place world k zero = true
has_place world None (suc n) = false
has_place world (Some k) (suc n) = holds_class (block_at world.heap k) (class_for (suc n) world.heap.classes)

-- The text or sequence at a location gets other contents, of so many elements and bytes: in its block, or in the smallest one that holds them, and then
-- the present one is given back.
abbrev pub resized : (length bytes : ℕ) → Contents → Location → Deed (Unit {0})
resized n bytes contents location = sees location (λ world v. unless_gone (is_handle v) (branch (has_place world (block_of v) bytes)
    (refills (block_of v) contents >> sets location (Handle n (block_of v)))
    (fresh n bytes contents >>= (λ new. sets location new >> frees (block_of v)))))

-- ---- ends

-- What is left where a text or a sequence was, whose block is given back. A text that nobody owns can't end.
abbrev pub left_vacant : (bytes : ℕ) → Location → Value → Deed (Unit {0})
left_vacant bytes location v = unless_gone (is_handle v) (costs bytes (sets location Vacant >> frees (block_of v)))

abbrev pub ending : Walk
ending = record {
  plainly = λ to from. give tt;
  text = λ to from. sees to (λ world v. left_vacant (8 + length_of v) to v);
  sequence = λ of element to from.
      sees to (λ world v. each_element (length_of v) element 0 v to v to >> left_vacant (8 + length_of v * size of) to v);
}

-- The value at a location ends: its parts and elements in order, and then the block is given back.
abbrev pub ends_at : Form → Location → Deed (Unit {0})
ends_at f location = walk ending f location location

-- ---- values under way

abbrev pub in_hand : World → Location
in_hand world = at_base (InHand (length world.hand))

-- a value that becomes another one while it is under way, and is taken then
abbrev pub under_way : Value → ((at : Location) → Deed (Unit {0})) → Deed Value
under_way v becomes = looks λ world.
    does (Pushes v) >> (becomes (in_hand world) >> takes (in_hand world) (λ after new. does Pops >> give new))

-- a value that has no place any more ends
abbrev pub given_up : Form → Value → Deed (Unit {0})
given_up f v = looks λ world. does (Pushes v) >> (ends_at f (in_hand world) >> does Pops)

-- ---- copies

abbrev pub bits : (to from : Location) → Deed (Unit {0})
bits to from = takes from (λ world v. costs (bytes v) (sets to v))

abbrev pub copied_elements : (of : Form) → (element : (to from : Location) → Deed (Unit {0})) → (to : Location) → Value → (from : Location) → Deed (Unit {0})
copied_elements of element to w from = do
  v ← fresh (length_of w) (length_of w * size of) (Elements (repeated (length_of w) (vacant of)))
  sets to v >> each_element (length_of w) element 0 v to w from

-- A place in which nothing stands gets a copy. A text takes its block; a sequence takes its own before those of its elements.
abbrev pub copying : Walk
copying = record {
  plainly = bits;
  text = λ to from. sees from (λ world v. costs 8 (fresh_text (text_of world v)) >>= sets to);
  sequence = λ of element to from. sees from (λ world v. costs 8 (copied_elements of element to v from));
}

abbrev pub copied : Form → (from : Location) → Deed Value
copied f from = under_way (vacant f) (λ to. walk copying f to from)

-- ---- assignment

-- the new value is put in the place, and then the old one ends
abbrev pub replaced : Form → (to : Location) → (new : Value) → Deed (Unit {0})
replaced f to new = costs 8 (sees to (λ world old. sets to new >> given_up f old))

-- The values of two places trade places, and then what the second one got ends: so each has a place all the time.
abbrev pub sunk : Form → (to from : Location) → Deed (Unit {0})
sunk f to from = costs 8 (sees to (λ world old. sees from (λ world new. sets to new >> (sets from old >> ends_at f from))))

-- a place gets the value of another one, which is left without it
abbrev pub sinking : Walk
sinking = record {
  plainly = bits;
  text = λ to from. sunk block to from;
  sequence = λ of element to from. sunk (elements of) to from;
}

-- each part is copied, put in its place, and what stood there ended, before the next one
abbrev pub assigning : Walk
assigning = record {
  plainly = bits;
  text = λ to from. copied block from >>= replaced block to;
  sequence = λ of element to from. copied (elements of) from >>= replaced (elements of) to;
}

-- A value that was handed over, which is under way meanwhile; or a copy of the one at a location.
abbrev pub assigned : Form → (to : Location) → Operand → Deed (Unit {0})
assigned f to (Given v) = looks (λ world. does (Pushes v) >> (walk sinking f to (in_hand world) >> does Pops))
assigned f to (At from) = walk assigning f to from

abbrev pub assigns : Form → (to : Location) → Operand → Deed Value
assigns f to x = assigned f to x >> give nothing

-- ---- places and temporaries

-- What a slot holds ends; what it stands for, or was lent, is another's.
abbrev pub slot_ends : Form → Location → Option Slot → Deed (Unit {0})
slot_ends f location None = give tt
slot_ends f location (Some (Holds v)) = ends_at f location
slot_ends f location (Some (Stands other)) = give tt
slot_ends f location (Some (Lends v from seen)) = give tt

-- A temporary is met at the end of its group, where it may be none: it wasn't made, or an operation took it up.
abbrev pub temporary_ends : Form → (level node : ℕ) → Deed (Unit {0})
temporary_ends f level node =
    costs 1 (looks (λ world. slot_ends f (at_base (Waiting level node)) (temporary_at world level node)) >> does (Leaves level node))
