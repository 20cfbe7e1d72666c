-- What a table keeps beside its entries, and its invariant. No public contract speaks of it.
use Rattle.std.specs.Prelude.{◌≡◌, ℕ, ◌+◌, ◌*◌, ◌%◌, ◌<◌, ◌^◌, ◌-◌, min, Bool, true, false, ◌&&◌, ◌||◌, nat_eq, List, [], ◌∷◌, length, Option, Some, None}
use Rattle.std.specs.Prelude.{slice_get, slice_set, cond}
use Rattle.std.specs.Option.{option_flatten}
use Rattle.std.specs.Cmp.Lexicographic.{pointwise}
use Rattle.arc_base.specs.declared.place.Place.{Place}
use Rattle.nim_types.specs.declared.types.TypeDef.{TypeDef}
use Rattle.nim_types.specs.declared.types.TypeDef.TheVariants as D
use Rattle.nim_types.specs.declared.types.TheConstants.{WORD_BYTES, LIST_BYTES}
use Rattle.nim_types.specs.declared.slot.TheConstants.{SLOTS}
use Rattle.nim_types.specs.declared.storage.Storage.{Storage}
use Rattle.nim_types.specs.Types.{same_text, same_place, same_name}
use Rattle.nim_types.specs.Forms.{or_word, of_some}
use Rattle.nim_types.specs.Table.{IsTable}

-- ---- equal entries

abbrev pub same_def : TypeDef → TypeDef → Bool
same_def D.Int D.Int = true
same_def D.Bool D.Bool = true
same_def D.Char D.Char = true
same_def D.Text D.Text = true
same_def (D.Seq i) (D.Seq j) = nat_eq i j
same_def (D.Param i) (D.Param j) = nat_eq i j
same_def (D.Enum x p xs) (D.Enum y q ys) = same_text x y && same_place p q
same_def (D.Array m i) (D.Array n j) = nat_eq m n && nat_eq i j
same_def (D.Tuple xs is) (D.Tuple ys js) = pointwise same_text xs ys && pointwise nat_eq is js
same_def (D.Object x p is xs b ps) (D.Object y q js ys c qs) = same_text x y && same_place p q && pointwise nat_eq is js
same_def (D.Distinct x p i) (D.Distinct y q j) = same_text x y && same_place p q
same_def (D.Ref x i) (D.Ref y j) = same_name x y && nat_eq i j
same_def (D.Exception x p i) (D.Exception y q j) = same_text x y && same_place p q
same_def _ _ = false

abbrev pub is_one : Option TypeDef → TypeDef → Bool
is_one None d = false
is_one (Some e) d = same_def e d

abbrev pub is_at : List TypeDef → ℕ → TypeDef → Bool
is_at ds i d = is_one (slice_get ds i) d

-- ---- the slot of an entry, where it is looked for

abbrev pub mixed : ℕ → ℕ → ℕ
mixed number next = (number * 31 + next) % SLOTS

abbrev pub mixed_all : ℕ → List ℕ → ℕ
mixed_all number [] = number
mixed_all number (n ∷ ns) = mixed_all (mixed number n) ns

abbrev pub mixed_texts : ℕ → List (List ℕ) → ℕ
mixed_texts number [] = number
mixed_texts number (t ∷ ts) = mixed_texts (mixed_all number t) ts

abbrev pub mixed_place : ℕ → Place → ℕ
mixed_place number at = mixed (mixed (mixed number at.module) at.line) at.column

abbrev pub slot : TypeDef → ℕ
slot D.Int = 0
slot D.Bool = 1
slot D.Char = 2
slot D.Text = 3
slot (D.Seq i) = mixed 4 i
slot (D.Param n) = mixed 5 n
slot (D.Enum name at all) = mixed_place 6 at
slot (D.Array n i) = mixed (mixed 7 n) i
slot (D.Tuple names is) = mixed_all (mixed_texts 8 names) is
slot (D.Object name at is all own_hooks parts) = mixed_all (mixed_place 9 at) is
slot (D.Distinct name at i) = mixed_place 10 at
slot (D.Ref name i) = mixed 11 i
slot (D.Exception name at parent) = mixed_place 12 at

-- what stands at a number, None too where it is beyond the list
abbrev pub at_number : {X : Type 0} → List (Option X) → ℕ → Option X
at_number xs i = option_flatten (slice_get xs i)

-- From an entry, by those before it in its slot, one comes to an entry.
pub data Reach (nexts : List (Option ℕ)) : Option ℕ → ℕ → Type 0 where
  here : {i : ℕ} → Reach nexts (Some i) i
  before : {i j : ℕ} → Reach nexts (at_number nexts i) j → Reach nexts (Some i) j

pub record Chained (ds : List TypeDef) (heads nexts : List (Option ℕ)) : Type 0 where
  pub beside : length nexts ≡ length ds
  pub heads_within : (h i : ℕ) → at_number heads h ≡ Some i → i < length ds
  pub falls : (j i : ℕ) → at_number nexts j ≡ Some i → i < j
  pub all : (j : ℕ) (d : TypeDef) → slice_get ds j ≡ Some d → Reach nexts (at_number heads (slot d)) j

-- ---- storage, by that of the parts

abbrev pub most : ℕ
most = 2 ^ 32 - 1

abbrev pub stored_as : ℕ → Bool → Storage
stored_as bytes hooked = record { bytes = bytes; hooked = hooked }

abbrev pub plus : Storage → Storage → Storage
plus a b = stored_as (min (a.bytes + b.bytes) most) (a.hooked || b.hooked)

abbrev pub times : ℕ → Storage → Storage
times n s = stored_as (or_word (min (s.bytes * n) most)) (of_some n s.hooked)

abbrev pub closed : Bool → Storage → Storage
closed own_hooks s = stored_as (or_word s.bytes) (own_hooks || s.hooked)

abbrev pub then_storage : Option Storage → (Storage → Option Storage) → Option Storage
then_storage None f = None
then_storage (Some s) f = f s

abbrev pub sum_in : List (Option Storage) → Storage → List ℕ → Option Storage
sum_in known sum [] = Some sum
sum_in known sum (i ∷ is) = then_storage (at_number known i) (λ s. sum_in known (plus sum s) is)

abbrev pub parts_in : List (Option Storage) → Bool → List ℕ → Option Storage
parts_in known own_hooks is = then_storage (sum_in known (stored_as 0 false) is) (λ s. Some (closed own_hooks s))

abbrev pub storage_in : List (Option Storage) → TypeDef → Option Storage
storage_in known D.Text = Some (stored_as LIST_BYTES true)
storage_in known (D.Seq i) = Some (stored_as LIST_BYTES true)
storage_in known (D.Array n i) = then_storage (at_number known i) (λ s. Some (times n s))
storage_in known (D.Tuple names is) = parts_in known false is
storage_in known (D.Object name at is all own_hooks parts) = cond (nat_eq (length all) (length parts)) (parts_in known own_hooks parts) None
storage_in known (D.Distinct name at i) = at_number known i
storage_in known (D.Ref name i) = Some (stored_as WORD_BYTES true)
storage_in known _ = Some (stored_as WORD_BYTES false)

-- an object without the types of its fields
abbrev pub is_due : TypeDef → Bool
is_due (D.Object name at is all own_hooks parts) = cond (nat_eq (length all) (length parts)) false true
is_due _ = false

-- what is known follows from the parts
pub record HalfSettled (ds : List TypeDef) (known : List (Option Storage)) : Type 0 where
  pub beside : length known ≡ length ds
  pub right : (i : ℕ) (d : TypeDef) (s : Storage) → slice_get ds i ≡ Some d → at_number known i ≡ Some s → storage_in known d ≡ Some s

-- and what follows from the parts is known
pub record Settled (ds : List TypeDef) (known : List (Option Storage)) : Type 0 where
  pub beside : length known ≡ length ds
  pub right : (i : ℕ) (d : TypeDef) → slice_get ds i ≡ Some d → at_number known i ≡ storage_in known d

-- where nothing waits, only objects without the types of their fields have no storage
abbrev pub Waits : Bool → List TypeDef → List (Option Storage) → Type 0
Waits waiting ds known = waiting ≡ false → (i : ℕ) (d : TypeDef) → slice_get ds i ≡ Some d → at_number known i ≡ None → is_due d ≡ true

-- what an entry's storage was, and what follows from the parts
pub record Learns (old : List (Option Storage)) (i : ℕ) (follows : Option Storage) (new : List (Option Storage)) : Type 0 where
  pub unknown : at_number old i ≡ None
  pub storage : Storage
  pub is : follows ≡ Some storage
  pub set : new ≡ slice_set old i (Some storage)

pub record Stays (old : List (Option Storage)) (i : ℕ) (follows : Option Storage) (new : List (Option Storage)) : Type 0 where
  pub same : new ≡ old
  pub none : at_number old i ≡ None → follows ≡ None

abbrev pub unknown : Option Storage → ℕ
unknown None = 1
unknown (Some s) = 0

abbrev pub unknowns : List (Option Storage) → ℕ
unknowns [] = 0
unknowns (s ∷ ss) = unknown s + unknowns ss

-- the same but for one entry, whose parts became known
pub record Stale (ds : List TypeDef) (i : ℕ) (known : List (Option Storage)) (waiting : Bool) : Type 0 where
  pub half : HalfSettled ds known
  pub others : (j : ℕ) (d : TypeDef) → (j ≡ i → ⊥) → slice_get ds j ≡ Some d → at_number known j ≡ None → storage_in known d ≡ None
  pub waits : waiting ≡ false → (j : ℕ) (d : TypeDef) → (j ≡ i → ⊥) → slice_get ds j ≡ Some d → at_number known j ≡ None → is_due d ≡ true

-- with one more entry
abbrev pub WaitsWith : Bool → Option Storage → TypeDef → Bool → Type 0
WaitsWith waiting storage d now = now ≡ false → (waiting ≡ false) × (storage ≡ None → is_due d ≡ true)

pub record IsKept (ds : List TypeDef) (heads nexts : List (Option ℕ)) (known : List (Option Storage)) (waiting : Bool) : Type 0 where
  pub table : IsTable ds
  pub chained : Chained ds heads nexts
  pub settled : Settled ds known
  pub waits : Waits waiting ds known
