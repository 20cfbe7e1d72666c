-- What values of a type look like, by its entry in the table, distinct types looked through: how many bytes they have, whether they are one word,
-- and where their parts are.
use Rattle.std.proofs.Common.{◌≡◌, ◌⊎◌, inl, inr, ℕ, zero, suc, ◌+◌, ◌*◌, ◌≤◌, ◌<◌, List, [], ◌∷◌, length, take, Option, Some, None, Bool}
use Rattle.std.proofs.Common.{true, false, refl, sym, ap, ap₂, subst, ◌∙◌, arith}
use Rattle.std.specs.Prelude.{slice_get, nat_lt, ◌&&◌, ◌||◌}
use Rattle.std.proofs.lemmas.Bool.{and_from, and_parts, and_right, both_ways, cases_lt}
use Rattle.std.proofs.lemmas.Option.{slice_get_past}
use Rattle.arc_base.specs.declared.place.Place.{Place}
use Rattle.nim_types.specs.declared.types.TheConstants.{WORD_BYTES}
use Rattle.nim_types.specs.declared.types.TypeDef.{TypeDef}
use Rattle.nim_types.specs.declared.types.TypeDef.TheVariants as D
use Rattle.nim_types.specs.Types as type
use Rattle.nim_types.specs.Types.{Ty, Tys, Key, Field, Fact, members, fields, base, below, Facts, fact_of}
use Rattle.nim_types.specs.Forms.{Form, plain, Forms, object_form, or_word, size, form_of, hooked, hooked_any, of_some, size_all, types_of, HasForm, IsForm}
use Rattle.nim_types.specs.Forms.{of_int, of_bool, of_char, of_text}
use Rattle.nim_types.specs.Forms.{of_sequence, of_any_sequence, of_array, of_tuple, of_parameter, of_enum, of_object, of_distinct, of_ref, of_exception}
use Rattle.nim_types.specs.Forms.{AreForms, none_of, more_of}
use Rattle.nim_types.specs.Table.{type_at, types_at, key_of, types_in, fields_with, fields_fact, facts_in, IsWithin, WithinOnto, IsTable}
use Rattle.nim_types.specs.Entries.{meant_at, said_at}
use Rattle.nim_types.proofs.ForCallers.{the_form, by_entry, said_by, fields_types}
use Rattle.nim_program.specs.Kinds.{declared_kind}
use Rattle.nim_meaning.specs.Unbuilt.{has_unbuilt, has_unbuilt_any, is_unbuilt}
use Rattle.flat_code.specs.Shapes.{Shape, number, reference, block, elements, row, parts, Shapes, object_shape, shape_by, shape_within, shape_of}
use Rattle.flat_code.proofs.ForCallers.{sorted_table, shapes_of, Matches, shaped}
use Rattle.word_lowering.specs.OwnedCode.{has_handle, is_text}
use Rattle.word_lowering.specs.Stored.{bytes_at, bytes_all, base_or, base_within, entry_at, is_hooked, is_word, parts_in, part_at, count_in, element_bytes}
use Rattle.word_lowering.specs.Stored.{HaveForms}
use Rattle.word_lowering.proofs.Options.{none_some, some_same}
use Rattle.word_lowering.proofs.BlankShapes.{of_handles, all_of_handles}
use Rattle.word_lowering.proofs.ShapeFacts.{never, all_of_numbers, shape_bytes, shapes_bytes, of_numbers}
use Rattle.word_lowering.proofs.ShapePaths.{shapes_before}
use Rattle.word_lowering.proofs.Sites.{is_one_word}

-- ---- entries

-- what stands in an entry is before it
pub within_at : (n : ℕ) (ds : List TypeDef) (i : ℕ) (d : TypeDef) → WithinOnto n ds → slice_get ds i ≡ Some d → IsWithin (n + i) d
within_at n [] i d w h = absurd (none_some d h)
within_at n (e ∷ ds) zero d w h =
    let same : n ≡ n + 0 = omega arith in subst (λ m. IsWithin m d) same (subst (λ z. IsWithin n z) (some_same e d h) w.0)
within_at n (e ∷ ds) (suc i) d w h =
    let same : suc n + i ≡ n + suc i = omega arith in subst (λ m. IsWithin m d) same (within_at (suc n) ds i d w.1 h)

-- the base of a distinct type
pub base_below : (table : List TypeDef) → IsTable table → (i : ℕ) (name : List ℕ) (at : Place) (j : ℕ)
    → slice_get table i ≡ Some (D.Distinct name at j) → j < i
base_below table is i name at j e = let h : j < 0 + i = within_at 0 table i (D.Distinct name at j) is.within e in omega (arith, h)

-- no distinct type
abbrev pub Stays : Option TypeDef → Type 0
Stays o = (go : ℕ → ℕ) (i : ℕ) → base_or go i o ≡ i

pub stays_not : {A : Type 0} (name : List ℕ) (at : Place) (j : ℕ) → Stays (Some (D.Distinct name at j)) → A
stays_not name at j s = let e : 1 ≡ 0 = s (λ k. 1) 0 in absurd (omega (arith, e))

pub data Looked : Option TypeDef → Type 0 where
  a_distinct : (name : List ℕ) (at : Place) (j : ℕ) → Looked (Some (D.Distinct name at j))
  another : (o : Option TypeDef) → Stays o → Looked o

pub look : (o : Option TypeDef) → Looked o
look None = another None (λ go i. refl)
look (Some D.Int) = another (Some D.Int) (λ go i. refl)
look (Some D.Bool) = another (Some D.Bool) (λ go i. refl)
look (Some D.Char) = another (Some D.Char) (λ go i. refl)
look (Some D.Text) = another (Some D.Text) (λ go i. refl)
look (Some (D.Seq j)) = another (Some (D.Seq j)) (λ go i. refl)
look (Some (D.Param n)) = another (Some (D.Param n)) (λ go i. refl)
look (Some (D.Enum name at all)) = another (Some (D.Enum name at all)) (λ go i. refl)
look (Some (D.Array n j)) = another (Some (D.Array n j)) (λ go i. refl)
look (Some (D.Tuple names is)) = another (Some (D.Tuple names is)) (λ go i. refl)
look (Some (D.Object name at is all own tys)) = another (Some (D.Object name at is all own tys)) (λ go i. refl)
look (Some (D.Distinct name at j)) = a_distinct name at j
look (Some (D.Ref name j)) = another (Some (D.Ref name j)) (λ go i. refl)
look (Some (D.Exception name at parent)) = another (Some (D.Exception name at parent)) (λ go i. refl)

-- an object's declaration is known
object_said : {facts : Facts} (key : Key) (arguments : Tys) (f : Form) → IsForm true facts (type.object key arguments) f
    → (all : List Field) × (own : Bool) × (fact_of facts (type.object key arguments) ≡ Some (fields all own))
object_said key arguments f (of_object {all = all} {own_hooks = own} e a) = (all, own, e)

same_rows : (m n : ℕ) (s t : Shape) → row m s ≡ row n t → (m ≡ n) × (s ≡ t)
same_rows m n s t e = (cc, cc)

same_shapes : (ss ts : Shapes) → parts ss ≡ parts ts → ss ≡ ts
same_shapes ss ts e = cc

abbrev is_row : Shape → Bool
is_row (row n s) = true
is_row s = false

abbrev is_parts : Shape → Bool
is_parts (parts ss) = true
is_parts s = false

no_row : {A : Type 0} {s t : Shape} → is_row s ≡ false → s ≡ t → is_row t ≡ true → A
no_row a e b = never (sym a ∙ ap is_row e ∙ b)

no_parts : {A : Type 0} {s t : Shape} → is_parts s ≡ false → s ≡ t → is_parts t ≡ true → A
no_parts a e b = never (sym a ∙ ap is_parts e ∙ b)

object_row : (own : Bool) (ss : Shapes) → is_row (object_shape own ss) ≡ false
object_row true ss = refl
object_row false ss = refl

object_word : (own : Bool) (ss : Shapes) → is_one_word (object_shape own ss) ≡ false
object_word true ss = refl
object_word false ss = refl

object_bytes : (own : Bool) (fs : Forms) (ss : Shapes) → shapes_bytes ss ≡ size_all fs → shape_bytes (object_shape own ss) ≡ size (object_form own fs)
object_bytes true fs ss e = ap or_word e
object_bytes false fs ss e = ap or_word e

or_false : (a b : Bool) → (a || b) ≡ false → (a ≡ false) × (b ≡ false)
or_false true b h = never (sym h)
or_false false b h = (refl, h)

row_handles : (n : ℕ) (s : Shape) → of_handles s ≡ true → of_handles (row n s) ≡ true
row_handles zero s h = refl
row_handles (suc n) s h = h

object_handles : (own : Bool) (fs : Forms) (ss : Shapes) → has_unbuilt (object_form own fs) ≡ false
    → (has_unbuilt_any fs ≡ false → all_of_handles ss ≡ true) → of_handles (object_shape own ss) ≡ true
object_handles true fs ss h go = never (sym h)
object_handles false fs ss h go = go h

module _ (table : List TypeDef) where
  abbrev facts : Facts
  facts = facts_in table

  abbrev ts : List Ty
  ts = types_in table

  -- ---- bytes

  enum_bytes : (known : Ty → Shape) (key : Key) (o : Option Fact) → fact_of facts (type.enum key) ≡ o → shape_bytes (shape_by known o) ≡ WORD_BYTES
  enum_bytes known key None e = refl
  enum_bytes known key (Some (members names)) e = refl
  enum_bytes known key (Some (fields all own)) e = absurd (sorted_table table (type.enum key) (fields all own) e)
  enum_bytes known key (Some (base t)) e = absurd (sorted_table table (type.enum key) (base t) e)
  enum_bytes known key (Some (below t)) e = refl

  enum_within : (n : ℕ) (key : Key) → shape_bytes (shape_within n facts (type.enum key)) ≡ WORD_BYTES
  enum_within zero key = refl
  enum_within (suc n) key = enum_bytes (shape_within n facts) key (fact_of facts (type.enum key)) refl

  -- a declared type looks as its declaration says
  declared_look : {ty : Ty} {f : Form} (fact : Fact) → HasForm facts ty f → Matches facts (declared_kind (fact_of facts ty)) (shape_of facts ty)
      → fact_of facts ty ≡ Some fact → Matches facts (declared_kind (Some fact)) (shape_of facts ty)
  declared_look {ty} fact has m e = subst (λ o. Matches facts (declared_kind o) (shape_of facts ty)) e m

  mutual
    pub bytes_of : {ty : Ty} {f : Form} → HasForm facts ty f → shape_bytes (shape_of facts ty) ≡ size f
    bytes_of of_int = refl
    bytes_of of_bool = refl
    bytes_of of_char = refl
    bytes_of of_text = refl
    bytes_of (of_sequence d a) = refl
    bytes_of (of_any_sequence d) = refl
    bytes_of (of_array {n} a) = ap (λ b. or_word (n * b)) (bytes_of a)
    bytes_of (of_tuple a) = ap or_word (all_bytes a)
    bytes_of of_parameter = refl
    bytes_of (of_enum {key}) = enum_within (length facts) key
    bytes_of (of_object {key} {arguments} {all} {own_hooks} {fs} e a) =
        let whole : HasForm facts (type.object key arguments) (object_form own_hooks fs) = of_object e a in
        ap shape_bytes (declared_look (fields all own_hooks) whole (shaped facts (sorted_table table) whole).matches e)
        ∙ object_bytes own_hooks fs (shapes_of facts (types_of all)) (all_bytes a)
    bytes_of (of_distinct {key} {t} e a) =
        let whole : HasForm facts (type.distinct key) _ = of_distinct e a in
        ap shape_bytes (declared_look (base t) whole (shaped facts (sorted_table table) whole).matches e) ∙ bytes_of a
    bytes_of of_ref = refl
    bytes_of of_exception = refl

    all_bytes : {tys : Tys} {fs : Forms} → AreForms true facts tys fs → shapes_bytes (shapes_of facts tys) ≡ size_all fs
    all_bytes none_of = refl
    all_bytes (more_of a s) = ap₂ (λ m n. m + n) (bytes_of a) (all_bytes s)

  -- ---- what has code: numbers, texts and sequences

  enum_handles : (known : Ty → Shape) (key : Key) (o : Option Fact) → fact_of facts (type.enum key) ≡ o → of_handles (shape_by known o) ≡ true
  enum_handles known key None e = refl
  enum_handles known key (Some (members names)) e = refl
  enum_handles known key (Some (fields all own)) e = absurd (sorted_table table (type.enum key) (fields all own) e)
  enum_handles known key (Some (base t)) e = absurd (sorted_table table (type.enum key) (base t) e)
  enum_handles known key (Some (below t)) e = refl

  enum_built : (n : ℕ) (key : Key) → of_handles (shape_within n facts (type.enum key)) ≡ true
  enum_built zero key = refl
  enum_built (suc n) key = enum_handles (shape_within n facts) key (fact_of facts (type.enum key)) refl

  mutual
    handles_of : {ty : Ty} {f : Form} → HasForm facts ty f → has_unbuilt f ≡ false → of_handles (shape_of facts ty) ≡ true
    handles_of of_int h = refl
    handles_of of_bool h = refl
    handles_of of_char h = refl
    handles_of of_text h = refl
    handles_of (of_sequence d a) h = handles_of a h
    handles_of (of_any_sequence d) h = absurd (both_ways true d refl)
    handles_of (of_array {n} {t} a) h = row_handles n (shape_of facts t) (handles_of a h)
    handles_of (of_tuple a) h = all_handles_of a h
    handles_of of_parameter h = refl
    handles_of (of_enum {key}) h = enum_built (length facts) key
    handles_of (of_object {key} {arguments} {all} {own_hooks} {fs} e a) h =
        let whole : HasForm facts (type.object key arguments) (object_form own_hooks fs) = of_object e a in
        ap of_handles (declared_look (fields all own_hooks) whole (shaped facts (sorted_table table) whole).matches e)
        ∙ object_handles own_hooks fs (shapes_of facts (types_of all)) h (λ g. all_handles_of a g)
    handles_of (of_distinct {key} {t} e a) h =
        let whole : HasForm facts (type.distinct key) _ = of_distinct e a in
        ap of_handles (declared_look (base t) whole (shaped facts (sorted_table table) whole).matches e) ∙ handles_of a h
    handles_of of_ref h = never (sym h)
    handles_of of_exception h = refl

    all_handles_of : {tys : Tys} {fs : Forms} → AreForms true facts tys fs → has_unbuilt_any fs ≡ false → all_of_handles (shapes_of facts tys) ≡ true
    all_handles_of none_of h = refl
    all_handles_of (more_of {t} {ts} {f} {fs} a s) h =
        let p = or_false (has_unbuilt f) (has_unbuilt_any fs) h in
        and_from (of_handles (shape_of facts t)) (all_of_handles (shapes_of facts ts)) (handles_of a p.0) (all_handles_of s p.1)

  -- what has hooks is no word
  hooked_word : {ty : Ty} {f : Form} → HasForm facts ty f → hooked f ≡ true → is_one_word (shape_of facts ty) ≡ false
  hooked_word of_int h = never h
  hooked_word of_bool h = never h
  hooked_word of_char h = never h
  hooked_word of_text h = refl
  hooked_word (of_sequence d a) h = refl
  hooked_word (of_any_sequence d) h = refl
  hooked_word (of_array a) h = refl
  hooked_word (of_tuple a) h = refl
  hooked_word of_parameter h = never h
  hooked_word of_enum h = never h
  hooked_word (of_object {key} {arguments} {all} {own_hooks} {fs} e a) h =
      let whole : HasForm facts (type.object key arguments) (object_form own_hooks fs) = of_object e a in
      ap is_one_word (declared_look (fields all own_hooks) whole (shaped facts (sorted_table table) whole).matches e)
      ∙ object_word own_hooks (shapes_of facts (types_of all))
  hooked_word (of_distinct {key} {t} e a) h =
      let whole : HasForm facts (type.distinct key) _ = of_distinct e a in
      ap is_one_word (declared_look (base t) whole (shaped facts (sorted_table table) whole).matches e) ∙ hooked_word a h
  hooked_word of_ref h = refl
  hooked_word of_exception h = never h

  -- what has hooks isn't made of numbers alone
  row_hooked : (n : ℕ) (s : Shape) (b : Bool) → of_some n b ≡ true → (b ≡ true → of_numbers s ≡ false) → of_numbers (row n s) ≡ false
  row_hooked zero s b h go = never h
  row_hooked (suc n) s b h go = go h

  object_hooked : (own : Bool) (fs : Forms) (ss : Shapes) → hooked (object_form own fs) ≡ true → (hooked_any fs ≡ true → all_of_numbers ss ≡ false)
      → of_numbers (object_shape own ss) ≡ false
  object_hooked true fs ss h go = refl
  object_hooked false fs ss h go = go h

  mutual
    hooked_shape : {ty : Ty} {f : Form} → HasForm facts ty f → hooked f ≡ true → of_numbers (shape_of facts ty) ≡ false
    hooked_shape of_int h = never h
    hooked_shape of_bool h = never h
    hooked_shape of_char h = never h
    hooked_shape of_text h = refl
    hooked_shape (of_sequence d a) h = refl
    hooked_shape (of_any_sequence d) h = refl
    hooked_shape (of_array {n} {t} {f} a) h = row_hooked n (shape_of facts t) (hooked f) h (λ g. hooked_shape a g)
    hooked_shape (of_tuple a) h = all_hooked_shape a h
    hooked_shape of_parameter h = never h
    hooked_shape of_enum h = never h
    hooked_shape (of_object {key} {arguments} {all} {own_hooks} {fs} e a) h =
        let whole : HasForm facts (type.object key arguments) (object_form own_hooks fs) = of_object e a in
        ap of_numbers (declared_look (fields all own_hooks) whole (shaped facts (sorted_table table) whole).matches e)
        ∙ object_hooked own_hooks fs (shapes_of facts (types_of all)) h (λ g. all_hooked_shape a g)
    hooked_shape (of_distinct {key} {t} e a) h =
        let whole : HasForm facts (type.distinct key) _ = of_distinct e a in
        ap of_numbers (declared_look (base t) whole (shaped facts (sorted_table table) whole).matches e) ∙ hooked_shape a h
    hooked_shape of_ref h = refl
    hooked_shape of_exception h = never h

    all_hooked_shape : {tys : Tys} {fs : Forms} → AreForms true facts tys fs → hooked_any fs ≡ true → all_of_numbers (shapes_of facts tys) ≡ false
    all_hooked_shape none_of h = never h
    all_hooked_shape (more_of {t} {ts} {f} {fs} a s) h = by (hooked f) refl (λ g. hooked_shape a g) (λ g. all_hooked_shape s g) h
      where
        by : (b : Bool) → hooked f ≡ b → (hooked f ≡ true → of_numbers (shape_of facts t) ≡ false)
            → (hooked_any fs ≡ true → all_of_numbers (shapes_of facts ts) ≡ false) → (b || hooked_any fs) ≡ true
            → (of_numbers (shape_of facts t) && all_of_numbers (shapes_of facts ts)) ≡ false
        by true e first rest i = ap (λ b. b && all_of_numbers (shapes_of facts ts)) (first e)
        by false e first rest i = and_right (of_numbers (shape_of facts t)) (all_of_numbers (shapes_of facts ts)) (rest i)

  -- ---- what an entry says

  abbrev pub Looks : Option TypeDef → Shape → Type 0
  Looks None s = s ≡ number None
  Looks (Some D.Int) s = s ≡ number None
  Looks (Some D.Bool) s = s ≡ number (Some 2)
  Looks (Some D.Char) s = s ≡ number (Some 256)
  Looks (Some D.Text) s = s ≡ block
  Looks (Some (D.Seq i)) s = s ≡ elements (shape_of facts (type_at ts i))
  Looks (Some (D.Param n)) s = s ≡ number None
  Looks (Some (D.Enum name at all)) s = s ≡ number (Some (length all))
  Looks (Some (D.Array n i)) s = s ≡ row n (shape_of facts (type_at ts i))
  Looks (Some (D.Tuple names is)) s = s ≡ parts (shapes_of facts (types_at ts is))
  Looks (Some (D.Object name at is all own tys)) s = s ≡ object_shape own (shapes_of facts (types_at ts tys))
  Looks (Some (D.Distinct name at i)) s = ⊥
  Looks (Some (D.Ref name i)) s = s ≡ reference
  Looks (Some (D.Exception name at parent)) s = s ≡ number None

  entry_looks : (o : Option TypeDef) (f : Form) → HasForm facts (meant_at ts o) f → fact_of facts (meant_at ts o) ≡ said_at ts o → Stays o
      → Looks o (shape_of facts (meant_at ts o))
  entry_looks None f has said stays = refl
  entry_looks (Some D.Int) f has said stays = refl
  entry_looks (Some D.Bool) f has said stays = refl
  entry_looks (Some D.Char) f has said stays = refl
  entry_looks (Some D.Text) f has said stays = refl
  entry_looks (Some (D.Seq i)) f has said stays = refl
  entry_looks (Some (D.Param n)) f has said stays = refl
  entry_looks (Some (D.Enum name at all)) f has said stays =
      declared_look (members all) has (shaped facts (sorted_table table) has).matches said
  entry_looks (Some (D.Array n i)) f has said stays = refl
  entry_looks (Some (D.Tuple names is)) f has said stays = refl
  entry_looks (Some (D.Object name at is all own tys)) f has said stays = by (fields_with ts all tys) refl
    where
      key : Key
      key = key_of name at

      by : (o : Option (List Field)) → fields_with ts all tys ≡ o
          → shape_of facts (type.object key (types_at ts is)) ≡ object_shape own (shapes_of facts (types_at ts tys))
      by None e =
          let told = object_said key (types_at ts is) f has in
          absurd (none_some (fields told.0 told.1) (sym (said ∙ ap (λ z. fields_fact z own) e) ∙ told.2))
      by (Some fs) e =
          declared_look (fields fs own) has (shaped facts (sorted_table table) has).matches (said ∙ ap (λ z. fields_fact z own) e)
          ∙ ap (λ z. object_shape own (shapes_of facts z)) (fields_types ts all tys fs e)
  entry_looks (Some (D.Distinct name at i)) f has said stays = stays_not name at i stays
  entry_looks (Some (D.Ref name i)) f has said stays = refl
  entry_looks (Some (D.Exception name at parent)) f has said stays = refl

  -- ---- of each type of a table

  module _ (is_table : IsTable table) (have : HaveForms table) where
    pub beyond_int : (ty : ℕ) → length table ≤ ty → type_at ts ty ≡ type.int
    beyond_int ty ge = by_entry table is_table ty None (slice_get_past table ty ge)

    pub has_form : (ty : ℕ) → (f : Form) × HasForm facts (type_at ts ty) f
    has_form ty = by (cases_lt ty (length table))
      where
        by : (ty < length table) ⊎ (length table ≤ ty) → (f : Form) × HasForm facts (type_at ts ty) f
        by (inl lt) = have ty lt
        by (inr ge) = (plain, subst (λ t. HasForm facts t plain) (sym (beyond_int ty ge)) of_int)

    pub type_bytes : (ty : ℕ) → bytes_at table ty ≡ shape_bytes (shape_of facts (type_at ts ty))
    type_bytes ty = let h = has_form ty in ap size (the_form h.1) ∙ sym (bytes_of h.1)

    -- a distinct type looks as its base
    pub distinct_looks : (ty : ℕ) (name : List ℕ) (at : Place) (j : ℕ) → slice_get table ty ≡ Some (D.Distinct name at j)
        → shape_of facts (type_at ts ty) ≡ shape_of facts (type_at ts j)
    distinct_looks ty name at j e =
        let is = by_entry table is_table ty (Some (D.Distinct name at j)) e in
        let h = has_form ty in
        let has : HasForm facts (type.distinct (key_of name at)) h.0 = subst (λ t. HasForm facts t h.0) is h.1 in
        ap (shape_of facts) is
        ∙ declared_look (base (type_at ts j)) has (shaped facts (sorted_table table) has).matches (said_by table is_table ty (Some (D.Distinct name at j)) e)

    looks_at : (m ty : ℕ) → ty < m → Looks (slice_get table (base_within m table ty)) (shape_of facts (type_at ts ty))
    looks_at zero ty lt = absurd (omega (arith, lt))
    looks_at (suc m) ty lt = by (slice_get table ty) refl (look (slice_get table ty)) (λ j l. looks_at m j (omega (arith, l, lt)))
      where
        by : (o : Option TypeDef) → slice_get table ty ≡ o → Looked o
            → ((j : ℕ) → j < ty → Looks (slice_get table (base_within m table j)) (shape_of facts (type_at ts j)))
            → Looks (slice_get table (base_or (base_within m table) ty o)) (shape_of facts (type_at ts ty))
        by o e (another p stays) lower =
            let h = has_form ty in
            let is = by_entry table is_table ty o e in
            subst (λ q. Looks q (shape_of facts (type_at ts ty))) (sym (ap (slice_get table) (stays (base_within m table) ty) ∙ e))
            (subst (λ t. Looks o (shape_of facts t)) (sym is)
            (entry_looks o h.0 (subst (λ t. HasForm facts t h.0) is h.1) (said_by table is_table ty o e) stays))
        by o e (a_distinct name at j) lower =
            subst (λ s. Looks (slice_get table (base_within m table j)) s) (sym (distinct_looks ty name at j e))
            (lower j (base_below table is_table ty name at j e))

    pub none_stays : (m ty : ℕ) → slice_get table ty ≡ None → base_within m table ty ≡ ty
    none_stays zero ty e = refl
    none_stays (suc m) ty e = ap (base_or (base_within m table) ty) e

    pub type_looks : (ty : ℕ) → Looks (entry_at table ty) (shape_of facts (type_at ts ty))
    type_looks ty = by (cases_lt ty (length table))
      where
        by : (ty < length table) ⊎ (length table ≤ ty) → Looks (entry_at table ty) (shape_of facts (type_at ts ty))
        by (inl lt) = looks_at (length table) ty lt
        by (inr ge) =
            let none = slice_get_past table ty ge in
            subst (λ q. Looks q (shape_of facts (type_at ts ty))) (sym (ap (slice_get table) (none_stays (length table) ty none) ∙ none))
            (ap (shape_of facts) (beyond_int ty ge))

    -- ---- words

    pub type_handles : (ty : ℕ) → is_unbuilt facts (type_at ts ty) ≡ false → of_handles (shape_of facts (type_at ts ty)) ≡ true
    type_handles ty h = let f = has_form ty in handles_of f.1 (sym (ap has_unbuilt (the_form f.1)) ∙ h)

    pub type_shaped : (ty : ℕ) → is_hooked table ty ≡ true → of_numbers (shape_of facts (type_at ts ty)) ≡ false
    type_shaped ty h =
        let f = has_form ty in
        hooked_shape f.1 (sym (ap hooked (the_form f.1)) ∙ (and_parts (nat_lt ty (length table)) (hooked (form_of facts (type_at ts ty))) h).1)

    pub type_many : (ty : ℕ) → is_hooked table ty ≡ true → is_one_word (shape_of facts (type_at ts ty)) ≡ false
    type_many ty h =
        let f = has_form ty in
        hooked_word f.1 (sym (ap hooked (the_form f.1)) ∙ (and_parts (nat_lt ty (length table)) (hooked (form_of facts (type_at ts ty))) h).1)

    word_at : (o : Option TypeDef) (s : Shape) → Looks o s → of_handles s ≡ true → is_one_word s ≡ is_word o
    word_at None s l n = ap is_one_word l
    word_at (Some D.Int) s l n = ap is_one_word l
    word_at (Some D.Bool) s l n = ap is_one_word l
    word_at (Some D.Char) s l n = ap is_one_word l
    word_at (Some D.Text) s l n = ap is_one_word l
    word_at (Some (D.Seq i)) s l n = ap is_one_word l
    word_at (Some (D.Param k)) s l n = ap is_one_word l
    word_at (Some (D.Enum name at all)) s l n = ap is_one_word l
    word_at (Some (D.Array k i)) s l n = ap is_one_word l
    word_at (Some (D.Tuple names is)) s l n = ap is_one_word l
    word_at (Some (D.Object name at is all own tys)) s l n = ap is_one_word l ∙ object_word own (shapes_of facts (types_at ts tys))
    word_at (Some (D.Distinct name at i)) s l n = absurd l
    word_at (Some (D.Ref name i)) s l n = never (sym (ap of_handles l) ∙ n)
    word_at (Some (D.Exception name at parent)) s l n = ap is_one_word l

    pub type_is_word : (ty : ℕ) → of_handles (shape_of facts (type_at ts ty)) ≡ true
        → is_one_word (shape_of facts (type_at ts ty)) ≡ is_word (entry_at table ty)
    type_is_word ty n = word_at (entry_at table ty) (shape_of facts (type_at ts ty)) (type_looks ty) n

    text_at : (o : Option TypeDef) (s : Shape) → Looks o s → of_numbers s ≡ true → is_text o ≡ false
    text_at None s l n = refl
    text_at (Some D.Int) s l n = refl
    text_at (Some D.Bool) s l n = refl
    text_at (Some D.Char) s l n = refl
    text_at (Some D.Text) s l n = never (sym (ap of_numbers l) ∙ n)
    text_at (Some (D.Seq i)) s l n = refl
    text_at (Some (D.Param k)) s l n = refl
    text_at (Some (D.Enum name at all)) s l n = refl
    text_at (Some (D.Array k i)) s l n = refl
    text_at (Some (D.Tuple names is)) s l n = refl
    text_at (Some (D.Object name at is all own tys)) s l n = refl
    text_at (Some (D.Distinct name at i)) s l n = refl
    text_at (Some (D.Ref name i)) s l n = refl
    text_at (Some (D.Exception name at parent)) s l n = refl

    -- what is made of numbers is no text
    pub type_no_text : (ty : ℕ) → of_numbers (shape_of facts (type_at ts ty)) ≡ true → is_text (entry_at table ty) ≡ false
    type_no_text ty n = text_at (entry_at table ty) (shape_of facts (type_at ts ty)) (type_looks ty) n

    -- ---- elements

    abbrev RowIs : Option TypeDef → ℕ → Shape → Type 0
    RowIs o count s = (count_in o ≡ count) × (0 < count → element_bytes table o ≡ shape_bytes s) × (has_handle o ≡ false)

    row_at : (o : Option TypeDef) (s : Shape) → Looks o s → (count : ℕ) (t : Shape) → s ≡ row count t → RowIs o count t
    row_at None s l count t e = no_row refl (sym l ∙ e) refl
    row_at (Some D.Int) s l count t e = no_row refl (sym l ∙ e) refl
    row_at (Some D.Bool) s l count t e = no_row refl (sym l ∙ e) refl
    row_at (Some D.Char) s l count t e = no_row refl (sym l ∙ e) refl
    row_at (Some D.Text) s l count t e = no_row refl (sym l ∙ e) refl
    row_at (Some (D.Seq i)) s l count t e = no_row refl (sym l ∙ e) refl
    row_at (Some (D.Param k)) s l count t e = no_row refl (sym l ∙ e) refl
    row_at (Some (D.Enum name at all)) s l count t e = no_row refl (sym l ∙ e) refl
    row_at (Some (D.Array k i)) s l count t e =
        let r = same_rows k count (shape_of facts (type_at ts i)) t (sym l ∙ e) in
        (r.0, λ some. type_bytes i ∙ ap shape_bytes r.1, refl)
    row_at (Some (D.Tuple names is)) s l count t e = no_row refl (sym l ∙ e) refl
    row_at (Some (D.Object name at is all own tys)) s l count t e = no_row (object_row own (shapes_of facts (types_at ts tys))) (sym l ∙ e) refl
    row_at (Some (D.Distinct name at i)) s l count t e = absurd l
    row_at (Some (D.Ref name i)) s l count t e = no_row refl (sym l ∙ e) refl
    row_at (Some (D.Exception name at parent)) s l count t e = no_row refl (sym l ∙ e) refl

    pub type_row : (ty count : ℕ) (s : Shape) → shape_of facts (type_at ts ty) ≡ row count s → RowIs (entry_at table ty) count s
    type_row ty count s e = row_at (entry_at table ty) (shape_of facts (type_at ts ty)) (type_looks ty) count s e

    -- ---- parts

    pub bytes_before : (is : List ℕ) (i : ℕ) → bytes_all table (take i is) ≡ shapes_before (shapes_of facts (types_at ts is)) i
    bytes_before [] zero = refl
    bytes_before [] (suc i) = refl
    bytes_before (j ∷ is) zero = refl
    bytes_before (j ∷ is) (suc i) = ap₂ (λ m n. m + n) (type_bytes j) (bytes_before is i)

    parts_before : (is : List ℕ) (ss : Shapes) (i : ℕ) → parts (shapes_of facts (types_at ts is)) ≡ parts ss
        → bytes_all table (take i is) ≡ shapes_before ss i
    parts_before is ss i e = bytes_before is i ∙ ap (λ z. shapes_before z i) (same_shapes (shapes_of facts (types_at ts is)) ss e)

    object_parts : (own : Bool) (is : List ℕ) (ss : Shapes) (i : ℕ) → object_shape own (shapes_of facts (types_at ts is)) ≡ parts ss
        → bytes_all table (take i is) ≡ shapes_before ss i
    object_parts true is ss i e = no_parts refl e refl
    object_parts false is ss i e = parts_before is ss i e

    parts_by : (o : Option TypeDef) (s : Shape) → Looks o s → (ss : Shapes) (i : ℕ) → s ≡ parts ss
        → bytes_all table (take i (parts_in o)) ≡ shapes_before ss i
    parts_by None s l ss i e = no_parts refl (sym l ∙ e) refl
    parts_by (Some D.Int) s l ss i e = no_parts refl (sym l ∙ e) refl
    parts_by (Some D.Bool) s l ss i e = no_parts refl (sym l ∙ e) refl
    parts_by (Some D.Char) s l ss i e = no_parts refl (sym l ∙ e) refl
    parts_by (Some D.Text) s l ss i e = no_parts refl (sym l ∙ e) refl
    parts_by (Some (D.Seq j)) s l ss i e = no_parts refl (sym l ∙ e) refl
    parts_by (Some (D.Param k)) s l ss i e = no_parts refl (sym l ∙ e) refl
    parts_by (Some (D.Enum name at all)) s l ss i e = no_parts refl (sym l ∙ e) refl
    parts_by (Some (D.Array k j)) s l ss i e = no_parts refl (sym l ∙ e) refl
    parts_by (Some (D.Tuple names is)) s l ss i e = parts_before is ss i (sym l ∙ e)
    parts_by (Some (D.Object name at is all own tys)) s l ss i e = object_parts own tys ss i (sym l ∙ e)
    parts_by (Some (D.Distinct name at j)) s l ss i e = absurd l
    parts_by (Some (D.Ref name j)) s l ss i e = no_parts refl (sym l ∙ e) refl
    parts_by (Some (D.Exception name at parent)) s l ss i e = no_parts refl (sym l ∙ e) refl

    -- where a part is, by the table
    pub type_part : (ty : ℕ) (ss : Shapes) (i : ℕ) → shape_of facts (type_at ts ty) ≡ parts ss → part_at table ty i ≡ shapes_before ss i
    type_part ty ss i e = parts_by (entry_at table ty) (shape_of facts (type_at ts ty)) (type_looks ty) ss i e
