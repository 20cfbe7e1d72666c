-- What a type starts at has its shape, which says what that is.
use Rattle.std.proofs.Common.{◌≡◌, ℕ, zero, suc, ◌+◌, ◌<◌, List, [], ◌∷◌, refl, sym, ap, ◌∙◌, Option, Some, None, subst, arith, ap₂}
use Rattle.std.specs.Prelude.{Bool, true, false, not, slice_get, pos}
use Rattle.std.proofs.lemmas.Bool.{both_ways, lt-ltb, and_parts, and_from, false≢true}
use Rattle.nim_types.specs.declared.types.TypeDef.{TypeDef}
use Rattle.nim_types.specs.declared.types.TypeDef.TheVariants as D
use Rattle.nim_types.specs.Types.{Ty, int, bool, char, text, sequence, array, tuple, parameter, enum, object, distinct, ref, exception, Tys, no_types, types}
use Rattle.nim_types.specs.Types.{Field, Fact, members, fields, base, below, Facts, fact_of, if_same, same}
use Rattle.nim_types.specs.Forms.{Form, Forms}
use Rattle.nim_types.specs.Forms.{HasForm, of_int, of_bool, of_char, of_text, of_sequence, of_any_sequence, of_array, of_tuple, of_parameter, of_enum}
use Rattle.nim_types.specs.Forms.{of_object, of_distinct, of_ref, of_exception, AreForms, none_of, more_of, object_form, types_of}
use Rattle.nim_types.specs.Table.{type_at, types_at, meant, types_in, fields_with, fields_fact, said_of, and_said, facts_over, facts_in, AllBelow}
use Rattle.nim_types.specs.Table.{IsWithin, IsTable}
use Rattle.nim_types.specs.Entries.{meant_at}
use Rattle.nim_types.proofs.ForCallers.{the_form, entry_type, said_by, fields_types}
use Rattle.nim_program.specs.Kinds.{declared_kind}
use Rattle.nim_meaning.specs.Values.{Value, Number, Parts, Resource, More, repeated, blank, blanks, default_of}
use Rattle.flat_code.specs.Shapes.{Shape, Shapes, object_shape, shape_of, has_shape, are_rows, have_shapes}
use Rattle.flat_code.proofs.ForCallers.{sorted_table, shapes_of, Matches, shaped}
use Rattle.word_lowering.specs.Stored.{HaveForms}
use Rattle.word_lowering.specs.Layouts.{is_empty}
use Rattle.word_lowering.specs.MayLower.{def_may, defs_may}
use Rattle.word_lowering.proofs.Options.{none_some, some_same}
use Rattle.word_lowering.proofs.TypeShapes.{within_at, has_form}
use Rattle.word_lowering.proofs.BlankShapes.{blank_in, blanks_in, seen_in}
use Rattle.nim_meaning.specs.Places.{looked_as}
use Rattle.nim_types.specs.Forms.{form_of}

-- ---- what is known of the types inside

module _ (all : Facts) where
  -- each enum inside has a member; what is inside of declared types is said elsewhere
  abbrev mutual
    IsKnown : Ty → Type 0
    IsKnown int = Unit {0}
    IsKnown bool = Unit {0}
    IsKnown char = Unit {0}
    IsKnown text = Unit {0}
    IsKnown (sequence t) = Unit {0}
    IsKnown (array n t) = IsKnown t
    IsKnown (tuple names ts) = AreKnown ts
    IsKnown (parameter n) = Unit {0}
    IsKnown (enum key) = (first : List ℕ) × (others : List (List ℕ)) × (fact_of all (enum key) ≡ Some (members (first ∷ others)))
    IsKnown (object key arguments) = Unit {0}
    IsKnown (distinct key) = Unit {0}
    IsKnown (ref name t) = Unit {0}
    IsKnown (exception key) = Unit {0}

    AreKnown : Tys → Type 0
    AreKnown no_types = Unit {0}
    AreKnown (types t ts) = IsKnown t × AreKnown ts

  abbrev KnownFact : Fact → Type 0
  KnownFact (members names) = Unit {0}
  KnownFact (fields xs own_hooks) = AreKnown (types_of xs)
  KnownFact (base t) = IsKnown t
  KnownFact (below t) = Unit {0}

rows_start : (n : ℕ) (v : Value) (s : Shape) → has_shape v s ≡ true → are_rows (repeated n v) n s ≡ true
rows_start zero v s h = refl
rows_start (suc n) v s h = and_from (has_shape v s) (are_rows (repeated n v) n s) h (rows_start n v s h)

object_starts : (own : Bool) (fs : Forms) (ss : Shapes) → has_shape (blank (object_form own fs)) (object_shape own ss) ≡ have_shapes (blanks fs) ss
object_starts true fs ss = refl
object_starts false fs ss = refl

object_blank : (own : Bool) (fs : Forms) (ss : Shapes) → blanks fs ≡ blanks_in ss → blank (object_form own fs) ≡ blank_in (object_shape own ss)
object_blank true fs ss e = ap (λ vs. Resource vs None) e
object_blank false fs ss e = ap Parts e

object_seen : (own : Bool) (fs : Forms) (v : Value) → looked_as (object_form own fs) v ≡ blank (object_form own fs)
object_seen true fs v = refl
object_seen false fs v = refl

object_seen_in : (own : Bool) (ss : Shapes) (v : Value) → blank_in (object_shape own ss) ≡ seen_in (object_shape own ss) v
object_seen_in true ss v = refl
object_seen_in false ss v = refl

module _ (table : List TypeDef) where
  abbrev facts : Facts
  facts = facts_in table

  abbrev ts : List Ty
  ts = types_in table

  -- as its declaration says
  declared_start : (ty : Ty) (fact : Fact) (s : Shape) → Matches facts (declared_kind (fact_of facts ty)) s → fact_of facts ty ≡ Some fact
      → Matches facts (declared_kind (Some fact)) s
  declared_start ty fact s m e = subst (λ o. Matches facts (declared_kind o) s) e m

  module _ (said : (ty : Ty) (fact : Fact) → fact_of facts ty ≡ Some fact → KnownFact facts fact) where
    mutual
      starts : {ty : Ty} {f : Form} → HasForm facts ty f → IsKnown facts ty → has_shape (blank f) (shape_of facts ty) ≡ true
      starts of_int k = refl
      starts of_bool k = refl
      starts of_char k = refl
      starts of_text k = refl
      starts (of_sequence s a) k = refl
      starts (of_any_sequence s) k = absurd (both_ways true s refl)
      starts (of_array {n} {t} {f} a) k = rows_start n (blank f) (shape_of facts t) (starts a k)
      starts (of_tuple a) k = all_start a k
      starts of_parameter k = refl
      starts (of_enum {key}) k =
          let whole : HasForm facts (enum key) _ = of_enum in
          let s : Shape = shape_of facts (enum key) in
          ap (has_shape (Number (pos 0)))
          (declared_start (enum key) (members (k.0 ∷ k.1)) s (shaped facts (sorted_table table) whole).matches k.2)
          ∙ lt-ltb 0 _ (omega arith)
      starts (of_object {key} {arguments} {all} {own_hooks} {fs} e a) k =
          let whole : HasForm facts (object key arguments) (object_form own_hooks fs) = of_object e a in
          let s : Shape = shape_of facts (object key arguments) in
          ap (has_shape (blank (object_form own_hooks fs)))
          (declared_start (object key arguments) (fields all own_hooks) s (shaped facts (sorted_table table) whole).matches e)
          ∙ object_starts own_hooks fs (shapes_of facts (types_of all)) ∙ all_start a (said (object key arguments) (fields all own_hooks) e)
      starts (of_distinct {key} {t} {f} e a) k =
          let whole : HasForm facts (distinct key) _ = of_distinct e a in
          let s : Shape = shape_of facts (distinct key) in
          ap (has_shape (blank f)) (declared_start (distinct key) (base t) s (shaped facts (sorted_table table) whole).matches e)
          ∙ starts a (said (distinct key) (base t) e)
      starts of_ref k = refl
      starts of_exception k = refl

      all_start : {tys : Tys} {fs : Forms} → AreForms true facts tys fs → AreKnown facts tys → have_shapes (blanks fs) (shapes_of facts tys) ≡ true
      all_start none_of k = refl
      all_start (more_of {t} {ts = rest} {f} {fs} a s) k =
          and_from (has_shape (blank f) (shape_of facts t)) (have_shapes (blanks fs) (shapes_of facts rest)) (starts a k.0) (all_start s k.1)

    mutual
      blank_is : {ty : Ty} {f : Form} → HasForm facts ty f → IsKnown facts ty → blank f ≡ blank_in (shape_of facts ty)
      blank_is of_int k = refl
      blank_is of_bool k = refl
      blank_is of_char k = refl
      blank_is of_text k = refl
      blank_is (of_sequence s a) k = refl
      blank_is (of_any_sequence s) k = absurd (both_ways true s refl)
      blank_is (of_array {n} {t} {f} a) k = ap (λ v. Parts (repeated n v)) (blank_is a k)
      blank_is (of_tuple a) k = ap Parts (blanks_are a k)
      blank_is of_parameter k = refl
      blank_is (of_enum {key}) k =
          let whole : HasForm facts (enum key) _ = of_enum in
          let s : Shape = shape_of facts (enum key) in
          sym (ap blank_in (declared_start (enum key) (members (k.0 ∷ k.1)) s (shaped facts (sorted_table table) whole).matches k.2))
      blank_is (of_object {key} {arguments} {all} {own_hooks} {fs} e a) k =
          let whole : HasForm facts (object key arguments) (object_form own_hooks fs) = of_object e a in
          let s : Shape = shape_of facts (object key arguments) in
          object_blank own_hooks fs (shapes_of facts (types_of all)) (blanks_are a (said (object key arguments) (fields all own_hooks) e))
          ∙ sym (ap blank_in (declared_start (object key arguments) (fields all own_hooks) s (shaped facts (sorted_table table) whole).matches e))
      blank_is (of_distinct {key} {t} {f} e a) k =
          let whole : HasForm facts (distinct key) _ = of_distinct e a in
          let s : Shape = shape_of facts (distinct key) in
          blank_is a (said (distinct key) (base t) e)
          ∙ sym (ap blank_in (declared_start (distinct key) (base t) s (shaped facts (sorted_table table) whole).matches e))
      blank_is of_ref k = refl
      blank_is of_exception k = refl

      blanks_are : {tys : Tys} {fs : Forms} → AreForms true facts tys fs → AreKnown facts tys → blanks fs ≡ blanks_in (shapes_of facts tys)
      blanks_are none_of k = refl
      blanks_are (more_of {t} {ts = rest} {f} {fs} a s) k = ap₂ More (blank_is a k.0) (blanks_are s k.1)

    -- what is looked at of a value
    seen_is : {ty : Ty} {f : Form} (v : Value) → HasForm facts ty f → IsKnown facts ty → looked_as f v ≡ seen_in (shape_of facts ty) v
    seen_is v of_int k = refl
    seen_is v of_bool k = refl
    seen_is v of_char k = refl
    seen_is v of_text k = refl
    seen_is v (of_sequence s a) k = refl
    seen_is v (of_any_sequence s) k = absurd (both_ways true s refl)
    seen_is v (of_array a) k = blank_is (of_array a) k
    seen_is v (of_tuple {names} a) k = blank_is (of_tuple {names = names} a) k
    seen_is v of_parameter k = refl
    seen_is v (of_enum {key}) k =
        let whole : HasForm facts (enum key) _ = of_enum in
        let s : Shape = shape_of facts (enum key) in
        sym (ap (λ t. seen_in t v) (declared_start (enum key) (members (k.0 ∷ k.1)) s (shaped facts (sorted_table table) whole).matches k.2))
    seen_is v (of_object {key} {arguments} {all} {own_hooks} {fs} e a) k =
        let whole : HasForm facts (object key arguments) (object_form own_hooks fs) = of_object e a in
        let s : Shape = shape_of facts (object key arguments) in
        let same = declared_start (object key arguments) (fields all own_hooks) s (shaped facts (sorted_table table) whole).matches e in
        object_seen own_hooks fs v ∙ blank_is whole k ∙ ap blank_in same ∙ object_seen_in own_hooks (shapes_of facts (types_of all)) v
        ∙ sym (ap (λ t. seen_in t v) same)
    seen_is v (of_distinct {key} {t} {f} e a) k =
        let whole : HasForm facts (distinct key) _ = of_distinct e a in
        let s : Shape = shape_of facts (distinct key) in
        seen_is v a (said (distinct key) (base t) e)
        ∙ sym (ap (λ u. seen_in u v) (declared_start (distinct key) (base t) s (shaped facts (sorted_table table) whole).matches e))
    seen_is v of_ref k = refl
    seen_is v of_exception k = refl

-- ---- the types of a table are known

within_first : (ds : List TypeDef) (i : ℕ) (d : TypeDef) → IsTable ds → slice_get ds i ≡ Some d → IsWithin i d
within_first ds i d is h = let same : 0 + i ≡ i = omega arith in subst (λ m. IsWithin m d) same (within_at 0 ds i d is.within h)

entry_may : (ds : List TypeDef) (i : ℕ) (d : TypeDef) → defs_may ds ≡ true → slice_get ds i ≡ Some d → def_may d ≡ true
entry_may [] i d may h = absurd (none_some d h)
entry_may (e ∷ ds) zero d may h = subst (λ z. def_may z ≡ true) (some_same e d h) (and_parts (def_may e) (defs_may ds) may).0
entry_may (e ∷ ds) (suc i) d may h = entry_may ds i d (and_parts (def_may e) (defs_may ds) may).1 h

some_member : (all : List (List ℕ)) → not (is_empty all) ≡ true → (first : List ℕ) × (others : List (List ℕ)) × (all ≡ first ∷ others)
some_member [] h = absurd (false≢true h)
some_member (first ∷ others) h = (first, others, refl)

module _ (table : List TypeDef) (is_table : IsTable table) (may : defs_may table ≡ true) where
  all_known_below : (n : ℕ) (is : List ℕ) → AllBelow n is → ((j : ℕ) → j < n → IsKnown (facts table) (type_at (ts table) j))
      → AreKnown (facts table) (types_at (ts table) is)
  all_known_below n [] b go = tt
  all_known_below n (i ∷ is) b go = (go i b.0, all_known_below n is b.1 go)

  known_entry : (i : ℕ) (o : Option TypeDef) → slice_get table i ≡ o → ((j : ℕ) → j < i → IsKnown (facts table) (type_at (ts table) j))
      → IsKnown (facts table) (meant_at (ts table) o)
  known_entry i None e go = tt
  known_entry i (Some D.Int) e go = tt
  known_entry i (Some D.Bool) e go = tt
  known_entry i (Some D.Char) e go = tt
  known_entry i (Some D.Text) e go = tt
  known_entry i (Some (D.Seq j)) e go = tt
  known_entry i (Some (D.Param n)) e go = tt
  known_entry i (Some (D.Enum name at all)) e go =
      let m = some_member all (and_parts (not (is_empty all)) _ (entry_may table i (D.Enum name at all) may e)).0 in
      (m.0, m.1, said_by table is_table i (Some (D.Enum name at all)) e ∙ ap (λ z. Some (members z)) m.2)
  known_entry i (Some (D.Array n j)) e go = go j (within_first table i (D.Array n j) is_table e)
  known_entry i (Some (D.Tuple names is)) e go = all_known_below i is (within_first table i (D.Tuple names is) is_table e) go
  known_entry i (Some (D.Object name at is all own_hooks tys)) e go = tt
  known_entry i (Some (D.Distinct name at j)) e go = tt
  known_entry i (Some (D.Ref name j)) e go = tt
  known_entry i (Some (D.Exception name at parent)) e go = tt

  known_below : (m i : ℕ) → i < m → IsKnown (facts table) (type_at (ts table) i)
  known_below zero i h = absurd (omega (arith, h))
  known_below (suc m) i h =
      subst (λ t. IsKnown (facts table) t) (sym (entry_type table is_table i))
      (known_entry i (slice_get table i) refl (λ j less. known_below m j (omega (arith, less, h))))

  known_at : (i : ℕ) → IsKnown (facts table) (type_at (ts table) i)
  known_at i = known_below (suc i) i (omega arith)

  all_known : (is : List ℕ) → AreKnown (facts table) (types_at (ts table) is)
  all_known [] = tt
  all_known (i ∷ is) = (known_at i, all_known is)

  object_known : (o : Option (List Field)) (own_hooks : Bool) (fact : Fact) → ((fs : List Field) → o ≡ Some fs → AreKnown (facts table) (types_of fs))
      → fields_fact o own_hooks ≡ Some fact → KnownFact (facts table) fact
  object_known None own_hooks fact go e = absurd (none_some fact e)
  object_known (Some fs) own_hooks fact go e = subst (λ z. KnownFact (facts table) z) (some_same (fields fs own_hooks) fact e) (go fs refl)

  said_known : (d : TypeDef) (fact : Fact) → said_of (ts table) d ≡ Some fact → KnownFact (facts table) fact
  said_known (D.Enum name at all) fact e = subst (λ z. KnownFact (facts table) z) (some_same (members all) fact e) tt
  said_known (D.Object name at is all own_hooks tys) fact e =
      object_known (fields_with (ts table) all tys) own_hooks fact
      (λ fs w. subst (λ z. AreKnown (facts table) z) (sym (fields_types (ts table) all tys fs w)) (all_known tys)) e
  said_known (D.Distinct name at i) fact e = subst (λ z. KnownFact (facts table) z) (some_same (base (type_at (ts table) i)) fact e) (known_at i)
  said_known (D.Exception name at parent) fact e = subst (λ z. KnownFact (facts table) z) (some_same _ fact e) tt
  said_known d fact e = absurd (none_some fact e)

  known_said : (u ty : Ty) (o : Option Fact) (rest : Facts) (fact : Fact) → ((f : Fact) → o ≡ Some f → KnownFact (facts table) f)
      → (fact_of rest ty ≡ Some fact → KnownFact (facts table) fact) → fact_of (and_said u o rest) ty ≡ Some fact → KnownFact (facts table) fact
  known_said u ty None rest fact go more e = more e
  known_said u ty (Some f) rest fact go more e = by (same u ty) e
    where
      by : (b : Bool) → if_same b f (fact_of rest ty) ≡ Some fact → KnownFact (facts table) fact
      by true e = subst (λ z. KnownFact (facts table) z) (some_same f fact e) (go f refl)
      by false e = more e

  facts_known : (ds : List TypeDef) (ty : Ty) (fact : Fact) → fact_of (facts_over (ts table) ds) ty ≡ Some fact → KnownFact (facts table) fact
  facts_known [] ty fact e = absurd (none_some fact e)
  facts_known (d ∷ ds) ty fact e =
      known_said (meant (ts table) d) ty (said_of (ts table) d) (facts_over (ts table) ds) fact (said_known d) (facts_known ds ty fact) e

  pub type_default : HaveForms table → (ty : ℕ)
      → has_shape (default_of (facts table) (type_at (ts table) ty)) (shape_of (facts table) (type_at (ts table) ty)) ≡ true
  type_default have ty =
      let h = has_form table is_table have ty in
      ap (λ f. has_shape (blank f) (shape_of (facts table) (type_at (ts table) ty))) (the_form h.1)
      ∙ starts table (facts_known table) h.1 (known_at ty)

  pub type_seen : HaveForms table → (ty : ℕ) (v : Value)
      → looked_as (form_of (facts table) (type_at (ts table) ty)) v ≡ seen_in (shape_of (facts table) (type_at (ts table) ty)) v
  type_seen have ty v =
      let h = has_form table is_table have ty in
      ap (λ f. looked_as f v) (the_form h.1) ∙ seen_is table (facts_known table) v h.1 (known_at ty)

  pub type_blank : HaveForms table → (ty : ℕ)
      → default_of (facts table) (type_at (ts table) ty) ≡ blank_in (shape_of (facts table) (type_at (ts table) ty))
  type_blank have ty =
      let h = has_form table is_table have ty in
      ap blank (the_form h.1) ∙ blank_is table (facts_known table) h.1 (known_at ty)
