-- What the kind of a type says of its shape: what is compared, what has fields, and what is converted to what.
use Rattle.std.proofs.Common.{◌≡◌, ◌⊎◌, inl, inr, ℕ, zero, suc, ◌≤◌, ◌<◌, List, [], ◌∷◌, length, Option, Some, None, Bool}
use Rattle.std.proofs.Common.{true, false, refl, sym, ap, ap₂, subst, ◌∙◌}
use Rattle.std.specs.Prelude.{slice_get, ◌&&◌, ◌||◌}
use Rattle.std.proofs.lemmas.Bool.{and_parts, cases_Bool, cases_lt, le-ltb, lt-ltb, true≢false}
use Rattle.nim_types.specs.declared.types.TypeDef.{TypeDef}
use Rattle.nim_types.specs.declared.types.TypeDef.TheVariants as D
use Rattle.nim_types.specs.Types as type
use Rattle.nim_types.specs.Types.{Ty, Tys, Field, members_in, Facts, fact_of, same}
use Rattle.nim_types.specs.Forms.{Form, HasForm, hooked, form_of}
use Rattle.nim_types.specs.Table.{type_at, key_of, types_in, fields_with, fields_fact, facts_in, IsTable}
use Rattle.nim_types.specs.Entries.{meant_at, said_at}
use Rattle.nim_types.proofs.ForCallers.{the_form, by_entry, said_by, same_sound}
use Rattle.nim_program.specs.declared.operation.Comparison.{Comparison}
use Rattle.nim_program.specs.declared.operation.Comparison.TheVariants as C
use Rattle.nim_program.specs.declared.operation.Operation.TheVariants as O
use Rattle.nim_program.specs.Ints.{fits as is_int_number, inside}
use Rattle.nim_program.specs.Kinds as kind
use Rattle.nim_program.specs.Kinds.{TypeKind, declared_kind, kind_of, plain_kind, field_at, nth_type, is_int, is_ordinal, is_shown, is_ref, is_compared}
use Rattle.nim_program.specs.Kinds.{is_resource}
use Rattle.nim_program.specs.Fitting.{is_built, is_converted, is_base_of}
use Rattle.nim_meaning.specs.Values.{Value, Number}
use Rattle.nim_meaning.specs.Table.{limit_of}
use Rattle.flat_code.specs.Fits.{operation_fits}
use Rattle.flat_code.specs.Shapes.{Shape, number, reference, block, elements, row, parts, resource, Shapes, no_shapes, shapes, shape_of, has_shape}
use Rattle.flat_code.proofs.ForCallers.{sorted_table, shapes_of, Matches, shaped, plain_shaped, is_free, are_free, free_of}
use Rattle.word_lowering.specs.OwnedCode.{is_text}
use Rattle.word_lowering.specs.Stored.{entry_at, is_hooked, limit_in, limit_at, HaveForms}
use Rattle.word_lowering.proofs.Options.{none_some, some_same}
use Rattle.word_lowering.proofs.ShapeFacts.{never, nth_shape, of_numbers, all_of_numbers}
use Rattle.word_lowering.proofs.TypeShapes.{beyond_int, has_form, type_no_text}
use Rattle.word_lowering.proofs.BlankShapes.{of_handles}
use Rattle.word_lowering.proofs.Sites.{is_one_word}

-- ---- shapes

mutual
  pub free_numbers : (s : Shape) → is_free s ≡ of_numbers s
  free_numbers (number values) = refl
  free_numbers reference = refl
  free_numbers block = refl
  free_numbers (elements s) = refl
  free_numbers (row zero s) = refl
  free_numbers (row (suc n) s) = free_numbers s
  free_numbers (parts ss) = all_free_numbers ss
  free_numbers (resource ss) = refl

  all_free_numbers : (ss : Shapes) → are_free ss ≡ all_of_numbers ss
  all_free_numbers no_shapes = refl
  all_free_numbers (shapes s ss) = ap₂ (λ a b. a && b) (free_numbers s) (all_free_numbers ss)

-- each ordinal is an int
wider : (v : Value) (values : Option ℕ) → has_shape v (number values) ≡ true → has_shape v (number None) ≡ true
wider (Number z) None h = h
wider (Number z) (Some n) h = (and_parts (is_int_number z) (inside z n) h).0
wider v values h = never h

-- converted with a check
abbrev is_narrow : TypeKind → Bool
is_narrow kind.char = true
is_narrow (kind.enum n) = true
is_narrow k = false

module _ (table : List TypeDef) where
  abbrev facts : Facts
  facts = facts_in table

  abbrev ts : List Ty
  ts = types_in table

  -- ---- by the kind

  ordinal_at : (k : TypeKind) (s : Shape) → Matches facts k s → is_ordinal k ≡ true → (values : Option ℕ) × (s ≡ number values)
  ordinal_at kind.int s m h = (None, m)
  ordinal_at kind.bool s m h = (Some 2, m)
  ordinal_at kind.char s m h = (Some 256, m)
  ordinal_at (kind.enum n) s m h = (Some n, m)
  ordinal_at k s m h = never h

  int_at : (k : TypeKind) (s : Shape) → Matches facts k s → is_int k ≡ true → s ≡ number None
  int_at kind.int s m h = m
  int_at k s m h = never h

  resource_at : (k : TypeKind) (s : Shape) → Matches facts k s → is_resource k ≡ true → of_numbers s ≡ false
  resource_at (kind.object true tys) s m h = ap of_numbers m
  resource_at (kind.object false tys) s m h = never h
  resource_at k s m h = never h

  shown_at : (k : TypeKind) (s : Shape) → Matches facts k s → is_shown k ≡ true → of_numbers s ≡ true → (values : Option ℕ) × (s ≡ number values)
  shown_at kind.int s m h n = (None, m)
  shown_at kind.bool s m h n = (Some 2, m)
  shown_at kind.char s m h n = (Some 256, m)
  shown_at (kind.enum k) s m h n = (Some k, m)
  shown_at kind.parameter s m h n = (None, m)
  shown_at kind.text s m h n = never (sym (ap of_numbers m) ∙ n)
  shown_at k s m h n = never h

  ref_at : (k : TypeKind) (s : Shape) → Matches facts k s → is_ref k ≡ true → of_numbers s ≡ false
  ref_at (kind.ref t) s m h = ap of_numbers m
  ref_at k s m h = never h

  compared_is : (c : Comparison) (k : TypeKind) → is_compared c k ≡ true → (is_shown k ≡ true) ⊎ (is_ref k ≡ true)
  compared_is C.Equal (kind.ref t) h = inr refl
  compared_is C.Unequal (kind.ref t) h = inr refl
  compared_is c k h = inl h

  nth_is : (tys : Tys) (i : ℕ) (t : Ty) → nth_type tys i ≡ Some t → nth_shape (shapes_of facts tys) i ≡ Some (shape_of facts t)
  nth_is type.no_types i t e = absurd (none_some t e)
  nth_is (type.types u us) zero t e = ap (λ z. Some (shape_of facts z)) (some_same u t e)
  nth_is (type.types u us) (suc i) t e = nth_is us i t e

  abbrev Fields : Shape → ℕ → Ty → Type 0
  Fields s field of = (all : Shapes) × (s ≡ parts all) × (nth_shape all field ≡ Some (shape_of facts of))

  fields_at : (k : TypeKind) (s : Shape) → Matches facts k s → (field : ℕ) (of : Ty) → field_at k field ≡ Some of → of_numbers s ≡ true
      → of_numbers (shape_of facts of) ≡ true → Fields s field of
  fields_at (kind.tuple tys) s m field of e n o = (shapes_of facts tys, m, nth_is tys field of e)
  fields_at (kind.object true tys) s m field of e n o = never (sym (ap of_numbers m) ∙ n)
  fields_at (kind.object false tys) s m field of e n o = (shapes_of facts tys, m, nth_is tys field of e)
  fields_at kind.exception s m zero of e n o = never (ap (λ z. of_numbers (shape_of facts z)) (some_same type.text of e) ∙ o)
  fields_at kind.exception s m (suc field) of e n o = absurd (none_some of e)
  fields_at k s m field of e n o = absurd (none_some of e)

  -- whatever they have
  built_at : (k : TypeKind) (s : Shape) → Matches facts k s → (field : ℕ) (of : Ty) → field_at k field ≡ Some of → of_handles s ≡ true
      → is_one_word s ≡ false → Fields s field of
  built_at (kind.tuple tys) s m field of e n o = (shapes_of facts tys, m, nth_is tys field of e)
  built_at (kind.object true tys) s m field of e n o = never (sym (ap of_handles m) ∙ n)
  built_at (kind.object false tys) s m field of e n o = (shapes_of facts tys, m, nth_is tys field of e)
  built_at kind.exception s m field of e n o = never (sym o ∙ ap is_one_word m)
  built_at k s m field of e n o = absurd (none_some of e)

  abbrev Parts : TypeKind → Shape → Type 0
  Parts k s = (all : Shapes) × (s ≡ parts all) × ((field : ℕ) (of : Ty) → field_at k field ≡ Some of → nth_shape all field ≡ Some (shape_of facts of))

  object_at : (k : TypeKind) (s : Shape) → Matches facts k s → is_built k ≡ true → of_numbers s ≡ true → Parts k s
  object_at (kind.object true tys) s m h n = never (sym (ap of_numbers m) ∙ n)
  object_at (kind.object false tys) s m h n = (shapes_of facts tys, m, λ field of e. nth_is tys field of e)
  object_at k s m h n = never h

  built_object_at : (k : TypeKind) (s : Shape) → Matches facts k s → is_built k ≡ true → of_handles s ≡ true → Parts k s
  built_object_at (kind.object true tys) s m h n = never (sym (ap of_handles m) ∙ n)
  built_object_at (kind.object false tys) s m h n = (shapes_of facts tys, m, λ field of e. nth_is tys field of e)
  built_object_at k s m h n = never h

  -- ---- limits

  limit_same : (o : Option TypeDef) → fact_of facts (meant_at ts o) ≡ said_at ts o → limit_in o ≡ limit_of facts (meant_at ts o)
  limit_same (Some (D.Enum name at all)) said = ap (λ f. Some (length (members_in f))) (sym said)
  limit_same None said = refl
  limit_same (Some D.Int) said = refl
  limit_same (Some D.Bool) said = refl
  limit_same (Some D.Char) said = refl
  limit_same (Some D.Text) said = refl
  limit_same (Some (D.Seq i)) said = refl
  limit_same (Some (D.Param n)) said = refl
  limit_same (Some (D.Array n i)) said = refl
  limit_same (Some (D.Tuple names is)) said = refl
  limit_same (Some (D.Object name at is all own tys)) said = refl
  limit_same (Some (D.Distinct name at i)) said = refl
  limit_same (Some (D.Ref name i)) said = refl
  limit_same (Some (D.Exception name at parent)) said = refl

  -- none, or that of a number that is checked
  abbrev Limits : Ty → Type 0
  Limits ty = ((limit_of facts ty ≡ None) × (is_narrow (kind_of facts ty) ≡ false))
      ⊎ ((values : ℕ) × (limit_of facts ty ≡ Some values) × (shape_of facts ty ≡ number (Some values)))

  fields_wide : (o : Option (List Field)) (own : Bool) → is_narrow (declared_kind (fields_fact o own)) ≡ false
  fields_wide None own = refl
  fields_wide (Some fs) own = refl

  limits_at : (o : Option TypeDef) (f : Form) → HasForm facts (meant_at ts o) f → fact_of facts (meant_at ts o) ≡ said_at ts o → Limits (meant_at ts o)
  limits_at None f has said = inl (refl, refl)
  limits_at (Some D.Int) f has said = inl (refl, refl)
  limits_at (Some D.Bool) f has said = inl (refl, refl)
  limits_at (Some D.Char) f has said = inr (256, refl, refl)
  limits_at (Some D.Text) f has said = inl (refl, refl)
  limits_at (Some (D.Seq i)) f has said = inl (refl, refl)
  limits_at (Some (D.Param n)) f has said = inl (refl, refl)
  limits_at (Some (D.Enum name at all)) f has said = inr (
    length all,
    ap (λ o. Some (length (members_in o))) said,
    subst (λ o. Matches facts (declared_kind o) (shape_of facts (type.enum (key_of name at)))) said (shaped facts (sorted_table table) has).matches,
  )
  limits_at (Some (D.Array n i)) f has said = inl (refl, refl)
  limits_at (Some (D.Tuple names is)) f has said = inl (refl, refl)
  limits_at (Some (D.Object name at is all own tys)) f has said =
      inl (refl, ap (λ o. is_narrow (declared_kind o)) said ∙ fields_wide (fields_with ts all tys) own)
  limits_at (Some (D.Distinct name at i)) f has said = inl (refl, ap (λ o. is_narrow (declared_kind o)) said)
  limits_at (Some (D.Ref name i)) f has said = inl (refl, refl)
  limits_at (Some (D.Exception name at parent)) f has said = inl (refl, ap (λ o. is_narrow (declared_kind o)) said)

  -- ---- conversions

  -- a value of the other type looks the same, or is a number
  abbrev Comes : TypeKind → Shape → Ty → Type 0
  Comes k s from = (shape_of facts from ≡ s)
      ⊎ ((other : Option ℕ) × (shape_of facts from ≡ number other) × ((is_narrow k ≡ true) ⊎ (s ≡ number None)))

  converted_at : (k : TypeKind) (s : Shape) (from : Ty) → Matches facts k s → Matches facts (kind_of facts from) (shape_of facts from)
      → is_converted k from (kind_of facts from) ≡ true → Comes k s from
  converted_at kind.int s from m other h =
      let r = ordinal_at (kind_of facts from) (shape_of facts from) other h in inr (r.0, r.1, inr m)
  converted_at kind.char s from m other h = inr (None, int_at (kind_of facts from) (shape_of facts from) other h, inl refl)
  converted_at (kind.enum n) s from m other h = inr (None, int_at (kind_of facts from) (shape_of facts from) other h, inl refl)
  converted_at (kind.distinct base) s from m other h = inl (sym (m ∙ ap (shape_of facts) (same_sound base from h)))
  converted_at k s from m other h = never h

  base_at : (k : TypeKind) (s : Shape) (ty : Ty) → Matches facts k s → is_base_of k ty ≡ true → s ≡ shape_of facts ty
  base_at (kind.distinct base) s ty m h = m ∙ ap (shape_of facts) (same_sound base ty h)
  base_at k s ty m h = never h

  -- ---- of the types of a table

  module _ (is_table : IsTable table) (have : HaveForms table) where
    shaped_at : (ty : ℕ) → Matches facts (kind_of facts (type_at ts ty)) (shape_of facts (type_at ts ty))
    shaped_at ty = (shaped facts (sorted_table table) (has_form table is_table have ty).1).matches

    plain_at : (ty : ℕ) → Matches facts (plain_kind facts (type_at ts ty)) (shape_of facts (type_at ts ty))
    plain_at ty = (plain_shaped facts (sorted_table table) (has_form table is_table have ty).1).matches

    pub type_unhooked : (ty : ℕ) → is_hooked table ty ≡ false → hooked (form_of facts (type_at ts ty)) ≡ false
    type_unhooked ty h = by (cases_lt ty (length table))
      where
        by : (ty < length table) ⊎ (length table ≤ ty) → hooked (form_of facts (type_at ts ty)) ≡ false
        by (inl lt) = sym (ap (λ b. b && hooked (form_of facts (type_at ts ty))) (lt-ltb ty (length table) lt)) ∙ h
        by (inr ge) = ap (λ t. hooked (form_of facts t)) (beyond_int table is_table have ty ge)

    -- a type beyond the table is that of ints
    pub type_hooked : (ty : ℕ) → is_hooked table ty ≡ hooked (form_of facts (type_at ts ty))
    type_hooked ty = by (cases_lt ty (length table))
      where
        by : (ty < length table) ⊎ (length table ≤ ty) → is_hooked table ty ≡ hooked (form_of facts (type_at ts ty))
        by (inl lt) = ap (λ b. b && hooked (form_of facts (type_at ts ty))) (lt-ltb ty (length table) lt)
        by (inr ge) =
            ap (λ b. b && hooked (form_of facts (type_at ts ty))) (le-ltb ty (length table) ge)
            ∙ sym (ap (λ t. hooked (form_of facts t)) (beyond_int table is_table have ty ge))

    pub type_plain : (ty : ℕ) → is_hooked table ty ≡ false → of_numbers (shape_of facts (type_at ts ty)) ≡ true
    type_plain ty h = by (cases_lt ty (length table))
      where
        by : (ty < length table) ⊎ (length table ≤ ty) → of_numbers (shape_of facts (type_at ts ty)) ≡ true
        by (inl lt) =
            let f = have ty lt in
            sym (free_numbers (shape_of facts (type_at ts ty)))
            ∙ free_of facts (sorted_table table) f.1 (sym (ap hooked (the_form f.1)) ∙ type_unhooked ty h)
        by (inr ge) = ap (λ t. of_numbers (shape_of facts t)) (beyond_int table is_table have ty ge)

    pub type_resource : (ty : ℕ) → is_resource (kind_of facts (type_at ts ty)) ≡ true → of_numbers (shape_of facts (type_at ts ty)) ≡ false
    type_resource ty h = resource_at (kind_of facts (type_at ts ty)) (shape_of facts (type_at ts ty)) (shaped_at ty) h

    pub type_compared : (ty : ℕ) (comparison : Comparison) → is_compared comparison (plain_kind facts (type_at ts ty)) ≡ true
        → is_hooked table ty ≡ false → (values : Option ℕ) × (shape_of facts (type_at ts ty) ≡ number values) × (is_text (entry_at table ty) ≡ false)
    type_compared ty comparison h unhooked =
        let n = by (compared_is comparison k h) in (n.0, n.1, type_no_text table is_table have ty (type_plain ty unhooked))
      where
        k : TypeKind
        k = plain_kind facts (type_at ts ty)

        s : Shape
        s = shape_of facts (type_at ts ty)

        by : (is_shown k ≡ true) ⊎ (is_ref k ≡ true) → (values : Option ℕ) × (s ≡ number values)
        by (inl shown) = shown_at k s (plain_at ty) shown (type_plain ty unhooked)
        by (inr ref) = never (sym (ref_at k s (plain_at ty) ref) ∙ type_plain ty unhooked)

    pub type_fields : (ty field : ℕ) (of : Ty) → field_at (kind_of facts (type_at ts ty)) field ≡ Some of
        → of_numbers (shape_of facts (type_at ts ty)) ≡ true → of_numbers (shape_of facts of) ≡ true
        → Fields (shape_of facts (type_at ts ty)) field of
    type_fields ty field of e n o = fields_at (kind_of facts (type_at ts ty)) (shape_of facts (type_at ts ty)) (shaped_at ty) field of e n o

    pub type_built : (ty field : ℕ) (of : Ty) → field_at (kind_of facts (type_at ts ty)) field ≡ Some of
        → of_handles (shape_of facts (type_at ts ty)) ≡ true → is_one_word (shape_of facts (type_at ts ty)) ≡ false
        → Fields (shape_of facts (type_at ts ty)) field of
    type_built ty field of e n o = built_at (kind_of facts (type_at ts ty)) (shape_of facts (type_at ts ty)) (shaped_at ty) field of e n o

    pub type_object : (ty : ℕ) → is_built (kind_of facts (type_at ts ty)) ≡ true → of_numbers (shape_of facts (type_at ts ty)) ≡ true
        → Parts (kind_of facts (type_at ts ty)) (shape_of facts (type_at ts ty))
    type_object ty h n = object_at (kind_of facts (type_at ts ty)) (shape_of facts (type_at ts ty)) (shaped_at ty) h n

    pub type_built_object : (ty : ℕ) → is_built (kind_of facts (type_at ts ty)) ≡ true → of_handles (shape_of facts (type_at ts ty)) ≡ true
        → Parts (kind_of facts (type_at ts ty)) (shape_of facts (type_at ts ty))
    type_built_object ty h n = built_object_at (kind_of facts (type_at ts ty)) (shape_of facts (type_at ts ty)) (shaped_at ty) h n

    pub type_limit : (ty : ℕ) → limit_at table (Some ty) ≡ limit_of facts (type_at ts ty)
    type_limit ty =
        let is = by_entry table is_table ty (slice_get table ty) refl in
        limit_same (slice_get table ty) (said_by table is_table ty (slice_get table ty) refl) ∙ ap (limit_of facts) (sym is)

    limits : (ty : ℕ) → Limits (type_at ts ty)
    limits ty =
        let is = by_entry table is_table ty (slice_get table ty) refl in
        let h = has_form table is_table have ty in
        subst Limits (sym is)
        (limits_at (slice_get table ty) h.0 (subst (λ t. HasForm facts t h.0) is h.1) (said_by table is_table ty (slice_get table ty) refl))

    comes : (ty from : ℕ) → operation_fits facts O.Convert (Some (type_at ts ty)) (Some (type_at ts from) ∷ []) ≡ true
        → Comes (kind_of facts (type_at ts ty)) (shape_of facts (type_at ts ty)) (type_at ts from)
    comes ty from h = by (cases_Bool (is_converted to other (kind_of facts other))) h
      where
        other : Ty
        other = type_at ts from

        to : TypeKind
        to = kind_of facts (type_at ts ty)

        whole : Shape
        whole = shape_of facts (type_at ts ty)

        by : (is_converted to other (kind_of facts other) ≡ true) ⊎ (is_converted to other (kind_of facts other) ≡ false)
            → (is_converted to other (kind_of facts other) || is_base_of (kind_of facts other) (type_at ts ty)) ≡ true → Comes to whole other
        by (inl e) h = converted_at to whole other (shaped_at ty) (shaped_at from) e
        by (inr e) h =
            inl (base_at (kind_of facts other) (shape_of facts other) (type_at ts ty) (shaped_at from)
            (sym (ap (λ b. b || is_base_of (kind_of facts other) (type_at ts ty)) e) ∙ h))

    abbrev pub Converts : Ty → Ty → Type 0
    Converts ty from = ((limit_of facts ty ≡ None) × ((v : Value) → has_shape v (shape_of facts from) ≡ true → has_shape v (shape_of facts ty) ≡ true)
        × ((shape_of facts from ≡ shape_of facts ty) ⊎ ((of_numbers (shape_of facts from) ≡ true) × (of_numbers (shape_of facts ty) ≡ true))))
        ⊎ ((values : ℕ) × (other : Option ℕ) × (limit_of facts ty ≡ Some values) × (shape_of facts ty ≡ number (Some values))
        × (shape_of facts from ≡ number other))

    pub type_converted : (ty from : ℕ) → operation_fits facts O.Convert (Some (type_at ts ty)) (Some (type_at ts from) ∷ []) ≡ true
        → Converts (type_at ts ty) (type_at ts from)
    type_converted ty from h = by (limits ty) (comes ty from h)
      where
        to : Ty
        to = type_at ts ty

        other : Ty
        other = type_at ts from

        by : Limits to → Comes (kind_of facts to) (shape_of facts to) other → Converts to other
        by (inl l) (inl same) = inl (l.0, (λ v s. subst (λ t. has_shape v t ≡ true) same s), inl same)
        by (inl l) (inr (values, is, inl narrow)) = absurd (true≢false (sym narrow ∙ l.1))
        by (inl l) (inr (values, is, inr int)) =
            inl (
              l.0,
              (λ v s. subst (λ t. has_shape v t ≡ true) (sym int) (wider v values (subst (λ t. has_shape v t ≡ true) is s))),
              inr (ap of_numbers is, ap of_numbers int),
            )
        by (inr l) (inl same) = inr (l.0, Some l.0, l.1, l.2, same ∙ l.2)
        by (inr l) (inr c) = inr (l.0, c.0, l.1, l.2, c.1)
