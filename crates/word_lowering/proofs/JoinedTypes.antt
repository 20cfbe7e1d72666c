-- What is joined to a text is a text or a character, and what is compared is a text where it is no word, by the entry of its type too.
use Rattle.std.proofs.Common.{◌≡◌, ◌⊎◌, inl, inr, ℕ, List, length, Option, Some, None, Bool, true, false, refl, sym, ap, subst, ◌∙◌}
use Rattle.std.specs.Prelude.{slice_get}
use Rattle.nim_types.specs.declared.types.TypeDef.{TypeDef}
use Rattle.nim_types.specs.declared.types.TypeDef.TheVariants as D
use Rattle.nim_types.specs.Types as type
use Rattle.nim_types.specs.Types.{Facts, Ty, fact_of}
use Rattle.nim_types.specs.Table.{IsTable, facts_in, type_at, types_in}
use Rattle.nim_types.specs.Entries.{meant_at}
use Rattle.nim_types.proofs.ForCallers.{by_entry}
use Rattle.nim_program.specs.declared.operation.Comparison.{Comparison}
use Rattle.nim_program.specs.declared.operation.Comparison.TheVariants as C
use Rattle.nim_program.specs.Kinds as kind
use Rattle.nim_program.specs.Kinds.{TypeKind, declared_kind, is_compared, is_joined, is_ref, is_shown, is_text, kind_of, plain_kind}
use Rattle.flat_code.specs.Shapes.{Shape, Shapes, block, object_shape, shape_of}
use Rattle.flat_code.proofs.ForCallers.{Matches, plain_shaped, sorted_table}
use Rattle.word_lowering.specs.Stored.{HaveForms, entry_at}
use Rattle.word_lowering.proofs.BlankShapes.{of_handles}
use Rattle.word_lowering.proofs.LineFits.{declared_other}
use Rattle.word_lowering.proofs.ShapeFacts.{never}
use Rattle.word_lowering.proofs.TypeEntries.{base_stays}
use Rattle.word_lowering.proofs.Sites.{is_one_word}
use Rattle.word_lowering.proofs.TypeShapes.{Looks, Stays, has_form, type_looks}

-- the entry of a type, where values of it are joined to texts
abbrev pub Joined : Option TypeDef → Ty → Type 0
Joined entry ty = (entry ≡ Some D.Text) ⊎ ((entry ≡ Some D.Char) × (ty ≡ type.char))

-- ---- what looks as a text

is_block : Shape → Bool
is_block block = true
is_block s = false

no_object : (own : Bool) (ss : Shapes) → is_block (object_shape own ss) ≡ false
unfolding is_block
no_object true ss = refl
no_object false ss = refl

pub text_entry : (ds : List TypeDef) (o : Option TypeDef) (s : Shape) → Looks ds o s → s ≡ block → o ≡ Some D.Text
unfolding is_block
text_entry ds None s l e = never (ap is_block (sym l ∙ e))
text_entry ds (Some D.Int) s l e = never (ap is_block (sym l ∙ e))
text_entry ds (Some D.Bool) s l e = never (ap is_block (sym l ∙ e))
text_entry ds (Some D.Char) s l e = never (ap is_block (sym l ∙ e))
text_entry ds (Some D.Text) s l e = refl
text_entry ds (Some (D.Seq i)) s l e = never (ap is_block (sym l ∙ e))
text_entry ds (Some (D.Param n)) s l e = never (ap is_block (sym l ∙ e))
text_entry ds (Some (D.Enum name at all)) s l e = never (ap is_block (sym l ∙ e))
text_entry ds (Some (D.Array n i)) s l e = never (ap is_block (sym l ∙ e))
text_entry ds (Some (D.Tuple names is)) s l e = never (ap is_block (sym l ∙ e))
text_entry ds (Some (D.Object name at is all own parts)) s l e = never (sym (no_object own _) ∙ ap is_block (sym l ∙ e))
text_entry ds (Some (D.Distinct name at i)) s l e = absurd l
text_entry ds (Some (D.Ref name i)) s l e = never (ap is_block (sym l ∙ e))
text_entry ds (Some (D.Exception name at parent)) s l e = never (ap is_block (sym l ∙ e))

module _ (ds : List TypeDef) (table : IsTable ds) where
  abbrev ts : List Ty
  ts = types_in ds

  abbrev facts : Facts
  facts = facts_in ds

  declared_no : (ty : Ty) → is_joined (declared_kind (fact_of facts ty)) ≡ true → ⊥
  declared_no ty h = never (sym (declared_other is_joined (λ n. refl) (λ own ts. refl) (λ t. refl) refl refl (fact_of facts ty)) ∙ h)

  joined_by : (o : Option TypeDef) → is_joined (kind_of facts (meant_at ts o)) ≡ true → Joined o (meant_at ts o)
  joined_by None h = never h
  joined_by (Some D.Int) h = never h
  joined_by (Some D.Bool) h = never h
  joined_by (Some D.Char) h = inr (refl, refl)
  joined_by (Some D.Text) h = inl refl
  joined_by (Some (D.Seq i)) h = never h
  joined_by (Some (D.Param n)) h = never h
  joined_by (Some (D.Enum name at all)) h = absurd (declared_no (meant_at ts (Some (D.Enum name at all))) h)
  joined_by (Some (D.Array n i)) h = never h
  joined_by (Some (D.Tuple names is)) h = never h
  joined_by (Some (D.Object name at is all own parts)) h = absurd (declared_no (meant_at ts (Some (D.Object name at is all own parts))) h)
  joined_by (Some (D.Distinct name at i)) h = absurd (declared_no (meant_at ts (Some (D.Distinct name at i))) h)
  joined_by (Some (D.Ref name i)) h = never h
  joined_by (Some (D.Exception name at parent)) h = absurd (declared_no (meant_at ts (Some (D.Exception name at parent))) h)

  pub type_joined : (ty : ℕ) → is_joined (kind_of facts (type_at ts ty)) ≡ true → Joined (entry_at ds ty) (type_at ts ty)
  type_joined ty h = by (slice_get ds ty) refl (joined_by (slice_get ds ty) (subst (λ t. is_joined (kind_of facts t) ≡ true) is h))
    where
      is : type_at ts ty ≡ meant_at ts (slice_get ds ty)
      is = by_entry ds table ty (slice_get ds ty) refl

      at_base : (o : Option TypeDef) → slice_get ds ty ≡ o → Stays o → entry_at ds ty ≡ o
      at_base o e s = ap (slice_get ds) (base_stays ds table (length ds) ty o e s) ∙ e

      by : (o : Option TypeDef) → slice_get ds ty ≡ o → Joined o (meant_at ts (slice_get ds ty)) → Joined (entry_at ds ty) (type_at ts ty)
      by o e (inl text) = inl (at_base (Some D.Text) (e ∙ text) (λ go j. refl))
      by o e (inr char) = inr (at_base (Some D.Char) (e ∙ char.0) (λ go j. refl), is ∙ char.1)

  -- ---- what is compared

  compared_is : (c : Comparison) (k : TypeKind) → is_compared c k ≡ true → (is_shown k ≡ true) ⊎ (is_ref k ≡ true)
  compared_is C.Equal (kind.ref t) h = inr refl
  compared_is C.Unequal (kind.ref t) h = inr refl
  compared_is c k h = inl h

  shown_block : (k : TypeKind) (s : Shape) → Matches facts k s → is_shown k ≡ true → is_one_word s ≡ false → s ≡ block
  shown_block kind.int s m h many = never (sym many ∙ ap is_one_word m)
  shown_block kind.bool s m h many = never (sym many ∙ ap is_one_word m)
  shown_block kind.char s m h many = never (sym many ∙ ap is_one_word m)
  shown_block (kind.enum k) s m h many = never (sym many ∙ ap is_one_word m)
  shown_block kind.parameter s m h many = never (sym many ∙ ap is_one_word m)
  shown_block kind.text s m h many = m
  shown_block k s m h many = never h

  ref_no : {A : Type 0} (k : TypeKind) (s : Shape) → Matches facts k s → is_ref k ≡ true → of_handles s ≡ true → A
  ref_no (kind.ref t) s m h handles = never (sym (ap of_handles m) ∙ handles)
  ref_no k s m h handles = never h

  module _ (have : HaveForms ds) where
    pub type_compared_text : (ty : ℕ) (c : Comparison) → is_compared c (plain_kind facts (type_at ts ty)) ≡ true
        → is_one_word (shape_of facts (type_at ts ty)) ≡ false → of_handles (shape_of facts (type_at ts ty)) ≡ true → entry_at ds ty ≡ Some D.Text
    type_compared_text ty c h many handles = by (compared_is c (plain_kind facts (type_at ts ty)) h)
      where
        matches : Matches facts (plain_kind facts (type_at ts ty)) (shape_of facts (type_at ts ty))
        matches = (plain_shaped facts (sorted_table ds) (has_form ds table have ty).1).matches

        by : (is_shown (plain_kind facts (type_at ts ty)) ≡ true) ⊎ (is_ref (plain_kind facts (type_at ts ty)) ≡ true) → entry_at ds ty ≡ Some D.Text
        by (inl shown) =
            text_entry ds (entry_at ds ty) (shape_of facts (type_at ts ty)) (type_looks ds table have ty)
            (shown_block (plain_kind facts (type_at ts ty)) (shape_of facts (type_at ts ty)) matches shown many)
        by (inr ref) = ref_no (plain_kind facts (type_at ts ty)) (shape_of facts (type_at ts ty)) matches ref handles

declared_no_text : (facts : Facts) (ty : Ty) → is_text (declared_kind (fact_of facts ty)) ≡ true → ⊥
declared_no_text facts ty h = never (sym (declared_other is_text (λ n. refl) (λ own ts. refl) (λ t. refl) refl refl (fact_of facts ty)) ∙ h)

-- what is a text is the one type of texts, and looks as one
pub text_type : (facts : Facts) (ty : Ty) → is_text (kind_of facts ty) ≡ true → ty ≡ type.text
text_type facts type.text h = refl
text_type facts type.int h = never h
text_type facts type.bool h = never h
text_type facts type.char h = never h
text_type facts (type.sequence t) h = never h
text_type facts (type.array n t) h = never h
text_type facts (type.tuple names ts) h = never h
text_type facts (type.parameter n) h = never h
text_type facts (type.ref name t) h = never h
text_type facts (type.enum key) h = absurd (declared_no_text facts (type.enum key) h)
text_type facts (type.object key arguments) h = absurd (declared_no_text facts (type.object key arguments) h)
text_type facts (type.distinct key) h = absurd (declared_no_text facts (type.distinct key) h)
text_type facts (type.exception key) h = absurd (declared_no_text facts (type.exception key) h)

pub text_looks : (facts : Facts) (ty : Ty) → is_text (kind_of facts ty) ≡ true → shape_of facts ty ≡ block
text_looks facts ty h = ap (shape_of facts) (text_type facts ty h)
