-- What the table says of types that are sequences, and what it says of their elements.
use Rattle.nim_types.specs.Forms.{form_of, size as form_size}
use Rattle.nim_types.specs.Table.{IsTable, facts_in, type_at, types_in}
use Rattle.nim_types.specs.declared.types.TypeDef.{TypeDef}
use Rattle.nim_types.proofs.ForCallers.{by_entry, the_form}
use Rattle.word_lowering.specs.Stored.{HaveForms, base_within, bytes_at, entry_at, base_at, base_or}
use Rattle.word_lowering.proofs.Lines.{Basis}
use Rattle.std.proofs.Common.{List, None, Option, Some, ap, length, refl, subst, suc, sym, true, zero, ℕ, ◌∙◌, ◌≡◌, Bool, false, ◌<◌, ◌^◌}
use Rattle.nim_types.specs.Types.{Ty}
use Rattle.nim_meaning.specs.Values.{blank, default_of}
use Rattle.word_lowering.proofs.BlankShapes.{blank_in, of_handles}
use Rattle.word_lowering.specs.OwnedCode.{each_bytes}
use Rattle.word_lowering.proofs.TypeShapes.{bytes_of, has_form, type_bytes, type_handles}
use Rattle.flat_code.specs.Shapes.{has_shape, shape_of}
use Rattle.nim_types.specs.Entries.{meant_at}
use Rattle.word_lowering.proofs.ShapeFacts.{shape_bytes, never}
use Rattle.std.specs.Prelude.{slice_get}
use Rattle.nim_meaning.specs.Unbuilt.{is_unbuilt}
use Rattle.nim_types.specs.Types as type
use Rattle.nim_types.specs.declared.types.TypeDef.TheVariants as D

abbrev pub is_seq : Ty → Bool
is_seq (type.sequence t) = true
is_seq t = false

abbrev element_or : Ty → Ty → Ty
element_or other (type.sequence t) = t
element_or other t = other

-- what it is, from what the table's entry means
seq_at : (ts : List Ty) (o : Option TypeDef) (e : Ty) → meant_at ts o ≡ type.sequence e → (of : ℕ) × (o ≡ Some (D.Seq of)) × (type_at ts of ≡ e)
seq_at ts (Some (D.Seq i)) e is = (i, refl, ap (element_or e) is)
seq_at ts None e is = never (ap is_seq is)
seq_at ts (Some D.Int) e is = never (ap is_seq is)
seq_at ts (Some D.Bool) e is = never (ap is_seq is)
seq_at ts (Some D.Char) e is = never (ap is_seq is)
seq_at ts (Some D.Text) e is = never (ap is_seq is)
seq_at ts (Some (D.Param n)) e is = never (ap is_seq is)
seq_at ts (Some (D.Enum name at all)) e is = never (ap is_seq is)
seq_at ts (Some (D.Array n i)) e is = never (ap is_seq is)
seq_at ts (Some (D.Tuple names all)) e is = never (ap is_seq is)
seq_at ts (Some (D.Object name at all fields own tys)) e is = never (ap is_seq is)
seq_at ts (Some (D.Distinct name at i)) e is = never (ap is_seq is)
seq_at ts (Some (D.Ref name i)) e is = never (ap is_seq is)
seq_at ts (Some (D.Exception name at parent)) e is = never (ap is_seq is)

module _ (table : List TypeDef) where
  -- its entry, and its elements
  pub record IsSequence (ty : ℕ) (e : Ty) : Type 0 where
    pub of : ℕ
    pub entry : entry_at table ty ≡ Some (D.Seq of)
    pub base : base_at table ty ≡ ty
    pub is : type_at (types_in table) of ≡ e
    pub bytes : each_bytes table (entry_at table ty) ≡ shape_bytes (shape_of (facts_in table) e)
    pub size : form_size (form_of (facts_in table) e) ≡ shape_bytes (shape_of (facts_in table) e)
    pub blank_is : blank (form_of (facts_in table) e) ≡ blank_in (shape_of (facts_in table) e)
    pub shaped : has_shape (blank_in (shape_of (facts_in table) e)) (shape_of (facts_in table) e) ≡ true
    pub small : shape_bytes (shape_of (facts_in table) e) < 2 ^ 32
    pub type_is : type_at (types_in table) ty ≡ type.sequence e
    pub handles : is_unbuilt (facts_in table) e ≡ false → of_handles (shape_of (facts_in table) e) ≡ true

  -- a sequence is no distinct type, so its entry is its own
  stays : (n ty of : ℕ) → slice_get table ty ≡ Some (D.Seq of) → base_within n table ty ≡ ty
  stays zero ty of e = refl
  stays (suc n) ty of e = ap (base_or (base_within n table) ty) e

  pub is_sequence : (is_table : IsTable table) (have : HaveForms table)
      → ((i : ℕ) → has_shape (default_of (facts_in table) (type_at (types_in table) i)) (shape_of (facts_in table) (type_at (types_in table) i)) ≡ true)
      → ((i : ℕ) → default_of (facts_in table) (type_at (types_in table) i) ≡ blank_in (shape_of (facts_in table) (type_at (types_in table) i)))
      → ((ty of : ℕ) → slice_get table ty ≡ Some (D.Seq of) → bytes_at table of < 2 ^ 32)
      → (ty : ℕ) (e : Ty) → type_at (types_in table) ty ≡ type.sequence e → IsSequence ty e
  is_sequence is_table have defaults blanks small ty e is =
      let s = seq_at (types_in table) (slice_get table ty) e (sym (by_entry table is_table ty (slice_get table ty) refl) ∙ is) in
      let own : base_at table ty ≡ ty = stays (length table) ty s.0 s.1 in
      let entry : entry_at table ty ≡ Some (D.Seq s.0) = ap (slice_get table) own ∙ s.1 in
      let h = has_form table is_table have s.0 in
      let size : shape_bytes (shape_of (facts_in table) (type_at (types_in table) s.0)) ≡ form_size (form_of (facts_in table) (type_at (types_in table) s.0))
      = bytes_of table h.1 ∙ sym (ap form_size (the_form h.1)) in
      record {
        of = s.0;
        entry = entry;
        base = own;
        is = s.2;
        bytes = ap (each_bytes table) entry ∙ type_bytes table is_table have s.0 ∙ ap (λ t. shape_bytes (shape_of (facts_in table) t)) s.2;
        size = subst (λ t. form_size (form_of (facts_in table) t) ≡ shape_bytes (shape_of (facts_in table) t)) s.2 (sym size);
        blank_is = subst (λ t. blank (form_of (facts_in table) t) ≡ blank_in (shape_of (facts_in table) t)) s.2 (blanks s.0);
        shaped = subst (λ t. has_shape (blank_in (shape_of (facts_in table) t)) (shape_of (facts_in table) t) ≡ true) s.2
            (subst (λ v. has_shape v (shape_of (facts_in table) (type_at (types_in table) s.0)) ≡ true) (blanks s.0) (defaults s.0));
        small = subst (λ n. n < 2 ^ 32) (type_bytes table is_table have s.0 ∙ ap (λ t. shape_bytes (shape_of (facts_in table) t)) s.2) (small ty s.0 s.1);
        type_is = is;
        handles = subst (λ t. is_unbuilt (facts_in table) t ≡ false → of_handles (shape_of (facts_in table) t) ≡ true) s.2
            (type_handles table is_table have s.0);
      }

-- of all types of the program's table
abbrev pub SequencesKnown : Basis → Type 0
SequencesKnown x = (ty : ℕ) (e : Ty) → type_at (types_in x.table) ty ≡ type.sequence e → IsSequence x.table ty e
