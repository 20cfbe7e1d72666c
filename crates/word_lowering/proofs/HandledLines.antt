-- Lines of what has elements: by whether that is a sequence, a text or an array.
use Rattle.std.proofs.Common.{◌≡◌, ◌⊎◌, inl, inr, ℕ, List, Some, Bool, true, false, refl, sym, subst, ◌∙◌}
use Rattle.std.proofs.lemmas.Bool.{cases_Bool}
use Rattle.nim_types.specs.Types as type
use Rattle.nim_types.specs.Types.{Facts, Ty, fact_of}
use Rattle.nim_types.specs.Table.{facts_in}
use Rattle.nim_program.specs.Kinds.{declared_kind, has_length, is_sequence, is_text, kind_if, kind_of}
use Rattle.flat_code.specs.declared.block.BlockLine.{BlockLine}
use Rattle.flat_code.specs.Fits.{is_location}
use Rattle.flat_code.specs.Shapes.{block, shape_of}
use Rattle.word_lowering.proofs.JoinedTypes.{text_looks}
use Rattle.word_lowering.proofs.LineFits.{declared_other, no_handle, some_kind}
use Rattle.word_lowering.proofs.Lines.{Basis, Whole}
use Rattle.word_lowering.proofs.Related.{Both, body_of}
use Rattle.word_lowering.proofs.SequencePlaces.{sequence_some}
use Rattle.word_lowering.proofs.ShapeFacts.{never}
use Rattle.word_lowering.proofs.ValueFacts.{type_in}

-- no declared type has a length
declared_none : {A : Type 0} (facts : Facts) (ty : Ty) → has_length (declared_kind (fact_of facts ty)) ≡ true → A
declared_none facts ty h = never (sym (declared_other has_length (λ n. refl) (λ own ts. refl) (λ t. refl) refl refl (fact_of facts ty)) ∙ h)

-- what has a length and is neither a sequence nor a text is an array
pub array_row : (facts : Facts) (ty : Ty) → has_length (kind_of facts ty) ≡ true → is_sequence (kind_of facts ty) ≡ false → is_text (kind_of facts ty) ≡ false
    → no_handle (shape_of facts ty) ≡ true
array_row facts (type.array n e) h s t = refl
array_row facts type.text h s t = never (sym t)
array_row facts (type.sequence e) h s t = never (sym s)
array_row facts type.int h s t = never h
array_row facts type.bool h s t = never h
array_row facts type.char h s t = never h
array_row facts (type.tuple names ts) h s t = never h
array_row facts (type.parameter n) h s t = never h
array_row facts (type.ref name e) h s t = never h
array_row facts (type.enum key) h s t = declared_none facts (type.enum key) h
array_row facts (type.object key arguments) h s t = declared_none facts (type.object key arguments) h
array_row facts (type.distinct key) h s t = declared_none facts (type.distinct key) h
array_row facts (type.exception key) h s t = declared_none facts (type.exception key) h

module _ (x : Basis) (g : Both) (rest : List BlockLine) (from : ℕ) (line : BlockLine) where
  pub by_sequence : ((e : Ty) → type_in x is_location (body_of g) from ≡ Some (type.sequence e) → Whole x g rest line)
      → (is_sequence (kind_if (facts_in x.table) (type_in x is_location (body_of g) from)) ≡ false → Whole x g rest line) → Whole x g rest line
  by_sequence of_one of_other = by (is_sequence (kind_if (facts_in x.table) (type_in x is_location (body_of g) from))) refl
    where
      by : (b : Bool) → is_sequence (kind_if (facts_in x.table) (type_in x is_location (body_of g) from)) ≡ b → Whole x g rest line
      by true h = let s = sequence_some (facts_in x.table) (type_in x is_location (body_of g) from) h in of_one s.0 s.1
      by false h = of_other h

  -- of what has a length
  pub by_length : has_length (kind_if (facts_in x.table) (type_in x is_location (body_of g) from)) ≡ true
      → ((e : Ty) → type_in x is_location (body_of g) from ≡ Some (type.sequence e) → Whole x g rest line)
      → ((ty : Ty) → type_in x is_location (body_of g) from ≡ Some ty → shape_of (facts_in x.table) ty ≡ block → Whole x g rest line)
      → ((ty : Ty) → type_in x is_location (body_of g) from ≡ Some ty → no_handle (shape_of (facts_in x.table) ty) ≡ true → Whole x g rest line)
      → Whole x g rest line
  by_length long of_one of_text of_row = by_sequence of_one other
    where
      other : is_sequence (kind_if (facts_in x.table) (type_in x is_location (body_of g) from)) ≡ false → Whole x g rest line
      other none = by (cases_Bool (is_text (kind_of (facts_in x.table) s.0)))
        where
          s : (ty : Ty) × (type_in x is_location (body_of g) from ≡ Some ty) × (has_length (kind_of (facts_in x.table) ty) ≡ true)
          s = some_kind (facts_in x.table) (type_in x is_location (body_of g) from) has_length refl long

          by : (is_text (kind_of (facts_in x.table) s.0) ≡ true) ⊎ (is_text (kind_of (facts_in x.table) s.0) ≡ false) → Whole x g rest line
          by (inl t) = of_text s.0 s.1 (text_looks (facts_in x.table) s.0 t)
          by (inr t) = of_row s.0 s.1 (array_row (facts_in x.table) s.0 s.2
              (subst (λ o. is_sequence (kind_if (facts_in x.table) o) ≡ false) s.1 none) t)
