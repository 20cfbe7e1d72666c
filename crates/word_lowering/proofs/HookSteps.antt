-- From a type to the types of its parts and elements, by its entry in the table: which step its shape takes, and how many bytes further.
use Rattle.std.proofs.Common.{◌≡◌, ℕ, zero, suc, ◌*◌, ◌<◌, List, [], ◌∷◌, length, take, Option, Some, false, refl, sym, ap, subst, ◌∙◌}
use Rattle.std.specs.Prelude.{slice_get}
use Rattle.arc_base.specs.declared.place.Place.{Place}
use Rattle.nim_types.specs.declared.types.FieldName.{FieldName}
use Rattle.nim_types.specs.declared.types.TypeDef.{TypeDef}
use Rattle.nim_types.specs.declared.types.TypeDef.TheVariants as D
use Rattle.nim_types.specs.Table.{type_at, types_at, types_in, facts_in, IsTable}
use Rattle.flat_code.specs.Shapes.{Shape, block, elements, parts, shape_of}
use Rattle.flat_code.proofs.ForCallers.{shapes_of}
use Rattle.word_lowering.specs.Stored.{bytes_at, bytes_all, base_within, HaveForms}
use Rattle.word_lowering.proofs.Options.{none_some, some_same}
use Rattle.word_lowering.proofs.ShapeFacts.{nth_shape}
use Rattle.word_lowering.proofs.ShapePaths.{Step}
use Rattle.word_lowering.proofs.TypeShapes.{Stays, Looks, type_looks, type_bytes, bytes_before, distinct_looks}

module _ (table : List TypeDef) (is_table : IsTable table) (have : HaveForms table) where
  abbrev pub shape_at : ℕ → Shape
  shape_at ty = shape_of (facts_in table) (type_at (types_in table) ty)

  -- an entry that is no distinct type is the one that is looked at
  stays_at : (ty : ℕ) → Stays (slice_get table ty) → (m : ℕ) → base_within m table ty ≡ ty
  stays_at ty stays zero = refl
  stays_at ty stays (suc m) = stays (base_within m table) ty

  looks_here : (ty : ℕ) (o : Option TypeDef) → slice_get table ty ≡ o → Stays o → Looks table o (shape_at ty)
  looks_here ty o e stays =
      subst (λ q. Looks table q (shape_at ty)) (ap (slice_get table) (stays_at ty (subst Stays (sym e) stays) (length table)) ∙ e)
      (type_looks table is_table have ty)

  -- ---- parts

  nth_types : (is : List ℕ) (i of : ℕ) → slice_get is i ≡ Some of
      → nth_shape (shapes_of (facts_in table) (types_at (types_in table) is)) i ≡ Some (shape_at of)
  nth_types [] i of e = absurd (none_some of e)
  nth_types (j ∷ is) zero of e = ap (λ k. Some (shape_at k)) (some_same j of e)
  nth_types (j ∷ is) (suc i) of e = nth_types is i of e

  part_step : (is : List ℕ) (ty i of : ℕ) → shape_at ty ≡ parts (shapes_of (facts_in table) (types_at (types_in table) is)) → slice_get is i ≡ Some of
      → Step (shape_at ty) i (bytes_all table (take i is)) (shape_at of)
  part_step is ty i of looks e =
      subst (λ s. Step s i (bytes_all table (take i is)) (shape_at of)) (sym looks) (nth_types is i of e, bytes_before table is_table have is i)

  pub tuple_step : (ty i of : ℕ) (names : List (List ℕ)) (is : List ℕ) → slice_get table ty ≡ Some (D.Tuple names is) → slice_get is i ≡ Some of
      → Step (shape_at ty) i (bytes_all table (take i is)) (shape_at of)
  tuple_step ty i of names is at e = part_step is ty i of (looks_here ty (Some (D.Tuple names is)) at (λ go k. refl)) e

  pub object_step : (ty i of : ℕ) (name : List ℕ) (place : Place) (arguments : List ℕ) (all : List FieldName) (is : List ℕ)
      → slice_get table ty ≡ Some (D.Object name place arguments all false is) → slice_get is i ≡ Some of
      → Step (shape_at ty) i (bytes_all table (take i is)) (shape_at of)
  object_step ty i of name place arguments all is at e =
      part_step is ty i of (looks_here ty (Some (D.Object name place arguments all false is)) at (λ go k. refl)) e

  -- ---- elements

  pub array_step : (ty n i of : ℕ) → slice_get table ty ≡ Some (D.Array n of) → i < n → Step (shape_at ty) i (i * bytes_at table of) (shape_at of)
  array_step ty n i of at less =
      subst (λ s. Step s i (i * bytes_at table of) (shape_at of)) (sym (looks_here ty (Some (D.Array n of)) at (λ go k. refl)))
      (less, ap (λ b. i * b) (type_bytes table is_table have of), refl)

  pub seq_shape : (ty of : ℕ) → slice_get table ty ≡ Some (D.Seq of) → shape_at ty ≡ elements (shape_at of)
  seq_shape ty of at = looks_here ty (Some (D.Seq of)) at (λ go k. refl)

  pub text_shape : (ty : ℕ) → slice_get table ty ≡ Some D.Text → shape_at ty ≡ block
  text_shape ty at = looks_here ty (Some D.Text) at (λ go k. refl)

  pub base_shape : (ty base : ℕ) (name : List ℕ) (place : Place) → slice_get table ty ≡ Some (D.Distinct name place base) → shape_at ty ≡ shape_at base
  base_shape ty base name place at = distinct_looks table is_table have ty name place base at
