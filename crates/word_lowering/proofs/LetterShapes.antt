-- A place has a letter where its shape is that of 256 values.
use Rattle.std.proofs.Common.{◌≡◌, ℕ, List, Option, Some, None, Bool, true, false, refl, sym, ap, ◌∙◌}
use Rattle.nim_types.specs.declared.types.TypeDef.{TypeDef}
use Rattle.nim_types.specs.declared.types.TypeDef.TheVariants as D
use Rattle.nim_types.specs.Table.{IsTable, facts_in, type_at, types_at, types_in}
use Rattle.flat_code.specs.declared.place.PlaceKind.{PlaceKind}
use Rattle.flat_code.specs.declared.place.PlaceKind.TheVariants as K
use Rattle.flat_code.specs.Fits.{type_by_kind}
use Rattle.flat_code.specs.Shapes.{Shape, number, Shapes, object_shape, shape_of}
use Rattle.flat_code.proofs.ForCallers.{shapes_of}
use Rattle.word_lowering.specs.Layouts.{letter_by}
use Rattle.word_lowering.specs.Stored.{HaveForms, entry_at, is_letter as has_letter}
use Rattle.word_lowering.proofs.ShapeFacts.{is_letter, never}
use Rattle.word_lowering.proofs.Sites.{is_one_word}
use Rattle.word_lowering.proofs.TypeShapes.{Looks, type_looks}

object_letter : (own : Bool) (ss : Shapes) → is_letter (object_shape own ss) ≡ false
object_letter true ss = refl
object_letter false ss = refl

-- what is no word has none
pub no_letter : (s : Shape) → is_one_word s ≡ false → is_letter s ≡ false
no_letter (number values) h = never (sym h)
no_letter s h = refl

module _ (table : List TypeDef) (is_table : IsTable table) (have : HaveForms table) where
  letter_at : (o : Option TypeDef) (s : Shape) → Looks table o s → is_letter s ≡ has_letter o
  letter_at None s l = ap is_letter l
  letter_at (Some D.Int) s l = ap is_letter l
  letter_at (Some D.Bool) s l = ap is_letter l
  letter_at (Some D.Char) s l = ap is_letter l
  letter_at (Some D.Text) s l = ap is_letter l
  letter_at (Some (D.Seq i)) s l = ap is_letter l
  letter_at (Some (D.Param k)) s l = ap is_letter l
  letter_at (Some (D.Enum name at all)) s l = ap is_letter l
  letter_at (Some (D.Array k i)) s l = ap is_letter l
  letter_at (Some (D.Tuple names is)) s l = ap is_letter l
  letter_at (Some (D.Object name at is all own tys)) s l =
      ap is_letter l ∙ object_letter own (shapes_of (facts_in table) (types_at (types_in table) tys))
  letter_at (Some (D.Distinct name at i)) s l = absurd l
  letter_at (Some (D.Ref name i)) s l = ap is_letter l
  letter_at (Some (D.Exception name at parent)) s l = ap is_letter l

  pub place_is_letter : (kind : PlaceKind) (ty : ℕ)
      → is_letter (shape_of (facts_in table) (type_by_kind kind (type_at (types_in table) ty))) ≡ letter_by kind (has_letter (entry_at table ty))
  place_is_letter K.Counter ty = refl
  place_is_letter kind ty =
      letter_at (entry_at table ty) (shape_of (facts_in table) (type_at (types_in table) ty)) (type_looks table is_table have ty)
