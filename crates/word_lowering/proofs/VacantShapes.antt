-- What a type's values are before anything is put there is stored anywhere, whatever memory has: nothing of it is a word that counts.
use Rattle.std.proofs.Common.{◌≡◌, ℕ, zero, suc, ◌+◌, Bool, true, false, List, length, Option, Some, None, refl, sym, ap, subst, ◌∙◌}
use Rattle.std.specs.Prelude.{if◌then◌else◌}
use Rattle.nim_types.specs.declared.types.TypeDef.{TypeDef}
use Rattle.nim_types.specs.Types.{Ty, Tys, Key, Fact, members, fields, base, below, Facts, fact_of}
use Rattle.nim_types.specs.Types as type
use Rattle.nim_types.specs.Forms.{Form, Forms, row as form_row, parts as form_parts, wrapped, hooked, hooked_any, of_some, object_form, types_of, HasForm}
use Rattle.nim_types.specs.Forms.{AreForms, none_of, more_of}
use Rattle.nim_types.specs.Forms.{of_int, of_bool, of_char, of_text, of_sequence, of_any_sequence, of_array, of_tuple, of_parameter, of_enum, of_object}
use Rattle.nim_types.specs.Forms.{of_distinct, of_ref, of_exception}
use Rattle.nim_types.specs.Table.{facts_in}
use Rattle.nim_program.specs.Kinds.{declared_kind}
use Rattle.nim_meaning.specs.Values.{Value, Parts, Vacant, count, repeated, vacant, all_vacant}
use Rattle.flat_code.specs.Shapes.{Shape, Shapes, parts, row, object_shape, shape_of, shape_by, shape_within}
use Rattle.flat_code.proofs.ForCallers.{sorted_table, shapes_of, Matches, shaped, free_of}
use Rattle.word_code.specs.Memory.{Memory}
use Rattle.word_lowering.proofs.Blocks.{Blocks, MayBeVacant, Stored, AreStored, PartsStored}
use Rattle.word_lowering.proofs.ShapeFacts.{shape_bytes, of_numbers}
use Rattle.word_lowering.proofs.TypeRules.{free_numbers}

count_repeated : (n : ℕ) (v : Value) → count (repeated n v) ≡ n
count_repeated zero v = refl
count_repeated (suc n) v = ap suc (count_repeated n v)

module _ (table : List TypeDef) where
  abbrev facts : Facts
  facts = facts_in table

  -- what has no hooks is made of numbers
  pub plain_numbers : {ty : Ty} {f : Form} → HasForm facts ty f → hooked f ≡ false → of_numbers (shape_of facts ty) ≡ true
  plain_numbers {ty} has e = sym (free_numbers (shape_of facts ty)) ∙ free_of facts (sorted_table table) has e

  enum_by : (known : Ty → Shape) (key : Key) (o : Option Fact) → fact_of facts (type.enum key) ≡ o → MayBeVacant (shape_by known o)
  enum_by known key None e = refl
  enum_by known key (Some (members names)) e = tt
  enum_by known key (Some (fields all own)) e = absurd (sorted_table table (type.enum key) (fields all own) e)
  enum_by known key (Some (base t)) e = absurd (sorted_table table (type.enum key) (base t) e)
  enum_by known key (Some (below t)) e = refl

  enum_vacant : (n : ℕ) (key : Key) → MayBeVacant (shape_within n facts (type.enum key))
  enum_vacant zero key = refl
  enum_vacant (suc n) key = enum_by (shape_within n facts) key (fact_of facts (type.enum key)) refl

  -- a declared type looks as its declaration says
  said_so : {ty : Ty} {f : Form} (fact : Fact) → HasForm facts ty f → fact_of facts ty ≡ Some fact
      → Matches facts (declared_kind (fact_of facts ty)) (shape_of facts ty) → Matches facts (declared_kind (Some fact)) (shape_of facts ty)
  said_so {ty} fact has e m = subst (λ o. Matches facts (declared_kind o) (shape_of facts ty)) e m

  module _ (StandsFixed : (place : ℕ) → List ℕ → Type 0) (d : Blocks) (m : Memory) where
    repeated_there : (s : Shape) (v : Value) → ((a : ℕ) → Stored StandsFixed d m a s v) → (n a : ℕ) → AreStored StandsFixed d m a s (repeated n v)
    repeated_there s v there zero a = tt
    repeated_there s v there (suc n) a = (there a, repeated_there s v there n (a + shape_bytes s))

    row_there : (n : ℕ) (s : Shape) (f : Form) (a : ℕ) → ((at : ℕ) → Stored StandsFixed d m at s (vacant f))
        → (of_some n (hooked f) ≡ false → of_numbers (row n s) ≡ true) → Stored StandsFixed d m a (row n s) (vacant (form_row n f))
    row_there n s f a there plain = by (of_some n (hooked f)) refl
      where
        by : (b : Bool) → of_some n (hooked f) ≡ b → Stored StandsFixed d m a (row n s) (if b then Parts (repeated n (vacant f)) else Vacant)
        by true e = (count_repeated n (vacant f), repeated_there s (vacant f) there n a)
        by false e = plain e

    parts_are : (ss : Shapes) (fs : Forms) (a : ℕ) → PartsStored StandsFixed d m a ss (all_vacant fs)
        → (hooked_any fs ≡ false → of_numbers (parts ss) ≡ true) → Stored StandsFixed d m a (parts ss) (vacant (form_parts fs))
    parts_are ss fs a there plain = by (hooked_any fs) refl
      where
        by : (b : Bool) → hooked_any fs ≡ b → Stored StandsFixed d m a (parts ss) (if b then Parts (all_vacant fs) else Vacant)
        by true e = there
        by false e = plain e

    object_there : (own : Bool) (ss : Shapes) (fs : Forms) (a : ℕ) → PartsStored StandsFixed d m a ss (all_vacant fs)
        → (hooked (object_form own fs) ≡ false → of_numbers (object_shape own ss) ≡ true)
        → Stored StandsFixed d m a (object_shape own ss) (vacant (object_form own fs))
    object_there true ss fs a there plain = tt
    object_there false ss fs a there plain = parts_are ss fs a there plain

    mutual
      -- any type's
      pub vacant_there : {ty : Ty} {f : Form} → HasForm facts ty f → (a : ℕ) → Stored StandsFixed d m a (shape_of facts ty) (vacant f)
      vacant_there of_int a = tt
      vacant_there of_bool a = tt
      vacant_there of_char a = tt
      vacant_there of_text a = tt
      vacant_there (of_sequence whole x) a = tt
      vacant_there (of_any_sequence whole) a = tt
      vacant_there (of_array {n} {t} {f} x) a =
          row_there n (shape_of facts t) f a (λ at. vacant_there x at) (λ e. plain_numbers (of_array x) e)
      vacant_there (of_tuple {names} {ts = tys} {fs = fs} x) a =
          parts_are (shapes_of facts tys) fs a (parts_there x a) (λ e. plain_numbers (of_tuple {names = names} x) e)
      vacant_there of_parameter a = tt
      vacant_there (of_enum {key}) a = enum_vacant (length facts) key
      vacant_there (of_object {key} {arguments} {all} {own_hooks} {fs} e x) a =
          let whole : HasForm facts (type.object key arguments) (object_form own_hooks fs) = of_object e x in
          let look : shape_of facts (type.object key arguments) ≡ object_shape own_hooks (shapes_of facts (types_of all))
          = said_so (fields all own_hooks) whole e (shaped facts (sorted_table table) whole).matches in
          subst (λ s. Stored StandsFixed d m a s (vacant (object_form own_hooks fs))) (sym look)
          (object_there own_hooks (shapes_of facts (types_of all)) fs a (parts_there x a)
          (λ free. subst (λ s. of_numbers s ≡ true) look (plain_numbers whole free)))
      vacant_there (of_distinct {key} {t} {f} e x) a =
          let whole : HasForm facts (type.distinct key) (wrapped f) = of_distinct e x in
          subst (λ s. Stored StandsFixed d m a s (vacant f)) (sym (said_so (base t) whole e (shaped facts (sorted_table table) whole).matches))
          (vacant_there x a)
      vacant_there of_ref a = tt
      vacant_there of_exception a = tt

      parts_there : {tys : Tys} {fs : Forms} → AreForms true facts tys fs → (a : ℕ) → PartsStored StandsFixed d m a (shapes_of facts tys) (all_vacant fs)
      parts_there none_of a = tt
      parts_there (more_of {t} x y) a = (vacant_there x a, parts_there y (a + shape_bytes (shape_of facts t)))
