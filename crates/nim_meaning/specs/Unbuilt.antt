-- Types whose values have no code yet: refs, objects with hooks of their own, and what has one in it.
use Rattle.std.specs.Prelude.{Bool, true, false, ◌||◌, List, [], ◌∷◌, Option, Some, None}
use Rattle.nim_types.specs.Types.{Ty, Facts}
use Rattle.nim_types.specs.Forms.{Form, Forms, plain, reference, block, elements, row, parts, resource, wrapped, no_forms, forms, form_of}

abbrev mutual
  -- whether a ref or an object with hooks of its own is contained, also as an element of a sequence, or of an array without any
  pub has_unbuilt : Form → Bool
  has_unbuilt plain = false
  has_unbuilt reference = true
  has_unbuilt block = false
  has_unbuilt (elements f) = has_unbuilt f
  has_unbuilt (row n f) = has_unbuilt f
  has_unbuilt (parts fs) = has_unbuilt_any fs
  has_unbuilt (resource fs) = true
  has_unbuilt (wrapped f) = has_unbuilt f

  pub has_unbuilt_any : Forms → Bool
  has_unbuilt_any no_forms = false
  has_unbuilt_any (forms f fs) = has_unbuilt f || has_unbuilt_any fs

abbrev pub is_unbuilt : Facts → Ty → Bool
is_unbuilt facts ty = has_unbuilt (form_of facts ty)

abbrev pub gives_unbuilt : Facts → Option Ty → Bool
gives_unbuilt facts None = false
gives_unbuilt facts (Some ty) = is_unbuilt facts ty

abbrev pub any_unbuilt : Facts → List (Option Ty) → Bool
any_unbuilt facts [] = false
any_unbuilt facts (ty ∷ of) = gives_unbuilt facts ty || any_unbuilt facts of
