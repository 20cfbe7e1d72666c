-- The table of operations, by what they take and give: of which types their operands are, by the type of the value, and how many of these
-- are places. And the same of what chooses.
use Rattle.std.specs.Prelude.{ℕ, zero, suc, ℤ, pos, ◌+ℤ◌, int_le, nat_eq, Bool, true, false, not, ◌&&◌, ◌||◌, List, [], ◌∷◌, ◌++◌, length}
use Rattle.std.specs.Prelude.{Option, Some, None}
use Rattle.nim_types.specs.Types.{Ty, Facts, same}
use Rattle.nim_program.specs.declared.operation.Operation.{Operation}
use Rattle.nim_program.specs.declared.operation.Operation.TheVariants as O
use Rattle.nim_program.specs.declared.operation.UnaryOperator.{UnaryOperator}
use Rattle.nim_program.specs.declared.operation.UnaryOperator.TheVariants.{Not}
use Rattle.nim_program.specs.declared.operation.Operator.{Operator}
use Rattle.nim_program.specs.declared.operation.Operator.TheVariants.{Add, Subtract, Multiply, BitAnd, BitOr, BitXor}
use Rattle.nim_program.specs.Ints.{fits as is_int_value}
use Rattle.nim_program.specs.Program.{Label, Ordinals, Exactly, Chooser, ByConditions, ByLabels}
use Rattle.nim_program.specs.Kinds.{TypeKind, int, char, text, enum, object, distinct, ref, kind_of, kind_if, plain_kind_if, is_int, is_bool, is_text}
use Rattle.nim_program.specs.Kinds.{is_ordinal, is_joined, is_selected, is_shown, is_compared, is_sequence, is_ref, is_resource, is_made, has_length}
use Rattle.nim_program.specs.Kinds.{is_resized, field_at, element_of, part_at, has_parts, value_count, first_value, behind_last, is_of, same_value}
use Rattle.nim_program.specs.Kinds.{is_there, is_held}

-- ---- operators

-- `not` is of bools and all else of ints
abbrev pub unary_takes : UnaryOperator → TypeKind → Bool
unary_takes Not k = is_bool k
unary_takes operator k = is_int k

abbrev pub is_bitwise : Operator → Bool
is_bitwise BitAnd = true
is_bitwise BitOr = true
is_bitwise BitXor = true
is_bitwise operator = false

-- ints, and bit by bit also bools
abbrev pub binary_takes : Operator → TypeKind → Bool
binary_takes operator k = is_int k || (is_bitwise operator && is_bool k)

-- by which a place may be updated, and also without a value
abbrev pub updates : Operator → Bool
updates Add = true
updates Subtract = true
updates Multiply = true
updates operator = false

abbrev pub steps : Operator → Bool
steps Add = true
steps Subtract = true
steps operator = false

-- ---- types

-- Conversions: to an int from an ordinal, to a char or an enum from an int, to a distinct type from its base.
abbrev pub is_converted : (to : TypeKind) → Ty → (from : TypeKind) → Bool
is_converted int t from = is_ordinal from
is_converted char t from = is_int from
is_converted (enum n) t from = is_int from
is_converted (distinct base) t from = same base t
is_converted to t from = false

-- from a distinct type to its base
abbrev pub is_base_of : (from : TypeKind) → Ty → Bool
is_base_of (distinct base) t = same base t
is_base_of from t = false

-- what a construction gives values of fields of: an object, or the object of a ref
abbrev pub built : Facts → TypeKind → TypeKind
built facts (ref t) = kind_of facts t
built facts k = k

abbrev pub is_built : TypeKind → Bool
is_built (object resource all) = true
is_built k = false

abbrev pub is_in : ℕ → List ℕ → Bool
is_in n [] = false
is_in n (m ∷ ms) = nat_eq n m || is_in n ms

abbrev pub are_distinct : List ℕ → Bool
are_distinct [] = true
are_distinct (n ∷ ns) = not (is_in n ns) && are_distinct ns

-- the parts of a value of some kind, from a position on
abbrev pub are_parts : TypeKind → ℕ → List (Option Ty) → Bool
are_parts k i [] = true
are_parts k i (a ∷ rest) = is_of a (part_at k i) && are_parts k (suc i) rest

-- values of these fields
abbrev pub are_fields : TypeKind → List ℕ → List (Option Ty) → Bool
are_fields k [] [] = true
are_fields k (field ∷ fields) (a ∷ rest) = is_of a (field_at k field) && are_fields k fields rest
are_fields k _ _ = false

module _ (facts : Facts) where
  abbrev pub kind : Option Ty → TypeKind
  kind ty = kind_if facts ty

  -- with distinct types looked through
  abbrev pub plain : Option Ty → TypeKind
  plain ty = plain_kind_if facts ty

  -- what `echo` writes
  abbrev pub are_shown : List (Option Ty) → Bool
  are_shown [] = true
  are_shown (a ∷ rest) = is_shown (plain a) && are_shown rest

  abbrev pub converts : Option Ty → Option Ty → Bool
  converts (Some ty) (Some t) = is_converted (kind_of facts ty) t (kind_of facts t) || is_base_of (kind_of facts t) ty
  converts _ _ = false

  -- ---- the table, a row for each operation: the type of its value, and those of its operands

  abbrev pub fits : Operation → (ty : Option Ty) → (operands : List (Option Ty)) → Bool
  fits O.Default ty [] = is_there ty && is_held (kind ty)
  fits (O.Unary operator) ty (a ∷ []) = unary_takes operator (kind ty) && is_of a ty
  fits (O.Binary operator) ty (a ∷ b ∷ []) = binary_takes operator (kind ty) && (is_of a ty && is_of b ty)
  fits (O.Compare comparison) ty (a ∷ b ∷ []) = is_bool (kind ty) && (is_of a b && is_compared comparison (plain a))
  fits O.Convert ty (a ∷ []) = converts ty a
  fits O.Join ty (a ∷ b ∷ []) = is_text (kind ty) && (is_joined (kind a) && is_joined (kind b))
  fits O.Show ty (a ∷ []) = is_text (kind ty) && is_shown (plain a)
  fits O.Make ty operands = is_made (kind ty) && (has_parts (kind ty) (length operands) && are_parts (kind ty) 0 operands)
  fits O.Sequence ty operands = is_sequence (kind ty) && are_parts (kind ty) 0 operands
  fits O.NewSequence ty (a ∷ []) = is_sequence (kind ty) && is_int (kind a)
  fits (O.Measure measure) ty (a ∷ []) = is_int (kind ty) && has_length (kind a)
  fits O.IsNil ty (a ∷ []) = is_bool (kind ty) && is_ref (kind a)
  fits O.Echo None operands = are_shown operands
  fits O.Quit None [] = true
  fits O.Quit None (a ∷ []) = is_int (kind a)
  fits O.ReadLine ty [] = is_text (kind ty)
  fits O.ReadLineInto ty (a ∷ []) = is_bool (kind ty) && is_text (kind a)
  fits O.Assign None (a ∷ b ∷ []) = is_of b a
  fits (O.Update operator) None (a ∷ []) = steps operator && is_int (kind a)
  fits (O.Update operator) None (a ∷ b ∷ []) = updates operator && (is_int (kind a) && is_int (kind b))
  fits O.Add None (a ∷ b ∷ []) = is_sequence (kind a) && is_of b (element_of (kind a))
  fits O.Append None (a ∷ b ∷ []) = is_text (kind a) && is_joined (kind b)
  fits O.SetLength None (a ∷ b ∷ []) = is_resized (kind a) && is_int (kind b)
  fits O.Pop ty (a ∷ []) = is_sequence (kind a) && is_of (element_of (kind a)) ty
  fits O.Move ty (a ∷ []) = is_of a ty
  fits O.Swap None (a ∷ b ∷ []) = is_of a b
  -- a value, or what a call gives that is a statement, which may be none
  fits O.Discard None (a ∷ []) = true
  fits O.Destroy None (a ∷ []) = is_resource (kind a)
  fits O.Blank None (a ∷ []) = is_resource (kind a)
  fits operation ty operands = false

  -- `and` and `or` of bools
  abbrev pub early_fits : Ty → (left right : Option Ty) → Bool
  early_fits ty left right = is_bool (kind_of facts ty) && (is_of left (Some ty) && is_of right (Some ty))

  -- values of different fields, of an object or of a new one
  abbrev pub building_fits : (ty : Option Ty) → List ℕ → (operands : List (Option Ty)) → Bool
  building_fits ty fields operands =
      is_built (built facts (kind ty)) && (are_distinct fields && are_fields (built facts (kind ty)) fields operands)

-- so many of the first operands are places, by their paths, and all others are values
abbrev pub places_in : Operation → ℕ
places_in (O.Measure measure) = 1
places_in O.ReadLineInto = 1
places_in O.Assign = 1
places_in (O.Update operator) = 1
places_in O.Add = 1
places_in O.Append = 1
places_in O.SetLength = 1
places_in O.Pop = 1
places_in O.Move = 1
places_in O.Swap = 2
places_in O.Destroy = 1
places_in O.Blank = 1
places_in operation = 0

-- ---- labels of a `case`

-- ordinals are ints
abbrev pub label_fits : TypeKind → Label → Bool
label_fits k (Ordinals a b) = is_ordinal k && (is_int_value a && is_int_value b)
label_fits k (Exactly t) = is_text k

abbrev pub labels_fit : TypeKind → List Label → Bool
labels_fit k [] = true
labels_fit k (label ∷ labels) = label_fits k label && labels_fit k labels

abbrev pub has_label : List Label → Bool
has_label [] = false
has_label (label ∷ labels) = true

-- those of each branch: one at least, as nothing else leads to it
abbrev pub are_labels : TypeKind → List (List Label) → Bool
are_labels k [] = true
are_labels k (labels ∷ rest) = (has_label labels && labels_fit k labels) && are_labels k rest

abbrev pub joined : List (List Label) → List Label
joined [] = []
joined (labels ∷ rest) = labels ++ joined rest

abbrev pub last_if : Bool → ℤ → Option ℤ → Option ℤ
last_if true z rest = Some z
last_if false z rest = rest

-- the last value of the first label that has a number
abbrev pub last_with : ℤ → List Label → Option ℤ
last_with z [] = None
last_with z (Ordinals a b ∷ labels) = last_if (int_le a z && int_le z b) b (last_with z labels)
last_with z (Exactly t ∷ labels) = last_with z labels

abbrev pub goes_on : Option ℤ → (ℤ → Bool) → Bool
goes_on None go = false
goes_on (Some z) go = go (z +ℤ pos 1)

-- each number from one up to another is in a label: from label to label, at most so often
abbrev pub reaches : ℕ → (from behind : ℤ) → List Label → Bool
reaches zero from behind labels = int_le behind from
reaches (suc n) from behind labels = int_le behind from || goes_on (last_with from labels) (λ next. reaches n next behind labels)

abbrev pub cover : TypeKind → List Label → Bool
cover k labels = reaches (value_count k) (first_value k) (behind_last k) labels

-- without `else` each value of the selector has a label; or it selects by texts, and no branch gives a value
abbrev pub are_enough : TypeKind → (gives : Option Ty) → List (List Label) → Bool
are_enough text gives labels = not (is_there gives)
are_enough k gives labels = cover k (joined labels)

-- ---- an expression that chooses

module _ (facts : Facts) (ty : Option Ty) where
  -- each condition before its value, and at last the value for all else
  abbrev pub conditions_fit : List (Option Ty) → Bool
  conditions_fit [] = false
  conditions_fit (a ∷ []) = same_value a ty
  conditions_fit (a ∷ b ∷ rest) = (is_bool (kind_if facts a) && same_value b ty) && conditions_fit rest

  -- a value for each branch, and one for all else unless the labels are enough
  abbrev pub values_fit : (enough : Bool) → List (List Label) → List (Option Ty) → Bool
  values_fit enough [] [] = enough
  values_fit enough [] (a ∷ []) = same_value a ty
  values_fit enough (labels ∷ all) (a ∷ rest) = same_value a ty && values_fit enough all rest
  values_fit enough _ _ = false

  abbrev pub labels_choose : TypeKind → List (List Label) → List (Option Ty) → Bool
  labels_choose k labels values = (is_selected k && are_labels k labels) && values_fit (are_enough k ty labels) labels values

  abbrev pub chooser_fits : Chooser → List (Option Ty) → Bool
  chooser_fits ByConditions parts = conditions_fit parts
  chooser_fits (ByLabels labels) (a ∷ values) = labels_choose (kind_if facts a) labels values
  chooser_fits (ByLabels labels) [] = false
