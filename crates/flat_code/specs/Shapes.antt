-- What the values of a type are like in code: a type with all declared types looked through. Ordinals keep how many values they have. A text and a
-- sequence are where their contents stand, and a ref is where its object stands: what is in blocks is no part of the shape of a value.
use Rattle.std.specs.Prelude.{ℕ, zero, suc, Bool, true, false, ◌&&◌, length, Option, Some, None}
use Rattle.nim_types.specs.Types.{Ty, int, bool, char, text, sequence, array, tuple, parameter, enum, object, distinct, ref, exception, Tys, no_types, types}
use Rattle.nim_types.specs.Types.{Fact, members, fields, base, Facts, fact_of}
use Rattle.nim_types.specs.Forms.{types_of}
use Rattle.nim_program.specs.Ints.{fits, inside}
use Rattle.nim_meaning.specs.Values.{Value, Number, Parts, Handle, Fixed, Ref, Resource, Values, Nil, More}

mutual
  pub data Shape : Type 0 where
    -- ints, or an ordinal of so many values
    number : (values : Option ℕ) → Shape
    reference : Shape
    -- a text
    block : Shape
    -- a sequence
    elements : (of : Shape) → Shape
    -- an array
    row : (count : ℕ) → (of : Shape) → Shape
    -- a tuple, or an object without hooks of its own
    parts : (all : Shapes) → Shape
    -- an object with hooks of its own
    resource : (all : Shapes) → Shape

  pub data Shapes : Type 0 where
    no_shapes : Shapes
    shapes : (first : Shape) → (rest : Shapes) → Shapes

-- ---- of a type

abbrev mutual
  -- declared types by what is known of them
  pub shape_in : (known : Ty → Shape) → Ty → Shape
  shape_in known int = number None
  shape_in known bool = number (Some 2)
  shape_in known char = number (Some 256)
  shape_in known text = block
  shape_in known (sequence t) = elements (shape_in known t)
  shape_in known (array n t) = row n (shape_in known t)
  shape_in known (tuple names ts) = parts (shapes_in known ts)
  shape_in known (parameter n) = number None
  shape_in known (enum key) = known (enum key)
  shape_in known (object key arguments) = known (object key arguments)
  shape_in known (distinct key) = known (distinct key)
  shape_in known (ref name t) = reference
  shape_in known (exception key) = number None

  pub shapes_in : (known : Ty → Shape) → Tys → Shapes
  shapes_in known no_types = no_shapes
  shapes_in known (types t ts) = shapes (shape_in known t) (shapes_in known ts)

abbrev pub object_shape : (own_hooks : Bool) → Shapes → Shape
object_shape true ss = resource ss
object_shape false ss = parts ss

-- of a declared type, by what its declaration says; a distinct type is as its base
abbrev pub shape_by : (known : Ty → Shape) → Option Fact → Shape
shape_by known (Some (members names)) = number (Some (length names))
shape_by known (Some (fields all own_hooks)) = object_shape own_hooks (shapes_in known (types_of all))
shape_by known (Some (base t)) = shape_in known t
shape_by known _ = parts no_shapes

-- at most so many declared types inside one another looked through
abbrev pub shape_within : ℕ → Facts → Ty → Shape
shape_within zero facts ty = parts no_shapes
shape_within (suc n) facts ty = shape_by (shape_within n facts) (fact_of facts ty)

abbrev pub shape_of : Facts → Ty → Shape
shape_of facts ty = shape_in (shape_within (length facts) facts) ty

-- ---- values

abbrev pub is_ordinal : Option ℕ → Value → Bool
is_ordinal None (Number z) = fits z
is_ordinal (Some n) (Number z) = fits z && inside z n
is_ordinal values v = false

-- A value that is gone, and what is vacant, has no shape: nothing reads it. A sequence that nobody owns has its elements beside one another.
abbrev mutual
  pub has_shape : Value → Shape → Bool
  has_shape (Number z) (number values) = is_ordinal values (Number z)
  has_shape (Ref to) reference = true
  has_shape (Handle n k) block = true
  has_shape (Fixed bytes) block = true
  has_shape (Handle n k) (elements s) = true
  has_shape (Parts vs) (elements s) = are_all vs s
  has_shape (Parts vs) (row n s) = are_rows vs n s
  has_shape (Parts vs) (parts ss) = have_shapes vs ss
  has_shape (Resource vs identity) (resource ss) = have_shapes vs ss
  has_shape v s = false

  -- each one, however many
  pub are_all : Values → Shape → Bool
  are_all Nil s = true
  are_all (More v vs) s = has_shape v s && are_all vs s

  -- so many
  pub are_rows : Values → ℕ → Shape → Bool
  are_rows Nil zero s = true
  are_rows (More v vs) (suc n) s = has_shape v s && are_rows vs n s
  are_rows vs n s = false

  pub have_shapes : Values → Shapes → Bool
  have_shapes Nil no_shapes = true
  have_shapes (More v vs) (shapes s ss) = has_shape v s && have_shapes vs ss
  have_shapes vs ss = false
