-- Shapes that are made of numbers alone, and their values: how many bytes they have, and where their parts are.
use Rattle.std.proofs.Common.{◌≡◌, ℕ, ℤ, zero, suc, ◌+◌, ◌*◌, ◌<◌, Bool, true, false, Option, Some, None, refl, sym, ap, ap₂}
use Rattle.std.proofs.Common.{◌∙◌, arith, mul-suc, mul_comm}
use Rattle.std.specs.Prelude.{◌&&◌, nat_eq}
use Rattle.std.proofs.lemmas.Bool.{and_parts, eqb-true, true≢false}
use Rattle.nim_types.specs.Forms.{or_word}
use Rattle.nim_meaning.specs.Values.{Value, Number, Parts, Handle, Fixed, Ref, Resource, Gone, Vacant, Values, Nil, More, bytes, bytes_all}
use Rattle.flat_code.specs.Shapes.{Shape, number, reference, block, elements, row, parts, resource, Shapes, no_shapes, shapes, has_shape, are_rows, have_shapes}
pub use Rattle.word_lowering.specs.ShapeBytes.{shape_bytes, shapes_bytes}
use Rattle.word_lowering.proofs.InMemory.{OfNumbers, AllOfNumbers}

pub never : {A : Type 0} → false ≡ true → A
never h = absurd (true≢false (sym h))

-- the shape of a field
abbrev pub nth_shape : Shapes → ℕ → Option Shape
nth_shape no_shapes i = None
nth_shape (shapes s ss) zero = Some s
nth_shape (shapes s ss) (suc i) = nth_shape ss i

abbrev mutual
  pub of_numbers : Shape → Bool
  of_numbers (number values) = true
  of_numbers (row zero s) = true
  of_numbers (row (suc n) s) = of_numbers s
  of_numbers (parts ss) = all_of_numbers ss
  of_numbers s = false

  pub all_of_numbers : Shapes → Bool
  all_of_numbers no_shapes = true
  all_of_numbers (shapes s ss) = of_numbers s && all_of_numbers ss

-- what characters look like, and whatever else has as many values
abbrev pub letter : Shape
letter = number (Some 256)

abbrev pub is_letter : Shape → Bool
is_letter (number (Some values)) = nat_eq values 256
is_letter s = false

pub letter_is : (s : Shape) → is_letter s ≡ true → s ≡ letter
letter_is (number (Some values)) h = ap (λ n. number (Some n)) (eqb-true values 256 h)
letter_is (number None) h = never h
letter_is reference h = never h
letter_is block h = never h
letter_is (elements s) h = never h
letter_is (row n s) h = never h
letter_is (parts ss) h = never h
letter_is (resource ss) h = never h

-- an element of an array
pub row_numbers : (n i : ℕ) (s : Shape) → i < n → of_numbers (row n s) ≡ true → of_numbers s ≡ true
row_numbers zero i s lt o = absurd (omega (arith, lt))
row_numbers (suc n) i s lt o = o

-- what a number looks as is made of numbers
pub number_numbers : (z : ℤ) (s : Shape) → has_shape (Number z) s ≡ true → of_numbers s ≡ true
number_numbers z (number values) h = refl
number_numbers z reference h = never h
number_numbers z block h = never h
number_numbers z (elements s) h = never h
number_numbers z (row n s) h = never h
number_numbers z (parts ss) h = never h
number_numbers z (resource ss) h = never h

pub fewer_numbers : (n : ℕ) (s : Shape) → of_numbers s ≡ true → of_numbers (row n s) ≡ true
fewer_numbers zero s o = refl
fewer_numbers (suc n) s o = o

-- ---- values

mutual
  pub values_of_numbers : (v : Value) (s : Shape) → of_numbers s ≡ true → has_shape v s ≡ true → OfNumbers v
  values_of_numbers v reference o h = never o
  values_of_numbers v block o h = never o
  values_of_numbers v (elements s) o h = never o
  values_of_numbers v (resource ss) o h = never o
  values_of_numbers (Number z) (number values) o h = tt
  values_of_numbers (Parts vs) (number values) o h = never h
  values_of_numbers (Handle n k) (number values) o h = never h
  values_of_numbers (Fixed t) (number values) o h = never h
  values_of_numbers (Ref r) (number values) o h = never h
  values_of_numbers (Resource vs i) (number values) o h = never h
  values_of_numbers (Gone v f) (number values) o h = never h
  values_of_numbers Vacant (number values) o h = never h
  values_of_numbers (Number z) (row n s) o h = never h
  values_of_numbers (Parts vs) (row n s) o h = rows_of_numbers vs n s o h
  values_of_numbers (Handle m k) (row n s) o h = never h
  values_of_numbers (Fixed t) (row n s) o h = never h
  values_of_numbers (Ref r) (row n s) o h = never h
  values_of_numbers (Resource vs i) (row n s) o h = never h
  values_of_numbers (Gone v f) (row n s) o h = never h
  values_of_numbers Vacant (row n s) o h = never h
  values_of_numbers (Number z) (parts ss) o h = never h
  values_of_numbers (Parts vs) (parts ss) o h = parts_of_numbers vs ss o h
  values_of_numbers (Handle n k) (parts ss) o h = never h
  values_of_numbers (Fixed t) (parts ss) o h = never h
  values_of_numbers (Ref r) (parts ss) o h = never h
  values_of_numbers (Resource vs i) (parts ss) o h = never h
  values_of_numbers (Gone v f) (parts ss) o h = never h
  values_of_numbers Vacant (parts ss) o h = never h

  rows_of_numbers : (vs : Values) (n : ℕ) (s : Shape) → of_numbers (row n s) ≡ true → are_rows vs n s ≡ true → AllOfNumbers vs
  rows_of_numbers Nil n s o h = tt
  rows_of_numbers (More v vs) zero s o h = never h
  rows_of_numbers (More v vs) (suc n) s o h =
      let p = and_parts _ _ h in (values_of_numbers v s o p.0, rows_of_numbers vs n s (fewer_numbers n s o) p.1)

  parts_of_numbers : (vs : Values) (ss : Shapes) → all_of_numbers ss ≡ true → have_shapes vs ss ≡ true → AllOfNumbers vs
  parts_of_numbers Nil ss o h = tt
  parts_of_numbers (More v vs) no_shapes o h = never h
  parts_of_numbers (More v vs) (shapes s ss) o h =
      let p = and_parts _ _ h in let q = and_parts (of_numbers s) (all_of_numbers ss) o in
      (values_of_numbers v s q.0 p.0, parts_of_numbers vs ss q.1 p.1)

mutual
  -- a value of a shape has its bytes
  pub bytes_is : (v : Value) (s : Shape) → of_numbers s ≡ true → has_shape v s ≡ true → bytes v ≡ shape_bytes s
  bytes_is v reference o h = never o
  bytes_is v block o h = never o
  bytes_is v (elements s) o h = never o
  bytes_is v (resource ss) o h = never o
  bytes_is (Number z) (number x) o h = refl
  bytes_is (Parts vs) (number x) o h = never h
  bytes_is (Handle m k) (number x) o h = never h
  bytes_is (Fixed t) (number x) o h = never h
  bytes_is (Ref r) (number x) o h = never h
  bytes_is (Resource vs i) (number x) o h = never h
  bytes_is (Gone v f) (number x) o h = never h
  bytes_is Vacant (number x) o h = never h
  bytes_is (Number z) (row n s) o h = never h
  bytes_is (Parts vs) (row n s) o h = ap or_word (rows_are vs n s o h)
  bytes_is (Handle m k) (row n s) o h = never h
  bytes_is (Fixed t) (row n s) o h = never h
  bytes_is (Ref r) (row n s) o h = never h
  bytes_is (Resource vs i) (row n s) o h = never h
  bytes_is (Gone v f) (row n s) o h = never h
  bytes_is Vacant (row n s) o h = never h
  bytes_is (Number z) (parts ss) o h = never h
  bytes_is (Parts vs) (parts ss) o h = ap or_word (parts_are vs ss o h)
  bytes_is (Handle m k) (parts ss) o h = never h
  bytes_is (Fixed t) (parts ss) o h = never h
  bytes_is (Ref r) (parts ss) o h = never h
  bytes_is (Resource vs i) (parts ss) o h = never h
  bytes_is (Gone v f) (parts ss) o h = never h
  bytes_is Vacant (parts ss) o h = never h

  pub rows_are : (vs : Values) (n : ℕ) (s : Shape) → of_numbers (row n s) ≡ true → are_rows vs n s ≡ true → bytes_all vs ≡ n * shape_bytes s
  rows_are Nil zero s o h = omega arith
  rows_are Nil (suc n) s o h = never h
  rows_are (More v vs) zero s o h = never h
  rows_are (More v vs) (suc n) s o h =
      let p = and_parts _ _ h in
      let b : ℕ = shape_bytes s in
      let first : bytes v ≡ b = bytes_is v s o p.0 in
      let rest : bytes_all vs ≡ n * b = rows_are vs n s (fewer_numbers n s o) p.1 in
      let more : suc n * b ≡ b * n + b = mul_comm (suc n) b ∙ mul-suc b n in
      let turned : n * b ≡ b * n = mul_comm n b in
      omega arith

  pub parts_are : (vs : Values) (ss : Shapes) → all_of_numbers ss ≡ true → have_shapes vs ss ≡ true → bytes_all vs ≡ shapes_bytes ss
  parts_are Nil no_shapes o h = refl
  parts_are Nil (shapes s ss) o h = never h
  parts_are (More v vs) no_shapes o h = never h
  parts_are (More v vs) (shapes s ss) o h =
      let p = and_parts _ _ h in let q = and_parts (of_numbers s) (all_of_numbers ss) o in
      ap₂ (λ x y. x + y) (bytes_is v s q.0 p.0) (parts_are vs ss q.1 p.1)
