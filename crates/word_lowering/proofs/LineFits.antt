-- What it says of types, values and words that a line fits them.
use Rattle.std.proofs.Common.{◌≡◌, ℕ, zero, suc, pos, Bool, true, false, [], ◌∷◌, length, Option, Some, None, ℤ, refl, sym, ap, ◌∙◌}
use Rattle.std.proofs.lemmas.Bool.{and_parts}
use Rattle.nim_types.specs.Types as type
use Rattle.nim_types.specs.Types.{Ty, Facts, Fact, members, fields, base, below, fact_of}
use Rattle.nim_types.specs.Forms.{types_of}
use Rattle.nim_types.proofs.ForCallers.{same_sound}
use Rattle.nim_program.specs.Ints.{fits as is_int_number}
use Rattle.nim_program.specs.Kinds as kind
use Rattle.nim_program.specs.Kinds.{element_of, has_length, TypeKind, declared_kind, kind_of, kind_if, is_int, is_bool, is_ordinal, is_of, same_value}
use Rattle.nim_meaning.specs.Values.{Values, Nil, More, count, length_of, Value, Number, Parts, Handle, Fixed, Ref, Resource, Gone, Vacant, number_of}
use Rattle.flat_code.specs.Shapes.{Shape, number, reference, block, elements, row, parts, resource, has_shape, is_ordinal as is_ordinal_value, Shapes}
use Rattle.flat_code.specs.Shapes.{no_shapes, shapes, are_all, are_rows, have_shapes}
use Rattle.flat_code.specs.Shapes.{shape_by, shape_within}
use Rattle.flat_code.specs.Shapes.{shape_of}
use Rattle.word_lowering.proofs.ShapeFacts.{never, of_numbers}
use Rattle.word_lowering.proofs.Options.{none_some}
use Rattle.word_lowering.proofs.Sites.{is_one_word}
use Rattle.word_lowering.proofs.Moves.{is_single}
use Rattle.word_lowering.proofs.InMemory.{HasWords, HaveWords}
use Rattle.word_lowering.proofs.Arithmetic.{word_small}

-- ---- types that are equal

-- both are there, and the same
pub record AreOf (o p : Option Ty) : Type 0 where
  pub ty : Ty
  pub is : o ≡ Some ty
  pub is_other : p ≡ Some ty

pub are_of : (o p : Option Ty) → is_of o p ≡ true → AreOf o p
are_of None p h = never h
are_of (Some s) None h = never h
are_of (Some s) (Some t) h = record { ty = s; is = refl; is_other = ap Some (sym (same_sound s t h)) }

-- the same, or none at all
pub same_type : (o p : Option Ty) → same_value o p ≡ true → o ≡ p
same_type None None h = refl
same_type None (Some t) h = never h
same_type (Some s) None h = never h
same_type (Some s) (Some t) h = ap Some (same_sound s t h)

pub value_type : (o : Option Ty) (ty : Ty) → same_value o (Some ty) ≡ true → o ≡ Some ty
value_type None ty h = never h
value_type (Some s) ty h = ap Some (same_sound s ty h)

pub no_type : (o : Option Ty) → same_value o None ≡ true → o ≡ None
no_type None h = refl
no_type (Some s) h = never h

pub type_there : (o p : Option Ty) (ty : Ty) → same_value o p ≡ true → o ≡ Some ty → p ≡ Some ty
type_there o None ty h e = never (sym (ap (λ z. same_value z None) e) ∙ h)
type_there None (Some t) ty h e = absurd (none_some ty e)
type_there (Some s) (Some t) ty h e = sym (ap Some (same_sound s t h)) ∙ e

-- ---- the shapes of ordinals

-- a declared type is an ordinal where its members are known
known_shape : (facts : Facts) (ty : Ty) → is_ordinal (declared_kind (fact_of facts ty)) ≡ true
    → (values : Option ℕ) × (shape_within (length facts) facts ty ≡ number values)
known_shape [] ty h = never h
known_shape (f ∷ facts) ty h = by (fact_of (f ∷ facts) ty) refl h
  where
    by : (o : Option Fact) → fact_of (f ∷ facts) ty ≡ o → is_ordinal (declared_kind o) ≡ true
        → (values : Option ℕ) × (shape_within (length (f ∷ facts)) (f ∷ facts) ty ≡ number values)
    by None e k = never k
    by (Some (members names)) e k = (Some (length names), ap (λ o. shape_by (shape_within (length facts) (f ∷ facts)) o) e)
    by (Some (fields all own)) e k = never k
    by (Some (base t)) e k = never k
    by (Some (below t)) e k = never k

pub ordinal_shape : (facts : Facts) (ty : Ty) → is_ordinal (kind_of facts ty) ≡ true → (values : Option ℕ) × (shape_of facts ty ≡ number values)
ordinal_shape facts type.int h = (None, refl)
ordinal_shape facts type.bool h = (Some 2, refl)
ordinal_shape facts type.char h = (Some 256, refl)
ordinal_shape facts type.text h = never h
ordinal_shape facts (type.sequence t) h = never h
ordinal_shape facts (type.array n t) h = never h
ordinal_shape facts (type.tuple names ts) h = never h
ordinal_shape facts (type.parameter n) h = never h
ordinal_shape facts (type.enum key) h = known_shape facts (type.enum key) h
ordinal_shape facts (type.object key arguments) h = known_shape facts (type.object key arguments) h
ordinal_shape facts (type.distinct key) h = known_shape facts (type.distinct key) h
ordinal_shape facts (type.ref name t) h = never h
ordinal_shape facts (type.exception key) h = (None, refl)

-- no declared type is an int or a bool
pub declared_other : (is : TypeKind → Bool) → ((n : ℕ) → is (kind.enum n) ≡ false) → ((own : Bool) (ts : type.Tys) → is (kind.object own ts) ≡ false)
    → ((t : Ty) → is (kind.distinct t) ≡ false) → is kind.exception ≡ false → is kind.other ≡ false → (o : Option Fact) → is (declared_kind o) ≡ false
declared_other is a b c d e None = e
declared_other is a b c d e (Some (members names)) = a (length names)
declared_other is a b c d e (Some (fields all own)) = b own (types_of all)
declared_other is a b c d e (Some (base t)) = c t
declared_other is a b c d e (Some (below t)) = d

declared_no_int : (facts : Facts) (ty : Ty) → is_int (declared_kind (fact_of facts ty)) ≡ true → ⊥
declared_no_int facts ty h =
    never (sym (declared_other is_int (λ n. refl) (λ own ts. refl) (λ t. refl) refl refl (fact_of facts ty)) ∙ h)

declared_no_bool : (facts : Facts) (ty : Ty) → is_bool (declared_kind (fact_of facts ty)) ≡ true → ⊥
declared_no_bool facts ty h =
    never (sym (declared_other is_bool (λ n. refl) (λ own ts. refl) (λ t. refl) refl refl (fact_of facts ty)) ∙ h)

pub int_shape : (facts : Facts) (ty : Ty) → is_int (kind_of facts ty) ≡ true → shape_of facts ty ≡ number None
int_shape facts type.int h = refl
int_shape facts type.bool h = never h
int_shape facts type.char h = never h
int_shape facts type.text h = never h
int_shape facts (type.sequence t) h = never h
int_shape facts (type.array n t) h = never h
int_shape facts (type.tuple names ts) h = never h
int_shape facts (type.parameter n) h = never h
int_shape facts (type.enum key) h = absurd (declared_no_int facts (type.enum key) h)
int_shape facts (type.object key arguments) h = absurd (declared_no_int facts (type.object key arguments) h)
int_shape facts (type.distinct key) h = absurd (declared_no_int facts (type.distinct key) h)
int_shape facts (type.ref name t) h = never h
int_shape facts (type.exception key) h = refl

pub bool_shape : (facts : Facts) (ty : Ty) → is_bool (kind_of facts ty) ≡ true → shape_of facts ty ≡ number (Some 2)
bool_shape facts type.int h = never h
bool_shape facts type.bool h = refl
bool_shape facts type.char h = never h
bool_shape facts type.text h = never h
bool_shape facts (type.sequence t) h = never h
bool_shape facts (type.array n t) h = never h
bool_shape facts (type.tuple names ts) h = never h
bool_shape facts (type.parameter n) h = never h
bool_shape facts (type.enum key) h = absurd (declared_no_bool facts (type.enum key) h)
bool_shape facts (type.object key arguments) h = absurd (declared_no_bool facts (type.object key arguments) h)
bool_shape facts (type.distinct key) h = absurd (declared_no_bool facts (type.distinct key) h)
bool_shape facts (type.ref name t) h = never h
bool_shape facts (type.exception key) h = absurd (declared_no_bool facts (type.exception key) h)

-- what may have no type
pub some_kind : (facts : Facts) (o : Option Ty) (is : TypeKind → Bool) → is kind.other ≡ false → is (kind_if facts o) ≡ true
    → (ty : Ty) × (o ≡ Some ty) × (is (kind_of facts ty) ≡ true)
some_kind facts None is other h = never (sym other ∙ h)
some_kind facts (Some ty) is other h = (ty, refl, h)

-- ---- values of a shape

ordinal_fits : (values : Option ℕ) (z : ℤ) → is_ordinal_value values (Number z) ≡ true → is_int_number z ≡ true
ordinal_fits None z h = h
ordinal_fits (Some n) z h = (and_parts _ _ h).0

-- the number of a value is an int
pub number_fits : (x : Value) (s : Shape) → has_shape x s ≡ true → is_int_number (number_of x) ≡ true
number_fits (Number z) (number values) h = ordinal_fits values z h
number_fits (Number z) reference h = never h
number_fits (Number z) block h = never h
number_fits (Number z) (elements s) h = never h
number_fits (Number z) (row n s) h = never h
number_fits (Number z) (parts ss) h = never h
number_fits (Number z) (resource ss) h = never h
number_fits (Parts vs) s h = refl
number_fits (Handle n k) s h = refl
number_fits (Fixed t) s h = refl
number_fits (Ref r) s h = refl
number_fits (Resource vs i) s h = refl
number_fits (Gone v f) s h = refl
number_fits Vacant s h = refl

-- so do those in it
mutual
  pub has_words : (v : Value) (s : Shape) → has_shape v s ≡ true → HasWords v
  has_words (Number z) s h = word_small z (number_fits (Number z) s h)
  has_words (Parts vs) (elements s) h = all_words vs s h
  has_words (Parts vs) (row n s) h = row_words vs n s h
  has_words (Parts vs) (parts ss) h = part_words vs ss h
  has_words (Parts vs) (number values) h = never h
  has_words (Parts vs) reference h = never h
  has_words (Parts vs) block h = never h
  has_words (Parts vs) (resource ss) h = never h
  has_words (Handle n k) s h = tt
  has_words (Fixed t) s h = tt
  has_words (Ref r) s h = tt
  has_words (Resource vs i) s h = tt
  has_words (Gone v f) s h = tt
  has_words Vacant s h = tt

  all_words : (vs : Values) (s : Shape) → are_all vs s ≡ true → HaveWords vs
  all_words Nil s h = tt
  all_words (More v vs) s h = let p = and_parts _ _ h in (has_words v s p.0, all_words vs s p.1)

  row_words : (vs : Values) (n : ℕ) (s : Shape) → are_rows vs n s ≡ true → HaveWords vs
  row_words Nil n s h = tt
  row_words (More v vs) zero s h = never h
  row_words (More v vs) (suc n) s h = let p = and_parts _ _ h in (has_words v s p.0, row_words vs n s p.1)

  part_words : (vs : Values) (ss : Shapes) → have_shapes vs ss ≡ true → HaveWords vs
  part_words Nil ss h = tt
  part_words (More v vs) no_shapes h = never h
  part_words (More v vs) (shapes s ss) h = let p = and_parts _ _ h in (has_words v s p.0, part_words vs ss p.1)

-- one of numbers is one word as its shape is
pub single_is : (x : Value) (s : Shape) → of_numbers s ≡ true → has_shape x s ≡ true → is_single x ≡ is_one_word s
single_is x reference o h = never o
single_is x block o h = never o
single_is x (elements s) o h = never o
single_is x (resource ss) o h = never o
single_is (Number z) (number values) o h = refl
single_is (Parts vs) (number values) o h = never h
single_is (Handle n k) (number values) o h = never h
single_is (Fixed t) (number values) o h = never h
single_is (Ref r) (number values) o h = never h
single_is (Resource vs i) (number values) o h = never h
single_is (Gone v f) (number values) o h = never h
single_is Vacant (number values) o h = never h
single_is (Number z) (row n s) o h = never h
single_is (Parts vs) (row n s) o h = refl
single_is (Handle m k) (row n s) o h = refl
single_is (Fixed t) (row n s) o h = refl
single_is (Ref r) (row n s) o h = refl
single_is (Resource vs i) (row n s) o h = refl
single_is (Gone v f) (row n s) o h = refl
single_is Vacant (row n s) o h = refl
single_is (Number z) (parts ss) o h = never h
single_is (Parts vs) (parts ss) o h = refl
single_is (Handle m k) (parts ss) o h = refl
single_is (Fixed t) (parts ss) o h = refl
single_is (Ref r) (parts ss) o h = refl
single_is (Resource vs i) (parts ss) o h = refl
single_is (Gone v f) (parts ss) o h = refl
single_is Vacant (parts ss) o h = refl

pub number_value : (x : Value) (values : Option ℕ) → has_shape x (number values) ≡ true → (z : ℤ) × (x ≡ Number z)
number_value (Number z) values h = (z, refl)
number_value (Parts vs) values h = never h
number_value (Handle n k) values h = never h
number_value (Fixed t) values h = never h
number_value (Ref r) values h = never h
number_value (Resource vs i) values h = never h
number_value (Gone v f) values h = never h
number_value Vacant values h = never h

pub single_number : (x : Value) → is_single x ≡ true → (z : ℤ) × (x ≡ Number z)
single_number (Number z) h = (z, refl)
single_number (Parts vs) h = never h
single_number (Handle n k) h = never h
single_number (Fixed t) h = never h
single_number (Ref r) h = never h
single_number (Resource vs i) h = never h
single_number (Gone v f) h = never h
single_number Vacant h = never h

-- ---- arrays

-- no declared type has a length
declared_no_length : (facts : Facts) (ty : Ty) → has_length (declared_kind (fact_of facts ty)) ≡ true → ⊥
declared_no_length facts ty h =
    never (sym (declared_other has_length (λ n. refl) (λ own ts. refl) (λ t. refl) refl refl (fact_of facts ty)) ∙ h)

-- a row whose length is an int
pub record RowOf (s : Shape) : Type 0 where
  pub count : ℕ
  pub of : Shape
  pub is : s ≡ row count of
  pub fits : is_int_number (pos count) ≡ true

-- neither a text nor a sequence
abbrev pub no_handle : Shape → Bool
no_handle block = false
no_handle (elements s) = false
no_handle s = true

pub numbers_no_handle : (s : Shape) → of_numbers s ≡ true → no_handle s ≡ true
numbers_no_handle (number values) o = refl
numbers_no_handle reference o = refl
numbers_no_handle block o = o
numbers_no_handle (elements s) o = o
numbers_no_handle (row n s) o = refl
numbers_no_handle (parts ss) o = refl
numbers_no_handle (resource ss) o = refl

pub array_shape : (facts : Facts) (ty : Ty) → has_length (kind_of facts ty) ≡ true → no_handle (shape_of facts ty) ≡ true → RowOf (shape_of facts ty)
array_shape facts type.int h o = never h
array_shape facts type.bool h o = never h
array_shape facts type.char h o = never h
array_shape facts type.text h o = never o
array_shape facts (type.sequence t) h o = never o
array_shape facts (type.array n t) h o = record { count = n; of = shape_of facts t; is = refl; fits = h }
array_shape facts (type.tuple names ts) h o = never h
array_shape facts (type.parameter n) h o = never h
array_shape facts (type.enum key) h o = absurd (declared_no_length facts (type.enum key) h)
array_shape facts (type.object key arguments) h o = absurd (declared_no_length facts (type.object key arguments) h)
array_shape facts (type.distinct key) h o = absurd (declared_no_length facts (type.distinct key) h)
array_shape facts (type.ref name t) h o = never h
array_shape facts (type.exception key) h o = absurd (declared_no_length facts (type.exception key) h)

rows_count : (vs : Values) (n : ℕ) (s : Shape) → are_rows vs n s ≡ true → count vs ≡ n
rows_count Nil zero s h = refl
rows_count Nil (suc n) s h = never h
rows_count (More v vs) zero s h = never h
rows_count (More v vs) (suc n) s h = ap suc (rows_count vs n s (and_parts (has_shape v s) (are_rows vs n s) h).1)

pub row_length : (v : Value) (n : ℕ) (s : Shape) → has_shape v (row n s) ≡ true → length_of v ≡ n
row_length (Parts vs) n s h = rows_count vs n s h
row_length (Number z) n s h = never h
row_length (Handle m k) n s h = never h
row_length (Fixed t) n s h = never h
row_length (Ref r) n s h = never h
row_length (Resource vs i) n s h = never h
row_length (Gone v f) n s h = never h
row_length Vacant n s h = never h

declared_no_element : (facts : Facts) (ty of : Ty) → is_of (Some of) (element_of (declared_kind (fact_of facts ty))) ≡ true → ⊥
declared_no_element facts ty of h =
    never (sym (declared_other (λ k. is_of (Some of) (element_of k)) (λ n. refl) (λ own ts. refl) (λ t. refl) refl refl (fact_of facts ty)) ∙ h)

-- what has elements and is made of numbers is an array
pub elements_shape : (facts : Facts) (ty of : Ty) → is_of (Some of) (element_of (kind_of facts ty)) ≡ true → no_handle (shape_of facts ty) ≡ true
    → (n : ℕ) × (shape_of facts ty ≡ row n (shape_of facts of))
elements_shape facts type.int of h o = never h
elements_shape facts type.bool of h o = never h
elements_shape facts type.char of h o = never h
elements_shape facts type.text of h o = never o
elements_shape facts (type.sequence t) of h o = never o
elements_shape facts (type.array n t) of h o = (n, ap (λ u. row n (shape_of facts u)) (sym (same_sound of t h)))
elements_shape facts (type.tuple names ts) of h o = never h
elements_shape facts (type.parameter n) of h o = never h
elements_shape facts (type.enum key) of h o = absurd (declared_no_element facts (type.enum key) of h)
elements_shape facts (type.object key arguments) of h o = absurd (declared_no_element facts (type.object key arguments) of h)
elements_shape facts (type.distinct key) of h o = absurd (declared_no_element facts (type.distinct key) of h)
elements_shape facts (type.ref name t) of h o = never h
elements_shape facts (type.exception key) of h o = absurd (declared_no_element facts (type.exception key) of h)
