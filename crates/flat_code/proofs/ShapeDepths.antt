-- Types that have forms have shapes that looking through more declared types doesn't change.
use Rattle.std.proofs.Common.{◌≡◌, ◌≢◌, ℕ, zero, suc, ◌≤◌, true, false, [], ◌∷◌, length, Option, Some, None, refl, sym, ap, ap₂, ◌∙◌}
use Rattle.std.proofs.Common.{arith}
use Rattle.nim_types.specs.Types as type
use Rattle.nim_types.specs.Types.{Ty, Tys, Key, Fact, members, fields, base, below, Facts, fact_of}
use Rattle.nim_types.specs.Forms.{Form, wrapped, Forms, IsForm, of_int, of_bool, of_char, of_text, of_sequence, of_any_sequence, of_array, of_tuple}
use Rattle.nim_types.specs.Forms.{of_parameter}
use Rattle.nim_types.specs.Forms.{of_enum, of_object, of_distinct, of_ref, of_exception, AreForms, none_of, more_of, object_form}
use Rattle.nim_types.proofs.ForCallers.{object_weight, without, others_stay, still_among, fewer, smaller, all_smaller}
use Rattle.flat_code.specs.Shapes.{Shape, elements, row, parts, shapes, shape_in, shapes_in, object_shape, shape_by}
use Rattle.flat_code.specs.Shapes.{shape_within, shape_of}

-- what is said of a declared type is of its sort
abbrev pub IsSorted : Ty → Fact → Type 0
IsSorted (type.enum key) (members names) = Unit {0}
IsSorted (type.object key arguments) (fields all own_hooks) = Unit {0}
IsSorted (type.distinct key) (base t) = Unit {0}
IsSorted (type.exception key) (below parent) = Unit {0}
IsSorted ty fact = ⊥

abbrev pub AreSorted : Facts → Type 0
AreSorted facts = (ty : Ty) (fact : Fact) → fact_of facts ty ≡ Some fact → IsSorted ty fact

pub none_some : {A : Type 0} {x : A} {B : Type 0} → None ≡ Some x → B
none_some e = cc

-- ---- a type that is built of types of which two depths say the same

module _ (facts : Facts) (k l : Ty → Shape) (objects : (key : Key) (arguments : Tys) (f : Form) → IsForm true facts (type.object key arguments) f →
    k (type.object key arguments) ≡ l (type.object key arguments))
    (distincts : (key : Key) (f : Form) → IsForm true facts (type.distinct key) f → k (type.distinct key) ≡ l (type.distinct key))
    (enums : (key : Key) → k (type.enum key) ≡ l (type.enum key)) where
  mutual
    same_in : {t : Ty} {f : Form} → IsForm true facts t f → shape_in k t ≡ shape_in l t
    same_in of_int = refl
    same_in of_bool = refl
    same_in of_char = refl
    same_in of_text = refl
    same_in (of_sequence d a) = ap elements (same_in a)
    same_in (of_any_sequence d) = absurd (wrong d)
      where
        wrong : true ≡ false → ⊥
        wrong e = cc
    same_in (of_array {n} a) = ap (row n) (same_in a)
    same_in (of_tuple a) = ap parts (all_in a)
    same_in of_parameter = refl
    same_in (of_enum {key}) = enums key
    same_in (of_object {key} {arguments} {own_hooks = own_hooks} {fs = fs} e a) = objects key arguments (object_form own_hooks fs) (of_object e a)
    same_in (of_distinct {key} {f = f} e a) = distincts key (wrapped f) (of_distinct e a)
    same_in of_ref = refl
    same_in of_exception = refl

    all_in : {ts : Tys} {fs : Forms} → AreForms true facts ts fs → shapes_in k ts ≡ shapes_in l ts
    all_in none_of = refl
    all_in (more_of a s) = ap₂ shapes (same_in a) (all_in s)

-- ---- what is known of fewer types

-- some of all, with all enums
pub record Some_of (facts all : Facts) : Type 0 where
  pub among : (ty : Ty) (fact : Fact) → fact_of facts ty ≡ Some fact → fact_of all ty ≡ Some fact
  pub enums : (key : Key) → fact_of facts (type.enum key) ≡ fact_of all (type.enum key)

module _ (all : Facts) (sorted : AreSorted all) where
  -- without one that is no enum
  fewer_of : (t : Ty) (facts : Facts) → ((key : Key) → type.enum key ≢ t) → Some_of facts all → Some_of (without t facts) all
  fewer_of t facts no_enum some = record {
    among = λ ty fact e. some.among ty fact (still_among t facts ty fact e);
    enums = λ key. others_stay t (type.enum key) facts (no_enum key) ∙ some.enums key;
  }

  -- an enum is the same at each depth that is enough
  enum_by : (k l : Ty → Shape) (key : Key) (o : Option Fact) → fact_of all (type.enum key) ≡ o → shape_by k o ≡ shape_by l o
  enum_by k l key None e = refl
  enum_by k l key (Some (members names)) e = refl
  enum_by k l key (Some (fields own own_hooks)) e = absurd (sorted (type.enum key) (fields own own_hooks) e)
  enum_by k l key (Some (base t)) e = absurd (sorted (type.enum key) (base t) e)
  enum_by k l key (Some (below parent)) e = refl

  enum_same : (n m : ℕ) (facts : Facts) → length facts ≤ n → n ≤ m → Some_of facts all → (key : Key) →
      shape_within n all (type.enum key) ≡ shape_within m all (type.enum key)
  enum_same zero zero facts le more some key = refl
  enum_same zero (suc m) [] le more some key = sym (ap (shape_by (shape_within m all)) (sym (some.enums key)))
  enum_same zero (suc m) (d ∷ ds) le more some key = absurd (omega (arith, le))
  enum_same (suc n) zero facts le more some key = absurd (omega (arith, more))
  enum_same (suc n) (suc m) facts le more some key = enum_by (shape_within n all) (shape_within m all) key (fact_of all (type.enum key)) refl

  no_object : (key other : Key) (arguments : Tys) → type.enum key ≢ type.object other arguments
  no_object key other arguments e = cc

  no_distinct : (key other : Key) → type.enum key ≢ type.distinct other
  no_distinct key other e = cc

  mutual
    objects : (n m : ℕ) (facts : Facts) → length facts ≤ n → n ≤ m → Some_of facts all → (key : Key) (arguments : Tys) (f : Form) →
        IsForm true facts (type.object key arguments) f → shape_within n all (type.object key arguments) ≡ shape_within m all (type.object key arguments)
    objects zero m [] le more some key arguments f (of_object {all = xs} {own_hooks = x} e a) = none_some e
    objects zero m (d ∷ ds) le more some key arguments f h = absurd (omega (arith, le))
    objects (suc n) zero facts le more some key arguments f h = absurd (omega (arith, more))
    objects (suc n) (suc m) facts le more some key arguments f (of_object {all = xs} {own_hooks = x} {fs = fs} e a) =
        let t : Ty = type.object key arguments in
        let whole : IsForm true facts t (object_form x fs) = of_object e a in
        let rest = without t facts in
        let few : length rest ≤ n = omega (arith, le, fewer t facts (fields xs x) e) in
        let left = fewer_of t facts (λ other. no_object other key arguments) some in
        let smaller_parts = all_smaller whole a (omega (arith, object_weight x fs)) in
        let said = some.among t (fields xs x) e in
        ap (shape_by (shape_within n all)) said
        ∙ ap (object_shape x) (all_in rest (shape_within n all) (shape_within m all)
        (objects n m rest few (omega (arith, more)) left) (distincts n m rest few (omega (arith, more)) left)
        (enum_same n m rest few (omega (arith, more)) left) smaller_parts)
        ∙ sym (ap (shape_by (shape_within m all)) said)

    distincts : (n m : ℕ) (facts : Facts) → length facts ≤ n → n ≤ m → Some_of facts all → (key : Key) (f : Form) →
        IsForm true facts (type.distinct key) f → shape_within n all (type.distinct key) ≡ shape_within m all (type.distinct key)
    distincts zero m [] le more some key f (of_distinct {t = u} e a) = none_some e
    distincts zero m (d ∷ ds) le more some key f h = absurd (omega (arith, le))
    distincts (suc n) zero facts le more some key f h = absurd (omega (arith, more))
    distincts (suc n) (suc m) facts le more some key f (of_distinct {t = u} {f = g} e a) =
        let t : Ty = type.distinct key in
        let whole : IsForm true facts t (wrapped g) = of_distinct e a in
        let rest = without t facts in
        let few : length rest ≤ n = omega (arith, le, fewer t facts (base u) e) in
        let left = fewer_of t facts (λ other. no_distinct other key) some in
        let smaller_part = smaller whole a (omega arith) in
        let said = some.among t (base u) e in
        ap (shape_by (shape_within n all)) said
        ∙ same_in rest (shape_within n all) (shape_within m all)
        (objects n m rest few (omega (arith, more)) left) (distincts n m rest few (omega (arith, more)) left)
        (enum_same n m rest few (omega (arith, more)) left) smaller_part
        ∙ sym (ap (shape_by (shape_within m all)) said)

  itself : Some_of all all
  itself = record { among = λ ty fact e. e; enums = λ key. refl }

  -- what is said of a declared type says its shape
  pub object_said : (key : Key) (arguments : Tys) (f : Form) → IsForm true all (type.object key arguments) f →
      shape_of all (type.object key arguments) ≡ shape_by (shape_within (length all) all) (fact_of all (type.object key arguments))
  object_said key arguments f h = objects (length all) (suc (length all)) all (omega arith) (omega arith) itself key arguments f h

  pub distinct_said : (key : Key) (f : Form) → IsForm true all (type.distinct key) f →
      shape_of all (type.distinct key) ≡ shape_by (shape_within (length all) all) (fact_of all (type.distinct key))
  distinct_said key f h = distincts (length all) (suc (length all)) all (omega arith) (omega arith) itself key f h

  pub enum_said : (key : Key) → shape_of all (type.enum key) ≡ shape_by (shape_within (length all) all) (fact_of all (type.enum key))
  enum_said key = enum_same (length all) (suc (length all)) all (omega arith) (omega arith) itself key
