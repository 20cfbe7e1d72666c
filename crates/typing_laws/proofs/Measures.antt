-- Kinds and values that are known before any run.
use Rattle.std.proofs.Common.{◌≡◌, ℕ, zero, suc, ◌≤◌, Bool, true, false, List, [], ◌∷◌, length, Option, Some, None, refl, sym, ap, subst, ◌∙◌, arith}
use Rattle.std.specs.Prelude.{ℤ, pos, nat_le, if◌then◌else◌}
use Rattle.std.proofs.lemmas.Bool.{leb-true, le-leb}
use Rattle.nim_types.specs.Types as type
use Rattle.nim_types.specs.Types.{Ty, Tys, Fact, members, fields, base, below, Facts, fact_of, base_in, members_in}
use Rattle.nim_types.specs.Forms.{or_word}
use Rattle.nim_program.specs.declared.operation.Measure.{Measure}
use Rattle.nim_program.specs.declared.operation.Measure.TheVariants.{Len, High}
use Rattle.nim_program.specs.Program.{Literal, Literals, Number, Characters, NoObject, PartsOf, ElementsOf, NoLiteral, ALiteral}
use Rattle.nim_program.specs.Ints.{fits, inside, Checked, Fine, Trapped, within}
use Rattle.nim_program.specs.Traps.{OutOfRange}
use Rattle.nim_program.specs.Kinds as kind
use Rattle.nim_program.specs.Kinds.{TypeKind, declared_kind, kind_of, plain_kind, is_int, is_bool, is_text, is_ordinal, is_sequence, is_made, has_length}
use Rattle.nim_program.specs.Kinds.{is_among, is_value}
use Rattle.nim_program.specs.Kinds.{count_literals, is_constant, has_parts}
use Rattle.expr_rules.specs.declared.limits.TheConstants.{MOST_TYPE_BYTES}
use Rattle.expr_rules.specs.Literals.{part_bytes, all_bytes, literal_bytes}
use Rattle.expr_rules.specs.Constants.{Evaluated, comes_to, traps, varies, if_fine, limited, on_one, on_two, measured, count}
use Rattle.typing_laws.specs.Sound.{Sound, AreSound, of_int, of_bool, of_char, of_enum, is_said}
use Rattle.typing_laws.proofs.Tests.{never, ever}
use Rattle.typing_laws.proofs.SoundKinds.{nothing_below}

-- ---- what comes out

pub come_one : {A : Type 0} {a b : A} → ◌≡◌ {A = Evaluated A} (comes_to a) (comes_to b) → a ≡ b
come_one e = cc

pub record One {A B : Type 0} (go : A → Evaluated B) (a : Evaluated A) (b : B) : Type 0 where
  pub value : A
  pub comes : a ≡ comes_to value
  pub is : go value ≡ comes_to b

pub one_comes : {A B : Type 0} (go : A → Evaluated B) (a : Evaluated A) (b : B) → on_one go a ≡ comes_to b → One go a b
one_comes go (comes_to x) b e = record { value = x; comes = refl; is = e }
one_comes go traps b e = cc
one_comes go varies b e = cc

pub record Two {A B C : Type 0} (go : A → B → Evaluated C) (a : Evaluated A) (b : Evaluated B) (c : C) : Type 0 where
  pub left : A
  pub right : B
  pub left_comes : a ≡ comes_to left
  pub right_comes : b ≡ comes_to right
  pub is : go left right ≡ comes_to c

pub two_come : {A B C : Type 0} (go : A → B → Evaluated C) (a : Evaluated A) (b : Evaluated B) (c : C) → on_two go a b ≡ comes_to c → Two go a b c
two_come go (comes_to x) (comes_to y) c e = record { left = x; right = y; left_comes = refl; right_comes = refl; is = e }
two_come go (comes_to x) traps c e = cc
two_come go (comes_to x) varies c e = cc
two_come go traps (comes_to y) c e = cc
two_come go traps traps c e = cc
two_come go traps varies c e = cc
two_come go varies (comes_to y) c e = cc
two_come go varies traps c e = cc
two_come go varies varies c e = cc

pub limited_is : (l m : Literal) → limited l ≡ comes_to m → (l ≡ m) × (nat_le (literal_bytes l) MOST_TYPE_BYTES ≡ true)
limited_is l m e = by_test (nat_le (literal_bytes l) MOST_TYPE_BYTES) refl e
  where
    by_test : (b : Bool) → nat_le (literal_bytes l) MOST_TYPE_BYTES ≡ b → (if b then comes_to l else traps) ≡ comes_to m
        → (l ≡ m) × (nat_le (literal_bytes l) MOST_TYPE_BYTES ≡ true)
    by_test true f e = (come_one e, f)
    by_test false f e = cc

fine_one : (x z : ℤ) → Fine x ≡ Fine z → x ≡ z
fine_one x z e = cc

pub fine_is : (c : Checked) (l : Literal) → if_fine c ≡ comes_to l → (z : ℤ) × (c ≡ Fine z) × (Number z ≡ l)
fine_is (Fine z) l e = (z, refl, come_one e)
fine_is (Trapped trap) l e = cc

-- one of so many
pub within_is : (n : ℕ) (x z : ℤ) → within n x ≡ Fine z → (inside z n ≡ true) × (x ≡ z)
within_is n x z e = by_test (inside x n) refl e
  where
    by_test : (b : Bool) → inside x n ≡ b → (if b then Fine x else Trapped OutOfRange) ≡ Fine z → (inside z n ≡ true) × (x ≡ z)
    by_test true f e = let s = fine_one x z e in (subst (λ z. inside z n ≡ true) s f, s)
    by_test false f e = cc

-- ---- sizes

pub few : (n : ℕ) → nat_le n MOST_TYPE_BYTES ≡ true → fits (pos n) ≡ true
few n h = le-leb n 2147483647 (omega (arith, leb-true n MOST_TYPE_BYTES h))

word : (n : ℕ) → 1 ≤ or_word n
word zero = omega arith
word (suc n) = omega arith

some_bytes : (l : Literal) → 1 ≤ part_bytes l
some_bytes (Number z) = omega arith
some_bytes (Characters bytes) = omega arith
some_bytes NoObject = omega arith
some_bytes (PartsOf all) = word (all_bytes all)
some_bytes (ElementsOf all) = omega arith

counted : (all : Literals) → count_literals all ≤ all_bytes all
counted NoLiteral = omega arith
counted (ALiteral first rest) = omega (arith, some_bytes first, counted rest)

pub few_elements : (all : Literals) → nat_le (all_bytes all) MOST_TYPE_BYTES ≡ true → fits (pos (count_literals all)) ≡ true
few_elements all h =
    le-leb (count_literals all) 2147483647 (omega (arith, leb-true (all_bytes all) MOST_TYPE_BYTES h, counted all))

pub same_count : (all : Literals) → count all ≡ count_literals all
same_count NoLiteral = refl
same_count (ALiteral first rest) = ap suc (same_count rest)

pub measured_fits : (m : Measure) (n : ℕ) → fits (pos n) ≡ true → fits (measured m n) ≡ true
measured_fits Len n h = h
measured_fits High zero h = refl
measured_fits High (suc n) h = le-leb n 2147483647 (omega (arith, leb-true (suc n) 2147483647 h))

-- ---- kinds

abbrev pub is_wrapped : TypeKind → Bool
is_wrapped (kind.distinct t) = true
is_wrapped k = false

module _ (facts : Facts) (sound : AreSound facts) where
  -- what is no distinct type is as it is
  pub plain_by : (ty : Ty) → is_wrapped (kind_of facts ty) ≡ false → plain_kind facts ty ≡ kind_of facts ty
  plain_by ty w = by_fact ty (fact_of facts ty) refl w
    where
      done : (ty : Ty) → base_in (fact_of facts ty) ≡ None → plain_kind facts ty ≡ kind_of facts ty
      done ty e = ap (kind_of facts) (nothing_below (length facts) facts ty e)

      by_fact : (ty : Ty) (o : Option Fact) → fact_of facts ty ≡ o → is_wrapped (kind_of facts ty) ≡ false → plain_kind facts ty ≡ kind_of facts ty
      by_fact ty None e w = done ty (ap base_in e)
      by_fact ty (Some (members names)) e w = done ty (ap base_in e)
      by_fact ty (Some (fields all resource)) e w = done ty (ap base_in e)
      by_fact ty (Some (below parent)) e w = done ty (ap base_in e)
      by_fact (type.distinct key) (Some (base t)) e w = ever (sym (ap (λ o. is_wrapped (declared_kind o)) e) ∙ w)
      by_fact ty (Some (base t)) e w = never (sound.said ty (base t) e)

  -- ---- types by their kinds

  no_int : {A : Type 0} (o : Option Fact) → is_int (declared_kind o) ≡ true → A
  no_int None h = never h
  no_int (Some (members names)) h = never h
  no_int (Some (fields all resource)) h = never h
  no_int (Some (base t)) h = never h
  no_int (Some (below parent)) h = never h

  pub int_by : (ty : Ty) → is_int (kind_of facts ty) ≡ true → ty ≡ type.int
  int_by type.int h = refl
  int_by type.bool h = never h
  int_by type.char h = never h
  int_by type.text h = never h
  int_by (type.sequence t) h = never h
  int_by (type.array n t) h = never h
  int_by (type.tuple names ts) h = never h
  int_by (type.parameter n) h = never h
  int_by (type.ref name t) h = never h
  int_by (type.enum key) h = no_int (fact_of facts (type.enum key)) h
  int_by (type.object key ts) h = no_int (fact_of facts (type.object key ts)) h
  int_by (type.distinct key) h = no_int (fact_of facts (type.distinct key)) h
  int_by (type.exception key) h = no_int (fact_of facts (type.exception key)) h

  no_bool : {A : Type 0} (o : Option Fact) → is_bool (declared_kind o) ≡ true → A
  no_bool None h = never h
  no_bool (Some (members names)) h = never h
  no_bool (Some (fields all resource)) h = never h
  no_bool (Some (base t)) h = never h
  no_bool (Some (below parent)) h = never h

  pub bool_by : (ty : Ty) → is_bool (kind_of facts ty) ≡ true → ty ≡ type.bool
  bool_by type.bool h = refl
  bool_by type.int h = never h
  bool_by type.char h = never h
  bool_by type.text h = never h
  bool_by (type.sequence t) h = never h
  bool_by (type.array n t) h = never h
  bool_by (type.tuple names ts) h = never h
  bool_by (type.parameter n) h = never h
  bool_by (type.ref name t) h = never h
  bool_by (type.enum key) h = no_bool (fact_of facts (type.enum key)) h
  bool_by (type.object key ts) h = no_bool (fact_of facts (type.object key ts)) h
  bool_by (type.distinct key) h = no_bool (fact_of facts (type.distinct key)) h
  bool_by (type.exception key) h = no_bool (fact_of facts (type.exception key)) h

  -- nothing else has members
  no_members : (ty : Ty) → ((names : List (List ℕ)) → is_said ty (members names) ≡ false) → (o : Option Fact) → fact_of facts ty ≡ o
      → is_ordinal (declared_kind o) ≡ true → Sound facts ty
  no_members ty n None e h = never h
  no_members ty n (Some (members names)) e h = never (sym (n names) ∙ sound.said ty (members names) e)
  no_members ty n (Some (fields all resource)) e h = never h
  no_members ty n (Some (base t)) e h = never h
  no_members ty n (Some (below parent)) e h = never h

  -- an ordinal is sound: an enum has a member
  pub ordinal_sound : (ty : Ty) → is_ordinal (kind_of facts ty) ≡ true → Sound facts ty
  ordinal_sound type.int h = of_int
  ordinal_sound type.bool h = of_bool
  ordinal_sound type.char h = of_char
  ordinal_sound type.text h = never h
  ordinal_sound (type.sequence t) h = never h
  ordinal_sound (type.array n t) h = never h
  ordinal_sound (type.tuple names ts) h = never h
  ordinal_sound (type.parameter n) h = never h
  ordinal_sound (type.ref name t) h = never h
  ordinal_sound (type.enum key) h = by_fact (fact_of facts (type.enum key)) refl h
    where
      by_fact : (o : Option Fact) → fact_of facts (type.enum key) ≡ o → is_ordinal (declared_kind o) ≡ true → Sound facts (type.enum key)
      by_fact None e h = never h
      by_fact (Some (members [])) e h = never (sound.said (type.enum key) (members []) e)
      by_fact (Some (members (first ∷ rest))) e h = of_enum e
      by_fact (Some (fields all resource)) e h = never h
      by_fact (Some (base t)) e h = never h
      by_fact (Some (below parent)) e h = never h
  ordinal_sound (type.object key ts) h = no_members (type.object key ts) (λ names. refl) (fact_of facts (type.object key ts)) refl h
  ordinal_sound (type.distinct key) h = no_members (type.distinct key) (λ names. refl) (fact_of facts (type.distinct key)) refl h
  ordinal_sound (type.exception key) h = no_members (type.exception key) (λ names. refl) (fact_of facts (type.exception key)) refl h
