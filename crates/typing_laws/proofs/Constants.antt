-- What is computed of an expression before any run is a value of its type.
use Rattle.std.proofs.Common.{◌≡◌, ℕ, zero, suc, Bool, true, false, List, [], ◌∷◌, ◌++◌, length, Option, Some, None, inl, inr, refl, sym, ap, subst, ◌∙◌, arith}
use Rattle.std.specs.Prelude.{ℤ, pos, negsuc, ◌&&◌, ◌||◌, ◌⊎◌, nat_le, int_le, int_lt}
use Rattle.std.proofs.lemmas.Bool.{and_parts, or_cases, or_left, or_right}
use Rattle.std.specs.Ordering.{int_eq}
use Rattle.nim_types.specs.Types as type
use Rattle.nim_types.specs.Types.{Ty, Tys, no_types, types, Field, Fact, members, fields, base, below, Facts, fact_of, fields_in, members_in}
use Rattle.nim_program.specs.declared.operation.Operation.TheVariants as O
use Rattle.nim_program.specs.declared.operation.Operator.{Operator}
use Rattle.nim_program.specs.declared.operation.Operator.TheVariants as operator
use Rattle.nim_program.specs.declared.operation.UnaryOperator.{UnaryOperator}
use Rattle.nim_program.specs.declared.operation.UnaryOperator.TheVariants as unary
use Rattle.nim_program.specs.declared.operation.Comparison.{Comparison}
use Rattle.nim_program.specs.declared.operation.Measure.{Measure}
use Rattle.nim_program.specs.Program.{Literal, Literals, Number, Characters, NoObject, PartsOf, ElementsOf, NoLiteral, ALiteral}
use Rattle.nim_program.specs.Ints.{fits as is_int_value, inside, Fine, applied, applied_to, truth, within}
use Rattle.nim_program.specs.Kinds as kind
use Rattle.nim_program.specs.Kinds.{TypeKind, declared_kind, kind_of, plain_kind, is_int, is_bool, is_text, is_ordinal, is_sequence, is_made, has_length}
use Rattle.nim_program.specs.Kinds.{is_among, is_value}
use Rattle.nim_program.specs.Kinds.{count_literals, count_types, nth_type, is_constant, are_constants, has_parts, part_at, field_at, for_some, is_of, is_there}
use Rattle.nim_program.specs.Fitting.{fits, unary_takes, binary_takes, is_bitwise, is_converted, is_base_of}
use Rattle.expr_rules.specs.declared.limits.TheConstants.{MOST_TYPE_BYTES}
use Rattle.expr_rules.specs.Constants as C
use Rattle.expr_rules.specs.Constants.{Evaluated, comes_to, traps, varies, if_fine, limited, on_one, on_two, alone, in_pair, unary_of, binary_of, compare_of}
use Rattle.expr_rules.specs.Constants.{join_of}
use Rattle.expr_rules.specs.Constants.{letters_of, measure_of, measured, converted, among, shown, first_type, of_literal, if_computed, computing, with_values}
use Rattle.expr_rules.specs.Constants.{act_value, short_of}
use Rattle.expr_rules.specs.Constants.{both_of, either_of, unless_varies, value_in, values_in, value_at, field_literals, given_or, fields_of, object_of}
use Rattle.typing_laws.specs.Sound.{Sound, AreSound, of_bool}
use Rattle.typing_laws.specs.Sound.{of_distinct}
use Rattle.typing_laws.specs.Sound.{is_said}
use Rattle.typing_laws.proofs.Tests.{both, never, the_same}
use Rattle.typing_laws.proofs.SoundKinds.{plain_as}
use Rattle.typing_laws.proofs.Measures.{come_one, two_come, limited_is, fine_is, within_is, few, same_count, measured_fits}
use Rattle.typing_laws.proofs.Measures.{is_wrapped, plain_by, int_by, bool_by, ordinal_sound}

-- operations on ints give ints
abbrev pub Closed : Type 0
Closed = (o : Operator) (x y z : ℤ) → is_int_value x ≡ true → applied o x y ≡ Fine z → is_int_value z ≡ true

abbrev pub ClosedOne : Type 0
ClosedOne = (o : UnaryOperator) (x z : ℤ) → is_int_value x ≡ true → applied_to o x ≡ Fine z → is_int_value z ≡ true

module _ (facts : Facts) (sound : AreSound facts) (closed : Closed) (closed_one : ClosedOne) where
  -- ---- what holds of a value whatever its type is made of

  abbrev pub Lengths : TypeKind → Literal → Type 0
  Lengths k (Number z) = is_int_value z ≡ true
  Lengths k (Characters bytes) = nat_le (length bytes) MOST_TYPE_BYTES ≡ true
  Lengths k NoObject = Unit {0}
  Lengths k (PartsOf all) = has_length k ≡ true → is_int_value (pos (count_literals all)) ≡ true
  Lengths k (ElementsOf all) = is_int_value (pos (count_literals all)) ≡ true

  abbrev pub Kept : Ty → Literal → Type 0
  Kept t l = Lengths (plain_kind facts t) l × (Sound facts t → is_constant facts t l ≡ true)

  abbrev pub KeptIf : Option Ty → Literal → Type 0
  KeptIf o l = (t : Ty) → o ≡ Some t → Kept t l

  abbrev pub AllKept : List (Option Ty) → Literals → Type 0
  AllKept [] NoLiteral = Unit {0}
  AllKept (o ∷ os) (ALiteral l ls) = KeptIf o l × AllKept os ls
  AllKept os ls = ⊥

  -- ---- numbers

  fine : {y z : ℤ} → Fine y ≡ Fine z → y ≡ z
  fine e = cc

  number_is : {x y : ℤ} → ◌≡◌ {A = Evaluated Literal} (comes_to (Number x)) (comes_to (Number y)) → x ≡ y
  number_is e = cc

  pub number_of : (k : TypeKind) (t : Ty) (z : ℤ) → kind_of facts t ≡ k → is_wrapped k ≡ false → is_int_value z ≡ true → is_among k z ≡ true
      → Kept t (Number z)
  number_of k t z e w f a =
      (f, λ s. subst (λ k. is_value k z ≡ true) (sym (plain_by facts sound t (subst (λ k. is_wrapped k ≡ false) (sym e) w) ∙ e)) (both f a))

  pub int_kept : (t : Ty) (z : ℤ) → is_int (kind_of facts t) ≡ true → is_int_value z ≡ true → Kept t (Number z)
  int_kept t z h f = number_of kind.int t z (ap (kind_of facts) (int_by facts sound t h)) refl f refl

  pub bool_kept : (t : Ty) (b : Bool) → is_bool (kind_of facts t) ≡ true → Kept t (Number (truth b))
  bool_kept t true h = number_of kind.bool t (pos 1) (ap (kind_of facts) (bool_by facts sound t h)) refl refl refl
  bool_kept t false h = number_of kind.bool t (pos 0) (ap (kind_of facts) (bool_by facts sound t h)) refl refl refl

  pub text_kept : (t : Ty) (bytes : List ℕ) → is_text (kind_of facts t) ≡ true → nat_le (length bytes) MOST_TYPE_BYTES ≡ true → Kept t (Characters bytes)
  text_kept t bytes h f = (f, λ s. ap is_text (plain_by facts sound t (apart (kind_of facts t) h)) ∙ h)
    where
      apart : (k : TypeKind) → is_text k ≡ true → is_wrapped k ≡ false
      apart kind.text h = refl
      apart kind.int h = refl
      apart kind.bool h = refl
      apart kind.char h = refl
      apart (kind.enum n) h = refl
      apart (kind.sequence t) h = refl
      apart (kind.array n t) h = refl
      apart (kind.tuple ts) h = refl
      apart (kind.object resource ts) h = refl
      apart (kind.distinct t) h = never h
      apart (kind.ref t) h = refl
      apart kind.exception h = refl
      apart kind.parameter h = refl
      apart kind.other h = refl

  a_bool : (t : Ty) (z : ℤ) → is_bool (kind_of facts t) ≡ true → Kept t (Number z) → inside z 2 ≡ true
  a_bool t z h k =
      let e : t ≡ type.bool = bool_by facts sound t h in
      let c : is_constant facts type.bool (Number z) ≡ true =
      subst (λ t. is_constant facts t (Number z) ≡ true) e (k.1 (subst (Sound facts) (sym e) of_bool)) in
      (and_parts (is_int_value z) (inside z 2) (subst (λ k. is_value k z ≡ true) (plain_as sound of_bool refl) c)).1

  -- ---- one operand

  pub alone_is : (go : Literal → Evaluated Literal) (ls : Literals) (l : Literal) → alone go ls ≡ comes_to l
      → (a : Literal) × (ls ≡ ALiteral a NoLiteral) × (go a ≡ comes_to l)
  alone_is go NoLiteral l e = cc
  alone_is go (ALiteral a NoLiteral) l e = (a, refl, e)
  alone_is go (ALiteral a (ALiteral b more)) l e = cc

  pub single : (os : List (Option Ty)) (a : Literal) → AllKept os (ALiteral a NoLiteral) → (o : Option Ty) × (os ≡ o ∷ []) × KeptIf o a
  single [] a k = absurd k
  single (o ∷ []) a k = (o, refl, k.0)
  single (o ∷ p ∷ os) a k = absurd k.1

  pub pair_is : (go : Literal → Literal → Evaluated Literal) (ls : Literals) (l : Literal) → in_pair go ls ≡ comes_to l
      → (a : Literal) × (b : Literal) × (ls ≡ ALiteral a (ALiteral b NoLiteral)) × (go a b ≡ comes_to l)
  pair_is go NoLiteral l e = cc
  pair_is go (ALiteral a NoLiteral) l e = cc
  pair_is go (ALiteral a (ALiteral b NoLiteral)) l e = (a, b, refl, e)
  pair_is go (ALiteral a (ALiteral b (ALiteral c more))) l e = cc

  pub double : (os : List (Option Ty)) (a b : Literal) → AllKept os (ALiteral a (ALiteral b NoLiteral))
      → (o : Option Ty) × (p : Option Ty) × (os ≡ o ∷ p ∷ []) × KeptIf o a × KeptIf p b
  double [] a b k = absurd k
  double (o ∷ []) a b k = absurd k.1
  double (o ∷ p ∷ []) a b k = (o, p, refl, k.0, k.1.0)
  double (o ∷ p ∷ q ∷ os) a b k = absurd k.1.1

  pub of_type : (o : Option Ty) (t : Ty) → is_of o (Some t) ≡ true → o ≡ Some t
  of_type None t h = never h
  of_type (Some s) t h = ap (λ t. Some t) (the_same h)

  -- ---- operators

  signed : (op : UnaryOperator) (t : Ty) (x z : ℤ) → unary_takes op (kind_of facts t) ≡ true → Kept t (Number x) → applied_to op x ≡ Fine z → Kept t (Number z)
  signed unary.Not t x z h k e = subst (λ z. Kept t (Number z)) (fine e) (bool_kept t (int_eq x (pos 0)) h)
  signed unary.Plus t x z h k e = int_kept t z h (closed_one unary.Plus x z k.0 e)
  signed unary.Negate t x z h k e = int_kept t z h (closed_one unary.Negate x z k.0 e)
  signed unary.Complement t x z h k e = int_kept t z h (closed_one unary.Complement x z k.0 e)

  pub unary_kept : (op : UnaryOperator) (t : Ty) (o : Option Ty) (a l : Literal) → fits facts (O.Unary op) (Some t) (o ∷ []) ≡ true → KeptIf o a
      → unary_of op a ≡ comes_to l → Kept t l
  unary_kept op t o (Number x) l f k e =
      let p = and_parts (unary_takes op (kind_of facts t)) (is_of o (Some t)) f in
      let q = fine_is (applied_to op x) l e in
      subst (Kept t) q.2 (signed op t x q.0 p.0 (k t (of_type o t p.1)) q.1)
  unary_kept op t o (Characters bytes) l f k e = cc
  unary_kept op t o NoObject l f k e = cc
  unary_kept op t o (PartsOf all) l f k e = cc
  unary_kept op t o (ElementsOf all) l f k e = cc

  -- bit by bit, of bools
  bits : (op : Operator) (x y z : ℤ) → is_bitwise op ≡ true → inside x 2 ≡ true → inside y 2 ≡ true → applied op x y ≡ Fine z → inside z 2 ≡ true
  bits op x y z b h g e = by_values (one_bit x h) (one_bit y g)
    where
      one_bit : (x : ℤ) → inside x 2 ≡ true → (b : Bool) × (x ≡ truth b)
      one_bit (pos zero) h = (false, refl)
      one_bit (pos (suc zero)) h = (true, refl)
      one_bit (pos (suc (suc n))) h = absurd (beyond n (and_parts (int_le (pos 0) (pos (suc (suc n)))) (int_lt (pos (suc (suc n))) (pos 2)) h).1)
        where
          beyond : (n : ℕ) → int_lt (pos (suc (suc n))) (pos 2) ≡ true → ⊥
          beyond n h = grind arith
      one_bit (negsuc n) h = never h

      of_bits : (op : Operator) (b c : Bool) → is_bitwise op ≡ true → applied op (truth b) (truth c) ≡ Fine z → inside z 2 ≡ true
      of_bits operator.BitAnd true true f e = subst (λ z. inside z 2 ≡ true) (fine e) refl
      of_bits operator.BitAnd true false f e = subst (λ z. inside z 2 ≡ true) (fine e) refl
      of_bits operator.BitAnd false true f e = subst (λ z. inside z 2 ≡ true) (fine e) refl
      of_bits operator.BitAnd false false f e = subst (λ z. inside z 2 ≡ true) (fine e) refl
      of_bits operator.BitOr true true f e = subst (λ z. inside z 2 ≡ true) (fine e) refl
      of_bits operator.BitOr true false f e = subst (λ z. inside z 2 ≡ true) (fine e) refl
      of_bits operator.BitOr false true f e = subst (λ z. inside z 2 ≡ true) (fine e) refl
      of_bits operator.BitOr false false f e = subst (λ z. inside z 2 ≡ true) (fine e) refl
      of_bits operator.BitXor true true f e = subst (λ z. inside z 2 ≡ true) (fine e) refl
      of_bits operator.BitXor true false f e = subst (λ z. inside z 2 ≡ true) (fine e) refl
      of_bits operator.BitXor false true f e = subst (λ z. inside z 2 ≡ true) (fine e) refl
      of_bits operator.BitXor false false f e = subst (λ z. inside z 2 ≡ true) (fine e) refl
      of_bits op b c f e = never f

      by_values : (b : Bool) × (x ≡ truth b) → (c : Bool) × (y ≡ truth c) → inside z 2 ≡ true
      by_values (c, p) (d, q) = of_bits op c d b (subst (λ x. applied op x (truth d) ≡ Fine z) p (subst (λ y. applied op x y ≡ Fine z) q e))

  computed_kept : (op : Operator) (t : Ty) (x y z : ℤ) → binary_takes op (kind_of facts t) ≡ true → Kept t (Number x) → Kept t (Number y)
      → applied op x y ≡ Fine z → Kept t (Number z)
  computed_kept op t x y z h j k e = by_kind (or_cases (is_int (kind_of facts t)) (is_bitwise op && is_bool (kind_of facts t)) h)
    where
      by_kind : (is_int (kind_of facts t) ≡ true) ⊎ ((is_bitwise op && is_bool (kind_of facts t)) ≡ true) → Kept t (Number z)
      by_kind (inl i) = int_kept t z i (closed op x y z j.0 e)
      by_kind (inr b) =
          let p = and_parts (is_bitwise op) (is_bool (kind_of facts t)) b in
          number_of kind.bool t z (ap (kind_of facts) (bool_by facts sound t p.1)) refl (closed op x y z j.0 e)
          (bits op x y z p.0 (a_bool t x p.1 j) (a_bool t y p.1 k) e)

  pub binary_kept : (op : Operator) (t : Ty) (o p : Option Ty) (a b l : Literal) → fits facts (O.Binary op) (Some t) (o ∷ p ∷ []) ≡ true → KeptIf o a
      → KeptIf p b
      → binary_of op a b ≡ comes_to l → Kept t l
  binary_kept op t o p (Number x) (Number y) l f j k e =
      let r = and_parts (binary_takes op (kind_of facts t)) (is_of o (Some t) && is_of p (Some t)) f in
      let s = and_parts (is_of o (Some t)) (is_of p (Some t)) r.1 in
      let q = fine_is (applied op x y) l e in
      subst (Kept t) q.2 (computed_kept op t x y q.0 r.0 (j t (of_type o t s.0)) (k t (of_type p t s.1)) q.1)
  binary_kept op t o p (Number x) (Characters bytes) l f j k e = cc
  binary_kept op t o p (Number x) NoObject l f j k e = cc
  binary_kept op t o p (Number x) (PartsOf all) l f j k e = cc
  binary_kept op t o p (Number x) (ElementsOf all) l f j k e = cc
  binary_kept op t o p (Characters bytes) b l f j k e = cc
  binary_kept op t o p NoObject b l f j k e = cc
  binary_kept op t o p (PartsOf all) b l f j k e = cc
  binary_kept op t o p (ElementsOf all) b l f j k e = cc

  pub compare_kept : (c : Comparison) (t : Ty) (a b l : Literal) → is_bool (kind_of facts t) ≡ true → compare_of c a b ≡ comes_to l → Kept t l
  compare_kept c t (Number x) (Number y) l h e = subst (Kept t) (come_one e) (bool_kept t _ h)
  compare_kept c t (Characters x) (Characters y) l h e = subst (Kept t) (come_one e) (bool_kept t _ h)
  compare_kept c t (Number x) (Characters y) l h e = cc
  compare_kept c t (Number x) NoObject l h e = cc
  compare_kept c t (Number x) (PartsOf y) l h e = cc
  compare_kept c t (Number x) (ElementsOf y) l h e = cc
  compare_kept c t (Characters x) (Number y) l h e = cc
  compare_kept c t (Characters x) NoObject l h e = cc
  compare_kept c t (Characters x) (PartsOf y) l h e = cc
  compare_kept c t (Characters x) (ElementsOf y) l h e = cc
  compare_kept c t NoObject b l h e = cc
  compare_kept c t (PartsOf x) b l h e = cc
  compare_kept c t (ElementsOf x) b l h e = cc

  -- ---- texts

  limited_text : (t : Ty) (bytes : List ℕ) (l : Literal) → is_text (kind_of facts t) ≡ true → limited (Characters bytes) ≡ comes_to l → Kept t l
  limited_text t bytes l h e = let q = limited_is (Characters bytes) l e in subst (Kept t) q.0 (text_kept t bytes h q.1)

  pub join_kept : (t : Ty) (a b l : Literal) → is_text (kind_of facts t) ≡ true → join_of a b ≡ comes_to l → Kept t l
  join_kept t a b l h e =
      let q = two_come (λ s t. limited (Characters (s ++ t))) (letters_of a) (letters_of b) l e in limited_text t (q.left ++ q.right) l h q.is

  pub show_kept : (t : Ty) (o : Option Ty) (a l : Literal) → is_text (kind_of facts t) ≡ true → is_there o ≡ true → KeptIf o a → shown facts o a ≡ comes_to l
      → Kept t l
  show_kept t None a l h i k e = never i
  show_kept t (Some s) (Number z) l h i k e = limited_text t _ l h e
  show_kept t (Some s) (Characters bytes) l h i k e = subst (Kept t) (come_one e) (text_kept t bytes h (k s refl).0)
  show_kept t (Some s) NoObject l h i k e = cc
  show_kept t (Some s) (PartsOf all) l h i k e = cc
  show_kept t (Some s) (ElementsOf all) l h i k e = cc

  -- ---- lengths

  pub length_kept : (m : Measure) (k : TypeKind) (a : Literal) (z : ℤ) → has_length k ≡ true → Lengths k a → measure_of m a ≡ comes_to (Number z)
      → is_int_value z ≡ true
  length_kept m k (Characters bytes) z h l e = subst (λ z. is_int_value z ≡ true) (number_is e) (measured_fits m (length bytes) (few (length bytes) l))
  length_kept m k (ElementsOf all) z h l e =
      subst (λ z. is_int_value z ≡ true) (number_is e) (measured_fits m (C.count all) (subst (λ n. is_int_value (pos n) ≡ true) (sym (same_count all)) l))
  length_kept m k (PartsOf all) z h l e =
      subst (λ z. is_int_value z ≡ true) (number_is e) (measured_fits m (C.count all) (subst (λ n. is_int_value (pos n) ≡ true) (sym (same_count all)) (l h)))
  length_kept m k (Number x) z h l e = cc
  length_kept m k NoObject z h l e = cc

  -- ---- values of another type

  none_inside : {A : Type 0} (z : ℤ) → inside z 0 ≡ true → A
  none_inside (pos n) h = absurd (beyond n (and_parts (int_le (pos 0) (pos n)) (int_lt (pos n) (pos 0)) h).1)
    where
      beyond : (n : ℕ) → int_lt (pos n) (pos 0) ≡ true → ⊥
      beyond n h = grind arith
  none_inside (negsuc n) h = never h

  -- a distinct type with a base
  base_fact : (s t : Ty) → is_base_of (kind_of facts s) t ≡ true → fact_of facts s ≡ Some (base t)
  base_fact s t h = by_sort s h (fact_of facts s) refl
    where
      by_fact : (s : Ty) (o : Option Fact) → fact_of facts s ≡ o → is_base_of (declared_kind o) t ≡ true → fact_of facts s ≡ Some (base t)
      by_fact s None e h = never h
      by_fact s (Some (members names)) e h = never h
      by_fact s (Some (fields all resource)) e h = never h
      by_fact s (Some (below parent)) e h = never h
      by_fact s (Some (base u)) e h = e ∙ ap (λ u. Some (base u)) (the_same h)

      by_sort : (s : Ty) → is_base_of (kind_of facts s) t ≡ true → (o : Option Fact) → fact_of facts s ≡ o → fact_of facts s ≡ Some (base t)
      by_sort (type.enum key) h o e = by_fact (type.enum key) (fact_of facts (type.enum key)) refl h
      by_sort (type.object key ts) h o e = by_fact (type.object key ts) (fact_of facts (type.object key ts)) refl h
      by_sort (type.distinct key) h o e = by_fact (type.distinct key) (fact_of facts (type.distinct key)) refl h
      by_sort (type.exception key) h o e = by_fact (type.exception key) (fact_of facts (type.exception key)) refl h
      by_sort type.int h o e = never h
      by_sort type.bool h o e = never h
      by_sort type.char h o e = never h
      by_sort type.text h o e = never h
      by_sort (type.sequence u) h o e = never h
      by_sort (type.array n u) h o e = never h
      by_sort (type.tuple names ts) h o e = never h
      by_sort (type.parameter n) h o e = never h
      by_sort (type.ref name u) h o e = never h

  -- what is looked through alike has the same values
  pub same_values : (s t : Ty) (l : Literal) → plain_kind facts s ≡ plain_kind facts t → is_constant facts s l ≡ is_constant facts t l
  same_values s t (Number z) e = ap (λ k. is_value k z) e
  same_values s t (Characters bytes) e = ap is_text e
  same_values s t NoObject e = ap kind.is_ref e
  same_values s t (PartsOf all) e = ap (λ k. has_parts k (count_literals all) && are_constants facts k 0 all) e
  same_values s t (ElementsOf all) e = ap (λ k. (is_sequence k && is_int_value (pos (count_literals all))) && are_constants facts k 0 all) e

  alike : (s t : Ty) (l : Literal) → plain_kind facts s ≡ plain_kind facts t → (Sound facts t → Sound facts s) → Kept s l → Kept t l
  alike s t l e sound_by k = (subst (λ k. Lengths k l) e k.0, λ h. sym (same_values s t l e) ∙ k.1 (sound_by h))

  distinct_sound : (s t : Ty) → fact_of facts s ≡ Some (base t) → Sound facts s
  distinct_sound (type.distinct key) t e = of_distinct e
  distinct_sound s t e = never (sound.said s (base t) e)

  -- the values of ordinals are numbers
  no_text : (k : TypeKind) → is_ordinal k ≡ true → ((is_text k || kind.is_ref k) || is_sequence k) ≡ true → ⊥
  no_text kind.int o h = never h
  no_text kind.bool o h = never h
  no_text kind.char o h = never h
  no_text (kind.enum n) o h = never h
  no_text k o h = never o

  no_parts_in : (k : TypeKind) (n : ℕ) → is_ordinal k ≡ true → has_parts k n ≡ true → ⊥
  no_parts_in kind.int n o h = never h
  no_parts_in kind.bool n o h = never h
  no_parts_in kind.char n o h = never h
  no_parts_in (kind.enum m) n o h = never h
  no_parts_in k n o h = never o

  ordinal_plain : (s : Ty) → is_ordinal (kind_of facts s) ≡ true → is_ordinal (plain_kind facts s) ≡ true
  ordinal_plain s h = subst (λ k. is_ordinal k ≡ true) (sym (plain_by facts sound s (apart (kind_of facts s) h))) h
    where
      apart : (k : TypeKind) → is_ordinal k ≡ true → is_wrapped k ≡ false
      apart (kind.distinct t) h = never h
      apart kind.int h = refl
      apart kind.bool h = refl
      apart kind.char h = refl
      apart kind.text h = refl
      apart (kind.enum n) h = refl
      apart (kind.sequence t) h = refl
      apart (kind.array n t) h = refl
      apart (kind.tuple ts) h = refl
      apart (kind.object resource ts) h = refl
      apart (kind.ref t) h = refl
      apart kind.exception h = refl
      apart kind.parameter h = refl
      apart kind.other h = refl

  as_int : (s : Ty) (a : Literal) → is_ordinal (kind_of facts s) ≡ true → Kept s a → Kept type.int a
  as_int s (Number z) h k = int_kept type.int z refl k.0
  as_int s (Characters bytes) h k =
      absurd (no_text (plain_kind facts s) (ordinal_plain s h)
      (or_left _ (is_sequence (plain_kind facts s))
      (or_left (is_text (plain_kind facts s)) (kind.is_ref (plain_kind facts s)) (k.1 (ordinal_sound facts sound s h)))))
  as_int s NoObject h k =
      absurd (no_text (plain_kind facts s) (ordinal_plain s h)
      (or_left _ (is_sequence (plain_kind facts s))
      (or_right (is_text (plain_kind facts s)) (kind.is_ref (plain_kind facts s)) (k.1 (ordinal_sound facts sound s h)))))
  as_int s (PartsOf all) h k =
      absurd (no_parts_in (plain_kind facts s) (count_literals all) (ordinal_plain s h)
      (and_parts (has_parts (plain_kind facts s) (count_literals all)) _ (k.1 (ordinal_sound facts sound s h))).0)
  as_int s (ElementsOf all) h k =
      absurd (no_text (plain_kind facts s) (ordinal_plain s h)
      (or_right (is_text (plain_kind facts s) || kind.is_ref (plain_kind facts s)) (is_sequence (plain_kind facts s))
      (and_parts (is_sequence (plain_kind facts s)) _ (and_parts _ _ (k.1 (ordinal_sound facts sound s h))).0).0))

  among_kept : (n : ℕ) (k : TypeKind) (t : Ty) (s : Ty) (a l : Literal) → kind_of facts t ≡ k → is_wrapped k ≡ false
      → ((z : ℤ) → inside z n ≡ true → is_among k z ≡ true) → Kept s a → among n a ≡ comes_to l → Kept t l
  among_kept n k t s (Number x) l e w f h c =
      let q = fine_is (within n x) l c in
      let r = within_is n x q.0 q.1 in
      subst (Kept t) q.2 (number_of k t q.0 e w (subst (λ z. is_int_value z ≡ true) r.1 h.0) (f q.0 r.0))
  among_kept n k t s (Characters bytes) l e w f h c = cc
  among_kept n k t s NoObject l e w f h c = cc
  among_kept n k t s (PartsOf all) l e w f h c = cc
  among_kept n k t s (ElementsOf all) l e w f h c = cc

  enum_kept : (key : type.Key) (s : Ty) (a l : Literal) → Kept s a → among (length (members_in (fact_of facts (type.enum key)))) a ≡ comes_to l
      → Kept (type.enum key) l
  enum_kept key s a l h c = by_fact (fact_of facts (type.enum key)) refl c
    where
      nothing : (a : Literal) → among 0 a ≡ comes_to l → Kept (type.enum key) l
      nothing (Number x) c = let q = fine_is (within 0 x) l c in none_inside q.0 (within_is 0 x q.0 q.1).0
      nothing (Characters bytes) c = cc
      nothing NoObject c = cc
      nothing (PartsOf all) c = cc
      nothing (ElementsOf all) c = cc

      by_fact : (o : Option Fact) → fact_of facts (type.enum key) ≡ o → among (length (members_in o)) a ≡ comes_to l → Kept (type.enum key) l
      by_fact None e c = nothing a c
      by_fact (Some (fields all resource)) e c = nothing a c
      by_fact (Some (base t)) e c = nothing a c
      by_fact (Some (below parent)) e c = nothing a c
      by_fact (Some (members names)) e c =
          among_kept (length names) (kind.enum (length names)) (type.enum key) s a l (ap declared_kind e) refl (λ z i. i) h c

  pub convert_kept : (t : Ty) (o : Option Ty) (a l : Literal) → fits facts O.Convert (Some t) (o ∷ []) ≡ true → KeptIf o a
      → converted facts (Some t) a ≡ comes_to l → Kept t l
  convert_kept t None a l f k e = never f
  convert_kept t (Some s) a l f k e = by_type t f e
    where
      by_base : (t : Ty) → is_base_of (kind_of facts s) t ≡ true → Kept t a
      by_base t b =
          let e = base_fact s t b in alike s t a (sound.plain s t e) (λ h. distinct_sound s t e) (k s refl)

      -- by no conversion but from a distinct type
      or_base : (t : Ty) → (is_converted (kind_of facts t) s (kind_of facts s) ≡ true → Kept t a)
          → (is_converted (kind_of facts t) s (kind_of facts s) || is_base_of (kind_of facts s) t) ≡ true → comes_to a ≡ comes_to l → Kept t l
      or_base t c f e = subst (Kept t) (come_one e) (by_case (or_cases (is_converted (kind_of facts t) s (kind_of facts s)) (is_base_of (kind_of facts s) t) f))
        where
          by_case : (is_converted (kind_of facts t) s (kind_of facts s) ≡ true) ⊎ (is_base_of (kind_of facts s) t ≡ true) → Kept t a
          by_case (inl h) = c h
          by_case (inr h) = by_base t h

      declared : (t : Ty) → ((names : List (List ℕ)) → is_said t (members names) ≡ false) → (o : Option Fact) → fact_of facts t ≡ o
          → is_converted (declared_kind o) s (kind_of facts s) ≡ true → Kept t a
      declared t n None e h = never h
      declared t n (Some (members names)) e h = never (sym (n names) ∙ sound.said t (members names) e)
      declared t n (Some (fields all resource)) e h = never h
      declared t n (Some (below parent)) e h = never h
      declared t n (Some (base b)) e h =
          let same : b ≡ s = the_same h in
          let is : fact_of facts t ≡ Some (base s) = e ∙ ap (λ b. Some (base b)) same in
          alike s t a (sym (sound.plain t s is)) (λ h. sound.bases t s is) (k s refl)

      by_type : (t : Ty) → (is_converted (kind_of facts t) s (kind_of facts s) || is_base_of (kind_of facts s) t) ≡ true
          → converted facts (Some t) a ≡ comes_to l → Kept t l
      by_type type.char f e = among_kept 256 kind.char type.char s a l refl refl (λ z i. i) (k s refl) e
      by_type (type.enum key) f e = enum_kept key s a l (k s refl) e
      by_type type.int f e = or_base type.int (λ h. as_int s a h (k s refl)) f e
      by_type (type.distinct key) f e =
          or_base (type.distinct key) (declared (type.distinct key) (λ names. refl) (fact_of facts (type.distinct key)) refl) f e
      by_type (type.object key ts) f e =
          or_base (type.object key ts) (declared (type.object key ts) (λ names. refl) (fact_of facts (type.object key ts)) refl) f e
      by_type (type.exception key) f e =
          or_base (type.exception key) (declared (type.exception key) (λ names. refl) (fact_of facts (type.exception key)) refl) f e
      by_type type.bool f e = or_base type.bool (λ h. never h) f e
      by_type type.text f e = or_base type.text (λ h. never h) f e
      by_type (type.sequence u) f e = or_base (type.sequence u) (λ h. never h) f e
      by_type (type.array n u) f e = or_base (type.array n u) (λ h. never h) f e
      by_type (type.tuple names ts) f e = or_base (type.tuple names ts) (λ h. never h) f e
      by_type (type.parameter n) f e = or_base (type.parameter n) (λ h. never h) f e
      by_type (type.ref name u) f e = or_base (type.ref name u) (λ h. never h) f e
