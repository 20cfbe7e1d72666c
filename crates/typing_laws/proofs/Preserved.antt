-- What is computed of a typed expression before any run is a value of its type.
use Rattle.std.proofs.Common.{◌≡◌, ℕ, suc, Bool, true, false, List, [], ◌∷◌, length, Option, Some, None, refl, sym, ap, subst, ◌∙◌}
use Rattle.std.specs.Prelude.{ℤ, pos, ◌&&◌, nat_eq, if◌then◌else◌}
use Rattle.std.proofs.lemmas.Bool.{and_parts, eqb-true, eq-eqb}
use Rattle.nim_types.specs.Types as type
use Rattle.nim_types.specs.Types.{Ty, Tys, no_types, types, Field, Fact, fields, Facts, fact_of, fields_in}
use Rattle.nim_types.specs.Forms.{types_of}
use Rattle.nim_program.specs.declared.operation.Measure.{Measure}
use Rattle.nim_program.specs.declared.operation.Operation.{Operation}
use Rattle.nim_program.specs.declared.operation.Operation.TheVariants as O
use Rattle.nim_program.specs.declared.operation.Short.{Short}
use Rattle.nim_program.specs.declared.operation.Short.TheVariants.{And, Or}
use Rattle.nim_program.specs.Program as P
use Rattle.nim_program.specs.Program.{Literal, Literals, Number, Characters, NoObject, PartsOf, ElementsOf, NoLiteral, ALiteral, Act, Doing, Building, Giving}
use Rattle.nim_program.specs.Program.{Calling}
use Rattle.nim_program.specs.Program.{Expr, Path, Args, NoArg, ByValue, ByPath, type_of, type_at, types_in}
use Rattle.nim_program.specs.Ints.{fits as is_int_value, is_true}
use Rattle.nim_program.specs.Defaults.{default_literal}
use Rattle.nim_program.specs.Kinds as kind
use Rattle.nim_program.specs.Kinds.{TypeKind, declared_kind, kind_of, kind_if, plain_kind, is_int, is_bool, is_text, has_length, is_of, is_there, for_some}
use Rattle.nim_program.specs.Kinds.{is_joined, is_compared}
use Rattle.nim_program.specs.Kinds.{count_literals, count_types, nth_type, is_constant, are_constants, has_parts, part_at, field_at, plain_kind_if, is_shown}
use Rattle.nim_program.specs.Fitting.{fits, built, is_built, are_distinct, are_fields, building_fits, early_fits}
use Rattle.nim_program.specs.Scopes.{Here}
use Rattle.nim_program.specs.Typed.{is_typed, is_typed_path, are_typed, act_fits, is_whole, is_fresh}
use Rattle.expr_rules.specs.Constants as C
use Rattle.expr_rules.specs.Constants.{Evaluated, comes_to, traps, varies, limited, on_one, on_two, alone, in_pair, unary_of, binary_of, compare_of, join_of}
use Rattle.expr_rules.specs.Constants.{measure_of, converted, shown, first_type, of_literal, if_computed, computing, with_values, act_value, short_of}
use Rattle.expr_rules.specs.Constants.{both_of, either_of, unless_varies, value_in, values_in, value_at, field_literals, given_or, fields_of, object_of}
use Rattle.typing_laws.specs.Sound.{Sound, AllSound, AreSound, of_int, of_bool, of_char, of_text, of_sequence, of_array, of_tuple, of_enum, of_object}
use Rattle.typing_laws.specs.Sound.{of_distinct}
use Rattle.typing_laws.specs.Sound.{and_more}
use Rattle.typing_laws.proofs.Tests.{both, never, ever, some_one}
use Rattle.typing_laws.proofs.Positions.{behind, at_position}
use Rattle.typing_laws.proofs.Measures.{come_one, one_comes, two_come, limited_is, is_wrapped, plain_by}
use Rattle.typing_laws.proofs.Constants as K
use Rattle.typing_laws.proofs.Starts as N
use Rattle.typing_laws.proofs.Constants.{Closed, ClosedOne, Kept, KeptIf, AllKept}

module _ (facts : Facts) (sound : AreSound facts) (closed : Closed) (closed_one : ClosedOne) where
  abbrev Fine : Ty → Literal → Type 0
  Fine t l = Kept facts sound closed closed_one t l

  abbrev FineIf : Option Ty → Literal → Type 0
  FineIf o l = KeptIf facts sound closed closed_one o l

  abbrev AllFine : List (Option Ty) → Literals → Type 0
  AllFine os ls = AllKept facts sound closed closed_one os ls

  -- ---- operations

  on_one_value : (o : Operation) (t : Ty) (os : List (Option Ty)) (ls : Literals) (l : Literal) (go : Literal → Evaluated Literal)
      → fits facts o (Some t) os ≡ true → AllFine os ls → alone go ls ≡ comes_to l
      → ((p : Option Ty) (a : Literal) → fits facts o (Some t) (p ∷ []) ≡ true → first_type os ≡ p → FineIf p a → go a ≡ comes_to l → Fine t l) → Fine t l
  on_one_value o t os ls l go f k e done =
      let q = K.alone_is facts sound closed closed_one go ls l e in
      let r = K.single facts sound closed closed_one os q.0 (subst (λ ls. AllFine os ls) q.1 k) in
      done r.0 q.0 (subst (λ os. fits facts o (Some t) os ≡ true) r.1 f) (ap first_type r.1) r.2 q.2

  on_two_values : (o : Operation) (t : Ty) (os : List (Option Ty)) (ls : Literals) (l : Literal) (go : Literal → Literal → Evaluated Literal)
      → fits facts o (Some t) os ≡ true → AllFine os ls → in_pair go ls ≡ comes_to l
      → ((p q : Option Ty) (a b : Literal) → fits facts o (Some t) (p ∷ q ∷ []) ≡ true → FineIf p a → FineIf q b → go a b ≡ comes_to l → Fine t l) → Fine t l
  on_two_values o t os ls l go f k e done =
      let q = K.pair_is facts sound closed closed_one go ls l e in
      let r = K.double facts sound closed closed_one os q.0 q.1 (subst (λ ls. AllFine os ls) q.2 k) in
      done r.0 r.1 q.0 q.1 (subst (λ os. fits facts o (Some t) os ≡ true) r.2 f) r.3 r.4 q.3

  shown_there : (p : Option Ty) → is_shown (plain_kind_if facts p) ≡ true → is_there p ≡ true
  shown_there None h = never h
  shown_there (Some t) h = refl

  measured : (m : Measure) (t : Ty) (p : Option Ty) (a l : Literal) → (is_int (kind_of facts t) && has_length (kind_if facts p)) ≡ true → FineIf p a
      → measure_of m a ≡ comes_to l → Fine t l
  measured m t None a l f k e = never (and_parts (is_int (kind_of facts t)) false f).1
  measured m t (Some s) a l f k e = by_number (is_number a e)
    where
      apart : (k : TypeKind) → has_length k ≡ true → is_wrapped k ≡ false
      apart kind.text h = refl
      apart (kind.sequence t) h = refl
      apart (kind.array n t) h = refl
      apart k h = never h

      p : (is_int (kind_of facts t) ≡ true) × (has_length (kind_of facts s) ≡ true)
      p = and_parts (is_int (kind_of facts t)) (has_length (kind_of facts s)) f

      long : has_length (plain_kind facts s) ≡ true
      long = subst (λ k. has_length k ≡ true) (sym (plain_by facts sound s (apart (kind_of facts s) p.1))) p.1

      -- a length is a number
      is_number : (a : Literal) → measure_of m a ≡ comes_to l → (z : ℤ) × (l ≡ Number z)
      is_number (Characters bytes) e = (C.measured m (length bytes), sym (come_one e))
      is_number (PartsOf all) e = (C.measured m (C.count all), sym (come_one e))
      is_number (ElementsOf all) e = (C.measured m (C.count all), sym (come_one e))
      is_number (Number z) e = cc
      is_number NoObject e = cc

      by_number : (z : ℤ) × (l ≡ Number z) → Fine t l
      by_number (z, is) =
          subst (λ l. Fine t l) (sym is)
          (K.int_kept facts sound closed closed_one t z p.0
          (K.length_kept facts sound closed closed_one m (plain_kind facts s) a z long (k s refl).0 (e ∙ ap comes_to is)))

  doing_kept : (o : Operation) (t : Ty) (os : List (Option Ty)) (ls : Literals) (l : Literal) → fits facts o (Some t) os ≡ true → AllFine os ls
      → if_computed (computing facts (Some t) os o) (comes_to ls) ≡ comes_to l → Fine t l
  doing_kept (O.Unary op) t os ls l f k e =
      on_one_value (O.Unary op) t os ls l (unary_of op) f k e (λ p a f is k e. K.unary_kept facts sound closed closed_one op t p a l f k e)
  doing_kept (O.Binary op) t os ls l f k e =
      on_two_values (O.Binary op) t os ls l (binary_of op) f k e (λ p q a b f j k e. K.binary_kept facts sound closed closed_one op t p q a b l f j k e)
  doing_kept (O.Compare c) t os ls l f k e =
      on_two_values (O.Compare c) t os ls l (compare_of c) f k e
      (λ p q a b f j k e. K.compare_kept facts sound closed closed_one c t a b l (and_parts (is_bool (kind_of facts t)) _ f).0 e)
  doing_kept O.Convert t os ls l f k e =
      on_one_value O.Convert t os ls l (converted facts (Some t)) f k e (λ p a f is k e. K.convert_kept facts sound closed closed_one t p a l f k e)
  doing_kept O.Join t os ls l f k e =
      on_two_values O.Join t os ls l join_of f k e
      (λ p q a b f j k e. K.join_kept facts sound closed closed_one t a b l (and_parts (is_text (kind_of facts t)) _ f).0 e)
  doing_kept O.Show t os ls l f k e =
      on_one_value O.Show t os ls l (shown facts (first_type os)) f k e
      (λ p a f is k e.
      let q = and_parts (is_text (kind_of facts t)) (is_shown (plain_kind_if facts p)) f in
      K.show_kept facts sound closed closed_one t p a l q.0 (shown_there p q.1) k (subst (λ o. shown facts o a ≡ comes_to l) is e))
  doing_kept (O.Measure m) t os ls l f k e =
      on_one_value (O.Measure m) t os ls l (measure_of m) f k e (λ p a f is k e. measured m t p a l f k e)
  doing_kept O.Make t os ls l f k e = N.make_kept facts sound closed closed_one t os ls l f k e
  doing_kept O.Sequence t os ls l f k e = N.sequence_kept facts sound closed closed_one t os ls l f k e
  doing_kept o t os ls l f k e = cc

  -- ---- objects

  -- fields that are given have values of their types
  abbrev Given : Tys → List (ℕ × Literal) → Type 0
  Given all [] = Unit {0}
  Given all (g ∷ rest) = ((s : Ty) → nth_type all g.0 ≡ Some s → Sound facts s → is_constant facts s g.1 ≡ true) × Given all rest

  given_kept : (all : Tys) (i : ℕ) (s : Ty) (given : List (ℕ × Literal)) (other : Literal) → nth_type all i ≡ Some s → Sound facts s → Given all given
      → is_constant facts s other ≡ true → is_constant facts s (given_or i given other) ≡ true
  given_kept all i s [] other n h g o = o
  given_kept all i s (one ∷ rest) other n h g o = by_test (nat_eq i one.0) refl (given_kept all i s rest other n h g.1 o)
    where
      by_test : (b : Bool) → nat_eq i one.0 ≡ b → is_constant facts s (given_or i rest other) ≡ true
          → is_constant facts s (if b then one.1 else given_or i rest other) ≡ true
      by_test true e r = g.0 s (subst (λ j. nth_type all j ≡ Some s) (eqb-true i one.0 e) n) h
      by_test false e r = r

  fields_kept : (k : TypeKind) (all : Tys) → ((j : ℕ) → part_at k j ≡ nth_type all j) → (i : ℕ) (rest : List Field) (given : List (ℕ × Literal))
      → behind i all ≡ types_of rest → AllSound facts (types_of rest) → Given all given → are_constants facts k i (field_literals facts i rest given) ≡ true
  fields_kept k all p i [] given e s g = refl
  fields_kept k all p i (f ∷ rest) given e (and_more s more) g =
      let q = at_position i all f.of (types_of rest) e in
      both
      (subst (λ o. for_some o (λ ty. is_constant facts ty (given_or i given (default_literal facts f.of))) ≡ true) (sym (p i ∙ q.0))
      (given_kept all i f.of given (default_literal facts f.of) q.0 s g (N.default_kept facts sound closed closed_one f.of s)))
      (fields_kept k all p (suc i) rest given q.1 more g)

  count_fields : (i : ℕ) (all : List Field) (given : List (ℕ × Literal)) → count_types (types_of all) ≡ count_literals (field_literals facts i all given)
  count_fields i [] given = refl
  count_fields i (f ∷ rest) given = ap suc (count_fields (suc i) rest given)

  -- by the fields of the construction
  all_given : (k : TypeKind) (all : Tys) → ((j : ℕ) → field_at k j ≡ nth_type all j) → (fs : List ℕ) (os : List (Option Ty)) (ls : Literals)
      → are_fields k fs os ≡ true → AllFine os ls → Given all (with_values fs ls)
  all_given k all p [] [] ls f h = tt
  all_given k all p [] (o ∷ os) ls f h = never f
  all_given k all p (n ∷ fs) [] ls f h = never f
  all_given k all p (n ∷ fs) (o ∷ os) NoLiteral f h = absurd h
  all_given k all p (n ∷ fs) (o ∷ os) (ALiteral l ls) f h =
      let q = and_parts (is_of o (field_at k n)) (are_fields k fs os) f in
      let r = N.is_both facts sound closed closed_one o (field_at k n) q.0 in (
        (λ s e sound. (h.0 s (r.1 ∙ sym r.2 ∙ p n ∙ e)).1 sound),
        all_given k all p fs os ls q.1 h.1,
      )

  lengthless : (k : TypeKind) → is_built (built facts k) ≡ true → (is_wrapped k ≡ false) × (has_length k ≡ false)
  lengthless (kind.object resource all) h = (refl, refl)
  lengthless (kind.ref t) h = (refl, refl)
  lengthless k h = never h

  building_kept : (t : Ty) (fs : List ℕ) (os : List (Option Ty)) (ls : Literals) (l : Literal) → building_fits facts (Some t) fs os ≡ true → AllFine os ls
      → object_of facts (Some t) (with_values fs ls) ≡ comes_to l → Fine t l
  building_kept t fs os ls l f h e =
      let p = and_parts (is_built (built facts (kind_of facts t))) (are_distinct fs && are_fields (built facts (kind_of facts t)) fs os) f in
      let a = (and_parts (are_distinct fs) (are_fields (built facts (kind_of facts t)) fs os) p.1).1 in
      let w = lengthless (kind_of facts t) p.0 in
      let same : plain_kind facts t ≡ kind_of facts t = plain_by facts sound t w.0 in
      subst (λ l. Fine t l) (limited_is (PartsOf (field_literals facts 0 (fields_in (fact_of facts t)) (with_values fs ls))) l e).0
      ((λ long. ever (sym (subst (λ k. has_length k ≡ true) same long) ∙ w.1)), λ s. by_sort t s p.0 a)
    where
      by_sort : (t : Ty) → Sound facts t → is_built (built facts (kind_of facts t)) ≡ true → are_fields (built facts (kind_of facts t)) fs os ≡ true
          → is_constant facts t (PartsOf (field_literals facts 0 (fields_in (fact_of facts t)) (with_values fs ls))) ≡ true
      by_sort type.int of_int b a = never b
      by_sort type.bool of_bool b a = never b
      by_sort type.char of_char b a = never b
      by_sort type.text of_text b a = never b
      by_sort (type.sequence t) (of_sequence s) b a = never b
      by_sort (type.array n t) (of_array x s) b a = never b
      by_sort (type.tuple names ts) (of_tuple s) b a = never b
      by_sort (type.enum key) (of_enum x) b a = never (sym (ap (λ o. is_built (built facts (declared_kind o))) x) ∙ b)
      by_sort (type.distinct key) (of_distinct x) b a = never (sym (ap (λ o. is_built (built facts (declared_kind o))) x) ∙ b)
      by_sort (type.object key ts) (of_object {all = all} {resource = resource} x) b a =
          let k : kind_of facts (type.object key ts) ≡ kind.object resource (types_of all) = ap declared_kind x in
          let g = all_given (kind.object resource (types_of all)) (types_of all) (λ j. refl) fs os ls
          (subst (λ k. are_fields (built facts k) fs os ≡ true) k a) h in
          let given = with_values fs ls in
          let c = both (eq-eqb (count_types (types_of all)) (count_literals (field_literals facts 0 all given)) (count_fields 0 all given))
          (fields_kept (kind.object resource (types_of all)) (types_of all) (λ j. refl) 0 all given refl
          (sound.parts (type.object key ts) all resource x) g) in
          subst (λ all. is_constant facts (type.object key ts) (PartsOf (field_literals facts 0 all given)) ≡ true) (sym (ap fields_in x))
          (subst (λ k. (has_parts k (count_literals (field_literals facts 0 all given)) && are_constants facts k 0 (field_literals facts 0 all given)) ≡ true)
          (sym (plain_by facts sound (type.object key ts) (ap (λ o. is_wrapped (declared_kind o)) x) ∙ k)) c)
      by_sort (type.parameter n) s b a = elim s [ ]
      by_sort (type.ref name u) s b a = elim s [ ]
      by_sort (type.exception key) s b a = elim s [ ]

  -- ---- `and` and `or`

  unless : (b : Evaluated Literal) (z : ℤ) (l : Literal) → unless_varies b z ≡ comes_to l → Number z ≡ l
  unless (comes_to x) z l e = come_one e
  unless traps z l e = come_one e
  unless varies z l e = cc

  short_kept : (s : Short) (t : Ty) (a b : Evaluated Literal) (l : Literal) → is_bool (kind_of facts t) ≡ true
      → ((l : Literal) → a ≡ comes_to l → Fine t l) → ((l : Literal) → b ≡ comes_to l → Fine t l) → short_of s a b ≡ comes_to l → Fine t l
  short_kept And t (comes_to (Number x)) b l h f g e = by_test (is_true x) e
    where
      by_test : (c : Bool) → (if c then b else unless_varies b (pos 0)) ≡ comes_to l → Fine t l
      by_test true e = g l e
      by_test false e = subst (λ l. Fine t l) (unless b (pos 0) l e) (K.bool_kept facts sound closed closed_one t false h)
  short_kept Or t (comes_to (Number x)) b l h f g e = by_test (is_true x) e
    where
      by_test : (c : Bool) → (if c then unless_varies b (pos 1) else b) ≡ comes_to l → Fine t l
      by_test true e = subst (λ l. Fine t l) (unless b (pos 1) l e) (K.bool_kept facts sound closed closed_one t true h)
      by_test false e = g l e
  short_kept And t (comes_to (Characters x)) (comes_to y) l h f g e = f l e
  short_kept And t (comes_to (Characters x)) traps l h f g e = f l e
  short_kept And t (comes_to (Characters x)) varies l h f g e = cc
  short_kept And t (comes_to NoObject) (comes_to y) l h f g e = f l e
  short_kept And t (comes_to NoObject) traps l h f g e = f l e
  short_kept And t (comes_to NoObject) varies l h f g e = cc
  short_kept And t (comes_to (PartsOf x)) (comes_to y) l h f g e = f l e
  short_kept And t (comes_to (PartsOf x)) traps l h f g e = f l e
  short_kept And t (comes_to (PartsOf x)) varies l h f g e = cc
  short_kept And t (comes_to (ElementsOf x)) (comes_to y) l h f g e = f l e
  short_kept And t (comes_to (ElementsOf x)) traps l h f g e = f l e
  short_kept And t (comes_to (ElementsOf x)) varies l h f g e = cc
  short_kept And t traps (comes_to y) l h f g e = cc
  short_kept And t traps traps l h f g e = cc
  short_kept And t traps varies l h f g e = cc
  short_kept And t varies (comes_to y) l h f g e = cc
  short_kept And t varies traps l h f g e = cc
  short_kept And t varies varies l h f g e = cc
  short_kept Or t (comes_to (Characters x)) (comes_to y) l h f g e = f l e
  short_kept Or t (comes_to (Characters x)) traps l h f g e = f l e
  short_kept Or t (comes_to (Characters x)) varies l h f g e = cc
  short_kept Or t (comes_to NoObject) (comes_to y) l h f g e = f l e
  short_kept Or t (comes_to NoObject) traps l h f g e = f l e
  short_kept Or t (comes_to NoObject) varies l h f g e = cc
  short_kept Or t (comes_to (PartsOf x)) (comes_to y) l h f g e = f l e
  short_kept Or t (comes_to (PartsOf x)) traps l h f g e = f l e
  short_kept Or t (comes_to (PartsOf x)) varies l h f g e = cc
  short_kept Or t (comes_to (ElementsOf x)) (comes_to y) l h f g e = f l e
  short_kept Or t (comes_to (ElementsOf x)) traps l h f g e = f l e
  short_kept Or t (comes_to (ElementsOf x)) varies l h f g e = cc
  short_kept Or t traps (comes_to y) l h f g e = cc
  short_kept Or t traps traps l h f g e = cc
  short_kept Or t traps varies l h f g e = cc
  short_kept Or t varies (comes_to y) l h f g e = cc
  short_kept Or t varies traps l h f g e = cc
  short_kept Or t varies varies l h f g e = cc

  -- ---- literals

  literal_kept : (t : Ty) (x l : Literal) → is_constant facts t x ≡ true → of_literal x ≡ comes_to l → Fine t l
  literal_kept t (Characters bytes) l c e =
      let q = limited_is (Characters bytes) l e in subst (λ l. Fine t l) q.0 (q.1, λ s. c)
  literal_kept t (Number z) l c e = subst (λ l. Fine t l) (come_one e) ((and_parts (is_int_value z) _ c).0, λ s. c)
  literal_kept t NoObject l c e = subst (λ l. Fine t l) (come_one e) (tt, λ s. c)
  literal_kept t (PartsOf all) l c e =
      subst (λ l. Fine t l) (come_one e)
      ((λ long. by_kind (plain_kind facts t) (and_parts (has_parts (plain_kind facts t) (count_literals all)) _ c).0 long), λ s. c)
    where
      by_kind : (k : TypeKind) → has_parts k (count_literals all) ≡ true → has_length k ≡ true → is_int_value (pos (count_literals all)) ≡ true
      by_kind (kind.array n u) h l = subst (λ n. is_int_value (pos n) ≡ true) (eqb-true n (count_literals all) h) l
      by_kind kind.text h l = never h
      by_kind (kind.sequence u) h l = never h
      by_kind k h l = never l
  literal_kept t (ElementsOf all) l c e =
      subst (λ l. Fine t l) (come_one e) ((and_parts _ _ (and_parts _ _ c).0).1, λ s. c)
  -- ---- expressions

module _ (here : Here) (sound : AreSound here.facts) (closed : Closed) (closed_one : ClosedOne) where
  abbrev At : Option Ty → Literal → Type 0
  At o l = FineIf here.facts sound closed closed_one o l

  applied_kept : (ty : Option Ty) (t : Ty) → ty ≡ Some t → (act : Act) (operands : Args) (l : Literal) → act_fits here ty act operands ≡ true
      → ((ls : Literals) → values_in here.facts operands ≡ comes_to ls → AllFine here.facts sound closed closed_one (types_in operands) ls)
      → act_value here.facts ty (types_in operands) act (values_in here.facts operands) ≡ comes_to l → Fine here.facts sound closed closed_one t l
  applied_kept ty t is (Doing o) operands l f k e =
      let fit : fits here.facts o (Some t) (types_in operands) ≡ true =
      subst (λ ty. fits here.facts o ty (types_in operands) ≡ true) is (and_parts (fits here.facts o ty (types_in operands)) _ f).0 in
      by_go (values_in here.facts operands) refl
      (subst (λ ty. if_computed (computing here.facts ty (types_in operands) o) (values_in here.facts operands) ≡ comes_to l) is e) fit
    where
      by_go : (all : Evaluated Literals) → values_in here.facts operands ≡ all
          → if_computed (computing here.facts (Some t) (types_in operands) o) all ≡ comes_to l → fits here.facts o (Some t) (types_in operands) ≡ true
          → Fine here.facts sound closed closed_one t l
      by_go (comes_to ls) c e fit = doing_kept here.facts sound closed closed_one o t (types_in operands) ls l fit (k ls c) e
      by_go traps c e fit = no_traps (computing here.facts (Some t) (types_in operands) o) e
        where
          no_traps : (go : Option (Literals → Evaluated Literal)) → if_computed go traps ≡ comes_to l → Fine here.facts sound closed closed_one t l
          no_traps None e = cc
          no_traps (Some go) e = cc
      by_go varies c e fit = no_varies (computing here.facts (Some t) (types_in operands) o) e
        where
          no_varies : (go : Option (Literals → Evaluated Literal)) → if_computed go varies ≡ comes_to l → Fine here.facts sound closed closed_one t l
          no_varies None e = cc
          no_varies (Some go) e = cc
  applied_kept ty t is (Building fs) operands l f k e =
      let p = and_parts (building_fits here.facts ty fs (types_in operands)) _ f in
      let q = one_comes (λ ls. object_of here.facts ty (with_values fs ls)) (values_in here.facts operands) l e in
      building_kept here.facts sound closed closed_one t fs (types_in operands) q.value l
      (subst (λ ty. building_fits here.facts ty fs (types_in operands) ≡ true) is p.0) (k q.value q.comes)
      (subst (λ ty. object_of here.facts ty (with_values fs q.value) ≡ comes_to l) is q.is)
  applied_kept ty t is (Giving x) NoArg l f k e =
      literal_kept here.facts sound closed closed_one t x l (subst (λ ty. for_some ty (λ t. is_constant here.facts t x) ≡ true) is f) e
  applied_kept ty t is (Giving x) (ByValue value rest) l f k e = never f
  applied_kept ty t is (Giving x) (ByPath path rest) l f k e = never f
  applied_kept ty t is (Calling proc arguments) operands l f k e = cc

  mutual
    value_kept : (e : Expr) (l : Literal) → is_typed here e ≡ true → value_in here.facts e ≡ comes_to l → At (type_of e) l
    value_kept (P.Apply node ty act operands) l h c t is =
        let p = and_parts (act_fits here ty act operands) (are_typed here operands) h in
        applied_kept ty t is act operands l p.0 (λ ls v. values_kept operands ls p.1 v) c
    value_kept (P.Read path) l h c t is = cc
    value_kept (P.Early node ty short a b) l h c t is =
        let p = and_parts (early_fits here.facts ty (type_of a) (type_of b)) (is_typed here a && is_typed here b) h in
        let q = and_parts (is_bool (kind_of here.facts ty)) (is_of (type_of a) (Some ty) && is_of (type_of b) (Some ty)) p.0 in
        let r = and_parts (is_of (type_of a) (Some ty)) (is_of (type_of b) (Some ty)) q.1 in
        let u = and_parts (is_typed here a) (is_typed here b) p.1 in
        let k =
        short_kept here.facts sound closed closed_one short ty (value_in here.facts a) (value_in here.facts b) l q.0
        (λ l v. value_kept a l u.0 v ty (K.of_type here.facts sound closed closed_one (type_of a) ty r.0))
        (λ l v. value_kept b l u.1 v ty (K.of_type here.facts sound closed closed_one (type_of b) ty r.1)) c in
        subst (λ t. Fine here.facts sound closed closed_one t l) (some_one is) k
    value_kept (P.Choose node ty chooser parts) l h c t is = cc

    values_kept : (operands : Args) (ls : Literals) → are_typed here operands ≡ true → values_in here.facts operands ≡ comes_to ls
        → AllFine here.facts sound closed closed_one (types_in operands) ls
    values_kept NoArg ls h c = subst (λ ls. AllFine here.facts sound closed closed_one [] ls) (come_one c) tt
    values_kept (ByValue e rest) ls h c =
        let p = and_parts (is_typed here e) (are_typed here rest) h in
        let q = two_come (λ l all. comes_to (ALiteral l all)) (value_in here.facts e) (values_in here.facts rest) ls c in
        subst (λ ls. AllFine here.facts sound closed closed_one (type_of e ∷ types_in rest) ls) (come_one q.is)
        (value_kept e q.left p.0 q.left_comes, values_kept rest q.right p.1 q.right_comes)
    values_kept (ByPath path rest) ls h c =
        let p = and_parts (is_whole here.facts path && is_typed_path here path) (are_typed here rest) h in
        let q = two_come (λ l all. comes_to (ALiteral l all)) (value_at here.facts path) (values_in here.facts rest) ls c in
        subst (λ ls. AllFine here.facts sound closed closed_one (type_at path ∷ types_in rest) ls) (come_one q.is)
        (path_kept path q.left (and_parts (is_whole here.facts path) (is_typed_path here path) p.0).1 q.left_comes, values_kept rest q.right p.1 q.right_comes)

    path_kept : (path : Path) (l : Literal) → is_typed_path here path ≡ true → value_at here.facts path ≡ comes_to l → At (type_at path) l
    path_kept (P.Variable node ty place global) l h c = cc
    path_kept (P.Fresh e) l h c = value_kept e l (and_parts (is_fresh e && is_there (type_of e)) (is_typed here e) h).1 c
    path_kept (P.Field node ty base field) l h c = cc
    path_kept (P.Element node ty base index constant) l h c = cc
    path_kept (P.Deref ty base) l h c = cc

  pub preserved : (e : Expr) (ty : Ty) (l : Literal) → Sound here.facts ty → is_typed here e ≡ true → type_of e ≡ Some ty → value_in here.facts e ≡ comes_to l
      → is_constant here.facts ty l ≡ true
  preserved e ty l s h is c = (value_kept e l h c ty is).1 s
