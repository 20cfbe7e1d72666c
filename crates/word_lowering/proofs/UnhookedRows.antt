-- Operations on numbers have no hooks, by what fits them.
use Rattle.std.proofs.Common.{◌≡◌, ◌⊎◌, inl, inr, ℕ, List, [], ◌∷◌, Option, Some, None, Bool, true, false, refl, sym, ap, ◌∙◌, map}
use Rattle.std.specs.Prelude.{◌&&◌, ◌||◌}
use Rattle.std.proofs.lemmas.Bool.{and_parts, cases_Bool}
use Rattle.nim_types.specs.Types.{Facts, Ty}
use Rattle.nim_types.specs.Table.{facts_in, type_at}
use Rattle.nim_program.specs.Fitting.{binary_takes, is_bitwise, steps, unary_takes, updates}
use Rattle.nim_program.specs.Kinds.{TypeKind, is_bool, is_int, is_of, kind_if, kind_of}
use Rattle.nim_program.specs.View.{if_type}
use Rattle.nim_program.specs.declared.operation.Operation.{Operation}
use Rattle.nim_program.specs.declared.operation.Operation.TheVariants as O
use Rattle.nim_program.specs.declared.operation.Operator.{Operator}
use Rattle.nim_program.specs.declared.operation.UnaryOperator.{UnaryOperator}
use Rattle.nim_program.specs.declared.operation.UnaryOperator.TheVariants as unary
use Rattle.nim_meaning.specs.Here.{any_hooked, gives_hooked}
use Rattle.flat_code.specs.Fits.{operation_fits}
use Rattle.flat_code.specs.Shapes.{shape_of}
use Rattle.word_lowering.specs.Stored.{is_hooked}
use Rattle.word_lowering.proofs.LineFits.{are_of, bool_shape, int_shape}
use Rattle.word_lowering.proofs.Lines.{Basis, known}
use Rattle.word_lowering.proofs.ShapeFacts.{never, of_numbers}

module _ (x : Basis) where
  abbrev facts : Facts
  facts = facts_in x.table

  abbrev type : Option ℕ → Option Ty
  type n = if_type (known x).types n

  pub kind_none : (n : Option ℕ) (is : TypeKind → Bool) → ((t : Ty) → is (kind_of facts t) ≡ true → of_numbers (shape_of facts t) ≡ true)
      → is (kind_if facts (type n)) ≡ true → gives_hooked facts (type n) ≡ false
  kind_none None is shape h = refl
  kind_none (Some n) is shape h = by (cases_Bool (is_hooked x.table n))
    where
      by : (is_hooked x.table n ≡ true) ⊎ (is_hooked x.table n ≡ false) → gives_hooked facts (type (Some n)) ≡ false
      by (inl hooks) = never (sym (x.shaped n hooks) ∙ shape (type_at (known x).types n) h)
      by (inr none) = sym (x.hooks n) ∙ none

  pub same_none : (a b : Option ℕ) → is_of (type a) (type b) ≡ true → gives_hooked facts (type b) ≡ false → gives_hooked facts (type a) ≡ false
  same_none a b h n =
      let s = are_of (type a) (type b) h in ap (gives_hooked facts) s.is ∙ (sym (ap (gives_hooked facts) s.is_other) ∙ n)

  int_numbers : (t : Ty) → is_int (kind_of facts t) ≡ true → of_numbers (shape_of facts t) ≡ true
  int_numbers t h = ap of_numbers (int_shape facts t h)

  pub bool_numbers : (t : Ty) → is_bool (kind_of facts t) ≡ true → of_numbers (shape_of facts t) ≡ true
  bool_numbers t h = ap of_numbers (bool_shape facts t h)

  unary_numbers : (operator : UnaryOperator) (t : Ty) → unary_takes operator (kind_of facts t) ≡ true → of_numbers (shape_of facts t) ≡ true
  unary_numbers unary.Not t h = bool_numbers t h
  unary_numbers operator t h = int_numbers t h

  binary_numbers : (operator : Operator) (t : Ty) → binary_takes operator (kind_of facts t) ≡ true → of_numbers (shape_of facts t) ≡ true
  binary_numbers operator t h = by (cases_Bool (is_int (kind_of facts t))) h
    where
      by : (is_int (kind_of facts t) ≡ true) ⊎ (is_int (kind_of facts t) ≡ false)
          → (is_int (kind_of facts t) || (is_bitwise operator && is_bool (kind_of facts t))) ≡ true → of_numbers (shape_of facts t) ≡ true
      by (inl e) h = int_numbers t e
      by (inr e) h =
          bool_numbers t (and_parts (is_bitwise operator) (is_bool (kind_of facts t))
          (sym (ap (λ b. b || (is_bitwise operator && is_bool (kind_of facts t))) e) ∙ h)).1

  none_of : (p q : Bool) → p ≡ false → q ≡ false → (p || q) ≡ false
  none_of p q a b = ap (λ c. c || q) a ∙ b

  abbrev pub on_numbers : Operation → Bool
  on_numbers (O.Unary operator) = true
  on_numbers (O.Binary operator) = true
  on_numbers O.Quit = true
  on_numbers (O.Update operator) = true
  on_numbers operation = false

  pub numbers_none : (operation : Operation) (ty : Option ℕ) (of : List (Option ℕ)) → on_numbers operation ≡ true
      → operation_fits facts operation (type ty) (map type of) ≡ true → (any_hooked facts (map type of) || gives_hooked facts (type ty)) ≡ false
  numbers_none (O.Unary operator) ty (a ∷ []) is fits =
      let p = and_parts (unary_takes operator (kind_if facts (type ty))) (is_of (type a) (type ty)) fits in
      let given = kind_none ty (unary_takes operator) (unary_numbers operator) p.0 in
      none_of (gives_hooked facts (type a) || false) (gives_hooked facts (type ty))
      (none_of (gives_hooked facts (type a)) false (same_none a ty p.1 given) refl)
      given
  numbers_none (O.Unary operator) ty [] is fits = never fits
  numbers_none (O.Unary operator) ty (a ∷ b ∷ of) is fits = never fits
  numbers_none (O.Binary operator) ty (a ∷ b ∷ []) is fits =
      let p = and_parts (binary_takes operator (kind_if facts (type ty))) (is_of (type a) (type ty) && is_of (type b) (type ty)) fits in
      let q = and_parts (is_of (type a) (type ty)) (is_of (type b) (type ty)) p.1 in
      let given = kind_none ty (binary_takes operator) (binary_numbers operator) p.0 in
      none_of (gives_hooked facts (type a) || (gives_hooked facts (type b) || false)) (gives_hooked facts (type ty))
      (none_of (gives_hooked facts (type a)) (gives_hooked facts (type b) || false) (same_none a ty q.0 given)
      (none_of (gives_hooked facts (type b)) false (same_none b ty q.1 given) refl)) given
  numbers_none (O.Binary operator) ty [] is fits = never fits
  numbers_none (O.Binary operator) ty (a ∷ []) is fits = never fits
  numbers_none (O.Binary operator) ty (a ∷ b ∷ c ∷ of) is fits = never fits
  numbers_none O.Quit None [] is fits = refl
  numbers_none O.Quit None (a ∷ []) is fits =
      none_of (gives_hooked facts (type a) || false) false (none_of (gives_hooked facts (type a)) false (kind_none a is_int int_numbers fits) refl) refl
  numbers_none O.Quit None (a ∷ b ∷ of) is fits = never fits
  numbers_none O.Quit (Some ty) of is fits = never fits
  numbers_none (O.Update operator) None [] is fits = never fits
  numbers_none (O.Update operator) None (a ∷ []) is fits =
      let p = and_parts (steps operator) (is_int (kind_if facts (type a))) fits in
      none_of (gives_hooked facts (type a) || false) false (none_of (gives_hooked facts (type a)) false (kind_none a is_int int_numbers p.1) refl) refl
  numbers_none (O.Update operator) None (a ∷ b ∷ []) is fits =
      let p = and_parts (updates operator) (is_int (kind_if facts (type a)) && is_int (kind_if facts (type b))) fits in
      let q = and_parts (is_int (kind_if facts (type a))) (is_int (kind_if facts (type b))) p.1 in
      none_of (gives_hooked facts (type a) || (gives_hooked facts (type b) || false)) false
      (none_of (gives_hooked facts (type a)) (gives_hooked facts (type b) || false) (kind_none a is_int int_numbers q.0)
      (none_of (gives_hooked facts (type b)) false (kind_none b is_int int_numbers q.1) refl)) refl
  numbers_none (O.Update operator) None (a ∷ b ∷ c ∷ of) is fits = never fits
  numbers_none (O.Update operator) (Some ty) of is fits = never fits
  numbers_none operation ty of is fits = never is
