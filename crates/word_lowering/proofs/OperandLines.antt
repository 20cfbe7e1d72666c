-- Lines of operations on ordinals are followed.
use Rattle.std.proofs.Common.{map, append-nil, ◌≡◌, ℕ, zero, suc, ◌+◌, ◌≤◌, List, [], ◌∷◌, length, Option, Some, Bool, true, false, ℤ, refl, sym, subst}
use Rattle.std.proofs.Common.{arith, pos, negsuc, None, ap, ◌∙◌, ◌++◌}
use Rattle.std.proofs.lemmas.Int.{ints}
use Rattle.std.proofs.lemmas.Bool.{and_from, true≢false, and_parts}
use Rattle.std.specs.Prelude.{option_map, ◌||◌, ◌+ℤ◌, ◌-ℤ◌, ◌*ℤ◌, neg_ℤ, int_div, int_rem, int_lt, int_le, bit_and, bit_or, bit_xor, ◌&&◌, if◌then◌else◌}
use Rattle.arc_base.specs.Event.{writes}
use Rattle.arc_base.specs.declared.outside.Stream.TheVariants.{Err}
use Rattle.nim_program.specs.declared.operation.UnaryOperator.{UnaryOperator}
use Rattle.nim_program.specs.declared.operation.UnaryOperator.TheVariants as unary
use Rattle.nim_program.specs.declared.operation.Operator.{Operator}
use Rattle.nim_program.specs.declared.operation.Operator.TheVariants as binary
use Rattle.nim_program.specs.Traps.{Overflow, DivisionByZero, trap_text}
use Rattle.nim_program.specs.Ints.{Checked, Fine, Trapped, fits as is_int_number, checked, unless_zero, bits_of, signed as int_of, applied, applied_to}
use Rattle.nim_program.specs.Ints.{truth, inside}
use Rattle.nim_program.specs.declared.operation.Operation.TheVariants as O
use Rattle.nim_meaning.specs.Table.{outcome}
use Rattle.flat_code.specs.declared.line.Line.TheVariants as L
use Rattle.flat_code.specs.declared.line.From.{From}
use Rattle.flat_code.specs.declared.line.From.TheVariants as F
use Rattle.flat_code.specs.Codes.{block_plain}
use Rattle.flat_code.specs.Running.{scene_of}
use Rattle.flat_code.specs.Scene.{Did, Passes, with_value}
use Rattle.flat_code.specs.Shapes.{has_shape, shape_of, number}
use Rattle.flat_code.specs.declared.block.BlockLine.{BlockLine}
use Rattle.nim_meaning.specs.Acts.{line_of}
use Rattle.nim_meaning.specs.Deeds.{Answers, costs, ◌>>=◌, Finishes}
use Rattle.nim_meaning.specs.Here.{gives_hooked}
use Rattle.nim_meaning.specs.Places.{kept_if}
use Rattle.nim_meaning.specs.Values.{Given, value_of, Number, Value, number_of}
use Rattle.nim_program.specs.View.{if_type}
use Rattle.flat_code.specs.declared.line.UseAt.{UseAt}
use Rattle.nim_types.specs.Table.{facts_in}
use Rattle.nim_types.specs.Types.{Ty}
use Rattle.nim_program.specs.Kinds.{TypeKind, is_bool, is_int, is_of, kind_if, same_value}
use Rattle.word_code.specs.declared.word.WordInstr.{WordInstr}
use Rattle.word_lowering.proofs.ControlLines.{number_read, value_type, plain}
use Rattle.word_lowering.proofs.LineFits.{value_type as value_is, number_value, are_of, bool_shape, int_shape, same_type}
use Rattle.word_lowering.proofs.Lines.{Basis, IsGood, Settles, all_procs, known, starts, mapped_settles, bound_for}
use Rattle.word_lowering.proofs.OperationRuns.{Checks}
use Rattle.word_lowering.proofs.Related.{Both, high, within, body_of}
use Rattle.word_lowering.proofs.Settling.{Getting, TrapsStop, code_here, code_next, code_of_line, gives_settles, trap_settles, OwnLabels}
use Rattle.word_lowering.proofs.ShapeFacts.{never}
use Rattle.word_lowering.specs.Lowered.{any_branches}
use Rattle.word_lowering.specs.Operations.{binary_code, trap_label, unary_code}
use Rattle.flat_code.specs.Fits.{operation_fits, is_value}
use Rattle.word_lowering.proofs.OrdinalChecks.{unary_checks, binary_checks}
use Rattle.word_lowering.proofs.Scenes.{of_value}
use Rattle.word_lowering.proofs.Sites.{is_one_word}
use Rattle.word_lowering.proofs.Targets.{Target, target}
use Rattle.word_lowering.proofs.ValueFacts.{Operand, has_type, in_word, look_of, type_in, PlainNames}
use Rattle.word_lowering.specs.declared.homes.TheConstants.{OWN_FROM}
use Rattle.flat_code.specs.Lines.{gives, using}
use Rattle.word_lowering.proofs.NumberLines.{getting, variable}
use Rattle.std.specs.Ordering.{int_eq}
use Rattle.word_lowering.proofs.ApplyFits.{applies, row_does}
use Rattle.word_lowering.specs.LineCode.{label_before}
use Rattle.word_lowering.proofs.NamesIn.{names_from}

-- ---- results of a shape

pub truth_shaped : (b : Bool) → has_shape (Number (truth b)) (number (Some 2)) ≡ true
truth_shaped true = refl
truth_shaped false = refl

-- 0 or 1
data IsBit : ℤ → Type 0 where
  bit_zero : IsBit (pos 0)
  bit_one : IsBit (pos 1)

bit_of : (z : ℤ) → inside z 2 ≡ true → IsBit z
bit_of (pos zero) h = bit_zero
bit_of (pos (suc zero)) h = bit_one
bit_of (pos (suc (suc n))) h =
    let p = and_parts (int_le (pos 0) (pos (suc (suc n)))) (int_lt (pos (suc (suc n))) (pos 2)) h in absurd (omega (arith, ints, p.1))
bit_of (negsuc n) h = never h

truth_bit : (v : Value) → has_shape v (number (Some 2)) ≡ true → IsBit (number_of v)
truth_bit v h =
    let n = number_value v (Some 2) h in
    let p : has_shape (Number n.0) (number (Some 2)) ≡ true = subst (λ u. has_shape u (number (Some 2)) ≡ true) n.1 h in
    subst (λ u. IsBit (number_of u)) (sym n.1) (bit_of n.0 (and_parts (is_int_number n.0) (inside n.0 2) p).1)

-- what an operation on bits gives is a bit
abbrev BitResult : (ℕ → ℕ → ℕ) → ℤ → ℤ → Type 0
BitResult f a b = has_shape (Number (int_of (f (bits_of a) (bits_of b)))) (number (Some 2)) ≡ true

and_bits : (a b : ℤ) → IsBit a → IsBit b → BitResult bit_and a b
and_bits _ _ bit_zero bit_zero = refl
and_bits _ _ bit_zero bit_one = refl
and_bits _ _ bit_one bit_zero = refl
and_bits _ _ bit_one bit_one = refl

or_bits : (a b : ℤ) → IsBit a → IsBit b → BitResult bit_or a b
or_bits _ _ bit_zero bit_zero = refl
or_bits _ _ bit_zero bit_one = refl
or_bits _ _ bit_one bit_zero = refl
or_bits _ _ bit_one bit_one = refl

xor_bits : (a b : ℤ) → IsBit a → IsBit b → BitResult bit_xor a b
xor_bits _ _ bit_zero bit_zero = refl
xor_bits _ _ bit_zero bit_one = refl
xor_bits _ _ bit_one bit_zero = refl
xor_bits _ _ bit_one bit_one = refl

-- ---- which traps code may come to

abbrev pub MayTrap : (leads : ℕ → Type 0) → Checked → Type 0
MayTrap leads (Fine z) = Unit {0}
MayTrap leads (Trapped trap) = leads (trap_label trap)

checked_may : (leads : ℕ → Type 0) (z : ℤ) → leads (trap_label Overflow) → MayTrap leads (checked z)
checked_may leads z h = by (is_int_number z)
  where
    by : (b : Bool) → MayTrap leads (if b then Fine z else Trapped Overflow)
    by true = tt
    by false = h

divided_may : (leads : ℕ → Type 0) (y : ℤ) (r : Checked) → leads (trap_label DivisionByZero) → MayTrap leads r → MayTrap leads (unless_zero y r)
divided_may leads (pos zero) r h f = h
divided_may leads (pos (suc n)) r h f = f
divided_may leads (negsuc n) r h f = f

some_true : (b : Bool) → (b || true) ≡ true
some_true true = refl
some_true false = refl

module _ (label to a b : ℕ) where
  abbrev BinaryLeads : Operator → ℕ → Type 0
  BinaryLeads operator trap = (k : List WordInstr) → any_branches trap (binary_code label operator to a b k) ≡ true

  pub binary_may : (operator : Operator) (u v : ℤ) → MayTrap (BinaryLeads operator) (applied operator u v)
  binary_may binary.Add u v = checked_may (BinaryLeads binary.Add) (u +ℤ v) (λ k. refl)
  binary_may binary.Subtract u v = checked_may (BinaryLeads binary.Subtract) (u -ℤ v) (λ k. refl)
  binary_may binary.Multiply u v = checked_may (BinaryLeads binary.Multiply) (u *ℤ v) (λ k. refl)
  binary_may binary.Divide u v =
      divided_may (BinaryLeads binary.Divide) v (checked (int_div u v)) (λ k. refl) (checked_may (BinaryLeads binary.Divide) (int_div u v) (λ k. some_true _))
  binary_may binary.Modulo u v = divided_may (BinaryLeads binary.Modulo) v (Fine (int_rem u v)) (λ k. refl) tt
  binary_may binary.ShiftLeft u v = tt
  binary_may binary.ShiftRight u v = tt
  binary_may binary.BitAnd u v = tt
  binary_may binary.BitOr u v = tt
  binary_may binary.BitXor u v = tt

module _ (to a : ℕ) where
  abbrev UnaryLeads : UnaryOperator → ℕ → Type 0
  UnaryLeads operator trap = (k : List WordInstr) → any_branches trap (unary_code operator to a k) ≡ true

  pub unary_may : (operator : UnaryOperator) (u : ℤ) → MayTrap (UnaryLeads operator) (applied_to operator u)
  unary_may unary.Plus u = tt
  unary_may unary.Negate u = checked_may (UnaryLeads unary.Negate) (neg_ℤ u) (λ k. refl)
  unary_may unary.Complement u = tt
  unary_may unary.Not u = tt

-- ---- what is given is checked

abbrev pub value_type_in : (x : Basis) → Both → ℕ → Option Ty
value_type_in x g t = type_in x is_value (body_of g) t

pub value_type_by : (o p : Option Ty) (t : Ty) → same_value o p ≡ true → p ≡ Some t → o ≡ Some t
value_type_by o p t h e = value_is o t (subst (λ q. same_value o q ≡ true) e h)

abbrev pub MayBe : (values : Option ℕ) → Checked → Type 0
MayBe values (Fine z) = has_shape (Number z) (number values) ≡ true
MayBe values (Trapped trap) = Unit {0}

module _ (x : Basis) (traps : TrapsStop x) (g : Both) (line : BlockLine) (rest : List BlockLine) (y : IsGood x (starts g line rest)) (to : ℕ) where
  abbrev pub answer : (work : ℕ) → Checked → Did
  answer work (Fine z) = Passes (Answers [] work (with_value to g.call.temps (Number z)) g.world)
  answer work (Trapped trap) = Passes (Finishes (writes Err (line_of (trap_text trap))) (1 + length (line_of (trap_text trap))) 1 g.world)

  abbrev pub MayGive : Checked → Type 0
  MayGive (Fine z) = Getting x g line rest y to z
  MayGive (Trapped trap) = Unit {0}

  abbrev LineLeads : ℕ → Type 0
  LineLeads trap = (k : List WordInstr) → any_branches trap (code_of_line x g line rest k) ≡ true

  pub checked_settles : (r : Checked) (work : ℕ) → 1 ≤ work → MayTrap LineLeads r → MayGive r
      → Checks x.live (all_procs x) (within x.table x.blocks g) g.memory g.words (code_here x g line rest y) g.call.vars
      (variable x g line rest y to) (code_next x g line rest y) r
      → Settles x (starts g line rest) rest (answer work r)
  checked_settles (Fine z) work some may give h = gives_settles x g line rest y to z work some give h.1
  checked_settles (Trapped trap) work some may give h = trap_settles x g line rest y traps trap 1 (omega arith) may h

  pub shaped_as : (from : ℕ) (t : Ty) (values : Option ℕ) (v : Value) → value_type x g line rest y from ≡ Some t
      → shape_of (facts_in x.table) t ≡ number values → Operand x g.call from v → has_shape v (number values) ≡ true
  shaped_as from t values v typed shape o =
      subst (λ s. has_shape v s ≡ true) (look_of x g.call.site (of_value from) t (has_type x g.call.site (of_value from) t y.linked.0 typed) ∙ shape) o.shaped

  -- which number may be given: one that fits, and of a bool a bit
  pub getting_any : (t : Ty) (values : Option ℕ) → Target x g line rest y to t → shape_of (facts_in x.table) t ≡ number values
      → OWN_FROM ≤ variable x g line rest y to
  getting_any t values got shape =
      let w = in_word x g.call.site to y.linked.0 got.there (ap is_one_word (got.look ∙ shape)) in subst (λ u. OWN_FROM ≤ u) (sym w.is) w.high

  pub is_fitting : (r : Checked) → Checks x.live (all_procs x) (within x.table x.blocks g) g.memory g.words (code_here x g line rest y) g.call.vars
      (variable x g line rest y to) (code_next x g line rest y) r → MayBe None r
  is_fitting (Fine z) c = c.0
  is_fitting (Trapped trap) c = tt

  pub may_give : (t : Ty) (values : Option ℕ) → Target x g line rest y to t → shape_of (facts_in x.table) t ≡ number values → (r : Checked)
      → MayBe values r → MayGive r
  may_give t values got shape (Fine z) h = getting x g line rest y to t values z got shape h
  may_give t values got shape (Trapped trap) h = tt

  -- a value without hooks is what it is, however it is used
  pub told : (hooked : Bool) (how : UseAt) → hooked ≡ false → (r : Checked)
      → answer 1 r ≡ gives (scene_of (high x.table x.blocks (starts g line rest))) to (costs 1 (outcome r) >>= kept_if hooked (bound_for g how))
  told true how e r = absurd (true≢false e)
  told false how e (Fine z) = refl
  told false how e (Trapped trap) =
      ap (λ es. Passes (Finishes es (1 + length (line_of (trap_text trap))) 1 g.world)) (sym (append-nil (writes Err (line_of (trap_text trap)))))
      ∙ ap (λ n. Passes (Finishes (writes Err (line_of (trap_text trap)) ++ []) n 1 g.world)) (no_more (length (line_of (trap_text trap))))
    where
      no_more : (n : ℕ) → 1 + n ≡ 1 + (n + 0)
      no_more n = omega arith

-- ---- one operand

module _ (x : Basis) (traps : TrapsStop x) (own : OwnLabels x) (g : Both) (rest : List BlockLine) (to : ℕ) (how : UseAt) (ty : Option ℕ) where
  module _ (operator : UnaryOperator) (a : Option ℕ) (from : ℕ) where
    abbrev one : BlockLine
    one = plain (L.Apply to (O.Unary operator) how ty (a ∷ []) (F.Value from ∷ []))

    one_followed : PlainNames x g.call.site (of_value to ∷ of_value from ∷ []) → (y : IsGood x (starts g one rest)) (values : Option ℕ) (t : Ty) →
        if_type (known x).types ty ≡ Some t
        → value_type x g one rest y to ≡ Some t → value_type x g one rest y from ≡ Some t → shape_of (facts_in x.table) t ≡ number values
        → ((v : Value) → has_shape v (number values) ≡ true → MayBe None (applied_to operator (number_of v)) → MayBe values (applied_to operator (number_of v)))
        → Settles x (starts g one rest) rest (row_does x g rest to (O.Unary operator) how ty (a ∷ []) (F.Value from ∷ []))
    one_followed names y values t types typed from_typed shape may =
        let got = target x g one rest y to t refl refl typed names.0 in
        mapped_settles x (starts g one rest) rest (g.call.temps.values from) Given
        (λ u. gives (scene_of (high x.table x.blocks (starts g one rest))) to
        (costs 1 (outcome (applied_to operator (number_of (value_of u)))) >>= kept_if (gives_hooked (facts_in x.table) (if_type (known x).types ty))
        (bound_for g how)))
        (λ v e. let o = number_read x g one rest y from v t values from_typed shape e in
        let z = getting_any x traps g one rest y to t values got shape in
        let checks = unary_checks x.live (all_procs x) (within x.table x.blocks g) g.memory g.words g.call.vars (variable x g one rest y to)
        (variable x g one rest y from) z o.high (number_of v) o.fits o.word_is (code_next x g one rest y) operator in
        subst (λ d. Settles x (starts g one rest) rest d)
        (told x traps g one rest y to (gives_hooked (facts_in x.table) (if_type (known x).types ty)) how
        (ap (gives_hooked (facts_in x.table)) types ∙ got.unhooked) (applied_to operator (number_of v)))
        (checked_settles x traps g one rest y to (applied_to operator (number_of v)) 1 (omega arith)
        (unary_may (variable x g one rest y to) (variable x g one rest y from) operator (number_of v))
        (may_give x traps g one rest y to t values got shape (applied_to operator (number_of v))
        (may v (shaped_as x traps g one rest y to from t values v from_typed shape o) (is_fitting x traps g one rest y to (applied_to operator (number_of
        v)) checks)))
        checks))

    -- the types of its operand and its value
    record OneTyped (y : IsGood x (starts g one rest)) : Type 0 where
      ty_is : Ty
      types : if_type (known x).types ty ≡ Some ty_is
      typed : value_type x g one rest y to ≡ Some ty_is
      from_typed : value_type x g one rest y from ≡ Some ty_is

    one_typed : PlainNames x g.call.site (of_value to ∷ of_value from ∷ []) → (y : IsGood x (starts g one rest)) →
        is_of (if_type (known x).types a) (if_type (known x).types ty) ≡ true → OneTyped y
    one_typed names y same =
        let p = applies x g rest to (O.Unary operator) how ty (a ∷ []) (F.Value from ∷ []) names y in
        let s = and_parts (same_value (value_type x g one rest y from) (if_type (known x).types a)) true p.typed in
        let v = same_type (value_type x g one rest y from) (if_type (known x).types a) s.0 in
        let w = are_of (if_type (known x).types a) (if_type (known x).types ty) same in
        record {
          ty_is = w.ty;
          types = w.is_other;
          typed = value_type_by (value_type x g one rest y to) (if_type (known x).types ty) w.ty p.given w.is_other;
          from_typed = v ∙ w.is;
        }

    one_int : PlainNames x g.call.site (of_value to ∷ of_value from ∷ []) → (y : IsGood x (starts g one rest)) →
        is_int (kind_if (facts_in x.table) (if_type (known x).types ty)) ≡ true
        → is_of (if_type (known x).types a) (if_type (known x).types ty) ≡ true
        → Settles x (starts g one rest) rest (row_does x g rest to (O.Unary operator) how ty (a ∷ []) (F.Value from ∷ []))
    one_int names y k same =
        let t = one_typed names y same in
        one_followed names y None t.ty_is t.types t.typed t.from_typed
        (int_shape (facts_in x.table) t.ty_is (sym (ap (λ o. is_int (kind_if (facts_in x.table) o)) t.types) ∙ k)) (λ v s h. h)

  abbrev OneDoes : UnaryOperator → List (Option ℕ) → List From → Type 0
  OneDoes operator of from = PlainNames x g.call.site (of_value to ∷ names_from from) →
      (y : IsGood x (starts g (plain (L.Apply to (O.Unary operator) how ty of from)) rest))
      → Settles x (starts g (plain (L.Apply to (O.Unary operator) how ty of from)) rest) rest
      (row_does x g rest to (O.Unary operator) how ty of from)

  one_line : (operator : UnaryOperator) (a : Option ℕ) (from : ℕ) → OneDoes operator (a ∷ []) (F.Value from ∷ [])
  one_line unary.Plus a from names y =
      let f = and_parts (is_int (kind_if (facts_in x.table) (if_type (known x).types ty))) (is_of (if_type (known x).types a) (if_type (known x).types ty))
      (applies x g rest to (O.Unary unary.Plus) how ty (a ∷ []) (F.Value from ∷ []) names y).row in
      one_int unary.Plus a from names y f.0 f.1
  one_line unary.Negate a from names y =
      let f = and_parts (is_int (kind_if (facts_in x.table) (if_type (known x).types ty))) (is_of (if_type (known x).types a) (if_type (known x).types ty))
      (applies x g rest to (O.Unary unary.Negate) how ty (a ∷ []) (F.Value from ∷ []) names y).row in
      one_int unary.Negate a from names y f.0 f.1
  one_line unary.Complement a from names y =
      let f = and_parts (is_int (kind_if (facts_in x.table) (if_type (known x).types ty))) (is_of (if_type (known x).types a) (if_type (known x).types ty))
      (applies x g rest to (O.Unary unary.Complement) how ty (a ∷ []) (F.Value from ∷ []) names y).row in
      one_int unary.Complement a from names y f.0 f.1
  one_line unary.Not a from names y =
      let f = and_parts (is_bool (kind_if (facts_in x.table) (if_type (known x).types ty))) (is_of (if_type (known x).types a) (if_type (known x).types ty))
      (applies x g rest to (O.Unary unary.Not) how ty (a ∷ []) (F.Value from ∷ []) names y).row in
      let t = one_typed unary.Not a from names y f.1 in
      one_followed unary.Not a from names y (Some 2) t.ty_is t.types t.typed t.from_typed
      (bool_shape (facts_in x.table) t.ty_is (sym (ap (λ o. is_bool (kind_if (facts_in x.table) o)) t.types) ∙ f.0))
      (λ v s h. truth_shaped (int_eq (number_of v) (pos 0)))

  pub unary_line : (operator : UnaryOperator) (of : List (Option ℕ)) (from : List From) → OneDoes operator of from
  unary_line operator (a ∷ []) (F.Value from ∷ []) names y = one_line operator a from names y
  unary_line operator [] from names y = never (applies x g rest to (O.Unary operator) how ty [] from names y).row
  unary_line operator (a ∷ b ∷ of) from names y = never (applies x g rest to (O.Unary operator) how ty (a ∷ b ∷ of) from names y).row
  unary_line operator (a ∷ []) [] names y = never (applies x g rest to (O.Unary operator) how ty (a ∷ []) [] names y).typed
  unary_line operator (a ∷ []) (F.Value from ∷ other ∷ others) names y =
      never (and_parts (same_value (value_type_in x g from) (if_type (known x).types a)) false
      (applies x g rest to (O.Unary operator) how ty (a ∷ []) (F.Value from ∷ other ∷ others) names y).typed).1
  unary_line operator (a ∷ []) (F.Place from ∷ others) names y =
      never (applies x g rest to (O.Unary operator) how ty (a ∷ []) (F.Place from ∷ others) names y).placed

-- ---- two operands

module _ (x : Basis) (traps : TrapsStop x) (own : OwnLabels x) (g : Both) (rest : List BlockLine) (to : ℕ) (how : UseAt) (ty : Option ℕ) where
  module _ (operator : Operator) (a b : Option ℕ) (left right : ℕ) where
    abbrev two : BlockLine
    two = plain (L.Apply to (O.Binary operator) how ty (a ∷ b ∷ []) (F.Value left ∷ F.Value right ∷ []))

    two_followed : PlainNames x g.call.site (of_value to ∷ of_value left ∷ of_value right ∷ []) →
        (y : IsGood x (starts g two rest)) (values : Option ℕ) (t : Ty) → if_type (known x).types ty ≡ Some t
        → value_type x g two rest y to ≡ Some t → value_type x g two rest y left ≡ Some t → value_type x g two rest y right ≡ Some t
        → shape_of (facts_in x.table) t ≡ number values
        → ((v w : Value) → has_shape v (number values) ≡ true → has_shape w (number values) ≡ true
        → MayBe None (applied operator (number_of v) (number_of w)) → MayBe values (applied operator (number_of v) (number_of w)))
        → Settles x (starts g two rest) rest (row_does x g rest to (O.Binary operator) how ty (a ∷ b ∷ []) (F.Value left ∷ F.Value right ∷ []))
    two_followed names y values t types typed left_typed right_typed shape may =
        let got = target x g two rest y to t refl refl typed names.0 in
        let gives_it : Value → Value → Did = λ v w. gives (scene_of (high x.table x.blocks (starts g two rest))) to
        (costs 1 (outcome (applied operator (number_of v) (number_of w))) >>= kept_if (gives_hooked (facts_in x.table) (if_type (known x).types ty))
        (bound_for g how)) in
        mapped_settles x (starts g two rest) rest (g.call.temps.values left) Given
        (λ u. using (option_map Given (g.call.temps.values right)) (λ z. gives_it (value_of u) (value_of z)))
        (λ v e. mapped_settles x (starts g two rest) rest (g.call.temps.values right) Given (λ z. gives_it v (value_of z))
        (λ w f.
        let o = number_read x g two rest y left v t values left_typed shape e in
        let p = number_read x g two rest y right w t values right_typed shape f in
        let r : Checked = applied operator (number_of v) (number_of w) in
        let checks = binary_checks x.live (all_procs x) (within x.table x.blocks g) g.memory g.words g.call.vars (variable x g two rest y to)
        (variable x g two rest y left) (getting_any x traps g two rest y to t values got shape) o.high (number_of v) o.fits o.word_is
        (code_next x g two rest y) (variable x g two rest y right) p.high (number_of w) p.fits p.word_is (label_before (map block_plain rest)) operator
        (own g two rest y) in
        subst (λ d. Settles x (starts g two rest) rest d)
        (told x traps g two rest y to (gives_hooked (facts_in x.table) (if_type (known x).types ty)) how
        (ap (gives_hooked (facts_in x.table)) types ∙ got.unhooked) r)
        (checked_settles x traps g two rest y to r 1 (omega arith)
        (binary_may (label_before (map block_plain rest)) (variable x g two rest y to) (variable x g two rest y left) (variable x g two rest y right)
        operator (number_of v) (number_of w))
        (may_give x traps g two rest y to t values got shape r
        (may v w (shaped_as x traps g two rest y to left t values v left_typed shape o)
        (shaped_as x traps g two rest y to right t values w right_typed shape p) (is_fitting x traps g two rest y to r checks))) checks)))

    -- the types of its operands and its value
    record TwoTyped (y : IsGood x (starts g two rest)) : Type 0 where
      ty_is : Ty
      types : if_type (known x).types ty ≡ Some ty_is
      typed : value_type x g two rest y to ≡ Some ty_is
      left_typed : value_type x g two rest y left ≡ Some ty_is
      right_typed : value_type x g two rest y right ≡ Some ty_is

    two_typed : PlainNames x g.call.site (of_value to ∷ of_value left ∷ of_value right ∷ []) → (y : IsGood x (starts g two rest))
        → (is_of (if_type (known x).types a) (if_type (known x).types ty) && is_of (if_type (known x).types b) (if_type (known x).types ty)) ≡ true
        → TwoTyped y
    two_typed names y same =
        let p = applies x g rest to (O.Binary operator) how ty (a ∷ b ∷ []) (F.Value left ∷ F.Value right ∷ []) names y in
        let h = and_parts (is_of (if_type (known x).types a) (if_type (known x).types ty)) (is_of (if_type (known x).types b) (if_type (known x).types ty)) same
        in
        let s = and_parts (same_value (value_type x g two rest y left) (if_type (known x).types a))
        (same_value (value_type x g two rest y right) (if_type (known x).types b) && true) p.typed in
        let q = and_parts (same_value (value_type x g two rest y right) (if_type (known x).types b)) true s.1 in
        let v = same_type (value_type x g two rest y left) (if_type (known x).types a) s.0 in
        let u = same_type (value_type x g two rest y right) (if_type (known x).types b) q.0 in
        let w = are_of (if_type (known x).types a) (if_type (known x).types ty) h.0 in
        let z = are_of (if_type (known x).types b) (if_type (known x).types ty) h.1 in
        record {
          ty_is = w.ty;
          types = w.is_other;
          typed = value_type_by (value_type x g two rest y to) (if_type (known x).types ty) w.ty p.given w.is_other;
          left_typed = v ∙ w.is;
          right_typed = u ∙ (z.is ∙ (sym z.is_other ∙ w.is_other));
        }

    abbrev TwoFollowed : IsGood x (starts g two rest) → Type 0
    TwoFollowed y = Settles x (starts g two rest) rest (row_does x g rest to (O.Binary operator) how ty (a ∷ b ∷ []) (F.Value left ∷ F.Value right ∷ []))

    abbrev TwoKinds : (TypeKind → Bool) → Type 0
    TwoKinds is = (is (kind_if (facts_in x.table) (if_type (known x).types ty))
        && (is_of (if_type (known x).types a) (if_type (known x).types ty) && is_of (if_type (known x).types b) (if_type (known x).types ty))) ≡ true

    two_int : PlainNames x g.call.site (of_value to ∷ of_value left ∷ of_value right ∷ []) → (y : IsGood x (starts g two rest)) → TwoKinds is_int →
        TwoFollowed y
    two_int names y h =
        let k = and_parts (is_int (kind_if (facts_in x.table) (if_type (known x).types ty))) _ h in
        let t = two_typed names y k.1 in
        two_followed names y None t.ty_is t.types t.typed t.left_typed t.right_typed
        (int_shape (facts_in x.table) t.ty_is (sym (ap (λ o. is_int (kind_if (facts_in x.table) o)) t.types) ∙ k.0)) (λ v w s r h. h)

    -- bit by bit, of ints or of bools
    two_bits : (f : ℕ → ℕ → ℕ) → PlainNames x g.call.site (of_value to ∷ of_value left ∷ of_value right ∷ []) → (y : IsGood x (starts g two rest))
        → ((m n : ℤ) → applied operator m n ≡ Fine (int_of (f (bits_of m) (bits_of n))))
        → ((m n : ℤ) → IsBit m → IsBit n → BitResult f m n)
        → TwoKinds (λ k. is_int k || is_bool k) → TwoFollowed y
    two_bits f names y fine each h = by (is_int (kind_if (facts_in x.table) (if_type (known x).types ty))) refl
      where
        by : (b : Bool) → is_int (kind_if (facts_in x.table) (if_type (known x).types ty)) ≡ b → TwoFollowed y
        by true e =
            let k = and_parts (is_int (kind_if (facts_in x.table) (if_type (known x).types ty)) || is_bool
            (kind_if (facts_in x.table) (if_type (known x).types ty))) _ h in
            two_int names y (and_from _ _ e k.1)
        by false e =
            let k = and_parts (is_int (kind_if (facts_in x.table) (if_type (known x).types ty)) || is_bool
            (kind_if (facts_in x.table) (if_type (known x).types ty))) _ h in
            let t = two_typed names y k.1 in
            let k_bool : is_bool (kind_if (facts_in x.table) (if_type (known x).types ty)) ≡ true
            = subst (λ c. (c || is_bool (kind_if (facts_in x.table) (if_type (known x).types ty))) ≡ true) e k.0 in
            two_followed names y (Some 2) t.ty_is t.types t.typed t.left_typed t.right_typed
            (bool_shape (facts_in x.table) t.ty_is (sym (ap (λ o. is_bool (kind_if (facts_in x.table) o)) t.types) ∙ k_bool))
            (λ v w s r q. subst (λ c. MayBe (Some 2) c) (sym (fine (number_of v) (number_of w)))
            (each (number_of v) (number_of w) (truth_bit v s) (truth_bit w r)))

  abbrev TwoDoes : Operator → List (Option ℕ) → List From → Type 0
  TwoDoes operator of from = PlainNames x g.call.site (of_value to ∷ names_from from) →
      (y : IsGood x (starts g (plain (L.Apply to (O.Binary operator) how ty of from)) rest))
      → Settles x (starts g (plain (L.Apply to (O.Binary operator) how ty of from)) rest) rest
      (row_does x g rest to (O.Binary operator) how ty of from)

  module _ (a b : Option ℕ) (left right : ℕ) where
    row_of : (operator : Operator) → PlainNames x g.call.site (of_value to ∷ of_value left ∷ of_value right ∷ []) →
        (y : IsGood x (starts g (two operator a b left right) rest))
        → operation_fits (facts_in x.table) (O.Binary operator) (if_type (known x).types ty) (if_type (known x).types a ∷ if_type (known x).types b ∷ []) ≡ true
    row_of operator names y = (applies x g rest to (O.Binary operator) how ty (a ∷ b ∷ []) (F.Value left ∷ F.Value right ∷ []) names y).row

    -- ints alone
    int_alone : (operator : Operator) → TwoKinds operator a b left right (λ k. is_int k || false) → TwoKinds operator a b left right is_int
    int_alone operator h =
        let k = and_parts (is_int (kind_if (facts_in x.table) (if_type (known x).types ty)) || false) _ h in
        and_from _ _ (sym (no_or (is_int (kind_if (facts_in x.table) (if_type (known x).types ty)))) ∙ k.0) k.1
      where
        no_or : (c : Bool) → (c || false) ≡ c
        no_or true = refl
        no_or false = refl

    two_line : (operator : Operator) → TwoDoes operator (a ∷ b ∷ []) (F.Value left ∷ F.Value right ∷ [])
    two_line binary.Add names y = two_int binary.Add a b left right names y (int_alone binary.Add (row_of binary.Add names y))
    two_line binary.Subtract names y = two_int binary.Subtract a b left right names y (int_alone binary.Subtract (row_of binary.Subtract names y))
    two_line binary.Multiply names y = two_int binary.Multiply a b left right names y (int_alone binary.Multiply (row_of binary.Multiply names y))
    two_line binary.Divide names y = two_int binary.Divide a b left right names y (int_alone binary.Divide (row_of binary.Divide names y))
    two_line binary.Modulo names y = two_int binary.Modulo a b left right names y (int_alone binary.Modulo (row_of binary.Modulo names y))
    two_line binary.ShiftLeft names y = two_int binary.ShiftLeft a b left right names y (int_alone binary.ShiftLeft (row_of binary.ShiftLeft names y))
    two_line binary.ShiftRight names y = two_int binary.ShiftRight a b left right names y (int_alone binary.ShiftRight (row_of binary.ShiftRight names y))
    two_line binary.BitAnd names y = two_bits binary.BitAnd a b left right bit_and names y (λ m n. refl) and_bits (row_of binary.BitAnd names y)
    two_line binary.BitOr names y = two_bits binary.BitOr a b left right bit_or names y (λ m n. refl) or_bits (row_of binary.BitOr names y)
    two_line binary.BitXor names y = two_bits binary.BitXor a b left right bit_xor names y (λ m n. refl) xor_bits (row_of binary.BitXor names y)

  pub binary_line : (operator : Operator) (of : List (Option ℕ)) (from : List From) → TwoDoes operator of from
  binary_line operator (a ∷ b ∷ []) (F.Value left ∷ F.Value right ∷ []) names y = two_line a b left right operator names y
  binary_line operator [] from names y = never (applies x g rest to (O.Binary operator) how ty [] from names y).row
  binary_line operator (a ∷ []) from names y = never (applies x g rest to (O.Binary operator) how ty (a ∷ []) from names y).row
  binary_line operator (a ∷ b ∷ c ∷ of) from names y = never (applies x g rest to (O.Binary operator) how ty (a ∷ b ∷ c ∷ of) from names y).row
  binary_line operator (a ∷ b ∷ []) [] names y = never (applies x g rest to (O.Binary operator) how ty (a ∷ b ∷ []) [] names y).typed
  binary_line operator (a ∷ b ∷ []) (F.Value left ∷ []) names y =
      never (and_parts (same_value (value_type_in x g left) (if_type (known x).types a)) false
      (applies x g rest to (O.Binary operator) how ty (a ∷ b ∷ []) (F.Value left ∷ []) names y).typed).1
  binary_line operator (a ∷ b ∷ []) (F.Value left ∷ F.Value right ∷ other ∷ others) names y =
      never (and_parts (same_value (value_type_in x g right) (if_type (known x).types b)) false
      (and_parts (same_value (value_type_in x g left) (if_type (known x).types a)) (same_value (value_type_in x g right) (if_type (known x).types b) && false)
      (applies x g rest to (O.Binary operator) how ty (a ∷ b ∷ []) (F.Value left ∷ F.Value right ∷ other ∷ others) names y).typed).1).1
  binary_line operator (a ∷ b ∷ []) (F.Value left ∷ F.Place right ∷ others) names y =
      never (applies x g rest to (O.Binary operator) how ty (a ∷ b ∷ []) (F.Value left ∷ F.Place right ∷ others) names y).placed
  binary_line operator (a ∷ b ∷ []) (F.Place from ∷ others) names y =
      never (applies x g rest to (O.Binary operator) how ty (a ∷ b ∷ []) (F.Place from ∷ others) names y).placed
