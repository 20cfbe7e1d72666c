-- The code of each operation on ordinals does what the operation says.
use Rattle.std.proofs.Common.{◌≡◌, ◌≢◌, ℕ, ◌+◌, ◌%◌, ◌^◌, ◌<◌, ◌≤◌, List, ◌∷◌, Some, Bool, true, false, min}
use Rattle.std.proofs.Common.{refl, sym, ap, ◌∙◌, arith, pos, negsuc}
use Rattle.std.specs.Prelude.{ℤ, ◌-ℤ◌, neg_ℤ, int_lt, int_le, ◌==◌, ◌&&◌, not, nat_lt, bit_and, bit_or, bit_xor, if◌then◌else◌}
use Rattle.std.specs.Ordering.{int_eq}
use Rattle.std.proofs.lemmas.Int.{ints}
use Rattle.std.proofs.lemmas.Bool.{cond-true, eqb-true, eqb-false, eq-eqb, lt-ltb, le-ltb, le-leb, ltb-true, ltb-false}
use Rattle.rv32_isa.specs.Machine.{Lives}
use Rattle.rv32_isa.specs.Values.{subtracted, one_if, is_less_signed}
use Rattle.nim_program.specs.declared.operation.UnaryOperator.{UnaryOperator}
use Rattle.nim_program.specs.declared.operation.UnaryOperator.TheVariants as unary
use Rattle.nim_program.specs.declared.operation.Operator.{Operator}
use Rattle.nim_program.specs.declared.operation.Operator.TheVariants as binary
use Rattle.nim_program.specs.declared.operation.Comparison.{Comparison}
use Rattle.nim_program.specs.declared.operation.Comparison.TheVariants as comparison
use Rattle.nim_program.specs.Traps.{Overflow, OutOfRange}
use Rattle.nim_program.specs.Ints.{Checked, Fine, Trapped, fits, checked, bits_of, signed as int_of, applied, applied_to, compared, truth, inside, within}
use Rattle.word_code.specs.declared.word.WordOperation.TheVariants as operation
use Rattle.word_code.specs.declared.word.Test.TheVariants as test
use Rattle.word_code.specs.declared.word.WordInstr.{WordInstr}
use Rattle.word_code.specs.declared.word.WordInstr.TheVariants.{Label, Constant, Copy, Compute, Branch}
use Rattle.word_code.specs.declared.word.WordProc.{WordProc}
use Rattle.word_code.specs.Memory.{Memory}
use Rattle.word_code.specs.Words.{Vars, put, from_label}
use Rattle.word_code.proofs.ForCallers.{Within, got}
use Rattle.word_lowering.specs.declared.homes.TheConstants.{FIRST, SECOND, OWN_FROM}
use Rattle.word_lowering.specs.Operations.{word, trap_label, minus_one, least, binary_code, unary_code, compare_code, opposite_code, narrow_code}
use Rattle.word_lowering.proofs.Arithmetic.{fits_signed, signed_fits, word_small, opposite_is, is_least, equal_is, less_is, at_most_is}
use Rattle.word_lowering.proofs.OrdinalRuns.{put_low, Gives}
use Rattle.word_lowering.proofs.OpRuns.{gives_copy, gives_computed, behind_constant, behind_computed, behind_branch, leads_off, leads_constant}
use Rattle.word_lowering.proofs.BitFacts.{left_shifted, left_is, left_fits, right_shifted, right_is, right_fits, and_is, and_fits, or_is, or_fits, xor_is}
use Rattle.word_lowering.proofs.BitFacts.{xor_fits}
use Rattle.word_lowering.proofs.OperationRuns.{Given, Checks, sum_checks, difference_checks, product_checks, divide_checks, modulo_checks}

-- ---- words of tests

pub truth_word : (b : Bool) → word (truth b) ≡ one_if b
truth_word true = refl
truth_word false = refl

pub truth_fits : (b : Bool) → fits (truth b) ≡ true
truth_fits true = refl
truth_fits false = refl

one_less : (b : Bool) → subtracted 1 (one_if b) ≡ one_if (not b)
one_less true = refl
one_less false = refl

bit_got : (b : Bool) → Some (one_if b % 2 ^ 32) ≡ Some (one_if b)
bit_got true = refl
bit_got false = refl

-- a difference says whether words are equal
same_below : (p q : ℕ) → p < 2 ^ 32 → q < 2 ^ 32 → nat_lt (subtracted p q) 1 ≡ (p == q)
same_below p q hp hq = by (p == q) refl
  where
    by : (b : Bool) → (p == q) ≡ b → nat_lt (subtracted p q) 1 ≡ b
    by true e = let is = eqb-true p q e in lt-ltb (subtracted p q) 1 (omega (arith, is, hp, hq))
    by false e = let ne = eqb-false p q e in le-ltb (subtracted p q) 1 (above p q hp hq ne)
      where
        above : (p q : ℕ) → p < 2 ^ 32 → q < 2 ^ 32 → p ≢ q → 1 ≤ subtracted p q
        above p q hp hq ne = omega (arith, ne, hp, hq)

other_below : (p q : ℕ) → p < 2 ^ 32 → q < 2 ^ 32 → nat_lt 0 (subtracted p q) ≡ not (p == q)
other_below p q hp hq = by (p == q) refl
  where
    by : (b : Bool) → (p == q) ≡ b → nat_lt 0 (subtracted p q) ≡ not b
    by true e = let is = eqb-true p q e in le-ltb 0 (subtracted p q) (omega (arith, is, hp, hq))
    by false e = let ne = eqb-false p q e in lt-ltb 0 (subtracted p q) (above p q hp hq ne)
      where
        above : (p q : ℕ) → p < 2 ^ 32 → q < 2 ^ 32 → p ≢ q → 0 < subtracted p q
        above p q hp hq ne = omega (arith, ne, hp, hq)

below_one : (p : ℕ) → nat_lt p 1 ≡ (p == 0)
below_one p = by (p == 0) refl
  where
    by : (b : Bool) → (p == 0) ≡ b → nat_lt p 1 ≡ b
    by true e = let is = eqb-true p 0 e in lt-ltb p 1 (omega (arith, is))
    by false e = let ne = eqb-false p 0 e in le-ltb p 1 (omega (arith, ne))

-- as an unsigned number a negative one is beyond all others
pub inside_is : (z : ℤ) (n : ℕ) → fits z ≡ true → nat_lt (word z) (min n least) ≡ inside z n
inside_is (pos a) n f =
    by (nat_lt (word (pos a)) (min n least)) (int_lt (pos a) (pos n)) refl refl
    ∙ ap (λ b. b && int_lt (pos a) (pos n)) (sym (le-leb 0 a (omega arith)))
  where
    by : (p q : Bool) → nat_lt (word (pos a)) (min n least) ≡ p → int_lt (pos a) (pos n) ≡ q → p ≡ q
    by true true e g = refl
    by true false e g = let h = fits_signed (pos a) f in let l = ltb-true (word (pos a)) (min n least) e in absurd (omega (arith, ints))
    by false true e g = let h = fits_signed (pos a) f in let l = ltb-false (word (pos a)) (min n least) e in absurd (omega (arith, ints))
    by false false e g = refl
inside_is (negsuc a) n f = by (nat_lt (word (negsuc a)) (min n least)) refl
  where
    by : (p : Bool) → nat_lt (word (negsuc a)) (min n least) ≡ p → p ≡ false
    by true e = let h = fits_signed (negsuc a) f in let l = ltb-true (word (negsuc a)) (min n least) e in absurd (omega (arith, ints))
    by false e = refl

complement_is : (x : ℤ) → fits x ≡ true → subtracted minus_one (word x) ≡ word (neg_ℤ x -ℤ pos 1)
complement_is x f = let h = fits_signed x f in omega (arith, ints)

complement_fits : (x : ℤ) → fits x ≡ true → fits (neg_ℤ x -ℤ pos 1) ≡ true
complement_fits x f = let h = fits_signed x f in signed_fits (neg_ℤ x -ℤ pos 1) (omega (arith, ints))

-- ---- comparisons, of any two variables

module _ (live : Lives) (procs : List WordProc) (c : Within) (m : Memory) (g : Vars) (v : Vars) (to a b : ℕ) (high_to : OWN_FROM ≤ to) (x y : ℤ)
    (fx : fits x ≡ true) (fy : fits y ≡ true) (ea : v a ≡ Some (word x)) (eb : v b ≡ Some (word y)) (k : List WordInstr) where
  abbrev Compares : List WordInstr → ℕ → Type 0
  Compares lines n = Given live procs c m g lines v to n k

  abbrev Answer : Comparison → ℕ
  Answer c = word (truth (compared c x y))

  small_truth : (t : Bool) → word (truth t) < 2 ^ 32
  small_truth t = word_small (truth t) (truth_fits t)

  difference_small : subtracted (word x) (word y) < 2 ^ 32
  difference_small = omega arith

  -- a test on the difference and a constant
  by_difference : (n : ℕ) (t : Bool) (lines : List WordInstr) → n < 2 ^ 32
      → Gives live procs c m g lines (put (put v FIRST (subtracted (word x) (word y))) SECOND n) to (word (truth t)) k 1
      → Compares (Compute FIRST operation.Subtract a b ∷ Constant SECOND n ∷ lines) (word (truth t))
  by_difference n t lines small x1 = record {
    steps = 1 + (1 + 1);
    some = omega arith;
    few = omega arith;
    gives = behind_computed live procs c m g (Constant SECOND n ∷ lines) k v to (word (truth t)) (1 + 1) FIRST operation.Subtract a b (word x) (word y)
        (omega arith) (omega arith) ea eb
        (behind_constant live procs c m g lines k (put v FIRST (subtracted (word x) (word y))) to (word (truth t)) 1 SECOND n (omega arith) (omega arith) x1);
  }

  less_given : (left right : ℕ) (u w : ℤ) → fits u ≡ true → fits w ≡ true → v left ≡ Some (word u) → v right ≡ Some (word w)
      → Compares (Compute to operation.Less left right ∷ k) (word (truth (int_lt u w)))
  less_given left right u w fu fw el er = record {
    steps = 1;
    some = omega arith;
    few = omega arith;
    gives = gives_computed live procs c m g k v to (word (truth (int_lt u w))) high_to (small_truth (int_lt u w)) operation.Less left right (word u)
        (word w) el er
        (ap one_if (less_is u w fu fw) ∙ sym (truth_word (int_lt u w)));
  }

  opposite_given : (left right : ℕ) (u w : ℤ) → fits u ≡ true → fits w ≡ true → v left ≡ Some (word u) → v right ≡ Some (word w)
      → Compares (opposite_code to left right k) (word (truth (int_le w u)))
  opposite_given left right u w fu fw el er =
      let bit : ℕ = one_if (is_less_signed (word u) (word w)) in
      record {
        steps = 1 + (1 + 1);
        some = omega arith;
        few = omega arith;
        gives = behind_computed live procs c m g (Constant SECOND 1 ∷ Compute to operation.Subtract SECOND FIRST ∷ k) k v to (word (truth (int_le w u)))
            (1 + 1) FIRST operation.Less left right
            (word u) (word w) (omega arith) (omega arith) el er
            (behind_constant live procs c m g (Compute to operation.Subtract SECOND FIRST ∷ k) k (put v FIRST bit) to (word (truth (int_le w u))) 1 SECOND 1
            (omega arith) (omega arith)
            (gives_computed live procs c m g k (put (put v FIRST bit) SECOND 1) to (word (truth (int_le w u))) high_to
            (small_truth (int_le w u)) operation.Subtract SECOND FIRST 1 bit
            refl (bit_got (is_less_signed (word u) (word w)))
            (one_less (is_less_signed (word u) (word w)) ∙ ap one_if (at_most_is w u fw fu) ∙ sym (truth_word (int_le w u)))));
      }

  pub compare_runs : (operator : Comparison) → Compares (compare_code operator to a b k) (Answer operator)
  compare_runs comparison.Equal = by_difference 1 (int_eq x y) (Compute to operation.Below FIRST SECOND ∷ k) (omega arith)
      (gives_computed live procs c m g k (put (put v FIRST (subtracted (word x) (word y))) SECOND 1) to (word (truth (int_eq x y))) high_to
      (small_truth (int_eq x y)) operation.Below FIRST SECOND
      (subtracted (word x) (word y)) 1 (got (subtracted (word x) (word y)) difference_small) refl
      (ap one_if (same_below (word x) (word y) (word_small x fx) (word_small y fy) ∙ equal_is x y fx fy) ∙ sym (truth_word (int_eq x y))))
  compare_runs comparison.Unequal = by_difference 0 (not (int_eq x y)) (Compute to operation.Below SECOND FIRST ∷ k) (omega arith)
      (gives_computed live procs c m g k (put (put v FIRST (subtracted (word x) (word y))) SECOND 0) to (word (truth (not (int_eq x y)))) high_to
      (small_truth (not (int_eq x y))) operation.Below
      SECOND FIRST 0 (subtracted (word x) (word y)) refl (got (subtracted (word x) (word y)) difference_small)
      (ap one_if (other_below (word x) (word y) (word_small x fx) (word_small y fy) ∙ ap not (equal_is x y fx fy)) ∙ sym (truth_word (not (int_eq x y)))))
  compare_runs comparison.Less = less_given a b x y fx fy ea eb
  compare_runs comparison.AtMost = opposite_given b a y x fy fx eb ea
  compare_runs comparison.Greater = less_given b a y x fy fx eb ea
  compare_runs comparison.AtLeast = opposite_given a b x y fx fy ea eb

module _ (live : Lives) (procs : List WordProc) (c : Within) (m : Memory) (g : Vars) (v : Vars) (to a : ℕ) (high_to : OWN_FROM ≤ to)
    (high_a : OWN_FROM ≤ a)
    (x : ℤ) (fx : fits x ≡ true) (ea : v a ≡ Some (word x)) (k : List WordInstr) where
  abbrev Does_ : List WordInstr → Checked → Type 0
  Does_ lines z = Checks live procs c m g lines v to k z

  abbrev Gets_ : List WordInstr → ℕ → Type 0
  Gets_ lines n = Given live procs c m g lines v to n k

  a_behind : (n : ℕ) → put v FIRST n a ≡ Some (word x)
  a_behind n = put_low v FIRST n a (omega arith) high_a ∙ ea

  -- ---- one operand

  negate_checks : Does_ (unary_code unary.Negate to a k) (checked (neg_ℤ x))
  negate_checks = by (fits (neg_ℤ x)) refl
    where
      v1 : Vars
      v1 = put v FIRST least

      v2 : Vars
      v2 = put v1 FIRST 0

      a2 : v2 a ≡ Some (word x)
      a2 = put_low v1 FIRST 0 a (omega arith) high_a ∙ a_behind least

      by : (b : Bool) → fits (neg_ℤ x) ≡ b → Does_ (unary_code unary.Negate to a k) (if b then Fine (neg_ℤ x) else Trapped Overflow)
      by true f = (
        f,
        record {
          steps = 1 + (1 + (1 + 1));
          some = omega arith;
          few = omega arith;
          gives = behind_constant live procs c m g (Branch test.Equal a FIRST
              (trap_label Overflow) ∷ Constant FIRST 0 ∷ Compute to operation.Subtract FIRST a ∷ k) k v to (word (neg_ℤ x))
              (1 + (1 + 1)) FIRST least (omega arith) (omega arith)
              (behind_branch live procs c m g (Constant FIRST 0 ∷ Compute to operation.Subtract FIRST a ∷ k) k v1 to (word (neg_ℤ x))
              (1 + 1) test.Equal a FIRST (trap_label Overflow)
              (word x) least (a_behind least) refl (is_least x fx ∙ ap not f)
              (behind_constant live procs c m g (Compute to operation.Subtract FIRST a ∷ k) k v1 to (word (neg_ℤ x)) 1 FIRST 0 (omega arith) (omega arith)
              (gives_computed live procs c m g k v2 to (word (neg_ℤ x)) high_to (word_small (neg_ℤ x) f) operation.Subtract FIRST a 0 (word x) refl a2
              (opposite_is x fx f))));
        },
      )
      by false f = λ there stands. record {
        steps = 1 + 1;
        some = omega arith;
        few = omega arith;
        leads = leads_constant live procs c m g (Branch test.Equal a FIRST
            (trap_label Overflow) ∷ Constant FIRST 0 ∷ Compute to operation.Subtract FIRST a ∷ k) there v 1 FIRST least
            (omega arith) (omega arith)
            (leads_off live procs c m g (Constant FIRST 0 ∷ Compute to operation.Subtract FIRST a ∷ k) there v1 test.Equal a FIRST (trap_label Overflow)
            (word x) least (a_behind least)
            refl (is_least x fx ∙ ap not f) stands);
      }

  pub unary_checks : (operator : UnaryOperator) → Does_ (unary_code operator to a k) (applied_to operator x)
  unary_checks unary.Plus = (
    fx,
    record {
      steps = 1;
      some = omega arith;
      few = omega arith;
      gives = gives_copy live procs c m g k v to (word x) high_to
          (word_small x fx) a ea;
    },
  )
  unary_checks unary.Negate = negate_checks
  unary_checks unary.Complement = (
    complement_fits x fx,
    record {
      steps = 1 + 1;
      some = omega arith;
      few = omega arith;
      gives = behind_constant live procs c m g (Compute to operation.Subtract FIRST a ∷ k) k v to
          (word (neg_ℤ x -ℤ pos 1)) 1 FIRST minus_one (omega arith) (omega arith)
          (gives_computed live procs c m g k (put v FIRST minus_one) to (word (neg_ℤ x -ℤ pos 1)) high_to
          (word_small (neg_ℤ x -ℤ pos 1) (complement_fits x fx)) operation.Subtract FIRST a
          minus_one (word x) refl (a_behind minus_one) (complement_is x fx));
    },
  )
  unary_checks unary.Not = (
    truth_fits (int_eq x (pos 0)),
    record {
      steps = 1 + 1;
      some = omega arith;
      few = omega arith;
      gives = behind_constant live procs c m g (Compute to operation.Below a FIRST ∷ k) k v to (word (truth (int_eq x (pos 0)))) 1 FIRST 1 (omega arith)
          (omega arith)
          (gives_computed live procs c m g k (put v FIRST 1) to (word (truth (int_eq x (pos 0)))) high_to
          (word_small (truth (int_eq x (pos 0))) (truth_fits (int_eq x (pos 0)))) operation.Below a FIRST
          (word x) 1 (a_behind 1) refl
          (ap one_if (below_one (word x) ∙ equal_is x (pos 0) fx refl) ∙ sym (truth_word (int_eq x (pos 0)))));
    },
  )

  -- ---- one of so many values

  pub narrow_checks : (values : ℕ) → Does_ (narrow_code to a values k) (within values x)
  narrow_checks values = by (inside x values) refl
    where
      v1 : Vars
      v1 = put v FIRST (min values least)

      limit : v1 FIRST ≡ Some (min values least)
      limit = got (min values least) (omega arith)

      by : (b : Bool) → inside x values ≡ b → Does_ (narrow_code to a values k) (if b then Fine x else Trapped OutOfRange)
      by true f = (
        fx,
        record {
          steps = 1 + (1 + 1);
          some = omega arith;
          few = omega arith;
          gives = behind_constant live procs c m g (Branch test.NotBelow a FIRST (trap_label OutOfRange) ∷ Copy to a ∷ k) k v to (word x) (1 + 1) FIRST
              (min values least)
              (omega arith) (omega arith)
              (behind_branch live procs c m g (Copy to a ∷ k) k v1 to (word x) 1 test.NotBelow a FIRST (trap_label OutOfRange) (word x) (min values least)
              (a_behind (min values least)) limit
              (ap not (inside_is x values fx ∙ f))
              (gives_copy live procs c m g k v1 to (word x) high_to (word_small x fx) a (a_behind (min values least))));
        },
      )
      by false f = λ there stands. record {
        steps = 1 + 1;
        some = omega arith;
        few = omega arith;
        leads = leads_constant live procs c m g (Branch test.NotBelow a FIRST (trap_label OutOfRange) ∷ Copy to a ∷ k) there v 1 FIRST (min values least)
            (omega arith) (omega arith)
            (leads_off live procs c m g (Copy to a ∷ k) there v1 test.NotBelow a FIRST (trap_label OutOfRange) (word x) (min values least)
            (a_behind (min values least)) limit
            (ap not (inside_is x values fx ∙ f)) stands);
      }

  -- ---- two operands

  module _ (b : ℕ) (high_b : OWN_FROM ≤ b) (y : ℤ) (fy : fits y ≡ true) (eb : v b ≡ Some (word y)) where
    -- one line of the machine
    one_line : (lines : List WordInstr) (z : ℤ) → fits z ≡ true → Gives live procs c m g lines v to (word z) k 1 → Does_ lines (Fine z)
    one_line lines z f x = (f, record { steps = 1; some = omega arith; few = omega arith; gives = x })

    pub binary_checks : (label : ℕ) (operator : Operator) → from_label label c.proc.lines ≡ from_label label (binary_code label operator to a b k)
        → Does_ (binary_code label operator to a b k) (applied operator x y)
    binary_checks label binary.Add own = sum_checks live procs c m g v to a b high_to high_a high_b x y fx fy ea eb k
    binary_checks label binary.Subtract own = difference_checks live procs c m g v to a b high_to high_a high_b x y fx fy ea eb k
    binary_checks label binary.Multiply own = product_checks live procs c m g v to a b high_to high_a high_b x y fx fy ea eb k
    binary_checks label binary.Divide own = divide_checks live procs c m g v to a b high_to high_a high_b x y fx fy ea eb k label
        (own ∙ cond-true (label == label) (Some (Label label ∷ Compute to operation.Divide a b ∷ k))
        (from_label label (Compute to operation.Divide a b ∷ k)) (eq-eqb label label refl))
    binary_checks label binary.Modulo own = modulo_checks live procs c m g v to a b high_to high_a high_b x y fx fy ea eb k
    binary_checks label binary.ShiftLeft own = one_line (binary_code label binary.ShiftLeft to a b k) (int_of (left_shifted x y)) (left_fits x y)
        (gives_computed live procs c m g k v to (word (int_of (left_shifted x y))) high_to
        (word_small (int_of (left_shifted x y)) (left_fits x y)) operation.ShiftLeft a b (word x) (word y) ea eb (left_is x y fx fy))
    binary_checks label binary.ShiftRight own = one_line (binary_code label binary.ShiftRight to a b k) (right_shifted x y) (right_fits x y fx)
        (gives_computed live procs c m g k v to (word (right_shifted x y)) high_to
        (word_small (right_shifted x y) (right_fits x y fx)) operation.ShiftRightSigned a b (word x) (word y) ea eb (right_is x y fx fy))
    binary_checks label binary.BitAnd own = one_line (binary_code label binary.BitAnd to a b k) (int_of (bit_and (bits_of x) (bits_of y))) (and_fits x y fx fy)
        (gives_computed live procs c m g k v to (word (int_of (bit_and (bits_of x) (bits_of y)))) high_to
        (word_small (int_of (bit_and (bits_of x) (bits_of y))) (and_fits x y fx fy)) operation.And a b (word x) (word y) ea eb (and_is x y fx fy))
    binary_checks label binary.BitOr own = one_line (binary_code label binary.BitOr to a b k) (int_of (bit_or (bits_of x) (bits_of y))) (or_fits x y fx fy)
        (gives_computed live procs c m g k v to (word (int_of (bit_or (bits_of x) (bits_of y)))) high_to
        (word_small (int_of (bit_or (bits_of x) (bits_of y))) (or_fits x y fx fy)) operation.Or a b (word x) (word y) ea eb (or_is x y fx fy))
    binary_checks label binary.BitXor own = one_line (binary_code label binary.BitXor to a b k) (int_of (bit_xor (bits_of x) (bits_of y))) (xor_fits x y fx fy)
        (gives_computed live procs c m g k v to (word (int_of (bit_xor (bits_of x) (bits_of y)))) high_to
        (word_small (int_of (bit_xor (bits_of x) (bits_of y))) (xor_fits x y fx fy)) operation.Xor a b (word x) (word y) ea eb (xor_is x y fx fy))

    -- ---- comparisons

    pub compare_given : (operator : Comparison) → Gets_ (compare_code operator to a b k) (word (truth (compared operator x y)))
    compare_given operator = compare_runs live procs c m g v to a b high_to x y fx fy ea eb k operator
