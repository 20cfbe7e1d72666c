-- How the word code of operations on ordinals runs. Variables from OWN_FROM on are those of places, and the ones below them are for what
-- comes between, and for the count of calls.
use Rattle.std.proofs.Common.{◌≡◌, ◌≢◌, ◌⊎◌, inl, inr, ℕ, ◌-◌, ◌/◌, ◌%◌, ◌^◌, ◌<◌, ◌≤◌, List, ◌∷◌, Some}
use Rattle.std.proofs.Common.{Bool, true, false}
use Rattle.std.proofs.Common.{refl, sym, ap, ap₂, subst, ◌∙◌, arith, w64, pos, negsuc, unsigned_abs}
use Rattle.std.specs.Int.{cast_unsigned}
use Rattle.std.specs.Prelude.{ℤ, ◌+ℤ◌, ◌-ℤ◌, ◌*ℤ◌, ◌==◌, not}
use Rattle.std.proofs.lemmas.Int.{ints}
use Rattle.std.proofs.lemmas.Bool.{ne_eqb, eq-eqb, cond-false, cond-true}
use Rattle.rv32_isa.specs.Machine.{Lives}
use Rattle.rv32_isa.specs.Values.{added, subtracted, one_if, is_less_signed, low_product, high_product_signed, shifted_right_signed}
use Rattle.nim_program.specs.Ints.{fits}
use Rattle.word_code.specs.declared.word.WordOperation.TheVariants.{Add, Subtract, Less, Multiply, MultiplyHigh, ShiftRightSigned}
use Rattle.word_code.specs.declared.word.Test.TheVariants as test
use Rattle.word_code.specs.declared.word.WordInstr.{WordInstr}
use Rattle.word_code.specs.declared.word.WordInstr.TheVariants.{Copy}
use Rattle.word_code.specs.declared.word.WordProc.{WordProc}
use Rattle.word_code.specs.Memory.{Memory}
use Rattle.word_code.specs.Words.{Vars, put, from_label}
use Rattle.word_code.proofs.ForCallers.{Runs, then_runs, Within, at, run_constant, run_copy, run_compute, run_past, run_off, got}
use Rattle.word_lowering.specs.declared.homes.TheConstants.{LEFT, FIRST, SECOND, THIRD, FOURTH, OWN_FROM}
use Rattle.word_lowering.specs.Operations.{word, sum_code, difference_code, product_code, unless_differ}
use Rattle.word_lowering.proofs.Arithmetic.{signed_word, product_within, sign_word, added_is, sum_fits, subtracted_is, difference_fits, product_is}
use Rattle.word_lowering.proofs.Arithmetic.{product_fits}

-- ---- what a variable has behind others

-- a variable that got a word, and another one
pub put_here : (v : Vars) (to n : ℕ) → n < 2 ^ 32 → put v to n to ≡ Some n
put_here v to n small = cond-true (to == to) (Some (n % 2 ^ 32)) (v to) (eq-eqb to to refl) ∙ got n small

pub put_other : (v : Vars) (to n u : ℕ) → u ≢ to → put v to n u ≡ v u
put_other v to n u apart = cond-false (u == to) (Some (n % 2 ^ 32)) (v u) (ne_eqb u to apart)

-- a variable for a place behind one that isn't, and the other way round
pub put_low : (v : Vars) (to n u : ℕ) → to < OWN_FROM → OWN_FROM ≤ u → put v to n u ≡ v u
put_low v to n u low high = put_other v to n u (λ e. absurd (omega arith))

-- operations use three variables for what comes between: all from the fourth on are as they were
pub put_under : (v : Vars) (to n u : ℕ) → to < FOURTH → FOURTH ≤ u → put v to n u ≡ v u
put_under v to n u low high = put_other v to n u (λ e. absurd (omega arith))

pub beyond : (u : ℕ) → OWN_FROM ≤ u → FOURTH ≤ u
beyond u high = omega arith

-- four words for what comes between
pub four_low : (v : Vars) (a b c d x y z w u : ℕ) → a < OWN_FROM → b < OWN_FROM → c < OWN_FROM → d < OWN_FROM → OWN_FROM ≤ u
    → put (put (put (put v a x) b y) c z) d w u ≡ v u
four_low v a b c d x y z w u ha hb hc hd h =
    put_low (put (put (put v a x) b y) c z) d w u hd h ∙ put_low (put (put v a x) b y) c z u hc h ∙ put_low (put v a x) b y u hb h ∙ put_low v a x u ha h

-- a word that is 0 or 1
bit : (p : Bool) → Some (one_if p % 2 ^ 32) ≡ Some (one_if p)
bit true = refl
bit false = refl

-- words that are made of signed numbers
high_small : (x y : ℤ) → fits x ≡ true → fits y ≡ true → high_product_signed (word x) (word y) < 2 ^ 32
high_small x y fx fy =
    subst (λ n. n < 2 ^ 32) (sym (ap₂ (λ a b. cast_unsigned w64 (a *ℤ b) / 2 ^ 32) (signed_word x fx) (signed_word y fy)))
    (by (x *ℤ y) (product_within x y fx fy))
  where
    by : (p : ℤ) → unsigned_abs p ≤ 2 ^ 62 → cast_unsigned w64 p / 2 ^ 32 < 2 ^ 32
    by (pos n) h = omega (arith, ints)
    by (negsuc n) h = omega (arith, ints)

sign_small : (n : ℕ) → n < 2 ^ 32 → shifted_right_signed n 31 < 2 ^ 32
sign_small n h = by (sign_word n h)
  where
    by : ((n < 2 ^ 31) × (shifted_right_signed n 31 ≡ 0)) ⊎ ((2 ^ 31 ≤ n) × (shifted_right_signed n 31 ≡ 2 ^ 32 - 1))
        → shifted_right_signed n 31 < 2 ^ 32
    by (inl s) = omega (arith, s.1)
    by (inr s) = omega (arith, s.1)

-- the variables for places are as before but for one, and so is the one that counts calls
pub record AllBut (v : Vars) (to : ℕ) (w : Vars) : Type 0 where
  pub others : (u : ℕ) → OWN_FROM ≤ u → u ≢ to → w u ≡ v u
  pub left : w LEFT ≡ v LEFT

-- all variables for places are as before
pub record AllSame (v w : Vars) : Type 0 where
  pub others : (u : ℕ) → OWN_FROM ≤ u → w u ≡ v u
  pub left : w LEFT ≡ v LEFT

-- a variable gets a word
pub but_over : (v w : Vars) (to n : ℕ) → FOURTH ≤ to → AllSame v w → AllBut v to (put w to n)
but_over v w to n high same = record {
  others = λ u h apart. put_other w to n u apart ∙ same.others u h;
  left = put_under_left ∙ same.left;
}
  where
    put_under_left : put w to n LEFT ≡ w LEFT
    put_under_left = put_other w to n LEFT (λ e. absurd (omega arith))

-- one for a place
pub but_one : (v w : Vars) (to n : ℕ) → OWN_FROM ≤ to → AllSame v w → AllBut v to (put w to n)
but_one v w to n high same = but_over v w to n (beyond to high) same

module _ (live : Lives) (procs : List WordProc) (c : Within) (m : Memory) (g : Vars) where
  -- lines that give a word to a variable, and pass to what follows
  pub record Gives (lines : List WordInstr) (v : Vars) (to n : ℕ) (k : List WordInstr) (steps : ℕ) : Type 0 where
    pub vars : Vars
    pub given : vars to ≡ Some n
    pub but : AllBut v to vars
    pub runs : Runs live procs steps (at c m lines v g) (at c m k vars g)

  -- lines that go on at a label, and change no variable for a place
  pub record Leads (lines : List WordInstr) (v : Vars) (there : List WordInstr) (steps : ℕ) : Type 0 where
    pub vars : Vars
    pub same : AllSame v vars
    pub runs : Runs live procs steps (at c m lines v g) (at c m there vars g)

  -- ---- sums

  module _ (v : Vars) (to a b : ℕ) (high_to : FOURTH ≤ to) (high_a : FOURTH ≤ a) (high_b : FOURTH ≤ b) (x y : ℤ)
      (fx : fits x ≡ true) (fy : fits y ≡ true) (ea : v a ≡ Some (word x)) (eb : v b ≡ Some (word y)) (k : List WordInstr) where
    -- the variables before the test
    abbrev sum_vars : Vars
    sum_vars = put (put (put (put v FIRST (added (word x) (word y))) SECOND (one_if (is_less_signed (added (word x) (word y)) (word x)))) THIRD 0) THIRD
        (one_if (is_less_signed (word y) 0))

    sum_small : added (word x) (word y) < 2 ^ 32
    sum_small = omega arith

    sum_same : AllSame v sum_vars
    sum_same = record {
      others = λ u h. four_low v FIRST SECOND THIRD THIRD (added (word x) (word y)) (one_if (is_less_signed (added (word x) (word y)) (word x))) 0
          (one_if (is_less_signed (word y) 0)) u
          (omega arith) (omega arith) (omega arith) (omega arith) h;
      left = refl;
    }

    sum_front : Runs live procs 4 (at c m (sum_code to a b k) v g) (at c m (unless_differ to k) sum_vars g)
    sum_front =
        let v1 : Vars = put v FIRST (added (word x) (word y)) in
        let v2 : Vars = put v1 SECOND (one_if (is_less_signed (added (word x) (word y)) (word x))) in
        let v3 : Vars = put v2 THIRD 0 in
        let a1 : v1 a ≡ Some (word x) = put_under v FIRST (added (word x) (word y)) a (omega arith) high_a ∙ ea in
        let b1 : v1 b ≡ Some (word y) = put_under v FIRST (added (word x) (word y)) b (omega arith) high_b ∙ eb in
        let b3 : v3 b ≡ Some (word y) = put_under v2 THIRD 0 b (omega arith) high_b ∙ put_under v1 SECOND
        (one_if (is_less_signed (added (word x) (word y)) (word x))) b (omega arith) high_b ∙ b1 in
        let r1 = run_compute live procs c m _ v g FIRST Add a b ea eb in
        let r2 = run_compute live procs c m _ v1 g SECOND Less FIRST a (got (added (word x) (word y)) sum_small) a1 in
        let r3 = run_constant live procs c m _ v2 g THIRD 0 in
        let r4 = run_compute live procs c m _ v3 g THIRD Less b THIRD b3 refl in
        then_runs live procs (then_runs live procs r1 r2) (then_runs live procs r3 r4)

    pub sum_gives : fits (x +ℤ y) ≡ true → Gives (sum_code to a b k) v to (word (x +ℤ y)) k 6
    sum_gives f =
        let e : added (word x) (word y) ≡ word (x +ℤ y) = added_is x y fx fy f in
        let alike = ap not (sum_fits x y fx fy ∙ f) in
        let r5 = run_past live procs c m _ sum_vars g test.Unequal SECOND THIRD 0 (bit (is_less_signed (added (word x) (word y)) (word x)))
        (bit (is_less_signed (word y) 0)) alike in
        let r6 = run_copy live procs c m k sum_vars g to FIRST (got (added (word x) (word y)) sum_small) in
        record {
          vars = put sum_vars to (added (word x) (word y));
          given = put_here sum_vars to (added (word x) (word y)) sum_small ∙ ap Some e;
          but = but_over v sum_vars to (added (word x) (word y)) high_to sum_same;
          runs = then_runs live procs sum_front (then_runs live procs r5 r6);
        }

    pub sum_traps : (there : List WordInstr) → from_label 0 c.proc.lines ≡ Some there → fits (x +ℤ y) ≡ false
        → Leads (sum_code to a b k) v there 5
    sum_traps there stands f =
        let differ = ap not (sum_fits x y fx fy ∙ f) in
        let r5 = run_off live procs c m (Copy to FIRST ∷ k) sum_vars g test.Unequal SECOND THIRD 0 there
        (bit (is_less_signed (added (word x) (word y)) (word x))) (bit (is_less_signed (word y) 0)) differ stands in
        record { vars = sum_vars; same = sum_same; runs = then_runs live procs sum_front r5 }

  -- ---- differences

  module _ (v : Vars) (to a b : ℕ) (high_to : FOURTH ≤ to) (high_a : FOURTH ≤ a) (high_b : FOURTH ≤ b) (x y : ℤ)
      (fx : fits x ≡ true) (fy : fits y ≡ true) (ea : v a ≡ Some (word x)) (eb : v b ≡ Some (word y)) (k : List WordInstr) where
    -- the variables before the test
    abbrev difference_vars : Vars
    difference_vars = put (put (put (put v FIRST (subtracted (word x) (word y))) SECOND (one_if (is_less_signed (word x) (subtracted (word x) (word y))))) THIRD
        0) THIRD (one_if (is_less_signed (word y) 0))

    difference_small : subtracted (word x) (word y) < 2 ^ 32
    difference_small = omega arith

    difference_same : AllSame v difference_vars
    difference_same = record {
      others = λ u h. four_low v FIRST SECOND THIRD THIRD (subtracted (word x) (word y)) (one_if (is_less_signed (word x) (subtracted (word x) (word y)))) 0
          (one_if (is_less_signed (word y) 0)) u
          (omega arith) (omega arith) (omega arith) (omega arith) h;
      left = refl;
    }

    difference_front : Runs live procs 4 (at c m (difference_code to a b k) v g) (at c m (unless_differ to k) difference_vars g)
    difference_front =
        let v1 : Vars = put v FIRST (subtracted (word x) (word y)) in
        let v2 : Vars = put v1 SECOND (one_if (is_less_signed (word x) (subtracted (word x) (word y)))) in
        let v3 : Vars = put v2 THIRD 0 in
        let a1 : v1 a ≡ Some (word x) = put_under v FIRST (subtracted (word x) (word y)) a (omega arith) high_a ∙ ea in
        let b1 : v1 b ≡ Some (word y) = put_under v FIRST (subtracted (word x) (word y)) b (omega arith) high_b ∙ eb in
        let b3 : v3 b ≡ Some (word y) = put_under v2 THIRD 0 b (omega arith) high_b ∙ put_under v1 SECOND
        (one_if (is_less_signed (word x) (subtracted (word x) (word y)))) b (omega arith) high_b ∙ b1 in
        let r1 = run_compute live procs c m _ v g FIRST Subtract a b ea eb in
        let r2 = run_compute live procs c m _ v1 g SECOND Less a FIRST a1 (got (subtracted (word x) (word y)) difference_small) in
        let r3 = run_constant live procs c m _ v2 g THIRD 0 in
        let r4 = run_compute live procs c m _ v3 g THIRD Less b THIRD b3 refl in
        then_runs live procs (then_runs live procs r1 r2) (then_runs live procs r3 r4)

    pub difference_gives : fits (x -ℤ y) ≡ true → Gives (difference_code to a b k) v to (word (x -ℤ y)) k 6
    difference_gives f =
        let e : subtracted (word x) (word y) ≡ word (x -ℤ y) = subtracted_is x y fx fy f in
        let alike = ap not (difference_fits x y fx fy ∙ f) in
        let r5 = run_past live procs c m _ difference_vars g test.Unequal SECOND THIRD 0 (bit (is_less_signed (word x) (subtracted (word x) (word y))))
        (bit (is_less_signed (word y) 0)) alike in
        let r6 = run_copy live procs c m k difference_vars g to FIRST (got (subtracted (word x) (word y)) difference_small) in
        record {
          vars = put difference_vars to (subtracted (word x) (word y));
          given = put_here difference_vars to (subtracted (word x) (word y)) difference_small ∙ ap Some e;
          but = but_over v difference_vars to (subtracted (word x) (word y)) high_to difference_same;
          runs = then_runs live procs difference_front (then_runs live procs r5 r6);
        }

    pub difference_traps : (there : List WordInstr) → from_label 0 c.proc.lines ≡ Some there → fits (x -ℤ y) ≡ false
        → Leads (difference_code to a b k) v there 5
    difference_traps there stands f =
        let differ = ap not (difference_fits x y fx fy ∙ f) in
        let r5 = run_off live procs c m (Copy to FIRST ∷ k) difference_vars g test.Unequal SECOND THIRD 0 there
        (bit (is_less_signed (word x) (subtracted (word x) (word y)))) (bit (is_less_signed (word y) 0)) differ stands in
        record { vars = difference_vars; same = difference_same; runs = then_runs live procs difference_front r5 }

  -- ---- products

  module _ (v : Vars) (to a b : ℕ) (high_to : FOURTH ≤ to) (high_a : FOURTH ≤ a) (high_b : FOURTH ≤ b) (x y : ℤ)
      (fx : fits x ≡ true) (fy : fits y ≡ true) (ea : v a ≡ Some (word x)) (eb : v b ≡ Some (word y)) (k : List WordInstr) where
    -- the variables before the test
    abbrev product_vars : Vars
    product_vars = put (put (put (put v FIRST (low_product (word x) (word y))) SECOND (high_product_signed (word x) (word y))) THIRD 31) THIRD
        (shifted_right_signed (low_product (word x) (word y)) 31)

    product_small : low_product (word x) (word y) < 2 ^ 32
    product_small = omega arith

    product_same : AllSame v product_vars
    product_same = record {
      others = λ u h. four_low v FIRST SECOND THIRD THIRD (low_product (word x) (word y)) (high_product_signed (word x) (word y)) 31
          (shifted_right_signed (low_product (word x) (word y)) 31) u
          (omega arith) (omega arith) (omega arith) (omega arith) h;
      left = refl;
    }

    product_front : Runs live procs 4 (at c m (product_code to a b k) v g) (at c m (unless_differ to k) product_vars g)
    product_front =
        let v1 : Vars = put v FIRST (low_product (word x) (word y)) in
        let v2 : Vars = put v1 SECOND (high_product_signed (word x) (word y)) in
        let v3 : Vars = put v2 THIRD 31 in
        let a1 : v1 a ≡ Some (word x) = put_under v FIRST (low_product (word x) (word y)) a (omega arith) high_a ∙ ea in
        let b1 : v1 b ≡ Some (word y) = put_under v FIRST (low_product (word x) (word y)) b (omega arith) high_b ∙ eb in
        let b3 : v3 b ≡ Some (word y) = put_under v2 THIRD 31 b (omega arith) high_b ∙ put_under v1 SECOND (high_product_signed (word x) (word y)) b
        (omega arith) high_b ∙ b1 in
        let r1 = run_compute live procs c m _ v g FIRST Multiply a b ea eb in
        let r2 = run_compute live procs c m _ v1 g SECOND MultiplyHigh a b a1 b1 in
        let r3 = run_constant live procs c m _ v2 g THIRD 31 in
        let r4 = run_compute live procs c m _ v3 g THIRD ShiftRightSigned FIRST THIRD (got (low_product (word x) (word y)) product_small) refl in
        then_runs live procs (then_runs live procs r1 r2) (then_runs live procs r3 r4)

    pub product_gives : fits (x *ℤ y) ≡ true → Gives (product_code to a b k) v to (word (x *ℤ y)) k 6
    product_gives f =
        let e : low_product (word x) (word y) ≡ word (x *ℤ y) = product_is x y fx fy f in
        let alike = ap not (product_fits x y fx fy ∙ f) in
        let r5 = run_past live procs c m _ product_vars g test.Unequal SECOND THIRD 0 (got (high_product_signed (word x) (word y)) (high_small x y fx fy))
        (got (shifted_right_signed (low_product (word x) (word y)) 31) (sign_small (low_product (word x) (word y)) product_small)) alike in
        let r6 = run_copy live procs c m k product_vars g to FIRST (got (low_product (word x) (word y)) product_small) in
        record {
          vars = put product_vars to (low_product (word x) (word y));
          given = put_here product_vars to (low_product (word x) (word y)) product_small ∙ ap Some e;
          but = but_over v product_vars to (low_product (word x) (word y)) high_to product_same;
          runs = then_runs live procs product_front (then_runs live procs r5 r6);
        }

    pub product_traps : (there : List WordInstr) → from_label 0 c.proc.lines ≡ Some there → fits (x *ℤ y) ≡ false
        → Leads (product_code to a b k) v there 5
    product_traps there stands f =
        let differ = ap not (product_fits x y fx fy ∙ f) in
        let r5 = run_off live procs c m (Copy to FIRST ∷ k) product_vars g test.Unequal SECOND THIRD 0 there
        (got (high_product_signed (word x) (word y)) (high_small x y fx fy))
        (got (shifted_right_signed (low_product (word x) (word y)) 31) (sign_small (low_product (word x) (word y)) product_small)) differ stands in
        record { vars = product_vars; same = product_same; runs = then_runs live procs product_front r5 }
