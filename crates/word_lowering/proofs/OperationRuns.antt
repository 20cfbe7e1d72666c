-- The code of operations on ordinals gives what they give, or leads to the label of their trap.
use Rattle.std.proofs.Common.{◌≡◌, ◌≢◌, inl, inr, ℕ, zero, suc, ◌+◌, ◌<◌, ◌≤◌, List, ◌∷◌, Some, Bool, true, false}
use Rattle.std.proofs.Common.{refl, sym, ap, ap₂, ◌∙◌, arith, pos, negsuc}
use Rattle.std.specs.Prelude.{ℤ, ◌+ℤ◌, ◌-ℤ◌, ◌*ℤ◌, int_div, int_rem, ◌==◌, not, if◌then◌else◌}
use Rattle.std.proofs.lemmas.Int.{ints}
use Rattle.rv32_isa.specs.Machine.{Lives}
use Rattle.nim_program.specs.declared.operation.Operator.TheVariants as binary
use Rattle.nim_program.specs.Traps.{Overflow, DivisionByZero}
use Rattle.nim_program.specs.Ints.{Checked, Fine, Trapped, low, fits, checked, unless_zero, applied}
use Rattle.word_code.specs.declared.word.WordOperation.TheVariants as operation
use Rattle.word_code.specs.declared.word.Test.TheVariants as test
use Rattle.word_code.specs.declared.word.WordInstr.{WordInstr}
use Rattle.word_code.specs.declared.word.WordInstr.TheVariants.{Label, Constant, Compute, Branch}
use Rattle.word_code.specs.declared.word.WordProc.{WordProc}
use Rattle.word_code.specs.Memory.{Memory}
use Rattle.word_code.specs.Words.{Vars, put, from_label}
use Rattle.word_lowering.proofs.ShapeFacts.{never}
use Rattle.word_code.proofs.ForCallers.{Within}
use Rattle.word_lowering.specs.declared.homes.TheConstants.{FIRST, OWN_FROM}
use Rattle.word_lowering.specs.Operations.{word, trap_label, minus_one, least, divided_code, quotient_code, divisor_code, binary_code}
use Rattle.word_lowering.proofs.Arithmetic.{word_small, word_same, word_apart, not_zero, quotient_fits, rem_fits, quotient_is}
use Rattle.word_lowering.proofs.Arithmetic.{remainder_is, is_least}
use Rattle.word_lowering.proofs.OrdinalRuns.{beyond, put_low, Gives, Leads, sum_gives, sum_traps, difference_gives, difference_traps}
use Rattle.word_lowering.proofs.OrdinalRuns.{product_gives, product_traps}
use Rattle.word_lowering.proofs.OpRuns.{gives_computed, behind_constant, behind_branch, behind_label, behind_leap}
use Rattle.word_lowering.proofs.OpRuns.{leads_off, leads_past, leads_constant}

module _ (live : Lives) (procs : List WordProc) (c : Within) (m : Memory) (g : Vars) where
  -- what comes of the code of an operation, as its result says
  pub record Given (lines : List WordInstr) (v : Vars) (to n : ℕ) (k : List WordInstr) : Type 0 where
    pub steps : ℕ
    pub some : 0 < steps
    pub few : steps ≤ 12
    pub gives : Gives live procs c m g lines v to n k steps

  pub record Led (lines : List WordInstr) (v : Vars) (there : List WordInstr) : Type 0 where
    pub steps : ℕ
    pub some : 0 < steps
    pub few : steps ≤ 12
    pub leads : Leads live procs c m g lines v there steps

  abbrev pub Checks : List WordInstr → Vars → ℕ → List WordInstr → Checked → Type 0
  Checks lines v to k (Fine z) = (fits z ≡ true) × Given lines v to (word z) k
  Checks lines v to k (Trapped trap) = (there : List WordInstr) → from_label (trap_label trap) c.proc.lines ≡ Some there → Led lines v there

  -- a number that has to be an int
  if_fits : (lines : List WordInstr) (v : Vars) (to : ℕ) (k : List WordInstr) (z : ℤ) → (fits z ≡ true → Checks lines v to k (Fine z))
      → (fits z ≡ false → Checks lines v to k (Trapped Overflow)) → Checks lines v to k (checked z)
  if_fits lines v to k z h j = by (fits z) refl
    where
      by : (b : Bool) → fits z ≡ b → Checks lines v to k (if b then Fine z else Trapped Overflow)
      by true e = h e
      by false e = j e

  module _ (v : Vars) (to a b : ℕ) (high_to : OWN_FROM ≤ to) (high_a : OWN_FROM ≤ a) (high_b : OWN_FROM ≤ b) (x y : ℤ)
      (fx : fits x ≡ true) (fy : fits y ≡ true) (ea : v a ≡ Some (word x)) (eb : v b ≡ Some (word y)) (k : List WordInstr) where
    -- the right operand, behind a word in FIRST
    b_behind : (n : ℕ) → put v FIRST n b ≡ Some (word y)
    b_behind n = put_low v FIRST n b (omega arith) high_b ∙ eb

    a_behind : (n : ℕ) → put v FIRST n a ≡ Some (word x)
    a_behind n = put_low v FIRST n a (omega arith) high_a ∙ ea

    pub divisor_traps : (lines there : List WordInstr) → y ≡ pos 0 → from_label (trap_label DivisionByZero) c.proc.lines ≡ Some there
        → Led (divisor_code b lines) v there
    divisor_traps lines there e stands =
        let v1 : Vars = put v FIRST 0 in
        let is : v1 b ≡ Some 0 = b_behind 0 ∙ ap (λ z. Some (word z)) e in
        record {
          steps = 2;
          some = omega arith;
          few = omega arith;
          leads = leads_constant live procs c m g (Branch test.Equal b FIRST (trap_label DivisionByZero) ∷ lines) there v 1 FIRST 0 (omega arith)
              (omega arith)
              (leads_off live procs c m g lines there v1 test.Equal b FIRST (trap_label DivisionByZero) 0 0 is refl refl stands);
        }

    pub divisor_past : (lines : List WordInstr) (n steps : ℕ) → y ≢ pos 0 → Gives live procs c m g lines (put v FIRST 0) to n k steps
        → Gives live procs c m g (divisor_code b lines) v to n k (1 + (1 + steps))
    divisor_past lines n steps ne x =
        behind_constant live procs c m g (Branch test.Equal b FIRST (trap_label DivisionByZero) ∷ lines) k v to n (1 + steps) FIRST 0 (omega arith)
        (omega arith)
        (behind_branch live procs c m g lines k (put v FIRST 0) to n steps test.Equal b FIRST (trap_label DivisionByZero) (word y) 0 (b_behind 0) refl
        (not_zero y fy ne) x)

    pub modulo_checks : Checks (binary_code 0 binary.Modulo to a b k) v to k (applied binary.Modulo x y)
    modulo_checks = by y refl
      where
        done : y ≢ pos 0 → Checks (binary_code 0 binary.Modulo to a b k) v to k (Fine (int_rem x y))
        done ne = (
          rem_fits x y fx,
          record {
            steps = 3;
            some = omega arith;
            few = omega arith;
            gives = divisor_past (Compute to operation.Remainder a b ∷ k) (word (int_rem x y)) 1 ne
                (gives_computed live procs c m g k (put v FIRST 0) to (word (int_rem x y)) high_to
                (word_small (int_rem x y) (rem_fits x y fx)) operation.Remainder a b
                (word x) (word y) (a_behind 0) (b_behind 0) (remainder_is x y fx fy ne));
          },
        )

        by : (z : ℤ) → y ≡ z → Checks (binary_code 0 binary.Modulo to a b k) v to k (unless_zero z (Fine (int_rem x y)))
        by (pos zero) e = λ there stands. divisor_traps (Compute to operation.Remainder a b ∷ k) there e stands
        by (pos (suc n)) e = done (λ f. absurd (let q : pos (suc n) ≡ pos 0 = sym e ∙ f in omega (arith, ints, q)))
        by (negsuc n) e = done (λ f. absurd (let q : negsuc n ≡ pos 0 = sym e ∙ f in omega (arith, ints, q)))

    module _ (label : ℕ) (stands : from_label label c.proc.lines ≡ Some (Label label ∷ Compute to operation.Divide a b ∷ k)) where
      -- the quotient itself
      last : (w : Vars) → w a ≡ Some (word x) → w b ≡ Some (word y) → y ≢ pos 0 → fits (int_div x y) ≡ true
          → Gives live procs c m g (Label label ∷ Compute to operation.Divide a b ∷ k) w to (word (int_div x y)) k 2
      last w f h ne fits_it = behind_label live procs c m g (Compute to operation.Divide a b ∷ k) k w to (word (int_div x y)) 1 label
          (gives_computed live procs c m g k w to (word (int_div x y)) high_to (word_small (int_div x y) fits_it) operation.Divide a b (word x) (word y) f h
          (quotient_is x y fx fy ne))

      after_one : List WordInstr
      after_one = Constant FIRST least ∷ Branch test.Equal a FIRST (trap_label Overflow) ∷ Label label ∷ Compute to operation.Divide a b ∷ k

      pub divide_checks : Checks (quotient_code label to a b k) v to k (applied binary.Divide x y)
      unfolding after_one
      divide_checks = by y refl
        where
          v1 : Vars
          v1 = put v FIRST 0

          v2 : Vars
          v2 = put v1 FIRST minus_one

          v3 : Vars
          v3 = put v2 FIRST least

          b1 : v1 b ≡ Some (word y)
          b1 = b_behind 0

          b2 : v2 b ≡ Some (word y)
          b2 = put_low v1 FIRST minus_one b (omega arith) high_b ∙ b1

          b3 : v3 b ≡ Some (word y)
          b3 = put_low v2 FIRST least b (omega arith) high_b ∙ b2

          a2 : v2 a ≡ Some (word x)
          a2 = put_low v1 FIRST minus_one a (omega arith) high_a ∙ a_behind 0

          a3 : v3 a ≡ Some (word x)
          a3 = put_low v2 FIRST least a (omega arith) high_a ∙ a2

          -- the divisor isn't -1
          other : y ≢ pos 0 → (word y == minus_one) ≡ false → fits (int_div x y) ≡ true → Given (quotient_code label to a b k) v to
              (word (int_div x y)) k
          other ne ne_one f = record {
            steps = 1 + (1 + (1 + (1 + 2)));
            some = omega arith;
            few = omega arith;
            gives = divisor_past (divided_code label to a b k) (word (int_div x y)) (1 + (1 + 2)) ne
                (behind_constant live procs c m g (Branch test.Unequal b FIRST label ∷ after_one) k v1 to (word (int_div x y)) (1 + 2) FIRST minus_one
                (omega arith) (omega arith)
                (behind_leap live procs c m g after_one k v2 to (word (int_div x y)) 2 test.Unequal b FIRST label (word y) minus_one
                (Label label ∷ Compute to operation.Divide a b ∷ k) b2 refl (ap not ne_one) stands (last v2 a2 b2 ne f)));
          }

          -- it is, and the dividend isn't the least int
          one : y ≢ pos 0 → (word y == minus_one) ≡ true → (word x == least) ≡ false → fits (int_div x y) ≡ true
              → Given (quotient_code label to a b k) v to (word (int_div x y)) k
          one ne is_one ne_least f = record {
            steps = 1 + (1 + (1 + (1 + (1 + (1 + 2)))));
            some = omega arith;
            few = omega arith;
            gives = divisor_past (divided_code label to a b k) (word (int_div x y)) (1 + (1 + (1 + (1 + 2)))) ne
                (behind_constant live procs c m g (Branch test.Unequal b FIRST label ∷ after_one) k v1 to (word (int_div x y))
                (1 + (1 + (1 + 2))) FIRST minus_one (omega arith) (omega arith)
                (behind_branch live procs c m g after_one k v2 to (word (int_div x y)) (1 + (1 + 2)) test.Unequal b FIRST label (word y) minus_one b2 refl
                (ap not is_one)
                (behind_constant live procs c m g (Branch test.Equal a FIRST (trap_label Overflow) ∷ Label label ∷ Compute to operation.Divide a b ∷ k) k
                v2 to (word (int_div x y)) (1 + 2)
                FIRST least (omega arith) (omega arith)
                (behind_branch live procs c m g (Label label ∷ Compute to operation.Divide a b ∷ k) k v3 to (word (int_div x y)) 2 test.Equal a FIRST
                (trap_label Overflow) (word x) least
                a3 refl ne_least (last v3 a3 b3 ne f)))));
          }

          trapped : y ≢ pos 0 → (word y == minus_one) ≡ true → (word x == least) ≡ true → (there : List WordInstr)
              → from_label (trap_label Overflow) c.proc.lines ≡ Some there → Led (quotient_code label to a b k) v there
          trapped ne is_one is_least there traps = record {
            steps = 1 + (1 + (1 + (1 + (1 + 1))));
            some = omega arith;
            few = omega arith;
            leads = leads_constant live procs c m g (Branch test.Equal b FIRST (trap_label DivisionByZero) ∷ divided_code label to a b k) there v
                (1 + (1 + (1 + (1 + 1)))) FIRST 0 (omega arith) (omega arith)
                (leads_past live procs c m g (divided_code label to a b k) there v1 (1 + (1 + (1 + 1))) test.Equal b FIRST (trap_label DivisionByZero)
                (word y) 0 b1 refl (not_zero y fy ne)
                (leads_constant live procs c m g (Branch test.Unequal b FIRST label ∷ after_one) there v1 (1 + (1 + 1)) FIRST minus_one (omega arith)
                (omega arith)
                (leads_past live procs c m g after_one there v2 (1 + 1) test.Unequal b FIRST label (word y) minus_one b2 refl (ap not is_one)
                (leads_constant live procs c m g (Branch test.Equal a FIRST (trap_label Overflow) ∷ Label label ∷ Compute to operation.Divide a b ∷ k)
                there v2 1 FIRST least (omega arith) (omega arith)
                (leads_off live procs c m g (Label label ∷ Compute to operation.Divide a b ∷ k) there v3 test.Equal a FIRST (trap_label Overflow)
                (word x) least a3 refl is_least traps)))));
          }

          quotient : y ≢ pos 0 → Checks (quotient_code label to a b k) v to k (checked (int_div x y))
          quotient ne = if_fits (quotient_code label to a b k) v to k (int_div x y)
              (λ f. (f, decide f (word y == minus_one) (word x == least) refl refl))
              (λ f there traps. refuse f there traps (word y == minus_one) (word x == least) refl refl)
            where
              decide : fits (int_div x y) ≡ true → (p q : Bool) → (word y == minus_one) ≡ p → (word x == least) ≡ q
                  → Given (quotient_code label to a b k) v to (word (int_div x y)) k
              decide f false q e h = other ne e f
              decide f true false e h = one ne e h f
              decide f true true e h = never (sym (is_none (word_same y (negsuc 0) fy refl e) (word_same x low fx refl h)) ∙ f)
                where
                  is_none : y ≡ negsuc 0 → x ≡ low → fits (int_div x y) ≡ false
                  is_none p q = ap₂ (λ u w. fits (int_div u w)) q p

              refuse : fits (int_div x y) ≡ false → (there : List WordInstr) → from_label (trap_label Overflow) c.proc.lines ≡ Some there
                  → (p q : Bool) → (word y == minus_one) ≡ p → (word x == least) ≡ q → Led (quotient_code label to a b k) v there
              refuse f there traps true true e h = trapped ne e h there traps
              refuse f there traps false q e h = never (sym f ∙ quotient_fits x y fx fy ne (inr (word_apart y (negsuc 0) e)))
              refuse f there traps true false e h = never (sym f ∙ quotient_fits x y fx fy ne (inl (word_apart x low h)))

          by : (z : ℤ) → y ≡ z → Checks (quotient_code label to a b k) v to k (unless_zero z (checked (int_div x y)))
          by (pos zero) e = λ there traps. divisor_traps (divided_code label to a b k) there e traps
          by (pos (suc n)) e = quotient (λ f. absurd (let q : pos (suc n) ≡ pos 0 = sym e ∙ f in omega (arith, ints, q)))
          by (negsuc n) e = quotient (λ f. absurd (let q : negsuc n ≡ pos 0 = sym e ∙ f in omega (arith, ints, q)))

    -- sums, differences, products
    given_six : (lines : List WordInstr) (n : ℕ) → Gives live procs c m g lines v to n k 6 → Given lines v to n k
    given_six lines n x = record { steps = 6; some = omega arith; few = omega arith; gives = x }

    led_five : (lines there : List WordInstr) → Leads live procs c m g lines v there 5 → Led lines v there
    led_five lines there x = record { steps = 5; some = omega arith; few = omega arith; leads = x }

    pub sum_checks : Checks (binary_code 0 binary.Add to a b k) v to k (applied binary.Add x y)
    sum_checks = if_fits (binary_code 0 binary.Add to a b k) v to k (x +ℤ y)
        (λ f. (f, given_six _ _ (sum_gives live procs c m g v to a b (beyond to high_to) (beyond a high_a) (beyond b high_b) x y fx fy ea eb k f)))
        (λ f there stands. led_five _ _ (sum_traps live procs c m g v to a b (beyond to high_to) (beyond a high_a) (beyond b high_b)
        x y fx fy ea eb k there stands f))

    pub difference_checks : Checks (binary_code 0 binary.Subtract to a b k) v to k (applied binary.Subtract x y)
    difference_checks = if_fits (binary_code 0 binary.Subtract to a b k) v to k (x -ℤ y)
        (λ f. (f, given_six _ _ (difference_gives live procs c m g v to a b (beyond to high_to) (beyond a high_a) (beyond b high_b) x y fx fy ea eb k f)))
        (λ f there stands. led_five _ _ (difference_traps live procs c m g v to a b (beyond to high_to) (beyond a high_a) (beyond b high_b)
        x y fx fy ea eb k there stands f))

    pub product_checks : Checks (binary_code 0 binary.Multiply to a b k) v to k (applied binary.Multiply x y)
    product_checks = if_fits (binary_code 0 binary.Multiply to a b k) v to k (x *ℤ y)
        (λ f. (f, given_six _ _ (product_gives live procs c m g v to a b (beyond to high_to) (beyond a high_a) (beyond b high_b) x y fx fy ea eb k f)))
        (λ f there stands. led_five _ _ (product_traps live procs c m g v to a b (beyond to high_to) (beyond a high_a) (beyond b high_b)
        x y fx fy ea eb k there stands f))
