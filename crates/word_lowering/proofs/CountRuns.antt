-- The numbers of loops: a loop goes on while its number is one of its own, and the next one is an int.
use Rattle.std.specs.Prelude.{if◌then◌else◌, not, ◌+ℤ◌, ◌-ℤ◌, int_lt, ◌==◌}
use Rattle.std.proofs.Common.{◌≡◌, ℕ, ◌+◌, ◌%◌, ◌^◌, ◌<◌, ◌≤◌, List, ◌∷◌, Some, Bool, true, false, ℤ, refl, sym, ap, ◌∙◌, arith, pos}
use Rattle.std.proofs.lemmas.Int.{ints}
use Rattle.std.proofs.lemmas.Bool.{cond-true, eq-eqb}
use Rattle.rv32_isa.specs.Values.{subtracted, one_if, is_less_signed}
use Rattle.rv32_isa.specs.Machine.{Lives}
use Rattle.nim_program.specs.Ints.{fits}
use Rattle.nim_meaning.specs.Meaning.{limit}
use Rattle.word_code.specs.declared.word.WordOperation.TheVariants as operation
use Rattle.word_code.specs.declared.word.Test.TheVariants as test
use Rattle.word_code.specs.declared.word.WordInstr.{WordInstr}
use Rattle.word_code.specs.declared.word.WordInstr.TheVariants.{Compute, Branch, Sum}
use Rattle.word_code.specs.declared.word.WordProc.{WordProc}
use Rattle.word_code.specs.Memory.{Memory}
use Rattle.word_code.specs.Words.{Vars, put, from_label}
use Rattle.word_code.proofs.ForCallers.{Runs, then_runs, Within, at, run_compute, run_past, run_off, run_sum}
use Rattle.word_lowering.specs.declared.homes.TheConstants.{FIRST, SECOND, OWN_FROM}
use Rattle.word_lowering.specs.Operations.{word, beyond_code, unless_less}
use Rattle.word_lowering.proofs.Arithmetic.{fits_signed, signed_fits, word_small, less_is, added_is, subtracted_is}
use Rattle.word_lowering.proofs.OrdinalRuns.{put_low, AllSame, Gives, but_one}
use Rattle.word_lowering.proofs.OpRuns.{same_put, leads_off}
use Rattle.word_lowering.proofs.Moves.{same_more, all_same}
use Rattle.word_lowering.proofs.OperationRuns.{Led}

-- whether there is a turn more
abbrev pub more_turns : Bool → ℤ → ℤ → Bool
more_turns inclusive i n = int_lt (i +ℤ pos 1) (limit inclusive n)

-- ---- tests

inclusive_is : (i n : ℤ) → int_lt i n ≡ more_turns true i n
inclusive_is i n = by (int_lt i n) (int_lt (i +ℤ pos 1) (n +ℤ pos 1)) refl refl
  where
    by : (p q : Bool) → int_lt i n ≡ p → int_lt (i +ℤ pos 1) (n +ℤ pos 1) ≡ q → p ≡ q
    by true true e f = refl
    by false false e f = refl
    by true false e f = absurd (omega (arith, ints))
    by false true e f = absurd (omega (arith, ints))

before_last_is : (i n : ℤ) → int_lt i (n -ℤ pos 1) ≡ more_turns false i n
before_last_is i n = by (int_lt i (n -ℤ pos 1)) (int_lt (i +ℤ pos 1) n) refl refl
  where
    by : (p q : Bool) → int_lt i (n -ℤ pos 1) ≡ p → int_lt (i +ℤ pos 1) n ≡ q → p ≡ q
    by true true e f = refl
    by false false e f = refl
    by true false e f = absurd (omega (arith, ints))
    by false true e f = absurd (omega (arith, ints))

past_is : (i n : ℤ) → int_lt i n ≡ false → int_lt i n ≡ more_turns false i n
past_is i n h = h ∙ by (int_lt (i +ℤ pos 1) n) refl
  where
    by : (q : Bool) → int_lt (i +ℤ pos 1) n ≡ q → false ≡ q
    by false f = refl
    by true f = absurd (omega (arith, ints))

-- the last one less 1, or not
below_is : (i n : ℤ) → fits i ≡ true → fits n ≡ true → is_less_signed (word i) (subtracted (word n) (one_if (int_lt i n))) ≡ more_turns false i n
below_is i n fi fn = by (int_lt i n) refl
  where
    by : (b : Bool) → int_lt i n ≡ b → is_less_signed (word i) (subtracted (word n) (one_if b)) ≡ more_turns false i n
    by true e =
        let a = fits_signed i fi in let b = fits_signed n fn in
        let f : fits (n -ℤ pos 1) ≡ true = signed_fits (n -ℤ pos 1) (omega (arith, ints)) in
        ap (is_less_signed (word i)) (subtracted_is n (pos 1) fn refl f) ∙ less_is i (n -ℤ pos 1) fi f ∙ before_last_is i n
    by false e =
        let same : subtracted (word n) 0 ≡ word n = (let s = word_small n fn in omega (arith, s)) in
        ap (is_less_signed (word i)) same ∙ less_is i n fi fn ∙ past_is i n e

pub next_is_int : (inclusive : Bool) (i n : ℤ) → fits i ≡ true → fits n ≡ true → more_turns inclusive i n ≡ true → fits (i +ℤ pos 1) ≡ true
next_is_int true i n fi fn h = let a = fits_signed i fi in let b = fits_signed n fn in signed_fits (i +ℤ pos 1) (omega (arith, ints, h))
next_is_int false i n fi fn h = let a = fits_signed i fi in let b = fits_signed n fn in signed_fits (i +ℤ pos 1) (omega (arith, ints, h))

bit_got : (b : Bool) → Some (one_if b % 2 ^ 32) ≡ Some (one_if b)
bit_got true = refl
bit_got false = refl

-- none of the loop
beyond_is : (inclusive : Bool) (i n : ℤ) → fits i ≡ true → fits n ≡ true
    → (if inclusive then is_less_signed (word n) (word i) else not (is_less_signed (word i) (word n))) ≡ not (int_lt i (limit inclusive n))
beyond_is true i n fi fn = less_is n i fn fi ∙ by (int_lt n i) (int_lt i (n +ℤ pos 1)) refl refl
  where
    by : (p q : Bool) → int_lt n i ≡ p → int_lt i (n +ℤ pos 1) ≡ q → p ≡ not q
    by true true e f = absurd (omega (arith, ints))
    by true false e f = refl
    by false true e f = refl
    by false false e f = absurd (omega (arith, ints))
beyond_is false i n fi fn = ap not (less_is i n fi fn)

-- behind a number that is below another one there is an int
pub below_fits : (i n : ℤ) → fits i ≡ true → fits n ≡ true → int_lt i n ≡ true → fits (i +ℤ pos 1) ≡ true
below_fits i n fi fn h = next_is_int true i n fi fn (sym (inclusive_is i n) ∙ h)

got_word : (a : ℕ) → a < 2 ^ 32 → Some (a % 2 ^ 32) ≡ Some a
got_word a h = ap Some (omega (arith, h))

module _ (live : Lives) (procs : List WordProc) (c : Within) (m : Memory) (g : Vars) (v : Vars) (counter last : ℕ)
    (high_counter : OWN_FROM ≤ counter) (high_last : OWN_FROM ≤ last) (i n : ℤ)
    (fi : fits i ≡ true) (fn : fits n ≡ true) (ei : v counter ≡ Some (word i)) (en : v last ≡ Some (word n)) (k : List WordInstr) where
  -- the next number
  pub next_given : fits (i +ℤ pos 1) ≡ true → (w : Vars) → AllSame v w
      → Gives live procs c m g (Sum counter counter 1 ∷ k) w counter (word (i +ℤ pos 1)) k 1
  next_given f w same = record {
    vars = put w counter (word i + 1);
    given = cond-true (counter == counter) (Some ((word i + 1) % 2 ^ 32)) (w counter) (eq-eqb counter counter refl) ∙ ap Some (added_is i (pos 1) fi refl f);
    but = but_one w w counter (word i + 1) high_counter (all_same w);
    runs = run_sum live procs c m k w g counter counter 1 (same.others counter high_counter ∙ ei);
  }

  -- on at a label, or past it
  pub beyond_off : (inclusive : Bool) (label : ℕ) (there : List WordInstr) → int_lt i (limit inclusive n) ≡ false
      → from_label label c.proc.lines ≡ Some there → Led live procs c m g (beyond_code inclusive counter last label k) v there
  beyond_off true label there h stands = record {
    steps = 1;
    some = omega arith;
    few = omega arith;
    leads = leads_off live procs c m g k there v test.Less last counter label (word n) (word i) en ei (beyond_is true i n fi fn ∙ ap not h) stands;
  }
  beyond_off false label there h stands = record {
    steps = 1;
    some = omega arith;
    few = omega arith;
    leads = leads_off live procs c m g k there v test.AtLeast counter last label (word i) (word n) ei en (beyond_is false i n fi fn ∙ ap not h) stands;
  }

  pub beyond_past : (inclusive : Bool) (label : ℕ) → int_lt i (limit inclusive n) ≡ true
      → Runs live procs 1 (at c m (beyond_code inclusive counter last label k) v g) (at c m k v g)
  beyond_past true label h =
      run_past live procs c m k v g test.Less last counter label en ei (beyond_is true i n fi fn ∙ ap not h)
  beyond_past false label h =
      run_past live procs c m k v g test.AtLeast counter last label ei en (beyond_is false i n fi fn ∙ ap not h)

  -- a further turn, or none
  pub record Turning (own : ℕ) (inclusive : Bool) (then_lines : List WordInstr) (there : List WordInstr) : Type 0 where
    pub vars : Vars
    pub same : AllSame v vars
    pub steps : ℕ
    pub few : steps ≤ 3
    pub some : 0 < steps
    pub runs : Runs live procs steps (at c m (unless_less inclusive counter last own then_lines) v g) (at c m there vars g)

  -- the last one less 1, or not, is in SECOND
  difference_runs : (own : ℕ) (then_lines there : List WordInstr)
      → ((d : ℕ) → d ≡ subtracted (word n) (one_if (int_lt i n))
      → Runs live procs 1 (at c m (Branch test.AtLeast counter SECOND own ∷ then_lines) (put (put v FIRST (one_if (is_less_signed (word i) (word n))))
      SECOND d) g)
      (at c m there (put (put v FIRST (one_if (is_less_signed (word i) (word n)))) SECOND d) g))
      → Turning own false then_lines there
  difference_runs own then_lines there last_run =
      let b0 : ℕ = one_if (is_less_signed (word i) (word n)) in
      let v1 : Vars = put v FIRST b0 in
      let d : ℕ = subtracted (word n) b0 in
      let l2 : List WordInstr = Branch test.AtLeast counter SECOND own ∷ then_lines in
      let l1 : List WordInstr = Compute SECOND operation.Subtract last FIRST ∷ l2 in
      let n1 : v1 last ≡ Some (word n) = put_low v FIRST b0 last (omega arith) high_last ∙ en in
      let r1 : Runs live procs 1 (at c m (Compute FIRST operation.Less counter last ∷ l1) v g) (at c m l1 v1 g)
      = run_compute live procs c m l1 v g FIRST operation.Less counter last ei en in
      let r2 : Runs live procs 1 (at c m l1 v1 g) (at c m l2 (put v1 SECOND d) g)
      = run_compute live procs c m l2 v1 g SECOND operation.Subtract last FIRST n1 (bit_got (is_less_signed (word i) (word n))) in
      let r3 = last_run d (ap (λ b. subtracted (word n) (one_if b)) (less_is i n fi fn)) in
      record {
        vars = put v1 SECOND d;
        same = same_more v v1 (put v1 SECOND d) (same_put v FIRST b0 (omega arith) (omega arith)) (same_put v1 SECOND d (omega arith) (omega arith));
        steps = 3;
        few = omega arith;
        some = omega arith;
        runs = then_runs live procs (then_runs live procs r1 r2) r3;
      }

  module _ (own : ℕ) (then_lines : List WordInstr) where
    pub turns_past : (inclusive : Bool) → more_turns inclusive i n ≡ true → Turning own inclusive then_lines then_lines
    turns_past true h = record {
      vars = v;
      same = all_same v;
      steps = 1;
      few = omega arith;
      some = omega arith;
      runs = run_past live procs c m then_lines v g test.AtLeast counter last own ei en
          (ap not (less_is i n fi fn ∙ (inclusive_is i n ∙ h)));
    }
    turns_past false h = difference_runs own then_lines then_lines
        (λ d e. run_past live procs c m then_lines (put (put v FIRST (one_if (is_less_signed (word i) (word n)))) SECOND d) g test.AtLeast counter SECOND own
        (put_low (put v FIRST (one_if (is_less_signed (word i) (word n)))) SECOND d counter (omega arith) high_counter
        ∙ put_low v FIRST (one_if (is_less_signed (word i) (word n))) counter (omega arith) high_counter ∙ ei)
        (got_word d (omega (arith, e))) (ap not (ap (is_less_signed (word i)) e ∙ (below_is i n fi fn ∙ h))))

    pub turns_off : (inclusive : Bool) (there : List WordInstr) → more_turns inclusive i n ≡ false → from_label own c.proc.lines ≡ Some there
        → Turning own inclusive then_lines there
    turns_off true there h stands = record {
      vars = v;
      same = all_same v;
      steps = 1;
      few = omega arith;
      some = omega arith;
      runs = run_off live procs c m then_lines v g test.AtLeast counter last own there ei en
          (ap not (less_is i n fi fn ∙ (inclusive_is i n ∙ h))) stands;
    }
    turns_off false there h stands = difference_runs own then_lines there
        (λ d e. run_off live procs c m then_lines (put (put v FIRST (one_if (is_less_signed (word i) (word n)))) SECOND d) g test.AtLeast counter SECOND own
        there
        (put_low (put v FIRST (one_if (is_less_signed (word i) (word n)))) SECOND d counter (omega arith) high_counter
        ∙ put_low v FIRST (one_if (is_less_signed (word i) (word n))) counter (omega arith) high_counter ∙ ei)
        (got_word d (omega (arith, e))) (ap not (ap (is_less_signed (word i)) e ∙ (below_is i n fi fn ∙ h))) stands)
