-- What the routine that compares texts does.
use Rattle.std.proofs.Common.{◌≡◌, ℕ, suc, ◌+◌, ◌*◌, ◌%◌, ◌^◌, ◌<◌, ◌≤◌, List, [], ◌∷◌, length, Some, Ok, Err, ℤ, pos, ◌-ℤ◌, true, false, refl}
use Rattle.std.proofs.Common.{sym, ap, ◌∙◌, ⊎_elim, arith, not, take}
use Rattle.std.specs.Prelude.{◌==◌, nat_lt, if◌then◌else◌}
use Rattle.std.proofs.lemmas.Bool.{eq-eqb, ne_eqb, lt-ltb, le-ltb, cases_lt, cond-true}
use Rattle.rv32_isa.specs.declared.micro_op.Size.TheVariants.{Byte}
use Rattle.rv32_isa.specs.declared.machine.FaultKind.TheVariants.{Misaligned}
use Rattle.rv32_isa.specs.Machine.{Lives}
use Rattle.rv32_isa.specs.Steps.{number_of}
use Rattle.rv32_isa.specs.Values.{signed}
use Rattle.word_code.specs.declared.word.WordOperation.TheVariants as operation
use Rattle.word_code.specs.declared.word.Test.TheVariants as test
use Rattle.word_code.specs.declared.word.WordInstr.{WordInstr}
use Rattle.word_code.specs.declared.word.WordInstr.TheVariants.{Constant, Sum, Compute, Load, Jump, Branch, Return}
use Rattle.word_code.specs.declared.word.WordProc.{WordProc}
use Rattle.word_code.specs.Memory.{Memory, number_at, bytes_at}
use Rattle.word_code.specs.Words.{computed, holds, Vars, no_words, put, params_of, from_proc, WordState}
use Rattle.word_code.specs.Routines.{goes_on}
use Rattle.word_code.proofs.ForCallers.{Sized, Runs, then_runs, Within, at as state_at, run_label, run_constant, run_sum, run_compute, run_load, run_past}
use Rattle.word_code.proofs.ForCallers.{run_off}
use Rattle.word_code.proofs.ForCallers.{run_jump, got, got_sum}
use Rattle.refc_runtime.specs.declared.routines.TheConstants.{ONE_LESS}
use Rattle.heap_memory.specs.declared.numbers.TheConstants.{ORDER}
use Rattle.heap_memory.specs.HeapRoutines.{IsKeptThere}
use Rattle.nim_meaning.specs.OwnedRows.{order}
use Rattle.heap_memory.specs.TextRoutines.{AreBytes, orders}
use Rattle.refc_runtime.specs.TextCode.{below_lines, above_lines, over_lines, pair_lines, order_lines}
use Rattle.refc_runtime.proofs.Calls.{later, inside, enters, returns_before, from_call}
use Rattle.refc_runtime.proofs.Pieces.{range_small, read_far}
use Rattle.heap_memory.proofs.ForCallers.{InRegion, read_in, part_read}

-- ---- the first of some bytes

module _ (m : Memory) (sized : Sized m) (a c : ℕ) (cs : List ℕ) (here : bytes_at m a (suc (length cs)) ≡ Some (c ∷ cs)) where
  whole : InRegion m sized a (suc (length cs))
  whole = read_in m sized a (suc (length cs)) (c ∷ cs) (omega arith) (read_far m sized a (c ∷ cs) (omega arith) here) here

  first_byte : number_at m a Byte ≡ Ok (c + 256 * 0)
  first_byte =
      let e : a ≡ a + 0 = omega arith in
      let one : a % 1 ≡ 0 = omega arith in
      cond-true (a % 1 == 0) (number_of (bytes_at m a 1)) (Err Misaligned) (eq-eqb (a % 1) 0 one)
      ∙ ap number_of (ap (λ p. bytes_at m p 1) e ∙ part_read m sized a (suc (length cs)) (c ∷ cs) whole here 0 1 (omega arith))

  next_bytes : bytes_at m (a + 1) (length cs) ≡ Some cs
  next_bytes = part_read m sized a (suc (length cs)) (c ∷ cs) whole here 1 (length cs) (omega arith) ∙ ap Some (all_of cs)
    where
      all_of : (xs : List ℕ) → take (length xs) xs ≡ xs
      all_of [] = refl
      all_of (x ∷ xs) = ap (λ l. x ∷ l) (all_of xs)

module _ (live : Lives) (procs : List WordProc) (n : ℕ) (s : WordState) (to : ℕ) (rest : List WordInstr) where
  abbrev pub order_proc : WordProc
  order_proc = later n ORDER 4 8 order_lines

  abbrev c : Within
  c = inside s order_proc to rest

  -- it comes back with how they stand
  pub record Ordered (m : Memory) (first second : List ℕ) (lines : List WordInstr) (most : ℕ) (v : Vars) : Type 0 where
    pub word : ℕ
    pub small : word < 2 ^ 32
    pub is : signed word ≡ order first second
    pub count : ℕ
    pub few : count ≤ most
    pub runs : Runs live procs count (state_at c m lines v no_words) (goes_on s to word rest m s.input)

  abbrev minus_one : ℤ
  minus_one = pos 0 -ℤ pos 1

  says_below : (m : Memory) (v : Vars) → Runs live procs 3 (state_at c m below_lines v no_words) (goes_on s to ONE_LESS rest m s.input)
  says_below m v =
      then_runs live procs (run_label live procs c m (Constant 4 ONE_LESS ∷ Return 4 ∷ []) v no_words 3)
      (then_runs live procs (run_constant live procs c m (Return 4 ∷ []) v no_words 4 ONE_LESS)
      (returns_before live procs s to rest [] order_proc refl m (put v 4 ONE_LESS) 4 ONE_LESS refl))

  says_above : (m : Memory) (v : Vars) → Runs live procs 3 (state_at c m above_lines v no_words) (goes_on s to 1 rest m s.input)
  says_above m v =
      then_runs live procs (run_label live procs c m (Constant 4 1 ∷ Return 4 ∷ below_lines) v no_words 2)
      (then_runs live procs (run_constant live procs c m (Return 4 ∷ below_lines) v no_words 4 1)
      (returns_before live procs s to rest below_lines order_proc refl m (put v 4 1) 4 1 refl))

  abbrev k2 : List WordInstr
  k2 = Branch test.Equal 0 4 1 ∷ Branch test.Equal 2 5 2 ∷ Load 6 0 Byte ∷ Load 7 2 Byte ∷ Branch test.Below 6 7 3 ∷ Branch test.Below 7 6 2 ∷ Sum 0 0 1
      ∷ Sum 2 2 1 ∷ Jump 0 ∷ over_lines

  abbrev k3 : List WordInstr
  k3 = Branch test.Equal 2 5 2 ∷ Load 6 0 Byte ∷ Load 7 2 Byte ∷ Branch test.Below 6 7 3 ∷ Branch test.Below 7 6 2 ∷ Sum 0 0 1 ∷ Sum 2 2 1 ∷ Jump 0 ∷ over_lines

  abbrev k4 : List WordInstr
  k4 = Load 6 0 Byte ∷ Load 7 2 Byte ∷ Branch test.Below 6 7 3 ∷ Branch test.Below 7 6 2 ∷ Sum 0 0 1 ∷ Sum 2 2 1 ∷ Jump 0 ∷ over_lines

  abbrev k5 : List WordInstr
  k5 = Load 7 2 Byte ∷ Branch test.Below 6 7 3 ∷ Branch test.Below 7 6 2 ∷ Sum 0 0 1 ∷ Sum 2 2 1 ∷ Jump 0 ∷ over_lines

  abbrev k6 : List WordInstr
  k6 = Branch test.Below 6 7 3 ∷ Branch test.Below 7 6 2 ∷ Sum 0 0 1 ∷ Sum 2 2 1 ∷ Jump 0 ∷ over_lines

  abbrev k7 : List WordInstr
  k7 = Branch test.Below 7 6 2 ∷ Sum 0 0 1 ∷ Sum 2 2 1 ∷ Jump 0 ∷ over_lines

  abbrev k8 : List WordInstr
  k8 = Sum 0 0 1 ∷ Sum 2 2 1 ∷ Jump 0 ∷ over_lines

  abbrev k9 : List WordInstr
  k9 = Sum 2 2 1 ∷ Jump 0 ∷ over_lines

  abbrev k10 : List WordInstr
  k10 = Jump 0 ∷ over_lines

  -- the first text is over
  ends : (m : Memory) (left right end : ℕ) (v : Vars) → v 0 ≡ Some left → v 4 ≡ Some left → Runs live procs 3 (state_at c m pair_lines v no_words)
      (state_at c m (Branch test.Unequal 2 5 3 ∷ Constant 4 0 ∷ Return 4 ∷ above_lines) v no_words)
  ends m left right end v e0 e4 =
      then_runs live procs (run_label live procs c m k2 v no_words 0)
      (then_runs live procs (run_off live procs c m k3 v no_words test.Equal 0 4 1 over_lines e0 e4 (eq-eqb left left refl) refl)
      (run_label live procs c m (Branch test.Unequal 2 5 3 ∷ Constant 4 0 ∷ Return 4 ∷ above_lines) v no_words 1))

  -- a byte of each
  module _ (m : Memory) (sized : Sized m) (b : ℕ) (bs : List ℕ) (d : ℕ) (ds : List ℕ) (left right left_end right_end : ℕ) (v : Vars) (b_small : b < 256)
      (d_small : d < 256) (here : bytes_at m left (suc (length bs)) ≡ Some (b ∷ bs)) (there : bytes_at m right (suc (length ds)) ≡ Some (d ∷ ds))
      (lw : left < 2 ^ 32) (rw : right < 2 ^ 32) (e0 : v 0 ≡ Some left) (e2 : v 2 ≡ Some right) (e4 : v 4 ≡ Some left_end) (e5 : v 5 ≡ Some right_end)
      (far : left_end ≡ left + suc (length bs)) (near : right_end ≡ right + suc (length ds)) where
    left_small : left + suc (length bs) < 2 ^ 32
    left_small = range_small m sized left (b ∷ bs) lw here

    right_small : right + suc (length ds) < 2 ^ 32
    right_small = range_small m sized right (d ∷ ds) rw there

    abbrev v1 : Vars
    v1 = put v 6 (b + 256 * 0)

    abbrev v2 : Vars
    v2 = put v1 7 (d + 256 * 0)

    abbrev v3 : Vars
    v3 = put v2 0 (left + 1)

    abbrev v4 : Vars
    v4 = put v3 2 (right + 1)

    six : v2 6 ≡ Some b
    six = ap Some (omega (arith, b_small))

    seven : v2 7 ≡ Some d
    seven = ap Some (omega (arith, d_small))

    to_tests : Runs live procs 5 (state_at c m pair_lines v no_words) (state_at c m k6 v2 no_words)
    to_tests =
        let more : holds test.Equal left left_end ≡ false = ne_eqb left left_end (λ e. absurd (omega (arith, e, far))) in
        let also : holds test.Equal right right_end ≡ false = ne_eqb right right_end (λ e. absurd (omega (arith, e, near))) in
        then_runs live procs (run_label live procs c m k2 v no_words 0)
        (then_runs live procs (run_past live procs c m k3 v no_words test.Equal 0 4 1 e0 e4 more)
        (then_runs live procs (run_past live procs c m k4 v no_words test.Equal 2 5 2 e2 e5 also)
        (then_runs live procs (run_load live procs c m k5 v no_words 6 0 Byte e0 (first_byte m sized left b bs here))
        (run_load live procs c m k6 v1 no_words 7 2 Byte e2 (first_byte m sized right d ds there)))))

    abbrev Step : Type 0
    Step = Ordered m (b ∷ bs) (d ∷ ds) pair_lines (7 + 10 * suc (length bs)) v

    is_less : b < d → Step
    is_less less = record {
      word = ONE_LESS;
      small = omega arith;
      is = ap (λ x. if x then minus_one else if nat_lt d b then pos 1 else order bs ds) (sym (lt-ltb b d less));
      count = 9;
      few = omega arith;
      runs = then_runs live procs to_tests
          (then_runs live procs (run_off live procs c m k7 v2 no_words test.Below 6 7 3 below_lines six seven (lt-ltb b d less) refl) (says_below m v2));
    }

    is_more : d < b → Step
    is_more less = record {
      word = 1;
      small = omega arith;
      is =
          ap (λ x. if x then pos 1 else order bs ds) (sym (lt-ltb d b less))
          ∙ ap (λ x. if x then minus_one else if nat_lt d b then pos 1 else order bs ds) (sym (le-ltb b d (omega (arith, less))));
      count = 10;
      few = omega arith;
      runs = then_runs live procs to_tests
          (then_runs live procs (run_past live procs c m k7 v2 no_words test.Below 6 7 3 six seven (le-ltb b d (omega (arith, less))))
          (then_runs live procs (run_off live procs c m k8 v2 no_words test.Below 7 6 2 above_lines seven six (lt-ltb d b less) refl) (says_above m v2)));
    }

    is_same : d ≤ b → b ≤ d → Ordered m bs ds pair_lines (7 + 10 * length bs) v4 → Step
    is_same low high x =
        let few = x.few in
        record {
          word = x.word;
          small = x.small;
          is = x.is ∙ ap (λ y. if y then pos 1 else order bs ds) (sym (le-ltb d b high))
              ∙ ap (λ y. if y then minus_one else if nat_lt d b then pos 1 else order bs ds) (sym (le-ltb b d low));
          count = 10 + x.count;
          few = omega (arith, few);
          runs = then_runs live procs (then_runs live procs to_tests
              (then_runs live procs (run_past live procs c m k7 v2 no_words test.Below 6 7 3 six seven (le-ltb b d low))
              (then_runs live procs (run_past live procs c m k8 v2 no_words test.Below 7 6 2 seven six (le-ltb d b high))
              (then_runs live procs (run_sum live procs c m k9 v2 no_words 0 0 1 e0)
              (then_runs live procs (run_sum live procs c m k10 v3 no_words 2 2 1 e2)
              (run_jump live procs c m over_lines v4 no_words 0 pair_lines refl)))))) x.runs;
        }

    any : ((w : Vars) → w 0 ≡ Some (left + 1) → w 2 ≡ Some (right + 1) → w 4 ≡ Some left_end → w 5 ≡ Some right_end
        → Ordered m bs ds pair_lines (7 + 10 * length bs) w) → Step
    any behind = ⊎_elim is_less (λ low. ⊎_elim is_more
        (λ high. is_same low high (behind v4 (got (left + 1) (omega (arith, left_small))) (got (right + 1) (omega (arith, right_small))) e4 e5))
        (cases_lt d b)) (cases_lt b d)

  compares : (first second : List ℕ) (m : Memory) (left right left_end right_end : ℕ) (v : Vars) → Sized m → AreBytes first → AreBytes second
      → bytes_at m left (length first) ≡ Some first → bytes_at m right (length second) ≡ Some second → left < 2 ^ 32 → right < 2 ^ 32
      → v 0 ≡ Some left → v 2 ≡ Some right → v 4 ≡ Some left_end → v 5 ≡ Some right_end → left_end ≡ left + length first → right_end ≡ right + length second
      → Ordered m first second pair_lines (7 + 10 * length first) v
  compares [] [] m left right left_end right_end v sized are bre here there lw rw e0 e2 e4 e5 far near =
      let tail : List WordInstr = Constant 4 0 ∷ Return 4 ∷ above_lines in
      let same : left_end ≡ left = omega (arith, far) in
      let right_same : right_end ≡ right = omega (arith, near) in
      let none : holds test.Unequal right right ≡ false = ap not (eq-eqb right right refl) in
      record {
        word = 0;
        small = omega arith;
        is = refl;
        count = 6;
        few = omega arith;
        runs = then_runs live procs (ends m left right right_end v e0 (e4 ∙ ap Some same))
            (then_runs live procs (run_past live procs c m tail v no_words test.Unequal 2 5 3 e2 (e5 ∙ ap Some right_same) none)
            (then_runs live procs (run_constant live procs c m (Return 4 ∷ above_lines) v no_words 4 0)
            (returns_before live procs s to rest above_lines order_proc refl m (put v 4 0) 4 0 refl)));
      }
  compares [] (d ∷ ds) m left right left_end right_end v sized are bre here there lw rw e0 e2 e4 e5 far near =
      let tail : List WordInstr = Constant 4 0 ∷ Return 4 ∷ above_lines in
      let same : left_end ≡ left = omega (arith, far) in
      let some : holds test.Unequal right right_end ≡ true = ap not (ne_eqb right right_end (λ e. absurd (omega (arith, e, near)))) in
      record {
        word = ONE_LESS;
        small = omega arith;
        is = refl;
        count = 7;
        few = omega arith;
        runs = then_runs live procs (ends m left right right_end v e0 (e4 ∙ ap Some same))
            (then_runs live procs (run_off live procs c m tail v no_words test.Unequal 2 5 3 below_lines e2 e5 some refl) (says_below m v));
      }
  compares (b ∷ bs) [] m left right left_end right_end v sized are bre here there lw rw e0 e2 e4 e5 far near =
      let right_same : right_end ≡ right = omega (arith, near) in
      let more : holds test.Equal left left_end ≡ false = ne_eqb left left_end (λ e. absurd (omega (arith, e, far))) in
      record {
        word = 1;
        small = omega arith;
        is = refl;
        count = 6;
        few = omega arith;
        runs = then_runs live procs (run_label live procs c m k2 v no_words 0)
            (then_runs live procs (run_past live procs c m k3 v no_words test.Equal 0 4 1 e0 e4 more)
            (then_runs live procs (run_off live procs c m k4 v no_words test.Equal 2 5 2 above_lines e2 (e5 ∙ ap Some right_same)
            (eq-eqb right right refl) refl)
            (says_above m v)));
      }
  compares (b ∷ bs) (d ∷ ds) m left right left_end right_end v sized are bre here there lw rw e0 e2 e4 e5 far near =
      let ls = left_small m sized b bs d ds left right left_end right_end v are.0 bre.0 here there lw rw e0 e2 e4 e5 far near in
      let rs = right_small m sized b bs d ds left right left_end right_end v are.0 bre.0 here there lw rw e0 e2 e4 e5 far near in
      any m sized b bs d ds left right left_end right_end v are.0 bre.0 here there lw rw e0 e2 e4 e5 far near (λ w f0 f2 f4 f5.
      compares bs ds m (left + 1) (right + 1) left_end right_end w sized are.1 bre.1 (next_bytes m sized left b bs here) (next_bytes m sized right d ds there)
      (omega (arith, ls)) (omega (arith, rs)) f0 f2 f4 f5 (omega (arith, far)) (omega (arith, near)))

module _ (live : Lives) (procs : List WordProc) (n : ℕ) (others : List WordProc) where
  pub order_kept : from_proc ORDER procs ≡ later n ORDER 4 8 order_lines ∷ others → IsKeptThere live procs orders
  order_kept stands u s to rest calling sized may =
      let v : Vars = params_of (order_proc live procs n s to rest) s.frame.given in
      let m : Memory = s.memory in
      let le = range_small m sized u.left u.first may.left_word may.first_here in
      let re = range_small m sized u.right u.second may.right_word may.second_here in
      let v1 : Vars = put v 4 (computed operation.Add u.left (length u.first)) in
      let v2 : Vars = put v1 5 (computed operation.Add u.right (length u.second)) in
      let c : Within = inside s (order_proc live procs n s to rest) to rest in
      let e0 = calling.given.0 in
      let e1 = calling.given.1.0 in
      let e2 = calling.given.1.1.0 in
      let e3 = calling.given.1.1.1.0 in
      let called = enters live procs s to rest n ORDER 4 8 order_lines others stands in
      let r1 : Runs live procs 1 (state_at c m order_lines v no_words) (state_at c m (Compute 5 operation.Add 2 3 ∷ pair_lines) v1 no_words)
      = run_compute live procs c m (Compute 5 operation.Add 2 3 ∷ pair_lines) v no_words 4 operation.Add 0 1 e0 e1 in
      let r2 : Runs live procs 1 (state_at c m (Compute 5 operation.Add 2 3 ∷ pair_lines) v1 no_words) (state_at c m pair_lines v2 no_words)
      = run_compute live procs c m pair_lines v1 no_words 5 operation.Add 2 3 e2 e3 in
      let x = compares live procs n s to rest u.first u.second m u.left u.right (u.left + length u.first) (u.right + length u.second) v2 sized may.first_are
      may.second_are may.first_here may.second_here may.left_word may.right_word e0 e2 (got_sum u.left (length u.first) le)
      (got_sum u.right (length u.second) re) refl refl in
      let few = x.few in
      record {
        memory = m;
        word = x.word;
        leaves = refl;
        gives = (x.small, x.is);
        lines = 1 + (1 + 1 + x.count);
        few = omega (arith, few);
        steps = (from_call live procs s to rest ORDER [] _ _ _ calling.next
            (then_runs live procs called (then_runs live procs (then_runs live procs r1 r2) x.runs))).by;
      }
