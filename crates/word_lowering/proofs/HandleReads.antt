-- What is read of the handle of a sequence: its length, and where its elements stand.
use Rattle.std.proofs.Common.{◌≡◌, ℕ, ◌+◌, ◌*◌, ◌^◌, ◌<◌, ◌≤◌, List, ◌∷◌, Some, Ok, not, refl, ap}
use Rattle.std.proofs.Common.{subst, ◌∙◌}
use Rattle.std.proofs.Common.{arith}
use Rattle.std.specs.Prelude.{◌%◌, ◌==◌}
use Rattle.std.proofs.lemmas.Bool.{cond-true, eq-eqb, lt-ltb, le-ltb}
use Rattle.nim_program.specs.declared.operation.Measure.TheVariants.{High, Len}
use Rattle.rv32_isa.specs.declared.micro_op.Size.TheVariants.{Word}
use Rattle.rv32_isa.specs.Machine.{Lives}
use Rattle.rv32_isa.specs.Values.{subtracted}
use Rattle.word_code.specs.declared.word.WordOperation.TheVariants as operation
use Rattle.word_code.specs.declared.word.Test.TheVariants as test
use Rattle.word_code.specs.declared.word.WordInstr.{WordInstr}
use Rattle.word_code.specs.declared.word.WordInstr.TheVariants.{Branch, Compute, Constant, Load, Sum}
use Rattle.word_code.specs.declared.word.WordProc.{WordProc}
use Rattle.word_code.specs.Memory.{Memory, number_at}
use Rattle.word_code.specs.Words.{Vars, put, from_label}
use Rattle.word_code.proofs.ForCallers.{MemoryLaw, Runs, Within, at, then_runs, run_compute, run_constant, run_load, run_off, run_past, run_sum}
use Rattle.word_lowering.specs.declared.homes.TheConstants.{FIRST, SECOND, OWN_FROM}
use Rattle.word_lowering.specs.declared.homes.Home.{Home as Place}
use Rattle.word_lowering.specs.Operands.{one_less}
use Rattle.word_lowering.specs.Operations.{trap_label}
use Rattle.nim_program.specs.Traps.{IndexOutOfBounds}
use Rattle.word_lowering.specs.OwnedCode.{measured_code, owned_element_code, owned_item_code}
use Rattle.word_lowering.proofs.Moves.{address_runs, same_first, same_more, same_second}
use Rattle.word_lowering.proofs.OrdinalRuns.{AllBut, AllSame, but_one, put_here, put_other}
use Rattle.word_lowering.proofs.RoutinesCalled.{IsFirst}
use Rattle.word_lowering.proofs.TextRowRuns.{IsAt}

module _ (law : MemoryLaw) (live : Lives) (procs : List WordProc) (c : Within) (from_first : IsFirst c) (m : Memory) (k : List WordInstr) (v g : Vars)
    (from : Place) (a : ℕ) (where_is : IsAt c.base v from a) where
  -- a variable of a place gets a word
  pub record Got (lines : List WordInstr) (to word : ℕ) : Type 0 where
    pub vars : Vars
    pub given : vars to ≡ Some word
    pub but : AllBut v to vars
    pub count : ℕ
    pub some : 0 < count
    pub few : count ≤ 8
    pub runs : Runs live procs count (at c m lines v g) (at c m k vars g)

  pub length_got : (to n : ℕ) → OWN_FROM ≤ to → n < 2 ^ 32 → number_at m a Word ≡ Ok n → Got (measured_code Len to from k) to n
  length_got to n high few reads = record {
    vars = put (put v FIRST a) to n;
    given = put_here (put v FIRST a) to n few;
    but = but_one v (put v FIRST a) to n high (same_first v a);
    count = 2;
    some = omega arith;
    few = omega arith;
    runs = then_runs live procs (address_runs law live procs c from_first g m (Load to FIRST Word ∷ k) v FIRST from a where_is.points)
        (run_load live procs c m k (put v FIRST a) g to FIRST Word (put_here v FIRST a where_is.small) reads);
  }

  -- and one less
  pub high_got : (to n : ℕ) → OWN_FROM ≤ to → n < 2 ^ 32 → number_at m a Word ≡ Ok n → Got (measured_code High to from k) to (subtracted n 1)
  high_got to n high few reads =
      let v1 : Vars = put v FIRST a in
      let v2 : Vars = put v1 FIRST n in
      record {
        vars = put v2 to (n + one_less);
        given = cond-true (to == to) (Some ((n + one_less) % 2 ^ 32)) (v2 to) (eq-eqb to to refl);
        but = but_one v v2 to (n + one_less) high (same_more v v1 v2 (same_first v a) (same_first v1 n));
        count = 3;
        some = omega arith;
        few = omega arith;
        runs = then_runs live procs (address_runs law live procs c from_first g m (Load FIRST FIRST Word ∷ Sum to FIRST one_less ∷ k) v FIRST from a
            where_is.points)
            (then_runs live procs (run_load live procs c m (Sum to FIRST one_less ∷ k) v1 g FIRST FIRST Word (put_here v FIRST a where_is.small) reads)
            (run_sum live procs c m k v2 g to FIRST one_less (put_here v1 FIRST n few)));
      }

  -- ---- the address of an element

  module _ (to index size i n place : ℕ) (index_high : OWN_FROM ≤ index) (index_is : v index ≡ Some i) (near : a + 4 < 2 ^ 32)
      (size_small : size < 2 ^ 32) (long : number_at m a Word ≡ Ok n) (few : n < 2 ^ 32) (there : number_at m (a + 4) Word ≡ Ok place)
      (place_small : place < 2 ^ 32)
    where
      index_still : (w : Vars) → AllSame v w → w index ≡ Some i
      index_still w same = same.others index index_high ∙ index_is

      -- from where SECOND has the address of its place
      module _ (w : Vars) (same : AllSame v w) (second : w SECOND ≡ Some (a + 4)) (end : place + i * size < 2 ^ 32) where
        abbrev w1 : Vars
        w1 = put w SECOND place

        abbrev w2 : Vars
        w2 = put w1 FIRST size

        abbrev w3 : Vars
        w3 = put w2 FIRST (i * size)

        abbrev l3 : List WordInstr
        l3 = Compute to operation.Add SECOND FIRST ∷ k

        abbrev l2 : List WordInstr
        l2 = Compute FIRST operation.Multiply index FIRST ∷ l3

        abbrev l1 : List WordInstr
        l1 = Constant FIRST size ∷ l2

        same3 : AllSame v w3
        same3 = same_more v w w3 same (same_more w w1 w3 (same_second w place) (same_more w1 w2 w3 (same_first w1 size) (same_first w2 (i * size))))

        rest_runs : Runs live procs 4 (at c m (Load SECOND SECOND Word ∷ l1) w g) (at c m k (put w3 to (place + i * size)) g)
        rest_runs =
            then_runs live procs (run_load live procs c m l1 w g SECOND SECOND Word second there) (then_runs live procs
            (run_constant live procs c m l2 w1 g FIRST size) (then_runs live procs
            (product_runs) (sum_runs)))
          where
            sum_low : (p q : ℕ) → p + q < 2 ^ 32 → (p + q) % 2 ^ 32 ≡ p + q
            sum_low p q h = omega (arith, h)

            low : i * size % 2 ^ 32 ≡ i * size
            low = omega (arith, end)

            product_runs : Runs live procs 1 (at c m l2 w2 g) (at c m l3 w3 g)
            product_runs =
                subst (λ p. Runs live procs 1 (at c m l2 w2 g) (at c m l3 (put w2 FIRST p) g)) low
                (run_compute live procs c m l3 w2 g FIRST operation.Multiply index FIRST (index_still w2 (same_more v w w2 same
                (same_more w w1 w2 (same_second w place) (same_first w1 size)))) (put_here w1 FIRST size size_small))

            sum_runs : Runs live procs 1 (at c m l3 w3 g) (at c m k (put w3 to (place + i * size)) g)
            sum_runs =
                subst (λ p. Runs live procs 1 (at c m l3 w3 g) (at c m k (put w3 to p) g)) (sum_low place (i * size) end)
                (run_compute live procs c m k w3 g to operation.Add SECOND FIRST (put_other w2 FIRST (i * size) SECOND (λ e. absurd (omega (arith, e)))
                ∙ put_other w1 FIRST size SECOND (λ e. absurd (omega (arith, e))) ∙ put_here w SECOND place place_small)
                (put_here w2 FIRST (i * size) (omega (arith, end))))

      abbrev v1 : Vars
      v1 = put v SECOND a

      -- in any variable
      pub record Found : Type 0 where
        pub vars : Vars
        pub same : AllSame v vars
        pub runs : Runs live procs 6 (at c m (owned_element_code to from index size k) v g) (at c m k (put vars to (place + i * size)) g)

      pub element_found : place + i * size < 2 ^ 32 → Found
      element_found end =
          let v2 : Vars = put v1 SECOND (a + 4) in
          let same : AllSame v v2 = same_more v v1 v2 (same_second v a) (same_second v1 (a + 4)) in
          let second : v2 SECOND ≡ Some (a + 4) = put_here v1 SECOND (a + 4) near in
          record {
            vars = w3 v2 same second end;
            same = same3 v2 same second end;
            runs = then_runs live procs (address_runs law live procs c from_first g m (Sum SECOND SECOND 4 ∷ Load SECOND SECOND Word ∷ l1 v2 same second end) v
                SECOND from a where_is.points) (then_runs live procs
                (run_sum live procs c m (Load SECOND SECOND Word ∷ l1 v2 same second end) v1 g SECOND SECOND 4 (put_here v SECOND a where_is.small))
                (rest_runs v2 same second end));
          }

      -- of one that has to be: the length comes to FIRST
      abbrev owned_behind : List WordInstr
      owned_behind = Sum SECOND SECOND 4 ∷ Load SECOND SECOND Word ∷ Constant FIRST size ∷ Compute FIRST operation.Multiply index FIRST
          ∷ Compute to operation.Add SECOND FIRST ∷ k

      abbrev test_line : List WordInstr
      test_line = Branch test.NotBelow index FIRST (trap_label IndexOutOfBounds) ∷ owned_behind

      abbrev v2 : Vars
      v2 = put v1 FIRST n

      same2 : AllSame v v2
      same2 = same_more v v1 v2 (same_second v a) (same_first v1 n)

      first_is : v2 FIRST ≡ Some n
      first_is = put_here v1 FIRST n few

      to_test : Runs live procs 2 (at c m (owned_item_code to from index size k) v g) (at c m test_line v2 g)
      to_test =
          then_runs live procs (address_runs law live procs c from_first g m (Load FIRST SECOND Word ∷ test_line) v SECOND from a where_is.points)
          (run_load live procs c m test_line v1 g FIRST SECOND Word (put_here v SECOND a where_is.small) long)

      pub item_got : OWN_FROM ≤ to → i < n → place + i * size < 2 ^ 32 → Got (owned_item_code to from index size k) to (place + i * size)
      item_got high less end =
          let v3 : Vars = put v2 SECOND (a + 4) in
          let same : AllSame v v3 = same_more v v2 v3 same2 (same_second v2 (a + 4)) in
          let second : v3 SECOND ≡ Some (a + 4) = put_here v2 SECOND (a + 4) near in
          record {
            vars = put (w3 v3 same second end) to (place + i * size);
            given = put_here (w3 v3 same second end) to (place + i * size) end;
            but = but_one v (w3 v3 same second end) to (place + i * size) high (same3 v3 same second end);
            count = 8;
            some = omega arith;
            few = omega arith;
            runs = then_runs live procs to_test (then_runs live procs
                (run_past live procs c m owned_behind v2 g test.NotBelow index FIRST (trap_label IndexOutOfBounds) (index_still v2 same2) first_is
                (ap not (lt-ltb i n less))) (then_runs live procs
                (run_sum live procs c m (Load SECOND SECOND Word ∷ l1 v3 same second end) v2 g SECOND SECOND 4
                (put_other v1 FIRST n SECOND (λ e. absurd (omega (arith, e))) ∙ put_here v SECOND a where_is.small))
                (rest_runs v3 same second end)));
          }

      -- and of none the trap's label is reached
      pub record Leaps (behind : List WordInstr) : Type 0 where
        pub vars : Vars
        pub same : AllSame v vars
        pub runs : Runs live procs 3 (at c m (owned_item_code to from index size k) v g) (at c m behind vars g)

      pub item_leaps : n ≤ i → (behind : List WordInstr) → from_label (trap_label IndexOutOfBounds) c.proc.lines ≡ Some behind → Leaps behind
      item_leaps more behind stands = record {
        vars = v2;
        same = same2;
        runs = then_runs live procs to_test (run_off live procs c m owned_behind v2 g test.NotBelow index FIRST (trap_label IndexOutOfBounds) behind
            (index_still v2 same2) first_is (ap not (le-ltb i n more)) stands);
      }
