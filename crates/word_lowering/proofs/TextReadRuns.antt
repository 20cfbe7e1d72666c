-- Rows that read texts, whose operands are handles at homes: what their word code does, by what their deeds come to.
use Rattle.std.proofs.Common.{◌≡◌, ℕ, ◌+◌, ◌*◌, ◌<◌, ◌≤◌, List, [], ◌∷◌, length, Some, Bool, true, false, ℤ, pos}
use Rattle.std.proofs.Common.{refl, sym, ap, subst, ◌∙◌, arith}
use Rattle.std.specs.Prelude.{◌-ℤ◌, ◌==◌, ◌&&◌, nat_eq, nat_lt, if◌then◌else◌}
use Rattle.std.proofs.lemmas.Bool.{eq-eqb, ltb-false, ltb-true, ne_eqb}
use Rattle.arc_base.specs.Event.{writes}
use Rattle.arc_base.specs.declared.outside.Stream.TheVariants.{Out}
use Rattle.nim_program.specs.declared.operation.Comparison.{Comparison}
use Rattle.nim_program.specs.Ints.{fits, truth, compared}
use Rattle.nim_meaning.specs.Values.{Value, Number}
use Rattle.nim_meaning.specs.State.{World}
use Rattle.nim_meaning.specs.Deeds.{perform}
use Rattle.nim_meaning.specs.OwnedRows.{order, compared_texts}
use Rattle.nim_meaning.specs.Steps.{is_same}
use Rattle.rv32_isa.specs.Machine.{Lives}
use Rattle.word_code.specs.declared.word.Test.TheVariants as test
use Rattle.word_code.specs.declared.word.WordInstr.{WordInstr}
use Rattle.word_code.specs.declared.word.WordInstr.TheVariants.{Branch, Constant}
use Rattle.word_code.specs.declared.word.WordProc.{WordProc}
use Rattle.word_code.specs.Memory.{Memory, own_data_at}
use Rattle.word_code.specs.Words.{Vars, from_label, no_words, put, step}
use Rattle.word_code.proofs.ForCallers.{MemoryLaw, Sized, Within, at, on, then_runs, Runs, AlwaysSteps, run_constant, run_off, run_past}
use Rattle.heap_memory.specs.HeapRoutines.{IsKeptThere}
use Rattle.heap_memory.specs.HeapRuntime.{HeapRoutineName, OrdersTexts, WritesText, heap_routine}
use Rattle.heap_memory.specs.HandleRoutines.{orders_texts, writes_text}
use Rattle.word_lowering.specs.declared.homes.TheConstants.{LEFT, FIRST, FOURTH, FIFTH, OWN_FROM}
use Rattle.word_lowering.specs.declared.homes.Home.{Home as Place}
use Rattle.word_lowering.specs.Operations.{word, compare_code}
use Rattle.word_lowering.specs.declared.handed.Handed.TheVariants.{Where}
use Rattle.word_lowering.specs.RoutineCode.{text_compare_code, echo_code}
use Rattle.word_lowering.specs.OwnedCode.{same_text_code}
use Rattle.word_lowering.proofs.Arithmetic.{word_signed}
use Rattle.word_lowering.proofs.Blocks.{Blocks, HasHeap}
use Rattle.word_lowering.proofs.Moves.{same_first, same_more}
use Rattle.word_lowering.proofs.OrdinalRuns.{AllBut, AllSame, put_here, put_low, put_other}
use Rattle.word_lowering.proofs.OrdinalChecks.{compare_runs}
use Rattle.word_lowering.proofs.TextOperands.{TextAt}
use Rattle.word_lowering.proofs.TextsRead.{order_use, may_order, ordered, write_use, may_write}
use Rattle.word_lowering.proofs.RoutinesCalled.{IsFirst, always, left_with, came_back}
use Rattle.word_lowering.proofs.RowRuns.{RowDoes}
use Rattle.word_lowering.proofs.TextRowRuns.{TEXT_SPARE, IsAt}

-- ---- words of what texts are to one another

order_fits : (a b : List ℕ) → fits (order a b) ≡ true
order_fits [] [] = refl
order_fits [] (d ∷ ds) = refl
order_fits (c ∷ cs) [] = refl
order_fits (c ∷ cs) (d ∷ ds) = by (order_fits cs ds) (nat_lt c d) (nat_lt d c)
  where
    by : fits (order cs ds) ≡ true → (p q : Bool) → fits (if p then pos 0 -ℤ pos 1 else if q then pos 1 else order cs ds) ≡ true
    by rest true q = refl
    by rest false true = refl
    by rest false false = rest

-- the word is 0 where they are the same
same_is : (a b : List ℕ) → (word (order a b) == 0) ≡ is_same a b
same_is [] [] = refl
same_is [] (d ∷ ds) = refl
same_is (c ∷ cs) [] = refl
same_is (c ∷ cs) (d ∷ ds) = by (same_is cs ds) (nat_lt c d) refl (nat_lt d c) refl
  where
    by : (word (order cs ds) == 0) ≡ is_same cs ds → (p : Bool) → nat_lt c d ≡ p → (q : Bool) → nat_lt d c ≡ q
        → (word (if p then pos 0 -ℤ pos 1 else if q then pos 1 else order cs ds) == 0) ≡ (nat_eq c d && is_same cs ds)
    by rest true h q i = let l = ltb-true c d h in sym (ap (λ z. z && is_same cs ds) (ne_eqb c d (λ e. absurd (omega (arith, l, e)))))
    by rest false h true i = let l = ltb-true d c i in sym (ap (λ z. z && is_same cs ds) (ne_eqb c d (λ e. absurd (omega (arith, l, e)))))
    by rest false h false i =
        let a = ltb-false c d h in
        let b = ltb-false d c i in
        rest ∙ sym (ap (λ z. z && is_same cs ds) (eq-eqb c d (omega (arith, a, b))))

put_fourth : (v : Vars) (n : ℕ) → AllSame v (put v FOURTH n)
put_fourth v n = record { others = λ u high. put_low v FOURTH n u (omega arith) high; left = put_other v FOURTH n LEFT (λ e. absurd (omega (arith, e))) }

put_fifth : (v : Vars) (n : ℕ) → AllSame v (put v FIFTH n)
put_fifth v n = record { others = λ u high. put_low v FIFTH n u (omega arith) high; left = put_other v FIFTH n LEFT (λ e. absurd (omega (arith, e))) }

but_more : (u v w : Vars) (to : ℕ) → AllSame u v → AllBut v to w → AllBut u to w
but_more u v w to same but = record { others = λ i high apart. but.others i high apart ∙ same.others i high; left = but.left ∙ same.left }

module _ (StandsFixed : (place : ℕ) → List ℕ → Type 0) (law : MemoryLaw) (live : Lives) (procs : List WordProc)
    (kept : (name : HeapRoutineName) → IsKeptThere live procs (heap_routine own_data_at name)) (c : Within) (from_first : IsFirst c) (d : Blocks) (w : World)
    (input : c.input ≡ w.input) (m : Memory) (has : HasHeap StandsFixed d w.heap m) (sized : Sized m) (lines : List WordInstr) (v g : Vars)
  where
    -- ---- two are compared

    module _ (left right : ℕ) (first second : List ℕ) (t : TextAt w.heap d.stands m left first) (u : TextAt w.heap d.stands m right second)
        (left_home right_home : Place) (at_left : IsAt c.base v left_home left) (at_right : IsAt c.base v right_home right) (to : ℕ) (high_to : OWN_FROM ≤ to)
        (comparison : Comparison)
      where
        abbrev answer : ℤ
        answer = truth (compared comparison (order first second) (pos 0))

        -- nothing is other than before but the variable that gets the answer
        pub record Compared (a : Value) (after : World) (other : Memory) (vars : Vars) : Type 0 where
          pub memory : other ≡ m
          pub world : after ≡ w
          pub value : a ≡ Number answer
          pub given : vars to ≡ Some (word answer)
          pub but : AllBut v to vars

        pub compare_text_runs : RowDoes live procs c lines FOURTH TEXT_SPARE (λ a after other vars. Compared a after other vars)
            (at c m (text_compare_code comparison to left_home right_home lines) v g) (perform (compared_texts comparison first second) w)
        compare_text_runs =
            let tail : List WordInstr = compare_code comparison to FOURTH FIFTH lines in
            let x = came_back law live procs c from_first m sized orders_texts (always live procs c.input orders_texts (kept OrdersTexts))
            (order_use StandsFixed d w.heap m has sized left right first second t u) (may_order StandsFixed d w.heap m has sized left right first second t u)
            (Constant FIFTH 0 ∷ tail) FOURTH v g (Where left_home ∷ Where right_home ∷ []) (omega arith)
            ((at_left.points, at_left.high), at_left.small, ((at_right.points, at_right.high), at_right.small, tt)) refl in
            let behind : Within = left_with c c.input FOURTH in
            let v1 : Vars = put x.vars FOURTH x.word in
            let v2 : Vars = put v1 FIFTH 0 in
            let is : x.word ≡ word (order first second)
            = sym (word_signed x.word x.gives.0) ∙ ap word (ordered StandsFixed d w.heap m has sized left right first second t u x.memory x.word x.gives) in
            let here : v2 FOURTH ≡ Some (word (order first second))
            = put_other v1 FIFTH 0 FOURTH (λ e. absurd (omega (arith, e))) ∙ put_here x.vars FOURTH x.word x.gives.0 ∙ ap Some is in
            let y = compare_runs live procs behind x.memory no_words v2 to FOURTH FIFTH high_to (order first second) (pos 0) (order_fits first second) refl here
            (put_here v1 FIFTH 0 (omega arith)) lines comparison in
            let few = x.few in
            let most = y.few in
            let long = ap length t.bytes in
            record {
              memory = x.memory;
              vars = y.gives.vars;
              behind = record {
                memory = x.leaves;
                world = refl;
                value = refl;
                given = y.gives.given;
                but = but_more v v2 y.gives.vars to (same_more v x.vars v2 x.same (same_more x.vars v1 v2 (put_fourth x.vars x.word) (put_fifth v1 0)))
                    y.gives.but;
              };
              lines = x.lines + (1 + y.steps);
              few = omega (arith, few, most, long);
              steps = subst (λ i. AlwaysSteps (step live procs) (x.lines + (1 + y.steps))
                  (at c m (text_compare_code comparison to left_home right_home lines) v g) []
                  (x.lines + (1 + y.steps)) (at (left_with c i FOURTH) x.memory lines y.gives.vars no_words)) input
                  (on (step live procs) x.steps (on (step live procs) (run_constant live procs behind x.memory tail v1 no_words FIFTH 0) y.gives.runs));
            }

    -- ---- control goes on at a label where two are the same

    module _ (left right : ℕ) (first second : List ℕ) (t : TextAt w.heap d.stands m left first) (u : TextAt w.heap d.stands m right second)
        (left_home right_home : Place) (at_left : IsAt c.base v left_home left) (at_right : IsAt c.base v right_home right) (to : ℕ) (there : List WordInstr)
        (stands : is_same first second ≡ true → from_label to c.proc.lines ≡ Some there)
      where
        abbrev chosen : Bool → List WordInstr
        chosen b = if b then there else lines

        pub record Chosen : Type 0 where
          pub vars : Vars
          pub same : AllSame v vars
          pub count : ℕ
          pub some : 0 < count
          pub few : count ≤ 33 + 10 * length first
          pub steps : Runs live procs count (at c m (same_text_code left_home right_home to lines) v g)
              (at (left_with c c.input FOURTH) m (chosen (is_same first second)) vars no_words)

        pub same_text_runs : Chosen
        same_text_runs =
            let test_line : List WordInstr = Branch test.Equal FOURTH FIFTH to ∷ lines in
            let x = came_back law live procs c from_first m sized orders_texts (always live procs c.input orders_texts (kept OrdersTexts))
            (order_use StandsFixed d w.heap m has sized left right first second t u) (may_order StandsFixed d w.heap m has sized left right first second t u)
            (Constant FIFTH 0 ∷ test_line) FOURTH v g (Where left_home ∷ Where right_home ∷ []) (omega arith)
            ((at_left.points, at_left.high), at_left.small, ((at_right.points, at_right.high), at_right.small, tt)) refl in
            let behind : Within = left_with c c.input FOURTH in
            let v1 : Vars = put x.vars FOURTH x.word in
            let v2 : Vars = put v1 FIFTH 0 in
            let is : x.word ≡ word (order first second)
            = sym (word_signed x.word x.gives.0) ∙ ap word (ordered StandsFixed d w.heap m has sized left right first second t u x.memory x.word x.gives) in
            let here : v2 FOURTH ≡ Some x.word
            = put_other v1 FIFTH 0 FOURTH (λ e. absurd (omega (arith, e))) ∙ put_here x.vars FOURTH x.word x.gives.0 in
            let equal : (x.word == 0) ≡ is_same first second = ap (λ n. n == 0) is ∙ same_is first second in
            let few = x.few in
            let long = ap length t.bytes in
            record {
              vars = v2;
              same = same_more v x.vars v2 x.same (same_more x.vars v1 v2 (put_fourth x.vars x.word) (put_fifth v1 0));
              count = x.lines + (1 + 1);
              some = omega arith;
              few = omega (arith, few, long);
              steps = subst (λ o. Runs live procs (x.lines + (1 + 1)) (at c m (same_text_code left_home right_home to lines) v g)
                  (at behind o (chosen (is_same first second)) v2 no_words)) x.leaves
                  (then_runs live procs x.steps (then_runs live procs (run_constant live procs behind x.memory test_line v1 no_words FIFTH 0)
                  (branch x.memory x.word v2 here (put_here v1 FIFTH 0 (omega arith)) (is_same first second) equal stands)));
            }
          where
            branch : (o : Memory) (word : ℕ) (v2 : Vars) → v2 FOURTH ≡ Some word → v2 FIFTH ≡ Some 0 → (b : Bool) → (word == 0) ≡ b
                → (b ≡ true → from_label to c.proc.lines ≡ Some there) →
                Runs live procs 1 (at (left_with c c.input FOURTH) o (Branch test.Equal FOURTH FIFTH to ∷ lines) v2 no_words)
                (at (left_with c c.input FOURTH) o (chosen b) v2 no_words)
            branch o word v2 e f true is leads =
                run_off live procs (left_with c c.input FOURTH) o lines v2 no_words test.Equal FOURTH FIFTH to there e f is (leads refl)
            branch o word v2 e f false is leads = run_past live procs (left_with c c.input FOURTH) o lines v2 no_words test.Equal FOURTH FIFTH to e f is

    -- ---- one is written

    module _ (from : ℕ) (text : List ℕ) (t : TextAt w.heap d.stands m from text) (home : Place) (at_home : IsAt c.base v home from) where
      pub record Told : Type 0 where
        pub vars : Vars
        pub same : AllSame v vars
        pub count : ℕ
        pub few : count ≤ 19
        pub steps : AlwaysSteps (step live procs) count (at c m (echo_code home lines) v g) (writes Out text) count
            (at (left_with c c.input FIRST) m lines vars no_words)

      pub text_told : Told
      text_told =
          let x = came_back law live procs c from_first m sized writes_text (always live procs c.input writes_text (kept WritesText))
          (write_use StandsFixed d w.heap m has sized from text t)
          (may_write StandsFixed d w.heap m has sized from text t) lines FIRST v g (Where home ∷ []) (omega arith)
          ((at_home.points, at_home.high), at_home.small, tt) refl in
          let few = x.few in
          record {
            vars = put x.vars FIRST x.word;
            same = same_more v x.vars (put x.vars FIRST x.word) x.same (same_first x.vars x.word);
            count = x.lines;
            few = omega (arith, few);
            steps = subst (λ o. AlwaysSteps (step live procs) x.lines (at c m (echo_code home lines) v g) (writes Out text) x.lines
                (at (left_with c c.input FIRST) o lines (put x.vars FIRST x.word) no_words)) x.leaves
                (subst (λ bs. AlwaysSteps (step live procs) x.lines (at c m (echo_code home lines) v g) (writes Out bs) x.lines
                (at (left_with c c.input FIRST) x.memory lines (put x.vars FIRST x.word) no_words)) t.bytes x.steps);
          }
