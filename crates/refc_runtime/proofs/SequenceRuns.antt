-- What the routines on handles of sequences do.
use Rattle.std.proofs.Common.{◌≡◌, ℕ, suc, ◌+◌, ◌-◌, ◌*◌, ◌/◌, ◌%◌, ◌^◌, ◌<◌, ◌≤◌, inl, inr, List, [], ◌∷◌, Some, None, Bool, true, false}
use Rattle.std.proofs.Common.{refl, sym, ap, subst, ◌∙◌, arith, mul-le-mul_left, mul-le-mul_right, div-mul-le_self}
use Rattle.std.specs.Prelude.{nat_le, nat_lt, ◌==◌, ◌||◌}
use Rattle.std.proofs.lemmas.Bool.{cases_lt, le-leb, lt-ltb, ltb-true, leb-true, ne_eqb, cond-true, cond-false, false_from_ne_true}
use Rattle.rv32_isa.specs.declared.micro_op.Size.TheVariants.{Word}
use Rattle.rv32_isa.specs.Machine.{Lives}
use Rattle.rv32_isa.specs.Values.{quotient}
use Rattle.word_code.specs.declared.word.WordOperation.TheVariants as operation
use Rattle.word_code.specs.declared.word.Test.TheVariants as test
use Rattle.word_code.specs.declared.word.WordInstr.{WordInstr}
use Rattle.word_code.specs.declared.word.WordInstr.TheVariants.{Label, Constant, Copy, Sum, Compute, Store, Branch, Argument, Call, Return}
use Rattle.word_code.specs.declared.word.WordProc.{WordProc}
use Rattle.word_code.specs.Memory.{Memory, with_number, own_data_at}
use Rattle.word_code.specs.Words.{computed, holds, Vars, no_words, put, params_of, from_proc, from_label, WordState}
use Rattle.word_code.specs.Routines.{Routine, Comes, IsCalling, goes_on}
use Rattle.word_code.proofs.ForCallers.{MemoryLaw, Sized, sizes_same, Runs, then_runs, Within, at as state_at, run_label, run_constant, run_copy, run_sum}
use Rattle.word_code.proofs.ForCallers.{run_compute, run_store, run_argument, run_past, run_off, got, got_sum, store_rewritten, put_here}
use Rattle.heap_memory.specs.declared.numbers.TheConstants.{GROW, RESIZE}
use Rattle.heap_memory.specs.declared.numbers.TheConstants.{SEQ_ADD, SEQ_RESIZE, SEQ_NEW, SEQ_POP, HANDLE_LINES, SEQUENCE_LINES}
use Rattle.heap_memory.specs.HeapRoutines.{IsBesideHeap, IsKeptThere, fits}
use Rattle.heap_memory.specs.GrowRoutine.{may_grow, Growing, taking, place_of, holds_it, IsPresent, MayGrow, GrowLeaves, grows}
use Rattle.heap_memory.specs.AppendRoutine.{GrowthLeaves, resizes}
use Rattle.heap_memory.specs.HandleRoutines.{MayHave, puts}
use Rattle.heap_memory.specs.SequenceRoutines.{AddingElement, element_added, adds_element, ResizingSequence, most_payload, bytes_for, sequence_resized}
use Rattle.heap_memory.specs.SequenceRoutines.{resizes_sequence, puts_sequence, Popping, pops_element}
use Rattle.refc_runtime.specs.declared.routines.TheConstants.{ONE_LESS}
use Rattle.refc_runtime.specs.HandleCode.{put_handle_lines, put_last_lines, bytes_lines, sequence_to_lines, seq_resize_lines, seq_new_lines}
use Rattle.refc_runtime.specs.HandleCode.{seq_add_lines, seq_pop_lines}
use Rattle.refc_runtime.proofs.Calls.{later, inside, enters, returns_awaiting}
use Rattle.refc_runtime.proofs.Coming.{calling_state, comes_back}
use Rattle.heap_memory.proofs.ForCallers.{grown_filled}
use Rattle.refc_runtime.proofs.HandleMemory.{run_handle}
use Rattle.refc_runtime.proofs.HandleRuns.{at_once, present_small, puts_comes, gives_place}

-- what a growth leaves
grow_left : (at : ℕ) (h f : Bool) (m other : Memory) → GrowLeaves h f at m other → GrowthLeaves (h || f) at m other
grow_left at true f m other same = subst (λ y. IsBesideHeap at m y) (sym same) (record { sizes = sizes_same m; beside = λ x i words heap. refl })
grow_left at false true m other is = is
grow_left at false false m other same = same

-- ---- one more element

module _ (law : MemoryLaw) (live : Lives) (procs : List WordProc) (n : ℕ) (grow_kept : IsKeptThere live procs (grows (own_data_at + n)))
    (u : AddingElement) (s : WordState) (to : ℕ) (rest : List WordInstr) (others : List WordProc)
    (stands : from_proc SEQ_ADD procs ≡ later n SEQ_ADD 2 8 seq_add_lines ∷ others) (calling : IsCalling SEQ_ADD (u.to ∷ u.size ∷ []) to rest s)
    (sized : Sized s.memory) (may : (adds_element (own_data_at + n)).may u s.memory)
  where
    abbrev ap_proc : WordProc
    ap_proc = later n SEQ_ADD 2 8 seq_add_lines

    abbrev ac : Within
    ac = inside s ap_proc to rest

    abbrev g : Growing
    g = u.growth

    abbrev last : List WordInstr
    last = Compute 3 operation.Add 3 6 ∷ Return 3 ∷ []

    abbrev a2 : List WordInstr
    a2 = Compute 7 operation.Add 6 1 ∷ Sum 2 4 1 ∷ Argument 0 5 ∷ Argument 1 6 ∷ Argument 2 7 ∷ Call 3 GROW ∷ put_handle_lines last

    abbrev a3 : List WordInstr
    a3 = Sum 2 4 1 ∷ Argument 0 5 ∷ Argument 1 6 ∷ Argument 2 7 ∷ Call 3 GROW ∷ put_handle_lines last

    abbrev a4 : List WordInstr
    a4 = Argument 0 5 ∷ Argument 1 6 ∷ Argument 2 7 ∷ Call 3 GROW ∷ put_handle_lines last

    abbrev a5 : List WordInstr
    a5 = Argument 1 6 ∷ Argument 2 7 ∷ Call 3 GROW ∷ put_handle_lines last

    abbrev a6 : List WordInstr
    a6 = Argument 2 7 ∷ Call 3 GROW ∷ put_handle_lines last

    abbrev a7 : List WordInstr
    a7 = Call 3 GROW ∷ put_handle_lines last

    smalls : (place_of g.present < 2 ^ 32) × (g.kept < 2 ^ 32)
    smalls = present_small (own_data_at + n) g s.memory sized may.growth

    abbrev v0 : Vars
    v0 = params_of ap_proc s.frame.given

    abbrev v1 : Vars
    v1 = put (put (put v0 4 u.count) 5 (u.to + 4)) 5 (place_of g.present)

    abbrev v2 : Vars
    v2 = put v1 6 (computed operation.Multiply u.count u.size)

    abbrev v3 : Vars
    v3 = put v2 7 (computed operation.Add g.kept u.size)

    abbrev v4 : Vars
    v4 = put v3 2 (u.count + 1)

    count_is : v1 4 ≡ Some u.count
    count_is = let f = may.few in got u.count (omega (arith, f))

    kept_is : v2 6 ≡ Some g.kept
    kept_is =
        let k = may.kept in
        let h = smalls.1 in
        let whole : u.count * u.size % 2 ^ 32 % 2 ^ 32 ≡ g.kept = omega (arith, k, h) in
        ap Some whole

    wanted_sum : g.kept + u.size ≡ g.wanted
    wanted_sum = let k = may.kept in let w = may.wanted in omega (arith, k, w)

    wanted_is : v3 7 ≡ Some g.wanted
    wanted_is =
        let w = wanted_sum in
        let h = may.growth.word in
        got_sum g.kept u.size (omega (arith, w, h)) ∙ ap Some w

    long_is : v4 2 ≡ Some (suc u.count)
    long_is =
        let f = may.few in
        let e : u.count + 1 ≡ suc u.count = omega arith in
        got (u.count + 1) (omega (arith, f)) ∙ ap Some e

    abbrev g1 : Vars
    g1 = put no_words 0 (place_of g.present)

    abbrev g2 : Vars
    g2 = put g1 1 g.kept

    abbrev g3 : Vars
    g3 = put g2 2 g.wanted

    to_grow : Runs live procs 10 (calling_state live procs s to rest (adds_element (own_data_at + n)) u calling.next) (state_at ac s.memory a7 v4 g3)
    to_grow =
        then_runs live procs (enters live procs s to rest n SEQ_ADD 2 8 seq_add_lines others stands) (then_runs live procs
        (run_handle live procs ac s.memory sized (Compute 6 operation.Multiply 4 1 ∷ a2) v0 no_words u.to u.count (place_of g.present) may.to 4 5 0
        calling.given.0 calling.given.0 refl) (then_runs live procs
        (run_compute live procs ac s.memory a2 v1 no_words 6 operation.Multiply 4 1 count_is calling.given.1.0) (then_runs live procs
        (run_compute live procs ac s.memory a3 v2 no_words 7 operation.Add 6 1 kept_is calling.given.1.0) (then_runs live procs
        (run_sum live procs ac s.memory a4 v3 no_words 2 4 1 count_is) (then_runs live procs
        (run_argument live procs ac s.memory a5 v4 no_words 0 5 (got (place_of g.present) smalls.0)) (then_runs live procs
        (run_argument live procs ac s.memory a6 v4 g1 1 6 kept_is) (run_argument live procs ac s.memory a7 v4 g2 2 7 wanted_is)))))))

    gives_new : (m : Memory) (place : ℕ) → place + g.wanted < 2 ^ 32
        → Runs live procs 2 (state_at (record ac { awaits = 3 }) m last (put (put v4 3 place) 4 (u.to + 4)) no_words)
        (goes_on s to (place + g.kept) rest m s.input)
    gives_new m place low =
        let w = wanted_sum in
        let v5 : Vars = put (put v4 3 place) 4 (u.to + 4) in
        then_runs live procs
        (run_compute live procs (record ac { awaits = 3 }) m (Return 3 ∷ []) v5 no_words 3 operation.Add 3 6 (got place (omega (arith, low))) kept_is)
        (returns_awaiting live procs s to rest 3 [] ap_proc refl m (put v5 3 (computed operation.Add place g.kept)) 3 (place + g.kept)
        (got_sum place g.kept (omega (arith, low, w))))

    pub seq_add_comes : Comes live procs (adds_element (own_data_at + n)) u s to rest ((adds_element (own_data_at + n)).ends u)
    seq_add_comes =
        puts_comes law live procs n SEQ_ADD AddingElement (λ x. x.to ∷ x.size ∷ []) (λ x m. (adds_element (own_data_at + n)).may x m) element_added
        (λ x place. place + x.growth.kept) (λ x. HANDLE_LINES + (grows (own_data_at + n)).lines x.growth) u s to rest calling.next s.memory 0
        (at_once (own_data_at + n) g s.memory sized may.growth.heap) ap_proc may.growth.unused may.growth.present (λ does. may.has) may.few
        (grows (own_data_at + n)) g v4 g3 calling.given.0 long_is 10
        ((grows (own_data_at + n)).lines g) 2
        (record {
          shown = refl;
          ended = refl;
          input = λ i. refl;
          left = λ other x. grow_left (own_data_at + n) (holds_it g.present g.wanted) (fits (taking g)) s.memory other x;
          filled = λ other w x y.
              grown_filled (own_data_at + n) g may.growth.unused may.growth.present s.memory may.growth.heap (holds_it g.present g.wanted) refl other w x y;
          few = omega arith;
        }) (omega arith) last gives_new to_grow
        (grow_kept g (state_at ac s.memory a7 v4 g3) 3 (put_handle_lines last)
        (record { next = refl; given = (got (place_of g.present) smalls.0, (got g.kept smalls.1, (got g.wanted may.growth.word, tt))) }) sized may.growth)

-- ---- the bytes of elements

module _ (live : Lives) (procs : List WordProc) (c : Within) (m : Memory) (k : List WordInstr) (v : Vars) (length size : ℕ) (e1 : v 1 ≡ Some length)
    (e2 : v 2 ≡ Some size) (some : 0 < size) (there : from_label 0 c.proc.lines ≡ Some (Label 0 ∷ k))
  where
    -- they come to 6, and no other variable but 5 changes
    pub record Counted : Type 0 where
      pub vars : Vars
      pub is : vars 6 ≡ Some (bytes_for length size)
      pub zero : vars 0 ≡ v 0
      pub one : vars 1 ≡ v 1
      pub two : vars 2 ≡ v 2
      pub three : vars 3 ≡ v 3
      pub four : vars 4 ≡ v 4
      pub count : ℕ
      pub few : count ≤ 6
      pub runs : Runs live procs count (state_at c m (bytes_lines k) v no_words) (state_at c m k vars no_words)

    abbrev most : ℕ
    most = most_payload / size

    abbrev w1 : Vars
    w1 = put v 6 16777208

    abbrev w2 : Vars
    w2 = put w1 5 (computed operation.DivideUnsigned 16777208 size)

    abbrev w3 : Vars
    w3 = put w2 6 16777209

    most_times : most * size ≤ most_payload
    most_times = div-mul-le_self most_payload size

    most_small : most ≤ most_payload
    most_small =
        let t = most_times in
        let u : most * 1 ≤ most * size = (let o : 1 ≤ size = omega (arith, some) in mul-le-mul_left most o) in
        omega (arith, t, u)

    quotient_is : quotient 16777208 size ≡ most
    quotient_is = cond-false (size == 0) (2 ^ 32 - 1) most (ne_eqb size 0 (λ e. absurd (omega (arith, e, some))))

    five_is : w3 5 ≡ Some most
    five_is =
        let h = most_small in
        ap (λ q. Some (q % 2 ^ 32)) quotient_is ∙ got most (omega (arith, h))

    abbrev m2 : List WordInstr
    m2 = Compute 5 operation.DivideUnsigned 6 2 ∷ Constant 6 16777209 ∷ Branch test.Below 5 1 0 ∷ Compute 6 operation.Multiply 1 2 ∷ Label 0 ∷ k

    abbrev m3 : List WordInstr
    m3 = Constant 6 16777209 ∷ Branch test.Below 5 1 0 ∷ Compute 6 operation.Multiply 1 2 ∷ Label 0 ∷ k

    abbrev m4 : List WordInstr
    m4 = Branch test.Below 5 1 0 ∷ Compute 6 operation.Multiply 1 2 ∷ Label 0 ∷ k

    to_branch : Runs live procs 3 (state_at c m (bytes_lines k) v no_words) (state_at c m m4 w3 no_words)
    to_branch =
        then_runs live procs (run_constant live procs c m m2 v no_words 6 16777208) (then_runs live procs
        (run_compute live procs c m m3 w1 no_words 5 operation.DivideUnsigned 6 2 refl e2) (run_constant live procs c m m4 w2 no_words 6 16777209))

    within : length ≤ most → Counted
    within less =
        let t = most_times in
        let u : length * size ≤ most * size = mul-le-mul_right size less in
        let small : length * size < 2 ^ 32 = omega (arith, t, u) in
        let past : holds test.Below most length ≡ false =
        false_from_ne_true (nat_lt most length) (λ e. absurd (let h = ltb-true most length e in omega (arith, h, less))) in
        record {
          vars = put w3 6 (computed operation.Multiply length size);
          is = got_product length size small ∙ ap Some (sym (cond-true (nat_le length most) (length * size) (suc most_payload) (le-leb length most less)));
          zero = refl;
          one = refl;
          two = refl;
          three = refl;
          four = refl;
          count = 6;
          few = omega arith;
          runs = then_runs live procs to_branch (then_runs live procs
              (run_past live procs c m (Compute 6 operation.Multiply 1 2 ∷ Label 0 ∷ k) w3 no_words test.Below 5 1 0 five_is e1 past) (then_runs live procs
              (run_compute live procs c m (Label 0 ∷ k) w3 no_words 6 operation.Multiply 1 2 e1 e2)
              (run_label live procs c m k (put w3 6 (computed operation.Multiply length size)) no_words 0)));
        }
      where
        got_product : (a b : ℕ) → a * b < 2 ^ 32 → Some (a * b % 2 ^ 32 % 2 ^ 32) ≡ Some (a * b)
        got_product a b low = let e : a * b % 2 ^ 32 % 2 ^ 32 ≡ a * b = omega (arith, low) in ap Some e

    beyond : most < length → Counted
    beyond more =
        let off : holds test.Below most length ≡ true = lt-ltb most length more in
        record {
          vars = w3;
          is = ap Some (sym (cond-false (nat_le length most) (length * size) (suc most_payload)
              (false_from_ne_true (nat_le length most) (λ e. absurd (let h = leb-true length most e in omega (arith, h, more))))));
          zero = refl;
          one = refl;
          two = refl;
          three = refl;
          four = refl;
          count = 5;
          few = omega arith;
          runs = then_runs live procs to_branch (then_runs live procs
              (run_off live procs c m (Compute 6 operation.Multiply 1 2 ∷ Label 0 ∷ k) w3 no_words test.Below 5 1 0 (Label 0 ∷ k) five_is e1 off there)
              (run_label live procs c m k w3 no_words 0));
        }

    pub counted : Counted
    counted = elim (cases_lt most length) [ inl more ↦ beyond more | inr less ↦ within less ]

-- ---- another length, and a new sequence

module _ (law : MemoryLaw) (live : Lives) (procs : List WordProc) (n : ℕ) (resize_kept : IsKeptThere live procs (resizes (own_data_at + n))) (number : ℕ)
    (may_call : ResizingSequence → Memory → Type 0) (u : ResizingSequence) (s : WordState) (to : ℕ) (rest : List WordInstr)
    (next : s.frame.left ≡ Call to number ∷ rest) (sized : Sized s.memory) (p : WordProc) (no_room : p.room ≡ 0)
    (has : may_grow u.growth ≡ true → MayHave s.memory u.to)
    (grow : MayGrow (own_data_at + n) u.growth s.memory) (some : 0 < u.size) (few : u.length < 2 ^ 32) (count : ℕ) (kept : u.growth.kept ≡ count * u.size)
    (wanted : u.growth.wanted ≡ bytes_for u.length u.size)
  where
    abbrev to_row : Routine
    to_row = puts (own_data_at + n) number ResizingSequence (λ x. x.to ∷ x.length ∷ x.size ∷ []) may_call sequence_resized (λ x place. place)
        (λ x. SEQUENCE_LINES + (resizes (own_data_at + n)).lines x.growth)

    abbrev tc : Within
    tc = inside s p to rest

    abbrev tg : Growing
    tg = u.growth

    abbrev t0 : List WordInstr
    t0 = Compute 3 operation.Multiply 3 2 ∷ Argument 0 4 ∷ Argument 1 3 ∷ Argument 2 6 ∷ Copy 2 1 ∷ Call 3 RESIZE ∷ put_last_lines

    abbrev t1 : List WordInstr
    t1 = Argument 0 4 ∷ Argument 1 3 ∷ Argument 2 6 ∷ Copy 2 1 ∷ Call 3 RESIZE ∷ put_last_lines

    abbrev t2 : List WordInstr
    t2 = Argument 1 3 ∷ Argument 2 6 ∷ Copy 2 1 ∷ Call 3 RESIZE ∷ put_last_lines

    abbrev t3 : List WordInstr
    t3 = Argument 2 6 ∷ Copy 2 1 ∷ Call 3 RESIZE ∷ put_last_lines

    abbrev t4 : List WordInstr
    t4 = Copy 2 1 ∷ Call 3 RESIZE ∷ put_last_lines

    abbrev t5 : List WordInstr
    t5 = Call 3 RESIZE ∷ put_last_lines

    t_smalls : (place_of tg.present < 2 ^ 32) × (tg.kept < 2 ^ 32)
    t_smalls = present_small (own_data_at + n) tg s.memory sized grow

    module _ (l : ℕ) (l_few : l ≤ 4) (v : Vars) (v0 : v 0 ≡ Some u.to) (v1 : v 1 ≡ Some u.length) (v2 : v 2 ≡ Some u.size) (v3 : v 3 ≡ Some count)
        (v4 : v 4 ≡ Some (place_of tg.present)) (there : from_label 0 p.lines ≡ Some (Label 0 ∷ t0))
        (to_lines : Runs live procs l (calling_state live procs s to rest to_row u next) (state_at tc s.memory sequence_to_lines v no_words))
      where
        x : Counted live procs tc s.memory t0 v u.length u.size v1 v2 some there
        x = counted live procs tc s.memory t0 v u.length u.size v1 v2 some there

        abbrev z1 : Vars
        z1 = put x.vars 3 (computed operation.Multiply count u.size)

        abbrev z2 : Vars
        z2 = put z1 2 u.length

        z_kept : z1 3 ≡ Some tg.kept
        z_kept =
            let h = t_smalls.1 in
            let whole : count * u.size % 2 ^ 32 % 2 ^ 32 ≡ tg.kept = omega (arith, kept, h) in
            ap Some whole

        abbrev q1 : Vars
        q1 = put no_words 0 (place_of tg.present)

        abbrev q2 : Vars
        q2 = put q1 1 tg.kept

        abbrev q3 : Vars
        q3 = put q2 2 tg.wanted

        to_resize : Runs live procs (l + (x.count + 5)) (calling_state live procs s to rest to_row u next) (state_at tc s.memory t5 z2 q3)
        to_resize =
            then_runs live procs to_lines (then_runs live procs x.runs (then_runs live procs
            (run_compute live procs tc s.memory t1 x.vars no_words 3 operation.Multiply 3 2 (x.three ∙ v3) (x.two ∙ v2)) (then_runs live procs
            (run_argument live procs tc s.memory t2 z1 no_words 0 4 (x.four ∙ v4)) (then_runs live procs
            (run_argument live procs tc s.memory t3 z1 q1 1 3 z_kept) (then_runs live procs
            (run_argument live procs tc s.memory t4 z1 q2 2 6 (x.is ∙ ap Some (sym wanted)))
            (run_copy live procs tc s.memory t5 z1 q3 2 1 (x.one ∙ v1)))))))

        pub sequence_comes : Comes live procs to_row u s to rest (to_row.ends u)
        sequence_comes =
            let c_few = x.few in
            puts_comes law live procs n number ResizingSequence (λ y. y.to ∷ y.length ∷ y.size ∷ []) may_call sequence_resized (λ y place. place)
            (λ y. SEQUENCE_LINES + (resizes (own_data_at + n)).lines y.growth) u s to rest next s.memory 0
            (at_once (own_data_at + n) tg s.memory sized grow.heap) p grow.unused grow.present has few
            (resizes (own_data_at + n)) tg z2 q3 (x.zero ∙ v0) (got u.length few) (l + (x.count + 5)) ((resizes (own_data_at + n)).lines tg) 1
            (record { shown = refl; ended = refl; input = λ i. refl; left = λ other y. y; filled = λ other w y z. z; few = omega arith })
            (omega (arith, l_few, c_few)) (Return 3 ∷ [])
            (λ m place low. gives_place live procs s to rest p no_room z2 (u.to + 4) tg.wanted m place low) to_resize
            (resize_kept tg (state_at tc s.memory t5 z2 q3) 3 put_last_lines
            (record {
              next = refl;
              given = (got (place_of tg.present) t_smalls.0, (got tg.kept t_smalls.1, (got tg.wanted grow.word, tt)));
            }) sized grow)

module _ (law : MemoryLaw) (live : Lives) (procs : List WordProc) (n : ℕ) (resize_kept : IsKeptThere live procs (resizes (own_data_at + n)))
    (u : ResizingSequence) (s : WordState) (to : ℕ) (rest : List WordInstr) (others : List WordProc)
  where
    pub seq_resize_comes : from_proc SEQ_RESIZE procs ≡ later n SEQ_RESIZE 3 7 seq_resize_lines ∷ others
        → IsCalling SEQ_RESIZE (u.to ∷ u.length ∷ u.size ∷ []) to rest s → Sized s.memory → (resizes_sequence (own_data_at + n)).may u s.memory
        → Comes live procs (resizes_sequence (own_data_at + n)) u s to rest ((resizes_sequence (own_data_at + n)).ends u)
    seq_resize_comes stands calling sized may =
        let p : WordProc = later n SEQ_RESIZE 3 7 seq_resize_lines in
        let c : Within = inside s p to rest in
        let x0 : Vars = params_of p s.frame.given in
        let place : ℕ = place_of u.growth.present in
        let x1 : Vars = put (put (put x0 3 u.count) 4 (u.to + 4)) 4 place in
        let smalls = present_small (own_data_at + n) u.growth s.memory sized may.growth in
        let kept = may.kept in
        let most = smalls.1 in
        let some : 1 ≤ u.size = (let h = may.some in omega (arith, h)) in
        let less : u.count * 1 ≤ u.count * u.size = mul-le-mul_left u.count some in
        let count_small : u.count < 2 ^ 32 = omega (arith, kept, most, less) in
        sequence_comes law live procs n resize_kept SEQ_RESIZE (λ y m. (resizes_sequence (own_data_at + n)).may y m) u s to rest calling.next sized p refl
        (λ does. may.has) may.growth may.some may.few u.count may.kept may.wanted 4 (omega arith) x1 calling.given.0 calling.given.1.0 calling.given.1.1.0
        (got u.count count_small) (got place smalls.0) refl
        (then_runs live procs (enters live procs s to rest n SEQ_RESIZE 3 7 seq_resize_lines others stands)
        (run_handle live procs c s.memory sized sequence_to_lines x0 no_words u.to u.count place may.to 3 4 0 calling.given.0 calling.given.0 refl))

    pub seq_new_comes : from_proc SEQ_NEW procs ≡ later n SEQ_NEW 3 7 seq_new_lines ∷ others
        → IsCalling SEQ_NEW (u.to ∷ u.length ∷ u.size ∷ []) to rest s → Sized s.memory → (puts_sequence (own_data_at + n)).may u s.memory
        → Comes live procs (puts_sequence (own_data_at + n)) u s to rest ((puts_sequence (own_data_at + n)).ends u)
    seq_new_comes stands calling sized may =
        let p : WordProc = later n SEQ_NEW 3 7 seq_new_lines in
        let c : Within = inside s p to rest in
        let x0 : Vars = params_of p s.frame.given in
        let x1 : Vars = put x0 3 0 in
        let x2 : Vars = put x1 4 0 in
        let none_kept : u.growth.kept ≡ 0 = subst (λ o. IsPresent u.growth.stands u.growth.kept o) may.none may.growth.present in
        let zero_kept : u.growth.kept ≡ 0 * u.size = omega (arith, none_kept) in
        sequence_comes law live procs n resize_kept SEQ_NEW (λ y m. (puts_sequence (own_data_at + n)).may y m) u s to rest calling.next sized p refl
        may.has may.growth may.some may.few 0 zero_kept may.wanted 3 (omega arith) x2 calling.given.0 calling.given.1.0 calling.given.1.1.0
        refl (ap (λ o. Some (place_of o)) (sym may.none)) refl
        (then_runs live procs (enters live procs s to rest n SEQ_NEW 3 7 seq_new_lines others stands) (then_runs live procs
        (run_constant live procs c s.memory (Constant 4 0 ∷ sequence_to_lines) x0 no_words 3 0)
        (run_constant live procs c s.memory sequence_to_lines x1 no_words 4 0)))

-- ---- the last element goes

module _ (law : MemoryLaw) (live : Lives) (procs : List WordProc) (n : ℕ) (u : Popping) (s : WordState) (to : ℕ) (rest : List WordInstr)
    (others : List WordProc) (stands : from_proc SEQ_POP procs ≡ later n SEQ_POP 2 6 seq_pop_lines ∷ others)
    (calling : IsCalling SEQ_POP (u.at ∷ u.size ∷ []) to rest s) (sized : Sized s.memory) (may : pops_element.may u s.memory)
  where
    abbrev pop_proc : WordProc
    pop_proc = later n SEQ_POP 2 6 seq_pop_lines

    abbrev oc : Within
    oc = inside s pop_proc to rest

    abbrev o0 : Vars
    o0 = params_of pop_proc s.frame.given

    abbrev o1 : Vars
    o1 = put (put (put o0 4 (suc u.count)) 5 (u.at + 4)) 5 u.place

    abbrev o2 : Vars
    o2 = put o1 4 (suc u.count + ONE_LESS)

    abbrev o3 : Vars
    o3 = put o2 4 (computed operation.Multiply u.count u.size)

    abbrev o4 : Vars
    o4 = put o3 5 (computed operation.Add u.place (u.count * u.size))

    abbrev j1 : List WordInstr
    j1 = Store 0 4 Word ∷ Compute 4 operation.Multiply 4 1 ∷ Compute 5 operation.Add 5 4 ∷ Return 5 ∷ []

    abbrev j2 : List WordInstr
    j2 = Compute 4 operation.Multiply 4 1 ∷ Compute 5 operation.Add 5 4 ∷ Return 5 ∷ []

    abbrev j3 : List WordInstr
    j3 = Compute 5 operation.Add 5 4 ∷ Return 5 ∷ []

    abbrev popped : Memory
    popped = with_number s.memory u.at Word u.count

    end_low : u.place + u.count * u.size < 2 ^ 32
    end_low = let e = may.ends in omega (arith, e)

    present_long : o1 4 ≡ Some (suc u.count)
    present_long = let f = may.few in got (suc u.count) (omega (arith, f))

    left_is : o2 4 ≡ Some u.count
    left_is =
        let f = may.few in
        let e : (suc u.count + ONE_LESS) % 2 ^ 32 ≡ u.count = omega (arith, f) in
        ap Some e

    place_is : o3 5 ≡ Some u.place
    place_is = let e = end_low in got u.place (omega (arith, e))

    before_is : o3 4 ≡ Some (u.count * u.size)
    before_is =
        let e = end_low in
        let whole : u.count * u.size % 2 ^ 32 % 2 ^ 32 ≡ u.count * u.size = omega (arith, e) in
        ap Some whole

    at_is : o4 5 ≡ Some (u.place + u.count * u.size)
    at_is = got_sum u.place (u.count * u.size) end_low

    all_lines : Runs live procs 9 (calling_state live procs s to rest pops_element u calling.next)
        (goes_on s to (u.place + u.count * u.size) rest popped s.input)
    all_lines =
        then_runs live procs (enters live procs s to rest n SEQ_POP 2 6 seq_pop_lines others stands) (then_runs live procs
        (run_handle live procs oc s.memory sized (Sum 4 4 ONE_LESS ∷ j1) o0 no_words u.at (suc u.count) u.place may.handle 4 5 0 calling.given.0
        calling.given.0 refl) (then_runs live procs
        (run_sum live procs oc s.memory j1 o1 no_words 4 4 ONE_LESS present_long) (then_runs live procs
        (run_store live procs oc s.memory j2 o2 no_words 0 4 Word calling.given.0 left_is may.has) (then_runs live procs
        (run_compute live procs oc popped j3 o2 no_words 4 operation.Multiply 4 1 left_is calling.given.1.0) (then_runs live procs
        (run_compute live procs oc popped (Return 5 ∷ []) o3 no_words 5 operation.Add 5 4 place_is before_is)
        (returns_awaiting live procs s to rest 0 [] pop_proc refl popped o4 5 (u.place + u.count * u.size) at_is))))))

    pub seq_pop_comes : Comes live procs pops_element u s to rest None
    seq_pop_comes =
        let f = may.few in
        comes_back live procs s to rest pops_element u calling.next refl refl (u.place + u.count * u.size) popped
        (record {
          rewritten = store_rewritten law s.memory u.at Word u.count sized may.has;
          long = put_here law s.memory u.at u.count sized may.has (omega (arith, f));
        }) refl 9 (omega arith) all_lines
