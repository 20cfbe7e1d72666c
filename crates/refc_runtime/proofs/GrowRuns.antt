-- What the routine does by which texts and sequences grow.
use Rattle.std.proofs.Common.{◌≡◌, ◌≢◌, ℕ, ◌+◌, ◌*◌, ◌^◌, ◌<◌, ◌≤◌, inl, inr, List, [], ◌∷◌, length, take, Option, Some, None}
use Rattle.std.proofs.Common.{Bool, true, false, refl, sym, ap, subst, ◌∙◌, ⊎_elim, arith}
use Rattle.std.specs.Prelude.{◌||◌, ◌==◌, if◌then◌else◌}
use Rattle.std.proofs.lemmas.Bool.{leb-true, leb-false, le-leb, lt-leb, ne_eqb, cases_Bool, cases_eq}
use Rattle.std.proofs.lemmas.Option.{none-some}
use Rattle.arc_base.specs.Event.{Event, writes}
use Rattle.arc_base.specs.declared.outside.Stream.TheVariants.{Err}
use Rattle.nim_program.specs.Traps.{OutOfMemory}
use Rattle.nim_meaning.specs.Heap.{Class, one_more, at_class}
use Rattle.rv32_isa.specs.Machine.{Lives}
use Rattle.word_code.specs.declared.word.Test.TheVariants as test
use Rattle.word_code.specs.declared.word.WordInstr.{WordInstr}
use Rattle.word_code.specs.declared.word.WordInstr.TheVariants.{Label, Argument, Call, Return}
use Rattle.word_code.specs.declared.word.WordProc.{WordProc}
use Rattle.word_code.specs.Memory.{Memory, as_state, own_data_at}
use Rattle.word_code.specs.Words.{holds, Vars, no_words, put, params_of, from_proc, WordState, step}
use Rattle.word_code.specs.RoutineTable.{trap_line}
use Rattle.word_code.specs.Routines.{Routine, ComesBack, EndsProgram, Comes, IsCalling, goes_on}
use Rattle.word_code.proofs.ForCallers.{MemoryLaw, Sized, sizes_same, AlwaysSteps, AlwaysStops, stops_on, Runs, then_runs, Within, at as state_at, run_label}
use Rattle.word_code.proofs.ForCallers.{run_argument, run_past, run_off, got}
use Rattle.heap_memory.specs.declared.numbers.TheConstants.{TAKE, GIVE, CLASS, CONTENTS_KIND, TAKE_LINES, NEXT_LINES, GIVE_LINES}
use Rattle.heap_memory.specs.declared.numbers.TheConstants.{CLASS_LINES, FURTHER_LINES}
use Rattle.heap_memory.specs.declared.numbers.TheConstants.{MOVE, GROW, GROW_LINES, KEPT_LINES, MOVE_START, MOVE_BYTE}
use Rattle.heap_memory.specs.HeapState.{Standing, Stands, with_block, IsHeap}
use Rattle.heap_memory.specs.HeapUse.{IsThere}
use Rattle.heap_memory.specs.HeapRoutines.{class_word, class_of, fits, has_free, IsTaken, Leaves, IsBesideHeap, takes, gives_back, finds_class, IsKeptThere}
use Rattle.heap_memory.specs.TextRoutines.{AreBytes, moves_bytes}
use Rattle.heap_memory.specs.GrowRoutine.{classes_then, stands_then, kept_of, Owned, Growing, taking, place_of, holds_it, may_grow, IsPresent, MayGrow}
use Rattle.heap_memory.specs.GrowRoutine.{IsGrown, GrowLeaves, GrowGives, grow_work, grows}
use Rattle.refc_runtime.specs.TextCode.{grown_lines, larger_lines, grow_lines}
use Rattle.heap_memory.proofs.ForCallers.{if_same, if_other}
use Rattle.refc_runtime.proofs.Calls.{later, within, inside, enters, from_call, stops_call, returns_awaiting}
use Rattle.heap_memory.proofs.ForCallers.{is_there}
use Rattle.refc_runtime.proofs.GrowHead.{grow_proc, Small, small_none, small_some, stays, stays_none}
use Rattle.heap_memory.proofs.ForCallers.{class_few, class_holds, same_stands}
use Rattle.refc_runtime.proofs.GrowFacts.{beside_more, copying, kept_long, may_copy, new_payload, new_long, heap_then}
use Rattle.refc_runtime.proofs.GrowFacts.{new_front, rest_then}

-- ---- calls of a routine that come back

module _ (live : Lives) (procs : List WordProc) where
  -- it awaits another variable's word then
  abbrev pub then_awaits : Within → ℕ → Within
  then_awaits c to = record c { awaits = to }

  pub call_runs : (r : Routine) (u : r.Use) (c : Within) (m : Memory) (v g : Vars) (to : ℕ) (k : List WordInstr) → r.shows u ≡ []
      → r.reads u c.input ≡ c.input
      → (x : ComesBack live procs r u (state_at c m (Call to r.number ∷ k) v g) to k)
      → Runs live procs x.lines (state_at c m (Call to r.number ∷ k) v g) (state_at (then_awaits c to) x.memory k (put v to x.word) no_words)
  call_runs r u c m v g to k silent same x =
      let s : WordState = state_at c m (Call to r.number ∷ k) v g in
      let y : AlwaysSteps (step live procs) x.lines s (r.shows u) x.lines (goes_on s to x.word k x.memory (r.reads u c.input)) = record { by = x.steps } in
      subst (λ i. AlwaysSteps (step live procs) x.lines s [] x.lines (goes_on s to x.word k x.memory i)) same
      (subst (λ es. AlwaysSteps (step live procs) x.lines s es x.lines (goes_on s to x.word k x.memory (r.reads u c.input))) silent y)

module _ (law : MemoryLaw) (live : Lives) (procs : List WordProc) (n : ℕ) (take_kept : IsKeptThere live procs (takes (own_data_at + n)))
    (give_kept : IsKeptThere live procs (gives_back (own_data_at + n))) (class_kept : IsKeptThere live procs finds_class)
    (move_kept : IsKeptThere live procs moves_bytes) (s : WordState) (to : ℕ) (rest : List WordInstr) where
  abbrev own : ℕ
  own = own_data_at + n

  abbrev new_proc : WordProc
  new_proc = grow_proc law live procs n s to rest

  abbrev cw : ℕ → Within
  cw awaits = record (inside s new_proc to rest) { awaits = awaits }

  sized_on : (m other : Memory) → Sized m → IsBesideHeap own m other → Sized other
  sized_on m other sized x = law.regions (as_state m) (as_state other) sized x.sizes

  -- ---- behind the take

  -- what is left to do from some lines on, with the new block
  record Grown (u : Growing) (m : Memory) (place : ℕ) (lines : List WordInstr) (awaits most : ℕ) (v : Vars) : Type 0 where
    other : Memory
    count : ℕ
    few : count ≤ most
    rest_same : IsBesideHeap own m other
    is : IsGrown own u other place
    runs : Runs live procs count (state_at (cw awaits) m lines v no_words) (goes_on s to place rest other s.input)

  module _ (u : Growing) (m : Memory) (sized : Sized m) (place : ℕ) (v : Vars) (x : IsTaken own (taking u) m place) (unused : u.stands u.identity ≡ None)
      (e0 : v 0 ≡ Some (place_of u.present)) (e1 : v 1 ≡ Some u.kept) (e3 : v 3 ≡ Some 0) (e4 : v 4 ≡ Some place) where
    abbrev new_one : Standing
    new_one = record { place = place; class = class_of u.wanted; kind = CONTENTS_KIND; word = 0; payload = x.payload }

    new_there : IsThere m new_one
    new_there =
        is_there own (at_class one_more (class_of u.wanted) u.classes) (with_block u.stands u.identity new_one) m x.heap u.identity new_one
        (if_same u.identity u.identity (Some new_one) (u.stands u.identity) refl) sized

    long_enough : u.wanted ≤ length x.payload
    long_enough = let w = new_there.whole in let h = class_holds u.wanted new_there.sized in omega (arith, w, h)

    place_small : place < 2 ^ 32
    place_small = let h = new_there.high in let most = sized.heap_most in omega (arith, h, most)

    abbrev behind : List WordInstr
    behind = Argument 0 4 ∷ Argument 1 0 ∷ Argument 2 1 ∷ Call 5 MOVE ∷ Argument 0 0 ∷ Call 5 GIVE ∷ Label 1 ∷ Return 4 ∷ []

    abbrev last : List WordInstr
    last = Label 1 ∷ Return 4 ∷ []

    ends : (awaits : ℕ) (other : Memory) (w : Vars) → w 4 ≡ Some place → Runs live procs 2 (state_at (cw awaits) other last w no_words)
        (goes_on s to place rest other s.input)
    ends awaits other w e =
        then_runs live procs (run_label live procs (cw awaits) other (Return 4 ∷ []) w no_words 1)
        (returns_awaiting live procs s to rest awaits [] new_proc refl other w 4 place e)

    -- nothing was there
    from_none : u.present ≡ None → u.kept ≡ 0 → Grown u m place grown_lines 4 (36 + 7 * u.kept) v
    from_none none zero_kept =
        let zero_is : v 0 ≡ Some 0 = e0 ∙ ap (λ p. Some (place_of p)) none in
        record {
          other = m;
          count = 3;
          few = omega arith;
          rest_same = record { sizes = sizes_same m; beside = λ b k words heap. refl };
          is = record {
            payload = x.payload;
            front = ap (λ k. take k x.payload) zero_kept ∙ ap (λ p. kept_of p u.kept) (sym none);
            long = long_enough;
            heap = subst (λ p. IsHeap own (classes_then p (at_class one_more (class_of u.wanted) u.classes))
                (stands_then p (with_block u.stands u.identity new_one)) m) (sym none) x.heap;
          };
          runs = then_runs live procs (run_off live procs (cw 4) m behind v no_words test.Equal 0 3 1 last zero_is e3 refl refl) (ends 4 m v e4);
        }

    -- a block was there
    module _ (o : Owned) (some : u.present ≡ Some o) (stood : u.stands o.identity ≡ Some o.block) (kind : o.block.kind ≡ CONTENTS_KIND)
        (word : o.block.word ≡ 0) (few : u.kept ≤ length o.block.payload) (are : AreBytes (take u.kept o.block.payload))
        (less : length o.block.payload < u.wanted)
      where
        abbrev classes1 : List Class
        classes1 = at_class one_more (class_of u.wanted) u.classes

        abbrev stands1 : Stands
        stands1 = with_block u.stands u.identity new_one

        differ : o.identity ≢ u.identity
        differ e = absurd (none-some o.block (sym unused ∙ ap u.stands (sym e) ∙ stood))

        old_stands : stands1 o.identity ≡ Some o.block
        old_stands = if_other o.identity u.identity (Some new_one) (u.stands o.identity) differ ∙ stood

        new_stands : stands1 u.identity ≡ Some new_one
        new_stands = if_same u.identity u.identity (Some new_one) (u.stands u.identity) refl

        fewer : u.kept ≤ length x.payload
        fewer = let l = long_enough in omega (arith, few, less, l)

        old_there : IsThere m o.block
        old_there = is_there own classes1 stands1 m x.heap o.identity o.block old_stands sized

        old_small : o.block.place < 2 ^ 32
        old_small = let h = old_there.high in let most = sized.heap_most in omega (arith, h, most)

        kept_small : u.kept < 2 ^ 32
        kept_small = let h = old_there.high in let most = sized.heap_most in omega (arith, h, most, few)

        zero_is : v 0 ≡ Some o.block.place
        zero_is = e0 ∙ ap (λ p. Some (place_of p)) some

        not_none : holds test.Equal o.block.place 0 ≡ false
        not_none = let l = old_there.low in ne_eqb o.block.place 0 (λ e. absurd (omega (arith, e, l)))

        abbrev k2 : List WordInstr
        k2 = Argument 1 0 ∷ Argument 2 1 ∷ Call 5 MOVE ∷ Argument 0 0 ∷ Call 5 GIVE ∷ last

        abbrev k3 : List WordInstr
        k3 = Argument 2 1 ∷ Call 5 MOVE ∷ Argument 0 0 ∷ Call 5 GIVE ∷ last

        abbrev k4 : List WordInstr
        k4 = Call 5 MOVE ∷ Argument 0 0 ∷ Call 5 GIVE ∷ last

        abbrev k5 : List WordInstr
        k5 = Argument 0 0 ∷ Call 5 GIVE ∷ last

        abbrev k6 : List WordInstr
        k6 = Call 5 GIVE ∷ last

        abbrev g3 : Vars
        g3 = put (put (put no_words 0 place) 1 o.block.place) 2 u.kept

        to_move : Runs live procs 4 (state_at (cw 4) m grown_lines v no_words) (state_at (cw 4) m k4 v g3)
        to_move =
            then_runs live procs (run_past live procs (cw 4) m behind v no_words test.Equal 0 3 1 zero_is e3 not_none)
            (then_runs live procs (run_argument live procs (cw 4) m k2 v no_words 0 4 e4)
            (then_runs live procs (run_argument live procs (cw 4) m k3 v (put no_words 0 place) 1 0 zero_is)
            (run_argument live procs (cw 4) m k4 v (put (put no_words 0 place) 1 o.block.place) 2 1 e1)))

        move_calling : IsCalling MOVE (place ∷ o.block.place ∷ length (take u.kept o.block.payload) ∷ []) 5 k5 (state_at (cw 4) m k4 v g3)
        move_calling = record {
          next = refl;
          given = (
            got place place_small,
            (
              got o.block.place old_small,
              (
                got u.kept kept_small
                    ∙ ap Some (sym (kept_long own classes1 stands1 m x.heap sized o.identity u.identity o.block new_one old_stands new_stands differ u.kept few
                    fewer are)),
                tt,
              ),
            ),
          );
        }

        moved : ComesBack live procs moves_bytes
            (copying own classes1 stands1 m x.heap sized o.identity u.identity o.block new_one old_stands new_stands differ u.kept few fewer are)
            (state_at (cw 4) m k4 v g3) 5 k5
        moved =
            move_kept (copying own classes1 stands1 m x.heap sized o.identity u.identity o.block new_one old_stands new_stands differ u.kept few fewer are)
            (state_at (cw 4) m k4 v g3) 5 k5 move_calling sized
            (may_copy own classes1 stands1 m x.heap sized o.identity u.identity o.block new_one old_stands new_stands differ u.kept few fewer are)

        abbrev m1 : Memory
        m1 = moved.memory

        sized1 : Sized m1
        sized1 = law.regions (as_state m) (as_state m1) sized moved.leaves.rewritten.sizes

        abbrev w1 : Vars
        w1 = put v 5 moved.word

        abbrev payload1 : List ℕ
        payload1 =
            new_payload own classes1 stands1 m x.heap sized o.identity u.identity o.block new_one old_stands new_stands differ u.kept few fewer are m1
            moved.leaves sized1

        abbrev grown_one : Standing
        grown_one = record { place = place; class = class_of u.wanted; kind = CONTENTS_KIND; word = 0; payload = payload1 }

        abbrev stands2 : Stands
        stands2 = with_block u.stands u.identity grown_one

        heap1 : IsHeap own classes1 stands2 m1
        heap1 =
            same_stands own classes1 (with_block stands1 u.identity grown_one) stands2 m1 once
            (heap_then own classes1 stands1 m x.heap sized o.identity u.identity o.block new_one old_stands new_stands differ u.kept few fewer are m1
            moved.leaves
            sized1)
          where
            once : (j : ℕ) → stands2 j ≡ with_block stands1 u.identity grown_one j
            once j = by (j == u.identity)
              where
                by : (b : Bool) → ◌≡◌ {A = Option Standing} (if b then Some grown_one else u.stands j)
                    (if b then Some grown_one else (if b then Some new_one else u.stands j))
                by true = refl
                by false = refl

        old_then : stands2 o.identity ≡ Some o.block
        old_then = if_other o.identity u.identity (Some grown_one) (u.stands o.identity) differ ∙ stood

        abbrev g1 : Vars
        g1 = put no_words 0 o.block.place

        given : ComesBack live procs (gives_back own) (record { identity = o.identity; block = o.block; classes = classes1; stands = stands2 })
            (state_at (cw 5) m1 k6 w1 g1) 5 last
        given =
            give_kept (record { identity = o.identity; block = o.block; classes = classes1; stands = stands2 }) (state_at (cw 5) m1 k6 w1 g1) 5 last
            (record { next = refl; given = (got o.block.place old_small, tt) }) sized1
            (record { heap = heap1; there = old_then; kind = kind; word = word })

        from_some : Grown u m place grown_lines 4 (36 + 7 * u.kept) v
        from_some =
            let l = kept_long own classes1 stands1 m x.heap sized o.identity u.identity o.block new_one old_stands new_stands differ u.kept few fewer are in
            let few1 : moved.lines ≤ MOVE_START + MOVE_BYTE * length (take u.kept o.block.payload) = moved.few in
            let few2 : given.lines ≤ GIVE_LINES = given.few in
            let bytes : MOVE_BYTE * length (take u.kept o.block.payload) ≡ 7 * u.kept = ap (λ k. 7 * k) l in
            let called = call_runs live procs moves_bytes
            (copying own classes1 stands1 m x.heap sized o.identity u.identity o.block new_one old_stands new_stands differ u.kept few fewer are) (cw 4) m
            v g3 5 k5
            refl refl moved in
            let gave = call_runs live procs (gives_back own) (record { identity = o.identity; block = o.block; classes = classes1; stands = stands2 }) (cw 5) m1
            w1 g1 5 last
            refl refl given in
            let long = new_long own classes1 stands1 m x.heap sized o.identity u.identity o.block new_one old_stands new_stands differ u.kept few fewer are m1
            moved.leaves sized1 in
            let enough = long_enough in
            record {
              other = given.memory;
              count = 4 + (moved.lines + (1 + (given.lines + 2)));
              few = omega (arith, few1, few2, bytes);
              rest_same = beside_more own m m1 given.memory
                  (rest_then own classes1 stands1 m x.heap sized o.identity u.identity o.block new_one old_stands new_stands differ u.kept few fewer are m1
                  moved.leaves
                  sized1) given.leaves;
              is = record {
                payload = payload1;
                front = new_front own classes1 stands1 m x.heap sized o.identity u.identity o.block new_one old_stands new_stands differ u.kept few fewer are m1
                    moved.leaves sized1
                    ∙ ap (λ p. kept_of p u.kept) (sym some);
                long = omega (arith, long, enough);
                heap = subst (λ p. IsHeap own (classes_then p classes1) (stands_then p stands2) given.memory) (sym some) given.gives;
              };
              runs = then_runs live procs to_move (then_runs live procs called (then_runs live procs
                  (run_argument live procs (cw 5) m1 k6 w1 no_words 0 0 zero_is) (then_runs live procs gave
                  (ends 5 given.memory (put w1 5 given.word) e4))));
            }

  behind_take : (u : Growing) → u.stands u.identity ≡ None → (p : Option Owned) → u.present ≡ p → IsPresent u.stands u.kept p → holds_it p u.wanted ≡ false
      → (m : Memory) → Sized m → (place : ℕ) (v : Vars) → IsTaken own (taking u) m place → v 0 ≡ Some (place_of u.present) → v 1 ≡ Some u.kept
      → v 3 ≡ Some 0 → v 4 ≡ Some place → Grown u m place grown_lines 4 (36 + 7 * u.kept) v
  behind_take u unused None is zero_kept small m sized place v x e0 e1 e3 e4 = from_none u m sized place v x unused e0 e1 e3 e4 is zero_kept
  behind_take u unused (Some o) is present small m sized place v x e0 e1 e3 e4 =
      from_some u m sized place v x unused e0 e1 e3 e4 o is present.0 present.1 present.2 present.3 present.4
      (leb-false u.wanted (length o.block.payload) small)

  -- ---- a larger block is taken

  few_take : (b : Bool) → (if b then TAKE_LINES else NEXT_LINES) ≤ 23
  few_take true = omega arith
  few_take false = omega arith

  module _ (u : Growing) (m : Memory) (sized : Sized m) (may : MayGrow own u m) (v : Vars) (e0 : v 0 ≡ Some (place_of u.present)) (e1 : v 1 ≡ Some u.kept)
      (e2 : v 2 ≡ Some u.wanted) (e3 : v 3 ≡ Some 0) where
    abbrev class : ℕ
    class = class_of u.wanted

    abbrev l2 : List WordInstr
    l2 = Argument 0 2 ∷ Call 4 CLASS ∷ Argument 0 4 ∷ Call 4 TAKE ∷ grown_lines

    abbrev l3 : List WordInstr
    l3 = Call 4 CLASS ∷ Argument 0 4 ∷ Call 4 TAKE ∷ grown_lines

    abbrev l4 : List WordInstr
    l4 = Argument 0 4 ∷ Call 4 TAKE ∷ grown_lines

    abbrev l5 : List WordInstr
    l5 = Call 4 TAKE ∷ grown_lines

    abbrev v1 : Vars
    v1 = put v 4 (class_word class)

    word_small : class_word class < 2 ^ 32
    word_small = let f = class_few u.wanted in omega (arith, f)

    classed : ComesBack live procs finds_class u.wanted (state_at (cw 0) m l3 v (put no_words 0 u.wanted)) 4 l4
    classed = class_kept u.wanted (state_at (cw 0) m l3 v (put no_words 0 u.wanted)) 4 l4 (record { next = refl; given = (got u.wanted may.word, tt) }) sized
        may.word

    abbrev g : Vars
    g = put no_words 0 (class_word class)

    -- up to the take
    to_take : Runs live procs (2 + (classed.lines + 1)) (state_at (cw 0) m larger_lines v no_words) (state_at (cw 4) m l5 v1 g)
    to_take =
        let called = call_runs live procs finds_class u.wanted (cw 0) m v (put no_words 0 u.wanted) 4 l4 refl refl classed in
        let first : Runs live procs classed.lines (state_at (cw 0) m l3 v (put no_words 0 u.wanted)) (state_at (cw 4) m l4 v1 no_words)
        = subst (λ w. Runs live procs classed.lines (state_at (cw 0) m l3 v (put no_words 0 u.wanted)) (state_at (cw 4) m l4 (put v 4 w) no_words))
        classed.gives
        (subst (λ y. Runs live procs classed.lines (state_at (cw 0) m l3 v (put no_words 0 u.wanted)) (state_at (cw 4) y l4 (put v 4 classed.word) no_words))
        classed.leaves called) in
        then_runs live procs (then_runs live procs (run_label live procs (cw 0) m l2 v no_words 0) (run_argument live procs (cw 0) m l3 v no_words 0 2 e2))
        (then_runs live procs first (run_argument live procs (cw 4) m l5 v1 no_words 0 4 (got (class_word class) word_small)))

    takes_it : Comes live procs (takes own) (taking u) (state_at (cw 4) m l5 v1 g) 4 grown_lines (if fits (taking u) then None else Some 1)
    takes_it =
        take_kept (taking u) (state_at (cw 4) m l5 v1 g) 4 grown_lines (record { next = refl; given = (got (class_word class) word_small, tt) }) sized
        (record { heap = may.heap; all = may.all; known = class_few u.wanted; unused = may.unused })

    -- the heap is full
    record Full : Type 0 where
      count : ℕ
      few : count ≤ 26 + (CLASS_LINES + FURTHER_LINES * class)
      stops : AlwaysStops (step live procs) (state_at (cw 0) m larger_lines v no_words) (writes Err (trap_line OutOfMemory)) count 1 (live (as_state m))

    is_full : fits (taking u) ≡ false → Full
    is_full out =
        let ended : EndsProgram live procs (takes own) (taking u) (state_at (cw 4) m l5 v1 g) 1
        = subst (λ b. Comes live procs (takes own) (taking u) (state_at (cw 4) m l5 v1 g) 4 grown_lines (if b then None else Some 1)) out takes_it in
        let bound : ℕ = if has_free class u.classes then TAKE_LINES else NEXT_LINES in
        let few = few_take (has_free class u.classes) in
        let few1 = classed.few in
        let leaves : Leaves false own m ended.memory = subst (λ b. Leaves b own m ended.memory) out ended.leaves in
        let shown : AlwaysStops (step live procs) (state_at (cw 4) m l5 v1 g) (if fits (taking u) then [] else writes Err (trap_line OutOfMemory)) bound 1
        (live (as_state ended.memory)) = ended.stops in
        let last : AlwaysStops (step live procs) (state_at (cw 4) m l5 v1 g) (writes Err (trap_line OutOfMemory)) bound 1 (live (as_state m))
        = subst (λ y. AlwaysStops (step live procs) (state_at (cw 4) m l5 v1 g) (writes Err (trap_line OutOfMemory)) bound 1 (live (as_state y))) leaves
        (subst (λ b. AlwaysStops (step live procs) (state_at (cw 4) m l5 v1 g) (if b then [] else writes Err (trap_line OutOfMemory)) bound 1
        (live (as_state ended.memory))) out shown) in
        record {
          count = 2 + (classed.lines + 1) + bound;
          few = omega (arith, few, few1);
          stops = stops_on (step live procs) (2 + (classed.lines + 1)) (2 + (classed.lines + 1)) bound 1 (state_at (cw 0) m larger_lines v no_words)
              (state_at (cw 4) m l5 v1 g) [] (writes Err (trap_line OutOfMemory)) (live (as_state m)) to_take last;
        }

    -- it isn't
    record Larger : Type 0 where
      place : ℕ
      other : Memory
      count : ℕ
      few : count ≤ 62 + (CLASS_LINES + (FURTHER_LINES * class + 7 * u.kept))
      rest_same : IsBesideHeap own m other
      is : IsGrown own u other place
      runs : Runs live procs count (state_at (cw 0) m larger_lines v no_words) (goes_on s to place rest other s.input)

    is_larger : fits (taking u) ≡ true → holds_it u.present u.wanted ≡ false → Larger
    is_larger does small_one =
        let back : ComesBack live procs (takes own) (taking u) (state_at (cw 4) m l5 v1 g) 4 grown_lines
        = subst (λ b. Comes live procs (takes own) (taking u) (state_at (cw 4) m l5 v1 g) 4 grown_lines (if b then None else Some 1)) does takes_it in
        let leaves : IsBesideHeap own m back.memory = subst (λ b. Leaves b own m back.memory) does back.leaves in
        let silent : ◌≡◌ {A = List Event} (if fits (taking u) then [] else writes Err (trap_line OutOfMemory)) []
        = ap (λ b. if b then [] else writes Err (trap_line OutOfMemory)) does in
        let called = call_runs live procs (takes own) (taking u) (cw 4) m v1 g 4 grown_lines silent refl back in
        let sized1 : Sized back.memory = sized_on m back.memory sized leaves in
        let taken : IsTaken own (taking u) back.memory back.word = back.gives in
        let there = is_there own (at_class one_more class u.classes)
        (with_block u.stands u.identity (record { place = back.word; class = class; kind = CONTENTS_KIND; word = 0; payload = taken.payload })) back.memory
        taken.heap u.identity (record { place = back.word; class = class; kind = CONTENTS_KIND; word = 0; payload = taken.payload })
        (if_same u.identity u.identity (Some (record { place = back.word; class = class; kind = CONTENTS_KIND; word = 0; payload = taken.payload }))
        (u.stands u.identity) refl) sized1 in
        let high = there.high in
        let most = sized1.heap_most in
        let e4 : put v1 4 back.word 4 ≡ Some back.word = got back.word (omega (arith, high, most)) in
        let x = behind_take u may.unused u.present refl may.present small_one back.memory sized1 back.word (put v1 4 back.word) taken e0 e1 e3 e4 in
        let few = few_take (has_free class u.classes) in
        let few1 = classed.few in
        let few2 = back.few in
        let few3 = x.few in
        record {
          place = back.word;
          other = x.other;
          count = 2 + (classed.lines + 1) + (back.lines + x.count);
          few = omega (arith, few, few1, few2, few3);
          rest_same = beside_more own m back.memory x.other leaves x.rest_same;
          is = x.is;
          runs = then_runs live procs to_take (then_runs live procs called x.runs);
        }

  -- ---- the promise

  module _ (u : Growing) (others : List WordProc) (stands : from_proc GROW procs ≡ later n GROW 3 6 grow_lines ∷ others)
      (calling : IsCalling GROW (place_of u.present ∷ u.kept ∷ u.wanted ∷ []) to rest s) (sized : Sized s.memory) (may : MayGrow own u s.memory) where
    abbrev start : WordState
    start = state_at (within s) s.memory (Call to GROW ∷ rest) s.frame.vars s.frame.given

    abbrev v0 : Vars
    v0 = params_of new_proc s.frame.given

    called : Runs live procs 1 start (state_at (cw 0) s.memory grow_lines v0 no_words)
    called = enters live procs s to rest n GROW 3 6 grow_lines others stands

    abbrev Outcome : Type 0
    Outcome = Comes live procs (grows own) u s to rest (if may_grow u then None else Some 1)

    comes : (count place : ℕ) (other : Memory) → may_grow u ≡ true → count ≤ grow_work u
        → GrowLeaves (holds_it u.present u.wanted) (fits (taking u)) own s.memory other → GrowGives (holds_it u.present u.wanted) own u other place
        → Runs live procs count start (goes_on s to place rest other s.input) → Outcome
    comes count place other does few left given runs =
        let back : ComesBack live procs (grows own) u s to rest = record {
          memory = other;
          word = place;
          leaves = left;
          gives = given;
          lines = count;
          few = few;
          steps = (from_call live procs s to rest GROW _ _ _ _ calling.next
              (subst (λ b. AlwaysSteps (step live procs) count start (if b then [] else writes Err (trap_line OutOfMemory)) count
              (goes_on s to place rest other s.input)) (sym does) runs)).by;
        } in
        subst (λ b. Comes live procs (grows own) u s to rest (if b then None else Some 1)) (sym does) back

    abbrev work_of : Bool → ℕ
    work_of b = if b then KEPT_LINES else GROW_LINES + (FURTHER_LINES * class_of u.wanted + MOVE_BYTE * u.kept)

    -- what there is is enough
    kept_so : (count : ℕ) → holds_it u.present u.wanted ≡ true → count ≤ 10
        → Runs live procs count (state_at (cw 0) s.memory grow_lines v0 no_words) (goes_on s to (place_of u.present) rest s.memory s.input) → Outcome
    kept_so count it few runs =
        let work : work_of (holds_it u.present u.wanted) ≡ KEPT_LINES = ap work_of it in
        comes (1 + count) (place_of u.present) s.memory (ap (λ b. b || fits (taking u)) it) (omega (arith, work, few))
        (subst (λ b. GrowLeaves b (fits (taking u)) own s.memory s.memory) (sym it) refl)
        (subst (λ b. GrowGives b own u s.memory (place_of u.present)) (sym it) refl) (then_runs live procs called runs)

    -- the present block is enough
    enough : (o : Owned) → u.present ≡ Some o → IsPresent u.stands u.kept (Some o) → holds_it (Some o) u.wanted ≡ true → Outcome
    enough o some present big =
        kept_so 10 (ap (λ p. holds_it p u.wanted) some ∙ big) (omega arith)
        (subst (λ p. Runs live procs 10 (state_at (cw 0) s.memory grow_lines v0 no_words) (goes_on s to p rest s.memory s.input)) (ap place_of (sym some))
        (stays law live procs n s to rest u s.memory sized may v0 calling.given.0 calling.given.1.0 calling.given.1.1.0 o some present.0 present.1 present.2
        (leb-true u.wanted (length o.block.payload) big)))

    -- it isn't
    too_small : holds_it u.present u.wanted ≡ false → Small law live procs n s to rest u s.memory v0 → Outcome
    too_small it x = elim (cases_Bool (fits (taking u))) [
      | inl does ↦
          let y = is_larger u s.memory sized may x.vars x.zero_is x.one_is x.two_is x.three_is does it in
          let few = x.few in
          let few1 = y.few in
          let work : work_of (holds_it u.present u.wanted) ≡ GROW_LINES + (FURTHER_LINES * class_of u.wanted + MOVE_BYTE * u.kept) = ap work_of it in
          comes (1 + (x.count + y.count)) y.place y.other (ap (λ b. b || fits (taking u)) it ∙ does) (omega (arith, few, few1, work))
          (subst (λ b. GrowLeaves b (fits (taking u)) own s.memory y.other) (sym it)
          (subst (λ b. GrowLeaves false b own s.memory y.other) (sym does) y.rest_same))
          (subst (λ b. GrowGives b own u y.other y.place) (sym it) y.is) (then_runs live procs called (then_runs live procs x.runs y.runs))
      | inr out ↦
          let y = is_full u s.memory sized may x.vars x.zero_is x.one_is x.two_is x.three_is out in
          let few = x.few in
          let few1 = y.few in
          let none : may_grow u ≡ false = ap (λ b. b || fits (taking u)) it ∙ out in
          let work : work_of (holds_it u.present u.wanted) ≡ GROW_LINES + (FURTHER_LINES * class_of u.wanted + MOVE_BYTE * u.kept) = ap work_of it in
          let most : ℕ = grow_work u in
          let front : Runs live procs (1 + x.count) start (state_at (cw 0) s.memory larger_lines x.vars no_words) = then_runs live procs called x.runs in
          let stops : AlwaysStops (step live procs) start (writes Err (trap_line OutOfMemory)) (1 + x.count + y.count) 1 (live (as_state s.memory))
          = stops_on (step live procs) (1 + x.count) (1 + x.count) y.count 1 start (state_at (cw 0) s.memory larger_lines x.vars no_words) []
          (writes Err (trap_line OutOfMemory)) (live (as_state s.memory)) front y.stops in
          let shown : AlwaysStops (step live procs) start (if may_grow u then [] else writes Err (trap_line OutOfMemory)) most 1 (live (as_state s.memory))
          = subst (λ b. AlwaysStops (step live procs) start (if b then [] else writes Err (trap_line OutOfMemory)) most 1 (live (as_state s.memory))) (sym none)
          (stops_within (1 + x.count + y.count) most (omega (arith, few, few1, work)) stops) in
          let ended : EndsProgram live procs (grows own) u s 1 = record {
            memory = s.memory;
            leaves = subst (λ b. GrowLeaves b (fits (taking u)) own s.memory s.memory) (sym it)
                (subst (λ b. GrowLeaves false b own s.memory s.memory) (sym out) refl);
            stops = stops_call live procs s to rest GROW _ most 1 _ calling.next shown;
          } in
          subst (λ b. Comes live procs (grows own) u s to rest (if b then None else Some 1)) (sym none) ended
    ]
      where
        stops_within : (few most : ℕ) → few ≤ most
            → AlwaysStops (step live procs) start (writes Err (trap_line OutOfMemory)) few 1 (live (as_state s.memory))
            → AlwaysStops (step live procs) start (writes Err (trap_line OutOfMemory)) most 1 (live (as_state s.memory))
        stops_within few most less x = λ gifts k.
            let y = x gifts k in
            let w = y.within in
            record { work = y.work; within = omega (arith, w, less); by = y.by }

    by_present : (p : Option Owned) → u.present ≡ p → IsPresent u.stands u.kept p → Outcome
    by_present None is present = ⊎_elim
        (λ zero_wanted.
        kept_so 5 (ap (λ p. holds_it p u.wanted) is ∙ le-leb u.wanted 0 (omega (arith, zero_wanted))) (omega arith)
        (subst (λ p. Runs live procs 5 (state_at (cw 0) s.memory grow_lines v0 no_words) (goes_on s to p rest s.memory s.input)) (ap place_of (sym is))
        (stays_none law live procs n s to rest u s.memory sized may v0 calling.given.0 calling.given.1.0 calling.given.1.1.0 is zero_wanted)))
        (λ some.
        too_small (ap (λ p. holds_it p u.wanted) is ∙ lt-leb u.wanted 0 (omega (arith, some)))
        (small_none law live procs n s to rest u s.memory sized may v0 calling.given.0 calling.given.1.0 calling.given.1.1.0 is some))
        (cases_eq u.wanted 0)
    by_present (Some o) is present = elim (cases_Bool (holds_it (Some o) u.wanted)) [
      | inl big ↦ enough o is present big
      | inr small ↦
          too_small (ap (λ p. holds_it p u.wanted) is ∙ small)
          (small_some law live procs n s to rest u s.memory sized may v0 calling.given.0 calling.given.1.0 calling.given.1.1.0 o is present.0 present.1
          present.2
          (leb-false u.wanted (length o.block.payload) small))
    ]

    pub grow_comes : Outcome
    grow_comes = by_present u.present refl may.present
