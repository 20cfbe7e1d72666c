-- What the routine that takes a block does.
use Rattle.std.proofs.Common.{◌≡◌, ℕ, suc, ◌+◌, ◌-◌, ◌%◌, ◌^◌, ◌<◌, ◌≤◌, List, [], ◌∷◌, length, Some, Ok, true, false, refl, ap, subst}
use Rattle.std.proofs.Common.{◌∙◌, arith, append-nil}
use Rattle.std.proofs.lemmas.Bool.{lt-ltb, le-ltb}
use Rattle.arc_base.specs.Event.{Event, writes}
use Rattle.arc_base.specs.declared.outside.Stream.TheVariants.{Err}
use Rattle.arc_base.specs.Stepping.{Next}
use Rattle.nim_program.specs.Traps.{OutOfMemory}
use Rattle.rv32_isa.specs.declared.micro_op.Size.TheVariants.{Word}
use Rattle.rv32_isa.specs.Image.{statics_at, heap_at}
use Rattle.rv32_isa.specs.Machine.{Lives}
use Rattle.nim_meaning.specs.Heap.{size_count}
use Rattle.word_code.specs.declared.word.WordOperation.TheVariants as operation
use Rattle.word_code.specs.declared.word.Test.TheVariants as test
use Rattle.word_code.specs.declared.word.WordInstr.{WordInstr}
use Rattle.word_code.specs.declared.word.WordInstr.TheVariants.{Constant, Sum, Compute, Datum, Load, Store, Branch, Return, Write, Exit}
use Rattle.word_code.specs.declared.word.WordProc.{WordProc}
use Rattle.word_code.specs.Memory.{Memory, as_state, number_at, may_put, with_number, bytes_at, own_data_at}
use Rattle.word_code.specs.Words.{computed, holds, Vars, no_words, put, WordState, step}
use Rattle.word_code.specs.RoutineTable.{trap_line}
use Rattle.word_code.specs.Routines.{goes_on}
use Rattle.word_code.proofs.ForCallers.{Runs, then_runs, Within, at as state_at, run_label, run_constant, run_datum, run_sum, run_compute, run_load}
use Rattle.word_code.proofs.ForCallers.{run_store, run_past, run_off, run_write, got, got_sum, AlwaysSteps, AlwaysStops, on, ends_one, stops_on}
use Rattle.heap_memory.specs.declared.numbers.TheConstants.{TAKE, CONTENTS_KIND, HEAP_WORD_BYTES}
use Rattle.refc_runtime.specs.declared.heap.TheConstants.{HEADER_LESS}
use Rattle.heap_memory.specs.HeapBlocks.{size_at, first_word}
use Rattle.heap_memory.specs.HeapRoutines.{class_word}
use Rattle.refc_runtime.specs.HeapCode.{take_lines, free_lines, next_lines, full_lines}
use Rattle.heap_memory.proofs.ForCallers.{size_some}
use Rattle.refc_runtime.proofs.Calls.{later, inside, returns_before}
use Rattle.refc_runtime.proofs.HeapWords.{word_at}
use Rattle.heap_memory.proofs.ForCallers.{class_shifted, size_most, size_shifted}

-- ---- the routine's lines

module _ (live : Lives) (procs : List WordProc) (n : ℕ) (s : WordState) (to : ℕ) (rest : List WordInstr) where
  abbrev pub take_proc : WordProc
  take_proc = later n TAKE 1 6 take_lines

  abbrev c : Within
  c = inside s take_proc to rest

  abbrev at : ℕ
  at = own_data_at + n

  -- where it looks for a free block, and what it finds
  pub record Front (m : Memory) (class head : ℕ) (v : Vars) : Type 0 where
    pub vars : Vars
    pub zero_is : vars 0 ≡ Some (class_word class)
    pub one_is : vars 1 ≡ Some (word_at at (suc class))
    pub two_is : vars 2 ≡ Some head
    pub runs : Runs live procs 3 (state_at c m take_lines v no_words) (state_at c m (Branch test.Below 2 1 0 ∷ free_lines) vars no_words)

  pub front : (m : Memory) (class head : ℕ) (v : Vars) → v 0 ≡ Some (class_word class) → word_at at (suc class) < 2 ^ 32 → head < 2 ^ 32
      → number_at m (word_at at (suc class)) Word ≡ Ok head → Front m class head v
  front m class head v e0 small head_small there =
      let l1 : List WordInstr = Compute 1 operation.Add 1 0 ∷ Load 2 1 Word ∷ Branch test.Below 2 1 0 ∷ free_lines in
      let l2 : List WordInstr = Load 2 1 Word ∷ Branch test.Below 2 1 0 ∷ free_lines in
      let l3 : List WordInstr = Branch test.Below 2 1 0 ∷ free_lines in
      let v1 : Vars = put v 1 (own_data_at + (n + 0) + 0) in
      let v2 : Vars = put v1 1 (computed operation.Add at (class_word class)) in
      let v3 : Vars = put v2 2 head in
      let one : v1 1 ≡ Some at = got (own_data_at + (n + 0) + 0) (omega (arith, small)) ∙ ap Some (omega arith) in
      let r1 : Runs live procs 1 (state_at c m take_lines v no_words) (state_at c m l1 v1 no_words) = run_datum live procs c m l1 v no_words 1 0 in
      let r2 : Runs live procs 1 (state_at c m l1 v1 no_words) (state_at c m l2 v2 no_words) =
      run_compute live procs c m l2 v1 no_words 1 operation.Add 1 0 one e0 in
      let two : v2 1 ≡ Some (word_at at (suc class)) = got_sum at (class_word class) small in
      let r3 : Runs live procs 1 (state_at c m l2 v2 no_words) (state_at c m l3 v3 no_words) = run_load live procs c m l3 v2 no_words 2 1 Word two there in
      record {
        vars = v3;
        zero_is = e0;
        one_is = two;
        two_is = got head head_small;
        runs = then_runs live procs r1 (then_runs live procs r2 r3);
      }

  -- a free block is there
  pub takes_free : (m : Memory) (class place link : ℕ) (v : Vars) → v 0 ≡ Some (class_word class) → class < size_count → word_at at (suc class) < 2 ^ 32
      → word_at at (suc class) ≤ place → 8 ≤ place → place < 2 ^ 32 → link < 2 ^ 32
      → number_at m (word_at at (suc class)) Word ≡ Ok place → number_at m place Word ≡ Ok link
      → may_put m (word_at at (suc class)) Word ≡ true
      → (a : ℕ) → a + 8 ≡ place → number_at (with_number m (word_at at (suc class)) Word link) a Word ≡ Ok (suc class)
      → may_put (with_number m (word_at at (suc class)) Word link) a Word ≡ true
      → Runs live procs 11 (state_at c m take_lines v no_words)
      (goes_on s to place rest (with_number (with_number m (word_at at (suc class)) Word link) a Word (first_word CONTENTS_KIND class)) s.input)
  takes_free m class place link v e0 known small high low place_small link_small head_is link_is head_may a is index_is index_may =
      let f = front m class place v e0 small place_small head_is in
      let l5 : List WordInstr = Store 1 3 Word ∷ Sum 3 2 HEADER_LESS ∷ Load 4 3 Word ∷ Sum 4 4 128 ∷ Store 3 4 Word ∷ Return 2 ∷ next_lines in
      let l6 : List WordInstr = Sum 3 2 HEADER_LESS ∷ Load 4 3 Word ∷ Sum 4 4 128 ∷ Store 3 4 Word ∷ Return 2 ∷ next_lines in
      let l7 : List WordInstr = Load 4 3 Word ∷ Sum 4 4 128 ∷ Store 3 4 Word ∷ Return 2 ∷ next_lines in
      let l8 : List WordInstr = Sum 4 4 128 ∷ Store 3 4 Word ∷ Return 2 ∷ next_lines in
      let l9 : List WordInstr = Store 3 4 Word ∷ Return 2 ∷ next_lines in
      let l10 : List WordInstr = Return 2 ∷ next_lines in
      let v3 : Vars = f.vars in
      let v4 : Vars = put v3 3 link in
      let v5 : Vars = put v4 3 (place + HEADER_LESS) in
      let v6 : Vars = put v5 4 (suc class) in
      let v7 : Vars = put v6 4 (suc class + 128) in
      let m1 : Memory = with_number m (word_at at (suc class)) Word link in
      let m2 : Memory = with_number m1 a Word (first_word CONTENTS_KIND class) in
      let past : holds test.Below place (word_at at (suc class)) ≡ false = le-ltb place (word_at at (suc class)) high in
      let r4 : Runs live procs 1 (state_at c m (Branch test.Below 2 1 0 ∷ free_lines) v3 no_words) (state_at c m free_lines v3 no_words)
      = run_past live procs c m free_lines v3 no_words test.Below 2 1 0 f.two_is f.one_is past in
      let r5 : Runs live procs 1 (state_at c m free_lines v3 no_words) (state_at c m l5 v4 no_words)
      = run_load live procs c m l5 v3 no_words 3 2 Word f.two_is link_is in
      let r6 : Runs live procs 1 (state_at c m l5 v4 no_words) (state_at c m1 l6 v4 no_words)
      = run_store live procs c m l6 v4 no_words 1 3 Word f.one_is (got link link_small) head_may in
      let r7 : Runs live procs 1 (state_at c m1 l6 v4 no_words) (state_at c m1 l7 v5 no_words)
      = run_sum live procs c m1 l7 v4 no_words 3 2 HEADER_LESS f.two_is in
      let header : v5 3 ≡ Some a = ap Some (omega (arith, is, place_small)) in
      let r8 : Runs live procs 1 (state_at c m1 l7 v5 no_words) (state_at c m1 l8 v6 no_words)
      = run_load live procs c m1 l8 v5 no_words 4 3 Word header index_is in
      let index : v6 4 ≡ Some (suc class) = got (suc class) (omega (arith, known)) in
      let r9 : Runs live procs 1 (state_at c m1 l8 v6 no_words) (state_at c m1 l9 v7 no_words)
      = run_sum live procs c m1 l9 v6 no_words 4 4 128 index in
      let first : v7 4 ≡ Some (first_word CONTENTS_KIND class) = ap Some (omega (arith, known)) in
      let r10 : Runs live procs 1 (state_at c m1 l9 v7 no_words) (state_at c m2 l10 v7 no_words)
      = run_store live procs c m1 l10 v7 no_words 3 4 Word header first index_may in
      let r11 : Runs live procs 1 (state_at c m2 l10 v7 no_words) (goes_on s to place rest m2 s.input)
      = returns_before live procs s to rest next_lines take_proc refl m2 v7 2 place f.two_is in
      then_runs live procs f.runs (then_runs live procs r4 (then_runs live procs r5 (then_runs live procs r6 (then_runs live procs r7
      (then_runs live procs r8 (then_runs live procs r9 (then_runs live procs r10 r11)))))))

  -- ---- none is free

  -- what is known where the next bytes are to be taken: the size, and what is left of the heap
  pub record Measured (m : Memory) (class next room : ℕ) (v : Vars) : Type 0 where
    pub vars : Vars
    pub one_is : vars 1 ≡ Some (word_at at 0)
    pub two_is : vars 2 ≡ Some next
    pub three_is : vars 3 ≡ Some (room - (next - heap_at))
    pub four_is : vars 4 ≡ Some (suc class)
    pub five_is : vars 5 ≡ Some (size_at class)
    pub runs : Runs live procs 15 (state_at c m take_lines v no_words)
        (state_at c m (Branch test.Below 3 5 1 ∷ Sum 4 4 128 ∷ Store 2 4 Word ∷ Compute 5 operation.Add 5 2 ∷ Store 1 5 Word ∷ Sum 2 2 8 ∷ Return 2
        ∷ full_lines) vars no_words)

  pub measures : (m : Memory) (class next room : ℕ) (v : Vars) → v 0 ≡ Some (class_word class) → class ≤ size_count → word_at at (suc class) < 2 ^ 32
      → number_at m (word_at at (suc class)) Word ≡ Ok 0 → number_at m (word_at at 0) Word ≡ Ok next → number_at m statics_at Word ≡ Ok room
      → heap_at ≤ next → next ≤ heap_at + room → heap_at + room < 2 ^ 32 → Measured m class next room v
  measures m class next room v e0 known small head_is next_is room_is low high room_small =
      let f = front m class 0 v e0 small (omega arith) head_is in
      let k12 : List WordInstr = Branch test.Below 3 5 1 ∷ Sum 4 4 128 ∷ Store 2 4 Word ∷ Compute 5 operation.Add 5 2 ∷ Store 1 5 Word ∷ Sum 2 2 8 ∷ Return 2
      ∷ full_lines in
      let k11 : List WordInstr = Compute 5 operation.ShiftLeft 5 4 ∷ k12 in
      let k10 : List WordInstr = Constant 5 8 ∷ k11 in
      let k9 : List WordInstr = Compute 4 operation.ShiftRight 0 4 ∷ k10 in
      let k8 : List WordInstr = Constant 4 2 ∷ k9 in
      let k7 : List WordInstr = Compute 3 operation.Subtract 3 2 ∷ k8 in
      let k6 : List WordInstr = Sum 3 3 heap_at ∷ k7 in
      let k5 : List WordInstr = Load 3 3 Word ∷ k6 in
      let k4 : List WordInstr = Constant 3 statics_at ∷ k5 in
      let k3 : List WordInstr = Load 2 1 Word ∷ k4 in
      let k2 : List WordInstr = Datum 1 0 ∷ k3 in
      let v3 : Vars = f.vars in
      let v4 : Vars = put v3 1 (own_data_at + (n + 0) + 0) in
      let v5 : Vars = put v4 2 next in
      let v6 : Vars = put v5 3 statics_at in
      let v7 : Vars = put v6 3 room in
      let v8 : Vars = put v7 3 (room + heap_at) in
      let v9 : Vars = put v8 3 (computed operation.Subtract (room + heap_at) next) in
      let v10 : Vars = put v9 4 2 in
      let v11 : Vars = put v10 4 (computed operation.ShiftRight (class_word class) 2) in
      let v12 : Vars = put v11 5 8 in
      let v13 : Vars = put v12 5 (computed operation.ShiftLeft 8 (suc class)) in
      let none : holds test.Below 0 (word_at at (suc class)) ≡ true = lt-ltb 0 (word_at at (suc class)) (omega arith) in
      let r4 : Runs live procs 1 (state_at c m (Branch test.Below 2 1 0 ∷ free_lines) v3 no_words) (state_at c m next_lines v3 no_words)
      = run_off live procs c m free_lines v3 no_words test.Below 2 1 0 next_lines f.two_is f.one_is none refl in
      let r5 : Runs live procs 1 (state_at c m next_lines v3 no_words) (state_at c m k2 v3 no_words) = run_label live procs c m k2 v3 no_words 0 in
      let r6 : Runs live procs 1 (state_at c m k2 v3 no_words) (state_at c m k3 v4 no_words) = run_datum live procs c m k3 v3 no_words 1 0 in
      let one : v4 1 ≡ Some (word_at at 0) = got (own_data_at + (n + 0) + 0) (omega (arith, small)) ∙ ap Some (omega arith) in
      let r7 : Runs live procs 1 (state_at c m k3 v4 no_words) (state_at c m k4 v5 no_words) = run_load live procs c m k4 v4 no_words 2 1 Word one next_is in
      let r8 : Runs live procs 1 (state_at c m k4 v5 no_words) (state_at c m k5 v6 no_words) = run_constant live procs c m k5 v5 no_words 3 statics_at in
      let r9 : Runs live procs 1 (state_at c m k5 v6 no_words) (state_at c m k6 v7 no_words) = run_load live procs c m k6 v6 no_words 3 3 Word refl room_is in
      let three : v7 3 ≡ Some room = got room (omega (arith, room_small)) in
      let r10 : Runs live procs 1 (state_at c m k6 v7 no_words) (state_at c m k7 v8 no_words) = run_sum live procs c m k7 v7 no_words 3 3 heap_at three in
      let more : v8 3 ≡ Some (room + heap_at) = got (room + heap_at) (omega (arith, room_small)) in
      let two : v5 2 ≡ Some next = got next (omega (arith, high, room_small)) in
      let r11 : Runs live procs 1 (state_at c m k7 v8 no_words) (state_at c m k8 v9 no_words)
      = run_compute live procs c m k8 v8 no_words 3 operation.Subtract 3 2 more two in
      let left : v9 3 ≡ Some (room - (next - heap_at)) = ap Some (omega (arith, low, high, room_small)) in
      let r12 : Runs live procs 1 (state_at c m k8 v9 no_words) (state_at c m k9 v10 no_words) = run_constant live procs c m k9 v9 no_words 4 2 in
      let r13 : Runs live procs 1 (state_at c m k9 v10 no_words) (state_at c m k10 v11 no_words)
      = run_compute live procs c m k10 v10 no_words 4 operation.ShiftRight 0 4 f.zero_is refl in
      let four : v11 4 ≡ Some (suc class) = ap (λ x. Some (x % 2 ^ 32)) (class_shifted class) ∙ got (suc class) (omega (arith, known)) in
      let r14 : Runs live procs 1 (state_at c m k10 v11 no_words) (state_at c m k11 v12 no_words) = run_constant live procs c m k11 v11 no_words 5 8 in
      let r15 : Runs live procs 1 (state_at c m k11 v12 no_words) (state_at c m k12 v13 no_words)
      = run_compute live procs c m k12 v12 no_words 5 operation.ShiftLeft 5 4 refl four in
      let most = size_most class known in
      let five : v13 5 ≡ Some (size_at class) = ap (λ x. Some (x % 2 ^ 32)) (size_shifted class known) ∙ got (size_at class) (omega (arith, most)) in
      record {
        vars = v13;
        one_is = one;
        two_is = two;
        three_is = left;
        four_is = four;
        five_is = five;
        runs = then_runs live procs f.runs (then_runs live procs r4 (then_runs live procs r5 (then_runs live procs r6 (then_runs live procs r7
            (then_runs live procs r8 (then_runs live procs r9 (then_runs live procs r10 (then_runs live procs r11 (then_runs live procs r12
            (then_runs live procs r13 (then_runs live procs r14 r15)))))))))));
      }

  -- the next bytes are enough
  pub takes_next : (m : Memory) (class next room : ℕ) (v : Vars) → class ≤ size_count → (x : Measured m class next room v) → heap_at ≤ next
      → next + size_at class ≤ heap_at + room → heap_at + room < 2 ^ 32 → may_put m next Word ≡ true
      → may_put (with_number m next Word (first_word CONTENTS_KIND class)) (word_at at 0) Word ≡ true
      → Runs live procs 22 (state_at c m take_lines v no_words) (goes_on s to (next + 8) rest
      (with_number (with_number m next Word (first_word CONTENTS_KIND class)) (word_at at 0) Word (next + size_at class)) s.input)
  takes_next m class next room v known x low fits room_small next_may word_may =
      let k18 : List WordInstr = Return 2 ∷ full_lines in
      let k17 : List WordInstr = Sum 2 2 8 ∷ k18 in
      let k16 : List WordInstr = Store 1 5 Word ∷ k17 in
      let k15 : List WordInstr = Compute 5 operation.Add 5 2 ∷ k16 in
      let k14 : List WordInstr = Store 2 4 Word ∷ k15 in
      let k13 : List WordInstr = Sum 4 4 128 ∷ k14 in
      let v13 : Vars = x.vars in
      let v14 : Vars = put v13 4 (suc class + 128) in
      let v15 : Vars = put v14 5 (computed operation.Add (size_at class) next) in
      let v16 : Vars = put v15 2 (next + 8) in
      let m1 : Memory = with_number m next Word (first_word CONTENTS_KIND class) in
      let m2 : Memory = with_number m1 (word_at at 0) Word (next + size_at class) in
      let enough : holds test.Below (room - (next - heap_at)) (size_at class) ≡ false
      = le-ltb (room - (next - heap_at)) (size_at class) (omega (arith, low, fits)) in
      let r16 : Runs live procs 1 (state_at c m (Branch test.Below 3 5 1 ∷ k13) v13 no_words) (state_at c m k13 v13 no_words)
      = run_past live procs c m k13 v13 no_words test.Below 3 5 1 x.three_is x.five_is enough in
      let r17 : Runs live procs 1 (state_at c m k13 v13 no_words) (state_at c m k14 v14 no_words)
      = run_sum live procs c m k14 v13 no_words 4 4 128 x.four_is in
      let first : v14 4 ≡ Some (first_word CONTENTS_KIND class) = ap Some (omega (arith, known)) in
      let r18 : Runs live procs 1 (state_at c m k14 v14 no_words) (state_at c m1 k15 v14 no_words)
      = run_store live procs c m k15 v14 no_words 2 4 Word x.two_is first next_may in
      let r19 : Runs live procs 1 (state_at c m1 k15 v14 no_words) (state_at c m1 k16 v15 no_words)
      = run_compute live procs c m1 k16 v14 no_words 5 operation.Add 5 2 x.five_is x.two_is in
      let behind : v15 5 ≡ Some (next + size_at class) = got_sum (size_at class) next (omega (arith, fits, room_small)) ∙ ap Some (omega arith) in
      let r20 : Runs live procs 1 (state_at c m1 k16 v15 no_words) (state_at c m2 k17 v15 no_words)
      = run_store live procs c m1 k17 v15 no_words 1 5 Word x.one_is behind word_may in
      let r21 : Runs live procs 1 (state_at c m2 k17 v15 no_words) (state_at c m2 k18 v16 no_words) = run_sum live procs c m2 k18 v15 no_words 2 2 8 x.two_is in
      let some = size_some class in
      let r22 : Runs live procs 1 (state_at c m2 k18 v16 no_words) (goes_on s to (next + 8) rest m2 s.input)
      = returns_before live procs s to rest full_lines take_proc refl m2 v16 2 (next + 8) (got (next + 8) (omega (arith, some, fits, room_small))) in
      then_runs live procs x.runs (then_runs live procs r16 (then_runs live procs r17 (then_runs live procs r18 (then_runs live procs r19
      (then_runs live procs r20 (then_runs live procs r21 r22))))))

  -- they aren't
  pub refuses : (m : Memory) (class next room : ℕ) (v : Vars) → (x : Measured m class next room v) → heap_at ≤ next → next ≤ heap_at + room
      → heap_at + room < next + size_at class → at + HEAP_WORD_BYTES < 2 ^ 32
      → bytes_at m (at + HEAP_WORD_BYTES) (length (trap_line OutOfMemory)) ≡ Some (trap_line OutOfMemory)
      → AlwaysStops (step live procs) (state_at c m take_lines v no_words) (writes Err (trap_line OutOfMemory)) 22 1 (live (as_state m))
  refuses m class next room v x low high full small line =
      let len : ℕ = length (trap_line OutOfMemory) in
      let l5 : List WordInstr = Exit 0 ∷ [] in
      let l4 : List WordInstr = Constant 0 1 ∷ l5 in
      let l3 : List WordInstr = Write Err 0 1 ∷ l4 in
      let l2 : List WordInstr = Constant 1 len ∷ l3 in
      let l1 : List WordInstr = Datum 0 HEAP_WORD_BYTES ∷ l2 in
      let k13 : List WordInstr = Sum 4 4 128 ∷ Store 2 4 Word ∷ Compute 5 operation.Add 5 2 ∷ Store 1 5 Word ∷ Sum 2 2 8 ∷ Return 2 ∷ full_lines in
      let a : ℕ = own_data_at + (n + 0) + HEAP_WORD_BYTES in
      let v13 : Vars = x.vars in
      let v14 : Vars = put v13 0 a in
      let v15 : Vars = put v14 1 len in
      let v16 : Vars = put v15 0 1 in
      let machine : List ℕ → WordState → Next Event WordState = step live procs in
      let over : holds test.Below (room - (next - heap_at)) (size_at class) ≡ true
      = lt-ltb (room - (next - heap_at)) (size_at class) (omega (arith, low, high, full)) in
      let r16 : Runs live procs 1 (state_at c m (Branch test.Below 3 5 1 ∷ k13) v13 no_words) (state_at c m full_lines v13 no_words)
      = run_off live procs c m k13 v13 no_words test.Below 3 5 1 full_lines x.three_is x.five_is over refl in
      let r17 : Runs live procs 1 (state_at c m full_lines v13 no_words) (state_at c m l1 v13 no_words) = run_label live procs c m l1 v13 no_words 1 in
      let r18 : Runs live procs 1 (state_at c m l1 v13 no_words) (state_at c m l2 v14 no_words) = run_datum live procs c m l2 v13 no_words 0 HEAP_WORD_BYTES in
      let r19 : Runs live procs 1 (state_at c m l2 v14 no_words) (state_at c m l3 v15 no_words) = run_constant live procs c m l3 v14 no_words 1 len in
      let there : a ≡ at + HEAP_WORD_BYTES = omega arith in
      let zero_is : v15 0 ≡ Some a = got a (omega (arith, small)) in
      let text : bytes_at m a len ≡ Some (trap_line OutOfMemory) = ap (λ b. bytes_at m b len) there ∙ line in
      let r20 : AlwaysSteps machine 1 (state_at c m l3 v15 no_words) (writes Err (trap_line OutOfMemory)) 1 (state_at c m l4 v15 no_words)
      = run_write live procs c m l4 v15 no_words Err 0 1 (trap_line OutOfMemory) zero_is (got len (omega arith)) text in
      let r21 : Runs live procs 1 (state_at c m l4 v15 no_words) (state_at c m l5 v16 no_words) = run_constant live procs c m l5 v15 no_words 0 1 in
      let r22 : AlwaysStops machine (state_at c m l5 v16 no_words) [] 1 1 (live (as_state m))
      = ends_one machine (state_at c m l5 v16 no_words) [] 1 1 (live (as_state m)) (λ bytes. refl) in
      let before = then_runs live procs x.runs (then_runs live procs r16 (then_runs live procs r17 (then_runs live procs r18 r19))) in
      let written = on machine before r20 in
      let back : AlwaysStops machine (state_at c m l4 v15 no_words) [] 2 1 (live (as_state m))
      = stops_on machine 1 1 1 1 (state_at c m l4 v15 no_words) (state_at c m l5 v16 no_words) [] [] (live (as_state m)) r21 r22 in
      subst (λ es. AlwaysStops machine (state_at c m take_lines v no_words) es 22 1 (live (as_state m))) (append-nil (writes Err (trap_line OutOfMemory)))
      (stops_on machine 20 20 2 1 (state_at c m take_lines v no_words) (state_at c m l4 v15 no_words) (writes Err (trap_line OutOfMemory)) []
      (live (as_state m)) written back)
