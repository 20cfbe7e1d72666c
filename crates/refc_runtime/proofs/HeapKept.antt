-- The routines of the heap keep what they promise.
use Rattle.std.proofs.Common.{◌≡◌, ℕ, zero, suc, ◌+◌, ◌-◌, ◌^◌, ◌<◌, ◌≤◌, List, [], ◌∷◌, length, Some, None, Ok, true, false}
use Rattle.std.proofs.Common.{refl, sym, ap, subst, ◌∙◌, ⊎_elim, arith}
use Rattle.std.specs.Prelude.{nat_lt, nat_le, if◌then◌else◌}
use Rattle.std.proofs.lemmas.Bool.{lt-ltb, le-ltb, le-leb, lt-leb, cond-true, cond-false, cases_lt, cases_eq}
use Rattle.arc_base.specs.Event.{writes}
use Rattle.arc_base.specs.declared.outside.Stream.TheVariants.{Err}
use Rattle.nim_program.specs.Traps.{OutOfMemory}
use Rattle.rv32_isa.specs.Image.{heap_at}
use Rattle.rv32_isa.specs.Machine.{Lives}
use Rattle.nim_meaning.specs.Heap.{Class, demand, size_count, one_more, at_class}
use Rattle.word_code.specs.declared.word.WordInstr.{WordInstr}
use Rattle.word_code.specs.declared.word.WordInstr.TheVariants.{Call}
use Rattle.word_code.specs.declared.word.WordProc.{WordProc}
use Rattle.word_code.specs.Memory.{Memory, as_state, own_data_at}
use Rattle.word_code.specs.Words.{Vars, no_words, params_of, from_proc, WordState, step}
use Rattle.word_code.specs.RoutineTable.{trap_line}
use Rattle.word_code.specs.Routines.{ComesBack, EndsProgram, Comes, IsCalling, goes_on}
use Rattle.word_code.proofs.ForCallers.{MemoryLaw, Sized, Runs, then_runs, AlwaysSteps, AlwaysStops, stops_on, at as state_at}
use Rattle.heap_memory.specs.declared.numbers.TheConstants.{TAKE, GIVE, CLASS, TAKE_LINES, NEXT_LINES}
use Rattle.heap_memory.specs.HeapBlocks.{size_at, all_size, first_place}
use Rattle.heap_memory.specs.HeapState.{first_of, IsHeap}
use Rattle.heap_memory.specs.HeapRoutines.{class_word, class_of, Taking, fits, has_free, MayTake, IsTaken, Leaves, takes, gives_back, finds_class, IsKeptThere}
use Rattle.refc_runtime.specs.HeapCode.{take_lines, give_lines, class_lines}
use Rattle.refc_runtime.proofs.HeapWords.{word_at, words_below}
use Rattle.refc_runtime.proofs.HeapMemory as memory
use Rattle.refc_runtime.proofs.Calls.{later, within, inside, enters, from_call, stops_call}
use Rattle.refc_runtime.proofs.TakeRuns.{take_proc, takes_free, Measured, measures, takes_next, refuses}
use Rattle.refc_runtime.proofs.GiveRuns.{give_proc, gives}
use Rattle.refc_runtime.proofs.ClassRuns.{class_proc, class_found}

no_free : (far : ℕ) (classes : List Class) → length classes ≤ far → has_free far classes ≡ false
no_free far [] few = refl
no_free zero (c ∷ classes) few = absurd (omega (arith, few))
no_free (suc far) (c ∷ classes) few = no_free far classes (omega (arith, few))

module _ (law : MemoryLaw) (live : Lives) (procs : List WordProc) (n : ℕ) (others : List WordProc) where
  abbrev own : ℕ
  own = own_data_at + n

  -- ---- a block is taken

  module _ (stands : from_proc TAKE procs ≡ later n TAKE 1 6 take_lines ∷ others) (u : Taking) (s : WordState) (to : ℕ) (rest : List WordInstr)
      (calling : IsCalling TAKE (class_word u.class ∷ []) to rest s) (sized : Sized s.memory) (may : MayTake own u s.memory) where
    abbrev m : Memory
    m = s.memory

    abbrev h : IsHeap own u.classes u.stands m
    h = may.heap

    abbrev v0 : Vars
    v0 = params_of (take_proc live procs n s to rest) s.frame.given

    zero_is : v0 0 ≡ Some (class_word u.class)
    zero_is = calling.given.0

    -- the call's own line
    abbrev called : Runs live procs 1 (state_at (within s) m (Call to TAKE ∷ rest) s.frame.vars s.frame.given)
        (state_at (inside s (take_proc live procs n s to rest) to rest) m take_lines v0 no_words)
    called = enters live procs s to rest n TAKE 1 6 take_lines others stands

    word_small : word_at own (suc u.class) < 2 ^ 32
    word_small = let b = words_below law own m sized h.words in let k = may.known in omega (arith, b, k)

    word_low : word_at own (suc u.class) < heap_at
    word_low = let b = words_below law own m sized h.words in let k = may.known in omega (arith, b, k)

    room_small : heap_at + length m.heap < 2 ^ 32
    room_small = let r = sized.heap_most in omega (arith, r)

    -- it comes back
    taken : (lines : ℕ) (place : ℕ) (other : Memory) → fits u ≡ true → lines ≤ (if has_free u.class u.classes then TAKE_LINES else NEXT_LINES)
        → Leaves true own m other → IsTaken own u other place
        → Runs live procs lines (state_at (within s) m (Call to TAKE ∷ rest) s.frame.vars s.frame.given) (goes_on s to place rest other s.input)
        → Comes live procs (takes own) u s to rest (if fits u then None else Some 1)
    taken lines place other does few left given runs =
        let back : ComesBack live procs (takes own) u s to rest = record {
          memory = other;
          word = place;
          leaves = subst (λ b. Leaves b own m other) (sym does) left;
          gives = given;
          lines = lines;
          few = few;
          steps = (from_call live procs s to rest TAKE _ _ _ _ calling.next
              (subst (λ b. AlwaysSteps (step live procs) lines (state_at (within s) m (Call to TAKE ∷ rest) s.frame.vars s.frame.given)
              (if b then [] else writes Err (trap_line OutOfMemory)) lines (goes_on s to place rest other s.input)) (sym does) runs)).by;
        } in
        subst (λ b. Comes live procs (takes own) u s to rest (if b then None else Some 1)) (sym does) back

    -- the program ends
    refused : fits u ≡ false → has_free u.class u.classes ≡ false
        → AlwaysStops (step live procs) (state_at (inside s (take_proc live procs n s to rest) to rest) m take_lines v0 no_words)
        (writes Err (trap_line OutOfMemory)) 22 1 (live (as_state m))
        → Comes live procs (takes own) u s to rest (if fits u then None else Some 1)
    refused out none stops =
        let start : WordState = state_at (within s) m (Call to TAKE ∷ rest) s.frame.vars s.frame.given in
        let few : ℕ = if has_free u.class u.classes then TAKE_LINES else NEXT_LINES in
        let is_few : 23 ≡ few = sym (ap (λ b. if b then TAKE_LINES else NEXT_LINES) none) in
        let all : AlwaysStops (step live procs) start (writes Err (trap_line OutOfMemory)) 23 1 (live (as_state m))
        = stops_on (step live procs) 1 1 22 1 start (state_at (inside s (take_proc live procs n s to rest) to rest) m take_lines v0 no_words) []
        (writes Err (trap_line OutOfMemory)) (live (as_state m)) called stops in
        let shown : AlwaysStops (step live procs) start (if fits u then [] else writes Err (trap_line OutOfMemory)) few 1 (live (as_state m))
        = subst (λ b. AlwaysStops (step live procs) start (if b then [] else writes Err (trap_line OutOfMemory)) few 1 (live (as_state m))) (sym out)
        (subst (λ k. AlwaysStops (step live procs) start (writes Err (trap_line OutOfMemory)) k 1 (live (as_state m))) is_few all) in
        let ended : EndsProgram live procs (takes own) u s 1 = record {
          memory = m;
          leaves = subst (λ b. Leaves b own m m) (sym out) refl;
          stops = stops_call live procs s to rest TAKE _ few 1 _ calling.next shown;
        } in
        subst (λ b. Comes live procs (takes own) u s to rest (if b then None else Some 1)) (sym out) ended

    -- what is measured where none is free
    measured : h.frees u.class ≡ [] → Measured live procs n s to rest m u.class (heap_at + all_size h.blocks) (length m.heap) v0
    measured empty =
        let l = memory.heap_length law own m sized u.classes u.stands h in
        measures live procs n s to rest m u.class (heap_at + all_size h.blocks) (length m.heap) v0 zero_is may.known word_small
        (h.heads u.class may.known ∙ ap (λ l. Ok (first_of l)) empty) (memory.next_is law own m sized u.classes u.stands h) h.room
        (omega arith) (omega (arith, l)) room_small

    -- the heap is too small
    full : h.frees u.class ≡ [] → fits u ≡ false → has_free u.class u.classes ≡ false → length m.heap < all_size h.blocks + size_at u.class
        → Comes live procs (takes own) u s to rest (if fits u then None else Some 1)
    full empty out none over =
        let l = memory.heap_length law own m sized u.classes u.stands h in
        let b = words_below law own m sized h.words in
        refused out none (refuses live procs n s to rest m u.class (heap_at + all_size h.blocks) (length m.heap) v0 (measured empty) (omega arith)
        (omega (arith, l)) (omega (arith, over)) (omega (arith, b)) h.words.line)

    -- the test of a size that there is
    fits_is : u.class < size_count → fits u ≡ nat_le (demand (at_class one_more u.class u.classes)) u.room
    fits_is known =
        let e = h.kept.sizes in
        cond-true (nat_lt u.class (length u.classes)) (nat_le (demand (at_class one_more u.class u.classes)) u.room) false
        (lt-ltb u.class (length u.classes) (omega (arith, e, known)))

    by_size : u.class < size_count → (l : List ℕ) → h.frees u.class ≡ l → Comes live procs (takes own) u s to rest (if fits u then None else Some 1)
    by_size known [] empty = ⊎_elim over within_heap (cases_lt (length m.heap) (all_size h.blocks + size_at u.class))
      where
        d : demand (at_class one_more u.class u.classes) ≡ all_size h.blocks + size_at u.class
        d = memory.demand_next law own m sized u.classes u.stands h u.class u.identity known may.unused empty

        none : has_free u.class u.classes ≡ false
        none = memory.none_free law own m sized u.classes u.stands h u.class u.identity known may.unused empty

        over : length m.heap < all_size h.blocks + size_at u.class → Comes live procs (takes own) u s to rest (if fits u then None else Some 1)
        over less =
            let r = may.all in
            full empty (fits_is known ∙ lt-leb (demand (at_class one_more u.class u.classes)) u.room (omega (arith, d, r, less))) none less

        within_heap : all_size h.blocks + size_at u.class ≤ length m.heap → Comes live procs (takes own) u s to rest (if fits u then None else Some 1)
        within_heap enough =
            let r = may.all in
            let does : fits u ≡ true = fits_is known ∙ le-leb (demand (at_class one_more u.class u.classes)) u.room (omega (arith, d, r, enough)) in
            let is_few : NEXT_LINES ≡ (if has_free u.class u.classes then TAKE_LINES else NEXT_LINES)
            = sym (ap (λ b. if b then TAKE_LINES else NEXT_LINES) none) in
            let place_is : first_place + all_size h.blocks ≡ heap_at + all_size h.blocks + 8 = omega arith in
            let after : Memory = memory.next_after law own m sized u.classes u.stands h u.class u.identity known may.unused empty enough in
            taken 23 (heap_at + all_size h.blocks + 8) after does (omega (arith, is_few))
            (memory.next_rest law own m sized u.classes u.stands h u.class u.identity known may.unused empty enough)
            (subst (IsTaken own u after) place_is (record {
              payload = memory.new_payload law own m sized u.classes u.stands h u.class u.identity known may.unused empty enough;
              heap = memory.next_heap law own m sized u.classes u.stands h u.class u.identity known may.unused empty enough;
            }))
            (then_runs live procs called (takes_next live procs n s to rest m u.class (heap_at + all_size h.blocks) (length m.heap) v0 may.known
            (measured empty) (omega arith) (omega (arith, enough)) room_small
            (memory.next_may law own m sized u.classes u.stands h u.class u.identity known may.unused empty enough)
            (memory.next_word_may law own m sized u.classes u.stands h u.class u.identity known may.unused empty enough)))
    by_size known (place ∷ places) first =
        let d : demand (at_class one_more u.class u.classes) ≡ all_size h.blocks
        = memory.demand_same law own m sized u.classes u.stands h u.class u.identity known may.unused place places first in
        let some : has_free u.class u.classes ≡ true
        = memory.some_free law own m sized u.classes u.stands h u.class u.identity known may.unused place places first in
        let l = memory.heap_length law own m sized u.classes u.stands h in
        let r = may.all in
        let does : fits u ≡ true = fits_is known ∙ le-leb (demand (at_class one_more u.class u.classes)) u.room (omega (arith, d, r, l)) in
        let is_few : TAKE_LINES ≡ (if has_free u.class u.classes then TAKE_LINES else NEXT_LINES)
        = sym (ap (λ b. if b then TAKE_LINES else NEXT_LINES) some) in
        let high = memory.free_high law own m sized u.classes u.stands h u.class u.identity known may.unused place places first in
        let small = memory.free_small law own m sized u.classes u.stands h u.class u.identity known may.unused place places first in
        let low = word_low in
        let a : ℕ = place - 8 in
        let is : a + 8 ≡ place = omega (arith, high) in
        let after : Memory = memory.free_after law own m sized u.classes u.stands h u.class u.identity known may.unused place places first a is in
        taken 12 place after does (omega (arith, is_few))
        (memory.free_rest law own m sized u.classes u.stands h u.class u.identity known may.unused place places first a is)
        (record {
          payload = memory.old_payload law own m sized u.classes u.stands h u.class u.identity known may.unused place places first;
          heap = memory.free_heap law own m sized u.classes u.stands h u.class u.identity known may.unused place places first a is;
        })
        (then_runs live procs called (takes_free live procs n s to rest m u.class place
        (memory.link law own m sized u.classes u.stands h u.class u.identity known may.unused place places first) v0 zero_is known word_small
        (omega (arith, low, high)) (omega (arith, high)) small
        (memory.link_small law own m sized u.classes u.stands h u.class u.identity known may.unused place places first)
        (memory.head_there law own m sized u.classes u.stands h u.class u.identity known may.unused place places first)
        (memory.link_is law own m sized u.classes u.stands h u.class u.identity known may.unused place places first)
        (memory.head_may law own m sized u.classes u.stands h u.class u.identity known may.unused place places first) a is
        (memory.index_is law own m sized u.classes u.stands h u.class u.identity known may.unused place places first a is)
        (memory.index_may law own m sized u.classes u.stands h u.class u.identity known may.unused place places first a is)))

    -- what is above the largest size
    no_size : u.class ≡ size_count → Comes live procs (takes own) u s to rest (if fits u then None else Some 1)
    no_size e =
        let z = h.kept.sizes in
        let most = sized.heap_most in
        let size : size_at u.class ≡ 33554432 = ap size_at e in
        full (ap h.frees e ∙ h.none)
        (cond-false (nat_lt u.class (length u.classes)) (nat_le (demand (at_class one_more u.class u.classes)) u.room) false
        (le-ltb u.class (length u.classes) (omega (arith, e, z))))
        (no_free u.class u.classes (omega (arith, e, z))) (omega (arith, size, most))

    pub take_comes : Comes live procs (takes own) u s to rest (if fits u then None else Some 1)
    take_comes = ⊎_elim no_size (λ no_eq. let k = may.known in by_size (omega (arith, k, no_eq)) (h.frees u.class) refl) (cases_eq u.class size_count)

  pub take_kept : from_proc TAKE procs ≡ later n TAKE 1 6 take_lines ∷ others → IsKeptThere live procs (takes own)
  take_kept stands u s to rest calling sized may = take_comes stands u s to rest calling sized may

  -- ---- a block is given back

  pub give_kept : from_proc GIVE procs ≡ later n GIVE 1 6 give_lines ∷ others → IsKeptThere live procs (gives_back own)
  give_kept stands u s to rest calling sized may =
      let m : Memory = s.memory in
      let h : IsHeap own u.classes u.stands m = may.heap in
      let p : WordProc = give_proc live procs n s to rest in
      let v0 : Vars = params_of p s.frame.given in
      let high = memory.given_high law own m sized u.classes u.stands h u.identity u.block may.there may.kind may.word in
      let small = memory.given_small law own m sized u.classes u.stands h u.identity u.block may.there may.kind may.word in
      let is_block = memory.is_given law own m sized u.classes u.stands h u.identity u.block may.there may.kind may.word in
      let known = is_block.sized in
      let below = words_below law own m sized h.words in
      let a : ℕ = u.block.place - 8 in
      let is : a + 8 ≡ u.block.place = omega (arith, high) in
      let after : Memory = memory.given_after law own m sized u.classes u.stands h u.identity u.block may.there may.kind may.word a is in
      let called = enters live procs s to rest n GIVE 1 6 give_lines others stands in
      let runs = gives live procs n s to rest m u.block.class u.block.place
      (memory.given_link law own m sized u.classes u.stands h u.identity u.block may.there may.kind may.word) a v0 calling.given.0 known
      (omega (arith, below, known)) small
      (memory.given_link_small law own m sized u.classes u.stands h u.identity u.block may.there may.kind may.word) is
      (memory.header_is law own m sized u.classes u.stands h u.identity u.block may.there may.kind may.word a is)
      (memory.header_may law own m sized u.classes u.stands h u.identity u.block may.there may.kind may.word a is)
      (memory.head_read law own m sized u.classes u.stands h u.identity u.block may.there may.kind may.word a is)
      (memory.payload_may law own m sized u.classes u.stands h u.identity u.block may.there may.kind may.word a is)
      (memory.head_open law own m sized u.classes u.stands h u.identity u.block may.there may.kind may.word a is) in
      record {
        memory = after;
        word = u.block.place;
        leaves = memory.given_rest law own m sized u.classes u.stands h u.identity u.block may.there may.kind may.word a is;
        gives = memory.given_heap law own m sized u.classes u.stands h u.identity u.block may.there may.kind may.word a is;
        lines = 14;
        few = omega arith;
        steps = (from_call live procs s to rest GIVE [] _ _ _ calling.next (then_runs live procs called runs)).by;
      }

  -- ---- a size is found

  pub class_kept : from_proc CLASS procs ≡ later n CLASS 1 4 class_lines ∷ others → IsKeptThere live procs finds_class
  class_kept stands payload s to rest calling sized may =
      let v0 : Vars = params_of (class_proc live procs n s to rest) s.frame.given in
      let called = enters live procs s to rest n CLASS 1 4 class_lines others stands in
      let f = class_found live procs n s to rest s.memory payload v0 calling.given.0 in
      let few = f.few in
      record {
        memory = s.memory;
        word = class_word (class_of payload);
        leaves = refl;
        gives = refl;
        lines = 1 + f.lines;
        few = omega (arith, few);
        steps = (from_call live procs s to rest CLASS [] _ _ _ calling.next (then_runs live procs called f.runs)).by;
      }
