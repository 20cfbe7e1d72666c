-- The code of the heap's routines is a runtime of the heap.
use Rattle.std.proofs.Common.{◌≡◌, ℕ, zero, suc, ◌+◌, ◌-◌, ◌*◌, ◌%◌, ◌<◌, ◌≤◌, List, [], ◌∷◌, ◌++◌, length, take, drop, replicate, Some, Ok, Err, false}
use Rattle.std.proofs.Common.{Bool, true, refl, sym, ap, subst, ◌∙◌, arith, length-append, eq-eqb}
use Rattle.std.specs.Prelude.{◌==◌, nat_lt, if◌then◌else◌}
use Rattle.std.proofs.lemmas.Bool.{cond-true}
use Rattle.std.proofs.lemmas.List.{length-replicate}
use Rattle.std.proofs.lemmas.Option.{none-some}
use Rattle.std.proofs.Math.Seq.{take-append_seam, drop-append_seam, drop-append-add}
use Rattle.nim_program.specs.Traps.{OutOfMemory}
use Rattle.nim_types.specs.declared.blocks.TheConstants.{LEAST_BLOCK}
use Rattle.nim_meaning.specs.Heap.{demand, sizes_from, size_count, heap_of}
use Rattle.rv32_isa.specs.Regions.{as_bytes}
use Rattle.rv32_isa.specs.declared.micro_op.Size.TheVariants.{Word}
use Rattle.rv32_isa.specs.declared.machine.FaultKind.TheVariants.{Misaligned}
use Rattle.rv32_isa.specs.Image.{statics_at, heap_at}
use Rattle.rv32_isa.specs.Words.{little, word_bytes}
use Rattle.rv32_isa.specs.Steps.{number_of}
use Rattle.rv32_isa.specs.Machine.{Lives}
use Rattle.rv32_isa.proofs.ForCallers.{length-word_bytes, little-word_bytes}
use Rattle.word_code.specs.declared.routine.TheConstants.{PROCS_FROM, ROUTINE_VARIABLES}
use Rattle.word_code.specs.declared.word.WordInstr.{WordInstr}
use Rattle.word_code.specs.declared.word.WordProc.{WordProc}
use Rattle.word_code.specs.declared.word.WordCode.{WordCode}
use Rattle.word_code.specs.Memory.{Memory, number_at, bytes_at, own_data_at}
use Rattle.word_code.specs.Words.{is_counted, most_called, start}
use Rattle.word_code.specs.RoutineTable.{trap_line}
use Rattle.word_code.specs.Joined.{joined}
use Rattle.word_code.specs.Sizes.{AreRanked}
use Rattle.word_code.specs.Runtime.{IsRoutine, AreRoutines}
use Rattle.word_code.proofs.ForCallers.{MemoryLaw, Sized}
use Rattle.heap_memory.specs.declared.numbers.TheConstants.{TAKE, GIVE, CLASS, HEAP_WORD_BYTES}
use Rattle.refc_runtime.specs.Code.{routine, digits_lines}
use Rattle.heap_memory.specs.HeapBlocks.{size_at}
use Rattle.heap_memory.specs.HeapState.{none_stands, AreCounted, AreKept, IsHeap}
use Rattle.heap_memory.specs.declared.numbers.TheConstants.{MOVE, GROW, ORDER}
use Rattle.heap_memory.specs.declared.numbers.TheConstants.{RELEASE, APPEND, RESIZE, DIGITS}
use Rattle.heap_memory.specs.HeapRoutines.{IsKeptThere}
use Rattle.refc_runtime.specs.TextCode.{move_lines, grow_lines, order_lines}
use Rattle.refc_runtime.specs.LineCode.{release_lines, append_lines, join_lines, resize_lines}
use Rattle.heap_memory.specs.LineRoutine.{reads_line, IsKeptOn}
use Rattle.heap_memory.specs.TextReading.{reads_text}
use Rattle.refc_runtime.specs.InputCode.{read_lines}
use Rattle.heap_memory.specs.declared.numbers.TheConstants.{READ_LINE, JOIN, TEXT_JOIN, TEXT_OF_NUMBER, TEXT_READ}
use Rattle.heap_memory.specs.declared.numbers.TheConstants.{TEXT_ORDER, TEXT_WRITE, TEXT_COPY, TEXT_APPEND, TEXT_RESIZE, SEQ_NEW, SEQ_ADD, SEQ_RESIZE, SEQ_POP}
use Rattle.refc_runtime.specs.HandleCode.{text_order_lines, text_write_lines, text_copy_lines, text_append_lines, text_resize_lines}
use Rattle.refc_runtime.specs.HandleCode.{text_join_lines, text_of_number_lines, text_read_lines}
use Rattle.refc_runtime.specs.HandleCode.{seq_new_lines, seq_add_lines, seq_resize_lines, seq_pop_lines}
use Rattle.heap_memory.specs.HeapRuntime.{HeapRoutineName, Takes, GivesBack, FindsClass, MovesBytes, Grows, Orders, Releases, Appends, Joins}
use Rattle.heap_memory.specs.HeapRuntime.{Resizes, Spells}
use Rattle.heap_memory.specs.HeapRuntime.{OrdersTexts, WritesText, CopiesText, AppendsText, ResizesText, JoinsTexts, PutsNumber, PutsSequence}
use Rattle.heap_memory.specs.HeapRuntime.{AddsElement, ResizesSequence, PopsElement}
use Rattle.heap_memory.specs.HeapRuntime.{heap_routine, IsHeapRuntime}
use Rattle.refc_runtime.specs.HeapCode.{take_lines, give_lines, class_lines, heap_routines, heap_statics}
use Rattle.heap_memory.proofs.ForCallers.{data_part}
use Rattle.refc_runtime.proofs.HeapKept.{take_kept, give_kept, class_kept}
use Rattle.refc_runtime.proofs.MoveRuns.{move_kept}
use Rattle.refc_runtime.proofs.GrowRuns.{grow_comes}
use Rattle.refc_runtime.proofs.NumberKept.{digits_kept}
use Rattle.refc_runtime.proofs.OrderRuns.{order_kept}
use Rattle.refc_runtime.proofs.ReleaseRuns.{release_comes}
use Rattle.refc_runtime.proofs.ReadKept.{read_kept}
use Rattle.refc_runtime.proofs.AppendRuns.{append_comes}
use Rattle.refc_runtime.proofs.ResizeRuns.{resize_comes}
use Rattle.refc_runtime.proofs.HandleRuns.{text_order_comes, text_write_comes, text_append_comes, text_copy_comes, text_resize_comes}
use Rattle.refc_runtime.proofs.JoinRuns.{join_comes}
use Rattle.refc_runtime.proofs.NumberHandles.{text_join_comes, text_of_number_comes}
use Rattle.refc_runtime.proofs.ReadHandles.{text_read_kept}
use Rattle.refc_runtime.proofs.SequenceRuns.{seq_new_comes, seq_add_comes, seq_resize_comes, seq_pop_comes}

-- ---- no block was taken

none_counted : (n class : ℕ) → AreCounted [] (λ c. []) class (sizes_from n (size_at class))
none_counted zero class = tt
none_counted (suc n) class = (record { size = refl; live = refl; peak = omega arith }, none_counted n (suc class))

none_demanded : (n size : ℕ) → demand (sizes_from n size) ≡ 0
none_demanded zero size = refl
none_demanded (suc n) size = omega (arith, none_demanded n (2 * size))

none_kept : AreKept (sizes_from size_count LEAST_BLOCK) none_stands [] (λ c. [])
none_kept = record {
  all = tt;
  held = record { there = λ k s h. absurd (none-some s h); only = λ k s h. absurd (none-some _ h) };
  linked = λ c. tt;
  counted = none_counted size_count 0;
  sizes = refl;
  demanded = sym (none_demanded size_count LEAST_BLOCK);
}

-- ---- the data at the start

-- a word among zeros
zeros_in : (k n : ℕ) (rest : List ℕ) → 4 * k + 4 ≤ n → take 4 (drop (4 * k) (replicate n 0 ++ rest)) ≡ replicate 4 0
zeros_in k zero rest few = absurd (omega (arith, few))
zeros_in k (suc zero) rest few = absurd (omega (arith, few))
zeros_in k (suc (suc zero)) rest few = absurd (omega (arith, few))
zeros_in k (suc (suc (suc zero))) rest few = absurd (omega (arith, few))
zeros_in zero (suc (suc (suc (suc n)))) rest few = refl
zeros_in (suc k) (suc (suc (suc (suc n)))) rest few =
    let e : 4 * suc k ≡ suc (suc (suc (suc (4 * k)))) = omega arith in
    ap (λ i. take 4 (drop i (replicate (suc (suc (suc (suc n)))) 0 ++ rest))) e ∙ zeros_in k n rest (omega (arith, few))

abbrev line : List ℕ
line = trap_line OutOfMemory

abbrev padded : List ℕ
padded = line ++ replicate 15 0

abbrev zeros : List ℕ
zeros = replicate 88 0

abbrev heads : List ℕ
heads = zeros ++ padded

statics_long : length heap_statics ≡ 128
unfolding word_bytes
statics_long = refl

-- as they are written
pub statics_are : (empty all : List ℕ) → empty ≡ [] → all ≡ empty ++ (0 ∷ 0 ∷ 32 ∷ 0 ∷ heads) → all ≡ heap_statics
unfolding word_bytes
statics_are empty all none e = e ∙ ap (λ l. l ++ (0 ∷ 0 ∷ 32 ∷ 0 ∷ heads)) none

head_word : (class : ℕ) → class ≤ size_count → little (take 4 (drop (4 * suc class) heap_statics)) ≡ 0
head_word class known =
    let l = length-word_bytes heap_at in
    let e : 4 * suc class ≡ length (word_bytes heap_at) + 4 * class = omega (arith, l) in
    ap (λ i. little (take 4 (drop i heap_statics))) e
    ∙ ap (λ z. little (take 4 z)) (drop-append-add (word_bytes heap_at) heads (4 * class))
    ∙ ap little (zeros_in class 88 padded (omega (arith, known)))

next_word : little (take 4 (drop 0 heap_statics)) ≡ heap_at
next_word =
    ap (λ i. little (take i heap_statics)) (sym (length-word_bytes heap_at))
    ∙ ap little (take-append_seam (word_bytes heap_at) heads)
    ∙ little-word_bytes heap_at (omega arith)

line_there : take (length line) (drop HEAP_WORD_BYTES heap_statics) ≡ line
line_there =
    let l = length-word_bytes heap_at in
    let e : HEAP_WORD_BYTES ≡ length (word_bytes heap_at) + length zeros = omega (arith, l, length-replicate {A = ℕ} 88 0) in
    ap (λ i. take (length line) (drop i heap_statics)) e
    ∙ ap (take (length line)) (drop-append-add (word_bytes heap_at) heads (length zeros) ∙ drop-append_seam zeros padded)
    ∙ take-append_seam line (replicate 15 0)

abbrev code : WordCode
code = record { procs = heap_routines; statics = heap_statics }

module _ (others : WordCode) (heap stack : ℕ) (input : List ℕ) where
  -- memory at the start
  abbrev first : Memory
  first = record {
    statics = word_bytes heap ++ (word_bytes stack ++ (heap_statics ++ others.statics));
    heap = replicate heap 0;
    places = (start (joined code others) heap stack input).memory.places;
  }

  first_is : first ≡ (start (joined code others) heap stack input).memory
  unfolding start
  first_is = refl

  module _ (sized : Sized first) where
    all_long : length first.statics ≡ 8 + (128 + length others.statics)
    all_long =
        let a = length-word_bytes heap in
        let b = length-word_bytes stack in
        let c = statics_long in
        length-append (word_bytes heap) (word_bytes stack ++ (heap_statics ++ others.statics))
        ∙ ap (λ k. length (word_bytes heap) + k) (length-append (word_bytes stack) (heap_statics ++ others.statics)
        ∙ ap (λ k. length (word_bytes stack) + k) (length-append heap_statics others.statics))
        ∙ omega (arith, a, b, c)

    -- bytes of the routines' data
    own_bytes : (i k : ℕ) → i + k ≤ 128 → bytes_at first (own_data_at + i) k ≡ Some (take k (drop i heap_statics))
    own_bytes i k few =
        let a = length-word_bytes heap in
        let b = length-word_bytes stack in
        let l = all_long in
        let c = statics_long in
        let e : own_data_at + i - statics_at ≡ length (word_bytes heap) + (length (word_bytes stack) + i) = omega (arith, a, b) in
        data_part first sized (own_data_at + i) k (omega arith) (omega (arith, l, few))
        ∙ ap (λ j. Some (take k (drop j first.statics))) e
        ∙ ap (λ z. Some (take k z)) (drop-append-add (word_bytes heap) (word_bytes stack ++ (heap_statics ++ others.statics)) (length (word_bytes stack) + i)
        ∙ drop-append-add (word_bytes stack) (heap_statics ++ others.statics) i)
        ∙ ap Some (front i k heap_statics others.statics (omega (arith, few, c)))
      where
        front : (i k : ℕ) (xs ys : List ℕ) → i + k ≤ length xs → take k (drop i (xs ++ ys)) ≡ take k (drop i xs)
        front zero zero xs ys few = refl
        front zero (suc k) [] ys few = absurd (omega (arith, few))
        front zero (suc k) (x ∷ xs) ys few = ap (λ l. x ∷ l) (front zero k xs ys (omega (arith, few)))
        front (suc i) k [] ys few = absurd (omega (arith, few))
        front (suc i) k (x ∷ xs) ys few = front i k xs ys (omega (arith, few))

    own_word : (i : ℕ) → i % 4 ≡ 0 → i + 4 ≤ 128 → number_at first (own_data_at + i) Word ≡ Ok (little (take 4 (drop i heap_statics)))
    own_word i aligned few =
        cond-true ((own_data_at + i) % 4 == 0) (number_of (bytes_at first (own_data_at + i) 4)) (Err Misaligned)
        (eq-eqb ((own_data_at + i) % 4) 0 (omega (arith, aligned)))
        ∙ ap number_of (own_bytes i 4 few)

    room_word : number_at first statics_at Word ≡ Ok heap
    room_word =
        let l = all_long in
        let r : heap ≤ 16777216 = (let h = sized.heap_most in let e = length-replicate {A = ℕ} heap 0 in omega (arith, h, e)) in
        ap number_of (data_part first sized statics_at 4 (omega arith) (omega (arith, l)))
        ∙ ap (λ i. Ok (little (take i first.statics))) (sym (length-word_bytes heap))
        ∙ ap (λ z. Ok (little z)) (take-append_seam (word_bytes heap) (word_bytes stack ++ (heap_statics ++ others.statics)))
        ∙ ap Ok (little-word_bytes heap (omega (arith, r)))

    starts_so : IsHeap own_data_at (heap_of heap).classes none_stands first
    starts_so =
        let l = all_long in
        record {
          blocks = [];
          frees = λ c. [];
          spare = heap;
          kept = none_kept;
          none = refl;
          bytes = refl;
          words = record {
            whole = refl;
            low = omega arith;
            high = omega (arith, l);
            line = own_bytes HEAP_WORD_BYTES (length line) (omega arith) ∙ ap Some line_there;
          };
          room = room_word ∙ ap Ok (sym (length-replicate {A = ℕ} heap 0));
          next = own_word 0 refl (omega arith) ∙ ap Ok (next_word ∙ omega arith);
          heads = λ c known. own_word (4 * suc c) (omega arith) (omega (arith, known)) ∙ ap Ok (head_word c known);
        }

-- ---- each of them

is_routine : (number params vars : ℕ) (lines : List WordInstr) → 0 < number → number < PROCS_FROM → vars ≤ ROUTINE_VARIABLES
    → IsRoutine (routine number params vars lines)
is_routine number params vars lines some last few =
    record { first = some; last = last; kind = refl; whole_data = refl; small = record { room = omega arith; variables = few } }

-- what calls nothing, what calls that, what calls both, and what is called with handles
abbrev pub rank : ℕ → ℕ
rank number = if nat_lt number GROW then 1 else if nat_lt number APPEND then 2 else if nat_lt number TEXT_ORDER then 3 else 4

calls_nothing : (p : WordProc) → most_called rank p.lines ≡ 0 → 1 ≤ rank p.number → is_counted p.kind ≡ false
    → suc (most_called rank p.lines) ≤ rank p.number
calls_nothing p e r f = omega (arith, e, r)

pub rank_most : (number : ℕ) → rank number ≤ 4
rank_most number = by (nat_lt number GROW) (nat_lt number APPEND) (nat_lt number TEXT_ORDER)
  where
    by : (b d e : Bool) → (if b then 1 else if d then 2 else if e then 3 else 4) ≤ 4
    by true d e = omega arith
    by false true e = omega arith
    by false false true = omega arith
    by false false false = omega arith

-- ---- in front of other procedures

module _ (law : MemoryLaw) (live : Lives) (others : WordCode) where
  abbrev procs : List WordProc
  procs = (joined code others).procs

  takes_there : IsKeptThere live procs (heap_routine own_data_at Takes)
  takes_there = take_kept law live procs 0 _ refl

  gives_there : IsKeptThere live procs (heap_routine own_data_at GivesBack)
  gives_there = give_kept law live procs 0 _ refl

  finds_there : IsKeptThere live procs (heap_routine own_data_at FindsClass)
  finds_there = class_kept law live procs 0 _ refl

  moves_there : IsKeptThere live procs (heap_routine own_data_at MovesBytes)
  moves_there = move_kept law live procs 0 _ refl

  grows_there : IsKeptThere live procs (heap_routine own_data_at Grows)
  grows_there u s to rest calling sized may =
      grow_comes law live procs 0 takes_there gives_there finds_there moves_there s to rest u _ refl calling sized may

  orders_there : IsKeptThere live procs (heap_routine own_data_at Orders)
  orders_there = order_kept live procs 0 _ refl

  appends_there : IsKeptThere live procs (heap_routine own_data_at Appends)
  appends_there u s to rest calling sized may = append_comes law live procs 0 grows_there moves_there u s to rest _ refl calling sized may

  resizes_there : IsKeptThere live procs (heap_routine own_data_at Resizes)
  resizes_there u s to rest calling sized may = resize_comes law live procs 0 grows_there u s to rest _ refl calling sized may

  joins_there : IsKeptThere live procs (heap_routine own_data_at Joins)
  joins_there u s to rest calling sized may = join_comes law live procs 0 grows_there moves_there u s to rest _ refl calling sized may

  releases_there : IsKeptThere live procs (heap_routine own_data_at Releases)
  releases_there u s to rest calling sized may = release_comes live procs 0 gives_there u s to rest _ refl calling sized may

  spells_there : IsKeptThere live procs (heap_routine own_data_at Spells)
  spells_there = digits_kept law live procs 0 _ refl

  all_kept : (name : HeapRoutineName) → IsKeptThere live procs (heap_routine own_data_at name)
  all_kept Takes = takes_there
  all_kept GivesBack = gives_there
  all_kept FindsClass = finds_there
  all_kept MovesBytes = moves_there
  all_kept Grows = grows_there
  all_kept Orders = orders_there
  all_kept Releases = releases_there
  all_kept Appends = appends_there
  all_kept Joins = joins_there
  all_kept Resizes = resizes_there
  all_kept Spells = spells_there
  all_kept OrdersTexts = λ u s to rest calling sized may. text_order_comes live procs 0 orders_there u s to rest _ refl calling sized may
  all_kept WritesText = λ u s to rest calling sized may. text_write_comes live procs 0 u s to rest _ refl calling sized may
  all_kept CopiesText = λ u s to rest calling sized may. text_copy_comes law live procs 0 appends_there u s to rest _ refl calling sized may
  all_kept AppendsText = λ u s to rest calling sized may. text_append_comes law live procs 0 appends_there u s to rest _ refl calling sized may
  all_kept JoinsTexts = λ u s to rest calling sized may. text_join_comes law live procs 0 joins_there u s to rest _ refl calling sized may
  all_kept PutsNumber = λ u s to rest calling sized may.
      text_of_number_comes law live procs 0 spells_there appends_there u s to rest _ refl calling sized may
  all_kept PutsSequence = λ u s to rest calling sized may. seq_new_comes law live procs 0 resizes_there u s to rest _ refl calling sized may
  all_kept AddsElement = λ u s to rest calling sized may. seq_add_comes law live procs 0 grows_there u s to rest _ refl calling sized may
  all_kept ResizesSequence = λ u s to rest calling sized may. seq_resize_comes law live procs 0 resizes_there u s to rest _ refl calling sized may
  all_kept PopsElement = λ u s to rest calling sized may. seq_pop_comes law live procs 0 u s to rest _ refl calling sized may
  all_kept ResizesText = λ u s to rest calling sized may. text_resize_comes law live procs 0 resizes_there u s to rest _ refl calling sized may

  reads_there : (input : List ℕ) → IsKeptOn live procs input (reads_line own_data_at (as_bytes input))
  reads_there input = read_kept law live procs 0 grows_there _ refl input

  reads_texts_there : (input : List ℕ) → IsKeptOn live procs input (reads_text own_data_at (as_bytes input))
  reads_texts_there input = text_read_kept law live procs 0 reads_there releases_there _ refl input

-- those on handles, and the one that joins
abbrev on_handles : List WordProc
on_handles =
    routine JOIN 4 6 join_lines
    ∷ routine TEXT_ORDER 2 6 text_order_lines
    ∷ routine TEXT_WRITE 1 6 text_write_lines
    ∷ routine TEXT_COPY 2 6 text_copy_lines
    ∷ routine TEXT_APPEND 2 6 text_append_lines
    ∷ routine TEXT_RESIZE 2 6 text_resize_lines
    ∷ routine TEXT_JOIN 3 8 text_join_lines
    ∷ routine TEXT_OF_NUMBER 2 6 text_of_number_lines
    ∷ routine TEXT_READ 1 7 text_read_lines
    ∷ routine SEQ_NEW 3 7 seq_new_lines
    ∷ routine SEQ_ADD 2 8 seq_add_lines
    ∷ routine SEQ_RESIZE 3 7 seq_resize_lines
    ∷ routine SEQ_POP 2 6 seq_pop_lines
    ∷ []

on_handles_are : AreRoutines on_handles
on_handles_are = (
  is_routine JOIN 4 6 join_lines (omega arith) (omega arith) (omega arith),
  (
    is_routine TEXT_ORDER 2 6 text_order_lines (omega arith) (omega arith) (omega arith),
    (
      is_routine TEXT_WRITE 1 6 text_write_lines (omega arith) (omega arith) (omega arith),
      (
        is_routine TEXT_COPY 2 6 text_copy_lines (omega arith) (omega arith) (omega arith),
        (
          is_routine TEXT_APPEND 2 6 text_append_lines (omega arith) (omega arith) (omega arith),
          (
            is_routine TEXT_RESIZE 2 6 text_resize_lines (omega arith) (omega arith) (omega arith),
            (
              is_routine TEXT_JOIN 3 8 text_join_lines (omega arith) (omega arith) (omega arith),
              (
                is_routine TEXT_OF_NUMBER 2 6 text_of_number_lines (omega arith) (omega arith) (omega arith),
                (
                  is_routine TEXT_READ 1 7 text_read_lines (omega arith) (omega arith) (omega arith),
                  (
                    is_routine SEQ_NEW 3 7 seq_new_lines (omega arith) (omega arith) (omega arith),
                    (
                      is_routine SEQ_ADD 2 8 seq_add_lines (omega arith) (omega arith) (omega arith),
                      (
                        is_routine SEQ_RESIZE 3 7 seq_resize_lines (omega arith) (omega arith) (omega arith),
                        (
                          is_routine SEQ_POP 2 6 seq_pop_lines (omega arith) (omega arith) (omega arith),
                          tt,
                        ),
                      ),
                    ),
                  ),
                ),
              ),
            ),
          ),
        ),
      ),
    ),
  ),
)

on_handles_ranked : AreRanked rank on_handles
on_handles_ranked = (
  λ uncounted. omega arith,
  (
    λ uncounted. omega arith,
    (
      λ uncounted. omega arith,
      (
        λ uncounted. omega arith,
        (
          λ uncounted. omega arith,
          (
            λ uncounted. omega arith,
            (
              λ uncounted. omega arith,
              (
                λ uncounted. omega arith,
                (
                  λ uncounted. omega arith,
                  (
                    λ uncounted. omega arith,
                    (
                      λ uncounted. omega arith,
                      (
                        λ uncounted. omega arith,
                        (
                          calls_nothing (routine SEQ_POP 2 6 seq_pop_lines) refl (omega arith),
                          tt,
                        ),
                      ),
                    ),
                  ),
                ),
              ),
            ),
          ),
        ),
      ),
    ),
  ),
)

pub heap_ranked : AreRanked rank heap_routines
heap_ranked = (
  calls_nothing (routine TAKE 1 6 take_lines) refl (omega arith),
  (
    calls_nothing (routine GIVE 1 6 give_lines) refl (omega arith),
    (
      calls_nothing (routine CLASS 1 4 class_lines) refl (omega arith),
      (
        calls_nothing (routine MOVE 3 7 move_lines) refl (omega arith),
        (
          λ uncounted. omega arith,
          (
            calls_nothing (routine ORDER 4 8 order_lines) refl (omega arith),
            (
              λ uncounted. omega arith,
              (
                λ uncounted. omega arith,
                (
                  λ uncounted. omega arith,
                  (
                    calls_nothing (routine DIGITS 2 7 digits_lines) refl (omega arith),
                    (
                      λ uncounted. omega arith,
                      on_handles_ranked,
                    ),
                  ),
                ),
              ),
            ),
          ),
        ),
      ),
    ),
  ),
)

is_heap_runtime : MemoryLaw → IsHeapRuntime code
is_heap_runtime law = record {
  formed = refl;
  routines = (
    is_routine TAKE 1 6 take_lines (omega arith) (omega arith) (omega arith),
    (
      is_routine GIVE 1 6 give_lines (omega arith) (omega arith) (omega arith),
      (
        is_routine CLASS 1 4 class_lines (omega arith) (omega arith) (omega arith),
        (
          is_routine MOVE 3 7 move_lines (omega arith) (omega arith) (omega arith),
          (
            is_routine GROW 3 6 grow_lines (omega arith) (omega arith) (omega arith),
            (
              is_routine ORDER 4 8 order_lines (omega arith) (omega arith) (omega arith),
              (
                is_routine RELEASE 1 2 release_lines (omega arith) (omega arith) (omega arith),
                (
                  is_routine APPEND 4 6 append_lines (omega arith) (omega arith) (omega arith),
                  (
                    is_routine RESIZE 3 7 resize_lines (omega arith) (omega arith) (omega arith),
                    (
                      is_routine DIGITS 2 7 digits_lines (omega arith) (omega arith) (omega arith),
                      (
                        is_routine READ_LINE 1 9 read_lines (omega arith) (omega arith) (omega arith),
                        on_handles_are,
                      ),
                    ),
                  ),
                ),
              ),
            ),
          ),
        ),
      ),
    ),
  );
  rank = rank;
  ranked = heap_ranked;
  chain = rank_most;
  weight = omega arith;
  long = statics_long;
  starts = λ others heap stack input sized.
      subst (IsHeap own_data_at (heap_of heap).classes none_stands) (first_is others heap stack input)
      (starts_so others heap stack input (subst (λ m. Sized m) (sym (first_is others heap stack input)) sized));
  kept = λ live others name. all_kept law live others name;
  reads = λ live others input. reads_there law live others input;
  reads_texts = λ live others input. reads_texts_there law live others input;
}

pub heap_runtime_is : MemoryLaw → (all : List WordProc) (bytes : List ℕ) → all ≡ heap_routines → bytes ≡ heap_statics
    → IsHeapRuntime (record { procs = all; statics = bytes })
heap_runtime_is law all bytes e f =
    subst (λ ps. IsHeapRuntime (record { procs = ps; statics = bytes })) (sym e)
    (subst (λ bs. IsHeapRuntime (record { procs = heap_routines; statics = bs })) (sym f) (is_heap_runtime law))
