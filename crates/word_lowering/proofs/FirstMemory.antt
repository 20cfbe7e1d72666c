-- The memory at the start: zeros, but for texts and names in the data.
use Rattle.std.proofs.Common.{◌≡◌, inl, inr, ℕ, zero, suc, ◌+◌, ◌-◌, ◌%◌, ◌<◌, ◌≤◌, List, []}
use Rattle.std.proofs.Common.{◌∷◌, ◌++◌, length, take, drop, replicate, Some, None, Err, true, false}
use Rattle.std.proofs.Common.{refl, sym, ap, ap₂, subst, ◌∙◌, arith, append_assoc, length-append, length-drop, codes, Option, le-leb, ne_eqb}
use Rattle.std.specs.Prelude.{◌==◌, ◌||◌, nat_le}
use Rattle.std.proofs.lemmas.Bool.{and_from, eq-eqb, cond-true, cond-false}
use Rattle.rv32_isa.specs.declared.machine.FaultKind.TheVariants.{Misaligned}
use Rattle.rv32_isa.specs.Hooks.{code_at}
use Rattle.rv32_isa.specs.Image.{statics_at, heap_at, stack_at}
use Rattle.rv32_isa.specs.Words.{word_bytes}
use Rattle.rv32_isa.specs.State.{lies_in, part_of, or_else, writable}
use Rattle.rv32_isa.specs.Steps.{number_of}
use Rattle.rv32_isa.proofs.ForCallers.{length-word_bytes}
use Rattle.nim_types.specs.declared.types.TypeDef.{TypeDef}
use Rattle.flat_code.specs.declared.block.BlockLine.{BlockLine}
use Rattle.flat_code.specs.declared.code.Code.{Code}
use Rattle.rv32_isa.specs.Regions.{AreBytes}
use Rattle.word_code.specs.declared.word.WordCode.{WordCode}
use Rattle.word_code.specs.Memory.{Memory, as_state, may_put, bytes_at, may_fill, own_data_at, data_of as whole_data}
use Rattle.word_code.specs.declared.routine.TheConstants.{RUNTIME_DATA, SCRATCH_BYTES}
use Rattle.word_code.specs.Routines.{HasData}
use Rattle.rv32_isa.specs.declared.micro_op.Size.{Size}
use Rattle.rv32_isa.specs.declared.micro_op.Size.TheVariants.{Byte, Half, Word}
use Rattle.rv32_isa.specs.Steps.{size_of}
use Rattle.word_code.specs.RoutineTable.{Cell}
use Rattle.word_code.proofs.ForCallers.{Sized}
use Rattle.word_lowering.specs.declared.handed.TheConstants.{LEFT_HANDLE_AT}
use Rattle.word_lowering.specs.declared.texts.TheConstants.{FIXED_BYTES}
use Rattle.word_lowering.specs.declared.may_lower.TheConstants.{MOST_DATA, MOST_ROOM}
use Rattle.word_lowering.specs.Texts.{missing, fixed_texts, all_names, ends_from, joined_all, texts_from, data_in, padded}
use Rattle.word_lowering.specs.Lowered.{data_at, data_of, globals_end, lowered}
use Rattle.heap_memory.specs.declared.numbers.TheConstants.{HEAP_DATA}
use Rattle.word_lowering.specs.Runtimes.{Runtimes, with_runtimes}
use Rattle.word_lowering.proofs.Padding.{zeros_length}
use Rattle.word_lowering.proofs.Related.{procs, routines, IsOpen, MemoryGood}
use Rattle.word_code.specs.Words.{from_proc, first_of}
use Rattle.word_code.specs.declared.word.TheConstants.{SPARE_ROOM}
use Rattle.word_lowering.proofs.CallPlaces.{in_front, no_code, place_cell}
use Rattle.word_lowering.proofs.Sites.{Site, next_base}

-- ---- zeros in lists

pub drop_past : (xs ys : List ℕ) (j : ℕ) → drop (length xs + j) (xs ++ ys) ≡ drop j ys
drop_past [] ys j = let e : 0 + j ≡ j = omega arith in ap (λ k. drop k ys) e
drop_past (x ∷ xs) ys j =
    let e : suc (length xs) + j ≡ suc (length xs + j) = omega arith in ap (λ k. drop k (x ∷ (xs ++ ys))) e ∙ drop_past xs ys j

zeros_bytes : (n : ℕ) → AreBytes (replicate n 0)
zeros_bytes zero = tt
zeros_bytes (suc n) = (omega arith, zeros_bytes n)

zeros_in : (k j n : ℕ) (rest : List ℕ) → j + n ≤ k → take n (drop j (replicate k 0 ++ rest)) ≡ replicate n 0
zeros_in k j zero rest h = refl
zeros_in zero j (suc n) rest h = absurd (omega (arith, h))
zeros_in (suc k) zero (suc n) rest h = ap (λ l. 0 ∷ l) (zeros_in k 0 n rest (omega (arith, h)))
zeros_in (suc k) (suc j) (suc n) rest h = zeros_in k j (suc n) rest (omega (arith, h))

all_taken : (xs : List ℕ) → take (length xs) xs ≡ xs
all_taken [] = refl
all_taken (x ∷ xs) = ap (λ l. x ∷ l) (all_taken xs)

-- ---- bytes of the data

lies_here : (base : ℕ) (s : List ℕ) (i n : ℕ) → i + n ≤ length s → lies_in base s (base + i) n ≡ true
lies_here base s i n within = and_from (nat_le base (base + i)) (nat_le (base + i + n) (base + length s)) (le-leb base (base + i) (omega arith))
    (le-leb (base + i + n) (base + length s) (omega (arith, within)))

module _ (m : Memory) where
  bytes_here : (i n : ℕ) → 0 < n → i + n ≤ length m.statics → bytes_at m (statics_at + i) n ≡ Some (take n (drop i m.statics))
  bytes_here i n some within =
      let at : ℕ = statics_at + i in
      let lies : lies_in statics_at m.statics at n ≡ true = lies_here statics_at m.statics i n within in
      let place : at - statics_at ≡ i = omega arith in
      let rest : Option (List ℕ) = or_else (part_of heap_at m.heap at n) (part_of stack_at m.places at n) in
      cond-false (n == 0) (Some []) _ (ne_eqb n 0 (λ e. omega (arith, some, e)))
      ∙ ap (λ o. or_else o (or_else (part_of statics_at m.statics at n) rest)) (cond-false (lies_in code_at [] at n) _ None (no_code at n (omega arith) some))
      ∙ ap (λ o. or_else o rest) (cond-true (lies_in statics_at m.statics at n) _ None lies)
      ∙ ap (λ j. Some (take n (drop j m.statics))) place

-- ---- the data of the machine, before the code's own

whole_drop : (heap stack i : ℕ) (d : List ℕ) → drop (8 + i) (whole_data heap stack d) ≡ drop i d
unfolding word_bytes
whole_drop heap stack i d =
    let e : 8 + i ≡ suc (suc (suc (suc (suc (suc (suc (suc i))))))) = omega arith in ap (λ k. drop k (whole_data heap stack d)) e

data_length : (heap stack : ℕ) (d : List ℕ) → length (whole_data heap stack d) ≡ 8 + length d
data_length heap stack d =
    let a = length-append (word_bytes heap) (word_bytes stack ++ d) in
    let b = length-append (word_bytes stack) d in
    let p = length-word_bytes heap in
    let q = length-word_bytes stack in
    omega (arith, a, b, p, q)

-- the bytes of the start code's places
abbrev pub start_room : WordCode → ℕ
start_room code = (first_of (from_proc 0 code.procs)).room

abbrev pub first_memory : WordCode → (heap stack : ℕ) → Memory
first_memory code heap stack =
    record { statics = whole_data heap stack code.statics; heap = replicate heap 0; places = replicate (start_room code + SPARE_ROOM) 0 }

module _ (code : WordCode) (heap stack : ℕ) where
  abbrev first : Memory
  first = first_memory code heap stack

  -- whatever places there are
  pub first_reads : (places : List ℕ) (i n : ℕ) → 0 < n → i + n ≤ length code.statics
      → bytes_at (record first { places = places }) (own_data_at + i) n ≡ Some (take n (drop i code.statics))
  first_reads places i n some within =
      let long = data_length heap stack code.statics in
      let place : own_data_at + i ≡ statics_at + (8 + i) = omega arith in
      ap (λ a. bytes_at (record first { places = places }) a n) place
      ∙ bytes_here (record first { places = places }) (8 + i) n some (omega (arith, within, long))
      ∙ ap (λ l. Some (take n l)) (whole_drop heap stack i code.statics)

  -- a word of the data may be written
  pub first_may : (i : ℕ) → (own_data_at + i) % 4 ≡ 0 → i + 4 ≤ length code.statics → may_put first (own_data_at + i) Word ≡ true
  first_may i whole within =
      let a : ℕ = own_data_at + i in
      let long = data_length heap stack code.statics in
      let place : statics_at + (8 + i) ≡ a = omega arith in
      let lies : lies_in statics_at first.statics a 4 ≡ true
      = ap (λ b. lies_in statics_at first.statics b 4) (sym place) ∙ lies_here statics_at first.statics (8 + i) 4 (omega (arith, within, long)) in
      let even : (a % 4 == 0) ≡ true = eq-eqb (a % 4) 0 whole in
      let may : writable (as_state first) a 4 ≡ true = ap (λ b. b || (lies_in heap_at first.heap a 4 || lies_in stack_at first.places a 4)) lies in
      and_from (a % 4 == 0) (writable (as_state first) a 4) even may

  -- a word of zeros in the data
  first_cell : (i : ℕ) → (own_data_at + i) % 4 ≡ 0 → i + 4 ≤ length code.statics → take 4 (drop i code.statics) ≡ replicate 4 0
      → Cell first (own_data_at + i)
  first_cell i whole within zeros = record {
    may = first_may i whole within;
    word = 0;
    reads = cond-true ((own_data_at + i) % 4 == 0) _ (Err Misaligned) (eq-eqb ((own_data_at + i) % 4) 0 whole)
        ∙ ap number_of (first_reads first.places i 4 (omega arith) within ∙ ap Some zeros);
  }

-- ---- the code's own data

module _ (table : List TypeDef) (blocks : Code BlockLine) where
  abbrev pub own : List ℕ
  own = data_of table blocks.procs

  abbrev pub globals : ℕ
  globals = globals_end table blocks.procs

  abbrev pub fixed : List ℕ
  fixed = replicate 4 0 ++ fixed_texts

  abbrev pub behind : List ℕ
  behind = ends_from 0 (all_names table) ++ (padded (joined_all (all_names table)) ++ texts_from table globals blocks.procs)

  abbrev pub pad : List ℕ
  pad = replicate (missing (length (data_in table globals blocks.procs))) 0

  pub own_is : own ≡ fixed ++ (replicate (globals - LEFT_HANDLE_AT) 0 ++ (behind ++ pad))
  own_is =
      append_assoc (replicate 4 0) (fixed_texts ++ (replicate (globals - LEFT_HANDLE_AT) 0 ++ behind)) pad
      ∙ ap (λ l. replicate 4 0 ++ l) (append_assoc fixed_texts (replicate (globals - LEFT_HANDLE_AT) 0 ++ behind) pad
      ∙ ap (λ l. fixed_texts ++ l) (append_assoc (replicate (globals - LEFT_HANDLE_AT) 0) behind pad))
      ∙ sym (append_assoc (replicate 4 0) fixed_texts (replicate (globals - LEFT_HANDLE_AT) 0 ++ (behind ++ pad)))

  pub own_length : length own ≡ 20 + ((globals - 20) + length (behind ++ pad))
  own_length =
      let a = length-append fixed (replicate (globals - LEFT_HANDLE_AT) 0 ++ (behind ++ pad)) in
      let b = length-append (replicate (globals - LEFT_HANDLE_AT) 0) (behind ++ pad) in
      let z : length {A = ℕ} (replicate (globals - LEFT_HANDLE_AT) 0) ≡ globals - 20 = zeros_length (globals - LEFT_HANDLE_AT) in
      let f : length fixed ≡ 20 = refl in
      let o = ap length own_is in
      omega (arith, a, b, z, f, o)

  -- globals are zeros
  globals_zero : (i : ℕ) → 20 ≤ i → i + 4 ≤ globals → take 4 (drop i own) ≡ replicate 4 0
  globals_zero i low high =
      let j : ℕ = i - 20 in
      let f : length fixed ≡ 20 = refl in
      let e : i ≡ length fixed + j = omega (arith, f, low) in
      ap₂ (λ l k. take 4 (drop k l)) own_is e ∙ ap (take 4) (drop_past fixed (replicate (globals - LEFT_HANDLE_AT) 0 ++ (behind ++ pad)) j)
      ∙ zeros_in (globals - LEFT_HANDLE_AT) j 4 (behind ++ pad) (omega (arith, low, high))

  module _ (runtime : Runtimes) (heap stack : ℕ) where
    abbrev code : WordCode
    code = with_runtimes runtime (lowered table blocks)

    -- the data of the heap's routines stands in front
    heap_long : length runtime.heap.statics ≡ HEAP_DATA
    heap_long = runtime.is_heap.long

    abbrev front : List ℕ
    front = runtime.heap.statics ++ own

    front_length : length front ≡ HEAP_DATA + length own
    front_length = let l = length-append runtime.heap.statics own in let h = heap_long in omega (arith, l, h)

    abbrev start : Memory
    start = first_memory code heap stack

    pub whole_length : length code.statics ≡ HEAP_DATA + length own + length runtime.others.statics
    whole_length = let l = length-append front runtime.others.statics in let f = front_length in omega (arith, l, f)

    -- the same bytes of the whole
    own_same : (i n : ℕ) → i + n ≤ length own → take n (drop (HEAP_DATA + i) code.statics) ≡ take n (drop i own)
    own_same i n within =
        let f = front_length in
        let e : HEAP_DATA + i ≡ length runtime.heap.statics + i = let h = heap_long in omega (arith, h) in
        in_front (HEAP_DATA + i) n front runtime.others.statics (omega (arith, f, within))
        ∙ ap (λ k. take n (drop k front)) e ∙ ap (take n) (drop_past runtime.heap.statics own i)

    -- what is read of it
    pub own_reads : (i n : ℕ) → 0 < n → i + n ≤ length own → bytes_at start (data_at + i) n ≡ Some (take n (drop i own))
    own_reads i n some within =
        let l = whole_length in
        let place : data_at + i ≡ own_data_at + (HEAP_DATA + i) = omega arith in
        ap (λ a. bytes_at start a n) place ∙ first_reads code heap stack start.places (HEAP_DATA + i) n some (omega (arith, within, l))
        ∙ ap Some (own_same i n within)

    pub own_may : (i : ℕ) → (data_at + i) % 4 ≡ 0 → i + 4 ≤ length own → may_put start (data_at + i) Word ≡ true
    own_may i whole within =
        let l = whole_length in
        let place : own_data_at + (HEAP_DATA + i) ≡ data_at + i = omega arith in
        subst (λ a. may_put start a Word ≡ true) place (first_may code heap stack (HEAP_DATA + i) (omega (arith, whole)) (omega (arith, within, l)))

    -- the data of routines stands behind it
    pub routines_given : SCRATCH_BYTES ≤ length runtime.others.statics → (places : List ℕ)
        → HasData (routines table blocks) runtime.others.statics (record start { places = places })
    routines_given least places =
        let with_these : Memory = record start { places = places } in
        let n : ℕ = HEAP_DATA + length own in
        let l = whole_length in
        let place : routines table blocks ≡ statics_at + (8 + n) = omega arith in
        let long = data_length heap stack code.statics in
        let may : may_fill with_these (statics_at + (8 + n)) SCRATCH_BYTES ≡ true
        = ap (λ b. b || (lies_in heap_at start.heap (statics_at + (8 + n)) SCRATCH_BYTES || lies_in stack_at places (statics_at + (8 + n)) SCRATCH_BYTES))
        (lies_here statics_at start.statics (8 + n) SCRATCH_BYTES (omega (arith, long, l, least))) in record {
          scratch = ap (λ a. may_fill with_these a SCRATCH_BYTES) place ∙ may;
          fixed = fixed_there (drop SCRATCH_BYTES runtime.others.statics) refl;
        }
      where
        fixed_there : (bytes : List ℕ) → drop SCRATCH_BYTES runtime.others.statics ≡ bytes
            → bytes_at (record start { places = places }) (routines table blocks + SCRATCH_BYTES) (length bytes) ≡ Some bytes
        fixed_there [] e = refl
        fixed_there (b ∷ bytes) e =
            let n : ℕ = HEAP_DATA + length own in
            let l = whole_length in
            let d = length-drop SCRATCH_BYTES runtime.others.statics in
            let many = ap length e in
            let place : routines table blocks + SCRATCH_BYTES ≡ own_data_at + (n + SCRATCH_BYTES) = omega arith in
            let past : n + SCRATCH_BYTES ≡ length front + SCRATCH_BYTES = let f = front_length in omega (arith, f) in
            ap (λ a. bytes_at (record start { places = places }) a (length (b ∷ bytes))) place
            ∙ first_reads code heap stack places (n + SCRATCH_BYTES) (length (b ∷ bytes)) (omega arith) (omega (arith, l, d, many))
            ∙ ap (λ k. Some (take (length (b ∷ bytes)) k)) (ap (λ j. drop j code.statics) past ∙ drop_past front runtime.others.statics SCRATCH_BYTES ∙ e)
            ∙ ap Some (all_taken (b ∷ bytes))

    -- a character may be put
    pub letter_first : (places : List ℕ) → may_put (record start { places = places }) data_at Byte ≡ true
    letter_first places =
        let l = own_length in
        let w = whole_length in
        let long = data_length heap stack code.statics in
        ap (λ b. b || (lies_in heap_at start.heap data_at 1 || lies_in stack_at places data_at 1))
        (lies_here statics_at start.statics (8 + HEAP_DATA) 1 (omega (arith, long, w, l)))

    -- and handles for operands, in front of the globals
    pub handles_first : FIXED_BYTES ≤ globals → (places : List ℕ) (i : ℕ) (size : Size) → i + size_of size ≤ FIXED_BYTES
        → ((data_at + i) % size_of size == 0) ≡ true → may_put (record start { places = places }) (data_at + i) size ≡ true
    handles_first least places i size within whole = by size within whole
      where
        lies : (n : ℕ) → i + n ≤ FIXED_BYTES → lies_in statics_at start.statics (data_at + i) n ≡ true
        lies n few =
            let l = own_length in
            let w = whole_length in
            let long = data_length heap stack code.statics in
            let place : data_at + i ≡ statics_at + (8 + HEAP_DATA + i) = omega arith in
            ap (λ a. lies_in statics_at start.statics a n) place
            ∙ lies_here statics_at start.statics (8 + HEAP_DATA + i) n (omega (arith, long, w, l, least, few))

        may : (n : ℕ) → i + n ≤ FIXED_BYTES
            → lies_in statics_at start.statics (data_at + i) n || (lies_in heap_at start.heap (data_at + i) n || lies_in stack_at places (data_at + i) n)
            ≡ true
        may n few = ap (λ b. b || (lies_in heap_at start.heap (data_at + i) n || lies_in stack_at places (data_at + i) n)) (lies n few)

        by : (size : Size) → i + size_of size ≤ FIXED_BYTES → ((data_at + i) % size_of size == 0) ≡ true
            → may_put (record start { places = places }) (data_at + i) size ≡ true
        by Byte few aligned = and_from ((data_at + i) % 1 == 0) _ aligned (may 1 few)
        by Half few aligned = and_from ((data_at + i) % 2 == 0) _ aligned (may 2 few)
        by Word few aligned = and_from ((data_at + i) % 4 == 0) _ aligned (may 4 few)

    pub good_first : Sized start → (sites : List Site) → next_base sites ≡ stack_at + start_room code → MemoryGood table blocks sites start start
    good_first sized sites next = record {
      sized = sized;
      statics = refl;
      heap = refl;
      bytes = zeros_bytes heap;
      places = long;
      cells = cells;
      texts = λ b n h. refl;
    }
      where
        long : stack_at + length start.places ≡ next_base sites + SPARE_ROOM
        long = let p = zeros_length (start_room code + SPARE_ROOM) in omega (arith, p, next)

        cells : (a : ℕ) → a % 4 ≡ 0 → IsOpen table blocks sites a → Cell start a
        cells a whole (inl h) =
            let l = own_length in
            let w = whole_length in
            let i : ℕ = a - data_at in
            let e : own_data_at + (HEAP_DATA + i) ≡ a = omega (arith, h.0) in
            let g : i + 4 ≤ globals = omega (arith, h.0, h.1) in
            let within : i + 4 ≤ length own = omega (arith, l, g, h.0) in
            subst (Cell start) e (first_cell code heap stack (HEAP_DATA + i) (omega (arith, e, whole)) (omega (arith, w, within))
            (own_same i 4 within ∙ globals_zero i (omega (arith, h.0)) g))
        cells a whole (inr h) = place_cell start sized a whole h.0 (let e = long in omega (arith, h.1, e))

    -- texts that each program has
    fixed_text : (i : ℕ) (text : List ℕ) → 0 < length text → i + length text ≤ 20 → take (length text) (drop i own) ≡ text
        → bytes_at start (data_at + i) (length text) ≡ Some text
    fixed_text i text some within is = let l = own_length in own_reads i (length text) some (omega (arith, l, within)) ∙ ap Some is

    pub line_end_first : bytes_at start (data_at + 4) 1 ≡ Some (10 ∷ [])
    line_end_first = fixed_text 4 (10 ∷ []) (omega arith) (omega arith) refl

    pub false_first : bytes_at start (data_at + 8) 5 ≡ Some (codes "false")
    false_first = fixed_text 8 (codes "false") (omega arith) (omega arith) refl

    pub true_first : bytes_at start (data_at + 16) 4 ≡ Some (codes "true")
    true_first = fixed_text 16 (codes "true") (omega arith) (omega arith) refl

    -- its regions are as large as the machine's
    pub sized_first : heap ≤ 16777216 → start_room code ≤ MOST_ROOM → length own ≤ MOST_DATA → length runtime.others.statics ≤ RUNTIME_DATA → Sized start
    sized_first heap_most places_most data_most runtime_most =
        let l = data_length heap stack code.statics in
        let w = whole_length in
        let h = zeros_length heap in
        let p = zeros_length (start_room code + SPARE_ROOM) in
        record {
          code_most = omega arith;
          statics_most = omega (arith, l, w, data_most, runtime_most);
          heap_most = omega (arith, h, heap_most);
          stack_most = omega (arith, p, places_most);
        }
