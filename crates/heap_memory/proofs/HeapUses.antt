-- Blocks stand apart, and stay where memory changes elsewhere.
use Rattle.std.proofs.Common.{◌≡◌, ◌≢◌, ℕ, suc, ◌+◌, ◌-◌, ◌*◌, ◌%◌, ◌<◌, ◌≤◌, ◌⊎◌, inl, inr, List, [], ◌∷◌, ◌++◌, length, take, drop, replicate, Some, Ok, Err}
use Rattle.std.proofs.Common.{refl, sym, ap, ap₂, subst, ◌∙◌, ⊎_elim, arith, append_assoc, length-append}
use Rattle.std.specs.Prelude.{◌==◌, if◌then◌else◌}
use Rattle.std.proofs.lemmas.Bool.{cases_eq, cases_order, cond-true, eq-eqb}
use Rattle.std.proofs.lemmas.List.{length-take, length-drop, take-append-drop, drop-drop, length-replicate}
use Rattle.std.proofs.lemmas.Option.{none-some, same_Some}
use Rattle.std.proofs.Math.Seq.{take-append_seam, drop-append_seam, drop-append-add}
use Rattle.nim_program.specs.Traps.{OutOfMemory}
use Rattle.nim_meaning.specs.Heap.{Class, size_count}
use Rattle.rv32_isa.specs.declared.micro_op.Size.TheVariants.{Word}
use Rattle.rv32_isa.specs.declared.machine.FaultKind.TheVariants.{Misaligned}
use Rattle.rv32_isa.specs.Image.{statics_at, heap_at}
use Rattle.rv32_isa.specs.Words.{word_bytes}
use Rattle.rv32_isa.specs.Steps.{number_of}
use Rattle.rv32_isa.proofs.ForCallers.{length-word_bytes, little-word_bytes}
use Rattle.word_code.specs.Memory.{Memory, number_at, bytes_at}
use Rattle.word_code.specs.RoutineTable.{Beside, IsRewritten, trap_line}
use Rattle.word_code.proofs.ForCallers.{Sized}
use Rattle.heap_memory.specs.declared.numbers.TheConstants.{HEAP_WORD_BYTES, HEAP_SCRATCH}
use Rattle.heap_memory.specs.HeapBlocks.{size_at, Block, first_word, block_size, IsBlock, all_bytes, all_size, first_place, block_from, block_in}
use Rattle.heap_memory.specs.HeapState.{Standing, Stands, with_block, held_block, AreHeld, IsAway, free_block, AreKept, HasHeapData, IsHeap}
use Rattle.heap_memory.specs.HeapUse.{IsThere, AreDistant, IsRefilled, IsElsewhere}
use Rattle.heap_memory.proofs.BlockLists.{if_same, if_other, placed, placed_here, placed_other, within, placed_size, placed_blocks, block_found}
use Rattle.heap_memory.proofs.BlockLists.{held_one, placed_count, length_all}
use Rattle.heap_memory.proofs.Counts.{all_counted}
use Rattle.heap_memory.proofs.Kept.{not_free, one_block, SameBut, still_linked, is_away}
use Rattle.heap_memory.proofs.BlockBytes.{BlockBytes, block_bytes_at}
use Rattle.heap_memory.proofs.Ranges.{heap_part, heap_open, data_part}

-- ---- blocks apart

ordered : (f p q : ℕ) (b x : Block) (bs : List Block) → block_from f p bs ≡ Some b → block_from f q bs ≡ Some x → p < q → p + block_size b ≤ q
ordered f p q b x [] h g less = absurd (none-some b h)
ordered f p q b x (y ∷ bs) h g less = ⊎_elim
    (λ e.
    let same : y ≡ b = same_Some y b (sym (if_same f p (Some y) (block_from (f + block_size y) p bs) e) ∙ h) in
    let s : block_size y ≡ block_size b = ap block_size same in
    let w = within (f + block_size y) q x bs (sym (if_other f q (Some y) (block_from (f + block_size y) q bs) (λ i. absurd (omega (arith, i, e, less)))) ∙ g) in
    let l = w.low in
    omega (arith, e, s, l))
    (λ no_eq.
    let w = within f p b (y ∷ bs) h in
    let l = w.low in
    ordered (f + block_size y) p q b x bs (sym (if_other f p (Some y) (block_from (f + block_size y) p bs) no_eq) ∙ h)
    (sym (if_other f q (Some y) (block_from (f + block_size y) q bs) (λ i. absurd (omega (arith, i, l, less)))) ∙ g) less)
    (cases_eq f p)

module _ (at : ℕ) (classes : List Class) (stands : Stands) (m : Memory) (h : IsHeap at classes stands m) where
  abbrev found : (k : ℕ) (s : Standing) → stands k ≡ Some s → block_in s.place h.blocks ≡ Some (held_block k s)
  found k s there = h.kept.held.there k s there

  whole_of : (k : ℕ) (s : Standing) → stands k ≡ Some s → IsBlock (held_block k s)
  whole_of k s there = block_found first_place s.place (held_block k s) h.blocks h.kept.all (found k s there)

  pub distant : (j k : ℕ) (s t : Standing) → stands j ≡ Some s → stands k ≡ Some t → j ≢ k → AreDistant s t
  distant j k s t a b other =
      let u = (whole_of j s a).whole in
      let v = (whole_of k t b).whole in
      by (cases_order s.place t.place) u v
    where
      by : (s.place ≡ t.place) ⊎ ((s.place < t.place) ⊎ (t.place < s.place)) → 8 + length s.payload ≡ size_at s.class
          → 8 + length t.payload ≡ size_at t.class → AreDistant s t
      by (inl e) u v =
          absurd (other ((one_block j k s t e (same_Some (held_block j s) (held_block k t)
          (sym (found j s a) ∙ ap (λ p. block_in p h.blocks) e ∙ found k t b))).identity))
      by (inr (inl l)) u v =
          let o = ordered first_place s.place t.place (held_block j s) (held_block k t) h.blocks (found j s a) (found k t b) l in
          inl (omega (arith, o, u))
      by (inr (inr l)) u v =
          let o = ordered first_place t.place s.place (held_block k t) (held_block j s) h.blocks (found k t b) (found j s a) l in
          inr (omega (arith, o, v))

  abbrev zeros : List ℕ
  zeros = replicate h.spare 0

  all_long : length m.heap ≡ all_size h.blocks + h.spare
  all_long =
      ap length h.bytes ∙ length-append (all_bytes h.blocks) zeros
      ∙ let a = length_all h.blocks h.kept.all in let b : length zeros ≡ h.spare = length-replicate h.spare 0 in omega (arith, a, b)

  -- ---- where a block stands

  module _ (k : ℕ) (s : Standing) (there : stands k ≡ Some s) where
    abbrev parts : BlockBytes s.place (held_block k s) h.blocks zeros
    parts = block_bytes_at classes stands h.blocks h.frees h.kept s.place (held_block k s) zeros (found k s there)

    -- the bytes in front of the payload
    abbrev front : List ℕ
    front = parts.before ++ (word_bytes (first_word s.kind s.class) ++ word_bytes s.word)

    front_long : s.place ≡ heap_at + length front
    front_long =
        let f = parts.far in
        let a = length-word_bytes (first_word s.kind s.class) in
        let b = length-word_bytes s.word in
        let n : length front ≡ length parts.before + 8
        = length-append parts.before (word_bytes (first_word s.kind s.class) ++ word_bytes s.word)
        ∙ ap (λ i. length parts.before + i) (length-append (word_bytes (first_word s.kind s.class)) (word_bytes s.word)) ∙ omega (arith, a, b) in
        omega (arith, f, n)

    joined : (first second payload : List ℕ) → parts.before ++ (first ++ (second ++ (payload ++ parts.after)))
        ≡ (parts.before ++ (first ++ second)) ++ (payload ++ parts.after)
    joined first second payload =
        ap (λ l. parts.before ++ l) (sym (append_assoc first second (payload ++ parts.after)))
        ∙ sym (append_assoc parts.before (first ++ second) (payload ++ parts.after))

    heap_is : m.heap ≡ front ++ (s.payload ++ parts.after)
    heap_is = h.bytes ∙ parts.bytes ∙ joined (word_bytes (first_word s.kind s.class)) (word_bytes s.word) s.payload

    high_is : s.place + length s.payload ≤ heap_at + length m.heap
    high_is =
        let f = front_long in
        let n : length m.heap ≡ length front + (length s.payload + length parts.after)
        = ap length heap_is ∙ length-append front (s.payload ++ parts.after) ∙ ap (λ i. length front + i) (length-append s.payload parts.after) in
        omega (arith, f, n)

    -- the first word of its header
    pub header_read : Sized m → (a : ℕ) → a + 8 ≡ s.place → number_at m a Word ≡ Ok (first_word s.kind s.class)
    header_read sized a is =
        let f = parts.far in
        let w = parts.whole in
        let high = high_is in
        let first : List ℕ = word_bytes (first_word s.kind s.class) in
        let long : length first ≡ 4 = length-word_bytes (first_word s.kind s.class) in
        let rest : List ℕ = word_bytes s.word ++ (s.payload ++ parts.after) in
        let read : bytes_at m a 4 ≡ Some first
        = heap_part m sized a 4 (omega (arith, is, f)) (omega (arith, is, high))
        ∙ ap (λ i. Some (take 4 (drop i m.heap))) (omega (arith, is, f))
        ∙ ap (λ z. Some (take 4 (drop (length parts.before) z))) (h.bytes ∙ parts.bytes)
        ∙ ap (λ z. Some (take 4 z)) (drop-append_seam parts.before (first ++ rest))
        ∙ ap (λ i. Some (take i (first ++ rest))) (sym long) ∙ ap Some (take-append_seam first rest) in
        cond-true (a % 4 == 0) (number_of (bytes_at m a 4)) (Err Misaligned) (eq-eqb (a % 4) 0 (omega (arith, is, w)))
        ∙ ap number_of read ∙ ap Ok (little-word_bytes (first_word s.kind s.class) (whole_of k s there).words.1)

    pub is_there : Sized m → IsThere m s
    is_there sized =
        let b = whole_of k s there in
        let f = parts.far in
        let l = front_long in
        let high = high_is in
        record {
          sized = b.sized;
          whole = b.whole;
          aligned = parts.whole;
          low = omega (arith, f);
          high = high;
          bytes = heap_part m sized s.place (length s.payload) (omega (arith, f)) high
              ∙ ap (λ i. Some (take (length s.payload) (drop i m.heap))) (omega (arith, l))
              ∙ ap (λ z. Some (take (length s.payload) (drop (length front) z))) heap_is
              ∙ ap (λ z. Some (take (length s.payload) z)) (drop-append_seam front (s.payload ++ parts.after))
              ∙ ap Some (take-append_seam s.payload parts.after);
          may = heap_open m sized s.place (length s.payload) (omega (arith, f)) high;
        }

    -- ---- its payload is another one

    module _ (payload : List ℕ) (long : length payload ≡ length s.payload) where
      abbrev filled : Standing
      filled = record { place = s.place; class = s.class; kind = s.kind; word = s.word; payload = payload }

      abbrev now : Block
      now = held_block k filled

      abbrev others : List Block
      others = placed first_place s.place now h.blocks

      same_but : SameBut s.place h.blocks others
      same_but p b no_eq is = placed_other first_place s.place p now (held_block k s) h.blocks (found k s there) refl no_eq ∙ is

      no_free : (c : ℕ) → IsAway s.place (h.frees c)
      no_free c = is_away c s.place h.blocks (h.frees c)
          (λ xs is. not_free c xs k s (same_Some (free_block c xs) (held_block k s) (sym is ∙ found k s there))) (h.kept.linked c)

      held_now : AreHeld (with_block stands k filled) others
      held_now = record {
        there = λ j t is. ⊎_elim
            (λ e. subst (λ z. block_in z.place others ≡ Some (held_block j z)) (same_Some filled t (sym (if_same j k (Some filled) (stands j) e) ∙ is))
            (placed_here first_place s.place now (held_block k s) h.blocks (found k s there) ∙ ap (λ i. Some (held_block i filled)) (sym e)))
            (λ no_eq.
            let was : stands j ≡ Some t = sym (if_other j k (Some filled) (stands j) no_eq) ∙ is in
            same_but t.place (held_block j t)
            (λ e. no_eq ((one_block j k t s e (same_Some (held_block j t) (held_block k s)
            (sym (found j t was) ∙ ap (λ p. block_in p h.blocks) e ∙ found k s there))).identity)) (found j t was))
            (cases_eq j k);
        only = λ j t is. ⊎_elim
            (λ e.
            let one = one_block j k t filled e (same_Some (held_block j t) now
            (sym is ∙ ap (λ p. block_in p others) e ∙ placed_here first_place s.place now (held_block k s) h.blocks (found k s there))) in
            if_same j k (Some filled) (stands j) one.identity ∙ ap Some (sym one.standing))
            (λ no_eq.
            let was = h.kept.held.only j t
            (sym (placed_other first_place s.place t.place now (held_block k s) h.blocks (found k s there) refl no_eq) ∙ is) in
            if_other j k (Some filled) (stands j) (λ e. no_eq (ap (λ z. z.place) (same_Some t s (sym was ∙ ap stands e ∙ there)))) ∙ was)
            (cases_eq t.place s.place);
      }

      refilled_kept : AreKept classes (with_block stands k filled) others h.frees
      refilled_kept =
          let b = whole_of k s there in
          let w = b.whole in
          record {
            all = placed_blocks first_place s.place now h.blocks h.kept.all (record { sized = b.sized; whole = omega (arith, w, long); words = b.words });
            held = held_now;
            linked = λ c. still_linked c s.place h.blocks others (h.frees c) same_but (no_free c) (h.kept.linked c);
            counted = all_counted h.blocks others h.frees h.frees 0 classes
                (λ c e is.
                let n = placed_count c first_place s.place now (held_block k s) h.blocks (found k s there) in
                let same : held_one c now ≡ held_one c (held_block k s) = refl in
                let l = is.live in
                record { size = is.size; live = omega (arith, n, same, l); peak = is.peak })
                h.kept.counted;
            sizes = h.kept.sizes;
            demanded = placed_size first_place s.place now (held_block k s) h.blocks (found k s there) refl ∙ h.kept.demanded;
          }

      same_size : all_size others ≡ all_size h.blocks
      same_size = placed_size first_place s.place now (held_block k s) h.blocks (found k s there) refl

      -- where the heap's bytes are these, and all else that it needs is as it was
      pub refilled_heap : (other : Memory) → other.heap ≡ front ++ (payload ++ parts.after) → HasHeapData at other
          → number_at other statics_at Word ≡ Ok (length m.heap)
          → ((i : ℕ) → i ≤ size_count + 1 → number_at other (at + 4 * i) Word ≡ number_at m (at + 4 * i) Word)
          → IsHeap at classes (with_block stands k filled) other
      refilled_heap other bytes words room same =
          let zero_at : at + 4 * 0 ≡ at = omega arith in
          let l1 : length other.heap ≡ length m.heap
          = ap length bytes ∙ length-append front (payload ++ parts.after)
          ∙ ap (λ i. length front + i) (length-append payload parts.after ∙ ap (λ i. i + length parts.after) long ∙ sym (length-append s.payload parts.after))
          ∙ sym (ap length heap_is ∙ length-append front (s.payload ++ parts.after)) in
          record {
            blocks = others;
            frees = h.frees;
            spare = h.spare;
            kept = refilled_kept;
            none = h.none;
            bytes = bytes ∙ sym (joined (word_bytes (first_word s.kind s.class)) (word_bytes s.word) payload) ∙ sym (parts.other now);
            words = words;
            room = room ∙ ap Ok (sym l1);
            next = ap (λ a. number_at other a Word) (sym zero_at) ∙ same 0 (omega arith) ∙ ap (λ a. number_at m a Word) zero_at ∙ h.next
                ∙ ap (λ n. Ok (heap_at + n)) (sym same_size);
            heads = λ c most. same (suc c) (omega (arith, most)) ∙ h.heads c most;
          }

  -- ---- memory that changed

  -- the words of the heap where their bytes are the same
  word_same : (other : Memory) (a : ℕ) → bytes_at other a 4 ≡ bytes_at m a 4 → number_at other a Word ≡ number_at m a Word
  word_same other a same = ap (λ o. if a % 4 == 0 then number_of o else Err Misaligned) same

  data_still : (other : Memory) → length other.statics ≡ length m.statics
      → bytes_at other (at + HEAP_WORD_BYTES) (length (trap_line OutOfMemory)) ≡ bytes_at m (at + HEAP_WORD_BYTES) (length (trap_line OutOfMemory))
      → HasHeapData at other
  data_still other sizes line =
      let g = h.words.high in
      record { whole = h.words.whole; low = h.words.low; high = omega (arith, g, sizes); line = line ∙ h.words.line }

  -- the same heap, and the same words
  same_heap : (other : Memory) → other.heap ≡ m.heap → HasHeapData at other → number_at other statics_at Word ≡ number_at m statics_at Word
      → ((i : ℕ) → i ≤ size_count + 1 → number_at other (at + 4 * i) Word ≡ number_at m (at + 4 * i) Word) → IsHeap at classes stands other
  same_heap other heap words room same =
      let zero_at : at + 4 * 0 ≡ at = omega arith in
      record {
        blocks = h.blocks;
        frees = h.frees;
        spare = h.spare;
        kept = h.kept;
        none = h.none;
        bytes = heap ∙ h.bytes;
        words = words;
        room = room ∙ h.room ∙ ap (λ l. Ok (length l)) (sym heap);
        next = ap (λ a. number_at other a Word) (sym zero_at) ∙ same 0 (omega arith) ∙ ap (λ a. number_at m a Word) zero_at ∙ h.next;
        heads = λ c most. same (suc c) (omega (arith, most)) ∙ h.heads c most;
      }

  module _ (sized : Sized m) (other : Memory) (sized_other : Sized other) where
    -- places come and go
    pub other_places : other.statics ≡ m.statics → other.heap ≡ m.heap → IsHeap at classes stands other
    other_places statics heap =
        same_heap other heap (data_still other (ap length statics) (data_same (at + HEAP_WORD_BYTES) (length (trap_line OutOfMemory)) (omega (arith, low))
        (omega (arith, high)))) (word_same other statics_at (data_same statics_at 4 (omega arith) (omega (arith, low, high))))
        (λ i few. word_same other (at + 4 * i) (data_same (at + 4 * i) 4 (omega (arith, low)) (omega (arith, high, few))))
      where
        low : statics_at + 8 ≤ at
        low = h.words.low

        high : at + (HEAP_WORD_BYTES + length (trap_line OutOfMemory)) ≤ statics_at + length m.statics
        high = let e = h.words.high in omega (arith, e)

        data_same : (b n : ℕ) → statics_at ≤ b → b + n ≤ statics_at + length m.statics → bytes_at other b n ≡ bytes_at m b n
        data_same b n from to =
            let l : length other.statics ≡ length m.statics = ap length statics in
            data_part other sized_other b n from (omega (arith, to, l)) ∙ ap (λ z. Some (take n (drop (b - statics_at) z))) statics
            ∙ sym (data_part m sized b n from to)

    -- bytes of the heap, from an offset on
    heap_bytes : (x : Memory) → Sized x → (i n : ℕ) → i + n ≤ length x.heap → bytes_at x (heap_at + i) n ≡ Some (take n (drop i x.heap))
    heap_bytes x is i n few =
        heap_part x is (heap_at + i) n (omega arith) (omega (arith, few)) ∙ ap (λ j. Some (take n (drop j x.heap))) (omega arith)

    part_same : (sizes : length other.heap ≡ length m.heap) (i n : ℕ) → i + n ≤ length m.heap
        → bytes_at other (heap_at + i) n ≡ bytes_at m (heap_at + i) n → take n (drop i other.heap) ≡ take n (drop i m.heap)
    part_same sizes i n few same =
        same_Some (take n (drop i other.heap)) (take n (drop i m.heap))
        (sym (heap_bytes other sized_other i n (omega (arith, few, sizes))) ∙ same ∙ heap_bytes m sized i n few)

    all_of : (xs : List ℕ) (n : ℕ) → n ≡ length xs → take n xs ≡ xs
    all_of xs n e = ap (λ i. take i xs) e ∙ take_all xs
      where
        take_all : (xs : List ℕ) → take (length xs) xs ≡ xs
        take_all [] = refl
        take_all (x ∷ xs) = ap (λ l. x ∷ l) (take_all xs)

    -- a range is written in which nothing belongs to the heap
    pub still_heap : (a n : ℕ) → IsRewritten m other a n → IsElsewhere at m a n → IsHeap at classes stands other
    still_heap a n written apart =
        let sizes = written.sizes.heap in
        let heap : other.heap ≡ m.heap
        = sym (all_of other.heap (length m.heap) (sym sizes))
        ∙ part_same sizes 0 (length m.heap) (omega arith) (written.beside (heap_at + 0) (length m.heap) (as_beside apart.heap))
        ∙ all_of m.heap (length m.heap) refl in
        same_heap other heap
        (data_still other written.sizes.statics (written.beside (at + HEAP_WORD_BYTES) (length (trap_line OutOfMemory)) (own_beside HEAP_WORD_BYTES
        (length (trap_line OutOfMemory)) (omega arith) apart.words)))
        (word_same other statics_at (written.beside statics_at 4 apart.room))
        (λ i few. word_same other (at + 4 * i) (written.beside (at + 4 * i) 4 (own_beside (4 * i) 4 (omega (arith, few)) apart.words)))
      where
        as_beside : Beside heap_at (length m.heap) a n → Beside (heap_at + 0) (length m.heap) a n
        as_beside (inl x) = inl (omega (arith, x))
        as_beside (inr x) = inr (omega (arith, x))

        own_beside : (i k : ℕ) → i + k ≤ HEAP_SCRATCH → Beside at HEAP_SCRATCH a n → Beside (at + i) k a n
        own_beside i k few (inl x) = inl (omega (arith, x, few))
        own_beside i k few (inr x) = inr (omega (arith, x, few))

    -- a range is written within a payload
    pub refilled : (k : ℕ) (s : Standing) (o n : ℕ) → stands k ≡ Some s → o + n ≤ length s.payload → IsRewritten m other (s.place + o) n
        → IsRefilled at classes stands k s other
    refilled k s o n there few written =
        let sizes = written.sizes.heap in
        let f = front_long k s there in
        let high = high_is k s there in
        let i : ℕ = length (front k s there) in
        let l : ℕ = length s.payload in
        let p : List ℕ = take l (drop i other.heap) in
        let far = (parts k s there).far in
        let below = h.words.high in
        let most = sized.statics_most in
        let long : length p ≡ l
        = length-take l (drop i other.heap) ∙ (let d : length (drop i other.heap)
        ≡ length other.heap - i = length-drop i other.heap in omega (arith, d, sizes, high, f)) in
        let before : take i other.heap ≡ front k s there
        = part_same sizes 0 i (omega (arith, high, f)) (written.beside (heap_at + 0) i (inl (omega (arith, f))))
        ∙ ap (take i) (heap_is k s there) ∙ take-append_seam (front k s there) (s.payload ++ (parts k s there).after) in
        let rest : ℕ = length m.heap - (i + l) in
        let all : i + l + rest ≡ length m.heap = omega (arith, high, f) in
        let back : drop (i + l) other.heap ≡ (parts k s there).after
        = sym (all_of (drop (i + l) other.heap) rest
        (let d : length (drop (i + l) other.heap) ≡ length other.heap - (i + l) = length-drop (i + l) other.heap in omega (arith, d, sizes)))
        ∙ part_same sizes (i + l) rest (omega (arith, all)) (written.beside (heap_at + (i + l)) rest (inr (omega (arith, f, few))))
        ∙ all_of (drop (i + l) m.heap) rest (let d : length (drop (i + l) m.heap) ≡ length m.heap - (i + l) = length-drop (i + l) m.heap in omega (arith, d))
        ∙ ap (drop (i + l)) (heap_is k s there) ∙ drop-append-add (front k s there) (s.payload ++ (parts k s there).after) l
        ∙ drop-append_seam s.payload (parts k s there).after in
        let bytes : other.heap ≡ front k s there ++ (p ++ (parts k s there).after)
        = sym (take-append-drop i other.heap)
        ∙ ap₂ (λ x y. x ++ y) before (sym (take-append-drop l (drop i other.heap)) ∙ ap (λ z. p ++ z) (drop-drop l i other.heap ∙ back)) in
        record {
          payload = p;
          long = long;
          heap = refilled_heap k s there p long other bytes
              (data_still other written.sizes.statics (written.beside (at + HEAP_WORD_BYTES) (length (trap_line OutOfMemory))
              (inl (omega (arith, below, most, far)))))
              (word_same other statics_at (written.beside statics_at 4 (inl (omega (arith, far)))) ∙ h.room)
              (λ j j_few. word_same other (at + 4 * j) (written.beside (at + 4 * j) 4 (inl (omega (arith, below, most, far, j_few)))));
        }
