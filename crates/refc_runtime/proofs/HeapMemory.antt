-- Memory in which a block is taken or given.
use Rattle.std.proofs.Common.{◌≡◌, ℕ, suc, ◌+◌, ◌-◌, ◌*◌, ◌^◌, ◌<◌, ◌≤◌, List, [], ◌∷◌, ◌++◌, length, take, drop, replicate, Some, None, Ok}
use Rattle.std.proofs.Common.{refl, sym, ap, subst, ◌∙◌, ⊎_elim, arith, append_assoc, append-nil, length-append, true, false, max}
use Rattle.std.proofs.lemmas.Bool.{cases_eq, lt-ltb, le-ltb}
use Rattle.std.proofs.lemmas.List.{length-replicate, length-take, replicate-append-replicate, take-append-drop}
use Rattle.rv32_isa.specs.declared.micro_op.Size.TheVariants.{Word}
use Rattle.rv32_isa.specs.Image.{statics_at, heap_at}
use Rattle.rv32_isa.specs.Words.{word_bytes}
use Rattle.rv32_isa.proofs.ForCallers.{length-word_bytes, little-word_bytes}
use Rattle.nim_meaning.specs.Heap.{Class, demand, size_count, one_more, one_less, at_class}
use Rattle.word_code.specs.Memory.{Memory, number_at, may_put, with_number}
use Rattle.word_code.proofs.ForCallers.{MemoryLaw, Sized, at_same}
use Rattle.heap_memory.specs.declared.numbers.TheConstants.{CONTENTS_KIND}
use Rattle.heap_memory.specs.HeapBlocks.{size_at, Held, Block, kind_of, word_of, first_word, block_bytes, IsBlock, all_bytes}
use Rattle.heap_memory.specs.HeapBlocks.{all_size, first_place, block_in}
use Rattle.heap_memory.specs.HeapState.{Standing, Stands, with_block, without_block, held_block, IsHeap, first_of, free_block, AreLinked}
use Rattle.heap_memory.specs.HeapRoutines.{IsBesideHeap, has_free}
use Rattle.heap_memory.proofs.ForCallers.{all_whole, added_size, placed_size, block_found, if_same, if_other, size_some, placed, far, within, added}
use Rattle.heap_memory.proofs.ForCallers.{added_bytes, length_all}
use Rattle.heap_memory.proofs.ForCallers.{Entry}
use Rattle.heap_memory.proofs.ForCallers.{entry_free, with_places, entry_at, first_small, taken_free, taken_next, entry_full, next_demand, given_block}
use Rattle.heap_memory.proofs.ForCallers.{taken_back}
use Rattle.heap_memory.proofs.ForCallers.{BlockBytes, block_bytes_at, bytes_joined, header_read}
use Rattle.refc_runtime.proofs.HeapWords.{WordOfHeap, heap_reads, heap_may, heap_puts, word_at, Stored, stored_more, word_may, data_stored, data_here}
use Rattle.refc_runtime.proofs.HeapWords.{data_others}
use Rattle.refc_runtime.proofs.HeapWords.{data_heap, heap_stored, heap_words}

zero_word : replicate 4 0 ≡ word_bytes 0
unfolding word_bytes
zero_word = refl

module _ (law : MemoryLaw) (at : ℕ) (m : Memory) (sized : Sized m) (classes : List Class) (stands : Stands) (h : IsHeap at classes stands m) where
  abbrev pub zeros : List ℕ
  zeros = replicate h.spare 0

  pub heap_length : length m.heap ≡ all_size h.blocks + h.spare
  heap_length =
      ap length h.bytes ∙ length-append (all_bytes h.blocks) zeros
      ∙ let a = length_all h.blocks h.kept.all in let b : length zeros ≡ h.spare = length-replicate h.spare 0 in omega (arith, a, b)

  pub places_small : first_place + all_size h.blocks < 2 ^ 32
  places_small = let l = heap_length in let s = sized.heap_most in omega (arith, l, s)

  pub next_is : number_at m (word_at at 0) Word ≡ Ok (heap_at + all_size h.blocks)
  next_is = at_same m (word_at at 0) at (omega arith) ∙ h.next

  pub head_is : (class : ℕ) → class ≤ size_count → number_at m (word_at at (suc class)) Word ≡ Ok (first_of (h.frees class))
  head_is class known = h.heads class known

  -- the words of a block
  module _ (place : ℕ) (b : Block) (there : block_in place h.blocks ≡ Some b) where
    abbrev pub parts : BlockBytes place b h.blocks zeros
    parts = block_bytes_at classes stands h.blocks h.frees h.kept place b zeros there

    pub place_high : heap_at + 8 ≤ place
    place_high = let f = parts.far in omega (arith, f)

    pub place_small : place < 2 ^ 32
    place_small =
        let w = within first_place place b h.blocks there in
        let g = w.high in
        let s = size_some b.class in
        let p = places_small in
        omega (arith, g, s, p)

    header_word : (other : Memory) → other.heap ≡ m.heap → (a : ℕ) → a + 8 ≡ place
        → WordOfHeap other a parts.before (word_bytes (first_word (kind_of b.holder) b.class)) (word_bytes (word_of b.holder) ++ (b.payload ++ parts.after))
    header_word other same a is =
        let f = parts.far in
        let w = parts.whole in
        record {
          bytes = same ∙ h.bytes ∙ parts.bytes;
          long = length-word_bytes (first_word (kind_of b.holder) b.class);
          place = omega (arith, is, f);
          whole = omega (arith, is, w);
        }

    payload_word : (other : Memory) (first : ℕ)
        → other.heap ≡ parts.before ++ (word_bytes first ++ (word_bytes (word_of b.holder) ++ (b.payload ++ parts.after))) → 4 ≤ length b.payload
        → WordOfHeap other place (parts.before ++ (word_bytes first ++ word_bytes (word_of b.holder))) (take 4 b.payload) (drop 4 b.payload ++ parts.after)
    payload_word other first is long =
        let f = parts.far in
        let w = parts.whole in
        let l1 = length-word_bytes first in
        let l2 = length-word_bytes (word_of b.holder) in
        let n : length (parts.before ++ (word_bytes first ++ word_bytes (word_of b.holder))) ≡ length parts.before + 8
        = length-append parts.before (word_bytes first ++ word_bytes (word_of b.holder))
        ∙ ap (λ k. length parts.before + k) (length-append (word_bytes first) (word_bytes (word_of b.holder))) ∙ omega (arith, l1, l2) in
        record {
          bytes = is
              ∙ ap (λ l. parts.before ++ (word_bytes first ++ (word_bytes (word_of b.holder) ++ (l ++ parts.after)))) (sym (take-append-drop 4 b.payload))
              ∙ cut parts.before (word_bytes first) (word_bytes (word_of b.holder)) (take 4 b.payload) (drop 4 b.payload) parts.after;
          long = length-take 4 b.payload ∙ omega (arith, long);
          place = omega (arith, f, n);
          whole = omega (arith, w);
        }
      where
        cut : (before first second front back after : List ℕ)
            → before ++ (first ++ (second ++ ((front ++ back) ++ after))) ≡ (before ++ (first ++ second)) ++ (front ++ (back ++ after))
        cut before first second front back after =
            ap (λ l. before ++ (first ++ (second ++ l))) (append_assoc front back after)
            ∙ ap (λ l. before ++ l) (sym (append_assoc first second (front ++ (back ++ after))))
            ∙ sym (append_assoc before (first ++ second) (front ++ (back ++ after)))

  -- what the heap's size says stays
  still_room : (other : Memory) → Stored at m other → number_at other statics_at Word ≡ Ok (length other.heap)
  still_room other x = x.room ∙ h.room ∙ ap Ok (sym x.rest.sizes.heap)

  module _ (class k : ℕ) (known : class < size_count) (unused : stands k ≡ None) where
    abbrev pub new_word : ℕ
    new_word = first_word CONTENTS_KIND class

    abbrev pub new_one : (payload : List ℕ) → Block
    new_one payload = record { class = class; holder = Held k CONTENTS_KIND 0; payload = payload }

    abbrev pub new_standing : (place : ℕ) (payload : List ℕ) → Standing
    new_standing place payload = record { place = place; class = class; kind = CONTENTS_KIND; word = 0; payload = payload }

    words_are : (0 < CONTENTS_KIND) × (first_word CONTENTS_KIND class < 2 ^ 32) × (0 < 2 ^ 32)
    words_are = (omega arith, omega (arith, known), omega arith)

    -- the entry of the size among those that are counted
    abbrev entry : Entry h.blocks h.frees class class classes
    entry = entry_at classes stands h.blocks h.frees h.kept class known

    -- ---- the first free block of a size is taken

    module _ (place : ℕ) (places : List ℕ) (first : h.frees class ≡ place ∷ places) where
      below_peak : entry.entry.live < entry.entry.peak
      below_peak = entry_free classes stands h.blocks h.frees h.kept class k CONTENTS_KIND 0 known unused words_are place places first

      pub some_free : has_free class classes ≡ true
      some_free = entry.free ∙ lt-ltb entry.entry.live entry.entry.peak below_peak

      -- the demand stays
      pub demand_same : demand (at_class one_more class classes) ≡ all_size h.blocks
      demand_same =
          let d = h.kept.demanded in
          let c = entry.changed one_more in
          let same : max (suc entry.entry.live) entry.entry.peak ≡ entry.entry.peak = omega (arith, below_peak) in
          let product : entry.entry.size * max (suc entry.entry.live) entry.entry.peak ≡ entry.entry.size * entry.entry.peak
          = ap (λ n. entry.entry.size * n) same in
          omega (arith, d, c, product)

      abbrev linked : AreLinked h.blocks class (place ∷ places)
      linked = subst (AreLinked h.blocks class) first (h.kept.linked class)

      abbrev pub old_payload : List ℕ
      old_payload = linked.0.payload

      abbrev old : Block
      old = free_block class old_payload

      abbrev pub link : ℕ
      link = first_of places

      old_long : 4 ≤ length old_payload
      old_long = let b = block_found first_place place old h.blocks h.kept.all linked.0.there in let w = b.whole in let s =
          size_some class in omega (arith, w, s)

      pub link_small : link < 2 ^ 32
      link_small = first_small class h.blocks places linked.2 places_small

      pub head_there : number_at m (word_at at (suc class)) Word ≡ Ok place
      head_there = head_is class (omega (arith, known)) ∙ ap (λ l. Ok (first_of l)) first

      pub free_high : heap_at + 8 ≤ place
      free_high = place_high place old linked.0.there

      pub free_small : place < 2 ^ 32
      free_small = place_small place old linked.0.there

      pub link_is : number_at m place Word ≡ Ok link
      link_is =
          let p = parts place old linked.0.there in
          heap_reads m sized place (p.before ++ (word_bytes (first_word 0 class) ++ word_bytes 0)) (take 4 old_payload) (drop 4 old_payload ++ p.after)
          (payload_word place old linked.0.there m (first_word 0 class) (h.bytes ∙ p.bytes) old_long)
          ∙ ap Ok linked.0.link

      abbrev pub free_middle : Memory
      free_middle = with_number m (word_at at (suc class)) Word link

      free_stored : Stored at m free_middle
      free_stored = data_stored law at m sized h.words (suc class) link place (omega (arith, known)) link_small head_there

      pub head_may : may_put m (word_at at (suc class)) Word ≡ true
      head_may = word_may law at m sized h.words (suc class) (omega (arith, known))

      module _ (a : ℕ) (is : a + 8 ≡ place) where
        abbrev p : BlockBytes place old h.blocks zeros
        p = parts place old linked.0.there

        word_there : WordOfHeap free_middle a p.before (word_bytes (first_word 0 class)) (word_bytes 0 ++ (old_payload ++ p.after))
        word_there =
            header_word place old linked.0.there free_middle
            (data_heap law at m sized h.words (suc class) link place (omega (arith, known)) link_small head_there) a is

        pub index_is : number_at free_middle a Word ≡ Ok (suc class)
        index_is =
            heap_reads free_middle free_stored.sized a p.before (word_bytes (first_word 0 class)) (word_bytes 0 ++ (old_payload ++ p.after)) word_there
            ∙ ap Ok (little-word_bytes (first_word 0 class) (omega (arith, known)) ∙ omega arith)

        pub index_may : may_put free_middle a Word ≡ true
        index_may = heap_may free_middle free_stored.sized a p.before (word_bytes (first_word 0 class)) (word_bytes 0 ++ (old_payload ++ p.after)) word_there

        abbrev pub free_after : Memory
        free_after = with_number free_middle a Word new_word

        all_stored : Stored at m free_after
        all_stored =
            stored_more at m free_middle free_after free_stored
            (heap_stored law at free_middle free_stored.sized free_stored.words a p.before (word_bytes (first_word 0 class))
            (word_bytes 0 ++ (old_payload ++ p.after)) word_there new_word (words_are.1))

        still_words : (j : ℕ) → j ≤ size_count + 1 → number_at free_after (word_at at j) Word ≡ number_at free_middle (word_at at j) Word
        still_words j few =
            heap_words law at free_middle free_stored.sized free_stored.words a p.before (word_bytes (first_word 0 class))
            (word_bytes 0 ++ (old_payload ++ p.after)) word_there new_word (words_are.1) j few

        pub free_rest : IsBesideHeap at m free_after
        free_rest = all_stored.rest

        pub free_heap : IsHeap at (at_class one_more class classes) (with_block stands k (new_standing place old_payload)) free_after
        free_heap =
            let few : suc class ≤ size_count + 1 = omega (arith, known) in
            let same : all_size (placed first_place place (new_one old_payload) h.blocks) ≡ all_size h.blocks
            = placed_size first_place place (new_one old_payload) old h.blocks linked.0.there refl in
            record {
              blocks = placed first_place place (new_one old_payload) h.blocks;
              frees = with_places class places h.frees;
              spare = h.spare;
              kept = taken_free classes stands h.blocks h.frees h.kept class k CONTENTS_KIND 0 known unused words_are place places first;
              none = if_other size_count class places (h.frees size_count) (λ e. absurd (omega (arith, e, known))) ∙ h.none;
              bytes =
                  heap_puts free_middle free_stored.sized a p.before (word_bytes (first_word 0 class)) (word_bytes 0 ++ (old_payload ++ p.after))
                  word_there new_word
                  ∙ sym (p.other (new_one old_payload));
              words = all_stored.words;
              room = still_room free_after all_stored;
              next =
                  at_same free_after at (word_at at 0) (omega arith) ∙ still_words 0 (omega arith)
                  ∙ data_others law at m sized h.words (suc class) link place few link_small head_there 0 (λ e. absurd (omega (arith, e)))
                  ∙ next_is ∙ ap (λ n. Ok (heap_at + n)) (sym same);
              heads = λ c most. still_words (suc c) (omega (arith, most)) ∙ ⊎_elim
                  (λ e. ap (λ i. number_at free_middle (word_at at (suc i)) Word) e
                  ∙ data_here law at m sized h.words (suc class) link place few link_small head_there
                  ∙ ap (λ l. Ok (first_of l)) (sym (if_same c class places (h.frees c) e)))
                  (λ no_eq. data_others law at m sized h.words (suc class) link place few link_small head_there (suc c) (λ e. no_eq (omega (arith, e)))
                  ∙ h.heads c most ∙ ap (λ l. Ok (first_of l)) (sym (if_other c class places (h.frees c) no_eq)))
                  (cases_eq c class);
            }

    -- ---- the next bytes are taken

    module _ (empty : h.frees class ≡ []) where
      pub none_free : has_free class classes ≡ false
      none_free =
          entry.free ∙ le-ltb entry.entry.live entry.entry.peak
          (let e = entry_full classes stands h.blocks h.frees h.kept class k CONTENTS_KIND 0 known unused words_are empty in omega (arith, e))

      pub demand_next : demand (at_class one_more class classes) ≡ all_size h.blocks + size_at class
      demand_next = next_demand classes stands h.blocks h.frees h.kept class k CONTENTS_KIND 0 known unused words_are empty

    module _ (empty : h.frees class ≡ []) (fits : all_size h.blocks + size_at class ≤ length m.heap) where
      abbrev pub next_at : ℕ
      next_at = heap_at + all_size h.blocks

      abbrev pub new_payload : List ℕ
      new_payload = replicate (size_at class - 8) 0

      abbrev rest_zeros : List ℕ
      rest_zeros = replicate (h.spare - 4) 0

      next_word : WordOfHeap m next_at (all_bytes h.blocks) (replicate 4 0) rest_zeros
      next_word =
          let s = size_some class in
          let l = heap_length in
          let n : 4 + (h.spare - 4) ≡ h.spare = omega (arith, s, l, fits) in
          let e = length_all h.blocks h.kept.all in
          let w = all_whole h.blocks in
          let t = w.are in
          record {
            bytes = h.bytes ∙ ap (λ l. all_bytes h.blocks ++ l) (ap (λ k. replicate k 0) (sym n) ∙ sym (replicate-append-replicate {A = ℕ} 4 (h.spare - 4) 0));
            long = refl;
            place = omega (arith, e);
            whole = omega (arith, t);
          }

      pub next_may : may_put m next_at Word ≡ true
      next_may = heap_may m sized next_at (all_bytes h.blocks) (replicate 4 0) rest_zeros next_word

      abbrev pub next_middle : Memory
      next_middle = with_number m next_at Word new_word

      next_stored : Stored at m next_middle
      next_stored = heap_stored law at m sized h.words next_at (all_bytes h.blocks) (replicate 4 0) rest_zeros next_word new_word (words_are.1)

      next_still : (j : ℕ) → j ≤ size_count + 1 → number_at next_middle (word_at at j) Word ≡ number_at m (word_at at j) Word
      next_still j few = heap_words law at m sized h.words next_at (all_bytes h.blocks) (replicate 4 0) rest_zeros next_word new_word (words_are.1) j few

      pub next_word_may : may_put next_middle (word_at at 0) Word ≡ true
      next_word_may = word_may law at next_middle next_stored.sized next_stored.words 0 (omega arith)

      abbrev pub next_after : Memory
      next_after = with_number next_middle (word_at at 0) Word (next_at + size_at class)

      after_small : next_at + size_at class < 2 ^ 32
      after_small = let s = sized.heap_most in omega (arith, s, fits)

      next_was : number_at next_middle (word_at at 0) Word ≡ Ok next_at
      next_was = next_still 0 (omega arith) ∙ next_is

      next_all : Stored at m next_after
      next_all =
          stored_more at m next_middle next_after next_stored
          (data_stored law at next_middle next_stored.sized next_stored.words 0 (next_at + size_at class) next_at (omega arith) after_small next_was)

      pub next_rest : IsBesideHeap at m next_after
      next_rest = next_all.rest

      zeros_cut : rest_zeros ≡ replicate 4 0 ++ (new_payload ++ replicate (h.spare - size_at class) 0)
      zeros_cut =
          let s = size_some class in
          let l = heap_length in
          let n : 4 + ((size_at class - 8) + (h.spare - size_at class)) ≡ h.spare - 4 = omega (arith, s, l, fits) in
          ap (λ k. replicate k 0) (sym n)
          ∙ sym (replicate-append-replicate {A = ℕ} 4 ((size_at class - 8) + (h.spare - size_at class)) 0)
          ∙ ap (λ z. replicate 4 0 ++ z) (sym (replicate-append-replicate {A = ℕ} (size_at class - 8) (h.spare - size_at class) 0))

      -- its bytes, and zeros behind it
      next_bytes : all_bytes h.blocks ++ (word_bytes new_word ++ rest_zeros)
          ≡ all_bytes (added h.blocks (new_one new_payload)) ++ replicate (h.spare - size_at class) 0
      next_bytes =
          ap (λ z. all_bytes h.blocks ++ (word_bytes new_word ++ z)) zeros_cut
          ∙ ap (λ z. all_bytes h.blocks ++ (word_bytes new_word ++ (z ++ (new_payload ++ replicate (h.spare - size_at class) 0)))) zero_word
          ∙ sym (bytes_joined (all_bytes h.blocks) (word_bytes new_word) (word_bytes 0) new_payload [] (replicate (h.spare - size_at class) 0))
          ∙ ap (λ z. (all_bytes h.blocks ++ z) ++ replicate (h.spare - size_at class) 0) (append-nil (block_bytes (new_one new_payload)))
          ∙ ap (λ z. z ++ replicate (h.spare - size_at class) 0) (sym (added_bytes (new_one new_payload) h.blocks))

      pub next_heap : IsHeap at (at_class one_more class classes) (with_block stands k (new_standing (first_place + all_size h.blocks) new_payload)) next_after
      next_heap =
          let s = size_some class in
          let l = heap_length in
          record {
            blocks = added h.blocks (new_one new_payload);
            frees = h.frees;
            spare = h.spare - size_at class;
            kept = taken_next classes stands h.blocks h.frees h.kept class k CONTENTS_KIND 0 known unused words_are empty;
            none = h.none;
            bytes =
                data_heap law at next_middle next_stored.sized next_stored.words 0 (next_at + size_at class) next_at (omega arith) after_small next_was
                ∙ heap_puts m sized next_at (all_bytes h.blocks) (replicate 4 0) rest_zeros next_word new_word
                ∙ next_bytes;
            words = next_all.words;
            room = still_room next_after next_all;
            next =
                at_same next_after at (word_at at 0) (omega arith)
                ∙ data_here law at next_middle next_stored.sized next_stored.words 0 (next_at + size_at class) next_at (omega arith) after_small next_was
                ∙ ap Ok (let g = added_size (new_one new_payload) h.blocks in omega (arith, g));
            heads = λ c most.
                data_others law at next_middle next_stored.sized next_stored.words 0 (next_at + size_at class) next_at (omega arith) after_small
                next_was (suc c)
                (λ e. absurd (omega (arith, e)))
                ∙ next_still (suc c) (omega (arith, most)) ∙ h.heads c most;
          }

  -- ---- a block is given back

  module _ (k : ℕ) (s : Standing) (there : stands k ≡ Some s) (contents : s.kind ≡ CONTENTS_KIND) (word_none : s.word ≡ 0) where
    abbrev given : Block
    given = held_block k s

    given_there : block_in s.place h.blocks ≡ Some given
    given_there = h.kept.held.there k s there

    pub is_given : IsBlock given
    is_given = given_block classes stands h.blocks h.frees h.kept k s there places_small

    given_long : 4 ≤ length s.payload
    given_long = let w = is_given.whole in let t = size_some s.class in omega (arith, w, t)

    pub given_high : heap_at + 8 ≤ s.place
    given_high = place_high s.place given given_there

    pub given_small : s.place < 2 ^ 32
    given_small = place_small s.place given given_there

    abbrev q : BlockBytes s.place given h.blocks zeros
    q = parts s.place given given_there

    abbrev pub given_link : ℕ
    given_link = first_of (h.frees s.class)

    pub given_link_small : given_link < 2 ^ 32
    given_link_small = first_small s.class h.blocks (h.frees s.class) (h.kept.linked s.class) places_small

    module _ (a : ℕ) (is : a + 8 ≡ s.place) where
      front_word : WordOfHeap m a q.before (word_bytes (first_word s.kind s.class)) (word_bytes s.word ++ (s.payload ++ q.after))
      front_word = header_word s.place given given_there m refl a is

      pub header_is : number_at m a Word ≡ Ok (first_word CONTENTS_KIND s.class)
      header_is = header_read at classes stands m h k s there sized a is ∙ ap (λ i. Ok (first_word i s.class)) contents

      pub header_may : may_put m a Word ≡ true
      header_may = heap_may m sized a q.before (word_bytes (first_word s.kind s.class)) (word_bytes s.word ++ (s.payload ++ q.after)) front_word

      -- the kind goes
      abbrev pub given_first : Memory
      given_first = with_number m a Word (first_word 0 s.class)

      index_small : first_word 0 s.class < 2 ^ 32
      index_small = let c = is_given.sized in omega (arith, c)

      first_stored : Stored at m given_first
      first_stored =
          heap_stored law at m sized h.words a q.before (word_bytes (first_word s.kind s.class)) (word_bytes s.word ++ (s.payload ++ q.after)) front_word
          (first_word 0 s.class) index_small

      first_still : (j : ℕ) → j ≤ size_count + 1 → number_at given_first (word_at at j) Word ≡ number_at m (word_at at j) Word
      first_still j few =
          heap_words law at m sized h.words a q.before (word_bytes (first_word s.kind s.class)) (word_bytes s.word ++ (s.payload ++ q.after)) front_word
          (first_word 0 s.class) index_small j few

      pub head_read : number_at given_first (word_at at (suc s.class)) Word ≡ Ok given_link
      head_read =
          let c = is_given.sized in
          first_still (suc s.class) (omega (arith, c)) ∙ head_is s.class (omega (arith, c))

      -- the link comes
      front_payload : WordOfHeap given_first s.place (q.before ++ (word_bytes (first_word 0 s.class) ++ word_bytes s.word)) (take 4 s.payload)
          (drop 4 s.payload ++ q.after)
      front_payload =
          payload_word s.place given given_there given_first (first_word 0 s.class)
          (heap_puts m sized a q.before (word_bytes (first_word s.kind s.class)) (word_bytes s.word ++ (s.payload ++ q.after)) front_word
          (first_word 0 s.class))
          given_long

      pub payload_may : may_put given_first s.place Word ≡ true
      payload_may =
          heap_may given_first first_stored.sized s.place (q.before ++ (word_bytes (first_word 0 s.class) ++ word_bytes s.word)) (take 4 s.payload)
          (drop 4 s.payload ++ q.after) front_payload

      abbrev pub given_second : Memory
      given_second = with_number given_first s.place Word given_link

      second_stored : Stored at m given_second
      second_stored =
          stored_more at m given_first given_second first_stored
          (heap_stored law at given_first first_stored.sized first_stored.words s.place
          (q.before ++ (word_bytes (first_word 0 s.class) ++ word_bytes s.word)) (take 4 s.payload) (drop 4 s.payload ++ q.after) front_payload given_link
          given_link_small)

      second_still : (j : ℕ) → j ≤ size_count + 1 → number_at given_second (word_at at j) Word ≡ number_at m (word_at at j) Word
      second_still j few =
          heap_words law at given_first first_stored.sized first_stored.words s.place
          (q.before ++ (word_bytes (first_word 0 s.class) ++ word_bytes s.word)) (take 4 s.payload) (drop 4 s.payload ++ q.after) front_payload given_link
          given_link_small j few
          ∙ first_still j few

      -- it is the first of its size
      few_heads : suc s.class ≤ size_count + 1
      few_heads = let c = is_given.sized in omega (arith, c)

      pub head_open : may_put given_second (word_at at (suc s.class)) Word ≡ true
      head_open = word_may law at given_second second_stored.sized second_stored.words (suc s.class) few_heads

      head_was : number_at given_second (word_at at (suc s.class)) Word ≡ Ok given_link
      head_was = let c = is_given.sized in second_still (suc s.class) few_heads ∙ head_is s.class (omega (arith, c))

      abbrev pub given_after : Memory
      given_after = with_number given_second (word_at at (suc s.class)) Word s.place

      given_all : Stored at m given_after
      given_all =
          stored_more at m given_second given_after second_stored
          (data_stored law at given_second second_stored.sized second_stored.words (suc s.class) s.place given_link few_heads given_small head_was)

      pub given_rest : IsBesideHeap at m given_after
      given_rest = given_all.rest

      pub given_heap : IsHeap at (at_class one_less s.class classes) (without_block stands k) given_after
      given_heap =
          let c = is_given.sized in
          let now : Block = free_block s.class (word_bytes given_link ++ drop 4 s.payload) in
          let same : all_size (placed first_place s.place now h.blocks) ≡ all_size h.blocks
          = placed_size first_place s.place now given h.blocks given_there refl in
          record {
            blocks = placed first_place s.place now h.blocks;
            frees = with_places s.class (s.place ∷ h.frees s.class) h.frees;
            spare = h.spare;
            kept = taken_back classes stands h.blocks h.frees h.kept k s there places_small;
            none = if_other size_count s.class (s.place ∷ h.frees s.class) (h.frees size_count) (λ e. absurd (omega (arith, e, c))) ∙ h.none;
            bytes =
                data_heap law at given_second second_stored.sized second_stored.words (suc s.class) s.place given_link few_heads given_small head_was
                ∙ heap_puts given_first first_stored.sized s.place (q.before ++ (word_bytes (first_word 0 s.class) ++ word_bytes s.word)) (take 4 s.payload)
                (drop 4 s.payload ++ q.after) front_payload given_link
                ∙ together q.before (word_bytes (first_word 0 s.class)) (word_bytes s.word) (word_bytes given_link) (drop 4 s.payload) q.after
                ∙ ap (λ w. q.before ++ (word_bytes (first_word 0 s.class) ++ (word_bytes w ++ ((word_bytes given_link ++ drop 4 s.payload) ++ q.after))))
                word_none
                ∙ sym (q.other now);
            words = given_all.words;
            room = still_room given_after given_all;
            next =
                at_same given_after at (word_at at 0) (omega arith)
                ∙ data_others law at given_second second_stored.sized second_stored.words (suc s.class) s.place given_link few_heads given_small head_was 0
                (λ e. absurd (omega (arith, e)))
                ∙ second_still 0 (omega arith) ∙ next_is ∙ ap (λ n. Ok (heap_at + n)) (sym same);
            heads = λ c most. ⊎_elim
                (λ e. ap (λ i. number_at given_after (word_at at (suc i)) Word) e
                ∙ data_here law at given_second second_stored.sized second_stored.words (suc s.class) s.place given_link few_heads given_small head_was
                ∙ ap (λ l. Ok (first_of l)) (sym (if_same c s.class (s.place ∷ h.frees s.class) (h.frees c) e)))
                (λ no_eq.
                data_others law at given_second second_stored.sized second_stored.words (suc s.class) s.place given_link few_heads given_small head_was (suc c)
                (λ e. no_eq (omega (arith, e)))
                ∙ second_still (suc c) (omega (arith, most)) ∙ h.heads c most
                ∙ ap (λ l. Ok (first_of l)) (sym (if_other c s.class (s.place ∷ h.frees s.class) (h.frees c) no_eq)))
                (cases_eq c s.class);
          }
        where
          together : (before first second front back after : List ℕ)
              → (before ++ (first ++ second)) ++ (front ++ (back ++ after)) ≡ before ++ (first ++ (second ++ ((front ++ back) ++ after)))
          together before first second front back after =
              append_assoc before (first ++ second) (front ++ (back ++ after))
              ∙ ap (λ l. before ++ l) (append_assoc first second (front ++ (back ++ after)))
              ∙ ap (λ l. before ++ (first ++ (second ++ l))) (sym (append_assoc front back after))
