-- Where the places of a call come to memory, and where they go again: all that stands before them is as it was.
use Rattle.std.proofs.Common.{◌≡◌, inl, inr, ℕ, zero, suc, ◌+◌, ◌-◌, ◌%◌, ◌≤◌, List, ◌++◌, length, take, drop, replicate, Some, None, Ok, Err, Bool}
use Rattle.std.proofs.Common.{true}
use Rattle.std.proofs.Common.{false, []}
use Rattle.std.proofs.Common.{refl, sym, ap, ap₂, ◌∙◌, arith, length-append, length-drop, length-take-le, le-leb, subst}
use Rattle.std.specs.Prelude.{◌==◌, ◌||◌, ◌&&◌, nat_le, if◌then◌else◌}
use Rattle.std.proofs.lemmas.Bool.{and_parts, and_from, leb-true, eq-eqb, cond-true, cond-false, false_from_ne_true}
use Rattle.std.proofs.lemmas.List.{length-replicate, drop-append-le, take-append-le, take-append-drop}
use Rattle.rv32_isa.specs.declared.machine.FaultKind.TheVariants.{Misaligned}
use Rattle.rv32_isa.specs.declared.micro_op.Size.TheVariants.{Word}
use Rattle.rv32_isa.specs.Hooks.{code_at}
use Rattle.rv32_isa.specs.Image.{statics_at, heap_at, stack_at}
use Rattle.rv32_isa.specs.Words.{little}
use Rattle.rv32_isa.specs.State.{lies_in, part_of, or_else, writable}
use Rattle.rv32_isa.specs.Steps.{number_of}
use Rattle.rv32_isa.specs.Regions.{AreBytes}
use Rattle.word_code.specs.Memory.{Memory, as_state, number_at, may_put, bytes_at, with_places, without_places}
use Rattle.word_code.specs.RoutineTable.{Cell}
use Rattle.word_code.specs.declared.word.TheConstants.{SPARE_ROOM}
use Rattle.word_code.proofs.ForCallers.{Sized}
use Rattle.word_lowering.specs.Lowered.{data_at}
use Rattle.word_lowering.proofs.HeapKept.{SameHeap}
use Rattle.word_lowering.proofs.Lines.{Basis}
use Rattle.word_lowering.proofs.Related.{IsClosed, IsOpen, MemoryGood}
use Rattle.word_lowering.proofs.Sites.{Site, next_base, data_end, Linked}

-- ---- ranges of one list

-- what lies in the first of two lists
pub in_front : (i n : ℕ) (xs ys : List ℕ) → i + n ≤ length xs → take n (drop i (xs ++ ys)) ≡ take n (drop i xs)
in_front i n xs ys within =
    let d = length-drop i xs in
    ap (take n) (drop-append-le i xs ys (omega (arith, within))) ∙ take-append-le n (drop i xs) ys (omega (arith, within, d))

pub no_code : (at n : ℕ) → statics_at ≤ at → 1 ≤ n → lies_in code_at [] at n ≡ false
no_code at n far some = false_from_ne_true (lies_in code_at [] at n) (λ e.
    let p = and_parts (nat_le code_at at) (nat_le (at + n) (code_at + 0)) e in
    let l : at + n ≤ code_at + 0 = leb-true (at + n) (code_at + 0) p.1 in
    absurd (omega (arith, l, far, some)))

-- ---- a word among the places may be read and written

pub place_cell : (m : Memory) → Sized m → (a : ℕ) → a % 4 ≡ 0 → stack_at ≤ a → a + 4 ≤ stack_at + length m.places → Cell m a
place_cell m sized a whole low high =
    let statics_most = sized.statics_most in
    let heap_most = sized.heap_most in
    let lies : lies_in stack_at m.places a 4 ≡ true
    = and_from (nat_le stack_at a) (nat_le (a + 4) (stack_at + length m.places)) (le-leb stack_at a low) (le-leb (a + 4) (stack_at + length m.places) high) in
    let even : (a % 4 == 0) ≡ true = eq-eqb (a % 4) 0 whole in
    let beyond : lies_in statics_at m.statics a 4 ≡ false = false_from_ne_true (lies_in statics_at m.statics a 4)
    (λ e. let p = and_parts (nat_le statics_at a) (nat_le (a + 4) (statics_at + length m.statics)) e in
    let l : a + 4 ≤ statics_at + length m.statics = leb-true (a + 4) (statics_at + length m.statics) p.1 in absurd (omega (arith, l, low, statics_most))) in
    let above : lies_in heap_at m.heap a 4 ≡ false = false_from_ne_true (lies_in heap_at m.heap a 4)
    (λ e. let p = and_parts (nat_le heap_at a) (nat_le (a + 4) (heap_at + length m.heap)) e in
    let l : a + 4 ≤ heap_at + length m.heap = leb-true (a + 4) (heap_at + length m.heap) p.1 in absurd (omega (arith, l, low, heap_most))) in
    let may : writable (as_state m) a 4 ≡ true = ap₂ (λ b c. b || (c || lies_in stack_at m.places a 4)) beyond above ∙ lies in
    let found : List ℕ = take 4 (drop (a - stack_at) m.places) in
    let reads : bytes_at m a 4 ≡ Some found
    = ap (λ o. or_else o (or_else (part_of statics_at m.statics a 4) (or_else (part_of heap_at m.heap a 4) (part_of stack_at m.places a 4))))
    (cond-false (lies_in code_at [] a 4) _ None (no_code a 4 (omega (arith, low)) (omega arith)))
    ∙ ap (λ o. or_else o (or_else (part_of heap_at m.heap a 4) (part_of stack_at m.places a 4)))
    (cond-false (lies_in statics_at m.statics a 4) _ None beyond)
    ∙ ap (λ o. or_else o (part_of stack_at m.places a 4)) (cond-false (lies_in heap_at m.heap a 4) _ None above)
    ∙ cond-true (lies_in stack_at m.places a 4) _ None lies in
    record {
      may = and_from (a % 4 == 0) (writable (as_state m) a 4) even may;
      word = little found;
      reads = cond-true (a % 4 == 0) _ (Err Misaligned) even ∙ ap number_of reads;
    }

-- ---- memory with more places

pub record Grown (m more : Memory) (room : ℕ) : Type 0 where
  pub statics : length more.statics ≡ length m.statics
  pub heap : length more.heap ≡ length m.heap
  pub same_heap : more.heap ≡ m.heap
  pub places : length more.places ≡ length m.places + room
  pub bytes : (at n : ℕ) → at + n ≤ stack_at + length m.places → bytes_at more at n ≡ bytes_at m at n
  pub may : (a : ℕ) → a + 4 ≤ stack_at + length m.places → may_put more a Word ≡ may_put m a Word

module _ (m : Memory) (front behind : List ℕ) where
  -- with the first of the places alone, and with all
  abbrev less : Memory
  less = record m { places = front }

  abbrev all : Memory
  all = record m { places = front ++ behind }

  module _ (at n : ℕ) (within : at + n ≤ stack_at + length front) where
    lies_same : lies_in stack_at (front ++ behind) at n ≡ lies_in stack_at front at n
    lies_same =
        let l = length-append front behind in
        ap (λ b. nat_le stack_at at && b)
        (le-leb (at + n) (stack_at + length (front ++ behind)) (omega (arith, l, within)) ∙ sym (le-leb (at + n) (stack_at + length front) within))

    part_same : part_of stack_at (front ++ behind) at n ≡ part_of stack_at front at n
    part_same = by (lies_in stack_at front at n) refl
      where
        by : (b : Bool) → lies_in stack_at front at n ≡ b → part_of stack_at (front ++ behind) at n ≡ part_of stack_at front at n
        by true e =
            let low = leb-true stack_at at (and_parts (nat_le stack_at at) (nat_le (at + n) (stack_at + length front)) e).0 in
            cond-true (lies_in stack_at (front ++ behind) at n) _ None (lies_same ∙ e)
            ∙ ap (λ l. Some l) (in_front (at - stack_at) n front behind (omega (arith, low, within)))
            ∙ sym (cond-true (lies_in stack_at front at n) _ None e)
        by false e =
            cond-false (lies_in stack_at (front ++ behind) at n) _ None (lies_same ∙ e) ∙ sym (cond-false (lies_in stack_at front at n) _ None e)

    bytes_same : bytes_at all at n ≡ bytes_at less at n
    bytes_same =
        ap (λ o. if n == 0 then Some [] else
        or_else (part_of code_at [] at n) (or_else (part_of statics_at m.statics at n) (or_else (part_of heap_at m.heap at n) o))) part_same

  may_same : (a : ℕ) → a + 4 ≤ stack_at + length front → may_put all a Word ≡ may_put less a Word
  may_same a within =
      ap (λ b. (a % 4 == 0) && (lies_in statics_at m.statics a 4 || (lies_in heap_at m.heap a 4 || b))) (lies_same a 4 within)

-- the places of a call come
pub places_come : (m : Memory) (room : ℕ) (bytes : List ℕ) → Grown m (with_places m room bytes) room
places_come m zero bytes = record {
  statics = refl;
  heap = refl;
  same_heap = refl;
  places = omega arith;
  bytes = λ at n within. refl;
  may = λ a within. refl;
}
places_come m (suc n) bytes =
    let new : List ℕ = take (suc n) (bytes ++ replicate (suc n) 0) in
    let long : length new ≡ suc n = length-take-le (suc n) (bytes ++ replicate (suc n) 0)
    (let a = length-append bytes (replicate (suc n) 0) in let b = length-replicate {A = ℕ} (suc n) 0 in omega (arith, a, b)) in
    let l = length-append m.places new in
    record {
      statics = refl;
      heap = refl;
      same_heap = refl;
      places = omega (arith, l, long);
      bytes = λ at n within. bytes_same m m.places new at n within;
      may = λ a within. may_same m m.places new a within;
    }

-- and go
pub places_go : (m : Memory) (room : ℕ) → room ≤ length m.places → Grown (without_places m room) m room
places_go m zero le = record {
  statics = refl;
  heap = refl;
  same_heap = refl;
  places = omega arith;
  bytes = λ at n within. refl;
  may = λ a within. refl;
}
places_go m (suc n) le =
    let k : ℕ = length m.places - suc n in
    let front : List ℕ = take k m.places in
    let behind : List ℕ = drop k m.places in
    let both : front ++ behind ≡ m.places = take-append-drop k m.places in
    let long : length front ≡ k = length-take-le k m.places (omega arith) in
    record {
      statics = refl;
      heap = refl;
      same_heap = refl;
      places = omega (arith, long, le);
      bytes = λ at n within. ap (λ ps. bytes_at (record m { places = ps }) at n) (sym both) ∙ bytes_same m front behind at n within;
      may = λ a within. ap (λ ps. may_put (record m { places = ps }) a Word) (sym both) ∙ may_same m front behind a within;
    }

module _ (m more : Memory) (room : ℕ) (g : Grown m more room) where
  word_same : (a : ℕ) → a + 4 ≤ stack_at + length m.places → number_at more a Word ≡ number_at m a Word
  word_same a within = ap (λ o. if a % 4 == 0 then number_of o else Err Misaligned) (g.bytes a 4 within)

  -- words that are read before the new places
  pub still_read : (a w : ℕ) → a + 4 ≤ stack_at + length m.places → number_at m a Word ≡ Ok w → number_at more a Word ≡ Ok w
  still_read a w within e = word_same a within ∙ e

  pub read_before : (a w : ℕ) → a + 4 ≤ stack_at + length m.places → number_at more a Word ≡ Ok w → number_at m a Word ≡ Ok w
  read_before a w within e = sym (word_same a within) ∙ e

  still_cell : (a : ℕ) → a + 4 ≤ stack_at + length m.places → Cell m a → Cell more a
  still_cell a within c = record { may = g.may a within ∙ c.may; word = c.word; reads = still_read a c.word within c.reads }

  cell_before : (a : ℕ) → a + 4 ≤ stack_at + length m.places → Cell more a → Cell m a
  cell_before a within c = record { may = sym (g.may a within) ∙ c.may; word = c.word; reads = read_before a c.word within c.reads }

  -- ---- what is true of memory

  module _ (x : Basis) (sites above : List Site) (linked : Linked x.table x.blocks sites) (next : next_base above ≡ next_base sites + room) where
    -- data ends before the places begin
    text_within : (at n : ℕ) → IsClosed x.table x.blocks at n → at + n ≤ stack_at
    text_within at n (inl h) = omega (arith, h.1)
    text_within at n (inr h) = omega (arith, h.1)

    datum_within : (a : ℕ) → a + 4 ≤ data_at + data_end x.table x.blocks → a + 4 ≤ stack_at
    datum_within a h = let d = x.small in omega (arith, h, d)

    pub good_come : MemoryGood x.table x.blocks sites x.first m → Linked x.table x.blocks above → MemoryGood x.table x.blocks above x.first more
    good_come good linked_above = record {
      sized = sized;
      statics = g.statics ∙ good.statics;
      heap = g.heap ∙ good.heap;
      bytes = subst AreBytes (sym g.same_heap) good.bytes;
      places = long;
      cells = cells;
      texts = λ at n is. g.bytes at n (let t = text_within at n is.0 in omega (arith, t)) ∙ good.texts at n is;
    }
      where
        long : stack_at + length more.places ≡ next_base above + SPARE_ROOM
        long = let p = g.places in let q = good.places in omega (arith, p, q, next)

        sized : Sized more
        sized = record {
          code_most = omega arith;
          statics_most = (let h = good.sized.statics_most in let e = g.statics in omega (arith, h, e));
          heap_most = (let h = good.sized.heap_most in let e = g.heap in omega (arith, h, e));
          stack_most = (let h = x.within above linked_above in let e = long in omega (arith, h, e));
        }

        cells : (a : ℕ) → a % 4 ≡ 0 → IsOpen x.table x.blocks above a → Cell more a
        cells a whole (inl h) = still_cell a (let t = datum_within a h.1 in omega (arith, t)) (good.cells a whole (inl h))
        cells a whole (inr h) = place_cell more sized a whole h.0 (let e = long in omega (arith, h.1, e))

    -- the heap stays too
    pub heap_still : Sized m → SameHeap m more
    heap_still sized = record {
      statics = g.statics;
      long = g.heap;
      front = λ b n low high. g.bytes b n (omega (arith, high));
      inside = λ b n low high. g.bytes b n (let most = sized.heap_most in omega (arith, high, most));
    }

    pub good_go : MemoryGood x.table x.blocks above x.first more → MemoryGood x.table x.blocks sites x.first m
    good_go good = record {
      sized = sized;
      statics = sym g.statics ∙ good.statics;
      heap = sym g.heap ∙ good.heap;
      bytes = subst AreBytes g.same_heap good.bytes;
      places = long;
      cells = cells;
      texts = λ at n is. sym (g.bytes at n (let t = text_within at n is.0 in omega (arith, t))) ∙ good.texts at n is;
    }
      where
        long : stack_at + length m.places ≡ next_base sites + SPARE_ROOM
        long = let p = g.places in let q = good.places in omega (arith, p, q, next)

        sized : Sized m
        sized = record {
          code_most = omega arith;
          statics_most = (let h = good.sized.statics_most in let e = g.statics in omega (arith, h, e));
          heap_most = (let h = good.sized.heap_most in let e = g.heap in omega (arith, h, e));
          stack_most = (let h = good.sized.stack_most in let e = g.places in omega (arith, h, e));
        }

        cells : (a : ℕ) → a % 4 ≡ 0 → IsOpen x.table x.blocks sites a → Cell m a
        cells a whole (inl h) = cell_before a (let t = datum_within a h.1 in omega (arith, t)) (good.cells a whole (inl h))
        cells a whole (inr h) = place_cell m sized a whole h.0 (let e = long in omega (arith, h.1, e))
