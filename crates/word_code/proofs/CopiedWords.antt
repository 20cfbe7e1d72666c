-- Memory in which words were copied from one range to another.
use Rattle.std.proofs.Common.{◌≡◌, ℕ, zero, suc, ◌+◌, ◌*◌, ◌%◌, ◌^◌, ◌<◌, ◌≤◌, ◌⊎◌, inl, inr, Ok, refl, sym, ap}
use Rattle.std.proofs.Common.{◌∙◌, arith}
use Rattle.rv32_isa.specs.declared.micro_op.Size.TheVariants.{Word}
use Rattle.word_code.specs.Memory.{KeepsShape, Memory, as_state, number_at, with_number, bytes_at}
use Rattle.word_code.specs.RoutineTable.{Cell, Area, low, LowWords, Separate, IsRewritten}
use Rattle.word_code.proofs.Cells.{MemoryLaw, Sized, sizes_same, sizes_more, put_sized, put_rewritten, put_here, put_elsewhere}
use Rattle.word_code.proofs.Areas.{put_cell, put_area, low_word, low_small, got_low, with_copied}

-- the word at an address, however that is written
pub at_same : (m : Memory) (a b : ℕ) → a ≡ b → number_at m a Word ≡ number_at m b Word
at_same m a b e = ap (λ x. number_at m x Word) e

-- a word apart from a range
abbrev pub Apart : (word at bytes : ℕ) → Type 0
Apart b a n = (b + 4 ≤ a) ⊎ (a + n ≤ b)

-- the bytes of so many words
abbrev pub span : ℕ → ℕ
span zero = 0
span (suc n) = 4 + span n

pub span_is : (n : ℕ) → span n ≡ 4 * n
span_is zero = refl
span_is (suc n) = let e = span_is n in omega arith

-- words apart from a range are as before
abbrev pub SameOutside : (m other : Memory) (at bytes : ℕ) → Type 0
SameOutside m other at n = (b : ℕ) → Apart b at n → number_at other b Word ≡ number_at m b Word

-- what stands in memory behind a change of a range: the rest as before, and the same words may be read and written
pub record Changed (m other : Memory) (at bytes : ℕ) : Type 0 where
  pub sized : Sized other
  pub sizes : KeepsShape (as_state m) (as_state other)
  pub cells : (b : ℕ) → Cell m b → Cell other b
  pub outside : SameOutside m other at bytes
  pub beside : (b n : ℕ) → (b + n ≤ at) ⊎ (at + bytes ≤ b) → bytes_at other b n ≡ bytes_at m b n

pub changed_none : (m : Memory) (at : ℕ) → Sized m → Changed m m at 0
changed_none m at sized =
    record { sized = sized; sizes = sizes_same m; cells = λ b c. c; outside = λ b apart. refl; beside = λ b n apart. refl }

pub changed_rewritten : (m other : Memory) (at n : ℕ) → Changed m other at n → IsRewritten m other at n
changed_rewritten m other at n c = record { sizes = c.sizes; beside = c.beside }

-- one word, and then those behind it
pub changed_more : (m middle other : Memory) (at n : ℕ) → Changed m middle at 4 → Changed middle other (at + 4) n → Changed m other at (4 + n)
changed_more m middle other at n x y = record {
  sized = y.sized;
  sizes = sizes_more m middle other x.sizes y.sizes;
  cells = λ b c. y.cells b (x.cells b c);
  outside = λ b apart. y.outside b (beyond b apart) ∙ x.outside b (before b apart);
  beside = λ b k apart. y.beside b k (further b k apart) ∙ x.beside b k (sooner b k apart);
}
  where
    further : (b k : ℕ) → (b + k ≤ at) ⊎ (at + (4 + n) ≤ b) → (b + k ≤ at + 4) ⊎ (at + 4 + n ≤ b)
    further b k (inl h) = inl (omega (arith, h))
    further b k (inr h) = inr (omega (arith, h))

    sooner : (b k : ℕ) → (b + k ≤ at) ⊎ (at + (4 + n) ≤ b) → (b + k ≤ at) ⊎ (at + 4 ≤ b)
    sooner b k (inl h) = inl h
    sooner b k (inr h) = inr (omega (arith, h))

    beyond : (b : ℕ) → Apart b at (4 + n) → Apart b (at + 4) n
    beyond b (inl h) = inl (omega arith)
    beyond b (inr h) = inr (omega arith)

    before : (b : ℕ) → Apart b at (4 + n) → Apart b at 4
    before b (inl h) = inl h
    before b (inr h) = inr (omega arith)

pub record CopiedTo (m other : Memory) (to from bytes : ℕ) : Type 0 where
  pub changed : Changed m other to bytes
  pub same : LowWords m from other to bytes

-- what is read of a cell
pub low_read : (m : Memory) (a : ℕ) → Cell m a → low (number_at m a Word) ≡ Ok (low_word m a)
low_read m a c = ap low c.reads ∙ ap Ok (got_low m a c)

module _ (law : MemoryLaw) where
  pub changed_word : (m : Memory) (a w : ℕ) → Sized m → Cell m a → w < 2 ^ 32 → Changed m (with_number m a Word w) a 4
  changed_word m a w sized c small = record {
    sized = put_sized law m a w sized c.may;
    sizes = (put_rewritten law m a w sized c.may).sizes;
    cells = put_cell law m a w sized c small;
    outside = λ b apart. put_elsewhere law m a w sized c.may b apart;
    beside = (put_rewritten law m a w sized c.may).beside;
  }

  -- ---- copied

  -- a word of the source behind the first one isn't the first of the target
  past_first : (to from n o : ℕ) → Separate to from (4 + n) → o + 4 ≤ n → Apart (from + 4 + o) to 4
  past_first to from n o (inl e) within = inr (omega arith)
  past_first to from n o (inr (inl h)) within = inr (omega arith)
  past_first to from n o (inr (inr h)) within = inl (omega arith)

  pub separate_on : (to from n : ℕ) → Separate to from (4 + n) → Separate (to + 4) (from + 4) n
  separate_on to from n (inl e) = inl (omega arith)
  separate_on to from n (inr (inl h)) = inr (inl (omega arith))
  separate_on to from n (inr (inr h)) = inr (inr (omega arith))

  pub copied_to : (n : ℕ) (m : Memory) (to from : ℕ) → Sized m → Area m to n → Area m from n → Separate to from (span n)
      → CopiedTo m (with_copied n m to from) to from (span n)
  copied_to zero m to from sized there here apart =
      record { changed = changed_none m to sized; same = λ o within is. absurd (omega arith) }
  copied_to (suc n) m to from sized there here apart =
      let w : ℕ = low_word m from in
      let small : w < 2 ^ 32 = low_small m from in
      let read : low (number_at m from Word) ≡ Ok w = low_read m from here.0 in
      let middle : Memory = with_number m to Word w in
      let x : Changed m middle to 4 = changed_word m to w sized there.0 small in
      let y : CopiedTo middle (with_copied n middle (to + 4) (from + 4)) (to + 4) (from + 4) (span n)
      = copied_to n middle (to + 4) (from + 4) x.sized (put_area law m to w sized there.0 small (to + 4) n there.1)
      (put_area law m to w sized there.0 small (from + 4) n here.1) (separate_on to from (span n) apart) in
      record {
        changed = changed_more m middle (with_copied n middle (to + 4) (from + 4)) to (span n) x y.changed;
        same = same n m to from sized there.0 here.0 apart w small read y;
      }
    where
      same : (n : ℕ) (m : Memory) (to from : ℕ) → Sized m → Cell m to → Cell m from → Separate to from (4 + span n) → (w : ℕ) → w < 2 ^ 32
          → low (number_at m from Word) ≡ Ok w
          → CopiedTo (with_number m to Word w) (with_copied n (with_number m to Word w) (to + 4) (from + 4)) (to + 4) (from + 4) (span n)
          → LowWords m from (with_copied n (with_number m to Word w) (to + 4) (from + 4)) to (4 + span n)
      same n m to from sized there here apart w small read y o within is = by o is within
        where
          by : (o : ℕ) → o % 4 ≡ 0 → o + 4 ≤ 4 + span n
              → number_at (with_copied n (with_number m to Word w) (to + 4) (from + 4)) (to + o) Word ≡ low (number_at m (from + o) Word)
          by (suc zero) e within = absurd (omega arith)
          by (suc (suc zero)) e within = absurd (omega arith)
          by (suc (suc (suc zero))) e within = absurd (omega arith)
          by zero e within =
              y.changed.outside (to + 0) (inl (omega arith))
              ∙ at_same (with_number m to Word w) (to + 0) to (omega arith)
              ∙ put_here law m to w sized there.may small
              ∙ sym read
              ∙ ap low (at_same m from (from + 0) (omega arith))
          by (suc (suc (suc (suc o)))) e within =
              at_same (with_copied n (with_number m to Word w) (to + 4) (from + 4)) (to + suc (suc (suc (suc o)))) (to + 4 + o) (omega arith)
              ∙ y.same o (omega arith) (omega arith)
              ∙ ap low (put_elsewhere law m to w sized there.may (from + 4 + o) (past_first to from (span n) o apart (omega arith)))
              ∙ ap low (at_same m (from + 4 + o) (from + suc (suc (suc (suc o)))) (omega arith))
