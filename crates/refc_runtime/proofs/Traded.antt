-- Memory in which the words of two ranges traded places.
use Rattle.std.proofs.Common.{◌≡◌, ℕ, zero, suc, ◌+◌, ◌%◌, ◌≤◌, ◌⊎◌, inl, inr, Ok}
use Rattle.std.proofs.Common.{refl, sym, ap, ◌∙◌, arith}
use Rattle.rv32_isa.specs.declared.micro_op.Size.TheVariants.{Word}
use Rattle.word_code.specs.Memory.{KeepsShape, Memory, as_state, number_at, with_number, bytes_at}
use Rattle.word_code.specs.RoutineTable.{Cell, Area, low, LowWords, Separate}
use Rattle.word_code.proofs.ForCallers.{MemoryLaw, Sized, sizes_same, sizes_more, put_here, low_word, low_small, low_read, at_same, Apart, span, Changed}
use Rattle.word_code.proofs.ForCallers.{changed_word}
use Rattle.word_code.proofs.ForCallers.{separate_on}

-- words trade places, one after another
abbrev pub traded : Memory → (left right : ℕ) → Memory
traded m left right =
    with_number (with_number m left Word (low_word m right)) right Word (low_word m left)

abbrev pub with_traded : (words : ℕ) → Memory → (left right : ℕ) → Memory
with_traded zero m left right = m
with_traded (suc n) m left right = with_traded n (traded m left right) (left + 4) (right + 4)

-- what stands in memory behind it: the words of each range are where those of the other one were, and the rest is as before
pub record Trade (m other : Memory) (left right bytes : ℕ) : Type 0 where
  pub sizes : KeepsShape (as_state m) (as_state other)
  pub outside : (b : ℕ) → Apart b left bytes → Apart b right bytes → number_at other b Word ≡ number_at m b Word
  pub beside : (b n : ℕ) → (b + n ≤ left) ⊎ (left + bytes ≤ b) → (b + n ≤ right) ⊎ (right + bytes ≤ b)
      → bytes_at other b n ≡ bytes_at m b n
  pub to_left : LowWords m right other left bytes
  pub to_right : LowWords m left other right bytes

pub trade_turned : (m other : Memory) (left right n : ℕ) → Trade m other left right n → Trade m other right left n
trade_turned m other left right n t = record {
  sizes = t.sizes;
  outside = λ b p q. t.outside b q p;
  beside = λ b k p q. t.beside b k q p;
  to_left = t.to_right;
  to_right = t.to_left;
}

pub area_kept : (m other : Memory) → ((b : ℕ) → Cell m b → Cell other b) → (a n : ℕ) → Area m a n → Area other a n
area_kept m other cells a zero area = tt
area_kept m other cells a (suc n) area = (cells a area.0, area_kept m other cells (a + 4) n area.1)

one_word : (m other : Memory) (from to : ℕ) → number_at other to Word ≡ low (number_at m from Word) → LowWords m from other to 4
one_word m other from to e o within is =
    at_same other (to + o) to (omega (arith, within)) ∙ e ∙ ap low (at_same m from (from + o) (omega (arith, within)))

-- what is beside a range is so of its first word, and of those behind it
rest_of : (a n b k : ℕ) → (b + k ≤ a) ⊎ (a + (4 + n) ≤ b) → (b + k ≤ a + 4) ⊎ (a + 4 + n ≤ b)
rest_of a n b k (inl h) = inl (omega (arith, h))
rest_of a n b k (inr h) = inr (omega (arith, h))

first_of : (a n b k : ℕ) → (b + k ≤ a) ⊎ (a + (4 + n) ≤ b) → (b + k ≤ a) ⊎ (a + 4 ≤ b)
first_of a n b k (inl h) = inl h
first_of a n b k (inr h) = inr (omega (arith, h))

module _ (law : MemoryLaw) where
  -- ---- one word of each range

  -- one is put after the other
  pub record Pair (m : Memory) (left right : ℕ) : Type 0 where
    pub first : Changed m (with_number m left Word (low_word m right)) left 4
    pub second : Changed (with_number m left Word (low_word m right)) (traded m left right) right 4

  pub pair : (m : Memory) (left right : ℕ) → Sized m → Cell m left → Cell m right → Pair m left right
  pair m left right sized here there =
      let b : ℕ = low_word m right in
      let x : Changed m (with_number m left Word b) left 4 = changed_word law m left b sized here (low_small m right) in
      record {
        first = x;
        second = changed_word law (with_number m left Word b) right (low_word m left) x.sized (x.cells right there) (low_small m left);
      }

  pub pair_cells : (m : Memory) (left right : ℕ) → Pair m left right → (b : ℕ) → Cell m b → Cell (traded m left right) b
  pair_cells m left right p b c = p.second.cells b (p.first.cells b c)

  pair_traded : (m : Memory) (left right : ℕ) → Sized m → Cell m left → Cell m right → Separate left right 4
      → Trade m (traded m left right) left right 4
  pair_traded m left right sized here there apart = record {
    sizes = sizes_more m (with_number m left Word (low_word m right)) (traded m left right) p.first.sizes p.second.sizes;
    outside = λ c al ar. p.second.outside c ar ∙ p.first.outside c al;
    beside = λ c n al ar. p.second.beside c n ar ∙ p.first.beside c n al;
    to_left = one_word m (traded m left right) right left (at_left apart ∙ sym (low_read m right there));
    to_right = one_word m (traded m left right) left right (at_right ∙ sym (low_read m left here));
  }
    where
      p : Pair m left right
      p = pair m left right sized here there

      at_right : number_at (traded m left right) right Word ≡ Ok (low_word m left)
      at_right = put_here law (with_number m left Word (low_word m right)) right (low_word m left) p.first.sized
          (p.first.cells right there).may (low_small m left)

      at_left : Separate left right 4 → number_at (traded m left right) left Word ≡ Ok (low_word m right)
      at_left (inl e) = at_same (traded m left right) left right e ∙ at_right ∙ ap (λ a. Ok (low_word m a)) e
      at_left (inr d) =
          p.second.outside left d ∙ put_here law m left (low_word m right) sized here.may (low_small m right)

  -- ---- and those behind them

  module _ (m middle other : Memory) where
    words_more : (left right n : ℕ) → Separate left right (4 + n) → Trade m middle left right 4 → Trade middle other (left + 4) (right + 4) n
        → LowWords m right other left (4 + n)
    words_more left right n apart x y o within is = by o is within
      where
        first_apart : Separate left right (4 + n) → Apart (left + 0) (right + 4) n
        first_apart (inl e) = inl (omega (arith, e))
        first_apart (inr (inl h)) = inl (omega (arith, h))
        first_apart (inr (inr h)) = inr (omega (arith, h))

        past_first : (o : ℕ) → o + 4 ≤ n → Separate left right (4 + n) → Apart (right + 4 + o) left 4
        past_first o within (inl e) = inr (omega (arith, e))
        past_first o within (inr (inl h)) = inr (omega (arith, h))
        past_first o within (inr (inr h)) = inl (omega (arith, h, within))

        by : (o : ℕ) → o % 4 ≡ 0 → o + 4 ≤ 4 + n → number_at other (left + o) Word ≡ low (number_at m (right + o) Word)
        by (suc zero) e within = absurd (omega (arith, e))
        by (suc (suc zero)) e within = absurd (omega (arith, e))
        by (suc (suc (suc zero))) e within = absurd (omega (arith, e))
        by zero e within = y.outside (left + 0) (inl (omega arith)) (first_apart apart) ∙ x.to_left 0 (omega arith) refl
        by (suc (suc (suc (suc o)))) e within =
            at_same other (left + suc (suc (suc (suc o)))) (left + 4 + o) (omega arith)
            ∙ y.to_left o (omega (arith, within)) (omega (arith, e))
            ∙ ap low (x.outside (right + 4 + o) (past_first o (omega (arith, within)) apart) (inr (omega arith)))
            ∙ ap low (at_same m (right + 4 + o) (right + suc (suc (suc (suc o)))) (omega arith))

    trade_more : (left right n : ℕ) → Separate left right (4 + n) → Trade m middle left right 4 → Trade middle other (left + 4) (right + 4) n
        → Trade m other left right (4 + n)
    trade_more left right n apart x y = record {
      sizes = sizes_more m middle other x.sizes y.sizes;
      outside = λ b al ar. y.outside b (rest_of left n b 4 al) (rest_of right n b 4 ar) ∙ x.outside b (first_of left n b 4 al) (first_of right n b 4 ar);
      beside = λ b k al ar. y.beside b k (rest_of left n b k al) (rest_of right n b k ar) ∙ x.beside b k (first_of left n b k al) (first_of right n b k ar);
      to_left = words_more left right n apart x y;
      to_right = words_more right left n (turned apart) (trade_turned m middle left right 4 x)
          (trade_turned middle other (left + 4) (right + 4) n y);
    }
      where
        turned : Separate left right (4 + n) → Separate right left (4 + n)
        turned (inl e) = inl (sym e)
        turned (inr (inl h)) = inr (inr h)
        turned (inr (inr h)) = inr (inl h)

  pub all_traded : (n : ℕ) (m : Memory) (left right : ℕ) → Sized m → Area m left n → Area m right n → Separate left right (span n)
      → Trade m (with_traded n m left right) left right (span n)
  all_traded zero m left right sized here there apart = record {
    sizes = sizes_same m;
    outside = λ b al ar. refl;
    beside = λ b k al ar. refl;
    to_left = λ o within is. absurd (omega (arith, within));
    to_right = λ o within is. absurd (omega (arith, within));
  }
  all_traded (suc n) m left right sized here there apart =
      let p = pair m left right sized here.0 there.0 in
      let cells : (b : ℕ) → Cell m b → Cell (traded m left right) b = pair_cells m left right p in
      trade_more m (traded m left right) (with_traded n (traded m left right) (left + 4) (right + 4)) left right (span n) apart
      (pair_traded m left right sized here.0 there.0 (first_word n left right apart))
      (all_traded n (traded m left right) (left + 4) (right + 4) p.second.sized
      (area_kept m (traded m left right) cells (left + 4) n here.1) (area_kept m (traded m left right) cells (right + 4) n there.1)
      (separate_on law left right (span n) apart))
    where
      first_word : (n left right : ℕ) → Separate left right (4 + span n) → Separate left right 4
      first_word n left right (inl e) = inl e
      first_word n left right (inr (inl h)) = inr (inl (omega (arith, h)))
      first_word n left right (inr (inr h)) = inr (inr (omega (arith, h)))
