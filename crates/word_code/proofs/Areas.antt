-- Ranges of words that may be read and written, where words are put there.
use Rattle.std.proofs.Common.{◌≡◌, ℕ, zero, suc, ◌+◌, ◌%◌, ◌^◌, ◌<◌, ◌≤◌, ◌⊎◌, inl, inr, Result, Ok, Err, sym, ap, subst}
use Rattle.std.proofs.Common.{◌∙◌, arith}
use Rattle.std.proofs.lemmas.Bool.{and_parts, eqb-true, cases_order}
use Rattle.rv32_isa.specs.declared.micro_op.Size.TheVariants.{Word}
use Rattle.rv32_isa.specs.declared.machine.FaultKind.{FaultKind}
use Rattle.word_code.specs.Memory.{Memory, number_at, with_number}
use Rattle.word_code.specs.RoutineTable.{Cell, Area}
use Rattle.word_code.proofs.Cells.{MemoryLaw, Sized, put_may, put_here, put_elsewhere}

pub aligned : (m : Memory) (a : ℕ) → Cell m a → a % 4 ≡ 0
aligned m a c = eqb-true _ _ (and_parts _ _ c.may).0

-- words are the same or apart
pub same_or_apart : (a b : ℕ) → a % 4 ≡ 0 → b % 4 ≡ 0 → (a ≡ b) ⊎ ((b + 4 ≤ a) ⊎ (a + 4 ≤ b))
same_or_apart a b p q = by (cases_order a b)
  where
    by : (a ≡ b) ⊎ ((a < b) ⊎ (b < a)) → (a ≡ b) ⊎ ((b + 4 ≤ a) ⊎ (a + 4 ≤ b))
    by (inl e) = inl e
    by (inr (inl h)) = inr (inr (omega arith))
    by (inr (inr h)) = inr (inl (omega arith))

module _ (law : MemoryLaw) (m : Memory) (a w : ℕ) (sized : Sized m) (here : Cell m a) (small : w < 2 ^ 32) where
  pub put_cell : (b : ℕ) → Cell m b → Cell (with_number m a Word w) b
  put_cell b c = by (same_or_apart a b (aligned m a here) (aligned m b c))
    where
      by : (a ≡ b) ⊎ ((b + 4 ≤ a) ⊎ (a + 4 ≤ b)) → Cell (with_number m a Word w) b
      by (inl e) = record {
        may = put_may law m a w sized here.may b ∙ c.may;
        word = w;
        reads = subst (λ x. number_at (with_number m a Word w) x Word ≡ Ok w) e (put_here law m a w sized here.may small);
      }
      by (inr apart) = record {
        may = put_may law m a w sized here.may b ∙ c.may;
        word = c.word;
        reads = put_elsewhere law m a w sized here.may b apart ∙ c.reads;
      }

  pub put_area : (b n : ℕ) → Area m b n → Area (with_number m a Word w) b n
  put_area b zero area = tt
  put_area b (suc n) area = (put_cell b area.0, put_area (b + 4) n area.1)

-- ---- words copied, one after another

abbrev pub word_in : Result ℕ FaultKind → ℕ
word_in (Ok w) = w
word_in (Err kind) = 0

-- the low 32 bits of what stands at an address
abbrev pub low_word : Memory → (at : ℕ) → ℕ
low_word m a = word_in (number_at m a Word) % 2 ^ 32

pub low_small : (m : Memory) (a : ℕ) → low_word m a < 2 ^ 32
low_small m a = omega arith

-- a variable that got it
pub got_low : (m : Memory) (a : ℕ) (c : Cell m a) → c.word % 2 ^ 32 ≡ low_word m a
got_low m a c = ap (λ r. word_in r % 2 ^ 32) (sym c.reads)

abbrev pub with_copied : (words : ℕ) → Memory → (to from : ℕ) → Memory
with_copied zero m to from = m
with_copied (suc n) m to from = with_copied n (with_number m to Word (low_word m from)) (to + 4) (from + 4)
