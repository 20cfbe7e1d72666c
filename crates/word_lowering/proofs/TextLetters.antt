-- One character of a text, and its byte among those of the text.
use Rattle.std.proofs.Common.{◌≡◌, ◌⊎◌, inl, inr, ℕ, zero, suc, ◌+◌, ◌%◌, ◌^◌, ◌<◌, ◌≤◌, pos, List, [], ◌∷◌, length, take, drop, Some, Ok, Err, refl, sym}
use Rattle.std.proofs.Common.{ap, ap₂, ◌∙◌, arith}
use Rattle.std.specs.Prelude.{◌==◌, slice_set}
use Rattle.std.proofs.lemmas.Bool.{cases_lt, cond-true, eq-eqb}
use Rattle.rv32_isa.specs.Hooks.{code_at}
use Rattle.rv32_isa.specs.Steps.{number_of as bytes_number}
use Rattle.rv32_isa.specs.Words.{little}
use Rattle.rv32_isa.specs.declared.machine.FaultKind.TheVariants.{Misaligned}
use Rattle.rv32_isa.specs.declared.micro_op.Size.TheVariants.{Byte}
use Rattle.nim_meaning.specs.Values.{Number, characters, nth}
use Rattle.word_code.specs.Memory.{Memory, bytes_at, number_at}
use Rattle.word_code.proofs.ForCallers.{Sized}
use Rattle.heap_memory.specs.TextRoutines.{AreBytes}
use Rattle.heap_memory.proofs.ForCallers.{nothing_below, part_read, read_in}
use Rattle.word_lowering.proofs.Options.{none_some}

pub record Letter (text : List ℕ) (i : ℕ) : Type 0 where
  pub letter : ℕ
  pub is : nth (characters text) i ≡ Number (pos letter)
  pub one : take 1 (drop i text) ≡ letter ∷ []
  pub small : AreBytes text → letter < 256

pub letter_at : (text : List ℕ) (i : ℕ) → i < length text → Letter text i
letter_at [] i less = absurd (omega (arith, less))
letter_at (c ∷ text) zero less = record { letter = c; is = refl; one = refl; small = λ are. are.0 }
letter_at (c ∷ text) (suc i) less =
    let r = letter_at text i (omega (arith, less)) in
    record { letter = r.letter; is = r.is; one = r.one; small = λ are. r.small are.1 }

-- its byte is among those of the text
module _ (m : Memory) (sized : Sized m) where
  pub record ByteAt (a letter : ℕ) : Type 0 where
    pub reads : number_at m a Byte ≡ Ok letter
    pub small : a < 2 ^ 32

  pub byte_at : (a : ℕ) (letters : List ℕ) → bytes_at m a (length letters) ≡ Some letters → (i : ℕ) → i < length letters → (r : Letter letters i) →
      ByteAt (a + i) r.letter
  byte_at a [] here i less r = absurd (omega (arith, less))
  byte_at a (b ∷ letters) here i less r = by (cases_lt a code_at)
    where
      by : (a < code_at) ⊎ (code_at ≤ a) → ByteAt (a + i) r.letter
      by (inl low) = absurd (none_some (b ∷ letters) (sym (nothing_below m a (length letters) low) ∙ here))
      by (inr far) =
          let x = read_in m sized a (length (b ∷ letters)) (b ∷ letters) (omega arith) far here in
          let p = part_read m sized a (length (b ∷ letters)) (b ∷ letters) x here i 1 (omega (arith, less)) in
          let ends = x.region.ends in
          let high = x.high in
          let little_is : little (r.letter ∷ []) ≡ r.letter = omega arith in
          record {
            reads = cond-true ((a + i) % 1 == 0) (bytes_number (bytes_at m (a + i) 1)) (Err Misaligned) (eq-eqb ((a + i) % 1) 0 (omega arith))
                ∙ ap bytes_number (p ∙ ap Some r.one) ∙ ap Ok little_is;
            small = omega (arith, less, high, ends);
          }

-- ---- another character in its place

pub set_front : (n : ℕ) (xs : List ℕ) (i c : ℕ) → take n (slice_set xs i c) ≡ slice_set (take n xs) i c
set_front zero xs i c = refl
set_front (suc n) [] i c = refl
set_front (suc n) (x ∷ xs) zero c = refl
set_front (suc n) (x ∷ xs) (suc i) c = ap (λ l. x ∷ l) (set_front n xs i c)

head_or : List ℕ → ℕ
head_or [] = 0
head_or (x ∷ xs) = x

no_more : {A : Type 0} (x : ℕ) (xs : List ℕ) → ([] ≡ x ∷ xs) → A
no_more x xs e = absurd (let h = ap length e in omega (arith, h))

-- bytes that differ at a position alone
pub set_by : (xs ys : List ℕ) (i c : ℕ) → i < length xs → take i ys ≡ take i xs → take 1 (drop i ys) ≡ c ∷ [] → drop (suc i) ys ≡ drop (suc i) xs
    → ys ≡ slice_set xs i c
unfolding head_or
set_by [] ys i c less front one rest = absurd (omega (arith, less))
set_by (x ∷ xs) [] zero c less front one rest = no_more c [] one
set_by (x ∷ xs) (y ∷ ys) zero c less front one rest = ap₂ (λ h t. h ∷ t) (ap head_or one) rest
set_by (x ∷ xs) [] (suc i) c less front one rest = no_more x (take i xs) front
set_by (x ∷ xs) (y ∷ ys) (suc i) c less front one rest =
    ap₂ (λ h t. h ∷ t) (ap head_or front) (set_by xs ys i c (omega (arith, less)) (ap (drop 1) front) one rest)
