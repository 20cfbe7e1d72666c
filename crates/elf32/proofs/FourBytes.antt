-- The word in four bytes.
use Rattle.std.proofs.Common.{◌≡◌, ◌<◌, ◌≤◌, ℕ, zero, suc, ◌+◌, ◌*◌, ◌/◌, ◌%◌, List, [], ◌∷◌, ◌++◌, length, drop, get_or, refl, ap, ◌∙◌, arith}
use Rattle.std.proofs.lemmas.List.{drop-drop, get_or-drop, length-drop}
use Rattle.rv32_isa.specs.Words.{word_bytes}
use Rattle.byteorder.specs.Endian.{little_number}
use Rattle.elf32.specs.Reading.{word_in}

-- numbers below 256
abbrev pub IsBytes : List ℕ → Type 0
IsBytes bytes = (i : ℕ) → get_or bytes i 0 < 256

-- the first four bytes are those of their number
word_front : (xs : List ℕ) → IsBytes xs → 4 ≤ length xs → xs ≡ word_bytes (little_number 4 xs) ++ drop 4 xs
unfolding word_bytes
word_front [] fits long = absurd (omega arith)
word_front (a ∷ []) fits long = absurd (omega arith)
word_front (a ∷ b ∷ []) fits long = absurd (omega arith)
word_front (a ∷ b ∷ c ∷ []) fits long = absurd (omega arith)
word_front (a ∷ b ∷ c ∷ d ∷ bytes) fits long =
    let n = little_number 4 (a ∷ b ∷ c ∷ d ∷ bytes) in
    let value : n ≡ a + 256 * (b + 256 * (c + 256 * (d + 256 * 0))) = refl in
    let first : a < 256 = fits 0 in
    let second : b < 256 = fits 1 in
    let third : c < 256 = fits 2 in
    let fourth : d < 256 = fits 3 in
    let one : a ≡ n % 256 = omega arith in
    let two : b ≡ n / 256 % 256 = omega arith in
    let three : c ≡ n / 65536 % 256 = omega arith in
    let four : d ≡ n / 16777216 % 256 = omega arith in
    cc

pub word_there : (bytes : List ℕ) (at : ℕ) → IsBytes bytes → at + 4 ≤ length bytes
    → drop at bytes ≡ word_bytes (little_number 4 (drop at bytes)) ++ drop (at + 4) bytes
word_there bytes at fits long =
    let room : 4 ≤ length (drop at bytes) = omega (arith, length-drop at bytes, long) in
    word_front (drop at bytes) (λ i. rw (get_or-drop at bytes i 0) (fits (at + i))) room
    ∙ ap (λ l. word_bytes (little_number 4 (drop at bytes)) ++ l) (drop-drop 4 at bytes)

pub word_number : (bytes : List ℕ) (at : ℕ) → at + 4 ≤ length bytes → little_number 4 (drop at bytes) ≡ word_in bytes at
word_number [] at long = absurd (omega arith)
word_number (a ∷ []) zero long = absurd (omega arith)
word_number (a ∷ b ∷ []) zero long = absurd (omega arith)
word_number (a ∷ b ∷ c ∷ []) zero long = absurd (omega arith)
word_number (a ∷ b ∷ c ∷ d ∷ bytes) zero long = refl
word_number (a ∷ bytes) (suc at) long = word_number bytes at (omega arith)
