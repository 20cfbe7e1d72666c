-- Bytes up to a whole number of words.
use Rattle.std.proofs.Common.{◌≡◌, ℕ, zero, suc, ◌+◌, ◌%◌, ◌≤◌, List, ◌++◌, length, replicate, refl, ap, ◌∙◌, arith, append-nil, length-append}
use Rattle.word_lowering.specs.Texts.{missing, padded}

pub zeros_length : (n : ℕ) → length {A = ℕ} (replicate n 0) ≡ n
zeros_length zero = refl
zeros_length (suc n) = ap suc (zeros_length n)

pub padded_length : (bytes : List ℕ) → length (padded bytes) ≡ length bytes + missing (length bytes)
padded_length bytes =
    length-append bytes (replicate (missing (length bytes)) 0) ∙ ap (λ n. length bytes + n) (zeros_length (missing (length bytes)))

pub padded_whole : (bytes : List ℕ) → length (padded bytes) % 4 ≡ 0
padded_whole bytes = let e = padded_length bytes in omega (arith, e)

pub padded_most : (bytes : List ℕ) → length (padded bytes) ≤ length bytes + 3
padded_most bytes = let e = padded_length bytes in omega (arith, e)

-- what is whole words stays as it is
pub whole_padded : (bytes : List ℕ) → length bytes % 4 ≡ 0 → padded bytes ≡ bytes
whole_padded bytes whole = ap (λ n. bytes ++ replicate n 0) none ∙ append-nil bytes
  where
    none : missing (length bytes) ≡ 0
    none = omega (arith, whole)
