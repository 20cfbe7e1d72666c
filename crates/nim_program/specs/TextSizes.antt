-- The bytes of texts in data.
use Rattle.std.specs.Prelude.{ℕ, ◌+◌, ◌*◌, ◌/◌, List, [], ◌∷◌, length}
use Rattle.nim_types.specs.declared.types.TheConstants.{WORD_BYTES}

-- up to whole words, and a word with its length
abbrev pub text_bytes : List ℕ → ℕ
text_bytes text = WORD_BYTES + WORD_BYTES * ((length text + 3) / WORD_BYTES)

abbrev pub all_bytes : List (List ℕ) → ℕ
all_bytes [] = 0
all_bytes (text ∷ texts) = text_bytes text + all_bytes texts
