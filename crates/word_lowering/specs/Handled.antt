-- Texts as they are laid out in the data, each behind a handle: its length and where it stands. No public contract speaks of it.
use Rattle.std.specs.Prelude.{ℕ, ◌+◌, ◌-◌, ◌%◌, if◌then◌else◌, List, [], ◌∷◌, ◌++◌, length, replicate, Option, Some, None}
use Rattle.nim_types.specs.Types.{same_text}
use Rattle.rv32_isa.specs.Words.{word_bytes}
use Rattle.word_lowering.specs.declared.texts.TheConstants.{HANDLE_BYTES}

-- zeros up to a whole number of words
abbrev pub missing : ℕ → ℕ
missing n = (4 - n % 4) % 4

abbrev pub padded : List ℕ → List ℕ
padded bytes = bytes ++ replicate (missing (length bytes)) 0

-- a text behind its handle, which stands at an address
abbrev pub handled : (at : ℕ) → List ℕ → List ℕ
handled at text = word_bytes (length text) ++ (word_bytes (at + HANDLE_BYTES) ++ padded text)

-- ---- distinct texts, of which the last one comes first

abbrev pub laid_length : List (List ℕ) → ℕ
laid_length [] = 0
laid_length (text ∷ texts) = laid_length texts + (HANDLE_BYTES + length (padded text))

-- from an address on
abbrev pub laid : (from : ℕ) → List (List ℕ) → List ℕ
laid from [] = []
laid from (text ∷ texts) = laid from texts ++ handled (from + laid_length texts) text

-- where the handle of a text stands
abbrev pub place_among : List (List ℕ) → (text : List ℕ) → Option ℕ
place_among [] text = None
place_among (other ∷ texts) text = if same_text text other then Some (laid_length texts) else place_among texts text

abbrev pub or_zero : Option ℕ → ℕ
or_zero None = 0
or_zero (Some n) = n

-- how far behind the first handle a text stands
abbrev pub behind_handle : List (List ℕ) → (text : List ℕ) → ℕ
behind_handle texts text = or_zero (place_among texts text) + HANDLE_BYTES
