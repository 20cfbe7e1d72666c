-- The data of word code: what each program has, then globals, then the names of enums with where each ends, then the distinct texts of constants and
-- what else of constants stands in the data, each from a word on and behind its handle: how many bytes it has, and their address.
-- Each procedure's data is all of it. No public contract speaks of it.
use Rattle.std.specs.Prelude.{ℕ, suc, ◌+◌, ◌*◌, ◌-◌, if◌then◌else◌, List, [], ◌∷◌, ◌++◌, length, map, take, drop, replicate, codes}
use Rattle.nim_types.specs.declared.types.TypeDef.{TypeDef}
use Rattle.nim_types.specs.declared.types.TypeDef.TheVariants as D
use Rattle.nim_types.specs.declared.types.TheConstants.{WORD_BYTES}
use Rattle.rv32_isa.specs.Words.{word_bytes}
use Rattle.flat_code.specs.declared.block.BlockLine.{BlockLine}
use Rattle.flat_code.specs.declared.code.CodeProc.{CodeProc}
use Rattle.flat_code.specs.declared.line.Piece.{Piece}
use Rattle.flat_code.specs.declared.line.Piece.TheVariants as P
use Rattle.flat_code.specs.Codes.{block_plain}
use Rattle.flat_code.specs.Pieces.{has_links, standing_bytes}
use Rattle.word_code.specs.Memory.{own_data_at}
use Rattle.heap_memory.specs.declared.numbers.TheConstants.{HEAP_DATA}
use Rattle.word_lowering.specs.declared.handed.TheConstants.{LEFT_HANDLE_AT}
use Rattle.word_lowering.specs.Linked.{linked_bytes, laid_out}
pub use Rattle.word_lowering.specs.Aliases.{text_of, texts_of}
pub use Rattle.word_lowering.specs.Handled.{missing, padded, handled, laid_length, laid, place_among, or_zero, behind_handle}

-- ---- what each program has: a word whose first byte is a character that is written, a line end, the names of bools

abbrev pub fixed_texts : List ℕ
fixed_texts = padded (codes "\n") ++ (padded (codes "false") ++ padded (codes "true"))

-- ---- names of enums, in the order of the table

abbrev pub members_of : TypeDef → List (List ℕ)
members_of (D.Enum name at members) = members
members_of def = []

abbrev pub all_names : List TypeDef → List (List ℕ)
all_names [] = []
all_names (def ∷ defs) = members_of def ++ all_names defs

-- how many names stand before those of an enum, by its number
abbrev pub names_before : List TypeDef → ℕ → ℕ
names_before table ty = length (all_names (take ty table))

abbrev pub joined_all : List (List ℕ) → List ℕ
joined_all [] = []
joined_all (text ∷ texts) = text ++ joined_all texts

-- where each name begins, as a word, if the first one begins at n; before what follows
abbrev pub starts_from : ℕ → List (List ℕ) → List ℕ → List ℕ
starts_from n [] k = k
starts_from n (name ∷ names) k = word_bytes n ++ starts_from (n + length name) names k

-- the same, and where the last one ends
abbrev pub ends_from : ℕ → List (List ℕ) → List ℕ
ends_from n names = starts_from n names (word_bytes (n + length (joined_all names)))

-- ---- literals as they stand in the code: those of the last procedure come first

abbrev pub texts_in : List (CodeProc BlockLine) → List ℕ
texts_in [] = []
texts_in (p ∷ procs) = texts_in procs ++ texts_of (map block_plain p.lines)

-- ---- texts as they are laid out: the last one comes first

-- where a program's data begins, behind that of the heap's routines
abbrev pub data_at : ℕ
data_at = own_data_at + HEAP_DATA

abbrev pub laid_texts : (from : ℕ) → List (CodeProc BlockLine) → List ℕ
laid_texts from procs = laid from (laid_out from procs)

-- where the handle of a text is laid out, and where the text is
abbrev pub handle_place : (from : ℕ) → List (CodeProc BlockLine) → List ℕ → ℕ
handle_place from procs text = or_zero (place_among (laid_out from procs) text)

abbrev pub text_place : (from : ℕ) → List (CodeProc BlockLine) → List ℕ → ℕ
text_place from procs text = behind_handle (laid_out from procs) text

-- where the literal of so many bytes is laid out that stands at this offset in the code
abbrev pub place_of : (from : ℕ) → List (CodeProc BlockLine) → (offset bytes : ℕ) → ℕ
place_of from procs offset bytes = text_place from procs (take bytes (drop offset (texts_in procs)))

-- where a constant is laid out by its bytes: one without texts or sequences, and one with some
abbrev pub constant_place : (from : ℕ) → List (CodeProc BlockLine) → List Piece → ℕ
constant_place from procs pieces = text_place from procs (standing_bytes pieces)

abbrev pub linked_place : (from : ℕ) → List (CodeProc BlockLine) → List Piece → ℕ
linked_place from procs pieces = text_place from procs (linked_bytes from (laid_out from procs) pieces)

-- where what a constant that stands in the data leads to is laid out: the handle of a text, or its bytes
abbrev pub standing_place : (from : ℕ) → List (CodeProc BlockLine) → List Piece → ℕ
standing_place from procs (P.Text text ∷ []) = handle_place from procs text
standing_place from procs pieces = if has_links pieces then linked_place from procs pieces else constant_place from procs pieces

-- ---- all of it

-- where the names stand, and the texts; globals end at a byte, and the ends of names come first
abbrev pub names_at : List TypeDef → ℕ → ℕ
names_at table globals_end = globals_end + WORD_BYTES * suc (length (all_names table))

abbrev pub texts_at : List TypeDef → ℕ → ℕ
texts_at table globals_end = names_at table globals_end + length (padded (joined_all (all_names table)))

-- the texts of procedures, where globals end at a byte
abbrev pub texts_from : List TypeDef → (globals_end : ℕ) → List (CodeProc BlockLine) → List ℕ
texts_from table globals_end procs = laid_texts (data_at + texts_at table globals_end) procs

-- with texts as they are laid out
abbrev pub data_with : List TypeDef → (globals_end : ℕ) → (texts : List ℕ) → List ℕ
data_with table globals_end texts =
    replicate WORD_BYTES 0 ++ (fixed_texts ++ (replicate (globals_end - LEFT_HANDLE_AT) 0
    ++ (ends_from 0 (all_names table) ++ (padded (joined_all (all_names table)) ++ texts))))

abbrev pub data_in : List TypeDef → (globals_end : ℕ) → List (CodeProc BlockLine) → List ℕ
data_in table globals_end procs = data_with table globals_end (texts_from table globals_end procs)
