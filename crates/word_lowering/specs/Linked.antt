-- What code has laid out in the data: its texts, the constants that are read in place, and those with texts or sequences inside, which lead to what was
-- laid out before them. No public contract speaks of it.
use Rattle.std.specs.Int.{w32, cast_unsigned}
use Rattle.std.specs.Prelude.{ℕ, zero, suc, ◌+◌, Bool, true, false, if◌then◌else◌, List, [], ◌∷◌, ◌++◌, length, drop, Option, Some, None}
use Rattle.std.specs.Set.{unique_keys}
use Rattle.nim_types.specs.Types.{same_text}
use Rattle.nim_program.specs.declared.expr.Label.TheVariants as C
use Rattle.flat_code.specs.declared.block.BlockLine.{BlockLine}
use Rattle.flat_code.specs.declared.code.CodeProc.{CodeProc}
use Rattle.flat_code.specs.declared.line.Line.{Line}
use Rattle.flat_code.specs.declared.line.Line.TheVariants as L
use Rattle.flat_code.specs.declared.line.Piece.{Piece}
use Rattle.flat_code.specs.declared.line.Piece.TheVariants as P
use Rattle.flat_code.specs.Codes.{block_plain}
use Rattle.flat_code.specs.Pieces.{has_links, is_linked, words_bytes, standing_bytes}
use Rattle.word_lowering.specs.Handled.{behind_handle}

-- ---- the words of the values that pieces are, of which the last one comes first

-- those of the last so many, one behind the other
abbrev pub last_words : ℕ → List (List ℕ) → List ℕ
last_words zero values = []
last_words (suc n) [] = []
last_words (suc n) (words ∷ values) = last_words n values ++ words

-- What a piece leads to, which stands behind a handle of its own: a text, or the elements of a sequence.
abbrev pub item_of : Piece → (values : List (List ℕ)) → Option (List ℕ)
item_of (P.Text text) values = Some text
item_of (P.Elements n) values = Some (words_bytes (last_words n values))
item_of piece values = None

-- One more value: a text or a sequence has a length, and the address of what it leads to. What has no parts has a word that nobody looks at.
abbrev pub with_piece : Piece → (address : ℕ) → (values : List (List ℕ)) → List (List ℕ)
with_piece (P.Ordinal z) address values = (cast_unsigned w32 z ∷ []) ∷ values
with_piece (P.Text text) address values = (length text ∷ address ∷ []) ∷ values
with_piece P.Nil address values = (0 ∷ []) ∷ values
with_piece (P.Parts zero) address values = (0 ∷ []) ∷ values
with_piece (P.Parts (suc n)) address values = last_words (suc n) values ∷ drop (suc n) values
with_piece (P.Elements n) address values = (n ∷ address ∷ []) ∷ drop n values

-- the address of an item among what is laid out from an address on
abbrev pub item_address : (from : ℕ) → (texts : List (List ℕ)) → Option (List ℕ) → ℕ
item_address from texts None = 0
item_address from texts (Some item) = from + behind_handle texts item

abbrev pub with_pieces : (from : ℕ) → (texts : List (List ℕ)) → List Piece → (values : List (List ℕ)) → List (List ℕ)
with_pieces from texts [] values = values
with_pieces from texts (piece ∷ pieces) values = with_pieces from texts pieces (with_piece piece (item_address from texts (item_of piece values)) values)

-- the bytes of a constant with texts or sequences inside, where these are laid out
abbrev pub linked_bytes : (from : ℕ) → (texts : List (List ℕ)) → List Piece → List ℕ
linked_bytes from texts pieces = words_bytes (last_words 1 (with_pieces from texts pieces []))

-- ---- what code has laid out, as it is met from the last line to the first: before what was met

abbrev pub Before : Type 0
Before = List (List ℕ) → List (List ℕ)

abbrev pub piece_before : Piece → Before
piece_before (P.Text text) met = text ∷ met
piece_before piece met = met

-- the texts of a constant
abbrev pub pieces_before : List Piece → Before
pieces_before [] met = met
pieces_before (piece ∷ pieces) met = piece_before piece (pieces_before pieces met)

-- the elements of a sequence
abbrev pub elements_before : Piece → (values : List (List ℕ)) → Before
elements_before (P.Elements n) values met = words_bytes (last_words n values) ∷ met
elements_before piece values met = met

-- Its sequences, from the innermost ones on, and at last its own bytes: the words of what is inside are known by then.
abbrev pub items_before : (from : ℕ) → List Piece → (values : List (List ℕ)) → Before
items_before from [] values met = words_bytes (last_words 1 values) ∷ met
items_before from (piece ∷ pieces) values met =
    items_before from pieces
    (with_piece piece (item_address from (unique_keys same_text (elements_before piece values met)) (item_of piece values)) values)
    (elements_before piece values met)

abbrev pub if_linked : Bool → (from : ℕ) → List Piece → Before
if_linked false from pieces met = met
if_linked true from pieces met = items_before from pieces [] met

abbrev pub constant_before : (from : ℕ) → List Piece → Before
constant_before from pieces met = if_linked (is_linked pieces) from pieces (pieces_before pieces met)

-- one that is read in place; without texts or sequences, by its bytes
abbrev pub standing_before : (from : ℕ) → List Piece → Before
standing_before from pieces met = if has_links pieces then constant_before from pieces met else standing_bytes pieces ∷ met

abbrev pub line_before : (from : ℕ) → Line → Before
line_before from (L.Constant to how ty pieces) met = constant_before from pieces met
line_before from (L.Standing to ty pieces) met = standing_before from pieces met
line_before from (L.Fits these (C.Text text) to) met = text ∷ met
line_before from line met = met

abbrev pub lines_before : (from : ℕ) → List BlockLine → Before
lines_before from [] met = met
lines_before from (line ∷ lines) met = line_before from (block_plain line) (lines_before from lines met)

abbrev pub procs_before : (from : ℕ) → List (CodeProc BlockLine) → Before
procs_before from [] met = met
procs_before from (p ∷ procs) met = lines_before from p.lines (procs_before from procs met)

-- ---- all that is laid out from an address on, each distinct one once

abbrev pub laid_out : (from : ℕ) → List (CodeProc BlockLine) → List (List ℕ)
laid_out from procs = unique_keys same_text (procs_before from procs [])
