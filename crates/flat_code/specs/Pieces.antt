-- The value of a constant, from its pieces: parts stand before the whole.
use Rattle.std.specs.Int.{w32, cast_unsigned, to_le_bytes}
use Rattle.std.specs.Prelude.{ℕ, zero, suc, ◌-◌, nat_eq, nat_le, Bool, true, false, not, ◌&&◌, List, [], ◌∷◌, ◌++◌, None}
use Rattle.nim_program.specs.Program.{Literal, Number as Ordinal, Characters, NoObject, PartsOf, ElementsOf, Literals, NoLiteral, ALiteral}
use Rattle.nim_meaning.specs.Values.{Value, Number, Parts, Fixed, Ref, Values, Nil, More, nothing, bytes}
use Rattle.flat_code.specs.declared.line.Piece.{Piece}
use Rattle.flat_code.specs.declared.line.Piece.TheVariants as P

-- the last so many values are the parts of one, and the values before it stay
abbrev pub gathered : ℕ → (before : List Value) → (parts : Values) → List Value
gathered zero before parts = Parts parts ∷ before
gathered (suc n) [] parts = Parts parts ∷ []
gathered (suc n) (v ∷ before) parts = gathered n before (More v parts)

-- the values that are read so far, the last one first
abbrev pub read_on : List Piece → List Value → List Value
read_on [] before = before
read_on (P.Ordinal z ∷ pieces) before = read_on pieces (Number z ∷ before)
read_on (P.Text text ∷ pieces) before = read_on pieces (Fixed text ∷ before)
read_on (P.Nil ∷ pieces) before = read_on pieces (Ref None ∷ before)
read_on (P.Parts n ∷ pieces) before = read_on pieces (gathered n before Nil)
read_on (P.Elements n ∷ pieces) before = read_on pieces (gathered n before Nil)

abbrev pub last_read : List Value → Value
last_read [] = nothing
last_read (v ∷ before) = v

abbrev pub value_of : List Piece → Value
value_of pieces = last_read (read_on pieces [])

-- behind so many values, these pieces come to one value: parts stand before each whole, and none is left over
abbrev pub are_one : List Piece → (before : ℕ) → Bool
are_one [] before = nat_eq before 1
are_one (P.Ordinal z ∷ pieces) before = are_one pieces (suc before)
are_one (P.Text text ∷ pieces) before = are_one pieces (suc before)
are_one (P.Nil ∷ pieces) before = are_one pieces (suc before)
are_one (P.Parts n ∷ pieces) before = nat_le n before && are_one pieces (suc (before - n))
are_one (P.Elements n ∷ pieces) before = nat_le n before && are_one pieces (suc (before - n))

-- one text, which a line reads where it stands
abbrev pub is_one_text : List Piece → Bool
is_one_text (P.Text text ∷ []) = true
is_one_text pieces = false

-- whether texts or sequences stand in it, whose handles lead to what stands elsewhere in the data; and a constant that is more than one text and has some
abbrev pub has_links : List Piece → Bool
has_links [] = false
has_links (P.Text text ∷ pieces) = true
has_links (P.Elements n ∷ pieces) = true
has_links (piece ∷ pieces) = has_links pieces

abbrev pub is_linked : List Piece → Bool
is_linked pieces = not (is_one_text pieces) && has_links pieces

-- the bytes of a constant that is built; a number and a text that is read have none
abbrev pub pieces_bytes : List Piece → ℕ
pieces_bytes (P.Ordinal z ∷ []) = 0
pieces_bytes (P.Text text ∷ []) = 0
pieces_bytes pieces = bytes (value_of pieces)

-- ---- constants that stand in the data

-- The words of pieces without texts or sequences: a value without parts has one that nobody looks at.
abbrev pub piece_words : List Piece → List ℕ
piece_words [] = []
piece_words (P.Ordinal z ∷ pieces) = cast_unsigned w32 z ∷ piece_words pieces
piece_words (P.Parts zero ∷ pieces) = 0 ∷ piece_words pieces
piece_words (piece ∷ pieces) = piece_words pieces

-- their bytes, the lowest one of a word first
abbrev pub words_bytes : List ℕ → List ℕ
words_bytes [] = []
words_bytes (word ∷ words) = to_le_bytes w32 word ++ words_bytes words

-- parts stand before the whole, so the words of pieces in their order are those of the value
abbrev pub standing_bytes : List Piece → List ℕ
standing_bytes pieces = words_bytes (piece_words pieces)

-- ---- the pieces of a constant's value

abbrev pub count_of : Literals → ℕ
count_of NoLiteral = 0
count_of (ALiteral first rest) = suc (count_of rest)

abbrev mutual
  pub pieces_of : Literal → List Piece
  pieces_of (Ordinal z) = P.Ordinal z ∷ []
  pieces_of (Characters text) = P.Text text ∷ []
  pieces_of NoObject = P.Nil ∷ []
  pieces_of (PartsOf all) = pieces_of_all all ++ P.Parts (count_of all) ∷ []
  pieces_of (ElementsOf all) = pieces_of_all all ++ P.Elements (count_of all) ∷ []

  pub pieces_of_all : Literals → List Piece
  pieces_of_all NoLiteral = []
  pieces_of_all (ALiteral first rest) = pieces_of first ++ pieces_of_all rest
