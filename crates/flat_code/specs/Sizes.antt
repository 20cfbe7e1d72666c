-- How much code there is, how many bytes the variables of a procedure take, and how many data: what passes bound.
use Rattle.std.specs.Prelude.{ℕ, zero, suc, Bool, true, ◌+◌, ◌*◌, pos, if◌then◌else◌, List, [], ◌∷◌, ◌++◌, length, map}
use Rattle.std.specs.Ordering.{int_eq}
use Rattle.std.specs.Set.{unique_keys}
use Rattle.nim_types.specs.Types.{same_text}
use Rattle.nim_types.specs.declared.types.TheConstants.{WORD_BYTES, LIST_BYTES}
use Rattle.nim_types.specs.declared.types.TypeDef.{TypeDef}
use Rattle.nim_types.specs.declared.types.TypeDef.TheVariants as D
use Rattle.nim_types.specs.Table.{type_at}
use Rattle.nim_program.specs.declared.operation.Operation.{Operation}
use Rattle.nim_program.specs.declared.operation.Operation.TheVariants as O
use Rattle.nim_program.specs.declared.program.Mode.TheVariants.{Plain, Sink, Var}
use Rattle.nim_program.specs.Sizes.{type_bytes}
use Rattle.nim_program.specs.TextSizes.{all_bytes}
use Rattle.flat_code.specs.declared.code.CodeProc.{CodeProc}
use Rattle.nim_program.specs.declared.expr.Label.{Label}
use Rattle.nim_program.specs.declared.expr.Label.TheVariants as C
use Rattle.flat_code.specs.declared.line.Owning.{Owning}
use Rattle.flat_code.specs.declared.line.Owning.TheVariants as W
use Rattle.flat_code.specs.declared.line.Line.{Line}
use Rattle.flat_code.specs.declared.line.Line.TheVariants as L
use Rattle.flat_code.specs.declared.line.Piece.{Piece}
use Rattle.flat_code.specs.declared.line.Piece.TheVariants as P
use Rattle.flat_code.specs.declared.place.PlaceKind.{PlaceKind}
use Rattle.flat_code.specs.declared.place.PlaceKind.TheVariants.{Local, Cursor, Result, Param, ForVar, Caught, Global, Temp, Location, Within, Counter}
use Rattle.flat_code.specs.declared.place.FlatPlace.{FlatPlace}
use Rattle.flat_code.specs.Fits.{start_places}
use Rattle.flat_code.specs.Pieces.{has_links, is_linked, standing_bytes}
use Rattle.flat_code.specs.Scene.{Known, known_in}

-- ---- variables

-- a `var` parameter and a location are a word, whatever stands there; a global is no variable of its procedure
abbrev pub kind_bytes : PlaceKind → (value : ℕ) → ℕ
kind_bytes Local value = value
kind_bytes Cursor value = value
kind_bytes Result value = value
kind_bytes (Param Plain) value = value
kind_bytes (Param Sink) value = value
kind_bytes (Param Var) value = WORD_BYTES
kind_bytes ForVar value = value
kind_bytes Caught value = value
kind_bytes Global value = 0
kind_bytes Temp value = value
kind_bytes Location value = WORD_BYTES
kind_bytes Within value = WORD_BYTES
kind_bytes Counter value = WORD_BYTES

-- what is lent to a plain parameter is a word
abbrev pub lent_bytes : PlaceKind → (hooked : Bool) → (value : ℕ) → ℕ
lent_bytes (Param Plain) true value = WORD_BYTES
lent_bytes kind hooked value = kind_bytes kind value

abbrev pub place_bytes : Known → FlatPlace → ℕ
place_bytes known p = lent_bytes p.kind p.hooked (type_bytes known.facts (type_at known.types p.ty))

-- the bytes of the variables of a procedure
abbrev pub places_bytes : Known → List FlatPlace → ℕ
places_bytes known [] = 0
places_bytes known (p ∷ places) = place_bytes known p + places_bytes known places

-- ---- weights: at least one for each line, and at least as many as the lines of word code that it becomes, with labels

-- a value comes to another place, by a routine where it is no word; zeros come to one; and an argument comes to its parameter, by a loop of its own
-- where it is no word
abbrev pub move_weight : ℕ
move_weight = 7

abbrev pub clear_weight : ℕ
clear_weight = 5

abbrev pub argument_weight : ℕ
argument_weight = 11

-- a value that waits as it is used is moved to where it does, which is said there
abbrev pub keep_weight : ℕ
keep_weight = 8

-- what `echo` writes of an operand: the longest is that of a member of an enum
abbrev pub text_weight : ℕ
text_weight = 12

-- an operation with so many operands; refs have no word code yet
abbrev pub weight_of : Operation → (operands : ℕ) → ℕ
weight_of O.Default n = clear_weight
weight_of (O.Unary operator) n = 4
weight_of (O.Binary operator) n = 8
weight_of (O.Compare comparison) n = 3 + 10 * n
weight_of O.Convert n = move_weight
weight_of O.Join n = 1 + 10 * n
weight_of O.Show n = 7 + 12 * n
weight_of O.Make n = suc (move_weight * n)
weight_of O.Sequence n = 10 + 8 * n
weight_of O.NewSequence n = 9
weight_of (O.Measure measure) n = 3
weight_of O.Echo n = 3 + text_weight * n
weight_of O.Quit n = 2
weight_of O.ReadLineInto n = 3
weight_of O.Assign n = move_weight
weight_of (O.Update operator) n = 13
weight_of O.Add n = 12
weight_of O.Append n = 8 + 12 * n
weight_of O.SetLength n = 2 + 8 * n
weight_of O.Pop n = 4 + 12 * n
weight_of O.Move n = move_weight + clear_weight
weight_of O.Swap n = 7
weight_of operation n = 1

-- what is zero stands already; a text has an address and a length
abbrev pub piece_weight : Piece → ℕ
piece_weight (P.Ordinal z) = if int_eq z (pos 0) then 0 else 3
piece_weight (P.Text text) = 6
piece_weight P.Nil = 0
piece_weight (P.Parts n) = 0
piece_weight (P.Elements n) = 0

abbrev pub pieces_weight : List Piece → ℕ
pieces_weight [] = 0
pieces_weight (piece ∷ pieces) = piece_weight piece + pieces_weight pieces

-- a label of a `case`: a text is compared by a routine, which is given two handles
abbrev pub label_weight : Label → ℕ
label_weight (C.Ordinals low high) = 4
label_weight (C.Text text) = 19

-- what is owned: a hook is called with one or two addresses, for what waits where something does
abbrev pub owning_weight : Owning → ℕ
owning_weight (W.TakenUp node) = 1
owning_weight (W.Waits node) = keep_weight
owning_weight (W.TemporaryEnds node ty) = 9
owning_weight (W.PlaceEnds place ty) = 5
owning_weight (W.PlaceCopies place ty) = 7
owning_weight (W.PlaceStands place) = 1
owning_weight (W.ResultGets place ty) = 7

abbrev pub weight : Line → ℕ
weight (L.Apply to operation how ty of from) = keep_weight + weight_of operation (length from)
weight (L.Construct to how ty fields from) = keep_weight + clear_weight + move_weight * length from
-- one with texts or sequences inside is copied from where it stands
weight (L.Constant to how ty pieces) = keep_weight + suc move_weight + pieces_weight pieces
-- the unit, the test of how many calls are active, and the result
weight (L.Call to how ty proc from) = 6 + move_weight + argument_weight * length from
weight (L.Get to from how ty) = keep_weight + move_weight
weight (L.Look to from) = move_weight
weight (L.Root to place global) = 1
weight (L.Fresh to from waits) = 1
weight (L.Standing to ty pieces) = 1
weight (L.Part to from field) = 2
weight (L.Item to from index) = 8
weight (L.Object to from) = 3
weight (L.Pass to from how ty) = keep_weight + move_weight
weight (L.Truth to holds) = 1
weight (L.Fill place from) = move_weight
weight (L.Blank place ty) = clear_weight
weight (L.Give place from) = move_weight
weight (L.Own what from) = owning_weight what
weight (L.Zero to) = 1
weight (L.Length to from) = 2
weight (L.Still from len) = 3
weight (L.Element to from index) = 13
weight (L.Beyond counter last inclusive to) = 1
weight (L.Next counter last) = 1
weight (L.Label name) = 1
weight (L.Jump to) = 1
weight (L.Unless from to) = 2
weight (L.Fits from these to) = label_weight these
weight L.Enter = 1
weight (L.Turn to) = 2
weight (L.TurnIf from to) = 3
weight (L.CountTurn counter last inclusive to) = 7
weight (L.Return result) = 3

-- ---- data

abbrev pub piece_texts : Piece → List (List ℕ)
piece_texts (P.Text text) = text ∷ []
piece_texts piece = []

abbrev pub pieces_texts : List Piece → List (List ℕ)
pieces_texts [] = []
pieces_texts (piece ∷ pieces) = piece_texts piece ++ pieces_texts pieces

-- a constant that stands in the data: its texts, or the bytes of one without texts or sequences
abbrev pub standing_texts : List Piece → List (List ℕ)
standing_texts pieces = if has_links pieces then pieces_texts pieces else standing_bytes pieces ∷ []

-- the texts of constants, each as often as it stands there
abbrev pub texts_in : Line → List (List ℕ)
texts_in (L.Constant to how ty pieces) = pieces_texts pieces
texts_in (L.Standing to ty pieces) = standing_texts pieces
texts_in (L.Fits from (C.Text text) to) = text ∷ []
texts_in line = []

abbrev pub lines_texts : List Line → List (List ℕ)
lines_texts [] = []
lines_texts (line ∷ lines) = texts_in line ++ lines_texts lines

-- The bytes that are laid out for a constant that leads to its texts and sequences: a number is a word, a text or a sequence has a length and an address;
-- and its words, and those of each sequence, stand behind a handle. Its texts don't count here.
abbrev pub linked_piece_bytes : Piece → ℕ
linked_piece_bytes (P.Ordinal z) = WORD_BYTES
linked_piece_bytes (P.Text text) = LIST_BYTES
linked_piece_bytes P.Nil = WORD_BYTES
linked_piece_bytes (P.Parts zero) = WORD_BYTES
linked_piece_bytes (P.Parts (suc n)) = 0
linked_piece_bytes (P.Elements n) = LIST_BYTES + LIST_BYTES

abbrev pub linked_pieces_bytes : List Piece → ℕ
linked_pieces_bytes [] = 0
linked_pieces_bytes (piece ∷ pieces) = linked_piece_bytes piece + linked_pieces_bytes pieces

abbrev pub linked_bytes : List Piece → ℕ
linked_bytes pieces = if is_linked pieces then LIST_BYTES + linked_pieces_bytes pieces else 0

-- at each place where one stands
abbrev pub linked_in : Line → ℕ
linked_in (L.Constant to how ty pieces) = linked_bytes pieces
linked_in (L.Standing to ty pieces) = linked_bytes pieces
linked_in line = 0

abbrev pub global_bytes : PlaceKind → (value : ℕ) → ℕ
global_bytes Global value = value
global_bytes kind value = 0

abbrev pub globals_bytes : Known → List FlatPlace → ℕ
globals_bytes known [] = 0
globals_bytes known (p ∷ places) = global_bytes p.kind (type_bytes known.facts (type_at known.types p.ty)) + globals_bytes known places

-- texts with their handles: beside the word for its length each has one for its place
abbrev pub handled_bytes : List (List ℕ) → ℕ
handled_bytes texts = all_bytes texts + WORD_BYTES * length texts

-- the names of the members of enums
abbrev pub members_bytes : TypeDef → ℕ
members_bytes (D.Enum name at members) = all_bytes members
members_bytes def = 0

abbrev pub names_bytes : List TypeDef → ℕ
names_bytes [] = 0
names_bytes (def ∷ table) = members_bytes def + names_bytes table

-- ---- whole code

-- a measure of lines, over some
abbrev pub summed : (Line → ℕ) → List Line → ℕ
summed measure [] = 0
summed measure (line ∷ lines) = measure line + summed measure lines

-- Around its lines a procedure has at most so many more, with one that stands for itself: the result at its default, and the ends by traps.
abbrev pub around_weight : ℕ
around_weight = 18

-- what has no lines is no procedure of word code
abbrev pub proc_weight : List Line → ℕ
proc_weight [] = 0
proc_weight (line ∷ lines) = around_weight + summed weight (line ∷ lines)

module _ {L : Type 0} (plain : L → Line) where
  abbrev pub code_weight : List (CodeProc L) → ℕ
  code_weight [] = 0
  code_weight (p ∷ procs) = proc_weight (map plain p.lines) + code_weight procs

  abbrev pub code_texts : List (CodeProc L) → List (List ℕ)
  code_texts [] = []
  code_texts (p ∷ procs) = lines_texts (map plain p.lines) ++ code_texts procs

  -- each distinct text once
  abbrev pub distinct_texts : List (CodeProc L) → List (List ℕ)
  distinct_texts procs = unique_keys same_text (code_texts procs)

  -- constants with texts or sequences inside, each as often as it stands there
  abbrev pub constants_bytes : List (CodeProc L) → ℕ
  constants_bytes [] = 0
  constants_bytes (p ∷ procs) = summed linked_in (map plain p.lines) + constants_bytes procs

  -- globals are places of the start code
  abbrev pub data_bytes : List TypeDef → List (CodeProc L) → ℕ
  data_bytes table procs = globals_bytes (known_in table) (start_places procs)
      + (names_bytes table + (handled_bytes (distinct_texts procs) + constants_bytes procs))
