-- The word code of block code: for each line some lines, which stand before those of the lines behind it. The code of a line is a function of
-- it and of the lines behind it. No public contract speaks of it.
use Rattle.std.specs.Prelude.{ℕ, zero, suc, ◌+◌, ◌-◌, ◌*◌, Bool, true, false, ◌&&◌, List, [], ◌∷◌, length, map, not, Option, Some, None, slice_get}
use Rattle.arc_base.specs.declared.outside.Stream.TheVariants.{Out}
use Rattle.nim_types.specs.declared.types.TypeDef.{TypeDef}
use Rattle.nim_types.specs.declared.types.TypeDef.TheVariants as D
use Rattle.nim_program.specs.declared.expr.Label.{Label as Choice}
use Rattle.nim_program.specs.declared.expr.Label.TheVariants as C
use Rattle.nim_program.specs.declared.operation.Measure.{Measure}
use Rattle.nim_program.specs.declared.operation.Measure.TheVariants.{Len, High}
use Rattle.nim_program.specs.declared.operation.Comparison.{Comparison}
use Rattle.nim_program.specs.declared.operation.Operation.{Operation}
use Rattle.nim_program.specs.declared.operation.Operation.TheVariants as O
use Rattle.nim_program.specs.declared.operation.Operator.{Operator}
use Rattle.nim_program.specs.declared.operation.Use.{Use}
use Rattle.nim_program.specs.declared.operation.Use.TheVariants.{Looked}
use Rattle.nim_program.specs.declared.program.TheConstants.{ACTIVE_CALLS}
use Rattle.nim_program.specs.Traps.{IndexOutOfBounds, LengthChanged, CallDepth}
use Rattle.rv32_isa.specs.declared.micro_op.Size.{Size}
use Rattle.rv32_isa.specs.declared.micro_op.Size.TheVariants.{Byte, Word as whole}
use Rattle.rv32_isa.specs.Values.{subtracted}
use Rattle.flat_code.specs.declared.code.CodeProc.{CodeProc}
use Rattle.flat_code.specs.declared.block.BlockLine.{BlockLine}
use Rattle.flat_code.specs.declared.line.From.{From}
use Rattle.flat_code.specs.declared.line.From.TheVariants as F
use Rattle.flat_code.specs.declared.line.Line.{Line}
use Rattle.flat_code.specs.declared.line.Line.TheVariants as L
use Rattle.flat_code.specs.declared.line.Owning.{Owning}
use Rattle.flat_code.specs.declared.line.Owning.TheVariants as W
use Rattle.flat_code.specs.declared.line.Piece.{Piece}
use Rattle.flat_code.specs.declared.line.Piece.TheVariants as P
use Rattle.flat_code.specs.Codes.{block_plain}
use Rattle.flat_code.specs.Pieces.{piece_words}
use Rattle.word_code.specs.declared.routine.TheConstants.{SWAP, NUMBER, PROCS_FROM}
use Rattle.word_code.specs.declared.word.WordOperation.TheVariants as operation
use Rattle.word_code.specs.declared.word.Test.TheVariants as test
use Rattle.word_code.specs.declared.word.WordInstr.{WordInstr}
use Rattle.word_code.specs.declared.word.WordInstr.TheVariants.{Label, Spend, Constant, Copy, Compute, Sum, Place, Datum, Load, Store, Jump, Branch}
use Rattle.word_code.specs.declared.word.WordInstr.TheVariants.{Argument, Call, Return, Write, Exit}
use Rattle.hook_lifting.specs.declared.lifted.Hook.{Hook}
use Rattle.hook_lifting.specs.declared.lifted.Hook.TheVariants.{Assigns, Copies, Ends, Sinks}
use Rattle.word_lowering.specs.declared.handed.TheConstants.{RIGHT_HANDLE_AT}
use Rattle.word_lowering.specs.declared.homes.TheConstants.{LEFT, FIRST, SECOND, THIRD, FOURTH, FIFTH}
use Rattle.word_lowering.specs.declared.homes.Alias.{Alias}
use Rattle.word_lowering.specs.declared.homes.Alias.TheVariants as alias
use Rattle.word_lowering.specs.declared.homes.Home.{Home}
use Rattle.word_lowering.specs.declared.homes.Home.TheVariants.{Variable, Placed, Static}
use Rattle.word_lowering.specs.declared.homes.Housed.{Housed}
use Rattle.word_lowering.specs.declared.homes.Layout.{Layout}
use Rattle.word_lowering.specs.declared.homes.Waiter.{Waiter}
use Rattle.word_lowering.specs.declared.spots.Spot.{Spot}
use Rattle.word_lowering.specs.declared.spots.Spot.TheVariants.{Held, Lies, Letter}
use Rattle.word_lowering.specs.declared.texts.TheConstants.{LINE_END_AT, FALSE_AT}
use Rattle.word_lowering.specs.Stored.{base_at, entry_at, part_at, count_in, element_bytes, is_hooked, limit_at}
use Rattle.word_lowering.specs.HookCalled.{hook_called}
use Rattle.word_lowering.specs.Layouts.{free_at, holds_address, params_in, result_in, found}
use Rattle.flat_code.specs.Fits.{is_location}
use Rattle.word_lowering.specs.Spots.{spot_of, home_in, size_in, shifted, address, moved, moves, passes, cleared, clears, starts, handed}
use Rattle.word_lowering.specs.Operations.{word, trap_label, binary_code, unary_code, compare_code, narrow_code, unless_code, turn_if_code, fits_code}
use Rattle.word_lowering.specs.Operations.{beyond_code, turn_code}
use Rattle.word_lowering.specs.Aliases.{is_read, text_in}
use Rattle.word_lowering.specs.Texts.{names_before, standing_place}
pub use Rattle.word_lowering.specs.Operands.{variable_in, variable_of, operand_at, one_less, word_argument, Around, value, own_place, place, named}
pub use Rattle.word_lowering.specs.Operands.{location_by, location, operand, operands, literal_at, text_at}
use Rattle.word_lowering.specs.OwnedCode.{type_of, entry_of, is_text, has_handle, each_bytes, two_made, left_of, right_of, with_operands, owned_code}
use Rattle.word_lowering.specs.OwnedCode.{lent_text_code, literal_home, literal_text, text_copy_code, text_fits_code}
use Rattle.word_lowering.specs.OwnedCode.{measured_code, owned_item_code, owned_element_code, element_read}
use Rattle.word_lowering.specs.RoutineCode.{text_compare_code, echo_code}
use Rattle.word_lowering.specs.WaitingCode.{gives_hooked, waiter_at, waits_code, leaves_code, kept_code}

-- ---- labels: those of traps are below 8, those of the lines are even, and those that code of a line has are odd

abbrev pub own_label : ℕ → ℕ
own_label name = 8 + 2 * name

-- a line has one for its code, and one for each argument of a call, or operand
abbrev pub arguments_of : Line → List From
arguments_of (L.Call to how ty proc from) = from
arguments_of (L.Apply to operation how ty of from) = from
arguments_of line = []

abbrev pub labels_in : List Line → ℕ
labels_in [] = 0
labels_in (line ∷ rest) = suc (length (arguments_of line)) + labels_in rest

-- those of all procedures
abbrev pub all_labels : List (CodeProc BlockLine) → ℕ
all_labels [] = 0
all_labels (p ∷ procs) = labels_in (map block_plain p.lines) + all_labels procs

-- of the line that has these lines behind it
abbrev pub label_before : List Line → ℕ
label_before rest = 9 + 2 * labels_in rest

-- ---- constants

-- a word that isn't 0 to where zeros stand
abbrev pub unless_zero : Home → ℕ → List WordInstr → List WordInstr
unless_zero to zero k = k
unless_zero to (suc n) k = address FIRST to ∷ Constant SECOND (suc n) ∷ Store FIRST SECOND whole ∷ k

-- of numbers
abbrev pub pieces_code : Home → List Piece → List WordInstr → List WordInstr
pieces_code to [] k = k
pieces_code to (P.Ordinal z ∷ pieces) k = unless_zero to (word z) (pieces_code (shifted 4 to) pieces k)
pieces_code to (P.Parts zero ∷ pieces) k = pieces_code (shifted 4 to) pieces k
pieces_code to (piece ∷ pieces) k = pieces_code to pieces k

abbrev pub truth_word : Bool → ℕ
truth_word true = 1
truth_word false = 0

abbrev pub first_word : List ℕ → ℕ
first_word [] = 0
first_word (n ∷ ns) = n

abbrev pub constant_at : Housed → Spot → List Piece → List WordInstr → List WordInstr
constant_at to (Held v) pieces k = Constant v (first_word (piece_words pieces)) ∷ k
constant_at to (Lies home) pieces k = cleared to.is_word to.bytes (Lies home) (pieces_code home pieces k)
constant_at to (Letter home) pieces k = address FIRST home ∷ Constant SECOND (first_word (piece_words pieces)) ∷ Store FIRST SECOND Byte ∷ k

-- ---- locations

abbrev pub measure_word : Measure → ℕ → ℕ
measure_word Len n = n
measure_word High n = subtracted n 1

-- that of a place, unless the location is another name for it
abbrev pub root_code : Alias → (to : ℕ) → Home → List WordInstr → List WordInstr
root_code alias.Own to home k = address to home ∷ k
root_code other to home k = k

-- the address so many bytes behind that of a home
abbrev pub part_code : (to : ℕ) → Home → (at : ℕ) → List WordInstr → List WordInstr
part_code to (Variable v) at k = Sum to v at ∷ k
part_code to (Placed from) at k = Place to (from + at) ∷ k
part_code to (Static from) at k = Datum to (from + at) ∷ k

-- as many bytes as FIRST says behind that of a home
abbrev pub behind_code : (to : ℕ) → Home → List WordInstr → List WordInstr
behind_code to (Variable v) k = Compute to operation.Add v FIRST ∷ k
behind_code to home k = address SECOND home ∷ Compute to operation.Add SECOND FIRST ∷ k

-- that of an element of so many bytes
abbrev pub element_code : (to : ℕ) → Home → (index bytes : ℕ) → List WordInstr → List WordInstr
element_code to home index bytes k = Constant FIRST bytes ∷ Compute FIRST operation.Multiply index FIRST ∷ behind_code to home k

-- the same of an index that has to be inside
abbrev pub item_code : (to : ℕ) → Home → (index count bytes : ℕ) → List WordInstr → List WordInstr
item_code to home index count bytes k =
    Constant FIRST count ∷ Branch test.NotBelow index FIRST (trap_label IndexOutOfBounds) ∷ element_code to home index bytes k

-- characters, each a byte at its address
abbrev pub letter_swap : (left right : Home) → List WordInstr → List WordInstr
letter_swap left right k =
    address FIRST left ∷ address SECOND right
    ∷ Load THIRD FIRST Byte ∷ Load FOURTH SECOND Byte ∷ Store SECOND THIRD Byte ∷ Store FIRST FOURTH Byte
    ∷ k

-- all else by the routine
abbrev pub swap_code : (letter : Bool) → (left right : Home) → (bytes : ℕ) → List WordInstr → List WordInstr
swap_code true left right bytes k = letter_swap left right k
swap_code false left right bytes k =
    word_argument 0 left (word_argument 1 right (Constant THIRD bytes ∷ Argument 2 THIRD ∷ Call FIRST SWAP ∷ k))

-- ---- calls

abbrev pub no_layout : Layout
no_layout = record { all = []; waiters = []; free = free_at 0; runs = false }

abbrev pub or_none : Option Layout → Layout
or_none None = no_layout
or_none (Some layout) = layout

abbrev pub proc_number : ℕ → ℕ
proc_number proc = PROCS_FROM + proc

-- the number of the first hook of a type: hooks have numbers behind those of all procedures
abbrev pub first_hook : List (CodeProc BlockLine) → ℕ
first_hook procs = proc_number (length procs)

-- where the places of a call behind so many bytes left something; what is no word has no variable
abbrev pub left_at : (room : ℕ) → Home → Home
left_at room (Placed at) = Placed (at + room)
left_at room home = Placed room

-- What is done before a call: how many calls may be active behind the new one comes into FIRST. The start code may always call. A procedure
-- may not where LEFT is 0; there alone it is below the word that is one less. By the copy LEFT, which stands in the frame, is loaded once: the sum
-- and the test both read it.
abbrev pub checked_code : (start : Bool) → List WordInstr → List WordInstr
checked_code true k = Constant FIRST (ACTIVE_CALLS - 1) ∷ k
checked_code false k = Copy SECOND LEFT ∷ Sum FIRST SECOND one_less ∷ Branch test.Below SECOND FIRST (trap_label CallDepth) ∷ k

-- a result that is no word stays where it is, and the word says nothing
abbrev pub word_back : (word : Bool) → Size → Home → List WordInstr → List WordInstr
word_back true size home k = address FIRST home ∷ Load FIRST FIRST size ∷ Return FIRST ∷ k
word_back false size home k = Return LEFT ∷ k

abbrev pub back_code : (word : Bool) → Spot → List WordInstr → List WordInstr
back_code word (Held v) k = Return v ∷ k
back_code word spot k = word_back word (size_in spot) (home_in spot) k

-- ---- writing

-- to standard output, from the address in FIRST as many bytes as SECOND says
abbrev pub write_code : List WordInstr → List WordInstr
write_code k = Write Out FIRST SECOND ∷ k

-- by the routine
abbrev pub number_code : ℕ → List WordInstr → List WordInstr
number_code from k = Argument 0 from ∷ Call FIRST NUMBER ∷ k

-- `false` has five letters and stands 8 bytes before `true`
abbrev pub bool_code : ℕ → List WordInstr → List WordInstr
bool_code from k =
    Constant FIRST 3 ∷ Compute FIRST operation.ShiftLeft from FIRST ∷ Datum SECOND FALSE_AT ∷ Compute FIRST operation.Add SECOND FIRST
    ∷ Constant SECOND 5 ∷ Compute SECOND operation.Subtract SECOND from
    ∷ write_code k

-- a byte in the data
abbrev pub char_code : ℕ → List WordInstr → List WordInstr
char_code from k = Datum FIRST 0 ∷ Store FIRST from Byte ∷ Constant SECOND 1 ∷ write_code k

-- from where the name before it ends, up to where it ends
abbrev pub name_code : (ends names from : ℕ) → List WordInstr → List WordInstr
name_code ends names from k =
    Constant FIRST 2 ∷ Compute FIRST operation.ShiftLeft from FIRST ∷ Datum SECOND ends ∷ Compute SECOND operation.Add SECOND FIRST
    ∷ Load FIRST SECOND whole
    ∷ Constant THIRD 4 ∷ Compute SECOND operation.Add SECOND THIRD
    ∷ Load SECOND SECOND whole
    ∷ Compute SECOND operation.Subtract SECOND FIRST
    ∷ Datum THIRD names ∷ Compute FIRST operation.Add THIRD FIRST
    ∷ write_code k

-- so many bytes of the data; nothing is done for none
abbrev pub text_code : (at bytes : ℕ) → List WordInstr → List WordInstr
text_code at zero k = k
text_code at (suc n) k = Datum FIRST at ∷ Constant SECOND (suc n) ∷ write_code k

-- a text that a temporary is another name for, or that of a handle
abbrev pub told_code : (place : (behind bytes : ℕ) → ℕ) → Alias → Home → List WordInstr → List WordInstr
told_code place (alias.Text behind bytes) home k = text_code (place behind bytes) bytes k
told_code place other home k = echo_code home k

abbrev pub exit_code : List WordInstr → List WordInstr
exit_code k = Constant FIRST 0 ∷ Exit FIRST ∷ k

-- ---- operations on operands

abbrev pub converted_code : Option ℕ → (to from : Housed) → List WordInstr → List WordInstr
converted_code None to from k = moves to from k
converted_code (Some values) to from k = narrow_code (variable_of to) (variable_of from) values k

-- the number at a spot becomes another one
abbrev pub updated_code : (label : ℕ) → Operator → Spot → (by : ℕ) → List WordInstr → List WordInstr
updated_code label operator (Held v) by k = binary_code label operator v v by k
updated_code label operator spot by k =
    address SECOND (home_in spot) ∷ Load FOURTH SECOND (size_in spot)
    ∷ binary_code label operator FOURTH FOURTH by (address FIRST (home_in spot) ∷ Store FIRST FOURTH (size_in spot) ∷ k)

-- by 1 without a second operand
abbrev pub update_code : (label : ℕ) → Operator → List Housed → List WordInstr → List WordInstr
update_code label operator [] k = k
update_code label operator (to ∷ []) k = Constant FIFTH 1 ∷ updated_code label operator (spot_of to) FIFTH k
update_code label operator (to ∷ by ∷ rest) k = updated_code label operator (spot_of to) (variable_of by) k

-- with a status or without
abbrev pub quit_code : List Housed → List WordInstr → List WordInstr
quit_code [] k = exit_code k
quit_code (status ∷ rest) k = Exit (variable_of status) ∷ k

-- parts one behind the other
abbrev pub parts_code : Home → List Housed → List WordInstr → List WordInstr
parts_code to [] k = k
parts_code to (h ∷ hs) k = moved h.is_word h.bytes (Lies to) (spot_of h) (parts_code (shifted h.bytes to) hs k)

-- ---- hooks

-- what has hooks is copied where it is found, unless it is only looked at
abbrev pub is_copied : Use → Bool
is_copied Looked = false
is_copied how = true

-- by which a place gets an operand: a value is taken over, what stands at a location is copied
abbrev pub taking : List From → (i : ℕ) → Hook
taking (F.Value t ∷ from) zero = Sinks
taking (operand ∷ from) (suc i) = taking from i
taking from i = Assigns

-- ---- lines of a procedure

module _ (x : Around) where
  -- the variables of an ordinal and of a location
  abbrev pub held : ℕ → ℕ
  held t = variable_of (value x t)

  abbrev pub led : ℕ → ℕ
  led t = variable_of (location x t)

  -- what a location is another name for
  abbrev pub own_alias : ℕ → Alias
  own_alias t = (found is_location t x.own.all).alias

  abbrev pub layout_at : ℕ → Layout
  layout_at proc = or_none (slice_get x.layouts proc)

  -- how many elements what stands at a location has, and how many bytes each
  abbrev pub count_at : ℕ → ℕ
  count_at t = count_in (entry_at x.table (location x t).ty)

  abbrev pub bytes_each : ℕ → ℕ
  bytes_each t = element_bytes x.table (entry_at x.table (location x t).ty)

  -- fields of an object of a type
  abbrev pub fields_code : Home → (ty : ℕ) → (fields : List ℕ) → List Housed → List WordInstr → List WordInstr
  fields_code to ty [] hs k = k
  fields_code to ty (field ∷ fields) [] k = k
  fields_code to ty (field ∷ fields) (h ∷ hs) k =
      moved h.is_word h.bytes (Lies (shifted (part_at x.table ty field) to)) (spot_of h) (fields_code to ty fields hs k)

  -- ---- labels of a `case`

  -- a text is compared with one that has its handle, or gets one
  abbrev pub choice_code : Choice → Housed → (to : ℕ) → List WordInstr → List WordInstr
  choice_code (C.Ordinals low high) from to k = fits_code (variable_of from) to low high k
  choice_code (C.Text text) from to k =
      literal_text x RIGHT_HANDLE_AT from.alias
      (text_fits_code (text_at x text) (length text) (literal_home RIGHT_HANDLE_AT from.alias from.home) to k)

  -- ---- calls

  -- an argument to its parameter: one in memory is behind the places of this call, where those of the next one begin
  abbrev pub argument_code : (label : ℕ) → (param : Home) → Housed → List WordInstr → List WordInstr
  argument_code label (Variable v) from k = word_argument v from.home k
  argument_code label (Placed at) from k = Place FIRST (x.own.free.byte + at) ∷ handed label from.bytes (spot_of from) k
  argument_code label (Static at) from k = k

  -- the labels of their code are behind the line's own one, the last argument's first
  abbrev pub arguments_code : (label : ℕ) → (params : List Housed) → List Housed → List WordInstr → List WordInstr
  arguments_code label [] hs k = k
  arguments_code label (p ∷ ps) [] k = k
  arguments_code label (p ∷ ps) (h ∷ hs) k = argument_code (label + 2 * suc (length hs)) p.home h (arguments_code label ps hs k)

  -- the result, where it is no word, is still where the call had it
  abbrev pub result_code : Housed → Option Housed → List WordInstr → List WordInstr
  result_code to None k = k
  result_code to (Some r) k = moved r.is_word r.bytes (spot_of to) (Lies (left_at x.own.free.byte r.home)) k

  abbrev pub entered_code : (proc : ℕ) → (to : Housed) → Spot → List WordInstr → List WordInstr
  entered_code proc to (Held v) k = Call v (proc_number proc) ∷ k
  entered_code proc to spot k = Call FIRST (proc_number proc) ∷ result_code to (result_in (layout_at proc).all) k

  abbrev pub given_code : (proc to : ℕ) → List WordInstr → List WordInstr
  given_code proc to k = entered_code proc (value x to) (spot_of (value x to)) k

  abbrev pub nothing_code : (ty : Option ℕ) → (to : ℕ) → List WordInstr → List WordInstr
  nothing_code None to k = k
  nothing_code (Some ty) to k = Constant (held to) 0 ∷ k

  -- a procedure without lines takes nothing and gives nothing
  abbrev pub called_code : (runs : Bool) → (label proc : ℕ) → (ty : Option ℕ) → (to : ℕ) → List Housed → List WordInstr → List WordInstr
  called_code true label proc ty to hs k =
      arguments_code label (params_in (layout_at proc).all) hs
      (checked_code x.setting.start (Argument LEFT FIRST ∷ given_code proc to k))
  called_code false label proc ty to hs k = checked_code x.setting.start (nothing_code ty to k)

  abbrev pub call_code : (label proc : ℕ) → (ty : Option ℕ) → (to : ℕ) → List From → List WordInstr → List WordInstr
  call_code label proc ty to from k = called_code (layout_at proc).runs label proc ty to (operands x from) k

  -- the start code ends the program
  abbrev pub return_code : (start : Bool) → Option ℕ → List WordInstr → List WordInstr
  return_code true result k = exit_code k
  return_code false None k = Return LEFT ∷ k
  return_code false (Some p) k = back_code (own_place x p).is_word (spot_of (own_place x p)) k

  -- ---- writing

  -- and a constant that stands in the data
  abbrev pub standing_at : List Piece → ℕ
  standing_at pieces = x.setting.texts + standing_place x.from x.procs pieces

  -- The text of an operand by what its type is; `enum` is the type's number. What the table lacks is an int.
  abbrev pub written_code : Option TypeDef → (enum : ℕ) → Housed → List WordInstr → List WordInstr
  written_code None enum from k = number_code (variable_of from) k
  written_code (Some D.Int) enum from k = number_code (variable_of from) k
  written_code (Some D.Bool) enum from k = bool_code (variable_of from) k
  written_code (Some D.Char) enum from k = char_code (variable_of from) k
  written_code (Some D.Text) enum from k = told_code (literal_at x) from.alias from.home k
  written_code (Some (D.Enum name at members)) enum from k =
      name_code (x.setting.ends + 4 * names_before x.table enum) x.setting.names (variable_of from) k
  written_code _ enum from k = k

  abbrev pub typed_code : Option ℕ → Housed → List WordInstr → List WordInstr
  typed_code None from k = k
  typed_code (Some ty) from k = written_code (entry_at x.table ty) (base_at x.table ty) from k

  -- operands of types, one behind the other
  abbrev pub texts_code : List (Option ℕ) → List Housed → List WordInstr → List WordInstr
  texts_code [] hs k = k
  texts_code (ty ∷ tys) [] k = k
  texts_code (ty ∷ tys) (h ∷ hs) k = typed_code ty h (texts_code tys hs k)

  -- ---- operations, a row each: with a label of its own, by the type of the value and those of the operands

  -- texts are compared by what they hold, all else by numbers
  abbrev pub compared_code : (text : Bool) → Comparison → (to : ℕ) → List (Option ℕ) → List Housed → List WordInstr → List WordInstr
  compared_code true comparison to of hs k =
      two_made x of hs (text_compare_code comparison to (left_of x of hs) (right_of x of hs) k)
  compared_code false comparison to of hs k = compare_code comparison to (variable_of (operand_at hs 0)) (variable_of (operand_at hs 1)) k

  -- what has no handle is an array
  abbrev pub measure_code : (handle : Bool) → Measure → (to : ℕ) → Housed → List WordInstr → List WordInstr
  measure_code true measure to from k = measured_code measure to from.home k
  measure_code false measure to from k = Constant to (measure_word measure (count_in (entry_at x.table from.ty))) ∷ k

  abbrev pub row_code : Operation → (label : ℕ) → Option ℕ → List (Option ℕ) → Housed → List Housed → List WordInstr → List WordInstr
  row_code O.Default label ty of to hs k = starts to.bytes to k
  row_code (O.Unary operator) label ty of to hs k = unary_code operator (variable_of to) (variable_of (operand_at hs 0)) k
  row_code (O.Binary operator) label ty of to hs k =
      binary_code label operator (variable_of to) (variable_of (operand_at hs 0)) (variable_of (operand_at hs 1)) k
  row_code (O.Compare comparison) label ty of to hs k =
      with_operands 2 hs (compared_code (is_text (entry_of x.table (type_of of 0))) comparison (variable_of to) of hs k) k
  row_code O.Convert label ty of to hs k = converted_code (limit_at x.table ty) to (operand_at hs 0) k
  row_code O.Make label ty of to hs k = parts_code to.home hs k
  row_code (O.Measure measure) label ty of to hs k =
      measure_code (has_handle (entry_at x.table (operand_at hs 0).ty)) measure (variable_of to) (operand_at hs 0) k
  row_code O.Echo label ty of to hs k = texts_code of hs (text_code LINE_END_AT 1 k)
  row_code O.Quit label ty of to hs k = quit_code hs k
  row_code O.Assign label ty of to hs k = moves (operand_at hs 0) (operand_at hs 1) k
  row_code (O.Update operator) label ty of to hs k = update_code label operator hs k
  row_code O.Move label ty of to hs k = moves to (operand_at hs 0) (clears (operand_at hs 0) k)
  row_code O.Swap label ty of to hs k =
      swap_code (operand_at hs 0).is_letter (operand_at hs 0).home (operand_at hs 1).home (operand_at hs 0).bytes k
  row_code operation label ty of to hs k = owned_code x operation label of to hs k

  -- ---- elements, of arrays and of what has a handle

  abbrev pub entry_from : ℕ → Option TypeDef
  entry_from t = entry_at x.table (location x t).ty

  abbrev pub item_in : (handle : Bool) → (to : ℕ) → Housed → (index : ℕ) → List WordInstr → List WordInstr
  item_in true to from index k = owned_item_code to from.home index (each_bytes x.table (entry_at x.table from.ty)) k
  item_in false to from index k =
      item_code to from.home index (count_in (entry_at x.table from.ty)) (element_bytes x.table (entry_at x.table from.ty)) k

  abbrev pub item_at : (handle : Bool) → (to from index : ℕ) → List WordInstr → List WordInstr
  item_at handle to from index k = item_in handle (led to) (location x from) (held index) k

  abbrev pub element_in : (handle : Bool) → Housed → (index : ℕ) → Housed → List WordInstr → List WordInstr
  element_in true from index to k =
      owned_element_code FIFTH from.home index (each_bytes x.table (entry_at x.table from.ty))
      (element_read (is_text (entry_at x.table from.ty)) to k)
  element_in false from index to k =
      element_code FIFTH from.home index (element_bytes x.table (entry_at x.table from.ty))
      (moved to.is_word to.bytes (spot_of to) (Lies (Variable FIFTH)) k)

  abbrev pub element_at : (handle : Bool) → (from index : ℕ) → Housed → List WordInstr → List WordInstr
  element_at handle from index to k = element_in handle (location x from) (held index) to k

  -- ---- hooks, whose numbers are behind those of all procedures

  abbrev pub hook_code : Hook → (ty : ℕ) → (to from : Home) → List WordInstr → List WordInstr
  hook_code hook ty to from k = hook_called (proc_number (length x.layouts)) hook ty to from k

  -- what has blocks and is no text is looked at as a blank one
  abbrev pub is_seen_blank : Option ℕ → Bool
  is_seen_blank ty = gives_hooked x.table ty && not (is_text (entry_of x.table ty))

  -- a copy of what is found, by a hook; or what is looked at of it
  abbrev pub got_code : (copied blank : Bool) → Option ℕ → (to from : Housed) → List WordInstr → List WordInstr
  got_code true blank (Some ty) to from k = hook_code Copies ty to.home from.home k
  got_code copied true ty to from k = clears to k
  got_code copied blank ty to from k = moves to from k

  -- ---- constants

  -- what has texts or sequences inside is a copy of what stands in the data
  abbrev pub built_code : (hooked : Bool) → (ty : ℕ) → Housed → List Piece → List WordInstr → List WordInstr
  built_code true ty to pieces k = hook_code Copies ty to.home (Static (standing_at pieces)) k
  built_code false ty to pieces k = constant_at to (spot_of to) pieces k

  -- a text that is read is that of the data, and one that somebody gets is a copy of it
  abbrev pub constant_by : (read hooked : Bool) → Option (List ℕ) → (ty : ℕ) → Housed → List Piece → List WordInstr → List WordInstr
  constant_by read hooked None ty to pieces k = built_code hooked ty to pieces k
  constant_by true hooked (Some text) ty to pieces k = lent_text_code x to.alias to.home text k
  constant_by false hooked (Some text) ty to pieces k = text_copy_code x to.home text k

  abbrev pub constant_code : Use → (ty : ℕ) → Housed → List Piece → List WordInstr → List WordInstr
  constant_code how ty to pieces k = constant_by (is_read how) (is_hooked x.table ty) (text_in pieces) ty to pieces k

  -- ---- assignments

  -- by a hook unless a row does it
  abbrev pub assigned_code : (hooked : Bool) → (row : List WordInstr → List WordInstr) → Option ℕ → List From → List WordInstr → List WordInstr
  assigned_code true row (Some ty) from k =
      hook_code (taking from 1) ty (operand_at (operands x from) 0).home (operand_at (operands x from) 1).home k
  assigned_code hooked row ty from k = row k

  abbrev pub applied_code : Operation → (label to : ℕ) → (ty : Option ℕ) → (of : List (Option ℕ)) → List From → List WordInstr → List WordInstr
  applied_code O.Assign label to ty of from k =
      assigned_code (gives_hooked x.table (type_of of 0)) (row_code O.Assign label ty of (value x to) (operands x from)) (type_of of 0) from k
  applied_code operation label to ty of from k = row_code operation label ty of (value x to) (operands x from) k

  -- ---- what somebody owns: it waits at a node, or doesn't any more, it ends, or a place gets it

  abbrev pub declared : ℕ → Housed
  declared p = place x p false

  -- what a place holds ends, unless it stands for another one
  abbrev pub ends_code : (stands : Bool) → (ty : ℕ) → Home → List WordInstr → List WordInstr
  ends_code true ty home k = k
  ends_code false ty home k = hook_code Ends ty home home k

  -- what waits ends, if anything does
  abbrev pub waiter_ends_code : (label : ℕ) → (ty : ℕ) → Option Waiter → List WordInstr → List WordInstr
  waiter_ends_code label ty None k = k
  waiter_ends_code label ty (Some w) k =
      Constant FIRST 0 ∷ Branch test.Equal w.variable FIRST label
      ∷ hook_code Ends ty (Placed w.at) (Placed w.at) (Label label ∷ leaves_code (Some w) k)

  abbrev pub owning_code : Owning → List From → (label : ℕ) → List WordInstr → List WordInstr
  owning_code (W.TakenUp node) from label k = leaves_code (waiter_at node x.own.waiters) k
  owning_code (W.Waits node) (F.Value t ∷ []) label k = waits_code (waiter_at node x.own.waiters) (value x t) k
  owning_code (W.TemporaryEnds node ty) from label k = waiter_ends_code label ty (waiter_at node x.own.waiters) k
  owning_code (W.PlaceEnds place ty) from label k = ends_code (holds_address (declared place)) ty (declared place).home k
  owning_code (W.PlaceCopies place ty) from label k = hook_code Copies ty (declared place).home (operand_at (operands x from) 0).home k
  owning_code (W.ResultGets place ty) from label k = hook_code (taking from 0) ty (declared place).home (operand_at (operands x from) 0).home k
  owning_code (W.PlaceStands p) (F.Place t ∷ []) label k = address (variable_of (declared p)) (location x t).home ∷ k
  owning_code what from label k = k

  -- ---- lines

  abbrev pub line_code : Line → (label : ℕ) → List WordInstr → List WordInstr
  line_code (L.Apply to operation how ty of from) label k = applied_code operation label to ty of from k
  line_code (L.Construct to how ty fields from) label k = clears (value x to) (fields_code (value x to).home ty fields (operands x from) k)
  line_code (L.Constant to how ty pieces) label k = constant_code how.how ty (value x to) pieces k
  line_code (L.Call to how ty proc from) label k = Spend ∷ call_code label proc ty to from k
  line_code (L.Get to from how ty) label k =
      got_code (gives_hooked x.table ty && is_copied how.how) (is_seen_blank ty) ty (value x to) (location x from) k
  line_code (L.Look to from) label k = moves (value x to) (location x from) k
  line_code (L.Root to p global) label k = root_code (own_alias to) (led to) (place x p global).home k
  line_code (L.Fresh to from waits) label k = k
  line_code (L.Standing to ty pieces) label k = Datum (led to) (standing_at pieces) ∷ k
  line_code (L.Part to from field) label k = part_code (led to) (location x from).home (part_at x.table (location x from).ty field) k
  line_code (L.Item to from index) label k = item_at (has_handle (entry_from from)) to from index k
  -- refs come with the heap
  line_code (L.Object to from) label k = k
  line_code (L.Pass to from how ty) label k = passes (value x from).bytes (value x to) (value x from) k
  line_code (L.Truth to holds) label k = Constant (held to) (truth_word holds) ∷ k
  line_code (L.Fill p from) label k = moves (own_place x p) (value x from) k
  line_code (L.Blank p ty) label k = clears (own_place x p) k
  line_code (L.Give p from) label k = moves (own_place x p) (value x from) k
  line_code (L.Zero to) label k = Constant (held to) 0 ∷ k
  line_code (L.Length to from) label k = measure_code (has_handle (entry_from from)) Len (held to) (location x from) k
  line_code (L.Still from len) label k =
      measure_code (has_handle (entry_from from)) Len FIRST (location x from) (Branch test.Unequal (held len) FIRST (trap_label LengthChanged) ∷ k)
  line_code (L.Element to from index) label k = element_at (has_handle (entry_from from)) from index (value x to) k
  line_code (L.Beyond counter last inclusive to) label k = beyond_code inclusive (held counter) (held last) (own_label to) k
  line_code (L.Next counter last) label k = Sum (held counter) (held counter) 1 ∷ k
  line_code (L.Label name) label k = Label (own_label name) ∷ k
  line_code (L.Jump to) label k = Jump (own_label to) ∷ k
  line_code (L.Unless from to) label k = unless_code (held from) (own_label to) k
  line_code (L.Fits from these to) label k = choice_code these (value x from) (own_label to) k
  line_code (L.Own what from) label k = owning_code what from label k
  line_code L.Enter label k = Spend ∷ k
  line_code (L.Turn to) label k = Spend ∷ Jump (own_label to) ∷ k
  line_code (L.TurnIf from to) label k = turn_if_code (held from) (own_label to) k
  line_code (L.CountTurn counter last inclusive to) label k = turn_code label (held counter) (held last) inclusive (own_label to) k
  line_code (L.Return result) label k = return_code x.setting.start result k

  -- behind a line whose value waits it stands where it waits
  abbrev pub behind_line : Line → List WordInstr → List WordInstr
  behind_line line k = kept_code x.table x.own.waiters (value x) line k

  abbrev pub lines_code : List Line → List WordInstr → List WordInstr
  lines_code [] k = k
  lines_code (line ∷ rest) k = line_code line (label_before rest) (behind_line line (lines_code rest k))

-- ---- lines of control: labels, lines that may lead to one, and the next number of a loop

abbrev pub is_control : Line → Bool
is_control (L.Beyond counter last inclusive to) = true
is_control (L.Next counter last) = true
is_control (L.Label name) = true
is_control (L.Jump to) = true
is_control (L.Unless from to) = true
is_control (L.Fits from these to) = true
is_control L.Enter = true
is_control (L.Turn to) = true
is_control (L.TurnIf from to) = true
is_control (L.CountTurn counter last inclusive to) = true
is_control line = false
