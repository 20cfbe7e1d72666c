-- The word code of rows of operations on texts and sequences. A text operand is the address of a handle: that of its home, or one in the
-- data, to which the handle of a literal, of a character or of a name is put first. No public contract speaks of it.
use Rattle.std.specs.Prelude.{ℕ, zero, suc, ◌+◌, ◌-◌, ◌*◌, ◌^◌, Bool, true, false, List, [], ◌∷◌, length, Option, Some, None, nat_lt, if◌then◌else◌}
use Rattle.nim_types.specs.declared.blocks.TheConstants.{HEADER_BYTES}
use Rattle.nim_types.specs.declared.types.TypeDef.{TypeDef}
use Rattle.nim_types.specs.declared.types.TypeDef.TheVariants as D
use Rattle.nim_types.specs.Table.{facts_in, types_in, type_at}
use Rattle.nim_types.specs.Forms.{form_of, hooked}
use Rattle.nim_program.specs.declared.operation.Measure.{Measure}
use Rattle.nim_program.specs.declared.operation.Measure.TheVariants.{Len, High}
use Rattle.nim_program.specs.declared.operation.Operation.{Operation}
use Rattle.nim_program.specs.declared.operation.Operation.TheVariants as O
use Rattle.nim_program.specs.Traps.{IndexOutOfBounds, OutOfRange}
use Rattle.rv32_isa.specs.declared.micro_op.Size.TheVariants.{Byte, Word as whole}
use Rattle.word_code.specs.declared.routine.TheConstants.{PROCS_FROM}
use Rattle.word_code.specs.declared.word.WordOperation.TheVariants as operation
use Rattle.word_code.specs.declared.word.Test.TheVariants as test
use Rattle.word_code.specs.declared.word.WordInstr.{WordInstr}
use Rattle.word_code.specs.declared.word.WordInstr.TheVariants.{Label, Constant, Compute, Sum, Datum, Load, Store, Jump, Branch}
use Rattle.heap_memory.specs.declared.numbers.TheConstants.{SEQ_NEW, TEXT_ORDER}
use Rattle.word_lowering.specs.declared.handed.TheConstants.{LEFT_HANDLE_AT, RIGHT_HANDLE_AT}
use Rattle.word_lowering.specs.declared.handed.Handed.TheVariants.{Where, Number}
use Rattle.word_lowering.specs.declared.homes.TheConstants.{FIRST, SECOND, THIRD, FOURTH, FIFTH}
use Rattle.word_lowering.specs.declared.homes.Alias.{Alias}
use Rattle.word_lowering.specs.declared.homes.Alias.TheVariants as alias
use Rattle.word_lowering.specs.declared.homes.Home.{Home}
use Rattle.word_lowering.specs.declared.homes.Home.TheVariants.{Variable, Static}
use Rattle.word_lowering.specs.declared.homes.Housed.{Housed}
use Rattle.word_lowering.specs.declared.spots.Spot.TheVariants.{Held, Lies}
use Rattle.word_lowering.specs.declared.texts.TheConstants.{FALSE_AT}
use Rattle.word_lowering.specs.Operands.{Around, literal_at, text_at, variable_of, operand_at, one_less}
use Rattle.word_lowering.specs.Operations.{least, trap_label}
use Rattle.word_lowering.specs.RoutineCode.{called_code, copy_code, join_code, show_code, append_code, text_length_code}
use Rattle.word_lowering.specs.RoutineCode.{read_code, new_code, add_code, length_code, pop_code}
use Rattle.word_lowering.specs.Spots.{address, moved, shifted, spot_of}
use Rattle.word_lowering.specs.Stored.{base_at, bytes_at, entry_at}
use Rattle.word_lowering.specs.Texts.{names_before}

-- ---- types of operands

abbrev pub type_of : List (Option ℕ) → (i : ℕ) → Option ℕ
type_of [] i = None
type_of (ty ∷ of) zero = ty
type_of (ty ∷ of) (suc i) = type_of of i

abbrev pub entry_of : List TypeDef → Option ℕ → Option TypeDef
entry_of table None = None
entry_of table (Some ty) = entry_at table ty

abbrev pub base_of : List TypeDef → Option ℕ → ℕ
base_of table None = 0
base_of table (Some ty) = base_at table ty

abbrev pub is_text : Option TypeDef → Bool
is_text (Some D.Text) = true
is_text entry = false

abbrev pub is_char : Option TypeDef → Bool
is_char (Some D.Char) = true
is_char entry = false

-- texts and sequences are in handles
abbrev pub has_handle : Option TypeDef → Bool
has_handle (Some D.Text) = true
has_handle (Some (D.Seq ty)) = true
has_handle entry = false

-- the type of the elements of a sequence
abbrev pub element_in : Option TypeDef → ℕ
element_in (Some (D.Seq ty)) = ty
element_in entry = 0

-- how many bytes an element has, which a character of a text is too
abbrev pub each_bytes : List TypeDef → Option TypeDef → ℕ
each_bytes table (Some D.Text) = 1
each_bytes table (Some (D.Seq ty)) = bytes_at table ty
each_bytes table entry = 0

abbrev pub has_hooks : List TypeDef → ℕ → Bool
has_hooks table ty = hooked (form_of (facts_in table) (type_at (types_in table) ty))

-- where an operation takes more operands than there are nothing is done
abbrev pub with_operands : ℕ → List Housed → (lines rest : List WordInstr) → List WordInstr
with_operands n hs lines k = if nat_lt (length hs) n then k else lines

-- ---- handles in the data: two words, and a character behind them

abbrev pub letter_at : (at : ℕ) → ℕ
letter_at at = at + 8

-- the handle of a text whose address is in FIRST and whose length in SECOND
abbrev pub handle_code : (at : ℕ) → List WordInstr → List WordInstr
handle_code at k = Datum THIRD at ∷ Store THIRD SECOND whole ∷ Datum THIRD (at + 4) ∷ Store THIRD FIRST whole ∷ k

abbrev pub letter_code : (at from : ℕ) → List WordInstr → List WordInstr
letter_code at from k = Datum FIRST (letter_at at) ∷ Store FIRST from Byte ∷ Constant SECOND 1 ∷ handle_code at k

-- of no text
abbrev pub no_text_code : (at : ℕ) → List WordInstr → List WordInstr
no_text_code at k = Constant FIRST 0 ∷ Constant SECOND 0 ∷ handle_code at k

-- a bool's name: `false` has five letters and stands 8 bytes before `true`
abbrev pub bool_name_code : (at from : ℕ) → List WordInstr → List WordInstr
bool_name_code at from k =
    Constant FIRST 3 ∷ Compute FIRST operation.ShiftLeft from FIRST ∷ Datum SECOND FALSE_AT ∷ Compute FIRST operation.Add SECOND FIRST
    ∷ Constant SECOND 5 ∷ Compute SECOND operation.Subtract SECOND from
    ∷ handle_code at k

-- an enum's: from where the name before it ends, up to where it ends
abbrev pub name_handle_code : (at ends names from : ℕ) → List WordInstr → List WordInstr
name_handle_code at ends names from k =
    Constant FIRST 2 ∷ Compute FIRST operation.ShiftLeft from FIRST ∷ Datum SECOND ends ∷ Compute SECOND operation.Add SECOND FIRST
    ∷ Load FIRST SECOND whole
    ∷ Sum SECOND SECOND 4
    ∷ Load SECOND SECOND whole
    ∷ Compute SECOND operation.Subtract SECOND FIRST
    ∷ Datum THIRD names ∷ Compute FIRST operation.Add THIRD FIRST
    ∷ handle_code at k

-- ---- checks

-- a length isn't negative
abbrev pub counted_code : (length : ℕ) → List WordInstr → List WordInstr
counted_code n k = Constant FIRST least ∷ Branch test.NotBelow n FIRST (trap_label OutOfRange) ∷ k

-- a sequence isn't empty
abbrev pub filled_code : Home → List WordInstr → List WordInstr
filled_code from k =
    address FIRST from ∷ Load FIRST FIRST whole ∷ Constant SECOND 0 ∷ Branch test.Equal FIRST SECOND (trap_label IndexOutOfBounds) ∷ k

-- ---- rows

abbrev pub measured_code : Measure → (to : ℕ) → Home → List WordInstr → List WordInstr
measured_code Len to from k = address FIRST from ∷ Load to FIRST whole ∷ k
measured_code High to from k = address FIRST from ∷ Load FIRST FIRST whole ∷ Sum to FIRST one_less ∷ k

-- a value to the address in FIFTH, which is that of the next one then
abbrev pub next_element_code : (size : ℕ) → Housed → List WordInstr → List WordInstr
next_element_code size h k = moved h.is_word h.bytes (Lies (Variable FIFTH)) (spot_of h) (Sum FIFTH FIFTH size ∷ k)

-- operands, one behind the other
abbrev pub elements_code : (size : ℕ) → List Housed → List WordInstr → List WordInstr
elements_code size [] k = k
elements_code size (h ∷ hs) k = next_element_code size h (elements_code size hs k)

-- a new sequence of operands; where it has none nothing is moved
abbrev pub sequence_code : (to : Home) → (size : ℕ) → List Housed → List WordInstr → List WordInstr
sequence_code to size hs k =
    called_code FIRST SEQ_NEW (Where to ∷ Number (length hs) ∷ Number size ∷ [])
    (address FIFTH to ∷ Sum FIFTH FIFTH 4 ∷ Load FIFTH FIFTH whole ∷ elements_code size hs k)

abbrev pub added_code : (to : Home) → (size : ℕ) → Housed → List WordInstr → List WordInstr
added_code to size from k = add_code FIFTH to size (moved from.is_word from.bytes (Lies (Variable FIFTH)) (spot_of from) k)

abbrev pub popped_code : (to : Housed) → Home → (size : ℕ) → List WordInstr → List WordInstr
popped_code to from size k = filled_code from (pop_code FIFTH from size (moved to.is_word to.bytes (spot_of to) (Lies (Variable FIFTH)) k))

-- what makes the place of a block the address of its header
abbrev pub header_less : ℕ
header_less = 2 ^ 32 - HEADER_BYTES

-- Control goes on at the label unless the block of a handle has room for a character more behind its text. The block's bytes, with its header, are
-- 8 shifted by the header's first word; a text without a block has the place 0.
abbrev pub room_lines : (label : ℕ) → List WordInstr → List WordInstr
room_lines label k =
    Load SECOND FIRST whole ∷ Sum THIRD FIRST 4 ∷ Load THIRD THIRD whole
    ∷ Constant FOURTH 8 ∷ Branch test.Below THIRD FOURTH label
    ∷ Sum FIFTH THIRD header_less ∷ Load FIFTH FIFTH whole ∷ Compute FOURTH operation.ShiftLeft FOURTH FIFTH
    ∷ Sum FIFTH SECOND HEADER_BYTES ∷ Branch test.NotBelow FIFTH FOURTH label ∷ k

-- it is put there, and control goes on at the second label behind this one
abbrev pub letter_put_lines : (label from : ℕ) → List WordInstr → List WordInstr
letter_put_lines label from k =
    Compute FIFTH operation.Add THIRD SECOND ∷ Store FIFTH from Byte
    ∷ Sum SECOND SECOND 1 ∷ Store FIRST SECOND whole ∷ Sum FIRST FIRST 4 ∷ Store FIRST THIRD whole
    ∷ Jump (label + 2) ∷ Label label ∷ k

abbrev pub in_place_lines : (label from : ℕ) → List WordInstr → List WordInstr
in_place_lines label from k = room_lines label (letter_put_lines label from k)

abbrev pub in_place_code : (label : ℕ) → Home → (from : ℕ) → List WordInstr → List WordInstr
in_place_code label to from k = address FIRST to ∷ in_place_lines label from k

-- by the routine where it isn't put in place
abbrev pub added_letter_code : (label : ℕ) → Home → (from : ℕ) → List WordInstr → List WordInstr
added_letter_code label to from k =
    in_place_code label to from (letter_code RIGHT_HANDLE_AT from (append_code to (Static RIGHT_HANDLE_AT) (Label (label + 2) ∷ k)))

abbrev pub literal_home : (at : ℕ) → Alias → Home → Home
literal_home at (alias.Text behind bytes) home = Static at
literal_home at other home = home

-- where the handle is
abbrev pub entry_home : (at : ℕ) → Option TypeDef → Housed → Home
entry_home at (Some D.Text) from = literal_home at from.alias from.home
entry_home at entry from = Static at

-- where a length gets no longer, what is behind it ends by a procedure, and control goes on at the second label behind this one
abbrev pub cut_code : (number label : ℕ) → Home → (length : ℕ) → List WordInstr → List WordInstr
cut_code number label to n k =
    address FIRST to ∷ Load FIRST FIRST whole ∷ Branch test.Below FIRST n label
    ∷ called_code FIRST number (Where to ∷ Where (Variable n) ∷ []) (Jump (label + 2) ∷ Label label ∷ k)

module _ (x : Around) where
  -- ---- operands

  abbrev pub literal_text : (at : ℕ) → Alias → List WordInstr → List WordInstr
  literal_text at (alias.Text behind bytes) k = Datum FIRST (literal_at x behind bytes) ∷ Constant SECOND bytes ∷ handle_code at k
  literal_text at other k = k

  -- a handle is made of what has none: a literal, or a character
  abbrev pub entry_text : (at : ℕ) → Option TypeDef → Housed → List WordInstr → List WordInstr
  entry_text at (Some D.Text) from k = literal_text at from.alias k
  entry_text at (Some D.Char) from k = letter_code at (variable_of from) k
  entry_text at entry from k = k

  -- or of the name of a value, where its type has names; `enum` is the number of the type
  abbrev pub name_text : (at : ℕ) → Option TypeDef → (enum : ℕ) → Housed → List WordInstr → List WordInstr
  name_text at (Some D.Bool) enum from k = bool_name_code at (variable_of from) k
  name_text at (Some (D.Enum name place members)) enum from k =
      name_handle_code at (x.setting.ends + 4 * names_before x.table enum) x.setting.names (variable_of from) k
  name_text at (Some D.Char) enum from k = letter_code at (variable_of from) k
  name_text at (Some D.Text) enum from k = literal_text at from.alias k
  name_text at entry enum from k = no_text_code at k

  abbrev pub text_made : (at : ℕ) → Option ℕ → Housed → List WordInstr → List WordInstr
  text_made at ty from k = entry_text at (entry_of x.table ty) from k

  abbrev pub text_home : (at : ℕ) → Option ℕ → Housed → Home
  text_home at ty from = entry_home at (entry_of x.table ty) from

  abbrev pub two_made : List (Option ℕ) → List Housed → List WordInstr → List WordInstr
  two_made of hs k = text_made LEFT_HANDLE_AT (type_of of 0) (operand_at hs 0) (text_made RIGHT_HANDLE_AT (type_of of 1) (operand_at hs 1) k)

  abbrev pub left_of : List (Option ℕ) → List Housed → Home
  left_of of hs = text_home LEFT_HANDLE_AT (type_of of 0) (operand_at hs 0)

  abbrev pub right_of : List (Option ℕ) → List Housed → Home
  right_of of hs = text_home RIGHT_HANDLE_AT (type_of of 1) (operand_at hs 1)

  -- a copy of a text of the data
  abbrev pub text_copy_code : Home → List ℕ → List WordInstr → List WordInstr
  text_copy_code to text k =
      Datum FIRST (text_at x text) ∷ Constant SECOND (length text) ∷ handle_code LEFT_HANDLE_AT (copy_code to (Static LEFT_HANDLE_AT) k)

  -- its handle, which nobody owns, or nothing where the text has another name
  abbrev pub lent_text_code : Alias → Home → List ℕ → List WordInstr → List WordInstr
  lent_text_code (alias.Text behind bytes) to text k = k
  lent_text_code named to text k =
      address FIRST to ∷ Constant SECOND (length text) ∷ Store FIRST SECOND whole
      ∷ address FIRST (shifted 4 to) ∷ Datum SECOND (text_at x text) ∷ Store FIRST SECOND whole ∷ k

  -- ---- rows

  -- an int is spelled
  abbrev pub shown_code : Option TypeDef → (to : Home) → Option ℕ → Housed → List WordInstr → List WordInstr
  shown_code None to ty from k = show_code to (variable_of from) k
  shown_code (Some D.Int) to ty from k = show_code to (variable_of from) k
  shown_code entry to ty from k =
      name_text LEFT_HANDLE_AT entry (base_of x.table ty) from (copy_code to (entry_home LEFT_HANDLE_AT entry from) k)

  abbrev pub appended_code : (letter : Bool) → (label : ℕ) → Home → Option ℕ → Housed → List WordInstr → List WordInstr
  appended_code true label to ty from k = added_letter_code label to (variable_of from) k
  appended_code false label to ty from k = text_made RIGHT_HANDLE_AT ty from (append_code to (text_home RIGHT_HANDLE_AT ty from) k)

  -- the number of the procedure by which what stands in a type's values from a position on ends
  abbrev pub cut_number : ℕ → ℕ
  cut_number ty = PROCS_FROM + length x.layouts + (5 * ty + 4)

  -- where it gets no longer, elements with hooks end, and that is all
  abbrev pub resized_code : (hooks : Bool) → (label ty : ℕ) → Home → (length size : ℕ) → List WordInstr → List WordInstr
  resized_code true label ty to n size k =
      address FIRST to ∷ Load FIRST FIRST whole ∷ Branch test.Below FIRST n label
      ∷ called_code FIRST (cut_number ty) (Where to ∷ Where (Variable n) ∷ [])
      (Jump (label + 2) ∷ Label label ∷ length_code to n size (Label (label + 2) ∷ k))
  resized_code false label ty to n size k = length_code to n size k

  abbrev pub sized_code : (text : Bool) → (label ty : ℕ) → Home → (length : ℕ) → List WordInstr → List WordInstr
  sized_code true label ty to n k = text_length_code to n k
  sized_code false label ty to n k =
      resized_code (has_hooks x.table (element_in (entry_at x.table ty))) label (base_at x.table ty) to n (each_bytes x.table (entry_at x.table ty)) k

  abbrev pub size_in : Housed → ℕ
  size_in h = each_bytes x.table (entry_at x.table h.ty)

  -- an operation on texts and sequences alone; refs aren't built
  abbrev pub owned_code : Operation → (label : ℕ) → List (Option ℕ) → Housed → List Housed → List WordInstr → List WordInstr
  owned_code O.Join label of to hs k = with_operands 2 hs (two_made of hs (join_code to.home (left_of of hs) (right_of of hs) k)) k
  owned_code O.Show label of to hs k =
      with_operands 1 hs (shown_code (entry_of x.table (type_of of 0)) to.home (type_of of 0) (operand_at hs 0) k) k
  owned_code O.Sequence label of to hs k = sequence_code to.home (size_in to) hs k
  owned_code O.NewSequence label of to hs k =
      counted_code (variable_of (operand_at hs 0)) (new_code to.home (variable_of (operand_at hs 0)) (size_in to) k)
  owned_code O.ReadLineInto label of to hs k = read_code (variable_of to) (operand_at hs 0).home k
  owned_code O.Add label of to hs k = added_code (operand_at hs 0).home (size_in (operand_at hs 0)) (operand_at hs 1) k
  owned_code O.Append label of to hs k =
      with_operands 2 hs
      (appended_code (is_char (entry_of x.table (type_of of 1))) label (operand_at hs 0).home (type_of of 1) (operand_at hs 1) k) k
  owned_code O.SetLength label of to hs k =
      with_operands 2 hs (counted_code (variable_of (operand_at hs 1))
      (sized_code (is_text (entry_at x.table (operand_at hs 0).ty)) label (operand_at hs 0).ty (operand_at hs 0).home (variable_of (operand_at hs 1)) k))
      k
  owned_code O.Pop label of to hs k = with_operands 1 hs (popped_code to (operand_at hs 0).home (size_in (operand_at hs 0)) k) k
  owned_code operation label of to hs k = k

-- ---- a label of a `case` over texts

-- control goes on at a label where two texts are the same
abbrev pub same_text_code : (left right : Home) → (to : ℕ) → List WordInstr → List WordInstr
same_text_code left right to k =
    called_code FOURTH TEXT_ORDER (Where left ∷ Where right ∷ []) (Constant FIFTH 0 ∷ Branch test.Equal FOURTH FIFTH to ∷ k)

-- the label's text stands in the data, where it has so many bytes
abbrev pub text_fits_code : (place bytes : ℕ) → Home → (to : ℕ) → List WordInstr → List WordInstr
text_fits_code place bytes from to k =
    Datum FIRST place ∷ Constant SECOND bytes ∷ handle_code LEFT_HANDLE_AT (same_text_code (Static LEFT_HANDLE_AT) from to k)

-- ---- locations in texts and sequences

-- an index has to be below the length
abbrev pub owned_item_code : (to : ℕ) → Home → (index size : ℕ) → List WordInstr → List WordInstr
owned_item_code to from index size k =
    address SECOND from ∷ Load FIRST SECOND whole ∷ Branch test.NotBelow index FIRST (trap_label IndexOutOfBounds)
    ∷ Sum SECOND SECOND 4 ∷ Load SECOND SECOND whole
    ∷ Constant FIRST size ∷ Compute FIRST operation.Multiply index FIRST ∷ Compute to operation.Add SECOND FIRST
    ∷ k

-- that of an element that is there
abbrev pub owned_element_code : (to : ℕ) → Home → (index size : ℕ) → List WordInstr → List WordInstr
owned_element_code to from index size k =
    address SECOND from ∷ Sum SECOND SECOND 4 ∷ Load SECOND SECOND whole
    ∷ Constant FIRST size ∷ Compute FIRST operation.Multiply index FIRST ∷ Compute to operation.Add SECOND FIRST
    ∷ k

-- its value, from the address in the fifth variable; a character of a text is a byte
abbrev pub element_read : (text : Bool) → Housed → List WordInstr → List WordInstr
element_read true to k = Load FIRST FIFTH Byte ∷ moved true to.bytes (spot_of to) (Held FIRST) k
element_read false to k = moved to.is_word to.bytes (spot_of to) (Lies (Variable FIFTH)) k
