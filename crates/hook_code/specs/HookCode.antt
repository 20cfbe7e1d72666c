-- The word code of hooks. Each piece of code stands before what follows.
use Rattle.std.specs.Prelude.{ℕ, ◌+◌, ◌*◌, Bool, true, false, List, [], ◌∷◌, ◌++◌, ◌==◌, take, Option, Some, slice_get}
use Rattle.nim_types.specs.declared.types.TypeDef.{TypeDef}
use Rattle.nim_types.specs.declared.types.TypeDef.TheVariants as D
use Rattle.nim_types.specs.declared.types.TheConstants.{WORD_BYTES, LIST_BYTES}
use Rattle.nim_types.specs.Table.{types_in, type_at, facts_in}
use Rattle.nim_types.specs.Forms.{size, form_of}
use Rattle.flat_code.specs.declared.line.Line.{Line}
use Rattle.flat_code.specs.declared.line.Line.TheVariants as L
use Rattle.rv32_isa.specs.declared.micro_op.Size.TheVariants as bytes_of
use Rattle.word_code.specs.declared.routine.TheConstants.{COPY}
use Rattle.word_code.specs.declared.word.WordOperation.TheVariants as operation
use Rattle.word_code.specs.declared.word.Test.TheVariants as test
use Rattle.word_code.specs.declared.word.WordInstr.{WordInstr}
use Rattle.word_code.specs.declared.word.WordInstr.TheVariants as W
use Rattle.word_code.specs.declared.word.ProcKind.TheVariants.{Uncounted}
use Rattle.word_code.specs.declared.word.WordProc.{WordProc}
use Rattle.heap_memory.specs.declared.numbers.TheConstants.{RELEASE, TEXT_COPY, SEQ_NEW}
use Rattle.hook_lifting.specs.declared.lifted.Hook.{Hook}
use Rattle.hook_lifting.specs.declared.lifted.Hook.TheVariants.{Copies, Assigns, Sinks, Ends}
use Rattle.hook_lifting.specs.declared.lifted.Lifted.{Lifted}
use Rattle.hook_lifting.specs.declared.lifted.Cut.{Cut}
use Rattle.hook_lifting.specs.declared.lifted.LiftedLine.{LiftedLine}
use Rattle.hook_lifting.specs.declared.lifted.LiftedLine.TheVariants as O
use Rattle.hook_lifting.specs.Lifted.{has_hooks, lifted, cuts}
use Rattle.hook_code.specs.declared.numbers.TheConstants.{HOOKS_EACH, ONE, OTHER, ADDRESS, PLACES_BEHIND, COUNT, HOOK_VARIABLES}

-- ---- numbers

-- which of the procedures of a type it is
abbrev pub hook_index : Hook → ℕ
hook_index Copies = 0
hook_index Assigns = 1
hook_index Sinks = 2
hook_index Ends = 3

-- of those of a type, from the first of all on
abbrev pub number_at : (first ty index : ℕ) → ℕ
number_at first ty index = first + (HOOKS_EACH * ty + index)

abbrev pub hook_number : (first : ℕ) → Hook → (ty : ℕ) → ℕ
hook_number first hook ty = number_at first ty (hook_index hook)

abbrev pub cut_number : (first ty : ℕ) → ℕ
cut_number first ty = number_at first ty 4

-- ---- handles: a variable has the length, another one the place

abbrev pub place : (handle : ℕ) → ℕ
place v = v + PLACES_BEHIND

-- what stands at the address that a variable has
abbrev pub handle_got : (handle at : ℕ) → List WordInstr → List WordInstr
handle_got v at k = W.Load v at bytes_of.Word ∷ W.Sum ADDRESS at 4 ∷ W.Load (place v) ADDRESS bytes_of.Word ∷ k

-- the place of one with another length
abbrev pub handle_with : (at length handle : ℕ) → List WordInstr → List WordInstr
handle_with at n v k = W.Store at n bytes_of.Word ∷ W.Sum ADDRESS at 4 ∷ W.Store ADDRESS (place v) bytes_of.Word ∷ k

abbrev pub handle_put : (at handle : ℕ) → List WordInstr → List WordInstr
handle_put at v k = handle_with at v v k

-- the address of an element of so many bytes, behind one that a variable has
abbrev pub element_of : (to start index bytes : ℕ) → List WordInstr → List WordInstr
element_of to start index n k =
    W.Constant ADDRESS n ∷ W.Compute ADDRESS operation.Multiply index ADDRESS ∷ W.Compute to operation.Add start ADDRESS ∷ k

-- the next turn of a loop, if there is one
abbrev pub turned : (counter last to : ℕ) → List WordInstr → List WordInstr
turned counter last to k = W.Sum counter counter 1 ∷ W.Branch test.Below counter last to ∷ k

-- a sequence of so many elements, of so many bytes each, gets a block, and comes to an address
abbrev pub taken : (to at long bytes : ℕ) → List WordInstr → List WordInstr
taken to at long n k =
    W.Argument 0 at ∷ W.Argument 1 long ∷ W.Constant ADDRESS n ∷ W.Argument 2 ADDRESS ∷ W.Call (place to) SEQ_NEW ∷ W.Copy to long ∷ k

abbrev pub released : (handle : ℕ) → List WordInstr → List WordInstr
released handle k = W.Argument 0 (place handle) ∷ W.Call ADDRESS RELEASE ∷ k

-- the handles at two addresses trade places
abbrev pub traded : (to from : ℕ) → List WordInstr → List WordInstr
traded to from k = handle_got ONE to (handle_got OTHER from (handle_put to OTHER (handle_put from ONE k)))

-- ---- bits

-- so many bytes come to an address from another one
abbrev pub bits : (one_word : Bool) → (bytes to from : ℕ) → List WordInstr → List WordInstr
bits true n to from k = W.Load ADDRESS from bytes_of.Word ∷ W.Store to ADDRESS bytes_of.Word ∷ k
bits false n to from k =
    W.Constant ADDRESS n ∷ W.Argument 0 to ∷ W.Argument 1 from ∷ W.Argument 2 ADDRESS ∷ W.Call ADDRESS COPY ∷ k

-- what has no hooks needs no end
abbrev pub plain_hook : Hook → (bytes to from : ℕ) → List WordInstr → List WordInstr
plain_hook Ends n to from k = k
plain_hook hook n to from k = bits (n == WORD_BYTES) n to from k

-- a hook is called, from one address to another
abbrev pub hook_called : (number to from : ℕ) → List WordInstr → List WordInstr
hook_called number to from k = W.Argument 0 to ∷ W.Argument 1 from ∷ W.Call ADDRESS number ∷ k

-- ---- texts

-- the hooks of texts that are routines: a copy, and the end
abbrev pub text_code : Hook → List WordInstr → List WordInstr
text_code Ends k = handle_got ONE 0 (released ONE k)
text_code hook k = hook_called TEXT_COPY 0 1 k

-- ---- procedures

abbrev pub proc_with : (number : ℕ) → List WordInstr → WordProc
proc_with number lines =
    record { number = number; kind = Uncounted; params = 2; vars = HOOK_VARIABLES; room = LIST_BYTES; data_from = 0; lines = lines }

-- ---- by the table

module _ (table : List TypeDef) where
  abbrev pub bytes_at : (ty : ℕ) → ℕ
  bytes_at ty = size (form_of (facts_in table) (type_at (types_in table) ty))

  abbrev pub bytes_all : List ℕ → ℕ
  bytes_all [] = 0
  bytes_all (ty ∷ tys) = bytes_at ty + bytes_all tys

  -- the types of the parts of a tuple or an object
  abbrev pub parts_in : Option TypeDef → List ℕ
  parts_in (Some (D.Tuple names tys)) = tys
  parts_in (Some (D.Object name at arguments fields own_hooks tys)) = tys
  parts_in d = []

  -- how many bytes a part stands behind the whole
  abbrev pub part_at : (ty part : ℕ) → ℕ
  part_at ty part = bytes_all (take part (parts_in (slice_get table ty)))

  -- the bytes of an element of an array or a sequence
  abbrev pub element_bytes : Option TypeDef → ℕ
  element_bytes (Some (D.Array n of)) = bytes_at of
  element_bytes (Some (D.Seq of)) = bytes_at of
  element_bytes d = 0

  -- lines that flat code has too
  abbrev pub flat_code : (ty : ℕ) → Line → List WordInstr → List WordInstr
  flat_code ty (L.Part to from part) k = W.Sum to from (part_at ty part) ∷ k
  flat_code ty (L.Zero to) k = W.Constant to 0 ∷ k
  flat_code ty (L.Beyond counter last false to) k = W.Branch test.NotBelow counter last to ∷ k
  flat_code ty (L.CountTurn counter last false to) k = turned counter last to k
  flat_code ty (L.Label name) k = W.Label name ∷ k
  flat_code ty (L.Return result) k = W.Return 0 ∷ k
  flat_code ty line k = k

  module _ (first ty : ℕ) where
    abbrev pub each : ℕ
    each = element_bytes (slice_get table ty)

    -- what is done with a part or an element
    abbrev pub part_hook : Bool → Hook → (of to from : ℕ) → List WordInstr → List WordInstr
    part_hook true hook of to from k = hook_called (hook_number first hook of) to from k
    part_hook false hook of to from k = plain_hook hook (bytes_at of) to from k

    -- A location is the address that the variable of its number has, a number the word of its variable; of a handle that of its number is the length.
    abbrev pub line_code : LiftedLine → List WordInstr → List WordInstr
    line_code (O.Plain line) k = flat_code ty line k
    line_code (O.Hook hook of to from) k = part_hook (has_hooks table of) hook of to from k
    line_code (O.Load to at) k = handle_got to at k
    line_code (O.Count to of) k = W.Copy to of ∷ k
    line_code (O.Number to n) k = W.Constant to n ∷ k
    line_code (O.Element to of at index) k = element_of to (place of) index each k
    line_code (O.Member to at index count) k = element_of to at index each k
    line_code (O.Take of to at long) k = taken to at long each k
    line_code (O.GiveBack of at handle) k = released handle k
    line_code (O.Trade to from) k = traded to from k
    line_code (O.Begin of to) k = W.Place to 0 ∷ k
    line_code (O.Push to of) k = W.Place to 0 ∷ handle_put to of k
    line_code (O.Pop to at) k = handle_got to at k
    line_code (O.Exchange to at of) k = handle_got to at (handle_put at of k)
    line_code (O.Copy to of) k = W.Copy to of ∷ k
    line_code (O.Shorten at of count) k = handle_with at count of k
    line_code (O.Forget of count) k = k

    abbrev pub lines_code : List LiftedLine → List WordInstr → List WordInstr
    lines_code [] k = k
    lines_code (line ∷ lines) k = line_code line (lines_code lines k)

    -- one without lines is a routine's
    abbrev pub body_code : Hook → List LiftedLine → List WordInstr
    body_code hook [] = text_code hook (W.Return 0 ∷ [])
    body_code hook (line ∷ lines) = lines_code (line ∷ lines) []

  module _ (first : ℕ) where
    abbrev pub hook_proc : Lifted → WordProc
    hook_proc h = proc_with (hook_number first h.hook h.ty) (body_code first h.ty h.hook h.lines)

    -- its second argument is how many elements are kept
    abbrev pub cut_proc : Cut → WordProc
    cut_proc c = proc_with (cut_number first c.ty) (W.Copy COUNT 1 ∷ lines_code first c.ty c.lines [])

    abbrev pub hook_procs : List Lifted → List WordProc
    hook_procs [] = []
    hook_procs (h ∷ hs) = hook_proc h ∷ hook_procs hs

    abbrev pub cut_procs : List Cut → List WordProc
    cut_procs [] = []
    cut_procs (c ∷ cs) = cut_proc c ∷ cut_procs cs

    -- of all types
    abbrev pub procs_in : List WordProc
    procs_in = hook_procs (lifted table) ++ cut_procs (cuts table)
