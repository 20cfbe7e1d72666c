-- The word code of block code as a whole: the start code first, then the procedures in their order, then the hooks of types. It calls routines by
-- their numbers. No public contract speaks of it.
use Rattle.std.specs.Prelude.{ℕ, suc, nat_eq, ◌+◌, Bool, true, false, ◌||◌, if◌then◌else◌}
use Rattle.std.specs.Prelude.{List, [], ◌∷◌, ◌++◌, length, map, Option, Some, None}
use Rattle.nim_types.specs.declared.types.TypeDef.{TypeDef}
use Rattle.nim_program.specs.declared.program.HookOf.{HookOf}
use Rattle.nim_program.specs.Traps.{Trap, Overflow, DivisionByZero, IndexOutOfBounds, OutOfRange, LengthChanged, CallDepth}
use Rattle.flat_code.specs.declared.line.Line.{Line}
use Rattle.flat_code.specs.declared.block.BlockLine.{BlockLine}
use Rattle.flat_code.specs.declared.code.Code.{Code}
use Rattle.flat_code.specs.declared.code.CodeProc.{CodeProc}
use Rattle.flat_code.specs.Codes.{block_plain}
use Rattle.flat_code.specs.Running.{last_of}
use Rattle.word_code.specs.declared.word.WordInstr.{WordInstr}
use Rattle.word_code.specs.declared.word.WordInstr.TheVariants.{Label, Branch, Call}
use Rattle.word_code.specs.declared.word.ProcKind.{ProcKind}
use Rattle.word_code.specs.declared.word.ProcKind.TheVariants as kind
use Rattle.word_code.specs.declared.word.WordProc.{WordProc}
use Rattle.word_code.specs.declared.word.WordCode.{WordCode}
use Rattle.word_code.specs.RoutineTable.{trap_number}
use Rattle.word_lowering.specs.declared.homes.TheConstants.{FIRST, OWN_FROM}
use Rattle.word_lowering.specs.declared.homes.Housed.{Housed}
use Rattle.word_lowering.specs.declared.homes.Layout.{Layout}
use Rattle.word_lowering.specs.declared.texts.TheConstants.{FIXED_BYTES}
use Rattle.word_lowering.specs.Layouts.{is_empty, layouts, params_in, result_in, kept_in}
use Rattle.word_lowering.specs.Spots.{clears}
use Rattle.word_lowering.specs.Operations.{trap_label}
use Rattle.word_lowering.specs.WaitingCode.{none_code}
use Rattle.word_lowering.specs.Texts.{padded, names_at, texts_at, texts_in, data_in}
pub use Rattle.word_lowering.specs.Texts.{data_at}
use Rattle.hook_code.specs.HookCode.{procs_in}
use Rattle.word_lowering.specs.LineCode.{Around, no_layout, lines_code, proc_number, first_hook}

-- ---- procedures

-- the result is at its default
abbrev pub result_cleared : Option Housed → List WordInstr → List WordInstr
result_cleared None k = k
result_cleared (Some r) k = clears r k

-- whether one of these lines branches to a label
abbrev pub branches_to : (label : ℕ) → WordInstr → Bool
branches_to label (Branch test left right to) = nat_eq label to
branches_to label line = false

abbrev pub any_branches : (label : ℕ) → List WordInstr → Bool
any_branches label [] = false
any_branches label (line ∷ lines) = branches_to label line || any_branches label lines

-- the label of a trap with the call of its routine, which doesn't come back
abbrev pub trap_code : (leads : Bool) → (label routine : ℕ) → List WordInstr → List WordInstr
trap_code true label routine k = Label label ∷ Call FIRST routine ∷ k
trap_code false label routine k = k

-- it is there where one of the lines leads to it
abbrev pub trap_end : List WordInstr → Trap → List WordInstr → List WordInstr
trap_end lines trap k = trap_code (any_branches (trap_label trap) lines) (trap_label trap) (trap_number trap) k

-- what stands behind these lines at the end of a procedure
abbrev pub last_code : List WordInstr → List WordInstr
last_code lines = trap_end lines Overflow (trap_end lines DivisionByZero (trap_end lines IndexOutOfBounds
    (trap_end lines OutOfRange (trap_end lines LengthChanged (trap_end lines CallDepth [])))))

abbrev pub and_last : List WordInstr → List WordInstr
and_last lines = lines ++ last_code lines

-- what stands before the lines of a procedure: its result is at its default, and nothing waits
abbrev pub begin_code : Layout → List WordInstr → List WordInstr
begin_code own k = none_code own.waiters (result_cleared (result_in own.all) k)

abbrev pub code_of : Around → List Line → List WordInstr
code_of x lines = and_last (begin_code x.own (lines_code x lines []))

abbrev pub kind_of : Option HookOf → ProcKind
kind_of None = kind.Counted
kind_of (Some hook) = kind.Hook hook.kind hook.of

abbrev pub kind_in : (start : Bool) → Option HookOf → ProcKind
kind_in true hook = kind.Counted
kind_in false hook = kind_of hook

-- a procedure of some number
abbrev pub word_proc : Around → (number : ℕ) → CodeProc BlockLine → WordProc
word_proc x number p = record {
  number = number;
  kind = kind_in x.setting.start p.hook;
  params = OWN_FROM + kept_in (params_in x.own.all);
  vars = x.own.free.variable;
  room = x.own.free.byte;
  data_from = 0;
  lines = code_of x (map block_plain p.lines);
}

-- what is around another procedure than the start code, with so many bytes of literals of procedures behind it
abbrev pub with_own : Around → Layout → (behind : ℕ) → Around
with_own x own behind = record x {
  own = own;
  setting = record x.setting { start = false; literals = x.setting.literals + behind };
}

-- what has no lines is no procedure of word code
abbrev pub if_runs : (runs : Bool) → WordProc → List WordProc → List WordProc
if_runs true p procs = p ∷ procs
if_runs false p procs = procs

-- the procedures, the first of which has an index, with their layouts; the last one is the start code, which isn't among them
abbrev pub word_procs : Around → (index : ℕ) → List Layout → List (CodeProc BlockLine) → List WordProc
word_procs x index owns [] = []
word_procs x index [] (p ∷ ps) = []
word_procs x index (own ∷ owns) (p ∷ ps) =
    if is_empty ps then [] else
    if_runs own.runs (word_proc (with_own x own (length (texts_in ps))) (proc_number index) p) (word_procs x (suc index) owns ps)

abbrev pub no_proc : CodeProc BlockLine
no_proc = record { first = 0; span = 0; places = []; lines = []; hook = None }

abbrev pub all_layouts : List TypeDef → List (CodeProc BlockLine) → List Layout
all_layouts table procs = layouts table FIXED_BYTES procs

abbrev pub start_layout : List TypeDef → List (CodeProc BlockLine) → Layout
start_layout table procs = last_of no_layout (all_layouts table procs)

abbrev pub globals_end : List TypeDef → List (CodeProc BlockLine) → ℕ
globals_end table procs = (start_layout table procs).free.datum

-- what is around the start code, which has this layout
abbrev pub around_start : List TypeDef → List (CodeProc BlockLine) → List Layout → Layout → Around
around_start table procs all own = record {
  table = table;
  procs = procs;
  from = data_at + texts_at table own.free.datum;
  layouts = all;
  own = own;
  globals = own.all;
  setting = record {
    start = true;
    ends = own.free.datum;
    names = names_at table own.free.datum;
    texts = texts_at table own.free.datum;
    literals = 0;
  };
}

abbrev pub start_around : List TypeDef → List (CodeProc BlockLine) → Around
start_around table procs = around_start table procs (all_layouts table procs) (start_layout table procs)

abbrev pub lowered_procs : Around → List (CodeProc BlockLine) → List WordProc
lowered_procs x procs = word_proc x 0 (last_of no_proc procs) ∷ word_procs x 0 x.layouts procs

abbrev pub data_of : List TypeDef → List (CodeProc BlockLine) → List ℕ
data_of table procs = padded (data_in table (globals_end table procs) procs)

abbrev pub lowered : List TypeDef → Code BlockLine → WordCode
lowered table blocks = record {
  procs = lowered_procs (start_around table blocks.procs) blocks.procs ++ procs_in table (first_hook blocks.procs);
  statics = data_of table blocks.procs;
}
