-- What word code means: lines one after another, with a list of calls that are active.
use Rattle.std.specs.Prelude.{ℕ, zero, suc, ◌+◌, ◌%◌, ◌^◌, max, min, Bool, true, false, not, ◌&&◌, ◌||◌, if◌then◌else◌}
use Rattle.std.specs.Prelude.{nat_lt, nat_le, ◌==◌, List, [], ◌∷◌, length, take, drop}
use Rattle.std.specs.Prelude.{replicate, Option, Some, None, Result, Ok, Err, bit_and, bit_or, bit_xor}
use Rattle.arc_base.specs.declared.outside.Stream.{Stream}
use Rattle.arc_base.specs.Event.{Event, Hook, writes}
use Rattle.arc_base.specs.Behaviour.{Behaviour, Faulted}
use Rattle.arc_base.specs.Stepping.{Next, Goes, Ends, Faults, next_map, seen, behaviour}
use Rattle.rv32_isa.specs.Regions.{as_bytes}
use Rattle.rv32_isa.specs.declared.machine.FaultKind.{FaultKind}
use Rattle.rv32_isa.specs.Image.{stack_at}
use Rattle.rv32_isa.specs.Machine.{Lives}
use Rattle.rv32_isa.specs.Values.{added, subtracted, one_if, is_less_signed, low_product, high_product_signed, quotient_signed, remainder_signed}
use Rattle.rv32_isa.specs.Values.{quotient, remainder, shifted_left, shifted_right, shifted_right_signed}
use Rattle.nim_program.specs.declared.program.TheConstants.{ACTIVE_CALLS}
use Rattle.word_code.specs.declared.word.TheConstants.{SPARE_ROOM, MOST_VARIABLES, MOST_ARGUMENTS, HOOK_KINDS}
use Rattle.word_code.specs.declared.word.WordOperation.{WordOperation}
use Rattle.word_code.specs.declared.word.WordOperation.TheVariants.{Add, Subtract, Multiply, MultiplyHigh, Divide, Remainder, DivideUnsigned}
use Rattle.word_code.specs.declared.word.WordOperation.TheVariants.{RemainderUnsigned, And, Or, Xor, ShiftLeft, ShiftRight, ShiftRightSigned}
use Rattle.word_code.specs.declared.word.WordOperation.TheVariants.{Less as IsLess, Below as IsBelow}
use Rattle.word_code.specs.declared.word.Test.{Test}
use Rattle.word_code.specs.declared.word.Test.TheVariants as test
use Rattle.word_code.specs.declared.word.WordInstr.{WordInstr}
use Rattle.word_code.specs.declared.word.WordInstr.TheVariants.{Label, Spend, SpendIf, Constant, Copy, Compute, Sum, Place, Datum, Load, Store, Jump}
use Rattle.word_code.specs.declared.word.WordInstr.TheVariants.{Branch}
use Rattle.word_code.specs.declared.word.WordInstr.TheVariants.{Argument, Call, Return, Read, Write, Exit}
use Rattle.word_code.specs.declared.word.ProcKind.{ProcKind}
use Rattle.word_code.specs.declared.word.ProcKind.TheVariants as kind
use Rattle.word_code.specs.declared.word.WordProc.{WordProc}
use Rattle.word_code.specs.declared.word.WordCode.{WordCode}
use Rattle.word_code.specs.Memory.{Memory, as_state, number_at, may_put, with_number, bytes_at, may_fill, with_bytes, with_places, without_places}
use Rattle.word_code.specs.Memory.{data_of, own_data_at}

-- ---- words

abbrev pub computed : WordOperation → ℕ → ℕ → ℕ
computed Add a b = added a b
computed Subtract a b = subtracted a b
computed Multiply a b = low_product a b
computed MultiplyHigh a b = high_product_signed a b
computed Divide a b = quotient_signed a b
computed Remainder a b = remainder_signed a b
computed DivideUnsigned a b = quotient a b
computed RemainderUnsigned a b = remainder a b
computed And a b = bit_and a b
computed Or a b = bit_or a b
computed Xor a b = bit_xor a b
computed ShiftLeft a b = shifted_left a b
computed ShiftRight a b = shifted_right a b
computed ShiftRightSigned a b = shifted_right_signed a b
computed IsLess a b = one_if (is_less_signed a b)
computed IsBelow a b = one_if (nat_lt a b)

abbrev pub holds : Test → ℕ → ℕ → Bool
holds test.Equal a b = a == b
holds test.Unequal a b = not (a == b)
holds test.Less a b = is_less_signed a b
holds test.AtLeast a b = not (is_less_signed a b)
holds test.Below a b = nat_lt a b
holds test.NotBelow a b = not (nat_lt a b)

-- ---- what a line does by itself, wherever it stands

-- the word of each variable that got one
abbrev pub Vars : Type 0
Vars = ℕ → Option ℕ

-- no variable got a word
abbrev pub no_words : Vars
no_words = λ v. None

-- a variable gets the low 32 bits of a number
abbrev pub put : Vars → (to number : ℕ) → Vars
put vars to number v = if v == to then Some (number % 2 ^ 32) else vars v

-- what lines work on: the memory, the input that is left, the words of variables, the arguments given, where the call's places begin,
-- and where the data of its procedure does
pub record WordScene : Type 0 where
  pub memory : Memory
  pub input : List ℕ
  pub vars : Vars
  pub given : Vars
  pub base : ℕ
  pub data_at : ℕ

-- a line passes to the next one, or spends a unit first, or leaps to a label, calls, returns or exits; or it is at a fault
pub data WordDid : Type 0 where
  Passes : (shown : List Event) (next : WordScene) → WordDid
  Spends : (next : WordScene) → WordDid
  Leaps : (name : ℕ) (next : WordScene) → WordDid
  Calls : (to callee : ℕ) (next : WordScene) → WordDid
  Returns : (word : ℕ) → WordDid
  Exits : (status : ℕ) → WordDid
  Fails : WordDid

-- a word that is there; it is a fault where there is none
abbrev pub using : Option ℕ → (ℕ → WordDid) → WordDid
using None go = Fails
using (Some word) go = go word

-- a variable gets a number's low 32 bits
abbrev pub sets : WordScene → (to number : ℕ) → WordDid
sets x to number = Passes [] (record x { vars = put x.vars to number })

abbrev pub loads : WordScene → ℕ → Result ℕ FaultKind → WordDid
loads x to (Err kind) = Fails
loads x to (Ok word) = sets x to word

abbrev pub shows : WordScene → Stream → Option (List ℕ) → WordDid
shows x stream None = Fails
shows x stream (Some bytes) = Passes (writes stream bytes) x

-- so many bytes of input come to an address
abbrev pub reads : WordScene → (to at count : ℕ) → WordDid
reads x to at count =
    sets (record x { memory = with_bytes x.memory at (as_bytes (take count x.input)); input = drop count x.input }) to count

abbrev pub does : WordScene → WordInstr → WordDid
does x (Label name) = Passes [] x
does x Spend = Spends x
does x (SpendIf test left right) = using (x.vars left) (λ a. using (x.vars right) (λ b. if holds test a b then Spends x else Passes [] x))
does x (Constant to value) = sets x to value
does x (Copy to from) = using (x.vars from) (λ a. sets x to a)
does x (Compute to operation left right) = using (x.vars left) (λ a. using (x.vars right) (λ b. sets x to (computed operation a b)))
does x (Sum to from value) = using (x.vars from) (λ a. sets x to (a + value))
does x (Place to at) = sets x to (x.base + at)
does x (Datum to at) = sets x to (x.data_at + at)
does x (Load to address size) = using (x.vars address) (λ a. loads x to (number_at x.memory a size))
does x (Store address from size) =
    using (x.vars address) (λ a. using (x.vars from) (λ b.
    if may_put x.memory a size then Passes [] (record x { memory = with_number x.memory a size b }) else Fails))
does x (Jump to) = Leaps to x
does x (Branch test left right to) = using (x.vars left) (λ a. using (x.vars right) (λ b. if holds test a b then Leaps to x else Passes [] x))
does x (Argument index from) = using (x.vars from) (λ a. Passes [] (record x { given = put x.given index a }))
does x (Call to callee) = Calls to callee x
does x (Return from) = using (x.vars from) (λ a. Returns a)
does x (Read to address len) =
    using (x.vars address) (λ a. using (x.vars len) (λ n. if may_fill x.memory a n then reads x to a (min n (length x.input)) else Fails))
does x (Write stream address len) = using (x.vars address) (λ a. using (x.vars len) (λ n. shows x stream (bytes_at x.memory a n)))
does x (Exit status) = using (x.vars status) (λ a. Exits (a % 256))

-- ---- calls that are active

-- an active call: its procedure, the lines that are left, its variables, the arguments that it gave for its next call, where its places
-- begin, and the variable that awaits the result of the call that it has made
pub record WordFrame : Type 0 where
  pub proc : WordProc
  pub left : List WordInstr
  pub vars : Vars
  pub given : Vars
  pub base : ℕ
  pub awaits : ℕ

-- how many units may still be spent, None where there is no end of them; memory, the input that is left, the call that runs, and those that wait for a
-- result, the last one first
pub record WordState : Type 0 where
  pub units : Option ℕ
  pub memory : Memory
  pub input : List ℕ
  pub frame : WordFrame
  pub callers : List WordFrame

-- so many calls may be active that count, with the start code's
abbrev pub most_calls : ℕ
most_calls = suc ACTIVE_CALLS

abbrev pub is_counted : ProcKind → Bool
is_counted kind.Counted = true
is_counted (kind.Hook kind of) = true
is_counted kind.Uncounted = false

-- how many of these calls count
abbrev pub counted : List WordFrame → ℕ
counted [] = 0
counted (frame ∷ frames) = if is_counted frame.proc.kind then suc (counted frames) else counted frames

-- a call of a user's hook is seen
abbrev pub seen_call : ProcKind → List Event
seen_call kind.Counted = []
seen_call (kind.Hook kind of) = Hook kind of ∷ []
seen_call kind.Uncounted = []

-- ---- looking up

-- the procedures from the one of that number on
abbrev pub from_proc : ℕ → List WordProc → List WordProc
from_proc number [] = []
from_proc number (p ∷ procs) = if p.number == number then p ∷ procs else from_proc number procs

abbrev pub is_label : ℕ → WordInstr → Bool
is_label name (Label other) = other == name
is_label name line = false

-- the lines from a label on
abbrev pub from_label : ℕ → List WordInstr → Option (List WordInstr)
from_label name [] = None
from_label name (line ∷ lines) = if is_label name line then Some (line ∷ lines) else from_label name lines

-- ---- what comes of what a line did

abbrev pub scene_of : WordState → WordScene
scene_of s = record {
  memory = s.memory;
  input = s.input;
  vars = s.frame.vars;
  given = s.frame.given;
  base = s.frame.base;
  data_at = own_data_at + s.frame.proc.data_from;
}

-- with another scene, and these lines left
abbrev pub onward : WordState → List WordInstr → WordScene → WordState
onward s lines x =
    record s { memory = x.memory; input = x.input; frame = record s.frame { left = lines; vars = x.vars; given = x.given; base = x.base } }

abbrev pub on : WordState → Next Event WordState
on s = Goes [] 1 s

abbrev pub jumped : WordState → WordScene → Option (List WordInstr) → Next Event WordState
jumped s x None = Faults
jumped s x (Some lines) = on (onward s lines x)

-- the variables of a new call: its parameters have the arguments
abbrev pub params_of : WordProc → Vars → Vars
params_of p given v = if nat_lt v p.params then given v else None

-- one call too many
abbrev pub is_full : WordProc → List WordFrame → Bool
is_full p frames = is_counted p.kind && nat_le most_calls (counted frames)

-- a call of the first of these procedures, whose places bring these bytes with them
abbrev pub entered : List ℕ → WordState → List WordInstr → WordScene → ℕ → List WordProc → Next Event WordState
entered bytes s rest x to [] = Faults
entered bytes s rest x to (p ∷ procs) =
    if is_full p (s.frame ∷ s.callers) then Faults else
    Goes (seen_call p.kind) 1 (record {
      units = s.units;
      memory = with_places x.memory p.room bytes;
      input = x.input;
      frame = record { proc = p; left = p.lines; vars = params_of p x.given; given = no_words; base = added x.base s.frame.proc.room; awaits = 0 };
      callers = record s.frame { left = rest; vars = x.vars; given = no_words; base = x.base; awaits = to } ∷ s.callers;
    })

abbrev pub returned : WordState → ℕ → List WordFrame → Next Event WordState
returned s word [] = Faults
returned s word (caller ∷ callers) = on (record s {
  memory = without_places s.memory s.frame.proc.room;
  frame = record caller { vars = put caller.vars caller.awaits word };
  callers = callers;
})

-- a unit is spent where one is left; where none is, the run stands still for ever
abbrev pub spent : (units : Option ℕ) → (next now : WordState) → Next Event WordState
spent None next now = on next
spent (Some zero) next now = Goes [] 0 now
spent (Some (suc n)) next now = on (record next { units = Some n })

-- ---- runs

-- what a memory says of the objects that are still live is no matter of word code: it is said of the machine's state
module _ (live : Lives) where
  abbrev pub settled : List WordProc → (bytes : List ℕ) → WordState → List WordInstr → WordDid → Next Event WordState
  settled procs bytes s rest (Passes shown x) = Goes shown 1 (onward s rest x)
  settled procs bytes s rest (Spends x) = spent s.units (onward s rest x) s
  settled procs bytes s rest (Leaps name x) = jumped s x (from_label name s.frame.proc.lines)
  settled procs bytes s rest (Calls to callee x) = entered bytes s rest x to (from_proc callee procs)
  settled procs bytes s rest (Returns word) = returned s word s.callers
  settled procs bytes s rest (Exits status) = Ends [] 1 status (live (as_state s.memory))
  settled procs bytes s rest Fails = Faults

  -- the line that is next; it is a fault where no line is left
  abbrev pub step_lines : List WordProc → (bytes : List ℕ) → WordState → List WordInstr → Next Event WordState
  step_lines procs bytes s [] = Faults
  step_lines procs bytes s (line ∷ rest) = settled procs bytes s rest (does (scene_of s) line)

  abbrev pub step : List WordProc → (bytes : List ℕ) → WordState → Next Event WordState
  step procs bytes s = step_lines procs bytes s s.frame.left

-- The bytes that the places of a call bring with them are any, since nobody has written them: these are the bytes for a call that a line makes
-- before which so many lines were done. In a machine other calls, which are over, have left them there.
abbrev pub Fresh : Type 0
Fresh = ℕ → List ℕ

-- a line, from a state with the number of lines that were done
abbrev pub step_of : Lives → List WordProc → Fresh → ℕ × WordState → Next Event (ℕ × WordState)
step_of live procs fresh x = next_map (λ s. (suc x.0, s)) (step live procs (fresh x.0) x.1)

-- ---- chains of calls: each but the first is of a procedure that the one before it calls, and none counts

-- the number of the procedure that a line calls
abbrev pub callee_of : WordInstr → Option ℕ
callee_of (Call to callee) = Some callee
callee_of line = None

-- what is taken by what is called, if anything is
abbrev pub taken_for : (taken : ℕ → ℕ) → Option ℕ → ℕ
taken_for taken None = 0
taken_for taken (Some callee) = taken callee

-- the most that one of the procedures takes that these lines call
abbrev pub most_called : (taken : ℕ → ℕ) → List WordInstr → ℕ
most_called taken [] = 0
most_called taken (line ∷ lines) = max (taken_for taken (callee_of line)) (most_called taken lines)

-- the most that one of the procedures takes that these procedures call
abbrev pub most_chain : (taken : ℕ → ℕ) → List WordProc → ℕ
most_chain taken [] = 0
most_chain taken (p ∷ procs) = max (most_called taken p.lines) (most_chain taken procs)

-- what the first of these procedures takes, if it doesn't count, with what it calls
abbrev pub uncounted : (size : WordProc → ℕ) → (taken : ℕ → ℕ) → List WordProc → ℕ
uncounted size taken [] = 0
uncounted size taken (p ∷ procs) = if is_counted p.kind then 0 else size p + most_called taken p.lines

module _ (procs : List WordProc) where
  -- what a chain of at most so many takes, from the procedure of that number on
  abbrev pub chain : (size : WordProc → ℕ) → ℕ → (number : ℕ) → ℕ
  chain size zero number = 0
  chain size (suc n) number = uncounted size (chain size n) (from_proc number procs)

  -- the most that a chain takes which a procedure may call
  abbrev pub longest : (size : WordProc → ℕ) → ℕ
  longest size = most_chain (chain size (length procs)) procs

-- ---- word code that is well formed: its lines name variables of their procedures, procedures have numbers of their own, and the start
-- code counts and is no hook

abbrev pub are_named : (vars : ℕ) → WordInstr → Bool
are_named vars (Label name) = true
are_named vars Spend = true
are_named vars (SpendIf test left right) = nat_lt left vars && nat_lt right vars
are_named vars (Constant to value) = nat_lt to vars
are_named vars (Copy to from) = nat_lt to vars && nat_lt from vars
are_named vars (Compute to operation left right) = nat_lt to vars && (nat_lt left vars && nat_lt right vars)
are_named vars (Sum to from value) = nat_lt to vars && nat_lt from vars
are_named vars (Place to at) = nat_lt to vars
are_named vars (Datum to at) = nat_lt to vars
are_named vars (Load to address size) = nat_lt to vars && nat_lt address vars
are_named vars (Store address from size) = nat_lt address vars && nat_lt from vars
are_named vars (Jump to) = true
are_named vars (Branch test left right to) = nat_lt left vars && nat_lt right vars
are_named vars (Argument index from) = nat_lt index MOST_ARGUMENTS && nat_lt from vars
are_named vars (Call to callee) = nat_lt to vars
are_named vars (Return from) = nat_lt from vars
are_named vars (Read to address len) = nat_lt to vars && (nat_lt address vars && nat_lt len vars)
are_named vars (Write stream address len) = nat_lt address vars && nat_lt len vars
are_named vars (Exit status) = nat_lt status vars

abbrev pub all_named : (vars : ℕ) → List WordInstr → Bool
all_named vars [] = true
all_named vars (line ∷ lines) = are_named vars line && all_named vars lines

-- a user's hook is of one of the kinds that there are
abbrev pub is_kind : ProcKind → Bool
is_kind kind.Counted = true
is_kind (kind.Hook kind of) = nat_lt kind HOOK_KINDS
is_kind kind.Uncounted = true

-- places are whole words
abbrev pub is_proc : WordProc → Bool
is_proc p =
    nat_le p.params p.vars && (nat_le p.vars MOST_VARIABLES && ((p.room % 4 == 0) && (is_kind p.kind && all_named p.vars p.lines)))

abbrev pub has_number : ℕ → List WordProc → Bool
has_number number [] = false
has_number number (p ∷ procs) = (p.number == number) || has_number number procs

abbrev pub are_procs : List WordProc → Bool
are_procs [] = true
are_procs (p ∷ procs) = is_proc p && (not (has_number p.number procs) && are_procs procs)

abbrev pub first_of : List WordProc → WordProc
first_of [] = record { number = 0; kind = kind.Counted; params = 0; vars = 0; room = 0; data_from = 0; lines = [] }
first_of (p ∷ procs) = p

abbrev pub may_start : ProcKind → Bool
may_start kind.Counted = true
may_start (kind.Hook kind of) = false
may_start kind.Uncounted = false

-- no procedure is a user's hook
abbrev pub is_no_hook : ProcKind → Bool
is_no_hook kind.Counted = true
is_no_hook (kind.Hook kind of) = false
is_no_hook kind.Uncounted = true

abbrev pub have_no_hooks : List WordProc → Bool
have_no_hooks [] = true
have_no_hooks (p ∷ procs) = is_no_hook p.kind && have_no_hooks procs

abbrev pub is_word_code : WordCode → Bool
is_word_code code = are_procs code.procs && may_start (first_of (from_proc 0 code.procs)).kind

-- code that isn't well formed is at a fault before its first line
abbrev pub at_fault : Behaviour Event
at_fault n = seen [] Faulted 0

abbrev pub if_formed : Bool → Behaviour Event → Behaviour Event
if_formed true b = b
if_formed false b = at_fault

-- ---- whole runs

-- The start code, before its first line, with no end of units. Behind its places there is room for the arguments of a call, as there is
-- behind those of each call.
unfoldable pub start : WordCode → (heap stack : ℕ) → (input : List ℕ) → WordState
start code heap stack input = record {
  units = None;
  memory = record {
    statics = data_of heap stack code.statics;
    heap = replicate heap 0;
    places = replicate ((first_of (from_proc 0 code.procs)).room + SPARE_ROOM) 0;
  };
  input = input;
  frame = record {
    proc = first_of (from_proc 0 code.procs);
    left = (first_of (from_proc 0 code.procs)).lines;
    vars = no_words;
    given = no_words;
    base = stack_at;
    awaits = 0;
  };
  callers = [];
}

-- what is seen of word code after n lines, where nobody has written these bytes; and with so many units
abbrev pub word_meaning : Lives → WordCode → Fresh → (heap stack : ℕ) → (input : List ℕ) → Behaviour Event
word_meaning live code fresh heap stack input =
    if_formed (is_word_code code) (behaviour (step_of live code.procs fresh) (0, start code heap stack input))

abbrev pub word_by_units : Lives → WordCode → Fresh → (heap stack : ℕ) → (input : List ℕ) → (units : ℕ) → Behaviour Event
word_by_units live code fresh heap stack input units =
    if_formed (is_word_code code) (behaviour (step_of live code.procs fresh) (0, record (start code heap stack input) { units = Some units }))
