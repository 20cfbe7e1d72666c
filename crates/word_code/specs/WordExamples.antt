-- Small programs in word code, and what they come to. No public contract but that of examples speaks of it.
use Rattle.std.specs.Prelude.{◌≡◌, ℕ, ◌+◌, ◌==◌, if◌then◌else◌, List, [], ◌∷◌, ◌++◌, codes}
use Rattle.arc_base.specs.declared.outside.Stream.TheVariants.{Out, Err}
use Rattle.arc_base.specs.Event.{Event, writes}
use Rattle.arc_base.specs.Behaviour.{Behaviour, Ended, no_objects}
use Rattle.rv32_isa.specs.Machine.{Lives}
use Rattle.rv32_isa.specs.declared.micro_op.Size.TheVariants.{Byte}
use Rattle.word_code.specs.declared.word.WordOperation.TheVariants.{Add, Less}
use Rattle.word_code.specs.declared.word.Test.TheVariants as test
use Rattle.word_code.specs.declared.word.WordInstr.{WordInstr}
use Rattle.word_code.specs.declared.word.WordInstr.TheVariants.{Label, Constant, Copy, Compute, Sum, Place, Datum, Load, Store, Jump, Branch}
use Rattle.word_code.specs.declared.word.WordInstr.TheVariants.{Argument, Call, Return, Read, Write, Exit}
use Rattle.word_code.specs.declared.word.ProcKind.{ProcKind}
use Rattle.word_code.specs.declared.word.ProcKind.TheVariants.{Counted, Uncounted, Hook}
use Rattle.word_code.specs.declared.word.WordProc.{WordProc}
use Rattle.word_code.specs.declared.word.WordCode.{WordCode}
use Rattle.word_code.specs.declared.word.TheConstants.{SPARE_ROOM}
use Rattle.word_code.specs.Words.{Fresh}

-- a program without objects
abbrev pub none_live : Lives
none_live = λ s. no_objects

abbrev pub proc_of : ProcKind → (number params vars room : ℕ) → List WordInstr → WordProc
proc_of kind number params vars room lines =
    record { number = number; kind = kind; params = params; vars = vars; room = room; data_from = 0; lines = lines }

abbrev pub code_of : List WordProc → List ℕ → WordCode
code_of procs statics = record { procs = procs; statics = statics }

-- after n lines it has ended, with what it has written and its status
pub record Comes_to (b : Behaviour Event) (n : ℕ) (written failed : List ℕ) (status : ℕ) : Type 0 where
  pub events : (b n).events ≡ writes Out written ++ writes Err failed
  pub phase : (b n).phase ≡ Ended status no_objects

-- ---- a procedure with a loop

-- proc sum(n: int): int =
--   for i in 1 .. n:
--     result += i
-- quit(sum(4))

abbrev pub sum_start : WordProc
sum_start = proc_of Counted 0 0 2 0 (Constant 0 4 ∷ Argument 0 0 ∷ Call 1 1 ∷ Exit 1 ∷ [])

-- n is variable 0, the result 1, the loop's number 2, and i is 3. A sum that is no int has not the sign that its second part says.
abbrev pub sum : WordProc
sum = proc_of Counted 1 1 9 0
    (Constant 1 0
    ∷ Constant 2 1
    ∷ Label 0
    ∷ Branch test.Less 0 2 1
    ∷ Copy 3 2
    ∷ Compute 4 Add 1 3
    ∷ Compute 5 Less 4 1
    ∷ Constant 6 0
    ∷ Compute 7 Less 3 6
    ∷ Branch test.Unequal 5 7 2
    ∷ Copy 1 4
    ∷ Branch test.AtLeast 2 0 1
    ∷ Constant 6 1
    ∷ Compute 2 Add 2 6
    ∷ Jump 0
    ∷ Label 1
    ∷ Return 1
    ∷ Label 2
    ∷ Datum 6 0
    ∷ Constant 7 16
    ∷ Write Err 6 7
    ∷ Constant 8 1
    ∷ Exit 8
    ∷ [])

abbrev pub overflow_text : List ℕ
overflow_text = codes "Error: overflow\n"

abbrev pub sum_code : WordCode
sum_code = code_of (sum_start ∷ sum ∷ []) overflow_text

-- the same from two numbers whose sum is no int: 2147483647 and 1
abbrev pub overflowing : WordCode
overflowing = code_of (record sum_start { lines = Constant 0 2147483647 ∷ Argument 0 0 ∷ Call 1 1 ∷ Exit 1 ∷ [] }
    ∷ record sum {
      lines = Constant 1 2147483647 ∷ Constant 3 1 ∷ Compute 4 Add 1 3 ∷ Compute 5 Less 4 1 ∷ Constant 6 0 ∷ Compute 7 Less 3 6
          ∷ Branch test.Unequal 5 7 2 ∷ Return 4 ∷ Label 2 ∷ Datum 6 0 ∷ Constant 7 16 ∷ Write Err 6 7 ∷ Constant 8 1 ∷ Exit 8 ∷ [];
    } ∷ [])
    overflow_text

-- ---- memory, input and data

-- reads at most four bytes of input to a place, and writes back what came, its first byte increased
abbrev pub echoing : WordCode
echoing = code_of (proc_of Counted 0 0 4 4
    (Place 0 0
    ∷ Constant 1 4
    ∷ Read 2 0 1
    ∷ Load 3 0 Byte
    ∷ Sum 3 3 1
    ∷ Store 0 3 Byte
    ∷ Write Out 0 2
    ∷ Exit 2
    ∷ []) ∷ [])
    []

-- ends with what stands in the last byte of the called procedure's places, which nobody has written
abbrev pub unwritten : WordCode
unwritten = code_of (proc_of Counted 0 0 1 0 (Call 0 1 ∷ Exit 0 ∷ [])
    ∷ proc_of Counted 1 0 2 4 (Place 0 (SPARE_ROOM + 3) ∷ Load 1 0 Byte ∷ Return 1 ∷ []) ∷ []) []

-- the call that the first line makes finds these bytes
abbrev pub left_over : Fresh
left_over n = if n == 0 then 4 ∷ 5 ∷ 6 ∷ 7 ∷ 8 ∷ [] else []

-- a code that calls a routine of another one, which writes from its own data
abbrev pub calling : WordCode
calling = code_of (proc_of Counted 0 0 2 0 (Call 0 9 ∷ Exit 0 ∷ []) ∷ []) (codes "hi, ")

abbrev pub writing : WordCode
writing = code_of (proc_of Uncounted 9 0 2 0 (Datum 0 0 ∷ Constant 1 6 ∷ Write Out 0 1 ∷ Return 1 ∷ []) ∷ []) (codes "there\n")

-- ---- calls

-- a call of a user's hook is seen
abbrev pub hooking : WordCode
hooking = code_of (proc_of Counted 0 0 1 0 (Call 0 1 ∷ Exit 0 ∷ []) ∷ proc_of (Hook 0 5) 1 0 1 0 (Constant 0 3 ∷ Return 0 ∷ []) ∷ []) []

-- a variable that got no word is read
abbrev pub careless : WordCode
careless = code_of (proc_of Counted 0 0 1 0 (Exit 0 ∷ []) ∷ []) []

-- a variable that its procedure doesn't have
abbrev pub nameless : WordCode
nameless = code_of (proc_of Counted 0 0 1 0 (Constant 1 0 ∷ Exit 1 ∷ []) ∷ []) []

-- without an end, each call calls itself
abbrev pub diving : ProcKind → WordCode
diving kind = code_of (proc_of Counted 0 0 1 0 (Call 0 1 ∷ Exit 0 ∷ []) ∷ proc_of kind 1 0 1 0 (Call 0 1 ∷ Return 0 ∷ []) ∷ []) []

-- a start code that is a user's hook
abbrev pub seen_start : WordCode
seen_start = code_of (proc_of (Hook 0 5) 0 0 1 0 (Constant 0 0 ∷ Exit 0 ∷ []) ∷ []) []

-- a call of a user's hook of a fifth kind
abbrev pub strange : WordCode
strange = code_of (proc_of Counted 0 0 1 0 (Call 0 1 ∷ Exit 0 ∷ []) ∷ proc_of (Hook 4 5) 1 0 1 0 (Constant 0 3 ∷ Return 0 ∷ []) ∷ []) []
