-- The label code of word code. No public contract speaks of it.
--
-- x2 is where the frame of the running call begins, x3 where its places end, x4 where the data begins. The frame's first word is the return
-- address, and the caller's frame follows behind its last one. Arguments are put right below the frame, where the last words of the callee's
-- will be. Where a call's places end those of what it calls begin.
use Rattle.std.specs.Prelude.{ℕ, suc, ◌+◌, ◌-◌, ◌*◌, ◌/◌, ◌%◌, ◌^◌, Bool, true, false, ◌&&◌, nat_lt, ◌==◌}
use Rattle.std.specs.Prelude.{if◌then◌else◌, List, [], ◌∷◌, Option, Some, None}
use Rattle.arc_base.specs.declared.outside.Stream.{Stream}
use Rattle.arc_base.specs.declared.outside.Stream.TheVariants.{Out, Err}
use Rattle.rv32_isa.specs.declared.instr.Instr.{Instr}
use Rattle.rv32_isa.specs.declared.instr.Instr.TheVariants.{Lui, Jalr, Lw, Lbu, Lhu, Sb, Sh, Sw, Addi, Add, Sub, Sll, Slt, Sltu, Xor, Srl, Sra, Or}
use Rattle.rv32_isa.specs.declared.instr.Instr.TheVariants.{And, Mul, Mulh, Div, Divu, Rem, Remu, Ecall, Ebreak}
use Rattle.rv32_isa.specs.declared.micro_op.Size.{Size}
use Rattle.rv32_isa.specs.declared.micro_op.Size.TheVariants as size
use Rattle.rv32_isa.specs.declared.label.Test.{Test as LabelTest}
use Rattle.rv32_isa.specs.declared.label.Test.TheVariants as label_test
use Rattle.rv32_isa.specs.declared.label.HookLabel.{HookLabel}
use Rattle.rv32_isa.specs.declared.label.LabelName.TheVariants.{Entry, Inner}
use Rattle.rv32_isa.specs.declared.label.LabelLine.{LabelLine}
use Rattle.rv32_isa.specs.declared.label.LabelLine.TheVariants.{Label, Do, Jump, Branch}
use Rattle.rv32_isa.specs.Image.{statics_at, stack_at}
use Rattle.word_code.specs.declared.word.WordOperation.{WordOperation}
use Rattle.word_code.specs.declared.word.WordOperation.TheVariants as operation
use Rattle.word_code.specs.declared.word.Test.{Test}
use Rattle.word_code.specs.declared.word.Test.TheVariants as test
use Rattle.word_code.specs.declared.word.WordInstr.{WordInstr}
use Rattle.word_code.specs.declared.word.WordInstr.TheVariants as word
use Rattle.word_code.specs.declared.word.ProcKind.{ProcKind}
use Rattle.word_code.specs.declared.word.ProcKind.TheVariants as kind
use Rattle.word_code.specs.declared.word.WordProc.{WordProc}
use Rattle.word_code.specs.Memory.{own_data_at}
use Rattle.reg_scan.specs.declared.homes.Home.{Home}
use Rattle.reg_scan.specs.declared.homes.Home.TheVariants.{Reg, Frame}
use Rattle.reg_scan.specs.declared.homes.Homes.{Homes}
use Rattle.reg_scan.specs.Alive.{effect_of}
use Rattle.reg_scan.specs.Homes.{home_of}

-- ---- pieces

abbrev pub does : List Instr → List LabelLine → List LabelLine
does [] rest = rest
does (i ∷ is) rest = Do i ∷ does is rest

-- twelve bits with their sign are the word
abbrev pub is_near : ℕ → Bool
is_near value = nat_lt ((value + 2048) % 2 ^ 32) 4096

abbrev pub lower : ℕ → ℕ
lower value = value % 4096

-- the upper 20 bits of a word, where the lower 12 have a sign
abbrev pub upper : ℕ → ℕ
upper value = (value + 2048) / 4096 % 2 ^ 20

-- the word that is so much below 0
abbrev pub negative : ℕ → ℕ
negative n = (2 ^ 32 - n % 2 ^ 32) % 2 ^ 32

-- a word into a register
abbrev pub constant : (rd value : ℕ) → List Instr
constant rd value = if is_near value then Addi rd 0 (lower value) ∷ [] else Lui rd (upper value) ∷ Addi rd rd (lower value) ∷ []

-- the address of a byte of the data into a register
abbrev pub datum : (rd address : ℕ) → List Instr
datum rd address =
    if is_near ((address + negative statics_at) % 2 ^ 32) then Addi rd 4 (lower ((address + negative statics_at) % 2 ^ 32)) ∷ []
    else constant rd address

-- the sum of a register and a word into a register
abbrev pub sum : (rd from value : ℕ) → List Instr
sum rd from value =
    if is_near value then Addi rd from (lower value) ∷ [] else Lui 5 (upper value) ∷ Addi 5 5 (lower value) ∷ Add rd from 5 ∷ []

-- a register becomes so much more
abbrev pub shift : (rd amount : ℕ) → List Instr
shift rd amount = if amount == 0 then [] else sum rd rd amount

-- the word that is so many bytes from where the frame begins, into a register; and a register into it
abbrev pub load : (rd offset : ℕ) → List Instr
load rd offset = if is_near offset then Lw rd 2 (lower offset) ∷ [] else Lui rd (upper offset) ∷ Add rd rd 2 ∷ Lw rd rd (lower offset) ∷ []

abbrev pub save : (rs offset : ℕ) → List Instr
save rs offset = if is_near offset then Sw 2 rs (lower offset) ∷ [] else Lui 7 (upper offset) ∷ Add 7 7 2 ∷ Sw 7 rs (lower offset) ∷ []

-- a register gets the result of an operation on two
abbrev pub operate : WordOperation → (rd left right : ℕ) → Instr
operate operation.Add rd left right = Add rd left right
operate operation.Subtract rd left right = Sub rd left right
operate operation.Multiply rd left right = Mul rd left right
operate operation.MultiplyHigh rd left right = Mulh rd left right
operate operation.Divide rd left right = Div rd left right
operate operation.Remainder rd left right = Rem rd left right
operate operation.DivideUnsigned rd left right = Divu rd left right
operate operation.RemainderUnsigned rd left right = Remu rd left right
operate operation.And rd left right = And rd left right
operate operation.Or rd left right = Or rd left right
operate operation.Xor rd left right = Xor rd left right
operate operation.ShiftLeft rd left right = Sll rd left right
operate operation.ShiftRight rd left right = Srl rd left right
operate operation.ShiftRightSigned rd left right = Sra rd left right
operate operation.Less rd left right = Slt rd left right
operate operation.Below rd left right = Sltu rd left right

-- a register gets what stands at the address in a register
abbrev pub fetch : Size → (rd address : ℕ) → Instr
fetch size.Byte rd address = Lbu rd address 0
fetch size.Half rd address = Lhu rd address 0
fetch size.Word rd address = Lw rd address 0

-- a register is put to the address in a register
abbrev pub store : Size → (address rs : ℕ) → Instr
store size.Byte address rs = Sb address rs 0
store size.Half address rs = Sh address rs 0
store size.Word address rs = Sw address rs 0

abbrev pub compare : Test → LabelTest
compare test.Equal = label_test.Equal
compare test.Unequal = label_test.Unequal
compare test.Less = label_test.Less
compare test.AtLeast = label_test.AtLeast
compare test.Below = label_test.Below
compare test.NotBelow = label_test.NotBelow

abbrev pub stream_number : Stream → ℕ
stream_number Out = 1
stream_number Err = 2

-- ---- homes

-- the register in which a word is used: its own, or this one
abbrev pub seat : (other : ℕ) → Home → ℕ
seat other (Reg number) = number
seat other (Frame at) = other

-- a word into that register
abbrev pub bring : (other : ℕ) → Home → List Instr
bring other (Reg number) = []
bring other (Frame at) = load other at

-- a word into a register
abbrev pub move : (rd : ℕ) → Home → List Instr
move rd (Reg number) = Addi rd number 0 ∷ []
move rd (Frame at) = load rd at

-- from where it is computed, its own register or x5, to its home
abbrev pub settle : Home → List Instr
settle (Reg number) = []
settle (Frame at) = save 5 at

-- a register to a home
abbrev pub give : (rs : ℕ) → Home → List Instr
give rs (Reg number) = Addi number rs 0 ∷ []
give rs (Frame at) = save rs at

-- how far the argument of that number is from where the frame begins
abbrev pub argument_at : ℕ → ℕ
argument_at index = negative (4 * suc index)

-- how far a byte of a procedure's places, or one behind them, is from where they end
abbrev pub place_at : WordProc → ℕ → ℕ
place_at p at = (at + negative p.room) % 2 ^ 32

-- the address of a byte of a procedure's data
abbrev pub datum_at : WordProc → ℕ → ℕ
datum_at p at = (own_data_at + p.data_from + at) % 2 ^ 32

-- ---- the return address

abbrev pub is_call_or_label : WordInstr → Bool
is_call_or_label (word.Label name) = true
is_call_or_label (word.Call to callee) = true
is_call_or_label line = false

-- there are calls alone, and labels: control comes to no return
abbrev pub only_calls : List WordInstr → Bool
only_calls [] = true
only_calls (line ∷ lines) = is_call_or_label line && only_calls lines

-- Nothing but calls and labels stands behind the first call, if there is one, as where calls end the program by a trap: where a procedure returns,
-- x1 still holds the return address.
abbrev pub is_leaf : List WordInstr → Bool
is_leaf [] = true
is_leaf (line ∷ lines) = if (effect_of line).calls then only_calls lines else is_leaf lines

-- the return address into x1, where a call may have put another one there
abbrev pub restore : (leaf : Bool) → List Instr
restore true = []
restore false = Lw 1 2 0 ∷ []

-- ---- lines

-- behind a call
abbrev pub after_call : Homes → ℕ → List LabelLine → List LabelLine
after_call h to k = does (give 10 (home_of h to)) k

-- two variables into registers, x5 and x6 where they have none
abbrev pub bring_both : Homes → (left right : ℕ) → List LabelLine → List LabelLine
bring_both h left right k = does (bring 5 (home_of h left)) (does (bring 6 (home_of h right)) k)

-- an address and a length into x11 and x12
abbrev pub move_range : Homes → (address len : ℕ) → List LabelLine → List LabelLine
move_range h address len k = does (move 11 (home_of h address)) (does (move 12 (home_of h len)) k)

-- what was computed becomes a variable's
abbrev pub keep : Homes → (to : ℕ) → List LabelLine → List LabelLine
keep h to k = does (settle (home_of h to)) k

-- the register that a variable is computed into
abbrev pub target : Homes → (to : ℕ) → ℕ
target h to = seat 5 (home_of h to)

-- the registers of two variables that were brought
abbrev pub left_of : Homes → (left : ℕ) → ℕ
left_of h left = seat 5 (home_of h left)

abbrev pub right_of : Homes → (right : ℕ) → ℕ
right_of h right = seat 6 (home_of h right)

-- frame and places go
abbrev pub leave_code : Homes → WordProc → List LabelLine → List LabelLine
leave_code h p k = does (sum 2 2 h.frame) (does (shift 3 (negative p.room)) k)

-- the end of a call: the result goes to x10
abbrev pub return_code : Homes → WordProc → (leaf : Bool) → (from : ℕ) → List LabelLine → List LabelLine
return_code h p leaf from k = does (move 10 (home_of h from)) (does (restore leaf) (leave_code h p (Do (Jalr 0 1 0) ∷ k)))

abbrev pub line_code : Homes → WordProc → WordInstr → List LabelLine → List LabelLine
line_code h p (word.Label name) k = Label (Inner p.number name) None ∷ k
line_code h p word.Spend k = k
line_code h p (word.SpendIf test left right) k = k
line_code h p (word.Constant to value) k = does (constant (target h to) value) (keep h to k)
line_code h p (word.Copy to from) k = does (move (target h to) (home_of h from)) (keep h to k)
line_code h p (word.Compute to operation left right) k =
    bring_both h left right (Do (operate operation (target h to) (left_of h left) (right_of h right)) ∷ keep h to k)
line_code h p (word.Sum to from value) k = does (bring 6 (home_of h from)) (does (sum (target h to) (right_of h from) value) (keep h to k))
line_code h p (word.Place to at) k = does (sum (target h to) 3 (place_at p at)) (keep h to k)
line_code h p (word.Datum to at) k = does (datum (target h to) (datum_at p at)) (keep h to k)
line_code h p (word.Load to address size) k =
    does (bring 5 (home_of h address)) (Do (fetch size (target h to) (left_of h address)) ∷ keep h to k)
line_code h p (word.Store address from size) k = bring_both h address from (Do (store size (left_of h address) (right_of h from)) ∷ k)
line_code h p (word.Jump to) k = Jump 0 (Inner p.number to) ∷ k
line_code h p (word.Branch test left right to) k =
    bring_both h left right (Branch (compare test) (left_of h left) (right_of h right) (Inner p.number to) ∷ k)
line_code h p (word.Argument index from) k = does (bring 5 (home_of h from)) (does (save (left_of h from) (argument_at index)) k)
line_code h p (word.Call to callee) k = Jump 1 (Entry callee) ∷ after_call h to k
line_code h p (word.Return from) k = return_code h p (is_leaf p.lines) from k
line_code h p (word.Read to address len) k =
    move_range h address len (Do (Addi 10 0 0) ∷ Do (Addi 17 0 63) ∷ Do Ecall ∷ does (give 10 (home_of h to)) k)
line_code h p (word.Write stream address len) k =
    move_range h address len (Do (Addi 10 0 (stream_number stream)) ∷ Do (Addi 17 0 64) ∷ Do Ecall ∷ k)
line_code h p (word.Exit status) k = does (move 10 (home_of h status)) (Do (Addi 17 0 93) ∷ Do Ecall ∷ k)

abbrev pub lines_code : Homes → WordProc → List WordInstr → List LabelLine → List LabelLine
lines_code h p [] k = k
lines_code h p (line ∷ lines) k = line_code h p line (lines_code h p lines k)

-- ---- procedures

abbrev pub hook_of : ProcKind → Option HookLabel
hook_of kind.Counted = None
hook_of (kind.Hook kind of) = Some (record { kind = kind; of = of })
hook_of kind.Uncounted = None

-- what is done where a procedure begins: its frame and its places are made, and the return address is stored
abbrev pub entry_code : Homes → WordProc → List LabelLine → List LabelLine
entry_code h p k = does (sum 2 2 (negative h.frame)) (does (shift 3 p.room) (Do (Sw 2 1 0) ∷ k))

-- a procedure; behind its last line stands an instruction, so that no line comes to what follows
abbrev pub proc_code : Homes → WordProc → List LabelLine → List LabelLine
proc_code h p k = Label (Entry p.number) (hook_of p.kind) ∷ entry_code h p (lines_code h p p.lines (Do Ebreak ∷ k))

abbrev pub homes_code : List WordProc → List Homes → List LabelLine
homes_code [] homes = []
homes_code (p ∷ procs) [] = []
homes_code (p ∷ procs) (h ∷ homes) = proc_code h p (homes_code procs homes)

-- x4 gets where the data begins, x2 the end of the stack, whose size stands there, and x3 where the stack begins; then the start code begins
abbrev pub start_code : List LabelLine → List LabelLine
start_code k =
    Do (Lui 4 (statics_at / 4096)) ∷ Do (Lw 2 4 4) ∷ Do (Lui 3 (stack_at / 4096)) ∷ Do (Add 2 2 3) ∷ Jump 0 (Entry 0) ∷ k

abbrev pub code_of : List WordProc → List Homes → List LabelLine
code_of procs homes = start_code (homes_code procs homes)
