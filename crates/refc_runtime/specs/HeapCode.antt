-- The code of the heap's routines and its data. No public contract speaks of it.
use Rattle.std.specs.Prelude.{ℕ, List, [], ◌∷◌, ◌++◌, length, replicate}
use Rattle.rv32_isa.specs.declared.micro_op.Size.TheVariants.{Word as whole}
use Rattle.rv32_isa.specs.Image.{statics_at, heap_at}
use Rattle.rv32_isa.specs.Words.{word_bytes}
use Rattle.nim_program.specs.Traps.{OutOfMemory}
use Rattle.nim_meaning.specs.Heap.{size_count}
use Rattle.word_code.specs.declared.word.WordCode.{WordCode}
use Rattle.word_code.specs.declared.word.WordOperation.TheVariants as operation
use Rattle.word_code.specs.declared.word.Test.TheVariants as test
use Rattle.word_code.specs.declared.word.WordInstr.{WordInstr}
use Rattle.word_code.specs.declared.word.WordInstr.TheVariants.{Label, Constant, Copy, Sum, Compute, Datum, Load, Store, Branch, Return}
use Rattle.word_code.specs.declared.word.WordProc.{WordProc}
use Rattle.word_code.specs.RoutineTable.{trap_line}
use Rattle.heap_memory.specs.declared.numbers.TheConstants.{TAKE, GIVE, CLASS, HEAP_WORD_BYTES}
use Rattle.refc_runtime.specs.declared.heap.TheConstants.{HEADER_LESS, KIND_LESS}
use Rattle.heap_memory.specs.declared.numbers.TheConstants.{MOVE, GROW, ORDER}
use Rattle.heap_memory.specs.declared.numbers.TheConstants.{RELEASE, APPEND, RESIZE, DIGITS}
use Rattle.heap_memory.specs.declared.numbers.TheConstants.{READ_LINE, JOIN, TEXT_JOIN, TEXT_OF_NUMBER, TEXT_READ}
use Rattle.heap_memory.specs.declared.numbers.TheConstants.{TEXT_ORDER, TEXT_WRITE, TEXT_COPY, TEXT_APPEND, TEXT_RESIZE, SEQ_NEW, SEQ_ADD, SEQ_RESIZE, SEQ_POP}
use Rattle.refc_runtime.specs.Code.{routine, digits_lines, ending_lines}
use Rattle.refc_runtime.specs.TextCode.{move_lines, grow_lines, order_lines}
use Rattle.refc_runtime.specs.LineCode.{release_lines, append_lines, join_lines, resize_lines}
use Rattle.refc_runtime.specs.InputCode.{read_lines}
use Rattle.refc_runtime.specs.HandleCode.{text_order_lines, text_write_lines, text_copy_lines, text_append_lines, text_resize_lines}
use Rattle.refc_runtime.specs.HandleCode.{text_join_lines, text_of_number_lines, text_read_lines}
use Rattle.refc_runtime.specs.HandleCode.{seq_new_lines, seq_add_lines, seq_resize_lines, seq_pop_lines}
use Rattle.heap_memory.specs.HeapRoutines.{class_word}

abbrev pub full_lines : List WordInstr
full_lines = Label 1 ∷ ending_lines HEAP_WORD_BYTES (length (trap_line OutOfMemory))

-- The next bytes are taken. The place of the size is 4, and it has so often 8 bytes as the 4th power of two says; what is left of the heap is 3.
abbrev pub next_lines : List WordInstr
next_lines =
    Label 0
    ∷ Datum 1 0
    ∷ Load 2 1 whole
    ∷ Constant 3 statics_at
    ∷ Load 3 3 whole
    ∷ Sum 3 3 heap_at
    ∷ Compute 3 operation.Subtract 3 2
    ∷ Constant 4 2
    ∷ Compute 4 operation.ShiftRight 0 4
    ∷ Constant 5 8
    ∷ Compute 5 operation.ShiftLeft 5 4
    ∷ Branch test.Below 3 5 1
    ∷ Sum 4 4 128
    ∷ Store 2 4 whole
    ∷ Compute 5 operation.Add 5 2
    ∷ Store 1 5 whole
    ∷ Sum 2 2 8
    ∷ Return 2
    ∷ full_lines

-- the first free block is taken, which is at the place in 2
abbrev pub free_lines : List WordInstr
free_lines =
    Load 3 2 whole
    ∷ Store 1 3 whole
    ∷ Sum 3 2 HEADER_LESS
    ∷ Load 4 3 whole
    ∷ Sum 4 4 128
    ∷ Store 3 4 whole
    ∷ Return 2
    ∷ next_lines

-- Variable 0 says the size. In 1 is where the place of its first free block stands, and in 2 that place. No block stands below the data.
abbrev pub take_lines : List WordInstr
take_lines =
    Datum 1 0
    ∷ Compute 1 operation.Add 1 0
    ∷ Load 2 1 whole
    ∷ Branch test.Below 2 1 0
    ∷ free_lines

-- The block at the place in variable 0 becomes the first free one of its size, which is in 3.
abbrev pub give_lines : List WordInstr
give_lines =
    Copy 1 0
    ∷ Sum 2 1 HEADER_LESS
    ∷ Load 3 2 whole
    ∷ Sum 3 3 KIND_LESS
    ∷ Store 2 3 whole
    ∷ Compute 3 operation.Add 3 3
    ∷ Compute 3 operation.Add 3 3
    ∷ Datum 4 0
    ∷ Compute 4 operation.Add 4 3
    ∷ Load 5 4 whole
    ∷ Store 1 5 whole
    ∷ Store 4 1 whole
    ∷ Return 1
    ∷ []

-- Of a payload in variable 0: in 1 is what says the size, in 2 are the bytes with a header, and in 3 is the size.
abbrev pub class_lines : List WordInstr
class_lines =
    Constant 1 4
    ∷ Constant 2 16777208
    ∷ Branch test.Below 2 0 2
    ∷ Sum 2 0 8
    ∷ Constant 3 16
    ∷ Branch test.NotBelow 3 2 1
    ∷ Label 0
    ∷ Compute 3 operation.Add 3 3
    ∷ Sum 1 1 4
    ∷ Branch test.Below 3 2 0
    ∷ Label 1
    ∷ Return 1
    ∷ Label 2
    ∷ Constant 1 (class_word size_count)
    ∷ Return 1
    ∷ []

abbrev pub heap_routines : List WordProc
heap_routines =
    routine TAKE 1 6 take_lines
    ∷ routine GIVE 1 6 give_lines
    ∷ routine CLASS 1 4 class_lines
    ∷ routine MOVE 3 7 move_lines
    ∷ routine GROW 3 6 grow_lines
    ∷ routine ORDER 4 8 order_lines
    ∷ routine RELEASE 1 2 release_lines
    ∷ routine APPEND 4 6 append_lines
    ∷ routine RESIZE 3 7 resize_lines
    ∷ routine DIGITS 2 7 digits_lines
    ∷ routine READ_LINE 1 9 read_lines
    ∷ routine JOIN 4 6 join_lines
    ∷ routine TEXT_ORDER 2 6 text_order_lines
    ∷ routine TEXT_WRITE 1 6 text_write_lines
    ∷ routine TEXT_COPY 2 6 text_copy_lines
    ∷ routine TEXT_APPEND 2 6 text_append_lines
    ∷ routine TEXT_RESIZE 2 6 text_resize_lines
    ∷ routine TEXT_JOIN 3 8 text_join_lines
    ∷ routine TEXT_OF_NUMBER 2 6 text_of_number_lines
    ∷ routine TEXT_READ 1 7 text_read_lines
    ∷ routine SEQ_NEW 3 7 seq_new_lines
    ∷ routine SEQ_ADD 2 8 seq_add_lines
    ∷ routine SEQ_RESIZE 3 7 seq_resize_lines
    ∷ routine SEQ_POP 2 6 seq_pop_lines
    ∷ []

-- the heap's words, where no block was taken, the line of the trap up to a whole number of words, and scratch bytes
abbrev pub heap_statics : List ℕ
heap_statics = word_bytes heap_at ++ (replicate 88 0 ++ (trap_line OutOfMemory ++ replicate 15 0))

abbrev pub heap_code : WordCode
heap_code = record { procs = heap_routines; statics = heap_statics }
