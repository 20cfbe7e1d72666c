-- The code of the routines on handles. No public contract speaks of it.
use Rattle.std.specs.Prelude.{ℕ, List, [], ◌∷◌}
use Rattle.arc_base.specs.declared.outside.Stream.TheVariants.{Out}
use Rattle.rv32_isa.specs.declared.micro_op.Size.TheVariants.{Word as whole}
use Rattle.word_code.specs.declared.word.WordOperation.TheVariants as operation
use Rattle.word_code.specs.declared.word.Test.TheVariants as test
use Rattle.word_code.specs.declared.word.WordInstr.{WordInstr}
use Rattle.word_code.specs.declared.word.WordInstr.TheVariants.{Label, Constant, Copy, Sum, Compute, Datum, Load, Store, Branch, Argument, Call, Return}
use Rattle.word_code.specs.declared.word.WordInstr.TheVariants.{Write}
use Rattle.heap_memory.specs.declared.numbers.TheConstants.{GROW, ORDER, APPEND, JOIN, RESIZE, RELEASE, DIGITS, READ_LINE, HEAP_DATA, HEAP_SCRATCH}
use Rattle.refc_runtime.specs.declared.routines.TheConstants.{ONE_LESS}

-- the length and the place that stand at an address
abbrev pub handle_lines : (long place at : ℕ) → List WordInstr → List WordInstr
handle_lines long place at k = Load long at whole ∷ Sum place at 4 ∷ Load place place whole ∷ k

-- the length in 2 and the place in 3 come to the address in 0
abbrev pub put_handle_lines : List WordInstr → List WordInstr
put_handle_lines k = Store 0 2 whole ∷ Sum 4 0 4 ∷ Store 4 3 whole ∷ k

-- and nothing is left to do
abbrev pub put_last_lines : List WordInstr
put_last_lines = put_handle_lines (Return 3 ∷ [])

-- the text at the address in 1 comes behind one whose length is in 4 and whose place is in 5
abbrev pub append_behind_lines : List WordInstr
append_behind_lines =
    Argument 0 5 ∷ Argument 1 4 ∷ Argument 2 3 ∷ Argument 3 2 ∷ Compute 2 operation.Add 4 2 ∷ Call 3 APPEND ∷ put_last_lines

abbrev pub text_append_lines : List WordInstr
text_append_lines = handle_lines 2 3 1 (handle_lines 4 5 0 append_behind_lines)

abbrev pub text_copy_lines : List WordInstr
text_copy_lines = handle_lines 2 3 1 (Constant 4 0 ∷ Constant 5 0 ∷ append_behind_lines)

abbrev pub text_join_lines : List WordInstr
text_join_lines =
    handle_lines 4 5 1
    (handle_lines 6 7 2
    (Compute 2 operation.Add 4 6 ∷ Argument 0 5 ∷ Argument 1 4 ∷ Argument 2 7 ∷ Argument 3 6 ∷ Call 3 JOIN ∷ put_last_lines))

-- the digits stand at the end of the scratch bytes, from the place in 3 on
abbrev pub text_of_number_lines : List WordInstr
text_of_number_lines =
    Datum 4 HEAP_SCRATCH
    ∷ Argument 0 1
    ∷ Argument 1 4
    ∷ Call 3 DIGITS
    ∷ Datum 4 HEAP_DATA
    ∷ Compute 2 operation.Subtract 4 3
    ∷ Constant 4 0
    ∷ Constant 5 0
    ∷ append_behind_lines

-- What is read is in 5, and the place of the text before in 6.
abbrev pub text_read_lines : List WordInstr
text_read_lines =
    Sum 6 0 4
    ∷ Load 6 6 whole
    ∷ Datum 1 HEAP_SCRATCH
    ∷ Argument 0 1
    ∷ Call 5 READ_LINE
    ∷ Constant 4 0
    ∷ Branch test.Equal 5 4 0
    ∷ Argument 0 6
    ∷ Call 6 RELEASE
    ∷ handle_lines 2 3 1 (put_handle_lines (Label 0 ∷ Return 5 ∷ []))

abbrev pub text_resize_lines : List WordInstr
text_resize_lines = handle_lines 4 5 0 (Argument 0 5 ∷ Argument 1 4 ∷ Argument 2 1 ∷ Copy 2 1 ∷ Call 3 RESIZE ∷ put_last_lines)

abbrev pub text_order_lines : List WordInstr
text_order_lines =
    handle_lines 2 3 1 (handle_lines 4 5 0 (Argument 0 5 ∷ Argument 1 4 ∷ Argument 2 3 ∷ Argument 3 2 ∷ Call 3 ORDER ∷ Return 3 ∷ []))

abbrev pub text_write_lines : List WordInstr
text_write_lines = handle_lines 4 5 0 (Write Out 5 4 ∷ Return 5 ∷ [])

-- ---- sequences

-- as many bytes as the elements have whose count is in 1, each of which has as many as 2 says; where no size holds them, more than any size does
abbrev pub bytes_lines : List WordInstr → List WordInstr
bytes_lines k =
    Constant 6 16777208
    ∷ Compute 5 operation.DivideUnsigned 6 2
    ∷ Constant 6 16777209
    ∷ Branch test.Below 5 1 0
    ∷ Compute 6 operation.Multiply 1 2
    ∷ Label 0
    ∷ k

-- of a sequence whose count is in 3 and whose place is in 4
abbrev pub sequence_to_lines : List WordInstr
sequence_to_lines =
    bytes_lines
    (Compute 3 operation.Multiply 3 2 ∷ Argument 0 4 ∷ Argument 1 3 ∷ Argument 2 6 ∷ Copy 2 1 ∷ Call 3 RESIZE ∷ put_last_lines)

abbrev pub seq_resize_lines : List WordInstr
seq_resize_lines = handle_lines 3 4 0 sequence_to_lines

abbrev pub seq_new_lines : List WordInstr
seq_new_lines = Constant 3 0 ∷ Constant 4 0 ∷ sequence_to_lines

-- of the address in 0 and the bytes of an element, which 1 says; the address of the new one is given
abbrev pub seq_add_lines : List WordInstr
seq_add_lines =
    handle_lines 4 5 0
    (Compute 6 operation.Multiply 4 1 ∷ Compute 7 operation.Add 6 1 ∷ Sum 2 4 1 ∷ Argument 0 5 ∷ Argument 1 6 ∷ Argument 2 7 ∷ Call 3 GROW
    ∷ put_handle_lines (Compute 3 operation.Add 3 6 ∷ Return 3 ∷ []))

abbrev pub seq_pop_lines : List WordInstr
seq_pop_lines =
    handle_lines 4 5 0
    (Sum 4 4 ONE_LESS ∷ Store 0 4 whole ∷ Compute 4 operation.Multiply 4 1 ∷ Compute 5 operation.Add 5 4 ∷ Return 5 ∷ [])
