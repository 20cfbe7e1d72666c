-- The word code by which a line calls a routine on handles, or a hook: addresses and words are handed over, and one call is made. No public contract
-- speaks of it.
use Rattle.std.specs.Prelude.{ℕ, suc, List, [], ◌∷◌}
use Rattle.nim_program.specs.declared.operation.Comparison.{Comparison}
use Rattle.word_code.specs.declared.word.WordInstr.{WordInstr}
use Rattle.word_code.specs.declared.word.WordInstr.TheVariants.{Constant, Argument, Call}
use Rattle.heap_memory.specs.declared.numbers.TheConstants.{TEXT_ORDER, TEXT_WRITE, TEXT_COPY, TEXT_APPEND, TEXT_RESIZE, TEXT_JOIN, TEXT_OF_NUMBER}
use Rattle.heap_memory.specs.declared.numbers.TheConstants.{TEXT_READ, SEQ_NEW, SEQ_ADD, SEQ_RESIZE, SEQ_POP}
use Rattle.word_lowering.specs.declared.homes.TheConstants.{FIRST, FOURTH, FIFTH}
use Rattle.word_lowering.specs.declared.handed.Handed.{Handed}
use Rattle.word_lowering.specs.declared.handed.Handed.TheVariants.{Where, Number}
use Rattle.word_lowering.specs.declared.homes.Home.{Home}
use Rattle.word_lowering.specs.declared.homes.Home.TheVariants.{Variable}
use Rattle.word_lowering.specs.Operations.{compare_code}
use Rattle.word_lowering.specs.Operands.{word_argument}

abbrev pub handed_code : (index : ℕ) → Handed → List WordInstr → List WordInstr
handed_code index (Where home) k = word_argument index home k
handed_code index (Number n) k = Constant FIRST n ∷ Argument index FIRST ∷ k

abbrev pub all_handed : (index : ℕ) → List Handed → List WordInstr → List WordInstr
all_handed index [] k = k
all_handed index (h ∷ hs) k = handed_code index h (all_handed (suc index) hs k)

-- what it gives goes to a variable
abbrev pub called_code : (to number : ℕ) → List Handed → List WordInstr → List WordInstr
called_code to number hs k = all_handed 0 hs (Call to number ∷ k)

-- ---- the rows of texts and sequences, whose operands are handles at homes; a number is in a variable

-- compared as numbers are, with 0
abbrev pub text_compare_code : Comparison → (to : ℕ) → (left right : Home) → List WordInstr → List WordInstr
text_compare_code comparison to left right k =
    called_code FOURTH TEXT_ORDER (Where left ∷ Where right ∷ []) (Constant FIFTH 0 ∷ compare_code comparison to FOURTH FIFTH k)

abbrev pub echo_code : Home → List WordInstr → List WordInstr
echo_code from k = called_code FIRST TEXT_WRITE (Where from ∷ []) k

abbrev pub copy_code : (to from : Home) → List WordInstr → List WordInstr
copy_code to from k = called_code FIRST TEXT_COPY (Where to ∷ Where from ∷ []) k

abbrev pub join_code : (to left right : Home) → List WordInstr → List WordInstr
join_code to left right k = called_code FIRST TEXT_JOIN (Where to ∷ Where left ∷ Where right ∷ []) k

abbrev pub show_code : (to : Home) → (number : ℕ) → List WordInstr → List WordInstr
show_code to number k = called_code FIRST TEXT_OF_NUMBER (Where to ∷ Where (Variable number) ∷ []) k

abbrev pub append_code : (to from : Home) → List WordInstr → List WordInstr
append_code to from k = called_code FIRST TEXT_APPEND (Where to ∷ Where from ∷ []) k

abbrev pub text_length_code : (to : Home) → (length : ℕ) → List WordInstr → List WordInstr
text_length_code to length k = called_code FIRST TEXT_RESIZE (Where to ∷ Where (Variable length) ∷ []) k

abbrev pub read_code : (to : ℕ) → Home → List WordInstr → List WordInstr
read_code to line k = called_code to TEXT_READ (Where line ∷ []) k

abbrev pub new_code : (to : Home) → (length size : ℕ) → List WordInstr → List WordInstr
new_code to length size k = called_code FIRST SEQ_NEW (Where to ∷ Where (Variable length) ∷ Number size ∷ []) k

-- the address of the element comes to a variable
abbrev pub add_code : (address : ℕ) → Home → (size : ℕ) → List WordInstr → List WordInstr
add_code address to size k = called_code address SEQ_ADD (Where to ∷ Number size ∷ []) k

abbrev pub length_code : (to : Home) → (length size : ℕ) → List WordInstr → List WordInstr
length_code to length size k = called_code FIRST SEQ_RESIZE (Where to ∷ Where (Variable length) ∷ Number size ∷ []) k

abbrev pub pop_code : (address : ℕ) → Home → (size : ℕ) → List WordInstr → List WordInstr
pop_code address from size k = called_code address SEQ_POP (Where from ∷ Number size ∷ []) k
