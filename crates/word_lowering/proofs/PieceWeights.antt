-- What pieces of word code weigh.
use Rattle.std.proofs.Common.{◌≡◌, ℕ, zero, suc, ◌+◌, ◌*◌, ◌≤◌, List, [], ◌∷◌, length, Bool, true, false}
use Rattle.std.proofs.Common.{Option, Some, None, if◌then◌else◌}
use Rattle.std.proofs.Common.{ℤ, pos, ◌-ℤ◌, int_lt, unsigned_abs, refl, sym, ap, subst, arith}
use Rattle.std.specs.Ordering.{int_eq}
use Rattle.std.proofs.lemmas.Bool.Decides.{Decides-int_eq}
use Rattle.nim_program.specs.declared.operation.UnaryOperator.{UnaryOperator}
use Rattle.nim_program.specs.declared.operation.UnaryOperator.TheVariants as unary
use Rattle.nim_program.specs.declared.operation.Operator.{Operator}
use Rattle.nim_program.specs.declared.operation.Operator.TheVariants as binary
use Rattle.nim_program.specs.declared.operation.Comparison.{Comparison}
use Rattle.nim_program.specs.declared.operation.Comparison.TheVariants as comparison
use Rattle.flat_code.specs.declared.line.Piece.{Piece}
use Rattle.flat_code.specs.declared.line.Piece.TheVariants as P
use Rattle.flat_code.specs.Sizes.{piece_weight, pieces_weight}
use Rattle.rv32_isa.specs.declared.micro_op.Size.{Size}
use Rattle.rv32_isa.specs.declared.micro_op.Size.TheVariants.{Byte, Word as whole}
use Rattle.word_code.specs.declared.routine.TheConstants.{SWAP}
use Rattle.word_code.specs.declared.word.Test.TheVariants as test
use Rattle.word_code.specs.declared.word.WordInstr.{WordInstr}
use Rattle.word_code.specs.declared.word.WordInstr.TheVariants.{Constant, Compute, Store, Branch, Argument, Call}
use Rattle.word_code.specs.declared.word.WordOperation.TheVariants as operation
use Rattle.word_lowering.specs.declared.homes.TheConstants.{FIRST, SECOND, THIRD, FOURTH, FIFTH}
use Rattle.word_lowering.specs.declared.homes.Alias.{Alias}
use Rattle.word_lowering.specs.declared.homes.Alias.TheVariants as alias
use Rattle.word_lowering.specs.declared.homes.Home.{Home}
use Rattle.word_lowering.specs.declared.homes.Home.TheVariants.{Variable, Placed, Static}
use Rattle.word_lowering.specs.declared.homes.Housed.{Housed}
use Rattle.word_lowering.specs.declared.spots.Spot.{Spot}
use Rattle.word_lowering.specs.declared.spots.Spot.TheVariants.{Held, Lies, Letter}
use Rattle.heap_memory.specs.declared.numbers.TheConstants.{TEXT_WRITE}
use Rattle.word_lowering.specs.LineCode as lines
use Rattle.word_lowering.specs.Operations as operations
use Rattle.word_lowering.specs.Operations.{word}
use Rattle.word_lowering.specs.RoutineCode.{echo_code}
use Rattle.word_lowering.specs.Spots.{spot_of, shifted, address, moved, passes, cleared, starts, handed}

-- ---- moves and operations

pub moved_weighs : (word : Bool) (bytes : ℕ) (to from : Spot) (k : List WordInstr) → length (moved word bytes to from k) ≤ 7 + length k
moved_weighs word bytes (Held v) (Held u) k = omega arith
moved_weighs word bytes (Held v) (Lies from) k = omega arith
moved_weighs word bytes (Held v) (Letter from) k = omega arith
moved_weighs word bytes (Lies to) (Held u) k = omega arith
moved_weighs word bytes (Letter to) (Held u) k = omega arith
moved_weighs true bytes (Lies to) (Lies from) k = omega arith
moved_weighs false bytes (Lies to) (Lies from) k = omega arith
moved_weighs word bytes (Lies to) (Letter from) k = omega arith
moved_weighs word bytes (Letter to) (Lies from) k = omega arith
moved_weighs word bytes (Letter to) (Letter from) k = omega arith

pub cleared_weighs : (word : Bool) (bytes : ℕ) (to : Spot) (k : List WordInstr) → length (cleared word bytes to k) ≤ 5 + length k
cleared_weighs word bytes (Held v) k = omega arith
cleared_weighs true bytes (Lies to) k = omega arith
cleared_weighs false bytes (Lies to) k = omega arith
cleared_weighs word bytes (Letter to) k = omega arith

pub handed_weighs : (label bytes : ℕ) (from : Spot) (k : List WordInstr) → length (handed label bytes from k) ≤ 10 + length k
handed_weighs label bytes (Held u) k = omega arith
handed_weighs label bytes (Lies from) k = omega arith
handed_weighs label bytes (Letter from) k = omega arith

pub binary_weighs : (label : ℕ) (operator : Operator) (to left right : ℕ) (k : List WordInstr)
    → length (operations.binary_code label operator to left right k) ≤ 8 + length k
binary_weighs label binary.Add to left right k = omega arith
binary_weighs label binary.Subtract to left right k = omega arith
binary_weighs label binary.Multiply to left right k = omega arith
binary_weighs label binary.Divide to left right k = omega arith
binary_weighs label binary.Modulo to left right k = omega arith
binary_weighs label binary.ShiftLeft to left right k = omega arith
binary_weighs label binary.ShiftRight to left right k = omega arith
binary_weighs label binary.BitAnd to left right k = omega arith
binary_weighs label binary.BitOr to left right k = omega arith
binary_weighs label binary.BitXor to left right k = omega arith

pub unary_weighs : (operator : UnaryOperator) (to from : ℕ) (k : List WordInstr) → length (operations.unary_code operator to from k) ≤ 4 + length k
unary_weighs unary.Plus to from k = omega arith
unary_weighs unary.Negate to from k = omega arith
unary_weighs unary.Complement to from k = omega arith
unary_weighs unary.Not to from k = omega arith

pub compare_weighs : (c : Comparison) (to left right : ℕ) (k : List WordInstr) → length (operations.compare_code c to left right k) ≤ 3 + length k
compare_weighs comparison.Equal to left right k = omega arith
compare_weighs comparison.Unequal to left right k = omega arith
compare_weighs comparison.Less to left right k = omega arith
compare_weighs comparison.AtMost to left right k = omega arith
compare_weighs comparison.Greater to left right k = omega arith
compare_weighs comparison.AtLeast to left right k = omega arith

pub fits_weighs : (from to : ℕ) (low high : ℤ) (k : List WordInstr) → length (operations.fits_code from to low high k) ≤ 4 + length k
fits_weighs from to low high k = by (int_lt high low) (int_eq low high)
  where
    by : (b c : Bool) → length (if b then k else if c then Constant FIRST (word low) ∷ Branch test.Equal from FIRST to ∷ k else
        Constant FIRST (word low) ∷ Compute FIRST operation.Subtract from FIRST ∷ Constant SECOND (unsigned_abs (high -ℤ low))
        ∷ Branch test.NotBelow SECOND FIRST to ∷ k) ≤ 4 + length k
    by true c = omega arith
    by false true = omega arith
    by false false = omega arith

pub turn_weighs : (own counter last : ℕ) (inclusive : Bool) (label : ℕ) (k : List WordInstr)
    → length (operations.turn_code own counter last inclusive label k) ≤ 7 + length k
turn_weighs own counter last true label k = omega arith
turn_weighs own counter last false label k = omega arith

pub beyond_weighs : (inclusive : Bool) (counter last label : ℕ) (k : List WordInstr)
    → length (operations.beyond_code inclusive counter last label k) ≤ 1 + length k
beyond_weighs true counter last label k = omega arith
beyond_weighs false counter last label k = omega arith

-- ---- constants: what is zero stands already

zero_word : (z : ℤ) → int_eq z (pos 0) ≡ true → word z ≡ 0
zero_word z e = ap word ((Decides-int_eq z (pos 0)).0 e)

zero_weighs : (to : Home) (n : ℕ) (k : List WordInstr) → length (lines.unless_zero to n k) ≤ 3 + length k
zero_weighs to zero k = omega arith
zero_weighs to (suc n) k = omega arith

word_weighs : (to : Home) (z : ℤ) (k : List WordInstr) → length (lines.unless_zero to (word z) k) ≤ piece_weight (P.Ordinal z) + length k
word_weighs to z k = by (int_eq z (pos 0)) refl
  where
    by : (b : Bool) → int_eq z (pos 0) ≡ b → length (lines.unless_zero to (word z) k) ≤ (if b then 0 else 3) + length k
    by true e = subst (λ n. length (lines.unless_zero to n k) ≤ 0 + length k) (sym (zero_word z e)) (omega arith)
    by false e = zero_weighs to (word z) k

pieces_weigh : (to : Home) (pieces : List Piece) (k : List WordInstr) → length (lines.pieces_code to pieces k) ≤ pieces_weight pieces + length k
pieces_weigh to [] k = omega arith
pieces_weigh to (P.Ordinal z ∷ pieces) k =
    let rest : List WordInstr = lines.pieces_code (shifted 4 to) pieces k in
    let h : length (lines.unless_zero to (word z) rest) ≤ piece_weight (P.Ordinal z) + length rest = word_weighs to z rest in
    let i : length rest ≤ pieces_weight pieces + length k = pieces_weigh (shifted 4 to) pieces k in
    omega (arith, h, i)
pieces_weigh to (P.Parts zero ∷ pieces) k = let i = pieces_weigh (shifted 4 to) pieces k in omega (arith, i)
pieces_weigh to (P.Parts (suc n) ∷ pieces) k = let i = pieces_weigh to pieces k in omega (arith, i)
pieces_weigh to (P.Text text ∷ pieces) k = let i = pieces_weigh to pieces k in omega (arith, i)
pieces_weigh to (P.Nil ∷ pieces) k = let i = pieces_weigh to pieces k in omega (arith, i)
pieces_weigh to (P.Elements n ∷ pieces) k = let i = pieces_weigh to pieces k in omega (arith, i)

pub spot_weighs : (to : Housed) (spot : Spot) (pieces : List Piece) (k : List WordInstr)
    → length (lines.constant_at to spot pieces k) ≤ 5 + pieces_weight pieces + length k
spot_weighs to (Held v) pieces k = omega arith
spot_weighs to (Lies home) pieces k =
    let h = cleared_weighs to.is_word to.bytes (Lies home) (lines.pieces_code home pieces k) in
    let i = pieces_weigh home pieces k in
    omega (arith, h, i)
spot_weighs to (Letter home) pieces k = omega arith

-- ---- addresses, texts and returns

pub part_weighs : (to : ℕ) (home : Home) (at : ℕ) (k : List WordInstr) → length (lines.part_code to home at k) ≤ 2 + length k
part_weighs to (Variable v) at k = omega arith
part_weighs to (Placed from) at k = omega arith
part_weighs to (Static from) at k = omega arith

pub element_weighs : (to : ℕ) (home : Home) (index bytes : ℕ) (k : List WordInstr) → length (lines.element_code to home index bytes k) ≤ 4 + length k
element_weighs to (Variable v) index bytes k = omega arith
element_weighs to (Placed at) index bytes k = omega arith
element_weighs to (Static at) index bytes k = omega arith

pub word_argument_weighs : (index : ℕ) (home : Home) (k : List WordInstr) → length (lines.word_argument index home k) ≤ 2 + length k
word_argument_weighs index (Variable v) k = omega arith
word_argument_weighs index (Placed at) k = omega arith
word_argument_weighs index (Static at) k = omega arith

text_weighs : (at bytes : ℕ) (k : List WordInstr) → length (lines.text_code at bytes k) ≤ 3 + length k
text_weighs at zero k = omega arith
text_weighs at (suc n) k = omega arith

told_weighs : (home : Home) (k : List WordInstr) → length (echo_code home k) ≤ 3 + length k
told_weighs home k = let h = word_argument_weighs 0 home (Call FIRST TEXT_WRITE ∷ k) in omega (arith, h)

pub told_by_weighs : (place : (behind bytes : ℕ) → ℕ) (other : Alias) (home : Home) (k : List WordInstr)
    → length (lines.told_code place other home k) ≤ 12 + length k
told_by_weighs place alias.Own home k = let h = told_weighs home k in omega (arith, h)
told_by_weighs place (alias.Place p global) home k = let h = told_weighs home k in omega (arith, h)
told_by_weighs place (alias.Value t) home k = let h = told_weighs home k in omega (arith, h)
told_by_weighs place (alias.Node n) home k = let h = told_weighs home k in omega (arith, h)
told_by_weighs place (alias.Text behind bytes) home k = let h = text_weighs (place behind bytes) bytes k in omega (arith, h)

pub back_weighs : (word : Bool) (spot : Spot) (k : List WordInstr) → length (lines.back_code word spot k) ≤ 3 + length k
back_weighs word (Held v) k = omega arith
back_weighs true (Lies home) k = omega arith
back_weighs false (Lies home) k = omega arith
back_weighs true (Letter home) k = omega arith
back_weighs false (Letter home) k = omega arith

-- ---- operations

pub parts_weigh : (to : Home) (hs : List Housed) (k : List WordInstr) → length (lines.parts_code to hs k) ≤ 7 * length hs + length k
parts_weigh to [] k = omega arith
parts_weigh to (v ∷ hs) k =
    let rest : List WordInstr = lines.parts_code (shifted v.bytes to) hs k in
    let h : length (moved v.is_word v.bytes (Lies to) (spot_of v) rest) ≤ 7 + length rest = moved_weighs v.is_word v.bytes (Lies to) (spot_of v) rest in
    let i : length rest ≤ 7 * length hs + length k = parts_weigh (shifted v.bytes to) hs k in
    omega (arith, h, i)

pub moves_weigh : (to from : Housed) (k : List WordInstr) → length (moved from.is_word from.bytes (spot_of to) (spot_of from) k) ≤ 7 + length k
moves_weigh to from k = moved_weighs from.is_word from.bytes (spot_of to) (spot_of from) k

pub clears_weigh : (to : Housed) (k : List WordInstr) → length (cleared to.is_word to.bytes (spot_of to) k) ≤ 5 + length k
clears_weigh to k = cleared_weighs to.is_word to.bytes (spot_of to) k

pub passes_weigh : (bytes : ℕ) (to from : Housed) (k : List WordInstr) → length (passes bytes to from k) ≤ 7 + length k
passes_weigh zero to from k = omega arith
passes_weigh (suc n) to from k = moves_weigh to from k

pub starts_weigh : (bytes : ℕ) (to : Housed) (k : List WordInstr) → length (starts bytes to k) ≤ 5 + length k
starts_weigh zero to k = omega arith
starts_weigh (suc n) to k = clears_weigh to k

pub converted_weighs : (limit : Option ℕ) (to from : Housed) (k : List WordInstr) → length (lines.converted_code limit to from k) ≤ 7 + length k
converted_weighs None to from k = moves_weigh to from k
converted_weighs (Some values) to from k = omega arith

put_back_weighs : (label : ℕ) (operator : Operator) (home : Home) (size : Size) (by : ℕ) (k : List WordInstr)
    → length (operations.binary_code label operator FOURTH FOURTH by (address FIRST home ∷ Store FIRST FOURTH size ∷ k)) ≤ 10 + length k
put_back_weighs label operator home size by k =
    let h = binary_weighs label operator FOURTH FOURTH by (address FIRST home ∷ Store FIRST FOURTH size ∷ k) in omega (arith, h)

updated_weighs : (label : ℕ) (operator : Operator) (spot : Spot) (by : ℕ) (k : List WordInstr)
    → length (lines.updated_code label operator spot by k) ≤ 12 + length k
updated_weighs label operator (Held v) by k = let h = binary_weighs label operator v v by k in omega (arith, h)
updated_weighs label operator (Lies home) by k = let h = put_back_weighs label operator home whole by k in omega (arith, h)
updated_weighs label operator (Letter home) by k = let h = put_back_weighs label operator home Byte by k in omega (arith, h)

pub update_weighs : (label : ℕ) (operator : Operator) (hs : List Housed) (k : List WordInstr)
    → length (lines.update_code label operator hs k) ≤ 13 + length k
update_weighs label operator [] k = omega arith
update_weighs label operator (to ∷ []) k = let h = updated_weighs label operator (spot_of to) FIFTH k in omega (arith, h)
update_weighs label operator (to ∷ by ∷ hs) k =
    let h = updated_weighs label operator (spot_of to) (lines.variable_of by) k in omega (arith, h)

pub quit_weighs : (hs : List Housed) (k : List WordInstr) → length (lines.quit_code hs k) ≤ 2 + length k
quit_weighs [] k = omega arith
quit_weighs (status ∷ hs) k = omega arith

pub swap_weighs : (letter : Bool) (left right : Home) (bytes : ℕ) (k : List WordInstr)
    → length (lines.swap_code letter left right bytes k) ≤ 7 + length k
swap_weighs true left right bytes k = omega arith
swap_weighs false left right bytes k =
    let rest : List WordInstr = Constant THIRD bytes ∷ Argument 2 THIRD ∷ Call FIRST SWAP ∷ k in
    let h = word_argument_weighs 1 right rest in
    let i = word_argument_weighs 0 left (lines.word_argument 1 right rest) in
    omega (arith, h, i)
