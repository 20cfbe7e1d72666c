-- The code of operations on texts and sequences stands before what follows.
use Rattle.std.proofs.Common.{◌≡◌, inl, inr, ℕ, suc, ◌+◌, ◌<◌, ◌≤◌, List, [], ◌∷◌, Option, Some, None, Bool, true, false, length, refl, arith}
use Rattle.std.specs.Prelude.{if◌then◌else◌, nat_lt}
use Rattle.std.proofs.lemmas.Bool.{ltb-false}
use Rattle.nim_types.specs.declared.types.TypeDef.{TypeDef}
use Rattle.nim_types.specs.declared.types.TypeDef.TheVariants as D
use Rattle.nim_program.specs.declared.operation.Comparison.{Comparison}
use Rattle.nim_program.specs.declared.operation.Measure.{Measure}
use Rattle.nim_program.specs.declared.operation.Measure.TheVariants.{High, Len}
use Rattle.nim_program.specs.Traps.{IndexOutOfBounds}
use Rattle.heap_memory.specs.declared.numbers.TheConstants.{SEQ_ADD, SEQ_NEW, SEQ_POP, SEQ_RESIZE, TEXT_APPEND, TEXT_COPY, TEXT_JOIN, TEXT_OF_NUMBER}
use Rattle.heap_memory.specs.declared.numbers.TheConstants.{TEXT_ORDER, TEXT_READ, TEXT_RESIZE, TEXT_WRITE}
use Rattle.rv32_isa.specs.declared.micro_op.Size.TheVariants.{Byte, Word as whole}
use Rattle.word_code.specs.declared.word.Test.TheVariants as test
use Rattle.word_code.specs.declared.word.WordOperation.TheVariants as operation
use Rattle.word_code.specs.declared.word.WordInstr.TheVariants.{Branch, Call, Compute, Constant, Datum, Jump, Label, Load, Store, Sum}
use Rattle.word_lowering.specs.declared.handed.TheConstants.{LEFT_HANDLE_AT, RIGHT_HANDLE_AT}
use Rattle.word_lowering.specs.declared.handed.Handed.{Handed}
use Rattle.word_lowering.specs.declared.handed.Handed.TheVariants.{Number, Where}
use Rattle.word_lowering.specs.declared.homes.TheConstants.{FIFTH, FIRST, FOURTH, SECOND}
use Rattle.word_lowering.specs.declared.homes.Alias.{Alias}
use Rattle.word_lowering.specs.declared.homes.Alias.TheVariants as alias
use Rattle.word_lowering.specs.declared.homes.Home.{Home}
use Rattle.word_lowering.specs.declared.homes.Home.TheVariants.{Placed, Static, Variable}
use Rattle.word_lowering.specs.declared.homes.Housed.{Housed}
use Rattle.word_lowering.specs.declared.spots.Spot.TheVariants.{Held, Lies}
use Rattle.word_lowering.specs.Operands.{Around, operand_at, one_less, text_at, variable_of, word_argument}
use Rattle.word_lowering.specs.OwnedCode as owned
use Rattle.word_lowering.specs.RoutineCode.{all_handed, append_code, called_code, copy_code, handed_code, join_code, length_code, new_code, read_code}
use Rattle.word_lowering.specs.RoutineCode.{show_code}
use Rattle.word_lowering.specs.RoutineCode.{echo_code, pop_code, text_compare_code, text_length_code}
use Rattle.word_lowering.specs.Operations.{compare_code, trap_label}
use Rattle.word_lowering.specs.Spots.{address, moved, shifted, spot_of}
use Rattle.word_lowering.specs.Stored.{base_at, entry_at}
use Rattle.word_lowering.proofs.Fronts.{Coding, IsFront, compare_front, front_address, front_if, front_more, front_none, front_on, moved_front}

module _ (own many : ℕ) where
  -- ---- calls at addresses

  pub word_argument_front : (index : ℕ) (home : Home) → IsFront own many (word_argument index home)
  word_argument_front index (Variable v) = record { is = λ k. refl; fine = tt }
  word_argument_front index (Placed at) = record { is = λ k. refl; fine = tt }
  word_argument_front index (Static at) = record { is = λ k. refl; fine = tt }

  handed_one_front : (index : ℕ) (h : Handed) → IsFront own many (handed_code index h)
  handed_one_front index (Where home) = word_argument_front index home
  handed_one_front index (Number n) = record { is = λ k. refl; fine = tt }

  all_front : (index : ℕ) (hs : List Handed) → IsFront own many (all_handed index hs)
  all_front index [] = front_none own many
  all_front index (h ∷ hs) = front_on own many (handed_code index h) (all_handed (suc index) hs) (handed_one_front index h) (all_front (suc index) hs)

  pub called_front : (to number : ℕ) (hs : List Handed) → IsFront own many (called_code to number hs)
  called_front to number hs =
      front_on own many (all_handed 0 hs) (λ k. Call to number ∷ k) (all_front 0 hs) (record { is = λ k. refl; fine = tt })

  -- a call, and then other code
  called_on : (to number : ℕ) (hs : List Handed) (f : Coding) → IsFront own many f → IsFront own many (λ k. called_code to number hs (f k))
  called_on to number hs f y = front_on own many (called_code to number hs) f (called_front to number hs) y

  pub told_front : (from : Home) → IsFront own many (echo_code from)
  told_front from = called_front FIRST TEXT_WRITE (Where from ∷ [])

  -- where operands lack nothing stands
  pub enough_front : (n : ℕ) (hs : List Housed) (f : Coding) → IsFront own many f → IsFront own many (λ k. owned.with_operands n hs (f k) k)
  enough_front n hs f y = front_if own many (nat_lt (length hs) n) (λ k. k) f (front_none own many) y

  pub front_enough : (n : ℕ) (hs : List Housed) (f : Coding) → (n ≤ length hs → IsFront own many f)
      → IsFront own many (λ k. owned.with_operands n hs (f k) k)
  front_enough n hs f y = by (nat_lt (length hs) n) refl
    where
      by : (b : Bool) → nat_lt (length hs) n ≡ b → IsFront own many (λ k. if b then k else f k)
      by true e = front_none own many
      by false e = y (ltb-false (length hs) n e)

  -- ---- checks

  counted_on : (n : ℕ) (f : Coding) → IsFront own many f → IsFront own many (λ k. owned.counted_code n (f k))
  counted_on n f y = front_on own many (owned.counted_code n) f (record { is = λ k. refl; fine = (inl (omega arith), tt) }) y

  filled_on : (from : Home) (f : Coding) → IsFront own many f → IsFront own many (λ k. owned.filled_code from (f k))
  filled_on from f y =
      front_on own many (owned.filled_code from) f (front_address own many FIRST from
      (λ k. Load FIRST FIRST whole ∷ Constant SECOND 0 ∷ Branch test.Equal FIRST SECOND (trap_label IndexOutOfBounds) ∷ k)
      (record { is = λ k. refl; fine = (inl (omega arith), tt) })) y

  -- ---- rows

  pub measured_front : (measure : Measure) (to : ℕ) (from : Home) → IsFront own many (owned.measured_code measure to from)
  measured_front Len to from = front_address own many FIRST from (λ k. Load to FIRST whole ∷ k) (record { is = λ k. refl; fine = tt })
  measured_front High to from =
      front_address own many FIRST from (λ k. Load FIRST FIRST whole ∷ Sum to FIRST one_less ∷ k) (record { is = λ k. refl; fine = tt })

  elements_front : (size : ℕ) (hs : List Housed) → IsFront own many (owned.elements_code size hs)
  elements_front size [] = front_none own many
  elements_front size (h ∷ hs) =
      front_on own many (moved h.is_word h.bytes (Lies (Variable FIFTH)) (spot_of h)) (λ k. Sum FIFTH FIFTH size ∷ owned.elements_code size hs k)
      (moved_front own many h.is_word h.bytes (Lies (Variable FIFTH)) (spot_of h))
      (front_more own many (Sum FIFTH FIFTH size) (owned.elements_code size hs) refl (elements_front size hs))

  pub sequence_front : (to : Home) (size : ℕ) (hs : List Housed) → IsFront own many (owned.sequence_code to size hs)
  sequence_front to size hs =
      called_on FIRST SEQ_NEW (Where to ∷ Number (length hs) ∷ Number size ∷ [])
      (λ k. address FIFTH to ∷ Sum FIFTH FIFTH 4 ∷ Load FIFTH FIFTH whole ∷ owned.elements_code size hs k)
      (front_address own many FIFTH to (λ k. Sum FIFTH FIFTH 4 ∷ Load FIFTH FIFTH whole ∷ owned.elements_code size hs k)
      (front_more own many (Sum FIFTH FIFTH 4) (λ k. Load FIFTH FIFTH whole ∷ owned.elements_code size hs k) refl
      (front_more own many (Load FIFTH FIFTH whole) (owned.elements_code size hs) refl (elements_front size hs))))

  pub new_front : (to : Home) (n size : ℕ) → IsFront own many (λ k. owned.counted_code n (new_code to n size k))
  new_front to n size = counted_on n (new_code to n size) (called_front FIRST SEQ_NEW (Where to ∷ Where (Variable n) ∷ Number size ∷ []))

  pub added_front : (to : Home) (size : ℕ) (from : Housed) → IsFront own many (owned.added_code to size from)
  added_front to size from =
      called_on FIFTH SEQ_ADD (Where to ∷ Number size ∷ []) (moved from.is_word from.bytes (Lies (Variable FIFTH)) (spot_of from))
      (moved_front own many from.is_word from.bytes (Lies (Variable FIFTH)) (spot_of from))

  pub popped_front : (to : Housed) (from : Home) (size : ℕ) → IsFront own many (owned.popped_code to from size)
  popped_front to from size =
      filled_on from (λ k. pop_code FIFTH from size (moved to.is_word to.bytes (spot_of to) (Lies (Variable FIFTH)) k))
      (called_on FIFTH SEQ_POP (Where from ∷ Number size ∷ []) (moved to.is_word to.bytes (spot_of to) (Lies (Variable FIFTH)))
      (moved_front own many to.is_word to.bytes (spot_of to) (Lies (Variable FIFTH))))

  pub read_front : (to : ℕ) (line : Home) → IsFront own many (read_code to line)
  read_front to line = called_front to TEXT_READ (Where line ∷ [])

  -- ---- elements

  pub owned_item_front : (to : ℕ) (from : Home) (index size : ℕ) → IsFront own many (owned.owned_item_code to from index size)
  owned_item_front to from index size =
      front_address own many SECOND from
      (λ k. Load FIRST SECOND whole ∷ Branch test.NotBelow index FIRST (trap_label IndexOutOfBounds)
      ∷ Sum SECOND SECOND 4 ∷ Load SECOND SECOND whole
      ∷ Constant FIRST size ∷ Compute FIRST operation.Multiply index FIRST ∷ Compute to operation.Add SECOND FIRST
      ∷ k)
      (record { is = λ k. refl; fine = (inl (omega arith), tt) })

  pub owned_element_front : (to : ℕ) (from : Home) (index size : ℕ) → IsFront own many (owned.owned_element_code to from index size)
  owned_element_front to from index size =
      front_address own many SECOND from
      (λ k. Sum SECOND SECOND 4 ∷ Load SECOND SECOND whole
      ∷ Constant FIRST size ∷ Compute FIRST operation.Multiply index FIRST ∷ Compute to operation.Add SECOND FIRST
      ∷ k)
      (record { is = λ k. refl; fine = tt })

  pub element_read_front : (text : Bool) (to : Housed) → IsFront own many (owned.element_read text to)
  element_read_front true to =
      front_more own many (Load FIRST FIFTH Byte) (moved true to.bytes (spot_of to) (Held FIRST)) refl
      (moved_front own many true to.bytes (spot_of to) (Held FIRST))
  element_read_front false to = moved_front own many to.is_word to.bytes (spot_of to) (Lies (Variable FIFTH))

  -- ---- handles of operands

  module _ (x : Around) where
    literal_front : (at : ℕ) (other : Alias) → IsFront own many (owned.literal_text x at other)
    literal_front at alias.Own = front_none own many
    literal_front at (alias.Place p global) = front_none own many
    literal_front at (alias.Value t) = front_none own many
    literal_front at (alias.Node n) = front_none own many
    literal_front at (alias.Text behind bytes) = record { is = λ k. refl; fine = tt }

    entry_front : (at : ℕ) (entry : Option TypeDef) (from : Housed) → IsFront own many (owned.entry_text x at entry from)
    entry_front at None from = front_none own many
    entry_front at (Some D.Int) from = front_none own many
    entry_front at (Some D.Bool) from = front_none own many
    entry_front at (Some D.Char) from = record { is = λ k. refl; fine = tt }
    entry_front at (Some D.Text) from = literal_front at from.alias
    entry_front at (Some (D.Enum name place members)) from = front_none own many
    entry_front at (Some (D.Seq i)) from = front_none own many
    entry_front at (Some (D.Param n)) from = front_none own many
    entry_front at (Some (D.Array n i)) from = front_none own many
    entry_front at (Some (D.Tuple names is)) from = front_none own many
    entry_front at (Some (D.Object name place is all own_hooks parts)) from = front_none own many
    entry_front at (Some (D.Distinct name place i)) from = front_none own many
    entry_front at (Some (D.Ref name i)) from = front_none own many
    entry_front at (Some (D.Exception name place parent)) from = front_none own many

    name_front : (at : ℕ) (entry : Option TypeDef) (enum : ℕ) (from : Housed) → IsFront own many (owned.name_text x at entry enum from)
    name_front at None enum from = record { is = λ k. refl; fine = tt }
    name_front at (Some D.Int) enum from = record { is = λ k. refl; fine = tt }
    name_front at (Some D.Bool) enum from = record { is = λ k. refl; fine = tt }
    name_front at (Some D.Char) enum from = record { is = λ k. refl; fine = tt }
    name_front at (Some D.Text) enum from = literal_front at from.alias
    name_front at (Some (D.Enum name place members)) enum from = record { is = λ k. refl; fine = tt }
    name_front at (Some (D.Seq i)) enum from = record { is = λ k. refl; fine = tt }
    name_front at (Some (D.Param n)) enum from = record { is = λ k. refl; fine = tt }
    name_front at (Some (D.Array n i)) enum from = record { is = λ k. refl; fine = tt }
    name_front at (Some (D.Tuple names is)) enum from = record { is = λ k. refl; fine = tt }
    name_front at (Some (D.Object name place is all own_hooks parts)) enum from = record { is = λ k. refl; fine = tt }
    name_front at (Some (D.Distinct name place i)) enum from = record { is = λ k. refl; fine = tt }
    name_front at (Some (D.Ref name i)) enum from = record { is = λ k. refl; fine = tt }
    name_front at (Some (D.Exception name place parent)) enum from = record { is = λ k. refl; fine = tt }

    -- a copy of a literal
    pub text_copied_front : (to : Home) (text : List ℕ) → IsFront own many (owned.text_copy_code x to text)
    text_copied_front to text =
        front_on own many
        (λ k. Datum FIRST (text_at x text) ∷ Constant SECOND (length text) ∷ owned.handle_code LEFT_HANDLE_AT k) (copy_code to (Static LEFT_HANDLE_AT))
        (record { is = λ k. refl; fine = tt }) (called_front FIRST TEXT_COPY (Where to ∷ Where (Static LEFT_HANDLE_AT) ∷ []))

    -- the handle of one that is only read
    handle_put_front : (to : Home) (text : List ℕ) → IsFront own many (λ k. address FIRST to ∷ Constant SECOND (length text) ∷ Store FIRST SECOND whole
        ∷ address FIRST (shifted 4 to) ∷ Datum SECOND (text_at x text) ∷ Store FIRST SECOND whole ∷ k)
    handle_put_front to text =
        front_on own many (λ k. address FIRST to ∷ Constant SECOND (length text) ∷ Store FIRST SECOND whole ∷ k)
        (λ k. address FIRST (shifted 4 to) ∷ Datum SECOND (text_at x text) ∷ Store FIRST SECOND whole ∷ k)
        (front_address own many FIRST to (λ k. Constant SECOND (length text) ∷ Store FIRST SECOND whole ∷ k) (record { is = λ k. refl; fine = tt }))
        (front_address own many FIRST (shifted 4 to) (λ k. Datum SECOND (text_at x text) ∷ Store FIRST SECOND whole ∷ k)
        (record { is = λ k. refl; fine = tt }))

    pub lent_text_front : (other : Alias) (to : Home) (text : List ℕ) → IsFront own many (owned.lent_text_code x other to text)
    lent_text_front alias.Own to text = handle_put_front to text
    lent_text_front (alias.Place p global) to text = handle_put_front to text
    lent_text_front (alias.Value t) to text = handle_put_front to text
    lent_text_front (alias.Node n) to text = handle_put_front to text
    lent_text_front (alias.Text behind bytes) to text = front_none own many

    -- a text is a label
    pub text_fits_front : (text : List ℕ) (from : Housed) (to : ℕ) → 7 < to
        → IsFront own many (λ k. owned.literal_text x RIGHT_HANDLE_AT from.alias (owned.text_fits_code (text_at x text) (length text)
        (owned.literal_home RIGHT_HANDLE_AT from.alias from.home) to k))
    text_fits_front text from to far =
        front_on own many (owned.literal_text x RIGHT_HANDLE_AT from.alias)
        (owned.text_fits_code (text_at x text) (length text) (owned.literal_home RIGHT_HANDLE_AT from.alias from.home) to)
        (literal_front RIGHT_HANDLE_AT from.alias)
        (front_on own many (λ k. Datum FIRST (text_at x text) ∷ Constant SECOND (length text) ∷ owned.handle_code LEFT_HANDLE_AT k)
        (owned.same_text_code (Static LEFT_HANDLE_AT) (owned.literal_home RIGHT_HANDLE_AT from.alias from.home) to) (record { is = λ k. refl; fine = tt })
        (called_on FOURTH TEXT_ORDER (Where (Static LEFT_HANDLE_AT) ∷ Where (owned.literal_home RIGHT_HANDLE_AT from.alias from.home) ∷ [])
        (λ k. Constant FIFTH 0 ∷ Branch test.Equal FOURTH FIFTH to ∷ k) (record { is = λ k. refl; fine = (inr far, tt) })))

    made_on : (at : ℕ) (ty : Option ℕ) (from : Housed) (f : Coding) → IsFront own many f → IsFront own many (λ k. owned.text_made x at ty from (f k))
    made_on at ty from f y = front_on own many (owned.text_made x at ty from) f (entry_front at (owned.entry_of x.table ty) from) y

    two_on : (of : List (Option ℕ)) (hs : List Housed) (f : Coding) → IsFront own many f → IsFront own many (λ k. owned.two_made x of hs (f k))
    two_on of hs f y =
        made_on LEFT_HANDLE_AT (owned.type_of of 0) (operand_at hs 0)
        (λ k. owned.text_made x RIGHT_HANDLE_AT (owned.type_of of 1) (operand_at hs 1) (f k))
        (made_on RIGHT_HANDLE_AT (owned.type_of of 1) (operand_at hs 1) f y)

    -- ---- rows of texts

    pub compared_front : (c : Comparison) (to : ℕ) (of : List (Option ℕ)) (hs : List Housed) (left right : Home)
        → IsFront own many (λ k. owned.two_made x of hs (text_compare_code c to left right k))
    compared_front c to of hs left right =
        two_on of hs (text_compare_code c to left right)
        (called_on FOURTH TEXT_ORDER (Where left ∷ Where right ∷ []) (λ k. Constant FIFTH 0 ∷ compare_code c to FOURTH FIFTH k)
        (front_more own many (Constant FIFTH 0) (compare_code c to FOURTH FIFTH) refl (compare_front own many c to FOURTH FIFTH)))

    pub joined_front : (to : Home) (of : List (Option ℕ)) (hs : List Housed) (left right : Home)
        → IsFront own many (λ k. owned.two_made x of hs (join_code to left right k))
    joined_front to of hs left right =
        two_on of hs (join_code to left right) (called_front FIRST TEXT_JOIN (Where to ∷ Where left ∷ Where right ∷ []))

    spelled_front : (to : Home) (number : ℕ) → IsFront own many (show_code to number)
    spelled_front to number = called_front FIRST TEXT_OF_NUMBER (Where to ∷ Where (Variable number) ∷ [])

    copied_front : (to : Home) (entry : Option TypeDef) (enum : ℕ) (from : Housed) (home : Home)
        → IsFront own many (λ k. owned.name_text x LEFT_HANDLE_AT entry enum from (copy_code to home k))
    copied_front to entry enum from home =
        front_on own many (owned.name_text x LEFT_HANDLE_AT entry enum from) (copy_code to home) (name_front LEFT_HANDLE_AT entry enum from)
        (called_front FIRST TEXT_COPY (Where to ∷ Where home ∷ []))

    pub shown_front : (entry : Option TypeDef) (to : Home) (ty : Option ℕ) (from : Housed) → IsFront own many (owned.shown_code x entry to ty from)
    shown_front None to ty from = spelled_front to _
    shown_front (Some D.Int) to ty from = spelled_front to _
    shown_front (Some D.Bool) to ty from = copied_front to (Some D.Bool) (owned.base_of x.table ty) from (owned.entry_home LEFT_HANDLE_AT (Some D.Bool) from)
    shown_front (Some D.Char) to ty from = copied_front to (Some D.Char) (owned.base_of x.table ty) from (owned.entry_home LEFT_HANDLE_AT (Some D.Char) from)
    shown_front (Some D.Text) to ty from = copied_front to (Some D.Text) (owned.base_of x.table ty) from (owned.entry_home LEFT_HANDLE_AT (Some D.Text) from)
    shown_front (Some (D.Enum name place members)) to ty from = copied_front to (Some (D.Enum name place members)) (owned.base_of x.table ty) from
        (owned.entry_home LEFT_HANDLE_AT (Some (D.Enum name place members)) from)
    shown_front (Some (D.Seq i)) to ty from =
        copied_front to (Some (D.Seq i)) (owned.base_of x.table ty) from (owned.entry_home LEFT_HANDLE_AT (Some (D.Seq i)) from)
    shown_front (Some (D.Param n)) to ty from =
        copied_front to (Some (D.Param n)) (owned.base_of x.table ty) from (owned.entry_home LEFT_HANDLE_AT (Some (D.Param n)) from)
    shown_front (Some (D.Array n i)) to ty from =
        copied_front to (Some (D.Array n i)) (owned.base_of x.table ty) from (owned.entry_home LEFT_HANDLE_AT (Some (D.Array n i)) from)
    shown_front (Some (D.Tuple names is)) to ty from =
        copied_front to (Some (D.Tuple names is)) (owned.base_of x.table ty) from (owned.entry_home LEFT_HANDLE_AT (Some (D.Tuple names is)) from)
    shown_front (Some (D.Object name place is all own_hooks parts)) to ty from =
        copied_front to (Some (D.Object name place is all own_hooks parts)) (owned.base_of x.table ty) from
        (owned.entry_home LEFT_HANDLE_AT (Some (D.Object name place is all own_hooks parts)) from)
    shown_front (Some (D.Distinct name place i)) to ty from =
        copied_front to (Some (D.Distinct name place i)) (owned.base_of x.table ty) from (owned.entry_home LEFT_HANDLE_AT (Some (D.Distinct name place i)) from)
    shown_front (Some (D.Ref name i)) to ty from =
        copied_front to (Some (D.Ref name i)) (owned.base_of x.table ty) from (owned.entry_home LEFT_HANDLE_AT (Some (D.Ref name i)) from)
    shown_front (Some (D.Exception name place parent)) to ty from =
        copied_front to (Some (D.Exception name place parent)) (owned.base_of x.table ty) from
        (owned.entry_home LEFT_HANDLE_AT (Some (D.Exception name place parent)) from)

    -- the labels of a character that is put in place, or by the routine
    letter_front : 7 < own → 1 ≤ many → (to : Home) (from : ℕ) → IsFront own many (owned.added_letter_code own to from)
    letter_front high more to from =
        front_on own many (owned.in_place_code own to from)
        (λ k. owned.letter_code RIGHT_HANDLE_AT from (append_code to (Static RIGHT_HANDLE_AT) (Label (own + 2) ∷ k)))
        (front_address own many FIRST to (owned.in_place_lines own from)
        (record { is = λ k. refl; fine = (inr high, (inr high, ((0, omega arith, omega arith), tt))) }))
        (front_on own many (owned.letter_code RIGHT_HANDLE_AT from) (λ k. append_code to (Static RIGHT_HANDLE_AT) (Label (own + 2) ∷ k))
        (record { is = λ k. refl; fine = tt })
        (front_on own many (append_code to (Static RIGHT_HANDLE_AT)) (λ k. Label (own + 2) ∷ k)
        (called_front FIRST TEXT_APPEND (Where to ∷ Where (Static RIGHT_HANDLE_AT) ∷ []))
        (record { is = λ k. refl; fine = ((1, more, omega arith), tt) })))

    pub appended_front : 7 < own → 1 ≤ many → (letter : Bool) (to : Home) (ty : Option ℕ) (from : Housed)
        → IsFront own many (owned.appended_code x letter own to ty from)
    appended_front high more true to ty from = letter_front high more to (variable_of from)
    appended_front high more false to ty from =
        let home : Home = owned.text_home x RIGHT_HANDLE_AT ty from in
        made_on RIGHT_HANDLE_AT ty from (append_code to home) (called_front FIRST TEXT_APPEND (Where to ∷ Where home ∷ []))

    -- ---- lengths

    length_front : (to : Home) (n size : ℕ) → IsFront own many (length_code to n size)
    length_front to n size = called_front FIRST SEQ_RESIZE (Where to ∷ Where (Variable n) ∷ Number size ∷ [])

    resized_front : 7 < own → 1 ≤ many → (hooks : Bool) (ty : ℕ) (to : Home) (n size : ℕ) → IsFront own many (owned.resized_code x hooks own ty to n size)
    resized_front high more true ty to n size =
        front_address own many FIRST to (λ k. Load FIRST FIRST whole ∷ Branch test.Below FIRST n own
        ∷ called_code FIRST (owned.cut_number x ty) (Where to ∷ Where (Variable n) ∷ [])
        (Jump (own + 2) ∷ Label own ∷ length_code to n size (Label (own + 2) ∷ k)))
        (front_on own many (λ k. Load FIRST FIRST whole ∷ Branch test.Below FIRST n own ∷ k)
        (λ k. called_code FIRST (owned.cut_number x ty) (Where to ∷ Where (Variable n) ∷ [])
        (Jump (own + 2) ∷ Label own ∷ length_code to n size (Label (own + 2) ∷ k)))
        (record { is = λ k. refl; fine = (inr high, tt) })
        (called_on FIRST (owned.cut_number x ty) (Where to ∷ Where (Variable n) ∷ [])
        (λ k. Jump (own + 2) ∷ Label own ∷ length_code to n size (Label (own + 2) ∷ k))
        (front_on own many (λ k. Jump (own + 2) ∷ Label own ∷ k) (λ k. length_code to n size (Label (own + 2) ∷ k))
        (record { is = λ k. refl; fine = ((0, omega arith, omega arith), tt) })
        (front_on own many (length_code to n size) (λ k. Label (own + 2) ∷ k) (length_front to n size)
        (record { is = λ k. refl; fine = ((1, more, omega arith), tt) })))))
    resized_front high more false ty to n size = length_front to n size

    pub sized_front : 7 < own → 1 ≤ many → (text : Bool) (ty : ℕ) (to : Home) (n : ℕ)
        → IsFront own many (λ k. owned.counted_code n (owned.sized_code x text own ty to n k))
    sized_front high more true ty to n = counted_on n (text_length_code to n) (called_front FIRST TEXT_RESIZE (Where to ∷ Where (Variable n) ∷ []))
    sized_front high more false ty to n =
        counted_on n (owned.resized_code x hooks own (base_at x.table ty) to n (owned.each_bytes x.table (entry_at x.table ty)))
        (resized_front high more hooks (base_at x.table ty) to n (owned.each_bytes x.table (entry_at x.table ty)))
      where
        hooks : Bool
        hooks = owned.has_hooks x.table (owned.element_in (entry_at x.table ty))
