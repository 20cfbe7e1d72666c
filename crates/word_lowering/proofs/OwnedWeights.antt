-- How many lines the code of operations on texts and sequences has.
use Rattle.std.proofs.Common.{◌≡◌, ℕ, suc, ◌+◌, ◌*◌, ◌≤◌, List, [], ◌∷◌, length, Option, Some, None, Bool, true, false, refl, sym, ap, subst, arith}
use Rattle.std.proofs.Common.{if◌then◌else◌}
use Rattle.std.proofs.Common.{mul-le-mul, le_refl}
use Rattle.std.specs.Prelude.{nat_lt}
use Rattle.std.proofs.lemmas.Bool.{ltb-false}
use Rattle.nim_types.specs.declared.types.TypeDef.{TypeDef}
use Rattle.nim_types.specs.declared.types.TypeDef.TheVariants as D
use Rattle.nim_program.specs.declared.operation.Comparison.{Comparison}
use Rattle.nim_program.specs.declared.operation.Measure.{Measure}
use Rattle.nim_program.specs.declared.operation.Measure.TheVariants.{High, Len}
use Rattle.heap_memory.specs.declared.numbers.TheConstants.{SEQ_ADD, SEQ_NEW, SEQ_POP, SEQ_RESIZE, TEXT_APPEND, TEXT_COPY, TEXT_JOIN, TEXT_OF_NUMBER}
use Rattle.heap_memory.specs.declared.numbers.TheConstants.{TEXT_ORDER, TEXT_READ, TEXT_RESIZE}
use Rattle.flat_code.specs.declared.line.Piece.{Piece}
use Rattle.flat_code.specs.declared.line.Piece.TheVariants as P
use Rattle.flat_code.specs.Sizes.{pieces_weight}
use Rattle.rv32_isa.specs.declared.micro_op.Size.TheVariants.{Byte, Word as whole}
use Rattle.word_code.specs.declared.word.Test.TheVariants as test
use Rattle.word_code.specs.declared.word.WordInstr.{WordInstr}
use Rattle.word_code.specs.declared.word.WordInstr.TheVariants.{Branch, Call, Constant, Label, Load, Sum}
use Rattle.word_lowering.specs.declared.handed.TheConstants.{LEFT_HANDLE_AT, RIGHT_HANDLE_AT}
use Rattle.word_lowering.specs.declared.handed.Handed.{Handed}
use Rattle.word_lowering.specs.declared.handed.Handed.TheVariants.{Number, Where}
use Rattle.word_lowering.specs.declared.homes.TheConstants.{FIFTH, FIRST, FOURTH}
use Rattle.word_lowering.specs.declared.homes.Alias.{Alias}
use Rattle.word_lowering.specs.declared.homes.Alias.TheVariants as alias
use Rattle.word_lowering.specs.declared.homes.Home.{Home}
use Rattle.word_lowering.specs.declared.homes.Home.TheVariants.{Placed, Static, Variable}
use Rattle.word_lowering.specs.declared.homes.Housed.{Housed}
use Rattle.word_lowering.specs.declared.spots.Spot.{Spot}
use Rattle.word_lowering.specs.declared.spots.Spot.TheVariants.{Held, Lies, Letter}
use Rattle.word_lowering.specs.Operands.{Around, operand_at, text_at, variable_of}
use Rattle.word_lowering.specs.Aliases.{text_in}
use Rattle.word_lowering.specs.LineCode as lines
use Rattle.word_lowering.specs.OwnedCode as owned
use Rattle.word_lowering.specs.RoutineCode.{all_handed, append_code, called_code, copy_code, handed_code, join_code, length_code, new_code, read_code}
use Rattle.word_lowering.specs.RoutineCode.{show_code}
use Rattle.word_lowering.specs.RoutineCode.{text_compare_code}
use Rattle.word_lowering.specs.Operations as operations
use Rattle.word_lowering.specs.Spots.{address, moved, spot_of}
use Rattle.word_lowering.specs.Stored.{base_at, entry_at}
use Rattle.word_lowering.proofs.PieceWeights.{compare_weighs, moved_weighs, spot_weighs, word_argument_weighs}

-- ---- calls at addresses

handed_weighs : (index : ℕ) (h : Handed) (k : List WordInstr) → length (handed_code index h k) ≤ 2 + length k
handed_weighs index (Where home) k = word_argument_weighs index home k
handed_weighs index (Number n) k = omega arith

all_weigh : (index : ℕ) (hs : List Handed) (k : List WordInstr) → length (all_handed index hs k) ≤ 2 * length hs + length k
all_weigh index [] k = omega arith
all_weigh index (h ∷ hs) k =
    let a = handed_weighs index h (all_handed (suc index) hs k) in
    let b = all_weigh (suc index) hs k in
    omega (arith, a, b)

called_weighs : (to number : ℕ) (hs : List Handed) (k : List WordInstr) → length (called_code to number hs k) ≤ 2 * length hs + 1 + length k
called_weighs to number hs k = let a = all_weigh 0 hs (Call to number ∷ k) in omega (arith, a)

elements_weigh : (size : ℕ) (hs : List Housed) (k : List WordInstr) → length (owned.elements_code size hs k) ≤ 8 * length hs + length k
elements_weigh size [] k = omega arith
elements_weigh size (h ∷ hs) k =
    let a = moved_weighs h.is_word h.bytes (Lies (Variable FIFTH)) (spot_of h) (Sum FIFTH FIFTH size ∷ owned.elements_code size hs k) in
    let b = elements_weigh size hs k in
    omega (arith, a, b)

module _ (x : Around) where
  -- ---- operands

  literal_weighs : (at : ℕ) (other : Alias) (k : List WordInstr) → length (owned.literal_text x at other k) ≤ 6 + length k
  literal_weighs at alias.Own k = omega arith
  literal_weighs at (alias.Place p global) k = omega arith
  literal_weighs at (alias.Value t) k = omega arith
  literal_weighs at (alias.Node n) k = omega arith
  literal_weighs at (alias.Text behind bytes) k = omega arith

  entry_weighs : (at : ℕ) (entry : Option TypeDef) (from : Housed) (k : List WordInstr) → length (owned.entry_text x at entry from k) ≤ 7 + length k
  entry_weighs at None from k = omega arith
  entry_weighs at (Some D.Int) from k = omega arith
  entry_weighs at (Some D.Bool) from k = omega arith
  entry_weighs at (Some D.Char) from k = omega arith
  entry_weighs at (Some (D.Enum name place members)) from k = omega arith
  entry_weighs at (Some D.Text) from k = let h = literal_weighs at from.alias k in omega (arith, h)
  entry_weighs at (Some (D.Seq i)) from k = omega arith
  entry_weighs at (Some (D.Param n)) from k = omega arith
  entry_weighs at (Some (D.Array n i)) from k = omega arith
  entry_weighs at (Some (D.Tuple names is)) from k = omega arith
  entry_weighs at (Some (D.Object name place is all own_hooks parts)) from k = omega arith
  entry_weighs at (Some (D.Distinct name place i)) from k = omega arith
  entry_weighs at (Some (D.Ref name i)) from k = omega arith
  entry_weighs at (Some (D.Exception name place parent)) from k = omega arith

  name_weighs : (at : ℕ) (entry : Option TypeDef) (enum : ℕ) (from : Housed) (k : List WordInstr)
      → length (owned.name_text x at entry enum from k) ≤ 14 + length k
  name_weighs at None enum from k = omega arith
  name_weighs at (Some D.Int) enum from k = omega arith
  name_weighs at (Some D.Bool) enum from k = omega arith
  name_weighs at (Some D.Char) enum from k = omega arith
  name_weighs at (Some (D.Enum name place members)) enum from k = omega arith
  name_weighs at (Some D.Text) enum from k = let h = literal_weighs at from.alias k in omega (arith, h)
  name_weighs at (Some (D.Seq i)) enum from k = omega arith
  name_weighs at (Some (D.Param n)) enum from k = omega arith
  name_weighs at (Some (D.Array n i)) enum from k = omega arith
  name_weighs at (Some (D.Tuple names is)) enum from k = omega arith
  name_weighs at (Some (D.Object name place is all own_hooks parts)) enum from k = omega arith
  name_weighs at (Some (D.Distinct name place i)) enum from k = omega arith
  name_weighs at (Some (D.Ref name i)) enum from k = omega arith
  name_weighs at (Some (D.Exception name place parent)) enum from k = omega arith

  -- a copy of a literal, and one that is a label
  pub text_copied_weighs : (to : Home) (text : List ℕ) (k : List WordInstr) → length (owned.text_copy_code x to text k) ≤ 11 + length k
  text_copied_weighs to text k =
      let b = called_weighs FIRST TEXT_COPY (Where to ∷ Where (Static LEFT_HANDLE_AT) ∷ []) k in omega (arith, b)

  pub text_fits_weighs : (text : List ℕ) (from : Housed) (to : ℕ) (k : List WordInstr)
      → length (owned.literal_text x RIGHT_HANDLE_AT from.alias (owned.text_fits_code (text_at x text) (length text)
      (owned.literal_home RIGHT_HANDLE_AT from.alias from.home) to k)) ≤ 19 + length k
  text_fits_weighs text from to k =
      let home : Home = owned.literal_home RIGHT_HANDLE_AT from.alias from.home in
      let tail : List WordInstr = Constant FIFTH 0 ∷ Branch test.Equal FOURTH FIFTH to ∷ k in
      let a = literal_weighs RIGHT_HANDLE_AT from.alias (owned.text_fits_code (text_at x text) (length text) home to k) in
      let b = called_weighs FOURTH TEXT_ORDER (Where (Static LEFT_HANDLE_AT) ∷ Where home ∷ []) tail in
      omega (arith, a, b)

  made_weighs : (at : ℕ) (ty : Option ℕ) (from : Housed) (k : List WordInstr) → length (owned.text_made x at ty from k) ≤ 7 + length k
  made_weighs at ty from k = entry_weighs at (owned.entry_of x.table ty) from k

  two_weigh : (of : List (Option ℕ)) (hs : List Housed) (k : List WordInstr) → length (owned.two_made x of hs k) ≤ 14 + length k
  two_weigh of hs k =
      let right : List WordInstr = owned.text_made x RIGHT_HANDLE_AT (owned.type_of of 1) (operand_at hs 1) k in
      let a = made_weighs LEFT_HANDLE_AT (owned.type_of of 0) (operand_at hs 0) right in
      let b = made_weighs RIGHT_HANDLE_AT (owned.type_of of 1) (operand_at hs 1) k in
      omega (arith, a, b)

  -- ---- rows

  pub compare_text_weighs : (c : Comparison) (to : ℕ) (of : List (Option ℕ)) (hs : List Housed) (left right : Home) (k : List WordInstr)
      → length (owned.two_made x of hs (text_compare_code c to left right k)) ≤ 23 + length k
  compare_text_weighs c to of hs left right k =
      let tail : List WordInstr = Constant FIFTH 0 ∷ operations.compare_code c to FOURTH FIFTH k in
      let a = two_weigh of hs (text_compare_code c to left right k) in
      let b = called_weighs FOURTH TEXT_ORDER (Where left ∷ Where right ∷ []) tail in
      let d = compare_weighs c to FOURTH FIFTH k in
      omega (arith, a, b, d)

  pub join_weighs : (to : Home) (of : List (Option ℕ)) (hs : List Housed) (left right : Home) (k : List WordInstr)
      → length (owned.two_made x of hs (join_code to left right k)) ≤ 21 + length k
  join_weighs to of hs left right k =
      let a = two_weigh of hs (join_code to left right k) in
      let b = called_weighs FIRST TEXT_JOIN (Where to ∷ Where left ∷ Where right ∷ []) k in
      omega (arith, a, b)

  spelled_weighs : (to : Home) (number : ℕ) (k : List WordInstr) → length (show_code to number k) ≤ 19 + length k
  spelled_weighs to number k = let b = called_weighs FIRST TEXT_OF_NUMBER (Where to ∷ Where (Variable number) ∷ []) k in omega (arith, b)

  copied_weighs : (to : Home) (entry : Option TypeDef) (enum : ℕ) (from : Housed) (home : Home) (k : List WordInstr)
      → length (owned.name_text x LEFT_HANDLE_AT entry enum from (copy_code to home k)) ≤ 19 + length k
  copied_weighs to entry enum from home k =
      let a = name_weighs LEFT_HANDLE_AT entry enum from (copy_code to home k) in
      let b = called_weighs FIRST TEXT_COPY (Where to ∷ Where home ∷ []) k in
      omega (arith, a, b)

  pub shown_weighs : (entry : Option TypeDef) (to : Home) (ty : Option ℕ) (from : Housed) (k : List WordInstr)
      → length (owned.shown_code x entry to ty from k) ≤ 19 + length k
  shown_weighs None to ty from k = spelled_weighs to (variable_of from) k
  shown_weighs (Some D.Int) to ty from k = spelled_weighs to (variable_of from) k
  shown_weighs (Some D.Bool) to ty from k =
      copied_weighs to (Some D.Bool) (owned.base_of x.table ty) from (owned.entry_home LEFT_HANDLE_AT (Some D.Bool) from) k
  shown_weighs (Some D.Char) to ty from k =
      copied_weighs to (Some D.Char) (owned.base_of x.table ty) from (owned.entry_home LEFT_HANDLE_AT (Some D.Char) from) k
  shown_weighs (Some D.Text) to ty from k =
      copied_weighs to (Some D.Text) (owned.base_of x.table ty) from (owned.entry_home LEFT_HANDLE_AT (Some D.Text) from) k
  shown_weighs (Some (D.Enum name place members)) to ty from k = copied_weighs to (Some (D.Enum name place members)) (owned.base_of x.table ty) from
      (owned.entry_home LEFT_HANDLE_AT (Some (D.Enum name place members)) from) k
  shown_weighs (Some (D.Seq i)) to ty from k =
      copied_weighs to (Some (D.Seq i)) (owned.base_of x.table ty) from (owned.entry_home LEFT_HANDLE_AT (Some (D.Seq i)) from) k
  shown_weighs (Some (D.Param n)) to ty from k =
      copied_weighs to (Some (D.Param n)) (owned.base_of x.table ty) from (owned.entry_home LEFT_HANDLE_AT (Some (D.Param n)) from) k
  shown_weighs (Some (D.Array n i)) to ty from k =
      copied_weighs to (Some (D.Array n i)) (owned.base_of x.table ty) from (owned.entry_home LEFT_HANDLE_AT (Some (D.Array n i)) from) k
  shown_weighs (Some (D.Tuple names is)) to ty from k =
      copied_weighs to (Some (D.Tuple names is)) (owned.base_of x.table ty) from (owned.entry_home LEFT_HANDLE_AT (Some (D.Tuple names is)) from) k
  shown_weighs (Some (D.Object name place is all own_hooks parts)) to ty from k =
      copied_weighs to (Some (D.Object name place is all own_hooks parts)) (owned.base_of x.table ty) from
      (owned.entry_home LEFT_HANDLE_AT (Some (D.Object name place is all own_hooks parts)) from) k
  shown_weighs (Some (D.Distinct name place i)) to ty from k = copied_weighs to (Some (D.Distinct name place i)) (owned.base_of x.table ty) from
      (owned.entry_home LEFT_HANDLE_AT (Some (D.Distinct name place i)) from) k
  shown_weighs (Some (D.Ref name i)) to ty from k =
      copied_weighs to (Some (D.Ref name i)) (owned.base_of x.table ty) from (owned.entry_home LEFT_HANDLE_AT (Some (D.Ref name i)) from) k
  shown_weighs (Some (D.Exception name place parent)) to ty from k =
      copied_weighs to (Some (D.Exception name place parent)) (owned.base_of x.table ty) from
      (owned.entry_home LEFT_HANDLE_AT (Some (D.Exception name place parent)) from) k

  pub append_weighs : (letter : Bool) (label : ℕ) (to : Home) (ty : Option ℕ) (from : Housed) (k : List WordInstr)
      → length (owned.appended_code x letter label to ty from k) ≤ 32 + length k
  append_weighs true label to ty from k =
      let b = called_weighs FIRST TEXT_APPEND (Where to ∷ Where (Static RIGHT_HANDLE_AT) ∷ []) (Label (label + 2) ∷ k) in omega (arith, b)
  append_weighs false label to ty from k =
      let home : Home = owned.text_home x RIGHT_HANDLE_AT ty from in
      let a = made_weighs RIGHT_HANDLE_AT ty from (append_code to home k) in
      let b = called_weighs FIRST TEXT_APPEND (Where to ∷ Where home ∷ []) k in
      omega (arith, a, b)

  pub sequence_weighs : (to : Home) (size : ℕ) (hs : List Housed) (k : List WordInstr)
      → length (owned.sequence_code to size hs k) ≤ 10 + 8 * length hs + length k
  sequence_weighs to size hs k =
      let tail : List WordInstr = owned.elements_code size hs k in
      let a = called_weighs FIRST SEQ_NEW (Where to ∷ Number (length hs) ∷ Number size ∷ [])
      (address FIFTH to ∷ Sum FIFTH FIFTH 4 ∷ Load FIFTH FIFTH whole ∷ tail)
      in
      let b = elements_weigh size hs k in
      omega (arith, a, b)

  pub new_weighs : (to : Home) (n size : ℕ) (k : List WordInstr) → length (owned.counted_code n (new_code to n size k)) ≤ 9 + length k
  new_weighs to n size k = let a = called_weighs FIRST SEQ_NEW (Where to ∷ Where (Variable n) ∷ Number size ∷ []) k in omega (arith, a)

  pub add_weighs : (to : Home) (size : ℕ) (from : Housed) (k : List WordInstr) → length (owned.added_code to size from k) ≤ 12 + length k
  add_weighs to size from k =
      let tail : List WordInstr = moved from.is_word from.bytes (Lies (Variable FIFTH)) (spot_of from) k in
      let a = called_weighs FIFTH SEQ_ADD (Where to ∷ Number size ∷ []) tail in
      let b = moved_weighs from.is_word from.bytes (Lies (Variable FIFTH)) (spot_of from) k in
      omega (arith, a, b)

  pub pop_weighs : (to : Housed) (from : Home) (size : ℕ) (k : List WordInstr) → length (owned.popped_code to from size k) ≤ 16 + length k
  pop_weighs to from size k =
      let tail : List WordInstr = moved to.is_word to.bytes (spot_of to) (Lies (Variable FIFTH)) k in
      let a = called_weighs FIFTH SEQ_POP (Where from ∷ Number size ∷ []) tail in
      let b = moved_weighs to.is_word to.bytes (spot_of to) (Lies (Variable FIFTH)) k in
      omega (arith, a, b)

  pub read_weighs : (to : ℕ) (line : Home) (k : List WordInstr) → length (read_code to line k) ≤ 3 + length k
  read_weighs to line k = let a = called_weighs to TEXT_READ (Where line ∷ []) k in omega (arith, a)

  pub measure_weighs : (measure : Measure) (to : ℕ) (from : Home) (k : List WordInstr) → length (owned.measured_code measure to from k) ≤ 3 + length k
  measure_weighs Len to from k = omega arith
  measure_weighs High to from k = omega arith

  length_weighs : (to : Home) (n size : ℕ) (k : List WordInstr) → length (length_code to n size k) ≤ 7 + length k
  length_weighs to n size k = let a = called_weighs FIRST SEQ_RESIZE (Where to ∷ Where (Variable n) ∷ Number size ∷ []) k in omega (arith, a)

  resized_weighs : (hooks : Bool) (label ty : ℕ) (to : Home) (n size : ℕ) (k : List WordInstr)
      → length (owned.resized_code x hooks label ty to n size k) ≤ 16 + length k
  resized_weighs true label ty (Variable v) n size k = omega arith
  resized_weighs true label ty (Placed at) n size k = omega arith
  resized_weighs true label ty (Static at) n size k = omega arith
  resized_weighs false label ty to n size k = let b = length_weighs to n size k in omega (arith, b)

  pub sized_weighs : (text : Bool) (label ty : ℕ) (to : Home) (n : ℕ) (k : List WordInstr)
      → length (owned.counted_code n (owned.sized_code x text label ty to n k)) ≤ 18 + length k
  sized_weighs true label ty to n k = let a = called_weighs FIRST TEXT_RESIZE (Where to ∷ Where (Variable n) ∷ []) k in omega (arith, a)
  sized_weighs false label ty to n k =
      let a = resized_weighs (owned.has_hooks x.table (owned.element_in (entry_at x.table ty))) label (base_at x.table ty) to n
      (owned.each_bytes x.table (entry_at x.table ty)) k in
      omega (arith, a)

-- ---- elements

pub owned_item_weighs : (to : ℕ) (from : Home) (index size : ℕ) (k : List WordInstr) → length (owned.owned_item_code to from index size k) ≤ 8 + length k
owned_item_weighs to from index size k = omega arith

pub owned_element_weighs : (to : ℕ) (from : Home) (index size : ℕ) (k : List WordInstr)
    → length (owned.owned_element_code to from index size k) ≤ 6 + length k
owned_element_weighs to from index size k = omega arith

pub element_read_weighs : (text : Bool) (to : Housed) (k : List WordInstr) → length (owned.element_read text to k) ≤ 7 + length k
element_read_weighs true to k = by (spot_of to)
  where
    by : (spot : Spot) → length (Load FIRST FIFTH Byte ∷ moved true to.bytes spot (Held FIRST) k) ≤ 7 + length k
    by (Held v) = omega arith
    by (Lies home) = omega arith
    by (Letter home) = omega arith
element_read_weighs false to k = let h = moved_weighs to.is_word to.bytes (spot_of to) (Lies (Variable FIFTH)) k in omega (arith, h)

-- ---- where operands lack nothing stands

pub enough_weighs : (n : ℕ) (hs : List Housed) (lines k : List WordInstr) (each base : ℕ) → length lines ≤ base + each * n + length k
    → length (owned.with_operands n hs lines k) ≤ base + each * length hs + length k
enough_weighs n hs lines k each base few = by (nat_lt (length hs) n) refl
  where
    by : (b : Bool) → nat_lt (length hs) n ≡ b → length (if b then k else lines) ≤ base + each * length hs + length k
    by true e = omega arith
    by false e =
        let h : n ≤ length hs = ltb-false (length hs) n e in
        let m : each * n ≤ each * length hs = mul-le-mul (le_refl each) h in
        omega (arith, few, m)

-- ---- constants

lent_text_weighs : (x : Around) (other : Alias) (to : Home) (text : List ℕ) (k : List WordInstr) →
    length (owned.lent_text_code x other to text k) ≤ 6 + length k
lent_text_weighs x alias.Own to text k = omega arith
lent_text_weighs x (alias.Place p global) to text k = omega arith
lent_text_weighs x (alias.Value t) to text k = omega arith
lent_text_weighs x (alias.Node n) to text k = omega arith
lent_text_weighs x (alias.Text behind bytes) to text k = omega arith

pub constant_weighs : (x : Around) (read hooked : Bool) (ty : ℕ) (pieces : List Piece) (to : Housed) (k : List WordInstr)
    → length (lines.constant_by x read hooked (text_in pieces) ty to pieces k) ≤ 5 + pieces_weight pieces + length k
constant_weighs x read hooked ty pieces to k = by read pieces refl
  where
    built : (hooked : Bool) → length (lines.built_code x hooked ty to pieces k) ≤ 5 + pieces_weight pieces + length k
    built true = omega arith
    built false = spot_weighs to (spot_of to) pieces k

    none : (read : Bool) → length (lines.constant_by x read hooked None ty to pieces k) ≤ 5 + pieces_weight pieces + length k
    none true = built hooked
    none false = built hooked

    one : (read : Bool) (text : List ℕ) → pieces ≡ P.Text text ∷ [] →
        length (lines.constant_by x read hooked (Some text) ty to pieces k) ≤ 5 + pieces_weight pieces + length k
    one true text e = let w : pieces_weight pieces ≡ 6 = ap pieces_weight e in let h = lent_text_weighs x to.alias to.home text k in omega (arith, w, h)
    one false text e =
        let w : pieces_weight pieces ≡ 6 = ap pieces_weight e in let h = text_copied_weighs x to.home text k in omega (arith, w, h)

    no_text : (read : Bool) → text_in pieces ≡ None → length (lines.constant_by x read hooked (text_in pieces) ty to pieces k) ≤ 5 + pieces_weight pieces
        + length k
    no_text read e = subst (λ o. length (lines.constant_by x read hooked o ty to pieces k) ≤ 5 + pieces_weight pieces + length k) (sym e) (none read)

    by : (read : Bool) (same : List Piece) → pieces ≡ same →
        length (lines.constant_by x read hooked (text_in pieces) ty to pieces k) ≤ 5 + pieces_weight pieces + length k
    by read (P.Text text ∷ []) e =
        subst (λ o. length (lines.constant_by x read hooked o ty to pieces k) ≤ 5 + pieces_weight pieces + length k) (sym (ap text_in e)) (one read text e)
    by read [] e = no_text read (ap text_in e)
    by read (P.Text text ∷ piece ∷ same) e = no_text read (ap text_in e)
    by read (P.Ordinal z ∷ same) e = no_text read (ap text_in e)
    by read (P.Nil ∷ same) e = no_text read (ap text_in e)
    by read (P.Parts n ∷ same) e = no_text read (ap text_in e)
    by read (P.Elements n ∷ same) e = no_text read (ap text_in e)
