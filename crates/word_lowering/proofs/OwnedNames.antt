-- The code of operations on texts and sequences names variables of its procedure alone.
use Rattle.std.proofs.Common.{ℕ, zero, suc, ◌+◌, ◌<◌, ◌≤◌, List, [], ◌∷◌, Option, Some, None, Bool, true, false, length, arith, if◌then◌else◌}
use Rattle.std.specs.Prelude.{nat_lt}
use Rattle.nim_types.specs.declared.types.TypeDef.{TypeDef}
use Rattle.nim_types.specs.declared.types.TypeDef.TheVariants as D
use Rattle.nim_program.specs.declared.operation.Comparison.{Comparison}
use Rattle.nim_program.specs.declared.operation.Measure.{Measure}
use Rattle.nim_program.specs.declared.operation.Measure.TheVariants.{High, Len}
use Rattle.word_code.specs.declared.word.TheConstants.{MOST_ARGUMENTS}
use Rattle.word_code.specs.declared.word.WordInstr.{WordInstr}
use Rattle.word_code.specs.declared.word.WordInstr.TheVariants.{Constant, Datum, Store}
use Rattle.rv32_isa.specs.declared.micro_op.Size.TheVariants.{Word as whole}
use Rattle.word_lowering.specs.declared.handed.TheConstants.{LEFT_HANDLE_AT, RIGHT_HANDLE_AT}
use Rattle.word_lowering.specs.declared.handed.Handed.{Handed}
use Rattle.word_lowering.specs.declared.handed.Handed.TheVariants.{Number, Where}
use Rattle.word_lowering.specs.declared.homes.TheConstants.{FIFTH, FIRST, FOURTH, OWN_FROM, SECOND, THIRD}
use Rattle.word_lowering.specs.declared.homes.Alias.{Alias}
use Rattle.word_lowering.specs.declared.homes.Alias.TheVariants as alias
use Rattle.word_lowering.specs.declared.homes.Home.{Home}
use Rattle.word_lowering.specs.declared.homes.Home.TheVariants.{Placed, Static, Variable}
use Rattle.word_lowering.specs.declared.homes.Housed.{Housed}
use Rattle.word_lowering.specs.declared.spots.Spot.TheVariants.{Held, Lies}
use Rattle.word_lowering.specs.Operands.{text_at, Around, operand_at, variable_in, variable_of, word_argument}
use Rattle.word_lowering.specs.OwnedCode as owned
use Rattle.word_lowering.specs.RoutineCode.{all_handed, append_code, called_code, copy_code, echo_code, handed_code, join_code, length_code, new_code}
use Rattle.word_lowering.specs.RoutineCode.{read_code}
use Rattle.word_lowering.specs.RoutineCode.{show_code, text_compare_code}
use Rattle.word_lowering.specs.Spots.{address, moved, shifted, spot_of}
use Rattle.word_lowering.specs.Stored.{base_at, entry_at}
use Rattle.word_lowering.proofs.HomesApart.{Each}
use Rattle.word_lowering.proofs.LayoutBounds.{IsBelow}
use Rattle.word_lowering.proofs.NamedCode.{AllNamed, compare_named, fifth_is, first_is, fourth_is, second_is, shifted_below, spot_below, third_is}
use Rattle.word_lowering.proofs.NamedCode as named

pub variable_below : (n : ℕ) (home : Home) → FIRST < n → IsBelow n home → variable_in home < n
variable_below n (Variable v) some h = h
variable_below n (Placed at) some h = some
variable_below n (Static at) some h = some

module _ (vars : ℕ) (many : OWN_FROM ≤ vars) where
  abbrev one : FIRST < vars
  one = first_is vars many

  abbrev two : SECOND < vars
  two = second_is vars many

  abbrev three : THIRD < vars
  three = third_is vars many

  abbrev four : FOURTH < vars
  four = fourth_is vars many

  abbrev five : FIFTH < vars
  five = fifth_is vars many

  -- operands whose homes are below the bound
  abbrev pub AllBelow : List Housed → Type 0
  AllBelow hs = Each (λ h. IsBelow vars h.home) hs

  pub at_below : (hs : List Housed) (i : ℕ) → AllBelow hs → IsBelow vars (operand_at hs i).home
  at_below [] i e = one
  at_below (h ∷ hs) zero e = e.0
  at_below (h ∷ hs) (suc i) e = at_below hs i e.1

  pub variable_is : (h : Housed) → IsBelow vars h.home → variable_of h < vars
  variable_is h e = variable_below vars h.home one e

  -- ---- calls at addresses

  pub word_argument_named : (index : ℕ) (home : Home) {k : List WordInstr} → index < MOST_ARGUMENTS → IsBelow vars home → AllNamed vars k
      → AllNamed vars (word_argument index home k)
  word_argument_named index (Variable v) i h rest = named.argument vars many i h rest
  word_argument_named index (Placed at) i h rest = named.place vars many one (named.argument vars many i one rest)
  word_argument_named index (Static at) i h rest = named.datum vars many one (named.argument vars many i one rest)

  abbrev IsHandedBelow : Handed → Type 0
  IsHandedBelow (Where home) = IsBelow vars home
  IsHandedBelow (Number n) = Unit {0}

  abbrev AllHandedBelow : List Handed → Type 0
  AllHandedBelow [] = Unit {0}
  AllHandedBelow (h ∷ hs) = IsHandedBelow h × AllHandedBelow hs

  handed_named : (index : ℕ) (h : Handed) {k : List WordInstr} → index < MOST_ARGUMENTS → IsHandedBelow h → AllNamed vars k
      → AllNamed vars (handed_code index h k)
  handed_named index (Where home) i h rest = word_argument_named index home i h rest
  handed_named index (Number n) i h rest = named.constant vars many one (named.argument vars many i one rest)

  all_handed_named : (index : ℕ) (hs : List Handed) {k : List WordInstr} → index + length hs ≤ MOST_ARGUMENTS → AllHandedBelow hs → AllNamed vars k
      → AllNamed vars (all_handed index hs k)
  all_handed_named index [] few hs rest = rest
  all_handed_named index (h ∷ hs) few below rest =
      handed_named index h (omega (arith, few)) below.0 (all_handed_named (suc index) hs (omega (arith, few)) below.1 rest)

  called_named : (to number : ℕ) (hs : List Handed) {k : List WordInstr} → to < vars → length hs ≤ MOST_ARGUMENTS → AllHandedBelow hs → AllNamed vars k
      → AllNamed vars (called_code to number hs k)
  called_named to number hs t few below rest = all_handed_named 0 hs (omega (arith, few)) below (named.call vars many t rest)

  pub told_named : (from : Home) {k : List WordInstr} → IsBelow vars from → AllNamed vars k → AllNamed vars (echo_code from k)
  told_named from f rest = called_named FIRST _ (Where from ∷ []) one (omega arith) (f, tt) rest

  -- where operands lack nothing stands
  pub enough_named : (n : ℕ) (hs : List Housed) (lines : List WordInstr) {k : List WordInstr} → AllNamed vars lines → AllNamed vars k
      → AllNamed vars (owned.with_operands n hs lines k)
  enough_named n hs lines {k} all rest = by (nat_lt (length hs) n)
    where
      by : (b : Bool) → AllNamed vars (if b then k else lines)
      by true = rest
      by false = all

  -- ---- checks

  counted_named : (n : ℕ) {k : List WordInstr} → n < vars → AllNamed vars k → AllNamed vars (owned.counted_code n k)
  counted_named n i rest = named.constant vars many one (named.branch vars many i one rest)

  filled_named : (from : Home) {k : List WordInstr} → IsBelow vars from → AllNamed vars k → AllNamed vars (owned.filled_code from k)
  filled_named from f rest =
      named.address vars many FIRST from one f
      (named.load vars many one one (named.constant vars many two (named.branch vars many one two rest)))

  -- ---- rows of sequences

  pub measured_named : (measure : Measure) (to : ℕ) (from : Home) {k : List WordInstr} → to < vars → IsBelow vars from → AllNamed vars k
      → AllNamed vars (owned.measured_code measure to from k)
  measured_named Len to from t f rest = named.address vars many FIRST from one f (named.load vars many t one rest)
  measured_named High to from t f rest = named.address vars many FIRST from one f (named.load vars many one one (named.sum vars many t one rest))

  elements_named : (size : ℕ) (hs : List Housed) {k : List WordInstr} → AllBelow hs → AllNamed vars k → AllNamed vars (owned.elements_code size hs k)
  elements_named size [] e rest = rest
  elements_named size (h ∷ hs) e rest =
      named.moved vars many h.is_word h.bytes (Lies (Variable FIFTH)) (spot_of h) five (spot_below vars h e.0)
      (named.sum vars many five five (elements_named size hs e.1 rest))

  pub sequence_named : (to : Home) (size : ℕ) (hs : List Housed) {k : List WordInstr} → IsBelow vars to → AllBelow hs → AllNamed vars k
      → AllNamed vars (owned.sequence_code to size hs k)
  sequence_named to size hs t e rest =
      called_named FIRST _ (Where to ∷ Number (length hs) ∷ Number size ∷ []) one (omega arith) (t, (tt, (tt, tt)))
      (named.address vars many FIFTH to five t (named.sum vars many five five (named.load vars many five five (elements_named size hs e rest))))

  pub new_named : (to : Home) (n size : ℕ) {k : List WordInstr} → IsBelow vars to → n < vars → AllNamed vars k
      → AllNamed vars (owned.counted_code n (new_code to n size k))
  new_named to n size t i rest =
      counted_named n i (called_named FIRST _ (Where to ∷ Where (Variable n) ∷ Number size ∷ []) one (omega arith) (t, (i, (tt, tt))) rest)

  pub added_named : (to : Home) (size : ℕ) (from : Housed) {k : List WordInstr} → IsBelow vars to → IsBelow vars from.home → AllNamed vars k
      → AllNamed vars (owned.added_code to size from k)
  added_named to size from t f rest =
      called_named FIFTH _ (Where to ∷ Number size ∷ []) five (omega arith) (t, (tt, tt))
      (named.moved vars many from.is_word from.bytes (Lies (Variable FIFTH)) (spot_of from) five (spot_below vars from f) rest)

  pub popped_named : (to : Housed) (from : Home) (size : ℕ) {k : List WordInstr} → IsBelow vars to.home → IsBelow vars from → AllNamed vars k
      → AllNamed vars (owned.popped_code to from size k)
  popped_named to from size t f rest =
      filled_named from f (called_named FIFTH _ (Where from ∷ Number size ∷ []) five (omega arith) (f, (tt, tt))
      (named.moved vars many to.is_word to.bytes (spot_of to) (Lies (Variable FIFTH)) (spot_below vars to t) five rest))

  pub read_named : (to : ℕ) (line : Home) {k : List WordInstr} → to < vars → IsBelow vars line → AllNamed vars k → AllNamed vars (read_code to line k)
  read_named to line t f rest = called_named to _ (Where line ∷ []) t (omega arith) (f, tt) rest

  -- ---- elements

  pub owned_item_named : (to : ℕ) (from : Home) (index size : ℕ) {k : List WordInstr} → to < vars → IsBelow vars from → index < vars → AllNamed vars k
      → AllNamed vars (owned.owned_item_code to from index size k)
  owned_item_named to from index size t f i rest =
      named.address vars many SECOND from two f
      (named.load vars many one two (named.branch vars many i one
      (named.sum vars many two two (named.load vars many two two
      (named.constant vars many one (named.compute vars many one i one (named.compute vars many t two one rest)))))))

  pub owned_element_named : (to : ℕ) (from : Home) (index size : ℕ) {k : List WordInstr} → to < vars → IsBelow vars from → index < vars
      → AllNamed vars k → AllNamed vars (owned.owned_element_code to from index size k)
  owned_element_named to from index size t f i rest =
      named.address vars many SECOND from two f
      (named.sum vars many two two (named.load vars many two two
      (named.constant vars many one (named.compute vars many one i one (named.compute vars many t two one rest)))))

  pub element_read_named : (text : Bool) (to : Housed) {k : List WordInstr} → IsBelow vars to.home → AllNamed vars k
      → AllNamed vars (owned.element_read text to k)
  element_read_named true to t rest =
      named.load vars many one five (named.moved vars many true to.bytes (spot_of to) (Held FIRST) (spot_below vars to t) one rest)
  element_read_named false to t rest =
      named.moved vars many to.is_word to.bytes (spot_of to) (Lies (Variable FIFTH)) (spot_below vars to t) five rest

  -- ---- handles of operands

  handle_named : (at : ℕ) {k : List WordInstr} → AllNamed vars k → AllNamed vars (owned.handle_code at k)
  handle_named at rest =
      named.datum vars many three (named.store vars many three two (named.datum vars many three (named.store vars many three one rest)))

  letter_named : (at from : ℕ) {k : List WordInstr} → from < vars → AllNamed vars k → AllNamed vars (owned.letter_code at from k)
  letter_named at from f rest =
      named.datum vars many one (named.store vars many one f (named.constant vars many two (handle_named at rest)))

  bool_name_named : (at from : ℕ) {k : List WordInstr} → from < vars → AllNamed vars k → AllNamed vars (owned.bool_name_code at from k)
  bool_name_named at from f rest =
      named.constant vars many one (named.compute vars many one f one (named.datum vars many two (named.compute vars many one two one
      (named.constant vars many two (named.compute vars many two two f (handle_named at rest))))))

  name_handle_named : (at ends names from : ℕ) {k : List WordInstr} → from < vars → AllNamed vars k
      → AllNamed vars (owned.name_handle_code at ends names from k)
  name_handle_named at ends names from f rest =
      named.constant vars many one (named.compute vars many one f one (named.datum vars many two (named.compute vars many two two one
      (named.load vars many one two (named.sum vars many two two (named.load vars many two two (named.compute vars many two two one
      (named.datum vars many three (named.compute vars many one three one (handle_named at rest))))))))))

  literal_home_below : (at : ℕ) (other : Alias) (home : Home) → IsBelow vars home → IsBelow vars (owned.literal_home at other home)
  literal_home_below at alias.Own home h = h
  literal_home_below at (alias.Place p global) home h = h
  literal_home_below at (alias.Value t) home h = h
  literal_home_below at (alias.Node n) home h = h
  literal_home_below at (alias.Text behind bytes) home h = tt

  entry_home_below : (at : ℕ) (entry : Option TypeDef) (from : Housed) → IsBelow vars from.home → IsBelow vars (owned.entry_home at entry from)
  entry_home_below at None from h = tt
  entry_home_below at (Some D.Int) from h = tt
  entry_home_below at (Some D.Bool) from h = tt
  entry_home_below at (Some D.Char) from h = tt
  entry_home_below at (Some D.Text) from h = literal_home_below at from.alias from.home h
  entry_home_below at (Some (D.Enum name place members)) from h = tt
  entry_home_below at (Some (D.Seq i)) from h = tt
  entry_home_below at (Some (D.Param n)) from h = tt
  entry_home_below at (Some (D.Array n i)) from h = tt
  entry_home_below at (Some (D.Tuple names is)) from h = tt
  entry_home_below at (Some (D.Object name place is all own_hooks parts)) from h = tt
  entry_home_below at (Some (D.Distinct name place i)) from h = tt
  entry_home_below at (Some (D.Ref name i)) from h = tt
  entry_home_below at (Some (D.Exception name place parent)) from h = tt

  module _ (x : Around) where
    literal_named : (at : ℕ) (other : Alias) {k : List WordInstr} → AllNamed vars k → AllNamed vars (owned.literal_text x at other k)
    literal_named at alias.Own rest = rest
    literal_named at (alias.Place p global) rest = rest
    literal_named at (alias.Value t) rest = rest
    literal_named at (alias.Node n) rest = rest
    literal_named at (alias.Text behind bytes) rest = named.datum vars many one (named.constant vars many two (handle_named at rest))

    entry_named : (at : ℕ) (entry : Option TypeDef) (from : Housed) {k : List WordInstr} → IsBelow vars from.home → AllNamed vars k
        → AllNamed vars (owned.entry_text x at entry from k)
    entry_named at None from f rest = rest
    entry_named at (Some D.Int) from f rest = rest
    entry_named at (Some D.Bool) from f rest = rest
    entry_named at (Some D.Char) from f rest = letter_named at (variable_of from) (variable_is from f) rest
    entry_named at (Some D.Text) from f rest = literal_named at from.alias rest
    entry_named at (Some (D.Enum name place members)) from f rest = rest
    entry_named at (Some (D.Seq i)) from f rest = rest
    entry_named at (Some (D.Param n)) from f rest = rest
    entry_named at (Some (D.Array n i)) from f rest = rest
    entry_named at (Some (D.Tuple names is)) from f rest = rest
    entry_named at (Some (D.Object name place is all own_hooks parts)) from f rest = rest
    entry_named at (Some (D.Distinct name place i)) from f rest = rest
    entry_named at (Some (D.Ref name i)) from f rest = rest
    entry_named at (Some (D.Exception name place parent)) from f rest = rest

    no_text_named : (at : ℕ) {k : List WordInstr} → AllNamed vars k → AllNamed vars (owned.no_text_code at k)
    no_text_named at rest = named.constant vars many one (named.constant vars many two (handle_named at rest))

    name_named : (at : ℕ) (entry : Option TypeDef) (enum : ℕ) (from : Housed) {k : List WordInstr} → IsBelow vars from.home → AllNamed vars k
        → AllNamed vars (owned.name_text x at entry enum from k)
    name_named at None enum from f rest = no_text_named at rest
    name_named at (Some D.Int) enum from f rest = no_text_named at rest
    name_named at (Some D.Bool) enum from f rest = bool_name_named at (variable_of from) (variable_is from f) rest
    name_named at (Some D.Char) enum from f rest = letter_named at (variable_of from) (variable_is from f) rest
    name_named at (Some D.Text) enum from f rest = literal_named at from.alias rest
    name_named at (Some (D.Enum name place members)) enum from f rest = name_handle_named at _ _ (variable_of from) (variable_is from f) rest
    name_named at (Some (D.Seq i)) enum from f rest = no_text_named at rest
    name_named at (Some (D.Param n)) enum from f rest = no_text_named at rest
    name_named at (Some (D.Array n i)) enum from f rest = no_text_named at rest
    name_named at (Some (D.Tuple names is)) enum from f rest = no_text_named at rest
    name_named at (Some (D.Object name place is all own_hooks parts)) enum from f rest = no_text_named at rest
    name_named at (Some (D.Distinct name place i)) enum from f rest = no_text_named at rest
    name_named at (Some (D.Ref name i)) enum from f rest = no_text_named at rest
    name_named at (Some (D.Exception name place parent)) enum from f rest = no_text_named at rest

    -- a copy of a literal, and one that is a label
    pub text_copied_named : (to : Home) (text : List ℕ) {k : List WordInstr} → IsBelow vars to → AllNamed vars k →
        AllNamed vars (owned.text_copy_code x to text k)
    text_copied_named to text t rest =
        named.datum vars many one (named.constant vars many two (handle_named LEFT_HANDLE_AT
        (called_named FIRST _ (Where to ∷ Where (Static LEFT_HANDLE_AT) ∷ []) one (omega arith) (t, (tt, tt)) rest)))

    -- the handle of one that is only read
    handle_put_named : (to : Home) (text : List ℕ) {k : List WordInstr} → IsBelow vars to → AllNamed vars k
        → AllNamed vars (address FIRST to ∷ Constant SECOND (length text) ∷ Store FIRST SECOND whole
        ∷ address FIRST (shifted 4 to) ∷ Datum SECOND (text_at x text) ∷ Store FIRST SECOND whole ∷ k)
    handle_put_named to text t rest =
        named.address vars many FIRST to one t (named.constant vars many two (named.store vars many one two
        (named.address vars many FIRST (shifted 4 to) one (shifted_below vars 4 to t) (named.datum vars many two (named.store vars many one two rest)))))

    pub lent_text_named : (other : Alias) (to : Home) (text : List ℕ) {k : List WordInstr} → IsBelow vars to → AllNamed vars k
        → AllNamed vars (owned.lent_text_code x other to text k)
    lent_text_named alias.Own to text t rest = handle_put_named to text t rest
    lent_text_named (alias.Place p global) to text t rest = handle_put_named to text t rest
    lent_text_named (alias.Value u) to text t rest = handle_put_named to text t rest
    lent_text_named (alias.Node n) to text t rest = handle_put_named to text t rest
    lent_text_named (alias.Text behind bytes) to text t rest = rest

    pub text_fits_named : (text : List ℕ) (from : Housed) (to : ℕ) {k : List WordInstr} → IsBelow vars from.home → AllNamed vars k
        → AllNamed vars (owned.literal_text x RIGHT_HANDLE_AT from.alias (owned.text_fits_code (text_at x text) (length text)
        (owned.literal_home RIGHT_HANDLE_AT from.alias from.home) to k))
    text_fits_named text from to f rest =
        literal_named RIGHT_HANDLE_AT from.alias
        (named.datum vars many one (named.constant vars many two (handle_named LEFT_HANDLE_AT
        (called_named FOURTH _ (Where (Static LEFT_HANDLE_AT) ∷ Where (owned.literal_home RIGHT_HANDLE_AT from.alias from.home) ∷ []) four (omega arith)
        (tt, (literal_home_below RIGHT_HANDLE_AT from.alias from.home f, tt))
        (named.constant vars many five (named.branch vars many four five rest))))))

    text_home_below : (at : ℕ) (ty : Option ℕ) (from : Housed) → IsBelow vars from.home → IsBelow vars (owned.text_home x at ty from)
    text_home_below at ty from f = entry_home_below at (owned.entry_of x.table ty) from f

    two_named : (of : List (Option ℕ)) (hs : List Housed) {k : List WordInstr} → AllBelow hs → AllNamed vars k → AllNamed vars (owned.two_made x of hs k)
    two_named of hs e rest =
        entry_named LEFT_HANDLE_AT (owned.entry_of x.table (owned.type_of of 0)) (operand_at hs 0) (at_below hs 0 e)
        (entry_named RIGHT_HANDLE_AT (owned.entry_of x.table (owned.type_of of 1)) (operand_at hs 1) (at_below hs 1 e) rest)

    left_below : (of : List (Option ℕ)) (hs : List Housed) → AllBelow hs → IsBelow vars (owned.left_of x of hs)
    left_below of hs e = text_home_below LEFT_HANDLE_AT (owned.type_of of 0) (operand_at hs 0) (at_below hs 0 e)

    right_below : (of : List (Option ℕ)) (hs : List Housed) → AllBelow hs → IsBelow vars (owned.right_of x of hs)
    right_below of hs e = text_home_below RIGHT_HANDLE_AT (owned.type_of of 1) (operand_at hs 1) (at_below hs 1 e)

    -- ---- rows of texts

    pub compared_named : (c : Comparison) (to : ℕ) (of : List (Option ℕ)) (hs : List Housed) {k : List WordInstr} → to < vars → AllBelow hs
        → AllNamed vars k → AllNamed vars (owned.two_made x of hs (text_compare_code c to (owned.left_of x of hs) (owned.right_of x of hs) k))
    compared_named c to of hs t e rest =
        two_named of hs e (called_named FOURTH _ (Where (owned.left_of x of hs) ∷ Where (owned.right_of x of hs) ∷ []) four (omega arith)
        (left_below of hs e, (right_below of hs e, tt))
        (named.constant vars many five (compare_named vars many c to FOURTH FIFTH t four five rest)))

    pub joined_named : (to : Home) (of : List (Option ℕ)) (hs : List Housed) {k : List WordInstr} → IsBelow vars to → AllBelow hs → AllNamed vars k
        → AllNamed vars (owned.two_made x of hs (join_code to (owned.left_of x of hs) (owned.right_of x of hs) k))
    joined_named to of hs t e rest =
        two_named of hs e (called_named FIRST _ (Where to ∷ Where (owned.left_of x of hs) ∷ Where (owned.right_of x of hs) ∷ []) one (omega arith)
        (t, (left_below of hs e, (right_below of hs e, tt))) rest)

    spelled_named : (to : Home) (number : ℕ) {k : List WordInstr} → IsBelow vars to → number < vars → AllNamed vars k
        → AllNamed vars (show_code to number k)
    spelled_named to number t i rest = called_named FIRST _ (Where to ∷ Where (Variable number) ∷ []) one (omega arith) (t, (i, tt)) rest

    copied_named : (to : Home) (entry : Option TypeDef) (enum : ℕ) (from : Housed) {k : List WordInstr} → IsBelow vars to → IsBelow vars from.home
        → AllNamed vars k
        → AllNamed vars (owned.name_text x LEFT_HANDLE_AT entry enum from (copy_code to (owned.entry_home LEFT_HANDLE_AT entry from) k))
    copied_named to entry enum from t f rest =
        name_named LEFT_HANDLE_AT entry enum from f
        (called_named FIRST _ (Where to ∷ Where (owned.entry_home LEFT_HANDLE_AT entry from) ∷ []) one (omega arith)
        (t, (entry_home_below LEFT_HANDLE_AT entry from f, tt)) rest)

    pub shown_named : (entry : Option TypeDef) (to : Home) (ty : Option ℕ) (from : Housed) {k : List WordInstr} → IsBelow vars to → IsBelow vars from.home
        → AllNamed vars k → AllNamed vars (owned.shown_code x entry to ty from k)
    shown_named None to ty from t f rest = spelled_named to (variable_of from) t (variable_is from f) rest
    shown_named (Some D.Int) to ty from t f rest = spelled_named to (variable_of from) t (variable_is from f) rest
    shown_named (Some D.Bool) to ty from t f rest = copied_named to (Some D.Bool) (owned.base_of x.table ty) from t f rest
    shown_named (Some D.Char) to ty from t f rest = copied_named to (Some D.Char) (owned.base_of x.table ty) from t f rest
    shown_named (Some D.Text) to ty from t f rest = copied_named to (Some D.Text) (owned.base_of x.table ty) from t f rest
    shown_named (Some (D.Enum name place members)) to ty from t f rest =
        copied_named to (Some (D.Enum name place members)) (owned.base_of x.table ty) from t f rest
    shown_named (Some (D.Seq i)) to ty from t f rest = copied_named to (Some (D.Seq i)) (owned.base_of x.table ty) from t f rest
    shown_named (Some (D.Param n)) to ty from t f rest = copied_named to (Some (D.Param n)) (owned.base_of x.table ty) from t f rest
    shown_named (Some (D.Array n i)) to ty from t f rest = copied_named to (Some (D.Array n i)) (owned.base_of x.table ty) from t f rest
    shown_named (Some (D.Tuple names is)) to ty from t f rest = copied_named to (Some (D.Tuple names is)) (owned.base_of x.table ty) from t f rest
    shown_named (Some (D.Object name place is all own_hooks parts)) to ty from t f rest =
        copied_named to (Some (D.Object name place is all own_hooks parts)) (owned.base_of x.table ty) from t f rest
    shown_named (Some (D.Distinct name place i)) to ty from t f rest =
        copied_named to (Some (D.Distinct name place i)) (owned.base_of x.table ty) from t f rest
    shown_named (Some (D.Ref name i)) to ty from t f rest = copied_named to (Some (D.Ref name i)) (owned.base_of x.table ty) from t f rest
    shown_named (Some (D.Exception name place parent)) to ty from t f rest =
        copied_named to (Some (D.Exception name place parent)) (owned.base_of x.table ty) from t f rest

    added_letter_named : (label : ℕ) (to : Home) (from : ℕ) {k : List WordInstr} → IsBelow vars to → from < vars → AllNamed vars k
        → AllNamed vars (owned.added_letter_code label to from k)
    added_letter_named label to from t i rest =
        named.address vars many FIRST to one t (named.load vars many two one (named.sum vars many three one (named.load vars many three three
        (named.constant vars many four (named.branch vars many three four (named.sum vars many five three (named.load vars many five five
        (named.compute vars many four four five (named.sum vars many five two (named.branch vars many five four (named.compute vars many five three two
        (named.store vars many five i (named.sum vars many two two (named.store vars many one two (named.sum vars many one one
        (named.store vars many one three (named.jump vars many (named.label vars many (letter_named RIGHT_HANDLE_AT from i
        (called_named FIRST _ (Where to ∷ Where (Static RIGHT_HANDLE_AT) ∷ []) one (omega arith) (t, (tt, tt)) (named.label vars many rest)))))))))))))))))))))

    pub appended_named : (letter : Bool) (label : ℕ) (to : Home) (ty : Option ℕ) (from : Housed) {k : List WordInstr} → IsBelow vars to
        → IsBelow vars from.home → AllNamed vars k → AllNamed vars (owned.appended_code x letter label to ty from k)
    appended_named true label to ty from t f rest = added_letter_named label to (variable_of from) t (variable_is from f) rest
    appended_named false label to ty from t f rest =
        entry_named RIGHT_HANDLE_AT (owned.entry_of x.table ty) from f
        (called_named FIRST _ (Where to ∷ Where (owned.text_home x RIGHT_HANDLE_AT ty from) ∷ []) one (omega arith)
        (t, (entry_home_below RIGHT_HANDLE_AT (owned.entry_of x.table ty) from f, tt)) rest)

    -- ---- lengths

    length_named : (to : Home) (n size : ℕ) {k : List WordInstr} → IsBelow vars to → n < vars → AllNamed vars k → AllNamed vars (length_code to n size k)
    length_named to n size t i rest = called_named FIRST _ (Where to ∷ Where (Variable n) ∷ Number size ∷ []) one (omega arith) (t, (i, (tt, tt))) rest

    resized_named : (hooks : Bool) (label ty : ℕ) (to : Home) (n size : ℕ) {k : List WordInstr} → IsBelow vars to → n < vars → AllNamed vars k
        → AllNamed vars (owned.resized_code x hooks label ty to n size k)
    resized_named true label ty to n size t i rest =
        named.address vars many FIRST to one t (named.load vars many one one (named.branch vars many one i
        (called_named FIRST _ (Where to ∷ Where (Variable n) ∷ []) one (omega arith) (t, (i, tt))
        (named.jump vars many (named.label vars many (length_named to n size t i (named.label vars many rest)))))))
    resized_named false label ty to n size t i rest = length_named to n size t i rest

    pub sized_named : (text : Bool) (label ty : ℕ) (to : Home) (n : ℕ) {k : List WordInstr} → IsBelow vars to → n < vars → AllNamed vars k
        → AllNamed vars (owned.counted_code n (owned.sized_code x text label ty to n k))
    sized_named true label ty to n t i rest =
        counted_named n i (called_named FIRST _ (Where to ∷ Where (Variable n) ∷ []) one (omega arith) (t, (i, tt)) rest)
    sized_named false label ty to n t i rest =
        counted_named n i (resized_named (owned.has_hooks x.table (owned.element_in (entry_at x.table ty))) label (base_at x.table ty) to n
        (owned.each_bytes x.table (entry_at x.table ty)) t i rest)
