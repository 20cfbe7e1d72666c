-- The operations that are called by name and that no source declares, as the code has them. It serves the proofs of the code alone.
use Rattle.std.specs.Prelude.{◌≡◌, ℕ, ℤ, ◌<◌, Bool, true, false, List, [], ◌∷◌, Option, Some, None, Ok}
use Rattle.arc_base.specs.Refusal.{and_then}
use Rattle.nim_types.specs.Types as type
use Rattle.nim_types.specs.Types.{Ty}
use Rattle.nim_types.specs.Table.{type_at}
use Rattle.nim_program.specs.declared.expr.Node.{Node}
use Rattle.nim_program.specs.declared.operation.Operation.TheVariants as operation
use Rattle.nim_program.specs.declared.operation.Operator.TheVariants as operator
use Rattle.nim_program.specs.declared.operation.Measure.TheVariants as measure
use Rattle.nim_program.specs.Program.{Number, Doing, Giving, Expr, Apply, Path, ByPath}
use Rattle.nim_program.specs.Nodes.{acting, one_path, path_and_value}
use Rattle.nim_program.specs.View.{if_type}
use Rattle.nim_program.specs.Ints.{low, high}
use Rattle.expr_parts.specs.declared.scope.Kinds.{Kinds}
use Rattle.expr_operations.specs.declared.built_in.BuiltIn.{BuiltIn as RustBuiltIn}
use Rattle.expr_operations.specs.declared.built_in.BuiltIn.TheVariants as built_in
use Rattle.expr_operations.specs.declared.built_in.Hand.{Hand as RustHand}
use Rattle.expr_operations.specs.declared.built_in.Hand.TheVariants as hand
use Rattle.expr_operations.specs.declared.built_in.Makes.{Makes}
use Rattle.expr_operations.specs.declared.built_in.TypeNode.{TypeNode}
use Rattle.expr_operations.specs.declared.built_in.TypeNode.TheVariants as type_node
use Rattle.expr_operations.specs.declared.built_in.Goes.{Goes}
use Rattle.expr_operations.specs.declared.built_in.Goes.TheVariants as goes
use Rattle.expr_operations.specs.declared.built_in.Join.{Join}
use Rattle.expr_operations.specs.declared.built_in.Second.{Second}
use Rattle.expr_operations.specs.declared.built_in.Second.TheVariants as second
use Rattle.expr_operations.specs.declared.built_in.Taken.{Taken}
use Rattle.expr_operations.specs.declared.built_in.Taken.TheVariants as taken
use Rattle.expr_rules.specs.Answers.{Answer, Valued}
use Rattle.expr_rules.specs.Builtins.{Hand, as_value, in_place, to_write, written_by, handed, Done, done, writes_rule, written, BuiltIn, on_nothing, on_one}
use Rattle.expr_rules.specs.Builtins.{on_place_and_value, on_places, on_type, on_input, on_input_and_place, stepping, if_kind, likewise, popped}
use Rattle.expr_rules.specs.Builtins.{is_int, is_text, is_ordinal, is_shown, has_length, joined_to, elements_of, stepped_by, resized_by}

-- ---- by name

-- a line that becomes a text
abbrev pub line_rows : List BuiltIn
line_rows = on_input_and_place is_text type.bool operation.ReadLineInto ∷ []

abbrev pub rows_of : RustBuiltIn → List BuiltIn
rows_of built_in.Len = on_one in_place (if_kind has_length (Some type.int)) (operation.Measure measure.Len) ∷ []
rows_of built_in.High =
    on_one in_place (if_kind has_length (Some type.int)) (operation.Measure measure.High)
    ∷ on_type (if_kind is_int (Some type.int)) (Giving (Number high)) ∷ []
rows_of built_in.Low = on_type (if_kind is_int (Some type.int)) (Giving (Number low)) ∷ []
rows_of built_in.Ord = on_one as_value (if_kind is_ordinal (Some type.int)) operation.Convert ∷ []
rows_of built_in.Chr = on_one as_value (if_kind is_int (Some type.char)) operation.Convert ∷ []
rows_of built_in.Dollar = on_one as_value (if_kind is_shown (Some type.text)) operation.Show ∷ []
rows_of built_in.Inc = stepping operator.Add
rows_of built_in.Dec = stepping operator.Subtract
rows_of built_in.Add = on_place_and_value joined_to operation.Append ∷ on_place_and_value elements_of operation.Add ∷ []
rows_of built_in.SetLen = on_place_and_value resized_by operation.SetLength ∷ []
rows_of built_in.Pop = on_one to_write popped operation.Pop ∷ []
rows_of built_in.Default = on_type likewise (Doing operation.Default) ∷ []
rows_of built_in.Move = on_one to_write likewise operation.Move ∷ []
rows_of built_in.Swap = on_places operation.Swap ∷ []
rows_of built_in.Quit = on_nothing operation.Quit ∷ on_one as_value (if_kind is_int None) operation.Quit ∷ []
rows_of built_in.ReadLine = on_input type.text operation.ReadLine ∷ line_rows

-- of the one that reads from standard input, and the one that takes no operand
abbrev pub reading_rows : Bool → List BuiltIn
reading_rows true = rows_of built_in.ReadLine
reading_rows false = []

abbrev pub quit_rows : Bool → List BuiltIn
quit_rows true = rows_of built_in.Quit
quit_rows false = []

abbrev pub rows_in : Option RustBuiltIn → List BuiltIn
rows_in None = []
rows_in (Some x) = rows_of x

-- ---- the numbers of types that no source declares

pub record AreKinds (ts : List Ty) (kinds : Kinds) : Type 0 where
  pub int : type_at ts kinds.int ≡ type.int
  pub bool : type_at ts kinds.bool ≡ type.bool
  pub char : type_at ts kinds.char ≡ type.char
  pub text : type_at ts kinds.text ≡ type.text

pub record KindsBelow (n : ℕ) (kinds : Kinds) : Type 0 where
  pub int : kinds.int < n
  pub bool : kinds.bool < n
  pub char : kinds.char < n
  pub text : kinds.text < n

-- ---- on one operand

abbrev pub hand_of : RustHand → Hand
hand_of hand.AsValue = as_value
hand_of hand.InPlace = in_place
hand_of hand.ToWrite = to_write

abbrev pub done_by : List Ty → Node → Valued → Makes → Done
done_by ts n v m = done (written_by (hand_of m.hand) v) (Apply n (if_type ts m.ty) (Doing m.operation) (handed (hand_of m.hand) v))

-- what is written can be, and then it is this
abbrev pub done_rule : Done → Answer Expr
done_rule d = and_then (writes_rule d.writes) (λ _. Ok d.expr)

abbrev pub limit_rows : ℤ → List BuiltIn
limit_rows z = on_type (if_kind is_int (Some type.int)) (Giving (Number z)) ∷ []

abbrev pub popped_type : List Ty → Option ℕ → Option (Option Ty)
popped_type ts None = None
popped_type ts (Some i) = Some (Some (type_at ts i))

abbrev pub pop_makes : Option ℕ → Option Makes
pop_makes None = None
pop_makes (Some i) = Some (record { hand = hand.ToWrite; ty = Some i; operation = operation.Pop })

abbrev pub type_rows : Option TypeNode → List BuiltIn
type_rows None = []
type_rows (Some type_node.Least) = limit_rows low
type_rows (Some type_node.Greatest) = limit_rows high
type_rows (Some type_node.Default) = on_type likewise (Doing operation.Default) ∷ []

-- ---- on two operands

abbrev pub goes_of : Goes → Ty → List Ty
goes_of goes.Stepped t = stepped_by t
goes_of goes.Joined t = joined_to t
goes_of goes.Elements t = elements_of t
goes_of goes.Resized t = resized_by t

abbrev pub second_rows : Second → List BuiltIn
second_rows (second.Value j) = on_place_and_value (goes_of j.goes) j.operation ∷ []
second_rows second.Place = on_places operation.Swap ∷ []
second_rows second.Nothing = []

-- the types of numbers
abbrev pub taken_types : List Ty → Taken → List Ty
taken_types ts taken.Nothing = []
taken_types ts (taken.One a) = type_at ts a ∷ []
taken_types ts (taken.Either a b) = type_at ts a ∷ type_at ts b ∷ []

abbrev pub TakenWithin : ℕ → Taken → Type 0
TakenWithin n taken.Nothing = Unit {0}
TakenWithin n (taken.One a) = a < n
TakenWithin n (taken.Either a b) = (a < n) × (b < n)

-- the path that is written, with a value
abbrev pub joined : Node → Join → Valued → Expr → Answer Expr
joined n j v e = and_then (written v) (λ path. Ok (acting n j.operation (path_and_value path e)))

-- with a second path that is written
abbrev pub swapped : Node → Path → Valued → Answer Expr
swapped n left v = and_then (written v) (λ right. Ok (acting n operation.Swap (ByPath left (one_path right))))
