-- Operators between and before operands.
use Rattle.std.specs.Prelude.{ℕ, Bool, true, false, ◌&&◌, if◌then◌else◌, List, [], ◌∷◌, codes, Option, Some, None, Ok}
use Rattle.arc_base.specs.declared.place.Place.{Place}
use Rattle.arc_base.specs.Refusal.{and_then}
use Rattle.nim_types.specs.Types as type
use Rattle.nim_types.specs.Types.{Ty, same}
use Rattle.nim_tree.specs.declared.expr.UnaryOp.{UnaryOp}
use Rattle.nim_tree.specs.declared.expr.UnaryOp.TheVariants as unary_sign
use Rattle.nim_tree.specs.declared.expr.BinaryOp.{BinaryOp}
use Rattle.nim_tree.specs.declared.expr.BinaryOp.TheVariants as sign
use Rattle.nim_program.specs.declared.operation.UnaryOperator.{UnaryOperator}
use Rattle.nim_program.specs.declared.operation.UnaryOperator.TheVariants.{Plus, Negate, Complement, Not}
use Rattle.nim_program.specs.declared.operation.Operator.{Operator}
use Rattle.nim_program.specs.declared.operation.Operator.TheVariants as operator
use Rattle.nim_program.specs.declared.operation.Comparison.{Comparison}
use Rattle.nim_program.specs.declared.operation.Comparison.TheVariants as comparison
use Rattle.nim_program.specs.declared.operation.Short.{Short}
use Rattle.nim_program.specs.declared.operation.Short.TheVariants as short
use Rattle.nim_program.specs.declared.operation.Operation.{Operation}
use Rattle.nim_program.specs.declared.operation.Operation.TheVariants as operation
use Rattle.nim_program.specs.Program.{Expr, Early}
use Rattle.nim_program.specs.Nodes.{doing, unary, two_values}
use Rattle.expr_rules.specs.Env.{Env, callable, known_as}
use Rattle.expr_rules.specs.Answers.{Answer, not_typed, node, Valued, Operand, value, open_sequence, open_as}
use Rattle.expr_rules.specs.Builtins.{is_shown}
use Rattle.expr_rules.specs.Calls.{fitting, one_of}

-- ---- before an operand

-- `-` and `+` of an int, `not` of an int and a bool; `$` is called by its name
abbrev pub unary_of : UnaryOp → Ty → Option UnaryOperator
unary_of unary_sign.Minus type.int = Some Negate
unary_of unary_sign.Plus type.int = Some Plus
unary_of unary_sign.Not type.int = Some Complement
unary_of unary_sign.Not type.bool = Some Not
unary_of _ _ = None

abbrev pub unary_by : ℕ → Place → Option UnaryOperator → Valued → Answer Expr
unary_by n at (Some o) v = Ok (unary (node n at) v.of o v.expr)
unary_by n at None v = not_typed at

abbrev pub unary_rule : ℕ → Place → UnaryOp → Valued → Answer Expr
unary_rule n at op v = unary_by n at (unary_of op v.of) v

-- ---- between operands

-- what an operator means on operands of two types
pub data Meaning : Type 0 where
  -- an operation that gives a value of the type
  does : Operation → Ty → Meaning
  -- one that stops early
  stops_early : Short → Meaning
  means_nothing : Meaning

abbrev pub computes : Operator → Ty → Meaning
computes o ty = does (operation.Binary o) ty

abbrev pub of_ints : Operator → Ty → Ty → Meaning
of_ints o type.int type.int = computes o type.int
of_ints o _ _ = means_nothing

-- of ints bit by bit; of bools as it is said
abbrev pub of_bits : Operator → Meaning → Ty → Ty → Meaning
of_bits o logic type.int type.int = computes o type.int
of_bits o logic type.bool type.bool = logic
of_bits o logic _ _ = means_nothing

-- what is joined to a text
abbrev pub is_text_or_char : Ty → Bool
is_text_or_char type.text = true
is_text_or_char type.char = true
is_text_or_char _ = false

abbrev pub of_texts : Ty → Ty → Meaning
of_texts s t = if is_text_or_char s && is_text_or_char t then does operation.Join type.text else means_nothing

-- of two ints, bools, chars, texts, or members of one enum
abbrev pub of_equals : Comparison → Ty → Ty → Meaning
of_equals c s t = if same s t && is_shown s then does (operation.Compare c) type.bool else means_nothing

abbrev pub meaning_of : BinaryOp → Ty → Ty → Meaning
meaning_of sign.Plus s t = of_ints operator.Add s t
meaning_of sign.Minus s t = of_ints operator.Subtract s t
meaning_of sign.Times s t = of_ints operator.Multiply s t
meaning_of sign.Div s t = of_ints operator.Divide s t
meaning_of sign.Mod s t = of_ints operator.Modulo s t
meaning_of sign.Shl s t = of_ints operator.ShiftLeft s t
meaning_of sign.Shr s t = of_ints operator.ShiftRight s t
meaning_of sign.And s t = of_bits operator.BitAnd (stops_early short.And) s t
meaning_of sign.Or s t = of_bits operator.BitOr (stops_early short.Or) s t
meaning_of sign.Xor s t = of_bits operator.BitXor (computes operator.BitXor type.bool) s t
meaning_of sign.Join s t = of_texts s t
meaning_of sign.Equal s t = of_equals comparison.Equal s t
meaning_of sign.Unequal s t = of_equals comparison.Unequal s t
meaning_of sign.Less s t = of_equals comparison.Less s t
meaning_of sign.AtMost s t = of_equals comparison.AtMost s t
meaning_of sign.Greater s t = of_equals comparison.Greater s t
meaning_of sign.AtLeast s t = of_equals comparison.AtLeast s t

-- the name of what may be borrowed
abbrev pub borrowed_name : BinaryOp → Option (List ℕ)
borrowed_name sign.Equal = Some (codes "==")
borrowed_name sign.Unequal = Some (codes "!=")
borrowed_name sign.Less = Some (codes "<")
borrowed_name sign.AtMost = Some (codes "<=")
borrowed_name sign.Greater = Some (codes ">")
borrowed_name sign.AtLeast = Some (codes ">=")
borrowed_name _ = None

abbrev pub is_comparison : BinaryOp → Bool
is_comparison sign.Equal = true
is_comparison sign.Unequal = true
is_comparison sign.Less = true
is_comparison sign.AtMost = true
is_comparison sign.Greater = true
is_comparison sign.AtLeast = true
is_comparison _ = false

abbrev pub borrowed_by : Env → ℕ → Place → Option (List ℕ) → Valued → Valued → Answer Expr
borrowed_by env n at None v w = not_typed at
borrowed_by env n at (Some x) v w = one_of n at x (fitting (callable (known_as env x)) (value v ∷ value w ∷ [])) (not_typed at)

-- what isn't built in may be borrowed
abbrev pub binary_by : Env → ℕ → Place → BinaryOp → Meaning → Valued → Valued → Answer Expr
binary_by env n at op (does o t) v w = Ok (doing (node n at) t o (two_values v.expr w.expr))
binary_by env n at op (stops_early s) v w = Ok (Early (node n at) type.bool s v.expr w.expr)
binary_by env n at op means_nothing v w = borrowed_by env n at (borrowed_name op) v w

-- what is open has the type of the other operand
abbrev pub other_settled : Option Valued → Place → Answer Valued
other_settled (Some v) at = Ok v
other_settled None at = not_typed at

abbrev pub binary_rule : Env → ℕ → Place → BinaryOp → Operand → Operand → Answer Expr
binary_rule env n at op (value v) (value w) = binary_by env n at op (meaning_of op v.of w.of) v w
binary_rule env n at op (value v) (open_sequence p m) =
    and_then (other_settled (open_as v.of p m) p) (λ w. binary_by env n at op (meaning_of op v.of w.of) v w)
binary_rule env n at op (open_sequence p m) (value w) =
    and_then (other_settled (open_as w.of p m) p) (λ v. binary_by env n at op (meaning_of op v.of w.of) v w)
binary_rule env n at op (open_sequence p m) _ = not_typed p
binary_rule env n at op _ _ = not_typed at
