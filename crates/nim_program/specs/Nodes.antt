-- Nodes that are built often, named by what they make.
use Rattle.std.specs.Prelude.{ℕ, List, [], ◌∷◌, Option, Some, None}
use Rattle.nim_types.specs.Types.{Ty}
use Rattle.nim_program.specs.declared.expr.Node.{Node}
use Rattle.nim_program.specs.declared.operation.Operation.{Operation}
use Rattle.nim_program.specs.declared.operation.Operation.TheVariants as O
use Rattle.nim_program.specs.declared.operation.UnaryOperator.{UnaryOperator}
use Rattle.nim_program.specs.declared.operation.Operator.{Operator}
use Rattle.nim_program.specs.declared.operation.Comparison.{Comparison}
use Rattle.nim_program.specs.Program.{Literal, Doing, Building, Giving, Calling, Expr, Apply, Read, Path, Args, NoArg, ByValue, ByPath}
use Rattle.nim_program.specs.Program.{Stmt, Do, Stmts, Blocks, Otherwise, Block}

-- ---- operands

abbrev pub one_value : Expr → Args
one_value value = ByValue value NoArg

abbrev pub two_values : (left right : Expr) → Args
two_values left right = ByValue left (ByValue right NoArg)

abbrev pub one_path : Path → Args
one_path path = ByPath path NoArg

abbrev pub path_and_value : Path → Expr → Args
path_and_value path value = ByPath path (ByValue value NoArg)

-- operands before others
abbrev pub followed_by : Args → Args → Args
followed_by NoArg others = others
followed_by (ByValue value rest) others = ByValue value (followed_by rest others)
followed_by (ByPath path rest) others = ByPath path (followed_by rest others)

-- what selects a branch of a `case`, before others: a path is read in place
abbrev pub selecting : Expr → Args → Args
selecting (Read path) rest = ByPath path rest
selecting other rest = ByValue other rest

-- ---- expressions

abbrev pub literal : Node → Ty → Literal → Expr
literal node ty value = Apply node (Some ty) (Giving value) NoArg

-- an operation that gives a value, and one that gives none
abbrev pub doing : Node → Ty → Operation → Args → Expr
doing node ty operation operands = Apply node (Some ty) (Doing operation) operands

abbrev pub acting : Node → Operation → Args → Expr
acting node operation operands = Apply node None (Doing operation) operands

abbrev pub unary : Node → Ty → UnaryOperator → (operand : Expr) → Expr
unary node ty operator operand = doing node ty (O.Unary operator) (one_value operand)

abbrev pub binary : Node → Ty → Operator → (left right : Expr) → Expr
binary node ty operator left right = doing node ty (O.Binary operator) (two_values left right)

abbrev pub compare : Node → Ty → Comparison → (left right : Expr) → Expr
compare node ty comparison left right = doing node ty (O.Compare comparison) (two_values left right)

abbrev pub convert : Node → Ty → (operand : Expr) → Expr
convert node ty operand = doing node ty O.Convert (one_value operand)

abbrev pub show : Node → Ty → (operand : Expr) → Expr
show node ty operand = doing node ty O.Show (one_value operand)

abbrev pub make : Node → Ty → (parts : Args) → Expr
make node ty parts = doing node ty O.Make parts

abbrev pub sequence : Node → Ty → (elements : Args) → Expr
sequence node ty elements = doing node ty O.Sequence elements

abbrev pub new_sequence : Node → Ty → (length : Expr) → Expr
new_sequence node ty length = doing node ty O.NewSequence (one_value length)

-- of values of these fields
abbrev pub construct : Node → Ty → (fields : List ℕ) → Args → Expr
construct node ty fields operands = Apply node (Some ty) (Building fields) operands

abbrev pub call : Node → Option Ty → (proc : ℕ) → Args → Expr
call node ty proc operands = Apply node ty (Calling proc []) operands

abbrev pub echo : Node → Args → Expr
echo node operands = acting node O.Echo operands

-- ---- statements

-- the value is let go
abbrev pub discard : Node → Expr → Stmt
discard node value = Do (acting node O.Discard (one_value value))

abbrev pub assign : Node → Path → Expr → Stmt
assign node path value = Do (acting node O.Assign (path_and_value path value))

abbrev pub update : Node → Operator → Path → Expr → Stmt
update node operator path value = Do (acting node (O.Update operator) (path_and_value path value))

abbrev pub append : Node → Path → Expr → Stmt
append node path value = Do (acting node O.Append (path_and_value path value))

-- blocks of branches, and the one for all else
abbrev pub blocks_of : List Stmts → (otherwise : Stmts) → Blocks
blocks_of [] otherwise = Otherwise otherwise
blocks_of (block ∷ rest) otherwise = Block block (blocks_of rest otherwise)
