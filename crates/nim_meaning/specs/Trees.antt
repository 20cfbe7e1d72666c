-- Trees of small programs, for examples: every node stands at one place. No public contract but that of examples speaks of it.
use Rattle.std.specs.Prelude.{◌≡◌, ℕ, pos, Bool, true, false, List, [], ◌∷◌, ◌++◌, Option, Some, None}
use Rattle.arc_base.specs.declared.place.Place.{Place}
use Rattle.arc_base.specs.Event.{Event, writes}
use Rattle.arc_base.specs.declared.outside.Stream.TheVariants.{Out, Err}
use Rattle.arc_base.specs.Behaviour.{Seen, Phase, Running, Ended, no_objects}
use Rattle.arc_base.specs.Stepping.{seen}
use Rattle.nim_types.specs.Types.{Ty, int, bool, char, text, Facts}
use Rattle.nim_plan.specs.declared.plan.Plan.{Plan}
use Rattle.nim_program.specs.declared.expr.Node.{Node}
use Rattle.nim_program.specs.declared.operation.Operation.{Operation}
use Rattle.nim_program.specs.declared.operation.Operation.TheVariants as O
use Rattle.nim_program.specs.declared.operation.Operator.{Operator}
use Rattle.nim_program.specs.declared.operation.UnaryOperator.{UnaryOperator}
use Rattle.nim_program.specs.declared.operation.UnaryOperator.TheVariants.{Negate}
use Rattle.nim_program.specs.declared.operation.Comparison.{Comparison}
use Rattle.nim_program.specs.declared.operation.Measure.{Measure}
use Rattle.nim_program.specs.declared.operation.Short.TheVariants.{And, Or}
use Rattle.nim_program.specs.declared.stmt.Leaving.{Leaving}
use Rattle.nim_program.specs.declared.program.Mode.TheVariants as M
use Rattle.nim_program.specs.Program.{Literal, Number, Characters, Doing, Giving, Calling, ByConditions, Expr, Apply, Read, Early, Path, Variable, Field}
use Rattle.nim_program.specs.Program.{Element, Args, NoArg, ByValue, ByPath, Declared, While, Count, Each, Stmt, Do, Give, Leave, Select, Loop}
use Rattle.nim_program.specs.Program.{Stmts, Empty, Then, Declare, Otherwise, Block, Param, Proc, Program}
use Rattle.nim_program.specs.Nodes.{one_path}
use Rattle.nim_program.specs.Ints.{truth}
use Rattle.nim_meaning.specs.Meaning.{meaning}
use Rattle.nim_meaning.specs.LeftOut.{IsBuilt}

abbrev pub here : Place
here = record { «module» = 0; line = 1; column = 1 }

abbrev pub node : Node
node = record { number = 0; at = here }

-- ---- operands

abbrev pub values : List Expr → Args
values [] = NoArg
values (first ∷ rest) = ByValue first (values rest)

abbrev pub one : Expr → Args
one value = ByValue value NoArg

-- ---- expressions

abbrev pub constant : Ty → Literal → Expr
constant ty literal = Apply node (Some ty) (Giving literal) NoArg

abbrev pub number : ℕ → Expr
number n = constant int (Number (pos n))

abbrev pub letter : ℕ → Expr
letter n = constant char (Number (pos n))

abbrev pub truth_value : Bool → Expr
truth_value b = constant bool (Number (truth b))

abbrev pub literal : List ℕ → Expr
literal bytes = constant text (Characters bytes)

-- an operation with a value
abbrev pub operated : Ty → Operation → Args → Expr
operated ty operation operands = Apply node (Some ty) (Doing operation) operands

abbrev pub unary : UnaryOperator → Expr → Expr
unary operator operand = operated int (O.Unary operator) (one operand)

abbrev pub minus : Expr → Expr
minus operand = unary Negate operand

abbrev pub binary : Operator → Expr → Expr → Expr
binary operator left right = operated int (O.Binary operator) (values (left ∷ right ∷ []))

abbrev pub comparing : Comparison → Expr → Expr → Expr
comparing comparison left right = operated bool (O.Compare comparison) (values (left ∷ right ∷ []))

abbrev pub converted : Ty → Expr → Expr
converted ty operand = operated ty O.Convert (one operand)

abbrev pub made : Ty → List Expr → Expr
made ty parts = operated ty O.Make (values parts)

abbrev pub measured : Measure → Path → Expr
measured measure path = operated int (O.Measure measure) (one_path path)

abbrev pub both : Expr → Expr → Expr
both left right = Early node bool And left right

abbrev pub either : Expr → Expr → Expr
either left right = Early node bool Or left right

abbrev pub call : ℕ → Args → Expr
call proc args = Apply node (Some int) (Calling proc []) args

-- ---- paths

abbrev pub global_of : Ty → ℕ → Path
global_of ty place = Variable node ty place true

abbrev pub local_of : Ty → ℕ → Path
local_of ty place = Variable node ty place false

abbrev pub global : ℕ → Path
global place = global_of int place

abbrev pub local : ℕ → Path
local place = local_of int place

-- an int in an array, and one in an object
abbrev pub element : Path → Expr → Path
element base index = Element node int base index None

abbrev pub field : Path → ℕ → Path
field base number = Field node int base number

abbrev pub value_of : ℕ → Expr
value_of place = Read (global place)

abbrev pub value_here : ℕ → Expr
value_here place = Read (local place)

-- ---- statements

-- an operation without a value
abbrev pub operate : Operation → Args → Stmt
operate operation operands = Do (Apply node None (Doing operation) operands)

abbrev pub perform : ℕ → Args → Stmt
perform proc args = Do (Apply node None (Calling proc []) args)

abbrev pub echoes : List Expr → Stmt
echoes operands = operate O.Echo (values operands)

abbrev pub echo : Expr → Stmt
echo value = echoes (value ∷ [])

abbrev pub assign : Path → Expr → Stmt
assign path value = operate O.Assign (ByPath path (one value))

abbrev pub update : Operator → Path → Expr → Stmt
update operator path value = operate (O.Update operator) (ByPath path (one value))

abbrev pub step : Operator → Path → Stmt
step operator path = operate (O.Update operator) (one_path path)

abbrev pub swap : Path → Path → Stmt
swap left right = operate O.Swap (ByPath left (one_path right))

abbrev pub letting_go : Expr → Stmt
letting_go value = operate O.Discard (one value)

abbrev pub quits : Expr → Stmt
quits status = operate O.Quit (one status)

-- the last expression of a body
abbrev pub give : Expr → Stmt
give value = Give node false value

abbrev pub give_back : Expr → Stmt
give_back value = Give node true value

abbrev pub leave : Leaving → Stmt
leave leaving = Leave node leaving NoArg

-- ---- blocks

-- a place with its type
abbrev pub place : ℕ → Ty → Declared
place number ty = record { number = number; name = []; at = here; of = ty }

pub data Line : Type 0 where
  does : (stmt : Stmt) → Line
  var : (place : Declared) → Line
  var_as : (place : Declared) (value : Expr) → Line

abbrev pub block : List Line → Stmts
block [] = Empty
block (does stmt ∷ rest) = Then stmt (block rest)
block (var place ∷ rest) = Declare node place false NoArg (block rest)
block (var_as place value ∷ rest) = Declare node place false (one value) (block rest)

abbrev pub when : Expr → List Line → List Line → Stmt
when condition holds fails = Select node ByConditions (one condition) (Block (block holds) (Otherwise (block fails)))

abbrev pub loops : Expr → List Line → Stmt
loops condition body = Loop node While (one condition) (block body)

-- over the numbers from the first to the last, or below the last
abbrev pub counts : (inclusive : Bool) → ℕ → Expr → Expr → List Line → Stmt
counts inclusive variable first last body = Loop node (Count (place variable int) inclusive) (values (first ∷ last ∷ [])) (block body)

abbrev pub over : ℕ → Expr → Expr → List Line → Stmt
over variable first last body = counts true variable first last body

-- over the ints in an array
abbrev pub each : ℕ → Path → List Line → Stmt
each variable path body = Loop node (Each (place variable int)) (one_path path) (block body)

-- what is declared outside of all blocks
abbrev pub declared : List Line → List Declared
declared [] = []
declared (does stmt ∷ rest) = declared rest
declared (var place ∷ rest) = place ∷ declared rest
declared (var_as place value ∷ rest) = place ∷ declared rest

-- ---- programs

abbrev pub plain : Declared → Param
plain place = record { place = place; mode = M.Plain }

abbrev pub by_var : Declared → Param
by_var place = record { place = place; mode = M.Var }

-- a procedure whose places are so many from the first on
abbrev pub proc : (first places : ℕ) → List Param → Option Declared → List Line → Proc
proc first places params result lines = record {
  name = [];
  at = here;
  type_params = 0;
  params = params;
  gives = Some int;
  body = Some (record { first = first; places = places; before = 0; result = result; stmts = block lines });
  hook = None;
}

abbrev pub program_with : Facts → List Proc → (places : ℕ) → List Line → Program
program_with facts procs places lines = record {
  types = [];
  facts = facts;
  procs = procs;
  globals = declared lines;
  start = record { first = 0; places = places; before = 0; result = None; stmts = block lines };
}

abbrev pub program : List Proc → (places : ℕ) → List Line → Program
program procs places lines = program_with [] procs places lines

-- statements alone
abbrev pub lines : List Stmt → List Line
lines [] = []
lines (first ∷ rest) = does first ∷ lines rest

abbrev pub script : List Stmt → Program
script stmts = program [] 0 (lines stmts)

-- ---- what is seen

pub record Sight : Type 0 where
  pub events : List Event
  pub phase : Phase

abbrev pub sight_of : Seen Event → Sight
sight_of seen = record { events = seen.events; phase = seen.phase }

-- its whole meaning is built, and shows this under each plan
pub record Sees (p : Program) (units : ℕ) (events : List Event) (phase : Phase) : Type 0 where
  pub plain : IsBuilt p
  pub sees : (plan : Plan) (heap : ℕ) (input : List ℕ) → sight_of (meaning p plan heap input units) ≡ record { events = events; phase = phase }

-- with so many units it comes to its end, and has written this
abbrev pub Prints : Program → (units : ℕ) → List ℕ → Type 0
Prints p units written = Sees p units (writes Out written) (Ended 0 no_objects)

-- the same, and its work is so much
pub record Works (p : Program) (units : ℕ) (written : List ℕ) (work : ℕ) : Type 0 where
  pub plain : IsBuilt p
  pub works : (plan : Plan) (heap : ℕ) (input : List ℕ) → meaning p plan heap input units ≡ seen (writes Out written) (Ended 0 no_objects) work

abbrev pub Quits : Program → (units status : ℕ) → List ℕ → Type 0
Quits p units status written = Sees p units (writes Out written) (Ended status no_objects)

-- it has written this, and then trapped with that line
abbrev pub Fails : Program → (units : ℕ) → List ℕ → List ℕ → Type 0
Fails p units written line = Sees p units (writes Out written ++ writes Err line) (Ended 1 no_objects)

-- it has written this, and goes on
abbrev pub Runs : Program → (units : ℕ) → List ℕ → Type 0
Runs p units written = Sees p units (writes Out written) Running
