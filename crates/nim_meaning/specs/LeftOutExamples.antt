-- Small programs with a form whose meaning isn't built, at a known place.
use Rattle.std.specs.Prelude.{◌≡◌, ℕ, pos, true, false, List, [], ◌∷◌, codes, Option, Some, None}
use Rattle.arc_base.specs.declared.place.Place.{Place}
use Rattle.nim_types.specs.Types.{Ty, int, bool, text, sequence, array, ref}
use Rattle.nim_program.specs.declared.expr.Node.{Node}
use Rattle.nim_program.specs.declared.operation.Operation.{Operation}
use Rattle.nim_program.specs.declared.operation.Operation.TheVariants as O
use Rattle.nim_program.specs.declared.operation.Comparison.TheVariants.{Equal}
use Rattle.nim_program.specs.declared.operation.Measure.TheVariants.{Len}
use Rattle.nim_program.specs.Program.{Exactly, Number, Characters, NoObject, Doing, Building, Giving, Calling, ByConditions, ByLabels, Expr, Apply, Read}
use Rattle.nim_program.specs.Program.{Path, Variable, Field, Element, Deref, Args, NoArg, ByValue, ByPath, Declared, Each, Stmt, Do, Select, Loop, Raise, Try}
use Rattle.nim_program.specs.Program.{Stmts, Empty, Then, Declare, Defer, Otherwise, Block, NoHandler, Param, Proc, Program}
use Rattle.nim_program.specs.Nodes.{one_path}
use Rattle.nim_meaning.specs.Trees.{plain}
use Rattle.nim_meaning.specs.LeftOut.{first_left_out}

-- in one line, at a column
abbrev pub spot : ℕ → Place
spot n = record { «module» = 0; line = 1; column = n }

abbrev pub at : ℕ → Node
at n = record { number = n; at = spot n }

abbrev pub LeftOutAt : ℕ → Program → Type 0
LeftOutAt n program = first_left_out program ≡ Some (spot n)

abbrev pub literal : ℕ → Expr
literal n = Apply (at n) (Some text) (Giving (Characters (codes "a"))) NoArg

abbrev pub pointer : Ty
pointer = ref None int

abbrev pub nil : ℕ → Expr
nil n = Apply (at n) (Some pointer) (Giving NoObject) NoArg

abbrev pub number : ℕ → Expr
number n = Apply (at n) (Some int) (Giving (Number (pos n))) NoArg

abbrev pub place : ℕ → Ty → Declared
place n ty = record { number = 0; name = []; at = spot n; of = ty }

abbrev pub global : ℕ → Ty → Path
global n ty = Variable (at n) ty 0 true

abbrev pub one : Expr → Args
one value = ByValue value NoArg

-- an operation with a value of a type, and one without
abbrev pub operated : ℕ → Ty → Operation → Args → Expr
operated n ty operation operands = Apply (at n) (Some ty) (Doing operation) operands

abbrev pub operate : ℕ → Operation → Args → Stmt
operate n operation operands = Do (Apply (at n) None (Doing operation) operands)

abbrev pub echo : ℕ → Expr → Stmt
echo n value = operate n O.Echo (one value)

abbrev pub letting_go : ℕ → Expr → Stmt
letting_go n value = operate n O.Discard (one value)

abbrev pub alone : Stmt → Stmts
alone stmt = Then stmt Empty

abbrev pub starting : Stmts → Program
starting stmts = record {
  types = [];
  facts = [];
  procs = [];
  globals = [];
  start = record { first = 0; places = 1; before = 0; result = None; stmts = stmts };
}

abbrev pub proc : List Param → Option Declared → Stmts → Proc
proc params result stmts = record {
  name = [];
  at = spot 1;
  type_params = 0;
  params = params;
  gives = None;
  body = Some (record { first = 0; places = 1; before = 0; result = result; stmts = stmts });
  hook = None;
}

abbrev pub with_proc : Proc → Program → Program
with_proc found program = record program { procs = found ∷ [] }

-- ---- texts and sequences

-- a literal, and one that is shown
abbrev pub showing : Program
showing = starting (alone (echo 1 (operated 2 text O.Show (one (literal 3)))))

abbrev pub comparing_texts : Program
comparing_texts = starting (alone (echo 1 (operated 2 bool (O.Compare Equal) (ByValue (literal 3) (one (literal 4))))))

abbrev pub case_of_text : Program
case_of_text = starting (alone (Select (at 1) (ByLabels ((Exactly (codes "a") ∷ []) ∷ [])) (one (literal 2)) (Block Empty (Otherwise Empty))))

abbrev pub adding : Program
adding = starting (alone (operate 1 O.Append (ByPath (global 2 text) (one (literal 3)))))

-- a line that is read into a text, and one that is a value
abbrev pub reading_into : Program
reading_into = starting (alone (letting_go 1 (operated 2 bool O.ReadLineInto (one_path (global 3 text)))))

abbrev pub reading : Program
reading = starting (alone (echo 1 (operated 2 text O.ReadLine NoArg)))

-- ---- which node is the first

abbrev pub discarding : Program
discarding = starting (Then (echo 1 (literal 2)) (alone (letting_go 3 (nil 4))))

-- a comparison comes before its operands
abbrev pub comparing : Program
comparing = starting (alone (echo 1 (operated 2 bool (O.Compare Equal) (ByValue (nil 3) (one (nil 4))))))

-- the first of a condition and a block, in order of text: if 2: discard nil elif nil == nil: discard
abbrev pub branching : Program
branching = starting (alone (Select (at 1) ByConditions
    (ByValue (number 2) (one (operated 5 bool (O.Compare Equal) (ByValue (nil 6) (one (nil 7))))))
    (Block (alone (letting_go 3 (nil 4))) (Block Empty (Otherwise Empty)))))

-- a place is left out where it is declared
abbrev pub declaring : Program
declaring =
    starting (Declare (at 1) (place 2 int) false NoArg (Declare (at 3) (place 4 (array 2 pointer)) false NoArg (alone (echo 5 (number 6)))))

-- an array of refs is left out, also where it has no elements
abbrev pub empty : Program
empty = starting (Declare (at 1) (place 2 (array 0 pointer)) false NoArg (alone (echo 3 (number 4))))

-- the path that a `for` goes over, and its element
abbrev pub going_over : Program
going_over = starting (alone (Loop (at 1) (Each (place 2 int)) (one_path (global 3 (sequence pointer))) Empty))

abbrev pub measuring : Program
measuring = starting (alone (echo 1 (operated 2 int (O.Measure Len) (one_path (global 3 (sequence pointer))))))

abbrev pub indexing : Program
indexing = starting (alone (echo 1 (Read (Element (at 2) int (global 3 (sequence pointer)) (number 4) None))))

-- places of other operations are left out where they stand
abbrev pub swapping : Program
swapping = starting (alone (operate 1 O.Swap (ByPath (global 2 int) (one_path (global 3 pointer)))))

-- a call that gives a ref
abbrev pub calling : Program
calling = starting (alone (echo 1 (Apply (at 2) (Some pointer) (Calling 0 []) NoArg)))

-- and one with a type for a type parameter
abbrev pub calling_with_types : Program
calling_with_types = starting (alone (echo 1 (Apply (at 2) (Some int) (Calling 0 (int ∷ [])) NoArg)))

-- ---- refs, exceptions and hooks

abbrev pub discarding_nil : Program
discarding_nil = starting (alone (letting_go 1 (Apply (at 2) (Some pointer) (Giving NoObject) NoArg)))

abbrev pub asking_nil : Program
asking_nil = starting (alone (echo 1 (operated 2 bool O.IsNil (one (Read (global 3 pointer))))))

abbrev pub building : Program
building = starting (alone (letting_go 1 (Apply (at 2) (Some pointer) (Building (0 ∷ [])) (one (number 3)))))

-- a dereference is no node
abbrev pub leading : Program
leading = starting (alone (echo 1 (Read (Field (at 2) int (Deref int (global 3 pointer)) 0))))

abbrev pub raising : Program
raising = starting (Then (echo 1 (number 2)) (alone (Raise (at 3) None NoArg)))

abbrev pub trying : Program
trying = starting (alone (Try (at 1) (alone (letting_go 2 (literal 3))) NoHandler Empty))

abbrev pub deferring : Program
deferring = starting (Then (echo 1 (number 2)) (Defer (at 3) (alone (echo 4 (number 5))) Empty))

abbrev pub destroying : Program
destroying = starting (alone (operate 1 O.Destroy (one_path (global 2 int))))

-- a cursor
abbrev pub lending : Program
lending = starting (Declare (at 1) (place 2 pointer) true (one (Read (global 3 pointer))) Empty)

-- ---- procedures

-- one before the start code, and one behind its first node
abbrev pub before_start : Program
before_start = with_proc (proc [] None (alone (letting_go 1 (nil 2)))) (starting (alone (letting_go 3 (nil 4))))

abbrev pub behind_start : Program
behind_start = with_proc (proc [] None (alone (letting_go 3 (nil 4)))) (starting (alone (letting_go 1 (nil 2))))

-- a parameter, and a result
abbrev pub taking : Program
taking = with_proc (proc (plain (place 2 pointer) ∷ []) None (alone (letting_go 3 (nil 4)))) (starting (alone (letting_go 5 (nil 6))))

abbrev pub giving : Program
giving = with_proc (proc (plain (place 2 int) ∷ []) (Some (place 3 pointer)) (alone (echo 4 (number 5)))) (starting Empty)
