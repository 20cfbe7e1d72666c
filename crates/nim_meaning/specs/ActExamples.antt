-- Small programs with their acts and ways, which a law states.
use Rattle.std.specs.Prelude.{ℕ, ℤ, pos, Bool, true, false, List, [], ◌∷◌, Option, Some, None, codes}
use Rattle.arc_base.specs.declared.place.Place.{Place}
use Rattle.nim_types.specs.Types.{Ty, int, bool, text, array}
use Rattle.nim_program.specs.declared.expr.Node.{Node}
use Rattle.nim_program.specs.declared.operation.Operation.{Operation}
use Rattle.nim_program.specs.declared.operation.Operation.TheVariants as O
use Rattle.nim_program.specs.declared.operation.Operator.TheVariants as N
use Rattle.nim_program.specs.declared.operation.Comparison.TheVariants as C
use Rattle.nim_program.specs.declared.operation.Short.TheVariants as S
use Rattle.nim_program.specs.declared.stmt.Leaving.TheVariants as K
use Rattle.nim_program.specs.declared.program.Mode.{Mode}
use Rattle.nim_program.specs.declared.program.Mode.TheVariants as M
use Rattle.nim_program.specs.Program as T
use Rattle.nim_program.specs.Program.{Expr, Args, Stmt, Stmts, Declared, Param, Body, Proc, Program}
use Rattle.nim_meaning.specs.ActTree.{Named, Temporary, Index, Path, On, Out, Back, Operands}
use Rattle.nim_meaning.specs.ActTree.{Act, Pass, Look, Take, Lend, Fill, Give, Operate, Invoke, Exit}
use Rattle.nim_meaning.specs.ActTree.{Role, Begins, Does, Fills, Looks, Chooses, Turns, Asks, Decides, Leaves}
use Rattle.nim_meaning.specs.ActTree.{Control, Do, Choose, Loop, Break, Continue, Return, Call, Group, No_arm, An_arm, Acts, Done, Then, Bind}
use Rattle.nim_meaning.specs.Ways.{At, Leave, Stop}
use Rattle.nim_meaning.specs.Arrows.{Arrow, arrow}

-- ---- typed trees

abbrev pub here : Place
here = record { «module» = 0; line = 1; column = 1 }

abbrev pub node : ℕ → Node
node n = record { number = n; at = here }

-- operands: values, and then places
abbrev pub values : List Expr → Args
values [] = T.NoArg
values (e ∷ es) = T.ByValue e (values es)

abbrev pub operation : ℕ → Option Ty → Operation → Args → Expr
operation n ty what operands = T.Apply (node n) ty (T.Doing what) operands

abbrev pub number : ℕ → ℕ → Expr
number n value = T.Apply (node n) (Some int) (T.Giving (T.Number (pos value))) T.NoArg

abbrev pub written : ℕ → Expr
written n = T.Apply (node n) (Some text) (T.Giving (T.Characters (codes "a"))) T.NoArg

abbrev pub name : ℕ → Ty → ℕ → T.Path
name n ty place = T.Variable (node n) ty place false

abbrev pub read : ℕ → Ty → ℕ → Expr
read n ty place = T.Read (name n ty place)

abbrev pub equal : ℕ → Expr → Expr → Expr
equal n left right = operation n (Some bool) (O.Compare C.Equal) (values (left ∷ right ∷ []))

abbrev pub assigned : ℕ → T.Path → Expr → Stmt
assigned n path value = T.Do (operation n None O.Assign (T.ByPath path (T.ByValue value T.NoArg)))

abbrev pub echoed : ℕ → List Expr → Stmt
echoed n es = T.Do (operation n None O.Echo (values es))

abbrev pub declared : ℕ → Ty → Declared
declared n ty = record { number = n; name = codes "x"; at = here; of = ty }

abbrev pub declare : ℕ → Declared → Expr → Stmts → Stmts
declare n place value rest = T.Declare (node n) place false (T.ByValue value T.NoArg) rest

-- one branch, and nothing else
abbrev pub when : ℕ → Expr → Stmts → Stmt
when n condition block = T.Select (node n) T.ByConditions (values (condition ∷ [])) (T.Block block (T.Otherwise T.Empty))

abbrev pub block : List Stmt → Stmts
block [] = T.Empty
block (s ∷ ss) = T.Then s (block ss)

abbrev pub body : Option Declared → Stmts → Body
body result stmts = record { first = 0; places = 0; before = 0; result = result; stmts = stmts }

abbrev pub proc : List Param → Body → Proc
proc params body = record { name = codes "p"; at = here; type_params = 0; params = params; gives = None; body = Some body; hook = None }

abbrev pub param : ℕ → Ty → Mode → Param
param n ty mode = record { place = declared n ty; mode = mode }

abbrev pub program : List Proc → Stmts → Program
program procs stmts = record { types = []; facts = []; procs = procs; globals = []; start = body None stmts }

-- no type has hooks; texts have
abbrev pub no_hooks : Ty → Bool
no_hooks ty = false

abbrev pub text_hooks : Ty → Bool
text_hooks text = true
text_hooks _ = false

-- no procedure raises an exception
abbrev pub none_raised : ℕ → Ty → Bool
none_raised proc ty = false

-- ---- acts

abbrev pub ◌▸◌ : Control → Acts → Acts
s ▸ b = Then s b

infixr 5 ◌▸◌
abbrev pub of : ℕ → Path
of place = record { root = Named place; steps = [] }

abbrev pub at_index : ℕ → Option ℤ → Path
at_index place i = record { root = Named place; steps = Index i ∷ [] }

abbrev pub does : ℕ → Act → Control
does n a = Do n Does a

abbrev pub nothing : Operands
nothing = record { alters = []; reads = []; takes = [] }

abbrev pub reading : ℕ → Operands
reading n = record { alters = []; reads = Temporary n ∷ []; takes = [] }

-- an operation on values that nobody owns
abbrev pub works : ℕ → Control
works n = does n (Operate nothing)

-- two branches
abbrev pub fork : ℕ → Role → Acts → Acts → Control
fork n r a b = Choose n r (An_arm a (An_arm b No_arm))

-- ---- programs

-- var x = 1
-- x = x + 2
-- echo x
abbrev pub straight : Program
straight = program [] (
    declare 1 (declared 0 int) (number 2 1) (
    block (
    assigned 3 (name 4 int 0) (operation 5 (Some int) (O.Binary N.Add) (values (read 6 int 0 ∷ number 7 2 ∷ [])))
    ∷ echoed 8 (read 9 int 0 ∷ []) ∷ [])))

-- a place without hooks has no scope
abbrev pub straight_acts : Acts
straight_acts =
    Group 1 Begins (works 2 ▸ does 1 (Fill (Named 0)) ▸ Done) ▸
    Group 3 Begins (does 6 (Look (of 0)) ▸ works 7 ▸ works 5 ▸ does 3 (Give (of 0)) ▸ Done) ▸
    Group 8 Begins (does 9 (Look (of 0)) ▸ works 8 ▸ Done) ▸ Done

abbrev pub straight_ways : List Arrow
straight_ways =
    arrow (At 1 Begins) Pass (At 2 Does) ∷ arrow (At 2 Does) (Operate nothing) (At 1 Does) ∷ arrow (At 1 Does) (Fill (Named 0)) (At 3 Begins)
    ∷ arrow (At 3 Begins) Pass (At 6 Does) ∷ arrow (At 6 Does) (Look (of 0)) (At 7 Does) ∷ arrow (At 7 Does) (Operate nothing) (At 5 Does)
    ∷ arrow (At 5 Does) (Operate nothing) (At 3 Does) ∷ arrow (At 3 Does) (Give (of 0)) (At 8 Begins)
    ∷ arrow (At 8 Begins) Pass (At 9 Does) ∷ arrow (At 9 Does) (Look (of 0)) (At 8 Does) ∷ arrow (At 8 Does) (Operate nothing) (Stop On) ∷ []

-- while true:
--   let x = "a"
--   if x == "a":
--     break
abbrev pub leaving_early : Program
leaving_early = program [] (
    block (
    T.Loop (node 1) T.While (values (T.Apply (node 2) (Some bool) (T.Giving (T.Number (pos 1))) T.NoArg ∷ [])) (
    declare 3 (declared 0 text) (written 4) (
    block (when 5 (equal 6 (read 7 text 0) (written 8)) (block (T.Leave (node 9) K.Break T.NoArg ∷ [])) ∷ []))) ∷ []))

abbrev pub leaving_early_acts : Acts
leaving_early_acts =
    Loop 1 (works 2 ▸ Done) (
    Group 3 Begins (works 4 ▸ does 3 (Fill (Named 0)) ▸ Done) ▸ Bind (Named 0) 5 (
    Group 5 Begins (
    Group 6 Asks (Bind (Temporary 7) 7 (does 7 (Lend (Some 7) (Temporary 7) (of 0)) ▸ works 8 ▸ does 6 (Operate (reading 7)) ▸ Done)) ▸
    fork 6 Decides (Break 9 ▸ Done) Done ▸ Done) ▸ Done)) ▸ Done

-- the scope of x is left by the end of the `if`, its last statement, and by `break`; what is lent to the condition ends with it
abbrev pub leaving_early_ways : List Arrow
leaving_early_ways =
    arrow (At 1 Turns) Pass (At 2 Does) ∷ arrow (At 2 Does) (Operate nothing) (At 1 Chooses)
    ∷ arrow (At 1 Chooses) Pass (At 3 Begins) ∷ arrow (At 1 Chooses) Pass (Stop On)
    ∷ arrow (At 3 Begins) Pass (At 4 Does) ∷ arrow (At 4 Does) (Operate nothing) (At 3 Does) ∷ arrow (At 3 Does) (Fill (Named 0)) (At 5 Begins)
    ∷ arrow (At 5 Begins) Pass (At 6 Asks) ∷ arrow (At 6 Asks) Pass (At 7 Does) ∷ arrow (At 7 Does) (Lend (Some 7) (Temporary 7) (of 0)) (At 8 Does)
    ∷ arrow (At 8 Does) (Operate nothing) (At 6 Does) ∷ arrow (At 6 Does) (Operate (reading 7)) (Leave (Temporary 7) On)
    ∷ arrow (Leave (Temporary 7) On) (Exit (Temporary 7) 7 On) (At 6 Decides)
    ∷ arrow (At 6 Decides) Pass (At 9 Leaves) ∷ arrow (At 6 Decides) Pass (Leave (Named 0) On)
    ∷ arrow (At 9 Leaves) Pass (Leave (Named 0) (Out 9))
    ∷ arrow (Leave (Named 0) On) (Exit (Named 0) 5 On) (At 1 Turns) ∷ arrow (Leave (Named 0) (Out 9)) (Exit (Named 0) 9 (Out 9)) (Stop On) ∷ []

-- proc p(x: var int, y: int): int =
--   if y == 0 and x == 0:
--     return x
--   x = p(x, y)
abbrev pub returning_early : Program
returning_early = program (
    proc (param 0 int M.Var ∷ param 1 int M.Plain ∷ []) (body (Some (declared 2 int)) (
    block (
    when 1 (T.Early (node 2) bool S.And (equal 3 (read 4 int 1) (number 5 0)) (equal 6 (read 7 int 0) (number 8 0)))
    (block (T.Give (node 9) true (read 10 int 0) ∷ []))
    ∷ assigned 11 (name 12 int 0)
    (T.Apply (node 13) (Some int) (T.Calling 0 []) (T.ByPath (name 14 int 0) (T.ByValue (read 15 int 1) T.NoArg))) ∷ [])))
    ∷ []) T.Empty

abbrev pub recursion : Operands
recursion = record { alters = of 0 ∷ []; reads = []; takes = [] }

-- a `var` argument is looked up, read and written at the call
abbrev pub returning_early_acts : Acts
returning_early_acts =
    Group 1 Begins (
    Group 2 Asks (
    does 4 (Look (of 1)) ▸ works 5 ▸ works 3 ▸
    fork 2 Chooses (does 7 (Look (of 0)) ▸ works 8 ▸ works 6 ▸ Done) Done ▸ Done) ▸
    fork 2 Decides (Group 9 Begins (does 10 (Look (of 0)) ▸ does 9 (Give (of 2)) ▸ Return 9 ▸ Done) ▸ Done) Done ▸ Done) ▸
    Group 11 Begins (does 15 (Look (of 1)) ▸ Call 13 0 recursion ▸ does 11 (Give (of 0)) ▸ Done) ▸ Done

abbrev pub returning_early_ways : List Arrow
returning_early_ways =
    arrow (At 1 Begins) Pass (At 2 Asks) ∷ arrow (At 2 Asks) Pass (At 4 Does)
    ∷ arrow (At 4 Does) (Look (of 1)) (At 5 Does) ∷ arrow (At 5 Does) (Operate nothing) (At 3 Does) ∷ arrow (At 3 Does) (Operate nothing) (At 2 Chooses)
    ∷ arrow (At 2 Chooses) Pass (At 7 Does) ∷ arrow (At 2 Chooses) Pass (At 2 Decides)
    ∷ arrow (At 7 Does) (Look (of 0)) (At 8 Does) ∷ arrow (At 8 Does) (Operate nothing) (At 6 Does) ∷ arrow (At 6 Does) (Operate nothing) (At 2 Decides)
    ∷ arrow (At 2 Decides) Pass (At 9 Begins) ∷ arrow (At 2 Decides) Pass (At 11 Begins)
    ∷ arrow (At 9 Begins) Pass (At 10 Does) ∷ arrow (At 10 Does) (Look (of 0)) (At 9 Does) ∷ arrow (At 9 Does) (Give (of 2)) (At 9 Leaves)
    ∷ arrow (At 9 Leaves) Pass (Stop (Back 9))
    ∷ arrow (At 11 Begins) Pass (At 15 Does) ∷ arrow (At 15 Does) (Look (of 1)) (At 13 Does)
    ∷ arrow (At 13 Does) (Invoke 0 recursion) (At 11 Does) ∷ arrow (At 11 Does) (Give (of 0)) (Stop On) ∷ []

-- var a: array[2, int]
-- for e in a:
--   if e == 0:
--     continue
--   a[e] = a[1]
-- a[0] = a[0]
abbrev pub row : Ty
row = array 2 int

abbrev pub element : ℕ → T.Path → Expr → Option ℤ → T.Path
element n base index constant = T.Element (node n) int base index constant

abbrev pub turning_over : Program
turning_over = program [] (
    T.Declare (node 1) (declared 0 row) false T.NoArg (
    block (
    T.Loop (node 2) (T.Each (declared 1 int)) (T.ByPath (name 3 row 0) T.NoArg) (
    block (
    when 4 (equal 5 (read 6 int 1) (number 7 0)) (block (T.Leave (node 8) K.Continue T.NoArg ∷ []))
    ∷ assigned 9 (element 10 (name 11 row 0) (read 12 int 1) None) (T.Read (element 13 (name 14 row 0) (number 15 1) (Some (pos 1)))) ∷ []))
    ∷ T.Idle (node 16)
    (T.ByPath (element 17 (name 18 row 0) (number 19 0) (Some (pos 0)))
    (T.ByPath (element 20 (name 21 row 0) (number 22 0) (Some (pos 0))) T.NoArg)) ∷ [])))

-- The array is looked up before the loop and in each turn. What is assigned to itself does nothing.
abbrev pub turning_over_acts : Acts
turning_over_acts =
    does 1 (Fill (Named 0)) ▸
    Group 2 Begins (
    Do 2 Looks (Look (of 0)) ▸
    Loop 2 Done (
    does 2 (Look (at_index 0 None)) ▸ Do 2 Fills (Fill (Named 1)) ▸
    Group 4 Begins (Group 5 Asks (does 6 (Look (of 1)) ▸ works 7 ▸ works 5 ▸ Done) ▸ fork 5 Decides (Continue 8 ▸ Done) Done ▸ Done) ▸
    Group 9 Begins (does 12 (Look (of 1)) ▸ works 15 ▸ does 13 (Look (at_index 0 (Some (pos 1)))) ▸ does 9 (Give (at_index 0 None)) ▸ Done) ▸ Done) ▸
    Done) ▸
    does 16 Pass ▸ Done

abbrev pub turning_over_ways : List Arrow
turning_over_ways =
    arrow (At 1 Does) (Fill (Named 0)) (At 2 Begins) ∷ arrow (At 2 Begins) Pass (At 2 Looks) ∷ arrow (At 2 Looks) (Look (of 0)) (At 2 Turns)
    ∷ arrow (At 2 Turns) Pass (At 2 Chooses) ∷ arrow (At 2 Chooses) Pass (At 2 Does) ∷ arrow (At 2 Chooses) Pass (At 16 Does)
    ∷ arrow (At 2 Does) (Look (at_index 0 None)) (At 2 Fills) ∷ arrow (At 2 Fills) (Fill (Named 1)) (At 4 Begins)
    ∷ arrow (At 4 Begins) Pass (At 5 Asks) ∷ arrow (At 5 Asks) Pass (At 6 Does) ∷ arrow (At 6 Does) (Look (of 1)) (At 7 Does)
    ∷ arrow (At 7 Does) (Operate nothing) (At 5 Does) ∷ arrow (At 5 Does) (Operate nothing) (At 5 Decides)
    ∷ arrow (At 5 Decides) Pass (At 8 Leaves) ∷ arrow (At 5 Decides) Pass (At 9 Begins) ∷ arrow (At 8 Leaves) Pass (At 2 Turns)
    ∷ arrow (At 9 Begins) Pass (At 12 Does) ∷ arrow (At 12 Does) (Look (of 1)) (At 15 Does) ∷ arrow (At 15 Does) (Operate nothing) (At 13 Does)
    ∷ arrow (At 13 Does) (Look (at_index 0 (Some (pos 1)))) (At 9 Does) ∷ arrow (At 9 Does) (Give (at_index 0 None)) (At 2 Turns)
    ∷ arrow (At 16 Does) Pass (Stop On) ∷ []

-- proc p(x: sink string, y: string) = discard
-- var s = "a"
-- p(s, s & "a")
abbrev pub sinking : Program
sinking = program (
    proc (param 0 text M.Sink ∷ param 1 text M.Plain ∷ []) (body None (block (T.Idle (node 1) T.NoArg ∷ [])))
    ∷ []) (
    declare 2 (declared 2 text) (written 3) (
    block (
    T.Do (T.Apply (node 4) None (T.Calling 0 [])
    (values (read 5 text 2 ∷ operation 6 (Some text) O.Join (values (read 7 text 2 ∷ written 8 ∷ [])) ∷ []))) ∷ [])))

abbrev pub given_s : Operands
given_s = record { alters = []; reads = Temporary 6 ∷ []; takes = Temporary 5 ∷ [] }

-- s is consumed at node 5 and read at node 7; three values wait, the call takes the first, and all end with the statement, the last one first
abbrev pub sinking_acts : Acts
sinking_acts =
    Group 2 Begins (works 3 ▸ does 2 (Fill (Named 2)) ▸ Done) ▸ Bind (Named 2) 4 (
    Group 4 Begins (Bind (Temporary 5) 5 (Bind (Temporary 7) 7 (Bind (Temporary 6) 6 (
    does 5 (Take 5 (Some (Temporary 5)) (of 2)) ▸ Do 5 Fills (Fill (Temporary 5)) ▸
    does 7 (Lend (Some 7) (Temporary 7) (of 2)) ▸ works 8 ▸
    does 6 (Operate (reading 7)) ▸ Do 6 Fills (Fill (Temporary 6)) ▸
    Call 4 0 given_s ▸ Done)))) ▸
    Done)

-- what the procedure owns ends with its body
abbrev pub sunk_acts : Acts
sunk_acts = Bind (Named 0) 1 (does 1 Pass ▸ Done)

abbrev pub sunk_ways : List Arrow
sunk_ways = arrow (At 1 Does) Pass (Leave (Named 0) On) ∷ arrow (Leave (Named 0) On) (Exit (Named 0) 1 On) (Stop On) ∷ []

abbrev pub sinking_ways : List Arrow
sinking_ways =
    arrow (At 2 Begins) Pass (At 3 Does) ∷ arrow (At 3 Does) (Operate nothing) (At 2 Does) ∷ arrow (At 2 Does) (Fill (Named 2)) (At 4 Begins)
    ∷ arrow (At 4 Begins) Pass (At 5 Does)
    ∷ arrow (At 5 Does) (Take 5 (Some (Temporary 5)) (of 2)) (At 5 Fills) ∷ arrow (At 5 Fills) (Fill (Temporary 5)) (At 7 Does)
    ∷ arrow (At 7 Does) (Lend (Some 7) (Temporary 7) (of 2)) (At 8 Does) ∷ arrow (At 8 Does) (Operate nothing) (At 6 Does)
    ∷ arrow (At 6 Does) (Operate (reading 7)) (At 6 Fills)
    ∷ arrow (At 6 Fills) (Fill (Temporary 6)) (At 4 Does) ∷ arrow (At 4 Does) (Invoke 0 given_s) (Leave (Temporary 6) On)
    ∷ arrow (Leave (Temporary 6) On) (Exit (Temporary 6) 6 On) (Leave (Temporary 7) On)
    ∷ arrow (Leave (Temporary 7) On) (Exit (Temporary 7) 7 On) (Leave (Temporary 5) On)
    ∷ arrow (Leave (Temporary 5) On) (Exit (Temporary 5) 5 On) (Leave (Named 2) On)
    ∷ arrow (Leave (Named 2) On) (Exit (Named 2) 4 On) (Stop On) ∷ []
