-- By which statement control leaves small blocks.
use Rattle.std.specs.Prelude.{◌≡◌, ℕ, suc, Bool, true, false, [], Option, Some, None, option_map}
use Rattle.arc_base.specs.BigStep.{Res, Got, Over, Going, Errs}
use Rattle.nim_types.specs.Types.{int, bool}
use Rattle.nim_plan.specs.declared.plan.Plan.{Plan}
use Rattle.nim_program.specs.declared.stmt.Leaving.{Leaving}
use Rattle.nim_program.specs.declared.stmt.Leaving.TheVariants as K
use Rattle.nim_program.specs.Program.{Number, Giving, ByConditions, Expr, Apply, NoArg, ByValue, While, Count, Stmt, Idle, Give, Leave, Select, Loop}
use Rattle.nim_program.specs.Program.{Stmts, Empty, Then, Declare, Otherwise, Block, Program, last_of}
use Rattle.nim_program.specs.Ints.{truth}
use Rattle.nim_meaning.specs.Acts.{Outcome, exit_of}
use Rattle.nim_meaning.specs.State.{State}
use Rattle.nim_meaning.specs.Meaning.{exec_all, at_top, at_first}
use Rattle.nim_meaning.specs.LeftOutExamples.{at, place, number, one, starting}

abbrev pub flow_of : Res State (Outcome (Unit {0})) → Option (Outcome (Unit {0}))
flow_of (Got flow s) = Some flow
flow_of (Over status live s) = None
flow_of (Going s) = None
flow_of (Errs s) = None

-- by which exit a block is left that is all of the start code, with a few units
abbrev pub exit_in : Program → Plan → Option ℕ
exit_in program plan =
    option_map (exit_of (last_of program.start.stmts)) (flow_of (exec_all program.start.stmts (at_top program plan) (at_first program 0 [] 5)))

abbrev pub IsLeftBy : ℕ → Stmts → Type 0
IsLeftBy n stmts = (plan : Plan) → exit_in (starting stmts) plan ≡ Some n

abbrev pub truth_value : ℕ → Bool → Expr
truth_value n b = Apply (at n) (Some bool) (Giving (Number (truth b))) NoArg

abbrev pub pass : ℕ → Stmt
pass n = Idle (at n) NoArg

abbrev pub leave : ℕ → Leaving → Stmt
leave n leaving = Leave (at n) leaving NoArg

abbrev pub if_so : ℕ → Bool → Stmt → Stmt
if_so n b stmt = Select (at n) ByConditions (one (truth_value (suc n) b)) (Block (Then stmt Empty) (Otherwise Empty))

abbrev pub loops : ℕ → Stmts → Stmt
loops n body = Loop (at n) While (one (truth_value (suc n) true)) body

-- ---- the normal end

-- after statements, and of a place that is declared last
abbrev pub passing : Stmts
passing = Then (pass 1) (Declare (at 2) (place 3 int) false NoArg (Then (pass 4) Empty))

abbrev pub declaring_last : Stmts
declaring_last = Then (pass 1) (Declare (at 2) (place 3 int) false (one (number 4)) Empty)

-- of a statement with a block of its own: its number, and none in it
abbrev pub choosing_last : Stmts
choosing_last = Then (pass 1) (Then (if_so 2 true (pass 4)) Empty)

-- what leaves a loop doesn't leave the block around it
abbrev pub looping_last : Stmts
looping_last = Then (loops 1 (Then (leave 3 K.Break) Empty)) (Then (pass 4) Empty)

-- ---- ways out

abbrev pub breaking : Stmts
breaking = Declare (at 1) (place 2 int) false NoArg (Then (if_so 3 true (leave 5 K.Break)) (Then (leave 6 K.Continue) Empty))

abbrev pub continuing : Stmts
continuing =
    Then (if_so 1 false (leave 3 K.Break)) (Declare (at 4) (place 5 int) false NoArg (Then (leave 6 K.Continue) (Then (pass 7) Empty)))

abbrev pub returning : Stmts
returning = Then (if_so 1 false (leave 3 K.Return)) (Then (Give (at 4) true (number 5)) (Then (pass 6) Empty))

-- through loops
abbrev pub returning_far : Stmts
returning_far =
    Then
    (loops 1
    (Then (Loop (at 3) (Count (place 4 int) true) (ByValue (number 5) (one (number 6))) (Then (leave 7 K.Return) Empty)) (Then (leave 8 K.Break) Empty)))
    (Then (pass 9) Empty)
