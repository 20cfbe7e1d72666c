-- Lines of flat code that give one name are alike, where statements have the shape that typing gives them.
use Rattle.std.proofs.Common.{◌≡◌, ℕ, ◌+◌, ◌*◌, ◌≤◌, Bool, true, false, List, [], ◌∷◌, ◌++◌, Option, Some, None, refl, inr, arith}
use Rattle.std.specs.Prelude.{◌&&◌, ◌||◌, map}
use Rattle.nim_types.specs.Types.{Ty, Facts}
use Rattle.nim_plan.specs.declared.plan.Plan.{Plan}
use Rattle.nim_program.specs.declared.program.HookOf.{HookOf}
use Rattle.nim_program.specs.declared.program.Mode.{Mode}
use Rattle.nim_program.specs.Program.{Stmt, Do, Idle, Give, Leave, Select, Loop, Raise, Try, Stmts, Empty, Then, Declare, Defer, Blocks, Otherwise, Block}
use Rattle.nim_program.specs.Program.{Chooser, ByConditions, ByLabels, Args, NoArg, ByValue, ByPath, Param, Body, Proc, Program}
use Rattle.flat_code.specs.declared.code.CodeProc.{CodeProc}
use Rattle.flat_code.specs.declared.line.Line.{Line}
use Rattle.flat_code.specs.Alike.{gives_as, AreAlike, AllAlike}
use Rattle.flattening.specs.Flattened.{modes_of}
use Rattle.flattening.specs.Given.{flat_body, flat_proc, flat_procs}
use Rattle.flattening.specs.Numbering.{width_of}
use Rattle.flattening.specs.StmtLines.{body_lines}
use Rattle.flattening.proofs.Costs.{Rules}
use Rattle.flattening.specs.Formed.{HasSelector, HeadFits}
use Rattle.flattening.proofs.LineNames.{CountsFrom}
use Rattle.flattening.proofs.NameTallies.{body_named}
use Rattle.flattening.proofs.Tallies.{tally, count, no_flags, below_one}

-- what chooses by labels has one selector
abbrev pub HasOne : Chooser → Args → Type 0
HasOne ByConditions tests = Unit {0}
HasOne (ByLabels labels) (ByValue value NoArg) = Unit {0}
HasOne (ByLabels labels) (ByPath path NoArg) = Unit {0}
HasOne (ByLabels labels) tests = ⊥

-- what chooses by labels has a selector, each loop the head of its kind, and none counts from a text
abbrev mutual
  pub IsShaped : Stmt → Type 0
  IsShaped (Do value) = Unit {0}
  IsShaped (Idle node parts) = Unit {0}
  IsShaped (Give node back value) = Unit {0}
  IsShaped (Leave node leaving parts) = Unit {0}
  IsShaped (Select node chooser tests blocks) = (HasSelector chooser tests × HasOne chooser tests) × AreShapedBlocks blocks
  IsShaped (Loop node kind head body) = (HeadFits kind head × CountsFrom kind head) × AreShaped body
  IsShaped (Raise node exception message) = Unit {0}
  IsShaped (Try node body handlers last) = Unit {0}

  pub AreShaped : Stmts → Type 0
  AreShaped Empty = Unit {0}
  AreShaped (Then first rest) = IsShaped first × AreShaped rest
  AreShaped (Declare node place cursor value rest) = AreShaped rest
  AreShaped (Defer node last rest) = Unit {0}

  pub AreShapedBlocks : Blocks → Type 0
  AreShapedBlocks (Otherwise block) = AreShaped block
  AreShapedBlocks (Block first rest) = AreShaped first × AreShapedBlocks rest

abbrev pub IfShaped : Option Body → Type 0
IfShaped None = Unit {0}
IfShaped (Some body) = AreShaped body.stmts

abbrev pub ProcsShaped : List Proc → Type 0
ProcsShaped [] = Unit {0}
ProcsShaped (proc ∷ procs) = IfShaped proc.body × ProcsShaped procs

abbrev pub ProgramShaped : Program → Type 0
ProgramShaped program = ProcsShaped program.procs × AreShaped program.start.stmts

abbrev pub shaped : Rules ⊥
shaped = record {
  Right = IsShaped;
  AllRight = AreShaped;
  EachRight = AreShapedBlocks;
  select = λ node chooser parts blocks s. (inr s.0.0, s.1);
  loop = λ node kind head body s. (inr s.0, s.1);
  follows = λ first more s. s;
  declare = λ node place cursor args more s. s;
  otherwise = λ b s. s;
  block = λ first more s. s;
}

-- ---- one body

few : (p q : Bool) → count (false || p) + count (false || q) ≤ 1 → p && q ≡ false
few true true h = absurd (omega (arith, h))
few true false h = refl
few false q h = refl

pub body_alike : (types : List Ty) (facts : Facts) (modes : (proc position : ℕ) → Mode) (params : List Param) (body : Body) → AreShaped body.stmts →
    AreAlike (body_lines types facts modes params body)
unfolding tally
body_alike types facts modes params body s = λ name has of_values is.
    let lines = body_lines types facts modes params body in
    let t = (body_named types facts modes name has of_values is shaped params body.result body.stmts s no_flags).all [] in
    let one = below_one name (8 * (0 + width_of body.stmts)) in
    few (gives_as name has true lines) (gives_as name has false lines) (omega (arith, t, one))

-- ---- a program

module _ (program : Program) (plan : Plan) where
  proc_alike : (hook : Option HookOf) (params : List Param) (body : Option Body) → IfShaped body → AreAlike (flat_proc program plan hook params body).lines
  proc_alike hook params None s = λ name has of_values is. refl
  proc_alike hook params (Some body) s = body_alike program.types program.facts (modes_of program plan) params body s

  procs_alike : (procs : List Proc) (more : List (CodeProc Line)) → ProcsShaped procs → AllAlike more →
      AllAlike (map (λ (p : Proc). flat_proc program plan p.hook p.params p.body) procs ++ more)
  procs_alike [] more s rest = rest
  procs_alike (p ∷ procs) more s rest = (proc_alike p.hook p.params p.body s.0, procs_alike procs more s.1 rest)

  pub all_alike : ProgramShaped program → AllAlike (flat_procs program plan)
  all_alike s =
      procs_alike program.procs (flat_body program plan None [] program.start ∷ []) s.0
      (body_alike program.types program.facts (modes_of program plan) [] program.start s.1, tt)
