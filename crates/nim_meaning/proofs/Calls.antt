-- What every program has, if it is kept where parts are put together, at each level of calls, and by the body of a call.
use Rattle.std.proofs.Common.{ℕ, zero, suc, List, Option, Some, None}
use Rattle.std.specs.Prelude.{slice_get}
use Rattle.nim_plan.specs.declared.plan.Plan.{Plan}
use Rattle.nim_program.specs.declared.program.TheConstants.{ACTIVE_CALLS}
use Rattle.nim_program.specs.Program.{Param, Body, Proc, Program}
use Rattle.nim_program.specs.Traps.{CallDepth}
use Rattle.nim_meaning.specs.Values.{Slot}
use Rattle.nim_meaning.specs.Acts.{Does, say, spending, elsewhere, stop}
use Rattle.nim_meaning.specs.Here.{Calls, Here}
use Rattle.nim_meaning.specs.Meaning.{exec_all, from_level, entered_body, entered, seen_call, called, calls, at_top, goes_through}
use Rattle.nim_meaning.proofs.Parts.{Said, Closed, both, stops, all_stmts}

-- A call from a level goes one level up, and comes back.
pub record ClosedCalls (P : ℕ → Said) : Type 1 where
  pub parts : (level : ℕ) → Closed (P level)
  pub spends : {A : Type 0} (level : ℕ) (act : Does A) → (P level).of act → (P level).of (spending act)
  pub leads_away : {A : Type 0} (level : ℕ) (act : Does A) → (P level).of act → (P level).of (elsewhere act)
  pub bodies : (level : ℕ) (program : Program) (plan : Plan) (call : Calls) (params : List Param) (body : Body) (slots : List Slot) →
      (P (suc level)).of (exec_all body.stmts (from_level program plan (suc level) call body)) →
      (P level).of (entered_body program.globals params body slots (from_level program plan (suc level) call body))

module _ (P : ℕ → Said) (closed : ClosedCalls P) (program : Program) (plan : Plan) where
  module _ (level : ℕ) (call : Calls) (h : (proc : ℕ) (slots : List Slot) → (P (suc level)).of (call proc slots)) where
    abbrev from : Body → Here
    from body = from_level program plan (suc level) call body

    is_in : (params : List Param) (body : Option Body) (slots : List Slot) →
        (P level).of (entered program.globals params body slots from)
    is_in params None slots = (closed.parts level).got _
    is_in params (Some body) slots =
        closed.bodies level program plan call params body slots
        (all_stmts (P (suc level)) (closed.parts (suc level)) (from body) h body.stmts)

    is_called : (proc : Option Proc) (slots : List Slot) → (P level).of (called program.globals proc slots from)
    is_called None slots = (closed.parts level).got _
    is_called (Some proc) slots =
        both (P level) (closed.parts level) (say (seen_call proc.hook)) _ ((closed.parts level).says (seen_call proc.hook))
        (is_in proc.params proc.body slots)

  pub all_calls : (left level proc : ℕ) (slots : List Slot) → (P level).of (calls program plan left (suc level) proc slots)
  all_calls zero level proc slots = closed.spends level (stop CallDepth) (stops (P level) (closed.parts level) CallDepth)
  all_calls (suc left) level proc slots =
      closed.spends level _ (closed.leads_away level _
      (is_called level (calls program plan left (suc (suc level))) (all_calls left (suc level)) (slice_get program.procs proc) slots))

  pub whole_program : (P 0).of (goes_through program plan)
  whole_program =
      let outside = closed.parts 0 in
      outside.costs _ _ (outside.then (exec_all program.start.stmts (at_top program plan)) _
      (all_stmts (P 0) outside (at_top program plan) (all_calls ACTIVE_CALLS 0) program.start.stmts) outside.got)
