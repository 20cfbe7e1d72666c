-- Each part of a program is tame.
use Rattle.std.proofs.Common.{ℕ, suc, Bool, true, false, List, [], ◌∷◌}
use Rattle.nim_plan.specs.declared.plan.Plan.{Plan}
use Rattle.nim_program.specs.Program.{Param, Body, Program, last_of}
use Rattle.nim_meaning.specs.Heap.{Contents, has_room}
use Rattle.nim_meaning.specs.Values.{Value, Slot, is_full}
use Rattle.nim_meaning.specs.State.{World, with_frame, down_to}
use Rattle.nim_meaning.specs.Acts.{Broke, Continued, Returned, Raised, Outcome, On, Out, Does, exit_of, ◌>>◌, branch, wrong, change}
use Rattle.nim_meaning.specs.Deeds.{changed, with_block}
use Rattle.nim_meaning.specs.Here.{Calls, Here}
use Rattle.nim_meaning.specs.Meaning.{exec_all, frame_of, params_end, result_of, handing, handed, entered_body, from_level, goes_through}
use Rattle.nim_meaning.proofs.Tame.{Tame, TameTurn, tame_got, tame_end, tame_wrong, tame_then, tame_past, tame_costs, tame_says, tame_spending, tame_looks}
use Rattle.nim_meaning.proofs.Tame.{tame_change, tame_passing, tame_elsewhere, tame_loop, turn_again, turn_last, turn_then, turn_passing}
use Rattle.nim_meaning.proofs.Parts.{Said, Closed, taking, chosen, ends_is}
use Rattle.nim_meaning.proofs.Calls.{ClosedCalls, whole_program}

abbrev pub tame : Said
tame = record { of = Tame; turn = TameTurn }

tame_takes : {A : Type 0} (class : ℕ) (contents : Contents) (rest : World → Does A) (fails : Does A) → ((world : World) → Tame (rest world)) → Tame fails →
    Tame (taking class contents rest fails)
tame_takes {A} class contents rest fails h f = tame_looks _ (λ world. either (has_room world.heap class) (rest world) (h world))
  where
    either : (b : Bool) (act : Does A) → Tame act → Tame (branch b (change (with_block class contents) >> act) fails)
    either true act t = tame_past (change (with_block class contents)) act (tame_change (with_block class contents)) t
    either false act t = f

pub closed : Closed tame
closed = record {
  got = tame_got;
  ended = tame_end;
  errs = tame_wrong;
  then = tame_then;
  costs = tame_costs;
  says = tame_says;
  looks = tame_looks;
  changes = λ c. tame_change (changed c);
  takes = tame_takes;
  passes = tame_passing;
  turn_again = turn_again;
  turn_last = turn_last;
  turn_then = turn_then;
  turn_passes = turn_passing;
  loops = tame_loop;
}

-- ---- calls

tame_params : (here : Here) (params : List Param) (exit : ℕ) → Tame (params_end here params exit)
tame_params here [] exit = tame_got _
tame_params here (param ∷ params) exit =
    tame_past (params_end here params exit) _ (tame_params here params exit) (ends_is tame closed here param.place exit)

tame_handing : (flow : Outcome (Unit {0})) (v : Value) → Tame (handing flow v)
tame_handing (On x) v = tame_got _
tame_handing (Out (Broke by)) v = tame_got _
tame_handing (Out (Continued by)) v = tame_got _
tame_handing (Out (Returned by)) v = tame_got _
tame_handing (Out (Raised exception by)) v = tame_got _

pub tame_handed : (params : List Param) (last : ℕ) (here : Here) (flow : Outcome (Unit {0})) → Tame (handed params last here flow)
tame_handed params last here flow =
    tame_past (params_end here params (exit_of last flow)) _ (tame_params here params (exit_of last flow))
    (tame_looks _ (λ world. chosen tame closed (is_full (result_of here.result here.level world)) _ wrong
    (tame_past (change (down_to here.level)) _ (tame_change (down_to here.level)) (tame_costs _ _ (tame_handing flow _))) tame_wrong))

tame_bodies : (level : ℕ) (program : Program) (plan : Plan) (call : Calls) (params : List Param) (body : Body) (slots : List Slot) →
    Tame (exec_all body.stmts (from_level program plan (suc level) call body)) →
    Tame (entered_body program.globals params body slots (from_level program plan (suc level) call body))
tame_bodies level program plan call params body slots t =
    let here = from_level program plan (suc level) call body in
    let frame = frame_of program.facts body slots in
    tame_costs _ _ (tame_past (change (λ world. with_frame world frame)) _ (tame_change (λ world. with_frame world frame))
    (tame_then (exec_all body.stmts here) (handed params (last_of body.stmts) here) t (tame_handed params (last_of body.stmts) here)))

pub calls : ClosedCalls (λ level. tame)
calls = record {
  parts = λ level. closed;
  spends = λ level. tame_spending;
  leads_away = λ level. tame_elsewhere;
  bodies = tame_bodies;
}

pub tame_program : (program : Program) (plan : Plan) → Tame (goes_through program plan)
tame_program program plan = whole_program (λ level. tame) calls program plan
