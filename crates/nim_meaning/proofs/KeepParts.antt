-- What changes of the world keep, and a call's frame, every program keeps.
use Rattle.std.proofs.Common.{◌≡◌, ℕ, suc, Bool, true, false, List, [], ◌∷◌, length}
use Rattle.arc_base.specs.BigStep.{Res, Got, Over, Going, Errs}
use Rattle.nim_types.specs.Forms.{form_of}
use Rattle.nim_program.specs.Traps.{OutOfMemory}
use Rattle.nim_plan.specs.declared.plan.Plan.{Plan}
use Rattle.nim_program.specs.Program.{Param, Body, Program, Declared, last_of}
use Rattle.nim_meaning.specs.Heap.{Contents, has_room}
use Rattle.nim_meaning.specs.Values.{Value, Slot, is_full}
use Rattle.nim_meaning.specs.State.{Frame, World, State, with_frame, down_to}
use Rattle.nim_meaning.specs.Kept.{Meets}
use Rattle.nim_meaning.specs.Acts.{Broke, Continued, Returned, Raised, Outcome, On, Out, Does, exit_of, change, branch, give, wrong, stop, worked, said, ◌>>◌}
use Rattle.nim_meaning.specs.Deeds.{Change, changed, with_block, Deed, Gives, Ends, Errs as Wrong, Works, Says, Looks, Changes, Takes, carry}
use Rattle.nim_meaning.specs.Here.{Calls, Here, is_hooked}
use Rattle.nim_meaning.specs.Meaning.{exec_all, frame_of, place_ends, ends, params_end, result_of, handing, handed, entered_body, from_level, goes_through}
use Rattle.nim_meaning.proofs.Keeps.{Keeps, Only, Stays, stays_wrong, keeps_then, keeps_costs, keeps_looks, keeps_on, keeps_past, stays_got, stays_end}
use Rattle.nim_meaning.proofs.Keeps.{stays_then}
use Rattle.nim_meaning.proofs.Keeps.{stays_seq, stays_costs, stays_says, stays_looks, stays_change, stays_takes, stays_passing, stays_elsewhere}
use Rattle.nim_meaning.proofs.Keeps.{stays_spending, stays_loop, stays_again}
use Rattle.nim_meaning.proofs.Parts.{Said, Closed, ends_is}
use Rattle.nim_meaning.proofs.Calls.{ClosedCalls, whole_program}

-- it isn't left by an exit
abbrev NotLeft : {A : Type 0} → Res State (Outcome A) → Type 0
NotLeft (Got (On x) s) = Unit {0}
NotLeft (Got (Out way) s) = ⊥
NotLeft _ = Unit {0}

not_left : {A : Type 0} (deed : Deed A) (s : State) → NotLeft (carry deed s)
not_left (Gives x) s = tt
not_left (Ends status) s = tt
not_left Wrong s = tt
not_left (Works n rest) s = not_left rest (worked n s)
not_left (Says es rest) s = not_left rest (said es s)
not_left (Looks rest) s = not_left (rest s.world) s
not_left (Changes c rest) s = not_left rest (record s { world = changed c s.world })
not_left {A} (Takes class contents rest) s =
    let new : State = record s { world = with_block class contents s.world } in
    room (has_room s.world.heap class) (not_left (rest (length s.world.heap.blocks)) new)
  where
    room : (b : Bool) → NotLeft (carry (rest (length s.world.heap.blocks)) (record s { world = with_block class contents s.world })) →
        NotLeft (branch b (change (with_block class contents) >> carry (rest (length s.world.heap.blocks))) (stop {A = A} OutOfMemory) s)
    room true h = h
    room false h = tt

ends_not_left : (here : Here) (place : Declared) (exit : ℕ) (s : State) → NotLeft (ends here place exit s)
ends_not_left here place exit s = hooks (is_hooked here.facts place.of)
  where
    hooks : (b : Bool) → NotLeft (branch b (carry (place_ends (form_of here.facts place.of) here.level place.number)) (give tt) (worked 1 s))
    hooks true = not_left (place_ends (form_of here.facts place.of) here.level place.number) (worked 1 s)
    hooks false = tt

-- At each level of calls the world is as I says, so always as K says.
pub record Invariant (K : World → Type 0) (I : ℕ → World → Type 0) : Type 0 where
  pub within : (level : ℕ) (world : World) → I level world → K world
  pub changes : (level : ℕ) (c : Change) (world : World) → I level world → I level (changed c world)
  pub takes : (level class : ℕ) (contents : Contents) (world : World) → has_room world.heap class ≡ true → I level world →
      I level (with_block class contents world)
  pub enters : (level : ℕ) (frame : Frame) (world : World) → I level world → I (suc level) (with_frame world frame)
  pub leaves : (level : ℕ) (world : World) → I (suc level) world → I level (down_to (suc level) world)

module _ (K : World → Type 0) (I : ℕ → World → Type 0) (inv : Invariant K I) where
  abbrev kept : ℕ → Said
  kept level = record { of = Stays K (I level); turn = Stays K (I level) }

  closed : (level : ℕ) → Closed (kept level)
  closed level =
      let J = I level in
      let w : (world : World) → J world → K world = inv.within level in
      record {
        got = stays_got K J w;
        ended = stays_end K J w;
        errs = stays_wrong K J w;
        then = stays_then K J w;
        costs = stays_costs K J w;
        says = stays_says K J w;
        looks = stays_looks K J w;
        changes = λ c. stays_change K J w (changed c) (inv.changes level c);
        takes = λ class contents rest fails. stays_takes K J w class contents rest fails (inv.takes level class contents);
        passes = stays_passing K J w;
        turn_again = stays_again K J w;
        turn_last = stays_got K J w _;
        turn_then = stays_seq K J w;
        turn_passes = stays_passing K J w;
        loops = stays_loop K J w;
      }

  -- ---- calls

  -- a place that ends isn't left
  ends_stay : (at : ℕ) (here : Here) (place : Declared) (exit : ℕ) → Keeps K (I at) (ends here place exit) (Only K (I at))
  ends_stay at here place exit =
      record { at = λ s i. only (ends here place exit s) ((ends_is (kept at) (closed at) here place exit).at s i) (ends_not_left here place exit s) }
    where
      only : (r : Res State (Outcome (Unit {0}))) → Meets K K (λ x. I at) r → NotLeft r → Meets K K (Only K (I at)) r
      only (Got (On x) s) h n = h
      only (Got (Out way) s) h n = absurd n
      only (Over status live s) h n = h
      only (Going s) h n = h
      only (Errs s) h n = h

  params_stay : (at : ℕ) (here : Here) (params : List Param) (exit : ℕ) → Keeps K (I at) (params_end here params exit) (Only K (I at))
  params_stay at here [] exit = record { at = λ s i. i }
  params_stay at here (param ∷ params) exit =
      keeps_past K (I at) (I at) (Only K (I at)) (params_end here params exit) _ (params_stay at here params exit) (ends_stay at here param.place exit)

  handing_stays : (level : ℕ) (flow : Outcome (Unit {0})) (v : Value) → Stays K (I level) (handing flow v)
  handing_stays level (On x) v = record { at = λ s i. i }
  handing_stays level (Out (Broke by)) v = record { at = λ s i. i }
  handing_stays level (Out (Continued by)) v = record { at = λ s i. i }
  handing_stays level (Out (Returned by)) v = record { at = λ s i. i }
  handing_stays level (Out (Raised exception by)) v = record { at = λ s i. i }

  module _ (level : ℕ) (program : Program) (plan : Plan) (call : Calls) (params : List Param) (body : Body) where
    abbrev here : Here
    here = from_level program plan (suc level) call body

    handed_back : (flow : Outcome (Unit {0})) → Keeps K (I (suc level)) (handed params (last_of body.stmts) here flow) (λ x. I level)
    handed_back flow =
        let exit = exit_of (last_of body.stmts) flow in
        keeps_past K (I (suc level)) (I (suc level)) (λ x. I level) (params_end here params exit) _ (params_stay (suc level) here params exit)
        (keeps_looks K (I (suc level)) (λ x. I level) _ (λ world. whole (is_full (result_of here.result (suc level) world))
        (keeps_past K (I (suc level)) (I level) (λ x. I level) (change (down_to (suc level))) _
        (keeps_on K (I (suc level)) (I level) (down_to (suc level)) (inv.leaves level))
        (keeps_costs K (I level) (λ x. I level) _ _ (handing_stays level flow _)))))
      where
        -- a result that isn't all there
        whole : (b : Bool) {act : Does Value} → Keeps K (I (suc level)) act (λ x. I level) → Keeps K (I (suc level)) (branch b act wrong) (λ x. I level)
        whole true h = h
        whole false h = record { at = λ s i. inv.within (suc level) s.world i }

    bodies : (slots : List Slot) → Stays K (I (suc level)) (exec_all body.stmts here) →
        Stays K (I level) (entered_body program.globals params body slots here)
    bodies slots h =
        let frame = frame_of program.facts body slots in
        keeps_costs K (I level) (λ x. I level) _ _
        (keeps_past K (I level) (I (suc level)) (λ x. I level) (change (λ world. with_frame world frame)) _
        (keeps_on K (I level) (I (suc level)) (λ world. with_frame world frame) (inv.enters level frame))
        (keeps_then K (I (suc level)) (λ x. I (suc level)) (λ x. I level) (exec_all body.stmts here) (handed params (last_of body.stmts) here) h handed_back))

  calls : ClosedCalls kept
  calls = record {
    parts = closed;
    spends = λ level. stays_spending K (I level) (inv.within level);
    leads_away = λ level. stays_elsewhere K (I level) (inv.within level);
    bodies = bodies;
  }

  pub keeps_program : (program : Program) (plan : Plan) → Stays K (I 0) (goes_through program plan)
  keeps_program program plan = whole_program kept calls program plan
