-- Each run of a program without hooks goes by ways through the acts of its bodies, and does these acts.
use Rattle.std.proofs.Common.{◌≡◌, refl, sym, ap, subst, ◌∙◌, inl, inr, ◌⊎◌, ℕ, zero, suc, ◌+◌, Bool, true, false, not, if◌then◌else◌, List, [], ◌∷◌}
use Rattle.std.proofs.Common.{Option, Some, None, slice_get}
use Rattle.std.proofs.lemmas.Bool.{and_parts}
use Rattle.std.proofs.lemmas.Option.{none-some, same_Some}
use Rattle.arc_base.specs.BigStep.{Res, Got, Over, Going, Errs, then_do}
use Rattle.nim_types.specs.Types.{Ty}
use Rattle.nim_types.specs.Forms.{form_of}
use Rattle.nim_plan.specs.declared.plan.Plan.{Plan}
use Rattle.nim_program.specs.declared.program.TheConstants.{ACTIVE_CALLS}
use Rattle.nim_program.specs.declared.operation.Use.{Use}
use Rattle.nim_program.specs.declared.program.Mode.{Mode}
use Rattle.nim_program.specs.declared.program.Mode.TheVariants as M
use Rattle.nim_program.specs.Program.{Declared, Expr, Stmts, Param, Body, Proc, Program, last_of}
use Rattle.nim_program.specs.Sizes.{body_sum, if_place_bytes}
use Rattle.nim_program.specs.Traps.{CallDepth}
use Rattle.nim_meaning.specs.ActTree.{Root, On as GoesOn, Out, Turn_over, Back, Acts, Named, Bind, Result}
use Rattle.nim_meaning.specs.Ways.{Point, Stop, Exits, Graph, Raises, Edges, entry, onto, follows, start}
use Rattle.nim_meaning.specs.Values.{Value, Slot, is_full}
use Rattle.nim_meaning.specs.State.{State, with_frame, down_to}
use Rattle.nim_meaning.specs.Acts.{Broke, Continued, Returned, Raised, Outcome, On, Out as LeftBy, Does, with_trail, give, ◌>>◌, exit_of, worked, say, said}
use Rattle.nim_meaning.specs.Acts.{wrong, change, elsewhere, stop}
use Rattle.nim_meaning.specs.Here.{Here, is_hooked}
use Rattle.nim_meaning.specs.Shapes.{modes_in}
use Rattle.nim_meaning.specs.ActsOf.{scope, acts_of, stmts_acts, owned, with_result, body_acts, all_owned, if_body, acts_at, start_acts, procedure_acts}
use Rattle.nim_meaning.specs.Meaning.{place_ends, ends, eval, exec_all, params_end, result_of, handing, handed, from_level, entered, frame_of, seen_call}
use Rattle.nim_meaning.specs.Meaning.{called, calls}
use Rattle.nim_meaning.specs.Meaning.{at_top, at_first, reported, goes_through}
use Rattle.nim_meaning.specs.Runs.{GoesBy, is_plain_value, is_plain_place, is_plain_block, is_plain_body, are_plain_params}
use Rattle.nim_meaning.specs.Runs.{is_plain_if_body, are_plain_procs, has_no_hooks, start_graph, first_point, procedure_graph, first_point_of, StandsInCall}
use Rattle.nim_meaning.specs.AtPoints.{A_value, Nothing, DoesBy}
use Rattle.nim_meaning.proofs.RunLemmas.{PassesNone, AreElsewhere, Still}
use Rattle.nim_meaning.proofs.RunDeeds.{goes}
use Rattle.nim_meaning.proofs.StillLemmas.{still_both, still_give, still_wrong, still_branch, still_carry, still_costs, still_looks, still_change, still_stop}
use Rattle.nim_meaning.proofs.StillLemmas.{still_spending}
use Rattle.nim_meaning.proofs.RunValues.{eval_part}
use Rattle.nim_meaning.proofs.WaitLemmas.{not_true}
use Rattle.nim_meaning.proofs.RunBlocks.{exec_block}

-- ---- the acts of a body without hooks are those of its statements

module _ (hooked : Ty → Bool) (at_call in_body : ℕ → ℕ → Mode) where
  no_scope : (place : Declared) (last : ℕ) (b : Acts) → hooked place.of ≡ false → scope hooked at_call place last b ≡ b
  no_scope place last b e = ap (λ c. if c then Bind (Named place.number) last b else b) e

  none_owned : (mode : Mode) (param : Param) (last : ℕ) (b : Acts) → hooked param.place.of ≡ false → owned hooked at_call mode param last b ≡ b
  none_owned M.Plain param last b e = refl
  none_owned M.Sink param last b e = no_scope param.place last b e
  none_owned M.Var param last b e = refl

  params_acts : (proc i : ℕ) (params : List Param) (last : ℕ) (b : Acts) → are_plain_params hooked params ≡ true →
      all_owned hooked at_call in_body proc i params last b ≡ b
  params_acts proc i [] last b h = refl
  params_acts proc i (param ∷ params) last b h =
      let p = and_parts (not (hooked param.place.of)) (are_plain_params hooked params) h in
      none_owned (in_body proc i) param last (all_owned hooked at_call in_body proc (suc i) params last b) (not_true (hooked param.place.of) p.0)
      ∙ params_acts proc (suc i) params last b p.1

  result_acts : (result : Option Declared) (last : ℕ) (b : Acts) → is_plain_place hooked result ≡ true → with_result hooked at_call result last b ≡ b
  result_acts None last b h = refl
  result_acts (Some place) last b h = ap (λ c. if c then Result (Named place.number) last b else b) (not_true (hooked place.of) h)

  pub plain_body : (body : Body) → is_plain_body hooked body ≡ true → body_acts hooked at_call body ≡ stmts_acts hooked at_call body.result body.stmts
  plain_body body h =
      result_acts body.result (last_of body.stmts) (stmts_acts hooked at_call body.result body.stmts)
      (and_parts (is_plain_place hooked body.result) (is_plain_block hooked body.stmts) h).0

  -- a procedure that was found, by its number
  pub record Found (at proc : ℕ) (procs : List Proc) (body : Body) : Type 0 where
    pub acts : acts_at hooked at_call in_body at procs proc ≡ stmts_acts hooked at_call body.result body.stmts
    pub plain : is_plain_block hooked body.stmts ≡ true

  found_body : (at : ℕ) (params : List Param) (body : Body) (b : Option Body) → b ≡ Some body → is_plain_if_body hooked params b ≡ true →
      (if_body hooked at_call in_body at params b ≡ stmts_acts hooked at_call body.result body.stmts) × (is_plain_block hooked body.stmts ≡ true)
  found_body at params body None f h = absurd (none-some body f)
  found_body at params body (Some other) f h =
      let p = and_parts (are_plain_params hooked params) (is_plain_body hooked other) h in
      let is = same_Some other body f in (
        params_acts at 0 params (last_of other.stmts) (body_acts hooked at_call other) p.0 ∙ plain_body other p.1
            ∙ ap (λ (x : Body). stmts_acts hooked at_call x.result x.stmts) is,
        subst (λ (x : Body). is_plain_block hooked x.stmts ≡ true) is
            (and_parts (is_plain_place hooked other.result) (is_plain_block hooked other.stmts) p.1).1,
      )

  pub found : (at proc : ℕ) (procs : List Proc) (p : Proc) (body : Body) → are_plain_procs hooked procs ≡ true → slice_get procs proc ≡ Some p →
      p.body ≡ Some body → Found at proc procs body
  found at proc [] p body h e f = absurd (none-some p e)
  found at zero (q ∷ procs) p body h e f =
      let is_q : q.body ≡ Some body = ap (λ (x : Proc). x.body) (same_Some q p e) ∙ f in
      let it = found_body at q.params body q.body is_q (and_parts (is_plain_if_body hooked q.params q.body) (are_plain_procs hooked procs) h).0 in
      record { acts = it.0; plain = it.1 }
  found at (suc proc) (q ∷ procs) p body h e f =
      let more = found (suc at) proc procs p body (and_parts (is_plain_if_body hooked q.params q.body) (are_plain_procs hooked procs) h).1 e f in
      record { acts = more.acts; plain = more.plain }

-- ---- calls

module _ (raises : Raises) (program : Program) (plan : Plan) where
  abbrev hooks : Ty → Bool
  hooks = is_hooked program.facts

  abbrev modes : ℕ → ℕ → Mode
  modes = modes_in plan.sinks program.procs

  abbrev other : List Point → Type 0
  other = StandsInCall raises plan.sinks program

  abbrev from : (left level : ℕ) → Body → Here
  from left level = from_level program plan level (calls program plan left (suc level))

  -- the statements of a body, where its acts are those
  body_does : (here : Here) (block : Stmts) (b : Acts) → b ≡ stmts_acts (is_hooked here.facts) modes here.result block →
      is_plain_block (is_hooked here.facts) block ≡ true →
      DoesBy (follows raises b) here Nothing (start b) Stop (exec_all block here)
  body_does here block b e plain =
      let a : Acts = stmts_acts (is_hooked here.facts) modes here.result block in
      subst (λ c. DoesBy (follows raises c) here Nothing (start c) Stop (exec_all block here)) (sym e)
      ((exec_block raises (follows raises a) modes here block plain).does Stop (λ p d q x. x))

  -- an expression and a block of any body
  pub value_does : (left level : ℕ) (body : Body) (how : Use) (to : Option Root) (e : Expr) (rest : Acts) (k : Exits) → is_plain_value hooks e ≡ true →
      DoesBy (Edges raises (acts_of hooks modes how to e rest) k) (from left level body) A_value (entry (acts_of hooks modes how to e rest) (k GoesOn))
      (onto (entry rest (k GoesOn)) k) (eval e how (from left level body))
  value_does left level body how to e rest k h =
      (eval_part raises (Edges raises (acts_of hooks modes how to e rest) k) modes (from left level body) how to e how h).does rest k (λ p d q x. x)

  pub block_does : (left level : ℕ) (body : Body) (b : Stmts) (k : Exits) → is_plain_block hooks b ≡ true →
      DoesBy (Edges raises (stmts_acts hooks modes body.result b) k) (from left level body) Nothing
      (entry (stmts_acts hooks modes body.result b) (k GoesOn)) k (exec_all b (from left level body))
  block_does left level body b k h =
      (exec_block raises (Edges raises (stmts_acts hooks modes body.result b) k) modes (from left level body) b h).does k (λ p d q x. x)

  -- what comes of a call: it goes on, or stops in the call
  abbrev Returns : {A : Type 0} → Res State (Outcome A) → Type 0
  Returns (Got (On x) s) = Unit {0}
  Returns (Got (LeftBy way) s) = ⊥
  Returns (Over status live s) = other s.trail
  Returns (Going s) = other s.trail
  Returns (Errs s) = other s.trail

  inside : (t u : List Point) → other t → (u ≡ t) ⊎ other u → other u
  inside t u h (inl e) = subst (λ v. other v) (sym e) h
  inside t u h (inr g) = g

  still_returns : {A : Type 0} (t : List Point) (r : Res State (Outcome A)) → other t → PassesNone other t r → Returns r
  still_returns t (Got (On x) s) h g = tt
  still_returns t (Got (LeftBy way) s) h g = g
  still_returns t (Over status live s) h g = inside t s.trail h g
  still_returns t (Going s) h g = inside t s.trail h g
  still_returns t (Errs s) h g = inside t s.trail h g

  still_params : (here : Here) (params : List Param) (exit : ℕ) → Still other (params_end here params exit)
  still_params here [] exit = still_give other tt
  still_params here (param ∷ params) exit =
      still_both other (params_end here params exit) (ends here param.place exit) (still_params here params exit)
      (still_costs other 1 _ (still_branch other (is_hooked here.facts param.place.of) _ (give tt)
      (still_carry other (place_ends (form_of here.facts param.place.of) here.level param.place.number)) (still_give other tt)))

  -- the end of a call that no exception leaves
  still_end : (here : Here) (params : List Param) (last : ℕ) (flow : Outcome (Unit {0})) → ((v : Value) → Still other (handing flow v)) →
      Still other (handed params last here flow)
  still_end here params last flow h =
      still_both other (params_end here params (exit_of last flow)) _ (still_params here params (exit_of last flow))
      (still_looks other _
      (λ world. still_branch other (is_full (result_of here.result here.level world)) _ wrong
      (still_both other (change (down_to here.level)) _ (still_change other (down_to here.level))
      (still_costs other _ (handing flow (result_of here.result here.level world)) (h _))) (still_wrong other)))

  body_returns : (proc : ℕ) (here : Here) (params : List Param) (last : ℕ) (r : Res State (Outcome (Unit {0}))) →
      GoesBy (procedure_graph raises plan.sinks program proc) (first_point_of raises plan.sinks program proc) Stop other [] r →
      Returns (then_do r (handed params last here))
  body_returns proc here params last (Got (On done) s) h =
      still_returns s.trail (handed params last here (On done) s) (record { proc = proc; stands = record { to = Stop GoesOn; gone = h } })
      ((still_end here params last (On done) (λ v. still_give other v)).at s)
  body_returns proc here params last (Got (LeftBy (Broke by)) s) h =
      still_returns s.trail (handed params last here (LeftBy (Broke by)) s) (record { proc = proc; stands = record { to = Stop (Out by); gone = h } })
      ((still_end here params last (LeftBy (Broke by)) (λ v. still_give other v)).at s)
  body_returns proc here params last (Got (LeftBy (Continued by)) s) h =
      still_returns s.trail (handed params last here (LeftBy (Continued by)) s)
      (record { proc = proc; stands = record { to = Stop (Turn_over by); gone = h } })
      ((still_end here params last (LeftBy (Continued by)) (λ v. still_give other v)).at s)
  body_returns proc here params last (Got (LeftBy (Returned by)) s) h =
      still_returns s.trail (handed params last here (LeftBy (Returned by)) s) (record { proc = proc; stands = record { to = Stop (Back by); gone = h } })
      ((still_end here params last (LeftBy (Returned by)) (λ v. still_give other v)).at s)
  body_returns proc here params last (Got (LeftBy (Raised exception by)) s) h = absurd h
  body_returns proc here params last (Over status live s) (inl h) = record { proc = proc; stands = h }
  body_returns proc here params last (Over status live s) (inr h) = h
  body_returns proc here params last (Going s) (inl h) = record { proc = proc; stands = h }
  body_returns proc here params last (Going s) (inr h) = h
  body_returns proc here params last (Errs s) (inl h) = record { proc = proc; stands = h }
  body_returns proc here params last (Errs s) (inr h) = h

  -- the points of a call are its own
  apart : {A : Type 0} (t : List Point) (r : Res State (Outcome A)) → Returns r → PassesNone other t (then_do r (λ flow d. Got flow (with_trail t d)))
  apart t (Got (On x) s) h = refl
  apart t (Got (LeftBy way) s) h = h
  apart t (Over status live s) h = inr h
  apart t (Going s) h = inr h
  apart t (Errs s) h = inr h

  -- ---- programs without hooks

  module _ (plain : has_no_hooks program ≡ true) where
    procs_plain : are_plain_procs hooks program.procs ≡ true
    procs_plain = (and_parts (are_plain_procs hooks program.procs) (is_plain_body hooks program.start) plain).0

    pub procedure_does : (proc : ℕ) (p : Proc) (body : Body) (left level : ℕ) → slice_get program.procs proc ≡ Some p → p.body ≡ Some body →
        DoesBy (procedure_graph raises plan.sinks program proc) (from left level body) Nothing (first_point_of raises plan.sinks program proc) Stop
        (exec_all body.stmts (from left level body))
    procedure_does proc p body left level e f =
        let it = found hooks modes modes 0 proc program.procs p body procs_plain e f in
        body_does (from left level body) body.stmts (procedure_acts hooks plan.sinks program proc) it.acts it.plain

    goes_in : (proc : ℕ) (p : Proc) (body : Body) (left level : ℕ) → AreElsewhere other (calls program plan left (suc level)) →
        slice_get program.procs proc ≡ Some p → p.body ≡ Some body → (s : State) →
        GoesBy (procedure_graph raises plan.sinks program proc) (first_point_of raises plan.sinks program proc) Stop other s.trail
        (exec_all body.stmts (from left level body) s)
    goes_in proc p body left level h e f s =
        goes (procedure_graph raises plan.sinks program proc) (from left level body) other h (procedure_does proc p body left level e f) s

    -- where the statements of a body that is called begin
    abbrev begins_at : Proc → Body → List Slot → State → State
    begins_at p body slots s =
        let t = worked (body_sum program.facts program.globals p.params body + if_place_bytes program.facts body.result)
        (said (seen_call p.hook) (with_trail [] s)) in
        record t { world = with_frame t.world (frame_of program.facts body slots) }

    entered_returns : (left level proc : ℕ) (p : Proc) (slots : List Slot) → AreElsewhere other (calls program plan left (suc level)) →
        slice_get program.procs proc ≡ Some p → (b : Option Body) → p.body ≡ b → (s : State) →
        Returns ((say (seen_call p.hook) >> entered program.globals p.params b slots (from left level)) (with_trail [] s))
    entered_returns left level proc p slots h e None f s = tt
    entered_returns left level proc p slots h e (Some body) f s =
        body_returns proc (from left level body) p.params (last_of body.stmts) (exec_all body.stmts (from left level body) (begins_at p body slots s))
        (goes_in proc p body left level h e f (begins_at p body slots s))

    called_returns : (left level proc : ℕ) (slots : List Slot) → AreElsewhere other (calls program plan left (suc level)) →
        (p : Option Proc) → slice_get program.procs proc ≡ p → (s : State) → Returns (called program.globals p slots (from left level) (with_trail [] s))
    called_returns left level proc slots h None e s = tt
    called_returns left level proc slots h (Some p) e s = entered_returns left level proc p slots h e p.body refl s

    pub are_elsewhere : (left level : ℕ) → AreElsewhere other (calls program plan left level)
    are_elsewhere zero level proc slots s = (still_spending other (stop CallDepth) (still_stop other CallDepth)).at s
    are_elsewhere (suc left) level proc slots s =
        let act : Does Value = called program.globals (slice_get program.procs proc) slots (from left level) in
        (still_spending other (elsewhere act)
        (record {
          at = λ t. apart t.trail (act (with_trail [] t))
              (called_returns left level proc slots (are_elsewhere left (suc level)) (slice_get program.procs proc) refl t);
        })).at s

    -- each body of a procedure, from wherever it is called
    pub procedure_goes : (proc : ℕ) (p : Proc) (body : Body) (left level : ℕ) (s : State) → slice_get program.procs proc ≡ Some p → p.body ≡ Some body →
        GoesBy (procedure_graph raises plan.sinks program proc) (first_point_of raises plan.sinks program proc) Stop other s.trail
        (exec_all body.stmts (from_level program plan level (calls program plan left (suc level)) body) s)
    procedure_goes proc p body left level s e f = goes_in proc p body left level (are_elsewhere left (suc level)) e f s

    reports : (E : Graph) (p : Point) (t : List Point) (r : Res State (Outcome (Unit {0}))) → GoesBy E p Stop other t r →
        GoesBy E p Stop other t (then_do r reported)
    reports E p t (Got (On x) s) h = h
    reports E p t (Got (LeftBy way) s) h = h
    reports E p t (Over status live s) h = h
    reports E p t (Going s) h = h
    reports E p t (Errs s) h = h

    -- the start code
    pub start_does : DoesBy (start_graph raises plan.sinks program) (at_top program plan) Nothing (first_point raises plan.sinks program) Stop
        (exec_all program.start.stmts (at_top program plan))
    start_does =
        let start_plain = (and_parts (are_plain_procs hooks program.procs) (is_plain_body hooks program.start) plain).1 in
        body_does (at_top program plan) program.start.stmts (start_acts hooks plan.sinks program) (plain_body hooks modes modes program.start start_plain)
        (and_parts (is_plain_place hooks program.start.result) (is_plain_block hooks program.start.stmts) start_plain).1

    pub program_goes : (heap : ℕ) (input : List ℕ) (n : ℕ) →
        GoesBy (start_graph raises plan.sinks program) (first_point raises plan.sinks program) Stop other []
        (goes_through program plan (at_first program heap input n))
    program_goes heap input n =
        let s = worked (body_sum program.facts program.globals [] program.start) (at_first program heap input n) in
        reports (start_graph raises plan.sinks program) (first_point raises plan.sinks program) [] (exec_all program.start.stmts (at_top program plan) s)
        (goes (start_graph raises plan.sinks program) (at_top program plan) other (are_elsewhere ACTIVE_CALLS 1) start_does s)

    -- an expression and a block of any body, from wherever it is called
    pub value_goes : (left level : ℕ) (body : Body) (how : Use) (to : Option Root) (e : Expr) (rest : Acts) (k : Exits) (s : State) →
        is_plain_value hooks e ≡ true →
        GoesBy (Edges raises (acts_of hooks modes how to e rest) k) (entry (acts_of hooks modes how to e rest) (k GoesOn)) (onto (entry rest (k GoesOn)) k)
        other s.trail (eval e how (from left level body) s)
    value_goes left level body how to e rest k s h =
        goes (Edges raises (acts_of hooks modes how to e rest) k) (from left level body) other (are_elsewhere left (suc level))
        (value_does left level body how to e rest k h) s

    pub block_goes : (left level : ℕ) (body : Body) (b : Stmts) (k : Exits) (s : State) → is_plain_block hooks b ≡ true →
        GoesBy (Edges raises (stmts_acts hooks modes body.result b) k) (entry (stmts_acts hooks modes body.result b) (k GoesOn)) k other s.trail
        (exec_all b (from left level body) s)
    block_goes left level body b k s h =
        goes (Edges raises (stmts_acts hooks modes body.result b) k) (from left level body) other (are_elsewhere left (suc level))
        (block_does left level body b k h) s
