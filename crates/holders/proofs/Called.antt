-- A call as a whole, seen from its caller, where the code of the procedure keeps to its cells.
use Rattle.std.proofs.Common.{◌≡◌, sym, ap, subst, ◌∙◌, ℕ, ◌≤◌, inr, ◌⊎◌, List, [], ◌∷◌, length, Option, Some, Bool, true, false, arith, refl}
use Rattle.nim_types.specs.Forms.{Form, form_of}
use Rattle.nim_program.specs.Program.{Declared, Param, Body, last_of}
use Rattle.nim_meaning.specs.Values.{Value, Stands, Standing, Location, at_base}
use Rattle.nim_meaning.specs.Marks.{Member}
use Rattle.nim_meaning.specs.State.{Frame, World, State, frame_in, slot_at, slot_of, joined, with_frame, down_to}
use Rattle.nim_meaning.specs.Acts.{wrong, Exit, Broke, Continued, Returned, Raised, Outcome, On, Out, Does, give, change, looks, costs, branch, ◌>>◌, at_exit}
use Rattle.nim_meaning.specs.Acts.{exit_of}
use Rattle.nim_meaning.specs.Deeds.{carry}
use Rattle.nim_meaning.specs.Here.{Here, is_hooked}
use Rattle.nim_meaning.specs.Lifted.{slot_ends}
use Rattle.nim_meaning.specs.Places.{place_at}
use Rattle.nim_meaning.specs.Meaning.{place_ends, ends, params_end, result_of, result_bytes, handing, handed, exec_all}
use Rattle.holders.specs.Owned.{IsName, a_name}
use Rattle.holders.specs.Sure.{Sure, Comes}
use Rattle.holders.specs.Becoming.{taken_in, times}
use Rattle.holders.specs.Territory.{Owner, AllOwners}
use Rattle.holders.specs.Working.{without}
use Rattle.holders.specs.Running.{IsBelow, Region}
use Rattle.holders.specs.Staging.{Stage}
use Rattle.holders.specs.Called.{ParamsEnd, no_params, own_param, other_param, Result, gives_none, gives_one, CameBack, without_value}
use Rattle.holders.specs.Called.{with_value, NotRaised}
use Rattle.nim_meaning.specs.Values.{is_full}
use Rattle.holders.proofs.Guards.{has_full}
use Rattle.holders.proofs.Owning.{has_stays}
use Rattle.holders.proofs.Bases.{loaded}
use Rattle.holders.proofs.FrameChanges.{base_below_level}
use Rattle.holders.proofs.Calling.{first_apart, returns}
use Rattle.holders.proofs.Staging.{stage_over, stage_lets_go}
use Rattle.holders.proofs.Groups.{stage_front}
use Rattle.holders.proofs.Coming.{comes_carried, comes_then, comes_at_exit}

-- ---- parameters at the end of a call

module _ (r : Region) (gs : List Owner) (first places : ℕ) (nodes old : List ℕ) (start : World) (here : Here) (level_is : here.level ≡ r.level) where
  abbrev At : List Owner → World → Type 0
  At ms now = Stage r ms gs first places nodes old start now

  own_ends : {ms : List Owner} (place : Declared) (exit : ℕ) (X : Exit → World → Type 0) (now : State) → r.places place.number ≡ true →
      At (record { form = form_of here.facts place.of; at = at_base (Standing here.level place.number) } ∷ ms) now.world →
      Comes (λ u after. At ms after) X (ends here place exit now)
  own_ends {ms} place exit X now mine g = by (is_hooked here.facts place.of) refl
    where
      at_level : At (record { form = form_of here.facts place.of; at = at_base (Standing r.level place.number) } ∷ ms) now.world
      at_level = subst (λ l. At (record { form = form_of here.facts place.of; at = at_base (Standing l place.number) } ∷ ms) now.world) level_is g

      by : (b : Bool) → is_hooked here.facts place.of ≡ b → Comes (λ u after. At ms after) X
          (costs 1 (branch b (carry (place_ends (form_of here.facts place.of) here.level place.number)) (give tt)) now)
      by true e = comes_carried (λ u after. At ms after) X (place_ends (form_of here.facts place.of) here.level place.number) _
          (subst (λ l. Sure (place_ends (form_of here.facts place.of) l place.number) (λ u after. At ms after) now.world) (sym level_is)
          (stage_over r gs first places old start place.number mine at_level))
      by false e = stage_lets_go r gs first places old start e g

  name_ends : {ms : List Owner} {l : Location} (place : Declared) (exit : ℕ) (X : Exit → World → Type 0) (now : State) →
      IsName now.world.frames here.level place.number l → At ms now.world → Comes (λ u after. At ms after) X (ends here place exit now)
  name_ends {ms} {l} place exit X now name g = by (is_hooked here.facts place.of)
    where
      slot_there : IsName now.world.frames here.level place.number l → slot_at now.world here.level place.number ≡ Some (Stands l)
      slot_there (a_name frame e le q) = ap (λ (x : Option Frame). slot_of (frame_in x) place.number) e ∙ ap joined q

      by : (b : Bool) → Comes (λ u after. At ms after) X
          (costs 1 (branch b (carry (place_ends (form_of here.facts place.of) here.level place.number)) (give tt)) now)
      by true = comes_carried (λ u after. At ms after) X (place_ends (form_of here.facts place.of) here.level place.number) _
          (subst (λ slot. Sure (slot_ends (form_of here.facts place.of) (place_at here.level place.number) slot) (λ u after. At ms after) now.world)
          (sym (slot_there name)) g)
      by false = g

  params_over : {params : List Param} {ms ns : List Owner} (exit : ℕ) (X : Exit → World → Type 0) → ParamsEnd r here start params ms ns → (now : State) →
      At ms now.world → Comes (λ u after. At ns after) X (params_end here params exit now)
  params_over exit X no_params now g = g
  params_over exit X (own_param {param = param} {params = params} {ns = ns} e mine i) now g =
      comes_then (params_end here params exit) (λ u. ends here param.place exit) (λ u after. At ns after) (λ u after. At (without i) after) X now
      (params_over exit X e now g) (λ u later h. own_ends param.place exit X later mine (stage_front r gs first places old start i h))
  params_over exit X (other_param {param = param} {params = params} {ns = ns} {l = l} e out name) now g =
      comes_then (params_end here params exit) (λ u. ends here param.place exit) (λ u after. At ns after) (λ u after. At ns after) X now
      (params_over exit X e now g)
      (λ u later h. name_ends param.place exit X later (h.runs.passes.names here.level param.place.number l name (inr (level_is, out))) h)

-- ---- the result

-- a call's frame goes, with what it had for itself
module _ (r : Region) (gs : List Owner) (first places : ℕ) (nodes old : List ℕ) (world : World) (frame : Frame) (here : Here)
    (level_is : here.level ≡ r.level) (count : length world.frames ≡ r.level) (below : AllOwners (λ g. IsBelow r.level g.at.base) gs) where
  abbrev entered_world : World
  entered_world = with_frame world frame

  came_back : {f : Option Form} {ms : List Owner} → Result here ms f → (last : World) → Stage r ms gs first places nodes old entered_world last →
      CameBack gs old world (result_of here.result here.level last) (down_to r.level last) f
  came_back (gives_none e) last s =
      without_value (returns r frame count below s.runs.territory s.runs.came s.runs.passes (λ k. omega (arith, s.runs.loses k))).moves
      (ap (λ (p : Option Declared). result_of p here.level last) e)
  came_back (gives_one place e) last s =
      let a = first_apart s.runs.territory in
      let f = form_of here.facts place.of in
      let came : (k : ℕ) → Member k a.others.blocks → Member k old ⊎ (Member k [] ⊎ (taken_in world ≤ k)) = λ k m. s.runs.came k (a.within k m) in
      subst (λ v. CameBack gs old world v (down_to r.level last) (Some f))
      (sym (ap (λ (p : Option Declared). result_of p here.level last) e ∙ loaded last (place_at here.level place.number) a.value a.base))
      (let back = returns {goes = λ k. times k a.under.given} r frame count below a.others came s.runs.passes
      (λ k. omega (arith, s.runs.loses k, a.sum k)) in
      with_value (record {
        goes = λ k. times k a.under.given;
        moves = back.moves;
        value = record {
          given = a.under.given;
          has = has_stays last (down_to r.level last) (λ k x m is. base_below_level r.level tt is) a.under.has;
          distinct = a.under.distinct;
          strange = λ k m n. a.under.strange k m (subst (λ ds. Member k ds) back.same n);
          clear = a.under.clear;
        };
        came = λ k m. s.runs.came k (a.were k m);
        goes_is = λ k. omega arith;
      }))

  -- ---- the whole of it

  pub call_comes : {f : Option Form} {ms ns : List Owner} (params : List Param) (body : Body) (work : ℕ) → ParamsEnd r here entered_world params ms ns →
      Result here ns f → (s : State) → s.world ≡ world →
      ((now : State) → now.world ≡ entered_world → Comes (λ u after. Stage r ms gs first places nodes old entered_world after)
      (λ way after. NotRaised way × Stage r ms gs first places nodes old entered_world after) (exec_all body.stmts here now)) →
      Comes (λ v after. CameBack gs old world v after f) (λ way after. ⊥)
      (costs work (change (λ w. with_frame w frame) >> at_exit (exec_all body.stmts here) (handed params (last_of body.stmts) here)) s)
  call_comes {f} {ms} {ns} params body work ends result s e body_so =
      comes_at_exit (exec_all body.stmts here) (handed params (last_of body.stmts) here) (λ u after. At ms after) (λ way after. NotRaised way × At ms after)
      P (λ way after. ⊥) _ (body_so _ (ap (λ (w : World). with_frame w frame) e))
      (λ u now g. hands (On u) tt now g) (λ way now g. hands (Out way) g.0 now g.1)
    where
      At : List Owner → World → Type 0
      At os now = Stage r os gs first places nodes old entered_world now

      P : Value → World → Type 0
      P v after = CameBack gs old world v after f

      NotLeft : Outcome (Unit {0}) → Type 0
      NotLeft (On u) = Unit {0}
      NotLeft (Out way) = NotRaised way

      given : (flow : Outcome (Unit {0})) → NotLeft flow → (v : Value) (now : State) → P v now.world → Comes P (λ way after. ⊥) (handing flow v now)
      given (On u) ok v now h = h
      given (Out (Broke by)) ok v now h = h
      given (Out (Continued by)) ok v now h = h
      given (Out (Returned by)) ok v now h = h
      given (Out (Raised exception by)) ok v now h = elim ok [ ]

      goes : Outcome (Unit {0}) → Does Value
      goes flow = looks (λ last. branch (is_full (result_of here.result here.level last)) (change (down_to here.level)
          >> costs (result_bytes here.result (result_of here.result here.level last)) (handing flow (result_of here.result here.level last))) wrong)

      -- the result is all there
      full_result : (last : World) → At ns last → is_full (result_of here.result here.level last) ≡ true
      full_result last h = by result h
        where
          by : {os : List Owner} {g : Option Form} → Result here os g → At os last → is_full (result_of here.result here.level last) ≡ true
          by (gives_none e) h = ap (λ (p : Option Declared). is_full (result_of p here.level last)) e
          by (gives_one place e) h =
              let a = first_apart h.runs.territory in
              ap is_full (ap (λ (p : Option Declared). result_of p here.level last) e ∙ loaded last (place_at here.level place.number) a.value a.base)
              ∙ has_full tt a.under.has

      hands : (flow : Outcome (Unit {0})) → NotLeft flow → (now : State) → At ms now.world →
          Comes P (λ way after. ⊥) (handed params (last_of body.stmts) here flow now)
      hands flow ok now g =
          comes_then (params_end here params (exit_of (last_of body.stmts) flow)) (λ u. goes flow) (λ u after. At ns after) P (λ way after. ⊥) now
          (params_over r gs first places nodes old entered_world here level_is (exit_of (last_of body.stmts) flow) (λ way after. ⊥) ends now g)
          (λ u last h. subst (λ b. Comes P (λ way after. ⊥) (branch b (change (down_to here.level)
          >> costs (result_bytes here.result (result_of here.result here.level last.world)) (handing flow (result_of here.result here.level last.world)))
          wrong last))
          (sym (full_result last.world h))
          (given flow ok (result_of here.result here.level last.world) _
          (subst (λ l. P (result_of here.result here.level last.world) (down_to l last.world)) (sym level_is) (came_back result last.world h))))
