-- What ends where a part is left: places and temporaries, by lines that set no temporary of flat code.
use Rattle.std.proofs.Common.{◌≡◌, ℕ, ◌+◌, Bool, true, false, List, [], ◌∷◌, refl, sym, ap, ◌∙◌, subst, arith}
use Rattle.std.specs.Prelude.{if◌then◌else◌}
use Rattle.arc_base.specs.BigStep.{Got}
use Rattle.nim_types.specs.Types.{Ty, Facts}
use Rattle.nim_types.specs.Forms.{Form, form_of}
use Rattle.nim_types.specs.Table.{type_at as type_by_number}
use Rattle.nim_program.specs.Program.{Declared, Param}
use Rattle.nim_meaning.specs.Values.{Operand, Waiting, at_base}
use Rattle.nim_meaning.specs.State.{World, State, slot_at, temporary_at}
use Rattle.nim_meaning.specs.ActTree.{Named, Temporary, Flow}
use Rattle.nim_meaning.specs.Ways.{Leave as Scope_left}
use Rattle.nim_meaning.specs.Acts.{Outcome, On, Does, worked, with_trail, left_as, leaving_scope, as_before, branch, costs, give, ◌>>◌}
use Rattle.nim_meaning.specs.Deeds.{Deed, Leaves, carry, perform, behind, Done, Answers, Finishes, Fails, costs as deed_costs, looks, does as changes}
use Rattle.nim_meaning.specs.Deeds.{give as gives, ◌>>=◌}
use Rattle.nim_meaning.specs.Lifted.{slot_ends, temporary_ends}
use Rattle.nim_meaning.specs.Here.{Here, is_hooked}
use Rattle.nim_meaning.specs.Waiting.{Wait}
use Rattle.nim_meaning.specs.Meaning.{all_end, ended, ends, place_ends, params_end}
use Rattle.flat_code.specs.declared.line.From.{From}
use Rattle.flat_code.specs.declared.line.Owning.{Owning}
use Rattle.flat_code.specs.declared.line.Owning.TheVariants as W
use Rattle.flat_code.specs.declared.line.Line.{Line}
use Rattle.flat_code.specs.declared.line.Line.TheVariants as L
use Rattle.flat_code.specs.Scene.{Temps, Did, Passes}
use Rattle.flat_code.specs.Scene as scenes
use Rattle.flat_code.specs.Lines.{using_all, owns, is_there, if_filled, handed_over, without_all, traded_by}
use Rattle.flat_code.specs.Lines as does
use Rattle.flattening.specs.Numbering.{type_number, number_or}
use Rattle.flattening.specs.ExprLines.{end_lines}
use Rattle.flattening.specs.StmtLines.{place_end, param_ends}
use Rattle.flattening.proofs.Runs.{M, Runs, pays, known}
use Rattle.flattening.proofs.Worlds.{since_none, since_then, still_holds}
use Rattle.flattening.proofs.Openings.{answering_all}
use Rattle.flattening.proofs.Temps.{kept_none}
use Rattle.flattening.proofs.Spots.{Spot, here_of, there, scene, Lands, past, after, answers, further, performs}

-- a type of the table, by its number
abbrev pub IsListed : List Ty → Ty → Type 0
IsListed types ty = type_by_number types (type_number types ty) ≡ ty

-- the same temporaries
abbrev pub Same : {A : Type 0} → Temps → A → Temps → Type 0
Same temps x now = now ≡ temps

-- an end that is none
abbrev ended_on : Outcome (Unit {0})
ended_on = On tt

ticked : {A : Type 0} (d : Done A) → behind [] 1 (behind [] 1 d) ≡ behind [] 2 d
ticked (Answers es n x world) = let e : 1 + (1 + n) ≡ 2 + n = omega arith in ap (λ n. Answers es n x world) e
ticked (Finishes es n status world) = let e : 1 + (1 + n) ≡ 2 + n = omega arith in ap (λ n. Finishes es n status world) e
ticked (Fails es n world) = let e : 1 + (1 + n) ≡ 2 + n = omega arith in ap (λ n. Fails es n world) e

module _ (c : Spot) where
  abbrev facts : Facts
  facts = c.fixed.program.facts

  abbrev types : List Ty
  types = c.fixed.program.types

  abbrev here : Here
  here = here_of c

  -- ---- ONE line for what is done with what somebody owns

  pub own_follows : (what : Owning) (from : List From) (xs : List Operand) (k : List Line) (temps : Temps) (s : State) →
      ((did : Did) → if_filled what (scene c temps s.world) did ≡ did) → ((go : List Operand → Did) → using_all temps from go ≡ go xs) →
      handed_over (traded_by what from) temps ≡ temps →
      Runs c.fixed (Lands c k 0 0 temps s.world (Same temps)) 1 0 (there c (L.Own what from ∷ k) temps s.world) s.meter
      (carry (owns (known c.fixed) what c.level xs) s)
  own_follows what from xs k temps s filled fetched stays =
      let x = scene c temps s.world in
      let y = without_all (traded_by what from) x in
      let deed = owns (known c.fixed) what c.level xs in
      performs c (λ u. temps) deed s 1 (omega arith) (answering_all (λ u. Same temps u temps) (λ u. refl) deed) (λ u. kept_none 0 0 temps)
      (fetched (λ xs. if_filled what x (does.acts y (deed_costs 1 (owns (known c.fixed) what c.level xs))))
      ∙ (filled (does.acts y (deed_costs 1 deed)) ∙ ap (λ temps. does.acts (scene c temps s.world) (deed_costs 1 deed)) stays))

  -- ---- ends

  -- a place of the call holds something
  abbrev pub IsOpen : Declared → World → Type 0
  IsOpen place world = is_there (slot_at world c.level place.number) ≡ true

  pub as_open : (world : World) (place : Declared) → IsOpen place world → (did : Did) → does.if_open world c.level place.number did ≡ did
  as_open world place is did = ap (λ b. branch b did scenes.Fails) is

  -- these lines do what the meaning does, and the machine comes to those behind
  abbrev pub EndsFollow : (ready : World → Type 0) → (lines : List Line → List Line) → (act : Outcome (Unit {0}) → Does (Unit {0})) → Type 0
  EndsFollow ready lines act = (flow : Outcome (Unit {0})) (k : List Line) (temps : Temps) (s : State) → ready s.world →
      Runs c.fixed (Lands c k 0 0 temps s.world (Same temps)) 0 0 (there c (lines k) temps s.world) s.meter (act flow s)

  pub place_ends_follow : (place : Declared) → IsListed types place.of → (exit : Outcome (Unit {0}) → ℕ) →
      EndsFollow (IsOpen place) (place_end types facts place)
      (λ flow. leaving_scope (is_hooked facts place.of) (Named place.number) (left_as flow) (ends here place (exit flow)))
  place_ends_follow place listed exit flow k temps s opened = on (is_hooked facts place.of)
    where
      line_is : Line
      line_is = L.Own (W.PlaceEnds place.number (type_number types place.of)) []

      passed : State
      passed = with_trail (Scope_left (Named place.number) (left_as flow) ∷ s.trail) s

      on : (b : Bool) → Runs c.fixed (Lands c k 0 0 temps s.world (Same temps)) 0 0 (there c (if b then line_is ∷ k else k) temps s.world) s.meter
          (leaving_scope b (Named place.number) (left_as flow)
          (costs 1 (branch b (carry (place_ends (form_of facts place.of) c.level place.number)) (give tt))) s)
      on true =
          pays 1 1 (omega arith)
          (subst (λ ty. Runs c.fixed (Lands c k 0 0 temps s.world (Same temps)) 1 0 (there c (line_is ∷ k) temps s.world) (worked 1 s).meter
          (carry (place_ends (form_of facts ty) c.level place.number) (worked 1 passed))) listed
          (own_follows (W.PlaceEnds place.number (type_number types place.of)) [] [] k temps (worked 1 passed)
          (as_open s.world place opened) (λ go. refl) refl))
      on false = pays 0 1 (omega arith) (answers {P = Same temps} tt (worked 1 s) temps (omega arith) refl (kept_none 0 0 temps) (since_none c.level s.world))

  -- a place at an exit
  at_exit_follows : (place : Declared) → IsListed types place.of → (exit : ℕ) (k : List Line) (temps : Temps) (s : State) → IsOpen place s.world →
      Runs c.fixed (Lands c k 0 0 temps s.world (Same temps)) 0 0 (there c (place_end types facts place k) temps s.world) s.meter (ends here place exit s)
  at_exit_follows place listed exit k temps s opened = on (is_hooked facts place.of)
    where
      line_is : Line
      line_is = L.Own (W.PlaceEnds place.number (type_number types place.of)) []

      on : (b : Bool) → Runs c.fixed (Lands c k 0 0 temps s.world (Same temps)) 0 0 (there c (if b then line_is ∷ k else k) temps s.world) s.meter
          (costs 1 (branch b (carry (place_ends (form_of facts place.of) c.level place.number)) (give tt)) s)
      on true =
          pays 1 1 (omega arith)
          (subst (λ ty. Runs c.fixed (Lands c k 0 0 temps s.world (Same temps)) 1 0 (there c (line_is ∷ k) temps s.world) (worked 1 s).meter
          (carry (place_ends (form_of facts ty) c.level place.number) (worked 1 s))) listed
          (own_follows (W.PlaceEnds place.number (type_number types place.of)) [] [] k temps (worked 1 s) (as_open s.world place opened)
          (λ go. refl) refl))
      on false = pays 0 1 (omega arith) (answers {P = Same temps} tt (worked 1 s) temps (omega arith) refl (kept_none 0 0 temps) (since_none c.level s.world))

  -- the type of what waits is of the table
  abbrev pub IsListedWait : Wait → Type 0
  IsListedWait w = form_of facts (type_by_number types (number_or types w.of)) ≡ w.form

  abbrev pub AreListedWaits : List Wait → Type 0
  AreListedWaits [] = Unit {0}
  AreListedWaits (w ∷ ws) = IsListedWait w × AreListedWaits ws

  wait_ends_follow : (w : Wait) → IsListedWait w → (flow : Flow) (k : List Line) (temps : Temps) (s : State) →
      Runs c.fixed (Lands c k 0 0 temps s.world (Same temps)) 0 0
      (there c (L.Own (W.TemporaryEnds w.node (number_or types w.of)) [] ∷ k) temps s.world) s.meter
      (leaving_scope true (Temporary w.node) flow (carry (temporary_ends w.form c.level w.node)) s)
  wait_ends_follow w listed flow k temps s =
      let node = w.node in
      let s1 : State = with_trail (Scope_left (Temporary w.node) flow ∷ s.trail) s in
      let rest : Form → Deed (Unit {0}) = λ f.
      looks (λ world. slot_ends f (at_base (Waiting c.level node)) (temporary_at world c.level node)) >>= (λ done. changes (Leaves c.level node)) in
      let l = L.Own (W.TemporaryEnds node (number_or types w.of)) [] in
      pays 2 1 (omega arith)
      (performs c (λ u. temps) (rest w.form) (worked 1 s1) 2 (omega arith) (answering_all (λ u. Same temps u temps) (λ u. refl) (rest w.form))
      (λ u. kept_none 0 0 temps)
      (ap (λ f. does.acts (scene c temps s.world) (deed_costs 1 (temporary_ends f c.level node))) listed
      ∙ ap (λ d. Passes d) (ticked (perform (rest w.form >>= (λ u. gives temps)) s.world))))

  -- of a group
  pub waits_end_follow : (waits : List Wait) → AreListedWaits waits →
      EndsFollow (λ world. Unit {0}) (end_lines types waits) (λ flow. all_end c.level (left_as flow) waits)
  waits_end_follow [] listed flow k temps s ready = answers {P = Same temps} tt s temps (omega arith) refl (kept_none 0 0 temps) (since_none c.level s.world)
  waits_end_follow (w ∷ ws) listed flow k temps s ready =
      after 0 (omega arith) (omega arith)
      (waits_end_follow ws listed.1 flow (L.Own (W.TemporaryEnds w.node (number_or types w.of)) [] ∷ k) temps s tt)
      (λ u b now same kept since.
      subst (λ now. Runs c.fixed (Lands c k 0 0 temps s.world (Same temps)) 0 0
      (there c (L.Own (W.TemporaryEnds w.node (number_or types w.of)) [] ∷ k) now b.world) b.meter
      (leaving_scope true (Temporary w.node) (left_as flow) (carry (temporary_ends w.form c.level w.node)) b)) (sym same)
      (further {lo' = 0} {hi' = 0} (omega arith) (omega arith) (kept_none 0 0 temps) since (λ u last p kept. p)
      (wait_ends_follow w listed.0 (left_as flow) k temps b)))

  -- of the parameters of a body, behind it, at an exit
  abbrev pub AreListedParams : List Param → Type 0
  AreListedParams [] = Unit {0}
  AreListedParams (param ∷ params) = IsListed types param.place.of × AreListedParams params

  abbrev pub AreOpenParams : List Param → World → Type 0
  AreOpenParams [] world = Unit {0}
  AreOpenParams (param ∷ params) world = IsOpen param.place world × AreOpenParams params world

  pub param_ends_follow : (params : List Param) → AreListedParams params → (exit : ℕ) (k : List Line) (temps : Temps) (s : State) →
      AreOpenParams params s.world →
      Runs c.fixed (Lands c k 0 0 temps s.world (Same temps)) 0 0 (there c (param_ends types facts params k) temps s.world) s.meter
      (params_end here params exit s)
  param_ends_follow [] listed exit k temps s opened = answers {P = Same temps} tt s temps (omega arith) refl (kept_none 0 0 temps) (since_none c.level s.world)
  param_ends_follow (param ∷ params) listed exit k temps s opened =
      after 0 (omega arith) (omega arith) (param_ends_follow params listed.1 exit (place_end types facts param.place k) temps s opened.1)
      (λ u b now same kept since.
      subst (λ now. Runs c.fixed (Lands c k 0 0 temps s.world (Same temps)) 0 0 (there c (place_end types facts param.place k) now b.world) b.meter
      (ends here param.place exit b)) (sym same)
      (further {lo' = 0} {hi' = 0} (omega arith) (omega arith) (kept_none 0 0 temps) since (λ u last p kept. p)
      (at_exit_follows param.place listed.0 exit k temps b (still_holds c.level param.place.number (omega arith) since opened.0))))

  -- ---- parts that aren't left, with what ends behind them

  pub ended_follows : {A : Type 0} {P : A → Temps → Type 0} {k : List Line} {lo hi : ℕ} {temps : Temps} {world : World} {p q : ℕ} {m : M} (waits : List Wait) →
      AreListedWaits waits → (part : Does A) (s : State) → Runs c.fixed (Lands c (end_lines types waits k) lo hi temps world P) p q m s.meter (part s) →
      Runs c.fixed (Lands c k lo hi temps world P) p q m s.meter (ended here waits part s)
  ended_follows [] listed part s f = f
  ended_follows {A} {P} {k} {lo} {hi} {temps} {world} {p} {q} {m} (w ∷ ws) listed part s f =
      past {q' = q} (λ flow. all_end c.level (left_as flow) (w ∷ ws) >> as_before flow) q (omega arith) (omega arith) f
      (λ v b now has kept since.
      after q (omega arith) (omega arith) (waits_end_follow (w ∷ ws) listed ended_on k now b tt)
      (λ u d last same kept2 since2.
      subst (λ now. Runs c.fixed (Lands c k lo hi temps world P) q q (there c k now d.world) d.meter (Got (On v) d)) (sym same)
      (answers v d now (omega arith) has kept (since_then since since2))))
