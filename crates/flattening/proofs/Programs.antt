-- Flat code of a program follows the program: from this it agrees with it, keeps pace, and shows exactly as much by units.
use Rattle.std.proofs.Common.{◌≡◌, ◌≢◌, ℕ, zero, suc, ◌+◌, ◌*◌, ◌≤◌, ◌⊎◌, inl, inr, true}
use Rattle.std.proofs.Common.{List, [], ◌∷◌, ◌++◌, map, None, refl, sym, ap, ◌∙◌, subst, arith, append-nil}
use Rattle.arc_base.specs.Event.{Event}
use Rattle.arc_base.specs.Behaviour.{Behaviour, Seen, Ended, Wrong, Agrees, Sound}
use Rattle.arc_base.specs.Pace.{Paced}
use Rattle.arc_base.specs.Stepping.{seen, run}
use Rattle.arc_base.specs.BigStep.{Res, Got, Over, Going, Errs as IsWrong, begun, seen_of}
use Rattle.arc_base.proofs.ForCallers.{steady, Same, meets_by_steps, agrees_by_meeting, paced_by_meeting}
use Rattle.nim_plan.specs.declared.plan.Plan.{Plan}
use Rattle.nim_program.specs.declared.program.TheConstants.{ACTIVE_CALLS}
use Rattle.nim_program.specs.Program.{Body, Program}
use Rattle.nim_program.specs.Sizes.{body_sum}
use Rattle.nim_meaning.specs.Values.{nothing}
use Rattle.nim_meaning.specs.State.{World, State, Frame, live, world_of}
use Rattle.nim_meaning.specs.Acts.{Broke, Continued, Returned, Raised, Outcome, On, Out, worked}
use Rattle.nim_meaning.specs.Meaning.{frame_of, at_first, reported, goes_through, meaning}
use Rattle.flat_code.specs.declared.line.Line.{Line}
use Rattle.flat_code.specs.declared.line.Line.TheVariants as L
use Rattle.flat_code.specs.Scene.{no_temps, Returns}
use Rattle.flat_code.specs.Running.{Proc, last_of, beginning}
use Rattle.flat_code.specs.Running as running
use Rattle.flattening.specs.StmtLines.{number_of}
use Rattle.flattening.specs.Flattened.{code_of_body, flat_start, flat_meaning, IsExact}
use Rattle.flattening.specs.Formed.{AtFirst, IsFormed, named_in}
use Rattle.flattening.proofs.Runs.{Fixed, M, step, by_units, ahead, Stops, stops_on, Shows, Runs, line_ends, lands, pays, follows_on}
use Rattle.flattening.proofs.Spots.{Spot, there, does_at, spent, stepped}
use Rattle.flattening.proofs.Standing.{Stands}
use Rattle.flattening.proofs.Frames.{stands_called}
use Rattle.flattening.proofs.Bodies.{spot_of, result_among, ReturnsAt, Back, room_of, body_follows}
use Rattle.flattening.proofs.Calls.{code_at, calls_follow}
use Rattle.flattening.proofs.Units.{is_run}

last_behind : {A : Type 0} (none : A) (xs : List A) (y : A) → last_of none (xs ++ y ∷ []) ≡ y
last_behind none [] y = refl
last_behind none (x ∷ xs) y = last_behind x xs y

ahead_is : (n k : ℕ) → ahead n k ≡ n + k
ahead_is zero k = omega arith
ahead_is (suc n) k = let e = ahead_is n k in omega (arith, e)

back_at : (c : Spot) (old : World) (flow : Outcome (Unit {0})) (b : State) (m : M) → Back c [] old flow b m → ReturnsAt c [] old b.world m
back_at c old (On done) b m g = g
back_at c old (Out (Broke by)) b m g = g
back_at c old (Out (Continued by)) b m g = g
back_at c old (Out (Returned by)) b m g = g
back_at c old (Out (Raised exception by)) b m g = absurd g

module _ (program : Program) (plan : Plan) (formed : IsFormed program) (heap : ℕ) (input : List ℕ) where
  abbrev x : Fixed
  x = record { program = program; plan = plan }

  abbrev start : Body
  start = program.start

  abbrev c : Spot
  c = spot_of x [] start 0 ACTIVE_CALLS []

  abbrev first_frame : Frame
  first_frame = frame_of program.facts start []

  abbrev first_world : World
  first_world = world_of (first_frame ∷ []) heap input

  abbrev high : Behaviour Event
  high = meaning program plan heap input

  start_is : flat_start program plan heap input ≡ there c c.whole no_temps first_world
  start_is =
      ap (λ (p : Proc Line). record {
        now = beginning p 0 ACTIVE_CALLS;
        waiting = [];
        world = world_of (running.frame_of p [] ∷ []) heap input;
      }) (last_behind running.no_proc (map (code_at program plan) program.procs) (code_of_body program plan None [] start))

  -- ---- the start code comes to its end

  abbrev Ends : Outcome (Unit {0}) → State → M → Type 0
  Ends flow b m = Stops x 1 m b.meter (Ended 0 (live b.world)) b.meter

  ends : (old : World) (b : State) (m : M) → ReturnsAt c [] old b.world m → Stops x 1 m b.meter (Ended 0 (live b.world)) b.meter
  ends old b m g =
      let l = L.Return (number_of start.result) in
      let is : does_at c g.now b.world l ≡ Returns nothing 1 = ap (λ result. does_at c g.now b.world (L.Return (number_of result))) formed.gives in
      subst (λ m. Stops x 1 m b.meter (Ended 0 (live b.world)) b.meter) (sym g.is)
      (line_ends [] 1 0 (live b.world) (spent c l g.k g.now b.world _ is) (stepped c l g.k g.now b.world _ is) (append-nil b.meter.out) (omega arith))

  stands : Stands c (room_of start) (AtFirst 0 (λ place. ⊥) start) first_world
  stands = stands_called c program.facts start [] 0 (λ place. ⊥) (world_of [] heap input) refl refl (λ place is. absurd is)
      (result_among program.types (AtFirst 0 (λ place. ⊥) start) start.result formed.start.0)

  follows : (n : ℕ) → Runs x Ends 12 12 (flat_start program plan heap input) (begun n) (goes_through program plan (at_first program heap input n))
  follows n =
      let s = at_first program heap input n in
      let cost = body_sum program.facts program.globals [] start in
      subst (λ m. Runs x Ends 12 12 m (begun n) (goes_through program plan s)) (sym start_is)
      (pays 12 cost (omega arith)
      (follows_on 12 reported (omega arith) (omega arith)
      (body_follows x [] start 0 ACTIVE_CALLS [] true (named_in formed.names) 0 (λ place. ⊥)
      (calls_follow x formed ACTIVE_CALLS 0 c.whole [] start.result) (λ e. refl) formed.start
      (worked cost s) stands)
      (λ flow b m falls g. lands flow b (omega arith) (ends first_world b m (back_at c first_world flow b m g)))))

  -- ---- what is seen by so many units

  abbrev status : Outcome (Unit {0}) → ℕ
  status flow = 0

  record Shown (n : ℕ) : Type 0 where
    lines : ℕ
    work : ℕ
    paid : work ≤ 12 * ((high n).work + 1)
    by : (k w : ℕ) → by_units x (ahead lines k) (flat_start program plan heap input) n [] w ≡ seen (high n).events (high n).phase (w + work)

  shown_of : (n : ℕ) (r : Res State (Outcome (Unit {0}))) → ((seen_of (λ (s : State). s.meter) status (λ s. live s.world) r).phase ≢ Wrong) →
      Shows x Ends 12 12 (flat_start program plan heap input) (begun n) r →
      (lines : ℕ) × (work : ℕ) × (work ≤ 12 * ((seen_of (λ (s : State). s.meter) status (λ s. live s.world) r).work + 1)) × ((k w : ℕ) →
      by_units x (ahead lines k) (flat_start program plan heap input) n [] w ≡
      seen (seen_of (λ (s : State). s.meter) status (λ s. live s.world) r).events (seen_of (λ (s : State). s.meter) status (λ s. live s.world) r).phase
      (w + work))
  shown_of n (Got flow b) ok (m, w, g) =
      let f = stops_on 12 (omega arith) w g in
      (f.lines, f.work, omega (arith, f.paid), f.by)
  shown_of n (Over k l b) ok f = (f.lines, f.work, omega (arith, f.paid), f.by)
  shown_of n (Going b) ok f = (f.lines, f.work, omega (arith, f.paid), f.by)
  shown_of n (IsWrong b) ok f = absurd (ok refl)

  module _ (sound : Sound high) where
    shown : (n : ℕ) → Shown n
    shown n =
        let s = shown_of n (goes_through program plan (at_first program heap input n)) (sound.right n) (follows n).it in
        record { lines = s.0; work = s.1; paid = s.2; by = s.3 }

    pub flat_exact : (n : ℕ) → IsExact program plan heap input n
    flat_exact n =
        let s = shown n in (
          s.lines,
          λ i.
              let e = ap (λ k. by_units x k (flat_start program plan heap input) n [] 0) (sym (ahead_is s.lines i)) ∙ s.by i 0 in (
                ap (λ (s : Seen Event). s.events) e,
                ap (λ (s : Seen Event). s.phase) e,
                subst (λ (z : Seen Event). z.work ≤ 12 * ((high n).work + 1)) (sym e) (omega (arith, s.paid)),
              ),
        )

    met : (n : ℕ) → (m : ℕ) × (n ≤ m) × Same (flat_meaning program plan heap input m) (high n) ×
        ((flat_meaning program plan heap input m).work ≤ 12 * ((high n).work + 1))
    met n =
        let s = shown n in
        let m = ahead s.lines n in
        let r = is_run x m n (flat_start program plan heap input) [] 0 in
        let e : run (step x) r.lines (flat_start program plan heap input) [] 0 ≡ seen (high n).events (high n).phase (0 + s.work) = sym r.is ∙ s.by n 0 in (
          r.lines,
          far_enough m r.lines (omega (arith, ahead_is s.lines n)) r.far,
          record { events = ap (λ (s : Seen Event). s.events) e; phase = ap (λ (s : Seen Event). s.phase) e },
          subst (λ (z : Seen Event). z.work ≤ 12 * ((high n).work + 1)) (sym e) (omega (arith, s.paid)),
        )
      where
        far_enough : (m i : ℕ) → n ≤ m → (m ≤ i) ⊎ (n ≤ i) → n ≤ i
        far_enough m i le (inl far) = omega (arith, le, far)
        far_enough m i le (inr far) = far

    pub flat_agrees : Agrees (flat_meaning program plan heap input) high
    flat_agrees = agrees_by_meeting 12 _ _ (steady (step x) (flat_start program plan heap input)) sound (meets_by_steps 12 _ _ met)

    pub flat_paced : Paced 12 (flat_meaning program plan heap input) high
    flat_paced = paced_by_meeting 12 _ _ (steady (step x) (flat_start program plan heap input)) sound (meets_by_steps 12 _ _ met)
