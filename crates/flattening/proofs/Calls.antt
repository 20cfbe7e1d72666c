-- Flat code follows calls: by induction on how many more may be active.
use Rattle.std.proofs.Common.{◌≡◌, ℕ, zero, suc, ◌+◌, true, false, List, [], ◌∷◌, ◌++◌, map, length, Option, Some, None, refl, sym, ap, ◌∙◌, subst, arith}
use Rattle.std.proofs.Common.{append-nil}
use Rattle.std.specs.Prelude.{slice_get, option_map}
use Rattle.std.proofs.lemmas.Bool.{false≢true}
use Rattle.std.proofs.lemmas.Option.{slice_get-map}
use Rattle.arc_base.specs.Event.{Event, writes}
use Rattle.arc_base.specs.declared.outside.Stream.TheVariants.{Err}
use Rattle.arc_base.specs.Stepping.{Goes}
use Rattle.arc_base.specs.BigStep.{Got, then_do}
use Rattle.nim_plan.specs.declared.plan.Plan.{Plan}
use Rattle.nim_program.specs.Traps.{CallDepth, trap_text}
use Rattle.nim_program.specs.Program.{Declared, Param, Body, Program, last_of}
use Rattle.nim_program.specs.Program as trees
use Rattle.nim_program.specs.Sizes.{body_sum, if_place_bytes}
use Rattle.nim_meaning.specs.Values.{Value, nothing, bytes, is_full, Slot}
use Rattle.nim_meaning.specs.State.{World, State, Frame, live, load, slot_at, with_frame, down_to}
use Rattle.nim_meaning.specs.Ways.{Point}
use Rattle.nim_meaning.specs.Here.{Here}
use Rattle.nim_meaning.specs.Places.{place_at}
use Rattle.nim_meaning.specs.Acts.{Broke, Continued, Returned, Raised, Outcome, On, Out, Does}
use Rattle.nim_meaning.specs.Acts.{worked, said, left_with, with_trail, exit_of, line_of}
use Rattle.nim_meaning.specs.Acts.{spending, elsewhere, branch, change, costs, looks}
use Rattle.nim_meaning.specs.Acts as acting
use Rattle.nim_meaning.specs.Meaning.{calls, called, entered, from_level, frame_of}
use Rattle.nim_meaning.specs.Meaning.{handed, handing, result_of, result_bytes, seen_call, exec_all}
use Rattle.flat_code.specs.declared.line.Line.{Line}
use Rattle.flat_code.specs.declared.line.Line.TheVariants as L
use Rattle.flat_code.specs.Scene.{Temps, no_temps, with_value, Calls, Returns}
use Rattle.flat_code.specs.Scene as scenes
use Rattle.flat_code.specs.Lines.{is_there}
use Rattle.flat_code.specs.Running.{Proc, Waiting, callable, before_last, begin_work, beginning}
use Rattle.flat_code.specs.Running as running
use Rattle.flattening.specs.StmtLines.{number_of, body_lines}
use Rattle.flattening.specs.Flattened.{modes_of, code_of_body, code_of_proc}
use Rattle.flattening.specs.Formed.{Scope, AtFirst, ParamsFormed, IsFormed, named_in, params_of, taken_by}
use Rattle.flattening.proofs.Runs.{Fixed, M, procs, step, spends_at, Runs, Walks, line, line_spending, line_ends_spending, behind, follows_on, spends}
use Rattle.flattening.proofs.Runs.{unless_wrong}
use Rattle.flattening.proofs.Worlds.{Since, since_none, since_then, since_call}
use Rattle.flattening.proofs.Temps.{kept_none, kept_value, put_same}
use Rattle.flattening.proofs.Puts.{is_empty}
use Rattle.flattening.proofs.Spots.{Spot, here_of, there, does_at, Lands, after_both, answers, spent, stepped, do_assoc}
use Rattle.flattening.proofs.Standing.{Stands, stands_since}
use Rattle.flattening.proofs.Endings.{AreListedParams, AreOpenParams, param_ends_follow}
use Rattle.flattening.proofs.Acting.{CallsFollow}
use Rattle.flattening.proofs.Results.{result_small}
use Rattle.flattening.proofs.Frames.{stands_called}
use Rattle.flattening.proofs.Bodies.{spot_of, result_among, ReturnsAt, Back, room_of, some_lines, body_follows}
use Rattle.flattening.proofs.WaitSums.{body_waits}

-- ---- procedures by number

before_behind : {A : Type 0} (xs : List A) (y : A) → before_last (xs ++ y ∷ []) ≡ xs
before_behind [] y = refl
before_behind (x ∷ []) y = refl
before_behind (x ∷ z ∷ xs) y = ap (λ l. x ∷ l) (before_behind (z ∷ xs) y)

abbrev pub code_at : Program → Plan → trees.Proc → Proc Line
code_at program plan proc = code_of_proc program plan proc.hook proc.params proc.body

callable_is : (x : Fixed) (n : ℕ) → slice_get (callable (procs x)) n ≡ option_map (code_at x.program x.plan) (slice_get x.program.procs n)
callable_is x n =
    ap (λ l. slice_get l n) (before_behind (map (code_at x.program x.plan) x.program.procs) (code_of_body x.program x.plan None [] x.program.start))
    ∙ slice_get-map (code_at x.program x.plan) x.program.procs n

params_listed : (c : Spot) (Open : Scope) (params : List Param) → ParamsFormed c.fixed.program.types Open params → AreListedParams c params
params_listed c Open [] f = tt
params_listed c Open (param ∷ params) f = (f.0.1, params_listed c Open params f.1)

params_open : (c : Spot) (room : ℕ → Type 0) (Open : Scope) (params : List Param) → ParamsFormed c.fixed.program.types Open params → (world : World) →
    Stands c room Open world → AreOpenParams c params world
params_open c room Open [] f world h = tt
params_open c room Open (param ∷ params) f world h = (h.open_is false param.place.number f.0.0, params_open c room Open params f.1 world h)

-- ---- what comes of a line that calls

-- lines that aren't there give nothing
entered_some : (x : Fixed) (m : M) (rest : List Line) (to : ℕ) (slots : List Slot) (work left : ℕ) (p : Proc Line) (lines : List Line) → is_empty lines
    ≡ false →
    running.entered m rest to slots work left p lines ≡ Goes (seen_call p.hook) (work + begin_work p) (record {
      now = beginning p (suc m.now.level) left;
      waiting = record { active = record (m.now) { rest = rest }; to = to } ∷ m.waiting;
      world = with_frame m.world (running.frame_of p slots);
    })
entered_some x m rest to slots work left p [] e = absurd (false≢true (sym e))
entered_some x m rest to slots work left p (l ∷ lines) e = refl

-- ---- a call returns

-- what the place of the result holds is handed over
hands_is : (c : Spot) (temps : Temps) (world : World) (result : Option Declared) →
    ((place : Declared) → result ≡ Some place → is_there (slot_at world c.level place.number) ≡ true) →
    is_full (result_of result c.level world) ≡ true →
    does_at c temps world (L.Return (number_of result)) ≡ Returns (result_of result c.level world)
    (suc (result_bytes result (result_of result c.level world)))
hands_is c temps world None opened full = refl
hands_is c temps world (Some place) opened full =
    let v = load world (place_at c.level place.number) in
    let back = Returns v (suc (bytes v)) in
    ap (λ b. branch b (branch (is_full v) back scenes.Fails) scenes.Fails) (opened place refl) ∙ ap (λ b. branch b back scenes.Fails) full

-- the caller of a call, which waits for its value
abbrev caller : Spot → List Line → Temps → (to : ℕ) → Waiting Line
caller c k temps to = record { active = record { whole = c.whole; rest = k; level = c.level; left = c.left; temps = temps }; to = to }

module _ (c : Spot) (params : List Param) (body : Body) (left : ℕ) (k : List Line) (temps : Temps) (to : ℕ) (old : World) (slots : List Slot)
    (framed : length old.frames ≡ suc c.level) where
  abbrev callee : Spot
  callee = spot_of c.fixed params body (suc c.level) left (caller c k temps to ∷ c.waiting)

  abbrev frame : Frame
  frame = frame_of c.fixed.program.facts body slots

  abbrev there_here : Here
  there_here = here_of callee

  abbrev LandsBack : Outcome Value → State → M → Type 0
  LandsBack = Lands c k to (suc to) temps old (λ v now. now.values to ≡ Some v)

  -- the line that returns
  returned : (b : State) (more : List Line) (now : Temps) → Since (suc c.level) (with_frame old frame) b.world →
      ((place : Declared) → body.result ≡ Some place → is_there (slot_at b.world (suc c.level) place.number) ≡ true) →
      is_full (result_of body.result (suc c.level) b.world) ≡ true → (trail : List Point) →
      let v = result_of body.result (suc c.level) b.world in
      let d : State = with_trail trail (worked (result_bytes body.result v) (record b { world = down_to (suc c.level) b.world })) in
      Runs c.fixed LandsBack 1 0 (there callee (L.Return (number_of body.result) ∷ more) now b.world) b.meter (Got (On v) d)
  returned b more now since opened full trail =
      let v = result_of body.result (suc c.level) b.world in
      let n = result_bytes body.result v in
      let d : State = with_trail trail (worked n (record b { world = down_to (suc c.level) b.world })) in
      let l = L.Return (number_of body.result) in
      let is = hands_is callee now b.world body.result opened full in
      let w : Walks c.fixed 1 0 (there callee (l ∷ more) now b.world) b.meter (there c k (with_value to temps v) (down_to (suc c.level) b.world)) d.meter =
      line [] (suc n) (spent callee l more now b.world _ is) (stepped callee l more now b.world _ is) (append-nil b.meter.out) refl (omega arith) in
      behind (omega arith) w
      (answers {P = λ v now. now.values to ≡ Some v} {p = 0} {q = 0} v d (with_value to temps v) (omega arith) (put_same temps.values to v)
      (kept_value to v (omega arith) (omega arith) (kept_none to (suc to) temps)) (since_call c.level old b.world frame framed since))

  -- what is handed to the caller, behind the ends of the parameters
  abbrev goes_back : Outcome (Unit {0}) → World → Does Value
  goes_back flow world = acting.◌>>◌ (change (down_to (suc c.level)))
      (costs (result_bytes body.result (result_of body.result (suc c.level) world)) (handing flow (result_of body.result (suc c.level) world)))

  abbrev hands_on : Outcome (Unit {0}) → Does Value
  hands_on flow = looks (λ world. branch (is_full (result_of body.result (suc c.level) world)) (goes_back flow world) acting.wrong)

  hands_back : (flow : Outcome (Unit {0})) (b : State) (m : M) → Back callee params (with_frame old frame) flow b m → AreListedParams callee params →
      ((new : World) → Since (suc c.level) (with_frame old frame) new → AreOpenParams callee params new) →
      ((new : World) → Since (suc c.level) (with_frame old frame) new → (place : Declared) → body.result ≡ Some place →
      is_there (slot_at new (suc c.level) place.number) ≡ true) → (last : ℕ) (trail : List Point) →
      Runs c.fixed LandsBack 1 0 m b.meter (then_do (handed params last there_here flow b) (λ flow d. Got flow (with_trail trail d)))
  hands_back flow b m g listed params_are opened last trail = on flow g
    where
      behind_it : (flow : Outcome (Unit {0})) → ReturnsAt callee params (with_frame old frame) b.world m →
          ((d : State) (now : Temps) (more : List Line) → Since (suc c.level) (with_frame old frame) d.world →
          is_full (result_of body.result (suc c.level) d.world) ≡ true →
          Runs c.fixed LandsBack 1 0 (there callee (L.Return (number_of body.result) ∷ more) now d.world) d.meter
          (then_do (goes_back flow d.world d) (λ flow d. Got flow (with_trail trail d)))) →
          Runs c.fixed LandsBack 1 0 m b.meter (then_do (handed params last there_here flow b) (λ flow d. Got flow (with_trail trail d)))
      behind_it flow g more =
          subst (λ m. Runs c.fixed LandsBack 1 0 m b.meter (then_do (handed params last there_here flow b) (λ flow d. Got flow (with_trail trail d))))
          (sym g.is)
          (after_both {c = callee} (λ u. hands_on flow) (λ flow d. Got flow (with_trail trail d)) 1 (omega arith) (omega arith)
          (param_ends_follow callee params listed (exit_of last flow) (L.Return (number_of body.result) ∷ g.k) g.now b
          (params_are b.world g.since))
          (λ u d now same kept since. unless_wrong (is_full (result_of body.result (suc c.level) d.world))
          (λ b. then_do (branch b (goes_back flow d.world) acting.wrong d) (λ flow d. Got flow (with_trail trail d))) d refl
          (more d now g.k (since_then g.since since))))

      on : (flow : Outcome (Unit {0})) → Back callee params (with_frame old frame) flow b m →
          Runs c.fixed LandsBack 1 0 m b.meter (then_do (handed params last there_here flow b) (λ flow d. Got flow (with_trail trail d)))
      on (On done) g = behind_it (On done) g (λ d now more since full. returned d more now since (opened d.world since) full trail)
      on (Out (Broke by)) g = behind_it (Out (Broke by)) g (λ d now more since full. returned d more now since (opened d.world since) full trail)
      on (Out (Continued by)) g = behind_it (Out (Continued by)) g (λ d now more since full. returned d more now since (opened d.world since) full trail)
      on (Out (Returned by)) g = behind_it (Out (Returned by)) g (λ d now more since full. returned d more now since (opened d.world since) full trail)
      on (Out (Raised exception by)) g = absurd g

-- ---- calls

module _ (x : Fixed) (formed : IsFormed x.program) where
  abbrev spot : List Line → (level left : ℕ) → List (Waiting Line) → Option Declared → Spot
  spot whole level left waiting result = record { fixed = x; whole = whole; level = level; left = left; waiting = waiting; result = result }

  abbrev Follow : (level left : ℕ) → Type 0
  Follow level left =
      (whole : List Line) (waiting : List (Waiting Line)) (result : Option Declared) → CallsFollow (spot whole level left waiting result)
      (named_in formed.names)

  too_many : (level : ℕ) → Follow level zero
  too_many level whole waiting result = record {
    follow = λ l k to proc work slots temps s is many framed named.
        let c = spot whole level zero waiting result in
        let text = line_of (trap_text CallDepth) in
        spends s (spent c l k temps s.world _ is)
        (λ n e. record {
          it =
              line_ends_spending (writes Err text) (work + length text) 1 (live s.world) (spent c l k temps s.world _ is)
              (stepped c l k temps s.world _ is) refl e
              (omega arith);
        });
  }

  module _ (level left : ℕ) (whole : List Line) (waiting : List (Waiting Line)) (result : Option Declared) (deeper : Follow (suc level) left) (l : Line)
      (k : List Line) (to proc work : ℕ) (slots : List Slot) (temps : Temps) (s : State) where
    abbrev c : Spot
    c = spot whole level (suc left) waiting result

    abbrev m : M
    m = there c (l ∷ k) temps s.world

    abbrev globals : List Declared
    globals = x.program.globals

    abbrev at_body : Body → Here
    at_body = from_level x.program x.plan (suc level) (calls x.program x.plan left (suc (suc level)))

    abbrev LandsHere : Outcome Value → State → M → Type 0
    LandsHere = Lands c k to (suc to) temps s.world (λ v now. now.values to ≡ Some v)

    module _ (is : does_at c temps s.world l ≡ Calls to proc slots work) (many : length slots ≡ taken_by x.program.procs proc)
        (framed : length s.world.frames ≡ suc level) (named : (place : ℕ) → named_in formed.names proc place → is_there (slot_at s.world 0 place)
        ≡ true) where
      spent_here : spends_at x m ≡ true
      spent_here = spent c l k temps s.world _ is

      -- what gives nothing at once
      gives_nothing : (es : List Event) (n : ℕ) → s.meter.units ≡ suc n → step x m ≡ running.gives_nothing m k to work es →
          Runs x LandsHere (suc work) 0 m s.meter (Got (On nothing) (with_trail s.trail (said es (with_trail [] (left_with n s)))))
      gives_nothing es n e goes =
          let d : State = with_trail s.trail (said es (with_trail [] (left_with n s))) in
          let w : Walks x work 0 m s.meter (there c k (with_value to temps nothing) s.world) d.meter =
          line_spending es work spent_here goes refl e (omega arith) in
          behind (omega arith) w
          (answers {c = c} {P = λ v now. now.values to ≡ Some v} {p = 0} {q = 0} nothing d (with_value to temps nothing) (omega arith)
          (put_same temps.values to nothing)
          (kept_value to nothing (omega arith) (omega arith) (kept_none to (suc to) temps)) (since_none level s.world))

      unknown : step x m ≡ running.gives_nothing m k to work [] →
          Runs x LandsHere (suc work) 0 m s.meter (spending (elsewhere (called globals None slots at_body)) s)
      unknown goes = spends s spent_here (λ n e.
          subst (λ out. Runs x LandsHere (suc work) 0 m s.meter
          (Got (On nothing) (with_trail s.trail (with_trail [] (record s { meter = record s.meter { units = n; out = out } })))))
          (append-nil s.meter.out) (gives_nothing [] n e goes))

      bodiless : (p : trees.Proc) → step x m ≡ running.gives_nothing m k to work (seen_call p.hook) →
          Runs x LandsHere (suc work) 0 m s.meter (spending (elsewhere
          (acting.◌>>◌ (acting.say (seen_call p.hook)) (entered globals p.params None slots at_body))) s)
      bodiless p goes = spends s spent_here (λ n e. gives_nothing (seen_call p.hook) n e goes)

      -- a body is entered, and comes back
      module _ (p : trees.Proc) (body : Body) (known : slice_get x.program.procs proc ≡ Some p) (has : p.body ≡ Some body)
          (goes : step x m
          ≡ running.entered m k to slots work left (code_of_body x.program x.plan p.hook p.params body)
          (code_of_body x.program x.plan p.hook p.params body).lines) where
        abbrev inside : Spot
        inside = callee c p.params body left k temps to s.world slots framed

        abbrev entry : Frame
        entry = frame_of x.program.facts body slots

        abbrev began : ℕ
        began = begin_work (code_of_body x.program x.plan p.hook p.params body)

        enters : step x m ≡ Goes (seen_call p.hook) (work + began)
            (there inside inside.whole no_temps (with_frame s.world entry))
        enters =
            goes
            ∙ entered_some x m k to slots work left (code_of_body x.program x.plan p.hook p.params body)
            (body_lines x.program.types x.program.facts (modes_of x.program x.plan) p.params body)
            (some_lines x p.params body (suc level) left (caller c k temps to ∷ waiting))

        stands : Stands inside (room_of body) (AtFirst (length p.params) (named_in formed.names proc) body) (with_frame s.world entry)
        stands =
            stands_called inside x.program.facts body slots (length p.params) (named_in formed.names proc) s.world
            (many ∙ ap (λ o. length (params_of o)) known) framed
            (λ place is. (named place is, omega (arith, framed)))
            (result_among x.program.types (AtFirst (length p.params) (named_in formed.names proc) body) body.result (formed.procs proc p body known has).0)

        comes : (n : ℕ) → s.meter.units ≡ suc n →
            Runs x LandsHere (suc work) 0 m s.meter
            (elsewhere (acting.◌>>◌ (acting.say (seen_call p.hook)) (entered globals p.params (Some body) slots at_body)) (left_with n s))
        comes n e =
            let cost = body_sum x.program.facts globals p.params body + if_place_bytes x.program.facts body.result in
            let small = result_small x.program.facts body.result in
            let waits = body_waits x.program.types x.program.facts (modes_of x.program x.plan) x.plan.sinks globals p.params body in
            let d : State = record (worked cost (said (seen_call p.hook) (with_trail [] (left_with n s)))) { world = with_frame s.world entry } in
            let w : Walks x work 0 m s.meter (there inside inside.whole no_temps d.world) d.meter =
            line_spending (seen_call p.hook) (work + began) spent_here enters refl e (omega (arith, small, waits)) in
            let go = handed p.params (last_of body.stmts) (at_body body) in
            let f = formed.procs proc p body known has in
            let opened : Scope = AtFirst (length p.params) (named_in formed.names proc) body in
            behind (omega arith) w
            (subst (λ r. Runs x LandsHere 1 0 (there inside inside.whole no_temps d.world) d.meter r)
            (sym (do_assoc (exec_all body.stmts (at_body body) d) go (λ flow d. Got flow (with_trail s.trail d))))
            (follows_on 1 (λ flow s'. then_do (go flow s') (λ flow d. Got flow (with_trail s.trail d))) (omega arith) (omega arith)
            (body_follows x p.params body (suc level) left (caller c k temps to ∷ waiting) false (named_in formed.names) (length p.params)
            (named_in formed.names proc) (deeper inside.whole (caller c k temps to ∷ waiting) body.result) (λ e. absurd (false≢true e)) f d stands)
            (λ flow b m1 falls g.
            hands_back c p.params body left k temps to s.world slots framed flow b m1 g (params_listed inside opened p.params f.1)
            (λ new since. params_open inside (room_of body) opened p.params f.1 new (stands_since stands since))
            (λ new since. (stands_since stands since).result_is)
            (last_of body.stmts) s.trail)))

        coded : Runs x LandsHere (suc work) 0 m s.meter
            (spending (elsewhere (acting.◌>>◌ (acting.say (seen_call p.hook)) (entered globals p.params (Some body) slots at_body))) s)
        coded = spends s spent_here (λ n e. comes n e)

      entered_by : (p : trees.Proc) (body : Option Body) → slice_get x.program.procs proc ≡ Some p → p.body ≡ body →
          step x m ≡ running.entered m k to slots work left (code_of_proc x.program x.plan p.hook p.params body)
          (code_of_proc x.program x.plan p.hook p.params body).lines →
          Runs x LandsHere (suc work) 0 m s.meter (spending (elsewhere
          (acting.◌>>◌ (acting.say (seen_call p.hook)) (entered globals p.params body slots at_body))) s)
      entered_by p None known has goes = bodiless p goes
      entered_by p (Some body) known has goes = coded p body known has goes

      called_by : (o : Option trees.Proc) → slice_get x.program.procs proc ≡ o →
          step x m ≡ running.found m k to slots work left (option_map (code_at x.program x.plan) o) →
          Runs x LandsHere (suc work) 0 m s.meter (spending (elsewhere (called globals o slots at_body)) s)
      called_by None known goes = unknown goes
      called_by (Some p) known goes = entered_by p p.body known refl goes

      a_call : Runs x LandsHere (suc work) 0 m s.meter ((here_of c).calls proc slots s)
      a_call =
          called_by (slice_get x.program.procs proc) refl
          (stepped c l k temps s.world _ is ∙ ap (λ o. running.found m k to slots work left o) (callable_is x proc))

  pub calls_follow : (left level : ℕ) → Follow level left
  calls_follow zero level = too_many level
  calls_follow (suc left) level = λ whole waiting result. record {
    follow = λ l k to proc work slots temps s is many framed named.
        a_call level left whole waiting result (calls_follow left (suc level)) l k to proc work slots temps s is many framed named;
  }
