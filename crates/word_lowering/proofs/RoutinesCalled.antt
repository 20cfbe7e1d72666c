-- What it does to call a routine of the heap with addresses of homes and numbers: the words are handed over, and it comes back, or ends the program.
use Rattle.std.proofs.Common.{◌≡◌, ℕ, suc, ◌+◌, ◌*◌, ◌^◌, ◌<◌, ◌≤◌, List, [], ◌∷◌, length, Option, Some, None, refl, sym, subst, ◌∙◌, arith}
use Rattle.std.proofs.lemmas.Option.{none-some, same_Some}
use Rattle.arc_base.specs.Event.{Event}
use Rattle.arc_base.specs.Behaviour.{Live}
use Rattle.rv32_isa.specs.Machine.{Lives}
use Rattle.word_code.specs.declared.word.WordInstr.{WordInstr}
use Rattle.word_code.specs.declared.word.WordInstr.TheVariants.{Argument, Call}
use Rattle.word_code.specs.declared.word.WordProc.{WordProc}
use Rattle.word_code.specs.Memory.{Memory, as_state}
use Rattle.word_code.specs.Words.{Vars, WordState, no_words, put, step}
use Rattle.word_code.specs.Routines.{Routine, AreGiven, Comes}
use Rattle.word_code.proofs.ForCallers.{MemoryLaw, Sized, Runs, then_runs, Within, at, on, stops_on, AlwaysSteps, AlwaysStops, run_constant}
use Rattle.word_code.proofs.ForCallers.{run_argument, got}
use Rattle.heap_memory.specs.HeapRoutines.{IsKeptThere}
use Rattle.heap_memory.specs.declared.numbers.TheConstants.{HEAP_DATA}
use Rattle.heap_memory.specs.LineRoutine.{IsKeptOn}
use Rattle.word_lowering.specs.declared.homes.TheConstants.{FIRST}
use Rattle.word_lowering.specs.declared.handed.Handed.{Handed}
use Rattle.word_lowering.specs.declared.handed.Handed.TheVariants.{Where, Number}
use Rattle.word_lowering.specs.RoutineCode.{handed_code, all_handed, called_code}
use Rattle.word_lowering.proofs.Moves.{IsHigh, points_same, same_first, same_more}
use Rattle.word_lowering.proofs.OrdinalRuns.{put_other, put_here as put_same, AllSame}
use Rattle.word_lowering.proofs.Scenes.{Points}
use Rattle.word_lowering.proofs.SwapRuns.{WordGiven, word_given}

-- a call behind which so much input is left, and whose result goes to a variable
abbrev pub left_with : Within → (input : List ℕ) → (to : ℕ) → Within
left_with c input to = record c { input = input; awaits = to }

-- where the data of its procedure begins
abbrev pub IsFirst : Within → Type 0
IsFirst c = c.proc.data_from ≡ HEAP_DATA

-- what is kept whichever input is left
pub always : (live : Lives) (procs : List WordProc) (input : List ℕ) (r : Routine) → IsKeptThere live procs r → IsKeptOn live procs input r
always live procs input r kept u s to rest same = kept u s to rest

-- more lines may be told than are carried out
pub more_stops : (live : Lives) (procs : List WordProc) (s : WordState) (es : List Event) (few most status : ℕ) (left : Live) → few ≤ most
    → AlwaysStops (step live procs) s es few status left → AlwaysStops (step live procs) s es most status left
more_stops live procs s es few most status left h x = λ fresh before.
    let y = x fresh before in let w = y.within in record { work = y.work; within = omega (arith, w, h); by = y.by }

module _ (law : MemoryLaw) (live : Lives) (procs : List WordProc) (c : Within) (from_first : IsFirst c) (m : Memory) where
  -- it is this word
  abbrev pub IsHanded : Vars → Handed → (word : ℕ) → Type 0
  IsHanded v (Where home) a = Points c.base v home a × IsHigh home
  IsHanded v (Number n) a = n ≡ a

  abbrev pub AreHanded : Vars → List Handed → (words : List ℕ) → Type 0
  AreHanded v [] [] = Unit {0}
  AreHanded v (h ∷ hs) (a ∷ words) = IsHanded v h a × (a < 2 ^ 32) × AreHanded v hs words
  AreHanded v hs words = ⊥

  still_handed : (v w : Vars) (g : Vars) (h : Handed) (a : ℕ) → AllSame v w → IsHanded v h a → IsHanded w h a
  still_handed v w g (Where home) a same is = (points_same law live procs c from_first g v w home a is.1 same is.0, is.1)
  still_handed v w g (Number n) a same is = is

  still_all : (v w : Vars) (g : Vars) (hs : List Handed) (words : List ℕ) → AllSame v w → AreHanded v hs words → AreHanded w hs words
  still_all v w g [] [] same are = tt
  still_all v w g (h ∷ hs) (a ∷ words) same are = (still_handed v w g h a same are.0, are.1, still_all v w g hs words same are.2)
  still_all v w g [] (a ∷ words) same are = absurd are
  still_all v w g (h ∷ hs) [] same are = absurd are

  -- what was given, with these from an index on
  abbrev pub given_from : Vars → (index : ℕ) → List ℕ → Vars
  given_from g index [] = g
  given_from g index (a ∷ words) = given_from (put g index a) (suc index) words

  given_before : (g : Vars) (index : ℕ) (words : List ℕ) (i : ℕ) → i < index → given_from g index words i ≡ g i
  given_before g index [] i less = refl
  given_before g index (a ∷ words) i less =
      given_before (put g index a) (suc index) words i (omega (arith, less)) ∙ put_other g index a i (λ e. omega (arith, e, less))

  all_given : (v g : Vars) (index : ℕ) (hs : List Handed) (words : List ℕ) → AreHanded v hs words → AreGiven (given_from g index words) index words
  all_given v g index [] [] are = tt
  all_given v g index (h ∷ hs) (a ∷ words) are = (
    given_before (put g index a) (suc index) words index (omega arith) ∙ put_same g index a are.1,
    all_given v (put g index a) (suc index) hs words are.2,
  )
  all_given v g index [] (a ∷ words) are = absurd are
  all_given v g index (h ∷ hs) [] are = absurd are

  -- ---- they are handed over

  record Given (k : List WordInstr) (v g : Vars) (index : ℕ) (h : Handed) (a : ℕ) : Type 0 where
    vars : Vars
    same : AllSame v vars
    steps : ℕ
    few : steps ≤ 2
    runs : Runs live procs steps (at c m (handed_code index h k) v g) (at c m k vars (put g index a))

  -- one of them
  handed : (k : List WordInstr) (v g : Vars) (index : ℕ) (h : Handed) (a : ℕ) → a < 2 ^ 32 → IsHanded v h a → Given k v g index h a
  handed k v g index (Where home) a small is =
      let x : WordGiven law live procs c from_first m k v g index home a = word_given law live procs c from_first m k v g index a small home is.0 in
      record { vars = x.vars; same = x.same; steps = x.steps; few = x.few; runs = x.runs }
  handed k v g index (Number n) a small is =
      let low : n < 2 ^ 32 = omega (arith, small, is) in
      record {
        vars = put v FIRST n;
        same = same_first v n;
        steps = 2;
        few = omega arith;
        runs = subst (λ b. Runs live procs 2 (at c m (handed_code index (Number n) k) v g) (at c m k (put v FIRST n) (put g index b))) is
            (then_runs live procs (run_constant live procs c m (Argument index FIRST ∷ k) v g FIRST n)
            (run_argument live procs c m k (put v FIRST n) g index FIRST (got n low)));
      }

  pub record AllHanded (k : List WordInstr) (v g : Vars) (index : ℕ) (hs : List Handed) (words : List ℕ) : Type 0 where
    pub vars : Vars
    pub same : AllSame v vars
    pub steps : ℕ
    pub few : steps ≤ 2 * length hs
    pub runs : Runs live procs steps (at c m (all_handed index hs k) v g) (at c m k vars (given_from g index words))

  pub all_over : (k : List WordInstr) (v g : Vars) (index : ℕ) (hs : List Handed) (words : List ℕ) → 1 ≤ length hs → AreHanded v hs words
      → AllHanded k v g index hs words
  all_over k v g index [] words some are = absurd (omega (arith, some))
  all_over k v g index (h ∷ []) (a ∷ []) some are =
      let x = handed k v g index h a are.1 are.0 in
      let f = x.few in
      record { vars = x.vars; same = x.same; steps = x.steps; few = omega (arith, f); runs = x.runs }
  all_over k v g index (h ∷ i ∷ hs) (a ∷ b ∷ words) some are =
      let x = handed (all_handed (suc index) (i ∷ hs) k) v g index h a are.1 are.0 in
      let y = all_over k x.vars (put g index a) (suc index) (i ∷ hs) (b ∷ words) (omega arith) (still_all v x.vars g (i ∷ hs) (b ∷ words) x.same are.2) in
      let f = x.few in
      let e = y.few in
      record {
        vars = y.vars;
        same = same_more v x.vars y.vars x.same y.same;
        steps = x.steps + y.steps;
        few = omega (arith, f, e);
        runs = then_runs live procs x.runs y.runs;
      }
  all_over k v g index (h ∷ []) (a ∷ b ∷ words) some are = absurd are.2
  all_over k v g index (h ∷ i ∷ hs) (a ∷ []) some are = absurd are.2
  all_over k v g index (h ∷ hs) [] some are = absurd are

  -- ---- a routine is called

  module _ (sized : Sized m) (r : Routine) (kept : IsKeptOn live procs c.input r) (u : r.Use) (may : r.may u m) (k : List WordInstr) (to : ℕ) (v g : Vars)
      (hs : List Handed) (some : 1 ≤ length hs) (are : AreHanded v hs (r.takes u)) where
    abbrev pub start : WordState
    start = at c m (called_code to r.number hs k) v g

    handed_over : AllHanded (Call to r.number ∷ k) v g 0 hs (r.takes u)
    handed_over = all_over (Call to r.number ∷ k) v g 0 hs (r.takes u) some are

    abbrev calling : WordState
    calling = at c m (Call to r.number ∷ k) handed_over.vars (given_from g 0 (r.takes u))

    comes : Comes live procs r u calling to k (r.ends u)
    comes = kept u calling to k refl (record { next = refl; given = all_given v g 0 hs (r.takes u) are }) sized may

    -- it comes back
    pub record CameBack : Type 0 where
      pub memory : Memory
      pub word : ℕ
      pub vars : Vars
      pub same : AllSame v vars
      pub leaves : r.leaves u m memory
      pub gives : r.gives u memory word
      pub lines : ℕ
      pub few : lines ≤ 2 * length hs + r.lines u
      pub steps : AlwaysSteps (step live procs) lines start (r.shows u) lines
          (at (left_with c (r.reads u c.input) to) memory k (put vars to word) no_words)

    pub came_back : r.ends u ≡ None → CameBack
    came_back e = by (r.ends u) e comes
      where
        by : (o : Option ℕ) → o ≡ None → Comes live procs r u calling to k o → CameBack
        by None e x =
            let h = handed_over.few in
            let f = x.few in
            record {
              memory = x.memory;
              word = x.word;
              vars = handed_over.vars;
              same = handed_over.same;
              leaves = x.leaves;
              gives = x.gives;
              lines = handed_over.steps + x.lines;
              few = omega (arith, h, f);
              steps = on (step live procs) handed_over.runs (record { by = x.steps });
            }
        by (Some status) e x = absurd (none-some status (sym e))

    -- it ends the program
    pub record EndedThere (status : ℕ) : Type 0 where
      pub memory : Memory
      pub stops : AlwaysStops (step live procs) start (r.shows u) (2 * length hs + r.lines u) status (live (as_state memory))

    pub ended_there : (status : ℕ) → r.ends u ≡ Some status → EndedThere status
    ended_there status e = by (r.ends u) e comes
      where
        by : (o : Option ℕ) → o ≡ Some status → Comes live procs r u calling to k o → EndedThere status
        by None e x = absurd (none-some status e)
        by (Some other) e x = record {
          memory = x.memory;
          stops =
              let h = handed_over.few in
              let ends : AlwaysStops (step live procs) start (r.shows u) (handed_over.steps + r.lines u) other (live (as_state x.memory))
              = stops_on (step live procs) handed_over.steps handed_over.steps (r.lines u) other start calling [] (r.shows u) (live (as_state x.memory))
              handed_over.runs x.stops in
              more_stops live procs start (r.shows u) (handed_over.steps + r.lines u) (2 * length hs + r.lines u) status (live (as_state x.memory))
              (omega (arith, h))
              (subst (λ n. AlwaysStops (step live procs) start (r.shows u) (handed_over.steps + r.lines u) n (live (as_state x.memory)))
              (same_Some other status e) ends);
        }
