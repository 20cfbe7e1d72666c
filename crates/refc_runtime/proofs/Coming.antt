-- A routine comes back, or ends the program, behind lines that show nothing.
use Rattle.std.proofs.Common.{◌≡◌, ℕ, ◌+◌, ◌≤◌, List, [], ◌∷◌, Some, None, sym, subst, arith}
use Rattle.arc_base.specs.Event.{Event}
use Rattle.rv32_isa.specs.Machine.{Lives}
use Rattle.word_code.specs.declared.word.WordInstr.{WordInstr}
use Rattle.word_code.specs.declared.word.WordInstr.TheVariants.{Call}
use Rattle.word_code.specs.declared.word.WordProc.{WordProc}
use Rattle.word_code.specs.Memory.{Memory, as_state}
use Rattle.word_code.specs.Words.{WordState, step}
use Rattle.word_code.specs.Routines.{Routine, ComesBack, EndsProgram, Comes, goes_on}
use Rattle.word_code.proofs.ForCallers.{AlwaysSteps, AlwaysStops, stops_on, Runs, at as state_at}
use Rattle.refc_runtime.proofs.Calls.{within, from_call, stops_call}

module _ (live : Lives) (procs : List WordProc) (s : WordState) (to : ℕ) (rest : List WordInstr) (r : Routine) (u : r.Use)
    (next : s.frame.left ≡ Call to r.number ∷ rest)
  where
    -- the state that calls it
    abbrev pub calling_state : WordState
    calling_state = state_at (within s) s.memory (Call to r.number ∷ rest) s.frame.vars s.frame.given

    pub comes_back : r.ends u ≡ None → r.shows u ≡ [] → (word : ℕ) (other : Memory) → r.leaves u s.memory other → r.gives u other word → (count : ℕ)
        → count ≤ r.lines u → Runs live procs count calling_state (goes_on s to word rest other (r.reads u s.input)) → Comes live procs r u s to rest (r.ends u)
    comes_back back silent word other left given count few runs =
        let x : ComesBack live procs r u s to rest = record {
          memory = other;
          word = word;
          leaves = left;
          gives = given;
          lines = count;
          few = few;
          steps = (from_call live procs s to rest r.number (r.shows u) count count (goes_on s to word rest other (r.reads u s.input)) next
              (subst (λ es. AlwaysSteps (step live procs) count calling_state es count (goes_on s to word rest other (r.reads u s.input))) (sym silent)
              runs)).by;
        } in
        subst (λ o. Comes live procs r u s to rest o) (sym back) x

    -- it stops no later
    within_more : (t : WordState) (es : List Event) (few most status : ℕ) (other : Memory) → few ≤ most
        → AlwaysStops (step live procs) t es few status (live (as_state other)) → AlwaysStops (step live procs) t es most status (live (as_state other))
    within_more t es few most status other less x = λ gifts k.
        let y = x gifts k in
        let w = y.within in
        record { work = y.work; within = omega (arith, w, less); by = y.by }

    pub ends_behind : (status : ℕ) → r.ends u ≡ Some status → (other : Memory) → r.leaves u s.memory other → (l k : ℕ) → l + k ≤ r.lines u → (t : WordState)
        → Runs live procs l calling_state t → (es : List Event) → r.shows u ≡ es → AlwaysStops (step live procs) t es k status (live (as_state other))
        → Comes live procs r u s to rest (r.ends u)
    ends_behind status end other left l k few t runs es shown stops =
        let all : AlwaysStops (step live procs) calling_state es (l + k) status (live (as_state other))
        = stops_on (step live procs) l l k status calling_state t [] es (live (as_state other)) runs stops in
        let x : EndsProgram live procs r u s status = record {
          memory = other;
          leaves = left;
          stops = stops_call live procs s to rest r.number (r.shows u) (r.lines u) status (live (as_state other)) next
              (subst (λ fs. AlwaysStops (step live procs) calling_state fs (r.lines u) status (live (as_state other))) (sym shown)
              (within_more calling_state es (l + k) (r.lines u) status other few all));
        } in
        subst (λ o. Comes live procs r u s to rest o) (sym end) x
