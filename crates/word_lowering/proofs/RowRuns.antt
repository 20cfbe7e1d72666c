-- What the code of a row does, by what its deed comes to: it goes on where that answers, and ends the program where that does.
use Rattle.std.proofs.Common.{◌≡◌, ℕ, suc, ◌+◌, ◌*◌, ◌≤◌, List, [], length, Some, None, Bool, true, false, refl, sym, ap, subst, ◌∙◌, arith}
use Rattle.std.specs.Prelude.{if◌then◌else◌}
use Rattle.arc_base.specs.Event.{Event, writes}
use Rattle.arc_base.specs.declared.outside.Stream.TheVariants.{Err}
use Rattle.nim_program.specs.Traps.{OutOfMemory}
use Rattle.nim_meaning.specs.State.{World}
use Rattle.nim_meaning.specs.Deeds.{Done, Answers, Finishes, Fails, behind}
use Rattle.rv32_isa.specs.Machine.{Lives}
use Rattle.word_code.specs.declared.word.WordInstr.{WordInstr}
use Rattle.word_code.specs.declared.word.WordProc.{WordProc}
use Rattle.word_code.specs.Memory.{Memory, as_state}
use Rattle.word_code.specs.Words.{Vars, WordState, no_words, put, step}
use Rattle.word_code.specs.Routines.{Routine}
use Rattle.word_code.specs.RoutineTable.{trap_line}
use Rattle.word_code.proofs.ForCallers.{MemoryLaw, Sized, Runs, Within, at, on, stops_on, AlwaysSteps, AlwaysStops}
use Rattle.heap_memory.specs.HeapRoutines.{IsKeptThere}
use Rattle.heap_memory.specs.LineRoutine.{IsKeptOn}
use Rattle.word_lowering.specs.declared.handed.Handed.{Handed}
use Rattle.word_lowering.specs.RoutineCode.{called_code}
use Rattle.word_lowering.proofs.OrdinalRuns.{AllSame}
use Rattle.word_lowering.proofs.RoutinesCalled.{IsFirst, always, left_with, AreHanded, start, CameBack, came_back, EndedThere, ended_there}

-- lines of word code at most for each work, and for one more: that of the node
abbrev pub ROW_PACE : ℕ
ROW_PACE = 160

-- ---- what code does

-- in front of other lines, for so many of which work is spared
module _ (live : Lives) (procs : List WordProc) (c : Within) (k : List WordInstr) (awaits spare : ℕ) where
  -- it goes on with them
  pub record GoesOn (Behind : Memory → Vars → Type 0) (s : WordState) (input : List ℕ) (es : List Event) (most : ℕ) : Type 0 where
    pub memory : Memory
    pub vars : Vars
    pub behind : Behind memory vars
    pub lines : ℕ
    pub few : lines + spare ≤ most
    pub steps : AlwaysSteps (step live procs) lines s es lines (at (left_with c input awaits) memory k vars no_words)

  -- it ends the program
  pub record EndsSo (s : WordState) (es : List Event) (most status : ℕ) : Type 0 where
    pub memory : Memory
    pub lines : ℕ
    pub few : lines + spare ≤ most
    pub stops : AlwaysStops (step live procs) s es lines status (live (as_state memory))

  abbrev pub RowDoes : {A : Type 0} → (Behind : A → World → Memory → Vars → Type 0) → WordState → Done A → Type 0
  RowDoes Behind s (Answers es n a w) = GoesOn (Behind a w) s w.input es (ROW_PACE * suc n)
  RowDoes Behind s (Finishes es n status w) = EndsSo s es (ROW_PACE * suc n) status
  RowDoes Behind s (Fails es n w) = Unit {0}

-- ---- lines in front

module _ (live : Lives) (procs : List WordProc) (c : Within) (k : List WordInstr) (awaits : ℕ) where
  -- silent ones, of whose work is spared
  pub in_front : {A : Type 0} (spare n : ℕ) (Behind : A → World → Memory → Vars → Type 0) (s t : WordState) → Runs live procs n s t → (done : Done A)
      → RowDoes live procs c k awaits (spare + n) Behind t done → RowDoes live procs c k awaits spare Behind s done
  in_front spare n Behind s t runs (Answers es m a w) x =
      let f = x.few in
      record {
        memory = x.memory;
        vars = x.vars;
        behind = x.behind;
        lines = n + x.lines;
        few = omega (arith, f);
        steps = on (step live procs) runs x.steps;
      }
  in_front spare n Behind s t runs (Finishes es m status w) x =
      let f = x.few in
      record {
        memory = x.memory;
        lines = n + x.lines;
        few = omega (arith, f);
        stops = stops_on (step live procs) n n x.lines status s t [] es (live (as_state x.memory)) runs x.stops;
      }
  in_front spare n Behind s t runs (Fails es m w) x = tt

  -- what is true behind it in other words, and more work
  pub row_as : {A : Type 0} (spare : ℕ) (Behind Other : A → World → Memory → Vars → Type 0) (s : WordState) (done : Done A)
      → ((a : A) (w : World) (m : Memory) (v : Vars) → Behind a w m v → Other a w m v) → RowDoes live procs c k awaits spare Behind s done
      → RowDoes live procs c k awaits spare Other s done
  row_as spare Behind Other s (Answers es m a w) other x =
      record { memory = x.memory; vars = x.vars; behind = other a w x.memory x.vars x.behind; lines = x.lines; few = x.few; steps = x.steps }
  row_as spare Behind Other s (Finishes es m status w) other x = x
  row_as spare Behind Other s (Fails es m w) other x = tt

  pub row_works : {A : Type 0} (spare n : ℕ) (Behind : A → World → Memory → Vars → Type 0) (s : WordState) (done : Done A)
      → RowDoes live procs c k awaits spare Behind s done → RowDoes live procs c k awaits (spare + n) Behind s (behind [] n done)
  row_works spare n Behind s (Answers es m a w) x =
      let f = x.few in
      record { memory = x.memory; vars = x.vars; behind = x.behind; lines = x.lines; few = omega (arith, f); steps = x.steps }
  row_works spare n Behind s (Finishes es m status w) x =
      let f = x.few in record { memory = x.memory; lines = x.lines; few = omega (arith, f); stops = x.stops }
  row_works spare n Behind s (Fails es m w) x = tt

-- ---- deeds that write nothing, and end the run for want of heap alone

-- Where there is room it answers, and else it ends with the line of the trap. It works so much at least, and leaves the input as it is.
abbrev pub Came : {A : Type 0} → (least : ℕ) → (room : Bool) → (input : List ℕ) → Done A → Type 0
Came least room input (Answers es n a w) = (es ≡ []) × (least ≤ n) × (room ≡ true) × (w.input ≡ input)
Came least room input (Finishes es n status w) = (es ≡ writes Err (trap_line OutOfMemory)) × (least ≤ n) × (room ≡ false) × (status ≡ 1)
Came least room input (Fails es n w) = Unit {0}

-- ---- routines that may want heap

module _ (law : MemoryLaw) (live : Lives) (procs : List WordProc) (c : Within) (from_first : IsFirst c) (m : Memory) (sized : Sized m) (r : Routine)
    (kept : IsKeptOn live procs c.input r) (u : r.Use) (may : r.may u m) (k : List WordInstr) (to : ℕ) (v g : Vars) (hs : List Handed) (some : 1 ≤ length hs)
    (are : AreHanded law live procs c from_first m v hs (r.takes u)) where
  pub record MayWant (room : Bool) (left : List ℕ) : Type 0 where
    pub shows : r.shows u ≡ (if room then [] else writes Err (trap_line OutOfMemory))
    pub ends : r.ends u ≡ (if room then None else Some 1)
    pub reads : r.reads u c.input ≡ left

  -- what is true behind it, by what it leaves and gives where there was room
  abbrev pub Leads : {A : Type 0} → (Behind : A → World → Memory → Vars → Type 0) → (room : Bool) → Done A → Type 0
  Leads {A} Behind room done = (es : List Event) (n : ℕ) (a : A) (after : World) → done ≡ Answers es n a after → room ≡ true →
      (other : Memory) (word : ℕ) (vars : Vars)
      → AllSame v vars → r.leaves u m other → r.gives u other word → Behind a after other (put vars to word)

  abbrev begins : WordState
  begins = start law live procs c from_first m sized r kept u may k to v g hs some are

  pub done_behind : {A : Type 0} (spare : ℕ) (left : List ℕ) (Behind : A → World → Memory → Vars → Type 0) (room : Bool) → MayWant room left → (least : ℕ)
      → 2 * length hs + r.lines u + spare ≤ ROW_PACE * suc least → (done : Done A) → Came least room left done → Leads Behind room done
      → RowDoes live procs c k to spare Behind begins done
  done_behind spare left Behind room want least few (Answers es n a after) came leads =
      let x : CameBack law live procs c from_first m sized r kept u may k to v g hs some are
      = came_back law live procs c from_first m sized r kept u may k to v g hs some are (want.ends ∙ ap (λ b. if b then None else Some 1) came.2) in
      let f = x.few in
      let l = came.1 in
      let silent : r.shows u ≡ es
      = want.shows ∙ ap (λ b. if b then [] else writes Err (trap_line OutOfMemory)) came.2 ∙ sym came.0 in
      let input : r.reads u c.input ≡ after.input = want.reads ∙ sym came.3 in
      record {
        memory = x.memory;
        vars = put x.vars to x.word;
        behind = leads es n a after refl came.2 x.memory x.word x.vars x.same x.leaves x.gives;
        lines = x.lines;
        few = omega (arith, f, few, l);
        steps = subst (λ fs. AlwaysSteps (step live procs) x.lines begins fs x.lines
            (at (left_with c after.input to) x.memory k (put x.vars to x.word) no_words)) silent
            (subst (λ i. AlwaysSteps (step live procs) x.lines begins (r.shows u) x.lines (at (left_with c i to) x.memory k (put x.vars to x.word) no_words))
            input x.steps);
      }
  done_behind spare left Behind room want least few (Finishes es n status w) came leads =
      let x : EndedThere law live procs c from_first m sized r kept u may k to v g hs some are status
      = ended_there law live procs c from_first m sized r kept u may k to v g hs some are status
      (want.ends ∙ ap (λ b. if b then None else Some 1) came.2 ∙ ap Some (sym came.3)) in
      let l = came.1 in
      let shown : r.shows u ≡ es
      = want.shows ∙ ap (λ b. if b then [] else writes Err (trap_line OutOfMemory)) came.2 ∙ sym came.0 in
      record {
        memory = x.memory;
        lines = 2 * length hs + r.lines u;
        few = omega (arith, few, l);
        stops = subst (λ fs. AlwaysStops (step live procs) begins fs (2 * length hs + r.lines u) status (live (as_state x.memory))) shown x.stops;
      }
  done_behind spare left Behind room want least few (Fails es n w) came leads = tt

-- one that reads nothing, whichever input is left
module _ (law : MemoryLaw) (live : Lives) (procs : List WordProc) (c : Within) (from_first : IsFirst c) (m : Memory) (sized : Sized m) (r : Routine)
    (kept : IsKeptThere live procs r) (u : r.Use) (may : r.may u m) (k : List WordInstr) (to : ℕ) (v g : Vars) (hs : List Handed) (some : 1 ≤ length hs)
    (are : AreHanded law live procs c from_first m v hs (r.takes u)) where
  abbrev kept_now : IsKeptOn live procs c.input r
  kept_now = always live procs c.input r kept

  pub row_done : {A : Type 0} (spare : ℕ) (Behind : A → World → Memory → Vars → Type 0) (room : Bool)
      → MayWant law live procs c from_first m sized r kept_now u may k to v g hs some are room c.input → (least : ℕ)
      → 2 * length hs + r.lines u + spare ≤ ROW_PACE * suc least → (done : Done A) → Came least room c.input done
      → Leads law live procs c from_first m sized r kept_now u may k to v g hs some are Behind room done
      → RowDoes live procs c k to spare Behind (at c m (called_code to r.number hs k) v g) done
  row_done spare Behind room want least few done came leads =
      done_behind law live procs c from_first m sized r kept_now u may k to v g hs some are spare c.input Behind room want least few done came leads
