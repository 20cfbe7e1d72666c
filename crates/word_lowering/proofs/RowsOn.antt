-- Lines of word code behind what the code of a row comes to: they run where its deed answers.
use Rattle.nim_meaning.specs.Deeds.{Done, Answers, Finishes, Fails}
use Rattle.word_code.specs.Words.{Vars, WordState, no_words, step}
use Rattle.word_code.proofs.ForCallers.{AlwaysSteps, Runs, Within, at, on}
use Rattle.std.proofs.Common.{List, append-nil, arith, subst, ℕ, ◌+◌, ◌≤◌}
use Rattle.rv32_isa.specs.Machine.{Lives}
use Rattle.word_code.specs.Memory.{Memory}
use Rattle.word_lowering.proofs.RowRuns.{RowDoes}
use Rattle.word_code.specs.declared.word.WordInstr.{WordInstr}
use Rattle.word_code.specs.declared.word.WordProc.{WordProc}
use Rattle.nim_meaning.specs.State.{World}
use Rattle.word_lowering.proofs.RoutinesCalled.{left_with}

module _ (live : Lives) (procs : List WordProc) (c : Within) (k : List WordInstr) (awaits n : ℕ) where
  -- so many at most, from where the row's code goes on
  pub record RunsOn (last : List WordInstr) (awaits_then : ℕ) (Behind : Memory → Vars → Type 0) (input : List ℕ) (m : Memory) (v : Vars) : Type 0 where
    pub memory : Memory
    pub vars : Vars
    pub behind : Behind memory vars
    pub steps : ℕ
    pub few : steps ≤ n
    pub runs : Runs live procs steps (at (left_with c input awaits) m k v no_words) (at (left_with c input awaits_then) memory last vars no_words)

  pub row_on : {A : Type 0} (spare : ℕ) (last : List WordInstr) (awaits_then : ℕ) (Behind Other : A → World → Memory → Vars → Type 0)
      → ((a : A) (w : World) (m : Memory) (v : Vars) → Behind a w m v → RunsOn last awaits_then (λ other vars. Other a w other vars) w.input m v)
      → (s : WordState) (done : Done A) → RowDoes live procs c k awaits (spare + n) Behind s done → RowDoes live procs c last awaits_then spare Other s done
  row_on spare last awaits_then Behind Other more s (Answers es i a w) r =
      let b = more a w r.memory r.vars r.behind in
      let few = r.few in
      let most = b.few in
      record {
        memory = b.memory;
        vars = b.vars;
        behind = b.behind;
        lines = r.lines + b.steps;
        few = omega (arith, few, most);
        steps = subst (λ fs. AlwaysSteps (step live procs) (r.lines + b.steps) s fs (r.lines + b.steps)
            (at (left_with c w.input awaits_then) b.memory last b.vars no_words)) (append-nil es) (on (step live procs) r.steps b.runs);
      }
  row_on spare last awaits_then Behind Other more s (Finishes es i status w) r =
      let few = r.few in record { memory = r.memory; lines = r.lines; few = omega (arith, few); stops = r.stops }
  row_on spare last awaits_then Behind Other more s (Fails es i w) r = tt
