-- A hook is called by a line: where the meaning's walk comes back the line goes on, up to where all is good again, and where it ends the program both do.
use Rattle.std.proofs.Common.{◌≡◌, inl, inr, ℕ, ◌+◌, ◌*◌, ◌≤◌, List, [], ◌∷◌, ◌++◌}
use Rattle.std.proofs.Common.{refl, sym, ap₂, subst, ◌∙◌, arith, append-nil}
use Rattle.arc_base.specs.Behaviour.{Live, Ended, no_objects}
use Rattle.arc_base.specs.Simulation.{Steps, Stops}
use Rattle.arc_base.specs.Stepping.{Next, seen}
use Rattle.arc_base.proofs.ForCallers.{steps_on}
use Rattle.nim_meaning.specs.State.{World}
use Rattle.nim_meaning.specs.Deeds.{Deed, Done, Answers, Finishes, Fails, behind, give, ◌>>=◌, perform}
use Rattle.flat_code.specs.declared.block.BlockLine.{BlockLine}
use Rattle.flat_code.specs.Scene.{Passes, Temps}
use Rattle.word_code.specs.declared.word.WordInstr.{WordInstr}
use Rattle.word_code.specs.Memory.{Memory}
use Rattle.word_code.specs.Routines.{goes_on}
use Rattle.word_code.specs.Words.{Vars, WordState}
use Rattle.word_code.proofs.ForCallers.{Runs}
use Rattle.hook_lifting.proofs.ForCallers.{done_then, performs_then}
use Rattle.hook_code.specs.Promises.{Comes, AnyWord}
use Rattle.word_lowering.specs.declared.homes.TheConstants.{FIRST}
use Rattle.word_lowering.proofs.Blocks.{Blocks, AreLater}
use Rattle.word_lowering.proofs.GoodRows.{later_ground_of}
use Rattle.word_lowering.proofs.HookHomes.{HookHomes, IsHere}
use Rattle.word_lowering.proofs.HookSurroundings.{surroundings}
use Rattle.word_lowering.proofs.Lines.{Basis, IsGood, Settles, all_procs, changed_later, low_past, machine, starts}
use Rattle.word_lowering.proofs.Related.{Both, low}

-- ---- what comes of a deed, with its answer in other words

abbrev pub answering : {A B : Type 0} → B → Done A → Done B
answering b (Answers es n a w) = Answers es n b w
answering b (Finishes es n status w) = Finishes es n status w
answering b (Fails es n w) = Fails es n w

pub answers_then : {A B : Type 0} (b : B) (done : Done A) → done_then done (λ a w. Answers [] 0 b w) ≡ answering b done
answers_then b (Answers es n a w) = let e : n + 0 ≡ n = omega arith in ap₂ (λ fs m. Answers fs m b w) (append-nil es) e
answers_then b (Finishes es n status w) = refl
answers_then b (Fails es n w) = refl

pub perform_answers : {A B : Type 0} (deed : Deed A) (b : B) (w : World) → perform (deed >>= (λ a. give b)) w ≡ answering b (perform deed w)
perform_answers deed b w = performs_then deed (λ a. give b) w ∙ answers_then b (perform deed w)

-- it ends behind some steps
stops_behind : {E S : Type 0} (machine : S → Next E S) (l p q status : ℕ) (s t : S) (es : List E) (left : Live) → Steps machine l s [] p t
    → Stops machine t es q status left → Stops machine s es (p + q) status left
stops_behind machine l p q status s t es left x y = record {
  work = x.work + y.work;
  within = (let a = x.within in let b = y.within in omega (arith, a, b));
  by =
      let v = y.by in let u = x.by v.0 in (
        u.0,
        λ out done.
            let e : done + x.work + y.work ≡ done + (x.work + y.work) = omega arith in
            u.2 out done ∙ v.1 (out ++ []) (done + x.work)
            ∙ ap₂ (λ o n. seen (o ++ es) (Ended status left) n) (append-nil out) e,
      );
}

module _ (x : Basis) (g : Both) (line : BlockLine) (rest : List BlockLine) (y : IsGood x (starts g line rest)) where
  -- from a state the line's code goes on, up to where all is good with these temporaries in this world
  pub record Lands (s : WordState) (temps : Temps) (w : World) : Type 0 where
    pub later : Blocks
    pub vars : Vars
    pub memory : Memory
    pub words : Vars
    pub awaits : ℕ
    pub good : IsGood x (changed_later g rest temps vars memory words awaits w (later_ground_of x g line rest y later) g.input)
    pub steps : ℕ
    pub runs : Runs x.live (all_procs x) steps s
        (low_past x (line ∷ rest) (changed_later g rest temps vars memory words awaits w (later_ground_of x g line rest y later) g.input))

  -- The call comes back to some code, with homes around it, in so many lines at most for what it works. Before it are some steps, and behind it at most
  -- so many that no work pays.
  module _ (z : HookHomes) (bottom top : ℕ) (d : Blocks) (called : WordState) (k : List WordInstr) (most : (work : ℕ) → ℕ) (steps : ℕ)
      (runs : Runs x.live (all_procs x) steps (low x.table x.blocks (starts g line rest)) called) (spare work : ℕ) where
    abbrev pub CameSo : (before : ℕ) → Done (Unit {0}) → Type 0
    CameSo before done =
        Comes z.table (surroundings z) x.live (all_procs x) x.fresh bottom top [] d
        (AnyWord z.table (surroundings z) x.live (all_procs x) x.fresh) (before, called) FIRST k most done

    -- what it works pays for its lines
    abbrev pub IsPaid : Done (Unit {0}) → Type 0
    IsPaid (Answers es n u w) = steps + most n + spare ≤ 256 * (work + n)
    IsPaid (Finishes es n status w) = steps + most n ≤ 256 * (work + n)
    IsPaid (Fails es n w) = Unit {0}

    -- what the line does then
    abbrev pub GoesOn : WordState → Done Temps → Type 0
    GoesOn s (Answers es n temps w) = (es ≡ []) × ((l : Lands s temps w) × (l.steps ≤ spare + 256 * n))
    GoesOn s (Finishes es n status w) = ⊥
    GoesOn s (Fails es n w) = Unit {0}

    module _ (finish : World → Done Temps)
        (then : (w : World) (word : ℕ) (m : Memory) (after : Blocks) → AreLater d after → IsHere z bottom top [] after w m
        → GoesOn (goes_on called FIRST word k m called.input) (finish w)) where
      pub returns_settles : (done : Done (Unit {0})) → IsPaid done → ((before : ℕ) → CameSo before done)
          → Settles x (starts g line rest) rest (Passes (behind [] work (done_then done (λ u w. finish w))))
      returns_settles (Answers es n u w) paid came = by (finish w) (λ word m after ahead here. then w word m after ahead here)
        where
          by : (d' : Done Temps)
              → ((word : ℕ) (m : Memory) (after : Blocks) → AreLater d after → IsHere z bottom top [] after w m
              → GoesOn (goes_on called FIRST word k m called.input) d')
              → Settles x (starts g line rest) rest (Passes (behind [] work (behind es n d')))
          by (Fails fs j v) go = λ before. tt
          by (Finishes fs j status v) go = λ before. absurd (
              let r = runs.by x.fresh before in
              let c = came r.0 in
              go c.1.word c.1.memory c.1.after c.1.ahead c.1.here
              )
          by (Answers fs j temps v) go = λ before.
              let r = runs.by x.fresh before in
              let c = came r.0 in
              let back = c.1 in
              let f = go back.word back.memory back.after back.ahead back.here in
              let l = f.1.0 in
              let landed : Both
              = changed_later g rest temps l.vars l.memory l.words l.awaits v (later_ground_of x g line rest y l.later) g.input in
              let s : WordState = goes_on called FIRST back.word k back.memory called.input in
              let q = l.runs.by x.fresh back.behind in
              let first : Steps (machine x) (steps + back.lines) (before, low x.table x.blocks (starts g line rest)) [] (steps + back.lines)
              (back.behind, s)
              = steps_on (machine x) steps back.lines steps back.lines (before, low x.table x.blocks (starts g line rest)) (r.0, called)
              (back.behind, s) [] [] r.1 back.runs in
              let all : Steps (machine x) (steps + back.lines + l.steps) (before, low x.table x.blocks (starts g line rest)) []
              (steps + back.lines + l.steps) (q.0, low_past x (line ∷ rest) landed)
              = steps_on (machine x) (steps + back.lines) l.steps (steps + back.lines) l.steps (before, low x.table x.blocks (starts g line rest))
              (back.behind, s) (q.0, low_past x (line ∷ rest) landed) [] [] first q.1 in
              let less = back.few in let enough = f.1.1 in let is_paid = paid in (
                (q.0, low_past x (line ∷ rest) landed),
                steps + back.lines + l.steps,
                subst (λ gs. Steps (machine x) (steps + back.lines + l.steps) (before, low x.table x.blocks (starts g line rest)) gs
                    (256 * (work + (n + j))) (q.0, low_past x (line ∷ rest) landed)) (sym (ap₂ (λ a b. a ++ b) c.0 f.0))
                    (record { work = all.work; within = (let h = all.within in omega (arith, h, enough, less, is_paid)); by = all.by }),
                (inl (landed, l.good, q.0), refl, refl, λ waits. refl),
                inr (omega arith),
              )
      returns_settles (Finishes es n status w) paid came = λ before.
          let r = runs.by x.fresh before in
          let c = came r.0 in
          let over = c.1 in
          let all = stops_behind (machine x) steps steps over.lines status (before, low x.table x.blocks (starts g line rest)) (r.0, called) es no_objects r.1
          over.stops in
          let less = over.few in let is_paid = paid in
          record { work = all.work; within = (let h = all.within in omega (arith, h, less, is_paid)); by = all.by }
      returns_settles (Fails es n w) paid came = λ before. tt
