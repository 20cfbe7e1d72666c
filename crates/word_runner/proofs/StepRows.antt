-- What a line came to, from what was done.
use Rattle.std.proofs.Common.{◌≡◌, ℕ, List, [], drop, refl, sym, ap, subst, ◌∙◌}
use Rattle.arc_base.specs.Event.{Event}
use Rattle.arc_base.specs.Stepping.{Next, Goes, Faults}
use Rattle.word_code.specs.declared.word.WordProc.{WordProc}
use Rattle.rv32_isa.specs.Machine.{Lives}
use Rattle.word_code.specs.Words.{WordState, scene_of, settled}
use Rattle.word_runner.specs.Acts.{did}
use Rattle.word_runner.specs.declared.act.Act.{Act}
use Rattle.word_runner.specs.declared.state.Input.{Input}
use Rattle.word_runner.specs.declared.state.Run.{Run}
use Rattle.word_runner.specs.declared.state.Went.TheVariants as W
use Rattle.word_runner.specs.Steps.{Followed, Kept, Settles}
use Rattle.word_runner.specs.View.{proc_in, state_is}

-- a silent step, of what comes to one
pub silent_by : (old : WordState) (next : Next Event WordState) (s new : WordState) → next ≡ Goes [] 1 s → s ≡ new → Followed next W.Goes old new
silent_by old next s new e f = ([], (refl, refl), e ∙ ap (Goes [] 1) f)

-- the input stays
pub kept_same : (i : Input) → Kept i i
kept_same i = record { taken = refl; ended = refl; within = λ h. h }

pub kept_as : (old new : Input) → new ≡ old → Kept old new
kept_as old new e = subst (Kept old) (sym e) (kept_same old)

pub kept_then : (i j k : Input) → Kept i j → Kept j k → Kept i k
kept_then i j k a b = record { taken = b.taken ∙ a.taken; ended = b.ended ∙ a.ended; within = λ h. b.within (a.within h) }

-- no memory was found
pub refused : (procs : List WordProc) (old new : Run) (next : ℕ) (act : Act) → Kept old.input new.input → Settles procs old next act W.Memory new
refused procs old new next act k = record { follows = λ live rest ends. tt; wants = tt; kept = k }

-- what comes of an act
abbrev pub Comes : (procs : List WordProc) (old : Run) (next : ℕ) (act : Act) (to : (rest : List ℕ) → Next Event WordState) → Type 0
Comes procs old next act to =
    (live : Lives) (rest : List ℕ) → settled live procs [] (state_is procs old rest) (drop next (proc_in procs old.frame.proc).lines)
    (did (scene_of (state_is procs old rest)) act) ≡ to rest

pub quietly : (procs : List WordProc) (old new : Run) (next : ℕ) (act : Act) → Kept old.input new.input
    → Comes procs old next act (λ rest. Goes [] 1 (state_is procs new rest)) → Settles procs old next act W.Goes new
quietly procs old new next act k e = record { follows = λ live rest ends. ([], (refl, refl), e live rest); wants = tt; kept = k }

pub at_fault : (procs : List WordProc) (old new : Run) (next : ℕ) (act : Act) → Kept old.input new.input → Comes procs old next act (λ rest. Faults)
    → Settles procs old next act W.Faults new
at_fault procs old new next act k e = record { follows = λ live rest ends. e live rest; wants = tt; kept = k }
