-- What a step of a run comes to, as word code has it.
-- It serves proofs alone: the promise of `mean_words` doesn't speak of it.
use Rattle.std.specs.Prelude.{◌≡◌, ◌≤◌, ℕ, length, Bool, true, false, IsTrue, List, [], ◌∷◌, drop, Some}
use Rattle.arc_base.specs.declared.outside.Stream.TheVariants.{Out as Output, Err as Errors}
use Rattle.arc_base.specs.Behaviour.{Live}
use Rattle.arc_base.specs.Event.{Event, writes}
use Rattle.arc_base.specs.Stepping.{Next, Goes, Ends, Faults}
use Rattle.rv32_isa.specs.Machine.{Lives}
use Rattle.rv32_isa.specs.Values.{added}
use Rattle.word_code.specs.declared.word.WordInstr.{WordInstr}
use Rattle.word_code.specs.declared.word.WordProc.{WordProc}
use Rattle.word_code.specs.Memory.{bytes_at, with_places}
use Rattle.word_code.specs.Words.{WordState, no_words, params_of, returned, scene_of, settled}
use Rattle.word_runner.specs.declared.act.Act.{Act}
use Rattle.word_runner.specs.declared.state.Input.{Input}
use Rattle.word_runner.specs.declared.state.Run.{Run}
use Rattle.word_runner.specs.declared.state.Went.{Went}
use Rattle.word_runner.specs.declared.state.Went.TheVariants as W
use Rattle.word_runner.specs.Sinks.{bytes_on}
use Rattle.word_runner.specs.Acts.{did}
use Rattle.word_runner.specs.View.{proc_in, state_is}

-- ---- calls

-- the state behind the beginning of a call
abbrev pub begun : WordState → (to : ℕ) → (rest : List WordInstr) → WordProc → WordState
begun s to rest p = record {
  units = s.units;
  memory = with_places s.memory p.room [];
  input = s.input;
  frame = record { proc = p; left = p.lines; vars = params_of p s.frame.given; given = no_words; base = added s.frame.base s.frame.proc.room; awaits = 0 };
  callers = record s.frame { left = rest; given = no_words; awaits = to } ∷ s.callers;
}

abbrev pub Begun : List WordProc → (old : Run) → (to next : ℕ) → WordProc → (rest : List ℕ) → (new : Run) → Type 0
Begun procs old to next p rest new =
    state_is procs new rest ≡ begun (state_is procs old rest) to (drop next (state_is procs old rest).frame.proc.lines) p

abbrev pub Ended : List WordProc → (old : Run) → (word : ℕ) → (rest : List ℕ) → (new : Run) → Bool → Type 0
Ended procs old word rest new true =
    returned (state_is procs old rest) word (state_is procs old rest).callers ≡ Goes [] 1 (state_is procs new rest)
Ended procs old word rest new false = returned (state_is procs old rest) word (state_is procs old rest).callers ≡ Faults

-- ---- steps

-- nothing is written
abbrev pub IsQuiet : List Event → Type 0
IsQuiet es = (bytes_on Output es ≡ []) × (bytes_on Errors es ≡ [])

-- What a step of a machine is, by what it came to. Where bytes are wanted it is as it was.
abbrev pub Followed : Next Event WordState → Went → (old new : WordState) → Type 0
Followed next W.Memory old new = Unit {0}
Followed next (W.Wants n) old new = new ≡ old
Followed next W.Goes old new = (es : List Event) × IsQuiet es × (next ≡ Goes es 1 new)
Followed next (W.Says at len) old new = (bytes : List ℕ) × (bytes_at new.memory at len ≡ Some bytes) × (next ≡ Goes (writes Output bytes) 1 new)
Followed next (W.Warns at len) old new = (bytes : List ℕ) × (bytes_at new.memory at len ≡ Some bytes) × (next ≡ Goes (writes Errors bytes) 1 new)
Followed next (W.Ends status) old new = (live : Live) × (next ≡ Ends [] 1 status live)
Followed next W.Waits old new = next ≡ Goes [] 0 old
Followed next W.Faults old new = next ≡ Faults

-- more is wanted only where the input hasn't ended
abbrev pub Wants : Went → (ended : Bool) → Type 0
Wants (W.Wants n) ended = ended ≡ false
Wants went ended = Unit {0}

-- what was taken stays, and no more of it is read than there is
pub record Kept (old new : Input) : Type 0 where
  pub taken : new.taken ≡ old.taken
  pub ended : new.ended ≡ old.ended
  pub within : old.read ≤ length old.taken.items → new.read ≤ length new.taken.items

-- What comes of what a line did, where the lines from `next` on are left; the input that was taken stays.
pub record Settles (procs : List WordProc) (old : Run) (next : ℕ) (act : Act) (went : Went) (new : Run) : Type 0 where
  pub follows : (live : Lives) (rest : List ℕ) → (IsTrue old.input.ended → rest ≡ []) →
      Followed (settled live procs [] (state_is procs old rest) (drop next (proc_in procs old.frame.proc).lines)
      (did (scene_of (state_is procs old rest)) act)) went (state_is procs old rest) (state_is procs new rest)
  pub wants : Wants went old.input.ended
  pub kept : Kept old.input new.input
