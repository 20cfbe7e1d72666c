-- The state of a run, as word code has it.
use Rattle.std.specs.Prelude.{ℕ, zero, suc, List, [], ◌∷◌, ◌++◌, map, drop, reverse, Option, Some, None, Result, Ok, Err, slice_get}
use Rattle.word_code.specs.declared.word.WordProc.{WordProc}
use Rattle.word_code.specs.Memory.{Memory}
use Rattle.word_code.specs.Words.{WordFrame, WordState, first_of}
use Rattle.word_runner.specs.declared.state.Space.{Space}
use Rattle.word_runner.specs.declared.state.Frame.{Frame}
use Rattle.word_runner.specs.declared.state.Run.{Run}

-- what is held at a position
abbrev pub held_in : {A : Type 0} → List (Option A) → ℕ → Option A
held_in [] v = None
held_in (x ∷ xs) zero = x
held_in (x ∷ xs) (suc v) = held_in xs v

abbrev pub ok_in : {A E : Type 0} → Result A E → Option A
ok_in (Ok x) = Some x
ok_in (Err e) = None

abbrev pub space_is : Space → Memory
space_is s = record { statics = s.statics.items; heap = s.heap.items; places = s.places.items }

-- the procedure at a position
abbrev pub proc_or : Option WordProc → WordProc
proc_or None = first_of []
proc_or (Some p) = p

abbrev pub proc_in : List WordProc → ℕ → WordProc
proc_in procs i = proc_or (slice_get procs i)

abbrev pub frame_is : List WordProc → Frame → WordFrame
frame_is procs f = record {
  proc = proc_in procs f.proc;
  left = drop f.at (proc_in procs f.proc).lines;
  vars = held_in f.vars.items;
  given = held_in f.given.items;
  base = f.base;
  awaits = f.awaits;
}

-- the callers, the last one first
abbrev pub callers_are : List WordProc → List Frame → List WordFrame
callers_are procs frames = map (frame_is procs) (reverse frames)

-- with the input that may still come
abbrev pub state_is : List WordProc → Run → (rest : List ℕ) → WordState
state_is procs run rest = record {
  units = Some run.units;
  memory = space_is run.space;
  input = drop run.input.read run.input.taken.items ++ rest;
  frame = frame_is procs run.frame;
  callers = callers_are procs run.callers.items;
}
