-- What is sure of a deed holds where the meaning has carried it out.
use Rattle.std.proofs.Common.{Bool, true, false, length}
use Rattle.arc_base.specs.BigStep.{Res, Got, Over, Going, Errs as Wrong, then_do}
use Rattle.nim_meaning.specs.Heap.{has_room}
use Rattle.nim_meaning.specs.State.{World, State}
use Rattle.nim_meaning.specs.Acts.{Outcome, On, Out, Does, onward, ◌>>=◌, branch, worked, said, change, stop, ◌>>◌}
use Rattle.nim_meaning.specs.Deeds.{Deed, Gives, Ends, Errs, Works, Says, Looks, Changes, Takes, changed, with_block, carry}
use Rattle.nim_program.specs.Traps.{OutOfMemory}
use Rattle.holders.specs.Sure.{Sure, Answered}

pub sure_runs : {A : Type 0} (deed : Deed A) (P : A → World → Type 0) (s : State) → Sure deed P s.world → Answered P (carry deed s)
sure_runs (Gives x) P s h = h
sure_runs (Ends status) P s h = tt
sure_runs Errs P s h = h
sure_runs (Works n rest) P s h = sure_runs rest P (worked n s) h
sure_runs (Says es rest) P s h = sure_runs rest P (said es s) h
sure_runs (Looks rest) P s h = sure_runs (rest s.world) P s h
sure_runs (Changes c rest) P s h = sure_runs rest P (record s { world = changed c s.world }) h
sure_runs {A} (Takes class contents rest) P s h =
    let new : State = record s { world = with_block class contents s.world } in
    room (has_room s.world.heap class) (sure_runs (rest (length s.world.heap.blocks)) P new h)
  where
    room : (b : Bool) → Answered P (carry (rest (length s.world.heap.blocks)) (record s { world = with_block class contents s.world })) →
        Answered P (branch b (change (with_block class contents) >> carry (rest (length s.world.heap.blocks))) (stop {A = A} OutOfMemory) s)
    room true h = h
    room false h = tt

-- one thing after another
pub answered_then : {A B : Type 0} (act : Does A) (rest : A → Does B) (P : A → World → Type 0) (Q : B → World → Type 0) (s : State) → Answered P (act s) →
    ((x : A) (now : State) → P x now.world → Answered Q (rest x now)) → Answered Q ((act >>= rest) s)
answered_then {A} {B} act rest P Q s h g = by (act s) h
  where
    by : (r : Res State (Outcome A)) → Answered P r → Answered Q (then_do r (onward rest))
    by (Got (On x) now) h = g x now h
    by (Got (Out way) now) h = elim h [ ]
    by (Over status live now) h = tt
    by (Going now) h = tt
    by (Wrong now) h = elim h [ ]
