-- What holds wherever a deed comes to its end; and it is never at a fault.
use Rattle.std.specs.Prelude.{length}
use Rattle.arc_base.specs.BigStep.{Res, Got, Over, Going, Errs as Wrong}
use Rattle.nim_meaning.specs.State.{World, State}
use Rattle.nim_meaning.specs.Acts.{Exit, Outcome, On, Out}
use Rattle.nim_meaning.specs.Deeds.{Deed, Gives, Ends, Errs, Works, Says, Looks, Changes, Takes, changed, with_block}

abbrev pub Sure : {A : Type 0} → Deed A → (A → World → Type 0) → World → Type 0
Sure (Gives x) P world = P x world
Sure (Ends status) P world = Unit {0}
Sure Errs P world = ⊥
Sure (Works n rest) P world = Sure rest P world
Sure (Says es rest) P world = Sure rest P world
Sure (Looks rest) P world = Sure (rest world) P world
Sure (Changes change rest) P world = Sure rest P (changed change world)
Sure (Takes class contents rest) P world = Sure (rest (length world.heap.blocks)) P (with_block class contents world)

-- it isn't wrong, and an answer is so
abbrev pub Answered : {A : Type 0} → (A → World → Type 0) → Res State (Outcome A) → Type 0
Answered P (Got (On x) s) = P x s.world
Answered P (Got (Out way) s) = ⊥
Answered P (Over status live s) = Unit {0}
Answered P (Going s) = Unit {0}
Answered P (Wrong s) = ⊥

-- it isn't wrong; an answer is so, and the exit by which it is left
abbrev pub Comes : {A : Type 0} → (A → World → Type 0) → (Exit → World → Type 0) → Res State (Outcome A) → Type 0
Comes P X (Got (On x) s) = P x s.world
Comes P X (Got (Out way) s) = X way s.world
Comes P X (Over status live s) = Unit {0}
Comes P X (Going s) = Unit {0}
Comes P X (Wrong s) = ⊥
