-- What a part of a program does, and how what it does is put together.
use Rattle.std.specs.Prelude.{ℕ, suc, ◌-◌, Bool, true, false, List, ◌∷◌, [], ◌++◌, length}
use Rattle.arc_base.specs.Event.{Event, writes}
use Rattle.arc_base.specs.declared.outside.Stream.{Stream}
use Rattle.arc_base.specs.declared.outside.Stream.TheVariants.{Err}
use Rattle.arc_base.specs.BigStep.{Meter, Res, Got, Over, Errs, then_do, charged, told, with_units, spend, Turn, Again, Leave, turns}
use Rattle.nim_program.specs.Traps.{Trap, trap_text}
use Rattle.nim_meaning.specs.ActTree as points
use Rattle.nim_meaning.specs.Ways.{Point, Leave as Scope_left}
use Rattle.nim_meaning.specs.State.{World, State, live}

-- How control leaves a part of a program before its end, with the number of the statement or call by which it does: it goes on behind a
-- loop, at its next turn, or at the end of a body; or an exception leaves.
pub data Exit : Type 0 where
  Broke : (by : ℕ) → Exit
  Continued : (by : ℕ) → Exit
  Returned : (by : ℕ) → Exit
  Raised : (exception by : ℕ) → Exit

-- a part goes on with an answer, or is left by an exit
pub data Outcome (A : Type 0) : Type 0 where
  On : (answer : A) → Outcome A
  Out : (exit : Exit) → Outcome A

abbrev pub by_of : Exit → ℕ
by_of (Broke by) = by
by_of (Continued by) = by
by_of (Returned by) = by
by_of (Raised exception by) = by

-- the exit by which a part was left, whose normal end has a number
abbrev pub exit_of : {A : Type 0} → (last : ℕ) → Outcome A → ℕ
exit_of last (On x) = last
exit_of last (Out exit) = by_of exit

-- how a part was left, as its acts say it; no construct raises an exception yet
abbrev pub left_as : {A : Type 0} → Outcome A → points.Flow
left_as (On x) = points.On
left_as (Out (Broke by)) = points.Out by
left_as (Out (Continued by)) = points.Turn_over by
left_as (Out (Returned by)) = points.Back by
left_as (Out (Raised exception by)) = points.Back by

-- what a part of a program does in a state
abbrev pub Does : Type 0 → Type 0
Does A = State → Res State (Outcome A)

abbrev pub give : {A : Type 0} → A → Does A
give x s = Got (On x) s

abbrev pub leave : {A : Type 0} → Exit → Does A
leave exit s = Got (Out exit) s

-- a run that did what no rule allows
abbrev pub wrong : {A : Type 0} → Does A
wrong s = Errs s

-- it goes on, or is left, as something before it did
abbrev pub as_before : {A : Type 0} → Outcome A → Does A
as_before flow s = Got flow s

abbrev pub onward : {A B : Type 0} → (A → Does B) → Outcome A → Does B
onward rest (On x) s = rest x s
onward rest (Out exit) s = Got (Out exit) s

-- one thing, and then what follows of its answer; an exit is passed on
infixl 10 ◌>>=◌
abbrev pub ◌>>=◌ : {A B : Type 0} → Does A → (A → Does B) → Does B
act >>= rest = λ s. then_do (act s) (onward rest)

infixl 10 ◌>>◌
abbrev pub ◌>>◌ : {A B : Type 0} → Does A → Does B → Does B
act >> rest = λ s. then_do (act s) (onward (λ _. rest))

-- what looks at an exit: the exit of a loop's body, of a scope, of a call
abbrev pub at_exit : {A B : Type 0} → Does A → (Outcome A → Does B) → Does B
at_exit act rest = λ s. then_do (act s) rest

-- what is done where a condition holds, and where it fails
abbrev pub branch : {A : Type 0} → Bool → A → A → A
branch true holds fails = holds
branch false holds fails = fails

-- ---- the meter

abbrev pub with_meter : Meter Event → State → State
with_meter meter s = record s { meter = meter }

abbrev pub worked : ℕ → State → State
worked n s = with_meter (charged n s.meter) s

abbrev pub said : List Event → State → State
said es s = with_meter (told es s.meter) s

abbrev pub left_with : ℕ → State → State
left_with n s = with_meter (with_units n s.meter) s

-- first so much work
abbrev pub costs : {A : Type 0} → ℕ → Does A → Does A
costs n act = λ s. act (worked n s)

abbrev pub say : List Event → Does (Unit {0})
say es s = Got (On tt) (said es s)

-- a unit is spent first; where none is left, the run goes on
abbrev pub spending : {A : Type 0} → Does A → Does A
spending act = λ s. spend s.meter.units s (λ n. act (left_with n s))

-- a line: a text and a line feed
abbrev pub line_of : List ℕ → List ℕ
line_of text = text ++ 10 ∷ []

-- bytes are written, each as a work
abbrev pub write : Stream → List ℕ → Does (Unit {0})
write stream text = costs (length text) (say (writes stream text))

abbrev pub end : {A : Type 0} → ℕ → Does A
end status s = Over status (live s.world) s

-- a trap writes its line to standard error, and ends the run with status 1
abbrev pub stop : {A : Type 0} → Trap → Does A
stop trap = write Err (line_of (trap_text trap)) >> end 1

-- ---- the world

abbrev pub looks : {A : Type 0} → (World → Does A) → Does A
looks act s = act s.world s

abbrev pub change : (World → World) → Does (Unit {0})
change f s = Got (On tt) (record s { world = f s.world })

-- ---- points

abbrev pub with_trail : List Point → State → State
with_trail trail s = record s { trail = trail }

-- a point of the body is passed first
abbrev pub passing : {A : Type 0} → Point → Does A → Does A
passing point act = λ s. act (with_trail (point ∷ s.trail) s)

-- the scope of what has hooks is left at a point of its own
abbrev pub leaving_scope : {A : Type 0} → (hooked : Bool) → points.Root → points.Flow → Does A → Does A
leaving_scope false root flow act = act
leaving_scope true root flow act = passing (Scope_left root flow) act

-- the points that something passes are those of another body
abbrev pub elsewhere : {A : Type 0} → Does A → Does A
elsewhere act = λ s. then_do (act (with_trail [] s)) (λ flow d. Got flow (with_trail s.trail d))

-- ---- loops

abbrev pub turn_of : {X Y : Type 0} → Outcome (Turn X Y) → State → Res State (Turn X (Outcome Y))
turn_of (On (Again x)) s = Got (Again x) s
turn_of (On (Leave y)) s = Got (Leave (On y)) s
turn_of (Out exit) s = Got (Leave (Out exit)) s

-- Turns until one says that it is the last, or is left. Each turn that another follows has spent a unit, so there are
-- at most one more than units.
abbrev pub loop : {X Y : Type 0} → (X → Does (Turn X Y)) → X → Does Y
loop turn x s = turns (suc s.meter.units) (λ x s. then_do (turn x s) turn_of) x s

-- a body was gone through: the loop goes on with x, or ends
abbrev pub next : {X : Type 0} → X → Outcome (Unit {0}) → Does (Turn X (Unit {0}))
next x (On done) s = Got (On (Again x)) s
next x (Out (Continued by)) s = Got (On (Again x)) s
next x (Out (Broke by)) s = Got (On (Leave tt)) s
next x (Out (Returned by)) s = Got (Out (Returned by)) s
next x (Out (Raised exception by)) s = Got (Out (Raised exception by)) s

-- another turn: a unit, the body, and on with x
abbrev pub again : {X : Type 0} → Does (Unit {0}) → X → Does (Turn X (Unit {0}))
again body x = spending (costs 1 (at_exit body (next x)))

abbrev pub no_more : {X : Type 0} → Does (Turn X (Unit {0}))
no_more = give (Leave tt)

-- what a turn says, where the loop begins anew
abbrev pub on_turn : {X Y : Type 0} → (X → Does Y) → Outcome (Turn X Y) → Does Y
on_turn anew (On (Again x)) = anew x
on_turn anew (On (Leave y)) = give y
on_turn anew (Out exit) = leave exit
