-- What is so wherever a part of a program comes to, put together of its parts.
use Rattle.std.proofs.Common.{◌≡◌, refl, ℕ, zero, suc, Bool, true, false, []}
use Rattle.arc_base.specs.BigStep.{Res, Got, Over, Going, Errs as Wrong, then_do, spend, Turn, Again, Leave, turns, next_turn}
use Rattle.nim_meaning.specs.State.{World, State}
use Rattle.nim_meaning.specs.Acts.{Exit, Broke, Continued, Returned, Raised, Outcome, On, Out, Does, onward, ◌>>=◌, at_exit, spending, left_with, elsewhere}
use Rattle.nim_meaning.specs.Acts.{with_trail, turn_of, loop, next, again, costs, leaving_scope}
use Rattle.nim_meaning.specs.ActTree as points
use Rattle.nim_meaning.specs.Deeds.{Deed, carry}
use Rattle.holders.specs.Sure.{Sure, Answered, Comes}
use Rattle.holders.specs.Called.{NotRaised, LeftBy}
use Rattle.holders.proofs.SureRuns.{sure_runs}

module _ {A : Type 0} (P : A → World → Type 0) (X : Exit → World → Type 0) where
  pub comes_answered : (r : Res State (Outcome A)) → Answered P r → Comes P X r
  comes_answered (Got (On x) s) h = h
  comes_answered (Got (Out way) s) h = elim h [ ]
  comes_answered (Over status live s) h = tt
  comes_answered (Going s) h = tt
  comes_answered (Wrong s) h = elim h [ ]

  pub comes_carried : (deed : Deed A) (s : State) → Sure deed P s.world → Comes P X (carry deed s)
  comes_carried deed s h = comes_answered (carry deed s) (sure_runs deed P s h)

  pub comes_weaker : (Q : A → World → Type 0) (Y : Exit → World → Type 0) (r : Res State (Outcome A)) → Comes P X r →
      ((x : A) (now : World) → P x now → Q x now) → ((way : Exit) (now : World) → X way now → Y way now) → Comes Q Y r
  comes_weaker Q Y (Got (On x) s) h g l = g x s.world h
  comes_weaker Q Y (Got (Out way) s) h g l = l way s.world h
  comes_weaker Q Y (Over status live s) h g l = tt
  comes_weaker Q Y (Going s) h g l = tt
  comes_weaker Q Y (Wrong s) h g l = elim h [ ]

-- one thing after another
pub comes_then : {A B : Type 0} (act : Does A) (rest : A → Does B) (P : A → World → Type 0) (Q : B → World → Type 0) (X : Exit → World → Type 0) (s : State) →
    Comes P X (act s) → ((x : A) (now : State) → P x now.world → Comes Q X (rest x now)) → Comes Q X ((act >>= rest) s)
comes_then {A} {B} act rest P Q X s h g = by (act s) h
  where
    by : (r : Res State (Outcome A)) → Comes P X r → Comes Q X (then_do r (onward rest))
    by (Got (On x) now) h = g x now h
    by (Got (Out way) now) h = h
    by (Over status live now) h = tt
    by (Going now) h = tt
    by (Wrong now) h = elim h [ ]

-- in another order of the same things
pub comes_turned : {A B C D : Type 0} (act : Does A) (f : A → Does B) (h : B → Does C) (g : C → Does D) (P : D → World → Type 0) (X : Exit → World → Type 0)
    (s : State) → Comes P X (((act >>= (λ a. f a >>= h)) >>= g) s) → Comes P X ((act >>= (λ a. f a >>= (λ b. h b >>= g))) s)
comes_turned {A} {B} act f h g P X s e = by (act s) e
  where
    inner : (r : Res State (Outcome B)) → Comes P X (then_do (then_do r (onward h)) (onward g)) → Comes P X (then_do r (onward (λ b. h b >>= g)))
    inner (Got (On b) now) e = e
    inner (Got (Out way) now) e = e
    inner (Over status live now) e = e
    inner (Going now) e = e
    inner (Wrong now) e = e

    by : (r : Res State (Outcome A)) → Comes P X (then_do (then_do r (onward (λ a. f a >>= h))) (onward g)) →
        Comes P X (then_do r (onward (λ a. f a >>= (λ b. h b >>= g))))
    by (Got (On a) now) e = inner (f a now) e
    by (Got (Out way) now) e = e
    by (Over status live now) e = e
    by (Going now) e = e
    by (Wrong now) e = e

-- what looks at an exit
pub comes_at_exit : {A B : Type 0} (act : Does A) (rest : Outcome A → Does B) (P : A → World → Type 0) (X : Exit → World → Type 0) (Q : B → World → Type 0)
    (Y : Exit → World → Type 0) (s : State) → Comes P X (act s) → ((x : A) (now : State) → P x now.world → Comes Q Y (rest (On x) now)) →
    ((way : Exit) (now : State) → X way now.world → Comes Q Y (rest (Out way) now)) → Comes Q Y (at_exit act rest s)
comes_at_exit {A} {B} act rest P X Q Y s h g l = by (act s) h
  where
    by : (r : Res State (Outcome A)) → Comes P X r → Comes Q Y (then_do r rest)
    by (Got (On x) now) h = g x now h
    by (Got (Out way) now) h = l way now h
    by (Over status live now) h = tt
    by (Going now) h = tt
    by (Wrong now) h = elim h [ ]

-- a unit is spent first
pub comes_spending : {A : Type 0} (act : Does A) (P : A → World → Type 0) (X : Exit → World → Type 0) (s : State) →
    ((now : State) → now.world ≡ s.world → Comes P X (act now)) → Comes P X (spending act s)
comes_spending {A} act P X s h = by s.meter.units
  where
    by : (n : ℕ) → Comes P X (spend n s (λ n. act (left_with n s)))
    by zero = tt
    by (suc n) = h (left_with n s) refl

-- points of another body
pub comes_elsewhere : {A : Type 0} (act : Does A) (P : A → World → Type 0) (X : Exit → World → Type 0) (s : State) → Comes P X (act (with_trail [] s)) →
    Comes P X (elsewhere act s)
comes_elsewhere {A} act P X s h = by (act (with_trail [] s)) h
  where
    by : (r : Res State (Outcome A)) → Comes P X r → Comes P X (then_do r (λ flow d. Got flow (with_trail s.trail d)))
    by (Got (On x) now) h = h
    by (Got (Out way) now) h = h
    by (Over status live now) h = tt
    by (Going now) h = tt
    by (Wrong now) h = elim h [ ]

-- a point of its own, or none
pub comes_scope : {A : Type 0} (hooked : Bool) (root : points.Root) (flow : points.Flow) (act : Does A) (P : A → World → Type 0) (X : Exit → World → Type 0)
    (s : State) → ((now : State) → now.world ≡ s.world → Comes P X (act now)) → Comes P X (leaving_scope hooked root flow act s)
comes_scope false root flow act P X s h = h s refl
comes_scope true root flow act P X s h = h (with_trail _ s) refl

-- ---- loops

-- what a turn says
abbrev pub Turned : {Y Z : Type 0} → (Y → World → Type 0) → (Z → World → Type 0) → Turn Y Z → World → Type 0
Turned I P (Again x) world = I x world
Turned I P (Leave y) world = P y world

pub comes_loop : {Y Z : Type 0} (turn : Y → Does (Turn Y Z)) (I : Y → World → Type 0) (P : Z → World → Type 0) (X : Exit → World → Type 0) (y : Y) (s : State) →
    ((y : Y) (now : State) → I y now.world → Comes (Turned I P) X (turn y now)) → I y s.world → Comes P X (loop turn y s)
comes_loop {Y} {Z} turn I P X y s each i = by (suc s.meter.units) y s i
  where
    by : (n : ℕ) (y : Y) (s : State) → I y s.world → Comes P X (turns n (λ y s. then_do (turn y s) turn_of) y s)
    by zero y s i = tt
    by (suc n) y s i = on (turn y s) (each y s i) (λ y s i. by n y s i)
      where
        on : (r : Res State (Outcome (Turn Y Z))) → Comes (Turned I P) X r →
            ((y : Y) (s : State) → I y s.world → Comes P X (turns n (λ y s. then_do (turn y s) turn_of) y s)) →
            Comes P X (then_do (then_do r turn_of) (next_turn (turns n (λ y s. then_do (turn y s) turn_of))))
        on (Got (On (Again y)) now) h rest = rest y now h
        on (Got (On (Leave z)) now) h rest = h
        on (Got (Out way) now) h rest = h
        on (Over status live now) h rest = tt
        on (Going now) h rest = tt
        on (Wrong now) h rest = elim h [ ]

-- a body was gone through, by whichever way
pub comes_again : {Y : Type 0} (body : Does (Unit {0})) (y : Y) (J : World → Type 0) (I : Y → World → Type 0) (s : State) →
    ((now : State) → now.world ≡ s.world → Comes (λ u. J) (LeftBy J) (body now)) → ((now : World) → J now → I y now) →
    Comes (Turned I (λ (u : Unit {0}). J)) (LeftBy J) (again body y s)
comes_again {Y} body y J I s h next_so =
    comes_spending (costs 1 (at_exit body (next y))) (Turned I (λ (u : Unit {0}). J)) (LeftBy J) s
    (λ now e. comes_at_exit body (next y) (λ u. J) (LeftBy J) (Turned I (λ (u : Unit {0}). J)) (LeftBy J) _ (h _ e)
    (λ u last j. next_so last.world j) (λ way last j. by way last j.0 j.1))
  where
    by : (way : Exit) (last : State) → NotRaised way → J last.world → Comes (Turned I (λ (u : Unit {0}). J)) (LeftBy J) (next y (Out way) last)
    by (Broke at) last ok j = j
    by (Continued at) last ok j = next_so last.world j
    by (Returned at) last ok j = (tt, j)
    by (Raised exception at) last ok j = elim ok [ ]
