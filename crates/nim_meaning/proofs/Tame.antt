-- What each part of a meaning does to the meter: with more units it goes further (arc_base's `Tame`), and what it says and
-- its work are put behind what was there before.
use Rattle.std.proofs.Common.{◌≡◌, ℕ, zero, suc, ◌+◌, ◌<◌, ◌≤◌, List, [], ◌∷◌, ◌++◌, refl, sym, ap, ap₂, ◌∙◌, arith, append_assoc, append-nil}
use Rattle.std.proofs.Common.{add_assoc}
use Rattle.arc_base.specs.Event.{Event}
use Rattle.arc_base.specs.BigStep.{Res, Got, Over, Going, Errs, then_do, charged, told, spend, Turn, Again, Leave, next_turn, turns}
use Rattle.arc_base.specs.Growth.{Metered, Falls, Spends, Tame as Grows}
use Rattle.arc_base.proofs.ForCallers.{adds_charged, adds_told, tame_got as grows_got, tame_over as grows_over, tame_first as grows_first}
use Rattle.arc_base.proofs.ForCallers.{tame_then as grows_then, tame_spend as grows_spend, tame_loop as grows_loop}
use Rattle.nim_meaning.specs.State.{World, State, live}
use Rattle.nim_meaning.specs.Ways.{Point}
use Rattle.nim_meaning.specs.Acts.{Broke, Continued, Returned, Raised, Outcome, On, Out, Does, give, wrong, onward, ◌>>=◌, ◌>>◌, at_exit, with_meter}
use Rattle.nim_meaning.specs.Acts.{worked, said, left_with}
use Rattle.nim_meaning.specs.Acts.{costs, say, spending, end, looks, change, with_trail, passing, elsewhere, turn_of, loop, next, again, no_more, on_turn}

-- the meter of a state
abbrev pub metered : Metered Event State
metered = record { meter = λ s. s.meter; with_meter = with_meter; is_there = λ a s i. a; is_last = λ a b s i. with_meter a s }

-- behind these events and so much work
abbrev pub behind : List Event → ℕ → State → State
behind es w s = record s { meter = record (s.meter) { out = es ++ s.meter.out; work = w + s.meter.work } }

abbrev pub all_behind : {A : Type 0} → List Event → ℕ → Res State A → Res State A
all_behind es w (Got x b) = Got x (behind es w b)
all_behind es w (Over status live b) = Over status live (behind es w b)
all_behind es w (Going b) = Going (behind es w b)
all_behind es w (Errs b) = Errs (behind es w b)

-- the work in the end
abbrev pub work_of : {A : Type 0} → Res State A → ℕ
work_of (Got x b) = b.meter.work
work_of (Over status live b) = b.meter.work
work_of (Going b) = b.meter.work
work_of (Errs b) = b.meter.work

pub record Tame {A : Type 0} (act : State → Res State A) : Type 0 where
  pub units : Grows metered act
  pub shift : (es : List Event) (w : ℕ) (s : State) → act (behind es w s) ≡ all_behind es w (act s)

-- ---- what was there before stays in front

-- nothing said, nothing done
abbrev pub bare : State → State
bare s = record s { meter = record (s.meter) { out = []; work = 0 } }

abbrev with_out : State → List Event → ℕ → State
with_out s o w = record s { meter = record { units = s.meter.units; out = o; work = w } }

pub behind_bare : (s : State) → behind s.meter.out s.meter.work (bare s) ≡ s
behind_bare s = let e : s.meter.work + 0 ≡ s.meter.work = omega arith in ap₂ (with_out s) (append-nil s.meter.out) e

pub work_behind : {A : Type 0} (es : List Event) (w : ℕ) (r : Res State A) → w + work_of r ≡ work_of (all_behind es w r)
work_behind es w (Got x b) = refl
work_behind es w (Over status live b) = refl
work_behind es w (Going b) = refl
work_behind es w (Errs b) = refl

-- as from a bare meter, behind what was there before
pub from_bare : {A : Type 0} (act : State → Res State A) → Tame act → (s : State) → act s ≡ all_behind s.meter.out s.meter.work (act (bare s))
from_bare act t s = ap act (sym (behind_bare s)) ∙ t.shift s.meter.out s.meter.work (bare s)

-- ---- what parts are put together by

then_shift : {A B : Type 0} (es : List Event) (w : ℕ) (r : Res State A) (go : A → State → Res State B) → ((x : A) → Tame (go x)) →
    then_do (all_behind es w r) go ≡ all_behind es w (then_do r go)
then_shift es w (Got x b) go h = (h x).shift es w b
then_shift es w (Over status live b) go h = refl
then_shift es w (Going b) go h = refl
then_shift es w (Errs b) go h = refl

pub tame_then : {A B : Type 0} (act : State → Res State A) (go : A → State → Res State B) → Tame act → ((x : A) → Tame (go x)) → Tame (λ s. then_do (act s) go)
tame_then act go t h = record {
  units = grows_then metered act go t.units (λ x. (h x).units);
  shift = λ es w s. ap (λ r. then_do r go) (t.shift es w s) ∙ then_shift es w (act s) go h;
}

pub tame_got : {A : Type 0} (x : A) → Tame (λ (s : State). Got x s)
tame_got x = record { units = grows_got metered x; shift = λ es w s. refl }

on_flow : {A B : Type 0} (rest : A → Does B) → ((x : A) → Tame (rest x)) → (flow : Outcome A) → Tame (onward rest flow)
on_flow rest h (On x) = h x
on_flow rest h (Out way) = tame_got (Out way)

pub tame_past : {A B : Type 0} (act : Does A) (rest : Does B) → Tame act → Tame rest → Tame (act >> rest)
tame_past act rest t r = tame_then act (onward (λ _. rest)) t (on_flow (λ _. rest) (λ _. r))

pub tame_end : {A : Type 0} (status : ℕ) → Tame (end {A = A} status)
tame_end status = record { units = grows_over metered status (λ s. live s.world) (λ a s. refl); shift = λ es w s. refl }

pub tame_costs : {A : Type 0} (n : ℕ) (act : State → Res State A) → Tame act → Tame (λ s. act (worked n s))
tame_costs n act t = record {
  units = grows_first metered (charged n) act (adds_charged n) t.units;
  shift = λ es w s. ap (λ i. act (with_out s (es ++ s.meter.out) i)) (add_assoc w s.meter.work n) ∙ t.shift es w (worked n s);
}

pub tame_says : (said : List Event) → Tame (say said)
tame_says said = record {
  units = grows_first metered (told said) (give tt) (adds_told said) (grows_got metered (On tt));
  shift = λ es w s. ap (λ o. give tt (with_out s o (w + s.meter.work))) (append_assoc es s.meter.out said);
}

spend_shift : {A : Type 0} (act : State → Res State A) → Tame act → (u : ℕ) (es : List Event) (w : ℕ) (s : State) →
    spend u (behind es w s) (λ n. act (left_with n (behind es w s))) ≡ all_behind es w (spend u s (λ n. act (left_with n s)))
spend_shift act t zero es w s = refl
spend_shift act t (suc u) es w s = t.shift es w (left_with u s)

pub tame_spending : {A : Type 0} (act : Does A) → Tame act → Tame (spending act)
tame_spending act t = record { units = grows_spend metered act t.units; shift = λ es w s. spend_shift act t s.meter.units es w s }

pub tame_looks : {A : Type 0} (act : World → Does A) → ((world : World) → Tame (act world)) → Tame (looks act)
tame_looks act h = record {
  units = record { grows = λ s. (h s.world).units.grows s; falls = λ s. (h s.world).units.falls s; grown = λ k s. (h s.world).units.grown k s };
  shift = λ es w s. (h s.world).shift es w s;
}

pub tame_change : (f : World → World) → Tame (change f)
tame_change f = record {
  units = record { grows = λ s. ([], append-nil s.meter.out); falls = λ s. omega arith; grown = λ k s. refl };
  shift = λ es w s. refl;
}

pub tame_wrong : {A : Type 0} → Tame (wrong {A = A})
tame_wrong = record {
  units = record { grows = λ s. ([], append-nil s.meter.out); falls = λ s. tt; grown = λ k s. refl };
  shift = λ es w s. refl;
}

-- ---- points

with_trail_first : {A : Type 0} (trail : List Point) (act : State → Res State A) → Tame act → Tame (λ s. act (with_trail trail s))
with_trail_first trail act t = record {
  units = record {
    grows = λ s. t.units.grows (with_trail trail s);
    falls = λ s. t.units.falls (with_trail trail s);
    grown = λ k s. t.units.grown k (with_trail trail s);
  };
  shift = λ es w s. t.shift es w (with_trail trail s);
}

with_trail_last : {A : Type 0} (trail : List Point) (x : A) → Tame (λ s. Got x (with_trail trail s))
with_trail_last trail x = with_trail_first trail (λ s. Got x s) (tame_got x)

-- what looks at what was passed
by_trail : {A : Type 0} (act : List Point → State → Res State A) → ((trail : List Point) → Tame (act trail)) → Tame (λ s. act s.trail s)
by_trail act h = record {
  units = record { grows = λ s. (h s.trail).units.grows s; falls = λ s. (h s.trail).units.falls s; grown = λ k s. (h s.trail).units.grown k s };
  shift = λ es w s. (h s.trail).shift es w s;
}

pub tame_passing : {A : Type 0} (point : Point) (act : Does A) → Tame act → Tame (passing point act)
tame_passing point act t = by_trail (λ trail s. act (with_trail (point ∷ trail) s)) (λ trail. with_trail_first (point ∷ trail) act t)

pub tame_elsewhere : {A : Type 0} (act : Does A) → Tame act → Tame (elsewhere act)
tame_elsewhere act t =
    by_trail (λ trail s. then_do (act (with_trail [] s)) (λ flow d. Got flow (with_trail trail d)))
    (λ trail. tame_then (λ s. act (with_trail [] s)) (λ flow d. Got flow (with_trail trail d)) (with_trail_first [] act t) (with_trail_last trail))

-- ---- loops

module _ {X Y : Type 0} (turn : X → State → Res State (Turn X Y)) (tame : (x : X) → Tame (turn x))
    (spends : (x : X) (s : State) → Spends metered s.meter.units (turn x s)) where
  next_shift : (n : ℕ) (es : List Event) (w : ℕ) → ((x : X) (s : State) → turns n turn x (behind es w s) ≡ all_behind es w (turns n turn x s)) →
      (r : Res State (Turn X Y)) → then_do (all_behind es w r) (next_turn (turns n turn)) ≡ all_behind es w (then_do r (next_turn (turns n turn)))
  next_shift n es w h (Got (Again x) b) = h x b
  next_shift n es w h (Got (Leave y) b) = refl
  next_shift n es w h (Over status live b) = refl
  next_shift n es w h (Going b) = refl
  next_shift n es w h (Errs b) = refl

  turns_shift : (n : ℕ) (es : List Event) (w : ℕ) (x : X) (s : State) → turns n turn x (behind es w s) ≡ all_behind es w (turns n turn x s)
  turns_shift zero es w x s = refl
  turns_shift (suc n) es w x s = ap (λ r. then_do r (next_turn (turns n turn))) ((tame x).shift es w s) ∙ next_shift n es w (turns_shift n es w) (turn x s)

  pub tame_turns : (x : X) → Tame (λ s. turns (suc s.meter.units) turn x s)
  tame_turns x = record {
    units = grows_loop metered turn (λ x. (tame x).units) spends x;
    shift = λ es w s. turns_shift (suc s.meter.units) es w x s;
  }

  -- a loop with enough turns does the same with more of them
  next_enough : (n m u : ℕ) → u < suc n → u < suc m → ((x : X) (s : State) → s.meter.units < n → s.meter.units < m → turns n turn x s ≡ turns m turn x s) →
      (r : Res State (Turn X Y)) → Spends metered u r → then_do r (next_turn (turns n turn)) ≡ then_do r (next_turn (turns m turn))
  next_enough n m u lt lt' h (Got (Again x) b) s = h x b (omega (arith, s, lt)) (omega (arith, s, lt'))
  next_enough n m u lt lt' h (Got (Leave y) b) s = refl
  next_enough n m u lt lt' h (Over status live b) s = refl
  next_enough n m u lt lt' h (Going b) s = refl
  next_enough n m u lt lt' h (Errs b) s = refl

  pub turns_enough : (n m : ℕ) (x : X) (s : State) → s.meter.units < n → s.meter.units < m → turns n turn x s ≡ turns m turn x s
  turns_enough zero m x s lt lt' = absurd (omega (arith, lt))
  turns_enough (suc n) zero x s lt lt' = absurd (omega (arith, lt'))
  turns_enough (suc n) (suc m) x s lt lt' = next_enough n m s.meter.units lt lt' (turns_enough n m) (turn x s) (spends x s)

tame_turn_of : {X Y : Type 0} (flow : Outcome (Turn X Y)) → Tame (turn_of flow)
tame_turn_of (On (Again x)) = tame_got (Again x)
tame_turn_of (On (Leave y)) = tame_got (Leave (On y))
tame_turn_of (Out way) = tame_got (Leave (Out way))

-- of a turn as the rules give it: another turn has spent a unit
abbrev pub SpendsFlow : {X Y : Type 0} → ℕ → Res State (Outcome (Turn X Y)) → Type 0
SpendsFlow u (Got (On (Again x)) b) = b.meter.units < u
SpendsFlow u r = Unit {0}

pub spends_turn : {X Y : Type 0} (u : ℕ) (r : Res State (Outcome (Turn X Y))) → SpendsFlow u r → Spends metered u (then_do r turn_of)
spends_turn u (Got (On (Again x)) b) h = h
spends_turn u (Got (On (Leave y)) b) h = tt
spends_turn u (Got (Out way) b) h = tt
spends_turn u (Over status live b) h = tt
spends_turn u (Going b) h = tt
spends_turn u (Errs b) h = tt

-- a turn that may stand in a loop
pub record TameTurn {X Y : Type 0} (act : Does (Turn X Y)) : Type 0 where
  pub tame : Tame act
  pub spends : (s : State) → SpendsFlow s.meter.units (act s)

module _ {X Y : Type 0} (turn : X → Does (Turn X Y)) (t : (x : X) → TameTurn (turn x)) where
  abbrev each : X → State → Res State (Turn X (Outcome Y))
  each x s = then_do (turn x s) turn_of

  each_tame : (x : X) → Tame (each x)
  each_tame x = tame_then (turn x) turn_of (t x).tame tame_turn_of

  each_spends : (x : X) (s : State) → Spends metered s.meter.units (each x s)
  each_spends x s = spends_turn s.meter.units (turn x s) ((t x).spends s)

  pub tame_loop : (x : X) → Tame (loop turn x)
  tame_loop x = tame_turns each each_tame each_spends x

  -- a loop is its first turn, and then the loop anew
  first_turn : (u : ℕ) (r : Res State (Outcome (Turn X Y))) → SpendsFlow u r →
      then_do (then_do r turn_of) (next_turn (turns u each)) ≡ then_do r (on_turn (loop turn))
  first_turn u (Got (On (Again x)) b) lt = turns_enough each each_tame each_spends u (suc b.meter.units) x b lt (omega arith)
  first_turn u (Got (On (Leave y)) b) lt = refl
  first_turn u (Got (Out way) b) lt = refl
  first_turn u (Over status live b) lt = refl
  first_turn u (Going b) lt = refl
  first_turn u (Errs b) lt = refl

  pub loop_unfolds : (x : X) (s : State) → loop turn x s ≡ then_do (turn x s) (on_turn (loop turn))
  loop_unfolds x s = first_turn s.meter.units (turn x s) ((t x).spends s)

pub tame_next : {X : Type 0} (x : X) (flow : Outcome (Unit {0})) → Tame (next x flow)
tame_next x (On done) = tame_got (On (Again x))
tame_next x (Out (Continued by)) = tame_got (On (Again x))
tame_next x (Out (Broke by)) = tame_got (On (Leave tt))
tame_next x (Out (Returned by)) = tame_got (Out (Returned by))
tame_next x (Out (Raised exception by)) = tame_got (Out (Raised exception by))

pub tame_again : {X : Type 0} (body : Does (Unit {0})) (x : X) → Tame body → Tame (again body x)
tame_again body x t = tame_spending (costs 1 (at_exit body (next x))) (tame_costs 1 (at_exit body (next x)) (tame_then body (next x) t (tame_next x)))

pub tame_on_turn : {X Y : Type 0} (anew : X → Does Y) → ((x : X) → Tame (anew x)) → (flow : Outcome (Turn X Y)) → Tame (on_turn anew flow)
tame_on_turn anew h (On (Again x)) = h x
tame_on_turn anew h (On (Leave y)) = tame_got (On y)
tame_on_turn anew h (Out way) = tame_got (Out way)

-- ---- what turns are put together by

-- with more units to begin with, another turn has spent one all the more
spends_more : {X Y : Type 0} (u v : ℕ) (r : Res State (Outcome (Turn X Y))) → u ≤ v → SpendsFlow u r → SpendsFlow v r
spends_more u v (Got (On (Again x)) b) le h = omega (arith, le, h)
spends_more u v (Got (On (Leave y)) b) le h = tt
spends_more u v (Got (Out way) b) le h = tt
spends_more u v (Over status live b) le h = tt
spends_more u v (Going b) le h = tt
spends_more u v (Errs b) le h = tt

next_spends : {X : Type 0} (u v : ℕ) (x : X) (r : Res State (Outcome (Unit {0}))) → u < v → Falls metered u r → SpendsFlow v (then_do r (next x))
next_spends u v x (Got (On done) b) lt f = omega (arith, lt, f)
next_spends u v x (Got (Out (Continued by)) b) lt f = omega (arith, lt, f)
next_spends u v x (Got (Out (Broke by)) b) lt f = tt
next_spends u v x (Got (Out (Returned by)) b) lt f = tt
next_spends u v x (Got (Out (Raised exception by)) b) lt f = tt
next_spends u v x (Over status live b) lt f = tt
next_spends u v x (Going b) lt f = tt
next_spends u v x (Errs b) lt f = tt

again_spends : {X : Type 0} (body : Does (Unit {0})) → Tame body → (x : X) (u : ℕ) (s : State) →
    SpendsFlow u (spend u s (λ n. costs 1 (at_exit body (next x)) (left_with n s)))
again_spends body t x zero s = tt
again_spends body t x (suc u) s = next_spends u (suc u) x (body (worked 1 (left_with u s))) (omega arith) (t.units.falls (worked 1 (left_with u s)))

pub turn_again : {X : Type 0} (body : Does (Unit {0})) (x : X) → Tame body → TameTurn (again body x)
turn_again body x t = record { tame = tame_again body x t; spends = λ s. again_spends body t x s.meter.units s }

pub turn_last : {X : Type 0} → TameTurn (no_more {X = X})
turn_last = record { tame = tame_got (On (Leave tt)); spends = λ s. tt }

-- what comes before a turn spends no more than there is
spends_then : {A X Y : Type 0} (u : ℕ) (r : Res State (Outcome A)) (rest : A → Does (Turn X Y)) → Falls metered u r → ((x : A) → TameTurn (rest x)) →
    SpendsFlow u (then_do r (onward rest))
spends_then u (Got (On x) b) rest f h = spends_more b.meter.units u (rest x b) f ((h x).spends b)
spends_then u (Got (Out way) b) rest f h = tt
spends_then u (Over status live b) rest f h = tt
spends_then u (Going b) rest f h = tt
spends_then u (Errs b) rest f h = tt

pub turn_then : {A X Y : Type 0} (act : Does A) (rest : A → Does (Turn X Y)) → Tame act → ((x : A) → TameTurn (rest x)) → TameTurn (act >>= rest)
turn_then act rest t h = record {
  tame = tame_then act (onward rest) t (on_flow rest (λ x. (h x).tame));
  spends = λ s. spends_then s.meter.units (act s) rest (t.units.falls s) h;
}

pub turn_passing : {X Y : Type 0} (point : Point) (act : Does (Turn X Y)) → TameTurn act → TameTurn (passing point act)
turn_passing point act t = record { tame = tame_passing point act t.tame; spends = λ s. t.spends (with_trail (point ∷ s.trail) s) }
