-- Loops go by ways: each turn leads back to where the loop begins, or out of it.
use Rattle.std.proofs.Common.{inl, ℕ, zero, suc, List, ◌∷◌}
use Rattle.arc_base.specs.BigStep.{Res, Got, Over, Going, Errs, then_do, spend, Turn, Again, Leave, next_turn, turns}
use Rattle.nim_meaning.specs.ActTree as tree
use Rattle.nim_meaning.specs.ActTree.{Act}
use Rattle.nim_meaning.specs.Ways.{Point, Exits, Graph, onto, looped}
use Rattle.nim_meaning.specs.State.{State}
use Rattle.nim_meaning.specs.Acts.{Broke, Continued, Returned, Raised, Outcome, On, Out as LeftBy, Does, onward, at_exit}
use Rattle.nim_meaning.specs.Acts.{costs, left_with, worked, passing, turn_of, loop, next, again}
use Rattle.nim_meaning.specs.Runs.{GoneBy, LeavesBy, StopsBy}
use Rattle.nim_meaning.proofs.RunLemmas.{Answers, past, gone_none, gone_one, gone_both, Goes, goes_on, stops_both, leaves_both, leaves_from}

module _ (E : Graph) (elsewhere : List Point → Type 0) where
  -- from p on, a turn leads to `again` or to `behind`
  abbrev pub TurnGoes : {X Y : Type 0} → (p again behind : Point) → Exits → List Point → Res State (Outcome (Turn X Y)) → Type 0
  TurnGoes p again behind k t (Got (On (Again x)) s) = GoneBy E p t s.trail again
  TurnGoes p again behind k t (Got (On (Leave y)) s) = GoneBy E p t s.trail behind
  TurnGoes p again behind k t (Got (LeftBy way) s) = LeavesBy E p k t s.trail way
  TurnGoes p again behind k t (Over status live s) = StopsBy E p elsewhere t s.trail
  TurnGoes p again behind k t (Going s) = StopsBy E p elsewhere t s.trail
  TurnGoes p again behind k t (Errs s) = StopsBy E p elsewhere t s.trail

  turn_on : {X Y : Type 0} (p m a b : Point) (k : Exits) (t u : List Point) (r : Res State (Outcome (Turn X Y))) → GoneBy E p t u m → TurnGoes m a b k u r →
      TurnGoes p a b k t r
  turn_on p m a b k t u (Got (On (Again x)) s) g h = gone_both E p m a t u s.trail g h
  turn_on p m a b k t u (Got (On (Leave y)) s) g h = gone_both E p m b t u s.trail g h
  turn_on p m a b k t u (Got (LeftBy way) s) g h = leaves_both E elsewhere p m k t u s.trail way g h
  turn_on p m a b k t u (Over status live s) g h = stops_both E elsewhere p m t u s.trail g h
  turn_on p m a b k t u (Going s) g h = stops_both E elsewhere p m t u s.trail g h
  turn_on p m a b k t u (Errs s) g h = stops_both E elsewhere p m t u s.trail g h

  pub then_turn : {A X Y : Type 0} (H : A → Type 0) (p m a b : Point) (k : Exits) (t : List Point) (r : Res State (Outcome A))
      (go : A → Does (Turn X Y)) → Answers H r → Goes E elsewhere p (onto m k) t r → ((x : A) → H x → (s : State) → TurnGoes m a b k s.trail (go x s)) →
      TurnGoes p a b k t (then_do r (onward go))
  then_turn H p m a b k t (Got (On x) s) go i h g = turn_on p m a b k t s.trail (go x s) h (g x i s)
  then_turn H p m a b k t (Got (LeftBy way) s) go i h g = leaves_from E elsewhere p m k t s.trail way h
  then_turn H p m a b k t (Over status live s) go i h g = h
  then_turn H p m a b k t (Going s) go i h g = h
  then_turn H p m a b k t (Errs s) go i h g = h

  pub turn_past : {X Y : Type 0} (p q a b : Point) (d : Act) (k : Exits) (act : Does (Turn X Y)) → E p d q → (s : State) →
      TurnGoes q a b k (p ∷ s.trail) (act (past p s)) → TurnGoes p a b k s.trail (passing p act s)
  turn_past p q a b d k act e s h = turn_on p q a b k s.trail (p ∷ s.trail) (passing p act s) (gone_one E p q d s.trail e) h

  -- a body that was gone through
  next_turns : {X : Type 0} (p a : Point) (k : Exits) (x : X) (t : List Point) (r : Res State (Outcome (Unit {0}))) → Goes E elsewhere p (looped a k) t r →
      TurnGoes p a (k tree.On) k t (then_do r (next x))
  next_turns p a k x t (Got (On done) s) h = h
  next_turns p a k x t (Got (LeftBy (Broke by)) s) h = h
  next_turns p a k x t (Got (LeftBy (Continued by)) s) h = h
  next_turns p a k x t (Got (LeftBy (Returned by)) s) h = h
  next_turns p a k x t (Got (LeftBy (Raised exception by)) s) h = absurd h
  next_turns p a k x t (Over status live s) h = h
  next_turns p a k x t (Going s) h = h
  next_turns p a k x t (Errs s) h = h

  spend_turns : {X : Type 0} (p a : Point) (k : Exits) (body : Does (Unit {0})) (x : X) → ((s : State) → Goes E elsewhere p (looped a k) s.trail (body s)) →
      (n : ℕ) (s : State) → TurnGoes p a (k tree.On) k s.trail (spend n s (λ n. costs 1 (at_exit body (next x)) (left_with n s)))
  spend_turns p a k body x h zero s = inl (record { to = p; gone = gone_none E p s.trail })
  spend_turns p a k body x h (suc n) s = next_turns p a k x s.trail (body (worked 1 (left_with n s))) (h (worked 1 (left_with n s)))

  pub turn_anew : {X : Type 0} (p a : Point) (k : Exits) (body : Does (Unit {0})) (x : X) → ((s : State) → Goes E elsewhere p (looped a k) s.trail (body s)) →
      (s : State) → TurnGoes p a (k tree.On) k s.trail (again body x s)
  turn_anew p a k body x h s = spend_turns p a k body x h s.meter.units s

  -- ---- all turns

  module _ {X Y : Type 0} (a : Point) (k : Exits) (turn : X → Does (Turn X Y))
      (each : (x : X) (s : State) → TurnGoes a a (k tree.On) k s.trail (turn x s)) where
    abbrev step : X → State → Res State (Turn X (Outcome Y))
    step x s = then_do (turn x s) turn_of

    turned : (n : ℕ) (t : List Point) (r : Res State (Outcome (Turn X Y))) → TurnGoes a a (k tree.On) k t r →
        ((x : X) (s : State) → Goes E elsewhere a k s.trail (turns n step x s)) →
        Goes E elsewhere a k t (then_do (then_do r turn_of) (next_turn (turns n step)))
    turned n t (Got (On (Again x)) s) h rest = goes_on E elsewhere a a k t s.trail (turns n step x s) h (rest x s)
    turned n t (Got (On (Leave y)) s) h rest = h
    turned n t (Got (LeftBy way) s) h rest = h
    turned n t (Over status live s) h rest = h
    turned n t (Going s) h rest = h
    turned n t (Errs s) h rest = h

    all_turns : (n : ℕ) (x : X) (s : State) → Goes E elsewhere a k s.trail (turns n step x s)
    all_turns zero x s = inl (record { to = a; gone = gone_none E a s.trail })
    all_turns (suc n) x s = turned n s.trail (turn x s) (each x s) (all_turns n)

    pub goes_round : (x : X) (s : State) → Goes E elsewhere a k s.trail (loop turn x s)
    goes_round x s = all_turns (suc s.meter.units) x s
