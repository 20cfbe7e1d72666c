-- What a part of a meaning makes of a world that is as it should be: from I it comes to J, and to K where the run stands still or is wrong.
use Rattle.std.proofs.Common.{ℕ, zero, suc, Bool, true, false, ◌≡◌, refl, List, [], ◌∷◌}
use Rattle.arc_base.specs.Event.{Event}
use Rattle.arc_base.specs.BigStep.{Res, Got, Over, Going, Errs, then_do, spend, Turn, Again, Leave, next_turn, turns}
use Rattle.nim_meaning.specs.Ways.{Point}
use Rattle.nim_meaning.specs.Heap.{Contents, has_room}
use Rattle.nim_meaning.specs.State.{World, State}
use Rattle.nim_meaning.specs.Acts.{Broke, Continued, Returned, Raised, Outcome, On, Out, Does, wrong, onward, ◌>>=◌, ◌>>◌, at_exit, branch, worked, say, costs}
use Rattle.nim_meaning.specs.Acts.{spending, end}
use Rattle.nim_meaning.specs.Acts.{looks, change, left_with, with_trail, passing, elsewhere, turn_of, loop, next, again}
use Rattle.nim_meaning.specs.Deeds.{with_block}
use Rattle.nim_meaning.specs.Kept.{Meets}
use Rattle.nim_meaning.proofs.Parts.{taking}

pub record Keeps {A : Type 0} (K I : World → Type 0) (act : State → Res State A) (J : A → World → Type 0) : Type 0 where
  pub at : (s : State) → I s.world → Meets K K J (act s)

module _ (K : World → Type 0) where
  then_kept : {A B : Type 0} (J : A → World → Type 0) (M : B → World → Type 0) (r : Res State A) (go : A → State → Res State B) → Meets K K J r →
      ((x : A) → Keeps K (J x) (go x) M) → Meets K K M (then_do r go)
  then_kept J M (Got x s) go h g = (g x).at s h
  then_kept J M (Over status live s) go h g = h
  then_kept J M (Going s) go h g = h
  then_kept J M (Errs s) go h g = h

  pub keeps_then : {A B : Type 0} (I : World → Type 0) (J : A → World → Type 0) (M : B → World → Type 0) (act : State → Res State A)
      (go : A → State → Res State B) → Keeps K I act J → ((x : A) → Keeps K (J x) (go x) M) → Keeps K I (λ s. then_do (act s) go) M
  keeps_then I J M act go h g = record { at = λ s i. then_kept J M (act s) go (h.at s i) g }

  pub keeps_costs : {A : Type 0} (I : World → Type 0) (J : A → World → Type 0) (n : ℕ) (act : State → Res State A) → Keeps K I act J →
      Keeps K I (λ s. act (worked n s)) J
  keeps_costs I J n act h = record { at = λ s i. h.at (worked n s) i }

  pub keeps_looks : {A : Type 0} (I : World → Type 0) (J : Outcome A → World → Type 0) (act : World → Does A) → ((world : World) → Keeps K I (act world) J) →
      Keeps K I (looks act) J
  keeps_looks I J act h = record { at = λ s i. (h s.world).at s i }

  -- it comes to J, and isn't left
  abbrev pub Only : {A : Type 0} → (World → Type 0) → Outcome A → World → Type 0
  Only J (On x) world = J world
  Only J (Out way) world = ⊥

  pub keeps_on : (I J : World → Type 0) (f : World → World) → ((world : World) → I world → J (f world)) → Keeps K I (change f) (Only J)
  keeps_on I J f h = record { at = λ s i. h s.world i }

  pub keeps_past : {A B : Type 0} (I J : World → Type 0) (M : Outcome B → World → Type 0) (act : Does A) (rest : Does B) → Keeps K I act (Only J) →
      Keeps K J rest M → Keeps K I (act >> rest) M
  keeps_past {A} I J M act rest h g = keeps_then I (Only J) M act (onward (λ _. rest)) h on
    where
      on : (flow : Outcome A) → Keeps K (Only J flow) (onward (λ _. rest) flow) M
      on (On x) = g
      on (Out way) = record { at = λ s i. absurd i }

  -- what leaves the world as it should be, whatever it answers
  abbrev pub Stays : {A : Type 0} → (World → Type 0) → (State → Res State A) → Type 0
  Stays I act = Keeps K I act (λ x. I)

  module _ (I : World → Type 0) (within : (world : World) → I world → K world) where
    pub stays_got : {A : Type 0} (x : A) → Stays I (λ (s : State). Got x s)
    stays_got x = record { at = λ s i. i }

    pub stays_end : {A : Type 0} (status : ℕ) → Stays I (end {A = A} status)
    stays_end status = record { at = λ s i. within s.world i }

    pub stays_then : {A B : Type 0} (act : State → Res State A) (go : A → State → Res State B) → Stays I act → ((x : A) → Stays I (go x)) →
        Stays I (λ s. then_do (act s) go)
    stays_then act go h g = keeps_then I (λ x. I) (λ x. I) act go h g

    on_flow : {A B : Type 0} (rest : A → Does B) → ((x : A) → Stays I (rest x)) → (flow : Outcome A) → Stays I (onward rest flow)
    on_flow rest h (On x) = h x
    on_flow rest h (Out way) = stays_got (Out way)

    pub stays_seq : {A B : Type 0} (act : Does A) (rest : A → Does B) → Stays I act → ((x : A) → Stays I (rest x)) → Stays I (act >>= rest)
    stays_seq act rest h g = stays_then act (onward rest) h (on_flow rest g)

    pub stays_costs : {A : Type 0} (n : ℕ) (act : State → Res State A) → Stays I act → Stays I (λ s. act (worked n s))
    stays_costs n act h = keeps_costs I (λ x. I) n act h

    pub stays_says : (es : List Event) → Stays I (say es)
    stays_says es = record { at = λ s i. i }

    pub stays_looks : {A : Type 0} (act : World → Does A) → ((world : World) → Stays I (act world)) → Stays I (looks act)
    stays_looks act h = record { at = λ s i. (h s.world).at s i }

    pub stays_wrong : {A : Type 0} → Stays I (wrong {A = A})
    stays_wrong = record { at = λ s i. within s.world i }

    pub stays_change : (f : World → World) → ((world : World) → I world → I (f world)) → Stays I (change f)
    stays_change f h = record { at = λ s i. h s.world i }

    pub stays_takes : {A : Type 0} (class : ℕ) (contents : Contents) (rest : World → Does A) (fails : Does A) →
        ((world : World) → has_room world.heap class ≡ true → I world → I (with_block class contents world)) →
        ((world : World) → Stays I (rest world)) → Stays I fails → Stays I (taking class contents rest fails)
    stays_takes {A} class contents rest fails took h f = record {
      at = λ s i. either (has_room s.world.heap class) (rest s.world) s (took s.world) (h s.world) i;
    }
      where
        either : (b : Bool) (act : Does A) (s : State) → (b ≡ true → I s.world → I (with_block class contents s.world)) → Stays I act → I s.world →
            Meets K K (λ x. I) (branch b (change (with_block class contents) >> act) fails s)
        either true act s took h i = h.at (record s { world = with_block class contents s.world }) (took refl i)
        either false act s took h i = f.at s i

    pub stays_passing : {A : Type 0} (point : Point) (act : Does A) → Stays I act → Stays I (passing point act)
    stays_passing point act h = record { at = λ s i. h.at (with_trail (point ∷ s.trail) s) i }

    back_kept : {A : Type 0} (trail : List Point) (r : Res State A) → Meets K K (λ x. I) r →
        Meets K K (λ x. I) (then_do r (λ flow d. Got flow (with_trail trail d)))
    back_kept trail (Got x s) h = h
    back_kept trail (Over status live s) h = h
    back_kept trail (Going s) h = h
    back_kept trail (Errs s) h = h

    pub stays_elsewhere : {A : Type 0} (act : Does A) → Stays I act → Stays I (elsewhere act)
    stays_elsewhere act h = record { at = λ s i. back_kept s.trail (act (with_trail [] s)) (h.at (with_trail [] s) i) }

    spend_stays : {A : Type 0} (act : Does A) → Stays I act → (u : ℕ) (s : State) → I s.world → Meets K K (λ x. I) (spend u s (λ n. act (left_with n s)))
    spend_stays act h zero s i = within s.world i
    spend_stays act h (suc u) s i = h.at (left_with u s) i

    pub stays_spending : {A : Type 0} (act : Does A) → Stays I act → Stays I (spending act)
    stays_spending act h = record { at = λ s i. spend_stays act h s.meter.units s i }

    -- ---- loops

    module _ {X Y : Type 0} (turn : X → State → Res State (Turn X Y)) (each : (x : X) → Stays I (turn x)) where
      next_stays : (n : ℕ) → ((x : X) → Stays I (turns n turn x)) → (t : Turn X Y) → Stays I (next_turn (turns n turn) t)
      next_stays n h (Again x) = h x
      next_stays n h (Leave y) = stays_got y

      turns_stay : (n : ℕ) (x : X) → Stays I (turns n turn x)
      turns_stay zero x = record { at = λ s i. within s.world i }
      turns_stay (suc n) x = stays_then (turn x) (next_turn (turns n turn)) (each x) (next_stays n (turns_stay n))

    turn_of_stays : {X Y : Type 0} (flow : Outcome (Turn X Y)) → Stays I (turn_of flow)
    turn_of_stays (On (Again x)) = stays_got (Again x)
    turn_of_stays (On (Leave y)) = stays_got (Leave (On y))
    turn_of_stays (Out way) = stays_got (Leave (Out way))

    pub stays_loop : {X Y : Type 0} (turn : X → Does (Turn X Y)) → ((x : X) → Stays I (turn x)) → (x : X) → Stays I (loop turn x)
    stays_loop turn h x =
        record {
          at = λ s i.
              (turns_stay (λ x s. then_do (turn x s) turn_of) (λ x. stays_then (turn x) turn_of (h x) turn_of_stays) (suc s.meter.units) x).at s i;
        }

    next_leaves : {X : Type 0} (x : X) (flow : Outcome (Unit {0})) → Stays I (next x flow)
    next_leaves x (On done) = stays_got (On (Again x))
    next_leaves x (Out (Continued by)) = stays_got (On (Again x))
    next_leaves x (Out (Broke by)) = stays_got (On (Leave tt))
    next_leaves x (Out (Returned by)) = stays_got (Out (Returned by))
    next_leaves x (Out (Raised exception by)) = stays_got (Out (Raised exception by))

    pub stays_again : {X : Type 0} (body : Does (Unit {0})) (x : X) → Stays I body → Stays I (again body x)
    stays_again body x h = stays_spending (costs 1 (at_exit body (next x))) (stays_costs 1 (at_exit body (next x)) (stays_then body (next x) h (next_leaves x)))
