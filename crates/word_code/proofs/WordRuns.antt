-- How lines of word code run, one at a time and one after another.
use Rattle.std.proofs.Common.{◌≡◌, ℕ, suc, ◌+◌, ◌%◌, ◌^◌, ◌<◌, List, [], ◌∷◌, ◌++◌, Option, Some, Ok, Bool, true, false, refl}
use Rattle.std.proofs.Common.{ap, ap₂, ◌∙◌, arith, append_assoc, add_assoc}
use Rattle.std.specs.Prelude.{if◌then◌else◌}
use Rattle.arc_base.specs.declared.outside.Stream.{Stream}
use Rattle.arc_base.specs.Event.{writes}
use Rattle.arc_base.specs.Behaviour.{Live, Ended}
use Rattle.arc_base.specs.Stepping.{Next, Goes, Ends, next_map, seen, after, run}
use Rattle.arc_base.specs.Simulation.{Steps, Stops}
use Rattle.arc_base.proofs.ForCallers.{steps_one, steps_none, steps_on, stops_one}
use Rattle.rv32_isa.specs.declared.micro_op.Size.{Size}
use Rattle.rv32_isa.specs.Machine.{Lives}
use Rattle.word_code.specs.declared.word.WordOperation.{WordOperation}
use Rattle.word_code.specs.declared.word.Test.{Test}
use Rattle.word_code.specs.declared.word.WordInstr.{WordInstr}
use Rattle.word_code.specs.declared.word.WordInstr.TheVariants.{Label, SpendIf, Constant, Copy, Compute, Sum, Place, Datum, Load, Store, Jump}
use Rattle.word_code.specs.declared.word.WordInstr.TheVariants.{Branch}
use Rattle.word_code.specs.declared.word.WordInstr.TheVariants.{Argument, Write}
use Rattle.word_code.specs.declared.word.WordProc.{WordProc}
use Rattle.word_code.specs.Memory.{Memory, number_at, may_put, with_number, bytes_at, own_data_at}
use Rattle.word_code.specs.Words.{computed, holds, Vars, put, WordScene, WordDid, Passes, Spends, Leaps, Fails, using, sets, loads, does, WordFrame}
use Rattle.word_code.specs.Words.{WordState}
use Rattle.word_code.specs.Words.{scene_of, onward, jumped, from_label, shows, settled, spent, step}

-- ---- runs

-- it ends behind some steps
stops_behind : {E S : Type 0} (machine : S → Next E S) (l p q status : ℕ) (s t : S) (es fs : List E) (left : Live) → Steps machine l s es p t
    → Stops machine t fs q status left → Stops machine s (es ++ fs) (p + q) status left
stops_behind machine l p q status s t es fs left x y = record {
  work = x.work + y.work;
  within = omega (arith, x.within, y.within);
  by = let a = x.by y.by.0 in (
    a.0,
    λ out done. a.2 out done ∙ y.by.1 (out ++ es) (done + x.work)
        ∙ ap (λ o. seen o (Ended status left) (done + x.work + y.work)) (append_assoc out es fs)
        ∙ ap (seen (out ++ (es ++ fs)) (Ended status left)) (add_assoc done x.work y.work),
  );
}

-- A machine that is given something at each step, and what is so whatever it is given.
module _ {E S X : Type 0} (machine : X → S → Next E S) where
  abbrev pub given : (ℕ → X) → ℕ × S → Next E (ℕ × S)
  given gifts x = next_map (λ s. (suc x.0, s)) (machine (gifts x.0) x.1)

  -- it goes from one state to another
  pub record AlwaysSteps (least : ℕ) (s : S) (es : List E) (most : ℕ) (t : S) : Type 0 where
    pub by : (gifts : ℕ → X) (k : ℕ) → (m : ℕ) × Steps (given gifts) least (k, s) es most (m, t)

  -- it ends
  abbrev pub AlwaysStops : (s : S) → List E → (most status : ℕ) → Live → Type 0
  AlwaysStops s es most status live = (gifts : ℕ → X) (k : ℕ) → Stops (given gifts) (k, s) es most status live

  pub one : {s t : S} {es : List E} {w : ℕ} → ((x : X) → machine x s ≡ Goes es w t) → AlwaysSteps 1 s es w t
  one {s} {t} {es} {w} h = record {
    by = λ gifts k. (suc k, steps_one (given gifts) (k, s) (suc k, t) es w w (ap (next_map (λ u. (suc k, u))) (h (gifts k))) (omega arith));
  }

  pub none : (s : S) → AlwaysSteps 0 s [] 0 s
  none s = record { by = λ gifts k. (k, steps_none (given gifts) (k, s) 0) }

  pub on : {s t u : S} {es fs : List E} {l m p q : ℕ} → AlwaysSteps l s es p t → AlwaysSteps m t fs q u → AlwaysSteps (l + m) s (es ++ fs) (p + q) u
  on {s} {t} {u} {es} {fs} {l} {m} {p} {q} x y = record {
    by = λ gifts k.
        let a = x.by gifts k in
        let b = y.by gifts a.0 in
        (b.0, steps_on (given gifts) l m p q (k, s) (a.0, t) (b.0, u) es fs a.1 b.1);
  }

  -- one step that ends
  pub ends_one : (s : S) (es : List E) (w status : ℕ) (left : Live) → ((x : X) → machine x s ≡ Ends es w status left) → AlwaysStops s es w status left
  ends_one s es w status left h = λ gifts k. stops_one (given gifts) (k, s) es w w status left (ap (next_map (λ u. (suc k, u))) (h (gifts k))) (omega arith)

  pub stops_on : (l p q status : ℕ) (s t : S) (es fs : List E) (left : Live) → AlwaysSteps l s es p t → AlwaysStops t fs q status left
      → AlwaysStops s (es ++ fs) (p + q) status left
  stops_on l p q status s t es fs left x y = λ gifts k.
      let a = x.by gifts k in stops_behind (given gifts) l p q status (k, s) (a.0, t) es fs left a.1 (y gifts a.0)

-- ---- words

-- a word that a variable got
pub got : (n : ℕ) → n < 2 ^ 32 → Some (n % 2 ^ 32) ≡ Some n
got n h = let e : n % 2 ^ 32 ≡ n = omega arith in ap Some e

pub got_sum : (a b : ℕ) → a + b < 2 ^ 32 → Some ((a + b) % 2 ^ 32 % 2 ^ 32) ≡ Some (a + b)
got_sum a b h = let e : (a + b) % 2 ^ 32 % 2 ^ 32 ≡ a + b = omega arith in ap Some e

-- silent runs of so many lines
module _ (live : Lives) (procs : List WordProc) where
  abbrev pub Runs : ℕ → WordState → WordState → Type 0
  Runs n s t = AlwaysSteps (step live procs) n s [] n t

  pub then_runs : {s t u : WordState} {l m : ℕ} → Runs l s t → Runs m t u → Runs (l + m) s u
  then_runs x y = on (step live procs) x y

-- ---- lines of one call

-- what a call has that its lines don't change
pub record Within : Type 0 where
  pub units : Option ℕ
  pub input : List ℕ
  pub proc : WordProc
  pub base : ℕ
  pub awaits : ℕ
  pub callers : List WordFrame

abbrev pub at : Within → Memory → List WordInstr → Vars → Vars → WordState
at c m lines vars given = record {
  units = c.units;
  memory = m;
  input = c.input;
  frame = record { proc = c.proc; left = lines; vars = vars; given = given; base = c.base; awaits = c.awaits };
  callers = c.callers;
}

module _ (live : Lives) (procs : List WordProc) (c : Within) (m : Memory) (k : List WordInstr) (v g : Vars) where
  pub run_label : (name : ℕ) → Runs live procs 1 (at c m (Label name ∷ k) v g) (at c m k v g)
  run_label name = one (step live procs) (λ bytes. refl)

  -- a unit that may be spent
  pub spends_if : {a b : ℕ} (test : Test) (left right : ℕ) → v left ≡ Some a → v right ≡ Some b → (x : Bool) → holds test a b ≡ x
      → does (scene_of (at c m (SpendIf test left right ∷ k) v g)) (SpendIf test left right)
      ≡ (if x then Spends (scene_of (at c m (SpendIf test left right ∷ k) v g)) else Passes [] (scene_of (at c m (SpendIf test left right ∷ k) v g)))
  spends_if {a} {b} test left right e f x h =
      let s : WordScene = scene_of (at c m (SpendIf test left right ∷ k) v g) in
      ap₂ (λ o p. using o (λ a. using p (λ b. if holds test a b then Spends s else Passes [] s))) e f
      ∙ ap (λ y. if y then Spends s else Passes [] s) h

  pub run_unspent : {a b : ℕ} (test : Test) (left right : ℕ) → v left ≡ Some a → v right ≡ Some b → holds test a b ≡ false
      → Runs live procs 1 (at c m (SpendIf test left right ∷ k) v g) (at c m k v g)
  run_unspent test left right e f h =
      let s : WordState = at c m (SpendIf test left right ∷ k) v g in
      one (step live procs) (λ bytes. ap (settled live procs bytes s k) (spends_if test left right e f false h))

  pub run_constant : (to n : ℕ) → Runs live procs 1 (at c m (Constant to n ∷ k) v g) (at c m k (put v to n) g)
  run_constant to n = one (step live procs) (λ bytes. refl)

  pub run_place : (to n : ℕ) → Runs live procs 1 (at c m (Place to n ∷ k) v g) (at c m k (put v to (c.base + n)) g)
  run_place to n = one (step live procs) (λ bytes. refl)

  pub run_datum : (to n : ℕ) → Runs live procs 1 (at c m (Datum to n ∷ k) v g) (at c m k (put v to (own_data_at + c.proc.data_from + n)) g)
  run_datum to n = one (step live procs) (λ bytes. refl)

  -- a line that passes
  passes : (line : WordInstr) (x : WordScene) → does (scene_of (at c m (line ∷ k) v g)) line ≡ Passes [] x
      → Runs live procs 1 (at c m (line ∷ k) v g) (onward (at c m (line ∷ k) v g) k x)
  passes line x e = one (step live procs) (λ bytes. ap (settled live procs bytes (at c m (line ∷ k) v g) k) e)

  pub run_copy : {a : ℕ} (to from : ℕ) → v from ≡ Some a → Runs live procs 1 (at c m (Copy to from ∷ k) v g) (at c m k (put v to a) g)
  run_copy {a} to from e = passes (Copy to from) _ (ap (λ o. using o (λ a. sets (scene_of (at c m (Copy to from ∷ k) v g)) to a)) e)

  pub run_sum : {a : ℕ} (to from n : ℕ) → v from ≡ Some a → Runs live procs 1 (at c m (Sum to from n ∷ k) v g) (at c m k (put v to (a + n)) g)
  run_sum {a} to from n e = passes (Sum to from n) _ (ap (λ o. using o (λ a. sets (scene_of (at c m (Sum to from n ∷ k) v g)) to (a + n))) e)

  pub run_compute : {a b : ℕ} (to : ℕ) (operation : WordOperation) (left right : ℕ) → v left ≡ Some a → v right ≡ Some b
      → Runs live procs 1 (at c m (Compute to operation left right ∷ k) v g) (at c m k (put v to (computed operation a b)) g)
  run_compute {a} {b} to operation left right e f = passes (Compute to operation left right) _
      (ap₂ (λ o p. using o (λ a. using p (λ b. sets (scene_of (at c m (Compute to operation left right ∷ k) v g)) to (computed operation a b)))) e f)

  pub run_load : {a n : ℕ} (to address : ℕ) (size : Size) → v address ≡ Some a → number_at m a size ≡ Ok n
      → Runs live procs 1 (at c m (Load to address size ∷ k) v g) (at c m k (put v to n) g)
  run_load {a} {n} to address size e f = passes (Load to address size) _
      (ap (λ o. using o (λ a. loads (scene_of (at c m (Load to address size ∷ k) v g)) to (number_at m a size))) e
      ∙ ap (loads (scene_of (at c m (Load to address size ∷ k) v g)) to) f)

  pub run_store : {a b : ℕ} (address from : ℕ) (size : Size) → v address ≡ Some a → v from ≡ Some b → may_put m a size ≡ true
      → Runs live procs 1 (at c m (Store address from size ∷ k) v g) (at c (with_number m a size b) k v g)
  run_store {a} {b} address from size e f may = passes (Store address from size) _
      (ap₂ (λ o p. using o (λ a. using p (λ b. stored a b (may_put m a size)))) e f ∙ ap (stored a b) may)
    where
      stored : ℕ → ℕ → Bool → WordDid
      stored a b fits = if fits then Passes [] (record (scene_of (at c m (Store address from size ∷ k) v g)) { memory = with_number m a size b }) else Fails

  pub run_argument : {a : ℕ} (index from : ℕ) → v from ≡ Some a
      → Runs live procs 1 (at c m (Argument index from ∷ k) v g) (at c m k v (put g index a))
  run_argument {a} index from e = passes (Argument index from) _
      (ap (λ o. using o (λ a. Passes [] (record (scene_of (at c m (Argument index from ∷ k) v g)) { given = put g index a }))) e)

  -- a branch that isn't taken, and one that is
  branched : {a b : ℕ} (test : Test) (left right to : ℕ) → v left ≡ Some a → v right ≡ Some b → (x : Bool) → holds test a b ≡ x
      → does (scene_of (at c m (Branch test left right to ∷ k) v g)) (Branch test left right to)
      ≡ (if x then Leaps to (scene_of (at c m (Branch test left right to ∷ k) v g)) else Passes []
      (scene_of (at c m (Branch test left right to ∷ k) v g)))
  branched {a} {b} test left right to e f x h =
      let s : WordScene = scene_of (at c m (Branch test left right to ∷ k) v g) in
      ap₂ (λ o p. using o (λ a. using p (λ b. if holds test a b then Leaps to s else Passes [] s))) e f
      ∙ ap (λ y. if y then Leaps to s else Passes [] s) h

  pub run_past : {a b : ℕ} (test : Test) (left right to : ℕ) → v left ≡ Some a → v right ≡ Some b → holds test a b ≡ false
      → Runs live procs 1 (at c m (Branch test left right to ∷ k) v g) (at c m k v g)
  run_past test left right to e f h = passes (Branch test left right to) _ (branched test left right to e f false h)

  pub run_off : {a b : ℕ} (test : Test) (left right to : ℕ) (there : List WordInstr) → v left ≡ Some a → v right ≡ Some b → holds test a b
      ≡ true
      → from_label to c.proc.lines ≡ Some there → Runs live procs 1 (at c m (Branch test left right to ∷ k) v g) (at c m there v g)
  run_off test left right to there e f h stands =
      let s : WordState = at c m (Branch test left right to ∷ k) v g in
      one (step live procs) (λ bytes. ap (settled live procs bytes s k) (branched test left right to e f true h) ∙ ap (jumped s (scene_of s)) stands)

  pub run_jump : (to : ℕ) (there : List WordInstr) → from_label to c.proc.lines ≡ Some there
      → Runs live procs 1 (at c m (Jump to ∷ k) v g) (at c m there v g)
  run_jump to there stands =
      let s : WordState = at c m (Jump to ∷ k) v g in
      one (step live procs) (λ bytes. ap (jumped s (scene_of s)) stands)

  pub run_write : {a n : ℕ} (stream : Stream) (address len : ℕ) (bytes : List ℕ) → v address ≡ Some a → v len ≡ Some n
      → bytes_at m a n ≡ Some bytes
      → AlwaysSteps (step live procs) 1 (at c m (Write stream address len ∷ k) v g) (writes stream bytes) 1 (at c m k v g)
  run_write {a} {n} stream address len bytes e f here =
      let s : WordState = at c m (Write stream address len ∷ k) v g in
      one (step live procs) (λ fresh. ap₂ (λ o p. settled live procs fresh s k
      (using o (λ b. using p (λ l. shows (scene_of s) stream (bytes_at m b l))))) e f
      ∙ ap (λ o. settled live procs fresh s k (shows (scene_of s) stream o)) here)
