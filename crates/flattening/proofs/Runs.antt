-- Flat code does what a part of the meaning does: the same events and the same end, with each number of units, and with work that the meaning's
-- work pays for: each unit of it pays for 12 of flat code's. What isn't paid for yet is taken from a credit.
use Rattle.std.proofs.Common.{◌≡◌, ℕ, zero, suc, ◌+◌, ◌*◌, ◌<◌, ◌≤◌, Bool, true, false, List, ◌++◌, refl, sym, ap, ap₂, ◌∙◌, subst, arith, add_assoc}
use Rattle.std.specs.Prelude.{Option, Some}
use Rattle.arc_base.specs.Event.{Event}
use Rattle.arc_base.specs.Behaviour.{Live, Seen, Phase, Running, Ended}
use Rattle.arc_base.specs.Stepping.{Next, Goes, Ends, after, seen}
use Rattle.arc_base.specs.BigStep.{Meter, Res, Got, Over, Going, Errs, then_do, charged, spend, Turn, Again, Leave, next_turn, turns}
use Rattle.nim_plan.specs.declared.plan.Plan.{Plan}
use Rattle.nim_program.specs.Program.{Program}
use Rattle.nim_meaning.specs.State.{State}
use Rattle.flat_code.specs.declared.line.Line.{Line}
use Rattle.flat_code.specs.Scene.{Scene, Known, Did}
use Rattle.flat_code.specs.Lines.{does}
use Rattle.flat_code.specs.Running.{Proc, Machine}
use Rattle.flat_code.specs.Running as running
use Rattle.flat_code.specs.Whole.{label_in}
use Rattle.flattening.specs.Flattened.{known_of, code_of}

-- a program and a plan: all that the machine has to know
pub record Fixed : Type 0 where
  pub program : Program
  pub plan : Plan

abbrev pub M : Type 0
M = Machine Line

abbrev pub known : Fixed → Known
known x = known_of x.program

abbrev pub procs : Fixed → List (Proc Line)
procs x = code_of x.program x.plan

abbrev pub did : Fixed → Scene → Line → Did
did x = does (known x) x.plan

abbrev pub step : Fixed → M → Next Event M
step x = running.step label_in (did x) (procs x)

abbrev pub spends_at : Fixed → M → Bool
spends_at x m = running.spends_next label_in (did x) (procs x) m m.now.rest

abbrev pub by_units : Fixed → ℕ → M → (units : ℕ) → List Event → (work : ℕ) → Seen Event
by_units x = running.run_by label_in (did x) (procs x)

-- so many lines, and then so many more
abbrev pub ahead : ℕ → ℕ → ℕ
ahead zero k = k
ahead (suc n) k = suc (ahead n k)

pub ahead_ahead : (n m k : ℕ) → ahead (ahead n m) k ≡ ahead n (ahead m k)
ahead_ahead zero m k = refl
ahead_ahead (suc n) m k = ap (λ i. suc i) (ahead_ahead n m k)

-- ---- from a machine at one meter to a machine at another

-- it comes there, from a credit to another one
pub record Walks (x : Fixed) (p q : ℕ) (m : M) (a : Meter Event) (m' : M) (b : Meter Event) : Type 0 where
  pub lines : ℕ
  pub work : ℕ
  pub paid : work + 12 * a.work + q ≤ 12 * b.work + p
  pub falls : b.units ≤ a.units
  pub by : (k w : ℕ) → by_units x (ahead lines k) m a.units a.out w ≡ by_units x k m' b.units b.out (w + work)

-- however many lines it goes on for, this is seen
pub record Stops (x : Fixed) (p : ℕ) (m : M) (a : Meter Event) (phase : Phase) (b : Meter Event) : Type 0 where
  pub lines : ℕ
  pub work : ℕ
  pub paid : work + 12 * a.work ≤ 12 * b.work + p
  pub by : (k w : ℕ) → by_units x (ahead lines k) m a.units a.out w ≡ seen b.out phase (w + work)

-- beside what a part of the meaning comes to: at an answer the machine is Good
abbrev pub Shows : (x : Fixed) → {A : Type 0} → (A → State → M → Type 0) → (p q : ℕ) → M → Meter Event → Res State A → Type 0
Shows x Good p q m a (Got y b) = (m' : M) × Walks x p q m a m' b.meter × Good y b m'
Shows x Good p q m a (Over status live b) = Stops x p m a (Ended status live) b.meter
Shows x Good p q m a (Going b) = Stops x p m a Running b.meter
Shows x Good p q m a (Errs b) = Unit {0}

pub record Runs (x : Fixed) {A : Type 0} (Good : A → State → M → Type 0) (p q : ℕ) (m : M) (a : Meter Event) (r : Res State A) : Type 0 where
  pub it : Shows x Good p q m a r

plus_none : (w : ℕ) → w ≡ w + 0
plus_none w = omega arith

-- ---- walks and stops

module _ {x : Fixed} where
  pub walks_none : (p : ℕ) (m : M) (a : Meter Event) → Walks x p p m a m a
  walks_none p m a = record { lines = 0; work = 0; paid = omega arith; falls = omega arith; by = λ k w. ap (by_units x k m a.units a.out) (plus_none w) }

  pub walks_on : {p q p' q' : ℕ} {m m1 m2 : M} {a b d : Meter Event} (P Q : ℕ) → p + p' + Q ≤ P + q + q' → Walks x p q m a m1 b →
      Walks x p' q' m1 b m2 d → Walks x P Q m a m2 d
  walks_on {p} {q} {p'} {q'} {m} {m1} {m2} {a} {b} {d} P Q le v w = record {
    lines = ahead v.lines w.lines;
    work = v.work + w.work;
    paid = omega (arith, v.paid, w.paid, le);
    falls = omega (arith, v.falls, w.falls);
    by = λ k n.
        ap (λ i. by_units x i m a.units a.out n) (ahead_ahead v.lines w.lines k)
        ∙ (v.by (ahead w.lines k) n ∙ (w.by k (n + v.work) ∙ ap (by_units x k m2 d.units d.out) (add_assoc n v.work w.work)));
  }

  pub walks_spared : {p q P Q : ℕ} {m m' : M} {a b : Meter Event} → p + Q ≤ P + q → Walks x p q m a m' b → Walks x P Q m a m' b
  walks_spared le w = record { lines = w.lines; work = w.work; paid = omega (arith, w.paid, le); falls = w.falls; by = w.by }

  pub stops_on : {p q p' : ℕ} {m m1 : M} {a b d : Meter Event} {phase : Phase} (P : ℕ) → p + p' ≤ P + q → Walks x p q m a m1 b → Stops x p' m1 b phase d →
      Stops x P m a phase d
  stops_on {p} {q} {p'} {m} {m1} {a} {b} {d} {phase} P le v w = record {
    lines = ahead v.lines w.lines;
    work = v.work + w.work;
    paid = omega (arith, v.paid, w.paid, le);
    by = λ k n.
        ap (λ i. by_units x i m a.units a.out n) (ahead_ahead v.lines w.lines k)
        ∙ (v.by (ahead w.lines k) n ∙ (w.by k (n + v.work) ∙ ap (seen d.out phase) (add_assoc n v.work w.work)));
  }

-- ---- lines

module _ (x : Fixed) where
  abbrev left_of : Bool → ℕ → Option ℕ
  left_of spent units = running.unit_left label_in (did x) (procs x) spent units

  abbrev carried_on : ℕ → M → (out : List Event) → (w : ℕ) → Option ℕ → Seen Event
  carried_on k m out w left =
      running.with_units label_in (did x) (procs x) left (λ u. after (step x m) (λ next. by_units x k next u) out w) (seen out Running w)

  -- One that spends nothing, or a unit.
  on_line : (m m' : M) (es : List Event) (n : ℕ) (units left : ℕ) (out : List Event) (k w : ℕ) (spent : Bool) → spends_at x m ≡ spent →
      left_of spent units ≡ Some left → step x m ≡ Goes es n m' → by_units x (suc k) m units out w ≡ by_units x k m' left (out ++ es) (w + n)
  on_line m m' es n units left out k w spent is unit goes =
      ap (λ s. carried_on k m out w (left_of s units)) is
      ∙ (ap (carried_on k m out w) unit ∙ ap (λ next. after next (λ next. by_units x k next left) out w) goes)

  -- the one at which a run ends
  on_last : (m : M) (es : List Event) (n status : ℕ) (live : Live) (units left : ℕ) (out : List Event) (k w : ℕ) (spent : Bool) → spends_at x m ≡ spent →
      left_of spent units ≡ Some left → step x m ≡ Ends es n status live → by_units x (suc k) m units out w ≡ seen (out ++ es) (Ended status live) (w + n)
  on_last m es n status live units left out k w spent is unit ends =
      ap (λ s. carried_on k m out w (left_of s units)) is
      ∙ (ap (carried_on k m out w) unit ∙ ap (λ next. after next (λ next. by_units x k next left) out w) ends)

  waits : (k w : ℕ) (m : M) (out : List Event) → spends_at x m ≡ true → by_units x k m 0 out w ≡ seen out Running w
  waits zero w m out spent = refl
  waits (suc k) w m out spent = ap (λ s. carried_on k m out w (left_of s 0)) spent

module _ {x : Fixed} where
  pub line : {p q : ℕ} {m m' : M} {a b : Meter Event} (es : List Event) (n : ℕ) → spends_at x m ≡ false → step x m ≡ Goes es n m' → a.out ++ es ≡ b.out →
      a.units ≡ b.units → n + 12 * a.work + q ≤ 12 * b.work + p → Walks x p q m a m' b
  line {p} {q} {m} {m'} {a} {b} es n none goes out units paid = record {
    lines = 1;
    work = n;
    paid = paid;
    falls = omega (arith, units);
    by = λ k w. on_line x m m' es n a.units a.units a.out k w false none refl goes ∙ ap₂ (λ u o. by_units x k m' u o (w + n)) units out;
  }

  pub line_spending : {p q : ℕ} {m m' : M} {a b : Meter Event} (es : List Event) (n : ℕ) → spends_at x m ≡ true → step x m ≡ Goes es n m' →
      a.out ++ es ≡ b.out → a.units ≡ suc b.units → n + 12 * a.work + q ≤ 12 * b.work + p → Walks x p q m a m' b
  line_spending {p} {q} {m} {m'} {a} {b} es n spent goes out units paid = record {
    lines = 1;
    work = n;
    paid = paid;
    falls = omega (arith, units);
    by = λ k w. on_line x m m' es n a.units b.units a.out k w true spent (ap (left_of x true) units) goes ∙ ap (λ o. by_units x k m' b.units o (w + n)) out;
  }

  pub waits_here : {p : ℕ} {m : M} {a : Meter Event} → spends_at x m ≡ true → a.units ≡ 0 → Stops x p m a Running a
  waits_here {p} {m} {a} spent none = record {
    lines = 0;
    work = 0;
    paid = omega arith;
    by = λ k w. ap (λ u. by_units x k m u a.out w) none ∙ (waits x k w m a.out spent ∙ ap (seen a.out Running) (plus_none w));
  }

  pub line_ends : {p : ℕ} {m : M} {a b : Meter Event} (es : List Event) (n status : ℕ) (live : Live) → spends_at x m ≡ false → step x m
      ≡ Ends es n status live →
      a.out ++ es ≡ b.out → n + 12 * a.work ≤ 12 * b.work + p → Stops x p m a (Ended status live) b
  line_ends {p} {m} {a} {b} es n status live none ends out paid = record {
    lines = 1;
    work = n;
    paid = paid;
    by = λ k w. on_last x m es n status live a.units a.units a.out k w false none refl ends ∙ ap (λ o. seen o (Ended status live) (w + n)) out;
  }

  pub line_ends_spending : {p : ℕ} {m : M} {a b : Meter Event} (es : List Event) (n status : ℕ) (live : Live) → spends_at x m ≡ true →
      step x m ≡ Ends es n status live → a.out ++ es ≡ b.out → a.units ≡ suc b.units → n + 12 * a.work ≤ 12 * b.work + p → Stops x p m a (Ended status live) b
  line_ends_spending {p} {m} {a} {b} es n status live spent ends out units paid = record {
    lines = 1;
    work = n;
    paid = paid;
    by = λ k w.
        on_last x m es n status live a.units b.units a.out k w true spent (ap (left_of x true) units) ends
        ∙ ap (λ o. seen o (Ended status live) (w + n)) out;
  }

-- ---- beside what a part of the meaning comes to

module _ (x : Fixed) {A : Type 0} (Good : A → State → M → Type 0) (p q P : ℕ) where
  spared : (Q : ℕ) (m : M) (a : Meter Event) (r : Res State A) → p ≤ P → p + Q ≤ P + q → Shows x Good p q m a r → Shows x Good P Q m a r
  spared Q m a (Got y b) le more (m', w, g) =
      (m', record { lines = w.lines; work = w.work; paid = omega (arith, w.paid, more); falls = w.falls; by = w.by }, g)
  spared Q m a (Over status live b) le more w = record { lines = w.lines; work = w.work; paid = omega (arith, w.paid, le); by = w.by }
  spared Q m a (Going b) le more w = record { lines = w.lines; work = w.work; paid = omega (arith, w.paid, le); by = w.by }
  spared Q m a (Errs b) le more w = tt

  paid_shown : (n : ℕ) (m : M) (a : Meter Event) (r : Res State A) → p ≤ P + 12 * n → Shows x Good p q m (charged n a) r → Shows x Good P q m a r
  paid_shown n m a (Got y b) le (m', w, g) = (m', record { lines = w.lines; work = w.work; paid = omega (arith, w.paid, le); falls = w.falls; by = w.by }, g)
  paid_shown n m a (Over status live b) le w = record { lines = w.lines; work = w.work; paid = omega (arith, w.paid, le); by = w.by }
  paid_shown n m a (Going b) le w = record { lines = w.lines; work = w.work; paid = omega (arith, w.paid, le); by = w.by }
  paid_shown n m a (Errs b) le w = tt

  shows_after : (p' q' : ℕ) (m m1 : M) (a b : Meter Event) (r : Res State A) → p + p' ≤ P + q → Walks x p q m a m1 b → Shows x Good p' q' m1 b r →
      Shows x Good P q' m a r
  shows_after p' q' m m1 a b (Got y d) le v (m', w, g) = (m', walks_on P q' (omega (arith, le)) v w, g)
  shows_after p' q' m m1 a b (Over status live d) le v w = stops_on P le v w
  shows_after p' q' m m1 a b (Going d) le v w = stops_on P le v w
  shows_after p' q' m m1 a b (Errs d) le v w = tt

module _ {x : Fixed} {A : Type 0} {Good : A → State → M → Type 0} where
  -- what may be paid may be more
  pub spares : {P Q : ℕ} {m : M} {a : Meter Event} {r : Res State A} (p q : ℕ) → p ≤ P → p + Q ≤ P + q → Runs x Good p q m a r → Runs x Good P Q m a r
  spares {P} {Q} {m} {a} {r} p q le more f = record { it = spared x Good p q P Q m a r le more f.it }

  -- the meaning works, and pays
  pub pays : {P q : ℕ} {m : M} {a : Meter Event} {r : Res State A} (p n : ℕ) → p ≤ P + 12 * n → Runs x Good p q m (charged n a) r → Runs x Good P q m a r
  pays {P} {q} {m} {a} {r} p n le f = record { it = paid_shown x Good p q P n m a r le f.it }

  -- the machine comes somewhere first
  pub behind : {P p q p' q' : ℕ} {m m1 : M} {a b : Meter Event} {r : Res State A} → p + p' ≤ P + q → Walks x p q m a m1 b → Runs x Good p' q' m1 b r →
      Runs x Good P q' m a r
  behind {P} {p} {q} {p'} {q'} {m} {m1} {a} {b} {r} le v f = record { it = shows_after x Good p q P p' q' m m1 a b r le v f.it }

  -- an answer, where the machine stands
  pub lands : {p q : ℕ} {m : M} (y : A) (b : State) → q ≤ p → Good y b m → Runs x Good p q m b.meter (Got y b)
  lands {p} {q} {m} y b le g =
      record {
        it = (
          m,
          record {
            lines = 0;
            work = 0;
            paid = omega (arith, le);
            falls = omega arith;
            by = λ k w. ap (by_units x k m b.meter.units b.meter.out) (plus_none w);
          },
          g,
        );
      }

-- nothing is to be shown of a part that is wrong, which it is where something doesn't hold
pub unless_wrong : {x : Fixed} {A : Type 0} {Good : A → State → M → Type 0} {p q : ℕ} {m : M} {a : Meter Event} (b : Bool) (run : Bool → Res State A)
    (s : State) →
    run false ≡ Errs s → (b ≡ true → Runs x Good p q m a (run true)) → Runs x Good p q m a (run b)
unless_wrong true run s wrong f = f refl
unless_wrong {x} {A} {Good} {p} {q} {m} {a} false run s wrong f = subst (λ r. Runs x Good p q m a r) (sym wrong) (record { it = tt })

-- ---- one thing after another, whatever comes of the first

module _ (x : Fixed) {A B : Type 0} (Good : A → State → M → Type 0) (Good' : B → State → M → Type 0) (P p q p' q' : ℕ) (m : M) (a : Meter Event) where
  then_shown : (r : Res State A) (go : A → State → Res State B) → p ≤ P → p + p' ≤ P + q → Shows x Good p q m a r →
      ((y : A) (b : State) (m1 : M) → b.meter.units ≤ a.units → Good y b m1 → Runs x Good' p' q' m1 b.meter (go y b)) →
      Shows x Good' P q' m a (then_do r go)
  then_shown (Got y b) go less le (m1, w, g) next = shows_after x Good' p q P p' q' m m1 a b.meter (go y b) le w (next y b m1 w.falls g).it
  then_shown (Over status live b) go less le w next = record { lines = w.lines; work = w.work; paid = omega (arith, w.paid, less); by = w.by }
  then_shown (Going b) go less le w next = record { lines = w.lines; work = w.work; paid = omega (arith, w.paid, less); by = w.by }
  then_shown (Errs b) go less le w next = tt

module _ {x : Fixed} where
  pub follows_on : {A B : Type 0} {Good : A → State → M → Type 0} {Good' : B → State → M → Type 0} {P p q q' : ℕ} {m : M} {a : Meter Event} {r : Res State A}
      (p' : ℕ) (go : A → State → Res State B) → p ≤ P → p + p' ≤ P + q → Runs x Good p q m a r →
      ((y : A) (b : State) (m1 : M) → b.meter.units ≤ a.units → Good y b m1 → Runs x Good' p' q' m1 b.meter (go y b)) →
      Runs x Good' P q' m a (then_do r go)
  follows_on {A} {B} {Good} {Good'} {P} {p} {q} {q'} {m} {a} {r} p' go less le f next =
      record { it = then_shown x Good Good' P p q p' q' m a r go less le f.it next }

  -- ---- units

  spends_from : {A : Type 0} {Good : A → State → M → Type 0} {P q : ℕ} {m : M} {r : ℕ → Res State A} (s : State) (u : ℕ) → u ≡ s.meter.units →
      spends_at x m ≡ true → ((n : ℕ) → s.meter.units ≡ suc n → Runs x Good P q m s.meter (r n)) → Runs x Good P q m s.meter (spend u s r)
  spends_from s zero e spent next = record { it = waits_here spent (sym e) }
  spends_from s (suc n) e spent next = record { it = (next n (sym e)).it }

  -- at a line that spends a unit, or none is left
  pub spends : {A : Type 0} {Good : A → State → M → Type 0} {P q : ℕ} {m : M} {r : ℕ → Res State A} (s : State) → spends_at x m ≡ true →
      ((n : ℕ) → s.meter.units ≡ suc n → Runs x Good P q m s.meter (r n)) → Runs x Good P q m s.meter (spend s.meter.units s r)
  spends s spent next = spends_from s s.meter.units refl spent next

-- ---- loops

-- behind a turn: with fewer units than there were, or behind the loop
abbrev pub Turned : {X Y : Type 0} → (X → State → M → Type 0) → (Y → State → M → Type 0) → (units : ℕ) → Turn X Y → State → M → Type 0
Turned Inv Good units (Again y) b m = Inv y b m × (b.meter.units < units)
Turned Inv Good units (Leave y) b m = Good y b m

module _ {x : Fixed} {X Y : Type 0} (Inv : X → State → M → Type 0) (Good : Y → State → M → Type 0) (q : ℕ) (turn : X → State → Res State (Turn X Y)) where
  pub follows_turns : ((y : X) (b : State) (m : M) → Inv y b m → Runs x (Turned Inv Good b.meter.units) q q m b.meter (turn y b)) → (n : ℕ) (y : X)
      (b : State) (m : M) →
      b.meter.units < n → Inv y b m → Runs x Good q q m b.meter (turns n turn y b)
  follows_turns h zero y b m less i = absurd (omega (arith, less))
  follows_turns h (suc n) y b m less i =
      follows_on q (next_turn (turns n turn)) (omega arith) (omega arith) (h y b m i)
      (λ t d m1 falls g. next (λ y d m1 less i. follows_turns h n y d m1 less i) t d m1 g)
    where
      next : ((y : X) (d : State) (m1 : M) → d.meter.units < n → Inv y d m1 → Runs x Good q q m1 d.meter (turns n turn y d)) → (t : Turn X Y) (d : State)
          (m1 : M) →
          Turned Inv Good b.meter.units t d m1 → Runs x Good q q m1 d.meter (next_turn (turns n turn) t d)
      next rec (Again y) d m1 g = rec y d m1 (omega (arith, g.1, less)) g.0
      next rec (Leave y) d m1 g = lands y d (omega arith) g
