-- Flat code within one call: where its machine stands, and what each line does there.
use Rattle.std.proofs.Common.{◌≡◌, ℕ, suc, ◌+◌, ◌≤◌, Bool, true, false, List, [], ◌∷◌, Option, Some, refl, sym, ap, ◌∙◌, subst, arith, append-nil}
use Rattle.arc_base.specs.Event.{Event}
use Rattle.arc_base.specs.Stepping.{Goes}
use Rattle.arc_base.specs.BigStep.{Meter, Res, Got, Over, Going, Errs as IsWrong, then_do, spend, with_units, charged}
use Rattle.nim_program.specs.Program.{Declared, Path, node_at}
use Rattle.nim_meaning.specs.State.{World, State, live}
use Rattle.nim_meaning.specs.Acts.{Outcome, On, Out, Does, onward, worked, with_trail, branch}
use Rattle.nim_meaning.specs.Here.{Here}
use Rattle.nim_meaning.specs.Deeds.{Deed, Works, carry, Done, Answers, Finishes, Fails, behind as later_done, perform, give, ◌>>=◌}
use Rattle.nim_meaning.specs.ActTree.{Does as Done_by}
use Rattle.nim_meaning.specs.Ways.{Point}
use Rattle.nim_meaning.specs.Shapes.{has_node}
use Rattle.nim_meaning.specs.Meaning.{calls, at_node, at_path}
use Rattle.flat_code.specs.declared.line.Line.{Line}
use Rattle.flat_code.specs.Scene.{Temps, Scene, Did, Passes, Leaps, Enters, Turns}
use Rattle.flat_code.specs.Running.{Waiting, from_label, jumped}
use Rattle.flat_code.specs.Running as running
use Rattle.flat_code.specs.Whole.{label_in}
use Rattle.flattening.specs.Flattened.{modes_of}
use Rattle.flattening.proofs.Runs.{Fixed, M, did, procs, step, spends_at, Runs, Shows}
use Rattle.flattening.proofs.Runs.{Walks, line, line_spending, line_ends, behind, lands, follows_on, spends, pays}
use Rattle.flattening.proofs.Deeds.{from, performed, answer_map, mapped, behind_none}
use Rattle.flattening.proofs.Worlds.{Since, since_then}
use Rattle.flattening.proofs.Openings.{Answering, SinceDone, since_done}
use Rattle.flattening.proofs.Temps.{Kept, kept_then, kept_wide}

-- What stays as it is while a call runs: all lines of its procedure, its level, how many more calls may be active, who waits, and the place of
-- its result.
pub record Spot : Type 0 where
  pub fixed : Fixed
  pub whole : List Line
  pub level : ℕ
  pub left : ℕ
  pub waiting : List (Waiting Line)
  pub result : Option Declared

abbrev pub here_of : Spot → Here
here_of c = record {
  level = c.level;
  result = c.result;
  calls = calls c.fixed.program c.fixed.plan c.left (suc c.level);
  modes = modes_of c.fixed.program c.fixed.plan;
  facts = c.fixed.program.facts;
  plan = c.fixed.plan;
}

-- these lines are left
abbrev pub there : Spot → List Line → Temps → World → M
there c k temps world = record {
  now = record { whole = c.whole; rest = k; level = c.level; left = c.left; temps = temps };
  waiting = c.waiting;
  world = world;
}

abbrev pub scene : Spot → Temps → World → Scene
scene c temps world = record { world = world; level = c.level; temps = temps }

abbrev pub does_at : Spot → Temps → World → Line → Did
does_at c temps world l = did c.fixed (scene c temps world) l

-- ---- what a part comes to

-- It stands before the lines k, with temporaries of which P says something; those that aren't the part's, and the world, are as before.
pub record At (c : Spot) (k : List Line) (lo hi : ℕ) (temps : Temps) (world : World) (P : Temps → Type 0) (new : World) (m : M) : Type 0 where
  pub now : Temps
  pub is : m ≡ there c k now new
  pub has : P now
  pub kept : Kept lo hi temps now
  pub since : Since c.level world new

-- at an answer; the part isn't left
abbrev pub Lands : {A : Type 0} → Spot → List Line → (lo hi : ℕ) → Temps → World → (A → Temps → Type 0) → Outcome A → State → M → Type 0
Lands c k lo hi temps world P (On v) b m = At c k lo hi temps world (P v) b.world m
Lands c k lo hi temps world P (Out way) b m = ⊥

module _ (x : Fixed) {A : Type 0} (Good Good' : A → State → M → Type 0) (p q : ℕ) (m : M) (a : Meter Event) where
  weakened : (r : Res State A) → ((y : A) (b : State) (m : M) → Good y b m → Good' y b m) → Shows x Good p q m a r → Shows x Good' p q m a r
  weakened (Got y b) h (m1, w, g) = (m1, w, h y b m1 g)
  weakened (Over status live b) h w = w
  weakened (Going b) h w = w
  weakened (IsWrong b) h w = tt

pub do_assoc : {S A B C : Type 0} (r : Res S A) (f : A → S → Res S B) (g : B → S → Res S C) →
    then_do (then_do r f) g ≡ then_do r (λ x s. then_do (f x s) g)
do_assoc (Got x s) f g = refl
do_assoc (Over status live s) f g = refl
do_assoc (Going s) f g = refl
do_assoc (IsWrong s) f g = refl

module _ (c : Spot) where
  pub weaker : {A : Type 0} {Good Good' : A → State → M → Type 0} {p q : ℕ} {m : M} {a : Meter Event} {r : Res State A} →
      Runs c.fixed Good p q m a r → ((y : A) (b : State) (m : M) → Good y b m → Good' y b m) → Runs c.fixed Good' p q m a r
  weaker {A} {Good} {Good'} {p} {q} {m} {a} {r} f h = record { it = weakened c.fixed Good Good' p q m a r h f.it }

module _ {c : Spot} where
  -- what comes first isn't left, and then whatever follows, with no more units
  pub past_falling : {A B : Type 0} {k : List Line} {lo hi : ℕ} {temps : Temps} {world : World} {P : A → Temps → Type 0} {Good : B → State → M → Type 0}
      {have p q q' : ℕ} {m : M} {a : Meter Event} {r : Res State (Outcome A)} (go : Outcome A → State → Res State B) (p' : ℕ) → p ≤ have → p + p' ≤ have + q →
      Runs c.fixed (Lands c k lo hi temps world P) p q m a r →
      ((v : A) (b : State) (now : Temps) → b.meter.units ≤ a.units → P v now → Kept lo hi temps now → Since c.level world b.world →
      Runs c.fixed Good p' q' (there c k now b.world) b.meter (go (On v) b)) → Runs c.fixed Good have q' m a (then_do r go)
  past_falling {A} {B} {k} {lo} {hi} {temps} {world} {P} {Good} {have} {p} {q} {q'} {m} {a} {r} go p' less le f next =
      follows_on p' go less le f (λ flow b m1 falls h. on flow b m1 falls h)
    where
      on : (flow : Outcome A) (b : State) (m1 : M) → b.meter.units ≤ a.units → Lands c k lo hi temps world P flow b m1 →
          Runs c.fixed Good p' q' m1 b.meter (go flow b)
      on (On v) b m1 falls h = subst (λ m. Runs c.fixed Good p' q' m b.meter (go (On v) b)) (sym h.is) (next v b h.now falls h.has h.kept h.since)
      on (Out way) b m1 falls h = absurd h

  pub past : {A B : Type 0} {k : List Line} {lo hi : ℕ} {temps : Temps} {world : World} {P : A → Temps → Type 0} {Good : B → State → M → Type 0}
      {have p q q' : ℕ} {m : M} {a : Meter Event} {r : Res State (Outcome A)} (go : Outcome A → State → Res State B) (p' : ℕ) → p ≤ have → p + p' ≤ have + q →
      Runs c.fixed (Lands c k lo hi temps world P) p q m a r →
      ((v : A) (b : State) (now : Temps) → P v now → Kept lo hi temps now → Since c.level world b.world →
      Runs c.fixed Good p' q' (there c k now b.world) b.meter (go (On v) b)) → Runs c.fixed Good have q' m a (then_do r go)
  past go p' less le f next = past_falling go p' less le f (λ v b now falls has kept since. next v b now has kept since)

  -- and then the rest
  pub after : {A B : Type 0} {k : List Line} {lo hi : ℕ} {temps : Temps} {world : World} {P : A → Temps → Type 0} {Good : Outcome B → State → M → Type 0}
      {have p q q' : ℕ} {m : M} {a : Meter Event} {r : Res State (Outcome A)} {go : A → Does B} (p' : ℕ) → p ≤ have → p + p' ≤ have + q →
      Runs c.fixed (Lands c k lo hi temps world P) p q m a r →
      ((v : A) (b : State) (now : Temps) → P v now → Kept lo hi temps now → Since c.level world b.world →
      Runs c.fixed Good p' q' (there c k now b.world) b.meter (go v b)) → Runs c.fixed Good have q' m a (then_do r (onward go))
  after {go = go} p' less le f next = past (onward go) p' less le f next

  -- and then something, and the rest behind that
  pub both_falling : {A B C : Type 0} {k : List Line} {lo hi : ℕ} {temps : Temps} {world : World} {P : A → Temps → Type 0} {Good : C → State → M → Type 0}
      {have p q q' : ℕ} {m : M} {a : Meter Event} {r : Res State (Outcome A)} (go : A → Does B) (more : Outcome B → State → Res State C) (p' : ℕ) → p ≤ have →
      p + p' ≤ have + q → Runs c.fixed (Lands c k lo hi temps world P) p q m a r →
      ((v : A) (b : State) (now : Temps) → b.meter.units ≤ a.units → P v now → Kept lo hi temps now → Since c.level world b.world →
      Runs c.fixed Good p' q' (there c k now b.world) b.meter (then_do (go v b) more)) → Runs c.fixed Good have q' m a (then_do (then_do r (onward go)) more)
  both_falling {A} {B} {C} {k} {lo} {hi} {temps} {world} {P} {Good} {have} {p} {q} {q'} {m} {a} {r} go more p' less le f next =
      subst (λ r. Runs c.fixed Good have q' m a r) (sym (do_assoc r (onward go) more))
      (past_falling (λ flow s. then_do (onward go flow s) more) p' less le f next)

  pub after_both : {A B C : Type 0} {k : List Line} {lo hi : ℕ} {temps : Temps} {world : World} {P : A → Temps → Type 0} {Good : C → State → M → Type 0}
      {have p q q' : ℕ} {m : M} {a : Meter Event} {r : Res State (Outcome A)} (go : A → Does B) (more : Outcome B → State → Res State C) (p' : ℕ) → p ≤ have →
      p + p' ≤ have + q → Runs c.fixed (Lands c k lo hi temps world P) p q m a r →
      ((v : A) (b : State) (now : Temps) → P v now → Kept lo hi temps now → Since c.level world b.world →
      Runs c.fixed Good p' q' (there c k now b.world) b.meter (then_do (go v b) more)) → Runs c.fixed Good have q' m a (then_do (then_do r (onward go)) more)
  after_both go more p' less le f next = both_falling go more p' less le f (λ v b now falls has kept since. next v b now has kept since)

  -- an answer, where the machine stands
  pub answers : {A : Type 0} {k : List Line} {lo hi : ℕ} {temps : Temps} {world : World} {P : A → Temps → Type 0} {p q : ℕ} (v : A) (b : State)
      (now : Temps) →
      q ≤ p → P v now → Kept lo hi temps now → Since c.level world b.world →
      Runs c.fixed (Lands c k lo hi temps world P) p q (there c k now b.world) b.meter (Got (On v) b)
  answers v b now le has kept since = lands (On v) b le (record { now = now; is = refl; has = has; kept = kept; since = since })

  -- the same answer, with the machine brought on
  pub brings : {A : Type 0} {k k' : List Line} {lo hi lo' hi' : ℕ} {temps temps' : Temps} {world world' : World} {P P' : A → Temps →
      Type 0} {have p q q' : ℕ} {m : M}
      {a : Meter Event} {r : Res State (Outcome A)} (p' : ℕ) → p ≤ have → p + p' ≤ have + q → Runs c.fixed (Lands c k lo hi temps world P) p q m a r →
      ((v : A) (b : State) (now : Temps) → P v now → Kept lo hi temps now → Since c.level world b.world →
      Runs c.fixed (Lands c k' lo' hi' temps' world' P') p' q' (there c k now b.world) b.meter (Got (On v) b)) →
      Runs c.fixed (Lands c k' lo' hi' temps' world' P') have q' m a r
  brings {A} {k} {k'} {lo} {hi} {lo'} {hi'} {temps} {temps'} {world} {world'} {P} {P'} {have} {p} {q} {q'} {m} {a} {r} p' less le f next =
      subst (λ r. Runs c.fixed (Lands c k' lo' hi' temps' world' P') have q' m a r) (as_it_was r) (after {go = λ v s. Got (On v) s} p' less le f next)
    where
      as_it_was : (r : Res State (Outcome A)) → then_do r (onward (λ v s. Got (On v) s)) ≡ r
      as_it_was (Got (On v) s) = refl
      as_it_was (Got (Out way) s) = refl
      as_it_was (Over status live s) = refl
      as_it_was (Going s) = refl
      as_it_was (IsWrong s) = refl

  -- seen from further out, and from before
  pub further : {A : Type 0} {k : List Line} {lo hi lo' hi' : ℕ} {temps now : Temps} {world mid : World} {P P' : A → Temps → Type 0} {p q : ℕ} {m : M}
      {a : Meter Event} {r : Res State (Outcome A)} → lo ≤ lo' → hi' ≤ hi → Kept lo hi temps now → Since c.level world mid →
      ((v : A) (last : Temps) → P' v last → Kept lo' hi' now last → P v last) → Runs c.fixed (Lands c k lo' hi' now mid P') p q m a r →
      Runs c.fixed (Lands c k lo hi temps world P) p q m a r
  further {A} {k} {lo} {hi} {lo'} {hi'} {temps} {now} {world} {mid} {P} {P'} {p} {q} {m} {a} {r} low high kept since h f = weaker c f on
    where
      on : (flow : Outcome A) (b : State) (m : M) → Lands c k lo' hi' now mid P' flow b m → Lands c k lo hi temps world P flow b m
      on (On v) b m g = record {
        now = g.now;
        is = g.is;
        has = h v g.now g.has g.kept;
        kept = kept_then kept (kept_wide low high g.kept);
        since = since_then since g.since;
      }
      on (Out way) b m g = absurd g

-- ---- lines

module _ (c : Spot) where
  pub stepped : (l : Line) (k : List Line) (temps : Temps) (world : World) (d : Did) → does_at c temps world l ≡ d →
      step c.fixed (there c (l ∷ k) temps world) ≡ running.settled label_in (did c.fixed) (procs c.fixed) (there c (l ∷ k) temps world) k d
  stepped l k temps world d e = ap (running.settled label_in (did c.fixed) (procs c.fixed) (there c (l ∷ k) temps world) k) e

  pub spent : (l : Line) (k : List Line) (temps : Temps) (world : World) (d : Did) → does_at c temps world l ≡ d →
      spends_at c.fixed (there c (l ∷ k) temps world) ≡ running.spends label_in (did c.fixed) (procs c.fixed) d
  spent l k temps world d e = ap (running.spends label_in (did c.fixed) (procs c.fixed)) e

  -- one that passes
  pub walks_line : {l : Line} {k : List Line} {temps temps' : Temps} {world world' : World} (n : ℕ) (a : Meter Event) →
      does_at c temps world l ≡ Passes (Answers [] n temps' world') → Walks c.fixed n 0 (there c (l ∷ k) temps world) a (there c k temps' world') a
  walks_line {l} {k} {temps} {temps'} {world} {world'} n a is =
      line [] n (spent l k temps world _ is) (stepped l k temps world _ is) (append-nil a.out) refl (omega arith)

  -- one that goes on at a label behind
  pub walks_leap : {l : Line} {k k' : List Line} {temps : Temps} {world : World} (name n : ℕ) (a : Meter Event) → does_at c temps world l ≡ Leaps name n →
      from_label label_in name k ≡ Some k' → Walks c.fixed n 0 (there c (l ∷ k) temps world) a (there c k' temps world) a
  walks_leap {l} {k} {k'} {temps} {world} name n a is found =
      line [] n (spent l k temps world _ is) (stepped l k temps world _ is ∙ ap (jumped (there c (l ∷ k) temps world) temps n) found) (append-nil a.out) refl
      (omega arith)

  -- with work alone that the meaning knows
  pub goes : {A : Type 0} {Good : A → State → M → Type 0} {l : Line} {k : List Line} {temps temps' : Temps} {world world' : World} {have q : ℕ}
      {a : Meter Event} {r : Res State A} (p n : ℕ) → n + p ≤ have → does_at c temps world l ≡ Passes (Answers [] n temps' world') →
      Runs c.fixed Good p q (there c k temps' world') a r → Runs c.fixed Good have q (there c (l ∷ k) temps world) a r
  goes {a = a} p n le is f = behind (omega (arith, le)) (walks_line n a is) f

  pub leaps : {A : Type 0} {Good : A → State → M → Type 0} {l : Line} {k k' : List Line} {temps : Temps} {world : World} {have q : ℕ}
      {a : Meter Event} {r : Res State A} (p name n : ℕ) → n + p ≤ have → does_at c temps world l ≡ Leaps name n → from_label label_in name k ≡ Some k' →
      Runs c.fixed Good p q (there c k' temps world) a r → Runs c.fixed Good have q (there c (l ∷ k) temps world) a r
  leaps {a = a} p name n le is found f = behind (omega (arith, le)) (walks_leap name n a is found) f

  -- ---- turns, each of which spends a unit, and pays for what was done before

  turned : {A : Type 0} {Good : A → State → M → Type 0} {have p q : ℕ} {m m' : M} {r : Res State A} (s : State) (n : ℕ) → s.meter.units ≡ suc n →
      spends_at c.fixed m ≡ true → step c.fixed m ≡ Goes [] 1 m' → 1 + p ≤ have + 12 → Runs c.fixed Good p q m' (charged 1 (with_units n s.meter)) r →
      Runs c.fixed Good have q m s.meter r
  turned {A} {Good} {have} {p} {q} {m} {m'} {r} s n is spent goes le f =
      let w : Walks c.fixed 1 12 m s.meter m' (charged 1 (with_units n s.meter)) =
      line_spending [] 1 spent goes (append-nil s.meter.out) is (omega arith) in
      behind (omega (arith, le)) w f

  pub enters : {A : Type 0} {Good : A → State → M → Type 0} {l : Line} {k : List Line} {temps : Temps} {have q : ℕ} {r : ℕ → Res State A} (p : ℕ)
      (s : State) →
      1 + p ≤ have + 12 → does_at c temps s.world l ≡ Enters →
      ((n : ℕ) → s.meter.units ≡ suc n → Runs c.fixed Good p q (there c k temps s.world) (charged 1 (with_units n s.meter)) (r n)) →
      Runs c.fixed Good have q (there c (l ∷ k) temps s.world) s.meter (spend s.meter.units s r)
  enters {A} {Good} {l} {k} {temps} {have} {q} {r} p s le is f =
      spends s (spent l k temps s.world _ is) (λ n e. turned s n e (spent l k temps s.world _ is) (stepped l k temps s.world _ is) le (f n e))

  pub turns : {A : Type 0} {Good : A → State → M → Type 0} {l : Line} {k k' : List Line} {temps temps' : Temps} {have q : ℕ} {r : ℕ → Res State A}
      (p name : ℕ)
      (s : State) → 1 + p ≤ have + 12 → does_at c temps s.world l ≡ Turns temps' name → from_label label_in name c.whole ≡ Some k' →
      ((n : ℕ) → s.meter.units ≡ suc n → Runs c.fixed Good p q (there c k' temps' s.world) (charged 1 (with_units n s.meter)) (r n)) →
      Runs c.fixed Good have q (there c (l ∷ k) temps s.world) s.meter (spend s.meter.units s r)
  turns {A} {Good} {l} {k} {k'} {temps} {temps'} {have} {q} {r} p name s le is found f =
      spends s (spent l k temps s.world _ is)
      (λ n e. turned s n e (spent l k temps s.world _ is)
      (stepped l k temps s.world _ is ∙ ap (jumped (there c (l ∷ k) temps s.world) temps' 1) found) le (f n e))

  -- ---- one that does a deed of the meaning, and has some work beside it

  pub performs : {A : Type 0} {l : Line} {k : List Line} {temps : Temps} {lo hi : ℕ} {P : A → Temps → Type 0} {p q : ℕ} (given : A → Temps) (deed : Deed A)
      (s : State) (n : ℕ) → n + q ≤ p → Answering (λ v. P v (given v)) deed → ((v : A) → Kept lo hi temps (given v)) →
      does_at c temps s.world l ≡ Passes (later_done [] n (perform (deed >>= (λ v. give (given v))) s.world)) →
      Runs c.fixed (Lands c k lo hi temps s.world P) p q (there c (l ∷ k) temps s.world) s.meter (carry deed s)
  performs {A} {l} {k} {temps} {lo} {hi} {P} {p} {q} given deed s n le opens kept is =
      let m = there c (l ∷ k) temps s.world in
      record {
        it = subst (λ r. Shows c.fixed (Lands c k lo hi temps s.world P) p q m s.meter r) (sym (performed deed s))
            (on (perform deed s.world) (since_done (λ v. P v (given v)) c.level deed opens s.world)
            (is ∙ ap (λ d. Passes (later_done [] n d)) (mapped given deed s.world)));
      }
    where
      on : (done : Done A) → SinceDone (λ v. P v (given v)) c.level s.world done → does_at c temps s.world l ≡ Passes
          (later_done [] n (answer_map given done)) →
          Shows c.fixed (Lands c k lo hi temps s.world P) p q (there c (l ∷ k) temps s.world) s.meter (from s done)
      on (Answers es w v world) since e = (
        there c k (given v) world,
        line es (n + w) (spent l k temps s.world _ e) (stepped l k temps s.world _ e) refl refl (omega (arith, le)),
        record { now = given v; is = refl; has = since.1; kept = kept v; since = since.0 },
      )
      on (Finishes es w status world) since e =
          line_ends es (n + w) status (live world) (spent l k temps s.world _ e) (stepped l k temps s.world _ e) refl (omega (arith, le))
      on (Fails es w world) since e = tt

  -- one that does a deed and nothing beside it
  pub performs_alone : {A : Type 0} {l : Line} {k : List Line} {temps : Temps} {lo hi : ℕ} {P : A → Temps → Type 0} {p q : ℕ} (given : A → Temps)
      (deed : Deed A)
      (s : State) → q ≤ p → Answering (λ v. P v (given v)) deed → ((v : A) → Kept lo hi temps (given v)) →
      does_at c temps s.world l ≡ Passes (perform (deed >>= (λ v. give (given v))) s.world) →
      Runs c.fixed (Lands c k lo hi temps s.world P) p q (there c (l ∷ k) temps s.world) s.meter (carry deed s)
  performs_alone given deed s le opens kept is =
      performs given deed s 0 (omega (arith, le)) opens kept (is ∙ ap (λ d. Passes d) (sym (behind_none (perform (deed >>= (λ v. give (given v))) s.world))))

  -- one whose first work is the line's own
  pub performs_ticked : {A : Type 0} {l : Line} {k : List Line} {temps : Temps} {lo hi : ℕ} {P : A → Temps → Type 0} {p q : ℕ} (given : A → Temps)
      (deed : Deed A)
      (s : State) → q ≤ p + 11 → Answering (λ v. P v (given v)) deed → ((v : A) → Kept lo hi temps (given v)) →
      does_at c temps s.world l ≡ Passes (perform (Works 1 deed >>= (λ v. give (given v))) s.world) →
      Runs c.fixed (Lands c k lo hi temps s.world P) p q (there c (l ∷ k) temps s.world) s.meter (carry (Works 1 deed) s)
  performs_ticked {A} {l} {k} {temps} {lo} {hi} {P} {p} {q} given deed s le opens kept is =
      pays (1 + q) 1 (omega (arith, le)) (performs given deed (worked 1 s) 1 (omega arith) opens kept is)

-- ---- points

pub at_point : {x : Fixed} {A : Type 0} {Good : Outcome A → State → M → Type 0} {p q : ℕ} {m : M} (act : Does A) (path : Path) (s : State) →
    ((trail : List Point) → Runs x Good p q m s.meter (act (with_trail trail s))) → Runs x Good p q m s.meter (at_path path act s)
at_point {x} {A} {Good} {p} {q} {m} act path s h = on (has_node path)
  where
    on : (b : Bool) → Runs x Good p q m s.meter (branch b (at_node (node_at path).number Done_by act) act s)
    on true = h _
    on false = h s.trail
