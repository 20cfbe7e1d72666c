-- Code that runs by units shows what it shows line by line, up to where a unit is missing.
use Rattle.std.proofs.Common.{◌≡◌, ◌≤◌, ℕ, zero, suc, ◌+◌, Bool, true, false, List, [], ◌++◌, Option, Some, None, refl, sym, ap, ap₂, subst, ◌∙◌, append-nil}
use Rattle.std.proofs.Common.{arith}
use Rattle.arc_base.specs.Event.{Event}
use Rattle.arc_base.specs.Behaviour.{Seen, Running, Sound, Steady}
use Rattle.arc_base.specs.Stepping.{Next, Goes, Ends, Faults, Errs, next_map, seen, after, run}
use Rattle.arc_base.proofs.ForCallers.{steady, Same}
use Rattle.flat_code.specs.Scene.{Scene, Did}
use Rattle.flat_code.specs.Running.{Proc, Machine, Counting, Going, Standing, within, step, spends_next, unit_left, with_units, run_by}
use Rattle.flat_code.specs.Running.{counting_step, at_first, runs, runs_within}
use Rattle.flat_code.proofs.LineMaps.{run_map}

module _ {L : Type 0} (label_of : L → Option ℕ) (does : Scene → L → Did) (procs : List (Proc L)) where
  abbrev next : Machine L → Next Event (Machine L)
  next m = step label_of does procs m

  abbrev pub counts : Counting L → Next Event (Counting L)
  counts c = counting_step label_of does procs c

  abbrev spends_at : Machine L → Bool
  spends_at m = spends_next label_of does procs m m.now.rest

  abbrev by : ℕ → (units : ℕ) → Machine L → List Event → ℕ → Seen Event
  by n units m out work = run_by label_of does procs n m units out work

  plus_none : (work : ℕ) → work + 0 ≡ work
  plus_none work = omega arith

  -- a run that stands still shows no more
  pub standing_shows : (n : ℕ) (out : List Event) (work : ℕ) → run counts n Standing out work ≡ seen out Running work
  standing_shows zero out work = refl
  standing_shows (suc n) out work =
      ap₂ (λ o w. run counts n Standing o w) (append-nil out) (plus_none work) ∙ standing_shows n out work

  abbrev same : {a b : Seen Event} → a ≡ b → Same a b
  same {a} e = subst (Same a) e (record { events = refl; phase = refl })

  missing : (n : ℕ) (out : List Event) (work : ℕ) → Same (run counts n Standing (out ++ []) (work + 1)) (seen out Running work)
  missing n out work =
      let e = standing_shows n (out ++ []) (work + 1) in
      record { events = ap (λ (s : Seen Event). s.events) e ∙ append-nil out; phase = ap (λ (s : Seen Event). s.phase) e }

  -- ---- as it runs by units

  after_going : (n : ℕ) (units : Option ℕ) (shown : Machine L → List Event → ℕ → Seen Event) →
      ((m : Machine L) (out : List Event) (work : ℕ) → Same (run counts n (Going units m) out work) (shown m out work)) →
      (x : Next Event (Machine L)) (out : List Event) (work : ℕ) → Same (after (next_map (Going units) x) (run counts n) out work) (after x shown out work)
  after_going n units shown h (Goes es w m) out work = h m (out ++ es) (work + w)
  after_going n units shown h (Ends es w status live) out work = same refl
  after_going n units shown h Faults out work = same refl
  after_going n units shown h Errs out work = same refl

  same_step : (n : ℕ) →
      ((units : ℕ) (m : Machine L) (out : List Event) (work : ℕ) → Same (run counts n (Going (Some units) m) out work) (by n units m out work)) →
      (m : Machine L) (out : List Event) (work : ℕ) (b : Bool) (units : ℕ) →
      Same (after (within b (Some units) (next m)) (run counts n) out work)
      (with_units label_of does procs (unit_left label_of does procs b units) (λ left. after (next m) (by n left) out work) (seen out Running work))
  same_step n h m out work false units = after_going n (Some units) (by n units) (h units) (next m) out work
  same_step n h m out work true zero = missing n out work
  same_step n h m out work true (suc units) = after_going n (Some units) (by n units) (h units) (next m) out work

  same_by : (n units : ℕ) (m : Machine L) (out : List Event) (work : ℕ) → Same (run counts n (Going (Some units) m) out work) (by n units m out work)
  same_by zero units m out work = same refl
  same_by (suc n) units m out work = same_step n (same_by n) m out work (spends_at m) units

  pub same_within : (units heap : ℕ) (input : List ℕ) (n : ℕ) →
      Same (runs_within label_of does procs units heap input n) (run_by label_of does procs n (at_first label_of does procs heap input) units [] 0)
  same_within units heap input n = same_by n units (at_first label_of does procs heap input) [] 0

  -- ---- with no more work, but where a unit is missing

  least_next : (n units : ℕ) → ((m : Machine L) (out : List Event) (work : ℕ) → work ≤ (by n units m out work).work) → (x : Next Event (Machine L))
      (out : List Event) (work : ℕ) → work ≤ (after x (by n units) out work).work
  least_next n units h (Goes es w m) out work = let i = h m (out ++ es) (work + w) in omega (arith, i)
  least_next n units h (Ends es w status live) out work = omega arith
  least_next n units h Faults out work = omega arith
  least_next n units h Errs out work = omega arith

  least_step : (n : ℕ) → ((units : ℕ) (m : Machine L) (out : List Event) (work : ℕ) → work ≤ (by n units m out work).work) → (m : Machine L)
      (out : List Event) (work : ℕ) (b : Bool) (units : ℕ) →
      work ≤ (with_units label_of does procs (unit_left label_of does procs b units) (λ left. after (next m) (by n left) out work) (seen out Running work)).work
  least_step n h m out work false units = least_next n units (h units) (next m) out work
  least_step n h m out work true zero = omega arith
  least_step n h m out work true (suc units) = least_next n units (h units) (next m) out work

  least_by : (n units : ℕ) (m : Machine L) (out : List Event) (work : ℕ) → work ≤ (by n units m out work).work
  least_by zero units m out work = omega arith
  least_by (suc n) units m out work = least_step n (least_by n) m out work (spends_at m) units

  abbrev Works : (n k units : ℕ) → Type 0
  Works n k units = (m : Machine L) (out : List Event) (work : ℕ) → (run counts n (Going (Some units) m) out work).work ≤ (by k units m out work).work + 1

  works_next : (n k units : ℕ) → Works n k units → (x : Next Event (Machine L)) (out : List Event) (work : ℕ) →
      (after (next_map (Going (Some units)) x) (run counts n) out work).work ≤ (after x (by k units) out work).work + 1
  works_next n k units h (Goes es w m) out work = h m (out ++ es) (work + w)
  works_next n k units h (Ends es w status live) out work = omega arith
  works_next n k units h Faults out work = omega arith
  works_next n k units h Errs out work = omega arith

  works_step : (n k : ℕ) → ((units : ℕ) → Works n k units) → (m : Machine L) (out : List Event) (work : ℕ) (b : Bool) (units : ℕ) →
      (after (within b (Some units) (next m)) (run counts n) out work).work
      ≤ (with_units label_of does procs (unit_left label_of does procs b units) (λ left. after (next m) (by k left) out work) (seen out Running work)).work + 1
  works_step n k h m out work false units = works_next n k units (h units) (next m) out work
  works_step n k h m out work true zero =
      let e = ap (λ (s : Seen Event). s.work) (standing_shows n (out ++ []) (work + 1)) in omega (arith, e)
  works_step n k h m out work true (suc units) = works_next n k units (h units) (next m) out work

  works_by : (n k : ℕ) → n ≤ k → (units : ℕ) → Works n k units
  works_by zero k le units m out work = let l = least_by k units m out work in omega (arith, l)
  works_by (suc n) zero le units m out work = absurd (omega (arith, le))
  works_by (suc n) (suc k) le units m out work = works_step n k (works_by n k (omega (arith, le))) m out work (spends_at m) units

  pub works_within : (units heap : ℕ) (input : List ℕ) (n k : ℕ) → n ≤ k → (runs_within label_of does procs units heap input n).work
      ≤ (run_by label_of does procs k (at_first label_of does procs heap input) units [] 0).work + 1
  works_within units heap input n k le = works_by n k le units (at_first label_of does procs heap input) [] 0

  -- ---- with as many units as there are

  none_is : (b : Bool) (m : Machine L) → within b None (next m) ≡ next_map (Going None) (next m)
  none_is true m = refl
  none_is false m = refl

  pub unbounded : (n : ℕ) (m : Machine L) (out : List Event) (work : ℕ) → run counts n (Going None m) out work ≡ run next n m out work
  unbounded = run_map counts next (Going None) (λ m. none_is (spends_at m) m)

  -- ---- it is a front of the run line by line

  abbrev Front : ℕ → (units : ℕ) → Machine L → List Event → ℕ → Type 0
  Front n units m out work = (k : ℕ) × Same (run counts n (Going (Some units) m) out work) (run next k m out work)

  front_after : (n units : ℕ) → ((m : Machine L) (out : List Event) (work : ℕ) → Front n units m out work) → (m : Machine L) (x : Next Event (Machine L)) →
      next m ≡ x → (out : List Event) (work : ℕ) →
      (k : ℕ) × Same (after (next_map (Going (Some units)) x) (run counts n) out work) (run next k m out work)
  front_after n units h m (Goes es w m1) e out work =
      let f = h m1 (out ++ es) (work + w) in (
        suc f.0,
        subst (Same (run counts n (Going (Some units) m1) (out ++ es) (work + w))) (sym (ap (λ x. after x (run next f.0) out work) e)) f.1,
      )
  front_after n units h m (Ends es w status live) e out work = (1, same (sym (ap (λ x. after x (run next 0) out work) e)))
  front_after n units h m Faults e out work = (1, same (sym (ap (λ x. after x (run next 0) out work) e)))
  front_after n units h m Errs e out work = (1, same (sym (ap (λ x. after x (run next 0) out work) e)))

  front_step : (n : ℕ) → ((units : ℕ) (m : Machine L) (out : List Event) (work : ℕ) → Front n units m out work) → (m : Machine L) (out : List Event)
      (work : ℕ) (b : Bool) (units : ℕ) → (k : ℕ) × Same (after (within b (Some units) (next m)) (run counts n) out work) (run next k m out work)
  front_step n h m out work false units = front_after n units (h units) m (next m) refl out work
  front_step n h m out work true zero = (0, missing n out work)
  front_step n h m out work true (suc units) = front_after n units (h units) m (next m) refl out work

  front_by : (n units : ℕ) (m : Machine L) (out : List Event) (work : ℕ) → Front n units m out work
  front_by zero units m out work = (0, same refl)
  front_by (suc n) units m out work = front_step n (front_by n) m out work (spends_at m) units

  pub front_within : (units heap : ℕ) (input : List ℕ) (n : ℕ) →
      (k : ℕ) × Same (runs_within label_of does procs units heap input n) (runs label_of does procs heap input k)
  front_within units heap input n = front_by n units (at_first label_of does procs heap input) [] 0

  pub sound_within : (units heap : ℕ) (input : List ℕ) → Sound (runs label_of does procs heap input) → Sound (runs_within label_of does procs units heap input)
  sound_within units heap input sound = record {
    no_fault = λ n e. let f = front_within units heap input n in sound.no_fault f.0 (sym f.1.phase ∙ e);
    right = λ n e. let f = front_within units heap input n in sound.right f.0 (sym f.1.phase ∙ e);
  }

  pub steady_within : (units heap : ℕ) (input : List ℕ) → Steady (runs_within label_of does procs units heap input)
  steady_within units heap input = steady counts (Going (Some units) (at_first label_of does procs heap input))
