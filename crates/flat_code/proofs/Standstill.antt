-- A run by units comes to a standstill: each line spends a unit, or leaves fewer lines.
use Rattle.std.proofs.Common.{◌≡◌, ℕ, zero, suc, ◌+◌, ◌≤◌, ◌<◌, Bool, true, false, List, [], ◌∷◌, ◌++◌, length, refl, sym, ap, subst, ◌∙◌, arith}
use Rattle.std.proofs.Common.{Option, Some, None}
use Rattle.std.proofs.lemmas.Option.{none-some, same_Some}
use Rattle.std.specs.Prelude.{slice_get, if◌then◌else◌}
use Rattle.arc_base.specs.Event.{Event}
use Rattle.arc_base.specs.Behaviour.{Seen}
use Rattle.arc_base.specs.Stepping.{Next, Goes, Ends, Faults, Errs, next_map, after, run}
use Rattle.nim_meaning.specs.Values.{Slot}
use Rattle.nim_meaning.specs.Deeds.{Answers, Finishes, Fails}
use Rattle.flat_code.specs.Scene.{Scene, Temps, Did, Passes, Leaps, Enters, Turns, Calls, Returns}
use Rattle.flat_code.specs.Scene as scenes
use Rattle.flat_code.specs.Running.{Proc, Waiting, Machine, Counting, Going, Standing, within, no_proc, last_of, from_label, is_name, before_last, callable}
use Rattle.flat_code.specs.Running.{jumped, called, entered, settled, step_lines, scene_of, returned, spends, spends_next, at_first, runs_within}
use Rattle.flat_code.proofs.ByUnits.{counts, standing_shows}

-- ---- lines

abbrev all_lines : {L : Type 0} → List (Proc L) → ℕ
all_lines [] = 0
all_lines (p ∷ procs) = length p.lines + all_lines procs

-- a procedure has no more than all have
called_within : {L : Type 0} (procs : List (Proc L)) (i : ℕ) (p : Proc L) → slice_get (before_last procs) i ≡ Some p → length p.lines ≤ all_lines procs
called_within [] i p e = absurd (none-some p e)
called_within (q ∷ []) i p e = absurd (none-some p e)
called_within {L} (q ∷ r ∷ procs) zero p e =
    subst (λ (x : Proc L). length x.lines ≤ length q.lines + all_lines (r ∷ procs)) (same_Some q p e) (omega arith)
called_within (q ∷ r ∷ procs) (suc i) p e = omega (arith, called_within (r ∷ procs) i p e)

last_within : {L : Type 0} (none : Proc L) (procs : List (Proc L)) → length (last_of none procs).lines ≤ length none.lines + all_lines procs
last_within none [] = omega arith
last_within none (p ∷ procs) = omega (arith, last_within p procs)

abbrev times : (n k : ℕ) → ℕ
times zero k = 0
times (suc n) k = k + times n k

-- from some number of lines on nothing changes
abbrev pub Still : (ℕ → Seen Event) → Type 0
Still shown = (lines : ℕ) × ((more : ℕ) → shown (lines + more) ≡ shown lines)

module _ {L : Type 0} (label_of : L → Option ℕ) (does : Scene → L → Did) (procs : List (Proc L)) where
  found_within : (name : ℕ) (lines rest : List L) → from_label label_of name lines ≡ Some rest → length rest ≤ length lines
  found_within name [] rest e = absurd (none-some rest e)
  found_within name (line ∷ lines) rest e = cases (λ same. found_within name lines rest same) (is_name name (label_of line)) refl
    where
      cases : (from_label label_of name lines ≡ Some rest → length rest ≤ length lines) → (b : Bool) → is_name name (label_of line) ≡ b
          → length rest ≤ suc (length lines)
      cases later true h =
          let same : Some (line ∷ lines) ≡ Some rest = sym (ap (λ b. if b then Some (line ∷ lines) else from_label label_of name lines) h) ∙ e in
          subst (λ xs. length xs ≤ suc (length lines)) (same_Some (line ∷ lines) rest same) (omega arith)
      cases later false h =
          let same = sym (ap (λ b. if b then Some (line ∷ lines) else from_label label_of name lines) h) ∙ e in
          omega (arith, later same)

  -- ---- what is left

  abbrev most : ℕ
  most = all_lines procs

  abbrev waiting_left : List (Waiting L) → ℕ
  waiting_left [] = 0
  waiting_left (w ∷ ws) = length w.active.rest + waiting_left ws

  abbrev left_in : Machine L → ℕ
  left_in m = length m.now.rest + waiting_left m.waiting

  -- no active call has more lines than all procedures
  abbrev AreSmall : List (Waiting L) → Type 0
  AreSmall [] = Unit {0}
  AreSmall (w ∷ ws) = (length w.active.whole ≤ most) × AreSmall ws

  abbrev IsSmall : Machine L → Type 0
  IsSmall m = (length m.now.whole ≤ most) × AreSmall m.waiting

  abbrev Leaves : ℕ → Next Event (Machine L) → Type 0
  Leaves n (Goes es w m) = IsSmall m × (left_in m ≤ n)
  Leaves n (Ends es w status live) = Unit {0}
  Leaves n Faults = Unit {0}
  Leaves n Errs = Unit {0}

  jumped_leaves : (m : Machine L) (temps : Temps) (work : ℕ) (o : Option (List L)) (n : ℕ) → IsSmall m →
      ((rest : List L) → o ≡ Some rest → length rest + waiting_left m.waiting ≤ n) → Leaves n (jumped m temps work o)
  jumped_leaves m temps work None n small h = tt
  jumped_leaves m temps work (Some rest) n small h = (small, h rest refl)

  called_leaves : (m : Machine L) (rest : List L) (to : ℕ) (slots : List Slot) (work left : ℕ) (o : Option (Proc L)) → IsSmall m →
      ((p : Proc L) → o ≡ Some p → length p.lines ≤ most) →
      Leaves (most + (length rest + waiting_left m.waiting)) (called m rest to slots work left o)
  called_leaves m rest to slots work zero o small h = tt
  called_leaves m rest to slots work (suc left) None small h = (small, omega arith)
  called_leaves m rest to slots work (suc left) (Some p) small h = into p.lines refl
    where
      into : (lines : List L) → p.lines ≡ lines → Leaves (most + (length rest + waiting_left m.waiting)) (entered m rest to slots work left p lines)
      into [] e = (small, omega arith)
      into (line ∷ lines) e = ((h p refl, small), omega (arith, h p refl))

  returned_leaves : (m : Machine L) (v : _) (work n : ℕ) (ws : List (Waiting L)) → AreSmall ws → waiting_left ws ≤ n → Leaves n (returned m v work ws)
  returned_leaves m v work n [] small le = tt
  returned_leaves m v work n (w ∷ ws) small le = (small, omega (arith, le))

  abbrev room : Bool → ℕ
  room true = most
  room false = 0

  settled_leaves : (m : Machine L) (rest : List L) (d : Did) → IsSmall m →
      Leaves (room (spends label_of does procs d) + (length rest + waiting_left m.waiting)) (settled label_of does procs m rest d)
  settled_leaves m rest (Passes (Answers es n temps world)) small = (small, omega arith)
  settled_leaves m rest (Passes (Finishes es n status world)) small = tt
  settled_leaves m rest (Passes (Fails es n world)) small = tt
  settled_leaves m rest (Leaps name work) small =
      jumped_leaves m m.now.temps work (from_label label_of name rest) (0 + (length rest + waiting_left m.waiting)) small
      (λ found e. omega (arith, found_within name rest found e))
  settled_leaves m rest Enters small = (small, omega arith)
  settled_leaves m rest (Turns temps name) small =
      jumped_leaves m temps 1 (from_label label_of name m.now.whole) (most + (length rest + waiting_left m.waiting)) small
      (λ found e. omega (arith, found_within name m.now.whole found e, small.0))
  settled_leaves m rest (Calls to proc slots work) small =
      called_leaves m rest to slots work m.now.left (slice_get (callable procs) proc) small (λ p e. called_within procs proc p e)
  settled_leaves m rest (Returns v work) small =
      returned_leaves m v work (0 + (length rest + waiting_left m.waiting)) m.waiting small.1 (omega arith)
  settled_leaves m rest scenes.Fails small = tt

  -- ---- a standstill

  -- what is left to show behind a step comes to one
  abbrev StillAfter : List Event → ℕ → Next Event (Counting L) → Type 0
  StillAfter out work (Goes es w c) = Still (λ n. run (counts label_of does procs) n c (out ++ es) (work + w))
  StillAfter out work (Ends es w status live) = Unit {0}
  StillAfter out work Faults = Unit {0}
  StillAfter out work Errs = Unit {0}

  module _ (c : Counting L) (out : List Event) (work : ℕ) where
    abbrev shown : ℕ → Seen Event
    shown n = run (counts label_of does procs) n c out work

    at_once : (y : Next Event (Counting L)) → counts label_of does procs c ≡ y →
        ((n : ℕ) → after y (run (counts label_of does procs) n) out work ≡ after y (run (counts label_of does procs) 0) out work) → Still shown
    at_once y e same = (
      1,
      λ more.
          let one : 1 + more ≡ suc more = omega arith in
          ap shown one ∙ (ap (λ y. after y (run (counts label_of does procs) more) out work) e
          ∙ (same more ∙ sym (ap (λ y. after y (run (counts label_of does procs) 0) out work) e))),
    )

    still_by : (y : Next Event (Counting L)) → counts label_of does procs c ≡ y → StillAfter out work y → Still shown
    still_by (Goes es w d) e h = (
      suc h.0,
      λ more.
          let next : suc h.0 + more ≡ suc (h.0 + more) = omega arith in
          ap shown next ∙ (ap (λ y. after y (run (counts label_of does procs) (h.0 + more)) out work) e
          ∙ (h.1 more ∙ sym (ap (λ y. after y (run (counts label_of does procs) h.0) out work) e))),
    )
    still_by (Ends es w status live) e h = at_once (Ends es w status live) e (λ n. refl)
    still_by Faults e h = at_once Faults e (λ n. refl)
    still_by Errs e h = at_once Errs e (λ n. refl)

  -- from machines of which less is left
  abbrev StillBelow : ℕ → Type 0
  StillBelow k = (units : ℕ) (m : Machine L) → IsSmall m → times units (suc most) + left_in m < k → (out : List Event) (work : ℕ) →
      Still (λ n. run (counts label_of does procs) n (Going (Some units) m) out work)

  after_line : (k : ℕ) → StillBelow k → (units n : ℕ) (x : Next Event (Machine L)) → Leaves n x → times units (suc most) + n < k →
      (out : List Event) (work : ℕ) → StillAfter out work (next_map (Going (Some units)) x)
  after_line k below units n (Goes es w m) leaves less out work = below units m leaves.0 (omega (arith, less, leaves.1)) (out ++ es) (work + w)
  after_line k below units n (Ends es w status live) leaves less out work = tt
  after_line k below units n Faults leaves less out work = tt
  after_line k below units n Errs leaves less out work = tt

  after_spending : (k : ℕ) → StillBelow k → (b : Bool) (units n : ℕ) (x : Next Event (Machine L)) → Leaves (room b + n) x →
      times units (suc most) + suc n < suc k → (out : List Event) (work : ℕ) → StillAfter out work (within b (Some units) x)
  after_spending k below false units n x leaves less out work = after_line k below units (0 + n) x leaves (omega (arith, less)) out work
  after_spending k below true zero n x leaves less out work = (0, λ more. standing_shows label_of does procs (0 + more) (out ++ []) (work + 1))
  after_spending k below true (suc units) n x leaves less out work = after_line k below units (most + n) x leaves (omega (arith, less)) out work

  by_lines : (k : ℕ) → StillBelow k → (units : ℕ) (m : Machine L) (lines : List L) → m.now.rest ≡ lines → IsSmall m →
      times units (suc most) + (length lines + waiting_left m.waiting) < suc k → (out : List Event) (work : ℕ) →
      Still (λ n. run (counts label_of does procs) n (Going (Some units) m) out work)
  by_lines k below units m [] e small less out work =
      still_by (Going (Some units) m) out work Faults
      (ap (λ lines. within (spends_next label_of does procs m lines) (Some units) (step_lines label_of does procs m lines)) e) tt
  by_lines k below units m (line ∷ rest) e small less out work =
      let d = does (scene_of m) line in
      let b = spends label_of does procs d in
      still_by (Going (Some units) m) out work (within b (Some units) (settled label_of does procs m rest d))
      (ap (λ lines. within (spends_next label_of does procs m lines) (Some units) (step_lines label_of does procs m lines)) e)
      (after_spending k below b units (length rest + waiting_left m.waiting) (settled label_of does procs m rest d)
      (settled_leaves m rest d small) (omega (arith, less)) out work)

  still_below : (k : ℕ) → StillBelow k
  still_below zero units m small less out work = absurd (omega (arith, less))
  still_below (suc k) units m small less out work = by_lines k (still_below k) units m m.now.rest refl small less out work

  pub stands_still : (units heap : ℕ) (input : List ℕ) → Still (runs_within label_of does procs units heap input)
  stands_still units heap input =
      let m = at_first label_of does procs heap input in
      still_below (suc (times units (suc most) + left_in m)) units m (omega (arith, last_within no_proc procs), tt) (omega arith) [] 0
