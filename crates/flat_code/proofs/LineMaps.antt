-- Code whose lines become others that do the same shows the same, after each number of lines.
use Rattle.std.proofs.Common.{◌≡◌, ℕ, zero, suc, List, [], ◌∷◌, map, refl, ap, ◌∙◌, Option, Some, None, Bool, true, false}
use Rattle.std.specs.Prelude.{option_map, slice_get, if◌then◌else◌}
use Rattle.arc_base.specs.Event.{Event}
use Rattle.arc_base.specs.Stepping.{Next, Goes, Ends, Faults, Errs, next_map, after, run}
use Rattle.nim_meaning.specs.Values.{Value, Slot}
use Rattle.nim_meaning.specs.Deeds.{Done, Answers, Finishes, Fails}
use Rattle.flat_code.specs.Scene.{Temps, Scene, Did, Passes, Leaps, Enters, Turns, Calls, Returns}
use Rattle.flat_code.specs.Scene as scenes
use Rattle.flat_code.specs.Running.{Proc, Active, Waiting, Machine, Counting, Going, Standing, within, no_proc, is_name, from_label, last_of, before_last}
use Rattle.flat_code.specs.Running.{callable}
use Rattle.flat_code.specs.Running.{scene_of, went, jumped, entered, found, called, returned, settled, step_lines, step, at_first, runs}
use Rattle.flat_code.specs.Running.{spends, spends_next, counting_step, runs_within}

-- ---- lists

get_map : {A B : Type 0} (g : A → B) (xs : List A) (i : ℕ) → slice_get (map g xs) i ≡ option_map g (slice_get xs i)
get_map g [] i = refl
get_map g (x ∷ xs) zero = refl
get_map g (x ∷ xs) (suc i) = get_map g xs i

pub before_last_map : {A B : Type 0} (g : A → B) (xs : List A) → before_last (map g xs) ≡ map g (before_last xs)
before_last_map g [] = refl
before_last_map g (x ∷ []) = refl
before_last_map g (x ∷ y ∷ xs) = ap (λ rest. g x ∷ rest) (before_last_map g (y ∷ xs))

last_map : {A B : Type 0} (g : A → B) (none : A) (xs : List A) → last_of (g none) (map g xs) ≡ g (last_of none xs)
last_map g none [] = refl
last_map g none (x ∷ xs) = last_map g x xs

-- ---- machines

module _ {E S T : Type 0} (low : S → Next E S) (high : T → Next E T) (g : T → S) (same : (t : T) → low (g t) ≡ next_map g (high t)) where
  after_map : (n : ℕ) → ((t : T) (out : List E) (done : ℕ) → run low n (g t) out done ≡ run high n t out done) →
      (x : Next E T) (out : List E) (done : ℕ) → after (next_map g x) (run low n) out done ≡ after x (run high n) out done
  after_map n h (Goes es w t) out done = h t _ _
  after_map n h (Ends es w status live) out done = refl
  after_map n h Faults out done = refl
  after_map n h Errs out done = refl

  pub run_map : (n : ℕ) (t : T) (out : List E) (done : ℕ) → run low n (g t) out done ≡ run high n t out done
  run_map zero t out done = refl
  run_map (suc n) t out done = ap (λ x. after x (run low n) out done) (same t) ∙ after_map n (run_map n) (high t) out done

-- ---- lines that become others

module _ {L M : Type 0} (f : L → M) where
  abbrev pub in_proc : Proc L → Proc M
  in_proc p = record { first = p.first; span = p.span; result = p.result; waits = p.waits; hook = p.hook; lines = map f p.lines }

  abbrev in_active : Active L → Active M
  in_active a = record { whole = map f a.whole; rest = map f a.rest; level = a.level; left = a.left; temps = a.temps }

  abbrev in_waiting : Waiting L → Waiting M
  in_waiting w = record { active = in_active w.active; to = w.to }

  abbrev in_machine : Machine L → Machine M
  in_machine m = record { now = in_active m.now; waiting = map in_waiting m.waiting; world = m.world }

  abbrev in_counting : Counting L → Counting M
  in_counting (Going units m) = Going units (in_machine m)
  in_counting Standing = Standing

  going_map : (units : Option ℕ) (x : Next Event (Machine L)) →
      next_map (Going units) (next_map in_machine x) ≡ next_map in_counting (next_map (Going units) x)
  going_map units (Goes es w m) = refl
  going_map units (Ends es w status live) = refl
  going_map units Faults = refl
  going_map units Errs = refl

  within_map : (b : Bool) (units : Option ℕ) (x : Next Event (Machine L)) →
      within b units (next_map in_machine x) ≡ next_map in_counting (within b units x)
  within_map false units x = going_map units x
  within_map true None x = going_map None x
  within_map true (Some zero) x = refl
  within_map true (Some (suc units)) x = going_map (Some units) x

  went_map : (m : Machine L) (rest : List L) (done : Done Temps) →
      went (in_machine m) (map f rest) done ≡ next_map in_machine (went m rest done)
  went_map m rest (Answers es n temps world) = refl
  went_map m rest (Finishes es n status world) = refl
  went_map m rest (Fails es n world) = refl

  jumped_map : (m : Machine L) (temps : Temps) (work : ℕ) (o : Option (List L)) →
      jumped (in_machine m) temps work (option_map (map f) o) ≡ next_map in_machine (jumped m temps work o)
  jumped_map m temps work None = refl
  jumped_map m temps work (Some rest) = refl

  entered_map : (m : Machine L) (rest : List L) (to : ℕ) (slots : List Slot) (work left : ℕ) (p : Proc L) (lines : List L) →
      entered (in_machine m) (map f rest) to slots work left (in_proc p) (map f lines) ≡ next_map in_machine (entered m rest to slots work left p lines)
  entered_map m rest to slots work left p [] = refl
  entered_map m rest to slots work left p (line ∷ lines) = refl

  found_map : (m : Machine L) (rest : List L) (to : ℕ) (slots : List Slot) (work left : ℕ) (o : Option (Proc L)) →
      found (in_machine m) (map f rest) to slots work left (option_map in_proc o) ≡ next_map in_machine (found m rest to slots work left o)
  found_map m rest to slots work left None = refl
  found_map m rest to slots work left (Some p) = entered_map m rest to slots work left p p.lines

  called_map : (m : Machine L) (rest : List L) (to : ℕ) (slots : List Slot) (work left : ℕ) (o : Option (Proc L)) →
      called (in_machine m) (map f rest) to slots work left (option_map in_proc o) ≡ next_map in_machine (called m rest to slots work left o)
  called_map m rest to slots work zero o = refl
  called_map m rest to slots work (suc left) o = found_map m rest to slots work left o

  returned_map : (m : Machine L) (v : Value) (work : ℕ) (waiting : List (Waiting L)) →
      returned (in_machine m) v work (map in_waiting waiting) ≡ next_map in_machine (returned m v work waiting)
  returned_map m v work [] = refl
  returned_map m v work (w ∷ waiting) = refl

  module _ (label_of : L → Option ℕ) (label_of' : M → Option ℕ) (same_label : (line : L) → label_of' (f line) ≡ label_of line) where
    chosen : (b : Bool) (line : L) (lines : List L) (x : Option (List L)) (x' : Option (List M)) → x' ≡ option_map (map f) x →
        (if b then Some (f line ∷ map f lines) else x') ≡ option_map (map f) (if b then Some (line ∷ lines) else x)
    chosen true line lines x x' e = refl
    chosen false line lines x x' e = e

    pub label_map : (name : ℕ) (lines : List L) → from_label label_of' name (map f lines) ≡ option_map (map f) (from_label label_of name lines)
    label_map name [] = refl
    label_map name (line ∷ lines) =
        ap (λ o. if is_name name o then Some (f line ∷ map f lines) else from_label label_of' name (map f lines)) (same_label line)
        ∙ chosen (is_name name (label_of line)) line lines _ _ (label_map name lines)

    module _ (does : Scene → L → Did) (does' : Scene → M → Did) (same : (x : Scene) (line : L) → does' x (f line) ≡ does x line)
        (procs : List (Proc L)) where
      proc_map : (proc : ℕ) → slice_get (callable (map in_proc procs)) proc ≡ option_map in_proc (slice_get (callable procs) proc)
      proc_map proc = ap (λ ps. slice_get ps proc) (before_last_map in_proc procs) ∙ get_map in_proc (callable procs) proc

      settled_map : (m : Machine L) (rest : List L) (d : Did) →
          settled label_of' does' (map in_proc procs) (in_machine m) (map f rest) d ≡ next_map in_machine (settled label_of does procs m rest d)
      settled_map m rest (Passes done) = went_map m rest done
      settled_map m rest (Leaps name work) = ap (jumped (in_machine m) m.now.temps work) (label_map name rest) ∙ jumped_map m m.now.temps work _
      settled_map m rest Enters = refl
      settled_map m rest (Turns temps name) = ap (jumped (in_machine m) temps 1) (label_map name m.now.whole) ∙ jumped_map m temps 1 _
      settled_map m rest (Calls to proc slots work) =
          ap (called (in_machine m) (map f rest) to slots work m.now.left) (proc_map proc) ∙ called_map m rest to slots work m.now.left _
      settled_map m rest (Returns v work) = returned_map m v work m.waiting
      settled_map m rest scenes.Fails = refl

      lines_map : (m : Machine L) (rest : List L) →
          step_lines label_of' does' (map in_proc procs) (in_machine m) (map f rest) ≡ next_map in_machine (step_lines label_of does procs m rest)
      lines_map m [] = refl
      lines_map m (line ∷ rest) =
          ap (settled label_of' does' (map in_proc procs) (in_machine m) (map f rest)) (same (scene_of m) line)
          ∙ settled_map m rest (does (scene_of m) line)

      step_map : (m : Machine L) → step label_of' does' (map in_proc procs) (in_machine m) ≡ next_map in_machine (step label_of does procs m)
      step_map m = lines_map m m.now.rest

      first_map : (heap : ℕ) (input : List ℕ) →
          at_first label_of' does' (map in_proc procs) heap input ≡ in_machine (at_first label_of does procs heap input)
      first_map heap input = ap (λ (p : Proc M). at_first label_of' does' (p ∷ []) heap input) (last_map in_proc no_proc procs)

      pub runs_map : (heap : ℕ) (input : List ℕ) (n : ℕ) →
          runs label_of' does' (map in_proc procs) heap input n ≡ runs label_of does procs heap input n
      runs_map heap input n =
          ap (λ s. run (step label_of' does' (map in_proc procs)) n s [] 0) (first_map heap input)
          ∙ run_map (step label_of' does' (map in_proc procs)) (step label_of does procs) in_machine step_map n (at_first label_of does procs heap input) [] 0

      spent_map : (d : Did) → spends label_of' does' (map in_proc procs) d ≡ spends label_of does procs d
      spent_map (Passes done) = refl
      spent_map (Leaps name work) = refl
      spent_map Enters = refl
      spent_map (Turns temps name) = refl
      spent_map (Calls to proc slots work) = refl
      spent_map (Returns v work) = refl
      spent_map scenes.Fails = refl

      spends_map : (m : Machine L) (rest : List L) →
          spends_next label_of' does' (map in_proc procs) (in_machine m) (map f rest) ≡ spends_next label_of does procs m rest
      spends_map m [] = refl
      spends_map m (line ∷ rest) = ap (spends label_of' does' (map in_proc procs)) (same (scene_of m) line) ∙ spent_map (does (scene_of m) line)

      counting_map : (c : Counting L) →
          counting_step label_of' does' (map in_proc procs) (in_counting c) ≡ next_map in_counting (counting_step label_of does procs c)
      counting_map (Going units m) =
          ap (λ b. within b units (step label_of' does' (map in_proc procs) (in_machine m))) (spends_map m m.now.rest)
          ∙ (ap (within (spends_next label_of does procs m m.now.rest) units) (step_map m)
          ∙ within_map (spends_next label_of does procs m m.now.rest) units (step label_of does procs m))
      counting_map Standing = refl

      pub runs_within_map : (units heap : ℕ) (input : List ℕ) (n : ℕ) →
          runs_within label_of' does' (map in_proc procs) units heap input n ≡ runs_within label_of does procs units heap input n
      runs_within_map units heap input n =
          ap (λ s. run (counting_step label_of' does' (map in_proc procs)) n (Going (Some units) s) [] 0) (first_map heap input)
          ∙ run_map (counting_step label_of' does' (map in_proc procs)) (counting_step label_of does procs) in_counting counting_map n
          (Going (Some units) (at_first label_of does procs heap input)) [] 0
