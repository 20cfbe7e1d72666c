-- The labels of a branch are tried, one after another.
use Rattle.std.proofs.Common.{◌≡◌, ℕ, ◌+◌, Bool, true, false, List, [], ◌∷◌, Some, refl, sym, ap, ◌∙◌, arith}
use Rattle.arc_base.specs.Event.{Event}
use Rattle.arc_base.specs.BigStep.{Meter, Res, then_do}
use Rattle.nim_program.specs.Program.{Label, Ordinals, Exactly}
use Rattle.nim_meaning.specs.Values.{Value, Fixed}
use Rattle.nim_meaning.specs.State.{World, State, text_of, is_whole}
use Rattle.nim_meaning.specs.Acts.{Outcome, Does, branch, worked}
use Rattle.nim_meaning.specs.Meaning.{fits_label, label_work, picked}
use Rattle.flat_code.specs.declared.line.Line.{Line}
use Rattle.flat_code.specs.declared.line.Line.TheVariants as L
use Rattle.flat_code.specs.Scene.{Temps, Did, Fails}
use Rattle.flat_code.specs.Lines.{using, leaps_where, compared_by, if_whole}
use Rattle.flattening.specs.ExprLines.{label_tests, written_label}
use Rattle.flattening.specs.Formed.{AreOf}
use Rattle.flattening.proofs.Runs.{M, Runs, pays}
use Rattle.flattening.proofs.Puts.{found}
use Rattle.flattening.proofs.PutsParts.{puts_labels}
use Rattle.flattening.proofs.Spots.{Spot, there, scene, does_at, goes, leaps}

-- what is done behind a choice is done behind each of its ends
branch_then : {A B : Type 0} (b : Bool) (holds fails : Does A) (go : Outcome A → State → Res State (Outcome B)) (s : State) →
    then_do (branch {A = Does A} b holds fails s) go ≡ branch {A = Does B} b (λ s. then_do (holds s) go) (λ s. then_do (fails s) go) s
branch_then true holds fails go s = refl
branch_then false holds fails go s = refl

branch_same : {A : Type 0} (b : Bool) (holds fails fails' : Does A) (s : State) → fails s ≡ fails' s → branch {A = Does A} b holds fails s
    ≡ branch {A = Does A} b holds fails' s
branch_same true holds fails fails' s e = refl
branch_same false holds fails fails' s e = e

pub picked_then : {A B : Type 0} (labels : List Label) (x : Value) (holds fails : Does A) (go : Outcome A → State → Res State (Outcome B)) (s : State) →
    then_do (picked labels x holds fails s) go ≡ picked labels x (λ s. then_do (holds s) go) (λ s. then_do (fails s) go) s
picked_then [] x holds fails go s = refl
picked_then (label ∷ labels) x holds fails go s =
    let s = worked (label_work label) s in
    branch_then (fits_label label x) holds (picked labels x holds fails) go s
    ∙ branch_same (fits_label label x) (λ s. then_do (holds s) go) (λ s. then_do (picked labels x holds fails s) go)
    (picked labels x (λ s. then_do (holds s) go) (λ s. then_do (fails s) go)) s (picked_then labels x holds fails go s)

-- a state with another meter
abbrev pub at_meter : State → Meter Event → State
at_meter s meter = record s { meter = meter }

-- what labels are compared with: flat code reads the text of a selector, which is there, at each label, in a world that stays
abbrev pub IsSelected : (texts : Bool) → World → (inside compared : Value) → Type 0
IsSelected false world v x = x ≡ v
IsSelected true world v x = (is_whole world v ≡ true) × (x ≡ Fixed (text_of world v))

-- nothing that a label asks is gone
abbrev IsWhole : Label → World → Value → Type 0
IsWhole these world v = (did : Did) → if_whole these world v did ≡ did

tests_by : (c : Spot) (temps : Temps) (v : Value) (t arm : ℕ) (these : Label) (world : World) → temps.values t ≡ Some v → IsWhole these world v →
    does_at c temps world (L.Fits t (written_label these) arm)
    ≡ leaps_where (scene c temps world) (label_work these) (fits_label these (compared_by these world v)) arm
tests_by c temps v t arm (Ordinals low high) world has whole =
    ap (λ o. using o (λ v. leaps_where (scene c temps world) (label_work (Ordinals low high)) (fits_label (Ordinals low high) v) arm)) has
tests_by c temps v t arm (Exactly text) world has whole =
    ap (λ o. using o (λ v. if_whole (Exactly text) world v
    (leaps_where (scene c temps world) (label_work (Exactly text)) (fits_label (Exactly text) (Fixed (text_of world v))) arm))) has
    ∙ whole (leaps_where (scene c temps world) (label_work (Exactly text)) (fits_label (Exactly text) (Fixed (text_of world v))) arm)

compared : (v : Value) (texts : Bool) (these : Label) (labels : List Label) (world : World) (x : Value) → AreOf texts (these ∷ labels) →
    IsSelected texts world v x → (compared_by these world v ≡ x) × AreOf texts labels × IsWhole these world v
compared v false (Ordinals low high) labels world x f is = (sym is, f, λ did. refl)
compared v true (Exactly text) labels world x f is = (sym is.1, f, λ did. ap (λ b. branch b did Fails) is.0)
compared v false (Exactly text) labels world x f is = absurd f
compared v true (Ordinals low high) labels world x f is = absurd f

-- a label is tried
module _ (c : Spot) {A : Type 0} {Good : Outcome A → State → M → Type 0} {q : ℕ} {temps : Temps} {v : Value} (t arm : ℕ) {target : List Line} where
  tried : {k : List Line} (these : Label) (x : Value) (b : Bool) (holds fails : Does A) (s : State) → temps.values t ≡ Some v → IsWhole these s.world v →
      compared_by these s.world v ≡ x → fits_label these x ≡ b →
      found arm k ≡ Some target → Runs c.fixed Good 12 q (there c target temps s.world) s.meter (holds s) →
      Runs c.fixed Good 12 q (there c k temps s.world) s.meter (fails s) →
      Runs c.fixed Good (12 + label_work these) q (there c (L.Fits t (written_label these) arm ∷ k) temps s.world) s.meter (branch {A = Does A} b holds fails s)
  tried these x true holds fails s has whole same is at hit miss =
      leaps c 12 arm (label_work these) (omega arith)
      (tests_by c temps v t arm these s.world has whole ∙ (ap (λ x. leaps_where (scene c temps s.world) (label_work these) (fits_label these x) arm) same
      ∙ ap (λ b. leaps_where (scene c temps s.world) (label_work these) b arm) is)) at hit
  tried these x false holds fails s has whole same is at hit miss =
      goes c 12 (label_work these + 0) (omega arith)
      (tests_by c temps v t arm these s.world has whole ∙ (ap (λ x. leaps_where (scene c temps s.world) (label_work these) (fits_label these x) arm) same
      ∙ ap (λ b. leaps_where (scene c temps s.world) (label_work these) b arm) is)) miss

  pub picks_follow : {k : List Line} (texts : Bool) (labels : List Label) (x : Value) → AreOf texts labels → (holds fails : Does A) (s : State) →
      temps.values t ≡ Some v → IsSelected texts s.world v x → found arm k ≡ Some target →
      ((meter : Meter Event) → Runs c.fixed Good 12 q (there c target temps s.world) meter (holds (at_meter s meter))) →
      ((meter : Meter Event) → Runs c.fixed Good 12 q (there c k temps s.world) meter (fails (at_meter s meter))) →
      Runs c.fixed Good 12 q (there c (label_tests labels t arm k) temps s.world) s.meter (picked labels x holds fails s)
  picks_follow texts [] x f holds fails s has is at hit miss = miss s.meter
  picks_follow texts (these ∷ labels) x f holds fails s has is at hit miss =
      let n = label_work these in
      let p = compared v texts these labels s.world x f is in
      pays (12 + n) n (omega arith)
      (tried these x (fits_label these x) holds (picked labels x holds fails) (worked n s) has p.2 p.0 refl
      ((puts_labels {lo = 0} {hi = 0} labels t arm).skips arm _ (λ le. le) ∙ at) (hit (worked n s).meter)
      (picks_follow texts labels x p.1 holds fails (worked n s) has is at hit miss))
