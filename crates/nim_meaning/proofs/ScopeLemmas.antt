-- A scope is left once for each flow.
use Rattle.std.proofs.Common.{◌≡◌, refl, sym, ◌∙◌, ap, subst, ◌↔◌, ℕ, Bool, true, false, eq-eqb}
use Rattle.std.proofs.lemmas.Bool.{false≢true, or_parts}
use Rattle.nim_meaning.specs.ActTree.{Root, Named, Temporary, Literal, same_root, Flow, On, Act, leaving, closing}
use Rattle.nim_meaning.specs.ActTree.{Control, Arms, Acts, Bind, Result}
use Rattle.nim_meaning.specs.Ways.{Point, At, Enter, Leave, Stop, Exits, Raises, MayEnd}
use Rattle.nim_meaning.specs.Ways.{Edge, doing, choosing, in_choice, turn_begins, in_condition, loop_goes_on, loop_ends, in_turn, breaking, continuing}
use Rattle.nim_meaning.specs.Ways.{returning}
use Rattle.nim_meaning.specs.Ways.{call_returns, group_begins, in_group, Edge_arm, in_this, in_other}
use Rattle.nim_meaning.specs.Ways.{Edges, here, later, inside, closes, begins_result, in_result, ends_result, scopes, arm_scopes, all_scopes}

-- whether a point leaves the scope of a place
abbrev leaves_of : Root → Point → Bool
leaves_of x (At n r) = false
leaves_of x (Enter y) = false
leaves_of x (Leave y f) = same_root y x
leaves_of x (Stop f) = false

-- the flow of a point
abbrev flow_at : Point → Flow
flow_at (At n r) = On
flow_at (Enter y) = On
flow_at (Leave y f) = f
flow_at (Stop f) = f

self_root : (x : Root) → same_root x x ≡ true
self_root (Named n) = eq-eqb n n refl
self_root (Temporary n) = eq-eqb n n refl
self_root (Literal n) = eq-eqb n n refl

module _ (raises : Raises) where
  -- no edge of a part begins where a scope is left that the part lacks
  mutual
    not_here : (x : Root) {s : Control} {k : Exits} {p q : Point} {d : Act} → scopes x s ≡ false → Edge raises s k p d q → leaves_of x p ≡ false
    not_here x h doing = refl
    not_here x h (choosing m) = refl
    not_here x h (in_choice e) = not_in_arm x h e
    not_here x h turn_begins = refl
    not_here x h (in_condition {c = c} {b = b} e) = not_in x (or_parts (all_scopes x c) (all_scopes x b) h).0 e
    not_here x h loop_goes_on = refl
    not_here x h loop_ends = refl
    not_here x h (in_turn {c = c} {b = b} e) = not_in x (or_parts (all_scopes x c) (all_scopes x b) h).1 e
    not_here x h breaking = refl
    not_here x h continuing = refl
    not_here x h returning = refl
    not_here x h call_returns = refl
    not_here x h group_begins = refl
    not_here x h (in_group e) = not_in x h e

    not_in_arm : (x : Root) {arms : Arms} {k : Exits} {p q : Point} {d : Act} → arm_scopes x arms ≡ false → Edge_arm raises arms k p d q → leaves_of x p ≡ false
    not_in_arm x h (in_this {a = a} {rest = rest} e) = not_in x (or_parts (all_scopes x a) (arm_scopes x rest) h).0 e
    not_in_arm x h (in_other {a = a} {rest = rest} e) = not_in_arm x (or_parts (all_scopes x a) (arm_scopes x rest) h).1 e

    not_in : (x : Root) {b : Acts} {k : Exits} {p q : Point} {d : Act} → all_scopes x b ≡ false → Edges raises b k p d q → leaves_of x p ≡ false
    not_in x h (here {s = s} {b = b} e) = not_here x (or_parts (scopes x s) (all_scopes x b) h).0 e
    not_in x h (later {s = s} {b = b} e) = not_in x (or_parts (scopes x s) (all_scopes x b) h).1 e
    not_in x h (inside {x = y} {b = b} e) = not_in x (or_parts (same_root y x) (all_scopes x b) h).1 e
    not_in x h (closes {x = y} {b = b} m) = (or_parts (same_root y x) (all_scopes x b) h).0
    not_in x h begins_result = refl
    not_in x h (in_result {x = y} {b = b} e) = not_in x (or_parts (same_root y x) (all_scopes x b) h).1 e
    not_in x h (ends_result {x = y} {b = b} m) = (or_parts (same_root y x) (all_scopes x b) h).0

  still_inside : (x : Root) (f : Flow) (p : Point) → leaves_of x p ≡ false → p ≡ Leave x f → ⊥
  still_inside x f p h e = false≢true (sym h ∙ ap (leaves_of x) e ∙ self_root x)

  scope_left : (x : Root) {l : ℕ} {b : Acts} {k : Exits} {p q : Point} {d : Act} (f : Flow) → all_scopes x b ≡ false → Edges raises (Bind x l b) k p d q →
      p ≡ Leave x f →
      MayEnd raises b f × (d ≡ leaving x l f) × (q ≡ k f)
  scope_left x f h (inside {p = p} e) i = absurd (still_inside x f p (not_in x h e) i)
  scope_left x f h (closes {l = l} {b = b} {k = k} {f = g} m) i =
      let e : g ≡ f = ap flow_at i in (subst (λ y. MayEnd raises b y) e m, ap (leaving x l) e, ap k e)

  result_left : (x : Root) {l : ℕ} {b : Acts} {k : Exits} {p q : Point} {d : Act} (f : Flow) → all_scopes x b ≡ false → Edges raises (Result x l b) k p d q →
      p ≡ Leave x f →
      MayEnd raises b f × (d ≡ closing x l f) × (q ≡ k f)
  result_left x f h begins_result i = absurd (still_inside x f (Enter x) refl i)
  result_left x f h (in_result {p = p} e) i = absurd (still_inside x f p (not_in x h e) i)
  result_left x f h (ends_result {l = l} {b = b} {k = k} {f = g} m) i =
      let e : g ≡ f = ap flow_at i in (subst (λ y. MayEnd raises b y) e m, ap (closing x l) e, ap k e)

  pub scope_left_once : (x : Root) (l : ℕ) (b : Acts) (k : Exits) (f : Flow) (d : Act) (q : Point) → all_scopes x b ≡ false →
      Edges raises (Bind x l b) k (Leave x f) d q ↔ (MayEnd raises b f × (d ≡ leaving x l f) × (q ≡ k f))
  scope_left_once x l b k f d q h = (
    λ e. scope_left x f h e refl,
    λ r.
        subst (λ y. Edges raises (Bind x l b) k (Leave x f) d y) (sym r.2)
        (subst (λ y. Edges raises (Bind x l b) k (Leave x f) y (k f)) (sym r.1) (closes r.0)),
  )

  pub result_left_once : (x : Root) (l : ℕ) (b : Acts) (k : Exits) (f : Flow) (d : Act) (q : Point) → all_scopes x b ≡ false →
      Edges raises (Result x l b) k (Leave x f) d q ↔ (MayEnd raises b f × (d ≡ closing x l f) × (q ≡ k f))
  result_left_once x l b k f d q h = (
    λ e. result_left x f h e refl,
    λ r.
        subst (λ y. Edges raises (Result x l b) k (Leave x f) d y) (sym r.2)
        (subst (λ y. Edges raises (Result x l b) k (Leave x f) y (k f)) (sym r.1) (ends_result r.0)),
  )
