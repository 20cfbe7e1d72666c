-- The ways as a family of edges, and as a list of arrows, are the same.
use Rattle.std.proofs.Common.{◌≡◌, refl, sym, ap, subst, inl, inr, ⊎_elim, ◌↔◌, ◌⊎◌, ℕ, List, [], ◌∷◌, ◌++◌, true, false}
use Rattle.std.proofs.lemmas.Bool.{false≢true}
use Rattle.nim_meaning.specs.ActTree.{Root, Flow, On, Out, Turn_over, Back, Act, Pass, Fill, Invoke, Turns, Chooses, Leaves, Does, goes_on, leaving, closing}
use Rattle.nim_meaning.specs.ActTree.{Control, Do, Choose, Loop, Break, Continue, Return, Call, Group, Arms, No_arm, An_arm, Acts, Done, Then, Bind, Result}
use Rattle.nim_meaning.specs.Ways.{Point, At, Enter, Leave, Exits, Raises, entry, onto, looped, scoped, leaves_loop}
use Rattle.nim_meaning.specs.Ways.{May, may_choose, may_test, may_turn, may_break, may_continue, may_return, may_group, MayEnd}
use Rattle.nim_meaning.specs.Ways.{May_arm, may_arm, may_other, Mays, may_here, may_later, may_bind, may_result}
use Rattle.nim_meaning.specs.Ways.{Edge, doing, choosing, in_choice, turn_begins, in_condition, loop_goes_on, loop_ends, in_turn, breaking, continuing}
use Rattle.nim_meaning.specs.Ways.{returning}
use Rattle.nim_meaning.specs.Ways.{call_returns, group_begins, in_group, Begins_arm, this_arm, other_arm, Edge_arm, in_this, in_other}
use Rattle.nim_meaning.specs.Ways.{Edges, here, later, inside, closes, begins_result, in_result, ends_result}
use Rattle.nim_meaning.specs.Arrows.{out_of_loop, leaves, arms_leave, all_leave, flows, Arrow, arrow, arms_begin, scope_ends}
use Rattle.nim_meaning.specs.Arrows.{result_ends}
use Rattle.nim_meaning.specs.Arrows.{arrows, arm_arrows, all_arrows, Among, Is_flow}

-- ---- lists

flow_left : (f : Flow) (fs gs : List Flow) → Is_flow f fs → Is_flow f (fs ++ gs)
flow_left f [] gs h = absurd h
flow_left f (g ∷ fs) gs (inl h) = inl h
flow_left f (g ∷ fs) gs (inr h) = inr (flow_left f fs gs h)

flow_right : (f : Flow) (fs gs : List Flow) → Is_flow f gs → Is_flow f (fs ++ gs)
flow_right f [] gs h = h
flow_right f (g ∷ fs) gs h = inr (flow_right f fs gs h)

flow_cases : (f : Flow) (fs gs : List Flow) → Is_flow f (fs ++ gs) → Is_flow f fs ⊎ Is_flow f gs
flow_cases f [] gs h = inr h
flow_cases f (g ∷ fs) gs (inl h) = inl (inl h)
flow_cases f (g ∷ fs) gs (inr h) = ⊎_elim (λ a. inl (inr a)) (λ b. inr b) (flow_cases f fs gs h)

into_loop : (e : ℕ) (fs : List Flow) → Is_flow (Back e) fs → Is_flow (Back e) (out_of_loop fs)
into_loop e [] h = absurd h
into_loop e (On ∷ fs) (inl h) = absurd (false≢true (ap goes_on h))
into_loop e (On ∷ fs) (inr h) = into_loop e fs h
into_loop e (Out i ∷ fs) (inl h) = absurd (false≢true (sym (ap leaves_loop h)))
into_loop e (Out i ∷ fs) (inr h) = into_loop e fs h
into_loop e (Turn_over i ∷ fs) (inl h) = absurd (false≢true (sym (ap leaves_loop h)))
into_loop e (Turn_over i ∷ fs) (inr h) = into_loop e fs h
into_loop e (Back i ∷ fs) (inl h) = inl h
into_loop e (Back i ∷ fs) (inr h) = inr (into_loop e fs h)

from_loop : (f : Flow) (fs : List Flow) → Is_flow f (out_of_loop fs) → (leaves_loop f ≡ true) × Is_flow f fs
from_loop f [] h = absurd h
from_loop f (On ∷ fs) h = let r = from_loop f fs h in (r.0, inr r.1)
from_loop f (Out i ∷ fs) h = let r = from_loop f fs h in (r.0, inr r.1)
from_loop f (Turn_over i ∷ fs) h = let r = from_loop f fs h in (r.0, inr r.1)
from_loop f (Back i ∷ fs) (inl h) = (ap leaves_loop h, inl h)
from_loop f (Back i ∷ fs) (inr h) = let r = from_loop f fs h in (r.0, inr r.1)

among_left : (p : Point) (d : Act) (q : Point) (xs ys : List Arrow) → Among p d q xs → Among p d q (xs ++ ys)
among_left p d q [] ys h = absurd h
among_left p d q (x ∷ xs) ys (inl h) = inl h
among_left p d q (x ∷ xs) ys (inr h) = inr (among_left p d q xs ys h)

among_right : (p : Point) (d : Act) (q : Point) (xs ys : List Arrow) → Among p d q ys → Among p d q (xs ++ ys)
among_right p d q [] ys h = h
among_right p d q (x ∷ xs) ys h = inr (among_right p d q xs ys h)

among_cases : (p : Point) (d : Act) (q : Point) (xs ys : List Arrow) → Among p d q (xs ++ ys) → Among p d q xs ⊎ Among p d q ys
among_cases p d q [] ys h = inr h
among_cases p d q (x ∷ xs) ys (inl h) = inl (inl h)
among_cases p d q (x ∷ xs) ys (inr h) = ⊎_elim (λ a. inl (inr a)) (λ b. inr b) (among_cases p d q xs ys h)

-- ---- flows

back_leaves : (fs : List Flow) (f : Flow) → leaves_loop f ≡ true → Is_flow f fs → Is_flow f (out_of_loop fs)
back_leaves fs On e h = absurd (false≢true e)
back_leaves fs (Out i) e h = absurd (false≢true e)
back_leaves fs (Turn_over i) e h = absurd (false≢true e)
back_leaves fs (Back i) e h = into_loop i fs h

module _ (raises : Raises) where
  mutual
    to_leaves : {s : Control} {f : Flow} → May raises s f → Is_flow f (leaves raises s)
    to_leaves (may_choose m) = to_arms_leave m
    to_leaves (may_test {c = c} {b = b} {f = f} m) = flow_left f (all_leave raises c) (out_of_loop (all_leave raises b)) (to_all_leave m)
    to_leaves (may_turn {c = c} {b = b} {f = f} e m) =
        flow_right f (all_leave raises c) (out_of_loop (all_leave raises b)) (back_leaves (all_leave raises b) f e (to_all_leave m))
    to_leaves may_break = inl refl
    to_leaves may_continue = inl refl
    to_leaves may_return = inl refl
    to_leaves (may_group m) = to_all_leave m

    to_arms_leave : {arms : Arms} {f : Flow} → May_arm raises arms f → Is_flow f (arms_leave raises arms)
    to_arms_leave (may_arm {a = a} {rest = rest} {f = f} m) = flow_left f (all_leave raises a) (arms_leave raises rest) (to_all_leave m)
    to_arms_leave (may_other {a = a} {rest = rest} {f = f} m) = flow_right f (all_leave raises a) (arms_leave raises rest) (to_arms_leave m)

    to_all_leave : {b : Acts} {f : Flow} → Mays raises b f → Is_flow f (all_leave raises b)
    to_all_leave (may_here {s = s} {b = b} {f = f} m) = flow_left f (leaves raises s) (all_leave raises b) (to_leaves m)
    to_all_leave (may_later {s = s} {b = b} {f = f} m) = flow_right f (leaves raises s) (all_leave raises b) (to_all_leave m)
    to_all_leave (may_bind m) = to_all_leave m
    to_all_leave (may_result m) = to_all_leave m

  mutual
    from_leaves : (s : Control) (f : Flow) → Is_flow f (leaves raises s) → May raises s f
    from_leaves (Do n r a) f h = absurd h
    from_leaves (Choose n r arms) f h = may_choose (from_arms_leave arms f h)
    from_leaves (Loop n c b) f h = ⊎_elim
        (λ x. may_test (from_all_leave c f x))
        (λ x. let r = from_loop f (all_leave raises b) x in may_turn r.0 (from_all_leave b f r.1))
        (flow_cases f (all_leave raises c) (out_of_loop (all_leave raises b)) h)
    from_leaves (Break n) f (inl h) = subst (λ g. May raises (Break n) g) (sym h) may_break
    from_leaves (Break n) f (inr h) = absurd h
    from_leaves (Continue n) f (inl h) = subst (λ g. May raises (Continue n) g) (sym h) may_continue
    from_leaves (Continue n) f (inr h) = absurd h
    from_leaves (Return n) f (inl h) = subst (λ g. May raises (Return n) g) (sym h) may_return
    from_leaves (Return n) f (inr h) = absurd h
    from_leaves (Call n p on) f h = absurd h
    from_leaves (Group n r b) f h = may_group (from_all_leave b f h)

    from_arms_leave : (arms : Arms) (f : Flow) → Is_flow f (arms_leave raises arms) → May_arm raises arms f
    from_arms_leave No_arm f h = absurd h
    from_arms_leave (An_arm a rest) f h = ⊎_elim
        (λ x. may_arm (from_all_leave a f x))
        (λ x. may_other (from_arms_leave rest f x))
        (flow_cases f (all_leave raises a) (arms_leave raises rest) h)

    from_all_leave : (b : Acts) (f : Flow) → Is_flow f (all_leave raises b) → Mays raises b f
    from_all_leave Done f h = absurd h
    from_all_leave (Then s b) f h = ⊎_elim
        (λ x. may_here (from_leaves s f x))
        (λ x. may_later (from_all_leave b f x))
        (flow_cases f (leaves raises s) (all_leave raises b) h)
    from_all_leave (Bind x l b) f h = may_bind (from_all_leave b f h)
    from_all_leave (Result x l b) f h = may_result (from_all_leave b f h)

  from_flows : (b : Acts) (f : Flow) → Is_flow f (flows raises b) → MayEnd raises b f
  from_flows b f (inl e) = inl e
  from_flows b f (inr h) = inr (from_all_leave b f h)

  to_flows : (b : Acts) (f : Flow) → MayEnd raises b f → Is_flow f (flows raises b)
  to_flows b f (inl e) = inl e
  to_flows b f (inr m) = inr (to_all_leave m)

  pub flows_same : (b : Acts) (f : Flow) → MayEnd raises b f ↔ Is_flow f (flows raises b)
  flows_same b f = (to_flows b f, from_flows b f)

  -- ---- arrows

  to_begin : (p : Point) {arms : Arms} {n q : Point} → Begins_arm arms n q → Among p Pass q (arms_begin p arms n)
  to_begin p this_arm = inl (refl, refl, refl)
  to_begin p (other_arm m) = inr (to_begin p m)

  to_scope_ends : (x : Root) (l : ℕ) (k : Exits) (f : Flow) (fs : List Flow) → Is_flow f fs → Among (Leave x f) (leaving x l f) (k f) (scope_ends x l k fs)
  to_scope_ends x l k f [] h = absurd h
  to_scope_ends x l k f (g ∷ fs) (inl h) = inl (ap (Leave x) h, ap (leaving x l) h, ap k h)
  to_scope_ends x l k f (g ∷ fs) (inr h) = inr (to_scope_ends x l k f fs h)

  to_result_ends : (x : Root) (l : ℕ) (k : Exits) (f : Flow) (fs : List Flow) → Is_flow f fs → Among (Leave x f) (closing x l f) (k f) (result_ends x l k fs)
  to_result_ends x l k f [] h = absurd h
  to_result_ends x l k f (g ∷ fs) (inl h) = inl (ap (Leave x) h, ap (closing x l) h, ap k h)
  to_result_ends x l k f (g ∷ fs) (inr h) = inr (to_result_ends x l k f fs h)

  mutual
    to_arrows : {s : Control} {k : Exits} {p q : Point} {d : Act} → Edge raises s k p d q → Among p d q (arrows raises s k)
    to_arrows doing = inl (refl, refl, refl)
    to_arrows (choosing {n = n} {r = r} {arms = arms} {k = k} {q = q} m) =
        among_left (At n r) Pass q (arms_begin (At n r) arms (k On)) (arm_arrows raises arms k) (to_begin (At n r) m)
    to_arrows (in_choice {n = n} {r = r} {arms = arms} {k = k} {p = p} {q = q} {d = d} e) =
        among_right p d q (arms_begin (At n r) arms (k On)) (arm_arrows raises arms k) (to_arm_arrows e)
    to_arrows turn_begins = inl (refl, refl, refl)
    to_arrows (in_condition {n = n} {c = c} {b = b} {k = k} {p = p} {q = q} {d = d} e) =
        inr (among_left p d q (all_arrows raises c (onto (At n Chooses) k))
        (arrow (At n Chooses) Pass (entry b (At n Turns)) ∷ arrow (At n Chooses) Pass (k On) ∷ all_arrows raises b (looped (At n Turns) k)) (to_all_arrows e))
    to_arrows (loop_goes_on {n = n} {c = c} {b = b} {k = k}) =
        inr (among_right (At n Chooses) Pass (entry b (At n Turns)) (all_arrows raises c (onto (At n Chooses) k))
        (arrow (At n Chooses) Pass (entry b (At n Turns)) ∷ arrow (At n Chooses) Pass (k On) ∷ all_arrows raises b (looped (At n Turns) k))
        (inl (refl, refl, refl)))
    to_arrows (loop_ends {n = n} {c = c} {b = b} {k = k}) =
        inr (among_right (At n Chooses) Pass (k On) (all_arrows raises c (onto (At n Chooses) k))
        (arrow (At n Chooses) Pass (entry b (At n Turns)) ∷ arrow (At n Chooses) Pass (k On) ∷ all_arrows raises b (looped (At n Turns) k))
        (inr (inl (refl, refl, refl))))
    to_arrows (in_turn {n = n} {c = c} {b = b} {k = k} {p = p} {q = q} {d = d} e) =
        inr (among_right p d q (all_arrows raises c (onto (At n Chooses) k))
        (arrow (At n Chooses) Pass (entry b (At n Turns)) ∷ arrow (At n Chooses) Pass (k On) ∷ all_arrows raises b (looped (At n Turns) k))
        (inr (inr (to_all_arrows e))))
    to_arrows breaking = inl (refl, refl, refl)
    to_arrows continuing = inl (refl, refl, refl)
    to_arrows returning = inl (refl, refl, refl)
    to_arrows call_returns = inl (refl, refl, refl)
    to_arrows group_begins = inl (refl, refl, refl)
    to_arrows (in_group e) = inr (to_all_arrows e)

    to_arm_arrows : {arms : Arms} {k : Exits} {p q : Point} {d : Act} → Edge_arm raises arms k p d q → Among p d q (arm_arrows raises arms k)
    to_arm_arrows (in_this {a = a} {rest = rest} {k = k} {p = p} {q = q} {d = d} e) =
        among_left p d q (all_arrows raises a k) (arm_arrows raises rest k) (to_all_arrows e)
    to_arm_arrows (in_other {a = a} {rest = rest} {k = k} {p = p} {q = q} {d = d} e) =
        among_right p d q (all_arrows raises a k) (arm_arrows raises rest k) (to_arm_arrows e)

    to_all_arrows : {b : Acts} {k : Exits} {p q : Point} {d : Act} → Edges raises b k p d q → Among p d q (all_arrows raises b k)
    to_all_arrows (here {s = s} {b = b} {k = k} {p = p} {q = q} {d = d} e) =
        among_left p d q (arrows raises s (onto (entry b (k On)) k)) (all_arrows raises b k) (to_arrows e)
    to_all_arrows (later {s = s} {b = b} {k = k} {p = p} {q = q} {d = d} e) =
        among_right p d q (arrows raises s (onto (entry b (k On)) k)) (all_arrows raises b k) (to_all_arrows e)
    to_all_arrows (inside {x = x} {l = l} {b = b} {k = k} {p = p} {q = q} {d = d} e) =
        among_left p d q (all_arrows raises b (scoped x)) (scope_ends x l k (flows raises b)) (to_all_arrows e)
    to_all_arrows (closes {x = x} {l = l} {b = b} {k = k} {f = f} m) =
        among_right (Leave x f) (leaving x l f) (k f) (all_arrows raises b (scoped x)) (scope_ends x l k (flows raises b))
        (to_scope_ends x l k f (flows raises b) (to_flows b f m))
    to_all_arrows begins_result = inl (refl, refl, refl)
    to_all_arrows (in_result {x = x} {l = l} {b = b} {k = k} {p = p} {q = q} {d = d} e) =
        inr (among_left p d q (all_arrows raises b (scoped x)) (result_ends x l k (flows raises b)) (to_all_arrows e))
    to_all_arrows (ends_result {x = x} {l = l} {b = b} {k = k} {f = f} m) =
        inr (among_right (Leave x f) (closing x l f) (k f) (all_arrows raises b (scoped x)) (result_ends x l k (flows raises b))
        (to_result_ends x l k f (flows raises b) (to_flows b f m)))

  abbrev Is : Point → Act → Point → Point → Act → Point → Type 0
  Is p d q p2 d2 q2 = (p ≡ p2) × (d ≡ d2) × (q ≡ q2)

  edge_at : (s : Control) (k : Exits) (p : Point) (d : Act) (q p2 : Point) (d2 : Act) (q2 : Point) → Edge raises s k p d q → Is p2 d2 q2 p d q →
      Edge raises s k p2 d2 q2
  edge_at s k p d q p2 d2 q2 e i =
      subst (λ x. Edge raises s k p2 d2 x) (sym i.2) (subst (λ x. Edge raises s k p2 x q) (sym i.1) (subst (λ x. Edge raises s k x d q) (sym i.0) e))

  edges_at : (b : Acts) (k : Exits) (p : Point) (d : Act) (q p2 : Point) (d2 : Act) (q2 : Point) → Edges raises b k p d q → Is p2 d2 q2 p d q →
      Edges raises b k p2 d2 q2
  edges_at b k p d q p2 d2 q2 e i =
      subst (λ x. Edges raises b k p2 d2 x) (sym i.2) (subst (λ x. Edges raises b k p2 x q) (sym i.1) (subst (λ x. Edges raises b k x d q) (sym i.0) e))

  -- an arrow that begins an arm
  from_begin : (r : Point) (arms : Arms) (n p : Point) (d : Act) (q : Point) → Among p d q (arms_begin r arms n) → (p ≡ r) × (d ≡ Pass) × Begins_arm arms n q
  from_begin r No_arm n p d q h = absurd h
  from_begin r (An_arm a rest) n p d q (inl h) = (h.0, h.1, subst (λ x. Begins_arm (An_arm a rest) n x) (sym h.2) this_arm)
  from_begin r (An_arm a rest) n p d q (inr h) = let r = from_begin r rest n p d q h in (r.0, r.1, other_arm r.2)

  begins_arm : (n : ℕ) (r : _) (arms : Arms) (k : Exits) (p : Point) (d : Act) (q : Point) → (p ≡ At n r) × (d ≡ Pass) × Begins_arm arms (k On) q →
      Edge raises (Choose n r arms) k p d q
  begins_arm n r arms k p d q h = edge_at (Choose n r arms) k (At n r) Pass q p d q (choosing h.2) (h.0, h.1, refl)

  from_scope_ends : (x : Root) (l : ℕ) (b : Acts) (k : Exits) (fs : List Flow) (p : Point) (d : Act) (q : Point) →
      ((f : Flow) → Is_flow f fs → MayEnd raises b f) → Among p d q (scope_ends x l k fs) → Edges raises (Bind x l b) k p d q
  from_scope_ends x l b k [] p d q m h = absurd h
  from_scope_ends x l b k (f ∷ fs) p d q m (inl h) = edges_at (Bind x l b) k (Leave x f) (leaving x l f) (k f) p d q (closes (m f (inl refl))) h
  from_scope_ends x l b k (f ∷ fs) p d q m (inr h) = from_scope_ends x l b k fs p d q (λ g i. m g (inr i)) h

  from_result_ends : (x : Root) (l : ℕ) (b : Acts) (k : Exits) (fs : List Flow) (p : Point) (d : Act) (q : Point) →
      ((f : Flow) → Is_flow f fs → MayEnd raises b f) → Among p d q (result_ends x l k fs) → Edges raises (Result x l b) k p d q
  from_result_ends x l b k [] p d q m h = absurd h
  from_result_ends x l b k (f ∷ fs) p d q m (inl h) = edges_at (Result x l b) k (Leave x f) (closing x l f) (k f) p d q (ends_result (m f (inl refl))) h
  from_result_ends x l b k (f ∷ fs) p d q m (inr h) = from_result_ends x l b k fs p d q (λ g i. m g (inr i)) h

  -- the rest of a loop: its test, and then its turns
  from_turn : (n : ℕ) (c b : Acts) (k : Exits) (p : Point) (d : Act) (q : Point) →
      Among p d q (arrow (At n Chooses) Pass (entry b (At n Turns)) ∷ arrow (At n Chooses) Pass (k On) ∷ all_arrows raises b (looped (At n Turns) k)) →
      (Among p d q (all_arrows raises b (looped (At n Turns) k)) → Edge raises (Loop n c b) k p d q) → Edge raises (Loop n c b) k p d q
  from_turn n c b k p d q (inl h) go = edge_at (Loop n c b) k (At n Chooses) Pass (entry b (At n Turns)) p d q loop_goes_on h
  from_turn n c b k p d q (inr (inl h)) go = edge_at (Loop n c b) k (At n Chooses) Pass (k On) p d q loop_ends h
  from_turn n c b k p d q (inr (inr h)) go = go h

  mutual
    from_arrows : (s : Control) (k : Exits) (p : Point) (d : Act) (q : Point) → Among p d q (arrows raises s k) → Edge raises s k p d q
    from_arrows (Do n r a) k p d q (inl h) = edge_at (Do n r a) k (At n r) a (k On) p d q doing h
    from_arrows (Do n r a) k p d q (inr h) = absurd h
    from_arrows (Choose n r arms) k p d q h = ⊎_elim
        (λ x. begins_arm n r arms k p d q (from_begin (At n r) arms (k On) p d q x))
        (λ x. in_choice (from_arm_arrows arms k p d q x))
        (among_cases p d q (arms_begin (At n r) arms (k On)) (arm_arrows raises arms k) h)
    from_arrows (Loop n c b) k p d q (inl h) = edge_at (Loop n c b) k (At n Turns) Pass (entry c (At n Chooses)) p d q turn_begins h
    from_arrows (Loop n c b) k p d q (inr h) = ⊎_elim
        (λ x. in_condition (from_all_arrows c (onto (At n Chooses) k) p d q x))
        (λ x. from_turn n c b k p d q x (λ y. in_turn (from_all_arrows b (looped (At n Turns) k) p d q y)))
        (among_cases p d q (all_arrows raises c (onto (At n Chooses) k))
        (arrow (At n Chooses) Pass (entry b (At n Turns)) ∷ arrow (At n Chooses) Pass (k On) ∷ all_arrows raises b (looped (At n Turns) k)) h)
    from_arrows (Break n) k p d q (inl h) = edge_at (Break n) k (At n Leaves) Pass (k (Out n)) p d q breaking h
    from_arrows (Break n) k p d q (inr h) = absurd h
    from_arrows (Continue n) k p d q (inl h) = edge_at (Continue n) k (At n Leaves) Pass (k (Turn_over n)) p d q continuing h
    from_arrows (Continue n) k p d q (inr h) = absurd h
    from_arrows (Return n) k p d q (inl h) = edge_at (Return n) k (At n Leaves) Pass (k (Back n)) p d q returning h
    from_arrows (Return n) k p d q (inr h) = absurd h
    from_arrows (Call n c on) k p d q (inl h) = edge_at (Call n c on) k (At n Does) (Invoke c on) (k On) p d q call_returns h
    from_arrows (Call n c on) k p d q (inr h) = absurd h
    from_arrows (Group n r b) k p d q (inl h) = edge_at (Group n r b) k (At n r) Pass (entry b (k On)) p d q group_begins h
    from_arrows (Group n r b) k p d q (inr h) = in_group (from_all_arrows b k p d q h)

    from_arm_arrows : (arms : Arms) (k : Exits) (p : Point) (d : Act) (q : Point) → Among p d q (arm_arrows raises arms k) → Edge_arm raises arms k p d q
    from_arm_arrows No_arm k p d q h = absurd h
    from_arm_arrows (An_arm a rest) k p d q h = ⊎_elim
        (λ x. in_this (from_all_arrows a k p d q x))
        (λ x. in_other (from_arm_arrows rest k p d q x))
        (among_cases p d q (all_arrows raises a k) (arm_arrows raises rest k) h)

    from_all_arrows : (b : Acts) (k : Exits) (p : Point) (d : Act) (q : Point) → Among p d q (all_arrows raises b k) → Edges raises b k p d q
    from_all_arrows Done k p d q h = absurd h
    from_all_arrows (Then s b) k p d q h = ⊎_elim
        (λ x. here (from_arrows s (onto (entry b (k On)) k) p d q x))
        (λ x. later (from_all_arrows b k p d q x))
        (among_cases p d q (arrows raises s (onto (entry b (k On)) k)) (all_arrows raises b k) h)
    from_all_arrows (Bind x l b) k p d q h = ⊎_elim
        (λ y. inside (from_all_arrows b (scoped x) p d q y))
        (λ y. from_scope_ends x l b k (flows raises b) p d q (from_flows b) y)
        (among_cases p d q (all_arrows raises b (scoped x)) (scope_ends x l k (flows raises b)) h)
    from_all_arrows (Result x l b) k p d q (inl h) = edges_at (Result x l b) k (Enter x) (Fill x) (entry b (Leave x On)) p d q begins_result h
    from_all_arrows (Result x l b) k p d q (inr h) = ⊎_elim
        (λ y. in_result (from_all_arrows b (scoped x) p d q y))
        (λ y. from_result_ends x l b k (flows raises b) p d q (from_flows b) y)
        (among_cases p d q (all_arrows raises b (scoped x)) (result_ends x l k (flows raises b)) h)

  pub arrows_same : (b : Acts) (k : Exits) (p : Point) (d : Act) (q : Point) → Edges raises b k p d q ↔ Among p d q (all_arrows raises b k)
  arrows_same b k p d q = (λ e. to_all_arrows e, from_all_arrows b k p d q)
