-- Each point does one thing, where the points of a tree of acts are distinct.
use Rattle.std.proofs.Common.{◌≡◌, refl, sym, ◌∙◌, ap, subst, inl, inr, ◌⊎◌, ℕ, List, [], ◌∷◌, ◌++◌}
use Rattle.nim_meaning.specs.ActTree.{Root, Turns, Chooses, Does, Leaves, Act, Pass, Fill, Invoke, leaving, closing}
use Rattle.nim_meaning.specs.ActTree.{Control, Do, Choose, Loop, Break, Continue, Return, Call, Group, Arms, No_arm, An_arm, Acts, Done, Then, Bind, Result}
use Rattle.nim_meaning.specs.Ways.{Point, At, Enter, Leave, Stop, Exits, Raises}
use Rattle.nim_meaning.specs.Ways.{Edge, doing, choosing, in_choice, turn_begins, in_condition, loop_goes_on, loop_ends, in_turn, breaking, continuing}
use Rattle.nim_meaning.specs.Ways.{returning}
use Rattle.nim_meaning.specs.Ways.{call_returns, group_begins, in_group, Edge_arm, in_this, in_other}
use Rattle.nim_meaning.specs.Ways.{Edges, here, later, inside, closes, begins_result, in_result, ends_result}
use Rattle.nim_meaning.specs.Marks.{Member, Distinct, Mark, Spot, Scope, marks, arm_marks, all_marks}

-- what stands at a mark: an act, the scope of a place, or that of a result
data Deed : Type 0 where
  Plain : (act : Act) → Deed
  Ends : (place : Root) (last : ℕ) → Deed
  Closes : (place : Root) (last : ℕ) → Deed

abbrev ended_by : Root → ℕ → Point → Act
ended_by x l (At n r) = Pass
ended_by x l (Enter y) = Pass
ended_by x l (Leave y f) = leaving x l f
ended_by x l (Stop f) = Pass

abbrev closed_by : Root → ℕ → Point → Act
closed_by x l (At n r) = Pass
closed_by x l (Enter y) = Fill x
closed_by x l (Leave y f) = closing x l f
closed_by x l (Stop f) = Pass

abbrev done_at : Deed → Point → Act
done_at (Plain a) p = a
done_at (Ends x l) p = ended_by x l p
done_at (Closes x l) p = closed_by x l p

abbrev mark_at : Point → Mark
mark_at (At n r) = Spot n r
mark_at (Enter x) = Scope x
mark_at (Leave x f) = Scope x
mark_at (Stop f) = Spot 0 Does

record Entry : Type 0 where
  mark : Mark
  deed : Deed

abbrev entry : Mark → Deed → Entry
entry m d = record { mark = m; deed = d }

abbrev mutual
  deeds : Control → List Entry
  deeds (Do n r a) = entry (Spot n r) (Plain a) ∷ []
  deeds (Choose n r arms) = entry (Spot n r) (Plain Pass) ∷ arm_deeds arms
  deeds (Loop n c b) = entry (Spot n Turns) (Plain Pass) ∷ entry (Spot n Chooses) (Plain Pass) ∷ all_deeds c ++ all_deeds b
  deeds (Break n) = entry (Spot n Leaves) (Plain Pass) ∷ []
  deeds (Continue n) = entry (Spot n Leaves) (Plain Pass) ∷ []
  deeds (Return n) = entry (Spot n Leaves) (Plain Pass) ∷ []
  deeds (Call n c on) = entry (Spot n Does) (Plain (Invoke c on)) ∷ []
  deeds (Group n r b) = entry (Spot n r) (Plain Pass) ∷ all_deeds b

  arm_deeds : Arms → List Entry
  arm_deeds No_arm = []
  arm_deeds (An_arm a rest) = all_deeds a ++ arm_deeds rest

  all_deeds : Acts → List Entry
  all_deeds Done = []
  all_deeds (Then s b) = deeds s ++ all_deeds b
  all_deeds (Bind x l b) = entry (Scope x) (Ends x l) ∷ all_deeds b
  all_deeds (Result x l b) = entry (Scope x) (Closes x l) ∷ all_deeds b

abbrev keys : List Entry → List Mark
keys [] = []
keys (e ∷ es) = e.mark ∷ keys es

keys_append : (xs ys : List Entry) → keys (xs ++ ys) ≡ keys xs ++ keys ys
keys_append [] ys = refl
keys_append (x ∷ xs) ys = ap (λ ms. x.mark ∷ ms) (keys_append xs ys)

both : (xs ys : List Entry) (ms ns : List Mark) → keys xs ≡ ms → keys ys ≡ ns → keys (xs ++ ys) ≡ ms ++ ns
both xs ys ms ns h i = keys_append xs ys ∙ ap (λ ks. ks ++ keys ys) h ∙ ap (λ ks. ms ++ ks) i

mutual
  keys_are : (s : Control) → keys (deeds s) ≡ marks s
  keys_are (Do n r a) = refl
  keys_are (Choose n r arms) = ap (λ ms. Spot n r ∷ ms) (arm_keys_are arms)
  keys_are (Loop n c b) =
      ap (λ ms. Spot n Turns ∷ Spot n Chooses ∷ ms) (both (all_deeds c) (all_deeds b) (all_marks c) (all_marks b) (all_keys_are c) (all_keys_are b))
  keys_are (Break n) = refl
  keys_are (Continue n) = refl
  keys_are (Return n) = refl
  keys_are (Call n c on) = refl
  keys_are (Group n r b) = ap (λ ms. Spot n r ∷ ms) (all_keys_are b)

  arm_keys_are : (arms : Arms) → keys (arm_deeds arms) ≡ arm_marks arms
  arm_keys_are No_arm = refl
  arm_keys_are (An_arm a rest) = both (all_deeds a) (arm_deeds rest) (all_marks a) (arm_marks rest) (all_keys_are a) (arm_keys_are rest)

  all_keys_are : (b : Acts) → keys (all_deeds b) ≡ all_marks b
  all_keys_are Done = refl
  all_keys_are (Then s b) = both (deeds s) (all_deeds b) (marks s) (all_marks b) (keys_are s) (all_keys_are b)
  all_keys_are (Bind x l b) = ap (λ ms. Scope x ∷ ms) (all_keys_are b)
  all_keys_are (Result x l b) = ap (λ ms. Scope x ∷ ms) (all_keys_are b)

-- a mark with its deed is one of a list
abbrev Has : Mark → Deed → List Entry → Type 0
Has m d [] = ⊥
Has m d (e ∷ es) = ((m ≡ e.mark) × (d ≡ e.deed)) ⊎ Has m d es

has_left : (m : Mark) (d : Deed) (xs ys : List Entry) → Has m d xs → Has m d (xs ++ ys)
has_left m d [] ys h = absurd h
has_left m d (x ∷ xs) ys (inl h) = inl h
has_left m d (x ∷ xs) ys (inr h) = inr (has_left m d xs ys h)

has_right : (m : Mark) (d : Deed) (xs ys : List Entry) → Has m d ys → Has m d (xs ++ ys)
has_right m d [] ys h = h
has_right m d (x ∷ xs) ys h = inr (has_right m d xs ys h)

is_key : (m : Mark) (d : Deed) (es : List Entry) → Has m d es → Member m (keys es)
is_key m d [] h = h
is_key m d (e ∷ es) (inl h) = inl h.0
is_key m d (e ∷ es) (inr h) = inr (is_key m d es h)

one_deed : (m : Mark) (c d : Deed) (es : List Entry) → Distinct (keys es) → Has m c es → Has m d es → c ≡ d
one_deed m c d [] u h i = absurd h
one_deed m c d (e ∷ es) u (inl h) (inl i) = h.1 ∙ sym i.1
one_deed m c d (e ∷ es) u (inl h) (inr i) = absurd (u.0 (subst (λ k. Member k (keys es)) h.0 (is_key m d es i)))
one_deed m c d (e ∷ es) u (inr h) (inl i) = absurd (u.0 (subst (λ k. Member k (keys es)) i.0 (is_key m c es h)))
one_deed m c d (e ∷ es) u (inr h) (inr i) = one_deed m c d es u.1 h i

-- a point does what stands there
record Done_by (p : Point) (d : Act) (es : List Entry) : Type 0 where
  deed : Deed
  has : Has (mark_at p) deed es
  does : d ≡ done_at deed p

by_left : (p : Point) (d : Act) (xs ys : List Entry) → Done_by p d xs → Done_by p d (xs ++ ys)
by_left p d xs ys h = record { deed = h.deed; has = has_left (mark_at p) h.deed xs ys h.has; does = h.does }

by_right : (p : Point) (d : Act) (xs ys : List Entry) → Done_by p d ys → Done_by p d (xs ++ ys)
by_right p d xs ys h = record { deed = h.deed; has = has_right (mark_at p) h.deed xs ys h.has; does = h.does }

by_later : (p : Point) (d : Act) (e : Entry) (es : List Entry) → Done_by p d es → Done_by p d (e ∷ es)
by_later p d e es h = record { deed = h.deed; has = inr h.has; does = h.does }

by_first : (p : Point) (c : Deed) (es : List Entry) → Done_by p (done_at c p) (entry (mark_at p) c ∷ es)
by_first p c es = record { deed = c; has = inl (refl, refl); does = refl }

module _ (raises : Raises) where
  mutual
    edge_does : {s : Control} {k : Exits} {p q : Point} {d : Act} → Edge raises s k p d q → Done_by p d (deeds s)
    edge_does (doing {n = n} {r = r} {a = a}) = by_first (At n r) (Plain a) []
    edge_does (choosing {n = n} {r = r} {arms = arms} m) = by_first (At n r) (Plain Pass) (arm_deeds arms)
    edge_does (in_choice {n = n} {r = r} {arms = arms} {p = p} {d = d} e) = by_later p d (entry (Spot n r) (Plain Pass)) (arm_deeds arms) (arm_does e)
    edge_does (turn_begins {n = n} {c = c} {b = b}) = by_first (At n Turns) (Plain Pass) (entry (Spot n Chooses) (Plain Pass) ∷ all_deeds c ++ all_deeds b)
    edge_does (in_condition {n = n} {c = c} {b = b} {p = p} {d = d} e) =
        by_later p d (entry (Spot n Turns) (Plain Pass)) (entry (Spot n Chooses) (Plain Pass) ∷ all_deeds c ++ all_deeds b)
        (by_later p d (entry (Spot n Chooses) (Plain Pass)) (all_deeds c ++ all_deeds b) (by_left p d (all_deeds c) (all_deeds b) (all_does e)))
    edge_does (loop_goes_on {n = n} {c = c} {b = b}) =
        by_later (At n Chooses) Pass (entry (Spot n Turns) (Plain Pass)) (entry (Spot n Chooses) (Plain Pass) ∷ all_deeds c ++ all_deeds b)
        (by_first (At n Chooses) (Plain Pass) (all_deeds c ++ all_deeds b))
    edge_does (loop_ends {n = n} {c = c} {b = b}) =
        by_later (At n Chooses) Pass (entry (Spot n Turns) (Plain Pass)) (entry (Spot n Chooses) (Plain Pass) ∷ all_deeds c ++ all_deeds b)
        (by_first (At n Chooses) (Plain Pass) (all_deeds c ++ all_deeds b))
    edge_does (in_turn {n = n} {c = c} {b = b} {p = p} {d = d} e) =
        by_later p d (entry (Spot n Turns) (Plain Pass)) (entry (Spot n Chooses) (Plain Pass) ∷ all_deeds c ++ all_deeds b)
        (by_later p d (entry (Spot n Chooses) (Plain Pass)) (all_deeds c ++ all_deeds b) (by_right p d (all_deeds c) (all_deeds b) (all_does e)))
    edge_does (breaking {n = n}) = by_first (At n Leaves) (Plain Pass) []
    edge_does (continuing {n = n}) = by_first (At n Leaves) (Plain Pass) []
    edge_does (returning {n = n}) = by_first (At n Leaves) (Plain Pass) []
    edge_does (call_returns {n = n} {p = c} {on = on}) = by_first (At n Does) (Plain (Invoke c on)) []
    edge_does (group_begins {n = n} {r = r} {b = b}) = by_first (At n r) (Plain Pass) (all_deeds b)
    edge_does (in_group {n = n} {r = r} {b = b} {p = p} {d = d} e) = by_later p d (entry (Spot n r) (Plain Pass)) (all_deeds b) (all_does e)

    arm_does : {arms : Arms} {k : Exits} {p q : Point} {d : Act} → Edge_arm raises arms k p d q → Done_by p d (arm_deeds arms)
    arm_does (in_this {a = a} {rest = rest} {p = p} {d = d} e) = by_left p d (all_deeds a) (arm_deeds rest) (all_does e)
    arm_does (in_other {a = a} {rest = rest} {p = p} {d = d} e) = by_right p d (all_deeds a) (arm_deeds rest) (arm_does e)

    all_does : {b : Acts} {k : Exits} {p q : Point} {d : Act} → Edges raises b k p d q → Done_by p d (all_deeds b)
    all_does (here {s = s} {b = b} {p = p} {d = d} e) = by_left p d (deeds s) (all_deeds b) (edge_does e)
    all_does (later {s = s} {b = b} {p = p} {d = d} e) = by_right p d (deeds s) (all_deeds b) (all_does e)
    all_does (inside {x = x} {l = l} {b = b} {p = p} {d = d} e) = by_later p d (entry (Scope x) (Ends x l)) (all_deeds b) (all_does e)
    all_does (closes {x = x} {l = l} {b = b} {f = f} m) = by_first (Leave x f) (Ends x l) (all_deeds b)
    all_does (begins_result {x = x} {l = l} {b = b}) = by_first (Enter x) (Closes x l) (all_deeds b)
    all_does (in_result {x = x} {l = l} {b = b} {p = p} {d = d} e) = by_later p d (entry (Scope x) (Closes x l)) (all_deeds b) (all_does e)
    all_does (ends_result {x = x} {l = l} {b = b} {f = f} m) = by_first (Leave x f) (Closes x l) (all_deeds b)

  pub one_act_each : (b : Acts) (k : Exits) (p : Point) (d e : Act) (q r : Point) → Distinct (all_marks b) → Edges raises b k p d q → Edges raises b k p e r →
      d ≡ e
  one_act_each b k p d e q r u x y =
      let i = all_does x in
      let j = all_does y in
      i.does ∙ ap (λ c. done_at c p) (one_deed (mark_at p) i.deed j.deed (all_deeds b) (subst (λ ms. Distinct ms) (sym (all_keys_are b)) u) i.has j.has) ∙
      sym j.does
