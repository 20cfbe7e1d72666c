-- How often a mark stands in acts, and that it stands there once: by counting.
use Rattle.std.proofs.Common.{◌≡◌, refl, sym, ap, ap₂, subst, inl, inr, arith, ◌≤◌, ℕ, ◌+◌, nat_eq, eq-eqb, Bool, true, false, ◌&&◌}
use Rattle.std.proofs.Common.{List, [], ◌∷◌, ◌++◌}
use Rattle.nim_meaning.specs.ActTree.{Named, Temporary, Literal, same_root, Role, Begins, Does, Fills, Looks, Chooses, Turns, Asks, Decides, Leaves}
use Rattle.nim_meaning.specs.ActTree.{Control, Do, Choose, Loop, Break, Continue, Return, Call, Group, Arms, No_arm, An_arm, Acts, Done, Then, Bind, Result}
use Rattle.nim_meaning.specs.ActsOf.{makes, made, made_in, all_made, bound, ended}
use Rattle.nim_meaning.specs.Marks.{Member, Distinct, Mark, Spot, Scope, marks, arm_marks, all_marks}

-- ---- lists

abbrev pub bit : Bool → ℕ
bit true = 1
bit false = 0

abbrev pub count : {X : Type 0} → (X → X → Bool) → X → List X → ℕ
count same x [] = 0
count same x (y ∷ ys) = bit (same y x) + count same x ys

module _ {X : Type 0} (same : X → X → Bool) where
  pub count_both : (x : X) (xs ys : List X) → count same x (xs ++ ys) ≡ count same x xs + count same x ys
  count_both x [] ys = omega arith
  count_both x (z ∷ xs) ys = let e = count_both x xs ys in omega (arith, e)

  module _ (reflexive : (x : X) → same x x ≡ true) where
    counted : (x : X) (xs : List X) → Member x xs → 1 ≤ count same x xs
    counted x [] h = absurd h
    counted x (y ∷ ys) (inl e) = let s : bit (same y x) ≡ 1 = ap bit (subst (λ z. same z x ≡ true) e (reflexive x)) in omega (arith, s)
    counted x (y ∷ ys) (inr h) = let s = counted x ys h in omega (arith, s)

    -- what is counted once at most comes once
    pub distinct_by : (xs : List X) → ((x : X) → count same x xs ≤ 1) → Distinct xs
    distinct_by [] h = tt
    distinct_by (x ∷ xs) h = (
      λ m. let s : bit (same x x) ≡ 1 = ap bit (reflexive x) in let a = counted x xs m in let b = h x in absurd (omega (arith, s, a, b)),
      distinct_by xs (λ y. let b = h y in omega (arith, b)),
    )

  module _ (sound : (x y : X) → same x y ≡ true → x ≡ y) where
    none_of : (x y : X) (ys : List X) (b : Bool) → same y x ≡ b → (Member x (y ∷ ys) → ⊥) → bit b ≡ 0
    none_of x y ys true e h = absurd (h (inl (sym (sound y x e))))
    none_of x y ys false e h = refl

    none_counted : (x : X) (xs : List X) → (Member x xs → ⊥) → count same x xs ≡ 0
    none_counted x [] h = refl
    none_counted x (y ∷ ys) h =
        let a = none_of x y ys (same y x) refl h in
        let b = none_counted x ys (λ m. h (inr m)) in omega (arith, a, b)

    one_here : (x y : X) (ys : List X) (b : Bool) → same y x ≡ b → (Member y ys → ⊥) → count same x ys ≤ 1 → bit b + count same x ys ≤ 1
    one_here x y ys true e h le = let a = none_counted x ys (λ m. h (subst (λ z. Member z ys) (sym (sound y x e)) m)) in omega (arith, a)
    one_here x y ys false e h le = omega (arith, le)

    -- what comes once is counted once at most
    pub at_most_once : (x : X) (xs : List X) → Distinct xs → count same x xs ≤ 1
    at_most_once x [] d = omega arith
    at_most_once x (y ∷ ys) d = one_here x y ys (same y x) refl d.0 (at_most_once x ys d.1)

-- ---- marks

abbrev pub same_role : Role → Role → Bool
same_role Begins Begins = true
same_role Does Does = true
same_role Fills Fills = true
same_role Looks Looks = true
same_role Chooses Chooses = true
same_role Turns Turns = true
same_role Asks Asks = true
same_role Decides Decides = true
same_role Leaves Leaves = true
same_role _ _ = false

abbrev pub same_mark : Mark → Mark → Bool
same_mark (Spot n r) (Spot k q) = nat_eq n k && same_role r q
same_mark (Spot n r) (Scope y) = false
same_mark (Scope x) (Spot k q) = false
same_mark (Scope x) (Scope y) = same_root x y

self_role : (r : Role) → same_role r r ≡ true
self_role Begins = refl
self_role Does = refl
self_role Fills = refl
self_role Looks = refl
self_role Chooses = refl
self_role Turns = refl
self_role Asks = refl
self_role Decides = refl
self_role Leaves = refl

pub self_mark : (m : Mark) → same_mark m m ≡ true
self_mark (Spot n r) = ap₂ (λ a b. a && b) (eq-eqb n n refl) (self_role r)
self_mark (Scope (Named n)) = eq-eqb n n refl
self_mark (Scope (Temporary n)) = eq-eqb n n refl
self_mark (Scope (Literal n)) = eq-eqb n n refl

-- ---- how often a mark stands in acts

module _ (m : Mark) where
  abbrev pub one : Mark → ℕ
  one k = bit (same_mark k m)

  -- scopes of temporaries
  abbrev pub scopes_of : List ℕ → ℕ
  scopes_of [] = 0
  scopes_of (n ∷ ns) = one (Scope (Temporary n)) + scopes_of ns

  scopes_both : (xs ys : List ℕ) → scopes_of (xs ++ ys) ≡ scopes_of xs + scopes_of ys
  scopes_both [] ys = omega arith
  scopes_both (x ∷ xs) ys = let e = scopes_both xs ys in omega (arith, e)

  abbrev mutual
    pub marked : Control → ℕ
    marked (Do n r a) = one (Spot n r)
    marked (Choose n r arms) = one (Spot n r) + arms_marked arms
    marked (Loop n c b) = one (Spot n Turns) + (one (Spot n Chooses) + (all_marked c + all_marked b))
    marked (Break n) = one (Spot n Leaves)
    marked (Continue n) = one (Spot n Leaves)
    marked (Return n) = one (Spot n Leaves)
    marked (Call n p on) = one (Spot n Does)
    marked (Group n r b) = one (Spot n r) + all_marked b

    pub arms_marked : Arms → ℕ
    arms_marked No_arm = 0
    arms_marked (An_arm a rest) = all_marked a + arms_marked rest

    pub all_marked : Acts → ℕ
    all_marked Done = 0
    all_marked (Then s b) = marked s + all_marked b
    all_marked (Bind x l b) = one (Scope x) + all_marked b
    all_marked (Result x l b) = one (Scope x) + all_marked b

  mutual
    marked_is : (s : Control) → count same_mark m (marks s) ≡ marked s
    marked_is (Do n r a) = omega arith
    marked_is (Choose n r arms) = let e = arms_marked_is arms in omega (arith, e)
    marked_is (Loop n c b) =
        let d = count_both same_mark m (all_marks c) (all_marks b) in
        let e = all_marked_is c in
        let f = all_marked_is b in omega (arith, d, e, f)
    marked_is (Break n) = omega arith
    marked_is (Continue n) = omega arith
    marked_is (Return n) = omega arith
    marked_is (Call n p on) = omega arith
    marked_is (Group n r b) = let e = all_marked_is b in omega (arith, e)

    arms_marked_is : (arms : Arms) → count same_mark m (arm_marks arms) ≡ arms_marked arms
    arms_marked_is No_arm = refl
    arms_marked_is (An_arm a rest) =
        let d = count_both same_mark m (all_marks a) (arm_marks rest) in
        let e = all_marked_is a in
        let f = arms_marked_is rest in omega (arith, d, e, f)

    pub all_marked_is : (b : Acts) → count same_mark m (all_marks b) ≡ all_marked b
    all_marked_is Done = refl
    all_marked_is (Then s b) =
        let d = count_both same_mark m (marks s) (all_marks b) in
        let e = marked_is s in
        let f = all_marked_is b in omega (arith, d, e, f)
    all_marked_is (Bind x l b) = let e = all_marked_is b in omega (arith, e)
    all_marked_is (Result x l b) = let e = all_marked_is b in omega (arith, e)

  -- with the scopes of the temporaries that they make
  abbrev mutual
    pub weight : Control → ℕ
    weight (Do n r a) = one (Spot n r) + scopes_of (makes a)
    weight (Choose n r arms) = one (Spot n r) + arms_weight arms
    weight (Loop n c b) = marked (Loop n c b)
    weight (Break n) = one (Spot n Leaves)
    weight (Continue n) = one (Spot n Leaves)
    weight (Return n) = one (Spot n Leaves)
    weight (Call n p on) = one (Spot n Does)
    weight (Group n r b) = one (Spot n r) + all_marked b

    pub arms_weight : Arms → ℕ
    arms_weight No_arm = 0
    arms_weight (An_arm a rest) = all_weight a + arms_weight rest

    pub all_weight : Acts → ℕ
    all_weight Done = 0
    all_weight (Then s b) = weight s + all_weight b
    all_weight (Bind x l b) = one (Scope x) + all_marked b
    all_weight (Result x l b) = one (Scope x) + all_marked b

  mutual
    weight_is : (s : Control) → weight s ≡ marked s + scopes_of (made s)
    weight_is (Do n r a) = refl
    weight_is (Choose n r arms) = let e = arms_weight_is arms in omega (arith, e)
    weight_is (Loop n c b) = omega arith
    weight_is (Break n) = omega arith
    weight_is (Continue n) = omega arith
    weight_is (Return n) = omega arith
    weight_is (Call n p on) = omega arith
    weight_is (Group n r b) = omega arith

    arms_weight_is : (arms : Arms) → arms_weight arms ≡ arms_marked arms + scopes_of (made_in arms)
    arms_weight_is No_arm = refl
    arms_weight_is (An_arm a rest) =
        let d = scopes_both (all_made a) (made_in rest) in
        let e = all_weight_is a in
        let f = arms_weight_is rest in omega (arith, d, e, f)

    all_weight_is : (b : Acts) → all_weight b ≡ all_marked b + scopes_of (all_made b)
    all_weight_is Done = refl
    all_weight_is (Then s b) =
        let d = scopes_both (made s) (all_made b) in
        let e = weight_is s in
        let f = all_weight_is b in omega (arith, d, e, f)
    all_weight_is (Bind x l b) = omega arith
    all_weight_is (Result x l b) = omega arith

  pub marked_within : (b : Acts) → all_marked b ≤ all_weight b
  marked_within b = let e = all_weight_is b in omega (arith, e)

  bound_marked : (ns : List ℕ) (b : Acts) → all_marked (bound ns b) ≡ scopes_of ns + all_marked b
  bound_marked [] b = omega arith
  bound_marked (n ∷ ns) b = let e = bound_marked ns b in omega (arith, e)

  bound_weight : (ns : List ℕ) (b : Acts) → all_weight b ≡ all_marked b + scopes_of ns → all_weight (bound ns b) ≡ all_weight b
  bound_weight [] b e = refl
  bound_weight (n ∷ ns) b e = let f = bound_marked ns b in omega (arith, e, f)

  -- with what they make ended, they weigh as much
  pub ended_weight : (b : Acts) → all_weight (ended b) ≡ all_weight b
  ended_weight b = bound_weight (all_made b) b (all_weight_is b)
