-- Lists, brackets and optional parts, as computations and as relations.
use Rattle.std.proofs.Common.{◌≡◌, ℕ, zero, suc, List, [], ◌∷◌, ◌++◌, Bool, true, false, refl, sym, subst, ◌∙◌, inl, inr}
use Rattle.std.specs.Prelude.{if◌then◌else◌, Option, Some, None}
use Rattle.indent_scanner.specs.declared.token.Token.{Token}
use Rattle.parse_decls.specs.Look.{behind}
use Rattle.parse_decls.specs.Outcome.{Why, stuck_at, tired, Out, got, bad, then_do, unless_stuck}
use Rattle.parse_decls.specs.Grammar.{Each, Listed, e_first, Perhaps, e_missing, e_present, Maybe, e_none, e_some, Closed}
use Rattle.parse_decls.specs.Faults.{FaultsEach, FaultsListed, f_first, f_next, FaultsPresent, FaultsClosed, f_inside, f_open}
use Rattle.parse_decls.proofs.Productions.{Parses, restated, Just, just, Then, FaultsThen, seq, Mapped, mapped, Guarded, FaultsGuarded, guarded, Either}
use Rattle.parse_decls.proofs.Productions.{FaultsEither, either, shifted}
use Rattle.parse_decls.proofs.Loops.{gathered, gathered_list, Loop, FaultsLoop, loop}

pub along : {B C : Type 0} (P : B → C → Type 0) {a c : B} {r s : C} → a ≡ c → r ≡ s → P c s → P a r
along P {a} {c} {r} {s} p q h = subst (λ b. P b r) (sym p) (subst (P c) (sym q) h)

-- ---- one after another

abbrev pub Gathers : {A C : Type 0} → (List Token → Bool) → (List Token → List Token) → (C → A → C) → (A → List Token → List Token → Type 0) → C → C
    → List Token → List Token → Type 0
Gathers {A = A} goes past add R c b ts rest = (all : List A) × (b ≡ gathered add c all) × Each goes past R all ts rest

pub gathers : {A C : Type 0} {item : ℕ → List Token → Out A} {R D : A → List Token → List Token → Type 0} {F : Why → List Token → Type 0}
    (goes : List Token → Bool) (past : List Token → List Token) (add : C → A → C) (run : ℕ → C → List Token → Out C)
    → Parses item R D F
    → ((c : C) (ts : List Token) → run zero c ts ≡ bad tired)
    → ((k : ℕ) (c : C) (ts : List Token) → run (suc k) c ts ≡ (if goes ts then then_do (item k (past ts)) (λ a mid. run k (add c a) mid) else got c ts))
    → (c : C) → Parses (λ k ts. run k c ts) (Gathers goes past add R c) (Gathers goes past add D c) (FaultsEach goes past D F)
gathers {A} {C} {item} {R} {D} {F} goes past add run p z e c =
    restated (loop goes past add (λ ts. true) (λ ts. ts) run p z e c) (λ b ts rest l. done D l) (λ b ts rest g. from D g) (λ b ts rest g. from R g) fault
    (λ why ts w. inl w)
  where
    done : (R : A → List Token → List Token → Type 0) {b : C} {ts rest : List Token} → Loop goes past add (λ ts. true) (λ ts. ts) R c b ts rest
        → Gathers goes past add R c b ts rest
    done R {b} {ts} {rest} l = (l.0, l.2, subst (λ r. Each goes past R l.0 ts r) (sym l.5) l.3)

    from : (R : A → List Token → List Token → Type 0) {b : C} {ts rest : List Token} → Gathers goes past add R c b ts rest → Loop goes past add (λ ts. true)
        (λ ts. ts) R c b ts rest
    from R {b} {ts} {rest} g = (g.0, rest, g.1, g.2, refl, refl)

    not_true : {X : Type 0} → true ≡ false → X
    not_true h = cc

    fault : (why : Why) (ts : List Token) → FaultsLoop goes past (λ ts. true) D F why ts → FaultsEach goes past D F why ts
    fault why ts (inl w) = w
    fault why ts (inr w) = not_true w.3

-- a list
pub each : {A : Type 0} {item : ℕ → List Token → Out A} {R D : A → List Token → List Token → Type 0} {F : Why → List Token → Type 0}
    (goes : List Token → Bool) (past : List Token → List Token) (run : ℕ → List A → List Token → Out (List A))
    → Parses item R D F
    → ((c : List A) (ts : List Token) → run zero c ts ≡ bad tired)
    → ((k : ℕ) (c : List A) (ts : List Token) → run (suc k) c ts ≡ (if goes ts then then_do (item k (past ts)) (λ a mid. run k (c ++ a ∷ []) mid)
    else got c ts))
    → Parses (λ k ts. run k [] ts) (Each goes past R) (Each goes past D) (FaultsEach goes past D F)
each {A} {item} {R} {D} {F} goes past run p z e =
    restated (gathers goes past (λ c a. c ++ a ∷ []) run p z e []) (λ b ts rest g. done D g) (λ b ts rest d. from D d) (λ b ts rest d. from R d) (λ why ts w. w)
    (λ why ts w. w)
  where
    done : (R : A → List Token → List Token → Type 0) {b : List A} {ts rest : List Token} → Gathers goes past (λ c a. c ++ a ∷ []) R [] b ts rest
        → Each goes past R b ts rest
    done R {b} {ts} {rest} g = subst (λ all. Each goes past R all ts rest) (sym (g.1 ∙ gathered_list [] g.0)) g.2

    from : (R : A → List Token → List Token → Type 0) {b : List A} {ts rest : List Token} → Each goes past R b ts rest
        → Gathers goes past (λ c a. c ++ a ∷ []) R [] b ts rest
    from R {b} {ts} {rest} d = (b, sym (gathered_list [] b), d)

-- a first one, and more
pub listed : {A : Type 0} {first item : ℕ → List Token → Out A} {P Q R D : A → List Token → List Token → Type 0} {F G : Why → List Token → Type 0}
    (goes : List Token → Bool) (past : List Token → List Token) (run : ℕ → List A → List Token → Out (List A))
    → Parses first P Q G → Parses item R D F
    → ((c : List A) (ts : List Token) → run zero c ts ≡ bad tired)
    → ((k : ℕ) (c : List A) (ts : List Token) → run (suc k) c ts ≡ (if goes ts then then_do (item k (past ts)) (λ a mid. run k (c ++ a ∷ []) mid)
    else got c ts))
    → Parses (λ k ts. then_do (first k ts) (λ a mid. run k (a ∷ []) mid)) (Listed P goes past R) (Listed Q goes past D) (FaultsListed Q G goes past D F)
listed {A} {first} {item} {P} {Q} {R} {D} {F} {G} goes past run o p z e =
    restated (seq o (λ a. gathers goes past (λ c a. c ++ a ∷ []) run p z e (a ∷ []))) (λ b ts rest g. done Q D g) (λ b ts rest d. from Q D d)
    (λ b ts rest d. from P R d) fault back
  where
    Both : (P R : A → List Token → List Token → Type 0) → List A → List Token → List Token → Type 0
    Both P R = Then P (λ a. Gathers goes past (λ c a. c ++ a ∷ []) R (a ∷ []))

    done : (P R : A → List Token → List Token → Type 0) {b : List A} {ts rest : List Token} → Then P (λ a. Gathers goes past (λ c a. c ++ a ∷ []) R (a ∷ [])) b
        ts rest → Listed P goes past R b ts rest
    done P R {b} {ts} {rest} g = subst (λ all. Listed P goes past R all ts rest) (sym (g.3.1 ∙ gathered_list (g.0 ∷ []) g.3.0)) (e_first g.2 g.3.2)

    from : (P R : A → List Token → List Token → Type 0) {b : List A} {ts rest : List Token} → Listed P goes past R b ts rest
        → Then P (λ a. Gathers goes past (λ c a. c ++ a ∷ []) R (a ∷ [])) b ts rest
    from P R (e_first {a = a} {all = all} {mid = mid} f t) = (a, mid, f, (all, sym (gathered_list (a ∷ []) all), t))

    fault : (why : Why) (ts : List Token) → FaultsThen Q G (λ a. FaultsEach goes past D F) why ts → FaultsListed Q G goes past D F why ts
    fault why ts (inl w) = f_first w
    fault why ts (inr w) = f_next w.2 w.3

    back : (why : Why) (ts : List Token) → FaultsListed Q G goes past D F why ts → FaultsThen Q G (λ a. FaultsEach goes past D F) why ts
    back why ts (f_first w) = inl w
    back why ts (f_next {a = a} {mid = mid} d w) = inr (a, mid, d, w)

-- ---- in brackets

pub closed : {A : Type 0} {f : ℕ → List Token → Out A} {R D : A → List Token → List Token → Type 0} {F : Why → List Token → Type 0} (closes : List Token → Bool)
    → Parses f R D F
    → Parses (λ k ts. then_do (f k (behind ts)) (λ a mid. unless_stuck (closes mid) mid (got a (behind mid)))) (Closed closes R) (Closed closes D)
    (FaultsClosed closes D F)
closed {A} {f} {R} {D} {F} closes p =
    restated (seq (shifted behind p) (λ a. guarded closes (shifted behind (just a)))) (λ a ts rest d. done D d) (λ a ts rest c. from D c)
    (λ a ts rest c. from R c) fault back
  where
    done : (R : A → List Token → List Token → Type 0) {a : A} {ts rest : List Token}
        → Then (λ a ts rest. R a (behind ts) rest) (λ a. Guarded closes (λ b ts rest. Just a b (behind ts) rest)) a ts rest → Closed closes R a ts rest
    done R {a} {ts} {rest} d = record { end = d.1; inside = subst (λ a. R a (behind ts) d.1) (sym d.3.1.0) d.2; closed = d.3.0; next = d.3.1.1 }

    from : (R : A → List Token → List Token → Type 0) {a : A} {ts rest : List Token} → Closed closes R a ts rest
        → Then (λ a ts rest. R a (behind ts) rest) (λ a. Guarded closes (λ b ts rest. Just a b (behind ts) rest)) a ts rest
    from R {a} {ts} {rest} c = (a, c.end, c.inside, (c.closed, (refl, c.next)))

    fault : (why : Why) (ts : List Token) → FaultsThen (λ a ts rest. D a (behind ts) rest) (λ why ts. F why (behind ts))
        (λ a. FaultsGuarded closes (λ why ts. ⊥)) why ts → FaultsClosed closes D F why ts
    fault why ts (inl w) = f_inside w
    fault why ts (inr w) = elim w.3 [ inl v ↦ f_open w.2 v.0 v.1 | inr v ↦ absurd v.1 ]

    back : (why : Why) (ts : List Token) → FaultsClosed closes D F why ts → FaultsThen (λ a ts rest. D a (behind ts) rest) (λ why ts. F why (behind ts))
        (λ a. FaultsGuarded closes (λ why ts. ⊥)) why ts
    back why ts (f_inside w) = inl w
    back why ts (f_open {a = a} {end = end} d o w) = inr (a, end, d, inl (o, w))

-- a list in brackets, by a loop that ends with the bracket
pub closed_list : {A : Type 0} {item : ℕ → List Token → Out A} {R D : A → List Token → List Token → Type 0} {F : Why → List Token → Type 0}
    (goes : List Token → Bool) (past : List Token → List Token) (closes : List Token → Bool) (run : ℕ → List A → List Token → Out (List A))
    → Parses item R D F
    → ((c : List A) (ts : List Token) → run zero c ts ≡ bad tired)
    → ((k : ℕ) (c : List A) (ts : List Token) → run (suc k) c ts ≡ (if goes ts then then_do (item k (past ts)) (λ a mid. run k (c ++ a ∷ []) mid)
    else unless_stuck (closes ts) ts (got c (behind ts))))
    → Parses (λ k ts. then_do (item k (behind ts)) (λ a mid. run k (a ∷ []) mid)) (Closed closes (Listed R goes past R)) (Closed closes (Listed D goes past D))
    (FaultsClosed closes (Listed D goes past D) (FaultsListed D F goes past D F))
closed_list {A} {item} {R} {D} {F} goes past closes run p z e =
    restated (seq (shifted behind p) (λ a. loop goes past (λ c a. c ++ a ∷ []) closes behind run p z e (a ∷ []))) (λ b ts rest g. done D g)
    (λ b ts rest d. from D d) (λ b ts rest d. from R d) fault back
  where
    done : (R : A → List Token → List Token → Type 0) {b : List A} {ts rest : List Token} → Then (λ a ts rest. R a (behind ts) rest)
        (λ a. Loop goes past (λ c a. c ++ a ∷ []) closes behind R (a ∷ [])) b ts rest
        → Closed closes (Listed R goes past R) b ts rest
    done R {b} {ts} {rest} g = record {
      end = g.3.1;
      inside = subst (λ all. Listed R goes past R all (behind ts) g.3.1) (sym (g.3.2 ∙ gathered_list (g.0 ∷ []) g.3.0)) (e_first g.2 g.3.3);
      closed = g.3.4;
      next = g.3.5;
    }

    open_list : (R : A → List Token → List Token → Type 0) {b : List A} (ts : List Token) {rest : List Token} (end : List Token)
        → Listed R goes past R b (behind ts) end → closes end ≡ true → rest ≡ behind end
        → Then (λ a ts rest. R a (behind ts) rest) (λ a. Loop goes past (λ c a. c ++ a ∷ []) closes behind R (a ∷ [])) b ts rest
    open_list R ts end (e_first {a = a} {all = all} {mid = mid} f t) o r = (a, mid, f, (all, end, sym (gathered_list (a ∷ []) all), t, o, r))

    from : (R : A → List Token → List Token → Type 0) {b : List A} {ts rest : List Token} → Closed closes (Listed R goes past R) b ts rest
        → Then (λ a ts rest. R a (behind ts) rest) (λ a. Loop goes past (λ c a. c ++ a ∷ []) closes behind R (a ∷ [])) b ts rest
    from R {ts = ts} c = open_list R ts c.end c.inside c.closed c.next

    fault : (why : Why) (ts : List Token) → FaultsThen (λ a ts rest. D a (behind ts) rest) (λ why ts. F why (behind ts))
        (λ a. FaultsLoop goes past closes D F) why ts
        → FaultsClosed closes (Listed D goes past D) (FaultsListed D F goes past D F) why ts
    fault why ts (inl w) = f_inside (f_first w)
    fault why ts (inr w) = elim w.3 [ inl v ↦ f_inside (f_next w.2 v) | inr v ↦ f_open (e_first w.2 v.2) v.3 v.4 ]

    inside : (why : Why) (ts : List Token) → FaultsListed D F goes past D F why (behind ts) → FaultsThen (λ a ts rest. D a (behind ts) rest)
        (λ why ts. F why (behind ts)) (λ a. FaultsLoop goes past closes D F) why ts
    inside why ts (f_first w) = inl w
    inside why ts (f_next {a = a} {mid = mid} d w) = inr (a, mid, d, inl w)

    open_fault : {b : List A} (why : Why) (ts end : List Token) → Listed D goes past D b (behind ts) end → closes end ≡ false → why ≡ stuck_at end
        → FaultsThen (λ a ts rest. D a (behind ts) rest) (λ why ts. F why (behind ts)) (λ a. FaultsLoop goes past closes D F) why ts
    open_fault why ts end (e_first {a = a} {all = all} {mid = mid} f t) o w = inr (a, mid, f, inr (all, end, t, o, w))

    back : (why : Why) (ts : List Token) → FaultsClosed closes (Listed D goes past D) (FaultsListed D F goes past D F) why ts
        → FaultsThen (λ a ts rest. D a (behind ts) rest) (λ why ts. F why (behind ts)) (λ a. FaultsLoop goes past closes D F) why ts
    back why ts (f_inside w) = inside why ts w
    back why ts (f_open {end = end} d o w) = open_fault why ts end d o w

-- ---- optional parts

abbrev pub FaultsHere : (List Token → Bool) → (Why → List Token → Type 0) → Why → List Token → Type 0
FaultsHere goes F = FaultsEither goes F (λ why ts. ⊥)

pub fault_present : {goes : List Token → Bool} {F : Why → List Token → Type 0} (why : Why) (ts : List Token) → FaultsHere goes F why ts
    → FaultsPresent goes F why ts
fault_present why ts (inl w) = record { begins = w.0; at = w.1 }
fault_present why ts (inr w) = absurd w.1

pub present_fault : {goes : List Token → Bool} {F : Why → List Token → Type 0} (why : Why) (ts : List Token) → FaultsPresent goes F why ts
    → FaultsHere goes F why ts
present_fault why ts w = inl (w.begins, w.at)

pub perhaps : {A : Type 0} {f : ℕ → List Token → Out A} {R D : A → List Token → List Token → Type 0} {F : Why → List Token → Type 0} (goes : List Token → Bool)
    (none : A) → Parses f R D F
    → Parses (λ k ts. if goes ts then f k ts else got none ts) (Perhaps goes none R) (Perhaps goes none D) (FaultsPresent goes F)
perhaps {A} {f} {R} {D} {F} goes none p = restated (either goes p (just none)) (λ a ts rest e. done D e) (λ a ts rest d. from D d)
    (λ a ts rest d. from R d) fault_present present_fault
  where
    done : (R : A → List Token → List Token → Type 0) {a : A} {ts rest : List Token} → Either goes R (Just none) a ts rest → Perhaps goes none R a ts rest
    done R (inl e) = e_present e.0 e.1
    done R {a} {ts} {rest} (inr e) = along (λ a r. Perhaps goes none R a ts r) e.1.0 e.1.1 (e_missing e.0)

    from : (R : A → List Token → List Token → Type 0) {a : A} {ts rest : List Token} → Perhaps goes none R a ts rest → Either goes R (Just none) a ts rest
    from R (e_missing n) = inr (n, (refl, refl))
    from R (e_present g d) = inl (g, d)

pub maybe : {A : Type 0} {f : ℕ → List Token → Out A} {R D : A → List Token → List Token → Type 0} {F : Why → List Token → Type 0} (goes : List Token → Bool)
    → Parses f R D F
    → Parses (λ k ts. if goes ts then then_do (f k ts) (λ a rest. got (Some a) rest) else got None ts) (Maybe goes R) (Maybe goes D) (FaultsPresent goes F)
maybe {A} {f} {R} {D} {F} goes p = restated (either goes (mapped Some p) (just None)) (λ a ts rest e. done D e) (λ a ts rest d. from D d)
    (λ a ts rest d. from R d) fault_present present_fault
  where
    done : (R : A → List Token → List Token → Type 0) {a : Option A} {ts rest : List Token} → Either goes (Mapped Some R) (Just None) a ts rest
        → Maybe goes R a ts rest
    done R {a} {ts} {rest} (inl e) = subst (λ o. Maybe goes R o ts rest) (sym e.1.1) (e_some e.0 e.1.2)
    done R {a} {ts} {rest} (inr e) = along (λ a r. Maybe goes R a ts r) e.1.0 e.1.1 (e_none e.0)

    from : (R : A → List Token → List Token → Type 0) {a : Option A} {ts rest : List Token} → Maybe goes R a ts rest
        → Either goes (Mapped Some R) (Just None) a ts rest
    from R (e_none n) = inr (n, (refl, refl))
    from R (e_some {a = a} g d) = inl (g, (a, refl, d))
