-- Repetitions and optional parts.
use Rattle.std.proofs.Common.{◌≡◌, ℕ, zero, suc, List, [], ◌∷◌, ◌++◌, Bool, true, false, sym, ap₂, ◌∙◌, inl, inr, append_assoc, append-nil}
use Rattle.std.specs.Prelude.{◌⊎◌, if◌then◌else◌}
use Rattle.indent_scanner.specs.declared.token.Token.{Token}
use Rattle.parse_decls.specs.Outcome.{Why, stuck_at, tired, Out, got, bad, then_do, unless_stuck, Settles}
use Rattle.parse_decls.specs.Grammar.{Each, e_over, e_next}
use Rattle.parse_decls.specs.Faults.{FaultsEach, f_here, f_later}
use Rattle.parse_decls.proofs.Settling.{Led, then_got, then_bad, unless_got, unless_bad, settles_suc, settles_then, settles_bad, settles_unless, settles_stuck}
use Rattle.parse_decls.proofs.Settling.{got_one, got_bad, settles_if, settles_else, Branch, if_split}
use Rattle.parse_decls.proofs.Productions.{IsDeep, Parses, bad_one, settles_why}

-- ---- what a loop gathers

abbrev pub gathered : {A C : Type 0} → (C → A → C) → C → List A → C
gathered add c [] = c
gathered add c (a ∷ all) = gathered add (add c a) all

pub gathered_list : {A : Type 0} (some all : List A) → gathered (λ some a. some ++ a ∷ []) some all ≡ some ++ all
gathered_list some [] = sym (append-nil some)
gathered_list some (a ∷ all) = gathered_list (some ++ a ∷ []) all ∙ append_assoc some (a ∷ []) all

-- one after another, and then what ends them
abbrev pub Loop : {A C : Type 0} → (List Token → Bool) → (List Token → List Token) → (C → A → C) → (List Token → Bool) → (List Token → List Token)
    → (A → List Token → List Token → Type 0) → C → C → List Token → List Token → Type 0
Loop {A = A} goes past add over beyond R c b ts rest = (all : List A) × (end : List Token) × (b ≡ gathered add c all) × Each goes past R all ts end
    × (over end ≡ true) × (rest ≡ beyond end)

abbrev pub FaultsLoop : {A : Type 0} → (List Token → Bool) → (List Token → List Token) → (List Token → Bool) → (A → List Token → List Token → Type 0)
    → (Why → List Token → Type 0) → Why → List Token → Type 0
FaultsLoop {A = A} goes past over D F why ts = FaultsEach goes past D F why ts
    ⊎ ((all : List A) × (end : List Token) × Each goes past D all ts end × (over end ≡ false) × (why ≡ stuck_at end))

pub loop : {A C : Type 0} {item : ℕ → List Token → Out A} {R D : A → List Token → List Token → Type 0} {F : Why → List Token → Type 0}
    (goes : List Token → Bool) (past : List Token → List Token) (add : C → A → C) (over : List Token → Bool) (beyond : List Token → List Token)
    (run : ℕ → C → List Token → Out C)
    → Parses item R D F
    → ((c : C) (ts : List Token) → run zero c ts ≡ bad tired)
    → ((k : ℕ) (c : C) (ts : List Token) → run (suc k) c ts ≡ (if goes ts then then_do (item k (past ts)) (λ a mid. run k (add c a) mid)
    else unless_stuck (over ts) ts (got c (beyond ts))))
    → (c : C) → Parses (λ k ts. run k c ts) (Loop goes past add over beyond R c) (Loop goes past add over beyond D c) (FaultsLoop goes past over D F)
loop {A} {C} {item} {R} {D} {F} goes past add over beyond run p z e = λ c. record {
  sound = λ k ts b rest h. sound k c ts b rest h;
  complete = λ b ts rest d. complete c b ts rest d.0 d.1 d.2 d.3 d.4 d.5;
  deep = λ b ts rest r. deep c b ts rest r.0 r.1 r.2 r.3 r.4 r.5;
  stops = λ k ts why h. stops k c ts why h;
  faults = λ why ts w. elim w [ inl v ↦ faults why c ts v | inr v ↦ ends why c ts v.0 v.1 v.2 v.3 v.4 ];
}
  where
    split : {o : Out C} (k : ℕ) (c : C) (ts : List Token) → run (suc k) c ts ≡ o
        → Branch (goes ts) true (then_do (item k (past ts)) (λ a mid. run k (add c a) mid)) o ⊎ Branch (goes ts) false
        (unless_stuck (over ts) ts (got c (beyond ts))) o
    split k c ts h = if_split (goes ts) (then_do (item k (past ts)) (λ a mid. run k (add c a) mid)) (unless_stuck (over ts) ts (got c (beyond ts)))
        (sym (e k c ts) ∙ h)

    settles_next : {o : Out C} (c : C) (ts : List Token) → goes ts ≡ true → Settles (λ k. then_do (item k (past ts)) (λ a mid. run k (add c a) mid)) o
        → Settles (λ k. run k c ts) o
    settles_next c ts g h = settles_suc (settles_if (λ k. unless_stuck (over ts) ts (got c (beyond ts))) g h) (λ k. e k c ts)

    settles_last : {o : Out C} (c : C) (ts : List Token) → goes ts ≡ false → Settles (λ k. unless_stuck (over ts) ts (got c (beyond ts))) o
        → Settles (λ k. run k c ts) o
    settles_last c ts g h = settles_suc (settles_else (λ k. then_do (item k (past ts)) (λ a mid. run k (add c a) mid)) g h) (λ k. e k c ts)

    ended : (c : C) (ts : List Token) (b : C) (rest : List Token) → goes ts ≡ false → unless_stuck (over ts) ts (got c (beyond ts)) ≡ got b rest
        → Loop goes past add over beyond D c b ts rest
    ended c ts b rest n h =
        let u : (over ts ≡ true) × (got c (beyond ts) ≡ got b rest) = unless_got (over ts) ts (got c (beyond ts)) h in
        let g : (c ≡ b) × (beyond ts ≡ rest) = got_one u.1 in
        ([], ts, sym g.0, e_over n, u.0, sym g.1)

    again : (k : ℕ) (c : C) (ts : List Token) (b : C) (rest : List Token) → goes ts ≡ true → then_do (item k (past ts)) (λ a mid. run k (add c a) mid)
        ≡ got b rest
        → ((c : C) (mid : List Token) → run k c mid ≡ got b rest → Loop goes past add over beyond D c b mid rest) → Loop goes past add over beyond D c b ts rest
    again k c ts b rest g h later =
        let led : Led (item k (past ts)) (λ a mid. run k (add c a) mid) (got b rest) = then_got (item k (past ts)) (λ a mid. run k (add c a) mid) h in
        let l : Loop goes past add over beyond D (add c led.value) b led.mid rest = later (add c led.value) led.mid led.next in
        (led.value ∷ l.0, l.1, l.2, e_next g (p.sound k (past ts) led.value led.mid led.first) l.3, l.4, l.5)

    sound : (k : ℕ) (c : C) (ts : List Token) (b : C) (rest : List Token) → run k c ts ≡ got b rest → Loop goes past add over beyond D c b ts rest
    sound zero c ts b rest h = got_bad (sym h ∙ z c ts)
    sound (suc k) c ts b rest h = elim (split k c ts h) [
      | inl g ↦ again k c ts b rest g.is g.same (λ c mid i. sound k c mid b rest i)
      | inr g ↦
          ended c ts b rest g.is g.same
    ]

    complete : (c b : C) (ts rest : List Token) (all : List A) (end : List Token) → b ≡ gathered add c all → Each goes past D all ts end → over end ≡ true
        → rest ≡ beyond end → Settles (λ k. run k c ts) (got b rest)
    complete c b ts rest all end q (e_over n) o r = settles_last c ts n (settles_unless ts o (record { steps = 0; same = λ k le. sym (ap₂ got q r) }))
    complete c b ts rest all end q (e_next {a = a} {all = others} {mid = mid} g d t) o r =
        settles_next c ts g (settles_then (λ k a mid. run k (add c a) mid) (p.complete a (past ts) mid d) (complete (add c a) b mid rest others end q t o r))

    deep : (c b : C) (ts rest : List Token) (all : List A) (end : List Token) → b ≡ gathered add c all → Each goes past R all ts end → over end ≡ true
        → rest ≡ beyond end
        → Loop goes past add over beyond D c b ts rest ⊎ IsDeep (λ k. run k c ts)
    deep c b ts rest all end q (e_over n) o r = inl ([], ts, q, e_over n, o, r)
    deep c b ts rest all end q (e_next {a = a} {all = others} {mid = mid} g d t) o r = elim (p.deep a (past ts) mid d) [
      | inl f ↦ elim (deep (add c a) b mid rest others end q t o r) [
        | inl l ↦ inl (a ∷ l.0, l.1, l.2, e_next g f l.3, l.4, l.5)
        | inr h ↦ inr (record { at = h.at; runs = settles_next c ts g (settles_then (λ k a mid. run k (add c a) mid) (p.complete a (past ts) mid f) h.runs) })
      ]
      | inr h ↦ inr (record { at = h.at; runs = settles_next c ts g (settles_bad (λ k a mid. run k (add c a) mid) h.runs) })
    ]

    last_stops : (c : C) (ts : List Token) (why : Why) → goes ts ≡ false → unless_stuck (over ts) ts (got c (beyond ts)) ≡ bad why
        → (why ≡ tired) ⊎ FaultsLoop goes past over D F why ts
    last_stops c ts why n h = elim (unless_bad (over ts) ts (got c (beyond ts)) h) [
      | inl s ↦ inr (inr ([], ts, e_over n, s.not, s.at))
      | inr s ↦
          got_bad s.same
    ]

    later_stops : (a : A) (ts mid : List Token) (why : Why) → goes ts ≡ true → D a (past ts) mid → FaultsLoop goes past over D F why mid
        → FaultsLoop goes past over D F why ts
    later_stops a ts mid why g d (inl w) = inl (f_later g d w)
    later_stops a ts mid why g d (inr w) = inr (a ∷ w.0, w.1, e_next g d w.2, w.3, w.4)

    next_stops : (k : ℕ) (c : C) (ts : List Token) (why : Why) → goes ts ≡ true → then_do (item k (past ts)) (λ a mid. run k (add c a) mid) ≡ bad why
        → ((c : C) (mid : List Token) → run k c mid ≡ bad why → (why ≡ tired) ⊎ FaultsLoop goes past over D F why mid)
        → (why ≡ tired) ⊎ FaultsLoop goes past over D F why ts
    next_stops k c ts why g h later = elim (then_bad (item k (past ts)) (λ a mid. run k (add c a) mid) h) [
      | inl b ↦ elim (p.stops k (past ts) why b) [ inl t ↦ inl t | inr w ↦ inr (inl (f_here g w)) ]
      | inr led ↦ elim (later (add c led.value) led.mid led.next) [
        | inl t ↦ inl t
        | inr w ↦
            inr (later_stops led.value ts led.mid why g (p.sound k (past ts) led.value led.mid led.first) w)
      ]
    ]

    stops : (k : ℕ) (c : C) (ts : List Token) (why : Why) → run k c ts ≡ bad why → (why ≡ tired) ⊎ FaultsLoop goes past over D F why ts
    stops zero c ts why h = inl (bad_one (sym h ∙ z c ts))
    stops (suc k) c ts why h = elim (split k c ts h) [
      | inl g ↦ next_stops k c ts why g.is g.same (λ c mid i. stops k c mid why i)
      | inr g ↦
          last_stops c ts why g.is g.same
    ]

    faults : (why : Why) (c : C) (ts : List Token) → FaultsEach goes past D F why ts → Settles (λ k. run k c ts) (bad why)
    faults why c ts (f_here g w) = settles_next c ts g (settles_bad (λ k a mid. run k (add c a) mid) (p.faults why (past ts) w))
    faults why c ts (f_later {a = a} {mid = mid} g d w) =
        settles_next c ts g (settles_then (λ k a mid. run k (add c a) mid) (p.complete a (past ts) mid d) (faults why (add c a) mid w))

    ends : (why : Why) (c : C) (ts : List Token) (all : List A) (end : List Token) → Each goes past D all ts end → over end ≡ false → why ≡ stuck_at end
        → Settles (λ k. run k c ts) (bad why)
    ends why c ts all end (e_over n) o y = settles_last c ts n (settles_why y (settles_stuck (λ k. got c (beyond ts)) ts o))
    ends why c ts all end (e_next {a = a} {all = others} {mid = mid} g d t) o y =
        settles_next c ts g (settles_then (λ k a mid. run k (add c a) mid) (p.complete a (past ts) mid d) (ends why (add c a) mid others end t o y))
