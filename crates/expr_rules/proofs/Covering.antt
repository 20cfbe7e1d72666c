-- What labels cover.
use Rattle.std.proofs.Common.{◌≡◌, ℕ, zero, suc, ◌+◌, ◌≤◌, ◌<◌, Bool, true, false, List, [], ◌∷◌, length, refl, sym, subst, arith, ap}
use Rattle.std.specs.Prelude.{ℤ, pos, ◌+ℤ◌, ◌||◌, ◌&&◌, int_le, int_lt, Option, Some, None}
use Rattle.nim_program.specs.Program.{Label, Ordinals, Exactly}
use Rattle.expr_rules.specs.Choices.{has_value, has_any, or_last, last_with, goes_on, are_covered}
use Rattle.expr_rules.specs.Laws.{IsCovered, Covering}

some_one : {A : Type 0} {a b : A} → ◌≡◌ {A = Option A} (Some a) (Some b) → a ≡ b
some_one e = cc

and_parts : (b c : Bool) → (b && c) ≡ true → (b ≡ true) × (c ≡ true)
and_parts true true e = (refl, refl)
and_parts true false e = cc
and_parts false c e = cc

and_both : {b c : Bool} → b ≡ true → c ≡ true → (b && c) ≡ true
and_both {b} {c} e f = cc

or_first : {b : Bool} (c : Bool) → b ≡ true → (b || c) ≡ true
or_first c e = ap (λ b. b || c) e

or_next : (b : Bool) {c : Bool} → c ≡ true → (b || c) ≡ true
or_next true e = refl
or_next false e = e

or_neither : (b c : Bool) → (b || c) ≡ false → (b ≡ false) × (c ≡ false)
or_neither true c e = cc
or_neither false c e = (refl, e)

neither_or : {b c : Bool} → b ≡ false → c ≡ false → (b || c) ≡ false
neither_or {b} {c} e f = cc

between : (a f z b : ℤ) → int_le a f ≡ true → int_le f z ≡ true → int_le z b ≡ true → (int_le a z && int_le z b) ≡ true
between a f z b h g i = and_both (grind arith) i

-- ---- the last value of a label that has a number

-- the label of the last value has what lies between
last_has : (from last z : ℤ) (labels : List Label) → last_with from labels ≡ Some last → int_le from z ≡ true → int_le z last ≡ true
    → has_any z labels ≡ true
last_has from last z [] e h g = cc
last_has from last z (Exactly s ∷ rest) e h g = last_has from last z rest e h g
last_has from last z (Ordinals a b ∷ rest) e h g = by_head (λ e. last_has from last z rest e h g) (has_value from (Ordinals a b)) refl e
  where
    by_head : (last_with from rest ≡ Some last → has_any z rest ≡ true) → (c : Bool) → has_value from (Ordinals a b) ≡ c
        → or_last c (Ordinals a b) (last_with from rest) ≡ Some last → has_any z (Ordinals a b ∷ rest) ≡ true
    by_head more true i e =
        or_first _ (between a from z b (and_parts (int_le a from) (int_le from b) i).0 h (subst (λ l. int_le z l ≡ true) (sym (some_one e)) g))
    by_head more false i e = or_next _ (more e)

-- and it isn't below the number
last_reaches : (from last : ℤ) (labels : List Label) → last_with from labels ≡ Some last → int_le from last ≡ true
last_reaches from last [] e = cc
last_reaches from last (Exactly s ∷ rest) e = last_reaches from last rest e
last_reaches from last (Ordinals a b ∷ rest) e = by_head (λ e. last_reaches from last rest e) (has_value from (Ordinals a b)) refl e
  where
    by_head : (last_with from rest ≡ Some last → int_le from last ≡ true) → (c : Bool) → has_value from (Ordinals a b) ≡ c
        → or_last c (Ordinals a b) (last_with from rest) ≡ Some last → int_le from last ≡ true
    by_head more true i e = subst (λ l. int_le from l ≡ true) (some_one e) (and_parts (int_le a from) (int_le from b) i).1
    by_head more false i e = more e

none_has : (from : ℤ) (labels : List Label) → last_with from labels ≡ None → has_any from labels ≡ false
none_has from [] e = refl
none_has from (Exactly s ∷ rest) e = none_has from rest e
none_has from (Ordinals a b ∷ rest) e = by_head (λ e. none_has from rest e) (has_value from (Ordinals a b)) refl e
  where
    by_head : (last_with from rest ≡ None → has_any from rest ≡ false) → (c : Bool) → has_value from (Ordinals a b) ≡ c
        → or_last c (Ordinals a b) (last_with from rest) ≡ None
        → has_any from (Ordinals a b ∷ rest) ≡ false
    by_head more true i e = cc
    by_head more false i e = neither_or i (more e)

-- ---- what is found to be covered is covered

beyond : {C : Type 0} (from to z : ℤ) → int_lt to from ≡ true → int_le from z ≡ true → int_le z to ≡ true → C
beyond from to z e h g = grind arith

pub covered_so : (n : ℕ) (from to : ℤ) (labels : List Label) → are_covered n from to labels ≡ true → IsCovered from to labels
covered_so zero from to labels e z h g = beyond from to z e h g
covered_so (suc n) from to labels e z h g = by_end (λ next e j. covered_so n next to labels e z j g) (int_lt to from) refl e
  where
    by_side : ((next : ℤ) → are_covered n next to labels ≡ true → int_le next z ≡ true → has_any z labels ≡ true) → (last : ℤ) →
        last_with from labels ≡ Some last → are_covered n (last +ℤ pos 1) to labels ≡ true → (c : Bool)
        → int_le (last +ℤ pos 1) z ≡ c → has_any z labels ≡ true
    by_side more last i e true j = more (last +ℤ pos 1) e j
    by_side more last i e false j = last_has from last z labels i h (grind arith)

    by_last : ((next : ℤ) → are_covered n next to labels ≡ true → int_le next z ≡ true → has_any z labels ≡ true) → (l : Option ℤ) → last_with from labels ≡ l →
        goes_on l (λ next. are_covered n next to labels) ≡ true → has_any z labels ≡ true
    by_last more None i e = cc
    by_last more (Some last) i e = by_side more last i e (int_le (last +ℤ pos 1) z) refl

    by_end : ((next : ℤ) → are_covered n next to labels ≡ true → int_le next z ≡ true → has_any z labels ≡ true) → (c : Bool) → int_lt to from ≡ c →
        (c || goes_on (last_with from labels) (λ next. are_covered n next to labels)) ≡ true
        → has_any z labels ≡ true
    by_end more true i e = beyond from to z i h g
    by_end more false i e = by_last more (last_with from labels) refl e

-- ---- what isn't found to be covered isn't

one_if : Bool → ℕ
one_if true = 1
one_if false = 0

-- the labels that end at a number or behind it
abbrev ahead : ℤ → List Label → ℕ
ahead z [] = 0
ahead z (Exactly s ∷ rest) = ahead z rest
ahead z (Ordinals a b ∷ rest) = one_if (int_le z b) + ahead z rest

fewer : (c d : Bool) → (c ≡ true → d ≡ true) → one_if c ≤ one_if d
unfolding one_if
fewer false d h = omega arith
fewer true true h = omega arith
fewer true false h = let e : false ≡ true = h refl in cc

ahead_falls : (x y : ℤ) (labels : List Label) → int_le x y ≡ true → ahead y labels ≤ ahead x labels
ahead_falls x y [] h = omega arith
ahead_falls x y (Exactly s ∷ rest) h = ahead_falls x y rest h
ahead_falls x y (Ordinals a b ∷ rest) h =
    let head : one_if (int_le y b) ≤ one_if (int_le x b) = fewer (int_le y b) (int_le x b) (λ e. grind arith) in
    let tail : ahead y rest ≤ ahead x rest = ahead_falls x y rest h in
    omega (arith, head, tail)

past_end : (from last : ℤ) → int_le from last ≡ true → one_if (int_le (last +ℤ pos 1) last) < one_if (int_le from last)
unfolding one_if
past_end from last h =
    let e : int_le (last +ℤ pos 1) last ≡ false = grind arith in
    subst (λ c. one_if (int_le (last +ℤ pos 1) last) < one_if c) (sym h) (subst (λ c. one_if c < 1) (sym e) (omega arith))

ahead_less : (from last : ℤ) (labels : List Label) → last_with from labels ≡ Some last → ahead (last +ℤ pos 1) labels < ahead from labels
ahead_less from last [] e = cc
ahead_less from last (Exactly s ∷ rest) e = ahead_less from last rest e
ahead_less from last (Ordinals a b ∷ rest) e = by_head (λ e. ahead_less from last rest e) (has_value from (Ordinals a b)) refl e
  where
    by_head : (last_with from rest ≡ Some last → ahead (last +ℤ pos 1) rest < ahead from rest) → (c : Bool)
        → has_value from (Ordinals a b) ≡ c → or_last c (Ordinals a b) (last_with from rest) ≡ Some last
        → ahead (last +ℤ pos 1) (Ordinals a b ∷ rest) < ahead from (Ordinals a b ∷ rest)
    by_head more true i e =
        let reach : int_le from b ≡ true = (and_parts (int_le a from) (int_le from b) i).1 in
        let head : one_if (int_le (b +ℤ pos 1) b) < one_if (int_le from b) = past_end from b reach in
        let tail : ahead (b +ℤ pos 1) rest ≤ ahead from rest = ahead_falls from (b +ℤ pos 1) rest (grind arith) in
        subst (λ l. ahead (l +ℤ pos 1) (Ordinals a b ∷ rest) < ahead from (Ordinals a b ∷ rest)) (some_one e) (omega (arith, head, tail))
    by_head more false i e =
        let reach : int_le from last ≡ true = last_reaches from last rest e in
        let head : one_if (int_le (last +ℤ pos 1) b) ≤ one_if (int_le from b) = fewer (int_le (last +ℤ pos 1) b) (int_le from b) (λ j. grind arith) in
        let tail : ahead (last +ℤ pos 1) rest < ahead from rest = more e in
        omega (arith, head, tail)

-- a number that no label has
Missing : ℤ → ℤ → List Label → Type 0
Missing from to labels = (z : ℤ) × ((int_le from z ≡ true) × (int_le z to ≡ true) × (has_any z labels ≡ false))

none_below : (n : ℕ) → n < 0 → ⊥
none_below n h = omega arith

missing : (n : ℕ) (from to : ℤ) (labels : List Label) → ahead from labels < n → are_covered n from to labels ≡ false → Missing from to labels
unfolding Missing
missing zero from to labels s e = absurd (none_below (ahead from labels) s)
missing (suc n) from to labels s e =
    by_last (λ next s e. missing n next to labels s e) (last_with from labels) refl (or_neither (int_lt to from) _ e).1 (or_neither (int_lt to from) _ e).0
  where
    by_last : ((next : ℤ) → ahead next labels < n → are_covered n next to labels ≡ false → Missing next to labels) → (l : Option ℤ)
        → last_with from labels ≡ l → goes_on l (λ next. are_covered n next to labels) ≡ false → int_lt to from ≡ false
        → Missing from to labels
    by_last more None i e j = (from, (grind arith, grind arith, none_has from labels i))
    by_last more (Some last) i e j =
        let less : ahead (last +ℤ pos 1) labels < ahead from labels = ahead_less from last labels i in
        let found : Missing (last +ℤ pos 1) to labels = more (last +ℤ pos 1) (omega (arith, less, s)) e in
        let reach : int_le from last ≡ true = last_reaches from last labels i in
        let behind : int_le (last +ℤ pos 1) found.0 ≡ true = found.1.0 in
        (found.0, (grind arith, found.1.1, found.1.2))

ahead_most : (z : ℤ) (labels : List Label) → ahead z labels ≤ length labels
unfolding one_if
ahead_most z [] = omega arith
ahead_most z (Exactly s ∷ rest) = let tail : ahead z rest ≤ length rest = ahead_most z rest in omega (arith, tail)
ahead_most z (Ordinals a b ∷ rest) =
    let head : one_if (int_le z b) ≤ one_if true = fewer (int_le z b) true (λ e. refl) in
    let tail : ahead z rest ≤ length rest = ahead_most z rest in
    omega (arith, head, tail)

pub covering : Covering
unfolding Missing
covering from to labels = (λ e. covered_so (suc (length labels)) from to labels e, λ h. by_answer h (are_covered (suc (length labels)) from to labels) refl)
  where
    by_answer : IsCovered from to labels → (c : Bool) → are_covered (suc (length labels)) from to labels ≡ c
        → are_covered (suc (length labels)) from to labels ≡ true
    by_answer h true e = e
    by_answer h false e =
        let most : ahead from labels ≤ length labels = ahead_most from labels in
        let found : Missing from to labels = missing (suc (length labels)) from to labels (omega (arith, most)) e in
        let one : has_any found.0 labels ≡ true = h found.0 found.1.0 found.1.1 in
        let none : has_any found.0 labels ≡ false = found.1.2 in
        cc
