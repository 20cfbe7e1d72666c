-- The form of an integer is what the grammar says, with its value.
use Rattle.std.proofs.Common.{◌≡◌, ℕ, zero, suc, ◌+◌, ◌*◌, ◌-◌, ◌≤◌, ◌⊎◌, inl, inr, min, List, [], ◌∷◌, ◌++◌, length, Bool, true, false, refl, sym, ap, subst}
use Rattle.std.proofs.Common.{◌∙◌, arith}
use Rattle.std.specs.Prelude.{Option, Some, None, cond, ◌==◌, ◌&&◌, ◌||◌, nat_le, nat_lt}
use Rattle.std.proofs.Math.Nat.{mul-le-mul_left}
use Rattle.std.proofs.lemmas.Bool.{eqb-true, ne_eqb, le-leb}
use Rattle.indent_scanner.specs.declared.shape.Shape.{Shape}
use Rattle.indent_scanner.specs.declared.shape.Shape.TheVariants.{Number, NumberUnder, BrokenNumber}
use Rattle.indent_scanner.specs.Bytes.{is_in, is_word, is_letter, is_digit, hex_value, below, digit_value}
use Rattle.indent_scanner.specs.Shape.{form, and_then, with_digit, digit_step, digit_due_step}
use Rattle.indent_scanner.specs.Grammar.{Digits, digits_done, digits_more, digits_under}
use Rattle.indent_scanner.proofs.Bools.{or_left, or_right, in_range}

-- ---- a value that no integer has is kept as the first of these

abbrev pub cap : ℕ → ℕ
cap value = min value 2147483648

large : (x base d : ℕ) → 1 ≤ base → 2147483648 ≤ x → 2147483648 ≤ x * base + d
large x base d one le = let e = mul-le-mul_left x one in omega (arith, e, le)

either_side : (v : ℕ) → (v ≤ 2147483648) ⊎ (2147483648 ≤ v)
either_side v = grind arith

cap_small : (v : ℕ) → v ≤ 2147483648 → cap v ≡ v
cap_small v le = omega arith

cap_large : (v : ℕ) → 2147483648 ≤ v → cap v ≡ 2147483648
cap_large v le = omega arith

cap_step : (base v d : ℕ) → 1 ≤ base → cap (cap v * base + d) ≡ cap (v * base + d)
cap_step base v d one = by_side (either_side v)
  where
    by_side : (v ≤ 2147483648) ⊎ (2147483648 ≤ v) → cap (cap v * base + d) ≡ cap (v * base + d)
    by_side (inl le) = ap (λ x. cap (x * base + d)) (cap_small v le)
    by_side (inr ge) = ap (λ x. cap (x * base + d)) (cap_large v ge) ∙ cap_large _ (large 2147483648 base d one (omega arith))
        ∙ sym (cap_large _ (large v base d one ge))

-- ---- digits are bytes of words

is_within : (low high b : ℕ) → low ≤ b → b ≤ high → is_in low high b ≡ true
is_within low high b le ge = ap (λ v. v && nat_le b high) (le-leb low b le) ∙ le-leb b high ge

abbrev IsPlain : ℕ → Type 0
IsPlain b = (is_word b ≡ true) × ((b == 95) ≡ false)

hex_plain : (b d : ℕ) → hex_value b ≡ Some d → IsPlain b
hex_plain b d e = by_tests (is_digit b) (is_in 97 102 b) (is_in 65 70 b) refl refl refl e
  where
    by_tests : (u v w : Bool) → is_digit b ≡ u → is_in 97 102 b ≡ v → is_in 65 70 b ≡ w
        → cond u (Some (b - 48)) (cond v (Some (b - 87)) (cond w (Some (b - 55)) None)) ≡ Some d → IsPlain b
    by_tests true v w e f g h =
        let r = in_range 48 57 b e in
        (or_right (is_letter b) (is_digit b || b == 95) (or_left (is_digit b) (b == 95) e), ne_eqb b 95 (λ n. omega (arith, n, r.1)))
    by_tests false true w e f g h =
        let r = in_range 97 102 b f in (
          or_left (is_letter b) _ (or_right (is_in 65 90 b) (is_in 97 122 b) (is_within 97 122 b r.0 (omega (arith, r.1)))),
          ne_eqb b 95 (λ n. omega (arith, n, r.0)),
        )
    by_tests false false true e f g h =
        let r = in_range 65 70 b g in (
          or_left (is_letter b) _ (or_left (is_in 65 90 b) (is_in 97 122 b) (is_within 65 90 b r.0 (omega (arith, r.1)))),
          ne_eqb b 95 (λ n. omega (arith, n, r.1)),
        )
    by_tests false false false e f g h = cc

below_from : (base d : ℕ) (o : Option ℕ) → below base o ≡ Some d → o ≡ Some d
below_from base d None e = cc
below_from base d (Some k) e = by_test (nat_lt k base) e
  where
    by_test : (v : Bool) → cond v (Some k) None ≡ Some d → Some k ≡ Some d
    by_test true e = e
    by_test false e = cc

digit_plain : (base b d : ℕ) → digit_value base b ≡ Some d → IsPlain b
digit_plain base b d e = hex_plain b d (below_from base d (hex_value b) e)

-- ---- one byte

abbrev after : Option Shape → ℕ → List ℕ → Option Shape
after o n bytes = and_then o (λ t. form t n bytes)

two_tests : {A : Type 0} (v w x y : Bool) (a b c : A) → v ≡ x → w ≡ y → cond v (cond w a b) c ≡ cond x (cond y a b) c
two_tests v w x y a b c e f = ap (λ z. cond z (cond w a b) c) e ∙ ap (λ z. cond x (cond z a b) c) f

digit_goes : (base v b d : ℕ) → 1 ≤ base → digit_value base b ≡ Some d → digit_step base (cap v) b ≡ Some (Number base (cap (v * base + d)))
digit_goes base v b d one e =
    let p = digit_plain base b d e in
    two_tests (is_word b) (b == 95) true false (Some (NumberUnder base (cap v))) (Some (with_digit base (cap v) (digit_value base b))) None p.0 p.1
    ∙ ap (λ o. Some (with_digit base (cap v) o)) e ∙ ap (λ x. Some (Number base x)) (cap_step base v d one)

due_goes : (base v b d : ℕ) → 1 ≤ base → digit_value base b ≡ Some d → digit_due_step base (cap v) b ≡ Some (Number base (cap (v * base + d)))
due_goes base v b d one e =
    let p = digit_plain base b d e in
    ap (λ z. cond z (Some (with_digit base (cap v) (digit_value base b))) None) p.0
    ∙ ap (λ o. Some (with_digit base (cap v) o)) e ∙ ap (λ x. Some (Number base x)) (cap_step base v d one)

-- ---- from the grammar

pub digits_to : (base value whole : ℕ) (text rest : List ℕ) → 1 ≤ base → Digits base value text whole → form (Number base (min value 2147483648)) (length text)
    (text ++ rest) ≡ Some (Number base (min whole 2147483648))
digits_to base value _ _ rest one (digits_done _) = refl
digits_to base value whole _ rest one (digits_more _ b d _ text e h) = ap (λ o. after o (length text) (text ++ rest)) (digit_goes base value b d one e)
    ∙ digits_to base (value * base + d) whole text rest one h
digits_to base value whole _ rest one (digits_under _ b d _ text e h) = ap (λ o. after o (length text) (text ++ rest)) (due_goes base value b d one e)
    ∙ digits_to base (value * base + d) whole text rest one h

-- ---- to the grammar

broken_step : (v : Bool) (n : ℕ) (bytes : List ℕ) (t : Shape) → (form BrokenNumber n bytes ≡ Some t → t ≡ BrokenNumber)
    → after (cond v (Some BrokenNumber) None) n bytes ≡ Some t → t ≡ BrokenNumber
broken_step true n bytes t h e = h e
broken_step false n bytes t h e = cc

broken_stays : (n : ℕ) (bytes : List ℕ) (t : Shape) → form BrokenNumber n bytes ≡ Some t → t ≡ BrokenNumber
broken_stays zero bytes t e = cc
broken_stays (suc n) [] t e = cc
broken_stays (suc n) (b ∷ bytes) t e = broken_step (is_word b) n bytes t (broken_stays n bytes t) e

-- a value that the text goes on to
abbrev GoesTo : ℕ → ℕ → List ℕ → ℕ → Type 0
GoesTo base value text got = (whole : ℕ) × Digits base value text whole × (got ≡ cap whole)

record FromText (base : ℕ) (text rest : List ℕ) : Type 0 where
  sound : (v got : ℕ) → form (Number base (cap v)) (length text) (text ++ rest) ≡ Some (Number base got) → GoesTo base v text got
  under : (v got : ℕ) → form (NumberUnder base (cap v)) (length text) (text ++ rest) ≡ Some (Number base got) → GoesTo base v (95 ∷ text) got

with_from : (base v got b : ℕ) (text rest : List ℕ) (o : Option ℕ) → 1 ≤ base → FromText base text rest → after (Some (with_digit base (cap v) o)) (length text)
    (text ++ rest) ≡ Some (Number base got) → (d : ℕ) × (o ≡ Some d) × GoesTo base (v * base + d) text got
with_from base v got b text rest None one h e = (let g = broken_stays (length text) (text ++ rest) (Number base got) e in let f : ⊥ = cc in absurd f)
with_from base v got b text rest (Some d) one h e =
    (d, refl, h.sound (v * base + d) got (subst (λ x. form (Number base x) (length text) (text ++ rest) ≡ Some (Number base got)) (cap_step base v d one) e))

sound_from : (base v got b : ℕ) (text rest : List ℕ) → 1 ≤ base → FromText base text rest → after (digit_step base (cap v) b) (length text) (text ++ rest)
    ≡ Some (Number base got) → GoesTo base v (b ∷ text) got
sound_from base v got b text rest one h e = by_tests (is_word b) (b == 95) refl refl e
  where
    by_tests : (x y : Bool) → is_word b ≡ x → (b == 95) ≡ y
        → after (cond x (cond y (Some (NumberUnder base (cap v))) (Some (with_digit base (cap v) (digit_value base b)))) None) (length text) (text ++ rest)
        ≡ Some (Number base got) → GoesTo base v (b ∷ text) got
    by_tests false y p q e = (let f : ⊥ = cc in absurd f)
    by_tests true true p q e = subst (λ x. GoesTo base v (x ∷ text) got) (sym (eqb-true b 95 q)) (h.under v got e)
    by_tests true false p q e =
        let w = with_from base v got b text rest (digit_value base b) one h e in
        (w.2.0, digits_more v b w.0 w.2.0 text w.1 w.2.1, w.2.2)

due_from : (base v got b : ℕ) (text rest : List ℕ) → 1 ≤ base → FromText base text rest → after (digit_due_step base (cap v) b) (length text) (text ++ rest)
    ≡ Some (Number base got) → GoesTo base v (95 ∷ b ∷ text) got
due_from base v got b text rest one h e = by_test (is_word b) e
  where
    by_test : (x : Bool) → after (cond x (Some (with_digit base (cap v) (digit_value base b))) None) (length text) (text ++ rest) ≡ Some (Number base got)
        → GoesTo base v (95 ∷ b ∷ text) got
    by_test false e = (let f : ⊥ = cc in absurd f)
    by_test true e = let w = with_from base v got b text rest (digit_value base b) one h e in (w.2.0, digits_under v b w.0 w.2.0 text w.1 w.2.1, w.2.2)

from_text : (base : ℕ) (text rest : List ℕ) → 1 ≤ base → FromText base text rest
from_text base [] rest one = record {
  sound = λ v got e. (v, digits_done v, cc);
  under = λ v got e. (let f : ⊥ = cc in absurd f);
}
from_text base (b ∷ text) rest one = let before = from_text base text rest one in record {
  sound = λ v got e. sound_from base v got b text rest one before e;
  under = λ v got e. due_from base v got b text rest one before e;
}

pub digits_from : (base value got : ℕ) (text rest : List ℕ) → 1 ≤ base → form (Number base (min value 2147483648)) (length text) (text ++ rest)
    ≡ Some (Number base got) → (whole : ℕ) × Digits base value text whole × (got ≡ min whole 2147483648)
digits_from base value got text rest one e = let h = from_text base text rest one in h.sound value got e
