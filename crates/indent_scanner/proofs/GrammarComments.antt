-- The form of a comment that nests is what the grammar says.
use Rattle.std.proofs.Common.{◌≡◌, ℕ, zero, suc, ◌+◌, ◌-◌, List, [], ◌∷◌, ◌++◌, length, Bool, true, false, refl, sym, ap, subst, ◌∙◌, arith, add-one}
use Rattle.std.specs.Prelude.{Some, cond, ◌==◌, ◌&&◌, ◌||◌, nat_le}
use Rattle.std.proofs.lemmas.Bool.{eqb-true, leb-true}
use Rattle.indent_scanner.specs.declared.shape.Last.{Last}
use Rattle.indent_scanner.specs.declared.shape.Last.TheVariants as L
use Rattle.indent_scanner.specs.declared.shape.Shape.{Shape}
use Rattle.indent_scanner.specs.declared.shape.Shape.TheVariants.{Nested, NestedWhole}
use Rattle.indent_scanner.specs.Shape.{form, nested_on, nested_step}
use Rattle.indent_scanner.specs.Grammar.{is_turn, NestedRest, nested_done, nested_opens, nested_closes, nested_other}
use Rattle.indent_scanner.proofs.Bools.{by_test}

-- reading on from a form
abbrev Closes : Shape → List ℕ → List ℕ → Type 0
Closes s text rest = form s (length text) (text ++ rest) ≡ Some NestedWhole

closed_once : (text rest : List ℕ) → Closes NestedWhole text rest → text ≡ []
closed_once [] rest e = refl
closed_once (b ∷ text) rest e = cc

-- what a byte is in a comment
data CommentByte (b : ℕ) : Type 0 where
  is_hash : (b == 35) ≡ true → CommentByte b
  is_bracket : (b == 35) ≡ false → (b == 93) ≡ true → CommentByte b
  is_other : (b == 35) ≡ false → (b == 93) ≡ false → CommentByte b

comment_byte : (b : ℕ) → CommentByte b
comment_byte b = by_test (b == 35) (b == 93) refl refl
  where
    by_test : (v w : Bool) → (b == 35) ≡ v → (b == 93) ≡ w → CommentByte b
    by_test true w e f = is_hash e
    by_test false true e f = is_bracket e f
    by_test false false e f = is_other e f

on_is : (depth b : ℕ) (v w : Bool) → (b == 35) ≡ v → (b == 93) ≡ w → nested_on depth b ≡ cond v (Nested depth L.Hash)
    (cond w (Nested depth L.Bracket) (Nested depth L.Other))
on_is depth b v w e f = ap (λ x. cond x (Nested depth L.Hash) (cond (b == 93) (Nested depth L.Bracket) (Nested depth L.Other))) e
    ∙ ap (λ x. cond v (Nested depth L.Hash) (cond x (Nested depth L.Bracket) (Nested depth L.Other))) f

on_hash : (depth b : ℕ) → (b == 35) ≡ true → nested_on depth b ≡ Nested depth L.Hash
on_hash depth b e = on_is depth b true (b == 93) e refl

-- the three states that reading on starts from
record FromText (text rest : List ℕ) : Type 0 where
  plain : (d : ℕ) → Closes (Nested (suc d) L.Other) text rest → NestedRest (suc d) text
  hash : (d : ℕ) → Closes (Nested (suc d) L.Hash) text rest → NestedRest (suc d) (35 ∷ text)
  bracket : (d : ℕ) → Closes (Nested (suc d) L.Bracket) text rest → NestedRest (suc d) (93 ∷ text)

-- a byte that turns nothing, before what follows
no_turn : (d b : ℕ) (text rest : List ℕ) → (b == 35) ≡ false → (b == 93) ≡ false → (Closes (Nested (suc d) L.Other) text rest → NestedRest (suc d) text)
    → Closes (Nested (suc d) L.Other) text rest → NestedRest (suc d) (b ∷ text)
no_turn d b [] rest e f h closes = cc
no_turn d b (c ∷ text) rest e f h closes = nested_other d b c text (ap (λ v. (v && c == 91) || (b == 93 && c == 35)) e ∙ ap (λ v. v && c == 35) f) (h closes)

moved : (s t : Shape) (text rest : List ℕ) → s ≡ t → Closes s text rest → Closes t text rest
moved s t text rest e h = subst (λ x. Closes x text rest) e h

-- a byte that is read as one behind another byte
on_from : (d b : ℕ) (text rest : List ℕ) → FromText text rest → CommentByte b → Closes (nested_on (suc d) b) text rest → NestedRest (suc d) (b ∷ text)
on_from d b text rest h (is_hash e) closes = subst (λ x. NestedRest (suc d) (x ∷ text)) (sym (eqb-true b 35 e))
    (h.hash d (moved (nested_on (suc d) b) (Nested (suc d) L.Hash) text rest (on_hash (suc d) b e) closes))
on_from d b text rest h (is_bracket e f) closes = subst (λ x. NestedRest (suc d) (x ∷ text)) (sym (eqb-true b 93 f))
    (h.bracket d (moved (nested_on (suc d) b) (Nested (suc d) L.Bracket) text rest (on_is (suc d) b false true e f) closes))
on_from d b text rest h (is_other e f) closes = no_turn d b text rest e f (h.plain d)
    (moved (nested_on (suc d) b) (Nested (suc d) L.Other) text rest (on_is (suc d) b false false e f) closes)

hash_from : (d b : ℕ) (text rest : List ℕ) → FromText text rest → Closes (nested_step (suc d) L.Hash b) text rest → NestedRest (suc d) (35 ∷ b ∷ text)
hash_from d b text rest h closes =
    by_test _ (b == 91)
    (λ e. let next : nested_step (suc d) L.Hash b ≡ Nested (suc (suc d)) L.Other = ap (λ v. cond v (Nested (suc d + 1) L.Other) (nested_on (suc d) b)) e
    ∙ ap (λ k. Nested k L.Other) (add-one (suc d)) in
    subst (λ x. NestedRest (suc d) (35 ∷ x ∷ text)) (sym (eqb-true b 91 e))
    (nested_opens d text (h.plain (suc d) (moved (nested_step (suc d) L.Hash b) (Nested (suc (suc d)) L.Other) text rest next closes))))
    (λ e. nested_other d 35 b text (ap (λ v. v || false) e)
    (on_from d b text rest h (comment_byte b)
    (moved (nested_step (suc d) L.Hash b) (nested_on (suc d) b) text rest
    (ap (λ v. cond v (Nested (suc d + 1) L.Other) (nested_on (suc d) b)) e) closes)))

closing_from : (d : ℕ) (text rest : List ℕ) → FromText text rest → Closes (cond (nat_le (suc d) 1) NestedWhole (Nested (suc d - 1) L.Other)) text rest
    → NestedRest d text
closing_from zero text rest h closes = subst (NestedRest 0) (sym (closed_once text rest closes)) nested_done
closing_from (suc d) text rest h closes =
    let more : nat_le (suc (suc d)) 1 ≡ false = by_test _ (nat_le (suc (suc d)) 1) (λ e. let f = leb-true (suc (suc d)) 1 e in absurd (omega (arith, f)))
    (λ e. e) in
    let less : suc (suc d) - 1 ≡ suc d = omega arith in
    h.plain d (moved _ (Nested (suc d) L.Other) text rest (ap (λ v. cond v NestedWhole (Nested (suc (suc d) - 1) L.Other)) more
    ∙ ap (λ k. Nested k L.Other) less) closes)

bracket_from : (d b : ℕ) (text rest : List ℕ) → FromText text rest → Closes (nested_step (suc d) L.Bracket b) text rest → NestedRest (suc d) (93 ∷ b ∷ text)
bracket_from d b text rest h closes =
    let next = cond (nat_le (suc d) 1) NestedWhole (Nested (suc d - 1) L.Other) in
    by_test _ (b == 35)
    (λ e. subst (λ x. NestedRest (suc d) (93 ∷ x ∷ text)) (sym (eqb-true b 35 e))
    (nested_closes d text
    (closing_from d text rest h (moved (nested_step (suc d) L.Bracket b) next text rest (ap (λ v. cond v next (nested_on (suc d) b)) e) closes))))
    (λ e. nested_other d 93 b text (ap (λ v. v) e)
    (on_from d b text rest h (comment_byte b)
    (moved (nested_step (suc d) L.Bracket b) (nested_on (suc d) b) text rest (ap (λ v. cond v next (nested_on (suc d) b)) e) closes)))

from_text : (text rest : List ℕ) → FromText text rest
from_text [] rest = record { plain = λ d e. cc; hash = λ d e. cc; bracket = λ d e. cc }
from_text (b ∷ text) rest = let before = from_text text rest in record {
  plain = λ d e. on_from d b text rest before (comment_byte b) e;
  hash = λ d e. hash_from d b text rest before e;
  bracket = λ d e. bracket_from d b text rest before e;
}

pub nested_from : (depth : ℕ) (text rest : List ℕ) → form (Nested (suc depth) L.Other) (length text) (text ++ rest) ≡ Some NestedWhole
    → NestedRest (suc depth) text
nested_from depth text rest e = let h = from_text text rest in h.plain depth e

-- ---- and back

-- behind a byte that turns nothing, the next one is read as at first
same_on : (d b c : ℕ) → is_turn b c ≡ false → CommentByte b → (k : Last) → nested_on (suc d) b ≡ Nested (suc d) k
    → nested_step (suc d) k c ≡ nested_on (suc d) c
same_on d b c turn byte L.Other e = refl
same_on d b c turn (is_hash f) L.Hash e = ap (λ v. cond v (Nested (suc d + 1) L.Other) (nested_on (suc d) c))
    (left_false (c == 91) (b == 93 && c == 35) (sym (ap (λ v. (v && c == 91) || (b == 93 && c == 35)) f) ∙ turn))
  where
    left_false : (v w : Bool) → (v || w) ≡ false → v ≡ false
    left_false true w e = cc
    left_false false w e = refl
same_on d b c turn (is_bracket f g) L.Hash e = let o = on_is (suc d) b false true f g in cc
same_on d b c turn (is_other f g) L.Hash e = let o = on_is (suc d) b false false f g in cc
same_on d b c turn (is_hash f) L.Bracket e = let o = on_hash (suc d) b f in cc
same_on d b c turn (is_bracket f g) L.Bracket e = ap (λ v. cond v (cond (nat_le (suc d) 1) NestedWhole (Nested (suc d - 1) L.Other)) (nested_on (suc d) c))
    (sym (ap (λ v. (v && c == 91) || (b == 93 && c == 35)) f ∙ ap (λ v. v && c == 35) g) ∙ turn)
same_on d b c turn (is_other f g) L.Bracket e = let o = on_is (suc d) b false false f g in cc

which : (d b : ℕ) → CommentByte b → (k : Last) × (nested_on (suc d) b ≡ Nested (suc d) k)
which d b (is_hash e) = (L.Hash, on_hash (suc d) b e)
which d b (is_bracket e f) = (L.Bracket, on_is (suc d) b false true e f)
which d b (is_other e f) = (L.Other, on_is (suc d) b false false e f)

closing_to : (d : ℕ) (text rest : List ℕ) → NestedRest d text → ((k : ℕ) → d ≡ suc k → Closes (Nested (suc k) L.Other) text rest)
    → Closes (cond (nat_le (suc d) 1) NestedWhole (Nested (suc d - 1) L.Other)) text rest
closing_to zero _ rest nested_done h = refl
closing_to (suc d) text rest n h =
    let more : nat_le (suc (suc d)) 1 ≡ false = by_test _ (nat_le (suc (suc d)) 1) (λ e. let f = leb-true (suc (suc d)) 1 e in absurd (omega (arith, f)))
    (λ e. e) in
    let less : suc (suc d) - 1 ≡ suc d = omega arith in
    moved (Nested (suc d) L.Other) _ text rest (sym (ap (λ v. cond v NestedWhole (Nested (suc (suc d) - 1) L.Other)) more ∙ ap (λ k. Nested k L.Other) less))
    (h d refl)

to_text : (depth : ℕ) (text rest : List ℕ) → NestedRest depth text → (d : ℕ) → depth ≡ suc d → Closes (Nested (suc d) L.Other) text rest
to_text _ _ rest nested_done d e = cc
to_text _ _ rest (nested_opens depth text n) d e =
    let same : depth ≡ d = cc in
    subst (λ k. Closes (Nested (suc k) L.Other) (35 ∷ 91 ∷ text) rest) same (moved (Nested (suc (suc depth)) L.Other) (Nested (suc depth + 1) L.Other) text rest
    (ap (λ k. Nested k L.Other) (sym (add-one (suc depth)))) (to_text (suc (suc depth)) text rest n (suc depth) refl))
to_text _ _ rest (nested_closes depth text n) d e =
    let same : depth ≡ d = cc in
    subst (λ k. Closes (Nested (suc k) L.Other) (93 ∷ 35 ∷ text) rest) same (closing_to depth text rest n (to_text depth text rest n))
to_text _ _ rest (nested_other depth b c text turn n) d e =
    let same : depth ≡ d = cc in let w = which depth b (comment_byte b) in
    subst (λ k. Closes (Nested (suc k) L.Other) (b ∷ c ∷ text) rest) same
    (moved (Nested (suc depth) w.0) (nested_on (suc depth) b) (c ∷ text) rest (sym w.1)
    (moved (nested_on (suc depth) c) (nested_step (suc depth) w.0 c) text rest (sym (same_on depth b c turn (comment_byte b) w.0 w.1))
    (to_text (suc depth) (c ∷ text) rest n depth refl)))

pub nested_to : (depth : ℕ) (text rest : List ℕ) → NestedRest (suc depth) text → form (Nested (suc depth) L.Other) (length text) (text ++ rest)
    ≡ Some NestedWhole
nested_to depth text rest n = to_text (suc depth) text rest n depth refl
