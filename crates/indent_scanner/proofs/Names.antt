-- Names without `_` and in lower case, byte by byte.
use Rattle.std.proofs.Common.{◌≡◌, ◌≢◌, ℕ, zero, suc, ◌≤◌, List, [], ◌∷◌, length, get_or, drop, true, false, refl, ap, ◌∙◌, arith}
use Rattle.std.specs.Prelude.{◌==◌, ◌&&◌, Some, None}
use Rattle.std.proofs.lemmas.List.{drop_all}
use Rattle.std.proofs.lemmas.Bool.{eqb-true, eqb-false, eq-eqb, ne_eqb}
use Rattle.std.proofs.lemmas.Bool.Decides.{nat_tests}
use Rattle.indent_scanner.specs.Words.{folded, same, is_named, or_else, first_keys, more_keys, left_keys, other_left_keys, key_of}
use Rattle.indent_scanner.specs.declared.token.Key.{Key}

pub folded_ends : (bytes : List ℕ) (i : ℕ) → length bytes ≤ i → folded (drop i bytes) ≡ []
folded_ends bytes i le = ap folded (drop_all i bytes le)

-- ---- comparing

pub named_empty : (name key : List ℕ) → (length name == 0) ≡ true → (length key == 0) ≡ is_named name key
unfolding is_named
named_empty [] [] e = refl
named_empty [] (k ∷ key) e = ne_eqb (length (k ∷ key)) 0 (λ n. omega (arith, n))
named_empty (x ∷ name) key e = (let n = eqb-true (length (x ∷ name)) 0 e in let f : ⊥ = omega (arith, n) in absurd f)

pub named_none : (name key : List ℕ) → (length name == 0) ≡ false → (length key == 0) ≡ true → false ≡ is_named name key
unfolding is_named
named_none [] key e g = absurd (eqb-false 0 0 e refl)
named_none (x ∷ name) [] e g = refl
named_none (x ∷ name) (k ∷ key) e g = (let n = eqb-true (length (k ∷ key)) 0 g in let f : ⊥ = omega (arith, n) in absurd f)

named_some : (name key : List ℕ) → (length name == 0) ≡ false → (length key == 0) ≡ false
    → is_named name key ≡ ((get_or name 0 0 == get_or key 0 0) && same (folded (drop 1 name)) (drop 1 key))
unfolding is_named
named_some [] key e g = absurd (eqb-false 0 0 e refl)
named_some (x ∷ name) [] e g = absurd (eqb-false 0 0 g refl)
named_some (x ∷ name) (k ∷ key) e g = refl

pub named_goes : (name key : List ℕ) → (length name == 0) ≡ false → (length key == 0) ≡ false → get_or name 0 0 ≡ get_or key 0 0
    → is_named name key ≡ same (folded (drop 1 name)) (drop 1 key)
named_goes name key e g first = named_some name key e g ∙ ap (λ v. v && same (folded (drop 1 name)) (drop 1 key)) (eq-eqb _ _ first)

pub named_differs : (name key : List ℕ) → (length name == 0) ≡ false → (length key == 0) ≡ false → get_or name 0 0 ≢ get_or key 0 0 → is_named name key ≡ false
named_differs name key e g first = named_some name key e g ∙ ap (λ v. v && same (folded (drop 1 name)) (drop 1 key)) (ne_eqb _ _ first)

eq_suc : (a b : ℕ) → (suc a == suc b) ≡ (a == b)
eq_suc a b = grind (arith, nat_tests)

-- what is left of a name and of a key at their ends
pub same_ends : (key : List ℕ) (at : ℕ) → at ≤ length key → (at == length key) ≡ same [] (drop at key)
same_ends [] zero le = refl
same_ends [] (suc at) le = (let f : ⊥ = omega arith in absurd f)
same_ends (k ∷ key) zero le = ne_eqb 0 (length (k ∷ key)) (λ n. omega (arith, n))
same_ends (k ∷ key) (suc at) le = eq_suc at (length key) ∙ same_ends key at (omega arith)

-- ---- keywords

pub first_is : (name : List ℕ) (k : Key) → first_keys name ≡ Some k → key_of name ≡ Some k
unfolding key_of
first_is name k e = ap (λ o. or_else o (or_else (more_keys name) (or_else (left_keys name) (other_left_keys name)))) e

pub more_is : (name : List ℕ) (k : Key) → first_keys name ≡ None → more_keys name ≡ Some k → key_of name ≡ Some k
unfolding key_of
more_is name k none e = ap (λ o. or_else o (or_else (more_keys name) (or_else (left_keys name) (other_left_keys name)))) none
    ∙ ap (λ o. or_else o (or_else (left_keys name) (other_left_keys name))) e

pub left_is : (name : List ℕ) (k : Key) → first_keys name ≡ None → more_keys name ≡ None → left_keys name ≡ Some k → key_of name ≡ Some k
unfolding key_of
left_is name k none nor e = ap (λ o. or_else o (or_else (more_keys name) (or_else (left_keys name) (other_left_keys name)))) none
    ∙ ap (λ o. or_else o (or_else (left_keys name) (other_left_keys name))) nor ∙ ap (λ o. or_else o (other_left_keys name)) e

pub last_is : (name : List ℕ) → first_keys name ≡ None → more_keys name ≡ None → left_keys name ≡ None → key_of name ≡ other_left_keys name
unfolding key_of
last_is name none nor neither = ap (λ o. or_else o (or_else (more_keys name) (or_else (left_keys name) (other_left_keys name)))) none
    ∙ ap (λ o. or_else o (or_else (left_keys name) (other_left_keys name))) nor ∙ ap (λ o. or_else o (other_left_keys name)) neither
