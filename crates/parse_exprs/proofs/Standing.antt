-- Where tokens stand.
use Rattle.std.proofs.Common.{◌≡◌, ℕ, zero, suc, ◌<◌, ◌+◌, List, [], ◌∷◌, length, drop, Bool, true, false, refl, sym, ap, add-one, ◌∙◌, arith}
use Rattle.indent_scanner.specs.declared.token.Token.{Token}
use Rattle.parse_exprs.specs.Run.{behind}

pub behind_is : (n : ℕ) (ts : List Token) → behind (drop n ts) ≡ drop (suc n) ts
behind_is zero [] = refl
behind_is (suc n) [] = refl
behind_is zero (tok ∷ ts) = refl
behind_is (suc n) (tok ∷ ts) = behind_is n ts

pub behind_one : (n : ℕ) (ts : List Token) → behind (drop n ts) ≡ drop (n + 1) ts
behind_one n ts = behind_is n ts ∙ ap (λ m. drop m ts) (sym (add-one n))

pub behind_two : (n : ℕ) (ts : List Token) → behind (behind (drop n ts)) ≡ drop (n + 2) ts
behind_two n ts = let e : suc (suc n) ≡ n + 2 = omega arith in ap behind (behind_is n ts) ∙ behind_is (suc n) ts ∙ ap (λ m. drop m ts) e

-- the first token, and those from the next on
pub head_one : (n : ℕ) (ts : List Token) {tok : Token} → drop n ts ≡ tok ∷ drop (suc n) ts → drop n ts ≡ tok ∷ drop (n + 1) ts
head_one n ts {tok} e = e ∙ ap (λ m. tok ∷ drop m ts) (sym (add-one n))

true_false : {b : Bool} {X : Type 0} → b ≡ false → b ≡ true → X
true_false e h = cc

-- where a test passes that fails at the end, a token stands
pub stands : (is : List Token → Bool) (n : ℕ) (ts : List Token) → is [] ≡ false → is (drop n ts) ≡ true → n < length ts
stands is zero [] e h = true_false e h
stands is (suc n) [] e h = true_false e h
stands is zero (tok ∷ ts) e h = omega arith
stands is (suc n) (tok ∷ ts) e h = let g = stands is n ts e h in omega (arith, g)

pub plus_one : (n : ℕ) (ts : List Token) → drop (suc n) ts ≡ drop (n + 1) ts
plus_one n ts = ap (λ m. drop m ts) (sym (add-one n))

pub behind_next : (n : ℕ) (ts : List Token) → behind (drop (n + 1) ts) ≡ drop (n + 2) ts
behind_next n ts = let e : suc (n + 1) ≡ n + 2 = omega arith in behind_is (n + 1) ts ∙ ap (λ m. drop m ts) e
