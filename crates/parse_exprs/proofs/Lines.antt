-- On which line a token stands.
use Rattle.std.proofs.Common.{◌≡◌, ℕ, zero, suc, ◌<◌, ◌≤◌, ◌-◌, List, [], ◌∷◌, length, take, get_or, refl, sym, ap, ◌∙◌, arith}
use Rattle.std.specs.Prelude.{Some, None}
use Rattle.indent_scanner.specs.declared.token.Token.{Token}
use Rattle.parse_exprs.specs.Look.{spaces_or, last_spaces}

last_taken : (n j : ℕ) (ts : List Token) (other : Token) → j < length ts → last_spaces n (take (suc j) ts) ≡ spaces_or (last_spaces n (take j ts))
    (get_or ts j other).indent
last_taken n j [] other lt = (let f : ⊥ = omega (arith, lt) in absurd f)
last_taken n zero (tok ∷ ts) other lt = refl
last_taken n (suc j) (tok ∷ ts) other lt = last_taken (spaces_or n tok.indent) j ts other (omega (arith, lt))

last_before : (left : ℕ) (ts : List Token) (other : Token) → 0 < left → left ≤ length ts → last_spaces 0 (take left ts)
    ≡ spaces_or (last_spaces 0 (take (left - 1) ts)) (get_or ts (left - 1) other).indent
last_before left ts other lt le =
    let is : left ≡ suc (left - 1) = omega (arith, lt) in
    ap (λ k. last_spaces 0 (take k ts)) is ∙ last_taken 0 (left - 1) ts other (omega (arith, lt, le))

pub begins_line : (left spaces : ℕ) (ts : List Token) (other : Token) → 0 < left → left ≤ length ts → (get_or ts (left - 1) other).indent ≡ Some spaces
    → last_spaces 0 (take left ts) ≡ spaces
begins_line left spaces ts other lt le e = last_before left ts other lt le ∙ ap (λ o. spaces_or (last_spaces 0 (take (left - 1) ts)) o) e

pub on_line : (left : ℕ) (ts : List Token) (other : Token) → 0 < left → left ≤ length ts → (get_or ts (left - 1) other).indent ≡ None
    → last_spaces 0 (take (left - 1) ts) ≡ last_spaces 0 (take left ts)
on_line left ts other lt le e = sym (last_before left ts other lt le ∙ ap (λ o. spaces_or (last_spaces 0 (take (left - 1) ts)) o) e)
