-- Where the first stray byte stands.
use Rattle.std.proofs.Common.{◌≡◌, ℕ, zero, suc, ◌+◌, ◌<◌, List, [], ◌∷◌, length, get_or, Bool, true, false, refl, sym, ap, ◌∙◌, arith, add-one}
use Rattle.std.specs.Prelude.{Option, Some, None, cond}
use Rattle.indent_scanner.specs.declared.shape.Shape.{Shape}
use Rattle.indent_scanner.specs.ByForm.{may_hold, one_more, stray_in}
use Rattle.indent_scanner.proofs.Bools.{by_test}

is_next : (s : Shape) (n b : ℕ) (bytes : List ℕ) (v : Bool) → may_hold s b (get_or bytes 0 0) ≡ v → stray_in s (suc n) (b ∷ bytes)
    ≡ cond v (one_more (stray_in s n bytes)) (Some 0)
is_next s n b bytes v e = ap (λ w. cond w (one_more (stray_in s n bytes)) (Some 0)) e

none_before : (o : Option ℕ) → one_more o ≡ None → o ≡ None
none_before None e = refl
none_before (Some k) e = cc

-- the rest of a clean front is clean
clean_rest : (s : Shape) (n b : ℕ) (bytes : List ℕ) → stray_in s (suc n) (b ∷ bytes) ≡ None → (may_hold s b (get_or bytes 0 0) ≡ true)
    × (stray_in s n bytes ≡ None)
clean_rest s n b bytes e = by_test _ (may_hold s b (get_or bytes 0 0)) (λ t. (t, none_before _ (sym (is_next s n b bytes true t) ∙ e)))
    (λ t. let g = is_next s n b bytes false t in (let f : ⊥ = cc in absurd f))

clean_suc : (n : ℕ) (bytes : List ℕ) (s : Shape) → n < length bytes → stray_in s n bytes ≡ None → may_hold s (get_or bytes n 0) (get_or bytes (suc n) 0) ≡ true
    → stray_in s (suc n) bytes ≡ None
clean_suc n [] s lt e t = (let f : ⊥ = omega arith in absurd f)
clean_suc zero (b ∷ bytes) s lt e t = is_next s 0 b bytes true t
clean_suc (suc n) (b ∷ bytes) s lt e t =
    let r = clean_rest s n b bytes e in
    is_next s (suc n) b bytes true r.0 ∙ ap one_more (clean_suc n bytes s (omega arith) r.1 t)

pub clean_more : (n : ℕ) (bytes : List ℕ) (s : Shape) → n < length bytes → stray_in s n bytes ≡ None → may_hold s (get_or bytes n 0) (get_or bytes (n + 1) 0)
    ≡ true → stray_in s (n + 1) bytes ≡ None
clean_more n bytes s lt e t = rw (add-one n) (clean_suc n bytes s lt e (rw (add-one n) at t))

stray_suc : (n len : ℕ) (bytes : List ℕ) (s : Shape) → n < len → n < length bytes → stray_in s n bytes ≡ None
    → may_hold s (get_or bytes n 0) (get_or bytes (suc n) 0) ≡ false → stray_in s len bytes ≡ Some n
stray_suc n len [] s less lt e t = (let f : ⊥ = omega arith in absurd f)
stray_suc n zero (b ∷ bytes) s less lt e t = (let f : ⊥ = omega arith in absurd f)
stray_suc zero (suc len) (b ∷ bytes) s less lt e t = is_next s len b bytes false t
stray_suc (suc n) (suc len) (b ∷ bytes) s less lt e t =
    let r = clean_rest s n b bytes e in
    is_next s len b bytes true r.0 ∙ ap one_more (stray_suc n len bytes s (omega arith) (omega arith) r.1 t)

pub stray_here : (n len : ℕ) (bytes : List ℕ) (s : Shape) → n < len → n < length bytes → stray_in s n bytes ≡ None
    → may_hold s (get_or bytes n 0) (get_or bytes (n + 1) 0) ≡ false → stray_in s len bytes ≡ Some n
stray_here n len bytes s less lt e t = stray_suc n len bytes s less lt e (rw (add-one n) at t)
