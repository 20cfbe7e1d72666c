-- Tests: by their outcomes, and of each byte of a list.
use Rattle.std.proofs.Common.{◌≡◌, ℕ, zero, suc, ◌≤◌, List, [], ◌∷◌, Bool, true, false, refl, sym, ap, subst, ◌∙◌, arith}
use Rattle.std.specs.Prelude.{cond, ◌==◌, ◌||◌, ◌&&◌, nat_le}
use Rattle.std.specs.List.{AllPass}
use Rattle.std.proofs.lemmas.Bool.{eqb-true, leb-true}
use Rattle.indent_scanner.specs.Bytes.{is_in}

pub by_test : (P : Type 0) (v : Bool) → (v ≡ true → P) → (v ≡ false → P) → P
by_test P true a b = a refl
by_test P false a b = b refl

pub by_cond : {A : Type 0} (P : A → Type 0) (v : Bool) (x y : A) → (v ≡ true → P x) → (v ≡ false → P y) → P (cond v x y)
by_cond P true x y a b = a refl
by_cond P false x y a b = b refl

pub both_true : (v w : Bool) → (v && w) ≡ true → (v ≡ true) × (w ≡ true)
both_true true w e = (refl, e)
both_true false w e = cc

pub are_true : (v w : Bool) → v ≡ true → w ≡ true → (v && w) ≡ true
are_true v w e f = ap (λ x. x && w) e ∙ f

pub either : (P : Type 0) (v w : Bool) → (v || w) ≡ true → (v ≡ true → P) → (w ≡ true → P) → P
either P true w e f g = f refl
either P false w e f g = g e

pub both_false : (v w : Bool) → (v || w) ≡ false → (v ≡ false) × (w ≡ false)
both_false true w e = cc
both_false false w e = (refl, e)

pub are_false : (v w : Bool) → v ≡ false → w ≡ false → (v || w) ≡ false
are_false v w e f = ap (λ x. x || w) e ∙ f

pub or_left : (v w : Bool) → v ≡ true → (v || w) ≡ true
or_left v w e = ap (λ x. x || w) e

pub or_right : (v w : Bool) → w ≡ true → (v || w) ≡ true
or_right true w e = refl
or_right false w e = e

pub not_both : (v : Bool) → v ≡ true → v ≡ false → ⊥
not_both v e f = cc

pub in_range : (low high b : ℕ) → is_in low high b ≡ true → (low ≤ b) × (b ≤ high)
in_range low high b e = let f = both_true (nat_le low b) (nat_le b high) e in (leb-true low b f.0, leb-true b high f.1)

-- what is so of a byte that a test finds
pub at_byte : (P : ℕ → Type 0) (b k : ℕ) → P k → (b == k) ≡ true → P b
at_byte P b k p e = subst P (sym (eqb-true b k e)) p

-- a byte that fails a test is none that passes it
pub unlike : (test : ℕ → Bool) (b k : ℕ) → test k ≡ true → test b ≡ false → (b == k) ≡ false
unlike test b k passes fails = by_test _ (b == k) (λ e. absurd (not_both (test b) (at_byte (λ x. test x ≡ true) b k passes e) fails)) (λ e. e)

-- ---- each byte

pub pass_none : (test : ℕ → Bool) → AllPass test []
pass_none test k d lt = (let f : ⊥ = omega arith in absurd f)

pub pass_more : (test : ℕ → Bool) (b : ℕ) (bytes : List ℕ) → test b ≡ true → AllPass test bytes → AllPass test (b ∷ bytes)
pass_more test b bytes e all zero d lt = e
pass_more test b bytes e all (suc k) d lt = all k d (omega arith)

pub pass_head : (test : ℕ → Bool) (b : ℕ) (bytes : List ℕ) → AllPass test (b ∷ bytes) → test b ≡ true
pass_head test b bytes all = all zero 0 (omega arith)

pub pass_tail : (test : ℕ → Bool) (b : ℕ) (bytes : List ℕ) → AllPass test (b ∷ bytes) → AllPass test bytes
pass_tail test b bytes all k d lt = all (suc k) d (omega arith)
