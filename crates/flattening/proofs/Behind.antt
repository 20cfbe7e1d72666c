-- Numbers that come behind others, as far as there are any.
use Rattle.std.proofs.Common.{◌≡◌, ◌≤◌, ◌+◌, ℕ, List, ◌++◌, sym, ap, subst, ◌∙◌, append_assoc, arith, Option, Some, None}
use Rattle.std.specs.Prelude.{IfSome}
use Rattle.nim_program.specs.Folds.{capped}

uncapped : (most n : ℕ) → capped most n ≤ most → capped most n ≡ n
uncapped most n l = omega (arith, l)

-- so many behind, which were counted as far as it matters
pub behind_counted : (most t n w : ℕ) (r : Option ℕ) → w ≡ capped most n → IfSome r (λ u. u ≡ t + w) → IfSome r (λ u. w ≤ most) →
    IfSome r (λ u. u ≡ t + n)
behind_counted most t n w None e f l = tt
behind_counted most t n w (Some u) e f l =
    f ∙ ap (λ m. t + m) (e ∙ uncapped most n (subst (λ x. x ≤ most) e l))

-- two pieces of a whole, one behind the other
pub two_pieces : {X : Type 0} (a x y whole b c : List X) → b ≡ a ++ x → c ≡ b ++ y → whole ≡ x ++ y → c ≡ a ++ whole
two_pieces a x y whole b c e f g = f ∙ ap (λ z. z ++ y) e ∙ append_assoc a x y ∙ ap (λ z. a ++ z) (sym g)
