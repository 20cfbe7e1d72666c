-- Which branch of a `case` is for all else.
use Rattle.std.proofs.Common.{◌≡◌, ◌⊎◌, inl, inr, ℕ, zero, suc, ◌<◌, ◌≤◌, Bool, true, false, List, [], ◌∷◌, length, drop, refl, sym, ap, ◌∙◌, arith}
use Rattle.std.specs.Prelude.{◌&&◌}

pub never : (b : Bool) → (b && false) ≡ false
never true = refl
never false = refl

pub always : (b : Bool) → (b && true) ≡ b
always true = refl
always false = refl

-- `ends` says of branches whether none is left, and nothing follows
module _ {X : Type 0} (ends : List X → Bool) (goes_on : (x : X) (xs : List X) → ends (x ∷ xs) ≡ false) where
  abbrev Left : List X → ℕ → Type 0
  Left xs i = ((i < length xs) × (ends (drop i xs) ≡ false)) ⊎ ((length xs ≤ i) × (ends (drop i xs) ≡ ends []))

  left : (xs : List X) (i : ℕ) → Left xs i
  left [] zero = inr (omega arith, refl)
  left [] (suc i) = inr (omega arith, refl)
  left (x ∷ xs) zero = inl (omega arith, goes_on x xs)
  left (x ∷ xs) (suc i) = one_more x xs i (left xs i)
    where
      one_more : (x : X) (xs : List X) (i : ℕ) → Left xs i → Left (x ∷ xs) (suc i)
      one_more x xs i (inl h) = inl (omega (arith, h.0), h.1)
      one_more x xs i (inr h) = inr (omega (arith, h.0), h.1)

  decide : (covered closes b : Bool) (xs : List X) (i : ℕ) → closes ≡ (covered && ends []) → (b ≡ true → closes ≡ true) → (b ≡ true → length xs ≤ i) →
      (b ≡ false → closes ≡ true → i < length xs) → Left xs i → b ≡ (covered && ends (drop i xs))
  decide covered closes true xs i e closing last more (inl h) = let l = last refl in absurd (omega (arith, h.0, l))
  decide covered closes true xs i e closing last more (inr h) = sym (closing refl) ∙ e ∙ ap (λ c. covered && c) (sym h.1)
  decide covered closes false xs i e closing last more (inl h) = sym (ap (λ c. covered && c) h.1 ∙ never covered)
  decide covered true false xs i e closing last more (inr h) = let l = more refl refl in absurd (omega (arith, h.0, l))
  decide covered false false xs i e closing last more (inr h) = e ∙ ap (λ c. covered && c) (sym h.1)

  pub last_one : (covered closes b : Bool) (xs : List X) (i : ℕ) → closes ≡ (covered && ends []) → (b ≡ true → closes ≡ true) →
      (b ≡ true → length xs ≤ i) → (b ≡ false → closes ≡ true → i < length xs) → b ≡ (covered && ends (drop i xs))
  last_one covered closes b xs i e closing last more = decide covered closes b xs i e closing last more (left xs i)
