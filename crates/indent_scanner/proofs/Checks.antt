-- Bytes that a piece may not hold.
use Rattle.std.proofs.Common.{◌≡◌, ℕ, zero, suc, ◌<◌, ◌≤◌, ◌⊎◌, inl, inr, List, [], ◌∷◌, length, get_or, Bool, true, false, refl, ap, arith}
use Rattle.std.specs.Prelude.{Option, Some, None}
use Rattle.arc_base.specs.declared.place.Code.TheVariants.{BadByte}
use Rattle.indent_scanner.specs.declared.shape.Shape.{Shape}
use Rattle.indent_scanner.specs.declared.piece.Piece.{Piece}
use Rattle.indent_scanner.specs.declared.piece.Piece.TheVariants.{Refused}
use Rattle.indent_scanner.specs.Pieces.{Checked, clean, stray}
use Rattle.indent_scanner.specs.ByForm.{may_hold, one_more, stray_in, if_clean}
use Rattle.indent_scanner.proofs.Bools.{by_cond, not_both}

module _ (s : Shape) where
  abbrev Ok : List ℕ → ℕ → Bool → Type 0
  Ok bytes i v = may_hold s (get_or bytes i 0) (get_or bytes (suc i) 0) ≡ v

  record Stray (n : ℕ) (bytes : List ℕ) (k : ℕ) : Type 0 where
    among : k < n
    is : Ok bytes k false
    before : (i : ℕ) → i < k → Ok bytes i true

  abbrev Tells : ℕ → List ℕ → Option ℕ → Type 0
  Tells n bytes None = (i : ℕ) → i < n → Ok bytes i true
  Tells n bytes (Some k) = Stray n bytes k

  each_more : (k b : ℕ) (bytes : List ℕ) → Ok (b ∷ bytes) 0 true → ((i : ℕ) → i < k → Ok bytes i true) → (i : ℕ) → i < suc k → Ok (b ∷ bytes) i true
  each_more k b bytes first all zero lt = first
  each_more k b bytes first all (suc i) lt = all i (omega arith)

  tells_more : (n b : ℕ) (bytes : List ℕ) (o : Option ℕ) → Ok (b ∷ bytes) 0 true → Tells n bytes o → Tells (suc n) (b ∷ bytes) (one_more o)
  tells_more n b bytes None first t = each_more n b bytes first t
  tells_more n b bytes (Some k) first t = let lt = t.among in record { among = omega (arith, lt); is = t.is; before = each_more k b bytes first t.before }

  tells : (n : ℕ) (bytes : List ℕ) → n ≤ length bytes → Tells n bytes (stray_in s n bytes)
  tells zero bytes le = λ i lt. (let f : ⊥ = omega arith in absurd f)
  tells (suc n) [] le = (let f : ⊥ = omega arith in absurd f)
  tells (suc n) (b ∷ bytes) le =
      by_cond (Tells (suc n) (b ∷ bytes)) (may_hold s b (get_or bytes 0 0)) (one_more (stray_in s n bytes)) (Some 0)
      (λ e. tells_more n b bytes (stray_in s n bytes) e (tells n bytes (omega arith)))
      (λ e. record { among = omega arith; is = e; before = λ i lt. (let f : ⊥ = omega arith in absurd f) })

  told : (n : ℕ) (bytes : List ℕ) (whole : Piece) (o : Option ℕ) → Tells n bytes o → Checked (may_hold s) n bytes whole (if_clean o whole)
  told n bytes whole None t = clean t
  told n bytes whole (Some k) t = stray k t.among t.is t.before

  pub checked_from : (n : ℕ) (bytes : List ℕ) (whole : Piece) → n ≤ length bytes → Checked (may_hold s) n bytes whole (if_clean (stray_in s n bytes) whole)
  checked_from n bytes whole le = told n bytes whole (stray_in s n bytes) (tells n bytes le)

  order : (j k : ℕ) → (j < k) ⊎ ((k < j) ⊎ (j ≡ k))
  order j k = grind arith

  same_place : (n : ℕ) (bytes : List ℕ) (j k : ℕ) → Stray n bytes j → Stray n bytes k → j ≡ k
  same_place n bytes j k x y = by_order (order j k)
    where
      by_order : (j < k) ⊎ ((k < j) ⊎ (j ≡ k)) → j ≡ k
      by_order (inl lt) = absurd (not_both _ (y.before j lt) x.is)
      by_order (inr (inl lt)) = absurd (not_both _ (x.before k lt) y.is)
      by_order (inr (inr e)) = e

  tells_once : (n : ℕ) (bytes : List ℕ) (whole p : Piece) (o : Option ℕ) → Tells n bytes o → Checked (may_hold s) n bytes whole p → p ≡ if_clean o whole
  tells_once n bytes whole _ None t (clean all) = refl
  tells_once n bytes whole _ None t (stray k lt is before) = absurd (not_both _ (t k lt) is)
  tells_once n bytes whole _ (Some j) t (clean all) = let lt = t.among in absurd (not_both _ (all j lt) t.is)
  tells_once n bytes whole _ (Some j) t (stray k lt is before) =
      ap (λ x. Refused BadByte x) (same_place n bytes k j (record { among = lt; is = is; before = before }) t)

  pub checked_is : (n : ℕ) (bytes : List ℕ) (whole p : Piece) → n ≤ length bytes → Checked (may_hold s) n bytes whole p
      → p ≡ if_clean (stray_in s n bytes) whole
  checked_is n bytes whole p le c = tells_once n bytes whole p (stray_in s n bytes) (tells n bytes le) c
