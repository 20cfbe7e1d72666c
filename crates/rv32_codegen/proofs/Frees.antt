-- The registers that variables may have, and those that lines keep.
use Rattle.std.proofs.Common.{◌≡◌, ◌≢◌, ℕ, ◌<◌, ◌≤◌, ◌⊎◌, inl, inr, Bool, true, false, refl, sym, ap, ◌∙◌, arith}
use Rattle.std.specs.Prelude.{◌==◌, nat_le, ◌&&◌, ◌||◌}
use Rattle.std.proofs.lemmas.Bool.{and_parts, or_right, leb-true, true≢false}
use Rattle.reg_scan.specs.Homes.{is_free}

-- in one of the three ranges
abbrev In_range : ℕ → Type 0
In_range n = ((8 ≤ n) × (n ≤ 9)) ⊎ (((13 ≤ n) × (n ≤ 16)) ⊎ ((18 ≤ n) × (n ≤ 31)))

or_cases : (a b : Bool) → (a || b) ≡ true → (a ≡ true) ⊎ (b ≡ true)
or_cases true b h = inl refl
or_cases false b h = inr h

between : (low high n : ℕ) → (nat_le low n && nat_le n high) ≡ true → (low ≤ n) × (n ≤ high)
between low high n h = let x = and_parts (nat_le low n) (nat_le n high) h in (leb-true low n x.0, leb-true n high x.1)

in_range : (n : ℕ) → is_free n ≡ true → In_range n
in_range n h = elim (or_cases (nat_le 8 n && nat_le n 9) _ h) [
  | inl e ↦ inl (between 8 9 n e)
  | inr b ↦ elim (or_cases (nat_le 13 n && nat_le n 16) _ b) [
    | inl e ↦ inr (inl (between 13 16 n e))
    | inr e ↦ inr (inr (between 18 31 n e))
  ]
]

small_range : (n : ℕ) → In_range n → n < 32
small_range n (inl h) = omega (arith, h.1)
small_range n (inr (inl h)) = omega (arith, h.1)
small_range n (inr (inr h)) = omega (arith, h.1)

pub free_small : (n : ℕ) → is_free n ≡ true → n < 32
free_small n h = small_range n (in_range n h)

above_range : (n : ℕ) → In_range n → 4 < n
above_range n (inl h) = omega (arith, h.0)
above_range n (inr (inl h)) = omega (arith, h.0)
above_range n (inr (inr h)) = omega (arith, h.0)

pub free_above : (n : ℕ) → is_free n ≡ true → 4 < n
free_above n h = above_range n (in_range n h)

-- one that isn't free is another
pub free_apart : (n m : ℕ) → is_free n ≡ true → is_free m ≡ false → n ≢ m
free_apart n m h other e = true≢false (sym h ∙ ap is_free e ∙ other)

-- no line but a call changes these, if it doesn't set a variable that is there: beside free ones, x1 with the return address
abbrev pub is_kept : ℕ → Bool
is_kept n = (n == 1) || is_free n

pub free_kept : (n : ℕ) → is_free n ≡ true → is_kept n ≡ true
free_kept n h = or_right (n == 1) (is_free n) h

pub kept_apart : (n m : ℕ) → is_kept n ≡ true → is_kept m ≡ false → n ≢ m
kept_apart n m h other e = true≢false (sym h ∙ ap is_kept e ∙ other)
