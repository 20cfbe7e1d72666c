-- Input that is read.
use Rattle.std.proofs.Common.{◌≡◌, ℕ, ◌+◌, ◌-◌, ◌≤◌, ◌<◌, true, List, [], ◌++◌, length, take, drop, ap, subst, ◌∙◌, arith, length-append}
use Rattle.std.proofs.Common.{length-drop, ◌⊎◌, inl, inr}
use Rattle.std.proofs.lemmas.Bool.Decides.{leb_tells}
use Rattle.std.specs.Prelude.{min, nat_le, false}
use Rattle.std.proofs.lemmas.List.{take-append-le, drop-append-le, drop-drop}
use Rattle.rv32_isa.specs.State.{writable}
use Rattle.rv32_runner.proofs.ForCallers.{writable_part}
use Rattle.word_code.specs.Memory.{Memory, as_state, may_fill}

-- a part of a range that may be written
pub fewer : (m : Memory) (at n k : ℕ) → may_fill m at n ≡ true → k ≤ n → may_fill m at k ≡ true
fewer m at n k may le =
    let none : at + 0 ≡ at = omega arith in
    subst (λ (a : ℕ). writable (as_state m) a k ≡ true) none (writable_part (as_state m) at n 0 k may (omega (arith, le)))

-- So many bytes are there, behind those that were read, or no more come.
module _ (taken rest : List ℕ) (done len count there : ℕ) (is : count ≡ min there len) (left : there ≡ length taken - done)
    (all : count < len → rest ≡ []) where
  long : length (drop done taken) ≡ there
  long = let a = length-drop done taken in omega (arith, a, left)

  few : count ≤ length (drop done taken)
  few = let a = long in omega (arith, a, is)

  pub counted : min len (length (drop done taken ++ rest)) ≡ count
  counted = by (leb_tells len count)
    where
      by : ((nat_le len count ≡ true) × (len ≤ count)) ⊎ ((nat_le len count ≡ false) × (count < len)) → min len (length (drop done taken ++ rest)) ≡ count
      by (inl le) = let a = long in let sum = length-append (drop done taken) rest in let b = le.1 in omega (arith, a, sum, is, b)
      by (inr lt) = let a = long in let sum = length-append (drop done taken) rest in let b = ap length (all lt.1) in omega (arith, a, sum, is, b)

  pub given : take count (drop done taken ++ rest) ≡ take count (drop done taken)
  given = take-append-le count (drop done taken) rest few

  pub behind : drop count (drop done taken ++ rest) ≡ drop (done + count) taken ++ rest
  behind = drop-append-le count (drop done taken) rest few ∙ ap (λ l. l ++ rest) (drop-drop count done taken)
