-- Sizes of blocks, one after another.
use Rattle.std.proofs.Common.{ℕ, suc, ◌*◌, ◌<◌, ◌≤◌, ◌^◌, refl, arith, ⊎_elim}
use Rattle.std.proofs.Math.Nat.{pow-suc, pow-le-pow_right}
use Rattle.std.proofs.lemmas.Bool.{cases_lt}
use Rattle.nim_types.specs.declared.blocks.TheConstants.{LEAST_BLOCK, MOST_BLOCK}
use Rattle.nim_types.specs.Blocks.{IsBlockSize}

-- a block size, and none below it holds what is needed
pub record Tried (need size : ℕ) : Type 0 where
  pub enough : need ≤ MOST_BLOCK
  pub block : IsBlockSize size
  pub below : (other : ℕ) → IsBlockSize other → other < size → other < need

pub first_tried : (need : ℕ) → need ≤ MOST_BLOCK → Tried need LEAST_BLOCK
first_tried need h = record {
  enough = h;
  block = record { power = 4; is = refl; least = omega arith; most = omega arith };
  below = λ other b lt. absurd (omega (arith, b.least, lt));
}

-- a power of two below the next is at most this one
power_below : (j k : ℕ) → 2 ^ j < 2 * 2 ^ k → 2 ^ j ≤ 2 ^ k
power_below j k h = ⊎_elim
    (λ lt. absurd
    (let more : suc k ≤ j = omega (arith, lt) in let le : 2 ^ suc k ≤ 2 ^ j = pow-le-pow_right (omega arith) more in omega (arith, h, le, pow-suc 2 k)))
    (λ le. pow-le-pow_right (omega arith) le)
    (cases_lt k j)

next_most : (k need : ℕ) → need ≤ MOST_BLOCK → 2 ^ k < need → 2 * 2 ^ k ≤ MOST_BLOCK
next_most k need h lt = ⊎_elim
    (λ small. let most : suc k ≤ 24 = omega (arith, small) in let le : 2 ^ suc k ≤ 2 ^ 24 = pow-le-pow_right (omega arith) most in
    omega (arith, le, pow-suc 2 k))
    (λ large. absurd (let le : 2 ^ 24 ≤ 2 ^ k = pow-le-pow_right (omega arith) large in omega (arith, le, lt, h)))
    (cases_lt k 24)

pub next_tried : (need size : ℕ) → Tried need size → size < need → Tried need (size * 2)
next_tried need size t lt =
    let k = t.block.power in
    let small : 2 ^ k < need = omega (arith, t.block.is, lt) in
    record {
      enough = t.enough;
      block = record {
        power = suc k;
        is = omega (arith, t.block.is, pow-suc 2 k);
        least = omega (arith, t.block.least);
        most = omega (arith, next_most k need t.enough small, t.block.is);
      };
      below = λ other b less. let le : 2 ^ b.power ≤ 2 ^ k = power_below b.power k (omega (arith, b.is, less, t.block.is)) in omega (arith, le, b.is, small);
    }
