-- Constants of instructions, and addresses that are sums of a base and a small offset.
use Rattle.std.proofs.Common.{◌≡◌, ℕ, ◌+◌, ◌-◌, ◌*◌, ◌/◌, ◌%◌, ◌^◌, ◌<◌, ap, ◌∙◌, arith}
use Rattle.std.specs.Prelude.{nat_lt}
use Rattle.std.proofs.lemmas.Bool.{lt-ltb, ltb-true, ltb-false, cond-true, cond_both}
use Rattle.rv32_isa.specs.Values.{added}
use Rattle.rv32_isa.specs.Steps.{signed12}

-- twelve bits of a number that isn't negative
pub signed12_small : (n : ℕ) → n < 2048 → signed12 n ≡ n
signed12_small n lt = cond-true (nat_lt n 2048) n (n + 2 ^ 32 - 4096) (lt-ltb n 2048 lt)

-- an address that a register has
pub plain_address : (n at : ℕ) → n ≡ at → at < 2 ^ 32 → added n (signed12 0) ≡ at
plain_address n at e lt = ap (λ m. added m 0) e ∙ (let f : (at + 0) % 2 ^ 32 ≡ at = omega arith in f)

-- what 20 bits and 12 bits with their sign make
pub constant_is : (value : ℕ) → value < 2 ^ 32 → added ((value + 2048) / 4096 % 2 ^ 20 * 2 ^ 12) (signed12 (value % 4096)) ≡ value
constant_is value fits =
    cond_both (nat_lt (value % 4096) 2048) (value % 4096) (value % 4096 + 2 ^ 32 - 4096)
    (λ low. ((value + 2048) / 4096 % 2 ^ 20 * 2 ^ 12 + low) % 2 ^ 32 ≡ value)
    (λ e. let lt = ltb-true (value % 4096) 2048 e in omega (arith, lt))
    (λ e. let ge = ltb-false (value % 4096) 2048 e in omega (arith, ge))
