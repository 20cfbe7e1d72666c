-- Blocks of the heap: a header and then the payload. Their sizes are the powers of two from the least to the most.
use Rattle.std.specs.Prelude.{◌≡◌, ℕ, ◌+◌, ◌^◌, ◌≤◌}
use Rattle.nim_types.specs.declared.blocks.TheConstants.{HEADER_BYTES, LEAST_BLOCK, MOST_BLOCK}

pub record IsBlockSize (size : ℕ) : Type 0 where
  pub power : ℕ
  pub is : size ≡ 2 ^ power
  pub least : LEAST_BLOCK ≤ size
  pub most : size ≤ MOST_BLOCK

-- the smallest block for a payload
pub record IsClass (payload size : ℕ) : Type 0 where
  pub block : IsBlockSize size
  pub holds : payload + HEADER_BYTES ≤ size
  pub smallest : (other : ℕ) → IsBlockSize other → payload + HEADER_BYTES ≤ other → size ≤ other
