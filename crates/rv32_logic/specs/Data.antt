-- Bytes that stand in the data.
use Rattle.std.specs.Prelude.{◌≡◌, ℕ, ◌+◌, List, ◌++◌, length}
use Rattle.rv32_isa.specs.Image.{statics_at}

-- the data holds these bytes at an address
pub record Holds (statics : List ℕ) (at : ℕ) (bytes : List ℕ) : Type 0 where
  pub pre : List ℕ
  pub post : List ℕ
  pub data_is : statics ≡ pre ++ (bytes ++ post)
  pub at_is : at ≡ statics_at + length pre
