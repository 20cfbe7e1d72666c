-- The code of a machine, decoded ahead of its run. No public contract speaks of it.
use Rattle.std.specs.Prelude.{◌≡◌, ◌≤◌, ℕ, ◌+◌, ◌*◌, List, length, take, drop, Option, Some}
use Rattle.std.specs.List.{slice_get}
use Rattle.rv32_isa.specs.declared.table.Decoded.{Decoded}
use Rattle.rv32_isa.specs.Words.{little}
use Rattle.rv32_isa.specs.Row.{row, IsInRange}

-- the instruction of these bytes
pub record IsOf (bytes : List ℕ) (d : Decoded) : Type 0 where
  pub word : little bytes ≡ d.word
  pub row : row d.word ≡ Some d.instr
  pub fields : IsInRange d.instr

-- the instruction that stands in the code, behind so many others
pub record StandsAt (code : List ℕ) (i : ℕ) (d : Decoded) : Type 0 where
  pub within : 4 * i + 4 ≤ length code
  pub here : IsOf (take 4 (drop (4 * i) code)) d

-- each instruction of the table stands in the code at its place
abbrev pub AreDecoded : List ℕ → List (Option Decoded) → Type 0
AreDecoded code table = (i : ℕ) (d : Decoded) → slice_get table i ≡ Some (Some d) → StandsAt code i d
