-- Block code of owned code:
--
--     owned code ────branches────> block code
--         │                            │
--     owned_meaning ──── Agrees ── block_meaning
use Rattle.std.specs.Prelude.{◌≡◌, ℕ, List, map}
use Rattle.arc_base.specs.Behaviour.{Agrees, Sound}
use Rattle.arc_base.specs.Pace.{PacedFrom}
use Rattle.nim_types.specs.declared.types.TypeDef.{TypeDef}
use Rattle.flat_code.specs.declared.code.Code.{Code}
use Rattle.flat_code.specs.declared.owned.OwnedLine.{OwnedLine}
use Rattle.flat_code.specs.declared.block.BlockLine.{BlockLine}
use Rattle.flat_code.specs.declared.block.BlockLine.TheVariants.{Plain}
use Rattle.flat_code.specs.Codes.{each_line, owned_plain, block_plain, owned_meaning, block_meaning, KeepsForm}
use Rattle.goto_exceptions.specs.declared.blocks.TheConstants.{PACE, LINES_EACH}

-- Where owned code is never at a fault, block code does what it does, under each table of types, heap and input, with as much work but for
-- a factor.
pub record IsBranched (owned : Code OwnedLine) (blocks : Code BlockLine) : Type 0 where
  pub agrees : (table : List TypeDef) (heap : ℕ) (input : List ℕ) → Sound (owned_meaning table owned heap input) →
      Agrees (block_meaning table blocks heap input) (owned_meaning table owned heap input)
  pub paced : (table : List TypeDef) (heap : ℕ) (input : List ℕ) → Sound (owned_meaning table owned heap input) →
      PacedFrom PACE 0 (block_meaning table blocks heap input) (owned_meaning table owned heap input)
  pub form : KeepsForm owned_plain block_plain LINES_EACH owned blocks
  -- it is owned code, line by line
  pub each : blocks.procs ≡ map (each_line Plain) owned.procs
