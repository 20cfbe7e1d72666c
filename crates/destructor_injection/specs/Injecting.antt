-- Owned code of flat code under a plan:
--
--     flat code ─────owned_of─────> owned code
--         │                            │
--     flat_meaning ──── Agrees ─── owned_meaning
use Rattle.std.specs.Prelude.{◌≡◌, ℕ, List, map}
use Rattle.arc_base.specs.Behaviour.{Agrees, Sound}
use Rattle.arc_base.specs.Pace.{PacedFrom}
use Rattle.nim_types.specs.declared.types.TypeDef.{TypeDef}
use Rattle.nim_plan.specs.declared.plan.Plan.{Plan}
use Rattle.flat_code.specs.declared.code.Code.{Code}
use Rattle.flat_code.specs.declared.line.Line.{Line}
use Rattle.flat_code.specs.declared.owned.OwnedLine.{OwnedLine}
use Rattle.flat_code.specs.Codes.{each_line, under, flat_plain, owned_plain, flat_meaning, owned_meaning, KeepsForm}
use Rattle.destructor_injection.specs.declared.owned.TheConstants.{PACE, LINES_EACH}

-- Where flat code is never at a fault and never wrong under the plan, owned code does what it does, under each table of types, heap and input,
-- with as much work but for a factor.
pub record IsOwned (flat : Code Line) (plan : Plan) (owned : Code OwnedLine) : Type 0 where
  pub agrees : (table : List TypeDef) (heap : ℕ) (input : List ℕ) → Sound (flat_meaning table flat plan heap input) →
      Agrees (owned_meaning table owned heap input) (flat_meaning table flat plan heap input)
  pub paced : (table : List TypeDef) (heap : ℕ) (input : List ℕ) → Sound (flat_meaning table flat plan heap input) →
      PacedFrom PACE 0 (owned_meaning table owned heap input) (flat_meaning table flat plan heap input)
  pub form : KeepsForm flat_plain owned_plain LINES_EACH flat owned
  -- it is flat code, line by line
  pub each : owned.procs ≡ map (each_line (under plan)) flat.procs
