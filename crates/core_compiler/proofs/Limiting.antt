-- Code of a program with few parts and pairs is never too large.
use Rattle.std.proofs.Common.{◌≡◌, ◌≤◌, ◌+◌, ℕ, ap, arith, Ok}
use Rattle.std.proofs.lemmas.Bool.{le-leb}
use Rattle.nim_plan.specs.declared.plan.Plan.{Plan}
use Rattle.nim_program.specs.Program.{Program}
use Rattle.flattening.specs.Counted.{program_parts, program_pairs}
use Rattle.flattening.specs.Flattened.{modes_of}
use Rattle.program_limits.specs.Limits.{unless_large}
use Rattle.core_compiler.specs.Limits.{code_limits, hook_parts}
use Rattle.core_compiler.specs.Compile.{HasCode}

pub few_fit : (program : Program) (plan : Plan) (code : ℕ) (has : HasCode program plan code) →
    program_parts program + program_pairs (modes_of program plan) program + hook_parts program.facts has.types ≤ 257 → code_limits code ≡ Ok tt
few_fit program plan code has few = let bound = has.bound in ap unless_large (le-leb code 524288 (omega (arith, bound, few)))
