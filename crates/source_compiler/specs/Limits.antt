-- What a command can't do yet with a typed program: it is refused behind all that the rules refuse.
use Rattle.std.specs.Prelude.{ℕ, Result, Ok}
use Rattle.arc_base.specs.Refusal.{Refusal}
use Rattle.nim_program.specs.Program.{Program}
use Rattle.plain_plan.specs.Plain.{plain_plan}
use Rattle.core_compiler.specs.Limits as core

-- the refusal, where there is one
abbrev pub Limits : Type 0
Limits = Program → Result (Unit {0}) Refusal

-- every typed program
abbrev pub no_limits : Limits
no_limits program = Ok tt

-- those of `build` and `run`, where the code under the file's plan has so many bytes
abbrev pub build_limits : (code : ℕ) → Limits
build_limits code program = core.build_limits (plain_plan program) code program

-- those of `check`
abbrev pub check_limits : (code : ℕ) → Limits
check_limits code program = core.check_limits (plain_plan program) code program
