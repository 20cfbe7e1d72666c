-- How many bytes the globals of flat code take.
use Rattle.std.proofs.Common.{◌≡◌, ◌≤◌, true, [], ap, arith}
use Rattle.std.specs.Prelude.{map, None}
use Rattle.nim_plan.specs.declared.plan.Plan.{Plan}
use Rattle.nim_program.specs.Program.{Proc, Program}
use Rattle.nim_program.specs.Numbering.{is_numbered_program}
use Rattle.nim_program.specs.Sizes.{globals_size}
use Rattle.nim_program.specs.Typed.{IsTyped}
use Rattle.flat_code.specs.Fits.{start_places}
use Rattle.flat_code.specs.Sizes.{globals_bytes}
use Rattle.flattening.specs.Flattened.{known_of, modes_of}
use Rattle.flattening.specs.Given.{flat_body, flat_proc, flat_procs}
use Rattle.flattening.specs.Places.{body_places}
use Rattle.flattening.proofs.FitPrograms.{start_end}
use Rattle.flattening.proofs.GlobalSizes.{globals_most}

pub start_most : (program : Program) (plan : Plan) → IsTyped program → is_numbered_program program ≡ true →
    globals_bytes (known_of program) (start_places (flat_procs program plan)) ≤ globals_size program.facts program.globals
start_most program plan typed numbered =
    let places : start_places (flat_procs program plan)
    ≡ body_places program.types program.facts (modes_of program plan) plan.sinks program.globals [] program.start =
    start_end (map (λ (p : Proc). flat_proc program plan p.hook p.params p.body) program.procs) (flat_body program plan None [] program.start) in
    let same = ap (globals_bytes (known_of program)) places in
    let globals = globals_most program plan typed numbered in
    omega (arith, same, globals)
