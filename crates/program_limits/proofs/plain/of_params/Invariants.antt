use Rattle.std.proofs.Common.{◌≡◌, drop, map}
use Rattle.nim_meaning.specs.LeftOut.{left_out_in_head}
use Rattle.nim_program.specs.View.{param_of}
use Rattle.program_limits.specs.Known.{known_types, known_facts}
use Rattle.program_limits.proofs.plain.of_params.Given as goal

abbrev pub invariant-loop-param : goal.invariant-loop-param
invariant-loop-param l =
    left_out_in_head (known_facts l.known) l.number (map (λ param. param.place) (map (param_of (known_types l.known)) l.params)) ≡
    left_out_in_head (known_facts l.known) l.number (map (λ param. param.place) (map (param_of (known_types l.known)) (drop l.param-index l.params)))
