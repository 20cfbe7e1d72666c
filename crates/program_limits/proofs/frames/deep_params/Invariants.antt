use Rattle.std.proofs.Common.{◌≡◌, drop, map}
use Rattle.nim_program.specs.Folds.{param_places}
use Rattle.nim_program.specs.View.{param_of}
use Rattle.program_limits.specs.Known.{known_types, known_facts}
use Rattle.program_limits.specs.Frames.{deep_place}
use Rattle.program_limits.proofs.frames.deep_params.Given as goal

abbrev pub invariant-loop-param : goal.invariant-loop-param
invariant-loop-param l =
    deep_place (known_facts l.known) l.number (param_places (map (param_of (known_types l.known)) l.params)) ≡
    deep_place (known_facts l.known) l.number (param_places (map (param_of (known_types l.known)) (drop l.param-index l.params)))
