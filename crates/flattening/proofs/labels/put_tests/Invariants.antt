use Rattle.std.proofs.Common.{List, Option, drop}
use Rattle.std.specs.Prelude.{map}
use Rattle.nim_program.specs.View.{label_of}
use Rattle.flat_code.specs.declared.line.Line.{Line}
use Rattle.flattening.specs.ExprLines.{label_tests}
use Rattle.flattening.specs.Written.{IsPut}
use Rattle.flattening.proofs.labels.put_tests.Given as goal

abbrev pub invariant-loop-label : goal.invariant-loop-label
invariant-loop-label l =
    (new : Option (List Line)) → IsPut l.code new (label_tests (map label_of (drop l.label-index l.labels)) l.selector l.to) →
    IsPut l.fn.code new (label_tests (map label_of l.labels) l.selector l.to)
