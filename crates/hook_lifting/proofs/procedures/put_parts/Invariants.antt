use Rattle.std.proofs.Common.{◌≡◌, ◌≤◌, List, Option, drop, length}
use Rattle.hook_lifting.specs.declared.lifted.LiftedLine.{LiftedLine}
use Rattle.hook_lifting.specs.Lifted.{part_lines}
use Rattle.hook_lifting.specs.Written.{IsPut}
use Rattle.hook_lifting.proofs.procedures.put_parts.Given as goal

abbrev pub invariant-loop-ty : goal.invariant-loop-ty
invariant-loop-ty l =
    ((new : Option (List LiftedLine)) → IsPut l.lines new (part_lines l.types l.hook (drop l.ty-index l.parts) l.part) →
    IsPut l.fn.lines new (part_lines l.types l.hook l.parts 0))
    × (l.part ≡ l.ty-index) × (length l.parts ≤ 4294967295)
