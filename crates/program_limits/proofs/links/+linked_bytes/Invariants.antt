use Rattle.std.proofs.Common.{◌≡◌, ◌+◌, ◌≤◌, suc, drop}
use Rattle.nim_program.specs.View.{literals_of}
use Rattle.nim_program.specs.declared.text_sizes.TheConstants.{MOST_DATA}
use Rattle.nim_program.specs.Folds.{capped}
use Rattle.program_limits.specs.Data.{linked_parts_bytes}
use Rattle.program_limits.proofs.links.+linked_bytes.Given as goal

abbrev pub invariant-linked_parts_bytes-loop-part : goal.invariant-linked_parts_bytes-loop-part
invariant-linked_parts_bytes-loop-part l =
    (capped MOST_DATA (l.sum + linked_parts_bytes (literals_of (drop l.part-index l.all.items))) ≡
    capped MOST_DATA (linked_parts_bytes (literals_of l.all.items)))
    × (l.sum ≤ suc MOST_DATA)
