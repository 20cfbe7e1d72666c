use Rattle.std.proofs.Common.{◌≡◌, ◌++◌, drop}
use Rattle.nim_program.specs.View.{literals_of}
use Rattle.program_limits.specs.Data.{joined_bytes}
use Rattle.program_limits.proofs.texts.+literal_bytes.Given as goal

-- with what is left, it is all
abbrev pub invariant-push_parts-loop-part : goal.invariant-push_parts-loop-part
invariant-push_parts-loop-part l =
    l.bytes ++ joined_bytes (literals_of (drop l.part-index l.all.items)) ≡ l.fn.bytes ++ joined_bytes (literals_of l.all.items)
