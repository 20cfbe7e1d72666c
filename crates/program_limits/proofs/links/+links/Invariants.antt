use Rattle.std.proofs.Common.{◌≡◌, drop}
use Rattle.nim_program.specs.View.{literals_of}
use Rattle.program_limits.specs.Data.{any_has_links}
use Rattle.program_limits.proofs.links.+links.Given as goal

abbrev pub invariant-any_has_links-loop-part : goal.invariant-any_has_links-loop-part
invariant-any_has_links-loop-part l = any_has_links (literals_of l.all.items) ≡ any_has_links (literals_of (drop l.part-index l.all.items))
