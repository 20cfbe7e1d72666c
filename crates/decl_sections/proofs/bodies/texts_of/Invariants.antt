use Rattle.std.proofs.Common.{◌≡◌, ◌++◌, drop}
use Rattle.decl_rules.specs.Sections.{texts_of}
use Rattle.decl_sections.proofs.bodies.texts_of.Given as goal

abbrev pub invariant-loop-member : goal.invariant-loop-member
invariant-loop-member l = l.texts ++ texts_of (drop l.member-index l.members) ≡ texts_of l.members
