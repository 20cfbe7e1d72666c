use Rattle.std.proofs.Common.{◌≡◌, ◌++◌, drop}
use Rattle.indent_scanner.specs.Words.{folded, normal}
use Rattle.indent_scanner.proofs.text.normal_form.Given as goal

abbrev pub invariant-loop-b : goal.invariant-loop-b
invariant-loop-b l = l.text ++ folded (drop l.b-index l.b-items) ≡ normal l.name
