use Rattle.std.proofs.Common.{◌≡◌, drop}
use Rattle.std.specs.Prelude.{max}
use Rattle.rv32_codegen.specs.Chains.{most_of}
use Rattle.rv32_codegen.proofs.stack.most_of.Given as goal

abbrev pub invariant-loop-size : goal.invariant-loop-size
invariant-loop-size l = max l.most (most_of (drop l.size-index l.sizes)) ≡ most_of l.sizes
