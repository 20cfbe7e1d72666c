use Rattle.std.proofs.Common.{◌≡◌, drop}
use Rattle.std.specs.Prelude.{max}
use Rattle.word_code.specs.Words.{most_called}
use Rattle.rv32_codegen.specs.Chains.{by_index}
use Rattle.rv32_codegen.proofs.stack.most_called.Given as goal

abbrev pub invariant-loop-line : goal.invariant-loop-line
invariant-loop-line l =
    max l.most (most_called (by_index l.index l.taken) (drop l.line-index l.lines)) ≡ most_called (by_index l.index l.taken) l.lines
