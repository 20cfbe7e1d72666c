use Rattle.std.proofs.Common.{◌≡◌, drop}
use Rattle.std.specs.Prelude.{max}
use Rattle.word_code.specs.Words.{most_chain}
use Rattle.rv32_codegen.specs.Chains.{by_index}
use Rattle.rv32_codegen.proofs.stack.most_chain.Given as goal

abbrev pub invariant-loop-proc : goal.invariant-loop-proc
invariant-loop-proc l =
    max l.most (most_chain (by_index l.index l.taken) (drop l.proc-index l.procs)) ≡ most_chain (by_index l.index l.taken) l.procs
