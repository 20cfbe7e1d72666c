use Rattle.std.proofs.Common.{◌≡◌, ◌++◌, drop}
use Rattle.rv32_codegen.specs.Chains.{by_index, chains_from}
use Rattle.rv32_codegen.proofs.stack.chains_from.Given as goal

abbrev pub invariant-loop-i : goal.invariant-loop-i
invariant-loop-i l =
    l.next ++ chains_from (by_index l.index l.taken) (drop l.i l.procs) (drop l.i l.sizes) ≡ chains_from (by_index l.index l.taken) l.procs l.sizes
