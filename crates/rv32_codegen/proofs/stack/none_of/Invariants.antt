use Rattle.std.proofs.Common.{◌≡◌, ◌++◌, drop}
use Rattle.rv32_codegen.specs.Chains.{none_of}
use Rattle.rv32_codegen.proofs.stack.none_of.Given as goal

abbrev pub invariant-loop-proc : goal.invariant-loop-proc
invariant-loop-proc l = l.none ++ none_of (drop l._proc-index l.procs) ≡ none_of l.procs
