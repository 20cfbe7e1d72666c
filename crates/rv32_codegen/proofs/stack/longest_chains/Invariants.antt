use Rattle.std.proofs.Common.{◌≡◌, ℕ, length}
use Rattle.rv32_codegen.specs.Chains.{number_for, cut_chain}
use Rattle.rv32_codegen.proofs.stack.longest_chains.Given as goal

-- what chains take of at most so many procedures as there were rounds
abbrev pub invariant-loop-round : goal.invariant-loop-round
invariant-loop-round l = record {
  long : length l.taken ≡ length l.procs;
  are : (number : ℕ) → number_for l.procs l.taken number ≡ cut_chain l.procs l.sizes l._round number;
}
