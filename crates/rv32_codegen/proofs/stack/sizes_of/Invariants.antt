use Rattle.std.proofs.Common.{◌≡◌, ◌++◌, drop}
use Rattle.rv32_codegen.specs.Chains.{sizes_of}
use Rattle.rv32_codegen.proofs.stack.sizes_of.Given as goal

abbrev pub invariant-loop-i : goal.invariant-loop-i
invariant-loop-i l = l.sizes ++ sizes_of (drop l.i l.procs) (drop l.i l.homes) ≡ sizes_of l.procs l.homes
