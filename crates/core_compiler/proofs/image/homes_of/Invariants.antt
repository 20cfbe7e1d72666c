use Rattle.std.proofs.Common.{drop}
use Rattle.word_lowering.specs.Lowers.{AreSmall}
use Rattle.core_compiler.proofs.Homes.{IsFront}
use Rattle.core_compiler.proofs.image.homes_of.Given as goal

-- homes of the procedures up to here, and what is left takes little
abbrev pub invariant-loop-proc : goal.invariant-loop-proc
invariant-loop-proc l = record {
  front : IsFront l.procs l.proc-index l.all;
  small : AreSmall (drop l.proc-index l.procs);
}
