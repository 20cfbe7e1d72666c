use Rattle.std.proofs.Common.{◌≡◌, ◌++◌, drop, map}
use Rattle.flat_code.specs.declared.block.BlockLine.TheVariants.{Plain}
use Rattle.flat_code.specs.Codes.{each_line}
use Rattle.goto_exceptions.proofs.blocks.block_procs.Given as goal

-- with the procedures that are left, they are all
abbrev pub invariant-loop-proc : goal.invariant-loop-proc
invariant-loop-proc l = l.block ++ map (each_line Plain) (drop l.proc-index l.procs) ≡ map (each_line Plain) l.procs
