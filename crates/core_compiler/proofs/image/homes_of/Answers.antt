use Rattle.std.proofs.Common.{arith}
use Rattle.std.proofs.lemmas.List.{drop_all}
use Rattle.core_compiler.proofs.Homes.{front_whole}
use Rattle.core_compiler.proofs.image.homes_of.Goals as goal

pub returns : goal.returns
returns c =
    let over = c.loop-proc-test.false in
    front_whole c.args.procs.now c.loop-proc.proc-index c.loop-proc.all (drop_all c.loop-proc.proc-index c.args.procs.now (omega (arith, over)))
    c.loop-proc.invariant.front
