use Rattle.std.proofs.Common.{List, sym, ap}
use Rattle.std.specs.Prelude.{map}
use Rattle.nim_program.specs.declared.program.Proc.{Proc}
use Rattle.nim_program.specs.View.{proc_of}
use Rattle.nim_meaning.specs.TreeSites.{proc_sites}
use Rattle.plain_plan.specs.Views.{types_of, facts_of, modes_of}
use Rattle.plain_plan.proofs.Adding.{drop_turn, drop_end, turned, ended}
use Rattle.plain_plan.proofs.plain.add_procs.Goals as goal

pub loop-proc-preserved : goal.loop-proc-preserved
loop-proc-preserved c =
    let a = c.args.around.now in
    let loop = c.loop-proc in
    let next = drop_turn c.args.procs.now.items c.deref-proc-items.result.now loop.proc-index c.proc-item.result c.deref-proc-items.ensures.value
    c.loop-proc-test.true
    c.proc-item.is in
    turned loop.invariant c.add_proc.ensures (ap (λ (ps : List Proc). proc_sites (facts_of a) (modes_of a) (map (proc_of (types_of a)) ps)) (sym next))

pub returns : goal.returns
returns c =
    let a = c.args.around.now in
    let loop = c.loop-proc in
    let none = drop_end c.args.procs.now.items c.deref-proc-items.result.now loop.proc-index c.deref-proc-items.ensures.value c.loop-proc-test.false in
    ended loop.invariant (ap (λ (ps : List Proc). proc_sites (facts_of a) (modes_of a) (map (proc_of (types_of a)) ps)) none)
