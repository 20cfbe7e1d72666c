use Rattle.std.proofs.Common.{◌∙◌, ap, arith, get_or, map}
use Rattle.check_uses.specs.Uses.{in_procedure}
use Rattle.check_uses.proofs.Listing.{procs_next}
use Rattle.check_uses.proofs.known.all_uses.Goals as goal

pub loop-proc-preserved : goal.loop-proc-preserved
loop-proc-preserved c =
    let procs = c.args.procs.now.items in
    procs_next c.loop-proc.all.items c.push.new.self.items c.in_ok-uses.uses procs c.loop-proc.proc-index c.proc-item.result (map in_procedure procs)
    (omega (arith, c.loop-proc-test.true))
    (c.proc-item.is ∙ ap (λ l. get_or l c.loop-proc.proc-index c.proc-item.result) c.deref-proc-items.ensures.value)
    c.loop-proc.invariant c.in_ok-push.ensures.items c.in_ok-uses.ensures
