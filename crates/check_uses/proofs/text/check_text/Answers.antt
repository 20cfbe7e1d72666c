use Rattle.std.proofs.Common.{ap}
use Rattle.check_uses.proofs.Answering.{says_text}
use Rattle.check_uses.proofs.text.check_text.Goals as goal

pub returns : goal.returns
returns c =
    says_text c.in_ok-known.known.procs.now.items c.args.procs.now.items c.args.start.now.items c.args.text.now c.check_items.result
    (ap (λ v. v.items) c.in_ok-known.ensures) c.check_items.ensures
