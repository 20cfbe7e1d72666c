use Rattle.std.proofs.Common.{[]}
use Rattle.flattening.proofs.StmtPuts.{selector_at}
use Rattle.flattening.proofs.spans.selector_from.Goals as goal

pub returns : goal.returns
returns c ts =
    selector_at ts c.args.selector.now c.args.s c.looked_count.result c.behind.result (c.looked_count.ensures.count ts []) c.behind.ensures.number
