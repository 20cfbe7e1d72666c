use Rattle.flattening.specs.Views.{types_of}
use Rattle.flattening.proofs.StmtPuts.{selector_spans}
use Rattle.flattening.proofs.spans.behind_selector.Goals as goal

pub returns-in-Some : goal.returns-in-Some
returns-in-Some c =
    let ts = types_of c.args.around.now in
    selector_spans ts c.args.selector.now c.args.s c.in-Some.from c.behind_operand.result (c.in-Some.ensures ts) c.behind_operand.ensures
