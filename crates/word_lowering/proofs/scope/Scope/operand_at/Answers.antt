use Rattle.std.proofs.Common.{◌∙◌}
use Rattle.word_lowering.specs.Scope.{around_of}
use Rattle.word_lowering.proofs.Operands.{operand_there, operand_lacks}
use Rattle.word_lowering.proofs.scope.Scope.operand_at.Goals as goal

pub returns-in-Some : goal.returns-in-Some
returns-in-Some c =
    let there = c.in-Some.ensures.lookup in
    c.operand.ensures
    ∙ operand_there (around_of c.args.self.now) c.args.from.now c.args.index c.in-Some.x.now c.in-Some.x.now there.3.0 there.1

pub returns-in-None : goal.returns-in-None
returns-in-None c =
    let there = c.in-None.ensures.lookup in c.nowhere.ensures ∙ operand_lacks (around_of c.args.self.now) c.args.from.now c.args.index there.3
