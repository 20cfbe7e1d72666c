use Rattle.std.proofs.Common.{sym, ap, ◌∙◌}
use Rattle.std.specs.Prelude.{Ok}
use Rattle.nim_program.specs.Nodes as nodes
use Rattle.nim_program.specs.View.{operands_of}
use Rattle.expr_rules.specs.Answers.{node}
use Rattle.expr_parts.proofs.elements.sequence.Goals as goal

pub returns-clause-answers : goal.returns-clause-answers
returns-clause-answers c = λ ts facts u.
    let n = node c.args.number c.args.at in
    ap Ok
    (ap (λ t. nodes.sequence n t (operands_of ts c.args.parts.items)) (sym (c.in_ok-ty.ensures.means ts facts u))
    ∙ sym (c.applied.ensures.expr ts))
