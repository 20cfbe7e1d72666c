use Rattle.std.proofs.Common.{ap, ◌∙◌}
use Rattle.nim_types.specs.Table.{type_at}
use Rattle.nim_program.specs.Nodes.{sequence}
use Rattle.nim_program.specs.View.{operands_of}
use Rattle.expr_rules.specs.Answers.{node}
use Rattle.expr_parts.proofs.settle.no_elements.Goals as goal

pub returns-clause-expr : goal.returns-clause-expr
returns-clause-expr c = λ ts.
    c.applied.ensures.expr ts ∙ ap (λ os. sequence (node c.args.number c.args.at) (type_at ts c.args.ty) (operands_of ts os)) c.new.ensures.items
