use Rattle.std.proofs.Common.{sym, ap, ◌∙◌}
use Rattle.std.specs.Prelude.{Ok}
use Rattle.nim_types.specs.Table.{type_at}
use Rattle.nim_program.specs.Nodes as nodes
use Rattle.nim_program.specs.View.{operands_of}
use Rattle.expr_rules.specs.Answers.{node}
use Rattle.expr_parts.specs.View.{is_sequence}
use Rattle.expr_parts.proofs.Settling.{empty_is}
use Rattle.expr_parts.proofs.elements.sequence_without.Goals as goal

pub returns-clause-answers : goal.returns-clause-answers
returns-clause-answers c = λ ts e.
    let n = node c.args.number c.args.at in
    empty_is c.args.number c.args.at (type_at ts c.args.ty) (ap is_sequence e ∙ c.is_sequence.ensures ts ∙ c.if-not-is_sequence.false)
    ∙ ap (λ xs. Ok (nodes.sequence n (type_at ts c.args.ty) (operands_of ts xs))) (sym c.new.ensures.items)
    ∙ ap Ok (sym (c.applied.ensures.expr ts))
