use Rattle.std.proofs.Common.{ap, ◌∙◌}
use Rattle.std.specs.Prelude.{map}
use Rattle.nim_types.specs.Table.{type_at}
use Rattle.nim_program.specs.Program.{Apply, Calling}
use Rattle.nim_program.specs.View.{if_type, operands_of}
use Rattle.expr_rules.specs.Answers.{node}
use Rattle.nim_program.proofs.ForCallers as rows
use Rattle.expr_parts.proofs.nodes.called.Goals as goal

pub returns-clause-expr : goal.returns-clause-expr
returns-clause-expr c = λ ts.
    let n = node c.args.number c.args.at in
    rows.called ts n c.args.ty c.args.proc c.new.result c.args.operands
    ∙ ap (λ is. Apply n (if_type ts c.args.ty) (Calling c.args.proc (map (type_at ts) is)) (operands_of ts c.args.operands.items)) c.new.ensures
