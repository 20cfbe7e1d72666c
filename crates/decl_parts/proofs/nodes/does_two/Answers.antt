use Rattle.std.proofs.Common.{ap, ◌∙◌, [], ◌∷◌, List}
use Rattle.nim_types.specs.Types.{Ty}
use Rattle.nim_program.specs.Nodes as nodes
use Rattle.nim_program.specs.Program as P
use Rattle.nim_program.specs.View.{operand_before}
use Rattle.decl_rules.specs.State.{does}
use Rattle.decl_parts.proofs.Branching.{one_step}
use Rattle.decl_parts.proofs.nodes.does_two.Goals as goal

pub returns-clause-list : goal.returns-clause-list
returns-clause-list c =
    let operands = λ (ts : List Ty). operand_before ts c.args.first (operand_before ts c.args.second P.NoArg) in
    let whole = λ (ts : List Ty). does (P.Do (nodes.acting c.args.node c.args.operation (operands ts))) ∷ [] in
    one_step whole c.doing.result c.list_of.result
    (λ ts. c.doing.ensures ts ∙ ap (λ (e : P.Expr). does (P.Do e) ∷ []) (c.in_ok-value.ensures.expr ts)) c.list_of.ensures.list
