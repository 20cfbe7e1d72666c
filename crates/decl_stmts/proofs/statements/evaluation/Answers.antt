use Rattle.nim_types.specs.Table.{facts_in}
use Rattle.nim_program.specs.View.{expr_of}
use Rattle.decl_rules.specs.Values.{evaluated}
use Rattle.decl_parts.specs.View.{if_result}
use Rattle.decl_stmts.proofs.Made.{made_by}
use Rattle.decl_stmts.proofs.statements.evaluation.Goals as goal

pub returns : goal.returns
returns c =
    let old = c.args.state.now in
    made_by old c.args.typed.next (λ ts. evaluated (if_result ts c.args.ends) c.args.node (expr_of ts c.args.typed.expr)) c.evaluated.result c.requires.ready
    (λ ts u. c.evaluated.ensures ts (facts_in old.types) u)
