use Rattle.std.proofs.Common.{ap, subst}
use Rattle.nim_tree.specs.Statements.{Statement, statement_of}
use Rattle.check_decls.specs.View.{Carrying}
use Rattle.check_decls.specs.ViewBodies.{noted_rule}
use Rattle.check_decls.proofs.Drafts.{proclaims_by}
use Rattle.check_decls.proofs.modules.outermost_statement.Goals as goal

pub returns-in-Proc : goal.returns-in-Proc
returns-in-Proc c =
    subst (λ (s : Statement). Carrying c.args.draft.now c.proclamation.new.draft (λ st. noted_rule st s) c.proclamation.result)
    (proclaims_by (ap statement_of c.in-Proc.is) c.body.ensures) c.proclamation.ensures
