use Rattle.decl_stmts.proofs.statements.pass.Goals as goal

pub returns : goal.returns
returns c = c.plain.ensures
