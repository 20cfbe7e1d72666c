use Rattle.check_decls.proofs.Scopes.{head_old}
use Rattle.check_decls.proofs.heads.declare_head.Goals as goal

pub returns-else-headed-clause-declared : goal.returns-else-headed-clause-declared
returns-else-headed-clause-declared c = head_old c.args.state.now c.args.signature.now c.args.headed.now c.if-headed.false c.requires.ready
