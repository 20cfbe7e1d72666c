use Rattle.check_decls.proofs.Beginning.{declared_by}
use Rattle.check_decls.proofs.draft.declare.Goals as goal

pub returns : goal.returns
returns c =
    declared_by c.args.scope.now c.declare.new.self c.in_ok-name.name c.args.name.now c.args.what c.declare.result c.in_ok-name.ensures
    c.declare.ensures.ok c.declare.ensures.kinds c.declare.ensures.home
