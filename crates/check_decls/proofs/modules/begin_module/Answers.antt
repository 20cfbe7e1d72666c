use Rattle.check_decls.proofs.Beginning.{module_begun}
use Rattle.check_decls.proofs.modules.begin_module.Goals as goal

pub returns-clause-begins : goal.returns-clause-begins
returns-clause-begins c =
    module_begun c.args.draft.now c.in_ok-scope.scope c.count-draft.result c.args.number c.requires c.in_ok-scope.ensures c.count-draft.ensures
