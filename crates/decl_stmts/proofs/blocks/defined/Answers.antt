use Rattle.std.proofs.Common.{ap}
use Rattle.std.specs.Prelude.{map}
use Rattle.nim_tree.specs.Statements as tree
use Rattle.nim_tree.specs.Statements.{definition_of}
use Rattle.decl_rules.specs.Stated.{stated}
use Rattle.decl_parts.specs.View.{around_of, state_of}
use Rattle.decl_parts.proofs.ForCallers.{stated_so}
use Rattle.decl_stmts.proofs.Scopes.{stated_as_tree, no_constants}
use Rattle.decl_stmts.proofs.blocks.defined.Goals as goal

pub returns-in-Const : goal.returns-in-Const
returns-in-Const c = λ ends.
    let all = map definition_of c.args.defs.now in
    stated_as_tree (λ ts. around_of ts c.args.around) ends (ap (λ k. tree.defines c.args.at k all) c.in-Const.is)
    c.constant_section.ensures

pub returns-in-Let : goal.returns-in-Let
returns-in-Let c = λ ends.
    let old = c.args.state.now in
    let all = map definition_of c.args.defs.now in
    stated_so (λ ts b. stated (around_of ts c.args.around) (ends ts) (state_of ts b old) (tree.defines c.args.at c.args.binding all))
    (λ ts b u. no_constants (around_of ts c.args.around) (ends ts) (state_of ts b old) c.args.at c.args.binding all c.in-Let.is)
    c.definitions.ensures
