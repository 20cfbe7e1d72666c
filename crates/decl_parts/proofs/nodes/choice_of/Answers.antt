use Rattle.std.proofs.Common.{ap, ◌∙◌, [], ◌∷◌}
use Rattle.nim_program.specs.Program as P
use Rattle.nim_program.specs.View.{stmts_of, branch_conditions}
use Rattle.nim_program.proofs.ForCallers.{decided}
use Rattle.decl_rules.specs.State.{does}
use Rattle.decl_parts.specs.View.{steps_in}
use Rattle.decl_parts.proofs.Branching.{blocks_are}
use Rattle.decl_parts.proofs.nodes.choice_of.Goals as goal

pub returns : goal.returns
returns c = λ ts.
    let all = c.args.branches.items in
    ap steps_in (decided ts c.args.node P.Empty c.args.branches c.args.otherwise)
    ∙ ap (λ (blocks : P.Blocks). does (P.Select c.args.node P.ByConditions (branch_conditions ts all) blocks) ∷ [])
    (blocks_are ts all (stmts_of ts c.args.otherwise.items))
