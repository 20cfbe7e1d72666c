use Rattle.std.proofs.Common.{ap, ◌∙◌, [], ◌∷◌}
use Rattle.nim_program.specs.Program as P
use Rattle.nim_program.specs.View.{stmts_of, branch_labels, operand_before}
use Rattle.nim_program.proofs.ForCallers.{selected_statement}
use Rattle.decl_rules.specs.State.{does}
use Rattle.decl_parts.specs.View.{steps_in}
use Rattle.decl_parts.proofs.Branching.{arm_blocks_are}
use Rattle.decl_parts.proofs.nodes.selection_of.Goals as goal

pub returns : goal.returns
returns c = λ ts.
    let all = c.args.branches.items in
    ap steps_in (selected_statement ts c.args.node P.Empty c.args.selector c.args.branches c.args.otherwise)
    ∙ ap (λ (blocks : P.Blocks). does (P.Select c.args.node (P.ByLabels (branch_labels all)) (operand_before ts c.args.selector P.NoArg) blocks) ∷ [])
    (arm_blocks_are ts all (stmts_of ts c.args.otherwise.items))
