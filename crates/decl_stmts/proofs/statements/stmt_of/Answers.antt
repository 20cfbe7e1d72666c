use Rattle.std.proofs.Common.{◌∙◌, ap, sym, [], ◌∷◌}
use Rattle.nim_program.specs.Program as P
use Rattle.nim_program.specs.View.{operands_of}
use Rattle.decl_rules.specs.State.{does}
use Rattle.decl_stmts.specs.ViewStated.{plain_of}
use Rattle.decl_stmts.proofs.statements.stmt_of.Goals as goal

pub returns-in-Pass : goal.returns-in-Pass
returns-in-Pass c = λ ts.
    c.idle.ensures ts ∙ ap (λ l. does (P.Idle c.args.node (operands_of ts l)) ∷ []) c.new.ensures.items
    ∙ sym (ap (λ k. does (plain_of k c.args.node) ∷ []) c.in-Pass.is)

pub returns-in-Leaves : goal.returns-in-Leaves
returns-in-Leaves c = λ ts.
    c.leaves.ensures ts ∙ ap (λ l. does (P.Leave c.args.node c.in-Leaves.leaving (operands_of ts l)) ∷ []) c.new-in-Leaves.ensures.items
    ∙ sym (ap (λ k. does (plain_of k c.args.node) ∷ []) c.in-Leaves.is)
