use Rattle.std.proofs.Common.{sym, ◌∙◌, arith}
use Rattle.parse_decls.proofs.ForCallers.{settles_if, settles_got, told_fails, comes_leads, leads_else}
use Rattle.parse_stmts.proofs.simple.read_module_name.Goals as goal

pub returns-then-path_at : goal.returns-then-path_at
returns-then-path_at c = told_fails _ (settles_if _ (sym c.path_at.ensures ∙ c.if-path_at.true) settles_got) _ c.left_out.ensures

pub returns-else-path_at : goal.returns-else-path_at
returns-else-path_at c = comes_leads (λ name. name) _ _ c.args.input.now _ (leads_else _ _ (sym c.path_at.ensures ∙ c.if-path_at.false)) _ (omega arith)
    _ c.read_name.ensures
