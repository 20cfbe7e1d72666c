use Rattle.std.proofs.Common.{sym, ◌∙◌, arith}
use Rattle.nim_tree.specs.Statements.{statement_of}
use Rattle.parse_decls.proofs.ForCallers.{comes_leads, leads_then, leads_on, leads_if, leads_else}
use Rattle.parse_stmts.proofs.plain.read_plain.Goals as goal

pub returns-then-operand_on : goal.returns-then-operand_on
returns-then-operand_on c =
    let h = c.in_ok-callee.ensures in
    comes_leads statement_of _ _ c.args.input.now _
    (leads_on (leads_if _ _ (sym c.operand_on.ensures ∙ c.if-operand_on.true))
    (leads_on (leads_then _ h.runs) (leads_if _ _ (sym c.atom_at.ensures ∙ c.if-not-atom_at.false))))
    _ (omega (arith, h.goes)) _ c.read_command.ensures

pub returns-else-operand_on : goal.returns-else-operand_on
returns-else-operand_on c =
    let h = c.in_ok-callee.ensures in
    comes_leads statement_of _ _ c.args.input.now _
    (leads_on (leads_else _ _ (sym c.operand_on.ensures ∙ c.if-operand_on.false))
    (leads_on (leads_then _ h.runs) (leads_if _ _ (sym c.atom_at.ensures ∙ c.if-not-atom_at.false))))
    _ (omega arith) _ c.read_expression-else-operand_on.ensures
