use Rattle.std.proofs.Common.{sym, ◌∙◌, arith}
use Rattle.nim_tree.specs.Statements.{statement_of}
use Rattle.parse_exprs.specs.Input.{origin_of}
use Rattle.parse_decls.proofs.ForCallers.{comes_leads}
use Rattle.parse_stmts.proofs.Steps.{head_on, simple_by}
use Rattle.parse_stmts.proofs.simple.read_simple.Goals as goal

pub returns-in-Discard : goal.returns-in-Discard
returns-in-Discard c =
    let input = c.args.input.now in
    comes_leads statement_of _ _ input _ (simple_by (origin_of input) c.args.spaces _ _ _ _ (head_on input c.args.at _ c.in-Some.ensures.some)
    (sym c.simple_of.ensures ∙ c.in-Discard.is)) _ (omega arith) _ c.read_discard.ensures

pub returns-in-Return : goal.returns-in-Return
returns-in-Return c =
    let input = c.args.input.now in
    comes_leads statement_of _ _ input _ (simple_by (origin_of input) c.args.spaces _ _ _ _ (head_on input c.args.at _ c.in-Some.ensures.some)
    (sym c.simple_of.ensures ∙ c.in-Return.is)) _ (omega arith) _ c.read_return.ensures

pub returns-in-Raise : goal.returns-in-Raise
returns-in-Raise c =
    let input = c.args.input.now in
    comes_leads statement_of _ _ input _ (simple_by (origin_of input) c.args.spaces _ _ _ _ (head_on input c.args.at _ c.in-Some.ensures.some)
    (sym c.simple_of.ensures ∙ c.in-Raise.is)) _ (omega arith) _ c.read_raise.ensures

pub returns-in-Import : goal.returns-in-Import
returns-in-Import c =
    let input = c.args.input.now in
    comes_leads statement_of _ _ input _ (simple_by (origin_of input) c.args.spaces _ _ _ _ (head_on input c.args.at _ c.in-Some.ensures.some)
    (sym c.simple_of.ensures ∙ c.in-Import.is)) _ (omega arith) _ c.read_import.ensures

pub returns-in-Let : goal.returns-in-Let
returns-in-Let c =
    let input = c.args.input.now in
    comes_leads statement_of _ _ input _ (simple_by (origin_of input) c.args.spaces _ _ _ _ (head_on input c.args.at _ c.in-Some.ensures.some)
    (sym c.simple_of.ensures ∙ c.in-Let.is)) _ (omega arith) _ c.read_bound.ensures

pub returns-in-Var : goal.returns-in-Var
returns-in-Var c =
    let input = c.args.input.now in
    comes_leads statement_of _ _ input _ (simple_by (origin_of input) c.args.spaces _ _ _ _ (head_on input c.args.at _ c.in-Some.ensures.some)
    (sym c.simple_of.ensures ∙ c.in-Var.is)) _ (omega arith) _ c.read_bound-in-Var.ensures

pub returns-in-Const : goal.returns-in-Const
returns-in-Const c =
    let input = c.args.input.now in
    comes_leads statement_of _ _ input _ (simple_by (origin_of input) c.args.spaces _ _ _ _ (head_on input c.args.at _ c.in-Some.ensures.some)
    (sym c.simple_of.ensures ∙ c.in-Const.is)) _ (omega arith) _ c.read_bound-in-Const.ensures
