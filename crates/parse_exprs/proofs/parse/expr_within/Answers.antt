use Rattle.std.proofs.Common.{arith}
use Rattle.nim_tree.specs.Terms.{nodes, term_of}
use Rattle.parse_exprs.specs.Look.{Origin}
use Rattle.parse_exprs.specs.Parsed.{origin, Reads, ExprFaults, ExprRun}
use Rattle.parse_exprs.proofs.Laws.{expr_agrees, is_read, is_only, refused}
use Rattle.parse_exprs.proofs.Spans.{expr_spans, size_at, no_end_at}
use Rattle.parse_exprs.proofs.parse.expr_within.Goals as goal

pub returns-in-Ok-clause-reads : goal.returns-in-Ok-clause-reads
returns-in-Ok-clause-reads c =
    let x : Origin = origin c.args.source.now c.args.«module» in
    let f = c.in-Ok.ensures in
    is_read (Reads x c.args.layout) (ExprFaults x c.args.layout c.args.most) (ExprRun x c.args.layout c.args.most) c.args.most
    (expr_agrees x c.args.layout c.args.most)
    c.args.tokens.now c.args.from (record { tree = c.in-Ok.field-0.tree; next = c.in-Ok.field-0.next }) f.runs (let g = f.goes in omega (arith, g)) f.within

pub returns-in-Ok-clause-only : goal.returns-in-Ok-clause-only
returns-in-Ok-clause-only c =
    let x : Origin = origin c.args.source.now c.args.«module» in
    is_only (Reads x c.args.layout) (ExprFaults x c.args.layout c.args.most) (ExprRun x c.args.layout c.args.most) c.args.most
    (expr_agrees x c.args.layout c.args.most)
    c.args.tokens.now c.args.from (record { tree = c.in-Ok.field-0.tree; next = c.in-Ok.field-0.next }) c.in-Ok.ensures.runs

pub returns-in-Ok-clause-size : goal.returns-in-Ok-clause-size
returns-in-Ok-clause-size c =
    let x : Origin = origin c.args.source.now c.args.«module» in
    let f = c.in-Ok.ensures in
    let d = (expr_agrees x c.args.layout c.args.most).sound _ _ _ f.runs in
    size_at c.args.tokens.now c.args.from c.in-Ok.field-0.next (nodes (term_of c.in-Ok.field-0.tree)) (expr_spans d.reads.spells)
    (let g = f.goes in omega (arith, g)) f.within

pub returns-in-Ok-clause-inside : goal.returns-in-Ok-clause-inside
returns-in-Ok-clause-inside c =
    let x : Origin = origin c.args.source.now c.args.«module» in
    let f = c.in-Ok.ensures in
    let d = (expr_agrees x c.args.layout c.args.most).sound _ _ _ f.runs in
    no_end_at c.args.tokens.now c.args.from c.in-Ok.field-0.next (nodes (term_of c.in-Ok.field-0.tree)) (expr_spans d.reads.spells) f.within

pub returns-in-Err-clause-refused : goal.returns-in-Err-clause-refused
returns-in-Err-clause-refused c =
    let x : Origin = origin c.args.source.now c.args.«module» in
    refused (Reads x c.args.layout) (ExprFaults x c.args.layout c.args.most) (ExprRun x c.args.layout c.args.most) c.args.most
    (expr_agrees x c.args.layout c.args.most)
    x c.args.tokens.now c.args.from c.refusal.result (c.refusal.ensures (ExprRun x c.args.layout c.args.most) c.in-Err.ensures)

pub returns-in-Err-clause-runs : goal.returns-in-Err-clause-runs
returns-in-Err-clause-runs c = c.refusal.ensures (ExprRun (origin c.args.source.now c.args.«module») c.args.layout c.args.most) c.in-Err.ensures
