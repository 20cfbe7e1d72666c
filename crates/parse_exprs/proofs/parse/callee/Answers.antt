use Rattle.std.proofs.Common.{arith}
use Rattle.nim_tree.specs.Terms.{nodes, term_of}
use Rattle.parse_exprs.specs.Look.{Origin}
use Rattle.parse_exprs.specs.Parsed.{origin, ReadsCallee, CalleeFaults, CalleeRun}
use Rattle.parse_exprs.proofs.Laws.{callee_agrees, is_read, is_only, refused}
use Rattle.parse_exprs.proofs.Spans.{primary_spans, size_at, no_end_at}
use Rattle.parse_exprs.proofs.parse.callee.Goals as goal

pub returns-in-Ok-clause-reads : goal.returns-in-Ok-clause-reads
returns-in-Ok-clause-reads c =
    let x : Origin = origin c.args.source.now c.args.«module» in
    let f = c.in-Ok.ensures in
    is_read (ReadsCallee x c.args.spaces) (CalleeFaults x c.args.spaces) (CalleeRun x c.args.spaces) 64 (callee_agrees x c.args.spaces)
    c.args.tokens.now c.args.from (record { tree = c.in-Ok.field-0.tree; next = c.in-Ok.field-0.next }) f.runs (let g = f.goes in omega (arith, g)) f.within

pub returns-in-Ok-clause-only : goal.returns-in-Ok-clause-only
returns-in-Ok-clause-only c =
    let x : Origin = origin c.args.source.now c.args.«module» in
    is_only (ReadsCallee x c.args.spaces) (CalleeFaults x c.args.spaces) (CalleeRun x c.args.spaces) 64 (callee_agrees x c.args.spaces)
    c.args.tokens.now c.args.from (record { tree = c.in-Ok.field-0.tree; next = c.in-Ok.field-0.next }) c.in-Ok.ensures.runs

pub returns-in-Ok-clause-size : goal.returns-in-Ok-clause-size
returns-in-Ok-clause-size c =
    let x : Origin = origin c.args.source.now c.args.«module» in
    let f = c.in-Ok.ensures in
    let d = (callee_agrees x c.args.spaces).sound _ _ _ f.runs in
    size_at c.args.tokens.now c.args.from c.in-Ok.field-0.next (nodes (term_of c.in-Ok.field-0.tree)) (primary_spans d.reads.spells)
    (let g = f.goes in omega (arith, g)) f.within

pub returns-in-Ok-clause-inside : goal.returns-in-Ok-clause-inside
returns-in-Ok-clause-inside c =
    let x : Origin = origin c.args.source.now c.args.«module» in
    let f = c.in-Ok.ensures in
    let d = (callee_agrees x c.args.spaces).sound _ _ _ f.runs in
    no_end_at c.args.tokens.now c.args.from c.in-Ok.field-0.next (nodes (term_of c.in-Ok.field-0.tree)) (primary_spans d.reads.spells) f.within

pub returns-in-Err-clause-refused : goal.returns-in-Err-clause-refused
returns-in-Err-clause-refused c =
    let x : Origin = origin c.args.source.now c.args.«module» in
    refused (ReadsCallee x c.args.spaces) (CalleeFaults x c.args.spaces) (CalleeRun x c.args.spaces) 64 (callee_agrees x c.args.spaces)
    x c.args.tokens.now c.args.from c.refusal.result (c.refusal.ensures (CalleeRun x c.args.spaces) c.in-Err.ensures)

pub returns-in-Err-clause-runs : goal.returns-in-Err-clause-runs
returns-in-Err-clause-runs c = c.refusal.ensures (CalleeRun (origin c.args.source.now c.args.«module») c.args.spaces) c.in-Err.ensures
