use Rattle.std.proofs.Common.{arith}
use Rattle.std.specs.Prelude.{suc}
use Rattle.nim_tree.specs.Statements.{head_of, head_nodes}
use Rattle.parse_exprs.specs.declared.layout.Layout.TheVariants.{Lines}
use Rattle.parse_exprs.specs.Input.{origin_of}
use Rattle.parse_decls.proofs.Heads.{head}
use Rattle.parse_decls.proofs.Claims.{agrees}
use Rattle.parse_decls.proofs.Spans.{head_takes}
use Rattle.parse_decls.proofs.Answering.{comes_reads, comes_only, comes_size, comes_inside, comes_refused}
use Rattle.parse_decls.proofs.parse.procedure_head.Goals as goal

pub returns-clause-reads : goal.returns-clause-reads
returns-clause-reads c = comes_reads head_of (agrees (head (origin_of c.args.input.now) (Lines c.args.spaces))) c.args.input.now c.args.at
    (suc c.args.at) _ c.read_head.ensures

pub returns-clause-only : goal.returns-clause-only
returns-clause-only c = comes_only head_of (agrees (head (origin_of c.args.input.now) (Lines c.args.spaces))) c.args.input.now c.args.at
    (suc c.args.at) _ c.read_head.ensures

pub returns-clause-size : goal.returns-clause-size
returns-clause-size c = comes_size head_of (agrees (head (origin_of c.args.input.now) (Lines c.args.spaces))) head_nodes
    (λ a ts rest d. head_takes a ts rest d.reads) c.args.input.now c.args.at (suc c.args.at) (omega arith) _ c.read_head.ensures

pub returns-clause-inside : goal.returns-clause-inside
returns-clause-inside c = comes_inside head_of (agrees (head (origin_of c.args.input.now) (Lines c.args.spaces))) head_nodes
    (λ a ts rest d. head_takes a ts rest d.reads) c.args.input.now c.args.at (suc c.args.at) _ c.read_head.ensures

pub returns-clause-refused : goal.returns-clause-refused
returns-clause-refused c = comes_refused head_of (agrees (head (origin_of c.args.input.now) (Lines c.args.spaces))) c.args.input.now c.args.at
    (suc c.args.at) _ c.read_head.ensures
