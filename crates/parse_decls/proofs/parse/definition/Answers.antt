use Rattle.std.proofs.Common.{arith}
use Rattle.std.specs.Prelude.{suc}
use Rattle.nim_tree.specs.Statements.{definition_of, definition_nodes}
use Rattle.parse_exprs.specs.declared.layout.Layout.TheVariants.{Lines}
use Rattle.parse_exprs.specs.Input.{origin_of}
use Rattle.parse_decls.proofs.Definitions.{definition}
use Rattle.parse_decls.proofs.Claims.{agrees}
use Rattle.parse_decls.proofs.Spans.{definition_takes}
use Rattle.parse_decls.proofs.Answering.{comes_reads, comes_only, comes_size, comes_inside, comes_refused}
use Rattle.parse_decls.proofs.parse.definition.Goals as goal

pub returns-clause-reads : goal.returns-clause-reads
returns-clause-reads c = comes_reads definition_of (agrees (definition (origin_of c.args.input.now) (Lines c.args.spaces))) c.args.input.now c.args.at
    (suc c.args.at) _ c.read_definition.ensures

pub returns-clause-only : goal.returns-clause-only
returns-clause-only c = comes_only definition_of (agrees (definition (origin_of c.args.input.now) (Lines c.args.spaces))) c.args.input.now c.args.at
    (suc c.args.at) _ c.read_definition.ensures

pub returns-clause-size : goal.returns-clause-size
returns-clause-size c = comes_size definition_of (agrees (definition (origin_of c.args.input.now) (Lines c.args.spaces))) definition_nodes
    (λ a ts rest d. definition_takes a ts rest d.reads) c.args.input.now c.args.at (suc c.args.at) (omega arith) _ c.read_definition.ensures

pub returns-clause-inside : goal.returns-clause-inside
returns-clause-inside c = comes_inside definition_of (agrees (definition (origin_of c.args.input.now) (Lines c.args.spaces))) definition_nodes
    (λ a ts rest d. definition_takes a ts rest d.reads) c.args.input.now c.args.at (suc c.args.at) _ c.read_definition.ensures

pub returns-clause-refused : goal.returns-clause-refused
returns-clause-refused c = comes_refused definition_of (agrees (definition (origin_of c.args.input.now) (Lines c.args.spaces))) c.args.input.now c.args.at
    (suc c.args.at) _ c.read_definition.ensures
