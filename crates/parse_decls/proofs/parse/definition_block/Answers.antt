use Rattle.std.proofs.Common.{arith}
use Rattle.std.specs.Prelude.{map}
use Rattle.nim_tree.specs.Lists.{total}
use Rattle.nim_tree.specs.Statements.{definition_of, definition_nodes}
use Rattle.parse_exprs.specs.Input.{origin_of}
use Rattle.parse_decls.proofs.Definitions.{definition_block}
use Rattle.parse_decls.proofs.Claims.{agrees}
use Rattle.parse_decls.proofs.Spans.{definition_block_takes}
use Rattle.parse_decls.proofs.Answering.{comes_reads, comes_only, comes_size, comes_inside, comes_refused}
use Rattle.parse_decls.proofs.parse.definition_block.Goals as goal

pub returns-clause-reads : goal.returns-clause-reads
returns-clause-reads c = comes_reads (λ all. map definition_of all.items) (agrees (definition_block (origin_of c.args.input.now) c.args.spaces))
    c.args.input.now c.args.at c.args.at _ c.read_definition_block.ensures

pub returns-clause-only : goal.returns-clause-only
returns-clause-only c = comes_only (λ all. map definition_of all.items) (agrees (definition_block (origin_of c.args.input.now) c.args.spaces)) c.args.input.now
    c.args.at c.args.at _ c.read_definition_block.ensures

pub returns-clause-size : goal.returns-clause-size
returns-clause-size c = comes_size (λ all. map definition_of all.items) (agrees (definition_block (origin_of c.args.input.now) c.args.spaces))
    (λ all. total definition_nodes all) (λ a ts rest d. definition_block_takes a ts rest d.reads) c.args.input.now c.args.at c.args.at
    (omega arith) _ c.read_definition_block.ensures

pub returns-clause-inside : goal.returns-clause-inside
returns-clause-inside c = comes_inside (λ all. map definition_of all.items) (agrees (definition_block (origin_of c.args.input.now) c.args.spaces))
    (λ all. total definition_nodes all) (λ a ts rest d. definition_block_takes a ts rest d.reads) c.args.input.now c.args.at c.args.at
    _ c.read_definition_block.ensures

pub returns-clause-refused : goal.returns-clause-refused
returns-clause-refused c = comes_refused (λ all. map definition_of all.items) (agrees (definition_block (origin_of c.args.input.now) c.args.spaces))
    c.args.input.now c.args.at c.args.at _ c.read_definition_block.ensures
