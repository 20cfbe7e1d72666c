use Rattle.std.proofs.Common.{arith}
use Rattle.std.specs.Prelude.{length, suc}
use Rattle.parse_exprs.specs.Input.{origin_of}
use Rattle.parse_decls.proofs.NameLists.{names}
use Rattle.parse_decls.proofs.Claims.{agrees}
use Rattle.parse_decls.proofs.Spans.{names_takes}
use Rattle.parse_decls.proofs.Answering.{comes_reads, comes_only, comes_size, comes_inside, comes_refused}
use Rattle.parse_decls.proofs.parse.names.Goals as goal

pub returns-clause-reads : goal.returns-clause-reads
returns-clause-reads c = comes_reads (λ names. names.items) (agrees (names (origin_of c.args.input.now) c.args.layout)) c.args.input.now c.args.at
    (suc c.args.at) _ c.read_names.ensures

pub returns-clause-only : goal.returns-clause-only
returns-clause-only c = comes_only (λ names. names.items) (agrees (names (origin_of c.args.input.now) c.args.layout)) c.args.input.now c.args.at
    (suc c.args.at) _ c.read_names.ensures

pub returns-clause-size : goal.returns-clause-size
returns-clause-size c = comes_size (λ names. names.items) (agrees (names (origin_of c.args.input.now) c.args.layout)) (λ all. length all)
    (λ all ts rest d. names_takes d) c.args.input.now c.args.at (suc c.args.at) (omega arith) _ c.read_names.ensures

pub returns-clause-inside : goal.returns-clause-inside
returns-clause-inside c = comes_inside (λ names. names.items) (agrees (names (origin_of c.args.input.now) c.args.layout)) (λ all. length all)
    (λ all ts rest d. names_takes d) c.args.input.now c.args.at (suc c.args.at) _ c.read_names.ensures

pub returns-clause-refused : goal.returns-clause-refused
returns-clause-refused c = comes_refused (λ names. names.items) (agrees (names (origin_of c.args.input.now) c.args.layout)) c.args.input.now c.args.at
    (suc c.args.at) _ c.read_names.ensures
