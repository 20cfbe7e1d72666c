use Rattle.std.proofs.Common.{sym, ◌∙◌, refl}
use Rattle.parse_exprs.specs.Input.{origin_of, from_at}
use Rattle.parse_decls.proofs.ForCallers.{told_fails}
use Rattle.parse_stmts.specs.Look.{opens_block}
use Rattle.parse_stmts.proofs.Steps.{beyond}
use Rattle.parse_stmts.proofs.Blocking.{block_none, block_deep}
use Rattle.parse_stmts.proofs.block.statements.no_level.Goals as goal

pub returns-then-at-input : goal.returns-then-at-input
returns-then-at-input c =
    let input = c.args.input.now in let n = c.args.spaces in
    told_fails (origin_of input)
    (block_none (origin_of input) n (from_at input c.args.at) (beyond (opens_block (origin_of input) n) refl c.args.at input.tokens.now c.if-at-input.true))
    _ c.stuck.ensures

pub returns-then-opens_block : goal.returns-then-opens_block
returns-then-opens_block c =
    let input = c.args.input.now in let x = origin_of input in
    told_fails x (block_deep x c.args.spaces (from_at input c.args.at) (sym c.opens_block.ensures ∙ c.if-opens_block.true)) _ c.too_deep.ensures

pub returns-else-opens_block : goal.returns-else-opens_block
returns-else-opens_block c =
    let input = c.args.input.now in let x = origin_of input in
    told_fails x (block_none x c.args.spaces (from_at input c.args.at) (sym c.opens_block.ensures ∙ c.if-opens_block.false)) _ c.stuck-else-opens_block.ensures
