use Rattle.std.proofs.Common.{arith}
use Rattle.parse_decls.proofs.ForCallers.{behind_at}
use Rattle.parse_stmts.proofs.marks.past.Goals as goal

pub returns-then-at-input : goal.returns-then-at-input
returns-then-at-input c = record {
  is = c.if-found.true;
  behind = behind_at c.args.at c.args.input.now.tokens.now;
  goes = omega arith;
  within = omega arith;
}
