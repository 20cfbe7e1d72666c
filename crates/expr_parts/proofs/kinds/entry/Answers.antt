use Rattle.std.proofs.Common.{length, arith}
use Rattle.nim_types.proofs.ForCallers.{within_more}
use Rattle.expr_parts.proofs.TypeNumbers.{entry_under, fact_under}
use Rattle.expr_parts.proofs.kinds.entry.Goals as goal

pub returns-clause-means : goal.returns-clause-means
returns-clause-means c = λ ts facts u. entry_under c.args.id c.get.result.now u c.requires c.get.ensures.entry

pub returns-clause-says : goal.returns-clause-says
returns-clause-says c = λ ts facts u. fact_under c.args.id c.get.result.now u c.requires c.get.ensures.entry

pub returns-clause-inside : goal.returns-clause-inside
returns-clause-inside c = within_more c.args.id (length c.args.types.now) c.get.result.now (omega (arith, c.requires)) c.get.ensures.within
