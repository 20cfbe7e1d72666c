use Rattle.std.proofs.Common.{ap, ◌∙◌}
use Rattle.nim_tree.specs.Terms.{parts_of}
use Rattle.parse_exprs.proofs.Making.{and_last}
use Rattle.parse_exprs.proofs.make.and_part.Goals as goal

pub returns-clause-parts : goal.returns-clause-parts
returns-clause-parts c = ap parts_of c.in_ok-push.ensures.items ∙ and_last c.args.some.parts.items c.args.last.tree
