use Rattle.std.proofs.Common.{length}
use Rattle.expr_parts.proofs.ForCallers.{if_ok}
use Rattle.decl_types.proofs.Numbering.{below_at}
use Rattle.decl_types.proofs.known.add_base.Goals as goal

pub add_distinct-requires : goal.add_distinct-requires
add_distinct-requires c = below_at (length c.args.types.now) c.args.ids.now c.args.base c.id_at-base.result c.requires.below c.id_at-base.ensures

pub returns-clause-declares : goal.returns-clause-declares
returns-clause-declares c = if_ok c.add_distinct.result c.add_distinct.ensures.declares (λ id d. (c.id_at-base.result, c.id_at-base.ensures, d))
