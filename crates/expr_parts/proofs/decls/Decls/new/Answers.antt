use Rattle.expr_parts.proofs.Indexing.{indexed_start}
use Rattle.expr_parts.proofs.decls.Decls.new.Goals as goal

pub invariant_of-result : goal.invariant_of-result
invariant_of-result c =
    indexed_start c.new.result.items c.in_ok-lasts.lasts.items c.new-2.result.items c.new.ensures.items c.in_ok-lasts.ensures c.new-2.ensures.items
