use Rattle.std.proofs.Common.{◌∙◌, None, ℕ}
use Rattle.std.specs.Prelude.{Option}
use Rattle.std.specs.Vec.{vec_len}
use Rattle.expr_parts.specs.declared.slots.TheConstants.{SLOTS}
use Rattle.expr_parts.proofs.Indexing.{filled}
use Rattle.expr_parts.proofs.decls.no_lasts.Goals as goal

pub returns : goal.returns
returns c = c.in_ok-resize.ensures.items
    ∙ filled {X = Option ℕ} SLOTS (vec_len c.new-lasts.result) c.new-lasts.result.items None c.new-lasts.ensures.items c.new-lasts.ensures.len
