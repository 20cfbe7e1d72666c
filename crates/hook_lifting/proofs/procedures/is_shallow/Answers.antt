use Rattle.std.proofs.Common.{◌∙◌}
use Rattle.hook_lifting.proofs.procedures.is_shallow.Goals as goal

pub returns : goal.returns
returns c = c.mark_of.ensures ∙ c.requires.marked c.args.ty c.requires.inside
