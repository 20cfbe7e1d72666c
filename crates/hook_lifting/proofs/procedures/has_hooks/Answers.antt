use Rattle.std.proofs.Common.{true, sym, ap, ◌∙◌}
use Rattle.nim_types.specs.Forms.{hooked}
use Rattle.nim_types.proofs.ForCallers.{the_form}
use Rattle.hook_lifting.proofs.procedures.has_hooks.Goals as goal

pub returns : goal.returns
returns c =
    let h = c.requires.forms c.args.ty c.requires.inside in
    c.is_hooked.ensures true h.0 h.1 ∙ ap hooked (sym (the_form h.1))
