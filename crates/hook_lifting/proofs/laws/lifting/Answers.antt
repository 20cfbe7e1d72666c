use Rattle.hook_lifting.proofs.Entries.{does_hook}
use Rattle.hook_lifting.proofs.laws.lifting.Goals as goal

pub returns : goal.returns
returns c = λ table is_table formed hook ty entry at hooks no. does_hook table is_table formed hook ty entry at hooks no
