-- The lemmas that proofs of other crates may cite.

-- ---- what deeds come to, one behind another
pub use Rattle.hook_lifting.proofs.Deeds.{done_then, performs_then}
-- ---- the form of a type by its entry
pub use Rattle.hook_lifting.proofs.EntryForms.{forms_at, entry_form, form_at}
-- ---- lines do what the meaning does
pub use Rattle.hook_lifting.proofs.Entries.{does_hook}
pub use Rattle.hook_lifting.proofs.Cuts.{does_cut}
-- ---- what walks work at least
pub use Rattle.hook_lifting.proofs.Follows.{LeastDone}
pub use Rattle.hook_lifting.proofs.Least.{least_walk}
