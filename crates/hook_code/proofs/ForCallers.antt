-- The lemmas that proofs of other crates may cite.

-- ---- hooks, and what makes sequences shorter, do what the meaning does
pub use Rattle.hook_code.proofs.Promised.{hooks_kept, cuts_kept}
