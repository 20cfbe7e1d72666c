-- The lemmas that proofs of other crates may cite.

pub use Rattle.program_limits.proofs.TypeNames.{names_are}
-- ---- distinct texts
pub use Rattle.program_limits.proofs.Distinct.{texts_most}
