-- The lemmas that proofs of other crates may cite.
pub use Rattle.plain_values.proofs.StartRows.{literals_last}
