-- The lemmas that proofs of other crates may cite.

pub use Rattle.flattening.proofs.Covers.{bytes_least}
