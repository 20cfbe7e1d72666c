-- The lemmas that proofs of other crates may cite.
pub use Rattle.source_compiler.proofs.Taking.{unread, code_read}
pub use Rattle.source_compiler.proofs.Unlisted.{meaning_same, within_same, image_same}
pub use Rattle.source_compiler.proofs.Stages.{under_plan}
