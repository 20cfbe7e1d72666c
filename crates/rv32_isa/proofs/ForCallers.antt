-- The lemmas that proofs of other crates may cite.
pub use Rattle.rv32_isa.proofs.Words.{little-word_bytes, length-word_bytes, row-word_of, word_of_fits, length-code}
pub use Rattle.rv32_isa.proofs.Marks.{mark_some, marks_more, mark_within, comes_back}
pub use Rattle.rv32_isa.proofs.BytesRead.{both_read, as_many_read}
