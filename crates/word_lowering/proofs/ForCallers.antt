-- The lemmas that proofs of other crates may cite.

pub use Rattle.word_lowering.proofs.CallRooms.{small_found}
pub use Rattle.word_lowering.proofs.DataSizes.{data_sized}
