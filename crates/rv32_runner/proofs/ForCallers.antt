-- The lemmas that proofs of other crates may cite.

-- ---- what takes give
pub use Rattle.rv32_runner.proofs.Carrying.{gave_none, gave_then}
pub use Rattle.rv32_runner.proofs.Filling.{writable_part, gave_take, gave_failed, end_take}
