-- The lemmas that proofs of other crates may cite.

-- ---- instructions that stand in the code
pub use Rattle.rv32_logic.proofs.Fetch.{stands_back, stands_all, all_in_range-append, obeyed}
-- ---- registers
pub use Rattle.rv32_logic.proofs.Registers.{put_regs, put_same}
-- ---- memory
pub use Rattle.rv32_logic.proofs.Addresses.{signed12_small, plain_address, constant_is}
pub use Rattle.rv32_logic.proofs.Data.{holds_read}
pub use Rattle.rv32_logic.proofs.Memory.{put_bytes_long, stack_read, stack_may, stack_put, lw_goes, sw_goes}
-- ---- branches
pub use Rattle.rv32_logic.proofs.Jumps.{branch_goes}
