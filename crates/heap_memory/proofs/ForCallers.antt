-- The lemmas that proofs of other crates may cite.

-- ---- ranges of memory
pub use Rattle.heap_memory.proofs.Ranges.{InRegion, area_low, byte_before, data_open, data_part, heap_open, heap_part, joined_read, lies}
pub use Rattle.heap_memory.proofs.Ranges.{nothing_below, part_read, part_there, part_written, read_in, written_in}
-- ---- lists of blocks
pub use Rattle.heap_memory.proofs.BlockLists.{added, added_bytes, added_size, all_whole, block_found, far, if_other, if_same}
pub use Rattle.heap_memory.proofs.BlockLists.{length_all, placed, placed_size, size_some, within}
-- ---- how many there are
pub use Rattle.heap_memory.proofs.Counts.{Entry}
-- ---- blocks taken and given
pub use Rattle.heap_memory.proofs.Kept.{entry_at, entry_free, entry_full, first_small, given_block, next_demand, taken_back, taken_free}
pub use Rattle.heap_memory.proofs.Kept.{taken_next, with_places}
-- ---- the bytes of a block
pub use Rattle.heap_memory.proofs.BlockBytes.{BlockBytes, block_bytes_at, bytes_joined}
-- ---- blocks that stand
pub use Rattle.heap_memory.proofs.HeapUses.{distant, header_read, is_there, refilled, still_heap}
-- ---- bytes at the front of a block
pub use Rattle.heap_memory.proofs.Fills.{Filled, beside_heap, block_there, ends_low, fills, front_part, front_read, grown_filled, heap_with}
pub use Rattle.heap_memory.proofs.Fills.{kept_length, not_other, open_at, others_stay, place_is, stays_filled, stood}
-- ---- handles
pub use Rattle.heap_memory.proofs.HandleWords.{data_more, data_same, handle_put, may_still, open_low, place_may, with_handle, with_long}
pub use Rattle.heap_memory.proofs.CharacterPut.{byte_may, byte_sized, character_put, holds, place_small, still_has, with_byte, with_character}
-- ---- sizes
pub use Rattle.heap_memory.proofs.Sizes.{class_few, class_holds, class_shifted, later_size, no_size, same_stands, size_by_header, size_most, size_shifted}
pub use Rattle.heap_memory.proofs.Sizes.{size_within, sizes_behind, this_size}
-- ---- the meaning's classes
pub use Rattle.heap_memory.proofs.ClassLaws.{class_same, room_same}
