-- The lemmas that proofs of other crates may cite.

-- ---- chains of calls
pub use Rattle.word_code.proofs.Chains.{longest_times, levels_most}
-- ---- how lines of word code run
pub use Rattle.word_code.proofs.WordRuns.{AlwaysSteps, AlwaysStops, one, none, on, ends_one, stops_on, got, got_sum, Runs, then_runs, Within, at}
pub use Rattle.word_code.proofs.WordRuns.{run_label, spends_if, run_unspent, run_constant, run_place, run_datum, run_copy}
pub use Rattle.word_code.proofs.WordRuns.{run_sum, run_compute, run_load, run_store}
pub use Rattle.word_code.proofs.WordRuns.{run_argument, run_past, run_off, run_jump, run_write}
-- ---- numbers in memory
pub use Rattle.word_code.proofs.Cells.{MemoryLaw, law_by, Sized, sizes_same, sizes_more, store_rewritten, store_sized, store_here, put_sized, put_here}
pub use Rattle.word_code.proofs.Areas.{aligned, put_cell, put_area, low_word, low_small, got_low, with_copied}
pub use Rattle.word_code.proofs.CopiedWords.{at_same, Apart, span, span_is, SameOutside, Changed, changed_none, changed_rewritten, changed_more}
pub use Rattle.word_code.proofs.CopiedWords.{low_read, changed_word, CopiedTo, separate_on, copied_to}
-- ---- procedures of codes that are joined
pub use Rattle.word_code.proofs.JoinedProcs.{found_first, found_last, free_of, joined_formed, joined_ranked}
pub use Rattle.word_code.proofs.JoinedProcs.{joined_unhooked}
pub use Rattle.word_code.proofs.DataRoom.{routines_room}
