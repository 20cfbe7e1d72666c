-- The lemmas that proofs of other crates may cite.

-- ---- types and their forms
pub use Rattle.nim_types.proofs.Equality.{same_sound, same_refl}
pub use Rattle.nim_types.proofs.Forming.{the_form, object_weight, without, others_stay, still_among, fewer, smaller, all_smaller}
-- ---- tables
pub use Rattle.nim_types.proofs.Numbering.{count, front, meant_front, said_front, at_entry, entry_inside, interned, said_number}
pub use Rattle.nim_types.proofs.Numbering.{one_more, all_more, within_more, get_front}
-- ---- their entries
pub use Rattle.nim_types.proofs.EntryLemmas.{index_get, one_below, fields_by, fields_there, fields_none, fields_types}
pub use Rattle.nim_types.proofs.EntryLemmas.{by_entry, said_by, entry_type, entry_said}
