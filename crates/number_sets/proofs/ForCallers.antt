-- The lemmas that proofs of other crates may cite.
pub use Rattle.number_sets.proofs.Stamping.{by_either, or_first, or_next, same_itself, with_is, with_more}
pub use Rattle.number_sets.proofs.Positions.{among_more, among_at, index_of, get_front, past_end, below_or_not, with_has}
