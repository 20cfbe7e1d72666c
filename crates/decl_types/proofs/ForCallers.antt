-- The lemmas that proofs of other crates may cite.
pub use Rattle.decl_types.proofs.Declaring.{kept_grown, kept_on}
pub use Rattle.decl_types.proofs.Distances.{all_away}
pub use Rattle.decl_types.proofs.Meaning.{known_as, known_count, of_last}
pub use Rattle.decl_types.proofs.Circling.{all_known}
pub use Rattle.decl_types.proofs.Counting.{enum_known, none_stuck}
pub use Rattle.decl_types.proofs.Ordering.{holds_last, holds_more, holds_none, one_each, sound_more}
pub use Rattle.decl_types.proofs.Outcomes.{last_is, last_there, none_first, on_any, on_one}
pub use Rattle.decl_types.proofs.Positions.{all_differ, no_key_among}
pub use Rattle.decl_types.proofs.Scoping.{env_is, keys_count, names_env_is, number_behind}
