-- The lemmas that proofs of other crates may cite.
pub use Rattle.decl_written.proofs.NameSets.{no_names}
pub use Rattle.decl_written.proofs.AtOnce.{below_each, empty_is, names_behind, some_is, stops_first}
