-- The lemmas that proofs of other crates may cite.
pub use Rattle.arc_base.proofs.ForCallers.{answers_as, forgets, goes, makes, refuses, stops}
pub use Rattle.expr_parts.proofs.Arguing.{nothing_left, opened}
pub use Rattle.expr_parts.proofs.Choosing.{fit_first, one_further, take_all, what_within}
pub use Rattle.expr_parts.proofs.Fields.{all_fields, all_known, if_ok, none_known}
pub use Rattle.expr_parts.proofs.Growing.{grown_on, grown_same}
pub use Rattle.expr_parts.proofs.Indexing.{found_below, text_sound, up_to}
pub use Rattle.expr_parts.proofs.Knowing.{hides, is_procedure, known_from, known_in, known_none, next_smaller}
pub use Rattle.expr_parts.proofs.Making.{below_as, made_as}
pub use Rattle.expr_parts.proofs.Naming.{no_type, same_procedure}
pub use Rattle.expr_parts.proofs.Rows.{all_count, literal_count, next_item, none_left}
pub use Rattle.expr_parts.proofs.Settling.{counted, exprs_are, no_fit_is}
pub use Rattle.expr_parts.proofs.TypeNumbers.{bool_below, bool_under, char_below, char_under, entry_under, front_of, int_below, int_under}
pub use Rattle.expr_parts.proofs.TypeNumbers.{interned_under, text_below, text_under}
pub use Rattle.expr_parts.proofs.Within.{below_more, decls_both, decls_more, ids_and, ready_on}
