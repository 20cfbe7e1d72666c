-- The lemmas that proofs of other crates may cite.
pub use Rattle.decl_parts.proofs.Branching.{one_step, lists_as}
pub use Rattle.expr_parts.proofs.ForCallers.{below_more, decls_both, decls_more}
pub use Rattle.decl_parts.proofs.Growing.{facts_kept, inside_more, over_old, result_more, scope_by}
pub use Rattle.decl_parts.proofs.Judging.{typing_any, typing_as, typing_stops, typing_then, typing_here}
pub use Rattle.decl_parts.proofs.Judging.{further_grown, further_typed, ready_typed, ready_grown, same_view}
pub use Rattle.decl_parts.proofs.Stating.{further_same, further_on, further_as, further_to, stands_still}
pub use Rattle.decl_parts.proofs.Stating.{stated_so, stated_from, stated_forgets, stated_refuses, stated_stops, type_stops, rule_stops}
pub use Rattle.decl_parts.proofs.Stating.{stated_goes, type_goes, rule_goes, ready_at, did_so, did_by, stated_here, one_here, same_state}
pub use Rattle.decl_parts.proofs.Listing.{Left, left_whole, left_goes, left_stops, left_forgets, left_ends, blocked_steps, steps_append}
pub use Rattle.decl_parts.proofs.Listing.{keeps, then_as, steps_onto, nothing_onto, more_onto, onto_end, list_made, list_stops, stops_as}
pub use Rattle.decl_parts.proofs.Naming.{next_name, own_begin, own_more, scope_left, names_so, names_same}
