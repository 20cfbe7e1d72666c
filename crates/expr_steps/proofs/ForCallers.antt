-- The lemmas that proofs of other crates may cite.
pub use Rattle.expr_parts.proofs.ForCallers.{ids_and, ready_on}
pub use Rattle.expr_steps.proofs.Judging.{forgotten, goes_behind, goes_on, said_so, stops_there}
pub use Rattle.expr_steps.proofs.Within.{all_below_more, asks_more, branches_more, found_more, operand_more, operands_and, operands_more}
pub use Rattle.expr_steps.proofs.Within.{values_and, values_more, want_more}
