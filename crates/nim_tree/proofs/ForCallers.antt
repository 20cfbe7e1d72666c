-- What crates above cite of the proofs of this crate.
pub use Rattle.nim_tree.proofs.Rows.{called, indexed, selected, selected_else, listed, chosen, constructed, sequenced, tupled}
pub use Rattle.nim_tree.proofs.TypeRows.{named_type, tuple_type}
pub use Rattle.nim_tree.proofs.StmtRows.{conditional, selected as selected_statement, repeated, counted, tried, deferred, proclaimed}
