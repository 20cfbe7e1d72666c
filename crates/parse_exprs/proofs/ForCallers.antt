-- What proofs of the crates above may cite of this crate's proofs: that an expression is what a computation reads, how far it
-- reaches, and that reading it ends.
pub use Rattle.parse_exprs.proofs.Sound.{Behind, sound_expr, sound_primary}
pub use Rattle.parse_exprs.proofs.Complete.{complete_expr, complete_primary}
pub use Rattle.parse_exprs.proofs.FaultsSound.{faults_expr, faults_primary}
pub use Rattle.parse_exprs.proofs.FaultsComplete.{fails_expr, fails_primary}
pub use Rattle.parse_exprs.proofs.Laws.{expr_agrees}
pub use Rattle.parse_exprs.proofs.Spans.{Free, stop, step, Spans, expr_spans, primary_spans, no_end_at}
pub use Rattle.parse_exprs.proofs.Stopping.{both_of, false_true}
pub use Rattle.parse_exprs.proofs.Deciding.{exprs_end, callees_end}
