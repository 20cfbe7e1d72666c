-- The lemmas that proofs of other crates may cite.

-- ---- answers that mean what rules say
pub use Rattle.expr_rules.proofs.Means.{Means, m_ok, m_err, means_then, means_map, itself, means_last, means_ok, means_err, bind_ok, bind_err}
-- ---- what labels cover
pub use Rattle.expr_rules.proofs.Covering.{covering}
