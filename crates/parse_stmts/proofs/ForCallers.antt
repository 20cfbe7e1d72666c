-- What proofs of the crates above may cite of this crate's proofs: that tokens are a tree or are refused, and in one way.
pub use Rattle.parse_stmts.proofs.Deciding.{module_decided}
pub use Rattle.parse_stmts.proofs.Verdicts.{module_once, module_stands, refused_once}
