-- The lemmas that proofs of other crates may cite.
pub use Rattle.expr_constants.proofs.Fixing.{answered_fixed, fixed_by, made_fixed, scope_fixed, type_fixed, value_fixed}
