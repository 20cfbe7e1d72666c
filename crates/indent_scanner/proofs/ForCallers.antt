-- What crates above cite of the proofs of this crate.
pub use Rattle.indent_scanner.proofs.OneReading.{once, apart, refused_once}
