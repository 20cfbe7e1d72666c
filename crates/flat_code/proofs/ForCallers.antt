-- The lemmas that proofs of other crates may cite.

pub use Rattle.flat_code.proofs.Same.{same_agrees, same_pace, agrees_as, paced_as, sound_as}
pub use Rattle.flat_code.proofs.ByLines.{runs_by_lines, within_by_lines}
pub use Rattle.flat_code.proofs.ByUnits.{sound_within, unbounded}
pub use Rattle.flat_code.proofs.Standstill.{stands_still}
pub use Rattle.flat_code.proofs.KeptForms.{form_by_lines}
-- ---- shapes of types that have forms
pub use Rattle.flat_code.proofs.ShapeDepths.{IsSorted, AreSorted}
pub use Rattle.flat_code.proofs.SortedTables.{sorted_table}
pub use Rattle.flat_code.proofs.ShapeKinds.{shapes_of, Matches, AllHave, PartsHave, Shaped, shaped, plain_shaped}
pub use Rattle.flat_code.proofs.ConstantShapes.{is_free, are_free, free_of, is_simple, simple_of, IsOf, constant_shape, text_shape, pieces_are, pieces_fit}
