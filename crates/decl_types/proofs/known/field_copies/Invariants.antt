use Rattle.std.proofs.Common.{◌≡◌, ◌++◌, drop}
use Rattle.decl_types.proofs.known.field_copies.Given as goal

abbrev pub invariant-loop-field : goal.invariant-loop-field
invariant-loop-field l = l.copies ++ drop l.field-index l.fields ≡ l.fields
