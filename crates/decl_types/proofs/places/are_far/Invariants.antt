use Rattle.std.proofs.Common.{◌≡◌, ℕ, ◌<◌, length, Some}
use Rattle.std.specs.Prelude.{slice_get}
use Rattle.nim_types.specs.declared.types.TypeDef.{TypeDef}
use Rattle.decl_types.specs.ViewPlaces.{IsFar}
use Rattle.decl_types.proofs.places.are_far.Given as goal

abbrev pub invariant-loop-id : goal.invariant-loop-id
invariant-loop-id l = record {
  end : l.id-end ≡ length l.types;
  far : (i : ℕ) (d : TypeDef) → i < l.id → slice_get l.types i ≡ Some d → IsFar l.home l.last d;
}
