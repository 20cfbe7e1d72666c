-- Where the definitions of a section stand. No public contract speaks of it.
use Rattle.std.specs.Prelude.{◌≡◌, ℕ, ◌+◌, ◌*◌, ◌<◌, ◌≤◌, List, [], ◌∷◌, Some, slice_get}
use Rattle.arc_base.specs.declared.place.Place.{Place}
use Rattle.nim_tree.specs.Types.{Declaration}
use Rattle.nim_types.specs.declared.types.TypeDef.{TypeDef}
use Rattle.nim_types.specs.declared.types.TypeDef.TheVariants as D

-- of a place in its module: what stands behind has a larger one
abbrev pub position : Place → ℕ
position at = at.line * 4294967296 + at.column

-- definitions of one module, each behind the one before and behind a position
abbrev pub Ascends : (home last : ℕ) → List Declaration → Type 0
Ascends home last [] = Unit {0}
Ascends home last (d ∷ rest) = (d.name.at.module ≡ home) × (last < position d.name.at) × Ascends home (position d.name.at) rest

-- a type that isn't declared behind a position of a module
abbrev pub IsFar : (home last : ℕ) → TypeDef → Type 0
IsFar home last (D.Distinct name at base) = at.module ≡ home → position at ≤ last
IsFar home last _ = Unit {0}

abbrev pub AllFar : (home last : ℕ) → List TypeDef → Type 0
AllFar home last ds = (id : ℕ) (d : TypeDef) → slice_get ds id ≡ Some d → IsFar home last d
