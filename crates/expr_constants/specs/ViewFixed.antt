-- What no type that is added to a table later changes.
use Rattle.std.specs.Prelude.{◌≡◌, List}
use Rattle.nim_types.specs.declared.types.TypeDef.{TypeDef}
use Rattle.nim_types.specs.Types.{Ty, Facts}
use Rattle.nim_types.specs.Table.{types_in}
use Rattle.expr_parts.specs.View.{Under}

-- Under each list that begins with the types of the table it is what it is under these alone: all numbers in it are of the table.
abbrev pub IsFixed : {A : Type 0} → List TypeDef → (List Ty → A) → Type 0
IsFixed ds of = (ts : List Ty) (facts : Facts) → Under ds ts facts → of ts ≡ of (types_in ds)
