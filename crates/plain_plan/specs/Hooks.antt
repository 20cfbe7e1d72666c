-- What a table says of hooks is so.
use Rattle.std.specs.Prelude.{◌≡◌, ℕ, ◌<◌, Bool, length, List}
use Rattle.nim_types.specs.declared.types.TypeDef.{TypeDef}
use Rattle.nim_types.specs.Table.{type_at, types_in, facts_in, HasHooks}
use Rattle.nim_meaning.specs.Here.{is_hooked}

abbrev pub HaveHooks : List TypeDef → Type 0
HaveHooks table = (ty : ℕ) (says : Bool) → ty < length table → HasHooks table ty says → says ≡ is_hooked (facts_in table) (type_at (types_in table) ty)
