-- Which fields the parts of a construction give.
use Rattle.std.specs.Prelude.{◌≡◌, ℕ, true, false, List, [], ◌∷◌, Some, None}
use Rattle.arc_base.specs.declared.place.Code.{Code}
use Rattle.arc_base.specs.declared.place.Code.TheVariants.{UnknownName, NotTyped}
use Rattle.nim_types.specs.Types.{Ty}
use Rattle.expr_rules.specs.Env.{Env}
use Rattle.expr_rules.specs.Constructions.{Found, field_named, is_number_among}

-- parts with these names, in normal form, are these fields of the type, each once
pub data AreFields (env : Env) (ty : Ty) : List (List ℕ) → List Found → Type 0 where
  no_part : AreFields env ty [] []
  a_field : {x : List ℕ} {f : Found} {rest : List (List ℕ)} {more : List Found} → field_named env x ty ≡ Some f → AreFields env ty rest more
      → is_number_among f.number more ≡ false → AreFields env ty (x ∷ rest) (f ∷ more)

-- an unknown field is told before one that is given twice
pub data AreNoFields (env : Env) (ty : Ty) : List (List ℕ) → Code → Type 0 where
  unknown_field : {x : List ℕ} {rest : List (List ℕ)} → field_named env x ty ≡ None → AreNoFields env ty (x ∷ rest) UnknownName
  later_field : {x : List ℕ} {f : Found} {rest : List (List ℕ)} {c : Code} → field_named env x ty ≡ Some f → AreNoFields env ty rest c
      → AreNoFields env ty (x ∷ rest) c
  field_twice : {x : List ℕ} {f : Found} {rest : List (List ℕ)} {more : List Found} → field_named env x ty ≡ Some f → AreFields env ty rest more
      → is_number_among f.number more ≡ true → AreNoFields env ty (x ∷ rest) NotTyped
