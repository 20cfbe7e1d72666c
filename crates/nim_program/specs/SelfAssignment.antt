-- When what is assigned is the very path that gets it, as in `x.f = x.f` and `a[0] = a[0]`, and when a value is the result itself.
use Rattle.std.specs.Prelude.{ℤ, Bool, false, ◌&&◌, Option, Some, nat_eq}
use Rattle.std.specs.Ordering.{int_eq}
use Rattle.nim_program.specs.Program.{Expr, Read, Path, Variable, Field, Element, Deref, Declared}

-- both are constant, and equal
abbrev pub equal_constants : Option ℤ → Option ℤ → Bool
equal_constants (Some i) (Some j) = int_eq i j
equal_constants _ _ = false

-- the same name, the same fields, dereferences and equal constant indexes
abbrev pub equal_paths : Path → Path → Bool
equal_paths (Variable node ty place global) (Variable other other_ty other_place other_global) = nat_eq place other_place
equal_paths (Field node ty base field) (Field other other_ty other_base other_field) = nat_eq field other_field && equal_paths base other_base
equal_paths (Element node ty base index constant) (Element other other_ty other_base other_index other_constant) =
    equal_constants constant other_constant && equal_paths base other_base
equal_paths (Deref ty base) (Deref other_ty other_base) = equal_paths base other_base
equal_paths _ _ = false

abbrev pub is_itself : Path → Expr → Bool
is_itself path (Read other) = equal_paths path other
is_itself path _ = false

-- whether a value is the result itself
abbrev pub is_result : Option Declared → Expr → Bool
is_result (Some place) (Read (Variable node ty number global)) = nat_eq number place.number
is_result _ _ = false
