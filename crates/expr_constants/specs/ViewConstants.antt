-- What the code's values of constants stand for. It serves proofs: no public contract speaks of it but that of `value_in`.
use Rattle.std.specs.Prelude.{ℕ, suc, ◌^◌, ◌-◌, ℤ, pos, negsuc, Bool, true, false, List, [], ◌∷◌}
use Rattle.std.specs.Prelude.{length, nat_eq, if◌then◌else◌, Option, Some, None, Vec}
use Rattle.std.specs.declared.alloc.Global.{Global}
use Rattle.nim_types.specs.Types.{Ty, Facts}
use Rattle.nim_types.specs.declared.types.TypeDef.{TypeDef}
use Rattle.nim_types.specs.declared.types.TypeDef.TheVariants as D
use Rattle.nim_types.specs.Table.{type_at}
use Rattle.nim_program.specs.declared.expr.Literal.{Literal as RustLiteral}
use Rattle.nim_program.specs.Program.{Literal, Literals, Number, Characters, NoLiteral, ALiteral}
use Rattle.nim_program.specs.Ints.{low_byte}
use Rattle.nim_program.specs.declared.expr.Operand.{Operand as RustArgument}
use Rattle.nim_program.specs.declared.expr.Operand.TheVariants as argument
use Rattle.nim_program.specs.View.{expr_of, path_of, literals_of}
use Rattle.expr_constants.specs.declared.evaluated.Evaluated.{Evaluated as RustEvaluated}
use Rattle.expr_constants.specs.declared.evaluated.Evaluated.TheVariants as V
use Rattle.expr_rules.specs.Constants.{given_or, value_in, value_at, Evaluated, comes_to, traps, varies}
use Rattle.nim_program.specs.Defaults.{default_literal}
use Rattle.plain_values.specs.Entries.{and_last}

abbrev pub evaluated_of : {A B : Type 0} → (A → B) → RustEvaluated A → Evaluated B
evaluated_of of (V.Comes a) = comes_to (of a)
evaluated_of of V.Traps = traps
evaluated_of of V.Varies = varies

-- a number that isn't negative
abbrev pub natural : ℤ → Option ℕ
natural (pos n) = Some n
natural (negsuc n) = None

-- ---- texts and chars

abbrev pub has_letters : Literal → Bool
has_letters (Number z) = true
has_letters (Characters bytes) = true
has_letters _ = false

abbrev pub letters : Literal → List ℕ
letters (Number z) = low_byte z ∷ []
letters (Characters bytes) = bytes
letters _ = []

abbrev pub is_text : Literal → Bool
is_text (Characters bytes) = true
is_text _ = false

-- ---- `and` and `or`

abbrev pub left_of : Evaluated Literal → Evaluated Literal → Evaluated Literal
left_of a varies = varies
left_of a b = a

-- ---- lists

abbrev pub values_of : Vec RustLiteral Global → Literals
values_of all = literals_of all.items

abbrev pub and_value : Literals → Literal → Evaluated Literals
and_value all l = comes_to (and_last all l)

-- of an operand of a node
abbrev pub value_of : Facts → List Ty → RustArgument → Evaluated Literal
value_of facts ts (argument.Value e) = value_in facts (expr_of ts e)
value_of facts ts (argument.At path) = value_at facts (path_of ts path)

-- ---- objects

abbrev pub literal_or : {R : Type 0} → (R → Literal) → Literal → Option R → Literal
literal_or of other None = other
literal_or of other (Some l) = of l

-- the types of an object's fields, where they are known
abbrev pub known_parts : TypeDef → List ℕ
known_parts (D.Object name at is all own_hooks parts) = if nat_eq (length all) (length parts) then parts else []
known_parts _ = []

-- the fields of these types from a number on
abbrev pub field_values : Facts → List Ty → ℕ → List ℕ → List (ℕ × Literal) → Literals
field_values facts ts i [] given = NoLiteral
field_values facts ts i (p ∷ ps) given =
    ALiteral (given_or i given (default_literal facts (type_at ts p))) (field_values facts ts (suc i) ps given)

-- ---- parts of tuples

abbrev pub tuple_parts : TypeDef → Option (List ℕ)
tuple_parts (D.Tuple names is) = Some is
tuple_parts _ = None

abbrev pub behind : Option (List ℕ) → (behind_value behind_index : ℕ) → ℕ
behind (Some is) m k = m
behind None m k = k

-- ---- sizes

-- the most bytes that are told apart
abbrev pub most : ℕ
most = 2 ^ 64 - 1
