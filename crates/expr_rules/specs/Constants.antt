-- Constants: which expressions have a value that is known before any run, and which one.
use Rattle.std.specs.Prelude.{ℕ, suc, ℤ, pos, negsuc, nat_eq, nat_lt, nat_le, if◌then◌else◌, List, [], ◌∷◌, ◌++◌, length}
use Rattle.std.specs.Prelude.{Option, Some, None, Ok}
use Rattle.arc_base.specs.declared.place.Place.{Place}
use Rattle.nim_types.specs.Types as type
use Rattle.nim_types.specs.Types.{Ty, Field, Facts, fact_of, members_in, fields_in}
use Rattle.nim_program.specs.declared.operation.Operation.{Operation}
use Rattle.nim_program.specs.declared.operation.Operation.TheVariants as operation
use Rattle.nim_program.specs.declared.operation.Operator.{Operator}
use Rattle.nim_program.specs.declared.operation.UnaryOperator.{UnaryOperator}
use Rattle.nim_program.specs.declared.operation.Comparison.{Comparison}
use Rattle.nim_program.specs.declared.operation.Measure.{Measure}
use Rattle.nim_program.specs.declared.operation.Measure.TheVariants.{Len, High}
use Rattle.nim_program.specs.declared.operation.Short.{Short}
use Rattle.nim_program.specs.declared.operation.Short.TheVariants.{And, Or}
use Rattle.nim_program.specs.Program.{Literal, Number, Characters, PartsOf, ElementsOf, Literals, NoLiteral, ALiteral, Act, Doing, Building, Giving, Calling}
use Rattle.nim_program.specs.Program.{Expr, Apply, Read, Early, Choose, Path, Fresh, Args, NoArg, ByValue, ByPath, types_in}
use Rattle.nim_program.specs.Ints.{Checked, Fine, Trapped, applied, applied_to, compared, truth, is_true, within, low_byte}
use Rattle.nim_program.specs.Texts.{plain_text}
use Rattle.nim_program.specs.Kinds.{below_distinct}
use Rattle.nim_program.specs.Defaults.{default_literal}
use Rattle.expr_rules.specs.declared.limits.TheConstants.{MOST_TYPE_BYTES}
use Rattle.expr_rules.specs.Literals.{literal_bytes}
use Rattle.expr_rules.specs.Answers.{Answer, not_typed, place_in, Valued}

-- ---- evaluation

-- what an expression comes to before any run
pub data Evaluated (A : Type 0) : Type 0 where
  comes_to : A → Evaluated A
  -- an operation in it traps, or a value in it is too large
  traps : Evaluated A
  -- it isn't constant
  varies : Evaluated A

abbrev pub if_fine : Checked → Evaluated Literal
if_fine (Fine z) = comes_to (Number z)
if_fine (Trapped trap) = traps

abbrev pub limited : Literal → Evaluated Literal
limited l = if nat_le (literal_bytes l) MOST_TYPE_BYTES then comes_to l else traps

abbrev pub on_one : {A B : Type 0} → (A → Evaluated B) → Evaluated A → Evaluated B
on_one go (comes_to a) = go a
on_one go traps = traps
on_one go varies = varies

-- what isn't constant counts before what traps
abbrev pub on_two : {A B C : Type 0} → (A → B → Evaluated C) → Evaluated A → Evaluated B → Evaluated C
on_two go (comes_to a) (comes_to b) = go a b
on_two go varies b = varies
on_two go a varies = varies
on_two go _ _ = traps

abbrev pub unary_of : UnaryOperator → Literal → Evaluated Literal
unary_of o (Number x) = if_fine (applied_to o x)
unary_of o _ = varies

abbrev pub binary_of : Operator → Literal → Literal → Evaluated Literal
binary_of o (Number x) (Number y) = if_fine (applied o x y)
binary_of o _ _ = varies

-- what isn't looked at may trap
abbrev pub unless_varies : Evaluated Literal → ℤ → Evaluated Literal
unless_varies varies z = varies
unless_varies _ z = comes_to (Number z)

-- `and` and `or` stop early
abbrev pub both_of : Evaluated Literal → Evaluated Literal → Evaluated Literal
both_of (comes_to (Number x)) b = if is_true x then b else unless_varies b (pos 0)
both_of _ varies = varies
both_of a b = a

abbrev pub either_of : Evaluated Literal → Evaluated Literal → Evaluated Literal
either_of (comes_to (Number x)) b = if is_true x then unless_varies b (pos 1) else b
either_of _ varies = varies
either_of a b = a

-- texts byte by byte; one that another begins with comes before it
abbrev pub text_order : List ℕ → List ℕ → ℤ
text_order [] [] = pos 0
text_order [] (_ ∷ _) = negsuc 0
text_order (_ ∷ _) [] = pos 1
text_order (a ∷ s) (b ∷ t) = if nat_lt a b then negsuc 0 else (if nat_lt b a then pos 1 else text_order s t)

abbrev pub compare_of : Comparison → Literal → Literal → Evaluated Literal
compare_of c (Number x) (Number y) = comes_to (Number (truth (compared c x y)))
compare_of c (Characters s) (Characters t) = comes_to (Number (truth (compared c (text_order s t) (pos 0))))
compare_of c _ _ = varies

-- of a text, or a char
abbrev pub letters_of : Literal → Evaluated (List ℕ)
letters_of (Number z) = comes_to (low_byte z ∷ [])
letters_of (Characters bytes) = comes_to bytes
letters_of _ = varies

abbrev pub join_of : Literal → Literal → Evaluated Literal
join_of a b = on_two (λ s t. limited (Characters (s ++ t))) (letters_of a) (letters_of b)

abbrev pub count : Literals → ℕ
count NoLiteral = 0
count (ALiteral first rest) = suc (count rest)

abbrev pub measured : Measure → ℕ → ℤ
measured Len n = pos n
measured High (suc n) = pos n
measured High _ = negsuc 0

abbrev pub measure_of : Measure → Literal → Evaluated Literal
measure_of m (Characters bytes) = comes_to (Number (measured m (length bytes)))
measure_of m (PartsOf all) = comes_to (Number (measured m (count all)))
measure_of m (ElementsOf all) = comes_to (Number (measured m (count all)))
measure_of m _ = varies

-- an ordinal, where it is one of so many
abbrev pub among : ℕ → Literal → Evaluated Literal
among values (Number x) = if_fine (within values x)
among values _ = varies

-- a value of another type, where it has one
abbrev pub converted : Facts → Option Ty → Literal → Evaluated Literal
converted facts (Some type.char) l = among 256 l
converted facts (Some (type.enum key)) l = among (length (members_in (fact_of facts (type.enum key)))) l
converted facts ty l = comes_to l

-- what `$` gives of a value of the type
abbrev pub shown : Facts → Option Ty → Literal → Evaluated Literal
shown facts (Some ty) (Number z) = limited (Characters (plain_text facts (below_distinct (length facts) facts ty) z))
shown facts ty (Characters bytes) = comes_to (Characters bytes)
shown facts _ _ = varies

-- of the fields that are given, by their numbers, else what it starts at
abbrev pub given_or : ℕ → List (ℕ × Literal) → Literal → Literal
given_or i [] other = other
given_or i (g ∷ rest) other = if nat_eq i g.0 then g.1 else given_or i rest other

-- all fields of an object from a number on
abbrev pub field_literals : Facts → ℕ → List Field → List (ℕ × Literal) → Literals
field_literals facts i [] given = NoLiteral
field_literals facts i (f ∷ rest) given = ALiteral (given_or i given (default_literal facts f.of)) (field_literals facts (suc i) rest given)

abbrev pub fields_of : Facts → Option Ty → List Field
fields_of facts None = []
fields_of facts (Some ty) = fields_in (fact_of facts ty)

abbrev pub object_of : Facts → Option Ty → List (ℕ × Literal) → Evaluated Literal
object_of facts ty given = limited (PartsOf (field_literals facts 0 (fields_of facts ty) given))

-- of a literal; a text has a limit
abbrev pub of_literal : Literal → Evaluated Literal
of_literal (Characters bytes) = limited (Characters bytes)
of_literal value = comes_to value

abbrev pub alone : (Literal → Evaluated Literal) → Literals → Evaluated Literal
alone go (ALiteral a NoLiteral) = go a
alone go _ = varies

abbrev pub in_pair : (Literal → Literal → Evaluated Literal) → Literals → Evaluated Literal
in_pair go (ALiteral a (ALiteral b NoLiteral)) = go a b
in_pair go _ = varies

abbrev pub first_type : List (Option Ty) → Option Ty
first_type [] = None
first_type (ty ∷ rest) = ty

-- What an operation that gives a value of a type does with the values of operands of these types; None of one that is never constant.
abbrev pub computing : Facts → Option Ty → List (Option Ty) → Operation → Option (Literals → Evaluated Literal)
computing facts ty types (operation.Unary o) = Some (alone (unary_of o))
computing facts ty types (operation.Binary o) = Some (in_pair (binary_of o))
computing facts ty types (operation.Compare c) = Some (in_pair (compare_of c))
computing facts ty types operation.Convert = Some (alone (converted facts ty))
computing facts ty types operation.Join = Some (in_pair join_of)
computing facts ty types operation.Show = Some (alone (shown facts (first_type types)))
computing facts ty types (operation.Measure m) = Some (alone (measure_of m))
computing facts ty types operation.Make = Some (λ all. limited (PartsOf all))
computing facts ty types operation.Sequence = Some (λ all. limited (ElementsOf all))
computing facts ty types _ = None

abbrev pub if_computed : Option (Literals → Evaluated Literal) → Evaluated Literals → Evaluated Literal
if_computed None all = varies
if_computed (Some go) all = on_one go all

abbrev pub with_values : List ℕ → Literals → List (ℕ × Literal)
with_values (field ∷ fields) (ALiteral l all) = (field, l) ∷ with_values fields all
with_values _ _ = []

-- of an act on operands of these types, which come to these values
abbrev pub act_value : Facts → Option Ty → List (Option Ty) → Act → Evaluated Literals → Evaluated Literal
act_value facts ty types (Doing o) all = if_computed (computing facts ty types o) all
act_value facts ty types (Building fields) all = on_one (λ ls. object_of facts ty (with_values fields ls)) all
act_value facts ty types (Giving l) all = of_literal l
act_value facts ty types (Calling proc arguments) all = varies

-- `and` and `or`
abbrev pub short_of : Short → Evaluated Literal → Evaluated Literal → Evaluated Literal
short_of And a b = both_of a b
short_of Or a b = either_of a b

abbrev mutual
  -- Literals, constants, operators, `$`, `ord`, `chr`, `len`, `high`, conversions, and what is built of such.
  pub value_in : Facts → Expr → Evaluated Literal
  value_in facts (Apply node ty act operands) = act_value facts ty (types_in operands) act (values_in facts operands)
  value_in facts (Read path) = varies
  value_in facts (Early node ty short left right) = short_of short (value_in facts left) (value_in facts right)
  value_in facts (Choose node ty chooser parts) = varies

  -- of operands; a path is one where it is a fresh value alone
  pub values_in : Facts → Args → Evaluated Literals
  values_in facts NoArg = comes_to NoLiteral
  values_in facts (ByValue e rest) = on_two (λ l all. comes_to (ALiteral l all)) (value_in facts e) (values_in facts rest)
  values_in facts (ByPath path rest) = on_two (λ l all. comes_to (ALiteral l all)) (value_at facts path) (values_in facts rest)

  pub value_at : Facts → Path → Evaluated Literal
  value_at facts (Fresh e) = value_in facts e
  value_at facts _ = varies

-- ---- an index

abbrev pub number_in : Evaluated Literal → Option ℤ
number_in (comes_to (Number z)) = Some z
number_in _ = None

-- the number of a constant index
abbrev pub index_number : Facts → Expr → Option ℤ
index_number facts index = number_in (value_in facts index)

-- ---- where a constant is needed

abbrev pub if_comes : Place → Evaluated Literal → Answer Literal
if_comes at (comes_to l) = Ok l
if_comes at _ = not_typed at

-- the value of a constant expression, else no rule fits at some place
abbrev pub constant_at : Facts → Place → Valued → Answer Literal
constant_at facts at v = if_comes at (value_in facts v.expr)

-- or at the expression: of a `const`, a length, a label
abbrev pub constant_rule : Facts → Valued → Answer Literal
constant_rule facts v = constant_at facts (place_in v.expr) v
