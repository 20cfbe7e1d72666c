-- The types and fields in the brackets of a type, as lists.
use Rattle.std.proofs.Common.{◌≡◌, ℕ, ◌≤◌, List, [], ◌∷◌, refl, ap, ◌∙◌, arith}
use Rattle.std.specs.Prelude.{max}
use Rattle.indent_scanner.specs.declared.token.Token.{Token}
use Rattle.nim_tree.specs.Types.{Written, Arguments, no_arguments, argument, Fields, no_fields, fields, and_argument, and_field, type_levels, most_type_levels}
use Rattle.nim_tree.specs.Types.{field_levels}
use Rattle.parse_exprs.specs.declared.layout.Layout.TheVariants.{Brackets}
use Rattle.parse_exprs.specs.Look.{Origin, comma_at}
use Rattle.parse_decls.specs.Look.{behind}
use Rattle.parse_decls.specs.Run.{Typed}
use Rattle.parse_decls.specs.Grammar.{Each, e_over, e_next, IsType, IsTypes, t_last, t_next, IsField, IsFields, t_last_field, t_next_field}
use Rattle.parse_decls.specs.Faults.{Short}
use Rattle.parse_decls.proofs.Loops.{gathered}

pub both_few : {a b n : ℕ} → a ≤ n → b ≤ n → max a b ≤ n
both_few h g = omega (arith, h, g)

pub left_few : {a n : ℕ} (b : ℕ) → max a b ≤ n → a ≤ n
left_few b h = omega (arith, h)

pub right_few : {b n : ℕ} (a : ℕ) → max a b ≤ n → b ≤ n
right_few a h = omega (arith, h)

-- ---- types

abbrev pub arguments_from : List Written → Arguments
arguments_from [] = no_arguments
arguments_from (a ∷ all) = argument a (arguments_from all)

first_argument : (a : Written) (some : Arguments) (all : List Written) → gathered and_argument (argument a some) all
    ≡ argument a (gathered and_argument some all)
first_argument a some [] = refl
first_argument a some (b ∷ all) = first_argument a (and_argument some b) all

gathered_arguments : (all : List Written) → gathered and_argument no_arguments all ≡ arguments_from all
gathered_arguments [] = refl
gathered_arguments (b ∷ all) = first_argument b no_arguments all ∙ ap (argument b) (gathered_arguments all)

pub more_arguments : (a : Written) (all : List Written) → gathered and_argument (argument a no_arguments) all ≡ argument a (arguments_from all)
more_arguments a all = first_argument a no_arguments all ∙ ap (argument a) (gathered_arguments all)

pub types_each : {x : Origin} {all : Arguments} {ts rest : List Token} → IsTypes x all ts rest
    → (items : List Written) × (all ≡ arguments_from items) × Each (comma_at Brackets) behind (IsType x Brackets) items ts rest
types_each (t_last n) = ([], refl, e_over n)
types_each (t_next {a = a} g d t) = let r = types_each t in (a ∷ r.0, ap (argument a) r.1, e_next g d r.2)

pub types_short : {x : Origin} {n : ℕ} {all : List Written} {ts rest : List Token} → Each (comma_at Brackets) behind (Short n type_levels (IsType x Brackets))
    all ts rest
    → Short n most_type_levels (IsTypes x) (arguments_from all) ts rest
types_short (e_over n) = record { reads = t_last n; few = omega arith }
types_short (e_next g d t) = let r = types_short t in record { reads = t_next g d.reads r.reads; few = both_few d.few r.few }

pub short_types : {x : Origin} {n : ℕ} {all : Arguments} {ts rest : List Token} → IsTypes x all ts rest → most_type_levels all ≤ n
    → (items : List Written) × (all ≡ arguments_from items) × Each (comma_at Brackets) behind (Short n type_levels (IsType x Brackets)) items ts rest
short_types (t_last n) h = ([], refl, e_over n)
short_types (t_next {a = a} {all = all} c d t) h =
    let r = short_types t (right_few (type_levels a) h) in
    (a ∷ r.0, ap (argument a) r.1, e_next c (record { reads = d; few = left_few (most_type_levels all) h }) r.2)

-- ---- fields

abbrev pub fields_from : List Typed → Fields
fields_from [] = no_fields
fields_from (one ∷ all) = fields one.names one.of (fields_from all)

abbrev pub add_field : Fields → Typed → Fields
add_field some one = and_field some one.names one.of

first_field : (one : Typed) (some : Fields) (all : List Typed) → gathered add_field (fields one.names one.of some) all ≡ fields one.names one.of
    (gathered add_field some all)
first_field one some [] = refl
first_field one some (b ∷ all) = first_field one (add_field some b) all

pub gathered_fields : (all : List Typed) → gathered add_field no_fields all ≡ fields_from all
gathered_fields [] = refl
gathered_fields (b ∷ all) = first_field b no_fields all ∙ ap (fields b.names b.of) (gathered_fields all)

pub more_fields : (one : Typed) (all : List Typed) → gathered add_field (fields one.names one.of no_fields) all ≡ fields one.names one.of (fields_from all)
more_fields one all = first_field one no_fields all ∙ ap (fields one.names one.of) (gathered_fields all)

-- a field of a tuple
abbrev pub Part : Origin → Typed → List Token → List Token → Type 0
Part x one ts rest = IsField x one.names one.of ts rest

abbrev pub ShortPart : Origin → ℕ → Typed → List Token → List Token → Type 0
ShortPart x n one ts rest = Short n type_levels (IsField x one.names) one.of ts rest

pub fields_each : {x : Origin} {all : Fields} {ts rest : List Token} → IsFields x all ts rest
    → (items : List Typed) × (all ≡ fields_from items) × Each (comma_at Brackets) behind (Part x) items ts rest
fields_each (t_last_field n) = ([], refl, e_over n)
fields_each (t_next_field {names = names} {a = a} g d t) =
    let one : Typed = record { names = names; of = a } in let r = fields_each t in (one ∷ r.0, ap (fields names a) r.1, e_next g d r.2)

pub fields_short : {x : Origin} {n : ℕ} {all : List Typed} {ts rest : List Token} → Each (comma_at Brackets) behind (ShortPart x n) all ts rest
    → Short n field_levels (IsFields x) (fields_from all) ts rest
fields_short (e_over n) = record { reads = t_last_field n; few = omega arith }
fields_short (e_next g d t) = let r = fields_short t in record { reads = t_next_field g d.reads r.reads; few = both_few d.few r.few }

pub short_fields : {x : Origin} {n : ℕ} {all : Fields} {ts rest : List Token} → IsFields x all ts rest → field_levels all ≤ n
    → (items : List Typed) × (all ≡ fields_from items) × Each (comma_at Brackets) behind (ShortPart x n) items ts rest
short_fields (t_last_field n) h = ([], refl, e_over n)
short_fields (t_next_field {names = names} {a = a} {all = all} c d t) h =
    let one : Typed = record { names = names; of = a } in
    let r = short_fields t (right_few (type_levels a) h) in
    (one ∷ r.0, ap (fields names a) r.1, e_next c (record { reads = d; few = left_few (field_levels all) h }) r.2)
