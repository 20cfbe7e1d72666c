-- What the entries of a table say of values of constants: which values types have, what they start at, and which fields they have.
use Rattle.std.proofs.Common.{◌≡◌, ℕ, suc, ◌<◌, List, [], ◌∷◌, length, refl, sym, ap, ap₂, ◌∙◌, Some, None, arith}
use Rattle.std.specs.Prelude.{Bool, true, false, Option, nat_eq, if◌then◌else◌}
use Rattle.std.proofs.lemmas.Bool.{both_ways, eqb-true, eq-eqb}
use Rattle.nim_types.specs.Types as type
use Rattle.nim_types.specs.Types.{Ty, Facts, fields_in}
use Rattle.nim_types.specs.declared.types.TypeDef.{TypeDef}
use Rattle.nim_types.specs.declared.types.TypeDef.TheVariants as D
use Rattle.nim_types.specs.declared.types.FieldName.{FieldName}
use Rattle.nim_types.specs.Table.{type_at, types_in, fields_with, fields_fact, said_of, facts_in}
use Rattle.nim_program.specs.declared.expr.Literal.{Literal as RustLiteral}
use Rattle.plain_values.specs.Values.{limit_of}
use Rattle.nim_program.specs.Program.{Literal, ALiteral}
use Rattle.nim_program.specs.View.{literals_of}
use Rattle.expr_rules.specs.Constants.{Evaluated, comes_to, among, converted, count as count_of, given_or, field_literals}
use Rattle.nim_program.specs.Defaults.{default_literal}
use Rattle.expr_parts.specs.View.{Under}
use Rattle.expr_parts.proofs.ForCallers.{all_fields, all_known, front_of, none_known}
use Rattle.expr_constants.specs.ViewConstants.{known_parts, field_values}

pub count_length : (xs : List RustLiteral) → count_of (literals_of xs) ≡ length xs
count_length [] = refl
count_length (x ∷ xs) = ap suc (count_length xs)

-- ---- conversions

abbrev pub by_limit : Option ℕ → Literal → Evaluated Literal
by_limit None l = comes_to l
by_limit (Some values) l = among values l

pub converted_as : (facts : Facts) (ty : Ty) (l : Literal) → converted facts (Some ty) l ≡ by_limit (limit_of facts ty) l
converted_as facts type.int l = refl
converted_as facts type.bool l = refl
converted_as facts type.char l = refl
converted_as facts type.text l = refl
converted_as facts (type.sequence t) l = refl
converted_as facts (type.array n t) l = refl
converted_as facts (type.tuple names ts) l = refl
converted_as facts (type.parameter n) l = refl
converted_as facts (type.enum key) l = refl
converted_as facts (type.object key arguments) l = refl
converted_as facts (type.distinct key) l = refl
converted_as facts (type.ref name t) l = refl
converted_as facts (type.exception key) l = refl

-- ---- what places start at, under a list that begins with that of the table

pub start_under : {ds : List TypeDef} {us : List Ty} {fs : Facts} (i : ℕ) → Under ds us fs → i < length ds
    → default_literal (facts_in ds) (type_at (types_in ds) i) ≡ default_literal fs (type_at us i)
start_under {ds} i u h = sym (ap₂ default_literal u.said (front_of i u h))

-- ---- fields

all_values : (facts : Facts) (ts : List Ty) (n : ℕ) (fs : List FieldName) (is : List ℕ) (given : List (ℕ × Literal)) → length fs ≡ length is
    → field_values facts ts n is given ≡ field_literals facts n (all_fields ts fs is) given
all_values facts ts n [] [] given h = refl
all_values facts ts n [] (i ∷ is) given h = absurd (omega (arith, h))
all_values facts ts n (f ∷ fs) [] given h = absurd (omega (arith, h))
all_values facts ts n (f ∷ fs) (i ∷ is) given h =
    ap (ALiteral (given_or n given (default_literal facts (type_at ts i)))) (all_values facts ts (suc n) fs is given (omega (arith, h)))

known_object : (us : List Ty) (fs : Facts) (all : List FieldName) (own_hooks : Bool) (parts : List ℕ) (given : List (ℕ × Literal)) (b : Bool)
    → nat_eq (length all) (length parts) ≡ b
    → field_values fs us 0 (if b then parts else []) given ≡ field_literals fs 0 (fields_in (fields_fact (fields_with us all parts) own_hooks)) given
known_object us fs all own_hooks parts given true h =
    let l = eqb-true (length all) (length parts) h in
    all_values fs us 0 all parts given l ∙ sym (ap (λ o. field_literals fs 0 (fields_in (fields_fact o own_hooks)) given) (all_known us all parts l))
known_object us fs all own_hooks parts given false h =
    sym (ap (λ o. field_literals fs 0 (fields_in (fields_fact o own_hooks)) given)
    (none_known us all parts (λ e. absurd (both_ways (nat_eq (length all) (length parts)) h (eq-eqb (length all) (length parts) e)))))

-- the fields that are known of a type
pub known_fields : (us : List Ty) (fs : Facts) (d : TypeDef) (given : List (ℕ × Literal))
    → field_values fs us 0 (known_parts d) given ≡ field_literals fs 0 (fields_in (said_of us d)) given
known_fields us fs D.Int given = refl
known_fields us fs D.Bool given = refl
known_fields us fs D.Char given = refl
known_fields us fs D.Text given = refl
known_fields us fs (D.Seq i) given = refl
known_fields us fs (D.Param n) given = refl
known_fields us fs (D.Enum name at all) given = refl
known_fields us fs (D.Array n i) given = refl
known_fields us fs (D.Tuple names is) given = refl
known_fields us fs (D.Object name at is all own_hooks parts) given =
    known_object us fs all own_hooks parts given (nat_eq (length all) (length parts)) refl
known_fields us fs (D.Distinct name at i) given = refl
known_fields us fs (D.Ref name i) given = refl
known_fields us fs (D.Exception name at parent) given = refl
