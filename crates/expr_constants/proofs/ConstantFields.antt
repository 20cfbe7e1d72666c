-- Values of an object's fields, one after another.
use Rattle.std.proofs.Common.{◌≡◌, ℕ, zero, suc, ◌+◌, List, [], ◌∷◌, ◌++◌, length, take, sym, ap, ap₂, ◌∙◌, Some}
use Rattle.std.proofs.Common.{None, arith}
use Rattle.std.specs.Prelude.{Bool, true, false, Option, slice_get, nat_eq, if◌then◌else◌}
use Rattle.std.proofs.lemmas.Option.{none-some, same_Some}
use Rattle.nim_types.specs.Types.{Ty, Facts}
use Rattle.nim_types.specs.declared.types.TypeDef.{TypeDef}
use Rattle.nim_types.specs.declared.types.TypeDef.TheVariants as D
use Rattle.nim_types.specs.Table.{type_at, parts_of, AllBelow}
use Rattle.nim_program.specs.declared.expr.Literal.{Literal as RustLiteral}
use Rattle.nim_program.specs.Program.{Literal, NoLiteral, ALiteral}
use Rattle.nim_program.specs.View.{literal_of, literals_of}
use Rattle.expr_rules.specs.Constants.{given_or}
use Rattle.nim_program.specs.Defaults.{default_literal}
use Rattle.plain_values.specs.Entries.{and_last}
use Rattle.plain_values.proofs.ForCallers.{literals_last}
use Rattle.expr_constants.specs.ViewConstants.{known_parts, field_values, literal_or}

-- what is given, or isn't
pub given_is : {R : Type 0} (of : R → Literal) (a other : Literal) (o : Option R) (x : R) → a ≡ literal_or of other o → o ≡ Some x → a ≡ of x
given_is of a other o x h e = h ∙ ap (literal_or of other) e

pub given_not : {R : Type 0} (of : R → Literal) (a other : Literal) (o : Option R) → a ≡ literal_or of other o → o ≡ None → a ≡ other
given_not of a other o h e = h ∙ ap (literal_or of other) e

fields_take : (facts : Facts) (ts : List Ty) (k : ℕ) (ps : List ℕ) (i p j : ℕ) (given : List (ℕ × Literal)) → slice_get ps i ≡ Some p
    → j ≡ k + i
    → field_values facts ts k (take (suc i) ps) given
    ≡ and_last (field_values facts ts k (take i ps) given) (given_or j given (default_literal facts (type_at ts p)))
fields_take facts ts k [] i p j given h e = absurd (none-some p h)
fields_take facts ts k (q ∷ ps) zero p j given h e =
    let f : k ≡ j = omega (arith, e) in
    ap₂ (λ n x. ALiteral (given_or n given (default_literal facts (type_at ts x))) NoLiteral) f (same_Some q p h)
fields_take facts ts k (q ∷ ps) (suc i) p j given h e =
    ap (ALiteral (given_or k given (default_literal facts (type_at ts q)))) (fields_take facts ts (suc k) ps i p j given h (omega (arith, e)))

-- one field more
pub one_field_more : (facts : Facts) (ts : List Ty) (ps : List ℕ) (i p : ℕ) (given : List (ℕ × Literal)) (all xs : List RustLiteral) (w : RustLiteral)
    → slice_get ps i ≡ Some p → all ≡ xs ++ w ∷ [] → literals_of xs ≡ field_values facts ts 0 (take i ps) given
    → literal_of w ≡ given_or i given (default_literal facts (type_at ts p)) → literals_of all ≡ field_values facts ts 0 (take (i + 1) ps) given
one_field_more facts ts ps i p given all xs w f e h g =
    let m : suc i ≡ i + 1 = omega arith in
    let z : i ≡ 0 + i = omega arith in
    ap literals_of e ∙ literals_last xs w ∙ ap₂ and_last h g ∙ sym (fields_take facts ts 0 ps i p i given f z)
    ∙ ap (λ j. field_values facts ts 0 (take j ps) given) m

below_if : (n : ℕ) (parts : List ℕ) (b : Bool) → AllBelow n parts → AllBelow n (if b then parts else [])
below_if n parts true h = h
below_if n parts false h = tt

pub known_below : (n : ℕ) (d : TypeDef) → AllBelow n (parts_of d) → AllBelow n (known_parts d)
known_below n D.Int h = tt
known_below n D.Bool h = tt
known_below n D.Char h = tt
known_below n D.Text h = tt
known_below n (D.Seq i) h = tt
known_below n (D.Param k) h = tt
known_below n (D.Enum name at all) h = tt
known_below n (D.Array k i) h = tt
known_below n (D.Tuple names is) h = tt
known_below n (D.Object name at is all own_hooks parts) h = below_if n parts (nat_eq (length all) (length parts)) h
known_below n (D.Distinct name at i) h = tt
known_below n (D.Ref name i) h = tt
known_below n (D.Exception name at parent) h = tt
