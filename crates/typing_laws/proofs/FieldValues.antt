-- The value of an object of which some fields are given: what the rules compute of it is what the meaning makes.
use Rattle.std.proofs.Common.{◌≡◌, ℕ, zero, suc, ◌+◌, ◌<◌, Bool, true, false, List, [], ◌∷◌, Option, Some, None, refl, sym, ap, subst, ◌∙◌, arith}
use Rattle.std.specs.Prelude.{nat_eq, not, if◌then◌else◌}
use Rattle.std.proofs.lemmas.Bool.{and_parts, eqb-true, eq-eqb}
use Rattle.nim_types.specs.Types as type
use Rattle.nim_types.specs.Types.{Ty, Field, Fact, members, fields, base, below, Facts, fact_of, fields_in}
use Rattle.nim_types.specs.Forms as form
use Rattle.nim_types.specs.Forms.{Form, Forms, IsForm, AreForms, hooked, form_of, types_of, object_form}
use Rattle.nim_types.proofs.ForCallers.{the_form}
use Rattle.nim_program.specs.Program.{Literal, Literals, NoLiteral, ALiteral}
use Rattle.nim_program.specs.Defaults.{blank_literal, blank_literals, default_literal}
use Rattle.nim_program.specs.Kinds.{declared_kind, kind_of}
use Rattle.nim_program.specs.Fitting.{built, is_built, is_in, are_distinct}
use Rattle.nim_meaning.specs.Values.{Value, Values, Parts, Nil, More, with_nth, literal_value, literal_values, blank, blanks, default_of}
use Rattle.nim_meaning.specs.Table.{with_fields}
use Rattle.expr_rules.specs.Constants.{given_or, field_literals, with_values}
use Rattle.typing_laws.specs.Sound.{AreSound, of_object}
use Rattle.typing_laws.proofs.Tests.{never, ever}
use Rattle.typing_laws.proofs.Unhooked.{neither, blanks_are}

-- ---- parts that are put in turn

-- two different parts in either order
swapped : (all : Values) (i j : ℕ) (a b : Value) → (i ≡ j → ⊥) → with_nth (with_nth all i a) j b ≡ with_nth (with_nth all j b) i a
swapped Nil i j a b d = refl
swapped (More v rest) zero zero a b d = absurd (d refl)
swapped (More v rest) zero (suc j) a b d = refl
swapped (More v rest) (suc i) zero a b d = refl
swapped (More v rest) (suc i) (suc j) a b d = ap (λ all. More v all) (swapped rest i j a b (λ e. d (ap suc e)))

differ : (i j : ℕ) → nat_eq i j ≡ false → i ≡ j → ⊥
differ i j e h = ever (sym (eq-eqb i j h) ∙ e)

abbrev row_of : Value → Values
row_of (Parts all) = all
row_of v = Nil

parts_one : {a b : Values} → Parts a ≡ Parts b → a ≡ b
parts_one e = ap row_of e

-- a part that no later one replaces may as well be put last
put_last : (all : Values) (f : ℕ) (new : Value) (later : List ℕ) (vs : Values) (end : Values) → is_in f later ≡ false
    → with_fields (Parts all) later vs ≡ Parts end → with_fields (Parts (with_nth all f new)) later vs ≡ Parts (with_nth end f new)
put_last all f new [] vs end n e = ap (λ all. Parts (with_nth all f new)) (parts_one e)
put_last all f new (g ∷ later) Nil end n e = ap (λ all. Parts (with_nth all f new)) (parts_one e)
put_last all f new (g ∷ later) (More v vs) end n e =
    let p = neither (nat_eq f g) (is_in f later) n in
    ap (λ all. with_fields (Parts all) later vs) (swapped all f g new v (differ f g p.0)) ∙ put_last (with_nth all g v) f new later vs end p.1 e

-- ---- values of fields

other_key : (i n : ℕ) (l other : Literal) (given : List (ℕ × Literal)) → (i ≡ n → ⊥) → given_or i ((n, l) ∷ given) other ≡ given_or i given other
other_key i n l other given d = by_test (nat_eq i n) refl
  where
    by_test : (b : Bool) → nat_eq i n ≡ b → (if b then l else given_or i given other) ≡ given_or i given other
    by_test true e = absurd (d (eqb-true i n e))
    by_test false e = refl

own_key : (i n : ℕ) (l other : Literal) (given : List (ℕ × Literal)) → i ≡ n → given_or i ((n, l) ∷ given) other ≡ l
own_key i n l other given e = by_test (nat_eq i n) (eq-eqb i n e)
  where
    by_test : (b : Bool) → b ≡ true → (if b then l else given_or i given other) ≡ l
    by_test true e = refl
    by_test false e = never e

module _ (facts : Facts) where
  -- fields behind the one that is given
  behind_it : (i n : ℕ) (all : List Field) (l : Literal) (given : List (ℕ × Literal)) → n < i
      → field_literals facts i all ((n, l) ∷ given) ≡ field_literals facts i all given
  behind_it i n [] l given h = refl
  behind_it i n (f ∷ all) l given h =
      ap (λ v. ALiteral v (field_literals facts (suc i) all ((n, l) ∷ given)))
      (other_key i n l (default_literal facts f.of) given (λ e. absurd (omega (arith, h, e))))
      ∙ ap (λ rest. ALiteral (given_or i given (default_literal facts f.of)) rest) (behind_it (suc i) n all l given (omega (arith, h)))

  -- one more field is given
  one_more : (i k n : ℕ) (all : List Field) (l : Literal) (given : List (ℕ × Literal)) → n ≡ i + k
      → with_nth (literal_values (field_literals facts i all given)) k (literal_value l) ≡ literal_values (field_literals facts i all ((n, l) ∷ given))
  one_more i k n [] l given e = refl
  one_more i zero n (f ∷ all) l given e =
      ap (λ v. More (literal_value v) (literal_values (field_literals facts (suc i) all given)))
      (sym (own_key i n l (default_literal facts f.of) given (omega (arith, e))))
      ∙ ap (λ rest. More (literal_value (given_or i ((n, l) ∷ given) (default_literal facts f.of))) (literal_values rest))
      (sym (behind_it (suc i) n all l given (omega (arith, e))))
  one_more i (suc k) n (f ∷ all) l given e =
      ap (λ v. More (literal_value v) (with_nth (literal_values (field_literals facts (suc i) all given)) k (literal_value l)))
      (sym (other_key i n l (default_literal facts f.of) given (λ h. absurd (omega (arith, e, h)))))
      ∙ ap (λ rest. More (literal_value (given_or i ((n, l) ∷ given) (default_literal facts f.of))) rest)
      (one_more (suc i) k n all l given (omega (arith, e)))

  fields_put : (all : List Field) (start : Values) → literal_values (field_literals facts 0 all []) ≡ start → (given : List ℕ) (ls : Literals)
      → are_distinct given ≡ true
      → with_fields (Parts start) given (literal_values ls) ≡ Parts (literal_values (field_literals facts 0 all (with_values given ls)))
  fields_put all start e [] ls d = ap (λ all. Parts all) (sym e)
  fields_put all start e (f ∷ given) NoLiteral d = ap (λ all. Parts all) (sym e)
  fields_put all start e (f ∷ given) (ALiteral l ls) d =
      let p = and_parts (not (is_in f given)) (are_distinct given) d in
      put_last start f (literal_value l) given (literal_values ls) (literal_values (field_literals facts 0 all (with_values given ls))) (no (is_in f given) p.0)
      (fields_put all start e given ls p.1)
      ∙ ap (λ all. Parts all) (one_more 0 f f all l (with_values given ls) (omega arith))
    where
      no : (b : Bool) → not b ≡ true → b ≡ false
      no false e = refl
      no true e = never e

  -- fields that aren't given
  none_given : (i : ℕ) (all : List Field) {fs : Forms} → AreForms true facts (types_of all) fs → field_literals facts i all [] ≡ blank_literals fs
  none_given i [] form.none_of = refl
  none_given i (f ∷ all) (form.more_of {f = g} {fs = fs} h more) =
      ap (λ (x : Form). ALiteral (blank_literal x) (field_literals facts (suc i) all [])) (the_form h)
      ∙ ap (λ rest. ALiteral (blank_literal g) rest) (none_given (suc i) all more)

  -- ---- objects

  module _ (sound : AreSound facts) where
    -- an object without hooks of its own
    object_put : (own : Bool) (all : List Field) (fs : Forms) → hooked (object_form own fs) ≡ false → AreForms true facts (types_of all) fs
        → (given : List ℕ) (ls : Literals) → are_distinct given ≡ true
        → with_fields (blank (object_form own fs)) given (literal_values ls)
        ≡ Parts (literal_values (field_literals facts 0 all (with_values given ls)))
    object_put true all fs u h given ls d = ever u
    object_put false all fs u h given ls d =
        fields_put all (blanks fs) (ap literal_values (none_given 0 all h) ∙ blanks_are fs u) given ls d

    abbrev Put : Ty → Type 0
    Put ty = (given : List ℕ) (ls : Literals) → are_distinct given ≡ true
        → with_fields (default_of facts ty) given (literal_values ls)
        ≡ Parts (literal_values (field_literals facts 0 (fields_in (fact_of facts ty)) (with_values given ls)))

    by_form : (key : type.Key) (ts : type.Tys) (f : Form) → IsForm true facts (type.object key ts) f → form_of facts (type.object key ts) ≡ f
        → hooked (form_of facts (type.object key ts)) ≡ false → Put (type.object key ts)
    by_form key ts f (form.of_object {all = all} {own_hooks = own} {fs = fs} e h) is u given ls d =
        ap (λ f. with_fields (blank f) given (literal_values ls)) is
        ∙ (object_put own all fs (subst (λ f. hooked f ≡ false) is u) h given ls d
        ∙ ap (λ all. Parts (literal_values (field_literals facts 0 all (with_values given ls)))) (sym (ap fields_in e)))

    -- what has fields, by what is said of it
    has_fields : (o : Option Fact) → is_built (built facts (declared_kind o)) ≡ true → (all : List Field) × (own : Bool) × (o ≡ Some (fields all own))
    has_fields None b = never b
    has_fields (Some (members names)) b = never b
    has_fields (Some (fields all own)) b = (all, own, refl)
    has_fields (Some (base t)) b = never b
    has_fields (Some (below parent)) b = never b

    pub object_is : (ty : Ty) → is_built (built facts (kind_of facts ty)) ≡ true → hooked (form_of facts ty) ≡ false → Put ty
    object_is (type.object key ts) b u =
        let said = has_fields (fact_of facts (type.object key ts)) b in
        let f = sound.forms (type.object key ts) (of_object said.2) in
        by_form key ts f.0 f.1 (the_form f.1) u
    object_is (type.ref name t) b u = ever u
    object_is (type.enum key) b u =
        let said = has_fields (fact_of facts (type.enum key)) b in never (sound.said (type.enum key) (fields said.0 said.1) said.2)
    object_is (type.distinct key) b u =
        let said = has_fields (fact_of facts (type.distinct key)) b in never (sound.said (type.distinct key) (fields said.0 said.1) said.2)
    object_is (type.exception key) b u =
        let said = has_fields (fact_of facts (type.exception key)) b in never (sound.said (type.exception key) (fields said.0 said.1) said.2)
    object_is type.int b u = never b
    object_is type.bool b u = never b
    object_is type.char b u = never b
    object_is type.text b u = never b
    object_is (type.sequence t) b u = never b
    object_is (type.array n t) b u = never b
    object_is (type.tuple names ts) b u = never b
    object_is (type.parameter n) b u = never b
