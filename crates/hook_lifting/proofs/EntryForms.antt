-- The form of a type by its entry in the table.
use Rattle.std.proofs.Common.{◌≡◌, ℕ, ◌<◌, Bool, true, false, List, [], ◌∷◌, length, Option, Some, None, refl, sym, ap, ◌∙◌, subst}
use Rattle.std.specs.Prelude.{slice_get, is_some}
use Rattle.std.proofs.lemmas.Bool.{false≢true}
use Rattle.std.proofs.lemmas.Option.{slice_get_within}
use Rattle.arc_base.specs.declared.place.Place.{Place}
use Rattle.nim_types.specs.Types.{Ty, Facts, fields, fact_of}
use Rattle.nim_types.specs.Types as type
use Rattle.nim_types.specs.Forms.{Form, plain, reference, block, elements, row, parts, wrapped, Forms, no_forms, forms}
use Rattle.nim_types.specs.Forms.{form_of, forms_in, form_within, object_form, types_of, HasForm, IsForm, AreForms, none_of, more_of, of_object, of_distinct}
use Rattle.nim_types.specs.declared.types.FieldName.{FieldName}
use Rattle.nim_types.specs.Table.{IsTable, types_in, type_at, types_at, facts_in, meant, said_of, fields_with, fields_fact}
use Rattle.nim_types.specs.declared.types.TypeDef.{TypeDef}
use Rattle.nim_types.specs.declared.types.TypeDef.TheVariants as D
use Rattle.nim_types.proofs.ForCallers.{at_entry, said_number, the_form, fields_types}
use Rattle.nim_program.specs.Sizes.{HaveForms}
use Rattle.flat_code.specs.Scene.{known_in}
use Rattle.flat_code.specs.Lines.{form_in}

module _ (table : List TypeDef) where
  abbrev tys : List Ty
  tys = types_in table

  abbrev facts : Facts
  facts = facts_in table

  abbrev form : ℕ → Form
  form ty = form_in (known_in table) ty

  -- the forms of parts, by their numbers
  abbrev pub forms_at : List ℕ → Forms
  forms_at [] = no_forms
  forms_at (ty ∷ tys) = forms (form ty) (forms_at tys)

  -- by its entry, over the forms of the numbers in it
  abbrev pub entry_form : TypeDef → Form
  entry_form D.Text = block
  entry_form (D.Seq of) = elements (form of)
  entry_form (D.Array n of) = row n (form of)
  entry_form (D.Tuple names ps) = parts (forms_at ps)
  entry_form (D.Object name place of names own_hooks ps) = object_form own_hooks (forms_at ps)
  entry_form (D.Distinct name place base) = wrapped (form base)
  entry_form (D.Ref name base) = reference
  entry_form d = plain

  -- what is said of objects and distinct types, where they have a form
  abbrev is_object : Ty → Bool
  is_object (type.object key arguments) = true
  is_object ty = false

  abbrev is_distinct : Ty → Bool
  is_distinct (type.distinct key) = true
  is_distinct ty = false

  pub record OfObject (ty : Ty) (f : Form) : Type 0 where
    pub all : List type.Field
    pub own_hooks : Bool
    pub fs : Forms
    pub says : fact_of facts ty ≡ Some (fields all own_hooks)
    pub are : AreForms true facts (types_of all) fs
    pub is : f ≡ object_form own_hooks fs

  object_of : {ty : Ty} {f : Form} → IsForm true facts ty f → is_object ty ≡ true → OfObject ty f
  object_of (of_object {own_hooks = own} {fs = fs} says are) e = record { all = _; own_hooks = own; fs = fs; says = says; are = are; is = refl }
  object_of h e = absurd (false≢true e)

  pub record OfDistinct (ty : Ty) (f : Form) : Type 0 where
    pub to : Ty
    pub of : Form
    pub says : fact_of facts ty ≡ Some (type.base to)
    pub has : IsForm true facts to of
    pub is : f ≡ wrapped of

  distinct_of : {ty : Ty} {f : Form} → IsForm true facts ty f → is_distinct ty ≡ true → OfDistinct ty f
  distinct_of (of_distinct {t = t} {f = g} says has) e = record { to = t; of = g; says = says; has = has; is = refl }
  distinct_of h e = absurd (false≢true e)

  forms_are : (ps : List ℕ) (fs : Forms) → AreForms true facts (types_at tys ps) fs → fs ≡ forms_at ps
  forms_are [] no_forms none_of = refl
  forms_are [] (forms f fs) h = elim h [ ]
  forms_are (p ∷ ps) no_forms h = elim h [ ]
  forms_are (p ∷ ps) (forms f fs) (more_of has rest) =
      ap (λ f. forms f fs) (sym (the_form has)) ∙ ap (λ fs. forms (form p) fs) (forms_are ps fs rest)

  forms_in_are : (ps : List ℕ) → forms_in (form_within (length facts) facts) (types_at tys ps) ≡ forms_at ps
  forms_in_are [] = refl
  forms_in_are (p ∷ ps) = ap (λ fs. forms (form p) fs) (forms_in_are ps)

  abbrev all_in : Option type.Fact → List type.Field
  all_in (Some (fields all own)) = all
  all_in o = []

  abbrev own_in : Option type.Fact → Bool
  own_in (Some (fields all own)) = own
  own_in o = false

  abbrev base_in : Option type.Fact → Ty
  base_in (Some (type.base t)) = t
  base_in o = type.int

  module _ (is_table : IsTable table) (formed : HaveForms table) where
    module _ (ty : ℕ) (d : TypeDef) (at : slice_get table ty ≡ Some d) (less : ty < length table) where
      means : type_at tys ty ≡ meant tys d
      means = at_entry table ty d is_table at

      form_is : form ty ≡ form_of facts (meant tys d)
      form_is = ap (form_of facts) means

      has_form : HasForm facts (meant tys d) (formed ty less).0
      has_form = subst (λ t. HasForm facts t (formed ty less).0) means (formed ty less).1

      said_is : fact_of facts (meant tys d) ≡ said_of tys d
      said_is = ap (fact_of facts) (sym means) ∙ said_number table ty d is_table at

      the_one : form_of facts (meant tys d) ≡ (formed ty less).0
      the_one = the_form has_form

    object_is : (ty : ℕ) (name : List ℕ) (place : Place) (of : List ℕ) (names : List FieldName) (own_hooks : Bool) (ps : List ℕ) →
        slice_get table ty ≡ Some (D.Object name place of names own_hooks ps) → ty < length table → form ty ≡ object_form own_hooks (forms_at ps)
    object_is ty name place of names own_hooks ps at less =
        let d = D.Object name place of names own_hooks ps in
        let o = object_of (has_form ty d at less) refl in
        on (fields_with tys names ps) refl o (sym o.says ∙ said_is ty d at less)
      where
        d : TypeDef
        d = D.Object name place of names own_hooks ps

        on : (given : Option (List type.Field)) → fields_with tys names ps ≡ given → (o : OfObject (meant tys d) (formed ty less).0) →
            Some (fields o.all o.own_hooks) ≡ fields_fact (fields_with tys names ps) own_hooks → form ty ≡ object_form own_hooks (forms_at ps)
        on None e o says = absurd (false≢true (ap is_some (sym (says ∙ ap (λ given. fields_fact given own_hooks) e))))
        on (Some given) e o says =
            let both : Some (fields o.all o.own_hooks) ≡ Some (fields given own_hooks) = says ∙ ap (λ given. fields_fact given own_hooks) e in
            let types_are : types_of o.all ≡ types_at tys ps = ap types_of (ap all_in both) ∙ fields_types tys names ps given e in
            form_is ty d at less ∙ (the_one ty d at less ∙ (o.is ∙ (ap (λ own. object_form own o.fs) (ap own_in both)
            ∙ ap (object_form own_hooks) (forms_are ps o.fs (subst (λ ts. AreForms true facts ts o.fs) types_are o.are)))))

    distinct_is : (ty : ℕ) (name : List ℕ) (place : Place) (base : ℕ) → slice_get table ty ≡ Some (D.Distinct name place base) → ty < length table →
        form ty ≡ wrapped (form base)
    distinct_is ty name place base at less =
        let d = D.Distinct name place base in
        let o = distinct_of (has_form ty d at less) refl in
        let to_is : o.to ≡ type_at tys base = ap base_in (sym o.says ∙ said_is ty d at less) in
        form_is ty d at less ∙ (the_one ty d at less ∙ (o.is ∙ ap wrapped (sym (the_form o.has) ∙ ap (form_of facts) to_is)))

    pub form_at : (ty : ℕ) (d : TypeDef) → slice_get table ty ≡ Some d → form ty ≡ entry_form d
    form_at ty d at = by d at (slice_get_within table ty d at)
      where
        by : (d : TypeDef) → slice_get table ty ≡ Some d → ty < length table → form ty ≡ entry_form d
        by D.Int at less = form_is ty D.Int at less
        by D.Bool at less = form_is ty D.Bool at less
        by D.Char at less = form_is ty D.Char at less
        by D.Text at less = form_is ty D.Text at less
        by (D.Seq of) at less = form_is ty (D.Seq of) at less
        by (D.Param n) at less = form_is ty (D.Param n) at less
        by (D.Enum name place all) at less = form_is ty (D.Enum name place all) at less
        by (D.Array n of) at less = form_is ty (D.Array n of) at less
        by (D.Tuple names ps) at less = form_is ty (D.Tuple names ps) at less ∙ ap parts (forms_in_are ps)
        by (D.Object name place of names own_hooks ps) at less = object_is ty name place of names own_hooks ps at less
        by (D.Distinct name place base) at less = distinct_is ty name place base at less
        by (D.Ref name base) at less = form_is ty (D.Ref name base) at less
        by (D.Exception name place parent) at less = form_is ty (D.Exception name place parent) at less
