-- The forms of parts and elements, by what their types are.
use Rattle.std.proofs.Common.{◌≡◌, refl, sym, ap, subst, ◌∙◌, ℕ, zero, suc, Bool, true, false, List, Option, Some, None}
use Rattle.std.specs.Prelude.{ℤ}
use Rattle.std.proofs.lemmas.Bool.{false≢true}
use Rattle.std.proofs.lemmas.Option.{none-some, same_Some}
use Rattle.nim_types.specs.Types.{Ty, char, enum, object, distinct, exception, Tys}
use Rattle.nim_types.specs.Types.{Fact, members, fields, base, below, Facts, fact_of}
use Rattle.nim_types.specs.Forms.{Form, plain, block, elements, row, parts, Forms, forms, form_of}
use Rattle.nim_types.specs.Forms.{of_int, of_bool, of_char, of_text, of_sequence, of_any_sequence, of_array, of_tuple, of_parameter, of_enum}
use Rattle.nim_types.specs.Forms.{of_object, of_distinct, of_ref, of_exception, AreForms, none_of, more_of, HasForm}
use Rattle.nim_types.proofs.ForCallers.{same_sound, the_form}
use Rattle.nim_program.specs.Kinds as kind
use Rattle.nim_program.specs.Kinds.{TypeKind, kind_of, declared_kind, field_at, element_of, nth_type, is_of, is_held, is_declared_as}
use Rattle.holders.specs.Owned.{PartForm, first_part, next_part, HasBlocksAlone}
use Rattle.nim_meaning.specs.State.{World}
use Rattle.nim_meaning.specs.Aims.{Aim, PartOf, ItemOf}
use Rattle.holders.specs.Territory.{Owner}
use Rattle.holders.specs.Finding.{ItemForm, of_sequence as of_elements, of_array as of_row, of_text as of_characters, AimsAt, at_field, at_element}

-- ---- what a type is

-- it is this one
pub of_type : {t : Option Ty} {u : Ty} → is_of t (Some u) ≡ true → t ≡ Some u
of_type {t = None} e = absurd (false≢true e)
of_type {t = Some s} {u} e = ap (λ (x : Ty). Some x) (same_sound s u e)

-- a part of a row of types
nth_form : {facts : Facts} {ts : Tys} {fs : Forms} {t : Ty} (i : ℕ) → AreForms true facts ts fs → nth_type ts i ≡ Some t → PartForm fs i (form_of facts t)
nth_form {t = t} i none_of e = absurd (none-some t e)
nth_form {facts} {t = t} zero (more_of {t = s} {f = f} {fs = fs} h more) e =
    subst (λ g. PartForm (forms f fs) 0 g) (sym (the_form h) ∙ ap (form_of facts) (same_Some s t e)) first_part
nth_form (suc i) (more_of h more) e = next_part (nth_form i more e)

-- ---- fields

pub record FieldForm (f : Form) (i : ℕ) (g : Form) : Type 0 where
  pub all : Forms
  pub is : f ≡ parts all
  pub part : PartForm all i g

not_message : {A : Type 0} {t : Ty} → None ≡ Some t → A
not_message {A} {t} e = absurd (none-some t e)

-- what is an enum has no fields
enum_field : {A : Type 0} (key : _) {t : Ty} (i : ℕ) (k : TypeKind) → is_declared_as (enum key) k ≡ true → field_at k i ≡ Some t → A
enum_field key i (kind.enum zero) d e = absurd (false≢true d)
enum_field key i (kind.enum (suc n)) d e = not_message e
enum_field key i kind.int d e = absurd (false≢true d)
enum_field key i kind.bool d e = absurd (false≢true d)
enum_field key i kind.char d e = absurd (false≢true d)
enum_field key i kind.text d e = absurd (false≢true d)
enum_field key i (kind.sequence s) d e = absurd (false≢true d)
enum_field key i (kind.array n s) d e = absurd (false≢true d)
enum_field key i (kind.tuple ts) d e = absurd (false≢true d)
enum_field key i (kind.object own ts) d e = absurd (false≢true d)
enum_field key i (kind.distinct s) d e = absurd (false≢true d)
enum_field key i (kind.ref s) d e = absurd (false≢true d)
enum_field key i kind.exception d e = absurd (false≢true d)
enum_field key i kind.parameter d e = absurd (false≢true d)
enum_field key i kind.other d e = absurd (false≢true d)

pub field_form : {facts : Facts} {ty t : Ty} {f : Form} (i : ℕ) → HasForm facts ty f → HasBlocksAlone f → is_declared_as ty (kind_of facts ty) ≡ true →
    is_held (kind_of facts ty) ≡ true → field_at (kind_of facts ty) i ≡ Some t → FieldForm f i (form_of facts t)
field_form i of_int simple d held e = not_message e
field_form i of_bool simple d held e = not_message e
field_form i of_char simple d held e = not_message e
field_form i of_text simple d held e = not_message e
field_form i (of_sequence q h) simple d held e = not_message e
field_form i (of_any_sequence q) simple d held e = not_message e
field_form i (of_array h) simple d held e = not_message e
field_form i (of_tuple {fs = fs} h) simple d held e = record { all = fs; is = refl; part = nth_form i h e }
field_form i of_parameter simple d held e = not_message e
field_form {facts} i (of_enum {key = key}) simple d held e = enum_field key i (kind_of facts (enum key)) d e
field_form {facts} {t = t} i (of_object {key = key} {arguments = arguments} {all = all} {own_hooks = true} q h) simple d held e = absurd simple
field_form {facts} {t = t} i (of_object {key = key} {arguments = arguments} {all = all} {own_hooks = false} {fs = fs} q h) simple d held e = record {
  all = fs;
  is = refl;
  part = nth_form i h (sym (ap (λ x. field_at (declared_kind x) i) q) ∙ e);
}
field_form {t = t} i (of_distinct q h) simple d held e = not_message (sym (ap (λ x. field_at (declared_kind x) i) q) ∙ e)
field_form i of_ref simple d held e = absurd simple
field_form {facts} {t = t} i (of_exception {key = key}) simple d held e = by (kind_of facts (exception key)) d held
  where
    by : (k : TypeKind) → is_declared_as (exception key) k ≡ true → is_held k ≡ true → FieldForm plain i (form_of facts t)
    by kind.exception d held = absurd (false≢true held)
    by kind.int d held = absurd (false≢true d)
    by kind.bool d held = absurd (false≢true d)
    by kind.char d held = absurd (false≢true d)
    by kind.text d held = absurd (false≢true d)
    by (kind.enum n) d held = absurd (false≢true d)
    by (kind.sequence s) d held = absurd (false≢true d)
    by (kind.array n s) d held = absurd (false≢true d)
    by (kind.tuple ts) d held = absurd (false≢true d)
    by (kind.object own ts) d held = absurd (false≢true d)
    by (kind.distinct s) d held = absurd (false≢true d)
    by (kind.ref s) d held = absurd (false≢true d)
    by kind.parameter d held = absurd (false≢true d)
    by kind.other d held = absurd (false≢true d)

-- ---- elements

no_elements : {A : Type 0} {t : Ty} (x : Option Fact) → element_of (declared_kind x) ≡ Some t → A
no_elements None e = not_message e
no_elements (Some (members names)) e = not_message e
no_elements (Some (fields all own)) e = not_message e
no_elements (Some (base s)) e = not_message e
no_elements (Some (below p)) e = not_message e

pub element_form : {facts : Facts} {ty t : Ty} {f : Form} → HasForm facts ty f → element_of (kind_of facts ty) ≡ Some t → ItemForm f (form_of facts t)
element_form of_int e = not_message e
element_form of_bool e = not_message e
element_form of_char e = not_message e
element_form {facts} {t = t} of_text e = subst (λ s. ItemForm block (form_of facts s)) (same_Some char t e) of_characters
element_form {facts} {t = t} (of_sequence {t = s} {f = f} q h) e =
    subst (λ g. ItemForm (elements f) g) (sym (the_form h) ∙ ap (form_of facts) (same_Some s t e)) of_elements
element_form (of_any_sequence q) e = absurd (false≢true (sym q))
element_form {facts} {t = t} (of_array {n = n} {t = s} {f = f} h) e =
    subst (λ g. ItemForm (row n f) g) (sym (the_form h) ∙ ap (form_of facts) (same_Some s t e)) of_row
element_form (of_tuple h) e = not_message e
element_form of_parameter e = not_message e
element_form {facts} (of_enum {key = key}) e = no_elements (fact_of facts (enum key)) e
element_form {facts} (of_object {key = key} {arguments = arguments} q h) e = no_elements (fact_of facts (object key arguments)) e
element_form {facts} (of_distinct {key = key} q h) e = no_elements (fact_of facts (distinct key)) e
element_form of_ref e = not_message e
element_form {facts} (of_exception {key = key}) e = no_elements (fact_of facts (exception key)) e

-- ---- paths

abbrev pub aim_field : {os : List Owner} {world : World} {b : Bool} {root : ℕ} {facts : Facts} {ty t : Ty} {f : Form} {aim : Aim} (i : ℕ) → HasForm facts ty f →
    HasBlocksAlone f → is_declared_as ty (kind_of facts ty) ≡ true → is_held (kind_of facts ty) ≡ true → field_at (kind_of facts ty) i ≡ Some t →
    AimsAt os world b root aim f → AimsAt os world b root (PartOf aim i) (form_of facts t)
aim_field {os} {world} {b} {root} {aim = aim} i h simple declared held e from =
    let field = field_form i h simple declared held e in
    at_field (subst (λ g. AimsAt os world b root aim g) field.is from) field.part

abbrev pub aim_element : {os : List Owner} {world : World} {b : Bool} {root : ℕ} {facts : Facts} {ty t : Ty} {f : Form} {aim : Aim} {z : ℤ} →
    HasForm facts ty f →
    element_of (kind_of facts ty) ≡ Some t → AimsAt os world b root aim f → AimsAt os world b root (ItemOf aim z) (form_of facts t)
aim_element h e from = at_element from (element_form h e)
