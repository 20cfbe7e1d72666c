-- What the form of a type is, by its kind.
use Rattle.std.proofs.Common.{◌≡◌, refl, sym, ap, ◌∙◌, true, Option, Some, None}
use Rattle.std.proofs.lemmas.Bool.{false≢true}
use Rattle.nim_types.specs.Types.{Ty, enum, object, distinct, exception}
use Rattle.nim_types.specs.Types.{Fact, members, fields, base, below, Facts, fact_of}
use Rattle.nim_types.specs.Forms.{Form, block, elements, form_of, HasForm}
use Rattle.nim_types.specs.Forms.{of_int, of_bool, of_char, of_text, of_sequence, of_any_sequence, of_array, of_tuple, of_parameter, of_enum}
use Rattle.nim_types.specs.Forms.{of_object, of_distinct, of_ref, of_exception}
use Rattle.nim_types.proofs.ForCallers.{the_form, same_sound}
use Rattle.nim_program.specs.Kinds.{kind_of, kind_if, declared_kind, element_of, is_text, is_sequence, is_held, is_of, same_value}
use Rattle.nim_meaning.specs.Here.{form_for}
use Rattle.lending_laws.specs.Apart.{has_fields}
use Rattle.holders.specs.Owned.{HasBlocksAlone}
use Rattle.holders.specs.Asked.{IfSimple}

-- ---- a text

no_text : {A : Type 0} (x : Option Fact) → is_text (declared_kind x) ≡ true → A
no_text None e = absurd (false≢true e)
no_text (Some (members names)) e = absurd (false≢true e)
no_text (Some (fields all own)) e = absurd (false≢true e)
no_text (Some (base s)) e = absurd (false≢true e)
no_text (Some (below p)) e = absurd (false≢true e)

pub text_has : {facts : Facts} {ty : Ty} {f : Form} → HasForm facts ty f → is_text (kind_of facts ty) ≡ true → f ≡ block
text_has of_int e = absurd (false≢true e)
text_has of_bool e = absurd (false≢true e)
text_has of_char e = absurd (false≢true e)
text_has of_text e = refl
text_has (of_sequence q h) e = absurd (false≢true e)
text_has (of_any_sequence q) e = absurd (false≢true e)
text_has (of_array h) e = absurd (false≢true e)
text_has (of_tuple h) e = absurd (false≢true e)
text_has of_parameter e = absurd (false≢true e)
text_has {facts} (of_enum {key = key}) e = no_text (fact_of facts (enum key)) e
text_has {facts} (of_object {key = key} {arguments = arguments} q h) e = no_text (fact_of facts (object key arguments)) e
text_has {facts} (of_distinct {key = key} q h) e = no_text (fact_of facts (distinct key)) e
text_has of_ref e = absurd (false≢true e)
text_has {facts} (of_exception {key = key}) e = no_text (fact_of facts (exception key)) e

pub text_form : (facts : Facts) (o : Option Ty) → IfSimple facts o → is_text (kind_if facts o) ≡ true → form_for facts o ≡ block
text_form facts None simple e = absurd (false≢true e)
text_form facts (Some ty) simple e = the_form simple.has ∙ text_has simple.has e

-- ---- a sequence

pub record Sequence (facts : Facts) (ty : Ty) (f : Form) : Type 0 where
  pub of : Ty
  pub form : Form
  pub is : f ≡ elements form
  pub element : element_of (kind_of facts ty) ≡ Some of
  pub has : HasForm facts of form
  pub blocks : HasBlocksAlone form

no_sequence_kind : {A : Type 0} (x : Option Fact) → is_sequence (declared_kind x) ≡ true → A
no_sequence_kind None e = absurd (false≢true e)
no_sequence_kind (Some (members names)) e = absurd (false≢true e)
no_sequence_kind (Some (fields all own)) e = absurd (false≢true e)
no_sequence_kind (Some (base s)) e = absurd (false≢true e)
no_sequence_kind (Some (below p)) e = absurd (false≢true e)

sequence_has : {facts : Facts} {ty : Ty} {f : Form} → HasForm facts ty f → HasBlocksAlone f → is_sequence (kind_of facts ty) ≡ true → Sequence facts ty f
sequence_has of_int simple e = absurd (false≢true e)
sequence_has of_bool simple e = absurd (false≢true e)
sequence_has of_char simple e = absurd (false≢true e)
sequence_has of_text simple e = absurd (false≢true e)
sequence_has (of_sequence {t = t} {f = f} q h) simple e = record { of = t; form = f; is = refl; element = refl; has = h; blocks = simple }
sequence_has (of_any_sequence q) simple e = absurd (false≢true (sym q))
sequence_has (of_array h) simple e = absurd (false≢true e)
sequence_has (of_tuple h) simple e = absurd (false≢true e)
sequence_has of_parameter simple e = absurd (false≢true e)
sequence_has {facts} (of_enum {key = key}) simple e = no_sequence_kind (fact_of facts (enum key)) e
sequence_has {facts} (of_object {key = key} {arguments = arguments} q h) simple e = no_sequence_kind (fact_of facts (object key arguments)) e
sequence_has {facts} (of_distinct {key = key} q h) simple e = no_sequence_kind (fact_of facts (distinct key)) e
sequence_has of_ref simple e = absurd (false≢true e)
sequence_has {facts} (of_exception {key = key}) simple e = no_sequence_kind (fact_of facts (exception key)) e

-- the form of a sequence's type, and of its elements
pub record ElementForms (facts : Facts) (o : Option Ty) : Type 0 where
  pub of : Ty
  pub form : Form
  pub is : form_for facts o ≡ elements form
  pub element : element_of (kind_if facts o) ≡ Some of
  pub form_is : form_of facts of ≡ form
  pub blocks : HasBlocksAlone form

pub sequence_form : (facts : Facts) (o : Option Ty) → IfSimple facts o → is_sequence (kind_if facts o) ≡ true → ElementForms facts o
sequence_form facts None simple e = absurd (false≢true e)
sequence_form facts (Some ty) simple e =
    let s = sequence_has simple.has simple.blocks e in
    record { of = s.of; form = s.form; is = the_form simple.has ∙ s.is; element = s.element; form_is = the_form s.has; blocks = s.blocks }

-- ---- one type

pub same_type : {a b : Option Ty} → is_of a b ≡ true → a ≡ b
same_type {a = None} e = absurd (false≢true e)
same_type {a = Some s} {b = None} e = absurd (false≢true e)
same_type {a = Some s} {b = Some t} e = ap (λ (x : Ty). Some x) (same_sound s t e)

pub same_values : {a b : Option Ty} → same_value a b ≡ true → a ≡ b
same_values {a = None} {b = None} e = refl
same_values {a = None} {b = Some t} e = absurd (false≢true e)
same_values {a = Some s} {b = b} e = same_type e

-- ---- what has fields is no exception

held_by : {facts : Facts} {ty : Ty} {f : Form} → HasForm facts ty f → has_fields (Some ty) ≡ true → is_held (kind_of facts ty) ≡ true
held_by of_int e = absurd (false≢true e)
held_by of_bool e = absurd (false≢true e)
held_by of_char e = absurd (false≢true e)
held_by of_text e = absurd (false≢true e)
held_by (of_sequence q h) e = absurd (false≢true e)
held_by (of_any_sequence q) e = absurd (false≢true e)
held_by (of_array h) e = absurd (false≢true e)
held_by (of_tuple h) e = refl
held_by of_parameter e = absurd (false≢true e)
held_by of_enum e = absurd (false≢true e)
held_by (of_object q h) e = ap (λ (x : Option Fact). is_held (declared_kind x)) q
held_by (of_distinct q h) e = absurd (false≢true e)
held_by of_ref e = absurd (false≢true e)
held_by of_exception e = absurd (false≢true e)

pub held_of : (facts : Facts) (o : Option Ty) → IfSimple facts o → has_fields o ≡ true → is_held (kind_if facts o) ≡ true
held_of facts None simple e = absurd (false≢true e)
held_of facts (Some ty) simple e = held_by simple.has e
