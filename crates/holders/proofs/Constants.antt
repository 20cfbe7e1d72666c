-- Constants have the forms of their types; what a ref is, and what a bool and an int are.
use Rattle.std.proofs.Common.{◌≡◌, refl, sym, ap, ◌∙◌, ℕ, Bool, true, false, length, Option, Some, None}
use Rattle.std.proofs.lemmas.Bool.{false≢true}
use Rattle.std.proofs.lemmas.Option.{none-some}
use Rattle.nim_types.specs.Types.{Ty, enum, object, distinct, exception}
use Rattle.nim_types.specs.Types.{Fact, members, fields, base, below, Facts, fact_of}
use Rattle.nim_types.specs.Forms.{Form, plain, hooked, HasForm}
use Rattle.nim_types.specs.Forms.{of_int, of_bool, of_char, of_text, of_sequence, of_any_sequence, of_array, of_tuple, of_parameter, of_enum}
use Rattle.nim_types.specs.Forms.{of_object, of_distinct, of_ref, of_exception}
use Rattle.nim_types.proofs.ForCallers.{the_form}
use Rattle.nim_program.specs.Kinds as kind
use Rattle.nim_program.specs.Kinds.{TypeKind, kind_of, kind_if, declared_kind, object_of, is_int, is_bool}
use Rattle.nim_meaning.specs.Here.{gives_hooked, form_for}
use Rattle.holders.specs.Owned.{HasBlocksAlone}
use Rattle.holders.specs.Asked.{IfSimple}

-- ---- refs

no_object : {A : Type 0} {t : Ty} (x : Option Fact) → object_of (declared_kind x) ≡ Some t → A
no_object {t = t} None e = absurd (none-some t e)
no_object {t = t} (Some (members names)) e = absurd (none-some t e)
no_object {t = t} (Some (fields all own)) e = absurd (none-some t e)
no_object {t = t} (Some (base s)) e = absurd (none-some t e)
no_object {t = t} (Some (below p)) e = absurd (none-some t e)

-- a type that has texts and sequences alone is none
pub no_ref : {facts : Facts} {ty t : Ty} {f : Form} → HasForm facts ty f → HasBlocksAlone f → object_of (kind_of facts ty) ≡ Some t → ⊥
no_ref {t = t} of_int simple e = none-some t e
no_ref {t = t} of_bool simple e = none-some t e
no_ref {t = t} of_char simple e = none-some t e
no_ref {t = t} of_text simple e = none-some t e
no_ref {t = t} (of_sequence q h) simple e = none-some t e
no_ref {t = t} (of_any_sequence q) simple e = none-some t e
no_ref {t = t} (of_array h) simple e = none-some t e
no_ref {t = t} (of_tuple h) simple e = none-some t e
no_ref {t = t} of_parameter simple e = none-some t e
no_ref {facts} (of_enum {key = key}) simple e = no_object (fact_of facts (enum key)) e
no_ref {facts} (of_object {key = key} {arguments = arguments} q h) simple e = no_object (fact_of facts (object key arguments)) e
no_ref {facts} (of_distinct {key = key} q h) simple e = no_object (fact_of facts (distinct key)) e
no_ref of_ref simple e = simple
no_ref {facts} (of_exception {key = key}) simple e = no_object (fact_of facts (exception key)) e

-- ---- what is a number

-- a kind of numbers
abbrev pub is_number : TypeKind → Bool
is_number kind.int = true
is_number kind.bool = true
is_number kind.char = true
is_number (kind.enum n) = true
is_number _ = false

not_number : {A : Type 0} (x : Option Fact) → (d : (n : ℕ) → declared_kind x ≡ kind.enum n → A) → is_number (declared_kind x) ≡ true → A
not_number None d e = absurd (false≢true e)
not_number (Some (members names)) d e = d (length names) refl
not_number (Some (fields all own)) d e = absurd (false≢true e)
not_number (Some (base s)) d e = absurd (false≢true e)
not_number (Some (below p)) d e = absurd (false≢true e)

enum_kind : TypeKind → Type 0
enum_kind (kind.enum n) = Unit {0}
enum_kind k = ⊥

-- its form is plain
pub number_form : {facts : Facts} {ty : Ty} {f : Form} → HasForm facts ty f → is_number (kind_of facts ty) ≡ true → f ≡ plain
number_form of_int e = refl
number_form of_bool e = refl
number_form of_char e = refl
number_form of_text e = absurd (false≢true e)
number_form (of_sequence q h) e = absurd (false≢true e)
number_form (of_any_sequence q) e = absurd (false≢true e)
number_form (of_array h) e = absurd (false≢true e)
number_form (of_tuple h) e = absurd (false≢true e)
number_form of_parameter e = absurd (false≢true e)
number_form of_enum e = refl
number_form {facts} (of_object {key = key} {arguments = arguments} q h) e =
    absurd (false≢true (sym (ap (λ x. is_number (declared_kind x)) q) ∙ e))
number_form {facts} (of_distinct {key = key} q h) e = absurd (false≢true (sym (ap (λ x. is_number (declared_kind x)) q) ∙ e))
number_form of_ref e = absurd (false≢true e)
number_form of_exception e = refl

int_number : (k : TypeKind) → is_int k ≡ true → is_number k ≡ true
int_number kind.int e = refl
int_number kind.bool e = absurd (false≢true e)
int_number kind.char e = absurd (false≢true e)
int_number kind.text e = absurd (false≢true e)
int_number (kind.enum n) e = absurd (false≢true e)
int_number (kind.sequence t) e = absurd (false≢true e)
int_number (kind.array n t) e = absurd (false≢true e)
int_number (kind.tuple ts) e = absurd (false≢true e)
int_number (kind.object r ts) e = absurd (false≢true e)
int_number (kind.distinct t) e = absurd (false≢true e)
int_number (kind.ref t) e = absurd (false≢true e)
int_number kind.exception e = absurd (false≢true e)
int_number kind.parameter e = absurd (false≢true e)
int_number kind.other e = absurd (false≢true e)

bool_number : (k : TypeKind) → is_bool k ≡ true → is_number k ≡ true
bool_number kind.int e = absurd (false≢true e)
bool_number kind.bool e = refl
bool_number kind.char e = absurd (false≢true e)
bool_number kind.text e = absurd (false≢true e)
bool_number (kind.enum n) e = absurd (false≢true e)
bool_number (kind.sequence t) e = absurd (false≢true e)
bool_number (kind.array n t) e = absurd (false≢true e)
bool_number (kind.tuple ts) e = absurd (false≢true e)
bool_number (kind.object r ts) e = absurd (false≢true e)
bool_number (kind.distinct t) e = absurd (false≢true e)
bool_number (kind.ref t) e = absurd (false≢true e)
bool_number kind.exception e = absurd (false≢true e)
bool_number kind.parameter e = absurd (false≢true e)
bool_number kind.other e = absurd (false≢true e)

pub plain_type : (facts : Facts) (o : Option Ty) → IfSimple facts o → is_number (kind_if facts o) ≡ true → form_for facts o ≡ plain
plain_type facts None simple e = absurd (false≢true e)
plain_type facts (Some ty) simple e = the_form simple.has ∙ number_form simple.has e

pub int_type : (facts : Facts) (o : Option Ty) → IfSimple facts o → is_int (kind_if facts o) ≡ true → form_for facts o ≡ plain
int_type facts o simple e = plain_type facts o simple (int_number (kind_if facts o) e)

pub bool_type : (facts : Facts) (o : Option Ty) → IfSimple facts o → is_bool (kind_if facts o) ≡ true → form_for facts o ≡ plain
bool_type facts o simple e = plain_type facts o simple (bool_number (kind_if facts o) e)

pub hooked_is : (facts : Facts) (o : Option Ty) → gives_hooked facts o ≡ hooked (form_for facts o)
hooked_is facts None = refl
hooked_is facts (Some ty) = refl

-- what is plain has no hooks
pub not_hooked : (facts : Facts) (o : Option Ty) → form_for facts o ≡ plain → gives_hooked facts o ≡ false
not_hooked facts o e = hooked_is facts o ∙ ap hooked e
