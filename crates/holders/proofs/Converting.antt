-- Conversions, by the forms of types.
use Rattle.std.proofs.Common.{◌≡◌, refl, sym, ap, subst, ◌∙◌, ℕ, Bool, true, false, List, [], ◌∷◌, Option, Some, None}
use Rattle.std.specs.Prelude.{◌||◌}
use Rattle.std.proofs.lemmas.Bool.{false≢true}
use Rattle.std.proofs.lemmas.Option.{none-some}
use Rattle.nim_types.specs.Types.{Ty, int, enum, exception}
use Rattle.nim_types.specs.Types.{Facts}
use Rattle.nim_types.specs.Forms.{Form, plain, wrapped, hooked, form_of, HasForm}
use Rattle.nim_types.specs.Forms.{of_int, of_bool, of_char, of_text, of_sequence, of_any_sequence, of_array, of_tuple, of_parameter, of_enum}
use Rattle.nim_types.specs.Forms.{of_object, of_distinct, of_ref, of_exception}
use Rattle.nim_types.proofs.ForCallers.{the_form, same_sound}
use Rattle.nim_program.specs.declared.operation.Operation.TheVariants as O
use Rattle.nim_program.specs.Ints.{Checked, Fine, Trapped, within}
use Rattle.nim_program.specs.Kinds as kind
use Rattle.nim_program.specs.Kinds.{TypeKind, kind_of, declared_kind, is_int, is_ordinal, is_declared_as}
use Rattle.nim_program.specs.Fitting.{fits, is_converted, is_base_of, converts}
use Rattle.nim_meaning.specs.Values.{Value, number_of, Given}
use Rattle.nim_meaning.specs.State.{World}
use Rattle.nim_meaning.specs.Texts.{are_seen}
use Rattle.nim_meaning.specs.Here.{gives_hooked, form_for}
use Rattle.nim_meaning.specs.Deeds.{◌>>=◌}
use Rattle.nim_meaning.specs.Table.{operates, outcome, limit_of, converted, moved}
use Rattle.holders.specs.Owned.{Extent, Has, a_number, of_wrapped}
use Rattle.holders.specs.Sure.{Sure}
use Rattle.holders.specs.Territory.{Owner}
use Rattle.holders.specs.Running.{Region}
use Rattle.holders.specs.Staging.{Holding}
use Rattle.holders.specs.Asked.{Simple, IfSimple}
use Rattle.holders.specs.Evaluating.{Bare}
use Rattle.holders.proofs.Constants.{number_form, is_number}
use Rattle.holders.proofs.Table.{OutOf, At_stage, out_bare, out_either, out_number, one_row}
use Rattle.holders.proofs.Staging.{bare_stage}

abbrev is_distinct : TypeKind → Bool
is_distinct (kind.distinct t) = true
is_distinct k = false

abbrev base_type : TypeKind → Ty
base_type (kind.distinct t) = t
base_type k = int

-- what a distinct type is of
distinct_base : {facts : Facts} {ty t : Ty} {f : Form} → HasForm facts ty f → is_declared_as ty (kind_of facts ty) ≡ true → kind_of facts ty ≡ kind.distinct t →
    f ≡ wrapped (form_of facts t)
distinct_base of_int declared e = absurd (false≢true (ap is_distinct e))
distinct_base of_bool declared e = absurd (false≢true (ap is_distinct e))
distinct_base of_char declared e = absurd (false≢true (ap is_distinct e))
distinct_base of_text declared e = absurd (false≢true (ap is_distinct e))
distinct_base (of_sequence q h) declared e = absurd (false≢true (ap is_distinct e))
distinct_base (of_any_sequence q) declared e = absurd (false≢true (ap is_distinct e))
distinct_base (of_array h) declared e = absurd (false≢true (ap is_distinct e))
distinct_base (of_tuple h) declared e = absurd (false≢true (ap is_distinct e))
distinct_base of_parameter declared e = absurd (false≢true (ap is_distinct e))
distinct_base (of_enum {key = key}) declared e = absurd (false≢true (subst (λ k. is_declared_as (enum key) k ≡ true) e declared))
distinct_base (of_object q h) declared e = absurd (false≢true (sym (ap (λ x. is_distinct (declared_kind x)) q) ∙ ap is_distinct e))
distinct_base {facts} (of_distinct {t = u} {f = f} q h) declared e =
    ap wrapped (sym (the_form h) ∙ ap (form_of facts) (sym (ap (λ x. base_type (declared_kind x)) q) ∙ ap base_type e))
distinct_base of_ref declared e = absurd (false≢true (ap is_distinct e))
distinct_base (of_exception {key = key}) declared e = absurd (false≢true (subst (λ k. is_declared_as (exception key) k ≡ true) e declared))

ordinal_number : (k : TypeKind) → is_ordinal k ≡ true → is_number k ≡ true
ordinal_number kind.int e = refl
ordinal_number kind.bool e = refl
ordinal_number kind.char e = refl
ordinal_number (kind.enum n) e = refl
ordinal_number kind.text e = absurd (false≢true e)
ordinal_number (kind.sequence t) e = absurd (false≢true e)
ordinal_number (kind.array n t) e = absurd (false≢true e)
ordinal_number (kind.tuple ts) e = absurd (false≢true e)
ordinal_number (kind.object b ts) e = absurd (false≢true e)
ordinal_number (kind.distinct t) e = absurd (false≢true e)
ordinal_number (kind.ref t) e = absurd (false≢true e)
ordinal_number kind.exception e = absurd (false≢true e)
ordinal_number kind.parameter e = absurd (false≢true e)
ordinal_number kind.other e = absurd (false≢true e)

int_ordinal : (k : TypeKind) → is_int k ≡ true → is_number k ≡ true
int_ordinal kind.int e = refl
int_ordinal kind.bool e = absurd (false≢true e)
int_ordinal kind.char e = absurd (false≢true e)
int_ordinal (kind.enum n) e = absurd (false≢true e)
int_ordinal kind.text e = absurd (false≢true e)
int_ordinal (kind.sequence t) e = absurd (false≢true e)
int_ordinal (kind.array n t) e = absurd (false≢true e)
int_ordinal (kind.tuple ts) e = absurd (false≢true e)
int_ordinal (kind.object b ts) e = absurd (false≢true e)
int_ordinal (kind.distinct t) e = absurd (false≢true e)
int_ordinal (kind.ref t) e = absurd (false≢true e)
int_ordinal kind.exception e = absurd (false≢true e)
int_ordinal kind.parameter e = absurd (false≢true e)
int_ordinal kind.other e = absurd (false≢true e)

-- from a form to another one
data Converts (to from : Form) : Type 0 where
  to_number : to ≡ plain → from ≡ plain → Converts to from
  wraps : to ≡ wrapped from → Converts to from
  unwraps : from ≡ wrapped to → Converts to from

module _ (facts : Facts) {ty t : Ty} (a : Simple facts ty) (b : Simple facts t) where
  numbers_both : is_number (kind_of facts ty) ≡ true → is_number (kind_of facts t) ≡ true → Converts (form_of facts ty) (form_of facts t)
  numbers_both p q = to_number (the_form a.has ∙ number_form a.has p) (the_form b.has ∙ number_form b.has q)

  goes_to : (k : TypeKind) → kind_of facts ty ≡ k → is_converted k t (kind_of facts t) ≡ true → Converts (form_of facts ty) (form_of facts t)
  goes_to kind.int e h = numbers_both (ap is_number e) (ordinal_number (kind_of facts t) h)
  goes_to kind.char e h = numbers_both (ap is_number e) (int_ordinal (kind_of facts t) h)
  goes_to (kind.enum n) e h = numbers_both (ap is_number e) (int_ordinal (kind_of facts t) h)
  goes_to (kind.distinct u) e h =
      wraps (the_form a.has ∙ (distinct_base a.has a.declared e ∙ ap (λ (s : Ty). wrapped (form_of facts s)) (same_sound u t h)))
  goes_to kind.bool e h = absurd (false≢true h)
  goes_to kind.text e h = absurd (false≢true h)
  goes_to (kind.sequence u) e h = absurd (false≢true h)
  goes_to (kind.array n u) e h = absurd (false≢true h)
  goes_to (kind.tuple ts) e h = absurd (false≢true h)
  goes_to (kind.object r ts) e h = absurd (false≢true h)
  goes_to (kind.ref u) e h = absurd (false≢true h)
  goes_to kind.exception e h = absurd (false≢true h)
  goes_to kind.parameter e h = absurd (false≢true h)
  goes_to kind.other e h = absurd (false≢true h)

  comes_from : (k : TypeKind) → kind_of facts t ≡ k → is_base_of k ty ≡ true → Converts (form_of facts ty) (form_of facts t)
  comes_from (kind.distinct u) e h =
      unwraps (the_form b.has ∙ (distinct_base b.has b.declared e ∙ ap (λ (s : Ty). wrapped (form_of facts s)) (same_sound u ty h)))
  comes_from kind.int e h = absurd (false≢true h)
  comes_from kind.char e h = absurd (false≢true h)
  comes_from (kind.enum n) e h = absurd (false≢true h)
  comes_from kind.bool e h = absurd (false≢true h)
  comes_from kind.text e h = absurd (false≢true h)
  comes_from (kind.sequence u) e h = absurd (false≢true h)
  comes_from (kind.array n u) e h = absurd (false≢true h)
  comes_from (kind.tuple ts) e h = absurd (false≢true h)
  comes_from (kind.object r ts) e h = absurd (false≢true h)
  comes_from (kind.ref u) e h = absurd (false≢true h)
  comes_from kind.exception e h = absurd (false≢true h)
  comes_from kind.parameter e h = absurd (false≢true h)
  comes_from kind.other e h = absurd (false≢true h)

  converts_so : converts facts (Some ty) (Some t) ≡ true → Converts (form_of facts ty) (form_of facts t)
  converts_so h = by (is_converted (kind_of facts ty) t (kind_of facts t)) refl h
    where
      by : (c : Bool) → is_converted (kind_of facts ty) t (kind_of facts t) ≡ c → c || is_base_of (kind_of facts t) ty ≡ true →
          Converts (form_of facts ty) (form_of facts t)
      by true e h = goes_to (kind_of facts ty) refl e
      by false e h = comes_from (kind_of facts t) refl h

unwrapped : {world : World} {x : Extent} {f : Form} {v : Value} {bs : List ℕ} → Has world x (wrapped f) v bs → Has world x f v bs
unwrapped (of_wrapped h) = h

-- a value is one of the other form
converted_has : {to from : Form} → Converts to from → {world : World} {x : Extent} {v : Value} {bs : List ℕ} → Has world x from v bs → Has world x to v bs
converted_has (to_number p q) {world} {x} {v} {bs} h = subst (λ f. Has world x f v bs) (q ∙ sym p) h
converted_has (wraps p) {world} {x} {v} {bs} h = subst (λ f. Has world x f v bs) (sym p) (of_wrapped h)
converted_has (unwraps p) {world} {x} {v} {bs} h = unwrapped (subst (λ f. Has world x f v bs) p h)

-- one has hooks where the other has
from_bare : {to from : Form} → Converts to from → hooked to ≡ false → hooked from ≡ false
from_bare (to_number p q) bare = ap hooked q
from_bare (wraps p) bare = sym (ap hooked p) ∙ bare
from_bare (unwraps p) bare = ap hooked p ∙ bare

limit_plain : {facts : Facts} {ty : Ty} {f : Form} {n : ℕ} → HasForm facts ty f → limit_of facts ty ≡ Some n → f ≡ plain
limit_plain of_char e = refl
limit_plain of_enum e = refl
limit_plain {n = n} of_int e = absurd (none-some n e)
limit_plain {n = n} of_bool e = absurd (none-some n e)
limit_plain {n = n} of_text e = absurd (none-some n e)
limit_plain {n = n} (of_sequence q h) e = absurd (none-some n e)
limit_plain {n = n} (of_any_sequence q) e = absurd (none-some n e)
limit_plain {n = n} (of_array h) e = absurd (none-some n e)
limit_plain {n = n} (of_tuple h) e = absurd (none-some n e)
limit_plain {n = n} of_parameter e = absurd (none-some n e)
limit_plain {n = n} (of_object q h) e = absurd (none-some n e)
limit_plain {n = n} (of_distinct q h) e = absurd (none-some n e)
limit_plain {n = n} of_ref e = absurd (none-some n e)
limit_plain {n = n} of_exception e = absurd (none-some n e)

module _ (facts : Facts) (r : Region) (ms os : List Owner) (first places : ℕ) (nodes old : List ℕ) (start now : World) where
  abbrev OutHere : Option Ty → Value → World → Type 0
  OutHere ty v after = OutOf facts r ms os first places nodes old start ty v after

  abbrev StageHere : World → Type 0
  StageHere after = At_stage facts r ms os first places nodes old start after

  outcome_moved : (c : Checked) → StageHere now → Sure (outcome c >>= moved) (λ v after. StageHere after × Bare plain v) now
  outcome_moved (Fine z) s = (s, λ world. a_number)
  outcome_moved (Trapped trap) s = tt

  converted_row : {ty : Ty} (v : Value) → Simple facts ty → (limit : Option ℕ) → limit_of facts ty ≡ limit → ((n : ℕ) → limit ≡ Some n → StageHere now) →
      (limit ≡ None → Sure (moved v) (OutHere (Some ty)) now) → Sure (converted limit v >>= moved) (OutHere (Some ty)) now
  converted_row {ty} v simple None e s h = h refl
  converted_row {ty} v simple (Some n) e s h =
      out_number facts r ms os first places nodes old start (Some ty) (outcome (within n (number_of v)) >>= moved) now
      (the_form simple.has ∙ limit_plain simple.has e) (outcome_moved (within n (number_of v)) (s n refl))

  pub convert_bare : (ty t : Option Ty) {v : Value} → IfSimple facts ty → IfSimple facts t → fits facts O.Convert ty (t ∷ []) ≡ true →
      hooked (form_for facts t) ≡ false → are_seen now (Given v ∷ []) ≡ true → StageHere now → Bare (form_for facts t) v →
      Sure (operates O.Convert facts ty (t ∷ []) (Given v ∷ [])) (OutHere ty) now
  convert_bare None t a b typed bare seen s h = absurd (false≢true typed)
  convert_bare (Some ty) None a b typed bare seen s h = absurd (false≢true typed)
  convert_bare (Some ty) (Some t) {v} a b typed bare seen s h =
      one_row facts r ms os first places nodes old start O.Convert (Some ty) (Some t ∷ []) (Given v ∷ []) (OutHere (Some ty)) now (λ d. refl) seen
      (converted_row {ty = ty} v a (limit_of facts ty) refl (λ n e. s)
      (λ q. out_bare facts r ms os first places nodes old start (Some ty) (moved v) now (hooked_to (converts_so facts a b typed))
      (s, λ world. converted_has (converts_so facts a b typed) (h world))))
    where
      hooked_to : Converts (form_of facts ty) (form_of facts t) → gives_hooked facts (Some ty) ≡ false
      hooked_to (to_number p q) = ap hooked p
      hooked_to (wraps p) = ap hooked p ∙ bare
      hooked_to (unwraps p) = sym (ap hooked p) ∙ bare

  pub convert_held : (ty t : Option Ty) {v : Value} → IfSimple facts ty → IfSimple facts t → fits facts O.Convert ty (t ∷ []) ≡ true →
      are_seen now (Given v ∷ []) ≡ true → Holding (form_for facts t) v r ms os first places nodes old start now →
      Sure (operates O.Convert facts ty (t ∷ []) (Given v ∷ [])) (OutHere ty) now
  convert_held None t a b typed seen h = absurd (false≢true typed)
  convert_held (Some ty) None a b typed seen h = absurd (false≢true typed)
  convert_held (Some ty) (Some t) {v} a b typed seen h =
      one_row facts r ms os first places nodes old start O.Convert (Some ty) (Some t ∷ []) (Given v ∷ []) (OutHere (Some ty)) now (λ d. refl) seen
      (converted_row {ty = ty} v a (limit_of facts ty) refl
      (λ n e. bare_stage r os first places old start (from_bare (converts_so facts a b typed) (ap hooked (the_form a.has ∙ limit_plain a.has e))) h)
      (λ q. out_either facts r ms os first places nodes old start (Some ty) (moved v) now (record {
        out = h.out;
        stage = h.stage;
        out_is = h.out_is;
        under = record {
          given = h.under.given;
          has = converted_has (converts_so facts a b typed) h.under.has;
          distinct = h.under.distinct;
          strange = h.under.strange;
          clear = h.under.clear;
        };
        came = h.came;
      })))
