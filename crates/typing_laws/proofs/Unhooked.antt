-- Types whose values have nothing to do when they are copied: no texts, no sequences, and a place starts at the value of its constant.
use Rattle.std.proofs.Common.{◌≡◌, ℕ, zero, suc, Bool, true, false, List, [], ◌∷◌, length, Option, Some, None, refl, sym, ap, subst, ◌∙◌}
use Rattle.std.specs.Prelude.{◌||◌}
use Rattle.std.proofs.lemmas.Bool.{and_parts}
use Rattle.nim_types.specs.Types as type
use Rattle.nim_types.specs.Types.{Ty, Fact, members, fields, base, below, Facts, fact_of, base_in}
use Rattle.nim_types.specs.Forms.{Form, Forms, plain, reference, block, elements, row, parts, resource, wrapped, no_forms, forms, hooked, hooked_any}
use Rattle.nim_types.specs.Forms.{form_in, form_by, form_within, form_of}
use Rattle.nim_program.specs.declared.operation.Operation.TheVariants as O
use Rattle.nim_program.specs.Kinds.{declared_kind, kind_of, kind_if, base_or, below_distinct, plain_kind, is_text, is_sequence}
use Rattle.nim_program.specs.Fitting.{fits}
use Rattle.nim_program.specs.Defaults.{times, blank_literal, blank_literals, default_literal}
use Rattle.nim_meaning.specs.Here.{gives_hooked}
use Rattle.nim_meaning.specs.Values.{Parts, More, literal_value, literal_values, repeated, blank, blanks, default_of}
use Rattle.typing_laws.specs.Sound.{AreSound}
use Rattle.typing_laws.proofs.Tests.{never, ever}

-- ---- tests

pub neither : (a b : Bool) → (a || b) ≡ false → (a ≡ false) × (b ≡ false)
neither false b e = (refl, e)
neither true b e = ever e

-- ---- what a place starts at

repeated_is : (n : ℕ) (f : Form) → literal_value (blank_literal f) ≡ blank f → literal_values (times n (blank_literal f)) ≡ repeated n (blank f)
repeated_is zero f e = refl
repeated_is (suc n) f e =
    ap (λ v. More v (literal_values (times n (blank_literal f)))) e ∙ ap (λ all. More (blank f) all) (repeated_is n f e)

mutual
  blank_is : (f : Form) → hooked f ≡ false → literal_value (blank_literal f) ≡ blank f
  blank_is plain e = refl
  blank_is reference e = ever e
  blank_is block e = ever e
  blank_is (elements f) e = ever e
  blank_is (row zero f) e = refl
  blank_is (row (suc n) f) e = ap (λ all. Parts all) (repeated_is (suc n) f (blank_is f e))
  blank_is (parts fs) e = ap (λ all. Parts all) (blanks_are fs e)
  blank_is (resource fs) e = ever e
  blank_is (wrapped f) e = blank_is f e

  pub blanks_are : (fs : Forms) → hooked_any fs ≡ false → literal_values (blank_literals fs) ≡ blanks fs
  blanks_are no_forms e = refl
  blanks_are (forms f fs) e =
      let p = neither (hooked f) (hooked_any fs) e in
      ap (λ v. More v (literal_values (blank_literals fs))) (blank_is f p.0) ∙ ap (λ all. More (blank f) all) (blanks_are fs p.1)

pub default_is : (facts : Facts) (ty : Ty) → hooked (form_of facts ty) ≡ false → literal_value (default_literal facts ty) ≡ default_of facts ty
default_is facts ty e = blank_is (form_of facts ty) e

-- ---- texts and sequences

module _ (facts : Facts) where
  no_text : {A : Type 0} (o : Option Fact) → is_text (declared_kind o) ≡ true → A
  no_text None h = never h
  no_text (Some (members names)) h = never h
  no_text (Some (fields all own)) h = never h
  no_text (Some (base t)) h = never h
  no_text (Some (below parent)) h = never h

  text_by : (ty : Ty) → is_text (kind_of facts ty) ≡ true → ty ≡ type.text
  text_by type.text h = refl
  text_by type.int h = never h
  text_by type.bool h = never h
  text_by type.char h = never h
  text_by (type.sequence t) h = never h
  text_by (type.array n t) h = never h
  text_by (type.tuple names ts) h = never h
  text_by (type.parameter n) h = never h
  text_by (type.ref name t) h = never h
  text_by (type.enum key) h = no_text (fact_of facts (type.enum key)) h
  text_by (type.object key ts) h = no_text (fact_of facts (type.object key ts)) h
  text_by (type.distinct key) h = no_text (fact_of facts (type.distinct key)) h
  text_by (type.exception key) h = no_text (fact_of facts (type.exception key)) h

  own_text : (known : Ty → Form) (ty : Ty) → is_text (kind_of facts ty) ≡ true → hooked (form_in known ty) ≡ true
  own_text known ty h = subst (λ t. hooked (form_in known t) ≡ true) (sym (text_by ty h)) refl

  no_sequence : {A : Type 0} (o : Option Fact) → is_sequence (declared_kind o) ≡ true → A
  no_sequence None h = never h
  no_sequence (Some (members names)) h = never h
  no_sequence (Some (fields all own)) h = never h
  no_sequence (Some (base t)) h = never h
  no_sequence (Some (below parent)) h = never h

  sequence_hooked : (ty : Ty) → is_sequence (kind_of facts ty) ≡ true → hooked (form_of facts ty) ≡ true
  sequence_hooked (type.sequence t) h = refl
  sequence_hooked type.text h = never h
  sequence_hooked type.int h = never h
  sequence_hooked type.bool h = never h
  sequence_hooked type.char h = never h
  sequence_hooked (type.array n t) h = never h
  sequence_hooked (type.tuple names ts) h = never h
  sequence_hooked (type.parameter n) h = never h
  sequence_hooked (type.ref name t) h = never h
  sequence_hooked (type.enum key) h = no_sequence (fact_of facts (type.enum key)) h
  sequence_hooked (type.object key ts) h = no_sequence (fact_of facts (type.object key ts)) h
  sequence_hooked (type.distinct key) h = no_sequence (fact_of facts (type.distinct key)) h
  sequence_hooked (type.exception key) h = no_sequence (fact_of facts (type.exception key)) h

  unhooked_text : {A : Type 0} (ty : Option Ty) → is_text (kind_if facts ty) ≡ true → gives_hooked facts ty ≡ false → A
  unhooked_text None h u = never h
  unhooked_text (Some ty) h u = ever (sym (subst (λ t. hooked (form_of facts t) ≡ true) (sym (text_by ty h)) refl) ∙ u)

  unhooked_sequence : {A : Type 0} (ty : Option Ty) → is_sequence (kind_if facts ty) ≡ true → gives_hooked facts ty ≡ false → A
  unhooked_sequence None h u = never h
  unhooked_sequence (Some ty) h u = ever (sym (sequence_hooked ty h) ∙ u)

  -- operations that give a text or a sequence
  pub no_joined : {A : Type 0} (ty : Option Ty) (of : List (Option Ty)) → fits facts O.Join ty of ≡ true → gives_hooked facts ty ≡ false → A
  no_joined ty [] f u = never f
  no_joined ty (a ∷ []) f u = never f
  no_joined ty (a ∷ b ∷ []) f u = unhooked_text ty (and_parts (is_text (kind_if facts ty)) _ f).0 u
  no_joined ty (a ∷ b ∷ c ∷ of) f u = never f

  pub no_shown : {A : Type 0} (ty : Option Ty) (of : List (Option Ty)) → fits facts O.Show ty of ≡ true → gives_hooked facts ty ≡ false → A
  no_shown ty [] f u = never f
  no_shown ty (a ∷ []) f u = unhooked_text ty (and_parts (is_text (kind_if facts ty)) _ f).0 u
  no_shown ty (a ∷ b ∷ of) f u = never f

  pub no_listed : {A : Type 0} (ty : Option Ty) (of : List (Option Ty)) → fits facts O.Sequence ty of ≡ true → gives_hooked facts ty ≡ false → A
  no_listed ty of f u = unhooked_sequence ty (and_parts (is_sequence (kind_if facts ty)) _ f).0 u

module _ (facts : Facts) (sound : AreSound facts) where
  -- distinct types looked through
  text_hooked : (n : ℕ) (ty : Ty) → is_text (kind_of facts (below_distinct n facts ty)) ≡ true → hooked (form_in (form_within n facts) ty) ≡ true
  text_hooked zero ty h = own_text facts (form_within zero facts) ty h
  text_hooked (suc n) ty h = by_fact ty (fact_of facts ty) refl h (λ t h. text_hooked n t h)
    where
      by_fact : (ty : Ty) (o : Option Fact) → fact_of facts ty ≡ o
          → is_text (kind_of facts (base_or (below_distinct n facts) ty (base_in (fact_of facts ty)))) ≡ true
          → ((t : Ty) → is_text (kind_of facts (below_distinct n facts t)) ≡ true → hooked (form_in (form_within n facts) t) ≡ true)
          → hooked (form_in (form_within (suc n) facts) ty) ≡ true
      by_fact ty None e h go =
          own_text facts (form_within (suc n) facts) ty (subst (λ o. is_text (kind_of facts (base_or (below_distinct n facts) ty (base_in o))) ≡ true) e h)
      by_fact ty (Some (members names)) e h go =
          own_text facts (form_within (suc n) facts) ty (subst (λ o. is_text (kind_of facts (base_or (below_distinct n facts) ty (base_in o))) ≡ true) e h)
      by_fact ty (Some (fields all own)) e h go =
          own_text facts (form_within (suc n) facts) ty (subst (λ o. is_text (kind_of facts (base_or (below_distinct n facts) ty (base_in o))) ≡ true) e h)
      by_fact ty (Some (below parent)) e h go =
          own_text facts (form_within (suc n) facts) ty (subst (λ o. is_text (kind_of facts (base_or (below_distinct n facts) ty (base_in o))) ≡ true) e h)
      by_fact (type.distinct key) (Some (base t)) e h go =
          subst (λ o. hooked (form_by (form_within n facts) o) ≡ true) (sym e)
          (go t (subst (λ o. is_text (kind_of facts (base_or (below_distinct n facts) (type.distinct key) (base_in o))) ≡ true) e h))
      by_fact ty (Some (base t)) e h go = never (sound.said ty (base t) e)

  pub hooked_text : (ty : Ty) → is_text (plain_kind facts ty) ≡ true → hooked (form_of facts ty) ≡ true
  hooked_text ty h = text_hooked (length facts) ty h
