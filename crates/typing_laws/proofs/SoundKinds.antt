-- Kinds of types that are sound.
use Rattle.std.proofs.Common.{◌≡◌, ℕ, zero, suc, Bool, true, false, length, Option, Some, None, refl, sym, ap, subst, ◌∙◌}
use Rattle.nim_types.specs.Types as type
use Rattle.nim_types.specs.Types.{Ty, Tys, Key, Field, Fact, members, fields, base, Facts, fact_of, base_in, same}
use Rattle.nim_program.specs.Kinds as kind
use Rattle.nim_program.specs.Kinds.{TypeKind, declared_kind, kind_of, kind_if, base_or, below_distinct, plain_kind, plain_kind_if, is_int, is_bool, is_text}
use Rattle.nim_program.specs.Kinds.{is_ordinal, is_joined}
use Rattle.nim_program.specs.Kinds.{is_selected, is_shown, is_compared, is_held, has_length, is_resized, element_of}
use Rattle.nim_program.specs.declared.operation.Comparison.{Comparison}
use Rattle.nim_program.specs.declared.operation.Comparison.TheVariants as C
use Rattle.expr_rules.specs.Builtins as B
use Rattle.expr_rules.specs.Constructions.{element_type}
use Rattle.typing_laws.specs.Sound.{Sound, of_int, of_bool, of_char, of_text, of_sequence, of_array, of_tuple, of_enum, of_object, of_distinct}
use Rattle.typing_laws.specs.Sound.{is_said, AreSound}
use Rattle.typing_laws.proofs.Tests.{never, some_one, none_some, the_same}

-- ---- by what is said of it

pub held : {facts : Facts} {ty : Ty} → Sound facts ty → is_held (kind_of facts ty) ≡ true
held of_int = refl
held of_bool = refl
held of_char = refl
held of_text = refl
held (of_sequence h) = refl
held (of_array l h) = refl
held (of_tuple h) = refl
held (of_enum e) = ap (λ o. is_held (declared_kind o)) e
held (of_object e) = ap (λ o. is_held (declared_kind o)) e
held (of_distinct e) = ap (λ o. is_held (declared_kind o)) e

-- ---- looked through

pub nothing_below : (n : ℕ) (facts : Facts) (ty : Ty) → base_in (fact_of facts ty) ≡ None → below_distinct n facts ty ≡ ty
nothing_below zero facts ty e = refl
nothing_below (suc n) facts ty e = ap (base_or (below_distinct n facts) ty) e

-- nothing is said of what no source declares
unsaid : {facts : Facts} → AreSound facts → (ty : Ty) → ((fact : Fact) → is_said ty fact ≡ false) → base_in (fact_of facts ty) ≡ None
unsaid {facts} sound ty other = by_fact (fact_of facts ty) refl
  where
    by_fact : (o : Option Fact) → fact_of facts ty ≡ o → base_in o ≡ None
    by_fact None e = refl
    by_fact (Some fact) e = never (sym (other fact) ∙ sound.said ty fact e)

abbrev is_distinct : Ty → Bool
is_distinct (type.distinct key) = true
is_distinct ty = false

no_base : {facts : Facts} {ty : Ty} → AreSound facts → Sound facts ty → is_distinct ty ≡ false → base_in (fact_of facts ty) ≡ None
no_base sound of_int e = unsaid sound type.int (λ fact. refl)
no_base sound of_bool e = unsaid sound type.bool (λ fact. refl)
no_base sound of_char e = unsaid sound type.char (λ fact. refl)
no_base sound of_text e = unsaid sound type.text (λ fact. refl)
no_base sound (of_sequence {t = t} h) e = unsaid sound (type.sequence t) (λ fact. refl)
no_base sound (of_array {n = n} {t = t} l h) e = unsaid sound (type.array n t) (λ fact. refl)
no_base sound (of_tuple {names = names} {ts = ts} h) e = unsaid sound (type.tuple names ts) (λ fact. refl)
no_base sound (of_enum f) e = ap base_in f
no_base sound (of_object f) e = ap base_in f
no_base sound (of_distinct f) e = never (sym e)

pub plain_as : {facts : Facts} {ty : Ty} → AreSound facts → Sound facts ty → is_distinct ty ≡ false → plain_kind facts ty ≡ kind_of facts ty
plain_as {facts} {ty} sound h e = ap (kind_of facts) (nothing_below (length facts) facts ty (no_base sound h e))

-- nothing at all
pub unsaid_of : {facts : Facts} → AreSound facts → (ty : Ty) → ((fact : Fact) → is_said ty fact ≡ false) → fact_of facts ty ≡ None
unsaid_of {facts} sound ty other = by_fact (fact_of facts ty) refl
  where
    by_fact : (o : Option Fact) → fact_of facts ty ≡ o → o ≡ None
    by_fact None e = refl
    by_fact (Some fact) e = never (sym (other fact) ∙ sound.said ty fact e)

-- ---- what the rules ask of types

pub the_int : {ty : Ty} → B.is_int ty ≡ true → ty ≡ type.int
the_int e = sym (the_same e)

pub the_text : {ty : Ty} → B.is_text ty ≡ true → ty ≡ type.text
the_text e = sym (the_same e)

pub the_bool : {ty : Ty} → B.is_bool ty ≡ true → ty ≡ type.bool
the_bool e = sym (the_same e)

pub an_ordinal : {facts : Facts} {ty : Ty} → Sound facts ty → B.is_ordinal ty ≡ true → is_ordinal (kind_of facts ty) ≡ true
an_ordinal of_int e = refl
an_ordinal of_bool e = refl
an_ordinal of_char e = refl
an_ordinal of_text e = never e
an_ordinal (of_sequence h) e = never e
an_ordinal (of_array l h) e = never e
an_ordinal (of_tuple h) e = never e
an_ordinal (of_enum f) e = ap (λ o. is_ordinal (declared_kind o)) f
an_ordinal (of_object f) e = never e
an_ordinal (of_distinct f) e = never e

-- ordinals and texts
pub selected : {facts : Facts} {ty : Ty} → Sound facts ty → B.is_shown ty ≡ true → is_selected (kind_of facts ty) ≡ true
selected of_int e = refl
selected of_bool e = refl
selected of_char e = refl
selected of_text e = refl
selected (of_sequence h) e = never e
selected (of_array l h) e = never e
selected (of_tuple h) e = never e
selected (of_enum f) e = ap (λ o. is_selected (declared_kind o)) f
selected (of_object f) e = never e
selected (of_distinct f) e = never e

shown_apart : {facts : Facts} {ty : Ty} → Sound facts ty → B.is_shown ty ≡ true → is_distinct ty ≡ false
shown_apart of_int e = refl
shown_apart of_bool e = refl
shown_apart of_char e = refl
shown_apart of_text e = refl
shown_apart (of_sequence h) e = refl
shown_apart (of_array l h) e = refl
shown_apart (of_tuple h) e = refl
shown_apart (of_enum f) e = refl
shown_apart (of_object f) e = refl
shown_apart (of_distinct f) e = never e

pub plainly_selected : {facts : Facts} {ty : Ty} → AreSound facts → Sound facts ty → B.is_shown ty ≡ true → is_selected (plain_kind facts ty) ≡ true
plainly_selected sound h e = subst (λ k. is_selected k ≡ true) (sym (plain_as sound h (shown_apart h e))) (selected h e)

pub shown_by : (k : TypeKind) → is_selected k ≡ true → is_shown k ≡ true
shown_by kind.parameter e = refl
shown_by kind.int e = e
shown_by kind.bool e = e
shown_by kind.char e = e
shown_by kind.text e = e
shown_by (kind.enum n) e = e
shown_by (kind.sequence t) e = e
shown_by (kind.array n t) e = e
shown_by (kind.tuple ts) e = e
shown_by (kind.object resource ts) e = e
shown_by (kind.distinct t) e = e
shown_by (kind.ref t) e = e
shown_by kind.exception e = e
shown_by kind.other e = e

pub compared_by : (c : Comparison) (k : TypeKind) → is_selected k ≡ true → is_compared c k ≡ true
compared_by C.Equal (kind.ref t) e = refl
compared_by C.Unequal (kind.ref t) e = refl
compared_by c k e = shown_by k e

-- what has a length
pub lengthy : {facts : Facts} {ty : Ty} → Sound facts ty → B.has_length ty ≡ true → has_length (kind_of facts ty) ≡ true
lengthy of_int e = never e
lengthy of_bool e = never e
lengthy of_char e = never e
lengthy of_text e = refl
lengthy (of_sequence h) e = refl
lengthy (of_array l h) e = l
lengthy (of_tuple h) e = never e
lengthy (of_enum f) e = never e
lengthy (of_object f) e = never e
lengthy (of_distinct f) e = never e

pub element_kind : {facts : Facts} {ty t : Ty} → Sound facts ty → element_type ty ≡ Some t
    → (element_of (kind_of facts ty) ≡ Some t) × (has_length (kind_of facts ty) ≡ true) × Sound facts t
element_kind of_int e = none_some e
element_kind of_bool e = none_some e
element_kind of_char e = none_some e
element_kind {facts} {t = t} of_text e = (e, refl, subst (Sound facts) (some_one e) of_char)
element_kind {facts} (of_sequence h) e = (e, refl, subst (Sound facts) (some_one e) h)
element_kind {facts} (of_array l h) e = (e, l, subst (Sound facts) (some_one e) h)
element_kind (of_tuple h) e = none_some e
element_kind (of_enum f) e = none_some e
element_kind (of_object f) e = none_some e
element_kind (of_distinct f) e = none_some e
