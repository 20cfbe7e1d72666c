-- Labels have each value once: as it is said.
use Rattle.std.proofs.Common.{◌≡◌, Bool, true, false, List, [], ◌∷◌, refl, sym, ap, ◌∙◌}
use Rattle.std.specs.Prelude.{ℤ, int_le, ◌&&◌, ◌||◌, Option, Some, None, Ok, if◌then◌else◌}
use Rattle.arc_base.specs.declared.place.Place.{Place}
use Rattle.arc_base.specs.declared.place.Code.TheVariants.{CaseCover}
use Rattle.arc_base.specs.Refusal.{refused, IsRefusal}
use Rattle.nim_types.specs.Types as type
use Rattle.nim_types.specs.Types.{Ty, Facts, same_text}
use Rattle.nim_program.specs.Program.{Label, Ordinals, Exactly}
use Rattle.expr_rules.specs.Answers.{Answer}
use Rattle.expr_rules.specs.Builtins.{is_text}
use Rattle.expr_rules.specs.Choices.{clash, clashes, new_label, has_any, Span, span_of, covers, is_enough, cover_by, cover_rule}
use Rattle.expr_rules.specs.Covered.{Meets, ordinals_meet, texts_meet, HasTwice, twice_here, twice_later, HasOrdinal, within_span, AreEnough, no_text_needed}
use Rattle.expr_rules.specs.Covered.{each_ordinal, LacksValue, lacks_text, lacks_ordinal}
use Rattle.expr_rules.proofs.Means.{Means, m_ok, m_err}
use Rattle.expr_rules.proofs.Chosen.{true_false}
use Rattle.expr_rules.proofs.Covering.{covering}

pub and_parts : (b c : Bool) → (b && c) ≡ true → (b ≡ true) × (c ≡ true)
and_parts true true e = (refl, refl)
and_parts true false e = cc
and_parts false c e = cc

pub and_both : {b c : Bool} → b ≡ true → c ≡ true → (b && c) ≡ true
and_both {b} {c} e f = cc

or_parts : {C : Type 0} (b c : Bool) → (b || c) ≡ true → (b ≡ true → C) → (c ≡ true → C) → C
or_parts true c e f g = f refl
or_parts false c e f g = g e

or_first : {b : Bool} (c : Bool) → b ≡ true → (b || c) ≡ true
or_first c e = ap (λ b. b || c) e

or_second : (b : Bool) {c : Bool} → c ≡ true → (b || c) ≡ true
or_second true e = refl
or_second false e = e

-- ---- a value twice

meets_so : (l k : Label) → clash l k ≡ true → Meets l k
meets_so (Ordinals a b) (Ordinals c d) e =
    let both : (int_le a d ≡ true) × (int_le c b ≡ true) = and_parts _ _ e in ordinals_meet both.0 both.1
meets_so (Exactly s) (Exactly t) e = texts_meet e
meets_so (Ordinals a b) (Exactly t) e = cc
meets_so (Exactly s) (Ordinals c d) e = cc

meets_back : {l k : Label} → Meets l k → clash l k ≡ true
meets_back (ordinals_meet e f) = and_both e f
meets_back (texts_meet e) = e

pub twice_so : (l : Label) (before : List Label) → clashes l before ≡ true → HasTwice l before
twice_so l [] e = cc
twice_so l (k ∷ rest) e = or_parts (clash l k) (clashes l rest) e (λ h. twice_here (meets_so l k h)) (λ h. twice_later (twice_so l rest h))

pub twice_back : {l : Label} {before : List Label} → HasTwice l before → clashes l before ≡ true
twice_back {l} (twice_here {rest = rest} h) = or_first (clashes l rest) (meets_back h)
twice_back {l} (twice_later {k = k} h) = or_second (clash l k) (twice_back h)

not_twice : (l : Label) (before : List Label) → (HasTwice l before → ⊥) → clashes l before ≡ false
not_twice l before f = by_test (clashes l before) refl
  where
    by_test : (b : Bool) → clashes l before ≡ b → b ≡ false
    by_test false e = refl
    by_test true e = absurd (f (twice_so l before e))

pub label_new : (at : Place) (before : List Label) (l : Label) → (HasTwice l before → ⊥) → new_label at before l ≡ Ok l
label_new at before l f = ap (λ b. if b then refused CaseCover at else Ok l) (not_twice l before f)

pub label_again : (at : Place) {before : List Label} {l : Label} → HasTwice l before → IsRefusal (new_label at before l) CaseCover at
label_again at {l = l} h = ap (λ b. if b then refused CaseCover at else Ok l) (twice_back h)

-- a label that is new, as it is
pub data IsNew (at : Place) (before : List Label) (l : Label) : Answer Label → Type 0 where
  is_new : (HasTwice l before → ⊥) → IsNew at before l (Ok l)
  is_again : HasTwice l before → IsNew at before l (refused CaseCover at)

pub label_so : (at : Place) (before : List Label) (l : Label) → IsNew at before l (new_label at before l)
label_so at before l = by_test (clashes l before) refl
  where
    by_test : (b : Bool) → clashes l before ≡ b → IsNew at before l (if b then refused CaseCover at else Ok l)
    by_test true e = is_again (twice_so l before e)
    by_test false e = is_new (λ h. true_false (twice_back h) e)

-- ---- each value

ordinals_so : (facts : Facts) (ty : Ty) (labels : List Label) → covers (span_of facts ty) labels ≡ true → (z : ℤ) → HasOrdinal facts ty z
    → has_any z labels ≡ true
ordinals_so facts ty labels e z (within_span {s = s} h f g) =
    (covering s.from s.to labels).0 (sym (ap (λ a. covers a labels) h) ∙ e) z f g

ordinals_back : (facts : Facts) (ty : Ty) (labels : List Label) → ((z : ℤ) → HasOrdinal facts ty z → has_any z labels ≡ true)
    → covers (span_of facts ty) labels ≡ true
ordinals_back facts ty labels f = by_span (span_of facts ty) refl
  where
    by_span : (a : Option Span) → span_of facts ty ≡ a → covers a labels ≡ true
    by_span None e = refl
    by_span (Some s) e = (covering s.from s.to labels).1 (λ z g h. f z (within_span e g h))

no_text : (facts : Facts) (ty : Ty) (gives : Option Ty) (labels : List Label) → is_text ty ≡ false
    → is_enough facts ty gives labels ≡ covers (span_of facts ty) labels
no_text facts type.text gives labels e = cc
no_text facts ty gives labels e = refl

enough_by : (facts : Facts) (ty : Ty) (gives : Option Ty) (labels : List Label) (at : Place) (b : Bool) → is_text ty ≡ false
    → covers (span_of facts ty) labels ≡ b
    → Means (λ (u : Unit {0}). AreEnough facts ty gives labels) (λ c p. (c ≡ CaseCover) × (p ≡ at) × LacksValue facts ty gives labels)
    (cover_by b at)
enough_by facts ty gives labels at true t e = m_ok (each_ordinal t (ordinals_so facts ty labels e))
enough_by facts ty gives labels at false t e =
    m_err (refl, refl, lacks_ordinal t (λ f. true_false (ordinals_back facts ty labels f) e))

pub enough_sound : (facts : Facts) (at : Place) (ty : Ty) (gives : Option Ty) (labels : List Label)
    → Means (λ (u : Unit {0}). AreEnough facts ty gives labels) (λ c p. (c ≡ CaseCover) × (p ≡ at) × LacksValue facts ty gives labels)
    (cover_rule facts at ty gives labels)
enough_sound facts at type.text None labels = m_ok no_text_needed
enough_sound facts at type.text (Some t) labels = m_err (refl, refl, lacks_text)
enough_sound facts at ty gives labels = enough_by facts ty gives labels at _ refl refl

pub enough_back : {facts : Facts} (at : Place) {ty : Ty} {gives : Option Ty} {labels : List Label} → AreEnough facts ty gives labels
    → cover_rule facts at ty gives labels ≡ Ok tt
enough_back at no_text_needed = refl
enough_back {facts} at {ty} {gives} {labels} (each_ordinal t f) =
    ap (λ b. cover_by b at) (no_text facts ty gives labels t ∙ ordinals_back facts ty labels f)

pub lacks_back : {facts : Facts} (at : Place) {ty : Ty} {gives : Option Ty} {labels : List Label} → LacksValue facts ty gives labels
    → IsRefusal (cover_rule facts at ty gives labels) CaseCover at
lacks_back at lacks_text = refl
lacks_back {facts} at {ty} {gives} {labels} (lacks_ordinal t f) =
    ap (λ b. cover_by b at) (no_text facts ty gives labels t ∙ not_covered (covers (span_of facts ty) labels) refl)
  where
    not_covered : (b : Bool) → covers (span_of facts ty) labels ≡ b → b ≡ false
    not_covered false e = refl
    not_covered true e = absurd (f (ordinals_so facts ty labels e))

pub enough_so : (facts : Facts) (ty : Ty) (gives : Option Ty) (labels : List Label) → is_enough facts ty gives labels ≡ true
    → AreEnough facts ty gives labels
enough_so facts type.text None labels e = no_text_needed
enough_so facts type.text (Some t) labels e = cc
enough_so facts ty gives labels e = each_ordinal refl (ordinals_so facts ty labels e)

pub enough_true : {facts : Facts} {ty : Ty} {gives : Option Ty} {labels : List Label} → AreEnough facts ty gives labels
    → is_enough facts ty gives labels ≡ true
enough_true no_text_needed = refl
enough_true {facts} {ty} {gives} {labels} (each_ordinal t f) = no_text facts ty gives labels t ∙ ordinals_back facts ty labels f
