-- Answers that mean what rules say.
use Rattle.std.proofs.Common.{◌≡◌, refl, ap, subst, ◌∙◌}
use Rattle.std.specs.Prelude.{Ok, Err}
use Rattle.arc_base.specs.declared.place.Place.{Place}
use Rattle.arc_base.specs.declared.place.Code.{Code}
use Rattle.arc_base.specs.Refusal.{Refusal, and_then, IsRefusal}
use Rattle.expr_rules.specs.Answers.{Answer}

-- what it gives is D, what it refuses is F
pub data Means {A : Type 0} (D : A → Type 0) (F : Code → Place → Type 0) : Answer A → Type 0 where
  m_ok : {a : A} → D a → Means D F (Ok a)
  m_err : {f : Refusal} → F f.code f.at → Means D F (Err f)

pub means_then : {A B : Type 0} {D : A → Type 0} {F G : Code → Place → Type 0} {E : B → Type 0} {r : Answer A} {go : A → Answer B} → Means D F r
    → ((a : A) → D a → Means E G (go a)) → ((c : Code) (p : Place) → F c p → G c p) → Means E G (and_then r go)
means_then (m_ok {a = a} d) h f = h a d
means_then (m_err {f = e} w) h f = m_err (f e.code e.at w)

pub means_map : {A : Type 0} {D E : A → Type 0} {F G : Code → Place → Type 0} {r : Answer A} → Means D F r → ((a : A) → D a → E a)
    → ((c : Code) (p : Place) → F c p → G c p) → Means E G r
means_map (m_ok {a = a} d) h f = m_ok (h a d)
means_map (m_err {f = e} w) h f = m_err (f e.code e.at w)

-- a rule without operands of its own
pub itself : {A : Type 0} (r : Answer A) → Means (λ a. r ≡ Ok a) (λ c p. IsRefusal r c p) r
itself (Ok a) = m_ok refl
itself (Err f) = m_err refl

-- a rule that comes last
pub means_last : {A : Type 0} {E : A → Type 0} {G : Code → Place → Type 0} (r : Answer A) → ((a : A) → r ≡ Ok a → E a)
    → ((c : Code) (p : Place) → IsRefusal r c p → G c p) → Means E G r
means_last (Ok a) h f = m_ok (h a refl)
means_last (Err e) h f = m_err (f e.code e.at refl)

-- ---- and back

ok_one : {A : Type 0} {a b : A} → ◌≡◌ {A = Answer A} (Ok a) (Ok b) → a ≡ b
ok_one e = cc

err_one : {A : Type 0} {f g : Refusal} → ◌≡◌ {A = Answer A} (Err f) (Err g) → f ≡ g
err_one e = cc

pub means_ok : {A : Type 0} {D : A → Type 0} {F : Code → Place → Type 0} {r : Answer A} {a : A} → Means D F r → r ≡ Ok a → D a
means_ok {D = D} (m_ok d) e = subst D (ok_one e) d
means_ok (m_err w) e = cc

pub means_err : {A : Type 0} {D : A → Type 0} {F : Code → Place → Type 0} {r : Answer A} {c : Code} {p : Place} → Means D F r → IsRefusal r c p → F c p
means_err (m_ok d) e = cc
means_err {A = A} {F = F} (m_err w) e = subst (λ (g : Refusal). F g.code g.at) (err_one {A = A} e) w

-- what is bound to an answer that is known
pub bind_ok : {A B : Type 0} {r : Answer A} {a : A} {s : Answer B} (go : A → Answer B) → r ≡ Ok a → go a ≡ s → and_then r go ≡ s
bind_ok go e h = ap (λ r. and_then r go) e ∙ h

pub bind_err : {A B : Type 0} {r : Answer A} {c : Code} {p : Place} (go : A → Answer B) → IsRefusal r c p → IsRefusal (and_then r go) c p
bind_err go e = ap (λ r. and_then r go) e
