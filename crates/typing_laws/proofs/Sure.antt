-- Answers whose value has a property.
use Rattle.std.proofs.Common.{◌≡◌, Bool, true, false, Option, Some, None, refl, subst}
use Rattle.std.specs.Prelude.{Ok, Err, if◌then◌else◌}
use Rattle.arc_base.specs.Refusal.{Refusal, and_then}
use Rattle.expr_rules.specs.Answers.{Answer}
use Rattle.typing_laws.proofs.Tests.{ok_one, some_one, none_some}

pub data Sure {A : Type 0} (P : A → Type 0) : Answer A → Type 0 where
  s_ok : {a : A} → P a → Sure P (Ok a)
  s_err : {f : Refusal} → Sure P (Err f)

pub sure_ok : {A : Type 0} {P : A → Type 0} {r : Answer A} {a : A} → Sure P r → r ≡ Ok a → P a
sure_ok {P = P} (s_ok h) e = subst P (ok_one e) h
sure_ok s_err e = cc

pub sure_then : {A B : Type 0} {P : A → Type 0} {Q : B → Type 0} {r : Answer A} {go : A → Answer B} → Sure P r → ((a : A) → P a → Sure Q (go a))
    → Sure Q (and_then r go)
sure_then (s_ok {a = a} h) f = f a h
sure_then s_err f = s_err

-- what it is
pub sure_itself : {A : Type 0} (r : Answer A) → Sure (λ a. r ≡ Ok a) r
sure_itself (Ok a) = s_ok refl
sure_itself (Err f) = s_err

pub sure_if : {A : Type 0} {P : A → Type 0} {a c : Answer A} (b : Bool) → (b ≡ true → Sure P a) → (b ≡ false → Sure P c) → Sure P (if b then a else c)
sure_if true h f = h refl
sure_if false h f = f refl

-- the same of what may be there
pub data There {A : Type 0} (P : A → Type 0) : Option A → Type 0 where
  is_there : {a : A} → P a → There P (Some a)
  not_there : There P None

pub there : {A : Type 0} {P : A → Type 0} {o : Option A} {a : A} → There P o → o ≡ Some a → P a
there {P = P} (is_there h) e = subst P (some_one e) h
there not_there e = none_some e
