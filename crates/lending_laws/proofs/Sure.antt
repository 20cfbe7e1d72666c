-- Answers whose value has a property, and what answers are.
use Rattle.std.proofs.Common.{◌≡◌, Bool, true, false, Option, Some, refl, subst}
use Rattle.std.specs.Prelude.{Ok, Err, if◌then◌else◌}
use Rattle.arc_base.specs.Refusal.{Refusal, and_then}
use Rattle.expr_rules.specs.Answers.{Answer}

pub some_one : {A : Type 0} {a b : A} → ◌≡◌ {A = Option A} (Some a) (Some b) → a ≡ b
some_one e = cc

pub ok_one : {A : Type 0} {a b : A} → ◌≡◌ {A = Answer A} (Ok a) (Ok b) → a ≡ b
ok_one e = cc

pub never : {A : Type 0} → ◌≡◌ {A = Bool} false true → A
never e = cc

pub data Sure {A : Type 0} (P : A → Type 0) : Answer A → Type 0 where
  s_ok : {a : A} → P a → Sure P (Ok a)
  s_err : {f : Refusal} → Sure P (Err f)

pub sure_ok : {A : Type 0} {P : A → Type 0} {r : Answer A} {a : A} → Sure P r → r ≡ Ok a → P a
sure_ok {P = P} (s_ok h) e = subst P (ok_one e) h
sure_ok s_err e = cc

pub sure_then : {A B : Type 0} {P : A → Type 0} {Q : B → Type 0} {r : Answer A} {go : A → Answer B} → Sure P r → ((a : A) → P a → Sure Q (go a))
    → Sure Q (and_then r go)
sure_then (s_ok {a = a} h) f = f a h
sure_then s_err f = s_err

pub sure_any : {A : Type 0} (r : Answer A) → Sure (λ a. Unit {0}) r
sure_any (Ok a) = s_ok tt
sure_any (Err f) = s_err

pub sure_as : {A : Type 0} {P Q : A → Type 0} {r : Answer A} → ((a : A) → P a → Q a) → Sure P r → Sure Q r
sure_as f (s_ok {a = a} h) = s_ok (f a h)
sure_as f s_err = s_err

pub sure_if : {A : Type 0} {P : A → Type 0} {a c : Answer A} (b : Bool) → Sure P a → Sure P c → Sure P (if b then a else c)
sure_if true h f = h
sure_if false h f = f

-- the steps of an answer, where there is one
pub record Then {A B : Type 0} (r : Answer A) (go : A → Answer B) (b : B) : Type 0 where
  pub value : A
  pub is : r ≡ Ok value
  pub next : go value ≡ Ok b

pub then_is : {A B : Type 0} (r : Answer A) (go : A → Answer B) (b : B) → and_then r go ≡ Ok b → Then r go b
then_is (Ok a) go b e = record { value = a; is = refl; next = e }
then_is (Err f) go b e = cc
