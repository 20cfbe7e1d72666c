-- Tests, and what is there.
use Rattle.std.proofs.Common.{◌≡◌, Bool, true, false, Option, Some, None, refl, sym, subst}
use Rattle.std.specs.Prelude.{◌&&◌, Ok}
use Rattle.std.proofs.lemmas.Bool.{both_ways, and_from}
use Rattle.nim_types.specs.Types.{Ty, same}
use Rattle.nim_types.proofs.ForCallers.{same_sound, same_refl}
use Rattle.nim_program.specs.Kinds.{is_of, same_value}
use Rattle.expr_rules.specs.Answers.{Answer}

pub never : {A : Type 0} → false ≡ true → A
never e = absurd (both_ways false refl e)

pub ever : {A : Type 0} → true ≡ false → A
ever e = absurd (both_ways true e refl)

pub both : {x y : Bool} → x ≡ true → y ≡ true → (x && y) ≡ true
both {x} {y} e f = and_from x y e f

pub some_one : {A : Type 0} {a b : A} → Some a ≡ Some b → a ≡ b
some_one e = cc

pub none_some : {A B : Type 0} {a : A} → None ≡ Some a → B
none_some e = cc

pub some_none : {A B : Type 0} {a : A} → Some a ≡ None → B
some_none e = cc

pub ok_one : {A : Type 0} {a b : A} → ◌≡◌ {A = Answer A} (Ok a) (Ok b) → a ≡ b
ok_one e = cc

-- equal types
pub the_same : {s t : Ty} → same s t ≡ true → s ≡ t
the_same {s} {t} e = same_sound s t e

pub same_by : {s t : Ty} → s ≡ t → same s t ≡ true
same_by {s} {t} e = subst (λ u. same s u ≡ true) e (same_refl s)

pub is_by : {s t : Option Ty} {ty : Ty} → s ≡ Some ty → t ≡ Some ty → is_of s t ≡ true
is_by {s} {t} {ty} e f =
    subst (λ o. is_of o t ≡ true) (sym e) (subst (λ o. is_of (Some ty) o ≡ true) (sym f) (same_refl ty))

pub value_by_same : (s t : Option Ty) → s ≡ t → same_value s t ≡ true
value_by_same None t e = subst (λ o. same_value None o ≡ true) e refl
value_by_same (Some ty) t e = subst (λ o. same_value (Some ty) o ≡ true) e (same_refl ty)
