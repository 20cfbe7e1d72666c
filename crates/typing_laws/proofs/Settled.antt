-- Operands that are settled: values of the type that is asked for.
use Rattle.std.proofs.Common.{◌≡◌, Bool, true, false, List, [], ◌∷◌, Some, refl, sym, ap, subst}
use Rattle.std.specs.Prelude.{◌⊎◌}
use Rattle.nim_types.specs.Types as type
use Rattle.nim_types.specs.Types.{Ty, same}
use Rattle.nim_program.specs.Scopes.{Here}
use Rattle.expr_rules.specs.Answers.{Valued, Operand, value, open_sequence, a_type, the_input, only_if, settled}
use Rattle.expr_rules.specs.Overloads.{IsSettled, by_type, by_place}
use Rattle.expr_rules.specs.Meant.{IsSettledIn, first_type, later_type}
use Rattle.typing_laws.specs.Sound.{Sound, of_sequence}
use Rattle.typing_laws.proofs.Tests.{the_same, some_one, none_some}
use Rattle.typing_laws.proofs.Right.{RightValue, RightOperand, none_right}

sequence_of : {facts : type.Facts} {t : Ty} → Sound facts (type.sequence t) → Sound facts t
sequence_of (of_sequence h) = h

pub settled_right : (here : Here) {ty : Ty} {o : Operand} {v : Valued} → Sound here.facts ty → RightOperand here o → IsSettled ty o v
    → RightValue here v × (v.of ≡ ty)
settled_right here s h (by_type e) = (h, sym (the_same e))
settled_right here s h (by_place {ty = ty} {at = at} {n = n}) = (none_right here at n ty (sequence_of s), refl)

-- the same of what is computed
pub is_settled : (ty : Ty) (o : Operand) (v : Valued) → settled ty o ≡ Some v → IsSettled ty o v
is_settled ty (value w) v e = by_test (same ty w.of) refl e
  where
    by_test : (b : Bool) → same ty w.of ≡ b → only_if b w ≡ Some v → IsSettled ty (value w) v
    by_test true f e = subst (λ v. IsSettled ty (value w) v) (some_one e) (by_type f)
    by_test false f e = none_some e
is_settled (type.sequence t) (open_sequence at n) v e = subst (λ v. IsSettled (type.sequence t) (open_sequence at n) v) (some_one e) by_place
is_settled ty (open_sequence at n) v e = none_some e
is_settled ty (a_type t) v e = none_some e
is_settled ty the_input v e = none_some e

pub settles : {ty : Ty} {o : Operand} {v : Valued} → IsSettled ty o v → settled ty o ≡ Some v
settles {v = v} (by_type e) = ap (λ b. only_if b v) e
settles by_place = refl

-- ---- as a value of one of several types

abbrev pub AllOf : (Ty → Type 0) → List Ty → Type 0
AllOf holds [] = Unit {0}
AllOf holds (t ∷ ts) = holds t × AllOf holds ts

abbrev pub OneOf : (Ty → Type 0) → List Ty → Type 0
OneOf holds [] = ⊥
OneOf holds (t ∷ ts) = holds t ⊎ OneOf holds ts

pub settled_in_right : (here : Here) (holds : Ty → Type 0) {tys : List Ty} {o : Operand} {v : Valued} → AllOf (λ t. Sound here.facts t × holds t) tys
    → RightOperand here o → IsSettledIn tys o v → RightValue here v × holds v.of
settled_in_right here holds all h (first_type s) =
    let q = settled_right here all.0.0 h s in (q.0, subst holds (sym q.1) all.0.1)
settled_in_right here holds all h (later_type other s) = settled_in_right here holds all.1 h s
