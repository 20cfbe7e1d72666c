-- Parameters of two heads, side by side, and results that are texts.
use Rattle.std.proofs.Common.{◌≡◌, suc, List, [], ◌∷◌, length, refl, sym, ap, ap₂, ◌∙◌, Some, None, arith}
use Rattle.std.specs.Prelude.{map, Bool, true, false, not, ◌&&◌, Option, nat_eq}
use Rattle.std.proofs.lemmas.Bool.{both_ways, eqb-true, false_from_ne_true}
use Rattle.nim_types.specs.Types as type
use Rattle.nim_types.specs.Types.{Ty, same}
use Rattle.nim_types.specs.Table.{type_at}
use Rattle.expr_parts.specs.declared.scope.Parameter.{Parameter as RustParameter}
use Rattle.expr_parts.specs.View.{parameter_of}
use Rattle.expr_rules.specs.Env.{Parameter}
use Rattle.decl_rules.specs.Heads.{same_types, is_shower, is_var}
use Rattle.decl_parts.specs.View.{is_text_type}

-- ---- side by side

pub types_on : (ts : List Ty) (p q : RustParameter) (ps qs left right : List RustParameter) (b : Bool) → left ≡ p ∷ ps → right ≡ q ∷ qs
    → same (type_at ts p.ty) (type_at ts q.ty) ≡ b
    → same_types (map (parameter_of ts) left) (map (parameter_of ts) right) ≡ (b && same_types (map (parameter_of ts) ps) (map (parameter_of ts) qs))
types_on ts p q ps qs left right b l r e =
    ap₂ (λ (x y : List RustParameter). same_types (map (parameter_of ts) x) (map (parameter_of ts) y)) l r
    ∙ ap (λ (k : Bool). k && same_types (map (parameter_of ts) ps) (map (parameter_of ts) qs)) e

-- the second list is at its end
pub types_off : (ts : List Ty) (p : RustParameter) (ps left right : List RustParameter) → left ≡ p ∷ ps → right ≡ []
    → same_types (map (parameter_of ts) left) (map (parameter_of ts) right) ≡ false
types_off ts p ps left right l r = ap₂ (λ (x y : List RustParameter). same_types (map (parameter_of ts) x) (map (parameter_of ts) y)) l r

-- the first is
types_end : (ts : List Ty) (qs : List RustParameter) → same_types [] (map (parameter_of ts) qs) ≡ nat_eq (length qs) 0
types_end ts [] = refl
types_end ts (q ∷ qs) = sym (false_from_ne_true (nat_eq (suc (length qs)) 0) (λ e. let z = eqb-true (suc (length qs)) 0 e in omega (arith, z)))

pub types_last : (ts : List Ty) (left right : List RustParameter) → left ≡ []
    → same_types (map (parameter_of ts) left) (map (parameter_of ts) right) ≡ nat_eq (length right) 0
types_last ts left right l = ap (λ (x : List RustParameter). same_types (map (parameter_of ts) x) (map (parameter_of ts) right)) l ∙ types_end ts right

-- ---- texts

pub text_is : (t : Ty) → is_text_type (Some t) ≡ same type.text t
text_is type.int = refl
text_is type.bool = refl
text_is type.char = refl
text_is type.text = refl
text_is (type.sequence of) = refl
text_is (type.array length of) = refl
text_is (type.tuple names parts) = refl
text_is (type.parameter number) = refl
text_is (type.enum key) = refl
text_is (type.object key arguments) = refl
text_is (type.distinct key) = refl
text_is (type.ref name to) = refl
text_is (type.exception key) = refl

pub shower_by : (p : Parameter) (gives : Option Ty) → is_text_type gives ≡ true → is_shower (p ∷ []) gives ≡ not (is_var p.mode)
shower_by p None e = absurd (both_ways false refl e)
shower_by p (Some type.text) e = refl
shower_by p (Some _) e = absurd (both_ways false refl e)

pub shower_not : (p : Parameter) (gives : Option Ty) → is_text_type gives ≡ false → is_shower (p ∷ []) gives ≡ false
shower_not p None e = refl
shower_not p (Some type.text) e = absurd (both_ways true e refl)
shower_not p (Some _) e = refl

pub shower_many : (p q : Parameter) (ps : List Parameter) (gives : Option Ty) → is_shower (p ∷ q ∷ ps) gives ≡ false
shower_many p q ps None = refl
shower_many p q ps (Some t) = refl

pub shower_none : (gives : Option Ty) → is_shower [] gives ≡ false
shower_none None = refl
shower_none (Some t) = refl
