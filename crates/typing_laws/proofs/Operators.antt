-- Operators between and before operands.
use Rattle.std.proofs.Common.{◌≡◌, ℕ, Bool, true, false, [], ◌∷◌, Option, Some, None, refl, sym, ap, subst}
use Rattle.std.specs.Prelude.{◌&&◌, if◌then◌else◌}
use Rattle.std.proofs.lemmas.Bool.{and_parts}
use Rattle.arc_base.specs.declared.place.Place.{Place}
use Rattle.nim_tree.specs.declared.expr.UnaryOp.{UnaryOp}
use Rattle.nim_tree.specs.declared.expr.UnaryOp.TheVariants as unary_sign
use Rattle.nim_tree.specs.declared.expr.BinaryOp.{BinaryOp}
use Rattle.nim_tree.specs.declared.expr.BinaryOp.TheVariants as sign
use Rattle.nim_types.specs.Types as type
use Rattle.nim_types.specs.Types.{Ty, Facts, same}
use Rattle.nim_types.proofs.ForCallers.{same_refl}
use Rattle.nim_program.specs.declared.operation.UnaryOperator.{UnaryOperator}
use Rattle.nim_program.specs.declared.operation.Operator.{Operator}
use Rattle.nim_program.specs.declared.operation.Operator.TheVariants as operator
use Rattle.nim_program.specs.declared.operation.Comparison.{Comparison}
use Rattle.nim_program.specs.declared.operation.Comparison.TheVariants as comparison
use Rattle.nim_program.specs.declared.operation.Operation.TheVariants as O
use Rattle.nim_program.specs.declared.operation.Short.{Short}
use Rattle.nim_program.specs.declared.operation.Short.TheVariants as short
use Rattle.nim_program.specs.Program as P
use Rattle.nim_program.specs.Program.{Expr}
use Rattle.nim_program.specs.Kinds.{kind_of, plain_kind}
use Rattle.nim_program.specs.Fitting.{unary_takes, fits, places_in}
use Rattle.nim_program.specs.Scopes.{Here}
use Rattle.expr_rules.specs.Builtins.{is_shown}
use Rattle.expr_rules.specs.Answers.{node, Valued}
use Rattle.expr_rules.specs.Operators.{unary_of, unary_by, unary_rule, Meaning, does, stops_early, means_nothing, of_ints, of_bits, of_texts, of_equals}
use Rattle.expr_rules.specs.Operators.{meaning_of}
use Rattle.typing_laws.specs.Sound.{Sound, AreSound, of_int, of_bool, of_text}
use Rattle.typing_laws.proofs.Tests.{both, some_one, none_some, is_by}
use Rattle.typing_laws.proofs.SoundKinds.{plainly_selected, compared_by}
use Rattle.typing_laws.proofs.Right.{Right, RightValue, on_one}
use Rattle.typing_laws.proofs.Sure.{Sure, s_ok, s_err}

-- ---- before an operand

unary_row : (facts : Facts) (op : UnaryOp) (ty : Ty) (o : UnaryOperator) → unary_of op ty ≡ Some o → unary_takes o (kind_of facts ty) ≡ true
unary_row facts unary_sign.Minus type.int o e = subst (λ o. unary_takes o (kind_of facts type.int) ≡ true) (some_one e) refl
unary_row facts unary_sign.Plus type.int o e = subst (λ o. unary_takes o (kind_of facts type.int) ≡ true) (some_one e) refl
unary_row facts unary_sign.Not type.int o e = subst (λ o. unary_takes o (kind_of facts type.int) ≡ true) (some_one e) refl
unary_row facts unary_sign.Not type.bool o e = subst (λ o. unary_takes o (kind_of facts type.bool) ≡ true) (some_one e) refl
unary_row facts op ty o e = none_some e

pub unary_right : (here : Here) (n : ℕ) (at : Place) (op : UnaryOp) (v : Valued) → RightValue here v → Sure (Right here) (unary_rule n at op v)
unary_right here n at op v h = by_operator (unary_of op v.of) refl
  where
    by_operator : (o : Option UnaryOperator) → unary_of op v.of ≡ o → Sure (Right here) (unary_by n at o v)
    by_operator None e = s_err
    by_operator (Some o) e =
        s_ok (on_one here (node n at) (Some v.of) (O.Unary o) v h (both (unary_row here.facts op v.of o e) (same_refl v.of)) refl h.sound)

-- ---- between operands

-- what it means fits operands of these types
abbrev pub MeaningFits : Facts → (s t : Ty) → Meaning → Type 0
MeaningFits facts s t (does o ty) = (fits facts o (Some ty) (Some s ∷ Some t ∷ []) ≡ true) × (places_in o ≡ 0) × Sound facts ty
MeaningFits facts s t (stops_early short) = (s ≡ type.bool) × (t ≡ type.bool)
MeaningFits facts s t means_nothing = Unit {0}

ints_fit : (facts : Facts) (o : Operator) (s t : Ty) → MeaningFits facts s t (of_ints o s t)
ints_fit facts o type.int type.int = (refl, refl, of_int)
ints_fit facts o s t = tt

bits_fit : (facts : Facts) (o : Operator) (logic : Meaning) (s t : Ty) → MeaningFits facts type.bool type.bool logic
    → MeaningFits facts s t (of_bits o logic s t)
bits_fit facts o logic type.int type.int h = (refl, refl, of_int)
bits_fit facts o logic type.bool type.bool h = h
bits_fit facts o logic s t h = tt

texts_fit : (facts : Facts) (s t : Ty) → MeaningFits facts s t (of_texts s t)
texts_fit facts type.text type.text = (refl, refl, of_text)
texts_fit facts type.text type.char = (refl, refl, of_text)
texts_fit facts type.char type.text = (refl, refl, of_text)
texts_fit facts type.char type.char = (refl, refl, of_text)
texts_fit facts s t = tt

equals_fit : (facts : Facts) → AreSound facts → (c : Comparison) (s t : Ty) → Sound facts s → MeaningFits facts s t (of_equals c s t)
equals_fit facts sound c s t h = by_test (same s t && is_shown s) refl
  where
    by_test : (b : Bool) → (same s t && is_shown s) ≡ b → MeaningFits facts s t (if b then does (O.Compare c) type.bool else means_nothing)
    by_test true e =
        let q = and_parts (same s t) (is_shown s) e in (both q.0 (compared_by c (plain_kind facts s) (plainly_selected sound h q.1)), refl, of_bool)
    by_test false e = tt

pub meaning_fits : (facts : Facts) → AreSound facts → (op : BinaryOp) (s t : Ty) → Sound facts s → MeaningFits facts s t (meaning_of op s t)
meaning_fits facts sound sign.Plus s t h = ints_fit facts operator.Add s t
meaning_fits facts sound sign.Minus s t h = ints_fit facts operator.Subtract s t
meaning_fits facts sound sign.Times s t h = ints_fit facts operator.Multiply s t
meaning_fits facts sound sign.Div s t h = ints_fit facts operator.Divide s t
meaning_fits facts sound sign.Mod s t h = ints_fit facts operator.Modulo s t
meaning_fits facts sound sign.Shl s t h = ints_fit facts operator.ShiftLeft s t
meaning_fits facts sound sign.Shr s t h = ints_fit facts operator.ShiftRight s t
meaning_fits facts sound sign.And s t h = bits_fit facts operator.BitAnd (stops_early short.And) s t (refl, refl)
meaning_fits facts sound sign.Or s t h = bits_fit facts operator.BitOr (stops_early short.Or) s t (refl, refl)
meaning_fits facts sound sign.Xor s t h = bits_fit facts operator.BitXor (does (O.Binary operator.BitXor) type.bool) s t (refl, refl, of_bool)
meaning_fits facts sound sign.Join s t h = texts_fit facts s t
meaning_fits facts sound sign.Equal s t h = equals_fit facts sound comparison.Equal s t h
meaning_fits facts sound sign.Unequal s t h = equals_fit facts sound comparison.Unequal s t h
meaning_fits facts sound sign.Less s t h = equals_fit facts sound comparison.Less s t h
meaning_fits facts sound sign.AtMost s t h = equals_fit facts sound comparison.AtMost s t h
meaning_fits facts sound sign.Greater s t h = equals_fit facts sound comparison.Greater s t h
meaning_fits facts sound sign.AtLeast s t h = equals_fit facts sound comparison.AtLeast s t h

pub early_right : (here : Here) (n : ℕ) (at : Place) (s : Short) (v w : Valued) → RightValue here v → RightValue here w → v.of ≡ type.bool
    → w.of ≡ type.bool → Right here (P.Early (node n at) type.bool s v.expr w.expr)
early_right here n at s v w h k e f =
    record {
      typed = both (both (is_by h.gives (ap (λ t. Some t) (sym e))) (is_by k.gives (ap (λ t. Some t) (sym f)))) (both h.typed k.typed);
      sound = of_bool;
    }
