-- Labels of a `case`.
use Rattle.std.proofs.Common.{◌≡◌, ℕ, Bool, true, false, List, [], ◌∷◌, ◌++◌, Some, refl, sym, ap, subst, ◌∙◌, append_assoc}
use Rattle.std.specs.Prelude.{ℤ, ◌&&◌, int_le, if◌then◌else◌, Ok}
use Rattle.std.proofs.lemmas.Bool.{and_parts}
use Rattle.arc_base.specs.declared.place.Place.{Place}
use Rattle.arc_base.specs.Refusal.{and_then}
use Rattle.nim_tree.specs.Terms.{Choices}
use Rattle.nim_types.specs.Types as type
use Rattle.nim_types.specs.Types.{Ty, Fact, Facts, fact_of, same}
use Rattle.nim_program.specs.Program as P
use Rattle.nim_program.specs.Program.{Label, Ordinals, Exactly, Literal, Number, Characters, Expr, type_of}
use Rattle.nim_program.specs.Ints.{fits}
use Rattle.nim_program.specs.Kinds as kind
use Rattle.nim_program.specs.Kinds.{TypeKind, declared_kind, kind_of, plain_kind, is_ordinal, is_text, is_among, is_value, is_constant}
use Rattle.nim_program.specs.Fitting.{label_fits, joined}
use Rattle.expr_rules.specs.Env.{Env}
use Rattle.expr_rules.specs.Answers.{Valued, place_in, not_typed}
use Rattle.expr_rules.specs.Constants.{Evaluated, comes_to, traps, varies, value_in, if_comes, constant_rule}
use Rattle.expr_rules.specs.Choices.{Branching, Picked, label_by, label_value, range_of}
use Rattle.expr_rules.specs.Demands.{is_selector}
use Rattle.expr_rules.specs.Rules.{ArePicks, k_none, k_more}
use Rattle.typing_laws.specs.Sound.{Sound, AreSound, of_int, of_bool, of_char, of_text, of_sequence, of_array, of_tuple, of_enum, of_object, of_distinct}
use Rattle.typing_laws.proofs.Tests.{both, never, ok_one, the_same}
use Rattle.typing_laws.proofs.SoundKinds.{plain_as}

-- a declared type is of one kind, wherever more is said
pub kept_kind : (facts own : Facts) → ((ty : Ty) (fact : Fact) → fact_of own ty ≡ Some fact → fact_of facts ty ≡ Some fact) → {ty : Ty} → Sound own ty
    → kind_of facts ty ≡ kind_of own ty
kept_kind facts own said of_int = refl
kept_kind facts own said of_bool = refl
kept_kind facts own said of_char = refl
kept_kind facts own said of_text = refl
kept_kind facts own said (of_sequence h) = refl
kept_kind facts own said (of_array l h) = refl
kept_kind facts own said (of_tuple h) = refl
kept_kind facts own said (of_enum f) = ap declared_kind (said _ _ f) ∙ sym (ap declared_kind f)
kept_kind facts own said (of_object f) = ap declared_kind (said _ _ f) ∙ sym (ap declared_kind f)
kept_kind facts own said (of_distinct f) = ap declared_kind (said _ _ f) ∙ sym (ap declared_kind f)

-- ---- a constant of a type that selects

number_fits : (k : TypeKind) (z : ℤ) → is_ordinal k ≡ true → is_value k z ≡ true → label_fits k (Ordinals z z) ≡ true
number_fits k z o h = let f = (and_parts (fits z) (is_among k z) h).0 in both o (both f f)

by_literal : (k : TypeKind) (at : Place) (l : Literal) (label : Label) → label_by at l ≡ Ok label
    → ((z : ℤ) → l ≡ Number z → label_fits k (Ordinals z z) ≡ true) → ((bytes : List ℕ) → l ≡ Characters bytes → is_text k ≡ true)
    → label_fits k label ≡ true
by_literal k at (Number z) label e n c = subst (λ l. label_fits k l ≡ true) (ok_one e) (n z refl)
by_literal k at (Characters bytes) label e n c = subst (λ l. label_fits k l ≡ true) (ok_one e) (c bytes refl)
by_literal k at P.NoObject label e n c = cc
by_literal k at (P.PartsOf all) label e n c = cc
by_literal k at (P.ElementsOf all) label e n c = cc

of_ordinal : (own : Facts) (ty : Ty) (k : TypeKind) (at : Place) (l : Literal) (label : Label) → plain_kind own ty ≡ k → is_ordinal k ≡ true
    → is_text k ≡ false → is_constant own ty l ≡ true → label_by at l ≡ Ok label → label_fits k label ≡ true
of_ordinal own ty k at l label p o t c e =
    by_literal k at l label e
    (λ z is. number_fits k z o (subst (λ k. is_value k z ≡ true) p (subst (λ l. is_constant own ty l ≡ true) is c)))
    (λ bytes is. absurd (wrong (sym t ∙ subst (λ k. is_text k ≡ true) p (subst (λ l. is_constant own ty l ≡ true) is c))))
  where
    wrong : false ≡ true → ⊥
    wrong e = never e

pub label_right : (own : Facts) → AreSound own → (ty : Ty) → Sound own ty → is_selector ty ≡ true → (at : Place) (l : Literal) (label : Label)
    → is_constant own ty l ≡ true → label_by at l ≡ Ok label → label_fits (kind_of own ty) label ≡ true
label_right own sound ty of_int s at l label c e = of_ordinal own type.int kind.int at l label (plain_as sound of_int refl) refl refl c e
label_right own sound ty of_bool s at l label c e = of_ordinal own type.bool kind.bool at l label (plain_as sound of_bool refl) refl refl c e
label_right own sound ty of_char s at l label c e = of_ordinal own type.char kind.char at l label (plain_as sound of_char refl) refl refl c e
label_right own sound ty (of_enum {key = key} f) s at l label c e =
    of_ordinal own (type.enum key) (kind_of own (type.enum key)) at l label (plain_as sound (of_enum f) refl) (ap (λ o. is_ordinal (declared_kind o)) f)
    (ap (λ o. is_text (declared_kind o)) f) c e
label_right own sound ty of_text s at l label c e =
    by_literal kind.text at l label e
    (λ z is. absurd (wrong (fits z) (subst (λ k. is_value k z ≡ true) (plain_as sound of_text refl) (subst (λ l. is_constant own type.text l ≡ true) is c))))
    (λ bytes is. refl)
  where
    wrong : (b : Bool) → (b && false) ≡ true → ⊥
    wrong b e = never (and_parts b false e).1
label_right own sound ty (of_sequence h) s at l label c e = never s
label_right own sound ty (of_array n h) s at l label c e = never s
label_right own sound ty (of_tuple h) s at l label c e = never s
label_right own sound ty (of_object f) s at l label c e = never s
label_right own sound ty (of_distinct f) s at l label c e = never s

-- what the rule of labels says of the value
pub record IsLabelOf (facts : Facts) (ty : Ty) (v : Valued) (label : Label) : Type 0 where
  pub same : ty ≡ v.of
  pub literal : Literal
  pub comes : value_in facts v.expr ≡ comes_to literal
  pub is : label_by (place_in v.expr) literal ≡ Ok label

pub label_of : (facts : Facts) (ty : Ty) (v : Valued) (label : Label) → label_value facts ty v ≡ Ok label → IsLabelOf facts ty v label
label_of facts ty v label h = by_test (same ty v.of) refl h
  where
    by_value : (x : Evaluated Literal) → value_in facts v.expr ≡ x → ty ≡ v.of
        → and_then (if_comes (place_in v.expr) x) (label_by (place_in v.expr)) ≡ Ok label → IsLabelOf facts ty v label
    by_value (comes_to l) e s h = record { same = s; literal = l; comes = e; is = h }
    by_value traps e s h = cc
    by_value varies e s h = cc

    by_test : (b : Bool) → same ty v.of ≡ b
        → (if b then and_then (constant_rule facts v) (label_by (place_in v.expr)) else not_typed (place_in v.expr)) ≡ Ok label
        → IsLabelOf facts ty v label
    by_test true e h = by_value (value_in facts v.expr) refl (the_same e) h
    by_test false e h = cc

-- from one to another
pub range_fits : (k : TypeKind) (at : Place) (low high label : Label) → range_of at low high ≡ Ok label → label_fits k low ≡ true
    → label_fits k high ≡ true → label_fits k label ≡ true
range_fits k at (Ordinals a c) (Ordinals b d) label e f g = by_test (int_le a b) e
  where
    by_test : (t : Bool) → (if t then Ok (Ordinals a b) else not_typed at) ≡ Ok label → label_fits k label ≡ true
    by_test true e =
        let p = and_parts (is_ordinal k) (fits a && fits c) f in
        let q = and_parts (is_ordinal k) (fits b && fits d) g in
        subst (λ l. label_fits k l ≡ true) (ok_one e) (both p.0 (both (and_parts (fits a) (fits c) p.1).0 (and_parts (fits b) (fits d) q.1).0))
    by_test false e = cc
range_fits k at (Ordinals a c) (Exactly t) label e f g = cc
range_fits k at (Exactly t) (Ordinals a c) label e f g = cc
range_fits k at (Exactly s) (Exactly t) label e f g = cc

-- ---- all labels of a `case`

nothing_behind : (xs : List Label) → xs ≡ xs ++ []
nothing_behind [] = refl
nothing_behind (x ∷ xs) = ap (λ xs. x ∷ xs) (nothing_behind xs)

pub picked_labels : {env : Env} {ty : Ty} {before : List Label} {b : Branching} {n : ℕ} {all : Choices} {p : Picked} → ArePicks env ty before b n all p
    → p.labels ≡ before ++ joined p.rows
picked_labels {before = before} k_none = nothing_behind before
picked_labels {before = before} (k_more {ls = ls} {more = more} l h v rest) = picked_labels rest ∙ append_assoc before ls (joined more.rows)
