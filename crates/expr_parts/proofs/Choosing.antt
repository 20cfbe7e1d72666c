-- Which of the procedures of a name fits.
use Rattle.std.proofs.Common.{◌≡◌, ℕ, zero, suc, ◌+◌, ◌≤◌, List, [], ◌∷◌, ◌++◌, length, refl, sym, ap, ap₂, ◌∙◌, subst}
use Rattle.std.proofs.Common.{Some, None, take, arith}
use Rattle.std.specs.Prelude.{Bool, true, false, ◌&&◌, is_some, map, Option, slice_get, if◌then◌else◌}
use Rattle.std.proofs.lemmas.Bool.{both_ways}
use Rattle.std.proofs.lemmas.Option.{none-some, same_Some}
use Rattle.nim_types.specs.declared.types.TypeDef.{TypeDef}
use Rattle.nim_types.specs.Types.{Ty, same_text}
use Rattle.expr_parts.specs.declared.scope.Parameter.{Parameter as RustParameter}
use Rattle.expr_parts.specs.declared.scope.Procedure.{Procedure as RustProcedure}
use Rattle.expr_parts.specs.declared.scope.What.TheVariants as what
use Rattle.expr_parts.specs.declared.scope.Decl.{Decl}
use Rattle.expr_parts.specs.declared.calls.Chosen.{Chosen}
use Rattle.expr_parts.specs.declared.calls.Chosen.TheVariants as chosen
use Rattle.expr_parts.specs.declared.value.Operand.{Operand as RustOperand}
use Rattle.expr_rules.specs.Answers.{Valued, Operand, settled}
use Rattle.expr_rules.specs.Env.{Entry, Parameter, Procedure, Known, known_next, known_behind, name_in}
use Rattle.expr_rules.specs.Calls.{Fit, onto, arguments_for, if_fits, fitting}
use Rattle.expr_parts.specs.View.{operand_of, parameter_of, DeclsWithin, WhatWithin, is_of, do_fit, WhatFits, DeclFits, ChosenFits, one_more}

some_onto : (p : Parameter) (a : Option Valued) (b : Option (List (Parameter × Valued))) → is_some (onto p a b) ≡ is_some a && is_some b
some_onto p (Some v) (Some rest) = refl
some_onto p (Some v) None = refl
some_onto p None (Some rest) = refl
some_onto p None None = refl

pub both_fit : (ts : List Ty) (p : RustParameter) (ps : List RustParameter) (o : RustOperand) (os : List RustOperand) (params : List RustParameter)
    (operands : List RustOperand) (a b : Bool) → params ≡ p ∷ ps → operands ≡ o ∷ os
    → is_some (settled (parameter_of ts p).of (operand_of ts o)) ≡ a
    → is_some (arguments_for (map (parameter_of ts) ps) (map (operand_of ts) os)) ≡ b
    → is_some (arguments_for (map (parameter_of ts) params) (map (operand_of ts) operands)) ≡ a && b
both_fit ts p ps o os params operands a b is are h k =
    ap₂ (λ x y. is_some (arguments_for (map (parameter_of ts) x) (map (operand_of ts) y))) is are
    ∙ some_onto (parameter_of ts p) (settled (parameter_of ts p).of (operand_of ts o)) (arguments_for (map (parameter_of ts) ps)
    (map (operand_of ts) os)) ∙ ap₂ (λ x y. x && y) h k

-- ---- operands that fit, by numbers

both_true : (a b : Bool) → a && b ≡ true → (a ≡ true) × (b ≡ true)
both_true true true h = (refl, refl)
both_true true false h = absurd (both_ways false refl h)
both_true false b h = absurd (both_ways false refl h)

-- a first operand of several that fit
pub fit_first : (ds : List TypeDef) (params : List RustParameter) (operands : List RustOperand) (p : RustParameter) (ps : List RustParameter)
    (o : RustOperand) (os : List RustOperand) → params ≡ p ∷ ps → operands ≡ o ∷ os → do_fit ds params operands ≡ true
    → (is_of ds p.ty o ≡ true) × (do_fit ds ps os ≡ true)
fit_first ds params operands p ps o os is are h = both_true (is_of ds p.ty o) (do_fit ds ps os) (sym (ap₂ (do_fit ds) is are) ∙ h)

-- no operand is left over
pub fit_none : (ds : List TypeDef) (params : List RustParameter) (operands : List RustOperand) (o : RustOperand) (os : List RustOperand)
    → params ≡ [] → operands ≡ o ∷ os → do_fit ds params operands ≡ true → ⊥
fit_none ds params operands o os is are h = both_ways false refl (sym (ap₂ (do_fit ds) is are) ∙ h)

-- ---- the one that fits

pub fits_further : (ds : List TypeDef) (decls : List Decl) (os : List RustOperand) (i : ℕ) (d : Decl) (p : RustProcedure) (c : Chosen) (fits : Bool)
    → slice_get decls i ≡ Some d → d.what ≡ what.Procedure p → do_fit ds p.params os ≡ fits → ChosenFits ds decls os c
    → ChosenFits ds decls os (if fits then one_more i c else c)
fits_further ds decls os i d p c false at w h k = k
fits_further ds decls os i d p chosen.Nothing true at w h k = subst (DeclFits ds os) (sym at) (subst (WhatFits ds os) (sym w) h)
fits_further ds decls os i d p (chosen.One j) true at w h k = tt
fits_further ds decls os i d p chosen.Several true at w h k = tt

fits_before : (p : Procedure) (o : Option (List (Parameter × Valued))) (xs ys : List Fit) → if_fits p o (xs ++ ys) ≡ if_fits p o xs ++ ys
fits_before p None xs ys = refl
fits_before p (Some arguments) xs ys = refl

pub one_further : (ps : List Procedure) (p : Procedure) (os : List Operand)
    → fitting (ps ++ p ∷ []) os ≡ fitting ps os ++ if_fits p (arguments_for p.params os) []
one_further [] p os = refl
one_further (q ∷ ps) p os =
    ap (if_fits q (arguments_for q.params os)) (one_further ps p os) ∙
    fits_before q (arguments_for q.params os) (fitting ps os) (if_fits p (arguments_for p.params os) [])

pub known_last : (before : Known) (x : List ℕ) (es : List Entry) (e : Entry) (b : Bool) → same_text x (name_in e) ≡ b
    → known_behind before x (es ++ e ∷ []) ≡ (if b then known_next (known_behind before x es) e else known_behind before x es)
known_last before x [] e b h = ap (λ (z : Bool). if z then known_next before e else before) h
known_last before x (f ∷ es) e b h = known_last (if same_text x (name_in f) then known_next before f else before) x es e b h

-- ---- lists

pub take_next : {X : Type 0} (xs : List X) (i : ℕ) (x : X) → slice_get xs i ≡ Some x → take (suc i) xs ≡ take i xs ++ x ∷ []
take_next [] i x h = absurd (none-some x h)
take_next (y ∷ xs) zero x h = ap (λ z. z ∷ []) (same_Some y x h)
take_next (y ∷ xs) (suc i) x h = ap (λ z. y ∷ z) (take_next xs i x h)

pub take_one : {X : Type 0} (xs : List X) (i : ℕ) (x : X) → slice_get xs i ≡ Some x → take (i + 1) xs ≡ take i xs ++ x ∷ []
take_one xs i x h = let n : i + 1 ≡ suc i = omega arith in ap (λ k. take k xs) n ∙ take_next xs i x h

pub take_all : {X : Type 0} (xs : List X) (i : ℕ) → length xs ≤ i → take i xs ≡ xs
take_all [] zero h = refl
take_all [] (suc i) h = refl
take_all (x ∷ xs) zero h = absurd (omega (arith, h))
take_all (x ∷ xs) (suc i) h = ap (λ z. x ∷ z) (take_all xs i (omega (arith, h)))

pub map_last : {X Y : Type 0} (f : X → Y) (xs : List X) (x : X) → map f (xs ++ x ∷ []) ≡ map f xs ++ f x ∷ []
map_last f [] x = refl
map_last f (y ∷ xs) x = ap (λ z. f y ∷ z) (map_last f xs x)

pub what_within : (n : ℕ) (ds : List Decl) (i : ℕ) (d : Decl) → slice_get ds i ≡ Some d → DeclsWithin n ds → WhatWithin n d.what
what_within n [] i d e h = absurd (none-some d e)
what_within n (x ∷ ds) zero d e h = subst (λ z. WhatWithin n z.what) (same_Some x d e) h.0
what_within n (x ∷ ds) (suc i) d e h = what_within n ds i d e h.1
