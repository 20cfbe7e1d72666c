-- Operands as values of a type.
use Rattle.std.proofs.Common.{◌≡◌, ℕ, suc, ◌<◌, ◌++◌, arith, List, [], ◌∷◌, length, refl, sym, subst, ap, ap₂, ◌∙◌, Some, None}
use Rattle.std.specs.Prelude.{Bool, true, false, is_some, Option, option_map, map, Ok}
use Rattle.std.proofs.lemmas.Bool.{both_ways}
use Rattle.arc_base.specs.declared.place.Place.{Place}
use Rattle.nim_types.specs.Types as type
use Rattle.nim_types.specs.Types.{Ty, Fact}
use Rattle.nim_program.specs.Program.{NoArg, ByValue}
use Rattle.nim_program.specs.Nodes as nodes
use Rattle.expr_parts.specs.declared.value.Operand.{Operand as RustOperand}
use Rattle.expr_parts.specs.declared.value.Operand.TheVariants as operand
use Rattle.expr_rules.specs.Answers.{node, Valued, valued, only_if, open_as, no_fit, not_typed, exprs_of, Want}
use Rattle.expr_rules.specs.Constructions.{or_from, empty_rule, empty_object, array_rule, sequence_rule, conversion_rule}
use Rattle.expr_rules.specs.Env.{Env}
use Rattle.nim_types.specs.Table.{type_at}
use Rattle.nim_program.specs.declared.expr.Operand.{Operand as RustArgument}
use Rattle.nim_program.specs.View.{expr_of, operands_of}
use Rattle.expr_parts.specs.declared.value.Value.{Value as RustValue}
use Rattle.expr_rules.specs.Answers.{Operand, value, open_sequence, a_type, the_input}
use Rattle.expr_parts.specs.View.{is_sequence, operand_of, valued_of, no_fit_at, no_fit_by, are_fields, array_by, handed_on, OperandWithin, OperandsWithin}

pub some_only : {A : Type 0} (b : Bool) (x : A) → is_some (only_if b x) ≡ b
some_only true x = refl
some_only false x = refl

pub some_open : (t : Ty) (at : Place) (n : ℕ) → is_some (open_as t at n) ≡ is_sequence t
some_open type.int at n = refl
some_open type.bool at n = refl
some_open type.char at n = refl
some_open type.text at n = refl
some_open (type.sequence of) at n = refl
some_open (type.array k of) at n = refl
some_open (type.tuple names parts) at n = refl
some_open (type.parameter k) at n = refl
some_open (type.enum key) at n = refl
some_open (type.object key arguments) at n = refl
some_open (type.distinct key) at n = refl
some_open (type.ref name to) at n = refl
some_open (type.exception key) at n = refl

pub is_open_as : (ty : Ty) (at : Place) (n : ℕ) → is_sequence ty ≡ true → (v : Valued) → v ≡ valued (nodes.sequence (node n at) ty NoArg) ty →
    Some v ≡ open_as ty at n
is_open_as type.int at n h v e = absurd (both_ways false refl h)
is_open_as type.bool at n h v e = absurd (both_ways false refl h)
is_open_as type.char at n h v e = absurd (both_ways false refl h)
is_open_as type.text at n h v e = absurd (both_ways false refl h)
is_open_as (type.sequence of) at n h v e = ap Some e
is_open_as (type.array k of) at n h v e = absurd (both_ways false refl h)
is_open_as (type.tuple names parts) at n h v e = absurd (both_ways false refl h)
is_open_as (type.parameter k) at n h v e = absurd (both_ways false refl h)
is_open_as (type.enum key) at n h v e = absurd (both_ways false refl h)
is_open_as (type.object key arguments) at n h v e = absurd (both_ways false refl h)
is_open_as (type.distinct key) at n h v e = absurd (both_ways false refl h)
is_open_as (type.ref name to) at n h v e = absurd (both_ways false refl h)
is_open_as (type.exception key) at n h v e = absurd (both_ways false refl h)

pub none_open : (ty : Ty) (at : Place) (n : ℕ) → is_sequence ty ≡ false → None ≡ open_as ty at n
none_open type.int at n h = refl
none_open type.bool at n h = refl
none_open type.char at n h = refl
none_open type.text at n h = refl
none_open (type.sequence of) at n h = absurd (both_ways true h refl)
none_open (type.array k of) at n h = refl
none_open (type.tuple names parts) at n h = refl
none_open (type.parameter k) at n h = refl
none_open (type.enum key) at n h = refl
none_open (type.object key arguments) at n h = refl
none_open (type.distinct key) at n h = refl
none_open (type.ref name to) at n h = refl
none_open (type.exception key) at n h = refl

pub map_only : {A B : Type 0} (f : A → B) (b : Bool) (x : A) → option_map f (only_if b x) ≡ only_if b (f x)
map_only f true x = refl
map_only f false x = refl

pub value_below : (n : ℕ) (o : RustOperand) (v : RustValue) → o ≡ operand.Value v → OperandWithin n o → v.ty < n
value_below n o v e h = subst (OperandWithin n) e h

-- what has no type by itself is named
pub no_fit_is : {A : Type 0} (ts : List Ty) (at : Place) (os : List RustOperand) → no_fit {A = A} at (map (operand_of ts) os) ≡ not_typed (no_fit_at at os)
no_fit_is ts at [] = refl
no_fit_is ts at (operand.Value v ∷ os) = no_fit_is ts at os
no_fit_is ts at (operand.Open p n ∷ os) = refl
no_fit_is ts at (operand.Type id ∷ os) = no_fit_is ts at os
no_fit_is ts at (operand.Input ∷ os) = no_fit_is ts at os

pub first_of_some : (o other : Option Valued) → is_some o ≡ true → or_from o other ≡ o
first_of_some (Some v) other h = refl
first_of_some None other h = absurd (both_ways false refl h)

pub empty_is : (n : ℕ) (at : Place) (ty : Ty) → is_sequence ty ≡ true → empty_rule n at (Some ty) ≡ Ok (nodes.sequence (node n at) ty NoArg)
empty_is n at type.int h = absurd (both_ways false refl h)
empty_is n at type.bool h = absurd (both_ways false refl h)
empty_is n at type.char h = absurd (both_ways false refl h)
empty_is n at type.text h = absurd (both_ways false refl h)
empty_is n at (type.sequence of) h = refl
empty_is n at (type.array k of) h = absurd (both_ways false refl h)
empty_is n at (type.tuple names parts) h = absurd (both_ways false refl h)
empty_is n at (type.parameter k) h = absurd (both_ways false refl h)
empty_is n at (type.enum key) h = absurd (both_ways false refl h)
empty_is n at (type.object key arguments) h = absurd (both_ways false refl h)
empty_is n at (type.distinct key) h = absurd (both_ways false refl h)
empty_is n at (type.ref name to) h = absurd (both_ways false refl h)
empty_is n at (type.exception key) h = absurd (both_ways false refl h)

pub no_fit_one : {A : Type 0} (at : Place) (o : Operand) → no_fit {A = A} at (o ∷ []) ≡ not_typed (no_fit_by at o)
no_fit_one at (value v) = refl
no_fit_one at (open_sequence p n) = refl
no_fit_one at (a_type ty) = refl
no_fit_one at the_input = refl

-- an object without given fields, by whether its fields are known
pub empty_with : (n : ℕ) (at : Place) (ty : Ty) (o : Option Fact) → are_fields o ≡ true → empty_object n at ty o ≡ Ok (nodes.construct (node n at) ty [] NoArg)
empty_with n at ty (Some (type.fields all resource)) h = refl
empty_with n at ty (Some (type.members names)) h = absurd (both_ways false refl h)
empty_with n at ty (Some (type.base t)) h = absurd (both_ways false refl h)
empty_with n at ty (Some (type.below t)) h = absurd (both_ways false refl h)
empty_with n at ty None h = absurd (both_ways false refl h)

pub empty_without : (n : ℕ) (at : Place) (ty : Ty) (o : Option Fact) → are_fields o ≡ false → empty_object n at ty o ≡ not_typed at
empty_without n at ty (Some (type.fields all resource)) h = absurd (both_ways true h refl)
empty_without n at ty (Some (type.members names)) h = refl
empty_without n at ty (Some (type.base t)) h = refl
empty_without n at ty (Some (type.below t)) h = refl
empty_without n at ty None h = refl

-- ---- values in order

pub exprs_are : (ts : List Ty) (vs : List RustValue) → exprs_of (map (valued_of ts) vs) ≡ operands_of ts (map handed_on vs)
exprs_are ts [] = refl
exprs_are ts (v ∷ vs) = ap (ByValue (expr_of ts v.expr)) (exprs_are ts vs)

pub counted : {X Y : Type 0} (f : X → Y) (xs : List X) → length (map f xs) ≡ length xs
counted f [] = refl
counted f (x ∷ xs) = ap suc (counted f xs)

-- an array of the first value's type
pub array_from : (ts : List Ty) (env : Env) (n : ℕ) (at : Place) (v : RustValue) (vs : List RustValue) (es : List RustArgument)
    → es ≡ map handed_on (v ∷ vs)
    → array_rule env n at (map (valued_of ts) (v ∷ vs)) ≡ array_by env.facts n at (length es) (type_at ts v.ty) (operands_of ts es)
array_from ts env n at v vs es e =
    ap₂ (λ k xs. array_by env.facts n at k (type_at ts v.ty) xs)
    (counted (valued_of ts) (v ∷ vs) ∙ sym (ap length e ∙ counted handed_on (v ∷ vs)))
    (exprs_are ts (v ∷ vs) ∙ ap (operands_of ts) (sym e))

-- a sequence of them
pub sequence_from : (ts : List Ty) (want : Want) (n : ℕ) (at : Place) (v : RustValue) (vs : List RustValue) (es : List RustArgument)
    → es ≡ map handed_on (v ∷ vs)
    → sequence_rule want n at (map (valued_of ts) (v ∷ vs)) ≡ Ok (nodes.sequence (node n at) (type.sequence (type_at ts v.ty)) (operands_of ts es))
sequence_from ts want n at v vs es e =
    ap (λ xs. Ok (nodes.sequence (node n at) (type.sequence (type_at ts v.ty)) xs)) (exprs_are ts (v ∷ vs) ∙ ap (operands_of ts) (sym e))

-- ---- a type that is called like a procedure

-- of several operands
pub several : (ts : List Ty) (env : Env) (n : ℕ) (at : Place) (ty : Ty) (os : List RustOperand) (o : RustOperand) → 0 < length os
    → conversion_rule env n at ty (map (operand_of ts) (os ++ o ∷ [])) ≡ not_typed (no_fit_at at (os ++ o ∷ []))
several ts env n at ty [] o h = absurd (omega (arith, h))
several ts env n at ty (a ∷ []) o h = no_fit_is ts at (a ∷ o ∷ [])
several ts env n at ty (a ∷ b ∷ os) o h = no_fit_is ts at (a ∷ b ∷ (os ++ o ∷ []))

pub last_within : (n : ℕ) (os : List RustOperand) (o : RustOperand) → OperandsWithin n (os ++ o ∷ []) → OperandWithin n o
last_within n [] o h = h.0
last_within n (a ∷ os) o h = last_within n os o h.1
