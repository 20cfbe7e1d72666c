-- What a name is known as, by its last declaration.
use Rattle.std.proofs.Common.{◌≡◌, ℕ, List, Some, None, refl, ap, ◌∙◌, Bor}
use Rattle.std.proofs.lemmas.Bool.{both_ways}
use Rattle.std.specs.Option.{option_copied}
use Rattle.std.specs.Prelude.{Bool, true, false, not, Option, is_some, Err}
use Rattle.arc_base.specs.declared.place.Place.{Place}
use Rattle.arc_base.specs.declared.place.Code.TheVariants.{NotTyped, UnknownName}
use Rattle.arc_base.specs.declared.place.Stop.{Stop}
use Rattle.arc_base.specs.declared.place.Stop.TheVariants as stop
use Rattle.arc_base.specs.Refusal.{Answers}
use Rattle.nim_types.specs.Types.{Ty, same_text}
use Rattle.expr_parts.specs.declared.scope.Procedure.{Procedure as RustProcedure}
use Rattle.expr_rules.specs.Builtins.{operation_rule}
use Rattle.expr_rules.specs.Env.{Env, Entry, Known, unknown, a_variable, a_constant, a_type, a_pending_type, procedures, the_input, known_behind, known_next}
use Rattle.expr_rules.specs.Env.{name_in}
use Rattle.expr_parts.specs.declared.scope.What.{What}
use Rattle.expr_parts.specs.declared.scope.What.TheVariants as what
use Rattle.expr_parts.specs.declared.scope.Decl.{Decl}
use Rattle.expr_rules.specs.Names.{is_unknown, name_rule, type_rule, unless_type}
use Rattle.expr_rules.specs.Answers.{node, Operand, Typed}
use Rattle.expr_rules.specs.Demands.{former_by, of_nothing, is_a_type}
use Rattle.arc_base.proofs.ForCallers.{refuses}
use Rattle.expr_parts.specs.View.{entry_by, Stands}

pub name_by : (ts : List Ty) (x : List ℕ) (w : What) → name_in (entry_by ts x w) ≡ x
name_by ts x (what.Variable place ty writable global) = refl
name_by ts x (what.Constant ty l) = refl
name_by ts x (what.Type id) = refl
name_by ts x (what.Procedure p) = refl
name_by ts x what.Pending = refl
name_by ts x what.Input = refl

next_known : (ts : List Ty) (x : List ℕ) (w : What) (before : Known) → is_unknown (known_next before (entry_by ts x w)) ≡ false
next_known ts x (what.Variable place ty writable global) before = refl
next_known ts x (what.Constant ty l) before = refl
next_known ts x (what.Type id) before = refl
next_known ts x (what.Procedure p) before = refl
next_known ts x what.Pending before = refl
next_known ts x what.Input before = refl

-- what has no declaration is unknown, and nothing else
pub none_stands : (ts : List Ty) (o : Option (Bor Decl)) (known : Known) (b : Bool) → Stands ts (option_copied o) known → is_some o ≡ not b
    → is_unknown known ≡ b
none_stands ts None known true h e = ap is_unknown h
none_stands ts None known false h e = absurd (both_ways false refl e)
none_stands ts (Some d) known true h e = absurd (both_ways true e refl)
none_stands ts (Some d) known false h e = ap is_unknown h.1 ∙ next_known ts d.now.name d.now.what h.0

-- ---- as types

pub no_type_is : (of : ℕ → Ty) (at : Place) (built_in : Bool) (s : Stop) → (built_in ≡ true → s ≡ stop.Refused NotTyped at)
    → (built_in ≡ false → s ≡ stop.Refused UnknownName at) → Answers of (type_rule at built_in unknown) (Err s)
no_type_is of at true s h k = refuses of (type_rule at true unknown) NotTyped at s (h refl) refl
no_type_is of at false s h k = refuses of (type_rule at false unknown) UnknownName at s (k refl) refl

pub no_value_is : {T : Type 0} (of : T → Typed) (n : ℕ) (at : Place) (built_in : Bool) (s : Stop) → (built_in ≡ true → s ≡ stop.Refused NotTyped at)
    → (built_in ≡ false → s ≡ stop.Refused UnknownName at) → Answers of (name_rule n at built_in unknown) (Err s)
no_value_is of n at true s h k = refuses of (name_rule n at true unknown) NotTyped at s (h refl) refl
no_value_is of n at false s h k = refuses of (name_rule n at false unknown) UnknownName at s (k refl) refl

-- ---- what makes types of others

some_former : (ts : List Ty) (x y : List ℕ) (w : What) (before : Known) → former_by (known_next before (entry_by ts x w)) y ≡ of_nothing
some_former ts x y (what.Variable place ty writable global) before = refl
some_former ts x y (what.Constant ty l) before = refl
some_former ts x y (what.Type id) before = refl
some_former ts x y (what.Procedure p) before = refl
some_former ts x y what.Pending before = refl
some_former ts x y what.Input before = refl

pub declared_former : (ts : List Ty) (d : Decl) (known : Known) (y : List ℕ) → Stands ts (Some d) known → former_by known y ≡ of_nothing
declared_former ts d known y h = ap (λ k. former_by k y) h.1 ∙ some_former ts d.name y d.what h.0

-- ---- procedures

abbrev procedure_in : RustProcedure → What → RustProcedure
procedure_in p (what.Procedure q) = q
procedure_in p _ = p

pub same_procedure : (p q : RustProcedure) → what.Procedure p ≡ what.Procedure q → p ≡ q
same_procedure p q e = ap (procedure_in p) e

-- ---- types by their names

-- what is no type is an operation
pub no_type : (env : Env) (n : ℕ) (at : Place) (k : Known) (x : List ℕ) (os : List Operand) → is_a_type k ≡ false
    → unless_type env n at k x os ≡ operation_rule (node n at) x os
no_type env n at unknown x os h = refl
no_type env n at (a_variable place of writable global) x os h = refl
no_type env n at (a_constant of value) x os h = refl
no_type env n at (a_type ty) x os h = absurd (both_ways true h refl)
no_type env n at a_pending_type x os h = refl
no_type env n at (procedures all) x os h = refl
no_type env n at the_input x os h = refl
