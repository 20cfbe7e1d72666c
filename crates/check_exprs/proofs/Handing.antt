-- What the public calls say, by what the cycle of typing says.
use Rattle.std.proofs.Common.{◌≡◌, ℕ, List, ◌++◌, length, refl, sym, ap, ◌∙◌}
use Rattle.std.specs.Prelude.{map, Result, Ok, Err, IfOk}
use Rattle.arc_base.specs.declared.place.Stop.{Stop}
use Rattle.arc_base.specs.declared.place.Stop.TheVariants as stop
use Rattle.arc_base.specs.Refusal.{and_then, Answers}
use Rattle.nim_types.specs.declared.types.TypeDef.{TypeDef}
use Rattle.nim_types.specs.Types.{Ty}
use Rattle.nim_types.specs.Table.{IsBelow}
use Rattle.nim_program.specs.Program.{Label}
use Rattle.nim_program.specs.View.{expr_of, label_of}
use Rattle.expr_rules.specs.Answers.{Answer, Typed}
use Rattle.expr_rules.specs.Env.{Env}
use Rattle.expr_rules.specs.Typed.{Value}
use Rattle.expr_parts.specs.declared.scope.Scope.{Scope}
use Rattle.expr_parts.specs.declared.value.Typed.{Typed as RustTyped}
use Rattle.expr_parts.specs.View.{number_of, env_of, typed_of, DeclsWithin}
use Rattle.expr_constants.specs.ViewFixed.{IsFixed}
use Rattle.expr_constants.proofs.ForCallers.{answered_fixed, fixed_by}
use Rattle.expr_steps.specs.declared.choices.Tests.{Tests as RustTests}
use Rattle.expr_steps.specs.ViewChoices.{Tests, tests_of}
use Rattle.expr_steps.specs.declared.given.Given.{Given as RustGiven}
use Rattle.expr_steps.specs.ViewTyping.{Judges, TypedWithin, given_of, GivenWithin}
use Rattle.check_exprs.specs.ViewTyped.{AreAll}

pub typed_number : (n : ℕ) (r : Result RustTyped Stop) → IfOk r (TypedWithin n) → IfOk r (λ t. number_of t.expr ≡ t.ty)
typed_number n (Ok t) h = sym h.0
typed_number n (Err s) h = tt

pub typed_below : (n : ℕ) (r : Result RustTyped Stop) → IfOk r (TypedWithin n) → IfOk r (λ t. IsBelow n t.ty)
typed_below n (Ok t) h = h.1
typed_below n (Err s) h = tt

own_labels : (before : List Label) (all : Answer (List Label))
    → all ≡ and_then (and_then all (λ ls. Ok (record { own = ls; all = before ++ ls }))) (λ (t : Tests). Ok t.own)
own_labels before (Ok ls) = refl
own_labels before (Err s) = refl

pub labels_own : (before : List Label) (all : Answer (List Label)) (r : Result RustTests Stop)
    → Answers tests_of (and_then all (λ ls. Ok (record { own = ls; all = before ++ ls }))) r → Answers (λ (t : RustTests). map label_of t.own) all r
labels_own before all (Ok t) h = own_labels before all ∙ ap (λ z. and_then z (λ (t : Tests). Ok t.own)) h
labels_own before all (Err (stop.Refused code at)) h = own_labels before all ∙ ap (λ z. and_then z (λ (t : Tests). Ok t.own)) h
labels_own before all (Err stop.Memory) h = tt

pub labels_all : (n : ℕ) (before : List Label) (r : Result RustTests Stop) → IfOk r (AreAll before n)
    → IfOk r (λ t. t.all ≡ before ++ map label_of t.own)
labels_all n before (Ok t) h = h
labels_all n before (Err s) h = tt

-- ---- what no later type changes

judged_fixed : {A T : Type 0} {old new : List TypeDef} (s : Scope) (of : List Ty → T → A) (said : Env → Answer A) (within : ℕ → T → Type 0) (x : T)
    → DeclsWithin (length old) s.decls → Judges old new of (λ ts facts. said (env_of ts facts s)) within (Ok x) → IsFixed new (λ ts. of ts x)
judged_fixed {old = old} {new = new} s of said within x h j = answered_fixed old new s of said x h j.grown.under j.answers

pub typed_fixed : {old new : List TypeDef} (s : Scope) (said : Env → Answer Typed) (x : RustTyped) → DeclsWithin (length old) s.decls
    → Judges old new typed_of (λ ts facts. said (env_of ts facts s)) TypedWithin (Ok x) → IsFixed new (λ ts. expr_of ts x.expr)
typed_fixed {new = new} s said x h j = fixed_by new (λ (t : Typed). t.expr) (λ ts. typed_of ts x) (judged_fixed s typed_of said TypedWithin x h j)

pub given_fixed : {old new : List TypeDef} (s : Scope) (said : Env → Answer Value) (x : RustGiven) → DeclsWithin (length old) s.decls
    → Judges old new given_of (λ ts facts. said (env_of ts facts s)) GivenWithin (Ok x) → IsFixed new (λ ts. expr_of ts x.value.expr)
given_fixed {new = new} s said x h j = fixed_by new (λ (v : Value). v.given.expr) (λ ts. given_of ts x) (judged_fixed s given_of said GivenWithin x h j)
