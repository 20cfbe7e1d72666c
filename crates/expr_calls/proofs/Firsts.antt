-- The first procedure of a name that fits, from its last declaration on.
use Rattle.std.proofs.Common.{◌≡◌, ℕ, ◌≤◌, List, [], ◌++◌, length, refl, sym, ap, ◌∙◌, Some, None, append-nil, append_assoc}
use Rattle.std.specs.Prelude.{Bool, true, false, is_some, Option, slice_get, if◌then◌else◌}
use Rattle.std.proofs.lemmas.Bool.{both_ways}
use Rattle.nim_types.specs.Types.{Ty}
use Rattle.expr_parts.specs.declared.scope.Procedure.{Procedure as RustProcedure}
use Rattle.expr_parts.specs.declared.scope.What.TheVariants as what
use Rattle.expr_parts.specs.declared.scope.Decl.{Decl}
use Rattle.expr_rules.specs.Answers.{Valued, Operand}
use Rattle.expr_rules.specs.Calls.{Fit, arguments_for, if_fits, fitting}
use Rattle.expr_rules.specs.Env.{Parameter, Procedure, callable, known_next}
use Rattle.expr_parts.specs.View.{procedure_of, entry_by}
use Rattle.expr_parts.specs.ViewDecls.{last_of, procedure_in}
use Rattle.expr_calls.specs.ViewCalls.{first_borrowed}
use Rattle.expr_parts.proofs.ForCallers.{one_further, known_in, known_from, known_none, hides}

-- of those from a number on these fit, and one goes on below it
pub record FirstBehind (ts : List Ty) (x : List ℕ) (ds : List Decl) (os : List Operand) (n : ℕ) (first : Option Bool) : Type 0 where
  pub all : List Fit
  pub is : first_borrowed all ≡ first
  pub joins : fitting (callable (known_in ts x ds (length ds))) os ≡ fitting (callable (known_in ts x ds n)) os ++ all

pub first_start : (ts : List Ty) (x : List ℕ) (ds : List Decl) (os : List Operand) → FirstBehind ts x ds os (length ds) None
first_start ts x ds os = record {
  all = [];
  is = refl;
  joins = sym (append-nil (fitting (callable (known_in ts x ds (length ds))) os));
}

first_one : (p : Procedure) (o : Option (List (Parameter × Valued))) (all : List Fit) (fits : Bool) (first : Option Bool)
    → is_some o ≡ fits → first_borrowed all ≡ first
    → first_borrowed (if_fits p o [] ++ all) ≡ (if fits then Some p.borrowed else first)
first_one p None all true first h e = absurd (both_ways false refl h)
first_one p None all false first h e = e
first_one p (Some args) all true first h e = refl
first_one p (Some args) all false first h e = absurd (both_ways true h refl)

pub first_more : (ts : List Ty) (x : List ℕ) (ds : List Decl) (os : List Operand) (n i : ℕ) (d : Decl) (p : RustProcedure) (first : Option Bool)
    (fits : Bool) → n ≤ length ds → last_of ds x n ≡ Some i → slice_get ds i ≡ Some d → d.what ≡ what.Procedure p
    → is_some (arguments_for (procedure_of ts p).params os) ≡ fits → FirstBehind ts x ds os n first
    → FirstBehind ts x ds os i (if fits then Some p.borrowed else first)
first_more ts x ds os n i d p first fits h e at w f b =
    let before = known_in ts x ds i in
    let callee = procedure_of ts p in
    let mine = if_fits callee (arguments_for callee.params os) [] in
    let known : known_in ts x ds n ≡ known_next before (entry_by ts d.name (what.Procedure p)) =
    known_from ts x ds n i d h e at ∙ ap (λ z. known_next before (entry_by ts d.name z)) w in
    record {
      all = mine ++ b.all;
      is = first_one callee (arguments_for callee.params os) b.all fits first f b.is;
      joins = b.joins ∙ ap (λ k. fitting (callable k) os ++ b.all) known ∙ ap (λ z. z ++ b.all) (one_further (callable before) callee os)
          ∙ append_assoc (fitting (callable before) os) mine b.all;
    }

-- what is no procedure hides those before it
pub first_hidden : (ts : List Ty) (x : List ℕ) (ds : List Decl) (os : List Operand) (n i : ℕ) (d : Decl) (first : Option Bool)
    → n ≤ length ds → last_of ds x n ≡ Some i → slice_get ds i ≡ Some d → procedure_in d.what ≡ None → FirstBehind ts x ds os n first
    → first_borrowed (fitting (callable (known_in ts x ds (length ds))) os) ≡ first
first_hidden ts x ds os n i d first h e at w b =
    ap first_borrowed (b.joins ∙ ap (λ ps. fitting ps os ++ b.all)
    (ap callable (known_from ts x ds n i d h e at) ∙ hides ts d.name d.what (known_in ts x ds i) w)) ∙ b.is

pub first_none : (ts : List Ty) (x : List ℕ) (ds : List Decl) (os : List Operand) (n : ℕ) (first : Option Bool) → n ≤ length ds
    → last_of ds x n ≡ None → FirstBehind ts x ds os n first
    → first_borrowed (fitting (callable (known_in ts x ds (length ds))) os) ≡ first
first_none ts x ds os n first h e b =
    ap first_borrowed (b.joins ∙ ap (λ k. fitting (callable k) os ++ b.all) (known_none ts x ds n h e)) ∙ b.is
