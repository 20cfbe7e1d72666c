-- Which procedure a call means, and its arguments, in the subject's words.
use Rattle.std.specs.Prelude.{◌≡◌, ℕ, zero, suc, Bool, true, false, List, [], ◌∷◌, ◌++◌, Option, Some, None}
use Rattle.arc_base.specs.declared.place.Place.{Place}
use Rattle.arc_base.specs.declared.place.Code.{Code}
use Rattle.arc_base.specs.declared.place.Code.TheVariants.{NotAssignable, VarOverlap}
use Rattle.nim_types.specs.Types as type
use Rattle.nim_types.specs.Types.{Ty, same}
use Rattle.nim_program.specs.declared.program.Mode.{Mode}
use Rattle.nim_program.specs.declared.program.Mode.TheVariants.{Var}
use Rattle.nim_program.specs.Program.{Expr, Path, Args, NoArg, ByValue, ByPath}
use Rattle.nim_tree.specs.Terms as term
use Rattle.nim_tree.specs.Terms.{Term, Parts}
use Rattle.expr_rules.specs.Env.{Env, a_variable, known, Parameter, Procedure}
use Rattle.expr_rules.specs.Answers.{Valued, place_in, Operand, value, open_sequence, no_elements}
use Rattle.expr_rules.specs.Paths.{path_of, root_of, Step, field, steps_of}

-- ---- the choice

-- the operand as a value of the type: it has the type, or it is open and the type is that of a sequence
pub data IsSettled : Ty → Operand → Valued → Type 0 where
  by_type : {ty : Ty} {v : Valued} → same ty v.of ≡ true → IsSettled ty (value v) v
  by_place : {ty : Ty} {at : Place} {n : ℕ} → IsSettled (type.sequence ty) (open_sequence at n) (no_elements at n ty)

-- parameters fit operands, each with its value
pub data Fits : List Parameter → List Operand → List (Parameter × Valued) → Type 0 where
  fits_none : Fits [] [] []
  fits_more : {p : Parameter} {ps : List Parameter} {o : Operand} {os : List Operand} {v : Valued} {given : List (Parameter × Valued)}
      → IsSettled p.of o v → Fits ps os given → Fits (p ∷ ps) (o ∷ os) ((p, v) ∷ given)

abbrev pub FitsNot : List Parameter → List Operand → Type 0
FitsNot ps os = (given : List (Parameter × Valued)) → Fits ps os given → ⊥

pub data NoneFits : List Procedure → List Operand → Type 0 where
  none_left : {os : List Operand} → NoneFits [] os
  none_fits : {p : Procedure} {rest : List Procedure} {os : List Operand} → FitsNot p.params os → NoneFits rest os → NoneFits (p ∷ rest) os

-- this procedure with these arguments, and no other
pub data OneFits : List Procedure → List Operand → Procedure → List (Parameter × Valued) → Type 0 where
  this_fits : {p : Procedure} {rest : List Procedure} {os : List Operand} {given : List (Parameter × Valued)} → Fits p.params os given
      → NoneFits rest os → OneFits (p ∷ rest) os p given
  later_fits : {p q : Procedure} {rest : List Procedure} {os : List Operand} {given : List (Parameter × Valued)} → FitsNot p.params os
      → OneFits rest os q given → OneFits (p ∷ rest) os q given

pub data SomeFits : List Procedure → List Operand → Type 0 where
  some_here : {p : Procedure} {rest : List Procedure} {os : List Operand} {given : List (Parameter × Valued)} → Fits p.params os given
      → SomeFits (p ∷ rest) os
  some_later : {p : Procedure} {rest : List Procedure} {os : List Operand} → SomeFits rest os → SomeFits (p ∷ rest) os

pub data SeveralFit : List Procedure → List Operand → Type 0 where
  several_here : {p : Procedure} {rest : List Procedure} {os : List Operand} {given : List (Parameter × Valued)} → Fits p.params os given
      → SomeFits rest os → SeveralFit (p ∷ rest) os
  several_later : {p : Procedure} {rest : List Procedure} {os : List Operand} → SeveralFit rest os → SeveralFit (p ∷ rest) os

-- ---- what can be written: a path whose root is the name of a variable that can

pub data HasWritableRoot (env : Env) : Term → Type 0 where
  root_name : {at : Place} {x : List ℕ} {place : ℕ} {of : Ty} {global : Bool} → known env x ≡ a_variable place of true global
      → HasWritableRoot env (term.name at x)
  root_paren : {at : Place} {a : Term} → HasWritableRoot env a → HasWritableRoot env (term.paren at a)
  root_field : {at : Place} {a : Term} {x : List ℕ} → HasWritableRoot env a → HasWritableRoot env (term.field at a x)
  root_index : {at : Place} {a : Term} {inside : Parts} → HasWritableRoot env a → HasWritableRoot env (term.index at a inside)

pub data CanBeWritten (env : Env) : Term → Expr → Type 0 where
  from_variable : {t : Term} {e : Expr} {place : ℕ} → root_of (path_of e) ≡ Some place → HasWritableRoot env t → CanBeWritten env t e

-- ---- overlap of `var` arguments: one root, and no step that is a field of both, of different names

abbrev pub nth_step : ℕ → List Step → Option Step
nth_step i [] = None
nth_step zero (s ∷ rest) = Some s
nth_step (suc i) (s ∷ rest) = nth_step i rest

abbrev pub NeverDiffer : List Step → List Step → Type 0
NeverDiffer s t = (i j k : ℕ) → nth_step i s ≡ Some (field j) → nth_step i t ≡ Some (field k) → j ≡ k

pub data Overlap : Path → Path → Type 0 where
  they_overlap : {a b : Path} {root : ℕ} → root_of a ≡ Some root → root_of b ≡ Some root → NeverDiffer (steps_of a) (steps_of b) → Overlap a b

pub data OverlapsNone : Path → List Path → Type 0 where
  no_path : {a : Path} → OverlapsNone a []
  not_this : {a b : Path} {rest : List Path} → (Overlap a b → ⊥) → OverlapsNone a rest → OverlapsNone a (b ∷ rest)

pub data OverlapsSome : Path → List Path → Type 0 where
  this_path : {a b : Path} {rest : List Path} → Overlap a b → OverlapsSome a (b ∷ rest)
  later_path : {a b : Path} {rest : List Path} → OverlapsSome a rest → OverlapsSome a (b ∷ rest)

-- ---- arguments, behind `var` arguments with these paths

abbrev pub is_var : Mode → Bool
is_var Var = true
is_var _ = false

pub data AreArguments : List Path → List (Parameter × Valued) → Args → Type 0 where
  args_none : {before : List Path} → AreArguments before [] NoArg
  args_value : {before : List Path} {a : Parameter × Valued} {rest : List (Parameter × Valued)} {args : Args} → is_var a.0.mode ≡ false
      → AreArguments before rest args → AreArguments before (a ∷ rest) (ByValue a.1.expr args)
  args_var : {before : List Path} {a : Parameter × Valued} {rest : List (Parameter × Valued)} {args : Args} → is_var a.0.mode ≡ true
      → a.1.writable ≡ true → OverlapsNone (path_of a.1.expr) before → AreArguments (before ++ path_of a.1.expr ∷ []) rest args
      → AreArguments before (a ∷ rest) (ByPath (path_of a.1.expr) args)

pub data AreNoArguments : List Path → List (Parameter × Valued) → Code → Place → Type 0 where
  not_writable : {before : List Path} {a : Parameter × Valued} {rest : List (Parameter × Valued)} → is_var a.0.mode ≡ true
      → a.1.writable ≡ false → AreNoArguments before (a ∷ rest) NotAssignable (place_in a.1.expr)
  overlaps : {before : List Path} {a : Parameter × Valued} {rest : List (Parameter × Valued)} → is_var a.0.mode ≡ true
      → a.1.writable ≡ true → OverlapsSome (path_of a.1.expr) before → AreNoArguments before (a ∷ rest) VarOverlap (place_in a.1.expr)
  behind_value : {before : List Path} {a : Parameter × Valued} {rest : List (Parameter × Valued)} {c : Code} {p : Place}
      → is_var a.0.mode ≡ false → AreNoArguments before rest c p → AreNoArguments before (a ∷ rest) c p
  behind_var : {before : List Path} {a : Parameter × Valued} {rest : List (Parameter × Valued)} {c : Code} {p : Place}
      → is_var a.0.mode ≡ true → a.1.writable ≡ true → OverlapsNone (path_of a.1.expr) before
      → AreNoArguments (before ++ path_of a.1.expr ∷ []) rest c p → AreNoArguments before (a ∷ rest) c p
