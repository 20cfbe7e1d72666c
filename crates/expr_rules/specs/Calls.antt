-- Calls of procedures: which one is meant, and its arguments.
use Rattle.std.specs.Prelude.{ℕ, Bool, true, false, List, [], ◌∷◌, ◌++◌, codes, Option, Some, None, Ok}
use Rattle.arc_base.specs.declared.place.Place.{Place}
use Rattle.arc_base.specs.declared.place.Code.TheVariants.{NotAssignable, VarOverlap, Ambiguous}
use Rattle.arc_base.specs.Refusal.{and_then, refused}
use Rattle.nim_types.specs.Types as type
use Rattle.nim_types.specs.Types.{Ty, same_text}
use Rattle.nim_program.specs.declared.operation.Comparison.{Comparison}
use Rattle.nim_program.specs.declared.operation.Comparison.TheVariants as comparison
use Rattle.nim_program.specs.declared.program.Mode.{Mode}
use Rattle.nim_program.specs.declared.program.Mode.TheVariants.{Plain, Sink, Var}
use Rattle.nim_program.specs.Program.{Expr, Path, Args, NoArg, ByValue, ByPath}
use Rattle.nim_program.specs.Nodes.{call, compare, show}
use Rattle.expr_rules.specs.Env.{Parameter, Procedure}
use Rattle.expr_rules.specs.Answers.{Answer, not_typed, node, place_in, Valued, Operand, settled}
use Rattle.expr_rules.specs.Paths.{path_of, overlaps_any}

-- ---- overloads: those whose parameters have the types of the operands, each with its operand settled

pub record Fit : Type 0 where
  pub callee : Procedure
  pub arguments : List (Parameter × Valued)

abbrev pub onto : Parameter → Option Valued → Option (List (Parameter × Valued)) → Option (List (Parameter × Valued))
onto p (Some v) (Some rest) = Some ((p, v) ∷ rest)
onto p _ _ = None

abbrev pub arguments_for : List Parameter → List Operand → Option (List (Parameter × Valued))
arguments_for [] [] = Some []
arguments_for (p ∷ params) (o ∷ operands) = onto p (settled p.of o) (arguments_for params operands)
arguments_for _ _ = None

abbrev pub if_fits : Procedure → Option (List (Parameter × Valued)) → List Fit → List Fit
if_fits callee None rest = rest
if_fits callee (Some arguments) rest = record { callee = callee; arguments = arguments } ∷ rest

abbrev pub fitting : List Procedure → List Operand → List Fit
fitting [] operands = []
fitting (p ∷ rest) operands = if_fits p (arguments_for p.params operands) (fitting rest operands)

-- ---- arguments, in order: of a `var` parameter a path that can be written, and that overlaps no earlier one

abbrev pub no_overlap : (writable overlapping : Bool) → Place → Path → Answer Path
no_overlap false overlapping at path = refused NotAssignable at
no_overlap true true at path = refused VarOverlap at
no_overlap true false at path = Ok path

abbrev pub var_argument : List Path → Valued → Answer Path
var_argument before v = no_overlap v.writable (overlaps_any (path_of v.expr) before) (place_in v.expr) (path_of v.expr)

pub data Argument : Type 0 where
  by_value : Expr → Argument
  by_var : Path → Argument

abbrev pub argument_by : List Path → Mode → Valued → Answer Argument
argument_by before Var v = and_then (var_argument before v) (λ path. Ok (by_var path))
argument_by before Sink v = Ok (by_value v.expr)
argument_by before Plain v = Ok (by_value v.expr)

abbrev pub paths_with : List Path → Argument → List Path
paths_with before (by_value e) = before
paths_with before (by_var path) = before ++ path ∷ []

abbrev pub argument_before : Argument → Args → Args
argument_before (by_value e) rest = ByValue e rest
argument_before (by_var path) rest = ByPath path rest

abbrev pub arguments_by : List Path → List (Parameter × Valued) → Answer Args
arguments_by before [] = Ok NoArg
arguments_by before (a ∷ rest) =
    and_then (argument_by before a.0.mode a.1) (λ first.
    and_then (arguments_by (paths_with before first) rest) (λ more. Ok (argument_before first more)))

-- ---- the call

-- what is borrowed is the operation itself, on the bases
abbrev pub comparisons : List (List ℕ × Comparison)
comparisons =
    (codes "==", comparison.Equal) ∷ (codes "!=", comparison.Unequal) ∷ (codes "<", comparison.Less)
    ∷ (codes "<=", comparison.AtMost) ∷ (codes ">", comparison.Greater) ∷ (codes ">=", comparison.AtLeast) ∷ []

abbrev pub if_named : Bool → Comparison → Option Comparison → Option Comparison
if_named true c rest = Some c
if_named false c rest = rest

abbrev pub comparison_named : List ℕ → List (List ℕ × Comparison) → Option Comparison
comparison_named x [] = None
comparison_named x (row ∷ rest) = if_named (same_text x row.0) row.1 (comparison_named x rest)

abbrev pub borrowed_call : ℕ → Place → Option Comparison → List (Parameter × Valued) → Answer Expr
borrowed_call n at (Some c) (a ∷ b ∷ []) = Ok (compare (node n at) type.bool c a.1.expr b.1.expr)
borrowed_call n at None (a ∷ []) = Ok (show (node n at) type.text a.1.expr)
borrowed_call n at _ _ = not_typed at

abbrev pub called : ℕ → Place → (borrowed : Bool) → List ℕ → Fit → Answer Expr
called n at true x fit = borrowed_call n at (comparison_named x comparisons) fit.arguments
called n at false x fit =
    and_then (arguments_by [] fit.arguments) (λ args. Ok (call (node n at) fit.callee.gives fit.callee.number args))

-- the one that fits is called; where none fits, something else is meant
abbrev pub one_of : ℕ → Place → List ℕ → List Fit → (otherwise : Answer Expr) → Answer Expr
one_of n at x [] otherwise = otherwise
one_of n at x (fit ∷ []) otherwise = called n at fit.callee.borrowed x fit
one_of n at x (_ ∷ _ ∷ _) otherwise = refused Ambiguous at
