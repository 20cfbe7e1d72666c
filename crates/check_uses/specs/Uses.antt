-- What occurs in the code's trees. It serves proofs alone: the promise of `check_text` doesn't speak of it.
use Rattle.std.specs.Prelude.{◌≡◌, ℕ, List, [], ◌∷◌, ◌++◌, map, Option, Some, None}
use Rattle.nim_program.specs.declared.expr.Operand.{Operand as RustOperand}
use Rattle.nim_program.specs.declared.expr.Operand.TheVariants as operand
use Rattle.nim_program.specs.declared.program.Proc.{Proc as RustProc}
use Rattle.nim_program.specs.declared.stmt.Branch.{Branch as RustBranch}
use Rattle.nim_program.specs.declared.stmt.CaseBranch.{CaseBranch as RustCaseBranch}
use Rattle.nim_program.specs.Program.{Expr, Stmts, Empty, Then, Declare, Defer}
use Rattle.nim_program.specs.View.{expr_of, path_of, stmts_of, proc_of}
use Rattle.decl_rules.specs.Occurrences.{Occurrence, global, calls, hands, hands_by, in_expr, in_path, in_args, in_stmt, in_block}
use Rattle.decl_rules.specs.Whole.{in_proc}
use Rattle.check_uses.specs.declared.uses.Occurrence.{Occurrence as RustOccurrence}
use Rattle.check_uses.specs.declared.uses.Occurrence.TheVariants as occurs

abbrev pub occurrence_of : RustOccurrence → Occurrence
occurrence_of (occurs.Global place) = global place
occurrence_of (occurs.Calls p) = calls p
occurrence_of (occurs.Hands p at g) = hands p at g

abbrev pub seen : List RustOccurrence → List Occurrence
seen uses = map occurrence_of uses

-- types don't matter to what occurs, so trees are seen under no types

abbrev pub in_other : Option Expr → List Occurrence
in_other None = []
in_other (Some e) = in_expr e

abbrev pub in_operand : (callee : Option ℕ) → RustOperand → List Occurrence
in_operand p (operand.Value value) = in_expr (expr_of [] value)
in_operand p (operand.At path) = in_path (path_of [] path) ++ hands_by p (path_of [] path)

-- each condition before its block
abbrev pub in_branches : List RustBranch → List Occurrence
in_branches [] = []
in_branches (first ∷ rest) = in_expr (expr_of [] first.condition) ++ (in_block (stmts_of [] first.body.items) ++ in_branches rest)

abbrev pub in_arms : List RustCaseBranch → List Occurrence
in_arms [] = []
in_arms (first ∷ rest) = in_block (stmts_of [] first.body.items) ++ in_arms rest

-- in the first statement of a block
abbrev pub in_first : Stmts → List Occurrence
in_first Empty = []
in_first (Then s rest) = in_stmt s
in_first (Declare node place cursor value rest) = in_args None value
in_first (Defer node last rest) = in_block last

abbrev pub in_procedure : RustProc → List Occurrence
in_procedure p = in_proc (Some (proc_of [] p))

abbrev pub uses_at : Option (List RustOccurrence) → List Occurrence
uses_at None = []
uses_at (Some uses) = seen uses

-- what occurs in procedures, by their numbers
abbrev pub AreListed : List RustProc → List (List RustOccurrence) → Type 0
AreListed procs uses = map seen uses ≡ map in_procedure procs
