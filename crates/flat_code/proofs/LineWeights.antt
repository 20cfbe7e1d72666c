-- Each line weighs at least one.
use Rattle.std.proofs.Common.{ℕ, ◌≤◌, List, [], ◌∷◌, length, arith}
use Rattle.std.specs.Prelude.{map}
use Rattle.flat_code.specs.declared.code.CodeProc.{CodeProc}
use Rattle.nim_program.specs.declared.expr.Label.{Label}
use Rattle.nim_program.specs.declared.expr.Label.TheVariants as C
use Rattle.flat_code.specs.declared.line.Owning.{Owning}
use Rattle.flat_code.specs.declared.line.Owning.TheVariants as W
use Rattle.flat_code.specs.declared.line.Line.{Line}
use Rattle.flat_code.specs.declared.line.Line.TheVariants as L
use Rattle.flat_code.specs.Codes.{lines_in}
use Rattle.flat_code.specs.Sizes.{label_weight, owning_weight, weight, summed, proc_weight, code_weight}

label_weighs : (label : Label) → 1 ≤ label_weight label
label_weighs (C.Ordinals low high) = omega arith
label_weighs (C.Text text) = omega arith

owning_weighs : (what : Owning) → 1 ≤ owning_weight what
owning_weighs (W.Waits node) = omega arith
owning_weighs (W.TakenUp node) = omega arith
owning_weighs (W.TemporaryEnds node ty) = omega arith
owning_weighs (W.PlaceEnds place ty) = omega arith
owning_weighs (W.PlaceCopies place ty) = omega arith
owning_weighs (W.PlaceStands place) = omega arith
owning_weighs (W.ResultGets place ty) = omega arith

line_weighs : (line : Line) → 1 ≤ weight line
line_weighs (L.Apply to operation how ty of from) = omega arith
line_weighs (L.Fits from these to) = label_weighs these
line_weighs (L.Own what from) = owning_weighs what
line_weighs line = omega arith

module _ {L : Type 0} (plain : L → Line) where
  all_weigh : (lines : List L) → length lines ≤ summed weight (map plain lines)
  all_weigh [] = omega arith
  all_weigh (line ∷ lines) = omega (arith, line_weighs (plain line), all_weigh lines)

  proc_weighs : (lines : List L) → length lines ≤ proc_weight (map plain lines)
  proc_weighs [] = omega arith
  proc_weighs (line ∷ lines) = omega (arith, line_weighs (plain line), all_weigh lines)

  pub code_weighs : (procs : List (CodeProc L)) → lines_in procs ≤ code_weight plain procs
  code_weighs [] = omega arith
  code_weighs (p ∷ procs) = omega (arith, proc_weighs p.lines, code_weighs procs)
