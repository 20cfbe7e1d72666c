-- The labels of a part's lines are those of its numbers.
use Rattle.std.proofs.Common.{◌≡◌, ℕ, suc, ◌+◌, ◌*◌, ◌<◌, ◌≤◌, Bool, true, false, List, [], ◌∷◌, Option, refl, arith}
use Rattle.std.specs.Prelude.{if◌then◌else◌}
use Rattle.nim_types.specs.Types.{Ty, Facts}
use Rattle.nim_program.specs.declared.operation.Use.{Use}
use Rattle.nim_program.specs.declared.program.Mode.{Mode}
use Rattle.nim_program.specs.Program.{Declared, Label, Expr, Args, NoArg, ByValue, ByPath, node_of}
use Rattle.nim_program.specs.declared.operation.Use.TheVariants.{Owned, Given}
use Rattle.nim_meaning.specs.Waiting.{Wait, waiting, held_if}
use Rattle.flat_code.specs.declared.line.From.TheVariants as F
use Rattle.flat_code.specs.declared.line.Owning.TheVariants as W
use Rattle.flat_code.specs.declared.line.Line.{Line}
use Rattle.flat_code.specs.declared.line.Line.TheVariants as L
use Rattle.flattening.specs.declared.numbers.Purpose.TheVariants.{Arm}
use Rattle.flattening.specs.ExprLines.{label_tests, value_tests, arm_label, lines, choice_lines, arm_lines, taken_lines, end_lines, use_at, has_hooks}
use Rattle.flattening.specs.ExprLines.{is_copied, copied_lines}
use Rattle.flattening.specs.ExprLines.{branch_use, branch_ends}
use Rattle.flattening.specs.StmtLines.{fill_lines}
use Rattle.flattening.specs.Numbering.{type_number, width, widths, label}
use Rattle.flattening.proofs.Puts.{Puts, puts_none, puts_line, puts_label, puts_wide, ◌>>◌}
use Rattle.flattening.proofs.PutsLines.{expr_puts, copied_puts, choice_puts, arms_puts}

pub puts_labels : {lo hi : ℕ} (labels : List Label) (s arm : ℕ) → Puts lo hi (label_tests labels s arm)
puts_labels [] s arm = puts_none
puts_labels (these ∷ labels) s arm = puts_line _ refl >> puts_labels labels s arm

pub puts_tests : {lo hi : ℕ} (labels : List (List Label)) (values : Args) (s t : ℕ) → Puts lo hi (value_tests labels values s t)
puts_tests labels NoArg s t = puts_none
puts_tests labels (ByPath path rest) s t = puts_none
puts_tests [] (ByValue value rest) s t = puts_none
puts_tests (these ∷ labels) (ByValue value rest) s t = puts_labels these s (label Arm t) >> puts_tests labels rest s (t + width value)

pub puts_arm : {lo hi : ℕ} (b : Bool) (other arm : ℕ) → lo ≤ other → other < hi → lo ≤ arm → arm < hi → Puts lo hi (arm_label b other arm)
puts_arm true other arm lo hi low high = puts_label other lo hi >> puts_label arm low high
puts_arm false other arm lo hi low high = puts_label arm low high

pub puts_taken : {lo hi : ℕ} (nodes : List ℕ) → Puts lo hi (taken_lines nodes)
puts_taken [] = puts_none
puts_taken (node ∷ nodes) = puts_line _ refl >> puts_taken nodes

pub puts_waits : {lo hi : ℕ} (types : List Ty) (waits : List Wait) → Puts lo hi (end_lines types waits)
puts_waits types [] = puts_none
puts_waits types (w ∷ ws) = puts_waits types ws >> puts_line _ refl

module _ (types : List Ty) (facts : Facts) (modes : (proc position : ℕ) → Mode) where
  pub puts_expr : (e : Expr) (how : Use) (t : ℕ) → Puts (4 * t + 1) (4 * (t + width e)) (lines types facts modes e how t)
  puts_expr e how t = expr_puts types facts modes e how t

  pub puts_branch : (e : Expr) (t : ℕ) → Puts (4 * t + 1) (4 * (t + width e))
      (λ k. lines types facts modes e (branch_use types facts modes e) t (branch_ends types facts modes e k))
  puts_branch e t =
      puts_expr e (branch_use types facts modes e) t
      >> (puts_waits types (waiting facts modes e Owned) >> puts_taken (held_if (has_hooks facts e) (node_of e).number []))

  pub puts_choice : (parts : Args) (ty : Option Ty) (how : Use) (site t u : ℕ) → Puts (4 * u) (4 * (u + widths parts))
      (choice_lines types facts modes parts ty (use_at how site) t u)
  puts_choice parts ty how site t u = choice_puts types facts modes parts ty (use_at how site) t u

  pub puts_arms : (covered : Bool) (labels : List (List Label)) (values : Args) (ty : Option Ty) (how : Use) (site t u : ℕ) → t < u →
      Puts (4 * t + 2) (4 * (u + widths values)) (arm_lines types facts modes covered labels values ty (use_at how site) t u)
  puts_arms covered labels values ty how site t u less =
      arms_puts types facts modes covered labels values ty (use_at how site) t u less

  pub puts_fill : (result : Option Declared) (place : Declared) (value : Expr) (t : ℕ) → Puts (4 * t) (4 * (t + width value))
      (fill_lines types facts modes result place value t)
  puts_fill result place value t = at (is_copied facts Given value) refl
    where
      copy : Line
      copy = L.Own (W.PlaceCopies place.number (type_number types place.of)) (F.Place (suc t) ∷ [])

      at : (b : Bool) → is_copied facts Given value ≡ b → Puts (4 * t) (4 * (t + width value))
          (λ k. if b then copied_lines types facts modes value t (copy ∷ k) else lines types facts modes value Given t (L.Fill place.number t ∷ k))
      at true e = puts_wide (omega arith) (omega arith) (copied_puts types facts modes value Given t e) >> puts_line copy refl
      at false e = puts_wide (omega arith) (omega arith) (expr_puts types facts modes value Given t) >> puts_line (L.Fill place.number t) refl
