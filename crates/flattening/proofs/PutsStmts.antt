-- The labels of statements' lines are those of their numbers.
use Rattle.std.proofs.Common.{ℕ, suc, ◌+◌, ◌*◌, ◌<◌, ◌≤◌, Bool, List, [], ◌∷◌, Option, arith}
use Rattle.nim_types.specs.Types.{Ty, Facts}
use Rattle.nim_program.specs.declared.operation.Use.{Use}
use Rattle.nim_program.specs.declared.program.Mode.{Mode}
use Rattle.nim_program.specs.declared.stmt.Leaving.TheVariants as K
use Rattle.nim_program.specs.Program.{Act, Label, ByLabels, Expr, Apply, Read, Early, Choose, Path, Args, Declared}
use Rattle.nim_program.specs.Program.{Stmt, Stmts, Blocks, Otherwise, Block}
use Rattle.flattening.specs.declared.numbers.Purpose.TheVariants.{Arm}
use Rattle.flattening.specs.ExprLines.{aim_lines, ready_lines, copied_lines}
use Rattle.flattening.specs.StmtLines.{Exits, selector_lines, block_tests, lines_in, lines_of, branch_lines, arm_blocks}
use Rattle.flattening.specs.Numbering.{width, width_at, widths, arm_count, width_in, width_of, label, behind_selector}
use Rattle.flattening.proofs.Puts.{Puts, puts_none, puts_wide, ◌>>◌}
use Rattle.flattening.proofs.PutsParts.{puts_labels}
use Rattle.flattening.proofs.PutsLines.{ExitsPut, puts_find, aim_puts, ready_puts, selector_puts, stmt_puts, stmts_puts, branches_puts, arm_blocks_puts}
use Rattle.flattening.proofs.Leaving.{PutsExits}
use Rattle.flattening.proofs.Widths.{width_of_blocks, read_width}

pub puts_block_tests : {lo hi : ℕ} (labels : List (List Label)) (blocks : Blocks) (s arm : ℕ) → Puts lo hi (block_tests labels blocks s arm)
puts_block_tests labels (Otherwise block) s arm = puts_none
puts_block_tests [] (Block first rest) s arm = puts_none
puts_block_tests (these ∷ labels) (Block first rest) s arm = puts_labels these s (label Arm arm) >> puts_block_tests labels rest s (suc arm)

-- as the measures of lines say it
by_way : {exits : Exits} → PutsExits exits → ExitsPut exits
by_way out K.Break lo hi = out.breaks
by_way out K.Continue lo hi = out.continues
by_way out K.Return lo hi = out.returns

module _ (types : List Ty) (facts : Facts) (modes : (proc position : ℕ) → Mode) where
  pub puts_copied : (e : Expr) (t : ℕ) → Puts (4 * t + 1) (4 * (t + width e)) (copied_lines types facts modes e t)
  puts_copied (Read path) t =
      let w = read_width path in
      puts_wide (omega arith) (omega (arith, w)) (aim_puts types facts modes path (suc t)) >> puts_find types facts modes path (suc t)
  puts_copied (Apply node ty act operands) t = puts_none
  puts_copied (Early node ty short left right) t = puts_none
  puts_copied (Choose node ty chooser parts) t = puts_none

  pub puts_aim : (path : Path) (t : ℕ) → Puts (4 * t) (4 * (t + width_at path)) (aim_lines types facts modes path t)
  puts_aim path t = aim_puts types facts modes path t

  pub puts_ready : (act : Act) (args : Args) (uses : ℕ → Use) (i t : ℕ) → Puts (4 * t) (4 * (t + widths args)) (ready_lines types facts modes act args uses i t)
  puts_ready act args uses i t = ready_puts types facts modes act args uses i t

module _ (types : List Ty) (facts : Facts) (modes : (proc position : ℕ) → Mode) (result : Option Declared) where
  pub puts_selector : (tests : Args) (s : ℕ) → Puts (4 * s) (4 * behind_selector tests s) (selector_lines types facts modes result tests s)
  puts_selector tests s = selector_puts types facts modes result tests s

  pub puts_stmt : (stmt : Stmt) (exits : Exits) (t : ℕ) → PutsExits exits → Puts (4 * t) (4 * (t + width_in stmt))
      (lines_in types facts modes result stmt exits t)
  puts_stmt stmt exits t out = stmt_puts types facts modes result stmt exits t (by_way out)

  pub puts_stmts : (b : Stmts) (exits : Exits) (t : ℕ) → PutsExits exits → Puts (4 * t) (4 * (t + width_of b))
      (lines_of types facts modes result b exits t)
  puts_stmts b exits t out = stmts_puts types facts modes result b exits t (by_way out)

  pub puts_branches : (tests : Args) (blocks : Blocks) (exits : Exits) (t u : ℕ) → PutsExits exits →
      Puts (4 * u) (4 * (u + (widths tests + width_of_blocks blocks))) (branch_lines types facts modes result tests blocks exits t u)
  puts_branches tests blocks exits t u out = branches_puts types facts modes result tests blocks exits t u (by_way out)

  pub puts_arm_blocks : (covered : Bool) (labels : List (List Label)) (blocks : Blocks) (exits : Exits) (t arm u : ℕ) → t < arm →
      arm + arm_count (ByLabels labels) ≤ u → PutsExits exits →
      Puts (4 * t + 2) (4 * (u + width_of_blocks blocks)) (arm_blocks types facts modes result covered labels blocks exits t arm u)
  puts_arm_blocks covered labels blocks exits t arm u less le out =
      arm_blocks_puts types facts modes result covered labels blocks exits t arm u less le (by_way out)
