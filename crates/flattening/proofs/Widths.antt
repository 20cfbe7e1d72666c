-- How many numbers parts have: one more for a path that is read than for one in place.
use Rattle.std.proofs.Common.{◌≡◌, ℕ, suc, ◌+◌, ◌≤◌, false, List, Option, Some, None, refl, arith, Bool, true}
use Rattle.nim_types.specs.Types.{Ty}
use Rattle.nim_program.specs.declared.expr.Node.{Node}
use Rattle.nim_program.specs.declared.expr.Operand.{Operand as RustOperand}
use Rattle.nim_program.specs.declared.expr.Operand.TheVariants as A
use Rattle.nim_program.specs.Program.{Literal, Label, ByLabels, Expr, Apply, Read, Early, Choose, Path, Variable, Fresh, Field, Element, Deref, Args, NoArg}
use Rattle.nim_program.specs.Program.{ByValue, ByPath, Blocks, constant_in}
use Rattle.nim_program.specs.FoldParts.{seen_of, seen_at, own_if}
use Rattle.nim_program.specs.Folds.{Choosing, numbers, if_constant, begun_by, looked_type, total_at, in_turn, each, each_block}
use Rattle.nim_program.specs.View.{operand_before}
use Rattle.nim_program.proofs.ForCallers.{sum_of_blocks, in_turn_sum}
use Rattle.flattening.specs.Numbering.{part_width, own_width, read_count, arm_count, looked_count, behind_selector, width, width_at, widths}

pub same_width : (path : Path) → total_at numbers own_width false path ≡ width_at path
same_width path = refl

abbrev pub width_of_blocks : Blocks → ℕ
width_of_blocks = sum_of_blocks numbers own_width

-- conditions and blocks in turn
pub turn_width : (tests : Args) (blocks : Blocks) →
    in_turn numbers (each numbers own_width tests) (each_block numbers own_width blocks) ≡ widths tests + width_of_blocks blocks
turn_width tests blocks = in_turn_sum own_width tests blocks

-- a value that a path begins with: at least one, and one more than the value has where it isn't a constant
abbrev pub fresh_width : Option Literal → Expr → ℕ
fresh_width constant value =
    if_constant constant (own_width (begun_by constant false value)) (own_width (begun_by constant false value) + width value)

some_fresh : (constant : Option Literal) (value : Expr) → 1 ≤ fresh_width constant value
some_fresh None value = omega arith
some_fresh (Some literal) value = omega arith

read_fresh : (constant : Option Literal) (value : Expr) →
    if_constant constant (own_width (begun_by constant true value)) (own_width (begun_by constant true value) + width value) ≡ suc (fresh_width constant value)
read_fresh None value = omega arith
read_fresh (Some literal) value = omega arith

pub read_width : (path : Path) → width (Read path) ≡ suc (width_at path)
read_width (Variable node ty place global) = refl
read_width (Fresh value) = read_fresh (constant_in value) value
read_width (Field node ty base field) = omega arith
read_width (Element node ty base index constant) = omega arith
read_width (Deref ty base) = omega arith

mutual
  pub some_width : (e : Expr) → 1 ≤ width e
  some_width (Apply node ty act operands) = omega arith
  some_width (Read path) = let w = read_width path in omega (arith, w)
  some_width (Early node ty short left right) = omega arith
  some_width (Choose node ty chooser parts) = omega arith

  pub some_width_at : (path : Path) → 1 ≤ width_at path
  some_width_at (Variable node ty place global) = omega arith
  some_width_at (Fresh value) = some_fresh (constant_in value) value
  some_width_at (Field node ty base field) = omega arith
  some_width_at (Element node ty base index constant) = omega arith
  some_width_at (Deref ty base) = omega arith

-- where the selector of a `case` ends
pub selector_width : (labels : List (List Label)) (parts : Args) (t : ℕ) → behind_selector parts (suc t + arm_count (ByLabels labels))
    ≡ t + (suc (arm_count (ByLabels labels) + looked_count (looked_type (ByLabels labels) parts)) + widths parts)
selector_width labels NoArg t = omega arith
selector_width labels (ByValue value rest) t = omega arith
selector_width labels (ByPath path rest) t = omega arith

-- ---- of a part alone

begun_one : (constant : Option Literal) (read : Bool) (value : Expr) → own_width (begun_by constant read value) ≡ suc (read_count read)
begun_one None read value = refl
begun_one (Some literal) read value = refl

pub step_width : (read : Bool) (path : Path) → own_width (seen_at read path) ≡ suc (read_count read)
step_width read (Variable node ty place global) = refl
step_width read (Fresh value) = begun_one (constant_in value) read value
step_width read (Field node ty base field) = refl
step_width read (Element node ty base index constant) = refl
step_width read (Deref ty base) = refl

-- a `case` looks at its selector alone
pub case_one : (ts : List Ty) (node : Node) (ty : Option Ty) (labels : List (List Label)) (selector : RustOperand) (rest : Args) →
    own_if numbers own_width (seen_of (Choose node ty (ByLabels labels) (operand_before ts selector rest)))
    ≡ part_width (Choosing (ByLabels labels) (looked_type (ByLabels labels) (operand_before ts selector NoArg)))
case_one ts node ty labels (A.Value value) rest = refl
case_one ts node ty labels (A.At path) rest = refl
