-- The temporaries of a part have its numbers.
use Rattle.std.proofs.Common.{◌≡◌, ℕ, suc, ◌+◌, ◌<◌, ◌≤◌, Bool, true, false, List, [], Option, Some, None, refl, arith}
use Rattle.std.specs.Prelude.{if◌then◌else◌}
use Rattle.nim_types.specs.Types.{Ty, Facts}
use Rattle.nim_program.specs.declared.expr.Node.{Node}
use Rattle.nim_program.specs.declared.operation.Use.{Use}
use Rattle.nim_program.specs.declared.program.Mode.{Mode}
use Rattle.nim_program.specs.Program.{Act, ByConditions, ByLabels, Expr, Apply, Read, Early, Choose, Declared, type_of, node_of}
use Rattle.nim_program.specs.Program.{Path, Variable, Fresh, Field, Element, Deref, Args, NoArg, ByValue, ByPath, type_at, node_at}
use Rattle.nim_program.specs.Program.{Kind, While, Count, Each as OfEach, Stmt, Do, Idle, Give, Leave, Select, Loop, Raise, Try}
use Rattle.nim_program.specs.Program.{Stmts, Empty, Then, Declare, Defer, Blocks, Otherwise, Block}
use Rattle.nim_program.specs.Program.{Literal, Label, is_written, constant_in}
use Rattle.nim_program.specs.Folds.{if_constant, begun_by, looked_type}
use Rattle.nim_program.specs.Uses.{use_of}
use Rattle.nim_meaning.specs.Here.{is_hooked}
use Rattle.nim_meaning.specs.Shapes.{has_node}
use Rattle.flat_code.specs.declared.place.PlaceKind.{PlaceKind}
use Rattle.flat_code.specs.declared.place.PlaceKind.TheVariants as K
use Rattle.flat_code.specs.Fits.{is_declared}
use Rattle.flattening.specs.Numbering.{own_width, width, width_at, widths, arm_count, looked_count, selector_from, behind_selector, width_in, width_of}
use Rattle.flattening.specs.Places.{kind_of_path, head_from, temporary, value_at, location, selector_place, lent_place}
use Rattle.flattening.specs.Places.{expr_places, path_places, operand_places, part_places, element_kind}
use Rattle.flattening.specs.ExprLines.{is_lent_at}
use Rattle.flattening.specs.Places.{loop_places, value_places, behind_value, stmt_places, block_places, branch_places, arm_places}
use Rattle.flattening.proofs.Numbered.{Numbered, numbered_none, numbered_one, ◌>>◌, numbered_wide}
use Rattle.flattening.proofs.Widths.{same_width, read_width, some_width, some_width_at, width_of_blocks, turn_width}

-- where the parts of a choice by labels begin
pub selector_begins : (labels : List (List Label)) (parts : Args) (s : ℕ) →
    selector_from parts s ≡ s + looked_count (looked_type (ByLabels labels) parts)
selector_begins labels NoArg s = omega arith
selector_begins labels (ByValue value rest) s = omega arith
selector_begins labels (ByPath path rest) s = refl

module _ (types : List Ty) (facts : Facts) (modes : (proc position : ℕ) → Mode) where
  pub temporary_number : {lo hi : ℕ} (node : Node) (ty : Option Ty) (kind : PlaceKind) (t : ℕ) → is_declared kind ≡ false → lo ≤ t → t < hi →
      Numbered lo hi (temporary types facts modes node ty kind t)
  temporary_number node None kind t e low high = numbered_none
  temporary_number node (Some ty) kind t e low high = numbered_one _ e low high

  pub value_number : {lo hi : ℕ} (may : Bool) (node : Node) (ty : Option Ty) (t : ℕ) → lo ≤ t → t < hi →
      Numbered lo hi (value_at types facts modes may node ty t)
  value_number may node None t low high = numbered_none
  value_number may node (Some ty) t low high = numbered_one _ refl low high

  looked_number : {lo hi : ℕ} (node : Node) (ty : Option Ty) (s : ℕ) → lo ≤ s → s + looked_count ty ≤ hi →
      Numbered lo hi (value_at types facts modes false node ty s)
  looked_number node None s low high = numbered_none
  looked_number node (Some ty) s low high = numbered_one _ refl low (omega (arith, high))

  -- the value of a selector that is read in place, before its path
  pub selector_number : {lo hi : ℕ} (parts : Args) (s : ℕ) → lo ≤ s → selector_from parts s ≤ hi → Numbered lo hi (selector_place types facts modes parts s)
  selector_number NoArg s low high = numbered_none
  selector_number (ByValue value rest) s low high = numbered_none
  selector_number (ByPath path rest) s low high = looked_number (node_at path) (type_at path) s low high

  -- of what a path begins with, behind its location
  begun_number : (constant : Option Literal) (value : Expr) (t : ℕ) → Numbered (suc t) (suc t + width value) (expr_places types facts modes value (suc t)) →
      Numbered t (t + if_constant constant (own_width (begun_by constant false value)) (own_width (begun_by constant false value) + width value))
      (if_constant constant [] (expr_places types facts modes value (suc t)))
  begun_number None value t numbers = numbered_wide (omega arith) (omega arith) numbers
  begun_number (Some literal) value t numbers = numbered_none

  -- no location of a path is a declared place
  by_written : (b : Bool) → is_declared (if b then K.Location else K.Within) ≡ false
  by_written true = refl
  by_written false = refl

  pub location_number : {lo hi : ℕ} (path : Path) (t : ℕ) → lo ≤ t → t < hi → Numbered lo hi (location types facts modes path t)
  location_number path t low high = temporary_number (node_at path) (type_at path) (kind_of_path path) t (by_written (is_written path)) low high

  -- where a value is lent
  pub lent_number : {lo hi : ℕ} (act : Act) (how : Use) (value : Expr) (t : ℕ) → lo ≤ t → t < hi →
      Numbered lo hi (lent_place types facts modes act how value t)
  lent_number {lo} {hi} act how value t low high = by (is_lent_at facts act how value)
    where
      by : (b : Bool) → Numbered lo hi (if b then temporary types facts modes (node_of value) (type_of value) K.Within t else [])
      by true = temporary_number (node_of value) (type_of value) K.Within t refl low high
      by false = numbered_none

  mutual
    pub expr_numbers : (e : Expr) (t : ℕ) → Numbered t (t + width e) (expr_places types facts modes e t)
    expr_numbers (Apply node ty act operands) t =
        value_number true node ty t (omega arith) (omega arith)
        >> numbered_wide (omega arith) (omega arith) (operand_numbers act operands (use_of modes act) 0 (suc t))
    expr_numbers (Read path) t =
        let w = read_width path in
        value_number (has_node path) (node_at path) (type_at path) t (omega arith) (omega (arith, w)) >> numbered_wide (omega arith) (omega (arith, w))
        (path_numbers path (suc t))
    expr_numbers (Early node ty short left right) t =
        value_number true node (Some ty) t (omega arith) (omega arith)
        >> (numbered_wide (omega arith) (omega arith) (expr_numbers left (suc t))
        >> numbered_wide (omega arith) (omega arith) (expr_numbers right (suc t + width left)))
    expr_numbers (Choose node ty ByConditions parts) t =
        value_number true node ty t (omega arith) (omega arith) >> numbered_wide (omega arith) (omega arith) (part_numbers parts (suc t))
    expr_numbers (Choose node ty (ByLabels labels) parts) t =
        let s = suc t + arm_count (ByLabels labels) in
        let e = selector_begins labels parts s in
        value_number true node ty t (omega arith) (omega arith)
        >> (selector_number parts s (omega arith) (omega (arith, e)) >> numbered_wide (omega (arith, e)) (omega (arith, e))
        (part_numbers parts (selector_from parts s)))

    pub path_numbers : (path : Path) (t : ℕ) → Numbered t (t + width_at path) (path_places types facts modes path t)
    path_numbers (Variable node ty place global) t = location_number (Variable node ty place global) t (omega arith) (omega arith)
    path_numbers (Fresh value) t =
        let w = some_width_at (Fresh value) in
        location_number (Fresh value) t (omega arith) (omega (arith, w)) >> begun_number (constant_in value) value t (expr_numbers value (suc t))
    path_numbers (Field node ty base field) t =
        let w = same_width base in
        location_number (Field node ty base field) t (omega arith) (omega arith) >> numbered_wide (omega arith) (omega (arith, w)) (path_numbers base (suc t))
    path_numbers (Element node ty base index constant) t =
        let w = same_width base in
        location_number (Element node ty base index constant) t (omega arith) (omega arith)
        >> (numbered_wide (omega arith) (omega (arith, w)) (path_numbers base (suc t))
        >> numbered_wide (omega arith) (omega (arith, w)) (expr_numbers index (suc t + width_at base)))
    path_numbers (Deref ty base) t =
        let w = same_width base in
        location_number (Deref ty base) t (omega arith) (omega arith) >> numbered_wide (omega arith) (omega (arith, w)) (path_numbers base (suc t))

    pub operand_numbers : (act : Act) (args : Args) (uses : (position : ℕ) → Use) (i t : ℕ) →
        Numbered t (t + widths args) (operand_places types facts modes act args uses i t)
    operand_numbers act NoArg uses i t = numbered_none
    operand_numbers act (ByValue value rest) uses i t =
        let w = some_width value in
        numbered_wide (omega arith) (omega arith) (expr_numbers value t)
        >> (lent_number act (uses i) value t (omega arith) (omega (arith, w))
        >> numbered_wide (omega arith) (omega arith) (operand_numbers act rest uses (suc i) (t + width value)))
    operand_numbers act (ByPath path rest) uses i t =
        numbered_wide (omega arith) (omega arith) (path_numbers path t)
        >> numbered_wide (omega arith) (omega arith) (operand_numbers act rest uses (suc i) (t + width_at path))

    pub part_numbers : (args : Args) (t : ℕ) → Numbered t (t + widths args) (part_places types facts modes args t)
    part_numbers NoArg t = numbered_none
    part_numbers (ByValue value rest) t =
        numbered_wide (omega arith) (omega arith) (expr_numbers value t)
        >> numbered_wide (omega arith) (omega arith) (part_numbers rest (t + width value))
    part_numbers (ByPath path rest) t =
        numbered_wide (omega arith) (omega arith) (path_numbers path t)
        >> numbered_wide (omega arith) (omega arith) (part_numbers rest (t + width_at path))

  -- ---- statements

  -- the element of a turn
  pub element_undeclared : (variable : Declared) (head : Args) → is_declared (element_kind types facts modes variable head) ≡ false
  element_undeclared variable (ByPath path rest) = by (is_hooked facts variable.of)
    where
      by : (b : Bool) → is_declared (if b then kind_of_path path else K.Temp) ≡ false
      by true = by_written (is_written path)
      by false = refl
  element_undeclared variable NoArg = refl
  element_undeclared variable (ByValue value rest) = refl

  pub loop_numbers : {lo hi : ℕ} (node : Node) (kind : Kind) (head : Args) (t : ℕ) → lo ≤ t → head_from kind t ≤ hi →
      Numbered lo hi (loop_places types facts modes node kind head t)
  loop_numbers node While head t low high = numbered_none
  loop_numbers node (Count variable inclusive) head t low high = numbered_none
  loop_numbers node (OfEach variable) head t low high =
      numbered_one _ (element_undeclared variable head) low (omega (arith, high))
      >> (numbered_one _ refl (omega (arith, low)) (omega (arith, high)) >> numbered_one _ refl (omega (arith, low)) (omega (arith, high)))

  pub head_after : (kind : Kind) (t : ℕ) → suc t ≤ head_from kind t
  head_after While t = omega arith
  head_after (Count variable inclusive) t = omega arith
  head_after (OfEach variable) t = omega arith

  pub value_numbers : (value : Args) (t : ℕ) → Numbered t (t + widths value) (value_places types facts modes value t)
  value_numbers NoArg t = numbered_none
  value_numbers (ByValue value rest) t = numbered_wide (omega arith) (omega arith) (expr_numbers value t)
  value_numbers (ByPath path rest) t = numbered_none

  pub behind_is : (value : Args) (t : ℕ) → behind_value types facts modes value t ≡ suc t + widths value
  behind_is NoArg t = omega arith
  behind_is (ByValue value rest) t = refl
  behind_is (ByPath path rest) t = refl

  pub head_width : (node : Node) (kind : Kind) (head : Args) (body : Stmts) (t : ℕ) →
      head_from kind t + widths head + width_of body ≡ t + width_in (Loop node kind head body)
  head_width node While head body t = omega arith
  head_width node (Count variable inclusive) head body t = omega arith
  head_width node (OfEach variable) head body t = omega arith

  mutual
    pub stmt_numbers : (s : Stmt) (t : ℕ) → Numbered t (t + width_in s) (stmt_places types facts modes s t)
    stmt_numbers (Do value) t = expr_numbers value t
    stmt_numbers (Idle node parts) t = numbered_none
    stmt_numbers (Give node back value) t = numbered_wide (omega arith) (omega arith) (expr_numbers value (suc t))
    stmt_numbers (Leave node leaving parts) t = numbered_none
    stmt_numbers (Select node ByConditions tests blocks) t =
        let w = turn_width tests blocks in numbered_wide (omega arith) (omega (arith, w)) (branch_numbers tests blocks (suc t))
    stmt_numbers (Select node (ByLabels labels) tests blocks) t =
        let s = suc t + arm_count (ByLabels labels) in
        let e = selector_begins labels tests s in
        let w = turn_width tests blocks in
        selector_number tests s (omega arith) (omega (arith, e, w))
        >> (numbered_wide (omega (arith, e)) (omega (arith, e, w)) (part_numbers tests (selector_from tests s))
        >> numbered_wide (omega (arith, e)) (omega (arith, e, w)) (arm_numbers blocks (behind_selector tests s)))
    stmt_numbers (Loop node kind head body) t =
        let h = head_after kind t in
        let e = head_width node kind head body t in
        loop_numbers node kind head t (omega arith) (omega (arith, e))
        >> (numbered_wide (omega (arith, h)) (omega (arith, e)) (part_numbers head (head_from kind t))
        >> numbered_wide (omega (arith, h)) (omega (arith, e)) (block_numbers body (head_from kind t + widths head)))
    stmt_numbers (Raise node exception message) t = numbered_none
    stmt_numbers (Try node body handlers last) t = numbered_none

    pub block_numbers : (block : Stmts) (t : ℕ) → Numbered t (t + width_of block) (block_places types facts modes block t)
    block_numbers Empty t = numbered_none
    block_numbers (Then first rest) t =
        numbered_wide (omega arith) (omega arith) (stmt_numbers first t)
        >> numbered_wide (omega arith) (omega arith) (block_numbers rest (t + width_in first))
    block_numbers (Declare node place cursor value rest) t =
        let e = behind_is value t in
        numbered_wide (omega arith) (omega arith) (value_numbers value (suc t))
        >> numbered_wide (omega (arith, e)) (omega (arith, e)) (block_numbers rest (behind_value types facts modes value t))
    block_numbers (Defer node last rest) t = numbered_none

    pub branch_numbers : (tests : Args) (blocks : Blocks) (t : ℕ) →
        Numbered t (t + (widths tests + width_of_blocks blocks)) (branch_places types facts modes tests blocks t)
    branch_numbers NoArg (Otherwise block) t = numbered_wide (omega arith) (omega arith) (block_numbers block t)
    branch_numbers NoArg (Block first rest) t = numbered_wide (omega arith) (omega arith) (block_numbers first t)
    branch_numbers (ByPath path tests) (Otherwise block) t = numbered_none
    branch_numbers (ByPath path tests) (Block first rest) t = numbered_none
    branch_numbers (ByValue condition tests) (Otherwise block) t = numbered_none
    branch_numbers (ByValue condition tests) (Block first rest) t =
        numbered_wide (omega arith) (omega arith) (expr_numbers condition t)
        >> (numbered_wide (omega arith) (omega arith) (block_numbers first (t + width condition))
        >> numbered_wide (omega arith) (omega arith) (branch_numbers tests rest (t + width condition + width_of first)))

    pub arm_numbers : (blocks : Blocks) (t : ℕ) → Numbered t (t + width_of_blocks blocks) (arm_places types facts modes blocks t)
    arm_numbers (Otherwise block) t = block_numbers block t
    arm_numbers (Block first rest) t =
        numbered_wide (omega arith) (omega arith) (block_numbers first t)
        >> numbered_wide (omega arith) (omega arith) (arm_numbers rest (t + width_of first))
