-- The lines of statements, in front of the lines that come behind.
use Rattle.std.specs.Prelude.{ℕ, suc, ◌+◌, Bool, true, false, ◌&&◌, if◌then◌else◌, List, [], ◌∷◌, Option, Some, None}
use Rattle.nim_types.specs.Types.{Ty, Facts}
use Rattle.nim_program.specs.declared.operation.Use.TheVariants.{Owned, Given, Looked}
use Rattle.nim_program.specs.declared.program.Mode.{Mode}
use Rattle.nim_program.specs.declared.stmt.Leaving.{Leaving}
use Rattle.nim_program.specs.declared.stmt.Leaving.TheVariants as K
use Rattle.nim_program.specs.Program.{Label, Building, ByConditions, ByLabels, Expr, Args, NoArg, ByValue, ByPath, Declared}
use Rattle.nim_program.specs.Program.{While, Count, Each, Stmt, Do, Idle, Give, Leave, Select, Loop, Raise, Try}
use Rattle.nim_program.specs.Program.{Stmts, Empty, Then, Declare, Defer, Blocks, Otherwise, Block, Param, Body}
use Rattle.nim_meaning.specs.Here.{is_hooked}
use Rattle.nim_meaning.specs.Meaning.{is_fresh}
use Rattle.nim_meaning.specs.Waiting.{waiting_all, waiting_first}
use Rattle.nim_meaning.specs.Shapes.{is_covered, selector_type, is_last_block}
use Rattle.flat_code.specs.declared.line.From.{From}
use Rattle.flat_code.specs.declared.line.From.TheVariants as F
use Rattle.flat_code.specs.declared.line.Owning.TheVariants as W
use Rattle.flat_code.specs.declared.line.Line.{Line}
use Rattle.flat_code.specs.declared.line.Line.TheVariants as L
use Rattle.flattening.specs.declared.numbers.Purpose.TheVariants.{End, Next, Arm, Turn}
use Rattle.flattening.specs.Numbering.{type_number, width, widths, arm_count, looked_from, behind_selector, width_in, width_of, label}
use Rattle.flattening.specs.ExprLines.{arm_label, label_tests, has_hooks, is_copied, find_lines, end_lines, value_ends}
use Rattle.flattening.specs.ExprLines.{lines, aim_lines, copied_lines, ready_lines}

-- What is around a statement: the lines by which control leaves by a `break`, a `continue` and a `return`, before the lines behind.
pub record Exits : Type 0 where
  pub breaks : List Line → List Line
  pub continues : List Line → List Line
  pub returns : List Line → List Line

abbrev pub leaving_by : Exits → Leaving → List Line → List Line
leaving_by exits K.Break k = exits.breaks k
leaving_by exits K.Continue k = exits.continues k
leaving_by exits K.Return k = exits.returns k

-- what ends before control leaves
abbrev pub ending : (List Line → List Line) → Exits → Exits
ending ends exits = record {
  breaks = λ k. ends (exits.breaks k);
  continues = λ k. ends (exits.continues k);
  returns = λ k. ends (exits.returns k);
}

-- inside a loop whose statement has number t
abbrev pub in_loop : Exits → (t : ℕ) → Exits
in_loop exits t = record exits { breaks = λ k. L.Jump (label End t) ∷ k; continues = λ k. L.Jump (label Next t) ∷ k }

abbrev pub back_lines : Exits → Bool → List Line → List Line
back_lines exits true k = exits.returns k
back_lines exits false k = k

-- the tests of all labels, whose arms have labels by a number each
abbrev pub block_tests : List (List Label) → Blocks → (selector arm : ℕ) → List Line → List Line
block_tests labels (Otherwise block) s arm k = k
block_tests [] (Block first rest) s arm k = k
block_tests (these ∷ labels) (Block first rest) s arm k = label_tests these s (label Arm arm) (block_tests labels rest s (suc arm) k)

-- where the operands of a head begin
abbrev pub second : Args → (t : ℕ) → ℕ
second (ByValue value rest) t = t + width value
second _ t = t

-- a place ends at an exit of its scope, where it has hooks
abbrev pub place_end : List Ty → Facts → Declared → List Line → List Line
place_end types facts place k = if is_hooked facts place.of then L.Own (W.PlaceEnds place.number (type_number types place.of)) [] ∷ k else k

module _ (types : List Ty) (facts : Facts) (modes : (proc position : ℕ) → Mode) (result : Option Declared) where
  -- the temporaries of the values of a head, and of a selector
  abbrev pub head_ends : Args → List Line → List Line
  head_ends head k = end_lines types (waiting_all facts modes head (λ i. Owned) 0) k

  abbrev pub selector_ends : Args → List Line → List Line
  selector_ends tests k = end_lines types (waiting_first facts modes tests) k

  -- the value of a head that is a head's operand alone
  abbrev pub test_ends : Args → List Line → List Line
  test_ends (ByValue condition rest) k = value_ends types facts modes condition Owned k
  test_ends head k = k

  -- the selector of a `case` comes to its temporary
  abbrev pub selector_lines : Args → (s : ℕ) → List Line → List Line
  selector_lines (ByValue selector rest) s k = lines types facts modes selector Looked s k
  selector_lines (ByPath path rest) s k =
      aim_lines types facts modes path (looked_from path s) (find_lines types facts path (looked_from path s) (L.Look s (looked_from path s) ∷ k))
  selector_lines NoArg s k = L.Zero s ∷ k

  -- the condition of a `while`
  abbrev pub test_lines : Args → (t : ℕ) → List Line → List Line
  test_lines (ByValue condition rest) t k = lines types facts modes condition Owned t k
  test_lines _ t k = L.Zero t ∷ k

  -- the path of a head is looked up
  abbrev pub look_up : Args → (t : ℕ) → List Line → List Line
  look_up (ByPath path rest) t k = find_lines types facts path t k
  look_up _ t k = k

  -- the result gets what has been evaluated, or a copy
  abbrev pub gets_line : Option Declared → (hooked : Bool) → From → List Line → List Line
  gets_line None hooked from k = k
  gets_line (Some place) true from k = L.Own (W.ResultGets place.number (type_number types place.of)) (from ∷ []) ∷ k
  gets_line (Some place) false (F.Value t) k = L.Give place.number t ∷ k
  gets_line (Some place) false (F.Place t) k = k

  abbrev pub give_lines : Expr → (t : ℕ) → List Line → List Line
  give_lines value t k = if is_copied facts Given value
      then copied_lines types facts modes value t (gets_line result true (F.Place (suc t)) k)
      else lines types facts modes value Given t (gets_line result (has_hooks facts value) (F.Value t) k)

  -- a declared place is filled with a value, or with a copy
  abbrev pub fill_lines : Declared → Expr → (t : ℕ) → List Line → List Line
  fill_lines place value t k = if is_copied facts Given value
      then copied_lines types facts modes value t (L.Own (W.PlaceCopies place.number (type_number types place.of)) (F.Place (suc t) ∷ []) ∷ k)
      else lines types facts modes value Given t (L.Fill place.number t ∷ k)

  -- The place of a loop gets the element that has a number: a copy of it, or, where the head is a value of its own, the place stands for it.
  abbrev pub hooked_element : (borrows : Bool) → Declared → (at : ℕ) → Line
  hooked_element true place at = L.Own (W.PlaceStands place.number) (F.Place at ∷ [])
  hooked_element false place at = L.Own (W.PlaceCopies place.number (type_number types place.of)) (F.Place at ∷ [])

  abbrev pub element_lines : (borrows : Bool) → Declared → (t head counter : ℕ) → List Line → List Line
  element_lines borrows place t head counter k = if is_hooked facts place.of
      then L.Item t head counter ∷ hooked_element borrows place t ∷ k
      else L.Element t head counter ∷ L.Fill place.number t ∷ k

  -- inside the scope of a place
  abbrev pub in_scope : Declared → Exits → Exits
  in_scope place exits = ending (place_end types facts place) exits

  abbrev mutual
    -- the numbers of a statement's parts begin with t
    pub lines_in : Stmt → Exits → (t : ℕ) → List Line → List Line
    lines_in (Do value) exits t k = lines types facts modes value Owned t (value_ends types facts modes value Owned k)
    lines_in (Idle node parts) exits t k = k
    lines_in (Give node back value) exits t k = give_lines value (suc t) (value_ends types facts modes value Given (back_lines exits back k))
    lines_in (Leave node leaving parts) exits t k = leaving_by exits leaving k
    lines_in (Select node ByConditions tests blocks) exits t k = branch_lines tests blocks exits t (suc t) (L.Label (label End t) ∷ k)
    lines_in (Select node (ByLabels labels) tests blocks) exits t k =
        selector_lines tests (suc t + arm_count (ByLabels labels))
        (block_tests labels blocks (suc t + arm_count (ByLabels labels)) (suc t)
        (L.Jump (label Next t)
        ∷ arm_blocks (is_covered (selector_type tests)) labels blocks (ending (selector_ends tests) exits) t (suc t)
        (behind_selector tests (suc t + arm_count (ByLabels labels))) (L.Label (label End t) ∷ selector_ends tests k)))
    lines_in (Loop node While head body) exits t k =
        L.Jump (label Next t)
        ∷ L.Label (label Turn t)
        ∷ lines_of body (in_loop exits t) (suc t + widths head)
        (L.Label (label Next t) ∷ test_lines head (suc t) (test_ends head (L.TurnIf (suc t) (label Turn t) ∷ L.Label (label End t) ∷ k)))
    lines_in (Loop node (Count place inclusive) head body) exits t k =
        ready_lines types facts modes (Building []) head (λ i. Owned) 0 (suc t)
        (L.Beyond (suc t) (second head (suc t)) inclusive (label End t)
        ∷ L.Enter
        ∷ L.Label (label Turn t)
        ∷ L.Fill place.number (suc t)
        ∷ lines_of body (in_scope place (in_loop (ending (head_ends head) exits) t)) (suc t + widths head)
        (place_end types facts place
        (L.Label (label Next t)
        ∷ L.CountTurn (suc t) (second head (suc t)) inclusive (label Turn t)
        ∷ L.Label (label End t)
        ∷ head_ends head k)))
    lines_in (Loop node (Each place) head body) exits t k =
        ready_lines types facts modes (Building []) head (λ i. Owned) 0 (suc t + 2)
        (look_up head (suc t + 2)
        (L.Length (suc (suc t)) (suc t + 2)
        ∷ L.Zero (suc t)
        ∷ L.Jump (label Arm t)
        ∷ L.Label (label Turn t)
        ∷ lines_of body (in_scope place (in_loop (ending (head_ends head) exits) t)) (suc t + 2 + widths head)
        (place_end types facts place
        (L.Label (label Next t)
        ∷ L.Next (suc t) (suc (suc t))
        ∷ L.Label (label Arm t)
        ∷ L.Beyond (suc t) (suc (suc t)) false (label End t)
        ∷ look_up head (suc t + 2)
        (L.Still (suc t + 2) (suc (suc t))
        ∷ element_lines (is_fresh head) place t (suc t + 2) (suc t)
        (L.Turn (label Turn t)
        ∷ L.Label (label End t)
        ∷ head_ends head k))))))
    -- exceptions have no lines yet
    lines_in (Raise node exception message) exits t k = k
    lines_in (Try node body handlers last) exits t k = k

    pub lines_of : Stmts → Exits → (t : ℕ) → List Line → List Line
    lines_of Empty exits t k = k
    lines_of (Then first rest) exits t k = lines_in first exits t (lines_of rest exits (t + width_in first) k)
    lines_of (Declare node place cursor NoArg rest) exits t k =
        L.Blank place.number (type_number types place.of) ∷ lines_of rest (in_scope place exits) (suc t) (place_end types facts place k)
    lines_of (Declare node place cursor (ByValue value more) rest) exits t k =
        fill_lines place value (suc t)
        (value_ends types facts modes value Given
        (lines_of rest (in_scope place exits) (suc t + widths (ByValue value more)) (place_end types facts place k)))
    lines_of (Declare node place cursor (ByPath path more) rest) exits t k = k
    lines_of (Defer node last rest) exits t k = k

    -- the block behind the first condition that holds; the parts' numbers begin with u, conditions first
    pub branch_lines : Args → Blocks → Exits → (t u : ℕ) → List Line → List Line
    branch_lines NoArg (Otherwise block) exits t u k = lines_of block exits u k
    branch_lines NoArg (Block first rest) exits t u k = lines_of first exits u k
    branch_lines (ByPath path tests) blocks exits t u k = k
    branch_lines (ByValue condition tests) (Otherwise block) exits t u k = k
    branch_lines (ByValue condition tests) (Block first rest) exits t u k =
        lines types facts modes condition Owned u
        (value_ends types facts modes condition Owned
        (L.Unless u (label Arm u)
        ∷ lines_of first exits (u + width condition)
        (L.Jump (label End t)
        ∷ L.Label (label Arm u)
        ∷ branch_lines tests rest exits t (u + width condition + width_of first) k)))

    -- The blocks of a `case`, and at last the one for all else. Where the labels cover the type, that is the last block.
    pub arm_blocks : (covered : Bool) → List (List Label) → Blocks → Exits → (t arm u : ℕ) → List Line → List Line
    arm_blocks covered labels (Otherwise block) exits t arm u k = L.Label (label Next t) ∷ lines_of block exits u k
    arm_blocks covered [] (Block first rest) exits t arm u k = L.Label (label Next t) ∷ lines_of first exits u k
    arm_blocks covered (these ∷ labels) (Block first rest) exits t arm u k =
        arm_label (covered && is_last_block rest) (label Next t) (label Arm arm)
        (lines_of first exits u
        (if covered && is_last_block rest then k else L.Jump (label End t) ∷ arm_blocks covered labels rest exits t (suc arm) (u + width_of first) k))

-- ---- bodies

abbrev pub number_of : Option Declared → Option ℕ
number_of None = None
number_of (Some place) = Some place.number

-- control goes back to the caller
abbrev pub returned : Option Declared → List Line → List Line
returned result k = L.Return (number_of result) ∷ k

-- the parameters end in reverse order
abbrev pub param_ends : List Ty → Facts → List Param → List Line → List Line
param_ends types facts [] k = k
param_ends types facts (param ∷ params) k = param_ends types facts params (place_end types facts param.place k)

-- nothing is around a body but its caller
abbrev pub outermost : (List Line → List Line) → Exits
outermost returns = record { breaks = λ k. k; continues = λ k. k; returns = returns }

abbrev pub body_lines : List Ty → Facts → (modes : (proc position : ℕ) → Mode) → List Param → Body → List Line
body_lines types facts modes params body =
    lines_of types facts modes body.result body.stmts (outermost (λ k. param_ends types facts params (returned body.result k))) 0
    (param_ends types facts params (returned body.result []))
