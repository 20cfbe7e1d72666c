-- The lines of expressions, in front of the lines that come behind.
use Rattle.std.specs.Prelude.{ℕ, zero, suc, ◌+◌, Bool, true, false, not, ◌&&◌, ◌||◌, if◌then◌else◌, List, [], ◌∷◌, Option, Some, None}
use Rattle.nim_types.specs.Types.{Ty, Facts}
use Rattle.nim_program.specs.declared.operation.Operation.TheVariants as O
use Rattle.nim_program.specs.declared.operation.Short.{Short}
use Rattle.nim_program.specs.declared.operation.Short.TheVariants.{And, Or}
use Rattle.nim_program.specs.declared.operation.Use.{Use}
use Rattle.nim_program.specs.declared.operation.Use.TheVariants.{Owned, Held, Looked}
use Rattle.nim_program.specs.declared.program.Mode.{Mode}
use Rattle.nim_program.specs.Program.{Literal, Characters, Label, Ordinals, Exactly, Act, Doing, Building, Giving, Calling, ByConditions, ByLabels}
use Rattle.nim_program.specs.Program.{Expr, Apply, Read, Early, Choose, Path, Variable, Fresh, Field, Element, Deref, Args, NoArg, ByValue, ByPath}
use Rattle.nim_program.specs.Program.{type_of, type_at, node_of, node_at, types_in, constant_in}
use Rattle.nim_program.specs.Folds.{if_constant}
use Rattle.nim_program.specs.Uses.{use_of}
use Rattle.flat_code.specs.declared.line.From.{From}
use Rattle.flat_code.specs.declared.line.From.TheVariants as F
use Rattle.flat_code.specs.declared.line.UseAt.{UseAt}
use Rattle.flat_code.specs.declared.line.Owning.TheVariants as W
use Rattle.flat_code.specs.declared.line.Line.{Line}
use Rattle.flat_code.specs.declared.line.Line.TheVariants as L
use Rattle.nim_program.specs.declared.expr.Label.{Label as RustLabel}
use Rattle.nim_program.specs.declared.expr.Label.TheVariants as C
use Rattle.nim_meaning.specs.Here.{gives_hooked}
use Rattle.nim_meaning.specs.Shapes.{is_read, is_lent, is_given, waits, is_text, is_covered, is_last_value}
use Rattle.nim_meaning.specs.Waiting.{Wait, waiting, held_from, held_if}
use Rattle.flat_code.specs.Pieces.{pieces_of}
use Rattle.flattening.specs.declared.numbers.Purpose.TheVariants.{End, Next, Arm}
use Rattle.flattening.specs.Numbering.{type_number, number_or, if_number, all_numbers, arm_count, looked_from, width, width_at, label}

-- ---- how operands are handed on

abbrev pub use_at : Use → (node : ℕ) → UseAt
use_at how node = record { how = how; node = node }

abbrev pub is_one_text : Option Literal → Bool
is_one_text (Some (Characters text)) = true
is_one_text constant = false

module _ (facts : Facts) where
  abbrev pub has_hooks : Expr → Bool
  has_hooks value = gives_hooked facts (type_of value)

  -- a place gets a copy of what stands at a path: by where the path leads
  abbrev pub is_copied : Use → Expr → Bool
  is_copied how value = has_hooks value && (is_given how && is_read value)

  -- what is lent has a location: where it waits, or where the text of a literal stands. A row takes such a text as it is.
  abbrev pub is_call : Act → Bool
  is_call (Calling proc types) = true
  is_call act = false

  abbrev pub is_lent_at : Act → Use → Expr → Bool
  is_lent_at act how value = has_hooks value && (is_lent how && (is_call act || not (is_text value)))

  -- the text of a literal stands in the data, where a call is lent it
  abbrev pub is_lent_text : Act → Use → Expr → Bool
  is_lent_text act how value = is_lent_at act how value && is_one_text (constant_in value)

  -- the node at which a value with hooks waits; nobody owns the text of a literal
  abbrev pub waits_at : Expr → Option ℕ
  waits_at value = if has_hooks value && not (is_text value) then Some (node_of value).number else None

  -- an operand whose numbers begin with t
  abbrev pub from_of : Act → Use → Expr → (t : ℕ) → From
  from_of act how value t = if is_copied how value then F.Place (suc t) else if is_lent_at act how value then F.Place t else F.Value t

  abbrev pub froms : Act → Args → (uses : (position : ℕ) → Use) → (position t : ℕ) → List From
  froms act NoArg uses i t = []
  froms act (ByValue value rest) uses i t = from_of act (uses i) value t ∷ froms act rest uses (suc i) (t + width value)
  froms act (ByPath path rest) uses i t = F.Place t ∷ froms act rest uses (suc i) (t + width_at path)

  -- behind its value
  abbrev pub lent_line : Act → Use → Expr → (t : ℕ) → List Line → List Line
  lent_line act how value t k = if is_lent_at act how value then L.Fresh t t (waits_at value) ∷ k else k

module _ (types : List Ty) (facts : Facts) where
  -- a path begins that no name begins: at a constant of a type, where it stands, or at the value in the next temporary
  abbrev pub begin_line : Option Literal → Expr → (t : ℕ) → Line
  begin_line None value t = L.Fresh t (suc t) (if has_hooks facts value then Some (node_of value).number else None)
  begin_line (Some literal) value t = L.Standing t (number_or types (type_of value)) (pieces_of literal)

  -- a path whose indexes are evaluated is looked up: a line for each of its steps, which leads to temporary t
  abbrev pub find_lines : Path → (t : ℕ) → List Line → List Line
  find_lines (Variable node ty place global) t k = L.Root t place global ∷ k
  find_lines (Fresh value) t k = begin_line (constant_in value) value t ∷ k
  find_lines (Field node ty base field) t k = find_lines base (suc t) (L.Part t (suc t) field ∷ k)
  find_lines (Element node ty base index constant) t k = find_lines base (suc t) (L.Item t (suc t) (suc t + width_at base) ∷ k)
  find_lines (Deref ty base) t k = find_lines base (suc t) (L.Object t (suc t) ∷ k)

  -- the places of operands, behind the last operand
  abbrev pub settle_lines : Args → (t : ℕ) → List Line → List Line
  settle_lines NoArg t k = k
  settle_lines (ByValue value rest) t k = settle_lines rest (t + width value) k
  settle_lines (ByPath path rest) t k = find_lines path t (settle_lines rest (t + width_at path) k)

-- ---- what waits

-- an operation takes what it holds
abbrev pub taken_lines : List ℕ → List Line → List Line
taken_lines [] k = k
taken_lines (node ∷ nodes) k = L.Own (W.TakenUp node) [] ∷ taken_lines nodes k

-- temporaries end, the last one first
abbrev pub end_lines : List Ty → List Wait → List Line → List Line
end_lines types [] k = k
end_lines types (w ∷ ws) k = end_lines types ws (L.Own (W.TemporaryEnds w.node (number_or types w.of)) [] ∷ k)

-- ---- a `case`

abbrev pub written_label : Label → RustLabel
written_label (Ordinals low high) = C.Ordinals low high
written_label (Exactly text) = C.Text text

-- the tests of a branch's labels
abbrev pub label_tests : List Label → (selector arm : ℕ) → List Line → List Line
label_tests [] s arm k = k
label_tests (these ∷ labels) s arm k = L.Fits s (written_label these) arm ∷ label_tests labels s arm k

-- the tests of all branches, whose arms have labels by the numbers of their values
abbrev pub value_tests : List (List Label) → Args → (selector t : ℕ) → List Line → List Line
value_tests labels NoArg s t k = k
value_tests labels (ByPath path rest) s t k = k
value_tests [] (ByValue value rest) s t k = k
value_tests (these ∷ labels) (ByValue value rest) s t k = label_tests these s (label Arm t) (value_tests labels rest s (t + width value) k)

-- where an arm begins, and where what no label fits leads to it
abbrev pub arm_label : Bool → (other arm : ℕ) → List Line → List Line
arm_label true other arm k = L.Label other ∷ L.Label arm ∷ k
arm_label false other arm k = L.Label arm ∷ k

-- the numbers of types, what is known of them, and what parameters are to callers
module _ (types : List Ty) (facts : Facts) (modes : (proc position : ℕ) → Mode) where
  -- what is done with operands, by one line
  abbrev pub act_line : (t : ℕ) → Act → UseAt → Option Ty → List (Option Ty) → List From → Line
  act_line t (Doing operation) how ty of from = L.Apply t operation how (if_number types ty) (all_numbers types of) from
  act_line t (Building fields) how None of from = L.Construct t how zero fields from
  act_line t (Building fields) how (Some ty) of from = L.Construct t how (type_number types ty) fields from
  act_line t (Giving literal) how None of from = L.Constant t how zero (pieces_of literal)
  act_line t (Giving literal) how (Some ty) of from = L.Constant t how (type_number types ty) (pieces_of literal)
  act_line t (Calling proc of_params) how ty of from = L.Call t how (if_number types ty) proc from

  -- the value of a call waits, if it does
  abbrev pub back_line : (t : ℕ) → Act → UseAt → Option Ty → List Line → List Line
  back_line t (Calling proc of_params) how ty k =
      if gives_hooked facts ty && waits how.how then L.Own (W.Waits how.node) (F.Value t ∷ []) ∷ k else k
  back_line t act how ty k = k

  -- no branch is chosen: the default of the type
  abbrev pub none_fits : (t : ℕ) → Option Ty → UseAt → Line
  none_fits t ty how = L.Apply t O.Default how (if_number types ty) [] []

  -- the value of a branch is handed on, and that of the whole used
  abbrev pub handed_on : (t from : ℕ) → UseAt → Option Ty → Line
  handed_on t from how ty = L.Pass t from how (if_number types ty)

  -- the lines in front of the right operand, and behind it
  abbrev pub early_lines : Short → (t left : ℕ) → List Line → List Line
  early_lines And t s k = L.Truth t false ∷ L.Unless s (label End t) ∷ k
  early_lines Or t s k = L.Truth t true ∷ L.Unless s (label Next t) ∷ L.Jump (label End t) ∷ L.Label (label Next t) ∷ k

  -- the use of a branch's value, and what ends behind it: one with hooks waits meanwhile
  abbrev pub branch_use : Expr → Use
  branch_use value = if has_hooks facts value then Held else Owned

  abbrev pub branch_ends : Expr → List Line → List Line
  branch_ends value k =
      end_lines types (waiting facts modes value Owned) (taken_lines (held_if (has_hooks facts value) (node_of value).number []) k)

  abbrev pub value_ends : Expr → Use → List Line → List Line
  value_ends value how k = end_lines types (waiting facts modes value how) k

  abbrev mutual
    -- The value of an expression comes to temporary t. The numbers of its parts follow.
    pub lines : Expr → Use → (t : ℕ) → List Line → List Line
    lines (Apply node ty act operands) how t k =
        ready_lines act operands (use_of modes act) 0 (suc t) (settle_lines types facts operands (suc t)
        (taken_lines (held_from facts modes operands (use_of modes act) 0)
        (act_line t act (use_at how node.number) ty (types_in operands) (froms facts act operands (use_of modes act) 0 (suc t))
        ∷ back_line t act (use_at how node.number) ty k)))
    lines (Read path) how t k =
        aim_lines path (suc t)
        (find_lines types facts path (suc t) (L.Get t (suc t) (use_at how (node_at path).number) (if_number types (type_at path)) ∷ k))
    lines (Early node ty short left right) how t k =
        lines left Owned (suc t)
        (early_lines short t (suc t)
        (lines right Owned (suc t + width left) (L.Pass t (suc t + width left) (use_at how node.number) None ∷ L.Label (label End t) ∷ k)))
    lines (Choose node ty ByConditions parts) how t k = choice_lines parts ty (use_at how node.number) t (suc t) (L.Label (label End t) ∷ k)
    lines (Choose node ty (ByLabels labels) parts) how t k =
        select_lines labels parts ty (use_at how node.number) t (suc t + arm_count (ByLabels labels)) (L.Label (label End t) ∷ k)

    -- what a path needs before it is looked up: the fresh value that it begins with, and its indexes
    pub aim_lines : Path → (t : ℕ) → List Line → List Line
    aim_lines (Variable node ty place global) t k = k
    aim_lines (Fresh value) t k = if_constant (constant_in value) k (lines value Looked (suc t) k)
    aim_lines (Field node ty base field) t k = aim_lines base (suc t) k
    aim_lines (Element node ty base index constant) t k = aim_lines base (suc t) (lines index Owned (suc t + width_at base) k)
    aim_lines (Deref ty base) t k = aim_lines base (suc t) k

    -- where a place copies from
    pub copied_lines : Expr → (t : ℕ) → List Line → List Line
    copied_lines (Read path) t k = aim_lines path (suc t) (find_lines types facts path (suc t) k)
    copied_lines value t k = k

    -- operands from a position on, before places are looked up
    pub ready_lines : Act → Args → (uses : (position : ℕ) → Use) → (position t : ℕ) → List Line → List Line
    ready_lines act NoArg uses i t k = k
    ready_lines act (ByValue value rest) uses i t k = if is_copied facts (uses i) value
        then copied_lines value t (ready_lines act rest uses (suc i) (t + width value) k)
        else if is_lent_text facts act (uses i) value
        then begin_line types facts (constant_in value) value t ∷ ready_lines act rest uses (suc i) (t + width value) k
        else lines value (uses i) t (lent_line facts act (uses i) value t (ready_lines act rest uses (suc i) (t + width value) k))
    ready_lines act (ByPath path rest) uses i t k = aim_lines path t (ready_lines act rest uses (suc i) (t + width_at path) k)

    -- the value behind the first condition that holds comes to temporary t; the parts' numbers begin with u
    pub choice_lines : Args → Option Ty → UseAt → (t u : ℕ) → List Line → List Line
    choice_lines NoArg ty how t u k = none_fits t ty how ∷ k
    choice_lines (ByPath path rest) ty how t u k = none_fits t ty how ∷ k
    choice_lines (ByValue last NoArg) ty how t u k = lines last (branch_use last) u (branch_ends last (handed_on t u how ty ∷ k))
    choice_lines (ByValue condition (ByPath path rest)) ty how t u k = none_fits t ty how ∷ k
    choice_lines (ByValue condition (ByValue value rest)) ty how t u k =
        lines condition Owned u
        (value_ends condition Owned
        (L.Unless u (label Arm u)
        ∷ lines value (branch_use value) (u + width condition)
        (branch_ends value
        (handed_on t (u + width condition) how ty
        ∷ L.Jump (label End t)
        ∷ L.Label (label Arm u)
        ∷ choice_lines rest ty how t (u + width condition + width value) k))))

    -- the selector, whose value comes to temporary s, the tests of all labels, and the branches
    pub select_lines : List (List Label) → Args → Option Ty → UseAt → (t s : ℕ) → List Line → List Line
    select_lines labels NoArg ty how t s k = none_fits t ty how ∷ k
    select_lines labels (ByValue selector rest) ty how t s k =
        lines selector Looked s
        (value_tests labels rest s (s + width selector)
        (L.Jump (label Next t) ∷ arm_lines (is_covered (type_of selector)) labels rest ty how t (s + width selector) k))
    select_lines labels (ByPath path rest) ty how t s k =
        aim_lines path (looked_from path s)
        (find_lines types facts path (looked_from path s)
        (L.Look s (looked_from path s)
        ∷ value_tests labels rest s (looked_from path s + width_at path) (L.Jump (label Next t) ∷ arm_lines (is_covered (type_at path)) labels rest ty how t
        (looked_from path s + width_at path) k)))

    -- The branches, and at last what is done where no label fits. Where the labels cover the type, that is the last branch.
    pub arm_lines : (covered : Bool) → List (List Label) → Args → Option Ty → UseAt → (t u : ℕ) → List Line → List Line
    arm_lines covered labels NoArg ty how t u k = L.Label (label Next t) ∷ none_fits t ty how ∷ k
    arm_lines covered labels (ByPath path rest) ty how t u k = L.Label (label Next t) ∷ none_fits t ty how ∷ k
    arm_lines covered [] (ByValue value rest) ty how t u k =
        L.Label (label Next t) ∷ lines value (branch_use value) u (branch_ends value (handed_on t u how ty ∷ k))
    arm_lines covered (these ∷ labels) (ByValue value rest) ty how t u k =
        arm_label (covered && is_last_value rest) (label Next t) (label Arm u)
        (lines value (branch_use value) u
        (branch_ends value (handed_on t u how ty
        ∷ (if covered && is_last_value rest then k else L.Jump (label End t) ∷ arm_lines covered labels rest ty how t (u + width value) k))))
