-- The places of flat code, in order of text: what a body declares, and the temporaries of its parts by their numbers: one for each value that is given or
-- read, and one for where each part of a path leads that is looked up.
use Rattle.std.specs.Prelude.{ℕ, suc, ◌+◌, Bool, true, false, if◌then◌else◌, List, [], ◌∷◌, ◌++◌, Option, Some, None}
use Rattle.arc_base.specs.declared.place.Place.{Place}
use Rattle.nim_types.specs.Types.{Ty, int, Facts}
use Rattle.nim_program.specs.declared.expr.Node.{Node}
use Rattle.nim_program.specs.declared.operation.Use.{Use}
use Rattle.nim_program.specs.declared.program.Mode.{Mode}
use Rattle.nim_program.specs.declared.program.Mode.TheVariants.{Var}
use Rattle.nim_program.specs.Uses.{use_of}
use Rattle.nim_program.specs.Program.{Act, ByConditions, ByLabels, Expr, Apply, Read, Early, Choose}
use Rattle.nim_program.specs.Program.{Path, Variable, Fresh, Field, Element, Deref, Args, NoArg, ByValue, ByPath, type_of, type_at, node_of, node_at}
use Rattle.nim_program.specs.Program.{Declared, Kind, While, Count, Each, Stmt, Do, Idle, Give, Leave, Select, Loop, Raise, Try}
use Rattle.nim_program.specs.Program.{Stmts, Empty, Then, Declare, Defer, Blocks, Otherwise, Block, Param, Body}
use Rattle.nim_program.specs.Program.{is_written, constant_in}
use Rattle.nim_program.specs.Folds.{Seen, Part, Declaring, Handling, if_constant, lists, total_of}
use Rattle.nim_program.specs.Sizes.{is_global}
use Rattle.flat_code.specs.declared.place.PlaceKind.{PlaceKind}
use Rattle.flat_code.specs.declared.place.PlaceKind.TheVariants as K
use Rattle.flat_code.specs.declared.place.FlatPlace.{FlatPlace}
use Rattle.nim_meaning.specs.Here.{is_hooked}
use Rattle.nim_meaning.specs.Shapes.{has_node, mode_of}
use Rattle.flattening.specs.ExprLines.{is_lent_at}
use Rattle.flattening.specs.Numbering.{type_number, width, width_at, widths, arm_count, selector_from, behind_selector, width_in, width_of}

-- ---- declared places

-- A parameter takes its argument as the plan says, under which so many are `sink`; a `var` parameter is a location, whatever a plan says.
abbrev pub taken_as : (declared planned : Mode) → Mode
taken_as Var planned = Var
taken_as declared planned = planned

abbrev pub kind_of_param : (sinks : List ℕ) → Param → PlaceKind
kind_of_param sinks param = K.Param (taken_as param.mode (mode_of sinks param))

-- in a body of a program with these globals
abbrev pub kind_of_declared : List Declared → Part → Declared → PlaceKind
kind_of_declared globals (Declaring cursor) d = if is_global globals d.number then K.Global else if cursor then K.Cursor else K.Local
kind_of_declared globals Handling d = K.Caught
kind_of_declared globals part d = K.ForVar

-- where a path leads: to a place, or into a value that no place holds
abbrev pub kind_of_path : Path → PlaceKind
kind_of_path path = if is_written path then K.Location else K.Within

-- where the operands of a loop's head begin
abbrev pub head_from : Kind → (t : ℕ) → ℕ
head_from While t = suc t
head_from (Count variable inclusive) t = suc t
head_from (Each variable) t = suc t + 2

-- the value of a node waits there, where it is one that may and has hooks
abbrev pub waits_by : (may hooked : Bool) → (node : ℕ) → Option ℕ
waits_by true true node = Some node
waits_by may hooked node = None

module _ (types : List Ty) (facts : Facts) (modes : (proc position : ℕ) → Mode) where
  abbrev pub place : (waits : Option ℕ) → (number : ℕ) → (at : Place) → PlaceKind → Ty → FlatPlace
  place waits number at kind ty = record {
    number = number;
    at = at;
    kind = kind;
    ty = type_number types ty;
    hooked = is_hooked facts ty;
    resource = false;
    copies = true;
    waits = waits;
  }

  abbrev pub of_declared : PlaceKind → Declared → FlatPlace
  of_declared kind d = place None d.number d.at kind d.of

  abbrev pub all_declared : (Declared → PlaceKind) → List Declared → List FlatPlace
  all_declared kind [] = []
  all_declared kind (d ∷ ds) = of_declared (kind d) d ∷ all_declared kind ds

  abbrev pub own_declared : List Declared → Seen → List FlatPlace
  own_declared globals seen = all_declared (kind_of_declared globals seen.part) seen.places

  abbrev pub param_places : (sinks : List ℕ) → List Param → List FlatPlace
  param_places sinks [] = []
  param_places sinks (param ∷ params) = of_declared (kind_of_param sinks param) param.place ∷ param_places sinks params

  abbrev pub result_places : Option Declared → List FlatPlace
  result_places None = []
  result_places (Some d) = of_declared K.Result d ∷ []

  -- ---- temporaries of expressions, whose numbers begin with t

  -- where a value is or a path leads
  abbrev pub temporary : Node → Option Ty → PlaceKind → (t : ℕ) → List FlatPlace
  temporary node None kind t = []
  temporary node (Some ty) kind t = place None t node.at kind ty ∷ []

  abbrev pub value_at : (may_wait : Bool) → Node → Option Ty → (t : ℕ) → List FlatPlace
  value_at may node None t = []
  value_at may node (Some ty) t = place (waits_by may (is_hooked facts ty) node.number) t node.at K.Temp ty ∷ []

  -- the value at a path that is read; that of a selector is only looked at
  abbrev pub read_place : (may_wait : Bool) → Path → (t : ℕ) → List FlatPlace
  read_place may path t = value_at may (node_at path) (type_at path) t

  abbrev pub location : Path → (t : ℕ) → List FlatPlace
  location path t = temporary (node_at path) (type_at path) (kind_of_path path) t

  -- the value of a selector that is read in place
  abbrev pub selector_place : Args → (s : ℕ) → List FlatPlace
  selector_place (ByPath path rest) s = read_place false path s
  selector_place parts s = []

  abbrev pub lent_place : Act → Use → Expr → (t : ℕ) → List FlatPlace
  lent_place act how value t = if is_lent_at facts act how value then temporary (node_of value) (type_of value) K.Within t else []

  abbrev mutual
    pub expr_places : Expr → (t : ℕ) → List FlatPlace
    expr_places (Apply node ty act operands) t = value_at true node ty t ++ operand_places act operands (use_of modes act) 0 (suc t)
    expr_places (Read path) t = read_place (has_node path) path t ++ path_places path (suc t)
    expr_places (Early node ty short left right) t =
        value_at true node (Some ty) t ++ (expr_places left (suc t) ++ expr_places right (suc t + width left))
    expr_places (Choose node ty ByConditions parts) t = value_at true node ty t ++ part_places parts (suc t)
    expr_places (Choose node ty (ByLabels labels) parts) t =
        value_at true node ty t
        ++ (selector_place parts (suc t + arm_count (ByLabels labels))
        ++ part_places parts (selector_from parts (suc t + arm_count (ByLabels labels))))

    pub path_places : Path → (t : ℕ) → List FlatPlace
    path_places (Variable node ty place global) t = location (Variable node ty place global) t
    path_places (Fresh value) t = location (Fresh value) t ++ if_constant (constant_in value) [] (expr_places value (suc t))
    path_places (Field node ty base field) t = location (Field node ty base field) t ++ path_places base (suc t)
    path_places (Element node ty base index constant) t =
        location (Element node ty base index constant) t ++ (path_places base (suc t) ++ expr_places index (suc t + width_at base))
    path_places (Deref ty base) t = location (Deref ty base) t ++ path_places base (suc t)

    -- operands from a position on; a value that is lent has a location
    pub operand_places : Act → Args → (uses : (position : ℕ) → Use) → (position t : ℕ) → List FlatPlace
    operand_places act NoArg uses i t = []
    operand_places act (ByValue value rest) uses i t =
        expr_places value t ++ (lent_place act (uses i) value t ++ operand_places act rest uses (suc i) (t + width value))
    operand_places act (ByPath path rest) uses i t = path_places path t ++ operand_places act rest uses (suc i) (t + width_at path)

    pub part_places : Args → (t : ℕ) → List FlatPlace
    part_places NoArg t = []
    part_places (ByValue value rest) t = expr_places value t ++ part_places rest (t + width value)
    part_places (ByPath path rest) t = path_places path t ++ part_places rest (t + width_at path)

  -- ---- temporaries of statements, whose numbers begin with t

  -- the element of a turn, its number, and how many there are
  abbrev pub element_kind : Declared → Args → PlaceKind
  element_kind variable (ByPath path rest) = if is_hooked facts variable.of then kind_of_path path else K.Temp
  element_kind variable head = K.Temp

  abbrev pub loop_places : Node → Kind → Args → (t : ℕ) → List FlatPlace
  loop_places node (Each variable) head t =
      place None t node.at (element_kind variable head) variable.of
      ∷ place None (suc t) node.at K.Counter int
      ∷ place None (suc (suc t)) node.at K.Counter int
      ∷ []
  loop_places node kind head t = []

  -- the one value of a declaration
  abbrev pub value_places : Args → (t : ℕ) → List FlatPlace
  value_places (ByValue value rest) t = expr_places value t
  value_places value t = []

  -- what comes behind a declaration by a path has no lines
  abbrev pub behind_value : Args → (t : ℕ) → ℕ
  behind_value NoArg t = suc t
  behind_value value t = suc t + widths value

  abbrev mutual
    pub stmt_places : Stmt → (t : ℕ) → List FlatPlace
    stmt_places (Do value) t = expr_places value t
    stmt_places (Idle node parts) t = []
    stmt_places (Give node back value) t = expr_places value (suc t)
    stmt_places (Leave node leaving parts) t = []
    stmt_places (Select node ByConditions tests blocks) t = branch_places tests blocks (suc t)
    stmt_places (Select node (ByLabels labels) tests blocks) t =
        selector_place tests (suc t + arm_count (ByLabels labels))
        ++ (part_places tests (selector_from tests (suc t + arm_count (ByLabels labels)))
        ++ arm_places blocks (behind_selector tests (suc t + arm_count (ByLabels labels))))
    stmt_places (Loop node kind head body) t =
        loop_places node kind head t ++ (part_places head (head_from kind t) ++ block_places body (head_from kind t + widths head))
    -- exceptions have no lines yet
    stmt_places (Raise node exception message) t = []
    stmt_places (Try node body handlers last) t = []

    pub block_places : Stmts → (t : ℕ) → List FlatPlace
    block_places Empty t = []
    block_places (Then first rest) t = stmt_places first t ++ block_places rest (t + width_in first)
    block_places (Declare node place cursor value rest) t = value_places value (suc t) ++ block_places rest (behind_value value t)
    block_places (Defer node last rest) t = []

    pub branch_places : Args → Blocks → (t : ℕ) → List FlatPlace
    branch_places NoArg (Otherwise block) t = block_places block t
    branch_places NoArg (Block first rest) t = block_places first t
    branch_places (ByPath path tests) blocks t = []
    branch_places (ByValue condition tests) (Otherwise block) t = []
    branch_places (ByValue condition tests) (Block first rest) t =
        expr_places condition t ++ (block_places first (t + width condition) ++ branch_places tests rest (t + width condition + width_of first))

    pub arm_places : Blocks → (t : ℕ) → List FlatPlace
    arm_places (Otherwise block) t = block_places block t
    arm_places (Block first rest) t = block_places first t ++ arm_places rest (t + width_of first)

  -- ---- bodies

  abbrev pub body_places : (sinks : List ℕ) → (globals : List Declared) → List Param → Body → List FlatPlace
  body_places sinks globals params body =
      param_places sinks params
      ++ (result_places body.result ++ (total_of lists (own_declared globals) body.stmts ++ block_places body.stmts 0))
