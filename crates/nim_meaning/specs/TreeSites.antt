-- The sites of parts of the tree, in the order of their acts. It serves proofs alone.
use Rattle.std.specs.Prelude.{ℕ, suc, Bool, true, false, ◌&&◌, if◌then◌else◌, List, [], ◌∷◌, ◌++◌, Option, Some, None}
use Rattle.nim_types.specs.Types.{Facts}
use Rattle.nim_program.specs.declared.operation.Use.{Use}
use Rattle.nim_program.specs.declared.operation.Use.TheVariants.{Owned, Given, Looked}
use Rattle.nim_program.specs.declared.program.Mode.{Mode}
use Rattle.nim_program.specs.Program.{Label, Expr, Apply, Read, Early, Choose, ByConditions, ByLabels, Path, Variable, Fresh, Field, Element, Deref}
use Rattle.nim_program.specs.Program.{Args, NoArg, ByValue, ByPath, Declared, Kind, While, Count, Each, Stmt, Do, Idle, Give, Leave, Select, Loop, Raise, Try}
use Rattle.nim_program.specs.Program.{Stmts, Empty, Then, Declare, Defer, Blocks, Otherwise, Block, Body, Proc, Program, type_at, node_at, constant_in}
use Rattle.nim_program.specs.Folds.{by_constant}
use Rattle.nim_program.specs.Uses.{use_of}
use Rattle.nim_meaning.specs.Here.{is_hooked, gives_hooked}
use Rattle.nim_meaning.specs.Shapes.{has_node, modes_in}
use Rattle.nim_meaning.specs.ActsOf.{site_at}

abbrev pub site_if : Bool → ℕ → List ℕ
site_if true site = site ∷ []
site_if false site = []

abbrev pub if_site : Option ℕ → List ℕ
if_site None = []
if_site (Some site) = site ∷ []

-- whether a value with hooks is copied or handed on, or read where it stands
abbrev pub is_taken : Use → Bool
is_taken Looked = false
is_taken how = true

-- the modes are those of parameters to the callers
module _ (facts : Facts) (modes : (proc position : ℕ) → Mode) where
  -- that of a path that is read
  abbrev pub own_site : Path → Use → List ℕ
  own_site path how = site_if (has_node path && (gives_hooked facts (type_at path) && is_taken how)) (node_at path).number

  abbrev mutual
    pub value_sites : Expr → Use → List ℕ
    value_sites (Apply node ty act operands) how = operand_sites operands (use_of modes act) 0
    value_sites (Read path) how = path_sites path ++ own_site path how
    value_sites (Early node ty short left right) how = value_sites left Owned ++ value_sites right Owned
    value_sites (Choose node ty ByConditions parts) how = choice_sites parts
    value_sites (Choose node ty (ByLabels labels) parts) how = selected_sites labels parts

    pub path_sites : Path → List ℕ
    path_sites (Variable node ty place global) = []
    path_sites (Fresh value) = by_constant (constant_in value) (λ literal. []) (value_sites value Looked)
    path_sites (Field node ty base field) = path_sites base
    path_sites (Element node ty base index constant) = path_sites base ++ value_sites index Owned
    path_sites (Deref ty base) = path_sites base

    pub operand_sites : Args → (uses : (position : ℕ) → Use) → (position : ℕ) → List ℕ
    operand_sites NoArg uses i = []
    operand_sites (ByValue value rest) uses i = value_sites value (uses i) ++ operand_sites rest uses (suc i)
    operand_sites (ByPath path rest) uses i = path_sites path ++ operand_sites rest uses (suc i)

    -- conditions, each before its value, and the value of `else`
    pub choice_sites : Args → List ℕ
    choice_sites NoArg = []
    choice_sites (ByPath path rest) = []
    choice_sites (ByValue last NoArg) = value_sites last Owned
    choice_sites (ByValue condition (ByPath path rest)) = []
    choice_sites (ByValue condition (ByValue value rest)) = value_sites condition Owned ++ (value_sites value Owned ++ choice_sites rest)

    -- the selector, and then the values
    pub selected_sites : List (List Label) → Args → List ℕ
    selected_sites labels NoArg = []
    selected_sites labels (ByValue selector values) = value_sites selector Looked ++ pick_sites labels values
    selected_sites labels (ByPath path values) = path_sites path ++ pick_sites labels values

    pub pick_sites : List (List Label) → Args → List ℕ
    pick_sites labels NoArg = []
    pick_sites labels (ByPath path rest) = []
    pick_sites [] (ByValue value rest) = value_sites value Owned
    pick_sites (these ∷ labels) (ByValue value rest) = value_sites value Owned ++ pick_sites labels rest

  -- ---- statements

  abbrev pub selector_sites : Args → List ℕ
  selector_sites NoArg = []
  selector_sites (ByValue selector more) = value_sites selector Looked
  selector_sites (ByPath path more) = path_sites path

  -- of a value that is declared or given
  abbrev pub declared_sites : Args → List ℕ
  declared_sites (ByValue value more) = value_sites value Given
  declared_sites _ = []

  abbrev pub condition_sites : Args → List ℕ
  condition_sites (ByValue condition rest) = value_sites condition Owned
  condition_sites _ = []

  -- where a turn borrows or copies an element
  abbrev pub element_sites : Declared → Args → List ℕ
  element_sites variable (ByPath path rest) = if is_hooked facts variable.of then if_site (site_at path) else []
  element_sites variable _ = []

  -- of the head of a loop, and of what its turns begin with
  abbrev pub loop_sites : Kind → Args → List ℕ
  loop_sites While head = condition_sites head
  loop_sites (Count variable inclusive) head = operand_sites head (λ i. Owned) 0
  loop_sites (Each variable) head = operand_sites head (λ i. Owned) 0 ++ element_sites variable head

  abbrev mutual
    pub stmt_sites : Stmt → List ℕ
    stmt_sites (Do value) = value_sites value Owned
    stmt_sites (Idle node parts) = []
    stmt_sites (Give node back value) = value_sites value Given
    stmt_sites (Leave node leaving parts) = []
    stmt_sites (Select node ByConditions tests blocks) = branch_sites tests blocks
    stmt_sites (Select node (ByLabels labels) tests blocks) = selector_sites tests ++ arm_sites labels blocks
    stmt_sites (Loop node kind head body) = loop_sites kind head ++ block_sites body
    stmt_sites (Raise node exception message) = []
    stmt_sites (Try node body handlers last) = []

    pub block_sites : Stmts → List ℕ
    block_sites Empty = []
    block_sites (Then first rest) = stmt_sites first ++ block_sites rest
    block_sites (Declare node place cursor NoArg rest) = block_sites rest
    block_sites (Declare node place cursor (ByValue value more) rest) = value_sites value Given ++ block_sites rest
    block_sites (Declare node place cursor (ByPath path more) rest) = []
    block_sites (Defer node last rest) = []

    pub branch_sites : Args → Blocks → List ℕ
    branch_sites NoArg (Otherwise block) = block_sites block
    branch_sites NoArg (Block first more) = block_sites first
    branch_sites (ByPath path rest) blocks = []
    branch_sites (ByValue condition rest) (Otherwise block) = []
    branch_sites (ByValue condition rest) (Block first more) = value_sites condition Owned ++ (block_sites first ++ branch_sites rest more)

    pub arm_sites : List (List Label) → Blocks → List ℕ
    arm_sites labels (Otherwise block) = block_sites block
    arm_sites [] (Block first rest) = block_sites first
    arm_sites (these ∷ labels) (Block first rest) = block_sites first ++ arm_sites labels rest

  abbrev pub sites_if_body : Option Body → List ℕ
  sites_if_body None = []
  sites_if_body (Some body) = block_sites body.stmts

  abbrev pub proc_sites : List Proc → List ℕ
  proc_sites [] = []
  proc_sites (p ∷ procs) = sites_if_body p.body ++ proc_sites procs

-- those of a program, procedures first
abbrev pub all_sites : Program → (sinks : List ℕ) → List ℕ
all_sites program sinks =
    let modes = modes_in sinks program.procs in
    proc_sites program.facts modes program.procs ++ block_sites program.facts modes program.start.stmts
