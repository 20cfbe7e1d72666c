-- The acts of a typed program, in continuation style: what a part does, before the rest. In a program without hooks they stand at the points that the
-- meaning passes, in its order. With hooks it passes the ends of declared places and of temporaries too, but not yet where a value that waits fills its
-- temporary, where a parameter ends that its procedure owns, and where a result is filled and handed over.
use Rattle.std.specs.Prelude.{ℕ, zero, suc, Bool, true, false, ◌&&◌, if◌then◌else◌, List, [], ◌∷◌, ◌++◌, Option, Some, None}
use Rattle.nim_types.specs.Types.{Ty}
use Rattle.nim_program.specs.declared.operation.Operation.{Operation}
use Rattle.nim_program.specs.declared.operation.Operation.TheVariants as O
use Rattle.nim_program.specs.declared.operation.Short.{Short}
use Rattle.nim_program.specs.declared.operation.Short.TheVariants.{And, Or}
use Rattle.nim_program.specs.declared.operation.Use.{Use}
use Rattle.nim_program.specs.declared.operation.Use.TheVariants.{Owned, Given, Held, Lent, Looked}
use Rattle.nim_program.specs.declared.program.Mode.{Mode}
use Rattle.nim_program.specs.declared.program.Mode.TheVariants as M
use Rattle.nim_program.specs.declared.stmt.Leaving.{Leaving}
use Rattle.nim_program.specs.declared.stmt.Leaving.TheVariants as K
use Rattle.nim_program.specs.Program as T
use Rattle.nim_program.specs.Program.{Label, Expr, Args, Declared, Stmt, Stmts, Blocks, Param, Body, Proc, Program, type_of, node_of, node_at, constant_in}
use Rattle.nim_program.specs.Folds.{by_constant}
use Rattle.nim_program.specs.Program.{last_after, last_of}
use Rattle.nim_program.specs.Uses.{use_of}
use Rattle.nim_meaning.specs.Shapes.{has_node, is_held, waits, waits_from, is_text, selector_type, is_covered, is_last_value, is_last_block, modes_in}
use Rattle.nim_meaning.specs.ActTree.{Root, Named, Temporary, Literal, Step, Field, Index, Path, Operands, whole}
use Rattle.nim_meaning.specs.ActTree.{Act, Pass, Look, Take, Lend, Fill, Give, Operate}
use Rattle.nim_meaning.specs.ActTree.{Role, Begins, Does, Fills, Looks, Chooses, Asks, Decides}
use Rattle.nim_meaning.specs.ActTree.{Control, Do, Choose, Loop, Break, Continue, Return, Call, Group, Arms, No_arm, An_arm, Acts, Done, Then, Bind, Result}

-- ---- paths

-- where the value of an expression waits
abbrev pub temporary : Expr → Root
temporary e = Temporary (node_of e).number

abbrev pub is_literal : Expr → Bool
is_literal (T.Apply node ty (T.Giving literal) operands) = true
is_literal (T.Read (T.Fresh value)) = is_literal value
is_literal _ = false

-- a fresh value that a path begins with
abbrev pub fresh : Expr → Root
fresh e = if is_literal e then Literal (node_of e).number else temporary e

-- A path, before some steps. The object of a ref counts as an element at an index that nobody knows.
abbrev pub path_before : T.Path → List Step → Path
path_before (T.Variable node ty place global) steps = record { root = Named place; steps = steps }
path_before (T.Fresh value) steps = record { root = fresh value; steps = steps }
path_before (T.Field node ty base field) steps = path_before base (Field field ∷ steps)
path_before (T.Element node ty base index constant) steps = path_before base (Index constant ∷ steps)
path_before (T.Deref ty base) steps = path_before base (Index None ∷ steps)

abbrev pub path_of : T.Path → Path
path_of path = path_before path []

-- ---- values

abbrev pub one_act : ℕ → Role → Act → Acts → Acts
one_act n r a rest = Then (Do n r a) rest

-- a value that waits becomes a temporary, up to the end of its group
abbrev pub used : (waits : Bool) → ℕ → Acts → Acts
used true n rest = one_act n Fills (Fill (Temporary n)) rest
used false n rest = rest

-- a path that was looked up: what becomes of a value with hooks there, at a site that is its node, which may be given to a whole place
abbrev pub read_act : (hook : Bool) → Use → (to : Option Root) → ℕ → Path → Act
read_act false how to n path = Look path
read_act true Owned to n path = Take n None path
read_act true Given to n path = Take n to path
read_act true Held to n path = Take n (Some (Temporary n)) path
read_act true Lent to n path = Lend (Some n) (Temporary n) path
read_act true Looked to n path = Look path

-- a path that is read in place
abbrev pub looked_at : T.Path → Acts → Acts
looked_at path rest = if has_node path then one_act (node_at path).number Does (Look (path_of path)) rest else rest

-- ---- groups

-- the temporaries that an act makes, and those of a part, in order; what a group makes ends with it
abbrev pub makes : Act → List ℕ
makes (Fill (Temporary n)) = n ∷ []
makes (Lend site (Temporary n) path) = n ∷ []
makes _ = []

abbrev mutual
  pub made : Control → List ℕ
  made (Do n r a) = makes a
  made (Choose n r arms) = made_in arms
  made (Loop n c b) = []
  made (Break n) = []
  made (Continue n) = []
  made (Return n) = []
  made (Call n p on) = []
  made (Group n r b) = []

  pub made_in : Arms → List ℕ
  made_in No_arm = []
  made_in (An_arm a rest) = all_made a ++ made_in rest

  pub all_made : Acts → List ℕ
  all_made Done = []
  all_made (Then s b) = made s ++ all_made b
  all_made (Bind x l b) = []
  all_made (Result x l b) = []

abbrev pub bound : List ℕ → Acts → Acts
bound [] b = b
bound (n ∷ ns) b = Bind (Temporary n) n (bound ns b)

-- The temporaries of a part end with it, the last one first. They are a fixed list: one that wasn't made is empty then.
abbrev pub ended : Acts → Acts
ended b = bound (all_made b) b

-- a statement, a condition or a branch, with the temporaries that end with it
abbrev pub grouped : ℕ → Role → Acts → Acts → Acts
grouped n r part rest = Then (Group n r (ended part)) rest

-- two branches, at a point of a node
abbrev pub either : ℕ → Role → Acts → Acts → Acts
either n r a b = Then (Choose n r (An_arm a (An_arm b No_arm))) Done

abbrev pub early_arms : Short → Acts → Arms
early_arms And right = An_arm right (An_arm Done No_arm)
early_arms Or right = An_arm Done (An_arm right No_arm)

-- ---- what an operation works on

abbrev pub no_operands : Operands
no_operands = record { alters = []; reads = []; takes = [] }

abbrev pub altering : Path → Operands → Operands
altering path on = record { alters = path ∷ on.alters; reads = on.reads; takes = on.takes }

abbrev pub reading : Root → Operands → Operands
reading x on = record { alters = on.alters; reads = x ∷ on.reads; takes = on.takes }

abbrev pub taking : Root → Operands → Operands
taking x on = record { alters = on.alters; reads = on.reads; takes = x ∷ on.takes }

-- `=` assigns to the place, `len` and `high` look at it, and all else works on what it has
abbrev pub act_by : Operation → Args → Operands → Act
act_by O.Assign (T.ByPath path rest) on = Give (path_of path)
act_by (O.Measure measure) (T.ByPath path rest) on = Look (path_of path)
act_by _ operands on = Operate on

-- what an act with operands does, at the point behind the last one
abbrev pub done_by : ℕ → T.Act → Args → Operands → Control
done_by n (T.Doing operation) operands on = Do n Does (act_by operation operands on)
done_by n (T.Building fields) operands on = Do n Does (Operate on)
done_by n (T.Giving literal) operands on = Do n Does (Operate on)
done_by n (T.Calling proc types) operands on = Call n proc on

-- the whole place that is the first operand, which a value is given to
abbrev pub place_at : T.Path → Option Root
place_at (T.Variable node ty place global) = Some (Named place)
place_at _ = None

abbrev pub receiver : Args → Option Root
receiver T.NoArg = None
receiver (T.ByValue value rest) = None
receiver (T.ByPath path rest) = place_at path

-- ---- statements

-- a declared place is filled
abbrev pub filled : ℕ → Role → Declared → Acts → Acts
filled n role place rest = one_act n role (Fill (Named place.number)) rest

-- the result becomes a value
abbrev pub result_act : Option Declared → Act
result_act None = Pass
result_act (Some place) = Give (whole (Named place.number))

abbrev pub result_root : Option Declared → Option Root
result_root None = None
result_root (Some place) = Some (Named place.number)

abbrev pub back_or_on : (back : Bool) → ℕ → Acts
back_or_on true n = Then (Return n) Done
back_or_on false n = Done

abbrev pub left : Leaving → ℕ → Control
left K.Break n = Break n
left K.Continue n = Continue n
left K.Return n = Return n

-- what a loop over elements looks up: the path of its head, or an element there
abbrev pub looked_up : Args → List Step → Act
looked_up (T.ByPath path rest) steps = Look (path_before path steps)
looked_up _ steps = Pass

-- where the elements are borrowed or copied: the site, where they stand at a path
abbrev pub site_at : T.Path → Option ℕ
site_at (T.Fresh value) = None
site_at path = Some (node_at path).number

-- ---- with hooks

-- The types that have hooks, and what the parameters of each procedure are to its callers, by their places among its parameters.
module _ (hooked : Ty → Bool) (at_call : ℕ → ℕ → Mode) where
  abbrev pub is_hooked : Option Ty → Bool
  is_hooked None = false
  is_hooked (Some ty) = hooked ty

  -- the temporary of an operand, where it has one
  abbrev pub with_value : Use → Expr → Operands → Operands
  with_value Held e on = if is_hooked (type_of e) then taking (temporary e) on else on
  with_value Lent e on = if is_text e then on else if is_hooked (type_of e) then reading (temporary e) on else on
  with_value _ e on = on

  -- operands from a position on
  abbrev pub works_on : T.Act → ℕ → Args → Operands
  works_on act i T.NoArg = no_operands
  works_on act i (T.ByValue value rest) = with_value (use_of at_call act i) value (works_on act (suc i) rest)
  works_on act i (T.ByPath path rest) = altering (path_of path) (works_on act (suc i) rest)

  -- ---- expressions

  -- a path that is read, once its indexes are evaluated; what is held of it waits
  abbrev pub read_acts : Use → (to : Option Root) → T.Path → Acts → Acts
  read_acts how to path rest = if has_node path
      then
      one_act (node_at path).number Does (read_act (is_hooked (T.type_at path)) how to (node_at path).number (path_of path))
      (used (is_hooked (T.type_at path) && is_held how) (node_at path).number rest)
      else rest

  abbrev mutual
    -- An expression, and what becomes of its value, which may be given to a whole place: operands from left to right, then what the node does.
    pub acts_of : Use → (to : Option Root) → Expr → Acts → Acts
    acts_of how to (T.Apply node ty act operands) rest =
        ready_acts (use_of at_call act) 0 (receiver operands) operands
        (Then (done_by node.number act operands (works_on act 0 operands)) (used (is_hooked ty && waits_from act how) node.number rest))
    acts_of how to (T.Read path) rest = aimed path (read_acts how to path rest)
    -- the temporaries of the right operand end with those of the left one, where it was evaluated
    acts_of how to (T.Early node ty short left right) rest =
        acts_of Owned None left (Then (Choose node.number Chooses (early_arms short (acts_of Owned None right Done))) rest)
    acts_of how to (T.Choose node ty T.ByConditions parts) rest =
        Then (Group node.number Chooses (first_acts parts)) (used (is_hooked ty && waits how) node.number rest)
    acts_of how to (T.Choose node ty (T.ByLabels labels) parts) rest =
        selected_acts node.number labels parts (used (is_hooked ty && waits how) node.number rest)

    -- what a path needs before it is looked up: the fresh value that it begins with, unless it is a constant, and its indexes
    pub aimed : T.Path → Acts → Acts
    aimed (T.Variable node ty place global) rest = rest
    aimed (T.Fresh value) rest = by_constant (constant_in value) (λ literal. rest) (acts_of Looked None value rest)
    aimed (T.Field node ty base field) rest = aimed base rest
    aimed (T.Element node ty base index constant) rest = aimed base (acts_of Owned None index rest)
    aimed (T.Deref ty base) rest = aimed base rest

    -- operands from a position on, each with its use
    pub ready_acts : (ℕ → Use) → ℕ → (to : Option Root) → Args → Acts → Acts
    ready_acts uses i to T.NoArg rest = rest
    ready_acts uses i to (T.ByValue value more) rest = acts_of (uses i) to value (ready_acts uses (suc i) to more rest)
    ready_acts uses i to (T.ByPath path more) rest = aimed path (ready_acts uses (suc i) to more rest)

    -- conditions one after another, each with its own temporaries, before their values, and the value of `else`
    pub first_acts : Args → Acts
    first_acts T.NoArg = Done
    first_acts (T.ByPath path rest) = Done
    first_acts (T.ByValue last T.NoArg) = ended (acts_of Owned None last Done)
    first_acts (T.ByValue condition (T.ByPath path rest)) = Done
    first_acts (T.ByValue condition (T.ByValue value rest)) =
        grouped (node_of condition).number Asks (acts_of Owned None condition Done)
        (either (node_of condition).number Decides (ended (acts_of Owned None value Done)) (first_acts rest))

    -- the selector, and then one of the values
    pub selected_acts : ℕ → List (List Label) → Args → Acts → Acts
    selected_acts n labels T.NoArg rest = rest
    selected_acts n labels (T.ByValue selector values) rest =
        acts_of Looked None selector (Then (Choose n Chooses (value_arms (is_covered (type_of selector)) labels values)) rest)
    selected_acts n labels (T.ByPath path values) rest =
        aimed path (looked_at path (Then (Choose n Chooses (value_arms (is_covered (T.type_at path)) labels values)) rest))

    pub value_arms : (covered : Bool) → List (List Label) → Args → Arms
    value_arms covered labels T.NoArg = An_arm Done No_arm
    value_arms covered labels (T.ByPath path rest) = An_arm Done No_arm
    value_arms covered [] (T.ByValue value rest) = An_arm (ended (acts_of Owned None value Done)) No_arm
    value_arms covered (these ∷ labels) (T.ByValue value rest) =
        An_arm (ended (acts_of Owned None value Done)) (if covered && is_last_value rest then No_arm else value_arms covered labels rest)

  -- ---- statements

  -- The scope of a declared place, where it has hooks. `last` names its normal end.
  abbrev pub scope : Declared → (last : ℕ) → Acts → Acts
  scope place last rest = if hooked place.of then Bind (Named place.number) last rest else rest

  -- ---- loops

  -- what the head of a loop is evaluated to: ints, or a path that is looked up
  abbrev pub head_acts : Args → Acts → Acts
  head_acts head rest = ready_acts (λ i. Owned) 0 None head rest

  -- what a turn gives the variable: an element, lent or copied where it has hooks
  abbrev pub element_act : Declared → Args → Act
  element_act variable (T.ByPath path rest) = if hooked variable.of
      then Lend (site_at path) (Named variable.number) (path_before path (Index None ∷ []))
      else Fill (Named variable.number)
  element_act variable _ = Fill (Named variable.number)

  abbrev pub condition_acts : Args → Acts
  condition_acts (T.ByValue condition rest) = acts_of Owned None condition Done
  condition_acts _ = Done

  -- a loop over what its head gives, around the acts of its body
  abbrev pub loop_acts : ℕ → T.Kind → Args → (last : ℕ) → Acts → Acts → Acts
  loop_acts n T.While head last body rest = Then (Loop n (ended (condition_acts head)) body) rest
  loop_acts n (T.Count variable inclusive) head last body rest =
      grouped n Begins (head_acts head (Then (Loop n Done (filled n Fills variable (scope variable last body))) Done)) rest
  loop_acts n (T.Each variable) head last body rest =
      grouped n Begins
      (head_acts head (
      one_act n Looks (looked_up head [])
      (Then (Loop n Done (
      one_act n Does (looked_up head (Index None ∷ []))
      (one_act n Fills (element_act variable head)
      (scope variable last body)))) Done)))
      rest

  -- the selector of a `case`
  abbrev pub selector_acts : Args → Acts → Acts
  selector_acts T.NoArg rest = rest
  selector_acts (T.ByValue selector more) rest = acts_of Looked None selector rest
  selector_acts (T.ByPath path more) rest = aimed path (looked_at path rest)

  module _ (result : Option Declared) where
    abbrev mutual
      pub stmt_acts : Stmt → Acts → Acts
      stmt_acts (T.Do value) rest = grouped (node_of value).number Begins (acts_of Owned None value Done) rest
      stmt_acts (T.Idle node parts) rest = one_act node.number Does Pass rest
      stmt_acts (T.Give node back value) rest =
          grouped node.number Begins
          (acts_of Given (result_root result) value (one_act node.number Does (result_act result) (back_or_on back node.number)))
          rest
      stmt_acts (T.Leave node leaving parts) rest = Then (left leaving node.number) rest
      stmt_acts (T.Select node T.ByConditions tests blocks) rest = Then (Group node.number Begins (first_block_acts tests blocks)) rest
      stmt_acts (T.Select node (T.ByLabels labels) tests blocks) rest =
          grouped node.number Begins
          (selector_acts tests (Then (Choose node.number Chooses (block_arms (is_covered (selector_type tests)) labels blocks)) Done))
          rest
      stmt_acts (T.Loop node kind head body) rest = loop_acts node.number kind head (last_of body) (stmts_acts body) rest
      -- what comes with exceptions
      stmt_acts (T.Raise node exception message) rest = rest
      stmt_acts (T.Try node body handlers last) rest = rest

      pub stmts_acts : Stmts → Acts
      stmts_acts T.Empty = Done
      stmts_acts (T.Then first rest) = stmt_acts first (stmts_acts rest)
      stmts_acts (T.Declare node place cursor T.NoArg rest) =
          filled node.number Does place (scope place (last_after node.number rest) (stmts_acts rest))
      stmts_acts (T.Declare node place cursor (T.ByValue value more) rest) =
          grouped node.number Begins (acts_of Given (Some (Named place.number)) value (filled node.number Does place Done))
          (scope place (last_after node.number rest) (stmts_acts rest))
      stmts_acts (T.Declare node place cursor (T.ByPath path more) rest) = Done
      stmts_acts (T.Defer node last rest) = Done

      pub first_block_acts : Args → Blocks → Acts
      first_block_acts T.NoArg (T.Otherwise block) = stmts_acts block
      first_block_acts T.NoArg (T.Block first more) = stmts_acts first
      first_block_acts (T.ByPath path rest) blocks = Done
      first_block_acts (T.ByValue condition rest) (T.Otherwise block) = Done
      first_block_acts (T.ByValue condition rest) (T.Block first more) =
          grouped (node_of condition).number Asks (acts_of Owned None condition Done)
          (either (node_of condition).number Decides (stmts_acts first) (first_block_acts rest more))

      pub block_arms : (covered : Bool) → List (List Label) → Blocks → Arms
      block_arms covered labels (T.Otherwise block) = An_arm (stmts_acts block) No_arm
      block_arms covered [] (T.Block first rest) = An_arm (stmts_acts first) No_arm
      block_arms covered (these ∷ labels) (T.Block first rest) =
          An_arm (stmts_acts first) (if covered && is_last_block rest then No_arm else block_arms covered labels rest)

  -- ---- bodies

  -- a parameter that the callee owns is a scope, where it has hooks
  abbrev pub owned : Mode → Param → (last : ℕ) → Acts → Acts
  owned M.Plain param last rest = rest
  owned M.Sink param last rest = scope param.place last rest
  owned M.Var param last rest = rest

  -- a result without hooks needs no filling and no handing over
  abbrev pub with_result : Option Declared → (last : ℕ) → Acts → Acts
  with_result None last rest = rest
  with_result (Some place) last rest = if hooked place.of then Result (Named place.number) last rest else rest

  abbrev pub body_acts : Body → Acts
  body_acts body = with_result body.result (last_of body.stmts) (stmts_acts body.result body.stmts)

  -- What the parameters are to their procedure: while it is inferred which ones it owns, more than its callers know.
  module _ (in_body : ℕ → ℕ → Mode) where
    abbrev pub all_owned : (proc i : ℕ) → List Param → (last : ℕ) → Acts → Acts
    all_owned proc i [] last rest = rest
    all_owned proc i (param ∷ more) last rest = owned (in_body proc i) param last (all_owned proc (suc i) more last rest)

    -- the body of a procedure by its number
    abbrev pub proc_acts : ℕ → List Param → Body → Acts
    proc_acts proc params body = all_owned proc 0 params (last_of body.stmts) (body_acts body)

    -- the procedures by number; one without a body does nothing
    abbrev pub if_body : ℕ → List Param → Option Body → Acts
    if_body proc params None = Done
    if_body proc params (Some body) = proc_acts proc params body

    abbrev pub acts_at : (at : ℕ) → List Proc → (proc : ℕ) → Acts
    acts_at at [] proc = Done
    acts_at at (p ∷ rest) zero = if_body at p.params p.body
    acts_at at (p ∷ rest) (suc proc) = acts_at (suc at) rest proc

-- ---- programs

-- what the start code does, and a procedure by its number, by modes at calls and in bodies
abbrev pub start_by : (hooked : Ty → Bool) (at_call : ℕ → ℕ → Mode) → Program → Acts
start_by hooked at_call program = body_acts hooked at_call program.start

abbrev pub procedure_by : (hooked : Ty → Bool) (at_call in_body : ℕ → ℕ → Mode) → Program → (proc : ℕ) → Acts
procedure_by hooked at_call in_body program proc = acts_at hooked at_call in_body 0 program.procs proc

-- the same with the modes that are declared, where these parameters became `sink` by inference
abbrev pub start_acts : (hooked : Ty → Bool) → (sinks : List ℕ) → Program → Acts
start_acts hooked sinks program = start_by hooked (modes_in sinks program.procs) program

abbrev pub procedure_acts : (hooked : Ty → Bool) → (sinks : List ℕ) → Program → (proc : ℕ) → Acts
procedure_acts hooked sinks program proc = procedure_by hooked (modes_in sinks program.procs) (modes_in sinks program.procs) program proc
