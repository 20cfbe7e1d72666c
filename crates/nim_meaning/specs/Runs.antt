-- That each run goes by a way through the tree of acts: it passes the points of one, in order. The trail of a state has the points that the running call
-- came by, the last one first; a run puts the points in front of it that it passes.
use Rattle.std.specs.Prelude.{◌≡◌, ℕ, Bool, true, false, not, ◌&&◌, ◌||◌, ◌⊎◌, List, [], ◌∷◌, ◌++◌, Option, Some, None}
use Rattle.arc_base.specs.BigStep.{Res, Got, Over, Going, Errs}
use Rattle.nim_types.specs.Types.{Ty}
use Rattle.nim_program.specs.declared.operation.Operation.TheVariants as O
use Rattle.nim_program.specs.Program.{Act, Doing, Giving, Characters, Expr, Apply, Read, Early, Choose, Path, Variable, Fresh, Field, Element, Deref, Args}
use Rattle.nim_program.specs.Program.{NoArg}
use Rattle.nim_program.specs.Program.{ByValue, ByPath, Declared, Kind, While, Count, Each, Stmt, Do, Idle, Give, Leave, Select, Loop, Raise, Try}
use Rattle.nim_program.specs.Program.{Stmts, Empty, Then, Declare, Defer, Blocks, Otherwise, Block, Handlers, NoHandler, Handler, Param, Body, Proc, Program}
use Rattle.nim_meaning.specs.ActTree as tree
use Rattle.nim_meaning.specs.ActTree.{Out, Turn_over, Back}
use Rattle.nim_meaning.specs.Ways.{Point, Exits, Raises, Graph, Behind, Trail, follows, start}
use Rattle.nim_meaning.specs.State.{State}
use Rattle.nim_meaning.specs.Acts.{Exit, Broke, Continued, Returned, Raised, Outcome, On, Out as LeftBy}
use Rattle.nim_meaning.specs.Here.{is_hooked}
use Rattle.nim_meaning.specs.ActsOf.{start_acts, procedure_acts}

-- the points of a way, the last one first
abbrev pub points_of : List Behind → List Point
points_of [] = []
points_of (e ∷ es) = e.from ∷ points_of es

-- What a trail got in front are the points of a way from p to q, each of which does its act: E says what a point may do, and where control may go then.
pub record GoneBy (E : Graph) (p : Point) (before after : List Point) (q : Point) : Type 0 where
  pub way : List Behind
  pub trail : after ≡ points_of way ++ before
  pub is : Trail E p way q

-- It came out of a part, to where this flow leads. No exception leaves, since no construct raises one yet.
abbrev pub LeavesBy : (E : Graph) (p : Point) (exits : Exits) (before after : List Point) → Exit → Type 0
LeavesBy E p exits before after (Broke by) = GoneBy E p before after (exits (Out by))
LeavesBy E p exits before after (Continued by) = GoneBy E p before after (exits (Turn_over by))
LeavesBy E p exits before after (Returned by) = GoneBy E p before after (exits (Back by))
LeavesBy E p exits before after (Raised exception by) = ⊥

-- It came to a point, by a way, and no further.
pub record StandsBy (E : Graph) (p : Point) (before after : List Point) : Type 0 where
  pub to : Point
  pub gone : GoneBy E p before after to

-- A run that is over, or that has no unit left, stands in this body or elsewhere: in a call, whose trail is its own.
abbrev pub StopsBy : (E : Graph) (p : Point) (elsewhere : List Point → Type 0) (before after : List Point) → Type 0
StopsBy E p elsewhere before after = StandsBy E p before after ⊎ elsewhere after

-- From p on, what a part came to went by a way: to where its flow leads, or as far as it came.
abbrev pub GoesBy : {A : Type 0} (E : Graph) (p : Point) (exits : Exits) (elsewhere : List Point → Type 0) (before : List Point) → Res State (Outcome A) →
    Type 0
GoesBy E p exits elsewhere before (Got (On x) s) = GoneBy E p before s.trail (exits tree.On)
GoesBy E p exits elsewhere before (Got (LeftBy way) s) = LeavesBy E p exits before s.trail way
GoesBy E p exits elsewhere before (Over status live s) = StopsBy E p elsewhere before s.trail
GoesBy E p exits elsewhere before (Going s) = StopsBy E p elsewhere before s.trail
GoesBy E p exits elsewhere before (Errs s) = StopsBy E p elsewhere before s.trail

-- ---- what has no hooks

-- `echo` writes literals without a block for them
abbrev pub writes_literals : Act → Bool
writes_literals (Doing O.Echo) = true
writes_literals _ = false

module _ (hooked : Ty → Bool) where
  abbrev pub is_plain_type : Option Ty → Bool
  is_plain_type None = true
  is_plain_type (Some ty) = not (hooked ty)

  abbrev pub is_plain_place : Option Declared → Bool
  is_plain_place None = true
  is_plain_place (Some place) = not (hooked place.of)

  abbrev pub is_plain_loop : Kind → Bool
  is_plain_loop While = true
  is_plain_loop (Count variable inclusive) = not (hooked variable.of)
  is_plain_loop (Each variable) = not (hooked variable.of)

  -- a literal text that is written as it stands
  abbrev pub is_written : (written : Bool) → Expr → Bool
  is_written true (Apply node ty (Giving (Characters text)) NoArg) = true
  is_written written value = false

  -- the values of all parts, but for the literals that `echo` writes
  abbrev mutual
    pub is_plain_value : Expr → Bool
    is_plain_value (Apply node ty act operands) = is_plain_type ty && are_plain (writes_literals act) operands
    is_plain_value (Read path) = is_plain_path path
    is_plain_value (Early node ty short left right) = not (hooked ty) && (is_plain_value left && is_plain_value right)
    is_plain_value (Choose node ty chooser parts) = is_plain_type ty && are_plain false parts

    pub is_plain_path : Path → Bool
    is_plain_path (Variable node ty place global) = not (hooked ty)
    is_plain_path (Fresh value) = is_plain_value value
    is_plain_path (Field node ty base field) = not (hooked ty) && is_plain_path base
    is_plain_path (Element node ty base index constant) = not (hooked ty) && (is_plain_path base && is_plain_value index)
    is_plain_path (Deref ty base) = not (hooked ty) && is_plain_path base

    pub are_plain : (written : Bool) → Args → Bool
    are_plain written NoArg = true
    are_plain written (ByValue value rest) = (is_written written value || is_plain_value value) && are_plain written rest
    are_plain written (ByPath path rest) = is_plain_path path && are_plain written rest

  -- and the places that are declared
  abbrev mutual
    pub is_plain_stmt : Stmt → Bool
    is_plain_stmt (Do value) = is_plain_value value
    is_plain_stmt (Idle node parts) = are_plain false parts
    is_plain_stmt (Give node back value) = is_plain_value value
    is_plain_stmt (Leave node leaving parts) = are_plain false parts
    is_plain_stmt (Select node chooser tests blocks) = are_plain false tests && are_plain_blocks blocks
    is_plain_stmt (Loop node kind head body) = is_plain_loop kind && (are_plain false head && is_plain_block body)
    is_plain_stmt (Raise node exception message) = are_plain false message
    is_plain_stmt (Try node body handlers last) = is_plain_block body && (are_plain_handlers handlers && is_plain_block last)

    pub is_plain_block : Stmts → Bool
    is_plain_block Empty = true
    is_plain_block (Then first rest) = is_plain_stmt first && is_plain_block rest
    is_plain_block (Declare node place cursor value rest) = not (hooked place.of) && (are_plain false value && is_plain_block rest)
    is_plain_block (Defer node last rest) = is_plain_block last && is_plain_block rest

    pub are_plain_blocks : Blocks → Bool
    are_plain_blocks (Otherwise block) = is_plain_block block
    are_plain_blocks (Block first rest) = is_plain_block first && are_plain_blocks rest

    pub are_plain_handlers : Handlers → Bool
    are_plain_handlers NoHandler = true
    are_plain_handlers (Handler types name body rest) = is_plain_place name && (is_plain_block body && are_plain_handlers rest)

  abbrev pub is_plain_body : Body → Bool
  is_plain_body body = is_plain_place body.result && is_plain_block body.stmts

  abbrev pub are_plain_params : List Param → Bool
  are_plain_params [] = true
  are_plain_params (param ∷ params) = not (hooked param.place.of) && are_plain_params params

  -- a procedure without a body isn't called
  abbrev pub is_plain_if_body : List Param → Option Body → Bool
  is_plain_if_body params None = true
  is_plain_if_body params (Some body) = are_plain_params params && is_plain_body body

  abbrev pub are_plain_procs : List Proc → Bool
  are_plain_procs [] = true
  are_plain_procs (p ∷ procs) = is_plain_if_body p.params p.body && are_plain_procs procs

-- no value and no place of a program has hooks, but literals that `echo` writes
abbrev pub has_no_hooks : Program → Bool
has_no_hooks program = are_plain_procs (is_hooked program.facts) program.procs && is_plain_body (is_hooked program.facts) program.start

-- ---- programs

-- the ways through the start code, and through a procedure by its number, where these parameters became `sink` by inference
module _ (raises : Raises) (sinks : List ℕ) (program : Program) where
  abbrev pub start_graph : Graph
  start_graph = follows raises (start_acts (is_hooked program.facts) sinks program)

  abbrev pub first_point : Point
  first_point = start (start_acts (is_hooked program.facts) sinks program)

  abbrev pub procedure_graph : (proc : ℕ) → Graph
  procedure_graph proc = follows raises (procedure_acts (is_hooked program.facts) sinks program proc)

  abbrev pub first_point_of : (proc : ℕ) → Point
  first_point_of proc = start (procedure_acts (is_hooked program.facts) sinks program proc)

  -- A run stands in a call: its trail has the points of a way from the start of the procedure that is called.
  pub record StandsInCall (trail : List Point) : Type 0 where
    pub proc : ℕ
    pub stands : StandsBy (procedure_graph proc) (first_point_of proc) [] trail
