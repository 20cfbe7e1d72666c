-- What a program does: a meaning over its tree, which knows nothing of machines.
use Rattle.std.specs.Prelude.{ℕ, zero, suc, ◌+◌, ◌-◌, ℤ, pos, ◌+ℤ◌, Bool, true, false, ◌&&◌, int_lt, nat_lt}
use Rattle.std.specs.Prelude.{List, [], ◌∷◌, ◌++◌, length, replicate, map, Option, Some, None, slice_get}
use Rattle.arc_base.specs.Event.{Event, Hook}
use Rattle.arc_base.specs.Behaviour.{Behaviour}
use Rattle.arc_base.specs.BigStep.{Turn, begun, whole}
use Rattle.nim_types.specs.Types.{Ty, Facts}
use Rattle.nim_plan.specs.declared.plan.Plan.{Plan}
use Rattle.nim_program.specs.declared.program.TheConstants.{ACTIVE_CALLS}
use Rattle.nim_program.specs.declared.program.HookOf.{HookOf}
use Rattle.nim_program.specs.declared.stmt.Leaving.{Leaving}
use Rattle.nim_program.specs.declared.stmt.Leaving.TheVariants as K
use Rattle.nim_program.specs.Program.{Label, ByConditions, ByLabels}
use Rattle.nim_types.specs.Forms.{Form, form_of}
use Rattle.nim_program.specs.Program.{Expr, Apply, Read, Early, Choose, Path, Variable, Fresh, Field, Element, Deref, Args, NoArg, ByValue, ByPath}
use Rattle.nim_program.specs.Program.{Declared, Kind, While, Count, Each, Stmt, Do, Idle, Give, Leave, Select, Loop, Raise, Try}
use Rattle.nim_program.specs.Program.{Stmts, Empty, Then, Declare, Defer, Blocks, Otherwise, Block, Param, Body, Proc, Program}
use Rattle.nim_program.specs.Program.{type_of, type_at, node_of, node_at, constant_in, last_after, last_of}
use Rattle.nim_program.specs.Folds.{by_constant}
use Rattle.nim_program.specs.Sizes.{if_place_bytes, body_sum}
use Rattle.nim_program.specs.declared.operation.Use.{Use}
use Rattle.nim_program.specs.declared.operation.Use.TheVariants.{Owned, Given as ToPlace, Looked}
use Rattle.nim_program.specs.Uses.{use_of}
use Rattle.nim_program.specs.Traps.{CallDepth}
use Rattle.nim_program.specs.Ints.{is_true}
use Rattle.nim_meaning.specs.Values.{Value, Number, nothing, number_of, bytes, is_full, default_of, literal_value, vacant, nowhere}
use Rattle.nim_meaning.specs.Values.{Standing, Made, Location, Slot, Holds, Stands, Given, At, value_of}
use Rattle.nim_meaning.specs.State.{Frame, World, State, live, load, slot_at, with_frame, down_to, world_of}
use Rattle.nim_meaning.specs.ActTree as points
use Rattle.nim_meaning.specs.ActTree.{Does as Done_by, Fills, Looks as Looks_up, Chooses, Turns, Asks, Decides, Leaves}
use Rattle.nim_meaning.specs.Acts.{Broke, Continued, Returned, Raised, Exit, Outcome, On, Out, Does, exit_of, give, leave, as_before, ◌>>=◌, ◌>>◌, at_exit}
use Rattle.nim_meaning.specs.Acts.{left_as, branch, costs, say, spending, stop, wrong, looks, change, leaving_scope, elsewhere, loop, again, no_more}
use Rattle.nim_meaning.specs.Deeds as deeds
use Rattle.nim_meaning.specs.Deeds.{Deed, Opens, Leaves, changed, carry, ◌>>=◌ as then_deed}
use Rattle.nim_meaning.specs.Lifted.{walk, copying, assigned, assigns, slot_ends}
use Rattle.nim_meaning.specs.Here.{Calls, Here, level_of, is_hooked, gives_hooked}
use Rattle.nim_meaning.specs.Waiting.{waiting_first, held_from}
use Rattle.nim_meaning.specs.Aims.{Aim, Root, Value_of, PartOf, ItemOf, ObjectOf, find, fresh_root, Ready, Evaluated, Aimed, is_lent_own, operand_for, settle}
use Rattle.nim_meaning.specs.Places.{place_at, fetched, length_at, item_at, fetched_item, as_long, put}
use Rattle.nim_meaning.specs.Shapes.{selector_type, is_covered, is_last_value, is_last_block, modes_in}
pub use Rattle.nim_meaning.specs.Steps.{at_node, at_path, all_end, ended, grouped, waits_of, waits_in, ended_value, destination, row, taking_up, left_at}
pub use Rattle.nim_meaning.specs.Steps.{carried, got_by, got, gets_copy, early, is_same, fits_text, fits_label, label_work, picked, selecting, handed_by}
pub use Rattle.nim_meaning.specs.Steps.{branch_by, branch_value, handed_on, none_fits, invoked}

-- ---- expressions

-- Operands go from left to right, and places are looked up behind the last one; then the operation does what it does. A path that is read is
-- looked up as soon as its indexes are evaluated.
abbrev mutual
  pub eval : Expr → Use → Here → Does Value
  eval (Apply node ty act operands) how here = do
    ready ← ready_all operands (use_of here.modes act) 0 here
    xs ← settle ready
    at_node node.number Done_by (taking_up here (held_from here.facts here.modes operands (use_of here.modes act) 0)
        (carried here node.number act how ty operands xs))
  eval (Read path) how here = do
    aim ← aimed path here
    location ← find aim
    at_path path (got here how (node_at path).number (type_at path) location)
  eval (Early node ty short left right) how here = costs 1 do
    x ← eval left Owned here
    at_node node.number Chooses (early short (is_true (number_of x)) (eval right Owned here))
  eval (Choose node ty ByConditions parts) how here = costs 1 do
    v ← at_node node.number Chooses (first_value parts ty here)
    handed_on here how node.number ty v
  eval (Choose node ty (ByLabels labels) parts) how here = costs 1 do
    v ← selected node.number labels parts ty here
    handed_on here how node.number ty v

  -- the index expressions of a path, in their turn
  pub aimed : Path → Here → Does Aim
  aimed (Variable node ty place global) here = give (Root (Standing (level_of global here) place))
  -- a constant is read where it stands, and so nothing is built
  aimed (Fresh value) here = by_constant (constant_in value) (λ literal. give (Root (Made (literal_value literal)))) do
    v ← eval value Looked here
    give (fresh_root (gives_hooked here.facts (type_of value)) here.level (node_of value).number v)
  aimed (Field node ty base field) here = do
    aim ← aimed base here
    give (PartOf aim field)
  aimed (Element node ty base index constant) here = do
    aim ← aimed base here
    z ← eval index Owned here
    give (ItemOf aim (number_of z))
  aimed (Deref ty base) here = do
    aim ← aimed base here
    give (ObjectOf aim)

  -- where the value of a path stands that a place gets a copy of
  pub source : Expr → Here → Does Location
  source (Read path) here = do
    aim ← aimed path here
    location ← find aim
    at_path path (give location)
  source value here = give nowhere

  -- operands from a position on
  pub ready_all : Args → (uses : (position : ℕ) → Use) → (position : ℕ) → Here → Does (List Ready)
  ready_all NoArg uses i here = give []
  ready_all (ByValue value rest) uses i here = branch (gets_copy here (uses i) value)
      (do
        location ← source value here
        ready ← ready_all rest uses (suc i) here
        give (Evaluated (At location) ∷ ready))
      (do
        v ← eval value (uses i) here
        ready ← ready_all rest uses (suc i) here
        give (Evaluated (operand_for (is_lent_own here.facts (uses i) value) here.level (node_of value).number v) ∷ ready))
  ready_all (ByPath path rest) uses i here = do
    aim ← aimed path here
    ready ← ready_all rest uses (suc i) here
    give (Aimed aim ∷ ready)

  -- the value behind the first condition that holds, or the last one
  pub first_value : (parts : Args) → Option Ty → Here → Does Value
  first_value NoArg ty here = none_fits ty here
  first_value (ByPath path rest) ty here = none_fits ty here
  first_value (ByValue last NoArg) ty here = branch_value here last (λ how. eval last how here)
  first_value (ByValue condition (ByPath path rest)) ty here = none_fits ty here
  first_value (ByValue condition (ByValue value rest)) ty here = do
    x ← at_node (node_of condition).number Asks (ended_value here condition Owned (eval condition Owned here))
    at_node (node_of condition).number Decides (branch (is_true (number_of x)) (branch_value here value (λ how. eval value how here))
        (first_value rest ty here))

  -- the value of the first branch that has the selector's value among its labels; a selector at a path is read in place
  pub selected : (node : ℕ) → List (List Label) → (parts : Args) → Option Ty → Here → Does Value
  selected node labels NoArg ty here = none_fits ty here
  selected node labels (ByValue selector rest) ty here = do
    x ← eval selector Looked here
    selecting here (type_of selector) x (λ x. at_node node Chooses (picked_value (is_covered (type_of selector)) labels rest x ty here))
  selected node labels (ByPath path rest) ty here = do
    aim ← aimed path here
    location ← find aim
    x ← at_path path (carry (fetched location))
    selecting here (type_at path) x (λ x. at_node node Chooses (picked_value (is_covered (type_at path)) labels rest x ty here))

  -- The first value with a label that fits, or that of `else`. Without one, where the labels cover the type, it is the last value.
  pub picked_value : (covered : Bool) → List (List Label) → (values : Args) → Value → Option Ty → Here → Does Value
  picked_value covered labels NoArg x ty here = none_fits ty here
  picked_value covered labels (ByPath path rest) x ty here = none_fits ty here
  picked_value covered [] (ByValue value rest) x ty here = branch_value here value (λ how. eval value how here)
  picked_value covered (these ∷ labels) (ByValue value rest) x ty here =
      picked these x (branch_value here value (λ how. eval value how here))
      (branch (covered && is_last_value rest) (branch_value here value (λ how. eval value how here)) (picked_value covered labels rest x ty here))

-- ---- scopes

-- a declared place is filled
abbrev pub fill : Here → (place : ℕ) → Value → Does (Unit {0})
fill here place v = costs (bytes v) (change (changed (Opens here.level place (Holds v))))

-- a declared place gets a copy
abbrev pub place_copies : Form → (level place : ℕ) → Location → Deed (Unit {0})
place_copies f level n location = then_deed (deeds.does (Opens level n (Holds (vacant f)))) (λ _. walk copying f (place_at level n) location)

abbrev pub fill_from : Here → Declared → Location → Does (Unit {0})
fill_from here place location = carry (place_copies (form_of here.facts place.of) here.level place.number location)

-- what a place holds ends
abbrev pub place_ends : Form → (level place : ℕ) → Deed (Unit {0})
place_ends f level n = deeds.looks (λ world. slot_ends f (place_at level n) (slot_at world level n))

-- A place is met at an exit of its scope, which has the number of a statement. One without hooks has nothing to do there, and nobody looks at it
-- any more.
abbrev pub ends : Here → Declared → (exit : ℕ) → Does (Unit {0})
ends here place exit =
    costs 1 (branch (is_hooked here.facts place.of) (carry (place_ends (form_of here.facts place.of) here.level place.number)) (give tt))

-- the scope of a place: what follows in the block that declares it, up to its last statement
abbrev pub scoped : Here → Declared → (last : ℕ) → Does (Unit {0}) → Does (Unit {0})
scoped here place last rest = at_exit rest
    (λ flow. leaving_scope (is_hooked here.facts place.of) (points.Named place.number) (left_as flow) (ends here place (exit_of last flow)) >> as_before flow)

-- ---- statements

-- a turn of a `while`: the test, and then the body
abbrev pub while_turn : (node : ℕ) → Does Value → Does (Unit {0}) → Unit {0} → Does (Turn (Unit {0}) (Unit {0}))
while_turn node test body u =
    at_node node Turns test >>= (λ x. at_node node Chooses (branch (is_true (number_of x)) (again body tt) no_more))

-- what a range goes up to, which is no number of it
abbrev pub limit : (inclusive : Bool) → ℤ → ℤ
limit true last = last +ℤ pos 1
limit false last = last

-- a turn over a range: in its body the place is filled first
abbrev pub count_turn : (node : ℕ) → Here → Declared → (last : ℕ) → Does (Unit {0}) → (limit : ℤ) → ℤ → Does (Turn ℤ (Unit {0}))
count_turn node here place last body limit i =
    at_node node Turns (at_node node Chooses (branch (int_lt i limit)
    (again (at_node node Fills (fill here place.number (Number i)) >> scoped here place last body) (i +ℤ pos 1)) no_more))

-- the elements are still as many
abbrev pub still : Location → ℕ → Does (Unit {0})
still location n = carry (as_long location n)

abbrev pub element_at : Location → ℕ → Does Value
element_at location i = carry (fetched_item location i)

-- The place of a loop gets an element: a copy of it, or, where the head is a value of its own, the place stands for it.
abbrev pub element_for : Here → Declared → (borrows : Bool) → Location → Does (Unit {0})
element_for here place true item = change (changed (Opens here.level place.number (Stands item)))
element_for here place false item = fill_from here place item

-- A turn over elements: the path is looked up anew, and has to be as long as at first. Then the place is filled, then the body.
abbrev pub each_turn : (node : ℕ) → Here → Declared → (borrows : Bool) → (last : ℕ) → Does (Unit {0}) → Aim → (len : ℕ) → ℕ → Does (Turn ℕ (Unit {0}))
each_turn node here place borrows last body aim len i =
    at_node node Turns (at_node node Chooses (branch (nat_lt i len) (do
      location ← find aim
      still location len
      branch (is_hooked here.facts place.of)
          (do
            item ← at_node node Done_by (carry (item_at location i))
            at_node node Fills (element_for here place borrows item)
            again (scoped here place last body) (suc i))
          (do
            v ← at_node node Done_by (element_at location i)
            at_node node Fills (fill here place.number v)
            again (scoped here place last body) (suc i))) no_more))

-- a value becomes the result
abbrev pub result_gets : (hooked : Bool) → Option Declared → Here → Value → Does Value
result_gets hooked None here v = give nothing
result_gets false (Some place) here v = carry (put (place_at here.level place.number) v)
result_gets true (Some place) here v = carry (assigns (form_of here.facts place.of) (place_at here.level place.number) (Given v))

-- or a copy of the one at a location
abbrev pub result_copies : Option Declared → Here → Location → Does (Unit {0})
result_copies None here location = give tt
result_copies (Some place) here location = carry (assigned (form_of here.facts place.of) (place_at here.level place.number) (At location))

abbrev pub exit_by : Leaving → (by : ℕ) → Exit
exit_by K.Break by = Broke by
exit_by K.Continue by = Continued by
exit_by K.Return by = Returned by

-- control goes back to the caller, or on
abbrev pub back_or_on : (back : Bool) → (node : ℕ) → Does (Unit {0})
back_or_on true node = at_node node Leaves (leave (Returned node))
back_or_on false node = give tt

-- What comes with exceptions. A program that has any is refused before it runs.
abbrev pub from_exceptions : Does (Unit {0})
from_exceptions = give tt

-- the values of a head that is evaluated
abbrev pub head_values : Args → Here → Does (List Ready)
head_values head here = ready_all head (λ i. Owned) 0 here

abbrev pub ready_operand : List Ready → Value
ready_operand [] = nothing
ready_operand (Evaluated x ∷ rest) = value_of x
ready_operand (Aimed aim ∷ rest) = nothing

abbrev pub ready_rest : List Ready → List Ready
ready_rest [] = []
ready_rest (r ∷ rest) = rest

-- a value that no place holds
abbrev pub is_fresh : Args → Bool
is_fresh (ByPath (Fresh value) rest) = true
is_fresh head = false

abbrev pub ready_aim : List Ready → Aim
ready_aim (Aimed aim ∷ rest) = aim
ready_aim _ = Value_of nothing

-- the condition of a `while`, anew at each turn
abbrev pub test_of : Args → Here → Does Value
test_of (ByValue condition rest) here = ended_value here condition Owned (eval condition Owned here)
test_of _ here = give nothing

-- the value of the selector of a `case`
abbrev pub selector_of : Args → Here → Does Value
selector_of NoArg here = give nothing
selector_of (ByValue selector rest) here = eval selector Looked here
selector_of (ByPath path rest) here = do
  aim ← aimed path here
  location ← find aim
  at_path path (carry (fetched location))

-- Loops, over what their heads give.
abbrev pub loop_over : Kind → (node : ℕ) → Args → (last : ℕ) → Does (Unit {0}) → Here → Does (Unit {0})
loop_over While node head last body here = loop (while_turn node (test_of head here) body) tt
loop_over (Count place inclusive) node head last body here = grouped here node (waits_in here head) do
  ready ← head_values head here
  loop (count_turn node here place last body (limit inclusive (number_of (ready_operand (ready_rest ready))))) (number_of (ready_operand ready))
loop_over (Each place) node head last body here = grouped here node (waits_in here head) do
  ready ← head_values head here
  location ← at_node node Looks_up (find (ready_aim ready))
  len ← carry (length_at location)
  loop (each_turn node here place (is_fresh head) last body (ready_aim ready) len) 0

-- A statement's work is one, and comes first; that of one that is an expression is its node's.
abbrev mutual
  pub exec : Stmt → Here → Does (Unit {0})
  exec (Do value) here = grouped here (node_of value).number (waits_of here value Owned) (eval value Owned here) >> give tt
  exec (Idle node parts) here = costs 1 (at_node node.number Done_by (give tt))
  exec (Give node back value) here = costs 1 (grouped here node.number (waits_of here value ToPlace) (branch (gets_copy here ToPlace value)
      (do
        location ← source value here
        at_node node.number Done_by (result_copies here.result here location)
        back_or_on back node.number)
      (do
        v ← eval value ToPlace here
        given ← at_node node.number Done_by (result_gets (gives_hooked here.facts (type_of value)) here.result here v)
        back_or_on back node.number)))
  exec (Leave node leaving parts) here = costs 1 (at_node node.number Leaves (leave (exit_by leaving node.number)))
  exec (Select node ByConditions tests blocks) here = costs 1 (grouped here node.number [] (first_block tests blocks here))
  exec (Select node (ByLabels labels) tests blocks) here = costs 1 (grouped here node.number (waiting_first here.facts here.modes tests) do
    x ← selector_of tests here
    selecting here (selector_type tests) x
        (λ x. at_node node.number Chooses (picked_block (is_covered (selector_type tests)) labels blocks x here)))
  exec (Loop node kind head body) here = costs 1 (loop_over kind node.number head (last_of body) (exec_all body here) here)
  exec (Raise node exception message) here = from_exceptions
  exec (Try node body handlers last) here = from_exceptions

  pub exec_all : Stmts → Here → Does (Unit {0})
  exec_all Empty here = give tt
  exec_all (Then first rest) here = exec first here >> exec_all rest here
  exec_all (Declare node place cursor NoArg rest) here =
      costs 1 (at_node node.number Done_by (fill here place.number (default_of here.facts place.of)))
      >> scoped here place (last_after node.number rest) (exec_all rest here)
  exec_all (Declare node place cursor (ByValue value more) rest) here =
      costs 1 (grouped here node.number (waits_of here value ToPlace) (branch (gets_copy here ToPlace value)
      (do
        location ← source value here
        at_node node.number Done_by (fill_from here place location))
      (do
        v ← eval value ToPlace here
        at_node node.number Done_by (fill here place.number v))))
      >> scoped here place (last_after node.number rest) (exec_all rest here)
  exec_all (Declare node place cursor (ByPath path more) rest) here = give tt
  exec_all (Defer node last rest) here = from_exceptions

  -- the block behind the first condition that holds
  pub first_block : (conditions : Args) → Blocks → Here → Does (Unit {0})
  first_block NoArg (Otherwise block) here = exec_all block here
  first_block NoArg (Block first more) here = exec_all first here
  first_block (ByPath path rest) blocks here = give tt
  first_block (ByValue condition rest) (Otherwise block) here = give tt
  first_block (ByValue condition rest) (Block first more) here = do
    x ← at_node (node_of condition).number Asks (ended_value here condition Owned (eval condition Owned here))
    at_node (node_of condition).number Decides (branch (is_true (number_of x)) (exec_all first here) (first_block rest more here))

  -- The first block with a label that fits, or the one for all else. Without an `else`, where the labels cover the type, it is the last one.
  pub picked_block : (covered : Bool) → List (List Label) → Blocks → Value → Here → Does (Unit {0})
  picked_block covered labels (Otherwise block) x here = exec_all block here
  picked_block covered [] (Block first rest) x here = exec_all first here
  picked_block covered (these ∷ labels) (Block first rest) x here =
      picked these x (exec_all first here)
      (branch (covered && is_last_block rest) (exec_all first here) (picked_block covered labels rest x here))

-- ---- calls

abbrev pub result_slots : Facts → Option Declared → List Slot
result_slots facts None = []
result_slots facts (Some place) = Holds (default_of facts place.of) ∷ []

-- the places of a call: its parameters, then its result, and then what isn't declared yet
abbrev pub filled : ℕ → List Slot → List (Option Slot)
filled places slots = map Some slots ++ replicate (places - length slots) None

abbrev pub frame_of : Facts → Body → List Slot → Frame
frame_of facts body params = record {
  first = body.first;
  slots = filled body.places (params ++ result_slots facts body.result);
  temporaries = [];
  handling = [];
}

-- the parameters are met at the exit of a call, behind its result, in reverse order
abbrev pub params_end : Here → List Param → (exit : ℕ) → Does (Unit {0})
params_end here [] exit = give tt
params_end here (param ∷ params) exit = params_end here params exit >> ends here param.place exit

-- what a call hands to its caller
abbrev pub result_of : Option Declared → (level : ℕ) → World → Value
result_of None level world = nothing
result_of (Some place) level world = load world (place_at level place.number)

abbrev pub result_bytes : Option Declared → Value → ℕ
result_bytes None v = 0
result_bytes (Some place) v = bytes v

-- a call that came to its end gives its result; an exception leaves it
abbrev pub handing : Outcome (Unit {0}) → Value → Does Value
handing (On x) v = give v
handing (Out (Broke by)) v = give v
handing (Out (Continued by)) v = give v
handing (Out (Returned by)) v = give v
handing (Out (Raised exception by)) v = leave (Raised exception by)

abbrev pub handed : List Param → (last : ℕ) → Here → Outcome (Unit {0}) → Does Value
handed params last here flow =
    params_end here params (exit_of last flow)
    >> looks (λ world. branch (is_full (result_of here.result here.level world))
    (change (down_to here.level)
    >> costs (result_bytes here.result (result_of here.result here.level world)) (handing flow (result_of here.result here.level world))) wrong)

-- A call's work is the sum of its procedure, and the bytes of its result, which starts at its default.
abbrev pub entered_body : (globals : List Declared) (params : List Param) → Body → List Slot → Here → Does Value
entered_body globals params body slots here = costs (body_sum here.facts globals params body + if_place_bytes here.facts body.result) do
  change (λ world. with_frame world (frame_of here.facts body slots))
  at_exit (exec_all body.stmts here) (handed params (last_of body.stmts) here)

abbrev pub from_level : Program → Plan → (level : ℕ) → Calls → Body → Here
from_level program plan level calls body = record {
  level = level;
  result = body.result;
  calls = calls;
  modes = modes_in plan.sinks program.procs;
  facts = program.facts;
  plan = plan;
}

-- a procedure without a body isn't called
abbrev pub entered : (globals : List Declared) (params : List Param) → Option Body → List Slot → (Body → Here) → Does Value
entered globals params None slots here = give nothing
entered globals params (Some body) slots here = entered_body globals params body slots (here body)

-- a call of a user's hook is seen
abbrev pub seen_call : Option HookOf → List Event
seen_call None = []
seen_call (Some hook) = Hook hook.kind hook.of ∷ []

abbrev pub called : (globals : List Declared) → Option Proc → List Slot → (Body → Here) → Does Value
called globals None slots here = give nothing
called globals (Some proc) slots here = say (seen_call proc.hook) >> entered globals proc.params proc.body slots here

-- Calls to a level, where so many more may be active: with the level they are always as many. Each spends a unit, and one too many is a trap. The
-- points that it passes are those of another body.
abbrev pub calls : Program → Plan → (left level : ℕ) → Calls
calls program plan zero level proc slots = spending (stop CallDepth)
calls program plan (suc left) level proc slots =
    spending (elsewhere
    (called program.globals (slice_get program.procs proc) slots (from_level program plan level (calls program plan left (suc level)))))

-- ---- programs

-- the start code may have so many calls active
abbrev pub at_top : Program → Plan → Here
at_top program plan = from_level program plan 0 (calls program plan ACTIVE_CALLS 1) program.start

abbrev pub at_first : Program → (heap : ℕ) (input : List ℕ) (units : ℕ) → State
at_first program heap input n = record {
  meter = begun n;
  world = world_of (frame_of program.facts program.start [] ∷ []) heap input;
  trail = [];
}

-- the start code came to its end
abbrev pub reported : Outcome (Unit {0}) → Does (Unit {0})
reported flow = as_before flow

abbrev pub goes_through : Program → Plan → Does (Unit {0})
goes_through program plan =
    costs (body_sum program.facts program.globals [] program.start) (at_exit (exec_all program.start.stmts (at_top program plan)) reported)

-- The meaning of a program under a plan, with a heap of so many bytes, on an input, with n units. Each entry of a loop's body and each call of a
-- procedure spends a unit, and where none is left the run still goes on. A normal end has status 0.
abbrev pub meaning : Program → Plan → (heap : ℕ) → (input : List ℕ) → Behaviour Event
meaning program plan heap input =
    whole (λ s. s.meter) (λ _. 0) (λ s. live s.world) (λ n. goes_through program plan (at_first program heap input n))
