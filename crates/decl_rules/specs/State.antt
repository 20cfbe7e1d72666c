-- What stands around a statement, and what is known behind it.
use Rattle.std.specs.Prelude.{ℕ, Bool, true, false, ◌||◌, nat_eq, List, [], ◌∷◌, ◌++◌, length, drop, Option, Ok}
use Rattle.arc_base.specs.declared.place.Place.{Place}
use Rattle.arc_base.specs.declared.place.Code.TheVariants.{Redefined}
use Rattle.arc_base.specs.Refusal.{refused}
use Rattle.nim_types.specs.Types.{same_text}
use Rattle.nim_program.specs.declared.expr.Node.{Node}
use Rattle.nim_program.specs.Program.{Args, Declared, Stmt, Stmts, Empty, Then, Declare, Defer, Proc}
use Rattle.expr_rules.specs.Env.{Env, Entry, name_in}
use Rattle.expr_rules.specs.Answers.{Answer, not_typed}

-- ---- around

-- the place of a result, None where there is none
abbrev pub ResultPlace : Type 0
ResultPlace = Option Declared

pub data Inside : Type 0 where
  module_code : Inside
  a_procedure : (gives : ResultPlace) → Inside

pub record Around : Type 0 where
  pub inside : Inside
  -- whether it stands at the outermost level of its module
  pub outermost : Bool
  pub in_loop : Bool

abbrev pub in_module : Around
in_module = record { inside = module_code; outermost = true; in_loop = false }

abbrev pub in_body : ResultPlace → Around
in_body gives = record { inside = a_procedure gives; outermost = false; in_loop = false }

-- in a block of what stands there
abbrev pub deeper : Around → Around
deeper a = record a { outermost = false }

abbrev pub looping : Around → Around
looping a = record a { in_loop = true }

-- ---- the order of the text

-- the text in order, as far as what needs the whole of it asks
pub data Item : Type 0 where
  -- the first declaration, at `proc`, of the procedure with the number, which needs a body
  announces : (proc : ℕ) → Place → Item
  -- its body
  completes : (proc : ℕ) → Stmts → Item
  -- statements of module code
  code : Stmts → Item

-- whether the body of the procedure has come
abbrev pub is_completed : ℕ → List Item → Bool
is_completed p [] = false
is_completed p (announces q at ∷ rest) = is_completed p rest
is_completed p (completes q stmts ∷ rest) = nat_eq p q || is_completed p rest
is_completed p (code stmts ∷ rest) = is_completed p rest

-- ---- behind

pub record State : Type 0 where
  -- the innermost scope's declarations are those behind the first `outside`
  pub env : Env
  pub outside : ℕ
  -- the next numbers
  pub node : ℕ
  pub place : ℕ
  -- by number
  pub procs : List Proc
  pub globals : List Declared
  pub text : List Item

abbrev pub with_entries : State → List Entry → State
with_entries st entries = record st { env = record st.env { entries = entries } }

-- with further declarations
abbrev pub declaring : State → List Entry → State
declaring st more = with_entries st (st.env.entries ++ more)

-- at a node
abbrev pub up_to_node : State → ℕ → State
up_to_node st n = record st { node = n }

-- ---- scopes

-- a scope that begins here
abbrev pub entered : State → State
entered st = record st { outside = length st.env.entries }

-- behind the scopes that began behind `before`: their declarations are gone
abbrev pub left : (before after : State) → State
left before after = record (with_entries after before.env.entries) { outside = before.outside }

-- the declarations of the innermost scope
abbrev pub own_entries : State → List Entry
own_entries st = drop st.outside st.env.entries

abbrev pub is_declared : List ℕ → List Entry → Bool
is_declared x [] = false
is_declared x (e ∷ rest) = same_text x (name_in e) || is_declared x rest

-- a name, in normal form, that its scope doesn't declare yet
abbrev pub if_new : Bool → Place → Answer (Unit {0})
if_new true at = refused Redefined at
if_new false at = Ok tt

abbrev pub new_name : State → Place → List ℕ → Answer (Unit {0})
new_name st at x = if_new (is_declared x (own_entries st)) at

-- ---- what has to hold

abbrev pub if_typed : Bool → Place → Answer (Unit {0})
if_typed true at = Ok tt
if_typed false at = not_typed at

-- ---- typed statements in order

-- a statement before what follows it in its block
pub data Step : Type 0 where
  does : Stmt → Step
  -- with its value, or without
  declares : Node → Declared → (cursor : Bool) → Args → Step
  defers : Node → (last : Stmts) → Step

abbrev pub step_before : Step → Stmts → Stmts
step_before (does s) rest = Then s rest
step_before (declares node place cursor value) rest = Declare node place cursor value rest
step_before (defers node last) rest = Defer node last rest

abbrev pub block_of : List Step → Stmts
block_of [] = Empty
block_of (step ∷ rest) = step_before step (block_of rest)

-- statements, and the state behind them
pub record Stated : Type 0 where
  pub steps : List Step
  pub state : State

abbrev pub stated_as : List Step → State → Stated
stated_as steps st = record { steps = steps; state = st }

-- one, with the next node
abbrev pub did : State → Stmt → ℕ → Stated
did st s n = stated_as (does s ∷ []) (up_to_node st n)

-- the state behind statements; those at the outermost level of a module are noted in the order of the text
abbrev pub noting : (outermost : Bool) → Stated → State
noting true s = record s.state { text = s.state.text ++ code (block_of s.steps) ∷ [] }
noting false s = s.state

-- before others
abbrev pub and_more : Stated → Stated → Stated
and_more first rest = stated_as (first.steps ++ rest.steps) rest.state

-- a block, and the state behind it
pub record Blocked : Type 0 where
  pub stmts : Stmts
  pub state : State

abbrev pub blocked : Stmts → State → Blocked
blocked stmts st = record { stmts = stmts; state = st }

-- the block of statements whose scope began behind a state
abbrev pub closed : State → Stated → Blocked
closed st s = blocked (block_of s.steps) (left st s.state)
