-- What of globals and procedures occurs in typed code, in order of text.
use Rattle.std.specs.Prelude.{ℕ, Bool, true, false, List, [], ◌∷◌, ◌++◌, Option, Some, None}
use Rattle.arc_base.specs.declared.place.Place.{Place}
use Rattle.nim_program.specs.Program.{Act, Calling, Expr, Apply, Read, Early, Choose, Path, Variable, Fresh, Field, Element, Deref}
use Rattle.nim_program.specs.Program.{Args, NoArg, ByValue, ByPath, Stmt, Do, Idle, Give, Leave, Select, Loop, Raise, Try, Stmts, Empty, Then, Declare, Defer}
use Rattle.nim_program.specs.Program.{Blocks, Otherwise, Block, Handlers, NoHandler, Handler, node_at}
use Rattle.decl_rules.specs.Turns.{in_turn, joined}

pub data Occurrence : Type 0 where
  -- a use of a global, read or written
  global : (place : ℕ) → Occurrence
  calls : (proc : ℕ) → Occurrence
  -- a `var` argument of a procedure, behind what occurs in it: its place, and the global at its root
  hands : (proc : ℕ) → Place → (global : ℕ) → Occurrence

abbrev pub global_if : Bool → ℕ → List Occurrence
global_if true place = global place ∷ []
global_if false place = []

abbrev pub root_if : Bool → ℕ → Option ℕ
root_if true place = Some place
root_if false place = None

-- the global at the root of a path; what a ref leads to is in none
abbrev pub global_root : Path → Option ℕ
global_root (Variable node ty place is_global) = root_if is_global place
global_root (Fresh a) = None
global_root (Field node ty base field) = global_root base
global_root (Element node ty base i constant) = global_root base
global_root (Deref ty base) = None

abbrev pub hands_if : ℕ → Place → Option ℕ → List Occurrence
hands_if p at (Some g) = hands p at g ∷ []
hands_if p at None = []

-- the procedure that is called
abbrev pub callee : Act → Option ℕ
callee (Calling proc types) = Some proc
callee _ = None

abbrev pub calls_if : Option ℕ → List Occurrence
calls_if (Some p) = calls p ∷ []
calls_if None = []

-- a path among the operands of a call, or of something else
abbrev pub hands_by : Option ℕ → Path → List Occurrence
hands_by (Some p) path = hands_if p (node_at path).at (global_root path)
hands_by None path = []

abbrev mutual
  pub in_expr : Expr → List Occurrence
  in_expr (Apply node ty act operands) = calls_if (callee act) ++ in_args (callee act) operands
  in_expr (Read path) = in_path path
  in_expr (Early node ty short a b) = in_expr a ++ in_expr b
  in_expr (Choose node ty chooser parts) = in_args None parts

  pub in_path : Path → List Occurrence
  in_path (Variable node ty place is_global) = global_if is_global place
  in_path (Fresh a) = in_expr a
  in_path (Field node ty base field) = in_path base
  in_path (Element node ty base i constant) = in_path base ++ in_expr i
  in_path (Deref ty base) = in_path base

  -- operands, of a call of a procedure or of something else
  pub in_args : (callee : Option ℕ) → Args → List Occurrence
  in_args p NoArg = []
  in_args p (ByValue a rest) = in_expr a ++ in_args p rest
  in_args p (ByPath path rest) = in_path path ++ (hands_by p path ++ in_args p rest)

-- operand by operand
abbrev pub in_each : Args → List (List Occurrence)
in_each NoArg = []
in_each (ByValue a rest) = in_expr a ∷ in_each rest
in_each (ByPath path rest) = in_path path ∷ in_each rest

abbrev mutual
  pub in_stmt : Stmt → List Occurrence
  in_stmt (Do a) = in_expr a
  in_stmt (Idle node parts) = in_args None parts
  in_stmt (Give node back a) = in_expr a
  in_stmt (Leave node leaving parts) = in_args None parts
  in_stmt (Select node chooser tests blocks) = joined (in_turn (in_each tests) (in_blocks blocks))
  in_stmt (Loop node kind head body) = in_args None head ++ in_block body
  in_stmt (Raise node exception message) = in_args None message
  in_stmt (Try node body handlers last) = in_block body ++ (in_handlers handlers ++ in_block last)

  pub in_block : Stmts → List Occurrence
  in_block Empty = []
  in_block (Then s rest) = in_stmt s ++ in_block rest
  in_block (Declare node place cursor value rest) = in_args None value ++ in_block rest
  in_block (Defer node last rest) = in_block last ++ in_block rest

  -- block by block
  pub in_blocks : Blocks → List (List Occurrence)
  in_blocks (Otherwise block) = in_block block ∷ []
  in_blocks (Block first rest) = in_block first ∷ in_blocks rest

  pub in_handlers : Handlers → List Occurrence
  in_handlers NoHandler = []
  in_handlers (Handler types name body rest) = in_block body ++ in_handlers rest
