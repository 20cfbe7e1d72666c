-- A typed program as definitions speak of it: a tree without boxes, capacities and tables, with the types in place.
use Rattle.std.specs.Prelude.{ℕ, ℤ, Bool, true, false, List, [], ◌∷◌, Option, Some, None}
use Rattle.arc_base.specs.declared.place.Place.{Place}
use Rattle.nim_types.specs.Types.{Ty, Facts}
use Rattle.nim_program.specs.declared.expr.Node.{Node}
use Rattle.nim_program.specs.declared.operation.Operation.{Operation}
use Rattle.nim_program.specs.declared.operation.Short.{Short}
use Rattle.nim_program.specs.declared.stmt.Leaving.{Leaving}
use Rattle.nim_program.specs.declared.program.Mode.{Mode}
use Rattle.nim_program.specs.declared.program.HookOf.{HookOf}

-- the values of a label of a `case`
pub data Label : Type 0 where
  Ordinals : (low high : ℤ) → Label
  Exactly : (text : List ℕ) → Label

mutual
  -- the value of a constant: an ordinal, a text, `nil`, the parts of an array, a tuple or an object, or the elements of a sequence
  pub data Literal : Type 0 where
    Number : (value : ℤ) → Literal
    Characters : (text : List ℕ) → Literal
    NoObject : Literal
    PartsOf : (all : Literals) → Literal
    ElementsOf : (all : Literals) → Literal

  pub data Literals : Type 0 where
    NoLiteral : Literals
    ALiteral : (first : Literal) (rest : Literals) → Literals

-- what is done with operands: a row of the table; an object from values of these fields; the value of a constant; or a call, with the
-- types for type parameters
pub data Act : Type 0 where
  Doing : (operation : Operation) → Act
  Building : (fields : List ℕ) → Act
  Giving : (literal : Literal) → Act
  Calling : (proc : ℕ) (types : List Ty) → Act

-- how a branch is chosen: the first one whose condition holds, or the first one that has the selector's value among its labels
pub data Chooser : Type 0 where
  ByConditions : Chooser
  ByLabels : (labels : List (List Label)) → Chooser

mutual
  -- An expression. Its type is in place, None of one that gives no value.
  pub data Expr : Type 0 where
    -- operands from left to right, and then what is done with them
    Apply : (node : Node) (ty : Option Ty) (act : Act) (operands : Args) → Expr
    Read : (path : Path) → Expr
    -- `and` and `or`, which stop early
    Early : (node : Node) (ty : Ty) (short : Short) (left right : Expr) → Expr
    -- A value of several, with its parts in order of text: for an `if` each condition before its value, for a `case` the selector and then the
    -- values; the value of `else` comes last.
    Choose : (node : Node) (ty : Option Ty) (chooser : Chooser) (parts : Args) → Expr

  -- a name or a fresh value, followed by fields, indexes and dereferences; each part but a dereference is a node with a type
  pub data Path : Type 0 where
    Variable : (node : Node) (ty : Ty) (place : ℕ) (global : Bool) → Path
    Fresh : (value : Expr) → Path
    Field : (node : Node) (ty : Ty) (base : Path) (field : ℕ) → Path
    -- with the number of the index where that is constant
    Element : (node : Node) (ty : Ty) (base : Path) (index : Expr) (constant : Option ℤ) → Path
    Deref : (ty : Ty) (base : Path) → Path

  -- operands: values, and places by their paths
  pub data Args : Type 0 where
    NoArg : Args
    ByValue : (value : Expr) (rest : Args) → Args
    ByPath : (path : Path) (rest : Args) → Args

-- a declared place
pub record Declared : Type 0 where
  pub number : ℕ
  pub name : List ℕ
  pub at : Place
  pub of : Ty

-- how a body is repeated, over what its head gives
pub data Kind : Type 0 where
  -- as long as its head holds
  While : Kind
  -- for the ints from its head's first to its last, with that one where it is inclusive
  Count : (variable : Declared) (inclusive : Bool) → Kind
  -- for the elements at its head's path
  Each : (variable : Declared) → Kind

mutual
  pub data Stmt : Type 0 where
    -- an expression without a value, whose node is the statement's
    Do : (value : Expr) → Stmt
    -- nothing is done, and its parts aren't evaluated
    Idle : (node : Node) (parts : Args) → Stmt
    -- the result becomes the value, and then control goes back, or on
    Give : (node : Node) (back : Bool) (value : Expr) → Stmt
    -- control leaves; the parts aren't evaluated
    Leave : (node : Node) (leaving : Leaving) (parts : Args) → Stmt
    Select : (node : Node) (chooser : Chooser) (tests : Args) (blocks : Blocks) → Stmt
    Loop : (node : Node) (kind : Kind) (head : Args) (body : Stmts) → Stmt
    -- a new exception with a message, or the one that is handled
    Raise : (node : Node) (exception : Option Ty) (message : Args) → Stmt
    Try : (node : Node) (body : Stmts) (handlers : Handlers) (last : Stmts) → Stmt

  -- A block: statements, one after another. A declared place is there from its declaration to the end of the block.
  pub data Stmts : Type 0 where
    Empty : Stmts
    Then : (first : Stmt) (rest : Stmts) → Stmts
    -- with a value, or with its default
    Declare : (node : Node) (place : Declared) (cursor : Bool) (value : Args) (rest : Stmts) → Stmts
    -- `last` is done behind the rest, however it ends
    Defer : (node : Node) (last : Stmts) (rest : Stmts) → Stmts

  -- the blocks of branches; the last one is for all else
  pub data Blocks : Type 0 where
    Otherwise : (block : Stmts) → Blocks
    Block : (first : Stmts) (rest : Blocks) → Blocks

  -- for exceptions of these types and of those below them, for all where there are none; with the name of the exception
  pub data Handlers : Type 0 where
    NoHandler : Handlers
    Handler : (types : List Ty) (name : Option Declared) (body : Stmts) (rest : Handlers) → Handlers

pub record Param : Type 0 where
  pub place : Declared
  pub mode : Mode

-- Its places are numbered from `first`, so many: parameters, result, and what is declared in it. So many nodes come before its own.
pub record Body : Type 0 where
  pub first : ℕ
  pub places : ℕ
  pub before : ℕ
  pub result : Option Declared
  pub stmts : Stmts

pub record Proc : Type 0 where
  pub name : List ℕ
  pub at : Place
  pub type_params : ℕ
  pub params : List Param
  pub gives : Option Ty
  pub body : Option Body
  pub hook : Option HookOf

-- its types by number and what is said of them, its procedures by number, its globals in order of declaration, and the code of all
-- modules in order
pub record Program : Type 0 where
  pub types : List Ty
  pub facts : Facts
  pub procs : List Proc
  pub globals : List Declared
  pub start : Body

-- ---- types and nodes

abbrev mutual
  -- the type of its value, None where it gives none
  pub type_of : Expr → Option Ty
  type_of (Apply node ty act operands) = ty
  type_of (Read path) = type_at path
  type_of (Early node ty short left right) = Some ty
  type_of (Choose node ty chooser parts) = ty

  pub type_at : Path → Option Ty
  type_at (Variable node ty place global) = Some ty
  type_at (Fresh value) = type_of value
  type_at (Field node ty base field) = Some ty
  type_at (Element node ty base index constant) = Some ty
  type_at (Deref ty base) = Some ty

abbrev mutual
  pub node_of : Expr → Node
  node_of (Apply node ty act operands) = node
  node_of (Read path) = node_at path
  node_of (Early node ty short left right) = node
  node_of (Choose node ty chooser parts) = node

  -- its last node
  pub node_at : Path → Node
  node_at (Variable node ty place global) = node
  node_at (Fresh value) = node_of value
  node_at (Field node ty base field) = node
  node_at (Element node ty base index constant) = node
  node_at (Deref ty base) = node_at base

-- A path that can be written begins at a place, or passes through a ref.
abbrev pub is_written : Path → Bool
is_written (Variable node ty place global) = true
is_written (Fresh value) = false
is_written (Field node ty base field) = is_written base
is_written (Element node ty base index constant) = is_written base
is_written (Deref ty base) = true

-- a constant: where a path begins with one, it is read where it stands
abbrev pub constant_in : Expr → Option Literal
constant_in (Apply node ty (Giving literal) NoArg) = Some literal
constant_in value = None

-- of operands, in order
abbrev pub types_in : Args → List (Option Ty)
types_in NoArg = []
types_in (ByValue value rest) = type_of value ∷ types_in rest
types_in (ByPath path rest) = type_at path ∷ types_in rest

-- ---- blocks

abbrev pub node_in : Stmt → Node
node_in (Do value) = node_of value
node_in (Idle node parts) = node
node_in (Give node back value) = node
node_in (Leave node leaving parts) = node
node_in (Select node chooser tests blocks) = node
node_in (Loop node kind head body) = node
node_in (Raise node exception message) = node
node_in (Try node body handlers last) = node

-- of the first statement of a block
abbrev pub first_node : Stmts → Option Node
first_node Empty = None
first_node (Then first rest) = Some (node_in first)
first_node (Declare node place cursor value rest) = Some node
first_node (Defer node last rest) = Some node

-- The number of the last statement of a block, where the one before these has number n. What follows a `defer` is a block of its own, so
-- that statement is the last one of the block around it.
abbrev pub last_after : ℕ → Stmts → ℕ
last_after n Empty = n
last_after n (Then first rest) = last_after (node_in first).number rest
last_after n (Declare node place cursor value rest) = last_after node.number rest
last_after n (Defer node last rest) = node.number

-- The last statement of a block, whose end is the block's normal exit. A block has a statement; of one without any it would be 0.
abbrev pub last_of : Stmts → ℕ
last_of block = last_after 0 block
