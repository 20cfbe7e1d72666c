-- What is put together over all parts of a tree: said once, for whatever is counted or listed.
use Rattle.std.specs.Prelude.{ℕ, suc, ℤ, ◌+◌, min, max, nat_eq, if◌then◌else◌, Bool, true, false, List, [], ◌∷◌, ◌++◌, Option, Some, None}
use Rattle.nim_types.specs.Types.{Ty}
use Rattle.nim_program.specs.declared.expr.Node.{Node}
use Rattle.nim_program.specs.declared.operation.Short.{Short}
use Rattle.nim_program.specs.Program.{Literal, Act, Chooser, ByLabels, Expr, Apply, Read, Early, Choose}
use Rattle.nim_program.specs.Program.{Path, Variable, Fresh, Field, Element, Deref, Args, NoArg, ByValue, ByPath, node_of, type_of, type_at, is_written}
use Rattle.nim_program.specs.Program.{constant_in}
use Rattle.nim_program.specs.Program.{Declared, Kind, While, Count, Each, Stmt, Do, Idle, Give, Leave, Select, Loop, Raise, Try}
use Rattle.nim_program.specs.Program.{Stmts, Empty, Then, Declare, Defer, Blocks, Otherwise, Block, Handlers, NoHandler, Handler, Param, Body, Proc, Program}

-- a part of a path alone: the place that it names, a constant that is read where it stands, another value that no place holds; a field, an
-- element, the object of a ref
pub data Step : Type 0 where
  Named : (place : ℕ) (global : Bool) → Step
  Standing : (literal : Literal) → Step
  Begun : Step
  ToField : (field : ℕ) → Step
  ToElement : (constant : Option ℤ) → Step
  ToObject : Step

-- which part of the tree it is, without its own parts
pub data Part : Type 0 where
  -- an operation, a construction, a constant, a call
  Acting : (act : Act) → Part
  Stopping : (short : Short) → Part
  -- an `if` or a `case`, with the type of a selector that is read in place
  Choosing : (chooser : Chooser) (looked : Option Ty) → Part
  -- The last part of a path, and whether a place stands there that may be written. Of a path that is read only the last part is `read`: what
  -- stands there is its value; all others are in place, as those of a path that is an operand.
  Leading : (read written : Bool) (step : Step) → Part
  -- a statement of another kind
  Stating : Part
  Declaring : (cursor : Bool) → Part
  -- a loop, and whether it has a head, as each one of a source has
  Looping : (kind : Kind) (headed : Bool) → Part
  Handling : Part

-- A part of the tree: its node, the type of its value or of what stands where it leads, the places that it declares, and which part it is. A value
-- that a path begins with is a node of itself, and beside it, without a node, where the path begins; an object of a ref and a handler have none.
pub record Seen : Type 0 where
  pub node : Option Node
  pub ty : Option Ty
  pub places : List Declared
  pub part : Part

abbrev pub valued : Node → Option Ty → Part → Seen
valued node ty part = record { node = Some node; ty = ty; places = []; part = part }

abbrev pub stated : Node → List Declared → Part → Seen
stated node places part = record { node = Some node; ty = None; places = places; part = part }

abbrev pub led : Option Ty → (read written : Bool) → Step → Seen
led ty read written step = record { node = None; ty = ty; places = []; part = Leading read written step }

abbrev pub if_declared : Option Declared → List Declared
if_declared None = []
if_declared (Some place) = place ∷ []

abbrev pub loop_places : Kind → List Declared
loop_places While = []
loop_places (Count variable inclusive) = variable ∷ []
loop_places (Each variable) = variable ∷ []

abbrev pub handled : Option Declared → Seen
handled name = record { node = None; ty = None; places = if_declared name; part = Handling }

-- a selector at a path is read in place
abbrev pub looked_type : Chooser → Args → Option Ty
looked_type (ByLabels labels) (ByPath path rest) = type_at path
looked_type chooser parts = None

abbrev pub is_headed : Args → Bool
is_headed NoArg = false
is_headed head = true

-- where there is a constant, and where not
abbrev pub by_constant : {A : Type 0} → Option Literal → (Literal → A) → A → A
by_constant None constant other = other
by_constant (Some literal) constant other = constant literal

abbrev pub if_constant : {A : Type 0} → Option Literal → A → A → A
if_constant None constant other = other
if_constant (Some literal) constant other = constant

-- what a path begins with: a constant where it stands, or beside a value its place
abbrev pub begun_by : Option Literal → (read : Bool) → Expr → Seen
begun_by None read value = led (type_of value) read false Begun
begun_by (Some literal) read value = valued (node_of value) (type_of value) (Leading read false (Standing literal))

-- what is put together, and how
pub record Sum (A : Type 0) : Type 0 where
  pub none : A
  pub plus : A → A → A

-- ---- over all parts, in order of text

module _ {A : Type 0} (sum : Sum A) where
  abbrev pub together : List A → A
  together [] = sum.none
  together (x ∷ xs) = sum.plus x (together xs)

  -- each of the first before one of the second, and then what is left
  abbrev pub in_turn : List A → List A → A
  in_turn [] ys = together ys
  in_turn (x ∷ xs) [] = sum.plus x (together xs)
  in_turn (x ∷ xs) (y ∷ ys) = sum.plus x (sum.plus y (in_turn xs ys))

module _ {A : Type 0} (sum : Sum A) (own : Seen → A) where
  abbrev mutual
    pub total : Expr → A
    total (Apply node ty act operands) = sum.plus (own (valued node ty (Acting act))) (totals operands)
    total (Read path) = total_at true path
    total (Early node ty short left right) = sum.plus (own (valued node (Some ty) (Stopping short))) (sum.plus (total left) (total right))
    total (Choose node ty chooser parts) = sum.plus (own (valued node ty (Choosing chooser (looked_type chooser parts)))) (totals parts)

    pub total_at : (read : Bool) → Path → A
    total_at read (Variable node ty place global) = own (valued node (Some ty) (Leading read true (Named place global)))
    total_at read (Fresh value) =
        if_constant (constant_in value) (own (begun_by (constant_in value) read value))
        (sum.plus (own (begun_by (constant_in value) read value)) (total value))
    total_at read (Field node ty base field) =
        sum.plus (own (valued node (Some ty) (Leading read (is_written base) (ToField field)))) (total_at false base)
    total_at read (Element node ty base index constant) =
        sum.plus (own (valued node (Some ty) (Leading read (is_written base) (ToElement constant)))) (sum.plus (total_at false base) (total index))
    total_at read (Deref ty base) = sum.plus (own (led (Some ty) read true ToObject)) (total_at false base)

    pub totals : Args → A
    totals NoArg = sum.none
    totals (ByValue value rest) = sum.plus (total value) (totals rest)
    totals (ByPath path rest) = sum.plus (total_at false path) (totals rest)

  abbrev pub each : Args → List A
  each NoArg = []
  each (ByValue value rest) = total value ∷ each rest
  each (ByPath path rest) = total_at false path ∷ each rest

  abbrev mutual
    pub total_in : Stmt → A
    total_in (Do value) = total value
    total_in (Idle node parts) = sum.plus (own (stated node [] Stating)) (totals parts)
    total_in (Give node back value) = sum.plus (own (stated node [] Stating)) (total value)
    total_in (Leave node leaving parts) = sum.plus (own (stated node [] Stating)) (totals parts)
    -- each condition stands before its block, and a selector before all
    total_in (Select node chooser tests blocks) =
        sum.plus (own (stated node [] (Choosing chooser (looked_type chooser tests)))) (in_turn sum (each tests) (each_block blocks))
    total_in (Loop node kind head body) =
        sum.plus (own (stated node (loop_places kind) (Looping kind (is_headed head)))) (sum.plus (totals head) (total_of body))
    total_in (Raise node exception message) = sum.plus (own (stated node [] Stating)) (totals message)
    total_in (Try node body handlers last) =
        sum.plus (own (stated node [] Stating)) (sum.plus (total_of body) (sum.plus (total_of_handlers handlers) (total_of last)))

    pub total_of : Stmts → A
    total_of Empty = sum.none
    total_of (Then first rest) = sum.plus (total_in first) (total_of rest)
    total_of (Declare node place cursor value rest) =
        sum.plus (own (stated node (place ∷ []) (Declaring cursor))) (sum.plus (totals value) (total_of rest))
    total_of (Defer node last rest) = sum.plus (own (stated node [] Stating)) (sum.plus (total_of last) (total_of rest))

    pub each_block : Blocks → List A
    each_block (Otherwise block) = total_of block ∷ []
    each_block (Block first rest) = total_of first ∷ each_block rest

    pub total_of_handlers : Handlers → A
    total_of_handlers NoHandler = sum.none
    total_of_handlers (Handler types name body rest) = sum.plus (own (handled name)) (sum.plus (total_of body) (total_of_handlers rest))

-- over the bodies of a program: those of its procedures, and then the start code
module _ {A : Type 0} (sum : Sum A) (own : Body → A) where
  abbrev pub if_body : Option Body → A
  if_body None = sum.none
  if_body (Some body) = own body

  abbrev pub in_procs : List Proc → A
  in_procs [] = sum.none
  in_procs (proc ∷ procs) = sum.plus (if_body proc.body) (in_procs procs)

  abbrev pub in_bodies : Program → A
  in_bodies program = sum.plus (in_procs program.procs) (own program.start)

-- ---- what is put together

abbrev pub numbers : Sum ℕ
numbers = record { none = 0; plus = λ a b. a + b }

-- as far as they matter: what is beyond a most is as one more than it
abbrev pub capped : (most : ℕ) → ℕ → ℕ
capped most n = min n (suc most)

abbrev pub capped_numbers : (most : ℕ) → Sum ℕ
capped_numbers most = record { none = 0; plus = λ a b. capped most (a + b) }

abbrev pub greatest : Sum ℕ
greatest = record { none = 0; plus = λ a b. max a b }

abbrev pub lists : {A : Type 0} → Sum (List A)
lists = record { none = []; plus = λ xs ys. xs ++ ys }

-- the first one that there is
abbrev pub first_some : {A : Type 0} → Option A → Option A → Option A
first_some None other = other
first_some (Some x) other = Some x

abbrev pub firsts : {A : Type 0} → Sum (Option A)
firsts = record { none = None; plus = first_some }

-- ---- nodes and places

abbrev pub number_if : Option Node → List ℕ
number_if None = []
number_if (Some node) = node.number ∷ []

-- the number of the node that a part is
abbrev pub node_numbers : Seen → List ℕ
node_numbers seen = number_if seen.node

abbrev pub if_number : ℕ → Node → Option Node
if_number n node = if nat_eq node.number n then Some node else None

abbrev pub and_then : Option Node → (Node → Option Node) → Option Node
and_then None go = None
and_then (Some node) go = go node

-- where it has this number
abbrev pub node_with : ℕ → Seen → Option Node
node_with n seen = and_then seen.node (if_number n)

-- the greatest of some, 0 of none
abbrev pub greatest_of : List ℕ → ℕ
greatest_of [] = 0
greatest_of (n ∷ ns) = max n (greatest_of ns)

abbrev pub own_node : Seen → ℕ
own_node seen = greatest_of (node_numbers seen)

-- the nodes of an expression, and of a block
abbrev pub nodes : Expr → List ℕ
nodes = total lists node_numbers

abbrev pub block_nodes : Stmts → List ℕ
block_nodes = total_of lists node_numbers

-- the places that a part declares
abbrev pub own_places : Seen → List Declared
own_places seen = seen.places

-- the places that a block declares, in order of text
abbrev pub block_places : Stmts → List Declared
block_places = total_of lists own_places

abbrev pub param_places : List Param → List Declared
param_places [] = []
param_places (param ∷ params) = param.place ∷ param_places params

-- those of a procedure: parameters, result, and what its body declares
abbrev pub body_places : List Param → Body → List Declared
body_places params body = param_places params ++ (if_declared body.result ++ block_places body.stmts)
