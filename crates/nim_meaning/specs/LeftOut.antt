-- Programs that are built whole. Left out of them are refs, exceptions, objects with hooks of their own, calls with types for type parameters, and
-- what a ref or such an object is in: a value of that type, a place, an operand. So are `readLine(stdin)` and the message of an exception. Of these the
-- meaning, which is total, says nothing (`from_heap`, `from_exceptions`).
use Rattle.std.specs.Prelude.{◌≡◌, ℕ, Bool, true, false, not, ◌||◌, nat_lt, List, [], ◌∷◌, ◌++◌, map, Option, Some, None, option_map}
use Rattle.arc_base.specs.declared.place.Place.{Place}
use Rattle.nim_types.specs.Types as type
use Rattle.nim_types.specs.Types.{Ty, Facts}
use Rattle.nim_program.specs.declared.expr.Node.{Node}
use Rattle.nim_program.specs.declared.operation.Operation.{Operation}
use Rattle.nim_program.specs.declared.operation.Operation.TheVariants as O
use Rattle.nim_program.specs.Program.{Act, Doing, Building, Giving, Calling, Expr, Apply, Read, Early, Choose, Path, Variable, Fresh, Field}
use Rattle.nim_program.specs.Program.{Element, Deref, Args, NoArg, ByValue, ByPath, Declared, Stmt, Do, Idle, Give, Leave, Select, Loop, Raise, Try}
use Rattle.nim_program.specs.Program.{Stmts, Empty, Then, Declare, Defer, Blocks, Otherwise, Block, Param, Body, Proc, Program}
use Rattle.nim_program.specs.Program.{types_in, node_at, node_in}
use Rattle.nim_program.specs.Folds.{first_some, if_declared, loop_places}
use Rattle.nim_program.specs.Program.{type_at}
use Rattle.nim_meaning.specs.Unbuilt.{is_unbuilt, gives_unbuilt, any_unbuilt}

-- ---- the table, by what is built

-- of operands of such types
abbrev pub is_built : Operation → Facts → List (Option Ty) → Bool
is_built (O.Compare comparison) facts of = not (any_unbuilt facts of)
is_built (O.Measure measure) facts of = not (any_unbuilt facts of)
is_built O.IsNil facts of = false
is_built O.ReadLine facts of = false
is_built O.Destroy facts of = false
is_built O.Blank facts of = false
is_built _ facts of = true

abbrev pub is_act_built : Act → Facts → Option Ty → Args → Bool
is_act_built (Doing operation) facts ty operands = is_built operation facts (types_in operands)
is_act_built (Building fields) facts ty operands = true
is_act_built (Giving literal) facts ty operands = true
is_act_built (Calling proc []) facts ty operands = true
is_act_built (Calling proc (first ∷ types)) facts ty operands = false

-- an exception has no parts yet
abbrev pub is_exception_type : Option Ty → Bool
is_exception_type (Some (type.exception key)) = true
is_exception_type base = false

-- ---- nodes

-- a node that is left out where a condition holds
abbrev pub out_if : Bool → Node → Option Node
out_if false node = None
out_if true node = Some node

-- of two parts, one before the other in the text
infixr 6 ◌or_then◌
abbrev pub ◌or_then◌ : Option Node → Option Node → Option Node
first or_then later = first_some first later

-- the earlier of two, since nodes are numbered in order of text
abbrev pub earlier : Option Node → Option Node → Option Node
earlier None other = other
earlier (Some node) None = Some node
earlier (Some node) (Some other) = out_if (nat_lt node.number other.number) node or_then Some other

-- what a choice or a loop goes by
abbrev pub first_unbuilt : Facts → List (Option Ty) → Bool
first_unbuilt facts [] = false
first_unbuilt facts (ty ∷ of) = gives_unbuilt facts ty

abbrev pub any_place_unbuilt : Facts → List Declared → Bool
any_place_unbuilt facts [] = false
any_place_unbuilt facts (place ∷ places) = is_unbuilt facts place.of || any_place_unbuilt facts places

-- ---- the first node of a part that is left out; a node comes before its operands

abbrev mutual
  pub left_out_in : Facts → Expr → Option Node
  left_out_in facts (Apply node ty act operands) =
      out_if (gives_unbuilt facts ty || not (is_act_built act facts ty operands)) node
      or_then left_out_in_args facts operands
  left_out_in facts (Read path) = left_out_in_path facts path
  left_out_in facts (Early node ty short left right) = left_out_in facts left or_then left_out_in facts right
  left_out_in facts (Choose node ty chooser parts) =
      out_if (gives_unbuilt facts ty || first_unbuilt facts (types_in parts)) node or_then left_out_in_args facts parts

  pub left_out_in_path : Facts → Path → Option Node
  left_out_in_path facts (Variable node ty place global) = out_if (is_unbuilt facts ty) node
  left_out_in_path facts (Fresh value) = left_out_in facts value
  left_out_in_path facts (Field node ty base field) =
      out_if (is_unbuilt facts ty || is_exception_type (type_at base)) node or_then left_out_in_path facts base
  left_out_in_path facts (Element node ty base index constant) =
      out_if (is_unbuilt facts ty) node or_then left_out_in_path facts base or_then left_out_in facts index
  left_out_in_path facts (Deref ty base) = Some (node_at base)

  pub left_out_in_args : Facts → Args → Option Node
  left_out_in_args facts NoArg = None
  left_out_in_args facts (ByValue value rest) = left_out_in facts value or_then left_out_in_args facts rest
  left_out_in_args facts (ByPath path rest) = left_out_in_path facts path or_then left_out_in_args facts rest

abbrev mutual
  pub left_out_in_stmt : Facts → Stmt → Option Node
  left_out_in_stmt facts (Do value) = left_out_in facts value
  left_out_in_stmt facts (Idle node parts) = left_out_in_args facts parts
  left_out_in_stmt facts (Give node back value) = left_out_in facts value
  left_out_in_stmt facts (Leave node leaving parts) = left_out_in_args facts parts
  left_out_in_stmt facts (Select node chooser tests blocks) =
      out_if (first_unbuilt facts (types_in tests)) node or_then earlier (left_out_in_args facts tests) (left_out_in_blocks facts blocks)
  left_out_in_stmt facts (Loop node kind head body) =
      out_if (any_place_unbuilt facts (loop_places kind) || first_unbuilt facts (types_in head)) node
      or_then left_out_in_args facts head or_then left_out_in_block facts body
  left_out_in_stmt facts (Raise node exception message) = Some node
  left_out_in_stmt facts (Try node body handlers last) = Some node

  pub left_out_in_block : Facts → Stmts → Option Node
  left_out_in_block facts Empty = None
  left_out_in_block facts (Then first rest) = left_out_in_stmt facts first or_then left_out_in_block facts rest
  left_out_in_block facts (Declare node place cursor value rest) =
      out_if (is_unbuilt facts place.of) node or_then left_out_in_args facts value or_then left_out_in_block facts rest
  left_out_in_block facts (Defer node last rest) = Some node

  pub left_out_in_blocks : Facts → Blocks → Option Node
  left_out_in_blocks facts (Otherwise block) = left_out_in_block facts block
  left_out_in_blocks facts (Block first rest) = left_out_in_block facts first or_then left_out_in_blocks facts rest

-- ---- bodies and programs

-- the number of the first statement of a block; of one without any it would be 0
abbrev pub first_of : Stmts → ℕ
first_of Empty = 0
first_of (Then first rest) = (node_in first).number
first_of (Declare node place cursor value rest) = node.number
first_of (Defer node last rest) = node.number

-- The places of a head are no nodes: they count as the first node of the body, and come before it.
abbrev pub left_out_in_head : Facts → (number : ℕ) → List Declared → Option Node
left_out_in_head facts number [] = None
left_out_in_head facts number (place ∷ places) =
    out_if (is_unbuilt facts place.of) (record { number = number; at = place.at }) or_then left_out_in_head facts number places

abbrev pub left_out_in_body : Facts → List Param → Body → Option Node
left_out_in_body facts params body =
    left_out_in_head facts (first_of body.stmts) (map (λ param. param.place) params ++ if_declared body.result)
    or_then left_out_in_block facts body.stmts

-- a procedure without a body does nothing
abbrev pub left_out_in_proc : Facts → List Param → Option Body → Option Node
left_out_in_proc facts params None = None
left_out_in_proc facts params (Some body) = left_out_in_body facts params body

abbrev pub left_out_in_procs : Facts → List Proc → Option Node
left_out_in_procs facts [] = None
left_out_in_procs facts (proc ∷ procs) = earlier (left_out_in_proc facts proc.params proc.body) (left_out_in_procs facts procs)

-- where the first node in order of text stands that is left out
abbrev pub first_left_out : Program → Option Place
first_left_out program =
    option_map (λ node. node.at) (earlier (left_out_in_procs program.facts program.procs) (left_out_in_body program.facts [] program.start))

-- its whole meaning is built
abbrev pub IsBuilt : Program → Type 0
IsBuilt program = first_left_out program ≡ None
