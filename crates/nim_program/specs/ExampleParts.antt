-- What examples of typed trees are made of: a few types and places, and short names for trees.
use Rattle.std.specs.Prelude.{ℕ, pos, Bool, false, List, [], ◌∷◌, codes, Option, Some, None}
use Rattle.arc_base.specs.declared.place.Place.{Place}
use Rattle.nim_types.specs.Types as type
use Rattle.nim_types.specs.Types.{Ty, no_types, types, Key, Facts, members, fields, base, below}
use Rattle.nim_program.specs.declared.expr.Node.{Node}
use Rattle.nim_program.specs.declared.operation.Operation.{Operation}
use Rattle.nim_program.specs.declared.operation.Operation.TheVariants as O
use Rattle.nim_program.specs.declared.program.Mode.TheVariants.{Plain, Var}
use Rattle.nim_program.specs.Program.{Literal, Number, Characters, NoObject, Expr, Apply, Doing, Giving, Path, Variable, Args, NoArg, ByValue, ByPath}
use Rattle.nim_program.specs.Program.{Declared, Stmt, Do, Stmts, Empty, Then, Param, Body, Proc}
use Rattle.nim_program.specs.Scopes.{Here, placed}

abbrev pub spot : Place
spot = record { «module» = 0; line = 1; column = 1 }

abbrev pub at : ℕ → Node
at n = record { number = n; at = spot }

abbrev pub key : List ℕ → Key
key name = record { name = name; at = spot }

-- ---- types: `enum red, green`, `object`, `ref object`, `distinct int`, an exception, and an object with hooks of its own

abbrev pub color : Ty
color = type.enum (key (codes "Color"))

abbrev pub point : Ty
point = type.object (key (codes "Point")) no_types

abbrev pub item : Ty
item = type.object (key (codes "Item")) no_types

abbrev pub node : Ty
node = type.ref None item

abbrev pub metres : Ty
metres = type.distinct (key (codes "Metres"))

abbrev pub fault : Ty
fault = type.exception (key (codes "ValueError"))

abbrev pub file : Ty
file = type.object (key (codes "File")) no_types

abbrev pub pair : Ty
pair = type.tuple [] (types type.int (types type.text no_types))

abbrev pub all_types : List Ty
all_types =
    type.int ∷ type.bool ∷ type.char ∷ type.text ∷ type.sequence type.int ∷ type.array 3 type.int ∷ pair ∷ color ∷ point ∷ item ∷ node ∷ metres ∷
    fault ∷ file ∷ []

abbrev field : List ℕ → Ty → type.Field
field name ty = record { name = name; shown = false; of = ty }

abbrev pub facts : Facts
facts =
    record { of = color; fact = members (codes "red" ∷ codes "green" ∷ []) } ∷
    record { of = point; fact = fields (field (codes "x") type.int ∷ field (codes "y") type.int ∷ []) false } ∷
    record { of = item; fact = fields (field (codes "next") node ∷ field (codes "name") type.text ∷ []) false } ∷
    record { of = metres; fact = base type.int } ∷
    record { of = fault; fact = below None } ∷
    record { of = file; fact = fields (field (codes "handle") type.int ∷ []) Bool.true } ∷ []

-- ---- expressions

abbrev pub constant : Ty → Literal → Expr
constant ty literal = Apply (at 0) (Some ty) (Giving literal) NoArg

abbrev pub number : ℕ → Expr
number n = constant type.int (Number (pos n))

abbrev pub letters : List ℕ → Expr
letters text = constant type.text (Characters text)

abbrev pub «nil» : Expr
«nil» = constant node NoObject

abbrev pub truth : ℕ → Expr
truth n = constant type.bool (Number (pos n))

-- an operation on operands, with a value and without
abbrev pub gives : Ty → Operation → Args → Expr
gives ty operation operands = Apply (at 0) (Some ty) (Doing operation) operands

abbrev pub acts : Operation → Args → Expr
acts operation operands = Apply (at 0) None (Doing operation) operands

abbrev pub local : Ty → ℕ → Path
local ty n = Variable (at 0) ty n false

-- one operand, and two
abbrev pub value : Expr → Args
value e = ByValue e NoArg

abbrev pub values : Expr → Expr → Args
values e f = ByValue e (ByValue f NoArg)

abbrev pub place : Path → Args
place path = ByPath path NoArg

abbrev pub place_value : Path → Expr → Args
place_value path e = ByPath path (ByValue e NoArg)

-- ---- places that are in scope

abbrev pub declared : ℕ → Ty → Declared
declared n ty = record { number = n; name = []; at = spot; of = ty }

abbrev pub x : Path
x = local type.int 0

abbrev pub s : Path
s = local type.text 1

abbrev pub q : Path
q = local (type.sequence type.int) 2

abbrev pub n : Path
n = local node 3

abbrev pub c : Path
c = local color 4

abbrev pub t : Path
t = local pair 5

abbrev pub e : Path
e = local fault 6

abbrev pub p : Path
p = local point 7

abbrev pub m : Path
m = local metres 8

abbrev pub f : Path
f = local file 9

-- ---- a procedure: proc (a: int; b: var int): int

abbrev pub plain_param : ℕ → Ty → Param
plain_param n ty = record { place = declared n ty; mode = Plain }

abbrev pub var_param : ℕ → Ty → Param
var_param n ty = record { place = declared n ty; mode = Var }

abbrev pub body : (before first places : ℕ) → Option Declared → Stmts → Body
body before first places result stmts = record { first = first; places = places; before = before; result = result; stmts = stmts }

abbrev pub procedure : List Param → Option Ty → Body → Proc
procedure params ty body = record { name = []; at = spot; type_params = 0; params = params; gives = ty; body = Some body; hook = None }

abbrev pub nothing : Expr
nothing = acts O.Echo NoArg

-- one statement as a block
abbrev pub block : Stmt → Stmts
block stmt = Then stmt Empty

abbrev pub adds : Proc
adds =
    procedure (plain_param 10 type.int ∷ var_param 11 type.int ∷ []) (Some type.int)
    (body 0 10 3 (Some (declared 12 type.int)) (block (Do nothing)))

abbrev pub here : Here
here = record {
  facts = facts;
  procs = adds ∷ [];
  globals = [];
  filled = 0;
  places = placed (declared 0 type.int) ∷ placed (declared 1 type.text) ∷ placed (declared 2 (type.sequence type.int)) ∷ placed (declared 3 node) ∷
      placed (declared 4 color) ∷ placed (declared 5 pair) ∷ placed (declared 6 fault) ∷ placed (declared 7 point) ∷ placed (declared 8 metres) ∷
      placed (declared 9 file) ∷ [];
  dest = Some 9;
}
