-- How many bytes a procedure's places and nodes take, one beside the other: its sum, by which a procedure is too large, and which a call of
-- it has as its work.
use Rattle.std.specs.Prelude.{◌≡◌, ℕ, ◌+◌, ◌-◌, ◌^◌, ◌<◌, min, length, Bool, false, ◌||◌, if◌then◌else◌, nat_eq, List, [], ◌∷◌, Option, Some, None}
use Rattle.nim_types.specs.Types.{Ty, Facts}
use Rattle.nim_types.specs.declared.types.TypeDef.{TypeDef}
use Rattle.nim_types.specs.Forms.{Form, HasForm, size, form_of}
use Rattle.nim_types.specs.Table.{type_at, types_in, facts_in, HasSize}
use Rattle.nim_program.specs.declared.expr.Node.{Node}
use Rattle.nim_program.specs.Program.{Declared, Kind, While, Count, Each, Param, Body}
use Rattle.nim_program.specs.Folds.{Seen, Part, Leading, Looping, numbers, total_of, Declaring}

abbrev pub type_bytes : Facts → Ty → ℕ
type_bytes facts ty = size (form_of facts ty)

-- no type of a table contains itself by value
abbrev pub HaveForms : List TypeDef → Type 0
HaveForms table = (ty : ℕ) → ty < length table → (f : Form) × HasForm (facts_in table) (type_at (types_in table) ty) f

-- what a table says of the size of a type is that of its form, as far as 32 bits go
abbrev pub HaveSizes : List TypeDef → Type 0
HaveSizes table =
    (ty bytes : ℕ) → ty < length table → HasSize table ty bytes → bytes ≡ min (type_bytes (facts_in table) (type_at (types_in table) ty)) (2 ^ 32 - 1)

-- of a node that may give no value
abbrev pub value_bytes : Facts → Option Ty → ℕ
value_bytes facts None = 0
value_bytes facts (Some ty) = type_bytes facts ty

abbrev pub place_bytes : Facts → Declared → ℕ
place_bytes facts place = type_bytes facts place.of

abbrev pub globals_size : Facts → List Declared → ℕ
globals_size facts [] = 0
globals_size facts (place ∷ globals) = place_bytes facts place + globals_size facts globals

abbrev pub if_place_bytes : Facts → Option Declared → ℕ
if_place_bytes facts None = 0
if_place_bytes facts (Some place) = place_bytes facts place

-- what a path takes that is written or read in place, for each of its nodes
abbrev pub in_place : ℕ
in_place = 8

-- what each `for` takes beside its variable
abbrev pub for_bytes : ℕ
for_bytes = 8

abbrev pub loop_bytes : Kind → ℕ
loop_bytes While = 0
loop_bytes (Count variable inclusive) = for_bytes
loop_bytes (Each variable) = for_bytes

abbrev pub is_global : List Declared → ℕ → Bool
is_global [] number = false
is_global (place ∷ places) number = nat_eq place.number number || is_global places number

-- of a node: what gives a value takes the bytes of its type, what stands in place as many as each
abbrev pub node_bytes : Facts → Part → Option Ty → ℕ
node_bytes facts (Leading false written step) ty = in_place
node_bytes facts (Looping kind headed) ty = loop_bytes kind
node_bytes facts part ty = value_bytes facts ty

abbrev pub bytes_if : Option Node → ℕ → ℕ
bytes_if None bytes = 0
bytes_if (Some node) bytes = bytes

-- with those of places, other than these globals
abbrev pub with_locals : Facts → (globals : List Declared) → List Declared → (bytes : ℕ) → ℕ
with_locals facts globals [] bytes = bytes
with_locals facts globals (place ∷ places) bytes =
    (if is_global globals place.number then 0 else place_bytes facts place) + with_locals facts globals places bytes

-- a place that a declaration fills may be one of them, a loop's and a handler's is none
abbrev pub own_globals : (globals : List Declared) → Part → List Declared
own_globals globals (Declaring cursor) = globals
own_globals globals part = []

abbrev pub own_bytes : Facts → (globals : List Declared) → Seen → ℕ
own_bytes facts globals seen =
    with_locals facts (own_globals globals seen.part) seen.places (bytes_if seen.node (node_bytes facts seen.part seen.ty))

abbrev pub params_sum : Facts → List Param → ℕ
params_sum facts [] = 0
params_sum facts (param ∷ params) = place_bytes facts param.place + params_sum facts params

-- of a procedure with such parameters, or of the start code, which has none
abbrev pub body_sum : Facts → (globals : List Declared) → List Param → Body → ℕ
body_sum facts globals params body =
    params_sum facts params + if_place_bytes facts body.result + total_of numbers (own_bytes facts globals) body.stmts
