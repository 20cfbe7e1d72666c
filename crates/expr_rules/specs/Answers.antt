-- What rules answer, and what operands are.
use Rattle.std.specs.Prelude.{ℕ, Bool, true, false, List, [], ◌∷◌, Option, Some, None, Result, Ok}
use Rattle.arc_base.specs.declared.place.Place.{Place}
use Rattle.arc_base.specs.declared.place.Code.TheVariants.{NotTyped}
use Rattle.arc_base.specs.Refusal.{Refusal, refused}
use Rattle.nim_types.specs.Types as type
use Rattle.nim_types.specs.Types.{Ty, Tys, same}
use Rattle.nim_program.specs.declared.expr.Node.{Node}
use Rattle.nim_program.specs.Program.{Expr, Args, NoArg, ByValue, type_of, node_of}
use Rattle.nim_program.specs.Nodes.{sequence}

-- An answer of the rules: what was asked for, or the first refusal in order of text, operands before their operation.
abbrev pub Answer : Type 0 → Type 0
Answer A = Result A Refusal

-- no rule fits there
abbrev pub not_typed : {A : Type 0} → Place → Answer A
not_typed at = refused NotTyped at

abbrev pub node : ℕ → Place → Node
node number at = record { number = number; at = at }

-- a typed expression, and the first number behind its nodes
pub record Typed : Type 0 where
  pub expr : Expr
  pub next : ℕ

abbrev pub typed_as : Expr → ℕ → Typed
typed_as expr next = record { expr = expr; next = next }

abbrev pub gives : Expr → ℕ → Answer Typed
gives expr next = Ok (typed_as expr next)

-- an expression that gives a value of a type, and whether it can be written
pub record Valued : Type 0 where
  pub expr : Expr
  pub of : Ty
  pub writable : Bool

-- one that can't
abbrev pub valued : Expr → Ty → Valued
valued expr of = record { expr = expr; of = of; writable = false }

abbrev pub place_in : Expr → Place
place_in expr = (node_of expr).at

abbrev pub valued_by : Expr → Option Ty → Answer Valued
valued_by expr None = not_typed (place_in expr)
valued_by expr (Some ty) = Ok (valued expr ty)

-- a value is needed
abbrev pub value_of : Expr → Answer Valued
value_of expr = valued_by expr (type_of expr)

-- ---- the type that the place of an expression gives

pub data Want : Type 0 where
  nothing : Want
  -- that of a place which gets the value itself
  whole : Ty → Want
  -- that of an element, a part, a field or a branch: a tuple without names doesn't take it
  inner : Ty → Want

abbrev pub wanted : Want → Option Ty
wanted nothing = None
wanted (whole ty) = Some ty
wanted (inner ty) = Some ty

abbrev pub inner_by : Option Ty → Want
inner_by None = nothing
inner_by (Some ty) = inner ty

-- of a branch
abbrev pub within : Want → Want
within want = inner_by (wanted want)

-- ---- operands

pub data Operand : Type 0 where
  value : Valued → Operand
  -- `@[]`, whose type the operation gives: its place and number
  open_sequence : Place → ℕ → Operand
  a_type : Ty → Operand
  -- standard input
  the_input : Operand

abbrev pub no_elements : Place → ℕ → Ty → Valued
no_elements at n of = valued (sequence (node n at) (type.sequence of) NoArg) (type.sequence of)

abbrev pub only_if : {A : Type 0} → Bool → A → Option A
only_if true x = Some x
only_if false x = None

-- `@[]` as a value of the type
abbrev pub open_as : Ty → Place → ℕ → Option Valued
open_as (type.sequence of) at n = Some (no_elements at n of)
open_as _ at n = None

-- the operand as a value of the type
abbrev pub settled : Ty → Operand → Option Valued
settled ty (value v) = only_if (same ty v.of) v
settled ty (open_sequence at n) = open_as ty at n
settled ty _ = None

-- values as operands of a node
abbrev pub exprs_of : List Valued → Args
exprs_of [] = NoArg
exprs_of (v ∷ rest) = ByValue v.expr (exprs_of rest)

abbrev pub types_of : List Valued → Tys
types_of [] = type.no_types
types_of (v ∷ rest) = type.types v.of (types_of rest)

-- Where no operation of a name fits its operands: an operand that has no type by itself is named, else the operation.
abbrev pub no_fit : {A : Type 0} → Place → List Operand → Answer A
no_fit at [] = not_typed at
no_fit at (open_sequence p n ∷ rest) = not_typed p
no_fit at (o ∷ rest) = no_fit at rest
