-- The operations that are called by name and that no source declares, as a table.
use Rattle.std.specs.Prelude.{ℕ, Bool, true, false, ◌||◌, List, [], ◌∷◌, codes, Option, Some, None, Ok}
use Rattle.arc_base.specs.declared.place.Place.{Place}
use Rattle.arc_base.specs.declared.place.Code.TheVariants.{NotAssignable, UnknownName}
use Rattle.arc_base.specs.Refusal.{and_then, refused}
use Rattle.nim_types.specs.Types as type
use Rattle.nim_types.specs.Types.{Ty, same, same_text}
use Rattle.nim_program.specs.declared.expr.Node.{Node}
use Rattle.nim_program.specs.declared.operation.Operation.{Operation}
use Rattle.nim_program.specs.declared.operation.Operation.TheVariants as operation
use Rattle.nim_program.specs.declared.operation.Operator.{Operator}
use Rattle.nim_program.specs.declared.operation.Operator.TheVariants as operator
use Rattle.nim_program.specs.declared.operation.Measure.TheVariants as measure
use Rattle.nim_program.specs.Program.{Number, Act, Doing, Giving, Expr, Apply, Path, Args, NoArg, ByPath}
use Rattle.nim_program.specs.Nodes.{one_value, one_path, path_and_value, doing, acting}
use Rattle.nim_program.specs.Ints.{low, high}
use Rattle.expr_rules.specs.Answers.{Answer, not_typed, place_in, Valued, Operand, value, a_type, the_input, settled, only_if, no_fit}
use Rattle.expr_rules.specs.Paths.{path_of}

-- ---- kinds of types

abbrev pub is_int : Ty → Bool
is_int t = same type.int t

abbrev pub is_bool : Ty → Bool
is_bool t = same type.bool t

abbrev pub is_text : Ty → Bool
is_text t = same type.text t

-- ints, bools, chars and enums
abbrev pub is_ordinal : Ty → Bool
is_ordinal type.int = true
is_ordinal type.bool = true
is_ordinal type.char = true
is_ordinal (type.enum key) = true
is_ordinal _ = false

-- what `$` shows, `echo` writes and comparisons take
abbrev pub is_shown : Ty → Bool
is_shown t = is_ordinal t || is_text t

-- what has a length
abbrev pub has_length : Ty → Bool
has_length type.text = true
has_length (type.sequence t) = true
has_length (type.array n t) = true
has_length _ = false

-- what a text is made longer by
abbrev pub joined_to : Ty → List Ty
joined_to type.text = type.text ∷ type.char ∷ []
joined_to _ = []

abbrev pub elements_of : Ty → List Ty
elements_of (type.sequence t) = t ∷ []
elements_of _ = []

-- ints go with ints
abbrev pub stepped_by : Ty → List Ty
stepped_by type.int = type.int ∷ []
stepped_by _ = []

-- what has a length that can be set goes with ints
abbrev pub resized_by : Ty → List Ty
resized_by type.text = type.int ∷ []
resized_by (type.sequence t) = type.int ∷ []
resized_by _ = []

-- ---- what is given for an operand of a type: None where the operation doesn't fit, Some None where it gives no value

abbrev pub if_kind : (Ty → Bool) → Option Ty → Ty → Option (Option Ty)
if_kind test given t = only_if (test t) given

-- the type itself
abbrev pub likewise : Ty → Option (Option Ty)
likewise t = Some (Some t)

-- the type of the element that is taken away
abbrev pub popped : Ty → Option (Option Ty)
popped (type.sequence t) = Some (Some t)
popped _ = None

-- ---- operations, with what they take, what they give and what they do

-- how an operand is handed on: its value; its path, which is read in place; or its path, which is written
pub data Hand : Type 0 where
  as_value in_place to_write : Hand

pub data BuiltIn : Type 0 where
  on_nothing : Operation → BuiltIn
  on_one : Hand → (gives : Ty → Option (Option Ty)) → Operation → BuiltIn
  -- a path that is written, with a value of one of the types that go with it, or with another path of the type; neither gives a value
  on_place_and_value : (goes : Ty → List Ty) → Operation → BuiltIn
  on_places : Operation → BuiltIn
  on_type : (gives : Ty → Option (Option Ty)) → Act → BuiltIn
  on_input : (gives : Ty) → Operation → BuiltIn
  on_input_and_place : (Ty → Bool) → (gives : Ty) → Operation → BuiltIn

abbrev pub stepping : Operator → List BuiltIn
stepping o = on_one to_write (if_kind is_int None) (operation.Update o) ∷ on_place_and_value stepped_by (operation.Update o) ∷ []

abbrev pub operations : List (List ℕ × List BuiltIn)
operations =
    (codes "len", on_one in_place (if_kind has_length (Some type.int)) (operation.Measure measure.Len) ∷ [])
    ∷ (
      codes "high",
      on_one in_place (if_kind has_length (Some type.int)) (operation.Measure measure.High)
          ∷ on_type (if_kind is_int (Some type.int)) (Giving (Number high)) ∷ [],
    )
    ∷ (codes "low", on_type (if_kind is_int (Some type.int)) (Giving (Number low)) ∷ [])
    ∷ (codes "ord", on_one as_value (if_kind is_ordinal (Some type.int)) operation.Convert ∷ [])
    ∷ (codes "chr", on_one as_value (if_kind is_int (Some type.char)) operation.Convert ∷ [])
    ∷ (codes "$", on_one as_value (if_kind is_shown (Some type.text)) operation.Show ∷ [])
    ∷ (codes "inc", stepping operator.Add)
    ∷ (codes "dec", stepping operator.Subtract)
    ∷ (codes "add", on_place_and_value joined_to operation.Append ∷ on_place_and_value elements_of operation.Add ∷ [])
    ∷ (codes "setlen", on_place_and_value resized_by operation.SetLength ∷ [])
    ∷ (codes "pop", on_one to_write popped operation.Pop ∷ [])
    ∷ (codes "default", on_type likewise (Doing operation.Default) ∷ [])
    ∷ (codes "move", on_one to_write likewise operation.Move ∷ [])
    ∷ (codes "swap", on_places operation.Swap ∷ [])
    ∷ (codes "quit", on_nothing operation.Quit ∷ on_one as_value (if_kind is_int None) operation.Quit ∷ [])
    ∷ (codes "readline", on_input type.text operation.ReadLine ∷ on_input_and_place is_text type.bool operation.ReadLineInto ∷ [])
    ∷ []

abbrev pub if_operation : Bool → List BuiltIn → List BuiltIn → List BuiltIn
if_operation true rows rest = rows
if_operation false rows rest = rest

abbrev pub operations_in : List ℕ → List (List ℕ × List BuiltIn) → List BuiltIn
operations_in x [] = []
operations_in x (row ∷ rest) = if_operation (same_text x row.0) row.1 (operations_in x rest)

abbrev pub operations_named : List ℕ → List BuiltIn
operations_named x = operations_in x operations

-- ---- names

-- these are built in whatever is declared
abbrev pub is_echo : List ℕ → Bool
is_echo x = same_text x (codes "echo")

abbrev pub is_default : List ℕ → Bool
is_default x = same_text x (codes "default")

-- it has a type in brackets
abbrev pub is_new_sequence : List ℕ → Bool
is_new_sequence x = same_text x (codes "newseq")

abbrev pub is_there : List BuiltIn → Bool
is_there [] = false
is_there (_ ∷ _) = true

-- names that some operation or form of type has without a declaration
abbrev pub is_built_in : List ℕ → Bool
is_built_in x = is_there (operations_named x) || is_echo x || is_new_sequence x || same_text x (codes "seq") || same_text x (codes "array")

-- what nothing visible declares: a name that is built in is something else than its place asks for
abbrev pub unless_built_in : {A : Type 0} → Place → Bool → Answer A
unless_built_in at true = not_typed at
unless_built_in at false = refused UnknownName at

-- ---- whether an operation fits its operands: what it writes, in order, and its node

pub record Done : Type 0 where
  pub writes : List Valued
  pub expr : Expr

abbrev pub done : List Valued → Expr → Done
done writes expr = record { writes = writes; expr = expr }

abbrev pub first_settled : Option Valued → Option Valued → Option Valued
first_settled (Some v) rest = Some v
first_settled None rest = rest

-- the operand as a value of one of the types
abbrev pub settled_in : List Ty → Operand → Option Valued
settled_in [] o = None
settled_in (t ∷ rest) o = first_settled (settled t o) (settled_in rest o)

abbrev pub with_value : Option Valued → (Valued → Done) → Option Done
with_value None go = None
with_value (Some v) go = Some (go v)

abbrev pub with_type : Option (Option Ty) → (Option Ty → Done) → Option Done
with_type None go = None
with_type (Some ty) go = Some (go ty)

-- what is written, and the operand of the node
abbrev pub written_by : Hand → Valued → List Valued
written_by to_write v = v ∷ []
written_by _ v = []

abbrev pub handed : Hand → Valued → Args
handed as_value v = one_value v.expr
handed _ v = one_path (path_of v.expr)

abbrev pub on_operands : Node → BuiltIn → List Operand → Option Done
on_operands at (on_nothing o) [] = Some (done [] (acting at o NoArg))
on_operands at (on_one hand gives o) (value v ∷ []) =
    with_type (gives v.of) (λ ty. done (written_by hand v) (Apply at ty (Doing o) (handed hand v)))
on_operands at (on_place_and_value goes o) (value v ∷ w ∷ []) =
    with_value (settled_in (goes v.of) w) (λ w. done (v ∷ []) (acting at o (path_and_value (path_of v.expr) w.expr)))
on_operands at (on_places o) (value v ∷ value w ∷ []) =
    only_if (same v.of w.of) (done (v ∷ w ∷ []) (acting at o (ByPath (path_of v.expr) (one_path (path_of w.expr)))))
on_operands at (on_type gives act) (a_type t ∷ []) = with_type (gives t) (λ ty. done [] (Apply at ty act NoArg))
on_operands at (on_input ty o) (the_input ∷ []) = Some (done [] (doing at ty o NoArg))
on_operands at (on_input_and_place test ty o) (the_input ∷ value v ∷ []) =
    only_if (test v.of) (done (v ∷ []) (doing at ty o (one_path (path_of v.expr))))
on_operands at _ _ = None

abbrev pub or_later : Option Done → Option Done → Option Done
or_later (Some d) later = Some d
or_later None later = later

-- the first that fits
abbrev pub first_row : Node → List BuiltIn → List Operand → Option Done
first_row at [] operands = None
first_row at (row ∷ rest) operands = or_later (on_operands at row operands) (first_row at rest operands)

-- what is written is a path that can be
abbrev pub write_by : (writable : Bool) → Place → Answer (Unit {0})
write_by true at = Ok tt
write_by false at = refused NotAssignable at

abbrev pub write_rule : Valued → Answer (Unit {0})
write_rule v = write_by v.writable (place_in v.expr)

-- the path that a statement writes
abbrev pub written : Valued → Answer Path
written v = and_then (write_rule v) (λ _. Ok (path_of v.expr))

abbrev pub writes_rule : List Valued → Answer (Unit {0})
writes_rule [] = Ok tt
writes_rule (v ∷ rest) = and_then (write_rule v) (λ _. writes_rule rest)

abbrev pub operation_by : Place → List Operand → Option Done → Answer Expr
operation_by at operands (Some d) = and_then (writes_rule d.writes) (λ _. Ok d.expr)
operation_by at operands None = no_fit at operands

-- the operation of the name
abbrev pub operation_rule : Node → List ℕ → List Operand → Answer Expr
operation_rule at x operands = operation_by at.at operands (first_row at (operations_named x) operands)
