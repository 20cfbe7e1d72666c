-- What the meaning and the acts both ask of parts of the tree: which paths are nodes, where a `case` ends, and how parameters take arguments.
use Rattle.std.specs.Prelude.{ℕ, zero, suc, Bool, true, false, ◌||◌, nat_eq, if◌then◌else◌, List, [], ◌∷◌, Option, Some, None}
use Rattle.nim_types.specs.Types.{Ty, text}
use Rattle.nim_program.specs.declared.program.Mode.{Mode}
use Rattle.nim_program.specs.declared.program.Mode.TheVariants.{Plain, Sink}
use Rattle.nim_program.specs.declared.operation.Use.{Use}
use Rattle.nim_program.specs.declared.operation.Use.TheVariants.{Owned, Given, Held, Lent}
use Rattle.nim_program.specs.Program.{Expr, Apply, Read, Act, Giving, Characters}
use Rattle.nim_program.specs.Program.{Path, Variable, Fresh, Field, Element, Deref, Args, NoArg, ByValue, ByPath, Param, Proc, type_of, type_at}
use Rattle.nim_program.specs.Program.{Stmts, Empty, Then, Declare, Defer, Blocks, Otherwise, Block}

-- Whether a path is a node of its own, where it is read. A fresh value alone is the node of its operation, and a dereference is none.
abbrev pub has_node : Path → Bool
has_node (Variable node ty place global) = true
has_node (Fresh value) = false
has_node (Field node ty base field) = true
has_node (Element node ty base index constant) = true
has_node (Deref ty base) = false

-- a path that is read, which is no fresh value alone
abbrev pub is_read : Expr → Bool
is_read (Read path) = has_node path
is_read value = false

-- ---- what waits

abbrev pub is_held : Use → Bool
is_held Held = true
is_held how = false

abbrev pub is_lent : Use → Bool
is_lent Lent = true
is_lent how = false

abbrev pub is_given : Use → Bool
is_given Given = true
is_given how = false

-- whether the value of a node waits, for its operation or for the end of its group
abbrev pub waits : Use → Bool
waits Owned = false
waits Given = false
waits how = true

-- A literal text is owned by nobody where it is only read.
abbrev pub waits_from : Act → Use → Bool
waits_from (Giving (Characters t)) how = is_held how
waits_from act how = waits how

-- a literal text
abbrev pub is_text : Expr → Bool
is_text (Apply node ty (Giving (Characters t)) operands) = true
is_text value = false

-- ---- a `case`

-- the type of what it chooses by
abbrev pub selector_type : Args → Option Ty
selector_type NoArg = None
selector_type (ByValue selector rest) = type_of selector
selector_type (ByPath path rest) = type_at path

-- Without an `else` the labels cover a type of ordinals, and so the last branch is for all else. Of texts, there may be others.
abbrev pub is_covered : Option Ty → Bool
is_covered (Some text) = false
is_covered _ = true

-- nothing follows among the branches
abbrev pub is_last_value : Args → Bool
is_last_value NoArg = true
is_last_value (ByValue value rest) = false
is_last_value (ByPath path rest) = false

abbrev pub is_empty : Stmts → Bool
is_empty Empty = true
is_empty (Then first rest) = false
is_empty (Declare node place cursor value rest) = false
is_empty (Defer node last rest) = false

abbrev pub is_last_block : Blocks → Bool
is_last_block (Otherwise block) = is_empty block
is_last_block (Block first rest) = false

-- ---- parameters

abbrev pub is_sink : (sinks : List ℕ) → (place : ℕ) → Bool
is_sink [] place = false
is_sink (sink ∷ sinks) place = nat_eq sink place || is_sink sinks place

-- its mode, where so many parameters became `sink` by inference
abbrev pub mode_of : (sinks : List ℕ) → Param → Mode
mode_of sinks param = if is_sink sinks param.place.number then Sink else param.mode

abbrev pub mode_in : (sinks : List ℕ) → List Param → ℕ → Mode
mode_in sinks [] i = Plain
mode_in sinks (param ∷ rest) zero = mode_of sinks param
mode_in sinks (param ∷ rest) (suc i) = mode_in sinks rest i

abbrev pub modes_in : (sinks : List ℕ) → List Proc → (proc position : ℕ) → Mode
modes_in sinks [] proc i = Plain
modes_in sinks (p ∷ rest) zero i = mode_in sinks p.params i
modes_in sinks (p ∷ rest) (suc proc) i = modes_in sinks rest proc i
