-- What names stand for: in a value, before operands, and as types.
use Rattle.std.specs.Prelude.{ℕ, suc, ℤ, pos, Bool, true, false, not, ◌&&◌, ◌||◌, if◌then◌else◌, nat_le, List, [], ◌∷◌, codes, Option, Some, None, Ok}
use Rattle.arc_base.specs.declared.place.Place.{Place}
use Rattle.arc_base.specs.declared.place.Code.TheVariants.{UnknownName}
use Rattle.arc_base.specs.Refusal.{and_then, refused}
use Rattle.indent_scanner.specs.Words.{normal}
use Rattle.nim_tree.specs.Terms.{Parts, no_parts, part}
use Rattle.nim_types.specs.Types as type
use Rattle.nim_types.specs.Types.{Ty, Facts, same_text}
use Rattle.nim_program.specs.Program.{Expr, Literal, Number, Read, Variable}
use Rattle.nim_program.specs.Nodes.{literal, new_sequence, echo}
use Rattle.expr_rules.specs.declared.limits.TheConstants.{MOST_ELEMENTS}
use Rattle.expr_rules.specs.Env.{Env, Known, unknown, a_variable, a_constant, procedures, callable, known, known_as}
use Rattle.expr_rules.specs.Env as env_of
use Rattle.expr_rules.specs.Answers.{Answer, not_typed, node, place_in, Typed, gives, Valued, Operand, value, settled, only_if}
use Rattle.expr_rules.specs.Answers.{no_fit}
use Rattle.expr_rules.specs.Answers.{exprs_of}
use Rattle.expr_rules.specs.Builtins.{is_built_in, unless_built_in, is_echo, is_default, is_new_sequence, is_shown, is_int, operation_rule}
use Rattle.expr_rules.specs.Calls.{Fit, fitting, one_of}
use Rattle.expr_rules.specs.Constants.{constant_rule}
use Rattle.expr_rules.specs.Constructions.{conversion_rule, field_named, read_field, Found}
use Rattle.expr_rules.specs.Demands.{Demand, echoed, receiver, Former, of_sequences, of_arrays, former_of, is_former}
use Rattle.expr_rules.specs.Sizes.{is_sized}

abbrev pub is_unknown : Known → Bool
is_unknown unknown = true
is_unknown _ = false

-- whether a name, in normal form, has a meaning at all
abbrev pub is_nothing : Env → List ℕ → Bool
is_nothing env x = if is_built_in x then false else is_unknown (known_as env x)

-- ---- as a value

-- a variable or a constant; anything else is no value
abbrev pub name_rule : ℕ → Place → Bool → Known → Answer Typed
name_rule n at built unknown = unless_built_in at built
name_rule n at built (a_variable place of writable global) = gives (Read (Variable (node n at) of place global)) (suc n)
name_rule n at built (a_constant ty l) = gives (literal (node n at) ty l) (suc n)
name_rule n at built _ = not_typed at

-- a variable or a constant
abbrev pub is_value_name : Known → Bool
is_value_name (a_variable place of writable global) = true
is_value_name (a_constant ty l) = true
is_value_name _ = false

abbrev pub named_value : Env → ℕ → Place → List ℕ → Answer Typed
named_value env n at x = name_rule n at (is_built_in (normal x)) (known env x)

-- ---- before operands

-- the name of a call is looked up, at its place
abbrev pub callee_rule : Env → Place → List ℕ → Answer (Unit {0})
callee_rule env at x = if is_nothing env x then refused UnknownName at else Ok tt

-- one part alone
abbrev pub is_single : Parts → Bool
is_single (part a no_parts) = true
is_single _ = false

-- `default` has one operand, and nothing is looked at where it has another number
abbrev pub count_rule : Place → List ℕ → Parts → Answer (Unit {0})
count_rule at x given = if is_default x && not (is_single given) then not_typed at else Ok tt

-- the only name in backticks that is called is `$`, with one operand
abbrev pub quoted_rule : Place → List ℕ → Parts → Answer (Unit {0})
quoted_rule at x given = if same_text x (codes "$") && is_single given then Ok tt else not_typed at

-- ---- calls

abbrev pub unless_type : Env → ℕ → Place → Known → List ℕ → List Operand → Answer Expr
unless_type env n at (env_of.a_type ty) x operands = conversion_rule env n at ty operands
unless_type env n at _ x operands = operation_rule (node n at) x operands

-- a procedure that fits, else a type, else an operation that is built in
abbrev pub call_named : Env → ℕ → Place → List ℕ → List Operand → Answer Expr
call_named env n at x operands =
    if is_default x
    then operation_rule (node n at) x operands
    else one_of n at x (fitting (callable (known_as env x)) operands) (unless_type env n at (known_as env x) x operands)

-- `newSeq` with a type in brackets, and an int
abbrev pub made_by : ℕ → Place → Ty → List Operand → Option Valued → Answer Expr
made_by n at t operands (Some v) = Ok (new_sequence (node n at) (type.sequence t) v.expr)
made_by n at t operands None = no_fit at operands

abbrev pub new_sequence_rule : ℕ → Place → Ty → List Operand → Answer Expr
new_sequence_rule n at t (o ∷ []) = made_by n at t (o ∷ []) (settled type.int o)
new_sequence_rule n at t operands = no_fit at operands

-- with one type in brackets
abbrev pub makes_sequence : List ℕ → Parts → Bool
makes_sequence x given = is_new_sequence x && is_single given

-- what else has something in brackets and operands behind it is a type
abbrev pub bracket_rule : Env → Place → List ℕ → Answer (Unit {0})
bracket_rule env at x = if is_former (former_of env x) then Ok tt else not_typed at

-- ---- `echo`

abbrev pub own_dollars : Env → Valued → List Fit
own_dollars env v = fitting (callable (known_as env (codes "$"))) (value v ∷ [])

abbrev pub is_called : List Fit → Bool
is_called [] = false
is_called (fit ∷ rest) = not fit.callee.borrowed

abbrev pub is_field : Option Found → Bool
is_field (Some f) = true
is_field None = false

-- whether `echo` takes the operand: before a dot it does where there is no field of its name
abbrev pub is_echoed : Env → Demand → Ty → Bool
is_echoed env echoed ty = true
is_echoed env (receiver x) ty = is_echo x && not (is_field (field_named env x ty))
is_echoed env _ ty = false

-- whether `echo` calls a `$` of one's own for it
abbrev pub is_shown_by_call : Env → Demand → Valued → Bool
is_shown_by_call env d v = is_echoed env d v.of && is_called (own_dollars env v)

-- that call, at the operand
abbrev pub dollar_call : Env → ℕ → Valued → Answer Expr
dollar_call env n v = one_of n (place_in v.expr) (codes "$") (own_dollars env v) (not_typed (place_in v.expr))

abbrev pub some_fits : List Fit → Bool
some_fits [] = false
some_fits (_ ∷ _) = true

-- The rest is shown as it is: of a type with a built-in `$`, or a borrowed one.
abbrev pub can_show : Env → Valued → Bool
can_show env v = is_shown v.of || some_fits (own_dollars env v)

abbrev pub shown_before : Bool → Valued → Option (List Valued) → Option (List Valued)
shown_before true v (Some rest) = Some (v ∷ rest)
shown_before _ v _ = None

-- the operands, where each can be shown
abbrev pub all_shown : Env → List Operand → Option (List Valued)
all_shown env [] = Some []
all_shown env (value v ∷ rest) = shown_before (can_show env v) v (all_shown env rest)
all_shown env (_ ∷ rest) = None

abbrev pub echo_by : ℕ → Place → List Operand → Option (List Valued) → Answer Expr
echo_by n at operands (Some vs) = Ok (echo (node n at) (exprs_of vs))
echo_by n at operands None = no_fit at operands

abbrev pub echo_rule : Env → ℕ → Place → List Operand → Answer Expr
echo_rule env n at operands = echo_by n at operands (all_shown env operands)

-- a call by a name, whose operands have been typed
abbrev pub call_rule : Env → ℕ → Place → List ℕ → List Operand → Answer Expr
call_rule env n at x operands = if is_echo x then echo_rule env n at operands else call_named env n at x operands

-- ---- behind a dot: the name is no node of its own

-- what is no type before `.default` is a value without such a field
abbrev pub default_of_value : List ℕ → Operand → Option Place
default_of_value x (value v) = only_if (is_default x) (place_in v.expr)
default_of_value x o = None

abbrev pub method_by : Env → ℕ → Place → List ℕ → Operand → Option Place → Answer Expr
method_by env n at x o (Some p) = not_typed p
method_by env n at x o None = call_rule env n at x (o ∷ [])

abbrev pub method_rule : Env → ℕ → Place → List ℕ → Operand → Answer Expr
method_rule env n at x o = method_by env n at x o (default_of_value x o)

abbrev pub field_or_call : Env → ℕ → Place → List ℕ → Operand → Option Expr → Answer Expr
field_or_call env n at x o (Some e) = Ok e
field_or_call env n at x o None = and_then (callee_rule env at x) (λ _. method_rule env n at x o)

abbrev pub if_field : ℕ → Place → Valued → Option Found → Option Expr
if_field n at v (Some f) = Some (read_field n at v f)
if_field n at v None = None

-- the field of the name, where the operand is a value that has one
abbrev pub field_of : Env → ℕ → Place → List ℕ → Operand → Option Expr
field_of env n at x (value v) = if_field n at v (field_named env x v.of)
field_of env n at x o = None

-- a field, else a call with one operand
abbrev pub field_rule : Env → ℕ → Place → List ℕ → Operand → Answer Expr
field_rule env n at x o = field_or_call env n at x o (field_of env n at x o)

-- ---- as types

abbrev pub type_rule : Place → Bool → Known → Answer Ty
type_rule at built (env_of.a_type ty) = Ok ty
type_rule at built unknown = unless_built_in at built
type_rule at built _ = not_typed at

abbrev pub named_type : Env → Place → List ℕ → Answer Ty
named_type env at x = type_rule at (is_built_in (normal x)) (known env x)

-- a name with types in brackets
abbrev pub formed_by : Place → Former → List Ty → Answer Ty
formed_by at of_sequences (t ∷ []) = Ok (type.sequence t)
formed_by at _ ts = not_typed at

abbrev pub formed_type : Env → Place → List ℕ → List Ty → Answer Ty
formed_type env at x ts = formed_by at (former_of env (normal x)) ts

-- this name has a length and an element in brackets
abbrev pub is_array : List ℕ → Bool
is_array x = same_text (normal x) (codes "array")

abbrev pub length_by : Place → Literal → Answer ℤ
length_by at (Number z) = Ok z
length_by at _ = not_typed at

-- the length of an array is a constant int
abbrev pub length_rule : Facts → Valued → Answer ℤ
length_rule facts v = if is_int v.of then and_then (constant_rule facts v) (length_by (place_in v.expr)) else not_typed (place_in v.expr)

-- from 1 to the most elements
abbrev pub length_limit : Place → ℤ → Answer ℕ
length_limit at (pos (suc k)) = if nat_le (suc k) MOST_ELEMENTS then Ok (suc k) else not_typed at
length_limit at _ = not_typed at

abbrev pub array_by : Place → Former → ℤ → Ty → Answer Ty
array_by at of_arrays k ty = and_then (length_limit at k) (λ n. Ok (type.array n ty))
array_by at _ k ty = not_typed at

-- not too large
abbrev pub sized_type : Facts → Place → Ty → Answer Ty
sized_type facts at ty = if is_sized facts ty then Ok ty else not_typed at

abbrev pub array_type : Env → Place → ℤ → Ty → Answer Ty
array_type env at k ty = and_then (array_by at (former_of env (codes "array")) k ty) (sized_type env.facts at)
