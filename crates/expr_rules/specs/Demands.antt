-- What the place of an expression asks for: a value of some type, or an operand of a call or an operator.
use Rattle.std.specs.Prelude.{ℕ, Bool, true, false, not, ◌&&◌, ◌||◌, if◌then◌else◌, List, [], ◌∷◌, codes, Option, Some, None}
use Rattle.arc_base.specs.declared.place.Place.{Place}
use Rattle.indent_scanner.specs.Words.{normal}
use Rattle.nim_tree.specs.declared.expr.BinaryOp.{BinaryOp}
use Rattle.nim_tree.specs.Terms as term
use Rattle.nim_tree.specs.Terms.{Term, Parts, no_parts, part}
use Rattle.nim_types.specs.Types.{Ty, same, same_text}
use Rattle.expr_rules.specs.Env as env_of
use Rattle.expr_rules.specs.Env.{Env, Known, known, known_as}
use Rattle.expr_rules.specs.Answers.{Want, nothing, whole, inner}
use Rattle.expr_rules.specs.Builtins.{is_text, is_ordinal, is_echo, is_default}
use Rattle.expr_rules.specs.Operators.{is_comparison}

-- ---- values

pub data Asks : Type 0 where
  anything : Asks
  -- that of a place of the type, which gets the value itself
  exactly : Ty → Asks
  selector : Asks
  -- parts, each with what is wanted
  parts : List Want → Asks
  -- fields of these types
  fields : List Ty → Asks
  -- elements of one type, that of the first
  elements : Want → Option Ty → Asks

abbrev pub first_want : List Want → Want
first_want [] = nothing
first_want (w ∷ rest) = w

abbrev pub first_type : List Ty → Want
first_type [] = nothing
first_type (t ∷ rest) = inner t

abbrev pub rest_of : {A : Type 0} → List A → List A
rest_of [] = []
rest_of (x ∷ rest) = rest

-- the type that is wanted of the next value
abbrev pub want_in : Asks → Want
want_in (exactly ty) = whole ty
want_in (parts wants) = first_want wants
want_in (fields all) = first_type all
want_in (elements want None) = want
want_in (elements nothing (Some ty)) = inner ty
want_in (elements want (Some ty)) = want
want_in _ = nothing

-- of what follows a value of the type
abbrev pub asks_behind : Asks → Ty → Asks
asks_behind (parts wants) t = parts (rest_of wants)
asks_behind (fields all) t = fields (rest_of all)
asks_behind (elements want None) t = elements want (Some t)
asks_behind other t = other

abbrev pub is_one_of : Option Ty → Ty → Bool
is_one_of None t = true
is_one_of (Some ty) t = same ty t

-- there are as many fields as values
abbrev pub is_first : List Ty → Ty → Bool
is_first [] t = false
is_first (ty ∷ rest) t = same ty t

-- ints, bools, chars, enums and texts select
abbrev pub is_selector : Ty → Bool
is_selector t = is_ordinal t || is_text t

-- whether a value of the type is what is asked for
abbrev pub accepts : Asks → Ty → Bool
accepts (exactly ty) t = same ty t
accepts selector t = is_selector t
accepts (fields all) t = is_first all t
accepts (elements want ty) t = is_one_of ty t
accepts _ t = true

-- ---- operands

pub data Demand : Type 0 where
  -- values alone
  closed : Demand
  -- values, or `@[]` whose type the other operand gives
  comparands : Demand
  -- values and `@[]`
  arguments : Demand
  -- the same, which `echo` shows
  echoed : Demand
  -- what stands before a dot and a name that may be that of a field
  receiver : (name : List ℕ) → Demand
  one_type : Demand
  -- standard input, and then values and `@[]`
  input_first : Demand

abbrev pub demand_behind : Demand → Demand
demand_behind input_first = arguments
demand_behind d = d

-- of an operator
abbrev pub operator_demand : BinaryOp → Demand
operator_demand op = if is_comparison op then comparands else closed

-- a parenthesis is nothing
abbrev pub bare : Term → Term
bare (term.paren at a) = bare a
bare a = a

abbrev pub is_a_type : Known → Bool
is_a_type (env_of.a_type ty) = true
is_a_type _ = false

abbrev pub is_input : Known → Bool
is_input env_of.the_input = true
is_input _ = false

abbrev pub is_name_of : (Known → Bool) → Env → Term → Bool
is_name_of test env (term.name at x) = test (known env x)
is_name_of test env _ = false

-- one operand, the name of a type
abbrev pub is_one_type : Env → Parts → Bool
is_one_type env (part a no_parts) = is_name_of is_a_type env (bare a)
is_one_type env _ = false

-- the first operand is the name of standard input
abbrev pub begins_with_input : Env → Parts → Bool
begins_with_input env (part a rest) = is_name_of is_input env (bare a)
begins_with_input env no_parts = false

abbrev pub takes_type : Env → List ℕ → Parts → Bool
takes_type env x given = (same_text x (codes "low") || same_text x (codes "high")) && not (is_a_type (known_as env x)) && is_one_type env given

abbrev pub takes_input : Env → List ℕ → Parts → Bool
takes_input env x given = same_text x (codes "readline") && not (is_a_type (known_as env x)) && begins_with_input env given

-- Of all operands of a call by the name, which is in normal form. A type of one's own of the name hides the operation.
abbrev pub call_demand : Env → List ℕ → Parts → Demand
call_demand env x given =
    if is_echo x then echoed
    else (if is_default x || takes_type env x given then one_type else (if takes_input env x given then input_first else arguments))

-- what makes types of others
pub data Former : Type 0 where
  of_sequences : Former
  of_arrays : Former
  of_nothing : Former

abbrev pub former_by : Known → List ℕ → Former
former_by env_of.unknown x = if same_text x (codes "seq") then of_sequences else (if same_text x (codes "array") then of_arrays else of_nothing)
former_by _ x = of_nothing

abbrev pub former_of : Env → List ℕ → Former
former_of env x = former_by (known_as env x) x

abbrev pub is_former : Former → Bool
is_former of_sequences = true
is_former of_arrays = true
is_former of_nothing = false

-- the name of a type, or what makes types of others with something in brackets
abbrev pub begins_type : Env → Term → Bool
begins_type env (term.name at x) = is_a_type (known env x)
begins_type env (term.index at (term.name p x) given) = is_a_type (known env x) || is_former (former_of env (normal x))
begins_type env _ = false

abbrev pub as_receiver : List ℕ → Demand → Demand
as_receiver x one_type = one_type
as_receiver x input_first = input_first
as_receiver x _ = receiver x

-- of what stands before a dot and the name
abbrev pub receiver_demand : Env → List ℕ → Term → Demand
receiver_demand env x a =
    if is_default x then (if begins_type env (bare a) then one_type else receiver x) else as_receiver x (call_demand env x (part a no_parts))

-- ---- what a term is under a demand

pub data Special : Type 0 where
  ordinary : Special
  is_open : Place → Special
  is_type : Special
  is_stdin : Special

-- `@[]`, also in parentheses
abbrev pub open_at : Term → Option Place
open_at (term.paren at a) = open_at a
open_at (term.sequence at no_parts) = Some at
open_at _ = None

abbrev pub open_or_ordinary : Option Place → Special
open_or_ordinary (Some at) = is_open at
open_or_ordinary None = ordinary

abbrev pub special : Demand → Term → Special
special closed t = ordinary
special one_type t = is_type
special input_first t = is_stdin
special d t = open_or_ordinary (open_at t)
