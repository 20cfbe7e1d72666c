-- Definitions of variables and constants.
use Rattle.std.specs.Prelude.{ℕ, suc, Bool, true, false, ◌&&◌, ◌||◌, List, [], ◌∷◌, ◌++◌, Option, Some, None, is_some, Ok}
use Rattle.arc_base.specs.declared.place.Place.{Place}
use Rattle.arc_base.specs.Refusal.{and_then}
use Rattle.indent_scanner.specs.Words.{normal}
use Rattle.nim_tree.specs.declared.name.Declared.{Declared}
use Rattle.nim_tree.specs.declared.name.Pragma.{Pragma}
use Rattle.nim_tree.specs.declared.name.PragmaKind.{PragmaKind}
use Rattle.nim_tree.specs.declared.name.PragmaKind.TheVariants as pragma
use Rattle.nim_tree.specs.declared.stmt.Binding.{Binding}
use Rattle.nim_tree.specs.declared.stmt.Binding.TheVariants as binding
use Rattle.nim_tree.specs.Terms.{Term}
use Rattle.nim_tree.specs.Statements.{Definition}
use Rattle.nim_types.specs.Types.{Ty}
use Rattle.nim_program.specs.Program as P
use Rattle.nim_program.specs.Program.{Literal, Args, NoArg}
use Rattle.nim_program.specs.Nodes.{one_value}
use Rattle.expr_rules.specs.Env.{Env, Entry, variable, constant}
use Rattle.expr_rules.specs.Answers.{Answer, not_typed, node, Valued}
use Rattle.expr_rules.specs.Constructions.{is_among}
use Rattle.expr_rules.specs.Constants.{constant_rule}
use Rattle.decl_rules.specs.State.{State, Around, own_entries, is_declared, if_new, if_typed, declaring, declares, Stated, stated_as, and_more}
use Rattle.decl_rules.specs.Values.{Value, valued_term, of_type, result_want}
use Rattle.decl_rules.specs.Written.{if_written}

-- ---- names

-- `borrow` and `error` mean nothing at a definition
abbrev pub is_fitting : PragmaKind → Bool
is_fitting pragma.Borrow = false
is_fitting pragma.Error = false
is_fitting _ = true

abbrev pub all_fit : List Pragma → Bool
all_fit [] = true
all_fit (p ∷ rest) = is_fitting p.kind && all_fit rest

-- a value, or of a `var` a type
abbrev pub is_whole : Binding → Definition → Bool
is_whole binding.Var d = is_some d.value || is_some d.annotation
is_whole _ d = is_some d.value

-- a name behind others of its definition
abbrev pub name_rule : State → List (List ℕ) → Bool → Declared → Answer (Unit {0})
name_rule st before fits d =
    and_then (if_new (is_declared (normal d.text) (own_entries st) || is_among (normal d.text) before) d.at) (λ _. if_typed fits d.at)

abbrev pub names_behind : State → List (List ℕ) → Bool → List Declared → Answer (Unit {0})
names_behind st before full [] = Ok tt
names_behind st before full (d ∷ rest) = and_then (name_rule st before full d) (λ _. names_behind st (normal d.text ∷ before) full rest)

-- Pragmas are looked at with the first name.
abbrev pub names_by : State → Bool → Bool → List Declared → Answer (Unit {0})
names_by st full fits [] = Ok tt
names_by st full fits (d ∷ rest) = and_then (name_rule st [] (full && fits) d) (λ _. names_behind st (normal d.text ∷ []) full rest)

abbrev pub names_rule : State → Binding → Definition → Answer (Unit {0})
names_rule st b d = names_by st (is_whole b d) (all_fit d.pragmas) d.names

-- ---- values

abbrev pub annotated : Option Ty → Valued → Answer Valued
annotated None v = Ok v
annotated (Some ty) v = of_type ty v

-- the value of a definition, with the type that is written
abbrev pub definition_value : Env → Option Ty → ℕ → Term → Answer Value
definition_value env ty n t = and_then (valued_term env (result_want ty) n t) (λ v. and_then (annotated ty v.given) (λ _. Ok v))

-- ---- variables

abbrev pub is_var_binding : Binding → Bool
is_var_binding binding.Var = true
is_var_binding _ = false

abbrev pub place_for : State → Declared → Ty → P.Declared
place_for st d ty = record { number = st.place; name = d.text; at = d.at; of = ty }

abbrev pub if_global : Bool → P.Declared → List P.Declared
if_global true p = p ∷ []
if_global false p = []

abbrev pub entry_for : State → Around → Binding → Declared → Ty → Entry
entry_for st a b d ty = variable (normal d.text) st.place ty (is_var_binding b) a.outermost

-- with a further variable, and the next node
abbrev pub with_variable : State → Around → Binding → Declared → Ty → ℕ → State
with_variable st a b d ty n =
    record (declaring st (entry_for st a b d ty ∷ [])) {
      node = n;
      place = suc st.place;
      globals = st.globals ++ if_global a.outermost (place_for st d ty);
    }

-- a variable with a value, whose nodes end at n, or without
abbrev pub variable_as : Around → Place → Binding → Ty → Args → (n : ℕ) → State → Declared → Stated
variable_as a at b ty value n st d = stated_as (declares (node st.node at) (place_for st d ty) false value ∷ []) (with_variable st a b d ty n)

-- one that starts at its default
abbrev pub defaulted : Around → Place → Binding → Ty → State → Declared → Stated
defaulted a at b ty st d = variable_as a at b ty NoArg (suc st.node) st d

abbrev pub initialised : Around → Place → Binding → Value → State → Declared → Stated
initialised a at b v st d = variable_as a at b v.given.of (one_value v.given.expr) v.next st d

abbrev pub default_rule : Around → Place → Binding → Option Ty → State → Declared → Answer Stated
default_rule a at b (Some ty) st d = Ok (defaulted a at b ty st d)
default_rule a at b None st d = not_typed d.at

-- A name of a definition. What follows the names was read in `env`, that is, before the definition.
abbrev pub variable_rule : Around → Place → Binding → Env → Option Ty → Option Term → State → Declared → Answer Stated
variable_rule a at b env ty (Some t) st d = and_then (definition_value env ty (suc st.node) t) (λ v. Ok (initialised a at b v st d))
variable_rule a at b env ty None st d = default_rule a at b ty st d

-- each name is a definition of its own
abbrev pub variables_rule : Around → Place → Binding → Env → Option Ty → Option Term → State → List Declared → Answer Stated
variables_rule a at b env ty value st [] = Ok (stated_as [] st)
variables_rule a at b env ty value st (d ∷ rest) =
    and_then (variable_rule a at b env ty value st d) (λ one.
    and_then (variables_rule a at b env ty value one.state rest) (λ more. Ok (and_more one more)))

abbrev pub definition_rule : Around → Place → Binding → State → Definition → Answer Stated
definition_rule a at b st d =
    and_then (names_rule st b d) (λ _.
    and_then (if_written st.env d.annotation) (λ ty. variables_rule a at b st.env ty d.value st d.names))

abbrev pub definitions_rule : Around → Place → Binding → State → List Definition → Answer Stated
definitions_rule a at b st [] = Ok (stated_as [] st)
definitions_rule a at b st (d ∷ rest) =
    and_then (definition_rule a at b st d) (λ one. and_then (definitions_rule a at b one.state rest) (λ more. Ok (and_more one more)))

-- ---- constants

abbrev pub constant_entries : Ty → Literal → List Declared → List Entry
constant_entries ty l [] = []
constant_entries ty l (d ∷ rest) = constant (normal d.text) ty l ∷ constant_entries ty l rest

-- a value that is known before any run, with its type
pub record Fixed : Type 0 where
  pub of : Ty
  pub literal : Literal

abbrev pub fixed_value : Env → Valued → Answer Fixed
fixed_value env v = and_then (constant_rule env.facts v) (λ l. Ok (record { of = v.of; literal = l }))

abbrev pub constant_value : Env → Option Ty → Term → Answer Fixed
constant_value env ty t = and_then (definition_value env ty 0 t) (λ v. fixed_value env v.given)

abbrev pub constants_by : State → Option Ty → Option Term → List Declared → Answer State
constants_by st ty (Some t) names = and_then (constant_value st.env ty t) (λ c. Ok (declaring st (constant_entries c.of c.literal names)))
constants_by st ty None [] = Ok st
constants_by st ty None (d ∷ rest) = not_typed d.at

abbrev pub constants_in : State → Definition → Answer State
constants_in st d =
    and_then (names_rule st binding.Const d) (λ _.
    and_then (if_written st.env d.annotation) (λ ty. constants_by st ty d.value d.names))

abbrev pub constants_rule : State → List Definition → Answer State
constants_rule st [] = Ok st
constants_rule st (d ∷ rest) = and_then (constants_in st d) (λ one. constants_rule one rest)
