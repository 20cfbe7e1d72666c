-- Heads of procedures: parameters, results, forward declarations and what is borrowed.
use Rattle.std.specs.Prelude.{ℕ, suc, ◌+◌, Bool, true, false, not, ◌&&◌, ◌||◌, if◌then◌else◌, List, [], ◌∷◌, ◌++◌, length, codes}
use Rattle.std.specs.Prelude.{Option, Some, None, is_some, Ok}
use Rattle.arc_base.specs.declared.place.Place.{Place}
use Rattle.arc_base.specs.declared.place.Code.TheVariants.{Redefined}
use Rattle.arc_base.specs.Refusal.{and_then, refused}
use Rattle.indent_scanner.specs.Words.{normal}
use Rattle.indent_scanner.specs.Meaning.{inner as inside_of}
use Rattle.nim_tree.specs.declared.name.Name.{Name}
use Rattle.nim_tree.specs.declared.name.Declared.{Declared}
use Rattle.nim_tree.specs.declared.name.Pragma.{Pragma}
use Rattle.nim_tree.specs.declared.name.PragmaKind.{PragmaKind}
use Rattle.nim_tree.specs.declared.name.PragmaKind.TheVariants as pragma
use Rattle.nim_tree.specs.declared.stmt.ParamMode.{ParamMode}
use Rattle.nim_tree.specs.declared.stmt.ParamMode.TheVariants as mode
use Rattle.nim_tree.specs.Types.{Written}
use Rattle.nim_tree.specs.Statements.{Parameters, Head}
use Rattle.nim_types.specs.Types as type
use Rattle.nim_types.specs.Types.{Ty, same, same_text}
use Rattle.nim_program.specs.declared.program.Mode.{Mode}
use Rattle.nim_program.specs.declared.program.Mode.TheVariants.{Plain, Sink, Var}
use Rattle.expr_rules.specs.Env.{Env, Entry, variable, procedure, name_in, Parameter, Procedure, known_as, callable}
use Rattle.expr_rules.specs.Answers.{Answer}
use Rattle.expr_rules.specs.Builtins.{is_shown}
use Rattle.expr_rules.specs.Calls.{comparisons, comparison_named}
use Rattle.expr_rules.specs.Choices.{same_value}
use Rattle.expr_rules.specs.Constructions.{base_of, is_among}
use Rattle.decl_rules.specs.State.{State, own_entries, is_declared, if_new, if_typed, declaring, entered, Item, is_completed}
use Rattle.decl_rules.specs.Written.{written_type, if_written}

-- ---- parameters

pub record Given : Type 0 where
  pub name : Name
  pub mode : Mode
  pub of : Ty

abbrev pub mode_of : ParamMode → Mode
mode_of mode.Plain = Plain
mode_of mode.Var = Var
mode_of mode.Sink = Sink

abbrev pub is_written : Mode → Bool
is_written Plain = false
is_written Sink = true
is_written Var = true

abbrev pub given_as : List Name → Mode → Ty → List Given
given_as [] m ty = []
given_as (x ∷ rest) m ty = record { name = x; mode = m; of = ty } ∷ given_as rest m ty

-- the parameter as a variable, with its place
abbrev pub parameter_entry : ℕ → Given → Entry
parameter_entry place g = variable (normal g.name.text) place g.of (is_written g.mode) false

-- in order, from a place on
abbrev pub parameter_entries : ℕ → List Given → List Entry
parameter_entries place [] = []
parameter_entries place (g ∷ rest) = parameter_entry place g ∷ parameter_entries (suc place) rest

-- Where there is a result, its name is one of the scope.
abbrev pub is_result_name : Bool → List ℕ → Bool
is_result_name result x = result && same_text x (codes "result")

abbrev pub is_taken : State → Bool → List (List ℕ) → List ℕ → Bool
is_taken st result before x = is_declared x (own_entries st) || (is_among x before || is_result_name result x)

abbrev pub group_names : State → (result : Bool) → (before : List (List ℕ)) → List Name → Answer (Unit {0})
group_names st result before [] = Ok tt
group_names st result before (x ∷ rest) =
    and_then (if_new (is_taken st result before (normal x.text)) x.at) (λ _. group_names st result (normal x.text ∷ before) rest)

-- with parameters, and the next place
abbrev pub with_parameters : State → List Given → State
with_parameters st given = record (declaring st (parameter_entries st.place given)) { place = st.place + length given }

-- a group of parameters is visible behind itself
abbrev pub parameters_rule : State → (result : Bool) → List Parameters → Answer (List Given)
parameters_rule st result [] = Ok []
parameters_rule st result (g ∷ rest) =
    and_then (group_names st result [] g.names) (λ _.
    and_then (written_type st.env g.of) (λ ty.
    and_then (parameters_rule (with_parameters st (given_as g.names (mode_of g.mode) ty)) result rest) (λ more.
    Ok (given_as g.names (mode_of g.mode) ty ++ more))))

-- what a head says of its parameters and its result
pub record Signature : Type 0 where
  pub params : List Given
  pub gives : Option Ty

abbrev pub has_result : Option Written → Bool
has_result None = false
has_result (Some t) = true

abbrev pub signature_rule : State → Head → Answer Signature
signature_rule st h =
    and_then (parameters_rule (entered st) (has_result h.gives) h.params) (λ params.
    and_then (if_written (with_parameters (entered st) params).env h.gives) (λ gives.
    Ok (record { params = params; gives = gives })))

abbrev pub parameters_of : List Given → List Parameter
parameters_of [] = []
parameters_of (g ∷ rest) = record { mode = g.mode; of = g.of } ∷ parameters_of rest

abbrev pub is_dollar : List ℕ → Bool
is_dollar x = same_text x (codes "$")

abbrev pub is_comparison : List ℕ → Bool
is_comparison x = is_some (comparison_named x comparisons)

-- an operation by its sign; what else stands in backticks is no name
abbrev pub quoted_name : Declared → List ℕ
quoted_name d = if is_dollar (inside_of d.text) || is_comparison (inside_of d.text) then inside_of d.text else d.text

-- in normal form
abbrev pub procedure_name : Declared → List ℕ
procedure_name d = if d.quoted then quoted_name d else normal d.text

-- ---- one name, and equal types of parameters

abbrev pub same_mode : Mode → Mode → Bool
same_mode Plain Plain = true
same_mode Sink Sink = true
same_mode Var Var = true
same_mode _ _ = false

abbrev pub same_types : List Parameter → List Parameter → Bool
same_types [] [] = true
same_types (p ∷ ps) (q ∷ qs) = same p.of q.of && same_types ps qs
same_types _ _ = false

abbrev pub same_modes : List Parameter → List Parameter → Bool
same_modes [] [] = true
same_modes (p ∷ ps) (q ∷ qs) = same_mode p.mode q.mode && same_modes ps qs
same_modes _ _ = false

-- what the scope has of a name and of types of parameters
pub data Earlier : Type 0 where
  nothing_earlier : Earlier
  -- a procedure with equal types of parameters
  one_earlier : Procedure → Earlier
  -- something else of the name
  no_procedure : Earlier

abbrev pub earlier_by : List Parameter → Entry → Earlier → Earlier
earlier_by params (procedure x p) rest = if same_types p.params params then one_earlier p else rest
earlier_by params _ rest = no_procedure

abbrev pub earlier : List ℕ → List Parameter → List Entry → Earlier
earlier x params [] = nothing_earlier
earlier x params (e ∷ rest) = if same_text x (name_in e) then earlier_by params e (earlier x params rest) else earlier x params rest

abbrev pub completes_if : Bool → Place → Procedure → Answer (Option ℕ)
completes_if true at p = Ok (Some p.number)
completes_if false at p = refused Redefined at

abbrev pub is_awaited : List Item → Procedure → Bool
is_awaited text p = not (p.borrowed || is_completed p.number text)

-- whether a further declaration completes the procedure
abbrev pub is_completion : List Item → (has_body : Bool) → List Parameter → Option Ty → Procedure → Bool
is_completion text has_body params gives p =
    (has_body && is_awaited text p) && (same_modes p.params params && same_value p.gives gives)

-- the number of the procedure that is completed, None of a new one
abbrev pub completion_rule : State → Place → (has_body : Bool) → List Parameter → Option Ty → Earlier → Answer (Option ℕ)
completion_rule st at has_body params gives nothing_earlier = Ok None
completion_rule st at has_body params gives (one_earlier p) = completes_if (is_completion st.text has_body params gives p) at p
completion_rule st at has_body params gives no_procedure = refused Redefined at

-- ---- names in backticks and pragmas

abbrev pub has_pragma : (PragmaKind → Bool) → List Pragma → Bool
has_pragma is [] = false
has_pragma is (p ∷ rest) = is p.kind || has_pragma is rest

abbrev pub is_borrow : PragmaKind → Bool
is_borrow pragma.Borrow = true
is_borrow _ = false

-- that has a meaning at hooks alone
abbrev pub is_error : PragmaKind → Bool
is_error pragma.Error = true
is_error _ = false

abbrev pub is_var : Mode → Bool
is_var Var = true
is_var _ = false

abbrev pub is_plain : Mode → Bool
is_plain Plain = true
is_plain _ = false

-- `$` shows one value
abbrev pub is_shower : List Parameter → Option Ty → Bool
is_shower (p ∷ []) (Some type.text) = not (is_var p.mode)
is_shower _ _ = false

abbrev pub takes_first : Ty → List Parameter → Bool
takes_first t [] = false
takes_first t (p ∷ rest) = same t p.of

-- a procedure of the name that borrows for the type
abbrev pub borrows_for : Ty → List Procedure → Bool
borrows_for t [] = false
borrows_for t (p ∷ rest) = (p.borrowed && takes_first t p.params) || borrows_for t rest

abbrev pub has_base : Env → List ℕ → Option Ty → Bool
has_base env x None = false
has_base env x (Some t) = is_shown t || borrows_for t (callable (known_as env x))

-- of the operation's name, for a distinct type whose base has the operation
abbrev pub is_borrowing : Env → List ℕ → List Parameter → Option Ty → Bool
is_borrowing env x (p ∷ []) (Some type.text) = is_dollar x && (is_plain p.mode && has_base env x (base_of env.facts p.of))
is_borrowing env x (p ∷ q ∷ []) (Some type.bool) =
    is_comparison x && ((is_plain p.mode && is_plain q.mode) && (same p.of q.of && has_base env x (base_of env.facts p.of)))
is_borrowing env x _ _ = false

-- whether a name in backticks may have the parameters
abbrev pub name_fits : Bool → List ℕ → Bool → List Parameter → Option Ty → Bool
name_fits false x borrowed params gives = true
name_fits true x borrowed params gives = if is_dollar x then is_shower params gives else borrowed

-- An operation is borrowed by its name in backticks, and by a head alone.
abbrev pub borrow_fits : Env → Bool → (quoted has_body : Bool) → List ℕ → List Parameter → Option Ty → Bool
borrow_fits env false quoted has_body x params gives = true
borrow_fits env true quoted has_body x params gives = (quoted && not has_body) && is_borrowing env x params gives

abbrev pub head_fits : Env → Head → (borrowed has_body : Bool) → List Parameter → Option Ty → Bool
head_fits env h borrowed has_body params gives =
    not (has_pragma is_error h.pragmas)
    && (name_fits h.name.quoted (procedure_name h.name) borrowed params gives
    && borrow_fits env borrowed h.name.quoted has_body (procedure_name h.name) params gives)

-- ---- the procedure that a head is of

-- what is known at `proc`
pub record Headed : Type 0 where
  pub signature : Signature
  -- that of its first declaration
  pub number : ℕ
  pub is_new : Bool
  pub borrowed : Bool

abbrev pub number_or : ℕ → Option ℕ → ℕ
number_or n None = n
number_or n (Some k) = k

abbrev pub headed : State → Head → Signature → Option ℕ → Headed
headed st h s completed =
    record {
      signature = s;
      number = number_or (length st.procs) completed;
      is_new = not (is_some completed);
      borrowed = has_pragma is_borrow h.pragmas;
    }

-- Parameters and result come first; at `proc` it is a second declaration, or it doesn't fit.
abbrev pub head_by : State → Place → Head → (has_body : Bool) → Signature → Answer Headed
head_by st at h has_body s =
    and_then (completion_rule st at has_body (parameters_of s.params) s.gives
    (earlier (procedure_name h.name) (parameters_of s.params) (own_entries st))) (λ completed.
    and_then (if_typed (head_fits st.env h (has_pragma is_borrow h.pragmas) has_body (parameters_of s.params) s.gives) at) (λ _.
    Ok (headed st h s completed)))

abbrev pub head_rule : State → Place → Head → (has_body : Bool) → Answer Headed
head_rule st at h has_body = and_then (signature_rule st h) (λ s. head_by st at h has_body s)
