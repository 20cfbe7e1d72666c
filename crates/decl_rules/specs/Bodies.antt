-- What is known behind a procedure's head and behind its body; and the variable of a `for`.
use Rattle.std.specs.Prelude.{ℕ, suc, ◌+◌, ◌-◌, Bool, true, false, if◌then◌else◌, List, [], ◌∷◌, ◌++◌, length, codes, slice_set}
use Rattle.std.specs.Prelude.{Option, Some, None}
use Rattle.arc_base.specs.declared.place.Place.{Place}
use Rattle.indent_scanner.specs.Words.{normal}
use Rattle.nim_tree.specs.declared.name.Name.{Name}
use Rattle.nim_tree.specs.Types.{Written}
use Rattle.nim_tree.specs.Statements.{Head}
use Rattle.nim_types.specs.Types.{Ty}
use Rattle.nim_program.specs.Program.{Declared, Param, Body, Proc}
use Rattle.expr_rules.specs.Env.{Entry, variable, procedure}
use Rattle.decl_rules.specs.State.{ResultPlace, State, declaring, entered, left, Item, announces, completes, Stated, block_of}
use Rattle.decl_rules.specs.Written.{type_place}
use Rattle.decl_rules.specs.Heads.{Given, Headed, parameters_of, with_parameters, procedure_name}

-- ---- parameters and results

abbrev pub params_from : ℕ → List Given → List Param
params_from place [] = []
params_from place (g ∷ rest) =
    record { place = record { number = place; name = g.name.text; at = g.name.at; of = g.of }; mode = g.mode } ∷ params_from (suc place) rest

-- `result` stands where its type is written
abbrev pub result_at : ℕ → Option Written → Option Ty → ResultPlace
result_at place (Some t) (Some ty) = Some (record { number = place; name = codes "result"; at = type_place t; of = ty })
result_at place (Some t) None = None
result_at place None ty = None

-- behind the parameters
abbrev pub result_of : State → Head → Headed → ResultPlace
result_of st h k = result_at (st.place + length k.signature.params) h.gives k.signature.gives

abbrev pub result_entries : ResultPlace → List Entry
result_entries None = []
result_entries (Some d) = variable (codes "result") d.number d.of true false ∷ []

abbrev pub results : ResultPlace → ℕ
results None = 0
results (Some d) = 1

-- behind it
abbrev pub with_result : State → ResultPlace → State
with_result st d = record (declaring st (result_entries d)) { place = st.place + results d }

-- ---- behind the head

abbrev pub procedure_entry : Head → Headed → Entry
procedure_entry h k =
    procedure (procedure_name h.name)
    (record { number = k.number; params = parameters_of k.signature.params; gives = k.signature.gives; borrowed = k.borrowed })

abbrev pub proc_of : Place → Head → Headed → ℕ → Option Body → Proc
proc_of at h k place body =
    record {
      name = h.name.text;
      at = at;
      type_params = 0;
      params = params_from place k.signature.params;
      gives = k.signature.gives;
      body = body;
      hook = None;
    }

-- what is borrowed needs no body
abbrev pub announced : Place → Headed → List Item
announced at k = if k.borrowed then [] else announces k.number at ∷ []

abbrev pub with_procedure : State → Place → Head → Headed → State
with_procedure st at h k =
    record (declaring st (procedure_entry h k ∷ [])) {
      procs = st.procs ++ proc_of at h k st.place None ∷ [];
      text = st.text ++ announced at k;
    }

-- A first declaration declares the procedure; one that completes another declares nothing.
abbrev pub behind_head : State → Place → Head → Headed → State
behind_head st at h k = if k.is_new then with_procedure st at h k else st

-- ---- in the body

-- with parameters and `result` in a scope of their own, around that of the body
abbrev pub before_body : State → Head → Headed → State
before_body st h k = entered (with_result (with_parameters (entered st) k.signature.params) (result_of st h k))

-- ---- behind the body

abbrev pub body_of : State → Head → Headed → Stated → Body
body_of st h k s =
    record {
      first = st.place;
      places = s.state.place - st.place;
      before = st.node;
      result = result_of st h k;
      stmts = block_of s.steps;
    }

-- The procedure has the name, the place and the parameters of the declaration with its body.
abbrev pub with_body : State → Place → Head → Headed → Stated → State
with_body st at h k s =
    record (left st s.state) {
      procs = slice_set s.state.procs k.number (proc_of at h k st.place (Some (body_of st h k s)));
      text = s.state.text ++ completes k.number (block_of s.steps) ∷ [];
    }

-- the parameters of what is borrowed have places, those of a forward declaration have none
abbrev pub without_body : State → Headed → State
without_body st k = if k.borrowed then record st { place = st.place + length k.signature.params } else st

abbrev pub behind_body : (has_body : Bool) → State → Place → Head → Headed → Stated → State
behind_body true st at h k s = with_body st at h k s
behind_body false st at h k s = without_body st k

-- ---- the variable of a `for`, in a scope of its own

abbrev pub loop_variable : State → Name → Ty → Declared
loop_variable st x ty = record { number = st.place; name = x.text; at = x.at; of = ty }

abbrev pub with_loop_variable : State → Name → Ty → State
with_loop_variable st x ty =
    record (declaring (entered st) (variable (normal x.text) st.place ty false false ∷ [])) { place = suc st.place }
