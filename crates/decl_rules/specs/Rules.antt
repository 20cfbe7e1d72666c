-- The typing rules of programs: which typed statements stand for a statement, and what is known behind it. `ends` is what the last
-- statement of a body has to give.
--
--     statement ──IsStated──> typed statements, and the state behind      each is typed in one way,
--          └──────IsNotStated──> code and place (Refusals.antt)           or refused in one way
--
-- One constructor for each construct. Parts come first, in order of text; the rule of the construct then looks at what they are.
use Rattle.std.specs.Prelude.{◌≡◌, ℕ, suc, Bool, true, false, List, [], ◌∷◌, ◌++◌, Option, Some, None, Ok}
use Rattle.arc_base.specs.declared.place.Place.{Place}
use Rattle.nim_tree.specs.declared.name.Name.{Name}
use Rattle.nim_tree.specs.declared.name.Declared.{Declared}
use Rattle.nim_tree.specs.declared.stmt.AssignOp.{AssignOp}
use Rattle.nim_tree.specs.declared.stmt.Binding.{Binding}
use Rattle.nim_tree.specs.declared.stmt.Binding.TheVariants as binding
use Rattle.nim_tree.specs.Terms as term
use Rattle.nim_tree.specs.Terms.{Term, Parts}
use Rattle.nim_tree.specs.Types.{Declaration}
use Rattle.nim_tree.specs.Statements.{Definition, Parameters, Head, Course, each, up_to, below, Statement, discards, returns, breaks, continues}
use Rattle.nim_tree.specs.Statements.{evaluates, assigns, commands, defines, types, branches, selects, repeats, counts, proclaims, Statements, empty, then}
use Rattle.nim_tree.specs.Statements.{Branches, no_branches, branch}
use Rattle.nim_types.specs.Types as type
use Rattle.nim_types.specs.Types.{Ty}
use Rattle.nim_program.specs.declared.stmt.Leaving.TheVariants as leaving
use Rattle.nim_program.specs.Program.{Expr, NoArg, Label, Stmt}
use Rattle.nim_program.specs.Nodes.{discard}
use Rattle.expr_rules.specs.Env.{Env}
use Rattle.expr_rules.specs.Answers.{node, Valued, nothing}
use Rattle.expr_rules.specs.Builtins.{write_rule}
use Rattle.expr_rules.specs.Paths.{path_of}
use Rattle.expr_rules.specs.Rules.{IsTyped}
use Rattle.expr_rules.specs.Typed.{labels}
use Rattle.decl_rules.specs.State.{ResultPlace, Around, in_body, deeper, looping, State, declaring, up_to_node, entered, Stated, stated_as, did}
use Rattle.decl_rules.specs.State.{noting, and_more, Blocked, closed}
use Rattle.decl_rules.specs.Values.{Value, procedure_rule, result_want, given_want, returned, gives_back, evaluated, target_rule, source_want, source_rule}
use Rattle.decl_rules.specs.Values.{assigned, element_rule, single_test, selector_rule, target_at}
use Rattle.decl_rules.specs.Definitions.{names_rule, annotated, initialised, defaulted, constant_entries, Fixed, fixed_value}
use Rattle.decl_rules.specs.Heads.{Given, given_as, mode_of, group_names, with_parameters, Signature, has_result, Headed, head_by}
use Rattle.decl_rules.specs.Bodies.{result_of, behind_head, before_body, behind_body}
use Rattle.decl_rules.specs.Stated.{has_statements, ends_with, covered, passed, leaves, Branched, Armed, branch_before, arm_before, branched}
use Rattle.decl_rules.specs.Stated.{selected, repeated, gone_over, counted, for_state, is_constant}
use Rattle.decl_rules.specs.TypeRules.{IsValue, IsValueAs, IsWritten, IfWritten, IsSection}

-- ---- definitions

-- a value with the type that is written
pub data IsDefined (env : Env) : Option Ty → ℕ → Term → Value → Type 0 where
  d_value : {ty : Option Ty} {n : ℕ} {t : Term} {v : Value} {w : Valued} → IsValue env (result_want ty) n t v → annotated ty v.given ≡ Ok w
      → IsDefined env ty n t v

-- a name of a definition; its value is read in `env`, before the definition
pub data IsVariable (a : Around) (at : Place) (b : Binding) (env : Env) : Option Ty → Option Term → State → Declared → Stated → Type 0 where
  d_initialised : {ty : Option Ty} {t : Term} {st : State} {d : Declared} {v : Value} → IsDefined env ty (suc st.node) t v
      → IsVariable a at b env ty (Some t) st d (initialised a at b v st d)
  d_defaulted : {ty : Ty} {st : State} {d : Declared} → IsVariable a at b env (Some ty) None st d (defaulted a at b ty st d)

pub data AreVariables (a : Around) (at : Place) (b : Binding) (env : Env) (ty : Option Ty) (value : Option Term)
    : State → List Declared → Stated → Type 0 where
  d_no_names : {st : State} → AreVariables a at b env ty value st [] (stated_as [] st)
  d_names : {st : State} {d : Declared} {rest : List Declared} {one more : Stated} → IsVariable a at b env ty value st d one
      → AreVariables a at b env ty value one.state rest more → AreVariables a at b env ty value st (d ∷ rest) (and_more one more)

pub data IsDefinition (a : Around) (at : Place) (b : Binding) (st : State) : Definition → Stated → Type 0 where
  d_variables : {d : Definition} {ty : Option Ty} {s : Stated} → names_rule st b d ≡ Ok tt → IfWritten st.env d.annotation ty
      → AreVariables a at b st.env ty d.value st d.names s → IsDefinition a at b st d s

pub data AreDefinitions (a : Around) (at : Place) (b : Binding) : State → List Definition → Stated → Type 0 where
  d_no_definitions : {st : State} → AreDefinitions a at b st [] (stated_as [] st)
  d_definitions : {st : State} {d : Definition} {rest : List Definition} {one more : Stated} → IsDefinition a at b st d one
      → AreDefinitions a at b one.state rest more → AreDefinitions a at b st (d ∷ rest) (and_more one more)

-- the value of a constant, which is known before any run
pub data IsConstantOf (st : State) (ty : Option Ty) : List Declared → Option Term → State → Type 0 where
  d_constant : {names : List Declared} {t : Term} {v : Value} {c : Fixed} → IsDefined st.env ty 0 t v → fixed_value st.env v.given ≡ Ok c
      → IsConstantOf st ty names (Some t) (declaring st (constant_entries c.of c.literal names))
  -- no name needs no value
  d_no_constant : IsConstantOf st ty [] None st

pub data IsConstant (st : State) : Definition → State → Type 0 where
  d_constants : {d : Definition} {ty : Option Ty} {behind : State} → names_rule st binding.Const d ≡ Ok tt → IfWritten st.env d.annotation ty
      → IsConstantOf st ty d.names d.value behind → IsConstant st d behind

pub data AreConstants : State → List Definition → State → Type 0 where
  d_none_constant : {st : State} → AreConstants st [] st
  d_all_constant : {st one behind : State} {d : Definition} {rest : List Definition} → IsConstant st d one → AreConstants one rest behind
      → AreConstants st (d ∷ rest) behind

-- ---- heads of procedures

-- groups of parameters
pub data AreGiven (result : Bool) : State → List Parameters → List Given → Type 0 where
  h_none : {st : State} → AreGiven result st [] []
  h_more : {st : State} {g : Parameters} {rest : List Parameters} {ty : Ty} {more : List Given} → group_names st result [] g.names ≡ Ok tt
      → IsWritten st.env g.of ty → AreGiven result (with_parameters st (given_as g.names (mode_of g.mode) ty)) rest more
      → AreGiven result st (g ∷ rest) (given_as g.names (mode_of g.mode) ty ++ more)

pub data IsSignature (st : State) : Head → Signature → Type 0 where
  h_signature : {h : Head} {params : List Given} {gives : Option Ty} → AreGiven (has_result h.gives) (entered st) h.params params
      → IfWritten (with_parameters (entered st) params).env h.gives gives
      → IsSignature st h (record { params = params; gives = gives })

pub data IsHead (st : State) (at : Place) (h : Head) (has_body : Bool) : Headed → Type 0 where
  h_head : {s : Signature} {k : Headed} → IsSignature st h s → head_by st at h has_body s ≡ Ok k → IsHead st at h has_body k

-- ---- statements

-- the test of a branch of an `if`
pub data IsCondition (env : Env) : ℕ → Place → Parts → Value → Type 0 where
  s_condition : {n : ℕ} {at : Place} {tests : Parts} {t : Term} {v : Value} → single_test at tests ≡ Ok t → IsValueAs env type.bool n t v
      → IsCondition env n at tests v

-- the ints from one to another, with that one or without
pub data IsRange : Course → (first last : Term) → (inclusive : Bool) → Type 0 where
  to_last : {t u : Term} → IsRange (up_to t u) t u true
  below_last : {t u : Term} → IsRange (below t u) t u false

mutual
  pub data IsStated : Around → (ends : ResultPlace) → State → Statement → Stated → Type 0 where
    s_discard : {a : Around} {ends : ResultPlace} {st : State} {at : Place}
        → IsStated a ends st (discards at None) (passed st at)
    s_discard_value : {a : Around} {ends : ResultPlace} {st : State} {at : Place} {t : Term} {v : Value} → IsValue st.env nothing (suc st.node) t v
        → IsStated a ends st (discards at (Some t)) (did st (discard (node st.node at) v.given.expr) v.next)
    s_return : {a : Around} {ends gives : ResultPlace} {st : State} {at : Place} → procedure_rule at a.inside ≡ Ok gives
        → IsStated a ends st (returns at None) (leaves st at leaving.Return)
    s_return_value : {a : Around} {ends gives : ResultPlace} {st : State} {at : Place} {t : Term} {e : Expr} {m : ℕ} {v : Valued}
        → procedure_rule at a.inside ≡ Ok gives → IsTyped st.env (given_want gives) (suc st.node) t e m → returned gives e ≡ Ok v
        → IsStated a ends st (returns at (Some t)) (did st (gives_back gives (node st.node at) v.expr) m)
    s_break : {a : Around} {ends : ResultPlace} {st : State} {at : Place} → a.in_loop ≡ true
        → IsStated a ends st (breaks at) (leaves st at leaving.Break)
    s_continue : {a : Around} {ends : ResultPlace} {st : State} {at : Place} → a.in_loop ≡ true
        → IsStated a ends st (continues at) (leaves st at leaving.Continue)
    s_evaluate : {a : Around} {ends : ResultPlace} {st : State} {at : Place} {t : Term} {e : Expr} {m : ℕ} {s : Stmt}
        → IsTyped st.env (given_want ends) (suc st.node) t e m → evaluated ends (node st.node at) e ≡ Ok s
        → IsStated a ends st (evaluates at t) (did st s m)
    s_command : {a : Around} {ends : ResultPlace} {st : State} {at : Place} {t : Term} {operands : Parts} {e : Expr} {m : ℕ} {s : Stmt}
        → IsTyped st.env (given_want ends) (suc st.node) (term.call at t operands) e m → evaluated ends (node st.node at) e ≡ Ok s
        → IsStated a ends st (commands at t operands) (did st s m)
    s_assign : {a : Around} {ends : ResultPlace} {st : State} {at : Place} {op : AssignOp} {t u : Term} {v w : Value} {target source : Valued}
        → IsValue st.env nothing (suc st.node) t v → target_rule op v.given ≡ Ok target → write_rule (target_at st.env t target) ≡ Ok tt
        → IsValue st.env (source_want op target.of) v.next u w → source_rule op target.of w.given ≡ Ok source
        → IsStated a ends st (assigns at op t u) (did st (assigned op (node st.node at) (path_of target.expr) source.expr) w.next)
    s_constants : {a : Around} {ends : ResultPlace} {st behind : State} {at : Place} {all : List Definition} → AreConstants st all behind
        → IsStated a ends st (defines at binding.Const all) (passed behind at)
    s_variables : {a : Around} {ends : ResultPlace} {st : State} {at : Place} {b : Binding} {all : List Definition} {s : Stated} → is_constant b ≡ false
        → AreDefinitions a at b st all s → IsStated a ends st (defines at b all) s
    s_types : {a : Around} {ends : ResultPlace} {st : State} {at : Place} {all : List Declaration} {env : Env} → IsSection st all env
        → IsStated a ends st (types at all) (passed (record st { env = env }) at)
    s_if : {a : Around} {ends : ResultPlace} {st : State} {at : Place} {all : Branches} {otherwise : Statements} {b : Branched} {o : Blocked}
        → AreBranches a (up_to_node st (suc st.node)) all b → IsBlock a b.state otherwise o
        → IsStated a ends st (branches at all otherwise) (branched st.node at b o)
    s_case : {a : Around} {ends : ResultPlace} {st : State} {at : Place} {t : Term} {all : Branches} {otherwise : Statements} {v : Value} {s : Valued}
        {b : Armed} {o : Blocked} → IsValue st.env nothing (suc st.node) t v → selector_rule v.given ≡ Ok s → AreArms a s.of [] (up_to_node st v.next) all b
        → IsBlock a b.state otherwise o → covered st.env.facts at s.of b.labels otherwise ≡ Ok tt
        → IsStated a ends st (selects at t all otherwise) (selected st.node at v b o)
    s_while : {a : Around} {ends : ResultPlace} {st : State} {at : Place} {t : Term} {body : Statements} {c : Value} {b : Blocked}
        → IsValueAs st.env type.bool (suc st.node) t c → IsBlock (looping a) (up_to_node st c.next) body b
        → IsStated a ends st (repeats at t body) (repeated st.node at c b)
    s_for_each : {a : Around} {ends : ResultPlace} {st : State} {at : Place} {x : Name} {t : Term} {body : Statements} {v : Value} {ty : Ty} {b : Blocked}
        → IsValue st.env nothing (suc st.node) t v → element_rule v.given ≡ Ok ty → IsBlock (looping a) (for_state st v x ty) body b
        → IsStated a ends st (counts at x (each t) body) (gone_over st.node at st x v ty b)
    s_for_range : {a : Around} {ends : ResultPlace} {st : State} {at : Place} {x : Name} {course : Course} {t u : Term} {inclusive : Bool}
        {body : Statements} {v w : Value} {b : Blocked} → IsRange course t u inclusive → IsValueAs st.env type.int (suc st.node) t v
        → IsValueAs st.env type.int v.next u w → IsBlock (looping a) (for_state st w x type.int) body b
        → IsStated a ends st (counts at x course body) (counted st.node at st x v w inclusive b)
    s_procedure : {a : Around} {ends : ResultPlace} {st : State} {at : Place} {h : Head} {body : Statements} {k : Headed} {s : Stated}
        → a.outermost ≡ true → IsHead st at h (has_statements body) k
        → AreStated (in_body (result_of (behind_head st at h k) h k)) (result_of (behind_head st at h k) h k)
        (before_body (behind_head st at h k) h k) body s
        → IsStated a ends st (proclaims at h body) (stated_as [] (behind_body (has_statements body) (behind_head st at h k) at h k s))

  pub data AreStated : Around → (ends : ResultPlace) → State → Statements → Stated → Type 0 where
    s_none : {a : Around} {ends : ResultPlace} {st : State} → AreStated a ends st empty (stated_as [] st)
    s_more : {a : Around} {ends : ResultPlace} {st : State} {first : Statement} {rest : Statements} {one more : Stated}
        → IsStated a (ends_with ends rest) st first one → AreStated a ends (noting a.outermost one) rest more
        → AreStated a ends st (then first rest) (and_more one more)

  -- a block has a scope of its own
  pub data IsBlock : Around → State → Statements → Blocked → Type 0 where
    s_block : {a : Around} {st : State} {body : Statements} {s : Stated} → AreStated (deeper a) None (entered st) body s → IsBlock a st body (closed st s)

  -- of an `if`
  pub data AreBranches : Around → State → Branches → Branched → Type 0 where
    s_no_branches : {a : Around} {st : State} → AreBranches a st no_branches (record { tests = NoArg; blocks = []; state = st })
    s_branches : {a : Around} {st : State} {at : Place} {tests : Parts} {body : Statements} {rest : Branches} {c : Value} {b : Blocked} {more : Branched}
        → IsCondition st.env st.node at tests c → IsBlock a (up_to_node st c.next) body b → AreBranches a b.state rest more
        → AreBranches a st (branch at tests body rest) (branch_before c b more)

  -- of a `case` over values of the type, behind others with these labels
  pub data AreArms : Around → Ty → (before : List Label) → State → Branches → Armed → Type 0 where
    s_no_arms : {a : Around} {ty : Ty} {before : List Label} {st : State} → AreArms a ty before st no_branches
        (record { rows = []; labels = before; blocks = []; state = st })
    s_arms : {a : Around} {ty : Ty} {before ls : List Label} {st : State} {at : Place} {tests : Parts} {body : Statements} {rest : Branches} {b : Blocked}
        {more : Armed} → labels st.env ty before tests ≡ Ok ls → IsBlock a st body b → AreArms a ty (before ++ ls) b.state rest more
        → AreArms a ty before st (branch at tests body rest) (arm_before ls b more)
