-- Which statements are refused, with the code and the place that say why: one constructor for each way of failing. What stands before
-- a failing part is typed, so the first failure in order of text is meant.
use Rattle.std.specs.Prelude.{◌≡◌, ℕ, suc, Bool, true, false, List, [], ◌∷◌, ◌++◌, Option, Some, None, Ok}
use Rattle.arc_base.specs.declared.place.Place.{Place}
use Rattle.arc_base.specs.declared.place.Code.{Code}
use Rattle.arc_base.specs.declared.place.Code.TheVariants.{NotTyped, LeftOut}
use Rattle.arc_base.specs.Refusal.{IsRefusal}
use Rattle.nim_tree.specs.declared.name.Name.{Name}
use Rattle.nim_tree.specs.declared.name.Declared.{Declared}
use Rattle.nim_tree.specs.declared.stmt.AssignOp.{AssignOp}
use Rattle.nim_tree.specs.declared.stmt.Binding.{Binding}
use Rattle.nim_tree.specs.declared.stmt.Binding.TheVariants as binding
use Rattle.nim_tree.specs.Terms as term
use Rattle.nim_tree.specs.Terms.{Term, Parts}
use Rattle.nim_tree.specs.Types.{Declaration}
use Rattle.nim_tree.specs.Statements.{Definition, Parameters, Head, Course, each, Statement, discards, returns, raises, breaks, continues, imports}
use Rattle.nim_tree.specs.Statements.{evaluates, assigns, commands, defines, types, branches, selects, repeats, counts, tries, defers, proclaims, Statements}
use Rattle.nim_tree.specs.Statements.{then, Branches, branch, Handlers}
use Rattle.nim_types.specs.Types as type
use Rattle.nim_types.specs.Types.{Ty}
use Rattle.nim_program.specs.Program.{Expr, Label}
use Rattle.expr_rules.specs.Env.{Env}
use Rattle.expr_rules.specs.Answers.{node, Valued, nothing}
use Rattle.expr_rules.specs.Builtins.{write_rule}
use Rattle.expr_rules.specs.Rules.{IsTyped}
use Rattle.expr_rules.specs.Refusals.{IsRefused}
use Rattle.expr_rules.specs.Typed.{labels}
use Rattle.decl_rules.specs.State.{ResultPlace, Around, in_body, deeper, looping, State, up_to_node, entered, Stated, noting, Blocked}
use Rattle.decl_rules.specs.Values.{Value, procedure_rule, result_want, given_want, returned, evaluated, target_rule, source_want, source_rule}
use Rattle.decl_rules.specs.Values.{element_rule, single_test, selector_rule, target_at}
use Rattle.decl_rules.specs.Definitions.{names_rule, annotated, fixed_value}
use Rattle.decl_rules.specs.Heads.{Given, given_as, mode_of, group_names, with_parameters, Signature, has_result, Headed, head_by}
use Rattle.decl_rules.specs.Bodies.{result_of, behind_head, before_body}
use Rattle.decl_rules.specs.Stated.{has_statements, ends_with, covered, Branched, Armed, for_state, is_constant}
use Rattle.decl_rules.specs.TypeRules.{IsValue, IsValueAs, IsWritten, IfWritten}
use Rattle.decl_rules.specs.TypeRefusals.{IsNoValue, IsNoValueAs, IsNotWritten, IfNotWritten, IsNoSection}
use Rattle.decl_rules.specs.Rules.{IsDefined, IsVariable, IsDefinition, IsConstant, AreGiven, IsSignature, IsHead}
use Rattle.decl_rules.specs.Rules.{IsCondition, IsRange, IsStated, IsBlock, AreBranches, AreArms}

-- ---- definitions

pub data IsNotDefined (env : Env) : Option Ty → ℕ → Term → Code → Place → Type 0 where
  f_value : {ty : Option Ty} {n : ℕ} {t : Term} {c : Code} {p : Place} → IsNoValue env (result_want ty) n t c p → IsNotDefined env ty n t c p
  -- not of the type that is written
  f_annotated : {ty : Option Ty} {n : ℕ} {t : Term} {v : Value} {c : Code} {p : Place} → IsValue env (result_want ty) n t v
      → IsRefusal (annotated ty v.given) c p → IsNotDefined env ty n t c p

pub data IsNoVariable (a : Around) (at : Place) (b : Binding) (env : Env) : Option Ty → Option Term → State → Declared → Code → Place
    → Type 0 where
  f_initial : {ty : Option Ty} {t : Term} {st : State} {d : Declared} {c : Code} {p : Place} → IsNotDefined env ty (suc st.node) t c p
      → IsNoVariable a at b env ty (Some t) st d c p
  -- neither a value nor a type
  f_nothing : {st : State} {d : Declared} → IsNoVariable a at b env None None st d NotTyped d.at

pub data AreNoVariables (a : Around) (at : Place) (b : Binding) (env : Env) (ty : Option Ty) (value : Option Term)
    : State → List Declared → Code → Place → Type 0 where
  f_variable : {st : State} {d : Declared} {rest : List Declared} {c : Code} {p : Place} → IsNoVariable a at b env ty value st d c p
      → AreNoVariables a at b env ty value st (d ∷ rest) c p
  f_variables : {st : State} {d : Declared} {rest : List Declared} {one : Stated} {c : Code} {p : Place}
      → IsVariable a at b env ty value st d one → AreNoVariables a at b env ty value one.state rest c p
      → AreNoVariables a at b env ty value st (d ∷ rest) c p

pub data IsNoDefinition (a : Around) (at : Place) (b : Binding) (st : State) : Definition → Code → Place → Type 0 where
  f_names : {d : Definition} {c : Code} {p : Place} → IsRefusal (names_rule st b d) c p → IsNoDefinition a at b st d c p
  f_annotation : {d : Definition} {c : Code} {p : Place} → names_rule st b d ≡ Ok tt → IfNotWritten st.env d.annotation c p
      → IsNoDefinition a at b st d c p
  f_definition : {d : Definition} {ty : Option Ty} {c : Code} {p : Place} → names_rule st b d ≡ Ok tt → IfWritten st.env d.annotation ty
      → AreNoVariables a at b st.env ty d.value st d.names c p → IsNoDefinition a at b st d c p

pub data AreNoDefinitions (a : Around) (at : Place) (b : Binding) : State → List Definition → Code → Place → Type 0 where
  f_first : {st : State} {d : Definition} {rest : List Definition} {c : Code} {p : Place} → IsNoDefinition a at b st d c p
      → AreNoDefinitions a at b st (d ∷ rest) c p
  f_rest : {st : State} {d : Definition} {rest : List Definition} {one : Stated} {c : Code} {p : Place} → IsDefinition a at b st d one
      → AreNoDefinitions a at b one.state rest c p → AreNoDefinitions a at b st (d ∷ rest) c p

pub data IsNoConstantOf (st : State) (ty : Option Ty) : List Declared → Option Term → Code → Place → Type 0 where
  f_constant_value : {names : List Declared} {t : Term} {c : Code} {p : Place} → IsNotDefined st.env ty 0 t c p → IsNoConstantOf st ty names (Some t) c p
  -- known only in a run
  f_constant : {names : List Declared} {t : Term} {v : Value} {c : Code} {p : Place} → IsDefined st.env ty 0 t v
      → IsRefusal (fixed_value st.env v.given) c p → IsNoConstantOf st ty names (Some t) c p
  -- no value
  f_no_constant : {d : Declared} {rest : List Declared} → IsNoConstantOf st ty (d ∷ rest) None NotTyped d.at

pub data IsNoConstant (st : State) : Definition → Code → Place → Type 0 where
  f_constant_names : {d : Definition} {c : Code} {p : Place} → IsRefusal (names_rule st binding.Const d) c p → IsNoConstant st d c p
  f_constant_type : {d : Definition} {c : Code} {p : Place} → names_rule st binding.Const d ≡ Ok tt → IfNotWritten st.env d.annotation c p
      → IsNoConstant st d c p
  f_constant_of : {d : Definition} {ty : Option Ty} {c : Code} {p : Place} → names_rule st binding.Const d ≡ Ok tt
      → IfWritten st.env d.annotation ty → IsNoConstantOf st ty d.names d.value c p → IsNoConstant st d c p

pub data AreNoConstants : State → List Definition → Code → Place → Type 0 where
  f_first_constant : {st : State} {d : Definition} {rest : List Definition} {c : Code} {p : Place} → IsNoConstant st d c p
      → AreNoConstants st (d ∷ rest) c p
  f_rest_constants : {st one : State} {d : Definition} {rest : List Definition} {c : Code} {p : Place} → IsConstant st d one
      → AreNoConstants one rest c p → AreNoConstants st (d ∷ rest) c p

-- ---- heads of procedures

pub data AreNotGiven (result : Bool) : State → List Parameters → Code → Place → Type 0 where
  f_group_names : {st : State} {g : Parameters} {rest : List Parameters} {c : Code} {p : Place} → IsRefusal (group_names st result [] g.names) c p
      → AreNotGiven result st (g ∷ rest) c p
  f_group_type : {st : State} {g : Parameters} {rest : List Parameters} {c : Code} {p : Place} → group_names st result [] g.names ≡ Ok tt
      → IsNotWritten st.env g.of c p → AreNotGiven result st (g ∷ rest) c p
  f_groups : {st : State} {g : Parameters} {rest : List Parameters} {ty : Ty} {c : Code} {p : Place} → group_names st result [] g.names ≡ Ok tt
      → IsWritten st.env g.of ty → AreNotGiven result (with_parameters st (given_as g.names (mode_of g.mode) ty)) rest c p
      → AreNotGiven result st (g ∷ rest) c p

pub data IsNoSignature (st : State) : Head → Code → Place → Type 0 where
  f_parameters : {h : Head} {c : Code} {p : Place} → AreNotGiven (has_result h.gives) (entered st) h.params c p → IsNoSignature st h c p
  f_result : {h : Head} {params : List Given} {c : Code} {p : Place} → AreGiven (has_result h.gives) (entered st) h.params params
      → IfNotWritten (with_parameters (entered st) params).env h.gives c p → IsNoSignature st h c p

pub data IsNoHead (st : State) (at : Place) (h : Head) (has_body : Bool) : Code → Place → Type 0 where
  f_signature : {c : Code} {p : Place} → IsNoSignature st h c p → IsNoHead st at h has_body c p
  -- a second declaration, or one that doesn't fit its name or its pragmas
  f_head : {s : Signature} {c : Code} {p : Place} → IsSignature st h s → IsRefusal (head_by st at h has_body s) c p
      → IsNoHead st at h has_body c p

-- ---- statements

pub data IsNoCondition (env : Env) : ℕ → Place → Parts → Code → Place → Type 0 where
  f_tests : {n : ℕ} {at p : Place} {tests : Parts} {c : Code} → IsRefusal (single_test at tests) c p → IsNoCondition env n at tests c p
  f_test : {n : ℕ} {at p : Place} {tests : Parts} {t : Term} {c : Code} → single_test at tests ≡ Ok t → IsNoValueAs env type.bool n t c p
      → IsNoCondition env n at tests c p

mutual
  pub data IsNotStated : Around → (ends : ResultPlace) → State → Statement → Code → Place → Type 0 where
    r_discard : {a : Around} {ends : ResultPlace} {st : State} {at p : Place} {t : Term} {c : Code} → IsNoValue st.env nothing (suc st.node) t c p
        → IsNotStated a ends st (discards at (Some t)) c p
    r_return : {a : Around} {ends : ResultPlace} {st : State} {at p : Place} {t : Option Term} {c : Code} → IsRefusal (procedure_rule at a.inside) c p
        → IsNotStated a ends st (returns at t) c p
    r_return_term : {a : Around} {ends gives : ResultPlace} {st : State} {at p : Place} {t : Term} {c : Code} → procedure_rule at a.inside ≡ Ok gives
        → IsRefused st.env (given_want gives) (suc st.node) t c p → IsNotStated a ends st (returns at (Some t)) c p
    r_return_value : {a : Around} {ends gives : ResultPlace} {st : State} {at p : Place} {t : Term} {e : Expr} {m : ℕ} {c : Code}
        → procedure_rule at a.inside ≡ Ok gives → IsTyped st.env (given_want gives) (suc st.node) t e m → IsRefusal (returned gives e) c p
        → IsNotStated a ends st (returns at (Some t)) c p
    -- not built yet
    r_raise : {a : Around} {ends : ResultPlace} {st : State} {at : Place} {t : Option Term} → IsNotStated a ends st (raises at t) LeftOut at
    r_import : {a : Around} {ends : ResultPlace} {st : State} {at : Place} {names : List Name} → IsNotStated a ends st (imports at names) LeftOut at
    r_try : {a : Around} {ends : ResultPlace} {st : State} {at : Place} {body finally : Statements} {all : Handlers}
        → IsNotStated a ends st (tries at body all finally) LeftOut at
    r_defer : {a : Around} {ends : ResultPlace} {st : State} {at : Place} {body : Statements} → IsNotStated a ends st (defers at body) LeftOut at
    r_break : {a : Around} {ends : ResultPlace} {st : State} {at : Place} → a.in_loop ≡ false → IsNotStated a ends st (breaks at) NotTyped at
    r_continue : {a : Around} {ends : ResultPlace} {st : State} {at : Place} → a.in_loop ≡ false → IsNotStated a ends st (continues at) NotTyped at
    r_expression : {a : Around} {ends : ResultPlace} {st : State} {at p : Place} {t : Term} {c : Code} → IsRefused st.env (given_want ends) (suc st.node) t c p
        → IsNotStated a ends st (evaluates at t) c p
    -- a value that nobody takes
    r_evaluate : {a : Around} {ends : ResultPlace} {st : State} {at p : Place} {t : Term} {e : Expr} {m : ℕ} {c : Code}
        → IsTyped st.env (given_want ends) (suc st.node) t e m → IsRefusal (evaluated ends (node st.node at) e) c p
        → IsNotStated a ends st (evaluates at t) c p
    r_call : {a : Around} {ends : ResultPlace} {st : State} {at p : Place} {t : Term} {operands : Parts} {c : Code}
        → IsRefused st.env (given_want ends) (suc st.node) (term.call at t operands) c p → IsNotStated a ends st (commands at t operands) c p
    r_command : {a : Around} {ends : ResultPlace} {st : State} {at p : Place} {t : Term} {operands : Parts} {e : Expr} {m : ℕ} {c : Code}
        → IsTyped st.env (given_want ends) (suc st.node) (term.call at t operands) e m → IsRefusal (evaluated ends (node st.node at) e) c p
        → IsNotStated a ends st (commands at t operands) c p
    r_target : {a : Around} {ends : ResultPlace} {st : State} {at p : Place} {op : AssignOp} {t u : Term} {c : Code}
        → IsNoValue st.env nothing (suc st.node) t c p
        → IsNotStated a ends st (assigns at op t u) c p
    r_target_type : {a : Around} {ends : ResultPlace} {st : State} {at p : Place} {op : AssignOp} {t u : Term} {v : Value} {c : Code}
        → IsValue st.env nothing (suc st.node) t v → IsRefusal (target_rule op v.given) c p → IsNotStated a ends st (assigns at op t u) c p
    -- it can't be written
    r_written : {a : Around} {ends : ResultPlace} {st : State} {at p : Place} {op : AssignOp} {t u : Term} {v : Value} {target : Valued} {c : Code}
        → IsValue st.env nothing (suc st.node) t v → target_rule op v.given ≡ Ok target → IsRefusal (write_rule (target_at st.env t target)) c p
        → IsNotStated a ends st (assigns at op t u) c p
    r_source : {a : Around} {ends : ResultPlace} {st : State} {at p : Place} {op : AssignOp} {t u : Term} {v : Value} {target : Valued} {c : Code}
        → IsValue st.env nothing (suc st.node) t v → target_rule op v.given ≡ Ok target → write_rule (target_at st.env t target) ≡ Ok tt
        → IsNoValue st.env (source_want op target.of) v.next u c p → IsNotStated a ends st (assigns at op t u) c p
    r_source_type : {a : Around} {ends : ResultPlace} {st : State} {at p : Place} {op : AssignOp} {t u : Term} {v w : Value} {target : Valued}
        {c : Code} → IsValue st.env nothing (suc st.node) t v → target_rule op v.given ≡ Ok target → write_rule (target_at st.env t target) ≡ Ok tt
        → IsValue st.env (source_want op target.of) v.next u w → IsRefusal (source_rule op target.of w.given) c p
        → IsNotStated a ends st (assigns at op t u) c p
    r_constants : {a : Around} {ends : ResultPlace} {st : State} {at p : Place} {all : List Definition} {c : Code} → AreNoConstants st all c p
        → IsNotStated a ends st (defines at binding.Const all) c p
    r_variables : {a : Around} {ends : ResultPlace} {st : State} {at p : Place} {b : Binding} {all : List Definition} {c : Code} → is_constant b ≡ false
        → AreNoDefinitions a at b st all c p → IsNotStated a ends st (defines at b all) c p
    r_types : {a : Around} {ends : ResultPlace} {st : State} {at p : Place} {all : List Declaration} {c : Code} → IsNoSection st all c p
        → IsNotStated a ends st (types at all) c p
    r_branches : {a : Around} {ends : ResultPlace} {st : State} {at p : Place} {all : Branches} {otherwise : Statements} {c : Code}
        → AreNoBranches a (up_to_node st (suc st.node)) all c p → IsNotStated a ends st (branches at all otherwise) c p
    r_else : {a : Around} {ends : ResultPlace} {st : State} {at p : Place} {all : Branches} {otherwise : Statements} {b : Branched} {c : Code}
        → AreBranches a (up_to_node st (suc st.node)) all b → IsNoBlock a b.state otherwise c p
        → IsNotStated a ends st (branches at all otherwise) c p
    r_selector : {a : Around} {ends : ResultPlace} {st : State} {at p : Place} {t : Term} {all : Branches} {otherwise : Statements} {c : Code}
        → IsNoValue st.env nothing (suc st.node) t c p → IsNotStated a ends st (selects at t all otherwise) c p
    r_selector_type : {a : Around} {ends : ResultPlace} {st : State} {at p : Place} {t : Term} {all : Branches} {otherwise : Statements} {v : Value} {c : Code}
        → IsValue st.env nothing (suc st.node) t v → IsRefusal (selector_rule v.given) c p → IsNotStated a ends st (selects at t all otherwise) c p
    r_arms : {a : Around} {ends : ResultPlace} {st : State} {at p : Place} {t : Term} {all : Branches} {otherwise : Statements} {v : Value} {s : Valued}
        {c : Code}
        → IsValue st.env nothing (suc st.node) t v → selector_rule v.given ≡ Ok s → AreNoArms a s.of [] (up_to_node st v.next) all c p
        → IsNotStated a ends st (selects at t all otherwise) c p
    r_case_else : {a : Around} {ends : ResultPlace} {st : State} {at p : Place} {t : Term} {all : Branches} {otherwise : Statements} {v : Value} {s : Valued}
        {b : Armed} {c : Code} → IsValue st.env nothing (suc st.node) t v → selector_rule v.given ≡ Ok s
        → AreArms a s.of [] (up_to_node st v.next) all b → IsNoBlock a b.state otherwise c p → IsNotStated a ends st (selects at t all otherwise) c p
    -- values without labels
    r_cover : {a : Around} {ends : ResultPlace} {st : State} {at p : Place} {t : Term} {all : Branches} {otherwise : Statements} {v : Value} {s : Valued}
        {b : Armed} {o : Blocked} {c : Code} → IsValue st.env nothing (suc st.node) t v → selector_rule v.given ≡ Ok s
        → AreArms a s.of [] (up_to_node st v.next) all b → IsBlock a b.state otherwise o
        → IsRefusal (covered st.env.facts at s.of b.labels otherwise) c p → IsNotStated a ends st (selects at t all otherwise) c p
    r_while : {a : Around} {ends : ResultPlace} {st : State} {at p : Place} {t : Term} {body : Statements} {c : Code}
        → IsNoValueAs st.env type.bool (suc st.node) t c p → IsNotStated a ends st (repeats at t body) c p
    r_while_body : {a : Around} {ends : ResultPlace} {st : State} {at p : Place} {t : Term} {body : Statements} {v : Value} {c : Code}
        → IsValueAs st.env type.bool (suc st.node) t v → IsNoBlock (looping a) (up_to_node st v.next) body c p
        → IsNotStated a ends st (repeats at t body) c p
    r_each : {a : Around} {ends : ResultPlace} {st : State} {at p : Place} {x : Name} {t : Term} {body : Statements} {c : Code}
        → IsNoValue st.env nothing (suc st.node) t c p → IsNotStated a ends st (counts at x (each t) body) c p
    -- it has no elements
    r_each_type : {a : Around} {ends : ResultPlace} {st : State} {at p : Place} {x : Name} {t : Term} {body : Statements} {v : Value} {c : Code}
        → IsValue st.env nothing (suc st.node) t v → IsRefusal (element_rule v.given) c p → IsNotStated a ends st (counts at x (each t) body) c p
    r_each_body : {a : Around} {ends : ResultPlace} {st : State} {at p : Place} {x : Name} {t : Term} {body : Statements} {v : Value} {ty : Ty} {c : Code}
        → IsValue st.env nothing (suc st.node) t v → element_rule v.given ≡ Ok ty → IsNoBlock (looping a) (for_state st v x ty) body c p
        → IsNotStated a ends st (counts at x (each t) body) c p
    r_range_first : {a : Around} {ends : ResultPlace} {st : State} {at p : Place} {x : Name} {course : Course} {t u : Term} {inclusive : Bool}
        {body : Statements} {c : Code} → IsRange course t u inclusive → IsNoValueAs st.env type.int (suc st.node) t c p
        → IsNotStated a ends st (counts at x course body) c p
    r_range_last : {a : Around} {ends : ResultPlace} {st : State} {at p : Place} {x : Name} {course : Course} {t u : Term} {inclusive : Bool}
        {body : Statements} {v : Value} {c : Code} → IsRange course t u inclusive → IsValueAs st.env type.int (suc st.node) t v
        → IsNoValueAs st.env type.int v.next u c p → IsNotStated a ends st (counts at x course body) c p
    r_range_body : {a : Around} {ends : ResultPlace} {st : State} {at p : Place} {x : Name} {course : Course} {t u : Term} {inclusive : Bool}
        {body : Statements} {v w : Value} {c : Code} → IsRange course t u inclusive → IsValueAs st.env type.int (suc st.node) t v
        → IsValueAs st.env type.int v.next u w → IsNoBlock (looping a) (for_state st w x type.int) body c p
        → IsNotStated a ends st (counts at x course body) c p
    -- in a block
    r_level : {a : Around} {ends : ResultPlace} {st : State} {at : Place} {h : Head} {body : Statements} → a.outermost ≡ false
        → IsNotStated a ends st (proclaims at h body) NotTyped at
    r_head : {a : Around} {ends : ResultPlace} {st : State} {at p : Place} {h : Head} {body : Statements} {c : Code} → a.outermost ≡ true
        → IsNoHead st at h (has_statements body) c p → IsNotStated a ends st (proclaims at h body) c p
    r_body : {a : Around} {ends : ResultPlace} {st : State} {at p : Place} {h : Head} {body : Statements} {k : Headed} {c : Code}
        → a.outermost ≡ true → IsHead st at h (has_statements body) k
        → AreNotStated (in_body (result_of (behind_head st at h k) h k)) (result_of (behind_head st at h k) h k)
        (before_body (behind_head st at h k) h k) body c p
        → IsNotStated a ends st (proclaims at h body) c p

  pub data AreNotStated : Around → (ends : ResultPlace) → State → Statements → Code → Place → Type 0 where
    r_statement : {a : Around} {ends : ResultPlace} {st : State} {first : Statement} {rest : Statements} {c : Code} {p : Place}
        → IsNotStated a (ends_with ends rest) st first c p → AreNotStated a ends st (then first rest) c p
    r_statements : {a : Around} {ends : ResultPlace} {st : State} {first : Statement} {rest : Statements} {one : Stated} {c : Code} {p : Place}
        → IsStated a (ends_with ends rest) st first one → AreNotStated a ends (noting a.outermost one) rest c p
        → AreNotStated a ends st (then first rest) c p

  pub data IsNoBlock : Around → State → Statements → Code → Place → Type 0 where
    r_block : {a : Around} {st : State} {body : Statements} {c : Code} {p : Place} → AreNotStated (deeper a) None (entered st) body c p
        → IsNoBlock a st body c p

  pub data AreNoBranches : Around → State → Branches → Code → Place → Type 0 where
    r_condition : {a : Around} {st : State} {at p : Place} {tests : Parts} {body : Statements} {rest : Branches} {c : Code}
        → IsNoCondition st.env st.node at tests c p → AreNoBranches a st (branch at tests body rest) c p
    r_branch : {a : Around} {st : State} {at p : Place} {tests : Parts} {body : Statements} {rest : Branches} {v : Value} {c : Code}
        → IsCondition st.env st.node at tests v → IsNoBlock a (up_to_node st v.next) body c p → AreNoBranches a st (branch at tests body rest) c p
    r_rest : {a : Around} {st : State} {at p : Place} {tests : Parts} {body : Statements} {rest : Branches} {v : Value} {b : Blocked} {c : Code}
        → IsCondition st.env st.node at tests v → IsBlock a (up_to_node st v.next) body b → AreNoBranches a b.state rest c p
        → AreNoBranches a st (branch at tests body rest) c p

  pub data AreNoArms : Around → Ty → (before : List Label) → State → Branches → Code → Place → Type 0 where
    r_labels : {a : Around} {ty : Ty} {before : List Label} {st : State} {at p : Place} {tests : Parts} {body : Statements} {rest : Branches} {c : Code}
        → IsRefusal (labels st.env ty before tests) c p → AreNoArms a ty before st (branch at tests body rest) c p
    r_arm : {a : Around} {ty : Ty} {before ls : List Label} {st : State} {at p : Place} {tests : Parts} {body : Statements} {rest : Branches} {c : Code}
        → labels st.env ty before tests ≡ Ok ls → IsNoBlock a st body c p → AreNoArms a ty before st (branch at tests body rest) c p
    r_rest_arms : {a : Around} {ty : Ty} {before ls : List Label} {st : State} {at p : Place} {tests : Parts} {body : Statements} {rest : Branches}
        {b : Blocked}
        {c : Code} → labels st.env ty before tests ≡ Ok ls → IsBlock a st body b → AreNoArms a ty (before ++ ls) b.state rest c p
        → AreNoArms a ty before st (branch at tests body rest) c p
