-- The body of a procedure is typed, with its parameters and its result in scope.
use Rattle.std.proofs.Common.{◌≡◌, ℕ, suc, ◌+◌, true, List, [], ◌∷◌, ◌++◌, length, Some, None, refl, sym, ap, subst, ◌∙◌}
use Rattle.std.proofs.Common.{append_assoc, append-nil, arith}
use Rattle.indent_scanner.specs.Words.{normal}
use Rattle.nim_tree.specs.Statements.{Head, Statements}
use Rattle.nim_types.specs.Types.{Facts}
use Rattle.nim_program.specs.Program.{Empty, Declared}
use Rattle.nim_program.specs.Scopes.{Here, placed, with_place}
use Rattle.nim_program.specs.Typed as T
use Rattle.nim_program.specs.Folds.{if_declared}
use Rattle.nim_program.specs.Typed.{with_places, param_declared, is_typed_block}
use Rattle.expr_rules.specs.Env.{Env, Entry}
use Rattle.expr_rules.specs.Laws.{CallsComputed, NodesComputed, EnoughComputed}
use Rattle.decl_rules.specs.State.{ResultPlace, in_body, State, entered, left, block_of, Stated}
use Rattle.decl_rules.specs.Heads.{Given, is_written, parameter_entry, parameter_entries, with_parameters, Headed}
use Rattle.decl_rules.specs.Bodies.{params_from, with_result, before_body, result_of}
use Rattle.decl_rules.specs.Values.{type_given}
use Rattle.decl_rules.specs.Rules.{AreStated}
use Rattle.typing_laws.specs.Sound.{Sound}
use Rattle.typing_laws.specs.Knows.{IfSound, KnowsWell}
use Rattle.typing_laws.specs.Trees.{StatementsRead}
use Rattle.typing_laws.proofs.Tests.{ok_one}
use Rattle.typing_laws.proofs.Constants.{Closed, ClosedOne}
use Rattle.typing_laws.proofs.Induction.{Preserved}
use Rattle.typing_laws.proofs.Growing.{Under, under_one}
use Rattle.typing_laws.proofs.Further.{AllSaid, said_by}
use Rattle.typing_laws.proofs.Grows.{all_grow}
use Rattle.typing_laws.proofs.Steps.{Grown, as_before, with_one, grown_then, onto_none, InEnd, At, behind_block}
use Rattle.typing_laws.proofs.Statements.{Fits, with_entry}
use Rattle.typing_laws.proofs.Bodies.{SectionsKept, all_right}

-- types of parameters, in the program and under the declarations
abbrev pub ParametersSound : (facts own : Facts) → List Given → Type 0
ParametersSound facts own [] = Unit {0}
ParametersSound facts own (g ∷ rest) = (Sound facts g.of × Sound own g.of) × ParametersSound facts own rest

-- what is known with entries behind those of an env
abbrev pub and_entries : Env → List Entry → Env
and_entries env more = record env { entries = env.entries ++ more }

pub places_facts : (here : Here) (ds : List Declared) → (with_places here ds).facts ≡ here.facts
places_facts here [] = refl
places_facts here (d ∷ ds) = places_facts (with_place here d) ds

pub places_both : (here : Here) (xs ys : List Declared) → with_places here (xs ++ ys) ≡ with_places (with_places here xs) ys
places_both here [] ys = refl
places_both here (d ∷ xs) ys = places_both (with_place here d) xs ys

pub places_grown : (here : Here) (ds : List Declared) → Grown here (with_places here ds)
places_grown here [] = as_before
places_grown here (d ∷ ds) = with_one d (places_grown (with_place here d) ds)

-- what is known where further places begin
pub record Begun (here : Here) (places : List Declared) (env : Env) (next : ℕ) : Type 0 where
  pub knows : KnowsWell (with_places here places) env
  pub under : Under next (with_places here places).places

-- the places of parameters
abbrev pub given_places : ℕ → List Given → List Declared
given_places place all = param_declared (params_from place all)

pub parameters_begin : (here : Here) (env : Env) (place : ℕ) (all : List Given) → KnowsWell here env → Under place here.places
    → ParametersSound here.facts env.facts all
    → Begun here (given_places place all) (and_entries env (parameter_entries place all)) (place + length all)
parameters_begin here env place [] knows under s =
    record {
      knows = subst (λ es. KnowsWell here (record env { entries = es })) (sym (append-nil env.entries)) knows;
      under = subst (λ n. Under n here.places) (no_more place) under;
    }
  where
    no_more : (n : ℕ) → n ≡ n + 0
    no_more n = omega arith
parameters_begin here env place (g ∷ rest) knows under s =
    let d : Declared = record { number = place; name = g.name.text; at = g.name.at; of = g.of } in
    let one = with_entry here env d (normal g.name.text) (is_written g.mode) knows under s.0.0 s.0.1 in
    let r = parameters_begin (with_place here d) (and_entries env (parameter_entry place g ∷ [])) (suc place) rest one
    (under_one place here.places (placed d) under refl) s.1 in
    record {
      knows = subst (λ es. KnowsWell (with_places here (given_places place (g ∷ rest))) (record env { entries = es }))
          (append_assoc env.entries (parameter_entry place g ∷ []) (parameter_entries (suc place) rest)) r.knows;
      under = subst (λ n. Under n (with_places here (given_places place (g ∷ rest))).places) (further place (length rest)) r.under;
    }
  where
    further : (n m : ℕ) → suc n + m ≡ n + suc m
    further n m = omega arith

-- the result behind them
result_begins : (here : Here) (st : State) (d : ResultPlace) → At here st → ((place : Declared) → d ≡ Some place → place.number ≡ st.place)
    → IfSound here.facts (type_given d) → IfSound st.env.facts (type_given d) → Begun here (if_declared d) (with_result st d).env (with_result st d).place
result_begins here st None at n s own =
    record {
      knows = subst (λ es. KnowsWell here (record st.env { entries = es })) (sym (append-nil st.env.entries)) at.knows;
      under = subst (λ n. Under n here.places) (no_more st.place) at.under;
    }
  where
    no_more : (n : ℕ) → n ≡ n + 0
    no_more n = omega arith
result_begins here st (Some d) at n s own =
    let e = n d refl in
    record {
      knows = with_entry here st.env d _ true at.knows (subst (λ n. Under n here.places) (sym e) at.under) s own;
      under = subst (λ n. Under n (with_place here d).places) (one_more st.place) (under_one st.place here.places (placed d) at.under e);
    }
  where
    one_more : (n : ℕ) → suc n ≡ n + 1
    one_more n = omega arith

-- those of a procedure: its parameters and its result
abbrev pub own_places : State → Head → Headed → List Declared
own_places st h k = given_places st.place k.signature.params ++ if_declared (result_of st h k)

-- what stands around a body
around_body : (facts : Facts) (gives : ResultPlace) → IfSound facts (type_given gives) → Fits facts (in_body gives) gives (T.procedure (type_given gives))
around_body facts gives s =
    record {
      loops = λ e. e;
      returns = λ at other e. (refl, ap type_given (ok_one e), subst (λ g. IfSound facts (type_given g)) (ok_one e) s);
      at_end = λ place e. ap type_given e;
      sound = s;
    }

-- where a body begins, behind its parameters and its result
pub body_begins : (here : Here) (st : State) (h : Head) (k : Headed) → At here st → ParametersSound here.facts st.env.facts k.signature.params
    → IfSound here.facts (type_given (result_of st h k)) → IfSound st.env.facts (type_given (result_of st h k))
    → ((place : Declared) → result_of st h k ≡ Some place → place.number ≡ st.place + length k.signature.params)
    → At (with_places (with_places here (given_places st.place k.signature.params)) (if_declared (result_of st h k))) (before_body st h k)
body_begins here st h k at params sound own_sound number =
    let result = result_of st h k in
    let taken = given_places st.place k.signature.params in
    let p = parameters_begin here st.env st.place k.signature.params at.knows at.under params in
    let given : State = with_parameters (entered st) k.signature.params in
    let r = result_begins (with_places here taken) given result (record { knows = p.knows; under = p.under }) number
    (subst (λ f. IfSound f (type_given result)) (sym (places_facts here taken)) sound) own_sound in
    record { knows = r.knows; under = r.under }

module _ (calls : CallsComputed) (nodes : NodesComputed) (covers : EnoughComputed) (preserved : Preserved) (closed : Closed) (closed_one : ClosedOne)
    (sections : SectionsKept) where
  -- `here` is where the procedure stands, and its places come behind those there
  pub body_right : (here : Here) (st : State) (h : Head) (k : Headed) (body : Statements) (s : Stated) → At here st
      → ParametersSound here.facts st.env.facts k.signature.params → IfSound here.facts (type_given (result_of st h k))
      → IfSound st.env.facts (type_given (result_of st h k))
      → ((place : Declared) → result_of st h k ≡ Some place → place.number ≡ st.place + length k.signature.params) → StatementsRead body
      → AreStated (in_body (result_of st h k)) (result_of st h k) (before_body st h k) body s → InEnd here s.state
      → (is_typed_block (with_places here (own_places st h k)) (T.procedure (type_given (result_of st h k))) (block_of s.steps) ≡ true)
      × At here (left st s.state)
  body_right here st h k body s at params sound own_sound number read is end =
      let result = result_of st h k in
      let taken = given_places st.place k.signature.params in
      let behind = with_places here taken in
      let inside = with_places behind (if_declared result) in
      let facts : inside.facts ≡ here.facts = places_facts behind (if_declared result) ∙ places_facts here taken in
      let x = all_right calls nodes covers preserved closed closed_one sections is refl read inside (T.procedure (type_given result))
      (around_body inside.facts result (subst (λ f. IfSound f (type_given result)) (sym facts) sound))
      (body_begins here st h k at params sound own_sound number) (subst (AllSaid s.state.env.facts) (sym facts) end) in
      let same = places_both here taken (if_declared result) in (
        subst (λ i. is_typed_block i (T.procedure (type_given result)) (block_of s.steps) ≡ true) (sym same)
            (subst (λ b. is_typed_block inside (T.procedure (type_given result)) b ≡ true) (sym (onto_none s.steps)) (x.typed Empty refl)),
        behind_block closed closed_one here x.after st s.state at
            (grown_then (places_grown here taken) (grown_then (places_grown behind (if_declared result)) x.grown)) x.at.knows (said_by (all_grow is))
            (omega (arith, x.later)),
      )
