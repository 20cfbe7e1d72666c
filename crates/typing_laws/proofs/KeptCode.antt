-- The code of modules keeps what is kept from statement to statement.
use Rattle.std.proofs.Common.{◌≡◌, ℕ, suc, true, false, List, [], ◌∷◌, ◌++◌, length, Option, refl, sym, ap, subst, ◌∙◌, arith, append-nil}
use Rattle.std.specs.Prelude.{not, map}
use Rattle.arc_base.specs.declared.place.Place.{Place}
use Rattle.nim_tree.specs.declared.name.Declared.{Declared as TreeName}
use Rattle.nim_tree.specs.declared.stmt.Binding.{Binding}
use Rattle.nim_tree.specs.Terms.{Term}
use Rattle.nim_tree.specs.Statements as tree
use Rattle.nim_tree.specs.Statements.{Definition, Statement, Statements}
use Rattle.nim_types.specs.Types.{Ty}
use Rattle.nim_program.specs.Program.{Args}
use Rattle.nim_program.specs.Scopes.{placed}
use Rattle.expr_rules.specs.Env.{Env}
use Rattle.decl_rules.specs.State.{ResultPlace, Around, in_module, Item, code, State, Stated, block_of, noting}
use Rattle.decl_rules.specs.Definitions.{place_for, variable_as, with_variable}
use Rattle.decl_rules.specs.Places.{is_procedure, PlacesNumbered, ProcedureNumbered}
use Rattle.decl_rules.specs.Elaborated.{Module, module_begins, nothing_known}
use Rattle.decl_rules.specs.Rules as R
use Rattle.decl_rules.specs.Rules.{IsVariable, AreVariables, IsDefinition, AreDefinitions, IsStated, AreStated}
use Rattle.decl_rules.specs.ProgramRules as M
use Rattle.decl_rules.specs.ProgramRules.{AreModules}
use Rattle.typing_laws.proofs.Tests.{ever}
use Rattle.typing_laws.proofs.Growing.{Under, under_one}
use Rattle.typing_laws.proofs.Further.{no_further}
use Rattle.typing_laws.proofs.Grows.{stated_grows}
use Rattle.typing_laws.proofs.Bodies.{declares_places, Sort, definitions, a_procedure, other, sort}
use Rattle.typing_laws.proofs.Noted.{Noted, stated_same}
use Rattle.typing_laws.proofs.Text.{counted, behind, behind_both, counted_both, each_both, each_so}
use Rattle.typing_laws.proofs.Served.{EntriesServed, served_more, stated_served}
use Rattle.typing_laws.proofs.Lists.{length_last, placed_both}
use Rattle.typing_laws.proofs.Kept.{HasBody, Reading, Kept, Later, later_then, later_same, body_with_global, same_reading}
use Rattle.typing_laws.proofs.KeptProcedures.{run_below, procedure_kept}

-- ---- definitions of globals

-- behind definitions whose globals aren't noted yet
pub record Read (st : State) (x : Stated) : Type 0 where
  pub reading : Reading x.state
  pub later : Later st x.state
  pub text : x.state.text ≡ st.text
  pub procs : x.state.procs ≡ st.procs
  pub globals : counted (length st.globals) (block_of x.steps) ≡ length x.state.globals

variable_read : (at : Place) (b : Binding) (ty : Ty) (value : Args) (n : ℕ) (st : State) (d : TreeName) → Reading st
    → EntriesServed st.procs (with_variable st in_module b d ty n).env.entries → Read st (variable_as in_module at b ty value n st d)
variable_read at b ty value n st d r served =
    record {
      reading = record {
        served = served;
        bodies = each_so (HasBody st.procs st.globals st.place) (HasBody st.procs (st.globals ++ place_for st d ty ∷ []) (suc st.place)) 0 st.text
            (body_with_global st.procs st.globals st.place (suc st.place) (omega arith) (place_for st d ty) refl) r.bodies;
        under = subst (Under (suc st.place)) (sym (placed_both st.globals (place_for st d ty ∷ [])))
            (under_one st.place (map placed st.globals) (placed (place_for st d ty)) r.under refl);
      };
      later = record {
        globals = record { more = place_for st d ty ∷ []; is = refl; later = (omega arith, tt) };
        text = record { more = []; is = sym (append-nil st.text) };
        serving = λ p s. s;
        place = omega arith;
        facts = no_further st.env.facts;
      };
      text = refl;
      procs = refl;
      globals = sym (length_last st.globals (place_for st d ty));
    }

nothing_read : (st : State) → Reading st → Read st (record { steps = []; state = st })
nothing_read st r = record { reading = r; later = later_same st st refl (omega arith) (no_further st.env.facts); text = refl; procs = refl; globals = refl }

both_read : (st : State) (one more : Stated) → Read st one → Read one.state more → Read st (record { steps = one.steps ++ more.steps; state = more.state })
both_read st one more h k =
    record {
      reading = k.reading;
      later = later_then h.later k.later;
      text = k.text ∙ h.text;
      procs = k.procs ∙ h.procs;
      globals = counted_both (length st.globals) one.steps more.steps ∙ ap (λ n. counted n (block_of more.steps)) h.globals ∙ k.globals;
    }

pub one_read : {at : Place} {b : Binding} {env : Env} {ty : Option Ty} {t : Option Term} {st : State} {d : TreeName} {x : Stated}
    → IsVariable in_module at b env ty t st d x → Reading st → Read st x
one_read {at} {b} (R.d_initialised {st = st} {d = d} {v = v} h) r =
    variable_read at b v.given.of _ v.next st d r (served_more st.procs st.env.entries _ r.served (tt, tt))
one_read {at} {b} (R.d_defaulted {ty = ty} {st = st} {d = d}) r =
    variable_read at b ty _ (suc st.node) st d r (served_more st.procs st.env.entries _ r.served (tt, tt))

pub variables_read : {at : Place} {b : Binding} {env : Env} {ty : Option Ty} {t : Option Term} {st : State} {ds : List TreeName} {x : Stated}
    → AreVariables in_module at b env ty t st ds x → Reading st → Read st x
variables_read {st = st} R.d_no_names r = nothing_read st r
variables_read {st = st} (R.d_names {one = one} {more = more} h k) r =
    let q = one_read h r in both_read st one more q (variables_read k q.reading)

pub definitions_read : {at : Place} {b : Binding} {st : State} {all : List Definition} {x : Stated} → AreDefinitions in_module at b st all x → Reading st
    → Read st x
definitions_read {st = st} R.d_no_definitions r = nothing_read st r
definitions_read {st = st} (R.d_definitions {one = one} {more = more} (R.d_variables n w h) k) r =
    let q = variables_read h r in both_read st one more q (definitions_read k q.reading)

-- ---- statements

pub record KeptBehind (st x : State) : Type 0 where
  pub kept : Kept x
  pub later : Later st x

pub noting_later : (x : Stated) → Later x.state (noting true x)
noting_later x =
    record {
      globals = record { more = []; is = sym (append-nil x.state.globals); later = tt };
      text = record { more = code (block_of x.steps) ∷ []; is = refl };
      serving = λ p s. s;
      place = omega arith;
      facts = no_further x.state.env.facts;
    }

-- the text behind a statement
note : (st : State) (x : Stated) → behind 0 st.text ≡ length st.globals → Read st x → KeptBehind st (noting true x)
note st x e r =
    record {
      kept = record {
        reading = record {
          served = r.reading.served;
          bodies = each_both (HasBody x.state.procs x.state.globals x.state.place) 0 x.state.text (code (block_of x.steps) ∷ []) r.reading.bodies tt;
          under = r.reading.under;
        };
        globals = behind_both 0 x.state.text (code (block_of x.steps) ∷ [])
            ∙ ap (λ (t : List Item). counted (behind 0 t) (block_of x.steps)) r.text ∙ ap (λ n. counted n (block_of x.steps)) e ∙ r.globals;
      };
      later = later_then r.later (noting_later x);
    }

-- the text behind a procedure, which does nothing
note_nothing : (st x : State) → Kept x → Later st x → KeptBehind st (noting true (record { steps = []; state = x }))
note_nothing st x kept later =
    let r = note x (record { steps = []; state = x }) kept.globals (nothing_read x kept.reading) in
    record { kept = r.kept; later = later_then later r.later }

none_declared : {a : Around} {ends : ResultPlace} {st : State} {s : Statement} {x : Stated} → IsStated a ends st s x → declares_places s ≡ false → (k : ℕ)
    → counted k (block_of x.steps) ≡ k
none_declared (R.s_variables i h) o k = ever (sym (ap not i) ∙ o)
none_declared h o k = refl

pub no_procedure : (s : Statement) → declares_places s ≡ false → is_procedure s ≡ false
no_procedure (tree.proclaims at h body) o = ever o
no_procedure s o = refl

module _ (statements : PlacesNumbered) (procedures : ProcedureNumbered) where
  pub other_read : {ends : ResultPlace} {st : State} {s : Statement} {x : Stated} → IsStated in_module ends st s x → declares_places s ≡ false → Reading st
      → Read st x
  other_read {ends} {st} {s} {x} h o r =
      let same = stated_same h o in
      let l = run_below (statements in_module ends st s x h (no_procedure s o)) in
      record {
        reading = same_reading st x.state same l (stated_served st.procs h o r.served) r;
        later = later_same st x.state same l (stated_grows h);
        text = ap (λ (n : Noted). n.text) same;
        procs = ap (λ (n : Noted). n.procs) same;
        globals = none_declared h o (length st.globals) ∙ sym (ap (λ (n : Noted). length n.globals) same);
      }

  by_sort : {st : State} {s : Statement} {x : Stated} → Sort in_module st s x → (declares_places s ≡ false → Reading st → Read st x) → Kept st
      → KeptBehind st (noting true x)
  by_sort {st} {x = x} (definitions i h) go kept = note st x kept.globals (definitions_read h kept.reading)
  by_sort {st} (a_procedure {body = body} p h k) go kept = let r = procedure_kept procedures body h k kept in note_nothing st _ r.0 r.1
  by_sort {st} {x = x} (other d) go kept = note st x kept.globals (go d kept.reading)

  pub statement_kept : {ends : ResultPlace} {st : State} {s : Statement} {x : Stated} → IsStated in_module ends st s x → Kept st
      → KeptBehind st (noting true x)
  statement_kept h kept = by_sort (sort h) (other_read h) kept

  pub code_kept : {ends : ResultPlace} {st : State} {all : Statements} {x : Stated} → AreStated in_module ends st all x → Kept st → KeptBehind st x.state
  code_kept {st = st} R.s_none kept = record { kept = kept; later = later_same st st refl (omega arith) (no_further st.env.facts) }
  code_kept (R.s_more h k) kept =
      let r = statement_kept h kept in
      let q = code_kept k r.kept in
      record { kept = q.kept; later = later_then r.later q.later }

  -- ---- modules

  pub module_kept : (st : State) (number : ℕ) → Kept st → KeptBehind st (module_begins st number)
  module_kept st number kept =
      record {
        kept = record {
          reading = record { served = (tt, (tt, (tt, (tt, (tt, (tt, (tt, tt))))))); bodies = kept.reading.bodies; under = kept.reading.under };
          globals = kept.globals;
        };
        later = later_same st (module_begins st number) refl (omega arith) (no_further st.env.facts);
      }

  pub modules_kept : {st : State} {all : List Module} {x : Stated} → AreModules st all x → Kept st → KeptBehind st x.state
  modules_kept {st} M.p_none kept = record { kept = kept; later = later_same st st refl (omega arith) (no_further st.env.facts) }
  modules_kept {st} (M.p_more {m = m} h k) kept =
      let b = module_kept st m.number kept in
      let r = code_kept h b.kept in
      let q = modules_kept k r.kept in
      record { kept = q.kept; later = later_then b.later (later_then r.later q.later) }

-- before all modules
pub nothing_kept : Kept nothing_known
nothing_kept = record { reading = record { served = tt; bodies = tt; under = tt }; globals = refl }
