-- Sections of types as statements.
use Rattle.std.proofs.Common.{◌≡◌, List, [], ◌∷◌, ◌++◌, length, Some, refl, ap, ◌∙◌}
use Rattle.std.proofs.Common.{arith, length-append}
use Rattle.std.specs.Prelude.{Bool, true, false, Result, Ok, Err, OnOk}
use Rattle.arc_base.specs.declared.place.Stop.{Stop}
use Rattle.arc_base.specs.Refusal.{and_then, Answers}
use Rattle.arc_base.proofs.ForCallers.{stops}
use Rattle.nim_tree.specs.Types.{Declaration}
use Rattle.nim_types.specs.declared.types.TypeDef.{TypeDef}
use Rattle.nim_types.specs.Types.{Ty, Fact, Facts, same, if_same, fact_of}
use Rattle.nim_types.specs.Table.{facts_in}
use Rattle.expr_rules.specs.Answers.{Answer}
use Rattle.expr_rules.specs.Env.{Env}
use Rattle.expr_parts.specs.declared.scope.Decl.{Decl}
use Rattle.expr_parts.specs.declared.scope.Scope.{Scope}
use Rattle.expr_parts.specs.View.{Under, env_of}
use Rattle.expr_parts.specs.ViewReady.{IsReady}
use Rattle.decl_rules.specs.State.{State}
use Rattle.decl_rules.specs.Sections.{section_rule}
use Rattle.decl_parts.specs.declared.state.State.{State as RustState}
use Rattle.decl_parts.specs.View.{state_of, Ready, Stands, Stating}
use Rattle.decl_types.specs.ViewKnown.{Kept}

fact_front : (a b : Facts) (ty : Ty) (fact : Fact) → fact_of a ty ≡ Some fact → fact_of (a ++ b) ty ≡ Some fact
fact_front [] b ty fact h = cc
fact_front (d ∷ a) b ty fact h = by_first (same d.of ty) h (λ k. fact_front a b ty fact k)
  where
    by_first : (c : Bool) → if_same c d.fact (fact_of a ty) ≡ Some fact
        → (fact_of a ty ≡ Some fact → fact_of (a ++ b) ty ≡ Some fact) → if_same c d.fact (fact_of (a ++ b) ty) ≡ Some fact
    by_first true h go = h
    by_first false h go = go h

answers_state : (said : Answer Env) (env : Env) (st : State) (r : Result (Unit {0}) Stop) → Answers (λ (_ : Unit {0}). env) said r
    → Answers (λ (_ : Unit {0}). record st { env = env }) (and_then said (λ e. Ok (record st { env = e }))) r
answers_state said env st (Ok u) h = ap (λ z. and_then z (λ e. Ok (record st { env = e }))) h
answers_state said env st (Err s) h =
    stops (λ (_ : Unit {0}). record st { env = env }) (λ (_ : Unit {0}). env) said (λ e. Ok (record st { env = e })) s h

stands_behind : (old : RustState) (ds : List TypeDef) (scope : Scope) (r : Result (Unit {0}) Stop) → Ready old → OnOk r (IsReady ds scope)
    → OnOk r ((more : List Decl) × (scope.decls ≡ old.scope.decls ++ more)) → OnOk r (Stands old (record old { types = ds; scope = scope }))
stands_behind old ds scope (Err s) h ready begins = tt
stands_behind old ds scope (Ok u) h ready begins = record {
  ready = record {
    all = ready;
    outside = let l = ap length begins.1 in let o = h.outside in omega (arith, l, o, length-append old.scope.decls begins.0);
  };
  begins = begins;
  outside = refl;
}

pub section_stated : (old : RustState) (ds : List TypeDef) (scope : Scope) (all : List Declaration) (r : Result (Unit {0}) Stop) → Ready old
    → Kept old.types ds → OnOk r (IsReady ds scope) → OnOk r ((more : List Decl) × (scope.decls ≡ old.scope.decls ++ more))
    → ((ts : List Ty) (st : State) → Under ds ts (facts_in ds) → st.env ≡ env_of ts (facts_in old.types) old.scope → st.outside ≡ old.outside
    → Answers (λ (_ : Unit {0}). env_of ts (facts_in ds) scope) (section_rule st all) r)
    → Stating old (record old { types = ds; scope = scope }) (λ ts b _. state_of ts b (record old { types = ds; scope = scope }))
    (λ ts b. and_then (section_rule (state_of ts b old) all) (λ env. Ok (record (state_of ts b old) { env = env }))) r
section_stated old ds scope all r h kept ready begins answers = record {
  further = record {
    length = kept.length;
    over = λ ts u. kept.under ts (facts_in ds) u;
    said = λ ts ty fact u e.
        let m = kept.facts ts (facts_in ds) u in
        ap (λ fs. fact_of fs ty) m.1 ∙ fact_front (facts_in old.types) m.0 ty fact e;
  };
  stands = stands_behind old ds scope r h ready begins;
  answers = λ ts b u.
      answers_state (section_rule (state_of ts b old) all) (env_of ts (facts_in ds) scope) (state_of ts b old) r (answers ts (state_of ts b old) u refl refl);
}
