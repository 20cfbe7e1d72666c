-- The whole section, by the answers to its parts.
use Rattle.std.proofs.Common.{ℕ, ◌≡◌, List, [], length, sym, ap, ap₂, append-nil, ◌∙◌}
use Rattle.std.specs.Prelude.{Ok, Err, Result}
use Rattle.arc_base.specs.declared.place.Stop.{Stop}
use Rattle.arc_base.specs.declared.place.Stop.TheVariants as stop
use Rattle.arc_base.specs.Refusal.{and_then, Answers}
use Rattle.arc_base.proofs.ForCallers.{answers_as, stops}
use Rattle.nim_tree.specs.Types.{Declaration}
use Rattle.nim_types.specs.declared.types.TypeDef.{TypeDef}
use Rattle.nim_types.specs.Types.{Ty}
use Rattle.nim_types.specs.Table.{facts_in}
use Rattle.expr_rules.specs.Answers.{Answer}
use Rattle.expr_rules.specs.Env.{Env}
use Rattle.expr_parts.specs.declared.scope.Decl.{Decl}
use Rattle.expr_parts.specs.declared.scope.Scope.{Scope}
use Rattle.expr_parts.specs.View.{env_of}
use Rattle.decl_rules.specs.State.{State}
use Rattle.decl_rules.specs.Meanings.{keys_of, known_of, or_name}
use Rattle.decl_rules.specs.Sections.{Section, none_read, declarations_rule, containment_rule, sizes_rule, all_sized, known_env, section_rule}
use Rattle.decl_types.specs.ViewKnown.{Untouched, meaning_by}
use Rattle.decl_types.specs.ViewReading.{all_defined}
use Rattle.decl_sections.specs.declared.starting.Frame.{Frame}
use Rattle.decl_sections.specs.declared.starting.Reading.{Reading}
use Rattle.decl_sections.specs.ViewSections.{Leads}
use Rattle.decl_sections.specs.ViewWalk.{Framed, StageOf}
use Rattle.decl_types.specs.ViewScoped.{Whole}
use Rattle.decl_types.proofs.ForCallers.{env_is, keys_count}
use Rattle.decl_sections.proofs.Staging.{scoped_grown}

-- a part that stops, stops the whole
pub leads_answers : {A B : Type 0} (T R : Type 0) (P : A → Type 0) (of : R → B) (said : Answer A) (go : A → Answer B) (s : Stop)
    → Leads {T = T} P said (Err s)
    → Answers of (and_then said go) (Err s)
leads_answers T R P of said go (stop.Refused code at) h = ap (λ z. and_then z go) h
leads_answers T R P of said go stop.Memory h = tt

abbrev sized_behind : State → List Declaration → Section → Unit {0} → Answer Env
sized_behind st all s _ = and_then (all_sized st all s) (λ _. Ok (known_env st all s))

abbrev pub contained_behind : State → List Declaration → Section → Answer Env
contained_behind st all s = and_then (containment_rule s.defined s.defined) (sized_behind st all s)

pub whole_is : (ts : List Ty) (st : State) (all : List Declaration) (old : List Decl) (n : ℕ) (frame : Frame) (ds : List TypeDef) (scope : Scope)
    (reading : Reading) (s : Section) → Framed ts st all old n frame → StageOf ts st all old n ds scope reading s
    → length reading.read.items ≡ length all → Whole ts n (length all) (keys_of all) reading.read.items
whole_is ts st all old n frame ds scope reading s f g count = record {
  reads = g.reads;
  count = count ∙ sym (keys_count all);
  away = f.fixed.away;
  differ = f.fixed.differ;
  none = f.fixed.none;
}

-- names that are known don't occur in the types of before
pub section_untouched : (ts : List Ty) (st : State) (all : List Declaration) (old : List Decl) (n : ℕ) (frame : Frame) (ds : List TypeDef) (scope : Scope)
    (reading : Reading) (s : Section) → Framed ts st all old n frame → StageOf ts st all old n ds scope reading s
    → Untouched ts n (meaning_by (known_of (keys_of all) s.defined))
section_untouched ts st all old n frame ds scope reading s f g =
    f.fixed.away.untouched (meaning_by (known_of (keys_of all) s.defined)) (λ key out. ap (or_name key) (g.scoped.knows.only key out))

-- a type that contains itself
pub section_contained : {T : Type 0} (ts : List Ty) (st : State) (all : List Declaration) (old : List Decl) (n : ℕ) (frame : Frame) (ds : List TypeDef)
    (scope : Scope)
    (reading : Reading) (s : Section) (of : T → Env) (stop : Stop) → declarations_rule st all none_read all ≡ Ok s
    → StageOf ts st all old n ds scope reading s
    → Answers {T = Unit {0}} (λ _. tt) (containment_rule (all_defined ts (keys_of all) reading.read.items) (all_defined ts (keys_of all) reading.read.items))
    (Err stop)
    → Answers of (section_rule st all) (Err stop)
section_contained ts st all old n frame ds scope reading s of stop e g h =
    answers_as of (section_rule st all) (contained_behind st all s) (Err stop) (ap (λ z. and_then z (contained_behind st all)) e)
    (stops of (λ (_ : Unit {0}). tt) (containment_rule s.defined s.defined) (sized_behind st all s) stop
    (answers_as (λ (_ : Unit {0}). tt) (containment_rule s.defined s.defined)
    (containment_rule (all_defined ts (keys_of all) reading.read.items) (all_defined ts (keys_of all) reading.read.items)) (Err stop)
    (ap (λ ds. containment_rule ds ds) g.defined) h))

answers_env : (said : Answer (Unit {0})) (env : Env) (r : Result (Unit {0}) Stop) → Answers (λ _. tt) said r
    → Answers (λ (_ : Unit {0}). env) (and_then said (λ _. Ok env)) r
answers_env said env (Ok u) h = ap (λ z. and_then z (λ _. Ok env)) h
answers_env said env (Err s) h = stops (λ (_ : Unit {0}). env) (λ (_ : Unit {0}). tt) said (λ _. Ok env) s h

-- a type that is too large, or what is declared behind the section
pub section_sized : (ts : List Ty) (st : State) (all : List Declaration) (old : List Decl) (n : ℕ) (frame : Frame) (ds es : List TypeDef) (scope : Scope)
    (reading : Reading) (s : Section) (r : Result (Unit {0}) Stop) → declarations_rule st all none_read all ≡ Ok s → Framed ts st all old n frame
    → StageOf ts st all old n ds scope reading s → facts_in es ≡ facts_in ds
    → containment_rule (all_defined ts (keys_of all) reading.read.items) (all_defined ts (keys_of all) reading.read.items) ≡ Ok tt
    → Answers (λ _. tt) (sizes_rule (facts_in es) (known_of (keys_of all) s.defined) (all_defined ts (keys_of all) reading.read.items)) r
    → Answers (λ (_ : Unit {0}). env_of ts (facts_in es) scope) (section_rule st all) r
section_sized ts st all old n frame ds es scope reading s r e f g grown contained h =
    let k = known_of (keys_of all) s.defined in
    let here = scoped_grown ts st all old reading.known.items k s.members ds es scope grown g.scoped in
    let is = env_is ts st all old frame.names n reading.known.items k s es scope f.fixed here in
    let sized : all_sized st all s ≡ sizes_rule (facts_in es) k (all_defined ts (keys_of all) reading.read.items) =
    ap₂ (λ fs ds. sizes_rule fs k ds) (sym here.facts) g.defined in
    let rule : section_rule st all
    ≡ and_then (sizes_rule (facts_in es) k (all_defined ts (keys_of all) reading.read.items)) (λ _. Ok (env_of ts (facts_in es) scope)) =
    ap (λ z. and_then z (contained_behind st all)) e
    ∙ ap (λ z. and_then z (sized_behind st all s)) (ap (λ ds. containment_rule ds ds) g.defined ∙ contained)
    ∙ ap₂ (λ (z : Answer (Unit {0})) (env : Env). and_then z (λ _. Ok env)) sized (sym is) in
    answers_as (λ (_ : Unit {0}). env_of ts (facts_in es) scope) (section_rule st all)
    (and_then (sizes_rule (facts_in es) k (all_defined ts (keys_of all) reading.read.items)) (λ _. Ok (env_of ts (facts_in es) scope))) r rule
    (answers_env (sizes_rule (facts_in es) k (all_defined ts (keys_of all) reading.read.items)) (env_of ts (facts_in es) scope) r h)

-- ---- a section without definitions

pub nothing_declared : (st : State) (env : Env) → st.env ≡ env → section_rule st [] ≡ Ok env
nothing_declared st env e =
    ap₂ (λ entries facts. Ok (record st.env { entries = entries; facts = facts })) (append-nil st.env.entries) (append-nil st.env.facts) ∙ ap Ok e
