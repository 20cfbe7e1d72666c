-- All that is said of types in the end is sound.
use Rattle.std.proofs.Common.{◌≡◌, ℕ, ◌+◌, Bool, true, false, List, [], length, Option, refl, sym, ap, subst, ◌∙◌}
use Rattle.std.specs.Prelude.{pos, if◌then◌else◌, Ok}
use Rattle.arc_base.specs.declared.place.Place.{Place}
use Rattle.nim_tree.specs.declared.name.Declared.{Declared as TreeName}
use Rattle.nim_tree.specs.declared.stmt.Binding.{Binding}
use Rattle.nim_tree.specs.Terms.{Term}
use Rattle.nim_tree.specs.Statements as tree
use Rattle.nim_tree.specs.Statements.{Definition, Head, Statement, Statements}
use Rattle.nim_types.specs.Types as type
use Rattle.nim_types.specs.Types.{Ty, Tys, Fact, Facts, fact_of}
use Rattle.nim_types.specs.Forms as form
use Rattle.nim_types.specs.Forms.{Form, Forms, HasForm, AreForms}
use Rattle.nim_program.specs.Program.{Number}
use Rattle.nim_program.specs.Folds.{if_declared}
use Rattle.nim_program.specs.Kinds as kind
use Rattle.nim_program.specs.Kinds.{is_value, is_constant}
use Rattle.nim_program.specs.Scopes.{Here}
use Rattle.nim_program.specs.Typed.{with_places}
use Rattle.expr_rules.specs.Env.{Env, outermost}
use Rattle.expr_rules.specs.Laws.{CallsComputed}
use Rattle.decl_rules.specs.State.{ResultPlace, in_module, in_body, State, Stated}
use Rattle.decl_rules.specs.Heads.{Headed}
use Rattle.decl_rules.specs.Bodies.{result_of, behind_head, before_body, with_body, behind_body}
use Rattle.decl_rules.specs.Stated.{has_statements}
use Rattle.decl_rules.specs.Whole.{text_rule}
use Rattle.decl_rules.specs.Parts.{KnownFound}
use Rattle.decl_rules.specs.Places.{PlacesNumbered, ProcedureNumbered}
use Rattle.decl_rules.specs.Elaborated.{Module, nothing_known, module_begins}
use Rattle.decl_rules.specs.Rules as R
use Rattle.decl_rules.specs.Rules.{IsVariable, AreVariables, AreDefinitions, IsHead, IsStated, AreStated}
use Rattle.decl_rules.specs.ProgramRules as M
use Rattle.decl_rules.specs.ProgramRules.{AreModules}
use Rattle.typing_laws.specs.Sound.{Sound, AllSound, no_more, and_more, AreSound, of_int, of_bool, of_char, of_text, of_sequence, of_array, of_tuple}
use Rattle.typing_laws.specs.Sound.{of_enum, of_object, of_distinct}
use Rattle.typing_laws.specs.Knows.{EntriesFit, Knows, with_facts}
use Rattle.typing_laws.specs.Trees.{StatementRead, StatementsRead, ModulesRead}
use Rattle.typing_laws.proofs.Tests.{none_some}
use Rattle.typing_laws.proofs.SoundKinds.{plain_as}
use Rattle.typing_laws.proofs.Constants.{Closed, ClosedOne}
use Rattle.typing_laws.proofs.Induction.{Preserved}
use Rattle.typing_laws.proofs.Further.{AllSaid, Further, no_further, said_by, before_end}
use Rattle.typing_laws.proofs.Grows.{all_grow}
use Rattle.typing_laws.proofs.Steps.{At}
use Rattle.typing_laws.proofs.Bodies.{Sort, definitions, a_procedure, other, sort}
use Rattle.typing_laws.proofs.Noted.{Noted, Same, stated_same, all_same}
use Rattle.typing_laws.proofs.Procedures.{given_places}
use Rattle.typing_laws.proofs.HeadTypes.{same_said, procedure_begins}
use Rattle.typing_laws.proofs.Kept.{Kept, Later, later_then}
use Rattle.typing_laws.proofs.KeptProcedures.{run_below, head_kept, body_kept, no_body_kept}
use Rattle.typing_laws.proofs.KeptCode.{noting_later, statement_kept, code_kept, module_kept, modules_kept}
use Rattle.typing_laws.proofs.Standing.{standing}
use Rattle.typing_laws.proofs.Globals.{definitions_code}
use Rattle.typing_laws.proofs.HeadKnown.{same_globals, at_head}
use Rattle.typing_laws.proofs.OwnKept.{OwnAt, own_of, behind_own, stated_own, all_own}

-- ---- before all modules

mutual
  form_of_none : {t : Ty} → Sound [] t → (f : Form) × HasForm [] t f
  form_of_none of_int = (form.plain, form.of_int)
  form_of_none of_bool = (form.plain, form.of_bool)
  form_of_none of_char = (form.plain, form.of_char)
  form_of_none of_text = (form.block, form.of_text)
  form_of_none (of_sequence s) = let f = form_of_none s in (form.elements f.0, form.of_sequence refl f.1)
  form_of_none (of_array {n = n} l s) = let f = form_of_none s in (form.row n f.0, form.of_array f.1)
  form_of_none (of_tuple s) = let fs = forms_of_none s in (form.parts fs.0, form.of_tuple fs.1)
  form_of_none (of_enum e) = none_some e
  form_of_none (of_object e) = none_some e
  form_of_none (of_distinct e) = none_some e

  forms_of_none : {ts : Tys} → AllSound [] ts → (fs : Forms) × AreForms true [] ts fs
  forms_of_none no_more = (form.no_forms, form.none_of)
  forms_of_none (and_more s more) = let f = form_of_none s in let fs = forms_of_none more in (form.forms f.0 fs.0, form.more_of f.1 fs.1)

pub nothing_sound : AreSound []
nothing_sound =
    record {
      said = λ ty fact e. none_some e;
      parts = λ ty all resource e. none_some e;
      bases = λ ty t e. none_some e;
      plain = λ ty t e. none_some e;
      forms = λ ty s. form_of_none s;
    }

-- what is built in
pub outermost_fit : (here : Here) → AreSound here.facts → EntriesFit here outermost
outermost_fit here sound = (of_int, (of_bool, (of_char, (of_text, ((truth 0 refl, of_bool), ((truth 1 refl, of_bool), (tt, tt)))))))
  where
    truth : (n : ℕ) → is_value kind.bool (pos n) ≡ true → is_constant here.facts type.bool (Number (pos n)) ≡ true
    truth n v = subst (λ k. is_value k (pos n) ≡ true) (sym (plain_as sound of_bool refl)) v

-- ---- where something else is said of types in the end

abbrev pub with_said : State → Facts → State
with_said st facts = record st { env = record st.env { facts = facts } }

kept_said : (st : State) (facts : Facts) → Kept st → Kept (with_said st facts)
kept_said st facts k =
    record {
      reading = record { served = k.reading.served; bodies = k.reading.bodies; under = k.reading.under };
      globals = k.globals;
    }

later_said : (x final : State) (facts : Facts) → Later x final → x.env.facts ≡ facts → Later x (with_said final facts)
later_said x final facts l e =
    record {
      globals = record { more = l.globals.more; is = l.globals.is; later = l.globals.later };
      text = record { more = l.text.more; is = l.text.is };
      serving = l.serving;
      place = l.place;
      facts = subst (Further x.env.facts) e (no_further x.env.facts);
    }

-- definitions say nothing of types
variables_said : {at : Place} {b : Binding} {env : Env} {ty : Option Ty} {t : Option Term} {st : State} {ds : List TreeName} {x : Stated}
    → AreVariables in_module at b env ty t st ds x → x.state.env.facts ≡ st.env.facts
variables_said R.d_no_names = refl
variables_said (R.d_names (R.d_initialised h) k) = variables_said k
variables_said (R.d_names R.d_defaulted k) = variables_said k

definitions_said : {at : Place} {b : Binding} {st : State} {all : List Definition} {x : Stated} → AreDefinitions in_module at b st all x
    → x.state.env.facts ≡ st.env.facts
definitions_said R.d_no_definitions = refl
definitions_said (R.d_definitions (R.d_variables n w h) k) = definitions_said k ∙ variables_said h

module _ (calls : CallsComputed) (preserved : Preserved) (closed : Closed) (closed_one : ClosedOne) (found : KnownFound) (statements : PlacesNumbered)
    (procedures : ProcedureNumbered) (final : State) (ended : Kept final) (ruled : text_rule final.procs final.text ≡ Ok tt)
    (said : AllSaid final.env.facts final.env.facts) where
  -- behind so many globals as there are
  abbrev Own : State → Type 0
  Own st = OwnAt (standing final (length st.globals)) st

  in_end : (x : State) → Later x final → AllSaid x.env.facts final.env.facts
  in_end x later = before_end final.env.facts later.facts said

  counted_own : (st x : State) → x.globals ≡ st.globals → OwnAt (standing final (length st.globals)) x → Own x
  counted_own st x e at = subst (λ n. OwnAt (standing final n) x) (sym (ap length e)) at

  -- ---- procedures

  head_own : {st : State} {at : Place} {h : Head} {b : Bool} {k : Headed} (body : Statements) → IsHead st at h b k → StatementRead (tree.proclaims at h body)
      → Kept st → Own st → Later (behind_head st at h k) final → At (with_facts (standing final (length st.globals)) st.env.facts) (behind_head st at h k)
  head_own {st} {at} {h} {b} {k} body head read kept own later =
      let facts = st.env.facts in
      at_head (with_said final facts) (kept_said final facts ended) ruled head read.0 kept own
      (later_said (behind_head st at h k) final facts later (same_said st at h k))

  procedure_own : {st : State} {at : Place} {h : Head} {k : Headed} (body : Statements) {s : Stated} → IsHead st at h (has_statements body) k
      → AreStated (in_body (result_of (behind_head st at h k) h k)) (result_of (behind_head st at h k) h k) (before_body (behind_head st at h k) h k) body s
      → StatementRead (tree.proclaims at h body) → Kept st → Own st
      → Later (behind_body (has_statements body) (behind_head st at h k) at h k s) final
      → Own (behind_body (has_statements body) (behind_head st at h k) at h k s)
  procedure_own {st} {at} {h} {k} tree.empty {s} head is read kept own later =
      let st' = behind_head st at h k in
      let b = head_kept head kept in
      let l = later_then (no_body_kept st' k b.kept).1 later in
      let q = own_of (with_facts (standing final (length st.globals)) st.env.facts) st' (head_own tree.empty head read kept own l) in
      by_test k.borrowed q
    where
      further : State
      further = record (behind_head st at h k) { place = (behind_head st at h k).place + length k.signature.params }

      by_test : (b : Bool) → OwnAt (standing final (length st.globals)) (behind_head st at h k) → Own (if b then further else behind_head st at h k)
      by_test true q = counted_own st further (same_globals st at h k) (record { knows = q.knows; under = tt })
      by_test false q = counted_own st (behind_head st at h k) (same_globals st at h k) q
  procedure_own {st} {at} {h} {k} (tree.then first rest) {s} head is read kept own later =
      let st' = behind_head st at h k in
      let n = length st.globals in
      let here = with_facts (standing final n) st.env.facts in
      let b = head_kept head kept in
      let l = later_then (body_kept procedures st' at h k (tree.then first rest) s is b.kept b.served b.awaited).1 later in
      let at_st' = head_own (tree.then first rest) head read kept own l in
      let inside = with_places (with_places here (given_places st'.place k.signature.params)) (if_declared (result_of st' h k)) in
      let start = own_of inside (before_body st' h k) (procedure_begins head here own at_st') in
      let r = all_own calls preserved closed closed_one found statements final.env.facts is refl read.1 inside start
      (in_end (with_body st' at h k s) later) in
      let q = behind_own closed closed_one (standing final n) r.after st' s.state (own_of here st' at_st') r.at (said_by (all_grow is))
      (run_below (procedures st' h k (tree.then first rest) s is)) in
      let same : Same st' s.state = all_same is refl in
      counted_own st (with_body st' at h k s) (ap (λ (m : Noted). m.globals) same ∙ same_globals st at h k) (record { knows = q.knows; under = tt })

  -- ---- statements

  by_sort : {ends : ResultPlace} {st : State} {s : Statement} {x : Stated} → Sort in_module st s x → IsStated in_module ends st s x → StatementRead s
      → Kept st → Own st → Later x.state final → Own x.state
  by_sort {st = st} {x = x} (definitions i h) is read kept own later =
      let facts = st.env.facts in
      let there = with_said final facts in
      let c = definitions_code calls preserved closed closed_one there h read.1 own kept.reading
      (later_said x.state final facts later (definitions_said h)) in
      own_of (standing there (length x.state.globals)) x.state c.at
  by_sort (a_procedure {body = body} p head k) is read kept own later = procedure_own body head k read kept own later
  by_sort {st = st} {x = x} (other d) is read kept own later =
      counted_own st x.state (ap (λ (m : Noted). m.globals) (stated_same is d))
      (stated_own calls preserved closed closed_one found statements final.env.facts is d read (standing final (length st.globals)) own (in_end x.state later))

  code_own : {ends : ResultPlace} {st : State} {all : Statements} {x : Stated} → AreStated in_module ends st all x → StatementsRead all → Kept st → Own st
      → Later x.state final → Own x.state
  code_own R.s_none read kept own later = own
  code_own (R.s_more {one = one} {more = more} h k) read kept own later =
      let b = statement_kept statements procedures h kept in
      let c = code_kept statements procedures k b.kept in
      let l = later_then (noting_later one) (later_then c.later later) in
      let q = by_sort (sort h) h read.0 kept own l in
      code_own k read.1 b.kept (record { knows = q.knows; under = tt }) later

  module_own : (st : State) (number : ℕ) → Own st → Own (module_begins st number)
  module_own st number own =
      let here = with_facts (standing final (length st.globals)) st.env.facts in
      let knows : Knows here (module_begins st number).env = record {
        sound = own.knows.own.sound;
        said = λ ty fact e. e;
        entries = outermost_fit here own.knows.own.sound;
      } in
      record { knows = record { all = knows; own = knows }; under = tt }

  modules_own : {st : State} {all : List Module} {x : Stated} → AreModules st all x → ModulesRead all → Kept st → Own st → Later x.state final → Own x.state
  modules_own M.p_none read kept own later = own
  modules_own {st} (M.p_more {m = m} {one = one} h k) read kept own later =
      let b = module_kept statements procedures st m.number kept in
      let r = code_kept statements procedures h b.kept in
      let q = modules_kept statements procedures k r.kept in
      modules_own k read.1 r.kept (code_own h read.0 b.kept (module_own st m.number own) (later_then q.later later)) later

  -- all that is said in the end
  pub final_sound : {all : List Module} {x : Stated} → AreModules nothing_known all x → ModulesRead all → Kept nothing_known → x.state ≡ final
      → Later x.state final → AreSound final.env.facts
  final_sound {x = x} h read kept e later =
      let knows : Knows (with_facts (standing final 0) []) nothing_known.env = record { sound = nothing_sound; said = λ ty fact e. e; entries = tt } in
      let own = modules_own h read kept (record { knows = record { all = knows; own = knows }; under = tt }) later in
      subst (λ (s : State). AreSound s.env.facts) e own.knows.own.sound
