-- Definitions of globals are typed, in their order.
use Rattle.std.proofs.Common.{◌≡◌, ℕ, zero, suc, ◌<◌, Bool, true, false, List, [], ◌∷◌, ◌++◌, length, take, Option, Some, None, refl, sym, ap, subst}
use Rattle.std.proofs.Common.{◌∙◌, append_assoc, arith}
use Rattle.std.specs.Prelude.{nat_eq, map, if◌then◌else◌, slice_get}
use Rattle.std.proofs.lemmas.Bool.{eqb-true, eq-eqb, le-leb, leb-true}
use Rattle.arc_base.specs.declared.place.Place.{Place}
use Rattle.nim_tree.specs.declared.name.Declared.{Declared as TreeName}
use Rattle.nim_tree.specs.declared.stmt.Binding.{Binding}
use Rattle.nim_tree.specs.Terms.{Term}
use Rattle.nim_tree.specs.Statements.{Definition}
use Rattle.nim_types.specs.Types.{Ty}
use Rattle.nim_program.specs.Program.{Args, NoArg, Stmts, Declared, Body}
use Rattle.nim_program.specs.Nodes.{one_value}
use Rattle.nim_program.specs.Scopes.{Here, Placed, placed, look, count_below, is_ready, with_global}
use Rattle.nim_program.specs.Typed.{are_typed, starts, is_next, is_typed_code}
use Rattle.expr_rules.specs.Env as env_of
use Rattle.expr_rules.specs.Env.{Env, Entry, Procedure}
use Rattle.expr_rules.specs.Laws.{CallsComputed}
use Rattle.decl_rules.specs.State.{in_module, State, Stated, stated_as}
use Rattle.decl_rules.specs.Definitions.{place_for, variable_as, with_variable}
use Rattle.decl_rules.specs.Rules as R
use Rattle.decl_rules.specs.Rules.{IsVariable, AreVariables, IsDefinition, AreDefinitions}
use Rattle.typing_laws.specs.Sound.{Sound}
use Rattle.typing_laws.specs.Knows.{IfSound, Fits, EntryFits, EntriesFit, KnowsWell, with_facts}
use Rattle.typing_laws.specs.Trees.{IfRead, DefinitionsRead}
use Rattle.typing_laws.proofs.Tests.{both, never, none_some, same_by, is_by}
use Rattle.typing_laws.proofs.SoundKinds.{held}
use Rattle.typing_laws.proofs.Constants.{Closed, ClosedOne}
use Rattle.typing_laws.proofs.Induction.{Preserved}
use Rattle.typing_laws.proofs.Written.{if_written_sound}
use Rattle.typing_laws.proofs.Growing.{Said, Under, sound_grown, entries_more}
use Rattle.typing_laws.proofs.Further.{said_by}
use Rattle.typing_laws.proofs.Grows.{variable_grows}
use Rattle.typing_laws.proofs.Steps.{onto, onto_both, At}
use Rattle.typing_laws.proofs.Blocks.{own, defined_right}
use Rattle.typing_laws.proofs.Kept.{Reading, MoreGlobals, Later, later_then}
use Rattle.typing_laws.proofs.KeptCode.{one_read, variables_read, definitions_read}
use Rattle.typing_laws.proofs.Lists.{length_last, placed_length, placed_both}
use Rattle.typing_laws.proofs.Standing.{standing}

-- ---- one global more has a value

look_more : (n : ℕ) (gs : List Placed) (place : ℕ) (ty : Ty) → look (take n gs) place ≡ Some ty → look (take (suc n) gs) place ≡ Some ty
look_more zero gs place ty e = none_some e
look_more (suc n) [] place ty e = none_some e
look_more (suc n) (g ∷ gs) place ty e = by_test (nat_eq g.number place) e (look_more n gs place ty)
  where
    by_test : (b : Bool) → (if b then Some g.of else look (take n gs) place) ≡ Some ty
        → (look (take n gs) place ≡ Some ty → look (take (suc n) gs) place ≡ Some ty)
        → (if b then Some g.of else look (take (suc n) gs) place) ≡ Some ty
    by_test true e go = e
    by_test false e go = go e

-- the global behind those before it
look_next : (gs : List Placed) (p : Placed) (more : List Placed) → Under p.number gs
    → look (take (suc (length gs)) (gs ++ p ∷ more)) p.number ≡ Some p.of
look_next [] p more h = ap (λ b. if b then Some p.of else None) (eq-eqb p.number p.number refl)
look_next (q ∷ gs) p more h = by_test (nat_eq q.number p.number) refl (look_next gs p more h.1)
  where
    less : (a b : ℕ) → a < b → a ≡ b → ⊥
    less a b l e = absurd (omega (arith, l, e))

    by_test : (b : Bool) → nat_eq q.number p.number ≡ b → look (take (suc (length gs)) (gs ++ p ∷ more)) p.number ≡ Some p.of
        → (if b then Some q.of else look (take (suc (length gs)) (gs ++ p ∷ more)) p.number) ≡ Some p.of
    by_test true e go = absurd (less q.number p.number h.0 (eqb-true q.number p.number e))
    by_test false e go = go

get_next : (gs : List Placed) (p : Placed) (more : List Placed) → slice_get (gs ++ p ∷ more) (length gs) ≡ Some p
get_next [] p more = refl
get_next (q ∷ gs) p more = get_next gs p more

ready_more : (here : Here) (b : Option Body) → is_ready here b ≡ true → is_ready (with_global here) b ≡ true
ready_more here None r = never r
ready_more here (Some body) r =
    let l = leb-true (count_below body.first here.globals) here.filled r in
    le-leb (count_below body.first here.globals) (suc here.filled) (omega (arith, l))

entry_more : (here : Here) (e : Entry) → EntryFits here e → EntryFits (with_global here) e
entry_more here (env_of.variable name place of writable true) h = (look_more here.filled here.globals place of h.0, h.1)
entry_more here (env_of.variable name place of writable false) h = h
entry_more here (env_of.constant name of l) h = h
entry_more here (env_of.named name of) h = h
entry_more here (env_of.pending name) h = tt
entry_more here (env_of.procedure name p) h = ((by_borrowed p.borrowed h.0.0, h.0.1, h.0.2), h.1)
  where
    by_borrowed : (b : Bool) → Fits here b p → Fits (with_global here) b p
    by_borrowed true h = h
    by_borrowed false h =
        record {
          proc = h.proc;
          there = h.there;
          no_hook = h.no_hook;
          ready = ready_more here h.proc.body h.ready;
          types = h.types;
          gives = h.gives;
          params = h.params;
        }
entry_more here (env_of.input name) h = tt

entries_more_global : (here : Here) (es : List Entry) → EntriesFit here es → EntriesFit (with_global here) es
entries_more_global here [] h = tt
entries_more_global here (e ∷ es) h = (entry_more here e h.0, entries_more_global here es h.1)

globals_known : (here : Here) (env : Env) → KnowsWell here env → KnowsWell (with_global here) env
globals_known here env knows =
    record {
      all = record { sound = knows.all.sound; said = knows.all.said; entries = entries_more_global here env.entries knows.all.entries };
      own = record {
        sound = knows.own.sound;
        said = knows.own.said;
        entries = entries_more_global (with_facts here env.facts) env.entries knows.own.entries;
      };
    }

-- ---- what is typed of module code

-- before the rest of the code, whose declarations are the globals that follow
pub record CodeRight (final st : State) (x : Stated) : Type 0 where
  pub at : At (standing final (length x.state.globals)) x.state
  pub typed : (rest : Stmts) → is_typed_code (standing final (length x.state.globals)) rest ≡ true
      → is_typed_code (standing final (length st.globals)) (onto x.steps rest) ≡ true

pub no_code : (final st : State) → At (standing final (length st.globals)) st → CodeRight final st (stated_as [] st)
no_code final st at = record { at = at; typed = λ rest t. t }

pub both_code : (final st : State) (one more : Stated) → CodeRight final st one → CodeRight final one.state more
    → CodeRight final st (stated_as (one.steps ++ more.steps) more.state)
both_code final st one more h k =
    record {
      at = k.at;
      typed = λ rest t. subst (λ b. is_typed_code (standing final (length st.globals)) b ≡ true) (sym (onto_both one.steps more.steps rest))
          (h.typed (onto more.steps rest) (k.typed rest t));
    }

module _ (final : State) where
  -- the globals of the program, by their numbers
  placed_globals : (st : State) (d : Declared) (more : List Declared) → final.globals ≡ (st.globals ++ d ∷ []) ++ more
      → map placed final.globals ≡ map placed st.globals ++ placed d ∷ map placed more
  placed_globals st d more e =
      ap (map placed) (e ∙ append_assoc st.globals (d ∷ []) more) ∙ placed_both st.globals (d ∷ more)

  variable_code : (at : Place) (b : Binding) (ty : Ty) (value : Args) (n : ℕ) (st : State) (d : TreeName) → At (standing final (length st.globals)) st
      → Under st.place (map placed st.globals) → MoreGlobals (with_variable st in_module b d ty n) final → Sound final.env.facts ty → Sound st.env.facts ty
      → starts final.env.facts ty value ≡ true → are_typed (standing final (length st.globals)) value ≡ true
      → CodeRight final st (variable_as in_module at b ty value n st d)
  variable_code at b ty value n st d at_st under more s own_s start t =
      record {
        at = subst (λ k. At (standing final k) (with_variable st in_module b d ty n)) (sym count) (record {
          knows = record {
            all = record {
              sound = known.all.sound;
              said = known.all.said;
              entries = entries_more there st.env.entries _ known.all.entries ((found, s), tt);
            };
            own = record {
              sound = known.own.sound;
              said = known.own.said;
              entries = entries_more (with_facts there st.env.facts) st.env.entries _ known.own.entries ((found, own_s), tt);
            };
          };
          under = tt;
        });
        typed = λ rest k. both (both next (both start t)) (subst (λ k. is_typed_code (standing final k) rest ≡ true) count k);
      }
    where
      place : Declared
      place = place_for st d ty

      there : Here
      there = standing final (suc (length st.globals))

      count : length (st.globals ++ place_for st d ty ∷ []) ≡ suc (length st.globals)
      count = length_last st.globals (place_for st d ty)

      known : KnowsWell (standing final (suc (length st.globals))) st.env
      known = globals_known (standing final (length st.globals)) st.env at_st.knows

      globals : map placed final.globals ≡ map placed st.globals ++ placed (place_for st d ty) ∷ map placed more.more
      globals = placed_globals st (place_for st d ty) more.more more.is

      found : look (take (suc (length st.globals)) (map placed final.globals)) st.place ≡ Some ty
      found =
          subst (λ gs. look (take (suc (length st.globals)) gs) st.place ≡ Some ty) (sym globals)
          (subst (λ k. look (take (suc k) (map placed st.globals ++ placed (place_for st d ty) ∷ map placed more.more)) st.place ≡ Some ty)
          (placed_length st.globals) (look_next (map placed st.globals) (placed (place_for st d ty)) (map placed more.more) under))

      there_is : slice_get (map placed final.globals) (length st.globals) ≡ Some (placed (place_for st d ty))
      there_is =
          subst (λ gs. slice_get gs (length st.globals) ≡ Some (placed (place_for st d ty))) (sym globals)
          (subst (λ k. slice_get (map placed st.globals ++ placed (place_for st d ty) ∷ map placed more.more) k ≡ Some (placed (place_for st d ty)))
          (placed_length st.globals) (get_next (map placed st.globals) (placed (place_for st d ty)) (map placed more.more)))

      next : is_next (slice_get (map placed final.globals) (length st.globals)) (placed (place_for st d ty)) ≡ true
      next =
          subst (λ o. is_next o (placed (place_for st d ty)) ≡ true) (sym there_is)
          (both (eq-eqb st.place st.place refl) (same_by {s = ty} {t = ty} refl))

module _ (calls : CallsComputed) (preserved : Preserved) (closed : Closed) (closed_one : ClosedOne) (final : State) where
  -- `env` is that before the definition
  one_code : {at : Place} {b : Binding} {env : Env} {ty : Option Ty} {t : Option Term} {st : State} {d : TreeName} {x : Stated}
      → IsVariable in_module at b env ty t st d x → IfRead t → KnowsWell (standing final (length st.globals)) env → Said env.facts st.env.facts
      → At (standing final (length st.globals)) st → Reading st → MoreGlobals x.state final → IfSound final.env.facts ty → IfSound env.facts ty
      → CodeRight final st x
  one_code {at} {b} {env} (R.d_initialised {st = st} {d = d} {v = v} h) read knows grows at_st kept more s e =
      let here = standing final (length st.globals) in
      let r = defined_right calls preserved closed closed_one h read here knows s in
      let own_r = defined_right calls preserved closed closed_one h read (with_facts here env.facts)
      (own calls preserved closed closed_one here env knows) e in
      variable_code final at b v.given.of (one_value v.given.expr) v.next st d at_st kept.under more r.sound (sound_grown grows own_r.sound)
      (is_by r.gives refl) (both r.typed refl)
  one_code {at} {b} (R.d_defaulted {ty = ty} {st = st} {d = d}) read knows grows at_st kept more s e =
      variable_code final at b ty NoArg (suc st.node) st d at_st kept.under more s (sound_grown grows e) (held s) refl

  variables_code : {at : Place} {b : Binding} {env : Env} {ty : Option Ty} {t : Option Term} {st : State} {ds : List TreeName} {x : Stated}
      → AreVariables in_module at b env ty t st ds x → IfRead t → KnowsWell (standing final (length st.globals)) env → Said env.facts st.env.facts
      → At (standing final (length st.globals)) st → Reading st → Later x.state final → IfSound final.env.facts ty → IfSound env.facts ty
      → CodeRight final st x
  variables_code {st = st} R.d_no_names read knows grows at kept later s e = no_code final st at
  variables_code {at} {b} {env} {st = st} (R.d_names {one = one} {more = more} h k) read knows grows at_st kept later s e =
      let q = one_read h kept in
      let l = variables_read k q.reading in
      let r = one_code h read knows grows at_st kept (later_then l.later later).globals s e in
      both_code final st one more r
      (variables_code k read (still_known h knows) (λ ty fact f. said_by (variable_grows h) ty fact (grows ty fact f)) r.at q.reading later s e)
    where
      still_known : {at : Place} {b : Binding} {env before : Env} {ty : Option Ty} {t : Option Term} {st : State} {d : TreeName} {x : Stated}
          → IsVariable in_module at b env ty t st d x → KnowsWell (standing final (length st.globals)) before
          → KnowsWell (standing final (length x.state.globals)) before
      still_known {before = before} (R.d_initialised {st = st} {d = d} {v = v} h) knows =
          subst (λ k. KnowsWell (standing final k) before) (sym (length_last st.globals (place_for st d v.given.of)))
          (globals_known (standing final (length st.globals)) before knows)
      still_known {before = before} (R.d_defaulted {ty = ty} {st = st} {d = d}) knows =
          subst (λ k. KnowsWell (standing final k) before) (sym (length_last st.globals (place_for st d ty)))
          (globals_known (standing final (length st.globals)) before knows)

  pub definitions_code : {at : Place} {b : Binding} {st : State} {all : List Definition} {x : Stated} → AreDefinitions in_module at b st all x
      → DefinitionsRead all → At (standing final (length st.globals)) st → Reading st → Later x.state final → CodeRight final st x
  definitions_code {st = st} R.d_no_definitions read at kept later = no_code final st at
  definitions_code {st = st} (R.d_definitions {one = one} {more = more} (R.d_variables {ty = ty} n w h) k) read at kept later =
      let here = standing final (length st.globals) in
      let q = variables_read h kept in
      let l = definitions_read k q.reading in
      let r = variables_code h read.0.1 at.knows (λ ty fact e. e) at kept (later_then l.later later) (if_written_sound here st.env at.knows w)
      (if_written_sound (with_facts here st.env.facts) st.env (own calls preserved closed closed_one here st.env at.knows) w) in
      both_code final st one more r (definitions_code k read.1 r.at q.reading later)
