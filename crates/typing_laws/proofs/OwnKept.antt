-- What declarations say of themselves stays true, whatever is said of types later: so all that is said in the end is sound.
use Rattle.std.proofs.Common.{◌≡◌, ℕ, suc, ◌≤◌, false, List, refl, sym, ap, subst, ◌∙◌, arith}
use Rattle.std.specs.Prelude.{not}
use Rattle.nim_tree.specs.Statements.{Statement, Statements, Branches as Trees}
use Rattle.nim_types.specs.Types as type
use Rattle.nim_types.specs.Types.{Ty, Facts}
use Rattle.nim_program.specs.Program.{Label}
use Rattle.nim_program.specs.Scopes.{Here, with_place}
use Rattle.nim_program.specs.Typed as T
use Rattle.expr_rules.specs.Laws.{CallsComputed}
use Rattle.decl_rules.specs.State.{ResultPlace, Around, State, up_to_node, left, Stated, Blocked, noting}
use Rattle.decl_rules.specs.Bodies.{loop_variable}
use Rattle.decl_rules.specs.Stated.{Branched, Armed}
use Rattle.decl_rules.specs.Parts.{KnownFound}
use Rattle.decl_rules.specs.Places.{PlacesNumbered}
use Rattle.decl_rules.specs.Rules as R
use Rattle.decl_rules.specs.Rules.{IsCondition, IsStated, AreStated, IsBlock, AreBranches, AreArms}
use Rattle.typing_laws.specs.Sound.{of_int}
use Rattle.typing_laws.specs.Knows.{Knows, with_facts}
use Rattle.typing_laws.specs.Trees.{StatementRead, StatementsRead, BranchesRead}
use Rattle.typing_laws.proofs.Tests.{ever}
use Rattle.typing_laws.proofs.SoundKinds.{element_kind}
use Rattle.typing_laws.proofs.Constants.{Closed, ClosedOne}
use Rattle.typing_laws.proofs.Induction.{Preserved}
use Rattle.typing_laws.proofs.Growing.{Said, under_more, entries_grown}
use Rattle.typing_laws.proofs.Further.{AllSaid, said_by, before_end, said_once}
use Rattle.typing_laws.proofs.Grows.{all_grow, block_grows, branches_grow, arms_grow}
use Rattle.typing_laws.proofs.Steps.{At}
use Rattle.typing_laws.proofs.Blocks.{value_right, definitions_typed}
use Rattle.typing_laws.proofs.Arms.{constants_right}
use Rattle.typing_laws.proofs.Bodies.{declares_places, Sort, definitions, a_procedure, other, sort, loop_known, same_element}
use Rattle.typing_laws.proofs.Sections.{section_own}
use Rattle.typing_laws.proofs.KeptProcedures.{run_below}
use Rattle.typing_laws.proofs.KeptCode.{no_procedure}

-- the declarations are true of what they know of their types themselves
abbrev pub OwnAt : Here → State → Type 0
OwnAt here st = At (with_facts here st.env.facts) st

pub own_of : (here : Here) (st : State) → At here st → OwnAt here st
own_of here st at = record { knows = record { all = at.knows.own; own = at.knows.own }; under = at.under }

moved : (here : Here) (st : State) (n : ℕ) → OwnAt here st → OwnAt here (up_to_node st n)
moved here st n at = record { knows = at.knows; under = at.under }

pub record OwnBehind (st x : State) : Type 0 where
  pub after : Here
  pub at : OwnAt after x
  pub later : st.place ≤ x.place

-- behind a scope
pub behind_own : Closed → ClosedOne → (here inner : Here) (before behind : State) → OwnAt here before → OwnAt inner behind
    → Said before.env.facts behind.env.facts → before.place ≤ behind.place → OwnAt here (left before behind)
behind_own closed closed_one here inner before behind at q said l =
    let k : Knows (with_facts here behind.env.facts) (left before behind).env = record {
      sound = q.knows.own.sound;
      said = λ ty fact e. e;
      entries = entries_grown before.env.facts behind.env.facts said at.knows.own.sound q.knows.own.sound closed closed_one here
          before.env.entries at.knows.own.entries;
    } in
    record { knows = record { all = k; own = k }; under = under_more before.place behind.place here.places l at.under }

module _ (calls : CallsComputed) (preserved : Preserved) (closed : Closed) (closed_one : ClosedOne) (found : KnownFound) (statements : PlacesNumbered)
    (final : Facts) where
  -- in a block, where no procedure stands
  by_sort : {a : Around} {st : State} {s : Statement} {x : Stated} → Sort a st s x → a.outermost ≡ false → StatementRead s → (here : Here)
      → OwnAt here st → (declares_places s ≡ false → OwnBehind st x.state) → OwnBehind st x.state
  by_sort {st = st} {x = x} (definitions i h) o read here at go =
      let r = definitions_typed calls preserved closed closed_one h o read.1 (with_facts here st.env.facts) T.module_code at in
      record { after = r.after; at = own_of r.after x.state r.at; later = r.later }
  by_sort (a_procedure p h k) o read here at go = ever (sym p ∙ o)
  by_sort (other d) o read here at go = go d

  mutual
    pub stated_own : {a : Around} {ends : ResultPlace} {st : State} {s : Statement} {x : Stated} → IsStated a ends st s x → declares_places s ≡ false
        → StatementRead s → (here : Here) → OwnAt here st → AllSaid x.state.env.facts final → OwnAt here x.state
    stated_own {st = st} (R.s_constants {behind = behind} h) o read here at end =
        let r = own_of (with_facts here st.env.facts) behind
        (constants_right calls preserved closed closed_one h read.1 (with_facts here st.env.facts) at) in
        record { knows = r.knows; under = r.under }
    stated_own (R.s_variables i h) o read here at end = ever (sym (ap not i) ∙ o)
    stated_own {st = st} (R.s_types {all = all} {env = env} h) o read here at end =
        let k = section_own found closed closed_one here st all env at.knows.own read h (said_once env.facts final end) in
        record { knows = record { all = k; own = k }; under = at.under }
    stated_own {st = st} (R.s_if {b = b} {o = e} h k) o read here at end =
        let r = branches_own h read.0 here (moved here st (suc st.node) at) (before_end final (block_grows k) end) in
        let q = block_own k read.1 here r end in record { knows = q.knows; under = q.under }
    stated_own {st = st} (R.s_case {v = v} h i k j c) o read here at end =
        let r = arms_own k read.1.0 here (moved here st v.next at) (before_end final (block_grows j) end) in
        let q = block_own j read.1.1 here r end in record { knows = q.knows; under = q.under }
    stated_own {st = st} (R.s_while {c = c} h k) o read here at end =
        let q = block_own k read.1.1 here (moved here st c.next at) end in record { knows = q.knows; under = q.under }
    stated_own {a} {ends} {st} {s} {x} (R.s_for_each {x = name} {v = v} {ty = ty} {b = b} h i k) o read here at end =
        let r = value_right calls preserved closed closed_one h read.0 (with_facts here st.env.facts) at.knows tt in
        let e = element_kind r.sound (same_element v.given ty i) in
        let there = with_place here (loop_variable st name ty) in
        let start = loop_known name ty (moved here st v.next at) e.2 e.2 in
        let q = block_own k read.1.1 there start end in
        behind_own closed closed_one here there st b.state at q (said_by (block_grows k))
        (run_below (statements a ends st s x (R.s_for_each {x = name} h i k) refl))
    stated_own {a} {ends} {st} {s} {x} (R.s_for_range {x = name} {w = w} {b = b} r h i k) o read here at end =
        let there = with_place here (loop_variable st name type.int) in
        let start = loop_known name type.int (moved here st w.next at) of_int of_int in
        let q = block_own k read.1.1 there start end in
        behind_own closed closed_one here there st b.state at q (said_by (block_grows k))
        (run_below (statements a ends st s x (R.s_for_range {x = name} r h i k) refl))
    stated_own (R.s_procedure h i k) o read here at end = ever o
    stated_own h o read here at end = record { knows = at.knows; under = at.under }

    pub all_own : {a : Around} {ends : ResultPlace} {st : State} {all : Statements} {x : Stated} → AreStated a ends st all x → a.outermost ≡ false
        → StatementsRead all → (here : Here) → OwnAt here st → AllSaid x.state.env.facts final → OwnBehind st x.state
    all_own R.s_none o read here at end = record { after = here; at = at; later = omega arith }
    all_own {a} {ends} {st} (R.s_more {first = first} {rest = rest} {one = one} {more = more} h k) o read here at end =
        let e : noting a.outermost one ≡ one.state = ap (λ b. noting b one) o in
        let r = by_sort (sort h) o read.0 here at (λ d. record {
          after = here;
          at = stated_own h d read.0 here at (subst (λ (s : State). AllSaid s.env.facts final) e (before_end final (all_grow k) end));
          later = run_below (statements a _ st first one h (no_procedure first d));
        }) in
        let q = all_own k o read.1 r.after (subst (λ s. OwnAt r.after s) (sym e) r.at) end in
        let l : one.state.place ≤ more.state.place = subst (λ (s : State). s.place ≤ more.state.place) e q.later in
        record { after = q.after; at = q.at; later = omega (arith, r.later, l) }

    block_own : {a : Around} {st : State} {body : Statements} {b : Blocked} → IsBlock a st body b → StatementsRead body → (here : Here) → OwnAt here st
        → AllSaid b.state.env.facts final → OwnAt here b.state
    block_own {st = st} (R.s_block {s = s} h) read here at end =
        let r = all_own h refl read here (record { knows = at.knows; under = at.under }) end in
        behind_own closed closed_one here r.after st s.state at r.at (said_by (all_grow h)) (omega (arith, r.later))

    branches_own : {a : Around} {st : State} {all : Trees} {b : Branched} → AreBranches a st all b → BranchesRead all → (here : Here) → OwnAt here st
        → AllSaid b.state.env.facts final → OwnAt here b.state
    branches_own R.s_no_branches read here at end = at
    branches_own {st = st} (R.s_branches {c = c} s k j) read here at end =
        let q = block_own k read.1.0.1 here (moved here st c.next at) (before_end final (branches_grow j) end) in
        branches_own j read.1.1 here q end

    arms_own : {a : Around} {of : Ty} {before : List Label} {st : State} {all : Trees} {b : Armed} → AreArms a of before st all b → BranchesRead all
        → (here : Here) → OwnAt here st → AllSaid b.state.env.facts final → OwnAt here b.state
    arms_own R.s_no_arms read here at end = at
    arms_own (R.s_arms l k j) read here at end =
        let q = block_own k read.1.0.1 here at (before_end final (arms_grow j) end) in arms_own j read.1.1 here q end
