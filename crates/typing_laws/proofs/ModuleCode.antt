-- The code of modules is typed, and so are its procedures.
use Rattle.std.proofs.Common.{◌≡◌, ℕ, zero, suc, ◌+◌, Bool, true, false, List, [], ◌∷◌, ◌++◌, length, Option, Some, None, refl, sym, ap, subst, ◌∙◌}
use Rattle.std.specs.Prelude.{if◌then◌else◌, slice_set, Ok}
use Rattle.arc_base.specs.declared.place.Place.{Place}
use Rattle.nim_tree.specs.Statements as tree
use Rattle.nim_tree.specs.Statements.{Head, Statement, Statements}
use Rattle.nim_types.specs.Types.{Ty, Facts}
use Rattle.nim_program.specs.Program.{Param, Body, Proc, Program}
use Rattle.nim_program.specs.Kinds.{are_among_types}
use Rattle.nim_program.specs.Typed as T
use Rattle.nim_program.specs.Typed.{body_types, is_typed_code, is_typed_proc, are_typed_procs}
use Rattle.expr_rules.specs.Laws.{CallsComputed, NodesComputed, EnoughComputed}
use Rattle.decl_rules.specs.State.{ResultPlace, in_module, in_body, State, Stated, stated_as, noting}
use Rattle.decl_rules.specs.Heads.{Headed}
use Rattle.decl_rules.specs.Bodies.{result_of, proc_of, with_procedure, behind_head, before_body, body_of, with_body, without_body}
use Rattle.decl_rules.specs.Bodies.{behind_body}
use Rattle.decl_rules.specs.Values.{type_given}
use Rattle.decl_rules.specs.Stated.{ends_with, has_statements}
use Rattle.decl_rules.specs.Whole.{text_rule}
use Rattle.decl_rules.specs.Places.{PlacesNumbered, ProcedureNumbered}
use Rattle.decl_rules.specs.Elaborated.{program_of}
use Rattle.decl_rules.specs.Rules as R
use Rattle.decl_rules.specs.Rules.{IsHead, IsStated, AreStated}
use Rattle.typing_laws.specs.Knows.{IfSound}
use Rattle.typing_laws.specs.Trees.{has_some, StatementRead, StatementsRead}
use Rattle.typing_laws.proofs.Tests.{both, never, none_some}
use Rattle.typing_laws.proofs.Constants.{Closed, ClosedOne}
use Rattle.typing_laws.proofs.Induction.{Preserved}
use Rattle.typing_laws.proofs.Further.{AllSaid, before_end}
use Rattle.typing_laws.proofs.Steps.{onto, InEnd, At}
use Rattle.typing_laws.proofs.Statements.{Fits}
use Rattle.typing_laws.proofs.Bodies.{SectionsKept, Sort, definitions, a_procedure, other, sort, stated_right}
use Rattle.typing_laws.proofs.Noted.{Noted, Same, stated_same, all_same}
use Rattle.typing_laws.proofs.HeadTypes.{procedure_right}
use Rattle.typing_laws.proofs.BodyTypes.{typed_body}
use Rattle.typing_laws.proofs.Kept.{Kept, Later, later_then}
use Rattle.typing_laws.proofs.KeptProcedures.{head_kept, body_kept, no_body_kept}
use Rattle.typing_laws.proofs.KeptCode.{definitions_read, noting_later, other_read, statement_kept, code_kept}
use Rattle.typing_laws.proofs.Standing.{standing}
use Rattle.typing_laws.proofs.Globals.{CodeRight, no_code, both_code, definitions_code}
use Rattle.typing_laws.proofs.HeadKnown.{same_globals, at_head}

-- ---- procedures

-- all types that stand in the body of a procedure are among these
abbrev pub IfListed : List Ty → List Param → Option Body → Type 0
IfListed types params None = Unit {0}
IfListed types params (Some body) = are_among_types types (body_types params body) ≡ true

abbrev pub ProcRight : Program → Proc → Type 0
ProcRight program p = IfListed program.types p.params p.body → is_typed_proc program p ≡ true

abbrev pub ProcsRight : Program → List Proc → Type 0
ProcsRight program [] = Unit {0}
ProcsRight program (p ∷ procs) = ProcRight program p × ProcsRight program procs

one_right_more : (program : Program) (procs : List Proc) (p : Proc) → ProcsRight program procs → ProcRight program p
    → ProcsRight program (procs ++ p ∷ [])
one_right_more program [] p h k = (k, tt)
one_right_more program (q ∷ procs) p h k = (h.0, one_right_more program procs p h.1 k)

one_right_set : (program : Program) (procs : List Proc) (n : ℕ) (p : Proc) → ProcsRight program procs → ProcRight program p
    → ProcsRight program (slice_set procs n p)
one_right_set program [] n p h k = tt
one_right_set program (q ∷ procs) zero p h k = (k, h.1)
one_right_set program (q ∷ procs) (suc n) p h k = (h.0, one_right_set program procs n p h.1 k)

head_procs : (program : Program) (st : State) (at : Place) (h : Head) (k : Headed) → ProcsRight program st.procs
    → ProcsRight program (behind_head st at h k).procs
head_procs program st at h k r = by_test k.is_new
  where
    by_test : (n : Bool) → ProcsRight program (if n then with_procedure st at h k else st).procs
    by_test true = one_right_more program st.procs (proc_of at h k st.place None) r (λ _. refl)
    by_test false = r

-- ---- what stands around module code

module_fits : (facts : Facts) (ends : ResultPlace) → ends ≡ None → Fits facts in_module ends T.module_code
module_fits facts ends n =
    record {
      loops = λ e. never e;
      returns = λ at gives e. cc;
      at_end = λ place e. none_some (sym n ∙ e);
      sound = subst (λ e. IfSound facts (type_given e)) (sym n) tt;
    }

no_end : (rest : Statements) → ends_with None rest ≡ None
no_end tree.empty = refl
no_end (tree.then first rest) = refl

-- what is typed of statements of module code, and of the procedures behind them
pub record CodeDone (program : Program) (final st : State) (x : Stated) : Type 0 where
  pub right : CodeRight final st x
  pub procs : ProcsRight program st.procs → ProcsRight program x.state.procs

module _ (calls : CallsComputed) (nodes : NodesComputed) (covers : EnoughComputed) (preserved : Preserved) (closed : Closed) (closed_one : ClosedOne)
    (sections : SectionsKept) (statements : PlacesNumbered) (procedures : ProcedureNumbered) (types : List Ty) (whole : Stated) (ended : Kept whole.state)
    (ruled : text_rule whole.state.procs whole.state.text ≡ Ok tt) (said : AllSaid whole.state.env.facts whole.state.env.facts) where
  abbrev Done : State → Stated → Type 0
  Done = CodeDone (program_of types whole) whole.state

  -- what is said of types behind a statement is said in the end
  in_end : (n : ℕ) (x : State) → Later x whole.state → InEnd (standing whole.state n) x
  in_end n x later = before_end whole.state.env.facts later.facts said

  -- ---- procedures

  -- a procedure with its body
  with_body_done : {st : State} {at : Place} {h : Head} {k : Headed} (body : Statements) {s : Stated} → has_some body ≡ true → IsHead st at h true k
      → AreStated (in_body (result_of (behind_head st at h k) h k)) (result_of (behind_head st at h k) h k) (before_body (behind_head st at h k) h k) body s
      → StatementsRead body → Kept (behind_head st at h k) → At (standing whole.state (length st.globals)) st
      → At (standing whole.state (length st.globals)) (behind_head st at h k) → Later (with_body (behind_head st at h k) at h k s) whole.state
      → Done st (stated_as [] (with_body (behind_head st at h k) at h k s))
  with_body_done {st} {at} {h} {k} body {s} some head is read kept before behind later =
      let st' = behind_head st at h k in
      let n = length st.globals in
      let here = standing whole.state n in
      let same : Same st' s.state = all_same is refl in
      let end = in_end n (with_body st' at h k s) later in
      let globals : s.state.globals ≡ st.globals = ap (λ (m : Noted). m.globals) same ∙ same_globals st at h k in
      let count : length s.state.globals ≡ n = ap length globals in
      let right = procedure_right calls nodes covers preserved closed closed_one sections head here before behind body s read is end in
      record {
        right = record {
          at = subst (λ m. At (standing whole.state m) (with_body st' at h k s)) (sym count) (record { knows = right.1.knows; under = tt });
          typed = λ rest t. subst (λ m. is_typed_code (standing whole.state m) rest ≡ true) count t;
        };
        procs = λ r. subst (λ (m : Noted). ProcsRight (program_of types whole)
            (slice_set m.procs k.number (proc_of at h k st'.place (Some (body_of st' h k s))))) (sym same)
            (one_right_set (program_of types whole) st'.procs k.number (proc_of at h k st'.place (Some (body_of st' h k s)))
            (head_procs (program_of types whole) st at h k r) (λ among.
            (typed_body calls nodes covers preserved closed closed_one sections procedures (program_of types whole) head n
            (ap length (same_globals st at h k)) before behind body s read some is end later.globals.more
            (later.globals.is ∙ ap (λ (m : Noted). m.globals ++ later.globals.more) same) kept.reading.under later.globals.later among).0));
      }

  -- without one
  no_body_done : (st : State) (at : Place) (h : Head) (k : Headed) → At (standing whole.state (length st.globals)) (behind_head st at h k)
      → Done st (stated_as [] (without_body (behind_head st at h k) k))
  no_body_done st at h k behind =
      record {
        right = record {
          at = subst (λ m. At (standing whole.state m) (without_body st' k)) (sym count) (by_test_at k.borrowed);
          typed = λ rest t. subst (λ m. is_typed_code (standing whole.state m) rest ≡ true) count t;
        };
        procs = λ r. by_test_procs k.borrowed (head_procs (program_of types whole) st at h k r);
      }
    where
      st' : State
      st' = behind_head st at h k

      further : State
      further = record (behind_head st at h k) { place = (behind_head st at h k).place + length k.signature.params }

      by_test : (b : Bool) → (if b then further else behind_head st at h k).globals ≡ (behind_head st at h k).globals
      by_test true = refl
      by_test false = refl

      count : length (without_body (behind_head st at h k) k).globals ≡ length st.globals
      count = ap length (by_test k.borrowed ∙ same_globals st at h k)

      by_test_at : (b : Bool) → At (standing whole.state (length st.globals)) (if b then further else behind_head st at h k)
      by_test_at true = record { knows = behind.knows; under = tt }
      by_test_at false = behind

      by_test_procs : (b : Bool) → ProcsRight (program_of types whole) (behind_head st at h k).procs
          → ProcsRight (program_of types whole) (if b then further else behind_head st at h k).procs
      by_test_procs true r = r
      by_test_procs false r = r

  procedure_done : {st : State} {at : Place} {h : Head} {k : Headed} (body : Statements) {s : Stated} → IsHead st at h (has_statements body) k
      → AreStated (in_body (result_of (behind_head st at h k) h k)) (result_of (behind_head st at h k) h k) (before_body (behind_head st at h k) h k) body s
      → StatementRead (tree.proclaims at h body) → Kept st → At (standing whole.state (length st.globals)) st
      → Later (behind_body (has_statements body) (behind_head st at h k) at h k s) whole.state
      → Done st (stated_as [] (behind_body (has_statements body) (behind_head st at h k) at h k s))
  procedure_done {st} {at} {h} {k} tree.empty {s} head is read kept before later =
      let b = head_kept head kept in
      let l = later_then (no_body_kept (behind_head st at h k) k b.kept).1 later in
      no_body_done st at h k (at_head whole.state ended ruled head read.0 kept before l)
  procedure_done {st} {at} {h} {k} (tree.then first rest) {s} head is read kept before later =
      let b = head_kept head kept in
      let l = later_then (body_kept procedures (behind_head st at h k) at h k (tree.then first rest) s is b.kept b.served b.awaited).1 later in
      with_body_done (tree.then first rest) refl head is read.1 b.kept before (at_head whole.state ended ruled head read.0 kept before l) later

  -- ---- statements

  noted_done : (st : State) (x : Stated) → Done st x → Done st (stated_as x.steps (noting true x))
  noted_done st x d =
      record {
        right = record { at = record { knows = d.right.at.knows; under = tt }; typed = d.right.typed };
        procs = d.procs;
      }

  by_sort : {ends : ResultPlace} {st : State} {s : Statement} {x : Stated} → Sort in_module st s x → IsStated in_module ends st s x → ends ≡ None
      → StatementRead s → Kept st → At (standing whole.state (length st.globals)) st → Later x.state whole.state → Done st x
  by_sort {st = st} {x = x} (definitions i h) is e read kept at later =
      record {
        right = definitions_code calls preserved closed closed_one whole.state h read.1 at kept.reading later;
        procs = λ r. subst (ProcsRight (program_of types whole)) (sym (definitions_read h kept.reading).procs) r;
      }
  by_sort (a_procedure {body = body} p head k) is e read kept at later = procedure_done body head k read kept at later
  by_sort {ends} {st} {x = x} (other d) is e read kept at later =
      let n = length st.globals in
      let r = stated_right calls nodes covers preserved closed closed_one sections is d read (standing whole.state n) T.module_code
      (module_fits whole.state.env.facts ends e) at (in_end n x.state later) in
      let q = other_read statements procedures is d kept.reading in
      let count : length x.state.globals ≡ n = ap (λ (m : Noted). length m.globals) (stated_same is d) in
      record {
        right = record {
          at = subst (λ m. At (standing whole.state m) x.state) (sym count) r.at;
          typed = λ rest t. subst (λ steps. is_typed_code (standing whole.state n) (onto steps rest) ≡ true) (sym r.alone)
              (both r.typed (subst (λ m. is_typed_code (standing whole.state m) rest ≡ true) count t));
        };
        procs = λ r. subst (ProcsRight (program_of types whole)) (sym q.procs) r;
      }

  statement_done : {ends : ResultPlace} {st : State} {s : Statement} {x : Stated} → IsStated in_module ends st s x → ends ≡ None → StatementRead s → Kept st
      → At (standing whole.state (length st.globals)) st → Later (noting true x) whole.state → Done st (stated_as x.steps (noting true x))
  statement_done {st = st} {x = x} h e read kept at later =
      noted_done st x (by_sort (sort h) h e read kept at (later_then (noting_later x) later))

  both_done : (st : State) (one more : Stated) → Done st one → Done one.state more → Done st (stated_as (one.steps ++ more.steps) more.state)
  both_done st one more h k = record { right = both_code whole.state st one more h.right k.right; procs = λ r. k.procs (h.procs r) }

  pub code_done : {ends : ResultPlace} {st : State} {all : Statements} {x : Stated} → AreStated in_module ends st all x → ends ≡ None → StatementsRead all
      → Kept st → At (standing whole.state (length st.globals)) st → Later x.state whole.state → Done st x
  code_done {st = st} R.s_none e read kept at later = record { right = no_code whole.state st at; procs = λ r. r }
  code_done {st = st} (R.s_more {rest = rest} {one = one} {more = more} h k) e read kept at later =
      let b = statement_kept statements procedures h kept in
      let c = code_kept statements procedures k b.kept in
      let q = statement_done h (ap (λ e. ends_with e rest) e ∙ no_end rest) read.0 kept at (later_then c.later later) in
      both_done st (stated_as one.steps (noting true one)) more q (code_done k e read.1 b.kept q.right.at later)
