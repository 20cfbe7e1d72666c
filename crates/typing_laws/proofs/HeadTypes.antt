-- What a head says of its procedure is sound, so its body is typed.
use Rattle.std.proofs.Common.{◌≡◌, ℕ, ◌+◌, Bool, true, false, List, [], ◌∷◌, ◌++◌, length, Option, Some, None, refl, sym, ap, subst}
use Rattle.std.specs.Prelude.{if◌then◌else◌, Ok}
use Rattle.arc_base.specs.declared.place.Place.{Place}
use Rattle.nim_tree.specs.declared.name.Name.{Name}
use Rattle.nim_tree.specs.Types.{Written}
use Rattle.nim_tree.specs.Statements.{Parameters, Head, Statements}
use Rattle.nim_types.specs.Types.{Ty, Facts}
use Rattle.nim_program.specs.declared.program.Mode.{Mode}
use Rattle.nim_program.specs.Program.{Declared}
use Rattle.nim_program.specs.Folds.{if_declared}
use Rattle.nim_program.specs.Scopes.{Here}
use Rattle.arc_base.specs.Refusal.{and_then}
use Rattle.nim_program.specs.Typed as T
use Rattle.nim_program.specs.Typed.{with_places, is_typed_block}
use Rattle.expr_rules.specs.Laws.{CallsComputed, NodesComputed, EnoughComputed}
use Rattle.decl_rules.specs.State.{in_body, State, entered, left, own_entries, if_typed, block_of, Stated}
use Rattle.decl_rules.specs.Heads.{Given, given_as, mode_of, with_parameters, Signature, parameters_of, procedure_name, earlier, completion_rule, has_pragma}
use Rattle.decl_rules.specs.Heads.{is_borrow, head_fits, Headed, headed, head_by}
use Rattle.decl_rules.specs.Bodies.{result_at, result_of, with_procedure, behind_head, before_body}
use Rattle.decl_rules.specs.Values.{type_given}
use Rattle.decl_rules.specs.Rules as R
use Rattle.decl_rules.specs.Rules.{AreGiven, IsSignature, IsHead, AreStated}
use Rattle.typing_laws.specs.Sound.{Sound}
use Rattle.typing_laws.specs.Knows.{IfSound, KnowsWell, with_facts}
use Rattle.typing_laws.proofs.Tests.{ok_one, some_one, none_some}
use Rattle.typing_laws.proofs.Steps.{InEnd, At}
use Rattle.typing_laws.proofs.Written.{written_sound, if_written_sound}
use Rattle.typing_laws.proofs.Procedures.{ParametersSound, places_facts, given_places, parameters_begin, own_places, body_begins, body_right}
use Rattle.typing_laws.specs.Trees.{StatementsRead}
use Rattle.typing_laws.proofs.Arms.{then_is}
use Rattle.typing_laws.proofs.Bodies.{SectionsKept}
use Rattle.typing_laws.proofs.Constants.{Closed, ClosedOne}
use Rattle.typing_laws.proofs.Induction.{Preserved}

pub own : (here : Here) (st : State) → KnowsWell here st.env → KnowsWell (with_facts here st.env.facts) st.env
own here st knows = record { all = knows.own; own = knows.own }

-- names of one type
all_of_type : (f g : Facts) (names : List Name) (mode : Mode) (ty : Ty) → Sound f ty → Sound g ty → ParametersSound f g (given_as names mode ty)
all_of_type f g [] mode ty s t = tt
all_of_type f g (x ∷ names) mode ty s t = ((s, t), all_of_type f g names mode ty s t)

and_others : (f g : Facts) (xs ys : List Given) → ParametersSound f g xs → ParametersSound f g ys → ParametersSound f g (xs ++ ys)
and_others f g [] ys h k = k
and_others f g (x ∷ xs) ys h k = (h.0, and_others f g xs ys h.1 k)

pub given_sound : {result : Bool} {st : State} {groups : List Parameters} {all : List Given} → AreGiven result st groups all → (here : Here)
    → At here st → ParametersSound here.facts st.env.facts all
given_sound R.h_none here at = tt
given_sound {st = st} (R.h_more {g = g} {ty = ty} {more = more} n w rest) here at =
    let s = written_sound here st.env at.knows w in
    let t = written_sound (with_facts here st.env.facts) st.env (own here st at.knows) w in
    let first = all_of_type here.facts st.env.facts g.names (mode_of g.mode) ty s t in
    let b = parameters_begin here st.env st.place (given_as g.names (mode_of g.mode) ty) at.knows at.under first in
    let places = given_places st.place (given_as g.names (mode_of g.mode) ty) in
    let r = given_sound rest (with_places here places) (record { knows = b.knows; under = b.under }) in
    and_others here.facts st.env.facts (given_as g.names (mode_of g.mode) ty) more first
    (subst (λ f. ParametersSound f st.env.facts more) (places_facts here places) r)

pub record SignatureSound (here : Here) (st : State) (s : Signature) : Type 0 where
  pub parameters : ParametersSound here.facts st.env.facts s.params
  pub result : IfSound here.facts s.gives
  pub own_result : IfSound st.env.facts s.gives

pub signature_sound : {st : State} {h : Head} {s : Signature} → IsSignature st h s → (here : Here) → At here st → SignatureSound here st s
signature_sound {st} (R.h_signature {params = params} {gives = gives} g w) here at =
    let start : At here (entered st) = record { knows = at.knows; under = at.under } in
    let p = given_sound g here start in
    let b = parameters_begin here st.env st.place params at.knows at.under p in
    let inside : State = with_parameters (entered st) params in
    let behind = with_places here (given_places st.place params) in
    record {
      parameters = p;
      result = subst (λ f. IfSound f gives) (places_facts here (given_places st.place params)) (if_written_sound behind inside.env b.knows w);
      own_result = if_written_sound (with_facts behind st.env.facts) inside.env (own behind inside b.knows) w;
    }

-- ---- the place of a result

pub result_number : (n : ℕ) (written : Option Written) (ty : Option Ty) (place : Declared) → result_at n written ty ≡ Some place → place.number ≡ n
result_number n (Some t) (Some ty) place e = ap (λ (d : Declared). d.number) (sym (some_one e))
result_number n (Some t) None place e = none_some e
result_number n None ty place e = none_some e

pub result_type : (facts : Facts) (n : ℕ) (written : Option Written) (ty : Option Ty) → IfSound facts ty → IfSound facts (type_given (result_at n written ty))
result_type facts n (Some t) (Some ty) s = s
result_type facts n (Some t) None s = tt
result_type facts n None ty s = tt

-- ---- a procedure with its body

-- the head that is known has the signature
pub same_signature : (st : State) (at : Place) (h : Head) (b : Bool) (s : Signature) (k : Headed) → head_by st at h b s ≡ Ok k → s ≡ k.signature
same_signature st at h b s k e =
    let c =
    then_is (completion_rule st at b (parameters_of s.params) s.gives (earlier (procedure_name h.name) (parameters_of s.params) (own_entries st)))
    (λ completed. and_then (if_typed (head_fits st.env h (has_pragma is_borrow h.pragmas) b (parameters_of s.params) s.gives) at) (λ _.
    Ok (headed st h s completed))) k e in
    let t =
    then_is (if_typed (head_fits st.env h (has_pragma is_borrow h.pragmas) b (parameters_of s.params) s.gives) at)
    (λ _. Ok (headed st h s c.value)) k c.next in
    ap (λ (k : Headed). k.signature) (ok_one t.next)

-- the head says nothing of types
pub same_said : (st : State) (at : Place) (h : Head) (k : Headed) → (behind_head st at h k).env.facts ≡ st.env.facts
same_said st at h k = by_test k.is_new
  where
    by_test : (b : Bool) → (if b then with_procedure st at h k else st).env.facts ≡ st.env.facts
    by_test true = refl
    by_test false = refl

-- where the body of a procedure begins
pub procedure_begins : {st : State} {at : Place} {h : Head} {b : Bool} {k : Headed} → IsHead st at h b k → (here : Here) → At here st
    → At here (behind_head st at h k)
    → At (with_places (with_places here (given_places (behind_head st at h k).place k.signature.params))
    (if_declared (result_of (behind_head st at h k) h k))) (before_body (behind_head st at h k) h k)
procedure_begins {st} {at} {h} {b} {k} (R.h_head {s = sig} g e) here before behind =
    let st' = behind_head st at h k in
    let facts = same_said st at h k in
    let q = subst (λ sig. SignatureSound here st sig) (same_signature st at h b sig k e) (signature_sound g here before) in
    let n = st'.place + length k.signature.params in
    body_begins here st' h k behind (subst (λ f. ParametersSound here.facts f k.signature.params) (sym facts) q.parameters)
    (result_type here.facts n h.gives k.signature.gives q.result)
    (result_type st'.env.facts n h.gives k.signature.gives (subst (λ f. IfSound f k.signature.gives) (sym facts) q.own_result))
    (λ place i. result_number n h.gives k.signature.gives place i)

module _ (calls : CallsComputed) (nodes : NodesComputed) (covers : EnoughComputed) (preserved : Preserved) (closed : Closed) (closed_one : ClosedOne)
    (sections : SectionsKept) where
  -- with its parameters and its result in scope, the body is typed
  pub procedure_right : {st : State} {at : Place} {h : Head} {b : Bool} {k : Headed} → IsHead st at h b k → (here : Here) → At here st
      → At here (behind_head st at h k) → (body : Statements) (s : Stated) → StatementsRead body
      → AreStated (in_body (result_of (behind_head st at h k) h k)) (result_of (behind_head st at h k) h k)
      (before_body (behind_head st at h k) h k) body s → InEnd here s.state
      → (is_typed_block (with_places here (own_places (behind_head st at h k) h k)) (T.procedure (type_given (result_of (behind_head st at h k) h k)))
      (block_of s.steps) ≡ true) × At here (left (behind_head st at h k) s.state)
  procedure_right {st} {at} {h} {b} {k} (R.h_head {s = sig} g e) here before behind body s read is end =
      let st' = behind_head st at h k in
      let facts = same_said st at h k in
      let q = subst (λ sig. SignatureSound here st sig) (same_signature st at h b sig k e)
      (signature_sound g here before) in
      let n = st'.place + length k.signature.params in
      body_right calls nodes covers preserved closed closed_one sections here st' h k body s behind
      (subst (λ f. ParametersSound here.facts f k.signature.params) (sym facts) q.parameters)
      (result_type here.facts n h.gives k.signature.gives q.result)
      (result_type st'.env.facts n h.gives k.signature.gives (subst (λ f. IfSound f k.signature.gives) (sym facts) q.own_result))
      (λ place i. result_number n h.gives k.signature.gives place i) read is end
