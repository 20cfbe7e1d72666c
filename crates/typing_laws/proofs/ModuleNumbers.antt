-- The nodes and places of module code are numbered in order of text, with those of bodies between them.
use Rattle.std.proofs.Common.{◌≡◌, ℕ, zero, suc, ◌+◌, ◌≤◌, Bool, true, false, List, [], ◌∷◌, ◌++◌, length, Some, None, refl, sym, ap, subst}
use Rattle.std.proofs.Common.{◌∙◌, append_assoc, arith}
use Rattle.std.specs.Prelude.{nat_le, if◌then◌else◌, slice_set}
use Rattle.std.proofs.lemmas.Bool.{and_parts, leb-true, le-leb}
use Rattle.std.proofs.lemmas.List.{map-append}
use Rattle.arc_base.specs.declared.place.Place.{Place}
use Rattle.nim_tree.specs.Statements as tree
use Rattle.nim_tree.specs.Statements.{Head, Statement, Statements}
use Rattle.nim_program.specs.declared.nodes.TheConstants.{MOST_NODES}
use Rattle.nim_program.specs.Program.{Declared, Proc}
use Rattle.nim_program.specs.Folds.{Stating, Declaring, Seen, stated, lists, node_numbers, own_places, total_in, totals, total_of, block_nodes, block_places}
use Rattle.nim_program.specs.Numbering.{rise_to, numbers_of, is_numbered_if, are_numbered}
use Rattle.expr_rules.specs.Numbers.{Run}
use Rattle.decl_rules.specs.State.{ResultPlace, in_module, in_body, State, Step, does, declares, defers, Stated, stated_as, block_of, noting}
use Rattle.decl_rules.specs.Heads.{Headed}
use Rattle.decl_rules.specs.Bodies.{proc_of, result_of, with_procedure, behind_head, before_body, body_of, behind_body}
use Rattle.decl_rules.specs.Stated.{has_statements}
use Rattle.decl_rules.specs.Nodes.{NodesNumbered, BodyNumbered}
use Rattle.decl_rules.specs.Places.{is_procedure, PlacesNumbered, ProcedureNumbered}
use Rattle.decl_rules.specs.Elaborated.{Module}
use Rattle.decl_rules.specs.Rules as R
use Rattle.decl_rules.specs.Rules.{IsHead, IsStated, AreStated}
use Rattle.decl_rules.specs.ProgramRules as M
use Rattle.decl_rules.specs.ProgramRules.{AreModules}
use Rattle.typing_laws.proofs.Tests.{both}
use Rattle.typing_laws.proofs.Bodies.{Sort, definitions, a_procedure, other, sort}
use Rattle.typing_laws.proofs.Noted.{Noted, Same, stated_same, all_same}
use Rattle.typing_laws.proofs.Kept.{Kept}
use Rattle.typing_laws.proofs.KeptProcedures.{run_below, procedure_kept}
use Rattle.typing_laws.proofs.KeptCode.{no_procedure, definitions_read, statement_kept, code_kept, module_kept}
use Rattle.typing_laws.proofs.Numbered.{run_rises, same_nodes, body_numbered}

-- ---- numbers that rise

from_before : (a b c : ℕ) (ns : List ℕ) → a ≤ b → rise_to b c ns ≡ true → rise_to a c ns ≡ true
from_before a b c [] l h = let r = leb-true b c h in le-leb a c (omega (arith, l, r))
from_before a b c (n ∷ ns) l h =
    let p = and_parts (nat_le b n) (rise_to (suc n) c ns) h in
    let r = leb-true b n p.0 in both (le-leb a n (omega (arith, l, r))) p.1

rise_then : (a b c : ℕ) (xs ys : List ℕ) → rise_to a b xs ≡ true → rise_to b c ys ≡ true → rise_to a c (xs ++ ys) ≡ true
rise_then a b c [] ys h k = from_before a b c ys (leb-true a b h) k
rise_then a b c (n ∷ xs) ys h k =
    let p = and_parts (nat_le a n) (rise_to (suc n) b xs) h in both p.0 (rise_then (suc n) b c xs ys p.1 k)

pub rise_further : (a b c : ℕ) (xs : List ℕ) → b ≤ c → rise_to a b xs ≡ true → rise_to a c xs ≡ true
rise_further a b c [] l h = let r = leb-true a b h in le-leb a c (omega (arith, l, r))
rise_further a b c (n ∷ xs) l h =
    let p = and_parts (nat_le a n) (rise_to (suc n) b xs) h in both p.0 (rise_further (suc n) b c xs l p.1)

rise_below : (a b : ℕ) (xs : List ℕ) → rise_to a b xs ≡ true → a ≤ b
rise_below a b [] h = leb-true a b h
rise_below a b (n ∷ xs) h =
    let p = and_parts (nat_le a n) (rise_to (suc n) b xs) h in
    let l = leb-true a n p.0 in let r = rise_below (suc n) b xs p.1 in omega (arith, l, r)

-- ---- statements one after another

steps_total : {A : Type 0} (own : Seen → List A) (xs ys : List Step)
    → total_of lists own (block_of (xs ++ ys)) ≡ total_of lists own (block_of xs) ++ total_of lists own (block_of ys)
steps_total own [] ys = refl
steps_total own (does s ∷ xs) ys =
    ap (λ l. total_in lists own s ++ l) (steps_total own xs ys)
    ∙ sym (append_assoc (total_in lists own s) (total_of lists own (block_of xs)) (total_of lists own (block_of ys)))
steps_total own (declares node place cursor value ∷ xs) ys =
    let a = own (stated node (place ∷ []) (Declaring cursor)) in
    let b = totals lists own value in
    let c = total_of lists own (block_of xs) in
    let d = total_of lists own (block_of ys) in
    ap (λ l. a ++ (b ++ l)) (steps_total own xs ys) ∙ ap (λ l. a ++ l) (sym (append_assoc b c d)) ∙ sym (append_assoc a (b ++ c) d)
steps_total own (defers node last ∷ xs) ys =
    let a = own (stated node [] Stating) in
    let b = total_of lists own last in
    let c = total_of lists own (block_of xs) in
    let d = total_of lists own (block_of ys) in
    ap (λ l. a ++ (b ++ l)) (steps_total own xs ys) ∙ ap (λ l. a ++ l) (sym (append_assoc b c d)) ∙ sym (append_assoc a (b ++ c) d)

-- ---- what is numbered

pub record IsNumbered (st : State) (x : Stated) : Type 0 where
  pub nodes : rise_to st.node x.state.node (block_nodes (block_of x.steps)) ≡ true
  pub places : rise_to st.place x.state.place (numbers_of (block_places (block_of x.steps))) ≡ true
  pub procs : x.state.node ≤ MOST_NODES → are_numbered st.procs ≡ true → are_numbered x.state.procs ≡ true

nothing_numbered : (st : State) → IsNumbered st (stated_as [] st)
nothing_numbered st =
    record { nodes = le-leb st.node st.node (omega arith); places = le-leb st.place st.place (omega arith); procs = λ l h. h }

both_numbered : (st : State) (one more : Stated) → IsNumbered st one → IsNumbered one.state more
    → IsNumbered st (stated_as (one.steps ++ more.steps) more.state)
both_numbered st one more h k =
    record {
      nodes = subst (λ ns. rise_to st.node more.state.node ns ≡ true) (sym (steps_total node_numbers one.steps more.steps))
          (rise_then st.node one.state.node more.state.node (block_nodes (block_of one.steps)) (block_nodes (block_of more.steps)) h.nodes k.nodes);
      places = subst (λ ds. rise_to st.place more.state.place (numbers_of ds) ≡ true) (sym (steps_total own_places one.steps more.steps))
          (subst (λ ns. rise_to st.place more.state.place ns ≡ true)
          (sym (map-append (λ (d : Declared). d.number) (block_places (block_of one.steps)) (block_places (block_of more.steps))))
          (rise_then st.place one.state.place more.state.place (numbers_of (block_places (block_of one.steps)))
          (numbers_of (block_places (block_of more.steps))) h.places k.places));
      procs = λ l p. let r = rise_below one.state.node more.state.node (block_nodes (block_of more.steps)) k.nodes in
          k.procs l (h.procs (omega (arith, l, r)) p);
    }

numbered_more : (procs : List Proc) (p : Proc) → are_numbered procs ≡ true → is_numbered_if p.params p.body ≡ true → are_numbered (procs ++ p ∷ []) ≡ true
numbered_more [] p h k = both k refl
numbered_more (q ∷ procs) p h k =
    let a = and_parts (is_numbered_if q.params q.body) (are_numbered procs) h in both a.0 (numbered_more procs p a.1 k)

numbered_set : (procs : List Proc) (n : ℕ) (p : Proc) → are_numbered procs ≡ true → is_numbered_if p.params p.body ≡ true
    → are_numbered (slice_set procs n p) ≡ true
numbered_set [] n p h k = refl
numbered_set (q ∷ procs) zero p h k = both k (and_parts (is_numbered_if q.params q.body) (are_numbered procs) h).1
numbered_set (q ∷ procs) (suc n) p h k =
    let a = and_parts (is_numbered_if q.params q.body) (are_numbered procs) h in both a.0 (numbered_set procs n p a.1 k)

-- behind a head
head_node : (st : State) (at : Place) (h : Head) (k : Headed) → (behind_head st at h k).node ≡ st.node
head_node st at h k = by_test k.is_new
  where
    by_test : (n : Bool) → (if n then with_procedure st at h k else st).node ≡ st.node
    by_test true = refl
    by_test false = refl

head_numbered : (st : State) (at : Place) (h : Head) (k : Headed) → are_numbered st.procs ≡ true → are_numbered (behind_head st at h k).procs ≡ true
head_numbered st at h k p = by_test k.is_new
  where
    by_test : (n : Bool) → are_numbered (if n then with_procedure st at h k else st).procs ≡ true
    by_test true = numbered_more st.procs (proc_of at h k st.place None) p refl
    by_test false = p

module _ (nodes : NodesNumbered) (body_nodes : BodyNumbered) (statements : PlacesNumbered) (procedures : ProcedureNumbered) where
  procedure_numbered : {st : State} {at : Place} {h : Head} {k : Headed} (body : Statements) {s : Stated} → IsHead st at h (has_statements body) k
      → AreStated (in_body (result_of (behind_head st at h k) h k)) (result_of (behind_head st at h k) h k) (before_body (behind_head st at h k) h k) body s
      → Kept st → IsNumbered st (stated_as [] (behind_body (has_statements body) (behind_head st at h k) at h k s))
  procedure_numbered {st} {at} {h} {k} tree.empty {s} head is kept =
      record {
        nodes = subst (λ n. nat_le st.node n ≡ true) (sym (by_test_node k.borrowed ∙ head_node st at h k)) (le-leb st.node st.node (omega arith));
        places = le-leb st.place _ (procedure_kept procedures tree.empty head is kept).1.place;
        procs = λ l p. subst (λ ps. are_numbered ps ≡ true) (sym (by_test_procs k.borrowed)) (head_numbered st at h k p);
      }
    where
      further : State
      further = record (behind_head st at h k) { place = (behind_head st at h k).place + length k.signature.params }

      by_test_node : (b : Bool) → (if b then further else behind_head st at h k).node ≡ (behind_head st at h k).node
      by_test_node true = refl
      by_test_node false = refl

      by_test_procs : (b : Bool) → (if b then further else behind_head st at h k).procs ≡ (behind_head st at h k).procs
      by_test_procs true = refl
      by_test_procs false = refl
  procedure_numbered {st} {at} {h} {k} (tree.then first rest) {s} head is kept =
      let st' = behind_head st at h k in
      let body = tree.then first rest in
      let n = run_below (body_nodes (result_of st' h k) (result_of st' h k) (before_body st' h k) body s is) in
      let m = head_node st at h k in
      let same : Same st' s.state = all_same is refl in
      record {
        nodes = le-leb st.node s.state.node (omega (arith, n, m));
        places = le-leb st.place s.state.place (procedure_kept procedures body head is kept).1.place;
        procs = λ l p. subst (λ (m : Noted). are_numbered (slice_set m.procs k.number (proc_of at h k st'.place (Some (body_of st' h k s)))) ≡ true) (sym same)
            (numbered_set st'.procs k.number (proc_of at h k st'.place (Some (body_of st' h k s))) (head_numbered st at h k p)
            (body_numbered body_nodes procedures st' h k body s is l));
      }

  plain_numbered : {ends : ResultPlace} {st : State} {s : Statement} {x : Stated} → IsStated in_module ends st s x → is_procedure s ≡ false
      → x.state.procs ≡ st.procs → IsNumbered st x
  plain_numbered {ends} {st} {s} {x} h o same =
      let n = nodes in_module ends st s x h o in
      let p = statements in_module ends st s x h o in
      record {
        nodes = run_rises x.state.node (subst (λ ns. Run st.node ns x.state.node) (same_nodes (block_of x.steps)) n) (omega arith);
        places = run_rises x.state.place p (omega arith);
        procs = λ l q. subst (λ ps. are_numbered ps ≡ true) (sym same) q;
      }

  by_sort : {ends : ResultPlace} {st : State} {s : Statement} {x : Stated} → Sort in_module st s x → IsStated in_module ends st s x → Kept st → IsNumbered st x
  by_sort (definitions i h) is kept = plain_numbered is refl (definitions_read h kept.reading).procs
  by_sort (a_procedure {body = body} p head k) is kept = procedure_numbered body head k kept
  by_sort {s = s} (other d) is kept = plain_numbered is (no_procedure s d) (ap (λ (m : Noted). m.procs) (stated_same is d))

  pub code_numbered : {ends : ResultPlace} {st : State} {all : Statements} {x : Stated} → AreStated in_module ends st all x → Kept st → IsNumbered st x
  code_numbered {st = st} R.s_none kept = nothing_numbered st
  code_numbered {st = st} (R.s_more {one = one} {more = more} h k) kept =
      let b = statement_kept statements procedures h kept in
      let q = by_sort (sort h) h kept in
      both_numbered st (stated_as one.steps (noting true one)) more (record { nodes = q.nodes; places = q.places; procs = q.procs }) (code_numbered k b.kept)

  pub modules_numbered : {st : State} {all : List Module} {x : Stated} → AreModules st all x → Kept st → IsNumbered st x
  modules_numbered {st} M.p_none kept = nothing_numbered st
  modules_numbered {st} (M.p_more {m = m} {one = one} {more = more} h k) kept =
      let b = module_kept statements procedures st m.number kept in
      let r = code_kept statements procedures h b.kept in
      let q = code_numbered h b.kept in
      both_numbered st one more (record { nodes = q.nodes; places = q.places; procs = q.procs }) (modules_numbered k r.kept)
