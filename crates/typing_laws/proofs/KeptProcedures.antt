-- A procedure keeps what module code keeps.
use Rattle.std.proofs.Common.{◌≡◌, ℕ, ◌+◌, ◌≤◌, Bool, true, false, List, [], ◌∷◌, ◌++◌, length, Some, None, refl, sym, ap, subst}
use Rattle.std.proofs.Common.{◌∙◌, append-nil, arith}
use Rattle.std.specs.Prelude.{◌||◌, nat_eq, map, if◌then◌else◌, slice_get, slice_set}
use Rattle.std.proofs.lemmas.Bool.{eqb-true, eqb-false, ne_eqb}
use Rattle.std.proofs.lemmas.Option.{slice_get_within}
use Rattle.arc_base.specs.declared.place.Place.{Place}
use Rattle.nim_tree.specs.Statements as tree
use Rattle.nim_tree.specs.Statements.{Head, Statements}
use Rattle.nim_program.specs.Program.{Proc}
use Rattle.nim_program.specs.Scopes.{placed}
use Rattle.expr_rules.specs.Env.{Procedure}
use Rattle.expr_rules.specs.Numbers.{Run, run_over, run_on}
use Rattle.decl_rules.specs.State.{Item, announces, completes, code, is_completed, in_body, State, Stated, block_of}
use Rattle.decl_rules.specs.Heads.{Headed}
use Rattle.decl_rules.specs.Bodies.{result_of, procedure_entry, proc_of, announced, with_procedure, behind_head, before_body, body_of, with_body, without_body}
use Rattle.decl_rules.specs.Bodies.{behind_body}
use Rattle.decl_rules.specs.Stated.{has_statements}
use Rattle.decl_rules.specs.Places.{ProcedureNumbered}
use Rattle.decl_rules.specs.Rules.{IsHead, AreStated}
use Rattle.typing_laws.specs.Knows.{AreOf}
use Rattle.typing_laws.proofs.Tests.{ever, never, some_one}
use Rattle.typing_laws.proofs.Growing.{Under, under_more}
use Rattle.typing_laws.proofs.Further.{no_further}
use Rattle.typing_laws.proofs.Grows.{all_grow}
use Rattle.typing_laws.proofs.Noted.{Noted, Same, all_same}
use Rattle.typing_laws.proofs.Text.{behind, EachBody, behind_both, each_both, each_so, each_other, never_completed}
use Rattle.typing_laws.proofs.Served.{Served, Unless, EntriesServed, served_more, still_served}
use Rattle.typing_laws.proofs.Lists.{get_front, get_last, set_same, set_other, few_below, placed_length}
use Rattle.typing_laws.proofs.Kept.{HasBody, Kept, Later, later_then, later_same, same_reading}
use Rattle.typing_laws.proofs.Headings.{called, Heading, a_new_one, an_earlier, head_is, own_parameters, other_parameters, completing}

pub run_below : {n m : ℕ} {ns : List ℕ} → Run n ns m → n ≤ m
run_below run_over = omega arith
run_below (run_on r) = let l = run_below r in omega (arith, l)

-- ---- behind a head

pub record BehindHead (st x : State) (k : Headed) : Type 0 where
  pub kept : Kept x
  pub later : Later st x
  pub served : Served x.procs (called k)
  pub awaited : is_completed k.number x.text ≡ false

completed_both : (n : ℕ) (xs ys : List Item) → is_completed n (xs ++ ys) ≡ (is_completed n xs || is_completed n ys)
completed_both n [] ys = refl
completed_both n (announces q at ∷ xs) ys = completed_both n xs ys
completed_both n (completes q stmts ∷ xs) ys =
    ap (λ b. nat_eq n q || b) (completed_both n xs ys) ∙ either (nat_eq n q) (is_completed n xs) (is_completed n ys)
  where
    either : (a b c : Bool) → (a || (b || c)) ≡ ((a || b) || c)
    either true b c = refl
    either false b c = refl
completed_both n (code stmts ∷ xs) ys = completed_both n xs ys

nothing_completed : (n k : ℕ) (at : Place) (head : Headed) → is_completed n (announced at head) ≡ false
nothing_completed n k at head = by_test head.borrowed
  where
    by_test : (b : Bool) → is_completed n (if b then [] else announces head.number at ∷ []) ≡ false
    by_test true = refl
    by_test false = refl

each_announced : (holds : ℕ → ℕ → Type 0) (k : ℕ) (at : Place) (head : Headed) → EachBody holds k (announced at head)
each_announced holds k at head = by_test head.borrowed
  where
    by_test : (b : Bool) → EachBody holds k (if b then [] else announces head.number at ∷ [])
    by_test true = tt
    by_test false = tt

behind_announced : (k : ℕ) (at : Place) (head : Headed) → behind k (announced at head) ≡ k
behind_announced k at head = by_test head.borrowed
  where
    by_test : (b : Bool) → behind k (if b then [] else announces head.number at ∷ []) ≡ k
    by_test true = refl
    by_test false = refl

module _ (st : State) (at : Place) (h : Head) (k : Headed) (kept : Kept st) where
  one_more : (p : Procedure) → Served st.procs p → Served (st.procs ++ proc_of at h k st.place None ∷ []) p
  one_more p s = record { proc = s.proc; there = get_front st.procs (proc_of at h k st.place None ∷ []) p.number s.proc s.there; serves = s.serves }

  own_served : k.number ≡ length st.procs → Served (st.procs ++ proc_of at h k st.place None ∷ []) (called k)
  own_served e =
      record {
        proc = proc_of at h k st.place None;
        there = ap (slice_get (st.procs ++ proc_of at h k st.place None ∷ [])) e ∙ get_last st.procs (proc_of at h k st.place None) [];
        serves = record { no_hook = refl; types = refl; gives = refl; params = own_parameters st.place k.signature.params };
      }

  if_called : (procs : List Proc) → Served procs (called k) → EntriesServed procs (procedure_entry h k ∷ [])
  if_called procs s = (by_test k.borrowed, tt)
    where
      by_test : (b : Bool) → Unless b (Served procs (called k))
      by_test true = tt
      by_test false = s

  with_one_body : (q i : ℕ) → HasBody st.procs st.globals st.place q i → HasBody (st.procs ++ proc_of at h k st.place None ∷ []) st.globals st.place q i
  with_one_body q i b =
      record {
        proc = b.proc;
        there = get_front st.procs (proc_of at h k st.place None ∷ []) q b.proc b.there;
        body = b.body;
        has = b.has;
        few = b.few;
        first = b.first;
      }

  pub new_head : k.number ≡ length st.procs → BehindHead st (with_procedure st at h k) k
  new_head e =
      record {
        kept = record {
          reading = record {
            served = served_more new st.env.entries (procedure_entry h k ∷ []) (still_served st.procs new one_more st.env.entries kept.reading.served)
                (if_called new (own_served e));
            bodies = each_both (HasBody new st.globals st.place) 0 st.text (announced at k)
                (each_so (HasBody st.procs st.globals st.place) (HasBody new st.globals st.place) 0 st.text with_one_body kept.reading.bodies)
                (each_announced (HasBody new st.globals st.place) (behind 0 st.text) at k);
            under = kept.reading.under;
          };
          globals = behind_both 0 st.text (announced at k) ∙ behind_announced (behind 0 st.text) at k ∙ kept.globals;
        };
        later = record {
          globals = record { more = []; is = sym (append-nil st.globals); later = tt };
          text = record { more = announced at k; is = refl };
          serving = one_more;
          place = omega arith;
          facts = no_further st.env.facts;
        };
        served = own_served e;
        awaited = completed_both k.number st.text (announced at k)
            ∙ ap (λ b. b || is_completed k.number (announced at k))
            (never_completed (HasBody st.procs st.globals st.place) k.number 0 st.text apart kept.reading.bodies)
            ∙ nothing_completed k.number 0 at k;
      }
    where
      new : List Proc
      new = st.procs ++ proc_of at h k st.place None ∷ []

      -- no body has the number of a new one
      apart : (q i : ℕ) → HasBody st.procs st.globals st.place q i → nat_eq k.number q ≡ false
      apart q i b =
          ne_eqb k.number q (λ f. let l = slice_get_within st.procs q b.proc b.there in absurd (omega (arith, e, f, l)))

pub head_kept : {st : State} {at : Place} {h : Head} {b : Bool} {k : Headed} → IsHead st at h b k → Kept st → BehindHead st (behind_head st at h k) k
head_kept {st} {at} {h} {b} {k} is kept = by_heading (head_is is).heading
  where
    behind_new : (n : Bool) → n ≡ true → BehindHead st (with_procedure st at h k) k → BehindHead st (if n then with_procedure st at h k else st) k
    behind_new true e r = r
    behind_new false e r = never e

    behind_old : (n : Bool) → n ≡ false → BehindHead st st k → BehindHead st (if n then with_procedure st at h k else st) k
    behind_old true e r = ever e
    behind_old false e r = r

    by_heading : Heading st h b k → BehindHead st (behind_head st at h k) k
    by_heading (a_new_one e n) = behind_new k.is_new n (new_head st at h k kept e)
    by_heading (an_earlier c) =
        let w = completing st h b k c kept.reading.served in
        behind_old k.is_new c.old
        (record { kept = kept; later = later_same st st refl (omega arith) (no_further st.env.facts); served = w.served; awaited = w.awaited })

-- ---- behind a body

module _ (places : ProcedureNumbered) (st : State) (at : Place) (h : Head) (k : Headed) (body : Statements) (s : Stated)
    (is : AreStated (in_body (result_of st h k)) (result_of st h k) (before_body st h k) body s) (kept : Kept st)
    (served : Served st.procs (called k)) (awaited : is_completed k.number st.text ≡ false) where
  abbrev whole : Proc
  whole = proc_of at h k st.place (Some (body_of st h k s))

  same : Same st s.state
  same = all_same is refl

  later_place : st.place ≤ s.state.place
  later_place = run_below (places st h k body s is)

  now_serves : (p : Procedure) → Served st.procs p → Served (slice_set st.procs k.number whole) p
  now_serves p s = by_test (nat_eq p.number k.number) refl
    where
      by_test : (b : Bool) → nat_eq p.number k.number ≡ b → Served (slice_set st.procs k.number whole) p
      by_test true e =
          let n = eqb-true p.number k.number e in
          let same_proc : s.proc ≡ served.proc = some_one (sym s.there ∙ ap (slice_get st.procs) n ∙ served.there) in
          record {
            proc = whole;
            there = ap (slice_get (slice_set st.procs k.number whole)) n ∙ set_same st.procs k.number whole served.proc served.there;
            serves = record {
              no_hook = refl;
              types = refl;
              gives = sym served.serves.gives ∙ sym (ap (λ (q : Proc). q.gives) same_proc) ∙ s.serves.gives;
              params = other_parameters s.serves.params st.place k.signature.params
                  (subst (λ (q : Proc). AreOf (called k).params q.params) (sym same_proc) served.serves.params);
            };
          }
      by_test false e =
          record {
            proc = s.proc;
            there = set_other st.procs k.number p.number whole (eqb-false p.number k.number e) ∙ s.there;
            serves = s.serves;
          }

  abbrev Now : ℕ → ℕ → Type 0
  Now = HasBody (slice_set st.procs k.number whole) st.globals s.state.place

  others_stay : (q i : ℕ) → nat_eq k.number q ≡ false → HasBody st.procs st.globals st.place q i → Now q i
  others_stay q i n b =
      record {
        proc = b.proc;
        there = set_other st.procs k.number q whole (λ e. eqb-false k.number q n (sym e)) ∙ b.there;
        body = b.body;
        has = b.has;
        few = b.few;
        first = let l = later_place in omega (arith, b.first, l);
      }

  this_body : Now k.number (behind 0 st.text)
  this_body =
      record {
        proc = whole;
        there = set_same st.procs k.number whole served.proc served.there;
        body = body_of st h k s;
        has = refl;
        few = let l = few_below st.place (map placed st.globals) in let n = placed_length st.globals in let m = kept.globals in omega (arith, l, n, m);
        first = later_place;
      }

  pub body_kept : Kept (with_body st at h k s) × Later st (with_body st at h k s)
  body_kept = (
    record {
      reading = record {
        served = subst (λ (m : Noted). EntriesServed (slice_set m.procs k.number whole) st.env.entries) (sym same)
            (still_served st.procs (slice_set st.procs k.number whole) now_serves st.env.entries kept.reading.served);
        bodies = subst (λ (m : Noted). EachBody (HasBody (slice_set m.procs k.number whole) m.globals s.state.place) 0
            (m.text ++ completes k.number (block_of s.steps) ∷ [])) (sym same)
            (each_both Now 0 st.text (completes k.number (block_of s.steps) ∷ [])
            (each_other (HasBody st.procs st.globals st.place) Now k.number 0 st.text others_stay awaited kept.reading.bodies) (this_body, tt));
        under = subst (λ (m : Noted). Under s.state.place (map placed m.globals)) (sym same)
            (under_more st.place s.state.place (map placed st.globals) later_place kept.reading.under);
      };
      globals = subst (λ (m : Noted). behind 0 (m.text ++ completes k.number (block_of s.steps) ∷ []) ≡ length m.globals) (sym same)
          (behind_both 0 st.text (completes k.number (block_of s.steps) ∷ []) ∙ kept.globals);
    },
    record {
      globals = record { more = []; is = ap (λ (m : Noted). m.globals) same ∙ sym (append-nil st.globals); later = tt };
      text = record {
        more = completes k.number (block_of s.steps) ∷ [];
        is = ap (λ (m : Noted). m.text ++ completes k.number (block_of s.steps) ∷ []) same;
      };
      serving = λ p q. subst (λ (m : Noted). Served (slice_set m.procs k.number whole) p) (sym same) (now_serves p q);
      place = later_place;
      facts = all_grow is;
    },
  )

-- a procedure, with its body or without
pub no_body_kept : (st : State) (k : Headed) → Kept st → Kept (without_body st k) × Later st (without_body st k)
no_body_kept st k kept = by_test k.borrowed
  where
    further : State
    further = record st { place = st.place + length k.signature.params }

    by_test : (b : Bool) → Kept (if b then further else st) × Later st (if b then further else st)
    by_test true = (
      record { reading = same_reading st further refl (omega arith) kept.reading.served kept.reading; globals = kept.globals },
      later_same st further refl (omega arith) (no_further st.env.facts),
    )
    by_test false = (kept, later_same st st refl (omega arith) (no_further st.env.facts))

pub procedure_kept : ProcedureNumbered → {st : State} {at : Place} {h : Head} {k : Headed} (body : Statements) {s : Stated}
    → IsHead st at h (has_statements body) k
    → AreStated (in_body (result_of (behind_head st at h k) h k)) (result_of (behind_head st at h k) h k) (before_body (behind_head st at h k) h k) body s
    → Kept st → Kept (behind_body (has_statements body) (behind_head st at h k) at h k s)
    × Later st (behind_body (has_statements body) (behind_head st at h k) at h k s)
procedure_kept places {st} {at} {h} {k} tree.empty {s} i is kept =
    let b = head_kept i kept in
    let r = no_body_kept (behind_head st at h k) k b.kept in (r.0, later_then b.later r.1)
procedure_kept places {st} {at} {h} {k} (tree.then first rest) {s} i is kept =
    let b = head_kept i kept in
    let r = body_kept places (behind_head st at h k) at h k (tree.then first rest) s is b.kept b.served b.awaited in (r.0, later_then b.later r.1)
