-- What is found of the head of a procedure: it is a new one, or the scope has it and waits for its body.
use Rattle.std.proofs.Common.{◌≡◌, ℕ, zero, suc, Bool, true, false, List, [], ◌∷◌, length, Option, Some, None, refl, sym, ap, subst, ◌∙◌}
use Rattle.std.specs.Prelude.{◌&&◌, ◌||◌, not, drop, if◌then◌else◌, slice_get, Ok}
use Rattle.std.proofs.lemmas.Bool.{and_parts}
use Rattle.arc_base.specs.declared.place.Place.{Place}
use Rattle.arc_base.specs.Refusal.{and_then}
use Rattle.nim_tree.specs.Statements.{Head}
use Rattle.nim_types.specs.Types.{Ty, same, same_text}
use Rattle.nim_program.specs.declared.program.Mode.{Mode}
use Rattle.nim_program.specs.declared.program.Mode.TheVariants as M
use Rattle.nim_program.specs.Program.{Param, Proc}
use Rattle.expr_rules.specs.Env.{Parameter, Procedure, Entry, variable, constant, named, pending, procedure, input, name_in}
use Rattle.expr_rules.specs.Answers.{Answer}
use Rattle.expr_rules.specs.Choices.{same_value}
use Rattle.decl_rules.specs.State.{State, own_entries, if_typed, is_completed}
use Rattle.decl_rules.specs.Heads.{Given, Signature, parameters_of, procedure_name, same_mode, same_types, same_modes, Earlier, nothing_earlier, one_earlier}
use Rattle.decl_rules.specs.Heads.{no_procedure, earlier, earlier_by, completes_if, is_completion, is_awaited, completion_rule, has_pragma, is_borrow}
use Rattle.decl_rules.specs.Heads.{head_fits, head_by, Headed, headed}
use Rattle.decl_rules.specs.Bodies.{params_from}
use Rattle.decl_rules.specs.Rules as R
use Rattle.decl_rules.specs.Rules.{IsSignature, IsHead}
use Rattle.typing_laws.specs.Knows.{AreOf, none_of, one_of}
use Rattle.typing_laws.proofs.Tests.{never, ok_one, the_same}
use Rattle.typing_laws.proofs.Arms.{then_is}
use Rattle.typing_laws.proofs.Served.{Served, Unless, EntryServed, EntriesServed}

-- the procedure as it is called
abbrev pub called : Headed → Procedure
called k = record { number = k.number; params = parameters_of k.signature.params; gives = k.signature.gives; borrowed = k.borrowed }

-- an earlier one of the scope that it completes
pub record Completes (st : State) (h : Head) (b : Bool) (k : Headed) : Type 0 where
  pub earlier_one : Procedure
  pub found : earlier (procedure_name h.name) (parameters_of k.signature.params) (own_entries st) ≡ one_earlier earlier_one
  pub number : k.number ≡ earlier_one.number
  pub old : k.is_new ≡ false
  pub is : is_completion st.text b (parameters_of k.signature.params) k.signature.gives earlier_one ≡ true

pub data Heading (st : State) (h : Head) (b : Bool) (k : Headed) : Type 0 where
  a_new_one : k.number ≡ length st.procs → k.is_new ≡ true → Heading st h b k
  an_earlier : Completes st h b k → Heading st h b k

pub record HeadIs (st : State) (h : Head) (b : Bool) (k : Headed) : Type 0 where
  pub signature : IsSignature st h k.signature
  pub fits : head_fits st.env h k.borrowed b (parameters_of k.signature.params) k.signature.gives ≡ true
  pub heading : Heading st h b k

heading : (st : State) (at : Place) (h : Head) (b : Bool) (s : Signature) (e : Earlier) → earlier (procedure_name h.name) (parameters_of s.params)
    (own_entries st) ≡ e → (completed : Option ℕ) → completion_rule st at b (parameters_of s.params) s.gives e ≡ Ok completed
    → Heading st h b (headed st h s completed)
heading st at h b s nothing_earlier f completed c =
    subst (λ o. Heading st h b (headed st h s o)) (ok_one c) (a_new_one refl refl)
heading st at h b s (one_earlier p) f completed c = by_test (is_completion st.text b (parameters_of s.params) s.gives p) refl c
  where
    by_test : (t : Bool) → is_completion st.text b (parameters_of s.params) s.gives p ≡ t → completes_if t at p ≡ Ok completed
        → Heading st h b (headed st h s completed)
    by_test true e c =
        subst (λ o. Heading st h b (headed st h s o)) (ok_one c)
        (an_earlier (record { earlier_one = p; found = f; number = refl; old = refl; is = e }))
    by_test false e c = cc
heading st at h b s no_procedure f completed c = cc

typed : (at : Place) (t : Bool) (x : Unit {0}) → ◌≡◌ {A = Answer (Unit {0})} (if_typed t at) (Ok x) → t ≡ true
typed at true x e = refl
typed at false x e = cc

-- what is found by a signature
pub record HeadedBy (st : State) (h : Head) (b : Bool) (s : Signature) (k : Headed) : Type 0 where
  pub signature : k.signature ≡ s
  pub fits : head_fits st.env h k.borrowed b (parameters_of k.signature.params) k.signature.gives ≡ true
  pub heading : Heading st h b k

pub headed_by : (st : State) (at : Place) (h : Head) (b : Bool) (s : Signature) (k : Headed) → head_by st at h b s ≡ Ok k → HeadedBy st h b s k
headed_by st at h b s k e =
    let found = earlier (procedure_name h.name) (parameters_of s.params) (own_entries st) in
    let c =
    then_is (completion_rule st at b (parameters_of s.params) s.gives found)
    (λ completed. and_then (if_typed (head_fits st.env h (has_pragma is_borrow h.pragmas) b (parameters_of s.params) s.gives) at) (λ _.
    Ok (headed st h s completed))) k e in
    let t =
    then_is (if_typed (head_fits st.env h (has_pragma is_borrow h.pragmas) b (parameters_of s.params) s.gives) at)
    (λ _. Ok (headed st h s c.value)) k c.next in
    subst (HeadedBy st h b s) (ok_one t.next) (record {
      signature = refl;
      fits = typed at (head_fits st.env h (has_pragma is_borrow h.pragmas) b (parameters_of s.params) s.gives) t.value t.is;
      heading = heading st at h b s found refl c.value c.is;
    })

pub head_is : {st : State} {at : Place} {h : Head} {b : Bool} {k : Headed} → IsHead st at h b k → HeadIs st h b k
head_is {st} {at} {h} {b} {k} (R.h_head {s = s} g e) =
    let found = headed_by st at h b s k e in
    record { signature = subst (IsSignature st h) (sym found.signature) g; fits = found.fits; heading = found.heading }

-- ---- what completes what

module _ (procs : List Proc) where
  dropped_served : (n : ℕ) (es : List Entry) → EntriesServed procs es → EntriesServed procs (drop n es)
  dropped_served zero es h = h
  dropped_served (suc n) [] h = tt
  dropped_served (suc n) (e ∷ es) h = dropped_served n es h.1

  abbrev Found : List Parameter → Procedure → Type 0
  Found params c = Unless c.borrowed (Served procs c) × (same_types c.params params ≡ true)

  earlier_served : (x : List ℕ) (params : List Parameter) (es : List Entry) (c : Procedure) → earlier x params es ≡ one_earlier c
      → EntriesServed procs es → Found params c
  earlier_served x params [] c e h = cc
  earlier_served x params (entry ∷ rest) c e h = by_test (same_text x (name_in entry)) e (λ e. earlier_served x params rest c e h.1)
    where
      found_one : (p q : Procedure) → one_earlier p ≡ one_earlier q → p ≡ q
      found_one p q e = cc

      by_types : (p : Procedure) (t : Bool) → same_types p.params params ≡ t → EntryServed procs (procedure x p)
          → (if t then one_earlier p else earlier x params rest) ≡ one_earlier c → (earlier x params rest ≡ one_earlier c → Found params c)
          → Found params c
      by_types p true f s e go = subst (Found params) (found_one p c e) (s, f)
      by_types p false f s e go = go e

      by_entry : (entry : Entry) → EntryServed procs entry → earlier_by params entry (earlier x params rest) ≡ one_earlier c
          → (earlier x params rest ≡ one_earlier c → Found params c) → Found params c
      by_entry (variable name place of writable global) s e go = cc
      by_entry (constant name of value) s e go = cc
      by_entry (named name of) s e go = cc
      by_entry (pending name) s e go = cc
      by_entry (procedure name p) s e go = by_types p (same_types p.params params) refl s e go
      by_entry (input name) s e go = cc

      by_test : (t : Bool) → (if t then earlier_by params entry (earlier x params rest) else earlier x params rest) ≡ one_earlier c
          → (earlier x params rest ≡ one_earlier c → Found params c) → Found params c
      by_test true e go = by_entry entry h.0 e go
      by_test false e go = go e

the_mode : (m n : Mode) → same_mode m n ≡ true → m ≡ n
the_mode M.Plain M.Plain e = refl
the_mode M.Sink M.Sink e = refl
the_mode M.Var M.Var e = refl
the_mode M.Plain M.Sink e = never e
the_mode M.Plain M.Var e = never e
the_mode M.Sink M.Plain e = never e
the_mode M.Sink M.Var e = never e
the_mode M.Var M.Plain e = never e
the_mode M.Var M.Sink e = never e

-- equal types and modes are those of the same parameters
of_same : {cs : List Parameter} {qs : List Param} → AreOf cs qs → (ds : List Parameter) → same_types cs ds ≡ true → same_modes cs ds ≡ true → AreOf ds qs
of_same none_of [] t m = none_of
of_same none_of (d ∷ ds) t m = never t
of_same (one_of e f rest) [] t m = never t
of_same (one_of {p = p} {ps = ps} e f rest) (d ∷ ds) t m =
    let a = and_parts (same p.of d.of) (same_types ps ds) t in
    let b = and_parts (same_mode p.mode d.mode) (same_modes ps ds) m in
    one_of (e ∙ the_same {s = p.of} {t = d.of} a.0) (f ∙ the_mode p.mode d.mode b.0) (of_same rest ds a.1 b.1)

same_value_is : (s t : Option Ty) → same_value s t ≡ true → s ≡ t
same_value_is None None e = refl
same_value_is None (Some t) e = never e
same_value_is (Some s) None e = never e
same_value_is (Some s) (Some t) e = ap (λ t. Some t) (the_same {s = s} {t = t} e)

-- a head's own parameters
pub own_parameters : (n : ℕ) (gs : List Given) → AreOf (parameters_of gs) (params_from n gs)
own_parameters n [] = none_of
own_parameters n (g ∷ gs) = one_of refl refl (own_parameters (suc n) gs)

-- what is of the same parameters as those of a head
pub other_parameters : {ps : List Parameter} {qs : List Param} → AreOf ps qs → (n : ℕ) (gs : List Given) → AreOf (parameters_of gs) qs
    → AreOf ps (params_from n gs)
other_parameters none_of n [] h = none_of
other_parameters none_of n (g ∷ gs) h = elim h [ ]
other_parameters (one_of e f rest) n [] h = elim h [ ]
other_parameters (one_of e f rest) n (g ∷ gs) (one_of i j more) = one_of (sym i ∙ e) (sym j ∙ f) (other_parameters rest (suc n) gs more)

neither : (a b : Bool) → not (a || b) ≡ true → (a ≡ false) × (b ≡ false)
neither true b e = never e
neither false true e = never e
neither false false e = (refl, refl)

-- the completed one is served, and its body is awaited
pub record IsAwaited (st : State) (k : Headed) : Type 0 where
  pub served : Served st.procs (called k)
  pub awaited : is_completed k.number st.text ≡ false

pub completing : (st : State) (h : Head) (b : Bool) (k : Headed) → Completes st h b k → EntriesServed st.procs st.env.entries → IsAwaited st k
completing st h b k c s =
    let p = c.earlier_one in
    let params = parameters_of k.signature.params in
    let f = earlier_served st.procs (procedure_name h.name) params (own_entries st) p c.found (dropped_served st.procs st.outside st.env.entries s) in
    let a = and_parts (b && is_awaited st.text p) (same_modes p.params params && same_value p.gives k.signature.gives) c.is in
    let w = neither p.borrowed (is_completed p.number st.text) (and_parts b (is_awaited st.text p) a.0).1 in
    let m = and_parts (same_modes p.params params) (same_value p.gives k.signature.gives) a.1 in
    let served : Served st.procs p = subst (λ b. Unless b (Served st.procs p)) w.0 f.0 in
    record {
      served = record {
        proc = served.proc;
        there = ap (slice_get st.procs) c.number ∙ served.there;
        serves = record {
          no_hook = served.serves.no_hook;
          types = served.serves.types;
          gives = served.serves.gives ∙ same_value_is p.gives k.signature.gives m.1;
          params = of_same served.serves.params params f.1 m.0;
        };
      };
      awaited = ap (λ n. is_completed n st.text) c.number ∙ w.1;
    }
