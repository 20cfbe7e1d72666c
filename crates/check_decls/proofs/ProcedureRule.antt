-- Procedures: what the rules say of them, and what is noted.
use Rattle.std.proofs.Common.{◌≡◌, ℕ, List, [], refl, sym, ap, ◌∙◌, subst}
use Rattle.std.proofs.Common.{Some, None}
use Rattle.std.specs.Prelude.{Ok, Err, Bool, true, false, not, ◌||◌, ◌&&◌, Option}
use Rattle.std.proofs.lemmas.Bool.{true≢false, false≢true}
use Rattle.std.proofs.lemmas.Option.{none-some, same_Some}
use Rattle.arc_base.specs.declared.place.Place.{Place}
use Rattle.arc_base.specs.Refusal.{Refusal, and_then}
use Rattle.nim_tree.specs.Statements.{Statements, empty, then, Head, proclaims}
use Rattle.nim_types.specs.Types.{Ty}
use Rattle.nim_program.specs.Program.{Body}
use Rattle.expr_rules.specs.Answers.{Answer}
use Rattle.expr_rules.specs.Env.{Parameter}
use Rattle.decl_rules.specs.State.{State, Stated, stated_as, in_module, in_body, if_typed, left, own_entries, is_completed}
use Rattle.decl_rules.specs.Stated.{stated, all_stated, has_statements}
use Rattle.decl_rules.specs.Heads.{Signature, Headed, Earlier, nothing_earlier, one_earlier, no_procedure, completes_if, is_awaited, is_completion}
use Rattle.decl_rules.specs.Heads.{completion_rule, headed, head_by, head_fits, signature_rule, parameters_of, earlier, procedure_name, has_pragma, is_borrow}
use Rattle.decl_rules.specs.Bodies.{behind_head, before_body, behind_body, body_of, result_of}
use Rattle.check_decls.specs.ViewBodies.{bodied, body_rule, noting_body, proclaim_rule, NumberFits}

-- ---- the rule of a procedure

pub then_then : {A B C : Type 0} (x : Answer A) (f : A → Answer B) (g : B → Answer C) → and_then (and_then x f) g ≡ and_then x (λ a. and_then (f a) g)
then_then (Ok a) f g = refl
then_then (Err e) f g = refl

then_so : {A B : Type 0} (x : Answer A) (f g : A → Answer B) → ((a : A) → f a ≡ g a) → and_then x f ≡ and_then x g
then_so (Ok a) f g e = e a
then_so (Err r) f g e = refl

ended : (x : Answer Stated) (of : Stated → Body) (before : State) (go : State → Option Body → Answer Stated)
    → and_then (and_then x (λ s. Ok (bodied (Some (of s)) (left before s.state)))) (λ y. go y.state y.body) ≡ and_then x
    (λ s. go (left before s.state) (Some (of s)))
ended (Ok s) of before go = refl
ended (Err e) of before go = refl

behind_is : (st : State) (at : Place) (h : Head) (k : Headed) (body : Statements)
    → and_then (all_stated (in_body (result_of st h k)) (result_of st h k) (before_body st h k) body)
    (λ s. Ok (stated_as [] (behind_body (has_statements body) st at h k s)))
    ≡ and_then (body_rule st h k body) (λ x. Ok (stated_as [] (noting_body st at h k x.state x.body)))
behind_is st at h k empty = refl
behind_is st at h k (then first rest) =
    sym (ended (all_stated (in_body (result_of st h k)) (result_of st h k) (before_body st h k) (then first rest)) (body_of st h k) st
    (λ after body. Ok (stated_as [] (noting_body st at h k after body))))

pub proclaimed : (st : State) (at : Place) (h : Head) (body : Statements)
    → stated in_module None st (proclaims at h body)
    ≡ and_then (signature_rule st h) (λ s. and_then (head_by st at h (has_statements body) s) (λ k. proclaim_rule st at h k body))
proclaimed st at h body =
    let has = has_statements body in
    let with_body = λ (behind : State) (k : Headed).
    and_then (all_stated (in_body (result_of behind h k)) (result_of behind h k) (before_body behind h k) body)
    (λ s. Ok (stated_as [] (behind_body has behind at h k s))) in
    let go = λ (k : Headed). with_body (behind_head st at h k) k in
    let next = λ (k : Headed). proclaim_rule st at h k body in
    then_then (signature_rule st h) (λ s. head_by st at h has s) go
    ∙ then_so (signature_rule st h) (λ s. and_then (head_by st at h has s) go) (λ s. and_then (head_by st at h has s) next)
    (λ s. then_so (head_by st at h has s) go next (λ k. behind_is (behind_head st at h k) at h k body))

-- ---- which procedure it is

no_success : {A : Type 0} (refusal : Refusal) (x : A) → ◌≡◌ {A = Answer A} (Err refusal) (Ok x) → ⊥
no_success refusal x e = cc

same_success : {A : Type 0} (x y : A) → ◌≡◌ {A = Answer A} (Ok x) (Ok y) → x ≡ y
same_success x y e = cc

both : (a b : Bool) → (a && b) ≡ true → (a ≡ true) × (b ≡ true)
both true b e = (refl, e)
both false b e = absurd (false≢true e)

neither : (a b : Bool) → not (a || b) ≡ true → b ≡ false
neither true b e = absurd (false≢true e)
neither false true e = absurd (false≢true e)
neither false false e = refl

completion_is : (st : State) (at : Place) (has_body : Bool) (params : List Parameter) (gives : Option Ty) (e : Earlier) (c : Option ℕ) (n : ℕ)
    → completion_rule st at has_body params gives e ≡ Ok c → c ≡ Some n → (is_completed n st.text ≡ false) × (has_body ≡ true)
completion_is st at has_body params gives nothing_earlier c n h e = absurd (none-some n (same_success None c h ∙ e))
completion_is st at has_body params gives (one_earlier p) c n h e = by_test (is_completion st.text has_body params gives p) refl h
  where
    by_test : (b : Bool) → is_completion st.text has_body params gives p ≡ b → completes_if b at p ≡ Ok c
        → (is_completed n st.text ≡ false) × (has_body ≡ true)
    by_test true f g =
        let first = (both (has_body && is_awaited st.text p) _ f).0 in
        let parts = both has_body (is_awaited st.text p) first in
        let number : p.number ≡ n = same_Some p.number n (same_success (Some p.number) c g ∙ e) in
        (ap (λ k. is_completed k st.text) (sym number) ∙ neither p.borrowed (is_completed p.number st.text) parts.1, parts.0)
    by_test false f g = absurd (no_success _ c g)
completion_is st at has_body params gives no_procedure c n h e = absurd (no_success _ c h)

fits_by : (st : State) (h : Head) (s : Signature) (c : Option ℕ) (has_body : Bool)
    → ((n : ℕ) → c ≡ Some n → (is_completed n st.text ≡ false) × (has_body ≡ true)) → NumberFits st (headed st h s c) has_body
fits_by st h s None has_body f = record { next = λ e. refl; waits = λ e. absurd (true≢false e); whole = λ e. absurd (true≢false e) }
fits_by st h s (Some n) has_body f =
    let g = f n refl in
    record { next = λ e. absurd (false≢true e); waits = λ e. g.0; whole = λ e. g.1 }

fits_headed : (st : State) (at : Place) (h : Head) (s : Signature) (k : Headed) (has_body fits : Bool) (x : Answer (Option ℕ))
    → ((c : Option ℕ) (n : ℕ) → x ≡ Ok c → c ≡ Some n → (is_completed n st.text ≡ false) × (has_body ≡ true))
    → and_then x (λ c. and_then (if_typed fits at) (λ _. Ok (headed st h s c))) ≡ Ok k → NumberFits st k has_body
fits_headed st at h s k has_body true (Ok c) f e =
    subst (λ (z : Headed). NumberFits st z has_body) (same_success (headed st h s c) k e) (fits_by st h s c has_body (λ n. f c n refl))
fits_headed st at h s k has_body false (Ok c) f e = absurd (no_success _ k e)
fits_headed st at h s k has_body fits (Err r) f e = absurd (no_success r k e)

pub head_is : (st : State) (at : Place) (h : Head) (has_body : Bool) (s : Signature) (k : Headed) → head_by st at h has_body s ≡ Ok k
    → NumberFits st k has_body
head_is st at h has_body s k e =
    let params = parameters_of s.params in
    fits_headed st at h s k has_body (head_fits st.env h (has_pragma is_borrow h.pragmas) has_body params s.gives)
    (completion_rule st at has_body params s.gives (earlier (procedure_name h.name) params (own_entries st)))
    (λ c n. completion_is st at has_body params s.gives (earlier (procedure_name h.name) params (own_entries st)) c n) e
