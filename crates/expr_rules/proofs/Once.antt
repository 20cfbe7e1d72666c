-- Each term is typed in one way, or refused in one way.
use Rattle.std.proofs.Common.{◌≡◌, ℕ, sym, ap, inl, inr, ◌∙◌}
use Rattle.std.specs.Prelude.{◌⊎◌, Ok, Err}
use Rattle.arc_base.specs.declared.place.Place.{Place}
use Rattle.arc_base.specs.declared.place.Code.{Code}
use Rattle.arc_base.specs.Refusal.{Refusal}
use Rattle.nim_tree.specs.Terms.{Term}
use Rattle.nim_program.specs.Program.{Expr}
use Rattle.expr_rules.specs.Env.{Env}
use Rattle.expr_rules.specs.Answers.{Answer, Typed, typed_as, Want}
use Rattle.expr_rules.specs.Laws.{HasNode, HasRefusal, EachTerm, OneNode, OneRefusal, NotBoth, NodesComputed, RefusalsComputed}
use Rattle.expr_rules.proofs.Means.{m_ok, m_err, means_ok, means_err}
use Rattle.expr_rules.proofs.Steps.{TypedSo}
use Rattle.expr_rules.proofs.Sound.{typed_sound}
use Rattle.expr_rules.proofs.Complete.{typed_complete}
use Rattle.expr_rules.proofs.RefusalsComplete.{refused_complete}

either : {env : Env} {want : Want} {n : ℕ} {t : Term} {answer : Answer Typed} → TypedSo env want n t answer → HasNode env want n t ⊎ HasRefusal env want n t
either (m_ok {a = x} h) = inl (x.expr, x.next, h)
either (m_err {f = w} h) = inr (w.code, w.at, h)

pub each_term : EachTerm
each_term env want n t = either (typed_sound env want n t)

-- what an answer gives is one thing
expr_in : Expr → Answer Typed → Expr
expr_in e (Ok x) = x.expr
expr_in e (Err w) = e

next_in : ℕ → Answer Typed → ℕ
next_in n (Ok x) = x.next
next_in n (Err w) = n

code_in : Code → Answer Typed → Code
code_in c (Ok x) = c
code_in c (Err w) = w.code

place_in : Place → Answer Typed → Place
place_in p (Ok x) = p
place_in p (Err w) = w.at

pub one_node : OneNode
unfolding expr_in next_in
one_node env want n m k t e f h g =
    let same : ◌≡◌ {A = Answer Typed} (Ok (typed_as f k)) (Ok (typed_as e m)) = sym (typed_complete g) ∙ typed_complete h in
    (ap (expr_in e) same, ap (next_in m) same)

pub one_refusal : OneRefusal
unfolding code_in place_in
one_refusal env want n t c d p q h g =
    let same : ◌≡◌ {A = Answer Typed} (Err (record { code = d; at = q })) (Err (record { code = c; at = p })) =
    sym (refused_complete g) ∙ refused_complete h in
    (ap (code_in c) same, ap (place_in p) same)

ok_or_err : {x : Typed} {w : Refusal} → ◌≡◌ {A = Answer Typed} (Ok x) (Err w) → ⊥
ok_or_err e = cc

pub not_both : NotBoth
not_both env want n m t e c p h g = ok_or_err (sym (typed_complete h) ∙ refused_complete g)

pub nodes_computed : NodesComputed
nodes_computed env want n m t e = (λ h. typed_complete h, λ r. means_ok (typed_sound env want n t) r)

pub refusals_computed : RefusalsComputed
refusals_computed env want n t c p = (λ h. refused_complete h, λ r. means_err (typed_sound env want n t) r)
