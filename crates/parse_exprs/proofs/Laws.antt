-- The computation, the grammar and the faults agree.
use Rattle.std.proofs.Common.{◌≡◌, ℕ, suc, ◌<◌, ◌≤◌, List, true, false, refl, sym, ◌∙◌, inl, inr, arith}
use Rattle.std.specs.Prelude.{Err, ◌⊎◌, max, drop, length}
use Rattle.arc_base.specs.declared.place.Place.{Place}
use Rattle.arc_base.specs.declared.place.Code.{Code}
use Rattle.arc_base.specs.declared.place.Code.TheVariants.{Syntax, NestTooDeep, LeftOut}
use Rattle.arc_base.specs.declared.place.Stop.{Stop}
use Rattle.arc_base.specs.declared.place.Stop.TheVariants.{Refused, Memory}
use Rattle.arc_base.specs.Stops.{OnRefusal}
use Rattle.indent_scanner.specs.declared.token.Token.{Token}
use Rattle.nim_tree.specs.Terms.{Term, levels, term_of}
use Rattle.parse_exprs.specs.declared.layout.Layout.{Layout}
use Rattle.parse_exprs.specs.declared.layout.Layout.TheVariants.{Lines}
use Rattle.parse_exprs.specs.declared.parse.Parsed.{Parsed}
use Rattle.parse_exprs.specs.Look.{Origin, next_at, left_out_at}
use Rattle.parse_exprs.specs.Outcome.{Out, got, bad, deep, stuck, tired, Settles}
use Rattle.parse_exprs.specs.Run.{run_expr, run_primary}
use Rattle.parse_exprs.specs.Grammar.{IsExpr, IsCallee}
use Rattle.parse_exprs.specs.Faults.{Fault, too_deep, stuck_at}
use Rattle.parse_exprs.specs.Parsed.{Reads, ReadsCallee, ExprFaults, CalleeFaults, ExprRun, CalleeRun, IsRead, IsOnly, HasNone, IsRefused, RunsInto, Runs}
use Rattle.parse_exprs.specs.Parsed.{Agree}
use Rattle.parse_exprs.proofs.Settling.{settles_one, got_one, got_bad}
use Rattle.parse_exprs.proofs.Sound.{sound_expr, sound_primary}
use Rattle.parse_exprs.proofs.Complete.{complete_expr, complete_primary}
use Rattle.parse_exprs.proofs.FaultsSound.{faults_expr, faults_primary}
use Rattle.parse_exprs.proofs.FaultsComplete.{fails_expr, fails_primary}
use Rattle.parse_exprs.proofs.Widening.{Kept, opened, early, alike, kept_expr, kept_primary}

-- what it comes to after the steps that it takes
at_last : {X : Type 0} {run : ℕ → Out X} {o : Out X} (h : Settles run o) → run h.steps ≡ o
at_last h = h.same h.steps (omega arith)

below_or : (n m : ℕ) → (n < m) ⊎ (m ≤ n)
below_or n m = grind arith

deep_stuck : {C : Type 0} {rest : List Token} → ◌≡◌ {A = Out Term} (bad deep) (bad (stuck rest)) → C
deep_stuck e = cc

tired_got : {X C : Type 0} {a : X} {r : List Token} → got a r ≡ bad tired → C
tired_got e = cc

-- where it comes to a tree with more levels, it opens a level too many with less
opens : {t : Term} {rest : List Token} (low high : Out Term) → Kept low high → high ≡ got t rest → (low ≡ got t rest → ⊥) → low ≡ bad deep
opens low high (opened e) h f = e
opens low high (early e) h f = tired_got (sym h ∙ e)
opens low high (alike e) h f = absurd (f (sym e ∙ h))

-- ---- expressions

expr_high : (x : Origin) (i : Layout) (n : ℕ) (t : Term) (ts rest : List Token) → IsExpr x i t ts rest → n < levels t
    → Settles (λ k. run_expr k x i n ts) (bad deep)
expr_high x i n t ts rest d lt =
    let all = complete_expr d.spells d.stops (levels t) (omega arith) in
    record {
      steps = all.steps;
      same = λ k le. opens (run_expr k x i n ts) (run_expr k x i (levels t) ts) (kept_expr k x i n (levels t) ts (omega (arith, lt))) (all.same k le)
          (λ e. let few = (sound_expr k x i n ts e).few in omega (arith, few, lt));
    }

expr_steady : (x : Origin) (i : Layout) (n k : ℕ) (ts : List Token) (o : Out Term) → run_expr k x i n ts ≡ o → (o ≡ bad tired → ⊥)
    → Settles (λ k. run_expr k x i n ts) o
expr_steady x i n k ts (got t rest) e f = let d = sound_expr k x i n ts e in complete_expr d.spells d.stops n d.few
expr_steady x i n k ts (bad deep) e f = fails_expr (faults_expr too_deep k x i n ts e)
expr_steady x i n k ts (bad (stuck rest)) e f = fails_expr (faults_expr (stuck_at rest) k x i n ts e)
expr_steady x i n k ts (bad tired) e f = absurd (f refl)

pub expr_agrees : (x : Origin) (i : Layout) (n : ℕ) → Agree (Reads x i) (ExprFaults x i n) (ExprRun x i n) n
expr_agrees x i n = record {
  sound = λ t ts rest h. (let d = sound_expr h.steps x i n ts (at_last h) in record { reads = record { spells = d.spells; stops = d.stops }; few = d.few });
  complete = λ t ts rest d few. complete_expr d.spells d.stops n few;
  deep = λ ts. (λ f. fails_expr f, λ h. faults_expr too_deep h.steps x i n ts (at_last h));
  stuck = λ ts rest. (λ f. fails_expr f, λ h. faults_expr (stuck_at rest) h.steps x i n ts (at_last h));
  high = λ t ts rest d. (
    λ f. elim (below_or n (levels t)) as (λ w. n < levels t) [
      | inl lt ↦ lt
      | inr le ↦
          got_bad (settles_one (complete_expr d.spells d.stops n le) (fails_expr f))
    ],
    λ lt. let h = expr_high x i n t ts rest d lt in faults_expr too_deep h.steps x i n ts (at_last h),
  );
  steady = λ k ts o e f. expr_steady x i n k ts o e f;
}

-- ---- an atom with what stands behind it

callee_high : (x : Origin) (spaces : ℕ) (t : Term) (ts rest : List Token) → IsCallee x (Lines spaces) t ts rest → 64 < levels t
    → Settles (λ k. run_primary k x (Lines spaces) true 64 ts) (bad deep)
callee_high x spaces t ts rest d lt =
    let all = complete_primary d.spells d.stops (levels t) (omega arith) in
    record {
      steps = all.steps;
      same = λ k le. opens (run_primary k x (Lines spaces) true 64 ts) (run_primary k x (Lines spaces) true (suc (levels t)) ts)
          (kept_primary k x (Lines spaces) true 64 (suc (levels t)) ts (omega (arith, lt))) (all.same k le)
          (λ e. let few = (sound_primary k x (Lines spaces) true 63 ts e).few in omega (arith, few, lt));
    }

callee_steady : (x : Origin) (spaces k : ℕ) (ts : List Token) (o : Out Term) → run_primary k x (Lines spaces) true 64 ts ≡ o → (o ≡ bad tired → ⊥)
    → Settles (λ k. run_primary k x (Lines spaces) true 64 ts) o
callee_steady x spaces k ts (got t rest) e f = let d = sound_primary k x (Lines spaces) true 63 ts e in complete_primary d.spells d.stops 63 d.few
callee_steady x spaces k ts (bad deep) e f = fails_primary (faults_primary too_deep k x (Lines spaces) true 63 ts e)
callee_steady x spaces k ts (bad (stuck rest)) e f = fails_primary (faults_primary (stuck_at rest) k x (Lines spaces) true 63 ts e)
callee_steady x spaces k ts (bad tired) e f = absurd (f refl)

pub callee_agrees : (x : Origin) (spaces : ℕ) → Agree (ReadsCallee x spaces) (CalleeFaults x spaces) (CalleeRun x spaces) 64
callee_agrees x spaces = record {
  sound = λ t ts rest h. (let d = sound_primary h.steps x (Lines spaces) true 63 ts (at_last h) in
      record { reads = record { spells = d.spells; stops = d.stops }; few = d.few });
  complete = λ t ts rest d few. complete_primary d.spells d.stops 63 few;
  deep = λ ts. (λ f. fails_primary f, λ h. faults_primary too_deep h.steps x (Lines spaces) true 63 ts (at_last h));
  stuck = λ ts rest. (λ f. fails_primary f, λ h. faults_primary (stuck_at rest) h.steps x (Lines spaces) true 63 ts (at_last h));
  high = λ t ts rest d. (
    λ f. elim (below_or 64 (levels t)) as (λ w. 64 < levels t) [
      | inl lt ↦ lt
      | inr le ↦
          got_bad (settles_one (complete_primary d.spells d.stops 63 le) (fails_primary f))
    ],
    λ lt. let h = callee_high x spaces t ts rest d lt in faults_primary too_deep h.steps x (Lines spaces) true 63 ts (at_last h),
  );
  steady = λ k ts o e f. callee_steady x spaces k ts o e f;
}

-- ---- what follows where they agree

pub expr_once : {x : Origin} {i : Layout} {t u : Term} {ts r s : List Token} → Reads x i t ts r → Reads x i u ts s → (t ≡ u) × (r ≡ s)
expr_once {t = t} {u = u} d e =
    let n : ℕ = max (levels t) (levels u) in
    got_one (settles_one (complete_expr d.spells d.stops n (omega arith)) (complete_expr e.spells e.stops n (omega arith)))

pub callee_once : {x : Origin} {spaces : ℕ} {t u : Term} {ts r s : List Token} → ReadsCallee x spaces t ts r → ReadsCallee x spaces u ts s → (t ≡ u) × (r ≡ s)
callee_once {t = t} {u = u} d e =
    let n : ℕ = max (levels t) (levels u) in
    got_one (settles_one (complete_primary d.spells d.stops n (omega arith)) (complete_primary e.spells e.stops n (omega arith)))

-- each reading of the same tokens is the one that the computation comes to
only_one : (sought : Term → List Token → List Token → Type 0) (faults : Fault → List Token → Type 0) (run : List Token → ℕ → Out Term) (n : ℕ)
    → Agree sought faults run n
    → (t u : Term) (ts r s : List Token) → Settles (run ts) (got t r) → sought u ts s → (u ≡ t) × (s ≡ r)
only_one sought faults run n all t u ts r s h d =
    elim (below_or n (levels u)) as (λ w. (u ≡ t) × (s ≡ r)) [
      | inl lt ↦ got_bad (settles_one h ((all.deep ts).0 ((all.high u ts s d).1 lt)))
      | inr le ↦ got_one (settles_one (all.complete u ts s d le) h)
    ]

pub is_read : (sought : Term → List Token → List Token → Type 0) (faults : Fault → List Token → Type 0) (run : List Token → ℕ → Out Term) (n : ℕ)
    → Agree sought faults run n
    → (tokens : List Token) (at : ℕ) (p : Parsed) → Settles (run (drop at tokens)) (got (term_of p.tree) (drop p.next tokens)) → at < p.next
    → p.next ≤ length tokens → IsRead sought n tokens at p
is_read sought faults run n all tokens at p h goes within =
    let d = all.sound (term_of p.tree) (drop at tokens) (drop p.next tokens) h in record { reads = d.reads; few = d.few; goes = goes; within = within }

pub is_only : (sought : Term → List Token → List Token → Type 0) (faults : Fault → List Token → Type 0) (run : List Token → ℕ → Out Term) (n : ℕ)
    → Agree sought faults run n
    → (tokens : List Token) (at : ℕ) (p : Parsed) → Settles (run (drop at tokens)) (got (term_of p.tree) (drop p.next tokens)) → IsOnly sought tokens at p
is_only sought faults run n all tokens at p h = λ t rest d. only_one sought faults run n all (term_of p.tree) t (drop at tokens) (drop p.next tokens) rest h d

pub has_none : (sought : Term → List Token → List Token → Type 0) (faults : Fault → List Token → Type 0) (run : List Token → ℕ → Out Term) (n : ℕ)
    → Agree sought faults run n
    → (x : Origin) (ts rest : List Token) (at : Place) → Settles (run ts) (bad (stuck rest)) → left_out_at rest ≡ false → at ≡ next_at x rest
    → HasNone sought faults x ts at
has_none sought faults run n all x ts rest at h used next = record {
  rest = rest;
  stuck = (all.stuck ts rest).1 h;
  next = next;
  none = λ t s d. (elim (below_or n (levels t)) as (λ w. ⊥) [
    | inl lt ↦ deep_stuck (settles_one ((all.deep ts).0 ((all.high t ts s d).1 lt)) h)
    | inr le ↦ got_bad (settles_one (all.complete t ts s d le) h)
  ]);
  shallow = λ f. deep_stuck (settles_one ((all.deep ts).0 f) h);
  used = λ other f. (let e = settles_one ((all.stuck ts other).0 f.stuck) h in let l = f.left_out in not_left_out other rest (stuck_once e) l used);
}
  where
    stuck_once : {r s : List Token} → ◌≡◌ {A = Out Term} (bad (stuck r)) (bad (stuck s)) → r ≡ s
    stuck_once e = cc

    not_left_out : (r s : List Token) → r ≡ s → left_out_at r ≡ true → left_out_at s ≡ false → ⊥
    not_left_out r s e h k = cc

-- a refusal is for the reason that the computation comes to
refused_for : (sought : Term → List Token → List Token → Type 0) (faults : Fault → List Token → Type 0) (run : List Token → ℕ → Out Term) (n : ℕ)
    → Agree sought faults run n
    → (x : Origin) (ts : List Token) (code : Code) (at : Place) → RunsInto run x ts code at → IsRefused sought faults x ts code at
refused_for sought faults run n all x ts Syntax at h = has_none sought faults run n all x ts h.rest at h.runs h.used h.next
refused_for sought faults run n all x ts NestTooDeep at h = record { deep = (all.deep ts).1 h.runs; first = h.first }
refused_for sought faults run n all x ts LeftOut at h =
    record { rest = h.rest; left_out = record { stuck = (all.stuck ts h.rest).1 h.runs; left_out = h.left_out }; first = h.first }
refused_for sought faults run n all x ts _ at h = absurd h

stopped : (sought : Term → List Token → List Token → Type 0) (faults : Fault → List Token → Type 0) (run : List Token → ℕ → Out Term) (n : ℕ)
    → Agree sought faults run n
    → (x : Origin) (ts : List Token) (stop : Stop) → OnRefusal stop (RunsInto run x ts) → OnRefusal stop (IsRefused sought faults x ts)
stopped sought faults run n all x ts (Refused code at) h = refused_for sought faults run n all x ts code at h
stopped sought faults run n all x ts Memory h = tt

pub refused : (sought : Term → List Token → List Token → Type 0) (faults : Fault → List Token → Type 0) (run : List Token → ℕ → Out Term) (n : ℕ)
    → Agree sought faults run n
    → (x : Origin) (tokens : List Token) (at : ℕ) (stop : Stop) → Runs run x tokens at (Err stop) → OnRefusal stop (IsRefused sought faults x (drop at tokens))
refused sought faults run n all x tokens at stop h = stopped sought faults run n all x (drop at tokens) stop h
