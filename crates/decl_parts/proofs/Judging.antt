-- Calls that only add types, and what is behind them.
use Rattle.std.proofs.Common.{◌≡◌, ℕ, ◌≤◌, List, length, refl, sym, ap, ◌∙◌, subst}
use Rattle.std.specs.Prelude.{Result, Ok, Err, IfOk}
use Rattle.arc_base.specs.declared.place.Code.{Code}
use Rattle.arc_base.specs.declared.place.Place.{Place}
use Rattle.arc_base.specs.declared.place.Stop.{Stop}
use Rattle.arc_base.specs.declared.place.Stop.TheVariants as stop
use Rattle.arc_base.specs.Refusal.{and_then, refused, Answers}
use Rattle.nim_types.specs.Types.{Ty, Facts, fact_of}
use Rattle.nim_types.specs.Table.{facts_in}
use Rattle.expr_rules.specs.Answers.{Answer}
use Rattle.expr_rules.specs.Env.{Env}
use Rattle.expr_parts.specs.declared.scope.Scope.{Scope}
use Rattle.expr_parts.specs.View.{Under, Grown, env_of}
use Rattle.expr_parts.specs.ViewReady.{IsReady}
use Rattle.expr_parts.proofs.ForCallers.{grown_same, forgets, refuses, answers_as, goes, stops}
use Rattle.decl_parts.specs.declared.state.State.{State as RustState}
use Rattle.decl_parts.specs.View.{Over, Beside, env_in, state_of, Ready, Further, Typing}
use Rattle.expr_parts.proofs.ForCallers.{ready_on}
use Rattle.decl_parts.proofs.Growing.{facts_kept, under_kept, over_old}

-- ---- from calls on the table

pub typing_by : {A T : Type 0} {old new : RustState} {of : List Ty → T → A} {within : ℕ → T → Type 0} {r : Result T Stop}
    (said : List Ty → Env → Answer A) → Grown old.types new.types → new ≡ record old { types = new.types }
    → ((ts : List Ty) (facts : Facts) → Under new.types ts facts → Answers (of ts) (said ts (env_of ts facts old.scope)) r)
    → IfOk r (within (length new.types)) → Typing old new of said within r
typing_by {old = old} {new = new} said g e a f = record {
  grown = g;
  same = e;
  answers = λ ts u. a ts (facts_in old.types) (under_kept old.types new.types ts g u);
  fits = f;
}

any_fits : {T : Type 0} (r : Result T Stop) → IfOk r (λ x. Unit {0})
any_fits (Ok x) = tt
any_fits (Err s) = tt

-- where nothing is said of its numbers
pub typing_any : {A T : Type 0} {old new : RustState} {of : List Ty → T → A} {r : Result T Stop} (said : List Ty → Env → Answer A)
    → Grown old.types new.types → new ≡ record old { types = new.types }
    → ((ts : List Ty) (facts : Facts) → Under new.types ts facts → Answers (of ts) (said ts (env_of ts facts old.scope)) r)
    → Typing old new of said (λ n x. Unit {0}) r
typing_any {r = r} said g e a = typing_by said g e a (any_fits r)

-- ---- in other words

pub typing_as : {A T : Type 0} {old new : RustState} {of : List Ty → T → A} {other : List Ty → Env → Answer A} {within : ℕ → T → Type 0}
    {r : Result T Stop}
    (said : List Ty → Env → Answer A) → ((ts : List Ty) → Over new ts → said ts (env_in ts old) ≡ other ts (env_in ts old))
    → Typing old new of other within r → Typing old new of said within r
typing_as {old = old} {of = of} {other = other} {r = r} said e j = record {
  grown = j.grown;
  same = j.same;
  answers = λ ts u. answers_as (of ts) (said ts (env_in ts old)) (other ts (env_in ts old)) r (e ts u) (j.answers ts u);
  fits = j.fits;
}

-- the first number is one behind the statement's node
pub typing_from : {A T : Type 0} {old new : RustState} {of : List Ty → T → A} {within : ℕ → T → Type 0} {r : Result T Stop} {m n : ℕ}
    (said : ℕ → List Ty → Env → Answer A) → m ≡ n → Typing old new of (said m) within r → Typing old new of (said n) within r
typing_from {old = old} {new = new} {of = of} {within = within} {r = r} said e j = subst (λ k. Typing old new of (said k) within r) e j

-- ---- stops

pub typing_forgets : {A T : Type 0} (old : RustState) (of : List Ty → T → A) (said : List Ty → Env → Answer A) (within : ℕ → T → Type 0)
    (s : Stop)
    → s ≡ stop.Memory → Typing old old of said within (Err s)
typing_forgets old of said within s is = record {
  grown = grown_same old.types;
  same = refl;
  answers = λ ts u. forgets (of ts) (said ts (env_in ts old)) s is;
  fits = tt;
}

pub typing_refuses : {A T : Type 0} (old : RustState) (of : List Ty → T → A) (said : List Ty → Env → Answer A) (within : ℕ → T → Type 0)
    (code : Code) (at : Place)
    (s : Stop) → s ≡ stop.Refused code at → ((ts : List Ty) → said ts (env_in ts old) ≡ refused code at) → Typing old old of said within (Err s)
typing_refuses old of said within code at s is e = record {
  grown = grown_same old.types;
  same = refl;
  answers = λ ts u. refuses (of ts) (said ts (env_in ts old)) code at s is (e ts);
  fits = tt;
}

pub typing_stops : {A B S T : Type 0} {old new : RustState} {part : List Ty → S → A} {told : List Ty → Env → Answer A} {inside : ℕ → S → Type 0}
    {s : Stop}
    (of : List Ty → T → B) (within : ℕ → T → Type 0) (go : List Ty → Env → A → Answer B) → Typing old new part told inside (Err s)
    → Typing old new of (λ ts env. and_then (told ts env) (go ts env)) within (Err s)
typing_stops {old = old} {part = part} {told = told} {s = s} of within go j = record {
  grown = j.grown;
  same = j.same;
  answers = λ ts u. stops (of ts) (part ts) (told ts (env_in ts old)) (go ts (env_in ts old)) s (j.answers ts u);
  fits = tt;
}

-- what is known without a call
pub typing_here : {A T : Type 0} {old : RustState} {of : List Ty → T → A} {within : ℕ → T → Type 0} {x : T} (said : List Ty → Env → Answer A)
    → ((ts : List Ty) → said ts (env_in ts old) ≡ Ok (of ts x)) → within (length old.types) x → Typing old old of said within (Ok x)
typing_here {old = old} said e f = record { grown = grown_same old.types; same = refl; answers = λ ts u. e ts; fits = f }

-- ---- what is behind a call, with no further types

pub typing_then : {A B S T : Type 0} {old new : RustState} {part : List Ty → S → A} {told : List Ty → Env → Answer A} {inside : ℕ → S → Type 0}
    {x : S}
    {of : List Ty → T → B} {within : ℕ → T → Type 0} {r : Result T Stop} (go : List Ty → Env → A → Answer B)
    → Typing old new part told inside (Ok x)
    → ((ts : List Ty) → Over new ts → Answers (of ts) (go ts (env_in ts old) (part ts x)) r) → IfOk r (within (length new.types))
    → Typing old new of (λ ts env. and_then (told ts env) (go ts env)) within r
typing_then {old = old} {part = part} {told = told} {x = x} {of = of} {r = r} go j a f = record {
  grown = j.grown;
  same = j.same;
  answers = λ ts u. goes (of ts) (part ts) (told ts (env_in ts old)) (go ts (env_in ts old)) x r (j.answers ts u) (a ts u);
  fits = f;
}

-- ---- the state behind

pub further_grown : {old new : RustState} → Grown old.types new.types → Further old new
further_grown {old = old} {new = new} g = record {
  length = g.length;
  over = λ ts u. over_old old.types new.types ts g u;
  said = λ ts ty fact u h. ap (λ (f : Facts). fact_of f ty) (facts_kept old.types new.types ts g u) ∙ h;
}

pub further_typed : {A T : Type 0} {old new : RustState} {of : List Ty → T → A} {said : List Ty → Env → Answer A} {within : ℕ → T → Type 0}
    {r : Result T Stop}
    → Typing old new of said within r → Further old new
further_typed j = further_grown j.grown

pub ready_grown : (old new : RustState) → Grown old.types new.types → new.scope ≡ old.scope → new.outside ≡ old.outside → Ready old → Ready new
ready_grown old new g s o h = record {
  all = subst (IsReady new.types) (sym s) (ready_on g h.all);
  outside = subst (λ n. n ≤ length new.scope.decls) (sym o) (subst (λ (z : Scope). old.outside ≤ length z.decls) (sym s) h.outside);
}

pub ready_typed : {A T : Type 0} {old new : RustState} {of : List Ty → T → A} {said : List Ty → Env → Answer A} {within : ℕ → T → Type 0}
    {r : Result T Stop}
    → Typing old new of said within r → Ready old → Ready new
ready_typed {old = old} {new = new} j h =
    ready_grown old new j.grown (ap (λ (s : RustState). s.scope) j.same) (ap (λ (s : RustState). s.outside) j.same) h

pub same_view : {A T : Type 0} {old new : RustState} {of : List Ty → T → A} {said : List Ty → Env → Answer A} {within : ℕ → T → Type 0}
    {r : Result T Stop}
    (ts : List Ty) (b : Beside) → Typing old new of said within r → Over new ts → state_of ts b new ≡ state_of ts b old
same_view {old = old} {new = new} ts b j u =
    ap (state_of ts b) j.same
    ∙ ap (λ (f : Facts). record (state_of ts b old) { env = env_of ts f old.scope }) (facts_kept old.types new.types ts j.grown u)
