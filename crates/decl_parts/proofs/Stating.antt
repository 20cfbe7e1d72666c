-- Calls from state to state, one behind another.
use Rattle.std.proofs.Common.{◌≡◌, ℕ, ◌≤◌, ◌∷◌, [], ◌++◌, List, length}
use Rattle.std.proofs.Common.{refl, sym, ap, ◌∙◌, subst, arith, append-nil, append_assoc}
use Rattle.std.specs.Prelude.{Result, Ok, Err, OnOk}
use Rattle.arc_base.specs.declared.place.Code.{Code}
use Rattle.arc_base.specs.declared.place.Place.{Place}
use Rattle.arc_base.specs.declared.place.Stop.{Stop}
use Rattle.arc_base.specs.declared.place.Stop.TheVariants as stop
use Rattle.arc_base.specs.Refusal.{and_then, refused, Answers}
use Rattle.nim_types.specs.declared.types.TypeDef.{TypeDef}
use Rattle.nim_types.specs.Types.{Ty, Facts, fact_of}
use Rattle.nim_types.specs.Table.{facts_in}
use Rattle.nim_program.specs.declared.stmt.Stmt.{Stmt as RustStmt}
use Rattle.nim_program.specs.Program as P
use Rattle.expr_rules.specs.Answers.{Answer}
use Rattle.expr_rules.specs.Env.{Env}
use Rattle.expr_parts.specs.View.{Under}
use Rattle.expr_parts.proofs.ForCallers.{forgets, refuses, answers_as, goes, stops}
use Rattle.decl_parts.specs.declared.state.State.{State as RustState}
use Rattle.decl_rules.specs.State.{State, Step, does, did, stated_as}
use Rattle.decl_parts.specs.View.{Over, Beside, env_in, state_of, Ready, Further, Stands, Typing, Stating, StatedSo, step_of, one_stated}
use Rattle.decl_parts.proofs.Answering.{mapped}
use Rattle.decl_parts.proofs.Judging.{further_typed, ready_typed, same_view}

-- ---- states

pub further_same : (s : RustState) → Further s s
further_same s = record { length = omega arith; over = λ ts u. u; said = λ ts ty fact u h. h }

pub further_on : {a b c : RustState} → Further a b → Further b c → Further a c
further_on f g = record {
  length = omega (arith, f.length, g.length);
  over = λ ts u. f.over ts (g.over ts u);
  said = λ ts ty fact u h. g.said ts ty fact u (f.said ts ty fact (g.over ts u) h);
}

-- of states whose tables are the same
pub further_as : {old start new : RustState} → start.types ≡ old.types → Further start new → Further old new
further_as {old = old} {start = start} {new = new} e f = record {
  length = subst (λ (d : List TypeDef). length d ≤ length new.types) e f.length;
  over = λ ts u. subst (λ (d : List TypeDef). Under d ts (facts_in d)) e (f.over ts u);
  said = λ ts ty fact u h. f.said ts ty fact u (ap (λ (d : List TypeDef). fact_of (facts_in d) ty) e ∙ h);
}

pub further_to : {old mid new : RustState} → new.types ≡ mid.types → Further old mid → Further old new
further_to {old = old} {mid = mid} {new = new} e f = record {
  length = subst (λ (d : List TypeDef). length old.types ≤ length d) (sym e) f.length;
  over = λ ts u. f.over ts (subst (λ (d : List TypeDef). Under d ts (facts_in d)) e u);
  said = λ ts ty fact u h.
      ap (λ (d : List TypeDef). fact_of (facts_in d) ty) e ∙ f.said ts ty fact (subst (λ (d : List TypeDef). Under d ts (facts_in d)) e u) h;
}

pub stands_still : (s : RustState) → Ready s → Stands s s
stands_still s h = record { ready = h; begins = ([], sym (append-nil s.scope.decls)); outside = refl }

pub stands_on : {a b c : RustState} → Stands a b → Stands b c → Stands a c
stands_on {a = a} f g = record {
  ready = g.ready;
  begins = (
    f.begins.0 ++ g.begins.0,
    g.begins.1 ∙ ap (λ l. l ++ g.begins.0) f.begins.1 ∙ append_assoc a.scope.decls f.begins.0 g.begins.0,
  );
  outside = g.outside ∙ f.outside;
}

pub stands_after : {T : Type 0} {a b : RustState} (c : RustState) (r : Result T Stop) → Stands a b → OnOk r (Stands b c) → OnOk r (Stands a c)
stands_after c (Ok x) f g = stands_on f g
stands_after c (Err s) f g = tt

pub stands_typed : {A T : Type 0} {old new : RustState} {of : List Ty → T → A} {said : List Ty → Env → Answer A} {within : ℕ → T → Type 0}
    {r : Result T Stop}
    → Typing old new of said within r → Ready old → Stands old new
stands_typed {old = old} j h = record {
  ready = ready_typed j h;
  begins = ([], ap (λ (s : RustState). s.scope.decls) j.same ∙ sym (append-nil old.scope.decls));
  outside = ap (λ (s : RustState). s.outside) j.same;
}

-- ---- in other words

pub stated_so : {A T : Type 0} {old new : RustState} {of : List Ty → Beside → T → A} {other : List Ty → Beside → Answer A} {r : Result T Stop}
    (said : List Ty → Beside → Answer A) → ((ts : List Ty) (b : Beside) → Over new ts → said ts b ≡ other ts b)
    → Stating old new of other r → Stating old new of said r
stated_so {of = of} {other = other} {r = r} said e j = record {
  further = j.further;
  stands = j.stands;
  answers = λ ts b u. answers_as (of ts b) (said ts b) (other ts b) r (e ts b u) (j.answers ts b u);
}

stands_start : {T : Type 0} (old start new : RustState) (r : Result T Stop) → start.scope ≡ old.scope → start.outside ≡ old.outside
    → OnOk r (Stands start new) → OnOk r (Stands old new)
stands_start old start new (Ok x) s o h = record {
  ready = h.ready;
  begins = (h.begins.0, h.begins.1 ∙ ap (λ z. z.decls ++ h.begins.0) s);
  outside = h.outside ∙ o;
}
stands_start old start new (Err e) s o h = tt

-- from a state that differs in the next numbers alone
pub stated_from : {A T : Type 0} {old start new : RustState} {of : List Ty → Beside → T → A} {said : List Ty → Beside → Answer A} {r : Result T Stop}
    → start.types ≡ old.types → start.scope ≡ old.scope → start.outside ≡ old.outside → Stating start new of said r → Stating old new of said r
stated_from {old = old} {start = start} {new = new} {r = r} t s o j = record {
  further = further_as t j.further;
  stands = stands_start old start new r s o j.stands;
  answers = j.answers;
}

-- ---- stops

pub stated_forgets : {A T : Type 0} {old new : RustState} (of : List Ty → Beside → T → A) (said : List Ty → Beside → Answer A) (s : Stop)
    → Further old new → s ≡ stop.Memory → Stating old new of said (Err s)
stated_forgets of said s f is = record {
  further = f;
  stands = tt;
  answers = λ ts b u. forgets (of ts b) (said ts b) s is;
}

pub stated_refuses : {A T : Type 0} {old new : RustState} (of : List Ty → Beside → T → A) (said : List Ty → Beside → Answer A) (code : Code)
    (at : Place) (s : Stop)
    → Further old new → s ≡ stop.Refused code at → ((ts : List Ty) (b : Beside) → Over new ts → said ts b ≡ refused code at)
    → Stating old new of said (Err s)
stated_refuses of said code at s f is e = record {
  further = f;
  stands = tt;
  answers = λ ts b u. refuses (of ts b) (said ts b) code at s is (e ts b u);
}

-- a part that stops, stops the whole
pub stated_stops : {A B S T : Type 0} {old new : RustState} {part : List Ty → Beside → S → A} {told : List Ty → Beside → Answer A} {s : Stop}
    (of : List Ty → Beside → T → B) (go : List Ty → Beside → A → Answer B) → Stating old new part told (Err s)
    → Stating old new of (λ ts b. and_then (told ts b) (go ts b)) (Err s)
stated_stops {part = part} {told = told} {s = s} of go j = record {
  further = j.further;
  stands = tt;
  answers = λ ts b u. stops (of ts b) (part ts b) (told ts b) (go ts b) s (j.answers ts b u);
}

-- an expression that isn't typed
pub type_stops : {A B S T : Type 0} {old new : RustState} {part : List Ty → S → A} {told : List Ty → Env → Answer A} {inside : ℕ → S → Type 0}
    {s : Stop}
    (of : List Ty → Beside → T → B) (go : List Ty → Beside → A → Answer B) → Typing old new part told inside (Err s)
    → Stating old new of (λ ts b. and_then (told ts (env_in ts old)) (go ts b)) (Err s)
type_stops {old = old} {part = part} {told = told} {s = s} of go j = record {
  further = further_typed j;
  stands = tt;
  answers = λ ts b u. stops (of ts b) (part ts) (told ts (env_in ts old)) (go ts b) s (j.answers ts u);
}

-- a rule that refuses
pub rule_stops : {A B S T : Type 0} {old : RustState} {s : Stop} (of : List Ty → Beside → T → B) (part : List Ty → S → A)
    (told : List Ty → Facts → Answer A)
    (go : List Ty → Beside → A → Answer B) → ((ts : List Ty) (facts : Facts) → Under old.types ts facts → Answers (part ts) (told ts facts) (Err s))
    → Stating old old of (λ ts b. and_then (told ts (facts_in old.types)) (go ts b)) (Err s)
rule_stops {old = old} {s = s} of part told go h = record {
  further = further_same old;
  stands = tt;
  answers = λ ts b u. stops (of ts b) (part ts) (told ts (facts_in old.types)) (go ts b) s (h ts (facts_in old.types) u);
}

-- ---- behind a part

pub stated_goes : {A B S T : Type 0} {old mid new : RustState} {part : List Ty → Beside → S → A} {told : List Ty → Beside → Answer A} {x : S}
    {of : List Ty → Beside → T → B} {r : Result T Stop} (go : List Ty → Beside → A → Answer B) → Stating old mid part told (Ok x)
    → Stating mid new of (λ ts b. go ts b (part ts b x)) r → Stating old new of (λ ts b. and_then (told ts b) (go ts b)) r
stated_goes {new = new} {part = part} {told = told} {x = x} {of = of} {r = r} go j k = record {
  further = further_on j.further k.further;
  stands = stands_after new r j.stands k.stands;
  answers = λ ts b u. goes (of ts b) (part ts b) (told ts b) (go ts b) x r (j.answers ts b (k.further.over ts u)) (k.answers ts b u);
}

pub type_goes : {A B S T : Type 0} {old mid new : RustState} {part : List Ty → S → A} {told : List Ty → Env → Answer A}
    {inside : ℕ → S → Type 0} {x : S}
    {of : List Ty → Beside → T → B} {r : Result T Stop} (go : List Ty → State → A → Answer B) → Ready old
    → Typing old mid part told inside (Ok x)
    → Stating mid new of (λ ts b. go ts (state_of ts b mid) (part ts x)) r
    → Stating old new of (λ ts b. and_then (told ts (env_in ts old)) (go ts (state_of ts b old))) r
type_goes {old = old} {mid = mid} {new = new} {part = part} {told = told} {x = x} {of = of} {r = r} go h j k = record {
  further = further_on (further_typed j) k.further;
  stands = stands_after new r (stands_typed j h) k.stands;
  answers = λ ts b u.
      let v = k.further.over ts u in
      goes (of ts b) (part ts) (told ts (env_in ts old)) (go ts (state_of ts b old)) x r (j.answers ts v)
      (subst (λ (st : State). Answers (of ts b) (go ts st (part ts x)) r) (same_view ts b j v) (k.answers ts b u));
}

pub rule_goes : {A B S T : Type 0} {old new : RustState} {x : S} {of : List Ty → Beside → T → B} {r : Result T Stop} (part : List Ty → S → A)
    (told : List Ty → Facts → Answer A) (go : List Ty → Beside → A → Answer B)
    → ((ts : List Ty) (facts : Facts) → Under old.types ts facts → Answers (part ts) (told ts facts) (Ok x))
    → Stating old new of (λ ts b. go ts b (part ts x)) r → Stating old new of (λ ts b. and_then (told ts (facts_in old.types)) (go ts b)) r
rule_goes {old = old} {x = x} {of = of} {r = r} part told go h k = record {
  further = k.further;
  stands = k.stands;
  answers = λ ts b u.
      goes (of ts b) (part ts) (told ts (facts_in old.types)) (go ts b) x r (h ts (facts_in old.types) (k.further.over ts u)) (k.answers ts b u);
}

on_ok : {T P : Type 0} (r : Result T Stop) → P → OnOk r P
on_ok (Ok x) p = p
on_ok (Err s) p = tt

-- ---- one statement, with the next node

pub ready_at : (s : RustState) (n : ℕ) → Ready s → Ready (record s { node = n })
ready_at s n h = record { all = h.all; outside = h.outside }

pub did_so : (s : RustState) (n : ℕ) (e : List Ty → P.Stmt) (x : RustStmt) → Ready s → ((ts : List Ty) → step_of ts x ≡ does (e ts) ∷ [])
    → StatedSo s (record s { node = n }) (λ ts st. Ok (did st (e ts) n)) (Ok x)
did_so s n e x h w = record {
  further = further_as refl (further_same (record s { node = n }));
  stands = record { ready = ready_at s n h; begins = ([], sym (append-nil s.scope.decls)); outside = refl };
  answers = λ ts b u. ap (λ (steps : List Step). Ok (stated_as steps (state_of ts b (record s { node = n })))) (sym (w ts));
}

-- what a rule says that its statement is
pub did_by : (s : RustState) (n : ℕ) (said : List Ty → Answer P.Stmt) (r : Result RustStmt Stop) → Ready s
    → ((ts : List Ty) → Over s ts → Answers (step_of ts) (and_then (said ts) (λ e. Ok (does e ∷ []))) r)
    → StatedSo s (record s { node = n }) (λ ts st. and_then (said ts) (λ e. Ok (did st e n))) r
did_by s n said r h w = record {
  further = further_as refl (further_same (record s { node = n }));
  stands = on_ok r (record { ready = ready_at s n h; begins = ([], sym (append-nil s.scope.decls)); outside = refl });
  answers = λ ts b u.
      mapped (step_of ts) (λ (steps : List Step). stated_as steps (state_of ts b (record s { node = n }))) (said ts) (λ (e : P.Stmt). does e ∷ []) r
      (w ts u);
}

-- ---- what is made of what has been answered

pub stated_here : {A T : Type 0} (s : RustState) (of : List Ty → Beside → T → A) (x : T) → Ready s → Stating s s of (λ ts b. Ok (of ts b x)) (Ok x)
stated_here s of x h = record { further = further_same s; stands = stands_still s h; answers = λ ts b u. refl }

pub one_here : (s : RustState) (x : RustStmt) (steps : List Ty → List Step) → Ready s → ((ts : List Ty) → step_of ts x ≡ steps ts)
    → Stating s s (λ ts b y. one_stated ts b s y) (λ ts b. Ok (stated_as (steps ts) (state_of ts b s))) (Ok x)
one_here s x steps h w = record {
  further = further_same s;
  stands = stands_still s h;
  answers = λ ts b u. ap (λ l. Ok (stated_as l (state_of ts b s))) (sym (w ts));
}

-- what is said of a state that stays
pub same_state : {A T : Type 0} {of : List Ty → Beside → T → A} {said : List Ty → Beside → Answer A} {r : Result T Stop} (s : RustState) → Ready s
    → ((ts : List Ty) (b : Beside) → Over s ts → Answers (of ts b) (said ts b) r) → Stating s s of said r
same_state {r = r} s h a = record { further = further_same s; stands = on_ok r (stands_still s h); answers = a }
