-- Variables of a definition, which wait to be declared.
use Rattle.std.proofs.Common.{◌≡◌, ℕ, suc, List, [], ◌∷◌, ◌++◌, length, refl, sym, ap, ap₂, ◌∙◌, subst}
use Rattle.std.proofs.Common.{append_assoc, Vec, Global, arith, length-append}
use Rattle.std.proofs.lemmas.List.{map-append}
use Rattle.std.specs.Prelude.{map, Result, Ok, Err, IfOk, IfErr}
use Rattle.arc_base.specs.declared.place.Code.{Code}
use Rattle.arc_base.specs.declared.place.Place.{Place}
use Rattle.arc_base.specs.declared.place.Stop.{Stop}
use Rattle.arc_base.specs.declared.place.Stop.TheVariants as stop
use Rattle.arc_base.specs.Refusal.{and_then, refused, Answers}
use Rattle.nim_tree.specs.declared.name.Declared.{Declared}
use Rattle.nim_tree.specs.declared.stmt.Binding.{Binding}
use Rattle.nim_types.specs.Types.{Ty, Facts}
use Rattle.nim_types.specs.declared.types.TypeDef.{TypeDef}
use Rattle.nim_types.specs.Table.{facts_in}
use Rattle.nim_program.specs.declared.stmt.Stmt.{Stmt as RustStmt}
use Rattle.nim_program.specs.Program as P
use Rattle.nim_program.specs.View.{declared_of}
use Rattle.expr_rules.specs.Answers.{Answer}
use Rattle.expr_rules.specs.Env.{Env, Entry}
use Rattle.expr_parts.specs.declared.scope.Decl.{Decl}
use Rattle.expr_parts.specs.declared.scope.Scope.{Scope}
use Rattle.expr_parts.specs.View.{Under, Grown, env_of, entry_of, WhatWithin, DeclsWithin}
use Rattle.expr_parts.proofs.ForCallers.{grown_on, grown_same, forgets, refuses, answers_as, goes, stops}
use Rattle.decl_rules.specs.State.{Around, State, Step, stated_as, Stated, declaring, with_entries}
use Rattle.decl_rules.specs.Definitions.{entry_for, with_variable}
use Rattle.decl_parts.specs.declared.state.State.{State as RustState}
use Rattle.decl_parts.specs.View.{Over, Beside, env_in, state_of, step_of, steps_of, all_stated_as, Ready, Further, Typing, Stating}
use Rattle.decl_parts.proofs.ForCallers.{ready_grown, same_view, facts_kept, further_grown, further_to}
use Rattle.decl_parts.proofs.ForCallers.{scope_by, stops_as, decls_both}
use Rattle.decl_stmts.specs.declared.definitions.New.{New}
use Rattle.decl_stmts.specs.declared.definitions.News.{News}
use Rattle.decl_stmts.specs.ViewDefinitions.{counting, Kept, Still, Defining, new_as, news_as}

-- ---- a further place

pub globals_only : {old mid : RustState} → mid ≡ record old { globals = mid.globals } → Kept old mid
globals_only e = record {
  types = ap (λ (s : RustState). s.types) e;
  scope = ap (λ (s : RustState). s.scope) e;
  outside = ap (λ (s : RustState). s.outside) e;
}

pub numbers_only : {old mid : RustState} (node place : ℕ) → Kept old mid → Kept old (record mid { node = node; place = place })
numbers_only node place k = record { types = k.types; scope = k.scope; outside = k.outside }

pub begun : (ts : List Ty) (b : Beside) (old mid : RustState) (further next : ℕ) (all : List P.Declared) → mid ≡ record old { globals = mid.globals }
    → further ≡ suc old.place → map (declared_of ts) mid.globals ≡ map (declared_of ts) old.globals ++ all
    → state_of ts b (record mid { place = further; node = next })
    ≡ record (state_of ts b old) { node = next; place = suc old.place; globals = map (declared_of ts) old.globals ++ all }
begun ts b old mid further next all e f g =
    ap (λ (s : RustState). state_of ts b (record s { place = further; node = next; globals = mid.globals })) e
    ∙ ap₂ (λ p l. record (state_of ts b old) { node = next; place = p; globals = l }) f g

-- ---- stills

pub still_same : (s : RustState) → Still s s
still_same s = record { grown = grown_same s.types; scope = refl; outside = refl }

pub still_kept : {old new : RustState} → Kept old new → Still old new
still_kept {old = old} k = record {
  grown = subst (λ (d : List TypeDef). Grown old.types d) (sym k.types) (grown_same old.types);
  scope = k.scope;
  outside = k.outside;
}

pub still_typed : {A T : Type 0} {old new : RustState} {of : List Ty → T → A} {said : List Ty → Env → Answer A} {within : ℕ → T
    → Type 0} {r : Result T Stop}
    → Typing old new of said within r → Still old new
still_typed j = record {
  grown = j.grown;
  scope = ap (λ (s : RustState). s.scope) j.same;
  outside = ap (λ (s : RustState). s.outside) j.same;
}

pub still_on : {a b c : RustState} → Still a b → Still b c → Still a c
still_on f g = record { grown = grown_on f.grown g.grown; scope = g.scope ∙ f.scope; outside = g.outside ∙ f.outside }

pub ready_still : {old new : RustState} → Still old new → Ready old → Ready new
ready_still {old = old} {new = new} s h = ready_grown old new s.grown s.scope s.outside h

-- what is known of names stays
pub same_env : {old new : RustState} (ts : List Ty) → Still old new → Over new ts → env_in ts new ≡ env_in ts old
same_env {old = old} {new = new} ts s u =
    ap (λ z. env_of ts (facts_in new.types) z) s.scope
    ∙ ap (λ (f : Facts). env_of ts f old.scope) (facts_kept old.types new.types ts s.grown u)

-- ---- one variable

pub defining_forgets : (old new : RustState) (said : List Ty → Env → State → Answer Stated) (s : Stop) → Still old new → s ≡ stop.Memory
    → Defining old new said (Err s)
defining_forgets old new said s k is = record {
  still = k;
  answers = λ ts b waits u. forgets (new_as ts b new waits) (said ts (env_in ts old) (declaring (state_of ts b old) waits)) s is;
  fits = tt;
}

pub defining_refuses : (old : RustState) (said : List Ty → Env → State → Answer Stated) (code : Code) (at : Place) (s : Stop)
    → s ≡ stop.Refused code at
    → ((ts : List Ty) (env : Env) (st : State) → said ts env st ≡ refused code at) → Defining old old said (Err s)
defining_refuses old said code at s is e = record {
  still = still_same old;
  answers = λ ts b waits u.
      let st = declaring (state_of ts b old) waits in
      refuses (new_as ts b old waits) (said ts (env_in ts old) st) code at s is (e ts (env_in ts old) st);
  fits = tt;
}

pub defining_as : {old new : RustState} {other : List Ty → Env → State → Answer Stated} {r : Result New Stop} (said : List Ty → Env → State
    → Answer Stated)
    → ((ts : List Ty) (env : Env) (st : State) → said ts env st ≡ other ts env st) → Defining old new other r → Defining old new said r
defining_as {old = old} {new = new} {other = other} {r = r} said e j = record {
  still = j.still;
  answers = λ ts b waits u.
      let st = declaring (state_of ts b old) waits in
      answers_as (new_as ts b new waits) (said ts (env_in ts old) st) (other ts (env_in ts old) st) r (e ts (env_in ts old) st) (j.answers ts b waits u);
  fits = j.fits;
}

-- where its statement and its declaration are made
pub defining_made : {old new : RustState} (said : List Ty → Env → State → Answer Stated) (x : RustStmt) (d : Decl) (r : Result New Stop) → Still old new
    → ((ts : List Ty) (b : Beside) (waits : List Entry) → Over new ts → said ts (env_in ts old) (declaring (state_of ts b old) waits)
    ≡ Ok (stated_as (step_of ts x) (declaring (state_of ts b new) (waits ++ entry_of ts d ∷ []))))
    → WhatWithin (length new.types) d.what → IfOk r (λ n. n.stmts.items ≡ x ∷ []) → IfOk r (λ n. n.decl ≡ d) → IfErr r (λ s. s ≡ stop.Memory)
    → Defining old new said r
defining_made {new = new} said x d (Ok n) k h w e f m = record {
  still = k;
  answers = λ ts b waits u.
      h ts b waits u
      ∙ ap₂ (λ (l : List RustStmt) (y : Decl). Ok (stated_as (steps_of ts l) (declaring (state_of ts b new) (waits ++ entry_of ts y ∷ []))))
      (sym e) (sym f);
  fits = subst (λ (y : Decl). WhatWithin (length new.types) y.what) (sym f) w;
}
defining_made {old = old} {new = new} said x d (Err s) k h w e f m = defining_forgets old new said s k m

-- behind its value, whose first number is one behind the statement's node
pub defining_goes : {A S : Type 0} {old mid new : RustState} {part : List Ty → S → A} {inside : ℕ → S → Type 0} {x : S} {r : Result New Stop}
    (told : List Ty → Env → ℕ → Answer A) (go : List Ty → State → A → Answer Stated)
    → Typing old mid part (λ ts env. told ts env (suc old.node)) inside (Ok x)
    → Defining mid new (λ ts env st. go ts st (part ts x)) r
    → Defining old new (λ ts env st. and_then (told ts env (suc st.node)) (go ts st)) r
defining_goes {old = old} {mid = mid} {new = new} {part = part} {x = x} {r = r} told go j k = record {
  still = still_on (still_typed j) k.still;
  answers = λ ts b waits u.
      let v = k.still.grown.under ts (facts_in new.types) u in
      let w : Over mid ts = subst (Under mid.types ts) (facts_kept mid.types new.types ts k.still.grown u) v in
      let st = declaring (state_of ts b old) waits in
      goes (new_as ts b new waits) (part ts) (told ts (env_in ts old) (suc old.node)) (go ts st) x r (j.answers ts w)
      (subst (λ (z : State). Answers (new_as ts b new waits) (go ts (declaring z waits) (part ts x)) r) (same_view ts b j w) (k.answers ts b waits u));
  fits = k.fits;
}

pub defining_stops : {A S : Type 0} {old new : RustState} {part : List Ty → S → A} {inside : ℕ → S → Type 0} {s : Stop}
    (told : List Ty → Env → ℕ → Answer A) (go : List Ty → State → A → Answer Stated)
    → Typing old new part (λ ts env. told ts env (suc old.node)) inside (Err s)
    → Defining old new (λ ts env st. and_then (told ts env (suc st.node)) (go ts st)) (Err s)
defining_stops {old = old} {new = new} {part = part} {s = s} told go j = record {
  still = still_typed j;
  answers = λ ts b waits u.
      stops (new_as ts b new waits) (part ts) (told ts (env_in ts old) (suc old.node)) (go ts (declaring (state_of ts b old) waits)) s (j.answers ts u);
  fits = tt;
}

-- a variable with its place
pub new_is : (ts : List Ty) (b : Beside) (old new : RustState) (a : Around) (k : Binding) (d : Declared) (ty : Ty) (n : ℕ) (waits : List Entry) (e : Entry)
    (steps others : List Step) → state_of ts b new ≡ counting (state_of ts b old) a.outermost d ty n → e ≡ entry_for (state_of ts b old) a k d ty
    → others ≡ steps
    → stated_as steps (with_variable (declaring (state_of ts b old) waits) a k d ty n) ≡ stated_as others
    (declaring (state_of ts b new) (waits ++ e ∷ []))
new_is ts b old new a k d ty n waits e steps others s f g =
    let st = state_of ts b old in
    let entry = entry_for st a k d ty in
    ap (λ (es : List Entry). stated_as steps (with_entries (counting st a.outermost d ty n) es)) (append_assoc st.env.entries waits (entry ∷ []))
    ∙ ap₂ (λ (z : State) (y : Entry). stated_as steps (declaring z (waits ++ y ∷ []))) (sym s) (sym f)
    ∙ ap (λ l. stated_as l (declaring (state_of ts b new) (waits ++ e ∷ []))) (sym g)

-- ---- the end of a definition

pub further_still : {old mid new : RustState} → Still old mid → new ≡ record mid { scope = new.scope } → Further old new
further_still {mid = mid} s e = further_to {mid = mid} (ap (λ (z : RustState). z.types) e) (further_grown s.grown)

declared_view : (ts : List Ty) (b : Beside) (mid new : RustState) (scope : Scope) (waits : List Decl) → new ≡ record mid { scope = scope }
    → scope ≡ record mid.scope { decls = mid.scope.decls ++ waits } → state_of ts b new ≡ declaring (state_of ts b mid) (map (entry_of ts) waits)
declared_view ts b mid new scope waits e s =
    ap (state_of ts b) e ∙ ap (λ (z : Scope). state_of ts b (record mid { scope = z })) s
    ∙ ap (λ (es : List Entry). with_entries (state_of ts b mid) es) (map-append (entry_of ts) mid.scope.decls waits)

pub declared_so : (old mid new : RustState) (n : News) (said : List Ty → Beside → Answer Stated) → Ready old → Still old mid
    → DeclsWithin (length mid.types) n.waits.items → ((ts : List Ty) (b : Beside) → Over mid ts → said ts b ≡ Ok (news_as ts b mid n))
    → new.scope.decls ≡ mid.scope.decls ++ n.waits.items → new.scope.kinds ≡ mid.scope.kinds → new.scope.home ≡ mid.scope.home
    → new ≡ record mid { scope = new.scope } → Stating old new (λ ts b (all : Vec RustStmt Global). all_stated_as ts b new all.items) said (Ok n.stmts)
declared_so old mid new n said h s w a d k o e =
    let waits = n.waits.items in
    let scope : new.scope ≡ record mid.scope { decls = mid.scope.decls ++ waits } = scope_by mid.scope new.scope d k o in
    let next : RustState = record mid { scope = record mid.scope { decls = mid.scope.decls ++ waits } } in
    let all : new ≡ next = e ∙ ap (λ (z : Scope). record mid { scope = z }) scope in
    let m = ready_still s h in
    record {
      further = further_still s e;
      stands = record {
        ready = subst Ready (sym all) (record {
          all = record {
            formed = m.all.formed;
            kinds = m.all.kinds;
            decls = decls_both (length mid.types) mid.scope.decls waits m.all.decls w;
          };
          outside = let l = m.outside in omega (arith, l, length-append mid.scope.decls waits);
        });
        begins = (waits, d ∙ ap (λ (z : Scope). z.decls ++ waits) s.scope);
        outside = ap (λ (z : RustState). z.outside) all ∙ s.outside;
      };
      answers = λ ts b u.
          a ts b (subst (λ (z : RustState). Over z ts) all u)
          ∙ ap (λ (z : State). Ok (stated_as (steps_of ts n.stmts.items) z)) (sym (declared_view ts b mid new new.scope waits e scope));
    }

pub still_stops : {old new : RustState} (s : Stop) (said : List Ty → Beside → Answer Stated) → Still old new
    → ((ts : List Ty) (b : Beside) → Over new ts → Answers (news_as ts b new) (said ts b) (Err s))
    → Stating old new (λ ts b (all : Vec RustStmt Global). all_stated_as ts b new all.items) said (Err s)
still_stops {new = new} s said k a = record {
  further = further_grown k.grown;
  stands = tt;
  answers = λ ts b u. stops_as s (news_as ts b new) (λ (all : Vec RustStmt Global). all_stated_as ts b new all.items) (said ts b) (a ts b u);
}
