-- Lists of the one statement that is made.
use Rattle.std.proofs.Common.{◌≡◌, ℕ, List, [], ◌∷◌, ◌∙◌, refl, sym, ap, append-nil, Vec, Global}
use Rattle.std.specs.Prelude.{Result, Ok, Err, IfOk, IfErr}
use Rattle.arc_base.specs.declared.place.Stop.{Stop}
use Rattle.arc_base.specs.declared.place.Stop.TheVariants as stop
use Rattle.arc_base.specs.Refusal.{and_then, Answers}
use Rattle.nim_types.specs.Types.{Ty}
use Rattle.nim_program.specs.declared.stmt.Stmt.{Stmt as RustStmt}
use Rattle.nim_program.specs.Program as P
use Rattle.expr_rules.specs.Answers.{Answer}
use Rattle.expr_parts.proofs.ForCallers.{forgets}
use Rattle.decl_rules.specs.State.{State, Step, does, did, stated_as, up_to_node}
use Rattle.decl_parts.specs.declared.state.State.{State as RustState}
use Rattle.decl_parts.specs.View.{Over, Ready, Stating, AllStatedSo, state_of, step_of, steps_of}
use Rattle.decl_parts.proofs.ForCallers.{did_so, did_by, one_here, list_made, list_stops, stops_as, further_as, further_same, ready_at}
use Rattle.decl_parts.proofs.ForCallers.{stated_forgets}
use Rattle.decl_stmts.specs.ViewStated.{listed_steps, listed_stated}

-- behind a further node
pub made_did : (s : RustState) (n : ℕ) (e : List Ty → P.Stmt) (x : RustStmt) (r : Result (Vec RustStmt Global) Stop) → Ready s
    → ((ts : List Ty) → step_of ts x ≡ does (e ts) ∷ []) → IfOk r (λ all. all.items ≡ x ∷ []) → IfErr r (λ z. z ≡ stop.Memory)
    → AllStatedSo s (record s { node = n }) (λ ts st. Ok (did st (e ts) n)) r
made_did s n e x r h w i m = list_made (λ (ts : List Ty) (st : State). Ok (did st (e ts) n)) r (did_so s n e x h w) i m

-- by a list of its one step
pub made_list : (s : RustState) (n : ℕ) (e : List Ty → P.Stmt) (r : Result (Vec RustStmt Global) Stop) → Ready s
    → IfOk r (λ all. (ts : List Ty) → steps_of ts all.items ≡ does (e ts) ∷ []) → IfErr r (λ z. z ≡ stop.Memory)
    → AllStatedSo s (record s { node = n }) (λ ts st. Ok (did st (e ts) n)) r
made_list s n e (Ok all) h w m = record {
  further = further_as refl (further_same (record s { node = n }));
  stands = record { ready = ready_at s n h; begins = ([], sym (append-nil s.scope.decls)); outside = refl };
  answers = λ ts b u. ap (λ (l : List Step). Ok (stated_as l (state_of ts b (record s { node = n })))) (sym (w ts));
}
made_list s n e (Err z) h w m =
    stated_forgets (λ ts b (all : Vec RustStmt Global). listed_stated ts b (record s { node = n }) all) (λ ts b. Ok (did (state_of ts b s) (e ts) n)) z
    (further_as refl (further_same (record s { node = n }))) m

-- in the state as it is
pub made_here : (s : RustState) (x : RustStmt) (steps : List Ty → List Step) (r : Result (Vec RustStmt Global) Stop) → Ready s
    → ((ts : List Ty) → step_of ts x ≡ steps ts) → IfOk r (λ all. all.items ≡ x ∷ []) → IfErr r (λ z. z ≡ stop.Memory)
    → Stating s s (λ ts b (all : Vec RustStmt Global). listed_stated ts b s all) (λ ts b. Ok (stated_as (steps ts) (state_of ts b s))) r
made_here s x steps r h w i m = list_made (λ (ts : List Ty) (st : State). Ok (stated_as (steps ts) st)) r (one_here s x steps h w) i m

-- what a rule says of it
pub made_answers : {A : Type 0} (of : List RustStmt → A) (said : Answer A) (x : RustStmt) (r : Result (Vec RustStmt Global) Stop)
    → said ≡ Ok (of (x ∷ [])) → IfOk r (λ all. all.items ≡ x ∷ []) → IfErr r (λ z. z ≡ stop.Memory)
    → Answers (λ (all : Vec RustStmt Global). of all.items) said r
made_answers of said x (Ok all) e i m = e ∙ ap (λ (l : List RustStmt). Ok (of l)) (sym i)
made_answers of said x (Err z) e i m = forgets (λ (all : Vec RustStmt Global). of all.items) said z m

pub list_answers : (ts : List Ty) (said : Answer (List Step)) (steps : List Ty → List Step) (r : Result (Vec RustStmt Global) Stop)
    → said ≡ Ok (steps ts) → IfOk r (λ all. (ts : List Ty) → steps_of ts all.items ≡ steps ts) → IfErr r (λ z. z ≡ stop.Memory)
    → Answers (listed_steps ts) said r
list_answers ts said steps (Ok all) e w m = e ∙ ap Ok (sym (w ts))
list_answers ts said steps (Err z) e w m = forgets (listed_steps ts) said z m

-- what a rule says that its statement is
with_state : (st : State) (n : ℕ) (said : Answer P.Stmt) (steps : List Step) → and_then said (λ e. Ok (does e ∷ [])) ≡ Ok steps
    → and_then said (λ e. Ok (did st e n)) ≡ Ok (stated_as steps (up_to_node st n))
with_state st n (Ok e) steps h = ap (λ (a : Answer (List Step)). and_then a (λ l. Ok (stated_as l (up_to_node st n)))) h
with_state st n (Err z) steps h = ap (λ (a : Answer (List Step)). and_then a (λ l. Ok (stated_as l (up_to_node st n)))) h

pub made_by : (s : RustState) (n : ℕ) (said : List Ty → Answer P.Stmt) (r : Result (Vec RustStmt Global) Stop) → Ready s
    → ((ts : List Ty) → Over s ts → Answers (listed_steps ts) (and_then (said ts) (λ e. Ok (does e ∷ []))) r)
    → AllStatedSo s (record s { node = n }) (λ ts st. and_then (said ts) (λ e. Ok (did st e n))) r
made_by s n said (Ok all) h w = record {
  further = further_as refl (further_same (record s { node = n }));
  stands = record { ready = ready_at s n h; begins = ([], sym (append-nil s.scope.decls)); outside = refl };
  answers = λ ts b u. with_state (state_of ts b s) n (said ts) (steps_of ts all.items) (w ts u);
}
made_by s n said (Err z) h w =
    list_stops (λ (ts : List Ty) (st : State). and_then (said ts) (λ e. Ok (did st e n)))
    (did_by s n said (Err z) h (λ ts u. stops_as z (listed_steps ts) (step_of ts) (and_then (said ts) (λ e. Ok (does e ∷ []))) (w ts u)))
