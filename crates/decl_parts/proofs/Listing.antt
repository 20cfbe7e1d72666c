-- Statements one after another.
use Rattle.std.proofs.Common.{◌≡◌, List, [], ◌∷◌, ◌++◌, refl, sym, ap, ◌∙◌, append_assoc, append-nil, Vec, Global}
use Rattle.std.specs.Prelude.{Result, Ok, Err, IfOk, IfErr}
use Rattle.arc_base.specs.declared.place.Stop.{Stop}
use Rattle.arc_base.specs.declared.place.Stop.TheVariants as stop
use Rattle.arc_base.specs.Refusal.{and_then, Answers}
use Rattle.nim_types.specs.Types.{Ty}
use Rattle.nim_program.specs.declared.stmt.Stmt.{Stmt as RustStmt}
use Rattle.nim_program.specs.declared.stmt.Stmt.TheVariants as S
use Rattle.nim_program.specs.Program as P
use Rattle.nim_program.specs.Program.{Stmts}
use Rattle.nim_program.specs.View.{stmts_of, stmt_before}
use Rattle.expr_rules.specs.Answers.{Answer}
use Rattle.expr_parts.proofs.ForCallers.{answers_as}
use Rattle.decl_parts.specs.declared.state.State.{State as RustState}
use Rattle.decl_rules.specs.State.{State, Stated, stated_as, and_more, block_of}
use Rattle.decl_parts.specs.View.{Over, Beside, state_of, Ready, Further, Stands, Stating}
use Rattle.decl_parts.specs.View.{StatedSo, AllStatedSo, one_stated, steps_in, steps_of, step_of, all_stated_as}
use Rattle.decl_parts.proofs.Stating.{further_same, further_on, stands_still, stands_on, stated_forgets}

-- ---- steps

step_front : (ts : List Ty) (s : RustStmt) (rest : Stmts) → steps_in (stmt_before ts s rest) ≡ steps_in (stmt_before ts s P.Empty) ++ steps_in rest
step_front ts (S.Do value) rest = refl
step_front ts (S.Idle node parts) rest = refl
step_front ts (S.Give node back value) rest = refl
step_front ts (S.Leave node leaving parts) rest = refl
step_front ts (S.Declare node place cursor value) rest = refl
step_front ts (S.If' node p branches q otherwise) rest = refl
step_front ts (S.Case' node selector p branches q otherwise) rest = refl
step_front ts (S.Loop' node kind head p body) rest = refl
step_front ts (S.Raise node exception message) rest = refl
step_front ts (S.Try' node p body q handlers r last) rest = refl
step_front ts (S.Defer' node p last) rest = refl

pub steps_append : (ts : List Ty) (xs ys : List RustStmt) → steps_of ts (xs ++ ys) ≡ steps_of ts xs ++ steps_of ts ys
steps_append ts [] ys = refl
steps_append ts (x ∷ xs) ys =
    step_front ts x (stmts_of ts (xs ++ ys)) ∙ ap (λ l. step_of ts x ++ l) (steps_append ts xs ys)
    ∙ sym (append_assoc (step_of ts x) (steps_of ts xs) (steps_of ts ys))
    ∙ ap (λ l. l ++ steps_of ts ys) (sym (step_front ts x (stmts_of ts xs)))

-- the statements of a block are its steps
pub blocked_steps : (b : Stmts) → block_of (steps_in b) ≡ b
blocked_steps P.Empty = refl
blocked_steps (P.Then s rest) = ap (P.Then s) (blocked_steps rest)
blocked_steps (P.Declare node place cursor value rest) = ap (P.Declare node place cursor value) (blocked_steps rest)
blocked_steps (P.Defer node last rest) = ap (P.Defer node last) (blocked_steps rest)

-- ---- answers

-- what is answered, changed twice
folds : {A B C : Type 0} (f : A → B) (h : B → C) (k : A → C) → ((x : A) → h (f x) ≡ k x) → (r : Answer A)
    → and_then (and_then r (λ x. Ok (f x))) (λ y. Ok (h y)) ≡ and_then r (λ x. Ok (k x))
folds f h k e (Ok x) = ap Ok (e x)
folds f h k e (Err s) = refl

-- what is answered, as it is
pub keeps : {A : Type 0} (f : A → A) → ((x : A) → f x ≡ x) → (r : Answer A) → r ≡ and_then r (λ x. Ok (f x))
keeps f e (Ok x) = ap Ok (sym (e x))
keeps f e (Err s) = refl

-- what follows, said in another way
pub then_as : {A B : Type 0} (f g : A → Answer B) → ((x : A) → f x ≡ g x) → (r : Answer A) → and_then r f ≡ and_then r g
then_as f g e (Ok x) = e x
then_as f g e (Err s) = refl

stops_twice : {A B S T : Type 0} (of : T → A) (part : S → B) (told : Answer B) (go : B → Answer A) (then : A → Answer A) (s : Stop)
    → Answers part told (Err s) → Answers of (and_then (and_then told go) then) (Err s)
stops_twice of part told go then (stop.Refused code at) h = ap (λ z. and_then (and_then z go) then) h
stops_twice of part told go then stop.Memory h = tt

-- ---- one behind another

-- What is done, put before what the rest gives, is the whole.
pub record Left {A : Type 0} (old now : RustState) (whole rest : List Ty → Beside → Answer A) (onto : List Ty → A → A) : Type 0 where
  pub further : Further old now
  pub stands : Stands old now
  pub leads : (ts : List Ty) (b : Beside) → Over now ts → whole ts b ≡ and_then (rest ts b) (λ a. Ok (onto ts a))

-- before the first
pub left_whole : {A : Type 0} (s : RustState) (whole : List Ty → Beside → Answer A) (onto : List Ty → A → A) → Ready s
    → ((ts : List Ty) (a : A) → onto ts a ≡ a) → Left s s whole whole onto
left_whole s whole onto h e = record {
  further = further_same s;
  stands = stands_still s h;
  leads = λ ts b u. keeps (onto ts) (e ts) (whole ts b);
}

-- one more, which is answered
pub left_goes : {A B S : Type 0} {old now new : RustState} {whole rest : List Ty → Beside → Answer A} {onto : List Ty → A → A}
    {part : List Ty → Beside → S → B} {told : List Ty → Beside → Answer B} {x : S}
    (next : List Ty → Beside → B → Answer A) (one : List Ty → B → A → A) (further : List Ty → A → A) → Left old now whole rest onto
    → ((ts : List Ty) (b : Beside) → rest ts b ≡ and_then (told ts b) (λ y. and_then (next ts b y) (λ a. Ok (one ts y a))))
    → Stating now new part told (Ok x) → ((ts : List Ty) (b : Beside) (a : A) → onto ts (one ts (part ts b x) a) ≡ further ts a)
    → Left old new whole (λ ts b. next ts b (part ts b x)) further
left_goes {onto = onto} {part = part} {x = x} next one further left first j e = record {
  further = further_on left.further j.further;
  stands = stands_on left.stands j.stands;
  leads = λ ts b u.
      left.leads ts b (j.further.over ts u)
      ∙ ap (λ z. and_then z (λ a. Ok (onto ts a))) (first ts b)
      ∙ ap (λ z. and_then (and_then z (λ y. and_then (next ts b y) (λ a. Ok (one ts y a)))) (λ a. Ok (onto ts a))) (j.answers ts b u)
      ∙ folds (one ts (part ts b x)) (onto ts) (further ts) (e ts b) (next ts b (part ts b x));
}

-- one more, which stops
pub left_stops : {A B S T : Type 0} {old now new : RustState} {whole rest : List Ty → Beside → Answer A} {onto : List Ty → A → A}
    {part : List Ty → Beside → S → B} {told : List Ty → Beside → Answer B} {s : Stop}
    (of : List Ty → Beside → T → A) (go : List Ty → Beside → B → Answer A) → Left old now whole rest onto
    → ((ts : List Ty) (b : Beside) → rest ts b ≡ and_then (told ts b) (go ts b)) → Stating now new part told (Err s)
    → Stating old new of whole (Err s)
left_stops {whole = whole} {onto = onto} {part = part} {told = told} {s = s} of go left first j = record {
  further = further_on left.further j.further;
  stands = tt;
  answers = λ ts b u.
      answers_as (of ts b) (whole ts b) (and_then (and_then (told ts b) (go ts b)) (λ a. Ok (onto ts a))) (Err s)
      (left.leads ts b (j.further.over ts u) ∙ ap (λ z. and_then z (λ a. Ok (onto ts a))) (first ts b))
      (stops_twice (of ts b) (part ts b) (told ts b) (go ts b) (λ a. Ok (onto ts a)) s (j.answers ts b u));
}

-- want of memory between two
pub left_forgets : {A T : Type 0} {old now : RustState} {whole rest : List Ty → Beside → Answer A} {onto : List Ty → A → A}
    (of : List Ty → Beside → T → A) (s : Stop)
    → Left old now whole rest onto → s ≡ stop.Memory → Stating old now of whole (Err s)
left_forgets {whole = whole} of s left is = stated_forgets of whole s left.further is

-- behind the last
pub left_ends : {A T : Type 0} {old now : RustState} {whole rest : List Ty → Beside → Answer A} {onto : List Ty → A → A}
    (of : List Ty → Beside → T → A) (end : List Ty → Beside → A) (x : T) → Left old now whole rest onto
    → ((ts : List Ty) (b : Beside) → rest ts b ≡ Ok (end ts b)) → ((ts : List Ty) (b : Beside) → onto ts (end ts b) ≡ of ts b x)
    → Stating old now of whole (Ok x)
left_ends {onto = onto} of end x left last e = record {
  further = left.further;
  stands = left.stands;
  answers = λ ts b u. left.leads ts b u ∙ ap (λ z. and_then z (λ a. Ok (onto ts a))) (last ts b) ∙ ap Ok (e ts b);
}

-- ---- statements

-- those that are done, before others
abbrev pub steps_onto : List Ty → List RustStmt → Stated → Stated
steps_onto ts done s = stated_as (steps_of ts done ++ s.steps) s.state

pub nothing_onto : (ts : List Ty) (done : List RustStmt) (s : Stated) → done ≡ [] → steps_onto ts done s ≡ s
nothing_onto ts done s e = ap (λ l. steps_onto ts l s) e

pub more_onto : (ts : List Ty) (done more all : List RustStmt) (st : State) (s : Stated) → all ≡ done ++ more
    → steps_onto ts done (and_more (stated_as (steps_of ts more) st) s) ≡ steps_onto ts all s
more_onto ts done more all st s e =
    ap (λ l. stated_as l s.state)
    (sym (append_assoc (steps_of ts done) (steps_of ts more) s.steps)
    ∙ ap (λ l. l ++ s.steps) (sym (steps_append ts done more) ∙ ap (steps_of ts) (sym e)))

pub onto_end : (ts : List Ty) (b : Beside) (now : RustState) (done : List RustStmt)
    → steps_onto ts done (stated_as [] (state_of ts b now)) ≡ all_stated_as ts b now done
onto_end ts b now done = ap (λ l. stated_as l (state_of ts b now)) (append-nil (steps_of ts done))

-- ---- a list of one

pub stops_as : {A S T : Type 0} (s : Stop) (part : S → A) (of : T → A) (x : Answer A) → Answers part x (Err s) → Answers of x (Err s)
stops_as (stop.Refused code at) part of x h = h
stops_as stop.Memory part of x h = tt

pub list_made : {old new : RustState} {x : RustStmt} (said : List Ty → State → Answer Stated) (r : Result (Vec RustStmt Global) Stop)
    → StatedSo old new said (Ok x) → IfOk r (λ all. all.items ≡ x ∷ []) → IfErr r (λ s. s ≡ stop.Memory) → AllStatedSo old new said r
list_made {new = new} {x = x} said (Ok all) j e m = record {
  further = j.further;
  stands = j.stands;
  answers = λ ts b u. j.answers ts b u ∙ ap (λ l. Ok (all_stated_as ts b new l)) (sym e);
}
list_made {old = old} {new = new} said (Err s) j e m =
    stated_forgets (λ ts b (all : Vec RustStmt Global). all_stated_as ts b new all.items) (λ ts b. said ts (state_of ts b old)) s j.further m

pub list_stops : {old new : RustState} {s : Stop} (said : List Ty → State → Answer Stated) → StatedSo old new said (Err s)
    → AllStatedSo old new said (Err s)
list_stops {old = old} {new = new} {s = s} said j = record {
  further = j.further;
  stands = tt;
  answers = λ ts b u. stops_as s (one_stated ts b new) (λ (all : Vec RustStmt Global). all_stated_as ts b new all.items) (said ts (state_of ts b old))
      (j.answers ts b u);
}
