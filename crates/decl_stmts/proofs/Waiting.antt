-- The variables of a definition, one after another.
use Rattle.std.proofs.Common.{◌≡◌, List, [], ◌∷◌, ◌++◌, refl, sym, ap, ap₂, ◌∙◌, append_assoc}
use Rattle.std.proofs.Common.{append-nil}
use Rattle.std.proofs.lemmas.List.{map-append}
use Rattle.std.specs.Prelude.{map, Ok, Err}
use Rattle.arc_base.specs.declared.place.Stop.{Stop}
use Rattle.arc_base.specs.declared.place.Stop.TheVariants as stop
use Rattle.arc_base.specs.Refusal.{and_then, Answers}
use Rattle.nim_tree.specs.declared.name.Declared.{Declared}
use Rattle.nim_types.specs.Types.{Ty}
use Rattle.expr_rules.specs.Answers.{Answer}
use Rattle.expr_rules.specs.Env.{Env, Entry}
use Rattle.expr_parts.specs.View.{entry_of}
use Rattle.expr_parts.proofs.ForCallers.{answers_as}
use Rattle.decl_rules.specs.State.{State, Step, Stated, stated_as, and_more, declaring}
use Rattle.decl_parts.specs.declared.state.State.{State as RustState}
use Rattle.decl_parts.specs.View.{Over, Beside, env_in, state_of, steps_of}
use Rattle.decl_parts.proofs.ForCallers.{steps_append, over_old}
use Rattle.decl_stmts.specs.declared.definitions.New.{New}
use Rattle.decl_stmts.specs.declared.definitions.News.{News}
use Rattle.decl_stmts.specs.ViewDefinitions.{Still, Defining, new_as, news_as}
use Rattle.decl_stmts.proofs.Defining.{same_env}

-- what is done, before what follows
abbrev pub with_done : List Step → Answer Stated → Answer Stated
with_done done x = and_then x (λ more. Ok (stated_as (done ++ more.steps) more.state))

-- the names that are left, behind those that wait
abbrev pub NamesDone : (old now : RustState) → News → (rule : List Ty → State → List Declared → Answer Stated) → (all rest : List Declared)
    → Type 0
NamesDone old now n rule all rest =
    (ts : List Ty) (b : Beside) → Over now ts
    → rule ts (state_of ts b old) all ≡ with_done (steps_of ts n.stmts.items)
    (rule ts (declaring (state_of ts b now) (map (entry_of ts) n.waits.items)) rest)

nothing_done : (x : Answer Stated) → x ≡ with_done [] x
nothing_done (Ok s) = refl
nothing_done (Err e) = refl

with_nothing : (ts : List Ty) (b : Beside) (s : RustState) → state_of ts b s ≡ declaring (state_of ts b s) []
with_nothing ts b s =
    ap (λ (es : List Entry). record (state_of ts b s) { env = record (env_in ts s) { entries = es } }) (sym (append-nil (env_in ts s).entries))

pub names_begin : (s : RustState) (n : News) (rule : List Ty → State → List Declared → Answer Stated) (all : List Declared) → n.stmts.items ≡ []
    → n.waits.items ≡ []
    → NamesDone s s n rule all all
names_begin s n rule all e f = λ ts b u.
    ap (λ st. rule ts st all) (with_nothing ts b s)
    ∙ nothing_done (rule ts (declaring (state_of ts b s) []) all)
    ∙ ap₂ (λ l es. with_done (steps_of ts l) (rule ts (declaring (state_of ts b s) (map (entry_of ts) es)) all)) (sym e) (sym f)

onto : (done steps : List Step) (x : Answer Stated) → with_done done (and_then x (λ more. Ok (stated_as (steps ++ more.steps) more.state))) ≡ with_done
    (done ++ steps) x
onto done steps (Ok more) = ap (λ l. Ok (stated_as l more.state)) (sym (append_assoc done steps more.steps))
onto done steps (Err e) = refl

-- one name more
pub names_goes : (old mid new : RustState) (n m : News) (x : New) (rule : List Ty → State → List Declared → Answer Stated)
    (one : List Ty → Env → State → Answer Stated) (all rest more : List Declared) → NamesDone old mid n rule all rest → Still old mid
    → ((ts : List Ty) (st : State) → rule ts st rest ≡ and_then (one ts (env_in ts old) st)
    (λ o. and_then (rule ts o.state more) (λ k. Ok (and_more o k))))
    → Defining mid new one (Ok x) → m.stmts.items ≡ n.stmts.items ++ x.stmts.items → m.waits.items ≡ n.waits.items ++ x.decl ∷ []
    → NamesDone old new m rule all more
names_goes old mid new n m x rule one all rest more d s first j e f = λ ts b u.
    let w : Over mid ts = over_old mid.types new.types ts j.still.grown u in
    let waits = map (entry_of ts) n.waits.items in
    let st = declaring (state_of ts b mid) waits in
    let done = steps_of ts n.stmts.items in
    let go = λ (o : Stated). and_then (rule ts o.state more) (λ k. Ok (and_more o k)) in
    let st2 = declaring (state_of ts b new) (waits ++ entry_of ts x.decl ∷ []) in
    d ts b w
    ∙ ap (with_done done) (first ts st)
    ∙ ap (λ (env : Env). with_done done (and_then (one ts env st) go)) (sym (same_env ts s w))
    ∙ ap (λ (a : Answer Stated). with_done done (and_then a go)) (j.answers ts b waits u)
    ∙ onto done (steps_of ts x.stmts.items) (rule ts st2 more)
    ∙ ap₂ (λ l es. with_done l (rule ts (declaring (state_of ts b new) es) more))
    (sym (steps_append ts n.stmts.items x.stmts.items) ∙ ap (steps_of ts) (sym e))
    (sym (map-append (entry_of ts) n.waits.items (x.decl ∷ [])) ∙ ap (map (entry_of ts)) (sym f))

done_stops : {S T : Type 0} (of : T → Stated) (part : S → Stated) (done : List Step) (x : Answer Stated) (go : Stated → Answer Stated) (s : Stop)
    → Answers part x (Err s) → Answers of (with_done done (and_then x go)) (Err s)
done_stops of part done x go stop.Memory h = tt
done_stops of part done x go (stop.Refused code at) h = ap (λ z. with_done done (and_then z go)) h

pub names_stops : {T : Type 0} (old mid new : RustState) (n : News) (s : Stop) (of : List Ty → Beside → T → Stated)
    (rule : List Ty → State → List Declared → Answer Stated) (one : List Ty → Env → State → Answer Stated) (all rest more : List Declared)
    → NamesDone old mid n rule all rest → Still old mid
    → ((ts : List Ty) (st : State) → rule ts st rest ≡ and_then (one ts (env_in ts old) st)
    (λ o. and_then (rule ts o.state more) (λ k. Ok (and_more o k))))
    → Defining mid new one (Err s) → (ts : List Ty) (b : Beside) → Over new ts → Answers (of ts b) (rule ts (state_of ts b old) all) (Err s)
names_stops old mid new n s of rule one all rest more d still first j ts b u =
    let w : Over mid ts = over_old mid.types new.types ts j.still.grown u in
    let waits = map (entry_of ts) n.waits.items in
    let st = declaring (state_of ts b mid) waits in
    let done = steps_of ts n.stmts.items in
    let go = λ (o : Stated). and_then (rule ts o.state more) (λ k. Ok (and_more o k)) in
    answers_as (of ts b) (rule ts (state_of ts b old) all) (with_done done (and_then (one ts (env_in ts mid) st) go)) (Err s)
    (d ts b w ∙ ap (with_done done) (first ts st) ∙ ap (λ (env : Env). with_done done (and_then (one ts env st) go)) (sym (same_env ts still w)))
    (done_stops (of ts b) (new_as ts b new waits) done (one ts (env_in ts mid) st) go s (j.answers ts b waits u))

-- behind the last name
pub names_end : (old now : RustState) (n : News) (rule : List Ty → State → List Declared → Answer Stated) (all rest : List Declared)
    → NamesDone old now n rule all rest → ((ts : List Ty) (st : State) → rule ts st rest ≡ Ok (stated_as [] st))
    → (ts : List Ty) (b : Beside) → Over now ts → rule ts (state_of ts b old) all ≡ Ok (news_as ts b now n)
names_end old now n rule all rest d last ts b u =
    let st = declaring (state_of ts b now) (map (entry_of ts) n.waits.items) in
    d ts b u ∙ ap (with_done (steps_of ts n.stmts.items)) (last ts st) ∙ ap (λ l. Ok (stated_as l st)) (append-nil (steps_of ts n.stmts.items))
