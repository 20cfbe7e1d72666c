-- Calls from draft to draft, one behind another.
use Rattle.std.proofs.Common.{◌≡◌, ℕ, List, [], ◌∷◌, ◌++◌, length, refl, sym, ap, ap₂, ◌∙◌, subst, append_assoc, append-nil, arith}
use Rattle.std.proofs.lemmas.Option.{none-some, same_Some}
use Rattle.std.proofs.Common.{zero, suc, add-one, Some, length-append, Vec, Global, ◌+◌, drop}
use Rattle.std.proofs.lemmas.List.{map-append}
use Rattle.std.specs.Prelude.{slice_get, Result, Ok, Err, Bool, true, map, None, IfErr, OnOk}
use Rattle.arc_base.specs.declared.place.Place.{Place}
use Rattle.arc_base.specs.declared.place.Stop.{Stop}
use Rattle.arc_base.specs.declared.place.Stop.TheVariants as stop
use Rattle.arc_base.specs.Refusal.{Refusal, and_then, Answers}
use Rattle.nim_tree.specs.declared.stmt.Module.{Module}
use Rattle.nim_tree.specs.Statements.{proclaims, body_in, Head}
use Rattle.nim_tree.specs.Statements.{Statement, Statements, empty, then}
use Rattle.nim_types.specs.Types.{Ty}
use Rattle.nim_program.specs.declared.program.Proc.{Proc as RustProc}
use Rattle.nim_program.specs.declared.stmt.Stmt.{Stmt as RustStmt}
use Rattle.nim_program.specs.Program.{Proc, Stmts}
use Rattle.nim_program.specs.View.{stmts_of, proc_of}
use Rattle.expr_rules.specs.Answers.{Answer}
use Rattle.expr_parts.proofs.ForCallers.{answers_as, forgets}
use Rattle.decl_rules.specs.Stated.{stated, all_stated, ends_with}
use Rattle.decl_rules.specs.LeftOut.{nothing_left_out}
use Rattle.decl_rules.specs.Elaborated.{module_stated, modules_stated, none_left_out}
use Rattle.decl_rules.specs.State.{in_module, ResultPlace, State, Step, Stated, stated_as, and_more, noting, code, is_completed, Item}
use Rattle.check_uses.specs.declared.text.Item.TheVariants as item
use Rattle.check_uses.specs.View.{items_of, item_of}
use Rattle.decl_parts.specs.declared.state.State.{State as RustState}
use Rattle.decl_parts.specs.View.{Beside, Over, Ready, Further, state_of, steps_of}
use Rattle.decl_parts.proofs.ForCallers.{further_same, further_on, further_as, further_to, steps_append, blocked_steps}
use Rattle.decl_heads.specs.ViewHeads.{AreCompleted}
use Rattle.check_decls.specs.declared.draft.Draft.{Draft}
use Rattle.check_decls.specs.View.{AllStand, Sound, Carrying, Carried, CodeNoted, Begins, beside_of, known_in, so_far, onto}
use Rattle.check_decls.specs.Modules.{body_at, in_order}
use Rattle.check_decls.specs.ViewBodies.{noted_rule}
use Rattle.check_decls.proofs.Items.{part_last, all_stand, and_stands, items_start, completed_on, or_no}

-- ---- answers

no_success : {A : Type 0} (refusal : Refusal) (x : A) → ◌≡◌ {A = Answer A} (Err refusal) (Ok x) → ⊥
no_success refusal x e = cc

no_refusal : {A : Type 0} (x : A) (refusal : Refusal) → ◌≡◌ {A = Answer A} (Ok x) (Err refusal) → ⊥
no_refusal x refusal e = cc

same_success : {A : Type 0} (x y : A) → ◌≡◌ {A = Answer A} (Ok x) (Ok y) → x ≡ y
same_success x y e = cc

-- one, and what comes behind it
abbrev pub then_next : Answer Stated → (State → Answer Stated) → Answer Stated
then_next x next = and_then x (λ one. and_then (next one.state) (λ more. Ok (and_more one more)))

onto_twice : (done : List Step) (one : Stated) (x : Answer Stated)
    → onto done (and_then x (λ more. Ok (and_more one more))) ≡ onto (done ++ one.steps) x
onto_twice done one (Ok more) = ap (λ l. Ok (stated_as l more.state)) (sym (append_assoc done one.steps more.steps))
onto_twice done one (Err e) = refl

pub onto_goes : (done : List Step) (x : Answer Stated) (all : Stated) (next : State → Answer Stated) → onto done x ≡ Ok all
    → onto done (then_next x next) ≡ onto all.steps (next all.state)
onto_goes done (Ok one) all next h =
    let e : stated_as (done ++ one.steps) one.state ≡ all = same_success (stated_as (done ++ one.steps) one.state) all h in
    onto_twice done one (next one.state) ∙ ap (λ (s : Stated). onto s.steps (next s.state)) e
onto_goes done (Err e) all next h = absurd (no_success e all h)

pub onto_refuses : (done : List Step) (x : Answer Stated) (r : Refusal) (go : Stated → Answer Stated) → onto done x ≡ Err r
    → onto done (and_then x go) ≡ Err r
onto_refuses done (Ok one) r go h = absurd (no_refusal (stated_as (done ++ one.steps) one.state) r h)
onto_refuses done (Err e) r go h = h

pub onto_stops : {S T : Type 0} (of : S → Stated) (to : T → Stated) (done : List Step) (x : Answer Stated) (go : Stated → Answer Stated) (s : Stop)
    → Answers of (onto done x) (Err s) → Answers to (onto done (and_then x go)) (Err s)
onto_stops of to done x go (stop.Refused cause at) h = onto_refuses done x (record { code = cause; at = at }) go h
onto_stops of to done x go stop.Memory h = tt

onto_forgets : {S T : Type 0} (to : T → Stated) (of : S → Stated) (done : List Step) (x : Answer Stated) (go : Stated → Answer Stated) (s : Stop)
    → Answers of x (Err s) → Answers to (onto done (and_then x go)) (Err s)
onto_forgets to of done x go (stop.Refused cause at) h = ap (λ y. onto done (and_then y go)) h
onto_forgets to of done x go stop.Memory h = tt

-- ---- module code, one behind another

pub carried_whole : (d : Draft) (whole : State → Answer Stated) → Sound d → Carried d d whole whole
carried_whole d whole h = record { further = further_same d.state; sound = h; leads = λ ts u. refl }

pub carried_goes : {T : Type 0} {old now new : Draft} {whole rest : State → Answer Stated} {x : T} (one next : State → Answer Stated)
    → Carried old now whole rest → ((st : State) → rest st ≡ then_next (one st) next) → Carrying now new one (Ok x) → Carried old new whole next
carried_goes {old = old} {now = now} {new = new} one next c e j = record {
  further = further_on c.further j.further;
  sound = j.sound;
  leads = λ ts u.
      c.leads ts (j.further.over ts u)
      ∙ ap (onto (steps_of ts now.start.items)) (e (known_in ts now))
      ∙ onto_goes (steps_of ts now.start.items) (one (known_in ts now)) (so_far ts new) next (j.answers ts u);
}

pub carried_stops : {S T : Type 0} {old now new : Draft} {whole rest : State → Answer Stated} {s : Stop} (one next : State → Answer Stated)
    → Carried old now whole rest → ((st : State) → rest st ≡ then_next (one st) next) → Carrying {T = S} now new one (Err s)
    → Carrying {T = T} old new whole (Err s)
carried_stops {S = S} {T = T} {old = old} {now = now} {new = new} {whole = whole} {s = s} one next c e j = record {
  further = further_on c.further j.further;
  sound = tt;
  answers = λ ts u.
      let done = steps_of ts now.start.items in
      answers_as (λ (z : T). so_far ts new) (onto (steps_of ts old.start.items) (whole (known_in ts old)))
      (onto done (then_next (one (known_in ts now)) next)) (Err s)
      (c.leads ts (j.further.over ts u) ∙ ap (onto done) (e (known_in ts now)))
      (onto_stops (λ (z : S). so_far ts new) (λ (z : T). so_far ts new) done (one (known_in ts now))
      (λ o. and_then (next o.state) (λ more. Ok (and_more o more))) s (j.answers ts u));
}

pub carried_ends : {T : Type 0} {old now : Draft} {whole rest : State → Answer Stated} (x : T) → Carried old now whole rest
    → ((st : State) → rest st ≡ Ok (stated_as [] st)) → Carrying old now whole (Ok x)
carried_ends {now = now} x c e = record {
  further = c.further;
  sound = c.sound;
  answers = λ ts u.
      c.leads ts u ∙ ap (onto (steps_of ts now.start.items)) (e (known_in ts now))
      ∙ ap (λ l. Ok (stated_as l (known_in ts now))) (append-nil (steps_of ts now.start.items));
}

pub carrying_forgets : {T : Type 0} {old new : Draft} (said : State → Answer Stated) (s : Stop) → Further old.state new.state → s ≡ stop.Memory
    → Carrying {T = T} old new said (Err s)
carrying_forgets {T = T} {old = old} {new = new} said s f is = record {
  further = f;
  sound = tt;
  answers = λ ts u. forgets (λ (z : T). so_far ts new) (onto (steps_of ts old.start.items) (said (known_in ts old))) s is;
}

-- ---- another state

pub sound_state : (d : Draft) (s : RustState) → Sound d → Further d.state s → Ready s → Sound (record d { state = s })
sound_state d s h f r = record { ready = r; text = h.text; completed = λ ts u. h.completed ts (f.over ts u) }

-- ---- the note of statements

abbrev beside : List Proc → List Item → Beside
beside procs text = record { procs = procs; text = text }

abbrev with_item : State → Item → State
with_item st i = record st { text = st.text ++ i ∷ [] }

noted_items : (ts : List Ty) (d e : Draft) (more : List RustStmt) → Sound d → CodeNoted d e more
    → items_of ts e.procs.items e.start.items e.text ≡ items_of ts d.procs.items d.start.items d.text ++ code (stmts_of ts more) ∷ []
noted_items ts d e more h n =
    let procs = d.procs.items in
    let start = d.start.items in
    let i = item.Code (length start) (length more) in
    ap (λ (p : Vec RustProc Global). items_of ts p.items e.start.items e.text) n.procs
    ∙ ap₂ (λ l t. items_of ts procs l t) n.start n.text
    ∙ map-append (item_of ts procs (start ++ more)) d.text (i ∷ [])
    ∙ ap₂ (λ l x. l ++ code (stmts_of ts x) ∷ []) (items_start ts procs start more (length procs) d.text h.text) (part_last start more)

abbrev with_code : List Ty → Draft → List RustStmt → Beside
with_code ts d more = record { procs = (beside_of ts d).procs; text = (beside_of ts d).text ++ code (stmts_of ts more) ∷ [] }

noted_beside : (ts : List Ty) (d e : Draft) (more : List RustStmt) → Sound d → CodeNoted d e more → beside_of ts e ≡ with_code ts d more
noted_beside ts d e more h n =
    ap₂ beside (ap (λ (p : Vec RustProc Global). map (proc_of ts) p.items) n.procs) (noted_items ts d e more h n)

noted_stand : (d e : Draft) (more : List RustStmt) → Sound d → CodeNoted d e more → AllStand (length e.procs.items) (length e.start.items) e.text
noted_stand d e more h n =
    let p = length d.procs.items in
    let start = d.start.items in
    let i = item.Code (length start) (length more) in
    let s = length (start ++ more) in
    let lengths = length-append start more in
    let all : AllStand p s (d.text ++ i ∷ []) =
    and_stands d.text (i ∷ []) p s (all_stand d.text p p (length start) s (omega arith) (omega (arith, lengths)) h.text) (omega (arith, lengths), tt) in
    subst (λ t. AllStand (length e.procs.items) (length e.start.items) t) (sym n.text)
    (subst (λ (l : List RustStmt). AllStand (length e.procs.items) (length l) (d.text ++ i ∷ [])) (sym n.start)
    (subst (λ (v : Vec RustProc Global). AllStand (length v.items) s (d.text ++ i ∷ [])) (sym n.procs) all))

completed_behind : (ts : List Ty) (d : Draft) (more : List RustStmt) (done : List Bool) → AreCompleted done (beside_of ts d)
    → AreCompleted done (with_code ts d more)
completed_behind ts d more done h = record {
  count = h.count;
  each = λ k.
      completed_on k (beside_of ts d).text (code (stmts_of ts more) ∷ []) ∙ sym (or_no (is_completed k (beside_of ts d).text)) ∙ h.each k;
}

noted_completed : (ts : List Ty) (d e : Draft) (more : List RustStmt) → Sound d → CodeNoted d e more → Over e.state ts
    → AreCompleted e.completed.items (beside_of ts e)
noted_completed ts d e more h n u =
    let before = h.completed ts (subst (λ (s : RustState). Over s ts) n.state u) in
    subst (λ (b : Beside). AreCompleted e.completed.items b) (sym (noted_beside ts d e more h n))
    (subst (λ (v : Vec Bool Global). AreCompleted v.items (with_code ts d more)) (sym n.completed)
    (completed_behind ts d more d.completed.items before))

pub noted_sound : (d e : Draft) (more : List RustStmt) → Sound d → CodeNoted d e more → Sound e
noted_sound d e more h n = record {
  ready = subst Ready (sym n.state) h.ready;
  text = noted_stand d e more h n;
  completed = λ ts u. noted_completed ts d e more h n u;
}

noted_known : (ts : List Ty) (d e : Draft) (more : List RustStmt) → Sound d → CodeNoted d e more
    → known_in ts e ≡ noting true (stated_as (steps_of ts more) (known_in ts d))
noted_known ts d e more h n =
    ap₂ (λ (b : Beside) (s : RustState). state_of ts b s) (noted_beside ts d e more h n) n.state
    ∙ ap (λ (stmts : Stmts). with_item (known_in ts d) (code stmts)) (sym (blocked_steps (stmts_of ts more)))

-- behind statements of which the state behind them is known
pub carrying_noted : {T : Type 0} {old d e : Draft} (said : State → Answer Stated) (more : List RustStmt) (x : T) → Further old.state d.state → Sound d
    → d.start ≡ old.start → CodeNoted d e more
    → ((ts : List Ty) → Over d.state ts → said (known_in ts old) ≡ Ok (stated_as (steps_of ts more) (known_in ts d)))
    → Carrying old e (λ st. and_then (said st) (λ one. Ok (stated_as one.steps (noting true one)))) (Ok x)
carrying_noted {old = old} {d = d} {e = e} said more x f h same n a = record {
  further = further_to (ap (λ (s : RustState). s.types) n.state) f;
  sound = noted_sound d e more h n;
  answers = λ ts u.
      let done = steps_of ts old.start.items in
      let note = λ (y : Answer Stated). onto done (and_then y (λ one. Ok (stated_as one.steps (noting true one)))) in
      let before : d.start.items ≡ old.start.items = ap (λ (v : Vec RustStmt Global). v.items) same in
      ap note (a ts (subst (λ (s : RustState). Over s ts) n.state u))
      ∙ ap₂ (λ l (st : State). Ok (stated_as l st))
      (sym (steps_append ts old.start.items more) ∙ ap (λ l. steps_of ts (l ++ more)) (sym before) ∙ ap (steps_of ts) (sym n.start))
      (sym (noted_known ts d e more h n));
}

pub carrying_note : {T : Type 0} {old d e : Draft} (said : State → Answer Stated) (more : List RustStmt) (r : Result T Stop) → Further old.state d.state
    → Sound d → d.start ≡ old.start → OnOk r (CodeNoted d e more) → e.state ≡ d.state → IfErr r (λ s. s ≡ stop.Memory)
    → ((ts : List Ty) → Over d.state ts → said (known_in ts old) ≡ Ok (stated_as (steps_of ts more) (known_in ts d)))
    → Carrying old e (λ st. and_then (said st) (λ one. Ok (stated_as one.steps (noting true one)))) r
carrying_note said more (Ok x) f h same n state memory a = carrying_noted said more x f h same n a
carrying_note said more (Err s) f h same n state memory a =
    carrying_forgets (λ st. and_then (said st) (λ one. Ok (stated_as one.steps (noting true one)))) s
    (further_to (ap (λ (z : RustState). z.types) state) f) memory

pub carrying_stops : {S T : Type 0} {old d : Draft} {s : Stop} (said : State → Answer Stated) (of : List Ty → S → Stated) → Further old.state d.state
    → ((ts : List Ty) → Over d.state ts → Answers (of ts) (said (known_in ts old)) (Err s))
    → Carrying {T = T} old d (λ st. and_then (said st) (λ one. Ok (stated_as one.steps (noting true one)))) (Err s)
carrying_stops {T = T} {old = old} {d = d} {s = s} said of f a = record {
  further = f;
  sound = tt;
  answers = λ ts u.
      onto_forgets (λ (z : T). so_far ts d) (of ts) (steps_of ts old.start.items) (said (known_in ts old))
      (λ one. Ok (stated_as one.steps (noting true one))) s (a ts u);
}

-- ---- a statement before others

ends_nothing : (rest : Statements) → ends_with None rest ≡ None
ends_nothing empty = refl
ends_nothing (then first rest) = refl

noted_before : (x : Answer Stated) (f : State → Answer Stated)
    → and_then x (λ one. and_then (f (noting true one)) (λ more. Ok (and_more one more)))
    ≡ then_next (and_then x (λ one. Ok (stated_as one.steps (noting true one)))) f
noted_before (Ok one) f = refl
noted_before (Err e) f = refl

pub then_noted : (st : State) (first : Statement) (rest : Statements)
    → all_stated in_module None st (then first rest) ≡ then_next (noted_rule st first) (λ z. all_stated in_module None z rest)
then_noted st first rest =
    ap (λ (e : ResultPlace). and_then (stated in_module e st first) (λ one. and_then (all_stated in_module None (noting true one) rest)
    (λ more. Ok (and_more one more)))) (ends_nothing rest)
    ∙ noted_before (stated in_module None st first) (λ z. all_stated in_module None z rest)

-- ---- a module

pub module_carried : {T : Type 0} {old mid new : Draft} {r : Result T Stop} (number : ℕ) (body : Statements) → Begins old mid number
    → Carrying mid new (λ st. all_stated in_module None st body) r
    → Carrying old new (λ st. module_stated st (record { number = number; body = body })) r
module_carried {T = T} {old = old} {mid = mid} {new = new} {r = r} number body begins j = record {
  further = further_as begins.types j.further;
  sound = j.sound;
  answers = λ ts u.
      let v = j.further.over ts u in
      answers_as (λ (z : T). so_far ts new)
      (onto (steps_of ts old.start.items) (module_stated (known_in ts old) (record { number = number; body = body })))
      (onto (steps_of ts mid.start.items) (all_stated in_module None (known_in ts mid) body)) r
      (ap₂ (λ (l : Vec RustStmt Global) (z : State). onto (steps_of ts l.items) (all_stated in_module None z body))
      (sym begins.start) (sym (begins.known ts v)))
      (j.answers ts u);
}

drop_at : (xs : List ℕ) (i x : ℕ) → slice_get xs i ≡ Some x → drop i xs ≡ x ∷ drop (suc i) xs
drop_at [] i x h = absurd (none-some x h)
drop_at (y ∷ xs) zero x h = ap (λ z. z ∷ xs) (same_Some y x h)
drop_at (y ∷ xs) (suc i) x h = drop_at xs i x h

next_number : (xs : List ℕ) (i x : ℕ) → slice_get xs i ≡ Some x → drop i xs ≡ x ∷ drop (i + 1) xs
next_number xs i x h = drop_at xs i x h ∙ ap (λ n. x ∷ drop n xs) (sym (add-one i))

pub next_module : (st : State) (modules : List Module) (order : List ℕ) (i n : ℕ) (body : Statements) → body ≡ body_at (slice_get modules n)
    → slice_get order i ≡ Some n
    → modules_stated st (in_order modules (drop i order))
    ≡ then_next (module_stated st (record { number = n; body = body })) (λ z. modules_stated z (in_order modules (drop (i + 1) order)))
next_module st modules order i n body is at =
    ap (λ l. modules_stated st (in_order modules l)) (next_number order i n at)
    ∙ ap (λ (b : Statements). then_next (module_stated st (record { number = n; body = b }))
    (λ z. modules_stated z (in_order modules (drop (i + 1) order))))
    (sym is)

pub next_form : (modules : List Module) (order : List ℕ) (i n : ℕ) (body : Statements) → body ≡ body_at (slice_get modules n)
    → slice_get order i ≡ Some n
    → none_left_out (in_order modules (drop i order)) ≡ and_then (nothing_left_out body) (λ _. none_left_out (in_order modules (drop (i + 1) order)))
next_form modules order i n body is at =
    ap (λ l. none_left_out (in_order modules l)) (next_number order i n at)
    ∙ ap (λ (b : Statements). and_then (nothing_left_out b) (λ _. none_left_out (in_order modules (drop (i + 1) order)))) (sym is)

-- ---- procedures and other statements

pub proclaims_by : {s : Statement} {at : Place} {h : Head} {q d : Statements} → s ≡ proclaims at h q → d ≡ body_in s → proclaims at h d ≡ s
proclaims_by {at = at} {h = h} e f = ap (proclaims at h) (f ∙ ap body_in e) ∙ sym e
