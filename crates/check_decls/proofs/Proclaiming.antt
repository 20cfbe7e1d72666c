-- Procedures, from the draft before to the draft behind.
use Rattle.std.proofs.Common.{◌≡◌, List, [], sym, ap, ◌∙◌, subst, None}
use Rattle.std.specs.Prelude.{Result, Ok, Err, IfErr, OnOk, Bool, Option}
use Rattle.arc_base.specs.declared.place.Place.{Place}
use Rattle.arc_base.specs.declared.place.Stop.{Stop}
use Rattle.arc_base.specs.declared.place.Stop.TheVariants as stop
use Rattle.arc_base.specs.Refusal.{and_then, Answers}
use Rattle.nim_tree.specs.declared.stmt.ProcHead.{ProcHead}
use Rattle.nim_tree.specs.Statements.{Statements, head_of, proclaims}
use Rattle.nim_types.specs.Types.{Ty, Facts}
use Rattle.nim_program.specs.declared.program.Body.{Body as RustBody}
use Rattle.expr_rules.specs.Answers.{Answer}
use Rattle.expr_parts.specs.View.{Grown, env_of}
use Rattle.expr_parts.proofs.ForCallers.{answers_as, forgets, stops}
use Rattle.decl_rules.specs.State.{State, stated_as, in_module}
use Rattle.decl_rules.specs.Stated.{stated, has_statements}
use Rattle.decl_rules.specs.Heads.{Headed, Signature, head_by, procedure_name, signature_rule}
use Rattle.decl_rules.specs.Bodies.{behind_head}
use Rattle.decl_parts.specs.declared.state.State.{State as RustState}
use Rattle.decl_parts.specs.View.{Beside, Over, Ready, Further, Stating, state_of}
use Rattle.decl_parts.proofs.ForCallers.{further_as, further_to, further_same, further_on, facts_kept}
use Rattle.decl_heads.specs.declared.signature.Signature.{Signature as RustSignature}
use Rattle.decl_heads.specs.declared.heads.Headed.{Headed as RustHeaded}
use Rattle.decl_heads.specs.ViewHeads.{signature_of, headed_of, AreNumbered, AreCompleted}
use Rattle.check_decls.specs.declared.draft.Draft.{Draft}
use Rattle.check_decls.specs.View.{Sound, Passing, beside_of, known_in}
use Rattle.check_decls.specs.ViewBodies.{Bodied, bodied_as, body_rule, noting_body, proclaim_rule, beside_in, HeadDeclared, NumberFits, is_there, Noted}
use Rattle.check_decls.proofs.ProcedureRule.{proclaimed, head_is}
use Rattle.check_decls.proofs.Noting.{proc_for, beside_noted, noted_state, procedure_sound}

-- ---- one behind another

pub passing_forgets : {A T : Type 0} {old new : Draft} (of : List Ty → A) (said : List Ty → State → Answer A) (s : Stop) → Further old.state new.state
    → s ≡ stop.Memory → Passing {T = T} old new of said (Err s)
passing_forgets {T = T} {old = old} of said s f is = record {
  further = f;
  sound = tt;
  answers = λ ts u. forgets (λ (z : T). of ts) (said ts (known_in ts old)) s is;
}

-- ---- behind the body

behind_body : (ts : List Ty) (d e : Draft) (behind body : RustState) (at : Place) (h : ProcHead) (g : RustSignature) (k : RustHeaded)
    (trees : Statements) (x : Option RustBody) → Sound d → AreNumbered d.state.place g.params → k.name ≡ procedure_name h.name
    → NumberFits (known_in ts d) (headed_of ts g k) (is_there x) → HeadDeclared d.state behind g k → Over body ts
    → Stating behind body (λ ts b y. bodied_as ts b body y) (λ ts b. body_rule (state_of ts b behind) (head_of h) (headed_of ts g k) trees) (Ok x)
    → Noted k.is_new d e k.number (proc_for at h g x) k.borrowed → e.state ≡ body
    → proclaim_rule (known_in ts d) at (head_of h) (headed_of ts g k) trees ≡ Ok (stated_as [] (known_in ts e))
behind_body ts d e behind body at h g k trees x sound numbered name fits declared u j noted same =
    let st = known_in ts d in
    let head = headed_of ts g k in
    let next = behind_head st at (head_of h) head in
    let b = beside_in next in
    let go = λ (y : Answer Bodied). and_then y (λ z. Ok (stated_as [] (noting_body next at (head_of h) head z.state z.body))) in
    ap (λ (z : State). go (body_rule z (head_of h) head trees)) (sym (declared.known ts (beside_of ts d) at (head_of h) name))
    ∙ ap go (j.answers ts b u)
    ∙ ap (λ (z : State). Ok (stated_as [] z))
    (sym (ap (state_of ts (beside_of ts e)) same ∙ beside_noted ts d e body at h g k.is_new k.number k.borrowed x sound numbered noted fits))

pub proclaim_goes : {T : Type 0} (d e : Draft) (behind body : RustState) (at : Place) (h : ProcHead) (g : RustSignature) (k : RustHeaded) (trees : Statements)
    (x : Option RustBody) (r : Result T Stop) → Sound d → AreNumbered d.state.place g.params → k.name ≡ procedure_name h.name
    → ((ts : List Ty) → Over d.state ts → NumberFits (known_in ts d) (headed_of ts g k) (has_statements trees)) → HeadDeclared d.state behind g k
    → Stating behind body (λ ts b y. bodied_as ts b body y) (λ ts b. body_rule (state_of ts b behind) (head_of h) (headed_of ts g k) trees) (Ok x)
    → is_there x ≡ has_statements trees → OnOk r (Noted k.is_new (record d { state = body }) e k.number (proc_for at h g x) k.borrowed)
    → e.state ≡ body → IfErr r (λ s. s ≡ stop.Memory)
    → Passing d e (λ ts. stated_as [] (known_in ts e)) (λ ts st. proclaim_rule st at (head_of h) (headed_of ts g k) trees) r
proclaim_goes d e behind body at h g k trees x (Ok y) sound numbered name fits declared j there noted same memory =
    let note = noted_state k.is_new d e body k.number (proc_for at h g x) k.borrowed noted in
    let f : Further d.state e.state = further_to (ap (λ (s : RustState). s.types) same) (further_as declared.types j.further) in
    let fits_there = λ (ts : List Ty) (u : Over d.state ts). subst (NumberFits (known_in ts d) (headed_of ts g k)) (sym there) (fits ts u) in
    record {
      further = f;
      sound =
          procedure_sound d e g k.is_new k.number k.borrowed (is_there x) (proc_for at h g x) sound (subst Ready (sym same) j.stands.ready) f.over note
          fits_there;
      answers = λ ts u.
          behind_body ts d e behind body at h g k trees x sound numbered name (fits_there ts (f.over ts u)) declared
          (subst (λ (s : RustState). Over s ts) same u) j note same;
    }
proclaim_goes d e behind body at h g k trees x (Err s) sound numbered name fits declared j there noted same memory =
    passing_forgets (λ ts. stated_as [] (known_in ts e)) (λ ts st. proclaim_rule st at (head_of h) (headed_of ts g k) trees) s
    (further_to (ap (λ (z : RustState). z.types) same) (further_as declared.types j.further)) memory

pub proclaim_stops : {S T : Type 0} (d : Draft) (behind body : RustState) (at : Place) (h : ProcHead) (g : RustSignature) (k : RustHeaded) (trees : Statements)
    (of : List Ty → Beside → S → Bodied) (s : Stop) → k.name ≡ procedure_name h.name → HeadDeclared d.state behind g k
    → Stating behind body of (λ ts b. body_rule (state_of ts b behind) (head_of h) (headed_of ts g k) trees) (Err s)
    → Passing {T = T} d (record d { state = body }) (λ ts. stated_as [] (known_in ts (record d { state = body })))
    (λ ts st. proclaim_rule st at (head_of h) (headed_of ts g k) trees) (Err s)
proclaim_stops {T = T} d behind body at h g k trees of s name declared j = record {
  further = further_as declared.types j.further;
  sound = tt;
  answers = λ ts u.
      let st = known_in ts d in
      let head = headed_of ts g k in
      let next = behind_head st at (head_of h) head in
      let go = λ (z : Bodied). Ok (stated_as [] (noting_body next at (head_of h) head z.state z.body)) in
      let after = record d { state = body } in
      answers_as (λ (z : T). stated_as [] (known_in ts after)) (and_then (body_rule next (head_of h) head trees) go)
      (and_then (body_rule (state_of ts (beside_in next) behind) (head_of h) head trees) go) (Err s)
      (ap (λ (z : State). and_then (body_rule z (head_of h) head trees) go) (sym (declared.known ts (beside_of ts d) at (head_of h) name)))
      (stops (λ (z : T). stated_as [] (known_in ts after)) (of ts (beside_in next))
      (body_rule (state_of ts (beside_in next) behind) (head_of h) head trees) go s (j.answers ts (beside_in next) u));
}

-- ---- behind the head

-- what is known stays, with more types
pub grown_known : (ts : List Ty) (b : Beside) (old new : RustState) → Grown old.types new.types → new ≡ record old { types = new.types } → Over new ts
    → state_of ts b new ≡ state_of ts b old
grown_known ts b old new g e u =
    ap (state_of ts b) e
    ∙ ap (λ (f : Facts). record (state_of ts b old) { env = env_of ts f old.scope }) (facts_kept old.types new.types ts g u)

pub signature_goes : {T : Type 0} (d e : Draft) (behind : RustState) (at : Place) (h : ProcHead) (g : RustSignature) (trees : Statements) (r : Result T Stop)
    → Grown d.state.types behind.types → behind ≡ record d.state { types = behind.types }
    → Stating d.state behind (λ ts b s. signature_of ts s) (λ ts b. signature_rule (state_of ts b d.state) (head_of h)) (Ok g)
    → Passing (record d { state = behind }) e (λ ts. stated_as [] (known_in ts e))
    (λ ts st. and_then (head_by st at (head_of h) (has_statements trees) (signature_of ts g)) (λ k. proclaim_rule st at (head_of h) k trees)) r
    → Passing d e (λ ts. stated_as [] (known_in ts e)) (λ ts st. stated in_module None st (proclaims at (head_of h) trees)) r
signature_goes {T = T} d e behind at h g trees r grown same j passing = record {
  further = further_on j.further passing.further;
  sound = passing.sound;
  answers = λ ts u.
      let v = passing.further.over ts u in
      let go = λ (st : State) (s : Signature).
      and_then (head_by st at (head_of h) (has_statements trees) s) (λ k. proclaim_rule st at (head_of h) k trees) in
      answers_as (λ (z : T). stated_as [] (known_in ts e)) (stated in_module None (known_in ts d) (proclaims at (head_of h) trees))
      (go (known_in ts (record d { state = behind })) (signature_of ts g)) r
      (proclaimed (known_in ts d) at (head_of h) trees
      ∙ ap (λ (x : Answer Signature). and_then x (go (known_in ts d))) (j.answers ts (beside_of ts d) v)
      ∙ ap (λ (z : State). go z (signature_of ts g)) (sym (grown_known ts (beside_of ts d) d.state behind grown same v)))
      (passing.answers ts u);
}

pub signature_stops : {S T : Type 0} (d : Draft) (behind : RustState) (at : Place) (h : ProcHead) (trees : Statements)
    (of : List Ty → Beside → S → Signature)
    (s : Stop) → Stating d.state behind of (λ ts b. signature_rule (state_of ts b d.state) (head_of h)) (Err s)
    → Passing {T = T} d (record d { state = behind }) (λ ts. stated_as [] (known_in ts (record d { state = behind })))
    (λ ts st. stated in_module None st (proclaims at (head_of h) trees)) (Err s)
signature_stops {T = T} d behind at h trees of s j = record {
  further = j.further;
  sound = tt;
  answers = λ ts u.
      let st = known_in ts d in
      let after = record d { state = behind } in
      let go = λ (g : Signature). and_then (head_by st at (head_of h) (has_statements trees) g) (λ k. proclaim_rule st at (head_of h) k trees) in
      answers_as (λ (z : T). stated_as [] (known_in ts after)) (stated in_module None st (proclaims at (head_of h) trees))
      (and_then (signature_rule st (head_of h)) go) (Err s) (proclaimed st at (head_of h) trees)
      (stops (λ (z : T). stated_as [] (known_in ts after)) (of ts (beside_of ts d)) (signature_rule st (head_of h)) go s (j.answers ts (beside_of ts d) u));
}

-- what is known of a head
abbrev pub HeadSaid : Draft → List Bool → Place → ProcHead → RustSignature → (has_body : Bool) → {T : Type 0}
    → (List Ty → T → Headed) → Result T Stop → Type 0
HeadSaid d completed at h g has_body of r =
    (ts : List Ty) (b : Beside) → Over d.state ts → AreCompleted completed b
    → Answers (of ts) (head_by (state_of ts b d.state) at (head_of h) has_body (signature_of ts g)) r

pub head_fits : (d : Draft) (completed : List Bool) (at : Place) (h : ProcHead) (g : RustSignature) (whole has_body : Bool) (k : RustHeaded) → Sound d
    → completed ≡ d.completed.items → whole ≡ has_body → HeadSaid d completed at h g whole (λ ts. headed_of ts g) (Ok k)
    → (ts : List Ty) → Over d.state ts → NumberFits (known_in ts d) (headed_of ts g k) has_body
head_fits d completed at h g whole has_body k sound e same said ts u =
    subst (NumberFits (known_in ts d) (headed_of ts g k)) same
    (head_is (known_in ts d) at (head_of h) whole (signature_of ts g) (headed_of ts g k)
    (said ts (beside_of ts d) u (subst (λ l. AreCompleted l (beside_of ts d)) (sym e) (sound.completed ts u))))

pub head_goes : {T : Type 0} (d e : Draft) (completed : List Bool) (at : Place) (h : ProcHead) (g : RustSignature) (whole : Bool) (k : RustHeaded)
    (trees : Statements) (r : Result T Stop) → Sound d → completed ≡ d.completed.items → whole ≡ has_statements trees
    → HeadSaid d completed at h g whole (λ ts. headed_of ts g) (Ok k)
    → Passing d e (λ ts. stated_as [] (known_in ts e)) (λ ts st. proclaim_rule st at (head_of h) (headed_of ts g k) trees) r
    → Passing d e (λ ts. stated_as [] (known_in ts e))
    (λ ts st. and_then (head_by st at (head_of h) (has_statements trees) (signature_of ts g)) (λ k. proclaim_rule st at (head_of h) k trees)) r
head_goes {T = T} d e completed at h g whole k trees r sound c same said passing = record {
  further = passing.further;
  sound = passing.sound;
  answers = λ ts u.
      let st = known_in ts d in
      let v = passing.further.over ts u in
      let before = subst (λ l. AreCompleted l (beside_of ts d)) (sym c) (sound.completed ts v) in
      answers_as (λ (z : T). stated_as [] (known_in ts e))
      (and_then (head_by st at (head_of h) (has_statements trees) (signature_of ts g)) (λ k. proclaim_rule st at (head_of h) k trees))
      (proclaim_rule st at (head_of h) (headed_of ts g k) trees) r
      (ap (λ b. and_then (head_by st at (head_of h) b (signature_of ts g)) (λ k. proclaim_rule st at (head_of h) k trees)) (sym same)
      ∙ ap (λ (x : Answer Headed). and_then x (λ k. proclaim_rule st at (head_of h) k trees)) (said ts (beside_of ts d) v before))
      (passing.answers ts u);
}

pub head_stops : {T : Type 0} (d : Draft) (completed : List Bool) (at : Place) (h : ProcHead) (g : RustSignature) (whole : Bool)
    (trees : Statements) (s : Stop) → Sound d → completed ≡ d.completed.items → whole ≡ has_statements trees
    → HeadSaid d completed at h g whole (λ ts. headed_of ts g) (Err s)
    → Passing {T = T} d d (λ ts. stated_as [] (known_in ts d))
    (λ ts st. and_then (head_by st at (head_of h) (has_statements trees) (signature_of ts g)) (λ k. proclaim_rule st at (head_of h) k trees)) (Err s)
head_stops {T = T} d completed at h g whole trees s sound c same said = record {
  further = further_same d.state;
  sound = tt;
  answers = λ ts u.
      let st = known_in ts d in
      let before = subst (λ l. AreCompleted l (beside_of ts d)) (sym c) (sound.completed ts u) in
      let go = λ (k : Headed). proclaim_rule st at (head_of h) k trees in
      answers_as (λ (z : T). stated_as [] (known_in ts d)) (and_then (head_by st at (head_of h) (has_statements trees) (signature_of ts g)) go)
      (and_then (head_by st at (head_of h) whole (signature_of ts g)) go) (Err s)
      (ap (λ b. and_then (head_by st at (head_of h) b (signature_of ts g)) go) (sym same))
      (stops (λ (z : T). stated_as [] (known_in ts d)) (λ (k : RustHeaded). headed_of ts g k) (head_by st at (head_of h) whole (signature_of ts g)) go s
      (said ts (beside_of ts d) u before));
}
