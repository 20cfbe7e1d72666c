-- Scopes of procedures: what a head declares, where a body begins, and behind it.
use Rattle.std.proofs.Common.{◌≡◌, ℕ, zero, suc, ◌+◌, ◌-◌, ◌≤◌, List, [], ◌∷◌}
use Rattle.std.proofs.Common.{◌++◌, length, take, refl, sym, ap, ap₂, ◌∙◌, subst, append-nil, arith}
use Rattle.std.proofs.Common.{Vec, Global, Some, None, append_assoc}
use Rattle.std.proofs.lemmas.List.{length-map, map-append}
use Rattle.std.specs.Prelude.{Ok, Err, Bool, true, false, map, Option, option_map, IfOk, Result, codes}
use Rattle.std.proofs.lemmas.Bool.{true≢false, false≢true}
use Rattle.arc_base.specs.declared.place.Place.{Place}
use Rattle.arc_base.specs.declared.place.Stop.{Stop}
use Rattle.arc_base.specs.Refusal.{and_then}
use Rattle.nim_tree.specs.declared.stmt.ProcHead.{ProcHead}
use Rattle.nim_tree.specs.declared.stmt.Stmt.{Stmt as Tree}
use Rattle.nim_tree.specs.declared.types.TypeTree.{TypeTree}
use Rattle.nim_tree.specs.Types.{Written, written_of}
use Rattle.nim_tree.specs.Statements.{Statements, Head, head_of, statement_of, statements_of, empty, then}
use Rattle.nim_types.specs.Types.{Ty}
use Rattle.nim_types.specs.declared.types.TypeDef.{TypeDef}
use Rattle.nim_types.specs.Table.{IsBelow, type_at}
use Rattle.nim_program.specs.declared.stmt.PlaceDecl.{PlaceDecl}
use Rattle.nim_program.specs.declared.program.Body.{Body as RustBody}
use Rattle.nim_program.specs.declared.stmt.Stmt.{Stmt as RustStmt}
use Rattle.nim_program.specs.Program as P
use Rattle.nim_program.specs.View.{declared_of, stmts_of, if_type}
use Rattle.expr_rules.specs.Answers.{Answer}
use Rattle.expr_rules.specs.Env as Env
use Rattle.expr_rules.specs.Env.{Entry, Parameter}
use Rattle.expr_parts.specs.declared.scope.Parameter.{Parameter as RustParameter}
use Rattle.expr_parts.specs.declared.scope.What.TheVariants as what
use Rattle.expr_parts.specs.declared.scope.Decl.{Decl}
use Rattle.expr_parts.specs.declared.scope.Scope.{Scope}
use Rattle.expr_parts.specs.View.{DeclsWithin, ParametersWithin, WhatWithin, entry_of, parameter_of}
use Rattle.expr_parts.proofs.ForCallers.{answers_as, stops}
use Rattle.decl_rules.specs.State.{ResultPlace, State, with_entries, entered, left, Stated, and_more, block_of, in_body}
use Rattle.decl_rules.specs.Stated.{stated, all_stated, ends_with, has_statements}
use Rattle.decl_rules.specs.Heads.{Headed, Signature, parameters_of, procedure_name, with_parameters}
use Rattle.decl_rules.specs.Written.{type_place}
use Rattle.decl_rules.specs.Bodies.{behind_head, body_of, result_at, result_of, with_result, without_body}
use Rattle.decl_parts.specs.declared.state.ResultPlace.{ResultPlace as RustResultPlace}
use Rattle.decl_parts.specs.declared.state.State.{State as RustState}
use Rattle.decl_parts.specs.View.{Beside, Ready, Stands, Stating, AllStatedSo, state_of, all_stated_as, steps_of, place_of, if_result, ResultWithin}
use Rattle.decl_parts.proofs.ForCallers.{decls_both, further_as, further_to, further_same, stands_still, blocked_steps}
use Rattle.decl_heads.specs.declared.signature.Signature.{Signature as RustSignature}
use Rattle.decl_heads.specs.declared.heads.Headed.{Headed as RustHeaded}
use Rattle.decl_heads.specs.ViewHeads.{given_of, signature_of, headed_of, Declares}
use Rattle.check_decls.specs.View.{decl_of}
use Rattle.check_decls.specs.ViewBodies.{Bodied, bodied, bodied_as, some_body_rule, body_rule}
use Rattle.check_decls.specs.ViewBodies.{beside_in, HeadDeclared, BodyBegun, with_result_in, result_decl, place_type}
use Rattle.check_decls.specs.ViewBodies.{place_given, last_result, place_behind, is_there}
use Rattle.check_decls.proofs.Items.{length_last}

-- ---- one more declaration

abbrev with_decl : RustState → Decl → RustState
with_decl s d = record s { scope = record s.scope { decls = s.scope.decls ++ d ∷ [] } }

ready_decl : (s : RustState) (d : Decl) → Ready s → WhatWithin (length s.types) d.what → Ready (with_decl s d)
ready_decl s d h w = record {
  all = record { formed = h.all.formed; kinds = h.all.kinds; decls = decls_both (length s.types) s.scope.decls (d ∷ []) h.all.decls (w, tt) };
  outside = omega (arith, h.outside, length_last s.scope.decls d);
}

-- ---- behind a head

abbrev pub head_decl : List ℕ → RustSignature → RustHeaded → List RustParameter → Decl
head_decl name s k params = record {
  name = name;
  what = what.Procedure (record { number = k.number; params = params; gives = s.gives; borrowed = k.borrowed });
}

abbrev head_by : List Ty → RustSignature → RustHeaded → Bool → Headed
head_by ts s k is_new = record { signature = signature_of ts s; number = k.number; is_new = is_new; borrowed = k.borrowed }

abbrev procedure_as : ℕ → Option Ty → Bool → List ℕ → List Parameter → Entry
procedure_as number gives borrowed name params = Env.procedure name (record { number = number; params = params; gives = gives; borrowed = borrowed })

known_new : (ts : List Ty) (b : Beside) (s : RustState) (g : RustSignature) (k : RustHeaded) (params : List RustParameter) (at : Place) (h : Head)
    (is_new : Bool)
    → is_new ≡ true → k.name ≡ procedure_name h.name → map (parameter_of ts) params ≡ parameters_of (map (given_of ts) g.params)
    → state_of ts (beside_in (behind_head (state_of ts b s) at h (head_by ts g k is_new))) (with_decl s (head_decl k.name g k params))
    ≡ behind_head (state_of ts b s) at h (head_by ts g k is_new)
known_new ts b s g k params at h true e name same =
    let st = state_of ts b s in
    let behind = behind_head st at h (head_by ts g k true) in
    ap (λ (es : List Entry). record behind { env = record st.env { entries = es } })
    (map-append (entry_of ts) s.scope.decls (head_decl k.name g k params ∷ [])
    ∙ ap (λ (x : Entry). st.env.entries ++ x ∷ []) (ap₂ (procedure_as k.number (if_type ts g.gives) k.borrowed) name same))
known_new ts b s g k params at h false e name same = absurd (false≢true e)

pub head_new : (old : RustState) (scope : Scope) (g : RustSignature) (k : RustHeaded) (params : List RustParameter) (name : List ℕ) → k.is_new ≡ true
    → name ≡ k.name → scope ≡ record old.scope { decls = old.scope.decls ++ head_decl name g k params ∷ [] }
    → ((ts : List Ty) → map (parameter_of ts) params ≡ parameters_of (map (given_of ts) g.params)) → ParametersWithin (length old.types) params
    → IsBelow (length old.types) g.gives → Ready old → HeadDeclared old (record old { scope = scope }) g k
head_new old scope g k params name new known e same within gives h =
    let d = head_decl k.name g k params in
    let is : scope ≡ record old.scope { decls = old.scope.decls ++ d ∷ [] } =
    e ∙ ap (λ x. record old.scope { decls = old.scope.decls ++ head_decl x g k params ∷ [] }) known in
    subst (λ (z : Scope). HeadDeclared old (record old { scope = z }) g k) (sym is)
    (record {
      types = refl;
      stands = record { ready = ready_decl old d h (gives, within); begins = (d ∷ [], refl); outside = refl };
      known = λ ts b at head name. known_new ts b old g k params at head k.is_new new name (same ts);
    })

known_old : (ts : List Ty) (b : Beside) (s : RustState) (g : RustSignature) (k : RustHeaded) (at : Place) (h : Head) (is_new : Bool) → is_new ≡ false
    → state_of ts (beside_in (behind_head (state_of ts b s) at h (head_by ts g k is_new))) s ≡ behind_head (state_of ts b s) at h (head_by ts g k is_new)
known_old ts b s g k at h true e = absurd (true≢false e)
known_old ts b s g k at h false e = refl

pub head_old : (old : RustState) (g : RustSignature) (k : RustHeaded) → k.is_new ≡ false → Ready old → HeadDeclared old old g k
head_old old g k e h = record {
  types = refl;
  stands = stands_still old h;
  known = λ ts b at head name. known_old ts b old g k at head k.is_new e;
}

-- ---- where a body begins

abbrev result_state : State → ℕ → List Entry → ℕ → State
result_state st outside es place = record (with_entries st es) { outside = outside; place = place }

result_known : (ts : List Ty) (b : Beside) (s : RustState) (place : Option PlaceDecl) (count : ℕ)
    → state_of ts b (record (with_result_in s place) { outside = count })
    ≡ record (with_result (state_of ts b s) (option_map (declared_of ts) place)) { outside = count }
result_known ts b s None count =
    ap₂ (result_state (state_of ts b s) count) (sym (append-nil (map (entry_of ts) s.scope.decls))) (omega arith)
result_known ts b s (Some p) count =
    ap₂ (result_state (state_of ts b s) count) (map-append (entry_of ts) s.scope.decls (result_decl p ∷ [])) (omega arith)

ready_result : (s : RustState) (place : Option PlaceDecl) (count : ℕ) → Ready s → IsBelow (length s.types) (place_type place)
    → count ≡ length (with_result_in s place).scope.decls → Ready (record (with_result_in s place) { outside = count })
ready_result s None count h w e = record { all = h.all; outside = omega (arith, e) }
ready_result s (Some p) count h w e = record {
  all = record { formed = h.all.formed; kinds = h.all.kinds; decls = decls_both (length s.types) s.scope.decls (result_decl p ∷ []) h.all.decls (w, tt) };
  outside = omega (arith, e);
}

result_begins : (s : RustState) (place : Option PlaceDecl) → (more : List Decl) × ((with_result_in s place).scope.decls ≡ s.scope.decls ++ more)
result_begins s None = ([], sym (append-nil s.scope.decls))
result_begins s (Some p) = (result_decl p ∷ [], refl)

result_types : (s : RustState) (place : Option PlaceDecl) → (with_result_in s place).types ≡ s.types
result_types s None = refl
result_types s (Some p) = refl

result_place : (ts : List Ty) (b : Beside) (old : RustState) (n : ℕ) (h : ProcHead) (g : RustSignature) (k : Headed) → n ≡ old.place + length g.params
    → k.signature ≡ signature_of ts g
    → result_at n (option_map written_of h.gives) (if_type ts g.gives) ≡ result_of (state_of ts b old) (head_of h) k
result_place ts b old n h g k e same =
    ap (λ m. result_at m (option_map written_of h.gives) (if_type ts g.gives)) (e ∙ ap (λ m. old.place + m) (sym (length-map g.params (given_of ts))))
    ∙ ap (λ (z : Signature). result_at (old.place + length z.params) (option_map written_of h.gives) z.gives) (sym same)

abbrev body_state : State → Signature → Option P.Declared → State
body_state st sig place = entered (with_result (with_parameters st sig.params) place)

pub body_begun : (old mid new : RustState) (h : ProcHead) (g : RustSignature) (place : Option PlaceDecl) (count : ℕ) → Ready old → mid.types ≡ old.types
    → Declares old mid (λ ts st. with_parameters st (map (given_of ts) g.params)) → mid.place ≡ old.place + length g.params
    → new ≡ record (with_result_in mid place) { outside = count } → count ≡ length (with_result_in mid place).scope.decls
    → ((ts : List Ty) → option_map (declared_of ts) place ≡ result_at mid.place (option_map written_of h.gives) (if_type ts g.gives))
    → IsBelow (length mid.types) (place_type place) → BodyBegun old new h g place
body_begun old mid new h g place count ready types d at e c is within =
    let x = d.extends ready in
    let more = result_begins mid place in
    let answer = λ (ts : List Ty) (b : Beside) (k : Headed) (same : k.signature ≡ signature_of ts g).
    is ts ∙ result_place ts b old mid.place h g k at same in
    subst (λ (z : RustState). BodyBegun old z h g place) (sym e)
    (record {
      types = result_types mid place ∙ types;
      begins = (
        x.begins.0 ++ more.0,
        more.1 ∙ ap (λ l. l ++ more.0) x.begins.1 ∙ append_assoc old.scope.decls x.begins.0 more.0,
      );
      ready = ready_result mid place count x.ready within c;
      within = subst (λ (ds : List TypeDef). IsBelow (length ds) (place_type place)) (sym (result_types mid place)) within;
      result = answer;
      known = λ ts b k same.
          let st = state_of ts b old in
          let o = option_map (declared_of ts) place in
          let known = result_known ts b mid place count in
          let counted : count ≡ length (with_result (state_of ts b mid) o).env.entries =
          c ∙ sym (length-map (with_result_in mid place).scope.decls (entry_of ts)) ∙ ap (λ (z : State). length z.env.entries) known in
          known ∙ ap (λ n. record (with_result (state_of ts b mid) o) { outside = n }) counted
          ∙ ap (λ (z : State). entered (with_result z o)) (d.view ts b)
          ∙ ap (body_state st (signature_of ts g)) (answer ts b k same)
          ∙ ap (λ (z : Signature). body_state st z (result_of st (head_of h) k)) (sym same);
    })

-- ---- behind a body

take_front : {A : Type 0} (xs ys : List A) → take (length xs) (xs ++ ys) ≡ xs
take_front [] ys = refl
take_front (x ∷ xs) ys = ap (λ l. x ∷ l) (take_front xs ys)

decls_front : (n : ℕ) (xs ys : List Decl) → DeclsWithin n (xs ++ ys) → DeclsWithin n xs
decls_front n [] ys h = tt
decls_front n (x ∷ xs) ys h = (h.0, decls_front n xs ys h.1)

abbrev pub behind_scope : (old mid : RustState) → ℕ → RustState
behind_scope old mid count = record mid { outside = old.outside; scope = record mid.scope { decls = take count mid.scope.decls } }

taken : (old mid : RustState) (count : ℕ) (more : List Decl) → count ≡ length old.scope.decls → mid.scope.decls ≡ old.scope.decls ++ more
    → take count mid.scope.decls ≡ old.scope.decls
taken old mid count more e h = ap₂ take e h ∙ take_front old.scope.decls more

leaving : (ts : List Ty) (b : Beside) (old mid : RustState) (count : ℕ) (more : List Decl) → count ≡ length old.scope.decls
    → mid.scope.decls ≡ old.scope.decls ++ more → state_of ts b (behind_scope old mid count) ≡ left (state_of ts b old) (state_of ts b mid)
leaving ts b old mid count more e h =
    ap (λ (ds : List Decl). record (with_entries (state_of ts b mid) (map (entry_of ts) ds)) { outside = old.outside }) (taken old mid count more e h)

left_stands : (old mid : RustState) (count : ℕ) (more : List Decl) → count ≡ length old.scope.decls → mid.scope.decls ≡ old.scope.decls ++ more
    → Ready old → Ready mid → Stands old (behind_scope old mid count)
left_stands old mid count more e h o r = record {
  ready = record {
    all = record {
      formed = r.all.formed;
      kinds = r.all.kinds;
      decls = subst (DeclsWithin (length mid.types)) (sym (taken old mid count more e h))
          (decls_front (length mid.types) old.scope.decls more (subst (DeclsWithin (length mid.types)) h r.all.decls));
    };
    outside = subst (λ (ds : List Decl). old.outside ≤ length ds) (sym (taken old mid count more e h)) o.outside;
  };
  begins = ([], taken old mid count more e h ∙ sym (append-nil old.scope.decls));
  outside = refl;
}

-- ---- the place of a result

abbrev named : P.Declared → P.Declared
named d = record d { name = codes "result" }

given_named : (ts : List Ty) (place : Option PlaceDecl) → if_result ts (place_given place) ≡ option_map named (option_map (declared_of ts) place)
given_named ts None = refl
given_named ts (Some p) = refl

result_is_named : (n : ℕ) (w : Option Written) (ty : Option Ty) → option_map named (result_at n w ty) ≡ result_at n w ty
result_is_named n None ty = refl
result_is_named n (Some w) None = refl
result_is_named n (Some w) (Some ty) = refl

given_is : (ts : List Ty) (place : Option PlaceDecl) (n : ℕ) (w : Option Written) (ty : Option Ty)
    → option_map (declared_of ts) place ≡ result_at n w ty → if_result ts (place_given place) ≡ result_at n w ty
given_is ts place n w ty e = given_named ts place ∙ ap (option_map named) e ∙ result_is_named n w ty

pub given_within : (n : ℕ) (place : Option PlaceDecl) → IsBelow n (place_type place) → ResultWithin n (place_given place)
given_within n None h = tt
given_within n (Some p) h = h

-- of a body that has begun
begun_gives : (ts : List Ty) (b : Beside) (old start : RustState) (h : ProcHead) (g : RustSignature) (k : Headed) (place : Option PlaceDecl)
    (gives : Option RustResultPlace) → gives ≡ place_given place → k.signature ≡ signature_of ts g → BodyBegun old start h g place
    → if_result ts gives ≡ result_of (state_of ts b old) (head_of h) k
begun_gives ts b old start h g k place gives e same begun =
    ap (if_result ts) e
    ∙ given_is ts place (old.place + length k.signature.params) (head_of h).gives k.signature.gives (begun.result ts b k same)

-- ---- a body that is typed

abbrev ended : ℕ → ℕ → ℕ → Option P.Declared → P.Stmts → State → Bodied
ended first places before result stmts st =
    bodied (Some (record { first = first; places = places; before = before; result = result; stmts = stmts })) st

pub body_goes : (old start mid : RustState) (h : ProcHead) (g : RustSignature) (k : RustHeaded) (body : Statements) (place : Option PlaceDecl) (count : ℕ)
    (gives : Option RustResultPlace) (stmts : Vec RustStmt Global) (whole : RustBody) → Ready old → count ≡ length old.scope.decls
    → gives ≡ place_given place → BodyBegun old start h g place
    → AllStatedSo start mid (λ ts st. all_stated (in_body (if_result ts gives)) (if_result ts gives) st body) (Ok stmts)
    → whole.first ≡ old.place → whole.places ≡ mid.place - old.place → whole.before ≡ old.node → whole.result ≡ place → whole.stmts ≡ stmts
    → Stating old (behind_scope old mid count) (λ ts b x. bodied_as ts b (behind_scope old mid count) x)
    (λ ts b. some_body_rule (state_of ts b old) (head_of h) (headed_of ts g k) body) (Ok (Some whole))
body_goes old start mid h g k body place count gives stmts whole o e same begun j first places before result all =
    let more = begun.begins.0 ++ j.stands.begins.0 in
    let decls : mid.scope.decls ≡ old.scope.decls ++ more =
    j.stands.begins.1 ∙ ap (λ l. l ++ j.stands.begins.0) begun.begins.1 ∙ append_assoc old.scope.decls begun.begins.0 j.stands.begins.0 in
    record {
      further = further_to refl (further_as begun.types j.further);
      stands = left_stands old mid count more e decls o j.stands.ready;
      answers = λ ts b u.
          let st = state_of ts b old in
          let head = headed_of ts g k in
          let go = λ (x : Answer Stated). and_then x (λ s. Ok (bodied (Some (body_of st (head_of h) head s)) (left st s.state))) in
          let by = λ (r : ResultPlace) (z : State). go (all_stated (in_body r) r z body) in
          ap₂ by (sym (begun_gives ts b old start h g head place gives same refl begun)) (sym (begun.known ts b head refl))
          ∙ ap go (j.answers ts b u)
          ∙ ap₂ (λ (r : Option P.Declared) (z : State). Ok (ended old.place (mid.place - old.place) old.node r (block_of (steps_of ts stmts.items)) z))
          (sym (begun.result ts b head refl)) (sym (leaving ts b old mid count more e decls))
          ∙ ap (λ (l : P.Stmts). Ok
          (ended old.place (mid.place - old.place) old.node (option_map (declared_of ts) place) l (state_of ts b (behind_scope old mid count))))
          (blocked_steps (stmts_of ts stmts.items))
          ∙ ap₂ (λ n m. Ok (ended n m old.node (option_map (declared_of ts) place) (stmts_of ts stmts.items) (state_of ts b (behind_scope old mid count))))
          (sym first) (sym places)
          ∙ ap (λ n. Ok
          (ended whole.first whole.places n (option_map (declared_of ts) place) (stmts_of ts stmts.items) (state_of ts b (behind_scope old mid count))))
          (sym before)
          ∙ ap₂ (λ (r : Option PlaceDecl) (v : Vec RustStmt Global).
          Ok
          (ended whole.first whole.places whole.before (option_map (declared_of ts) r) (stmts_of ts v.items) (state_of ts b (behind_scope old mid count))))
          (sym result) (sym all);
    }

-- ---- what the last statement gives

ends_is : (ts : List Ty) (gives : Option RustResultPlace) (rest : List Tree) (n : ℕ) → n ≡ length rest
    → ends_with (if_result ts gives) (statements_of rest) ≡ if_result ts (last_result gives n)
ends_is ts gives [] zero e = refl
ends_is ts gives [] (suc n) e = absurd (omega (arith, e))
ends_is ts gives (t ∷ rest) zero e = absurd (omega (arith, e))
ends_is ts gives (t ∷ rest) (suc n) e = refl

-- a statement of a body, before the others
pub body_next : (ts : List Ty) (gives : Option RustResultPlace) (st : State) (trees : List Tree) (item : Tree) (more : List Tree) (n : ℕ)
    (z : Option RustResultPlace)
    → trees ≡ item ∷ more → n ≡ length more → z ≡ last_result gives n
    → all_stated (in_body (if_result ts gives)) (if_result ts gives) st (statements_of trees)
    ≡ and_then (stated (in_body (if_result ts gives)) (if_result ts z) st (statement_of item)) (λ one.
    and_then (all_stated (in_body (if_result ts gives)) (if_result ts gives) one.state (statements_of more)) (λ rest. Ok (and_more one rest)))
body_next ts gives st trees item more n z e count is =
    ap (λ l. all_stated (in_body (if_result ts gives)) (if_result ts gives) st (statements_of l)) e
    ∙ ap (λ (w : ResultPlace). and_then (stated (in_body (if_result ts gives)) w st (statement_of item))
    (λ one. and_then (all_stated (in_body (if_result ts gives)) (if_result ts gives) one.state (statements_of more)) (λ rest. Ok (and_more one rest))))
    (ends_is ts gives more n count ∙ ap (if_result ts) (sym is))

pub last_below : (n : ℕ) (gives : Option RustResultPlace) (left : ℕ) → ResultWithin n gives → ResultWithin n (last_result gives left)
last_below n gives zero h = h
last_below n gives (suc left) h = tt

pub body_stops : (old start mid : RustState) (h : ProcHead) (g : RustSignature) (k : RustHeaded) (body : Statements) (place : Option PlaceDecl)
    (gives : Option RustResultPlace) (s : Stop) → gives ≡ place_given place → BodyBegun old start h g place
    → AllStatedSo start mid (λ ts st. all_stated (in_body (if_result ts gives)) (if_result ts gives) st body) (Err s)
    → Stating old mid (λ ts b (x : Option RustBody). bodied_as ts b mid x)
    (λ ts b. some_body_rule (state_of ts b old) (head_of h) (headed_of ts g k) body) (Err s)
body_stops old start mid h g k body place gives s same begun j = record {
  further = further_as begun.types j.further;
  stands = tt;
  answers = λ ts b u.
      let st = state_of ts b old in
      let head = headed_of ts g k in
      let r = if_result ts gives in
      let go = λ (x : Stated). Ok (bodied (Some (body_of st (head_of h) head x)) (left st x.state)) in
      answers_as (λ (x : Option RustBody). bodied_as ts b mid x) (some_body_rule st (head_of h) head body)
      (and_then (all_stated (in_body r) r (state_of ts b start) body) go) (Err s)
      (ap₂ (λ (x : ResultPlace) (z : State). and_then (all_stated (in_body x) x z body) go)
      (sym (begun_gives ts b old start h g head place gives same refl begun)) (sym (begun.known ts b head refl)))
      (stops (λ (x : Option RustBody). bodied_as ts b mid x) (λ (all : Vec RustStmt Global). all_stated_as ts b mid all.items)
      (all_stated (in_body r) r (state_of ts b start) body) go s (j.answers ts b u));
}

-- ---- without a body

abbrev head_as : List Ty → RustSignature → RustHeaded → Bool → Headed
head_as ts g k borrowed = record { signature = signature_of ts g; number = k.number; is_new = k.is_new; borrowed = borrowed }

skipped_by : (ts : List Ty) (b : Beside) (old : RustState) (g : RustSignature) (k : RustHeaded) (borrowed : Bool)
    → without_body (state_of ts b old) (head_as ts g k borrowed)
    ≡ state_of ts b (record old { place = place_behind borrowed old.place (length g.params) })
skipped_by ts b old g k true = ap (λ n. record (state_of ts b old) { place = old.place + n }) (length-map g.params (given_of ts))
skipped_by ts b old g k false = refl

pub skipped : (old new : RustState) (g : RustSignature) (k : RustHeaded) → Ready old
    → new ≡ record old { place = place_behind k.borrowed old.place (length g.params) }
    → Stating old new (λ ts b x. bodied_as ts b new x) (λ ts b. Ok (bodied None (without_body (state_of ts b old) (headed_of ts g k)))) (Ok None)
skipped old new g k h e =
    subst (λ (z : RustState). Stating old z (λ ts b x. bodied_as ts b z x)
    (λ ts b. Ok (bodied None (without_body (state_of ts b old) (headed_of ts g k)))) (Ok None))
    (sym e)
    (record {
      further = further_as refl (further_same (record old { place = place_behind k.borrowed old.place (length g.params) }));
      stands = record { ready = record { all = h.all; outside = h.outside }; begins = ([], sym (append-nil old.scope.decls)); outside = refl };
      answers = λ ts b u. ap (λ (st : State). Ok (bodied None st)) (skipped_by ts b old g k k.borrowed);
    })

-- ---- with statements or without

pub body_some : (st : State) (h : Head) (k : Headed) (body : Statements) → has_statements body ≡ true
    → body_rule st h k body ≡ some_body_rule st h k body
body_some st h k empty e = absurd (false≢true e)
body_some st h k (then first rest) e = refl

pub body_none : (st : State) (h : Head) (k : Headed) (body : Statements) → has_statements body ≡ false
    → body_rule st h k body ≡ Ok (bodied None (without_body st k))
body_none st h k empty e = refl
body_none st h k (then first rest) e = absurd (true≢false e)

-- ---- the place of a result

pub result_declared : (old : RustState) (scope : Scope) (next : ℕ) (p : PlaceDecl) (name : List ℕ) → name ≡ codes "result"
    → scope ≡ record old.scope { decls = old.scope.decls ++ decl_of name (what.Variable p.number p.ty true false) ∷ [] } → next ≡ suc old.place
    → record old { scope = scope; place = next } ≡ with_result_in old (Some p)
result_declared old scope next p name is e n =
    ap₂ (λ (s : Scope) (m : ℕ). record old { scope = s; place = m })
    (e ∙ ap (λ (x : List ℕ). record old.scope { decls = old.scope.decls ++ decl_of x (what.Variable p.number p.ty true false) ∷ [] }) is) n

pub result_typed : (n : ℕ) (at : Place) (o : Option ℕ) (ty : ℕ) (r : Result (Option PlaceDecl) Stop) → o ≡ Some ty
    → IfOk r (λ place. (ts : List Ty) → option_map (declared_of ts) place ≡ Some (place_of n (codes "result") at (type_at ts ty)))
    → IfOk r (λ place. (ts : List Ty) (tree : Written) → type_place tree ≡ at
    → option_map (declared_of ts) place ≡ result_at n (Some tree) (if_type ts o))
result_typed n at o ty (Ok place) e h = λ ts tree same.
    h ts ∙ ap (λ p. Some (place_of n (codes "result") p (type_at ts ty))) (sym same)
    ∙ ap (λ (x : Option ℕ). result_at n (Some tree) (if_type ts x)) (sym e)
result_typed n at o ty (Err s) e h = tt

pub result_written : (n : ℕ) (at : Place) (o : Option ℕ) (gives : Option TypeTree) (tree : TypeTree) (r : Result (Option PlaceDecl) Stop)
    → gives ≡ Some tree
    → at ≡ type_place (written_of tree)
    → IfOk r (λ place. (ts : List Ty) (tree : Written) → type_place tree ≡ at
    → option_map (declared_of ts) place ≡ result_at n (Some tree) (if_type ts o))
    → IfOk r (λ place. (ts : List Ty) → option_map (declared_of ts) place ≡ result_at n (option_map written_of gives) (if_type ts o))
result_written n at o gives tree (Ok place) e is h = λ ts.
    h ts (written_of tree) (sym is) ∙ ap (λ (x : Option TypeTree). result_at n (option_map written_of x) (if_type ts o)) (sym e)
result_written n at o gives tree (Err s) e is h = tt

pub there_as : (r : Result (Option RustBody) Stop) (b c : Bool) → c ≡ b → IfOk r (λ x. is_there x ≡ b) → IfOk r (λ x. is_there x ≡ c)
there_as (Ok x) b c e h = h ∙ sym e
there_as (Err s) b c e h = tt
