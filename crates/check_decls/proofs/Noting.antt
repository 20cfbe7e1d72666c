-- What is noted of a procedure is what the rules say of the state behind it.
use Rattle.std.proofs.Common.{◌≡◌, ℕ, suc, ◌<◌, List, [], ◌∷◌, ◌++◌}
use Rattle.std.proofs.Common.{length, refl, sym, ap, ap₂, ◌∙◌, subst, append-nil, arith}
use Rattle.std.proofs.Common.{Vec, Global, Some, None}
use Rattle.std.proofs.lemmas.List.{length-map, map-append}
use Rattle.std.specs.Prelude.{Bool, true, false, ◌||◌, ◌&&◌, nat_eq, if◌then◌else◌, map, Option, option_map}
use Rattle.std.specs.Prelude.{slice_get, slice_set}
use Rattle.std.proofs.lemmas.Bool.{false≢true}
use Rattle.arc_base.specs.declared.place.Place.{Place}
use Rattle.nim_tree.specs.declared.stmt.ProcHead.{ProcHead}
use Rattle.nim_tree.specs.Statements.{head_of}
use Rattle.nim_types.specs.Types.{Ty}
use Rattle.nim_types.specs.Table.{type_at}
use Rattle.nim_program.specs.declared.program.Mode.{Mode}
use Rattle.nim_program.specs.declared.program.Param.{Param as RustParam}
use Rattle.nim_program.specs.declared.program.Body.{Body as RustBody}
use Rattle.nim_program.specs.declared.program.Proc.{Proc as RustProc}
use Rattle.nim_program.specs.declared.stmt.Stmt.{Stmt as RustStmt}
use Rattle.nim_program.specs.Program.{Param, Body, Proc}
use Rattle.nim_program.specs.View as view
use Rattle.nim_program.specs.View.{param_of, stmts_of, if_type}
use Rattle.decl_rules.specs.State.{Item, announces, completes, is_completed}
use Rattle.decl_rules.specs.Heads.{Headed}
use Rattle.decl_rules.specs.Bodies.{behind_head, params_from, proc_of}
use Rattle.check_uses.specs.declared.text.Item.TheVariants as item
use Rattle.check_uses.specs.View.{items_of, item_of, block_at, block_of}
use Rattle.decl_parts.specs.declared.state.State.{State as RustState}
use Rattle.decl_parts.specs.View.{Beside, Over, Ready, state_of}
use Rattle.decl_heads.specs.declared.signature.Signature.{Signature as RustSignature}
use Rattle.decl_heads.specs.ViewHeads.{given_of, signature_of, AreNumbered, AreCompleted, holds_at}
use Rattle.check_decls.specs.declared.draft.Draft.{Draft}
use Rattle.check_decls.specs.View.{AllStand, Sound, beside_of, known_in}
use Rattle.check_decls.specs.ViewBodies.{noting_body, beside_in, NumberFits, is_there, announced_by, finished_by, Added, Completed, Noted}
use Rattle.check_decls.proofs.Items.{get_last, length_last, set_same, set_length, map_set, set_last, all_stand, and_stands, items_procs, items_set}
use Rattle.check_decls.proofs.Items.{completed_on, holds_last, holds_set, or_no}

abbrev beside : List Proc → List Item → Beside
beside procs text = record { procs = procs; text = text }

-- ---- the procedure

abbrev numbered_param : Mode → List ℕ → Place → Ty → ℕ → Param
numbered_param mode name at of n = record { place = record { number = n; name = name; at = at; of = of }; mode = mode }

params_are : (ts : List Ty) (n : ℕ) (ps : List RustParam) → AreNumbered n ps → map (param_of ts) ps ≡ params_from n (map (given_of ts) ps)
params_are ts n [] h = refl
params_are ts n (p ∷ ps) h =
    ap₂ (λ (x : Param) l. x ∷ l) (ap (numbered_param p.mode p.place.name p.place.at (type_at ts p.place.ty)) h.0) (params_are ts (suc n) ps h.1)

-- as the code has it
abbrev pub proc_for : Place → ProcHead → RustSignature → Option RustBody → RustProc
proc_for at h s body =
    record { name = h.name.text; at = at; type_params = 0; params = s.params; gives = s.gives; body = body; hook = None }

-- of a head, what is known beside its signature
abbrev pub head_with : List Ty → RustSignature → (is_new : Bool) → ℕ → (borrowed : Bool) → Headed
head_with ts s is_new n borrowed = record { signature = signature_of ts s; number = n; is_new = is_new; borrowed = borrowed }

abbrev with_parameters_of : List ℕ → Place → Option Ty → Option Body → List Param → Proc
with_parameters_of name at gives body params =
    record { name = name; at = at; type_params = 0; params = params; gives = gives; body = body; hook = None }

proc_is : (ts : List Ty) (at : Place) (h : ProcHead) (s : RustSignature) (is_new : Bool) (n : ℕ) (borrowed : Bool) (body : Option RustBody) (place : ℕ)
    → AreNumbered place s.params
    → view.proc_of ts (proc_for at h s body)
    ≡ proc_of at (head_of h) (head_with ts s is_new n borrowed) place (option_map (view.body_of ts) body)
proc_is ts at h s is_new n borrowed body place a =
    ap (with_parameters_of h.name.text at (if_type ts s.gives) (option_map (view.body_of ts) body)) (params_are ts place s.params a)

-- ---- a new one

abbrev announced_so : Bool → ℕ → Place → List Item
announced_so borrowed n at = if borrowed then [] else announces n at ∷ []

announced_is : (ts : List Ty) (procs : List RustProc) (start : List RustStmt) (borrowed : Bool) (n : ℕ) (at : Place)
    → items_of ts procs start (announced_by borrowed n at) ≡ announced_so borrowed n at
announced_is ts procs start true n at = refl
announced_is ts procs start false n at = refl

added_text : (ts : List Ty) (d e : Draft) (p : RustProc) (borrowed : Bool) (n : ℕ) → Sound d → Added d e p borrowed → n ≡ length d.procs.items
    → items_of ts e.procs.items e.start.items e.text
    ≡ ((beside_of ts d).text ++ announced_so borrowed n p.at) ++ items_of ts (d.procs.items ++ p ∷ []) d.start.items (finished_by (is_there p.body) n)
added_text ts d e p borrowed n h a same =
    let all = d.procs.items ++ p ∷ [] in
    let start = d.start.items in
    let of = item_of ts all start in
    let front = announced_by borrowed n p.at in
    let back = finished_by (is_there p.body) n in
    ap (λ (v : Vec RustStmt Global). items_of ts e.procs.items v.items e.text) a.start
    ∙ ap₂ (λ l t. items_of ts l start t) a.procs
    (a.text ∙ ap (λ k. (d.text ++ announced_by borrowed k p.at) ++ finished_by (is_there p.body) k) (sym same))
    ∙ map-append of (d.text ++ front) back
    ∙ ap (λ l. l ++ items_of ts all start back) (map-append of d.text front
    ∙ ap₂ (λ l k. l ++ k) (items_procs ts d.procs.items (p ∷ []) start (length start) d.text h.text) (announced_is ts all start borrowed n p.at))

finished_is : (ts : List Ty) (procs : List RustProc) (start : List RustStmt) (p : RustProc) (body : RustBody) (n : ℕ) → p.body ≡ Some body
    → n ≡ length procs
    → completes n (block_at ts (slice_get (procs ++ p ∷ []) n)) ≡ completes n (stmts_of ts body.stmts.items)
finished_is ts procs start p body n e same =
    ap (λ o. completes n (block_at ts o)) (ap (slice_get (procs ++ p ∷ [])) same ∙ get_last procs p) ∙ ap (λ b. completes n (block_of ts b)) e

-- ---- what is known beside the state

pub beside_noted : (ts : List Ty) (d e : Draft) (t : RustState) (at : Place) (h : ProcHead) (s : RustSignature) (is_new : Bool) (n : ℕ) (borrowed : Bool)
    (body : Option RustBody) → Sound d → AreNumbered d.state.place s.params → Noted is_new d e n (proc_for at h s body) borrowed
    → NumberFits (known_in ts d) (head_with ts s is_new n borrowed) (is_there body)
    → state_of ts (beside_of ts e) t
    ≡ noting_body (behind_head (known_in ts d) at (head_of h) (head_with ts s is_new n borrowed)) at (head_of h) (head_with ts s is_new n borrowed)
    (state_of ts (beside_in (behind_head (known_in ts d) at (head_of h) (head_with ts s is_new n borrowed))) t) (option_map (view.body_of ts) body)
beside_noted ts d e t at h s true n borrowed None sound a noted fits =
    let p = proc_for at h s None in
    let same : n ≡ length d.procs.items = fits.next refl ∙ length-map d.procs.items (view.proc_of ts) in
    let is = proc_is ts at h s true n borrowed None d.state.place a in
    ap (λ b. state_of ts b t) (ap₂ beside
    (ap (map (view.proc_of ts)) noted.procs ∙ map-append (view.proc_of ts) d.procs.items (p ∷ [])
    ∙ ap (λ (x : Proc). map (view.proc_of ts) d.procs.items ++ x ∷ []) is)
    (added_text ts d e p borrowed n sound noted same ∙ append-nil ((beside_of ts d).text ++ announced_so borrowed n at)))
beside_noted ts d e t at h s true n borrowed (Some body) sound a noted fits =
    let p = proc_for at h s (Some body) in
    let before = map (view.proc_of ts) d.procs.items in
    let same : n ≡ length d.procs.items = fits.next refl ∙ length-map d.procs.items (view.proc_of ts) in
    let head = head_with ts s true n borrowed in
    let is = proc_is ts at h s true n borrowed (Some body) d.state.place a in
    let whole = proc_of at (head_of h) head d.state.place (Some (view.body_of ts body)) in
    let lone = proc_of at (head_of h) head d.state.place None in
    ap (λ b. state_of ts b t) (ap₂ beside
    (ap (map (view.proc_of ts)) noted.procs ∙ map-append (view.proc_of ts) d.procs.items (p ∷ []) ∙ ap (λ (x : Proc). before ++ x ∷ []) is
    ∙ sym (ap (λ k. slice_set (before ++ lone ∷ []) k whole) (fits.next refl) ∙ set_last before lone whole))
    (added_text ts d e p borrowed n sound noted same
    ∙ ap (λ (i : Item). ((beside_of ts d).text ++ announced_so borrowed n at) ++ i ∷ []) (finished_is ts d.procs.items d.start.items p body n refl same)))
beside_noted ts d e t at h s false n borrowed None sound a noted fits = absurd (false≢true (fits.whole refl))
beside_noted ts d e t at h s false n borrowed (Some body) sound a noted fits =
    let p = proc_for at h s (Some body) in
    let all = slice_set d.procs.items n p in
    let start = d.start.items in
    let is = proc_is ts at h s false n borrowed (Some body) d.state.place a in
    ap (λ b. state_of ts b t) (ap₂ beside
    (ap (map (view.proc_of ts)) noted.procs ∙ map_set (view.proc_of ts) d.procs.items n p
    ∙ ap (λ (x : Proc). slice_set (map (view.proc_of ts) d.procs.items) n x) is)
    (ap (λ (v : Vec RustStmt Global). items_of ts e.procs.items v.items e.text) noted.start
    ∙ ap₂ (λ l k. items_of ts l start k) noted.procs noted.text
    ∙ map-append (item_of ts all start) d.text (item.Completes n ∷ [])
    ∙ ap₂ (λ l (o : Option RustProc). l ++ completes n (block_at ts o) ∷ []) (items_set ts d.procs.items n p start d.text (fits.waits refl))
    (set_same d.procs.items n p noted.there)))

-- whatever state was there before
pub noted_state : (is_new : Bool) (d e : Draft) (s : RustState) (n : ℕ) (p : RustProc) (borrowed : Bool)
    → Noted is_new (record d { state = s }) e n p borrowed
    → Noted is_new d e n p borrowed
noted_state true d e s n p borrowed h = record { procs = h.procs; completed = h.completed; text = h.text; start = h.start }
noted_state false d e s n p borrowed h =
    record { there = h.there; noted = h.noted; procs = h.procs; completed = h.completed; text = h.text; start = h.start }

-- ---- it is sound

announced_stand : (borrowed : Bool) (n : ℕ) (at : Place) (p s : ℕ) → AllStand p s (announced_by borrowed n at)
announced_stand true n at p s = tt
announced_stand false n at p s = (tt, tt)

finished_stand : (whole : Bool) (n p s : ℕ) → n < p → AllStand p s (finished_by whole n)
finished_stand true n p s h = (h, tt)
finished_stand false n p s h = tt

noted_stand : (is_new : Bool) (d e : Draft) (n : ℕ) (p : RustProc) (borrowed : Bool) → Sound d → Noted is_new d e n p borrowed
    → AllStand (length e.procs.items) (length e.start.items) e.text
noted_stand true d e n p borrowed sound h =
    let count = length d.procs.items in
    let s = length d.start.items in
    let more : length e.procs.items ≡ suc count = ap length h.procs ∙ length_last d.procs.items p in
    subst (λ (v : Vec RustStmt Global). AllStand (length e.procs.items) (length v.items) e.text) (sym h.start)
    (subst (AllStand (length e.procs.items) s) (sym h.text)
    (and_stands (d.text ++ announced_by borrowed count p.at) (finished_by (is_there p.body) count) (length e.procs.items) s
    (and_stands d.text (announced_by borrowed count p.at) (length e.procs.items) s
    (all_stand d.text count (length e.procs.items) s s (omega (arith, more)) (omega arith) sound.text)
    (announced_stand borrowed count p.at (length e.procs.items) s))
    (finished_stand (is_there p.body) count (length e.procs.items) s (omega (arith, more)))))
noted_stand false d e n p borrowed sound h =
    let count = length d.procs.items in
    let s = length d.start.items in
    let same : length e.procs.items ≡ count = ap length h.procs ∙ set_length d.procs.items n p in
    subst (λ (v : Vec RustStmt Global). AllStand (length e.procs.items) (length v.items) e.text) (sym h.start)
    (subst (AllStand (length e.procs.items) s) (sym h.text)
    (and_stands d.text (item.Completes n ∷ []) (length e.procs.items) s
    (all_stand d.text count (length e.procs.items) s s (omega (arith, same)) (omega arith) sound.text) (omega (arith, same, h.there), tt)))

-- bodies that have come
announced_never : (borrowed : Bool) (n : ℕ) (at : Place) (k : ℕ) → is_completed k (announced_so borrowed n at) ≡ false
announced_never true n at k = refl
announced_never false n at k = refl

or_and : (a : Bool) → (a || false) ≡ (a && true)
or_and true = refl
or_and false = refl

and_no : (a : Bool) → false ≡ (a && false)
and_no true = refl
and_no false = refl

finished_comes : (ts : List Ty) (procs : List RustProc) (start : List RustStmt) (whole : Bool) (n k : ℕ)
    → is_completed k (items_of ts procs start (finished_by whole n)) ≡ (nat_eq k n && whole)
finished_comes ts procs start true n k = or_and (nat_eq k n)
finished_comes ts procs start false n k = and_no (nat_eq k n)

new_completed : (ts : List Ty) (d e : Draft) (p : RustProc) (borrowed : Bool) (n : ℕ) → Sound d → AreCompleted d.completed.items (beside_of ts d)
    → Added d e p borrowed → n ≡ length d.procs.items → AreCompleted e.completed.items (beside_of ts e)
new_completed ts d e p borrowed n sound before a same =
    let xs = d.completed.items in
    let old = (beside_of ts d).text in
    let front = announced_so borrowed n p.at in
    let whole = is_there p.body in
    let back = items_of ts (d.procs.items ++ p ∷ []) d.start.items (finished_by whole n) in
    let counted : n ≡ length xs = same ∙ sym (length-map d.procs.items (view.proc_of ts)) ∙ sym before.count in
    record {
      count =
          ap length a.completed ∙ length_last xs whole ∙ ap suc (before.count ∙ length-map d.procs.items (view.proc_of ts))
          ∙ sym (length-map e.procs.items (view.proc_of ts) ∙ ap length a.procs ∙ length_last d.procs.items p);
      each = λ k.
          ap (is_completed k) (added_text ts d e p borrowed n sound a same)
          ∙ completed_on k (old ++ front) back
          ∙ ap₂ (λ x y. x || y)
          (completed_on k old front ∙ ap (λ b. is_completed k old || b) (announced_never borrowed n p.at k) ∙ sym (or_no (is_completed k old))
          ∙ before.each k)
          (finished_comes ts (d.procs.items ++ p ∷ []) d.start.items whole n k ∙ ap (λ m. nat_eq k m && whole) counted)
          ∙ sym (holds_last xs whole k) ∙ ap (λ l. holds_at (slice_get l k)) (sym a.completed);
    }

old_completed : (ts : List Ty) (d e : Draft) (p : RustProc) (n : ℕ) → AreCompleted d.completed.items (beside_of ts d) → Completed d e n p
    → is_completed n (beside_of ts d).text ≡ false → AreCompleted e.completed.items (beside_of ts e)
old_completed ts d e p n before c waits =
    let xs = d.completed.items in
    let old = (beside_of ts d).text in
    let all = slice_set d.procs.items n p in
    let start = d.start.items in
    let i = item_of ts all start (item.Completes n) in
    let text : (beside_of ts e).text ≡ old ++ i ∷ [] =
    ap (λ (v : Vec RustStmt Global). items_of ts e.procs.items v.items e.text) c.start
    ∙ ap₂ (λ l k. items_of ts l start k) c.procs c.text
    ∙ map-append (item_of ts all start) d.text (item.Completes n ∷ [])
    ∙ ap (λ l. l ++ i ∷ []) (items_set ts d.procs.items n p start d.text waits) in
    record {
      count =
          ap length c.completed ∙ set_length xs n true ∙ before.count ∙ length-map d.procs.items (view.proc_of ts)
          ∙ sym (length-map e.procs.items (view.proc_of ts) ∙ ap length c.procs ∙ set_length d.procs.items n p);
      each = λ k.
          ap (is_completed k) text ∙ completed_on k old (i ∷ []) ∙ ap₂ (λ x y. x || y) (before.each k) (sym (or_no (nat_eq k n)))
          ∙ sym (holds_set xs n k c.noted) ∙ ap (λ l. holds_at (slice_get l k)) (sym c.completed);
    }

noted_completed : (ts : List Ty) (d e : Draft) (s : RustSignature) (is_new : Bool) (n : ℕ) (borrowed whole : Bool) (p : RustProc) → Sound d
    → AreCompleted d.completed.items (beside_of ts d) → Noted is_new d e n p borrowed
    → NumberFits (known_in ts d) (head_with ts s is_new n borrowed) whole
    → AreCompleted e.completed.items (beside_of ts e)
noted_completed ts d e s true n borrowed whole p sound before noted fits =
    new_completed ts d e p borrowed n sound before noted (fits.next refl ∙ length-map d.procs.items (view.proc_of ts))
noted_completed ts d e s false n borrowed whole p sound before noted fits = old_completed ts d e p n before noted (fits.waits refl)

pub procedure_sound : (d e : Draft) (s : RustSignature) (is_new : Bool) (n : ℕ) (borrowed whole : Bool) (p : RustProc) → Sound d → Ready e.state
    → ((ts : List Ty) → Over e.state ts → Over d.state ts) → Noted is_new d e n p borrowed
    → ((ts : List Ty) → Over d.state ts → NumberFits (known_in ts d) (head_with ts s is_new n borrowed) whole) → Sound e
procedure_sound d e s is_new n borrowed whole p sound ready over noted fits = record {
  ready = ready;
  text = noted_stand is_new d e n p borrowed sound noted;
  completed = λ ts u.
      let v = over ts u in
      noted_completed ts d e s is_new n borrowed whole p sound (sound.completed ts v) noted (fits ts v);
}
