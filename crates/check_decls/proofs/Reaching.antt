-- Drafts whose states the rules reach, and the procedure that a head completes there.
use Rattle.std.proofs.Common.{◌≡◌, ◌++◌, ℕ, ◌<◌, Bool, true, false, List, length, refl, sym, ap, subst, arith}
use Rattle.std.specs.Prelude.{Ok, Err, None, map}
use Rattle.std.proofs.lemmas.List.{length-map}
use Rattle.arc_base.specs.declared.place.Place.{Place}
use Rattle.arc_base.specs.Refusal.{Refusal, and_then}
use Rattle.nim_tree.specs.declared.stmt.ProcHead.{ProcHead}
use Rattle.nim_tree.specs.Statements.{Head, Statement, head_of}
use Rattle.nim_types.specs.declared.types.TypeDef.{TypeDef}
use Rattle.nim_types.specs.Table.{types_in, facts_in, IsTable}
use Rattle.nim_program.specs.View.{proc_of}
use Rattle.expr_rules.specs.Answers.{Answer}
use Rattle.expr_parts.specs.View.{Under, Grown}
use Rattle.decl_rules.specs.State.{in_module, State, Step, Stated, stated_as, noting}
use Rattle.decl_rules.specs.Stated.{stated}
use Rattle.decl_rules.specs.Heads.{Headed, Signature, head_by}
use Rattle.typing_laws.specs.Reached.{IsReached, before_all, in_another, behind_one}
use Rattle.decl_parts.specs.declared.state.State.{State as RustState}
use Rattle.decl_parts.specs.View.{Further, steps_of}
use Rattle.decl_heads.specs.declared.signature.Signature.{Signature as RustSignature}
use Rattle.decl_heads.specs.declared.heads.Headed.{Headed as RustHeaded}
use Rattle.decl_heads.specs.ViewHeads.{signature_of, headed_of, AreCompleted}
use Rattle.check_decls.specs.declared.draft.Draft.{Draft}
use Rattle.check_decls.specs.View.{Sound, Reached, IsFirst, Begins, Carrying, beside_of, known_in, so_far, onto}
use Rattle.check_decls.specs.ViewBodies.{CompletesThere, noted_rule}
use Rattle.check_decls.proofs.Beginning.{first_known}
use Rattle.check_decls.proofs.Finishing.{over_table}
use Rattle.check_decls.proofs.Proclaiming.{HeadSaid, grown_known}

-- ---- states that are reached

pub reached_first : (d : Draft) → IsFirst d → Reached d
reached_first d h = λ ts u. subst IsReached (sym (first_known ts d h)) before_all

pub reached_module : {old new : Draft} {number : ℕ} → Begins old new number → Reached old → Reached new
reached_module {number = number} b r = λ ts u.
    subst IsReached (sym (b.known ts u)) (in_another number (r ts (subst (λ (ds : List TypeDef). Under ds ts (facts_in ds)) b.types u)))

-- the statement that is noted
record NotedOne (x : Answer Stated) (state : State) : Type 0 where
  one : Stated
  is : x ≡ Ok one
  behind : noting true one ≡ state

no_success : (refusal : Refusal) (x : Stated) → ◌≡◌ {A = Answer Stated} (Err refusal) (Ok x) → ⊥
no_success refusal x e = cc

same_success : (x y : Stated) → ◌≡◌ {A = Answer Stated} (Ok x) (Ok y) → x ≡ y
same_success x y e = cc

noted_one : (done : List Step) (x : Answer Stated) (all : Stated)
    → onto done (and_then x (λ one. Ok (stated_as one.steps (noting true one)))) ≡ Ok all → NotedOne x all.state
noted_one done (Ok one) all h = record {
  one = one;
  is = refl;
  behind = ap (λ (s : Stated). s.state) (same_success (stated_as (done ++ one.steps) (noting true one)) all h);
}
noted_one done (Err e) all h = absurd (no_success e all h)

pub reached_behind : {T : Type 0} {now new : Draft} {x : T} (s : Statement) → Carrying now new (λ st. noted_rule st s) (Ok x) → Reached now → Reached new
reached_behind {now = now} {new = new} s j r = λ ts u.
    let n = noted_one (steps_of ts now.start.items) (stated in_module None (known_in ts now) s) (so_far ts new) (j.answers ts u) in
    subst IsReached n.behind (behind_one s (r ts (j.further.over ts u)) n.is)

-- with more types
pub reached_grown : (d : Draft) (s : RustState) → Grown d.state.types s.types → s ≡ record d.state { types = s.types } → Further d.state s → Reached d
    → Reached (record d { state = s })
reached_grown d s g e f r = λ ts u. subst IsReached (sym (grown_known ts (beside_of ts d) d.state s g e u)) (r ts (f.over ts u))

-- ---- the procedure that is completed

abbrev pub AllThere : Type 0
AllThere =
    (st : State) → IsReached st → (at : Place) (h : Head) (b : Bool) (s : Signature) (k : Headed) → head_by st at h b s ≡ Ok k → k.is_new ≡ false
    → k.number < length st.procs

pub completes_there : AllThere → (d : Draft) (completed : List Bool) (at : Place) (h : ProcHead) (g : RustSignature) (whole : Bool) (k : RustHeaded)
    → IsTable d.state.types → Sound d → Reached d → completed ≡ d.completed.items → HeadSaid d completed at h g whole (λ ts. headed_of ts g) (Ok k)
    → CompletesThere d k
completes_there there d completed at h g whole k table sound reached same said = λ old.
    let ts = types_in d.state.types in
    let u = over_table d.state.types table in
    let all = sound.completed ts u in
    let known = said ts (beside_of ts d) u (subst (λ l. AreCompleted l (beside_of ts d)) (sym same) all) in
    let l : k.number < length (map (proc_of ts) d.procs.items) =
    there (known_in ts d) (reached ts u) at (head_of h) whole (signature_of ts g) (headed_of ts g k) known old in
    let m : length d.completed.items ≡ length (map (proc_of ts) d.procs.items) = all.count in
    let n = length-map d.procs.items (proc_of ts) in
    (omega (arith, l, n), omega (arith, l, m))
