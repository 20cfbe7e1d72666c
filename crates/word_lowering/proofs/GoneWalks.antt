-- Where nothing waits a walk that looks at it is at a fault.
use Rattle.std.proofs.Common.{◌≡◌, ℕ, zero, suc, ◌<◌, List, [], ◌∷◌, length, Bool, true, false, None, sym, ap, subst, ◌∙◌, refl, arith}
use Rattle.std.proofs.lemmas.Bool.{and_parts}
use Rattle.std.specs.Prelude.{◌&&◌}
use Rattle.nim_types.specs.Forms.{Form, Forms, plain, reference, block, elements, row, parts, resource, wrapped, no_forms, forms, hooked, hooked_any, of_some}
use Rattle.nim_meaning.specs.Values.{InHand, Location, Vacant, Value, Waiting, at_base, bytes, deeper, is_full, part, vacant}
use Rattle.nim_meaning.specs.State.{World, awaited, is_seen, is_there, is_whole, load, pushed, temporary_at, text_of, whole_at}
use Rattle.nim_meaning.specs.Deeds.{Answers, Deed, Done, Fails, Finishes, Pops, branch, costs, does, give, perform, sees, sets, takes, unless_gone, ◌>>=◌, ◌>>◌}
use Rattle.nim_meaning.specs.Lifted.{Walk, assigning, copied, copied_elements, copying, each_part, fresh_text, replaced, walk, walk_all}
use Rattle.flat_code.specs.declared.block.BlockLine.{BlockLine}
use Rattle.flat_code.specs.Scene.{Passes, Temps}
use Rattle.hook_lifting.specs.Weights.{all_built, is_built}
use Rattle.hook_lifting.proofs.ForCallers.{done_then, performs_then}
use Rattle.word_lowering.proofs.Lines.{Basis, Settles, starts}
use Rattle.word_lowering.proofs.Related.{Both}
use Rattle.word_lowering.proofs.ShapeFacts.{never}

abbrev pub IsFailed : {A : Type 0} → Done A → Type 0
IsFailed (Answers es n a w) = ⊥
IsFailed (Finishes es n status w) = ⊥
IsFailed (Fails es n w) = Unit {0}

pub failed_then : {A B : Type 0} (d : Done A) (go : A → World → Done B) → IsFailed d → IsFailed (done_then d go)
failed_then (Answers es n a w) go h = absurd h
failed_then (Finishes es n status w) go h = absurd h
failed_then (Fails es n w) go h = tt

pub failed_settles : (x : Basis) (g : Both) (line : BlockLine) (rest : List BlockLine) (d : Done Temps) → IsFailed d
    → Settles x (starts g line rest) rest (Passes d)
failed_settles x g line rest (Answers es n temps w) h = absurd h
failed_settles x g line rest (Finishes es n status w) h = absurd h
failed_settles x g line rest (Fails es n w) h = λ before. tt

-- behind a deed that fails
pub fails_on : {A B : Type 0} (deed : Deed A) (rest : A → Deed B) (w : World) → IsFailed (perform deed w) → IsFailed (perform (deed >>= rest) w)
fails_on deed rest w h = subst IsFailed (sym (performs_then deed rest w)) (failed_then (perform deed w) (λ a after. perform (rest a) after) h)

-- ---- a walk

module _ (by : Walk) (w : World) (IsGone : Location → Type 0) (deeper_gone : (l : Location) (i : ℕ) → IsGone l → IsGone (deeper l i))
    (plainly : (to from : Location) → IsGone from → IsFailed (perform (by.plainly to from) w))
    (text : (to from : Location) → IsGone from → IsFailed (perform (by.text to from) w))
    (sequence : (of : Form) (element : (to from : Location) → Deed (Unit {0})) (to from : Location) → IsGone from
    → IsFailed (perform (by.sequence of element to from) w)) where
  each_gone : (n : ℕ) (act : (to from : Location) → Deed (Unit {0})) (i : ℕ) (to from : Location) → IsGone from
      → ((to from : Location) → IsGone from → IsFailed (perform (act to from) w)) → (0 < n) → IsFailed (perform (each_part n act i to from) w)
  each_gone zero act i to from gone fails some = absurd (omega (arith, some))
  each_gone (suc n) act i to from gone fails some =
      fails_on (act (deeper to i) (deeper from i)) (λ u. each_part n act (suc i) to from) w (fails (deeper to i) (deeper from i) (deeper_gone from i gone))

  row_gone : (n : ℕ) (f : Form) (b : Bool) → ((to from : Location) → IsGone from → IsFailed (perform (walk by f to from) w)) → (to from : Location)
      → IsGone from → IsFailed (perform (branch (of_some n b) (each_part n (walk by f) 0 to from) (by.plainly to from)) w)
  row_gone zero f b fails to from gone = plainly to from gone
  row_gone (suc n) f false fails to from gone = plainly to from gone
  row_gone (suc n) f true fails to from gone = each_gone (suc n) (walk by f) 0 to from gone fails (omega arith)

  mutual
    pub gone_walk : (f : Form) → is_built f ≡ true → (to from : Location) → IsGone from → IsFailed (perform (walk by f to from) w)
    gone_walk plain built to from gone = plainly to from gone
    gone_walk reference built to from gone = never built
    gone_walk block built to from gone = text to from gone
    gone_walk (elements f) built to from gone = sequence f (walk by f) to from gone
    gone_walk (row n f) built to from gone = row_gone n f (hooked f) (λ to' from' gone'. gone_walk f built to' from' gone') to from gone
    gone_walk (parts fs) built to from gone = parts_gone fs (hooked_any fs) refl built to from gone
    gone_walk (resource fs) built to from gone = never built
    gone_walk (wrapped f) built to from gone = gone_walk f built to from gone

    parts_gone : (fs : Forms) (b : Bool) → hooked_any fs ≡ b → all_built fs ≡ true → (to from : Location) → IsGone from
        → IsFailed (perform (branch b (walk_all by fs 0 to from) (by.plainly to from)) w)
    parts_gone fs false e built to from gone = plainly to from gone
    parts_gone no_forms true e built to from gone = never e
    parts_gone (forms f fs) true e built to from gone =
        fails_on (walk by f (deeper to 0) (deeper from 0)) (λ u. walk_all by fs 1 to from) w
        (gone_walk f (and_parts (is_built f) (all_built fs) built).0 (deeper to 0) (deeper from 0) (deeper_gone from 0 gone))

-- ---- nothing waits

-- a location is in what waits at a node, and nothing does
pub record IsUnwaited (w : World) (l : Location) : Type 0 where
  pub level : ℕ
  pub node : ℕ
  pub base : l.base ≡ Waiting level node
  pub none : temporary_at w level node ≡ None

-- what stands at a location is nothing
abbrev pub IsNothing : World → Location → Type 0
IsNothing w l = whole_at w l.base ≡ Vacant

pub nothing_waits : (w : World) (l : Location) → IsUnwaited w l → IsNothing w l
nothing_waits w l u = ap (whole_at w) u.base ∙ ap awaited u.none

pub nothing_above : (w : World) (l : Location) → IsUnwaited w l → (v : Value) → IsNothing (pushed w v) l
nothing_above w l u v = ap (whole_at (pushed w v)) u.base ∙ ap awaited u.none

none_at : (path : List ℕ) → part Vacant path ≡ Vacant
none_at [] = refl
none_at (i ∷ path) = none_at path

nothing_loaded : (w : World) (l : Location) → IsNothing w l → load w l ≡ Vacant
nothing_loaded w l gone = ap (λ v. part v l.path) gone ∙ none_at l.path

pub not_seen : (w : World) (l : Location) → IsNothing w l → is_seen w l ≡ false
not_seen w l gone = by (is_there w l) (load w l) (nothing_loaded w l gone)
  where
    by : (b : Bool) (v : Value) → v ≡ Vacant → (b && is_whole w v) ≡ false
    by true v e = ap (is_whole w) e
    by false v e = refl

sees_nothing : {A : Type 0} (w : World) (l : Location) (go : World → Value → Deed A) → IsNothing w l → IsFailed (perform (sees l go) w)
sees_nothing w l go gone = subst (λ b. IsFailed (perform (unless_gone b (go w (load w l))) w)) (sym (not_seen w l gone)) tt

takes_nothing : {A : Type 0} (w : World) (l : Location) (go : World → Value → Deed A) → IsNothing w l → IsFailed (perform (takes l go) w)
takes_nothing w l go gone =
    subst (λ b. IsFailed (perform (unless_gone b (go w (load w l))) w)) (sym (ap (λ b. b && is_full (load w l)) (not_seen w l gone))) tt

pub copying_nothing : (f : Form) → is_built f ≡ true → (w : World) (to from : Location) → IsNothing w from → IsFailed (perform (walk copying f to from) w)
copying_nothing f built w to from gone =
    gone_walk copying w (IsNothing w) (λ l i h. h) (λ to from h. takes_nothing w from (λ world v. costs (bytes v) (sets to v)) h)
    (λ to from h. sees_nothing w from (λ world v. costs 8 (fresh_text (text_of world v)) >>= sets to) h)
    (λ of element to from h. sees_nothing w from (λ world v. costs 8 (copied_elements of element to v from)) h) f built to from gone

-- a copy of what is nothing
pub copied_nothing : (f : Form) → is_built f ≡ true → (w : World) (from : Location) → ((v : Value) → IsNothing (pushed w v) from)
    → IsFailed (perform (copied f from) w)
copied_nothing f built w from gone =
    fails_on (walk copying f (at_base (InHand (length w.hand))) from)
    (λ u. takes (at_base (InHand (length w.hand))) (λ after new. does Pops >> give new)) (pushed w (vacant f))
    (copying_nothing f built (pushed w (vacant f)) (at_base (InHand (length w.hand))) from (gone (vacant f)))

pub assigning_nothing : (f : Form) → is_built f ≡ true → (w : World) (to from : Location) → ((v : Value) → IsNothing (pushed w v) from) → IsNothing w from
    → IsFailed (perform (walk assigning f to from) w)
assigning_nothing f built w to from above gone =
    gone_walk assigning w (λ l. IsNothing w l × ((v : Value) → IsNothing (pushed w v) l)) (λ l i h. h)
    (λ to from h. takes_nothing w from (λ world v. costs (bytes v) (sets to v)) h.0)
    (λ to from h. fails_on (copied block from) (replaced block to) w (copied_nothing block refl w from h.1))
    (λ of element to from h. copied_fails of to from h.1) f built to from (gone, above)
  where
    copied_fails : (of : Form) (to from : Location) → ((v : Value) → IsNothing (pushed w v) from)
        → IsFailed (perform (copied (elements of) from >>= replaced (elements of) to) w)
    copied_fails of to from h = fails_on (copied (elements of) from) (replaced (elements of) to) w
        (fails_on (sees_copied of from) (λ u. takes (at_base (InHand (length w.hand))) (λ after new. does Pops >> give new)) (pushed w (vacant (elements of)))
        (sees_nothing (pushed w (vacant (elements of))) from
        (λ world v. costs 8 (copied_elements of (walk copying of) (at_base (InHand (length w.hand))) v from)) (h (vacant (elements of)))))
      where
        sees_copied : (of : Form) (from : Location) → Deed (Unit {0})
        sees_copied of from = walk copying (elements of) (at_base (InHand (length w.hand))) from
