-- What deeds change of frames and of values under way: nothing, or what stands at one location, whatever they do with blocks.
use Rattle.std.proofs.Common.{◌≡◌, ℕ, zero, suc, List, [], length, Option, Some, None, Bool, true, false, refl, sym, ap, subst, ◌∙◌}
use Rattle.std.specs.Prelude.{slice_get, slice_set}
use Rattle.std.proofs.lemmas.Option.{none-some, same_Some}
use Rattle.nim_meaning.specs.Values.{Value, Handle, Location, Base, Standing, Waiting, InBlock, InHand, InException, Made, Holds, block_of, is_handle, put_part}
use Rattle.nim_meaning.specs.Heap.{Block, Contents, block_at, has_room}
use Rattle.nim_meaning.specs.State.{Frame, World, awaited, frame_in, hand_value, held, is_live, is_seen, is_there, load, slot_of, store, stored, temporary_in}
use Rattle.nim_meaning.specs.State.{whole_at}
use Rattle.nim_meaning.specs.State.{with_slot_of}
use Rattle.nim_meaning.specs.State.{with_temporary_in}
use Rattle.nim_meaning.specs.Deeds.{Deed, Gives, Ends, Errs, Works, Says, Looks, Changes, Takes, Change, Stores, Opens, Waits, Leaves, Pushes, Pops, Reads}
use Rattle.nim_meaning.specs.Deeds.{Refills}
use Rattle.nim_meaning.specs.Deeds.{Frees, branch, unless_gone, changed, freed, frees, perform, refills, sets, took, with_block, ◌>>=◌, ◌>>◌}
use Rattle.nim_meaning.specs.Lifted.{fresh, has_place, resized}
use Rattle.word_lowering.proofs.ResizedWorlds.{answered, behind_answers, stack_of}

-- a change of the heap or of the input alone
abbrev pub IsBesideFrames : Change → Type 0
IsBesideFrames (Stores location v) = ⊥
IsBesideFrames (Opens level place slot) = ⊥
IsBesideFrames (Waits level node slot) = ⊥
IsBesideFrames (Leaves level node) = ⊥
IsBesideFrames (Pushes v) = ⊥
IsBesideFrames Pops = ⊥
IsBesideFrames change = Unit {0}

abbrev pub KeepsFrames : {A : Type 0} → Deed A → Type 0
KeepsFrames (Gives a) = Unit {0}
KeepsFrames (Ends status) = Unit {0}
KeepsFrames Errs = Unit {0}
KeepsFrames (Works n rest) = KeepsFrames rest
KeepsFrames (Says es rest) = KeepsFrames rest
KeepsFrames (Looks rest) = (w : World) → KeepsFrames (rest w)
KeepsFrames (Changes change rest) = IsBesideFrames change × KeepsFrames rest
KeepsFrames (Takes class contents rest) = (k : ℕ) → KeepsFrames (rest k)

-- where it answers it has put one value there
abbrev pub IsPutting : {A : Type 0} → Location → Change → (rest : Deed A) → (later : Type 0) → Type 0
IsPutting l (Stores k v) rest later = (k ≡ l) × KeepsFrames rest
IsPutting l change rest later = IsBesideFrames change × later

abbrev pub PutsOnce : {A : Type 0} → Location → Deed A → Type 0
PutsOnce l (Gives a) = ⊥
PutsOnce l (Ends status) = Unit {0}
PutsOnce l Errs = Unit {0}
PutsOnce l (Works n rest) = PutsOnce l rest
PutsOnce l (Says es rest) = PutsOnce l rest
PutsOnce l (Looks rest) = (w : World) → PutsOnce l (rest w)
PutsOnce l (Changes change rest) = IsPutting l change rest (PutsOnce l rest)
PutsOnce l (Takes class contents rest) = (k : ℕ) → PutsOnce l (rest k)

-- ---- how deeds are put together

pub keeps_branch : {A : Type 0} (b : Bool) (d e : Deed A) → KeepsFrames d → KeepsFrames e → KeepsFrames (branch b d e)
keeps_branch true d e x y = x
keeps_branch false d e x y = y

pub keeps_then : {A B : Type 0} (d : Deed A) (k : A → Deed B) → KeepsFrames d → ((a : A) → KeepsFrames (k a)) → KeepsFrames (d >>= k)
keeps_then (Gives a) k x y = y a
keeps_then (Ends status) k x y = tt
keeps_then Errs k x y = tt
keeps_then (Works n rest) k x y = keeps_then rest k x y
keeps_then (Says es rest) k x y = keeps_then rest k x y
keeps_then (Looks rest) k x y = λ w. keeps_then (rest w) k (x w) y
keeps_then (Changes change rest) k x y = (x.0, keeps_then rest k x.1 y)
keeps_then (Takes class contents rest) k x y = λ i. keeps_then (rest i) k (x i) y

pub puts_branch : {A : Type 0} (l : Location) (b : Bool) (d e : Deed A) → PutsOnce l d → PutsOnce l e → PutsOnce l (branch b d e)
puts_branch l true d e x y = x
puts_branch l false d e x y = y

-- first something else
pub puts_behind : {A B : Type 0} (l : Location) (d : Deed A) (k : A → Deed B) → KeepsFrames d → ((a : A) → PutsOnce l (k a)) → PutsOnce l (d >>= k)
puts_behind l (Gives a) k x y = y a
puts_behind l (Ends status) k x y = tt
puts_behind l Errs k x y = tt
puts_behind l (Works n rest) k x y = puts_behind l rest k x y
puts_behind l (Says es rest) k x y = puts_behind l rest k x y
puts_behind l (Looks rest) k x y = λ w. puts_behind l (rest w) k (x w) y
puts_behind {A} {B} l (Changes change rest) k x y = by change x.0 (puts_behind l rest k x.1 y)
  where
    by : (c : Change) → IsBesideFrames c → PutsOnce l (rest >>= k) → PutsOnce l (Changes c (rest >>= k))
    by (Stores location v) i later = absurd i
    by (Opens level place slot) i later = absurd i
    by (Waits level node slot) i later = absurd i
    by (Leaves level node) i later = absurd i
    by (Pushes v) i later = absurd i
    by Pops i later = absurd i
    by (Reads n) i later = (tt, later)
    by (Refills b c) i later = (tt, later)
    by (Frees b) i later = (tt, later)
puts_behind l (Takes class contents rest) k x y = λ i. puts_behind l (rest i) k (x i) y

-- and then something else
pub puts_then : {A B : Type 0} (l : Location) (d : Deed A) (k : A → Deed B) → PutsOnce l d → ((a : A) → KeepsFrames (k a)) → PutsOnce l (d >>= k)
puts_then l (Gives a) k x y = absurd x
puts_then l (Ends status) k x y = tt
puts_then l Errs k x y = tt
puts_then l (Works n rest) k x y = puts_then l rest k x y
puts_then l (Says es rest) k x y = puts_then l rest k x y
puts_then l (Looks rest) k x y = λ w. puts_then l (rest w) k (x w) y
puts_then {A} {B} l (Changes change rest) k x y = by change x (λ p. puts_then l rest k p y)
  where
    by : (c : Change) → IsPutting l c rest (PutsOnce l rest) → (PutsOnce l rest → PutsOnce l (rest >>= k)) → PutsOnce l (Changes c (rest >>= k))
    by (Stores location v) i go = (i.0, keeps_then rest k i.1 y)
    by (Opens level place slot) i go = absurd i.0
    by (Waits level node slot) i go = absurd i.0
    by (Leaves level node) i go = absurd i.0
    by (Pushes v) i go = absurd i.0
    by Pops i go = absurd i.0
    by (Reads n) i go = (tt, go i.1)
    by (Refills b c) i go = (tt, go i.1)
    by (Frees b) i go = (tt, go i.1)
puts_then l (Takes class contents rest) k x y = λ i. puts_then l (rest i) k (x i) y

-- ---- frames then

freed_frames : (w : World) (k : ℕ) (o : Option Block) → stack_of (freed w k o) ≡ stack_of w
freed_frames w k None = refl
freed_frames w k (Some b) = refl

beside_frames : (c : Change) → IsBesideFrames c → (w : World) → stack_of (changed c w) ≡ stack_of w
beside_frames (Stores location v) i w = absurd i
beside_frames (Opens level place slot) i w = absurd i
beside_frames (Waits level node slot) i w = absurd i
beside_frames (Leaves level node) i w = absurd i
beside_frames (Pushes v) i w = absurd i
beside_frames Pops i w = absurd i
beside_frames (Reads n) i w = refl
beside_frames (Refills b c) i w = refl
beside_frames (Frees b) i w = freed_frames w b (block_at w.heap b)

-- what is put changes them alike, whatever else there is
pub put_frames : (path : List ℕ) (v : Value) (a b : World) (base : Base) → stack_of a ≡ stack_of b
    → stack_of (stored a base (put_part (whole_at a base) path v)) ≡ stack_of (stored b base (put_part (whole_at b base) path v))
put_frames path v a b (Standing level n) e =
    ap (λ (s : List Frame × List Value). (
      slice_set s.0 level
          (with_slot_of (frame_in (slice_get s.0 level)) n (Some (Holds (put_part (held (slot_of (frame_in (slice_get s.0 level)) n)) path v)))),
      s.1,
    )) e
put_frames path v a b (Waiting level n) e =
    ap (λ (s : List Frame × List Value). (
      slice_set s.0 level (record (frame_in (slice_get s.0 level)) {
        temporaries = with_temporary_in (frame_in (slice_get s.0 level)).temporaries n
            (Holds (put_part (awaited (temporary_in (frame_in (slice_get s.0 level)).temporaries n)) path v));
      }),
      s.1,
    )) e
put_frames path v a b (InBlock k) e = e
put_frames path v a b (InHand i) e =
    ap (λ (s : List Frame × List Value). (s.0, slice_set s.1 i (put_part (hand_value (slice_get s.1 i)) path v))) e
put_frames path v a b (InException i) e = e
put_frames path v a b (Made u) e = e

nothing : {A : Type 0} (w : World) → None ≡ Some w → A
nothing w e = absurd (none-some w e)

pub frames_kept : {A : Type 0} (d : Deed A) → KeepsFrames d → (w after : World) → answered (perform d w) ≡ Some after → stack_of after ≡ stack_of w
frames_kept (Gives a) x w after e = ap (λ (u : World). stack_of u) (sym (same_Some w after e))
frames_kept (Ends status) x w after e = nothing after e
frames_kept Errs x w after e = nothing after e
frames_kept (Works n rest) x w after e = frames_kept rest x w after (sym (behind_answers [] n (perform rest w)) ∙ e)
frames_kept (Says es rest) x w after e = frames_kept rest x w after (sym (behind_answers es 0 (perform rest w)) ∙ e)
frames_kept (Looks rest) x w after e = frames_kept (rest w) (x w) w after e
frames_kept (Changes change rest) x w after e = frames_kept rest x.1 (changed change w) after e ∙ beside_frames change x.0 w
frames_kept {A} (Takes class contents rest) x w after e =
    by (has_room w.heap class) e (frames_kept (rest (length w.heap.blocks)) (x (length w.heap.blocks)) (with_block class contents w) after)
  where
    by : (b : Bool) → answered (took b (perform (rest (length w.heap.blocks)) (with_block class contents w)) w) ≡ Some after
        → (answered (perform (rest (length w.heap.blocks)) (with_block class contents w)) ≡ Some after → stack_of after ≡ stack_of w) →
        stack_of after ≡ stack_of w
    by true h go = go h
    by false h go = nothing after h

abbrev pub IsPutSo : Location → World → World → Type 0
IsPutSo l w after = (z : Value) × (stack_of after ≡ stack_of (store w l z))

on_frames : (l : Location) (w v after : World) → stack_of v ≡ stack_of w → IsPutSo l v after → IsPutSo l w after
on_frames l w v after e x = (x.0, x.1 ∙ put_frames l.path x.0 v w l.base e)

pub frames_put : {A : Type 0} (l : Location) (d : Deed A) → PutsOnce l d → (w after : World) → answered (perform d w) ≡ Some after → IsPutSo l w after
frames_put l (Gives a) x w after e = absurd x
frames_put l (Ends status) x w after e = nothing after e
frames_put l Errs x w after e = nothing after e
frames_put l (Works n rest) x w after e = frames_put l rest x w after (sym (behind_answers [] n (perform rest w)) ∙ e)
frames_put l (Says es rest) x w after e = frames_put l rest x w after (sym (behind_answers es 0 (perform rest w)) ∙ e)
frames_put l (Looks rest) x w after e = frames_put l (rest w) (x w) w after e
frames_put {A} l (Changes change rest) x w after e = by change x e (λ v p h. frames_put l rest p v after h)
  where
    beside : (c : Change) → IsBesideFrames c → PutsOnce l rest → answered (perform rest (changed c w)) ≡ Some after
        → ((v : World) → PutsOnce l rest → answered (perform rest v) ≡ Some after → IsPutSo l v after) → IsPutSo l w after
    beside c i p h go = on_frames l w (changed c w) after (beside_frames c i w) (go (changed c w) p h)

    by : (c : Change) → IsPutting l c rest (PutsOnce l rest) → answered (perform rest (changed c w)) ≡ Some after
        → ((v : World) → PutsOnce l rest → answered (perform rest v) ≡ Some after → IsPutSo l v after) → IsPutSo l w after
    by (Stores k v) i h go = subst (λ j. IsPutSo j w after) i.0 (v, frames_kept rest i.1 (store w k v) after h)
    by (Opens level place slot) i h go = absurd i.0
    by (Waits level node slot) i h go = absurd i.0
    by (Leaves level node) i h go = absurd i.0
    by (Pushes v) i h go = absurd i.0
    by Pops i h go = absurd i.0
    by (Reads n) i h go = beside (Reads n) tt i.1 h go
    by (Refills b c) i h go = beside (Refills b c) tt i.1 h go
    by (Frees b) i h go = beside (Frees b) tt i.1 h go
frames_put {A} l (Takes class contents rest) x w after e =
    by (has_room w.heap class) e (frames_put l (rest (length w.heap.blocks)) (x (length w.heap.blocks)) (with_block class contents w) after)
  where
    by : (b : Bool) → answered (took b (perform (rest (length w.heap.blocks)) (with_block class contents w)) w) ≡ Some after
        → (answered (perform (rest (length w.heap.blocks)) (with_block class contents w)) ≡ Some after → IsPutSo l (with_block class contents w) after)
        → IsPutSo l w after
    by true h go = on_frames l w (with_block class contents w) after refl (go h)
    by false h go = nothing after h

-- ---- deeds of rows

pub refills_keep : (k : Option ℕ) (c : Contents) → KeepsFrames (refills k c)
refills_keep None c = tt
refills_keep (Some k) c = λ w. keeps_branch (is_live w k) (Changes (Refills k c) (Gives tt)) Errs (tt, tt) tt

pub frees_keep : (k : Option ℕ) → KeepsFrames (frees k)
frees_keep None = tt
frees_keep (Some k) = λ w. keeps_branch (is_live w k) (Changes (Frees k) (Gives tt)) Errs (tt, tt) tt

pub fresh_keeps : (n bytes : ℕ) (c : Contents) → KeepsFrames (fresh n bytes c)
fresh_keeps zero bytes c = tt
fresh_keeps (suc n) bytes c = λ w i. tt

pub sets_puts : (l : Location) (v : Value) → PutsOnce l (sets l v)
sets_puts l v = λ w. puts_branch l (is_there w l) (Changes (Stores l v) (Gives tt)) Errs (refl, tt) tt

pub resized_puts : (n bytes : ℕ) (c : Contents) (l : Location) → PutsOnce l (resized n bytes c l)
resized_puts n bytes c l = λ w.
    puts_branch l (is_seen w l) (unless_gone (is_handle (load w l)) (rest w (load w l))) Errs
    (puts_branch l (is_handle (load w l)) (rest w (load w l)) Errs
    (puts_branch l (has_place w (block_of (load w l)) bytes) (stays (load w l)) (moves (load w l))
    (puts_behind l (refills (block_of (load w l)) c) (λ u. sets l (Handle n (block_of (load w l)))) (refills_keep (block_of (load w l)) c)
    (λ u. sets_puts l (Handle n (block_of (load w l)))))
    (puts_behind l (fresh n bytes c) (λ new. sets l new >> frees (block_of (load w l))) (fresh_keeps n bytes c)
    (λ new. puts_then l (sets l new) (λ u. frees (block_of (load w l))) (sets_puts l new) (λ u. frees_keep (block_of (load w l)))))) tt) tt
  where
    stays : Value → Deed (Unit {0})
    stays v = refills (block_of v) c >> sets l (Handle n (block_of v))

    moves : Value → Deed (Unit {0})
    moves v = fresh n bytes c >>= (λ new. sets l new >> frees (block_of v))

    rest : World → Value → Deed (Unit {0})
    rest w v = branch (has_place w (block_of v) bytes) (stays v) (moves v)
