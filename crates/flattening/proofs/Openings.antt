-- What comes of deeds: no change closes a place, so behind a deed all places are open that were. Of its answers something holds.
use Rattle.std.proofs.Common.{ℕ, Bool, true, false, List, [], length}
use Rattle.arc_base.specs.Event.{Event}
use Rattle.nim_meaning.specs.Heap.{has_room}
use Rattle.nim_meaning.specs.State.{World}
use Rattle.nim_meaning.specs.Deeds.{changed, with_block, Deed, Gives, Ends, Errs, Works, Says, Looks, Changes, Takes}
use Rattle.nim_meaning.specs.Deeds.{Done, Answers, Finishes, Fails, behind, took, perform, ◌>>=◌}
use Rattle.flattening.proofs.Worlds.{Since, since_none, since_then, since_changed}

-- Q holds of its answers
abbrev pub Answering : {A : Type 0} → (A → Type 0) → Deed A → Type 0
Answering Q (Gives x) = Q x
Answering Q (Ends status) = Unit {0}
Answering Q Errs = Unit {0}
Answering Q (Works n rest) = Answering Q rest
Answering Q (Says es rest) = Answering Q rest
Answering Q (Looks rest) = (world : World) → Answering Q (rest world)
Answering Q (Changes change rest) = Answering Q rest
Answering Q (Takes class contents rest) = (k : ℕ) → Answering Q (rest k)

-- what holds of all
pub answering_all : {A : Type 0} (Q : A → Type 0) → ((x : A) → Q x) → (deed : Deed A) → Answering Q deed
answering_all Q q (Gives x) = q x
answering_all Q q (Ends status) = tt
answering_all Q q Errs = tt
answering_all Q q (Works n rest) = answering_all Q q rest
answering_all Q q (Says es rest) = answering_all Q q rest
answering_all Q q (Looks rest) = λ world. answering_all Q q (rest world)
answering_all Q q (Changes change rest) = answering_all Q q rest
answering_all Q q (Takes class contents rest) = λ k. answering_all Q q (rest k)

-- ---- what comes of one

abbrev pub SinceDone : {A : Type 0} → (A → Type 0) → (level : ℕ) → World → Done A → Type 0
SinceDone Q level old (Answers es n x new) = Since level old new × Q x
SinceDone Q level old (Finishes es n status new) = Unit {0}
SinceDone Q level old (Fails es n new) = Unit {0}

module _ {A : Type 0} (Q : A → Type 0) (level : ℕ) where
  since_behind : (old : World) (es : List Event) (n : ℕ) (d : Done A) → SinceDone Q level old d → SinceDone Q level old (behind es n d)
  since_behind old es n (Answers fs m x new) h = h
  since_behind old es n (Finishes fs m status new) h = h
  since_behind old es n (Fails fs m new) h = h

  since_from : (old mid : World) (d : Done A) → Since level old mid → SinceDone Q level mid d → SinceDone Q level old d
  since_from old mid (Answers fs m x new) s h = (since_then s h.0, h.1)
  since_from old mid (Finishes fs m status new) s h = h
  since_from old mid (Fails fs m new) s h = h

  since_took : (old : World) (b : Bool) (d : Done A) → SinceDone Q level old d → SinceDone Q level old (took b d old)
  since_took old true d h = h
  since_took old false d h = tt

  pub since_done : (d : Deed A) → Answering Q d → (world : World) → SinceDone Q level world (perform d world)
  since_done (Gives x) h world = (since_none level world, h)
  since_done (Ends status) h world = tt
  since_done Errs h world = tt
  since_done (Works n rest) h world = since_behind world [] n (perform rest world) (since_done rest h world)
  since_done (Says es rest) h world = since_behind world es 0 (perform rest world) (since_done rest h world)
  since_done (Looks rest) h world = since_done (rest world) (h world) world
  since_done (Changes c rest) h world =
      since_from world (changed c world) (perform rest (changed c world)) (since_changed level c world) (since_done rest h (changed c world))
  since_done (Takes class contents rest) h world =
      let k = length world.heap.blocks in
      let new = with_block class contents world in
      since_took world (has_room world.heap class) (perform (rest k) new)
      (since_from world new (perform (rest k) new) (record { frames = (since_none level world).frames; grows = (since_none level world).grows })
      (since_done (rest k) (h k) new))

-- ---- deeds that are put together

pub answering_then : {A B : Type 0} (Q : B → Type 0) (P : A → Type 0) (deed : Deed A) (rest : A → Deed B) → Answering P deed →
    ((x : A) → P x → Answering Q (rest x)) → Answering Q (deed >>= rest)
answering_then Q P (Gives x) rest h g = g x h
answering_then Q P (Ends status) rest h g = tt
answering_then Q P Errs rest h g = tt
answering_then Q P (Works n deed) rest h g = answering_then Q P deed rest h g
answering_then Q P (Says es deed) rest h g = answering_then Q P deed rest h g
answering_then Q P (Looks deed) rest h g = λ world. answering_then Q P (deed world) rest (h world) g
answering_then Q P (Changes change deed) rest h g = answering_then Q P deed rest h g
answering_then Q P (Takes class contents deed) rest h g = λ k. answering_then Q P (deed k) rest (h k) g
