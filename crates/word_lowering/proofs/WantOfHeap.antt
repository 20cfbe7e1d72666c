-- Where a routine ends the program for want of heap, the deed does: a growth has room exactly where the meaning has.
use Rattle.std.proofs.Common.{◌≡◌, ℕ, zero, suc, List, [], length, Option, Some, None, Bool, true, false, refl, sym, ap, ap₂, ◌∙◌, arith}
use Rattle.std.specs.Prelude.{◌||◌}
use Rattle.std.proofs.lemmas.Bool.{lt-leb}
use Rattle.nim_program.specs.Traps.{OutOfMemory}
use Rattle.nim_meaning.specs.Values.{Value, Handle, Location, block_of, is_handle}
use Rattle.nim_meaning.specs.Heap.{Contents, Block, block_at, class_for, has_room}
use Rattle.nim_meaning.specs.State.{World, load, is_seen}
use Rattle.nim_meaning.specs.Deeds.{Deed, Done, Answers, Errs, perform, with_block, behind, stopped, took, branch, sets, frees, refills, ◌>>=◌, ◌>>◌}
use Rattle.nim_meaning.specs.Lifted.{fresh, has_place, resized}
use Rattle.word_code.specs.Memory.{Memory, own_data_at}
use Rattle.heap_memory.specs.GrowRoutine.{Owned, holds_it, may_grow}
use Rattle.heap_memory.proofs.ForCallers.{class_same}
use Rattle.word_lowering.proofs.Blocks.{Blocks, IsBlockThere, HasHeap}
use Rattle.word_lowering.proofs.BlocksMade.{place_same}
use Rattle.word_lowering.proofs.ContentsGrown.{growing_in}

-- ---- the routine

module _ (StandsFixed : (place : ℕ) → List ℕ → Type 0) (d : Blocks) (w : World) (m : Memory) (has : HasHeap StandsFixed d w.heap m) (kept bytes : ℕ) where
  abbrev Room : Option ℕ → Bool
  Room k = has_place w k bytes || has_room w.heap (class_for bytes w.heap.classes)

  rooms : (present : Option Owned) (k : Option ℕ) → holds_it present bytes ≡ has_place w k bytes
      → may_grow (growing_in d w.heap present kept bytes) ≡ Room k
  rooms present k holds =
      ap₂ (λ a b. a || b) holds (ap (has_room w.heap) (sym (class_same own_data_at w.heap.classes d.stands m has.kept bytes)))

  pub first_room : may_grow (growing_in d w.heap None kept bytes) ≡ (has_place w None bytes || has_room w.heap (class_for bytes w.heap.classes))
  first_room = rooms None None (none bytes)
    where
      none : (n : ℕ) → holds_it None n ≡ has_place w None n
      none zero = refl
      none (suc n) = lt-leb (suc n) 0 (omega arith)

  pub next_room : (k : ℕ) (b : Block) (there : block_at w.heap k ≡ Some b) (at : IsBlockThere StandsFixed d m k b)
      → may_grow (growing_in d w.heap (Some (record { identity = k; block = at.standing })) kept bytes)
      ≡ (has_place w (Some k) bytes || has_room w.heap (class_for bytes w.heap.classes))
  next_room k b there at =
      rooms (Some (record { identity = k; block = at.standing })) (Some k) (sym (place_same StandsFixed d w m has k b there at bytes))

-- ---- the deed

-- its block stays, or it gets another one
abbrev stays_deed : World → (i : ℕ) → Contents → Location → Deed (Unit {0})
stays_deed w i c l = refills (block_of (load w l)) c >> sets l (Handle (suc i) (block_of (load w l)))

abbrev moves_deed : World → (i k : ℕ) → Contents → Location → Deed (Unit {0})
moves_deed w i k c l = fresh (suc i) (suc k) c >>= (λ new. sets l new >> frees (block_of (load w l)))

-- where there is room
abbrev taken_done : World → (i k : ℕ) → Contents → Done Value
taken_done w i k c = Answers [] 0 (Handle (suc i) (Some (length w.heap.blocks))) (with_block (class_for (suc k) w.heap.classes) c w)

-- the world as it is, and the line of the trap
pub fresh_full : (w : World) (i k : ℕ) (c : Contents) → has_room w.heap (class_for (suc k) w.heap.classes) ≡ false
    → perform (fresh (suc i) (suc k) c) w ≡ behind [] (suc k) (stopped OutOfMemory w)
fresh_full w i k c full = ap (λ b. behind [] (suc k) (took b (taken_done w i k c) w)) full

pub resized_full : (w : World) (i k : ℕ) (c : Contents) (l : Location) → is_seen w l ≡ true → is_handle (load w l) ≡ true
    → has_place w (block_of (load w l)) (suc k) ≡ false
    → has_room w.heap (class_for (suc k) w.heap.classes) ≡ false → perform (resized (suc i) (suc k) c l) w ≡ behind [] (suc k) (stopped OutOfMemory w)
resized_full w i k c l seen owned no_place full =
    ap (λ b. perform (branch b (branch (is_handle (load w l)) (branch (has_place w (block_of (load w l)) (suc k)) (stays_deed w i c l)
    (moves_deed w i k c l)) Errs) Errs) w) seen
    ∙ ap (λ b. perform (branch b (branch (has_place w (block_of (load w l)) (suc k)) (stays_deed w i c l) (moves_deed w i k c l)) Errs) w) owned
    ∙ ap (λ b. perform (branch b (stays_deed w i c l) (moves_deed w i k c l)) w) no_place
    ∙ ap (λ b. behind [] (suc k) (took b (perform (sets l (Handle (suc i) (Some (length w.heap.blocks))) >> frees (block_of (load w l)))
    (with_block (class_for (suc k) w.heap.classes) c w)) w)) full
