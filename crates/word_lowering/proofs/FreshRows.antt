-- A new text or sequence comes to a place that is no home yet: what holds of homes in the meaning's world before holds in its world behind the deed.
use Rattle.std.proofs.Common.{◌≡◌, ℕ, zero, suc, ◌<◌, List, [], length, Option, Some, None, Bool, true, false, refl, sym, ap, subst, ◌∙◌, arith}
use Rattle.std.proofs.lemmas.Option.{none-some, same_Some}
use Rattle.arc_base.specs.Event.{Event}
use Rattle.nim_meaning.specs.Values.{Value, Handle}
use Rattle.nim_meaning.specs.Heap.{Contents, class_for, has_room}
use Rattle.nim_meaning.specs.State.{World}
use Rattle.nim_meaning.specs.Deeds.{Done, Answers, Finishes, Fails, behind, perform, took, with_block}
use Rattle.nim_meaning.specs.Lifted.{has_place, fresh}
use Rattle.flat_code.specs.Shapes.{Shape}
use Rattle.rv32_isa.specs.Image.{heap_at}
use Rattle.word_code.specs.Memory.{Memory, as_state, own_data_at}
use Rattle.word_code.specs.RoutineTable.{Beside, IsRewritten}
use Rattle.word_code.proofs.ForCallers.{MemoryLaw, Sized}
use Rattle.heap_memory.specs.HeapUse.{IsElsewhere}
use Rattle.word_lowering.proofs.Blocks.{Blocks}
use Rattle.word_lowering.proofs.BlocksBorn.{later_same}
use Rattle.word_lowering.proofs.StoredLater.{stored_kept}
use Rattle.word_lowering.proofs.CarriedBeside.{rewritten_carried}
use Rattle.word_lowering.proofs.BlockHomes.{Home, home_bytes, SameOrApart, HomesHold, outside_then}
use Rattle.word_lowering.proofs.BlockWrites.{heap_written}
use Rattle.word_lowering.proofs.BlocksMade.{heap_fresh, block_fresh, heap_resized, block_resized}
use Rattle.word_lowering.proofs.HandlesPut.{LeavesHandle}
use Rattle.word_lowering.proofs.HandleRows.{homes_then}
use Rattle.word_lowering.proofs.ResizedWorlds.{AreAlike, answered, behind_answers}
use Rattle.word_lowering.proofs.ResizedRows.{homes_alike}

-- ---- the world behind the deed, and its answer

abbrev pub answer : {A : Type 0} → Done A → Option A
answer (Answers es n x w) = Some x
answer (Finishes es n status w) = None
answer (Fails es n w) = None

pub behind_answer : {A : Type 0} (es : List Event) (n : ℕ) (x : Done A) → answer (behind es n x) ≡ answer x
behind_answer es n (Answers fs m x w) = refl
behind_answer es n (Finishes fs m status w) = refl
behind_answer es n (Fails fs m w) = refl

pub record IsFresh (w : World) (n bytes : ℕ) (c : Contents) (after : World) (done : Done Value) : Type 0 where
  pub room : 0 < bytes → has_room w.heap (class_for bytes w.heap.classes) ≡ true
  pub is : AreAlike after (record w { heap = heap_fresh w.heap bytes c })
  pub value : answer done ≡ Some (Handle n (block_fresh w.heap bytes))

-- where there is room
abbrev given_handle : World → (n bytes : ℕ) → Contents → Done Value
given_handle w n bytes c = Answers [] 0 (Handle n (Some (length w.heap.blocks))) (with_block (class_for bytes w.heap.classes) c w)

fresh_some : (w : World) (i k : ℕ) (c : Contents) (after : World) → answered (perform (fresh (suc i) (suc k) c) w) ≡ Some after
    → IsFresh w (suc i) (suc k) c after (perform (fresh (suc i) (suc k) c) w)
fresh_some w i k c after h =
    by (has_room w.heap (class_for (suc k) w.heap.classes)) refl
    (sym (behind_answers [] (suc k) (took (has_room w.heap (class_for (suc k) w.heap.classes)) (given_handle w (suc i) (suc k) c) w)) ∙ h)
  where
    by : (b : Bool) → has_room w.heap (class_for (suc k) w.heap.classes) ≡ b → answered (took b (given_handle w (suc i) (suc k) c) w) ≡ Some after
        → IsFresh w (suc i) (suc k) c after (perform (fresh (suc i) (suc k) c) w)
    by true room h = record {
      room = λ some. room;
      is = subst (λ a. AreAlike a (record w { heap = heap_fresh w.heap (suc k) c })) (same_Some (with_block (class_for (suc k) w.heap.classes) c w) after h)
          (record { heap = refl; frames = refl; hand = refl });
      value = behind_answer [] (suc k) (took (has_room w.heap (class_for (suc k) w.heap.classes)) (given_handle w (suc i) (suc k) c) w)
          ∙ ap (λ b. answer (took b (given_handle w (suc i) (suc k) c) w)) room;
    }
    by false room h = absurd (none-some after h)

-- it has elements exactly where it has bytes
pub fresh_world : (w : World) (n bytes : ℕ) (c : Contents) → (n ≡ 0 → bytes ≡ 0) → (bytes ≡ 0 → n ≡ 0) → (after : World)
    → answered (perform (fresh n bytes c) w) ≡ Some after → IsFresh w n bytes c after (perform (fresh n bytes c) w)
fresh_world w zero zero c none bytes_none after h = record {
  room = λ some. absurd (omega (arith, some));
  is = subst (λ a. AreAlike a w) (same_Some w after h) (record { heap = refl; frames = refl; hand = refl });
  value = refl;
}
fresh_world w zero (suc k) c none bytes_none after h = absurd (let e = none refl in omega (arith, e))
fresh_world w (suc i) zero c none bytes_none after h = absurd (let e = bytes_none refl in omega (arith, e))
fresh_world w (suc i) (suc k) c none bytes_none after h = fresh_some w i k c after h

-- the heap where none had a block
pub first_heap : (w : World) (bytes : ℕ) (c : Contents) → heap_resized (has_place w None bytes) w.heap None bytes c ≡ heap_fresh w.heap bytes c
first_heap w zero c = refl
first_heap w (suc i) c = refl

pub first_block : (w : World) (bytes : ℕ) → block_resized (has_place w None bytes) w.heap None ≡ block_fresh w.heap bytes
first_block w zero = refl
first_block w (suc i) = refl

-- ---- beside all homes

module _ (StandsFixed : (place : ℕ) → List ℕ → Type 0) (Homes : Home → Type 0) (apart : (g h : Home) → Homes g → Homes h → SameOrApart g h) where
  pub homes_beside : (d : Blocks) (w : World) (m other : Memory) → HomesHold StandsFixed Homes apart d w m → Sized other → (a n : ℕ)
      → IsRewritten m other a n → IsElsewhere own_data_at m a n → ((h : Home) → Homes h → Beside h.at (home_bytes h) a n)
      → HomesHold StandsFixed Homes apart d w other
  homes_beside d w m other x sized a n written elsewhere away = record {
    sized = sized;
    heap = heap_written StandsFixed d w.heap m other x.sized sized x.heap a n written elsewhere;
    homes = λ h i.
        let y = x.homes h i in
        record {
          value = y.value;
          holds = y.holds;
          stored = stored_kept StandsFixed d d (later_same d) m other h.at h.at h.shape y.value
              (rewritten_carried m other a n h.at (home_bytes h) written (away h i)) y.stored;
          elsewhere = outside_then m other h.at (home_bytes h) written.sizes.heap y.elsewhere;
        };
  }

  -- a new one, whose handle comes to a place beside them
  module _ (law : MemoryLaw) (d : Blocks) (w : World) (m : Memory) (x : HomesHold StandsFixed Homes apart d w m) (s : Shape) (n bytes : ℕ) (c : Contents)
      (other : Memory) (to : ℕ) (y : LeavesHandle StandsFixed d (heap_fresh w.heap bytes c) m other to s n bytes (block_fresh w.heap bytes))
      (elsewhere : IsElsewhere own_data_at m to 8) (away : (h : Home) → Homes h → Beside h.at (home_bytes h) to 8)
    where
      still_elsewhere : IsElsewhere own_data_at y.middle to 8
      still_elsewhere = record {
        heap = subst (λ k. Beside heap_at k to 8) (sym y.rest.sizes.heap) elsewhere.heap;
        words = elsewhere.words;
        room = elsewhere.room;
      }

      -- whatever is under way
      pub fresh_homes : HomesHold StandsFixed Homes apart y.after (record w { heap = heap_fresh w.heap bytes c }) other
      fresh_homes =
          homes_beside y.after (record w { heap = heap_fresh w.heap bytes c }) y.middle other
          (homes_then StandsFixed law Homes apart d w m x (heap_fresh w.heap bytes c) other to s n bytes (block_fresh w.heap bytes) y)
          (law.regions (as_state y.middle) (as_state other) y.regions y.put.sizes) to 8 y.put still_elsewhere away

      pub fresh_row : (none : n ≡ 0 → bytes ≡ 0) (bytes_none : bytes ≡ 0 → n ≡ 0) (after : World) → answered (perform (fresh n bytes c) w) ≡ Some after
          → HomesHold StandsFixed Homes apart y.after after other
      fresh_row none bytes_none after h =
          homes_alike StandsFixed Homes apart (record w { heap = heap_fresh w.heap bytes c }) after
          (fresh_world w n bytes c none bytes_none after h).is y.after other fresh_homes
