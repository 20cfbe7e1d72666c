-- A handle is put where a location leads, behind a routine: what holds of homes in the meaning's world before holds in its world then.
use Rattle.std.proofs.Common.{◌≡◌, inl, inr, ℕ, List, Option, true}
use Rattle.nim_meaning.specs.Values.{Handle, Location}
use Rattle.nim_meaning.specs.Heap.{Heap}
use Rattle.nim_meaning.specs.State.{World, is_there}
use Rattle.flat_code.specs.Shapes.{Shape, block, elements}
use Rattle.word_code.specs.Memory.{Memory, as_state}
use Rattle.word_code.specs.RoutineTable.{IsRewritten}
use Rattle.word_code.proofs.ForCallers.{MemoryLaw, Sized}
use Rattle.word_lowering.proofs.ShapeFacts.{shape_bytes}
use Rattle.word_lowering.proofs.Blocks.{Blocks, Stored}
use Rattle.word_lowering.proofs.BlockHomes.{Home, SameOrApart, HomesHold, LeadsTo, with_heap_after}
use Rattle.word_lowering.proofs.BlockPaths.{leads_later}
use Rattle.word_lowering.proofs.BlockWrites.{MayPut, put_at, Put}
use Rattle.word_lowering.proofs.HandlesPut.{LeavesHandle}

-- of a text, or of a sequence
abbrev pub IsHandled : Shape → Type 0
IsHandled block = Unit {0}
IsHandled (elements s) = Unit {0}
IsHandled s = ⊥

module _ (StandsFixed : (place : ℕ) → List ℕ → Type 0) (law : MemoryLaw) (Homes : Home → Type 0)
    (apart : (g h : Home) → Homes g → Homes h → SameOrApart g h) (d : Blocks) (w : World) (m : Memory) (x : HomesHold StandsFixed Homes apart d w m)
    (heap_after : Heap) (other : Memory) (to : ℕ) (s : Shape) (n bytes : ℕ) (k : Option ℕ)
    (y : LeavesHandle StandsFixed d heap_after m other to s n bytes k) where
  -- the world with the heap that there is then
  abbrev pub world_then : World
  world_then = record w { heap = heap_after }

  pub homes_then : HomesHold StandsFixed Homes apart y.after world_then y.middle
  homes_then = with_heap_after StandsFixed Homes apart d w m x y.after y.ahead y.middle y.regions (record { long = y.rest.sizes.heap; beside = y.rest.beside })
      heap_after y.has

  -- a location leads where it did
  pub leads_then : (l : Location) (a : ℕ) (t : Shape) → LeadsTo StandsFixed Homes apart d l a t → LeadsTo StandsFixed Homes apart y.after l a t
  leads_then l a t (inl f) = inl f
  leads_then l a t (inr f) =
      inr (record { block = f.block; base = f.base; leads = leads_later d y.after y.ahead f.block l.path a t f.leads })

  pub stored_handle : IsHandled s → Stored StandsFixed y.after other to s (Handle n k)
  stored_handle = by s y
    where
      by : (s : Shape) → (y : LeavesHandle StandsFixed d heap_after m other to s n bytes k) → IsHandled s → Stored StandsFixed y.after other to s (Handle n k)
      by block y is = y.handle
      by (elements t) y is = y.handle
      by t y is = absurd is

  pub sized_then : Sized other
  sized_then = law.regions (as_state y.middle) (as_state other) y.regions y.put.sizes

  module _ (handled : IsHandled s) (l : Location) (leads : LeadsTo StandsFixed Homes apart d l to s)
      (live : is_there world_then l ≡ true) where
    pub rewritten : (s : Shape) → IsHandled s → IsRewritten y.middle other to 8 → IsRewritten y.middle other to (shape_bytes s)
    rewritten block is put = put
    rewritten (elements t) is put = put
    rewritten t is put = absurd is

    pub handle_put_at : (f : LeadsTo StandsFixed Homes apart y.after l to s)
        → MayPut StandsFixed Homes apart y.after world_then y.middle homes_then other sized_then l to s (Handle n k)
        (rewritten s handled y.put) (stored_handle handled) f
        → Put StandsFixed Homes apart y.after world_then y.middle homes_then l (Handle n k) other
    handle_put_at f may =
        put_at StandsFixed Homes apart y.after world_then y.middle homes_then other sized_then l to s (Handle n k) (rewritten s handled y.put)
        (stored_handle handled) f may live
