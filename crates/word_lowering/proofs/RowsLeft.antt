-- What is true behind a row that puts a handle at an address.
use Rattle.std.proofs.Common.{◌≡◌, ℕ, ◌+◌, ◌^◌, ◌<◌, List, length, Option, Some, None, ◌∙◌, arith}
use Rattle.nim_meaning.specs.Values.{Value}
use Rattle.nim_meaning.specs.Heap.{Heap}
use Rattle.nim_meaning.specs.State.{World}
use Rattle.flat_code.specs.Shapes.{Shape}
use Rattle.rv32_isa.specs.Image.{heap_at}
use Rattle.word_code.specs.Memory.{KeepsShape, Memory, as_state, bytes_at, own_data_at}
use Rattle.word_code.specs.RoutineTable.{Beside}
use Rattle.word_code.proofs.ForCallers.{sizes_more}
use Rattle.heap_memory.specs.declared.numbers.TheConstants.{HEAP_DATA}
use Rattle.heap_memory.proofs.ForCallers.{is_there}
use Rattle.word_lowering.proofs.Blocks.{Blocks, AreLater, IsPlace, Stored}
use Rattle.word_lowering.proofs.BlockHomes.{Home, SameOrApart, HomesHold}
use Rattle.word_lowering.proofs.BlocksMade.{HasRoom}
use Rattle.word_lowering.proofs.HandlesPut.{LeavesHandle}

-- nothing is other than before but the heap, its data, and a range
pub record IsBesidePut (m other : Memory) (to bytes : ℕ) : Type 0 where
  pub sizes : KeepsShape (as_state m) (as_state other)
  pub beside : (b n : ℕ) → Beside b n own_data_at HEAP_DATA → Beside b n heap_at (length m.heap) → Beside b n to bytes → bytes_at other b n ≡ bytes_at m b n

module _ (StandsFixed : (place : ℕ) → List ℕ → Type 0) where
  pub handle_beside : (d : Blocks) (heap_after : Heap) (m other : Memory) (to : ℕ) (s : Shape) (n bytes : ℕ) (k : Option ℕ)
      → LeavesHandle StandsFixed d heap_after m other to s n bytes k → IsBesidePut m other to 8
  handle_beside d heap_after m other to s n bytes k y = record {
    sizes = sizes_more m y.middle other y.rest.sizes y.put.sizes;
    beside = λ b i own heap put. y.put.beside b i put ∙ y.rest.beside b i own heap;
  }

  -- where its contents end, which has a word
  pub handle_end : (d : Blocks) (heap_after : Heap) (m other : Memory) (to : ℕ) (s : Shape) (n bytes : ℕ) (k : Option ℕ)
      → (y : LeavesHandle StandsFixed d heap_after m other to s n bytes k) → bytes < 2 ^ 32 → y.handle.place + bytes < 2 ^ 32
  handle_end d heap_after m other to s n bytes k y small = by k y.handle.is y.room
    where
      by : (q : Option ℕ) → IsPlace y.after s q y.handle.place → HasRoom StandsFixed y.after q y.handle.place bytes → y.handle.place + bytes < 2 ^ 32
      by None is room = omega (arith, is, small)
      by (Some j) is room =
          let there = is_there own_data_at heap_after.classes y.after.stands y.middle y.has.kept j room.0 room.1 y.regions in
          let high = there.high in
          let most = y.regions.heap_most in
          let at = room.2 in
          let long = room.3 in
          omega (arith, high, most, at, long)

  -- homes hold what they do in the meaning's world then
  module _ (Homes : Home → Type 0) (apart : (g h : Home) → Homes g → Homes h → SameOrApart g h) where
    pub record IsLeft (d : Blocks) (m : Memory) (after : World) (other : Memory) (to bytes : ℕ) : Type 0 where
      pub later : Blocks
      pub ahead : AreLater d later
      pub holds : HomesHold StandsFixed Homes apart later after other
      pub rest : IsBesidePut m other to bytes

    -- and what is new stands at a place of its own
    pub record IsNew (d : Blocks) (m : Memory) (new : Value) (after : World) (other : Memory) (to bytes : ℕ) (s : Shape) : Type 0 where
      pub left : IsLeft d m after other to bytes
      pub stored : Stored StandsFixed left.later other to s new
