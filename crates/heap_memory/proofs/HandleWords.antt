-- The two words of a handle are put to an address.
use Rattle.std.proofs.Common.{◌≡◌, ℕ, ◌+◌, ◌%◌, ◌^◌, ◌<◌, inl, inr, Err, true, refl, sym, ap, subst, ◌∙◌, arith}
use Rattle.std.specs.Prelude.{◌==◌, ◌&&◌, if◌then◌else◌}
use Rattle.std.proofs.lemmas.Bool.{and_parts}
use Rattle.rv32_isa.specs.declared.micro_op.Size.TheVariants.{Word}
use Rattle.rv32_isa.specs.declared.machine.FaultKind.TheVariants.{Misaligned}
use Rattle.rv32_isa.specs.Image.{heap_at}
use Rattle.rv32_isa.specs.Steps.{number_of}
use Rattle.word_code.specs.Memory.{KeepsShape, Memory, as_state, may_put, with_number, may_fill}
use Rattle.word_code.specs.RoutineTable.{Beside, IsRewritten}
use Rattle.word_code.proofs.ForCallers.{MemoryLaw, Sized, sizes_same, sizes_more, store_rewritten, put_sized, put_here}
use Rattle.heap_memory.specs.HeapRoutines.{IsBesideHeap}
use Rattle.heap_memory.specs.declared.numbers.TheConstants.{HEAP_WORD_BYTES, HEAP_DATA}
use Rattle.heap_memory.specs.HandleRoutines.{MayHave, IsHandlePut, IsBesideData}
use Rattle.heap_memory.proofs.Ranges.{written_in}

-- one that may be put ends below the end of all addresses
pub open_low : (m : Memory) (sized : Sized m) (b : ℕ) → may_put m b Word ≡ true → b + 4 < 2 ^ 32
open_low m sized b may =
    let x = written_in m sized b 4 (omega arith) (and_parts (b % 4 == 0) (may_fill m b 4) may).1 in
    let e = x.region.ends in
    let h = x.high in
    omega (arith, e, h)

-- one may still be put, whatever the heap has
pub may_still : (law : MemoryLaw) (m other : Memory) (a : ℕ) → KeepsShape (as_state m) (as_state other) → MayHave m a → MayHave other a
may_still law m other a sizes may = (still a may.0, still (a + 4) may.1)
  where
    still : (b : ℕ) → may_put m b Word ≡ true → may_put other b Word ≡ true
    still b is = ap (λ x. (b % 4 == 0) && x) (law.stores (as_state m) (as_state other) b 4 sizes) ∙ is

-- ---- all beside the heap and the data of its routines

pub data_same : (at : ℕ) (m : Memory) → IsBesideData at m m
data_same at m = record { sizes = sizes_same m; beside = λ b n away heap. refl }

pub data_more : (at : ℕ) (m middle other : Memory) → IsBesideData at m middle → IsBesideHeap at middle other → IsBesideData at m other
data_more at m middle other x y = record {
  sizes = sizes_more m middle other x.sizes y.sizes;
  beside = λ b n away heap.
      let same = x.sizes.heap in
      y.beside b n (words b n away) (subst (λ l. Beside b n heap_at l) (sym same) heap) ∙ x.beside b n away heap;
}
  where
    words : (b n : ℕ) → Beside b n at HEAP_DATA → Beside b n at HEAP_WORD_BYTES
    words b n (inl h) = inl h
    words b n (inr h) = inr (omega (arith, h))

-- ---- one is put

module _ (law : MemoryLaw) (m : Memory) (sized : Sized m) (a n place : ℕ) (may : MayHave m a) (n_small : n < 2 ^ 32) (place_small : place < 2 ^ 32) where
  abbrev pub with_long : Memory
  with_long = with_number m a Word n

  abbrev pub with_handle : Memory
  with_handle = with_number with_long (a + 4) Word place

  long_put : IsRewritten m with_long a 4
  long_put = store_rewritten law m a Word n sized may.0

  long_sized : Sized with_long
  long_sized = put_sized law m a n sized may.0

  pub place_may : may_put with_long (a + 4) Word ≡ true
  place_may = ap (λ b. ((a + 4) % 4 == 0) && b) (law.stores (as_state m) (as_state with_long) (a + 4) 4 long_put.sizes) ∙ may.1

  place_put : IsRewritten with_long with_handle (a + 4) 4
  place_put = store_rewritten law with_long (a + 4) Word place long_sized place_may

  pub handle_sized : Sized with_handle
  handle_sized = put_sized law with_long (a + 4) place long_sized place_may

  pub handle_put : IsHandlePut m with_handle a n place
  handle_put = record {
    rewritten = record {
      sizes = sizes_more m with_long with_handle long_put.sizes place_put.sizes;
      beside = λ b k apart. place_put.beside b k (behind b k apart) ∙ long_put.beside b k (front b k apart);
    };
    handle = record {
      long = ap (λ o. if a % 4 == 0 then number_of o else Err Misaligned) (place_put.beside a 4 (inl (omega arith)))
          ∙ put_here law m a n sized may.0 n_small;
      there = put_here law with_long (a + 4) place long_sized place_may place_small;
    };
  }
    where
      front : (b k : ℕ) → Beside b k a 8 → Beside b k a 4
      front b k (inl h) = inl h
      front b k (inr h) = inr (omega (arith, h))

      behind : (b k : ℕ) → Beside b k a 8 → Beside b k (a + 4) 4
      behind b k (inl h) = inl (omega (arith, h))
      behind b k (inr h) = inr (omega (arith, h))
