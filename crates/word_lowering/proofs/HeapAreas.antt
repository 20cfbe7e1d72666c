-- Words of the heap may be read and written.
use Rattle.word_code.specs.Memory.{Memory, as_state}
use Rattle.word_lowering.proofs.Lines.{Basis}
use Rattle.word_lowering.proofs.SitesApart.{InRange, site_at}
use Rattle.word_lowering.proofs.Moves.{IsArea}
use Rattle.word_lowering.proofs.Sites.{Linked, Site}
use Rattle.std.proofs.Common.{List, arith, inl, inr, length, ℕ, ◌%◌, ◌+◌, ◌≡◌, ◌≤◌}
use Rattle.word_lowering.proofs.Sources.{Lying, Readable, area_by, lying_range}
use Rattle.word_lowering.proofs.Related.{MemoryGood}
use Rattle.word_code.specs.RoutineTable.{Separate}
use Rattle.word_code.proofs.ForCallers.{Sized}
use Rattle.std.proofs.lemmas.Bool.{and_from, eq-eqb}
use Rattle.word_lowering.proofs.OpenCells.{cell_by}
use Rattle.rv32_isa.specs.Image.{heap_at}
use Rattle.heap_memory.proofs.ForCallers.{heap_open}
use Rattle.rv32_isa.specs.State.{writable}
use Rattle.std.specs.Prelude.{◌==◌}

pub heap_area : (m : Memory) → Sized m → (a n : ℕ) → a % 4 ≡ 0 → heap_at ≤ a → a + n ≤ heap_at + length m.heap → IsArea m a n
heap_area m sized a n whole low high i le =
    area_by m i a whole (λ b at_least end is. cell_by m sized b (and_from (b % 4 == 0) (writable (as_state m) b 4) (eq-eqb (b % 4) 0 is)
    (heap_open m sized b 4 (omega (arith, low, at_least)) (omega (arith, high, le, end)))))

module _ (x : Basis) (sites : List Site) (linked : Linked x.table x.blocks sites) (m : Memory) (good : MemoryGood x.table x.blocks sites x.first m) where
  -- places are beside the heap
  pub heap_readable : (a n : ℕ) → a % 4 ≡ 0 → heap_at ≤ a → a + n ≤ heap_at + length m.heap → Readable x sites linked m a n
  heap_readable a n whole low high = record {
    area = heap_area m good.sized a n whole low high;
    near = (let most = good.sized.heap_most in omega (arith, high, most));
    separate = λ b place all. apart b place (lying_range x sites linked b n place);
  }
    where
      apart : (b : ℕ) (place : Lying x sites linked b n) → InRange x.table x.blocks place.site b n → Separate b a n
      apart b place (inl r) = let d = x.small in inr (inl (omega (arith, r.2, d, low)))
      apart b place (inr r) =
          let s = site_at x.table x.blocks sites place.site linked place.among in
          let h = s.least in
          let most = good.sized.heap_most in
          inr (inr (omega (arith, high, r.0, h, most)))
