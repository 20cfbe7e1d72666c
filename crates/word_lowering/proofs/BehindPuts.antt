-- Where a row put something where a location leads, and did what it does to the heap: memory is good, and the values of temporaries lie there as before.
use Rattle.word_code.specs.RoutineTable.{Beside}
use Rattle.word_lowering.proofs.SitesApart.{Beside as BesideOf, ranges_apart}
use Rattle.nim_meaning.specs.Values.{Location}
use Rattle.word_lowering.proofs.Lines.{Basis, IsGood, all_sites, starts}
use Rattle.flat_code.specs.declared.block.BlockLine.{BlockLine}
use Rattle.word_lowering.proofs.Related.{Both, MemoryGood}
use Rattle.word_lowering.proofs.InMemory.{Carries}
use Rattle.word_lowering.proofs.Scenes.{FromBlock, FromOwned, FromPlace, FromWaits, IsThere, address_of, house, is_fixed, of_place, of_value, of_waiting}
use Rattle.word_lowering.proofs.GoodHomes.{HomeOf, good_homes, homes_apart}
use Rattle.word_lowering.proofs.Sites.{InMemory, Site}
use Rattle.word_lowering.proofs.RowsLeft.{IsBesidePut}
use Rattle.std.proofs.Common.{List, arith, length, refl, sym, true, ℕ, ◌+◌, ◌∙◌, ◌≡◌, ◌≤◌, inl, inr}
use Rattle.word_lowering.proofs.Sources.{Lying, lying_all, lying_away}
use Rattle.word_code.specs.Memory.{Memory}
use Rattle.flat_code.specs.Shapes.{Shape}
use Rattle.word_code.proofs.ForCallers.{Sized}
use Rattle.word_lowering.proofs.BlockRanges.{block_range}
use Rattle.rv32_isa.specs.Image.{heap_at}
use Rattle.nim_meaning.specs.State.{is_there}
use Rattle.word_lowering.proofs.GoodRows.{left_good}
use Rattle.word_lowering.proofs.Located.{place_lying, waiting_lying}
use Rattle.word_lowering.proofs.RoutineMemory.{same_word}
use Rattle.word_lowering.proofs.Keeping.{value_no_place, value_no_waiting, waiting_inside}
use Rattle.word_lowering.proofs.ShapeFacts.{shape_bytes}

module _ (x : Basis) (g : Both) (line : BlockLine) (rest : List BlockLine) (y : IsGood x (starts g line rest)) (l : Location) (a : ℕ) (t : Shape)
    (owned : FromOwned x.table (all_sites x g line rest y) g.ground g.world l a t) (live : is_there g.world l ≡ true) where
  abbrev here : Both
  here = starts g line rest

  abbrev sites : List Site
  sites = all_sites x g line rest y

  -- a block stands in the heap
  in_heap : FromBlock g.ground l a t → (heap_at ≤ a) × (a + shape_bytes t ≤ heap_at + length g.memory.heap)
  in_heap f =
      block_range (is_fixed g.ground) (HomeOf x here) (homes_apart x here y) g.ground.blocks g.world g.memory (good_homes x here y) l a t
      (record { block = f.block; base = f.base; leads = f.leads }) live

  module _ (other : Memory) (sized : Sized other) (left : IsBesidePut g.memory other a (shape_bytes t)) where
    pub good_then : MemoryGood x.table x.blocks (all_sites x g line rest y) x.first other
    good_then = by owned
      where
        away : (b k : ℕ) → Beside b k heap_at (length g.memory.heap) → heap_at ≤ a → a + shape_bytes t ≤ heap_at + length g.memory.heap
            → Beside b k a (shape_bytes t)
        away b k (inl h) low high = inl (omega (arith, h, low))
        away b k (inr h) low high = inr (omega (arith, h, high))

        by : FromOwned x.table sites g.ground g.world l a t → MemoryGood x.table x.blocks sites x.first other
        by (inl f) =
            left_good x g line rest y other a (shape_bytes t) (record { sized = sized; sizes = left.sizes; beside = left.beside })
            (inl (place_lying x here y l a t f))
        by (inr (inr f)) =
            left_good x g line rest y other a (shape_bytes t) (record { sized = sized; sizes = left.sizes; beside = left.beside })
            (inl (waiting_lying x here y l a t f.from))
        by (inr (inl f)) =
            let inside = in_heap f in
            left_good x g line rest y other 0 0 (record {
              sized = sized;
              sizes = left.sizes;
              beside = λ b k own heap put. left.beside b k own heap (away b k heap inside.0 inside.1);
            }) (inr (refl, refl))

  -- ---- the home of a temporary's value

  module _ (n : ℕ) (there : IsThere g.call.site (of_value n)) (inside : InMemory (house g.call.site (of_value n)).home) where
    abbrev from : ℕ
    from = address_of g.call.site.base (house g.call.site (of_value n)).home

    abbrev long : ℕ
    long = (house g.call.site (of_value n)).bytes

    lying : Lying x sites y.linked from long
    lying = lying_all x sites y.linked g.call.site (of_value n) long (inl refl) there inside refl

    -- it is beside what was put
    pub value_beside : Beside (address_of g.call.site.base (house g.call.site (of_value n)).home) (house g.call.site (of_value n)).bytes a (shape_bytes t)
    value_beside = by owned
      where
        placed : (f : FromPlace x.table sites g.world l a t)
            → BesideOf (address_of f.site.base (house f.site (of_place f.number)).home) (house f.site (of_place f.number)).bytes from long
            → Beside from long a (shape_bytes t)
        placed f (inl h) = let p = place_lying x here y l a t f in let high = p.high in inr (omega (arith, h, high))
        placed f (inr h) = let p = place_lying x here y l a t f in let low = p.low in inl (omega (arith, h, low))

        waited : (f : FromWaits x.table sites g.world l a t)
            → BesideOf (address_of f.from.site.base (house f.from.site (of_waiting f.from.node)).home) (house f.from.site (of_waiting f.from.node)).bytes
            from long
            → Beside from long a (shape_bytes t)
        waited f (inl h) = let p = waiting_lying x here y l a t f.from in let high = p.high in inr (omega (arith, h, high))
        waited f (inr h) = let p = waiting_lying x here y l a t f.from in let low = p.low in inl (omega (arith, h, low))

        in_block : heap_at ≤ a → a + shape_bytes t ≤ heap_at + length g.memory.heap → Beside heap_at (length g.memory.heap) from long
            → Beside from long a (shape_bytes t)
        in_block low high (inl h) = inr (omega (arith, h, high))
        in_block low high (inr h) = inl (omega (arith, h, low))

        by : FromOwned x.table sites g.ground g.world l a t → Beside from long a (shape_bytes t)
        by (inl f) =
            placed f (ranges_apart x.table x.blocks x.small sites f.site g.call.site (of_place f.number) (of_value n) y.linked f.among (inl refl) f.there there
            f.home inside (inr (λ e. value_no_place n f.number (sym e))))
        by (inr (inr f)) =
            waited f (ranges_apart x.table x.blocks x.small sites f.from.site g.call.site (of_waiting f.from.node) (of_value n) y.linked f.from.among (inl refl)
            f.from.there there (waiting_inside f.from.site f.from.node f.from.there) inside (inr (λ e. value_no_waiting n f.from.node (sym e))))
        by (inr (inl f)) = let i = in_heap f in in_block i.0 i.1 (lying_away x sites y.linked g.memory from long y.memory lying).1

    module _ (other : Memory) (left : IsBesidePut g.memory other a (shape_bytes t)) where
      pub value_carried : Carries g.memory other (address_of g.call.site.base (house g.call.site (of_value n)).home)
          (address_of g.call.site.base (house g.call.site (of_value n)).home) (house g.call.site (of_value n)).bytes
      value_carried o w within whole reads =
          let away = lying_away x sites y.linked g.memory from long y.memory lying in
          let low = away.0 in
          same_word g.memory other (from + o) (left.beside (from + o) 4 (inr (omega (arith, low))) (turned (part away.1)) (narrow value_beside)) ∙ reads
        where
          narrow : Beside from long a (shape_bytes t) → Beside (from + o) 4 a (shape_bytes t)
          narrow (inl h) = inl (omega (arith, h, within))
          narrow (inr h) = inr (omega (arith, h))

          part : Beside heap_at (length g.memory.heap) from long → Beside heap_at (length g.memory.heap) (from + o) 4
          part (inl h) = inl (omega (arith, h))
          part (inr h) = inr (omega (arith, h, within))

          turned : Beside heap_at (length g.memory.heap) (from + o) 4 → Beside (from + o) 4 heap_at (length g.memory.heap)
          turned (inl h) = inr (omega (arith, h))
          turned (inr h) = inl (omega (arith, h))
