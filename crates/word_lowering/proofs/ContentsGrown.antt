-- What comes of a growth, by the promise of the heap's routines: memory holds the heap that the meaning has then, and the place that a routine gives is
-- that of the block.
use Rattle.std.proofs.Common.{◌≡◌, ℕ, ◌<◌, ◌≤◌, List, length, take, Option, Some, None, true, false, refl, sym, ap, subst, ◌∙◌, arith}
use Rattle.std.specs.Prelude.{◌==◌}
use Rattle.std.proofs.lemmas.Bool.{cond-false, cond-true, eq-eqb, ne_eqb}
use Rattle.nim_meaning.specs.Heap.{Contents, Block, Heap, block_at, taken, with_contents, at_class, one_less, one_more}
use Rattle.flat_code.specs.Shapes.{Shape}
use Rattle.word_code.specs.Memory.{Memory, own_data_at}
use Rattle.heap_memory.specs.HeapState.{Standing, IsHeap}
use Rattle.heap_memory.specs.HeapUse.{IsThere}
use Rattle.heap_memory.specs.HeapRoutines.{class_of}
use Rattle.heap_memory.specs.GrowRoutine.{Owned, Growing}
use Rattle.heap_memory.specs.AppendRoutine.{IsFilled, new_block}
use Rattle.word_lowering.proofs.Blocks.{Inside, Blocks, AreLater, Holds_for, IsPlace, HasContents, IsBlockThere, HasHeap}
use Rattle.word_lowering.proofs.BlocksBorn.{with_born, later_born, later_gone, later_more}
use Rattle.word_lowering.proofs.BlockLists.{there_below}
use Rattle.word_lowering.proofs.HeapChanged.{TwoMemories}
use Rattle.word_lowering.proofs.HeapsThen.{moved_on, heap_on, with_filled, heap_born, heap_moved_on, heap_filled, later_filled}

-- the growth of a payload, in memory that holds a heap
abbrev pub growing_in : Blocks → Heap → Option Owned → (kept wanted : ℕ) → Growing
growing_in d heap present kept wanted = record {
  present = present;
  kept = kept;
  wanted = wanted;
  identity = d.born;
  room = heap.room;
  classes = heap.classes;
  stands = d.stands;
}

abbrev pub place_in : ℕ → Option Standing → ℕ
place_in n None = n
place_in n (Some y) = y.place

module _ (StandsFixed : (place : ℕ) → List ℕ → Type 0) where
  -- what there is then: the blocks, the heap, and the block, with its place and room for what was wanted
  pub record Grown (d : Blocks) (heap_after : Heap) (other : Memory) (s : Shape) (k place wanted : ℕ) : Type 0 where
    pub after : Blocks
    pub ahead : AreLater d after
    pub has : HasHeap StandsFixed after heap_after other
    pub standing : Standing
    pub stands : after.stands k ≡ Some standing
    pub at : standing.place ≡ place
    pub room : wanted ≤ length standing.payload
    pub is_place : IsPlace after s (Some k) place

  -- what its block holds then, whichever that is
  module _ (d : Blocks) (heap : Heap) (m other : Memory) (t : TwoMemories StandsFixed d heap m other) (kept wanted place : ℕ) (front : List ℕ) (s : Shape)
      (i : Inside) (is_for : Holds_for s i) (contents : Contents)
      (holds : (after : Blocks) → AreLater d after → (x : Standing) → IsThere other x → take (length front) x.payload ≡ front → wanted ≤ length x.payload
      → HasContents StandsFixed after other x i contents)
    where
      is_new : (after : Blocks) → after.inside d.born ≡ i → d.born < after.born → (x : Standing) → x.place ≡ place → after.stands d.born ≡ Some x
          → IsPlace after s (Some d.born) place
      is_new after inside born x at stands =
          (born, subst (Holds_for s) (sym inside) is_for, λ y e. sym at ∙ ap (place_in place) (sym stands ∙ e))

      inside_new : (x : Standing) → (with_born d i x).inside d.born ≡ i
      inside_new x = cond-true (d.born == d.born) i (d.inside d.born) (eq-eqb d.born d.born refl)

      stands_new : (x : Standing) → (with_born d i x).stands d.born ≡ Some x
      stands_new x = cond-true (d.born == d.born) (Some x) (d.stands d.born) (eq-eqb d.born d.born refl)

      -- one without a block gets one
      pub grown_new : IsFilled false own_data_at (growing_in d heap None kept wanted) front other place
          → Grown d (taken heap (class_of wanted) contents) other s d.born place wanted
      grown_new f =
          let x : Standing = new_block (class_of wanted) place f.payload in
          let there : IsThere other x
          = t.there_after (taken heap (class_of wanted) contents) (with_born d i x).stands f.heap d.born x (stands_new x) in
          record {
            after = with_born d i x;
            ahead = later_born d i x;
            has = heap_born StandsFixed d heap m other t i x (class_of wanted) contents refl refl refl f.heap
                (holds (with_born d i x) (later_born d i x) x there f.front f.room);
            standing = x;
            stands = stands_new x;
            at = refl;
            room = f.room;
            is_place = is_new (with_born d i x) (inside_new x) (omega arith) x refl (stands_new x);
          }

      module _ (k : ℕ) (b : Block) (is_there : block_at heap k ≡ Some b) (at : IsBlockThere StandsFixed d m k b) where
        abbrev pub present : Owned
        present = record { identity = k; block = at.standing }

        -- one with a block gets a larger one, and then gives its own back
        pub grown_other : IsFilled false own_data_at (growing_in d heap (Some present) kept wanted) front other place
            → Grown d (heap_on heap (class_of wanted) contents k) other s d.born place wanted
        grown_other f =
            let x : Standing = new_block (class_of wanted) place f.payload in
            let after : Blocks = moved_on d i x k in
            let away : d.born ≡ k → ⊥ = λ e. let g = t.has.born in let l = there_below heap.blocks k b is_there in omega (arith, e, g, l) in
            let is : IsHeap own_data_at (at_class one_less b.class (at_class one_more (class_of wanted) heap.classes)) (moved_on d i x k).stands other
            = subst (λ c. IsHeap own_data_at (at_class one_less c (at_class one_more (class_of wanted) heap.classes)) (moved_on d i x k).stands other)
            at.class f.heap in
            let stands : (moved_on d i x k).stands d.born ≡ Some x
            = cond-false (d.born == k) None ((with_born d i x).stands d.born) (ne_eqb d.born k away) ∙ stands_new x in
            let ahead : AreLater d (moved_on d i x k)
            = later_more d (with_born d i x) (moved_on d i x k) (later_born d i x) (later_gone (with_born d i x) k) in
            let there : IsThere other x
            = t.there_after (record heap { classes = at_class one_less b.class (at_class one_more (class_of wanted) heap.classes) })
            (moved_on d i x k).stands is
            d.born x stands in
            record {
              after = moved_on d i x k;
              ahead = ahead;
              has = heap_moved_on StandsFixed d heap m other t i x (class_of wanted) contents refl refl refl k b is_there is
                  (holds (moved_on d i x k) ahead x there f.front f.room);
              standing = x;
              stands = stands;
              at = refl;
              room = f.room;
              is_place = is_new (moved_on d i x k) (inside_new x) (omega arith) x refl stands;
            }

        -- or its own is large enough
        pub grown_within : d.inside k ≡ i → k < d.born → IsFilled true own_data_at (growing_in d heap (Some present) kept wanted) front other place
            → Grown d (with_contents heap k contents) other s k place wanted
        grown_within inside born f =
            let x : Standing = record at.standing { payload = f.payload } in
            let stands : (with_filled d k x).stands k ≡ Some x = cond-true (k == k) (Some x) (d.stands k) (eq-eqb k k refl) in
            let ahead : AreLater d (with_filled d k x) = later_filled StandsFixed d heap m other t k b is_there x at refl refl refl refl contents in
            let there : IsThere other x = t.there_after heap (with_filled d k x).stands f.heap k x stands in
            record {
              after = with_filled d k x;
              ahead = ahead;
              has = heap_filled StandsFixed d heap m other t k b is_there x at refl refl refl refl contents f.heap
                  (subst (λ j. HasContents StandsFixed (with_filled d k x) other x j contents) (sym inside)
                  (holds (with_filled d k x) ahead x there f.front f.room));
              standing = x;
              stands = stands;
              at = f.there;
              room = f.room;
              is_place = (
                born,
                subst (Holds_for s) (sym inside) is_for,
                λ y e. sym f.there ∙ ap (place_in place) (sym stands ∙ e),
              );
            }
