-- What changes of blocks there are: none, where memory changes elsewhere; one is born; one is given back; one gets other contents; and one is born, and
-- then another one given back.
use Rattle.std.proofs.Common.{◌≡◌, ◌⊎◌, inl, inr, ℕ, suc, ◌+◌, ◌<◌, List, [], ◌∷◌, ◌++◌, length, Option, Some, None}
use Rattle.std.proofs.Common.{refl, sym, ap, subst, ◌∙◌, arith}
use Rattle.std.specs.Prelude.{slice_get, slice_set, ◌==◌}
use Rattle.std.proofs.lemmas.Bool.{cond-false, cond-true, eq-eqb, ne_eqb, cases_eq, cases_order}
use Rattle.nim_meaning.specs.Heap.{Contents, Block, Heap, flat, block_at, given, without, taken, refilled, with_contents, at_class, one_less, one_more}
use Rattle.word_code.specs.Memory.{Memory, own_data_at}
use Rattle.heap_memory.specs.declared.numbers.TheConstants.{CONTENTS_KIND}
use Rattle.heap_memory.specs.HeapState.{Standing, IsHeap, with_block}
use Rattle.word_lowering.proofs.Blocks.{Inside, Blocks, AreLater, HasContents, IsBlockThere, IfBlockThere, HasHeap}
use Rattle.word_lowering.proofs.BlocksBorn.{with_born, with_gone, later_born, later_gone, later_same, later_more}
use Rattle.word_lowering.proofs.BlockLists.{get_before, get_here, get_past, get_beyond, length_more, set_same, set_other, set_length, there_below}
use Rattle.word_lowering.proofs.HeapChanged.{TwoMemories, IsKnown, heap_changed}

-- a block is born, and another one given back
abbrev pub moved_on : Blocks → Inside → Standing → ℕ → Blocks
moved_on d i x k = with_gone (with_born d i x) k

abbrev pub heap_on : Heap → (class : ℕ) → Contents → ℕ → Heap
heap_on heap class contents k = given (taken heap class contents) k

-- a block has another payload
abbrev pub with_filled : Blocks → ℕ → Standing → Blocks
with_filled d k x = record d { stands = with_block d.stands k x }

module _ (StandsFixed : (place : ℕ) → List ℕ → Type 0) (d : Blocks) (heap : Heap) (m other : Memory) (t : TwoMemories StandsFixed d heap m other) where
  abbrev If_there : Blocks → ℕ → Option Block → Type 0
  If_there after k o = IfBlockThere StandsFixed after other k o

  pub heap_still : IsHeap own_data_at heap.classes d.stands other → HasHeap StandsFixed d heap other
  heap_still is =
      heap_changed StandsFixed d heap m other t d (later_same d) heap is refl t.has.born (λ k. inl (record { stands = refl; inside = refl; block = refl }))

  -- ---- a block is given back

  module _ (k : ℕ) (b : Block) (is_there : block_at heap k ≡ Some b) where
    pub heap_gone : IsHeap own_data_at (at_class one_less b.class heap.classes) (with_gone d k).stands other
        → HasHeap StandsFixed (with_gone d k) (given heap k) other
    heap_gone is =
        subst (λ g. HasHeap StandsFixed (with_gone d k) g other) (sym (ap (without heap k) is_there))
        (heap_changed StandsFixed d heap m other t (with_gone d k) (later_gone d k) (without heap k (Some b)) is refl
        (t.has.born ∙ sym (set_length heap.blocks k None)) (λ j. by j (cases_eq j k)))
      where
        by : (j : ℕ) → (j ≡ k) ⊎ (j ≡ k → ⊥) → IsKnown StandsFixed d heap m other t (with_gone d k) (without heap k (Some b)) j
        by j (inl e) =
            inr (subst (λ n. If_there (with_gone d k) n (flat (slice_get (slice_set heap.blocks k None) n))) (sym e)
            (subst (λ o. If_there (with_gone d k) k (flat o)) (sym (set_same heap.blocks k None (there_below heap.blocks k b is_there)))
            (cond-true (k == k) None (d.stands k) (eq-eqb k k refl))))
        by j (inr ne) =
            inl (record {
              stands = cond-false (j == k) None (d.stands j) (ne_eqb j k ne);
              inside = refl;
              block = ap flat (set_other heap.blocks k j None ne);
            })

    -- ---- it gets other contents

    module _ (x : Standing) (at : IsBlockThere StandsFixed d m k b) (place : x.place ≡ at.standing.place) (class : x.class ≡ at.standing.class)
        (kind : x.kind ≡ at.standing.kind) (word : x.word ≡ at.standing.word) (contents : Contents) where
      pub later_filled : AreLater d (with_filled d k x)
      later_filled = record { born = omega arith; inside = λ j less. refl; places = λ j y less e. by j y e (cases_eq j k) }
        where
          place_of : Option Standing → ℕ
          place_of None = x.place
          place_of (Some z) = z.place

          by : (j : ℕ) (y : Standing) → with_block d.stands k x j ≡ Some y → (j ≡ k) ⊎ (j ≡ k → ⊥)
              → (z : Standing) × (d.stands j ≡ Some z) × (z.place ≡ y.place)
          by j y e (inl same) =
              let is : Some x ≡ Some y = sym (cond-true (j == k) (Some x) (d.stands j) (eq-eqb j k same)) ∙ e in
              (at.standing, ap d.stands same ∙ at.stands, sym place ∙ ap place_of is)
          by j y e (inr ne) = (y, sym (cond-false (j == k) (Some x) (d.stands j) (ne_eqb j k ne)) ∙ e, refl)

      abbrev new : Option Block
      new = refilled (block_at heap k) contents

      pub heap_filled : IsHeap own_data_at heap.classes (with_filled d k x).stands other
          → HasContents StandsFixed (with_filled d k x) other x (d.inside k) contents
          → HasHeap StandsFixed (with_filled d k x) (with_contents heap k contents) other
      heap_filled is holds =
          heap_changed StandsFixed d heap m other t (with_filled d k x) later_filled (with_contents heap k contents) is refl
          (t.has.born ∙ sym (set_length heap.blocks k new)) (λ j. by j (cases_eq j k))
        where
          here : If_there (with_filled d k x) k new
          here = subst (λ o. If_there (with_filled d k x) k (refilled o contents)) (sym is_there) (record {
            standing = x;
            stands = cond-true (k == k) (Some x) (d.stands k) (eq-eqb k k refl);
            class = class ∙ at.class;
            kind = kind ∙ at.kind;
            word = word ∙ at.word;
            holds = holds;
          })

          by : (j : ℕ) → (j ≡ k) ⊎ (j ≡ k → ⊥) → IsKnown StandsFixed d heap m other t (with_filled d k x) (with_contents heap k contents) j
          by j (inl e) =
              inr (subst (λ n. If_there (with_filled d k x) n (flat (slice_get (slice_set heap.blocks k new) n))) (sym e)
              (subst (λ o. If_there (with_filled d k x) k (flat o)) (sym (set_same heap.blocks k new (there_below heap.blocks k b is_there))) here))
          by j (inr ne) =
              inl (record {
                stands = cond-false (j == k) (Some x) (d.stands j) (ne_eqb j k ne);
                inside = refl;
                block = ap flat (set_other heap.blocks k j new ne);
              })

  -- ---- a block is born

  module _ (i : Inside) (x : Standing) (class : ℕ) (contents : Contents) (is_class : x.class ≡ class) (kind : x.kind ≡ CONTENTS_KIND) (word : x.word ≡ 0) where
    abbrev one : Option Block
    one = Some (record { class = class; contents = contents })

    abbrev more : List (Option Block)
    more = heap.blocks ++ one ∷ []

    -- whatever else was done
    newest : (after : Blocks) (j : ℕ) → after.stands j ≡ Some x → after.inside j ≡ i → HasContents StandsFixed after other x i contents → If_there after j one
    newest after j stands inside holds = record {
      standing = x;
      stands = stands;
      class = is_class;
      kind = kind;
      word = word;
      holds = subst (λ z. HasContents StandsFixed after other x z contents) (sym inside) holds;
    }

    abbrev born : Blocks
    born = with_born d i x

    stands_new : (j : ℕ) → j ≡ d.born → born.stands j ≡ Some x
    stands_new j e = cond-true (j == d.born) (Some x) (d.stands j) (eq-eqb j d.born e)

    inside_new : (j : ℕ) → j ≡ d.born → born.inside j ≡ i
    inside_new j e = cond-true (j == d.born) i (d.inside j) (eq-eqb j d.born e)

    stands_old : (j : ℕ) → (j ≡ d.born → ⊥) → born.stands j ≡ d.stands j
    stands_old j ne = cond-false (j == d.born) (Some x) (d.stands j) (ne_eqb j d.born ne)

    inside_old : (j : ℕ) → (j ≡ d.born → ⊥) → born.inside j ≡ d.inside j
    inside_old j ne = cond-false (j == d.born) i (d.inside j) (ne_eqb j d.born ne)

    -- where an identity stands among the blocks
    data Where : ℕ → Type 0 where
      is_new : {j : ℕ} → j ≡ d.born → slice_get more j ≡ Some one → Where j
      is_old : {j : ℕ} → (j ≡ d.born → ⊥) → flat (slice_get more j) ≡ block_at heap j → Where j

    place_of : (j : ℕ) → Where j
    place_of j = by (cases_order j (length heap.blocks))
      where
        by : (j ≡ length heap.blocks) ⊎ ((j < length heap.blocks) ⊎ (length heap.blocks < j)) → Where j
        by (inl e) = is_new (e ∙ sym t.has.born) (subst (λ n. slice_get more n ≡ Some one) (sym e) (get_here heap.blocks one))
        by (inr (inl less)) = is_old (λ e. let f = t.has.born in omega (arith, e, f, less)) (ap flat (get_before heap.blocks one j less))
        by (inr (inr past)) =
            is_old (λ e. let f = t.has.born in omega (arith, e, f, past))
            (ap flat (get_beyond heap.blocks one j past ∙ sym (get_past heap.blocks j (omega (arith, past)))))

    pub heap_born : IsHeap own_data_at (at_class one_more class heap.classes) born.stands other → HasContents StandsFixed born other x i contents
        → HasHeap StandsFixed born (taken heap class contents) other
    heap_born is holds =
        heap_changed StandsFixed d heap m other t born (later_born d i x) (taken heap class contents) is refl
        (ap suc t.has.born ∙ sym (length_more heap.blocks one)) (λ j. by j (place_of j))
      where
        by : (j : ℕ) → Where j → IsKnown StandsFixed d heap m other t born (taken heap class contents) j
        by j (is_new e at) = inr (subst (λ o. If_there born j (flat o)) (sym at) (newest born j (stands_new j e) (inside_new j e) holds))
        by j (is_old ne at) = inl (record { stands = stands_old j ne; inside = inside_old j ne; block = at })

    -- and then another one is given back
    module _ (k : ℕ) (b : Block) (is_there : block_at heap k ≡ Some b) where
      abbrev after : Blocks
      after = moved_on d i x k

      abbrev all : Heap
      all = without (taken heap class contents) k (Some b)

      below : k < length heap.blocks
      below = there_below heap.blocks k b is_there

      old_there : block_at (taken heap class contents) k ≡ Some b
      old_there = ap flat (get_before heap.blocks one k below) ∙ is_there

      pub heap_moved_on : IsHeap own_data_at (at_class one_less b.class (at_class one_more class heap.classes)) after.stands other
          → HasContents StandsFixed after other x i contents → HasHeap StandsFixed after (heap_on heap class contents k) other
      heap_moved_on is holds =
          subst (λ g. HasHeap StandsFixed after g other) (sym (ap (without (taken heap class contents) k) old_there))
          (heap_changed StandsFixed d heap m other t after (later_more d born after (later_born d i x) (later_gone born k)) all is refl
          (ap suc t.has.born ∙ sym (length_more heap.blocks one) ∙ sym (set_length more k None)) (λ j. by j (cases_eq j k) (place_of j)))
        where
          away : (j : ℕ) → (j ≡ k → ⊥) → after.stands j ≡ born.stands j
          away j ne = cond-false (j == k) None (born.stands j) (ne_eqb j k ne)

          by : (j : ℕ) → (j ≡ k) ⊎ (j ≡ k → ⊥) → Where j → IsKnown StandsFixed d heap m other t after all j
          by j (inl e) at =
              let l = length_more heap.blocks one in let f = below in
              inr (subst (λ n. If_there after n (flat (slice_get all.blocks n))) (sym e)
              (subst (λ o. If_there after k (flat o)) (sym (set_same more k None (omega (arith, l, f))))
              (cond-true (k == k) None (born.stands k) (eq-eqb k k refl))))
          by j (inr ne) (is_new e at) =
              inr (subst (λ o. If_there after j (flat o)) (sym (set_other more k j None ne ∙ at))
              (newest after j (away j ne ∙ stands_new j e) (inside_new j e) holds))
          by j (inr ne) (is_old new at) =
              inl (record {
                stands = away j ne ∙ stands_old j new;
                inside = inside_old j new;
                block = ap flat (set_other more k j None ne) ∙ at;
              })
