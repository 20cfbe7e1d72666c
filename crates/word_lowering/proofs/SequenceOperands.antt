-- A sequence that a routine is given by the address of its handle, and what becomes of its elements.
use Rattle.std.proofs.Common.{◌≡◌, ℕ, zero, suc, ◌+◌, ◌-◌, ◌*◌, ◌<◌, ◌≤◌, List, length, Option, Some, None, true}
use Rattle.std.proofs.Common.{false, refl, sym, ap, subst, ◌∙◌, arith}
use Rattle.std.specs.Prelude.{slice_get}
use Rattle.std.proofs.lemmas.Bool.{eqb-true, true≢false}
use Rattle.nim_meaning.specs.Values.{Value, Handle, Values, Nil, More, count, joined, repeated, first_of}
use Rattle.nim_meaning.specs.Heap.{Contents, Characters, Elements, Object, Block, flat, block_at}
use Rattle.nim_meaning.specs.State.{World, is_so_in, has_as_many, is_whole}
use Rattle.flat_code.specs.Shapes.{Shape, elements}
use Rattle.word_code.specs.Memory.{Memory}
use Rattle.word_lowering.proofs.ShapeFacts.{shape_bytes}
use Rattle.word_lowering.proofs.Blocks.{Inside, Bytes, Each, Blocks, Holds_for, IsHandle, Stored, AreStored, HasContents, IsBlockThere, IfBlockThere, HasHeap}
use Rattle.word_lowering.proofs.TextOperands.{get_none}

module _ (StandsFixed : (place : ℕ) → List ℕ → Type 0) where
  -- the block of a handle that is there, and its elements
  pub record SequenceBlock (d : Blocks) (w : World) (m : Memory) (s : Shape) (n k : ℕ) : Type 0 where
    pub block : Block
    pub there : block_at w.heap k ≡ Some block
    pub is : IsBlockThere StandsFixed d m k block
    pub inside : d.inside k ≡ Each s
    pub all : Values
    pub contents : block.contents ≡ Elements all
    pub long : count all ≡ n

  module _ (d : Blocks) (w : World) (m : Memory) (has : HasHeap StandsFixed d w.heap m) (s : Shape) where
    pub sequence_block : (a n k : ℕ) → IsHandle d m a (elements s) n (Some k) → is_whole w (Handle n (Some k)) ≡ true → SequenceBlock d w m s n k
    sequence_block a n k h whole = by (slice_get w.heap.blocks k) refl
      where
        inside_is : d.inside k ≡ Each s
        inside_is = by (d.inside k) h.is.1
          where
            by : (i : Inside) → Holds_for (elements s) i → i ≡ Each s
            by Bytes is = absurd is
            by (Each t) is = ap Each is

        never : {A : Type 0} → false ≡ true → A
        never e = absurd (true≢false (sym e))

        contents_are : (b : Block) → IsBlockThere StandsFixed d m k b → has_as_many n b.contents ≡ true
            → (all : Values) × (b.contents ≡ Elements all) × (count all ≡ n)
        contents_are b at many =
            by b.contents refl (subst (λ i. HasContents StandsFixed d m at.standing i b.contents) inside_is at.holds)
          where
            by : (c : Contents) → b.contents ≡ c → HasContents StandsFixed d m at.standing (Each s) c
                → (all : Values) × (b.contents ≡ Elements all) × (count all ≡ n)
            by (Elements vs) e is = (vs, e, eqb-true (count vs) n (sym (ap (has_as_many n) e) ∙ many))
            by (Characters text) e is = absurd is
            by (Object of v) e is = absurd is

        by : (o : Option (Option Block)) → slice_get w.heap.blocks k ≡ o → SequenceBlock d w m s n k
        by None e = absurd (let b = has.born in let l = h.is.0 in let p = get_none w.heap.blocks k e in omega (arith, b, l, p))
        by (Some None) e = never (sym (ap (is_so_in (has_as_many n)) e) ∙ whole)
        by (Some (Some b)) e =
            let there : block_at w.heap k ≡ Some b = ap flat e in
            let at : IsBlockThere StandsFixed d m k b = subst (λ o. IfBlockThere StandsFixed d m k o) there (has.blocks k) in
            let c = contents_are b at (sym (ap (is_so_in (has_as_many n)) e) ∙ whole) in
            record { block = b; there = there; is = at; inside = inside_is; all = c.0; contents = c.1; long = c.2 }

    -- its elements stand in its payload
    pub elements_there : (n k : ℕ) (t : SequenceBlock d w m s n k)
        → AreStored StandsFixed d m t.is.standing.place s t.all × (n * shape_bytes s ≤ length t.is.standing.payload)
    elements_there n k t =
        let x : HasContents StandsFixed d m t.is.standing (Each s) (Elements t.all)
        = subst (λ c. HasContents StandsFixed d m t.is.standing (Each s) c) t.contents
        (subst (λ i. HasContents StandsFixed d m t.is.standing i t.block.contents) t.inside t.is.holds) in
        (x.0, subst (λ i. i * shape_bytes s ≤ length t.is.standing.payload) t.long x.1)

  -- ---- lists of elements

  module _ (d : Blocks) (m : Memory) (s : Shape) where
    -- one list behind another
    pub joined_stored : (a : ℕ) (vs ws : Values) → AreStored StandsFixed d m a s vs → AreStored StandsFixed d m (a + count vs * shape_bytes s) s ws
        → AreStored StandsFixed d m a s (joined vs ws)
    joined_stored a Nil ws vs_there there =
        let e : a + 0 * shape_bytes s ≡ a = omega arith in subst (λ b. AreStored StandsFixed d m b s ws) e there
    joined_stored a (More v vs) ws vs_there there =
        let e : a + suc (count vs) * shape_bytes s ≡ a + shape_bytes s + count vs * shape_bytes s = omega arith in (
          vs_there.0,
          joined_stored (a + shape_bytes s) vs ws vs_there.1 (subst (λ b. AreStored StandsFixed d m b s ws) e there),
        )

    -- the first of them
    pub first_stored : (n : ℕ) (a : ℕ) (vs : Values) → AreStored StandsFixed d m a s vs → AreStored StandsFixed d m a s (first_of n vs)
    first_stored zero a vs there = tt
    first_stored (suc n) a Nil there = tt
    first_stored (suc n) a (More v vs) there = (there.0, first_stored n (a + shape_bytes s) vs there.1)

    -- so many of the same
    pub repeated_stored : (n : ℕ) (a : ℕ) (v : Value) → ((i : ℕ) → i < n → Stored StandsFixed d m (a + i * shape_bytes s) s v)
        → AreStored StandsFixed d m a s (repeated n v)
    repeated_stored zero a v there = tt
    repeated_stored (suc n) a v there =
        let e : a + 0 * shape_bytes s ≡ a = omega arith in (
          subst (λ b. Stored StandsFixed d m b s v) e (there 0 (omega arith)),
          repeated_stored n (a + shape_bytes s) v (λ i less.
              let f : a + suc i * shape_bytes s ≡ a + shape_bytes s + i * shape_bytes s = omega arith in
              subst (λ b. Stored StandsFixed d m b s v) f (there (suc i) (omega (arith, less)))),
        )

pub count_first : (n : ℕ) (vs : Values) → n ≤ count vs → count (first_of n vs) ≡ n
count_first zero vs few = refl
count_first (suc n) Nil few = absurd (omega (arith, few))
count_first (suc n) (More v vs) few = ap suc (count_first n vs (omega (arith, few)))

pub count_joined : (vs ws : Values) → count (joined vs ws) ≡ count vs + count ws
count_joined Nil ws = omega arith
count_joined (More v vs) ws = let h = count_joined vs ws in omega (arith, h)

pub count_repeated : (n : ℕ) (v : Value) → count (repeated n v) ≡ n
count_repeated zero v = refl
count_repeated (suc n) v = ap suc (count_repeated n v)
