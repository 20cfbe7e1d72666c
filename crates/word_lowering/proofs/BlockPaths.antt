-- What is at locations in blocks: an element of a sequence, or a part of one; or a character of a text.
use Rattle.std.proofs.Common.{◌≡◌, ℕ, ◌+◌, ◌*◌, ◌<◌, ◌≤◌, List, [], ◌∷◌, length, Some, refl, sym, ap, subst, ◌∙◌, arith}
use Rattle.nim_meaning.specs.Values.{Value, Parts, Values, count, nth, with_nth, part, put_part}
use Rattle.nim_meaning.specs.Heap.{Contents, Characters, Elements, Object, Block, Heap, block_at}
use Rattle.nim_meaning.specs.State.{contents_value}
use Rattle.flat_code.specs.Shapes.{Shape, row}
use Rattle.word_code.specs.Memory.{Memory}
use Rattle.word_code.specs.RoutineTable.{IsRewritten}
use Rattle.heap_memory.specs.HeapState.{Standing}
use Rattle.word_lowering.proofs.ShapeFacts.{letter, shape_bytes}
use Rattle.word_lowering.proofs.ShapePaths.{PathTo}
use Rattle.word_lowering.proofs.Blocks.{Bytes, Each, Blocks, AreLater, Stored, AreStored, HasContents, IsBlockThere, IfBlockThere, HasHeap}
use Rattle.word_lowering.proofs.StoredParts.{path_part, path_put, Spares}
use Rattle.word_lowering.proofs.CarriedBeside.{rewritten_spares}

-- The element of a sequence in a block to which a location leads, or a part of it. Its address is known while the block stands.
pub record LeadsInBlock (d : Blocks) (k : ℕ) (path : List ℕ) (a : ℕ) (t : Shape) : Type 0 where
  pub element : ℕ
  pub rest : List ℕ
  pub of : Shape
  pub offset : ℕ
  pub is : path ≡ element ∷ rest
  pub born : k < d.born
  pub inside : d.inside k ≡ Each of
  pub way : PathTo of rest offset t
  pub address : (x : Standing) → d.stands k ≡ Some x → a ≡ x.place + (element * shape_bytes of + offset)

-- later it leads there still, if anywhere
pub leads_later : (d after : Blocks) → AreLater d after → (k : ℕ) (path : List ℕ) (a : ℕ) (t : Shape) → LeadsInBlock d k path a t
    → LeadsInBlock after k path a t
leads_later d after ahead k path a t l = record {
  element = l.element;
  rest = l.rest;
  of = l.of;
  offset = l.offset;
  is = l.is;
  born = let b = l.born in let c = ahead.born in omega (arith, b, c);
  inside = ahead.inside k l.born ∙ l.inside;
  way = l.way;
  address = λ x e. let y = ahead.places k x l.born e in l.address y.0 y.1 ∙ ap (λ p. p + (l.element * shape_bytes l.of + l.offset)) y.2;
}

-- The character of a text in a block to which a location leads: one byte.
pub record LeadsInText (d : Blocks) (k : ℕ) (path : List ℕ) (a : ℕ) (t : Shape) : Type 0 where
  pub position : ℕ
  pub is : path ≡ position ∷ []
  pub born : k < d.born
  pub inside : d.inside k ≡ Bytes
  pub shape : t ≡ letter
  pub address : (x : Standing) → d.stands k ≡ Some x → a ≡ x.place + position

pub text_later : (d after : Blocks) → AreLater d after → (k : ℕ) (path : List ℕ) (a : ℕ) (t : Shape) → LeadsInText d k path a t
    → LeadsInText after k path a t
text_later d after ahead k path a t l = record {
  position = l.position;
  is = l.is;
  born = let b = l.born in let c = ahead.born in omega (arith, b, c);
  inside = ahead.inside k l.born ∙ l.inside;
  shape = l.shape;
  address = λ x e. let y = ahead.places k x l.born e in l.address y.0 y.1 ∙ ap (λ p. p + l.position) y.2;
}

module _ (StandsFixed : (place : ℕ) → List ℕ → Type 0) where
  -- what a block has that holds elements
  pub record HasElements (d : Blocks) (m : Memory) (x : Standing) (s : Shape) (c : Contents) : Type 0 where
    pub all : Values
    pub is : c ≡ Elements all
    pub stored : AreStored StandsFixed d m x.place s all
    pub fits : count all * shape_bytes s ≤ length x.payload

  pub elements_in : (d : Blocks) (m : Memory) (x : Standing) (s : Shape) (c : Contents) → HasContents StandsFixed d m x (Each s) c → HasElements d m x s c
  elements_in d m x s (Elements vs) h = record { all = vs; is = refl; stored = h.0; fits = h.1 }
  elements_in d m x s (Characters text) h = absurd h
  elements_in d m x s (Object of v) h = absurd h

  module _ (d : Blocks) (heap : Heap) (m : Memory) (h : HasHeap StandsFixed d heap m) (k : ℕ) (b : Block) (there : block_at heap k ≡ Some b)
      (path : List ℕ) (a : ℕ) (t : Shape) (l : LeadsInBlock d k path a t) where
    pub block_here : IsBlockThere StandsFixed d m k b
    block_here = subst (λ o. IfBlockThere StandsFixed d m k o) there (h.blocks k)

    pub elements_here : HasElements d m block_here.standing l.of b.contents
    elements_here = elements_in d m block_here.standing l.of b.contents
        (subst (λ i. HasContents StandsFixed d m block_here.standing i b.contents) l.inside block_here.holds)

    abbrev all_of : Shape
    all_of = row (count elements_here.all) l.of

    pub at_place : a ≡ block_here.standing.place + (l.element * shape_bytes l.of + l.offset)
    at_place = l.address block_here.standing block_here.stands

    module _ (element_in : l.element < count elements_here.all) where
      way_there : PathTo all_of (l.element ∷ l.rest) (l.element * shape_bytes l.of + l.offset) t
      way_there = (l.of, l.element * shape_bytes l.of, l.offset, (element_in, refl, refl), l.way, refl)

      -- what a location reads
      pub read_in_block : Stored StandsFixed d m a t (part (contents_value (block_at heap k)) path)
      read_in_block =
          subst (λ o. Stored StandsFixed d m a t (part (contents_value o) path)) (sym there)
          (subst (λ p. Stored StandsFixed d m a t (part (contents_value (Some b)) p)) (sym l.is)
          (subst (λ c. Stored StandsFixed d m a t (part (contents_value (Some (record b { contents = c }))) (l.element ∷ l.rest))) (sym elements_here.is)
          (subst (λ n. Stored StandsFixed d m n t (part (Parts elements_here.all) (l.element ∷ l.rest))) (sym at_place)
          (path_part StandsFixed d m block_here.standing.place all_of (Parts elements_here.all) (l.element ∷ l.rest)
          (l.element * shape_bytes l.of + l.offset) t way_there (refl, elements_here.stored)))))

      -- and where another value is put there
      pub put_in_block : (after : Blocks) → AreLater d after → (other : Memory) (new : Value) → IsRewritten m other a (shape_bytes t)
          → Stored StandsFixed after other a t new
          → AreStored StandsFixed after other block_here.standing.place l.of
          (with_nth elements_here.all l.element (put_part (nth elements_here.all l.element) l.rest new))
      put_in_block after ahead other new written stored =
          (path_put StandsFixed d after ahead m other block_here.standing.place all_of (Parts elements_here.all) (l.element ∷ l.rest)
          (l.element * shape_bytes l.of + l.offset) t new way_there (refl, elements_here.stored)
          (subst (λ n. Spares StandsFixed d after ahead m other block_here.standing.place (shape_bytes all_of) n (shape_bytes t)) at_place
          (rewritten_spares m other a (shape_bytes t) block_here.standing.place (shape_bytes all_of) written))
          (subst (λ n. Stored StandsFixed after other n t new) at_place stored)).1
