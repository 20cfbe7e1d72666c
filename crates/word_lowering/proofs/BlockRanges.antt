-- Where parts of elements in blocks stand: in the heap, apart from one another.
use Rattle.std.proofs.Common.{◌≡◌, ◌≢◌, ◌⊎◌, inl, inr, ℕ, suc, ◌+◌, ◌*◌, ◌%◌, ◌<◌, ◌≤◌, List, ◌∷◌, length, Some, true, refl, sym, ap, subst, ◌∙◌}
use Rattle.std.proofs.Common.{arith}
use Rattle.std.proofs.Common.{mul-le-mul, le_refl}
use Rattle.rv32_isa.specs.Image.{heap_at}
use Rattle.nim_meaning.specs.Values.{Location, count}
use Rattle.nim_meaning.specs.State.{World, is_there}
use Rattle.flat_code.specs.Shapes.{Shape, row}
use Rattle.word_code.specs.Memory.{Memory, own_data_at}
use Rattle.heap_memory.specs.HeapState.{Standing}
use Rattle.heap_memory.specs.HeapUse.{IsThere, AreDistant}
use Rattle.heap_memory.proofs.ForCallers.{distant, is_there as block_is_there}
use Rattle.word_lowering.proofs.BlockHomes.{Home, SameOrApart as HomesApart, HomesHold, FromBlock, block_seen, element_there}
use Rattle.word_lowering.proofs.BlockPaths.{block_here, elements_here, at_place}
use Rattle.word_lowering.proofs.Blocks.{Each, Blocks}
use Rattle.word_lowering.proofs.Keeping.{number_cases}
use Rattle.word_lowering.proofs.Options.{some_same}
use Rattle.word_lowering.proofs.ShapeFacts.{shape_bytes}
use Rattle.word_lowering.proofs.ShapePaths.{PathTo, path_within}
use Rattle.word_lowering.proofs.ShapesApart.{SameOrApart, paths_apart}
use Rattle.word_lowering.proofs.StoredLater.{shape_whole, times_whole}
use Rattle.word_lowering.proofs.StoredParts.{path_whole}

same_each : (s t : Shape) → Each s ≡ Each t → s ≡ t
same_each s t e = cc

module _ (StandsFixed : (place : ℕ) → List ℕ → Type 0) (Homes : Home → Type 0) (apart : (g h : Home) → Homes g → Homes h → HomesApart g h) (d : Blocks)
    (w : World) (m : Memory) (x : HomesHold StandsFixed Homes apart d w m) where
  abbrev InBlocks : Location → (a : ℕ) → Shape → Type 0
  InBlocks l a t = FromBlock StandsFixed Homes apart d l a t

  -- so many bytes in a block that stands
  pub record PartInBlock (k a n : ℕ) : Type 0 where
    pub standing : Standing
    pub stands : d.stands k ≡ Some standing
    pub behind : ℕ
    pub is : a ≡ standing.place + behind
    pub fits : behind + n ≤ length standing.payload
    pub there : IsThere m standing

  module _ (l : Location) (a : ℕ) (t : Shape) (f : InBlocks l a t) (live : is_there w l ≡ true) where
    pub part_in : PartInBlock f.block a (shape_bytes t)
    part_in =
        let seen = block_seen StandsFixed Homes apart d w m x l a t f live in
        let here = block_here StandsFixed d w.heap m x.heap f.block seen.read.block seen.read.there l.path a t f.leads in
        let all = elements_here StandsFixed d w.heap m x.heap f.block seen.read.block seen.read.there l.path a t f.leads in
        let among = element_there StandsFixed Homes apart d w m x l a t f live in
        let way = path_within f.leads.of f.leads.rest f.leads.offset t f.leads.way in
        let more : (1 + f.leads.element) * shape_bytes f.leads.of ≤ count all.all * shape_bytes f.leads.of
        = mul-le-mul (let e = among in omega (arith, e)) (le_refl (shape_bytes f.leads.of)) in
        let fits = all.fits in
        record {
          standing = here.standing;
          stands = here.stands;
          behind = f.leads.element * shape_bytes f.leads.of + f.leads.offset;
          is = at_place StandsFixed d w.heap m x.heap f.block seen.read.block seen.read.there l.path a t f.leads;
          fits = omega (arith, way, more, fits);
          there = block_is_there own_data_at w.heap.classes d.stands m x.heap.kept f.block here.standing here.stands x.sized;
        }

    pub block_range : (heap_at ≤ a) × (a + shape_bytes t ≤ heap_at + length m.heap)
    block_range =
        let p = part_in in
        let low = p.there.low in
        let high = p.there.high in
        let is = p.is in
        let fits = p.fits in
        (omega (arith, is, low), omega (arith, is, fits, high))

    pub block_whole : a % 4 ≡ 0
    block_whole =
        let p = part_in in
        let is = f.leads.address p.standing p.stands in
        let aligned = p.there.aligned in
        let times = times_whole f.leads.element (shape_bytes f.leads.of) (shape_whole f.leads.of) in
        let rest = path_whole f.leads.of f.leads.rest f.leads.offset t f.leads.way in
        omega (arith, is, aligned, times, rest)

  -- two parts of one shape
  pub blocks_apart : (l k : Location) (a b : ℕ) (t : Shape) → InBlocks l a t → InBlocks k b t → is_there w l ≡ true → is_there w k ≡ true
      → SameOrApart a b (shape_bytes t)
  blocks_apart l k a b t f h live live_too = by (number_cases f.block h.block)
    where
      p : PartInBlock f.block a (shape_bytes t)
      p = part_in l a t f live

      q : PartInBlock h.block b (shape_bytes t)
      q = part_in k b t h live_too

      far : AreDistant p.standing q.standing → SameOrApart a b (shape_bytes t)
      far (inl e) = let i = p.is in let j = q.is in let u = p.fits in let v = q.fits in inr (inl (omega (arith, e, i, j, u, v)))
      far (inr e) = let i = p.is in let j = q.is in let u = p.fits in let v = q.fits in inr (inr (omega (arith, e, i, j, u, v)))

      -- as elements of one row
      path_of : (of : Shape) (n e : ℕ) (rest : List ℕ) (o : ℕ) → e < n → PathTo of rest o t → PathTo (row n of) (e ∷ rest) (e * shape_bytes of + o) t
      path_of of n e rest o less way = (of, e * shape_bytes of, o, (less, refl, refl), way, refl)

      same : f.block ≡ h.block → SameOrApart a b (shape_bytes t)
      same e =
          let one : p.standing ≡ q.standing = some_same p.standing q.standing (sym p.stands ∙ ap d.stands e ∙ q.stands) in
          let of : h.leads.of ≡ f.leads.of = same_each h.leads.of f.leads.of (sym h.leads.inside ∙ ap d.inside (sym e) ∙ f.leads.inside) in
          let n : ℕ = suc (f.leads.element + h.leads.element) in
          let place : p.standing.place ≡ q.standing.place = ap (λ (s : Standing). s.place) one in
          at_one place (ap shape_bytes of) (paths_apart (row n f.leads.of) (f.leads.element ∷ f.leads.rest) (h.leads.element ∷ h.leads.rest)
          (f.leads.element * shape_bytes f.leads.of + f.leads.offset) (h.leads.element * shape_bytes f.leads.of + h.leads.offset) t
          (path_of f.leads.of n f.leads.element f.leads.rest f.leads.offset (omega arith) f.leads.way)
          (path_of f.leads.of n h.leads.element h.leads.rest h.leads.offset (omega arith)
          (subst (λ s. PathTo s h.leads.rest h.leads.offset t) of h.leads.way)))
        where
          at_one : p.standing.place ≡ q.standing.place → shape_bytes h.leads.of ≡ shape_bytes f.leads.of
              → SameOrApart (f.leads.element * shape_bytes f.leads.of + f.leads.offset) (h.leads.element * shape_bytes f.leads.of + h.leads.offset)
              (shape_bytes t) → SameOrApart a b (shape_bytes t)
          at_one place long =
              let i = f.leads.address p.standing p.stands in
              let j : b ≡ q.standing.place + (h.leads.element * shape_bytes f.leads.of + h.leads.offset)
              = subst (λ n. b ≡ q.standing.place + (h.leads.element * n + h.leads.offset)) long (h.leads.address q.standing q.stands) in
              by i j
            where
              by : a ≡ p.standing.place + (f.leads.element * shape_bytes f.leads.of + f.leads.offset)
                  → b ≡ q.standing.place + (h.leads.element * shape_bytes f.leads.of + h.leads.offset)
                  → SameOrApart (f.leads.element * shape_bytes f.leads.of + f.leads.offset) (h.leads.element * shape_bytes f.leads.of + h.leads.offset)
                  (shape_bytes t) → SameOrApart a b (shape_bytes t)
              by i j (inl z) = inl (omega (arith, i, j, z, place))
              by i j (inr (inl z)) = inr (inl (omega (arith, i, j, z, place)))
              by i j (inr (inr z)) = inr (inr (omega (arith, i, j, z, place)))

      by : (f.block ≡ h.block) ⊎ (f.block ≢ h.block) → SameOrApart a b (shape_bytes t)
      by (inl e) = same e
      by (inr ne) = far (distant own_data_at w.heap.classes d.stands m x.heap.kept f.block h.block p.standing q.standing p.stands q.stands ne)
