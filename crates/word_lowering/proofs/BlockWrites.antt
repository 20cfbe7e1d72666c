-- A value is put where a location leads: into a home, or into a block, as an element of a sequence or a part of one.
use Rattle.std.proofs.Common.{◌≡◌, inl, inr, ℕ, zero, suc, ◌+◌, ◌*◌, ◌<◌, ◌≤◌, List, ◌∷◌, length, true, mul-le-mul, le_refl}
use Rattle.std.proofs.Common.{refl, sym, ap, subst, ◌∙◌, arith}
use Rattle.nim_meaning.specs.Values.{Value, Values, Nil, More, count, nth, with_nth, put_part, Location}
use Rattle.nim_meaning.specs.Heap.{Block, Heap, with_contents, Elements}
use Rattle.nim_meaning.specs.State.{World, whole_at, stored, store, is_there, with_value_in, new_contents, contents_value, object_in}
use Rattle.flat_code.specs.Shapes.{Shape}
use Rattle.rv32_isa.specs.Image.{heap_at, statics_at}
use Rattle.word_code.specs.Memory.{Memory, own_data_at}
use Rattle.word_code.specs.RoutineTable.{Beside, IsRewritten}
use Rattle.word_code.proofs.ForCallers.{Sized}
use Rattle.heap_memory.specs.declared.numbers.TheConstants.{HEAP_DATA}
use Rattle.heap_memory.specs.HeapState.{Standing as BlockStanding}
use Rattle.heap_memory.specs.HeapUse.{IsThere, IsRefilled, IsElsewhere}
use Rattle.heap_memory.proofs.ForCallers.{is_there as block_is_there, refilled, still_heap}
use Rattle.word_lowering.proofs.HeapKept.{two_memories}
use Rattle.word_lowering.proofs.ShapeFacts.{shape_bytes}
use Rattle.word_lowering.proofs.ShapePaths.{path_within}
use Rattle.word_lowering.proofs.Blocks.{Blocks, AreLater, Stored, HasHeap, HasContents, IsBlockThere}
use Rattle.word_lowering.proofs.BlocksBorn.{later_same}
use Rattle.word_lowering.proofs.StoredLater.{stored_kept}
use Rattle.word_lowering.proofs.BlockPaths.{HasElements, block_here, elements_here, at_place, put_in_block}
use Rattle.word_lowering.proofs.BaseValues.{IsOwn}
use Rattle.word_lowering.proofs.HeapsThen.{with_filled, later_filled, heap_filled, heap_still}
use Rattle.word_lowering.proofs.BlockHomes.{Home, home_bytes, SameOrApart, HomesHold, FromHome, FromBlock, LeadsTo, BlockSeen, block_seen, element_there}
use Rattle.word_lowering.proofs.BlockHomes.{IsChangedInside, elsewhere_by, put_in_home, with_heap_after}

count_with : (vs : Values) (i : ℕ) (new : Value) → count (with_nth vs i new) ≡ count vs
count_with Nil i new = refl
count_with (More v vs) zero new = refl
count_with (More v vs) (suc i) new = ap suc (count_with vs i new)

module _ (StandsFixed : (place : ℕ) → List ℕ → Type 0) where
  -- where a range is written in which nothing belongs to the heap
  pub heap_written : (d : Blocks) (heap : Heap) (m other : Memory) → Sized m → Sized other → HasHeap StandsFixed d heap m → (a n : ℕ) → IsRewritten m other a n
      → IsElsewhere own_data_at m a n → HasHeap StandsFixed d heap other
  heap_written d heap m other sized sized_after has a n written elsewhere =
      heap_still StandsFixed d heap m other (two_memories StandsFixed d heap m other sized sized_after has written.sizes.heap)
      (still_heap own_data_at heap.classes d.stands m has.kept sized other sized_after a n written elsewhere)

  module _ (Homes : Home → Type 0) (apart : (g h : Home) → Homes g → Homes h → SameOrApart g h) (d : Blocks) (w : World) (m : Memory)
      (x : HomesHold StandsFixed Homes apart d w m) where
    -- what is true behind a write
    pub record Put (l : Location) (new : Value) (other : Memory) : Type 0 where
      pub after : Blocks
      pub ahead : AreLater d after
      pub holds : HomesHold StandsFixed Homes apart after (store w l new) other

    module _ (other : Memory) (sized : Sized other) (l : Location) (a : ℕ) (t : Shape) (new : Value)
        (written : IsRewritten m other a (shape_bytes t)) (there : Stored StandsFixed d other a t new) where
      -- ---- into a block

      module _ (f : FromBlock StandsFixed Homes apart d l a t) (live : is_there w l ≡ true) where
        abbrev seen : BlockSeen StandsFixed Homes apart d w m x l a t f
        seen = block_seen StandsFixed Homes apart d w m x l a t f live

        abbrev block : Block
        block = seen.read.block

        abbrev here : IsBlockThere StandsFixed d m f.block seen.read.block
        here = block_here StandsFixed d w.heap m x.heap f.block seen.read.block seen.read.there l.path a t f.leads

        abbrev all : HasElements StandsFixed d m here.standing f.leads.of block.contents
        all = elements_here StandsFixed d w.heap m x.heap f.block seen.read.block seen.read.there l.path a t f.leads

        abbrev behind : ℕ
        behind = f.leads.element * shape_bytes f.leads.of + f.leads.offset

        element_in : f.leads.element < count all.all
        element_in = element_there StandsFixed Homes apart d w m x l a t f live

        abbrev standing : BlockStanding
        standing = here.standing

        is_at : a ≡ standing.place + behind
        is_at = at_place StandsFixed d w.heap m x.heap f.block seen.read.block seen.read.there l.path a t f.leads

        within_payload : behind + shape_bytes t ≤ length standing.payload
        within_payload =
            let least = path_within f.leads.of f.leads.rest f.leads.offset t f.leads.way in
            let more : (1 + f.leads.element) * shape_bytes f.leads.of ≤ count all.all * shape_bytes f.leads.of
            = mul-le-mul (let l = element_in in omega (arith, l)) (le_refl (shape_bytes f.leads.of)) in
            let fits = all.fits in
            omega (arith, least, more, fits)

        is_refilled : IsRefilled own_data_at w.heap.classes d.stands f.block standing other
        is_refilled = refilled own_data_at w.heap.classes d.stands m x.heap.kept x.sized other sized f.block standing behind (shape_bytes t) here.stands
            within_payload (subst (λ n. IsRewritten m other n (shape_bytes t)) is_at written)

        abbrev new_standing : BlockStanding
        new_standing = record standing { payload = is_refilled.payload }

        abbrev after : Blocks
        after = with_filled d f.block new_standing

        ahead : AreLater d after
        ahead = later_filled StandsFixed d w.heap m other (two_memories StandsFixed d w.heap m other x.sized sized x.heap written.sizes.heap) f.block block
            seen.read.there
            new_standing here refl refl refl refl (Elements Nil)

        abbrev new_all : Values
        new_all = with_nth all.all f.leads.element (put_part (nth all.all f.leads.element) f.leads.rest new)

        holds_elements : HasContents StandsFixed after other new_standing (d.inside f.block) (Elements new_all)
        holds_elements = subst (λ i. HasContents StandsFixed after other new_standing i (Elements new_all)) (sym f.leads.inside) (
          put_in_block StandsFixed d w.heap m x.heap f.block seen.read.block seen.read.there l.path a t f.leads element_in after ahead other new written
              (stored_kept StandsFixed d after ahead other other a a t new (λ o v low whole reads. reads) there),
          (let c = ap (λ n. n * shape_bytes f.leads.of) (count_with all.all f.leads.element (put_part (nth all.all f.leads.element) f.leads.rest new)) in
              let long = is_refilled.long in let fits = all.fits in omega (arith, c, long, fits)),
        )

        heap_then : HasHeap StandsFixed after (with_contents w.heap f.block (Elements new_all)) other
        heap_then = heap_filled StandsFixed d w.heap m other (two_memories StandsFixed d w.heap m other x.sized sized x.heap written.sizes.heap) f.block block
            seen.read.there new_standing here refl refl refl refl (Elements new_all) is_refilled.heap holds_elements

        world_is : store w l new ≡ record w { heap = with_contents w.heap f.block (Elements new_all) }
        world_is =
            ap (λ b. stored w b (put_part (whole_at w b) l.path new)) f.base
            ∙ ap (λ o. record w { heap = with_value_in w.heap f.block o (put_part (contents_value o) l.path new) }) seen.read.there
            ∙ ap (λ p. record w { heap = with_contents w.heap f.block (new_contents block.contents (put_part (object_in block.contents) p new)) }) f.leads.is
            ∙ ap (λ c. record w { heap = with_contents w.heap f.block (new_contents c (put_part (object_in c) (f.leads.element ∷ f.leads.rest) new)) }) all.is

        beside : IsChangedInside m other
        beside = record { long = written.sizes.heap; beside = λ b n own heap. written.beside b n (narrow b n heap) }
          where
            narrow : (b n : ℕ) → Beside b n heap_at (length m.heap) → Beside b n a (shape_bytes t)
            narrow b n heap = by (block_is_there own_data_at w.heap.classes d.stands m x.heap.kept f.block standing here.stands x.sized) heap
              where
                by : IsThere m standing → Beside b n heap_at (length m.heap) → Beside b n a (shape_bytes t)
                by there (inl h) = let low = there.low in let e = is_at in inl (omega (arith, low, e, h))
                by there (inr h) = let high = there.high in let e = is_at in let in_it = within_payload in inr (omega (arith, high, e, in_it, h))

        put_into_block : Put l new other
        put_into_block = record {
          after = after;
          ahead = ahead;
          holds = subst (λ v. HomesHold StandsFixed Homes apart after v other) (sym world_is)
              (with_heap_after StandsFixed Homes apart d w m x after ahead other sized beside (with_contents w.heap f.block (Elements new_all)) heap_then);
        }

      -- ---- into a home

      part_elsewhere : (f : FromHome StandsFixed Homes apart l a t) → IsElsewhere own_data_at m a (shape_bytes t)
      part_elsewhere f =
          let e = (x.homes f.home f.among).elsewhere in
          elsewhere_by m a (shape_bytes t)
          (record { heap = narrow heap_at (length m.heap) e.heap; own = narrow own_data_at HEAP_DATA e.own; room = narrow statics_at 4 e.room })
        where
          narrow : (b n : ℕ) → Beside b n f.home.at (home_bytes f.home) → Beside b n a (shape_bytes t)
          narrow b n (inl h) = let e = f.address in inl (omega (arith, e, h))
          narrow b n (inr h) = let e = f.address in let i = path_within f.home.shape l.path f.offset t f.way in inr (omega (arith, e, i, h))

      put_into_home : FromHome StandsFixed Homes apart l a t → IsOwn l.base → Put l new other
      put_into_home f own = record {
        after = d;
        ahead = later_same d;
        holds = put_in_home StandsFixed Homes apart d w m x d (later_same d) other sized l a t f own new written there
            (heap_written d w.heap m other x.sized sized x.heap a (shape_bytes t) written (part_elsewhere f));
      }

      -- a location may be written that leads into a home of a value that somebody owns, or into a block
      abbrev pub MayPut : LeadsTo StandsFixed Homes apart d l a t → Type 0
      MayPut (inl f) = IsOwn l.base
      MayPut (inr f) = Unit {0}

      pub put_at : (f : LeadsTo StandsFixed Homes apart d l a t) → MayPut f → is_there w l ≡ true → Put l new other
      put_at (inl f) may live = put_into_home f may
      put_at (inr f) may live = put_into_block f live
