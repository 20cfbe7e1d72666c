-- Homes: where values stand that may have blocks. Memory holds what stands at each of them, and the heap of the meaning; homes lie apart from one another
-- and from the heap. A location has an address: in a home, or in a block.
use Rattle.std.proofs.Common.{◌≡◌, ◌⊎◌, inl, inr, ℕ, zero, suc, ◌+◌, ◌*◌, ◌<◌, ◌≤◌, List, [], ◌∷◌, length, true, Option, Some, None}
use Rattle.std.proofs.Common.{refl, sym, ap, subst, ◌∙◌, arith}
use Rattle.std.specs.Prelude.{slice_get}
use Rattle.std.proofs.lemmas.Bool.{ltb-true}
use Rattle.nim_meaning.specs.Values.{Value, Parts, Values, count, parts_of, part, put_part, Base, Location}
use Rattle.nim_meaning.specs.Values.{Standing, Waiting, InBlock, InHand, InException, Made}
use Rattle.nim_meaning.specs.Heap.{Block, Heap, flat, block_at}
use Rattle.nim_meaning.specs.State.{World, whole_at, load, stored, store, is_there, is_so_in, has_item, leads_from, contents_value, object_in}
use Rattle.flat_code.specs.Shapes.{Shape, block}
use Rattle.rv32_isa.specs.Image.{heap_at, statics_at}
use Rattle.word_code.specs.Memory.{Memory, bytes_at, own_data_at}
use Rattle.word_code.specs.RoutineTable.{Beside, IsRewritten}
use Rattle.word_code.proofs.ForCallers.{Sized}
use Rattle.heap_memory.specs.declared.numbers.TheConstants.{HEAP_DATA, HEAP_SCRATCH}
use Rattle.heap_memory.specs.HeapUse.{IsElsewhere}
use Rattle.word_lowering.proofs.InMemory.{Carries}
use Rattle.word_lowering.proofs.RoutineMemory.{same_word}
use Rattle.word_lowering.proofs.Options.{none_some}
use Rattle.word_lowering.proofs.ShapeFacts.{never, shape_bytes}
use Rattle.word_lowering.proofs.ShapePaths.{PathTo, path_within}
use Rattle.word_lowering.proofs.Blocks.{Blocks, AreLater, Stored, AreStored, HasHeap}
use Rattle.word_lowering.proofs.BlockPaths.{LeadsInBlock, read_in_block, block_here, elements_here}
use Rattle.word_lowering.proofs.CarriedBeside.{rewritten_carried, rewritten_spares}
use Rattle.word_lowering.proofs.StoredLater.{stored_kept}
use Rattle.word_lowering.proofs.StoredParts.{path_part, path_put, Spares}
use Rattle.word_lowering.proofs.BaseValues.{HoldsAt, IsOwn, Differ, in_frame, whole_held, held_here, held_away, heap_stays}

get_none : {A : Type 0} (xs : List A) (k : ℕ) → slice_get xs k ≡ None → length xs ≤ k
get_none [] k e = omega arith
get_none (x ∷ xs) zero e = absurd (none_some x (sym e))
get_none (x ∷ xs) (suc k) e = let h = get_none xs k e in omega (arith, h)

-- ---- what is of the heap

-- a range of which nothing is in the heap or among its data
pub record IsOutside (m : Memory) (a n : ℕ) : Type 0 where
  pub heap : Beside heap_at (length m.heap) a n
  pub own : Beside own_data_at HEAP_DATA a n
  pub room : Beside statics_at 4 a n

pub elsewhere_by : (m : Memory) (a n : ℕ) → IsOutside m a n → IsElsewhere own_data_at m a n
elsewhere_by m a n o = record { heap = o.heap; words = fewer o.own; room = o.room }
  where
    fewer : Beside own_data_at HEAP_DATA a n → Beside own_data_at HEAP_SCRATCH a n
    fewer (inl h) = inl (omega (arith, h))
    fewer (inr h) = inr h

-- memory changes in the heap and its data alone
pub record IsChangedInside (m other : Memory) : Type 0 where
  pub long : length other.heap ≡ length m.heap
  pub beside : (b n : ℕ) → Beside b n own_data_at HEAP_DATA → Beside b n heap_at (length m.heap) → bytes_at other b n ≡ bytes_at m b n

pub outside_then : (m other : Memory) (a n : ℕ) → length other.heap ≡ length m.heap → IsOutside m a n → IsOutside other a n
outside_then m other a n long o = record { heap = subst (λ k. Beside heap_at k a n) (sym long) o.heap; own = o.own; room = o.room }

pub inside_carried : (m other : Memory) (a n : ℕ) → IsChangedInside m other → IsOutside m a n → Carries m other a a n
inside_carried m other a n inside o at w within whole reads =
    same_word m other (a + at) (inside.beside (a + at) 4 (part own_data_at HEAP_DATA o.own) (part heap_at (length m.heap) o.heap)) ∙ reads
  where
    part : (b k : ℕ) → Beside b k a n → Beside (a + at) 4 b k
    part b k (inl h) = inr (omega (arith, h))
    part b k (inr h) = inl (omega (arith, h, within))

-- ---- homes

-- a base, with the address and the shape of what stands there
pub record Home : Type 0 where
  pub base : Base
  pub at : ℕ
  pub shape : Shape

abbrev pub home_bytes : Home → ℕ
home_bytes h = shape_bytes h.shape

pub record AreApart (g h : Home) : Type 0 where
  pub bases : Differ g.base h.base
  pub bases_turned : Differ h.base g.base
  pub ranges : Beside g.at (home_bytes g) h.at (home_bytes h)

abbrev pub SameOrApart : Home → Home → Type 0
SameOrApart g h = (g ≡ h) ⊎ AreApart g h

module _ (StandsFixed : (place : ℕ) → List ℕ → Type 0) where
  -- ---- homes

  -- a value stands at a home, beside the heap and its data
  pub record IsAtHome (d : Blocks) (w : World) (m : Memory) (h : Home) : Type 0 where
    pub value : Value
    pub holds : HoldsAt w h.base value
    pub stored : Stored StandsFixed d m h.at h.shape value
    pub elsewhere : IsOutside m h.at (home_bytes h)

  -- These are all homes, which lie apart.
  module _ (Homes : Home → Type 0) (apart : (g h : Home) → Homes g → Homes h → SameOrApart g h) where
    pub record HomesHold (d : Blocks) (w : World) (m : Memory) : Type 0 where
      pub sized : Sized m
      pub heap : HasHeap StandsFixed d w.heap m
      pub homes : (h : Home) → Homes h → IsAtHome d w m h

    -- ---- locations

    pub record FromHome (l : Location) (a : ℕ) (t : Shape) : Type 0 where
      pub home : Home
      pub among : Homes home
      pub base : l.base ≡ home.base
      pub offset : ℕ
      pub way : PathTo home.shape l.path offset t
      pub address : a ≡ home.at + offset

    pub record FromBlock (d : Blocks) (l : Location) (a : ℕ) (t : Shape) : Type 0 where
      pub block : ℕ
      pub base : l.base ≡ InBlock block
      pub leads : LeadsInBlock d block l.path a t

    -- a location has an address, where something of a shape stands
    abbrev pub LeadsTo : Blocks → Location → (a : ℕ) → Shape → Type 0
    LeadsTo d l a t = FromHome l a t ⊎ FromBlock d l a t

    module _ (d : Blocks) (w : World) (m : Memory) (x : HomesHold d w m) where
      -- ---- what is read

      home_whole : (l : Location) (a : ℕ) (t : Shape) (f : FromHome l a t) → whole_at w l.base ≡ (x.homes f.home f.among).value
      home_whole l a t f = let h = x.homes f.home f.among in ap (whole_at w) f.base ∙ whole_held w f.home.base h.value h.holds

      home_read : (l : Location) (a : ℕ) (t : Shape) (f : FromHome l a t) → Stored StandsFixed d m a t (load w l)
      home_read l a t f =
          let h = x.homes f.home f.among in
          let is = home_whole l a t f in
          subst (λ v. Stored StandsFixed d m a t (part v l.path)) (sym is)
          (subst (λ n. Stored StandsFixed d m n t (part h.value l.path)) (sym f.address)
          (path_part StandsFixed d m f.home.at f.home.shape h.value l.path f.offset t f.way h.stored))

      -- a block to which a location leads that is there
      pub record BlockRead (k : ℕ) (path : List ℕ) : Type 0 where
        pub block : Block
        pub there : block_at w.heap k ≡ Some block
        pub has : has_item path block.contents ≡ true

      pub block_read : (k : ℕ) (path : List ℕ) → k < d.born → is_so_in (has_item path) (slice_get w.heap.blocks k) ≡ true → BlockRead k path
      block_read k path born so = by (slice_get w.heap.blocks k) refl
        where
          by : (o : Option (Option Block)) → slice_get w.heap.blocks k ≡ o → BlockRead k path
          by None e = absurd (let n = get_none w.heap.blocks k e in let b = x.heap.born in omega (arith, n, b, born))
          by (Some None) e = never (sym (ap (is_so_in (has_item path)) e) ∙ so)
          by (Some (Some b)) e = record { block = b; there = ap flat e; has = sym (ap (is_so_in (has_item path)) e) ∙ so }

      -- what a location in a block leads to
      pub record BlockSeen (l : Location) (a : ℕ) (t : Shape) (f : FromBlock d l a t) : Type 0 where
        pub read : BlockRead f.block l.path
        pub all : Values
        pub stored : AreStored StandsFixed d m (block_here StandsFixed d w.heap m x.heap f.block read.block read.there l.path a t f.leads).standing.place
            f.leads.of all
        pub whole : whole_at w l.base ≡ Parts all
        pub less : f.leads.element < count all
        pub fits : count all * shape_bytes f.leads.of
            ≤ length (block_here StandsFixed d w.heap m x.heap f.block read.block read.there l.path a t f.leads).standing.payload

      pub block_seen : (l : Location) (a : ℕ) (t : Shape) (f : FromBlock d l a t) → is_there w l ≡ true → BlockSeen l a t f
      block_seen l a t f there =
          let r = block_read f.block l.path f.leads.born (subst (λ b. leads_from w b l.path ≡ true) f.base there) in
          let all = elements_here StandsFixed d w.heap m x.heap f.block r.block r.there l.path a t f.leads in
          record {
            read = r;
            all = all.all;
            stored = all.stored;
            whole = ap (whole_at w) f.base ∙ ap contents_value r.there ∙ ap object_in all.is;
            less = ltb-true f.leads.element (count all.all)
                (subst (λ c. has_item (f.leads.element ∷ f.leads.rest) c ≡ true) all.is (subst (λ p. has_item p r.block.contents ≡ true) f.leads.is r.has));
            fits = all.fits;
          }

      -- the element is one of those in the block
      pub element_there : (l : Location) (a : ℕ) (t : Shape) (f : FromBlock d l a t) (there : is_there w l ≡ true)
          → f.leads.element < count (elements_here StandsFixed d w.heap m x.heap f.block (block_seen l a t f there).read.block
          (block_seen l a t f there).read.there l.path a t f.leads).all
      element_there l a t f there =
          let s = block_seen l a t f there in
          let all = elements_here StandsFixed d w.heap m x.heap f.block s.read.block s.read.there l.path a t f.leads in
          let is : whole_at w l.base ≡ Parts all.all = ap (whole_at w) f.base ∙ ap contents_value s.read.there ∙ ap object_in all.is in
          subst (λ vs. f.leads.element < count vs) (ap parts_of (sym s.whole ∙ is)) s.less

      blocks_read : (l : Location) (a : ℕ) (t : Shape) (f : FromBlock d l a t) → is_there w l ≡ true → Stored StandsFixed d m a t (load w l)
      blocks_read l a t f there =
          let s = block_seen l a t f there in
          subst (λ b. Stored StandsFixed d m a t (part (whole_at w b) l.path)) (sym f.base)
          (read_in_block StandsFixed d w.heap m x.heap f.block s.read.block s.read.there l.path a t f.leads (element_there l a t f there))

      -- what is stored at the address of a location
      pub read_at : (l : Location) (a : ℕ) (t : Shape) → LeadsTo d l a t → is_there w l ≡ true → Stored StandsFixed d m a t (load w l)
      read_at l a t (inl f) there = home_read l a t f
      read_at l a t (inr f) there = blocks_read l a t f there

      -- ---- another value is put at a place in a home

      module _ (after : Blocks) (ahead : AreLater d after) (other : Memory) (sized : Sized other) (l : Location) (a : ℕ) (t : Shape) (f : FromHome l a t)
          (own : IsOwn l.base) (new : Value) (written : IsRewritten m other a (shape_bytes t))
          (there : Stored StandsFixed after other a t new) (heap : HasHeap StandsFixed after w.heap other) where
        abbrev put_value : Value
        put_value = put_part (whole_at w l.base) l.path new

        still_elsewhere : (h : Home) → IsOutside m h.at (home_bytes h) → IsOutside other h.at (home_bytes h)
        still_elsewhere h e = outside_then m other h.at (home_bytes h) written.sizes.heap e

        home_put : IsAtHome after (stored w l.base put_value) other f.home
        home_put =
            let h = x.homes f.home f.among in
            let holds : HoldsAt w l.base h.value = subst (λ b. HoldsAt w b h.value) (sym f.base) h.holds in
            let is : whole_at w l.base ≡ h.value = whole_held w l.base h.value holds in
            record {
              value = put_part h.value l.path new;
              holds = subst (λ b. HoldsAt (stored w l.base put_value) b (put_part h.value l.path new)) f.base
                  (subst (λ v. HoldsAt (stored w l.base put_value) l.base (put_part v l.path new)) is (held_here w put_value l.base h.value own holds));
              stored = path_put StandsFixed d after ahead m other f.home.at f.home.shape h.value l.path f.offset t new f.way h.stored
                  (subst (λ n. Spares StandsFixed d after ahead m other f.home.at (home_bytes f.home) n (shape_bytes t)) f.address
                  (rewritten_spares m other a (shape_bytes t) f.home.at (home_bytes f.home) written))
                  (subst (λ n. Stored StandsFixed after other n t new) f.address there);
              elsewhere = still_elsewhere f.home h.elsewhere;
            }

        home_away : (g : Home) → Homes g → AreApart g f.home → IsAtHome after (stored w l.base put_value) other g
        home_away g i away =
            let h = x.homes g i in
            let f_there = x.homes f.home f.among in
            record {
              value = h.value;
              holds = held_away w put_value l.base g.base f_there.value h.value (subst (λ b. HoldsAt w b f_there.value) (sym f.base) f_there.holds) h.holds
                  (subst (λ b. Differ b g.base) (sym f.base) away.bases_turned);
              stored = stored_kept StandsFixed d after ahead m other g.at g.at g.shape h.value
                  (rewritten_carried m other a (shape_bytes t) g.at (home_bytes g) written (beside away.ranges)) h.stored;
              elsewhere = still_elsewhere g h.elsewhere;
            }
          where
            beside : Beside g.at (home_bytes g) f.home.at (home_bytes f.home) → Beside g.at (home_bytes g) a (shape_bytes t)
            beside (inl e) = let o = f.address in inl (omega (arith, e, o))
            beside (inr e) = let o = f.address in let n = path_within f.home.shape l.path f.offset t f.way in inr (omega (arith, e, o, n))

        pub put_in_home : HomesHold after (store w l new) other
        put_in_home =
            let f_there = x.homes f.home f.among in
            record {
              sized = sized;
              heap = subst (λ h. HasHeap StandsFixed after h other)
                  (sym (heap_stays w put_value l.base f_there.value (subst (λ b. HoldsAt w b f_there.value) (sym f.base) f_there.holds))) heap;
              homes = λ g i. by g i (apart g f.home i f.among);
            }
          where
            by : (g : Home) → Homes g → SameOrApart g f.home → IsAtHome after (store w l new) other g
            by g i (inl e) = subst (λ h. IsAtHome after (store w l new) other h) (sym e) home_put
            by g i (inr away) = home_away g i away

      -- ---- blocks change, and homes stay

      module _ (after : Blocks) (ahead : AreLater d after) (other : Memory) (sized : Sized other) (beside : IsChangedInside m other) where
        pub still_home : (heap : Heap) (h : Home) → Homes h → IsAtHome after (record w { heap = heap }) other h
        still_home heap h i =
            let at = x.homes h i in
            record {
              value = at.value;
              holds = with_heap h.base at.value at.holds;
              stored = stored_kept StandsFixed d after ahead m other h.at h.at h.shape at.value
                  (inside_carried m other h.at (home_bytes h) beside at.elsewhere) at.stored;
              elsewhere = outside_then m other h.at (home_bytes h) beside.long at.elsewhere;
            }
          where
            with_heap : (b : Base) (v : Value) → HoldsAt w b v → HoldsAt (record w { heap = heap }) b v
            with_heap (Standing level n) v g = (in_frame w (record w { heap = heap }) level n refl g.0, g.1)
            with_heap (Waiting level node) v g = g
            with_heap (InHand j) v g = g
            with_heap (Made u) v g = g
            with_heap (InBlock k) v g = absurd g
            with_heap (InException j) v g = absurd g

        pub with_heap_after : (heap : Heap) → HasHeap StandsFixed after heap other → HomesHold after (record w { heap = heap }) other
        with_heap_after heap has = record { sized = sized; heap = has; homes = still_home heap }
