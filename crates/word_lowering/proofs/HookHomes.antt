-- What hooks have around them: homes, of which words may be put, and the world and the memory before.
use Rattle.std.proofs.Common.{◌≡◌, ◌≢◌, inl, inr, ℕ, ◌+◌, ◌*◌, ◌%◌, ◌^◌, ◌<◌, ◌≤◌, Bool, true, List, length}
use Rattle.std.proofs.Common.{ap, refl, subst, ◌∙◌, arith, mul-le-mul, le_refl}
use Rattle.std.proofs.lemmas.Bool.{and_from, eq-eqb, true≢false}
use Rattle.std.specs.Prelude.{◌==◌}
use Rattle.nim_types.specs.declared.types.TypeDef.{TypeDef}
use Rattle.nim_types.specs.Table.{IsTable}
use Rattle.nim_meaning.specs.Values.{Location, InHand, count, part}
use Rattle.nim_meaning.specs.State.{World, is_there}
use Rattle.flat_code.specs.Shapes.{Shape}
use Rattle.rv32_isa.specs.declared.micro_op.Size.TheVariants.{Word}
use Rattle.rv32_isa.specs.Image.{heap_at, stack_at}
use Rattle.rv32_isa.specs.State.{writable}
use Rattle.word_code.specs.declared.word.TheConstants.{SPARE_ROOM}
use Rattle.word_code.specs.Memory.{Memory, as_state, may_put, own_data_at}
use Rattle.word_code.specs.RoutineTable.{Beside}
use Rattle.word_code.proofs.ForCallers.{MemoryLaw, Sized}
use Rattle.heap_memory.specs.HeapState.{Standing as BlockStanding}
use Rattle.heap_memory.specs.HeapUse.{IsThere}
use Rattle.heap_memory.specs.TextRoutines.{AreBytes}
use Rattle.heap_memory.proofs.ForCallers.{is_there as block_is_there, written_in, part_written}
use Rattle.word_lowering.specs.Stored.{HaveForms}
use Rattle.word_lowering.proofs.ShapeFacts.{shape_bytes}
use Rattle.word_lowering.proofs.ShapePaths.{path_within}
use Rattle.word_lowering.proofs.StoredLater.{shape_whole, times_whole}
use Rattle.word_lowering.proofs.StoredParts.{path_whole}
use Rattle.word_lowering.proofs.Blocks.{Blocks, IsBlockThere}
use Rattle.word_lowering.proofs.BaseValues.{Differ, IsOwn}
use Rattle.word_lowering.proofs.BlockPaths.{block_here, at_place}
use Rattle.word_lowering.proofs.BlockHomes.{Home, home_bytes, SameOrApart, FromBlock, BlockSeen, block_seen}
use Rattle.word_lowering.proofs.CallPlaces.{place_cell}
use Rattle.word_lowering.proofs.HandHomes.{Hand, AllHomes, all_apart, in_range}
use Rattle.word_lowering.proofs.HookHere.{Here, AllWhole, whole_at, ascends_low}
use Rattle.word_lowering.proofs.FixedParts.{fixed_cell, fixed_whole, fixed_within}
use Rattle.word_lowering.proofs.FixedValues.{data_bytes}
use Rattle.word_lowering.proofs.HookLeads.{InFixed, IsLed}
use Rattle.word_lowering.proofs.TextOperands.{FixedThere}
use Rattle.word_lowering.proofs.HookWorlds.{IsLike, IsOther, IsMemoryLike, may_as}

-- ---- what is around hooks

pub record HookHomes : Type 1 where
  pub table : List TypeDef
  pub is_table : IsTable table
  pub have : HaveForms table
  -- what stands in the data
  pub StandsFixed : (place : ℕ) → List ℕ → Type 0
  -- homes, apart and before an address
  pub Homes : Home → Type 0
  pub apart : (g h : Home) → Homes g → Homes h → SameOrApart g h
  pub start : ℕ
  pub under : (h : Home) → Homes h → h.at + home_bytes h ≤ start
  -- so many values are under way at these homes
  pub first : ℕ
  pub others : (h : Home) → Homes h → (i : ℕ) → first ≤ i → Differ h.base (InHand i) × (Differ (InHand i) h.base × (h.base ≢ InHand i))
  pub whole : (h : Home) → Homes h → h.at % 4 ≡ 0
  -- the places of hooks, as far as they go
  pub start_low : stack_at ≤ start
  pub limit : ℕ
  pub limit_most : limit + SPARE_ROOM ≤ stack_at + 268435456
  -- before hooks are called
  pub world : World
  pub memory : Memory
  pub reaches : start ≤ stack_at + length memory.places
  pub may : (h : Home) → Homes h → (k : ℕ) → k + 4 ≤ home_bytes h → k % 4 ≡ 0 → may_put memory (h.at + k) Word ≡ true
  -- while they run the data is as it was, beside what is put
  pub fixed : (m : Memory) → IsMemoryLike Homes start memory m → FixedThere StandsFixed m
  pub fixed_under : (place : ℕ) (text : List ℕ) → StandsFixed place text → place + length text ≤ start
  pub fixed_beside : (place : ℕ) (text : List ℕ) → StandsFixed place text → (h : Home) → Homes h → IsOwn h.base
      → Beside place (length text) h.at (home_bytes h)
  pub law : MemoryLaw

-- the words of a range may be put
pub record IsOpen (m : Memory) (at n : ℕ) : Type 0 where
  pub whole : at % 4 ≡ 0
  pub small : at + n < 2 ^ 32
  pub may : (k : ℕ) → k + 4 ≤ n → k % 4 ≡ 0 → may_put m (at + k) Word ≡ true

module _ (z : HookHomes) where
  -- where hooks run: values under way up to an address, and free places up to another one
  pub record IsHere (low top : ℕ) (hand : Hand) (d : Blocks) (w : World) (m : Memory) : Type 0 where
    pub here : Here z.StandsFixed z.Homes z.apart z.start z.under z.first z.others low top hand d w m
    pub low_whole : low % 4 ≡ 0
    pub top_whole : top % 4 ≡ 0
    pub hand_whole : AllWhole hand
    pub ends : stack_at + length m.places ≡ top + SPARE_ROOM
    pub like : IsLike z.Homes z.world w
    pub same : IsMemoryLike z.Homes z.start z.memory m
    pub bytes : AreBytes m.heap

  module _ (low top : ℕ) (hand : Hand) (d : Blocks) (w : World) (m : Memory) (x : IsHere low top hand d w m) where
    abbrev pub All : Home → Type 0
    All = AllHomes z.StandsFixed z.Homes z.apart z.start z.under z.first z.others hand

    abbrev pub away : (g h : Home) → All g → All h → SameOrApart g h
    away = all_apart z.StandsFixed z.Homes z.apart z.start z.under z.first z.others hand low x.here.up

    abbrev pub Led : (own : Bool) (l : Location) (at : ℕ) (t : Shape) → Type 0
    Led own l at t = IsLed z.StandsFixed z.Homes z.first own hand d l at t

    pub sized : Sized m
    sized = x.here.holds.sized

    pub start_here : z.start ≤ low
    start_here = ascends_low z.start hand low x.here.up

    -- ---- in a home

    module _ (h : Home) (i : All h) where
      home_open : IsOpen m h.at (home_bytes h)
      home_open = by i
        where
          low_under : z.start ≤ low
          low_under = start_here

          by : All h → IsOpen m h.at (home_bytes h)
          by (inl i) =
              let s = low_under in let fits = x.here.fits in let e = x.ends in let most = sized.stack_most in let u = z.under h i in let r = z.reaches in
              record {
                whole = z.whole h i;
                small = omega (arith, s, fits, e, most, u);
                may = λ k within even.
                    may_as z.memory m x.same.statics x.same.heap (h.at + k) (omega (arith, within, u, r)) (omega (arith, within, u, s, fits, e))
                    ∙ z.may h i k within even;
              }
          by (inr i) =
              let s = low_under in let fits = x.here.fits in let e = x.ends in let most = sized.stack_most in
              let r = in_range z.first z.start hand low h x.here.up i in let b = r.begins in let c = r.ends in let f = z.start_low in
              let even_at = whole_at z.first hand h x.hand_whole i in
              record {
                whole = even_at;
                small = omega (arith, fits, e, most, c);
                may = λ k within even. (place_cell m sized (h.at + k) (omega (arith, even, even_at)) (omega (arith, b, f))
                    (omega (arith, within, c, fits, e))).may;
              }

    -- a part of what is open
    open_part : (at n o k : ℕ) → o + k ≤ n → o % 4 ≡ 0 → (a : ℕ) → a ≡ at + o → IsOpen m at n → IsOpen m a k
    open_part at n o k within even a is p =
        let e = p.whole in let small = p.small in
        record {
          whole = omega (arith, e, even, is);
          small = omega (arith, small, is, within);
          may = λ j inside whole.
              ap (λ b. may_put m b Word) (let q : a + j ≡ at + (o + j) = omega (arith, is) in q)
              ∙ p.may (o + j) (omega (arith, inside, within)) (omega (arith, even, whole));
        }

    -- ---- in a block

    module _ (l : Location) (at : ℕ) (t : Shape) (f : FromBlock z.StandsFixed All away d l at t) (live : is_there w l ≡ true) where
      abbrev pub seen : BlockSeen z.StandsFixed All away d w m x.here.holds l at t f
      seen = block_seen z.StandsFixed All away d w m x.here.holds l at t f live

      abbrev pub is_here : IsBlockThere z.StandsFixed d m f.block seen.read.block
      is_here = block_here z.StandsFixed d w.heap m x.here.holds.heap f.block seen.read.block seen.read.there l.path at t f.leads

      abbrev pub standing : BlockStanding
      standing = is_here.standing

      abbrev pub behind : ℕ
      behind = f.leads.element * shape_bytes f.leads.of + f.leads.offset

      pub record InPayload : Type 0 where
        pub at_is : at ≡ standing.place + behind
        pub within : behind + shape_bytes t ≤ length standing.payload
        pub there : IsThere m standing

      pub in_payload : InPayload
      in_payload =
          let least = path_within f.leads.of f.leads.rest f.leads.offset t f.leads.way in
          let less = seen.less in
          let more : (1 + f.leads.element) * shape_bytes f.leads.of ≤ count seen.all * shape_bytes f.leads.of
          = mul-le-mul (omega (arith, less)) (le_refl (shape_bytes f.leads.of)) in
          let fits = seen.fits in
          record {
            at_is = at_place z.StandsFixed d w.heap m x.here.holds.heap f.block seen.read.block seen.read.there l.path at t f.leads;
            within = omega (arith, least, more, fits);
            there = block_is_there own_data_at w.heap.classes d.stands m x.here.holds.heap.kept f.block standing is_here.stands sized;
          }

      block_open : IsOpen m at (shape_bytes t)
      block_open =
          let p = in_payload in
          let is = p.at_is in let within = p.within in let there = p.there in
          let high = there.high in let most = sized.heap_most in let aligned = there.aligned in
          let o = path_whole f.leads.of f.leads.rest f.leads.offset t f.leads.way in
          let s = times_whole f.leads.element (shape_bytes f.leads.of) (shape_whole f.leads.of) in
          let even : at % 4 ≡ 0 = omega (arith, is, aligned, o, s) in
          record {
            whole = even;
            small = omega (arith, is, within, high, most);
            may = λ k inside whole.
                and_from ((at + k) % 4 == 0) (writable (as_state m) (at + k) 4) (eq-eqb ((at + k) % 4) 0 (omega (arith, even, whole)))
                (subst (λ a. writable (as_state m) a 4 ≡ true) (let q : standing.place + (behind + k) ≡ at + k = omega (arith, is) in q)
                (part_written m sized standing.place (length standing.payload)
                (written_in m sized standing.place (length standing.payload) (omega (arith, within, inside)) there.may)
                (behind + k) 4 (omega (arith, within, inside))));
          }

    -- ---- in a constant

    pub data_there : FixedThere z.StandsFixed m
    data_there = z.fixed m x.same

    fixed_open : (l : Location) (at : ℕ) (t : Shape) (own : Bool) → InFixed z.StandsFixed z.Homes z.first own l at t → IsOpen m at (shape_bytes t)
    fixed_open l at t own f =
        let v = part f.root l.path in
        let within = (fixed_within z.StandsFixed m sized data_there at t v f.fixed).1 in
        let under = z.fixed_under f.fixed.place (data_bytes f.fixed) f.fixed.stands in
        let s = start_here in let fits = x.here.fits in let e = x.ends in let most = sized.stack_most in
        let whole = fixed_whole z.StandsFixed m sized data_there at t v f.fixed in
        record {
          whole = whole;
          small = omega (arith, within, under, s, fits, e, most);
          may = λ k inside even.
              (fixed_cell z.StandsFixed m sized data_there at t v f.fixed (at + k) (omega arith) (omega (arith, inside)) (omega (arith, even, whole))).may;
        }

    -- ---- where a location leads

    pub led_open : (own : Bool) (l : Location) (at : ℕ) (t : Shape) → Led own l at t → is_there w l ≡ true → IsOpen m at (shape_bytes t)
    led_open own l at t (inl f) live =
        open_part f.home.at (home_bytes f.home) f.offset (shape_bytes t) (path_within f.home.shape l.path f.offset t f.way)
        (path_whole f.home.shape l.path f.offset t f.way) at f.address (home_open f.home f.among)
    led_open own l at t (inr (inl f)) live = block_open l at t (record { block = f.block; base = f.base; leads = f.leads }) live
    led_open own l at t (inr (inr f)) live = fixed_open l at t own f

    -- what is no home's and not the heap's lies beside one that is owned
    pub led_beside : (l : Location) (at : ℕ) (t : Shape) → Led true l at t → is_there w l ≡ true → (b n : ℕ)
        → IsOther z.Homes z.start (length z.memory.heap) b n → Beside b n at (shape_bytes t)
    led_beside l at t (inl f) live b n o = by f.among
      where
        narrow : Beside b n f.home.at (home_bytes f.home) → Beside b n at (shape_bytes t)
        narrow (inl h) = let e = f.address in inl (omega (arith, e, h))
        narrow (inr h) = let e = f.address in let i = path_within f.home.shape l.path f.offset t f.way in inr (omega (arith, e, i, h))

        by : All f.home → Beside b n at (shape_bytes t)
        by (inl i) = narrow (o.homes f.home i (subst IsOwn f.base (f.owned refl)))
        by (inr i) =
            let r = in_range z.first z.start hand low f.home x.here.up i in let c = r.begins in let e = o.before in
            narrow (inl (omega (arith, c, e)))
    led_beside l at t (inr (inr f)) live b n o = absurd (true≢false f.lent)
    led_beside l at t (inr (inl f)) live b n o = by o.heap
      where
        p : InPayload l at t (record { block = f.block; base = f.base; leads = f.leads }) live
        p = in_payload l at t (record { block = f.block; base = f.base; leads = f.leads }) live

        by : Beside b n heap_at (length z.memory.heap) → Beside b n at (shape_bytes t)
        by (inl h) = let is = p.at_is in let c = p.there.low in inl (omega (arith, h, is, c))
        by (inr h) =
            let is = p.at_is in let within = p.within in let c = p.there.high in let e = x.same.heap in
            inr (omega (arith, h, is, within, c, e))
