-- Two locations that may be written, which lead to what looks the same, are the same or apart; and all of what one leads to may be written.
use Rattle.std.proofs.Common.{◌≡◌, ◌≢◌, ◌⊎◌, inl, inr, ℕ, ◌+◌, ◌-◌, ◌%◌, ◌≤◌, List, length, true, sym, ap₂, subst, arith}
use Rattle.std.proofs.lemmas.Bool.{and_parts}
use Rattle.std.specs.Prelude.{◌==◌}
use Rattle.nim_meaning.specs.Values.{Location}
use Rattle.nim_meaning.specs.State.{is_there}
use Rattle.flat_code.specs.Shapes.{Shape}
use Rattle.word_code.specs.Memory.{as_state}
use Rattle.word_code.specs.RoutineTable.{Beside as BesideOf, Separate}
use Rattle.heap_memory.proofs.ForCallers.{heap_open}
use Rattle.word_lowering.proofs.BlockRanges.{block_range, blocks_apart}
use Rattle.word_lowering.proofs.GoodHomes.{HomeOf, homes_apart, good_homes}
use Rattle.word_lowering.proofs.Keeping.{number_cases, name_cases, waiting_inside}
use Rattle.word_lowering.proofs.Lines.{Basis, IsGood}
use Rattle.word_lowering.proofs.Located.{place_lying, waiting_lying}
use Rattle.word_lowering.proofs.Related.{Both, high, sites_of, within}
use Rattle.word_lowering.proofs.Scenes.{is_fixed, FromBlock, FromOwned, Name, IsThere, address_of, house, looked, of_place, of_waiting}
use Rattle.word_lowering.proofs.ShapeFacts.{shape_bytes}
use Rattle.word_lowering.proofs.ShapePaths.{PathTo, path_within, shape_some}
use Rattle.word_lowering.proofs.ShapesApart.{SameOrApart, paths_apart}
use Rattle.word_lowering.proofs.Sites.{AmongSites, InMemory, Linked, Site}
use Rattle.word_lowering.proofs.SitesApart.{Beside, InRange, houses, one_level, ranges_apart, site_at}
use Rattle.word_lowering.proofs.Sources.{Lying, lying_away, lying_open, lying_range}
use Rattle.word_lowering.proofs.StoredLater.{shape_whole}
use Rattle.word_lowering.proofs.TradedWords.{range_open}
use Rattle.rv32_isa.specs.Image.{heap_at, stack_at}
use Rattle.rv32_isa.specs.State.{writable}

-- ---- parts of one shape, at two locations

-- a part of what stands in a home, by the name that has it
record PartAt (x : Basis) (sites : List Site) (linked : Linked x.table x.blocks sites) (l : Location) (a : ℕ) (t : Shape) : Type 0 where
  site : Site
  among : AmongSites site sites
  name : Name
  there : IsThere site name
  home : InMemory (house site name).home
  offset : ℕ
  path : PathTo (looked x.table site name) l.path offset t
  address : a ≡ address_of site.base (house site name).home + offset
  lying : Lying x sites linked a (shape_bytes t)

module _ (x : Basis) (sites : List Site) (linked : Linked x.table x.blocks sites) where
  parts_apart : (l m : Location) (a b : ℕ) (t : Shape) → PartAt x sites linked l a t → PartAt x sites linked m b t → Separate a b (shape_bytes t)
  parts_apart l m a b t f h = by (number_cases f.site.level h.site.level) (name_cases f.name h.name)
    where
      -- a part is inside of its home
      inside : (k : Location) (c : ℕ) (p : PartAt x sites linked k c t) → p.offset + shape_bytes t ≤ (house p.site p.name).bytes
      inside k c p =
          let within = path_within (looked x.table p.site p.name) k.path p.offset t p.path in
          let size = (houses x.table x.blocks p.site p.name (site_at x.table x.blocks sites p.site linked p.among).body p.there).bytes in
          omega (arith, within, size)

      apart : (f.site.level ≢ h.site.level) ⊎ (f.name ≢ h.name) → Separate a b (shape_bytes t)
      apart d = narrow (ranges_apart x.table x.blocks x.small sites f.site h.site f.name h.name linked f.among h.among f.there h.there f.home h.home d)
        where
          narrow : Beside (address_of f.site.base (house f.site f.name).home) (house f.site f.name).bytes
              (address_of h.site.base (house h.site h.name).home) (house h.site h.name).bytes
              → Separate a b (shape_bytes t)
          narrow (inl g) =
              let i = inside l a f in let j = f.address in let k = h.address in inr (inl (omega (arith, g, i, j, k)))
          narrow (inr g) =
              let i = inside m b h in let j = f.address in let k = h.address in inr (inr (omega (arith, g, i, j, k)))

      same : f.site ≡ h.site → f.name ≡ h.name → Separate a b (shape_bytes t)
      same e n = go (paths_apart (looked x.table f.site f.name) l.path m.path f.offset h.offset t f.path
          (subst (λ s. PathTo s m.path h.offset t) (sym (ap₂ (λ s k. looked x.table s k) e n)) h.path))
        where
          start : address_of f.site.base (house f.site f.name).home ≡ address_of h.site.base (house h.site h.name).home
          start = ap₂ (λ (s : Site) k. address_of s.base (house s k).home) e n

          go : SameOrApart f.offset h.offset (shape_bytes t) → Separate a b (shape_bytes t)
          go (inl i) = let j = f.address in let k = h.address in inl (omega (arith, i, j, k, start))
          go (inr (inl i)) = let j = f.address in let k = h.address in inr (inl (omega (arith, i, j, k, start)))
          go (inr (inr i)) = let j = f.address in let k = h.address in inr (inr (omega (arith, i, j, k, start)))

      by : (f.site.level ≡ h.site.level) ⊎ (f.site.level ≢ h.site.level) → (f.name ≡ h.name) ⊎ (f.name ≢ h.name) → Separate a b (shape_bytes t)
      by (inr ne) n = apart (inl ne)
      by (inl e) (inr ne) = apart (inr ne)
      by (inl e) (inl n) = same (one_level x.table x.blocks sites f.site h.site linked f.among h.among e) n

module _ (x : Basis) (g : Both) (y : IsGood x g) where
  abbrev Owns : Location → (a : ℕ) → Shape → Type 0
  Owns l a t = FromOwned x.table (sites_of g) g.ground g.world l a t

  abbrev Part : Location → (a : ℕ) → Shape → Type 0
  Part l a t = PartAt x (sites_of g) y.linked l a t

  -- in a home, or in a block
  as_part : (l : Location) (a : ℕ) (t : Shape) → Owns l a t → Part l a t ⊎ FromBlock g.ground l a t
  as_part l a t (inl f) = inl (record {
    site = f.site;
    among = f.among;
    name = of_place f.number;
    there = f.there;
    home = f.home;
    offset = f.offset;
    path = f.path;
    address = f.address;
    lying = place_lying x g y l a t f;
  })
  as_part l a t (inr (inl f)) = inr f
  as_part l a t (inr (inr f)) = inl (record {
    site = f.from.site;
    among = f.from.among;
    name = of_waiting f.from.node;
    there = f.from.there;
    home = waiting_inside f.from.site f.from.node f.from.there;
    offset = f.from.offset;
    path = f.from.path;
    address = f.from.address;
    lying = waiting_lying x g y l a t f.from;
  })

  -- a home is beside the heap, in which blocks are
  beside_block : (l k : Location) (a b : ℕ) (t : Shape) → Part l a t → FromBlock g.ground k b t
      → is_there g.world k ≡ true → (a + shape_bytes t ≤ b) ⊎ (b + shape_bytes t ≤ a)
  beside_block l k a b t f h live =
      let r = block_range (is_fixed g.ground) (HomeOf x g) (homes_apart x g y) g.ground.blocks g.world g.memory (good_homes x g y) k b t
      (record { block = h.block; base = h.base; leads = h.leads }) live in
      by r.0 r.1 (lying_away x (sites_of g) y.linked g.memory a (shape_bytes t) y.memory f.lying).1
    where
      by : heap_at ≤ b → b + shape_bytes t ≤ heap_at + length g.memory.heap → BesideOf heap_at (length g.memory.heap) a (shape_bytes t)
          → (a + shape_bytes t ≤ b) ⊎ (b + shape_bytes t ≤ a)
      by low high (inl away) = inr (omega (arith, high, away))
      by low high (inr away) = inl (omega (arith, low, away))

  pub locations_apart : (l k : Location) (a b : ℕ) (t : Shape) → Owns l a t → Owns k b t → is_there g.world l ≡ true → is_there g.world k ≡ true
      → Separate a b (shape_bytes t)
  locations_apart l k a b t f h live live_too = by (as_part l a t f) (as_part k b t h)
    where
      turned : (b + shape_bytes t ≤ a) ⊎ (a + shape_bytes t ≤ b) → (a + shape_bytes t ≤ b) ⊎ (b + shape_bytes t ≤ a)
      turned (inl z) = inr z
      turned (inr z) = inl z

      by : Part l a t ⊎ FromBlock g.ground l a t → Part k b t ⊎ FromBlock g.ground k b t → Separate a b (shape_bytes t)
      by (inl p) (inl q) = parts_apart x (sites_of g) y.linked l k a b t p q
      by (inl p) (inr q) = inr (beside_block l k a b t p q live_too)
      by (inr p) (inl q) = inr (turned (beside_block k l b a t q p live))
      by (inr p) (inr q) =
          blocks_apart (is_fixed g.ground) (HomeOf x g) (homes_apart x g y) g.ground.blocks g.world g.memory (good_homes x g y) l k a b t
          (record { block = p.block; base = p.base; leads = p.leads }) (record { block = q.block; base = q.base; leads = q.leads }) live live_too

  -- all of it may be written at once
  pub owned_open : (l : Location) (a : ℕ) (t : Shape) → Owns l a t → is_there g.world l ≡ true → writable (as_state g.memory) a (shape_bytes t) ≡ true
  owned_open l a t f live = by (as_part l a t f)
    where
      word : (b : ℕ) → Lying x (sites_of g) y.linked a (shape_bytes t) → a ≤ b → b + 4 ≤ a + shape_bytes t → b % 4 ≡ 0 → writable (as_state g.memory) b 4 ≡ true
      word b lying low high is =
          (and_parts (b % 4 == 0) (writable (as_state g.memory) b 4)
          (y.memory.cells b is (lying_open x (sites_of g) y.linked a (shape_bytes t) lying b low high)).may).1

      beside : (p : Part l a t) → InRange x.table x.blocks p.lying.site a (shape_bytes t) → (a + shape_bytes t ≤ heap_at) ⊎ (stack_at ≤ a)
      beside p (inl r) = let d = x.small in inl (omega (arith, r.2, d))
      beside p (inr r) = let s = (site_at x.table x.blocks (sites_of g) p.lying.site y.linked p.lying.among).least in inr (omega (arith, r.0, s))

      by : Part l a t ⊎ FromBlock g.ground l a t → writable (as_state g.memory) a (shape_bytes t) ≡ true
      by (inr q) =
          let r = block_range (is_fixed g.ground) (HomeOf x g) (homes_apart x g y) g.ground.blocks g.world g.memory (good_homes x g y) l a t
          (record { block = q.block; base = q.base; leads = q.leads }) live in
          heap_open g.memory y.memory.sized a (shape_bytes t) r.0 r.1
      by (inl p) =
          let lying = p.lying in
          let some = shape_some t in
          let whole = lying.whole in
          let long = shape_whole t in
          range_open g.memory y.memory.sized a (shape_bytes t) some (word a lying (omega arith) (omega (arith, some)) whole)
          (word (a + shape_bytes t - 4) lying (omega (arith, some)) (omega (arith, some)) (omega (arith, whole, long, some)))
          (beside p (lying_range x (sites_of g) y.linked a (shape_bytes t) lying))
