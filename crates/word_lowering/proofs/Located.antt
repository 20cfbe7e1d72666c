-- What is at locations.
use Rattle.std.proofs.Common.{◌≡◌, ◌⊎◌, inl, inr, ℕ, ◌+◌, ◌-◌, ◌%◌, ◌≤◌, List, length, None, true, refl, sym, ap, subst, ◌∙◌, arith}
use Rattle.std.specs.Prelude.{◌==◌}
use Rattle.std.proofs.lemmas.Bool.{and_parts, and_from, eq-eqb}
use Rattle.rv32_isa.specs.Image.{heap_at}
use Rattle.rv32_isa.specs.State.{writable}
use Rattle.nim_meaning.specs.Values.{Value, Number, Parts, Handle, Fixed, Ref, Resource, Gone, Vacant, bytes, Location, Made, Values, count, part, is_full}
use Rattle.nim_meaning.specs.State.{World, load, whole_at, is_there, is_seen, is_whole, is_full_at}
use Rattle.word_code.specs.Memory.{Memory, as_state}
use Rattle.word_code.specs.RoutineTable.{Cell, Separate}
use Rattle.heap_memory.proofs.ForCallers.{heap_open}
use Rattle.flat_code.specs.Pieces.{value_of, piece_words}
use Rattle.flat_code.specs.Scene.{Where, Located, Within, if_value, location_at}
use Rattle.flat_code.specs.Shapes.{Shape, block, row, has_shape}
use Rattle.word_lowering.proofs.BlockHomes.{LeadsTo, FromBlock as InBlocks, read_at}
use Rattle.word_lowering.proofs.BlockRanges.{block_range, block_whole}
use Rattle.word_lowering.proofs.Blocks.{Blocks, Stored}
use Rattle.word_lowering.proofs.FullValues.{full_shape}
use Rattle.word_lowering.proofs.GoodHomes.{HomeOf, homes_apart, good_homes}
use Rattle.word_lowering.proofs.GoodLeads.{owned_to, value_home, waiting_home}
use Rattle.word_lowering.proofs.InMemory.{IsAt}
use Rattle.word_lowering.proofs.Keeping.{AmongCalls, waiting_inside}
use Rattle.word_lowering.proofs.LineFits.{row_length}
use Rattle.word_lowering.proofs.Lines.{Basis, IsGood}
use Rattle.word_lowering.proofs.NumbersStored.{at_numbers, numbers_at}
use Rattle.word_lowering.proofs.OpenCells.{cell_by}
use Rattle.word_lowering.proofs.PartsInMemory.{offset, part_within, offset_whole, part_at}
use Rattle.word_lowering.proofs.PieceWords.{WordsAt, room_of, words_room, words_are, by_words}
use Rattle.word_lowering.proofs.Related.{Both, calls_of, sites_of, text_part}
use Rattle.word_lowering.proofs.Scenes.{is_fixed, address_of, Name, of_value, of_place, Call, house, IsThere, looked, FromBlock, FromOwned, FromPlace}
use Rattle.word_lowering.proofs.Scenes.{FromValue, of_waiting, FromWaiting}
use Rattle.word_lowering.proofs.LinkedReads.{linked_numbers, linked_readable, linked_shaped, linked_text}
use Rattle.word_lowering.proofs.Scenes.{FromConstant, FromLinked, standing_from, Leads}
use Rattle.word_lowering.proofs.ShapeFacts.{never, of_numbers, bytes_is, shape_bytes, values_of_numbers}
use Rattle.word_lowering.proofs.ShapePaths.{PathTo, path_in, path_numbers, path_within}
use Rattle.word_lowering.proofs.Sites.{InMemory, Site, AmongSites, Linked}
use Rattle.word_lowering.proofs.SitesApart.{InRange, houses, site_at}
use Rattle.word_lowering.proofs.SmallWords.{AllSmall, small_words}
use Rattle.word_lowering.proofs.Sources.{Lying, lying_range, Readable, lying_readable, text_readable, area_by, address_whole}
use Rattle.word_lowering.proofs.StandingWords.{words_still, cell_still}
use Rattle.word_lowering.proofs.StoredParts.{path_whole}

-- ---- rows

pub record RowRead (v : Value) (n : ℕ) : Type 0 where
  pub all : Values
  pub is : v ≡ Parts all
  pub long : count all ≡ n

pub row_parts : (v : Value) (n : ℕ) (s : Shape) → has_shape v (row n s) ≡ true → RowRead v n
row_parts (Parts vs) n s h = record { all = vs; is = refl; long = row_length (Parts vs) n s h }
row_parts (Number z) n s h = never h
row_parts (Handle m k) n s h = never h
row_parts (Fixed t) n s h = never h
row_parts (Ref r) n s h = never h
row_parts (Resource vs j) n s h = never h
row_parts (Gone v f) n s h = never h
row_parts Vacant n s h = never h

stored_row : (w : World) (StandsFixed : (place : ℕ) → List ℕ → Type 0) (d : Blocks) (m : Memory) (a n : ℕ) (s : Shape) (v : Value)
    → Stored StandsFixed d m a (row n s) v → is_whole w v ≡ true → RowRead v n
stored_row w F d m a n s (Parts vs) at h = record { all = vs; is = refl; long = at.0 }
stored_row w F d m a n s Vacant at h = never h
stored_row w F d m a n s (Number z) at h = absurd at
stored_row w F d m a n s (Handle j k) at h = absurd at
stored_row w F d m a n s (Fixed t) at h = absurd at
stored_row w F d m a n s (Ref r) at h = absurd at
stored_row w F d m a n s (Resource vs j) at h = absurd at
stored_row w F d m a n s (Gone v f) at h = absurd at

-- ---- locations

-- of numbers, or a text: its bits are all of it
abbrev pub AreBits : Shape → Type 0
AreBits t = (of_numbers t ≡ true) ⊎ (t ≡ block)

-- a value at an address that may be read
pub record IsReadAt (x : Basis) (sites : List Site) (linked : Linked x.table x.blocks sites) (m : Memory) (v : Value) (a : ℕ) (t : Shape) : Type 0 where
  pub is_at : IsAt m a v
  pub shaped : has_shape v t ≡ true
  pub numbers : of_numbers t ≡ true
  pub readable : Readable x sites linked m a (bytes v)

module _ (x : Basis) (g : Both) (y : IsGood x g) where
  abbrev sites : List Site
  sites = sites_of g

  abbrev ReadHere : Value → (a : ℕ) → Shape → Type 0
  ReadHere v a t = IsReadAt x sites y.linked g.memory v a t

  abbrev Lies_at : (a n : ℕ) → Type 0
  Lies_at a n = Lying x sites y.linked a n

  abbrev pub Leading : Location → (a : ℕ) → Shape → Type 0
  Leading l a t = LeadsTo (is_fixed g.ground) (HomeOf x g) (homes_apart x g y) g.ground.blocks l a t

  -- ---- ranges

  -- a part of what a name has
  abbrev part_lying : (s : Site) (f : Name) (path : List ℕ) (o a : ℕ) (t : Shape) → AmongSites s sites → IsThere s f → InMemory (house s f).home
      → PathTo (looked x.table s f) path o t → a ≡ address_of s.base (house s f).home + o → Lies_at a (shape_bytes t)
  part_lying s f path o a t i there inside way is =
      let size = (houses x.table x.blocks s f (site_at x.table x.blocks sites s y.linked i).body there).bytes in
      let within = path_within (looked x.table s f) path o t way in
      let whole = address_whole x sites y.linked s f i there inside in
      let whole_part = path_whole (looked x.table s f) path o t way in
      record {
        site = s;
        name = f;
        among = i;
        there = there;
        home = inside;
        low = omega (arith, is);
        high = omega (arith, is, within, size);
        whole = omega (arith, is, whole, whole_part);
      }

  abbrev pub place_lying : (l : Location) (a : ℕ) (t : Shape) → FromPlace x.table sites g.world l a t → Lies_at a (shape_bytes t)
  place_lying l a t f = part_lying f.site (of_place f.number) l.path f.offset a t f.among f.there f.home f.path f.address

  pub value_lying : (c : Call) → AmongSites c.site sites → (temp : ℕ) (path : List ℕ) (a : ℕ) (t : Shape) → FromValue x.table c.site c.temps temp path a t
      → Lies_at a (shape_bytes t)
  value_lying c i temp path a t f = part_lying c.site (of_value temp) path f.offset a t i f.there f.home f.leads f.address

  abbrev pub waiting_lying : (l : Location) (a : ℕ) (t : Shape) → FromWaiting x.table sites l a t → Lies_at a (shape_bytes t)
  waiting_lying l a t f =
      part_lying f.site (of_waiting f.node) l.path f.offset a t f.among f.there (waiting_inside f.site f.node f.there) f.path f.address

  -- in the heap
  pub block_readable : (l : Location) (a : ℕ) (t : Shape) → FromBlock g.ground l a t → is_there g.world l ≡ true
      → Readable x sites y.linked g.memory a (shape_bytes t)
  block_readable l a t f live =
      let at : InBlocks (is_fixed g.ground) (HomeOf x g) (homes_apart x g y) g.ground.blocks l a t
      = record { block = f.block; base = f.base; leads = f.leads } in
      let range = block_range (is_fixed g.ground) (HomeOf x g) (homes_apart x g y) g.ground.blocks g.world g.memory (good_homes x g y) l a t at live in
      let whole = block_whole (is_fixed g.ground) (HomeOf x g) (homes_apart x g y) g.ground.blocks g.world g.memory (good_homes x g y) l a t at live in
      let near = f.near in
      record {
        area = λ n le. area_by g.memory n a whole (λ b low high is. heap_cell b (omega (arith, range.0, low)) (omega (arith, range.1, high, le)) is);
        near = omega (arith, near);
        separate = λ b place all. apart (shape_bytes t) b place (omega (arith, range.0)) (omega (arith, range.1)) (lying_range x sites y.linked b
            (shape_bytes t) place);
      }
    where
      heap_cell : (b : ℕ) → heap_at ≤ b → b + 4 ≤ heap_at + length g.memory.heap → b % 4 ≡ 0 → Cell g.memory b
      heap_cell b low high whole =
          cell_by g.memory y.memory.sized b (and_from (b % 4 == 0) (writable (as_state g.memory) b 4) (eq-eqb (b % 4) 0 whole)
          (heap_open g.memory y.memory.sized b 4 low high))

      -- places are beside the heap
      apart : (n b : ℕ) (place : Lies_at b n) → heap_at ≤ a → a + n ≤ heap_at + length g.memory.heap
          → InRange x.table x.blocks place.site b n → Separate b a n
      apart n b place low high (inl r) = let d = x.small in inr (inl (omega (arith, r.2, d, low)))
      apart n b place low high (inr r) =
          let s = site_at x.table x.blocks sites place.site y.linked place.among in
          let h = s.least in
          let most = y.memory.sized.heap_most in
          inr (inr (omega (arith, high, r.0, h, most)))

  -- where what is owned stands
  pub owned_readable : (l : Location) (a : ℕ) (t : Shape) → FromOwned x.table sites g.ground g.world l a t → is_there g.world l ≡ true
      → Readable x sites y.linked g.memory a (shape_bytes t)
  owned_readable l a t (inl f) live = lying_readable x sites y.linked g.memory a (shape_bytes t) y.memory (place_lying l a t f)
  owned_readable l a t (inr (inl f)) live = block_readable l a t f live
  owned_readable l a t (inr (inr f)) live = lying_readable x (sites_of g) y.linked g.memory a (shape_bytes t) y.memory (waiting_lying l a t f.from)

  -- ---- what is there

  -- all is there at it
  pub full_there : (l : Location) → is_full_at g.world l ≡ true
      → (is_there g.world l ≡ true) × (is_whole g.world (load g.world l) ≡ true) × (is_full (load g.world l) ≡ true)
  full_there l full =
      let p = and_parts (is_seen g.world l) (is_full (load g.world l)) full in
      let q = and_parts (is_there g.world l) (is_whole g.world (load g.world l)) p.0 in
      (q.0, q.1, p.1)

  -- a value that is stored where it may be read
  pub record IsStoredAt (v : Value) (a : ℕ) (t : Shape) : Type 0 where
    pub stored : Stored (is_fixed g.ground) g.ground.blocks g.memory a t v
    pub shaped : has_shape v t ≡ true
    pub readable : Readable x sites y.linked g.memory a (shape_bytes t)

  -- one of numbers
  read_numbers : (v : Value) (a : ℕ) (t : Shape) → of_numbers t ≡ true → IsStoredAt v a t → ReadHere v a t
  read_numbers v a t numbers r = record {
    is_at = numbers_at (is_fixed g.ground) g.ground.blocks g.memory a t v numbers r.shaped r.stored;
    shaped = r.shaped;
    numbers = numbers;
    readable = subst (λ n. Readable x sites y.linked g.memory a n) (sym (bytes_is v t numbers r.shaped)) r.readable;
  }

  leading_stored : (l : Location) (a : ℕ) (t : Shape) → Leading l a t → is_full_at g.world l ≡ true
      → Readable x sites y.linked g.memory a (shape_bytes t) → IsStoredAt (load g.world l) a t
  leading_stored l a t f full readable =
      let h = full_there l full in
      let stored = read_at (is_fixed g.ground) (HomeOf x g) (homes_apart x g y) g.ground.blocks g.world g.memory (good_homes x g y) l a t f h.0 in
      record {
        stored = stored;
        shaped = full_shape (is_fixed g.ground) g.ground.blocks g.memory a t (load g.world l) stored h.2;
        readable = readable;
      }

  -- at a location that something owned is at
  pub owned_stored : (l : Location) (a : ℕ) (t : Shape) → FromOwned x.table sites g.ground g.world l a t → is_full_at g.world l ≡ true
      → IsStoredAt (load g.world l) a t
  owned_stored l a t f full = leading_stored l a t (owned_to x g y l a t f) full (owned_readable l a t f (full_there l full).0)

  pub owned_located : (l : Location) (a : ℕ) (t : Shape) → FromOwned x.table sites g.ground g.world l a t → of_numbers t ≡ true
      → is_full_at g.world l ≡ true → ReadHere (load g.world l) a t
  owned_located l a t f numbers full = read_numbers (load g.world l) a t numbers (owned_stored l a t f full)

  -- a part of a constant
  constant_located : (location : Location) (a : ℕ) (t : Shape) → FromConstant x.table x.blocks location a t → ReadHere (load g.world location) a t
  constant_located location a t f =
      let m : Memory = g.memory in
      let good = y.memory in
      let v : Value = value_of f.pieces in
      let numbers = values_of_numbers v f.shape f.numbers f.shaped in
      let words = words_are f.pieces f.plain f.one in
      let there = x.constants f.pieces (subst AllSmall (sym words) (small_words v f.shape f.numbers f.shaped)) f.among in
      let base : ℕ = standing_from x.table x.blocks f.pieces in
      let at = by_words m base v numbers (subst (WordsAt m base) words (words_still x sites m good base (piece_words f.pieces) there.is_text there.words)) in
      let room : room_of (piece_words f.pieces) ≡ bytes v = ap room_of words ∙ words_room v numbers in
      let p = path_in v f.shape location.path f.offset t f.numbers f.shaped f.path in
      let address : base + offset v location.path ≡ a = ap (λ n. base + n) p.1 ∙ sym f.address in
      let within = part_within v location.path numbers p.0 in
      let whole : a % 4 ≡ 0 = let h = there.whole in let i = offset_whole v location.path in omega (arith, address, h, i) in
      let text = text_part x.table x.blocks base (room_of (piece_words f.pieces)) a (bytes (part v location.path)) there.is_text
      (omega (arith, address)) (omega (arith, address, within, room)) in
      subst (λ b. IsReadAt x (sites_of g) y.linked m (part (whole_at g.world b) location.path) a t) (sym f.base) (record {
        is_at = subst (λ n. IsAt m n (part v location.path)) address (part_at m base v location.path p.0 at);
        shaped = p.2;
        numbers = path_numbers f.shape location.path f.offset t f.numbers f.path;
        readable = text_readable x sites y.linked m a (bytes (part v location.path)) good text whole (λ b low high is.
            cell_still x sites m good b (text_part x.table x.blocks a (bytes (part v location.path)) b 4 text low high)
            (subst (Cell x.first) (from_base b (omega (arith, low, address)))
            (there.cells (b - base) (omega (arith, address, within, room, low, high)) (let h = there.whole in omega (arith, h, is, low, address)))));
      })
    where
      from_base : (b : ℕ) → standing_from x.table x.blocks f.pieces ≤ b
          → standing_from x.table x.blocks f.pieces + (b - standing_from x.table x.blocks f.pieces) ≡ b
      from_base b low = omega (arith, low)

  constant_stored : (l : Location) (a : ℕ) (t : Shape) → FromConstant x.table x.blocks l a t → IsStoredAt (load g.world l) a t
  constant_stored l a t f =
      let r = constant_located l a t f in
      record {
        stored = at_numbers (is_fixed g.ground) g.ground.blocks g.memory a t (load g.world l) r.numbers r.shaped r.is_at;
        shaped = r.shaped;
        readable = subst (λ n. Readable x sites y.linked g.memory a n) (bytes_is (load g.world l) t r.numbers r.shaped) r.readable;
      }

  -- the text of a literal
  linked_stored : (l : Location) (a : ℕ) (t : Shape) → AreBits t → FromLinked g.ground l a t → IsStoredAt (load g.world l) a t
  linked_stored l a t (inl numbers) f = record {
    stored = at_numbers (is_fixed g.ground) g.ground.blocks g.memory a t (load g.world l) numbers (linked_shaped x g y l a t f)
        (linked_numbers x g y l a t f numbers);
    shaped = linked_shaped x g y l a t f;
    readable = linked_readable x g y l a t f;
  }
  linked_stored l a t (inr text) f =
      let r = linked_text x g y l a (subst (FromLinked g.ground l a) text f) in
      record {
        stored = subst (λ s. Stored (is_fixed g.ground) g.ground.blocks g.memory a s (load g.world l)) (sym text)
            (subst (Stored (is_fixed g.ground) g.ground.blocks g.memory a block) (sym r.1) r.2);
        shaped = linked_shaped x g y l a t f;
        readable = linked_readable x g y l a t f;
      }

  -- what a line reads at a location, where all of it is there: it is stored, or a part of a constant

  pub record IsLinked (there : Where) (a : ℕ) (t : Shape) : Type 0 where
    pub location : Location
    pub is : there ≡ Located location
    pub from : FromLinked g.ground location a t

  pub stored_or_linked : (c : Call) → AmongCalls c (calls_of g) → AmongSites c.site (sites_of g) → (there : Where) (a : ℕ) (t : Shape)
      → is_full_at g.world (location_at c.temps there) ≡ true → Leads x.table x.blocks (sites_of g) g.ground g.world c.site c.temps there a t
      → IsStoredAt (load g.world (location_at c.temps there)) a t ⊎ IsLinked there a t
  stored_or_linked c i s (Located location) a t full (inl l) = inl (owned_stored location a t (inl l) full)
  stored_or_linked c i s (Located location) a t full (inr (inl (inl l))) = inl (constant_stored location a t l)
  stored_or_linked c i s (Located location) a t full (inr (inl (inr l))) = inr (record { location = location; is = refl; from = l })
  stored_or_linked c i s (Located location) a t full (inr (inr (inl l))) = inl (owned_stored location a t (inr (inl l)) full)
  stored_or_linked c i s (Located location) a t full (inr (inr (inr l))) =
      inl (leading_stored location a t (inl (waiting_home x g y location a t l (full_there location full).1)) full
      (lying_readable x (sites_of g) y.linked g.memory a (shape_bytes t) y.memory (waiting_lying location a t l)))
  stored_or_linked c i s (Within temp path) a t full l =
      let at : Location = record { base = Made l.value; path = path; through = None } in
      inl (subst (λ o. IsStoredAt (part (if_value o) path) a t) (sym l.has)
      (leading_stored at a t (inl (value_home x g y c i temp path a t l))
      (subst (λ o. is_full_at g.world (record { base = Made (if_value o); path = path; through = None }) ≡ true) l.has full)
      (lying_readable x (sites_of g) y.linked g.memory a (shape_bytes t) y.memory (value_lying c s temp path a t l))))

  pub led_stored : (c : Call) → AmongCalls c (calls_of g) → AmongSites c.site (sites_of g) → (there : Where) (a : ℕ) (t : Shape) → AreBits t
      → is_full_at g.world (location_at c.temps there) ≡ true → Leads x.table x.blocks (sites_of g) g.ground g.world c.site c.temps there a t
      → IsStoredAt (load g.world (location_at c.temps there)) a t
  led_stored c i s there a t bits full l = by (stored_or_linked c i s there a t full l)
    where
      by : IsStoredAt (load g.world (location_at c.temps there)) a t ⊎ IsLinked there a t → IsStoredAt (load g.world (location_at c.temps there)) a t
      by (inl r) = r
      by (inr p) = subst (λ z. IsStoredAt (load g.world (location_at c.temps z)) a t) (sym p.is) (linked_stored p.location a t bits p.from)

  -- one of numbers
  pub led_located : (c : Call) → AmongCalls c (calls_of g) → AmongSites c.site (sites_of g) → (there : Where) (a : ℕ) (t : Shape) → of_numbers t ≡ true
      → is_full_at g.world (location_at c.temps there) ≡ true → Leads x.table x.blocks (sites_of g) g.ground g.world c.site c.temps there a t
      → ReadHere (load g.world (location_at c.temps there)) a t
  led_located c i s there a t numbers full l =
      read_numbers (load g.world (location_at c.temps there)) a t numbers
      (led_stored c i s there a t (inl numbers) full l)

  -- an array there
  leading_row : (l : Location) (a n : ℕ) (s : Shape) → Leading l a (row n s) → is_seen g.world l ≡ true → RowRead (load g.world l) n
  leading_row l a n s f seen =
      let p = and_parts (is_there g.world l) (is_whole g.world (load g.world l)) seen in
      stored_row g.world (is_fixed g.ground) g.ground.blocks g.memory a n s (load g.world l)
      (read_at (is_fixed g.ground) (HomeOf x g) (homes_apart x g y) g.ground.blocks g.world g.memory (good_homes x g y) l a (row n s) f p.0) p.1

  pub led_row : (c : Call) → AmongCalls c (calls_of g) → (there : Where) (a n : ℕ) (s : Shape) → is_seen g.world (location_at c.temps there) ≡ true
      → Leads x.table x.blocks (sites_of g) g.ground g.world c.site c.temps there a (row n s) → RowRead (load g.world (location_at c.temps there)) n
  led_row c i (Located location) a n s seen (inl l) = leading_row location a n s (owned_to x g y location a (row n s) (inl l)) seen
  led_row c i (Located location) a n s seen (inr (inl (inl l))) = row_parts (load g.world location) n s (constant_located location a (row n s) l).shaped
  led_row c i (Located location) a n s seen (inr (inl (inr l))) = row_parts (load g.world location) n s (linked_shaped x g y location a (row n s) l)
  led_row c i (Located location) a n s seen (inr (inr (inl l))) = leading_row location a n s (owned_to x g y location a (row n s) (inr (inl l))) seen
  led_row c i (Located location) a n s seen (inr (inr (inr l))) =
      let p = and_parts (is_there g.world location) (is_whole g.world (load g.world location)) seen in
      leading_row location a n s (inl (waiting_home x g y location a (row n s) l p.1)) seen
  led_row c i (Within temp path) a n s seen l =
      let at : Location = record { base = Made l.value; path = path; through = None } in
      subst (λ o. RowRead (part (if_value o) path) n) (sym l.has)
      (leading_row at a n s (inl (value_home x g y c i temp path a (row n s) l))
      (subst (λ o. is_seen g.world (record { base = Made (if_value o); path = path; through = None }) ≡ true) l.has seen))
