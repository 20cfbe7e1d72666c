-- What lines read by bits, whatever it has: the value of a temporary, or what stands at a location. It is no word, so it lies in memory.
use Rattle.std.proofs.Common.{◌≡◌, inl, ℕ, ◌≤◌, List, Some, true, false, refl, sym, ap, subst, ◌∙◌}
use Rattle.nim_meaning.specs.Values.{Value, bytes}
use Rattle.nim_meaning.specs.State.{is_full_at, load}
use Rattle.nim_types.specs.Table.{facts_in}
use Rattle.flat_code.specs.declared.block.BlockLine.{BlockLine}
use Rattle.flat_code.specs.Scene.{Where, location_at}
use Rattle.flat_code.specs.Shapes.{Shape, has_shape, shape_of}
use Rattle.word_lowering.specs.declared.homes.Home.{Home}
use Rattle.word_lowering.specs.declared.homes.Housed.{Housed}
use Rattle.word_lowering.specs.declared.spots.Spot.TheVariants.{Lies}
use Rattle.word_lowering.specs.LineCode.{location}
use Rattle.word_lowering.specs.Spots.{spot_of}
use Rattle.word_lowering.proofs.AddressFacts.{at_homed, high_in_memory, in_memory}
use Rattle.word_lowering.proofs.BitMoves.{Bits}
use Rattle.word_lowering.proofs.FullValues.{stored_bytes}
use Rattle.word_lowering.proofs.Keeping.{from_home, points_there, spot_memory}
use Rattle.word_lowering.proofs.Lines.{Basis, IsGood, all_sites, starts}
use Rattle.word_lowering.proofs.Located.{AreBits, led_stored}
use Rattle.word_lowering.proofs.LocationHouses.{homed_house}
use Rattle.word_lowering.proofs.Moves.{high_behind}
use Rattle.word_lowering.proofs.Related.{Both, body_of, store_of}
use Rattle.word_lowering.proofs.Scenes.{IsNamed, IsThere, StoredIn, address_of, house, is_fixed, looked, of_location, of_value}
use Rattle.word_lowering.proofs.ShapeFacts.{shape_bytes}
use Rattle.word_lowering.proofs.Sites.{around, is_one_word, looks}
use Rattle.word_lowering.proofs.SitesApart.{houses}
use Rattle.word_lowering.proofs.Sources.{lying_all, lying_readable}
use Rattle.word_lowering.proofs.StoredLater.{shape_some}
use Rattle.word_lowering.proofs.ValueFacts.{IsHomed}

module _ (x : Basis) (g : Both) (line : BlockLine) (rest : List BlockLine) (y : IsGood x (starts g line rest)) where
  -- a value of a shape lies in memory, where the code says
  pub record LiesAs (h : Housed) (s : Shape) (v : Value) : Type 0 where
    pub home : Home
    pub lies : spot_of h ≡ Lies home
    pub word : h.is_word ≡ false
    pub size : h.bytes ≡ shape_bytes s
    pub address : ℕ
    pub bits : Bits x g line rest y home address (shape_bytes s)
    pub stored : StoredIn (store_of g) address s v
    pub shaped : has_shape v s ≡ true

  -- it has as many bytes as its shape
  pub bytes_of : {h : Housed} {s : Shape} {v : Value} → LiesAs h s v → bytes v ≡ shape_bytes s
  bytes_of {h} {s} {v} r = stored_bytes (is_fixed g.ground) g.ground.blocks g.memory r.address s v r.stored r.shaped

  pub some_bytes : {h : Housed} {s : Shape} {v : Value} → LiesAs h s v → 4 ≤ bytes v
  some_bytes {h} {s} {v} r = subst (λ n. 4 ≤ n) (sym (bytes_of r)) (shape_some s)

  -- the value of a temporary that has a home
  pub value_lies : (t : ℕ) (v : Value) → IsThere g.call.site (of_value t) → is_one_word (looked x.table g.call.site (of_value t)) ≡ false
      → g.call.temps.values t ≡ Some v → LiesAs (house g.call.site (of_value t)) (looked x.table g.call.site (of_value t)) v
  value_lies t v there many has =
      let s : Shape = looked x.table g.call.site (of_value t) in
      let home : Home = (house g.call.site (of_value t)).home in
      let address : ℕ = address_of g.call.site.base (house g.call.site (of_value t)).home in
      let item = y.hold.0.items (of_value t) v there has in
      let inside = in_memory x g line rest y (of_value t) there item.plain many in
      let h = houses x.table x.blocks g.call.site (of_value t) y.linked.0 there in
      record {
        home = home;
        lies = spot_memory (house g.call.site (of_value t)) item.plain inside;
        word = sym h.word ∙ many;
        size = sym h.bytes;
        address = address;
        bits = record {
          high = high_behind home (high_in_memory home inside);
          points = points_there g.call.site.base g.call.vars home inside;
          readable = lying_readable x (all_sites x g line rest y) y.linked g.memory address (shape_bytes s) y.memory
              (lying_all x (all_sites x g line rest y) y.linked g.call.site (of_value t) (shape_bytes s) (inl refl) there inside (sym h.bytes));
        };
        stored = from_home (store_of g) g.call.site.base g.call.vars s (house g.call.site (of_value t)) v item.plain inside item.at;
        shaped = item.shaped refl;
      }

  -- what stands at a location, where all of it is there
  pub location_lies : (t : ℕ) (there : Where) → IsNamed g.call.site (of_location t) → IsHomed x g.call.site t → g.call.temps.places t ≡ Some there
      → is_one_word (looked x.table g.call.site (of_location t)) ≡ false → AreBits (looked x.table g.call.site (of_location t))
      → is_full_at g.world (location_at g.call.temps there) ≡ true → LiesAs (location (around x.table x.blocks (body_of g)) t) (looked x.table g.call.site
      (of_location t))
      (load g.world (location_at g.call.temps there))
  location_lies t there n homed e many are full =
      let s : Shape = looked x.table g.call.site (of_location t) in
      let a = at_homed x g line rest y t there n homed e many in
      let r = led_stored x (starts g line rest) y g.call (inl refl) (inl refl) there a.address s are full a.leads_to in
      let h = homed_house x g line rest y t there n homed e in
      let look : looks x.table (location (around x.table x.blocks (body_of g)) t) ≡ s = ap (shape_of (facts_in x.table)) h.typed in
      record {
        home = a.home;
        lies = a.lies;
        word = sym h.housed.word ∙ (ap is_one_word look ∙ many);
        size = sym h.housed.bytes ∙ ap shape_bytes look;
        address = a.address;
        bits = record { high = high_behind a.home a.high_is; points = a.points; readable = r.readable };
        stored = r.stored;
        shaped = r.shaped;
      }
