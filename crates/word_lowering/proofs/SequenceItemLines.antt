-- Where the elements are of a sequence at a location: in its block, or in the data where it is in a constant. One of them, by its index: the line is followed.
use Rattle.std.proofs.Common.{◌≡◌, inl, inr, ℕ, ◌+◌, ◌*◌, ◌^◌, ◌<◌, ◌≤◌, List, [], Ok, Option, Some, None, true, refl, sym, ap, subst, ◌∙◌, arith}
use Rattle.std.proofs.Common.{le_refl, mul-le-mul}
use Rattle.std.proofs.lemmas.Option.{same_Some}
use Rattle.nim_meaning.specs.Values.{Value, Parts, Handle, Location, Values, count, item_of, length_of}
use Rattle.nim_meaning.specs.State.{is_whole, load}
use Rattle.nim_meaning.specs.Deeds.{Answers}
use Rattle.nim_meaning.specs.Places.{has_items}
use Rattle.flat_code.specs.declared.block.BlockLine.{BlockLine}
use Rattle.flat_code.specs.Scene.{Located, Passes, with_place}
use Rattle.flat_code.specs.Shapes.{Shape, elements}
use Rattle.rv32_isa.specs.declared.micro_op.Size.TheVariants.{Word}
use Rattle.word_code.specs.Memory.{number_at, own_data_at}
use Rattle.heap_memory.specs.HeapState.{Standing}
use Rattle.heap_memory.proofs.ForCallers.{is_there as block_is_there}
use Rattle.word_lowering.specs.declared.homes.TheConstants.{OWN_FROM}
use Rattle.word_lowering.specs.declared.homes.Home.{Home as Place}
use Rattle.word_lowering.specs.OwnedCode.{owned_item_code}
use Rattle.word_lowering.proofs.Blocks.{IsHandle, Stored}
use Rattle.word_lowering.proofs.ItemRuns.{item_given}
use Rattle.word_lowering.proofs.LinkedElements.{linked_all, linked_element, linked_ends, linked_few}
use Rattle.word_lowering.proofs.Lines.{Basis, IsGood, Settles, all_sites, starts}
use Rattle.word_lowering.proofs.PartLines.{leads_settles, led_variable}
use Rattle.word_lowering.proofs.Related.{Both}
use Rattle.word_lowering.proofs.Scenes.{FromBlock, FromLinked, IsThere, LeadsHere, is_fixed, is_stood, looked, of_location}
use Rattle.word_lowering.proofs.SequenceOperands.{SequenceBlock, elements_there, sequence_block}
use Rattle.word_lowering.proofs.Settling.{code_here, code_next}
use Rattle.word_lowering.proofs.ShapeFacts.{shape_bytes}
use Rattle.word_lowering.proofs.ShapePaths.{shape_some}
use Rattle.word_lowering.proofs.TextRowRuns.{IsAt}

-- in a block
module _ (x : Basis) (g : Both) (line : BlockLine) (rest : List BlockLine) (y : IsGood x (starts g line rest)) (l : Location) (s : Shape) (n k a : ℕ)
    (whole : is_whole g.world (Handle n (Some k)) ≡ true) (handle : IsHandle g.ground.blocks g.memory a (elements s) n (Some k)) where
  block_is : SequenceBlock (is_fixed g.ground) g.ground.blocks g.world g.memory s n k
  block_is = sequence_block (is_fixed g.ground) g.ground.blocks g.world g.memory y.heap s a n k handle whole

  abbrev place : ℕ
  place = block_is.is.standing.place

  place_read : number_at g.memory (a + 4) Word ≡ Ok place
  place_read = handle.there ∙ ap Ok (handle.is.2 block_is.is.standing block_is.is.stands)

  place_near : place < 2 ^ 32
  place_near =
      let at = handle.is.2 block_is.is.standing block_is.is.stands in
      let near = handle.near in
      omega (arith, at, near)

  -- all of its elements are in the heap
  block_few : n < 2 ^ 31
  block_few =
      let room = (elements_there (is_fixed g.ground) g.ground.blocks g.world g.memory y.heap s n k block_is).1 in
      let there = block_is_there own_data_at g.world.heap.classes g.ground.blocks.stands g.memory y.heap.kept k block_is.is.standing block_is.is.stands
      y.memory.sized in
      let low = there.low in
      let high = there.high in
      let most = y.memory.sized.heap_most in
      let some = shape_some s in
      let less : n * 1 ≤ n * shape_bytes s = mul-le-mul (le_refl n) (omega (arith, some)) in
      omega (arith, room, low, high, most, less)

  -- and have addresses
  element_end : (i : ℕ) → i < n → place + i * shape_bytes s + shape_bytes s < 2 ^ 32
  element_end i less =
      let more : (1 + i) * shape_bytes s ≤ n * shape_bytes s = mul-le-mul (omega (arith, less)) (le_refl (shape_bytes s)) in
      let room = (elements_there (is_fixed g.ground) g.ground.blocks g.world g.memory y.heap s n k block_is).1 in
      let there = block_is_there own_data_at g.world.heap.classes g.ground.blocks.stands g.memory y.heap.kept k block_is.is.standing block_is.is.stands
      y.memory.sized in
      let high = there.high in
      let most = y.memory.sized.heap_most in
      omega (arith, more, room, high, most)

  element_from : (i : ℕ) → i < n → FromBlock g.ground (item_of (Handle n (Some k)) l i) (place + i * shape_bytes s) s
  element_from i less = record {
    block = k;
    base = refl;
    leads = record {
      element = i;
      rest = [];
      of = s;
      offset = 0;
      is = refl;
      born = handle.is.0;
      inside = block_is.inside;
      way = (refl, refl);
      address = λ z stands.
          let same : z ≡ block_is.is.standing = same_Some z block_is.is.standing (sym stands ∙ block_is.is.stands) in
          let at : z.place ≡ place = ap (λ (u : Standing). u.place) same in
          omega (arith, at);
    };
    near = element_end i less;
  }

module _ (x : Basis) (g : Both) (line : BlockLine) (rest : List BlockLine) (y : IsGood x (starts g line rest)) (l : Location) (s : Shape) (a : ℕ) where
  pub record HasElements : Type 0 where
    pub long : ℕ
    pub long_is : length_of (load g.world l) ≡ long
    pub long_at : number_at g.memory a Word ≡ Ok long
    pub few : long < 2 ^ 31
    pub start : ℕ
    pub start_at : number_at g.memory (a + 4) Word ≡ Ok start
    pub start_near : start < 2 ^ 32
    pub may : has_items (load g.world l) l.base ≡ true
    pub ends : (i : ℕ) → i < long → start + i * shape_bytes s + shape_bytes s < 2 ^ 32
    pub leads : (i : ℕ) → i < long → LeadsHere x.table x.blocks (all_sites x g line rest y) g.ground g.world (item_of (load g.world l) l i)
        (start + i * shape_bytes s) s

  pub handle_elements : (n : ℕ) (k : Option ℕ) → load g.world l ≡ Handle n k → is_whole g.world (Handle n k) ≡ true
      → Stored (is_fixed g.ground) g.ground.blocks g.memory a (elements s) (Handle n k) → HasElements
  handle_elements n None is whole stored =
      let none : n ≡ 0 = stored.empty in
      record {
        long = n;
        long_is = ap length_of is;
        long_at = stored.long;
        few = omega (arith, none);
        start = stored.place;
        start_at = stored.there;
        start_near = stored.near;
        may = ap (λ v. has_items v l.base) is;
        ends = λ i less. absurd (omega (arith, less, none));
        leads = λ i less. absurd (omega (arith, less, none));
      }
  handle_elements n (Some k) is whole stored = record {
    long = n;
    long_is = ap length_of is;
    long_at = stored.long;
    few = block_few x g line rest y l s n k a whole stored;
    start = place x g line rest y l s n k a whole stored;
    start_at = place_read x g line rest y l s n k a whole stored;
    start_near = place_near x g line rest y l s n k a whole stored;
    may = ap (λ v. has_items v l.base) is;
    ends = element_end x g line rest y l s n k a whole stored;
    leads = λ i less. subst (λ v. LeadsHere x.table x.blocks (all_sites x g line rest y) g.ground g.world (item_of v l i)
        (place x g line rest y l s n k a whole stored + i * shape_bytes s) s) (sym is)
        (inr (inr (inl (element_from x g line rest y l s n k a whole stored i less))));
  }

  pub linked_elements : FromLinked g.ground l a (elements s) → HasElements
  linked_elements f =
      let all = linked_all x (starts g line rest) y l a s f in
      record {
        long = count all.0;
        long_is = ap length_of all.1;
        long_at = all.2.long;
        few = linked_few x (starts g line rest) y l a s f;
        start = all.2.place;
        start_at = all.2.there;
        start_near = all.2.near;
        may = ap (λ v. has_items v l.base) all.1;
        ends = linked_ends x (starts g line rest) y l a s f;
        leads = λ i less. inr (inl (inr (linked_element x (starts g line rest) y l a s f i less)));
      }

  module _ (e : HasElements) (near : a + 4 < 2 ^ 32) (home : Place) (at_home : IsAt g.call.site.base g.call.vars home a) (to index : ℕ)
      (there_to : IsThere g.call.site (of_location to)) (look : looked x.table g.call.site (of_location to) ≡ s)
      (index_high : OWN_FROM ≤ index) (i : ℕ) (less : i < e.long) (index_is : g.call.vars index ≡ Some i)
      (code : code_here x g line rest y ≡ owned_item_code (led_variable x g line rest y to) home index (shape_bytes s) (code_next x g line rest y)) where
    pub item_settles : Settles x (starts g line rest) rest
        (Passes (Answers [] 1 (with_place to g.call.temps (Located (item_of (load g.world l) l i))) g.world))
    item_settles =
        let end = e.ends i less in
        let few = e.few in
        let item : Location = item_of (load g.world l) l i in
        leads_settles x g line rest y to (Located (item_of (load g.world l) l i)) (e.start + i * shape_bytes s) 1 (omega arith) there_to
        (λ standing. is_stood x.table x.blocks (all_sites x g line rest y) g.ground g.world item (e.start + i * shape_bytes s) s (e.leads i less))
        (inl (subst (LeadsHere x.table x.blocks (all_sites x g line rest y) g.ground g.world item (e.start + i * shape_bytes s)) (sym look) (e.leads i less)))
        (item_given x g line rest y a near e.long e.start e.long_at (omega (arith, few)) e.start_at (omega (arith, end)) home at_home (shape_bytes s)
        (omega (arith, end)) to index index_high i index_is code there_to less (omega (arith, end)))
