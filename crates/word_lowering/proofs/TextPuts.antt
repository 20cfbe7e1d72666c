-- A character is put into a text in a block, where a location leads to it: what is true of blocks and homes then; and what is read there.
use Rattle.std.proofs.Common.{◌≡◌, ◌⊎◌, inl, inr, ℕ, zero, suc, ◌+◌, ◌-◌, ◌^◌, ◌<◌, ◌≤◌, pos, List, [], ◌∷◌, length, take, drop, true, Some, Ok, refl}
use Rattle.std.proofs.Common.{sym, ap, subst, ◌∙◌, arith}
use Rattle.std.specs.Prelude.{◌==◌, slice_set}
use Rattle.std.proofs.lemmas.Bool.{cond-true, eq-eqb, ltb-true}
use Rattle.std.proofs.lemmas.Int.{ints}
use Rattle.std.proofs.lemmas.List.{length-drop, take_all}
use Rattle.std.proofs.lemmas.Option.{same_Some}
use Rattle.nim_program.specs.Ints.{low_byte}
use Rattle.nim_meaning.specs.Values.{Number, Fixed, InBlock, Location, part, put_part}
use Rattle.nim_meaning.specs.Heap.{Contents, Characters, Elements, Object, Heap, with_contents}
use Rattle.nim_meaning.specs.State.{World, has_item, is_there, leads_from, load, store, stored, whole_at, contents_value, object_in, new_contents}
use Rattle.nim_meaning.specs.State.{with_value_in}
use Rattle.flat_code.specs.Shapes.{Shape}
use Rattle.rv32_isa.specs.Image.{heap_at}
use Rattle.rv32_isa.specs.declared.micro_op.Size.TheVariants.{Byte}
use Rattle.word_code.specs.Memory.{Memory, bytes_at, number_at, own_data_at}
use Rattle.word_code.specs.RoutineTable.{Beside, IsRewritten}
use Rattle.heap_memory.specs.HeapState.{Standing as BlockStanding}
use Rattle.heap_memory.specs.HeapUse.{IsRefilled, IsThere}
use Rattle.heap_memory.specs.TextRoutines.{AreBytes}
use Rattle.heap_memory.proofs.ForCallers.{is_there as block_is_there, refilled}
use Rattle.word_lowering.proofs.BlockHomes.{BlockRead, Home, HomesHold, IsChangedInside, SameOrApart, block_read, with_heap_after}
use Rattle.word_lowering.proofs.BlockLists.{set_length}
use Rattle.word_lowering.proofs.BlockPaths.{LeadsInText}
use Rattle.word_lowering.proofs.BlockWrites.{Put}
use Rattle.word_lowering.proofs.Blocks.{AreLater, Blocks, Bytes, HasContents, IfBlockThere, IsBlockThere}
use Rattle.word_lowering.proofs.BlocksKept.{payload_part}
use Rattle.word_lowering.proofs.ByteWords.{BytePut}
use Rattle.word_lowering.proofs.HeapKept.{two_memories}
use Rattle.word_lowering.proofs.HeapsThen.{heap_filled, later_filled, with_filled}
use Rattle.word_lowering.proofs.PayloadBytes.{bytes_front, payload_bytes}
use Rattle.word_lowering.proofs.TextLetters.{ByteAt, Letter, byte_at, letter_at, set_by, set_front}
use Rattle.word_lowering.proofs.TextsInBlocks.{payload_front, take_long}

-- what a block has that holds characters
record HasCharacters (x : BlockStanding) (c : Contents) : Type 0 where
  text : List ℕ
  is : c ≡ Characters text
  front : take (length text) x.payload ≡ text

-- the lowest eight bits of a number below 256 are all of it
low_same : (c : ℕ) → c < 256 → low_byte (pos c) ≡ c
low_same c small = omega (arith, ints, small)

module _ (StandsFixed : (place : ℕ) → List ℕ → Type 0) (Homes : Home → Type 0) (apart : (g h : Home) → Homes g → Homes h → SameOrApart g h) (d : Blocks)
    (w : World) (m : Memory) (x : HomesHold StandsFixed Homes apart d w m) (l : Location) (a k : ℕ) (t : Shape) (base : l.base ≡ InBlock k)
    (leads : LeadsInText d k l.path a t) (live : is_there w l ≡ true) where
  read : BlockRead StandsFixed Homes apart d w m x k l.path
  read = block_read StandsFixed Homes apart d w m x k l.path leads.born (subst (λ b. leads_from w b l.path ≡ true) base live)

  here : IsBlockThere StandsFixed d m k read.block
  here = subst (λ o. IfBlockThere StandsFixed d m k o) read.there (x.heap.blocks k)

  has : HasCharacters here.standing read.block.contents
  has = by read.block.contents (subst (λ i. HasContents StandsFixed d m here.standing i read.block.contents) leads.inside here.holds)
    where
      by : (c : Contents) → HasContents StandsFixed d m here.standing Bytes c → HasCharacters here.standing c
      by (Characters text) h = record { text = text; is = refl; front = h }
      by (Elements vs) h = absurd h
      by (Object of v) h = absurd h

  position_in : leads.position < length has.text
  position_in = ltb-true leads.position (length has.text)
      (subst (λ c. has_item (leads.position ∷ []) c ≡ true) has.is (subst (λ p. has_item p read.block.contents ≡ true) leads.is read.has))

  long : length has.text ≤ length here.standing.payload
  long = take_long (length has.text) here.standing.payload (ap length has.front)

  at_place : a ≡ here.standing.place + leads.position
  at_place = leads.address here.standing here.stands

  whole : whole_at w l.base ≡ Fixed has.text
  whole = ap (whole_at w) base ∙ ap contents_value read.there ∙ ap object_in has.is

  there : IsThere m here.standing
  there = block_is_there own_data_at w.heap.classes d.stands m x.heap.kept k here.standing here.stands x.sized

  -- ---- what is read

  pub record LetterRead : Type 0 where
    pub letter : ℕ
    pub is : load w l ≡ Number (pos letter)
    pub small : letter < 256
    pub reads : number_at m a Byte ≡ Ok letter
    pub near : a < 2 ^ 32

  pub letter_read : AreBytes m.heap → LetterRead
  letter_read are =
      let r : Letter has.text leads.position = letter_at has.text leads.position position_in in
      let bytes : AreBytes has.text
      = subst AreBytes has.front (bytes_front (length has.text) here.standing.payload (payload_bytes m x.sized are here.standing there)) in
      let b : ByteAt m x.sized (here.standing.place + leads.position) r.letter
      = byte_at m x.sized here.standing.place has.text (payload_front m x.sized here.standing there has.text has.front) leads.position position_in r in
      let e = at_place in
      let near = b.small in
      record {
        letter = r.letter;
        is = ap (λ v. part v l.path) whole ∙ ap (part (Fixed has.text)) leads.is ∙ r.is;
        small = r.small bytes;
        reads = ap (λ n. number_at m n Byte) e ∙ b.reads;
        near = omega (arith, e, near);
      }

  -- it is in the heap
  pub letter_range : (heap_at ≤ a) × (a + 1 ≤ heap_at + length m.heap)
  letter_range =
      let e = at_place in
      let low = there.low in
      let high = there.high in
      let less = position_in in
      let fits = long in
      (omega (arith, e, low), omega (arith, e, high, less, fits))

  -- ---- what is put

  module _ (other : Memory) (c : ℕ) (p : BytePut m other a c) where
    abbrev text : List ℕ
    text = slice_set has.text leads.position c

    rewritten : IsRewritten m other (here.standing.place + leads.position) 1
    rewritten = subst (λ n. IsRewritten m other n 1) at_place p.rewritten

    is_refilled : IsRefilled own_data_at w.heap.classes d.stands k here.standing other
    is_refilled = refilled own_data_at w.heap.classes d.stands m x.heap.kept x.sized other p.sized k here.standing leads.position 1 here.stands
        (let less = position_in in let fits = long in omega (arith, less, fits)) rewritten

    abbrev new_standing : BlockStanding
    new_standing = record here.standing { payload = is_refilled.payload }

    abbrev after : Blocks
    after = with_filled d k new_standing

    ahead : AreLater d after
    ahead = later_filled StandsFixed d w.heap m other (two_memories StandsFixed d w.heap m other x.sized p.sized x.heap p.rewritten.sizes.heap) k read.block
        read.there new_standing here refl refl refl refl (Characters [])

    there_then : IsThere other new_standing
    there_then = block_is_there own_data_at w.heap.classes after.stands other is_refilled.heap k new_standing
        (cond-true (k == k) (Some new_standing) (d.stands k) (eq-eqb k k refl)) p.sized

    -- parts of the payload beside that byte
    part_same : (o n : ℕ) → o + n ≤ length here.standing.payload → (o + n ≤ leads.position) ⊎ (leads.position + 1 ≤ o)
        → take n (drop o is_refilled.payload) ≡ take n (drop o here.standing.payload)
    part_same o zero within apart = refl
    part_same o (suc n) within apart =
        let same = is_refilled.long in
        same_Some (take (suc n) (drop o is_refilled.payload)) (take (suc n) (drop o here.standing.payload))
        (sym (payload_part other p.sized new_standing there_then o (suc n) (omega arith) (omega (arith, within, same)))
        ∙ rewritten.beside (here.standing.place + o) (suc n) (beside apart)
        ∙ payload_part m x.sized here.standing there o (suc n) (omega arith) within)
      where
        beside : (o + suc n ≤ leads.position) ⊎ (leads.position + 1 ≤ o)
            → Beside (here.standing.place + o) (suc n) (here.standing.place + leads.position) 1
        beside (inl h) = inl (omega (arith, h))
        beside (inr h) = inr (omega (arith, h))

    -- the payload differs in that byte alone
    payload_is : is_refilled.payload ≡ slice_set here.standing.payload leads.position c
    payload_is =
        let i : ℕ = leads.position in
        let less = position_in in
        let fits = long in
        let same = is_refilled.long in
        let rest : ℕ = length here.standing.payload - suc i in
        let all_of : (xs : List ℕ) → length xs ≡ length here.standing.payload → take rest (drop (suc i) xs) ≡ drop (suc i) xs
        = λ xs e. take_all rest (drop (suc i) xs) (let f = length-drop (suc i) xs in omega (arith, e, f)) in
        set_by here.standing.payload is_refilled.payload i c (omega (arith, less, fits)) (part_same 0 i (omega (arith, less, fits)) (inl (omega arith)))
        (same_Some (take 1 (drop i is_refilled.payload)) (c ∷ [])
        (sym (payload_part other p.sized new_standing there_then i 1 (omega arith) (omega (arith, less, fits, same)))
        ∙ ap (λ n. bytes_at other n 1) (sym at_place) ∙ p.here))
        (sym (all_of is_refilled.payload same) ∙ part_same (suc i) rest (omega (arith, less, fits)) (inr (omega arith))
        ∙ all_of here.standing.payload refl)

    holds_text : HasContents StandsFixed after other new_standing (d.inside k) (Characters text)
    holds_text = subst (λ i. HasContents StandsFixed after other new_standing i (Characters text)) (sym leads.inside)
        (ap (λ n. take n is_refilled.payload) (set_length has.text leads.position c) ∙ ap (take (length has.text)) payload_is
        ∙ set_front (length has.text) here.standing.payload leads.position c ∙ ap (λ xs. slice_set xs leads.position c) has.front)

    abbrev heap_now : Heap
    heap_now = with_contents w.heap k (Characters text)

    world_is : store w l (Number (pos c)) ≡ record w { heap = heap_now }
    world_is =
        ap (λ b. stored w b (put_part (whole_at w b) l.path (Number (pos c)))) base
        ∙ ap (λ o. record w { heap = with_value_in w.heap k o (put_part (contents_value o) l.path (Number (pos c))) }) read.there
        ∙ ap (λ q. record w { heap = with_contents w.heap k (new_contents read.block.contents (put_part (object_in read.block.contents) q (Number (pos c)))) })
        leads.is
        ∙ ap (λ i. record w { heap = with_contents w.heap k (new_contents i (put_part (object_in i) (leads.position ∷ []) (Number (pos c)))) }) has.is
        ∙ ap (λ n. record w { heap = with_contents w.heap k (Characters (slice_set has.text leads.position n)) }) (low_same c p.small)

    beside_heap : IsChangedInside m other
    beside_heap = record { long = p.rewritten.sizes.heap; beside = λ b n own heap. p.rewritten.beside b n (narrow b n heap) }
      where
        narrow : (b n : ℕ) → Beside b n heap_at (length m.heap) → Beside b n a 1
        narrow b n (inl h) = let r = letter_range in inl (omega (arith, r.0, h))
        narrow b n (inr h) = let r = letter_range in inr (omega (arith, r.1, h))

    -- blocks and homes then
    pub letter_put : Put StandsFixed Homes apart d w m x l (Number (pos c)) other
    letter_put = record {
      after = after;
      ahead = ahead;
      holds = subst (λ v. HomesHold StandsFixed Homes apart after v other) (sym world_is)
          (with_heap_after StandsFixed Homes apart d w m x after ahead other p.sized beside_heap heap_now
          (heap_filled StandsFixed d w.heap m other (two_memories StandsFixed d w.heap m other x.sized p.sized x.heap p.rewritten.sizes.heap) k read.block
          read.there new_standing here refl refl refl refl (Characters text) is_refilled.heap holds_text));
    }
