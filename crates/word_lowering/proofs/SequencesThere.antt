-- The handle of a sequence stands where a location leads that may be written.
use Rattle.nim_meaning.specs.Values.{Handle, Location}
use Rattle.word_code.specs.Memory.{own_data_at}
use Rattle.heap_memory.proofs.ForCallers.{is_there as block_is_there, size_within}
use Rattle.word_lowering.proofs.TooLong.{largest}
use Rattle.heap_memory.specs.SequenceRoutines.{most_payload}
use Rattle.word_lowering.proofs.SequenceRows.{Mine}
use Rattle.word_lowering.specs.declared.homes.Home.{Home as Place}
use Rattle.word_lowering.proofs.Lines.{Basis, IsGood, all_sites, starts}
use Rattle.flat_code.specs.declared.block.BlockLine.{BlockLine}
use Rattle.word_lowering.proofs.Related.{Both}
use Rattle.word_lowering.proofs.Scenes.{FromOwned, is_fixed}
use Rattle.word_lowering.proofs.GoodHomes.{HomeOf, good_homes, homes_apart}
use Rattle.word_lowering.proofs.TextRowRuns.{IsAt}
use Rattle.word_lowering.proofs.Blocks.{IsHandle, Stored}
use Rattle.word_lowering.proofs.BaseValues.{IsOwn}
use Rattle.word_lowering.proofs.BlockHomes.{LeadsTo, read_at}
use Rattle.std.proofs.Common.{List, None, Option, Some, ap, arith, inl, inr, le_refl, mul-le-mul, subst, sym, true, ℕ, ◌*◌, ◌<◌, ◌^◌, ◌≡◌, ◌≤◌}
use Rattle.heap_memory.specs.HandleRoutines.{MayHave}
use Rattle.word_lowering.proofs.SequencesPut.{OrEmpty, block_of_sequence, or_empty}
use Rattle.flat_code.specs.Shapes.{Shape, elements}
use Rattle.word_lowering.proofs.SequenceOperands.{elements_there, sequence_block}
use Rattle.nim_meaning.specs.State.{is_there, is_whole, load}
use Rattle.word_lowering.proofs.Located.{owned_readable}
use Rattle.word_lowering.proofs.GoodLeads.{owned_to}
use Rattle.word_lowering.proofs.ShapeFacts.{shape_bytes}
use Rattle.word_lowering.proofs.StoredLater.{shape_some}

module _ (x : Basis) (g : Both) (line : BlockLine) (rest : List BlockLine) (y : IsGood x (starts g line rest)) where
  abbrev here : Both
  here = starts g line rest

  pub record SequenceThere (l : Location) (n : ℕ) (k : Option ℕ) (s : Shape) (home : Place) : Type 0 where
    pub is : load g.world l ≡ Handle n k
    pub live : is_there g.world l ≡ true
    pub whole : is_whole g.world (Handle n k) ≡ true
    pub address : ℕ
    pub owned : FromOwned x.table (all_sites x g line rest y) g.ground g.world l address (elements s)
    pub at_home : IsAt g.call.site.base g.call.vars home address

  abbrev pub BlockOf : Shape → ℕ → Option ℕ → Type 0
  BlockOf s n k = block_of_sequence (is_fixed g.ground) x.law g.ground.blocks g.world g.memory y.heap y.memory.sized y.memory.bytes s n k

  module _ (l : Location) (n : ℕ) (k : Option ℕ) (s : Shape) (home : Place) (q : SequenceThere l n k s home) where
    pub can_have : MayHave g.memory q.address
    can_have = let area = (owned_readable x here y l q.address (elements s) q.owned q.live).area 2 (omega arith) in (area.0.may, area.1.0.may)

    abbrev pub leads : LeadsTo (is_fixed g.ground) (HomeOf x here) (homes_apart x here y) g.ground.blocks l q.address (elements s)
    leads = owned_to x here y l q.address (elements s) q.owned

    pub handle_is : IsHandle g.ground.blocks g.memory q.address (elements s) n k
    handle_is =
        subst (λ v. Stored (is_fixed g.ground) g.ground.blocks g.memory q.address (elements s) v) q.is
        (read_at (is_fixed g.ground) (HomeOf x here) (homes_apart x here y) g.ground.blocks g.world g.memory (good_homes x here y) l q.address (elements s)
        leads q.live)

    pub block_is : BlockOf s n k
    block_is = by k handle_is q.whole
      where
        by : (k : Option ℕ) → IsHandle g.ground.blocks g.memory q.address (elements s) n k → is_whole g.world (Handle n k) ≡ true → BlockOf s n k
        by None h whole = tt
        by (Some i) h whole = sequence_block (is_fixed g.ground) g.ground.blocks g.world g.memory y.heap s q.address n i h whole

    -- all of its elements are in the heap
    pub bytes_short : n * shape_bytes s < 2 ^ 31
    bytes_short = by k handle_is block_is
      where
        by : (k : Option ℕ) → IsHandle g.ground.blocks g.memory q.address (elements s) n k → BlockOf s n k → n * shape_bytes s < 2 ^ 31
        by None h t = let e = ap (λ i. i * shape_bytes s) h.empty in omega (arith, e)
        by (Some i) h t =
            let room = (elements_there (is_fixed g.ground) g.ground.blocks g.world g.memory y.heap s n i t).1 in
            let there = block_is_there own_data_at g.world.heap.classes g.ground.blocks.stands g.memory y.heap.kept i t.is.standing t.is.stands
            y.memory.sized in
            let low = there.low in
            let high = there.high in
            let most = y.memory.sized.heap_most in
            omega (arith, room, low, high, most)

    -- and in one block
    pub elements_fit : n * shape_bytes s ≤ most_payload
    elements_fit = by k handle_is block_is
      where
        by : (k : Option ℕ) → IsHandle g.ground.blocks g.memory q.address (elements s) n k → BlockOf s n k → n * shape_bytes s ≤ most_payload
        by None h t = let e = ap (λ i. i * shape_bytes s) h.empty in omega (arith, e)
        by (Some i) h t =
            let room = (elements_there (is_fixed g.ground) g.ground.blocks g.world g.memory y.heap s n i t).1 in
            let there = block_is_there own_data_at g.world.heap.classes g.ground.blocks.stands g.memory y.heap.kept i t.is.standing t.is.stands
            y.memory.sized in
            let whole = there.whole in
            let least = there.sized in
            let all = size_within t.is.standing.class 20 (omega (arith, least)) in
            omega (arith, room, whole, all, largest)

    pub length_short : n < 2 ^ 31
    length_short =
        let short = bytes_short in
        let le : n * 1 ≤ n * shape_bytes s = mul-le-mul (le_refl n) (let some = shape_some s in omega (arith, some)) in
        omega (arith, short, le)

    abbrev pub empty_or : OrEmpty (is_fixed g.ground) x.law g.ground.blocks g.world g.memory y.heap y.memory.sized y.memory.bytes s q.address n k
    empty_or = or_empty (is_fixed g.ground) x.law g.ground.blocks g.world g.memory y.heap y.memory.sized y.memory.bytes s q.address n k handle_is

    pub some_bytes : 0 < shape_bytes s
    some_bytes = let some = shape_some s in omega (arith, some)

    abbrev pub IsMine : FromOwned x.table (all_sites x g line rest y) g.ground g.world l q.address (elements s) → Type 0
    IsMine f =
        Mine (is_fixed g.ground) (HomeOf x here) (homes_apart x here y) x.law g.ground.blocks g.world g.memory (good_homes x here y) y.memory.bytes l q.address
        n k q.is s (owned_to x here y l q.address (elements s) f) empty_or block_is some_bytes

    pub mine : (f : FromOwned x.table (all_sites x g line rest y) g.ground g.world l q.address (elements s)) → IsMine f
    mine (inl f) = subst IsOwn (sym f.base) tt
    mine (inr (inl f)) = tt
    mine (inr (inr f)) = subst IsOwn (sym f.from.base) tt
