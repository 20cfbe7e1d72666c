-- The row that takes the last element of a sequence at a location: what holds of homes behind the routine is what holds in the meaning's world behind the
-- deed.
use Rattle.std.proofs.Common.{◌≡◌, ℕ, suc, ◌*◌, List, length, Some, true, refl, sym, ap, subst, ◌∙◌, arith}
use Rattle.std.proofs.lemmas.Bool.{le-leb}
use Rattle.std.proofs.lemmas.Option.{same_Some}
use Rattle.nim_types.specs.Forms.{Form}
use Rattle.nim_meaning.specs.Values.{Handle, Base, Standing, Waiting, InHand, InBlock, InException, Made, Location, Values, first_of, parts_of}
use Rattle.nim_meaning.specs.Heap.{Contents, Elements, Block, block_at, refilled, with_contents}
use Rattle.nim_meaning.specs.State.{World, object_in, contents_value, load, store, elements_of, is_so_in, has_item, leads_from, is_there}
use Rattle.nim_meaning.specs.Deeds.{perform}
use Rattle.nim_meaning.specs.Lifted.{has_place}
use Rattle.nim_meaning.specs.OwnedRows.{shortened}
use Rattle.flat_code.specs.Shapes.{Shape, elements}
use Rattle.word_code.specs.Memory.{Memory}
use Rattle.word_code.proofs.ForCallers.{MemoryLaw}
use Rattle.heap_memory.specs.TextRoutines.{AreBytes}
use Rattle.heap_memory.specs.SequenceRoutines.{IsPopped}
use Rattle.word_lowering.proofs.ShapeFacts.{shape_bytes}
use Rattle.word_lowering.proofs.Blocks.{Blocks, IsHandle}
use Rattle.word_lowering.proofs.BlockLists.{set_other}
use Rattle.word_lowering.proofs.BlockHomes.{Home, SameOrApart, HomesHold, LeadsTo}
use Rattle.word_lowering.proofs.BlocksBorn.{later_more}
use Rattle.word_lowering.proofs.RowsLeft.{IsLeft, handle_beside}
use Rattle.word_lowering.proofs.BlocksMade.{heap_resized, block_resized, place_same}
use Rattle.word_lowering.proofs.HandlesPut.{LeavesHandle}
use Rattle.word_lowering.proofs.SequenceOperands.{SequenceBlock, elements_there}
use Rattle.word_lowering.proofs.SequencesPut.{pop_use, popped}
use Rattle.word_lowering.proofs.ResizedWorlds.{answered, IsBeside}
use Rattle.word_lowering.proofs.ResizedRows.{IsAway, sequence_away, MayWrite, put_by, beside}
use Rattle.word_lowering.proofs.PoppedRows.{shorter_world, IsShorter}

-- a location leads where it did, beside a block that has other contents
leads_contents : (w : World) (k : ℕ) (c : Contents) (path : List ℕ) (base : Base) → IsBeside base k
    → leads_from (record w { heap = with_contents w.heap k c }) base path ≡ leads_from w base path
leads_contents w k c path (InBlock j) ne = ap (is_so_in (has_item path)) (set_other w.heap.blocks k j (refilled (block_at w.heap k) c) ne)
leads_contents w k c path (Standing level n) ne = refl
leads_contents w k c path (Waiting level n) ne = refl
leads_contents w k c path (InHand i) ne = refl
leads_contents w k c path (InException i) ne = refl
leads_contents w k c path (Made u) ne = refl

module _ (StandsFixed : (place : ℕ) → List ℕ → Type 0) (Homes : Home → Type 0) (apart : (g h : Home) → Homes g → Homes h → SameOrApart g h)
    (law : MemoryLaw) (d : Blocks) (w : World) (m : Memory) (x : HomesHold StandsFixed Homes apart d w m) (are : AreBytes m.heap) (l : Location)
    (to n k : ℕ) (is : load w l ≡ Handle (suc n) (Some k)) (s : Shape) (leads : LeadsTo StandsFixed Homes apart d l to (elements s))
    (h : IsHandle d m to (elements s) (suc n) (Some k)) (b : SequenceBlock StandsFixed d w m s (suc n) k)
  where
    pub there : (j : ℕ) → Some k ≡ Some j → (c : Block) × (block_at w.heap j ≡ Some c)
    there j e = (b.block, ap (block_at w.heap) (sym (same_Some k j e)) ∙ b.there)

    pub away : (j : ℕ) → Some k ≡ Some j → IsAway StandsFixed Homes apart d l to (elements s) j
    away j e = sequence_away StandsFixed Homes apart d l to s j (ap d.inside (sym (same_Some k j e)) ∙ b.inside)

    abbrev pub Mine : Type 0
    Mine = MayWrite StandsFixed Homes apart law d w m x l to (suc n) (Some k) is (elements s) tt leads there away leads

    abbrev left : Values
    left = first_of n b.all

    pub elements_now : elements_of w (load w l) ≡ b.all
    elements_now = ap (elements_of w) is ∙ ap (λ o. parts_of (contents_value o)) b.there ∙ ap (λ c. parts_of (object_in c)) b.contents

    -- its block has room for what is left
    has_true : has_place w (Some k) (n * shape_bytes s) ≡ true
    has_true =
        let room = (elements_there StandsFixed d w m x.heap s (suc n) k b).1 in
        place_same StandsFixed d w m x.heap k b.block b.there b.is (n * shape_bytes s)
        ∙ le-leb (n * shape_bytes s) (length b.is.standing.payload) (omega (arith, room))

    -- the location is there
    pub pop_live : (of : Form) (after : World) → answered (perform (shortened of (suc n) l w) w) ≡ Some after → is_there w l ≡ true
    pop_live of after done =
        sym (leads_contents w k (Elements (first_of n (elements_of w (load w l)))) l.path l.base
        (beside StandsFixed Homes apart law d w m x l to (suc n) (Some k) is (elements s) tt leads there away k refl))
        ∙ (shorter_world of n k l w after is done).live

    pub pop_row : (of : Form) (other : Memory) (after : World) → IsPopped (pop_use StandsFixed law d w m x.heap x.sized are s to n k h b) m other
        → answered (perform (shortened of (suc n) l w) w) ≡ Some after → Mine → IsLeft StandsFixed Homes apart d m after other to 8
    pop_row of other after put done mine =
        let z : IsShorter of n k l w after is (perform (shortened of (suc n) l w) w) = shorter_world of n k l w after is done in
        let live : is_there w l ≡ true = pop_live of after done in
        let y : LeavesHandle StandsFixed d (heap_resized (has_place w (Some k) (n * shape_bytes s)) w.heap (Some k) (n * shape_bytes s) (Elements left)) m
        other to
        (elements s) n (n * shape_bytes s) (block_resized (has_place w (Some k) (n * shape_bytes s)) w.heap (Some k))
        = subst (λ p. LeavesHandle StandsFixed d (heap_resized p w.heap (Some k) (n * shape_bytes s) (Elements left)) m other to (elements s) n
        (n * shape_bytes s) (block_resized p w.heap (Some k))) (sym has_true) (popped StandsFixed law d w m x.heap x.sized are s to n k h b other put) in
        let p = put_by StandsFixed Homes apart law d w m x l to (suc n) (Some k) is (elements s) tt leads there away n (n * shape_bytes s)
        (Elements left) other y live leads mine in
        let same : store (record w { heap = heap_resized (has_place w (Some k) (n * shape_bytes s)) w.heap (Some k) (n * shape_bytes s) (Elements left) }) l
        (Handle n (block_resized (has_place w (Some k) (n * shape_bytes s)) w.heap (Some k))) ≡ after
        = ap (λ q. store (record w { heap = heap_resized q w.heap (Some k) (n * shape_bytes s) (Elements left) }) l
        (Handle n (block_resized q w.heap (Some k))))
        has_true
        ∙ sym (ap (λ vs. store (record w { heap = with_contents w.heap k (Elements (first_of n vs)) }) l (Handle n (Some k))) elements_now) ∙ z.is in
        record {
          later = p.after;
          ahead = later_more d y.after p.after y.ahead p.ahead;
          holds = subst (λ v. HomesHold StandsFixed Homes apart p.after v other) same p.holds;
          rest = handle_beside StandsFixed d (heap_resized (has_place w (Some k) (n * shape_bytes s)) w.heap (Some k) (n * shape_bytes s)
              (Elements left)) m other
              to (elements s) n (n * shape_bytes s) (block_resized (has_place w (Some k) (n * shape_bytes s)) w.heap (Some k)) y;
        }
