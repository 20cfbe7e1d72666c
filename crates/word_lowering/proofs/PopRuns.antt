-- The row that takes the last element of a sequence: what its word code does, by what its deed comes to.
use Rattle.std.proofs.Common.{◌≡◌, ◌≢◌, inl, inr, ℕ, suc, ◌+◌, ◌*◌, ◌%◌, ◌^◌, ◌<◌, ◌≤◌, List, [], ◌∷◌, length, Some, true, mul-le-mul, le_refl}
use Rattle.std.proofs.Common.{refl, sym, ap, subst, ◌∙◌, arith}
use Rattle.std.proofs.lemmas.Option.{same_Some}
use Rattle.nim_types.specs.Forms.{Form, size as form_size}
use Rattle.nim_meaning.specs.Values.{Value, Handle, Location, block_of, count, is_full, item_of, nth, first_of}
use Rattle.nim_meaning.specs.Heap.{Elements}
use Rattle.nim_meaning.specs.State.{World, load, elements_of, is_full_at, is_there}
use Rattle.nim_meaning.specs.Deeds.{Deed, Errs, give, perform, refills, sets, takes, ◌>>◌}
use Rattle.nim_meaning.specs.OwnedRows.{shortened}
use Rattle.flat_code.specs.Shapes.{Shape, elements}
use Rattle.rv32_isa.specs.Image.{heap_at}
use Rattle.rv32_isa.specs.Machine.{Lives}
use Rattle.word_code.specs.declared.word.WordInstr.{WordInstr}
use Rattle.word_code.specs.declared.word.WordProc.{WordProc}
use Rattle.word_code.specs.Memory.{Memory, own_data_at}
use Rattle.word_code.specs.RoutineTable.{Beside}
use Rattle.word_code.specs.Words.{Vars, put}
use Rattle.word_code.proofs.ForCallers.{MemoryLaw, Within, at}
use Rattle.heap_memory.specs.HeapRoutines.{IsKeptThere}
use Rattle.heap_memory.specs.HeapRuntime.{HeapRoutineName, PopsElement, heap_routine}
use Rattle.heap_memory.specs.HeapState.{Standing as BlockStanding}
use Rattle.heap_memory.specs.HeapUse.{AreDistant, IsThere}
use Rattle.heap_memory.specs.HandleRoutines.{MayHave}
use Rattle.heap_memory.specs.SequenceRoutines.{pops_element}
use Rattle.heap_memory.specs.TextRoutines.{AreBytes}
use Rattle.heap_memory.proofs.ForCallers.{distant, is_there as block_is_there}
use Rattle.word_lowering.specs.declared.homes.TheConstants.{FIFTH}
use Rattle.word_lowering.specs.declared.homes.Home.{Home as Place}
use Rattle.word_lowering.specs.declared.handed.Handed.TheVariants.{Where, Number}
use Rattle.word_lowering.specs.RoutineCode.{pop_code}
use Rattle.word_lowering.proofs.ShapeFacts.{shape_bytes}
use Rattle.word_lowering.proofs.ShapePaths.{path_within}
use Rattle.word_lowering.proofs.Blocks.{Blocks, IsHandle, Stored}
use Rattle.word_lowering.proofs.BlockHomes.{Home, SameOrApart, HomesHold, FromBlock, LeadsTo, home_bytes, block_seen, element_there}
use Rattle.word_lowering.proofs.BlockPaths.{at_place, block_here, elements_here}
use Rattle.word_lowering.proofs.CarriedBeside.{rewritten_carried}
use Rattle.word_lowering.proofs.Moves.{same_more}
use Rattle.word_lowering.proofs.OrdinalRuns.{AllSame, put_here}
use Rattle.word_lowering.proofs.StoredLater.{shape_whole, stored_kept, times_whole}
use Rattle.word_lowering.proofs.StoredParts.{row_part}
use Rattle.word_lowering.proofs.FreshRows.{answer}
use Rattle.word_lowering.proofs.HeapWanted.{IsStill, branch_still, came_works, refills_still, sets_still, still_came, still_then}
use Rattle.word_lowering.proofs.PopRows.{Mine, elements_now, pop_live, pop_row}
use Rattle.word_lowering.proofs.PoppedRows.{shorter_world}
use Rattle.word_lowering.proofs.ResizedRows.{sequence_away}
use Rattle.word_lowering.proofs.ResizedWorlds.{answered}
use Rattle.word_lowering.proofs.RoutinesCalled.{IsFirst}
use Rattle.word_lowering.proofs.RowRuns.{RowDoes, Came, row_done}
use Rattle.word_lowering.proofs.RowsLeft.{IsLeft}
use Rattle.word_lowering.proofs.SequenceOperands.{SequenceBlock, elements_there}
use Rattle.word_lowering.proofs.SequenceRowRuns.{element_spare, same_fifth}
use Rattle.word_lowering.proofs.SequencesPut.{pop_use, may_pop}
use Rattle.word_lowering.proofs.TextRowRuns.{IsAt}

module _ (StandsFixed : (place : ℕ) → List ℕ → Type 0) (Homes : Home → Type 0) (apart : (g h : Home) → Homes g → Homes h → SameOrApart g h)
    (law : MemoryLaw) (live : Lives) (procs : List WordProc) (kept : (name : HeapRoutineName) → IsKeptThere live procs (heap_routine own_data_at name))
    (c : Within) (from_first : IsFirst c) (d : Blocks) (w : World) (input : c.input ≡ w.input) (m : Memory) (x : HomesHold StandsFixed Homes apart d w m)
    (are : AreBytes m.heap) (lines : List WordInstr) (v g : Vars) (l : Location) (to n k : ℕ) (is : load w l ≡ Handle (suc n) (Some k)) (s : Shape)
    (leads : LeadsTo StandsFixed Homes apart d l to (elements s)) (h : IsHandle d m to (elements s) (suc n) (Some k))
    (b : SequenceBlock StandsFixed d w m s (suc n) k)
    (mine : Mine StandsFixed Homes apart law d w m x are l to n k is s leads h b) (can : MayHave m to) (home : Place)
    (at_home : IsAt c.base v home to) (of : Form) (same : form_size of ≡ shape_bytes s) (small : shape_bytes s < 2 ^ 32)
  where
    abbrev last_at : ℕ
    last_at = b.is.standing.place + n * shape_bytes s

    there : IsThere m b.is.standing
    there = block_is_there own_data_at w.heap.classes d.stands m x.heap.kept k b.is.standing b.is.stands x.sized

    -- the last element doesn't stand where the handle does
    module _ (live_first : is_there w l ≡ true) where
      in_heap : Beside heap_at (length m.heap) to 8 → Beside last_at (shape_bytes s) to 8
      in_heap (inl e) =
          let high = there.high in
          let room = (elements_there StandsFixed d w m x.heap s (suc n) k b).1 in
          inl (omega (arith, e, high, room))
      in_heap (inr e) = let low = there.low in inr (omega (arith, e, low))

      beside_handle : LeadsTo StandsFixed Homes apart d l to (elements s)
          → ((f : FromBlock StandsFixed Homes apart d l to (elements s)) → f.block ≢ k) → Beside last_at (shape_bytes s) to 8
      beside_handle (inl f) away = in_heap (narrow (x.homes f.home f.among).elsewhere.heap)
        where
          narrow : Beside heap_at (length m.heap) f.home.at (home_bytes f.home) → Beside heap_at (length m.heap) to 8
          narrow (inl e) = let a = f.address in inl (omega (arith, a, e))
          narrow (inr e) = let a = f.address in let i = path_within f.home.shape l.path f.offset (elements s) f.way in inr (omega (arith, a, i, e))
      beside_handle (inr f) away =
          let seen = block_seen StandsFixed Homes apart d w m x l to (elements s) f live_first in
          let here = block_here StandsFixed d w.heap m x.heap f.block seen.read.block seen.read.there l.path to (elements s) f.leads in
          let all = elements_here StandsFixed d w.heap m x.heap f.block seen.read.block seen.read.there l.path to (elements s) f.leads in
          let place = at_place StandsFixed d w.heap m x.heap f.block seen.read.block seen.read.there l.path to (elements s) f.leads in
          let way = path_within f.leads.of f.leads.rest f.leads.offset (elements s) f.leads.way in
          let fits = all.fits in
          let room = (elements_there StandsFixed d w m x.heap s (suc n) k b).1 in
          let among = element_there StandsFixed Homes apart d w m x l to (elements s) f live_first in
          let more : (1 + f.leads.element) * shape_bytes f.leads.of ≤ count all.all * shape_bytes f.leads.of
          = mul-le-mul (let e = among in omega (arith, e)) (le_refl (shape_bytes f.leads.of)) in
          by here.standing (f.leads.element * shape_bytes f.leads.of + f.leads.offset) place (omega (arith, way, more, fits)) room
          (distant own_data_at w.heap.classes d.stands m x.heap.kept f.block k here.standing b.is.standing here.stands b.is.stands (away f))
        where
          by : (y : BlockStanding) (behind : ℕ) → to ≡ y.place + behind → behind + 8 ≤ length y.payload
              → suc n * shape_bytes s ≤ length b.is.standing.payload → AreDistant y b.is.standing → Beside last_at (shape_bytes s) to 8
          by y behind place within room (inl e) = inr (omega (arith, e, place, within))
          by y behind place within room (inr e) = inl (omega (arith, e, place, room))

    -- ---- the row

    -- the element's bits are left at the address in the fifth variable
    pub record LastLeft (a : Value) (after : World) (other : Memory) (vars : Vars) : Type 0 where
      pub stay : AllSame v vars
      pub left : IsLeft StandsFixed Homes apart d m after other to 8
      pub at_address : vars FIFTH ≡ Some last_at
      pub stored : Stored StandsFixed left.later other last_at s a
      pub full : is_full a ≡ true
      -- in the heap
      pub low : heap_at ≤ last_at
      pub high : last_at + shape_bytes s ≤ heap_at + length m.heap
      pub whole : last_at % 4 ≡ 0
      pub answers : answered (perform (shortened of (suc n) l w) w) ≡ Some after

    abbrev item : Location
    item = item_of (load w l) l n

    abbrev act : World → Value → Deed Value
    act z last = refills (block_of (load z l)) (Elements (first_of n (elements_of z (load z l)))) >> (sets l (Handle n (block_of (load z l))) >> give last)

    act_still : (z : World) (last : Value) → IsStill (act z last)
    act_still z last =
        still_then (refills (block_of (load z l)) (Elements (first_of n (elements_of z (load z l)))))
        (λ _. sets l (Handle n (block_of (load z l))) >> give last)
        (refills_still (block_of (load z l)) (Elements (first_of n (elements_of z (load z l)))))
        (λ _. still_then (sets l (Handle n (block_of (load z l)))) (λ _. give last) (sets_still l (Handle n (block_of (load z l)))) (λ _. tt))

    pop_came : Came (form_size of) true w.input (perform (shortened of (suc n) l w) w)
    pop_came =
        let z : form_size of + 0 ≡ form_size of = omega arith in
        subst (λ i. Came i true w.input (perform (shortened of (suc n) l w) w)) z
        (came_works 0 (form_size of) true w.input (perform (takes item act) w)
        (still_came (takes item act) w (λ u. branch_still (is_full_at u item) (act u (load u item)) Errs (act_still u (load u item)) tt)))

    pub pop_runs : RowDoes live procs c lines FIFTH (element_spare (shape_bytes s)) LastLeft
        (at c m (pop_code FIFTH home (shape_bytes s) lines) v g) (perform (shortened of (suc n) l w) w)
    pop_runs =
        let q = pop_use StandsFixed law d w m x.heap x.sized are s to n k h b in
        row_done law live procs c from_first m x.sized pops_element (kept PopsElement) q
        (may_pop StandsFixed law d w m x.heap x.sized are s to n k h b can.0) lines FIFTH v g
        (Where home ∷ Number (shape_bytes s) ∷ []) (omega arith)
        ((at_home.points, at_home.high), at_home.small, (refl, small, tt))
        (element_spare (shape_bytes s)) LastLeft true (record { shows = refl; ends = refl; reads = refl }) (form_size of)
        (omega (arith, same))
        (perform (shortened of (suc n) l w) w)
        (subst (λ i. Came (form_size of) true i (perform (shortened of (suc n) l w) w)) (sym input) pop_came)
        (λ es i a after e sure other word vars same_vars popped gave.
        let done : answered (perform (shortened of (suc n) l w) w) ≡ Some after = ap answered e in
        let left = pop_row StandsFixed Homes apart law d w m x are l to n k is s leads h b of other after popped done mine in
        let full = elements_there StandsFixed d w m x.heap s (suc n) k b in
        let shorter = shorter_world of n k l w after is done in
        let got_it : a ≡ nth (elements_of w (load w l)) n = same_Some a (nth (elements_of w (load w l)) n) (sym (ap answer e) ∙ shorter.value) in
        let last : a ≡ nth b.all n
        = got_it ∙ ap (λ vs. nth vs n) (elements_now StandsFixed Homes apart law d w m x are l to n k is s leads h b) in
        let low = there.low in
        let aligned = there.aligned in
        let times = times_whole n (shape_bytes s) (shape_whole s) in
        let away = beside_handle (pop_live StandsFixed Homes apart law d w m x are l to n k is s leads h b of after done) leads
        (sequence_away StandsFixed Homes apart d l to s k b.inside) in
        let in_it : n < count b.all = (let e = b.long in omega (arith, e)) in
        let high = there.high in
        let most = x.sized.heap_most in
        let room = full.1 in
        let near : word < 2 ^ 32 = omega (arith, gave, high, most, room) in
        record {
          stay = same_more v vars (put vars FIFTH word) same_vars (same_fifth vars word);
          left = left;
          at_address = put_here vars FIFTH word near ∙ ap Some gave;
          stored = subst (λ u. Stored StandsFixed left.later other last_at s u) (sym last)
              (stored_kept StandsFixed d left.later left.ahead m other last_at last_at s (nth b.all n)
              (rewritten_carried m other to 4 last_at (shape_bytes s) popped.rewritten (four away))
              (row_part StandsFixed d m b.is.standing.place s b.all n in_it full.0));
          full = ap is_full got_it ∙ shorter.full;
          low = omega (arith, low);
          high = omega (arith, high, room);
          whole = omega (arith, aligned, times);
          answers = done;
        })
      where
        four : Beside last_at (shape_bytes s) to 8 → Beside last_at (shape_bytes s) to 4
        four (inl e) = inl e
        four (inr e) = inr (omega (arith, e))
