-- A sequence gets no longer, where its elements have nothing to do at their end: what its word code does, by what its deed comes to.
use Rattle.std.proofs.Common.{◌≡◌, ℕ, zero, suc, ◌-◌, ◌*◌, ◌^◌, ◌<◌, ◌≤◌, List, [], ◌∷◌, length, Option, Some, None, Bool, true, false}
use Rattle.std.proofs.Common.{refl, sym, ap, subst, ◌∙◌, arith, mul-le-mul_right}
use Rattle.std.specs.Prelude.{◌||◌}
use Rattle.std.proofs.lemmas.Bool.{le-leb, true≢false}
use Rattle.std.proofs.lemmas.Option.{none-some, same_Some}
use Rattle.nim_types.specs.Forms.{Form, block, elements as sequence_of, hooked, parts, plain, reference, resource, row, wrapped}
use Rattle.nim_meaning.specs.Values.{Value, Handle, Location, Values, block_of, first_of, item_of, length_of, parts_of}
use Rattle.nim_meaning.specs.Heap.{Elements, block_at, class_for, has_room, with_contents}
use Rattle.nim_meaning.specs.State.{World, contents_value, elements_of, is_live, is_there, load, store}
use Rattle.nim_meaning.specs.Deeds.{Deed, Done, Answers, behind, branch, Finishes, Fails, Refills, Stores, does, give, looks, perform, refills, sets}
use Rattle.nim_meaning.specs.Deeds.{unless_gone, ◌>>=◌, ◌>>◌}
use Rattle.nim_meaning.specs.Lifted.{each_element, each_part, ending, ends_at, has_place, walk, walk_all}
use Rattle.nim_meaning.specs.OwnedRows.{cut}
use Rattle.flat_code.specs.Shapes.{Shape, elements}
use Rattle.rv32_isa.specs.Machine.{Lives}
use Rattle.word_code.specs.declared.word.WordInstr.{WordInstr}
use Rattle.word_code.specs.declared.word.WordProc.{WordProc}
use Rattle.word_code.specs.Memory.{Memory, own_data_at}
use Rattle.word_code.specs.Words.{Vars, put}
use Rattle.word_code.proofs.ForCallers.{MemoryLaw, Within, at}
use Rattle.heap_memory.specs.HeapRoutines.{IsKeptThere}
use Rattle.heap_memory.specs.HeapRuntime.{HeapRoutineName, ResizesSequence, heap_routine}
use Rattle.heap_memory.specs.GrowRoutine.{grow_work, holds_it, may_grow}
use Rattle.heap_memory.specs.HandleRoutines.{AreContentsPut, MayHave, PutLeaves}
use Rattle.heap_memory.specs.SequenceRoutines.{ResizingSequence, bytes_for, resizes_sequence, sequence_resized}
use Rattle.heap_memory.specs.TextRoutines.{AreBytes}
use Rattle.word_lowering.specs.declared.handed.Handed.TheVariants.{Where, Number}
use Rattle.word_lowering.specs.declared.homes.TheConstants.{FIRST}
use Rattle.word_lowering.specs.declared.homes.Home.{Home as Place}
use Rattle.word_lowering.specs.declared.homes.Home.TheVariants.{Variable}
use Rattle.word_lowering.specs.RoutineCode.{length_code}
use Rattle.word_lowering.proofs.AddedRows.{block_stays, contents_put}
use Rattle.word_lowering.proofs.BlockHomes.{Home, HomesHold, LeadsTo, SameOrApart}
use Rattle.word_lowering.proofs.Blocks.{Blocks, IsHandle}
use Rattle.word_lowering.proofs.BlocksBorn.{later_more}
use Rattle.word_lowering.proofs.BlocksMade.{block_resized, heap_resized, place_same}
use Rattle.word_lowering.proofs.ContentsGrown.{growing_in}
use Rattle.word_lowering.proofs.GrowthLines.{grow_few}
use Rattle.word_lowering.proofs.HeapWanted.{IsStill, behind_none, followed, least_of, perform_then, refills_still, sets_still, still_came, still_then}
use Rattle.word_lowering.proofs.Moves.{IsHigh, same_first, same_more}
use Rattle.word_lowering.proofs.OrdinalRuns.{AllSame}
use Rattle.word_lowering.proofs.ResizedRows.{beside, homes_alike, put_by}
use Rattle.word_lowering.proofs.ResizedWorlds.{AreAlike, IsBeside, answered, same_put}
use Rattle.word_lowering.proofs.RoutinesCalled.{IsFirst}
use Rattle.word_lowering.proofs.RowRuns.{Came, RowDoes, row_done}
use Rattle.word_lowering.proofs.RowsLeft.{IsLeft, handle_beside}
use Rattle.word_lowering.proofs.SequenceOperands.{elements_there}
use Rattle.word_lowering.proofs.SequenceRowRuns.{element_spare}
use Rattle.word_lowering.proofs.SequenceRows.{Mine, away, elements_now, there}
use Rattle.word_lowering.proofs.SequencesPut.{OrEmpty, all_of, block_of_sequence, growing, present_is, present_of}
use Rattle.word_lowering.proofs.SequencesResized.{may_resize, resize_use, shorter_put}
use Rattle.word_lowering.proofs.ShapeFacts.{shape_bytes}
use Rattle.word_lowering.proofs.TextRowRuns.{IsAt, ends_so, shown_so}
use Rattle.word_lowering.proofs.WantOfHeap.{first_room, next_room}

-- ---- what has no hooks has nothing to do at its end

none_ends : (f : Form) → hooked f ≡ false → (to : Location) (w : World) → perform (ends_at f to) w ≡ Answers [] 0 tt w
none_ends plain h to w = refl
none_ends reference h to w = absurd (true≢false h)
none_ends block h to w = absurd (true≢false h)
none_ends (sequence_of f) h to w = absurd (true≢false h)
none_ends (row n f) h to w = ap (λ b. perform (branch b (each_part n (walk ending f) 0 to to) (give tt)) w) h
none_ends (parts fs) h to w = ap (λ b. perform (branch b (walk_all ending fs 0 to to) (give tt)) w) h
none_ends (resource fs) h to w = absurd (true≢false h)
none_ends (wrapped f) h to w = none_ends f h to w

each_none : (act : (to from : Location) → Deed (Unit {0})) → ((to from : Location) (w : World) → perform (act to from) w ≡ Answers [] 0 tt w) → (n i : ℕ)
    (v : Value) (to : Location) (u : Value) (from : Location) (w : World) → perform (each_element n act i v to u from) w ≡ Answers [] 0 tt w
each_none act none zero i v to u from w = refl
each_none act none (suc n) i v to u from w =
    perform_then (λ _. each_element n act (suc i) v to u from) (act (item_of v to i) (item_of u from i)) w
    ∙ ap (followed (λ _. each_element n act (suc i) v to u from)) (none (item_of v to i) (item_of u from i) w)
    ∙ behind_none (perform (each_element n act (suc i) v to u from) w) ∙ each_none act none n (suc i) v to u from w

followed_as : {A B : Type 0} (r s : A → Deed B) → ((x : A) (w : World) → perform (r x) w ≡ perform (s x) w) → (done : Done A) →
    followed r done ≡ followed s done
followed_as r s same (Answers es n x w) = ap (behind es n) (same x w)
followed_as r s same (Finishes es n status w) = refl
followed_as r s same (Fails es n w) = refl

-- ---- the deed without ends

module _ (of : Form) (unhooked : hooked of ≡ false) (w : World) (l : Location) (long : ℕ) (v : Value) where
  abbrev refilling : Unit {0} → Deed (Unit {0})
  refilling _ = looks (λ world. refills (block_of v) (Elements (first_of long (elements_of world v))))

  abbrev pub plain_cut : Deed (Unit {0})
  plain_cut = sets l (Handle long (block_of v)) >>= refilling

  abbrev ends_all : Deed (Unit {0})
  ends_all = each_element (length_of v - long) (λ to from. ends_at of to) long v l v l

  pub cut_is : perform (cut of long l v) w ≡ perform plain_cut w
  cut_is =
      perform_then (λ _. ends_all >>= refilling) (sets l (Handle long (block_of v))) w
      ∙ followed_as (λ _. ends_all >>= refilling) refilling (λ _ z.
      perform_then refilling ends_all z ∙ ap (followed refilling) (each_none (λ to from. ends_at of to) (λ to from u. none_ends of unhooked to u)
      (length_of v - long) long v l v l z) ∙ behind_none (perform (refilling tt) z)) (perform (sets l (Handle long (block_of v))) w)
      ∙ sym (perform_then refilling (sets l (Handle long (block_of v))) w)

  pub plain_still : IsStill plain_cut
  plain_still = still_then (sets l (Handle long (block_of v))) refilling (sets_still l (Handle long (block_of v)))
      (λ _ z. refills_still (block_of v) (Elements (first_of long (elements_of z v))))

  abbrev shorter : World
  shorter = store w l (Handle long (block_of v))

  abbrev pub filled_by : Option ℕ → World
  filled_by None = shorter
  filled_by (Some k) = record shorter { heap = with_contents shorter.heap k (Elements (first_of long (elements_of shorter v))) }

  pub record IsCut (after : World) : Type 0 where
    pub live : is_there w l ≡ true
    pub is : filled_by (block_of v) ≡ after

  pub cut_done : (after : World) → answered (perform plain_cut w) ≡ Some after → IsCut after
  cut_done after h = by (is_there w l) refl h
    where
      filled : (q : Option ℕ) → answered (perform (refills q (Elements (first_of long (elements_of shorter v)))) shorter) ≡ Some after → filled_by q ≡ after
      filled None h = same_Some shorter after h
      filled (Some k) h = by (is_live shorter k) h
        where
          by : (b : Bool) → answered (perform (unless_gone b (does (Refills k (Elements (first_of long (elements_of shorter v)))))) shorter) ≡ Some after
              → filled_by (Some k) ≡ after
          by true h = same_Some (filled_by (Some k)) after h
          by false h = absurd (none-some after h)

      by : (b : Bool) → is_there w l ≡ b → answered (perform (unless_gone b (does (Stores l (Handle long (block_of v)))) >>= refilling) w) ≡ Some after
          → IsCut after
      by true e h = record { live = e; is = filled (block_of v) h }
      by false e h = absurd (none-some after h)

module _ (StandsFixed : (place : ℕ) → List ℕ → Type 0) (Homes : Home → Type 0) (apart : (g h : Home) → Homes g → Homes h → SameOrApart g h)
    (law : MemoryLaw) (live : Lives) (procs : List WordProc) (kept : (name : HeapRoutineName) → IsKeptThere live procs (heap_routine own_data_at name))
    (c : Within) (from_first : IsFirst c) (d : Blocks) (w : World) (input : c.input ≡ w.input) (m : Memory) (x : HomesHold StandsFixed Homes apart d w m)
    (are : AreBytes m.heap) (lines : List WordInstr) (v g : Vars) (l : Location) (to n : ℕ) (k : Option ℕ) (is : load w l ≡ Handle n k) (s : Shape)
    (leads : LeadsTo StandsFixed Homes apart d l to (elements s)) (full : IsHandle d m to (elements s) n k)
    (h : OrEmpty StandsFixed law d w m x.heap x.sized are s to n k) (b : block_of_sequence StandsFixed law d w m x.heap x.sized are s n k)
    (some : 0 < shape_bytes s)
    (mine : Mine StandsFixed Homes apart law d w m x are l to n k is s leads h b some) (can : MayHave m to) (home : Place)
    (at_home : IsAt c.base v home to)
    (long : ℕ) (few : long < 2 ^ 32) (fits : bytes_for long (shape_bytes s) ≡ long * shape_bytes s) (small : long * shape_bytes s < 2 ^ 32)
    (no_longer : long ≤ n) (number : ℕ) (length_at : v number ≡ Some long) (number_high : IsHigh (Variable number)) (size_small : shape_bytes s < 2 ^ 32)
    (of : Form) (unhooked : hooked of ≡ false)
  where
    abbrev bytes : ℕ
    bytes = long * shape_bytes s

    abbrev fewer : Values
    fewer = first_of long (all_of StandsFixed law d w m x.heap x.sized are s n k b)

    less_bytes : bytes ≤ n * shape_bytes s
    less_bytes = mul-le-mul_right (shape_bytes s) no_longer

    has_true : has_place w k bytes ≡ true
    has_true = by k h b
      where
        none : (i : ℕ) → i ≡ 0 → has_place w None i ≡ true
        none zero e = refl
        none (suc i) e = absurd (omega (arith, e))

        by : (q : Option ℕ) → OrEmpty StandsFixed law d w m x.heap x.sized are s to n q → (t : block_of_sequence StandsFixed law d w m x.heap x.sized are s n q)
            → has_place w q bytes ≡ true
        by None e t = none bytes (let z = ap (λ i. i * shape_bytes s) e in let l = less_bytes in omega (arith, z, l))
        by (Some j) e t =
            let room = (elements_there StandsFixed d w m x.heap s n j t).1 in
            let l = less_bytes in
            place_same StandsFixed d w m x.heap j t.block t.there t.is bytes ∙ le-leb bytes (length t.is.standing.payload) (omega (arith, room, l))

    room_is : may_grow (growing StandsFixed law d w m x.heap x.sized are s to n k h b bytes) ≡ true
    room_is = by k b ∙ ap (λ p. p || has_room w.heap (class_for bytes w.heap.classes)) has_true
      where
        by : (q : Option ℕ) (t : block_of_sequence StandsFixed law d w m x.heap x.sized are s n q)
            → may_grow (growing_in d w.heap (present_of StandsFixed law d w m x.heap x.sized are s n q t) (n * shape_bytes s) bytes)
            ≡ (has_place w q bytes || has_room w.heap (class_for bytes w.heap.classes))
        by None t = first_room StandsFixed d w m x.heap (n * shape_bytes s) bytes
        by (Some i) t = next_room StandsFixed d w m x.heap (n * shape_bytes s) bytes i t.block t.there t.is

    holds_true : holds_it (present_of StandsFixed law d w m x.heap x.sized are s n k b) bytes ≡ true
    holds_true = by k h b
      where
        by : (q : Option ℕ) → OrEmpty StandsFixed law d w m x.heap x.sized are s to n q → (t : block_of_sequence StandsFixed law d w m x.heap x.sized are s n q)
            → holds_it (present_of StandsFixed law d w m x.heap x.sized are s n q t) bytes ≡ true
        by None e t = le-leb bytes 0 (let z = ap (λ i. i * shape_bytes s) e in let l = less_bytes in omega (arith, z, l))
        by (Some j) e t =
            let room = (elements_there StandsFixed d w m x.heap s n j t).1 in
            let l = less_bytes in
            le-leb bytes (length t.is.standing.payload) (omega (arith, room, l))

    lines_few : grow_work (growing StandsFixed law d w m x.heap x.sized are s to n k h b bytes) ≤ 60
    lines_few =
        let f = grow_few d.stands (growing StandsFixed law d w m x.heap x.sized are s to n k h b bytes)
        (present_is StandsFixed law d w m x.heap x.sized are s to n k h b) in
        let z = ap (λ p. least_of p bytes) holds_true in
        omega (arith, f, z)

    abbrev handle : Value
    handle = Handle long k

    -- the world of the deed
    abbrev target : Bool → World
    target p = store (record w { heap = heap_resized p w.heap k bytes (Elements fewer) }) l (Handle long (block_resized p w.heap k))

    old_block : block_of (load w l) ≡ k
    old_block = ap block_of is

    base_beside : (j : ℕ) → k ≡ Some j → IsBeside l.base j
    base_beside =
        beside StandsFixed Homes apart law d w m x l to n k is (elements s) tt leads
        (there StandsFixed Homes apart law d w m x are l to n k is s leads h b some)
        (away StandsFixed Homes apart law d w m x are l to n k is s leads h b some)

    filled_alike : AreAlike (filled_by of unhooked w l long (Handle n k) k) (target true)
    filled_alike = by k base_beside (sym (ap (elements_of w) is) ∙ elements_now StandsFixed Homes apart law d w m x are l to n k is s leads h b some)
      where
        by : (q : Option ℕ) → ((j : ℕ) → q ≡ Some j → IsBeside l.base j)
            → elements_of w (Handle n q) ≡ all_of StandsFixed law d w m x.heap x.sized are s n k b
            → AreAlike (filled_by of unhooked w l long (Handle n q) q)
            (store (record w { heap = heap_resized true w.heap q bytes (Elements fewer) }) l (Handle long q))
        by None ne all = record { heap = refl; frames = refl; hand = refl }
        by (Some j) ne all =
            let stays : block_at (store w l (Handle long (Some j))).heap j ≡ block_at w.heap j
            = block_stays l.path (Handle long (Some j)) w w.heap j l.base (ne j refl) in
            let same_all : elements_of (store w l (Handle long (Some j))) (Handle n (Some j)) ≡ all_of StandsFixed law d w m x.heap x.sized are s n k b
            = ap (λ o. parts_of (contents_value o)) stays ∙ all in
            let same = same_put l.path (Handle long (Some j)) w w.heap (with_contents w.heap j (Elements fewer)) l.base in
            record {
              heap = ap (λ vs. with_contents (store w l (Handle long (Some j))).heap j (Elements (first_of long vs))) same_all
                  ∙ contents_put l.path (Handle long (Some j)) w w.heap j (Elements fewer) l.base (ne j refl);
              frames = same.0;
              hand = same.1;
            }

    abbrev shorter_deed : Done (Unit {0})
    shorter_deed = perform (cut of long l (load w l)) w

    shorter_came : Came 0 true w.input shorter_deed
    shorter_came =
        subst (λ z. Came 0 true w.input z) (sym (cut_is of unhooked w l long (load w l)))
        (still_came (plain_cut of unhooked w l long (load w l)) w (plain_still of unhooked w l long (load w l)))

    pub shorter_runs : RowDoes live procs c lines FIRST (element_spare 0)
        (λ a after other vars. IsLeft StandsFixed Homes apart d m after other to 8 × AllSame v vars)
        (at c m (length_code home number (shape_bytes s) lines) v g) shorter_deed
    shorter_runs =
        let q : ResizingSequence = resize_use StandsFixed law d w m x.heap x.sized are s to n k h b long few some fits small in
        row_done law live procs c from_first m x.sized (resizes_sequence own_data_at) (kept ResizesSequence) q
        (may_resize StandsFixed law d w m x.heap x.sized are s to n k h b long few some fits small full can) lines FIRST v g
        (Where home ∷ Where (Variable number) ∷ Number (shape_bytes s) ∷ []) (omega arith)
        ((at_home.points, at_home.high), at_home.small, ((length_at, number_high), few, (refl, size_small, tt)))
        (element_spare 0) (λ a after other vars. IsLeft StandsFixed Homes apart d m after other to 8 × AllSame v vars) true
        (record { shows = shown_so (may_grow q.growth) true room_is; ends = ends_so (may_grow q.growth) true room_is; reads = refl })
        0 (let f = lines_few in let l = less_bytes in omega (arith, f, l)) shorter_deed
        (subst (λ i. Came 0 true i shorter_deed) (sym input) shorter_came)
        (λ es i a after e sure other word vars same left gave.
        let put_so : AreContentsPut own_data_at (sequence_resized q) m other = subst (λ p. PutLeaves p own_data_at (sequence_resized q) m other) room_is left in
        let z = cut_done of unhooked w l long (load w l) after (ap answered (sym (cut_is of unhooked w l long (load w l)) ∙ e)) in
        let y = shorter_put StandsFixed law d w m x.heap x.sized are s to n k h b long few some fits small no_longer other put_so in
        let p = put_by StandsFixed Homes apart law d w m x l to n k is (elements s) tt leads
        (there StandsFixed Homes apart law d w m x are l to n k is s leads h b some)
        (away StandsFixed Homes apart law d w m x are l to n k is s leads h b some) long bytes (Elements fewer) other y z.live leads mine in
        let filled : AreAlike (filled_by of unhooked w l long (load w l) (block_of (load w l))) (target true)
        = subst (λ u. AreAlike (filled_by of unhooked w l long u (block_of u)) (target true)) (sym is) filled_alike in
        let alike : AreAlike after (target (has_place w k bytes))
        = subst (λ t. AreAlike after (target t)) (sym has_true) (subst (λ t. AreAlike t (target true)) z.is filled) in (
          record {
            later = p.after;
            ahead = later_more d y.after p.after y.ahead p.ahead;
            holds = homes_alike StandsFixed Homes apart (target (has_place w k bytes)) after alike p.after other p.holds;
            rest = handle_beside StandsFixed d (heap_resized (has_place w k bytes) w.heap k bytes (Elements fewer)) m other to (elements s) long bytes
                (block_resized (has_place w k bytes) w.heap k) y;
          },
          same_more v vars (put vars FIRST word) same (same_first vars word),
        ))
