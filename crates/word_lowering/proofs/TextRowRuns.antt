-- Rows of texts, whose operands are handles at homes: what their word code does, by what their deeds come to.
use Rattle.std.proofs.Common.{◌≡◌, ℕ, ◌+◌, ◌-◌, ◌*◌, ◌^◌, ◌<◌, ◌≤◌, List, [], ◌∷◌, ◌++◌, length, Option, Some, None, Bool}
use Rattle.std.proofs.Common.{refl, sym, ap, subst, ◌∙◌, arith}
use Rattle.std.specs.Prelude.{if◌then◌else◌}
use Rattle.arc_base.specs.Event.{writes}
use Rattle.arc_base.specs.declared.outside.Stream.TheVariants.{Err}
use Rattle.nim_program.specs.Traps.{OutOfMemory}
use Rattle.nim_meaning.specs.Values.{Handle, Location, length_of, block_of}
use Rattle.nim_meaning.specs.Heap.{Contents, Characters}
use Rattle.nim_meaning.specs.State.{World, load, text_of}
use Rattle.nim_meaning.specs.Deeds.{behind, perform}
use Rattle.nim_meaning.specs.Lifted.{has_place, resized}
use Rattle.nim_meaning.specs.OwnedRows.{appended, text_to}
use Rattle.flat_code.specs.Shapes.{block}
use Rattle.rv32_isa.specs.Machine.{Lives}
use Rattle.word_code.specs.declared.word.WordInstr.{WordInstr}
use Rattle.word_code.specs.declared.word.WordProc.{WordProc}
use Rattle.word_code.specs.Memory.{Memory, own_data_at}
use Rattle.word_code.specs.RoutineTable.{trap_line}
use Rattle.word_code.specs.Words.{Vars, put}
use Rattle.word_code.proofs.ForCallers.{MemoryLaw, Within, at}
use Rattle.heap_memory.specs.HeapRoutines.{IsKeptThere}
use Rattle.heap_memory.specs.HeapRuntime.{HeapRoutineName, AppendsText, ResizesText, heap_routine}
use Rattle.heap_memory.specs.GrowRoutine.{may_grow, holds_it, grow_work}
use Rattle.heap_memory.specs.AppendRoutine.{source_bytes}
use Rattle.heap_memory.specs.HandleRoutines.{MayHave, PutLeaves, AppendingText, appended_text, ResizingText, resized_text, appends_text}
use Rattle.heap_memory.specs.HandleRoutines.{resizes_text}
use Rattle.heap_memory.specs.TextRoutines.{AreBytes}
use Rattle.word_lowering.specs.declared.homes.TheConstants.{FIRST}
use Rattle.word_lowering.specs.declared.homes.Home.{Home as Place}
use Rattle.word_lowering.specs.declared.homes.Home.TheVariants.{Variable}
use Rattle.word_lowering.specs.declared.handed.Handed.{Handed}
use Rattle.word_lowering.specs.declared.handed.Handed.TheVariants.{Where}
use Rattle.word_lowering.specs.RoutineCode.{append_code, text_length_code}
use Rattle.word_lowering.proofs.Blocks.{Blocks, IsHandle}
use Rattle.word_lowering.proofs.BlockHomes.{Home, SameOrApart, HomesHold, LeadsTo}
use Rattle.word_lowering.proofs.Moves.{IsHigh, same_first, same_more}
use Rattle.word_lowering.proofs.Scenes.{Points}
use Rattle.word_lowering.proofs.OrdinalRuns.{AllSame}
use Rattle.word_lowering.proofs.TextOperands.{TextAt}
use Rattle.word_lowering.proofs.HandlesPut.{block_of_text, present_of, present_is, growing, append_use, may_append, resize_use, may_resize}
use Rattle.word_lowering.proofs.WantOfHeap.{first_room, next_room}
use Rattle.word_lowering.proofs.HeapWanted.{room_in, least_of, resized_came, came_works}
use Rattle.word_lowering.proofs.GrowthLines.{grow_few, holds_first}
use Rattle.word_lowering.proofs.BlocksMade.{place_same}
use Rattle.word_lowering.proofs.ContentsGrown.{growing_in}
use Rattle.word_lowering.proofs.ResizedWorlds.{answered, behind_answers}
use Rattle.word_lowering.proofs.RoutinesCalled.{IsFirst}
use Rattle.word_lowering.proofs.RowRuns.{RowDoes, Came, row_done}
use Rattle.word_lowering.proofs.RowsLeft.{IsLeft}
use Rattle.word_lowering.proofs.TextRows.{Mine, append_row, text_length_row}

-- for so many other lines of a row of texts work is spared: they make handles of characters, and tell what waits
abbrev pub TEXT_SPARE : ℕ
TEXT_SPARE = 30

-- the word of an address at a home
pub record IsAt (base : ℕ) (v : Vars) (home : Place) (a : ℕ) : Type 0 where
  pub points : Points base v home a
  pub high : IsHigh home
  pub small : a < 2 ^ 32

-- room as the routine has it, and as the meaning has it: what is shown, and how it ends
pub shown_so : (a b : Bool) → a ≡ b → (if a then [] else writes Err (trap_line OutOfMemory)) ≡ (if b then [] else writes Err (trap_line OutOfMemory))
shown_so a b e = ap (λ c. if c then [] else writes Err (trap_line OutOfMemory)) e

abbrev pub status_of : (room : Bool) → Option ℕ
status_of room = if room then None else Some 1

pub ends_so : (a b : Bool) → a ≡ b → status_of a ≡ status_of b
ends_so a b e = ap status_of e

module _ (StandsFixed : (place : ℕ) → List ℕ → Type 0) (Homes : Home → Type 0) (apart : (g h : Home) → Homes g → Homes h → SameOrApart g h)
    (law : MemoryLaw) (live : Lives) (procs : List WordProc) (kept : (name : HeapRoutineName) → IsKeptThere live procs (heap_routine own_data_at name))
    (c : Within) (from_first : IsFirst c) (d : Blocks) (w : World) (input : c.input ≡ w.input) (m : Memory) (x : HomesHold StandsFixed Homes apart d w m)
    (are : AreBytes m.heap) (lines : List WordInstr) (v g : Vars)
  where
    -- variables of places stay
    abbrev pub SameVars : Vars → Type 0
    SameVars other = AllSame v other

    -- ---- a text at a location gets more characters, or another length

    module _ (l : Location) (to n : ℕ) (k : Option ℕ) (is : load w l ≡ Handle n k) (leads : LeadsTo StandsFixed Homes apart d l to block)
        (h : IsHandle d m to block n k) (b : block_of_text StandsFixed law d w m x.heap x.sized n k)
        (mine : Mine StandsFixed Homes apart law d w m x are l to n k is leads h b) (can : MayHave m to) (home : Place) (at_home : IsAt c.base v home to)
      where
        abbrev pub room : (bytes : ℕ) → Bool
        room bytes = room_in w k bytes

        abbrev pub has : (bytes : ℕ) → Bool
        has bytes = has_place w k bytes

        pub room_is : (bytes : ℕ) → may_grow (growing StandsFixed law d w m x.heap x.sized are to n k h b bytes) ≡ room bytes
        room_is bytes = by k b
          where
            by : (q : Option ℕ) (t : block_of_text StandsFixed law d w m x.heap x.sized n q)
                → may_grow (growing_in d w.heap (present_of StandsFixed law d w m x.heap x.sized n q t) n bytes) ≡ room_in w q bytes
            by None t = first_room StandsFixed d w m x.heap n bytes
            by (Some i) t = next_room StandsFixed d w m x.heap n bytes i t.block t.there t.is

        holds_is : (bytes : ℕ) → holds_it (present_of StandsFixed law d w m x.heap x.sized n k b) bytes ≡ has bytes
        holds_is bytes = by k b
          where
            by : (q : Option ℕ) (t : block_of_text StandsFixed law d w m x.heap x.sized n q)
                → holds_it (present_of StandsFixed law d w m x.heap x.sized n q t) bytes ≡ has_place w q bytes
            by None t = holds_first StandsFixed d w m x.heap n bytes
            by (Some i) t = sym (place_same StandsFixed d w m x.heap i t.block t.there t.is bytes)

        lines_few : (bytes : ℕ) → grow_work (growing StandsFixed law d w m x.heap x.sized are to n k h b bytes) ≤ 60 + 112 * least_of (has bytes) bytes
        lines_few bytes =
            subst (λ p. grow_work (growing StandsFixed law d w m x.heap x.sized are to n k h b bytes) ≤ 60 + 112 * least_of p bytes) (holds_is bytes)
            (grow_few d.stands (growing StandsFixed law d w m x.heap x.sized are to n k h b bytes)
            (present_is StandsFixed law d w m x.heap x.sized are to n k h b))

        resized_so : (bytes : ℕ) (contents : Contents)
            → Came (least_of (has bytes) bytes) (room bytes) w.input (perform (resized bytes bytes contents l) w)
        resized_so bytes contents = resized_came w bytes bytes contents (λ e. e) l k (ap block_of is)

        pub appended_came : (more : List ℕ)
            → Came (length more + least_of (has (n + length more)) (n + length more)) (room (n + length more)) w.input (perform (appended more l) w)
        appended_came more =
            let long : ℕ = n + length more in
            came_works (least_of (has long) long) (length more) (room long) w.input
            (perform (resized (length_of (load w l) + length more) (length_of (load w l) + length more) (Characters (text_of w (load w l) ++ more)) l) w)
            (subst (λ i. Came (least_of (has long) long) (room long) w.input (perform (resized i i (Characters (text_of w (load w l) ++ more)) l) w))
            (ap (λ i. i + length more) (sym (ap length_of is)))
            (resized_so long (Characters (text_of w (load w l) ++ more))))

        -- more characters
        module _ (from : ℕ) (more : List ℕ) (t : TextAt w.heap d.stands m from more) (few : n + length more < 2 ^ 32) (from_home : Place)
            (at_from : IsAt c.base v from_home from)
          where
            abbrev append_handed : List Handed
            append_handed = Where home ∷ Where from_home ∷ []

            abbrev long : ℕ
            long = n + length (source_bytes t.source)

            long_is : long ≡ n + length more
            long_is = let e = ap length t.bytes in omega (arith, e)

            append_came : Came (length more + least_of (has long) long) (room long) w.input (perform (appended more l) w)
            append_came =
                subst (λ i. Came (length more + least_of (has i) i) (room i) w.input (perform (appended more l) w)) (sym long_is) (appended_came more)

            pub append_runs : RowDoes live procs c lines FIRST TEXT_SPARE
                (λ a after other vars. IsLeft StandsFixed Homes apart d m after other to 8 × SameVars vars)
                (at c m (append_code home from_home lines) v g) (perform (appended more l) w)
            append_runs =
                let q : AppendingText = append_use StandsFixed law d w m x.heap x.sized are to n k h b from more t in
                let small : long < 2 ^ 32 = (let e = long_is in omega (arith, e, few)) in
                row_done law live procs c from_first m x.sized (appends_text own_data_at) (kept AppendsText) q
                (may_append StandsFixed law d w m x.heap x.sized are to n k h b from more t can small) lines FIRST v g append_handed (omega arith)
                ((at_home.points, at_home.high), at_home.small, ((at_from.points, at_from.high), at_from.small, tt))
                TEXT_SPARE (λ a after other vars. IsLeft StandsFixed Homes apart d m after other to 8 × SameVars vars) (room long)
                (record {
                  shows = shown_so (may_grow q.appending.growth) (room long) (room_is long);
                  ends = ends_so (may_grow q.appending.growth) (room long) (room_is long);
                  reads = refl;
                })
                (length more + least_of (has long) long)
                (let e = ap length t.bytes in let f = lines_few long in omega (arith, e, f))
                (perform (appended more l) w)
                (subst (λ i. Came (length more + least_of (has long) long) (room long) i (perform (appended more l) w)) (sym input) append_came)
                (λ es i a after e there other word vars same left gave. (
                  append_row StandsFixed Homes apart law d w m x are l to n k is leads h b more other after from t small
                      (subst (λ p. PutLeaves p own_data_at (appended_text q) m other) (room_is long ∙ there) left) (ap answered e) mine,
                  same_more v vars (put vars FIRST word) same (same_first vars word),
                ))

        -- another length
        module _ (long : ℕ) (few : long < 2 ^ 32) (number : ℕ) (length_at : v number ≡ Some long) (number_high : IsHigh (Variable number)) where
          abbrev length_handed : List Handed
          length_handed = Where home ∷ Where (Variable number) ∷ []

          abbrev to_length : Contents
          to_length = Characters (text_to long (text_of w (load w l)))

          length_came : Came ((long - n) + least_of (has long) long) (room long) w.input (behind [] (long - n) (perform (resized long long to_length l) w))
          length_came = came_works (least_of (has long) long) (long - n) (room long) w.input (perform (resized long long to_length l) w)
              (resized_so long to_length)

          pub length_runs : RowDoes live procs c lines FIRST TEXT_SPARE
              (λ a after other vars. IsLeft StandsFixed Homes apart d m after other to 8 × SameVars vars)
              (at c m (text_length_code home number lines) v g) (behind [] (long - n) (perform (resized long long to_length l) w))
          length_runs =
              let q : ResizingText = resize_use StandsFixed law d w m x.heap x.sized are to n k h b long few in
              row_done law live procs c from_first m x.sized (resizes_text own_data_at) (kept ResizesText) q
              (may_resize StandsFixed law d w m x.heap x.sized are to n k h b long few can) lines FIRST v g length_handed (omega arith)
              ((at_home.points, at_home.high), at_home.small, ((length_at, number_high), few, tt))
              TEXT_SPARE (λ a after other vars. IsLeft StandsFixed Homes apart d m after other to 8 × SameVars vars) (room long)
              (record {
                shows = shown_so (may_grow q.growth) (room long) (room_is long);
                ends = ends_so (may_grow q.growth) (room long) (room_is long);
                reads = refl;
              })
              ((long - n) + least_of (has long) long)
              (let f = lines_few long in omega (arith, f))
              (behind [] (long - n) (perform (resized long long to_length l) w))
              (subst (λ i. Came ((long - n) + least_of (has long) long) (room long) i (behind [] (long - n) (perform (resized long long to_length l) w)))
              (sym input)
              length_came)
              (λ es i a after e there other word vars same left gave. (
                text_length_row StandsFixed Homes apart law d w m x are l to n k is leads h b long few other after
                    (subst (λ p. PutLeaves p own_data_at (resized_text q) m other) (room_is long ∙ there) left)
                    (sym (behind_answers [] (long - n) (perform (resized long long to_length l) w)) ∙ ap answered e) mine,
                same_more v vars (put vars FIRST word) same (same_first vars word),
              ))
