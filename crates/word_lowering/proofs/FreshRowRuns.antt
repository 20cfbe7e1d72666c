-- Rows that make a new text, whose handle comes to a place that is no home yet: what their word code does, by what their deeds come to.
use Rattle.std.proofs.Common.{◌≡◌, ℕ, suc, ◌+◌, ◌*◌, ◌^◌, ◌<◌, ◌≤◌, List, [], ◌∷◌, ◌++◌, length, Option, Some, None, true}
use Rattle.std.proofs.Common.{refl, sym, ap, subst, ◌∙◌, arith, length-append}
use Rattle.std.specs.Fmt.{signed_decimal}
use Rattle.std.proofs.lemmas.Option.{same_Some}
use Rattle.nim_meaning.specs.Values.{Value, Handle}
use Rattle.nim_meaning.specs.Heap.{Contents, Characters}
use Rattle.nim_meaning.specs.State.{World}
use Rattle.nim_meaning.specs.Deeds.{perform}
use Rattle.nim_meaning.specs.Lifted.{fresh, fresh_text}
use Rattle.flat_code.specs.Shapes.{Shape, block, elements, has_shape}
use Rattle.rv32_isa.specs.Machine.{Lives}
use Rattle.rv32_isa.specs.Values.{signed}
use Rattle.word_code.specs.declared.word.WordInstr.{WordInstr}
use Rattle.word_code.specs.declared.word.WordProc.{WordProc}
use Rattle.word_code.specs.Memory.{Memory, own_data_at}
use Rattle.word_code.specs.RoutineTable.{Beside}
use Rattle.word_code.specs.Words.{Vars, put}
use Rattle.word_code.proofs.ForCallers.{MemoryLaw, Within, at}
use Rattle.heap_memory.specs.HeapUse.{IsElsewhere}
use Rattle.heap_memory.specs.HeapRoutines.{IsKeptThere}
use Rattle.heap_memory.specs.HeapRuntime.{HeapRoutineName, CopiesText, JoinsTexts, PutsNumber, heap_routine}
use Rattle.heap_memory.specs.GrowRoutine.{new_growth, may_grow, holds_it, grow_work}
use Rattle.heap_memory.specs.AppendRoutine.{source_bytes}
use Rattle.heap_memory.specs.HandleRoutines.{MayHave, PutLeaves, AreContentsPut, Putting, puts, AppendingText, JoiningTexts, NumberText, appended_text}
use Rattle.heap_memory.specs.HandleRoutines.{joined_text, number_text, copies_text, joins_texts, puts_number}
use Rattle.word_lowering.specs.declared.homes.TheConstants.{FIRST}
use Rattle.word_lowering.specs.declared.homes.Home.{Home as Place}
use Rattle.word_lowering.specs.declared.homes.Home.TheVariants.{Variable}
use Rattle.word_lowering.specs.declared.handed.Handed.{Handed}
use Rattle.word_lowering.specs.declared.handed.Handed.TheVariants.{Where}
use Rattle.word_lowering.specs.RoutineCode.{called_code, copy_code, join_code, show_code}
use Rattle.word_lowering.proofs.Blocks.{Blocks, Stored}
use Rattle.word_lowering.proofs.BlockHomes.{Home, home_bytes, SameOrApart, HomesHold}
use Rattle.word_lowering.proofs.Moves.{IsHigh, same_first, same_more}
use Rattle.word_lowering.proofs.OrdinalRuns.{AllSame}
use Rattle.word_lowering.proofs.TextOperands.{TextAt}
use Rattle.word_lowering.proofs.BlocksMade.{heap_fresh, block_fresh}
use Rattle.word_lowering.proofs.HandlesPut.{LeavesHandle, new_in, copy_use, may_copy, copied, join_use, may_join, joined_there}
use Rattle.word_lowering.proofs.HandlesPut.{number_use, may_put_number, number_there}
use Rattle.word_lowering.proofs.HandleRows.{IsHandled, stored_handle}
use Rattle.word_lowering.proofs.FreshRows.{answer, fresh_world, fresh_row}
use Rattle.word_lowering.proofs.WantOfHeap.{first_room}
use Rattle.word_lowering.proofs.ResizedWorlds.{answered}
use Rattle.word_lowering.proofs.HeapWanted.{room_in, least_few, fresh_came}
use Rattle.word_lowering.proofs.GrowthLines.{grow_few}
use Rattle.word_lowering.proofs.RoutinesCalled.{IsFirst, AreHanded}
use Rattle.word_lowering.proofs.RowRuns.{ROW_PACE, RowDoes, Came, row_done}
use Rattle.word_lowering.proofs.RowsLeft.{IsNew, handle_beside}
use Rattle.word_lowering.proofs.TextRowRuns.{TEXT_SPARE, IsAt, shown_so, ends_so}

handle_shape : (s : Shape) → IsHandled s → (n : ℕ) (k : Option ℕ) → has_shape (Handle n k) s ≡ true
handle_shape block i n k = refl
handle_shape (elements t) i n k = refl
handle_shape s i n k = absurd i

module _ (StandsFixed : (place : ℕ) → List ℕ → Type 0) (Homes : Home → Type 0) (apart : (g h : Home) → Homes g → Homes h → SameOrApart g h)
    (law : MemoryLaw) (live : Lives) (procs : List WordProc) (c : Within) (from_first : IsFirst c) (d : Blocks) (w : World) (input : c.input ≡ w.input)
    (m : Memory) (x : HomesHold StandsFixed Homes apart d w m) (lines : List WordInstr) (v g : Vars) (to : ℕ) (elsewhere : IsElsewhere own_data_at m to 8)
    (away : (h : Home) → Homes h → Beside h.at (home_bytes h) to 8) (can : MayHave m to)
  where
    -- its handle stands there
    abbrev pub NewThere : Shape → Value → World → Memory → Vars → Type 0
    NewThere s a after other vars = IsNew StandsFixed Homes apart d m a after other to 8 s × AllSame v vars × (has_shape a s ≡ true)

    -- any of these routines
    module _ (number : ℕ) (Use : Type 0) (takes : Use → List ℕ) (may : Use → Memory → Type 0) (putting : Use → Putting) (word_for : Use → (place : ℕ) → ℕ)
        (most : Use → ℕ) (kept : IsKeptThere live procs (puts own_data_at number Use takes may putting word_for most)) (u : Use) (may_be : may u m)
        (hs : List Handed) (some : 1 ≤ length hs) (handed : AreHanded law live procs c from_first m v hs (takes u)) (n bytes : ℕ) (contents : Contents)
        (s : Shape)
        (handled : IsHandled s) (none : n ≡ 0 → bytes ≡ 0) (bytes_none : bytes ≡ 0 → n ≡ 0)
        (spare : ℕ) (room_is : may_grow (putting u).growth ≡ room_in w None bytes) (few : 2 * length hs + most u + spare ≤ ROW_PACE * suc bytes)
        (left_so : (other : Memory) → AreContentsPut own_data_at (putting u) m other
        → LeavesHandle StandsFixed d (heap_fresh w.heap bytes contents) m other to s n bytes (block_fresh w.heap bytes))
      where
        pub fresh_runs : RowDoes live procs c lines FIRST spare (NewThere s) (at c m (called_code FIRST number hs lines) v g)
            (perform (fresh n bytes contents) w)
        fresh_runs =
            row_done law live procs c from_first m x.sized (puts own_data_at number Use takes may putting word_for most) kept u may_be lines FIRST v g hs
            some handed
            spare (NewThere s) (room_in w None bytes)
            (record {
              shows = shown_so (may_grow (putting u).growth) (room_in w None bytes) room_is;
              ends = ends_so (may_grow (putting u).growth) (room_in w None bytes) room_is;
              reads = refl;
            })
            bytes few (perform (fresh n bytes contents) w)
            (subst (λ i. Came bytes (room_in w None bytes) i (perform (fresh n bytes contents) w)) (sym input) (fresh_came w n bytes contents none bytes_none))
            (λ es i a after e there other word vars same left gave.
            let put_so : AreContentsPut own_data_at (putting u) m other
            = subst (λ p. PutLeaves p own_data_at (putting u) m other) (room_is ∙ there) left in
            let y : LeavesHandle StandsFixed d (heap_fresh w.heap bytes contents) m other to s n bytes (block_fresh w.heap bytes) = left_so other put_so in
            let done : answered (perform (fresh n bytes contents) w) ≡ Some after = ap answered e in
            let value : a ≡ Handle n (block_fresh w.heap bytes)
            = same_Some a (Handle n (block_fresh w.heap bytes)) (sym (ap answer e) ∙ (fresh_world w n bytes contents none bytes_none after done).value) in (
              record {
                left = record {
                  later = y.after;
                  ahead = y.ahead;
                  holds = fresh_row StandsFixed Homes apart law d w m x s n bytes contents other to y elsewhere away none bytes_none after done;
                  rest = handle_beside StandsFixed d (heap_fresh w.heap bytes contents) m other to s n bytes (block_fresh w.heap bytes) y;
                };
                stored = subst (λ b. Stored StandsFixed y.after other to s b) (sym value)
                    (stored_handle StandsFixed law Homes apart d w m x (heap_fresh w.heap bytes contents) other to s n bytes (block_fresh w.heap bytes) y
                    handled);
              },
              same_more v vars (put vars FIRST word) same (same_first vars word),
              subst (λ b. has_shape b s ≡ true) (sym value) (handle_shape s handled n (block_fresh w.heap bytes)),
            ))

    -- ---- texts

    module _ (kept : (name : HeapRoutineName) → IsKeptThere live procs (heap_routine own_data_at name)) (home : Place) (at_home : IsAt c.base v home to) where
      room_new : (bytes : ℕ) → may_grow (new_growth (new_in StandsFixed law d w m x.heap x.sized) bytes) ≡ room_in w None bytes
      room_new bytes = first_room StandsFixed d w m x.heap 0 bytes

      new_few : (bytes : ℕ) → grow_work (new_growth (new_in StandsFixed law d w m x.heap x.sized) bytes) ≤ 60 + 112 * bytes
      new_few bytes =
          let f = grow_few d.stands (new_growth (new_in StandsFixed law d w m x.heap x.sized) bytes) refl in
          let l = least_few (holds_it None bytes) bytes in
          omega (arith, f, l)

      -- a copy
      module _ (from : ℕ) (text : List ℕ) (t : TextAt w.heap d.stands m from text) (from_home : Place) (at_from : IsAt c.base v from_home from) where
        pub copy_runs : RowDoes live procs c lines FIRST TEXT_SPARE (NewThere block) (at c m (copy_code home from_home lines) v g) (perform (fresh_text text) w)
        copy_runs =
            let q : AppendingText = copy_use StandsFixed law d w m x.heap x.sized to from text t in
            let long : length (source_bytes t.source) ≡ length text = ap length t.bytes in
            fresh_runs (copies_text own_data_at).number AppendingText (copies_text own_data_at).takes (copies_text own_data_at).may appended_text
            (λ u place. place) (copies_text own_data_at).lines (kept CopiesText) q (may_copy StandsFixed law d w m x.heap x.sized to from text t can)
            (Where home ∷ Where from_home ∷ []) (omega arith)
            ((at_home.points, at_home.high), at_home.small, ((at_from.points, at_from.high), at_from.small, tt))
            (length text) (length text) (Characters text) block tt (λ e. e) (λ e. e) TEXT_SPARE
            (room_new (length (source_bytes t.source)) ∙ ap (room_in w None) long)
            (let f = new_few (length (source_bytes t.source)) in omega (arith, f, long))
            (copied StandsFixed law d w m x.heap x.sized to from text t)

      -- one of two
      module _ (left_at right_at : ℕ) (first second : List ℕ) (t : TextAt w.heap d.stands m left_at first) (u : TextAt w.heap d.stands m right_at second)
          (few : length first + length second < 2 ^ 32) (left right : Place) (at_left : IsAt c.base v left left_at) (at_right : IsAt c.base v right right_at)
        where
          pub join_runs : RowDoes live procs c lines FIRST TEXT_SPARE (NewThere block) (at c m (join_code home left right lines) v g)
              (perform (fresh_text (first ++ second)) w)
          join_runs =
              let q : JoiningTexts = join_use StandsFixed law d w m x.heap x.sized to left_at right_at first second t u few in
              let long : length (source_bytes t.source) + length (source_bytes u.source) ≡ length (first ++ second)
              = (let a = ap length t.bytes in let b = ap length u.bytes in let c = length-append first second in omega (arith, a, b, c)) in
              fresh_runs (joins_texts own_data_at).number JoiningTexts (joins_texts own_data_at).takes (joins_texts own_data_at).may joined_text
              (λ u place. place) (joins_texts own_data_at).lines (kept JoinsTexts) q
              (may_join StandsFixed law d w m x.heap x.sized to left_at right_at first second t u few can)
              (Where home ∷ Where left ∷ Where right ∷ []) (omega arith) (
                (at_home.points, at_home.high),
                at_home.small,
                ((at_left.points, at_left.high), at_left.small, ((at_right.points, at_right.high), at_right.small, tt)),
              )
              (length (first ++ second)) (length (first ++ second)) (Characters (first ++ second)) block tt (λ e. e) (λ e. e) TEXT_SPARE
              (room_new (length (source_bytes t.source) + length (source_bytes u.source)) ∙ ap (room_in w None) long)
              (let f = new_few (length (source_bytes t.source) + length (source_bytes u.source)) in omega (arith, f, long))
              (joined_there StandsFixed law d w m x.heap x.sized to left_at right_at first second t u few)

      -- that of a number in a variable
      module _ (word : ℕ) (small : word < 2 ^ 32) (few : length (signed_decimal (signed word)) < 2 ^ 32) (number : ℕ) (word_at : v number ≡ Some word)
          (number_high : IsHigh (Variable number))
        where
          pub show_runs : RowDoes live procs c lines FIRST TEXT_SPARE (NewThere block) (at c m (show_code home number lines) v g)
              (perform (fresh_text (signed_decimal (signed word))) w)
          show_runs =
              let q : NumberText = number_use StandsFixed law d w m x.heap x.sized to word small few in
              let text : List ℕ = signed_decimal (signed word) in
              fresh_runs (puts_number own_data_at).number NumberText (puts_number own_data_at).takes (puts_number own_data_at).may number_text
              (λ u place. place) (puts_number own_data_at).lines (kept PutsNumber) q
              (may_put_number StandsFixed law d w m x.heap x.sized to word small few can)
              (Where home ∷ Where (Variable number) ∷ []) (omega arith) ((at_home.points, at_home.high), at_home.small, ((word_at, number_high), small, tt))
              (length text) (length text) (Characters text) block tt (λ e. e) (λ e. e) TEXT_SPARE
              (room_new (length text))
              (let f = new_few (length text) in omega (arith, f))
              (number_there StandsFixed law d w m x.heap x.sized to word small few)
