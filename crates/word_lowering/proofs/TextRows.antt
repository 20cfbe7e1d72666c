-- The rows that give a text at a location more characters, or another length: what holds of homes behind the routine is what holds in the meaning's
-- world behind the deed.
use Rattle.std.proofs.Common.{◌≡◌, ℕ, ◌+◌, ◌-◌, ◌^◌, ◌<◌, List, [], ◌++◌, length, Option, Some, None, refl, sym, ap, subst, ◌∙◌}
use Rattle.std.proofs.lemmas.Option.{none-some, same_Some}
use Rattle.nim_meaning.specs.Values.{Handle, Location, length_of}
use Rattle.nim_meaning.specs.Heap.{Characters, Block, block_at}
use Rattle.nim_meaning.specs.State.{World, load, text_of}
use Rattle.nim_meaning.specs.Deeds.{perform}
use Rattle.nim_meaning.specs.Lifted.{has_place, resized}
use Rattle.nim_meaning.specs.OwnedRows.{appended, text_to}
use Rattle.flat_code.specs.Shapes.{block}
use Rattle.word_code.specs.Memory.{Memory, own_data_at}
use Rattle.word_code.proofs.ForCallers.{MemoryLaw}
use Rattle.heap_memory.specs.TextRoutines.{AreBytes}
use Rattle.heap_memory.specs.AppendRoutine.{source_bytes}
use Rattle.heap_memory.specs.HandleRoutines.{AreContentsPut, appended_text, resized_text}
use Rattle.word_lowering.proofs.Blocks.{Bytes, Blocks, IsHandle}
use Rattle.word_lowering.proofs.BlockHomes.{Home, SameOrApart, HomesHold, LeadsTo}
use Rattle.word_lowering.proofs.BlocksMade.{heap_resized, block_resized}
use Rattle.word_lowering.proofs.TextOperands.{TextAt, text_is}
use Rattle.word_lowering.proofs.HandlesPut.{LeavesHandle, block_of_text, text_then, append_use, appended_there, resize_use, resized_there}
use Rattle.word_lowering.proofs.RowsLeft.{IsLeft}
use Rattle.word_lowering.proofs.ResizedWorlds.{answered, behind_answers}
use Rattle.word_lowering.proofs.ResizedRows.{IsAway, text_away, MayWrite, resized_row}

module _ (StandsFixed : (place : ℕ) → List ℕ → Type 0) (Homes : Home → Type 0) (apart : (g h : Home) → Homes g → Homes h → SameOrApart g h)
    (law : MemoryLaw) (d : Blocks) (w : World) (m : Memory) (x : HomesHold StandsFixed Homes apart d w m) (are : AreBytes m.heap) (l : Location)
    (to n : ℕ) (k : Option ℕ) (is : load w l ≡ Handle n k) (leads : LeadsTo StandsFixed Homes apart d l to block) (h : IsHandle d m to block n k)
    (b : block_of_text StandsFixed law d w m x.heap x.sized n k)
  where
    pub there : (j : ℕ) → k ≡ Some j → (c : Block) × (block_at w.heap j ≡ Some c)
    there j e = by k b e
      where
        by : (q : Option ℕ) → block_of_text StandsFixed law d w m x.heap x.sized n q → q ≡ Some j → (c : Block) × (block_at w.heap j ≡ Some c)
        by None t e = absurd (none-some j e)
        by (Some i) t e = (t.block, ap (block_at w.heap) (sym (same_Some i j e)) ∙ t.there)

    pub away : (j : ℕ) → k ≡ Some j → IsAway StandsFixed Homes apart d l to block j
    away j e = text_away StandsFixed Homes apart d l to j (by k b e)
      where
        by : (q : Option ℕ) → block_of_text StandsFixed law d w m x.heap x.sized n q → q ≡ Some j → d.inside j ≡ Bytes
        by None t e = absurd (none-some j e)
        by (Some i) t e = ap d.inside (sym (same_Some i j e)) ∙ t.inside

    abbrev pub Mine : Type 0
    Mine = MayWrite StandsFixed Homes apart law d w m x l to n k is block tt leads there away leads

    -- its characters
    pub text_now : text_of w (load w l) ≡ text_then StandsFixed law d w m x.heap x.sized n k b
    text_now = ap (text_of w) is ∙ by k b
      where
        by : (q : Option ℕ) (t : block_of_text StandsFixed law d w m x.heap x.sized n q)
            → text_of w (Handle n q) ≡ text_then StandsFixed law d w m x.heap x.sized n q t
        by None t = refl
        by (Some i) t = text_is StandsFixed d w m x.heap n i t

    text_row : (long : ℕ) (text : List ℕ) (other : Memory) (after : World)
        → LeavesHandle StandsFixed d (heap_resized (has_place w k long) w.heap k long (Characters text)) m other to block long long
        (block_resized (has_place w k long) w.heap k) → answered (perform (resized long long (Characters text) l) w) ≡ Some after → Mine
        → IsLeft StandsFixed Homes apart d m after other to 8
    text_row long text other after y done mine =
        resized_row StandsFixed Homes apart law d w m x l to n k is block tt leads there away long long (Characters text) after (λ e. e) done
        other y mine

    -- ---- more characters

    module _ (more : List ℕ) (other : Memory) (after : World) where
      pub more_row : LeavesHandle StandsFixed d (heap_resized (has_place w k (n + length more)) w.heap k (n + length more)
          (Characters (text_then StandsFixed law d w m x.heap x.sized n k b ++ more))) m other to block (n + length more) (n + length more)
          (block_resized (has_place w k (n + length more)) w.heap k) → answered (perform (appended more l) w) ≡ Some after → Mine
          → IsLeft StandsFixed Homes apart d m after other to 8
      more_row left done mine =
          text_row (n + length more) (text_then StandsFixed law d w m x.heap x.sized n k b ++ more) other after left
          (subst (λ ts. answered (perform (resized (n + length more) (n + length more) (Characters (ts ++ more)) l) w) ≡ Some after) text_now
          (subst (λ v. answered (perform (resized (length_of v + length more) (length_of v + length more) (Characters (text_of w (load w l) ++ more)) l) w)
          ≡ Some after) is
          (sym (behind_answers [] (length more)
          (perform (resized (length_of (load w l) + length more) (length_of (load w l) + length more) (Characters (text_of w (load w l) ++ more)) l) w))
          ∙ done))) mine

      pub append_row : (from : ℕ) (t : TextAt w.heap d.stands m from more) → n + length (source_bytes t.source) < 2 ^ 32
          → AreContentsPut own_data_at (appended_text (append_use StandsFixed law d w m x.heap x.sized are to n k h b from more t)) m other
          → answered (perform (appended more l) w) ≡ Some after → Mine → IsLeft StandsFixed Homes apart d m after other to 8
      append_row from t small put done mine =
          more_row (appended_there StandsFixed law d w m x.heap x.sized are to n k h b from more t other small put) done mine

    -- ---- another length

    module _ (long : ℕ) (small : long < 2 ^ 32) (other : Memory) (after : World) where
      pub text_length_row : AreContentsPut own_data_at (resized_text (resize_use StandsFixed law d w m x.heap x.sized are to n k h b long small)) m other
          → answered (perform (resized long long (Characters (text_to long (text_of w (load w l)))) l) w) ≡ Some after → Mine
          → IsLeft StandsFixed Homes apart d m after other to 8
      text_length_row put done mine =
          text_row long (text_to long (text_then StandsFixed law d w m x.heap x.sized n k b)) other after
          (resized_there StandsFixed law d w m x.heap x.sized are to n k h b long small other put)
          (subst (λ ts. answered (perform (resized long long (Characters (text_to long ts)) l) w) ≡ Some after) text_now done) mine
