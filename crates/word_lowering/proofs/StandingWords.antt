-- Constants that stand in the data are there as long as memory is good.
use Rattle.std.proofs.Common.{◌≡◌, ℕ, ◌+◌, ◌%◌, List, [], ◌∷◌, ap, ◌∙◌, arith, ◌≤◌, length, inl, inr, false, sym}
use Rattle.std.specs.Prelude.{◌==◌, ◌&&◌, ◌||◌, nat_le}
use Rattle.rv32_isa.specs.declared.micro_op.Size.TheVariants.{Word}
use Rattle.word_code.specs.Memory.{Memory, as_state, number_at}
use Rattle.word_code.specs.RoutineTable.{Cell}
use Rattle.word_lowering.proofs.PieceWords.{WordsAt, room_of}
use Rattle.word_lowering.proofs.Related.{IsText, MemoryGood, text_part, IsClosed}
use Rattle.word_lowering.proofs.RoutineMemory.{same_word}
use Rattle.word_lowering.proofs.Lines.{Basis, with_these, same_sizes}
use Rattle.std.proofs.lemmas.Bool.{and_parts, leb-true, false_from_ne_true}
use Rattle.rv32_isa.specs.State.{lies_in}
use Rattle.rv32_isa.specs.Image.{statics_at, heap_at, stack_at}
use Rattle.word_lowering.proofs.Sites.{Site}

module _ (x : Basis) (sites : List Site) (m : Memory) (good : MemoryGood x.table x.blocks sites x.first m) where
  word_still : (a : ℕ) → IsText x.table x.blocks a 4 → number_at m a Word ≡ number_at x.first a Word
  word_still a text = same_word x.first m a (good.texts a 4 text)

  -- such a word is none of the places
  no_place : (places : List ℕ) (a : ℕ) → IsClosed x.table x.blocks a 4 → lies_in stack_at places a 4 ≡ false
  no_place places a text = false_from_ne_true (lies_in stack_at places a 4) (λ e.
      let low = leb-true stack_at a (and_parts (nat_le stack_at a) (nat_le (a + 4) (stack_at + length places)) e).0 in below low text)
    where
      below : stack_at ≤ a → IsClosed x.table x.blocks a 4 → ⊥
      below low (inl h) = absurd (omega (arith, low, h.1))
      below low (inr h) = absurd (omega (arith, low, h.1))

  pub cell_still : (a : ℕ) → IsText x.table x.blocks a 4 → Cell x.first a → Cell m a
  cell_still a text c = record {
    may = ap (λ b. (a % 4 == 0) && b) (x.law.stores (as_state (with_these x sites m good)) (as_state m) a 4 (same_sizes x sites m good))
        ∙ ap (λ b. (a % 4 == 0) && (lies_in statics_at x.first.statics a 4 || (lies_in heap_at x.first.heap a 4 || b)))
        (no_place m.places a text.0 ∙ sym (no_place x.first.places a text.0))
        ∙ c.may;
    word = c.word;
    reads = word_still a text ∙ c.reads;
  }

  pub words_still : (a : ℕ) (ws : List ℕ) → IsText x.table x.blocks a (room_of ws) → WordsAt x.first a ws → WordsAt m a ws
  words_still a [] text at = tt
  words_still a (w ∷ ws) text at = (
    word_still a (text_part x.table x.blocks a (4 + room_of ws) a 4 text (omega arith) (omega arith)) ∙ at.0,
    words_still (a + 4) ws (text_part x.table x.blocks a (4 + room_of ws) (a + 4) (room_of ws) text (omega arith) (omega arith)) at.1,
  )
