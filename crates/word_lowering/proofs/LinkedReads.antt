-- A part of a constant to which a location leads: it stands in the data by its words, and nothing changes it.
use Rattle.std.proofs.Common.{◌≡◌, ℕ, ◌+◌, ◌≤◌, List, ◌++◌, length, true, sym, ap, subst, arith}
use Rattle.nim_meaning.specs.Values.{Value, Parts, Fixed, Location, Values, part, is_full}
use Rattle.nim_meaning.specs.State.{load, whole_at}
use Rattle.flat_code.specs.Pieces.{words_bytes}
use Rattle.flat_code.specs.Shapes.{Shape, block, elements, has_shape}
use Rattle.word_lowering.specs.Lowered.{data_at}
use Rattle.word_lowering.specs.declared.texts.TheConstants.{FIXED_BYTES}
use Rattle.word_lowering.proofs.Blocks.{IsLiteralHandle}
use Rattle.word_lowering.proofs.FixedParts.{IsFixedSequence, fixed_cell, fixed_sequence, fixed_text, fixed_whole, fixed_within, fixed_words, number_words}
use Rattle.word_lowering.proofs.FixedTexts.{IsFixedText, fixed_text as text_of_data, fixed_there}
use Rattle.word_lowering.proofs.FixedValues.{FixedAt}
use Rattle.word_lowering.proofs.FixedWords.{words_full, words_shaped}
use Rattle.word_lowering.proofs.InMemory.{IsAt}
use Rattle.word_lowering.proofs.Lines.{Basis, IsGood}
use Rattle.word_lowering.proofs.PieceWords.{WordsAt, by_words}
use Rattle.word_lowering.proofs.Related.{Both, IsText, sites_of, text_part}
use Rattle.word_lowering.proofs.Scenes.{FromLinked, is_fixed}
use Rattle.word_lowering.proofs.ShapeFacts.{of_numbers, shape_bytes, values_of_numbers}
use Rattle.word_lowering.proofs.Sites.{data_end}
use Rattle.word_lowering.proofs.Sources.{Readable, text_readable}

module _ (x : Basis) (g : Both) (y : IsGood x g) where
  module _ (l : Location) (a : ℕ) (t : Shape) (f : FromLinked g.ground l a t) where
    pub linked_load : load g.world l ≡ part f.value l.path
    linked_load = ap (λ b. part (whole_at g.world b) l.path) f.base

    pub linked_fixed : FixedAt (is_fixed g.ground) a t (load g.world l)
    linked_fixed = subst (FixedAt (is_fixed g.ground) a t) (sym linked_load) f.stands

    pub linked_shaped : has_shape (load g.world l) t ≡ true
    linked_shaped = words_shaped (is_fixed g.ground) linked_fixed.words t (load g.world l) linked_fixed.are

    pub linked_full : is_full (load g.world l) ≡ true
    linked_full = words_full (is_fixed g.ground) linked_fixed.words t (load g.world l) linked_fixed.are

    -- the data where it stands
    there : IsFixedText x linked_fixed.place (words_bytes (linked_fixed.before ++ (linked_fixed.words ++ linked_fixed.behind)))
    there =
        text_of_data x g y linked_fixed.place (words_bytes (linked_fixed.before ++ (linked_fixed.words ++ linked_fixed.behind))) linked_fixed.stands

    within : (linked_fixed.place ≤ a)
        × (a + shape_bytes t ≤ linked_fixed.place + length (words_bytes (linked_fixed.before ++ (linked_fixed.words ++ linked_fixed.behind))))
    within = fixed_within (is_fixed g.ground) g.memory y.memory.sized (fixed_there x g y) a t (load g.world l) linked_fixed

    linked_text_of : IsText x.table x.blocks a (shape_bytes t)
    linked_text_of =
        text_part x.table x.blocks linked_fixed.place (length (words_bytes (linked_fixed.before ++ (linked_fixed.words ++ linked_fixed.behind)))) a
        (shape_bytes t) there.among within.0 within.1

    pub linked_readable : Readable x (sites_of g) y.linked g.memory a (shape_bytes t)
    linked_readable =
        text_readable x (sites_of g) y.linked g.memory a (shape_bytes t) y.memory linked_text_of
        (fixed_whole (is_fixed g.ground) g.memory y.memory.sized (fixed_there x g y) a t (load g.world l) linked_fixed)
        (fixed_cell (is_fixed g.ground) g.memory y.memory.sized (fixed_there x g y) a t (load g.world l) linked_fixed)

    -- it is behind what is made in the data for operands
    pub linked_behind : FIXED_BYTES ≤ data_end x.table x.blocks → data_at + FIXED_BYTES ≤ a
    linked_behind least = let low = there.low in let w = within in omega (arith, least, low, w)

    pub linked_numbers : of_numbers t ≡ true → IsAt g.memory a (load g.world l)
    linked_numbers numbers =
        by_words g.memory a (load g.world l) (values_of_numbers (load g.world l) t numbers linked_shaped)
        (subst (WordsAt g.memory a) (number_words (is_fixed g.ground) linked_fixed.words t (load g.world l) numbers linked_fixed.are)
        (fixed_words (is_fixed g.ground) g.memory y.memory.sized (fixed_there x g y) a t (load g.world l) linked_fixed))

  -- a text, and a sequence, by its handle
  pub linked_text : (l : Location) (a : ℕ) → FromLinked g.ground l a block
      → (text : List ℕ) × (load g.world l ≡ Fixed text) × IsLiteralHandle (is_fixed g.ground) g.memory a text
  linked_text l a f = fixed_text (is_fixed g.ground) g.memory y.memory.sized (fixed_there x g y) a (load g.world l) (linked_fixed l a block f)

  pub linked_sequence : (l : Location) (a : ℕ) (s : Shape) → FromLinked g.ground l a (elements s)
      → (vs : Values) × (load g.world l ≡ Parts vs) × IsFixedSequence (is_fixed g.ground) g.memory a s vs
  linked_sequence l a s f =
      fixed_sequence (is_fixed g.ground) g.memory y.memory.sized (fixed_there x g y) a s (load g.world l) (linked_fixed l a (elements s) f)
