-- The text of a literal: its handle stands in the data, and nothing changes it.
use Rattle.std.proofs.Common.{◌≡◌, inl, inr, ℕ, ◌+◌, ◌-◌, ◌%◌, ◌^◌, ◌<◌, ◌≤◌, List, [], ◌∷◌, length, Ok, true, sym, ap, ap₂, subst, arith}
use Rattle.std.specs.Set.{is_member}
use Rattle.nim_types.specs.Types.{same_text}
use Rattle.rv32_isa.specs.Regions.{AreBytes}
use Rattle.flat_code.specs.Codes.{block_plain}
use Rattle.flat_code.specs.Sizes.{code_texts}
use Rattle.rv32_isa.specs.declared.micro_op.Size.TheVariants.{Word}
use Rattle.word_code.specs.Memory.{number_at}
use Rattle.word_code.specs.RoutineTable.{Cell}
use Rattle.word_lowering.proofs.Blocks.{IsLiteralHandle}
use Rattle.word_lowering.proofs.FixedTexts.{is_fixed_first, is_fixed_now}
use Rattle.word_lowering.proofs.Lines.{Basis, IsGood, text_laid}
use Rattle.word_lowering.proofs.PieceWords.{WordsAt}
use Rattle.word_lowering.proofs.Related.{Both, HandleThere, IsClosed, sites_of, text_part}
use Rattle.word_lowering.proofs.Scenes.{handle_from, is_fixed, text_from}
use Rattle.word_lowering.proofs.Sources.{Readable, text_readable}
use Rattle.word_lowering.proofs.StandingWords.{cell_still, words_still}

closed_near : (x : Basis) (a n : ℕ) → IsClosed x.table x.blocks a n → a + n < 2 ^ 32
closed_near x a n (inl c) = omega (arith, c.1)
closed_near x a n (inr c) = omega (arith, c.1)

-- ---- a text of the data, behind its handle

module _ (x : Basis) (text : List ℕ) (bytes : AreBytes text) (among : is_member same_text (code_texts block_plain x.blocks.procs) text ≡ true) where
  abbrev there : HandleThere x.table x.blocks x.first text
  there = text_laid x text among

  abbrev handle_at : ℕ
  handle_at = handle_from x.table x.blocks text

  abbrev text_at : ℕ
  text_at = text_from x.table x.blocks text

  -- both are at addresses of the machine
  pub handle_near : handle_at + 8 < 2 ^ 32
  handle_near = closed_near x handle_at 8 there.handle.is_text.0

  pub text_near : text_at + length text + 4 < 2 ^ 32
  text_near = let most = x.data_most in let high = there.high in omega (arith, most, high)

  module _ (g : Both) (y : IsGood x g) where
    pub text_stands : is_fixed g.ground text_at text
    text_stands = is_fixed_now x g y text_at text (is_fixed_first x text_at text there.low there.high bytes there.reads)

    words_now : WordsAt g.memory handle_at (length text ∷ text_at ∷ [])
    words_now = words_still x (sites_of g) g.memory y.memory handle_at (length text ∷ text_at ∷ []) there.handle.is_text there.handle.words

    pub text_led : number_at g.memory (handle_at + 4) Word ≡ Ok text_at
    text_led = words_now.1.0

    pub handle_stands : IsLiteralHandle (is_fixed g.ground) g.memory handle_at text
    handle_stands =
        let most = x.data_most in
        let high = there.high in
        record {
          place = text_at;
          long = words_now.0;
          few = omega (arith, most, high);
          there = text_led;
          near = omega (arith, most, high);
          stands = text_stands;
        }

    pub handle_cell : (a : ℕ) → handle_at ≤ a → a + 4 ≤ handle_at + 8 → a % 4 ≡ 0 → Cell g.memory a
    handle_cell a low high is =
        let whole = there.handle.whole in
        cell_still x (sites_of g) g.memory y.memory a (text_part x.table x.blocks handle_at 8 a 4 there.handle.is_text low high)
        (subst (Cell x.first) (from_there low) (there.handle.cells (a - handle_at) (omega (arith, low, high)) (omega (arith, whole, is, low))))
      where
        from_there : handle_at ≤ a → handle_at + (a - handle_at) ≡ a
        from_there low = omega (arith, low)

    pub handle_readable : Readable x (sites_of g) y.linked g.memory handle_at 8
    handle_readable =
        text_readable x (sites_of g) y.linked g.memory handle_at 8 y.memory there.handle.is_text there.handle.whole
        (λ a low high is. handle_cell a low high is)
