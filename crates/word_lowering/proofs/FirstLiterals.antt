-- Texts of literals stand in the data at the start.
use Rattle.std.proofs.Common.{◌≡◌, inl, inr, ℕ, ◌+◌, ◌%◌, ◌≤◌, List, ◌++◌, true}
use Rattle.std.proofs.Common.{length, take, drop, sym, ap, ap₂, subst, ◌∙◌, arith, length-append}
use Rattle.std.specs.Set.{is_member}
use Rattle.nim_types.specs.Types.{same_text}
use Rattle.flat_code.specs.Codes.{block_plain}
use Rattle.flat_code.specs.Sizes.{code_texts}
use Rattle.word_code.specs.Memory.{bytes_at}
use Rattle.word_lowering.specs.declared.texts.TheConstants.{FIXED_BYTES}
use Rattle.word_lowering.specs.declared.may_lower.TheConstants.{MOST_DATA}
use Rattle.word_lowering.specs.Texts.{text_place, texts_in, texts_at, place_of}
use Rattle.word_lowering.specs.Lowered.{data_at, lowered}
use Rattle.word_lowering.specs.Runtimes.{with_runtimes}
use Rattle.rv32_isa.specs.Regions.{AreBytes}
use Rattle.word_lowering.proofs.FixedTexts.{is_fixed_first}
use Rattle.word_lowering.proofs.Related.{is_text_of_data}
use Rattle.word_lowering.proofs.FirstMemory.{drop_past, first_memory, own, globals}
use Rattle.word_lowering.proofs.FirstNames.{take_front}
use Rattle.word_lowering.proofs.FirstTexts.{text_bytes}
use Rattle.word_lowering.proofs.LaidOut.{among_laid}
use Rattle.word_lowering.proofs.Sites.{laid_from}
use Rattle.word_lowering.proofs.LaidData.{laid_at, laid_there, text_alone}
use Rattle.word_lowering.proofs.Lines.{Basis}
use Rattle.word_lowering.proofs.TextLines.{TextAt}

module _ (x : Basis) (heap stack : ℕ) (is : x.first ≡ first_memory (with_runtimes x.runtimes (lowered x.table x.blocks)) heap stack)
    (least : FIXED_BYTES ≤ globals x.table x.blocks) (whole : globals x.table x.blocks % 4 ≡ 0) (most : length (own x.table x.blocks) ≤ MOST_DATA) where
  -- a text of the code, where it is laid out
  pub text_there : (text : List ℕ) → is_member same_text (code_texts block_plain x.blocks.procs) text ≡ true
      → TextAt x (texts_at x.table (globals x.table x.blocks) + text_place (laid_from x.table x.blocks) x.blocks.procs text) text
  text_there text among =
      let there = text_alone x.table x.blocks text (laid_there x.table x.blocks x.runtimes heap stack least whole most text
      (among_laid (laid_from x.table x.blocks) x.blocks.procs text among)) in
      let from : ℕ = laid_at x.table x.blocks text in
      let at = there.at in
      let behind_globals = there.behind_globals in
      let n0 = ap length there.whole in
      let n1 = length-append there.before (text ++ there.after) in
      let n2 = length-append text there.after in
      let place : from ≡ length there.before + 0 = omega (arith, at) in
      let stands : take (length text) (drop from (own x.table x.blocks)) ≡ text
      = ap₂ (λ j l. take (length text) (drop j l)) place there.whole
      ∙ ap (take (length text)) (drop_past there.before (text ++ there.after) 0) ∙ take_front text there.after in
      record {
        is_text = (inr (omega (arith, behind_globals), omega (arith, at, n0, n1, n2, most)), inl (omega (arith, at, n0, n1, n2)));
        small = omega (arith, at, n0, n1, n2, most);
        bytes = ap (λ m. bytes_at m (data_at + from) (length text)) is
            ∙ text_bytes x heap stack is least whole most from text (omega (arith, at, n0, n1, n2)) stands;
      }

  -- nothing changes it
  pub text_fixed : (text : List ℕ) → is_member same_text (code_texts block_plain x.blocks.procs) text ≡ true → AreBytes text
      → is_text_of_data x.table x.blocks x.first (data_at + (texts_at x.table (globals x.table x.blocks) + text_place (laid_from x.table x.blocks)
      x.blocks.procs text)) text ≡ true
  text_fixed text among are =
      let there = text_alone x.table x.blocks text (laid_there x.table x.blocks x.runtimes heap stack least whole most text
      (among_laid (laid_from x.table x.blocks) x.blocks.procs text among)) in
      let from : ℕ = laid_at x.table x.blocks text in
      let at = there.at in
      let behind_globals = there.behind_globals in
      let n0 = ap length there.whole in
      let n1 = length-append there.before (text ++ there.after) in
      let n2 = length-append text there.after in
      is_fixed_first x (data_at + from) text (omega (arith, behind_globals)) (omega (arith, at, n0, n1, n2)) are (text_there text among).bytes

  -- one which stands at this offset in it
  pub literal_there : (offset : ℕ) (text : List ℕ) → take (length text) (drop offset (texts_in x.blocks.procs)) ≡ text
      → is_member same_text (code_texts block_plain x.blocks.procs) text ≡ true
      → TextAt x (texts_at x.table (globals x.table x.blocks) + place_of (laid_from x.table x.blocks) x.blocks.procs offset (length text)) text
  literal_there offset text stands_so among =
      subst (λ t. TextAt x (texts_at x.table (globals x.table x.blocks) + text_place (laid_from x.table x.blocks) x.blocks.procs t) text) (sym stands_so)
      (text_there text among)
