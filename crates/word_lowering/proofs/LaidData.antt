-- Where the texts of code and its constants are laid out in the data.
use Rattle.std.proofs.Common.{◌≡◌, ℕ, ◌+◌, ◌-◌, ◌%◌, ◌≤◌, List, ◌++◌, length, replicate, sym, ap, ◌∙◌, arith, append_assoc, length-append}
use Rattle.nim_types.specs.declared.types.TypeDef.{TypeDef}
use Rattle.rv32_isa.specs.Words.{word_bytes}
use Rattle.rv32_isa.proofs.ForCallers.{length-word_bytes}
use Rattle.flat_code.specs.declared.block.BlockLine.{BlockLine}
use Rattle.flat_code.specs.declared.code.Code.{Code}
use Rattle.word_lowering.specs.declared.handed.TheConstants.{LEFT_HANDLE_AT}
use Rattle.word_lowering.specs.declared.texts.TheConstants.{FIXED_BYTES}
use Rattle.word_lowering.specs.declared.may_lower.TheConstants.{MOST_DATA}
use Rattle.word_lowering.specs.Texts.{padded, all_names, joined_all, ends_from, texts_at, texts_from, text_place, handle_place, place_among, or_zero}
use Rattle.word_lowering.specs.Texts.{data_at}
use Rattle.word_lowering.specs.Linked.{laid_out}
use Rattle.word_lowering.specs.Runtimes.{Runtimes}
use Rattle.word_lowering.proofs.DistinctTexts.{is_laid, more_behind}
use Rattle.word_lowering.proofs.FirstMemory.{own, own_is, globals, fixed, behind, pad}
use Rattle.word_lowering.proofs.FirstNames.{ends_length, behind_is}
use Rattle.word_lowering.proofs.Sites.{laid_from, IsLaidOut}
use Rattle.word_lowering.proofs.Padding.{zeros_length, padded_length, padded_whole}

module _ (table : List TypeDef) (blocks : Code BlockLine) where
  abbrev pub distinct : List (List ℕ)
  distinct = laid_out (laid_from table blocks) blocks.procs

  -- where the handle of a text of the code is laid out, or of a constant that stands in the data
  abbrev pub handle_at : (text : List ℕ) → ℕ
  handle_at text = texts_at table (globals table blocks) + handle_place (laid_from table blocks) blocks.procs text

  -- and what stands behind it
  abbrev pub laid_at : (text : List ℕ) → ℕ
  laid_at text = texts_at table (globals table blocks) + text_place (laid_from table blocks) blocks.procs text

  -- it begins at a word behind the globals
  pub record LaidAt (text : List ℕ) : Type 0 where
    pub before : List ℕ
    pub after : List ℕ
    pub whole : own table blocks ≡ before ++ (word_bytes (length text) ++ (word_bytes (data_at + laid_at text) ++ (text ++ after)))
    pub at : length before ≡ handle_at text
    pub at_word : handle_at text % 4 ≡ 0
    pub behind_globals : globals table blocks ≤ handle_at text

  -- the text alone
  pub record TextAlone (text : List ℕ) : Type 0 where
    pub before : List ℕ
    pub after : List ℕ
    pub whole : own table blocks ≡ before ++ (text ++ after)
    pub at : length before ≡ laid_at text
    pub at_word : laid_at text % 4 ≡ 0
    pub behind_globals : globals table blocks ≤ laid_at text

  pub text_alone : (text : List ℕ) → LaidAt text → TextAlone text
  text_alone text l =
      let n : List ℕ = word_bytes (length text) in
      let p : List ℕ = word_bytes (data_at + laid_at text) in
      let e = length-append l.before (n ++ p) in
      let f = length-append n p in
      let g = length-word_bytes (length text) in
      let h = length-word_bytes (data_at + laid_at text) in
      let at = l.at in
      let word = l.at_word in
      let behind_globals = l.behind_globals in
      record {
        before = l.before ++ (n ++ p);
        after = l.after;
        whole = l.whole ∙ ap (λ k. l.before ++ k) (sym (append_assoc n p (text ++ l.after))) ∙ sym (append_assoc l.before (n ++ p) (text ++ l.after));
        at = omega (arith, at, e, f, g, h);
        at_word = omega (arith, word);
        behind_globals = omega (arith, behind_globals);
      }

  module _ (runtime : Runtimes) (heap stack : ℕ) (least : FIXED_BYTES ≤ globals table blocks) (whole : globals table blocks % 4 ≡ 0)
      (most : length (own table blocks) ≤ MOST_DATA) where
    pub laid_there : (text : List ℕ) → IsLaidOut table blocks text → LaidAt text
    laid_there text among =
        let from : ℕ = data_at + texts_at table (globals table blocks) in
        let there = is_laid from distinct text among in
        let zeros : List ℕ = replicate (globals table blocks - LEFT_HANDLE_AT) 0 in
        let front : List ℕ = fixed table blocks ++ zeros in
        let joined : List ℕ = joined_all (all_names table) in
        let names : List ℕ = padded joined in
        let ends : List ℕ = ends_from 0 (all_names table) in
        let tail : List ℕ = pad table blocks in
        let texts : List ℕ = texts_from table (globals table blocks) blocks.procs in
        let n : List ℕ = word_bytes (length text) in
        let place : or_zero (place_among distinct text) ≡ length there.before = ap or_zero there.place in
        let address : from + length there.before + 8 ≡ data_at + laid_at text = omega (arith, place) in
        let p : List ℕ = word_bytes (data_at + laid_at text) in
        let more : List ℕ = n ++ (p ++ (text ++ (there.after ++ tail))) in
        let middle : List ℕ = ends ++ (names ++ there.before) in
        let laid : texts ++ tail ≡ there.before ++ more
        = ap (λ l. l ++ tail) there.whole
        ∙ more_behind there.before n (word_bytes (from + length there.before + 8)) text there.after tail
        ∙ ap (λ a. there.before ++ (n ++ (word_bytes a ++ (text ++ (there.after ++ tail))))) address in
        let behind_so : behind table blocks ++ tail ≡ middle ++ more
        = behind_is table blocks runtime heap stack least whole most ∙ ap (λ l. ends ++ (names ++ l)) laid
        ∙ ap (λ l. ends ++ l) (sym (append_assoc names there.before more)) ∙ sym (append_assoc ends (names ++ there.before) more) in
        let e = ends_length 0 (0 + length joined) (all_names table) in
        let f = padded_length joined in
        let g = padded_whole joined in
        let word = there.at_word in
        let a = length-append front middle in
        let b = length-append (fixed table blocks) zeros in
        let c = length-append ends (names ++ there.before) in
        let d = length-append names there.before in
        let z = zeros_length (globals table blocks - LEFT_HANDLE_AT) in
        record {
          before = front ++ middle;
          after = there.after ++ tail;
          whole = own_is table blocks ∙ sym (append_assoc (fixed table blocks) zeros (behind table blocks ++ tail))
              ∙ ap (λ l. front ++ l) behind_so ∙ sym (append_assoc front middle more);
          at = omega (arith, a, b, c, d, z, e, place, least);
          at_word = omega (arith, place, g, word, whole);
          behind_globals = omega (arith, place);
        }
