-- What lines rest on that write, from the memory at the start on.
use Rattle.std.proofs.Common.{◌≡◌, ℕ, ◌+◌, ◌≤◌, List, ◌++◌, length, take, drop, true, false, ap, ap₂, ◌∙◌, append_assoc, arith}
use Rattle.std.specs.Set.{is_member}
use Rattle.nim_types.specs.Table.{IsTable}
use Rattle.nim_types.specs.Types.{same_text}
use Rattle.flat_code.specs.Sizes.{lines_texts}
use Rattle.word_lowering.specs.declared.may_lower.TheConstants.{MOST_DATA}
use Rattle.word_lowering.specs.Aliases.{texts_of}
use Rattle.word_lowering.specs.Layouts.{is_empty}
use Rattle.word_lowering.specs.LineCode.{literal_at}
use Rattle.word_lowering.specs.Texts.{texts_in}
use Rattle.word_lowering.specs.Lowered.{lowered}
use Rattle.word_lowering.specs.MayLower.{defs_may}
use Rattle.word_lowering.specs.Stored.{HaveForms}
use Rattle.word_lowering.specs.Runtimes.{with_runtimes}
use Rattle.word_lowering.proofs.DataEnd.{globals_behind, globals_whole}
use Rattle.word_lowering.proofs.FirstLiterals.{literal_there, text_there, text_fixed}
use Rattle.word_lowering.proofs.FirstMemory.{drop_past, first_memory, own}
use Rattle.word_lowering.proofs.FirstNames.{take_front}
use Rattle.word_lowering.proofs.FirstTexts.{line_end_there, names_there}
use Rattle.word_lowering.proofs.JoinedTypes.{type_compared_text, type_joined}
use Rattle.word_lowering.proofs.Lines.{Basis}
use Rattle.word_lowering.proofs.Sites.{Body, IsBody, around, lines_of}
use Rattle.word_lowering.proofs.TextLines.{TextAt}
use Rattle.word_lowering.proofs.TypeEntries.{type_text}
use Rattle.word_lowering.proofs.TypeShapes.{type_looks}
use Rattle.word_lowering.proofs.WrittenLines.{Writing}

module _ (x : Basis) (heap stack : ℕ) (is : x.first ≡ first_memory (with_runtimes x.runtimes (lowered x.table x.blocks)) heap stack)
    (table : IsTable x.table) (have : HaveForms x.table) (some : is_empty x.blocks.procs ≡ false) (most : length (own x.table x.blocks) ≤ MOST_DATA)
    (may : defs_may x.table ≡ true) where
  literal : (b : Body) → IsBody x.table x.blocks b → (before text after : List ℕ) → texts_of (lines_of b) ≡ before ++ (text ++ after)
      → is_member same_text (lines_texts (lines_of b)) text ≡ true → TextAt x (literal_at (around x.table x.blocks b) (length before) (length text)) text
  literal b body before text after e among =
      let s = body.texts in
      let more : List ℕ = after ++ s.others in
      let whole : texts_in x.blocks.procs ≡ s.behind ++ (before ++ (text ++ more))
      = s.whole ∙ ap (λ l. s.behind ++ l) (ap (λ l. l ++ s.others) e ∙ append_assoc before (text ++ after) s.others
      ∙ ap (λ l. before ++ l) (append_assoc text after s.others)) in
      let at : b.literals + length before ≡ length s.behind + (length before + 0) = let h = s.at in omega (arith, h) in
      let stands : take (length text) (drop (b.literals + length before) (texts_in x.blocks.procs)) ≡ text
      = ap₂ (λ n l. take (length text) (drop n l)) at whole
      ∙ ap (take (length text)) (drop_past s.behind (before ++ (text ++ more)) (length before + 0) ∙ drop_past before (text ++ more) 0)
      ∙ take_front text more in
      literal_there x heap stack is (globals_behind x.table x.blocks some) (globals_whole x.table x.blocks) most (b.literals + length before) text stands
      (s.among text among)

  pub writing : Writing x
  writing =
      let least = globals_behind x.table x.blocks some in
      let whole = globals_whole x.table x.blocks in
      record {
        least = least;
        names = names_there x heap stack is least whole most may;
        literals = record {
          line_end = line_end_there x heap stack is least whole most;
          laid = λ b body text among. text_there x heap stack is least whole most text (body.texts.among text among);
          fixed = λ b body text among are. text_fixed x heap stack is least whole most text (body.texts.among text among) are;
          literal = literal;
        };
        looks = type_looks x.table table have;
        texts = type_text x.table table;
        joined = type_joined x.table table;
        compared = type_compared_text x.table table have;
      }
