-- The handle that is made of a text of the data, by what the text is.
use Rattle.std.proofs.Common.{◌≡◌, ℕ, ◌+◌, List, [], ◌∷◌, length, true, refl, ◌∙◌, arith}
use Rattle.std.specs.Set.{is_member}
use Rattle.nim_types.specs.Types.{same_text}
use Rattle.flat_code.specs.declared.block.BlockLine.{BlockLine}
use Rattle.flat_code.specs.Sizes.{lines_texts}
use Rattle.word_code.specs.declared.word.WordInstr.{WordInstr}
use Rattle.word_code.specs.declared.word.WordInstr.TheVariants.{Constant, Datum}
use Rattle.word_code.specs.Words.{Vars, put}
use Rattle.word_code.proofs.ForCallers.{run_constant, then_runs}
use Rattle.word_lowering.specs.declared.handed.TheConstants.{LEFT_HANDLE_AT}
use Rattle.word_lowering.specs.declared.homes.TheConstants.{FIRST, SECOND}
use Rattle.word_lowering.specs.declared.homes.Home.TheVariants.{Static}
use Rattle.word_lowering.specs.Lowered.{data_at}
use Rattle.word_lowering.specs.Operands.{text_at}
use Rattle.word_lowering.specs.OwnedCode.{handle_code}
use Rattle.word_lowering.proofs.Lines.{Basis, IsGood, all_procs, starts}
use Rattle.word_lowering.proofs.Moves.{address_runs, same_first, same_more, same_second}
use Rattle.word_lowering.proofs.OperandTexts.{TextsBuilt}
use Rattle.word_lowering.proofs.OrdinalRuns.{put_here, put_other}
use Rattle.word_lowering.proofs.Related.{Both, body_of, within}
use Rattle.word_lowering.proofs.RowOperands.{HasHandleAt, laid_handle}
use Rattle.word_lowering.proofs.Sites.{around, lines_of}
use Rattle.word_lowering.proofs.TextLines.{TextAt as LaidAt}
use Rattle.word_lowering.proofs.WrittenLines.{Writing}

module _ (x : Basis) (said : Writing x) (texts : TextsBuilt x) (g : Both) (line : BlockLine) (rest : List BlockLine) (y : IsGood x (starts g line rest)) where
  abbrev place : List ℕ → ℕ
  place text = text_at (around x.table x.blocks (body_of g)) text

  pub text_handle : (text : List ℕ) → is_member same_text (lines_texts (lines_of (body_of g))) text ≡ true → (k : List WordInstr)
      → HasHandleAt x said g line rest y LEFT_HANDLE_AT
      (Datum FIRST (place text) ∷ Constant SECOND (length text) ∷ handle_code LEFT_HANDLE_AT k) k (Static LEFT_HANDLE_AT) text
  text_handle text among k =
      let p : ℕ = data_at + place text in
      let n : ℕ = length text in
      let laid : LaidAt x (place text) text = said.literals.laid (body_of g) y.linked.0 text among in
      let small = laid.small in
      let l2 : List WordInstr = handle_code LEFT_HANDLE_AT k in
      let l1 : List WordInstr = Constant SECOND n ∷ l2 in
      let v1 : Vars = put g.call.vars FIRST p in
      let v2 : Vars = put v1 SECOND n in
      laid_handle x said g line rest y LEFT_HANDLE_AT (omega arith) (omega arith) (omega arith) (place text) text laid
      (texts.letters (body_of g) y.linked.0 text among) (Datum FIRST (place text) ∷ l1) k v2
      (same_more g.call.vars v1 v2 (same_first g.call.vars p) (same_second v1 n))
      (put_other v1 SECOND n FIRST (λ e. absurd (omega (arith, e))) ∙ put_here g.call.vars FIRST p (omega (arith, small)))
      (put_here v1 SECOND n (omega (arith, small))) 2 (omega arith)
      (then_runs x.live (all_procs x)
      (address_runs x.law x.live (all_procs x) (within x.table x.blocks g) refl g.words g.memory l1 g.call.vars FIRST (Static (place text)) p refl)
      (run_constant x.live (all_procs x) (within x.table x.blocks g) g.memory l2 v1 g.words SECOND n))
