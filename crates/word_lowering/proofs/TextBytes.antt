-- Texts of literals and names of enums are made of bytes where all of the data is.
use Rattle.std.proofs.Common.{◌≡◌, ℕ, zero, suc, ◌+◌, ◌-◌, List, [], ◌∷◌, ◌++◌, length, Some, None, true, subst, ◌∙◌}
use Rattle.std.specs.Prelude.{replicate, slice_get}
use Rattle.std.specs.Set.{is_member}
use Rattle.nim_types.specs.Types.{same_text}
use Rattle.nim_types.specs.declared.types.TheConstants.{WORD_BYTES}
use Rattle.rv32_isa.specs.Regions.{AreBytes}
use Rattle.rv32_isa.specs.Words.{word_bytes}
use Rattle.flat_code.specs.Codes.{block_plain}
use Rattle.flat_code.specs.Sizes.{code_texts, distinct_texts}
use Rattle.word_lowering.specs.declared.handed.TheConstants.{LEFT_HANDLE_AT}
use Rattle.word_lowering.specs.Lowered.{data_of, globals_end}
use Rattle.word_lowering.specs.Linked.{laid_out}
use Rattle.word_lowering.specs.Stored.{base_at}
use Rattle.word_lowering.specs.Texts.{all_names, data_in, ends_from, fixed_texts, joined_all, texts_at, texts_from, data_at, missing, names_before, padded}
use Rattle.word_lowering.proofs.DistinctTexts.{IsLaid, is_laid}
use Rattle.word_lowering.proofs.FirstNames.{name_among}
use Rattle.word_lowering.proofs.Lines.{Basis, texts_laid}
use Rattle.word_lowering.proofs.OperandTexts.{TextsBuilt}
use Rattle.word_lowering.proofs.Sites.{laid_from, IsLaidOut}

in_front : (xs ys : List ℕ) → AreBytes (xs ++ ys) → AreBytes xs
in_front [] ys are = tt
in_front (x ∷ xs) ys are = (are.0, in_front xs ys are.1)

past : (xs ys : List ℕ) → AreBytes (xs ++ ys) → AreBytes ys
past [] ys are = are
past (x ∷ xs) ys are = past xs ys are.1

one_of : (texts : List (List ℕ)) (n : ℕ) (text : List ℕ) → slice_get texts n ≡ Some text → AreBytes (joined_all texts) → AreBytes text
one_of [] n text h are = absurd (no_entry text h)
  where
    no_entry : (text : List ℕ) → None ≡ Some text → ⊥
    no_entry text h = cc
one_of (other ∷ texts) zero text h are = subst AreBytes (same other text h) (in_front other (joined_all texts) are)
  where
    same : (u v : List ℕ) → Some u ≡ Some v → u ≡ v
    same u v e = cc
one_of (other ∷ texts) (suc n) text h are = one_of texts n text h (past other (joined_all texts) are)

module _ (x : Basis) (are : AreBytes (data_of x.table x.blocks.procs)) where
  abbrev ends : List ℕ
  ends = ends_from 0 (all_names x.table)

  abbrev names : List ℕ
  names = joined_all (all_names x.table)

  abbrev texts : List ℕ
  texts = texts_from x.table (globals_end x.table x.blocks.procs) x.blocks.procs

  abbrev globals : List ℕ
  globals = replicate (globals_end x.table x.blocks.procs - LEFT_HANDLE_AT) 0

  -- the names, and the texts
  both : AreBytes (padded names ++ texts)
  both =
      past ends (padded names ++ texts)
      (past globals (ends ++ (padded names ++ texts))
      (past fixed_texts (globals ++ (ends ++ (padded names ++ texts)))
      (past (replicate WORD_BYTES 0) (fixed_texts ++ (globals ++ (ends ++ (padded names ++ texts))))
      (in_front (data_in x.table (globals_end x.table x.blocks.procs) x.blocks.procs)
      (replicate (missing (length (data_in x.table (globals_end x.table x.blocks.procs) x.blocks.procs))) 0) are))))

  laid_text : (text : List ℕ) → IsLaidOut x.table x.blocks text → AreBytes text
  laid_text text among =
      let from : ℕ = laid_from x.table x.blocks in
      let l : IsLaid from (laid_out from x.blocks.procs) text = is_laid from (laid_out from x.blocks.procs) text among in
      let place : List ℕ = word_bytes (from + length l.before + 8) in
      in_front text l.after
      (past place (text ++ l.after)
      (past (word_bytes (length text)) (place ++ (text ++ l.after))
      (past l.before (word_bytes (length text) ++ (place ++ (text ++ l.after))) (subst AreBytes l.whole (past (padded names) texts both)))))

  pub texts_built : TextsBuilt x
  texts_built = record {
    letters = λ b body text among. laid_text text (texts_laid x text (body.texts.among text among));
    laid = laid_text;
    names = λ ty def entry n text at.
        one_of (all_names x.table) (names_before x.table (base_at x.table ty) + n) text (name_among x.table (base_at x.table ty) def n text entry at)
        (in_front names (replicate (missing (length names)) 0) (in_front (padded names) texts both));
  }
