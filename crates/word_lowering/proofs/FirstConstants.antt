-- Constants that stand in the data are there at the start.
use Rattle.std.proofs.Common.{◌≡◌, inl, inr, ℕ, ◌+◌, ◌%◌, ◌^◌, ◌<◌, ◌≤◌, List, [], ◌∷◌, ◌++◌, length, take, drop, Some, Ok, Err, true, refl, sym, ap, ap₂}
use Rattle.std.proofs.Common.{subst}
use Rattle.std.proofs.Common.{◌∙◌, arith, append_assoc, length-append}
use Rattle.std.specs.Int.{w32, to_le_bytes}
use Rattle.std.specs.Prelude.{◌==◌, zero, suc}
use Rattle.std.proofs.lemmas.Bool.{eq-eqb, cond-true}
use Rattle.rv32_isa.specs.declared.micro_op.Size.TheVariants.{Word}
use Rattle.rv32_isa.specs.declared.machine.FaultKind.TheVariants.{Misaligned}
use Rattle.rv32_isa.specs.Words.{word_bytes}
use Rattle.rv32_isa.specs.Steps.{number_of}
use Rattle.rv32_isa.proofs.ForCallers.{length-word_bytes, little-word_bytes}
use Rattle.nim_types.specs.declared.types.TypeDef.{TypeDef}
use Rattle.flat_code.specs.declared.block.BlockLine.{BlockLine}
use Rattle.flat_code.specs.declared.code.Code.{Code}
use Rattle.flat_code.specs.declared.line.Piece.{Piece}
use Rattle.flat_code.specs.Pieces.{piece_words, words_bytes, standing_bytes}
use Rattle.word_code.specs.Memory.{Memory, number_at, bytes_at}
use Rattle.word_code.specs.RoutineTable.{Cell}
use Rattle.word_lowering.specs.declared.texts.TheConstants.{FIXED_BYTES}
use Rattle.word_lowering.specs.declared.may_lower.TheConstants.{MOST_DATA}
use Rattle.word_lowering.specs.Lowered.{data_at, lowered}
use Rattle.word_lowering.specs.Runtimes.{Runtimes, with_runtimes}
use Rattle.word_lowering.proofs.FirstMemory.{drop_past, first_memory, own_may, own, own_reads, globals}
use Rattle.word_lowering.proofs.FirstNames.{take_front}
use Rattle.word_lowering.proofs.LaidData.{LaidAt, TextAlone, laid_at, laid_there, text_alone}
use Rattle.word_lowering.proofs.PieceWords.{WordsAt, room_of}
use Rattle.word_lowering.proofs.Related.{HandleThere, StandThere, StandsThere}
use Rattle.word_lowering.proofs.Scenes.{handle_from, text_from}
use Rattle.word_lowering.proofs.Sites.{IsLaidOut}
use Rattle.word_lowering.proofs.SmallWords.{AllSmall}
use Rattle.word_lowering.proofs.WordsBytes.{little_bytes}

words_length : (ws : List ℕ) → length (words_bytes ws) ≡ room_of ws
words_length [] = refl
words_length (w ∷ ws) =
    let e = length-append (to_le_bytes w32 w) (words_bytes ws) in
    let f = ap length (little_bytes w) ∙ length-word_bytes w in
    let h = words_length ws in
    omega (arith, e, f, h)

-- two words
handle_bytes : (n p : ℕ) (k : List ℕ) → words_bytes (n ∷ p ∷ []) ++ k ≡ word_bytes n ++ (word_bytes p ++ k)
handle_bytes n p k =
    append_assoc (to_le_bytes w32 n) (words_bytes (p ∷ [])) k
    ∙ ap₂ (λ a b. a ++ b) (little_bytes n)
    (append_assoc (to_le_bytes w32 p) [] k ∙ ap (λ a. a ++ k) (little_bytes p))

module _ (table : List TypeDef) (blocks : Code BlockLine) (runtime : Runtimes) (heap stack : ℕ) where
  abbrev start : Memory
  start = first_memory (with_runtimes runtime (lowered table blocks)) heap stack

  -- ---- a word of the data

  module _ (before : List ℕ) (w : ℕ) (after : List ℕ) (is : own table blocks ≡ before ++ (word_bytes w ++ after))
      (whole : length before % 4 ≡ 0) (small : w < 2 ^ 32) where
    abbrev there : ℕ
    there = data_at + length before

    within : length before + 4 ≤ length (own table blocks)
    within =
        let a = ap length is in
        let b = length-append before (word_bytes w ++ after) in
        let c = length-append (word_bytes w) after in
        let d = length-word_bytes w in
        omega (arith, a, b, c, d)

    word_first : number_at start there Word ≡ Ok w
    word_first =
        let none : length before ≡ length before + 0 = omega arith in
        let four : 4 ≡ length (word_bytes w) = sym (length-word_bytes w) in
        let bytes : take 4 (drop (length before) (own table blocks)) ≡ word_bytes w
        = ap₂ (λ n l. take 4 (drop n l)) none is ∙ ap (take 4) (drop_past before (word_bytes w ++ after) 0)
        ∙ ap (λ n. take n (word_bytes w ++ after)) four ∙ take_front (word_bytes w) after in
        cond-true (there % 4 == 0) _ (Err Misaligned) (eq-eqb (there % 4) 0 (omega (arith, whole)))
        ∙ ap number_of (own_reads table blocks runtime heap stack (length before) 4 (omega arith) within ∙ ap Some bytes)
        ∙ ap Ok (little-word_bytes w small)

    cell_first : Cell start there
    cell_first =
        let h = within in
        record {
          may = own_may table blocks runtime heap stack (length before) (omega (arith, whole)) (omega (arith, h));
          word = w;
          reads = word_first;
        }

  -- ---- words one behind the other

  -- all that stand there
  record Stand (at : ℕ) (ws : List ℕ) : Type 0 where
    words : WordsAt start at ws
    cells : (o : ℕ) → o + 4 ≤ room_of ws → o % 4 ≡ 0 → Cell start (at + o)

  stand : (before ws after : List ℕ) → own table blocks ≡ before ++ (words_bytes ws ++ after) → length before % 4 ≡ 0 → AllSmall ws
      → Stand (data_at + length before) ws
  stand before [] after is whole small = record { words = tt; cells = λ o within even. absurd (omega (arith, within)) }
  stand before (w ∷ ws) after is whole small =
      let here : own table blocks ≡ before ++ (word_bytes w ++ (words_bytes ws ++ after))
      = is ∙ ap (λ l. before ++ l) (append_assoc (to_le_bytes w32 w) (words_bytes ws) after ∙ ap (λ l. l ++ (words_bytes ws ++ after)) (little_bytes w)) in
      let a = length-append before (word_bytes w) in
      let four = length-word_bytes w in
      let next : data_at + length (before ++ word_bytes w) ≡ data_at + length before + 4 = omega (arith, a, four) in
      let rest : Stand (data_at + length before + 4) ws = subst (λ n. Stand n ws) next
      (stand (before ++ word_bytes w) ws after (here ∙ sym (append_assoc before (word_bytes w) (words_bytes ws ++ after)))
      (omega (arith, a, four, whole)) small.1) in
      record {
        words = (word_first before w (words_bytes ws ++ after) here whole small.0, rest.words);
        cells = λ o within even. one here rest o within even;
      }
    where
      one : own table blocks ≡ before ++ (word_bytes w ++ (words_bytes ws ++ after)) → Stand (data_at + length before + 4) ws
          → (o : ℕ) → o + 4 ≤ 4 + room_of ws → o % 4 ≡ 0 → Cell start (data_at + length before + o)
      one here rest zero within even =
          subst (Cell start) (omega arith) (cell_first before w (words_bytes ws ++ after) here whole small.0)
      one here rest (suc zero) within even = absurd (omega (arith, even))
      one here rest (suc (suc zero)) within even = absurd (omega (arith, even))
      one here rest (suc (suc (suc zero))) within even = absurd (omega (arith, even))
      one here rest (suc (suc (suc (suc o)))) within even =
          subst (Cell start) (omega arith) (rest.cells o (omega (arith, within)) (omega (arith, even)))

  module _ (least : FIXED_BYTES ≤ globals table blocks) (even : globals table blocks % 4 ≡ 0) (most : length (own table blocks) ≤ MOST_DATA) where
    -- ---- constants

    pub constant_first : (pieces : List Piece) → AllSmall (piece_words pieces)
        → IsLaidOut table blocks (standing_bytes pieces) → StandsThere table blocks start pieces
    constant_first pieces small among =
        let text : List ℕ = standing_bytes pieces in
        let l : TextAlone table blocks text = text_alone table blocks text (laid_there table blocks runtime heap stack least even most text among) in
        let at = l.at in
        let word = l.at_word in
        let place : data_at + length l.before ≡ data_at + laid_at table blocks text = ap (λ n. data_at + n) at in
        let s : Stand (data_at + laid_at table blocks text) (piece_words pieces)
        = subst (λ n. Stand n (piece_words pieces)) place
        (stand l.before (piece_words pieces) l.after l.whole (omega (arith, at, word)) small) in
        let n0 = ap length l.whole in
        let n1 = length-append l.before (text ++ l.after) in
        let n2 = length-append text l.after in
        let n3 = words_length (piece_words pieces) in
        let behind_globals = l.behind_globals in
        record {
          words = s.words;
          cells = s.cells;
          is_text = (inr (omega (arith, behind_globals), omega (arith, at, n0, n1, n2, n3, most)), inl (omega (arith, at, n0, n1, n2, n3)));
          whole = omega (arith, word);
        }

    -- ---- handles of texts

    handle_first : (text : List ℕ) → IsLaidOut table blocks text
        → StandThere table blocks start (handle_from table blocks text) (length text ∷ text_from table blocks text ∷ [])
    handle_first text among =
        let l : LaidAt table blocks text = laid_there table blocks runtime heap stack least even most text among in
        let place : ℕ = data_at + laid_at table blocks text in
        let ws : List ℕ = length text ∷ place ∷ [] in
        let at = l.at in
        let word = l.at_word in
        let behind_globals = l.behind_globals in
        let n : List ℕ = word_bytes (length text) in
        let p : List ℕ = word_bytes place in
        let whole : own table blocks ≡ l.before ++ (words_bytes ws ++ (text ++ l.after))
        = l.whole ∙ ap (λ k. l.before ++ k) (sym (handle_bytes (length text) place (text ++ l.after))) in
        let n0 = ap length l.whole in
        let n1 = length-append l.before (n ++ (p ++ (text ++ l.after))) in
        let n2 = length-append n (p ++ (text ++ l.after)) in
        let n3 = length-append p (text ++ l.after) in
        let n4 = length-append text l.after in
        let n5 = length-word_bytes (length text) in
        let n6 = length-word_bytes place in
        let s : Stand (handle_from table blocks text) ws
        = subst (λ n. Stand n ws) (ap (λ n. data_at + n) at)
        (stand l.before ws (text ++ l.after) whole (omega (arith, at, word))
        (omega (arith, n0, n1, n2, n3, n4, n5, n6, most), (omega (arith, at, n0, n1, n2, n3, n4, n5, n6, most), tt))) in
        record {
          words = s.words;
          cells = s.cells;
          is_text = (
            inr (omega (arith, behind_globals), omega (arith, at, n0, n1, n2, n3, n4, n5, n6, most)),
            inl (omega (arith, at, n0, n1, n2, n3, n4, n5, n6)),
          );
          whole = omega (arith, word);
        }

    -- and the texts themselves
    text_reads : (text : List ℕ) (from : ℕ) → from + length text ≤ length (own table blocks) → take (length text) (drop from (own table blocks)) ≡ text
        → bytes_at start (data_at + from) (length text) ≡ Some text
    text_reads [] from within stands = refl
    text_reads (c ∷ text) from within stands =
        own_reads table blocks runtime heap stack from (length (c ∷ text)) (omega arith) within ∙ ap Some stands

    -- what stands in the data is read there
    stands_at : (before bytes after : List ℕ) → own table blocks ≡ before ++ (bytes ++ after)
        → bytes_at start (data_at + length before) (length bytes) ≡ Some bytes
    stands_at before bytes after is =
        let n0 = ap length is in
        let n1 = length-append before (bytes ++ after) in
        let n2 = length-append bytes after in
        let none : length before ≡ length before + 0 = omega arith in
        text_reads bytes (length before) (omega (arith, n0, n1, n2))
        (ap₂ (λ j k. take (length bytes) (drop j k)) none is ∙ ap (take (length bytes)) (drop_past before (bytes ++ after) 0) ∙ take_front bytes after)

    pub text_first : (text : List ℕ) → IsLaidOut table blocks text → HandleThere table blocks start text
    text_first text among =
        let h : LaidAt table blocks text = laid_there table blocks runtime heap stack least even most text among in
        let l : TextAlone table blocks text = text_alone table blocks text h in
        let from : ℕ = laid_at table blocks text in
        let ws : List ℕ = length text ∷ (data_at + from) ∷ [] in
        let at = l.at in
        let behind_globals = l.behind_globals in
        let low = h.behind_globals in
        let n0 = ap length l.whole in
        let n1 = length-append l.before (text ++ l.after) in
        let n2 = length-append text l.after in
        record {
          handle = handle_first text among;
          above = omega (arith, low);
          handle_reads = subst (λ n. bytes_at start (data_at + n) (length (words_bytes ws)) ≡ Some (words_bytes ws)) h.at
              (stands_at h.before (words_bytes ws) (text ++ h.after)
              (h.whole ∙ ap (λ k. h.before ++ k) (sym (handle_bytes (length text) (data_at + from) (text ++ h.after)))));
          behind = omega (arith, low, least);
          low = omega (arith, behind_globals);
          high = omega (arith, at, n0, n1, n2);
          reads = subst (λ n. bytes_at start (data_at + n) (length text) ≡ Some text) l.at (stands_at l.before text l.after l.whole);
        }
