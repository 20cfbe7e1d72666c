-- A constant with texts or sequences inside stands in the data, with all that it leads to.
use Rattle.std.proofs.Common.{◌≡◌, ◌∙◌, ℕ, ◌+◌, ◌*◌, ◌%◌, ◌^◌, ◌<◌, List, [], ◌∷◌, ◌++◌, length, Bool, true, refl, sym, ap, subst, append-nil, arith}
use Rattle.std.specs.Set.{is_member}
use Rattle.nim_types.specs.Types.{same_text}
use Rattle.nim_meaning.specs.Values.{Value, Fixed}
use Rattle.flat_code.specs.declared.line.Piece.{Piece}
use Rattle.flat_code.specs.Pieces.{value_of, is_linked, words_bytes}
use Rattle.flat_code.specs.PieceShapes.{pieces_by}
use Rattle.flat_code.specs.Shapes.{Shape, block}
use Rattle.word_lowering.specs.Linked.{last_words, with_pieces, laid_out}
use Rattle.word_lowering.proofs.BlankShapes.{of_handles}
use Rattle.word_lowering.proofs.ConstantFits.{FitsShape}
use Rattle.word_lowering.proofs.FixedTexts.{is_fixed_first}
use Rattle.word_lowering.proofs.FixedValues.{AreWords, FixedAt}
use Rattle.word_lowering.proofs.FixedWords.{words_many}
use Rattle.word_lowering.proofs.Lines.{Basis, IsGood}
use Rattle.word_lowering.proofs.LinkedItems.{CodeHas, HaveItems, linked_there, own_there}
use Rattle.word_lowering.proofs.LinkedWords.{Reads, Stands, address, read_all, value_made, value_read, value_words}
use Rattle.word_lowering.proofs.OperandTexts.{TextsBuilt}
use Rattle.word_lowering.proofs.Related.{Both, is_text_of_data}
use Rattle.word_lowering.proofs.Scenes.{is_fixed, handle_from, linked_from, text_from}
use Rattle.word_lowering.proofs.ShapeFacts.{shape_bytes}
use Rattle.word_lowering.proofs.Sites.{IsLaidOut, laid_from}
use Rattle.word_lowering.proofs.WordsBytes.{bytes_are, bytes_long}

module _ (x : Basis) (built : TextsBuilt x) where
  abbrev from : ℕ
  from = laid_from x.table x.blocks

  abbrev texts : List (List ℕ)
  texts = laid_out from x.blocks.procs

  -- at the start
  abbrev pub AtFirst : (place : ℕ) → List ℕ → Type 0
  AtFirst place text = is_text_of_data x.table x.blocks x.first place text ≡ true

  item_stands : (item : List ℕ) → is_member same_text texts item ≡ true → Stands from texts AtFirst item
  item_stands item laid =
      let there = x.laid item laid in
      let at : text_from x.table x.blocks item ≡ address from texts AtFirst item = omega arith in
      let most = x.data_most in
      let high = there.high in
      let whole = there.handle.whole in
      record {
        stands = subst (λ place. AtFirst place item) at
            (is_fixed_first x (text_from x.table x.blocks item) item there.low there.high (built.laid item laid) there.reads);
        near = omega (arith, most, high);
        whole = omega (arith, whole);
      }

  -- a text, by its handle
  pub text_fixed : (text : List ℕ) → IsLaidOut x.table x.blocks text → FixedAt AtFirst (handle_from x.table x.blocks text) block (Fixed text)
  text_fixed text laid =
      let there = x.laid text laid in
      let place : ℕ = text_from x.table x.blocks text in
      let ws : List ℕ = length text ∷ place ∷ [] in
      let handle : ℕ = handle_from x.table x.blocks text in
      let most = x.data_most in
      let high = there.high in
      let long = bytes_long ws in
      record {
        place = handle;
        before = [];
        words = ws;
        behind = [];
        stands = is_fixed_first x handle (words_bytes ws) there.above (omega (arith, high, long)) (bytes_are ws) there.handle_reads;
        whole = there.handle.whole;
        address = omega arith;
        are = (
          place,
          record {
            is = refl;
            few = omega (arith, most, high);
            near = omega (arith, most, high);
            stands = is_fixed_first x place text there.low there.high (built.laid text laid) there.reads;
          },
        );
      }

  -- its own words, and where they stand
  pub record StandsLinked (pieces : List Piece) (s : Shape) : Type 0 where
    pub fixed : FixedAt AtFirst (linked_from x.table x.blocks pieces) s (value_of pieces)
    pub near : linked_from x.table x.blocks pieces + shape_bytes s < 2 ^ 32

  pub stands_linked : (pieces : List Piece) (s : Shape) → CodeHas x.blocks.procs pieces → is_linked pieces ≡ true → FitsShape s pieces
      → of_handles s ≡ true → StandsLinked pieces s
  stands_linked pieces s has links fits handles =
      let v : Value = value_of pieces in
      let same : pieces ≡ pieces_by v s ++ [] = fits.pieces_are ∙ sym (append-nil (pieces_by v s)) in
      let items : HaveItems from texts pieces [] = linked_there from pieces links x.blocks.procs has in
      let all : List (List ℕ) = with_pieces from texts pieces [] in
      let words : List ℕ = value_words from texts AtFirst v s in
      let read = value_read from texts AtFirst item_stands (λ values. all ≡ values) v s [] [] fits.shaped handles (value_made pieces)
      (subst (λ ps. Reads from texts AtFirst (λ values. all ≡ values) ps []) same (read_all from texts AtFirst pieces [] items)) in
      let own : words_bytes (last_words 1 all) ≡ words_bytes words = ap (λ values. words_bytes (last_words 1 values)) read.1 in
      let stands = item_stands (words_bytes words) (subst (λ bytes. is_member same_text texts bytes ≡ true) own (own_there from texts pieces [] items)) in
      let place : address from texts AtFirst (words_bytes (last_words 1 all)) ≡ address from texts AtFirst (words_bytes words)
      = ap (address from texts AtFirst) own in
      let near = stands.near in
      let long = bytes_long words in
      let many = words_many AtFirst words s v read.0 in
      record {
        fixed = record {
          place = address from texts AtFirst (words_bytes words);
          before = [];
          words = words;
          behind = [];
          stands = subst (λ ws. AtFirst (address from texts AtFirst (words_bytes words)) (words_bytes ws)) (sym (append-nil words)) stands.stands;
          whole = stands.whole;
          address = omega (arith, place);
          are = read.0;
        };
        near = omega (arith, place, near, long, many);
      }

  -- and now
  pub fixed_now : (g : Both) → IsGood x g → (a : ℕ) (s : Shape) (v : Value) → FixedAt AtFirst a s v → FixedAt (is_fixed g.ground) a s v
  fixed_now g y a s v at =
      subst (λ (fixed : (place : ℕ) → List ℕ → Bool). FixedAt (λ place text. fixed place text ≡ true) a s v) (sym y.fixed) at
