-- What constants with texts or sequences inside lead to is laid out, at the addresses that their words have.
use Rattle.std.proofs.Common.{◌≡◌, ◌∙◌, ◌⊎◌, inl, inr, ℕ, ◌+◌, Bool, true, false, List, [], ◌∷◌, ◌++◌, map, Option, Some, None, refl, sym, ap, subst}
use Rattle.std.proofs.lemmas.Cmp.{nat_list_eq_equiv}
use Rattle.std.specs.Prelude.{◌&&◌, ◌||◌, not, if◌then◌else◌}
use Rattle.std.specs.Set.{is_member, unique_keys}
use Rattle.std.proofs.lemmas.Bool.{and_parts, both_ways}
use Rattle.nim_types.specs.Types.{same_text}
use Rattle.flat_code.specs.declared.block.BlockLine.{BlockLine}
use Rattle.flat_code.specs.declared.code.CodeProc.{CodeProc}
use Rattle.flat_code.specs.declared.line.Line.{Line}
use Rattle.flat_code.specs.declared.line.Line.TheVariants as L
use Rattle.flat_code.specs.declared.line.Piece.{Piece}
use Rattle.flat_code.specs.declared.line.Piece.TheVariants as P
use Rattle.flat_code.specs.Codes.{block_plain}
use Rattle.flat_code.specs.Pieces.{has_links, is_linked, is_one_text, words_bytes, standing_bytes}
use Rattle.flat_code.specs.Sizes.{pieces_texts}
use Rattle.word_lowering.specs.Handled.{place_among, behind_handle, or_zero}
use Rattle.word_lowering.specs.Linked.{last_words, item_of, with_piece, item_address, with_pieces, linked_bytes, pieces_before, elements_before, items_before}
use Rattle.word_lowering.specs.Linked.{if_linked, constant_before, standing_before, line_before, lines_before, procs_before, laid_out}
use Rattle.word_lowering.proofs.DistinctTexts.{has_before, has_behind, unique_has}
use Rattle.word_lowering.proofs.LaidOut.{Extends, extends_on, extends_same, items_extend, line_extend, lines_extend, pieces_among}
use Rattle.word_lowering.proofs.Options.{none_some, some_same}
use Rattle.word_lowering.proofs.ShapeFacts.{never}

abbrev has : List (List ℕ) → List ℕ → Bool
has = is_member same_text

abbrev once : List (List ℕ) → List (List ℕ)
once = unique_keys same_text

itself : (text : List ℕ) → has (text ∷ []) text ≡ true
itself text = ap (λ b. b || false) (nat_list_eq_equiv.refl text)

-- ---- what pieces lead to

module _ (from : ℕ) (texts : List (List ℕ)) where
  abbrev pub HasItem : Option (List ℕ) → Type 0
  HasItem None = Unit {0}
  HasItem (Some item) = has texts item ≡ true

  -- and their own words at last
  abbrev pub HaveItems : List Piece → (values : List (List ℕ)) → Type 0
  HaveItems [] values = has texts (words_bytes (last_words 1 values)) ≡ true
  HaveItems (piece ∷ pieces) values =
      HasItem (item_of piece values) × HaveItems pieces (with_piece piece (item_address from texts (item_of piece values)) values)

  -- the words of all
  pub own_there : (pieces : List Piece) (values : List (List ℕ)) → HaveItems pieces values
      → has texts (words_bytes (last_words 1 (with_pieces from texts pieces values))) ≡ true
  own_there [] values h = h
  own_there (piece ∷ pieces) values h = own_there pieces (with_piece piece (item_address from texts (item_of piece values)) values) h.1

-- ---- they are among what is laid out from there on

module _ (from : ℕ) (final : List (List ℕ)) where
  same_address : (met : List (List ℕ)) → Extends final met → (item : Option (List ℕ)) → HasItem from (once met) item
      → item_address from (once met) item ≡ item_address from (once final) item
  same_address met e None h = refl
  same_address met e (Some item) h = ap (λ o. from + (or_zero o + 8)) (sym (e.place item (sym (unique_has met item) ∙ h)))

  still_there : (met : List (List ℕ)) → Extends final met → (item : Option (List ℕ)) → HasItem from (once met) item → HasItem from (once final) item
  still_there met e None h = tt
  still_there met e (Some item) h = unique_has final item ∙ e.among item (sym (unique_has met item) ∙ h)

  -- the texts of these pieces were met
  abbrev AreMet : List (List ℕ) → List Piece → Type 0
  AreMet met pieces = (text : List ℕ) → has (pieces_texts pieces) text ≡ true → has met text ≡ true

  here_met : (piece : Piece) (pieces : List Piece) (values met : List (List ℕ)) → AreMet met (piece ∷ pieces)
      → HasItem from (once (elements_before piece values met)) (item_of piece values)
  here_met (P.Text text) pieces values met all = unique_has met text ∙ all text (has_before text (text ∷ []) (pieces_texts pieces) (itself text))
  here_met (P.Elements n) pieces values met all =
      let item : List ℕ = words_bytes (last_words n values) in unique_has (item ∷ met) item ∙ has_before item (item ∷ []) met (itself item)
  here_met (P.Ordinal z) pieces values met all = tt
  here_met P.Nil pieces values met all = tt
  here_met (P.Parts n) pieces values met all = tt

  rest_met : (piece : Piece) (pieces : List Piece) (values met : List (List ℕ)) → AreMet met (piece ∷ pieces)
      → AreMet (elements_before piece values met) pieces
  rest_met (P.Text text) pieces values met all other h = all other (has_behind other (text ∷ []) (pieces_texts pieces) h)
  rest_met (P.Elements n) pieces values met all other h = has_behind other (words_bytes (last_words n values) ∷ []) met (all other h)
  rest_met (P.Ordinal z) pieces values met all other h = all other h
  rest_met P.Nil pieces values met all other h = all other h
  rest_met (P.Parts n) pieces values met all other h = all other h

  items_there : (pieces : List Piece) (values met : List (List ℕ)) → Extends final (items_before from pieces values met) → AreMet met pieces
      → HaveItems from (once final) pieces values
  items_there [] values met e all =
      let item : List ℕ = words_bytes (last_words 1 values) in
      unique_has final item ∙ e.among item (has_before item (item ∷ []) met (itself item))
  items_there (piece ∷ pieces) values met e all =
      let behind : List (List ℕ) = elements_before piece values met in
      let address : ℕ = item_address from (once behind) (item_of piece values) in
      let on : Extends final behind = extends_on e (items_extend from pieces (with_piece piece address values) behind) in
      let here = here_met piece pieces values met all in (
        still_there behind on (item_of piece values) here,
        subst (λ a. HaveItems from (once final) pieces (with_piece piece a values)) (same_address behind on (item_of piece values) here)
            (items_there pieces (with_piece piece address values) behind e (rest_met piece pieces values met all)),
      )

-- ---- the constants of code

abbrev pub constant_of : Line → Option (List Piece)
constant_of (L.Constant to how ty pieces) = Some pieces
constant_of (L.Standing to ty pieces) = Some pieces
constant_of line = None

abbrev pub HaveConstant : List Line → List Piece → Type 0
HaveConstant [] pieces = ⊥
HaveConstant (line ∷ lines) pieces = (constant_of line ≡ Some pieces) ⊎ HaveConstant lines pieces

abbrev pub CodeHas : List (CodeProc BlockLine) → List Piece → Type 0
CodeHas [] pieces = ⊥
CodeHas (p ∷ procs) pieces = HaveConstant (map block_plain p.lines) pieces ⊎ CodeHas procs pieces

pub constant_here : (before : List BlockLine) (line : BlockLine) (rest : List BlockLine) (pieces : List Piece)
    → constant_of (block_plain line) ≡ Some pieces → HaveConstant (map block_plain (before ++ line ∷ rest)) pieces
constant_here [] line rest pieces e = inl e
constant_here (b ∷ before) line rest pieces e = inr (constant_here before line rest pieces e)

module _ (from : ℕ) (pieces : List Piece) (links : is_linked pieces ≡ true) where
  -- what was met before a line with it
  record Met (all : List (List ℕ)) : Type 0 where
    before : List (List ℕ)
    then_all : Extends all (items_before from pieces [] (pieces_before pieces before))

  constant_met : (met : List (List ℕ)) → Met (constant_before from pieces met)
  constant_met met = record {
    before = met;
    then_all = subst (λ b. Extends (if_linked b from pieces (pieces_before pieces met)) (items_before from pieces [] (pieces_before pieces met)))
        (sym links) (extends_same (items_before from pieces [] (pieces_before pieces met)));
  }

  standing_met : (met : List (List ℕ)) → Met (standing_before from pieces met)
  standing_met met =
      subst (λ b. Met (if b then constant_before from pieces met else standing_bytes pieces ∷ met))
      (sym (and_parts (not (is_one_text pieces)) (has_links pieces) links).1) (constant_met met)

  line_met : (line : Line) (met : List (List ℕ)) → constant_of line ≡ Some pieces → Met (line_before from line met)
  line_met (L.Constant to how ty ps) met e = subst (λ qs. Met (constant_before from qs met)) (sym (some_same ps pieces e)) (constant_met met)
  line_met (L.Standing to ty ps) met e = subst (λ qs. Met (standing_before from qs met)) (sym (some_same ps pieces e)) (standing_met met)
  line_met line met e = absurd (none_some pieces e)

  more_met : {all more : List (List ℕ)} → Extends more all → Met all → Met more
  more_met e m = record { before = m.before; then_all = extends_on e m.then_all }

  lines_met : (lines : List BlockLine) (met : List (List ℕ)) → HaveConstant (map block_plain lines) pieces → Met (lines_before from lines met)
  lines_met [] met h = absurd h
  lines_met (line ∷ lines) met (inl e) = line_met (block_plain line) (lines_before from lines met) e
  lines_met (line ∷ lines) met (inr h) = more_met (line_extend from (block_plain line) (lines_before from lines met)) (lines_met lines met h)

  procs_met : (procs : List (CodeProc BlockLine)) → CodeHas procs pieces → Met (procs_before from procs [])
  procs_met [] h = absurd h
  procs_met (p ∷ procs) (inl h) = lines_met p.lines (procs_before from procs []) h
  procs_met (p ∷ procs) (inr h) = more_met (lines_extend from p.lines (procs_before from procs [])) (procs_met procs h)

  pub linked_there : (procs : List (CodeProc BlockLine)) → CodeHas procs pieces → HaveItems from (laid_out from procs) pieces []
  linked_there procs h =
      let m = procs_met procs h in
      items_there from (procs_before from procs []) pieces [] (pieces_before pieces m.before) m.then_all (pieces_among from pieces m.before)
