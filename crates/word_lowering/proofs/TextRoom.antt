-- Where the names of enums and the texts stand: within the data.
use Rattle.std.proofs.Common.{◌≡◌, ℕ, ◌+◌, ◌-◌, ◌≤◌, List, [], ◌∷◌, ◌++◌, length, replicate, slice_get, Bool, true, false, Some}
use Rattle.std.proofs.Common.{refl, sym, ap, ap₂, subst, ◌∙◌, arith, length-append}
use Rattle.std.specs.Prelude.{if◌then◌else◌}
use Rattle.nim_types.specs.Types.{same_text}
use Rattle.nim_types.specs.declared.types.TypeDef.{TypeDef}
use Rattle.flat_code.specs.declared.block.BlockLine.{BlockLine}
use Rattle.flat_code.specs.declared.line.Piece.{Piece}
use Rattle.flat_code.specs.declared.line.Piece.TheVariants as P
use Rattle.flat_code.specs.declared.code.Code.{Code}
use Rattle.flat_code.specs.declared.code.CodeProc.{CodeProc}
use Rattle.flat_code.specs.Pieces.{has_links, standing_bytes}
use Rattle.word_lowering.specs.declared.homes.Layout.{Layout}
use Rattle.word_lowering.specs.declared.handed.TheConstants.{LEFT_HANDLE_AT}
use Rattle.word_lowering.specs.declared.may_lower.TheConstants.{MOST_DATA}
use Rattle.word_lowering.specs.Layouts.{IsCounted, AreCounted}
use Rattle.flat_code.specs.Running.{last_of}
use Rattle.word_lowering.specs.Lowered.{globals_end, all_layouts, around_start, with_own}
use Rattle.word_lowering.specs.LineCode.{Around, no_layout}
use Rattle.word_lowering.specs.Linked.{linked_bytes, laid_out}
use Rattle.word_lowering.specs.MayLower.{may_lower}
use Rattle.word_lowering.specs.Scope.{HasRoom}
use Rattle.word_lowering.specs.Stored.{HaveForms}
use Rattle.word_lowering.specs.Texts.{padded, fixed_texts, all_names, joined_all, ends_from, laid_length, texts_from, data_at, data_in, texts_at, text_place}
use Rattle.word_lowering.specs.Texts.{place_among, or_zero, place_of, constant_place, linked_place, standing_place}
use Rattle.word_lowering.proofs.CountedLayouts.{layouts_counted, counted_at}
use Rattle.word_lowering.proofs.DistinctTexts.{laid_long}
use Rattle.word_lowering.proofs.DataSizes.{six_parts, ends_length, data_within}
use Rattle.word_lowering.proofs.Padding.{zeros_length, padded_length}
use Rattle.word_lowering.proofs.WholeCode.{last_is}

-- the handle of a text stands within what is laid out
place_within : (texts : List (List ℕ)) (text : List ℕ) → or_zero (place_among texts text) ≤ laid_length texts
place_within [] text = omega arith
place_within (other ∷ texts) text = by (same_text text other) (place_within texts text)
  where
    by : (b : Bool) → or_zero (place_among texts text) ≤ laid_length texts
        → or_zero (if b then Some (laid_length texts) else place_among texts text) ≤ laid_length texts + (8 + length (padded other))
    by true h = omega arith
    by false h = omega (arith, h)

-- and the text right behind
abbrev Within : (from : ℕ) → List (CodeProc BlockLine) → ℕ → Type 0
Within from procs n = n ≤ 8 + laid_length (laid_out from procs)

pub text_within : (from : ℕ) (procs : List (CodeProc BlockLine)) (text : List ℕ) → Within from procs (text_place from procs text)
text_within from procs text = let h = place_within (laid_out from procs) text in omega (arith, h)

pub literal_within : (from : ℕ) (procs : List (CodeProc BlockLine)) (offset bytes : ℕ) → Within from procs (place_of from procs offset bytes)
literal_within from procs offset bytes = text_within from procs _

pub constant_within : (from : ℕ) (procs : List (CodeProc BlockLine)) (pieces : List Piece)
    → Within from procs (if has_links pieces then linked_place from procs pieces else constant_place from procs pieces)
constant_within from procs pieces = by (has_links pieces)
  where
    by : (b : Bool) → Within from procs (if b then linked_place from procs pieces else constant_place from procs pieces)
    by true = text_within from procs (linked_bytes from (laid_out from procs) pieces)
    by false = text_within from procs (standing_bytes pieces)

pub standing_within : (from : ℕ) (procs : List (CodeProc BlockLine)) (pieces : List Piece) → Within from procs (standing_place from procs pieces)
standing_within from procs (P.Text text ∷ []) = let h = place_within (laid_out from procs) text in omega (arith, h)
standing_within from procs [] = constant_within from procs []
standing_within from procs (P.Text text ∷ piece ∷ pieces) = constant_within from procs (P.Text text ∷ piece ∷ pieces)
standing_within from procs (P.Ordinal z ∷ pieces) = constant_within from procs (P.Ordinal z ∷ pieces)
standing_within from procs (P.Nil ∷ pieces) = constant_within from procs (P.Nil ∷ pieces)
standing_within from procs (P.Parts n ∷ pieces) = constant_within from procs (P.Parts n ∷ pieces)
standing_within from procs (P.Elements n ∷ pieces) = constant_within from procs (P.Elements n ∷ pieces)

-- texts end where the data does
texts_end : (table : List TypeDef) (globals_end : ℕ) (procs : List (CodeProc BlockLine))
    → texts_at table globals_end + laid_length (laid_out (data_at + texts_at table globals_end) procs) ≤ length (padded (data_in table globals_end procs))
texts_end table globals_end procs =
    let names : List (List ℕ) = all_names table in
    let e = six_parts (replicate 4 0) fixed_texts (replicate (globals_end - LEFT_HANDLE_AT) 0) (ends_from 0 names) (padded (joined_all names))
    (texts_from table globals_end procs) in
    let m = laid_long (data_at + texts_at table globals_end) (laid_out (data_at + texts_at table globals_end) procs) in
    let f = zeros_length (globals_end - LEFT_HANDLE_AT) in
    let g = ends_length 0 names in
    let h : length fixed_texts ≡ 16 = refl in
    let i = zeros_length 4 in
    let j = padded_length (data_in table globals_end procs) in
    omega (arith, e, f, g, h, i, j, m)

module _ (table : List TypeDef) (blocks : Code BlockLine) (may : may_lower table blocks ≡ true) (slice : List (CodeProc BlockLine))
    (slices : List Layout) (own : Layout) (same : slice ≡ blocks.procs) (are : slices ≡ all_layouts table blocks.procs)
    (last : slice_get slices (length slices - 1) ≡ Some own) where
  data_room : texts_at table own.free.datum + laid_length (laid_out (data_at + texts_at table own.free.datum) slice) ≤ MOST_DATA
  data_room =
      let within = data_within table blocks may in
      let end : globals_end table blocks.procs ≡ own.free.datum =
      ap (λ (ls : List Layout). (last_of no_layout ls).free.datum) (sym are) ∙ ap (λ (o : Layout). o.free.datum) (last_is no_layout slices own last) in
      let ends = texts_end table (globals_end table blocks.procs) blocks.procs in
      let here = ap (λ n. texts_at table n) end in
      let texts = ap₂ (λ n (ps : List (CodeProc BlockLine)). laid_length (laid_out (data_at + texts_at table n) ps)) (sym end) same in
      omega (arith, within, ends, here, texts)

  pub texts_small : texts_at table own.free.datum ≤ 4294967295
  texts_small = let h = data_room in omega (arith, h)

  pub names_small : length (joined_all (all_names table)) ≤ 4294967295
  names_small =
      let h = data_room in
      let long = padded_length (joined_all (all_names table)) in
      omega (arith, h, long)

  -- around the start code
  pub start_room : HaveForms table → HasRoom (around_start table slice slices own)
  start_room has =
      let counted : AreCounted slices = subst AreCounted (sym are) (layouts_counted table blocks may) in
      let h = data_room in
      let long = padded_length (joined_all (all_names table)) in
      record {
        forms = has;
        own = counted_at slices (length slices - 1) own counted last;
        layouts = counted;
        names = omega (arith, h, long);
        texts = omega (arith, h);
      }

-- around another procedure
pub own_room : (x : Around) (own : Layout) (behind : ℕ) → HasRoom x → IsCounted own → HasRoom (with_own x own behind)
own_room x own behind room counted = record { forms = room.forms; own = counted; layouts = room.layouts; names = room.names; texts = room.texts }
