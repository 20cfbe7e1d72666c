-- One text more is laid out, or none where it stands there already.
use Rattle.std.proofs.Common.{◌≡◌, ◌∙◌, ℕ, ◌+◌, ◌-◌, Bool, true, false, List, [], ◌∷◌, ◌++◌, length, map, take, drop, min, Option, Some, None, refl, sym, ap}
use Rattle.std.proofs.Common.{ap₂}
use Rattle.std.proofs.Common.{◌<◌, suc, get_or, add-one, length-drop, arith}
use Rattle.std.proofs.Math.Seq.{drop-cons}
use Rattle.std.specs.Prelude.{is_some, if◌then◌else◌, slice_range}
use Rattle.std.specs.HashMap.{get}
use Rattle.std.specs.Set.{is_member, unique_keys}
use Rattle.std.proofs.lemmas.Bool.{cond-true, cond-false, both_ways}
use Rattle.std.proofs.lemmas.Cmp.{nat_list_eq_equiv}
use Rattle.std.proofs.lemmas.List.{take_min, drop_min}
use Rattle.nim_types.specs.Types.{same_text}
use Rattle.flat_code.specs.declared.block.BlockLine.{BlockLine}
use Rattle.flat_code.specs.declared.code.CodeProc.{CodeProc}
use Rattle.flat_code.specs.declared.line.Piece.{Piece}
use Rattle.word_lowering.specs.declared.laid_texts.Laying.{Laying}
use Rattle.word_lowering.specs.declared.linked.Stack.{Stack}
use Rattle.word_lowering.specs.LaidTexts.{AreLaid, AreStacked, LaidCode, ArePut}
use Rattle.word_lowering.specs.Linked.{with_pieces, items_before, procs_before, laid_out}
use Rattle.word_lowering.specs.Texts.{handled, laid, laid_length, laid_texts, place_among, texts_in}
use Rattle.word_lowering.proofs.DistinctTexts.{laid_long, unique_has, no_place, nowhere}

-- a place is there exactly for a text that is there
found_there : (texts : List (List ℕ)) (text : List ℕ) → is_some (place_among texts text) ≡ is_member same_text texts text
found_there texts text = by (is_member same_text texts text) refl (place_among texts text) refl
  where
    by : (b : Bool) → is_member same_text texts text ≡ b → (o : Option ℕ) → place_among texts text ≡ o →
        is_some (place_among texts text) ≡ is_member same_text texts text
    by false k o e = ap is_some (nowhere texts text k) ∙ sym k
    by true k None e = absurd (both_ways (is_member same_text texts text) (no_place texts text e) k)
    by true k (Some n) e = ap is_some e ∙ sym k

module _ (from : ℕ) (texts : List (List ℕ)) (text : List ℕ) where
  abbrev once : List (List ℕ)
  once = unique_keys same_text texts

  abbrev among : Bool
  among = is_member same_text texts text

  -- one that is there
  pub laid_again : (laying : Laying) → AreLaid from laying texts → is_some (get same_text laying.places text) ≡ true → AreLaid from laying (text ∷ texts)
  laid_again laying h found = record {
    bytes = λ e. h.bytes e ∙ ap (laid from) (sym (same e));
    places = λ e other. h.places e other ∙ ap (λ ts. place_among ts other) (sym (same e));
  }
    where
      there : laying.lost ≡ false → among ≡ true
      there e = sym (unique_has texts text) ∙ sym (found_there once text) ∙ ap is_some (sym (h.places e text)) ∙ found

      same : laying.lost ≡ false → unique_keys same_text (text ∷ texts) ≡ once
      same e = cond-true among once (text ∷ once) (there e)

  -- one more, behind all
  pub laid_more : (old new : Laying) → AreLaid from old texts → is_some (get same_text old.places text) ≡ false → new.lost ≡ old.lost →
      new.bytes ≡ old.bytes ++ handled (from + length old.bytes) text →
      ((other : List ℕ) → get same_text new.places other ≡ (if same_text text other then Some (length old.bytes) else get same_text old.places other)) →
      AreLaid from new (text ∷ texts)
  laid_more old new h absent kept more put = record {
    bytes = λ e.
        more ∙ ap₂ (λ bs n. bs ++ handled (from + n) text) (h.bytes (was e)) (long e) ∙ ap (laid from) (sym (same e));
    places = λ e other.
        put other
        ∙ ap₂ (λ n o. if same_text text other then Some n else o) (long e) (h.places (was e) other)
        ∙ ap (λ b. if b then Some (laid_length once) else place_among once other) (nat_list_eq_equiv.symm text other)
        ∙ ap (λ ts. place_among ts other) (sym (same e));
  }
    where
      was : new.lost ≡ false → old.lost ≡ false
      was e = sym kept ∙ e

      long : new.lost ≡ false → length old.bytes ≡ laid_length once
      long e = ap length (h.bytes (was e)) ∙ laid_long from once

      away : new.lost ≡ false → among ≡ false
      away e = sym (unique_has texts text) ∙ sym (found_there once text) ∙ ap is_some (sym (h.places (was e) text)) ∙ absent

      same : new.lost ≡ false → unique_keys same_text (text ∷ texts) ≡ text ∷ once
      same e = cond-false among once (text ∷ once) (away e)

  pub laid_none : (new : Laying) → new.lost ≡ true → AreLaid from new (text ∷ texts)
  laid_none new lost = record {
    bytes = λ e. absurd (both_ways new.lost e lost);
    places = λ e. absurd (both_ways new.lost e lost);
  }

-- ---- those of code

module _ (from : ℕ) (procs : List (CodeProc BlockLine)) (laying : Laying) (h : AreLaid from laying (procs_before from procs []))
    (kept : laying.lost ≡ false) where
  pub bytes_laid : laying.bytes ≡ laid_texts from procs
  bytes_laid = h.bytes kept

  pub all_laid : (all : List ℕ) → all ≡ texts_in procs → ArePut (record { from = from; procs = procs }) all laying.places
  all_laid all e = record { literals = e; finds = h.places kept }

-- ---- a constant with texts or sequences inside, of which these pieces are left

pub record IsLinking (from : ℕ) (laying : Laying) (stack : Stack) (rest : List Piece) (all : List (List ℕ)) : Type 0 where
  pub values : List (List ℕ)
  pub met : List (List ℕ)
  pub laid : AreLaid from laying met
  pub stacked : AreStacked stack values
  pub is : items_before from rest values met ≡ all

-- the next piece
pub next_piece : (pieces : List Piece) (i : ℕ) (piece : Piece) → piece ≡ get_or pieces i piece → i < length pieces → drop i pieces ≡ piece ∷ drop (i + 1) pieces
next_piece pieces i piece e less = rw add-one (drop-cons pieces i piece less ∙ ap (λ p. p ∷ drop (suc i) pieces) (sym e))

-- and where all is laid out
pub record IsPlacing (from : ℕ) (texts : List (List ℕ)) (stack : Stack) (rest : List Piece) (all : List (List ℕ)) : Type 0 where
  pub values : List (List ℕ)
  pub stacked : AreStacked stack values
  pub is : with_pieces from texts rest values ≡ all

abbrev pub PlacesFrom : List Piece → Stack → (index : ℕ) → LaidCode → Type 0
PlacesFrom pieces stack index code =
    IsPlacing code.from (laid_out code.from code.procs) stack (drop index pieces) (with_pieces code.from (laid_out code.from code.procs) pieces [])

-- ---- a piece of some bytes

pub range_is : (xs : List ℕ) (o b from to : ℕ) → from ≡ min o (length xs) → to ≡ min b (length xs - from) →
    slice_range xs from (from + to) ≡ take b (drop o xs)
range_is xs o b from to e f =
    let cut : drop from xs ≡ drop o xs = ap (λ n. drop n xs) e ∙ drop_min o xs in
    let long : length xs - from ≡ length (drop o xs) = sym (length-drop from xs) ∙ ap length cut in
    let size : (from + to) - from ≡ to = omega arith in
    ap (λ n. take n (drop from xs)) size ∙ ap₂ (λ n ys. take n ys) (f ∙ ap (min b) long) cut ∙ take_min b (drop o xs)
