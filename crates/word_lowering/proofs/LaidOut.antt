-- What is laid out stays where it is as more is, and has as many bytes as texts and constants count.
use Rattle.std.proofs.Common.{◌≡◌, ◌∙◌, ℕ, zero, suc, ◌+◌, ◌*◌, ◌≤◌, Bool, true, false, List, [], ◌∷◌, ◌++◌, length, map, drop, Some, refl, sym, ap}
use Rattle.std.proofs.Common.{append-nil, append_assoc, length-append, subst, arith}
use Rattle.std.specs.Int.{w32, cast_unsigned}
use Rattle.std.specs.Prelude.{◌||◌, if◌then◌else◌}
use Rattle.std.specs.Set.{is_member, unique_keys}
use Rattle.std.proofs.lemmas.Bool.{cond-true, cond-false, both_ways}
use Rattle.nim_types.specs.Types.{same_text}
use Rattle.nim_program.specs.declared.expr.Label.TheVariants as C
use Rattle.flat_code.specs.declared.block.BlockLine.{BlockLine}
use Rattle.flat_code.specs.declared.code.CodeProc.{CodeProc}
use Rattle.flat_code.specs.declared.line.Line.{Line}
use Rattle.flat_code.specs.declared.line.Line.TheVariants as L
use Rattle.flat_code.specs.declared.line.Piece.{Piece}
use Rattle.flat_code.specs.declared.line.Piece.TheVariants as P
use Rattle.flat_code.specs.Codes.{block_plain}
use Rattle.flat_code.specs.Pieces.{has_links, is_linked, words_bytes, standing_bytes}
use Rattle.flat_code.specs.Sizes.{linked_pieces_bytes, linked_bytes, linked_in, handled_bytes, pieces_texts, standing_texts, texts_in, lines_texts, code_texts}
use Rattle.flat_code.specs.Sizes.{constants_bytes, distinct_texts, summed}
use Rattle.word_lowering.specs.Handled.{padded, laid_length, place_among}
use Rattle.word_lowering.specs.LaidTexts.{stacked}
use Rattle.word_lowering.specs.Linked.{last_words, item_of, with_piece, item_address, Before, pieces_before, elements_before, items_before, if_linked}
use Rattle.word_lowering.specs.Linked.{constant_before, standing_before, line_before, lines_before, procs_before, laid_out}
use Rattle.word_lowering.proofs.DistinctTexts.{has_before, has_behind, has_same, laid_most, unique_has}
use Rattle.word_lowering.proofs.WordsBytes.{bytes_long}
use Rattle.word_lowering.proofs.Padding.{whole_padded}
use Rattle.word_lowering.proofs.StackedWords.{stacked_split}

abbrev has : List (List ℕ) → List ℕ → Bool
has = is_member same_text

abbrev once : List (List ℕ) → List (List ℕ)
once = unique_keys same_text

-- ---- more in front

-- what is laid out stays there
pub record Extends (more met : List (List ℕ)) : Type 0 where
  pub among : (text : List ℕ) → has met text ≡ true → has more text ≡ true
  pub place : (text : List ℕ) → has met text ≡ true → place_among (once more) text ≡ place_among (once met) text

pub extends_same : (met : List (List ℕ)) → Extends met met
extends_same met = record { among = λ text h. h; place = λ text h. refl }

pub extends_on : {a b c : List (List ℕ)} → Extends a b → Extends b c → Extends a c
extends_on x y = record {
  among = λ text h. x.among text (y.among text h);
  place = λ text h. x.place text (y.among text h) ∙ y.place text h;
}

pub extends_one : (item : List ℕ) (met : List (List ℕ)) → Extends (item ∷ met) met
extends_one item met = record { among = λ text h. has_behind text (item ∷ []) met h; place = at }
  where
    at : (text : List ℕ) → has met text ≡ true → place_among (once (item ∷ met)) text ≡ place_among (once met) text
    at text h = by (has met item) refl
      where
        by : (b : Bool) → has met item ≡ b → place_among (once (item ∷ met)) text ≡ place_among (once met) text
        by true e = ap (λ ts. place_among ts text) (cond-true (has met item) (once met) (item ∷ once met) e)
        by false e =
            ap (λ ts. place_among ts text) (cond-false (has met item) (once met) (item ∷ once met) e)
            ∙ other (same_text text item) refl
          where
            other : (c : Bool) → same_text text item ≡ c
                → (if same_text text item then Some (laid_length (once met)) else place_among (once met) text) ≡ place_among (once met) text
            other false d = ap (λ c. if c then Some (laid_length (once met)) else place_among (once met) text) d
            other true d = absurd (both_ways (has met item) e (sym (has_same met text item d) ∙ h))

-- ---- with so many more bytes than texts

pub record Grows (texts : List (List ℕ)) (n : ℕ) (met : List (List ℕ)) : Type 0 where
  pub among : (text : List ℕ) → has texts text ≡ true → has met text ≡ true
  pub most : laid_length (once met) ≤ laid_length (once texts) + n

abbrev item_bytes : List ℕ → ℕ
item_bytes item = 8 + length (padded item)

one_more : (item : List ℕ) (met : List (List ℕ)) (b : Bool) → has met item ≡ b
    → laid_length (once (item ∷ met)) ≡ (if b then laid_length (once met) else laid_length (once met) + item_bytes item)
one_more item met true e = ap laid_length (cond-true (has met item) (once met) (item ∷ once met) e)
one_more item met false e = ap laid_length (cond-false (has met item) (once met) (item ∷ once met) e)

more_among : (texts met : List (List ℕ)) (item : List ℕ) → ((text : List ℕ) → has texts text ≡ true → has met text ≡ true) → (text : List ℕ)
    → has texts text ≡ true → has (item ∷ met) text ≡ true
more_among texts met item among text h = has_behind text (item ∷ []) met (among text h)

grows_item : (texts : List (List ℕ)) (n : ℕ) (met : List (List ℕ)) (item : List ℕ) → Grows texts n met → Grows texts (n + item_bytes item) (item ∷ met)
grows_item texts n met item g = record { among = more_among texts met item g.among; most = by (has met item) refl }
  where
    by : (b : Bool) → has met item ≡ b → laid_length (once (item ∷ met)) ≤ laid_length (once texts) + (n + item_bytes item)
    by true e = let a = one_more item met true e in let m = g.most in omega (arith, a, m)
    by false e = let a = one_more item met false e in let m = g.most in omega (arith, a, m)

grows_text : (texts : List (List ℕ)) (n : ℕ) (met : List (List ℕ)) (text : List ℕ) → Grows texts n met → Grows (text ∷ texts) n (text ∷ met)
grows_text texts n met text g = record { among = both; most = by (has met text) (has texts text) refl refl }
  where
    both : (other : List ℕ) → has (text ∷ texts) other ≡ true → has (text ∷ met) other ≡ true
    both other h = on (same_text other text) h
      where
        on : (b : Bool) → (b || has texts other) ≡ true → (b || has met other) ≡ true
        on true i = refl
        on false i = g.among other i

    by : (b c : Bool) → has met text ≡ b → has texts text ≡ c → laid_length (once (text ∷ met)) ≤ laid_length (once (text ∷ texts)) + n
    by true true e f = let a = one_more text met true e in let b = one_more text texts true f in let m = g.most in omega (arith, a, b, m)
    by true false e f = let a = one_more text met true e in let b = one_more text texts false f in let m = g.most in omega (arith, a, b, m)
    by false false e f = let a = one_more text met false e in let b = one_more text texts false f in let m = g.most in omega (arith, a, b, m)
    by false true e f = absurd (both_ways (has met text) e (g.among text f))

grows_at : {texts met : List (List ℕ)} {n m : ℕ} → n ≤ m → Grows texts n met → Grows texts m met
grows_at less g = record { among = g.among; most = (let m = g.most in omega (arith, m, less)) }

item_long : (ws : List ℕ) → item_bytes (words_bytes ws) ≡ 8 + 4 * length ws
item_long ws =
    let a = bytes_long ws in
    let b = ap length (whole_padded (words_bytes ws) (omega (arith, a))) in
    omega (arith, a, b)

-- ---- what each part of code brings

module _ (from : ℕ) where
  -- ---- it is in front

  pieces_extend : (pieces : List Piece) (met : List (List ℕ)) → Extends (pieces_before pieces met) met
  pieces_extend [] met = extends_same met
  pieces_extend (P.Text text ∷ pieces) met = extends_on (extends_one text (pieces_before pieces met)) (pieces_extend pieces met)
  pieces_extend (piece ∷ pieces) met = pieces_extend pieces met

  elements_extend : (piece : Piece) (values met : List (List ℕ)) → Extends (elements_before piece values met) met
  elements_extend (P.Elements n) values met = extends_one (words_bytes (last_words n values)) met
  elements_extend piece values met = extends_same met

  pub items_extend : (pieces : List Piece) (values met : List (List ℕ)) → Extends (items_before from pieces values met) met
  items_extend [] values met = extends_one (words_bytes (last_words 1 values)) met
  items_extend (piece ∷ pieces) values met =
      let behind : List (List ℕ) = elements_before piece values met in
      let address : ℕ = item_address from (once behind) (item_of piece values) in
      extends_on (items_extend pieces (with_piece piece address values) behind) (elements_extend piece values met)

  linked_extend : (b : Bool) (pieces : List Piece) (met : List (List ℕ)) → Extends (if_linked b from pieces met) met
  linked_extend false pieces met = extends_same met
  linked_extend true pieces met = items_extend pieces [] met

  constant_extend : (pieces : List Piece) (met : List (List ℕ)) → Extends (constant_before from pieces met) met
  constant_extend pieces met = extends_on (linked_extend (is_linked pieces) pieces (pieces_before pieces met)) (pieces_extend pieces met)

  standing_extend : (pieces : List Piece) (met : List (List ℕ)) → Extends (standing_before from pieces met) met
  standing_extend pieces met = by (has_links pieces)
    where
      by : (b : Bool) → Extends (if b then constant_before from pieces met else standing_bytes pieces ∷ met) met
      by true = constant_extend pieces met
      by false = extends_one (standing_bytes pieces) met

  pub line_extend : (line : Line) (met : List (List ℕ)) → Extends (line_before from line met) met
  line_extend (L.Constant to how ty pieces) met = constant_extend pieces met
  line_extend (L.Standing to ty pieces) met = standing_extend pieces met
  line_extend (L.Fits these (C.Text text) to) met = extends_one text met
  line_extend line met = extends_same met

  pub lines_extend : (lines : List BlockLine) (met : List (List ℕ)) → Extends (lines_before from lines met) met
  lines_extend [] met = extends_same met
  lines_extend (line ∷ lines) met = extends_on (line_extend (block_plain line) (lines_before from lines met)) (lines_extend lines met)

  -- ---- it has so many bytes

  pieces_grow : {texts met : List (List ℕ)} {n : ℕ} (pieces : List Piece) → Grows texts n met
      → Grows (pieces_texts pieces ++ texts) n (pieces_before pieces met)
  pieces_grow [] g = g
  pieces_grow {texts} {met} {n} (P.Text text ∷ pieces) g = grows_text (pieces_texts pieces ++ texts) n (pieces_before pieces met) text (pieces_grow pieces g)
  pieces_grow (P.Ordinal z ∷ pieces) g = pieces_grow pieces g
  pieces_grow (P.Nil ∷ pieces) g = pieces_grow pieces g
  pieces_grow (P.Parts m ∷ pieces) g = pieces_grow pieces g
  pieces_grow (P.Elements m ∷ pieces) g = pieces_grow pieces g

  pub pieces_among : (pieces : List Piece) (met : List (List ℕ)) (text : List ℕ) → has (pieces_texts pieces) text ≡ true
      → has (pieces_before pieces met) text ≡ true
  pieces_among pieces met text h =
      (pieces_grow {texts = met} {met = met} {n = 0} pieces (record { among = λ other i. i; most = omega arith })).among text
      (has_before text (pieces_texts pieces) met h)

  -- the words of values are of the bytes of their pieces
  abbrev left : List (List ℕ) → List Piece → ℕ
  left values pieces = 8 + (4 * length (stacked values) + linked_pieces_bytes pieces)

  taken_long : (m : ℕ) (values : List (List ℕ)) → length (stacked (drop m values)) + length (last_words m values) ≡ length (stacked values)
  taken_long m values =
      let a = ap length (stacked_split values m) in
      let b = length-append (stacked (drop m values)) (last_words m values) in
      omega (arith, a, b)

  pushed_long : (words : List ℕ) (values : List (List ℕ)) → length (stacked (words ∷ values)) ≡ length (stacked values) + length words
  pushed_long words values = length-append (stacked values) words

  items_grow : {texts : List (List ℕ)} (pieces : List Piece) (values : List (List ℕ)) {met : List (List ℕ)} {n : ℕ} → Grows texts n met
      → Grows texts (n + left values pieces) (items_before from pieces values met)
  items_grow {texts} [] values {met} {n} g =
      let a = item_long (last_words 1 values) in
      let b = taken_long 1 values in
      grows_at (omega (arith, a, b)) (grows_item texts n met (words_bytes (last_words 1 values)) g)
  items_grow {texts} (P.Elements m ∷ pieces) values {met} {n} g =
      let item : List ℕ = words_bytes (last_words m values) in
      let address : ℕ = item_address from (once (item ∷ met)) (Some item) in
      let a = item_long (last_words m values) in
      let b = taken_long m values in
      let c = pushed_long (m ∷ address ∷ []) (drop m values) in
      grows_at (omega (arith, a, b, c)) (items_grow pieces ((m ∷ address ∷ []) ∷ drop m values) (grows_item texts n met item g))
  items_grow {texts} (P.Text text ∷ pieces) values {met} {n} g =
      let words : List ℕ = length text ∷ item_address from (once met) (Some text) ∷ [] in
      let c = pushed_long words values in
      grows_at (omega (arith, c)) (items_grow pieces (words ∷ values) g)
  items_grow {texts} (P.Ordinal z ∷ pieces) values {met} {n} g =
      let c = pushed_long (cast_unsigned w32 z ∷ []) values in
      grows_at (omega (arith, c)) (items_grow pieces ((cast_unsigned w32 z ∷ []) ∷ values) g)
  items_grow {texts} (P.Nil ∷ pieces) values {met} {n} g =
      let c = pushed_long (0 ∷ []) values in grows_at (omega (arith, c)) (items_grow pieces ((0 ∷ []) ∷ values) g)
  items_grow {texts} (P.Parts zero ∷ pieces) values {met} {n} g =
      let c = pushed_long (0 ∷ []) values in grows_at (omega (arith, c)) (items_grow pieces ((0 ∷ []) ∷ values) g)
  items_grow {texts} (P.Parts (suc m) ∷ pieces) values {met} {n} g =
      let b = taken_long (suc m) values in
      let c = pushed_long (last_words (suc m) values) (drop (suc m) values) in
      grows_at (omega (arith, b, c)) (items_grow pieces (last_words (suc m) values ∷ drop (suc m) values) g)

  constant_grow : {texts met : List (List ℕ)} {n : ℕ} (pieces : List Piece) → Grows texts n met
      → Grows (pieces_texts pieces ++ texts) (n + linked_bytes pieces) (constant_before from pieces met)
  constant_grow {texts} {met} {n} pieces g = by (is_linked pieces) (pieces_grow pieces g)
    where
      by : (b : Bool) → Grows (pieces_texts pieces ++ texts) n (pieces_before pieces met)
          → Grows (pieces_texts pieces ++ texts) (n + (if b then 8 + linked_pieces_bytes pieces else 0)) (if_linked b from pieces (pieces_before pieces met))
      by true h = grows_at (omega arith) (items_grow pieces [] h)
      by false h = grows_at (omega arith) h

  standing_grow : {texts met : List (List ℕ)} {n : ℕ} (pieces : List Piece) → Grows texts n met
      → Grows (standing_texts pieces ++ texts) (n + linked_bytes pieces) (standing_before from pieces met)
  standing_grow {texts} {met} {n} pieces g = by (has_links pieces) (constant_grow pieces g)
    where
      by : (b : Bool) → Grows (pieces_texts pieces ++ texts) (n + linked_bytes pieces) (constant_before from pieces met)
          → Grows ((if b then pieces_texts pieces else standing_bytes pieces ∷ []) ++ texts) (n + linked_bytes pieces)
          (if b then constant_before from pieces met else standing_bytes pieces ∷ met)
      by true h = h
      by false h = grows_at (omega arith) (grows_text texts n met (standing_bytes pieces) g)

  line_grow : {texts met : List (List ℕ)} {n : ℕ} (line : Line) → Grows texts n met
      → Grows (texts_in line ++ texts) (n + linked_in line) (line_before from line met)
  line_grow (L.Constant to how ty pieces) g = constant_grow pieces g
  line_grow (L.Standing to ty pieces) g = standing_grow pieces g
  line_grow {texts} {met} {n} (L.Fits these (C.Text text) to) g = grows_at (omega arith) (grows_text texts n met text g)
  line_grow line g = grows_at (omega arith) g

  lines_grow : {texts met : List (List ℕ)} {n : ℕ} (lines : List BlockLine) → Grows texts n met
      → Grows (lines_texts (map block_plain lines) ++ texts) (n + summed linked_in (map block_plain lines)) (lines_before from lines met)
  lines_grow [] g = grows_at (omega arith) g
  lines_grow {texts} {met} {n} (line ∷ lines) g =
      let own : List (List ℕ) = texts_in (block_plain line) in
      let both = append_assoc own (lines_texts (map block_plain lines)) texts in
      grows_at (omega arith)
      (subst (λ ts. Grows ts (n + summed linked_in (map block_plain lines) + linked_in (block_plain line)) (lines_before from (line ∷ lines) met)) (sym both)
      (line_grow (block_plain line) (lines_grow lines g)))

  procs_grow : (procs : List (CodeProc BlockLine)) → Grows (code_texts block_plain procs) (constants_bytes block_plain procs) (procs_before from procs [])
  procs_grow [] = record { among = λ text h. h; most = omega arith }
  procs_grow (p ∷ procs) = grows_at (omega arith) (lines_grow p.lines (procs_grow procs))

  -- the texts of code are laid out
  pub among_laid : (procs : List (CodeProc BlockLine)) (text : List ℕ) → has (code_texts block_plain procs) text ≡ true → has (laid_out from procs) text ≡ true
  among_laid procs text h = unique_has (procs_before from procs []) text ∙ (procs_grow procs).among text h

  pub laid_within : (procs : List (CodeProc BlockLine))
      → laid_length (laid_out from procs) ≤ handled_bytes (distinct_texts block_plain procs) + constants_bytes block_plain procs
  laid_within procs = let a = (procs_grow procs).most in let b = laid_most (distinct_texts block_plain procs) in omega (arith, a, b)
