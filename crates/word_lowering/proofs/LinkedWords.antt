-- The words of a constant with texts or sequences inside are those of its value.
use Rattle.std.proofs.Common.{◌≡◌, ◌∙◌, ℕ, zero, suc, ◌+◌, ◌*◌, ◌%◌, ◌^◌, ◌<◌, ◌≤◌, Bool, true, false, List, [], ◌∷◌, ◌++◌, length, drop, Option, Some, None}
use Rattle.std.proofs.Common.{refl, sym, ap, ap₂, subst, append_assoc, append-nil, length-append, arith}
use Rattle.std.specs.Prelude.{◌&&◌}
use Rattle.std.specs.Set.{is_member}
use Rattle.std.proofs.lemmas.Bool.{and_parts, and_from}
use Rattle.nim_types.specs.Types.{same_text}
use Rattle.nim_meaning.specs.Values.{Value, Number, Parts, Handle, Fixed, Ref, Resource, Gone, Vacant, Values, Nil, More, nothing, count}
use Rattle.flat_code.specs.declared.line.Piece.{Piece}
use Rattle.flat_code.specs.declared.line.Piece.TheVariants as P
use Rattle.flat_code.specs.Pieces.{gathered, read_on, last_read, value_of, words_bytes}
use Rattle.flat_code.specs.PieceShapes.{pieces_by, each_by, all_by}
use Rattle.flat_code.specs.Shapes.{Shape, number, reference, block, elements, row, parts, resource, Shapes, no_shapes, shapes, has_shape, are_all, are_rows}
use Rattle.flat_code.specs.Shapes.{have_shapes}
use Rattle.word_lowering.specs.Handled.{behind_handle}
use Rattle.word_lowering.specs.Linked.{last_words, item_of, with_piece, item_address, with_pieces}
use Rattle.word_lowering.specs.Operations.{word}
use Rattle.word_lowering.specs.Texts.{joined_all}
use Rattle.word_lowering.proofs.BlankShapes.{of_handles, all_of_handles}
use Rattle.word_lowering.proofs.FixedValues.{filled, AreWords, AllAreWords, PartsAreWords}
use Rattle.word_lowering.proofs.LinkedItems.{HasItem, HaveItems}
use Rattle.word_lowering.proofs.ShapeFacts.{never}
use Rattle.word_lowering.proofs.WordsBytes.{bytes_long}

-- ---- what pieces make

abbrev mutual
  pub is_made : Value → Bool
  is_made (Number z) = true
  is_made (Parts vs) = all_made vs
  is_made (Handle n k) = false
  is_made (Fixed text) = true
  is_made (Ref object) = true
  is_made (Resource vs identity) = false
  is_made (Gone v final) = false
  is_made Vacant = false

  pub all_made : Values → Bool
  all_made Nil = true
  all_made (More v vs) = is_made v && all_made vs

abbrev each_made : List Value → Bool
each_made [] = true
each_made (v ∷ vs) = is_made v && each_made vs

gathered_made : (n : ℕ) (before : List Value) (vs : Values) → each_made before ≡ true → all_made vs ≡ true → each_made (gathered n before vs) ≡ true
gathered_made zero before vs h all = and_from (all_made vs) (each_made before) all h
gathered_made (suc n) [] vs h all = and_from (all_made vs) true all refl
gathered_made (suc n) (v ∷ before) vs h all =
    let q = and_parts (is_made v) (each_made before) h in gathered_made n before (More v vs) q.1 (and_from (is_made v) (all_made vs) q.0 all)

read_made : (pieces : List Piece) (before : List Value) → each_made before ≡ true → each_made (read_on pieces before) ≡ true
read_made [] before h = h
read_made (P.Ordinal z ∷ pieces) before h = read_made pieces (Number z ∷ before) h
read_made (P.Text text ∷ pieces) before h = read_made pieces (Fixed text ∷ before) h
read_made (P.Nil ∷ pieces) before h = read_made pieces (Ref None ∷ before) h
read_made (P.Parts n ∷ pieces) before h = read_made pieces (gathered n before Nil) (gathered_made n before Nil h refl)
read_made (P.Elements n ∷ pieces) before h = read_made pieces (gathered n before Nil) (gathered_made n before Nil h refl)

pub value_made : (pieces : List Piece) → is_made (value_of pieces) ≡ true
value_made pieces = by (read_on pieces []) (read_made pieces [] refl)
  where
    by : (all : List Value) → each_made all ≡ true → is_made (last_read all) ≡ true
    by [] h = refl
    by (v ∷ all) h = (and_parts (is_made v) (each_made all) h).0

-- ---- values that were read one after another

abbrev push_all : List (List ℕ) → List (List ℕ) → List (List ℕ)
push_all [] values = values
push_all (words ∷ all) values = push_all all (words ∷ values)

last_pushed : (all values : List (List ℕ)) (n m : ℕ) → m ≡ length all + n → last_words m (push_all all values) ≡ last_words n values ++ joined_all all
last_pushed [] values n m e = let same : m ≡ n = omega (arith, e) in ap (λ k. last_words k values) same ∙ sym (append-nil (last_words n values))
last_pushed (words ∷ all) values n m e =
    last_pushed all (words ∷ values) (suc n) m (omega (arith, e)) ∙ append_assoc (last_words n values) words (joined_all all)

drop_pushed : (all values : List (List ℕ)) (n m : ℕ) → m ≡ length all + n → drop m (push_all all values) ≡ drop n values
drop_pushed [] values n m e = let same : m ≡ n = omega (arith, e) in ap (λ k. drop k values) same
drop_pushed (words ∷ all) values n m e = drop_pushed all (words ∷ values) (suc n) m (omega (arith, e))

filled_again : (ws more : List ℕ) → filled (filled ws ++ more) ≡ filled ws ++ more
filled_again [] more = refl
filled_again (w ∷ ws) more = refl

filled_some : (ws : List ℕ) → 1 ≤ length (filled ws)
filled_some [] = omega arith
filled_some (w ∷ ws) = omega arith

-- ---- elements

rows_all : (vs : Values) (n : ℕ) (s : Shape) → are_rows vs n s ≡ true → (are_all vs s ≡ true) × (count vs ≡ n)
rows_all Nil zero s h = (refl, refl)
rows_all Nil (suc n) s h = never h
rows_all (More v vs) zero s h = never h
rows_all (More v vs) (suc n) s h =
    let q = and_parts (has_shape v s) (are_rows vs n s) h in
    let r = rows_all vs n s q.1 in
    (and_from (has_shape v s) (are_all vs s) q.0 r.0, ap suc r.1)

row_handles : (n : ℕ) (s : Shape) → of_handles (row n s) ≡ true → 0 < n → of_handles s ≡ true
row_handles zero s h some = absurd (omega (arith, some))
row_handles (suc n) s h some = h

module _ (from : ℕ) (texts : List (List ℕ)) (StandsFixed : (place : ℕ) → List ℕ → Type 0) where
  abbrev pub address : List ℕ → ℕ
  address item = from + behind_handle texts item

  -- what is laid out stands at its address
  pub record Stands (item : List ℕ) : Type 0 where
    pub stands : StandsFixed (address item) item
    pub near : address item + length item < 2 ^ 32
    pub whole : address item % 4 ≡ 0

  -- all pieces are read, and then this holds of the values
  abbrev pub Reads : (end : List (List ℕ) → Type 0) → List Piece → (values : List (List ℕ)) → Type 0
  Reads end [] values = end values
  Reads end (piece ∷ pieces) values =
      HasItem from texts (item_of piece values) × Reads end pieces (with_piece piece (item_address from texts (item_of piece values)) values)

  pub read_all : (pieces : List Piece) (values : List (List ℕ)) → HaveItems from texts pieces values
      → Reads (λ all. with_pieces from texts pieces values ≡ all) pieces values
  read_all [] values h = refl
  read_all (piece ∷ pieces) values h = (h.0, read_all pieces (with_piece piece (item_address from texts (item_of piece values)) values) h.1)

  -- ---- by the value and its shape

  abbrev mutual
    pub value_words : Value → Shape → List ℕ
    value_words (Number z) s = word z ∷ []
    value_words (Fixed text) s = length text ∷ address text ∷ []
    value_words (Parts vs) (elements s) = count vs ∷ address (words_bytes (joined_all (each_words vs s))) ∷ []
    value_words (Parts vs) (row n s) = filled (joined_all (each_words vs s))
    value_words (Parts vs) (parts ss) = filled (joined_all (all_words vs ss))
    value_words v s = 0 ∷ []

    each_words : Values → Shape → List (List ℕ)
    each_words Nil s = []
    each_words (More v vs) s = value_words v s ∷ each_words vs s

    all_words : Values → Shapes → List (List ℕ)
    all_words (More v vs) (shapes s ss) = value_words v s ∷ all_words vs ss
    all_words vs ss = []

  -- each has some
  some_words : (v : Value) (s : Shape) (more : List ℕ) → filled (value_words v s ++ more) ≡ value_words v s ++ more
  some_words (Parts vs) (row n s) more = filled_again (joined_all (each_words vs s)) more
  some_words (Parts vs) (parts ss) more = filled_again (joined_all (all_words vs ss)) more
  some_words v s more = refl

  each_long : (vs : Values) (s : Shape) → count vs ≡ length (each_words vs s) + 0
  each_long Nil s = refl
  each_long (More v vs) s = let h = each_long vs s in omega (arith, h)

  all_long : (vs : Values) (ss : Shapes) → have_shapes vs ss ≡ true → count vs ≡ length (all_words vs ss) + 0
  all_long Nil ss h = refl
  all_long (More v vs) no_shapes h = never h
  all_long (More v vs) (shapes s ss) h = let i = all_long vs ss (and_parts (has_shape v s) (have_shapes vs ss) h).1 in omega (arith, i)

  -- behind the parts of a whole
  whole_read : (end : List (List ℕ) → Type 0) (rest : List Piece) (values all : List (List ℕ)) (n : ℕ) → n ≡ length all + 0
      → (0 < n → filled (joined_all all) ≡ joined_all all) → Reads end (P.Parts n ∷ rest) (push_all all values)
      → Reads end rest (filled (joined_all all) ∷ values)
  whole_read end rest values [] zero long some r = r.1
  whole_read end rest values (words ∷ all) zero long some r = absurd (omega (arith, long))
  whole_read end rest values all (suc n) long some r =
      subst (λ ws. Reads end rest (ws ∷ values)) (last_pushed all values 0 (suc n) long ∙ sym (some (omega arith)))
      (subst (λ left. Reads end rest (last_words (suc n) (push_all all values) ∷ left)) (drop_pushed all values 0 (suc n) long) r.1)

  -- a word each at least
  one_word : (v : Value) (s : Shape) (more : List ℕ) → suc (length more) ≤ length (value_words v s ++ more)
  one_word v s more =
      let long = length-append (value_words v s) more in
      let some = ap length (some_words v s []) ∙ length-append (value_words v s) [] in
      let least = filled_some (value_words v s ++ []) in
      omega (arith, long, some, least)

  each_many : (vs : Values) (s : Shape) → count vs ≤ length (joined_all (each_words vs s))
  each_many Nil s = omega arith
  each_many (More v vs) s = let h = each_many vs s in let one = one_word v s (joined_all (each_words vs s)) in omega (arith, h, one)

  each_some : (vs : Values) (s : Shape) → 0 < count vs → filled (joined_all (each_words vs s)) ≡ joined_all (each_words vs s)
  each_some Nil s some = absurd (omega (arith, some))
  each_some (More v vs) s some = some_words v s (joined_all (each_words vs s))

  all_some : (vs : Values) (ss : Shapes) → have_shapes vs ss ≡ true → 0 < count vs → filled (joined_all (all_words vs ss)) ≡ joined_all (all_words vs ss)
  all_some Nil ss h some = absurd (omega (arith, some))
  all_some (More v vs) no_shapes h some = never h
  all_some (More v vs) (shapes s ss) h some = some_words v s (joined_all (all_words vs ss))

  module _ (there : (item : List ℕ) → is_member same_text texts item ≡ true → Stands item) (end : List (List ℕ) → Type 0) where
    mutual
      pub value_read : (v : Value) (s : Shape) (rest : List Piece) (values : List (List ℕ)) → has_shape v s ≡ true → of_handles s ≡ true → is_made v ≡ true
          → Reads end (pieces_by v s ++ rest) values → AreWords StandsFixed (value_words v s) s v × Reads end rest (value_words v s ∷ values)
      value_read (Number z) (number limit) rest values h o made r = ((refl, h), r.1)
      value_read (Fixed text) block rest values h o made r =
          let t = there text r.0 in
          let near = t.near in
          ((address text, record { is = refl; few = omega (arith, near); near = omega (arith, near); stands = t.stands }), r.1)
      value_read (Parts vs) (elements s) rest values h o made r =
          let n : ℕ = count vs in
          let all : List (List ℕ) = each_words vs s in
          let words : List ℕ = joined_all all in
          let e = each_read vs s (P.Elements n ∷ rest) values h (λ some. o) made
          (subst (λ ps. Reads end ps values) (append_assoc (each_by vs s) (P.Elements n ∷ []) rest) r) in
          let now : (is_member same_text texts (words_bytes words) ≡ true) × Reads end rest ((n ∷ address (words_bytes words) ∷ []) ∷ values)
          = subst (λ left. (is_member same_text texts (words_bytes words) ≡ true) × Reads end rest ((n ∷ address (words_bytes words) ∷ []) ∷ left))
          (drop_pushed all values 0 n (each_long vs s))
          (subst
          (λ ws. (is_member same_text texts (words_bytes ws) ≡ true) × Reads end rest ((n ∷ address (words_bytes ws) ∷ []) ∷ drop n (push_all all values)))
          (last_pushed all values 0 n (each_long vs s)) e.1) in
          let t = there (words_bytes words) now.0 in
          let near = t.near in
          let long = bytes_long words in
          let many = each_many vs s in (
            (
              address (words_bytes words),
              words,
              record { is = refl; few = omega (arith, near, long, many); near = omega (arith, near); stands = t.stands },
              t.whole,
              e.0,
            ),
            now.1,
          )
      value_read (Parts vs) (row n s) rest values h o made r =
          let k : ℕ = count vs in
          let c = rows_all vs n s h in
          let count_is = c.1 in
          let e = each_read vs s (P.Parts k ∷ rest) values c.0 (λ some. row_handles n s o (omega (arith, some, count_is))) made
          (subst (λ ps. Reads end ps values) (append_assoc (each_by vs s) (P.Parts k ∷ []) rest) r) in
          ((c.1, joined_all (each_words vs s), refl, e.0), whole_read end rest values (each_words vs s) k (each_long vs s) (each_some vs s) e.1)
      value_read (Parts vs) (parts ss) rest values h o made r =
          let k : ℕ = count vs in
          let e = all_read vs ss (P.Parts k ∷ rest) values h o made
          (subst (λ ps. Reads end ps values) (append_assoc (all_by vs ss) (P.Parts k ∷ []) rest) r) in
          ((joined_all (all_words vs ss), refl, e.0), whole_read end rest values (all_words vs ss) k (all_long vs ss h) (all_some vs ss h) e.1)
      value_read (Handle n k) s rest values h o made r = never made
      value_read (Resource vs i) s rest values h o made r = never made
      value_read (Ref object) reference rest values h o made r = never o
      value_read v s rest values h o made r = never h

      each_read : (vs : Values) (s : Shape) (rest : List Piece) (values : List (List ℕ)) → are_all vs s ≡ true → (0 < count vs → of_handles s ≡ true)
          → all_made vs ≡ true → Reads end (each_by vs s ++ rest) values
          → AllAreWords StandsFixed (joined_all (each_words vs s)) s vs × Reads end rest (push_all (each_words vs s) values)
      each_read Nil s rest values h o made r = (refl, r)
      each_read (More v vs) s rest values h o made r =
          let p = and_parts (has_shape v s) (are_all vs s) h in
          let q = and_parts (is_made v) (all_made vs) made in
          let first = value_read v s (each_by vs s ++ rest) values p.0 (o (omega arith)) q.0
          (subst (λ ps. Reads end ps values) (append_assoc (pieces_by v s) (each_by vs s) rest) r) in
          let others = each_read vs s rest (value_words v s ∷ values) p.1 (λ some. o (omega arith)) q.1 first.1 in
          ((value_words v s, joined_all (each_words vs s), refl, first.0, others.0), others.1)

      all_read : (vs : Values) (ss : Shapes) (rest : List Piece) (values : List (List ℕ)) → have_shapes vs ss ≡ true → all_of_handles ss ≡ true
          → all_made vs ≡ true → Reads end (all_by vs ss ++ rest) values
          → PartsAreWords StandsFixed (joined_all (all_words vs ss)) ss vs × Reads end rest (push_all (all_words vs ss) values)
      all_read Nil no_shapes rest values h o made r = (refl, r)
      all_read Nil (shapes s ss) rest values h o made r = never h
      all_read (More v vs) no_shapes rest values h o made r = never h
      all_read (More v vs) (shapes s ss) rest values h o made r =
          let p = and_parts (has_shape v s) (have_shapes vs ss) h in
          let i = and_parts (of_handles s) (all_of_handles ss) o in
          let q = and_parts (is_made v) (all_made vs) made in
          let first = value_read v s (all_by vs ss ++ rest) values p.0 i.0 q.0
          (subst (λ ps. Reads end ps values) (append_assoc (pieces_by v s) (all_by vs ss) rest) r) in
          let others = all_read vs ss rest (value_words v s ∷ values) p.1 i.1 q.1 first.1 in
          ((value_words v s, joined_all (all_words vs ss), refl, first.0, others.0), others.1)
