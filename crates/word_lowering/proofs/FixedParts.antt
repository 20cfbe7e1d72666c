-- Where the parts of a constant stand in the data, and the elements of a sequence in one; and what its numbers are.
use Rattle.std.proofs.Common.{◌≡◌, ℕ, zero, suc, ◌+◌, ◌*◌, ◌%◌, ◌^◌, ◌<◌, ◌≤◌, List, [], ◌∷◌, ◌++◌, length, Some, Ok, true, refl, sym, ap, ap₂, subst, ◌∙◌}
use Rattle.std.proofs.Common.{arith, append_assoc, length-append}
use Rattle.std.proofs.lemmas.Bool.{and_parts}
use Rattle.rv32_isa.specs.declared.micro_op.Size.TheVariants.{Word}
use Rattle.nim_meaning.specs.Values.{Value, Number, Parts, Fixed, Values, Nil, More, count, nth, nth_part}
use Rattle.flat_code.specs.Pieces.{words_bytes}
use Rattle.flat_code.specs.Shapes.{Shape, number, reference, block, elements, row, parts, resource, Shapes, no_shapes, shapes}
use Rattle.word_code.specs.Memory.{Memory, number_at}
use Rattle.word_code.specs.RoutineTable.{Cell}
use Rattle.word_code.proofs.ForCallers.{Sized}
use Rattle.word_lowering.proofs.Blocks.{IsLiteralHandle}
use Rattle.word_lowering.proofs.FixedValues.{filled, AreWords, AllAreWords, PartsAreWords, FixedAt}
use Rattle.word_lowering.proofs.FixedWords.{cell_in, words_in as words_read, words_many, words_small}
use Rattle.word_lowering.proofs.InMemory.{or_word_least}
use Rattle.word_lowering.proofs.Options.{none_some, some_same}
use Rattle.word_lowering.proofs.PieceWords.{WordsAt, words_in, all_words}
use Rattle.word_lowering.proofs.ShapeFacts.{never, nth_shape, shape_bytes, of_numbers, all_of_numbers}
use Rattle.word_lowering.proofs.ShapePaths.{shapes_before, shape_some, Step}
use Rattle.word_lowering.proofs.TextOperands.{FixedThere}
use Rattle.word_lowering.proofs.WordsBytes.{bytes_long}

module _ (StandsFixed : (place : ℕ) → List ℕ → Type 0) where
  abbrev Are : List ℕ → Shape → Value → Type 0
  Are ws s v = AreWords StandsFixed ws s v

  -- ---- where parts are

  -- one of them, among the words of all
  record Among (ws : List ℕ) (o : ℕ) (s : Shape) (v : Value) : Type 0 where
    before : List ℕ
    words : List ℕ
    behind : List ℕ
    is : ws ≡ before ++ (words ++ behind)
    at : o ≡ 4 * length before
    are : Are words s v

  -- further behind, with words in front
  further : (first rest ws : List ℕ) (n o : ℕ) (s : Shape) (v : Value) → ws ≡ first ++ rest → 4 * length first ≡ n → Among rest o s v → Among ws (n + o) s v
  further first rest ws n o s v is many a = record {
    before = first ++ a.before;
    words = a.words;
    behind = a.behind;
    is = is ∙ ap (λ l. first ++ l) a.is ∙ sym (append_assoc first a.before (a.words ++ a.behind));
    at = (let e = length-append first a.before in let at = a.at in omega (arith, e, at, many));
    are = a.are;
  }

  element_in : (ws : List ℕ) (s : Shape) (vs : Values) (i : ℕ) → i < count vs → AllAreWords StandsFixed ws s vs → Among ws (i * shape_bytes s) s (nth vs i)
  element_in ws s Nil i less are = absurd (omega (arith, less))
  element_in ws s (More v vs) zero less are = record { before = []; words = are.0; behind = are.1; is = are.2; at = omega arith; are = are.3 }
  element_in ws s (More v vs) (suc i) less are =
      let n : ℕ = shape_bytes s in
      subst (λ o. Among ws o s (nth vs i)) (omega arith)
      (further are.0 are.1 ws n (i * n) s (nth vs i) are.2 (words_many StandsFixed are.0 s v are.3) (element_in are.1 s vs i (omega (arith, less)) are.4))

  field_in : (ws : List ℕ) (ss : Shapes) (vs : Values) (i : ℕ) (t : Shape) → nth_shape ss i ≡ Some t → PartsAreWords StandsFixed ws ss vs
      → Among ws (shapes_before ss i) t (nth vs i)
  field_in ws no_shapes vs i t is are = absurd (none_some t is)
  field_in ws (shapes s ss) Nil i t is are = absurd are
  field_in ws (shapes s ss) (More v vs) zero t is are =
      record {
        before = [];
        words = are.0;
        behind = are.1;
        is = are.2;
        at = omega arith;
        are = subst (λ u. Are are.0 u v) (some_same s t is) are.3;
      }
  field_in ws (shapes s ss) (More v vs) (suc i) t is are =
      further are.0 are.1 ws (shape_bytes s) (shapes_before ss i) t (nth vs i) are.2 (words_many StandsFixed are.0 s v are.3) (field_in are.1 ss vs i t is
      are.4)

  -- the zero of a whole without parts is none of them
  whole_in : (ws all : List ℕ) (o : ℕ) (s : Shape) (v : Value) → ws ≡ filled all → 0 < shape_bytes s → Among all o s v → Among ws o s v
  whole_in ws [] o s v is some a =
      let e = ap length a.is ∙ length-append a.before (a.words ++ a.behind) in
      let f = length-append a.words a.behind in
      let n = words_many StandsFixed a.words s v a.are in
      absurd (omega (arith, e, f, n, some))
  whole_in ws (w ∷ all) o s v is some a = record { before = a.before; words = a.words; behind = a.behind; is = is ∙ a.is; at = a.at; are = a.are }

  step_in : (ws : List ℕ) (s : Shape) (v : Value) (i o : ℕ) (t : Shape) → Step s i o t → Are ws s v → Among ws o t (nth_part v i)
  step_in ws (row n s) (Parts vs) i o t step are =
      let less = step.0 in
      let many = are.0 in
      let some = shape_some s in
      subst (λ k. Among ws k t (nth vs i)) (sym step.1)
      (subst (λ u. Among ws (i * shape_bytes s) u (nth vs i)) step.2
      (whole_in ws are.1 (i * shape_bytes s) s (nth vs i) are.2 (omega (arith, some)) (element_in are.1 s vs i (omega (arith, less, many)) are.3)))
  step_in ws (parts ss) (Parts vs) i o t step are =
      let some = shape_some t in
      subst (λ k. Among ws k t (nth vs i)) (sym step.1)
      (whole_in ws are.0 (shapes_before ss i) t (nth vs i) are.1 (omega (arith, some)) (field_in are.0 ss vs i t step.0 are.2))
  step_in ws (row n s) v i o t step are = absurd are
  step_in ws (parts ss) v i o t step are = absurd are
  step_in ws s v i o t step are = absurd step

  -- among the words of the data
  pub fixed_step : (a : ℕ) (s : Shape) (v : Value) (i o : ℕ) (t : Shape) → Step s i o t → FixedAt StandsFixed a s v →
      FixedAt StandsFixed (a + o) t (nth_part v i)
  fixed_step a s v i o t step f =
      let p : Among f.words o t (nth_part v i) = step_in f.words s v i o t step f.are in
      let same : f.before ++ (f.words ++ f.behind) ≡ (f.before ++ p.before) ++ (p.words ++ (p.behind ++ f.behind))
      = ap (λ l. f.before ++ (l ++ f.behind)) p.is
      ∙ ap (λ l. f.before ++ l) (append_assoc p.before (p.words ++ p.behind) f.behind ∙ ap (λ l. p.before ++ l) (append_assoc p.words p.behind f.behind))
      ∙ sym (append_assoc f.before p.before (p.words ++ (p.behind ++ f.behind))) in
      record {
        place = f.place;
        before = f.before ++ p.before;
        words = p.words;
        behind = p.behind ++ f.behind;
        stands = subst (λ l. StandsFixed f.place (words_bytes l)) same f.stands;
        whole = f.whole;
        address = (let e = length-append f.before p.before in let at = f.address in let o = p.at in omega (arith, e, at, o));
        are = p.are;
      }

  -- ---- a sequence, by its handle

  -- an element among words of the data
  pub fixed_member : (place : ℕ) (words : List ℕ) (s : Shape) (vs : Values) (i : ℕ) → i < count vs → place % 4 ≡ 0 → StandsFixed place (words_bytes words)
      → AllAreWords StandsFixed words s vs → FixedAt StandsFixed (place + i * shape_bytes s) s (nth vs i)
  fixed_member place words s vs i less whole stands are =
      let p : Among words (i * shape_bytes s) s (nth vs i) = element_in words s vs i less are in
      record {
        place = place;
        before = p.before;
        words = p.words;
        behind = p.behind;
        stands = subst (λ l. StandsFixed place (words_bytes l)) p.is stands;
        whole = whole;
        address = ap (λ o. place + o) p.at;
        are = p.are;
      }

  pub record IsFixedSequence (m : Memory) (a : ℕ) (s : Shape) (vs : Values) : Type 0 where
    pub place : ℕ
    pub words : List ℕ
    pub long : number_at m a Word ≡ Ok (count vs)
    pub few : count vs < 2 ^ 32
    pub there : number_at m (a + 4) Word ≡ Ok place
    pub near : place < 2 ^ 32
    pub whole : place % 4 ≡ 0
    pub stands : StandsFixed place (words_bytes words)
    pub are : AllAreWords StandsFixed words s vs

  -- an element of it
  pub fixed_element : (m : Memory) (a : ℕ) (s : Shape) (vs : Values) (i : ℕ) → i < count vs → (f : IsFixedSequence m a s vs)
      → FixedAt StandsFixed (f.place + i * shape_bytes s) s (nth vs i)
  fixed_element m a s vs i less f = fixed_member f.place f.words s vs i less f.whole f.stands f.are

  -- ---- in memory where the data stand

  module _ (m : Memory) (sized : Sized m) (there : FixedThere StandsFixed m) (a : ℕ) (s : Shape) (v : Value) (f : FixedAt StandsFixed a s v) where
    pub fixed_words : WordsAt m a f.words
    fixed_words =
        subst (λ b. WordsAt m b f.words) (sym f.address)
        (words_read m sized f.place f.before f.words f.behind f.whole (words_small StandsFixed f.words s v f.are)
        (there f.place (words_bytes (f.before ++ (f.words ++ f.behind))) f.stands).3)

    -- it stands among the bytes
    pub fixed_within : (f.place ≤ a) × (a + shape_bytes s ≤ f.place + length (words_bytes (f.before ++ (f.words ++ f.behind))))
    fixed_within =
        let e = f.address in
        let l = bytes_long (f.before ++ (f.words ++ f.behind)) in
        let x = length-append f.before (f.words ++ f.behind) in
        let y = length-append f.words f.behind in
        let n = words_many StandsFixed f.words s v f.are in
        (omega (arith, e), omega (arith, e, l, x, y, n))

    pub fixed_whole : a % 4 ≡ 0
    fixed_whole = let e = f.address in let w = f.whole in omega (arith, e, w)

    pub fixed_cell : (b : ℕ) → a ≤ b → b + 4 ≤ a + shape_bytes s → b % 4 ≡ 0 → Cell m b
    fixed_cell b low high whole =
        let w = fixed_within in
        cell_in m sized f.place (words_bytes (f.before ++ (f.words ++ f.behind)))
        (there f.place (words_bytes (f.before ++ (f.words ++ f.behind))) f.stands).3 b (omega (arith, w, low)) (omega (arith, w, high)) whole

  module _ (m : Memory) (sized : Sized m) (there : FixedThere StandsFixed m) (a : ℕ) where
    pub fixed_text : (v : Value) → FixedAt StandsFixed a block v → (text : List ℕ) × (v ≡ Fixed text) × IsLiteralHandle StandsFixed m a text
    fixed_text v f = by v f f.are (fixed_words m sized there a block v f)
      where
        by : (v : Value) (f : FixedAt StandsFixed a block v) → Are f.words block v → WordsAt m a f.words
            → (text : List ℕ) × (v ≡ Fixed text) × IsLiteralHandle StandsFixed m a text
        by (Fixed text) f are at =
            let l = are.1 in
            let two : WordsAt m a (length text ∷ are.0 ∷ []) = subst (WordsAt m a) l.is at in (
              text,
              refl,
              record { place = are.0; long = two.0; few = l.few; there = two.1.0; near = l.near; stands = l.stands },
            )
        by v f are at = absurd are

    pub fixed_sequence : (s : Shape) (v : Value) → FixedAt StandsFixed a (elements s) v → (vs : Values) × (v ≡ Parts vs) × IsFixedSequence m a s vs
    fixed_sequence s v f = by v f f.are (fixed_words m sized there a (elements s) v f)
      where
        by : (v : Value) (f : FixedAt StandsFixed a (elements s) v) → Are f.words (elements s) v → WordsAt m a f.words
            → (vs : Values) × (v ≡ Parts vs) × IsFixedSequence m a s vs
        by (Parts vs) f are at =
            let l = are.2 in
            let two : WordsAt m a (count vs ∷ are.0 ∷ []) = subst (WordsAt m a) l.is at in (
              vs,
              refl,
              record {
                place = are.0;
                words = are.1;
                long = two.0;
                few = l.few;
                there = two.1.0;
                near = l.near;
                whole = are.3;
                stands = l.stands;
                are = are.4;
              },
            )
        by v f are at = absurd are

  -- ---- the words of numbers

  filled_same : (ws : List ℕ) → 0 < length ws → filled ws ≡ ws
  filled_same [] some = absurd (omega (arith, some))
  filled_same (w ∷ ws) some = refl

  -- what has a first one has a word
  front_filled : (ws first rest : List ℕ) (s : Shape) (v : Value) → ws ≡ first ++ rest → Are first s v → filled ws ≡ first ++ rest
  front_filled ws first rest s v is are =
      let some = shape_some s in
      let n = words_many StandsFixed first s v are in
      let e = ap length is ∙ length-append first rest in
      filled_same ws (omega (arith, some, n, e)) ∙ is

  mutual
    pub number_words : (ws : List ℕ) (s : Shape) (v : Value) → of_numbers s ≡ true → Are ws s v → ws ≡ words_in v
    number_words ws (number values) (Number z) numbers are = are.0
    number_words ws block v numbers are = never numbers
    number_words ws (elements s) v numbers are = never numbers
    number_words ws (row zero s) (Parts Nil) numbers are = are.2 ∙ ap filled are.3
    number_words ws (row zero s) (Parts (More v vs)) numbers are = absurd (let e = are.0 in omega (arith, e))
    number_words ws (row (suc n) s) (Parts Nil) numbers are = are.2 ∙ ap filled are.3
    number_words ws (row (suc n) s) (Parts (More v vs)) numbers are =
        are.2 ∙ front_filled are.1 are.3.0 are.3.1 s v are.3.2 are.3.3
        ∙ ap₂ (λ a b. a ++ b) (number_words are.3.0 s v numbers are.3.3) (all_number_words are.3.1 s vs numbers are.3.4)
    number_words ws (parts no_shapes) (Parts Nil) numbers are = are.1 ∙ ap filled are.2
    number_words ws (parts no_shapes) (Parts (More v vs)) numbers are = absurd are.2
    number_words ws (parts (shapes s ss)) (Parts Nil) numbers are = absurd are.2
    number_words ws (parts (shapes s ss)) (Parts (More v vs)) numbers are =
        let q = and_parts (of_numbers s) (all_of_numbers ss) numbers in
        are.1 ∙ front_filled are.0 are.2.0 are.2.1 s v are.2.2 are.2.3
        ∙ ap₂ (λ a b. a ++ b) (number_words are.2.0 s v q.0 are.2.3) (fields_words are.2.1 ss vs q.1 are.2.4)
    number_words ws s v numbers are = absurd are

    all_number_words : (ws : List ℕ) (s : Shape) (vs : Values) → of_numbers s ≡ true → AllAreWords StandsFixed ws s vs → ws ≡ all_words vs
    all_number_words ws s Nil numbers are = are
    all_number_words ws s (More v vs) numbers are =
        are.2 ∙ ap₂ (λ a b. a ++ b) (number_words are.0 s v numbers are.3) (all_number_words are.1 s vs numbers are.4)

    fields_words : (ws : List ℕ) (ss : Shapes) (vs : Values) → all_of_numbers ss ≡ true → PartsAreWords StandsFixed ws ss vs → ws ≡ all_words vs
    fields_words ws no_shapes Nil numbers are = are
    fields_words ws (shapes s ss) (More v vs) numbers are =
        let q = and_parts (of_numbers s) (all_of_numbers ss) numbers in
        are.2 ∙ ap₂ (λ a b. a ++ b) (number_words are.0 s v q.0 are.3) (fields_words are.1 ss vs q.1 are.4)
    fields_words ws no_shapes (More v vs) numbers are = absurd are
    fields_words ws (shapes s ss) Nil numbers are = absurd are
