-- The words of constants: pieces have those of the value to which they come.
use Rattle.std.proofs.Common.{◌≡◌, ℕ, zero, suc, ◌+◌, ◌≤◌, List, [], ◌∷◌, ◌++◌, length, true, Ok, refl, sym, ap, subst, ◌∙◌}
use Rattle.std.proofs.Common.{arith, append_assoc, append-nil, None, ℤ, false}
use Rattle.std.specs.Prelude.{◌-◌, nat_le, ◌&&◌}
use Rattle.std.proofs.lemmas.Bool.{and_parts, both_ways, eqb-true, leb-true}
use Rattle.nim_meaning.specs.Values.{Value, Number, Parts, Handle, Fixed, Ref, Resource, Gone, Vacant, Values, Nil, More, bytes, bytes_all}
use Rattle.rv32_isa.specs.declared.micro_op.Size.TheVariants.{Word}
use Rattle.flat_code.specs.declared.line.Piece.{Piece}
use Rattle.flat_code.specs.declared.line.Piece.TheVariants as P
use Rattle.word_code.specs.Memory.{Memory, number_at}
use Rattle.flat_code.specs.Pieces.{gathered, read_on, last_read, value_of, are_one, has_links, pieces_bytes, piece_words}
use Rattle.word_lowering.specs.Aliases.{text_in}
use Rattle.word_lowering.specs.Operations.{word}
use Rattle.word_lowering.proofs.InMemory.{IsAt, AreAt, OfNumbers, AllOfNumbers, parts_bytes}

-- ---- what a constant is

-- a number, a text, or what is built
pub data PiecesAre : List Piece → Type 0 where
  one_number : (z : ℤ) → PiecesAre (P.Ordinal z ∷ [])
  one_text : (text : List ℕ) → PiecesAre (P.Text text ∷ [])
  built : {pieces : List Piece} → text_in pieces ≡ None → pieces_bytes pieces ≡ bytes (value_of pieces) → PiecesAre pieces

pub pieces_are : (pieces : List Piece) → PiecesAre pieces
pieces_are [] = built refl refl
pieces_are (P.Ordinal z ∷ []) = one_number z
pieces_are (P.Text text ∷ []) = one_text text
pieces_are (P.Nil ∷ []) = built refl refl
pieces_are (P.Parts n ∷ []) = built refl refl
pieces_are (P.Elements n ∷ []) = built refl refl
pieces_are (P.Ordinal z ∷ q ∷ pieces) = built refl refl
pieces_are (P.Text text ∷ q ∷ pieces) = built refl refl
pieces_are (P.Nil ∷ q ∷ pieces) = built refl refl
pieces_are (P.Parts n ∷ q ∷ pieces) = built refl refl
pieces_are (P.Elements n ∷ q ∷ pieces) = built refl refl

-- ---- words

abbrev mutual
  -- a value without parts has one word, at which nobody looks; what comes with the heap has none here
  pub words_in : Value → List ℕ
  words_in (Number z) = word z ∷ []
  words_in (Parts Nil) = 0 ∷ []
  words_in (Parts (More v vs)) = words_in v ++ all_words vs
  words_in v = []

  pub all_words : Values → List ℕ
  all_words Nil = []
  all_words (More v vs) = words_in v ++ all_words vs

abbrev pub room_of : List ℕ → ℕ
room_of [] = 0
room_of (w ∷ ws) = 4 + room_of ws

room_both : (ws us : List ℕ) → room_of (ws ++ us) ≡ room_of ws + room_of us
room_both [] us = omega arith
room_both (w ∷ ws) us = let e = room_both ws us in omega (arith, e)

mutual
  pub words_room : (v : Value) → OfNumbers v → room_of (words_in v) ≡ bytes v
  words_room (Number z) o = refl
  words_room (Parts Nil) o = refl
  words_room (Parts (More v vs)) o =
      let a = room_both (words_in v) (all_words vs) in
      let b = words_room v o.0 in
      let c = all_room vs o.1 in
      let d = parts_bytes v vs o.0 in
      omega (arith, a, b, c, d)
  words_room (Handle n k) o = absurd o
  words_room (Fixed text) o = absurd o
  words_room (Ref object) o = absurd o
  words_room (Resource vs i) o = absurd o
  words_room (Gone v final) o = absurd o
  words_room Vacant o = absurd o

  all_room : (vs : Values) → AllOfNumbers vs → room_of (all_words vs) ≡ bytes_all vs
  all_room Nil o = refl
  all_room (More v vs) o =
      let a = room_both (words_in v) (all_words vs) in let b = words_room v o.0 in let c = all_room vs o.1 in omega (arith, a, b, c)

-- words one behind the other
abbrev pub WordsAt : Memory → ℕ → List ℕ → Type 0
WordsAt m a [] = Unit {0}
WordsAt m a (w ∷ ws) = (number_at m a Word ≡ Ok w) × WordsAt m (a + 4) ws

first_words : (m : Memory) (a : ℕ) (ws us : List ℕ) → WordsAt m a (ws ++ us) → WordsAt m a ws × WordsAt m (a + room_of ws) us
first_words m a [] us at = (tt, subst (λ b. WordsAt m b us) (omega arith) at)
first_words m a (w ∷ ws) us at =
    let r = first_words m (a + 4) ws us at.1 in ((at.0, r.0), subst (λ b. WordsAt m b us) (omega arith) r.1)

mutual
  pub by_words : (m : Memory) (a : ℕ) (v : Value) → OfNumbers v → WordsAt m a (words_in v) → IsAt m a v
  by_words m a (Number z) o at = at.0
  by_words m a (Parts Nil) o at = tt
  by_words m a (Parts (More v vs)) o at = all_by_words m a (More v vs) o at
  by_words m a (Handle n k) o at = absurd o
  by_words m a (Fixed text) o at = absurd o
  by_words m a (Ref object) o at = absurd o
  by_words m a (Resource vs i) o at = absurd o
  by_words m a (Gone v final) o at = absurd o
  by_words m a Vacant o at = absurd o

  all_by_words : (m : Memory) (a : ℕ) (vs : Values) → AllOfNumbers vs → WordsAt m a (all_words vs) → AreAt m a vs
  all_by_words m a Nil o at = tt
  all_by_words m a (More v vs) o at =
      let r = first_words m a (words_in v) (all_words vs) at in (
        by_words m a v o.0 r.0,
        all_by_words m (a + bytes v) vs o.1 (subst (λ n. WordsAt m (a + n) (all_words vs)) (words_room v o.0) r.1),
      )

-- ---- pieces

-- of values, the last one first
abbrev stack_words : List Value → List ℕ
stack_words [] = []
stack_words (v ∷ before) = stack_words before ++ words_in v

gathered_words : (n : ℕ) (before : List Value) (v : Value) (vs : Values) → n ≤ length before
    → stack_words (gathered n before (More v vs)) ≡ stack_words before ++ all_words (More v vs)
gathered_words zero before v vs le = refl
gathered_words (suc n) [] v vs le = absurd (omega (arith, le))
gathered_words (suc n) (u ∷ before) v vs le =
    gathered_words n before u (More v vs) (omega (arith, le)) ∙ sym (append_assoc (stack_words before) (words_in u) (all_words (More v vs)))

gathered_length : (n : ℕ) (before : List Value) (vs : Values) → n ≤ length before → length (gathered n before vs) ≡ suc (length before - n)
gathered_length zero before vs le = omega arith
gathered_length (suc n) [] vs le = absurd (omega (arith, le))
gathered_length (suc n) (v ∷ before) vs le = let e = gathered_length n before (More v vs) (omega (arith, le)) in omega (arith, e)

-- behind these values, pieces come to one value that has all their words
abbrev Reads : List Piece → List Value → Type 0
Reads pieces before = (stack_words (read_on pieces before) ≡ stack_words before ++ piece_words pieces) × (length (read_on pieces before) ≡ 1)

-- one more value
more_read : (v : Value) (pieces : List Piece) (before : List Value) (ws : List ℕ) → words_in v ≡ ws → Reads pieces (v ∷ before)
    → (stack_words (read_on pieces (v ∷ before)) ≡ stack_words before ++ (ws ++ piece_words pieces)) × (length (read_on pieces (v ∷ before)) ≡ 1)
more_read v pieces before ws is r = (
  r.0 ∙ (append_assoc (stack_words before) (words_in v) (piece_words pieces) ∙ ap (λ us. stack_words before ++ (us ++ piece_words pieces)) is),
  r.1,
)

-- the last values become the parts of one
parts_read : (n : ℕ) (before : List Value) (pieces : List Piece) → suc n ≤ length before → Reads pieces (gathered (suc n) before Nil)
    → (stack_words (read_on pieces (gathered (suc n) before Nil)) ≡ stack_words before ++ piece_words pieces)
    × (length (read_on pieces (gathered (suc n) before Nil)) ≡ 1)
parts_read n [] pieces le r = absurd (omega (arith, le))
parts_read n (v ∷ before) pieces le r =
    let w : stack_words (gathered n before (More v Nil)) ≡ stack_words (v ∷ before)
    = gathered_words n before v Nil (omega (arith, le)) ∙ ap (λ us. stack_words before ++ us) (append-nil (words_in v)) in
    (r.0 ∙ ap (λ us. us ++ piece_words pieces) w, r.1)

-- so many values before, of which the last ones become one
abbrev Gathers : ℕ → List Piece → List Value → Type 0
Gathers n pieces before = (nat_le n (length before) && are_one pieces (suc (length before - n))) ≡ true

few_before : (n : ℕ) (pieces : List Piece) (before : List Value) → Gathers n pieces before → n ≤ length before
few_before n pieces before one = leb-true n (length before) (and_parts (nat_le n (length before)) _ one).0

gathered_one : (n : ℕ) (pieces : List Piece) (before : List Value) → Gathers n pieces before → are_one pieces (length (gathered n before Nil)) ≡ true
gathered_one n pieces before one =
    subst (λ k. are_one pieces k ≡ true) (sym (gathered_length n before Nil (few_before n pieces before one)))
    (and_parts (nat_le n (length before)) (are_one pieces (suc (length before - n))) one).1

read_words : (pieces : List Piece) (before : List Value) → has_links pieces ≡ false → are_one pieces (length before) ≡ true → Reads pieces before
read_words [] before plain one = (sym (append-nil (stack_words before)), eqb-true (length before) 1 one)
read_words (P.Ordinal z ∷ pieces) before plain one =
    more_read (Number z) pieces before (word z ∷ []) refl (read_words pieces (Number z ∷ before) plain one)
read_words (P.Text text ∷ pieces) before plain one = absurd (both_ways true plain refl)
read_words (P.Nil ∷ pieces) before plain one = more_read (Ref None) pieces before [] refl (read_words pieces (Ref None ∷ before) plain one)
read_words (P.Parts zero ∷ pieces) before plain one =
    more_read (Parts Nil) pieces before (0 ∷ []) refl (read_words pieces (Parts Nil ∷ before) plain (gathered_one 0 pieces before one))
read_words (P.Parts (suc n) ∷ pieces) before plain one =
    parts_read n before pieces (few_before (suc n) pieces before one)
    (read_words pieces (gathered (suc n) before Nil) plain (gathered_one (suc n) pieces before one))
read_words (P.Elements n ∷ pieces) before plain one = absurd (both_ways true plain refl)

pub words_are : (pieces : List Piece) → has_links pieces ≡ false → are_one pieces 0 ≡ true → piece_words pieces ≡ words_in (value_of pieces)
words_are pieces plain one = let r = read_words pieces [] plain one in sym r.0 ∙ by (read_on pieces []) r.1
  where
    by : (all : List Value) → length all ≡ 1 → stack_words all ≡ words_in (last_read all)
    by [] e = absurd (omega (arith, e))
    by (v ∷ []) e = refl
    by (v ∷ u ∷ all) e = absurd (omega (arith, e))
