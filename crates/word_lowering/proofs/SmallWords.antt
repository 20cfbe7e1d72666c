-- The words of values have 32 bits.
use Rattle.std.proofs.Common.{◌≡◌, ℕ, zero, suc, ◌^◌, ◌<◌, List, [], ◌∷◌, ◌++◌, true, arith}
use Rattle.std.proofs.lemmas.Bool.{and_parts}
use Rattle.nim_meaning.specs.Values.{Value, Number, Parts, Handle, Fixed, Ref, Resource, Gone, Vacant, Values, Nil, More}
use Rattle.flat_code.specs.Shapes.{Shape, number, reference, block, elements, row, parts, resource, Shapes, no_shapes, shapes, has_shape, are_rows, have_shapes}
use Rattle.word_lowering.proofs.Arithmetic.{word_small}
use Rattle.word_lowering.proofs.LineFits.{number_fits}
use Rattle.word_lowering.proofs.PieceWords.{words_in, all_words}
use Rattle.word_lowering.proofs.ShapeFacts.{never, of_numbers, all_of_numbers, fewer_numbers}

-- words of 32 bits
abbrev pub AllSmall : List ℕ → Type 0
AllSmall [] = Unit {0}
AllSmall (w ∷ ws) = (w < 2 ^ 32) × AllSmall ws

pub small_both : (ws us : List ℕ) → AllSmall ws → AllSmall us → AllSmall (ws ++ us)
small_both [] us a b = b
small_both (w ∷ ws) us a b = (a.0, small_both ws us a.1 b)

mutual
  pub small_words : (v : Value) (s : Shape) → of_numbers s ≡ true → has_shape v s ≡ true → AllSmall (words_in v)
  small_words (Number z) s o h = (word_small z (number_fits (Number z) s h), tt)
  small_words (Parts Nil) s o h = (omega arith, tt)
  small_words (Parts (More v vs)) (number values) o h = never h
  small_words (Parts (More v vs)) reference o h = never o
  small_words (Parts (More v vs)) block o h = never o
  small_words (Parts (More v vs)) (elements s) o h = never o
  small_words (Parts (More v vs)) (resource ss) o h = never o
  small_words (Parts (More v vs)) (row n s) o h = small_rows (More v vs) n s o h
  small_words (Parts (More v vs)) (parts ss) o h = small_parts (More v vs) ss o h
  small_words (Handle n k) s o h = tt
  small_words (Fixed text) s o h = tt
  small_words (Ref object) s o h = tt
  small_words (Resource vs i) s o h = tt
  small_words (Gone v final) s o h = tt
  small_words Vacant s o h = tt

  small_rows : (vs : Values) (n : ℕ) (s : Shape) → of_numbers (row n s) ≡ true → are_rows vs n s ≡ true → AllSmall (all_words vs)
  small_rows Nil n s o h = tt
  small_rows (More v vs) zero s o h = never h
  small_rows (More v vs) (suc n) s o h =
      let p = and_parts (has_shape v s) (are_rows vs n s) h in
      small_both (words_in v) (all_words vs) (small_words v s o p.0) (small_rows vs n s (fewer_numbers n s o) p.1)

  small_parts : (vs : Values) (ss : Shapes) → all_of_numbers ss ≡ true → have_shapes vs ss ≡ true → AllSmall (all_words vs)
  small_parts Nil ss o h = tt
  small_parts (More v vs) no_shapes o h = never h
  small_parts (More v vs) (shapes s ss) o h =
      let p = and_parts (has_shape v s) (have_shapes vs ss) h in
      let q = and_parts (of_numbers s) (all_of_numbers ss) o in
      small_both (words_in v) (all_words vs) (small_words v s q.0 p.0) (small_parts vs ss q.1 p.1)
