-- The pieces of a constant come to one value.
use Rattle.std.proofs.Common.{◌≡◌, ℕ, suc, ◌+◌, true, List, [], ◌∷◌, ◌++◌, refl, sym, ap, ap₂, ◌∙◌, arith, append_assoc, append-nil}
use Rattle.std.specs.Prelude.{◌&&◌, ◌-◌}
use Rattle.std.proofs.lemmas.Bool.{le-leb}
use Rattle.nim_program.specs.Program.{Literal, Number, Characters, NoObject, PartsOf, ElementsOf, Literals, NoLiteral, ALiteral}
use Rattle.flat_code.specs.declared.line.Piece.{Piece}
use Rattle.flat_code.specs.declared.line.Piece.TheVariants as P
use Rattle.flat_code.specs.Pieces.{are_one, count_of, pieces_of, pieces_of_all}

-- so many of those before become one
left : (n m before : ℕ) → m ≡ n + before → m - n ≡ before
left n m before e = omega (arith, e)

parts_one : (n m before : ℕ) (more : List Piece) → m ≡ n + before → are_one (P.Parts n ∷ more) m ≡ are_one more (suc before)
parts_one n m before more e = ap₂ (λ u k. u && are_one more (suc k)) (le-leb n m (omega (arith, e))) (left n m before e)

elements_one : (n m before : ℕ) (more : List Piece) → m ≡ n + before → are_one (P.Elements n ∷ more) m ≡ are_one more (suc before)
elements_one n m before more e = ap₂ (λ u k. u && are_one more (suc k)) (le-leb n m (omega (arith, e))) (left n m before e)

zero_front : (n : ℕ) → n ≡ 0 + n
zero_front n = omega arith

one_up : (n before : ℕ) → n + suc before ≡ suc n + before
one_up n before = omega arith

mutual
  one_piece : (l : Literal) (more : List Piece) (before : ℕ) → are_one (pieces_of l ++ more) before ≡ are_one more (suc before)
  one_piece (Number z) more before = refl
  one_piece (Characters text) more before = refl
  one_piece NoObject more before = refl
  one_piece (PartsOf all) more before =
      ap (λ ps. are_one ps before) (append_assoc (pieces_of_all all) (P.Parts (count_of all) ∷ []) more)
      ∙ all_pieces all (P.Parts (count_of all) ∷ more) before
      ∙ parts_one (count_of all) (count_of all + before) before more refl
  one_piece (ElementsOf all) more before =
      ap (λ ps. are_one ps before) (append_assoc (pieces_of_all all) (P.Elements (count_of all) ∷ []) more)
      ∙ all_pieces all (P.Elements (count_of all) ∷ more) before
      ∙ elements_one (count_of all) (count_of all + before) before more refl

  all_pieces : (all : Literals) (more : List Piece) (before : ℕ) → are_one (pieces_of_all all ++ more) before ≡ are_one more (count_of all + before)
  all_pieces NoLiteral more before = ap (are_one more) (zero_front before)
  all_pieces (ALiteral first rest) more before =
      ap (λ ps. are_one ps before) (append_assoc (pieces_of first) (pieces_of_all rest) more) ∙ one_piece first (pieces_of_all rest ++ more) before
      ∙ all_pieces rest more (suc before) ∙ ap (are_one more) (one_up (count_of rest) before)

pub is_one : (l : Literal) → are_one (pieces_of l) 0 ≡ true
is_one l = ap (λ ps. are_one ps 0) (sym (append-nil (pieces_of l))) ∙ one_piece l [] 0
