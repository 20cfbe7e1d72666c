-- The pieces of a value by its shape: behind the elements of a sequence stands `Elements`, and behind the parts of anything else `Parts`.
use Rattle.std.specs.Ordering.{int_eq}
use Rattle.std.specs.Prelude.{nat_eq, Bool, true, false, ◌&&◌, List, [], ◌∷◌, ◌++◌}
use Rattle.nim_types.specs.Types.{same_text}
use Rattle.nim_meaning.specs.Values.{Value, Number, Parts, Fixed, Values, Nil, More, count}
use Rattle.flat_code.specs.declared.line.Piece.{Piece}
use Rattle.flat_code.specs.declared.line.Piece.TheVariants as P
use Rattle.flat_code.specs.Pieces.{value_of}
use Rattle.flat_code.specs.Shapes.{Shape, elements, row, parts, Shapes, shapes, has_shape}

abbrev mutual
  pub pieces_by : Value → Shape → List Piece
  pieces_by (Number z) s = P.Ordinal z ∷ []
  pieces_by (Fixed text) s = P.Text text ∷ []
  pieces_by (Parts vs) (elements s) = each_by vs s ++ P.Elements (count vs) ∷ []
  pieces_by (Parts vs) (row n s) = each_by vs s ++ P.Parts (count vs) ∷ []
  pieces_by (Parts vs) (parts ss) = all_by vs ss ++ P.Parts (count vs) ∷ []
  pieces_by v s = P.Nil ∷ []

  pub each_by : Values → Shape → List Piece
  each_by Nil s = []
  each_by (More v vs) s = pieces_by v s ++ each_by vs s

  pub all_by : Values → Shapes → List Piece
  all_by (More v vs) (shapes s ss) = pieces_by v s ++ all_by vs ss
  all_by vs ss = []

abbrev pub same_piece : Piece → Piece → Bool
same_piece (P.Ordinal z) (P.Ordinal w) = int_eq z w
same_piece (P.Text text) (P.Text other) = same_text text other
same_piece P.Nil P.Nil = true
same_piece (P.Parts n) (P.Parts m) = nat_eq n m
same_piece (P.Elements n) (P.Elements m) = nat_eq n m
same_piece p q = false

abbrev pub same_pieces : List Piece → List Piece → Bool
same_pieces [] [] = true
same_pieces (p ∷ ps) (q ∷ qs) = same_piece p q && same_pieces ps qs
same_pieces ps qs = false

-- pieces whose value is of a shape, and which are that value's
abbrev pub has_pieces : Shape → List Piece → Bool
has_pieces s pieces = has_shape (value_of pieces) s && same_pieces pieces (pieces_by (value_of pieces) s)
