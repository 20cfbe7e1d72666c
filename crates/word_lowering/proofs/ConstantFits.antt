-- What fits of a line with a constant: its pieces are one value of the type's shape, and just those of this value.
use Rattle.std.proofs.Common.{◌≡◌, List, [], ◌∷◌, ◌++◌, ℕ, zero, suc, Bool, true, false, Option, Some, None, refl, sym, ap, ◌∙◌}
use Rattle.std.specs.Prelude.{◌&&◌, not}
use Rattle.std.proofs.lemmas.Bool.{and_from, and_parts}
use Rattle.nim_types.specs.Table.{facts_in, type_at, types_in}
use Rattle.nim_types.specs.Types.{Ty}
use Rattle.nim_program.specs.Kinds.{is_of}
use Rattle.nim_meaning.specs.Values.{Value, Number, Parts, Handle, Fixed, Ref, Resource, Gone, Vacant, Values, Nil, More, count}
use Rattle.flat_code.specs.declared.block.BlockLine.{BlockLine}
use Rattle.flat_code.specs.declared.line.Line.TheVariants as L
use Rattle.flat_code.specs.declared.line.Piece.{Piece}
use Rattle.flat_code.specs.declared.line.Piece.TheVariants as P
use Rattle.flat_code.specs.declared.line.UseAt.{UseAt}
use Rattle.flat_code.specs.Fits.{is_value}
use Rattle.flat_code.specs.Pieces.{are_one, has_links, is_linked, is_one_text, value_of}
use Rattle.flat_code.specs.PieceShapes.{all_by, each_by, has_pieces, pieces_by, same_pieces}
use Rattle.flat_code.specs.Shapes.{Shape, number, reference, block, elements, row, parts, resource, Shapes, no_shapes, shapes, has_shape, are_rows}
use Rattle.flat_code.specs.Shapes.{have_shapes, shape_of}
use Rattle.flat_code.proofs.ForCallers.{pieces_are}
use Rattle.word_code.specs.Memory.{Memory}
use Rattle.word_lowering.specs.Aliases.{text_in}
use Rattle.word_lowering.proofs.BlankShapes.{of_handles, all_of_handles}
use Rattle.word_lowering.proofs.Blocks.{Blocks, Stored}
use Rattle.word_lowering.proofs.ControlLines.{plain}
use Rattle.word_lowering.proofs.LineFits.{are_of}
use Rattle.word_lowering.proofs.LinkedWords.{is_made, all_made, value_made}
use Rattle.word_lowering.proofs.Lines.{Basis, IsGood, fits_here, starts}
use Rattle.word_lowering.proofs.Options.{none_some}
use Rattle.word_lowering.proofs.Related.{Both, body_of}
use Rattle.word_lowering.proofs.ShapeFacts.{never, of_numbers, all_of_numbers, fewer_numbers, values_of_numbers}
use Rattle.word_lowering.proofs.ValueFacts.{type_in}

pub record FitsShape (s : Shape) (pieces : List Piece) : Type 0 where
  pub one : are_one pieces 0 ≡ true
  pub has : has_pieces s pieces ≡ true
  pub shaped : has_shape (value_of pieces) s ≡ true
  pub pieces_are : pieces ≡ pieces_by (value_of pieces) s

-- with what else of the line fits
pub constant_fits : (s : Shape) (pieces : List Piece) (rest : Bool) → ((are_one pieces 0 && has_pieces s pieces) && rest) ≡ true
    → FitsShape s pieces × (rest ≡ true)
constant_fits s pieces rest h =
    let f = and_parts (are_one pieces 0 && has_pieces s pieces) rest h in
    let p = and_parts (are_one pieces 0) (has_pieces s pieces) f.0 in
    let q = and_parts (has_shape (value_of pieces) s) (same_pieces pieces (pieces_by (value_of pieces) s)) p.1 in
    (record { one = p.0; has = p.1; shaped = q.0; pieces_are = pieces_are pieces (pieces_by (value_of pieces) s) q.1 }, f.1)

-- of a line, whose temporary has the type
module _ (x : Basis) (g : Both) (rest : List BlockLine) (to : ℕ) (how : UseAt) (ty : ℕ) (pieces : List Piece)
    (y : IsGood x (starts g (plain (L.Constant to how ty pieces)) rest)) where
  abbrev of : Ty
  of = type_at (types_in x.table) ty

  abbrev gets : Bool
  gets = is_of (type_in x is_value (body_of g) to) (Some of)

  fits : FitsShape (shape_of (facts_in x.table) of) pieces × (gets ≡ true)
  fits = constant_fits (shape_of (facts_in x.table) of) pieces gets (fits_here x.table x.blocks (body_of g) (plain (L.Constant to how ty pieces)) rest y.stands)

  pub constant_shape : FitsShape (shape_of (facts_in x.table) of) pieces
  constant_shape = fits.0

  pub constant_typed : type_in x is_value (body_of g) to ≡ Some of
  constant_typed = let u = are_of (type_in x is_value (body_of g) to) (Some of) fits.1 in u.is ∙ sym u.is_other

-- ---- of numbers: no texts and no sequences

links_both : (ps qs : List Piece) → has_links ps ≡ false → has_links qs ≡ false → has_links (ps ++ qs) ≡ false
links_both [] qs a b = b
links_both (P.Ordinal z ∷ ps) qs a b = links_both ps qs a b
links_both (P.Text text ∷ ps) qs a b = never (sym a)
links_both (P.Nil ∷ ps) qs a b = links_both ps qs a b
links_both (P.Parts n ∷ ps) qs a b = links_both ps qs a b
links_both (P.Elements n ∷ ps) qs a b = never (sym a)

mutual
  plain_by : (v : Value) (s : Shape) → of_numbers s ≡ true → has_shape v s ≡ true → has_links (pieces_by v s) ≡ false
  plain_by (Number z) s o h = refl
  plain_by (Fixed text) s o h = absurd (values_of_numbers (Fixed text) s o h)
  plain_by (Parts vs) (row n s) o h = links_both (each_by vs s) (P.Parts (count vs) ∷ []) (plain_rows vs n s o h) refl
  plain_by (Parts vs) (parts ss) o h = links_both (all_by vs ss) (P.Parts (count vs) ∷ []) (plain_all vs ss o h) refl
  plain_by (Parts vs) (elements s) o h = never o
  plain_by (Parts vs) (number values) o h = refl
  plain_by (Parts vs) reference o h = refl
  plain_by (Parts vs) block o h = refl
  plain_by (Parts vs) (resource ss) o h = refl
  plain_by (Handle n k) s o h = refl
  plain_by (Ref object) s o h = refl
  plain_by (Resource vs i) s o h = refl
  plain_by (Gone v final) s o h = refl
  plain_by Vacant s o h = refl

  plain_rows : (vs : Values) (n : ℕ) (s : Shape) → of_numbers (row n s) ≡ true → are_rows vs n s ≡ true → has_links (each_by vs s) ≡ false
  plain_rows Nil n s o h = refl
  plain_rows (More v vs) zero s o h = never h
  plain_rows (More v vs) (suc n) s o h =
      let p = and_parts (has_shape v s) (are_rows vs n s) h in
      links_both (pieces_by v s) (each_by vs s) (plain_by v s o p.0) (plain_rows vs n s (fewer_numbers n s o) p.1)

  plain_all : (vs : Values) (ss : Shapes) → all_of_numbers ss ≡ true → have_shapes vs ss ≡ true → has_links (all_by vs ss) ≡ false
  plain_all Nil ss o h = refl
  plain_all (More v vs) no_shapes o h = never h
  plain_all (More v vs) (shapes s ss) o h =
      let p = and_parts (has_shape v s) (have_shapes vs ss) h in
      let q = and_parts (of_numbers s) (all_of_numbers ss) o in
      links_both (pieces_by v s) (all_by vs ss) (plain_by v s q.0 p.0) (plain_all vs ss q.1 p.1)

pub plain_pieces : (s : Shape) (pieces : List Piece) → of_numbers s ≡ true → FitsShape s pieces → has_links pieces ≡ false
plain_pieces s pieces numbers f = ap has_links f.pieces_are ∙ plain_by (value_of pieces) s numbers f.shaped

-- ---- of anything else: some

links_front : (ps qs : List Piece) → has_links ps ≡ true → has_links (ps ++ qs) ≡ true
links_front [] qs a = never a
links_front (P.Ordinal z ∷ ps) qs a = links_front ps qs a
links_front (P.Text text ∷ ps) qs a = refl
links_front (P.Nil ∷ ps) qs a = links_front ps qs a
links_front (P.Parts n ∷ ps) qs a = links_front ps qs a
links_front (P.Elements n ∷ ps) qs a = refl

links_behind : (ps qs : List Piece) → has_links qs ≡ true → has_links (ps ++ qs) ≡ true
links_behind [] qs b = b
links_behind (P.Ordinal z ∷ ps) qs b = links_behind ps qs b
links_behind (P.Text text ∷ ps) qs b = refl
links_behind (P.Nil ∷ ps) qs b = links_behind ps qs b
links_behind (P.Parts n ∷ ps) qs b = links_behind ps qs b
links_behind (P.Elements n ∷ ps) qs b = refl

mutual
  linked_by : (v : Value) (s : Shape) → of_numbers s ≡ false → of_handles s ≡ true → is_made v ≡ true → has_shape v s ≡ true → has_links (pieces_by v s) ≡ true
  linked_by v (number values) o f made h = never (sym o)
  linked_by v reference o f made h = never f
  linked_by v (resource ss) o f made h = never f
  linked_by (Fixed text) block o f made h = refl
  linked_by (Handle n k) block o f made h = never made
  linked_by (Parts vs) (elements s) o f made h = links_behind (each_by vs s) (P.Elements (count vs) ∷ []) refl
  linked_by (Handle n k) (elements s) o f made h = never made
  linked_by (Parts vs) (row zero s) o f made h = never (sym o)
  linked_by (Parts Nil) (row (suc n) s) o f made h = never h
  linked_by (Parts (More v vs)) (row (suc n) s) o f made h =
      links_front (each_by (More v vs) s) (P.Parts (count (More v vs)) ∷ [])
      (links_front (pieces_by v s) (each_by vs s)
      (linked_by v s o f (and_parts (is_made v) (all_made vs) made).0 (and_parts (has_shape v s) (are_rows vs n s) h).0))
  linked_by (Parts vs) (parts ss) o f made h = links_front (all_by vs ss) (P.Parts (count vs) ∷ []) (linked_all vs ss o f made h)
  linked_by v s o f made h = never h

  linked_all : (vs : Values) (ss : Shapes) → all_of_numbers ss ≡ false → all_of_handles ss ≡ true → all_made vs ≡ true → have_shapes vs ss ≡ true
      → has_links (all_by vs ss) ≡ true
  linked_all vs no_shapes o f made h = never (sym o)
  linked_all Nil (shapes s ss) o f made h = never h
  linked_all (More v vs) (shapes s ss) o f made h =
      let p = and_parts (has_shape v s) (have_shapes vs ss) h in
      let q = and_parts (is_made v) (all_made vs) made in
      let i = and_parts (of_handles s) (all_of_handles ss) f in
      by (of_numbers s) refl (λ e. links_front (pieces_by v s) (all_by vs ss) (linked_by v s e i.0 q.0 p.0))
      (λ e. links_behind (pieces_by v s) (all_by vs ss) (linked_all vs ss (sym (ap (λ b. b && all_of_numbers ss) e) ∙ o) i.1 q.1 p.1))
    where
      by : (b : Bool) → of_numbers s ≡ b → (of_numbers s ≡ false → has_links (pieces_by v s ++ all_by vs ss) ≡ true)
          → (of_numbers s ≡ true → has_links (pieces_by v s ++ all_by vs ss) ≡ true) → has_links (pieces_by v s ++ all_by vs ss) ≡ true
      by false e first others = first e
      by true e first others = others e

-- so what has none is of numbers
pub numbers_pieces : (s : Shape) (pieces : List Piece) → of_handles s ≡ true → has_links pieces ≡ false → FitsShape s pieces → of_numbers s ≡ true
numbers_pieces s pieces handles none f = by (of_numbers s) refl
  where
    by : (b : Bool) → of_numbers s ≡ b → of_numbers s ≡ true
    by true e = e
    by false e = never (sym none ∙ (ap has_links f.pieces_are ∙ linked_by (value_of pieces) s e handles (value_made pieces) f.shaped))

one_text : (pieces : List Piece) → text_in pieces ≡ None → is_one_text pieces ≡ false
one_text [] other = refl
one_text (P.Text text ∷ []) other = absurd (none_some text (sym other))
one_text (P.Text text ∷ p ∷ pieces) other = refl
one_text (P.Ordinal z ∷ pieces) other = refl
one_text (P.Nil ∷ pieces) other = refl
one_text (P.Parts n ∷ pieces) other = refl
one_text (P.Elements n ∷ pieces) other = refl

pub linked_pieces : (s : Shape) (pieces : List Piece) → of_numbers s ≡ false → of_handles s ≡ true → FitsShape s pieces → text_in pieces ≡ None
    → is_linked pieces ≡ true
linked_pieces s pieces others handles f other =
    and_from (not (is_one_text pieces)) (has_links pieces) (ap not (one_text pieces other))
    (ap has_links f.pieces_are ∙ linked_by (value_of pieces) s others handles (value_made pieces) f.shaped)

-- ---- what isn't one text

module _ (s : Shape) (pieces : List Piece) (f : FitsShape s pieces) (other : text_in pieces ≡ None) where
  pub no_text : (text : List ℕ) → value_of pieces ≡ Fixed text → ⊥
  no_text text e = none_some text (sym other ∙ ap text_in (f.pieces_are ∙ ap (λ v. pieces_by v s) e))

  pub no_block : s ≡ block → ⊥
  no_block e = by (value_of pieces) refl (ap (has_shape (value_of pieces)) (sym e) ∙ f.shaped)
    where
      ref_handle : (n : ℕ) (k : Option ℕ) → Ref None ≡ Handle n k → ⊥
      ref_handle n k e = cc

      by : (v : Value) → value_of pieces ≡ v → has_shape v block ≡ true → ⊥
      by (Fixed text) is h = no_text text is
      by (Handle n k) is h = ref_handle n k (sym (ap value_of (f.pieces_are ∙ ap (λ v. pieces_by v s) is)) ∙ is)
      by (Number z) is h = never h
      by (Parts vs) is h = never h
      by (Ref object) is h = never h
      by (Resource vs i) is h = never h
      by (Gone v final) is h = never h
      by Vacant is h = never h

-- what is stored by another shape is no text
pub no_text_stored : (StandsFixed : (place : ℕ) → List ℕ → Type 0) (d : Blocks) (m : Memory) (a : ℕ) (s : Shape) (text : List ℕ) → (s ≡ block → ⊥)
    → Stored StandsFixed d m a s (Fixed text) → ⊥
no_text_stored fixed d m a (number values) text other at = at
no_text_stored fixed d m a reference text other at = at
no_text_stored fixed d m a block text other at = other refl
no_text_stored fixed d m a (elements s) text other at = at
no_text_stored fixed d m a (row n s) text other at = at
no_text_stored fixed d m a (parts ss) text other at = at
no_text_stored fixed d m a (resource ss) text other at = at
