-- Values of constants as the code has them: rows of values are lists.
use Rattle.std.proofs.Common.{◌≡◌, Vec, Global, refl, ap, ◌∙◌}
use mathlib.Core.Former.{Count}
use Rattle.nim_program.specs.declared.expr.Literal as B
use Rattle.nim_program.specs.declared.expr.Literal.{Literal as RustLiteral}
use Rattle.nim_program.specs.declared.expr.Literal.TheVariants as V
use Rattle.nim_program.specs.Program as T
use Rattle.nim_program.specs.View.{literal_of, literal_row, literals_of}

literals_are : (n : Count) (row : B.Row_of-Literal n) → literal_row row ≡ literals_of (B.items-the_row-Literal n row)
literals_are n B.end_of-Literal = refl
literals_are n (B.more_of-Literal first row) = ap (T.ALiteral (literal_of first)) (literals_are _ row)

abbrev literal_items : RustLiteral → (n : Count) × B.Row_of-Literal n
literal_items (V.Parts' _ row) = (_, row)
literal_items (V.Elements' _ row) = (_, row)
literal_items _ = (_, B.end_of-Literal)

pub parts_of : (all : Vec RustLiteral Global) → literal_of (V.Parts all) ≡ T.PartsOf (literals_of all.items)
parts_of all =
    let row = literal_items (V.Parts all) in
    ap T.PartsOf (literals_are row.0 row.1 ∙ ap literals_of (B.items_hidden-the_row-Literal-0 all))

pub elements_of : (all : Vec RustLiteral Global) → literal_of (V.Elements all) ≡ T.ElementsOf (literals_of all.items)
elements_of all =
    let row = literal_items (V.Elements all) in
    ap T.ElementsOf (literals_are row.0 row.1 ∙ ap literals_of (B.items_hidden-the_row-Literal-0 all))
