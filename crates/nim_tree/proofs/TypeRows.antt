-- What a written type holds in rows, as the code has it, has the tree of its list.
use Rattle.std.proofs.Common.{◌≡◌, ℕ, List, Vec, refl, ap, ◌∙◌, Global}
use mathlib.Core.Former.{Count}
use Rattle.arc_base.specs.declared.place.Place.{Place}
use Rattle.nim_tree.specs.declared.types.Field.{Field}
use Rattle.nim_tree.specs.declared.types.TypeTree.{TypeTree}
use Rattle.nim_tree.specs.declared.types.TypeTree.TheBlock.{Row_of-TypeTree, end_of-TypeTree, more_of-TypeTree, items-the_row-TypeTree}
use Rattle.nim_tree.specs.declared.types.TypeTree.TheBlock.{items_hidden-the_row-TypeTree-0, Row_of-Field, end_of-Field, more_of-Field, items-the_row-Field}
use Rattle.nim_tree.specs.declared.types.TypeTree.TheBlock.{items_hidden-the_row-Field-1}
use Rattle.nim_tree.specs.declared.types.TypeTree.TheVariants as rust_type
use Rattle.nim_tree.specs.Types.{named, tuple_of, argument, fields, written_of, argument_row, arguments_of, field_row, fields_of, arguments_in, fields_in}

arguments_are : (n : Count) (row : Row_of-TypeTree n) → argument_row row ≡ arguments_of (items-the_row-TypeTree n row)
arguments_are n end_of-TypeTree = refl
arguments_are n (more_of-TypeTree first row) = ap (argument (written_of first)) (arguments_are _ row)

fields_are : (n : Count) (row : Row_of-Field n) → field_row row ≡ fields_of (items-the_row-Field n row)
fields_are n end_of-Field = refl
fields_are n (more_of-Field names of row) = ap (fields names.items (written_of of)) (fields_are _ row)

abbrev arguments_row : TypeTree → (n : Count) × Row_of-TypeTree n
arguments_row (rust_type.Named' _ _ _ row) = (_, row)
arguments_row _ = (_, end_of-TypeTree)

abbrev fields_row : TypeTree → (n : Count) × Row_of-Field n
fields_row (rust_type.Tuple' _ _ row) = (_, row)
fields_row _ = (_, end_of-Field)

pub named_type : (at : Place) (text : List ℕ) (arguments : Vec TypeTree Global) → written_of (rust_type.Named at text arguments) ≡ named at text
    (arguments_of arguments.items)
named_type at text arguments =
    let row = arguments_row (rust_type.Named at text arguments) in
    ap (named at text) (arguments_are row.0 row.1 ∙ ap arguments_of (items_hidden-the_row-TypeTree-0 arguments))

pub tuple_type : (at : Place) (inside : Vec Field Global) → written_of (rust_type.Tuple at inside) ≡ tuple_of at (fields_of inside.items)
tuple_type at inside =
    let row = fields_row (rust_type.Tuple at inside) in
    ap (tuple_of at) (fields_are row.0 row.1 ∙ ap fields_of (items_hidden-the_row-Field-1 inside))

pub arguments_inside : (tree : TypeTree) (at : Place) (text : List ℕ) (arguments : Vec TypeTree Global) → tree ≡ rust_type.Named at text arguments
    → arguments_in (written_of tree) ≡ arguments_of arguments.items
arguments_inside tree at text arguments e = ap (λ t. arguments_in (written_of t)) e ∙ ap arguments_in (named_type at text arguments)

pub fields_inside : (tree : TypeTree) (at : Place) (inside : Vec Field Global) → tree ≡ rust_type.Tuple at inside → fields_in (written_of tree)
    ≡ fields_of inside.items
fields_inside tree at inside e = ap (λ t. fields_in (written_of t)) e ∙ ap fields_in (tuple_type at inside)
