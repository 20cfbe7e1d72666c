-- What an expression holds in rows, as the code has it, has the tree of its list.
use Rattle.std.proofs.Common.{◌≡◌, ℕ, List, Vec, Box, Option, refl, sym, ap, ap₂, ◌∙◌, inl, inr, Global}
use Rattle.std.specs.Prelude.{◌⊎◌, Some, None}
use mathlib.Core.Former.{Count}
use Rattle.arc_base.specs.declared.place.Place.{Place}
use Rattle.nim_tree.specs.declared.expr.Choice.{Choice as RustChoice}
use Rattle.nim_tree.specs.declared.expr.Expr.{Expr as RustExpr}
use Rattle.nim_tree.specs.declared.expr.Expr.TheBlock.{Row_of-Expr, end_of-Expr, more_of-Expr, items-the_row-Expr, items_hidden-the_row-Expr-0}
use Rattle.nim_tree.specs.declared.expr.Expr.TheBlock.{items_shown-the_row-Expr-0, Row_of-Choice, end_of-Choice, more_of-Choice, items-the_row-Choice}
use Rattle.nim_tree.specs.declared.expr.Expr.TheBlock.{items_hidden-the_row-Choice-1}
use Rattle.nim_tree.specs.declared.expr.Expr.TheVariants as rust_expr
use Rattle.nim_tree.specs.Terms.{Parts, Choices, term_of, row_of, parts_of, parts_in, branches_in, choices_in, choices_of, part, choice, tuple, array, sequence}
use Rattle.nim_tree.specs.Terms.{construct, call, index, if_term, case_term, case_else}

parts_are : (n : Count) (row : Row_of-Expr n) → row_of row ≡ parts_of (items-the_row-Expr n row)
parts_are n end_of-Expr = refl
parts_are n (more_of-Expr first row) = ap (part (term_of first)) (parts_are _ row)

abbrev row_in : RustExpr → (n : Count) × Row_of-Expr n
row_in (rust_expr.Tuple' _ _ row) = (_, row)
row_in (rust_expr.Array' _ _ row) = (_, row)
row_in (rust_expr.Sequence' _ _ row) = (_, row)
row_in (rust_expr.Construct' _ _ _ row) = (_, row)
row_in (rust_expr.Call' _ _ _ _ row) = (_, row)
row_in (rust_expr.Index' _ _ _ _ row) = (_, row)
row_in _ = (_, end_of-Expr)

pub tupled : (at : Place) (parts : Vec RustExpr Global) → term_of (rust_expr.Tuple at parts) ≡ tuple at (parts_of parts.items)
tupled at parts =
    let row = row_in (rust_expr.Tuple at parts) in
    ap (tuple at) (parts_are row.0 row.1 ∙ ap parts_of (items_hidden-the_row-Expr-0 parts))

pub listed : (at : Place) (parts : Vec RustExpr Global) → term_of (rust_expr.Array at parts) ≡ array at (parts_of parts.items)
listed at parts =
    let row = row_in (rust_expr.Array at parts) in
    ap (array at) (parts_are row.0 row.1 ∙ ap parts_of (items_hidden-the_row-Expr-0 parts))

pub sequenced : (at : Place) (parts : Vec RustExpr Global) → term_of (rust_expr.Sequence at parts) ≡ sequence at (parts_of parts.items)
sequenced at parts =
    let row = row_in (rust_expr.Sequence at parts) in
    ap (sequence at) (parts_are row.0 row.1 ∙ ap parts_of (items_hidden-the_row-Expr-0 parts))

pub constructed : (at : Place) (text : List ℕ) (parts : Vec RustExpr Global) → term_of (rust_expr.Construct at text parts) ≡ construct at text
    (parts_of parts.items)
constructed at text parts =
    let row = row_in (rust_expr.Construct at text parts) in
    ap (construct at text) (parts_are row.0 row.1 ∙ ap parts_of (items_hidden-the_row-Expr-0 parts))

pub called : (at : Place) (base : Box RustExpr Global) (parts : Vec RustExpr Global) → term_of (rust_expr.Call at base parts) ≡ call at (term_of base.value)
    (parts_of parts.items)
called at base parts =
    let row = row_in (rust_expr.Call at base parts) in
    ap (call at (term_of base.value)) (parts_are row.0 row.1 ∙ ap parts_of (items_hidden-the_row-Expr-0 parts))

pub indexed : (at : Place) (base : Box RustExpr Global) (parts : Vec RustExpr Global) → term_of (rust_expr.Index at base parts) ≡ index at (term_of base.value)
    (parts_of parts.items)
indexed at base parts =
    let row = row_in (rust_expr.Index at base parts) in
    ap (index at (term_of base.value)) (parts_are row.0 row.1 ∙ ap parts_of (items_hidden-the_row-Expr-0 parts))

-- ---- branches

choices_are : (n : Count) (row : Row_of-Choice n) → choices_in row ≡ choices_of (items-the_row-Choice n row)
choices_are n end_of-Choice = refl
choices_are n (more_of-Choice at p tests a row) = ap₂ (λ (all : Parts) (rest : Choices). choice at all (term_of a) rest)
    (parts_are _ tests ∙ ap parts_of (sym (items_shown-the_row-Expr-0 p tests))) (choices_are _ row)

abbrev choices_inside : RustExpr → (n : Count) × Row_of-Choice n
choices_inside (rust_expr.If' _ _ row _ _) = (_, row)
choices_inside (rust_expr.Case' _ _ _ _ row _) = (_, row)
choices_inside _ = (_, end_of-Choice)

pub chosen : (at : Place) (branches : Vec RustChoice Global) (otherwise : Box RustExpr Global) → term_of (rust_expr.If at branches otherwise)
    ≡ if_term at (choices_of branches.items) (term_of otherwise.value)
chosen at branches otherwise =
    let row = choices_inside (rust_expr.If at branches otherwise) in
    ap (λ all. if_term at all (term_of otherwise.value)) (choices_are row.0 row.1 ∙ ap choices_of (items_hidden-the_row-Choice-1 branches))

pub selected : (at : Place) (selector : Box RustExpr Global) (branches : Vec RustChoice Global) → term_of (rust_expr.Case at selector branches None)
    ≡ case_term at (term_of selector.value) (choices_of branches.items)
selected at selector branches =
    let row = choices_inside (rust_expr.Case at selector branches None) in
    ap (case_term at (term_of selector.value)) (choices_are row.0 row.1 ∙ ap choices_of (items_hidden-the_row-Choice-1 branches))

pub selected_else : (at : Place) (selector : Box RustExpr Global) (branches : Vec RustChoice Global) (otherwise : Box RustExpr Global)
    → term_of (rust_expr.Case at selector branches (Some otherwise)) ≡ case_else at (term_of selector.value) (choices_of branches.items)
    (term_of otherwise.value)
selected_else at selector branches otherwise =
    let row = choices_inside (rust_expr.Case at selector branches (Some otherwise)) in
    ap (λ all. case_else at (term_of selector.value) all (term_of otherwise.value))
    (choices_are row.0 row.1 ∙ ap choices_of (items_hidden-the_row-Choice-1 branches))

-- an expression with these branches
abbrev pub Branched : RustExpr → Vec RustChoice Global → Type 0
Branched tree branches =
    ((at : Place) × (otherwise : Box RustExpr Global) × (tree ≡ rust_expr.If at branches otherwise)) ⊎
    ((at : Place) × (selector : Box RustExpr Global) × (otherwise : Option (Box RustExpr Global)) × (tree ≡ rust_expr.Case at selector branches otherwise))

branches_of_case : (at : Place) (selector : Box RustExpr Global) (branches : Vec RustChoice Global) (otherwise : Option (Box RustExpr Global))
    → branches_in (term_of (rust_expr.Case at selector branches otherwise)) ≡ choices_of branches.items
branches_of_case at selector branches None = ap branches_in (selected at selector branches)
branches_of_case at selector branches (Some otherwise) = ap branches_in (selected_else at selector branches otherwise)

pub branches_inside : (tree : RustExpr) (branches : Vec RustChoice Global) → Branched tree branches → branches_in (term_of tree) ≡ choices_of branches.items
branches_inside tree branches (inl (at, otherwise, e)) = ap (λ t. branches_in (term_of t)) e ∙ ap branches_in (chosen at branches otherwise)
branches_inside tree branches (inr (at, selector, otherwise, e)) = ap (λ t. branches_in (term_of t)) e ∙ branches_of_case at selector branches otherwise

-- an expression with these parts
abbrev pub Brackets : RustExpr → Vec RustExpr Global → Type 0
Brackets tree parts =
    ((at : Place) × (tree ≡ rust_expr.Tuple at parts)) ⊎
    (((at : Place) × (tree ≡ rust_expr.Array at parts)) ⊎
    (((at : Place) × (tree ≡ rust_expr.Sequence at parts)) ⊎
    (((at : Place) × (text : List ℕ) × (tree ≡ rust_expr.Construct at text parts)) ⊎
    (((at : Place) × (base : Box RustExpr Global) × (tree ≡ rust_expr.Call at base parts)) ⊎
    ((at : Place) × (base : Box RustExpr Global) × (tree ≡ rust_expr.Index at base parts))))))

pub parts_inside : (tree : RustExpr) (parts : Vec RustExpr Global) → Brackets tree parts → parts_in (term_of tree) ≡ parts_of parts.items
parts_inside tree parts (inl (at, e)) = ap (λ t. parts_in (term_of t)) e ∙ ap parts_in (tupled at parts)
parts_inside tree parts (inr (inl (at, e))) = ap (λ t. parts_in (term_of t)) e ∙ ap parts_in (listed at parts)
parts_inside tree parts (inr (inr (inl (at, e)))) = ap (λ t. parts_in (term_of t)) e ∙ ap parts_in (sequenced at parts)
parts_inside tree parts (inr (inr (inr (inl (at, text, e))))) = ap (λ t. parts_in (term_of t)) e ∙ ap parts_in (constructed at text parts)
parts_inside tree parts (inr (inr (inr (inr (inl (at, base, e)))))) = ap (λ t. parts_in (term_of t)) e ∙ ap parts_in (called at base parts)
parts_inside tree parts (inr (inr (inr (inr (inr (at, base, e)))))) = ap (λ t. parts_in (term_of t)) e ∙ ap parts_in (indexed at base parts)
