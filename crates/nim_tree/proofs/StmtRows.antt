-- What a statement holds in rows, as the code has it, has the tree of its list.
use Rattle.std.proofs.Common.{◌≡◌, Vec, refl, sym, ap, ap₂, ◌∙◌, inl, inr, Global}
use Rattle.std.specs.Prelude.{◌⊎◌}
use mathlib.Core.Former.{Count}
use Rattle.arc_base.specs.declared.place.Place.{Place}
use Rattle.nim_tree.specs.declared.expr.Expr.{Expr as RustExpr}
use Rattle.nim_tree.specs.declared.name.Name.{Name}
use Rattle.nim_tree.specs.declared.stmt.Over.{Over}
use Rattle.nim_tree.specs.declared.stmt.ProcHead.{ProcHead}
use Rattle.nim_tree.specs.declared.stmt.Branch.{Branch as RustBranch}
use Rattle.nim_tree.specs.declared.stmt.Handler.{Handler as RustHandler}
use Rattle.nim_tree.specs.declared.stmt.Stmt.{Stmt as RustStmt}
use Rattle.nim_tree.specs.declared.stmt.Stmt.TheBlock.{Row_of-Stmt, end_of-Stmt, more_of-Stmt, items-the_row-Stmt, items_hidden-the_row-Stmt-0}
use Rattle.nim_tree.specs.declared.stmt.Stmt.TheBlock.{items_shown-the_row-Stmt-0, Row_of-Branch, end_of-Branch, more_of-Branch, items-the_row-Branch}
use Rattle.nim_tree.specs.declared.stmt.Stmt.TheBlock.{items_hidden-the_row-Branch-1, Row_of-Handler, end_of-Handler, more_of-Handler, items-the_row-Handler}
use Rattle.nim_tree.specs.declared.stmt.Stmt.TheBlock.{items_hidden-the_row-Handler-2}
use Rattle.nim_tree.specs.declared.stmt.Stmt.TheVariants as rust_stmt
use Rattle.nim_tree.specs.Terms.{term_of, parts_of}
use Rattle.nim_tree.specs.Statements.{Statements, Branches, Handlers, branches, selects, repeats, counts, tries, defers, proclaims, then, branch, handler}
use Rattle.nim_tree.specs.Statements.{statement_of, row_of, statements_of, branch_row, branches_of, handler_row, handlers_of, course_of, head_of, body_in}
use Rattle.nim_tree.specs.Statements.{closing_in, branches_in, handlers_in}

rows_are : (n : Count) (row : Row_of-Stmt n) → row_of row ≡ statements_of (items-the_row-Stmt n row)
rows_are n end_of-Stmt = refl
rows_are n (more_of-Stmt first row) = ap (then (statement_of first)) (rows_are _ row)

branches_are : (n : Count) (row : Row_of-Branch n) → branch_row row ≡ branches_of (items-the_row-Branch n row)
branches_are n end_of-Branch = refl
branches_are n (more_of-Branch at tests p body row) = ap₂ (λ (block : Statements) (rest : Branches). branch at (parts_of tests.items) block rest)
    (rows_are _ body ∙ ap statements_of (sym (items_shown-the_row-Stmt-0 p body))) (branches_are _ row)

handlers_are : (n : Count) (row : Row_of-Handler n) → handler_row row ≡ handlers_of (items-the_row-Handler n row)
handlers_are n end_of-Handler = refl
handlers_are n (more_of-Handler at names binding p body row) = ap₂ (λ (block : Statements) (rest : Handlers). handler at names.items binding block rest)
    (rows_are _ body ∙ ap statements_of (sym (items_shown-the_row-Stmt-0 p body))) (handlers_are _ row)

-- ---- the rows of a statement

abbrev body_row : RustStmt → (n : Count) × Row_of-Stmt n
body_row (rust_stmt.While' _ _ _ row) = (_, row)
body_row (rust_stmt.For' _ _ _ _ row) = (_, row)
body_row (rust_stmt.Try' _ _ row _ _ _ _) = (_, row)
body_row (rust_stmt.Defer' _ _ row) = (_, row)
body_row (rust_stmt.Proc' _ _ _ row) = (_, row)
body_row _ = (_, end_of-Stmt)

abbrev closing_row : RustStmt → (n : Count) × Row_of-Stmt n
closing_row (rust_stmt.If' _ _ _ _ row) = (_, row)
closing_row (rust_stmt.Case' _ _ _ _ _ row) = (_, row)
closing_row (rust_stmt.Try' _ _ _ _ _ _ row) = (_, row)
closing_row _ = (_, end_of-Stmt)

abbrev branches_row : RustStmt → (n : Count) × Row_of-Branch n
branches_row (rust_stmt.If' _ _ row _ _) = (_, row)
branches_row (rust_stmt.Case' _ _ _ row _ _) = (_, row)
branches_row _ = (_, end_of-Branch)

abbrev handlers_row : RustStmt → (n : Count) × Row_of-Handler n
handlers_row (rust_stmt.Try' _ _ _ _ row _ _) = (_, row)
handlers_row _ = (_, end_of-Handler)

-- ---- the trees of statements with blocks

pub conditional : (at : Place) (all : Vec RustBranch Global) (otherwise : Vec RustStmt Global) → statement_of (rust_stmt.If at all otherwise) ≡ branches at
    (branches_of all.items) (statements_of otherwise.items)
conditional at all otherwise =
    let first = branches_row (rust_stmt.If at all otherwise) in
    let last = closing_row (rust_stmt.If at all otherwise) in
    ap₂ (branches at) (branches_are first.0 first.1 ∙ ap branches_of (items_hidden-the_row-Branch-1 all))
    (rows_are last.0 last.1 ∙ ap statements_of (items_hidden-the_row-Stmt-0 otherwise))

pub selected : (at : Place) (selector : RustExpr) (all : Vec RustBranch Global) (otherwise : Vec RustStmt Global)
    → statement_of (rust_stmt.Case at selector all otherwise) ≡ selects at (term_of selector) (branches_of all.items) (statements_of otherwise.items)
selected at selector all otherwise =
    let first = branches_row (rust_stmt.Case at selector all otherwise) in
    let last = closing_row (rust_stmt.Case at selector all otherwise) in
    ap₂ (selects at (term_of selector)) (branches_are first.0 first.1 ∙ ap branches_of (items_hidden-the_row-Branch-1 all))
    (rows_are last.0 last.1 ∙ ap statements_of (items_hidden-the_row-Stmt-0 otherwise))

pub repeated : (at : Place) (condition : RustExpr) (body : Vec RustStmt Global) → statement_of (rust_stmt.While at condition body)
    ≡ repeats at (term_of condition) (statements_of body.items)
repeated at condition body =
    let row = body_row (rust_stmt.While at condition body) in
    ap (repeats at (term_of condition)) (rows_are row.0 row.1 ∙ ap statements_of (items_hidden-the_row-Stmt-0 body))

pub counted : (at : Place) (variable : Name) (over : Over) (body : Vec RustStmt Global) → statement_of (rust_stmt.For at variable over body)
    ≡ counts at variable (course_of over) (statements_of body.items)
counted at variable over body =
    let row = body_row (rust_stmt.For at variable over body) in
    ap (counts at variable (course_of over)) (rows_are row.0 row.1 ∙ ap statements_of (items_hidden-the_row-Stmt-0 body))

pub tried : (at : Place) (body : Vec RustStmt Global) (all : Vec RustHandler Global) (finally : Vec RustStmt Global)
    → statement_of (rust_stmt.Try at body all finally) ≡ tries at (statements_of body.items) (handlers_of all.items) (statements_of finally.items)
tried at body all finally =
    let first = body_row (rust_stmt.Try at body all finally) in
    let middle = handlers_row (rust_stmt.Try at body all finally) in
    let last = closing_row (rust_stmt.Try at body all finally) in
    let front = ap₂ (λ (block : Statements) (handled : Handlers). tries at block handled (row_of last.1))
    (rows_are first.0 first.1 ∙ ap statements_of (items_hidden-the_row-Stmt-0 body))
    (handlers_are middle.0 middle.1 ∙ ap handlers_of (items_hidden-the_row-Handler-2 all)) in
    front ∙ ap (tries at (statements_of body.items) (handlers_of all.items)) (rows_are last.0 last.1 ∙ ap statements_of (items_hidden-the_row-Stmt-0 finally))

pub deferred : (at : Place) (body : Vec RustStmt Global) → statement_of (rust_stmt.Defer at body) ≡ defers at (statements_of body.items)
deferred at body =
    let row = body_row (rust_stmt.Defer at body) in
    ap (defers at) (rows_are row.0 row.1 ∙ ap statements_of (items_hidden-the_row-Stmt-0 body))

pub proclaimed : (at : Place) (head : ProcHead) (body : Vec RustStmt Global) → statement_of (rust_stmt.Proc at head body) ≡ proclaims at (head_of head)
    (statements_of body.items)
proclaimed at head body =
    let row = body_row (rust_stmt.Proc at head body) in
    ap (proclaims at (head_of head)) (rows_are row.0 row.1 ∙ ap statements_of (items_hidden-the_row-Stmt-0 body))

-- ---- what its blocks are

-- a statement with this block
abbrev pub WithBody : RustStmt → Vec RustStmt Global → Type 0
WithBody tree body =
    ((at : Place) × (condition : RustExpr) × (tree ≡ rust_stmt.While at condition body)) ⊎
    (((at : Place) × (variable : Name) × (over : Over) × (tree ≡ rust_stmt.For at variable over body)) ⊎
    (((at : Place) × (all : Vec RustHandler Global) × (finally : Vec RustStmt Global) × (tree ≡ rust_stmt.Try at body all finally)) ⊎
    (((at : Place) × (tree ≡ rust_stmt.Defer at body)) ⊎
    ((at : Place) × (head : ProcHead) × (tree ≡ rust_stmt.Proc at head body)))))

abbrev body_of_tree : RustStmt → Statements
body_of_tree tree = body_in (statement_of tree)

pub body_inside : (tree : RustStmt) (body : Vec RustStmt Global) → WithBody tree body → body_in (statement_of tree) ≡ statements_of body.items
body_inside tree body (inl (at, condition, e)) = ap body_of_tree e ∙ ap body_in (repeated at condition body)
body_inside tree body (inr (inl (at, variable, over, e))) = ap body_of_tree e ∙ ap body_in (counted at variable over body)
body_inside tree body (inr (inr (inl (at, all, finally, e)))) = ap body_of_tree e ∙ ap body_in (tried at body all finally)
body_inside tree body (inr (inr (inr (inl (at, e))))) = ap body_of_tree e ∙ ap body_in (deferred at body)
body_inside tree body (inr (inr (inr (inr (at, head, e))))) = ap body_of_tree e ∙ ap body_in (proclaimed at head body)

-- a statement with this block behind `else` or `finally`
abbrev pub WithClosing : RustStmt → Vec RustStmt Global → Type 0
WithClosing tree block =
    ((at : Place) × (all : Vec RustBranch Global) × (tree ≡ rust_stmt.If at all block)) ⊎
    (((at : Place) × (selector : RustExpr) × (all : Vec RustBranch Global) × (tree ≡ rust_stmt.Case at selector all block)) ⊎
    ((at : Place) × (body : Vec RustStmt Global) × (all : Vec RustHandler Global) × (tree ≡ rust_stmt.Try at body all block)))

abbrev closing_of_tree : RustStmt → Statements
closing_of_tree tree = closing_in (statement_of tree)

pub closing_inside : (tree : RustStmt) (block : Vec RustStmt Global) → WithClosing tree block → closing_in (statement_of tree) ≡ statements_of block.items
closing_inside tree block (inl (at, all, e)) = ap closing_of_tree e ∙ ap closing_in (conditional at all block)
closing_inside tree block (inr (inl (at, selector, all, e))) = ap closing_of_tree e ∙ ap closing_in (selected at selector all block)
closing_inside tree block (inr (inr (at, body, all, e))) = ap closing_of_tree e ∙ ap closing_in (tried at body all block)

-- a statement with these branches
abbrev pub WithBranches : RustStmt → Vec RustBranch Global → Type 0
WithBranches tree all =
    ((at : Place) × (otherwise : Vec RustStmt Global) × (tree ≡ rust_stmt.If at all otherwise)) ⊎
    ((at : Place) × (selector : RustExpr) × (otherwise : Vec RustStmt Global) × (tree ≡ rust_stmt.Case at selector all otherwise))

pub branches_inside : (tree : RustStmt) (all : Vec RustBranch Global) → WithBranches tree all → branches_in (statement_of tree) ≡ branches_of all.items
branches_inside tree all (inl (at, otherwise, e)) = ap (λ t. branches_in (statement_of t)) e ∙ ap branches_in (conditional at all otherwise)
branches_inside tree all (inr (at, selector, otherwise, e)) = ap (λ t. branches_in (statement_of t)) e ∙ ap branches_in (selected at selector all otherwise)

pub handlers_inside : (tree : RustStmt) (at : Place) (body : Vec RustStmt Global) (all : Vec RustHandler Global) (finally : Vec RustStmt Global)
    → tree ≡ rust_stmt.Try at body all finally → handlers_in (statement_of tree) ≡ handlers_of all.items
handlers_inside tree at body all finally e = ap (λ t. handlers_in (statement_of t)) e ∙ ap handlers_in (tried at body all finally)
