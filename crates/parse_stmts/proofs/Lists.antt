-- Lists with one more behind.
use Rattle.std.specs.Prelude.{Result, Ok, Err, IfOk}
use Rattle.std.proofs.Common.{◌≡◌, List, [], ◌∷◌, ◌++◌, refl, ap}
use Rattle.nim_tree.specs.declared.expr.Expr.{Expr}
use Rattle.nim_tree.specs.declared.stmt.Stmt.{Stmt}
use Rattle.nim_tree.specs.declared.stmt.Branch.{Branch}
use Rattle.nim_tree.specs.declared.stmt.Handler.{Handler}
use Rattle.nim_tree.specs.Terms.{part, and_part, term_of, parts_of}
use Rattle.nim_tree.specs.Statements.{then as next, and_statement, statement_of, statements_of, branch, and_branch, branches_of, handler, and_handler}
use Rattle.nim_tree.specs.Statements.{handlers_of}

pub one_more_part : (some : List Expr) (one : Expr) → parts_of (some ++ one ∷ []) ≡ and_part (parts_of some) (term_of one)
one_more_part [] one = refl
one_more_part (first ∷ rest) one = ap (part (term_of first)) (one_more_part rest one)

pub one_more_statement : (some : List Stmt) (one : Stmt) → statements_of (some ++ one ∷ []) ≡ and_statement (statements_of some) (statement_of one)
one_more_statement [] one = refl
one_more_statement (first ∷ rest) one = ap (next (statement_of first)) (one_more_statement rest one)

pub one_more_branch : (some : List Branch) (one : Branch) → branches_of (some ++ one ∷ []) ≡ and_branch (branches_of some) one.at (parts_of one.tests.items)
    (statements_of one.body.items)
one_more_branch [] one = refl
one_more_branch (first ∷ rest) one = ap (branch first.at (parts_of first.tests.items) (statements_of first.body.items)) (one_more_branch rest one)

pub one_more_handler : (some : List Handler) (one : Handler) → handlers_of (some ++ one ∷ []) ≡ and_handler (handlers_of some) one.at one.types.items
    one.binding (statements_of one.body.items)
one_more_handler [] one = refl
one_more_handler (first ∷ rest) one = ap (handler first.at first.types.items first.binding (statements_of first.body.items)) (one_more_handler rest one)

pub if_ok : {A E : Type 0} {P Q : A → Type 0} (r : Result A E) → ((a : A) → P a → Q a) → IfOk r P → IfOk r Q
if_ok (Ok a) f h = f a h
if_ok (Err e) f h = h
