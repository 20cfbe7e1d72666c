-- Statements as the code has them: rows of statements and of branches are lists.
use Rattle.std.proofs.Common.{◌≡◌, List, ◌∷◌, Vec, Global, refl, sym, ap, ap₂, ◌∙◌}
use Rattle.std.specs.Prelude.{map, option_map}
use mathlib.Core.Former.{Count}
use Rattle.nim_types.specs.Types.{Ty}
use Rattle.nim_types.specs.Table.{type_at}
use Rattle.nim_program.specs.declared.expr.Node.{Node}
use Rattle.nim_program.specs.declared.expr.Operand.{Operand as RustOperand}
use Rattle.nim_program.specs.declared.stmt.Kind.{Kind as RustKind}
use Rattle.nim_program.specs.declared.stmt.Stmt.{Stmt as RustStmt}
use Rattle.nim_program.specs.declared.stmt.Stmt.TheVariants as S
use Rattle.nim_program.specs.declared.stmt.Stmt.TheBlock as B
use Rattle.nim_program.specs.declared.stmt.Branch.{Branch as RustBranch}
use Rattle.nim_program.specs.declared.stmt.CaseBranch.{CaseBranch as RustCaseBranch}
use Rattle.nim_program.specs.declared.stmt.Handler.{Handler as RustHandler}
use Rattle.nim_program.specs.Program as T
use Rattle.nim_program.specs.Program.{Stmts}
use Rattle.nim_program.specs.View.{expr_of, label_of, declared_of, kind_of, operand_before, operands_of, stmt_before, stmt_row, stmts_of}
use Rattle.nim_program.specs.View.{condition_blocks, branch_conditions, branch_row, branch_blocks, case_row, case_blocks, case_labels, branch_labels}
use Rattle.nim_program.specs.View.{handler_row, handlers_of}

module _ (ts : List Ty) where
  stmts_are : (n : Count) (row : B.Row_of-Stmt n) → stmt_row ts row ≡ stmts_of ts (B.items-the_row-Stmt n row)
  stmts_are n B.end_of-Stmt = refl
  stmts_are n (B.more_of-Stmt s row) = ap (stmt_before ts s) (stmts_are _ row)

  conditions_are : (n : Count) (row : B.Row_of-Branch n) → condition_blocks ts row ≡ branch_conditions ts (B.items-the_row-Branch n row)
  conditions_are n B.end_of-Branch = refl
  conditions_are n (B.more_of-Branch condition p body row) = ap (T.ByValue (expr_of ts condition)) (conditions_are _ row)

  branches_are : (n : Count) (row : B.Row_of-Branch n) (last : Stmts) → branch_row ts row last ≡ branch_blocks ts (B.items-the_row-Branch n row) last
  branches_are n B.end_of-Branch last = refl
  branches_are n (B.more_of-Branch condition p body row) last =
      ap₂ T.Block (stmts_are _ body ∙ ap (stmts_of ts) (sym (B.items_shown-the_row-Stmt-0 p body))) (branches_are _ row last)

  cases_are : (n : Count) (row : B.Row_of-CaseBranch n) (last : Stmts) → case_row ts row last ≡ case_blocks ts (B.items-the_row-CaseBranch n row) last
  cases_are n B.end_of-CaseBranch last = refl
  cases_are n (B.more_of-CaseBranch labels p body row) last =
      ap₂ T.Block (stmts_are _ body ∙ ap (stmts_of ts) (sym (B.items_shown-the_row-Stmt-0 p body))) (cases_are _ row last)

  labels_are : (n : Count) (row : B.Row_of-CaseBranch n) → case_labels row ≡ branch_labels (B.items-the_row-CaseBranch n row)
  labels_are n B.end_of-CaseBranch = refl
  labels_are n (B.more_of-CaseBranch labels p body row) = ap (λ ls. map label_of labels ∷ ls) (labels_are _ row)

  handlers_are : (n : Count) (row : B.Row_of-Handler n) → handler_row ts row ≡ handlers_of ts (B.items-the_row-Handler n row)
  handlers_are n B.end_of-Handler = refl
  handlers_are n (B.more_of-Handler types name p body row) =
      ap₂ (T.Handler (map (type_at ts) types) (option_map (declared_of ts) name))
      (stmts_are _ body ∙ ap (stmts_of ts) (sym (B.items_shown-the_row-Stmt-0 p body))) (handlers_are _ row)

  -- ---- the rows in a statement

  abbrev branch_items : RustStmt → (n : Count) × B.Row_of-Branch n
  branch_items (S.If' _ _ row _ _) = (_, row)
  branch_items _ = (_, B.end_of-Branch)

  abbrev case_items : RustStmt → (n : Count) × B.Row_of-CaseBranch n
  case_items (S.Case' _ _ _ row _ _) = (_, row)
  case_items _ = (_, B.end_of-CaseBranch)

  abbrev handler_items : RustStmt → (n : Count) × B.Row_of-Handler n
  handler_items (S.Try' _ _ _ _ row _ _) = (_, row)
  handler_items _ = (_, B.end_of-Handler)

  -- the block for all else, that of a loop, and what is done in any case
  abbrev last_items : RustStmt → (n : Count) × B.Row_of-Stmt n
  last_items (S.If' _ _ _ _ row) = (_, row)
  last_items (S.Case' _ _ _ _ _ row) = (_, row)
  last_items (S.Loop' _ _ _ _ row) = (_, row)
  last_items (S.Try' _ _ _ _ _ _ row) = (_, row)
  last_items (S.Defer' _ _ row) = (_, row)
  last_items _ = (_, B.end_of-Stmt)

  -- what is tried
  abbrev tried_items : RustStmt → (n : Count) × B.Row_of-Stmt n
  tried_items (S.Try' _ _ row _ _ _ _) = (_, row)
  tried_items _ = (_, B.end_of-Stmt)

  module _ (node : Node) (rest : Stmts) where
    pub decided : (branches : Vec RustBranch Global) (otherwise : Vec RustStmt Global) →
        stmt_before ts (S.If node branches otherwise) rest ≡
        T.Then
        (T.Select node T.ByConditions (branch_conditions ts branches.items) (branch_blocks ts branches.items (stmts_of ts otherwise.items)))
        rest
    decided branches otherwise =
        let first = branch_items (S.If node branches otherwise) in
        let last = last_items (S.If node branches otherwise) in
        let all = λ (xs : List RustBranch) (ys : Stmts). T.Then (T.Select node T.ByConditions (branch_conditions ts xs) (branch_blocks ts xs ys)) rest in
        ap₂ (λ tests blocks. T.Then (T.Select node T.ByConditions tests blocks) rest) (conditions_are first.0 first.1) (branches_are first.0 first.1 _)
        ∙ ap₂ all (B.items_hidden-the_row-Branch-1 branches) (stmts_are last.0 last.1 ∙ ap (stmts_of ts) (B.items_hidden-the_row-Stmt-0 otherwise))

    pub selected : (selector : RustOperand) (branches : Vec RustCaseBranch Global) (otherwise : Vec RustStmt Global) →
        stmt_before ts (S.Case node selector branches otherwise) rest ≡
        T.Then
        (T.Select node (T.ByLabels (branch_labels branches.items)) (operand_before ts selector T.NoArg)
        (case_blocks ts branches.items (stmts_of ts otherwise.items)))
        rest
    selected selector branches otherwise =
        let first = case_items (S.Case node selector branches otherwise) in
        let last = last_items (S.Case node selector branches otherwise) in
        let tests = operand_before ts selector T.NoArg in
        let all = λ (xs : List RustCaseBranch) (ys : Stmts). T.Then (T.Select node (T.ByLabels (branch_labels xs)) tests (case_blocks ts xs ys)) rest in
        ap₂ (λ labels blocks. T.Then (T.Select node (T.ByLabels labels) tests blocks) rest) (labels_are first.0 first.1) (cases_are first.0 first.1 _)
        ∙ ap₂ all (B.items_hidden-the_row-CaseBranch-2 branches) (stmts_are last.0 last.1 ∙ ap (stmts_of ts) (B.items_hidden-the_row-Stmt-0 otherwise))

    pub repeated : (kind : RustKind) (head : Vec RustOperand Global) (body : Vec RustStmt Global) →
        stmt_before ts (S.Loop node kind head body) rest ≡
        T.Then (T.Loop node (kind_of ts kind) (operands_of ts head.items) (stmts_of ts body.items)) rest
    repeated kind head body =
        let row = last_items (S.Loop node kind head body) in
        ap (λ block. T.Then (T.Loop node (kind_of ts kind) (operands_of ts head.items) block) rest)
        (stmts_are row.0 row.1 ∙ ap (stmts_of ts) (B.items_hidden-the_row-Stmt-0 body))

    pub tried : (body : Vec RustStmt Global) (handlers : Vec RustHandler Global) (last : Vec RustStmt Global) →
        stmt_before ts (S.Try node body handlers last) rest ≡
        T.Then (T.Try node (stmts_of ts body.items) (handlers_of ts handlers.items) (stmts_of ts last.items)) rest
    tried body handlers last =
        let first = tried_items (S.Try node body handlers last) in
        let second = handler_items (S.Try node body handlers last) in
        let third = last_items (S.Try node body handlers last) in
        ap₂ (λ block all. T.Then (T.Try node block all (stmt_row ts third.1)) rest)
        (stmts_are first.0 first.1 ∙ ap (stmts_of ts) (B.items_hidden-the_row-Stmt-0 body))
        (handlers_are second.0 second.1 ∙ ap (handlers_of ts) (B.items_hidden-the_row-Handler-3 handlers))
        ∙ ap (λ block. T.Then (T.Try node (stmts_of ts body.items) (handlers_of ts handlers.items) block) rest)
        (stmts_are third.0 third.1 ∙ ap (stmts_of ts) (B.items_hidden-the_row-Stmt-0 last))

    pub deferred : (last : Vec RustStmt Global) → stmt_before ts (S.Defer node last) rest ≡ T.Defer node (stmts_of ts last.items) rest
    deferred last =
        let row = last_items (S.Defer node last) in
        ap (λ block. T.Defer node block rest) (stmts_are row.0 row.1 ∙ ap (stmts_of ts) (B.items_hidden-the_row-Stmt-0 last))
