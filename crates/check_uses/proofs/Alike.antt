-- What occurs in trees doesn't depend on their types.
use Rattle.std.proofs.Common.{◌≡◌, ℕ, zero, suc, List, [], ◌∷◌, ◌++◌, length, refl, sym, ap, ap₂, ◌∙◌, map, Option, Some, None}
use Rattle.std.specs.Prelude.{Bool, true, not, ◌||◌, ◌&&◌, nat_eq, if◌then◌else◌, option_map, slice_get, take, drop}
use Rattle.std.proofs.lemmas.Option.{slice_get-map}
use Rattle.arc_base.specs.Refusal.{and_then}
use Rattle.nim_types.specs.Types.{Ty}
use Rattle.nim_program.specs.declared.expr.Expr.{Expr as RustExpr}
use Rattle.nim_program.specs.declared.expr.Expr.TheVariants as E
use Rattle.nim_program.specs.declared.expr.Expr.TheBlock as B
use Rattle.nim_program.specs.declared.expr.Path.{Path as RustPath}
use Rattle.nim_program.specs.declared.expr.Path.TheVariants as P
use Rattle.nim_program.specs.declared.expr.Operand.{Operand as RustOperand}
use Rattle.nim_program.specs.declared.expr.Operand.TheVariants as operand
use Rattle.nim_program.specs.declared.stmt.Stmt.{Stmt as RustStmt}
use Rattle.nim_program.specs.declared.stmt.Stmt.TheVariants as S
use Rattle.nim_program.specs.declared.stmt.Stmt.TheBlock as K
use Rattle.nim_program.specs.declared.program.Body.{Body as RustBody}
use Rattle.nim_program.specs.declared.program.Proc.{Proc as RustProc}
use Rattle.nim_program.specs.Program.{Args, NoArg, Stmts, Proc}
use Rattle.nim_program.specs.View.{expr_of, else_of, path_of, operand_before, operand_row, operands_of, choice_row, pick_row, if_value}
use Rattle.nim_program.specs.View.{stmt_before, stmt_row, stmts_of, condition_blocks, branch_row, case_row, handler_row, body_of, proc_of}
use Rattle.decl_rules.specs.Occurrences.{Occurrence, global, calls, hands, global_root, hands_if, hands_by, in_expr, in_path, in_args, in_each}
use Rattle.decl_rules.specs.Occurrences.{in_block, in_blocks, in_handlers}
use Rattle.decl_rules.specs.Turns.{in_turn, joined}
use Rattle.decl_rules.specs.Whole.{in_body, in_proc, occurring, is_named, names_within, names, unless_named, occurrence_rule, occurrences_rule}
use Rattle.decl_rules.specs.Whole.{declares_any, comes_in_time, if_in_time, item_rule, text_rule}
use Rattle.check_uses.specs.declared.text.Item.{Item as RustItem}
use Rattle.check_uses.specs.declared.text.Item.TheVariants as item
use Rattle.check_uses.specs.View.{block_of, block_at, item_of, items_of}

abbrev both : List Occurrence → List Occurrence → List Occurrence
both a b = a ++ b

and_both : {a b x y : List Occurrence} → a ≡ x → b ≡ y → (a ++ b) ≡ (x ++ y)
and_both e f = ap₂ both e f

module _ (ts : List Ty) where
  root_alike : (path : RustPath) → global_root (path_of ts path) ≡ global_root (path_of [] path)
  root_alike (P.Variable node ty place is_global) = refl
  root_alike (P.Fresh' p value) = refl
  root_alike (P.Field' node ty p base field) = root_alike base
  root_alike (P.Element' node ty p base q index constant) = root_alike base
  root_alike (P.Deref' ty p base) = refl

  hands_alike : (callee : Option ℕ) (path : RustPath) → hands_by callee (path_of ts path) ≡ hands_by callee (path_of [] path)
  hands_alike None path = refl
  hands_alike (Some proc) (P.Variable node ty place is_global) = refl
  hands_alike (Some proc) (P.Fresh' p value) = refl
  hands_alike (Some proc) (P.Field' node ty p base field) = ap (hands_if proc node.at) (root_alike base)
  hands_alike (Some proc) (P.Element' node ty p base q index constant) = ap (hands_if proc node.at) (root_alike base)
  hands_alike (Some proc) (P.Deref' ty p base) = refl

  mutual
    expr_alike : (e : RustExpr) → in_expr (expr_of ts e) ≡ in_expr (expr_of [] e)
    expr_alike (E.Apply' node ty operation p operands) = row_alike None operands
    expr_alike (E.Call' node ty proc types p operands) = ap (λ os. calls proc ∷ os) (row_alike (Some proc) operands)
    expr_alike (E.Construct' node ty fields p operands) = row_alike None operands
    expr_alike (E.Constant node ty value) = refl
    expr_alike (E.Read path) = path_alike path
    expr_alike (E.Early' node ty short p left q right) = and_both (expr_alike left) (expr_alike right)
    expr_alike (E.If' node ty p branches q otherwise) = choices_alike branches _ _ (ap (λ os. os ++ []) (expr_alike otherwise))
    expr_alike (E.Case' node ty p selector q branches otherwise) =
        operand_alike None selector _ _ (picks_alike branches _ _ (else_alike otherwise))

    else_alike : (other : B.Held-Expr-Case-4) → in_args None (else_of ts other) ≡ in_args None (else_of [] other)
    else_alike B.None' = refl
    else_alike (B.Some' p value) = ap (λ os. os ++ []) (expr_alike value)

    path_alike : (path : RustPath) → in_path (path_of ts path) ≡ in_path (path_of [] path)
    path_alike (P.Variable node ty place is_global) = refl
    path_alike (P.Fresh' p value) = expr_alike value
    path_alike (P.Field' node ty p base field) = path_alike base
    path_alike (P.Element' node ty p base q index constant) = and_both (path_alike base) (expr_alike index)
    path_alike (P.Deref' ty p base) = path_alike base

    operand_alike : (callee : Option ℕ) (a : RustOperand) (x y : Args) → in_args callee x ≡ in_args callee y →
        in_args callee (operand_before ts a x) ≡ in_args callee (operand_before [] a y)
    operand_alike callee (operand.Value value) x y e = and_both (expr_alike value) e
    operand_alike callee (operand.At path) x y e = and_both (path_alike path) (and_both (hands_alike callee path) e)

    row_alike : (callee : Option ℕ) {m : _} (row : B.Row_of-Operand m) → in_args callee (operand_row ts row) ≡ in_args callee (operand_row [] row)
    row_alike callee B.end_of-Operand = refl
    row_alike callee (B.more_of-Operand first row) = operand_alike callee first (operand_row ts row) (operand_row [] row) (row_alike callee row)

    choices_alike : {m : _} (row : B.Row_of-Choice m) (x y : Args) → in_args None x ≡ in_args None y →
        in_args None (choice_row ts row x) ≡ in_args None (choice_row [] row y)
    choices_alike B.end_of-Choice x y e = e
    choices_alike (B.more_of-Choice condition value row) x y e =
        and_both (expr_alike condition) (and_both (expr_alike value) (choices_alike row x y e))

    picks_alike : {m : _} (row : B.Row_of-Pick m) (x y : Args) → in_args None x ≡ in_args None y →
        in_args None (pick_row ts row x) ≡ in_args None (pick_row [] row y)
    picks_alike B.end_of-Pick x y e = e
    picks_alike (B.more_of-Pick labels value row) x y e = and_both (expr_alike value) (picks_alike row x y e)

  operands_alike : (all : List RustOperand) → in_args None (operands_of ts all) ≡ in_args None (operands_of [] all)
  operands_alike [] = refl
  operands_alike (a ∷ all) = operand_alike None a (operands_of ts all) (operands_of [] all) (operands_alike all)

  value_alike : (value : Option RustExpr) → in_args None (if_value ts value) ≡ in_args None (if_value [] value)
  value_alike None = refl
  value_alike (Some value) = ap (λ os. os ++ []) (expr_alike value)

  -- ---- statements

  test_alike : (selector : RustOperand) → in_each (operand_before ts selector NoArg) ≡ in_each (operand_before [] selector NoArg)
  test_alike (operand.Value value) = ap (λ os. os ∷ []) (expr_alike value)
  test_alike (operand.At path) = ap (λ os. os ∷ []) (path_alike path)

  mutual
    stmt_alike : (s : RustStmt) (x y : Stmts) → in_block x ≡ in_block y → in_block (stmt_before ts s x) ≡ in_block (stmt_before [] s y)
    stmt_alike (S.Do value) x y e = and_both (expr_alike value) e
    stmt_alike (S.Idle node parts) x y e = and_both (operands_alike parts.items) e
    stmt_alike (S.Give node back value) x y e = and_both (expr_alike value) e
    stmt_alike (S.Leave node leaving parts) x y e = and_both (operands_alike parts.items) e
    stmt_alike (S.Declare node place cursor value) x y e = and_both (value_alike value) e
    stmt_alike (S.If' node p branches q otherwise) x y e =
        and_both (ap₂ (λ tests blocks. joined (in_turn tests blocks)) (conditions_alike branches) (branches_alike branches _ _ (block_row_alike otherwise))) e
    stmt_alike (S.Case' node selector p branches q otherwise) x y e =
        and_both (ap₂ (λ tests blocks. joined (in_turn tests blocks)) (test_alike selector) (arms_alike branches _ _ (block_row_alike otherwise))) e
    stmt_alike (S.Loop' node kind head p body) x y e = and_both (and_both (operands_alike head.items) (block_row_alike body)) e
    stmt_alike (S.Raise node exception message) x y e = and_both (value_alike message) e
    stmt_alike (S.Try' node p body q handlers r last) x y e =
        and_both (and_both (block_row_alike body) (and_both (handlers_alike handlers) (block_row_alike last))) e
    stmt_alike (S.Defer' node p last) x y e = and_both (block_row_alike last) e

    block_row_alike : {m : _} (row : K.Row_of-Stmt m) → in_block (stmt_row ts row) ≡ in_block (stmt_row [] row)
    block_row_alike K.end_of-Stmt = refl
    block_row_alike (K.more_of-Stmt first row) = stmt_alike first (stmt_row ts row) (stmt_row [] row) (block_row_alike row)

    conditions_alike : {m : _} (row : K.Row_of-Branch m) → in_each (condition_blocks ts row) ≡ in_each (condition_blocks [] row)
    conditions_alike K.end_of-Branch = refl
    conditions_alike (K.more_of-Branch condition p body row) = ap₂ (λ a all. a ∷ all) (expr_alike condition) (conditions_alike row)

    branches_alike : {m : _} (row : K.Row_of-Branch m) (x y : Stmts) → in_block x ≡ in_block y →
        in_blocks (branch_row ts row x) ≡ in_blocks (branch_row [] row y)
    branches_alike K.end_of-Branch x y e = ap (λ a. a ∷ []) e
    branches_alike (K.more_of-Branch condition p body row) x y e = ap₂ (λ a all. a ∷ all) (block_row_alike body) (branches_alike row x y e)

    arms_alike : {m : _} (row : K.Row_of-CaseBranch m) (x y : Stmts) → in_block x ≡ in_block y →
        in_blocks (case_row ts row x) ≡ in_blocks (case_row [] row y)
    arms_alike K.end_of-CaseBranch x y e = ap (λ a. a ∷ []) e
    arms_alike (K.more_of-CaseBranch labels p body row) x y e = ap₂ (λ a all. a ∷ all) (block_row_alike body) (arms_alike row x y e)

    handlers_alike : {m : _} (row : K.Row_of-Handler m) → in_handlers (handler_row ts row) ≡ in_handlers (handler_row [] row)
    handlers_alike K.end_of-Handler = refl
    handlers_alike (K.more_of-Handler types name p body row) = and_both (block_row_alike body) (handlers_alike row)

  block_alike : (stmts : List RustStmt) → in_block (stmts_of ts stmts) ≡ in_block (stmts_of [] stmts)
  block_alike [] = refl
  block_alike (s ∷ rest) = stmt_alike s (stmts_of ts rest) (stmts_of [] rest) (block_alike rest)

  declare_alike : (s : RustStmt) (x y : Stmts) → declares_any x ≡ declares_any y →
      declares_any (stmt_before ts s x) ≡ declares_any (stmt_before [] s y)
  declare_alike (S.Do value) x y e = e
  declare_alike (S.Idle node parts) x y e = e
  declare_alike (S.Give node back value) x y e = e
  declare_alike (S.Leave node leaving parts) x y e = e
  declare_alike (S.Declare node place cursor value) x y e = refl
  declare_alike (S.If' node p branches q otherwise) x y e = e
  declare_alike (S.Case' node selector p branches q otherwise) x y e = e
  declare_alike (S.Loop' node kind head p body) x y e = e
  declare_alike (S.Raise node exception message) x y e = e
  declare_alike (S.Try' node p body q handlers r last) x y e = e
  declare_alike (S.Defer' node p last) x y e = e

  declares_alike : (stmts : List RustStmt) → declares_any (stmts_of ts stmts) ≡ declares_any (stmts_of [] stmts)
  declares_alike [] = refl
  declares_alike (s ∷ rest) = declare_alike s (stmts_of ts rest) (stmts_of [] rest) (declares_alike rest)

  -- ---- procedures

  body_alike : (body : Option RustBody) → in_body (option_map (body_of ts) body) ≡ in_body (option_map (body_of []) body)
  body_alike None = refl
  body_alike (Some body) = block_alike body.stmts.items

  proc_alike : (found : Option RustProc) → in_proc (option_map (proc_of ts) found) ≡ in_proc (option_map (proc_of []) found)
  proc_alike None = refl
  proc_alike (Some p) = body_alike p.body

  block_at_alike : (found : Option RustProc) → in_block (block_at ts found) ≡ in_block (block_at [] found)
  block_at_alike None = refl
  block_at_alike (Some p) = by_body p.body
    where
      by_body : (body : Option RustBody) → in_block (block_of ts body) ≡ in_block (block_of [] body)
      by_body None = refl
      by_body (Some body) = block_alike body.stmts.items

  module _ (procs : List RustProc) where
    abbrev those : List Proc
    those = map (proc_of ts) procs

    abbrev these : List Proc
    these = map (proc_of []) procs

    occurring_alike : (p : ℕ) → occurring those p ≡ occurring these p
    occurring_alike p =
        ap in_proc (slice_get-map (proc_of ts) procs p) ∙ proc_alike (slice_get procs p) ∙ ap in_proc (sym (slice_get-map (proc_of []) procs p))

    named_alike : (g : ℕ) (f h : ℕ → Bool) (os : List Occurrence) → ((q : ℕ) → f q ≡ h q) → is_named g f os ≡ is_named g h os
    named_alike g f h [] e = refl
    named_alike g f h (global place ∷ rest) e = ap (λ b. if nat_eq g place then true else b) (named_alike g f h rest e)
    named_alike g f h (calls p ∷ rest) e = ap₂ (λ a b. if a then true else b) (e p) (named_alike g f h rest e)
    named_alike g f h (hands p at place ∷ rest) e = named_alike g f h rest e

    within_alike : (n g p : ℕ) → names_within n those g p ≡ names_within n these g p
    within_alike zero g p = refl
    within_alike (suc n) g p = ap (is_named g (names_within n those g)) (occurring_alike p) ∙
        named_alike g (names_within n those g) (names_within n these g) (occurring these p) (within_alike n g)

    names_alike : (g p : ℕ) → names those g p ≡ names these g p
    names_alike g p = ap (λ n. names_within n those g p) (lengths procs) ∙ within_alike (length these) g p
      where
        lengths : (all : List RustProc) → length (map (proc_of ts) all) ≡ length (map (proc_of []) all)
        lengths [] = refl
        lengths (q ∷ rest) = ap suc (lengths rest)

    use_alike : (o : Occurrence) → occurrence_rule those o ≡ occurrence_rule these o
    use_alike (global place) = refl
    use_alike (calls p) = refl
    use_alike (hands p at g) = ap (λ b. unless_named b at) (names_alike g p)

    uses_alike : (os : List Occurrence) → occurrences_rule those os ≡ occurrences_rule these os
    uses_alike [] = refl
    uses_alike (o ∷ rest) = ap₂ (λ a b. and_then a (λ _. b)) (use_alike o) (uses_alike rest)

    -- ---- the text

    module _ (start : List RustStmt) where
      time_alike : (p : ℕ) (text : List RustItem) → comes_in_time p (items_of ts procs start text) ≡ comes_in_time p (items_of [] procs start text)
      time_alike p [] = refl
      time_alike p (item.Announces q at ∷ rest) = time_alike p rest
      time_alike p (item.Completes q ∷ rest) = ap (λ b. nat_eq p q || b) (time_alike p rest)
      time_alike p (item.Code first count ∷ rest) =
          ap₂ (λ a b. not a && b) (declares_alike (take count (drop first start))) (time_alike p rest)

      item_alike : (i : RustItem) (rest : List RustItem) → item_rule those (item_of ts procs start i) (items_of ts procs start rest) ≡
          item_rule these (item_of [] procs start i) (items_of [] procs start rest)
      item_alike (item.Announces p at) rest = ap (λ b. if_in_time b at) (time_alike p rest)
      item_alike (item.Completes p) rest = ap (occurrences_rule those) (block_at_alike (slice_get procs p)) ∙
          uses_alike (in_block (block_at [] (slice_get procs p)))
      item_alike (item.Code first count) rest = ap (occurrences_rule those) (block_alike (take count (drop first start))) ∙
          uses_alike (in_block (stmts_of [] (take count (drop first start))))

      pub text_alike : (text : List RustItem) → text_rule those (items_of ts procs start text) ≡ text_rule these (items_of [] procs start text)
      text_alike [] = refl
      text_alike (i ∷ rest) = ap₂ (λ a b. and_then a (λ _. b)) (item_alike i rest) (text_alike rest)
