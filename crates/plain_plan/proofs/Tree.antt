-- The sites of parts that stand one after another.
use Rattle.std.proofs.Common.{◌≡◌, ℕ, suc, true, false, Some, None, List, [], ◌∷◌, ◌++◌, refl, ap, ◌∙◌, append_assoc}
use Rattle.std.proofs.lemmas.List.{append-nil}
use Rattle.nim_types.specs.Types.{Ty, Facts}
use Rattle.nim_program.specs.declared.expr.Choice.{Choice}
use Rattle.nim_program.specs.declared.expr.Pick.{Pick}
use Rattle.nim_program.specs.declared.expr.Operand.{Operand as RustOperand}
use Rattle.nim_program.specs.declared.expr.Operand.TheVariants as A
use Rattle.nim_program.specs.declared.operation.Use.{Use}
use Rattle.nim_program.specs.declared.operation.Use.TheVariants.{Owned, Given}
use Rattle.nim_program.specs.declared.program.Mode.{Mode}
use Rattle.nim_program.specs.declared.stmt.Branch.{Branch}
use Rattle.nim_program.specs.declared.stmt.CaseBranch.{CaseBranch}
use Rattle.nim_program.specs.declared.stmt.Stmt.{Stmt as RustStmt}
use Rattle.nim_program.specs.declared.stmt.Stmt.TheVariants as S
use Rattle.nim_program.specs.Program as T
use Rattle.nim_program.specs.Program.{Label, Args, NoArg, Stmts, Empty}
use Rattle.nim_program.specs.View.{expr_of, path_of, operand_before, choices_of, picks_of, pick_labels, stmts_of, stmt_before}
use Rattle.nim_program.specs.View.{branch_conditions, branch_blocks, branch_labels, case_blocks, kind_of, operands_of, condition_blocks, branch_row, case_row}
use Rattle.nim_program.specs.View.{case_labels, stmt_row}
use Rattle.nim_meaning.specs.TreeSites.{value_sites, path_sites, operand_sites, choice_sites, selected_sites, pick_sites, selector_sites}
use Rattle.nim_meaning.specs.TreeSites.{stmt_sites, loop_sites, block_sites, branch_sites, arm_sites}
use Rattle.plain_plan.specs.Views.{is_defer}

module _ (facts : Facts) (modes : (proc position : ℕ) → Mode) (ts : List Ty) where
  pub choices_last : (choices : List Choice) (last : Args) →
      choice_sites facts modes (choices_of ts choices NoArg) ++ choice_sites facts modes last ≡ choice_sites facts modes (choices_of ts choices last)
  choices_last [] last = refl
  choices_last (first ∷ rest) last =
      let c = value_sites facts modes (expr_of ts first.condition) Owned in
      let v = value_sites facts modes (expr_of ts first.value) Owned in
      let others = choice_sites facts modes (choices_of ts rest NoArg) in
      append_assoc c (v ++ others) (choice_sites facts modes last)
      ∙ ap (λ ns. c ++ ns) (append_assoc v others (choice_sites facts modes last) ∙ ap (λ ns. v ++ ns) (choices_last rest last))

  pub picks_last : (picks : List Pick) (last : Args) →
      pick_sites facts modes (pick_labels picks) (picks_of ts picks NoArg) ++ pick_sites facts modes [] last
      ≡ pick_sites facts modes (pick_labels picks) (picks_of ts picks last)
  picks_last [] last = refl
  picks_last (first ∷ rest) last =
      let v = value_sites facts modes (expr_of ts first.value) Owned in
      append_assoc v (pick_sites facts modes (pick_labels rest) (picks_of ts rest NoArg)) (pick_sites facts modes [] last)
      ∙ ap (λ ns. v ++ ns) (picks_last rest last)

  pub selector_first : (labels : List (List Label)) (x : RustOperand) (rest : Args) →
      selector_sites facts modes (operand_before ts x NoArg) ++ pick_sites facts modes labels rest
      ≡ selected_sites facts modes labels (operand_before ts x rest)
  selector_first labels (A.Value value) rest = refl
  selector_first labels (A.At path) rest = refl

  pub operand_next : (x : RustOperand) (rest : Args) (uses : ℕ → Use) (how : Use) (i n : ℕ) → how ≡ uses i → n ≡ suc i →
      operand_sites facts modes (operand_before ts x NoArg) (λ j. how) 0 ++ operand_sites facts modes rest uses n
      ≡ operand_sites facts modes (operand_before ts x rest) uses i
  operand_next (A.Value value) rest uses how i n e f =
      let v = expr_of ts value in
      ap (λ h. (value_sites facts modes v h ++ []) ++ operand_sites facts modes rest uses n) e
      ∙ ap (λ m. (value_sites facts modes v (uses i) ++ []) ++ operand_sites facts modes rest uses m) f
      ∙ ap (λ z. z ++ operand_sites facts modes rest uses (suc i)) (append-nil (value_sites facts modes v (uses i)))
  operand_next (A.At path) rest uses how i n e f =
      let p = path_of ts path in
      ap (λ m. (path_sites facts modes p ++ []) ++ operand_sites facts modes rest uses m) f
      ∙ ap (λ z. z ++ operand_sites facts modes rest uses (suc i)) (append-nil (path_sites facts modes p))

  -- ---- statements

  alone_first : (xs ys : List ℕ) → (xs ++ []) ++ ys ≡ xs ++ ys
  alone_first xs ys = ap (λ zs. zs ++ ys) (append-nil xs)

  pub stmt_next : (s : RustStmt) (rest : Stmts) → is_defer s ≡ false →
      block_sites facts modes (stmt_before ts s Empty) ++ block_sites facts modes rest ≡ block_sites facts modes (stmt_before ts s rest)
  stmt_next (S.Do value) rest e = alone_first (stmt_sites facts modes (T.Do (expr_of ts value))) (block_sites facts modes rest)
  stmt_next (S.Idle node parts) rest e = refl
  stmt_next (S.Give node back value) rest e = alone_first (stmt_sites facts modes (T.Give node back (expr_of ts value))) (block_sites facts modes rest)
  stmt_next (S.Leave node leaving parts) rest e = refl
  stmt_next (S.Declare node place cursor None) rest e = refl
  stmt_next (S.Declare node place cursor (Some value)) rest e = alone_first (value_sites facts modes (expr_of ts value) Given) (block_sites facts modes rest)
  stmt_next (S.If' node p branches q otherwise) rest e =
      alone_first (branch_sites facts modes (condition_blocks ts branches) (branch_row ts branches (stmt_row ts otherwise))) (block_sites facts modes rest)
  stmt_next (S.Case' node selector p branches q otherwise) rest e =
      alone_first (selector_sites facts modes (operand_before ts selector NoArg)
      ++ arm_sites facts modes (case_labels branches) (case_row ts branches (stmt_row ts otherwise))) (block_sites facts modes rest)
  stmt_next (S.Loop' node kind head p body) rest e =
      alone_first (loop_sites facts modes (kind_of ts kind) (operands_of ts head.items) ++ block_sites facts modes (stmt_row ts body))
      (block_sites facts modes rest)
  stmt_next (S.Raise node exception message) rest e = refl
  stmt_next (S.Try' node p body q handlers r last) rest e = refl
  stmt_next (S.Defer' node p last) rest e = absurd cc

  pub defer_sites : (s : RustStmt) (rest : Stmts) → is_defer s ≡ true → block_sites facts modes (stmt_before ts s rest) ≡ []
  defer_sites (S.Do value) rest e = absurd cc
  defer_sites (S.Idle node parts) rest e = absurd cc
  defer_sites (S.Give node back value) rest e = absurd cc
  defer_sites (S.Leave node leaving parts) rest e = absurd cc
  defer_sites (S.Declare node place cursor value) rest e = absurd cc
  defer_sites (S.If' node p branches q otherwise) rest e = absurd cc
  defer_sites (S.Case' node selector p branches q otherwise) rest e = absurd cc
  defer_sites (S.Loop' node kind head p body) rest e = absurd cc
  defer_sites (S.Raise node exception message) rest e = absurd cc
  defer_sites (S.Try' node p body q handlers r last) rest e = absurd cc
  defer_sites (S.Defer' node p last) rest e = refl

  pub branches_last : (branches : List Branch) (last : Stmts) →
      branch_sites facts modes (branch_conditions ts branches) (branch_blocks ts branches Empty) ++ block_sites facts modes last
      ≡ branch_sites facts modes (branch_conditions ts branches) (branch_blocks ts branches last)
  branches_last [] last = refl
  branches_last (first ∷ rest) last =
      let c = value_sites facts modes (expr_of ts first.condition) Owned in
      let b = block_sites facts modes (stmts_of ts first.body.items) in
      let others = branch_sites facts modes (branch_conditions ts rest) (branch_blocks ts rest Empty) in
      append_assoc c (b ++ others) (block_sites facts modes last)
      ∙ ap (λ ns. c ++ ns) (append_assoc b others (block_sites facts modes last) ∙ ap (λ ns. b ++ ns) (branches_last rest last))

  pub arms_last : (branches : List CaseBranch) (last : Stmts) →
      arm_sites facts modes (branch_labels branches) (case_blocks ts branches Empty) ++ block_sites facts modes last
      ≡ arm_sites facts modes (branch_labels branches) (case_blocks ts branches last)
  arms_last [] last = refl
  arms_last (first ∷ rest) last =
      let b = block_sites facts modes (stmts_of ts first.body.items) in
      append_assoc b (arm_sites facts modes (branch_labels rest) (case_blocks ts rest Empty)) (block_sites facts modes last)
      ∙ ap (λ ns. b ++ ns) (arms_last rest last)
