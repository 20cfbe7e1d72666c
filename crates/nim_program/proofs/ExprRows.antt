-- Expressions as the code has them: rows of operands and of branches are lists.
use Rattle.std.proofs.Common.{◌≡◌, ℕ, List, ◌∷◌, Vec, Global, refl, ap, ap₂, ◌∙◌, Option, Some, None}
use Rattle.std.specs.Prelude.{map, option_map}
use mathlib.Core.Former.{Count}
use Rattle.nim_types.specs.Types.{Ty}
use Rattle.nim_types.specs.Table.{type_at}
use Rattle.nim_program.specs.declared.expr.Node.{Node}
use Rattle.nim_program.specs.declared.operation.Operation.{Operation}
use Rattle.nim_program.specs.declared.expr.Expr.{Expr as RustExpr}
use Rattle.nim_program.specs.declared.expr.Expr.TheVariants as E
use Rattle.nim_program.specs.declared.expr.Expr.TheBlock as B
use Rattle.nim_program.specs.declared.expr.Operand.{Operand as RustOperand}
use Rattle.nim_program.specs.declared.expr.Choice.{Choice as RustChoice}
use Rattle.nim_program.specs.declared.expr.Pick.{Pick as RustPick}
use Rattle.nim_program.specs.Program as T
use Rattle.nim_program.specs.Program.{Args}
use Rattle.nim_program.specs.View.{if_type, expr_of, label_of, operand_before, operand_row, operands_of}
use Rattle.nim_program.specs.View.{choice_row, choices_of, pick_row, picks_of, label_row, pick_labels, if_value}

module _ (ts : List Ty) where
  operands_are : (n : Count) (row : B.Row_of-Operand n) → operand_row ts row ≡ operands_of ts (B.items-the_row-Operand n row)
  operands_are n B.end_of-Operand = refl
  operands_are n (B.more_of-Operand a row) = ap (operand_before ts a) (operands_are _ row)

  choices_are : (n : Count) (row : B.Row_of-Choice n) (rest : Args) → choice_row ts row rest ≡ choices_of ts (B.items-the_row-Choice n row) rest
  choices_are n B.end_of-Choice rest = refl
  choices_are n (B.more_of-Choice condition value row) rest =
      ap (λ args. T.ByValue (expr_of ts condition) (T.ByValue (expr_of ts value) args)) (choices_are _ row rest)

  picks_are : (n : Count) (row : B.Row_of-Pick n) (rest : Args) → pick_row ts row rest ≡ picks_of ts (B.items-the_row-Pick n row) rest
  picks_are n B.end_of-Pick rest = refl
  picks_are n (B.more_of-Pick labels value row) rest = ap (T.ByValue (expr_of ts value)) (picks_are _ row rest)

  labels_are : (n : Count) (row : B.Row_of-Pick n) → label_row row ≡ pick_labels (B.items-the_row-Pick n row)
  labels_are n B.end_of-Pick = refl
  labels_are n (B.more_of-Pick labels value row) = ap (λ ls. map label_of labels ∷ ls) (labels_are _ row)

  abbrev operand_items : RustExpr → (n : Count) × B.Row_of-Operand n
  operand_items (E.Apply' _ _ _ _ row) = (_, row)
  operand_items (E.Call' _ _ _ _ _ row) = (_, row)
  operand_items (E.Construct' _ _ _ _ row) = (_, row)
  operand_items _ = (_, B.end_of-Operand)

  pub applied : (node : Node) (ty : Option ℕ) (operation : Operation) (operands : Vec RustOperand Global) →
      expr_of ts (E.Apply node ty operation operands) ≡ T.Apply node (if_type ts ty) (T.Doing operation) (operands_of ts operands.items)
  applied node ty operation operands =
      let row = operand_items (E.Apply node ty operation operands) in
      ap (T.Apply node (if_type ts ty) (T.Doing operation)) (operands_are row.0 row.1 ∙ ap (operands_of ts) (B.items_hidden-the_row-Operand-0 operands))

  pub called : (node : Node) (ty : Option ℕ) (proc : ℕ) (types : List ℕ) (operands : Vec RustOperand Global) →
      expr_of ts (E.Call node ty proc types operands) ≡ T.Apply node (if_type ts ty) (T.Calling proc (map (type_at ts) types)) (operands_of ts operands.items)
  called node ty proc types operands =
      let row = operand_items (E.Call node ty proc types operands) in
      ap (T.Apply node (if_type ts ty) (T.Calling proc (map (type_at ts) types)))
      (operands_are row.0 row.1 ∙ ap (operands_of ts) (B.items_hidden-the_row-Operand-0 operands))

  pub constructed : (node : Node) (ty : ℕ) (fields : List ℕ) (operands : Vec RustOperand Global) →
      expr_of ts (E.Construct node ty fields operands) ≡ T.Apply node (Some (type_at ts ty)) (T.Building fields) (operands_of ts operands.items)
  constructed node ty fields operands =
      let row = operand_items (E.Construct node ty fields operands) in
      ap (T.Apply node (Some (type_at ts ty)) (T.Building fields)) (operands_are row.0 row.1 ∙ ap (operands_of ts) (B.items_hidden-the_row-Operand-0 operands))

  abbrev choice_items : RustExpr → (n : Count) × B.Row_of-Choice n
  choice_items (E.If' _ _ _ row _ _) = (_, row)
  choice_items _ = (_, B.end_of-Choice)

  pub chosen : (node : Node) (ty : Option ℕ) (branches : Vec RustChoice Global) (otherwise : _) →
      expr_of ts (E.If node ty branches otherwise) ≡
      T.Choose node (if_type ts ty) T.ByConditions (choices_of ts branches.items (T.ByValue (expr_of ts otherwise.value) T.NoArg))
  chosen node ty branches otherwise =
      let row = choice_items (E.If node ty branches otherwise) in
      let last = T.ByValue (expr_of ts otherwise.value) T.NoArg in
      ap (T.Choose node (if_type ts ty) T.ByConditions)
      (choices_are row.0 row.1 last ∙ ap (λ xs. choices_of ts xs last) (B.items_hidden-the_row-Choice-1 branches))

  abbrev pick_items : RustExpr → (n : Count) × B.Row_of-Pick n
  pick_items (E.Case' _ _ _ _ _ row _) = (_, row)
  pick_items _ = (_, B.end_of-Pick)

  pub selected : (node : Node) (ty : Option ℕ) (selector : _) (branches : Vec RustPick Global) (otherwise : _) →
      expr_of ts (E.Case node ty selector branches otherwise) ≡
      T.Choose node (if_type ts ty) (T.ByLabels (pick_labels branches.items))
      (operand_before ts selector.value (picks_of ts branches.items (if_value ts (option_map (λ v. v.value) otherwise))))
  selected node ty selector branches None =
      let row = pick_items (E.Case node ty selector branches None) in
      ap₂ (λ ls vs. T.Choose node (if_type ts ty) (T.ByLabels ls) (operand_before ts selector.value vs))
      (labels_are row.0 row.1 ∙ ap pick_labels (B.items_hidden-the_row-Pick-2 branches))
      (picks_are row.0 row.1 T.NoArg ∙ ap (λ xs. picks_of ts xs T.NoArg) (B.items_hidden-the_row-Pick-2 branches))
  selected node ty selector branches (Some other) =
      let row = pick_items (E.Case node ty selector branches (Some other)) in
      let last = T.ByValue (expr_of ts other.value) T.NoArg in
      ap₂ (λ ls vs. T.Choose node (if_type ts ty) (T.ByLabels ls) (operand_before ts selector.value vs))
      (labels_are row.0 row.1 ∙ ap pick_labels (B.items_hidden-the_row-Pick-2 branches))
      (picks_are row.0 row.1 last ∙ ap (λ xs. picks_of ts xs last) (B.items_hidden-the_row-Pick-2 branches))
