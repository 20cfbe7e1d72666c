-- Selectors of the code, by their numbers.
use Rattle.std.proofs.Common.{◌≡◌, ℕ, suc, ◌+◌, List, [], ◌∷◌, length, false, Option, Some, None, refl, sym, ap}
use Rattle.std.proofs.Common.{◌∙◌, arith}
use Rattle.std.specs.Prelude.{IfSome}
use Rattle.nim_types.specs.Types.{Ty}
use Rattle.nim_program.specs.declared.expr.Operand.{Operand as RustOperand}
use Rattle.nim_program.specs.declared.expr.Operand.TheVariants as A
use Rattle.nim_program.specs.declared.stmt.CaseBranch.{CaseBranch}
use Rattle.nim_program.specs.Program.{ByLabels, NoArg, Stmt}
use Rattle.nim_program.specs.Program.{Stmts, Then}
use Rattle.nim_program.specs.View.{expr_of, path_of, operand_before, branch_labels}
use Rattle.nim_program.specs.Folds.{numbers, looked_type, total_at}
use Rattle.flattening.specs.Numbering.{own_width, width, widths, looked_count, selector_from, behind_selector}
use Rattle.flattening.specs.Views.{behind}
use Rattle.flattening.proofs.PlaceNumbers.{selector_begins}
use Rattle.flattening.proofs.Widths.{same_width}

-- the first statement of a block that begins with one
abbrev pub first_of : Stmt → Stmts → Stmt
first_of other (Then first rest) = first
first_of other block = other

-- ---- selectors

plus_none : (n : ℕ) → n ≡ n + 0
plus_none n = omega arith

pub behind_is : (ts : List Ty) (x : RustOperand) (t : ℕ) → behind (operand_before ts x NoArg) t ≡ t + widths (operand_before ts x NoArg)
behind_is ts (A.Value value) t = ap (λ n. t + n) (plus_none (width (expr_of ts value)))
behind_is ts (A.At path) t = ap (λ n. t + n) (sym (same_width (path_of ts path)) ∙ plus_none (total_at numbers own_width false (path_of ts path)))

pub selector_at : (ts : List Ty) (x : RustOperand) (s w : ℕ) (r : Option ℕ) →
    w ≡ looked_count (looked_type (ByLabels []) (operand_before ts x NoArg)) → IfSome r (λ u. u ≡ s + w) →
    IfSome r (λ u. u ≡ selector_from (operand_before ts x NoArg) s)
selector_at ts x s w None e h = tt
selector_at ts x s w (Some u) e h = h ∙ ap (λ n. s + n) e ∙ sym (selector_begins [] (operand_before ts x NoArg) s)

pub selector_spans : (ts : List Ty) (x : RustOperand) (s from : ℕ) (r : Option ℕ) → from ≡ selector_from (operand_before ts x NoArg) s →
    IfSome r (λ u. u ≡ behind (operand_before ts x NoArg) from) → IfSome r (λ u. u ≡ behind_selector (operand_before ts x NoArg) s)
selector_spans ts x s from None e h = tt
selector_spans ts x s from (Some u) e h = h ∙ behind_is ts x from ∙ ap (λ y. y + widths (operand_before ts x NoArg)) e

pub label_count : (branches : List CaseBranch) → length (branch_labels branches) ≡ length branches
label_count [] = refl
label_count (first ∷ rest) = ap suc (label_count rest)
