-- The types of operands, and where they come from, one after another.
use Rattle.std.proofs.Common.{◌≡◌, ℕ, suc, List, [], ◌∷◌, ◌++◌, Option, sym, ap, ap₂, ◌∙◌, append_assoc}
use Rattle.nim_types.specs.Types.{Ty, Facts}
use Rattle.nim_program.specs.declared.expr.Operand.{Operand as RustOperand}
use Rattle.nim_program.specs.declared.expr.Operand.TheVariants as A
use Rattle.nim_program.specs.declared.operation.Use.{Use}
use Rattle.nim_program.specs.Program.{Act, Args, NoArg, types_in}
use Rattle.nim_program.specs.View.{expr_of, operand_before, operands_of, if_type}
use Rattle.flat_code.specs.declared.line.From.{From}
use Rattle.flat_code.specs.declared.line.From.TheVariants as F
use Rattle.flattening.specs.Numbering.{if_number, all_numbers}
use Rattle.flattening.specs.ExprLines.{from_of, froms}
use Rattle.flattening.specs.Views.{behind}

module _ (ts : List Ty) where
  type_before : (x : RustOperand) (rest : Args) (ty : Option Ty) → types_in (operand_before ts x NoArg) ≡ ty ∷ [] →
      types_in (operand_before ts x rest) ≡ ty ∷ types_in rest
  type_before (A.Value value) rest ty e = ap (λ t. t ∷ types_in rest) cc
  type_before (A.At path) rest ty e = ap (λ t. t ∷ types_in rest) cc

  pub types_next : (before rest : List RustOperand) (x : RustOperand) (ty : Option ℕ) (old new : List (Option ℕ)) (n : Option ℕ) (whole : List (Option ℕ)) →
      before ≡ x ∷ rest → types_in (operand_before ts x NoArg) ≡ if_type ts ty ∷ [] → n ≡ if_number ts (if_type ts ty) → new ≡ old ++ n ∷ [] →
      old ++ all_numbers ts (types_in (operands_of ts before)) ≡ whole → new ++ all_numbers ts (types_in (operands_of ts rest)) ≡ whole
  types_next before rest x ty old new n whole next f g h same =
      let left = all_numbers ts (types_in (operands_of ts rest)) in
      ap (λ ns. ns ++ left) h ∙ append_assoc old (n ∷ []) left ∙ ap (λ m. old ++ m ∷ left) g
      ∙ ap (λ tys. old ++ all_numbers ts tys) (sym (type_before x (operands_of ts rest) (if_type ts ty) f))
      ∙ ap (λ ys. old ++ all_numbers ts (types_in (operands_of ts ys))) (sym next) ∙ same

-- ---- where operands come from

module _ (ts : List Ty) (facts : Facts) (act : Act) where
  from_before : (x : RustOperand) (rest : Args) (uses : ℕ → Use) (how : Use) (i n t u : ℕ) (f : From) →
      froms facts act (operand_before ts x NoArg) (λ j. how) 0 t ≡ f ∷ [] → how ≡ uses i → n ≡ suc i → u ≡ behind (operand_before ts x NoArg) t →
      f ∷ froms facts act rest uses n u ≡ froms facts act (operand_before ts x rest) uses i t
  from_before (A.Value value) rest uses how i n t u f e g h b =
      let same : f ≡ from_of facts act how (expr_of ts value) t = cc in
      ap₂ (λ a j. a ∷ froms facts act rest uses j u) (same ∙ ap (λ x. from_of facts act x (expr_of ts value) t) g) h
      ∙ ap (λ w. from_of facts act (uses i) (expr_of ts value) t ∷ froms facts act rest uses (suc i) w) b
  from_before (A.At path) rest uses how i n t u f e g h b =
      let same : f ≡ F.Place t = cc in
      ap₂ (λ a j. a ∷ froms facts act rest uses j u) same h ∙ ap (λ w. F.Place t ∷ froms facts act rest uses (suc i) w) b

  pub froms_next : (before rest : List RustOperand) (x : RustOperand) (f : From) (old new whole : List From) (uses : ℕ → Use) (how : Use) (i n t u : ℕ) →
      before ≡ x ∷ rest → froms facts act (operand_before ts x NoArg) (λ j. how) 0 t ≡ f ∷ [] → how ≡ uses i → n ≡ suc i →
      u ≡ behind (operand_before ts x NoArg) t → new ≡ old ++ f ∷ [] → old ++ froms facts act (operands_of ts before) uses i t ≡ whole →
      new ++ froms facts act (operands_of ts rest) uses n u ≡ whole
  froms_next before rest x f old new whole uses how i n t u next from used at behind_it h same =
      let left = operands_of ts rest in
      ap (λ fs. fs ++ froms facts act left uses n u) h ∙ append_assoc old (f ∷ []) (froms facts act left uses n u)
      ∙ ap (λ fs. old ++ fs) (from_before x left uses how i n t u f from used at behind_it)
      ∙ ap (λ ys. old ++ froms facts act (operands_of ts ys) uses i t) (sym next) ∙ same
