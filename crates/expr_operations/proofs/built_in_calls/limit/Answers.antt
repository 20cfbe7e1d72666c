use Rattle.std.proofs.Common.{[], ◌∷◌, sym, ap, ◌∙◌, None, Some, length, subst, rules, w32}
use Rattle.std.proofs.lemmas.Int.{to_z-of_z}
use Rattle.std.specs.Prelude.{Bool, Ok}
use Rattle.arc_base.specs.declared.place.Code.TheVariants.{NotTyped}
use Rattle.nim_types.specs.Types as type
use Rattle.nim_types.specs.Table.{type_at, IsBelow}
use Rattle.nim_program.specs.Nodes.{literal}
use Rattle.nim_program.specs.Program.{Apply, Giving, NoArg, Number}
use Rattle.nim_program.specs.View.{expr_of}
use Rattle.expr_rules.specs.Answers.{node, a_type, only_if}
use Rattle.expr_rules.specs.Builtins.{done, first_row, is_int, operation_by, or_later, with_type}
use Rattle.expr_operations.specs.ViewOperations.{limit_rows}
use Rattle.expr_parts.proofs.ForCallers.{refuses}
use Rattle.expr_parts.proofs.ForCallers.{int_under, int_below}
use Rattle.expr_operations.proofs.built_in_calls.limit.Goals as goal

pub returns-then-not-is_int-clause-answers : goal.returns-then-not-is_int-clause-answers
returns-then-not-is_int-clause-answers c = λ ts facts u.
    let n = node c.args.number c.args.at in
    let os = a_type (type_at ts c.args.ty) ∷ [] in
    refuses (expr_of ts) (operation_by c.args.at os (first_row n (limit_rows c.args.value) os)) NotTyped c.args.at c.refusal.result c.refusal.ensures
    (ap (λ (b : Bool). operation_by c.args.at os
    (or_later (with_type (only_if b (Some type.int)) (λ ty. done [] (Apply n ty (Giving (Number c.args.value)) NoArg))) None))
    (ap is_int (c.entry.ensures.means ts facts u) ∙ c.is_int.ensures ts ∙ c.if-not-is_int.true))

pub returns-clause-answers : goal.returns-clause-answers
returns-clause-answers c = λ ts facts u.
    let n = node c.args.number c.args.at in
    let os = a_type (type_at ts c.args.ty) ∷ [] in
    ap (λ (b : Bool). operation_by c.args.at os
    (or_later (with_type (only_if b (Some type.int)) (λ ty. done [] (Apply n ty (Giving (Number c.args.value)) NoArg))) None))
    (ap is_int (c.entry.ensures.means ts facts u) ∙ c.is_int.ensures ts ∙ c.if-not-is_int.false)
    ∙ ap (λ t. Ok (literal n t (Number c.args.value))) (sym (int_under {k = c.args.kinds} u c.requires.kinds))
    ∙ ap (λ z. Ok (literal n (type_at ts c.args.kinds.int) (Number z))) (sym (to_z-of_z w32 c.args.value (record { sfits = search rules })))
    ∙ ap Ok (sym (c.constant.ensures.expr ts))

pub returns-clause-within : goal.returns-clause-within
returns-clause-within c = subst (IsBelow (length c.args.types.now)) (sym c.constant.ensures.number) (int_below {k = c.args.kinds} c.requires.kinds)
