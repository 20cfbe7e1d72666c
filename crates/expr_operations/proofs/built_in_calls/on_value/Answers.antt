use Rattle.std.proofs.Common.{[], ◌∷◌, refl, sym, ap, subst, ◌∙◌, length}
use Rattle.std.specs.Prelude.{option_map, IfSome}
use Rattle.arc_base.specs.declared.place.Code.TheVariants.{NotTyped}
use Rattle.nim_types.specs.Table.{IsBelow}
use Rattle.nim_program.specs.View.{expr_of}
use Rattle.expr_rules.specs.Answers.{node, value}
use Rattle.expr_rules.specs.Builtins.{first_row, operation_by}
use Rattle.expr_parts.specs.View.{valued_of}
use Rattle.expr_operations.specs.ViewOperations.{rows_of, done_by, done_rule}
use Rattle.expr_parts.proofs.ForCallers.{answers_as, refuses}
use Rattle.expr_parts.proofs.ForCallers.{if_ok}
use Rattle.expr_operations.proofs.Written.{are_kinds, kinds_below}
use Rattle.expr_operations.proofs.built_in_calls.on_value.Goals as goal

pub returns-in-Some-clause-answers : goal.returns-in-Some-clause-answers
returns-in-Some-clause-answers c = λ ts facts u.
    let n = node c.args.number c.args.at in
    let v = valued_of ts c.args.value in
    let os = value v ∷ [] in
    answers_as (expr_of ts) (operation_by c.args.at os (first_row n (rows_of c.args.operation) os)) (done_rule (done_by ts n v c.in-Some.makes)) c.make.result
    (ap (operation_by c.args.at os)
    (c.makes_of_value.ensures.makes ts v (are_kinds {k = c.args.kinds} u c.requires.kinds) (c.entry.ensures.means ts facts u) refl n
    ∙ ap (option_map (done_by ts n v)) c.in-Some.is))
    (c.make.ensures.answers ts)

pub returns-in-None-clause-answers : goal.returns-in-None-clause-answers
returns-in-None-clause-answers c = λ ts facts u.
    let n = node c.args.number c.args.at in
    let v = valued_of ts c.args.value in
    let os = value v ∷ [] in
    refuses (expr_of ts) (operation_by c.args.at os (first_row n (rows_of c.args.operation) os)) NotTyped c.args.at c.refusal.result c.refusal.ensures
    (ap (operation_by c.args.at os)
    (c.makes_of_value.ensures.makes ts v (are_kinds {k = c.args.kinds} u c.requires.kinds) (c.entry.ensures.means ts facts u) refl n
    ∙ ap (option_map (done_by ts n v)) c.in-None.is))

pub returns-in-Some-clause-within : goal.returns-in-Some-clause-within
returns-in-Some-clause-within c =
    let k = length c.args.types.now in
    if_ok c.make.result c.make.ensures.number
    (λ e h. subst (IsBelow k) (sym h)
    (subst (λ o. IfSome o (λ m. IsBelow k m.ty)) c.in-Some.is
    (c.makes_of_value.ensures.within k (kinds_below {k = c.args.kinds} c.requires.kinds) c.entry.ensures.inside c.requires.value)))
