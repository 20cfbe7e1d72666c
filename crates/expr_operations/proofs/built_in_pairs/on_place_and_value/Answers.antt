use Rattle.std.proofs.Common.{[], ◌∷◌, sym, ap, ◌∙◌, None, length}
use Rattle.std.specs.Prelude.{option_map}
use Rattle.nim_program.specs.Nodes.{acting, path_and_value}
use Rattle.nim_program.specs.View.{expr_of}
use Rattle.expr_operations.specs.declared.built_in.Second.TheVariants as second
use Rattle.expr_parts.specs.declared.value.Operand.TheVariants as operand
use Rattle.expr_rules.specs.Answers.{node, value}
use Rattle.expr_rules.specs.Builtins.{done, first_row, operation_by, or_later, settled_in, with_value}
use Rattle.expr_rules.specs.Paths.{path_of}
use Rattle.expr_parts.specs.View.{operand_of, valued_of}
use Rattle.expr_operations.specs.ViewOperations.{goes_of, joined, second_rows}
use Rattle.expr_parts.proofs.ForCallers.{answers_as}
use Rattle.expr_operations.proofs.Written.{are_kinds, kinds_below, misses, writes_one}
use Rattle.expr_operations.proofs.built_in_pairs.on_place_and_value.Goals as goal

pub settle_in-requires-clause-taken : goal.settle_in-requires-clause-taken
settle_in-requires-clause-taken c =
    c.taken_by-taken.ensures.within (length c.args.types.now) (kinds_below {k = c.args.kinds} c.requires.kinds) c.entry.ensures.inside

pub returns-in-Some-clause-answers : goal.returns-in-Some-clause-answers
returns-in-Some-clause-answers c = λ ts facts u e.
    let n = node c.args.number c.args.at in
    let v = valued_of ts c.args.left in
    let o = operand_of ts c.args.right in
    let os = value v ∷ o ∷ [] in
    let j = c.args.join in
    let taken = ap (goes_of j.goes) (c.entry.ensures.means ts facts u) ∙ c.taken_by-taken.ensures.types ts
    (are_kinds {k = c.args.kinds} u c.requires.kinds) in
    let given = ap (λ l. settled_in l o) taken ∙ sym (sym (ap (option_map (valued_of ts)) c.in-Some.is) ∙ c.settle_in.ensures.given ts facts u) in
    answers_as (expr_of ts) (operation_by c.args.at os (first_row n (second_rows (second.Value j)) os)) (joined n j v (expr_of ts c.in-Some.with.expr))
    c.write_with.result
    (ap (λ s. operation_by c.args.at os (or_later
    (with_value s (λ w. done (v ∷ []) (acting n j.operation (path_and_value (path_of v.expr) w.expr)))) None)) given
    ∙ writes_one v (λ p. acting n j.operation (path_and_value p (expr_of ts c.in-Some.with.expr))))
    (c.write_with.ensures.answers ts)

pub returns-in-None-clause-answers : goal.returns-in-None-clause-answers
returns-in-None-clause-answers c = λ ts facts u e.
    let n = node c.args.number c.args.at in
    let v = valued_of ts c.args.left in
    let o = operand_of ts c.args.right in
    let os = value v ∷ o ∷ [] in
    let j = c.args.join in
    let taken = ap (goes_of j.goes) (c.entry.ensures.means ts facts u) ∙ c.taken_by-taken.ensures.types ts
    (are_kinds {k = c.args.kinds} u c.requires.kinds) in
    let given = ap (λ l. settled_in l o) taken ∙ sym (sym (ap (option_map (valued_of ts)) c.in-None.is) ∙ c.settle_in.ensures.given ts facts u) in
    misses ts c.args.at c.args.place (operand.Value c.args.left ∷ c.args.right ∷ []) (first_row n (second_rows (second.Value j)) os) c.refusal.result
    (ap (λ s. or_later (with_value s (λ w. done (v ∷ []) (acting n j.operation (path_and_value (path_of v.expr) w.expr)))) None) given) e c.refusal.ensures
