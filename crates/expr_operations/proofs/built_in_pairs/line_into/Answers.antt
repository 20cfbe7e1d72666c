use Rattle.std.proofs.Common.{[], ◌∷◌, sym, ap, ◌∙◌, None, Some}
use Rattle.std.specs.Prelude.{Bool, Ok}
use Rattle.arc_base.specs.declared.place.Code.TheVariants.{NotTyped}
use Rattle.arc_base.specs.Refusal.{and_then}
use Rattle.nim_types.specs.Types as type
use Rattle.nim_program.specs.declared.operation.Operation.TheVariants as operation
use Rattle.nim_program.specs.Nodes.{doing, one_path}
use Rattle.nim_program.specs.View.{expr_of}
use Rattle.expr_operations.specs.declared.built_in.Hand.TheVariants as hand
use Rattle.expr_rules.specs.Answers.{node, only_if, the_input, value}
use Rattle.expr_rules.specs.Builtins.{done, first_row, operation_by, or_later, writes_rule}
use Rattle.expr_rules.specs.Paths.{path_of}
use Rattle.expr_parts.specs.View.{valued_of}
use Rattle.expr_operations.specs.ViewOperations.{done_by, done_rule, line_rows}
use Rattle.expr_parts.proofs.ForCallers.{answers_as, refuses}
use Rattle.expr_operations.proofs.built_in_pairs.line_into.Goals as goal

pub returns-then-not-is_line-clause-answers : goal.returns-then-not-is_line-clause-answers
returns-then-not-is_line-clause-answers c = λ ts e k.
    let n = node c.args.number c.args.at in
    let v = valued_of ts c.args.value in
    let os = the_input ∷ value v ∷ [] in
    refuses (expr_of ts) (operation_by c.args.at os (first_row n line_rows os)) NotTyped c.args.at c.refusal.result c.refusal.ensures
    (ap (λ (b : Bool). operation_by c.args.at os
    (or_later (only_if b (done (v ∷ []) (doing n type.bool operation.ReadLineInto (one_path (path_of v.expr))))) None))
    (e ∙ c.if-not-is_line.true))

pub returns-clause-answers : goal.returns-clause-answers
returns-clause-answers c = λ ts e k.
    let n = node c.args.number c.args.at in
    let v = valued_of ts c.args.value in
    let os = the_input ∷ value v ∷ [] in
    answers_as (expr_of ts) (operation_by c.args.at os (first_row n line_rows os))
    (done_rule (done_by ts n v (record { hand = hand.ToWrite; ty = Some c.args.kinds.bool; operation = operation.ReadLineInto }))) c.make.result
    (ap (λ (b : Bool). operation_by c.args.at os
    (or_later (only_if b (done (v ∷ []) (doing n type.bool operation.ReadLineInto (one_path (path_of v.expr))))) None))
    (e ∙ c.if-not-is_line.false)
    ∙ ap (λ t. and_then (writes_rule (v ∷ [])) (λ _. Ok (doing n t operation.ReadLineInto (one_path (path_of v.expr))))) (sym k))
    (c.make.ensures.answers ts)
