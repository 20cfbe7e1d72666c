use Rattle.std.proofs.Common.{[], ◌∷◌, ap, ◌∙◌, None}
use Rattle.std.specs.Prelude.{Err, Bool}
use Rattle.arc_base.specs.declared.place.Code.TheVariants.{NotTyped}
use Rattle.arc_base.specs.Refusal.{and_then}
use Rattle.nim_program.specs.declared.operation.Operation.TheVariants as operation
use Rattle.nim_program.specs.Nodes.{acting, one_path}
use Rattle.nim_program.specs.Program.{ByPath}
use Rattle.nim_program.specs.View.{expr_of, path_of as path_in}
use Rattle.expr_operations.specs.declared.built_in.Second.TheVariants as second
use Rattle.expr_rules.specs.Answers.{node, only_if, value}
use Rattle.expr_rules.specs.Builtins.{done, first_row, operation_by, or_later, written}
use Rattle.expr_rules.specs.Paths.{path_of}
use Rattle.expr_parts.specs.View.{valued_of}
use Rattle.expr_operations.specs.ViewOperations.{second_rows, swapped}
use Rattle.expr_parts.proofs.ForCallers.{answers_as, goes, refuses, stops}
use Rattle.expr_operations.proofs.Written.{writes_two}
use Rattle.expr_operations.proofs.built_in_pairs.swap.Goals as goal

pub returns-then-not-are_same-clause-answers : goal.returns-then-not-are_same-clause-answers
returns-then-not-are_same-clause-answers c = λ ts e.
    let n = node c.args.number c.args.at in
    let v = valued_of ts c.args.left in
    let w = valued_of ts c.args.right in
    let os = value v ∷ value w ∷ [] in
    refuses (expr_of ts) (operation_by c.args.at os (first_row n (second_rows second.Place) os)) NotTyped c.args.at c.refusal.result c.refusal.ensures
    (ap (λ (b : Bool). operation_by c.args.at os
    (or_later (only_if b (done (v ∷ w ∷ []) (acting n operation.Swap (ByPath (path_of v.expr) (one_path (path_of w.expr)))))) None))
    (e ∙ c.if-not-are_same.true))

pub returns-in-Ok-clause-answers : goal.returns-in-Ok-clause-answers
returns-in-Ok-clause-answers c = λ ts e.
    let n = node c.args.number c.args.at in
    let v = valued_of ts c.args.left in
    let w = valued_of ts c.args.right in
    let os = value v ∷ value w ∷ [] in
    answers_as (expr_of ts) (operation_by c.args.at os (first_row n (second_rows second.Place) os))
    (and_then (written v) (λ p. swapped n p w)) c.swap_with.result
    (ap (λ (b : Bool). operation_by c.args.at os
    (or_later (only_if b (done (v ∷ w ∷ []) (acting n operation.Swap (ByPath (path_of v.expr) (one_path (path_of w.expr)))))) None))
    (e ∙ c.if-not-are_same.false)
    ∙ writes_two v w (λ p q. acting n operation.Swap (ByPath p (one_path q))))
    (goes (expr_of ts) (path_in ts) (written v) (λ p. swapped n p w) c.in-Ok.path c.swap_with.result (c.in-Ok.ensures ts) (c.swap_with.ensures.answers ts))

pub returns-in-Err-clause-answers : goal.returns-in-Err-clause-answers
returns-in-Err-clause-answers c = λ ts e.
    let n = node c.args.number c.args.at in
    let v = valued_of ts c.args.left in
    let w = valued_of ts c.args.right in
    let os = value v ∷ value w ∷ [] in
    answers_as (expr_of ts) (operation_by c.args.at os (first_row n (second_rows second.Place) os)) (and_then (written v) (λ p. swapped n p w))
    (Err c.in-Err.stop)
    (ap (λ (b : Bool). operation_by c.args.at os
    (or_later (only_if b (done (v ∷ w ∷ []) (acting n operation.Swap (ByPath (path_of v.expr) (one_path (path_of w.expr)))))) None))
    (e ∙ c.if-not-are_same.false)
    ∙ writes_two v w (λ p q. acting n operation.Swap (ByPath p (one_path q))))
    (stops (expr_of ts) (path_in ts) (written v) (λ p. swapped n p w) c.in-Err.stop (c.in-Err.ensures ts))
