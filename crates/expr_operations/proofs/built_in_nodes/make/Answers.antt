use Rattle.std.proofs.Common.{ap, ◌∙◌}
use Rattle.std.specs.Prelude.{Ok}
use Rattle.arc_base.specs.Refusal.{and_then}
use Rattle.nim_program.specs.Nodes.{one_path, one_value}
use Rattle.nim_program.specs.Program.{Apply, Doing, Path}
use Rattle.nim_program.specs.View.{expr_of, if_type}
use Rattle.expr_operations.specs.declared.built_in.Hand.{Hand as RustHand}
use Rattle.expr_rules.specs.Answers.{node}
use Rattle.expr_rules.specs.Builtins.{done, handed, written, written_by}
use Rattle.expr_rules.specs.Paths.{path_of}
use Rattle.expr_parts.specs.View.{valued_of}
use Rattle.expr_operations.specs.ViewOperations.{done_rule, hand_of}
use Rattle.expr_parts.proofs.ForCallers.{answers_as, made_as}
use Rattle.expr_operations.proofs.Written.{writes_one}
use Rattle.expr_operations.proofs.built_in_nodes.make.Goals as goal

pub returns-in-AsValue-clause-answers : goal.returns-in-AsValue-clause-answers
returns-in-AsValue-clause-answers c = λ ts.
    let n = node c.args.number c.args.at in
    let v = valued_of ts c.args.value in
    let m = c.args.makes in
    let by = λ (h : RustHand). done_rule (done (written_by (hand_of h) v) (Apply n (if_type ts m.ty) (Doing m.operation) (handed (hand_of h) v))) in
    made_as ts (by m.hand) (λ ts. Apply n (if_type ts m.ty) (Doing m.operation) (one_value (expr_of ts c.args.value.expr))) c.on_one.result
    (ap by c.in-AsValue.is) c.on_one.ensures.expr c.on_one.ensures.memory

pub returns-in-InPlace-clause-answers : goal.returns-in-InPlace-clause-answers
returns-in-InPlace-clause-answers c = λ ts.
    let n = node c.args.number c.args.at in
    let v = valued_of ts c.args.value in
    let m = c.args.makes in
    let by = λ (h : RustHand). done_rule (done (written_by (hand_of h) v) (Apply n (if_type ts m.ty) (Doing m.operation) (handed (hand_of h) v))) in
    made_as ts (by m.hand) (λ ts. Apply n (if_type ts m.ty) (Doing m.operation) (one_path (path_of (expr_of ts c.args.value.expr)))) c.in_place.result
    (ap by c.in-InPlace.is) c.in_place.ensures.expr c.in_place.ensures.memory

pub returns-in-ToWrite-clause-answers : goal.returns-in-ToWrite-clause-answers
returns-in-ToWrite-clause-answers c = λ ts.
    let n = node c.args.number c.args.at in
    let v = valued_of ts c.args.value in
    let m = c.args.makes in
    let by = λ (h : RustHand). done_rule (done (written_by (hand_of h) v) (Apply n (if_type ts m.ty) (Doing m.operation) (handed (hand_of h) v))) in
    let go = λ (p : Path). Apply n (if_type ts m.ty) (Doing m.operation) (one_path p) in
    answers_as (expr_of ts) (by m.hand) (and_then (written v) (λ p. Ok (go p))) c.to_write.result (ap by c.in-ToWrite.is ∙ writes_one v go)
    (c.to_write.ensures.answers ts)
