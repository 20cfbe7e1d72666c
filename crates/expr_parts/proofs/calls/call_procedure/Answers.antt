use Rattle.std.proofs.Common.{Vec, Global, [], ap, sym, ◌∙◌}
use Rattle.std.specs.Prelude.{map, Ok}
use Rattle.nim_program.specs.declared.expr.Operand.{Operand}
use Rattle.nim_program.specs.Nodes as T
use Rattle.nim_program.specs.View.{operands_of, expr_of, if_type}
use Rattle.expr_rules.specs.Answers.{node}
use Rattle.expr_rules.specs.Calls.{arguments_by, arguments_for}
use Rattle.expr_parts.specs.View.{operand_of, parameter_of}
use Rattle.arc_base.proofs.ForCallers.{goes, stops}
use Rattle.expr_parts.proofs.calls.call_procedure.Goals as goal

pub returns-in-Ok-clause-answers : goal.returns-in-Ok-clause-answers
returns-in-Ok-clause-answers c = λ ts facts u x given h.
    let n = node c.args.number c.args.at in
    let p = c.args.callee.now in
    let os = map (operand_of ts) c.args.operands.items in
    goes (expr_of ts) (λ (args : Vec Operand Global). operands_of ts args.items) (arguments_by [] given)
    (λ args. Ok (T.call n (if_type ts p.gives) p.number args))
    c.in-Ok.args (Ok c.called.result)
    (c.in-Ok.ensures ts facts u given (ap (λ ps. arguments_for (map (parameter_of ts) ps) os) c.as_slice.ensures ∙ h))
    (ap Ok (sym (c.called.ensures.expr ts)))

pub returns-in-Err-clause-answers : goal.returns-in-Err-clause-answers
returns-in-Err-clause-answers c = λ ts facts u x given h.
    let n = node c.args.number c.args.at in
    let p = c.args.callee.now in
    let os = map (operand_of ts) c.args.operands.items in
    stops (expr_of ts) (λ (args : Vec Operand Global). operands_of ts args.items) (arguments_by [] given)
    (λ args. Ok (T.call n (if_type ts p.gives) p.number args))
    c.in-Err.stop
    (c.in-Err.ensures ts facts u given (ap (λ ps. arguments_for (map (parameter_of ts) ps) os) c.as_slice.ensures ∙ h))
