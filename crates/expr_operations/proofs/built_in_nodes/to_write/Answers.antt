use Rattle.std.proofs.Common.{refl}
use Rattle.std.specs.Prelude.{Ok}
use Rattle.nim_program.specs.Nodes.{one_path}
use Rattle.nim_program.specs.Program.{Apply, Doing, Path}
use Rattle.nim_program.specs.View.{expr_of, if_type, path_of as path_in}
use Rattle.expr_rules.specs.Answers.{node}
use Rattle.expr_rules.specs.Builtins.{written}
use Rattle.expr_parts.specs.View.{valued_of}
use Rattle.expr_parts.proofs.ForCallers.{goes, made_as, stops}
use Rattle.expr_operations.proofs.built_in_nodes.to_write.Goals as goal

pub returns-in-Ok-clause-answers : goal.returns-in-Ok-clause-answers
returns-in-Ok-clause-answers c = λ ts.
    let n = node c.args.number c.args.at in
    let go = λ (p : Path). Apply n (if_type ts c.args.ty) (Doing c.args.operation) (one_path p) in
    goes (expr_of ts) (path_in ts) (written (valued_of ts c.args.value)) (λ p. Ok (go p)) c.in-Ok.path c.on_one.result (c.in-Ok.ensures ts)
    (made_as ts (Ok (go (path_in ts c.in-Ok.path)))
    (λ ts. Apply n (if_type ts c.args.ty) (Doing c.args.operation) (one_path (path_in ts c.in-Ok.path))) c.on_one.result refl c.on_one.ensures.expr
    c.on_one.ensures.memory)

pub returns-in-Err-clause-answers : goal.returns-in-Err-clause-answers
returns-in-Err-clause-answers c = λ ts.
    let n = node c.args.number c.args.at in
    let go = λ (p : Path). Apply n (if_type ts c.args.ty) (Doing c.args.operation) (one_path p) in
    stops (expr_of ts) (path_in ts) (written (valued_of ts c.args.value)) (λ p. Ok (go p)) c.in-Err.stop (c.in-Err.ensures ts)
