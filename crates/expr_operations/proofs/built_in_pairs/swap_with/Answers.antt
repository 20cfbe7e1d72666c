use Rattle.std.proofs.Common.{refl, None}
use Rattle.std.specs.Prelude.{Ok}
use Rattle.nim_program.specs.declared.operation.Operation.TheVariants as operation
use Rattle.nim_program.specs.Nodes.{acting, one_path}
use Rattle.nim_program.specs.Program.{ByPath}
use Rattle.nim_program.specs.View.{expr_of, path_of as path_in}
use Rattle.expr_rules.specs.Answers.{node}
use Rattle.expr_rules.specs.Builtins.{written}
use Rattle.expr_parts.specs.View.{valued_of}
use Rattle.expr_parts.proofs.ForCallers.{below_as, goes, made_as, stops}
use Rattle.expr_operations.proofs.built_in_pairs.swap_with.Goals as goal

pub returns-in-Ok-clause-answers : goal.returns-in-Ok-clause-answers
returns-in-Ok-clause-answers c = λ ts.
    let n = node c.args.number c.args.at in
    let w = valued_of ts c.args.right in
    let l = path_in ts c.args.left in
    goes (expr_of ts) (path_in ts) (written w) (λ q. Ok (acting n operation.Swap (ByPath l (one_path q)))) c.in-Ok.right c.on_two.result (c.in-Ok.ensures ts)
    (made_as ts (Ok (acting n operation.Swap (ByPath l (one_path (path_in ts c.in-Ok.right)))))
    (λ ts. acting n operation.Swap (ByPath (path_in ts c.args.left) (one_path (path_in ts c.in-Ok.right)))) c.on_two.result refl c.on_two.ensures.expr
    c.on_two.ensures.memory)

pub returns-in-Err-clause-answers : goal.returns-in-Err-clause-answers
returns-in-Err-clause-answers c = λ ts.
    let n = node c.args.number c.args.at in
    let w = valued_of ts c.args.right in
    let l = path_in ts c.args.left in
    stops (expr_of ts) (path_in ts) (written w) (λ q. Ok (acting n operation.Swap (ByPath l (one_path q)))) c.in-Err.stop (c.in-Err.ensures ts)

pub returns-in-Ok-clause-within : goal.returns-in-Ok-clause-within
returns-in-Ok-clause-within c = λ n. below_as n None c.on_two.result tt c.on_two.ensures.number
