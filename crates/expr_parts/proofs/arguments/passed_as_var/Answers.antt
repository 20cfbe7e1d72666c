use Rattle.std.proofs.Common.{refl}
use Rattle.std.specs.Prelude.{map, Ok}
use Rattle.nim_program.specs.declared.expr.Operand.TheVariants as argument
use Rattle.nim_program.specs.View.{path_of as path_in}
use Rattle.expr_rules.specs.Calls.{no_overlap, by_var}
use Rattle.expr_rules.specs.Paths.{overlaps_any}
use Rattle.expr_parts.specs.View.{paths_in, argument_of}
use Rattle.arc_base.proofs.ForCallers.{goes, stops}
use Rattle.expr_parts.proofs.arguments.passed_as_var.Goals as goal

pub returns-in-Ok : goal.returns-in-Ok
returns-in-Ok c = λ ts.
    let p = path_in ts c.args.path in
    let a = c.args.writable in
    let o = overlaps_any p (map (path_in ts) (paths_in c.args.before.now)) in
    goes (argument_of ts) (path_in ts) (no_overlap a o c.args.at p) (λ p. Ok (by_var p)) c.in-Ok.path (Ok (argument.At c.in-Ok.path))
    (c.in-Ok.ensures ts) refl

pub returns-in-Err : goal.returns-in-Err
returns-in-Err c = λ ts.
    let p = path_in ts c.args.path in
    let a = c.args.writable in
    let o = overlaps_any p (map (path_in ts) (paths_in c.args.before.now)) in
    stops (argument_of ts) (path_in ts) (no_overlap a o c.args.at p) (λ p. Ok (by_var p)) c.in-Err.stop (c.in-Err.ensures ts)
