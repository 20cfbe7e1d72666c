use Rattle.std.proofs.Common.{◌<◌, length, sym, ap, subst, ◌∙◌}
use Rattle.std.specs.Prelude.{◌&&◌}
use Rattle.nim_program.specs.Program.{NoArg}
use Rattle.nim_program.specs.View.{operand_before}
use Rattle.nim_meaning.specs.Shapes.{is_covered, selector_type}
use Rattle.flattening.specs.Views.{types_of}
use Rattle.flattening.proofs.BlockPuts.{some_stmts}
use Rattle.flattening.proofs.LastOnes.{never}
use Rattle.flattening.proofs.stmt_acts.may_close.Goals as goal

pub returns-in-Some : goal.returns-in-Some
returns-in-Some c =
    let ts = types_of c.args.around.now in
    let covered = is_covered (selector_type (operand_before ts c.args.selector.now NoArg)) in
    let some = some_stmts ts c.args.otherwise.now.items (subst (λ l. 0 < length l) c.deref.ensures.value c.in-Some.ensures.lookup.3.0) in
    sym (ap (λ b. covered && b) some ∙ never covered)
