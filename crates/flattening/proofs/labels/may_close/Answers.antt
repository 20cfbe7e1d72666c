use Rattle.std.proofs.Common.{sym, ap, ◌∙◌}
use Rattle.std.specs.Prelude.{◌&&◌, option_map}
use Rattle.nim_program.specs.Program.{NoArg}
use Rattle.nim_program.specs.View.{operand_before, if_value}
use Rattle.nim_meaning.specs.Shapes.{is_covered, selector_type, is_last_value}
use Rattle.flattening.specs.Views.{types_of}
use Rattle.flattening.proofs.LastOnes.{never, always}
use Rattle.flattening.proofs.labels.may_close.Goals as goal

pub returns-in-None : goal.returns-in-None
returns-in-None c =
    let ts = types_of c.args.around.now in
    let covered = is_covered (selector_type (operand_before ts c.args.selector.now NoArg)) in
    c.covers.ensures ∙ sym (ap (λ o. covered && is_last_value (if_value ts (option_map (λ e. e.value) o))) c.in-None.is ∙ always covered)

pub returns-in-Some : goal.returns-in-Some
returns-in-Some c =
    let ts = types_of c.args.around.now in
    let covered = is_covered (selector_type (operand_before ts c.args.selector.now NoArg)) in
    sym (ap (λ o. covered && is_last_value (if_value ts (option_map (λ e. e.value) o))) c.in-Some.is ∙ never covered)
