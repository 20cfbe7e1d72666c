use Rattle.std.proofs.Common.{ap, sym, ◌∙◌, Some}
use Rattle.nim_types.specs.Table.{type_at}
use Rattle.nim_program.specs.Program.{Literals}
use Rattle.nim_program.specs.View.{literals_of}
use Rattle.expr_rules.specs.Constants.{on_one, object_of, with_values}
use Rattle.expr_constants.specs.ViewConstants.{evaluated_of, values_of}
use Rattle.expr_parts.proofs.ForCallers.{if_ok}
use Rattle.expr_constants.proofs.defaults.construct.Goals as goal

pub returns-in-Comes : goal.returns-in-Comes
returns-in-Comes c = if_ok c.object_with.result c.object_with.ensures (λ e h ts facts u.
    let go = λ (ls : Literals). object_of facts (Some (type_at ts c.args.ty)) (with_values c.args.fields.now ls) in
    h ts facts u ∙ ap (λ xs. go (literals_of xs)) c.as_slice.ensures.value
    ∙ sym (ap (λ g. on_one go (evaluated_of values_of g)) c.in-Comes.is))
