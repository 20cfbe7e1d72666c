use Rattle.std.proofs.Common.{◌++◌, ap, ◌∙◌}
use Rattle.nim_program.specs.View.{expr_of}
use Rattle.nim_meaning.specs.Waiting.{waiting}
use Rattle.flattening.specs.Views.{types_of, facts_of, modes_of, own_lines, waits_own}
use Rattle.flattening.proofs.WaysOut.{waits_end}
use Rattle.flattening.proofs.Writing.{puts_as}
use Rattle.flattening.proofs.waits.put_value_ends.Goals as goal

pub returns-in-Ok : goal.returns-in-Ok
returns-in-Ok c =
    let a = c.args.around.now in
    let waits = waiting (facts_of a) (modes_of a) (expr_of (types_of a) c.args.value.now) c.args.how in
    puts_as (own_lines c.as_slice.result.now) _ c.put_ends.ensures
    (λ k. ap (λ es. own_lines es k) (c.as_slice.ensures ∙ c.in-Ok.ensures ∙ ap (λ es. es ++ waits_own (types_of a) waits) c.new-ends.ensures)
    ∙ ap (λ g. g k) (waits_end (types_of a) waits))
