use Rattle.std.proofs.Common.{sym, ap}
use Rattle.nim_program.specs.View.{kind_of, operands_of}
use Rattle.nim_meaning.specs.TreeSites.{loop_sites}
use Rattle.plain_plan.specs.Views.{types_of, facts_of, modes_of}
use Rattle.plain_plan.proofs.Adding.{adds_two, adds_as}
use Rattle.plain_plan.proofs.blocks.add_loop.Goals as goal

pub returns-in-Each : goal.returns-in-Each
returns-in-Each c =
    let a = c.args.around.now in
    let ts = types_of a in
    adds_as (adds_two c.add_operands-in-Each.ensures c.add_element.ensures)
    (ap (λ k. loop_sites (facts_of a) (modes_of a) (kind_of ts k) (operands_of ts c.args.head.now.items)) (sym c.in-Each.is))
