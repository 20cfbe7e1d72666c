use Rattle.std.proofs.Common.{ap, ◌∙◌}
use Rattle.std.specs.Prelude.{map, option_map}
use Rattle.nim_program.specs.View.{declared_of, param_of, stmts_of}
use Rattle.flattening.specs.Views.{types_of, facts_of, modes_of, result_of}
use Rattle.flattening.proofs.BlockPuts.{body_done}
use Rattle.flattening.proofs.Writing.{puts_two}
use Rattle.flattening.proofs.program.lines_of_body.Goals as goal

pub returns : goal.returns
returns c e =
    let a = c.args.around.now in
    let ts = types_of a in
    body_done ts (facts_of a) (modes_of a) (result_of a) (option_map (declared_of ts) c.args.body.now.result) (map (param_of ts) c.args.params.now)
    (stmts_of ts c.args.body.now.stmts.items) c.as_slice.result.now c.new-code.result c.put_leave.new.code c.finish.result c.new-code.ensures
    (ap (option_map (declared_of ts)) e) (c.as_slice.ensures ∙ c.in_ok-ends.ensures) (puts_two c.add_block.ensures c.put_leave.ensures)
    c.finish.ensures
