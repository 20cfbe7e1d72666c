use Rattle.std.proofs.Common.{refl}
use Rattle.nim_types.specs.Table.{types_in, facts_in}
use Rattle.nim_program.specs.View.{program_under}
use Rattle.nim_program.specs.Folds.{in_bodies}
use Rattle.program_limits.specs.Meeting.{none_found, before, body_before}
use Rattle.program_limits.proofs.Meets.{all_met}
use Rattle.program_limits.proofs.block_texts.texts_size.Goals as goal

pub returns : goal.returns
returns c =
    let table = c.args.program.now.types in
    let ts = types_in table in
    let start = c.of_block.ensures ts none_found c.no_texts-texts.ensures in
    let program = program_under ts (facts_in table) c.args.program.now in
    all_met program c.all_size.result (in_bodies before body_before program none_found) refl
    (c.all_size.ensures (in_bodies before body_before program none_found) c.if-texts.false (c.of_procs.ensures ts _ start))
