use Rattle.nim_program.specs.View.{literal_of}
use Rattle.program_limits.specs.Data.{linked_bytes}
use Rattle.program_limits.specs.Meeting.{literal_before}
use Rattle.program_limits.proofs.texts.of_constant.Goals as goal

pub returns : goal.returns
returns c met h =
    let l = literal_of c.args.literal.now in c.link.ensures (linked_bytes l) (literal_before l met) c.linked_bytes.ensures (c.of_literal.ensures met h)
