use Rattle.std.proofs.Common.{refl, ◌+◌}
use Rattle.nim_program.specs.Sizes.{if_place_bytes, body_sum}
use Rattle.nim_meaning.specs.Meaning.{frame_of}
use Rattle.holders.proofs.territories.calls_as_a_whole.Goals as goal
use Rattle.holders.proofs.Called.{call_comes}

pub returns : goal.returns
returns c r gs ms ns first places nodes old here f globals params body slots s level_is count below ends result body_so =
    call_comes r gs first places nodes old s.world (frame_of here.facts body slots) here level_is count below params body
    (body_sum here.facts globals params body + if_place_bytes here.facts body.result) ends result s refl body_so
