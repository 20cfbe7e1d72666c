use Rattle.std.proofs.Common.{sym, subst}
use Rattle.std.specs.Prelude.{option_map}
use Rattle.nim_program.specs.Folds.{if_body}
use Rattle.nim_program.specs.View.{body_of}
use Rattle.program_limits.specs.Meeting.{Met, before, body_before}
use Rattle.program_limits.proofs.block_texts.of_body.Goals as goal

pub returns-in-Some : goal.returns-in-Some
returns-in-Some c ts met h =
    subst (λ b. Met c.of_block.new.texts (if_body before body_before (option_map (body_of ts) b) met)) (sym c.in-Some.is) (c.of_block.ensures ts met h)
