use Rattle.std.proofs.Common.{◌∙◌, ap, sym}
use Rattle.std.specs.Prelude.{option_map}
use Rattle.nim_meaning.specs.LeftOut.{left_out_in_head}
use Rattle.nim_program.specs.Folds.{if_declared}
use Rattle.nim_program.specs.View.{declared_of}
use Rattle.program_limits.specs.Known.{known_types, known_facts}
use Rattle.program_limits.proofs.Firsts.{or_nothing}
use Rattle.program_limits.proofs.plain.of_result.Goals as goal

pub returns-in-Some : goal.returns-in-Some
returns-in-Some c =
    let ts = known_types c.args.known.now in
    let facts = known_facts c.args.known.now in
    c.of_place.ensures ∙ sym (or_nothing _) ∙
    sym (ap (λ p. left_out_in_head facts c.args.number (if_declared (option_map (declared_of ts) p))) c.in-Some.is)
