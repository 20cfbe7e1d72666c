use Rattle.std.proofs.Common.{refl}
use Rattle.nim_program.specs.declared.program.Mode.TheVariants.{Plain}
use Rattle.nim_meaning.specs.Ways.{Stop}
use Rattle.nim_meaning.specs.Here.{is_hooked}
use Rattle.nim_meaning.specs.Arrows.{Among}
use Rattle.nim_meaning.specs.ActsOf.{stmts_acts}
use Rattle.nim_meaning.specs.ActExamples.{none_raised}
use Rattle.nim_meaning.specs.SiteExamples.{taking_part, taking_part_ways, giving_number, giving_number_ways}
use Rattle.nim_meaning.proofs.ArrowLemmas.{arrows_same}
use Rattle.nim_meaning.proofs.RunBlocks.{exec_block}
use Rattle.nim_meaning.proofs.laws_of_acts.at_points.Goals as goal

pub returns-clause-part : goal.returns-clause-part
returns-clause-part c = λ here.
    (exec_block none_raised (λ p d q. Among p d q taking_part_ways) (λ proc i. Plain) here taking_part refl).does Stop
    (λ p d q e. (arrows_same none_raised (stmts_acts (is_hooked here.facts) (λ proc i. Plain) here.result taking_part) Stop p d q).0 e)

pub returns-clause-number : goal.returns-clause-number
returns-clause-number c = λ here.
    (exec_block none_raised (λ p d q. Among p d q giving_number_ways) (λ proc i. Plain) here giving_number refl).does Stop
    (λ p d q e. (arrows_same none_raised (stmts_acts (is_hooked here.facts) (λ proc i. Plain) here.result giving_number) Stop p d q).0 e)
