use Rattle.holders.proofs.territories.parts_of_bodies.Goals as goal
use Rattle.holders.proofs.Staging.{stage_moves, stage_takes, stage_hands, stage_declares, stage_waits, stage_takes_up, stage_over, no_given}
use Rattle.holders.proofs.Groups.{group_ends}
use Rattle.holders.proofs.Statements.{fill_comes}
use Rattle.holders.proofs.PlaceCopies.{fill_from_comes}
use Rattle.holders.proofs.Results.{result_comes}
use Rattle.holders.proofs.Reading.{path_comes}
use Rattle.holders.proofs.Making.{row_so}
use Rattle.holders.proofs.Framing.{absorbed}

pub returns-clause-moved : goal.returns-clause-moved
returns-clause-moved c r ms gs first places nodes old start now after s m = stage_moves r gs first places old start s m

pub returns-clause-took : goal.returns-clause-took
returns-clause-took c f x r ms gs first places nodes old start now after h m = stage_takes r gs first places old start h m

pub returns-clause-handed_out : goal.returns-clause-handed_out
returns-clause-handed_out c f x r ms gs first places nodes old start now after s h =
    stage_hands r gs first places old start s (no_given r gs first places old start) h

pub returns-clause-declared : goal.returns-clause-declared
returns-clause-declared c f x r ms gs first places n nodes old start now h le less mine off = stage_declares r gs first places old start n h le less mine off

pub returns-clause-waits : goal.returns-clause-waits
returns-clause-waits c f x r ms gs first places node nodes old start now mine h off = stage_waits r gs first places old start node mine h off

pub returns-clause-taken_up : goal.returns-clause-taken_up
returns-clause-taken_up c f r ms gs first places node nodes old start now mine s = stage_takes_up r gs first places old start node mine s

pub returns-clause-over : goal.returns-clause-over
returns-clause-over c f r ms gs first places n nodes old start now mine s = stage_over r gs first places old start n mine s

pub returns-clause-group : goal.returns-clause-group
returns-clause-group c r ms ns gs first places nodes old start ws flow mine e s h =
    group_ends r gs first places old start (λ way after. ⊥) flow mine e s h

pub returns-clause-absorbed : goal.returns-clause-absorbed
returns-clause-absorbed c r inner ms ks gs first places nodes old start now w own s = absorbed ks w own s

pub returns-clause-filled : goal.returns-clause-filled
returns-clause-filled c f v r ms gs first places n nodes old start here s level_is h le less mine off =
    fill_comes here n (λ way after. ⊥) level_is s h le less mine off

pub returns-clause-copied : goal.returns-clause-copied
returns-clause-copied c r ms gs first places nodes old start here place l s level_is h le less mine off source other =
    fill_from_comes r gs first places nodes old start here place (λ way after. ⊥) level_is s h le less mine off source other

pub returns-clause-result : goal.returns-clause-result
returns-clause-result c v r ms gs first places nodes old start here place s h chain =
    result_comes r ms gs first places nodes old start here place (λ way after. ⊥) s h chain

pub returns-clause-read : goal.returns-clause-read
returns-clause-read c r ms gs first places nodes old start may root aim here how path s level_is mine off h aims =
    path_comes r ms gs first places nodes old start here how path (λ way after. ⊥) level_is s mine off h aims

pub returns-clause-made : goal.returns-clause-made
returns-clause-made c f how node deed r ms gs first places nodes old start now mine off h =
    row_so r ms gs first places nodes old start f now how node deed mine off h
