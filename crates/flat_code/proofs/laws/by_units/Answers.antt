use Rattle.flat_code.proofs.ByUnits.{same_within, works_within, front_within, sound_within, steady_within}
use Rattle.flat_code.proofs.Standstill.{stands_still}
use Rattle.flat_code.proofs.laws.by_units.Goals as goal

pub returns-clause-same : goal.returns-clause-same
returns-clause-same g c label_of does procs units heap input n =
    let s = same_within label_of does procs units heap input n in (s.events, s.phase)

pub returns-clause-front : goal.returns-clause-front
returns-clause-front g c label_of does procs units heap input n =
    let f = front_within label_of does procs units heap input n in (f.0, (f.1.events, f.1.phase))

pub returns-clause-sound : goal.returns-clause-sound
returns-clause-sound g c label_of does procs units heap input sound = sound_within label_of does procs units heap input sound

pub returns-clause-steady : goal.returns-clause-steady
returns-clause-steady g c label_of does procs units heap input = steady_within label_of does procs units heap input

pub returns-clause-stands : goal.returns-clause-stands
returns-clause-stands g c label_of does procs units heap input = stands_still label_of does procs units heap input

pub returns-clause-work : goal.returns-clause-work
returns-clause-work g c label_of does procs units heap input n k le = works_within label_of does procs units heap input n k le
