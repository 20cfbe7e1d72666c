use Rattle.rv32_runner.proofs.Calling.{ran_goes, ran_faults}
use Rattle.rv32_runner.proofs.runner.instruct.Goals as goal

pub returns-in-Went : goal.returns-in-Went
returns-in-Went g c = record {
  regions = c.memories.ensures.goes _ _ c.requires.regions c.in-Went.ensures;
  ran = ran_goes _ _ _ c.in-Went.ensures;
}

pub returns-in-Fault : goal.returns-in-Fault
returns-in-Fault g c =
    let e = c.in-Fault.ensures in
    record {
      regions = rw e.1 c.requires.regions;
      ran = rw e.1 (ran_faults _ _ _ _ _ e.0);
    }
