use Rattle.nim_meaning.proofs.ProgramSites.{from_site, into_site, no_site}
use Rattle.nim_meaning.proofs.laws_of_acts.program_sites.Goals as goal

pub returns : goal.returns
returns c = record {
  trees = λ program sinks site. (from_site program sinks site, into_site program sinks site);
  none = no_site;
}
