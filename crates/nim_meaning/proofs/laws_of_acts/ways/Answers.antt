use Rattle.nim_meaning.proofs.ArrowLemmas.{flows_same, arrows_same}
use Rattle.nim_meaning.proofs.laws_of_acts.ways.Goals as goal

pub returns-clause-flows : goal.returns-clause-flows
returns-clause-flows c = flows_same

pub returns-clause-arrows : goal.returns-clause-arrows
returns-clause-arrows c = arrows_same
