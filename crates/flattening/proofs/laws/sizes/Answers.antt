use Rattle.flattening.proofs.Constants.{constants_most}
use Rattle.flattening.proofs.DataSizes.{start_most}
use Rattle.flattening.proofs.Texts.{times_most}
use Rattle.flattening.proofs.WaitCounts.{all_few}
use Rattle.flattening.proofs.Weights.{weighs}
use Rattle.flattening.proofs.laws.sizes.Goals as goal

pub returns-clause-weight : goal.returns-clause-weight
returns-clause-weight c = λ program plan. weighs program plan

pub returns-clause-waiting : goal.returns-clause-waiting
returns-clause-waiting c = λ program plan. all_few program plan

pub returns-clause-globals : goal.returns-clause-globals
returns-clause-globals c = λ program plan typed numbered. start_most program plan typed numbered

pub returns-clause-texts : goal.returns-clause-texts
returns-clause-texts c = λ program plan text. times_most text program plan

pub returns-clause-constants : goal.returns-clause-constants
returns-clause-constants c = λ program plan. constants_most program plan
