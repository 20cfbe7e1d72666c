use Rattle.std.proofs.Common.{refl}
use Rattle.nim_types.specs.Forms.{of_object, of_ref, none_of, more_of}
use Rattle.nim_types.specs.Examples.{endless_fact}
use Rattle.nim_types.proofs.Forming.{no_form}
use Rattle.nim_types.proofs.laws.type_examples.Goals as goal

pub returns-clause-node_has : goal.returns-clause-node_has
returns-clause-node_has c = of_object refl (more_of of_ref none_of)

pub returns-clause-endless : goal.returns-clause-endless
returns-clause-endless c = λ f h. no_form endless_fact _ _ _ f refl refl h
