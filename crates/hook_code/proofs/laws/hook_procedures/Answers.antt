use Rattle.hook_code.proofs.HookNumbers.{are_there, cuts_there}
use Rattle.hook_code.proofs.HookShapes.{all_formed, all_unhooked}
use Rattle.hook_code.proofs.laws.hook_procedures.Goals as goal

pub returns-clause-formed : goal.returns-clause-formed
returns-clause-formed c = λ table first. all_formed table first

pub returns-clause-unhooked : goal.returns-clause-unhooked
returns-clause-unhooked c = λ table first. all_unhooked table first

pub returns-clause-there : goal.returns-clause-there
returns-clause-there c = λ table first shift before after free. are_there table first shift before after free

pub returns-clause-cuts_there : goal.returns-clause-cuts_there
returns-clause-cuts_there c = λ table first shift before after free. cuts_there table first shift before after free
