use Rattle.parse_decls.proofs.Definitions.{definition}
use Rattle.parse_decls.proofs.Claims.{agrees}
use Rattle.parse_decls.proofs.laws.definitions_agree.Goals as goal

pub returns : goal.returns
returns c = λ x i. agrees (definition x i)
