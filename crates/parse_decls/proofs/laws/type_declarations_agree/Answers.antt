use Rattle.parse_decls.proofs.Declarations.{declarations}
use Rattle.parse_decls.proofs.Claims.{agrees}
use Rattle.parse_decls.proofs.laws.type_declarations_agree.Goals as goal

pub returns : goal.returns
returns c = λ x n. agrees (declarations x n)
