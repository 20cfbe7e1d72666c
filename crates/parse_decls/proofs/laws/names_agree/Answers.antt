use Rattle.parse_decls.proofs.NameLists.{names}
use Rattle.parse_decls.proofs.Claims.{agrees}
use Rattle.parse_decls.proofs.laws.names_agree.Goals as goal

pub returns : goal.returns
returns c = λ x i. agrees (names x i)
