use Rattle.parse_decls.proofs.Heads.{head}
use Rattle.parse_decls.proofs.Claims.{agrees}
use Rattle.parse_decls.proofs.laws.heads_agree.Goals as goal

pub returns : goal.returns
returns c = λ x i. agrees (head x i)
