use Rattle.parse_decls.proofs.Definitions.{definition_block}
use Rattle.parse_decls.proofs.Claims.{agrees}
use Rattle.parse_decls.proofs.laws.definition_blocks_agree.Goals as goal

pub returns : goal.returns
returns c = λ x n. agrees (definition_block x n)
