use Rattle.std.proofs.Common.{ap}
use Rattle.std.specs.Prelude.{option_map}
use Rattle.nim_tree.specs.Types.{written_of}
use Rattle.decl_rules.specs.Heads.{has_result}
use Rattle.decl_heads.proofs.signature.has_result.Goals as goal

pub returns-in-Some : goal.returns-in-Some
returns-in-Some c = ap (λ o. has_result (option_map written_of o)) c.in-Some.is

pub returns-in-None : goal.returns-in-None
returns-in-None c = ap (λ o. has_result (option_map written_of o)) c.in-None.is
