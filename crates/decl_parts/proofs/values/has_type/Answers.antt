use Rattle.std.proofs.Common.{ap, ◌∙◌}
use Rattle.nim_types.specs.Table.{type_at}
use Rattle.decl_rules.specs.Values.{has_type}
use Rattle.decl_parts.specs.View.{if_result}
use Rattle.decl_parts.proofs.values.has_type.Goals as goal

pub returns-in-Some : goal.returns-in-Some
returns-in-Some c = λ ts facts u. ap (λ o. has_type (if_result ts o) (type_at ts c.args.ty)) c.in-Some.is ∙ c.is_same.ensures ts facts u
