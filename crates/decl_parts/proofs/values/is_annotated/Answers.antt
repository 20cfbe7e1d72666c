use Rattle.std.proofs.Common.{ap, ◌∙◌}
use Rattle.nim_types.specs.Table.{type_at}
use Rattle.nim_program.specs.View.{if_type}
use Rattle.decl_parts.specs.View.{no_other_type}
use Rattle.decl_parts.proofs.values.is_annotated.Goals as goal

pub returns-in-Some : goal.returns-in-Some
returns-in-Some c = λ ts facts u. ap (λ o. no_other_type (if_type ts o) (type_at ts c.args.of)) c.in-Some.is ∙ c.is_same.ensures ts facts u
