use Rattle.std.proofs.Common.{◌∙◌, ap}
use Rattle.nim_types.specs.Types as type
use Rattle.nim_types.specs.Types.{same}
use Rattle.nim_types.specs.Table.{type_at}
use Rattle.nim_program.specs.View.{if_type}
use Rattle.decl_parts.specs.View.{is_text_type}
use Rattle.decl_parts.proofs.Matching.{text_is}
use Rattle.decl_parts.proofs.heads.gives_text.Goals as goal

pub returns-in-Some : goal.returns-in-Some
returns-in-Some c = λ ts facts u.
    ap (λ o. is_text_type (if_type ts o)) c.in-Some.is ∙ text_is (type_at ts c.in-Some.ty) ∙ ap (same type.text) (c.entry.ensures.means ts facts u)
    ∙ c.is_text.ensures ts
