use Rattle.std.proofs.Common.{ap, ◌∙◌}
use Rattle.nim_types.specs.Types as type
use Rattle.nim_types.specs.Types.{same}
use Rattle.nim_types.specs.Table.{type_at}
use Rattle.nim_program.specs.View.{if_type}
use Rattle.decl_heads.specs.ViewHeads.{is_bool_type}
use Rattle.decl_heads.proofs.Borrowers.{bool_is}
use Rattle.decl_heads.proofs.borrowing.gives_bool.Goals as goal

pub returns-in-Some : goal.returns-in-Some
returns-in-Some c = λ ts facts u.
    ap (λ o. is_bool_type (if_type ts o)) c.in-Some.is ∙ bool_is (type_at ts c.in-Some.ty) ∙ ap (same type.bool) (c.entry.ensures.means ts facts u)
    ∙ c.is_bool.ensures ts
