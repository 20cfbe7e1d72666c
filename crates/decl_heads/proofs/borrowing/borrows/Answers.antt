use Rattle.std.proofs.Common.{ap, ◌∙◌, sym, subst, List, Bool, length}
use Rattle.std.specs.Prelude.{map, ◌&&◌}
use Rattle.nim_types.specs.Table.{type_at}
use Rattle.expr_parts.specs.declared.scope.Parameter.{Parameter}
use Rattle.expr_parts.specs.View.{parameter_of, ParametersWithin}
use Rattle.decl_rules.specs.Heads.{takes_first}
use Rattle.decl_heads.proofs.borrowing.borrows.Goals as goal

pub returns : goal.returns
returns c = λ ts facts u.
    let p = c.args.procedure.now in
    ap (λ (b : Bool). p.borrowed && b)
    (ap (λ (l : List Parameter). takes_first (type_at ts c.args.ty) (map (parameter_of ts) l)) (sym c.as_slice.ensures) ∙ c.takes_first.ensures ts facts u)
    ∙ c.both.ensures

pub takes_first-requires-clause-params : goal.takes_first-requires-clause-params
takes_first-requires-clause-params c = subst (ParametersWithin (length c.args.types.now)) (sym c.as_slice.ensures) c.requires.params
