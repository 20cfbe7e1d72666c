use Rattle.std.proofs.Common.{ap, ◌∙◌, sym}
use Rattle.std.specs.Prelude.{option_map, is_some, nat_eq}
use Rattle.nim_types.specs.Table.{type_at}
use Rattle.expr_rules.specs.Answers.{settled, only_if}
use Rattle.expr_parts.specs.View.{operand_of, valued_of, is_sequence_in, is_of}
use Rattle.expr_parts.proofs.Settling.{map_only, some_only, value_below}
use Rattle.expr_parts.proofs.TypeNumbers.{interned_under}
use Rattle.expr_parts.proofs.settle.settle.Goals as goal

pub returns-in-Value-clause-given : goal.returns-in-Value-clause-given
returns-in-Value-clause-given c = λ ts facts u.
    let v = c.in-Value.value in
    ap (option_map (valued_of ts)) c.only_if.ensures ∙ map_only (valued_of ts) (nat_eq c.args.ty v.ty) v
    ∙ ap (λ b. only_if b (valued_of ts v)) (sym (interned_under c.args.ty v.ty u c.requires.ty (value_below _ _ v c.in-Value.is c.requires.operand)))
    ∙ ap (λ o. settled (type_at ts c.args.ty) (operand_of ts o)) (sym c.in-Value.is)

pub returns-in-Open-clause-given : goal.returns-in-Open-clause-given
returns-in-Open-clause-given c = λ ts facts u.
    c.open_as.ensures.given ts (c.entry.ensures.means ts facts u)
    ∙ ap (λ o. settled (type_at ts c.args.ty) (operand_of ts o)) (sym c.in-Open.is)

pub returns-in-Value-clause-comes : goal.returns-in-Value-clause-comes
returns-in-Value-clause-comes c =
    let v = c.in-Value.value in
    ap is_some c.only_if.ensures ∙ some_only (nat_eq c.args.ty v.ty) v ∙ ap (is_of c.args.types.now c.args.ty) (sym c.in-Value.is)

pub returns-in-Open-clause-comes : goal.returns-in-Open-clause-comes
returns-in-Open-clause-comes c =
    c.open_as.ensures.comes ∙ ap is_sequence_in (sym c.entry.ensures.entry) ∙ ap (is_of c.args.types.now c.args.ty) (sym c.in-Open.is)
