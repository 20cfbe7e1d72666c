use Rattle.std.proofs.Common.{ap, ◌∙◌, []}
use Rattle.std.specs.Prelude.{is_some}
use Rattle.nim_types.specs.Types.{same}
use Rattle.nim_types.specs.Table.{type_at}
use Rattle.expr_rules.specs.Answers.{settled}
use Rattle.expr_parts.specs.View.{operand_of, valued_of, is_sequence, is_sequence_in, is_of}
use Rattle.expr_parts.proofs.Settling.{some_only, some_open, value_below}
use Rattle.expr_parts.proofs.TypeNumbers.{interned_under}
use Rattle.expr_parts.proofs.settle.settles.Goals as goal

pub returns-in-Value-clause-means : goal.returns-in-Value-clause-means
returns-in-Value-clause-means c = λ ts facts u.
    let ty = type_at ts c.args.ty in
    let v = c.in-Value.value in
    ap (λ o. is_some (settled ty (operand_of ts o))) c.in-Value.is
    ∙ some_only (same ty (type_at ts v.ty)) (valued_of ts v)
    ∙ interned_under c.args.ty v.ty u c.requires.ty (value_below _ _ v c.in-Value.is c.requires.operand)

pub returns-in-Open-clause-means : goal.returns-in-Open-clause-means
returns-in-Open-clause-means c = λ ts facts u.
    let ty = type_at ts c.args.ty in
    ap (λ o. is_some (settled ty (operand_of ts o))) c.in-Open.is ∙ some_open ty c.in-Open.at c.in-Open.number
    ∙ ap is_sequence (c.entry.ensures.means ts facts u) ∙ c.is_sequence.ensures ts

pub returns-in-Value-clause-number : goal.returns-in-Value-clause-number
returns-in-Value-clause-number c = ap (is_of c.args.types.now c.args.ty) c.in-Value.is

pub returns-in-Open-clause-number : goal.returns-in-Open-clause-number
returns-in-Open-clause-number c =
    ap (is_of c.args.types.now c.args.ty) c.in-Open.is ∙ ap is_sequence_in c.entry.ensures.entry ∙ c.is_sequence.ensures []
