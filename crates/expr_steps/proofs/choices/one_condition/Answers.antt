use Rattle.std.proofs.Common.{sym, subst, ap, ◌∙◌}
use Rattle.nim_types.specs.Table.{IsBelow}
use Rattle.nim_program.specs.Program.{NoArg}
use Rattle.nim_program.specs.View.{choices_of}
use Rattle.expr_rules.specs.Choices.{branching_behind}
use Rattle.expr_parts.specs.View.{branching_of}
use Rattle.expr_steps.proofs.Branched.{choices_more, same_chosen}
use Rattle.expr_steps.proofs.choices.one_condition.Goals as goal

pub returns-clause-made : goal.returns-clause-made
returns-clause-made c = λ ts.
    same_chosen c.args.next
    (ap (λ all. choices_of ts all NoArg) c.in_ok-push.ensures.items ∙ choices_more ts c.args.before.choices.items
    (record { condition = c.args.condition; value = c.args.value }))
    (c.behind.ensures.branching ts ∙ ap (branching_behind (branching_of ts c.args.before.values)) (c.type_number-ty.ensures.ty ts))

pub returns-clause-within : goal.returns-clause-within
returns-clause-within c = λ n h w. c.behind.ensures.within n (subst (IsBelow n) (sym c.type_number-ty.ensures.number) w) h
