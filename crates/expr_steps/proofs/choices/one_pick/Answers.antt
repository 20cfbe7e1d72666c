use Rattle.std.proofs.Common.{sym, refl, subst, ap, ◌∙◌}
use Rattle.nim_types.specs.Table.{IsBelow}
use Rattle.nim_program.specs.Program.{NoArg}
use Rattle.nim_program.specs.View.{picks_of, pick_labels}
use Rattle.expr_rules.specs.Choices.{branching_behind}
use Rattle.expr_parts.specs.View.{branching_of}
use Rattle.expr_steps.proofs.Branched.{picks_more, rows_more, same_picked}
use Rattle.expr_steps.proofs.choices.one_pick.Goals as goal

pub returns-clause-made : goal.returns-clause-made
returns-clause-made c = λ ts.
    same_picked c.args.next
    (ap pick_labels c.in_ok-push.ensures.items ∙ rows_more c.args.picks.items (record { labels = c.args.tests.own; value = c.args.value })) refl
    (ap (λ all. picks_of ts all NoArg) c.in_ok-push.ensures.items
    ∙ picks_more ts c.args.picks.items (record { labels = c.args.tests.own; value = c.args.value }))
    (c.behind.ensures.branching ts ∙ ap (branching_behind (branching_of ts c.args.values)) (c.type_number-ty.ensures.ty ts))

pub returns-clause-within : goal.returns-clause-within
returns-clause-within c = λ n h w. c.behind.ensures.within n (subst (IsBelow n) (sym c.type_number-ty.ensures.number) w) h
