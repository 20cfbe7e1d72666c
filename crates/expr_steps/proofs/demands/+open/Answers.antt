use Rattle.std.proofs.Common.{sym, ap, ◌∙◌}
use Rattle.nim_tree.specs.Terms.{parts_of, sequence}
use Rattle.expr_rules.specs.Demands.{open_at}
use Rattle.expr_steps.proofs.Demanding.{opened_by}
use Rattle.expr_steps.proofs.demands.+open.Goals as goal

pub returns-in-Sequence : goal.returns-in-Sequence
returns-in-Sequence t c =
    opened_by c.args.tree.now _ _ c.in-Sequence.is
    ∙ ap (λ ts. open_at (sequence c.in-Sequence.at (parts_of ts))) (sym c.deref-in-Sequence.ensures.value) ∙ c.open_in.ensures
