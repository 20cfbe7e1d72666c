use Rattle.std.proofs.Common.{◌≡◌, Some, sym, ap, subst, ◌∙◌, arith}
use Rattle.std.specs.Prelude.{true, IfSome, slice_get}
use Rattle.expr_parts.proofs.ForCallers.{if_ok}
use Rattle.decl_types.specs.declared.known.Definition.{Definition}
use Rattle.decl_types.specs.ViewMarks.{is_next}
use Rattle.decl_types.specs.ViewReading.{defined_at}
use Rattle.decl_types.proofs.Nexting.{next_by_rule}
use Rattle.decl_types.proofs.Counting.{next_found, next_stuck}
use Rattle.decl_types.proofs.occurring.next_known.Goals as goal

pub returns-clause-next : goal.returns-clause-next
returns-clause-next c = if_ok c.next_from.result c.next_from.ensures.next (λ next e n m ts keys known r.
    next_by_rule n m ts keys known c.args.marks.now c.args.read.now 0 r (λ i lt. absurd (omega (arith, lt)))
    ∙ ap (defined_at ts keys c.args.read.now) (sym e))

pub returns-clause-found : goal.returns-clause-found
returns-clause-found c = if_ok c.next_from.result c.next_from.ensures.next (λ next e.
    subst (λ o. IfSome o (λ n. (d : Definition) → slice_get c.args.read.now n ≡ Some d → is_next c.args.marks.now n d ≡ true)) (sym e)
    (next_found c.args.marks.now c.args.read.now))

pub returns-clause-stuck : goal.returns-clause-stuck
returns-clause-stuck c = if_ok c.next_from.result c.next_from.ensures.next (λ next e none.
    next_stuck c.args.marks.now c.args.read.now (sym e ∙ none))
