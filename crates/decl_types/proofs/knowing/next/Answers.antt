use Rattle.std.proofs.Common.{◌≡◌, Some, sym, subst, ◌∙◌}
use Rattle.std.specs.Prelude.{true, IfSome, slice_get}
use Rattle.decl_types.specs.ViewMarks.{is_next, Stuck}
use Rattle.decl_types.specs.declared.known.Definition.{Definition}
use Rattle.decl_types.specs.ViewReading.{IsReading}
use Rattle.decl_types.proofs.Outcomes.{if_map}
use Rattle.decl_types.proofs.knowing.next.Goals as goal

pub returns-clause-next : goal.returns-clause-next
returns-clause-next c =
    if_map c.next_known.result c.next_known.ensures.next (λ next h. λ n m ts keys k r.
    h n m ts keys k (subst (λ marks. IsReading n m ts keys k marks c.args.read.now) (sym (c.as_slice.ensures.value ∙ c.in_ok-marks.ensures)) r))

pub returns-clause-found : goal.returns-clause-found
returns-clause-found c =
    let e = c.as_slice.ensures.value ∙ c.in_ok-marks.ensures in
    if_map c.next_known.result c.next_known.ensures.found (λ next h.
    subst (λ marks. IfSome next (λ n. (d : Definition) → slice_get c.args.read.now n ≡ Some d → is_next marks n d ≡ true)) e h)

pub returns-clause-stuck : goal.returns-clause-stuck
returns-clause-stuck c =
    let e = c.as_slice.ensures.value ∙ c.in_ok-marks.ensures in
    if_map c.next_known.result c.next_known.ensures.stuck (λ next h none. subst (λ marks. Stuck marks c.args.read.now) e (h none))
