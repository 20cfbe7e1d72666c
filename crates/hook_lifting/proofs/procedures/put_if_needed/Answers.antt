use Rattle.std.proofs.Common.{sym, ap, ◌∙◌, Bool}
use Rattle.std.specs.Prelude.{if◌then◌else◌}
use Rattle.hook_lifting.specs.Lifted.{to_part, one_part}
use Rattle.hook_lifting.proofs.Writing.{puts_as}
use Rattle.hook_lifting.proofs.procedures.put_if_needed.Goals as goal

pub returns-then-is_needed : goal.returns-then-is_needed
returns-then-is_needed c =
    let a = c.args in
    puts_as (to_part a.hook a.ty a.part) (one_part a.types.now a.hook a.ty a.part) c.put_part.ensures
    (λ k. ap (λ (b : Bool). if b then to_part a.hook a.ty a.part k else k) (sym (sym c.is_needed.ensures ∙ c.if-is_needed.true)))
