use Rattle.std.proofs.Common.{ap₂, ◌∙◌, Bool}
use Rattle.std.specs.Prelude.{◌&&◌}
use Rattle.decl_heads.proofs.borrowing.borrows_comparison.Goals as goal

pub returns : goal.returns
returns c = λ ts facts u.
    let and = λ (a b : Bool). a && b in
    ap₂ and c.is_comparison.ensures
    (ap₂ and (ap₂ and c.is_plain.ensures c.is_plain-2.ensures ∙ c.both-plain.ensures)
    (ap₂ and (c.is_same-one.ensures ts facts u) (c.base_has-of_base.ensures ts facts u) ∙ c.both.ensures) ∙ c.both-2.ensures)
    ∙ c.both-3.ensures
