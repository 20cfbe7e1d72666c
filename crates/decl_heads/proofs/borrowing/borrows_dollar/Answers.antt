use Rattle.std.proofs.Common.{ap₂, ◌∙◌, Bool}
use Rattle.std.specs.Prelude.{◌&&◌}
use Rattle.decl_heads.proofs.borrowing.borrows_dollar.Goals as goal

pub returns : goal.returns
returns c = λ ts facts u.
    ap₂ (λ (a b : Bool). a && b) c.is_dollar.ensures (ap₂ (λ (a b : Bool). a && b) c.is_plain.ensures (c.base_has.ensures ts facts u) ∙ c.both.ensures)
    ∙ c.both-2.ensures
