use Rattle.std.proofs.Common.{ap, ◌∙◌, Bool}
use Rattle.std.specs.Prelude.{◌||◌, not}
use Rattle.decl_heads.proofs.completion.is_awaited.Goals as goal

pub returns : goal.returns
returns c = λ ts b h.
    let p = c.args.procedure.now in
    ap (λ (k : Bool). not (p.borrowed || k)) (h.each p.number ∙ c.is_completed.ensures) ∙ c.neither.ensures
