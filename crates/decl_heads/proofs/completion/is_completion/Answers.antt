use Rattle.std.proofs.Common.{ap₂, ap, ◌∙◌, sym, List, Bool}
use Rattle.std.specs.Prelude.{map, ◌&&◌}
use Rattle.expr_parts.specs.declared.scope.Parameter.{Parameter}
use Rattle.expr_parts.specs.View.{parameter_of}
use Rattle.decl_rules.specs.Heads.{same_modes}
use Rattle.decl_heads.proofs.completion.is_completion.Goals as goal

pub returns : goal.returns
returns c = λ ts facts b u h.
    let has = c.args.has_body in
    ap₂ (λ (a m : Bool). (has && a) && m) (c.is_awaited.ensures ts b h)
    (ap₂ (λ (m v : Bool). m && v)
    (ap (λ (ps : List Parameter). same_modes (map (parameter_of ts) ps) (map (parameter_of ts) c.args.params.now)) (sym c.as_slice.ensures)
    ∙ c.same_modes.ensures ts)
    (c.same_value.ensures ts facts u))
    ∙ c.are_all.ensures
