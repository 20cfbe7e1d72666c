use Rattle.std.proofs.Common.{◌∙◌, ap}
use Rattle.parse_exprs.specs.Input.{origin_of}
use Rattle.parse_decls.specs.Look.{declared_of, is_quoted}
use Rattle.parse_decls.proofs.Places.{shown_found}
use Rattle.parse_decls.proofs.name.read_shown.Goals as goal

pub returns : goal.returns
returns c = shown_found c.args.input.now c.args.layout _ c.in-Some.token c.args.at _ _ c.in-Some.is
    (c.in_ok-declared_of.ensures.ok ∙ ap (declared_of (origin_of c.args.input.now) c.in-Some.token (is_quoted c.in-Some.token.kind)) c.star_at-shown.ensures)
    c.past_star.ensures.past c.past_star.ensures.goes c.past_star.ensures.within
