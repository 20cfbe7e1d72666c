use Rattle.std.proofs.Common.{sym, ap, ◌∙◌, add-one}
use Rattle.parse_exprs.specs.Input.{origin_of, from_at}
use Rattle.parse_decls.specs.Look.{mode_of, mode_at}
use Rattle.parse_decls.proofs.look.mode_at.Goals as goal

pub returns-in-Some : goal.returns-in-Some
returns-in-Some c = c.mode_of.ensures ∙ ap (λ n. mode_of (origin_of c.args.input.now) c.in-Some.token (from_at c.args.input.now n) c.in-Some.token.kind)
    (add-one c.args.at) ∙ ap (mode_at (origin_of c.args.input.now)) (sym c.in-Some.ensures.some)
