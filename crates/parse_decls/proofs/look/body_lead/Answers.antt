use Rattle.std.proofs.Common.{sym, ap, ◌∙◌, add-one}
use Rattle.parse_exprs.specs.Input.{from_at}
use Rattle.parse_decls.specs.Look.{body_lead_of, body_lead}
use Rattle.parse_decls.proofs.look.body_lead.Goals as goal

pub returns-in-Some : goal.returns-in-Some
returns-in-Some c = c.body_lead_of.ensures ∙ ap (λ n. body_lead_of c.args.layout (from_at c.args.input.now n) c.in-Some.token.kind) (add-one c.args.at)
    ∙ ap (body_lead c.args.layout) (sym c.in-Some.ensures.some)
