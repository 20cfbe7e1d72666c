use Rattle.std.proofs.Common.{sym, ap, ◌∙◌}
use Rattle.parse_exprs.specs.Input.{origin_of, from_at}
use Rattle.parse_decls.specs.Look.{pragma_named}
use Rattle.parse_decls.proofs.Steps.{pragma_left_out, pragma_found, pragma_within}
use Rattle.parse_decls.proofs.pragmas.read_pragma.Goals as goal

pub left_out-requires : goal.left_out-requires
left_out-requires c = record { within = pragma_within c.args.at c.args.input.now.tokens.now _ (sym c.name_on.ensures ∙ c.in-Some.is) }

pub returns-in_default-pragma_named : goal.returns-in_default-pragma_named
returns-in_default-pragma_named c = pragma_left_out (origin_of c.args.input.now) c.in-Some.token (from_at c.args.input.now c.args.at)
    (sym c.name_on.ensures ∙ c.in-Some.is)
    (sym (c.pragma_named.ensures ∙ ap pragma_named c.spelling.ensures) ∙ c.in_default-pragma_named.is) _ c.left_out.ensures

pub returns : goal.returns
returns c = pragma_found c.args.input.now c.in-Some.token _ c.args.at _ (sym c.name_on.ensures ∙ c.in-Some.is)
    (sym (c.pragma_named.ensures ∙ ap pragma_named c.spelling.ensures) ∙ c.in-Some-pragma_named.is) c.place_at.ensures
