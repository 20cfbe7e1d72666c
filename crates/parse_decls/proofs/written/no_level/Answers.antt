use Rattle.std.proofs.Common.{refl, sym, subst, ◌∙◌, arith}
use Rattle.std.specs.Prelude.{if◌then◌else◌}
use Rattle.parse_exprs.specs.Input.{origin_of, from_at}
use Rattle.parse_decls.specs.Look.{type_at}
use Rattle.parse_decls.specs.Outcome.{too_deep, stuck_at}
use Rattle.parse_decls.specs.Gives.{Told}
use Rattle.parse_decls.proofs.Coming.{within_at}
use Rattle.parse_decls.proofs.written.no_level.Goals as goal

pub too_deep-requires : goal.too_deep-requires
too_deep-requires c =
    let w = within_at type_at refl c.args.at c.args.input.now.tokens.now (sym c.type_at.ensures ∙ c.if-type_at.true) in
    let g = c.requires.order in
    record { within = omega (arith, w, g) }

pub returns-then-type_at : goal.returns-then-type_at
returns-then-type_at c =
    subst (λ b. Told (origin_of c.args.input.now) (if b then too_deep (from_at c.args.input.now c.args.whole)
    else stuck_at (from_at c.args.input.now c.args.at)) c.too_deep.result) (sym (sym c.type_at.ensures ∙ c.if-type_at.true)) c.too_deep.ensures

pub returns : goal.returns
returns c =
    subst (λ b. Told (origin_of c.args.input.now) (if b then too_deep (from_at c.args.input.now c.args.whole)
    else stuck_at (from_at c.args.input.now c.args.at)) c.stuck.result) (sym (sym c.type_at.ensures ∙ c.if-type_at.false)) c.stuck.ensures
