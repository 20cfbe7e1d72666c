use Rattle.std.proofs.Common.{◌+◌, ap, sym, ◌∙◌, refl, arith}
use Rattle.parse_exprs.specs.Look.{name_on}
use Rattle.parse_exprs.specs.Input.{origin_of, from_at}
use Rattle.parse_decls.specs.Look.{name_of}
use Rattle.parse_decls.specs.Outcome.{got}
use Rattle.parse_decls.specs.Run.{run_named}
use Rattle.parse_decls.proofs.Settling.{settles_got, settles_is}
use Rattle.parse_decls.proofs.Coming.{behind_at, within_some}
use Rattle.parse_decls.proofs.name.read_name.Goals as goal

pub returns : goal.returns
returns c =
    let e = sym c.name_on.ensures ∙ c.in-Some.is in
    let b = behind_at c.args.at c.args.input.now.tokens.now in
    let w = within_some (name_on c.args.layout) refl c.args.at c.args.input.now.tokens.now e in
    record {
      runs = settles_is settles_got (λ k. ap (λ o. run_named (origin_of c.args.input.now) o (from_at c.args.input.now c.args.at)) e
          ∙ ap (λ r. got (name_of (origin_of c.args.input.now) c.in-Some.token) r) b ∙ ap (λ n. got n (from_at c.args.input.now (c.args.at + 1)))
          (sym c.in_ok-name_of.ensures.ok));
      goes = omega arith;
      within = omega (arith, w);
    }
