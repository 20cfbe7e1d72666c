use Rattle.std.proofs.Common.{sym, ap, ◌∙◌, arith}
use Rattle.parse_exprs.specs.Input.{origin_of, from_at}
use Rattle.parse_decls.specs.Look.{past_if_mode}
use Rattle.parse_decls.proofs.Coming.{behind_at}
use Rattle.parse_decls.proofs.Steps.{mode_within, written_mode}
use Rattle.parse_decls.proofs.look.past_mode.Goals as goal

pub returns-in-Var : goal.returns-in-Var
returns-in-Var c =
    let e = written_mode c.mode_at.result c.in-Var.is in
    let w = mode_within (origin_of c.args.input.now) c.args.at c.args.input.now.tokens.now _ (sym c.mode_at.ensures) e.not_plain in
    record {
      past = sym (behind_at c.args.at c.args.input.now.tokens.now) ∙ sym (e.past (from_at c.args.input.now c.args.at))
          ∙ ap (λ m. past_if_mode m (from_at c.args.input.now c.args.at)) c.mode_at.ensures;
      goes = omega arith;
      within = omega (arith, w);
    }
