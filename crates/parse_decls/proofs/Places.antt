-- What stands at a place of the tokens.
use Rattle.std.proofs.Common.{◌≡◌, ℕ, suc, ◌+◌, ◌<◌, ◌≤◌, List, [], length, sym, ap, ◌∙◌, arith, drop}
use Rattle.std.specs.Prelude.{Option, Some, None, IfSome}
use Rattle.indent_scanner.specs.declared.token.Token.{Token}
use Rattle.nim_tree.specs.declared.name.Declared.{Declared}
use Rattle.parse_exprs.specs.declared.input.Input.{Input}
use Rattle.parse_exprs.specs.declared.layout.Layout.{Layout}
use Rattle.parse_exprs.specs.Input.{origin_of, from_at}
use Rattle.parse_decls.specs.Look.{declared_of, is_quoted, star_at, past_star}
use Rattle.parse_decls.specs.Outcome.{got}
use Rattle.parse_decls.specs.Run.{run_shown}
use Rattle.parse_decls.specs.Gives.{Found}
use Rattle.parse_decls.proofs.Settling.{settles_got, settles_is}
use Rattle.parse_decls.proofs.Coming.{behind_at, within_some}

-- what a test on the tokens gives stands within them
pub stands_within : (test : List Token → Option Token) → test [] ≡ None → (at : ℕ) (ts : List Token) (o : Option Token) → o ≡ test (drop at ts)
    → IfSome o (λ tok. at < length ts)
stands_within test n at ts None e = tt
stands_within test n at ts (Some tok) e = within_some test n at ts (sym e)

pub shown_found : (input : Input) (i : Layout) (name : Option Token) (tok : Token) (at : ℕ) (value : Declared) (next : ℕ) → name ≡ Some tok
    → value ≡ declared_of (origin_of input) tok (is_quoted tok.kind) (star_at (origin_of input) i (from_at input (at + 1)))
    → from_at input next ≡ past_star (origin_of input) i (from_at input (at + 1)) → at + 1 ≤ next → next ≤ length input.tokens.now
    → Found (λ k. run_shown (origin_of input) i name (from_at input at)) input (suc at) value next
shown_found input i name tok at value next s v p g w = record {
  runs = settles_is settles_got (λ k. ap (λ o. run_shown (origin_of input) i o (from_at input at)) s
      ∙ ap (λ ts. got (declared_of (origin_of input) tok (is_quoted tok.kind) (star_at (origin_of input) i ts)) (past_star (origin_of input) i ts))
      (behind_at at input.tokens.now)
      ∙ ap (λ d. got d (past_star (origin_of input) i (from_at input (at + 1)))) (sym v) ∙ ap (got value) (sym p));
  goes = omega (arith, g);
  within = w;
}
