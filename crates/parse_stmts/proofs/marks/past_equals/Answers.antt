use Rattle.std.proofs.Common.{refl, ◌∙◌, ◌≡◌, List, [], ◌∷◌, ℕ}
use Rattle.parse_exprs.specs.declared.layout.Layout.TheVariants.{Lines}
use Rattle.indent_scanner.specs.declared.token.Token.{Token}
use Rattle.parse_exprs.specs.Look.{is_punct}
use Rattle.parse_exprs.specs.Input.{from_at}
use Rattle.parse_decls.specs.Look.{equals_at}
use Rattle.parse_stmts.specs.Look.{word_on}
use Rattle.parse_stmts.proofs.Steps.{past_is}
use Rattle.parse_stmts.proofs.marks.past_equals.Goals as goal

same : (n : ℕ) (ts : List Token) → word_on n (is_punct 61) ts ≡ equals_at (Lines n) ts
same n [] = refl
same n (tok ∷ ts) = refl

pub returns : goal.returns
returns c = past_is c.args.input.now (equals_at (Lines c.args.spaces)) c.args.at _ refl
    (c.punct_on.ensures ∙ same c.args.spaces (from_at c.args.input.now c.args.at)) _ c.past.ensures
