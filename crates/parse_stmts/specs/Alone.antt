-- Which `if` and `case` that begin a line as a statement are expressions: those that can be read as one that is alone on its line.
--
-- It is read as at the start of a statement: where a value in it begins as a command, it is no expression.
--
-- An expression may have 64 levels. One that has more, up to `MOST_ALONE`, is looked at too, since it is alone on its line as well:
-- it is too deep. What would have still more counts as one that has blocks, so that no reader goes deeper, and is too deep then too:
-- 64 levels of blocks and 64 of an expression, and a few more, are below that number, so a block or an expression in it has a level
-- too many.
use Rattle.std.specs.Prelude.{◌≡◌, ℕ, ◌≤◌, true, false, List}
use Rattle.indent_scanner.specs.declared.token.Token.{Token}
use Rattle.nim_tree.specs.Terms.{Term, levels}
use Rattle.parse_exprs.specs.declared.layout.Layout.TheVariants.{Start}
use Rattle.parse_exprs.specs.Look.{Origin}
use Rattle.parse_exprs.specs.Grammar.{IsExpr}
use Rattle.parse_exprs.specs.Faults.{Fault, FaultsExpr}
use Rattle.parse_stmts.specs.declared.alone.TheConstants.{MOST_ALONE}
use Rattle.parse_stmts.specs.Look.{line_over}

-- the tokens begin with this expression, in a statement that begins here behind n spaces, and it has not too many levels to look at
pub record BeginsWith (x : Origin) (n : ℕ) (a : Term) (ts rest : List Token) : Type 0 where
  pub reads : IsExpr x (Start n) a ts rest
  pub few : levels a ≤ MOST_ALONE

-- and it is alone on its line
pub record IsAlone (x : Origin) (n : ℕ) (a : Term) (ts rest : List Token) : Type 0 where
  pub begins : BeginsWith x n a ts rest
  pub over : line_over n rest ≡ true

-- no such expression begins here: the text can't go on as one, or goes on behind it
pub data NotAlone (x : Origin) (n : ℕ) (ts : List Token) : Type 0 where
  n_stops : {why : Fault} → FaultsExpr x why (Start n) MOST_ALONE ts → NotAlone x n ts
  n_more : {a : Term} {rest : List Token} → BeginsWith x n a ts rest → line_over n rest ≡ false → NotAlone x n ts
