-- That the tokens of a module are a tree or are refused.
use Rattle.std.specs.Prelude.{List}
use Rattle.arc_base.specs.declared.place.Code.{Code}
use Rattle.arc_base.specs.declared.place.Place.{Place}
use Rattle.indent_scanner.specs.declared.token.Token.{Token}
use Rattle.nim_tree.specs.Statements.{Statements}
use Rattle.parse_exprs.specs.Look.{Origin}
use Rattle.parse_stmts.specs.Grammar.{IsModule}
use Rattle.parse_stmts.specs.Parsed.{HasFew, IsRefused}

pub data Decided (x : Origin) (tokens : List Token) : Type 0 where
  is_tree : {tree : Statements} → IsModule x tokens tree → HasFew tree → Decided x tokens
  is_refused : (code : Code) (at : Place) → IsRefused x tokens code at → Decided x tokens
