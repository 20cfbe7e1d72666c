-- What is said of the tokens of a module.
use Rattle.std.specs.Prelude.{◌≡◌, ℕ, ◌<◌, ◌≤◌, ◌^◌, List, All, length}
use Rattle.arc_base.specs.declared.place.Place.{Place}
use Rattle.arc_base.specs.declared.place.Code.{Code}
use Rattle.arc_base.specs.declared.place.Code.TheVariants.{Syntax, NestTooDeep, LeftOut}
use Rattle.indent_scanner.specs.declared.token.Token.{Token}
use Rattle.indent_scanner.specs.Tokens.{LiesIn}
use Rattle.indent_scanner.specs.Meaning.{IsSpelledIn}
use Rattle.nim_tree.specs.Statements.{Statements, block_levels, term_levels, type_levels}
use Rattle.parse_exprs.specs.Look.{Origin, next_at}
use Rattle.parse_exprs.specs.Parsed.{IsFirst}
use Rattle.parse_decls.specs.Outcome.{too_deep, left_out, stuck}
use Rattle.parse_stmts.specs.Grammar.{IsModule}
use Rattle.parse_stmts.specs.Faults.{FaultsModule}

-- ---- what is read

-- Tokens of a source: their bytes lie in it and are tokens of their kinds. It isn't said that they stand in order, nor that
-- they are all.
pub record AreTokens (source : List ℕ) (tokens : List Token) : Type 0 where
  pub inside : All (LiesIn source) tokens
  pub spelled : All (IsSpelledIn source) tokens
  pub few : length tokens < 2 ^ 32

-- ---- what is found

-- a tree of at most 64 levels of blocks, of each expression and of each written type
pub record HasFew (all : Statements) : Type 0 where
  pub blocks : block_levels all ≤ 64
  pub terms : term_levels all ≤ 64
  pub types : type_levels all ≤ 64

-- a level too many is opened, by what begins at this place
pub record OpensTooMany (x : Origin) (tokens : List Token) (at : Place) : Type 0 where
  pub whole : List Token
  pub deep : FaultsModule x (too_deep whole) tokens
  pub first : IsFirst x whole at

-- something that the language leaves out can't go on at this place
pub record IsLeftOut (x : Origin) (tokens : List Token) (at : Place) : Type 0 where
  pub rest : List Token
  pub stops : FaultsModule x (left_out rest) tokens
  pub first : IsFirst x rest at

-- there is no tree, since the token at this place can't go on, and neither a level too many nor something that is left out is
-- the cause
pub record HasNone (x : Origin) (tokens : List Token) (at : Place) : Type 0 where
  pub rest : List Token
  pub stops : FaultsModule x (stuck rest) tokens
  pub next : at ≡ next_at x rest
  pub none : (all : Statements) → IsModule x tokens all → ⊥
  pub shallow : (p : Place) → OpensTooMany x tokens p → ⊥
  pub used : (p : Place) → IsLeftOut x tokens p → ⊥

-- E4: there is no tree, at the token that can't go on. E5: a level too many is opened at this place. E23: something that is left out stands there.
abbrev pub IsRefused : Origin → List Token → Code → Place → Type 0
IsRefused x tokens Syntax at = HasNone x tokens at
IsRefused x tokens NestTooDeep at = OpensTooMany x tokens at
IsRefused x tokens LeftOut at = IsLeftOut x tokens at
IsRefused x tokens _ at = ⊥
