-- What a test on the token at a place says.
use Rattle.std.specs.Prelude.{◌≡◌, ℕ, suc, ◌<◌, ◌≤◌, Bool, true, false, List, ◌∷◌, length, Option, Some, None}
use Rattle.arc_base.specs.declared.place.Place.{Place}
use Rattle.indent_scanner.specs.declared.token.Tok.{Tok}
use Rattle.indent_scanner.specs.declared.token.Token.{Token}
use Rattle.parse_exprs.specs.declared.input.Input.{Input}
use Rattle.parse_exprs.specs.Look.{place_at, is_elif, is_else, is_of}
use Rattle.parse_exprs.specs.Input.{origin_of, from_at}
use Rattle.parse_decls.specs.Look.{behind}
use Rattle.parse_stmts.specs.declared.marks.Word.{Word}
use Rattle.parse_stmts.specs.declared.marks.Word.TheVariants as W
use Rattle.parse_stmts.specs.Look.{is_in, is_as, is_except, is_finally}

-- next is behind the token at a place, where a test holds
pub record Past (input : Input) (test : List Token → Bool) (at next : ℕ) : Type 0 where
  pub is : test (from_at input at) ≡ true
  pub behind : behind (from_at input at) ≡ from_at input next
  pub goes : next ≡ suc at
  pub within : next ≤ length input.tokens.now

abbrev pub IsPast : Input → (List Token → Bool) → ℕ → Option ℕ → Type 0
IsPast input test at (Some next) = Past input test at next
IsPast input test at None = test (from_at input at) ≡ false

-- next is behind a token, if it was found
pub record Behind (input : Input) (found : Bool) (at next : ℕ) : Type 0 where
  pub is : found ≡ true
  pub behind : behind (from_at input at) ≡ from_at input next
  pub goes : next ≡ suc at
  pub within : next ≤ length input.tokens.now

abbrev pub IsBehind : Input → Bool → ℕ → Option ℕ → Type 0
IsBehind input found at (Some next) = Behind input found at next
IsBehind input found at None = found ≡ true → length input.tokens.now ≤ at

-- the token at a place, where a test holds, stands at this one of the source
pub record Marks (input : Input) (test : List Token → Bool) (at : ℕ) (place : Place) : Type 0 where
  pub tok : Token
  pub head : from_at input at ≡ tok ∷ from_at input (suc at)
  pub is : test (from_at input at) ≡ true
  pub stands : place ≡ place_at (origin_of input) tok
  pub within : at < length input.tokens.now

abbrev pub IsMark : Input → (List Token → Bool) → ℕ → Option Place → Type 0
IsMark input test at (Some place) = Marks input test at place
IsMark input test at None = test (from_at input at) ≡ false

abbrev pub is_word : Word → Tok → Bool
is_word W.In = is_in
is_word W.As = is_as
is_word W.Elif = is_elif
is_word W.Else = is_else
is_word W.Of = is_of
is_word W.Except = is_except
is_word W.Finally = is_finally
