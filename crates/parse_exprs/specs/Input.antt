-- What is read.
use Rattle.std.specs.Prelude.{ℕ, List, drop}
use Rattle.indent_scanner.specs.declared.token.Token.{Token}
use Rattle.parse_exprs.specs.declared.input.Input.{Input}
use Rattle.parse_exprs.specs.Look.{Origin}

-- where the tokens come from
abbrev pub origin_of : Input → Origin
origin_of input = record { source = input.source.now; number = input.«module» }

-- the tokens from a place on
abbrev pub from_at : Input → ℕ → List Token
from_at input at = drop at input.tokens.now
