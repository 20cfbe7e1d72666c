-- That reading ends: with enough steps for its tokens it comes to something, or to why there is nothing.
use Rattle.std.specs.Prelude.{ℕ, suc, ◌<◌, ◌≤◌, ◌+◌, ◌*◌, List, length, ⊤}
use Rattle.indent_scanner.specs.declared.token.Token.{Token}
use Rattle.parse_decls.specs.Outcome.{Why, too_deep, left_out, stuck, tired, Out, got, bad}

-- a level too many and what is left out stand at a token; the tokens may also end where they can't go on
abbrev pub HasPlace : Why → Type 0
HasPlace (too_deep at) = 0 < length at
HasPlace (left_out at) = 0 < length at
HasPlace (stuck at) = ⊤
HasPlace tired = ⊥

-- it is read and fewer than m tokens are left, or it is said why not
pub data Ends {X : Type 0} (m : ℕ) : Out X → Type 0 where
  e_read : {a : X} {rest : List Token} → length rest < m → Ends m (got a rest)
  e_not : {why : Why} → HasPlace why → Ends m (bad why)

-- as many steps as these tokens need at most
abbrev pub enough : List Token → ℕ
enough ts = 64 * length ts + 64

-- with as many steps each reading ends, and leaves fewer tokens
abbrev pub Advances : {X : Type 0} → (List Token → ℕ → Out X) → Type 0
Advances run = (ts : List Token) (k : ℕ) → enough ts ≤ k → Ends (length ts) (run ts k)

-- with as many steps each reading ends, and leaves no more tokens
abbrev pub AlwaysEnds : {X : Type 0} → (List Token → ℕ → Out X) → Type 0
AlwaysEnds run = (ts : List Token) (k : ℕ) → enough ts ≤ k → Ends (suc (length ts)) (run ts k)

-- these tokens begin with such a thing, or it is said why not
pub data Decided {A : Type 0} (Reads : A → List Token → List Token → Type 0) (Fault : Why → List Token → Type 0) (ts : List Token) : Type 0 where
  is_read : {a : A} {rest : List Token} → Reads a ts rest → Decided Reads Fault ts
  is_not : {why : Why} → Fault why ts → HasPlace why → Decided Reads Fault ts
