-- That reading ends: with enough steps for its tokens it comes to something, or to why there is nothing.
use Rattle.std.specs.Prelude.{ℕ, ◌<◌, ◌≤◌, ◌+◌, ◌*◌, List, length}
use Rattle.indent_scanner.specs.declared.token.Token.{Token}
use Rattle.nim_tree.specs.Terms.{Term, levels}
use Rattle.parse_exprs.specs.Faults.{Fault}
use Rattle.parse_exprs.specs.Outcome.{Out, got, bad, deep, stuck}

-- It is read and fewer than m tokens are left; or a level too many is opened, by one of m tokens; or it can't go on.
pub data Ends {X : Type 0} (m : ℕ) : Out X → Type 0 where
  e_read : {a : X} {rest : List Token} → length rest < m → Ends m (got a rest)
  e_deep : 0 < m → Ends m (bad deep)
  e_stuck : {rest : List Token} → Ends m (bad (stuck rest))

-- as many steps as these tokens need at most
abbrev pub enough : List Token → ℕ
enough ts = 64 * length ts + 32

-- with as many steps each reading ends
abbrev pub AlwaysEnds : {X : Type 0} → (List Token → ℕ → Out X) → Type 0
AlwaysEnds run = (ts : List Token) (k : ℕ) → enough ts ≤ k → Ends (length ts) (run ts k)

-- these tokens begin with a tree of at most so many levels, or it is said why not
pub data Decided (sought : Term → List Token → List Token → Type 0) (faults : Fault → List Token → Type 0) (most : ℕ) (ts : List Token)
    : Type 0 where
  is_read : {t : Term} {rest : List Token} → sought t ts rest → levels t ≤ most → Decided sought faults most ts
  is_not : {why : Fault} → faults why ts → Decided sought faults most ts
