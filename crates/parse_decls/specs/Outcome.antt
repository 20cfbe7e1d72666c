-- What reading comes to, as a computation by steps, each refusal with its place.
use Rattle.std.specs.Prelude.{◌≡◌, ℕ, ◌≤◌, Bool, true, false, List, if◌then◌else◌}
use Rattle.indent_scanner.specs.declared.token.Token.{Token}
use Rattle.parse_exprs.specs.Look.{left_out_at}
use Rattle.parse_exprs.specs.Outcome as E

-- why nothing is read, at the first of these tokens
pub data Why : Type 0 where
  -- an expression, a written type or blocks that begin here have a level too many
  too_deep : List Token → Why
  -- the language leaves this out
  left_out : List Token → Why
  -- the first of these tokens can't go on
  stuck : List Token → Why
  -- more steps are needed
  tired : Why

pub data Out (X : Type 0) : Type 0 where
  -- what was read, and the tokens behind it
  got : X → List Token → Out X
  bad : Why → Out X

abbrev pub then_do : {X Y : Type 0} → Out X → (X → List Token → Out Y) → Out Y
then_do (got a rest) go = go a rest
then_do (bad why) go = bad why

-- a token that can't go on, which may be a keyword that is left out
abbrev pub stuck_at : List Token → Why
stuck_at ts = if left_out_at ts then left_out ts else stuck ts

-- goes on where that holds, and is stuck at these tokens else
abbrev pub unless_stuck : {Y : Type 0} → Bool → List Token → Out Y → Out Y
unless_stuck true ts go = go
unless_stuck false ts go = bad (stuck_at ts)

-- of an expression in what begins at these tokens
abbrev pub of_why : List Token → E.Why → Why
of_why whole E.deep = too_deep whole
of_why whole (E.stuck rest) = stuck_at rest
of_why whole E.tired = tired

abbrev pub of_expr : {X : Type 0} → List Token → E.Out X → Out X
of_expr whole (E.got a rest) = got a rest
of_expr whole (E.bad why) = bad (of_why whole why)

-- from some number of steps on it comes to this
pub record Settles {X : Type 0} (run : ℕ → Out X) (o : Out X) : Type 0 where
  pub steps : ℕ
  pub same : (k : ℕ) → steps ≤ k → run k ≡ o
