-- What reading comes to, as a computation by steps.
--
-- The definitions that a reader must believe are in Grammar.antt and Faults.antt. That reading is a computation says the same
-- again in a form that the next parser can go on with.
use Rattle.std.specs.Prelude.{◌≡◌, ℕ, ◌≤◌, Bool, true, false, List}
use Rattle.indent_scanner.specs.declared.token.Token.{Token}

-- why nothing is read
pub data Why : Type 0 where
  -- a level too many is opened
  deep : Why
  -- the first of these tokens can't go on
  stuck : List Token → Why
  -- more steps are needed
  tired : Why

pub data Out (X : Type 0) : Type 0 where
  -- what was read, and the tokens behind it
  got : X → List Token → Out X
  bad : Why → Out X

abbrev pub then_do : {X Y : Type 0} → Out X → (X → List Token → Out Y) → Out Y
then_do (got a rest) go = go a rest
then_do (bad why) go = bad why

-- goes on where that holds, and is stuck at these tokens else
abbrev pub unless_stuck : {Y : Type 0} → Bool → List Token → Out Y → Out Y
unless_stuck true ts go = go
unless_stuck false ts go = bad (stuck ts)

-- from some number of steps on it comes to this
pub record Settles {X : Type 0} (run : ℕ → Out X) (o : Out X) : Type 0 where
  pub steps : ℕ
  pub same : (k : ℕ) → steps ≤ k → run k ≡ o
