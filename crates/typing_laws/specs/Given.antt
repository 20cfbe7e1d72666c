-- What a part of a program gives, whatever state it is carried out in.
use Rattle.std.specs.Prelude.{◌≡◌, ℕ, List}
use Rattle.arc_base.specs.Event.{Event}
use Rattle.arc_base.specs.BigStep.{Res, Got}
use Rattle.nim_meaning.specs.State.{World, State}
use Rattle.nim_meaning.specs.Acts.{Outcome, On, Does}

-- it comes to a value, with this world, so many units left, and these events so far
pub record Gives {A : Type 0} (r : Res State (Outcome A)) (x : A) (world : World) (units : ℕ) (out : List Event) : Type 0 where
  pub behind : State
  pub is : r ≡ Got (On x) behind
  pub same_world : behind.world ≡ world
  pub same_units : behind.meter.units ≡ units
  pub same_out : behind.meter.out ≡ out

-- In each state it gives the value, writes nothing and changes nothing: there is its work alone, and the points that it passes.
abbrev pub AlwaysGives : {A : Type 0} → Does A → A → Type 0
AlwaysGives act x = (s : State) → Gives (act s) x s.world s.meter.units s.meter.out
