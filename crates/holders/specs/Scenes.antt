-- What the names of a body stand for.
use Rattle.std.specs.Prelude.{◌≡◌, ℕ, Bool, true, List, [], ◌∷◌}
use Rattle.nim_types.specs.Types.{Facts}
use Rattle.nim_types.specs.Forms.{form_of}
use Rattle.nim_program.specs.Scopes.{Placed}
use Rattle.nim_meaning.specs.Values.{Value, Standing, Made, Location, at_base}
use Rattle.nim_meaning.specs.State.{World}
use Rattle.holders.specs.Owned.{Constant, Has, IsName}
use Rattle.holders.specs.Territory.{Owner}

-- Places in scope, in order, with the cells that they have: each has one of its own, or is another name for one; one that was lent may stand for a
-- constant.
pub data Named (facts : Facts) (lent : ℕ → Bool) (world : World) (level : ℕ) : List Placed → List Owner → Type 0 where
  no_names : Named facts lent world level [] []
  its_own : {p : Placed} {ps : List Placed} {os : List Owner} → Named facts lent world level ps os →
      Named facts lent world level (p ∷ ps) (record { form = form_of facts p.of; at = at_base (Standing level p.number) } ∷ os)
  another_name : {p : Placed} {ps : List Placed} {os : List Owner} {l : Location} → IsName world.frames level p.number l →
      Named facts lent world level ps os → Named facts lent world level (p ∷ ps) (record { form = form_of facts p.of; at = l } ∷ os)
  a_constant : {p : Placed} {ps : List Placed} {os : List Owner} {v : Value} → lent p.number ≡ true →
      IsName world.frames level p.number (at_base (Made v)) → Has world Constant (form_of facts p.of) v [] → Named facts lent world level ps os →
      Named facts lent world level (p ∷ ps) os
