-- What the lines of flat, owned and block code work on, and what a line may do, wherever it stands.
use Rattle.std.specs.Prelude.{ℕ, nat_eq, if◌then◌else◌, List, Option, Some, None}
use Rattle.nim_types.specs.Types.{Ty, Facts}
use Rattle.nim_types.specs.declared.types.TypeDef.{TypeDef}
use Rattle.nim_types.specs.Table.{types_in, facts_in}
use Rattle.nim_meaning.specs.Values.{Value, Vacant, Base, Made, Location, Slot}
use Rattle.nim_meaning.specs.State.{World}
use Rattle.nim_meaning.specs.Deeds.{Done}

-- where a path leads: to a location of the world, or to a part of the value in a temporary of the call
pub data Where : Type 0 where
  Located : (location : Location) → Where
  Within : (temporary : ℕ) (path : List ℕ) → Where

-- The temporaries of a call that got something: values, and, with numbers of their own, where paths lead.
pub record Temps : Type 0 where
  pub values : ℕ → Option Value
  pub places : ℕ → Option Where

-- nothing was put into any
abbrev pub no_temps : Temps
no_temps = record { values = λ t. None; places = λ t. None }

abbrev pub put : {A : Type 0} → (ℕ → Option A) → ℕ → A → ℕ → Option A
put held t x u = if nat_eq u t then Some x else held u

abbrev pub without : {A : Type 0} → (ℕ → Option A) → ℕ → ℕ → Option A
without held t u = if nat_eq u t then None else held u

abbrev pub with_value : ℕ → Temps → Value → Temps
with_value t temps v = record temps { values = put temps.values t v }

abbrev pub with_place : ℕ → Temps → Where → Temps
with_place t temps place = record temps { places = put temps.places t place }

abbrev pub if_value : Option Value → Value
if_value None = Vacant
if_value (Some v) = v

-- the location that it is; a value in a temporary is one that nobody owns
abbrev pub location_at : Temps → Where → Location
location_at temps (Located location) = location
location_at temps (Within t path) = record { base = Made (if_value (temps.values t)); path = path; through = None }

-- a location that a part of such a path leads to
abbrev pub led : Where → Location → Where
led (Located old) location = Located location
led (Within t path) location = led_from location.base
  where
    led_from : Base → Where
    led_from (Made v) = Within t location.path
    led_from base = Located location

-- The world of the program, which is that of its meaning; the level of the call; its temporaries.
pub record Scene : Type 0 where
  pub world : World
  pub level : ℕ
  pub temps : Temps

-- A line passes to the next one with what it did; or goes on at a label behind, after so much work; or a turn begins, with these temporaries, at the
-- next line or back
-- at a label before; or it calls, with the slots of parameters; or returns; or it is at a fault.
pub data Did : Type 0 where
  Passes : (done : Done Temps) → Did
  Leaps : (label work : ℕ) → Did
  Enters : Did
  Turns : (temps : Temps) (label : ℕ) → Did
  Calls : (to : ℕ) (proc : ℕ) (slots : List Slot) (work : ℕ) → Did
  Returns : (value : Value) (work : ℕ) → Did
  Fails : Did

-- what lines have to know of types: those of the program's table, by number, and what is said of them
pub record Known : Type 0 where
  pub types : List Ty
  pub facts : Facts

abbrev pub known_in : List TypeDef → Known
known_in table = record { types = types_in table; facts = facts_in table }
