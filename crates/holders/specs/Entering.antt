-- What is handed over to a call: values that nobody has any more, and names.
use Rattle.std.specs.Prelude.{ℕ, suc, List, [], ◌∷◌, ◌++◌}
use Rattle.nim_types.specs.Forms.{Form}
use Rattle.nim_meaning.specs.Values.{Value, Slot, Holds, Stands, Standing, Location, at_base}
use Rattle.nim_meaning.specs.State.{World}
use Rattle.holders.specs.Owned.{IsBase}
use Rattle.holders.specs.Becoming.{Strange}
use Rattle.holders.specs.Territory.{Owner}
use Rattle.holders.specs.Handing.{UnderWay}

-- no two of the values have a block together
pub data Handed (os : List Owner) (blocks : List ℕ) (world : World) : List Form → List Slot → (given : List ℕ) → Type 0 where
  nothing_more : Handed os blocks world [] [] []
  a_value : {f : Form} {fs : List Form} {x : Value} {slots : List Slot} {given : List ℕ} (u : UnderWay f x os blocks world) →
      Handed os blocks world fs slots given → Strange u.given given → Handed os blocks world (f ∷ fs) (Holds x ∷ slots) (u.given ++ given)
  a_name : {f : Form} {fs : List Form} {l : Location} {slots : List Slot} {given : List ℕ} → Handed os blocks world fs slots given →
      Handed os blocks world (f ∷ fs) (Stands l ∷ slots) given

-- the cells of a call whose places are these, from a number on
abbrev pub own_cells : (level number : ℕ) → List Form → List Slot → List Owner
own_cells level n (f ∷ fs) (Holds x ∷ slots) = record { form = f; at = at_base (Standing level n) } ∷ own_cells level (suc n) fs slots
own_cells level n (f ∷ fs) (slot ∷ slots) = own_cells level (suc n) fs slots
own_cells level n fs slots = []

-- where the values stand
abbrev pub StandThere : World → (level number : ℕ) → List Slot → Type 0
StandThere world level n [] = Unit {0}
StandThere world level n (Holds x ∷ slots) = IsBase world (Standing level n) x × StandThere world level (suc n) slots
StandThere world level n (slot ∷ slots) = StandThere world level (suc n) slots
