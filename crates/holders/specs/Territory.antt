-- What a call may touch: cells that lie apart from one another. All else is as it was.
use Rattle.std.specs.Prelude.{◌≡◌, ℕ, ◌+◌, ◌≤◌, ◌⊎◌, List, [], ◌∷◌, ◌++◌, length}
use Rattle.nim_types.specs.Forms.{Form}
use Rattle.nim_meaning.specs.Values.{Value, Parts, Fixed, Values, count, Base, Location, part}
use Rattle.nim_meaning.specs.Marks.{Member, Distinct}
use Rattle.nim_meaning.specs.State.{World}
use Rattle.holders.specs.Owned.{IsBase, HasPart, Lies, Keeps, Apart, Stays}
use Rattle.holders.specs.Becoming.{taken_in, times, none, LosesNone, BecomesWith, Strange}
use Rattle.holders.specs.Beside.{OtherPart}

-- a location that holds values of a form
pub record Owner : Type 0 where
  pub form : Form
  pub at : Location

pub data Cells (world : World) : List Owner → (blocks : List ℕ) → Type 0 where
  no_cells : Cells world [] []
  a_cell : {o : Owner} {os : List Owner} {w v : Value} {bs cs : List ℕ} → Keeps o.form o.at w v bs world → Cells world os cs → Cells world (o ∷ os) (bs ++ cs)

abbrev pub AllOwners : (Owner → Type 0) → List Owner → Type 0
AllOwners P [] = Unit {0}
AllOwners P (o ∷ os) = P o × AllOwners P os

-- a location is none of them, nor in one, nor is one in it
abbrev pub OtherThan : Location → List Owner → Type 0
OtherThan l os = AllOwners (λ o. OtherPart o.at l) os

abbrev pub LieApart : List Owner → Type 0
LieApart [] = Unit {0}
LieApart (o ∷ os) = OtherThan o.at os × LieApart os

-- none of them stands in one of the blocks
abbrev pub ClearOf : (blocks : List ℕ) → List Owner → Type 0
ClearOf bs os = AllOwners (λ o. Apart o.at.base bs) os

pub record Territory (os : List Owner) (world : World) : Type 0 where
  pub blocks : List ℕ
  pub cells : Cells world os blocks
  pub distinct : Distinct blocks
  pub others : LieApart os
  pub clear : ClearOf blocks os

-- ---- what is left alone

-- a value stands at a location
pub record StandsAt (world : World) (l : Location) (v : Value) : Type 0 where
  pub whole : Value
  pub at : Lies world l whole
  pub is : part whole l.path ≡ v

-- a row of so many parts, and a text of so many characters
pub data Shape : Type 0 where
  of_parts : (n : ℕ) → Shape
  of_characters : (n : ℕ) → Shape

pub data HasShape : Shape → Value → Type 0 where
  is_row : {n : ℕ} {all : Values} → count all ≡ n → HasShape (of_parts n) (Parts all)
  is_text : {n : ℕ} {t : List ℕ} → length t ≡ n → HasShape (of_characters n) (Fixed t)

-- one stands at a location
pub record RowAt (world : World) (l : Location) (shape : Shape) : Type 0 where
  pub whole : Value
  pub base : IsBase world l.base whole
  pub part_there : HasPart whole l.path
  pub is : HasShape shape (part whole l.path)

-- m is a part of what stands at l, or a part of one; or a character
pub record IsUnder (m l : Location) : Type 0 where
  pub base : m.base ≡ l.base
  pub position : ℕ
  pub further : List ℕ
  pub path : m.path ≡ l.path ++ position ∷ further

-- none of them is the row itself, or has it in it
abbrev pub LeaveRow : Location → List Owner → Type 0
LeaveRow l os = AllOwners (λ o. OtherPart o.at l ⊎ IsUnder o.at l) os

abbrev pub NoBaseOf : Base → List Owner → Type 0
NoBaseOf b os = AllOwners (λ o. b ≡ o.at.base → ⊥) os

pub record Alone (os : List Owner) (old : List ℕ) (world after : World) : Type 0 where
  pub bases : (b : Base) (x : Value) → IsBase world b x → NoBaseOf b os → Apart b old → IsBase after b x
  pub parts : (l : Location) (v : Value) → StandsAt world l v → OtherThan l os → Apart l.base old → StandsAt after l v
  pub rows : (l : Location) (shape : Shape) → RowAt world l shape → LeaveRow l os → Apart l.base old → RowAt after l shape
  pub stays : Stays world after

-- The cells may have other values then, some of them given. All else stays, but for what the cells and these had in blocks. Blocks came from elsewhere,
-- and some went there.
pub record MovesWith (comes goes : ℕ → ℕ) (os : List Owner) (given old : List ℕ) (world after : World) : Type 0 where
  pub territory : Territory os after
  pub came : (k : ℕ) → Member k territory.blocks → Member k old ⊎ (Member k given ⊎ (taken_in world ≤ k))
  pub grows : taken_in world ≤ taken_in after
  pub alone : Alone os (given ++ old) world after
  pub loses : LosesNone (λ k. comes k + times k old) (λ k. times k territory.blocks + goes k) world after

-- all that was given came to the cells
abbrev pub Moves : (os : List Owner) → (given old : List ℕ) → (world after : World) → Type 0
Moves os given old world after = MovesWith (λ k. times k given) none os given old world after

-- one of the cells, and what becomes of it
pub data Among : List Owner → Owner → Type 0 where
  first_owner : {o : Owner} {os : List Owner} → Among (o ∷ os) o
  later_owner : {o p : Owner} {os : List Owner} → Among os o → Among (p ∷ os) o

pub record Owns (os : List Owner) (blocks : List ℕ) (o : Owner) (world : World) : Type 0 where
  pub stands_in : Value
  pub value : Value
  pub mine : List ℕ
  pub cell : Keeps o.form o.at stands_in value mine world
  pub within : (k : ℕ) → Member k mine → Member k blocks
  pub moves : {goes : ℕ → ℕ} (given : List ℕ) (after : World) → Strange given blocks → ClearOf given os →
      BecomesWith goes o.form o.at stands_in given mine world after → MovesWith (λ k. times k given) goes os given blocks world after
  pub without : {goes : ℕ → ℕ} (given : List ℕ) (after : World) (far : Strange given blocks) (clear : ClearOf given os)
      (b : BecomesWith goes o.form o.at stands_in given mine world after) (k : ℕ) → Member k (moves given after far clear b).territory.blocks → Member k mine →
      Member k b.blocks
