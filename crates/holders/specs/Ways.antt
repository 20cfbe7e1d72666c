-- Ways from cells to what stands in them, step by step.
use Rattle.std.specs.Prelude.{◌≡◌, ◌<◌, ℕ, zero, suc, List, [], ◌∷◌, Some}
use Rattle.nim_types.specs.Forms.{Form, plain, block, elements, row, parts, Forms, no_forms, forms}
use Rattle.nim_meaning.specs.Values.{Handle, InBlock, Location, deeper}
use Rattle.nim_meaning.specs.State.{World, load}
use Rattle.holders.specs.Owned.{PartForm}
use Rattle.holders.specs.Territory.{Owner, Among}
use Rattle.holders.specs.Beside.{PartWays}
use Rattle.holders.specs.Working.{number}

pub data Step : Type 0 where
  to_field : ℕ → Step
  to_element : Step

-- some step of one is a field, and the same step of the other is another field
pub data Differ : List Step → List Step → Type 0 where
  another_field : {i j : ℕ} {a b : List Step} → (i ≡ j → ⊥) → Differ (to_field i ∷ a) (to_field j ∷ b)
  further_differ : {s t : Step} {a b : List Step} → Differ a b → Differ (s ∷ a) (t ∷ b)

-- as many parts of one form
abbrev pub copies : ℕ → Form → Forms
copies zero f = no_forms
copies (suc n) f = forms f (copies n f)

-- the parts of a row, from a position on
abbrev pub part_owners : Forms → Location → ℕ → List Owner
part_owners no_forms l i = []
part_owners (forms f fs) l i = record { form = f; at = deeper l i } ∷ part_owners fs l (suc i)

-- the row or the text in the block of what stands at a location
abbrev pub in_block : Location → ℕ → Location
in_block l k = record l { base = InBlock k; path = [] }

-- The parts of what a cell holds, or its characters: their forms, and the location of the row or text that they are in.
pub data Opens (world : World) : Owner → Forms → Location → Type 0 where
  an_object : {fs : Forms} {l : Location} → Opens world (record { form = parts fs; at = l }) fs l
  an_array : {n : ℕ} {f : Form} {l : Location} → Opens world (record { form = row n f; at = l }) (copies n f) l
  a_block : {n k : ℕ} {f : Form} {l : Location} → load world l ≡ Handle n (Some k) →
      Opens world (record { form = elements f; at = l }) (copies n f) (in_block l k)
  letters : {n k : ℕ} {l : Location} → load world l ≡ Handle n (Some k) → Opens world (record { form = block; at = l }) (copies n plain) (in_block l k)

-- by the positions of parts
pub data Way (world : World) : Owner → Owner → List ℕ → Type 0 where
  arrived : {o : Owner} → Way world o o []
  a_step : {o m : Owner} {fs : Forms} {from : Location} {i : ℕ} {f : Form} {path : List ℕ} → Opens world o fs from → PartForm fs i f →
      Way world (record { form = f; at = deeper from i }) m path → Way world o m (i ∷ path)

-- a cell or a character that stands in one of the cells
pub record Chain (os : List Owner) (world : World) (target : Owner) : Type 0 where
  pub from : Owner
  pub at : Among os from
  pub path : List ℕ
  pub way : Way world from target path

-- positions that a path of fields and elements may have
pub data Goes : List Step → List ℕ → Type 0 where
  goes_nowhere : Goes [] []
  goes_field : {i : ℕ} {steps : List Step} {path : List ℕ} → Goes steps path → Goes (to_field i ∷ steps) (i ∷ path)
  goes_element : {i : ℕ} {steps : List Step} {path : List ℕ} → Goes steps path → Goes (to_element ∷ steps) (i ∷ path)

-- ---- several of them

-- from two of them, or from one, and they part
abbrev pub ChainsPart : {os : List Owner} {world : World} {m n : Owner} → Chain os world m → Chain os world n → Type 0
ChainsPart b c = number b.at ≡ number c.at → PartWays b.path c.path

-- so many
abbrev pub Chains : List Owner → World → (targets : ℕ → Owner) → ℕ → Type 0
Chains os world targets n = (j : ℕ) → j < n → Chain os world (targets j)

abbrev pub AllPart : {os : List Owner} {world : World} {targets : ℕ → Owner} {n : ℕ} → Chains os world targets n → Type 0
AllPart {n = n} chains = (j l : ℕ) (a : j < n) (b : l < n) → (j ≡ l → ⊥) → ChainsPart (chains j a) (chains l b)

-- where they lead, the last one first
abbrev pub targets_of : (targets : ℕ → Owner) → ℕ → List Owner
targets_of targets zero = []
targets_of targets (suc n) = targets n ∷ targets_of targets n
