-- What stands beside another location.
use Rattle.std.specs.Prelude.{◌≡◌, ℕ, List, ◌∷◌}
use Rattle.nim_meaning.specs.Values.{Location}
use Rattle.nim_meaning.specs.Marks.{Member}
use Rattle.holders.specs.Owned.{Apart}

-- two paths that part ways
pub data PartWays : List ℕ → List ℕ → Type 0 where
  here_apart : {i j : ℕ} {path other : List ℕ} → (j ≡ i → ⊥) → PartWays (i ∷ path) (j ∷ other)
  further_on : {i : ℕ} {path other : List ℕ} → PartWays path other → PartWays (i ∷ path) (i ∷ other)

-- another base, or another part
pub data OtherPart : Location → Location → Type 0 where
  other_base : {to from : Location} → (from.base ≡ to.base → ⊥) → OtherPart to from
  other_way : {to from : Location} → from.base ≡ to.base → PartWays to.path from.path → OtherPart to from

pub record Beside (to from : Location) (old bs : List ℕ) : Type 0 where
  pub ways : OtherPart to from
  pub both : (k : ℕ) → Member k old → Member k bs → ⊥
  pub to_bs : Apart to.base bs
  pub from_old : Apart from.base old
