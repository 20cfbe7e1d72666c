-- Cells that are worked on in place of others: some of them alone, in another order, or by their parts.
use Rattle.std.specs.Prelude.{ℕ, suc, List, ◌∷◌, ◌⊎◌}
use Rattle.nim_meaning.specs.Marks.{Member}
use Rattle.nim_meaning.specs.State.{World}
use Rattle.holders.specs.Becoming.{Strange}
use Rattle.holders.specs.Territory.{Owner, ClearOf, Territory, MovesWith, Among, first_owner, later_owner}

-- the position among them
abbrev pub number : {os : List Owner} {o : Owner} → Among os o → ℕ
number first_owner = 0
number (later_owner i) = suc (number i)

-- What becomes of these is what becomes of those: a block in those is in these, or was in those beside these; none that these have no more.
pub record Back (comes goes : ℕ → ℕ) (os : List Owner) (given blocks mine new : List ℕ) (world after : World) : Type 0 where
  pub moves : MovesWith comes goes os given blocks world after
  pub without : (k : ℕ) → Member k moves.territory.blocks → Member k mine → Member k new
  pub into : (k : ℕ) → Member k moves.territory.blocks → Member k new ⊎ (Member k blocks × (Member k mine → ⊥))

pub record Works (os ms : List Owner) (blocks : List ℕ) (world : World) : Type 0 where
  pub territory : Territory ms world
  pub within : (k : ℕ) → Member k territory.blocks → Member k blocks
  pub clear : (given : List ℕ) → Strange given blocks → ClearOf given os → ClearOf given ms
  pub back : {comes goes : ℕ → ℕ} (given : List ℕ) (after : World) → Strange given blocks → ClearOf given os →
      (m : MovesWith comes goes ms given territory.blocks world after) → Back comes goes os given blocks territory.blocks m.territory.blocks world after

-- the others
abbrev pub without : {os : List Owner} {o : Owner} → Among os o → List Owner
without (first_owner {os = os}) = os
without (later_owner {p = p} i) = p ∷ without i
