-- The temporaries of a group, at its end.
use Rattle.std.specs.Prelude.{◌≡◌, true, ℕ, nat_eq, if◌then◌else◌, List, [], ◌∷◌}
use Rattle.nim_meaning.specs.Values.{Waiting, at_base}
use Rattle.nim_meaning.specs.Marks.{Member}
use Rattle.nim_meaning.specs.Waiting.{Wait}
use Rattle.holders.specs.Territory.{Owner, Among}
use Rattle.holders.specs.Working.{without}
use Rattle.holders.specs.Running.{Region}

abbrev pub without_node : List ℕ → ℕ → List ℕ
without_node [] node = []
without_node (n ∷ ns) node = if nat_eq n node then ns else n ∷ without_node ns node

-- the last one first
abbrev pub without_waits : List ℕ → List Wait → List ℕ
without_waits nodes [] = nodes
without_waits nodes (w ∷ ws) = without_node (without_waits nodes ws) w.node

abbrev pub waiting_cell : (level : ℕ) → Wait → Owner
waiting_cell level w = record { form = w.form; at = at_base (Waiting level w.node) }

-- from these cells to those without the temporaries; one that doesn't wait has no node among those at which values wait
pub data Ends (level : ℕ) (nodes : List ℕ) : List Wait → (before after : List Owner) → Type 0 where
  no_waits : {ms : List Owner} → Ends level nodes [] ms ms
  one_waits : {w : Wait} {ws : List Wait} {ms ns : List Owner} → Ends level nodes ws ms ns → (i : Among ns (waiting_cell level w)) →
      Ends level nodes (w ∷ ws) ms (without i)
  none_waits : {w : Wait} {ws : List Wait} {ms ns : List Owner} → Ends level nodes ws ms ns → ((n : ℕ) → Member n nodes → n ≡ w.node → ⊥) →
      Ends level nodes (w ∷ ws) ms ns

-- their nodes are the part's own
abbrev pub AllMine : Region → List Wait → Type 0
AllMine r [] = Unit {0}
AllMine r (w ∷ ws) = (r.nodes w.node ≡ true) × AllMine r ws
