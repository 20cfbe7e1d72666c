-- What waited in a part ends with it.
use Rattle.std.proofs.Common.{refl, subst, ℕ, inl, inr, ◌⊎◌, List, [], ◌∷◌}
use Rattle.nim_meaning.specs.ActTree as points
use Rattle.nim_meaning.specs.Marks.{Member, Distinct}
use Rattle.nim_meaning.specs.State.{World, State}
use Rattle.nim_meaning.specs.Acts.{Exit}
use Rattle.nim_meaning.specs.Waiting.{Wait, nodes_of}
use Rattle.nim_meaning.specs.Steps.{all_end}
use Rattle.holders.specs.Sure.{Comes}
use Rattle.holders.specs.Territory.{Owner}
use Rattle.holders.specs.Staging.{Stage}
use Rattle.holders.specs.Groups.{without_node, without_waits, Ends, no_waits, none_waits, AllMine}
use Rattle.holders.proofs.Groups.{group_ends}
use Rattle.holders.specs.Evaluating.{at_nodes, Leaves}
use Rattle.holders.proofs.PartsInTurn.{in_is, without_node_in, without_node_distinct, without_node_gone}

pub all_mine : (level : ℕ) (ns : List ℕ) (ws : List Wait) → ((n : ℕ) → Member n (nodes_of ws) → Member n ns) → AllMine (at_nodes level ns) ws
all_mine level ns [] within = tt
all_mine level ns (w ∷ ws) within = (in_is w.node ns (within w.node (inl refl)), all_mine level ns ws (λ n m. within n (inr m)))

pub without_waits_in : (nodes : List ℕ) (ws : List Wait) (n : ℕ) → Member n (without_waits nodes ws) → Member n nodes
without_waits_in nodes [] n m = m
without_waits_in nodes (w ∷ ws) n m = without_waits_in nodes ws n (without_node_in (without_waits nodes ws) w.node n m)

pub without_waits_distinct : (nodes : List ℕ) (ws : List Wait) → Distinct nodes → Distinct (without_waits nodes ws)
without_waits_distinct nodes [] d = d
without_waits_distinct nodes (w ∷ ws) d = without_node_distinct (without_waits nodes ws) w.node (without_waits_distinct nodes ws d)

-- none of theirs is left
pub without_waits_gone : (nodes : List ℕ) (ws : List Wait) → Distinct nodes → (n : ℕ) → Member n (without_waits nodes ws) → Member n (nodes_of ws) → ⊥
without_waits_gone nodes [] d n m q = elim q [ ]
without_waits_gone nodes (w ∷ ws) d n m (inl e) =
    without_node_gone (without_waits nodes ws) w.node (without_waits_distinct nodes ws d)
    (subst (λ k. Member k (without_node (without_waits nodes ws) w.node)) e m)
without_waits_gone nodes (w ∷ ws) d n m (inr q) =
    without_waits_gone nodes ws d n (without_node_in (without_waits nodes ws) w.node n m) q

-- then nothing of the part waits
pub leaves_over : {level : ℕ} {nodes later : List ℕ} {ws : List Wait} {ms : List Owner} → Leaves level nodes ws ms later →
    Leaves level nodes [] [] (without_waits later ws)
leaves_over {nodes = nodes} {later = later} {ws = ws} a = record {
  cells = tt;
  ends = no_waits;
  distinct = without_waits_distinct later ws a.distinct;
  came = λ n m. from n m (a.came n (without_waits_in later ws n m));
}
  where
    from : (n : ℕ) → Member n (without_waits later ws) → Member n nodes ⊎ Member n (nodes_of ws) → Member n nodes ⊎ Member n []
    from n m (inl q) = inl q
    from n m (inr q) = absurd (without_waits_gone later ws a.distinct n m q)

pub group_over : {level first places : ℕ} {os : List Owner} {nodes later old : List ℕ} {start : World} (ns : List ℕ) {ws : List Wait} {ms : List Owner}
    (X : Exit → World → Type 0) (flow : points.Flow) → ((n : ℕ) → Member n (nodes_of ws) → Member n ns) → Leaves level nodes ws ms later → (s : State) →
    Stage (at_nodes level ns) ms os first places later old start s.world →
    Comes (λ u after. Stage (at_nodes level ns) [] os first places (without_waits later ws) old start after) X (all_end level flow ws s)
group_over {level} {first} {places} {os} {old = old} {start = start} ns {ws} X flow within a s h =
    group_ends (at_nodes level ns) os first places old start X flow (all_mine level ns ws within) a.ends s h

-- ---- what didn't come to wait

pub ends_none : {level : ℕ} {later : List ℕ} (ws : List Wait) {ms : List Owner} → ((n : ℕ) → Member n later → Member n (nodes_of ws) → ⊥) →
    Ends level later ws ms ms
ends_none [] h = no_waits
ends_none (w ∷ ws) h = none_waits (ends_none ws (λ n m q. h n m (inr q))) (λ n m e. h n m (inl e))
