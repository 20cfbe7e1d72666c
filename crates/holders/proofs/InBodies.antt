-- A statement that is an expression, in a body: the expression may work on the body's own cells, and nothing of it is left.
use Rattle.std.proofs.Common.{◌≡◌, refl, ◌∙◌, ℕ, suc, inl, inr, ◌⊎◌, Bool, true, List, [], ◌∷◌, ◌++◌, length, false}
use Rattle.std.proofs.lemmas.Bool.{false≢true}
use Rattle.nim_program.specs.declared.operation.Use.TheVariants.{Owned}
use Rattle.nim_program.specs.Program.{Expr, Do, node_of, type_of}
use Rattle.nim_program.specs.Scopes as scopes
use Rattle.nim_meaning.specs.ActTree as points
use Rattle.nim_meaning.specs.Ways.{At as Spot}
use Rattle.nim_meaning.specs.Values.{Value, Base, Standing, Waiting, InBlock, InHand, InException, Made}
use Rattle.nim_meaning.specs.Marks.{Member, Distinct}
use Rattle.nim_meaning.specs.State.{World, State}
use Rattle.nim_meaning.specs.Acts.{give, with_trail}
use Rattle.nim_meaning.specs.Here.{Here, gives_hooked}
use Rattle.nim_meaning.specs.Steps.{grouped, waits_of, all_end}
use Rattle.nim_meaning.specs.Meaning.{eval, exec}
use Rattle.holders.specs.Sure.{Comes}
use Rattle.holders.specs.Territory.{Owner, AllOwners}
use Rattle.holders.specs.Running.{Region, IsOutside, AreOwn, Wider}
use Rattle.holders.specs.Staging.{Stage}
use Rattle.holders.specs.Groups.{without_waits}
use Rattle.holders.specs.Asked.{Limits}
use Rattle.holders.specs.Evaluating.{value_nodes, at_nodes, Scene}
use Rattle.holders.specs.Claimed.{NoExit, HasValue, From, ValueSo}
use Rattle.holders.proofs.Coming.{comes_then, comes_weaker}
use Rattle.holders.proofs.Staging.{goes_on, no_given}
use Rattle.holders.proofs.Framing.{absorbed}
use Rattle.holders.proofs.Groups.{ended_comes}
use Rattle.holders.proofs.GroupsOver.{group_over, leaves_over}
use Rattle.holders.proofs.PartsInTurn.{is_member, waiting_in}
use Rattle.holders.proofs.Claims.{behind_value, behind_alone}
use Rattle.holders.specs.Claimed.{InBody, body_region}

module _ (level : ℕ) (own_places own_nodes : ℕ → Bool) where
  body_wider : (ns : List ℕ) → ((n : ℕ) → Member n ns → own_nodes n ≡ true) → Wider (body_region level own_places own_nodes) (at_nodes level ns)
  body_wider ns mine = record { outside = outside; level = refl; places = λ n e. absurd (false≢true e) }
    where
      outside : (b : Base) → IsOutside (body_region level own_places own_nodes) b → IsOutside (at_nodes level ns) b
      outside (Standing l n) (inl less) = inl less
      outside (Standing l n) (inr q) = inr (q.0, λ e. false≢true e)
      outside (Waiting l node) (inl less) = inl less
      outside (Waiting l node) (inr q) = inr (q.0, λ e. q.1 (mine node (is_member node ns e)))
      outside (InBlock k) h = tt
      outside (InHand i) h = tt
      outside (InException i) h = tt
      outside (Made v) h = tt

module _ (here : Here) (scope : scopes.Here) (limits : Limits) (root : (global : Bool) → ℕ → ℕ) (own_places own_nodes : ℕ → Bool) (first places : ℕ)
    (ks gs : List Owner) (nodes old : List ℕ) (start : World) where
  abbrev r : Region
  r = body_region here.level own_places own_nodes

  pub do_comes : (value : Expr) → ValueSo here scope limits root first places (ks ++ gs) value Owned → Distinct (value_nodes value) →
      gives_hooked here.facts (type_of value) ≡ false → ((n : ℕ) → Member n (value_nodes value) → own_nodes n ≡ true) →
      ((n : ℕ) → Member n nodes → Member n (value_nodes value) → ⊥) →
      AllOwners (λ o. IsOutside (at_nodes here.level (value_nodes value)) o.at.base) (ks ++ gs) → AreOwn r ks → length start.frames ≡ suc here.level →
      (s : State) →
      InBody r ks gs first places nodes old start s.world → Scene here scope limits root (ks ++ gs) s.world →
      Comes (λ u after. InBody r ks gs first places nodes old start after) NoExit (exec (Do value) here s)
  do_comes value so d unhooked mine free outside own deepest s body scene =
      comes_then (grouped here (node_of value).number (waits_of here value Owned) (eval value Owned here)) (λ v. give tt)
      (λ v after. InBody r ks gs first places nodes old start after)
      (λ u after. InBody r ks gs first places nodes old start after) NoExit s
      (ended_comes here (waits_of here value Owned) (eval value Owned here)
      (HasValue here first places (ks ++ gs) value Owned body.later b.territory.blocks s.world) (λ v after. InBody r ks gs first places nodes old start after)
      NoExit NoExit there
      (so body.later there b scene) over (λ way flow now p. elim p [ ]))
      (λ v now p. p)
    where
      ns : List ℕ
      ns = value_nodes value

      there : State
      there = with_trail (Spot (node_of value).number points.Begins ∷ s.trail) s

      b : From here scope limits root first places (ks ++ gs) ns body.later s.world
      b = record {
        territory = body.stage.runs.territory;
        outside = outside;
        active = body.stage.active;
        distinct = body.distinct;
        free = λ n m q. free n (body.came n m) q;
        deepest = body.stage.runs.passes.count ∙ deepest;
      }

      over : (v : Value) (flow : points.Flow) (now : State) →
          HasValue here first places (ks ++ gs) value Owned body.later b.territory.blocks s.world v now.world →
          Comes (λ u after. InBody r ks gs first places nodes old start after) (λ way after. ⊥) (all_end here.level flow (waits_of here value Owned) now)
      over v flow now h =
          let behind = behind_value here value Owned d h in
          comes_weaker (λ u after. Stage (at_nodes here.level ns) [] (ks ++ gs) first places (without_waits behind.later (waits_of here value Owned))
          b.territory.blocks s.world after) (λ way after. ⊥) (λ u after. InBody r ks gs first places nodes old start after) (λ way after. ⊥)
          (all_end here.level flow (waits_of here value Owned) now)
          (group_over ns (λ way after. ⊥) flow (λ n m. waiting_in here.facts here.modes value Owned n m) behind.leaves now
          (behind_alone here value Owned d (λ how. unhooked) h))
          (λ u after st.
          let wide = absorbed ks (body_wider here.level own_places own_nodes ns mine) own st in
          let left = leaves_over behind.leaves in
          record {
            later = without_waits behind.later (waits_of here value Owned);
            stage = record {
              runs = goes_on r gs first places old start body.stage.runs (no_given r gs first places old start) wide.runs;
              active = wide.active;
            };
            distinct = left.distinct;
            came = λ n m. from n (left.came n m);
          })
          (λ way after p. p)
        where
          from : (n : ℕ) → Member n body.later ⊎ Member n [] → Member n nodes
          from n (inl m) = body.came n m
          from n (inr m) = elim m [ ]
