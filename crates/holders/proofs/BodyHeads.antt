-- Parts of a body behind others, of which temporaries wait meanwhile, or which declared a place.
use Rattle.std.proofs.Common.{sym, subst, ◌∙◌, arith, ℕ, inl, inr, ◌⊎◌, List, [], ◌∷◌, ◌++◌}
use Rattle.nim_types.specs.Forms.{form_of}
use Rattle.nim_program.specs.Program.{Declared}
use Rattle.nim_program.specs.Scopes as scopes
use Rattle.nim_meaning.specs.Values.{Waiting}
use Rattle.nim_meaning.specs.Marks.{Member}
use Rattle.nim_meaning.specs.State.{World, State}
use Rattle.nim_meaning.specs.Acts.{Does}
use Rattle.nim_meaning.specs.Here.{Here}
use Rattle.nim_meaning.specs.Waiting.{Wait, nodes_of}
use Rattle.nim_meaning.specs.Meaning.{scoped, place_ends}
use Rattle.holders.specs.Sure.{Comes}
use Rattle.holders.specs.Territory.{Owner, AllOwners}
use Rattle.holders.specs.Running.{Region, IsOutside, AreOwn, Wider}
use Rattle.holders.specs.Staging.{Stage}
use Rattle.holders.specs.Called.{LeftBy}
use Rattle.holders.specs.Asked.{Limits}
use Rattle.holders.specs.Evaluating.{at_nodes, IsWaiting, Leaves}
use Rattle.holders.specs.Claimed.{InBody}
use Rattle.holders.specs.BodyParts.{part_region, PartBegins, own_cell, Sights, NoneNamed, Pending, Over, PartSo}
use Rattle.holders.proofs.Working.{all_both, all_so}
use Rattle.holders.proofs.Sure.{sure_weaker}
use Rattle.holders.proofs.Coming.{comes_weaker}
use Rattle.holders.proofs.Staging.{goes_on, no_given, stage_over, stage_lets_go}
use Rattle.holders.proofs.Framing.{absorbed}
use Rattle.holders.proofs.Groups.{scope_left}
use Rattle.holders.proofs.PartsInTurn.{in_is}
use Rattle.holders.proofs.BodyParts.{part_wider, place_outside, node_outside, stage_in, begins_in, sights_stay}
use Rattle.holders.proofs.BodySights.{sights_behind}

-- cells of the part's own go on as such, behind a part that was given them
pub absorbed_then : {r inner : Region} {ks os : List Owner} {first places : ℕ} {nodes old : List ℕ} {start mid last : World} → Wider r inner → AreOwn r ks →
    (st : Stage r ks os first places nodes old start mid) →
    (e : InBody inner [] (ks ++ os) first places nodes st.runs.territory.blocks mid last) →
    Stage r ks os first places e.later old start last
absorbed_then {r} {ks = ks} {os = os} {first = first} {places = places} {old = old} {start = start} w own st e =
    let a = absorbed ks w own e.stage in
    record { runs = goes_on r os first places old start st.runs (no_given r os first places old start) a.runs; active = a.active }

-- ---- temporaries wait

-- they are the part's own, and stand outside of one that has other nodes
module _ (level : ℕ) (ps ns : List ℕ) where
  pub waits_own : (ws : List Wait) → ((n : ℕ) → Member n (nodes_of ws) → Member n ns) → (ms : List Owner) → AllOwners (λ m. IsWaiting level ws m) ms →
      AreOwn (part_region level ps ns) ms
  waits_own ws within ms cells =
      all_so (λ m. IsWaiting level ws m) (λ m. IsOutside (part_region level ps ns) m.at.base → ⊥) ms
      (λ m w out. inside w.node (within w.node w.among) (subst (λ b. IsOutside (part_region level ps ns) b) w.base out)) cells
    where
      inside : (n : ℕ) → Member n ns → IsOutside (part_region level ps ns) (Waiting level n) → ⊥
      inside n m (inl less) = omega (arith, less)
      inside n m (inr q) = q.1 (in_is n ns m)

  pub waits_outside_part : (ws : List Wait) → ((n : ℕ) → Member n (nodes_of ws) → Member n ns → ⊥) → (ms : List Owner) →
      AllOwners (λ m. IsWaiting level ws m) ms → AllOwners (λ m. IsOutside (part_region level ps ns) m.at.base) ms
  waits_outside_part ws apart ms cells =
      all_so (λ m. IsWaiting level ws m) (λ m. IsOutside (part_region level ps ns) m.at.base) ms
      (λ m w. subst (λ b. IsOutside (part_region level ps ns) b) (sym w.base) (node_outside level w.node ps ns (λ q. apart w.node w.among q))) cells

module _ (here : Here) (first places : ℕ) (scope : scopes.Here) (limits : Limits) (ps ns : List ℕ) where
  abbrev r : Region
  r = part_region here.level ps ns

  -- a head was evaluated, at its nodes
  pub record Headed (hs ips ins : List ℕ) (ws : List Wait) (os : List Owner) (nodes : List ℕ) (start mid : World) : Type 0 where
    pub before : PartBegins here.level first places ps ns os nodes start
    pub sights : Sights here scope limits os start
    pub of_head : (n : ℕ) → Member n hs → Member n ns
    pub of_places : (n : ℕ) → Member n ips → Member n ps
    pub of_nodes : (n : ℕ) → Member n ins → Member n ns
    pub apart : (n : ℕ) → Member n hs → Member n ins → ⊥
    pub inside : (n : ℕ) → Member n (nodes_of ws) → Member n hs
    pub own : List Owner
    pub later : List ℕ
    pub leaves : Leaves here.level nodes ws own later
    pub stage : Stage (at_nodes here.level hs) own os first places later before.territory.blocks start mid

  module _ {hs ips ins : List ℕ} {ws : List Wait} {os : List Owner} {nodes : List ℕ} {start mid : World} (h : Headed hs ips ins ws os nodes start mid) where
    abbrev pub inner_begins : PartBegins here.level first places ips ins (h.own ++ os) h.later mid
    inner_begins = record {
      territory = h.stage.runs.territory;
      outside = all_both (λ o. IsOutside (part_region here.level ips ins) o.at.base) h.own os
          (waits_outside_part here.level ips ins ws (λ n m q. h.apart n (h.inside n m) q) h.own h.leaves.cells)
          (begins_in ps ns ips ins h.before h.of_places h.of_nodes).outside;
      active = h.stage.active;
      distinct = h.leaves.distinct;
      free = λ n m q. free n q (h.leaves.came n m);
      deepest = h.stage.runs.passes.count ∙ h.before.deepest;
    }
      where
        free : (n : ℕ) → Member n ins → Member n nodes ⊎ Member n (nodes_of ws) → ⊥
        free n q (inl m) = h.before.free n m (h.of_nodes n q)
        free n q (inr m) = h.apart n (h.inside n m) q

    head_wider : Wider r (at_nodes here.level hs)
    head_wider = part_wider here.level ps ns [] hs (λ n m. elim m [ ]) h.of_head

    pub inner_sights : Sights here scope limits (h.own ++ os) mid
    inner_sights = sights_behind h.own (sights_stay [] hs h.stage.runs.passes (λ g n ty seen e same m. elim m [ ]) h.sights)

    pub inner_over : {last : World} → InBody (part_region here.level ips ins) [] (h.own ++ os) first places h.later h.stage.runs.territory.blocks mid last →
        Pending r [] os first places nodes ws h.before.territory.blocks start last
    inner_over e = record {
      own = h.own;
      later = h.later;
      leaves = h.leaves;
      behind = e.later;
      within = e.came;
      distinct = e.distinct;
      stage = absorbed_then (part_wider here.level ps ns ips ins h.of_places h.of_nodes)
          (waits_own here.level ps ns ws (λ n m. h.of_head n (h.inside n m)) h.own h.leaves.cells) (stage_in head_wider h.stage) e;
    }

  -- what follows is a part by itself
  pub behind_head : {A : Type 0} {hs ips ins : List ℕ} {ws : List Wait} {os : List Owner} {nodes : List ℕ} {start : World} (act : Does A) →
      PartSo here first places scope limits ips ins act → (s : State) (h : Headed hs ips ins ws os nodes start s.world) →
      Comes (λ x after. Pending r [] os first places nodes ws h.before.territory.blocks start after)
      (LeftBy (λ after. Pending r [] os first places nodes ws h.before.territory.blocks start after)) (act s)
  behind_head {ips = ips} {ins = ins} {ws = ws} {os = os} {nodes = nodes} {start = start} act so s h =
      let P : World → Type 0 = λ after. Pending r [] os first places nodes ws h.before.territory.blocks start after in
      let O : World → Type 0 = λ after. Over here first places scope limits ips ins (h.own ++ os) h.later h.stage.runs.territory.blocks s.world after in
      comes_weaker (λ x after. O after) (LeftBy O) (λ x after. P after) (LeftBy P) (act s)
      (so (h.own ++ os) h.later s (inner_begins h) (inner_sights h)) (λ x now f. inner_over h f) (λ way now f. (f.0, inner_over h f.1))

  -- ---- a place is declared

  -- what follows is in its scope
  pub scoped_so : (next : scopes.Here) (more : Limits) (ips ins : List ℕ) (place : Declared) (last : ℕ) (rest : Does (Unit {0})) →
      Member place.number ps → ((n : ℕ) → Member n ips → Member n ps) → ((n : ℕ) → Member n ins → Member n ns) → (Member place.number ips → ⊥) →
      NoneNamed here scope limits ps → PartSo here first places next more ips ins rest → {os : List Owner} {nodes : List ℕ} {start : World}
      (b : PartBegins here.level first places ps ns os nodes start) → Sights here scope limits os start → (s : State) →
      (Sights here scope limits os s.world → Sights here next more (own_cell here place ∷ os) s.world) →
      InBody r (own_cell here place ∷ []) os first places nodes b.territory.blocks start s.world →
      Comes (λ u after. InBody r [] os first places nodes b.territory.blocks start after)
      (LeftBy (λ after. InBody r [] os first places nodes b.territory.blocks start after)) (scoped here place last rest s)
  scoped_so next more ips ins place last rest mine of_places of_nodes new none so {os} {nodes} {start} b sights s extends e =
      scope_left here place last rest S T
      (λ now h. sure_weaker (place_ends (form_of here.facts place.of) here.level place.number)
      (λ u after. Stage r [] os first places h.later b.territory.blocks start after) (λ u after. T after) now
      (stage_over r os first places b.territory.blocks start place.number (in_is place.number ps mine) h.stage)
      (λ u after st. record { later = h.later; stage = st; distinct = h.distinct; came = h.came }))
      (λ bare now h. record {
        later = h.later;
        stage = stage_lets_go r os first places b.territory.blocks start bare h.stage;
        distinct = h.distinct;
        came = h.came;
      })
      s
      (comes_weaker (λ u after. O after) (LeftBy O) (λ u after. S after) (LeftBy S) (rest s) (so (cell ∷ os) e.later s c there)
      (λ u now f. closes f) (λ way now f. (f.0, closes f.1)))
    where
      cell : Owner
      cell = own_cell here place

      S : World → Type 0
      S after = InBody r (cell ∷ []) os first places nodes b.territory.blocks start after

      T : World → Type 0
      T after = InBody r [] os first places nodes b.territory.blocks start after

      c : PartBegins here.level first places ips ins (cell ∷ os) e.later s.world
      c = record {
        territory = e.stage.runs.territory;
        outside = (place_outside here.level place.number ips ins new, (begins_in ps ns ips ins b of_places of_nodes).outside);
        active = e.stage.active;
        distinct = e.distinct;
        free = λ n m q. b.free n (e.came n m) (of_nodes n q);
        deepest = e.stage.runs.passes.count ∙ b.deepest;
      }

      O : World → Type 0
      O after = Over here first places next more ips ins (cell ∷ os) e.later c.territory.blocks s.world after

      there : Sights here next more (cell ∷ os) s.world
      there = extends (sights_stay ps ns e.stage.runs.passes none sights)

      closes : {now : World} → O now → S now
      closes f = record {
        later = f.later;
        stage = absorbed_then (part_wider here.level ps ns ips ins of_places of_nodes) e.stage.runs.own e.stage f;
        distinct = f.distinct;
        came = λ n m. e.came n (f.came n m);
      }
